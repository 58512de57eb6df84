-- SPDX-License-Identifier: MIT OR Apache-2.0
-- The parts of a frame's line, as a single reading of the frame finds them.
use Rattle.std.specs.Prelude.{◌≡◌, ℕ, List, [], ◌++◌, codes, Option, Some, Result, Ok}
use Rattle.std.specs.Prelude.{option_map}
use Rattle.bssmap_codec.specs.declared.bssap.Bssap.{Bssap}
use Rattle.bssmap_codec.specs.declared.fault.InterfaceFault.{InterfaceFault}
use Rattle.bssmap_codec.specs.declared.sccp.Sccp.{Sccp}
use Rattle.ipa_framing.specs.declared.frame.Frame.{Frame}
use Rattle.program_base.specs.Names.{name_of, rsl_name_by, sccp_name_by}
use Rattle.rsl_codec.specs.declared.fault.RslFault.{RslFault}
use Rattle.rsl_codec.specs.declared.rsl.Rsl.{Rsl}
use Rattle.frame_words.specs.Carried.{bssap_name_by, carried_by, rsl_carries_by, sccp_carries_by}
use Rattle.frame_words.specs.Fields.{channel_by, channel_field, fields_text, reference_field}
use Rattle.frame_words.specs.Fields.{references_by}
use Rattle.frame_words.specs.Numbered.{bssap_number, number_in_frame, rsl_number, sccp_number}
use Rattle.frame_words.specs.declared.said.Fields.{Fields}
use Rattle.frame_words.specs.declared.said.Fields.TheVariants.{Nothing, Channel, References}
use Rattle.frame_words.specs.declared.said.Inside.{Inside}
use Rattle.frame_words.specs.declared.said.Said.{Said}

abbrev pub found_fields : Fields → List ℕ
found_fields Nothing = []
found_fields (Channel channel) = channel_field (Some channel)
found_fields (References destination source) =
    reference_field (codes " to ") destination ++ reference_field (codes " from ") source

-- `said` holds the name `name`, the name `carried` of the message inside, fields with the text
-- `fields`, and the number `number`
abbrev pub Says : Said → List ℕ → Option (List ℕ) → List ℕ → Option ℕ → Type 0
Says said name carried fields number =
    (said.name.now ≡ name) × (option_map (λ text. text.now) said.carried ≡ carried)
    × (found_fields said.fields ≡ fields) × (said.number ≡ number)

-- `said` holds the parts of the message that was read, or of the frame; flow messages have `m`
-- sequence numbers
abbrev pub SaysRsl : ℕ → Said → Result Rsl RslFault → Type 0
SaysRsl m said reading =
    Says said (rsl_name_by reading) (rsl_carries_by reading) (channel_field (channel_by reading))
    (rsl_number m reading)

abbrev pub SaysSccp : ℕ → Said → Result Sccp InterfaceFault → Type 0
SaysSccp m said reading =
    Says said (sccp_name_by reading) (sccp_carries_by reading) (references_by reading)
    (sccp_number m reading)

abbrev pub SaysFrame : ℕ → Said → Frame → Type 0
SaysFrame m said frame =
    Says said (name_of frame) (carried_by frame) (fields_text frame) (number_in_frame m frame)

-- `inside` holds the name and the number of the BSSAP message inside a DT1
abbrev pub SaysBssap : ℕ → Inside → Result Bssap InterfaceFault → Type 0
SaysBssap m inside reading =
    (option_map (λ text. text.now) inside.name ≡ Some (bssap_name_by reading))
    × (inside.number ≡ bssap_number m reading)

abbrev pub SaysInside : ℕ → Inside → Sccp → Type 0
SaysInside m inside message =
    (option_map (λ text. text.now) inside.name ≡ sccp_carries_by (Ok message))
    × (inside.number ≡ sccp_number m (Ok message))
