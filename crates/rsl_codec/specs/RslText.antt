-- SPDX-License-Identifier: MIT OR Apache-2.0
-- The octets that are written for a message, and why a message can't be written.
use Rattle.std.specs.Prelude.{ℕ, Bool, false, ◌||◌, ◌==◌, nat_lt, List, [], ◌∷◌}
use Rattle.std.specs.Prelude.{◌++◌, length}
use Rattle.std.specs.Prelude.{Option, Some, None, option_map, if◌then◌else◌}
use Rattle.octets.specs.Field.{Field, field_text}
use Rattle.rsl_codec.specs.declared.fault.RslFault.{RslFault}
use Rattle.rsl_codec.specs.declared.fault.RslFault.TheVariants.{Short, TooLong}
use Rattle.octets.specs.declared.limits.TheConstants.{MESSAGE_LIMIT, LENGTH_LIMIT}
use Rattle.rsl_codec.specs.declared.identifiers.TheConstants.{ELEMENTS}
use Rattle.rsl_codec.specs.declared.rsl.Rsl.{Rsl}
use Rattle.rsl_codec.specs.declared.rsl.Rsl.TheVariants.{ErrorIndication, ImmediateAssignCommand}
use Rattle.rsl_codec.specs.declared.rsl.Rsl.TheVariants.{ChannelActivation, ChannelActivationNack}
use Rattle.rsl_codec.specs.declared.rsl.Rsl.TheVariants.{ConnectionFailure, MeasurementResult}
use Rattle.rsl_codec.specs.Rsl.{fields, l3_of}
use Rattle.rsl_codec.specs.RslType.{rsl_discriminator, rsl_octet, type_of}

-- the octets of an element, in the format that the table gives its identifier
unfoldable pub rsl_element_text : ℕ → List ℕ → List ℕ
rsl_element_text id value = field_text ELEMENTS id (Some value)

abbrev pub rsl_field_text : ℕ → Option (List ℕ) → List ℕ
rsl_field_text id None = []
rsl_field_text id (Some value) = rsl_element_text id value

-- the octets of the elements that are present, one after the other
abbrev pub rsl_fields_text : List Field → List ℕ
rsl_fields_text [] = []
rsl_fields_text (f ∷ fs) = rsl_field_text f.id f.value ++ rsl_fields_text fs

-- the written octets: the discriminator and the message type octet, then the elements that are
-- present, in written order
abbrev pub rsl_text : Rsl → List ℕ
rsl_text v = rsl_discriminator (type_of v) ∷ rsl_octet (type_of v) ∷ rsl_fields_text (fields v)

-- ---- refused

-- the value whose length is written in one octet, if the message has one; no message has two such
-- values
abbrev pub value_of : Rsl → Option (List ℕ)
value_of (ErrorIndication m) = option_map (λ c. c.0) m.cause
value_of (ImmediateAssignCommand m) = Some m.information
value_of (ChannelActivation m) = Some m.mode.0
value_of (ChannelActivationNack m) = option_map (λ c. c.0) m.cause
value_of (ConnectionFailure m) = option_map (λ c. c.0) m.cause
value_of (MeasurementResult m) = option_map (λ u. u.0) m.uplink
value_of _ = None

abbrev pub is_empty : Option (List ℕ) → Bool
is_empty None = false
is_empty (Some l3) = length l3 == 0

abbrev pub is_over : ℕ → Option (List ℕ) → Bool
is_over most None = false
is_over most (Some value) = nat_lt most (length value)

-- why the message can't be written: Short if its L3 information is empty, else TooLong if a value
-- is too long; None if the message can be written
unfoldable pub rsl_write_fault : Rsl → Option RslFault
rsl_write_fault v =
    if is_empty (l3_of v) then Some Short
    else if (is_over MESSAGE_LIMIT (l3_of v) || is_over LENGTH_LIMIT (value_of v)) then Some TooLong
    else None
