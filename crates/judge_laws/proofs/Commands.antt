-- SPDX-License-Identifier: MIT OR Apache-2.0
-- Lemmas: what the controller's own messages to a station say, COMMANDs and activations.
use Rattle.std.proofs.Common.{◌≡◌, ◌≢◌, ℕ, Bool, true, false, Option, Some, None, refl, nat_le}
use Rattle.std.specs.Prelude.{if◌then◌else◌, ◌+◌, ◌*◌, ◌/◌, ◌%◌}
use Rattle.conn_messages.specs.declared.channel.Change.{Change}
use Rattle.conn_messages.specs.declared.channel.Change.TheVariants.{Assignment, Handover}
use Rattle.conn_messages.specs.declared.channel.Channel.{Channel}
use Rattle.conn_messages.specs.declared.parameters.TheConstants.{FULL_RATE_MODE, HALF_RATE_MODE, SDCCH_MODE, SWITCH_LINK}
use Rattle.conn_messages.specs.StationMessage.{activation, command as rr_command, mode_of}
use Rattle.dtap_codec.specs.declared.rr.CellDescription.{CellDescription}
use Rattle.dtap_codec.specs.RrReading.{assignment_command_at, cell_of, handover_command_at, rr_reading, three_at, typed_at}
use Rattle.dtap_codec.specs.RrType.{rr_type}
use Rattle.dtap_codec.specs.RrText.{rr_text}
use Rattle.rsl_codec.specs.declared.channel_number.TheConstants.{FIRST_SDCCH, FIRST_TCH_H}
use Rattle.rsl_codec.specs.declared.link_identifier.TheConstants.{MAIN_LINK_SAPI_0}
use Rattle.rsl_codec.specs.declared.rsl.Rsl.TheVariants as rsl
use Rattle.rsl_codec.specs.declared.values.HandoverReference.{HandoverReference}
use Rattle.run_judge.specs.declared.said.Said.{Said}
use Rattle.run_judge.specs.declared.said.Said.TheVariants as says
use Rattle.run_judge.specs.Reading.{activation_elements}
use Rattle.octets.specs.Front.{octet_at}
use Rattle.octets.specs.Walk.{walk}
use Rattle.rsl_codec.specs.RslText.{rsl_element_text}
use Rattle.judge_laws.specs.Places.{at_of}
use Rattle.judge_laws.specs.Saying.{IsOnLink, ShowsReference, said_to}
use Rattle.rsl_codec.specs.declared.values.ActivationType.{ActivationType}

-- ---- a COMMAND

-- a cell as it is read in the two octets in which it was written
abbrev pub read_cell : CellDescription → CellDescription
read_cell c = cell_of (c.arfcn / 256 * 64 + c.ncc * 8 + c.bcc) (c.arfcn % 256)

abbrev pub said_command : Channel → Change → Channel → Said
said_command serving Assignment target = says.Assigns (at_of serving) target.number
said_command serving Handover target = says.HandsOver (at_of serving) (read_cell target.description) target.number target.reference.0

-- whatever the numbers of its cell are: a judge reads the number of the channel, and the handover
-- reference
pub command_says : (serving : Channel) (change : Change) (target : Channel) →
    said_to serving.station (rsl.DataRequest (record { channel = serving.number; link = MAIN_LINK_SAPI_0; l3 = rr_text (rr_command change target) })) ≡ said_command serving change target
unfolding rr_reading typed_at assignment_command_at handover_command_at three_at octet_at rr_type
command_says serving Assignment target = refl
command_says serving Handover target = refl

-- ---- CHANNEL ACTIVATION

pub activation_shows : (number kind : ℕ) (mark : Option HandoverReference) →
    ShowsReference (rsl.ChannelActivation (record { channel = number; activation = record { 0 = kind }; mode = record { 0 = mode_of number }; reference = mark }))
unfolding activation_elements walk rsl_element_text
activation_shows number kind mark = by (nat_le FIRST_SDCCH number) (nat_le FIRST_TCH_H number) mark
  where
    by : (a b : Bool) (mark : Option HandoverReference) →
        ShowsReference (rsl.ChannelActivation (record { channel = number; activation = record { 0 = kind }; mode = record { 0 = if a then SDCCH_MODE else (if b then HALF_RATE_MODE else FULL_RATE_MODE) }; reference = mark }))
    by true b None = refl
    by true b (Some reference) = refl
    by false true None = refl
    by false true (Some reference) = refl
    by false false None = refl
    by false false (Some reference) = refl

pub activations_show : (c : Channel) (kind : ActivationType) (mark : Option HandoverReference) →
    c.station ≢ SWITCH_LINK →
    IsOnLink (activation c kind mark)
activations_show c kind mark there = (there, activation_shows c.number kind.0 mark)
