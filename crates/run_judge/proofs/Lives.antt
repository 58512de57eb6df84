-- SPDX-License-Identifier: MIT OR Apache-2.0
-- Small lives of connections, frame by frame, for the rows. The controller's references are 7 and
-- 9, the switch's 90 and 91; frames are numbered from 1. MM and CC messages have N(SD) in bits 8
-- and 7 of octet 2.
use Rattle.std.proofs.Common.{ℕ, ◌+◌, false, List, [], ◌∷◌, ◌++◌, Option, Some, None, option_map}
use Rattle.octets.proofs.Hex.{hex}
use Rattle.conn_messages.specs.declared.channel.Change.TheVariants.{Handover}
use Rattle.dtap_codec.specs.declared.rr.CellDescription.{CellDescription}
use Rattle.dtap_codec.specs.declared.sapi.Sapi.TheVariants.{Zero}
use Rattle.run_judge.specs.declared.connection.Counts.{Counts}
use Rattle.run_judge.specs.declared.connection.Unjudged.{Unjudged}
use Rattle.run_judge.specs.declared.flow.Due.{Due}
use Rattle.run_judge.specs.declared.flow.Order.{Order}
use Rattle.run_judge.specs.declared.said.Said.{Said}
use Rattle.run_judge.specs.declared.said.Said.TheVariants as says
use Rattle.run_judge.specs.declared.said.StationChannel.{StationChannel}
use Rattle.run_judge.specs.Judging.{Judging, Numbered, after_all, new_judging}

abbrev pub at : ℕ → ℕ → StationChannel
at station number = record { station = station; number = number }

-- channels of station 1 and of station 2
abbrev pub first : StationChannel
first = at 1 8

abbrev pub second : StationChannel
second = at 2 16

-- the cell that a HANDOVER COMMAND describes
abbrev pub target : CellDescription
target = record { arfcn = 20; ncc = 2; bcc = 3 }

abbrev pub numbered_from : ℕ → List Said → List Numbered
numbered_from frame [] = []
numbered_from frame (said ∷ rest) = record { frame = frame; said = said } ∷ numbered_from (frame + 1) rest

abbrev pub life : List Said → Judging
life frames = after_all (new_judging 4 []) (numbered_from 1 frames)

abbrev pub up_of : ℕ → Judging → Option Order
up_of reference j = option_map (λ c. c.up.zero.order) (j.connections reference)

abbrev pub down_of : ℕ → Judging → Option Order
down_of reference j = option_map (λ c. c.down.zero.order) (j.connections reference)

abbrev pub counts_of : ℕ → Judging → Option Counts
counts_of reference j = option_map (λ c. c.counts) (j.connections reference)

abbrev pub unjudged_of : ℕ → Judging → Option (Option Unjudged)
unjudged_of reference j = option_map (λ c. c.unjudged) (j.connections reference)

abbrev pub due : ℕ → List ℕ → ℕ → Due
due rank message frame = record { rank = rank; message = message; frame = frame; is_optional = false }

-- CM SERVICE REQUEST, and messages of call control with the numbers 1, 2 and 3
abbrev pub initial : List ℕ
initial = hex "05 24 01"

abbrev pub one : List ℕ
one = hex "03 45"

abbrev pub two : List ℕ
two = hex "03 81"

abbrev pub three : List ℕ
three = hex "03 c5"

-- a message of the switch
abbrev pub down : List ℕ
down = hex "83 02"

-- frames 1 to 4: a mobile's initial message on a channel, CR and CC
abbrev pub begins : StationChannel → List ℕ → ℕ → ℕ → List Said
begins channel message reference source =
    says.Activates channel None ∷ says.Establishes channel message ∷ says.Requests reference message ∷ says.Confirms reference source ∷ []

-- frames 5 to 8: a message, and a HANDOVER COMMAND to the second channel
abbrev pub commanded : List Said
commanded =
    begins first initial 7 90
    ++ says.Brings first Zero one ∷ says.Passes 90 Zero one ∷ says.Activates second (Some 5) ∷ says.HandsOver first target 16 5 ∷ []

-- frames 9 to 11: the mobile is on the second channel; its third message comes late on the first one
abbrev pub moved : List Said
moved = commanded ++ says.Completes second Handover ∷ says.Brings second Zero three ∷ says.Brings first Zero two ∷ []
