-- SPDX-License-Identifier: MIT OR Apache-2.0
-- The laws of the downlink, from the effect of every row.
use Rattle.conn_rules.proofs.Prelude.{Option, Some, None, Channel, Sapi, Zero, Three, Input, State, Connection, IsValid, OfRow}
use Rattle.conn_rules.proofs.Prelude.{KeepsDownlink, IsSilent, IsHandedTo}
use Rattle.conn_rules.specs.Steps.{Row}
use Rattle.conn_rules.specs.Table.{row_of}
use Rattle.conn_rules.proofs.DownlinkMessages.{AllByRecursion-so, IsParting, handed-parting, handed-quiet, parting_is_handed}
use Rattle.conn_rules.proofs.DownlinkSteps.{Does, keeps_downlink_quiet}
use Rattle.conn_rules.proofs.DownlinkSteps.Does.{ends, passes, moves}
use Rattle.conn_rules.proofs.DownlinkTable.{Does-row}

-- what every row has
pub of_row_so : (P Q : Row → Type 0) → ((r : Row) → P r → Q r) → (o : Option Row) → OfRow P o → OfRow Q o
of_row_so P Q so None holds = tt
of_row_so P Q so (Some r) holds = so r holds

keeps_downlink_does : (sapi : Sapi) (state : State) (s : Connection) (input : Input) (r : Row) →
    IsValid s →
    Does state s input r →
    KeepsDownlink sapi s input r
keeps_downlink_does sapi state s input r valid (ends shut parting releases) = record {
  stream = λ is_open. absurd (shut is_open);
  serving = AllByRecursion-so IsParting (IsHandedTo r.next.serving) (parting_is_handed r.next.serving) r.outs parting;
}
keeps_downlink_does sapi state s input r valid (passes was_open is_open quiet same nothing) = keeps_downlink_quiet sapi s input r quiet same nothing
keeps_downlink_does sapi state s input r valid (moves was_open is_open keeps silent) = keeps valid sapi

pub KeepsDownlink-row : (sapi : Sapi) (s : Connection) (input : Input) (offer : Option Channel) →
    IsValid s →
    OfRow (KeepsDownlink sapi s input) (row_of s input offer)
KeepsDownlink-row sapi s input offer valid =
    of_row_so (Does s.state s input) (KeepsDownlink sapi s input) (λ r. keeps_downlink_does sapi s.state s input r valid) (row_of s input offer) (Does-row s input offer)

is_silent_does : (state : State) (s : Connection) (input : Input) (r : Row) → Does state s input r → IsSilent r
is_silent_does state s input r (ends shut parting releases) = λ _. (handed-parting Zero r.outs parting, handed-parting Three r.outs parting)
is_silent_does state s input r (passes was_open is_open quiet same nothing) = λ _. (handed-quiet Zero r.outs quiet, handed-quiet Three r.outs quiet)
is_silent_does state s input r (moves was_open is_open keeps silent) = silent

pub IsSilent-row : (s : Connection) (input : Input) (offer : Option Channel) → OfRow IsSilent (row_of s input offer)
IsSilent-row s input offer = of_row_so (Does s.state s input) IsSilent (is_silent_does s.state s input) (row_of s input offer) (Does-row s input offer)
