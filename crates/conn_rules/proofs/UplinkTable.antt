-- SPDX-License-Identifier: MIT OR Apache-2.0
-- The whole table: the messages that a row relays, then those still to be relayed, are those that
-- were still to be relayed.
use Rattle.conn_rules.proofs.Prelude.{◌≡◌, Option, refl, sym, subst, Channel, Sapi, Zero, Three, Input, Connection, IsValid, AreApart}
use Rattle.conn_rules.proofs.Prelude.{Future, KeepsUplink, OfRow, from_input, still_to_relay, used_channels}
use Rattle.conn_rules.specs.declared.input.Input.TheVariants as inputs
use Rattle.conn_rules.specs.Steps.{Row}
use Rattle.conn_rules.specs.Streams.{Ends}
use Rattle.conn_rules.specs.Table.{row_of}
use Rattle.conn_rules.proofs.UplinkMessages.{establish_indication, dtap}
use Rattle.conn_rules.proofs.UplinkRows.{Passes, PassesOn, activation_ack, activation_nack, establish_confirm, release_indication, error_indication, connection_failure, completed, failed, release_ack, move, confirmed, refused, released, downlink, assignment_request, cipher_mode_command, clear_command, expired, drain_expired, station_down, switch_down}

-- inputs that bring none of the mobile's messages
abbrev BringsNone : Input → Type 0
BringsNone (inputs.EstablishIndication at of message) = ⊥
BringsNone (inputs.Dtap at of message) = ⊥
BringsNone _ = Unit {0}

from_other : (sapi : Sapi) (future : Future) (input : Input) → BringsNone input → from_input sapi input future ≡ future
from_other Zero future (inputs.EstablishIndication at of message) none = absurd none
from_other Three future (inputs.EstablishIndication at of message) none = absurd none
from_other Zero future (inputs.Dtap at of message) none = absurd none
from_other Three future (inputs.Dtap at of message) none = absurd none
from_other _ future _ none = refl

apart_from : (sapi : Sapi) (future : Future) (s : Connection) (input : Input) (o : Option Row) →
    BringsNone input →
    PassesOn sapi future s o →
    OfRow (KeepsUplink sapi future s input) o
apart_from sapi future s input o none passes =
    subst (λ (f : Future). OfRow (Passes sapi future (still_to_relay sapi f s)) o) (sym (from_other sapi future input none)) passes

pub row_keeps : (s : Connection) (input : Input) (offer : Option Channel) (sapi : Sapi) (future : Future) →
    IsValid s →
    AreApart (used_channels s) →
    Ends future s.state input →
    OfRow (KeepsUplink sapi future s input) (row_of s input offer)
unfolding row_of
row_keeps s (inputs.ActivationAck at) offer sapi future valid apart ends = apart_from sapi future s (inputs.ActivationAck at) _ tt (activation_ack sapi future s.state s at ends)
row_keeps s (inputs.ActivationNack at) offer sapi future valid apart ends = apart_from sapi future s (inputs.ActivationNack at) _ tt (activation_nack sapi future s.state s at offer)
row_keeps s (inputs.EstablishIndication at of message) offer sapi future valid apart ends = establish_indication sapi future s.state s at of message valid.state
row_keeps s (inputs.EstablishConfirm at of) offer sapi future valid apart ends = apart_from sapi future s (inputs.EstablishConfirm at of) _ tt (establish_confirm sapi future s.state s at of)
row_keeps s (inputs.ReleaseIndication at of) offer sapi future valid apart ends = apart_from sapi future s (inputs.ReleaseIndication at of) _ tt (release_indication sapi future s.state s at of)
row_keeps s (inputs.ErrorIndication at of) offer sapi future valid apart ends = apart_from sapi future s (inputs.ErrorIndication at of) _ tt (error_indication sapi future s.state s at of)
row_keeps s (inputs.ConnectionFailure at) offer sapi future valid apart ends = apart_from sapi future s (inputs.ConnectionFailure at) _ tt (connection_failure sapi future s.state s at)
row_keeps s (inputs.Dtap at of message) offer sapi future valid apart ends = dtap sapi future s.state s at of message valid.state apart
row_keeps s (inputs.Complete at change cause) offer sapi future valid apart ends = apart_from sapi future s (inputs.Complete at change cause) _ tt (completed sapi future s.state s at change cause.0 offer valid.state)
row_keeps s (inputs.Failure at change cause) offer sapi future valid apart ends = apart_from sapi future s (inputs.Failure at change cause) _ tt (failed sapi future s.state s at change cause.0 offer ends)
row_keeps s (inputs.ReleaseAck at) offer sapi future valid apart ends = apart_from sapi future s (inputs.ReleaseAck at) _ tt (release_ack sapi future s.state s at offer ends valid.state)
row_keeps s inputs.Move offer sapi future valid apart ends = apart_from sapi future s inputs.Move _ tt (move sapi future s.state s offer)
row_keeps s (inputs.ConnectionConfirm source) offer sapi future valid apart ends = apart_from sapi future s (inputs.ConnectionConfirm source) _ tt (confirmed sapi future s.state s source)
row_keeps s inputs.ConnectionRefused offer sapi future valid apart ends = apart_from sapi future s inputs.ConnectionRefused _ tt (refused sapi future s.state s)
row_keeps s (inputs.Released source) offer sapi future valid apart ends = apart_from sapi future s (inputs.Released source) _ tt (released sapi future s.state s source)
row_keeps s (inputs.Downlink of message) offer sapi future valid apart ends = apart_from sapi future s (inputs.Downlink of message) _ tt (downlink sapi future s.state s of message)
row_keeps s (inputs.AssignmentRequest is_speech) offer sapi future valid apart ends = apart_from sapi future s (inputs.AssignmentRequest is_speech) _ tt (assignment_request sapi future s.state s is_speech offer)
row_keeps s inputs.CipherModeCommand offer sapi future valid apart ends = apart_from sapi future s inputs.CipherModeCommand _ tt (cipher_mode_command sapi future s.state s)
row_keeps s inputs.ClearCommand offer sapi future valid apart ends = apart_from sapi future s inputs.ClearCommand _ tt (clear_command sapi future s.state s)
row_keeps s inputs.Expiry offer sapi future valid apart ends = apart_from sapi future s inputs.Expiry _ tt (expired sapi future s.state s)
row_keeps s inputs.DrainExpiry offer sapi future valid apart ends = apart_from sapi future s inputs.DrainExpiry _ tt (drain_expired sapi future s.state s)
row_keeps s (inputs.StationDown station) offer sapi future valid apart ends = apart_from sapi future s (inputs.StationDown station) _ tt (station_down sapi future s.state s station)
row_keeps s inputs.SwitchDown offer sapi future valid apart ends = apart_from sapi future s inputs.SwitchDown _ tt (switch_down sapi future s.state s)
