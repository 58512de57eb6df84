-- SPDX-License-Identifier: MIT OR Apache-2.0
-- The switch's messages for a connection: the messages that arrived, that were rejected, and that
-- were handed.
use Rattle.std.specs.Prelude.{◌≡◌, ◌⊎◌, ℕ, ◌==◌, ◌&&◌, ◌||◌, Bool, true}
use Rattle.std.specs.Prelude.{false, if◌then◌else◌, List}
use Rattle.std.specs.Prelude.{[], ◌∷◌, ◌++◌, filter, fold, Option, Some, None}
use Rattle.std.specs.List.{AllByRecursion}
use Rattle.controller_model.specs.Prelude.{Message, outs_of, Input, Connection, IsOpen, handed}
use Rattle.controller_model.specs.Prelude.{is_dtap, AreAllowed, Parameters, Sapi, Zero}
use Rattle.controller_model.specs.Prelude.{Three}
use Rattle.conn_messages.specs.declared.message.Message.TheVariants.{Request}
use Rattle.conn_rules.specs.declared.input.Input.TheVariants as inputs
use Rattle.conn_rules.specs.Streams.{received_by, rejects}
use Rattle.controller_model.specs.declared.word.Word.{Word}
use Rattle.controller_model.specs.declared.word.Word.TheVariants.{OnConnection}
use Rattle.controller_model.specs.LifeLaws.History.{IsHistory, Moment, all_messages, connection_of}
use Rattle.controller_model.specs.LifeLaws.History.{outs_for, word_in}
use Rattle.controller_model.specs.declared.step.Step.{Step}
use Rattle.controller_model.specs.Controller.{Turn, new_controller}
use Rattle.controller_model.specs.Views.{handed as handed_in}
use Rattle.controller_model.specs.LifeLaws.Sending.{IsOctetStep}
use Rattle.hold_queue.specs.HoldState.{messages}

-- ---- how far the switch knows the connection

-- the message is CR
abbrev pub is_request : Message → Bool
is_request (Request message) = true
is_request _ = false

abbrev pub requests : List Message → Bool
requests [] = false
requests (m ∷ ms) = is_request m || requests ms

-- the input is CC
abbrev pub is_confirm : Input → Bool
is_confirm (inputs.ConnectionConfirm source) = true
is_confirm _ = false

abbrev pub confirms : ℕ → Word → Bool
confirms number (OnConnection destination input) = (destination == number) && is_confirm input
confirms number _ = false

-- ---- what arrived

-- the messages of this SAPI that a word brings to this connection, without messages of radio
-- resource management
abbrev pub dtap_received : ℕ → Sapi → Word → List (List ℕ)
dtap_received number sapi (OnConnection destination input) =
    if destination == number then filter is_dtap (received_by sapi input) else []
dtap_received number sapi _ = []

-- The switch's messages of a SAPI so far, without messages of radio resource management.
pub record Switched : Type 0 where
  -- CR was put
  pub requested : Bool
  -- CC arrived after CR was put
  pub confirmed : Bool
  -- the messages that arrived after CC
  pub arrived : List (List ℕ)
  -- the messages that arrived after CC and weren't rejected
  pub received : List (List ℕ)
  pub handed : List (List ℕ)

abbrev pub nothing_switched : Switched
nothing_switched =
    record { requested = false; confirmed = false; arrived = []; received = []; handed = [] }

-- the messages that arrive in a step, if CC arrived before that step; else none
abbrev pub counted : ℕ → Sapi → Switched → Moment → List (List ℕ)
counted number sapi a m = if a.confirmed then dtap_received number sapi (word_in m.taken) else []

-- The messages that aren't rejected after a step. A SAPI N REJECT rejects each message of SAPI 3
-- that arrived and wasn't handed before that step.
abbrev pub left_over : Sapi → List Message → List (List ℕ) → List (List ℕ) → List (List ℕ)
left_over Zero put handed received = received
left_over Three put handed received = if rejects put then handed else received

abbrev pub with_moment : ℕ → Sapi → Switched → Moment → Switched
with_moment number sapi a m = record {
  requested = a.requested || requests m.messages;
  confirmed = a.confirmed || (a.requested && confirms number (word_in m.taken));
  arrived = a.arrived ++ counted number sapi a m;
  received = left_over sapi m.messages a.handed (a.received ++ counted number sapi a m);
  handed = a.handed ++ handed sapi m.messages;
}

-- the switch's messages of a SAPI over a history
abbrev pub switched : ℕ → Sapi → List Moment → Switched
switched number sapi moments = fold (with_moment number sapi) nothing_switched moments

-- While the connection is open, the messages handed, followed by the messages held, are the
-- messages that arrived and weren't rejected.
abbrev pub ConservesDownlink : Switched → Sapi → Option Connection → Type 0
ConservesDownlink a sapi None = Unit {0}
ConservesDownlink a sapi (Some s) =
    IsOpen s.state → a.handed ++ filter is_dtap (messages s.down sapi) ≡ a.received

-- The first list is a subsequence of the second.
abbrev pub IsPart : List (List ℕ) → List (List ℕ) → Type 0
IsPart [] ys = Unit {0}
IsPart (x ∷ xs) [] = ⊥
IsPart (x ∷ xs) (y ∷ ys) = ((x ≡ y) × IsPart xs ys) ⊎ IsPart (x ∷ xs) ys

-- There are messages, step by step, whose frames are the frames put for the connection. Per SAPI,
-- while the connection is open, the messages handed, followed by the messages held, are the
-- messages that arrived and weren't rejected. Whether or not the connection is open, the messages
-- handed are a subsequence of the messages that arrived. The messages handed are those read from
-- the frames to stations, if settings are allowed and frames that arrived carry octets.
pub record DownlinkIsConserved (number : ℕ) (p : Parameters) (steps : List Step)
    (life : Turn) : Type 0 where
  pub moments : List Moment
  pub history : IsHistory number (new_controller p) steps moments
  pub frames : outs_for number life.outs ≡ outs_of number (all_messages moments)
  pub downlink : (sapi : Sapi) → ConservesDownlink (switched number sapi moments) sapi
      (connection_of life.next number)
  pub in_order : (sapi : Sapi) → IsPart (switched number sapi moments).handed
      (switched number sapi moments).arrived
  pub read : AreAllowed p → AllByRecursion IsOctetStep steps → (sapi : Sapi)
      → handed_in life.outs number sapi ≡ (switched number sapi moments).handed
