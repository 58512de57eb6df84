-- SPDX-License-Identifier: MIT OR Apache-2.0
-- The mobile's messages of a connection, tenure by tenure.
use Rattle.std.specs.Prelude.{◌≡◌, ℕ, ◌==◌, ◌&&◌, ◌||◌, not, Bool, true, false}
use Rattle.std.specs.Prelude.{if◌then◌else◌, List}
use Rattle.std.specs.Prelude.{[], ◌∷◌, ◌++◌, fold, map, Some}
use Rattle.std.specs.List.{AllByRecursion}
use Rattle.controller_model.specs.Prelude.{Place, Message, outs_of, Management, Input, Sapi, Zero}
use Rattle.controller_model.specs.Prelude.{Three, Parameters}
use Rattle.conn_messages.specs.declared.message.Message.TheVariants.{Data}
use Rattle.bssmap_codec.specs.declared.bssmap.Bssmap.TheVariants.{AssignmentComplete}
use Rattle.bssmap_codec.specs.declared.bssmap.Bssmap.TheVariants.{HandoverPerformed}
use Rattle.conn_rules.specs.declared.input.Input.TheVariants as inputs
use Rattle.conn_rules.specs.Streams.{relayed}
use Rattle.controller_model.specs.declared.step.Step.{Step}
use Rattle.controller_model.specs.declared.word.Word.{Word}
use Rattle.controller_model.specs.declared.word.Word.TheVariants.{OnChannel}
use Rattle.controller_model.specs.Controller.{Turn, new_controller}
use Rattle.controller_model.specs.Views.{forwarded, held_up}
use Rattle.controller_model.specs.LifeLaws.Downlink.{requests}
use Rattle.controller_model.specs.LifeLaws.End.{IsThere}
use Rattle.controller_model.specs.LifeLaws.History.{IsHistory, Moment, all_messages, connection_of}
use Rattle.controller_model.specs.LifeLaws.History.{outs_for, word_in}
use Rattle.controller_model.specs.LifeLaws.Seen.{messages_on}
use Rattle.controller_model.specs.LifeLaws.Sending.{IsOctetStep}

-- A tenure: the messages that arrived on a channel from the time when the channel began to serve
-- until its release was acknowledged.
pub record ServedTenure : Type 0 where
  pub place : Place
  pub is_over : Bool
  pub zero : List (List ℕ)
  pub three : List (List ℕ)

abbrev pub of_sapi : Sapi → ServedTenure → List (List ℕ)
of_sapi Zero t = t.zero
of_sapi Three t = t.three

abbrev pub is_same : Place → Place → Bool
is_same at other = (at.station == other.station) && (at.number == other.number)

-- whether the tenure is on this channel and isn't over
abbrev pub is_on : Place → ServedTenure → Bool
is_on at t = not t.is_over && is_same t.place at

-- the tenure of a channel that begins to serve
abbrev pub beginning : Place → List (List ℕ) → ServedTenure
beginning at zero = record { place = at; is_over = false; zero = zero; three = [] }

abbrev pub with_message : Sapi → List ℕ → ServedTenure → ServedTenure
with_message Zero message t = record t { zero = t.zero ++ message ∷ [] }
with_message Three message t = record t { three = t.three ++ message ∷ [] }

abbrev pub heard : Place → Sapi → List ℕ → ServedTenure → ServedTenure
heard at sapi message t = if is_on at t then with_message sapi message t else t

abbrev pub ended : Place → ServedTenure → ServedTenure
ended at t = if is_on at t then record t { is_over = true } else t

-- the tenures once the release of a channel is acknowledged: the old tenures on that channel are
-- over; the first tenure serves and is unchanged
abbrev pub acknowledged : Place → List ServedTenure → List ServedTenure
acknowledged at [] = []
acknowledged at (serving ∷ old) = serving ∷ map (ended at) old

-- whether the message tells the switch that a change is complete
abbrev pub is_performed : Message → Bool
is_performed (Data reference (Management (AssignmentComplete cause))) = true
is_performed (Data reference (Management (HandoverPerformed cause cell))) = true
is_performed _ = false

abbrev pub performs : List Message → Bool
performs [] = false
performs (m ∷ ms) = is_performed m || performs ms

-- The first channel begins to serve with the initial message, if the step puts CR. A later channel
-- begins to serve with its COMPLETE, if the step reports the change to the switch.
abbrev pub begin_first : Bool → Place → List ℕ → List ServedTenure → List ServedTenure
begin_first true at initial [] = beginning at (initial ∷ []) ∷ []
begin_first requested at initial tenures = tenures

abbrev pub begin_next : List ServedTenure → Bool → Place → List ServedTenure
begin_next [] performed at = []
begin_next (t ∷ ts) performed at = if performed then beginning at [] ∷ t ∷ ts else t ∷ ts

abbrev pub after_input : Input → List Message → List ServedTenure → List ServedTenure
after_input (inputs.EstablishIndication at Zero (Some initial)) put tenures =
    begin_first (requests put) at initial tenures
after_input (inputs.Complete at change cause) put tenures = begin_next tenures (performs put) at
after_input (inputs.Dtap at sapi message) put tenures = map (heard at sapi message) tenures
after_input (inputs.ReleaseAck at) put tenures = acknowledged at tenures
after_input _ put tenures = tenures

abbrev pub after_word : Word → List Message → List ServedTenure → List ServedTenure
after_word (OnChannel at input) put tenures = after_input input put tenures
after_word _ put tenures = tenures

abbrev pub after_moment : List ServedTenure → Moment → List ServedTenure
after_moment tenures m = after_word (word_in m.taken) m.messages tenures

-- the service list: the tenures, the latest first; the first tenure is the serving one
abbrev pub service : List Moment → List ServedTenure
service moments = fold after_moment [] moments

-- the messages of the tenures, in the order in which the tenures began
abbrev pub joined : Sapi → List ServedTenure → List (List ℕ)
joined sapi [] = []
joined sapi (serving ∷ old) = joined sapi old ++ of_sapi sapi serving

-- ---- the law

-- There are messages, step by step, whose frames are the frames put for the connection. Per SAPI,
-- while the connection is open, the messages relayed, followed by the messages held, are the
-- messages of the connection's tenures, in the order in which the tenures began. The messages
-- relayed are those read from the frames to the switch, if frames that arrived carry octets.
pub record UplinkIsConserved (number : ℕ) (p : Parameters) (steps : List Step)
    (life : Turn) : Type 0 where
  pub moments : List Moment
  pub history : IsHistory number (new_controller p) steps moments
  pub frames : outs_for number life.outs ≡ outs_of number (all_messages moments)
  pub uplink : IsThere (connection_of life.next number) → (sapi : Sapi) →
      relayed sapi (all_messages moments) ++ held_up life.next number sapi
      ≡ joined sapi (service moments)
  pub read : AllByRecursion IsOctetStep steps → IsThere (connection_of life.next number)
      → (sapi : Sapi) →
      messages_on sapi (forwarded life.outs number) ++ held_up life.next number sapi
      ≡ joined sapi (service moments)
