-- SPDX-License-Identifier: MIT OR Apache-2.0
-- What is held on SAPI 3 is what arrived there, so none of it is of the flow.
use Rattle.world_laws.proofs.Prelude.{◌≡◌, ℕ, ◌≤◌, Bool, true, false, if◌then◌else◌, List, [], ◌∷◌, fold, map, Some, sym, subst}
use Rattle.world_laws.proofs.Prelude.{AllByRecursion, Place, Message, AllByRecursion-append, Input, relayed, IsThere, connection_of}
use Rattle.world_laws.proofs.Prelude.{word_in, Step, Word, OnChannel, Controller, new_controller, step, Sapi, Zero, Three, AreAllowed}
use Rattle.world_laws.proofs.Prelude.{Parameters, Event, all_steps, new_actors, FollowsTable-new, IsHistory, Moment, all_messages}
use Rattle.world_laws.proofs.Prelude.{life_conserves_up, life, held_up, BringsBesideFlow, FlowIsOnSapiZero, IsBesideFlow, SaysBesideFlow}
use Rattle.conn_rules.specs.declared.input.Input.TheVariants as inputs
use Rattle.controller_model.specs.LifeLaws.Downlink.{requests}
use Rattle.controller_model.specs.LifeLaws.Uplink.{ServedTenure, after_input, after_moment, after_word, begin_first, begin_next, ended}
use Rattle.controller_model.specs.LifeLaws.Uplink.{heard}
use Rattle.controller_model.specs.LifeLaws.Uplink.{is_on, joined, performs, service, with_message}
use Rattle.world_laws.proofs.Framing.{all_right}
use Rattle.world_laws.proofs.SapiThree.{says_came, says_waits}
use Rattle.world_laws.proofs.Events.{world}

-- ---- tenures

Beside : ServedTenure → Type 0
Beside t = AllByRecursion IsBesideFlow t.three

heard_beside : (at : Place) (sapi : Sapi) (message : List ℕ) (t : ServedTenure) →
    BringsBesideFlow (inputs.Dtap at sapi message) →
    Beside t →
    Beside (heard at sapi message t)
unfolding Beside
heard_beside at sapi message t says beside = by (is_on at t) sapi says where
  by : (b : Bool) (sapi : Sapi) →
      BringsBesideFlow (inputs.Dtap at sapi message) →
      AllByRecursion IsBesideFlow (if b then with_message sapi message t else t).three
  by true Zero says = beside
  by true Three says = AllByRecursion-append IsBesideFlow t.three (message ∷ []) beside (says, tt)
  by false sapi says = beside

all_heard : (at : Place) (sapi : Sapi) (message : List ℕ) (ts : List ServedTenure) →
    BringsBesideFlow (inputs.Dtap at sapi message) →
    AllByRecursion Beside ts →
    AllByRecursion Beside (map (heard at sapi message) ts)
all_heard at sapi message [] says all = tt
all_heard at sapi message (t ∷ ts) says all = (heard_beside at sapi message t says all.0, all_heard at sapi message ts says all.1)

ended_beside : (at : Place) (t : ServedTenure) → Beside t → Beside (ended at t)
unfolding Beside
ended_beside at t beside = by (is_on at t) where
  by : (b : Bool) → AllByRecursion IsBesideFlow (if b then record t { is_over = true } else t).three
  by true = beside
  by false = beside

all_ended : (at : Place) (ts : List ServedTenure) → AllByRecursion Beside ts → AllByRecursion Beside (map (ended at) ts)
all_ended at [] all = tt
all_ended at (t ∷ ts) all = (ended_beside at t all.0, all_ended at ts all.1)

begun_first : (b : Bool) (at : Place) (initial : List ℕ) (ts : List ServedTenure) →
    AllByRecursion Beside ts →
    AllByRecursion Beside (begin_first b at initial ts)
unfolding Beside
begun_first true at initial [] all = (tt, tt)
begun_first true at initial (t ∷ ts) all = all
begun_first false at initial ts all = all

begun_next : (ts : List ServedTenure) (b : Bool) (at : Place) → AllByRecursion Beside ts → AllByRecursion Beside (begin_next ts b at)
unfolding Beside
begun_next [] b at all = tt
begun_next (t ∷ ts) true at all = (tt, all)
begun_next (t ∷ ts) false at all = all

-- ---- what arrived

input_beside : (input : Input) (put : List Message) (ts : List ServedTenure) →
    BringsBesideFlow input →
    AllByRecursion Beside ts →
    AllByRecursion Beside (after_input input put ts)
input_beside (inputs.EstablishIndication at Zero (Some initial)) put ts says all = begun_first (requests put) at initial ts all
input_beside (inputs.Complete at change cause) put ts says all = begun_next ts (performs put) at all
input_beside (inputs.Dtap at sapi message) put ts says all = all_heard at sapi message ts says all
input_beside (inputs.ReleaseAck at) put [] says all = tt
input_beside (inputs.ReleaseAck at) put (t ∷ ts) says all = (all.0, all_ended at ts all.1)
input_beside _ put ts says all = all

word_beside : (word : Word) (put : List Message) (ts : List ServedTenure) →
    SaysBesideFlow word →
    AllByRecursion Beside ts →
    AllByRecursion Beside (after_word word put ts)
word_beside (OnChannel at input) put ts says all = input_beside input put ts says all
word_beside _ put ts says all = all

service_beside : (number : ℕ) (c : Controller) (steps : List Step) (moments : List Moment) (ts : List ServedTenure) →
    IsHistory number c steps moments →
    AllByRecursion (λ step. SaysBesideFlow (word_in step)) steps →
    AllByRecursion Beside ts →
    AllByRecursion Beside (fold after_moment ts moments)
service_beside number c [] [] ts history says all = all
service_beside number c [] (m ∷ ms) ts history says all = absurd history
service_beside number c (s ∷ ss) [] ts history says all = absurd history
service_beside number c (s ∷ ss) (m ∷ ms) ts history says all =
    service_beside number (step c s).next ss ms (after_moment ts m) history.2 says.1
    (word_beside (word_in m.taken) m.messages ts (subst (λ (x : Step). SaysBesideFlow (word_in x)) (sym history.0) says.0) all)

joined_beside : (ts : List ServedTenure) → AllByRecursion Beside ts → AllByRecursion IsBesideFlow (joined Three ts)
unfolding Beside
joined_beside [] all = tt
joined_beside (t ∷ ts) all = AllByRecursion-append IsBesideFlow (joined Three ts) t.three (joined_beside ts all.1) all.0

-- ---- what is held

held_beside : (settings : Parameters) (steps : List Step) (number : ℕ) →
    AreAllowed settings →
    1 ≤ number →
    AllByRecursion (λ step. SaysBesideFlow (word_in step)) steps →
    IsThere (connection_of (life settings steps).next number) →
    AllByRecursion IsBesideFlow (held_up (life settings steps).next number Three)
held_beside settings steps number allowed from_one says there =
    let law = life_conserves_up settings steps number allowed from_one in
    all_right IsBesideFlow (relayed Three (all_messages law.moments)) (held_up (life settings steps).next number Three)
    (subst (AllByRecursion IsBesideFlow) (sym (law.uplink there Three)) (joined_beside (service law.moments) (service_beside number (new_controller settings) steps law.moments [] law.history says tt)))

pub flow_arrives_on_sapi_zero_new : (settings : Parameters) (events : List Event) → FlowIsOnSapiZero settings events
flow_arrives_on_sapi_zero_new settings events = record {
  received = says_came settings events;
  waits = says_waits settings events;
  held = λ allowed number from_one there.
      let by_table : (world settings events).controller ≡ (life settings (all_steps (new_actors settings) events)).next = FollowsTable-new settings events in
      subst (λ (c : Controller). AllByRecursion IsBesideFlow (held_up c number Three)) (sym by_table)
      (held_beside settings (all_steps (new_actors settings) events) number allowed from_one (says_came settings events) (subst (λ (c : Controller). IsThere (connection_of c number)) by_table there));
}
