-- SPDX-License-Identifier: MIT OR Apache-2.0
-- Each step keeps the account of the switch's messages of a connection.
use Rattle.controller_model.proofs.Prelude.{◌≡◌, ℕ, ◌==◌, ◌≤◌, ◌<◌, ◌&&◌, ◌||◌, Bool, true, false, if◌then◌else◌, List, [], ◌∷◌, ◌++◌}
use Rattle.controller_model.proofs.Prelude.{filter, Option, Some, None, refl, sym, subst, ap, ◌∙◌, inl, inr, arith, append_assoc}
use Rattle.controller_model.proofs.Prelude.{append-nil, true≢false, cases_Bool, cond-true, cond-false, Channel, Message, SWITCH_LINK}
use Rattle.controller_model.proofs.Prelude.{access_activation, Input, State, WaitActivation, WaitEstablish, WaitConfirm, Live, Closed}
use Rattle.controller_model.proofs.Prelude.{Removed, Connection, new_connection, IsValid, Row, OfRow, IsOpen, is_dtap, Sapi, Zero, Three}
use Rattle.controller_model.proofs.Prelude.{messages, What, IsFinal-row, KeepsDownlink-row, IsFinal, KeepsDownlink, handed, received_by}
use Rattle.controller_model.proofs.Prelude.{rejects, without_rejected, row_of, Acts, Brought, IsAged, IsBrought, IsTimer, FitsNone}
use Rattle.controller_model.proofs.Prelude.{brought_by, brought_with, brought_in, if_held, kept_in, ages, rests, opens, takes_row, nothing}
use Rattle.controller_model.proofs.Prelude.{comes_with, reports, breaks, passes, Switched, confirms, is_confirm, left_over}
use Rattle.controller_model.proofs.Prelude.{nothing_switched, requests, with_moment, word_by, word_in, Step, Take, Tick, Word, OnChannel}
use Rattle.controller_model.proofs.Prelude.{OnConnection, Controller, is_up, channel_state, holder, word_of}
use Rattle.conn_rules.specs.declared.input.Input.TheVariants as inputs
use Rattle.controller_model.specs.LifeLaws.Downlink.{dtap_received}
use Rattle.controller_model.proofs.LifeLaws.Fitting.{IsFine, IsLinked, IsBreak, IsLinkBreak, aged_holds, fine_old}
use Rattle.controller_model.proofs.LifeLaws.Progress.{Advances, IsLive, Next, NotDown, advances, confirm_fits, downlink_fits, received_none}
use Rattle.controller_model.proofs.LifeLaws.Silence.{kept_holds, same_state}
use Rattle.controller_model.proofs.LifeLaws.Sources.{IsAtPlace, IsFrom, word_from}
use Rattle.ruled_relay.specs.declared.item.What.TheVariants as whats

-- ---- the messages of a step's word are those that the step brings

abbrev pub arrived : Sapi → Brought → List (List ℕ)
arrived sapi (comes_with input) = filter is_dtap (received_by sapi input)
arrived sapi _ = []

abbrev pub is_confirming : Brought → Bool
is_confirming (comes_with input) = is_confirm input
is_confirming _ = false

pub record SaysSo (number : ℕ) (word : Word) (brought : Brought) : Type 0 where
  pub came_is : (sapi : Sapi) → dtap_received number sapi word ≡ arrived sapi brought
  pub confirms_is : confirms number word ≡ is_confirming brought

at_place_up : (at : _) (input : Input) → IsAtPlace at input → NotDown input
at_place_up at (inputs.Downlink sapi message) is = absurd is
at_place_up at _ is = tt

at_place_unconfirmed : (at : _) (input : Input) → IsAtPlace at input → is_confirm input ≡ false
at_place_unconfirmed at (inputs.ConnectionConfirm source) is = absurd is
at_place_unconfirmed at _ is = refl

held_says : (number : ℕ) (at : _) (o : Option ℕ) (input : Input) →
    IsAtPlace at input →
    SaysSo number (OnChannel at input) (if_held number o input)
held_says number at None input is = record { came_is = λ sapi. refl; confirms_is = refl }
held_says number at (Some holder) input is = elim (cases_Bool (holder == number)) [
  | inl hit ↦ subst (SaysSo number (OnChannel at input)) (sym (cond-true _ (comes_with input) nothing hit))
      (record { came_is = λ sapi. sym (ap (filter is_dtap) (received_none sapi input (at_place_up at input is))); confirms_is = sym (at_place_unconfirmed at input is) })
  | inr miss ↦ subst (SaysSo number (OnChannel at input)) (sym (cond-false _ (comes_with input) nothing miss)) (record { came_is = λ sapi. refl; confirms_is = refl })
]

and_when : (a b : Bool) → a ≡ true → (a && b) ≡ b
and_when true b is = refl
and_when false b is = absurd (true≢false (sym is))

and_unless : (a b : Bool) → a ≡ false → (a && b) ≡ false
and_unless false b is = refl
and_unless true b is = absurd (true≢false is)

connection_says : (number destination : ℕ) (input : Input) →
    SaysSo number (OnConnection destination input) (if_held number (Some destination) input)
connection_says number destination input = elim (cases_Bool (destination == number)) [
  | inl hit ↦ subst (SaysSo number (OnConnection destination input)) (sym (cond-true _ (comes_with input) nothing hit))
      (record { came_is = λ sapi. cond-true _ _ _ hit; confirms_is = and_when (destination == number) (is_confirm input) hit })
  | inr miss ↦ subst (SaysSo number (OnConnection destination input)) (sym (cond-false _ (comes_with input) nothing miss))
      (record { came_is = λ sapi. cond-false _ _ _ miss; confirms_is = and_unless (destination == number) (is_confirm input) miss })
]

word_says : (c : Controller) (number source : ℕ) (word : Word) → IsFrom source word → SaysSo number word (brought_by c number word)
word_says c number source (OnChannel at input) from = held_says number at (holder (channel_state c at)) input from.1
word_says c number source (OnConnection destination input) from = connection_says number destination input
word_says c number source _ from = record { came_is = λ sapi. refl; confirms_is = refl }

-- a link that is down says nothing to a connection that is there
down_says : (number source : ℕ) (word : Word) → IsFrom source word → (source ≡ SWITCH_LINK → ⊥) → SaysSo number word nothing
down_says number source (OnConnection destination input) from other = absurd (other from.0)
down_says number source _ from other = record { came_is = λ sapi. refl; confirms_is = refl }

what_says : (up : Bool) (c : Controller) (number source : ℕ) (what : What) →
    (source ≡ SWITCH_LINK → up ≡ true) →
    SaysSo number (word_by source what) (if up then brought_with c number source what else nothing)
what_says true c number source (whats.Frame frame) linked = word_says c number source (word_of source frame) (word_from source frame)
what_says true c number source whats.Down linked = record { came_is = λ sapi. refl; confirms_is = refl }
what_says false c number source (whats.Frame frame) linked = down_says number source (word_of source frame) (word_from source frame) (λ is. true≢false (sym (linked is)))
what_says false c number source whats.Down linked = record { came_is = λ sapi. refl; confirms_is = refl }

pub step_says : (c : Controller) (number : ℕ) (s : Step) → is_up c SWITCH_LINK ≡ true → SaysSo number (word_in s) (brought_in c number s)
step_says c number (Take item) linked = what_says (is_up c item.source) c number item.source item.what (λ is. ap (is_up c) is ∙ linked)
step_says c number (Tick ms) linked = record { came_is = λ sapi. refl; confirms_is = refl }

-- ---- what a moment adds, by what the step brings

with_brought : Sapi → Brought → List Message → Switched → Switched
with_brought sapi brought put a = record {
  requested = a.requested || requests put;
  confirmed = a.confirmed || (a.requested && is_confirming brought);
  arrived = a.arrived ++ (if a.confirmed then arrived sapi brought else []);
  received = left_over sapi put a.handed (a.received ++ (if a.confirmed then arrived sapi brought else []));
  handed = a.handed ++ handed sapi put;
}

by_brought : (number : ℕ) (sapi : Sapi) (a : Switched) (s : Step) (put : List Message) (brought : Brought) →
    SaysSo number (word_in s) brought →
    with_moment number sapi a (record { taken = s; messages = put }) ≡ with_brought sapi brought put a
unfolding with_brought
by_brought number sapi a s put brought says =
    ap (λ (xs : List (List ℕ)). record (with_moment number sapi a (record { taken = s; messages = put })) {
      arrived = a.arrived ++ (if a.confirmed then xs else []);
      received = left_over sapi put a.handed (a.received ++ (if a.confirmed then xs else []));
    }) (says.came_is sapi)
    ∙ ap (λ (b : Bool). record (with_brought sapi brought put a) { confirmed = a.confirmed || (a.requested && b) }) says.confirms_is

abbrev pub Flags : State → Switched → Type 0
Flags WaitActivation a = (a.requested ≡ false) × (a.confirmed ≡ false)
Flags WaitEstablish a = (a.requested ≡ false) × (a.confirmed ≡ false)
Flags WaitConfirm a = (a.requested ≡ true) × (a.confirmed ≡ false)
Flags (Live reference stage) a = (a.requested ≡ true) × (a.confirmed ≡ true)
Flags _ a = ⊥

abbrev pub IsHeld : Sapi → Switched → Connection → Type 0
IsHeld sapi a s = a.handed ++ filter is_dtap (messages s.down sapi) ≡ a.received

unfoldable pub AgreesDown : Sapi → ℕ → ℕ → Switched → Option Connection → Type 0
AgreesDown sapi number next a None = next ≤ number → a ≡ nothing_switched
AgreesDown sapi number next a (Some s) = IsOpen s.state → Flags s.state a × IsHeld sapi a s

-- ---- nothing is put

none_left : (sapi : Sapi) (h x : List (List ℕ)) → left_over sapi [] h x ≡ x
none_left Zero h x = refl
none_left Three h x = refl

live_came : (s : Connection) (sapi : Sapi) (brought : Brought) → IsLive s.state → FitsNone brought (Some s) → arrived sapi brought ≡ []
live_came s sapi (comes_with (inputs.Downlink of message)) live none = absurd (downlink_fits s of message none.0 live none.1)
live_came s sapi (comes_with input) live none = ap (filter is_dtap) (received_none sapi input (up input none))
  where
    up : (input : Input) → FitsNone (comes_with input) (Some s) → NotDown input
    up (inputs.Downlink of message) none = absurd (downlink_fits s of message none.0 live none.1)
    up _ none = tt
live_came s sapi _ live none = refl

waiting_confirming : (s : Connection) (brought : Brought) →
    s.state ≡ WaitConfirm →
    FitsNone brought (Some s) →
    is_confirming brought ≡ false
waiting_confirming s (comes_with input) is none = by input none
  where
    by : (input : Input) → FitsNone (comes_with input) (Some s) → is_confirm input ≡ false
    by (inputs.ConnectionConfirm source) none = absurd (confirm_fits s source none.0 is none.1)
    by _ none = refl
waiting_confirming s _ is none = refl

or_so : (a b c d : Bool) → a ≡ b → c ≡ d → (a || c) ≡ (b || d)
or_so a b c d first rest = ap (λ (x : Bool). x || c) first ∙ ap (λ (x : Bool). b || x) rest

and_so : (a b c d : Bool) → a ≡ b → c ≡ d → (a && c) ≡ (b && d)
and_so a b c d first rest = ap (λ (x : Bool). x && c) first ∙ ap (λ (x : Bool). b && x) rest

rest_flags : (state : State) (sapi : Sapi) (brought : Brought) (a : Switched) →
    (state ≡ WaitConfirm → is_confirming brought ≡ false) →
    Flags state a →
    Flags state (with_brought sapi brought [] a)
unfolding with_brought
rest_flags WaitConfirm sapi brought a none flags = (ap (λ (x : Bool). x || false) flags.0, ap (λ (x : Bool). x || (a.requested && is_confirming brought)) flags.1 ∙ and_so a.requested true (is_confirming brought) false flags.0 (none refl))
rest_flags (Live reference stage) sapi brought a none flags = (ap (λ (x : Bool). x || false) flags.0, ap (λ (x : Bool). x || (a.requested && is_confirming brought)) flags.1)
rest_flags (Closed clearing) sapi brought a none flags = absurd flags
rest_flags Removed sapi brought a none flags = absurd flags
rest_flags _ sapi brought a none flags = (ap (λ (x : Bool). x || false) flags.0, ap (λ (x : Bool). x || (a.requested && is_confirming brought)) flags.1 ∙ ap (λ (x : Bool). x && is_confirming brought) flags.0)

-- what arrived counts from CC on
none_counts : (state : State) (s : Connection) →
    s.state ≡ state →
    (sapi : Sapi) (brought : Brought) (a : Switched) →
    FitsNone brought (Some s) →
    Flags state a →
    (if a.confirmed then arrived sapi brought else []) ≡ []
none_counts (Live reference stage) s is sapi brought a none flags = cond-true _ _ _ flags.1 ∙ live_came s sapi brought (subst IsLive (sym is) tt) none
none_counts (Closed clearing) s is sapi brought a none flags = absurd flags
none_counts Removed s is sapi brought a none flags = absurd flags
none_counts _ s is sapi brought a none flags = cond-false _ _ _ flags.1

rest_held : (s : Connection) (sapi : Sapi) (brought : Brought) (a : Switched) →
    FitsNone brought (Some s) →
    Flags s.state a →
    IsHeld sapi a s →
    IsHeld sapi (with_brought sapi brought [] a) s
unfolding with_brought
rest_held s sapi brought a none flags held =
    ap (λ (xs : List (List ℕ)). xs ++ filter is_dtap (messages s.down sapi)) (append-nil a.handed)
    ∙ held ∙ sym (append-nil a.received)
    ∙ ap (λ (xs : List (List ℕ)). a.received ++ xs) (sym (none_counts s.state s refl sapi brought a none flags))
    ∙ sym (none_left sapi a.handed (a.received ++ (if a.confirmed then arrived sapi brought else [])))

-- ---- a row

confirming_is : (brought : Brought) (input : Input) → IsBreak brought → IsBrought brought input → is_confirming brought ≡ is_confirm input
unfolding IsBreak
confirming_is nothing input break is = absurd is
confirming_is (comes_with brought) input break is = ap is_confirm (sym is)
confirming_is reports input break is = ap is_confirm (sym is)
confirming_is (breaks brought) input break is = of brought break ∙ ap is_confirm (sym is)
  where
    of : (brought : Input) → IsLinkBreak brought → false ≡ is_confirm brought
    of inputs.SwitchDown break = refl
    of (inputs.StationDown station) break = refl
    of _ break = absurd break
confirming_is passes input break is = of input is
  where
    of : (input : Input) → IsTimer input → false ≡ is_confirm input
    of inputs.Expiry timer = refl
    of inputs.DrainExpiry timer = refl
    of _ timer = absurd timer

none_received : (sapi : Sapi) (input : Input) → NotDown input → [] ≡ filter is_dtap (received_by sapi input)
none_received sapi input up = ap (filter is_dtap) (sym (received_none sapi input up))

arrived_is_received : (sapi : Sapi) (brought : Brought) (input : Input) →
    IsBreak brought →
    IsBrought brought input →
    arrived sapi brought ≡ filter is_dtap (received_by sapi input)
unfolding IsBreak
arrived_is_received sapi nothing input break is = absurd is
arrived_is_received sapi (comes_with brought) input break is = ap (λ (i : Input). filter is_dtap (received_by sapi i)) (sym is)
arrived_is_received sapi reports input break is = none_received sapi input (subst NotDown (sym is) tt)
arrived_is_received sapi (breaks brought) input break is = none_received sapi input (subst NotDown (sym is) (of brought break))
  where
    of : (brought : Input) → IsLinkBreak brought → NotDown brought
    of inputs.SwitchDown break = tt
    of (inputs.StationDown station) break = tt
    of _ break = absurd break
arrived_is_received sapi passes input break is = none_received sapi input (of input is)
  where
    of : (input : Input) → IsTimer input → NotDown input
    of inputs.Expiry timer = tt
    of inputs.DrainExpiry timer = tt
    of _ timer = absurd timer

live_flags : (state : State) (a : Switched) → IsLive state → (a.requested ≡ true) × (a.confirmed ≡ true) → Flags state a
live_flags (Live reference stage) a live flags = flags
live_flags (Closed clearing) a live flags = live
live_flags Removed a live flags = live
live_flags _ a live flags = absurd live

row_flags : (state next : State) (sapi : Sapi) (brought : Brought) (input : Input) (put : List Message) (a : Switched) →
    is_confirming brought ≡ is_confirm input →
    Next state input next put →
    Flags state a →
    Flags next (with_brought sapi brought put a)
unfolding with_brought
row_flags WaitActivation next sapi brought input put a conf carries_on flags =
    subst (λ (n : State). Flags n (with_brought sapi brought put a)) (sym carries_on.0)
    (or_so a.requested false (requests put) false flags.0 carries_on.1, or_so a.confirmed false (a.requested && is_confirming brought) false flags.1 (ap (λ (x : Bool). x && is_confirming brought) flags.0))
row_flags WaitEstablish next sapi brought input put a conf carries_on flags =
    subst (λ (n : State). Flags n (with_brought sapi brought put a)) (sym carries_on.0)
    (or_so a.requested false (requests put) true flags.0 carries_on.1, or_so a.confirmed false (a.requested && is_confirming brought) false flags.1 (ap (λ (x : Bool). x && is_confirming brought) flags.0))
row_flags WaitConfirm next sapi brought input put a conf carries_on flags = elim carries_on.1 [
  | inl unchanged ↦ subst (λ (n : State). Flags n (with_brought sapi brought put a)) (sym unchanged.0)
      (ap (λ (x : Bool). x || requests put) flags.0, or_so a.confirmed false (a.requested && is_confirming brought) false flags.1 (and_so a.requested true (is_confirming brought) false flags.0 (conf ∙ unchanged.1)))
  | inr is_live ↦ live_flags next (with_brought sapi brought put a) is_live.0
      (ap (λ (x : Bool). x || requests put) flags.0, or_so a.confirmed false (a.requested && is_confirming brought) true flags.1 (and_so a.requested true (is_confirming brought) true flags.0 (conf ∙ is_live.1)))
]
row_flags (Live reference stage) next sapi brought input put a conf carries_on flags =
    live_flags next (with_brought sapi brought put a) carries_on (ap (λ (x : Bool). x || requests put) flags.0, ap (λ (x : Bool). x || (a.requested && is_confirming brought)) flags.1)
row_flags _ next sapi brought input put a conf carries_on flags = absurd flags

row_counts : (state next : State) (sapi : Sapi) (brought : Brought) (input : Input) (put : List Message) (a : Switched) →
    arrived sapi brought ≡ filter is_dtap (received_by sapi input) →
    Next state input next put →
    Flags state a →
    (if a.confirmed then arrived sapi brought else []) ≡ filter is_dtap (received_by sapi input)
row_counts WaitConfirm next sapi brought input put a is carries_on flags = cond-false _ _ _ flags.1 ∙ none_received sapi input carries_on.0
row_counts (Live reference stage) next sapi brought input put a is carries_on flags = cond-true _ _ _ flags.1 ∙ is
row_counts (Closed clearing) next sapi brought input put a is carries_on flags = absurd flags
row_counts Removed next sapi brought input put a is carries_on flags = absurd flags
row_counts _ next sapi brought input put a is carries_on flags = cond-false _ _ _ flags.1 ∙ none_received sapi input carries_on.2

filter_append : (xs ys : List (List ℕ)) → filter is_dtap (xs ++ ys) ≡ filter is_dtap xs ++ filter is_dtap ys
filter_append [] ys = refl
filter_append (x ∷ xs) ys = elim (cases_Bool (is_dtap x)) [
  | inl hit ↦ cond-true _ _ _ hit ∙ ap (λ (zs : List (List ℕ)). x ∷ zs) (filter_append xs ys) ∙ sym (ap (λ (zs : List (List ℕ)). zs ++ filter is_dtap ys) (cond-true _ _ _ hit))
  | inr miss ↦ cond-false _ _ _ miss ∙ filter_append xs ys ∙ sym (ap (λ (zs : List (List ℕ)). zs ++ filter is_dtap ys) (cond-false _ _ _ miss))
]

pub first_empty : (xs ys : List (List ℕ)) → xs ++ ys ≡ [] → xs ≡ []
first_empty [] ys is = refl
first_empty (x ∷ xs) ys is = absurd cc

still_held : (before now held after arrived received : List (List ℕ)) →
    now ++ after ≡ held ++ arrived →
    before ++ held ≡ received →
    (before ++ now) ++ after ≡ received ++ arrived
still_held before now held after arrived received keeps is =
    append_assoc before now after ∙ ap (λ (xs : List (List ℕ)). before ++ xs) keeps ∙ sym (append_assoc before held arrived) ∙ ap (λ (xs : List (List ℕ)). xs ++ arrived) is

row_held : (sapi : Sapi) (put : List Message) (before now held after arrived received : List (List ℕ)) →
    now ++ after ≡ without_rejected sapi put (held ++ arrived) →
    before ++ held ≡ received →
    (before ++ now) ++ after ≡ left_over sapi put before (received ++ arrived)
row_held Zero put before now held after arrived received keeps is = still_held before now held after arrived received keeps is
row_held Three put before now held after arrived received keeps is = elim (cases_Bool (rejects put)) [
  | inl hit ↦
      let none : now ++ after ≡ [] = keeps ∙ cond-true _ _ _ hit in
      append_assoc before now after ∙ ap (λ (xs : List (List ℕ)). before ++ xs) none ∙ append-nil before ∙ sym (cond-true _ _ _ hit)
  | inr miss ↦ still_held before now held after arrived received (keeps ∙ cond-false _ _ _ miss) is ∙ sym (cond-false _ _ _ miss)
]

row_agrees : (s : Connection) (input : Input) (offer : Option Channel) (r : Row) (sapi : Sapi) (brought : Brought) (a : Switched) →
    IsValid s →
    IsBreak brought →
    IsBrought brought input →
    row_of s input offer ≡ Some r →
    IsOpen r.next.state →
    Flags s.state a →
    IsHeld sapi a s →
    Flags r.next.state (with_brought sapi brought r.outs a) × IsHeld sapi (with_brought sapi brought r.outs a) r.next
unfolding with_brought
row_agrees s input offer r sapi brought a valid break by fits there flags held =
    let carries_on : Next s.state input r.next.state r.outs = subst (OfRow (Advances s.state input)) fits (advances s input offer) there in
    let keeps = (subst (OfRow (KeepsDownlink sapi s input)) fits (KeepsDownlink-row sapi s input offer valid)).stream there in
    let counts = row_counts s.state r.next.state sapi brought input r.outs a (arrived_is_received sapi brought input break by) carries_on flags in (
      row_flags s.state r.next.state sapi brought input r.outs a (confirming_is brought input break by) carries_on flags,
      row_held sapi r.outs a.handed (handed sapi r.outs) (filter is_dtap (messages s.down sapi)) (filter is_dtap (messages r.next.down sapi)) (filter is_dtap (received_by sapi input)) a.received
          (keeps ∙ ap (without_rejected sapi r.outs) (filter_append (messages s.down sapi) (received_by sapi input))) held
          ∙ ap (λ (xs : List (List ℕ)). left_over sapi r.outs a.handed (a.received ++ xs)) (sym counts),
    )

-- ---- each step

idle : (number : ℕ) (sapi : Sapi) (s : Step) →
    with_moment number sapi nothing_switched (record { taken = s; messages = [] }) ≡ nothing_switched
idle number Zero s = refl
idle number Three s = refl

begun : (number : ℕ) (sapi : Sapi) (s : Step) (channel : Channel) →
    with_moment number sapi nothing_switched (record { taken = s; messages = access_activation channel ∷ [] }) ≡ nothing_switched
begun number Zero s channel = refl
begun number Three s channel = refl

new_held : (number : ℕ) (sapi : Sapi) (channel : Channel) (request : _) (delay : ℕ) →
    IsHeld sapi nothing_switched (new_connection number channel request delay)
new_held number Zero channel request delay = refl
new_held number Three channel request delay = refl

aged_agrees : (sapi : Sapi) (a : Switched) (old s : Connection) →
    IsAged old s →
    Flags old.state a × IsHeld sapi a old →
    Flags s.state a × IsHeld sapi a s
aged_agrees sapi a old s aged agrees = aged_holds (λ (c : Connection). Flags c.state a × IsHeld sapi a c) (λ ms c holds. holds) old s aged agrees

kept_agrees : (sapi : Sapi) (number next : ℕ) (a : Switched) (state : State) (s : Connection) →
    s.state ≡ state →
    number < next →
    (IsOpen s.state → Flags s.state a × IsHeld sapi a s) →
    AgreesDown sapi number next a (kept_in state s)
unfolding AgreesDown
kept_agrees sapi number next a state s is less agrees = kept_holds (AgreesDown sapi number next a) state s (λ more. absurd (omega arith)) agrees

-- a connection that is there has a number below the next one
unfoldable pub IsBegun : ℕ → ℕ → Option Connection → Type 0
IsBegun number next None = Unit {0}
IsBegun number next (Some s) = number < next

some_agrees : (sapi : Sapi) (number next : ℕ) (a : Switched) (before : Option Connection) (s : Connection) →
    before ≡ Some s →
    AgreesDown sapi number next a before →
    IsOpen s.state →
    Flags s.state a × IsHeld sapi a s
unfolding AgreesDown
some_agrees sapi number next a before s is agrees = subst (AgreesDown sapi number next a) is agrees

pub some_begun : (number next : ℕ) (before : Option Connection) (s : Connection) →
    before ≡ Some s →
    IsBegun number next before →
    number < next
unfolding IsBegun
some_begun number next before s is begun = subst (IsBegun number next) is begun

rest_agrees : (sapi : Sapi) (number next later : ℕ) (up : Bool) (a : Switched) (o : Option Connection) (s : Step) (brought : Brought) →
    next ≤ later →
    IsBegun number next o →
    (IsLinked up o) →
    (up ≡ true → SaysSo number (word_in s) brought) →
    FitsNone brought o →
    AgreesDown sapi number next a o →
    AgreesDown sapi number later (with_moment number sapi a (record { taken = s; messages = [] })) o
unfolding AgreesDown IsLinked IsBegun
rest_agrees sapi number next later up a None s brought more begins linked says none agrees = λ less.
    ap (λ (b : Switched). with_moment number sapi b (record { taken = s; messages = [] })) (agrees (omega arith)) ∙ idle number sapi s
rest_agrees sapi number next later up a (Some c) s brought more begins linked says none agrees = λ there.
    let holds = agrees there in
    subst (λ (b : Switched). Flags c.state b × IsHeld sapi b c) (sym (by_brought number sapi a s [] brought (says linked)))
    (rest_flags c.state sapi brought a (λ is. waiting_confirming c brought is none) holds.0, rest_held c sapi brought a none holds.0 holds.1)

pub linked_true : (up : Bool) (o : Option Connection) (s : Connection) → o ≡ Some s → IsLinked up o → up ≡ true
unfolding IsLinked
linked_true up o s is linked = subst (IsLinked up) is linked

open_by : (s : Connection) (state : State) →
    s.state ≡ state →
    (input : Input) (offer : Option Channel) (r : Row) →
    IsFinal s r →
    IsOpen r.next.state →
    IsOpen state
open_by s (Closed clearing) is input offer r final there = final.remains_closed (subst IsOpen is) there
open_by s Removed is input offer r final there = final.remains_closed (subst IsOpen is) there
open_by s _ is input offer r final there = tt

pub was : (s : Connection) (input : Input) (offer : Option Channel) (r : Row) →
    row_of s input offer ≡ Some r →
    IsOpen r.next.state →
    IsOpen s.state
was s input offer r fits there = open_by s s.state refl input offer r (subst (OfRow (IsFinal s)) fits (IsFinal-row s input offer)) there

pub acts_agree : (sapi : Sapi) (number next later : ℕ) (up : Bool) (brought : Brought) (before after : Option Connection) (put : List Message) (a : Switched) (s : Step) → Acts number next up brought before put after → next ≤ later → IsBegun number next before → IsFine before → IsLinked up before → IsBreak brought →
    (up ≡ true → SaysSo number (word_in s) brought) → AgreesDown sapi number next a before → AgreesDown sapi number later (with_moment number sapi a (record { taken = s; messages = put })) after
unfolding AgreesDown
acts_agree sapi number next later up brought before after put a s (rests silent same none) more begins fine linked break says agrees =
    subst (AgreesDown sapi number later (with_moment number sapi a (record { taken = s; messages = put }))) (sym same)
    (subst (λ (ms : List Message). AgreesDown sapi number later (with_moment number sapi a (record { taken = s; messages = ms })) before) (sym silent)
    (rest_agrees sapi number next later up a before s brought more begins linked says none agrees))
acts_agree sapi number next later up brought before after put a s (ages old now is_time is aged silent same) more begins fine linked break says agrees =
    subst (AgreesDown sapi number later (with_moment number sapi a (record { taken = s; messages = put }))) (sym same)
    (subst (λ (ms : List Message). AgreesDown sapi number later (with_moment number sapi a (record { taken = s; messages = ms })) (Some now)) (sym silent)
    (λ there.
    aged_agrees sapi (with_moment number sapi a (record { taken = s; messages = [] })) old now aged
    (subst (AgreesDown sapi number later (with_moment number sapi a (record { taken = s; messages = [] }))) is
    (rest_agrees sapi number next later up a before s brought more begins linked says (subst (λ (b : Brought). FitsNone b before) (sym is_time) tt) agrees)
    (subst IsOpen (same_state old now aged) there))))
acts_agree sapi number next later up brought before after put a s (opens begins_as linked_up channel request delay is_nothing none_before put_is same) more begins fine linked break says agrees =
    let fresh : a ≡ nothing_switched = subst (AgreesDown sapi number next a) none_before agrees (omega arith) in
    let moment : with_moment number sapi a (record { taken = s; messages = put }) ≡ nothing_switched =
    ap (λ (b : Switched). with_moment number sapi b (record { taken = s; messages = put })) fresh
    ∙ ap (λ (ms : List Message). with_moment number sapi nothing_switched (record { taken = s; messages = ms })) put_is ∙ begun number sapi s channel in
    subst (λ (b : Switched). AgreesDown sapi number later b after) (sym moment)
    (subst (AgreesDown sapi number later nothing_switched) (sym same) (λ there. ((refl, refl), new_held number sapi channel request delay)))
acts_agree sapi number next later up brought before after put a s (takes_row old c input offer r is aged by fits put_is same) more begins fine linked break says agrees =
    let less : number < next = some_begun number next before old is begins in
    let moment : with_moment number sapi a (record { taken = s; messages = put }) ≡ with_brought sapi brought r.outs a =
    ap (λ (ms : List Message). with_moment number sapi a (record { taken = s; messages = ms })) put_is ∙ by_brought number sapi a s r.outs brought (says (linked_true up before old is linked)) in
    subst (λ (b : Switched). AgreesDown sapi number later b after) (sym moment)
    (subst (AgreesDown sapi number later (with_brought sapi brought r.outs a)) (sym same)
    (kept_agrees sapi number later (with_brought sapi brought r.outs a) r.next.state r.next refl (omega arith)
    (λ there.
    let was_open : IsOpen c.state = was c input offer r fits there in
    let holds = aged_agrees sapi a old c aged (some_agrees sapi number next a before old is agrees (subst IsOpen (same_state old c aged) was_open)) in
    row_agrees c input offer r sapi brought a (fine_old before old c is aged fine).1 break by fits there holds.0 holds.1)))
