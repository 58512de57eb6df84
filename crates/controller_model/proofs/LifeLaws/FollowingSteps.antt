-- SPDX-License-Identifier: MIT OR Apache-2.0
-- The change that a step's word makes to the tenures is that of the input that it brings.
use Rattle.controller_model.proofs.Prelude.{◌≡◌, ◌≢◌, ◌⊎◌, ℕ, zero, suc, ◌==◌, Bool, true, false, if◌then◌else◌, List, [], length, Option}
use Rattle.controller_model.proofs.Prelude.{Some, None, refl, sym, subst, ap, ◌∙◌, inl, inr, true≢false, cases_Bool, cond-true, cond-false}
use Rattle.controller_model.proofs.Prelude.{eq-eqb, Channel, Place, Message, by_state, AreAway, Input, Drain, Stage, State, WaitActivation}
use Rattle.controller_model.proofs.Prelude.{WaitEstablish, WaitConfirm, Live, Closed, Removed, Connection, drain_at, is_at, tenure_at}
use Rattle.controller_model.proofs.Prelude.{roles_of, IsValid, hold_up, undone, dtap_in, on_dtap, on_release_ack, release_in, Sapi, Zero}
use Rattle.controller_model.proofs.Prelude.{What, Brought, FitsNone, IsBrought, IsTimer, brought_by, brought_in, brought_with, if_held}
use Rattle.controller_model.proofs.Prelude.{nothing, of_frame, reports, breaks, passes, requests, word_by, word_in, Owns, ServedTenure}
use Rattle.controller_model.proofs.Prelude.{after_input}
use Rattle.controller_model.proofs.Prelude.{after_word, Step, Take, Tick, Word, OnChannel, Reports, OnConnection, Controller, channel_state}
use Rattle.controller_model.proofs.Prelude.{holder, is_up, word_of}
use Rattle.conn_rules.specs.declared.input.Input.TheVariants as inputs
use Rattle.conn_rules.specs.Table.{row_of}
use Rattle.controller_model.proofs.LifeLaws.Fitting.{IsBreak, IsLinkBreak}
use Rattle.controller_model.proofs.LifeLaws.Following.{Follows, none_on, older}
use Rattle.controller_model.proofs.LifeLaws.FollowingRests.{down_none, none_after, not_begun, older_none, other_none}
use Rattle.controller_model.proofs.LifeLaws.FollowingTable.{UpIn, early_none}
use Rattle.controller_model.proofs.LifeLaws.Owning.{away_none}
use Rattle.controller_model.proofs.LifeLaws.OwningLife.{none_if}
use Rattle.controller_model.proofs.LifeLaws.Progress.{IsLive}
use Rattle.controller_model.proofs.LifeLaws.Sources.{IsAtPlace, IsFrom, IsOfSwitch, word_from}
use Rattle.controller_model.proofs.LifeLaws.Tenures.{NoneOn, heard_none}
use Rattle.ruled_relay.specs.declared.item.What.TheVariants as whats

-- ---- no row fits

in_no_tenure : (o : Option ℕ) (reference : ℕ) (stage : Stage) (s : Connection) (at : Place) (of : Sapi) (message : List ℕ) →
    dtap_in o reference stage s at of message ≡ None →
    o ≡ None
in_no_tenure None reference stage s at of message none = refl
in_no_tenure (Some zero) reference stage s at of message none = absurd cc
in_no_tenure (Some (suc place)) reference stage s at of message none = absurd cc

pub no_tenure : (at : Place) (serving : Channel) (ds : List Drain) →
    tenure_at at serving ds ≡ None →
    (is_at at serving ≡ false) × (drain_at at ds ≡ None)
no_tenure at serving ds none = elim (cases_Bool (is_at at serving)) [
  | inl hit ↦ absurd (let found : Some (length ds) ≡ None = sym (cond-true _ (Some (length ds)) (drain_at at ds) hit) ∙ none in cc)
  | inr miss ↦ (miss, sym (cond-false _ (Some (length ds)) (drain_at at ds) miss) ∙ none)
]

none_drains : (at : Place) (ds : List Drain) → ds ≡ [] → AreAway at (undone ds)
none_drains at ds none = subst (λ (xs : List Drain). AreAway at (undone xs)) (sym none) tt

dtap_misses : (state : State) (s : Connection) →
    s.state ≡ state →
    (at : Place) (of : Sapi) (message : List ℕ) (before : List Message) (ts : List ServedTenure) →
    (state ≡ WaitConfirm) ⊎ IsLive state →
    IsValid s →
    on_dtap state s at of message ≡ None →
    Follows s before ts →
    NoneOn at ts
dtap_misses WaitConfirm s same at of message before ts in_it valid none follows =
    none_on s before ts at follows (none_drains at s.draining (by_state WaitConfirm s same valid).none_drains) (none_if (is_at at s.serving) (hold_up WaitConfirm 0 of message s) none)
dtap_misses (Live reference stage) s same at of message before ts in_it valid none follows =
    let parts = no_tenure at s.serving s.draining (in_no_tenure (tenure_at at s.serving s.draining) reference stage s at of message none) in
    none_on s before ts at follows (away_none at s.draining parts.1) parts.0
dtap_misses WaitActivation s same at of message before ts (inl is) valid none follows = absurd cc
dtap_misses WaitActivation s same at of message before ts (inr live) valid none follows = absurd live
dtap_misses WaitEstablish s same at of message before ts (inl is) valid none follows = absurd cc
dtap_misses WaitEstablish s same at of message before ts (inr live) valid none follows = absurd live
dtap_misses (Closed clearing) s same at of message before ts (inl is) valid none follows = absurd cc
dtap_misses (Closed clearing) s same at of message before ts (inr live) valid none follows = absurd live
dtap_misses Removed s same at of message before ts (inl is) valid none follows = absurd cc
dtap_misses Removed s same at of message before ts (inr live) valid none follows = absurd live

pub drains_none : (o : Option ℕ) (reference : ℕ) (stage : Stage) (offer : Option Channel) (s : Connection) →
    release_in o reference stage offer s ≡ None →
    o ≡ None
drains_none None reference stage offer s none = refl
drains_none (Some place) reference stage offer s none = absurd cc

ack_misses : (state : State) (s : Connection) →
    s.state ≡ state →
    (at : Place) (offer : Option Channel) (before : List Message) (ts : List ServedTenure) →
    (state ≡ WaitConfirm) ⊎ IsLive state →
    IsValid s →
    on_release_ack state s at offer ≡ None →
    Follows s before ts →
    NoneOn at (older ts)
ack_misses WaitConfirm s same at offer before ts in_it valid none follows = follows.old at (none_drains at s.draining (by_state WaitConfirm s same valid).none_drains)
ack_misses (Live reference stage) s same at offer before ts in_it valid none follows = follows.old at (away_none at s.draining (drains_none (drain_at at s.draining) reference stage offer s none))
ack_misses WaitActivation s same at offer before ts (inl is) valid none follows = absurd cc
ack_misses WaitActivation s same at offer before ts (inr live) valid none follows = absurd live
ack_misses WaitEstablish s same at offer before ts (inl is) valid none follows = absurd cc
ack_misses WaitEstablish s same at offer before ts (inr live) valid none follows = absurd live
ack_misses (Closed clearing) s same at offer before ts (inl is) valid none follows = absurd cc
ack_misses (Closed clearing) s same at offer before ts (inr live) valid none follows = absurd live
ack_misses Removed s same at offer before ts (inl is) valid none follows = absurd cc
ack_misses Removed s same at offer before ts (inr live) valid none follows = absurd live

missed : (s : Connection) (input : Input) (offer : Option Channel) (before : List Message) (ts : List ServedTenure) →
    (s.state ≡ WaitConfirm) ⊎ IsLive s.state →
    IsValid s →
    row_of s input offer ≡ None →
    Follows s before ts →
    after_input input [] ts ≡ ts
unfolding row_of
missed s (inputs.Dtap at of message) offer before ts in_it valid none follows = heard_none of at message ts (dtap_misses s.state s refl at of message before ts in_it valid none follows)
missed s (inputs.ReleaseAck at) offer before ts in_it valid none follows = older_none at ts (ack_misses s.state s refl at offer before ts in_it valid none follows)
missed s (inputs.Complete at change cause) offer before ts in_it valid none follows = not_begun ts at
missed s (inputs.EstablishIndication at Zero (Some initial)) offer before ts in_it valid none follows = refl
missed s _ offer before ts in_it valid none follows = refl

-- ---- what a word says of the tenures

-- nothing, where nothing is put; what the input says; or nothing
abbrev pub SaysUp : Word → List ServedTenure → Brought → Type 0
SaysUp word ts nothing = after_word word [] ts ≡ ts
SaysUp word ts (of_frame input) = (put : List Message) → after_word word put ts ≡ after_input input put ts
SaysUp word ts _ = (put : List Message) → after_word word put ts ≡ ts

-- no tenure is on a channel that another connection has, or nobody, or whose station's link is down
pub record AreOwn (c : Controller) (number : ℕ) (ts : List ServedTenure) : Type 0 where
  pub others : (at : Place) → holder (channel_state c at) ≢ Some number → NoneOn at ts
  pub downs : (at : Place) → is_up c at.station ≡ false → NoneOn at ts

held_says : (number : ℕ) (at : Place) (o : Option ℕ) (input : Input) (ts : List ServedTenure) →
    IsAtPlace at input →
    (o ≢ Some number → NoneOn at ts) →
    SaysUp (OnChannel at input) ts (if_held number o input)
held_says number at None input ts is away = none_after at input ts is (away (λ same. cc))
held_says number at (Some holder) input ts is away = elim (cases_Bool (holder == number)) [
  | inl hit ↦ subst (SaysUp (OnChannel at input) ts) (sym (cond-true _ (of_frame input) nothing hit)) (λ put. refl)
  | inr miss ↦ subst (SaysUp (OnChannel at input) ts) (sym (cond-false _ (of_frame input) nothing miss))
      (none_after at input ts is (away (λ same. true≢false (sym (eq-eqb holder number (some holder number same)) ∙ miss))))
]
  where
    some : (m n : ℕ) → (let o : Option ℕ = Some m in o) ≡ Some n → m ≡ n
    some m n same = cc

switch_tenures : (input : Input) (put : List Message) (ts : List ServedTenure) → IsOfSwitch input → ts ≡ after_input input put ts
switch_tenures (inputs.ConnectionConfirm source) put ts of = refl
switch_tenures inputs.ConnectionRefused put ts of = refl
switch_tenures (inputs.Released source) put ts of = refl
switch_tenures (inputs.Downlink sapi message) put ts of = refl
switch_tenures (inputs.AssignmentRequest is_speech) put ts of = refl
switch_tenures inputs.CipherModeCommand put ts of = refl
switch_tenures inputs.ClearCommand put ts of = refl
switch_tenures _ put ts of = absurd of

connection_says : (number destination : ℕ) (input : Input) (ts : List ServedTenure) →
    IsOfSwitch input →
    SaysUp (OnConnection destination input) ts (if_held number (Some destination) input)
connection_says number destination input ts of = elim (cases_Bool (destination == number)) [
  | inl hit ↦ subst (SaysUp (OnConnection destination input) ts) (sym (cond-true _ (of_frame input) nothing hit)) (λ put. switch_tenures input put ts of)
  | inr miss ↦ subst (SaysUp (OnConnection destination input) ts) (sym (cond-false _ (of_frame input) nothing miss)) refl
]

word_says : (c : Controller) (number source : ℕ) (word : Word) (ts : List ServedTenure) →
    IsFrom source word →
    AreOwn c number ts →
    SaysUp word ts (brought_by c number word)
word_says c number source (OnChannel at input) ts from own = held_says number at (holder (channel_state c at)) input ts from.1 (own.others at)
word_says c number source (OnConnection destination input) ts from own = connection_says number destination input ts from.1
word_says c number source (Reports at of report) ts from own = λ put. refl
word_says c number source _ ts from own = refl

down_says : (source : ℕ) (word : Word) (ts : List ServedTenure) →
    IsFrom source word →
    ((at : Place) → at.station ≡ source → NoneOn at ts) →
    after_word word [] ts ≡ ts
down_says source (OnChannel at input) ts from away = none_after at input ts from.1 (away at from.0)
down_says source _ ts from away = refl

what_says : (up : Bool) (c : Controller) (number source : ℕ) (what : What) (ts : List ServedTenure) →
    is_up c source ≡ up →
    AreOwn c number ts →
    SaysUp (word_by source what) ts (if up then brought_with c number source what else nothing)
what_says true c number source (whats.Frame frame) ts is own = word_says c number source (word_of source frame) ts (word_from source frame) own
what_says true c number source whats.Down ts is own = λ put. refl
what_says false c number source (whats.Frame frame) ts is own = down_says source (word_of source frame) ts (word_from source frame) (λ at here. own.downs at (ap (is_up c) here ∙ is))
what_says false c number source whats.Down ts is own = refl

pub step_says : (c : Controller) (number : ℕ) (s : Step) (ts : List ServedTenure) →
    AreOwn c number ts →
    SaysUp (word_in s) ts (brought_in c number s)
step_says c number (Take item) ts own = what_says (is_up c item.source) c number item.source item.what ts refl own
step_says c number (Tick ms) ts own = λ put. refl

none_own : (c : Controller) (number : ℕ) (ts : List ServedTenure) → ts ≡ [] → AreOwn c number ts
none_own c number ts none = record { others = λ at other. subst (NoneOn at) (sym none) tt; downs = λ at down. subst (NoneOn at) (sym none) tt }

follows_own : (c : Controller) (number : ℕ) (s : Connection) (before : List Message) (ts : List ServedTenure) →
    Owns c.channels c.links number (roles_of s) →
    Follows s before ts →
    AreOwn c number ts
follows_own c number s before ts owns follows = record {
  others = λ at other. other_none c.channels c.links number s before at ts owns other follows;
  downs = λ at down. down_none c.channels c.links number s before at ts owns down follows;
}

pub up_own : (state : State) (c : Controller) (number : ℕ) (s : Connection) (before : List Message) (ts : List ServedTenure) →
    Owns c.channels c.links number (roles_of s) →
    UpIn state s before ts →
    AreOwn c number ts
up_own WaitConfirm c number s before ts owns up = follows_own c number s before ts owns up
up_own (Live reference stage) c number s before ts owns up = follows_own c number s before ts owns up
up_own (Closed clearing) c number s before ts owns up = absurd up
up_own Removed c number s before ts owns up = absurd up
up_own _ c number s before ts owns up = none_own c number ts up.0

-- ---- no row fits, or one does by what is brought

-- before access
pub word_none : (word : Word) (put : List Message) → requests put ≡ false → after_word word put [] ≡ []
word_none (OnChannel at input) put none = early_none input put none
word_none _ put none = refl

missed_in : (state : State) (s : Connection) →
    s.state ≡ state →
    (input : Input) (before : List Message) (ts : List ServedTenure) →
    IsValid s →
    FitsNone (of_frame input) (Some s) →
    UpIn state s before ts →
    after_input input [] ts ≡ ts
missed_in WaitConfirm s same input before ts valid none up = missed s input none.0 before ts (inl same) valid none.1 up
missed_in (Live reference stage) s same input before ts valid none up = missed s input none.0 before ts (inr (subst IsLive (sym same) tt)) valid none.1 up
missed_in (Closed clearing) s same input before ts valid none up = absurd up
missed_in Removed s same input before ts valid none up = absurd up
missed_in _ s same input before ts valid none up = subst (λ (us : List ServedTenure). after_input input [] us ≡ us) (sym up.0) (early_none input [] refl)

pub rest_tenures : (s : Connection) (word : Word) (brought : Brought) (before : List Message) (ts : List ServedTenure) →
    SaysUp word ts brought →
    IsValid s →
    FitsNone brought (Some s) →
    UpIn s.state s before ts →
    after_word word [] ts ≡ ts
rest_tenures s word nothing before ts says valid none up = says
rest_tenures s word (of_frame input) before ts says valid none up = says [] ∙ missed_in s.state s refl input before ts valid none up
rest_tenures s word _ before ts says valid none up = says []

pub row_tenures : (word : Word) (brought : Brought) (input : Input) (put : List Message) (ts : List ServedTenure) →
    IsBreak brought →
    IsBrought brought input →
    SaysUp word ts brought →
    after_word word put ts ≡ after_input input put ts
unfolding IsBreak
row_tenures word nothing input put ts break is says = absurd is
row_tenures word (of_frame brought) input put ts break is says = says put ∙ ap (λ (i : Input). after_input i put ts) (sym is)
row_tenures word reports input put ts break is says = says put ∙ ap (λ (i : Input). after_input i put ts) (sym is)
row_tenures word (breaks brought) input put ts break is says = says put ∙ of brought break ∙ ap (λ (i : Input). after_input i put ts) (sym is)
  where
    of : (brought : Input) → IsLinkBreak brought → ts ≡ after_input brought put ts
    of inputs.SwitchDown break = refl
    of (inputs.StationDown station) break = refl
    of _ break = absurd break
row_tenures word passes input put ts break is says = says put ∙ of input is
  where
    of : (input : Input) → IsTimer input → ts ≡ after_input input put ts
    of inputs.Expiry timer = refl
    of inputs.DrainExpiry timer = refl
    of _ timer = absurd timer
