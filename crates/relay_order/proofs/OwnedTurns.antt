-- SPDX-License-Identifier: MIT OR Apache-2.0
-- In every life a message is handed in a tenure of its connection: turn by turn.
use Rattle.std.proofs.Common.{◌≡◌, ◌≢◌, ℕ, zero, suc, ◌+◌, ◌==◌, ◌≤◌, Bool, true, false, if◌then◌else◌, List, [], ◌∷◌, ◌++◌, length, replicate, fold, set, slice_index_or, Option, Some, None, refl, sym, subst, ap, ◌∙◌, inl, inr, true≢false}
use Rattle.std.specs.Option.{option_and_then}
use Rattle.std.proofs.lemmas.Bool.{cases_Bool, cond-false, eqb-true, eq-eqb}
use Rattle.std.proofs.lemmas.List.Sums.{fold-append}
use Rattle.std.specs.List.{AllByRecursion}
use Rattle.conn_messages.specs.declared.channel.Channel.{Channel}
use Rattle.conn_messages.specs.declared.channel.Place.{Place}
use Rattle.conn_messages.specs.declared.out.Out.{Out}
use Rattle.conn_messages.specs.declared.parameters.TheConstants.{SWITCH_LINK}
use Rattle.conn_messages.specs.StationMessage.{access_activation}
use Rattle.conn_rules.specs.declared.input.Input.{Input}
use Rattle.conn_rules.specs.declared.input.Input.TheVariants as inputs
use Rattle.conn_rules.specs.Table.{row_of}
use Rattle.controller_model.specs.declared.channel_state.ChannelState.{ChannelState}
use Rattle.controller_model.specs.declared.channel_state.ChannelState.TheVariants.{Free, InUse}
use Rattle.controller_model.specs.declared.limits.TheConstants.{CHANNEL_NUMBERS}
use Rattle.controller_model.specs.declared.step.Step.{Step}
use Rattle.controller_model.specs.declared.step.Step.TheVariants.{Take, Tick}
use Rattle.controller_model.specs.declared.word.Word.{Word}
use Rattle.controller_model.specs.declared.word.Word.TheVariants.{Nothing, Ping, Asks, OnChannel, Reports, OnConnection}
use Rattle.controller_model.specs.Channels.{access_channel, handover_offer, request_offer}
use Rattle.controller_model.specs.Controller.{Controller, Entry, Turn, turn, each, ignoring, entry_of, with_entry, with_down, channel_state, holder, freed, freed_station, free_channels, is_up, new_controller, state_in, with_state}
use Rattle.controller_model.specs.Life.{all_aged, break_of, concerning, concerning_too, expiry, frees, given, life, may_open, measured, measures, on_break, on_decision, on_expiry, on_freed, on_report, on_what, on_word, pong, row_in, step, take, tick, timed, with_own_input, with_report}
use Rattle.controller_model.specs.LifeLaws.Numbers.{AreRising}
use Rattle.controller_model.specs.LifeLaws.Sending.{IsOctetStep, IsSent}
use Rattle.controller_model.specs.Reading.{word_of}
use Rattle.controller_model.specs.Reports.{decision_over}
use Rattle.controller_model.proofs.LifeLaws.Fitting.{Fits, new_fits, own_carried}
use Rattle.controller_model.proofs.LifeLaws.OwningLife.{break_shut, expiry_holds, new_holds, own_input_holds}
use Rattle.controller_model.proofs.LifeLaws.OwningWords.{Holds}
use Rattle.controller_model.proofs.LifeLaws.Places.{free≢use}
use Rattle.controller_model.proofs.LifeLaws.SoundLife.{life_sends_all}
use Rattle.controller_model.proofs.LifeLaws.Turns.{all_found, expiry_own, own_input_tame, timed_tame}
use Rattle.controller_model.proofs.LifeLaws.UsingLife.{aged_ready, all_here, expiry_numbers, free_at, new_uses, own_input_numbers, ready_by, run_step, station_else, still_here}
use Rattle.controller_model.proofs.LifeLaws.UsingRows.{Uses}
use Rattle.controller_model.proofs.LifeLaws.UsingWords.{IsHere, Ready, free_use, here_of}
use Rattle.dtap_codec.specs.declared.report.Report.{Report}
use Rattle.controller_model.specs.Decision.{Decision}
use Rattle.controller_model.specs.Decision.TheVariants.{Stay, Move}
use Rattle.ruled_relay.specs.declared.item.What.{What}
use Rattle.ruled_relay.specs.declared.item.What.TheVariants as whats
use Rattle.rsl_codec.specs.declared.values.RequestReference.{RequestReference}
use Rattle.settings.specs.Parameters.{AreAllowed, Parameters}
use Rattle.relay_order.proofs.Owners.{Agrees, IsOwner, OwnedTurn, fitting_owned, owner_here, put_agrees, put_owned}
use Rattle.relay_order.proofs.Tenures.{Activated, AreOwned, activates, after_out, and_none, latest, none_activated, requests}

abbrev States : Type 0
States = List (List ChannelState)

-- what a turn hands is owned, where its frames are read as they were put
abbrev Owned : Activated → Turn → Type 0
Owned activated t = AllByRecursion IsSent t.outs → OwnedTurn activated t

-- ---- lists

all_front : {A : Type 0} (P : A → Type 0) (xs ys : List A) → AllByRecursion P (xs ++ ys) → AllByRecursion P xs
all_front P [] ys all = tt
all_front P (x ∷ xs) ys all = (all.0, all_front P xs ys all.1)

all_behind : {A : Type 0} (P : A → Type 0) (xs ys : List A) → AllByRecursion P (xs ++ ys) → AllByRecursion P ys
all_behind P [] ys all = all
all_behind P (x ∷ xs) ys all = all_behind P xs ys all.1

owned_append : (activated : Activated) (xs ys : List Out) →
    AreOwned activated xs →
    AreOwned (fold after_out activated xs) ys →
    AreOwned activated (xs ++ ys)
owned_append activated [] ys front behind = behind
owned_append activated (x ∷ xs) ys front behind = (front.0, owned_append (after_out activated x) xs ys front.1 behind)

both_owned : (activated : Activated) (t u : Turn) →
    OwnedTurn activated t →
    OwnedTurn (fold after_out activated t.outs) u →
    OwnedTurn activated (turn (t.outs ++ u.outs) u.next)
both_owned activated t u first rest = record {
  agrees = subst (λ (now : Activated). Agrees now u.next.channels) (sym (fold-append after_out activated t.outs u.outs)) rest.agrees;
  owned = owned_append activated t.outs u.outs first.owned rest.owned;
}

-- ---- frames that arrived

quiet_owned : (activated : Activated) (c : Controller) → Agrees activated c.channels → OwnedTurn activated (turn [] c)
quiet_owned activated c agrees = record { agrees = agrees; owned = tt }

ignoring_owned : (activated : Activated) (c : Controller) → Agrees activated c.channels → OwnedTurn activated (ignoring c)
ignoring_owned activated c agrees = record { agrees = agrees; owned = tt }

freed_agrees : (activated : Activated) (at : Place) (channels : States) →
    Agrees activated channels →
    Agrees activated (with_state at Free channels)
freed_agrees activated at channels agrees = record { each = λ other n is. agrees.each other n (free_use at other channels (InUse n) (λ same. free≢use n (sym same)) is) }

concerning_owned : (activated : Activated) (c : Controller) (input : Input) (m : ℕ) (o : Option Entry) →
    entry_of c m ≡ o →
    Ready c →
    Agrees activated c.channels →
    Owned activated (concerning input c o)
concerning_owned activated c input m None there ready agrees sent = ignoring_owned activated c agrees
concerning_owned activated c input m (Some e) there ready agrees sent =
    fitting_owned activated c (ignoring c) e input (request_offer c e.connection input) (row_in c e.connection input) refl
    (owner_here c.links activated c e (here_of c m e ready there) ready.holds agrees) agrees (ignoring_owned activated c agrees) sent

too_owned : (activated : Activated) (at : Place) (c : Controller) (input : Input) (m : ℕ) (o : Option Entry) →
    entry_of c m ≡ o →
    Ready c →
    Agrees activated c.channels →
    Owned activated (concerning_too input (freed at c) o)
too_owned activated at c input m None there ready agrees sent = quiet_owned activated (freed at c) (freed_agrees activated at c.channels agrees)
too_owned activated at c input m (Some e) there ready agrees sent =
    let now = freed_agrees activated at c.channels agrees in
    fitting_owned activated (freed at c) (turn [] (freed at c)) e input (request_offer (freed at c) e.connection input) (row_in (freed at c) e.connection input) refl
    (owner_here c.links activated c e (here_of c m e ready there) ready.holds agrees) now (quiet_owned activated (freed at c) now) sent

freed_owned : (activated : Activated) (b : Bool) (at : Place) (c : Controller) (input : Input) (m : ℕ) (o : Option Entry) →
    entry_of c m ≡ o →
    Ready c →
    Agrees activated c.channels →
    Owned activated (on_freed b at input c o)
freed_owned activated true at c input m o there ready agrees sent = too_owned activated at c input m o there ready agrees sent
freed_owned activated false at c input m o there ready agrees sent = concerning_owned activated c input m o there ready agrees sent

none_owned : (activated : Activated) (b : Bool) (at : Place) (c : Controller) (input : Input) →
    Agrees activated c.channels →
    Owned activated (on_freed b at input c None)
none_owned activated true at c input agrees sent = quiet_owned activated (freed at c) (freed_agrees activated at c.channels agrees)
none_owned activated false at c input agrees sent = ignoring_owned activated c agrees

held_owned : (activated : Activated) (at : Place) (c : Controller) (input : Input) (state : ChannelState) (held : Option ℕ) → Ready c → Agrees activated c.channels
    → Owned activated (on_freed (frees state (option_and_then (entry_of c) held) input) at input c (option_and_then (entry_of c) held))
held_owned activated at c input state None ready agrees sent = none_owned activated (frees state None input) at c input agrees sent
held_owned activated at c input state (Some m) ready agrees sent = freed_owned activated (frees state (entry_of c m) input) at c input m (entry_of c m) refl ready agrees sent

given_owned : (activated : Activated) (c : Controller) (request : RequestReference) (delay : ℕ) (o : Option Channel) →
    1 ≤ c.next_number →
    Agrees activated c.channels →
    Owned activated (given c request delay o)
given_owned activated c request delay None from_one agrees sent = ignoring_owned activated c agrees
given_owned activated c request delay (Some channel) from_one agrees sent = record {
  agrees = put_agrees activated c.next_number c.channels (access_activation channel ∷ []) sent agrees;
  owned = put_owned activated c.next_number (λ at. false) (access_activation channel ∷ []) from_one sent (record { each = λ at is. absurd (true≢false (sym is)) }) (tt, tt);
}

if_owned : (activated : Activated) (b : Bool) (c : Controller) (t : Turn) →
    Agrees activated c.channels →
    Owned activated t →
    Owned activated (if b then t else ignoring c)
if_owned activated true c t agrees after sent = after sent
if_owned activated false c t agrees after sent = ignoring_owned activated c agrees

decision_owned : (activated : Activated) (d : Decision) (c : Controller) (e : Entry) →
    IsOwner activated e →
    Agrees activated c.channels →
    Owned activated (on_decision d c e)
decision_owned activated Stay c e owner agrees sent = quiet_owned activated c agrees
decision_owned activated (Move cell) c e owner agrees sent =
    fitting_owned activated c (turn [] c) e inputs.Move (handover_offer c e.connection.serving cell) (row_of e.connection inputs.Move (handover_offer c e.connection.serving cell)) refl owner agrees (quiet_owned activated c agrees) sent

report_owned : (activated : Activated) (at : Place) (of : ℕ) (report : Report) (c : Controller) (m : ℕ) (o : Option Entry) →
    entry_of c m ≡ o →
    Ready c →
    Agrees activated c.channels →
    Owned activated (on_report at of report c o)
report_owned activated at of report c m None there ready agrees sent = ignoring_owned activated c agrees
report_owned activated at of report c m (Some e) there ready agrees sent =
    let put : Entry = with_report of report e in
    let owner = owner_here c.links activated c e (here_of c m e ready there) ready.holds agrees in
    if_owned activated (measures at e) c (measured of report c e) agrees
    (decision_owned activated (decision_over put.averages.settings put.averages.reports of) (with_entry put c) put
    (record { from_one = owner.from_one; valid = owner.valid; apart = owner.apart; mine = owner.mine }) agrees) sent

report_on_owned : (activated : Activated) (at : Place) (of : ℕ) (report : Report) (c : Controller) (held : Option ℕ) →
    Ready c →
    Agrees activated c.channels →
    Owned activated (on_report at of report c (option_and_then (entry_of c) held))
report_on_owned activated at of report c None ready agrees sent = ignoring_owned activated c agrees
report_on_owned activated at of report c (Some m) ready agrees sent = report_owned activated at of report c m (entry_of c m) refl ready agrees sent

-- PONG activates nothing, and hands nothing
pong_activates : (source : ℕ) (at : Place) → activates at (pong source) ≡ false
unfolding activates
pong_activates source at = and_none (source == at.station)

pong_requests : (source : ℕ) (at : Place) → requests at (pong source) ≡ false
unfolding requests
pong_requests source at = and_none (source == at.station)

pong_owned : (activated : Activated) (source : ℕ) (c : Controller) →
    Agrees activated c.channels →
    OwnedTurn activated (turn (pong source ∷ []) c)
pong_owned activated source c agrees = record {
  agrees = record { each = λ at n is. ap latest (cond-false _ (0 ∷ activated at) (activated at) (pong_activates source at)) ∙ agrees.each at n is };
  owned = (record { each = λ at is. absurd (true≢false (sym is ∙ pong_requests source at)) }, tt);
}

word_owned : (activated : Activated) (source : ℕ) (word : Word) (c : Controller) →
    Ready c →
    Agrees activated c.channels →
    Owned activated (on_word source word c)
word_owned activated source Nothing c ready agrees sent = ignoring_owned activated c agrees
word_owned activated source Ping c ready agrees sent = pong_owned activated source c agrees
word_owned activated source (Asks request delay) c ready agrees sent = if_owned activated (may_open c) c (given c request delay (access_channel c source)) agrees (given_owned activated c request delay (access_channel c source) ready.numbered.next agrees) sent
word_owned activated source (OnChannel at input) c ready agrees sent = held_owned activated at c input (channel_state c at) (holder (channel_state c at)) ready agrees sent
word_owned activated source (Reports at of report) c ready agrees sent = report_on_owned activated at of report c (holder (channel_state c at)) ready agrees sent
word_owned activated source (OnConnection m input) c ready agrees sent = concerning_owned activated c input m (entry_of c m) refl ready agrees sent

-- ---- one connection after the other

own_input_owned : (links : List Bool) (input : Input) (activated : Activated) (c : Controller) (e : Entry) →
    IsHere links c e →
    Holds links c →
    Agrees activated c.channels →
    Owned activated (with_own_input input c e)
own_input_owned links input activated c e here holds agrees sent =
    fitting_owned activated c (turn [] c) e input (request_offer c e.connection input) (row_in c e.connection input) refl (owner_here links activated c e here holds agrees) agrees (quiet_owned activated c agrees) sent

expiry_owned : (links : List Bool) (o : Option Input) (activated : Activated) (c : Controller) (e : Entry) →
    IsHere links c e →
    Holds links c →
    Agrees activated c.channels →
    Owned activated (on_expiry o c e)
expiry_owned links None activated c e here holds agrees sent = quiet_owned activated c agrees
expiry_owned links (Some input) activated c e here holds agrees sent = own_input_owned links input activated c e here holds agrees sent

each_owned : (links : List Bool) (f : Controller → Entry → Turn) → ((c : Controller) (e : Entry) → AreRising c.entries → AreRising (f c e).next.entries) → ((m : ℕ) (c : Controller) (e : Entry) → m ≢ e.connection.number → entry_of (f c e).next m ≡ entry_of c m) →
    ((c : Controller) (e : Entry) → (f c e).next.next_number ≡ c.next_number) → ((c : Controller) (e : Entry) → IsHere links c e → Holds links c → Holds links (f c e).next) →
    ((activated : Activated) (c : Controller) (e : Entry) → IsHere links c e → Holds links c → Agrees activated c.channels → Owned activated (f c e)) →
    (activated : Activated) (c : Controller) (xs : List Entry) → AreRising xs → AllByRecursion (IsHere links c) xs → Holds links c → Agrees activated c.channels → Owned activated (each f c xs)
each_owned links f order leaves numbers keeps owns activated c [] sorted here holds agrees sent = quiet_owned activated c agrees
each_owned links f order leaves numbers keeps owns activated c (x ∷ xs) sorted here holds agrees sent =
    let rest : Turn = each f (f c x).next xs in
    let one = owns activated c x here.0 holds agrees (all_front IsSent (f c x).outs rest.outs sent) in
    let later = still_here links f c x xs order leaves numbers sorted.0 here.1 in
    both_owned activated (f c x) rest one
    (each_owned links f order leaves numbers keeps owns (fold after_out activated (f c x).outs) (f c x).next xs sorted.1 later (keeps c x here.0 holds) one.agrees (all_behind IsSent (f c x).outs rest.outs sent))

-- ---- a break

-- as in crates/controller_model/proofs/LifeLaws/UsingLife.antt
station_free : (channels : States) (station number : ℕ) →
    slice_index_or (slice_index_or (set channels station free_channels) station []) number Free ≡ Free
station_free [] station number = refl
station_free (row ∷ channels) zero number = free_at CHANNEL_NUMBERS number
station_free (row ∷ channels) (suc station) number = station_free channels station number

station_here : (channels : States) (source : ℕ) (at : Place) → at.station ≡ source → state_in (set channels source free_channels) at ≡ Free
station_here channels source at same = subst (λ (k : ℕ). slice_index_or (slice_index_or (set channels k free_channels) at.station []) at.number Free ≡ Free) same (station_free channels at.station at.number)

station_agrees : (activated : Activated) (source : ℕ) (channels : States) →
    Agrees activated channels →
    Agrees activated (set channels source free_channels)
station_agrees activated source channels agrees = record {
  each = λ at n is. elim (cases_Bool (at.station == source)) [
    | inl hit ↦ absurd (free≢use n (sym (station_here channels source at (eqb-true at.station source hit)) ∙ is))
    | inr miss ↦ agrees.each at n (sym (station_else channels source at (λ same. true≢false (sym (eq-eqb at.station source same) ∙ miss))) ∙ is)
  ];
}

without_owned : (activated : Activated) (b : Bool) (source : ℕ) (t : Turn) →
    OwnedTurn activated t →
    OwnedTurn activated (turn t.outs (if b then t.next else freed_station source t.next))
without_owned activated true source t owned = record { agrees = owned.agrees; owned = owned.owned }
without_owned activated false source t owned = record { agrees = station_agrees (fold after_out activated t.outs) source t.next.channels owned.agrees; owned = owned.owned }

break_owned : (activated : Activated) (source : ℕ) (c : Controller) →
    Ready c →
    Agrees activated c.channels →
    Owned activated (on_break source c)
break_owned activated source c ready agrees sent =
    let down : Controller = with_down source c in
    let f : Controller → Entry → Turn = with_own_input (break_of source) in
    let tame = own_input_tame 1 1 true (break_of source) in
    without_owned activated (source == SWITCH_LINK) source (each f down c.entries)
    (each_owned c.links f tame.rising tame.leaves (own_input_numbers (break_of source))
    (λ d e here holds. own_input_holds c.links d e (break_of source) (break_shut (break_of source) (own_carried source)) here.rising here.there here.valid holds)
    (own_input_owned c.links (break_of source))
    activated down c.entries ready.numbered.rising (down_here c.entries (all_here c c.entries ready (all_found c.entries ready.numbered.rising)))
    (record { shaped = ready.holds.shaped; each = ready.holds.each }) agrees sent)
  where
    down_here : (xs : List Entry) → AllByRecursion (IsHere c.links c) xs → AllByRecursion (IsHere c.links (with_down source c)) xs
    down_here [] here = tt
    down_here (x ∷ xs) here = (
      record { rising = here.0.rising; there = here.0.there; valid = here.0.valid; from_one = here.0.from_one; below = here.0.below; linked = here.0.linked },
      down_here xs here.1,
    )

what_owned : (activated : Activated) (up : Bool) (source : ℕ) (what : What) (c : Controller) →
    Ready c →
    Agrees activated c.channels →
    Owned activated (on_what up source what c)
what_owned activated true source (whats.Frame frame) c ready agrees sent = word_owned activated source (word_of source frame) c ready agrees sent
what_owned activated true source whats.Down c ready agrees sent = break_owned activated source c ready agrees sent
what_owned activated false source what c ready agrees sent = ignoring_owned activated c agrees

-- ---- time passes

tick_owned : (activated : Activated) (ms : ℕ) (c : Controller) → Ready c → Agrees activated c.channels → Owned activated (tick ms c)
unfolding tick
tick_owned activated ms c ready agrees sent =
    let old : Controller = all_aged ms c in
    let tame = timed_tame 1 1 true in
    let now = aged_ready ms c ready in
    each_owned c.links timed tame.rising tame.leaves (λ d e. expiry_numbers (expiry d.settings.timers e.connection) d e)
    (λ d e here holds. expiry_holds c.links (expiry d.settings.timers e.connection) d e (expiry_own _ _) here.rising here.there here.valid holds)
    (λ since d e here holds agrees. expiry_owned c.links (expiry d.settings.timers e.connection) since d e here holds agrees)
    activated old old.entries now.numbered.rising (all_here old old.entries now (all_found old.entries now.numbered.rising)) now.holds agrees sent

-- ---- a step, and a life

step_owned : (activated : Activated) (c : Controller) (s : Step) → Ready c → Agrees activated c.channels → Owned activated (step c s)
unfolding take
step_owned activated c (Take item) ready agrees sent = what_owned activated (is_up c item.source) item.source item.what c ready agrees sent
step_owned activated c (Tick ms) ready agrees sent = tick_owned activated ms c ready agrees sent

run_owned : (activated : Activated) (c : Controller) (steps : List Step) →
    ((n : ℕ) → 1 ≤ n → Fits n c) →
    Holds c.links c →
    Uses c.links c.links c →
    Agrees activated c.channels →
    Owned activated (each step c steps)
run_owned activated c [] fits holds uses agrees sent = quiet_owned activated c agrees
run_owned activated c (s ∷ ss) fits holds uses agrees sent =
    let rest : Turn = each step (step c s).next ss in
    let after = run_step c s fits holds uses in
    let one = step_owned activated c s (ready_by c fits holds uses) agrees (all_front IsSent (step c s).outs rest.outs sent) in
    both_owned activated (step c s) rest one
    (run_owned (fold after_out activated (step c s).outs) (step c s).next ss after.fits after.holds after.uses one.agrees (all_behind IsSent (step c s).outs rest.outs sent))

-- as in crates/controller_model/proofs/LifeLaws/UsingLife.antt
new_free : (k : ℕ) (at : Place) → state_in (replicate k free_channels) at ≡ Free
new_free k at = by k at.station
  where
    by : (k station : ℕ) → slice_index_or (slice_index_or (replicate k free_channels) station []) at.number Free ≡ Free
    by zero station = refl
    by (suc k) zero = free_at CHANNEL_NUMBERS at.number
    by (suc k) (suc station) = by k station

new_agrees : (p : Parameters) → Agrees none_activated (new_controller p).channels
new_agrees p = record { each = λ at n is. absurd (free≢use n (sym (new_free (length p.cells + 1) at) ∙ is)) }

-- Each frame of a life that hands something hands it on a channel that was last activated for its
-- connection.
pub life_owned : (p : Parameters) (steps : List Step) →
    AreAllowed p →
    AllByRecursion IsOctetStep steps →
    AreOwned none_activated (life p steps).outs
unfolding life
life_owned p steps allowed octets =
    (run_owned none_activated (new_controller p) steps (λ n from_one. new_fits n p) (new_holds p allowed) (new_uses p) (new_agrees p) (life_sends_all p steps allowed octets)).owned
