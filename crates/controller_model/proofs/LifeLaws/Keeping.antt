-- SPDX-License-Identifier: MIT OR Apache-2.0
-- A frame leaves the releasing channels of all connections that it doesn't concern.
use Rattle.controller_model.proofs.Prelude.{◌≡◌, ◌≢◌, ℕ, Bool, true, false, if◌then◌else◌, List, [], ◌∷◌, fold, Option, Some, None, refl}
use Rattle.controller_model.proofs.Prelude.{sym, subst, ap, ◌∙◌, inl, inr, AllByRecursion, Change, Assignment, Handover, Channel, Place}
use Rattle.controller_model.proofs.Prelude.{Message, Station, Request, Data, ReleaseComplete, change_activation, rf_channel_release}
use Rattle.controller_model.proofs.Prelude.{AllByRecursion-append, AllByRecursion-filter, Input, Target, Connection, TargetRole, Roles}
use Rattle.controller_model.proofs.Prelude.{RoleStep, RoleEnd, ChangesRoles, MayBegin, roles_of, after_step, step_by, step_orders}
use Rattle.controller_model.proofs.Prelude.{begin_orders, end_messages, target_channels, those_sent, to_stations, orders, carries_on, ends}
use Rattle.controller_model.proofs.Prelude.{had_ended, refused, drops, dismisses, unchanged, commands, completes, reverts, leaves}
use Rattle.controller_model.proofs.Prelude.{IsValid}
use Rattle.controller_model.proofs.Prelude.{Row, IsOpen, serving_after, Report, Decision, Stay, Move, RequestReference, row_of, AreIn}
use Rattle.controller_model.proofs.Prelude.{Sdcch, ChannelState, Free, InUse, Releasing, Word, Asks, OnChannel, Reports, OnConnection}
use Rattle.controller_model.proofs.Prelude.{access_channel, handover_offer, kind_of, request_offer, Controller, Entry, Turn, turn, ignoring}
use Rattle.controller_model.proofs.Prelude.{entry_of, freed, with_entry, channel_state, channels_after, holder, place_at, place_of}
use Rattle.controller_model.proofs.Prelude.{state_in, by_fitting, concerning, concerning_too, entry_at, frees, given, may_open, measured}
use Rattle.controller_model.proofs.Prelude.{measures, on_decision, on_freed, on_report, on_state, on_word, row_in, with_report, concerned}
use Rattle.controller_model.proofs.Prelude.{decision_over}
use Rattle.conn_rules.specs.declared.input.Input.TheVariants as inputs
use Rattle.controller_model.proofs.LifeLaws.Entries.{found_number}
use Rattle.controller_model.proofs.LifeLaws.OwningSteps.{offered_free}
use Rattle.controller_model.proofs.LifeLaws.OwningWords.{Holds, assignment_offers, changes_of, freed_shaped, owns_entry}
use Rattle.controller_model.proofs.LifeLaws.Places.{state_else, use≢release, free≢release}
use Rattle.controller_model.proofs.LifeLaws.UsingRows.{fold_release, set_use}
use Rattle.controller_model.proofs.LifeLaws.UsingWords.{Ready, free_use, here_of}
use Rattle.rsl_codec.specs.declared.rsl.Rsl.TheVariants as rsl

abbrev States : Type 0
States = List (List ChannelState)

-- ---- orders that pass a channel by

abbrev pub Avoids : Place → Message → Type 0
Avoids at (Station station (rsl.ChannelActivation a)) = place_at station a.channel ≢ at
Avoids at (Station station (rsl.RfChannelRelease channel)) = place_at station channel ≢ at
Avoids at _ = Unit {0}

fold_avoids : (m : ℕ) (at : Place) (channels : States) (ms : List Message) →
    AllByRecursion (Avoids at) ms →
    state_in (fold (channels_after m) channels ms) at ≡ state_in channels at
fold_avoids m at channels [] all = refl
fold_avoids m at channels (x ∷ xs) all = fold_avoids m at (channels_after m channels x) xs all.1 ∙ of x all.0
  where
    of : (x : Message) → Avoids at x → state_in (channels_after m channels x) at ≡ state_in channels at
    of (Station station (rsl.ChannelActivation a)) differ = state_else channels (place_at station a.channel) at (InUse m) (λ same. differ (sym same))
    of (Station station (rsl.RfChannelRelease channel)) differ = state_else channels (place_at station channel) at (Releasing m) (λ same. differ (sym same))
    of _ differ = refl

pub from_orders : (at : Place) (ms : List Message) → AllByRecursion (Avoids at) (orders ms) → AllByRecursion (Avoids at) ms
from_orders at [] all = tt
from_orders at (Station station (rsl.ChannelActivation a) ∷ ms) all = (all.0, from_orders at ms all.1)
from_orders at (Station station (rsl.RfChannelRelease channel) ∷ ms) all = (all.0, from_orders at ms all.1)
from_orders at (Station station _ ∷ ms) all = (tt, from_orders at ms all)
from_orders at (Request message ∷ ms) all = (tt, from_orders at ms all)
from_orders at (Data destination message ∷ ms) all = (tt, from_orders at ms all)
from_orders at (ReleaseComplete destination ∷ ms) all = (tt, from_orders at ms all)

pub from_stations : (at : Place) (ms : List Message) → AllByRecursion (Avoids at) (to_stations ms) → AllByRecursion (Avoids at) ms
from_stations at [] all = tt
from_stations at (Station station message ∷ ms) all = (all.0, from_stations at ms all.1)
from_stations at (Request message ∷ ms) all = (tt, from_stations at ms all)
from_stations at (Data destination message ∷ ms) all = (tt, from_stations at ms all)
from_stations at (ReleaseComplete destination ∷ ms) all = (tt, from_stations at ms all)

pub sent_avoid : (at : Place) (input : Input) (ms : List Message) →
    AllByRecursion (Avoids at) ms →
    AllByRecursion (Avoids at) (those_sent input ms)
sent_avoid at (inputs.StationDown station) ms all = AllByRecursion-filter (Avoids at) _ ms all
sent_avoid at _ ms all = all

-- the channels that a connection uses are elsewhere
abbrev pub AreElsewhere : Place → Roles → Type 0
AreElsewhere at roles = AllByRecursion (λ (c : Channel). place_of c ≢ at) (roles.serving ∷ target_channels roles.target)

pub step_avoids : (at : Place) (step : RoleStep) (roles : Roles) (target : Option TargetRole) →
    AreElsewhere at (record roles { target = target }) →
    AllByRecursion (Avoids at) (step_orders step (record roles { target = target }))
step_avoids at unchanged roles target away = tt
step_avoids at commands roles target away = tt
step_avoids at completes roles target away = (away.0, tt)
step_avoids at reverts roles None away = tt
step_avoids at reverts roles (Some t) away = by t.is_commanded
  where
    by : (b : Bool) → AllByRecursion (Avoids at) (if b then rf_channel_release t.target.channel ∷ [] else [])
    by true = (away.1.0, tt)
    by false = tt
step_avoids at (leaves place) roles target away = tt

begin_avoids : (at : Place) (begun : Option Target) (input : Input) (offer : Option Channel) (roles : Roles) →
    MayBegin begun input offer roles →
    ((c : Channel) → offer ≡ Some c → place_of c ≢ at) →
    AllByRecursion (Avoids at) (begin_orders begun)
begin_avoids at None input offer roles may offered = tt
begin_avoids at (Some target) input offer roles may offered = by target.change
  where
    by : (change : Change) → AllByRecursion (Avoids at) (change_activation change target.channel ∷ [])
    by Assignment = (offered target.channel may.1, tt)
    by Handover = (offered target.channel may.1, tt)

pub end_avoids : (at : Place) (end : RoleEnd) (roles : Roles) (target : Option TargetRole) →
    AreElsewhere at (record roles { target = target }) →
    AllByRecursion (Avoids at) (end_messages end (record roles { target = target }))
end_avoids at refused roles target away = tt
end_avoids at drops roles target away = (away.0, tt)
end_avoids at (dismisses cause) roles None away = (tt, (away.0, tt))
end_avoids at (dismisses cause) roles (Some t) away = (tt, (away.0, (away.1.0, tt)))

row_avoids : (at : Place) (s : Connection) (input : Input) (offer : Option Channel) (r : Row) →
    ChangesRoles s input offer r →
    (IsOpen s.state → AreElsewhere at (roles_of s)) →
    ((c : Channel) → offer ≡ Some c → place_of c ≢ at) →
    AllByRecursion (Avoids at) r.outs
row_avoids at s input offer r (carries_on was_open is_open on) away offered =
    let step : RoleStep = step_by input (roles_of s) in
    from_orders at r.outs (subst (AllByRecursion (Avoids at)) (sym on.ordered)
    (AllByRecursion-append (Avoids at) (step_orders step (roles_of s)) (begin_orders on.begun) (step_avoids at step (roles_of s) (roles_of s).target (away was_open)) (begin_avoids at on.begun input offer (after_step step (roles_of s)) on.may offered)))
row_avoids at s input offer r (ends was_open shut over) away offered =
    from_stations at r.outs (subst (AllByRecursion (Avoids at)) (sym over.ordered) (sent_avoid at input (end_messages over.end (roles_of s)) (end_avoids at over.end (roles_of s) (roles_of s).target (away was_open))))
row_avoids at s input offer r (had_ended was_shut shut nothing) away offered = from_stations at r.outs (subst (AllByRecursion (Avoids at)) (sym nothing) tt)

-- ---- a row of another connection

-- the channel is still releasing by it, or wasn't
pub record Keeps (n : ℕ) (before after : States) : Type 0 where
  pub still : (at : Place) → state_in before at ≡ Releasing n → state_in after at ≡ Releasing n
  pub was : (at : Place) → state_in after at ≡ Releasing n → state_in before at ≡ Releasing n

pub keeps_same : (n : ℕ) (channels : States) → Keeps n channels channels
keeps_same n channels = record { still = λ at is. is; was = λ at is. is }

pub elsewhere : (channels : States) (m : ℕ) (state : ChannelState) (at : Place) (cs : List Channel) →
    InUse m ≢ state →
    AreIn channels (InUse m) cs →
    state_in channels at ≡ state →
    AllByRecursion (λ (c : Channel). place_of c ≢ at) cs
elsewhere channels m state at [] differ all is = tt
elsewhere channels m state at (c ∷ cs) differ all is = (λ same. differ (sym all.0 ∙ ap (state_in channels) same ∙ is), elsewhere channels m state at cs differ all.1 is)

-- no channel that a connection uses is releasing by another
abbrev IsElsewhere : Controller → ℕ → Entry → Type 0
IsElsewhere c n e = (at : Place) → channel_state c at ≡ Releasing n → IsOpen e.connection.state → AreElsewhere at (roles_of e.connection)

own_elsewhere : (links : List Bool) (c : Controller) (e : Entry) (n : ℕ) →
    entry_of c e.connection.number ≡ Some e →
    Holds links c →
    IsElsewhere c n e
own_elsewhere links c e n there holds at is is_open = elsewhere c.channels e.connection.number (Releasing n) at (e.connection.serving ∷ target_channels (roles_of e.connection).target) (use≢release e.connection.number n) (owns_entry links c e there holds is_open).using is

-- the channels are those of the controller, one perhaps freed
row_keeps : (links : List Bool) (c : Controller) (channels : States) (e : Entry) (input : Input) (offer : Option Channel) (r : Row) (n : ℕ) → n ≢ e.connection.number → IsValid e.connection → IsElsewhere c n e → row_of e.connection input offer ≡ Some r → Keeps n c.channels channels →
    ((d : Channel) → offer ≡ Some d → state_in channels (place_of d) ≡ Free) → Keeps n c.channels (fold (channels_after e.connection.number) channels r.outs)
row_keeps links c channels e input offer r n differ valid own fits keeps offered = record {
  still = λ at is.
      let now = keeps.still at is in
      fold_avoids e.connection.number at channels r.outs (row_avoids at e.connection input offer r (changes_of e.connection input offer r valid fits) (own at is)
      (λ d is_offer same. free≢release n (sym (offered d is_offer) ∙ ap (state_in channels) same ∙ now))) ∙ now;
  was = λ at is. elim (fold_release e.connection.number n at channels r.outs is) [
    | inl own ↦ absurd (differ own)
    | inr before ↦ keeps.was at before
  ];
}

fitting_keeps : (links : List Bool) (c d : Controller) (otherwise : Turn) (e : Entry) (input : Input) (offer : Option Channel) (o : Option Row) (n : ℕ) → row_of e.connection input offer ≡ o → n ≢ e.connection.number → IsValid e.connection → IsElsewhere c n e → Keeps n c.channels d.channels →
    ((f : Channel) → offer ≡ Some f → state_in d.channels (place_of f) ≡ Free) → Keeps n c.channels otherwise.next.channels → Keeps n c.channels (by_fitting otherwise e o d).next.channels
fitting_keeps links c d otherwise e input offer None n is differ valid own keeps offered same = same
fitting_keeps links c d otherwise e input offer (Some r) n is differ valid own keeps offered same = row_keeps links c d.channels e input offer r n differ valid own is keeps offered

-- ---- words

other_entry : (c : Controller) (m n : ℕ) (e : Entry) → n ≢ m → entry_of c m ≡ Some e → n ≢ e.connection.number
other_entry c m n e differ there same = differ (same ∙ found_number m c.entries e there)

concerning_keeps : (n m : ℕ) (input : Input) (c : Controller) (o : Option Entry) →
    n ≢ m →
    entry_of c m ≡ o →
    Ready c →
    Keeps n c.channels (concerning input c o).next.channels
concerning_keeps n m input c None differ there ready = keeps_same n c.channels
concerning_keeps n m input c (Some e) differ there ready =
    fitting_keeps c.links c c (ignoring c) e input (request_offer c e.connection input) (row_in c e.connection input) n refl (other_entry c m n e differ there) (here_of c m e ready there).valid (own_elsewhere c.links c e n (here_of c m e ready there).there ready.holds) (keeps_same n c.channels)
    (λ f is. (assignment_offers c (serving_after e.connection (row_of e.connection input None)) f ready.holds.shaped is).is_free) (keeps_same n c.channels)

freed_keeps : (n : ℕ) (at : Place) (c : Controller) → channel_state c at ≢ Releasing n → Keeps n c.channels (freed at c).channels
freed_keeps n at c other = record {
  still = λ place is. state_else c.channels at place Free (λ same. other (ap (state_in c.channels) (sym same) ∙ is)) ∙ is;
  was = λ place is. free_use at place c.channels (Releasing n) (λ same. free≢release n (sym same)) is;
}

too_keeps : (n m : ℕ) (at : Place) (input : Input) (c : Controller) (o : Option Entry) →
    n ≢ m →
    channel_state c at ≢ Releasing n →
    entry_of c m ≡ o →
    Ready c →
    Keeps n c.channels (concerning_too input (freed at c) o).next.channels
too_keeps n m at input c None differ other there ready = freed_keeps n at c other
too_keeps n m at input c (Some e) differ other there ready =
    fitting_keeps c.links c (freed at c) (turn [] (freed at c)) e input (request_offer (freed at c) e.connection input) (row_in (freed at c) e.connection input) n refl (other_entry c m n e differ there) (here_of c m e ready there).valid (own_elsewhere c.links c e n (here_of c m e ready there).there ready.holds) (freed_keeps n at c other)
    (λ f is. (assignment_offers (freed at c) (serving_after e.connection (row_of e.connection input None)) f (freed_shaped at c ready.holds.shaped) is).is_free) (freed_keeps n at c other)

on_freed_keeps : (n m : ℕ) (b : Bool) (at : Place) (input : Input) (c : Controller) (o : Option Entry) →
    n ≢ m →
    channel_state c at ≢ Releasing n →
    entry_of c m ≡ o →
    Ready c →
    Keeps n c.channels (on_freed b at input c o).next.channels
on_freed_keeps n m true at input c o differ other there ready = too_keeps n m at input c o differ other there ready
on_freed_keeps n m false at input c o differ other there ready = concerning_keeps n m input c o differ there ready

free_keeps : (n : ℕ) (b : Bool) (at : Place) (input : Input) (c : Controller) →
    channel_state c at ≢ Releasing n →
    Keeps n c.channels (on_freed b at input c None).next.channels
free_keeps n true at input c other = freed_keeps n at c other
free_keeps n false at input c other = keeps_same n c.channels

channel_keeps : (n : ℕ) (at : Place) (input : Input) (c : Controller) (state : ChannelState) →
    channel_state c at ≡ state →
    holder state ≢ Some n →
    Ready c →
    Keeps n c.channels (on_state state at input c (entry_at c state)).next.channels
channel_keeps n at input c Free is differ ready = free_keeps n (frees Free None input) at input c (λ same. free≢release n (sym is ∙ same))
channel_keeps n at input c (InUse m) is differ ready = on_freed_keeps n m (frees (InUse m) (entry_of c m) input) at input c (entry_of c m) (λ same. differ (ap (λ (k : ℕ). Some k) (sym same))) (λ same. use≢release m n (sym is ∙ same)) refl ready
channel_keeps n at input c (Releasing m) is differ ready = on_freed_keeps n m (frees (Releasing m) (entry_of c m) input) at input c (entry_of c m) (λ same. differ (ap (λ (k : ℕ). Some k) (sym same))) (λ same. differ (ap holder (sym is ∙ same))) refl ready

given_keeps : (n source : ℕ) (c : Controller) (request : RequestReference) (delay : ℕ) (o : Option Channel) →
    access_channel c source ≡ o →
    Ready c →
    Keeps n c.channels (given c request delay o).next.channels
given_keeps n source c request delay None is ready = keeps_same n c.channels
given_keeps n source c request delay (Some channel) is ready =
    let offered = offered_free c c.links source 0 Sdcch channel refl ready.holds.shaped is in
    record {
      still = λ at releasing. state_else c.channels (place_of channel) at (InUse c.next_number) (λ same. free≢release n (sym offered.is_free ∙ ap (state_in c.channels) (sym same) ∙ releasing)) ∙ releasing;
      was = λ at releasing. set_use c.next_number n (place_of channel) at c.channels releasing;
    }

if_keeps : (n : ℕ) (b : Bool) (c : Controller) (t : Turn) →
    Keeps n c.channels t.next.channels →
    Keeps n c.channels (if b then t else ignoring c).next.channels
if_keeps n true c t keeps = keeps
if_keeps n false c t keeps = keeps_same n c.channels

report_keeps : (n m : ℕ) (at : Place) (of : ℕ) (report : Report) (c : Controller) (o : Option Entry) →
    n ≢ m →
    entry_of c m ≡ o →
    Ready c →
    Keeps n c.channels (on_report at of report c o).next.channels
report_keeps n m at of report c None differ there ready = keeps_same n c.channels
report_keeps n m at of report c (Some e) differ there ready = if_keeps n (measures at e) c (measured of report c e) (by (decision_over put.averages.settings put.averages.reports of))
  where
    put : Entry
    put = with_report of report e

    by : (d : Decision) → Keeps n c.channels (on_decision d (with_entry put c) put).next.channels
    by Stay = keeps_same n c.channels
    by (Move cell) =
        let here = here_of c m e ready there in
        fitting_keeps c.links c (with_entry put c) (turn [] (with_entry put c)) put inputs.Move (handover_offer (with_entry put c) put.connection.serving cell) (row_of put.connection inputs.Move (handover_offer (with_entry put c) put.connection.serving cell)) n refl (other_entry c m n e differ there) here.valid (own_elsewhere c.links c e n here.there ready.holds) (keeps_same n c.channels)
        (λ f is. (offered_free (with_entry put c) c.links cell c.handovers (kind_of put.connection.serving.number) f refl ready.holds.shaped is).is_free) (keeps_same n c.channels)

report_on_keeps : (n : ℕ) (at : Place) (of : ℕ) (report : Report) (c : Controller) (state : ChannelState) →
    holder state ≢ Some n →
    Ready c →
    Keeps n c.channels (on_report at of report c (entry_at c state)).next.channels
report_on_keeps n at of report c Free differ ready = keeps_same n c.channels
report_on_keeps n at of report c (InUse m) differ ready = report_keeps n m at of report c (entry_of c m) (λ same. differ (ap (λ (k : ℕ). Some k) (sym same))) refl ready
report_on_keeps n at of report c (Releasing m) differ ready = report_keeps n m at of report c (entry_of c m) (λ same. differ (ap (λ (k : ℕ). Some k) (sym same))) refl ready

pub word_keeps : (n source : ℕ) (word : Word) (c : Controller) →
    concerned c word ≢ Some n →
    Ready c →
    Keeps n c.channels (on_word source word c).next.channels
word_keeps n source (Asks request delay) c differ ready = if_keeps n (may_open c) c (given c request delay (access_channel c source)) (given_keeps n source c request delay (access_channel c source) refl ready)
word_keeps n source (OnChannel at input) c differ ready = channel_keeps n at input c (channel_state c at) refl differ ready
word_keeps n source (Reports at of report) c differ ready = report_on_keeps n at of report c (channel_state c at) differ ready
word_keeps n source (OnConnection m input) c differ ready = concerning_keeps n m input c (entry_of c m) (λ same. differ (ap (λ (k : ℕ). Some k) (sym same))) refl ready
word_keeps n source _ c differ ready = keeps_same n c.channels
