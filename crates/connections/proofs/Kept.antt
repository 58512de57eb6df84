-- SPDX-License-Identifier: MIT OR Apache-2.0
-- Rows keep what holds of a connection in a controller.
use Rattle.std.proofs.Common.{◌≡◌, ℕ, ◌==◌, ◌&&◌, ◌++◌, Bool, true, false, if◌then◌else◌, List, length, Option, Some, None, refl, sym, subst, ap, ◌∙◌, arith, append-nil, eqb-true}
use Rattle.std.proofs.lemmas.List.{length-map}
use Rattle.std.specs.Option.{is_some}
use Rattle.conn_fsm.specs.Doing.{Steps, Commits, AreSound, outs_in}
use Rattle.conn_messages.specs.declared.channel.Channel.{Channel}
use Rattle.conn_messages.specs.declared.out.Out.{Out}
use Rattle.conn_rules.specs.declared.input.Input.{Input}
use Rattle.conn_rules.specs.Connection.{Connection, is_at}
use Rattle.conn_rules.specs.Steps.{Row}
use Rattle.conn_rules.specs.Streams.{OfRow}
use Rattle.conn_rules.specs.Table.{row_of}
use Rattle.conn_rules.proofs.Channels.{NextIsWithin, all_within}
use Rattle.controller_model.specs.Controller.{Entry, place_of}
use Rattle.controller_model.specs.Life.{averages_after, new_averages}
use Rattle.ho_decision.specs.State.{State as Averages}
use Rattle.settings.specs.Parameters.{Parameters, air_of, handover_settings_of}
use Rattle.connections.specs.Entries.{IsKept, IsOfCell, IsOffer}
use Rattle.connections.specs.Steps.{after_row}

and_left : (a b : Bool) → (a && b) ≡ true → a ≡ true
and_left true b h = refl
and_left false b h = h

-- ---- averages

averages_where : (b : Bool) (p : Parameters) (before after : Channel) (a : Averages) → (b ≡ true → before.station ≡ after.station) →
    a.settings ≡ handover_settings_of p before.station → (if b then a else new_averages p after).settings ≡ handover_settings_of p after.station
averages_where true p before after a same is = is ∙ ap (λ (n : ℕ). handover_settings_of p n) (same refl)
averages_where false p before after a same is = refl

averages_kept : (p : Parameters) (before after : Channel) (a : Averages) → a.settings ≡ handover_settings_of p before.station →
    (averages_after p before after a).settings ≡ handover_settings_of p after.station
averages_kept p before after a is =
    averages_where (is_at (place_of before) after) p before after a
    (λ h. eqb-true before.station after.station (and_left (before.station == after.station) (before.number == after.number) h)) is

pub as_many_cells : (p : Parameters) (e : Entry) → IsKept p e → length p.cells ≡ length e.averages.settings.cells
as_many_cells p e kept = sym (ap (λ s. length s.cells) kept.averages ∙ length-map p.cells air_of)

-- ---- rows

within_kept : (p : Parameters) (e : Entry) (r : Option Row) →
    IsKept p e →
    OfRow (NextIsWithin (IsOfCell p) (IsOfCell p) e.connection.number) r →
    IsKept p (after_row p e r)
within_kept p e None kept w = kept
within_kept p e (Some r) kept w =
    record { serving = w.1; target = w.2; averages = averages_kept p e.connection.serving r.next.serving e.averages kept.averages }

within_number : (p : Parameters) (e : Entry) (r : Option Row) →
    OfRow (NextIsWithin (IsOfCell p) (IsOfCell p) e.connection.number) r →
    (after_row p e r).connection.number ≡ e.connection.number
within_number p e None w = refl
within_number p e (Some r) w = w.0

within : (p : Parameters) (e : Entry) (input : Input) (offer : Option Channel) →
    IsKept p e →
    IsOffer p offer →
    OfRow (NextIsWithin (IsOfCell p) (IsOfCell p) e.connection.number) (row_of e.connection input offer)
within p e input offer kept offered =
    all_within (IsOfCell p) (IsOfCell p) e.connection input offer e.connection.number (refl, kept.serving, kept.target) kept.target offered

pub kept_after : (p : Parameters) (e : Entry) (input : Input) (offer : Option Channel) →
    IsKept p e →
    IsOffer p offer →
    IsKept p (after_row p e (row_of e.connection input offer))
kept_after p e input offer kept offered = within_kept p e (row_of e.connection input offer) kept (within p e input offer kept offered)

pub number_after : (p : Parameters) (e : Entry) (input : Input) (offer : Option Channel) →
    IsKept p e →
    IsOffer p offer →
    (after_row p e (row_of e.connection input offer)).connection.number ≡ e.connection.number
number_after p e input offer kept offered = within_number p e (row_of e.connection input offer) (within p e input offer kept offered)

-- ---- what a step of the connection makes of its entry

next_where : (e : Entry) (r : Option Row) → Connection
next_where e None = e.connection
next_where e (Some r) = r.next

served_where : (p : Parameters) (e : Entry) (r : Option Row) (new : Connection) →
    new ≡ (after_row p e r).connection →
    IsKept p (after_row p e r) →
    IsOfCell p new.serving
served_where p e r new is kept = subst (λ (s : Connection). IsOfCell p s.serving) (sym is) kept.serving

steps_to : (p : Parameters) (e : Entry) (r : Option Row) (fits : Bool) (new : Connection) (outs outs_after : List Out) →
    Steps r fits e.connection new outs outs_after →
    new ≡ (after_row p e r).connection
steps_to p e None fits new outs outs_after done = done.1.0
steps_to p e (Some r) fits new outs outs_after done = done.1.0

commits_to : (p : Parameters) (e : Entry) (r : Option Row) (new : Connection) (outs : List Out) →
    Commits r e.connection new outs →
    new ≡ (after_row p e r).connection
commits_to p e None new outs done = done.0
commits_to p e (Some r) new outs done = done.0

-- the channel that serves then is one of a cell
pub step_serves : (p : Parameters) (e : Entry) (input : Input) (offer : Option Channel) (fits : Bool) (new : Connection) (outs outs_after : List Out) → IsKept p e → IsOffer p offer →
    Steps (row_of e.connection input offer) fits e.connection new outs outs_after → IsOfCell p new.serving
step_serves p e input offer fits new outs outs_after kept offered done =
    served_where p e (row_of e.connection input offer) new (steps_to p e (row_of e.connection input offer) fits new outs outs_after done) (kept_after p e input offer kept offered)

pub commit_serves : (p : Parameters) (e : Entry) (input : Input) (new : Connection) (outs : List Out) → IsKept p e →
    Commits (row_of e.connection input None) e.connection new outs → IsOfCell p new.serving
commit_serves p e input new outs kept done =
    served_where p e (row_of e.connection input None) new (commits_to p e (row_of e.connection input None) new outs done) (kept_after p e input None kept tt)

-- ---- its clauses

pub step_fits : (r : Option Row) (fits : Bool) (old new : Connection) (outs outs_after : List Out) →
    Steps r fits old new outs outs_after →
    fits ≡ is_some r
step_fits None fits old new outs outs_after done = done.0
step_fits (Some r) fits old new outs outs_after done = done.0

pub step_outs : (r : Option Row) (fits : Bool) (old new : Connection) (outs outs_after : List Out) →
    Steps r fits old new outs outs_after →
    outs_after ≡ outs ++ outs_in r old.number
step_outs None fits old new outs outs_after done = done.1.1 ∙ sym (append-nil outs)
step_outs (Some r) fits old new outs outs_after done = done.1.1

pub step_sound : (r : Option Row) (fits : Bool) (old new : Connection) (outs outs_after : List Out) →
    Steps r fits old new outs outs_after →
    AreSound r
step_sound None fits old new outs outs_after done = tt
step_sound (Some r) fits old new outs outs_after done = done.1.2

pub step_entry : (p : Parameters) (e : Entry) (r : Option Row) (new : Connection) (outs outs_after : List Out) → Steps r true e.connection new outs outs_after →
    record e { connection = new; averages = averages_after p e.connection.serving new.serving e.averages } ≡ after_row p e r
step_entry p e (Some r) new outs outs_after done = ap (λ (s : Connection). record e { connection = s; averages = averages_after p e.connection.serving s.serving e.averages }) done.1.0
step_entry p e None new outs outs_after done = absurd (cc)

pub step_none : (p : Parameters) (e : Entry) (r : Option Row) (new : Connection) (outs outs_after : List Out) → Steps r false e.connection new outs outs_after →
    record e { connection = new } ≡ after_row p e r
step_none p e None new outs outs_after done = ap (λ (s : Connection). record e { connection = s }) done.1.0
step_none p e (Some r) new outs outs_after done = absurd (cc)

same_place : (c : Channel) → is_at (place_of c) c ≡ true
same_place c = grind arith

pub commit_outs : (r : Option Row) (old new : Connection) (outs : List Out) → Commits r old new outs → outs ≡ outs_in r old.number
commit_outs None old new outs done = done.1
commit_outs (Some r) old new outs done = done.1

pub commit_sound : (r : Option Row) (old new : Connection) (outs : List Out) → Commits r old new outs → AreSound r
commit_sound None old new outs done = tt
commit_sound (Some r) old new outs done = done.2

pub commit_entry : (p : Parameters) (e : Entry) (r : Option Row) (new : Connection) (outs : List Out) → Commits r e.connection new outs →
    record e { connection = new; averages = averages_after p e.connection.serving new.serving e.averages } ≡ after_row p e r
commit_entry p e (Some r) new outs done = ap (λ (s : Connection). record e { connection = s; averages = averages_after p e.connection.serving s.serving e.averages }) done.0
commit_entry p e None new outs done =
    ap (λ (s : Connection). record e { connection = s; averages = averages_after p e.connection.serving s.serving e.averages }) done.0
    ∙ ap (λ b. record e { averages = if b then e.averages else new_averages p e.connection.serving }) (same_place e.connection.serving)

-- ---- what a function's attribute names together

pub ruleset stepping = (step_fits, step_outs, step_sound, step_entry, step_none)

pub ruleset committing = (commit_outs, commit_sound, commit_entry)
