-- SPDX-License-Identifier: MIT OR Apache-2.0
-- Facts besides the connections: settings and links are kept, and numbers rise.
use Rattle.controller_model.proofs.Prelude.{◌≡◌, ◌≢◌, ℕ, ◌==◌, ◌≤◌, Bool, true, false, if◌then◌else◌, List, [], ◌∷◌, set, Option, Some}
use Rattle.controller_model.proofs.Prelude.{None, refl, sym, ◌∙◌, arith, get_or-set_other, Channel, Place, SWITCH_LINK, Input, Row, Report}
use Rattle.controller_model.proofs.Prelude.{Decision, Stay, Move, What, RequestReference, unwrap_or-slice_get, is_link_up, Step, Take, Tick}
use Rattle.controller_model.proofs.Prelude.{Word, Nothing, Ping, Asks, OnChannel, Reports, OnConnection, access_channel, Controller, Entry}
use Rattle.controller_model.proofs.Prelude.{Turn, turn, each, ignoring, is_up, entry_of, with_entry, with_down, freed, freed_station}
use Rattle.controller_model.proofs.Prelude.{channel_state, by_row, by_fitting, row_in, concerning, concerning_too, given, may_open, frees}
use Rattle.controller_model.proofs.Prelude.{entry_at, on_freed, measures, with_report, measured, on_decision, on_report, on_word, with_own_input}
use Rattle.controller_model.proofs.Prelude.{break_of, on_what, all_aged, expiry, timed, step, word_of, decision_over}
use Rattle.controller_model.specs.Life.{take, on_expiry, tick}
use Rattle.ruled_relay.specs.declared.item.What.TheVariants as whats

-- the settings and the links are the same, and numbers go on
pub record IsBeside (c next : Controller) : Type 0 where
  pub settings : next.settings ≡ c.settings
  pub links : next.links ≡ c.links
  pub numbers : c.next_number ≤ next.next_number

same : (c next : Controller) → next.settings ≡ c.settings → next.links ≡ c.links → next.next_number ≡ c.next_number → IsBeside c next
same c next settings links numbers = record { settings = settings; links = links; numbers = omega arith }

after : (a b c : Controller) → IsBeside a b → IsBeside b c → IsBeside a c
after a b c first rest = record {
  settings = rest.settings ∙ first.settings;
  links = rest.links ∙ first.links;
  numbers = let one = first.numbers in let other = rest.numbers in omega arith;
}

fitting : (c : Controller) (otherwise : Turn) (e : Entry) (o : Option Row) →
    IsBeside c otherwise.next →
    IsBeside c (by_fitting otherwise e o c).next
fitting c otherwise e None beside = beside
fitting c otherwise e (Some r) beside = same c (by_row e r c).next refl refl refl

of_concerning : (input : Input) (c : Controller) (o : Option Entry) → IsBeside c (concerning input c o).next
of_concerning input c None = same c (ignoring c).next refl refl refl
of_concerning input c (Some e) = fitting c (ignoring c) e (row_in c e.connection input) (same c (ignoring c).next refl refl refl)

of_concerning_too : (input : Input) (c : Controller) (o : Option Entry) → IsBeside c (concerning_too input c o).next
of_concerning_too input c None = same c c refl refl refl
of_concerning_too input c (Some e) = fitting c (turn [] c) e (row_in c e.connection input) (same c c refl refl refl)

of_freed : (b : Bool) (at : Place) (input : Input) (c : Controller) (o : Option Entry) → IsBeside c (on_freed b at input c o).next
of_freed true at input c o = after c (freed at c) (concerning_too input (freed at c) o).next (same c (freed at c) refl refl refl) (of_concerning_too input (freed at c) o)
of_freed false at input c o = of_concerning input c o

of_given : (c : Controller) (request : RequestReference) (delay : ℕ) (o : Option Channel) → IsBeside c (given c request delay o).next
of_given c request delay None = same c (ignoring c).next refl refl refl
of_given c request delay (Some channel) = record { settings = refl; links = refl; numbers = omega arith }

of_if : (b : Bool) (c : Controller) (t : Turn) → IsBeside c t.next → IsBeside c (if b then t else ignoring c).next
of_if true c t beside = beside
of_if false c t beside = same c (ignoring c).next refl refl refl

of_decision : (d : Decision) (c : Controller) (e : Entry) → IsBeside c (on_decision d c e).next
of_decision Stay c e = same c c refl refl refl
of_decision (Move cell) c e = fitting c (turn [] c) e _ (same c c refl refl refl)

of_report : (at : Place) (of : ℕ) (report : Report) (c : Controller) (o : Option Entry) → IsBeside c (on_report at of report c o).next
of_report at of report c None = same c (ignoring c).next refl refl refl
of_report at of report c (Some e) =
    let put : Entry = with_report of report e in
    of_if (measures at e) c (measured of report c e)
    (after c (with_entry put c) (measured of report c e).next (same c (with_entry put c) refl refl refl)
    (of_decision (decision_over put.averages.settings put.averages.reports of) (with_entry put c) put))

of_word : (source : ℕ) (word : Word) (c : Controller) → IsBeside c (on_word source word c).next
of_word source Nothing c = same c (ignoring c).next refl refl refl
of_word source Ping c = same c c refl refl refl
of_word source (Asks request delay) c = of_if (may_open c) c (given c request delay (access_channel c source)) (of_given c request delay (access_channel c source))
of_word source (OnChannel at input) c = of_freed (frees (channel_state c at) (entry_at c (channel_state c at)) input) at input c (entry_at c (channel_state c at))
of_word source (Reports at of report) c = of_report at of report c (entry_at c (channel_state c at))
of_word source (OnConnection m input) c = of_concerning input c (entry_of c m)

of_each : (f : Controller → Entry → Turn) →
    ((c : Controller) (e : Entry) → IsBeside c (f c e).next) →
    (c : Controller) (xs : List Entry) →
    IsBeside c (each f c xs).next
of_each f keeps c [] = same c c refl refl refl
of_each f keeps c (x ∷ xs) = after c (f c x).next (each f (f c x).next xs).next (keeps c x) (of_each f keeps (f c x).next xs)

of_expiry : (o : Option Input) (c : Controller) (e : Entry) → IsBeside c (on_expiry o c e).next
of_expiry None c e = same c c refl refl refl
of_expiry (Some input) c e = of_concerning_too input c (Some e)

-- ---- a step: the link that breaks is down after it

abbrev pub links_with : Bool → ℕ → What → Controller → List Bool
links_with true source whats.Down c = set c.links source false
links_with up source what c = c.links

abbrev pub links_after : Controller → Step → List Bool
links_after c (Take item) = links_with (is_up c item.source) item.source item.what c
links_after c (Tick ms) = c.links

pub record KeepsRest (c : Controller) (links : List Bool) (next : Controller) : Type 0 where
  pub settings : next.settings ≡ c.settings
  pub links_are : next.links ≡ links
  pub numbers : c.next_number ≤ next.next_number

going : (c next : Controller) → IsBeside c next → KeepsRest c c.links next
going c next beside = record { settings = beside.settings; links_are = beside.links; numbers = beside.numbers }

without : (b : Bool) (source : ℕ) (c : Controller) (links : List Bool) (next : Controller) →
    KeepsRest c links next →
    KeepsRest c links (if b then next else freed_station source next)
without true source c links next kept_rest = kept_rest
without false source c links next kept_rest = record { settings = kept_rest.settings; links_are = kept_rest.links_are; numbers = kept_rest.numbers }

what_keeps_rest : (up : Bool) (source : ℕ) (what : What) (c : Controller) → KeepsRest c (links_with up source what c)
    (on_what up source what c).next
what_keeps_rest true source (whats.Frame frame) c = going c (on_word source (word_of source frame) c).next (of_word source (word_of source frame) c)
what_keeps_rest true source whats.Down c =
    let down : Controller = with_down source c in
    let kept_by_all = of_each (with_own_input (break_of source)) (λ d e. of_concerning_too (break_of source) d (Some e)) down c.entries in
    without (source == SWITCH_LINK) source c (set c.links source false) (each (with_own_input (break_of source)) down c.entries).next
    (record { settings = kept_by_all.settings; links_are = kept_by_all.links; numbers = kept_by_all.numbers })
what_keeps_rest false source (whats.Frame frame) c = going c (ignoring c).next (same c (ignoring c).next refl refl refl)
what_keeps_rest false source whats.Down c = going c (ignoring c).next (same c (ignoring c).next refl refl refl)

pub step_keeps_rest : (c : Controller) (s : Step) → KeepsRest c (links_after c s) (step c s).next
unfolding take tick
step_keeps_rest c (Take item) = what_keeps_rest (is_up c item.source) item.source item.what c
step_keeps_rest c (Tick ms) =
    let all = of_each timed (λ d e. of_expiry (expiry d.settings.timers e.connection) d e) (all_aged ms c) (all_aged ms c).entries in
    record { settings = all.settings; links_are = all.links; numbers = all.numbers }

-- ---- links

pub other_link : (links : List Bool) (source link : ℕ) → link ≢ source → is_link_up (set links source false) link ≡ is_link_up links link
other_link links source link differ =
    unwrap_or-slice_get (set links source false) link false ∙ get_or-set_other links source link false false differ ∙ sym (unwrap_or-slice_get links link false)
