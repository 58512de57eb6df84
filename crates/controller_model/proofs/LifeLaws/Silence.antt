-- SPDX-License-Identifier: MIT OR Apache-2.0
-- Nothing is handed while a channel changes, and nothing after the end.
use Rattle.controller_model.proofs.Prelude.{◌≡◌, Bool, ℕ, ◌≤◌, ◌<◌, List, [], ◌∷◌, Option, Some, None, refl, sym, subst, ap, ◌∙◌, arith}
use Rattle.controller_model.proofs.Prelude.{AllByRecursion, Message, SWITCH_LINK, Input, State, Closed, Removed, Complete, Connection, Row}
use Rattle.controller_model.proofs.Prelude.{OfRow, IsOpen, IsChanging, IsHandedTo, Sapi, Zero, Three, IsFinal-row, IsSilent-row}
use Rattle.controller_model.proofs.Prelude.{KeepsDownlink-row, IsSilent, IsFinal, OnlyReleases, KeepsDownlink, handed, row_of, Acts}
use Rattle.controller_model.proofs.Prelude.{Brought, IsAged, kept, kept_in, brought_in, ages, rests, opens, takes_row, IsThere, HasNoStream}
use Rattle.controller_model.proofs.Prelude.{IsAway, AreHandedToServing, OnlyReleasesAfter, KeepsSilence, IsSilentThrough, connection_of, Step}
use Rattle.controller_model.proofs.Prelude.{Controller, is_up, step}
use Rattle.controller_model.proofs.LifeLaws.Beside.{step_keeps_rest}
use Rattle.controller_model.proofs.LifeLaws.Fitting.{IsFine, Fits, aged_holds, fine_old, step_fits}
use Rattle.controller_model.proofs.LifeLaws.Turns.{step_does}

-- ---- a connection after a row

-- what holds of it, and where it is removed of none
pub kept_holds : (P : Option Connection → Type 0) (state : State) (s : Connection) → P None → P (Some s) → P (kept_in state s)
kept_holds P Removed s none some = none
kept_holds P _ s none some = some

pub kept_there : (state : State) (s : Connection) → IsThere (kept_in state s) → IsOpen s.state
kept_there state s = kept_holds (λ (o : Option Connection). IsThere o → IsOpen s.state) state s (λ there. absurd there) (λ there. there)

pub there_kept : (state : State) (s : Connection) → s.state ≡ state → IsOpen s.state → IsThere (kept_in state s)
there_kept Removed s is there = absurd (subst IsOpen is there)
there_kept _ s is there = there

kept_away : (state : State) (s : Connection) → IsAway (kept_in state s) → IsChanging s.state
kept_away state s = kept_holds (λ (o : Option Connection). IsAway o → IsChanging s.state) state s (λ away. absurd away) (λ away. away)

pub same_state : (old s : Connection) → IsAged old s → s.state ≡ old.state
same_state old s aged = aged_holds (λ (c : Connection). c.state ≡ old.state) (λ ms c is. is) old s aged refl

-- ---- nothing that is put

pub silent_nothing : HasNoStream []
silent_nothing = record { relays = λ sapi. refl; hands = λ sapi. refl }

silent_put : (put : List Message) → put ≡ [] → HasNoStream put
silent_put put is = subst HasNoStream (sym is) silent_nothing

none_to_serving : (after : Option Connection) → AreHandedToServing after []
none_to_serving None = λ sapi. refl
none_to_serving (Some s) = tt

-- ---- a row

final_row : (s : Connection) (input : Input) (offer : _) (r : Row) → row_of s input offer ≡ Some r → IsFinal s r
final_row s input offer r fits = subst (OfRow (IsFinal s)) fits (IsFinal-row s input offer)

serving_kept : (state : State) (s : Connection) (put : List Message) →
    s.state ≡ state →
    ((IsOpen s.state → ⊥) → (sapi : Sapi) → handed sapi put ≡ []) →
    AllByRecursion (IsHandedTo s.serving) put →
    AreHandedToServing (kept_in state s) put
serving_kept Removed s put is none all = none (λ there. subst IsOpen is there)
serving_kept _ s put is none all = all

-- ---- what a step does

acts_away : (number next : ℕ) (up : Bool) (brought : Brought) (before after : Option Connection) (put : List Message) →
    Acts number next up brought before put after →
    IsAway after →
    (sapi : Sapi) →
    handed sapi put ≡ []
acts_away number next up brought before after put (rests silent same none) away sapi = (silent_put put silent).hands sapi
acts_away number next up brought before after put (ages old s is_time is aged silent same) away sapi = (silent_put put silent).hands sapi
acts_away number next up brought before after put (opens begins linked channel request delay is_nothing none put_is same) away sapi = absurd (subst IsAway same away)
acts_away number next up brought before after put (takes_row old s input offer r is aged by fits put_is same) away sapi =
    ap (handed sapi) put_is ∙ of sapi (subst (OfRow IsSilent) fits (IsSilent-row s input offer) (kept_away r.next.state r.next (subst IsAway same away)))
  where
    of : (sapi : Sapi) → (handed Zero r.outs ≡ []) × (handed Three r.outs ≡ []) → handed sapi r.outs ≡ []
    of Zero both = both.0
    of Three both = both.1

acts_serving : (number next : ℕ) (up : Bool) (brought : Brought) (before after : Option Connection) (put : List Message) →
    Acts number next up brought before put after →
    IsFine before →
    AreHandedToServing after put
acts_serving number next up brought before after put (rests silent same none) fine = subst (AreHandedToServing after) (sym silent) (none_to_serving after)
acts_serving number next up brought before after put (ages old s is_time is aged silent same) fine = subst (AreHandedToServing after) (sym silent) (none_to_serving after)
acts_serving number next up brought before after put (opens begins linked channel request delay is_nothing none put_is same) fine =
    subst (λ (o : Option Connection). AreHandedToServing o put) (sym same) (subst (λ (ms : List Message). AllByRecursion (IsHandedTo channel) ms) (sym put_is) (tt, tt))
acts_serving number next up brought before after put (takes_row old s input offer r is aged by fits put_is same) fine =
    let keeps = subst (OfRow (KeepsDownlink Zero s input)) fits (KeepsDownlink-row Zero s input offer (fine_old before old s is aged fine).1) in
    subst (λ (o : Option Connection). AreHandedToServing o put) (sym same) (subst (AreHandedToServing (kept r.next)) (sym put_is)
    (serving_kept r.next.state r.next r.outs refl (final_row s input offer r fits).hands keeps.serving))

acts_over : (number next : ℕ) (up : Bool) (brought : Brought) (before after : Option Connection) (put : List Message) →
    Acts number next up brought before put after →
    (IsThere after → ⊥) →
    HasNoStream put
acts_over number next up brought before after put (rests silent same none) over = silent_put put silent
acts_over number next up brought before after put (ages old s is_time is aged silent same) over = silent_put put silent
acts_over number next up brought before after put (opens begins linked channel request delay is_nothing none put_is same) over = absurd (over (subst IsThere (sym same) tt))
acts_over number next up brought before after put (takes_row old s input offer r is aged by fits put_is same) over =
    let final = final_row s input offer r fits in
    let shut : IsOpen r.next.state → ⊥ = λ is_open. over (subst IsThere (sym same) (there_kept r.next.state r.next refl is_open)) in
    subst HasNoStream (sym put_is) (record { relays = final.relays shut; hands = final.hands shut })

acts_remains : (number next : ℕ) (up : Bool) (brought : Brought) (before after : Option Connection) (put : List Message) →
    Acts number next up brought before put after →
    number < next →
    (IsThere before → ⊥) →
    IsThere after →
    ⊥
acts_remains number next up brought before after put (rests silent same none) less over there = over (subst IsThere same there)
acts_remains number next up brought before after put (ages old s is_time is aged silent same) less over there =
    over (subst IsThere (sym is) (subst IsOpen (same_state old s aged) (subst IsThere same there)))
acts_remains number next up brought before after put (opens begins linked channel request delay is_nothing none put_is same) less over there = absurd (omega arith)
acts_remains number next up brought before after put (takes_row old s input offer r is aged by fits put_is same) less over there =
    (final_row s input offer r fits).remains_closed (λ is_open. over (subst IsThere (sym is) (subst IsOpen (same_state old s aged) is_open))) (kept_there r.next.state r.next (subst IsThere same there))

releases_nothing : (state : State) → OnlyReleases state []
releases_nothing (Closed Complete) = tt
releases_nothing _ = tt

none_releases : (o : Option Connection) → OnlyReleasesAfter o []
none_releases None = refl
none_releases (Some s) = releases_nothing s.state

acts_cleared : (number next : ℕ) (up : Bool) (brought : Brought) (before after : Option Connection) (put : List Message) →
    Acts number next up brought before put after →
    number < next →
    OnlyReleasesAfter before put
acts_cleared number next up brought before after put (rests silent same none) less = subst (OnlyReleasesAfter before) (sym silent) (none_releases before)
acts_cleared number next up brought before after put (ages old s is_time is aged silent same) less = subst (OnlyReleasesAfter before) (sym silent) (none_releases before)
acts_cleared number next up brought before after put (opens begins linked channel request delay is_nothing none put_is same) less = absurd (omega arith)
acts_cleared number next up brought before after put (takes_row old s input offer r is aged by fits put_is same) less =
    subst (λ (o : Option Connection). OnlyReleasesAfter o put) (sym is) (subst (OnlyReleases old.state) (sym put_is)
    (subst (λ (state : State). OnlyReleases state r.outs) (same_state old s aged) (final_row s input offer r fits).cleared))

pub step_silence : (number : ℕ) (c : Controller) (s : Step) (from_one : 1 ≤ number) (fits : Fits number c) →
    KeepsSilence number c s (step_does number c s from_one fits.numbered).put
step_silence number c s from_one fits =
    let does = step_does number c s from_one fits.numbered in
    let before : Option Connection = connection_of c number in
    let after : Option Connection = connection_of (step c s).next number in
    let brought : Brought = brought_in c number s in
    record {
      away = acts_away number c.next_number (is_up c SWITCH_LINK) brought before after does.put does.acts;
      serving = acts_serving number c.next_number (is_up c SWITCH_LINK) brought before after does.put does.acts fits.fine;
      over = acts_over number c.next_number (is_up c SWITCH_LINK) brought before after does.put does.acts;
      remains_away = acts_remains number c.next_number (is_up c SWITCH_LINK) brought before after does.put does.acts;
      cleared = acts_cleared number c.next_number (is_up c SWITCH_LINK) brought before after does.put does.acts;
    }

-- ---- the rest of a life

pub remains_silent : (number : ℕ) (c : Controller) (steps : List Step) →
    1 ≤ number →
    Fits number c →
    number < c.next_number →
    (IsThere (connection_of c number) → ⊥) →
    IsSilentThrough number c steps
remains_silent number c [] from_one fits less over = record { moments = []; history = tt; silent = tt }
remains_silent number c (s ∷ ss) from_one fits less over =
    let does = step_does number c s from_one fits.numbered in
    let now = step_silence number c s from_one fits in
    let numbers = (step_keeps_rest c s).numbers in
    let rest = remains_silent number (step c s).next ss from_one (step_fits number c s from_one fits) (omega arith)
    (now.remains_away less over) in
    record {
      moments = record { taken = s; messages = does.put } ∷ rest.moments;
      history = (refl, does.outs, rest.history);
      silent = (now.over (now.remains_away less over), rest.silent);
    }
