-- SPDX-License-Identifier: MIT OR Apache-2.0
-- The messages of each step name the mobile of the request; so in every life.
use Rattle.controller_model.proofs.Prelude.{◌≡◌, ℕ, ◌≤◌, List, [], Option, Some, None, refl, sym, subst, Channel, Message, SWITCH_LINK}
use Rattle.controller_model.proofs.Prelude.{State, Removed, Connection, Row, OfRow, Parameters, row_of, Acts, Brought, IsAged, brought_in}
use Rattle.controller_model.proofs.Prelude.{kept_in, ages, takes_row, opens, rests, connection_of, NamesItsMobile, NamesOf, SameRequest}
use Rattle.controller_model.proofs.Prelude.{Step}
use Rattle.controller_model.proofs.Prelude.{Controller, is_up, life, step}
use Rattle.controller_model.proofs.LifeLaws.Fitting.{aged_holds}
use Rattle.controller_model.proofs.LifeLaws.Lives.{life_fits}
use Rattle.controller_model.proofs.LifeLaws.Naming.{IsNamed, row_named}
use Rattle.controller_model.proofs.LifeLaws.Turns.{step_does}

none_named : (o : Option Connection) (put : List Message) → put ≡ [] → NamesOf o put
none_named None put is = subst (NamesOf None) (sym is) tt
none_named (Some s) put is = subst (NamesOf (Some s)) (sym is) tt

same_all : (o : Option Connection) → SameRequest o o
same_all None = tt
same_all (Some s) = refl

kept_request : (state : State) (old s : Connection) → s.request ≡ old.request → SameRequest (Some old) (kept_in state s)
kept_request Removed old s is = tt
kept_request _ old s is = is

aged_serving : (old s : Connection) → IsAged old s → s.serving ≡ old.serving
aged_serving old s aged = aged_holds (λ (c : Connection). c.serving ≡ old.serving) (λ ms c is. is) old s aged refl

aged_request : (old s : Connection) → IsAged old s → s.request ≡ old.request
aged_request old s aged = aged_holds (λ (c : Connection). c.request ≡ old.request) (λ ms c is. is) old s aged refl

named_by : (old s : Connection) (input : _) (offer : Option Channel) (r : Row) →
    IsAged old s →
    row_of s input offer ≡ Some r →
    IsNamed old.serving old.request r
named_by old s input offer r aged fits = subst (OfRow (IsNamed old.serving old.request)) fits (row_named old.serving old.request s input offer (aged_serving old s aged) (aged_request old s aged))

acts_names : (number next : ℕ) (up : _) (brought : Brought) (before after : Option Connection) (put : List Message) →
    Acts number next up brought before put after →
    NamesOf before put
acts_names number next up brought before after put (rests silent same none) = none_named before put silent
acts_names number next up brought before after put (ages old s is_time is aged silent same) = none_named before put silent
acts_names number next up brought before after put (opens begins linked channel request delay is_nothing none put_is same) =
    subst (λ (o : Option Connection). NamesOf o put) (sym none) (subst (NamesOf None) (sym put_is) (λ c q. tt, tt))
acts_names number next up brought before after put (takes_row old s input offer r is aged by fits put_is same) =
    subst (λ (o : Option Connection). NamesOf o put) (sym is) (subst (NamesOf (Some old)) (sym put_is) (named_by old s input offer r aged fits).1)

acts_remains : (number next : ℕ) (up : _) (brought : Brought) (before after : Option Connection) (put : List Message) →
    Acts number next up brought before put after →
    SameRequest before after
acts_remains number next up brought before after put (rests silent same none) = subst (SameRequest before) (sym same) (same_all before)
acts_remains number next up brought before after put (ages old s is_time is aged silent same) =
    subst (SameRequest before) (sym same) (subst (λ (o : Option Connection). SameRequest o (Some s)) (sym is) (aged_request old s aged))
acts_remains number next up brought before after put (opens begins linked channel request delay is_nothing none put_is same) = subst (λ (o : Option Connection). SameRequest o after) (sym none) tt
acts_remains number next up brought before after put (takes_row old s input offer r is aged by fits put_is same) =
    subst (SameRequest before) (sym same) (subst (λ (o : Option Connection). SameRequest o (kept_in r.next.state r.next)) (sym is) (kept_request r.next.state old r.next (named_by old s input offer r aged fits).0))

pub life_names : (p : Parameters) (steps : List Step) (s : Step) (number : ℕ) → 1 ≤ number → NamesItsMobile number (life p steps).next s
life_names p steps s number from_one =
    let c : Controller = (life p steps).next in
    let does = step_does number c s from_one (life_fits p steps number from_one).numbered in
    let before : Option Connection = connection_of c number in
    let after : Option Connection = connection_of (step c s).next number in
    record {
      put = does.put;
      outs = does.outs;
      names = acts_names number c.next_number (is_up c SWITCH_LINK) (brought_in c number s) before after does.put does.acts;
      keeps_request = acts_remains number c.next_number (is_up c SWITCH_LINK) (brought_in c number s) before after does.put does.acts;
    }
