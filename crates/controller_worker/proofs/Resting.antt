-- SPDX-License-Identifier: MIT OR Apache-2.0
-- A controller at rest puts nothing and remains at rest.
use Rattle.std.proofs.Common.{◌≡◌, ℕ, ◌==◌, ◌&&◌, Bool, true, false, List, [], ◌∷◌, length, map, refl, sym, ap, ◌∙◌, subst, unwrap_or, slice_get, zero, suc, arith}
use Rattle.std.proofs.lemmas.Bool.{eqb-true, false≢true}
use Rattle.std.proofs.lemmas.Option.{unwrap_or-slice_get}
use Rattle.controller.specs.Rest.{all_down, is_at_rest}
use Rattle.controller_model.specs.declared.step.Step.{Step}
use Rattle.controller_model.specs.declared.step.Step.TheVariants.{Take, Tick}
use Rattle.controller_model.specs.Controller.{Controller, Entry, each, is_up}
use Rattle.controller_model.specs.Life as words
use Rattle.controller_model.specs.Life.{take, tick}

both : (a b : Bool) → (a && b) ≡ true → (a ≡ true) × (b ≡ true)
both true b h = (refl, h)
both false b h = absurd (false≢true h)

no_entries : (es : List Entry) → (length es == 0) ≡ true → es ≡ []
no_entries [] h = refl
no_entries (e ∷ es) h = absurd (let n = eqb-true (length (e ∷ es)) 0 h in omega arith)

none_up : (links : List Bool) (source : ℕ) → all_down links ≡ true → unwrap_or (slice_get links source) false ≡ false
none_up [] source h = unwrap_or-slice_get [] source false
none_up (true ∷ links) source h = absurd (false≢true h)
none_up (false ∷ links) zero h = refl
none_up (false ∷ links) (suc source) h = none_up links source h

pub rests : (c : Controller) (s : Step) → is_at_rest c ≡ true → ((words.step c s).outs ≡ []) × (is_at_rest (words.step c s).next ≡ true)
unfolding take tick
rests c (Take item) h =
    let down : is_up c item.source ≡ false = none_up c.links item.source (both (length c.entries == 0) (all_down c.links) h).1 in
    subst (λ up. ((words.on_what up item.source item.what c).outs ≡ []) × (is_at_rest (words.on_what up item.source item.what c).next ≡ true)) (sym down) (refl, h)
rests c (Tick ms) h =
    let b = both (length c.entries == 0) (all_down c.links) h in
    let gone : map (words.aged ms) c.entries ≡ [] = ap (λ es. map (words.aged ms) es) (no_entries c.entries b.0) in
    subst (λ es. ((each words.timed (words.all_aged ms c) es).outs ≡ []) × (is_at_rest (each words.timed (words.all_aged ms c) es).next ≡ true)) (sym gone)
    (refl, ap (λ (es : List Entry). (length es == 0) && all_down c.links) gone ∙ b.1)
