-- SPDX-License-Identifier: MIT OR Apache-2.0
-- The forwarded and handed messages, output by output.
use Rattle.std.proofs.Common.{◌≡◌, ◌≢◌, ℕ, zero, suc, ⊎_elim, ◌+◌, ◌<◌, ◌≤◌, ◌++◌, Bool, true, false, if◌then◌else◌, List, [], ◌∷◌, drop, filter, get_or, length, refl, ap, ◌∙◌, sym, append_assoc, append-nil, arith}
use Rattle.std.proofs.lemmas.Bool.{cases_Bool}
use Rattle.std.proofs.lemmas.Grind.{common_steps}
use Rattle.std.proofs.lemmas.List.{at_drop_more}
use Rattle.std.specs.List.{flat_map}
use Rattle.bssmap_codec.specs.SccpReading.{sccp_reading}
use Rattle.conn_messages.specs.declared.out.Out.{Out}
use Rattle.controller_model.specs.Views.{forwarded, forwarded_by, handed, handed_by, to_station, to_switch}
use Rattle.dtap_codec.specs.declared.sapi.Sapi.{Sapi}
use Rattle.controller_parts.specs.Views.{forwarded_of, handed_of}
use Rattle.rsl_codec.specs.RslReading.{rsl_reading}

-- of the items that pass a test, what the first adds is first
chosen : {A B : Type 0} (test : Bool) (f : A → List B) (p : A → Bool) (x : A) (xs : List A)
    → flat_map f (if test then x ∷ filter p xs else filter p xs) ≡ (if test then f x else []) ++ flat_map f (filter p xs)
chosen true f p x xs = refl
chosen false f p x xs = refl

pub forwarded_cons : (conn : ℕ) (out : Out) (outs : List Out) → forwarded (out ∷ outs) conn ≡ forwarded_of conn out ++ forwarded outs conn
unfolding forwarded
forwarded_cons conn out outs = chosen (to_switch conn out) (λ o. forwarded_by (sccp_reading o.frame.body)) (to_switch conn) out outs

pub handed_cons : (conn : ℕ) (sapi : Sapi) (out : Out) (outs : List Out) →
    handed (out ∷ outs) conn sapi ≡ handed_of conn sapi out ++ handed outs conn sapi
unfolding handed
handed_cons conn sapi out outs = chosen (to_station conn out) (λ o. handed_by sapi (rsl_reading o.frame.body)) (to_station conn) out outs

pub forwarded_nil : (conn : ℕ) → forwarded [] conn ≡ []
unfolding forwarded
forwarded_nil conn = refl

pub handed_nil : (conn : ℕ) (sapi : Sapi) → handed [] conn sapi ≡ []
unfolding handed
handed_nil conn sapi = refl

-- one item more
pub pushed : {A B : Type 0} (f : List A → List B) (g : A → List B) → ((x : A) (xs : List A) → f (x ∷ xs) ≡ g x ++ f xs) → (xs : List A) (i : ℕ) (x : A) (list new : List B)
    → i < length xs → x ≡ get_or xs i x → list ++ f (drop i xs) ≡ f xs → new ≡ list ++ g x → new ++ f (drop (i + 1) xs) ≡ f xs
pushed f g first xs i x list new below is done added =
    ap (λ l. l ++ f (drop (i + 1) xs)) added ∙ append_assoc list (g x) (f (drop (i + 1) xs))
    ∙ ap (λ l. list ++ l) (sym (at_drop_more f xs i x below ∙ ap (λ y. f (y ∷ drop (i + 1) xs)) (sym is) ∙ first x (drop (i + 1) xs))) ∙ done

nothing_left : {A : Type 0} (xs : List A) (i : ℕ) → length xs ≤ i → drop i xs ≡ []
nothing_left xs i over = grind (arith, common_steps)

-- no item is left
pub finished : {A B : Type 0} (f : List A → List B) →
    f [] ≡ [] →
    (xs : List A) (i : ℕ) (list : List B) →
    length xs ≤ i →
    list ++ f (drop i xs) ≡ f xs →
    list ≡ f xs
finished f none xs i list over done =
    sym (append-nil list) ∙ ap (λ l. list ++ l) (sym (ap f (nothing_left xs i over) ∙ none)) ∙ done

-- an item that passes a test is among those that do
pub passes : {A : Type 0} (p : A → Bool) (xs : List A) (i : ℕ) (x : A) → i < length xs → x ≡ get_or xs i x → p x ≡ true → filter p xs ≢ []
passes p [] i x below is test none = absurd (omega arith)
passes p (y ∷ ys) zero x below is test none =
    let first : p y ≡ true = ap p (sym is) ∙ test in
    let some : y ∷ filter p ys ≡ [] = sym (ap (λ b. if b then y ∷ filter p ys else filter p ys) first) ∙ none in absurd cc
passes p (y ∷ ys) (suc i) x below is test none =
    ⊎_elim
    (λ (e : p y ≡ true).
    let some : y ∷ filter p ys ≡ [] = sym (ap (λ b. if b then y ∷ filter p ys else filter p ys) e) ∙ none in absurd cc)
    (λ (e : p y ≡ false).
    passes p ys i x (omega arith) is test (sym (ap (λ b. if b then y ∷ filter p ys else filter p ys) e) ∙ none))
    (cases_Bool (p y))
