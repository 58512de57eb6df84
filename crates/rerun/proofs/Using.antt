-- SPDX-License-Identifier: MIT OR Apache-2.0
-- Lemmas: the connection at a place of the controller, and those after it.
use Rattle.std.proofs.Common.{◌≡◌, ℕ, zero, suc, ◌+◌, ◌==◌, ◌&&◌, Bool, true, false, if◌then◌else◌, List, [], ◌∷◌, ◌++◌, length, ◌≤◌, drop, slice_get, option_to_list, option_map, Option, Some, None, refl, sym, ap, ◌∙◌, arith}
use Rattle.std.proofs.lemmas.List.{drop_all}
use Rattle.conn_messages.specs.declared.channel.Place.{Place}
use Rattle.conn_rules.specs.Connection.{Connection}
use Rattle.controller_model.specs.Controller.{Entry}
use Rattle.rerun.specs.Concerning.{has_channel, uses}

only_itself : (b : Bool) → b ≡ (if b then true else false)
only_itself true = refl
only_itself false = refl

pub used_some : (number : ℕ) (at : Place) (o : Option Entry) (s : Connection) (used : Bool) → Some s ≡ option_map (λ e. e.connection) o
    → used ≡ ((s.number == number) && uses at s) → used ≡ has_channel number at (option_to_list o)
used_some number at None s used is says = absurd (cc is)
used_some number at (Some e) s used is says =
    let same : s ≡ e.connection = cc is in
    says ∙ ap (λ (t : Connection). (t.number == number) && uses at t) same ∙ only_itself ((e.connection.number == number) && uses at e.connection)

pub used_none : (number : ℕ) (at : Place) (o : Option Entry) → (let none : Option Connection = None in none) ≡ option_map (λ e. e.connection) o
    → false ≡ has_channel number at (option_to_list o)
used_none number at None is = refl
used_none number at (Some e) is = absurd (cc is)

-- ---- a walk over the places

step_by : (number : ℕ) (at : Place) (b : Bool) (o : Option Entry) (es : List Entry) → b ≡ has_channel number at (option_to_list o) → b ≡ false
    → has_channel number at (option_to_list o ++ es) ≡ has_channel number at es
step_by number at b None es is none = refl
step_by number at b (Some e) es is none =
    ap (λ (t : Bool). if t then true else has_channel number at es) (only_itself ((e.connection.number == number) && uses at e.connection) ∙ sym is ∙ none)

hit_by : (number : ℕ) (at : Place) (b : Bool) (o : Option Entry) (es : List Entry) → b ≡ has_channel number at (option_to_list o) → b ≡ true
    → has_channel number at (option_to_list o ++ es) ≡ true
hit_by number at b None es is some = absurd (cc)
hit_by number at b (Some e) es is some =
    ap (λ (t : Bool). if t then true else has_channel number at es) (only_itself ((e.connection.number == number) && uses at e.connection) ∙ sym is ∙ some)

front_at : {X : Type 0} (xs : List X) (n : ℕ) → option_to_list (slice_get xs n) ++ drop (suc n) xs ≡ drop n xs
front_at [] zero = refl
front_at [] (suc n) = refl
front_at (x ∷ xs) zero = refl
front_at (x ∷ xs) (suc n) = front_at xs n

next_place : (n : ℕ) → n + 1 ≡ suc n
next_place n = omega arith

pub walk_on : (number : ℕ) (at : Place) (b found : Bool) (es : List Entry) (place : ℕ) → has_channel number at (drop place es) ≡ found
    → b ≡ has_channel number at (option_to_list (slice_get es place)) → b ≡ false → has_channel number at (drop (place + 1) es) ≡ found
walk_on number at b found es place some is none =
    ap (λ (n : ℕ). has_channel number at (drop n es)) (next_place place)
    ∙ sym (step_by number at b (slice_get es place) (drop (suc place) es) is none)
    ∙ ap (has_channel number at) (front_at es place) ∙ some

pub walk_hits : (number : ℕ) (at : Place) (b found : Bool) (es : List Entry) (place : ℕ) → has_channel number at (drop place es) ≡ found
    → b ≡ has_channel number at (option_to_list (slice_get es place)) → b ≡ true → true ≡ found
walk_hits number at b found es place some is hits =
    sym (hit_by number at b (slice_get es place) (drop (suc place) es) is hits) ∙ ap (has_channel number at) (front_at es place) ∙ some

pub walk_ends : (number : ℕ) (at : Place) (found : Bool) (es : List Entry) (place : ℕ) → has_channel number at (drop place es) ≡ found
    → length es ≤ place → false ≡ found
walk_ends number at found es place some all = ap (has_channel number at) (sym (drop_all place es all)) ∙ some
