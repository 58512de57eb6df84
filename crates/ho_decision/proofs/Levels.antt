-- SPDX-License-Identifier: MIT OR Apache-2.0
-- The levels that the code measures are those of the cells.
use Rattle.std.proofs.Common.{◌≡◌, ℕ, ◌+◌, ◌/◌, ◌<◌, ◌≤◌, ◌==◌, ◌&&◌, Bool, true, false, Option, Some, None, option_map, unwrap_or, cond, find, position, List, [], ◌∷◌, length, get_or, map, sum_by, arith, sym, ap, ◌∙◌, subst, refl, zero, suc}
use Rattle.std.specs.List.{slice_get, position_from}
use Rattle.std.proofs.lemmas.Bool.{eq-eqb, ne_eqb, eqb-true}
use Rattle.std.proofs.lemmas.Iterator.Adapters.{position_from-zero}
use Rattle.std.proofs.lemmas.List.{get_or-map}
use Rattle.std.proofs.lemmas.List.Sums.{sum_by-le-sum_by}
use Rattle.dtap_codec.specs.declared.report.Neighbour.{Neighbour}
use Rattle.dtap_codec.specs.declared.report.Report.{Report}
use Rattle.dtap_codec.specs.Report.{neighbours_of}
use Rattle.ho_decision.specs.declared.measure.Measure.{Measure}
use Rattle.ho_decision.specs.declared.settings.Cell.{Cell}
use Rattle.ho_decision.specs.Settings.{Settings, other_arfcns}
use Rattle.ho_decision.specs.Average.{average, last, is_arfcn, names, level_in, neighbour_average}
use Rattle.ho_decision.specs.Decision.{average_at}
use Rattle.ho_decision.specs.Measure.{names_at, value_of, level_of}
use Rattle.ho_decision.proofs.Arfcns.{Above, Rising, other_arfcns_rising}

-- whether a place is this one
abbrev is_place : Option ℕ → ℕ → Bool
is_place None k = false
is_place (Some place) k = k == place

before_by : (b : Bool) (rest : Option ℕ) (i k : ℕ) → k < i → is_place rest k ≡ false → is_place (cond b (Some i) rest) k ≡ false
before_by true rest i k before h = ne_eqb k i (omega arith)
before_by false rest i k before h = h

-- no place is before the first
none_before : (xs : List ℕ) (a i k : ℕ) → k < i → is_place (position_from (λ x. x == a) i xs) k ≡ false
none_before [] a i k before = refl
none_before (x ∷ xs) a i k before =
    before_by (x == a) (position_from (λ y. y == a) (i + 1) xs) i k before (none_before xs a (i + 1) k (omega arith))

-- nothing above a number is that number
none_above : (xs : List ℕ) (a k : ℕ) → Above a xs → is_arfcn (slice_get xs k) a ≡ false
none_above [] a k above = refl
none_above (x ∷ xs) a zero above = ne_eqb x a (omega (arith, above.0))
none_above (x ∷ xs) a (suc k) above = none_above xs a k above.1

first_by : (b : Bool) (rest : Option ℕ) (i k : ℕ) → k ≡ i → is_place rest k ≡ false → b ≡ is_place (cond b (Some i) rest) k
first_by true rest i k here h = sym (eq-eqb k i here)
first_by false rest i k here h = sym h

further_by : (b : Bool) (found : Bool) (rest : Option ℕ) (i k : ℕ) →
    i < k →
    (b ≡ true → found ≡ false) →
    found ≡ is_place rest k →
    found ≡ is_place (cond b (Some i) rest) k
further_by true found rest i k past none h = none refl ∙ sym (ne_eqb k i (omega arith))
further_by false found rest i k past none h = h

-- among rising ARFCNs one is at one place alone
at_place : (xs : List ℕ) (a i k : ℕ) → Rising xs → is_arfcn (slice_get xs k) a ≡ is_place (position_from (λ x. x == a) i xs) (i + k)
at_place [] a i k rising = refl
at_place (x ∷ xs) a i zero rising =
    first_by (x == a) (position_from (λ y. y == a) (i + 1) xs) i (i + zero) (omega arith) (none_before xs a (i + 1) (i + zero) (omega arith))
at_place (x ∷ xs) a i (suc k) rising =
    let rest = position_from (λ y. y == a) (i + 1) xs in
    let P : ℕ → Type 0 = λ n. is_arfcn (slice_get xs k) a ≡ is_place rest n in
    let next : i + 1 + k ≡ i + suc k = omega arith in
    further_by (x == a) (is_arfcn (slice_get xs k) a) rest i (i + suc k) (omega arith)
    (λ e. let Q : ℕ → Type 0 = λ n. Above n xs in none_above xs a k (subst Q (eqb-true x a e) rising.0))
    (subst P next (at_place xs a (i + 1) k rising.1))

same_by : {X : Type 0} (b : Bool) (x : X) (this that : Option X) → this ≡ that → cond b (Some x) this ≡ cond b (Some x) that
same_by true x this that e = refl
same_by false x this that e = e

find_same : {X : Type 0} (p q : X → Bool) (xs : List X) → ((x : X) → p x ≡ q x) → find p xs ≡ find q xs
find_same p q [] same = refl
find_same p q (x ∷ xs) same =
    ap (λ b. cond b (Some x) (find p xs)) (same x) ∙ same_by (q x) x (find p xs) (find q xs) (find_same p q xs same)

names_by : (o : Option ℕ) (bsic : ℕ) (n : Neighbour) → names_at o bsic n ≡ (is_place o n.bcch_freq && (n.bsic == bsic))
names_by None bsic n = refl
names_by (Some place) bsic n = refl

names_same : (s : Settings) (cell : Cell) (n : Neighbour) →
    names_at (position (λ a. a == cell.arfcn) (other_arfcns s)) cell.bsic n ≡ names (other_arfcns s) cell n
names_same s cell n =
    let arfcns = other_arfcns s in
    let P : ℕ → Type 0 = λ k. is_arfcn (slice_get arfcns n.bcch_freq) cell.arfcn ≡ is_place (position_from (λ a. a == cell.arfcn) 0 arfcns) k in
    let from_start : 0 + n.bcch_freq ≡ n.bcch_freq = omega arith in
    let there = subst P from_start (at_place arfcns cell.arfcn 0 n.bcch_freq (other_arfcns_rising s)) in
    names_by (position (λ a. a == cell.arfcn) arfcns) cell.bsic n
    ∙ ap (λ o. is_place o n.bcch_freq && (n.bsic == cell.bsic)) (position_from-zero (λ a. a == cell.arfcn) arfcns)
    ∙ ap (λ b. b && (n.bsic == cell.bsic)) (sym there)

pub level_same : (s : Settings) (cell : Cell) (r : Report) → value_of (level_of s cell) r ≡ level_in (other_arfcns s) cell r
level_same s cell r =
    ap (λ o. unwrap_or (option_map (λ (n : Neighbour). n.rxlev) o) 0) (find_same (names_at (position (λ a. a == cell.arfcn) (other_arfcns s)) cell.bsic) (names (other_arfcns s) cell) (neighbours_of r) (names_same s cell))

sum_same : {X : Type 0} (f g : X → ℕ) (xs : List X) → ((x : X) → f x ≡ g x) → sum_by f xs ≡ sum_by g xs
sum_same f g xs same =
    let up : sum_by f xs ≤ sum_by g xs = sum_by-le-sum_by f g xs (λ x. omega (arith, same x)) in
    let down : sum_by g xs ≤ sum_by f xs = sum_by-le-sum_by g f xs (λ x. omega (arith, same x)) in
    omega (arith, up, down)

-- the average of what is measured is that of the cell's level
pub level_average : (s : Settings) (reports : List Report) (cell : Cell) →
    average (value_of (level_of s cell)) s.parameters.neighbour_window reports ≡ neighbour_average s reports cell
level_average s reports cell =
    let w = s.parameters.neighbour_window in
    ap (λ n. n / length (last w reports)) (sum_same (value_of (level_of s cell)) (level_in (other_arfcns s) cell) (last w reports) (level_same s cell))

-- the same of what measures are kept, one for each cell
pub level_measured : (s : Settings) (reports : List Report) (levels : List Measure) (place : ℕ) (m : Measure) →
    place < length s.cells →
    levels ≡ map (level_of s) s.cells →
    m ≡ get_or levels place m →
    average (value_of m) s.parameters.neighbour_window reports ≡ average_at s reports place
level_measured s reports levels place m there kept is =
    let cell : Cell = get_or s.cells place (record { arfcn = 0; bsic = 0 }) in
    ap (λ (n : Measure). average (value_of n) s.parameters.neighbour_window reports) (is ∙ ap (λ (ms : List Measure). get_or ms place m) kept ∙ get_or-map (level_of s) s.cells place (record { arfcn = 0; bsic = 0 }) m there)
    ∙ level_average s reports cell
