-- SPDX-License-Identifier: MIT OR Apache-2.0
-- Lemmas: the first difference of frames.
use Rattle.std.proofs.Common.{◌≡◌, ◌≢◌, ℕ, zero, suc, ◌+◌, ◌<◌, ◌==◌, ◌&&◌, Bool, true, false, if◌then◌else◌, List, [], ◌∷◌, length, map, take, drop, slice_get, Option, Some, None, refl, sym, ap, subst, ◌∙◌, eq-eqb, arith}
use Rattle.std.specs.Prelude.{option_map}
use Rattle.std.specs.Str.{bytes_eq}
use Rattle.std.proofs.lemmas.Bool.{and_parts, eqb-true}
use Rattle.std.proofs.lemmas.Slice.Eq.{bytes_eq-Decides}
use Rattle.conn_messages.specs.declared.out.Out.{Out}
use Rattle.record_steps.specs.declared.recorded_step.PutFrame.{PutFrame}
use Rattle.rerun.specs.declared.difference.Extent.{Extent}
use Rattle.rerun.specs.declared.difference.Extent.TheVariants.{All, First}
use Rattle.rerun.specs.Difference.{first_difference, is_same, lacking, put_of}

-- ---- one frame

abbrev made : ℕ → ℕ → List ℕ → PutFrame
made link stream octets = record { link = link; frame = record { stream = stream; body = octets } }

same_put : (out : Out) (put : PutFrame) → is_same out put ≡ true → put_of out ≡ put
same_put out put is =
    let body = and_parts ((out.to == put.link) && (out.frame.stream == put.frame.stream)) (bytes_eq out.frame.body put.frame.body) is in
    let ends = and_parts (out.to == put.link) (out.frame.stream == put.frame.stream) body.0 in
    ap (λ (link : ℕ). made link out.frame.stream out.frame.body) (eqb-true out.to put.link ends.0)
    ∙ ap (λ (stream : ℕ). made put.link stream out.frame.body) (eqb-true out.frame.stream put.frame.stream ends.1)
    ∙ ap (λ (octets : List ℕ). made put.link put.frame.stream octets) ((bytes_eq-Decides out.frame.body put.frame.body).0 body.1)

all_true : (a b c : Bool) → a ≡ true → b ≡ true → c ≡ true → (a && b && c) ≡ true
all_true true true c one two three = three
all_true true false c one two three = two
all_true false b c one two three = absurd (cc)

same_itself : (out : Out) → is_same out (put_of out) ≡ true
same_itself out =
    all_true (out.to == out.to) (out.frame.stream == out.frame.stream) (bytes_eq out.frame.body out.frame.body)
    (eq-eqb out.to out.to refl) (eq-eqb out.frame.stream out.frame.stream refl)
    ((bytes_eq-Decides out.frame.body out.frame.body).1 refl)

other_put : (out : Out) (put : PutFrame) → is_same out put ≡ false → put_of out ≡ put → ⊥
other_put out put differs is =
    let same : is_same out put ≡ true = subst (λ (p : PutFrame). is_same out p ≡ true) is (same_itself out) in
    absurd (cc)

-- ---- the frames of a whole step

none_of : (d : Option ℕ) → option_map (λ k. suc k) d ≡ None → d ≡ None
none_of None is = refl
none_of (Some k) is = absurd (cc)

same_by : (out : Out) (put : PutFrame) (outs : List Out) (puts : List PutFrame) (d : Option ℕ) (b : Bool) → is_same out put ≡ b
    → (if b then option_map (λ k. suc k) d else Some 0) ≡ None → (d ≡ None → map put_of outs ≡ puts) → put_of out ∷ map put_of outs ≡ put ∷ puts
same_by out put outs puts d true is none others =
    ap (λ (p : PutFrame). p ∷ map put_of outs) (same_put out put is) ∙ ap (λ (ps : List PutFrame). put ∷ ps) (others (none_of d none))
same_by out put outs puts d false is none others = absurd (cc)

pub all_same : (outs : List Out) (puts : List PutFrame) → first_difference All outs puts ≡ None → map put_of outs ≡ puts
all_same [] [] none = refl
all_same [] (put ∷ puts) none = absurd (cc)
all_same (out ∷ outs) [] none = absurd (cc)
all_same (out ∷ outs) (put ∷ puts) none =
    same_by out put outs puts (first_difference All outs puts) (is_same out put) refl none (λ (rest : first_difference All outs puts ≡ None). all_same outs puts rest)

-- ---- the first difference

abbrev Differs : List Out → List PutFrame → ℕ → Type 0
Differs outs puts k = (take k (map put_of outs) ≡ take k puts) × (slice_get (map put_of outs) k ≢ slice_get puts k)

first_only : (k : ℕ) → (let place : Option ℕ = Some 0 in place) ≡ Some k → 0 ≡ k
first_only k is = cc

differs_by : (out : Out) (put : PutFrame) (outs : List Out) (puts : List PutFrame) (d : Option ℕ) (k : ℕ)
    → option_map (λ n. suc n) d ≡ Some k → put_of out ≡ put → ((n : ℕ) → d ≡ Some n → Differs outs puts n) → Differs (out ∷ outs) (put ∷ puts) k
differs_by out put outs puts None k is same others = absurd (cc)
differs_by out put outs puts (Some n) k is same others =
    let next : suc n ≡ k = cc in
    let rest : Differs outs puts n = others n refl in
    subst (λ (m : ℕ). Differs (out ∷ outs) (put ∷ puts) m) next
    (ap (λ (p : PutFrame). p ∷ take n (map put_of outs)) same ∙ ap (λ (ps : List PutFrame). put ∷ ps) rest.0, rest.1)

differs_at : (out : Out) (put : PutFrame) (outs : List Out) (puts : List PutFrame) (d : Option ℕ) (k : ℕ) (b : Bool) → is_same out put ≡ b
    → (if b then option_map (λ n. suc n) d else Some 0) ≡ Some k → ((n : ℕ) → d ≡ Some n → Differs outs puts n) → Differs (out ∷ outs) (put ∷ puts) k
differs_at out put outs puts d k true is some others = differs_by out put outs puts d k some (same_put out put is) others
differs_at out put outs puts d k false is some others =
    subst (λ (m : ℕ). Differs (out ∷ outs) (put ∷ puts) m) (first_only k some)
    (refl, λ (same : Some (put_of out) ≡ Some put). other_put out put is (cc))

lacks : (extent : Extent) (out : Out) (outs : List Out) (k : ℕ) → lacking extent ≡ Some k → Differs (out ∷ outs) [] k
lacks All out outs k is = subst (λ (m : ℕ). Differs (out ∷ outs) [] m) (first_only k is) (refl, λ same. absurd (cc))
lacks First out outs k is = absurd (cc)

pub differs : (extent : Extent) (outs : List Out) (puts : List PutFrame) (k : ℕ) →
    first_difference extent outs puts ≡ Some k →
    Differs outs puts k
differs extent [] [] k is = absurd (cc)
differs extent [] (put ∷ puts) k is = subst (λ (m : ℕ). Differs [] (put ∷ puts) m) (first_only k is) (refl, λ same. absurd (cc))
differs extent (out ∷ outs) [] k is = lacks extent out outs k is
differs extent (out ∷ outs) (put ∷ puts) k is =
    differs_at out put outs puts (first_difference extent outs puts) k (is_same out put) refl is
    (λ (n : ℕ) (rest : first_difference extent outs puts ≡ Some n). differs extent outs puts n rest)

-- ---- where a walk over both ends

pub some_left : {X : Type 0} (xs : List X) (at : ℕ) → at < length xs → (x : X) × (rest : List X) × (drop at xs ≡ x ∷ rest)
some_left [] at lt = absurd (omega (arith, lt))
some_left (x ∷ xs) zero lt = (x, xs, refl)
some_left (x ∷ xs) (suc at) lt = some_left xs at (omega (arith, lt))

-- what is found behind so many places
abbrev from_on : ℕ → Option ℕ → Option ℕ
from_on at d = option_map (λ k. at + k) d

pub here : (at : ℕ) → from_on at (Some 0) ≡ Some at
here at = ap (λ (n : ℕ). Some n) (omega arith)

pub found_other : (extent : Extent) (outs : List Out) (puts : List PutFrame) (at : ℕ) (out : Out) (put : PutFrame) (found : Option ℕ)
    → from_on at (first_difference extent (drop at outs) (drop at puts)) ≡ found → drop at outs ≡ out ∷ drop (at + 1) outs
    → drop at puts ≡ put ∷ drop (at + 1) puts → is_same out put ≡ false → Some at ≡ found
found_other extent outs puts at out put found same left right other =
    let rest : Option ℕ = option_map (λ k. suc k) (first_difference extent (drop (at + 1) outs) (drop (at + 1) puts)) in
    sym (here at)
    ∙ sym (ap (λ (b : Bool). from_on at (if b then rest else Some 0)) other)
    ∙ sym (ap (λ (ps : List PutFrame). from_on at (first_difference extent (out ∷ drop (at + 1) outs) ps)) right)
    ∙ sym (ap (λ (os : List Out). from_on at (first_difference extent os (drop at puts))) left)
    ∙ same

pub found_more : (extent : Extent) (outs : List Out) (puts : List PutFrame) (at : ℕ) (put : PutFrame) (rest : List PutFrame) (found : Option ℕ)
    → from_on at (first_difference extent (drop at outs) (drop at puts)) ≡ found → drop at outs ≡ []
    → drop at puts ≡ put ∷ rest → Some at ≡ found
found_more extent outs puts at put rest found same left right =
    sym (here at)
    ∙ sym (ap (λ (ps : List PutFrame). from_on at (first_difference extent [] ps)) right)
    ∙ sym (ap (λ (os : List Out). from_on at (first_difference extent os (drop at puts))) left)
    ∙ same

lack_behind : (extent : Extent) (outs : List Out) (puts : List PutFrame) (at : ℕ) (out : Out) (rest : List Out) (found : Option ℕ)
    → from_on at (first_difference extent (drop at outs) (drop at puts)) ≡ found → drop at outs ≡ out ∷ rest
    → drop at puts ≡ [] → from_on at (lacking extent) ≡ found
lack_behind extent outs puts at out rest found same left right =
    sym (ap (λ (ps : List PutFrame). from_on at (first_difference extent (out ∷ rest) ps)) right)
    ∙ sym (ap (λ (os : List Out). from_on at (first_difference extent os (drop at puts))) left)
    ∙ same

pub found_lack : (extent : Extent) (outs : List Out) (puts : List PutFrame) (at : ℕ) (found : Option ℕ)
    → from_on at (first_difference extent (drop at outs) (drop at puts)) ≡ found → at < length outs
    → drop at puts ≡ [] → from_on at (lacking extent) ≡ found
found_lack extent outs puts at found same lt right =
    let left = some_left outs at lt in
    lack_behind extent outs puts at left.0 left.1 found same left.2 right

-- there may be a frame at the place
lack_or_none : (outs : List Out) (puts : List PutFrame) (at : ℕ) (found : Option ℕ) (os : List Out) → drop at outs ≡ os
    → from_on at (first_difference First os (drop at puts)) ≡ found → drop at puts ≡ [] → None ≡ found
lack_or_none outs puts at found [] left same right =
    sym (ap (λ (ps : List PutFrame). from_on at (first_difference First [] ps)) right) ∙ same
lack_or_none outs puts at found (out ∷ os) left same right =
    sym (ap (λ (ps : List PutFrame). from_on at (first_difference First (out ∷ os) ps)) right) ∙ same

pub found_first : (outs : List Out) (puts : List PutFrame) (at : ℕ) (found : Option ℕ)
    → from_on at (first_difference First (drop at outs) (drop at puts)) ≡ found → drop at puts ≡ [] → None ≡ found
found_first outs puts at found same right = lack_or_none outs puts at found (drop at outs) refl same right
