-- SPDX-License-Identifier: MIT OR Apache-2.0
-- Slices of the sent list.
use Rattle.std.proofs.Common.{◌≡◌, ℕ, ◌+◌, ◌-◌, ◌≤◌, List, ◌++◌, length, take, drop, refl, sym, ap, ◌∙◌, subst, arith, append_assoc, filter, length-append, length-take, length-drop, slice_range}
use Rattle.std.proofs.lemmas.List.{take-append-drop, take_at, drop_at}
use Rattle.std.proofs.lemmas.List.Folds.{drop_split}
use Rattle.dtap_codec.specs.Message.{is_flow_message}
use Rattle.dtap_codec.specs.Places.{with_numbers_from}
use Rattle.mobile_end.specs.OneRepeat.{IsSlice}

-- a part of the sent list, as a slice
pub is_slice_of_parts : (m : ℕ) (sent before part rest xs : List (List ℕ)) (e : ℕ) →
    before ++ (part ++ rest) ≡ sent →
    filter is_flow_message xs ≡ with_numbers_from m (length before) part →
    e ≡ length before + length part →
    IsSlice m sent (length before) e xs
is_slice_of_parts m sent before part rest xs e parts taken end =
    let whole : length sent ≡ length before + (length part + length rest) = sym (ap length parts) ∙ length-append before (part ++ rest) ∙ ap (λ (n : ℕ). length before + n) (length-append part rest) in
    let long : length part ≡ e - length before = omega arith in
    let behind : drop (length before) sent ≡ part ++ rest = ap (drop (length before)) (sym parts) ∙ drop_at before (part ++ rest) (length before) refl in
    let here : slice_range sent (length before) e ≡ part = ap (take (e - length before)) behind ∙ take_at part rest (e - length before) long in
    record {
      begins = omega arith;
      ends = omega (arith, whole, end);
      taken = taken ∙ ap (with_numbers_from m (length before)) (sym here);
    }

-- the sent list in three parts, the slice in the middle
pub slice_parts : {m : ℕ} {xs : List (List ℕ)} (sent : List (List ℕ)) (b e : ℕ) →
    IsSlice m sent b e xs →
    (take b sent ++ (slice_range sent b e ++ drop e sent) ≡ sent) × (length (take b sent) ≡ b) × (e ≡ b + length (slice_range sent b e))
slice_parts sent b e slice =
    let begins : b ≤ e = slice.begins in
    let ends : e ≤ length sent = slice.ends in
    let whole : take b sent ++ (slice_range sent b e ++ drop e sent) ≡ sent = ap (λ (ys : List (List ℕ)). take b sent ++ ys) (sym (drop_split sent b e begins)) ∙ take-append-drop b sent in
    let before : length (take b sent) ≡ b = length-take b sent ∙ omega arith in
    let rest : length (drop e sent) ≡ length sent - e = length-drop e sent in
    let all : length (take b sent) + (length (slice_range sent b e) + length (drop e sent)) ≡ length sent =
    ap (λ (n : ℕ). length (take b sent) + n) (sym (length-append (slice_range sent b e) (drop e sent))) ∙ sym (length-append (take b sent) (slice_range sent b e ++ drop e sent)) ∙ ap length whole in
    (whole, before, omega (arith, before, rest, all, begins, ends))

-- a slice remains one when more is sent
pub is_slice_grow : (m : ℕ) (sent more : List (List ℕ)) (b e : ℕ) (xs : List (List ℕ)) →
    IsSlice m sent b e xs →
    IsSlice m (sent ++ more) b e xs
is_slice_grow m sent more b e xs slice =
    let halves = slice_parts sent b e slice in
    let longer : take b sent ++ (slice_range sent b e ++ (drop e sent ++ more)) ≡ sent ++ more =
    ap (λ (ys : List (List ℕ)). take b sent ++ ys) (sym (append_assoc (slice_range sent b e) (drop e sent) more))
    ∙ sym (append_assoc (take b sent) (slice_range sent b e ++ drop e sent) more) ∙ ap (λ (ys : List (List ℕ)). ys ++ more) halves.0 in
    let grown = is_slice_of_parts m (sent ++ more) (take b sent) (slice_range sent b e) (drop e sent ++ more) xs e longer (slice.taken ∙ ap (λ (k : ℕ). with_numbers_from m k (slice_range sent b e)) (sym halves.1)) (halves.2 ∙ ap (λ (k : ℕ). k + length (slice_range sent b e)) (sym halves.1)) in
    subst (λ (k : ℕ). IsSlice m (sent ++ more) k e xs) halves.1 grown
