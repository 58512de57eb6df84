-- SPDX-License-Identifier: MIT OR Apache-2.0
-- Small lemmas on lists.
use Rattle.std.proofs.Common.{◌≡◌, ℕ, ◌<◌, Some, List, ◌∷◌, ◌++◌, length, ap, ◌∙◌, arith, slice_get, length-append}
use Rattle.std.proofs.Math.Seq.{get_or-append_seam}
use Rattle.std.proofs.lemmas.List.{get_or_append_left}
use Rattle.std.proofs.lemmas.Option.{slice_get_within, get_or_from_slice_get, slice_get-get_or}

-- an element keeps its place when more are added behind
pub slice_get-append : {X : Type 0} (xs ys : List X) (k : ℕ) (x : X) → slice_get xs k ≡ Some x → slice_get (xs ++ ys) k ≡ Some x
slice_get-append xs ys k x is =
    let within : k < length xs = slice_get_within xs k x is in
    let behind : k < length (xs ++ ys) = omega (arith, length-append xs ys) in
    slice_get-get_or (xs ++ ys) k x behind ∙ ap Some (get_or_append_left xs ys x k within ∙ get_or_from_slice_get xs k x x is)

-- the element between two parts of a list
pub slice_get-append_seam : {X : Type 0} (xs : List X) (y : X) (ys : List X) → slice_get (xs ++ y ∷ ys) (length xs) ≡ Some y
slice_get-append_seam xs y ys =
    let within : length xs < length (xs ++ y ∷ ys) = omega (arith, length-append xs (y ∷ ys)) in
    slice_get-get_or (xs ++ y ∷ ys) (length xs) y within ∙ ap Some (get_or-append_seam xs y ys y)
