-- SPDX-License-Identifier: MIT OR Apache-2.0
-- The results of a crew's workers, and which workers of a list were started.
use Rattle.std.specs.Prelude.{◌≡◌, List, ◌++◌, length}
use Rattle.thread_crew.specs.Pairs.{EachPair}

-- there is one result for each worker, in the same order, and `Does` allows each result for its
-- worker
abbrev pub AllDone : {W D : Type 0} → (W → D → Type 0) → List W → List D → Type 0
AllDone Does workers done = (length done ≡ length workers) × EachPair Does workers done

-- the list `new` is `old`, followed by some first ones of `workers`, perhaps none or all of them
abbrev pub BeginsWith : {W : Type 0} → List W → List W → List W → Type 0
BeginsWith {W} old new workers = (first : List W) × (rest : List W) × (workers ≡ first ++ rest)
    × (new ≡ old ++ first)
