-- SPDX-License-Identifier: MIT OR Apache-2.0
-- Properties of the due messages.
use Rattle.std.specs.Prelude.{ℕ, ◌≤◌, Bool, false, List, [], ◌∷◌}
use Rattle.std.specs.List.{All}
use Rattle.std.specs.Str.{bytes_eq}
use Rattle.run_judge.specs.declared.flow.Due.{Due}

-- No due message has a rank above `high`.
abbrev pub NoneAbove : ℕ → List Due → Type 0
NoneAbove high ds = All (λ d. d.rank ≤ high) ds

abbrev pub is_first : List ℕ → List Due → Bool
is_first message [] = false
is_first message (d ∷ ds) = bytes_eq d.message message
