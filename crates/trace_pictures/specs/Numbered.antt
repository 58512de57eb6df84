-- SPDX-License-Identifier: MIT OR Apache-2.0
-- The numbers of the lines of a script.
use Rattle.std.specs.Prelude.{ℕ, zero, suc, List, [], ◌∷◌, ◌++◌}
use Rattle.program_base.specs.WholeScript.{line_count}

-- the numbers of the first `n` lines, from 1 on; the program's count of lines saturates
unfoldable pub line_numbers : ℕ → List ℕ
line_numbers zero = []
line_numbers (suc n) = line_numbers n ++ line_count (suc n) ∷ []
