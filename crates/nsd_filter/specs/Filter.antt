-- SPDX-License-Identifier: MIT OR Apache-2.0
-- The state of a filter, and which progress of a flow fits the state.
use Rattle.std.specs.Prelude.{◌≡◌, ℕ, ◌%◌, Option, option_map}

-- the modulus (how many numbers there are), and the expected number, which is `None` after a gap
pub record FilterState : Type 0 where
  pub modulus : ℕ
  pub expected : Option ℕ

-- The state fits a flow with this progress: the expected number is the progress modulo the modulus.
abbrev pub IsStateOf : FilterState → Option ℕ → Type 0
IsStateOf state progress =
    state.expected ≡ option_map (λ accepted. accepted % state.modulus) progress
