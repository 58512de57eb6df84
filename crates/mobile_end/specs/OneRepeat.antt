-- SPDX-License-Identifier: MIT OR Apache-2.0
-- The one-repeat rule: in each establishment the station takes a slice of the sent list, and only
-- the last message of the slice may be taken again in the next establishment.
use Rattle.std.specs.Prelude.{◌≡◌, ℕ, ◌+◌, ◌≤◌, List, [], ◌∷◌, filter}
use Rattle.std.specs.Prelude.{length, slice_range}
use Rattle.dtap_codec.specs.Message.{is_flow_message}
use Rattle.dtap_codec.specs.Places.{with_numbers_from}

-- the messages of the flow in xs are those at places b to e - 1 of the sent list, in order, each
-- numbered by its place modulo m
pub record IsSlice (m : ℕ) (sent : List (List ℕ)) (b e : ℕ) (xs : List (List ℕ)) : Type 0 where
  pub begins : b ≤ e
  pub ends : e ≤ length sent
  pub taken : filter is_flow_message xs ≡ with_numbers_from m b (slice_range sent b e)

-- The messages taken in each establishment are a slice. The first slice begins at b. Each later
-- slice begins where the slice before it ended, or at the last message of the slice before it, if
-- that slice isn't empty.
pub data OneRepeat (m : ℕ) (sent : List (List ℕ)) : ℕ → List (List (List ℕ)) → Type 0 where
  over : (b : ℕ) → OneRepeat m sent b []
  carries_on : {b e : ℕ} {xs : List (List ℕ)} {others : List (List (List ℕ))}
      → IsSlice m sent b e xs → OneRepeat m sent e others → OneRepeat m sent b (xs ∷ others)
  repeats : {b p : ℕ} {xs : List (List ℕ)} {others : List (List (List ℕ))} → b ≤ p
      → IsSlice m sent b (p + 1) xs → OneRepeat m sent p others → OneRepeat m sent b (xs ∷ others)
