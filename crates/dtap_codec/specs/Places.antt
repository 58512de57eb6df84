-- SPDX-License-Identifier: MIT OR Apache-2.0
-- The places of messages. `sent` is the list of the messages of the flow that a mobile sent, with
-- N(SD) cleared; a message's place is its index in `sent`, from 0. The mobile sent the message at
-- place k with k modulo m as N(SD) (TS 24.007 clause 11.2.3.2.3).
use Rattle.std.specs.Prelude.{◌≡◌, ℕ, ◌+◌, ◌%◌, true, false, Some, List, []}
use Rattle.std.specs.Prelude.{◌∷◌, slice_get}
use Rattle.dtap_codec.specs.Message.{is_flow_message}
use Rattle.dtap_codec.specs.Number.{with_number, without_number}

-- The messages with N(SD) written into them. The first is at place k, each later one at the next
-- place; N(SD) is the place modulo m.
abbrev pub with_numbers_from : ℕ → ℕ → List (List ℕ) → List (List ℕ)
with_numbers_from m k [] = []
with_numbers_from m k (message ∷ messages) =
    with_number (k % m) message ∷ with_numbers_from m (k + 1) messages

-- A message of the flow whose N(SD) is cleared.
pub record IsClear (message : List ℕ) : Type 0 where
  pub is_flow : is_flow_message message ≡ true
  pub cleared : without_number message ≡ message

-- Every message is of the flow and has its N(SD) cleared.
abbrev pub AreClear : List (List ℕ) → Type 0
AreClear [] = Unit {0}
AreClear (message ∷ messages) = IsClear message × AreClear messages

-- x is the message at place k of `sent`, which is of the flow, with k modulo m as N(SD).
pub record Carries (m : ℕ) (sent : List (List ℕ)) (k : ℕ) (x : List ℕ) : Type 0 where
  pub message : List ℕ
  pub is_sent : slice_get sent k ≡ Some message
  pub is_clear : IsClear message
  pub carries : x ≡ with_number (k % m) message

-- Each message of the flow in xs is the message at the next place of `sent` or repeats the message
-- at the place before. n is the next place before xs, k the next place after xs. Messages outside
-- the flow may stand anywhere in xs.
pub data Rise (m : ℕ) (sent : List (List ℕ)) : ℕ → List (List ℕ) → ℕ → Type 0 where
  over : (n : ℕ) → Rise m sent n [] n
  other : {n k : ℕ} {x : List ℕ} {xs : List (List ℕ)} → is_flow_message x ≡ false →
      Rise m sent n xs k → Rise m sent n (x ∷ xs) k
  next : {n k : ℕ} {x : List ℕ} {xs : List (List ℕ)} → Carries m sent n x →
      Rise m sent (n + 1) xs k → Rise m sent n (x ∷ xs) k
  again : {n k p : ℕ} {x : List ℕ} {xs : List (List ℕ)} → n ≡ p + 1 → Carries m sent p x →
      Rise m sent n xs k → Rise m sent n (x ∷ xs) k
