-- SPDX-License-Identifier: MIT OR Apache-2.0
-- Steps that can fail, and the results that a call may give for a reading of octets.
use Rattle.std.specs.Prelude.{◌≡◌, ◌⊎◌, Result, Ok, Err, IsOk}

-- Runs the second step on the value of the first. A fault of the first step is the result.
infixl 10 ◌>>=◌
abbrev pub ◌>>=◌ : {A B F : Type 0} → Result A F → (A → Result B F) → Result B F
(Ok x) >>= f = f x
(Err fault) >>= f = Err fault

-- a result with `view` applied to its value
abbrev pub result_map : {A B F : Type 0} → (A → B) → Result A F → Result B F
result_map view (Ok x) = Ok (view x)
result_map view (Err fault) = Err fault

-- The call succeeds with a value that `view` maps to the value of `read`, or returns the fault of
-- `read`. If `read` is `Ok`, the call may return `memory` instead.
abbrev pub Gives : {X Y F : Type 0} → F → (X → Y) → Result X F → Result Y F → Type 0
Gives memory view (Ok x) read = read ≡ Ok (view x)
Gives memory view (Err fault) read = (read ≡ Err fault) ⊎ ((fault ≡ memory) × IsOk read)
