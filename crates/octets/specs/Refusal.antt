-- SPDX-License-Identifier: MIT OR Apache-2.0
-- How the result of a call follows from the first fault of its arguments.
use Rattle.std.specs.Prelude.{◌≡◌, ◌⊎◌, Option, Some, None, Result, Ok, Err}

-- If `first` is a fault, the call refuses with that fault. If `first` is None, the call succeeds or
-- runs out of memory.
abbrev pub RefusesBy : {X F : Type 0} → F → Result X F → Option F → Type 0
RefusesBy memory (Ok x) first = first ≡ None
RefusesBy memory (Err fault) first = (first ≡ Some fault) ⊎ ((fault ≡ memory) × (first ≡ None))

-- the first of two optional faults, in the order in which they are checked
abbrev pub first_refusal : {F : Type 0} → Option F → Option F → Option F
first_refusal (Some fault) later = Some fault
first_refusal None later = later
