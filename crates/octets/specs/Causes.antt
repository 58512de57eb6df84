-- SPDX-License-Identifier: MIT OR Apache-2.0
-- Conditions with their faults, in the order in which they are checked.
use Rattle.std.specs.Prelude.{Bool, List, [], ◌∷◌, Option, Some, None, if◌then◌else◌}

-- the fault of the first condition that holds; None if no condition holds
abbrev pub first_that_holds : {F : Type 0} → List (Bool × F) → Option F
first_that_holds [] = None
first_that_holds (cause ∷ causes) = if cause.0 then Some cause.1 else first_that_holds causes
