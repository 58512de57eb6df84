-- SPDX-License-Identifier: MIT OR Apache-2.0
-- Whether an actor took an event, and what changed.
use Rattle.std.specs.Prelude.{◌≡◌, Bool, true, false, Option, Some, None}

-- If the option is `Some next`, the actor takes the event: `taken` is true and `new` is `next`. If
-- it is None, the actor can't take the event: `taken` is false and `new` is `old`.
abbrev pub Takes : {W : Type 0} → W → Option W → Bool → W → Type 0
Takes old None taken new = (taken ≡ false) × (new ≡ old)
Takes old (Some next) taken new = (taken ≡ true) × (new ≡ next)
