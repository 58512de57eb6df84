-- SPDX-License-Identifier: MIT OR Apache-2.0
-- What a stopwatch answers at a reading of its clock.
use Rattle.std.specs.Prelude.{◌≡◌, ℕ, ◌+◌, ◌-◌, ◌*◌, ◌/◌, min, IsSomeAnd}
use Rattle.std.specs.Prelude.{Option, Some, None}
use Rattle.std.specs.Time.{instant_nanos}
use Rattle.std.specs.declared.time.Instant.{Instant}

-- The whole milliseconds from the reading `last` to the reading `now`, both in nanoseconds; 0 if
-- `now` is before `last`. `told` is the sum of all earlier answers. The answer saturates at 2^32 -
-- 1, and so that the sum of all answers is at most 2^64 - 1.
abbrev pub millis_to_tell : ℕ → ℕ → ℕ → ℕ
millis_to_tell told last now =
    min (min ((now - last) / 1000000) 4294967295) (18446744073709551615 - told)

-- The answer is the number of milliseconds since `last`, and `next` is the time up to which the
-- answer counts. At the first reading, the answer is 0.
abbrev pub Tells : ℕ → Option Instant → Instant → ℕ → Option Instant → Type 0
Tells told None now answer next = (answer ≡ 0) × (next ≡ Some now)
Tells told (Some last) now answer next =
    (answer ≡ millis_to_tell told (instant_nanos last) (instant_nanos now))
    × IsSomeAnd next (λ up_to. instant_nanos up_to ≡ instant_nanos last + answer * 1000000)
