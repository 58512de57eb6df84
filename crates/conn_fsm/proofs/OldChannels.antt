-- SPDX-License-Identifier: MIT OR Apache-2.0
-- The list of old channels, in terms of the definitions of iterators and of slices.
use Rattle.std.proofs.Common.{◌≡◌, ◌<◌, ◌+◌, ℕ, zero, suc, List, [], ◌∷◌, length, Bool, true, false, not, ◌&&◌, ◌||◌, ◌==◌, if◌then◌else◌, slice_set, get_or, Option, Some, None, option_map, refl, ap, ◌∙◌, arith}
use Rattle.std.specs.List.{list_any, position, position_from}
use Rattle.std.proofs.lemmas.Iterator.Adapters.{position_from-zero}
use Rattle.conn_messages.specs.declared.channel.Place.{Place}
use Rattle.conn_rules.specs.declared.state.Drain.{Drain}
use Rattle.conn_rules.specs.Connection.{is_at, drain_at}
use Rattle.conn_rules.specs.Steps.{done_at}
use Rattle.conn_rules.specs.Table.{drains_at}

-- ---- some channel of a station

pub some_drains : (station : ℕ) (ds : List Drain) →
    list_any (λ (d : Drain). (d.channel.station == station) && not d.is_done) ds ≡ drains_at station ds
some_drains station [] = refl
some_drains station (d ∷ ds) = ap (λ rest. ((d.channel.station == station) && not d.is_done) || rest) (some_drains station ds)

-- ---- the place of a channel

behind : (i : ℕ) (place : Option ℕ) → option_map (λ n. (i + 1) + n) place ≡ option_map (λ n. i + n) (option_map (λ n. suc n) place)
behind i None = refl
behind i (Some n) = ap (λ (m : ℕ). Some m) (omega arith)

first_or_behind : (passes : Bool) (i : ℕ) (rest place : Option ℕ) → rest ≡ option_map (λ n. (i + 1) + n) place →
    (if passes then Some i else rest) ≡ option_map (λ n. i + n) (if passes then Some 0 else option_map (λ n. suc n) place)
first_or_behind true i rest place is = ap (λ (m : ℕ). Some m) (omega arith)
first_or_behind false i rest place is = is ∙ behind i place

place_from : (at : Place) (i : ℕ) (ds : List Drain) →
    position_from (λ (d : Drain). is_at at d.channel && not d.is_done) i ds ≡ option_map (λ n. i + n) (drain_at at ds)
place_from at i [] = refl
place_from at i (d ∷ ds) =
    first_or_behind (is_at at d.channel && not d.is_done) i _ (drain_at at ds) (place_from at (i + 1) ds)

from_none : (place : Option ℕ) → option_map (λ n. 0 + n) place ≡ place
from_none None = refl
from_none (Some n) = ap (λ (m : ℕ). Some m) (omega arith)

pub place_is : (at : Place) (ds : List Drain) → position (λ (d : Drain). is_at at d.channel && not d.is_done) ds ≡ drain_at at ds
place_is at ds = position_from-zero (λ (d : Drain). is_at at d.channel && not d.is_done) ds ∙ place_from at 0 ds ∙ from_none (drain_at at ds)

-- ---- a channel is done

pub marked : (ds : List Drain) (n : ℕ) (d : Drain) →
    n < length ds →
    d ≡ get_or ds n d →
    slice_set ds n (record { channel = d.channel; is_done = true }) ≡ done_at n ds
marked [] n d within at = absurd (omega arith)
marked (x ∷ xs) zero d within at = ap (λ (y : Drain). record { channel = y.channel; is_done = true } ∷ xs) at
marked (x ∷ xs) (suc n) d within at = ap (λ rest. x ∷ rest) (marked xs n d (omega arith) at)
