-- SPDX-License-Identifier: MIT OR Apache-2.0
-- The messages of a mobile's links are octets if what its upper layers sent is.
use Rattle.world_laws.proofs.Prelude.{ℕ, ◌+◌, ◌<◌, ◌≤◌, ◌%◌, if◌then◌else◌, List, [], ◌∷◌, length, arith, Sapi, with_number, after_queue}
use Rattle.world_laws.proofs.Prelude.{MobileState, ◌*◌, HoldsOf, queue_holds}
use Rattle.std.proofs.Math.Nat.{mod-lt}
use Rattle.world_laws.proofs.Order.OctetTexts.{Octets, OctetsIf, octets_behind, octets_cons, octets_first}

-- the flow has 4 numbers at most
abbrev pub IsFew : ℕ → Type 0
IsFew count = (1 ≤ count) × (count ≤ 4)

abbrev pub HasOctets : MobileState → Type 0
HasOctets mobile = HoldsOf OctetsIf IsFew mobile

small_second : (second number : ℕ) → number < 4 → second % 64 + 64 * number < 256
small_second second number small = omega (arith, small)

numbered_octets : (number : ℕ) (message : List ℕ) → number < 4 → Octets message → Octets (with_number number message)
numbered_octets number (first ∷ second ∷ rest) small is = octets_cons (octets_first is) (octets_cons (small_second second number small) (octets_behind (octets_behind is)))
numbered_octets number _ small is = is

below : (k m : ℕ) → (1 ≤ m) × (m ≤ 4) → k % m < 4
below k m counted = omega (arith, mod-lt k counted.0, counted.1)

pub queue_octets : (mobile : MobileState) (sapi : Sapi) (message : List ℕ) →
    Octets message →
    HasOctets mobile →
    HasOctets (after_queue mobile sapi message)
queue_octets mobile sapi message is all =
    queue_holds OctetsIf IsFew tt mobile sapi message is (numbered_octets (length mobile.sent % mobile.modulus) message (below (length mobile.sent) mobile.modulus all.counted) is) all
