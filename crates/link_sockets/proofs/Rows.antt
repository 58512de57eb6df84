-- SPDX-License-Identifier: MIT OR Apache-2.0
-- Checks the definitions on literal values.
use Rattle.std.proofs.Common.{◌≡◌, ℕ, List, [], ◌∷◌, map, slice_index_or, Some, None, refl, ap, arith}
use Rattle.std.specs.declared.io.ErrorKind.TheVariants as kinds
use Rattle.std.specs.declared.net.SocketAddr.{SocketAddr}
use Rattle.std.specs.declared.time.Instant.{Instant}
use Rattle.link_sockets.specs.declared.fault.RunFault.TheVariants.{Memory, Device}
use Rattle.link_sockets.specs.declared.name.LinkName.TheVariants.{Switch, Cell}
use Rattle.link_sockets.specs.Faults.{fault_of}
use Rattle.link_sockets.specs.declared.socket.ReadingEnd.{ReadingEnd}
use Rattle.link_sockets.specs.declared.socket.WritingEnd.{WritingEnd}
use Rattle.link_sockets.specs.Naming.{AreAllNamed, AreNamed, name_of, place_of}
use Rattle.station_io.specs.declared.link.Link.{Link}
use Rattle.link_sockets.specs.Telling.{Tells, millis_to_tell}

-- ---- faults

faults : map fault_of (kinds.OutOfMemory ∷ kinds.AddrInUse ∷ kinds.ConnectionRefused ∷ kinds.Interrupted ∷ kinds.Other ∷ []) ≡ Memory ∷ Device ∷ Device ∷ Device ∷ Device ∷ []
faults = refl

-- ---- names of links

names : (peer : SocketAddr) →
    map (λ place. name_of place peer) (0 ∷ 1 ∷ 2 ∷ 32 ∷ []) ≡ Switch ∷ Cell 1 peer ∷ Cell 2 peer ∷ Cell 32 peer ∷ []
names peer = refl

in_order : (one two : SocketAddr) → AreNamed (Switch ∷ Cell 1 one ∷ Cell 2 two ∷ [])
in_order one two = refl

in_other_order : (one two : SocketAddr) → AreNamed (Switch ∷ Cell 2 two ∷ Cell 1 one ∷ []) → ⊥
in_other_order one two bad =
    let second : 2 ≡ 1 = ap (λ (places : List ℕ). slice_index_or places 1 0) bad in
    omega (arith, second)

-- the links of the switch and of a station, by the names of their ends
module _ {R S G : Type 0} (one two : Link (ReadingEnd R) (WritingEnd S) G) (peer : SocketAddr)
    (reads : one.reader.name ≡ Switch) (reads_too : two.reader.name ≡ Cell 1 peer) where
  all_named : one.writer.name ≡ Switch → two.writer.name ≡ Cell 1 peer → AreAllNamed (one ∷ two ∷ [])
  all_named writes writes_too =
      (λ i. place_of (reads i) ∷ place_of (reads_too i) ∷ [], λ i. place_of (writes i) ∷ place_of (writes_too i) ∷ [])

  writers_exchanged : one.writer.name ≡ Cell 1 peer → two.writer.name ≡ Switch → AreAllNamed (one ∷ two ∷ []) → ⊥
  writers_exchanged writes writes_too bad =
      let first : place_of one.writer.name ≡ 0 = ap (λ (places : List ℕ). slice_index_or places 0 9) bad.1 in
      let is : place_of one.writer.name ≡ 1 = ap place_of writes in
      omega (arith, first, is)

-- ---- a stopwatch

-- nothing of a millisecond that isn't over
not_over : millis_to_tell 0 5000000 5999999 ≡ 0
not_over = refl

just_over : millis_to_tell 0 5000000 6000000 ≡ 1
just_over = refl

clock_set_back : millis_to_tell 0 6000000 5000000 ≡ 0
clock_set_back = refl

most_of_an_answer : millis_to_tell 0 0 4294967295000000 ∷ millis_to_tell 0 0 4294967296000000 ∷ [] ≡ 4294967295 ∷ 4294967295 ∷ []
most_of_an_answer = refl

most_of_all_answers : millis_to_tell 18446744073709551614 0 9000000 ∷ millis_to_tell 18446744073709551615 0 9000000 ∷ [] ≡ 1 ∷ 0 ∷ []
most_of_all_answers = refl

abbrev at : ℕ → Instant
at nanos = record { since_start = record { secs = 0; nanos = nanos } }

-- half a millisecond is left for the next answer
tells_three : Tells 7 (Some (at 1000000)) (at 4500000) 3 (Some (at 4000000))
tells_three = (refl, refl)

tells_none_at_first : Tells 7 None (at 4500000) 0 (Some (at 4500000))
tells_none_at_first = (refl, refl)

never_tells : Tells 7 (Some (at 1000000)) (at 4500000) 0 (Some (at 1000000)) → ⊥
never_tells bad = omega (arith, bad.0)

lets_the_rest_go : Tells 7 (Some (at 1000000)) (at 4500000) 3 (Some (at 4500000)) → ⊥
lets_the_rest_go bad = omega (arith, bad.1)

saturates_at_most : Tells 7 (Some (at 1000000)) (at 4500000) 3 (Some (at 1000000)) → ⊥
saturates_at_most bad = omega (arith, bad.1)
