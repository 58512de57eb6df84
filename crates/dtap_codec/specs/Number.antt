-- SPDX-License-Identifier: MIT OR Apache-2.0
-- The send sequence number N(SD) of a message of the flow, modulo m (TS 24.007 clause 11.2.3.2.3).
use Rattle.std.specs.Prelude.{ℕ, ◌+◌, ◌*◌, ◌/◌, ◌%◌, Option, Some, None, List}
use Rattle.std.specs.Prelude.{◌∷◌, if◌then◌else◌}
use Rattle.dtap_codec.specs.Message.{is_flow_protocol}
use Rattle.dtap_codec.specs.declared.number.Modulus.{Modulus}
use Rattle.dtap_codec.specs.declared.number.Modulus.TheVariants.{Four, Two}

-- The modulus as a number.
abbrev pub count_of : Modulus → ℕ
count_of Four = 4
count_of Two = 2

-- N(SD) modulo m: bits 8 and 7 of the second octet, or bit 7 alone if m is 2. `None` if the message
-- isn't of the flow.
abbrev pub number_in : ℕ → List ℕ → Option ℕ
number_in m (first ∷ second ∷ rest) =
    if is_flow_protocol (first % 16) then Some ((second / 64) % m) else None
number_in m _ = None

-- The message with `number` in bits 8 and 7 of its second octet and all other bits unchanged. A
-- message of fewer than two octets is unchanged.
abbrev pub with_number : ℕ → List ℕ → List ℕ
with_number number (first ∷ second ∷ rest) = first ∷ (second % 64 + 64 * number) ∷ rest
with_number number message = message

-- The message with the bits of N(SD) cleared.
abbrev pub without_number : List ℕ → List ℕ
without_number message = with_number 0 message
