-- SPDX-License-Identifier: MIT OR Apache-2.0
-- Octets as hexadecimal text, as the examples of the standards write them: two digits for each
-- octet, and spaces between octets.
use Prim.Native.String.{String}
use Rattle.std.proofs.Common.{ℕ, ◌+◌, ◌-◌, ◌*◌, ◌&&◌, nat_le, ◌==◌, List, [], ◌∷◌, codes, Option, Some, None, if◌then◌else◌, option_map, option_and_then}

-- the value of a digit, in either case: `0` to `9` are 48 to 57, `a` to `f` are 97 to 102, and `A`
-- to `F` are 65 to 70
abbrev digit_of : ℕ → Option ℕ
digit_of c =
    if nat_le 48 c && nat_le c 57 then Some (c - 48)
    else if nat_le 97 c && nat_le c 102 then Some (c - 87)
    else if nat_le 65 c && nat_le c 70 then Some (c - 55)
    else None

-- the octets of the characters, where a high digit may have been read; a space (32) may be before
-- an octet or behind it
abbrev octets_after : Option ℕ → List ℕ → Option (List ℕ)
octets_after None [] = Some []
octets_after (Some high) [] = None
octets_after None (c ∷ text) =
    if c == 32 then octets_after None text else option_and_then (λ high. octets_after (Some high) text) (digit_of c)
octets_after (Some high) (c ∷ text) =
    option_and_then (λ low. option_map (λ octets. (16 * high + low) ∷ octets) (octets_after None text)) (digit_of c)

-- the octets that a text spells; none where a digit is alone or a character is no digit
abbrev pub octets_in : String → Option (List ℕ)
octets_in text = octets_after None (codes text)

abbrev pub Spelled : Option (List ℕ) → Type 0
Spelled None = Unit {0}
Spelled (Some octets) = List ℕ

abbrev spelled : (octets : Option (List ℕ)) → Spelled octets
spelled None = tt
spelled (Some octets) = octets

-- the list of the octets; of a text that spells none it isn't a list, so that a row that has such a
-- text is refused
abbrev pub hex : (text : String) → Spelled (octets_in text)
hex text = spelled (octets_in text)
