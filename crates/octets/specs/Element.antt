-- SPDX-License-Identifier: MIT OR Apache-2.0
-- A sequence of information elements, read by a table of the known identifiers (TS 24.007 clause
-- 11.2.1.1).
use Rattle.std.specs.Prelude.{◌≡◌, ◌≢◌, ℕ, ◌/◌, ◌%◌, ◌<◌, Bool, MatchBool}
use Rattle.std.specs.Prelude.{◌==◌, List, [], ◌∷◌}
use Rattle.std.specs.Prelude.{◌++◌, length, slice_index, Option, Some, None, option_map}
use Rattle.std.specs.List.{find}
use Rattle.octets.specs.declared.element.Entry.{Entry}
use Rattle.octets.specs.declared.element.Format.{Format}
use Rattle.octets.specs.declared.element.Format.TheVariants.{Tv, Tlv, TlvE}

-- an element: its identifier and its value
pub record Element : Type 0 where
  pub id : ℕ
  pub value : List ℕ

abbrev pub element : ℕ → List ℕ → Element
element id value = record { id = id; value = value }

-- each number is below 256
abbrev pub AreOctets : List ℕ → Type 0
AreOctets octets = (i : ℕ) → slice_index octets i < 256

-- the format of a table's first entry with this identifier; None if the table has no such entry
abbrev pub format_in : List Entry → ℕ → Option Format
format_in table id = option_map (λ e. e.format) (find (λ e. e.id == id) table)

-- the length octets between the identifier and a value of `size` octets: none, one or two, by the
-- format
abbrev pub length_octets : Format → ℕ → List ℕ
length_octets (Tv n) size = []
length_octets Tlv size = size ∷ []
length_octets TlvE size = (size / 256) ∷ (size % 256) ∷ []

-- the format allows a value of this size
abbrev pub HasSize : Format → ℕ → Type 0
HasSize (Tv n) size = size ≡ n
HasSize Tlv size = size < 256
HasSize TlvE size = size < 65536

-- The length octets of the format can hold this size. TV has no length octets, and any size is
-- allowed.
abbrev pub HasLength : Format → ℕ → Type 0
HasLength (Tv n) size = Unit {0}
HasLength Tlv size = size < 256
HasLength TlvE size = size < 65536

-- the octets of an element in this format
abbrev pub element_text : Format → Element → List ℕ
element_text format e = e.id ∷ (length_octets format (length e.value) ++ e.value)

-- The octets are this element in the format that the table gives its identifier, and the format
-- allows the size of the value.
pub record IsElement (table : List Entry) (e : Element) (octets : List ℕ) : Type 0 where
  pub format : Format
  pub known : format_in table e.id ≡ Some format
  pub size : HasSize format (length e.value)
  pub text : octets ≡ element_text format e

-- No element of the table begins at these octets: they are empty or begin with an identifier
-- outside the table.
abbrev pub Stops : List Entry → List ℕ → Type 0
Stops table [] = Unit {0}
Stops table (id ∷ octets) = format_in table id ≡ None

-- The octets begin an element of the table, but at least the last octet of that element is missing.
pub record BreaksOff (table : List Entry) (octets : List ℕ) : Type 0 where
  pub e : Element
  pub more : List ℕ
  pub text : IsElement table e (octets ++ more)
  pub begun : octets ≢ []
  pub lacks : more ≢ []

-- The octets are these elements, one after the other, and a remainder. If `is_cut` is true, the
-- remainder is an element that breaks off; otherwise no element of the table begins at the
-- remainder.
abbrev pub AreElements : List Entry → List ℕ → List Element → Bool → Type 0
AreElements table octets [] is_cut = MatchBool is_cut (BreaksOff table octets) (Stops table octets)
AreElements table octets (e ∷ es) is_cut =
    (text rest : List ℕ) × IsElement table e text × (octets ≡ text ++ rest) ×
    AreElements table rest es is_cut
