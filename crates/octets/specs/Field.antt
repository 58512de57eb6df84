-- SPDX-License-Identifier: MIT OR Apache-2.0
-- The fields of a message: identifiers with the values of their elements, in the order in which
-- they are written.
use Rattle.std.specs.Prelude.{◌≡◌, ℕ, Bool, true, not, ◌&&◌, List, [], ◌∷◌}
use Rattle.std.specs.Prelude.{◌++◌, length, Option}
use Rattle.std.specs.Prelude.{Some, None}
use Rattle.std.specs.List.{list_any}
use Rattle.std.specs.Prelude.{◌==◌}
use Rattle.octets.specs.declared.element.Entry.{Entry}
use Rattle.octets.specs.declared.element.Format.{Format}
use Rattle.octets.specs.Element.{AreOctets, Element, element, format_in, HasSize, element_text}
use Rattle.octets.specs.Walk.{first_of}

-- an identifier, and the value of its element; None if the message has no such element
pub record Field : Type 0 where
  pub id : ℕ
  pub value : Option (List ℕ)

abbrev pub field : ℕ → Option (List ℕ) → Field
field id value = record { id = id; value = value }

-- For each field, the first element with the field's identifier has the field's value. If a field
-- has no value, no element has the field's identifier.
abbrev pub Carries : List Element → List Field → Type 0
Carries es [] = Unit {0}
Carries es (f ∷ fs) = (first_of f.id es ≡ f.value) × Carries es fs

abbrev pub element_text_by : Option Format → Element → List ℕ
element_text_by None e = []
element_text_by (Some format) e = element_text format e

abbrev pub field_text : List Entry → ℕ → Option (List ℕ) → List ℕ
field_text table id None = []
field_text table id (Some value) = element_text_by (format_in table id) (element id value)

-- the octets of the fields' elements, one after the other
abbrev pub fields_text : List Entry → List Field → List ℕ
fields_text table [] = []
fields_text table (f ∷ fs) = field_text table f.id f.value ++ fields_text table fs

-- the table has the identifier, and the identifier's format allows the size of the value
pub record Fits (table : List Entry) (id : ℕ) (value : List ℕ) : Type 0 where
  pub format : Format
  pub known : format_in table id ≡ Some format
  pub size : HasSize format (length value)

-- the value fits its format, and consists of octets
pub record IsSized (table : List Entry) (id : ℕ) (value : List ℕ) : Type 0 where
  pub fits : Fits table id value
  pub octets : AreOctets value

abbrev pub FitsIfPresent : List Entry → ℕ → Option (List ℕ) → Type 0
FitsIfPresent table id None = Unit {0}
FitsIfPresent table id (Some value) = Fits table id value

abbrev pub AllFit : List Entry → List Field → Type 0
AllFit table [] = Unit {0}
AllFit table (f ∷ fs) = FitsIfPresent table f.id f.value × AllFit table fs

-- no two fields have the same identifier
abbrev pub are_distinct : List Field → Bool
are_distinct [] = true
are_distinct (f ∷ fs) = not (list_any (λ g. g.id == f.id) fs) && are_distinct fs
