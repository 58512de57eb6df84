-- SPDX-License-Identifier: MIT OR Apache-2.0
-- The elements of octets as a function: a walk from the front that reads one element in each step.
use Rattle.std.specs.Prelude.{ℕ, zero, suc, ◌+◌, ◌*◌, Bool, true, false, ◌==◌, List}
use Rattle.std.specs.Prelude.{[], ◌∷◌}
use Rattle.std.specs.Prelude.{length, slice_index, Option, Some, None, option_map, Result, Ok, Err}
use Rattle.std.specs.List.{find}
use Rattle.octets.specs.declared.element.Entry.{Entry}
use Rattle.octets.specs.declared.element.Cut.{Cut}
use Rattle.octets.specs.declared.element.Format.{Format}
use Rattle.octets.specs.declared.element.Format.TheVariants.{Tv, Tlv, TlvE}
use Rattle.octets.specs.Answer.{◌>>=◌}
use Rattle.octets.specs.Element.{Element, element, format_in}
use Rattle.octets.specs.Front.{split_at}

-- the number of length octets before the value
abbrev pub width_of : Format → ℕ
width_of (Tv n) = 0
width_of Tlv = 1
width_of TlvE = 2

-- the size of the value: fixed for TV, else the number in the length octets
abbrev pub size_by : Format → List ℕ → ℕ
size_by (Tv n) octets = n
size_by Tlv octets = slice_index octets 0
size_by TlvE octets = 256 * slice_index octets 0 + slice_index octets 1

abbrev pub the_cut : Cut
the_cut = record {}

-- The element with the identifier `id`, and the octets after the element. `octets` begins after the
-- identifier. A cut if the octets end within the element.
abbrev pub element_at : ℕ → Format → List ℕ → Result (Option (Element × List ℕ)) Cut
element_at id format octets = do
  size ← split_at the_cut (width_of format) octets
  value ← split_at the_cut (size_by format size.0) size.1
  Ok (Some (element id value.0, value.1))

abbrev pub front_by : ℕ → Option Format → List ℕ → Result (Option (Element × List ℕ)) Cut
front_by id None octets = Ok None
front_by id (Some format) octets = element_at id format octets

-- The element at the front, and the octets after it. None if the octets are empty or begin with an
-- identifier outside the table; a cut if they end within the element.
abbrev pub front_of : List Entry → List ℕ → Result (Option (Element × List ℕ)) Cut
front_of table [] = Ok None
front_of table (id ∷ octets) = front_by id (format_in table id) octets

-- the result of a walk: the whole elements, and whether an element that is cut short follows them
pub record Finding : Type 0 where
  pub elements : List Element
  pub is_cut : Bool

abbrev pub finding : List Element → Bool → Finding
finding es is_cut = record { elements = es; is_cut = is_cut }

abbrev pub finding_by : Result (Option (Element × List ℕ)) Cut → (List ℕ → Finding) → Finding
finding_by (Err e) go = record { elements = []; is_cut = true }
finding_by (Ok None) go = record { elements = []; is_cut = false }
finding_by (Ok (Some f)) go =
    record { elements = f.0 ∷ (go f.1).elements; is_cut = (go f.1).is_cut }

-- a walk of at most n steps
abbrev pub walk_within : List Entry → ℕ → List ℕ → Finding
walk_within table zero octets = record { elements = []; is_cut = false }
walk_within table (suc n) octets = finding_by (front_of table octets) (walk_within table n)

unfoldable pub walk : List Entry → List ℕ → Finding
walk table octets = walk_within table (length octets) octets

-- the value of the first element with this identifier; None if no element has it
abbrev pub first_of : ℕ → List Element → Option (List ℕ)
first_of id es = option_map (λ e. e.value) (find (λ e. e.id == id) es)
