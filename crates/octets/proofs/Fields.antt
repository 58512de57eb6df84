-- SPDX-License-Identifier: MIT OR Apache-2.0
-- Written fields are read back as these fields.
use Rattle.std.proofs.Common.{◌≡◌, ◌≢◌, ℕ, suc, Bool, true, false, not, eqb, List, [], ◌∷◌, ◌++◌, length, Option, Some, None, refl, sym, ap, subst, ◌∙◌, append_assoc, inl, inr}
use Rattle.std.specs.List.{list_any}
use Rattle.std.proofs.lemmas.Bool.{cases_eq, and_parts, or_parts, not-true, eqb-false}
use Rattle.octets.specs.declared.element.Entry.{Entry}
use Rattle.octets.specs.Element.{Element, element, AreOctets, element_text, length_octets, IsElement, Stops, AreElements}
use Rattle.octets.specs.Walk.{first_of}
use Rattle.octets.specs.Field.{Field, Carries, element_text_by, field_text, fields_text, FitsIfPresent, AllFit, IsSized, are_distinct}
use Rattle.octets.proofs.Walks.{first_here, first_behind}
use Rattle.octets.proofs.Grammar.{octets_front, octets_back}

-- the element of a field, before others
abbrev pub with_field : ℕ → Option (List ℕ) → List Element → List Element
with_field id None es = es
with_field id (Some value) es = element id value ∷ es

abbrev pub elements_of : List Field → List Element
elements_of [] = []
elements_of (f ∷ fs) = with_field f.id f.value (elements_of fs)

-- ---- the text is these elements

with_text : (table : List Entry) (id : ℕ) (value : Option (List ℕ)) (rest : List ℕ) (es : List Element) →
    FitsIfPresent table id value → AreElements table rest es false →
    AreElements table (field_text table id value ++ rest) (with_field id value es) false
with_text table id None rest es fits are = are
with_text table id (Some value) rest es fits are = (
  element_text fits.format (element id value),
  rest,
  record { format = fits.format; known = fits.known; size = fits.size; text = refl },
  ap (λ o. element_text_by o (element id value) ++ rest) fits.known,
  are,
)

pub fields_are : (table : List Entry) (fs : List Field) (more : List ℕ) → AllFit table fs → Stops table more →
    AreElements table (fields_text table fs ++ more) (elements_of fs) false
fields_are table [] more fits stops = stops
fields_are table (f ∷ fs) more fits stops =
    subst (λ (octets : List ℕ). AreElements table octets (elements_of (f ∷ fs)) false) (sym (append_assoc (field_text table f.id f.value) (fields_text table fs) more))
    (with_text table f.id f.value (fields_text table fs ++ more) (elements_of fs) fits.0 (fields_are table fs more fits.1 stops))

-- ---- and it carries the fields

abbrev is_among : ℕ → List Field → Bool
is_among id fs = list_any (λ (g : Field). eqb g.id id) fs

-- an element with another identifier changes nothing
first_with : (id other : ℕ) (value : Option (List ℕ)) (es : List Element) → other ≢ id →
    first_of id (with_field other value es) ≡ first_of id es
first_with id other None es h = refl
first_with id other (Some value) es h = first_behind (element other value) es id h

among_parts : (id : ℕ) (f : Field) (fs : List Field) → is_among id (f ∷ fs) ≡ false → (eqb f.id id ≡ false) × (is_among id fs ≡ false)
among_parts id f fs h = or_parts (eqb f.id id) (is_among id fs) h

none_among : (id : ℕ) (fs : List Field) → is_among id fs ≡ false → first_of id (elements_of fs) ≡ None
none_among id [] h = refl
none_among id (f ∷ fs) h =
    let parts = among_parts id f fs h in
    first_with id f.id f.value (elements_of fs) (eqb-false f.id id parts.0) ∙ none_among id fs parts.1

-- a field at the front is the first with its identifier
first_is : (id : ℕ) (value : Option (List ℕ)) (fs : List Field) → is_among id fs ≡ false →
    first_of id (with_field id value (elements_of fs)) ≡ value
first_is id None fs h = none_among id fs h
first_is id (Some value) fs h = first_here (element id value) (elements_of fs) id refl

-- what elements carry, they carry behind one with another identifier
carries_with : (id : ℕ) (value : Option (List ℕ)) (es : List Element) (fs : List Field) → is_among id fs ≡ false →
    Carries es fs → Carries (with_field id value es) fs
carries_with id value es [] h has = tt
carries_with id value es (f ∷ fs) h has =
    let parts = among_parts id f fs h in
    (first_with f.id id value es (λ e. eqb-false f.id id parts.0 (sym e)) ∙ has.0, carries_with id value es fs parts.1 has.1)

pub fields_carried : (fs : List Field) → are_distinct fs ≡ true → Carries (elements_of fs) fs
fields_carried [] h = tt
fields_carried (f ∷ fs) h =
    let parts = and_parts (not (is_among f.id fs)) (are_distinct fs) h in
    let apart : is_among f.id fs ≡ false = not-true (is_among f.id fs) parts.0 in
    (first_is f.id f.value fs apart, carries_with f.id f.value (elements_of fs) fs apart (fields_carried fs parts.1))

-- ---- what is found fits the table, and is octets

some_is : (x y : List ℕ) → (let a : Option (List ℕ) = Some x in a) ≡ Some y → x ≡ y
some_is x y e = cc

-- the value of an element is octets, where the text is
value_octets : (id : ℕ) (ls value : List ℕ) → AreOctets (id ∷ (ls ++ value)) → AreOctets value
value_octets id ls value fits = octets_back ls value (λ i. fits (suc i))

element_sized : (table : List Entry) (e : Element) (text : List ℕ) → IsElement table e text → AreOctets text → IsSized table e.id e.value
element_sized table e text is fits = record {
  fits = record { format = is.format; known = is.known; size = is.size };
  octets = value_octets e.id (length_octets is.format (length e.value)) e.value (subst AreOctets is.text fits);
}

-- the value that is found first has its format's size
pub found_sized : (table : List Entry) (octets : List ℕ) (es : List Element) (is_cut : Bool) (id : ℕ) (value : List ℕ) →
    AreOctets octets → AreElements table octets es is_cut → first_of id es ≡ Some value → IsSized table id value
found_sized table octets [] is_cut id value fits are found = absurd cc
found_sized table octets (e ∷ es) is_cut id value fits are found =
    let whole : AreOctets (are.0 ++ are.1) = subst AreOctets are.3 fits in
    elim (cases_eq e.id id) [
      | inl same ↦
          let value-is : e.value ≡ value = some_is e.value value (sym (first_here e es id same) ∙ found) in
          subst (IsSized table id) value-is (subst (λ (n : ℕ). IsSized table n e.value) same (element_sized table e are.0 are.2 (octets_front are.0 are.1 whole)))
      | inr other ↦ found_sized table are.1 es is_cut id value (octets_back are.0 are.1 whole) are.4 (sym (first_behind e es id other) ∙ found)
    ]
