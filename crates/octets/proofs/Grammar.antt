-- SPDX-License-Identifier: MIT OR Apache-2.0
-- The walk finds the elements that octets consist of, and no others.
use Rattle.std.proofs.Common.{◌≡◌, ◌≢◌, ℕ, zero, suc, ◌+◌, ◌-◌, ◌*◌, ◌/◌, ◌%◌, ◌<◌, ◌≤◌, Bool, true, false, List, [], ◌∷◌, ◌++◌, length, get_or, take, drop, Option, Some, None, Result, Ok, Err, refl, sym, ap, subst, ◌∙◌, append_assoc, arith, inl, inr}
use Rattle.std.specs.Prelude.{replicate}
use Rattle.std.proofs.lemmas.Bool.{cases_lt, le-ltb, lt-ltb}
use Rattle.std.proofs.lemmas.List.{take_at, drop_at, take-append-drop, take-append-le, drop-append-le, length-append, length-take, length-replicate, get_or-drop, get_or-take, get_or_past, nil_from_length}
use Rattle.octets.specs.declared.element.Entry.{Entry}
use Rattle.octets.specs.declared.element.Cut.{Cut}
use Rattle.octets.specs.declared.element.Format.{Format}
use Rattle.octets.specs.declared.element.Format.TheVariants.{Tv, Tlv, TlvE}
use Rattle.octets.specs.Element.{Element, element, AreOctets, format_in, length_octets, HasSize, IsElement, Stops, BreaksOff, AreElements}
use Rattle.octets.specs.Front.{split_at}
use Rattle.octets.specs.Walk.{the_cut, width_of, size_by, element_at, front_by, front_of, Finding, finding_by, walk}
use Rattle.octets.proofs.Walks.{front_shorter, walk-front}

-- ---- octets of a list, and of its parts

zeros : (n i : ℕ) → get_or (replicate n 0) i 0 < 256
zeros zero i = omega arith
zeros (suc n) zero = omega arith
zeros (suc n) (suc i) = zeros n i

octets_more : (x : ℕ) (xs : List ℕ) → x < 256 → AreOctets xs → AreOctets (x ∷ xs)
octets_more x xs first fits zero = first
octets_more x xs first fits (suc i) = fits i

octets_zeros : (xs : List ℕ) (n : ℕ) → AreOctets xs → AreOctets (xs ++ replicate n 0)
octets_zeros [] n fits = zeros n
octets_zeros (x ∷ xs) n fits = octets_more x (xs ++ replicate n 0) (fits 0) (octets_zeros xs n (λ j. fits (suc j)))

pub octets_take : (n : ℕ) (xs : List ℕ) → AreOctets xs → AreOctets (take n xs)
octets_take n xs fits i =
    elim (cases_lt i n) [
      | inl lt ↦ rw (get_or-take n xs i 0 lt) (fits i)
      | inr le ↦ rw (get_or_past (take n xs) i 0 (omega (arith, length-take n xs))) (omega arith)
    ]

pub octets_drop : (n : ℕ) (xs : List ℕ) → AreOctets xs → AreOctets (drop n xs)
octets_drop n xs fits i = rw (get_or-drop n xs i 0) (fits (n + i))

pub octets_front : (xs ys : List ℕ) → AreOctets (xs ++ ys) → AreOctets xs
octets_front xs ys fits = subst AreOctets (take_at xs ys (length xs) refl) (octets_take (length xs) (xs ++ ys) fits)

pub octets_back : (xs ys : List ℕ) → AreOctets (xs ++ ys) → AreOctets ys
octets_back xs ys fits = subst AreOctets (drop_at xs ys (length xs) refl) (octets_drop (length xs) (xs ++ ys) fits)

-- ---- the length, by the format

width_length : (format : Format) (n : ℕ) → length (length_octets format n) ≡ width_of format
width_length (Tv k) n = refl
width_length Tlv n = refl
width_length TlvE n = refl

size_length : (format : Format) (n : ℕ) → HasSize format n → size_by format (length_octets format n) ≡ n
size_length (Tv k) n h = sym h
size_length Tlv n h = refl
size_length TlvE n h = omega arith

-- octets of length are those of the size that they give, which has a text
record IsLength (format : Format) (octets : List ℕ) : Type 0 where
  text : length_octets format (size_by format octets) ≡ octets
  size : HasSize format (size_by format octets)

length_is : (format : Format) (octets : List ℕ) → length octets ≡ width_of format → AreOctets octets → IsLength format octets
length_is (Tv k) octets long fits = record { text = sym (nil_from_length octets long); size = refl }
length_is Tlv [] long fits = absurd (omega arith)
length_is Tlv (a ∷ []) long fits = record { text = refl; size = fits 0 }
length_is Tlv (a ∷ b ∷ octets) long fits = absurd (omega arith)
length_is TlvE [] long fits = absurd (omega arith)
length_is TlvE (a ∷ []) long fits = absurd (omega arith)
length_is TlvE (a ∷ b ∷ []) long fits =
    let high : a < 256 = fits 0 in
    let low : b < 256 = fits 1 in
    let first : (256 * a + b) / 256 ≡ a = omega arith in
    let second : (256 * a + b) % 256 ≡ b = omega arith in
    record { text = rw (first, second) refl; size = omega arith }
length_is TlvE (a ∷ b ∷ c ∷ octets) long fits = absurd (omega arith)

-- ---- what is there is split off

split_again : (xs ys : List ℕ) (n : ℕ) → length xs ≡ n → split_at the_cut n (xs ++ ys) ≡ Ok (xs, ys)
split_again xs ys n long =
    rw (le-ltb (length (xs ++ ys)) n (omega (arith, length-append xs ys)), take_at xs ys n long, drop_at xs ys n long) refl

split_short : (xs : List ℕ) (n : ℕ) → length xs < n → split_at the_cut n xs ≡ Err the_cut
split_short xs n lt = rw (lt-ltb (length xs) n lt) refl

split_long : (xs : List ℕ) (n : ℕ) → n ≤ length xs → split_at the_cut n xs ≡ Ok (take n xs, drop n xs)
split_long xs n le = rw (le-ltb (length xs) n le) refl

-- ---- the front, from the grammar

element_again : (id : ℕ) (format : Format) (value rest : List ℕ) → HasSize format (length value) →
    element_at id format ((length_octets format (length value) ++ value) ++ rest) ≡ Ok (Some (element id value, rest))
element_again id format value rest size =
    ap (element_at id format) (append_assoc (length_octets format (length value)) value rest)
    ∙ rw (split_again (length_octets format (length value)) (value ++ rest) (width_of format) (width_length format (length value)), size_length format (length value) size, split_again value rest (length value) refl) refl

front_again : (table : List Entry) (e : Element) (text rest : List ℕ) → IsElement table e text →
    front_of table (text ++ rest) ≡ Ok (Some (e, rest))
front_again table e text rest is =
    ap (λ t. front_of table (t ++ rest)) is.text
    ∙ ap (λ o. front_by e.id o ((length_octets is.format (length e.value) ++ e.value) ++ rest)) is.known
    ∙ element_again e.id is.format e.value rest is.size

-- of an element that lacks octets the length or the value is short
element_short : (id : ℕ) (format : Format) (value octets more : List ℕ) → HasSize format (length value) →
    octets ++ more ≡ length_octets format (length value) ++ value → 0 < length more →
    element_at id format octets ≡ Err the_cut
element_short id format value octets more size text lacks =
    let w = width_of format in
    let ls = length_octets format (length value) in
    let wide : length ls ≡ w = width_length format (length value) in
    elim (cases_lt (length octets) w) [
      | inl lt ↦ rw (split_short octets w lt) refl
      | inr le ↦
          let front : take w octets ≡ ls = sym (take-append-le w octets more le) ∙ ap (take w) text ∙ take_at ls value w wide in
          let back : drop w octets ++ more ≡ value = sym (drop-append-le w octets more le) ∙ ap (drop w) text ∙ drop_at ls value w wide in
          let short : length (drop w octets) < length value = omega (arith, length-append (drop w octets) more, ap length back) in
          rw (split_long octets w le, front, size_length format (length value) size, split_short (drop w octets) (length value) short) refl
    ]

nonempty : (xs : List ℕ) → xs ≢ [] → 0 < length xs
nonempty [] h = absurd (h refl)
nonempty (x ∷ xs) h = omega arith

same_head : (a b : ℕ) (xs ys : List ℕ) → a ∷ xs ≡ b ∷ ys → a ≡ b
same_head a b xs ys h = cc

same_tail : (a b : ℕ) (xs ys : List ℕ) → a ∷ xs ≡ b ∷ ys → xs ≡ ys
same_tail a b xs ys h = cc

front_short : (table : List Entry) (octets : List ℕ) → BreaksOff table octets → front_of table octets ≡ Err the_cut
front_short table [] b = absurd (b.begun refl)
front_short table (id ∷ octets) b =
    let is = b.text in
    let tail = length_octets is.format (length b.e.value) ++ b.e.value in
    let known : format_in table id ≡ Some is.format = ap (format_in table) (same_head id b.e.id (octets ++ b.more) tail is.text) ∙ is.known in
    rw known (element_short id is.format b.e.value octets b.more is.size (same_tail id b.e.id (octets ++ b.more) tail is.text) (nonempty b.more b.lacks))

front_stops : (table : List Entry) (octets : List ℕ) → Stops table octets → front_of table octets ≡ Ok None
front_stops table [] h = refl
front_stops table (id ∷ octets) h = rw h refl

-- the octets that are these elements, cut or not, are finding so
pub walk_only : (table : List Entry) (octets : List ℕ) (es : List Element) (is_cut : Bool) →
    AreElements table octets es is_cut → walk table octets ≡ record { elements = es; is_cut = is_cut }
walk_only table octets [] true are = walk-front table octets (Err the_cut) (front_short table octets are)
walk_only table octets [] false are = walk-front table octets (Ok None) (front_stops table octets are)
walk_only table octets (e ∷ es) is_cut are =
    let text = are.0 in
    let rest = are.1 in
    walk-front table octets (Ok (Some (e, rest))) (ap (front_of table) are.3 ∙ front_again table e text rest are.2)
    ∙ ap (λ (w : Finding). record { elements = e ∷ w.elements; is_cut = w.is_cut }) (walk_only table rest es is_cut are.4)

-- ---- the grammar, from the front

-- what a front says of the octets
abbrev FrontIs : List Entry → List ℕ → Result (Option (Element × List ℕ)) Cut → Type 0
FrontIs table octets (Err e) = BreaksOff table octets
FrontIs table octets (Ok None) = Stops table octets
FrontIs table octets (Ok (Some f)) = (text : List ℕ) × IsElement table f.0 text × (octets ≡ text ++ f.1)

-- the length itself is cut: behind it zeros would do
length_breaks : (table : List Entry) (id : ℕ) (format : Format) (octets : List ℕ) → AreOctets octets →
    format_in table id ≡ Some format → length octets < width_of format → BreaksOff table (id ∷ octets)
length_breaks table id format octets fits known lt =
    let lack : List ℕ = replicate (width_of format - length octets) 0 in
    let whole : List ℕ = octets ++ lack in
    let size = size_by format whole in
    let value : List ℕ = replicate size 0 in
    let wide : length whole ≡ width_of format = omega (arith, length-append octets lack, length-replicate {A = ℕ} (width_of format - length octets) 0) in
    let is = length_is format whole wide (octets_zeros octets (width_of format - length octets) fits) in
    let long : length value ≡ size = length-replicate {A = ℕ} size 0 in
    let same : octets ++ (lack ++ value) ≡ length_octets format (length value) ++ value =
    sym (append_assoc octets lack value) ∙ ap (λ ls. ls ++ value) (sym is.text ∙ ap (length_octets format) (sym long)) in
    record {
      e = element id value;
      more = lack ++ value;
      text = record { format = format; known = known; size = rw long is.size; text = ap (λ (xs : List ℕ). id ∷ xs) same };
      begun = λ h. absurd cc;
      lacks = λ h. absurd (omega (arith, ap length h, length-append lack value, length-replicate {A = ℕ} (width_of format - length octets) 0));
    }

-- the value is cut: behind it zeros would do
value_breaks : (table : List Entry) (id : ℕ) (format : Format) (octets : List ℕ) → AreOctets octets →
    format_in table id ≡ Some format → width_of format ≤ length octets
    → length (drop (width_of format) octets) < size_by format (take (width_of format) octets) → BreaksOff table (id ∷ octets)
value_breaks table id format octets fits known le lt =
    let w = width_of format in
    let ls = take w octets in
    let size = size_by format ls in
    let lack : List ℕ = replicate (size - length (drop w octets)) 0 in
    let value : List ℕ = drop w octets ++ lack in
    let is = length_is format ls (omega (arith, length-take w octets)) (octets_take w octets fits) in
    let long : length value ≡ size = omega (arith, length-append (drop w octets) lack, length-replicate {A = ℕ} (size - length (drop w octets)) 0) in
    let same : octets ++ lack ≡ length_octets format (length value) ++ value =
    ap (λ xs. xs ++ lack) (sym (take-append-drop w octets)) ∙ append_assoc ls (drop w octets) lack ∙ ap (λ xs. xs ++ value) (sym is.text ∙ ap (length_octets format) (sym long)) in
    record {
      e = element id value;
      more = lack;
      text = record { format = format; known = known; size = rw long is.size; text = ap (λ (xs : List ℕ). id ∷ xs) same };
      begun = λ h. absurd cc;
      lacks = λ h. absurd (omega (arith, ap length h, length-replicate {A = ℕ} (size - length (drop w octets)) 0));
    }

-- the element is whole
element_is : (table : List Entry) (id : ℕ) (format : Format) (octets : List ℕ) → AreOctets octets →
    format_in table id ≡ Some format → width_of format ≤ length octets
    → size_by format (take (width_of format) octets) ≤ length (drop (width_of format) octets)
    → FrontIs table (id ∷ octets) (Ok (Some (element id (take (size_by format (take (width_of format) octets)) (drop (width_of format) octets)), drop (size_by format (take (width_of format) octets)) (drop (width_of format) octets))))
element_is table id format octets fits known le le' =
    let w = width_of format in
    let ls = take w octets in
    let size = size_by format ls in
    let value = take size (drop w octets) in
    let rest = drop size (drop w octets) in
    let is = length_is format ls (omega (arith, length-take w octets)) (octets_take w octets fits) in
    let long : length value ≡ size = omega (arith, length-take size (drop w octets)) in
    let parts : octets ≡ (ls ++ value) ++ rest =
    sym (take-append-drop w octets) ∙ ap (λ xs. ls ++ xs) (sym (take-append-drop size (drop w octets))) ∙ sym (append_assoc ls value rest) in (
      id ∷ (ls ++ value),
      record { format = format; known = known; size = rw long is.size; text = ap (λ xs. id ∷ (xs ++ value)) (sym is.text ∙ ap (length_octets format) (sym long)) },
      ap (λ (xs : List ℕ). id ∷ xs) parts,
    )

front_by_is : (table : List Entry) (id : ℕ) (octets : List ℕ) (format : Option Format) → AreOctets octets →
    format_in table id ≡ format → FrontIs table (id ∷ octets) (front_by id format octets)
front_by_is table id octets None fits known = known
front_by_is table id octets (Some format) fits known =
    let w = width_of format in
    let size = size_by format (take w octets) in
    elim (cases_lt (length octets) w) [
      | inl lt ↦ rw (split_short octets w lt) (length_breaks table id format octets fits known lt)
      | inr le ↦
          elim (cases_lt (length (drop w octets)) size) [
            | inl lt ↦ rw (split_long octets w le, split_short (drop w octets) size lt) (value_breaks table id format octets fits known le lt)
            | inr le' ↦ rw (split_long octets w le, split_long (drop w octets) size le') (element_is table id format octets fits known le le')
          ]
    ]

front_is : (table : List Entry) (octets : List ℕ) → AreOctets octets → FrontIs table octets (front_of table octets)
front_is table [] fits = tt
front_is table (id ∷ octets) fits = front_by_is table id octets (format_in table id) (λ i. fits (suc i)) refl

-- what a walk found, by its front and the walk behind it
found_by : (table : List Entry) (octets : List ℕ) (front : Result (Option (Element × List ℕ)) Cut) → FrontIs table octets front
    → ((f : Element × List ℕ) → front ≡ Ok (Some f) → AreElements table f.1 (walk table f.1).elements (walk table f.1).is_cut)
    → AreElements table octets (finding_by front (walk table)).elements (finding_by front (walk table)).is_cut
found_by table octets (Err e) is behind = is
found_by table octets (Ok None) is behind = is
found_by table octets (Ok (Some f)) is behind = (is.0, f.1, is.1, is.2, behind f refl)

found_within : (table : List Entry) (n : ℕ) (octets : List ℕ) → length octets ≤ n → AreOctets octets →
    AreElements table octets (walk table octets).elements (walk table octets).is_cut
found_within table zero [] le fits = subst (λ (w : Finding). AreElements table [] w.elements w.is_cut) (sym (walk-front table [] (Ok None) refl)) tt
found_within table zero (x ∷ octets) le fits = absurd (omega arith)
found_within table (suc n) octets le fits =
    subst (λ (w : Finding). AreElements table octets w.elements w.is_cut) (sym (walk-front table octets (front_of table octets) refl))
    (found_by table octets (front_of table octets) (front_is table octets fits)
    (λ f e.
    let lt = front_shorter table octets f e in
    let is : FrontIs table octets (Ok (Some f)) = subst (FrontIs table octets) e (front_is table octets fits) in
    found_within table n f.1 (omega arith) (octets_back is.0 f.1 (subst AreOctets is.2 fits))))

-- the walk finds the elements that the octets consist of
pub walk_found : (table : List Entry) (octets : List ℕ) → AreOctets octets →
    AreElements table octets (walk table octets).elements (walk table octets).is_cut
walk_found table octets fits = found_within table (length octets) octets (omega arith) fits
