-- SPDX-License-Identifier: MIT OR Apache-2.0
-- The steps of reading a message, given their values.
use Rattle.std.proofs.Common.{◌≡◌, ℕ, suc, ◌+◌, ◌*◌, ◌/◌, ◌%◌, ◌<◌, true, ltb, List, [], ◌∷◌, length, Option, Some, None, Ok, option_map, refl, sym, ap, subst, ◌∙◌, arith}
use Rattle.std.proofs.lemmas.Bool.{ltb-false, le-ltb}
use Rattle.octets.specs.declared.element.Format.{Format}
use Rattle.octets.specs.declared.element.Format.TheVariants.{Tv}
use Rattle.octets.specs.Element.{Element, AreOctets, HasSize, format_in}
use Rattle.octets.specs.Field.{IsSized}
use Rattle.octets.specs.Walk.{first_of}
use Rattle.octets.proofs.Steps.{bind_ok, guard, ok_is, passed}
use Rattle.rsl_codec.specs.declared.fault.RslFault.{RslFault}
use Rattle.rsl_codec.specs.declared.fault.RslFault.TheVariants as faults
use Rattle.rsl_codec.specs.declared.identifiers.TheConstants.{CHANNEL_NUMBER, ELEMENTS}
use Rattle.octets.specs.declared.limits.TheConstants.{MESSAGE_LIMIT}
use Rattle.rsl_codec.specs.ChannelNumber.{is_channel}
use Rattle.rsl_codec.specs.Fields.{number_value, octet_value, reference_value}
use Rattle.rsl_codec.specs.RslReading.{channel_at, value_or_missing, l3_at, needed_value, number_of, octet_of, optional_l3_at, reference_of}
use Rattle.rsl_codec.specs.Rsl.{IsL3}

-- ---- elements

found_ok : (id : ℕ) (o : Option (List ℕ)) (v : List ℕ) → value_or_missing id o ≡ Ok v → o ≡ Some v
found_ok id None v e = absurd cc
found_ok id (Some w) v e = ap (λ (x : List ℕ). Some x) (ok_is {A = List ℕ} {F = RslFault} w v e)

pub needed_value_ok : (id : ℕ) (es : List Element) (v : List ℕ) → needed_value id es ≡ Ok v → first_of id es ≡ Some v
needed_value_ok id es v e = found_ok id (first_of id es) v e

-- the values of elements have sizes of their formats
abbrev pub AreSized : List Element → Type 0
AreSized es = (id : ℕ) (v : List ℕ) → first_of id es ≡ Some v → IsSized ELEMENTS id v

some_format : (a b : Format) → (let x : Option Format = Some a in x) ≡ Some b → a ≡ b
some_format a b e = cc

sized_as : (id : ℕ) (format : Format) (v : List ℕ) → format_in ELEMENTS id ≡ Some format → IsSized ELEMENTS id v → HasSize format (length v)
sized_as id format v known is = subst (λ (f : Format). HasSize f (length v)) (some_format is.fits.format format (sym is.fits.known ∙ known)) is.fits.size

-- ---- values of one octet, of two and of three

one_is : (v : List ℕ) → length v ≡ 1 → octet_value (octet_of v) ≡ v
one_is [] e = absurd (omega arith)
one_is (a ∷ []) e = refl
one_is (a ∷ b ∷ v) e = absurd (omega arith)

two_is : (v : List ℕ) → length v ≡ 2 → AreOctets v → number_value (number_of v) ≡ v
two_is [] e fits = absurd (omega arith)
two_is (a ∷ []) e fits = absurd (omega arith)
two_is (a ∷ b ∷ []) e fits =
    let low : b < 256 = fits 1 in
    let first : (256 * a + b) / 256 ≡ a = omega arith in
    let second : (256 * a + b) % 256 ≡ b = omega arith in
    rw (first, second) refl
two_is (a ∷ b ∷ c ∷ v) e fits = absurd (omega arith)

three_is : (v : List ℕ) → length v ≡ 3 → AreOctets v → reference_value (reference_of v) ≡ v
three_is [] e fits = absurd (omega arith)
three_is (a ∷ v) e fits = ap (λ (xs : List ℕ). a ∷ xs) (two_is v (omega arith) (λ i. fits (suc i)))

pub octet_is : (id : ℕ) (es : List Element) → format_in ELEMENTS id ≡ Some (Tv 1) → AreSized es → (v : List ℕ) →
    first_of id es ≡ Some v → octet_value (octet_of v) ≡ v
octet_is id es known all v e = one_is v (sized_as id (Tv 1) v known (all id v e))

pub number_is : (id : ℕ) (es : List Element) → format_in ELEMENTS id ≡ Some (Tv 2) → AreSized es → (v : List ℕ) →
    first_of id es ≡ Some v → number_value (number_of v) ≡ v
number_is id es known all v e = let is = all id v e in two_is v (sized_as id (Tv 2) v known is) is.octets

pub reference_is : (id : ℕ) (es : List Element) → format_in ELEMENTS id ≡ Some (Tv 3) → AreSized es → (v : List ℕ) →
    first_of id es ≡ Some v → reference_value (reference_of v) ≡ v
reference_is id es known all v e = let is = all id v e in three_is v (sized_as id (Tv 3) v known is) is.octets

-- an element that the message needs is the field of its value
pub field_is : {X : Type 0} (id : ℕ) (es : List Element) (f : List ℕ → X) (g : X → List ℕ) →
    ((v : List ℕ) → first_of id es ≡ Some v → g (f v) ≡ v) → (v : List ℕ) → needed_value id es ≡ Ok v →
    first_of id es ≡ Some (g (f v))
field_is id es f g back v e =
    let there = needed_value_ok id es v e in
    there ∙ ap (λ (x : List ℕ). Some x) (sym (back v there))

-- and so is one that may be absent
optional_by : {X : Type 0} (o : Option (List ℕ)) (f : List ℕ → X) (g : X → List ℕ) →
    ((v : List ℕ) → o ≡ Some v → g (f v) ≡ v) → o ≡ option_map g (option_map f o)
optional_by None f g back = refl
optional_by (Some v) f g back = ap (λ (x : List ℕ). Some x) (sym (back v refl))

pub optional_is : {X : Type 0} (id : ℕ) (es : List Element) (f : List ℕ → X) (g : X → List ℕ) →
    ((v : List ℕ) → first_of id es ≡ Some v → g (f v) ≡ v) →
    first_of id es ≡ option_map g (option_map f (first_of id es))
optional_is id es f g back = optional_by (first_of id es) f g back

-- what is written of a value is that value
pub optional_again : {X : Type 0} (o : Option X) (f : List ℕ → X) (g : X → List ℕ) → ((x : X) → f (g x) ≡ x) →
    option_map f (option_map g o) ≡ o
optional_again None f g back = refl
optional_again (Some x) f g back = ap (λ (y : _). Some y) (back x)

pub number_again : (n : ℕ) → number_of (number_value n) ≡ n
number_again n = omega arith

-- ---- the channel number

channel_ok : (v : List ℕ) (channel : ℕ) → channel_at v ≡ Ok channel → (octet_of v ≡ channel) × (is_channel channel ≡ true)
channel_ok [] channel e = absurd cc
channel_ok (n ∷ v) channel e =
    let there = passed {A = ℕ} {F = RslFault} (is_channel n) faults.BadChannel (Ok n) channel e in
    let same = ok_is {A = ℕ} {F = RslFault} n channel there.1 in
    (same, subst (λ (m : ℕ). is_channel m ≡ true) same there.0)

-- the channel is that of its element, and there is such a channel
pub channel_is : (es : List Element) → AreSized es → (v : List ℕ) (channel : ℕ) →
    needed_value CHANNEL_NUMBER es ≡ Ok v → channel_at v ≡ Ok channel →
    (first_of CHANNEL_NUMBER es ≡ Some (octet_value channel)) × (is_channel channel ≡ true)
channel_is es all v channel e h =
    let is = channel_ok v channel h in
    (field_is CHANNEL_NUMBER es octet_of octet_value (octet_is CHANNEL_NUMBER es refl all) v e ∙ ap (λ (n : ℕ). Some (octet_value n)) is.0, is.1)

-- ---- L3 information

pub l3_ok : (v l3 : List ℕ) → l3_at v ≡ Ok l3 → (v ≡ l3) × IsL3 (Some l3)
l3_ok [] l3 e = absurd cc
l3_ok (x ∷ xs) l3 e =
    let short = guard {A = List ℕ} {F = RslFault} (ltb MESSAGE_LIMIT (length (x ∷ xs))) faults.TooLong (Ok (x ∷ xs)) l3 e in
    let same = ok_is {A = List ℕ} {F = RslFault} (x ∷ xs) l3 short.1 in
    (same, subst (λ (ys : List ℕ). IsL3 (Some ys)) same (omega arith, ltb-false _ _ short.0))

pub l3_again : (l3 : List ℕ) → IsL3 (Some l3) → l3_at l3 ≡ Ok l3
l3_again [] is = absurd (omega arith)
l3_again (x ∷ xs) is = rw (le-ltb MESSAGE_LIMIT (length (x ∷ xs)) is.1) refl

pub optional_l3_ok : (o l3 : Option (List ℕ)) → optional_l3_at o ≡ Ok l3 → (o ≡ l3) × IsL3 l3
optional_l3_ok None l3 e = let same = ok_is {A = Option (List ℕ)} {F = RslFault} None l3 e in (same, subst IsL3 same tt)
optional_l3_ok (Some v) l3 e =
    let a = bind_ok (l3_at v) (λ x. Ok (Some x)) l3 e in
    let is = l3_ok v a.0 a.1 in
    let same = ok_is {A = Option (List ℕ)} {F = RslFault} (Some a.0) l3 a.2 in
    (ap (λ (x : List ℕ). Some x) is.0 ∙ same, subst IsL3 same is.1)

pub optional_l3_again : (o : Option (List ℕ)) → IsL3 o → optional_l3_at o ≡ Ok o
optional_l3_again None is = refl
optional_l3_again (Some l3) is = rw (l3_again l3 is) refl
