-- SPDX-License-Identifier: MIT OR Apache-2.0
-- The texts of what stations make are octets.
use Rattle.world_laws.proofs.Prelude.{◌≡◌, ℕ, zero, suc, ◌%◌, ◌<◌, ◌≤◌, ◌==◌, ◌&&◌, ◌||◌, nat_le, Bool, true, false, if◌then◌else◌, List}
use Rattle.world_laws.proofs.Prelude.{[], ◌∷◌, ◌++◌, length, Option, Some, None, refl, sym, subst, arith, AllByRecursion, eqb-true}
use Rattle.world_laws.proofs.Prelude.{leb-true, Sapi, Zero, Three, activation_ack, data_indication, establish_indication, AreOctets}
use Rattle.world_laws.proofs.Prelude.{is_channel, FIRST_SDCCH, MAIN_LINK_SAPI_3, SACCH_SAPI_3, Rsl, RfChannelReleaseAck, IsL3, rsl_text}
use Rattle.world_laws.proofs.Prelude.{channel_required, handover_detection, measurement_result, link_answer, ◌/◌, link_on, element}
use Rattle.world_laws.proofs.Prelude.{format_in, FIRST_TCH, LAST_SDCCH, PCH_AND_AGCH, RACH, fields, rsl_field_text, rsl_fields_text}
use Rattle.octets.specs.declared.element.Format.{Format}
use Rattle.octets.specs.declared.element.Format.TheVariants.{Tv, Tlv, TlvE}
use Rattle.octets.specs.Field.{Field, element_text_by}
use Rattle.rsl_codec.specs.declared.identifiers.TheConstants.{ELEMENTS}
use Rattle.rsl_codec.specs.RslText.{rsl_element_text}

-- ---- lists

pub record Octets (xs : List ℕ) : Type 0 where
  pub are : AreOctets xs

pub octets_nil : Octets []
octets_nil = record { are = none } where
  none : AreOctets []
  none i = omega arith

pub octets_cons : {x : ℕ} {xs : List ℕ} → x < 256 → Octets xs → Octets (x ∷ xs)
octets_cons {x} {xs} small all = record { are = by } where
  by : AreOctets (x ∷ xs)
  by zero = small
  by (suc i) = all.are i

pub octets_first : {x : ℕ} {xs : List ℕ} → Octets (x ∷ xs) → x < 256
octets_first all = all.are 0

pub octets_behind : {x : ℕ} {xs : List ℕ} → Octets (x ∷ xs) → Octets xs
octets_behind {x} {xs} all = record { are = by } where
  by : AreOctets xs
  by i = all.are (suc i)

pub octets_append : {xs ys : List ℕ} → Octets xs → Octets ys → Octets (xs ++ ys)
octets_append {xs} {ys} all more = by xs all where
  by : (xs : List ℕ) → Octets xs → Octets (xs ++ ys)
  by [] all = more
  by (x ∷ xs) all = octets_cons (octets_first all) (by xs (octets_behind all))

abbrev pub OctetsIf : Option (List ℕ) → Type 0
OctetsIf None = Unit {0}
OctetsIf (Some message) = Octets message

-- ---- elements

-- a value of octets whose length is one, too
abbrev pub IsOctetValue : Option (List ℕ) → Type 0
IsOctetValue None = Unit {0}
IsOctetValue (Some value) = (length value < 256) × Octets value

pub element_octets : (o : Option Format) (id : ℕ) (value : List ℕ) →
    id < 256 →
    length value < 256 →
    Octets value →
    Octets (element_text_by o (element id value))
element_octets None id value small few all = octets_nil
element_octets (Some (Tv n)) id value small few all = octets_cons small all
element_octets (Some Tlv) id value small few all = octets_cons small (octets_cons few all)
element_octets (Some TlvE) id value small few all = octets_cons small (octets_cons (high (length value) few) (octets_cons (low (length value)) all)) where
  high : (n : ℕ) → n < 256 → n / 256 < 256
  high n few = omega (arith, few)

  low : (n : ℕ) → n % 256 < 256
  low n = omega arith

abbrev IsOctetField : Field → Type 0
IsOctetField f = (f.id < 256) × IsOctetValue f.value

field_octets : (id : ℕ) (value : Option (List ℕ)) → id < 256 → IsOctetValue value → Octets (rsl_field_text id value)
unfolding rsl_element_text
field_octets id None small of = octets_nil
field_octets id (Some value) small of = element_octets (format_in ELEMENTS id) id value small of.0 of.1

fields_octets : (fs : List Field) → AllByRecursion IsOctetField fs → Octets (rsl_fields_text fs)
fields_octets [] all = octets_nil
fields_octets (f ∷ fs) all = octets_append (field_octets f.id f.value all.0.0 all.0.1) (fields_octets fs all.1)

-- ---- messages

abbrev pub IsOctetRsl : Rsl → Type 0
IsOctetRsl message = Octets (rsl_text message)

channel_small : (channel : ℕ) → is_channel channel ≡ true → channel < 256
channel_small channel is = by (nat_le FIRST_TCH channel) (nat_le channel LAST_SDCCH) (channel == RACH) (channel == PCH_AND_AGCH) refl refl refl is where
  none : (a : Bool) → (a && false) || false || false ≡ true → ⊥
  none true h = absurd cc
  none false h = absurd cc

  few : (limit : ℕ) → limit < 256 → channel ≤ limit → channel < 256
  few limit small le = omega (arith, small, le)

  same : (other : ℕ) → other < 256 → channel ≡ other → channel < 256
  same other small eq = subst (λ (n : ℕ). n < 256) (sym eq) small

  by : (a b c d : Bool) →
      nat_le channel LAST_SDCCH ≡ b →
      (channel == RACH) ≡ c →
      (channel == PCH_AND_AGCH) ≡ d →
      (a && b) || c || d ≡ true →
      channel < 256
  by a true c d e f g h = few LAST_SDCCH (omega arith) (leb-true channel LAST_SDCCH e)
  by a false true d e f g h = same RACH (omega arith) (eqb-true channel RACH f)
  by a false false true e f g h = same PCH_AND_AGCH (omega arith) (eqb-true channel PCH_AND_AGCH g)
  by a false false false e f g h = absurd (none a h)

one : {n : ℕ} → n < 256 → IsOctetValue (Some (n ∷ []))
one small = (omega arith, octets_cons small octets_nil)

link_small : (channel : ℕ) (sapi : Sapi) → link_on channel sapi < 256
link_small channel Zero = omega arith
link_small channel Three = by (nat_le FIRST_SDCCH channel) where
  by : (b : Bool) → (if b then MAIN_LINK_SAPI_3 else SACCH_SAPI_3) < 256
  by true = omega arith
  by false = omega arith

l3_value : (o : Option (List ℕ)) → IsL3 o → OctetsIf o → IsOctetValue o
l3_value None l3 all = tt
l3_value (Some frame) l3 all = (omega (arith, l3.1), all)

pub octet_request : (number : ℕ) → number < 256 → IsOctetRsl (channel_required number)
octet_request number small = octets_cons (omega arith) (octets_cons (omega arith) (fields_octets (fields (channel_required number)) ((omega arith, one (omega arith)), ((omega arith, (omega arith, octets_cons small (octets_cons (omega arith) (octets_cons (omega arith) octets_nil)))), ((omega arith, one (omega arith)), tt)))))

pub octet_ack : (channel : ℕ) → is_channel channel ≡ true → IsOctetRsl (activation_ack channel)
octet_ack channel is = octets_cons (omega arith) (octets_cons (omega arith) (fields_octets (fields (activation_ack channel)) ((omega arith, one (channel_small channel is)), ((omega arith, (omega arith, octets_cons (omega arith) (octets_cons (omega arith) octets_nil))), tt))))

pub octet_release : (channel : ℕ) → is_channel channel ≡ true → IsOctetRsl (RfChannelReleaseAck channel)
octet_release channel is = octets_cons (omega arith) (octets_cons (omega arith) (fields_octets (fields (RfChannelReleaseAck channel)) ((omega arith, one (channel_small channel is)), tt)))

pub octet_answer : (answer : Bool) (channel : ℕ) → is_channel channel ≡ true → IsOctetRsl (link_answer answer channel)
octet_answer true channel is = octets_cons (omega arith) (octets_cons (omega arith) (fields_octets (fields (link_answer true channel)) ((omega arith, one (channel_small channel is)), ((omega arith, one (link_small channel Three)), tt))))
octet_answer false channel is = octets_cons (omega arith) (octets_cons (omega arith) (fields_octets (fields (link_answer false channel)) ((omega arith, one (channel_small channel is)), ((omega arith, one (link_small channel Three)), tt))))

pub octet_detection : (channel : ℕ) → is_channel channel ≡ true → IsOctetRsl (handover_detection channel)
octet_detection channel is = octets_cons (omega arith) (octets_cons (omega arith) (fields_octets (fields (handover_detection channel)) ((omega arith, one (channel_small channel is)), ((omega arith, tt), tt))))

pub octet_establishment : (channel : ℕ) (sapi : Sapi) (o : Option (List ℕ)) →
    is_channel channel ≡ true →
    IsL3 o →
    OctetsIf o →
    IsOctetRsl (establish_indication channel sapi o)
octet_establishment channel sapi o is l3 all = octets_cons (omega arith) (octets_cons (omega arith) (fields_octets (fields (establish_indication channel sapi o)) ((omega arith, one (channel_small channel is)), ((omega arith, one (link_small channel sapi)), ((omega arith, l3_value o l3 all), tt)))))

pub octet_data : (channel : ℕ) (sapi : Sapi) (frame : List ℕ) →
    is_channel channel ≡ true →
    IsL3 (Some frame) →
    Octets frame →
    IsOctetRsl (data_indication channel sapi frame)
octet_data channel sapi frame is l3 all = octets_cons (omega arith) (octets_cons (omega arith) (fields_octets (fields (data_indication channel sapi frame)) ((omega arith, one (channel_small channel is)), ((omega arith, one (link_small channel sapi)), ((omega arith, l3_value (Some frame) l3 all), tt)))))

pub octet_report : (channel number : ℕ) (report : List ℕ) →
    is_channel channel ≡ true →
    number < 256 →
    length report ≡ 16 →
    Octets report →
    IsOctetRsl (measurement_result channel number report)
octet_report channel number report is small sixteen all = octets_cons (omega arith) (octets_cons (omega arith) (fields_octets (fields (measurement_result channel number report)) ((omega arith, one (channel_small channel is)), ((omega arith, one small), ((omega arith, tt), ((omega arith, tt), ((omega arith, tt), ((omega arith, (few (length report) sixteen, octets_cons (omega arith) (octets_cons (omega arith) all))), tt)))))))) where
  few : (n : ℕ) → n ≡ 16 → suc (suc n) < 256
  few n is = omega arith
