-- SPDX-License-Identifier: MIT OR Apache-2.0
-- A MEASUREMENT RESULT whose elements are in written order.
use Rattle.std.proofs.Common.{◌≡◌, ℕ, ◌/◌, ◌<◌, ◌≤◌, false, List, [], ◌∷◌, ◌++◌, length, Option, Some, None, Ok, refl, ap, arith}
use Rattle.octets.specs.declared.element.Format.TheVariants.{Tv, Tlv, TlvE}
use Rattle.octets.specs.Element.{AreElements, Element, Stops}
use Rattle.octets.specs.Walk.{Finding, finding, walk}
use Rattle.octets.proofs.Grammar.{walk_only}
use Rattle.rsl_codec.specs.declared.identifiers.TheConstants.{ELEMENTS}
use Rattle.rsl_codec.specs.declared.rsl_type.RslType.TheVariants as types
use Rattle.rsl_codec.specs.declared.rsl.Rsl.TheVariants as messages
use Rattle.rsl_codec.specs.ChannelNumber.{channel_by}
use Rattle.rsl_codec.specs.Fields.{number_value}
use Rattle.rsl_codec.specs.WrittenOrder.{IsMeasurement, l3_elements, measured_elements}
use Rattle.rsl_codec.specs.RslReading.{breaks_off, elements_of, measurement_result_at, message_at, optional_l3_at, rsl_reading_by}
use Rattle.rsl_codec.specs.RslType.{rsl_type}
use Rattle.rsl_codec.proofs.Steps.{number_again}

-- L3 information behind which nothing is looked at
pub last_is : (octets l3 rest : List ℕ) → octets ≡ 0x0b ∷ (number_value (length l3) ++ (l3 ++ rest)) → length l3 ≤ 65535 → Stops ELEMENTS rest →
    AreElements ELEMENTS octets (l3_elements (Some l3)) false
last_is octets l3 rest is fits stops =
    (0x0b ∷ (number_value (length l3) ++ l3), rest, record { format = TlvE; known = refl; size = omega arith; text = refl }, is, stops)

-- the octets of a body are these elements, one behind the other
pub record InOrder (body : List ℕ) (channel number : ℕ) (uplink : List ℕ) (power l1 : ℕ) (l3 : Option (List ℕ)) : Type 0 where
  pub first : List ℕ
  pub second : List ℕ
  pub third : List ℕ
  pub fourth : List ℕ
  pub fifth : List ℕ
  pub channel_is : body ≡ 0x01 ∷ (channel ∷ first)
  pub number_is : first ≡ 0x1b ∷ (number ∷ second)
  pub uplink_is : second ≡ 0x19 ∷ (length uplink ∷ (uplink ++ third))
  pub uplink_fits : length uplink ≤ 255
  pub power_is : third ≡ 0x04 ∷ (power ∷ fourth)
  pub l1_is : fourth ≡ 0x0a ∷ (number_value l1 ++ fifth)
  pub last : AreElements ELEMENTS fifth (l3_elements l3) false

pub in_order : (body : List ℕ) (channel number : ℕ) (uplink : List ℕ) (power l1 : ℕ) (l3 : Option (List ℕ)) →
    InOrder body channel number uplink power l1 l3 →
    walk ELEMENTS body ≡ finding (measured_elements channel number uplink power l1 l3) false
in_order body channel number uplink power l1 l3 are =
    let fits : length uplink < 256 = omega (arith, are.uplink_fits) in
    walk_only ELEMENTS body (measured_elements channel number uplink power l1 l3) false (
      0x01 ∷ channel ∷ [],
      are.first,
      record { format = Tv 1; known = refl; size = refl; text = refl },
      are.channel_is,
      (
        0x1b ∷ number ∷ [],
        are.second,
        record { format = Tv 1; known = refl; size = refl; text = refl },
        are.number_is,
        (
          0x19 ∷ length uplink ∷ uplink,
          are.third,
          record { format = Tlv; known = refl; size = fits; text = refl },
          are.uplink_is,
          (
            0x04 ∷ power ∷ [],
            are.fourth,
            record { format = Tv 1; known = refl; size = refl; text = refl },
            are.power_is,
            (
              0x0a ∷ number_value l1,
              are.fifth,
              record { format = Tv 2; known = refl; size = refl; text = refl },
              are.l1_is,
              are.last,
            ),
          ),
        ),
      ),
    )

pub type_is : (discriminator octet : ℕ) → discriminator / 2 ≡ 4 → octet ≡ 0x28 → rsl_type discriminator octet ≡ Some types.MeasurementResult
unfolding rsl_type
type_is discriminator octet e is = rw (e, is) refl

result_at : (octet channel number : ℕ) (uplink : List ℕ) (power l1 : ℕ) (l3 : Option (List ℕ)) →
    channel_by octet ≡ Ok channel → optional_l3_at l3 ≡ Ok l3 →
    message_at types.MeasurementResult (measured_elements octet number uplink power l1 l3) ≡ Ok (messages.MeasurementResult (record {
      channel = channel;
      number = record { 0 = number };
      uplink = Some (record { 0 = uplink });
      bs_power = Some (record { 0 = power });
      l1 = Some (record { 0 = l1 });
      l3 = l3;
    }))
unfolding message_at measurement_result_at
result_at octet channel number uplink power l1 None is there = rw (is, number_again l1) refl
result_at octet channel number uplink power l1 (Some l3) is there = rw (is, there, number_again l1) refl

is_whole : (body : List ℕ) (es : List Element) → walk ELEMENTS body ≡ finding es false → breaks_off body ≡ false
unfolding breaks_off
is_whole body es walked = ap (λ (f : Finding). f.is_cut) walked

pub are_these : (body : List ℕ) (es : List Element) → walk ELEMENTS body ≡ finding es false → elements_of body ≡ es
unfolding elements_of
are_these body es walked = ap (λ (f : Finding). f.elements) walked

-- such a body is read so
pub reads_in_order : (body : List ℕ) (octet channel number : ℕ) (uplink : List ℕ) (power l1 : ℕ) (l3 : Option (List ℕ)) →
    walk ELEMENTS body ≡ finding (measured_elements octet number uplink power l1 l3) false →
    channel_by octet ≡ Ok channel → optional_l3_at l3 ≡ Ok l3 →
    IsMeasurement (rsl_reading_by (Some types.MeasurementResult) body) channel number l3
reads_in_order body octet channel number uplink power l1 l3 walked channel_is l3_is =
    let whole : breaks_off body ≡ false = is_whole body _ walked in
    let these : elements_of body ≡ measured_elements octet number uplink power l1 l3 = are_these body _ walked in
    record {
      message = record {
        channel = channel;
        number = record { 0 = number };
        uplink = Some (record { 0 = uplink });
        bs_power = Some (record { 0 = power });
        l1 = Some (record { 0 = l1 });
        l3 = l3;
      };
      reads = rw (whole, these) (result_at octet channel number uplink power l1 l3 channel_is l3_is);
      channel_is = refl;
      number_is = refl;
      l3_is = refl;
    }
