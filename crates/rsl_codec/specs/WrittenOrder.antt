-- SPDX-License-Identifier: MIT OR Apache-2.0
-- A MEASUREMENT RESULT whose elements are in written order.
use Rattle.std.specs.Prelude.{◌≡◌, ◌⊎◌, ℕ, List, [], ◌∷◌, ◌++◌, map, Option, Some, None}
use Rattle.std.specs.Prelude.{Result, Ok}
use Rattle.octets.specs.Element.{Element, element}
use Rattle.rsl_codec.specs.declared.dedicated_channel.MeasurementResult.{MeasurementResult}
use Rattle.rsl_codec.specs.declared.identifiers.TheConstants.{BS_POWER, CHANNEL_NUMBER}
use Rattle.rsl_codec.specs.declared.identifiers.TheConstants.{L1_INFORMATION, L3_INFORMATION}
use Rattle.rsl_codec.specs.declared.identifiers.TheConstants.{MEASUREMENT_NUMBER}
use Rattle.rsl_codec.specs.declared.identifiers.TheConstants.{UPLINK_MEASUREMENTS}
use Rattle.rsl_codec.specs.declared.fault.RslFault.{RslFault}
use Rattle.rsl_codec.specs.declared.rsl.Rsl.{Rsl}
use Rattle.rsl_codec.specs.declared.rsl.Rsl.TheVariants as messages
use Rattle.rsl_codec.specs.Fields.{number_value}
use Rattle.rsl_codec.specs.RslReading.{elements_of}

-- the element of the L3 information if that is present, else no element
abbrev pub l3_elements : Option (List ℕ) → List Element
l3_elements None = []
l3_elements (Some l3) = element L3_INFORMATION l3 ∷ []

-- all elements of a MEASUREMENT RESULT in written order; only the L3 information may be absent
abbrev pub measured_elements :
    ℕ → ℕ → List ℕ → ℕ → ℕ → Option (List ℕ) → List Element
measured_elements channel number uplink bs_power l1 l3 =
    element CHANNEL_NUMBER (channel ∷ []) ∷ element MEASUREMENT_NUMBER (number ∷ []) ∷
    element UPLINK_MEASUREMENTS uplink ∷ element BS_POWER (bs_power ∷ []) ∷
    element L1_INFORMATION (number_value l1) ∷ l3_elements l3

-- The message that was read is a MEASUREMENT RESULT with this channel, number and L3 information.
pub record IsMeasurement
    (reading : Result Rsl RslFault) (channel number : ℕ) (l3 : Option (List ℕ)) : Type 0 where
  pub message : MeasurementResult
  pub reads : reading ≡ Ok (messages.MeasurementResult message)
  pub channel_is : message.channel ≡ channel
  pub number_is : message.number.0 ≡ number
  pub l3_is : message.l3 ≡ l3

-- the identifiers of the elements of a MEASUREMENT RESULT in written order, without that of the L3
-- information
abbrev pub measured_order : List ℕ
measured_order =
    CHANNEL_NUMBER ∷ MEASUREMENT_NUMBER ∷ UPLINK_MEASUREMENTS ∷ BS_POWER ∷ L1_INFORMATION ∷ []

-- The identifiers are those of all elements of a MEASUREMENT RESULT in written order, with or
-- without that of the L3 information.
abbrev pub AreInOrder : List ℕ → Type 0
AreInOrder ids = (ids ≡ measured_order) ⊎ (ids ≡ measured_order ++ (L3_INFORMATION ∷ []))

-- The message that was read is a MEASUREMENT RESULT, and the elements of `body` are in written
-- order.
pub record IsInOrder (reading : Result Rsl RslFault) (body : List ℕ) : Type 0 where
  pub message : MeasurementResult
  pub reads : reading ≡ Ok (messages.MeasurementResult message)
  pub order : AreInOrder (map (λ e. e.id) (elements_of body))
