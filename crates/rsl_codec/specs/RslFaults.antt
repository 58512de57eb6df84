-- SPDX-License-Identifier: MIT OR Apache-2.0
-- The fault of octets that aren't a text of a message, derived from the elements of the octets (TS
-- 48.058 clauses 8 and 9).
use Rattle.std.specs.Prelude.{◌≡◌, ℕ, ◌<◌, Bool, true, false, not, ◌==◌, nat_lt}
use Rattle.std.specs.Prelude.{List, [], ◌∷◌}
use Rattle.std.specs.Prelude.{◌++◌, map, length, slice_index, Option, Some, None, is_none}
use Rattle.std.specs.Prelude.{Result}
use Rattle.octets.specs.Causes.{first_that_holds}
use Rattle.octets.specs.Element.{Element, AreElements}
use Rattle.octets.specs.Refusal.{RefusesBy}
use Rattle.octets.specs.Walk.{first_of}
use Rattle.octets.specs.declared.limits.TheConstants.{MESSAGE_LIMIT}
use Rattle.rsl_codec.specs.declared.fault.RslFault.{RslFault}
use Rattle.rsl_codec.specs.declared.fault.RslFault.TheVariants.{Short, UnknownType, MissingElement}
use Rattle.rsl_codec.specs.declared.fault.RslFault.TheVariants.{BadChannel, Memory, TooLong}
use Rattle.rsl_codec.specs.declared.identifiers.TheConstants.{ELEMENTS, ACCESS_DELAY}
use Rattle.rsl_codec.specs.declared.identifiers.TheConstants.{ACTIVATION_TYPE, CHANNEL_MODE}
use Rattle.rsl_codec.specs.declared.identifiers.TheConstants.{CHANNEL_NUMBER, FULL_IMMEDIATE_ASSIGN}
use Rattle.rsl_codec.specs.declared.identifiers.TheConstants.{L3_INFORMATION, LINK_IDENTIFIER}
use Rattle.rsl_codec.specs.declared.identifiers.TheConstants.{MEASUREMENT_NUMBER, RELEASE_MODE}
use Rattle.rsl_codec.specs.declared.identifiers.TheConstants.{REQUEST_REFERENCE}
use Rattle.rsl_codec.specs.declared.rsl.Rsl.{Rsl}
use Rattle.rsl_codec.specs.declared.rsl_type.RslType.{RslType}
use Rattle.rsl_codec.specs.declared.rsl_type.RslType.TheVariants.{DataRequest, DataIndication}
use Rattle.rsl_codec.specs.declared.rsl_type.RslType.TheVariants.{ErrorIndication, EstablishRequest}
use Rattle.rsl_codec.specs.declared.rsl_type.RslType.TheVariants.{EstablishConfirm}
use Rattle.rsl_codec.specs.declared.rsl_type.RslType.TheVariants.{EstablishIndication}
use Rattle.rsl_codec.specs.declared.rsl_type.RslType.TheVariants.{ReleaseRequest, ReleaseConfirm}
use Rattle.rsl_codec.specs.declared.rsl_type.RslType.TheVariants.{ReleaseIndication}
use Rattle.rsl_codec.specs.declared.rsl_type.RslType.TheVariants.{ChannelRequired}
use Rattle.rsl_codec.specs.declared.rsl_type.RslType.TheVariants.{ImmediateAssignCommand}
use Rattle.rsl_codec.specs.declared.rsl_type.RslType.TheVariants.{ChannelActivation}
use Rattle.rsl_codec.specs.declared.rsl_type.RslType.TheVariants.{ChannelActivationAck}
use Rattle.rsl_codec.specs.declared.rsl_type.RslType.TheVariants.{ChannelActivationNack}
use Rattle.rsl_codec.specs.declared.rsl_type.RslType.TheVariants.{ConnectionFailure}
use Rattle.rsl_codec.specs.declared.rsl_type.RslType.TheVariants.{HandoverDetection}
use Rattle.rsl_codec.specs.declared.rsl_type.RslType.TheVariants.{MeasurementResult}
use Rattle.rsl_codec.specs.declared.rsl_type.RslType.TheVariants.{RfChannelRelease}
use Rattle.rsl_codec.specs.declared.rsl_type.RslType.TheVariants.{RfChannelReleaseAck}
use Rattle.rsl_codec.specs.ChannelNumber.{is_channel}
use Rattle.rsl_codec.specs.RslType.{rsl_type}

-- the mandatory elements of a message of this type, in written order
abbrev pub needed : RslType → List ℕ
needed DataRequest = CHANNEL_NUMBER ∷ LINK_IDENTIFIER ∷ L3_INFORMATION ∷ []
needed DataIndication = CHANNEL_NUMBER ∷ LINK_IDENTIFIER ∷ L3_INFORMATION ∷ []
needed ErrorIndication = CHANNEL_NUMBER ∷ LINK_IDENTIFIER ∷ []
needed EstablishRequest = CHANNEL_NUMBER ∷ LINK_IDENTIFIER ∷ []
needed EstablishConfirm = CHANNEL_NUMBER ∷ LINK_IDENTIFIER ∷ []
needed EstablishIndication = CHANNEL_NUMBER ∷ LINK_IDENTIFIER ∷ []
needed ReleaseRequest = CHANNEL_NUMBER ∷ LINK_IDENTIFIER ∷ RELEASE_MODE ∷ []
needed ReleaseConfirm = CHANNEL_NUMBER ∷ LINK_IDENTIFIER ∷ []
needed ReleaseIndication = CHANNEL_NUMBER ∷ LINK_IDENTIFIER ∷ []
needed ChannelRequired = CHANNEL_NUMBER ∷ REQUEST_REFERENCE ∷ ACCESS_DELAY ∷ []
needed ImmediateAssignCommand = CHANNEL_NUMBER ∷ FULL_IMMEDIATE_ASSIGN ∷ []
needed ChannelActivation = CHANNEL_NUMBER ∷ ACTIVATION_TYPE ∷ CHANNEL_MODE ∷ []
needed ChannelActivationAck = CHANNEL_NUMBER ∷ []
needed ChannelActivationNack = CHANNEL_NUMBER ∷ []
needed ConnectionFailure = CHANNEL_NUMBER ∷ []
needed HandoverDetection = CHANNEL_NUMBER ∷ []
needed MeasurementResult = CHANNEL_NUMBER ∷ MEASUREMENT_NUMBER ∷ []
needed RfChannelRelease = CHANNEL_NUMBER ∷ []
needed RfChannelReleaseAck = CHANNEL_NUMBER ∷ []

-- a message of this type can have L3 information
abbrev pub has_l3 : RslType → Bool
has_l3 DataRequest = true
has_l3 DataIndication = true
has_l3 EstablishIndication = true
has_l3 MeasurementResult = true
has_l3 _ = false

-- no element has this identifier
abbrev pub lacks : List Element → ℕ → Bool
lacks es id = is_none (first_of id es)

abbrev pub meets : (List ℕ → Bool) → Option (List ℕ) → Bool
meets test None = false
meets test (Some value) = test value

-- an element with this identifier is present, and the value of the first such element meets the
-- test
abbrev pub has_value : (List ℕ → Bool) → List Element → ℕ → Bool
has_value test es id = meets test (first_of id es)

abbrev pub is_bad_channel : List ℕ → Bool
is_bad_channel value = not (is_channel (slice_index value 0))

abbrev pub l3_causes : Bool → List Element → List (Bool × RslFault)
l3_causes false es = []
l3_causes true es =
    (has_value (λ l3. length l3 == 0) es L3_INFORMATION, Short) ∷
    (has_value (λ l3. nat_lt MESSAGE_LIMIT (length l3)) es L3_INFORMATION, TooLong) ∷ []

-- the conditions of the faults that the elements of a message of this type can have, each with its
-- fault, in the order in which the conditions are checked
abbrev pub element_causes : RslType → List Element → List (Bool × RslFault)
element_causes kind es =
    map (λ id. (lacks es id, MissingElement id)) (needed kind) ++
    ((has_value is_bad_channel es CHANNEL_NUMBER, BadChannel) ∷ l3_causes (has_l3 kind) es)

-- The first fault of the octets, or None. `ends`: there are fewer than two octets. `unknown`: no
-- type has the discriminator and the message type octet. `known`: the fault of the first condition
-- that holds, or None; the first condition is that the octets end within an element, and those of
-- `element_causes` follow.
pub data FirstFault : List ℕ → Option RslFault → Type 0 where
  ends : (octets : List ℕ) → length octets < 2 → FirstFault octets (Some Short)
  unknown : (discriminator octet : ℕ) (body : List ℕ) → rsl_type discriminator octet ≡ None →
      FirstFault (discriminator ∷ octet ∷ body) (Some UnknownType)
  known : (discriminator octet : ℕ) (body : List ℕ) (kind : RslType) (es : List Element)
      (is_cut : Bool) → rsl_type discriminator octet ≡ Some kind →
      AreElements ELEMENTS body es is_cut →
      FirstFault (discriminator ∷ octet ∷ body)
      (first_that_holds ((is_cut, Short) ∷ element_causes kind es))

-- The result refuses the octets with their first fault. The result is Memory only if the octets
-- have no fault.
pub record RefusesRsl (octets : List ℕ) (result : Result Rsl RslFault) : Type 0 where
  pub first : Option RslFault
  pub is_first : FirstFault octets first
  pub refuses : RefusesBy Memory result first
