-- SPDX-License-Identifier: MIT OR Apache-2.0
-- A message activates a channel if its type and its elements say so.
use Rattle.std.proofs.Common.{◌≡◌, ℕ, ◌&&◌, Bool, true, false, if◌then◌else◌, List, Option, Some, None, Result, Ok, Err, option_map, refl, sym, ap, ◌∙◌}
use Rattle.std.specs.Option.{is_some}
use Rattle.std.specs.Result.{result_ok}
use Rattle.octets.specs.Answer.{◌>>=◌, result_map}
use Rattle.octets.specs.Element.{Element}
use Rattle.octets.specs.Walk.{first_of}
use Rattle.rsl_codec.specs.declared.dedicated_channel.Activation.{Activation}
use Rattle.rsl_codec.specs.declared.fault.RslFault.{RslFault}
use Rattle.rsl_codec.specs.declared.fault.RslFault.TheVariants.{Short}
use Rattle.rsl_codec.specs.declared.identifiers.TheConstants.{ACTIVATION_TYPE, CHANNEL_MODE, CHANNEL_NUMBER, HANDOVER_REFERENCE}
use Rattle.rsl_codec.specs.declared.rsl.Rsl.{Rsl}
use Rattle.rsl_codec.specs.declared.rsl.Rsl.TheVariants as messages
use Rattle.rsl_codec.specs.declared.rsl_type.RslType.{RslType}
use Rattle.rsl_codec.specs.declared.rsl_type.RslType.TheVariants as types
use Rattle.rsl_codec.specs.RslReading.{activation_at, breaks_off, channel_at, elements_of, message_at, octet_of, rsl_reading_by, value_or_missing}
use Rattle.rsl_codec.specs.declared.values.HandoverReference.{HandoverReference}
use Rattle.world_ends.specs.Activations.{activated_by, channel_by_elements, channel_in, is_activation}

-- ---- of another type

-- a message of one kind, made of what is read
no_activation : {A : Type 0} (make : A → Rsl) →
    ((a : A) → activated_by (Some (make a)) ≡ None) →
    (r : Result A RslFault) →
    activated_by (result_ok (result_map make r)) ≡ None
no_activation make none (Ok a) = none a
no_activation make none (Err fault) = refl

by_kind : (kind : RslType) (es : List Element) → is_activation (Some kind) ≡ false → activated_by (result_ok (message_at kind es)) ≡ None
unfolding message_at
by_kind types.DataRequest es not = no_activation (λ m. messages.DataRequest m) (λ m. refl) _
by_kind types.DataIndication es not = no_activation (λ m. messages.DataIndication m) (λ m. refl) _
by_kind types.ErrorIndication es not = no_activation (λ m. messages.ErrorIndication m) (λ m. refl) _
by_kind types.EstablishRequest es not = no_activation (λ m. messages.EstablishRequest m) (λ m. refl) _
by_kind types.EstablishConfirm es not = no_activation (λ m. messages.EstablishConfirm m) (λ m. refl) _
by_kind types.EstablishIndication es not = no_activation (λ m. messages.EstablishIndication m) (λ m. refl) _
by_kind types.ReleaseRequest es not = no_activation (λ m. messages.ReleaseRequest m) (λ m. refl) _
by_kind types.ReleaseConfirm es not = no_activation (λ m. messages.ReleaseConfirm m) (λ m. refl) _
by_kind types.ReleaseIndication es not = no_activation (λ m. messages.ReleaseIndication m) (λ m. refl) _
by_kind types.ChannelRequired es not = no_activation (λ m. messages.ChannelRequired m) (λ m. refl) _
by_kind types.ImmediateAssignCommand es not = no_activation (λ m. messages.ImmediateAssignCommand m) (λ m. refl) _
by_kind types.ChannelActivation es not = absurd cc
by_kind types.ChannelActivationAck es not = no_activation (λ m. messages.ChannelActivationAck m) (λ m. refl) _
by_kind types.ChannelActivationNack es not = no_activation (λ m. messages.ChannelActivationNack m) (λ m. refl) _
by_kind types.ConnectionFailure es not = no_activation (λ m. messages.ConnectionFailure m) (λ m. refl) _
by_kind types.HandoverDetection es not = no_activation (λ m. messages.HandoverDetection m) (λ m. refl) _
by_kind types.MeasurementResult es not = no_activation (λ m. messages.MeasurementResult m) (λ m. refl) _
by_kind types.RfChannelRelease es not = no_activation (λ c. messages.RfChannelRelease c) (λ c. refl) _
by_kind types.RfChannelReleaseAck es not = no_activation (λ c. messages.RfChannelReleaseAck c) (λ c. refl) _

pub other_type : (o : Option RslType) (body : List ℕ) → is_activation o ≡ false → activated_by (result_ok (rsl_reading_by o body)) ≡ None
other_type None body not = refl
other_type (Some kind) body not = by_cut (breaks_off body) where
  by_cut : (b : Bool) → activated_by (result_ok (if b then Err Short else message_at kind (elements_of body))) ≡ None
  by_cut true = refl
  by_cut false = by_kind kind (elements_of body) not

-- ---- of its type

pub of_type : (o : Option RslType) → is_activation o ≡ true → o ≡ Some types.ChannelActivation
of_type None is = absurd cc
of_type (Some types.ChannelActivation) is = refl
of_type (Some types.DataRequest) is = absurd cc
of_type (Some types.DataIndication) is = absurd cc
of_type (Some types.ErrorIndication) is = absurd cc
of_type (Some types.EstablishRequest) is = absurd cc
of_type (Some types.EstablishConfirm) is = absurd cc
of_type (Some types.EstablishIndication) is = absurd cc
of_type (Some types.ReleaseRequest) is = absurd cc
of_type (Some types.ReleaseConfirm) is = absurd cc
of_type (Some types.ReleaseIndication) is = absurd cc
of_type (Some types.ChannelRequired) is = absurd cc
of_type (Some types.ImmediateAssignCommand) is = absurd cc
of_type (Some types.ChannelActivationAck) is = absurd cc
of_type (Some types.ChannelActivationNack) is = absurd cc
of_type (Some types.ConnectionFailure) is = absurd cc
of_type (Some types.HandoverDetection) is = absurd cc
of_type (Some types.MeasurementResult) is = absurd cc
of_type (Some types.RfChannelRelease) is = absurd cc
of_type (Some types.RfChannelReleaseAck) is = absurd cc

abbrev read_of : Option (List ℕ) → Option (List ℕ) → Option (List ℕ) → Option HandoverReference → Result Activation RslFault
read_of number activation mode reference = do
  n ← value_or_missing CHANNEL_NUMBER number
  a ← value_or_missing ACTIVATION_TYPE activation
  m ← value_or_missing CHANNEL_MODE mode
  channel ← channel_at n
  Ok (record { channel = channel; activation = record { 0 = octet_of a }; mode = record { 0 = m }; reference = reference })

by_values : (number activation mode : Option (List ℕ)) (reference : Option HandoverReference)
    → (if is_some activation && is_some mode then channel_in number else None) ≡ activated_by (result_ok (result_map (λ m. messages.ChannelActivation m) (read_of number activation mode reference)))
by_values None None mode reference = refl
by_values None (Some a) None reference = refl
by_values None (Some a) (Some m) reference = refl
by_values (Some n) None mode reference = refl
by_values (Some n) (Some a) None reference = refl
by_values (Some n) (Some a) (Some m) reference = by_channel (channel_at n) where
  by_channel : (r : Result ℕ RslFault)
      → result_ok r ≡ activated_by (result_ok (result_map (λ x. messages.ChannelActivation x) (r >>= (λ channel. Ok (record { channel = channel; activation = record { 0 = octet_of a }; mode = record { 0 = m }; reference = reference })))))
  by_channel (Ok channel) = refl
  by_channel (Err fault) = refl

by_elements : (es : List Element) → channel_by_elements es ≡ activated_by (result_ok (message_at types.ChannelActivation es))
unfolding message_at activation_at
by_elements es = by_values (first_of CHANNEL_NUMBER es) (first_of ACTIVATION_TYPE es) (first_of CHANNEL_MODE es) (option_map (λ v. record { 0 = octet_of v }) (first_of HANDOVER_REFERENCE es))

pub by_body : (body : List ℕ) →
    breaks_off body ≡ false →
    channel_by_elements (elements_of body) ≡ activated_by (result_ok (rsl_reading_by (Some types.ChannelActivation) body))
by_body body whole = by_elements (elements_of body) ∙ sym (ap (λ (b : Bool). activated_by (result_ok (if b then Err Short else message_at types.ChannelActivation (elements_of body)))) whole)
