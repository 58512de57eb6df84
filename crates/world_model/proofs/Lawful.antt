-- SPDX-License-Identifier: MIT OR Apache-2.0
-- Messages to a station that are read are on a lawful channel.
use Rattle.world_model.proofs.Prelude.{◌≡◌, ℕ, true, List, [], ◌∷◌, Option, Some, None, Result, Ok, Err, refl, subst, result_ok, is_channel}
use Rattle.world_model.proofs.Prelude.{Activation, Rsl, needed_value, channel_at, elements_of, breaks_off, rsl_reading_by}
use Rattle.octets.specs.Answer.{result_map}
use Rattle.octets.specs.Element.{Element}
use Rattle.octets.proofs.Steps.{bind_ok, ok_is, result_map_ok, guard, passed}
use Rattle.rsl_codec.specs.declared.fault.RslFault.{RslFault}
use Rattle.rsl_codec.specs.declared.fault.RslFault.TheVariants as faults
use Rattle.rsl_codec.specs.declared.identifiers.TheConstants.{CHANNEL_NUMBER, LINK_IDENTIFIER, ACTIVATION_TYPE, CHANNEL_MODE}
use Rattle.rsl_codec.specs.declared.radio_link.Link.{Link}
use Rattle.rsl_codec.specs.declared.rsl.Rsl.TheVariants as messages
use Rattle.rsl_codec.specs.declared.rsl_type.RslType.{RslType}
use Rattle.rsl_codec.specs.declared.rsl_type.RslType.TheVariants as types
use Rattle.rsl_codec.specs.RslReading.{channel_only_at, link_at, activation_at, message_at, rsl_reading}
use Rattle.rsl_codec.specs.RslType.{rsl_type}

-- of the messages to a station that name a channel which it answers for
unfoldable pub IsOnChannel : Rsl → Type 0
IsOnChannel (messages.ChannelActivation a) = is_channel a.channel ≡ true
IsOnChannel (messages.EstablishRequest l) = is_channel l.channel ≡ true
IsOnChannel (messages.RfChannelRelease channel) = is_channel channel ≡ true
IsOnChannel _ = Unit {0}

lawful_channel : (v : List ℕ) (channel : ℕ) → channel_at v ≡ Ok channel → is_channel channel ≡ true
lawful_channel [] channel e = absurd cc
lawful_channel (n ∷ v) channel e =
    let there = passed {A = ℕ} {F = RslFault} (is_channel n) faults.BadChannel (Ok n) channel e in
    subst (λ (m : ℕ). is_channel m ≡ true) (ok_is {A = ℕ} {F = RslFault} n channel there.1) there.0

only_lawful : (es : List Element) (channel : ℕ) → channel_only_at es ≡ Ok channel → is_channel channel ≡ true
unfolding channel_only_at
only_lawful es channel h =
    let a = bind_ok (needed_value CHANNEL_NUMBER es) _ channel h in
    lawful_channel a.0 channel a.2

link_lawful : (es : List Element) (l : Link) → link_at es ≡ Ok l → is_channel l.channel ≡ true
unfolding link_at
link_lawful es l h =
    let a = bind_ok (needed_value CHANNEL_NUMBER es) _ l h in
    let b = bind_ok (needed_value LINK_IDENTIFIER es) _ l a.2 in
    let c = bind_ok (channel_at a.0) _ l b.2 in
    subst (λ (x : Link). is_channel x.channel ≡ true) (ok_is _ l c.2) (lawful_channel a.0 c.0 c.1)

activation_lawful : (es : List Element) (m : Activation) → activation_at es ≡ Ok m → is_channel m.channel ≡ true
unfolding activation_at
activation_lawful es m h =
    let a = bind_ok (needed_value CHANNEL_NUMBER es) _ m h in
    let b = bind_ok (needed_value ACTIVATION_TYPE es) _ m a.2 in
    let c = bind_ok (needed_value CHANNEL_MODE es) _ m b.2 in
    let d = bind_ok (channel_at a.0) _ m c.2 in
    subst (λ (x : Activation). is_channel x.channel ≡ true) (ok_is _ m d.2) (lawful_channel a.0 d.0 d.1)

other_lawful : {A : Type 0} (f : A → Rsl) (r : Result A RslFault) (v : Rsl) →
    ((x : A) → IsOnChannel (f x)) →
    result_map f r ≡ Ok v →
    IsOnChannel v
other_lawful f r v lawful h = let a = result_map_ok f r v h in subst IsOnChannel a.2 (lawful a.0)

message_lawful : (kind : RslType) (es : List Element) (v : Rsl) → message_at kind es ≡ Ok v → IsOnChannel v
unfolding message_at IsOnChannel
message_lawful types.EstablishRequest es v h =
    let a = result_map_ok (λ m. messages.EstablishRequest m) (link_at es) v h in subst IsOnChannel a.2 (link_lawful es a.0 a.1)
message_lawful types.ChannelActivation es v h =
    let a = result_map_ok (λ m. messages.ChannelActivation m) (activation_at es) v h in subst IsOnChannel a.2 (activation_lawful es a.0 a.1)
message_lawful types.RfChannelRelease es v h =
    let a = result_map_ok (λ c. messages.RfChannelRelease c) (channel_only_at es) v h in subst IsOnChannel a.2 (only_lawful es a.0 a.1)
message_lawful types.DataRequest es v h = other_lawful (λ m. messages.DataRequest m) _ v (λ x. tt) h
message_lawful types.DataIndication es v h = other_lawful (λ m. messages.DataIndication m) _ v (λ x. tt) h
message_lawful types.ErrorIndication es v h = other_lawful (λ m. messages.ErrorIndication m) _ v (λ x. tt) h
message_lawful types.EstablishConfirm es v h = other_lawful (λ m. messages.EstablishConfirm m) _ v (λ x. tt) h
message_lawful types.EstablishIndication es v h = other_lawful (λ m. messages.EstablishIndication m) _ v (λ x. tt) h
message_lawful types.ReleaseRequest es v h = other_lawful (λ m. messages.ReleaseRequest m) _ v (λ x. tt) h
message_lawful types.ReleaseConfirm es v h = other_lawful (λ m. messages.ReleaseConfirm m) _ v (λ x. tt) h
message_lawful types.ReleaseIndication es v h = other_lawful (λ m. messages.ReleaseIndication m) _ v (λ x. tt) h
message_lawful types.ChannelRequired es v h = other_lawful (λ m. messages.ChannelRequired m) _ v (λ x. tt) h
message_lawful types.ImmediateAssignCommand es v h = other_lawful (λ m. messages.ImmediateAssignCommand m) _ v (λ x. tt) h
message_lawful types.ChannelActivationAck es v h = other_lawful (λ m. messages.ChannelActivationAck m) _ v (λ x. tt) h
message_lawful types.ChannelActivationNack es v h = other_lawful (λ m. messages.ChannelActivationNack m) _ v (λ x. tt) h
message_lawful types.ConnectionFailure es v h = other_lawful (λ m. messages.ConnectionFailure m) _ v (λ x. tt) h
message_lawful types.HandoverDetection es v h = other_lawful (λ m. messages.HandoverDetection m) _ v (λ x. tt) h
message_lawful types.MeasurementResult es v h = other_lawful (λ m. messages.MeasurementResult m) _ v (λ x. tt) h
message_lawful types.RfChannelReleaseAck es v h = other_lawful (λ c. messages.RfChannelReleaseAck c) _ v (λ x. tt) h

reading_by_lawful : (kind : Option RslType) (body : List ℕ) (v : Rsl) → rsl_reading_by kind body ≡ Ok v → IsOnChannel v
reading_by_lawful None body v h = absurd cc
reading_by_lawful (Some kind) body v h =
    let whole = guard {A = Rsl} {F = RslFault} (breaks_off body) faults.Short (message_at kind (elements_of body)) v h in
    message_lawful kind (elements_of body) v whole.1

reading_lawful : (octets : List ℕ) (v : Rsl) → rsl_reading octets ≡ Ok v → IsOnChannel v
unfolding rsl_reading
reading_lawful (a ∷ b ∷ body) v h = reading_by_lawful (rsl_type a b) body v h
reading_lawful _ v h = absurd cc

-- where one is read
unfoldable pub IsOnChannelIf : Option Rsl → Type 0
IsOnChannelIf None = Unit {0}
IsOnChannelIf (Some v) = IsOnChannel v

pub read_lawful : (octets : List ℕ) → IsOnChannelIf (result_ok (rsl_reading octets))
unfolding IsOnChannelIf
read_lawful octets = by_reading (rsl_reading octets) refl where
  by_reading : (r : Result Rsl RslFault) → rsl_reading octets ≡ r → IsOnChannelIf (result_ok r)
  by_reading (Ok v) is = reading_lawful octets v is
  by_reading (Err fault) is = tt
