-- SPDX-License-Identifier: MIT OR Apache-2.0
-- For each message: a message that was read has its fields, and elements that carry these fields
-- are read as it.
use Rattle.std.proofs.Common.{◌≡◌, ℕ, true, List, Option, Some, None, Ok, refl, ap, subst, ◌∙◌}
use Rattle.octets.specs.Element.{Element}
use Rattle.octets.specs.Field.{Field, Carries}
use Rattle.octets.specs.Walk.{first_of}
use Rattle.octets.proofs.Steps.{bind_ok, ok_is}
use Rattle.rsl_codec.specs.declared.identifiers.TheConstants.{ACCESS_DELAY, ACTIVATION_TYPE, BS_POWER, CAUSE, CHANNEL_MODE, CHANNEL_NUMBER, FRAME_NUMBER, FULL_IMMEDIATE_ASSIGN, HANDOVER_REFERENCE, L1_INFORMATION, L3_INFORMATION, LINK_IDENTIFIER, MEASUREMENT_NUMBER, RELEASE_MODE, REQUEST_REFERENCE, RLM_CAUSE, UPLINK_MEASUREMENTS}
use Rattle.rsl_codec.specs.ChannelNumber.{is_channel}
use Rattle.rsl_codec.specs.Fields.{octet_value, number_value, reference_value, channel_fields, link_fields, data_fields, error_fields, establishment_fields, release_fields, channel_required_fields, assignment_fields, activation_fields, activation_ack_fields, failure_fields, detection_fields, measurement_result_fields}
use Rattle.rsl_codec.specs.RslReading.{channel_at, l3_at, needed_value, number_of, octet_of, optional_l3_at, reference_of, channel_only_at, link_at, data_at, error_at, establishment_at, release_at, channel_required_at, assignment_at, activation_at, activation_ack_at, failure_at, detection_at, measurement_result_at}
use Rattle.rsl_codec.specs.Rsl.{IsL3}
use Rattle.rsl_codec.proofs.Steps.{AreSized, channel_is, field_is, l3_again, l3_ok, needed_value_ok, number_again, number_is, octet_is, optional_again, optional_is, optional_l3_again, optional_l3_ok, reference_is}
use Rattle.rsl_codec.specs.declared.radio_link.Link.{Link}
use Rattle.rsl_codec.specs.declared.radio_link.Data.{Data}
use Rattle.rsl_codec.specs.declared.radio_link.ErrorReport.{ErrorReport}
use Rattle.rsl_codec.specs.declared.radio_link.Establishment.{Establishment}
use Rattle.rsl_codec.specs.declared.radio_link.Release.{Release}
use Rattle.rsl_codec.specs.declared.common_channel.ChannelRequired.{ChannelRequired}
use Rattle.rsl_codec.specs.declared.common_channel.ImmediateAssignment.{ImmediateAssignment}
use Rattle.rsl_codec.specs.declared.dedicated_channel.Activation.{Activation}
use Rattle.rsl_codec.specs.declared.dedicated_channel.ActivationAck.{ActivationAck}
use Rattle.rsl_codec.specs.declared.dedicated_channel.Failure.{Failure}
use Rattle.rsl_codec.specs.declared.dedicated_channel.Detection.{Detection}
use Rattle.rsl_codec.specs.declared.dedicated_channel.MeasurementResult.{MeasurementResult}
use Rattle.rsl_codec.specs.declared.values.RlmCause.{RlmCause}
use Rattle.rsl_codec.specs.declared.values.HandoverReference.{HandoverReference}
use Rattle.rsl_codec.specs.declared.values.FrameNumber.{FrameNumber}
use Rattle.rsl_codec.specs.declared.values.Cause.{Cause}
use Rattle.rsl_codec.specs.declared.values.AccessDelay.{AccessDelay}
use Rattle.rsl_codec.specs.declared.values.UplinkMeasurements.{UplinkMeasurements}
use Rattle.rsl_codec.specs.declared.values.BsPower.{BsPower}
use Rattle.rsl_codec.specs.declared.values.L1Information.{L1Information}

-- elements that have these fields, on a channel, with this L3 information
pub record Reads (es : List Element) (fs : List Field) (channel : ℕ) (l3 : Option (List ℕ)) : Type 0 where
  pub carries : Carries es fs
  pub on_channel : is_channel channel ≡ true
  pub has_l3 : IsL3 l3

pub channel_only_ok : (es : List Element) → AreSized es → (channel : ℕ) → channel_only_at es ≡ Ok channel →
    Reads es (channel_fields channel) channel None
unfolding channel_only_at
channel_only_ok es all channel h =
    let a = bind_ok (needed_value CHANNEL_NUMBER es) _ channel h in
    let is = channel_is es all a.0 channel a.1 a.2 in
    record { carries = (is.0, tt); on_channel = is.1; has_l3 = tt }

pub channel_only_again : (es : List Element) (channel : ℕ) → Reads es (channel_fields channel) channel None →
    channel_only_at es ≡ Ok channel
unfolding channel_only_at
channel_only_again es channel r = rw (r.carries.0, r.on_channel) refl

pub link_ok : (es : List Element) → AreSized es → (m : Link) → link_at es ≡ Ok m → Reads es (link_fields m) m.channel None
unfolding link_at
link_ok es all m h =
    let a = bind_ok (needed_value CHANNEL_NUMBER es) _ m h in
    let b = bind_ok (needed_value LINK_IDENTIFIER es) _ m a.2 in
    let c = bind_ok (channel_at a.0) _ m b.2 in
    let channel = channel_is es all a.0 c.0 a.1 c.1 in
    subst (λ (x : Link). Reads es (link_fields x) x.channel None) (ok_is _ m c.2)
    (record { carries = (channel.0, (field_is LINK_IDENTIFIER es octet_of octet_value (octet_is LINK_IDENTIFIER es refl all) b.0 b.1, tt)); on_channel = channel.1; has_l3 = tt })

pub link_again : (es : List Element) (m : Link) → Reads es (link_fields m) m.channel None → link_at es ≡ Ok m
unfolding link_at
link_again es m r = rw (r.carries.0, r.carries.1.0, r.on_channel) refl

pub data_ok : (es : List Element) → AreSized es → (m : Data) → data_at es ≡ Ok m → Reads es (data_fields m) m.channel (Some m.l3)
unfolding data_at
data_ok es all m h =
    let a = bind_ok (needed_value CHANNEL_NUMBER es) _ m h in
    let b = bind_ok (needed_value LINK_IDENTIFIER es) _ m a.2 in
    let c = bind_ok (needed_value L3_INFORMATION es) _ m b.2 in
    let d = bind_ok (channel_at a.0) _ m c.2 in
    let e = bind_ok (l3_at c.0) _ m d.2 in
    let channel = channel_is es all a.0 d.0 a.1 d.1 in
    let l3 = l3_ok c.0 e.0 e.1 in
    subst (λ (x : Data). Reads es (data_fields x) x.channel (Some x.l3)) (ok_is _ m e.2)
    (record { carries = (channel.0, (field_is LINK_IDENTIFIER es octet_of octet_value (octet_is LINK_IDENTIFIER es refl all) b.0 b.1, (needed_value_ok L3_INFORMATION es c.0 c.1 ∙ ap (λ (t : List ℕ). Some t) l3.0, tt))); on_channel = channel.1; has_l3 = l3.1 })

pub data_again : (es : List Element) (m : Data) → Reads es (data_fields m) m.channel (Some m.l3) → data_at es ≡ Ok m
unfolding data_at
data_again es m r = rw (r.carries.0, r.carries.1.0, r.carries.1.1.0, r.on_channel, l3_again m.l3 r.has_l3) refl

pub error_ok : (es : List Element) → AreSized es → (m : ErrorReport) → error_at es ≡ Ok m → Reads es (error_fields m) m.channel None
unfolding error_at
error_ok es all m h =
    let a = bind_ok (needed_value CHANNEL_NUMBER es) _ m h in
    let b = bind_ok (needed_value LINK_IDENTIFIER es) _ m a.2 in
    let c = bind_ok (channel_at a.0) _ m b.2 in
    let channel = channel_is es all a.0 c.0 a.1 c.1 in
    subst (λ (x : ErrorReport). Reads es (error_fields x) x.channel None) (ok_is _ m c.2)
    (record { carries = (channel.0, (field_is LINK_IDENTIFIER es octet_of octet_value (octet_is LINK_IDENTIFIER es refl all) b.0 b.1, (optional_is RLM_CAUSE es (λ v. let x : RlmCause = record { 0 = v } in x) (λ x. x.0) (λ v e. refl), tt))); on_channel = channel.1; has_l3 = tt })

pub error_again : (es : List Element) (m : ErrorReport) → Reads es (error_fields m) m.channel None → error_at es ≡ Ok m
unfolding error_at
error_again es m r = rw (r.carries.0, r.carries.1.0, r.on_channel, r.carries.1.1.0, optional_again m.cause (λ v. let x : RlmCause = record { 0 = v } in x) (λ x. x.0) (λ x. refl)) refl

pub establishment_ok : (es : List Element) → AreSized es → (m : Establishment) → establishment_at es ≡ Ok m →
    Reads es (establishment_fields m) m.channel m.l3
unfolding establishment_at
establishment_ok es all m h =
    let a = bind_ok (needed_value CHANNEL_NUMBER es) _ m h in
    let b = bind_ok (needed_value LINK_IDENTIFIER es) _ m a.2 in
    let c = bind_ok (channel_at a.0) _ m b.2 in
    let d = bind_ok (optional_l3_at (first_of L3_INFORMATION es)) _ m c.2 in
    let channel = channel_is es all a.0 c.0 a.1 c.1 in
    let l3 = optional_l3_ok (first_of L3_INFORMATION es) d.0 d.1 in
    subst (λ (x : Establishment). Reads es (establishment_fields x) x.channel x.l3) (ok_is _ m d.2)
    (record { carries = (channel.0, (field_is LINK_IDENTIFIER es octet_of octet_value (octet_is LINK_IDENTIFIER es refl all) b.0 b.1, (l3.0, tt))); on_channel = channel.1; has_l3 = l3.1 })

pub establishment_again : (es : List Element) (m : Establishment) → Reads es (establishment_fields m) m.channel m.l3 →
    establishment_at es ≡ Ok m
unfolding establishment_at
establishment_again es m r = rw (r.carries.0, r.carries.1.0, r.on_channel, r.carries.1.1.0, optional_l3_again m.l3 r.has_l3) refl

pub release_ok : (es : List Element) → AreSized es → (m : Release) → release_at es ≡ Ok m → Reads es (release_fields m) m.channel None
unfolding release_at
release_ok es all m h =
    let a = bind_ok (needed_value CHANNEL_NUMBER es) _ m h in
    let b = bind_ok (needed_value LINK_IDENTIFIER es) _ m a.2 in
    let c = bind_ok (needed_value RELEASE_MODE es) _ m b.2 in
    let d = bind_ok (channel_at a.0) _ m c.2 in
    let channel = channel_is es all a.0 d.0 a.1 d.1 in
    subst (λ (x : Release). Reads es (release_fields x) x.channel None) (ok_is _ m d.2)
    (record { carries = (channel.0, (field_is LINK_IDENTIFIER es octet_of octet_value (octet_is LINK_IDENTIFIER es refl all) b.0 b.1, (field_is RELEASE_MODE es octet_of octet_value (octet_is RELEASE_MODE es refl all) c.0 c.1, tt))); on_channel = channel.1; has_l3 = tt })

pub release_again : (es : List Element) (m : Release) → Reads es (release_fields m) m.channel None → release_at es ≡ Ok m
unfolding release_at
release_again es m r = rw (r.carries.0, r.carries.1.0, r.carries.1.1.0, r.on_channel) refl

pub channel_required_ok : (es : List Element) → AreSized es → (m : ChannelRequired) → channel_required_at es ≡ Ok m →
    Reads es (channel_required_fields m) m.channel None
unfolding channel_required_at
channel_required_ok es all m h =
    let a = bind_ok (needed_value CHANNEL_NUMBER es) _ m h in
    let b = bind_ok (needed_value REQUEST_REFERENCE es) _ m a.2 in
    let c = bind_ok (needed_value ACCESS_DELAY es) _ m b.2 in
    let d = bind_ok (channel_at a.0) _ m c.2 in
    let channel = channel_is es all a.0 d.0 a.1 d.1 in
    subst (λ (x : ChannelRequired). Reads es (channel_required_fields x) x.channel None) (ok_is _ m d.2)
    (record { carries = (channel.0, (field_is REQUEST_REFERENCE es reference_of reference_value (reference_is REQUEST_REFERENCE es refl all) b.0 b.1, (field_is ACCESS_DELAY es octet_of octet_value (octet_is ACCESS_DELAY es refl all) c.0 c.1, tt))); on_channel = channel.1; has_l3 = tt })

pub channel_required_again : (es : List Element) (m : ChannelRequired) →
    Reads es (channel_required_fields m) m.channel None → channel_required_at es ≡ Ok m
unfolding channel_required_at
channel_required_again es m r = rw (r.carries.0, r.carries.1.0, r.carries.1.1.0, r.on_channel, number_again m.reference.frame) refl

pub assignment_ok : (es : List Element) → AreSized es → (m : ImmediateAssignment) → assignment_at es ≡ Ok m →
    Reads es (assignment_fields m) m.channel None
unfolding assignment_at
assignment_ok es all m h =
    let a = bind_ok (needed_value CHANNEL_NUMBER es) _ m h in
    let b = bind_ok (needed_value FULL_IMMEDIATE_ASSIGN es) _ m a.2 in
    let c = bind_ok (channel_at a.0) _ m b.2 in
    let channel = channel_is es all a.0 c.0 a.1 c.1 in
    subst (λ (x : ImmediateAssignment). Reads es (assignment_fields x) x.channel None) (ok_is _ m c.2)
    (record { carries = (channel.0, (needed_value_ok FULL_IMMEDIATE_ASSIGN es b.0 b.1, tt)); on_channel = channel.1; has_l3 = tt })

pub assignment_again : (es : List Element) (m : ImmediateAssignment) → Reads es (assignment_fields m) m.channel None →
    assignment_at es ≡ Ok m
unfolding assignment_at
assignment_again es m r = rw (r.carries.0, r.carries.1.0, r.on_channel) refl

pub activation_ok : (es : List Element) → AreSized es → (m : Activation) → activation_at es ≡ Ok m →
    Reads es (activation_fields m) m.channel None
unfolding activation_at
activation_ok es all m h =
    let a = bind_ok (needed_value CHANNEL_NUMBER es) _ m h in
    let b = bind_ok (needed_value ACTIVATION_TYPE es) _ m a.2 in
    let c = bind_ok (needed_value CHANNEL_MODE es) _ m b.2 in
    let d = bind_ok (channel_at a.0) _ m c.2 in
    let channel = channel_is es all a.0 d.0 a.1 d.1 in
    subst (λ (x : Activation). Reads es (activation_fields x) x.channel None) (ok_is _ m d.2)
    (record { carries = (channel.0, (field_is ACTIVATION_TYPE es octet_of octet_value (octet_is ACTIVATION_TYPE es refl all) b.0 b.1, (needed_value_ok CHANNEL_MODE es c.0 c.1, (optional_is HANDOVER_REFERENCE es (λ v. let x : HandoverReference = record { 0 = octet_of v } in x) (λ x. octet_value x.0) (octet_is HANDOVER_REFERENCE es refl all), tt)))); on_channel = channel.1; has_l3 = tt })

pub activation_again : (es : List Element) (m : Activation) → Reads es (activation_fields m) m.channel None → activation_at es ≡ Ok m
unfolding activation_at
activation_again es m r = rw (r.carries.0, r.carries.1.0, r.carries.1.1.0, r.on_channel, r.carries.1.1.1.0, optional_again m.reference (λ v. let x : HandoverReference = record { 0 = octet_of v } in x) (λ x. octet_value x.0) (λ x. refl)) refl

pub activation_ack_ok : (es : List Element) → AreSized es → (m : ActivationAck) → activation_ack_at es ≡ Ok m →
    Reads es (activation_ack_fields m) m.channel None
unfolding activation_ack_at
activation_ack_ok es all m h =
    let a = bind_ok (needed_value CHANNEL_NUMBER es) _ m h in
    let b = bind_ok (channel_at a.0) _ m a.2 in
    let channel = channel_is es all a.0 b.0 a.1 b.1 in
    subst (λ (x : ActivationAck). Reads es (activation_ack_fields x) x.channel None) (ok_is _ m b.2)
    (record { carries = (channel.0, (optional_is FRAME_NUMBER es (λ v. let x : FrameNumber = record { 0 = number_of v } in x) (λ x. number_value x.0) (number_is FRAME_NUMBER es refl all), tt)); on_channel = channel.1; has_l3 = tt })

pub activation_ack_again : (es : List Element) (m : ActivationAck) → Reads es (activation_ack_fields m) m.channel None →
    activation_ack_at es ≡ Ok m
unfolding activation_ack_at
activation_ack_again es m r = rw (r.carries.0, r.on_channel, r.carries.1.0, optional_again m.frame (λ v. let x : FrameNumber = record { 0 = number_of v } in x) (λ x. number_value x.0) (λ x. ap (λ n. let y : FrameNumber = record { 0 = n } in y) (number_again x.0))) refl

pub failure_ok : (es : List Element) → AreSized es → (m : Failure) → failure_at es ≡ Ok m → Reads es (failure_fields m) m.channel None
unfolding failure_at
failure_ok es all m h =
    let a = bind_ok (needed_value CHANNEL_NUMBER es) _ m h in
    let b = bind_ok (channel_at a.0) _ m a.2 in
    let channel = channel_is es all a.0 b.0 a.1 b.1 in
    subst (λ (x : Failure). Reads es (failure_fields x) x.channel None) (ok_is _ m b.2)
    (record { carries = (channel.0, (optional_is CAUSE es (λ v. let x : Cause = record { 0 = v } in x) (λ x. x.0) (λ v e. refl), tt)); on_channel = channel.1; has_l3 = tt })

pub failure_again : (es : List Element) (m : Failure) → Reads es (failure_fields m) m.channel None → failure_at es ≡ Ok m
unfolding failure_at
failure_again es m r = rw (r.carries.0, r.on_channel, r.carries.1.0, optional_again m.cause (λ v. let x : Cause = record { 0 = v } in x) (λ x. x.0) (λ x. refl)) refl

pub detection_ok : (es : List Element) → AreSized es → (m : Detection) → detection_at es ≡ Ok m →
    Reads es (detection_fields m) m.channel None
unfolding detection_at
detection_ok es all m h =
    let a = bind_ok (needed_value CHANNEL_NUMBER es) _ m h in
    let b = bind_ok (channel_at a.0) _ m a.2 in
    let channel = channel_is es all a.0 b.0 a.1 b.1 in
    subst (λ (x : Detection). Reads es (detection_fields x) x.channel None) (ok_is _ m b.2)
    (record { carries = (channel.0, (optional_is ACCESS_DELAY es (λ v. let x : AccessDelay = record { 0 = octet_of v } in x) (λ x. octet_value x.0) (octet_is ACCESS_DELAY es refl all), tt)); on_channel = channel.1; has_l3 = tt })

pub detection_again : (es : List Element) (m : Detection) → Reads es (detection_fields m) m.channel None → detection_at es ≡ Ok m
unfolding detection_at
detection_again es m r = rw (r.carries.0, r.on_channel, r.carries.1.0, optional_again m.access_delay (λ v. let x : AccessDelay = record { 0 = octet_of v } in x) (λ x. octet_value x.0) (λ x. refl)) refl

pub measurement_result_ok : (es : List Element) → AreSized es → (m : MeasurementResult) →
    measurement_result_at es ≡ Ok m → Reads es (measurement_result_fields m) m.channel m.l3
unfolding measurement_result_at
measurement_result_ok es all m h =
    let a = bind_ok (needed_value CHANNEL_NUMBER es) _ m h in
    let b = bind_ok (needed_value MEASUREMENT_NUMBER es) _ m a.2 in
    let c = bind_ok (channel_at a.0) _ m b.2 in
    let d = bind_ok (optional_l3_at (first_of L3_INFORMATION es)) _ m c.2 in
    let channel = channel_is es all a.0 c.0 a.1 c.1 in
    let l3 = optional_l3_ok (first_of L3_INFORMATION es) d.0 d.1 in
    subst (λ (x : MeasurementResult). Reads es (measurement_result_fields x) x.channel x.l3) (ok_is _ m d.2)
    (record { carries = (channel.0, (field_is MEASUREMENT_NUMBER es octet_of octet_value (octet_is MEASUREMENT_NUMBER es refl all) b.0 b.1, (optional_is UPLINK_MEASUREMENTS es (λ v. let x : UplinkMeasurements = record { 0 = v } in x) (λ x. x.0) (λ v e. refl), (optional_is BS_POWER es (λ v. let x : BsPower = record { 0 = octet_of v } in x) (λ x. octet_value x.0) (octet_is BS_POWER es refl all), (optional_is L1_INFORMATION es (λ v. let x : L1Information = record { 0 = number_of v } in x) (λ x. number_value x.0) (number_is L1_INFORMATION es refl all), (l3.0, tt)))))); on_channel = channel.1; has_l3 = l3.1 })

pub measurement_result_again : (es : List Element) (m : MeasurementResult) →
    Reads es (measurement_result_fields m) m.channel m.l3 → measurement_result_at es ≡ Ok m
unfolding measurement_result_at
measurement_result_again es m r = rw (r.carries.0, r.carries.1.0, r.on_channel, r.carries.1.1.1.1.1.0, optional_l3_again m.l3 r.has_l3, r.carries.1.1.0, optional_again m.uplink (λ v. let x : UplinkMeasurements = record { 0 = v } in x) (λ x. x.0) (λ x. refl), r.carries.1.1.1.0, optional_again m.bs_power (λ v. let x : BsPower = record { 0 = octet_of v } in x) (λ x. octet_value x.0) (λ x. refl), r.carries.1.1.1.1.0, optional_again m.l1 (λ v. let x : L1Information = record { 0 = number_of v } in x) (λ x. number_value x.0) (λ x. ap (λ n. let y : L1Information = record { 0 = n } in y) (number_again x.0))) refl
