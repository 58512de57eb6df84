-- SPDX-License-Identifier: MIT OR Apache-2.0
-- Lemmas: the octets of a frame show how its message changes a channel.
use Rattle.std.proofs.Common.{◌≡◌, ℕ, cond, Ok, Err, refl, ap}
use Rattle.conn_messages.specs.declared.message.Message.{Message}
use Rattle.conn_messages.specs.declared.message.Message.TheVariants as puts
use Rattle.conn_messages.specs.ChannelUse.{use_by}
use Rattle.conn_messages.specs.Out.{IsLawfulMessage, out_of}
use Rattle.conn_messages.specs.UseOctets.{activated_by, released_by, use_in}
use Rattle.ipa_framing.specs.declared.streams.TheConstants.{RSL_STREAM}
use Rattle.rsl_codec.specs.declared.fault.RslFault.TheVariants.{BadChannel}
use Rattle.rsl_codec.specs.declared.rsl.Rsl.{Rsl}
use Rattle.rsl_codec.specs.declared.rsl.Rsl.TheVariants as rsl
use Rattle.rsl_codec.specs.Rsl.{IsLawful}
use Rattle.rsl_codec.specs.RslText.{rsl_element_text, rsl_text}

by_text : (station : ℕ) (message : Rsl) →
    IsLawful message →
    use_in station RSL_STREAM (rsl_text message) ≡ use_by (puts.Station station message)
unfolding rsl_element_text
by_text station (rsl.DataRequest m) lawful = refl
by_text station (rsl.DataIndication m) lawful = refl
by_text station (rsl.ErrorIndication m) lawful = refl
by_text station (rsl.EstablishRequest m) lawful = refl
by_text station (rsl.EstablishConfirm m) lawful = refl
by_text station (rsl.EstablishIndication m) lawful = refl
by_text station (rsl.ReleaseRequest m) lawful = refl
by_text station (rsl.ReleaseConfirm m) lawful = refl
by_text station (rsl.ReleaseIndication m) lawful = refl
by_text station (rsl.ChannelRequired m) lawful = refl
by_text station (rsl.ImmediateAssignCommand m) lawful = refl
by_text station (rsl.ChannelActivation a) lawful = ap (λ b. activated_by station (cond b (Ok a.channel) (Err BadChannel)) a.activation.0) lawful.0
by_text station (rsl.ChannelActivationAck m) lawful = refl
by_text station (rsl.ChannelActivationNack m) lawful = refl
by_text station (rsl.ConnectionFailure m) lawful = refl
by_text station (rsl.HandoverDetection m) lawful = refl
by_text station (rsl.MeasurementResult m) lawful = refl
by_text station (rsl.RfChannelRelease channel) lawful = ap (λ b. released_by station (cond b (Ok channel) (Err BadChannel))) lawful.0
by_text station (rsl.RfChannelReleaseAck m) lawful = refl

pub is_use_by : (number : ℕ) (message : Message) →
    IsLawfulMessage message →
    use_in (out_of number message).to (out_of number message).frame.stream (out_of number message).frame.body ≡ use_by message
unfolding out_of
is_use_by number (puts.Station station message) lawful = by_text station message lawful
is_use_by number (puts.Request message) lawful = refl
is_use_by number (puts.Data destination message) lawful = refl
is_use_by number (puts.ReleaseComplete destination) lawful = refl
