-- SPDX-License-Identifier: MIT OR Apache-2.0
-- The offer matters only to rows of inputs with which or after which a change may begin.
use Rattle.controller.proofs.Prelude.{◌≡◌, false, Option, None, refl, Channel, Input, Connection}
use Rattle.conn_rules.specs.declared.input.Input.TheVariants as inputs
use Rattle.conn_rules.specs.Table.{row_of}
use Rattle.controller.specs.Offers.{may_begin}

pub needs_no_offer : (s : Connection) (input : Input) (offer : Option Channel) →
    may_begin input ≡ false →
    row_of s input offer ≡ row_of s input None
unfolding row_of
needs_no_offer s (inputs.ActivationAck at) offer never = refl
needs_no_offer s (inputs.ActivationNack at) offer never = absurd (cc)
needs_no_offer s (inputs.EstablishIndication at sapi message) offer never = refl
needs_no_offer s (inputs.EstablishConfirm at sapi) offer never = refl
needs_no_offer s (inputs.ReleaseIndication at sapi) offer never = refl
needs_no_offer s (inputs.ErrorIndication at sapi) offer never = refl
needs_no_offer s (inputs.ConnectionFailure at) offer never = refl
needs_no_offer s (inputs.Dtap at sapi message) offer never = refl
needs_no_offer s (inputs.Complete at change cause) offer never = absurd (cc)
needs_no_offer s (inputs.Failure at change cause) offer never = absurd (cc)
needs_no_offer s (inputs.ReleaseAck at) offer never = absurd (cc)
needs_no_offer s inputs.Move offer never = absurd (cc)
needs_no_offer s (inputs.ConnectionConfirm source) offer never = refl
needs_no_offer s inputs.ConnectionRefused offer never = refl
needs_no_offer s (inputs.Released source) offer never = refl
needs_no_offer s (inputs.Downlink sapi message) offer never = refl
needs_no_offer s (inputs.AssignmentRequest is_speech) offer never = absurd (cc)
needs_no_offer s inputs.CipherModeCommand offer never = refl
needs_no_offer s inputs.ClearCommand offer never = refl
needs_no_offer s inputs.Expiry offer never = refl
needs_no_offer s inputs.DrainExpiry offer never = refl
needs_no_offer s (inputs.StationDown station) offer never = refl
needs_no_offer s inputs.SwitchDown offer never = refl
