-- SPDX-License-Identifier: MIT OR Apache-2.0
-- The messages that stations make can be written.
use Rattle.std.proofs.Common.{◌≡◌, ℕ, suc, ◌<◌, ◌≤◌, ◌||◌, nat_lt, nat_eq, Bool, false, cond, List, [], ◌∷◌, length, Some, None, Result, Ok, Err, OnOk, OnErr, refl, sym, ap, ◌∙◌, subst, arith}
use Rattle.std.specs.List.{AllByRecursion}
use Rattle.std.proofs.lemmas.Bool.{ne_eqb}
use Rattle.world_model.proofs.DownlinkMessages.{AllByRecursion-append}
use Rattle.dtap_codec.specs.declared.sapi.Sapi.{Sapi}
use Rattle.link_model.specs.declared.fault.LinkFault.{LinkFault}
use Rattle.link_model.specs.BaseState.{BaseState}
use Rattle.link_model.specs.Base.{after_tell, messages_behind_first}
use Rattle.link_model.specs.Message.{activation_ack, establish_indication, data_indication}
use Rattle.octets.specs.declared.limits.TheConstants.{MESSAGE_LIMIT}
use Rattle.rsl_codec.specs.declared.fault.RslFault.TheVariants.{Short, TooLong}
use Rattle.rsl_codec.specs.declared.rsl.Rsl.{Rsl}
use Rattle.rsl_codec.specs.declared.rsl.Rsl.TheVariants.{EstablishConfirm, ReleaseIndication, RfChannelReleaseAck}
use Rattle.rsl_codec.specs.declared.radio_link.Link.{Link}
use Rattle.rsl_codec.specs.Rsl.{IsL3}
use Rattle.rsl_codec.specs.RslText.{rsl_write_fault}
use Rattle.world_model.specs.Mobiles.{channel_required, handover_detection, measurement_result}
use Rattle.world_ends.specs.Written.{IsWritten, HasWritten}

fault_free : (l3 : List ℕ) →
    IsL3 (Some l3) →
    cond (nat_eq (length l3) 0) (Some Short) (cond (nat_lt MESSAGE_LIMIT (length l3) || false) (Some TooLong) None) ≡ None
fault_free l3 (some, few) =
    ap (λ (b : Bool). cond b (Some Short) (cond (nat_lt MESSAGE_LIMIT (length l3) || false) (Some TooLong) None)) (ne_eqb (length l3) 0 (λ is. none is))
    ∙ ap (λ (b : Bool). cond (b || false) (Some TooLong) None) (short (length l3) few) where
      none : length l3 ≡ 0 → ⊥
      none is = absurd (omega arith)

      short : (n : ℕ) → n ≤ MESSAGE_LIMIT → nat_lt MESSAGE_LIMIT n ≡ false
      short n few = grind arith

-- ---- the messages

pub ack_written : (channel : ℕ) → IsWritten (activation_ack channel)
unfolding rsl_write_fault
ack_written channel = refl

pub release_written : (channel : ℕ) → IsWritten (RfChannelReleaseAck channel)
unfolding rsl_write_fault
release_written channel = refl

pub confirm_written : (link : Link) → IsWritten (EstablishConfirm link)
unfolding rsl_write_fault
confirm_written link = refl

pub indication_written : (link : Link) → IsWritten (ReleaseIndication link)
unfolding rsl_write_fault
indication_written link = refl

pub request_written : (number : ℕ) → IsWritten (channel_required number)
unfolding rsl_write_fault
request_written number = refl

pub detection_written : (channel : ℕ) → IsWritten (handover_detection channel)
unfolding rsl_write_fault
detection_written channel = refl

pub establishment_written : (channel : ℕ) (sapi : Sapi) → IsWritten (establish_indication channel sapi None)
unfolding rsl_write_fault
establishment_written channel sapi = refl

pub initial_written : (channel : ℕ) (sapi : Sapi) (frame : List ℕ) →
    IsL3 (Some frame) →
    IsWritten (establish_indication channel sapi (Some frame))
unfolding rsl_write_fault
initial_written channel sapi frame l3 = fault_free frame l3

pub data_written : (channel : ℕ) (sapi : Sapi) (frame : List ℕ) → IsL3 (Some frame) → IsWritten (data_indication channel sapi frame)
unfolding rsl_write_fault
data_written channel sapi frame l3 = fault_free frame l3

pub report_written : (channel number : ℕ) (report : List ℕ) → length report ≡ 16 → IsWritten (measurement_result channel number report)
unfolding rsl_write_fault
report_written channel number report sixteen = fault_free (0x06 ∷ 0x15 ∷ report) (some (length report), few (length report) sixteen) where
  some : (n : ℕ) → 0 < suc (suc n)
  some n = omega arith

  few : (n : ℕ) → n ≡ 16 → suc (suc n) ≤ MESSAGE_LIMIT
  few n is = omega arith

-- ---- all that was made

pub told_written : (base : BaseState) (message : Rsl) → IsWritten message → HasWritten base → HasWritten (after_tell base message)
told_written base message is all = AllByRecursion-append IsWritten base.messages (message ∷ []) all (is, tt)

pub behind_written : (messages : List Rsl) → AllByRecursion IsWritten messages → AllByRecursion IsWritten (messages_behind_first messages)
behind_written [] all = tt
behind_written (first ∷ others) all = all.1

-- a call that makes of the base what is next, or leaves it
pub done_written : (r : Result (Unit {0}) LinkFault) (old next new : BaseState) →
    HasWritten old →
    HasWritten next →
    OnOk r (new ≡ next) →
    OnErr r (new ≡ old) →
    HasWritten new
done_written (Ok done) old next new all made ok err = subst HasWritten (sym ok) made
done_written (Err fault) old next new all made ok err = subst HasWritten (sym err) all
