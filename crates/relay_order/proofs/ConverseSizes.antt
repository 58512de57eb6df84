-- SPDX-License-Identifier: MIT OR Apache-2.0
-- The messages that stations and the switch of a world make fit a frame of a link.
use Rattle.std.proofs.Common.{◌≡◌, ℕ, ◌+◌, ◌-◌, ◌≤◌, nat_le, nat_lt, cond, if◌then◌else◌, Bool, true, false, List, [], ◌∷◌, length, Option, Some, None, option_to_list, refl, arith}
use Rattle.std.proofs.lemmas.Bool.{ltb-false}
use Rattle.std.specs.List.{AllByRecursion}
use Rattle.bssmap_codec.specs.declared.bssap.Bssap.{Bssap}
use Rattle.bssmap_codec.specs.declared.bssap.Bssap.TheVariants.{Management, Transfer}
use Rattle.bssmap_codec.specs.declared.bssmap.Bssmap.{Bssmap}
use Rattle.bssmap_codec.specs.declared.bssmap.Bssmap.TheVariants.{ClearCommand, ClearComplete, ClearRequest}
use Rattle.bssmap_codec.specs.declared.fault.InterfaceFault.{InterfaceFault}
use Rattle.bssmap_codec.specs.declared.fault.InterfaceFault.TheVariants.{TooLong}
use Rattle.bssmap_codec.specs.declared.sccp.Sccp.{Sccp}
use Rattle.bssmap_codec.specs.declared.sccp.Sccp.TheVariants.{ConnectionConfirm, ConnectionRefused, ConnectionRequest, DataForm1, Released}
use Rattle.bssmap_codec.specs.BssapText.{bssap_text, bssap_write_fault, bssmap_size, content_fault}
use Rattle.bssmap_codec.specs.SccpText.{sccp_text, size_fault}
use Rattle.bssmap_codec.proofs.BssapTexts.{size_is}
use Rattle.bssmap_codec.proofs.Layer3s.{layer3_is}
use Rattle.conn_messages.specs.declared.message.Message.TheVariants as puts
use Rattle.conn_messages.specs.Out.{out_of}
use Rattle.conn_messages.proofs.Sizes.{out_fits}
use Rattle.ipa_framing.specs.declared.frame.Frame.{Frame}
use Rattle.ipa_framing.specs.declared.streams.TheConstants.{RSL_STREAM, SCCP_STREAM}
use Rattle.ipa_framing.specs.Frame.{IsFrame}
use Rattle.msc_end.specs.declared.connection.Connection.{Connection}
use Rattle.msc_end.specs.declared.connection.Stage.{Stage}
use Rattle.msc_end.specs.declared.connection.Stage.TheVariants.{Ended}
use Rattle.msc_end.specs.declared.parameters.TheConstants.{CONNECTION_LIMIT, REFERENCE_BASE}
use Rattle.msc_end.specs.Switch.{connection_of, data_form, data_form_by, data_forms_on, live_reply_of, message_in, replies, replies_by, reply_by, reply_of}
use Rattle.octets.specs.declared.limits.TheConstants.{LENGTH_LIMIT}
use Rattle.octets.specs.Refusal.{first_refusal}
use Rattle.rsl_codec.specs.declared.rsl.Rsl.{Rsl}
use Rattle.rsl_codec.specs.RslText.{rsl_text, rsl_write_fault}

-- ---- of a station

abbrev pub frame_of_rsl : Rsl → Frame
frame_of_rsl message = record { stream = RSL_STREAM; body = rsl_text message }

pub rsl_fits : (message : Rsl) → rsl_write_fault message ≡ None → IsFrame (frame_of_rsl message)
unfolding out_of
rsl_fits message written = out_fits 0 (puts.Station 0 message) written

-- ---- of the switch

abbrev pub frame_of_sccp : Sccp → Frame
frame_of_sccp message = record { stream = SCCP_STREAM; body = sccp_text message }

abbrev pub FitsFrame : Sccp → Type 0
FitsFrame message = IsFrame (frame_of_sccp message)

counts : (size : ℕ) → size_fault size ≡ None → size ≤ LENGTH_LIMIT
counts size free = by (nat_lt LENGTH_LIMIT size) refl free where
  by : (b : Bool) → nat_lt LENGTH_LIMIT size ≡ b → cond b (Some TooLong) None ≡ None → size ≤ LENGTH_LIMIT
  by true is none = absurd cc
  by false is none = ltb-false LENGTH_LIMIT size is

second_none : (first second : Option InterfaceFault) → first_refusal first second ≡ None → second ≡ None
second_none None second none = none
second_none (Some fault) second none = absurd cc

bssap_short : (message : Bssap) → bssap_write_fault message ≡ None → length (bssap_text message) ≤ 258
bssap_short (Management message) free =
    let size : bssmap_size message ≤ LENGTH_LIMIT = counts (bssmap_size message) (second_none (content_fault message) (size_fault (bssmap_size message)) free) in
    omega (arith, size_is message)
bssap_short (Transfer dlci message) free = omega (arith, (layer3_is message free).1)

data_fits : (destination : ℕ) (user : List ℕ) → length user ≤ 258 → FitsFrame (DataForm1 destination user)
data_fits destination user short = omega arith

form_fits : (peer : ℕ) (message : Bssap) → AllByRecursion FitsFrame (option_to_list (data_form peer message))
form_fits peer message = by (bssap_write_fault message) refl where
  by : (o : Option InterfaceFault) →
      bssap_write_fault message ≡ o →
      AllByRecursion FitsFrame (option_to_list (data_form_by o (DataForm1 peer (bssap_text message))))
  by None free = (data_fits peer (bssap_text message) (bssap_short message free), tt)
  by (Some fault) is = tt

pub forms_fit : (o : Option Connection) (message : Bssap) → AllByRecursion FitsFrame (data_forms_on o message)
forms_fit None message = tt
forms_fit (Some c) message = form_fits c.peer message

released_fits : (destination source : ℕ) → FitsFrame (Released destination source)
released_fits destination source = omega arith

confirm_fits : (destination source : ℕ) → FitsFrame (ConnectionConfirm destination source)
confirm_fits destination source = omega arith

refused_fits : (destination : ℕ) → FitsFrame (ConnectionRefused destination)
refused_fits destination = omega arith

reply_fits : (c : Connection) (message : Bssap) → AllByRecursion FitsFrame (option_to_list (reply_of c message))
reply_fits c message = by c.stage where
  of_management : (message : Bssmap) → AllByRecursion FitsFrame (option_to_list (live_reply_of c (Management message)))
  of_management (ClearRequest cause) = form_fits c.peer (Management (ClearCommand cause))
  of_management ClearComplete = (released_fits c.peer c.number, tt)
  of_management _ = tt

  of_message : (message : Bssap) → AllByRecursion FitsFrame (option_to_list (live_reply_of c message))
  of_message (Transfer dlci text) = tt
  of_message (Management of) = of_management of

  by : (stage : Stage) → AllByRecursion FitsFrame (option_to_list (reply_by stage c message))
  by Ended = tt
  by _ = of_message message

replies_by_fit : (o : Option Connection) (message : Option Bssap) → AllByRecursion FitsFrame (replies_by o message)
replies_by_fit (Some c) (Some message) = reply_fits c message
replies_by_fit (Some c) None = tt
replies_by_fit None message = tt

pub replies_fit : (connections : List Connection) (message : Sccp) → AllByRecursion FitsFrame (replies connections message)
replies_fit connections (ConnectionRequest source user) = by (nat_le CONNECTION_LIMIT (length connections)) where
  by : (b : Bool) →
      AllByRecursion FitsFrame (if b then ConnectionRefused source ∷ [] else ConnectionConfirm source (REFERENCE_BASE + (length connections + 1)) ∷ [])
  by true = (refused_fits source, tt)
  by false = (confirm_fits source (REFERENCE_BASE + (length connections + 1)), tt)
replies_fit connections (DataForm1 destination user) =
    replies_by_fit (connection_of connections (destination - REFERENCE_BASE)) (message_in user)
replies_fit connections _ = tt
