-- SPDX-License-Identifier: MIT OR Apache-2.0
-- The word of a frame: what the frame says to the controller.
use Rattle.std.specs.Prelude.{ℕ, ◌%◌, ◌/◌, ◌==◌, ◌&&◌, ◌||◌, Bool, true}
use Rattle.std.specs.Prelude.{false, not, if◌then◌else◌}
use Rattle.std.specs.Prelude.{List, [], ◌∷◌, Option, Some, None, Result, Ok, Err}
use Rattle.bssmap_codec.specs.declared.bssap.Bssap.{Bssap}
use Rattle.controller_model.specs.Prelude.{Management, Place, SWITCH_LINK, Input, is_dtap, Report}
use Rattle.controller_model.specs.Prelude.{Sapi, Zero, Three}
use Rattle.bssmap_codec.specs.declared.bssap.Bssap.TheVariants.{Transfer}
use Rattle.bssmap_codec.specs.declared.bssmap.Bssmap.{Bssmap}
use Rattle.bssmap_codec.specs.declared.bssmap.Bssmap.TheVariants as bssmap
use Rattle.bssmap_codec.specs.declared.fault.InterfaceFault.{InterfaceFault}
use Rattle.bssmap_codec.specs.declared.sccp.Sccp.{Sccp}
use Rattle.bssmap_codec.specs.declared.sccp.Sccp.TheVariants as sccp
use Rattle.bssmap_codec.specs.BssapReading.{bssap_reading}
use Rattle.bssmap_codec.specs.SccpReading.{sccp_reading}
use Rattle.bssmap_codec.specs.Values.{is_speech_type}
use Rattle.conn_messages.specs.declared.channel.Change.TheVariants.{Assignment, Handover}
use Rattle.conn_rules.specs.declared.input.Input.TheVariants as inputs
use Rattle.controller_model.specs.declared.word.Word.{Word}
use Rattle.controller_model.specs.declared.word.Word.TheVariants.{Nothing, Ping, Asks, OnChannel}
use Rattle.controller_model.specs.declared.word.Word.TheVariants.{Reports, OnConnection}
use Rattle.controller_model.specs.Controller.{place_at}
use Rattle.controller_model.specs.Reports.{report_reading}
use Rattle.dtap_codec.specs.declared.rr.RrMessage.{RrMessage}
use Rattle.dtap_codec.specs.declared.rr.RrMessage.TheVariants.{AssignmentComplete, HandoverComplete}
use Rattle.dtap_codec.specs.declared.rr.RrMessage.TheVariants.{AssignmentFailure, HandoverFailure}
use Rattle.dtap_codec.specs.declared.rr.RrMessage.TheVariants.{MeasurementReport}
use Rattle.dtap_codec.specs.declared.rr_fault.RrFault.{RrFault}
use Rattle.dtap_codec.specs.RrReading.{rr_reading}
use Rattle.ipa_framing.specs.declared.frame.Frame.{Frame}
use Rattle.ipa_framing.specs.declared.streams.TheConstants.{RSL_STREAM, SCCP_STREAM, CCM_STREAM}
use Rattle.ipa_framing.specs.declared.streams.TheConstants.{PING}
use Rattle.rsl_codec.specs.declared.fault.RslFault.{RslFault}
use Rattle.rsl_codec.specs.declared.link_identifier.TheConstants.{MAIN_LINK_SAPI_0}
use Rattle.rsl_codec.specs.declared.rsl.Rsl.{Rsl}
use Rattle.rsl_codec.specs.declared.rsl.Rsl.TheVariants as rsl
use Rattle.rsl_codec.specs.RslReading.{rsl_reading}

-- ---- words of a station

-- The SAPI of a link identifier. SAPI 0 is that of the main link with no other bit set. SAPI 3 is
-- on the main link or on the SACCH, and bits 6 to 4 are ignored. None for any other link
-- identifier.
abbrev pub sapi_of : ℕ → Option Sapi
sapi_of link =
    if link == MAIN_LINK_SAPI_0 then Some Zero
    else if (link % 8 == 3) && ((link / 64 == 0) || (link / 64 == 1)) then Some Three else None

-- an input on the link of a SAPI; a link without a SAPI says nothing
abbrev pub of_sapi : Place → Option Sapi → (Sapi → Input) → Word
of_sapi at None input = Nothing
of_sapi at (Some sapi) input = OnChannel at (input sapi)

-- the end of a change, by the mobile's COMPLETE or FAILURE; any other message says nothing
abbrev pub change_word : Place → Result RrMessage RrFault → Word
change_word at (Ok (AssignmentComplete cause)) = OnChannel at (inputs.Complete at Assignment cause)
change_word at (Ok (HandoverComplete cause)) = OnChannel at (inputs.Complete at Handover cause)
change_word at (Ok (AssignmentFailure cause)) = OnChannel at (inputs.Failure at Assignment cause)
change_word at (Ok (HandoverFailure cause)) = OnChannel at (inputs.Failure at Handover cause)
change_word at _ = Nothing

abbrev pub rr_word : Place → Option Sapi → List ℕ → Word
rr_word at (Some Zero) l3 = change_word at (rr_reading l3)
rr_word at _ l3 = Nothing

-- the word of a DATA INDICATION: `true` stands for DTAP, `false` for a message of radio resource
-- management
abbrev pub data_word : Bool → Place → Option Sapi → List ℕ → Word
data_word true at sapi l3 = of_sapi at sapi (λ s. inputs.Dtap at s l3)
data_word false at sapi l3 = rr_word at sapi l3

-- an invalid report says nothing
abbrev pub valid_word : Place → ℕ → Report → Word
valid_word at number report = if report.valid then Reports at number report else Nothing

abbrev pub report_word : Place → ℕ → Result RrMessage RrFault → Word
report_word at number (Ok (MeasurementReport value)) = valid_word at number (report_reading value)
report_word at number _ = Nothing

-- the word of a MEASUREMENT RESULT, perhaps with a report of the mobile
abbrev pub result_word : Place → ℕ → Option (List ℕ) → Word
result_word at number None = Nothing
result_word at number (Some l3) = report_word at number (rr_reading l3)

abbrev pub rsl_word : ℕ → Rsl → Word
rsl_word station (rsl.ChannelRequired r) = Asks r.reference r.access_delay.0
rsl_word station (rsl.ChannelActivationAck a) =
    OnChannel (place_at station a.channel) (inputs.ActivationAck (place_at station a.channel))
rsl_word station (rsl.ChannelActivationNack f) =
    OnChannel (place_at station f.channel) (inputs.ActivationNack (place_at station f.channel))
rsl_word station (rsl.EstablishIndication e) =
    of_sapi (place_at station e.channel) (sapi_of e.link)
    (λ s. inputs.EstablishIndication (place_at station e.channel) s e.l3)
rsl_word station (rsl.EstablishConfirm l) =
    of_sapi (place_at station l.channel) (sapi_of l.link)
    (λ s. inputs.EstablishConfirm (place_at station l.channel) s)
rsl_word station (rsl.ReleaseIndication l) =
    of_sapi (place_at station l.channel) (sapi_of l.link)
    (λ s. inputs.ReleaseIndication (place_at station l.channel) s)
rsl_word station (rsl.ErrorIndication e) =
    of_sapi (place_at station e.channel) (sapi_of e.link)
    (λ s. inputs.ErrorIndication (place_at station e.channel) s)
rsl_word station (rsl.ConnectionFailure f) =
    OnChannel (place_at station f.channel) (inputs.ConnectionFailure (place_at station f.channel))
rsl_word station (rsl.DataIndication d) =
    data_word (is_dtap d.l3) (place_at station d.channel) (sapi_of d.link) d.l3
rsl_word station (rsl.MeasurementResult m) =
    result_word (place_at station m.channel) m.number.0 m.l3
rsl_word station (rsl.RfChannelReleaseAck channel) =
    OnChannel (place_at station channel) (inputs.ReleaseAck (place_at station channel))
rsl_word station _ = Nothing

abbrev pub station_word : ℕ → Result Rsl RslFault → Word
station_word station (Ok message) = rsl_word station message
station_word station (Err fault) = Nothing

-- ---- words of the switch

abbrev pub management_word : ℕ → Bssmap → Word
management_word number (bssmap.AssignmentRequest channel_type) =
    OnConnection number (inputs.AssignmentRequest (is_speech_type channel_type.0))
management_word number (bssmap.ClearCommand cause) = OnConnection number inputs.ClearCommand
management_word number bssmap.CipherModeCommand = OnConnection number inputs.CipherModeCommand
management_word number _ = Nothing

-- the SAPI of a DLCI: 0 if the low three bits are 0, else 3
abbrev pub dlci_sapi : ℕ → Sapi
dlci_sapi dlci = if dlci % 8 == 0 then Zero else Three

abbrev pub bssap_word : ℕ → Result Bssap InterfaceFault → Word
bssap_word number (Ok (Management message)) = management_word number message
bssap_word number (Ok (Transfer dlci message)) =
    OnConnection number (inputs.Downlink (dlci_sapi dlci) message)
bssap_word number (Err fault) = Nothing

abbrev pub switch_word : Result Sccp InterfaceFault → Word
switch_word (Ok (sccp.ConnectionConfirm destination source)) =
    OnConnection destination (inputs.ConnectionConfirm source)
switch_word (Ok (sccp.ConnectionRefused destination)) =
    OnConnection destination inputs.ConnectionRefused
switch_word (Ok (sccp.Released destination source)) =
    OnConnection destination (inputs.Released source)
switch_word (Ok (sccp.DataForm1 destination user)) = bssap_word destination (bssap_reading user)
switch_word _ = Nothing

-- ---- words of any link

abbrev pub management_of_link : List ℕ → Word
management_of_link [] = Nothing
management_of_link (first ∷ rest) = if first == PING then Ping else Nothing

-- the protocol of a frame's body
pub data Carried : Type 0 where
  radio_signalling : Carried
  connection_control : Carried
  link_management : Carried
  other : Carried

-- the protocol of a stream: CCM on every link, SCCP on the switch's link, RSL on a station's link
abbrev pub carried : ℕ → ℕ → Carried
carried source stream =
    if stream == CCM_STREAM then link_management
    else if (source == SWITCH_LINK) && (stream == SCCP_STREAM) then connection_control
    else if not (source == SWITCH_LINK) && (stream == RSL_STREAM) then radio_signalling
    else other

abbrev pub body_word : Carried → ℕ → List ℕ → Word
body_word radio_signalling source body = station_word source (rsl_reading body)
body_word connection_control source body = switch_word (sccp_reading body)
body_word link_management source body = management_of_link body
body_word other source body = Nothing

unfoldable pub word_of : ℕ → Frame → Word
word_of source frame = body_word (carried source frame.stream) source frame.body
