-- SPDX-License-Identifier: MIT OR Apache-2.0
-- A frame speaks only of channels of the link on which it arrived.
use Rattle.controller_model.proofs.Prelude.{◌≡◌, ℕ, ◌==◌, ◌&&◌, Bool, true, false, not, if◌then◌else◌, List, [], ◌∷◌, Option, Some, None}
use Rattle.controller_model.proofs.Prelude.{Result, Ok, Err, refl, eqb-true, and_parts, Bssap, Management, Transfer, Bssmap, InterfaceFault}
use Rattle.controller_model.proofs.Prelude.{Sccp, Place, SWITCH_LINK, Input, is_dtap, Report, Sapi, Zero, Frame, CCM_STREAM, PING}
use Rattle.controller_model.proofs.Prelude.{RSL_STREAM, SCCP_STREAM, RslFault, Rsl, bssap_reading, sccp_reading, Word, Nothing, Ping}
use Rattle.controller_model.proofs.Prelude.{OnChannel, Reports, OnConnection, place_at, sapi_of, change_word, rr_word, data_word}
use Rattle.controller_model.proofs.Prelude.{report_word, result_word, rsl_word, station_word, management_word, bssap_word, switch_word}
use Rattle.controller_model.proofs.Prelude.{management_of_link, Carried, carried, body_word, radio_signalling, connection_control}
use Rattle.controller_model.proofs.Prelude.{link_management, other, report_reading, RrMessage, RrFault, rr_reading, rsl_reading}
use Rattle.bssmap_codec.specs.declared.bssmap.Bssmap.TheVariants as bssmap
use Rattle.bssmap_codec.specs.declared.sccp.Sccp.TheVariants as sccp
use Rattle.conn_rules.specs.declared.input.Input.TheVariants as inputs
use Rattle.controller_model.specs.Reading.{of_sapi, word_of}
use Rattle.dtap_codec.specs.declared.rr.RrMessage.TheVariants as rr
use Rattle.rsl_codec.specs.declared.rsl.Rsl.TheVariants as rsl

-- an input of a station names the place that it is from
abbrev pub IsAtPlace : Place → Input → Type 0
IsAtPlace at (inputs.ActivationAck place) = place ≡ at
IsAtPlace at (inputs.ActivationNack place) = place ≡ at
IsAtPlace at (inputs.EstablishIndication place sapi message) = place ≡ at
IsAtPlace at (inputs.EstablishConfirm place sapi) = place ≡ at
IsAtPlace at (inputs.ReleaseIndication place sapi) = place ≡ at
IsAtPlace at (inputs.ErrorIndication place sapi) = place ≡ at
IsAtPlace at (inputs.ConnectionFailure place) = place ≡ at
IsAtPlace at (inputs.Dtap place sapi message) = place ≡ at
IsAtPlace at (inputs.Complete place change cause) = place ≡ at
IsAtPlace at (inputs.Failure place change cause) = place ≡ at
IsAtPlace at (inputs.ReleaseAck place) = place ≡ at
IsAtPlace at _ = ⊥

-- one of the switch
abbrev pub IsOfSwitch : Input → Type 0
IsOfSwitch (inputs.ConnectionConfirm source) = Unit {0}
IsOfSwitch inputs.ConnectionRefused = Unit {0}
IsOfSwitch (inputs.Released source) = Unit {0}
IsOfSwitch (inputs.Downlink sapi message) = Unit {0}
IsOfSwitch (inputs.AssignmentRequest is_speech) = Unit {0}
IsOfSwitch inputs.CipherModeCommand = Unit {0}
IsOfSwitch inputs.ClearCommand = Unit {0}
IsOfSwitch _ = ⊥

abbrev pub IsFrom : ℕ → Word → Type 0
IsFrom source (OnChannel at input) = (at.station ≡ source) × IsAtPlace at input
IsFrom source (OnConnection number input) = (source ≡ SWITCH_LINK) × IsOfSwitch input
IsFrom source _ = Unit {0}

sapi_from : (source : ℕ) (at : Place) (o : Option Sapi) (input : Sapi → Input) →
    at.station ≡ source →
    ((s : Sapi) → IsAtPlace at (input s)) →
    IsFrom source (of_sapi at o input)
sapi_from source at None input is here = tt
sapi_from source at (Some s) input is here = (is, here s)

change_from : (source : ℕ) (at : Place) (r : Result RrMessage RrFault) → at.station ≡ source → IsFrom source (change_word at r)
change_from source at (Ok (rr.AssignmentComplete cause)) is = (is, refl)
change_from source at (Ok (rr.HandoverComplete cause)) is = (is, refl)
change_from source at (Ok (rr.AssignmentFailure cause)) is = (is, refl)
change_from source at (Ok (rr.HandoverFailure cause)) is = (is, refl)
change_from source at _ is = tt

rr_from : (source : ℕ) (at : Place) (o : Option Sapi) (l3 : List ℕ) → at.station ≡ source → IsFrom source (rr_word at o l3)
rr_from source at (Some Zero) l3 is = change_from source at (rr_reading l3) is
rr_from source at _ l3 is = tt

data_from : (source : ℕ) (b : Bool) (at : Place) (o : Option Sapi) (l3 : List ℕ) → at.station ≡ source → IsFrom source (data_word b at o l3)
data_from source true at o l3 is = sapi_from source at o (λ s. inputs.Dtap at s l3) is (λ s. refl)
data_from source false at o l3 is = rr_from source at o l3 is

valid_from : (source : ℕ) (b : Bool) (at : Place) (number : ℕ) (report : Report) →
    IsFrom source (if b then Reports at number report else Nothing)
valid_from source true at number report = tt
valid_from source false at number report = tt

report_from : (source : ℕ) (at : Place) (number : ℕ) (r : Result RrMessage RrFault) → IsFrom source (report_word at number r)
report_from source at number (Ok (rr.MeasurementReport value)) = valid_from source (report_reading value).valid at number (report_reading value)
report_from source at number _ = tt

result_from : (source : ℕ) (at : Place) (number : ℕ) (o : Option (List ℕ)) → IsFrom source (result_word at number o)
result_from source at number None = tt
result_from source at number (Some l3) = report_from source at number (rr_reading l3)

rsl_from : (station : ℕ) (v : Rsl) → IsFrom station (rsl_word station v)
rsl_from station (rsl.EstablishIndication e) = sapi_from station (place_at station e.channel) (sapi_of e.link) (λ s. inputs.EstablishIndication (place_at station e.channel) s e.l3) refl (λ s. refl)
rsl_from station (rsl.DataIndication d) = data_from station (is_dtap d.l3) (place_at station d.channel) (sapi_of d.link) d.l3 refl
rsl_from station (rsl.EstablishConfirm l) = sapi_from station (place_at station l.channel) (sapi_of l.link) (λ s. inputs.EstablishConfirm (place_at station l.channel) s) refl (λ s. refl)
rsl_from station (rsl.ReleaseIndication l) = sapi_from station (place_at station l.channel) (sapi_of l.link) (λ s. inputs.ReleaseIndication (place_at station l.channel) s) refl (λ s. refl)
rsl_from station (rsl.ErrorIndication e) = sapi_from station (place_at station e.channel) (sapi_of e.link) (λ s. inputs.ErrorIndication (place_at station e.channel) s) refl (λ s. refl)
rsl_from station (rsl.MeasurementResult m) = result_from station (place_at station m.channel) m.number.0 m.l3
rsl_from station (rsl.ChannelActivationAck a) = (refl, refl)
rsl_from station (rsl.ChannelActivationNack f) = (refl, refl)
rsl_from station (rsl.ConnectionFailure f) = (refl, refl)
rsl_from station (rsl.RfChannelReleaseAck channel) = (refl, refl)
rsl_from station _ = tt

station_from : (station : ℕ) (r : Result Rsl RslFault) → IsFrom station (station_word station r)
station_from station (Ok v) = rsl_from station v
station_from station (Err fault) = tt

management_from : (source number : ℕ) (m : Bssmap) → source ≡ SWITCH_LINK → IsFrom source (management_word number m)
management_from source number (bssmap.AssignmentRequest channel_type) is = (is, tt)
management_from source number (bssmap.ClearCommand cause) is = (is, tt)
management_from source number bssmap.CipherModeCommand is = (is, tt)
management_from source number _ is = tt

bssap_from : (source number : ℕ) (r : Result Bssap InterfaceFault) → source ≡ SWITCH_LINK → IsFrom source (bssap_word number r)
bssap_from source number (Ok (Management m)) is = management_from source number m is
bssap_from source number (Ok (Transfer dlci message)) is = (is, tt)
bssap_from source number (Err fault) is = tt

switch_from : (source : ℕ) (r : Result Sccp InterfaceFault) → source ≡ SWITCH_LINK → IsFrom source (switch_word r)
switch_from source (Ok (sccp.ConnectionConfirm destination reference)) is = (is, tt)
switch_from source (Ok (sccp.ConnectionRefused destination)) is = (is, tt)
switch_from source (Ok (sccp.Released destination reference)) is = (is, tt)
switch_from source (Ok (sccp.DataForm1 destination user)) is = bssap_from source destination (bssap_reading user) is
switch_from source _ is = tt

ping_from : (source : ℕ) (b : Bool) → IsFrom source (if b then Ping else Nothing)
ping_from source true = tt
ping_from source false = tt

link_from : (source : ℕ) (body : List ℕ) → IsFrom source (management_of_link body)
link_from source [] = tt
link_from source (first ∷ rest) = ping_from source (first == PING)

body_from : (what : Carried) (source : ℕ) (body : List ℕ) →
    (what ≡ connection_control → source ≡ SWITCH_LINK) →
    IsFrom source (body_word what source body)
body_from radio_signalling source body is = station_from source (rsl_reading body)
body_from connection_control source body is = switch_from source (sccp_reading body) (is refl)
body_from link_management source body is = link_from source body
body_from other source body is = tt

control_by : (a b c : Bool) →
    (if a then link_management else if b then connection_control else if c then radio_signalling else other) ≡ connection_control →
    b ≡ true
control_by false true c is = refl
control_by false false true is = absurd cc
control_by _ _ _ is = absurd cc

pub word_from : (source : ℕ) (frame : Frame) → IsFrom source (word_of source frame)
unfolding word_of
word_from source frame = body_from (carried source frame.stream) source frame.body
    (λ is. eqb-true source SWITCH_LINK (and_parts (source == SWITCH_LINK) (frame.stream == SCCP_STREAM)
    (control_by (frame.stream == CCM_STREAM) ((source == SWITCH_LINK) && (frame.stream == SCCP_STREAM)) (not (source == SWITCH_LINK) && (frame.stream == RSL_STREAM)) is)).0)
