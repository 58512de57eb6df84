-- SPDX-License-Identifier: MIT OR Apache-2.0
-- What a frame says to the controller, and what it says to a judge.
use Rattle.std.proofs.Common.{◌≡◌, ℕ, Bool, true, false, List, [], ◌∷◌, Option, Some, None, refl}
use Rattle.std.specs.Prelude.{if◌then◌else◌, Result, Ok, Err}
use Rattle.bssmap_codec.specs.declared.bssap.Bssap.{Bssap}
use Rattle.bssmap_codec.specs.declared.bssap.Bssap.TheVariants.{Management, Transfer}
use Rattle.bssmap_codec.specs.declared.bssmap.Bssmap.{Bssmap}
use Rattle.bssmap_codec.specs.declared.bssmap.Bssmap.TheVariants as bssmap
use Rattle.bssmap_codec.specs.declared.fault.InterfaceFault.{InterfaceFault}
use Rattle.bssmap_codec.specs.declared.sccp.Sccp.{Sccp}
use Rattle.bssmap_codec.specs.declared.sccp.Sccp.TheVariants as sccp
use Rattle.bssmap_codec.specs.BssapReading.{bssap_reading}
use Rattle.conn_messages.specs.declared.channel.Change.TheVariants.{Assignment, Handover}
use Rattle.conn_rules.specs.declared.input.Input.{Input}
use Rattle.conn_rules.specs.declared.input.Input.TheVariants as inputs
use Rattle.controller_model.specs.declared.word.Word.TheVariants as words
use Rattle.controller_model.specs.Reading.{bssap_word, change_word, data_word, management_word, of_sapi, station_word, switch_word, result_word, report_word}
use Rattle.controller_model.specs.Reports.{report_reading}
use Rattle.dtap_codec.specs.declared.report.Report.{Report}
use Rattle.dtap_codec.specs.declared.rr.RrMessage.{RrMessage}
use Rattle.dtap_codec.specs.declared.rr.RrMessage.TheVariants as rr
use Rattle.dtap_codec.specs.declared.rr_fault.RrFault.{RrFault}
use Rattle.dtap_codec.specs.declared.sapi.Sapi.{Sapi}
use Rattle.dtap_codec.specs.declared.sapi.Sapi.TheVariants.{Zero, Three}
use Rattle.dtap_codec.specs.RrReading.{rr_reading}
use Rattle.rsl_codec.specs.declared.fault.RslFault.{RslFault}
use Rattle.rsl_codec.specs.declared.rsl.Rsl.{Rsl}
use Rattle.rsl_codec.specs.declared.rsl.Rsl.TheVariants as rsl
use Rattle.run_judge.specs.declared.said.StationChannel.{StationChannel}
use Rattle.run_judge.specs.Reading.{answer, brought, channel_at, established, is_dtap, said_by_station, said_by_switch, sapi_of, transferred}
use Rattle.conn_rules.specs.Streams.{is_dtap as rules_dtap}
use Rattle.judge_laws.specs.Hearing.{IsUnheard, Matches}
use Rattle.judge_laws.specs.Hearing.Matches.{brings, completes, confirms, establishes, fails, refuses, released, transfers, unheard}
use Rattle.judge_laws.specs.Places.{spot}

-- ---- a station's

establish_matches : (at : StationChannel) (o : Option Sapi) (l3 : Option (List ℕ)) →
    Matches (of_sapi (spot at) o (λ s. inputs.EstablishIndication (spot at) s l3)) (established at o l3)
establish_matches at None l3 = unheard words.Nothing tt
establish_matches at (Some Zero) None = unheard (words.OnChannel (spot at) (inputs.EstablishIndication (spot at) Zero None)) tt
establish_matches at (Some Zero) (Some message) = establishes at message
establish_matches at (Some Three) None = unheard (words.OnChannel (spot at) (inputs.EstablishIndication (spot at) Three None)) tt
establish_matches at (Some Three) (Some message) = unheard (words.OnChannel (spot at) (inputs.EstablishIndication (spot at) Three (Some message))) tt

answer_matches : (at : StationChannel) (r : Result RrMessage RrFault) → Matches (change_word (spot at) r) (answer at r)
answer_matches at (Ok (rr.AssignmentComplete cause)) = completes at Assignment cause
answer_matches at (Ok (rr.HandoverComplete cause)) = completes at Handover cause
answer_matches at (Ok (rr.AssignmentFailure cause)) = fails at Assignment cause
answer_matches at (Ok (rr.HandoverFailure cause)) = fails at Handover cause
answer_matches at _ = unheard words.Nothing tt

data_matches : (at : StationChannel) (dtap : Bool) (o : Option Sapi) (l3 : List ℕ) →
    Matches (data_word dtap (spot at) o l3) (brought dtap at o l3)
data_matches at true (Some sapi) l3 = brings at sapi l3
data_matches at true None l3 = unheard words.Nothing tt
data_matches at false (Some Zero) l3 = answer_matches at (rr_reading l3)
data_matches at false (Some Three) l3 = unheard words.Nothing tt
data_matches at false None l3 = unheard words.Nothing tt

-- a message on the link of a SAPI of which nothing is heard
of_sapi_unheard : (at : StationChannel) (o : Option Sapi) (input : Sapi → Input) →
    ((s : Sapi) → IsUnheard (words.OnChannel (spot at) (input s))) →
    IsUnheard (of_sapi (spot at) o input)
of_sapi_unheard at None input none = tt
of_sapi_unheard at (Some s) input none = none s

report_unheard : (at : StationChannel) (number : ℕ) (o : Option (List ℕ)) → IsUnheard (result_word (spot at) number o)
report_unheard at number None = tt
report_unheard at number (Some l3) = by (rr_reading l3)
  where
    valid : (b : Bool) (report : Report) → IsUnheard (if b then words.Reports (spot at) number report else words.Nothing)
    valid true report = tt
    valid false report = tt

    by : (r : Result RrMessage RrFault) → IsUnheard (report_word (spot at) number r)
    by (Ok (rr.MeasurementReport value)) = valid (report_reading value).valid (report_reading value)
    by _ = tt

same_dtap : (l3 : List ℕ) → rules_dtap l3 ≡ is_dtap l3
same_dtap [] = refl
same_dtap (first ∷ rest) = refl

pub station_matches : (station : ℕ) (r : Result Rsl RslFault) → Matches (station_word station r) (said_by_station station r)
station_matches station (Err fault) = unheard words.Nothing tt
station_matches station (Ok (rsl.EstablishIndication e)) = establish_matches (channel_at station e.channel) (sapi_of e.link) e.l3
station_matches station (Ok (rsl.DataIndication d)) = rw (same_dtap d.l3) (data_matches (channel_at station d.channel) (is_dtap d.l3) (sapi_of d.link) d.l3)
station_matches station (Ok (rsl.RfChannelReleaseAck channel)) = released (channel_at station channel)
station_matches station (Ok (rsl.EstablishConfirm l)) = unheard _ (of_sapi_unheard (channel_at station l.channel) (sapi_of l.link) _ (λ s. tt))
station_matches station (Ok (rsl.ReleaseIndication l)) = unheard _ (of_sapi_unheard (channel_at station l.channel) (sapi_of l.link) _ (λ s. tt))
station_matches station (Ok (rsl.ErrorIndication e)) = unheard _ (of_sapi_unheard (channel_at station e.channel) (sapi_of e.link) _ (λ s. tt))
station_matches station (Ok (rsl.MeasurementResult m)) = unheard _ (report_unheard (channel_at station m.channel) m.number.0 m.l3)
station_matches station (Ok message) = unheard _ tt

-- ---- the switch's

management_matches : (destination : ℕ) (b : Bssmap) → IsUnheard (management_word destination b)
management_matches destination (bssmap.AssignmentRequest channel_type) = tt
management_matches destination (bssmap.ClearCommand cause) = tt
management_matches destination bssmap.CipherModeCommand = tt
management_matches destination _ = tt

data_form_matches : (destination : ℕ) (r : Result Bssap InterfaceFault) → Matches (bssap_word destination r) (transferred destination r)
data_form_matches destination (Ok (Management b)) = unheard _ (management_matches destination b)
data_form_matches destination (Ok (Transfer dlci message)) = transfers destination _ message
data_form_matches destination (Err fault) = unheard words.Nothing tt

pub switch_matches : (r : Result Sccp InterfaceFault) → Matches (switch_word r) (said_by_switch r)
switch_matches (Ok (sccp.ConnectionConfirm destination source)) = confirms destination source
switch_matches (Ok (sccp.ConnectionRefused destination)) = refuses destination
switch_matches (Ok (sccp.Released destination source)) = unheard (words.OnConnection destination (inputs.Released source)) tt
switch_matches (Ok (sccp.DataForm1 destination user)) = data_form_matches destination (bssap_reading user)
switch_matches (Ok message) = unheard words.Nothing tt
switch_matches (Err fault) = unheard words.Nothing tt
