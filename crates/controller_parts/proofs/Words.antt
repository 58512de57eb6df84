-- SPDX-License-Identifier: MIT OR Apache-2.0
-- The properties of each word that a frame is read as.
use Rattle.std.proofs.Common.{◌≡◌, ◌≢◌, ℕ, Bool, true, false, if◌then◌else◌, List, Option, Some, None, Result, Ok, Err, IfOk, refl, ap, ◌∙◌, subst, sym, arith}
use Rattle.bssmap_codec.specs.Layer3.{IsLayer3}
use Rattle.conn_messages.specs.declared.parameters.TheConstants.{SWITCH_LINK}
use Rattle.conn_rules.specs.declared.input.Input.{Input}
use Rattle.conn_rules.specs.declared.input.Input.TheVariants as inputs
use Rattle.conn_rules.specs.Validity.{IsCarried}
use Rattle.conn_rules.specs.Streams.{is_dtap}
use Rattle.controller_model.specs.declared.word.Word.{Word}
use Rattle.controller_model.specs.declared.word.Word.TheVariants.{Nothing, Reports}
use Rattle.controller_model.specs.Controller.{place_at}
use Rattle.controller_model.specs.Reading.{sapi_of, of_sapi, change_word, data_word, report_word, result_word, rsl_word, station_word}
use Rattle.controller_model.specs.Reports.{report_reading}
use Rattle.dtap_codec.specs.declared.report.Report.{Report}
use Rattle.dtap_codec.specs.declared.rr.RrMessage.{RrMessage}
use Rattle.dtap_codec.specs.declared.rr.RrMessage.TheVariants.{AssignmentComplete, HandoverComplete, AssignmentFailure, HandoverFailure, MeasurementReport}
use Rattle.dtap_codec.specs.declared.rr_fault.RrFault.{RrFault}
use Rattle.dtap_codec.specs.declared.sapi.Sapi.{Sapi}
use Rattle.dtap_codec.specs.declared.sapi.Sapi.TheVariants.{Zero}
use Rattle.dtap_codec.specs.RrReading.{rr_reading}
use Rattle.controller_parts.specs.Words.{IsFromSource, IsCarriedWord}
use Rattle.rsl_codec.specs.declared.dedicated_channel.MeasurementResult.{MeasurementResult}
use Rattle.rsl_codec.specs.declared.fault.RslFault.{RslFault}
use Rattle.rsl_codec.specs.WrittenOrder.{IsMeasurement}
use Rattle.rsl_codec.specs.declared.rsl.Rsl.{Rsl}
use Rattle.rsl_codec.specs.declared.rsl.Rsl.TheVariants as rsl
use Rattle.rsl_codec.specs.Rsl.{IsL3, IsRsl, l3_of}

-- ---- a station's

abbrev Suits : ℕ → Word → Type 0
Suits station w = IsCarriedWord w × IsFromSource station w

layer3 : (message : List ℕ) → IsL3 (Some message) → IsLayer3 message
layer3 message h = (omega (arith, h.0), h.1)

of_sapi_suits : (station number : ℕ) (sapi : Option Sapi) (input : Sapi → Input) →
    station ≢ SWITCH_LINK →
    ((s : Sapi) → IsCarried (input s)) →
    Suits station (of_sapi (place_at station number) sapi input)
of_sapi_suits station number None input ne h = (tt, tt)
of_sapi_suits station number (Some s) input ne h = (h s, (refl, ne))

change_suits : (station number : ℕ) (r : Result RrMessage RrFault) →
    station ≢ SWITCH_LINK →
    Suits station (change_word (place_at station number) r)
change_suits station number (Ok (AssignmentComplete cause)) ne = (tt, (refl, ne))
change_suits station number (Ok (HandoverComplete cause)) ne = (tt, (refl, ne))
change_suits station number (Ok (AssignmentFailure cause)) ne = (tt, (refl, ne))
change_suits station number (Ok (HandoverFailure cause)) ne = (tt, (refl, ne))
change_suits station number _ ne = (tt, tt)

data_suits : (is_dtap : Bool) (station number : ℕ) (sapi : Option Sapi) (l3 : List ℕ) →
    station ≢ SWITCH_LINK →
    IsLayer3 l3 →
    Suits station (data_word is_dtap (place_at station number) sapi l3)
data_suits true station number sapi l3 ne h = of_sapi_suits station number sapi (λ s. inputs.Dtap (place_at station number) s l3) ne (λ s. h)
data_suits false station number (Some Zero) l3 ne h = change_suits station number (rr_reading l3) ne
data_suits false station number _ l3 ne h = (tt, tt)

establishment_suits : (station number : ℕ) (sapi : Option Sapi) (l3 : Option (List ℕ)) →
    station ≢ SWITCH_LINK →
    IsL3 l3 →
    Suits station (of_sapi (place_at station number) sapi (λ s. inputs.EstablishIndication (place_at station number) s l3))
establishment_suits station number sapi None ne h = of_sapi_suits station number sapi (λ s. inputs.EstablishIndication (place_at station number) s None) ne (λ s. tt)
establishment_suits station number sapi (Some l3) ne h = of_sapi_suits station number sapi (λ s. inputs.EstablishIndication (place_at station number) s (Some l3)) ne (λ s. layer3 l3 h)

valid_suits : (is_valid : Bool) (station number count : ℕ) (report : Report) →
    (is_valid ≡ true → report.valid ≡ true) →
    station ≢ SWITCH_LINK →
    Suits station (if is_valid then Reports (place_at station number) count report else Nothing)
valid_suits true station number count report valid ne = (valid refl, (refl, ne))
valid_suits false station number count report valid ne = (tt, tt)

report_suits : (station number count : ℕ) (r : Result RrMessage RrFault) →
    station ≢ SWITCH_LINK →
    Suits station (report_word (place_at station number) count r)
report_suits station number count (Ok (MeasurementReport value)) ne = valid_suits (report_reading value).valid station number count (report_reading value) (λ is. is) ne
report_suits station number count _ ne = (tt, tt)

result_suits : (station number count : ℕ) (l3 : Option (List ℕ)) →
    station ≢ SWITCH_LINK →
    Suits station (result_word (place_at station number) count l3)
result_suits station number count None ne = (tt, tt)
result_suits station number count (Some l3) ne = report_suits station number count (rr_reading l3) ne

word_suits : (station : ℕ) (v : Rsl) → station ≢ SWITCH_LINK → IsL3 (l3_of v) → Suits station (rsl_word station v)
word_suits station (rsl.ChannelRequired r) ne h = (tt, ne)
word_suits station (rsl.ChannelActivationAck a) ne h = (tt, (refl, ne))
word_suits station (rsl.ChannelActivationNack f) ne h = (tt, (refl, ne))
word_suits station (rsl.EstablishIndication e) ne h = establishment_suits station e.channel (sapi_of e.link) e.l3 ne h
word_suits station (rsl.EstablishConfirm l) ne h = of_sapi_suits station l.channel (sapi_of l.link) (λ s. inputs.EstablishConfirm (place_at station l.channel) s) ne (λ s. tt)
word_suits station (rsl.ReleaseIndication l) ne h = of_sapi_suits station l.channel (sapi_of l.link) (λ s. inputs.ReleaseIndication (place_at station l.channel) s) ne (λ s. tt)
word_suits station (rsl.ErrorIndication e) ne h = of_sapi_suits station e.channel (sapi_of e.link) (λ s. inputs.ErrorIndication (place_at station e.channel) s) ne (λ s. tt)
word_suits station (rsl.ConnectionFailure f) ne h = (tt, (refl, ne))
word_suits station (rsl.DataIndication d) ne h = data_suits (is_dtap d.l3) station d.channel (sapi_of d.link) d.l3 ne (layer3 d.l3 h)
word_suits station (rsl.MeasurementResult m) ne h = result_suits station m.channel m.number.0 m.l3 ne
word_suits station (rsl.RfChannelReleaseAck channel) ne h = (tt, (refl, ne))
word_suits station _ ne h = (tt, tt)

-- what a word is that is known, every word is
if_known : {F : Type 0} (P : Word → Type 0) (r : Result Word F) (w : Word) → IfOk r (λ x. x ≡ w) → P w → IfOk r P
if_known P (Ok x) w e h = subst P (sym e) h
if_known P (Err fault) w e h = tt

pub station_carried : {F : Type 0} (station : ℕ) (octets : List ℕ) (v : Rsl) (r : Result Word F) →
    station ≢ SWITCH_LINK →
    IsRsl octets v →
    IfOk r (λ w. w ≡ rsl_word station v) →
    IfOk r IsCarriedWord
station_carried station octets v r ne is e = if_known IsCarriedWord r (rsl_word station v) e (word_suits station v ne is.lawful.1).0

pub station_comes : {F : Type 0} (station : ℕ) (octets : List ℕ) (v : Rsl) (r : Result Word F) →
    station ≢ SWITCH_LINK →
    IsRsl octets v →
    IfOk r (λ w. w ≡ rsl_word station v) →
    IfOk r (IsFromSource station)
station_comes station octets v r ne is e = if_known (IsFromSource station) r (rsl_word station v) e (word_suits station v ne is.lawful.1).1

-- ---- a MEASUREMENT RESULT that is read without a copy

same_result : (station : ℕ) (m : MeasurementResult) (channel number : ℕ) (l3 : Option (List ℕ)) → m.channel ≡ channel → m.number.0 ≡ number → m.l3 ≡ l3 →
    result_word (place_at station channel) number l3 ≡ rsl_word station (rsl.MeasurementResult m)
same_result station m channel number l3 a b c = rw (← a, ← b, ← c) refl

pub measured_is : {F : Type 0} (station channel number : ℕ) (l3 : Option (List ℕ)) (read : Result Rsl RslFault) (r : Result Word F) →
    IsMeasurement read channel number l3 → IfOk r (λ w. w ≡ result_word (place_at station channel) number l3) → IfOk r (λ w. w ≡ station_word station read)
measured_is station channel number l3 read r is e =
    let same : result_word (place_at station channel) number l3 ≡ rsl_word station (rsl.MeasurementResult is.message) =
    same_result station is.message channel number l3 is.channel_is is.number_is is.l3_is in
    let back : station_word station read ≡ rsl_word station (rsl.MeasurementResult is.message) = ap (station_word station) is.reads in
    if_known (λ (w : Word). w ≡ station_word station read) r (result_word (place_at station channel) number l3) e (same ∙ sym back)

pub measured_carried : {F : Type 0} (station channel number : ℕ) (l3 : Option (List ℕ)) (r : Result Word F) → station ≢ SWITCH_LINK →
    IfOk r (λ w. w ≡ result_word (place_at station channel) number l3) → IfOk r IsCarriedWord
measured_carried station channel number l3 r ne e = if_known IsCarriedWord r (result_word (place_at station channel) number l3) e (result_suits station channel number l3 ne).0

pub measured_comes : {F : Type 0} (station channel number : ℕ) (l3 : Option (List ℕ)) (r : Result Word F) → station ≢ SWITCH_LINK →
    IfOk r (λ w. w ≡ result_word (place_at station channel) number l3) → IfOk r (IsFromSource station)
measured_comes station channel number l3 r ne e = if_known (IsFromSource station) r (result_word (place_at station channel) number l3) e (result_suits station channel number l3 ne).1
