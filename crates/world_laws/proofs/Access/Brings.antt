-- SPDX-License-Identifier: MIT OR Apache-2.0
-- A frame that says an ESTABLISH INDICATION with an initial message brings that message.
use Rattle.world_laws.proofs.Prelude.{◌≡◌, ℕ, ◌==◌, Bool, true, false, if◌then◌else◌, List, [], ◌∷◌, Option, Some, None, Ok, Err, refl}
use Rattle.world_laws.proofs.Prelude.{sym, ◌∙◌, result_ok, Bssap, Management, Bssmap, InterfaceFault, Sccp, bssap_reading}
use Rattle.world_laws.proofs.Prelude.{Place, SWITCH_LINK, Input, is_dtap, Word, Nothing, Ping, OnChannel, OnConnection, Reports, place_at}
use Rattle.world_laws.proofs.Prelude.{sapi_of, of_sapi, change_word, data_word, report_word, result_word, rsl_word, management_word}
use Rattle.world_laws.proofs.Prelude.{bssap_word, switch_word, station_word, management_of_link, body_word, report_reading, RrMessage}
use Rattle.world_laws.proofs.Prelude.{AssignmentComplete, HandoverComplete, AssignmentFailure, HandoverFailure, MeasurementReport}
use Rattle.world_laws.proofs.Prelude.{RrFault, Sapi, Zero, Three, Frame, RSL_STREAM, SCCP_STREAM, CCM_STREAM, PING, RslFault}
use Rattle.world_laws.proofs.Prelude.{Establishment, Rsl, rsl_reading, rsl_in, true≢false, Result, sccp_reading, rr_reading}
use Rattle.bssmap_codec.specs.declared.bssmap.Bssmap.TheVariants as bssmap
use Rattle.bssmap_codec.specs.declared.sccp.Sccp.TheVariants as sccp
use Rattle.conn_rules.specs.declared.input.Input.TheVariants as inputs
use Rattle.controller_model.specs.Reading.{word_of}
use Rattle.rsl_codec.specs.declared.rsl.Rsl.TheVariants as rsl
use Rattle.world_laws.proofs.OwnFrames.{carried_by, control_only}

-- it says one with an initial message only where it is one
abbrev pub Establishes : ℕ → Option Rsl → Word → Type 0
Establishes source o (OnChannel holds (inputs.EstablishIndication at Zero (Some initial))) =
    (e : Establishment) × (o ≡ Some (rsl.EstablishIndication e)) × (sapi_of e.link ≡ Some Zero) × (e.l3 ≡ Some initial) × (at ≡ place_at source e.channel)
Establishes source o (OnConnection number (inputs.EstablishIndication at sapi message)) = ⊥
Establishes source o _ = Unit {0}

of_link_sapi : (station : ℕ) (m : Rsl) (at : Place) (sapi : Option Sapi) (input : Sapi → Input) →
    ((s : Sapi) → Establishes station (Some m) (OnChannel at (input s))) →
    Establishes station (Some m) (of_sapi at sapi input)
of_link_sapi station m at None input all = tt
of_link_sapi station m at (Some sapi) input all = all sapi

establishing : (station : ℕ) (e : Establishment) (sapi : Option Sapi) (l3 : Option (List ℕ)) →
    sapi_of e.link ≡ sapi →
    e.l3 ≡ l3 →
    Establishes station (Some (rsl.EstablishIndication e)) (of_sapi (place_at station e.channel) sapi (λ s. inputs.EstablishIndication (place_at station e.channel) s l3))
establishing station e None l3 is some = tt
establishing station e (Some Three) l3 is some = tt
establishing station e (Some Zero) None is some = tt
establishing station e (Some Zero) (Some initial) is some = (e, refl, is, some, refl)

changing : (station : ℕ) (m : Rsl) (at : Place) (r : Result RrMessage RrFault) → Establishes station (Some m) (change_word at r)
changing station m at (Ok (AssignmentComplete cause)) = tt
changing station m at (Ok (HandoverComplete cause)) = tt
changing station m at (Ok (AssignmentFailure cause)) = tt
changing station m at (Ok (HandoverFailure cause)) = tt
changing station m at (Ok _) = tt
changing station m at (Err fault) = tt

with_data : (station : ℕ) (m : Rsl) (b : Bool) (at : Place) (sapi : Option Sapi) (l3 : List ℕ) →
    Establishes station (Some m) (data_word b at sapi l3)
with_data station m true at None l3 = tt
with_data station m true at (Some sapi) l3 = tt
with_data station m false at None l3 = tt
with_data station m false at (Some Three) l3 = tt
with_data station m false at (Some Zero) l3 = changing station m at (rr_reading l3)

measured : (station : ℕ) (m : Rsl) (at : Place) (number : ℕ) (l3 : Option (List ℕ)) →
    Establishes station (Some m) (result_word at number l3)
measured station m at number None = tt
measured station m at number (Some l3) = by (rr_reading l3) where
  by : (r : Result RrMessage RrFault) → Establishes station (Some m) (report_word at number r)
  by (Ok (MeasurementReport value)) = valid (report_reading value).valid where
    valid : (b : Bool) → Establishes station (Some m) (if b then Reports at number (report_reading value) else Nothing)
    valid true = tt
    valid false = tt
  by _ = tt

of_message : (station : ℕ) (m : Rsl) → Establishes station (Some m) (rsl_word station m)
of_message station (rsl.EstablishIndication e) = establishing station e (sapi_of e.link) e.l3 refl refl
of_message station (rsl.EstablishConfirm l) = of_link_sapi station (rsl.EstablishConfirm l) (place_at station l.channel) (sapi_of l.link) (λ s. inputs.EstablishConfirm (place_at station l.channel) s) (λ s. tt)
of_message station (rsl.ReleaseIndication l) = of_link_sapi station (rsl.ReleaseIndication l) (place_at station l.channel) (sapi_of l.link) (λ s. inputs.ReleaseIndication (place_at station l.channel) s) (λ s. tt)
of_message station (rsl.ErrorIndication e) = of_link_sapi station (rsl.ErrorIndication e) (place_at station e.channel) (sapi_of e.link) (λ s. inputs.ErrorIndication (place_at station e.channel) s) (λ s. tt)
of_message station (rsl.DataIndication d) = with_data station (rsl.DataIndication d) (is_dtap d.l3) (place_at station d.channel) (sapi_of d.link) d.l3
of_message station (rsl.MeasurementResult m) = measured station (rsl.MeasurementResult m) (place_at station m.channel) m.number.0 m.l3
of_message station _ = tt

of_station : (source : ℕ) (r : Result Rsl RslFault) → Establishes source (result_ok r) (station_word source r)
of_station source (Ok message) = of_message source message
of_station source (Err fault) = tt

of_management : (source number : ℕ) (o : Option Rsl) (message : Bssmap) → Establishes source o (management_word number message)
of_management source number o (bssmap.AssignmentRequest channel_type) = tt
of_management source number o _ = tt

of_bssap : (source number : ℕ) (o : Option Rsl) (r : Result Bssap InterfaceFault) → Establishes source o (bssap_word number r)
of_bssap source number o (Ok (Management message)) = of_management source number o message
of_bssap source number o _ = tt

of_switch : (source : ℕ) (o : Option Rsl) (r : Result Sccp InterfaceFault) → Establishes source o (switch_word r)
of_switch source o (Ok (sccp.DataForm1 destination user)) = of_bssap source destination o (bssap_reading user)
of_switch source o _ = tt

of_link : (source : ℕ) (o : Option Rsl) (body : List ℕ) → Establishes source o (management_of_link body)
of_link source o [] = tt
of_link source o (first ∷ rest) = by (first == PING) where
  by : (b : Bool) → Establishes source o (if b then Ping else Nothing)
  by true = tt
  by false = tt

pub frame_establishes : (source : ℕ) (frame : Frame) → Establishes source (rsl_in frame) (word_of source frame)
unfolding word_of
frame_establishes source frame = by (frame.stream == CCM_STREAM) (source == SWITCH_LINK) (frame.stream == SCCP_STREAM) (frame.stream == RSL_STREAM) refl (control_only frame.stream) where
  by : (a b c d : Bool) →
      (frame.stream == RSL_STREAM) ≡ d →
      (c ≡ true → (frame.stream == RSL_STREAM) ≡ false) →
      Establishes source (if d then result_ok (rsl_reading frame.body) else None) (body_word (carried_by a b c d) source frame.body)
  by true b c d is alone = of_link source (if d then result_ok (rsl_reading frame.body) else None) frame.body
  by false true true true is alone = absurd (true≢false (sym is ∙ alone refl))
  by false true true false is alone = of_switch source None (sccp_reading frame.body)
  by false true false d is alone = tt
  by false false c true is alone = of_station source (rsl_reading frame.body)
  by false false c false is alone = tt
