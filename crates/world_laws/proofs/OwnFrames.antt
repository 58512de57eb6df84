-- SPDX-License-Identifier: MIT OR Apache-2.0
-- The controller handles a frame for the connection that it says an input to.
use Rattle.world_laws.proofs.Prelude.{◌≡◌, ℕ, ◌==◌, ◌&&◌, not, Bool, true, false, if◌then◌else◌, List, [], ◌∷◌, Option, Some, None, Ok, Err}
use Rattle.world_laws.proofs.Prelude.{refl, sym, ap, ◌∙◌, result_ok, eqb-true, Bssap, Management, Transfer, Bssmap, InterfaceFault, Sccp}
use Rattle.world_laws.proofs.Prelude.{bssap_reading, Place, SWITCH_LINK, Input, Word, Nothing, Ping, OnChannel, OnConnection}
use Rattle.world_laws.proofs.Prelude.{management_word, bssap_word, switch_word, station_word, management_of_link, body_word}
use Rattle.world_laws.proofs.Prelude.{radio_signalling, connection_control, link_management, other, Frame, RSL_STREAM, SCCP_STREAM}
use Rattle.world_laws.proofs.Prelude.{CCM_STREAM, PING, RslFault, Rsl, rsl_reading, acknowledged_tenure, rsl_in, Actors, true≢false, Result}
use Rattle.world_laws.proofs.Prelude.{sccp_reading, Carried, brings_if}
use Rattle.bssmap_codec.specs.declared.bssmap.Bssmap.TheVariants as bssmap
use Rattle.bssmap_codec.specs.declared.sccp.Sccp.TheVariants as sccp
use Rattle.controller_model.specs.Reading.{word_of}
use Rattle.world_laws.specs.LineUp.Places.{Item}
use Rattle.world_laws.specs.OwnItem.{said_by, IsRead}
use Rattle.world_laws.proofs.OwnFrame.{IsPlain, TenureOf, SaysWord, message_says}

-- ---- what a frame says

-- of the message in it, where there is one
abbrev pub brings_read : ℕ → Option Rsl → Place → List Item
brings_read source o place = if source == place.station then brings_if place.number o else []

pub record ReadInput (source : ℕ) (o : Option Rsl) (input : Input) : Type 0 where
  pub text : List ℕ
  pub read : IsRead input text
  pub brings_it : (place : Place) → (if source == place.station then brings_if place.number o else []) ≡ said_by input text place
  pub acknowledges : (w : Actors) → TenureOf w input (acknowledged_tenure w source o)

abbrev pub ReadWord : ℕ → Option Rsl → Word → Type 0
ReadWord source o (OnChannel at input) = IsPlain input → ReadInput source o input
ReadWord source o (OnConnection number input) = ReadInput source o input
ReadWord source o _ = Unit {0}

of_message : (source : ℕ) (message : Rsl) (word : Word) → SaysWord source message word → ReadWord source (Some message) word
of_message source message (OnChannel at input) says = λ plain. let it = says plain in record { text = it.text; read = it.read; brings_it = it.brings_it; acknowledges = it.acknowledges }
of_message source message (OnConnection number input) says = absurd says
of_message source message _ says = tt

of_station : (source : ℕ) (r : Result Rsl RslFault) → ReadWord source (result_ok r) (station_word source r)
of_station source (Ok message) = of_message source message _ (message_says source message)
of_station source (Err fault) = tt

-- the switch brings nothing of a channel
nothing_brought : (source : ℕ) (input : Input) →
    IsRead input [] →
    ((place : Place) → said_by input [] place ≡ []) →
    ((w : Actors) → TenureOf w input None) →
    ReadInput source None input
nothing_brought source input read said none = record { text = []; read = read; brings_it = λ place. nowhere place (source == place.station) ∙ sym (said place); acknowledges = none } where
  nowhere : (place : Place) (b : Bool) → (if b then brings_if place.number None else []) ≡ []
  nowhere place true = refl
  nowhere place false = refl

of_management : (source number : ℕ) (message : Bssmap) → ReadWord source None (management_word number message)
of_management source number (bssmap.AssignmentRequest channel_type) = nothing_brought source _ tt (λ place. refl) (λ w. refl)
of_management source number (bssmap.ClearCommand cause) = nothing_brought source _ tt (λ place. refl) (λ w. refl)
of_management source number bssmap.CipherModeCommand = nothing_brought source _ tt (λ place. refl) (λ w. refl)
of_management source number _ = tt

of_bssap : (source number : ℕ) (r : Result Bssap InterfaceFault) → ReadWord source None (bssap_word number r)
of_bssap source number (Ok (Management message)) = of_management source number message
of_bssap source number (Ok (Transfer dlci message)) = nothing_brought source _ tt (λ place. refl) (λ w. refl)
of_bssap source number (Err fault) = tt

of_switch : (source : ℕ) (r : Result Sccp InterfaceFault) → ReadWord source None (switch_word r)
of_switch source (Ok (sccp.ConnectionConfirm destination number)) = nothing_brought source _ tt (λ place. refl) (λ w. refl)
of_switch source (Ok (sccp.ConnectionRefused destination)) = nothing_brought source _ tt (λ place. refl) (λ w. refl)
of_switch source (Ok (sccp.Released destination number)) = nothing_brought source _ tt (λ place. refl) (λ w. refl)
of_switch source (Ok (sccp.DataForm1 destination user)) = of_bssap source destination (bssap_reading user)
of_switch source _ = tt

of_link : (source : ℕ) (o : Option Rsl) (body : List ℕ) → ReadWord source o (management_of_link body)
of_link source o [] = tt
of_link source o (first ∷ rest) = by (first == PING) where
  by : (b : Bool) → ReadWord source o (if b then Ping else Nothing)
  by true = tt
  by false = tt

-- by what the stream is
abbrev pub carried_by : Bool → Bool → Bool → Bool → Carried
carried_by management switch control signalling = if management then link_management else if switch && control then connection_control else if not switch && signalling then radio_signalling else other

pub control_only : (stream : ℕ) → (stream == SCCP_STREAM) ≡ true → (stream == RSL_STREAM) ≡ false
control_only stream is = ap (λ (n : ℕ). n == RSL_STREAM) (eqb-true stream SCCP_STREAM is)

pub of_frame : (source : ℕ) (frame : Frame) → ReadWord source (rsl_in frame) (word_of source frame)
unfolding word_of
of_frame source frame = by (frame.stream == CCM_STREAM) (source == SWITCH_LINK) (frame.stream == SCCP_STREAM) (frame.stream == RSL_STREAM) refl (control_only frame.stream) where
  by : (a b c d : Bool) →
      (frame.stream == RSL_STREAM) ≡ d →
      (c ≡ true → (frame.stream == RSL_STREAM) ≡ false) →
      ReadWord source (if d then result_ok (rsl_reading frame.body) else None) (body_word (carried_by a b c d) source frame.body)
  by true b c d is alone = of_link source (if d then result_ok (rsl_reading frame.body) else None) frame.body
  by false true true true is alone = absurd (true≢false (sym is ∙ alone refl))
  by false true true false is alone = of_switch source (sccp_reading frame.body)
  by false true false d is alone = tt
  by false false c true is alone = of_station source (rsl_reading frame.body)
  by false false c false is alone = tt
