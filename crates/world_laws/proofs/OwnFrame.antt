-- SPDX-License-Identifier: MIT OR Apache-2.0
-- What a frame brings is what it says to its connection.
use Rattle.world_laws.proofs.Prelude.{◌≡◌, ℕ, ◌==◌, ◌&&◌, not, nat_eq, Bool, true, false, if◌then◌else◌, List, [], ◌∷◌, Option, Some, None}
use Rattle.world_laws.proofs.Prelude.{Ok, refl, ap, ◌∙◌, Place, Input, is_dtap, Word, Nothing, OnChannel, OnConnection, Reports}
use Rattle.world_laws.proofs.Prelude.{place_at, sapi_of, of_sapi, change_word, data_word, report_word, result_word, rsl_word}
use Rattle.world_laws.proofs.Prelude.{report_reading, RrMessage, AssignmentComplete, HandoverComplete, AssignmentFailure, HandoverFailure}
use Rattle.world_laws.proofs.Prelude.{MeasurementReport, RrFault, Sapi, Zero, Three, is_control, Establishment, Rsl, Tenure}
use Rattle.world_laws.proofs.Prelude.{acknowledged_tenure, Actors, tenure_at, same_place, Result, rr_reading, released, brings, of_main}
use Rattle.world_laws.proofs.Prelude.{of_establishment}
use Rattle.conn_rules.specs.declared.input.Input.TheVariants as inputs
use Rattle.world_laws.specs.LineUp.Places.{Item}
use Rattle.world_laws.specs.LineUp.Places.Item.{brought}
use Rattle.rsl_codec.specs.declared.radio_link.Data.{Data}
use Rattle.rsl_codec.specs.declared.rsl.Rsl.TheVariants as rsl
use Rattle.world_laws.specs.OwnItem.{said_by, IsRead}
use Rattle.world_laws.proofs.Apart.{eqb_sym}

-- of a station
abbrev pub brings_of : ℕ → Rsl → Place → List Item
brings_of station message place = if station == place.station then brings place.number message else []

-- the initial message is no message of radio resource management
abbrev pub IsPlain : Input → Type 0
IsPlain (inputs.EstablishIndication at Zero (Some initial)) = is_control initial ≡ false
IsPlain _ = Unit {0}

-- an ACTIVATION ACK begins its channel's tenure
abbrev pub TenureOf : Actors → Input → Option Tenure → Type 0
TenureOf w (inputs.ActivationAck at) o = o ≡ Some (tenure_at w at)
TenureOf w _ o = o ≡ None

pub record SaysInput (station : ℕ) (message : Rsl) (input : Input) : Type 0 where
  pub text : List ℕ
  pub read : IsRead input text
  pub brings_it : (place : Place) → brings_of station message place ≡ said_by input text place
  pub acknowledges : (w : Actors) → TenureOf w input (acknowledged_tenure w station (Some message))

abbrev pub SaysWord : ℕ → Rsl → Word → Type 0
SaysWord station message (OnChannel at input) = IsPlain input → SaysInput station message input
SaysWord station message (OnConnection number input) = ⊥
SaysWord station message _ = Unit {0}

-- on one place
pub one_place : (station channel : ℕ) (items : List Item) (place : Place) →
    (if station == place.station then (if channel == place.number then items else []) else []) ≡ (if same_place place (place_at station channel) then items else [])
one_place station channel items place =
    both (nat_eq station place.station) (nat_eq channel place.number)
    ∙ ap (λ (b : Bool). if (b && nat_eq channel place.number) then items else []) (eqb_sym station place.station)
    ∙ ap (λ (b : Bool). if (nat_eq place.station station && b) then items else []) (eqb_sym channel place.number) where
      both : (a b : Bool) → (if a then (if b then items else []) else []) ≡ (if (a && b) then items else [])
      both true b = refl
      both false b = refl

abbrev no_items : List Item
no_items = []

none_there : (b c : Bool) → (if b then (if c then no_items else no_items) else no_items) ≡ no_items
none_there true true = refl
none_there _ _ = refl

nowhere : (b : Bool) → (if b then no_items else no_items) ≡ no_items
nowhere true = refl
nowhere false = refl

-- ---- message by message

-- whether a message is of radio resource management
pub control_or : (l3 : List ℕ) → is_control l3 ≡ not (is_dtap l3)
control_or [] = refl
control_or (first ∷ rest) = by (is_control (first ∷ rest)) where
  by : (b : Bool) → b ≡ not (not b)
  by true = refl
  by false = refl

establish_says : (station : ℕ) (e : Establishment) (sapi : Option Sapi) →
    sapi_of e.link ≡ sapi →
    SaysWord station (rsl.EstablishIndication e) (of_sapi (place_at station e.channel) sapi (λ s. inputs.EstablishIndication (place_at station e.channel) s e.l3))
establish_says station e None is = tt
establish_says station e (Some Three) is = λ plain. record {
  text = [];
  read = tt;
  brings_it = λ place. ap (λ (o : Option Sapi). if station == place.station then (if e.channel == place.number then of_establishment o e.l3 else []) else []) is ∙ ap (λ (xs : List Item). if station == place.station then (if e.channel == place.number then xs else []) else []) (nothing e.l3) ∙ none_there (station == place.station) (e.channel == place.number);
  acknowledges = λ w. refl;
} where
  nothing : (o : Option (List ℕ)) → of_establishment (Some Three) o ≡ []
  nothing None = refl
  nothing (Some l3) = refl
establish_says station e (Some Zero) is = by e.l3 refl where
  by : (o : Option (List ℕ)) →
      e.l3 ≡ o →
      IsPlain (inputs.EstablishIndication (place_at station e.channel) Zero o) →
      SaysInput station (rsl.EstablishIndication e) (inputs.EstablishIndication (place_at station e.channel) Zero o)
  by None none plain = record {
    text = [];
    read = tt;
    brings_it = λ place. ap (λ (o : Option Sapi). if station == place.station then (if e.channel == place.number then of_establishment o e.l3 else []) else []) is ∙ ap (λ (o : Option (List ℕ)). if station == place.station then (if e.channel == place.number then of_establishment (Some Zero) o else []) else []) none ∙ none_there (station == place.station) (e.channel == place.number);
    acknowledges = λ w. refl;
  }
  by (Some initial) some plain = record {
    text = [];
    read = plain;
    brings_it = λ place. ap (λ (o : Option Sapi). if station == place.station then (if e.channel == place.number then of_establishment o e.l3 else []) else []) is ∙ ap (λ (o : Option (List ℕ)). if station == place.station then (if e.channel == place.number then of_establishment (Some Zero) o else []) else []) some ∙ one_place station e.channel (brought initial ∷ []) place;
    acknowledges = λ w. refl;
  }

change_says : (station : ℕ) (d : Data) (r : Result RrMessage RrFault) →
    sapi_of d.link ≡ Some Zero →
    is_control d.l3 ≡ true →
    SaysWord station (rsl.DataIndication d) (change_word (place_at station d.channel) r)
change_says station d r is control = by r where
  here : (place : Place) →
      brings_of station (rsl.DataIndication d) place ≡ (if same_place place (place_at station d.channel) then brought d.l3 ∷ [] else [])
  here place = ap (λ (o : Option Sapi). if station == place.station then (if d.channel == place.number then of_main o d.l3 else []) else []) is ∙ one_place station d.channel (brought d.l3 ∷ []) place

  by : (r : Result RrMessage RrFault) → SaysWord station (rsl.DataIndication d) (change_word (place_at station d.channel) r)
  by (Ok (AssignmentComplete cause)) = λ plain. record { text = d.l3; read = control; brings_it = here; acknowledges = λ w. refl }
  by (Ok (HandoverComplete cause)) = λ plain. record { text = d.l3; read = control; brings_it = here; acknowledges = λ w. refl }
  by (Ok (AssignmentFailure cause)) = λ plain. record { text = d.l3; read = control; brings_it = here; acknowledges = λ w. refl }
  by (Ok (HandoverFailure cause)) = λ plain. record { text = d.l3; read = control; brings_it = here; acknowledges = λ w. refl }
  by _ = tt

data_says : (station : ℕ) (d : Data) (b : Bool) (sapi : Option Sapi) →
    is_dtap d.l3 ≡ b →
    sapi_of d.link ≡ sapi →
    SaysWord station (rsl.DataIndication d) (data_word b (place_at station d.channel) sapi d.l3)
data_says station d true (Some Zero) dtap is = λ plain. record {
  text = [];
  read = control_or d.l3 ∙ ap not dtap;
  brings_it = λ place. ap (λ (o : Option Sapi). if station == place.station then (if d.channel == place.number then of_main o d.l3 else []) else []) is ∙ one_place station d.channel (brought d.l3 ∷ []) place;
  acknowledges = λ w. refl;
}
data_says station d true (Some Three) dtap is = λ plain. record {
  text = [];
  read = tt;
  brings_it = λ place. ap (λ (o : Option Sapi). if station == place.station then (if d.channel == place.number then of_main o d.l3 else []) else []) is ∙ none_there (station == place.station) (d.channel == place.number);
  acknowledges = λ w. refl;
}
data_says station d false (Some Zero) dtap is = change_says station d (rr_reading d.l3) is (control_or d.l3 ∙ ap not dtap)
data_says station d _ _ dtap is = tt

measured_says : (station : ℕ) (message : Rsl) (place : Place) (number : ℕ) (l3 : Option (List ℕ)) →
    SaysWord station message (result_word place number l3)
measured_says station message place number None = tt
measured_says station message place number (Some l3) = by (rr_reading l3) where
  by : (r : Result RrMessage RrFault) → SaysWord station message (report_word place number r)
  by (Ok (MeasurementReport value)) = valid (report_reading value).valid where
    valid : (b : Bool) → SaysWord station message (if b then Reports place number (report_reading value) else Nothing)
    valid true = tt
    valid false = tt
  by _ = tt

link_says : (station : ℕ) (message : Rsl) (at : Place) (sapi : Option Sapi) (input : Sapi → Input) →
    ((s : Sapi) → SaysInput station message (input s)) →
    SaysWord station message (of_sapi at sapi input)
link_says station message at None input says = tt
link_says station message at (Some sapi) input says = λ plain. says sapi

pub message_says : (station : ℕ) (message : Rsl) → SaysWord station message (rsl_word station message)
message_says station (rsl.ChannelActivationAck a) = λ plain. record { text = []; read = tt; brings_it = λ place. nowhere (station == place.station); acknowledges = λ w. refl }
message_says station (rsl.ChannelActivationNack f) = λ plain. record { text = []; read = tt; brings_it = λ place. nowhere (station == place.station); acknowledges = λ w. refl }
message_says station (rsl.EstablishIndication e) = establish_says station e (sapi_of e.link) refl
message_says station (rsl.EstablishConfirm l) =
    link_says station (rsl.EstablishConfirm l) (place_at station l.channel) (sapi_of l.link) (λ s. inputs.EstablishConfirm (place_at station l.channel) s) (λ s. record { text = []; read = tt; brings_it = λ place. nowhere (station == place.station); acknowledges = λ w. refl })
message_says station (rsl.ReleaseIndication l) =
    link_says station (rsl.ReleaseIndication l) (place_at station l.channel) (sapi_of l.link) (λ s. inputs.ReleaseIndication (place_at station l.channel) s) (λ s. record { text = []; read = tt; brings_it = λ place. nowhere (station == place.station); acknowledges = λ w. refl })
message_says station (rsl.ErrorIndication e) =
    link_says station (rsl.ErrorIndication e) (place_at station e.channel) (sapi_of e.link) (λ s. inputs.ErrorIndication (place_at station e.channel) s) (λ s. record { text = []; read = tt; brings_it = λ place. nowhere (station == place.station); acknowledges = λ w. refl })
message_says station (rsl.ConnectionFailure f) = λ plain. record { text = []; read = tt; brings_it = λ place. nowhere (station == place.station); acknowledges = λ w. refl }
message_says station (rsl.DataIndication d) = data_says station d (is_dtap d.l3) (sapi_of d.link) refl refl
message_says station (rsl.MeasurementResult m) = measured_says station (rsl.MeasurementResult m) (place_at station m.channel) m.number.0 m.l3
message_says station (rsl.RfChannelReleaseAck channel) = λ plain. record { text = []; read = tt; brings_it = λ place. one_place station channel (released ∷ []) place; acknowledges = λ w. refl }
message_says station _ = tt
