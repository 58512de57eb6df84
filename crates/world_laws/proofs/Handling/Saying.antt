-- SPDX-License-Identifier: MIT OR Apache-2.0
-- What the message of a station says to the controller, and what it brings of channels.
use Rattle.world_laws.proofs.Prelude.{◌≡◌, ◌≢◌, ℕ, ◌==◌, not, Bool, true, false, if◌then◌else◌, List, [], ◌∷◌, Option, Some, None, Ok, refl}
use Rattle.world_laws.proofs.Prelude.{sym, ap, ◌∙◌, subst, inl, inr, Place, SWITCH_LINK, Input, is_dtap, Word, Nothing, OnChannel}
use Rattle.world_laws.proofs.Prelude.{OnConnection, Reports, place_at, change_word, data_word, of_sapi, report_word, result_word, rsl_word}
use Rattle.world_laws.proofs.Prelude.{sapi_of, report_reading, RrMessage, AssignmentComplete, AssignmentFailure, HandoverComplete}
use Rattle.world_laws.proofs.Prelude.{HandoverFailure, MeasurementReport, RrFault, Sapi, Three, Zero, Frame, is_control, is_control_apart}
use Rattle.world_laws.proofs.Prelude.{Establishment, Rsl, acknowledged_tenure, Tenure, rsl_in, Actors, IsKnown, IsKnownItem, Result}
use Rattle.world_laws.proofs.Prelude.{word_of, rr_reading, messages_in, brings, of_establishment, of_main, initial_by}
use Rattle.std.proofs.Common.{eq-eqb}
use Rattle.conn_rules.specs.declared.input.Input.TheVariants as inputs
use Rattle.world_laws.specs.LineUp.Places.{Item}
use Rattle.world_laws.specs.LineUp.Places.Item.{brought}
use Rattle.ruled_relay.specs.declared.item.What.TheVariants as whats
use Rattle.rsl_codec.specs.declared.radio_link.Data.{Data}
use Rattle.rsl_codec.specs.declared.rsl.Rsl.TheVariants as rsl
use Rattle.world_laws.specs.OwnItem.{said_by}
use Rattle.world_laws.proofs.OrderHeard.{read_known, word_known}
use Rattle.world_laws.proofs.OwnFrame.{IsPlain, SaysInput, SaysWord, brings_of, message_says, control_or, one_place}
use Rattle.world_laws.proofs.Handling.Dropped.{AreBeside}
use Rattle.world_laws.proofs.OwnFrames.{brings_read}
use Rattle.world_laws.proofs.OwnerRun.{source_or}

-- ---- what is said of a message

-- it brings nothing of the flow, and begins no tenure
pub record IsQuiet (source : ℕ) (m : Rsl) : Type 0 where
  pub brings_none : (place : Place) → AreBeside (brings_of source m place)
  pub begins : (w : Actors) → acknowledged_tenure w source (Some m) ≡ None

-- COMPLETE and FAILURE are of radio resource management
abbrev pub IsControl : Input → List ℕ → Type 0
IsControl (inputs.Complete at change cause) text = is_control text ≡ true
IsControl (inputs.Failure at change cause) text = is_control text ≡ true
IsControl _ text = Unit {0}

-- the initial message is one
abbrev pub IsInitial : Rsl → Input → Type 0
IsInitial m (inputs.EstablishIndication at Zero (Some initial)) = initial_by at.number m ≡ initial ∷ []
IsInitial m _ = Unit {0}

-- it brings what the input says
pub record SaysOn (source : ℕ) (m : Rsl) (input : Input) : Type 0 where
  pub text : List ℕ
  pub brings_it : (place : Place) → brings_of source m place ≡ said_by input text place
  pub control : IsControl input text
  pub initial : IsInitial m input

abbrev pub SaysUp : ℕ → Rsl → Word → Type 0
SaysUp source m (OnChannel at input) = SaysOn source m input
SaysUp source m (OnConnection number input) = ⊥
SaysUp source m _ = IsQuiet source m

-- ---- on a place

if_beside : (a b : Bool) (items : List Item) → AreBeside items → AreBeside (if a then (if b then items else []) else [])
if_beside true true items beside = beside
if_beside true false items beside = tt
if_beside false b items beside = tt

none_beside : (a : Bool) (items : List Item) → items ≡ [] → AreBeside (if a then items else [])
none_beside true items none = subst AreBeside (sym none) tt
none_beside false items none = tt

-- ---- message by message

read_control : (input : Input) (text : List ℕ) (source : ℕ) (m : Rsl) (says : SaysInput source m input) → IsControl input says.text
read_control (inputs.Complete at change cause) text source m says = says.read
read_control (inputs.Failure at change cause) text source m says = says.read
read_control _ text source m says = tt

from_says : {source : ℕ} {m : Rsl} {input : Input} → SaysInput source m input → IsInitial m input → SaysOn source m input
from_says {source} {m} {input} says initial = record { text = says.text; brings_it = says.brings_it; control = read_control input says.text source m says; initial = initial }

establish_up : (source : ℕ) (e : Establishment) (sapi : Option Sapi) →
    sapi_of e.link ≡ sapi →
    SaysUp source (rsl.EstablishIndication e) (of_sapi (place_at source e.channel) sapi (λ s. inputs.EstablishIndication (place_at source e.channel) s e.l3))
establish_up source e None is = record {
  brings_none = λ place. if_beside (source == place.station) (e.channel == place.number) (of_establishment (sapi_of e.link) e.l3) (subst (λ (o : Option Sapi). AreBeside (of_establishment o e.l3)) (sym is) (none e.l3));
  begins = λ w. refl;
} where
  none : (o : Option (List ℕ)) → AreBeside (of_establishment None o)
  none None = tt
  none (Some l3) = tt
establish_up source e (Some Three) is =
    from_says (subst (λ (o : Option Sapi). SaysWord source (rsl.EstablishIndication e) (of_sapi (place_at source e.channel) o (λ s. inputs.EstablishIndication (place_at source e.channel) s e.l3))) is (message_says source (rsl.EstablishIndication e)) tt) tt
establish_up source e (Some Zero) is = by e.l3 refl where
  by : (o : Option (List ℕ)) →
      e.l3 ≡ o →
      SaysOn source (rsl.EstablishIndication e) (inputs.EstablishIndication (place_at source e.channel) Zero o)
  by None none = record {
    text = [];
    brings_it = λ place. ap (λ (o : Option Sapi). if source == place.station then (if e.channel == place.number then of_establishment o e.l3 else []) else []) is ∙ ap (λ (o : Option (List ℕ)). if source == place.station then (if e.channel == place.number then of_establishment (Some Zero) o else []) else []) none
        ∙ nowhere (source == place.station) (e.channel == place.number);
    control = tt;
    initial = tt;
  } where
    nowhere : (a b : Bool) → (if a then (if b then (let xs : List Item = [] in xs) else []) else []) ≡ []
    nowhere true true = refl
    nowhere _ _ = refl
  by (Some initial) some = record {
    text = [];
    brings_it = λ place. ap (λ (o : Option Sapi). if source == place.station then (if e.channel == place.number then of_establishment o e.l3 else []) else []) is ∙ ap (λ (o : Option (List ℕ)). if source == place.station then (if e.channel == place.number then of_establishment (Some Zero) o else []) else []) some
        ∙ one_place source e.channel (brought initial ∷ []) place;
    control = tt;
    initial = ap (λ (b : Bool). if b then messages_in (of_establishment (sapi_of e.link) e.l3) else []) (eq-eqb e.channel e.channel refl) ∙ ap (λ (o : Option Sapi). messages_in (of_establishment o e.l3)) is ∙ ap (λ (o : Option (List ℕ)). messages_in (of_establishment (Some Zero) o)) some;
  }

-- what is so, on SAPI 0
main_beside : (sapi : Option Sapi) (l3 : List ℕ) → is_control l3 ≡ true → AreBeside (of_main sapi l3)
main_beside (Some Zero) l3 control = (is_control_apart l3 control, tt)
main_beside _ l3 control = tt

data_quiet : (source : ℕ) (d : Data) → AreBeside (of_main (sapi_of d.link) d.l3) → IsQuiet source (rsl.DataIndication d)
data_quiet source d beside = record { brings_none = λ place. if_beside (source == place.station) (d.channel == place.number) (of_main (sapi_of d.link) d.l3) beside; begins = λ w. refl }

change_up : (source : ℕ) (d : Data) (r : Result RrMessage RrFault) →
    IsQuiet source (rsl.DataIndication d) →
    SaysWord source (rsl.DataIndication d) (change_word (place_at source d.channel) r) →
    SaysUp source (rsl.DataIndication d) (change_word (place_at source d.channel) r)
change_up source d (Ok (AssignmentComplete cause)) quiet says = from_says (says tt) tt
change_up source d (Ok (HandoverComplete cause)) quiet says = from_says (says tt) tt
change_up source d (Ok (AssignmentFailure cause)) quiet says = from_says (says tt) tt
change_up source d (Ok (HandoverFailure cause)) quiet says = from_says (says tt) tt
change_up source d _ quiet says = quiet

data_up : (source : ℕ) (d : Data) (b : Bool) (sapi : Option Sapi) →
    is_dtap d.l3 ≡ b →
    sapi_of d.link ≡ sapi →
    SaysWord source (rsl.DataIndication d) (data_word b (place_at source d.channel) sapi d.l3) →
    SaysUp source (rsl.DataIndication d) (data_word b (place_at source d.channel) sapi d.l3)
data_up source d true None dtap is says = data_quiet source d (subst (λ (o : Option Sapi). AreBeside (of_main o d.l3)) (sym is) tt)
data_up source d true (Some Zero) dtap is says = from_says (says tt) tt
data_up source d true (Some Three) dtap is says = from_says (says tt) tt
data_up source d false None dtap is says = data_quiet source d (main_beside (sapi_of d.link) d.l3 (control_or d.l3 ∙ ap not dtap))
data_up source d false (Some Three) dtap is says = data_quiet source d (main_beside (sapi_of d.link) d.l3 (control_or d.l3 ∙ ap not dtap))
data_up source d false (Some Zero) dtap is says = change_up source d (rr_reading d.l3) (data_quiet source d (main_beside (sapi_of d.link) d.l3 (control_or d.l3 ∙ ap not dtap))) says

measured_up : (source : ℕ) (m : Rsl) (place : Place) (number : ℕ) (l3 : Option (List ℕ)) →
    IsQuiet source m →
    SaysUp source m (result_word place number l3)
measured_up source m place number None quiet = quiet
measured_up source m place number (Some l3) quiet = by (rr_reading l3) where
  by : (r : Result RrMessage RrFault) → SaysUp source m (report_word place number r)
  by (Ok (MeasurementReport value)) = valid (report_reading value).valid where
    valid : (b : Bool) → SaysUp source m (if b then Reports place number (report_reading value) else Nothing)
    valid true = quiet
    valid false = quiet
  by _ = quiet

-- one that brings nothing at all
silent_quiet : (source : ℕ) (m : Rsl) →
    ((number : ℕ) → brings number m ≡ []) →
    ((w : Actors) → acknowledged_tenure w source (Some m) ≡ None) →
    IsQuiet source m
silent_quiet source m none begins = record { brings_none = λ place. none_beside (source == place.station) (brings place.number m) (none place.number); begins = begins }

link_up : (source : ℕ) (m : Rsl) (at : Place) (sapi : Option Sapi) (input : Sapi → Input) →
    IsQuiet source m →
    ((s : Sapi) → IsPlain (input s)) →
    ((s : Sapi) → IsInitial m (input s)) →
    SaysWord source m (of_sapi at sapi input) →
    SaysUp source m (of_sapi at sapi input)
link_up source m at None input quiet plain initial says = quiet
link_up source m at (Some s) input quiet plain initial says = from_says (says (plain s)) (initial s)

pub word_says : (source : ℕ) (m : Rsl) → SaysUp source m (rsl_word source m)
word_says source (rsl.ChannelActivationAck a) = from_says (message_says source (rsl.ChannelActivationAck a) tt) tt
word_says source (rsl.ChannelActivationNack f) = from_says (message_says source (rsl.ChannelActivationNack f) tt) tt
word_says source (rsl.EstablishIndication e) = establish_up source e (sapi_of e.link) refl
word_says source (rsl.EstablishConfirm l) =
    link_up source (rsl.EstablishConfirm l) (place_at source l.channel) (sapi_of l.link) (λ s. inputs.EstablishConfirm (place_at source l.channel) s) (silent_quiet source (rsl.EstablishConfirm l) (λ n. refl) (λ w. refl)) (λ s. tt) (λ s. tt) (message_says source (rsl.EstablishConfirm l))
word_says source (rsl.ReleaseIndication l) =
    link_up source (rsl.ReleaseIndication l) (place_at source l.channel) (sapi_of l.link) (λ s. inputs.ReleaseIndication (place_at source l.channel) s) (silent_quiet source (rsl.ReleaseIndication l) (λ n. refl) (λ w. refl)) (λ s. tt) (λ s. tt) (message_says source (rsl.ReleaseIndication l))
word_says source (rsl.ErrorIndication e) =
    link_up source (rsl.ErrorIndication e) (place_at source e.channel) (sapi_of e.link) (λ s. inputs.ErrorIndication (place_at source e.channel) s) (silent_quiet source (rsl.ErrorIndication e) (λ n. refl) (λ w. refl)) (λ s. tt) (λ s. tt) (message_says source (rsl.ErrorIndication e))
word_says source (rsl.ConnectionFailure f) = from_says (message_says source (rsl.ConnectionFailure f) tt) tt
word_says source (rsl.DataIndication d) = data_up source d (is_dtap d.l3) (sapi_of d.link) refl refl (message_says source (rsl.DataIndication d))
word_says source (rsl.MeasurementResult m) = measured_up source (rsl.MeasurementResult m) (place_at source m.channel) m.number.0 m.l3 (silent_quiet source (rsl.MeasurementResult m) (λ n. refl) (λ w. refl))
word_says source (rsl.RfChannelReleaseAck channel) = from_says (message_says source (rsl.RfChannelReleaseAck channel) tt) tt
word_says source (rsl.ChannelRequired r) = silent_quiet source (rsl.ChannelRequired r) (λ n. refl) (λ w. refl)
word_says source (rsl.DataRequest d) = silent_quiet source (rsl.DataRequest d) (λ n. refl) (λ w. refl)
word_says source (rsl.EstablishRequest l) = silent_quiet source (rsl.EstablishRequest l) (λ n. refl) (λ w. refl)
word_says source (rsl.ReleaseRequest l) = silent_quiet source (rsl.ReleaseRequest l) (λ n. refl) (λ w. refl)
word_says source (rsl.ReleaseConfirm l) = silent_quiet source (rsl.ReleaseConfirm l) (λ n. refl) (λ w. refl)
word_says source (rsl.ImmediateAssignCommand i) = silent_quiet source (rsl.ImmediateAssignCommand i) (λ n. refl) (λ w. refl)
word_says source (rsl.ChannelActivation a) = silent_quiet source (rsl.ChannelActivation a) (λ n. refl) (λ w. refl)
word_says source (rsl.HandoverDetection d) = silent_quiet source (rsl.HandoverDetection d) (λ n. refl) (λ w. refl)
word_says source (rsl.RfChannelRelease channel) = silent_quiet source (rsl.RfChannelRelease channel) (λ n. refl) (λ w. refl)

-- ---- a frame of the inbox

-- it is of the switch, or a message of a station
pub data Tells (source : ℕ) (frame : Frame) : Type 0 where
  nothing : rsl_in frame ≡ None → Tells source frame
  message : (m : Rsl) → rsl_in frame ≡ Some m → word_of source frame ≡ rsl_word source m → Tells source frame

pub frame_tells : (source : ℕ) (frame : Frame) → IsKnownItem (record { source = source; what = whats.Frame frame }) → Tells source frame
frame_tells source frame known = elim (source_or source) [
  | inl switch ↦ nothing (known.switch switch)
  | inr station ↦ of_station station (known.station station)
] where
  of_station : source ≢ SWITCH_LINK → IsKnown (whats.Frame frame) → Tells source frame
  of_station other (m, is, read, no_nack) = message m (ap rsl_in is ∙ read_known m read) (ap (word_of source) is ∙ word_known source m other read)

pub none_read : (source : ℕ) (place : Place) → brings_read source None place ≡ []
none_read source place = by (source == place.station) where
  by : (b : Bool) → (if b then (let xs : List Item = [] in xs) else []) ≡ []
  by true = refl
  by false = refl

-- a tenure begins by a message that brings nothing
pub begins_none : (source : ℕ) (m : Rsl) (w : Actors) (tenure : Tenure) →
    acknowledged_tenure w source (Some m) ≡ Some tenure →
    (place : Place) →
    brings_read source (Some m) place ≡ []
begins_none source (rsl.ChannelActivationAck a) w tenure is place = by (source == place.station) where
  by : (b : Bool) → (if b then (let xs : List Item = [] in xs) else []) ≡ []
  by true = refl
  by false = refl
begins_none source _ w tenure is place = absurd cc
