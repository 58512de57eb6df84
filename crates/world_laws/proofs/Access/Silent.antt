-- SPDX-License-Identifier: MIT OR Apache-2.0
-- What the first item of the inbox brings of a channel, by what it says.
use Rattle.world_laws.proofs.Prelude.{◌≡◌, ◌≢◌, ℕ, ◌==◌, not, nat_eq, Bool, true, false, if◌then◌else◌, cond, List, [], ◌∷◌, Option, Some}
use Rattle.world_laws.proofs.Prelude.{None, refl, sym, ap, ◌∙◌, subst, eqb-true, eq-eqb, Place, SWITCH_LINK, is_dtap, OnChannel, place_at}
use Rattle.world_laws.proofs.Prelude.{data_word, of_sapi, rsl_word, sapi_of, Sapi, Zero, Three, Frame, is_control, Establishment, Rsl}
use Rattle.world_laws.proofs.Prelude.{rsl_reading, rsl_text, Ok, acknowledgements, rsl_in, word_of, messages_in, frame_of, NoneReleases}
use Rattle.world_laws.proofs.Prelude.{brings, brings_by, brings_if, of_establishment, of_main, data_by}
use Rattle.conn_rules.specs.declared.input.Input.TheVariants as inputs
use Rattle.world_laws.specs.LineUp.Places.{Item}
use Rattle.world_laws.specs.LineUp.Places.Item.{brought}
use Rattle.ruled_relay.specs.declared.item.What.TheVariants as whats
use Rattle.rsl_codec.specs.declared.radio_link.Data.{Data}
use Rattle.rsl_codec.specs.declared.rsl.Rsl.TheVariants as rsl
use Rattle.world_laws.proofs.OrderHeard.{read_known, word_known}
use Rattle.world_laws.proofs.OwnFrame.{control_or}

pub data FirstBrings (at : Place) (source : ℕ) (frame : Frame) (xs : List Item) : Type 0 where
  brings_none : xs ≡ [] → FirstBrings at source frame xs
  opening : (l3 : List ℕ) →
      word_of source frame ≡ OnChannel at (inputs.EstablishIndication at Zero (Some l3)) →
      source ≡ at.station →
      FirstBrings at source frame xs
  text : (l3 : List ℕ) → word_of source frame ≡ OnChannel at (inputs.Dtap at Zero l3) → source ≡ at.station → FirstBrings at source frame xs
  control : (l3 : List ℕ) (d : Data) →
      is_control l3 ≡ true →
      rsl_in frame ≡ Some (rsl.DataIndication d) →
      source ≡ at.station →
      data_by at.number (rsl.DataIndication d) ≡ l3 ∷ [] →
      FirstBrings at source frame xs
  ends : rsl_in frame ≡ Some (rsl.RfChannelReleaseAck at.number) → source ≡ at.station → FirstBrings at source frame xs

same_place : (at : Place) (source channel : ℕ) → source ≡ at.station → (channel == at.number) ≡ true → place_at source channel ≡ at
same_place at source channel station number = ap (λ (s : ℕ). place_at s channel) station ∙ ap (place_at at.station) (eqb-true channel at.number number)

none_in : (b : Bool) (xs ys : List Item) → b ≡ false → xs ≡ (if b then ys else []) → xs ≡ []
none_in b xs ys isnt is = is ∙ ap (λ (c : Bool). if c then ys else []) isnt

some_in : (b : Bool) (xs ys : List Item) → b ≡ true → xs ≡ (if b then ys else []) → xs ≡ ys
some_in b xs ys is_so is = is ∙ ap (λ (c : Bool). if c then ys else []) is_so

establishes_first : (at : Place) (source : ℕ) (frame : Frame) (xs : List Item) (e : Establishment) →
    source ≡ at.station →
    word_of source frame ≡ rsl_word source (rsl.EstablishIndication e) →
    xs ≡ brings at.number (rsl.EstablishIndication e) →
    FirstBrings at source frame xs
establishes_first at source frame xs e station word is = by (nat_eq e.channel at.number) refl where
  by_message : (sapi : Option Sapi) (l3 : Option (List ℕ)) →
      sapi_of e.link ≡ sapi →
      e.l3 ≡ l3 →
      (e.channel == at.number) ≡ true →
      xs ≡ of_establishment sapi l3 →
      FirstBrings at source frame xs
  by_message None None link some number items = brings_none items
  by_message None (Some l3) link some number items = brings_none items
  by_message (Some Three) None link some number items = brings_none items
  by_message (Some Three) (Some l3) link some number items = brings_none items
  by_message (Some Zero) None link some number items = brings_none items
  by_message (Some Zero) (Some l3) link some number items =
      opening l3 (word ∙ ap (λ (o : Option Sapi). of_sapi (place_at source e.channel) o (λ s. inputs.EstablishIndication (place_at source e.channel) s e.l3)) link
      ∙ ap (λ (o : Option (List ℕ)). OnChannel (place_at source e.channel) (inputs.EstablishIndication (place_at source e.channel) Zero o)) some
      ∙ ap (λ (p : Place). OnChannel p (inputs.EstablishIndication p Zero (Some l3))) (same_place at source e.channel station number)) station

  by : (b : Bool) → nat_eq e.channel at.number ≡ b → FirstBrings at source frame xs
  by false miss = brings_none (none_in (e.channel == at.number) xs (of_establishment (sapi_of e.link) e.l3) miss is)
  by true hit = by_message (sapi_of e.link) e.l3 refl refl hit (some_in (e.channel == at.number) xs (of_establishment (sapi_of e.link) e.l3) hit is)

data_first : (at : Place) (source : ℕ) (frame : Frame) (xs : List Item) (d : Data) →
    source ≡ at.station →
    rsl_in frame ≡ Some (rsl.DataIndication d) →
    word_of source frame ≡ rsl_word source (rsl.DataIndication d) →
    xs ≡ brings at.number (rsl.DataIndication d) →
    FirstBrings at source frame xs
data_first at source frame xs d station read word is = by (nat_eq d.channel at.number) refl where
  by_kind : (b : Bool) →
      is_dtap d.l3 ≡ b →
      sapi_of d.link ≡ Some Zero →
      (d.channel == at.number) ≡ true →
      xs ≡ brought d.l3 ∷ [] →
      FirstBrings at source frame xs
  by_kind true dtap link number items =
      text d.l3 (word ∙ ap (λ (b : Bool). data_word b (place_at source d.channel) (sapi_of d.link) d.l3) dtap
      ∙ ap (λ (o : Option Sapi). of_sapi (place_at source d.channel) o (λ s. inputs.Dtap (place_at source d.channel) s d.l3)) link
      ∙ ap (λ (p : Place). OnChannel p (inputs.Dtap p Zero d.l3)) (same_place at source d.channel station number)) station
  by_kind false other link number items =
      control d.l3 d (control_or d.l3 ∙ ap not other) read station
      (ap (λ (b : Bool). cond b (messages_in (of_main (sapi_of d.link) d.l3)) []) number ∙ ap (λ (o : Option Sapi). messages_in (of_main o d.l3)) link)

  by_link : (sapi : Option Sapi) →
      sapi_of d.link ≡ sapi →
      (d.channel == at.number) ≡ true →
      xs ≡ of_main sapi d.l3 →
      FirstBrings at source frame xs
  by_link (Some Zero) link number items = by_kind (is_dtap d.l3) refl link number items
  by_link _ link number items = brings_none items

  by : (b : Bool) → nat_eq d.channel at.number ≡ b → FirstBrings at source frame xs
  by false miss = brings_none (none_in (d.channel == at.number) xs (of_main (sapi_of d.link) d.l3) miss is)
  by true hit = by_link (sapi_of d.link) refl hit (some_in (d.channel == at.number) xs (of_main (sapi_of d.link) d.l3) hit is)

ends_first : (at : Place) (source : ℕ) (frame : Frame) (xs : List Item) (channel : ℕ) →
    source ≡ at.station →
    rsl_in frame ≡ Some (rsl.RfChannelReleaseAck channel) →
    xs ≡ brings at.number (rsl.RfChannelReleaseAck channel) →
    FirstBrings at source frame xs
ends_first at source frame xs channel station read is = by (nat_eq channel at.number) refl where
  by : (b : Bool) → nat_eq channel at.number ≡ b → FirstBrings at source frame xs
  by false miss = brings_none (none_in (channel == at.number) xs _ miss is)
  by true hit = ends (read ∙ ap (λ (k : ℕ). Some (rsl.RfChannelReleaseAck k)) (eqb-true channel at.number hit)) station

message_first : (at : Place) (source : ℕ) (frame : Frame) (xs : List Item) (m : Rsl) →
    source ≡ at.station →
    rsl_in frame ≡ Some m →
    word_of source frame ≡ rsl_word source m →
    xs ≡ brings at.number m →
    FirstBrings at source frame xs
message_first at source frame xs (rsl.EstablishIndication e) station read word is = establishes_first at source frame xs e station word is
message_first at source frame xs (rsl.DataIndication d) station read word is = data_first at source frame xs d station read word is
message_first at source frame xs (rsl.RfChannelReleaseAck channel) station read word is = ends_first at source frame xs channel station read is
message_first at source frame xs _ station read word is = brings_none is

-- of a message that a station made
pub first_brings : (at : Place) (source : ℕ) (m : Rsl) →
    at.station ≢ SWITCH_LINK →
    rsl_reading (rsl_text m) ≡ Ok m →
    FirstBrings at source (frame_of m) (brings_by at source (whats.Frame (frame_of m)))
first_brings at source m at_is reads = by (nat_eq source at.station) refl where
  by : (b : Bool) → nat_eq source at.station ≡ b → FirstBrings at source (frame_of m) (brings_by at source (whats.Frame (frame_of m)))
  by false miss = brings_none (ap (λ (b : Bool). if b then brings_if at.number (rsl_in (frame_of m)) else []) miss)
  by true hit =
      let station : source ≡ at.station = eqb-true source at.station hit in
      message_first at source (frame_of m) (brings_by at source (whats.Frame (frame_of m))) m station (read_known m reads) (word_known source m (λ is. at_is (sym station ∙ is)) reads)
      (ap (λ (b : Bool). if b then brings_if at.number (rsl_in (frame_of m)) else []) hit ∙ ap (brings_if at.number) (read_known m reads))

-- ---- what is against it

pub releases_not : (channel : ℕ) (rest : List Rsl) → NoneReleases (acknowledgements channel (rsl.RfChannelReleaseAck channel ∷ rest)) → ⊥
releases_not channel rest none =
    let first = subst (λ (b : Bool). NoneReleases (cond b (rsl.RfChannelReleaseAck channel ∷ acknowledgements channel rest) (acknowledgements channel rest))) (eq-eqb channel channel refl) none in
    absurd (let both : true ≡ false = first.0 in cc)
