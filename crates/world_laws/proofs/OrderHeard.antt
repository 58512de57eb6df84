-- SPDX-License-Identifier: MIT OR Apache-2.0
-- What the controller hears of a channel by an item of the inbox.
use Rattle.world_laws.proofs.Prelude.{◌≡◌, ◌≢◌, inl, inr, ℕ, ◌==◌, ◌&&◌, ◌≤◌, not, Bool, true, false, cond, if◌then◌else◌, List, [], ◌∷◌}
use Rattle.world_laws.proofs.Prelude.{option_to_list, Option, Some, None, Ok, refl, sym, ap, ◌∙◌, subst, true≢false, cases_Bool, eqb-true}
use Rattle.world_laws.proofs.Prelude.{eq-eqb, ne_eqb, result_ok, Bssap, Management, Bssmap, InterfaceFault, Sccp, bssap_reading, Place}
use Rattle.world_laws.proofs.Prelude.{SWITCH_LINK, Input, is_dtap, free≢release, is_there, state_else, state_here, ChannelState, Free}
use Rattle.world_laws.proofs.Prelude.{Releasing, Word, Nothing, Ping, Asks, OnChannel, Reports, Controller, channel_state, place_at}
use Rattle.world_laws.proofs.Prelude.{body_word, bssap_word, change_word, data_word, management_of_link, management_word, of_sapi}
use Rattle.world_laws.proofs.Prelude.{report_word, result_word, rr_word, rsl_word, sapi_of, station_word, switch_word, radio_signalling}
use Rattle.world_laws.proofs.Prelude.{connection_control, link_management, other, report_reading, RrMessage, RrFault, Sapi, Zero, Frame}
use Rattle.world_laws.proofs.Prelude.{CCM_STREAM, PING, RSL_STREAM, SCCP_STREAM, is_bound_of, Item, Rsl, rsl_reading, rsl_text, said_by}
use Rattle.world_laws.proofs.Prelude.{acknowledgements, rsl_in, IsKnown, heard_of, hear, RequestReference, Result, sccp_reading, rr_reading}
use Rattle.world_laws.proofs.Prelude.{frame_of, is_nack}
use Rattle.bssmap_codec.specs.declared.bssmap.Bssmap.TheVariants as bssmap
use Rattle.bssmap_codec.specs.declared.sccp.Sccp.TheVariants as sccp
use Rattle.conn_rules.specs.declared.input.Input.TheVariants as inputs
use Rattle.controller_model.proofs.LifeLaws.UsingWords.{IsNoNack}
use Rattle.controller_model.specs.Reading.{word_of}
use Rattle.dtap_codec.specs.declared.report.Report.{Report}
use Rattle.dtap_codec.specs.declared.rr.RrMessage.TheVariants as rr
use Rattle.ruled_relay.specs.declared.item.What.TheVariants as whats
use Rattle.rsl_codec.specs.declared.rsl.Rsl.TheVariants as rsl
use Rattle.world_laws.proofs.OrderTurns.{NoNackWord, freed_by, heard_by}

-- ---- words that free no channel

-- neither RF CHANNEL RELEASE ACK nor CHANNEL ACTIVATION NACK
unfoldable pub FreesNone : Word → Type 0
FreesNone (OnChannel p (inputs.ReleaseAck q)) = ⊥
FreesNone (OnChannel p (inputs.ActivationNack q)) = ⊥
FreesNone _ = Unit {0}

pub none_nacks : (word : Word) → FreesNone word → NoNackWord word
unfolding FreesNone IsNoNack
none_nacks (OnChannel p (inputs.ReleaseAck q)) none = absurd none
none_nacks (OnChannel p (inputs.ActivationNack q)) none = absurd none
none_nacks _ none = tt

pub none_frees : (at : Place) (least : 1 ≤ at.station) (word : Word) (c : Controller) →
    FreesNone word →
    heard_by at least word c ≡ channel_state c at
unfolding FreesNone
none_frees at least (OnChannel p (inputs.ReleaseAck q)) c none = absurd none
none_frees at least (OnChannel p (inputs.ActivationNack q)) c none = absurd none
none_frees at least _ c none = refl

-- ---- of the switch

management_none : (m : ℕ) (message : Bssmap) → FreesNone (management_word m message)
unfolding FreesNone
management_none m (bssmap.AssignmentRequest channel_type) = tt
management_none m _ = tt

bssap_none : (m : ℕ) (r : Result Bssap InterfaceFault) → FreesNone (bssap_word m r)
unfolding FreesNone
bssap_none m (Ok (Management message)) = management_none m message
bssap_none m _ = tt

switch_none : (r : Result Sccp InterfaceFault) → FreesNone (switch_word r)
unfolding FreesNone
switch_none (Ok (sccp.DataForm1 destination user)) = bssap_none destination (bssap_reading user)
switch_none _ = tt

link_none : (body : List ℕ) → FreesNone (management_of_link body)
unfolding FreesNone
link_none [] = tt
link_none (first ∷ rest) = by (first == PING) where
  by : (b : Bool) → FreesNone (if b then Ping else Nothing)
  by true = tt
  by false = tt

pub switch_frees : (frame : Frame) → FreesNone (word_of SWITCH_LINK frame)
unfolding word_of FreesNone
switch_frees frame = by (frame.stream == CCM_STREAM) (frame.stream == SCCP_STREAM) (frame.stream == RSL_STREAM) where
  by : (a b d : Bool) →
      FreesNone (body_word (if a then link_management else if (SWITCH_LINK == SWITCH_LINK) && b then connection_control else if not (SWITCH_LINK == SWITCH_LINK) && d then radio_signalling else other) SWITCH_LINK frame.body)
  by true b d = link_none frame.body
  by false true d = switch_none (sccp_reading frame.body)
  by false false d = tt

-- ---- of a station

-- nor does it ask for a channel
unfoldable pub IsPlain : Word → Type 0
IsPlain (Asks request delay) = ⊥
IsPlain word = FreesNone word

plain_none : (word : Word) → IsPlain word → FreesNone word
unfolding IsPlain
plain_none (Asks request delay) plain = absurd plain
plain_none _ plain = plain

pub plain_asks : (word : Word) (request : RequestReference) (delay : ℕ) → IsPlain word → word ≡ Asks request delay → ⊥
unfolding IsPlain
plain_asks (Asks q d) request delay plain is = plain
plain_asks _ request delay plain is = absurd cc

pub sapi_plain : (p : Place) (o : Option Sapi) (input : Sapi → Input) →
    ((s : Sapi) → IsPlain (OnChannel p (input s))) →
    IsPlain (of_sapi p o input)
unfolding IsPlain FreesNone
sapi_plain p None input none = tt
sapi_plain p (Some s) input none = none s

change_plain : (p : Place) (r : Result RrMessage RrFault) → IsPlain (change_word p r)
unfolding IsPlain FreesNone
change_plain p (Ok (rr.AssignmentComplete cause)) = tt
change_plain p _ = tt

rr_plain : (p : Place) (o : Option Sapi) (l3 : List ℕ) → IsPlain (rr_word p o l3)
unfolding IsPlain FreesNone
rr_plain p (Some Zero) l3 = change_plain p (rr_reading l3)
rr_plain p _ l3 = tt

pub data_plain : (b : Bool) (p : Place) (o : Option Sapi) (l3 : List ℕ) → IsPlain (data_word b p o l3)
unfolding IsPlain FreesNone
data_plain true p o l3 = sapi_plain p o (λ s. inputs.Dtap p s l3) (λ s. tt)
data_plain false p o l3 = rr_plain p o l3

valid_plain : (b : Bool) (p : Place) (number : ℕ) (report : Report) → IsPlain (if b then Reports p number report else Nothing)
unfolding IsPlain FreesNone
valid_plain true p number report = tt
valid_plain false p number report = tt

report_plain : (p : Place) (number : ℕ) (r : Result RrMessage RrFault) → IsPlain (report_word p number r)
unfolding IsPlain FreesNone
report_plain p number (Ok (rr.MeasurementReport value)) = valid_plain (report_reading value).valid p number (report_reading value)
report_plain p number _ = tt

pub result_plain : (p : Place) (number : ℕ) (o : Option (List ℕ)) → IsPlain (result_word p number o)
unfolding IsPlain FreesNone
result_plain p number None = tt
result_plain p number (Some l3) = report_plain p number (rr_reading l3)

is_end : Rsl → Bool
is_end (rsl.RfChannelReleaseAck channel) = true
is_end message = false

message_none : (source : ℕ) (message : Rsl) → is_nack message ≡ false → is_end message ≡ false → FreesNone (rsl_word source message)
unfolding IsPlain FreesNone is_end
message_none source (rsl.ChannelActivationNack f) no_nack no_end = absurd (true≢false no_nack)
message_none source (rsl.EstablishIndication e) no_nack no_end = plain_none _ (sapi_plain (place_at source e.channel) (sapi_of e.link) (λ s. inputs.EstablishIndication (place_at source e.channel) s e.l3) (λ s. tt))
message_none source (rsl.EstablishConfirm l) no_nack no_end = plain_none _ (sapi_plain (place_at source l.channel) (sapi_of l.link) (λ s. inputs.EstablishConfirm (place_at source l.channel) s) (λ s. tt))
message_none source (rsl.ReleaseIndication l) no_nack no_end = plain_none _ (sapi_plain (place_at source l.channel) (sapi_of l.link) (λ s. inputs.ReleaseIndication (place_at source l.channel) s) (λ s. tt))
message_none source (rsl.ErrorIndication e) no_nack no_end = plain_none _ (sapi_plain (place_at source e.channel) (sapi_of e.link) (λ s. inputs.ErrorIndication (place_at source e.channel) s) (λ s. tt))
message_none source (rsl.DataIndication d) no_nack no_end = plain_none _ (data_plain (is_dtap d.l3) (place_at source d.channel) (sapi_of d.link) d.l3)
message_none source (rsl.MeasurementResult m) no_nack no_end = plain_none _ (result_plain (place_at source m.channel) m.number.0 m.l3)
message_none source (rsl.RfChannelReleaseAck channel) no_nack no_end = absurd (true≢false no_end)
message_none source _ no_nack no_end = tt

-- the word of a message that a station made
pub word_known : (source : ℕ) (message : Rsl) →
    source ≢ SWITCH_LINK →
    rsl_reading (rsl_text message) ≡ Ok message →
    word_of source (frame_of message) ≡ rsl_word source message
unfolding word_of
word_known source message other_than read =
    ap (λ (b : Bool). body_word (if b && false then connection_control else if not b && true then radio_signalling else other) source (rsl_text message)) (ne_eqb source SWITCH_LINK other_than)
    ∙ ap (station_word source) read

pub read_known : (message : Rsl) → rsl_reading (rsl_text message) ≡ Ok message → rsl_in (frame_of message) ≡ Some message
read_known message read = ap result_ok read

-- ---- what is heard of the channel

-- an RF CHANNEL RELEASE ACK
freed_heard : (at : Place) (least : 1 ≤ at.station) (c : Controller) (state : ChannelState) →
    channel_state c at ≡ state →
    hear (rsl.RfChannelReleaseAck at.number ∷ []) state ≡ freed_by at least state at c
freed_heard at least c (Releasing k) is = sym (state_here c.channels at Free (is_there c.channels at (λ free. free≢release k (sym free ∙ is))))
freed_heard at least c _ is = sym is

freed_beside : (at : Place) (least : 1 ≤ at.station) (p : Place) (c : Controller) (state : ChannelState) →
    at ≢ p →
    channel_state c at ≡ freed_by at least state p c
freed_beside at least p c (Releasing k) differ = sym (state_else c.channels p at Free differ)
freed_beside at least p c _ differ = refl

hear-plain : (m : Rsl) (state : ChannelState) → is_end m ≡ false → hear (m ∷ []) state ≡ state
unfolding is_end
hear-plain (rsl.RfChannelReleaseAck channel) state none = absurd (true≢false none)
hear-plain _ state none = refl

heard_plain : (k : ℕ) (own : Bool) (m : Rsl) (state : ChannelState) →
    is_end m ≡ false →
    hear (acknowledgements k (if own then m ∷ [] else [])) state ≡ state
heard_plain k false m state none = refl
heard_plain k true m state none = by (is_bound_of k m) where
  by : (b : Bool) → hear (cond b (m ∷ []) []) state ≡ state
  by true = hear-plain m state none
  by false = refl

-- of a message that is known
heard_end : (at : Place) (least : 1 ≤ at.station) (source channel : ℕ) (c : Controller) →
    hear (acknowledgements at.number (if source == at.station then rsl.RfChannelReleaseAck channel ∷ [] else [])) (channel_state c at) ≡ freed_by at least (channel_state c (place_at source channel)) (place_at source channel) c
heard_end at least source channel c = elim (cases_Bool (source == at.station)) [
  | inr miss ↦
      ap (λ (b : Bool). hear (acknowledgements at.number (if b then rsl.RfChannelReleaseAck channel ∷ [] else [])) (channel_state c at)) miss
      ∙ freed_beside at least (place_at source channel) c (channel_state c (place_at source channel)) (λ same. true≢false (sym (eq-eqb source at.station (sym (ap (λ (p : Place). p.station) same))) ∙ miss))
  | inl hit ↦ elim (cases_Bool (channel == at.number)) [
    | inr other_channel ↦
        ap (λ (b : Bool). hear (acknowledgements at.number (if b then rsl.RfChannelReleaseAck channel ∷ [] else [])) (channel_state c at)) hit
        ∙ ap (λ (b : Bool). hear (cond b (rsl.RfChannelReleaseAck channel ∷ []) []) (channel_state c at)) other_channel
        ∙ freed_beside at least (place_at source channel) c (channel_state c (place_at source channel)) (λ same. true≢false (sym (eq-eqb channel at.number (sym (ap (λ (p : Place). p.number) same))) ∙ other_channel))
    | inl same ↦
        let here : place_at source channel ≡ at = ap (λ (s : ℕ). place_at s channel) (eqb-true source at.station hit) ∙ ap (place_at at.station) (eqb-true channel at.number same) in
        ap (λ (b : Bool). hear (acknowledgements at.number (if b then rsl.RfChannelReleaseAck channel ∷ [] else [])) (channel_state c at)) hit
        ∙ ap (λ (b : Bool). hear (cond b (rsl.RfChannelReleaseAck channel ∷ []) []) (channel_state c at)) same
        ∙ ap (λ (k : ℕ). hear (rsl.RfChannelReleaseAck k ∷ []) (channel_state c at)) (eqb-true channel at.number same)
        ∙ freed_heard at least c (channel_state c at) refl
        ∙ sym (ap (λ (p : Place). freed_by at least (channel_state c p) p c) here)
  ]
]

message_heard : (at : Place) (least : 1 ≤ at.station) (source : ℕ) (m : Rsl) (c : Controller) →
    is_nack m ≡ false →
    (hear (acknowledgements at.number (if source == at.station then m ∷ [] else [])) (channel_state c at) ≡ heard_by at least (rsl_word source m) c) × NoNackWord (rsl_word source m)
unfolding IsNoNack is_end
message_heard at least source (rsl.RfChannelReleaseAck channel) c no_nack = (heard_end at least source channel c, tt)
message_heard at least source m c no_nack = (
  heard_plain at.number (source == at.station) m (channel_state c at) refl ∙ sym (none_frees at least (rsl_word source m) c (message_none source m no_nack refl)),
  none_nacks (rsl_word source m) (message_none source m no_nack refl),
)

-- of the item of a station
pub station_heard : (at : Place) (least : 1 ≤ at.station) (source : ℕ) (frame : Frame) (c : Controller) →
    source ≢ SWITCH_LINK →
    IsKnown (whats.Frame frame) →
    (hear (heard_of at (record { source = source; what = whats.Frame frame })) (channel_state c at) ≡ heard_by at least (word_of source frame) c) × NoNackWord (word_of source frame)
station_heard at least source frame c station (m, is, read, no_nack) =
    let word : word_of source frame ≡ rsl_word source m = ap (word_of source) is ∙ word_known source m station read in
    let both = message_heard at least source m c no_nack in (
      ap (λ (o : Option Rsl). hear (acknowledgements at.number (if source == at.station then option_to_list o else [])) (channel_state c at)) (ap rsl_in is ∙ read_known m read)
          ∙ both.0 ∙ sym (ap (λ (x : Word). heard_by at least x c) word),
      subst NoNackWord (sym word) both.1,
    )

-- of another link nothing is heard
pub other_heard : (at : Place) (item : Item) (c : Controller) →
    (item.source == at.station) ≡ false →
    hear (heard_of at item) (channel_state c at) ≡ channel_state c at
other_heard at item c miss = ap (λ (b : Bool). hear (acknowledgements at.number (if b then said_by item.what else [])) (channel_state c at)) miss
