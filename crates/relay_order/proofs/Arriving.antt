-- SPDX-License-Identifier: MIT OR Apache-2.0
-- The messages that arrived from the switch for a connection are some of those that the octets of
-- its link send on it.
use Rattle.std.proofs.Common.{◌≡◌, ◌≢◌, ℕ, ◌==◌, ◌&&◌, not, Bool, true, false, if◌then◌else◌, List, [], ◌∷◌, ◌++◌, filter, fold, map, None, Result, Ok, Err, refl, sym, ap, ◌∙◌, subst, inl, inr, true≢false, append_assoc, append-nil}
use Rattle.std.specs.Prelude.{option_to_list}
use Rattle.std.specs.Result.{result_ok}
use Rattle.std.proofs.lemmas.Bool.{cases_Bool, eq-eqb, eqb-true}
use Rattle.std.proofs.lemmas.Grind.{flat_map-append}
use Rattle.std.specs.List.{flat_map}
use Rattle.bssmap_codec.specs.declared.bssap.Bssap.{Bssap}
use Rattle.bssmap_codec.specs.declared.bssap.Bssap.TheVariants.{Management, Transfer}
use Rattle.bssmap_codec.specs.declared.bssmap.Bssmap.{Bssmap}
use Rattle.bssmap_codec.specs.declared.bssmap.Bssmap.TheVariants as bssmap
use Rattle.bssmap_codec.specs.declared.fault.InterfaceFault.{InterfaceFault}
use Rattle.bssmap_codec.specs.declared.sccp.Sccp.{Sccp}
use Rattle.bssmap_codec.specs.declared.sccp.Sccp.TheVariants as sccp
use Rattle.bssmap_codec.specs.BssapReading.{bssap_reading}
use Rattle.bssmap_codec.specs.SccpReading.{sccp_reading}
use Rattle.conn_messages.specs.declared.parameters.TheConstants.{SWITCH_LINK}
use Rattle.conn_rules.specs.declared.input.Input.{Input}
use Rattle.conn_rules.specs.declared.input.Input.TheVariants as inputs
use Rattle.conn_rules.specs.Streams.{is_dtap, received_by}
use Rattle.controller_model.specs.declared.step.Step.{Step}
use Rattle.controller_model.specs.declared.step.Step.TheVariants.{Take, Tick}
use Rattle.controller_model.specs.declared.word.Word.{Word}
use Rattle.controller_model.specs.declared.word.Word.TheVariants.{Nothing, Ping, OnConnection}
use Rattle.controller_model.specs.Controller.{Controller}
use Rattle.controller_model.specs.Life.{step}
use Rattle.controller_model.specs.LifeLaws.Downlink.{IsPart, Switched, counted, dtap_received, nothing_switched, switched, with_moment}
use Rattle.controller_model.specs.LifeLaws.History.{IsHistory, Moment, word_by, word_in}
use Rattle.controller_model.specs.Reading.{body_word, bssap_word, dlci_sapi, management_of_link, management_word, switch_word, word_of}
use Rattle.controller_model.specs.Reading.Carried.{connection_control, link_management, other, radio_signalling}
use Rattle.controller_model.proofs.LifeLaws.Sources.{IsFrom, word_from}
use Rattle.controller_worker.specs.Steps.{items_of, whats_of}
use Rattle.dtap_codec.specs.declared.sapi.Sapi.{Sapi}
use Rattle.dtap_codec.specs.declared.sapi.Sapi.TheVariants.{Zero, Three}
use Rattle.ipa_framing.specs.declared.frame.Frame.{Frame}
use Rattle.ipa_framing.specs.declared.streams.TheConstants.{CCM_STREAM, PING, RSL_STREAM, SCCP_STREAM}
use Rattle.octets.specs.Lists.{IsPrefix}
use Rattle.ruled_relay.specs.declared.item.Item.{Item}
use Rattle.ruled_relay.specs.declared.item.What.{What}
use Rattle.ruled_relay.specs.declared.item.What.TheVariants as whats
use Rattle.station_io.specs.Octets.{frames_in}
use Rattle.world_model.specs.SwitchSide.{sccp_in}
use Rattle.relay_order.specs.Explains.{frame_of}
use Rattle.relay_order.specs.Stations.{is_same, sent_by, sent_in, transferred}
use Rattle.relay_order.proofs.SomeOf.{part_append, part_front, part_of_prefix, part_same, part_trans, prefix_flat_map}

abbrev Texts : Type 0
Texts = List (List ℕ)

-- ---- over a history

counted_part : (b : Bool) (xs : Texts) → IsPart (if b then xs else []) xs
counted_part true xs = part_same xs
counted_part false xs = tt

abbrev received_in : ℕ → Sapi → Moment → Texts
received_in number sapi m = dtap_received number sapi (word_in m.taken)

arrived_part : (number : ℕ) (sapi : Sapi) (a : Switched) (ms : List Moment) →
    IsPart (fold (with_moment number sapi) a ms).arrived (a.arrived ++ flat_map (received_in number sapi) ms)
arrived_part number sapi a [] = part_front a.arrived []
arrived_part number sapi a (m ∷ ms) =
    let next : Switched = with_moment number sapi a m in
    let new : Texts = counted number sapi a m in
    let own : Texts = received_in number sapi m in
    let rest : Texts = flat_map (received_in number sapi) ms in
    part_trans (a.arrived ++ (own ++ rest)) (fold (with_moment number sapi) next ms).arrived ((a.arrived ++ new) ++ rest) (arrived_part number sapi next ms)
    (subst (IsPart ((a.arrived ++ new) ++ rest)) (append_assoc a.arrived own rest)
    (part_append (a.arrived ++ new) (a.arrived ++ own) rest rest (part_append a.arrived a.arrived new own (part_same a.arrived) (counted_part a.confirmed own)) (part_same rest)))

history_received : (number : ℕ) (sapi : Sapi) (c : Controller) (steps : List Step) (ms : List Moment) →
    IsHistory number c steps ms →
    flat_map (received_in number sapi) ms ≡ flat_map (λ s. dtap_received number sapi (word_in s)) steps
history_received number sapi c [] [] history = refl
history_received number sapi c [] (m ∷ ms) history = absurd history
history_received number sapi c (s ∷ ss) [] history = absurd history
history_received number sapi c (s ∷ ss) (m ∷ ms) history =
    ap (λ (t : Step). dtap_received number sapi (word_in t) ++ flat_map (received_in number sapi) ms) history.0
    ∙ ap (λ (xs : Texts). dtap_received number sapi (word_in s) ++ xs) (history_received number sapi (step c s).next ss ms history.2)

-- ---- over the frames of the switch

abbrev received_from : ℕ → Sapi → Frame → Texts
received_from number sapi frame = dtap_received number sapi (word_of SWITCH_LINK frame)

none_elsewhere : (number : ℕ) (sapi : Sapi) (source : ℕ) (word : Word) →
    source ≢ SWITCH_LINK →
    IsFrom source word →
    dtap_received number sapi word ≡ []
none_elsewhere number sapi source (OnConnection destination input) station from = absurd (station from.0)
none_elsewhere number sapi source _ station from = refl

step_elsewhere : (number : ℕ) (sapi : Sapi) (source : ℕ) (what : What) →
    source ≢ SWITCH_LINK →
    dtap_received number sapi (word_by source what) ≡ []
step_elsewhere number sapi source (whats.Frame frame) station = none_elsewhere number sapi source (word_of source frame) station (word_from source frame)
step_elsewhere number sapi source whats.Down station = refl

step_here : (number : ℕ) (sapi : Sapi) (source : ℕ) (what : What) →
    source ≡ SWITCH_LINK →
    dtap_received number sapi (word_by source what) ≡ flat_map (received_from number sapi) (frame_of what)
step_here number sapi source (whats.Frame frame) switch = ap (λ (k : ℕ). dtap_received number sapi (word_of k frame)) switch ∙ sym (append-nil (received_from number sapi frame))
step_here number sapi source whats.Down switch = refl

-- the frames that were taken of the switch's link
abbrev pub frames_from : ℕ → List Step → List Frame
frames_from link steps = flat_map frame_of (whats_of link (items_of steps))

steps_received : (number : ℕ) (sapi : Sapi) (steps : List Step) →
    flat_map (λ s. dtap_received number sapi (word_in s)) steps ≡ flat_map (received_from number sapi) (frames_from SWITCH_LINK steps)
steps_received number sapi [] = refl
steps_received number sapi (Tick ms ∷ steps) = steps_received number sapi steps
steps_received number sapi (Take item ∷ steps) = elim (cases_Bool (item.source == SWITCH_LINK)) [
  | inl hit ↦
      ap (λ (xs : Texts). dtap_received number sapi (word_by item.source item.what) ++ xs) (steps_received number sapi steps)
      ∙ ap (λ (xs : Texts). xs ++ flat_map (received_from number sapi) (frames_from SWITCH_LINK steps)) (step_here number sapi item.source item.what (eqb-true item.source SWITCH_LINK hit))
      ∙ sym (flat_map-append (received_from number sapi) (frame_of item.what) (frames_from SWITCH_LINK steps))
      ∙ sym (ap (λ (b : Bool). flat_map (received_from number sapi) (flat_map frame_of (map (λ (i : Item). i.what) (if b then item ∷ others else others)))) hit)
  | inr miss ↦
      ap (λ (xs : Texts). dtap_received number sapi (word_by item.source item.what) ++ xs) (steps_received number sapi steps)
      ∙ ap (λ (xs : Texts). xs ++ flat_map (received_from number sapi) (frames_from SWITCH_LINK steps)) (step_elsewhere number sapi item.source item.what (λ same. true≢false (sym (eq-eqb item.source SWITCH_LINK same) ∙ miss)))
      ∙ sym (ap (λ (b : Bool). flat_map (received_from number sapi) (flat_map frame_of (map (λ (i : Item). i.what) (if b then item ∷ others else others)))) miss)
]
  where
    others : List Item
    others = filter (λ (i : Item). i.source == SWITCH_LINK) (items_of steps)

-- ---- in one frame

abbrev IsPlain : Input → Type 0
IsPlain (inputs.Downlink sapi message) = ⊥
IsPlain _ = Unit {0}

if_none : (b : Bool) → (let xs : Texts = if b then [] else [] in xs) ≡ []
if_none true = refl
if_none false = refl

plain_none : (sapi : Sapi) (input : Input) → IsPlain input → received_by sapi input ≡ []
plain_none Zero (inputs.Downlink sapi message) plain = absurd plain
plain_none Three (inputs.Downlink sapi message) plain = absurd plain
plain_none Zero _ plain = refl
plain_none Three _ plain = refl

plain_word : (number : ℕ) (sapi : Sapi) (destination : ℕ) (input : Input) →
    IsPlain input →
    dtap_received number sapi (OnConnection destination input) ≡ []
plain_word number sapi destination input plain =
    ap (λ (xs : Texts). if destination == number then filter is_dtap xs else []) (plain_none sapi input plain) ∙ if_none (destination == number)

management_none : (number : ℕ) (sapi : Sapi) (destination : ℕ) (m : Bssmap) → dtap_received number sapi (management_word destination m) ≡ []
management_none number sapi destination (bssmap.AssignmentRequest channel_type) = plain_word number sapi destination _ tt
management_none number sapi destination (bssmap.ClearCommand cause) = plain_word number sapi destination _ tt
management_none number sapi destination bssmap.CipherModeCommand = plain_word number sapi destination _ tt
management_none number sapi destination _ = refl

transfer_is : (sapi of : Sapi) (message : List ℕ) →
    filter is_dtap (received_by sapi (inputs.Downlink of message)) ≡ (if is_same of sapi && is_dtap message then message ∷ [] else [])
transfer_is Zero Zero message = refl
transfer_is Zero Three message = refl
transfer_is Three Zero message = refl
transfer_is Three Three message = refl

form_is : (number : ℕ) (sapi : Sapi) (destination : ℕ) (r : Result Bssap InterfaceFault) →
    dtap_received number sapi (bssap_word destination r) ≡ (if destination == number then transferred sapi (result_ok r) else [])
form_is number sapi destination (Ok (Management m)) = management_none number sapi destination m ∙ sym (if_none (destination == number))
form_is number sapi destination (Ok (Transfer dlci message)) = ap (λ (xs : Texts). if destination == number then xs else []) (transfer_is sapi (dlci_sapi dlci) message)
form_is number sapi destination (Err fault) = sym (if_none (destination == number))

message_is : (number : ℕ) (sapi : Sapi) (r : Result Sccp InterfaceFault) →
    dtap_received number sapi (switch_word r) ≡ flat_map (sent_by number sapi) (option_to_list (result_ok r))
message_is number sapi (Ok (sccp.DataForm1 destination user)) =
    form_is number sapi destination (bssap_reading user) ∙ sym (append-nil (if destination == number then transferred sapi (result_ok (bssap_reading user)) else []))
message_is number sapi (Ok (sccp.ConnectionConfirm destination source)) = plain_word number sapi destination _ tt
message_is number sapi (Ok (sccp.ConnectionRefused destination)) = plain_word number sapi destination _ tt
message_is number sapi (Ok (sccp.Released destination source)) = plain_word number sapi destination _ tt
message_is number sapi (Ok _) = refl
message_is number sapi (Err fault) = refl

link_none : (number : ℕ) (sapi : Sapi) (body : List ℕ) → dtap_received number sapi (management_of_link body) ≡ []
link_none number sapi [] = refl
link_none number sapi (first ∷ rest) = by (first == PING)
  where
    by : (b : Bool) → dtap_received number sapi (if b then Ping else Nothing) ≡ []
    by true = refl
    by false = refl

stream_is : (number : ℕ) (sapi : Sapi) (body : List ℕ) (ccm connections radio : Bool) → (ccm ≡ true → connections ≡ false)
    → dtap_received number sapi (body_word (if ccm then link_management else if (SWITCH_LINK == SWITCH_LINK) && connections then connection_control else if not (SWITCH_LINK == SWITCH_LINK) && radio then radio_signalling else other) SWITCH_LINK body)
    ≡ flat_map (sent_by number sapi) (option_to_list (if connections then result_ok (sccp_reading body) else None))
stream_is number sapi body true true radio differ = absurd (true≢false (differ refl))
stream_is number sapi body true false radio differ = link_none number sapi body
stream_is number sapi body false true radio differ = message_is number sapi (sccp_reading body)
stream_is number sapi body false false radio differ = refl

frame_is : (number : ℕ) (sapi : Sapi) (frame : Frame) →
    received_from number sapi frame ≡ flat_map (sent_by number sapi) (option_to_list (sccp_in frame))
unfolding word_of
frame_is number sapi frame = stream_is number sapi frame.body (frame.stream == CCM_STREAM) (frame.stream == SCCP_STREAM) (frame.stream == RSL_STREAM)
    (λ hit. ap (λ (k : ℕ). k == SCCP_STREAM) (eqb-true frame.stream CCM_STREAM hit))

frames_are : (number : ℕ) (sapi : Sapi) (frames : List Frame) →
    flat_map (received_from number sapi) frames ≡ flat_map (sent_by number sapi) (flat_map (λ frame. option_to_list (sccp_in frame)) frames)
frames_are number sapi [] = refl
frames_are number sapi (frame ∷ frames) =
    ap (λ (xs : Texts). xs ++ flat_map (received_from number sapi) frames) (frame_is number sapi frame)
    ∙ ap (λ (xs : Texts). flat_map (sent_by number sapi) (option_to_list (sccp_in frame)) ++ xs) (frames_are number sapi frames)
    ∙ sym (flat_map-append (sent_by number sapi) (option_to_list (sccp_in frame)) (flat_map (λ (f : Frame). option_to_list (sccp_in f)) frames))

-- ---- all that arrived

pub arrived_is_sent : (number : ℕ) (sapi : Sapi) (c : Controller) (steps : List Step) (moments : List Moment) (octets : List ℕ) → IsHistory number c steps moments → IsPrefix (frames_from SWITCH_LINK steps) (frames_in octets)
    → IsPart (switched number sapi moments).arrived (sent_in octets number sapi)
arrived_is_sent number sapi c steps moments octets history taken =
    let read : Frame → List Sccp = λ frame. option_to_list (sccp_in frame) in
    let frames : List Frame = frames_from SWITCH_LINK steps in
    let is : flat_map (received_in number sapi) moments ≡ flat_map (sent_by number sapi) (flat_map read frames) = history_received number sapi c steps moments history ∙ steps_received number sapi steps ∙ frames_are number sapi frames in
    part_trans (sent_in octets number sapi) (switched number sapi moments).arrived (flat_map (received_in number sapi) moments) (arrived_part number sapi nothing_switched moments)
    (part_of_prefix (flat_map (received_in number sapi) moments) (sent_in octets number sapi)
    (subst (λ (xs : Texts). IsPrefix xs (sent_in octets number sapi)) (sym is)
    (prefix_flat_map (sent_by number sapi) (flat_map read frames) (flat_map read (frames_in octets)) (prefix_flat_map read frames (frames_in octets) taken))))
