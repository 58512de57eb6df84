-- SPDX-License-Identifier: MIT OR Apache-2.0
-- The messages handed by a connection's frames are those handed by its messages.
use Rattle.controller_model.proofs.Prelude.{◌≡◌, ◌≢◌, ◌⊎◌, ℕ, ◌==◌, ◌≤◌, ◌&&◌, Bool, true, false, not, if◌then◌else◌, List, [], ◌∷◌, ◌++◌}
use Rattle.controller_model.proofs.Prelude.{drop, filter, fold, slice_index_or, Option, Some, None, Result, Ok, refl, sym, subst, ap, ◌∙◌}
use Rattle.controller_model.proofs.Prelude.{inl, inr, append_assoc, append-nil, true≢false, cases_Bool, cond-true, cond-false, eqb-true}
use Rattle.controller_model.proofs.Prelude.{and_parts, flat_map-append, AllByRecursion, flat_map, Channel, Message, Station, Out}
use Rattle.controller_model.proofs.Prelude.{SWITCH_LINK, IsReadOf, outs_of, AllByRecursion-append, State, Closed, Removed, Connection}
use Rattle.controller_model.proofs.Prelude.{Roles, roles_of, IsHandedTo, IsOpen, is_dtap, Sapi, RslFault, Rsl, rsl_text, station_out, handed_of}
use Rattle.controller_model.proofs.Prelude.{handed_by_message, is_of, Switched, with_moment, AreHandedToServing, HasNoStream, IsThere, Moment}
use Rattle.controller_model.proofs.Prelude.{all_messages, connection_of, outs_for, Owns, OwnsOpen, IsSent, Step, Controller, place_of, step}
use Rattle.controller_model.proofs.Prelude.{handed_by, DataMessage, rsl_reading, rsl_discriminator, rsl_octet}
use Rattle.conn_messages.specs.Out.{out_of}
use Rattle.controller_model.proofs.LifeLaws.DownlinkLife.{moments_of}
use Rattle.controller_model.proofs.LifeLaws.Fitting.{Fits, step_fits}
use Rattle.controller_model.proofs.LifeLaws.OwningWords.{Holds}
use Rattle.controller_model.proofs.LifeLaws.SeenFrames.{IsText, both_filters, filter_first, is_out_for_station, apart, texts_back, texts_of}
use Rattle.controller_model.proofs.LifeLaws.Silence.{step_silence}
use Rattle.controller_model.proofs.LifeLaws.Switched.{first_empty}
use Rattle.controller_model.proofs.LifeLaws.Turns.{step_does}
use Rattle.controller_model.proofs.LifeLaws.UsingLife.{run_step}
use Rattle.controller_model.proofs.LifeLaws.UsingRows.{Uses}
use Rattle.controller_model.proofs.LifeLaws.Places.{free≢use}
use Rattle.controller_model.specs.Views.{handed}
use Rattle.rsl_codec.specs.declared.rsl.Rsl.TheVariants as rsl
use Rattle.rsl_codec.specs.RslText.{rsl_element_text}
use Rattle.rsl_codec.specs.RslType.{type_of}

-- ---- two messages in one frame

pub is_request : Rsl → Bool
is_request x = (rsl_discriminator (type_of x) == 3) && (rsl_octet (type_of x) == 1)

pub request_is : (x : Rsl) → is_request x ≡ true → (r : DataMessage) × (x ≡ rsl.DataRequest r)
unfolding is_request
request_is (rsl.DataRequest r) is = (r, refl)
request_is _ is = absurd (true≢false (sym is))

pub request_known : (r : DataMessage) → is_request (rsl.DataRequest r) ≡ true
unfolding is_request
request_known r = refl

hands_none : (x : Rsl) → is_request x ≡ false → (sapi : Sapi) → handed_by sapi (Ok x) ≡ []
unfolding is_request
hands_none (rsl.DataRequest r) is sapi = absurd (true≢false is)
hands_none _ is sapi = refl

pub same_channel : (r r' : DataMessage) → rsl_text (rsl.DataRequest r) ≡ rsl_text (rsl.DataRequest r') → r.channel ≡ r'.channel
unfolding rsl_element_text
same_channel r r' same = ap (λ (xs : List ℕ). slice_index_or xs 3 0) same

same_request : (sapi : Sapi) (r r' : DataMessage) →
    rsl_text (rsl.DataRequest r) ≡ rsl_text (rsl.DataRequest r') →
    handed_by sapi (Ok (rsl.DataRequest r')) ≡ handed_by sapi (Ok (rsl.DataRequest r))
unfolding rsl_element_text
same_request sapi r r' same =
    let links : r.link ≡ r'.link = ap (λ (xs : List ℕ). slice_index_or xs 5 0) same in
    let messages : r.l3 ≡ r'.l3 = sym (append-nil r.l3) ∙ ap (drop 9) same ∙ append-nil r'.l3 in
    ap (λ (k : ℕ). if is_of sapi k && is_dtap r'.l3 then r'.l3 ∷ [] else []) (sym links)
    ∙ ap (λ (xs : List ℕ). if is_of sapi r.link && is_dtap xs then xs ∷ [] else []) (sym messages)

pub same_kind : (x x' : Rsl) → rsl_text x ≡ rsl_text x' → is_request x ≡ is_request x'
unfolding is_request
same_kind x x' same = ap (λ (xs : List ℕ). (slice_index_or xs 0 0 == 3) && (slice_index_or xs 1 0 == 1)) same

hands_same : (sapi : Sapi) (x x' : Rsl) → rsl_text x ≡ rsl_text x' → handed_by sapi (Ok x') ≡ handed_by sapi (Ok x)
hands_same sapi x x' same = elim (cases_Bool (is_request x)) [
  | inl hit ↦
      let one = request_is x hit in
      let other = request_is x' (sym (same_kind x x' same) ∙ hit) in
      ap (λ (y : Rsl). handed_by sapi (Ok y)) other.1
      ∙ same_request sapi one.0 other.0 (ap rsl_text (sym one.1) ∙ same ∙ ap rsl_text other.1)
      ∙ ap (λ (y : Rsl). handed_by sapi (Ok y)) (sym one.1)
  | inr miss ↦ hands_none x' (sym (same_kind x x' same) ∙ miss) sapi ∙ sym (hands_none x miss sapi)
]

handed_on : (sapi : Sapi) (station : ℕ) (x : Rsl) → handed_by sapi (Ok x) ≡ handed_by_message sapi (Station station x)
handed_on sapi station (rsl.DataRequest r) = refl
handed_on sapi station _ = refl

-- ---- frames to stations

-- nothing is handed to the switch
abbrev pub RightFor : Sapi → Message → Type 0
RightFor sapi (Station station x) = station ≡ SWITCH_LINK → handed_by_message sapi (Station station x) ≡ []
RightFor sapi _ = Unit {0}

in_station : Sapi → Out → List (List ℕ)
in_station sapi out = handed_by sapi (rsl_reading out.frame.body)

read_on : (number station : ℕ) (x : Rsl) (m' : Message) →
    out_of number (Station station x) ≡ out_of number m' →
    IsReadOf number m' (rsl_text x) →
    (sapi : Sapi) →
    handed_by sapi (rsl_reading (rsl_text x)) ≡ handed_by_message sapi (Station station x)
unfolding out_of
read_on number station x (Station station' x') same read sapi =
    ap (λ (r : Result Rsl RslFault). handed_by sapi r) read ∙ hands_same sapi x x' (ap (λ (o : Out). o.frame.body) same) ∙ handed_on sapi station x
read_on number station x _ same read sapi = absurd (apart 0 0xfd refl (ap (λ (o : Out). o.frame.stream) same))

station_frame : (number : ℕ) (m : Message) →
    IsText number (out_of number m) →
    (sapi : Sapi) →
    RightFor sapi m →
    flat_map (in_station sapi) (filter is_out_for_station (out_of number m ∷ [])) ≡ handed_by_message sapi m
unfolding out_of in_station is_out_for_station
station_frame number (Station station x) text sapi right = elim (cases_Bool (station == SWITCH_LINK)) [
  | inl hit ↦ ap (flat_map (in_station sapi)) (cond-false _ (station_out number station x ∷ []) [] (ap not hit)) ∙ sym (right (eqb-true station SWITCH_LINK hit))
  | inr miss ↦
      ap (flat_map (in_station sapi)) (cond-true _ (station_out number station x ∷ []) [] (ap not miss))
      ∙ append-nil (handed_by sapi (rsl_reading (rsl_text x))) ∙ read_on number station x text.message text.put text.read sapi
]
station_frame number _ text sapi right = refl

station_frames : (number : ℕ) (ms : List Message) →
    AllByRecursion (λ m. IsText number (out_of number m)) ms →
    (sapi : Sapi) →
    AllByRecursion (RightFor sapi) ms →
    flat_map (in_station sapi) (filter is_out_for_station (outs_of number ms)) ≡ handed_of sapi ms
station_frames number [] texts sapi right = refl
station_frames number (m ∷ ms) texts sapi right =
    ap (flat_map (in_station sapi)) (filter_first is_out_for_station (out_of number m) (outs_of number ms))
    ∙ flat_map-append (in_station sapi) (filter is_out_for_station (out_of number m ∷ [])) (filter is_out_for_station (outs_of number ms))
    ∙ ap (λ (xs : List (List ℕ)). xs ++ flat_map (in_station sapi) (filter is_out_for_station (outs_of number ms))) (station_frame number m texts.0 sapi right.0)
    ∙ ap (λ (xs : List (List ℕ)). handed_by_message sapi m ++ xs) (station_frames number ms texts.1 sapi right.1)

pub handed_seen : (number : ℕ) (outs : List Out) (ms : List Message) →
    1 ≤ number →
    outs_for number outs ≡ outs_of number ms →
    AllByRecursion IsSent outs →
    (sapi : Sapi) →
    AllByRecursion (RightFor sapi) ms →
    handed outs number sapi ≡ handed_of sapi ms
unfolding handed in_station is_out_for_station
handed_seen number outs ms from_one are sent sapi right =
    ap (flat_map (in_station sapi)) (both_filters number is_out_for_station outs ∙ ap (filter is_out_for_station) are)
    ∙ station_frames number ms (texts_back number ms (subst (AllByRecursion (IsText number)) are (texts_of number outs from_one sent))) sapi right

-- ---- nothing is handed to the switch

right_none : (sapi : Sapi) (ms : List Message) → handed_of sapi ms ≡ [] → AllByRecursion (RightFor sapi) ms
right_none sapi [] none = tt
right_none sapi (m ∷ ms) none =
    let first = first_empty (handed_by_message sapi m) (handed_of sapi ms) none in
    (of m first, right_none sapi ms (sym (ap (λ (xs : List (List ℕ)). xs ++ handed_of sapi ms) first) ∙ none))
  where
    of : (m : Message) → handed_by_message sapi m ≡ [] → RightFor sapi m
    of (Station station x) is = λ same. is
    of _ is = tt

right_one : (sapi : Sapi) (c : Channel) (m : Message) → c.station ≢ SWITCH_LINK → IsHandedTo c m → RightFor sapi m
right_one sapi c (Station station (rsl.DataRequest r)) other claim = λ same. elim (cases_Bool (is_of sapi r.link && is_dtap r.l3)) [
  | inl hit ↦ absurd (other (sym (claim (and_parts (is_of sapi r.link) (is_dtap r.l3) hit).1).0 ∙ same))
  | inr miss ↦ cond-false _ (r.l3 ∷ []) [] miss
]
right_one sapi c (Station station _) other claim = λ same. refl
right_one sapi c _ other claim = tt

right_all : (sapi : Sapi) (c : Channel) (ms : List Message) →
    c.station ≢ SWITCH_LINK →
    AllByRecursion (IsHandedTo c) ms →
    AllByRecursion (RightFor sapi) ms
right_all sapi c [] other all = tt
right_all sapi c (m ∷ ms) other all = (right_one sapi c m other all.0, right_all sapi c ms other all.1)

pub open_or : (state : State) → IsOpen state ⊎ (IsOpen state → ⊥)
open_or (Closed clearing) = inr (λ there. there)
open_or Removed = inr (λ there. there)
open_or _ = inl tt

-- the switch's link has no channel that is in use
serving_other : (c : Controller) (n : ℕ) (roles : Roles) →
    Uses c.links c.links c →
    Owns c.channels c.links n roles →
    roles.serving.station ≢ SWITCH_LINK
serving_other c n roles uses owns same = free≢use n (sym (uses.blank (place_of roles.serving) (λ alive. alive.1 same)) ∙ owns.using.0)

pub right_put : (sapi : Sapi) (number : ℕ) (c : Controller) (o : Option Connection) (put : List Message) →
    Uses c.links c.links c →
    OwnsOpen c.channels c.links number o →
    AreHandedToServing o put →
    ((IsThere o → ⊥) → HasNoStream put) →
    AllByRecursion (RightFor sapi) put
right_put sapi number c None put uses owns serving over = right_none sapi put (serving sapi)
right_put sapi number c (Some s) put uses owns serving over = elim (open_or s.state) [
  | inl there ↦ right_all sapi s.serving put (serving_other c number (roles_of s) uses (owns there)) serving
  | inr gone ↦ right_none sapi put ((over gone).hands sapi)
]

pub right_run : (sapi : Sapi) (number : ℕ) (c : Controller) (from_one : 1 ≤ number) (fits : (n : ℕ) → 1 ≤ n → Fits n c) →
    Holds c.links c →
    Uses c.links c.links c →
    (steps : List Step) →
    AllByRecursion (RightFor sapi) (all_messages (moments_of number c from_one (fits number from_one) steps))
unfolding moments_of
right_run sapi number c from_one fits holds uses [] = tt
right_run sapi number c from_one fits holds uses (s ∷ ss) =
    let mine = fits number from_one in
    let does = step_does number c s from_one mine.numbered in
    let next : Controller = (step c s).next in
    let after = run_step c s fits holds uses in
    let more : (n : ℕ) → 1 ≤ n → Fits n next = λ n first. step_fits n c s first (fits n first) in
    let silence = step_silence number c s from_one mine in
    AllByRecursion-append (RightFor sapi) does.put (all_messages (moments_of number next from_one (more number from_one) ss))
    (right_put sapi number next (connection_of next number) does.put after.uses (after.holds.each number) silence.serving silence.over)
    (right_run sapi number next from_one more after.holds after.uses ss)

pub handed_so_far : (number : ℕ) (sapi : Sapi) (a : Switched) (moments : List Moment) →
    (fold (with_moment number sapi) a moments).handed ≡ a.handed ++ handed_of sapi (all_messages moments)
handed_so_far number sapi a [] = sym (append-nil a.handed)
handed_so_far number sapi a (m ∷ ms) =
    handed_so_far number sapi (with_moment number sapi a m) ms
    ∙ append_assoc a.handed (handed_of sapi m.messages) (handed_of sapi (all_messages ms))
    ∙ ap (λ (xs : List (List ℕ)). a.handed ++ xs) (sym (flat_map-append (handed_by_message sapi) m.messages (all_messages ms)))
