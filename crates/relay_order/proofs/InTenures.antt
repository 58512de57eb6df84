-- SPDX-License-Identifier: MIT OR Apache-2.0
-- The messages that the frames for a station hand in one tenure of a channel are those that are
-- handed in it to one connection.
use Rattle.std.proofs.Common.{◌≡◌, ◌≢◌, ℕ, zero, suc, ◌+◌, ◌==◌, ◌≤◌, ◌&&◌, not, Bool, true, false, if◌then◌else◌, List, [], ◌∷◌, ◌++◌, length, filter, fold, map, Option, Some, None, refl, sym, ap, ◌∙◌, subst, inl, inr, arith, append_assoc}
use Rattle.std.specs.Prelude.{option_to_list}
use Rattle.std.proofs.lemmas.Bool.{and_from, and_parts, cases_Bool, cond-true, cond-false, eq-eqb, eqb-true, ne_eqb}
use Rattle.std.proofs.lemmas.Grind.{flat_map-append}
use Rattle.std.proofs.lemmas.List.{map-append}
use Rattle.std.specs.List.{flat_map}
use Rattle.conn_messages.specs.declared.channel.Place.{Place}
use Rattle.conn_messages.specs.declared.out.Out.{Out}
use Rattle.conn_messages.specs.declared.parameters.TheConstants.{SWITCH_LINK}
use Rattle.conn_rules.specs.Streams.{is_dtap, is_of}
use Rattle.controller_model.specs.Controller.{place_at}
use Rattle.controller_model.specs.Views.{to_station}
use Rattle.controller_worker.specs.Steps.{frames_to}
use Rattle.dtap_codec.specs.declared.sapi.Sapi.{Sapi}
use Rattle.ipa_framing.specs.declared.frame.Frame.{Frame}
use Rattle.octets.specs.Lists.{IsPrefix}
use Rattle.rsl_codec.specs.declared.radio_link.Data.{Data}
use Rattle.rsl_codec.specs.declared.rsl.Rsl.{Rsl}
use Rattle.rsl_codec.specs.declared.rsl.Rsl.TheVariants as rsl
use Rattle.world_model.specs.declared.seat.Tenure.{Tenure}
use Rattle.world_model.specs.Stations.{rsl_in}
use Rattle.relay_order.specs.Order.{Handed, is_in}
use Rattle.relay_order.specs.Stations.{handed_by, handed_from, tenure_after}
use Rattle.relay_order.proofs.Handing.{handed_one, handed_there, handing_from, handing_of, owner_after, owner_of, request_owned, tenure_so_far}
use Rattle.relay_order.proofs.Tenures.{Activated, AreOwned, IsOwned, activates, activation_in, after_out, is_number, none_activated}

abbrev Texts : Type 0
Texts = List (List ℕ)

abbrev pub messages_in : List Frame → List Rsl
messages_in frames = flat_map (λ frame. option_to_list (rsl_in frame)) frames

abbrev pub tenure_at : ℕ → ℕ → ℕ → Tenure
tenure_at station channel number = record { at = place_at station channel; number = number }

-- ---- one frame

-- what the reading of a frame hands in a tenure, where this many began
abbrev hands_by : ℕ → ℕ → Sapi → ℕ → Option Rsl → Texts
hands_by begun channel sapi tenure None = []
hands_by begun channel sapi tenure (Some m) = if begun == tenure then handed_by channel sapi m else []

abbrev begun_after : ℕ → ℕ → Option Rsl → ℕ
begun_after channel begun None = begun
begun_after channel begun (Some m) = tenure_after channel begun m

read_first : (begun channel : ℕ) (sapi : Sapi) (tenure : ℕ) (x : Option Rsl) (ms : List Rsl) →
    handed_from begun channel sapi tenure (option_to_list x ++ ms) ≡ hands_by begun channel sapi tenure x ++ handed_from (begun_after channel begun x) channel sapi tenure ms
read_first begun channel sapi tenure None ms = refl
read_first begun channel sapi tenure (Some m) ms = refl

counted : (b : Bool) (channel conn : ℕ) (ns : List ℕ) (x : Option Rsl) →
    length (if b && is_number channel (activation_in x) then conn ∷ ns else ns) ≡ (if b then begun_after channel (length ns) x else length ns)
counted false channel conn ns x = refl
counted true channel conn ns None = refl
counted true channel conn ns (Some (rsl.ChannelActivation a)) = by (a.channel == channel)
  where
    by : (b : Bool) → length (if b then conn ∷ ns else ns) ≡ (if b then length ns + 1 else length ns)
    by true = omega arith
    by false = refl
counted true channel conn ns (Some _) = refl

begun_is : (activated : Activated) (out : Out) (station channel : ℕ) →
    length (after_out activated out (place_at station channel)) ≡ (if out.to == station then begun_after channel (length (activated (place_at station channel))) (rsl_in out.frame) else length (activated (place_at station channel)))
unfolding activates
begun_is activated out station channel = counted (out.to == station) channel out.conn (activated (place_at station channel)) (rsl_in out.frame)

-- what a frame for the station hands
abbrev hands_at : Activated → ℕ → ℕ → Sapi → ℕ → Out → Texts
hands_at activated station channel sapi tenure out =
    if out.to == station then hands_by (length (activated (place_at station channel))) channel sapi tenure (rsl_in out.frame) else []

frames_first : (activated : Activated) (station channel : ℕ) (sapi : Sapi) (tenure : ℕ) (out : Out) (outs : List Out)
    → handed_from (length (activated (place_at station channel))) channel sapi tenure (messages_in (frames_to station (out ∷ outs)))
    ≡ hands_at activated station channel sapi tenure out ++ handed_from (length (after_out activated out (place_at station channel))) channel sapi tenure (messages_in (frames_to station outs))
frames_first activated station channel sapi tenure out outs =
    by (out.to == station) (begun_is activated out station channel)
  where
    by : (b : Bool) → length (after_out activated out (place_at station channel)) ≡ (if b then begun_after channel (length (activated (place_at station channel))) (rsl_in out.frame) else length (activated (place_at station channel)))
        → handed_from (length (activated (place_at station channel))) channel sapi tenure (messages_in (map (λ (o : Out). o.frame) (if b then out ∷ filter (λ (o : Out). o.to == station) outs else filter (λ (o : Out). o.to == station) outs)))
        ≡ (if b then hands_by (length (activated (place_at station channel))) channel sapi tenure (rsl_in out.frame) else []) ++ handed_from (length (after_out activated out (place_at station channel))) channel sapi tenure (messages_in (frames_to station outs))
    by true count =
        read_first (length (activated (place_at station channel))) channel sapi tenure (rsl_in out.frame) (messages_in (frames_to station outs))
        ∙ ap (λ (k : ℕ). hands_by (length (activated (place_at station channel))) channel sapi tenure (rsl_in out.frame) ++ handed_from k channel sapi tenure (messages_in (frames_to station outs))) (sym count)
    by false count = ap (λ (k : ℕ). handed_from k channel sapi tenure (messages_in (frames_to station outs))) (sym count)

-- ---- it is what is handed to the connection whose tenure it is

-- where the tenure of this number began, it began for this connection
abbrev IsOwnedBy : ℕ → Activated → Place → ℕ → Type 0
IsOwnedBy number activated at tenure = (n : ℕ) → 1 ≤ n → owner_of (activated at) tenure ≡ Some n → n ≡ number

none_in : (t : Tenure) (q : Bool) → map (λ (h : Handed). h.message) (filter (is_in t) (if q then [] else [])) ≡ []
none_in t true = refl
none_in t false = refl

if_none : (b : Bool) → (let xs : Texts = if b then [] else [] in xs) ≡ []
if_none true = refl
if_none false = refl

none_of : (b q : Bool) → (let xs : Texts = if b then if q then [] else [] else [] in xs) ≡ []
none_of true true = refl
none_of true false = refl
none_of false q = refl

-- what a frame hands in the tenure, and what it hands in others
in_tenure : (t : Tenure) (h : Handed) (p w : Bool) →
    is_in t h ≡ true →
    p ≡ true →
    (if w then h.message ∷ [] else []) ≡ map (λ (g : Handed). g.message) (filter (is_in t) (if p then if w then h ∷ [] else [] else []))
in_tenure t h p w inside own =
    by w ∙ ap (λ (b : Bool). map (λ (g : Handed). g.message) (filter (is_in t) (if b then if w then h ∷ [] else [] else []))) (sym own)
  where
    by : (w : Bool) → (if w then h.message ∷ [] else []) ≡ map (λ (g : Handed). g.message) (filter (is_in t) (if w then h ∷ [] else []))
    by true = ap (map (λ (g : Handed). g.message)) (sym (cond-true (is_in t h) (h ∷ []) [] inside))
    by false = refl

not_in_tenure : (t : Tenure) (h : Handed) (p w : Bool) →
    is_in t h ≡ false →
    map (λ (g : Handed). g.message) (filter (is_in t) (if p then if w then h ∷ [] else [] else [])) ≡ []
not_in_tenure t h true true outside = ap (map (λ (g : Handed). g.message)) (cond-false (is_in t h) (h ∷ []) [] outside)
not_in_tenure t h true false outside = refl
not_in_tenure t h false w outside = refl

-- a DATA REQUEST that is in the tenure is of the tenure's connection
own_request : (activated : Activated) (out : Out) (outs : List Out) (station channel tenure number : ℕ) (d : Data) → IsOwned activated out → IsOwnedBy number (fold after_out activated (out ∷ outs)) (place_at station channel) tenure → rsl_in out.frame ≡ Some (rsl.DataRequest d)
    → place_at out.to d.channel ≡ place_at station channel → length (activated (place_at station channel)) ≡ tenure → out.conn ≡ number
own_request activated out outs station channel tenure number d owned of_number reads here count =
    let at : Place = place_at station channel in
    let own = request_owned activated out (Some (rsl.DataRequest d)) d.channel owned reads refl in
    let there : owner_of (activated at) (length (activated at)) ≡ Some out.conn = subst (λ (p : Place). owner_of (activated p) (length (activated p)) ≡ Some out.conn) here own.0 in
    of_number out.conn own.1 (owner_after activated (out ∷ outs) at tenure out.conn (subst (λ (k : ℕ). owner_of (activated at) k ≡ Some out.conn) count there))

for_station : (number station : ℕ) (out : Out) → station ≢ SWITCH_LINK → out.to ≡ station → out.conn ≡ number → to_station number out ≡ true
for_station number station out other here conn =
    and_from (out.conn == number) (not (out.to == SWITCH_LINK)) (eq-eqb out.conn number conn)
    (ap not (ne_eqb out.to SWITCH_LINK (λ same. other (sym here ∙ same))))

data_inside : (activated : Activated) (out : Out) (outs : List Out) (station channel : ℕ) (sapi : Sapi) (tenure number : ℕ) (d : Data) → station ≢ SWITCH_LINK → IsOwned activated out → IsOwnedBy number (fold after_out activated (out ∷ outs)) (place_at station channel) tenure → rsl_in out.frame ≡ Some (rsl.DataRequest d)
    → (out.to == station) && (d.channel == channel) && (length (activated (place_at out.to d.channel)) == tenure) ≡ true
    → (if out.to == station then hands_by (length (activated (place_at station channel))) channel sapi tenure (Some (rsl.DataRequest d)) else [])
    ≡ map (λ h. h.message) (filter (is_in (tenure_at station channel tenure)) (if to_station number out then handed_there activated sapi out.to (Some (rsl.DataRequest d)) else []))
data_inside activated out outs station channel sapi tenure number d other owned of_number reads hit =
    let w : Bool = is_of sapi d.link && is_dtap d.l3 in
    let both = and_parts ((out.to == station) && (d.channel == channel)) (length (activated (place_at out.to d.channel)) == tenure) hit in
    let place = and_parts (out.to == station) (d.channel == channel) both.0 in
    let to : out.to ≡ station = eqb-true out.to station place.0 in
    let on : d.channel ≡ channel = eqb-true d.channel channel place.1 in
    let here : place_at out.to d.channel ≡ place_at station channel = ap (λ (k : ℕ). place_at k d.channel) to ∙ ap (λ (k : ℕ). place_at station k) on in
    let count : length (activated (place_at station channel)) ≡ tenure = sym (ap (λ (p : Place). length (activated p)) here) ∙ eqb-true (length (activated (place_at out.to d.channel))) tenure both.1 in
    let conn : out.conn ≡ number = own_request activated out outs station channel tenure number d owned of_number reads here count in
    cond-true (out.to == station) (hands_by (length (activated (place_at station channel))) channel sapi tenure (Some (rsl.DataRequest d))) [] place.0
    ∙ cond-true (length (activated (place_at station channel)) == tenure) (if (d.channel == channel) && w then d.l3 ∷ [] else []) [] (eq-eqb (length (activated (place_at station channel))) tenure count)
    ∙ ap (λ (b : Bool). if b && w then d.l3 ∷ [] else []) place.1
    ∙ in_tenure (tenure_at station channel tenure) (record { tenure = tenure_so_far activated (place_at out.to d.channel); message = d.l3 }) (to_station number out) w hit (for_station number station out other to conn)

data_outside : (activated : Activated) (out : Out) (station channel : ℕ) (sapi : Sapi) (tenure number : ℕ) (d : Data)
    → (out.to == station) && (d.channel == channel) && (length (activated (place_at out.to d.channel)) == tenure) ≡ false
    → (if out.to == station then hands_by (length (activated (place_at station channel))) channel sapi tenure (Some (rsl.DataRequest d)) else [])
    ≡ map (λ h. h.message) (filter (is_in (tenure_at station channel tenure)) (if to_station number out then handed_there activated sapi out.to (Some (rsl.DataRequest d)) else []))
data_outside activated out station channel sapi tenure number d miss =
    let w : Bool = is_of sapi d.link && is_dtap d.l3 in
    none_here (out.to == station) (d.channel == channel) refl refl
    ∙ sym (not_in_tenure (tenure_at station channel tenure) (record { tenure = tenure_so_far activated (place_at out.to d.channel); message = d.l3 }) (to_station number out) w miss)
  where
    none_here : (b c : Bool) →
        (out.to == station) ≡ b →
        (d.channel == channel) ≡ c →
        (if out.to == station then hands_by (length (activated (place_at station channel))) channel sapi tenure (Some (rsl.DataRequest d)) else []) ≡ []
    none_here false c to on = cond-false (out.to == station) (hands_by (length (activated (place_at station channel))) channel sapi tenure (Some (rsl.DataRequest d))) [] to
    none_here true false to on =
        cond-true (out.to == station) (hands_by (length (activated (place_at station channel))) channel sapi tenure (Some (rsl.DataRequest d))) [] to
        ∙ ap (λ (b : Bool). if length (activated (place_at station channel)) == tenure then if b && (is_of sapi d.link && is_dtap d.l3) then d.l3 ∷ [] else [] else []) on
        ∙ if_none (length (activated (place_at station channel)) == tenure)
    none_here true true to on =
        let here : place_at out.to d.channel ≡ place_at station channel = ap (λ (k : ℕ). place_at k d.channel) (eqb-true out.to station to) ∙ ap (λ (k : ℕ). place_at station k) (eqb-true d.channel channel on) in
        let late : (length (activated (place_at station channel)) == tenure) ≡ false =
        sym (ap (λ (p : Place). length (activated p) == tenure) here)
        ∙ sym (ap (λ (b : Bool). b && (d.channel == channel) && (length (activated (place_at out.to d.channel)) == tenure)) to ∙ ap (λ (b : Bool). b && (length (activated (place_at out.to d.channel)) == tenure)) on)
        ∙ miss in
        cond-true (out.to == station) (hands_by (length (activated (place_at station channel))) channel sapi tenure (Some (rsl.DataRequest d))) [] to
        ∙ cond-false (length (activated (place_at station channel)) == tenure) (if (d.channel == channel) && (is_of sapi d.link && is_dtap d.l3) then d.l3 ∷ [] else []) [] late

frame_hands : (activated : Activated) (out : Out) (outs : List Out) (station channel : ℕ) (sapi : Sapi) (tenure number : ℕ) (x : Option Rsl) → station ≢ SWITCH_LINK → IsOwned activated out → IsOwnedBy number (fold after_out activated (out ∷ outs)) (place_at station channel) tenure → rsl_in out.frame ≡ x
    → (if out.to == station then hands_by (length (activated (place_at station channel))) channel sapi tenure x else [])
    ≡ map (λ h. h.message) (filter (is_in (tenure_at station channel tenure)) (if to_station number out then handed_there activated sapi out.to x else []))
frame_hands activated out outs station channel sapi tenure number (Some (rsl.DataRequest d)) other owned of_number reads = elim (cases_Bool ((out.to == station) && (d.channel == channel) && (length (activated (place_at out.to d.channel)) == tenure))) [
  | inl hit ↦ data_inside activated out outs station channel sapi tenure number d other owned of_number reads hit
  | inr miss ↦ data_outside activated out station channel sapi tenure number d miss
]
frame_hands activated out outs station channel sapi tenure number (Some m) other owned of_number reads =
    none_of (out.to == station) (length (activated (place_at station channel)) == tenure) ∙ sym (none_in (tenure_at station channel tenure) (to_station number out))
frame_hands activated out outs station channel sapi tenure number None other owned of_number reads = if_none (out.to == station) ∙ sym (none_in (tenure_at station channel tenure) (to_station number out))

-- ---- all frames

filter_append : (p : Handed → Bool) (xs ys : List Handed) → filter p (xs ++ ys) ≡ filter p xs ++ filter p ys
filter_append p [] ys = refl
filter_append p (x ∷ xs) ys = by (p x) (filter_append p xs ys)
  where
    by : (b : Bool) →
        filter p (xs ++ ys) ≡ filter p xs ++ filter p ys →
        (if b then x ∷ filter p (xs ++ ys) else filter p (xs ++ ys)) ≡ (if b then x ∷ filter p xs else filter p xs) ++ filter p ys
    by true rest = ap (λ (hs : List Handed). x ∷ hs) rest
    by false rest = rest

-- the messages that the frames for a station hand in a tenure are those that are handed in it to
-- its connection
frames_hand : (station channel : ℕ) (sapi : Sapi) (tenure number : ℕ) → station ≢ SWITCH_LINK → (activated : Activated) (outs : List Out) → AreOwned activated outs → IsOwnedBy number (fold after_out activated outs) (place_at station channel) tenure
    → handed_from (length (activated (place_at station channel))) channel sapi tenure (messages_in (frames_to station outs))
    ≡ map (λ h. h.message) (filter (is_in (tenure_at station channel tenure)) (handing_from activated number sapi outs))
frames_hand station channel sapi tenure number other activated [] owned of_number = refl
frames_hand station channel sapi tenure number other activated (out ∷ outs) owned of_number =
    let t : Tenure = tenure_at station channel tenure in
    let rest : List Handed = handing_from (after_out activated out) number sapi outs in
    frames_first activated station channel sapi tenure out outs
    ∙ ap (λ (xs : Texts). xs ++ handed_from (length (after_out activated out (place_at station channel))) channel sapi tenure (messages_in (frames_to station outs)))
    (frame_hands activated out outs station channel sapi tenure number (rsl_in out.frame) other owned.0 of_number refl)
    ∙ ap (λ (xs : Texts). map (λ (h : Handed). h.message) (filter (is_in t) (handed_one activated number sapi out)) ++ xs) (frames_hand station channel sapi tenure number other (after_out activated out) outs owned.1 of_number)
    ∙ sym (ap (map (λ (h : Handed). h.message)) (filter_append (is_in t) (handed_one activated number sapi out) rest)
    ∙ map-append (λ (h : Handed). h.message) (filter (is_in t) (handed_one activated number sapi out)) (filter (is_in t) rest))

-- ---- a beginning of them

handed_beginning : (begun channel : ℕ) (sapi : Sapi) (tenure : ℕ) (xs ys : List Rsl) →
    IsPrefix (handed_from begun channel sapi tenure xs) (handed_from begun channel sapi tenure (xs ++ ys))
handed_beginning begun channel sapi tenure [] ys = (handed_from begun channel sapi tenure ys, refl)
handed_beginning begun channel sapi tenure (m ∷ ms) ys =
    let front : Texts = if begun == tenure then handed_by channel sapi m else [] in
    let rest = handed_beginning (tenure_after channel begun m) channel sapi tenure ms ys in
    (rest.0, append_assoc front (handed_from (tenure_after channel begun m) channel sapi tenure ms) rest.0 ∙ ap (λ (xs : Texts). front ++ xs) rest.1)

beginning_hands : (channel : ℕ) (sapi : Sapi) (tenure : ℕ) (gs fs : List Frame) →
    IsPrefix gs fs →
    IsPrefix (handed_from 0 channel sapi tenure (messages_in gs)) (handed_from 0 channel sapi tenure (messages_in fs))
beginning_hands channel sapi tenure gs fs (rest, is) =
    subst (λ (ms : List Rsl). IsPrefix (handed_from 0 channel sapi tenure (messages_in gs)) (handed_from 0 channel sapi tenure ms))
    (sym (flat_map-append (λ (frame : Frame). option_to_list (rsl_in frame)) gs rest) ∙ ap messages_in is)
    (handed_beginning 0 channel sapi tenure (messages_in gs) (messages_in rest))

-- the connection of a tenure, or any where the tenure didn't begin
tenure_number : (ns : List ℕ) (tenure : ℕ) → (number : ℕ) × (1 ≤ number) × ((n : ℕ) → 1 ≤ n → owner_of ns tenure ≡ Some n → n ≡ number)
tenure_number ns tenure = by (owner_of ns tenure)
  where
    by : (o : Option ℕ) → (number : ℕ) × (1 ≤ number) × ((n : ℕ) → 1 ≤ n → o ≡ Some n → n ≡ number)
    by None = (1, omega arith, λ n from_one is. absurd cc)
    by (Some zero) = (1, omega arith, λ n from_one is. absurd (let none : 0 ≡ n = cc in omega arith))
    by (Some (suc m)) = (suc m, omega arith, λ n from_one is. cc)

-- What a beginning of the frames for a station hands in one tenure of a channel is a beginning of
-- what is handed in this tenure to one connection.
pub beginnings_hand : (outs : List Out) → AreOwned none_activated outs → (station channel : ℕ) (sapi : Sapi) (tenure : ℕ) (frames : List Frame) → 1 ≤ station → IsPrefix frames (frames_to station outs)
    → (number : ℕ) × (1 ≤ number) × IsPrefix (handed_from 0 channel sapi tenure (messages_in frames)) (map (λ h. h.message) (filter (is_in (tenure_at station channel tenure)) (handing_of outs number sapi)))
beginnings_hand outs owned station channel sapi tenure frames from_one beginning =
    let of = tenure_number (fold after_out none_activated outs (place_at station channel)) tenure in (
      of.0,
      of.1,
      subst (IsPrefix (handed_from 0 channel sapi tenure (messages_in frames)))
          (frames_hand station channel sapi tenure of.0 (λ same. absurd (omega arith)) none_activated outs owned of.2)
          (beginning_hands channel sapi tenure frames (frames_to station outs) beginning),
    )
