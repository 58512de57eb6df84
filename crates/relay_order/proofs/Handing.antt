-- SPDX-License-Identifier: MIT OR Apache-2.0
-- The messages that the frames of a controller hand, by connection and tenure: those that were
-- handed to the connection's mobile.
use Rattle.std.proofs.Common.{◌≡◌, ℕ, zero, suc, slice_get, ◌+◌, ◌==◌, ◌≤◌, ◌&&◌, not, Bool, true, false, if◌then◌else◌, List, [], ◌∷◌, ◌++◌, length, filter, fold, map, Option, Some, None, Result, Ok, Err, refl, sym, ap, ◌∙◌, subst, inl, inr, true≢false, arith, Contains}
use Rattle.std.specs.Result.{result_ok}
use Rattle.std.proofs.lemmas.Bool.{and_from, and_parts, cases_Bool, cond-true, cond-false, eq-eqb, eqb-true, ne_eqb}
use Rattle.std.proofs.lemmas.List.{map-append}
use Rattle.std.specs.List.{AllByRecursion, flat_map}
use Rattle.conn_rules.proofs.DownlinkMessages.{AllByRecursion-append}
use Rattle.conn_messages.specs.declared.channel.Place.{Place}
use Rattle.conn_messages.specs.declared.message.Message.{Message}
use Rattle.conn_messages.specs.declared.message.Message.TheVariants.{Station}
use Rattle.conn_messages.specs.declared.out.Out.{Out}
use Rattle.conn_messages.specs.declared.parameters.TheConstants.{SWITCH_LINK}
use Rattle.conn_messages.specs.Out.{out_of}
use Rattle.conn_rules.specs.Streams.{is_dtap, is_of}
use Rattle.controller_model.specs.Controller.{place_at}
use Rattle.controller_model.specs.LifeLaws.Sending.{IsSent}
use Rattle.controller_model.specs.Views.{handed, handed_by, to_station}
use Rattle.controller_model.proofs.LifeLaws.UsingRows.{all_contained}
use Rattle.dtap_codec.specs.declared.sapi.Sapi.{Sapi}
use Rattle.ipa_framing.specs.declared.streams.TheConstants.{RSL_STREAM}
use Rattle.rsl_codec.specs.declared.fault.RslFault.{RslFault}
use Rattle.rsl_codec.specs.declared.rsl.Rsl.{Rsl}
use Rattle.rsl_codec.specs.declared.rsl.Rsl.TheVariants as rsl
use Rattle.rsl_codec.specs.RslReading.{rsl_reading}
use Rattle.world_model.specs.declared.seat.Tenure.{Tenure}
use Rattle.world_model.specs.Stations.{rsl_in}
use Rattle.relay_order.specs.Order.{Handed, Handing}
use Rattle.relay_order.proofs.Tenures.{Activated, AreOwned, IsOwned, activates, after_out, latest, none_activated, request_in, is_number, requests}

abbrev Texts : Type 0
Texts = List (List ℕ)

-- ---- what is handed

-- the last tenure of a channel so far
abbrev pub tenure_so_far : Activated → Place → Tenure
tenure_so_far activated at = record { at = at; number = length (activated at) }

abbrev pub handed_there : Activated → Sapi → ℕ → Option Rsl → List Handed
handed_there activated sapi station (Some (rsl.DataRequest d)) =
    if is_of sapi d.link && is_dtap d.l3
    then record { tenure = tenure_so_far activated (place_at station d.channel); message = d.l3 } ∷ [] else []
handed_there activated sapi station _ = []

abbrev pub handed_one : Activated → ℕ → Sapi → Out → List Handed
handed_one activated number sapi out =
    if to_station number out then handed_there activated sapi out.to (rsl_in out.frame) else []

-- what these frames hand to a connection, after these activations
abbrev pub handing_from : Activated → ℕ → Sapi → List Out → List Handed
handing_from activated number sapi [] = []
handing_from activated number sapi (out ∷ outs) =
    handed_one activated number sapi out ++ handing_from (after_out activated out) number sapi outs

-- the messages of each connection that these frames hand, with the tenure of a channel in which
-- each is handed
abbrev pub handing_of : List Out → Handing
handing_of outs number sapi = handing_from none_activated number sapi outs

-- ---- it is what was handed to the mobile

-- a frame of a connection for a station is RSL
message_stream : (out : Out) (n : ℕ) (m : Message) → out ≡ out_of n m → (out.to == SWITCH_LINK) ≡ false → out.frame.stream ≡ RSL_STREAM
unfolding out_of
message_stream out n (Station station x) is station_is = ap (λ (o : Out). o.frame.stream) is
message_stream out n _ is station_is = absurd (true≢false (sym (ap (λ (o : Out). o.to == SWITCH_LINK) is) ∙ station_is))

stream_is : (out : Out) → IsSent out → 1 ≤ out.conn → (out.to == SWITCH_LINK) ≡ false → out.frame.stream ≡ RSL_STREAM
stream_is out sent from_one station = elim sent.is [
  | inl m ↦ message_stream out out.conn m.message m.put station
  | inr pong_is ↦ absurd (let none : out.conn ≡ 0 = ap (λ (o : Out). o.conn) pong_is in omega arith)
]

read_is : (out : Out) → out.frame.stream ≡ RSL_STREAM → rsl_in out.frame ≡ result_ok (rsl_reading out.frame.body)
read_is out stream = cond-true (out.frame.stream == RSL_STREAM) (result_ok (rsl_reading out.frame.body)) None (eq-eqb out.frame.stream RSL_STREAM stream)

there_is : (activated : Activated) (sapi : Sapi) (station : ℕ) (r : Result Rsl RslFault) →
    map (λ h. h.message) (handed_there activated sapi station (result_ok r)) ≡ handed_by sapi r
there_is activated sapi station (Ok (rsl.DataRequest d)) = by (is_of sapi d.link && is_dtap d.l3)
  where
    by : (b : Bool) →
        map (λ (h : Handed). h.message) (if b then record { tenure = tenure_so_far activated (place_at station d.channel); message = d.l3 } ∷ [] else []) ≡ (if b then d.l3 ∷ [] else [])
    by true = refl
    by false = refl
there_is activated sapi station (Ok _) = refl
there_is activated sapi station (Err fault) = refl

-- such a frame is of the connection, and isn't for the switch
station_out : (number : ℕ) (out : Out) → to_station number out ≡ true → (out.conn ≡ number) × ((out.to == SWITCH_LINK) ≡ false)
station_out number out is =
    let parts = and_parts (out.conn == number) (not (out.to == SWITCH_LINK)) is in
    (eqb-true out.conn number parts.0, of (out.to == SWITCH_LINK) parts.1)
  where
    of : (b : Bool) → not b ≡ true → b ≡ false
    of true is = absurd (true≢false (sym is))
    of false is = refl

one_is : (activated : Activated) (number : ℕ) (sapi : Sapi) (out : Out) →
    1 ≤ number →
    IsSent out →
    to_station number out ≡ true →
    map (λ h. h.message) (handed_one activated number sapi out) ≡ handed_by sapi (rsl_reading out.frame.body)
one_is activated number sapi out from_one sent hit =
    let parts = station_out number out hit in
    ap (map (λ (h : Handed). h.message)) (cond-true (to_station number out) (handed_there activated sapi out.to (rsl_in out.frame)) [] hit)
    ∙ ap (λ (x : Option Rsl). map (λ (h : Handed). h.message) (handed_there activated sapi out.to x)) (read_is out (stream_is out sent (subst (λ (k : ℕ). 1 ≤ k) (sym parts.0) from_one) parts.1))
    ∙ there_is activated sapi out.to (rsl_reading out.frame.body)

handing_is : (activated : Activated) (number : ℕ) (sapi : Sapi) (outs : List Out) → 1 ≤ number → AllByRecursion IsSent outs
    → map (λ h. h.message) (handing_from activated number sapi outs) ≡ flat_map (λ out. handed_by sapi (rsl_reading out.frame.body)) (filter (to_station number) outs)
handing_is activated number sapi [] from_one sent = refl
handing_is activated number sapi (out ∷ outs) from_one sent = elim (cases_Bool (to_station number out)) [
  | inl hit ↦
      map-append (λ (h : Handed). h.message) (handed_one activated number sapi out) (handing_from (after_out activated out) number sapi outs)
      ∙ ap (λ (xs : Texts). xs ++ map (λ (h : Handed). h.message) (handing_from (after_out activated out) number sapi outs)) (one_is activated number sapi out from_one sent.0 hit)
      ∙ ap (λ (xs : Texts). handed_by sapi (rsl_reading out.frame.body) ++ xs) (handing_is (after_out activated out) number sapi outs from_one sent.1)
      ∙ sym (ap (flat_map (λ (o : Out). handed_by sapi (rsl_reading o.frame.body))) (cond-true (to_station number out) (out ∷ filter (to_station number) outs) (filter (to_station number) outs) hit))
  | inr miss ↦
      ap (λ (hs : List Handed). map (λ (h : Handed). h.message) (hs ++ handing_from (after_out activated out) number sapi outs)) (cond-false (to_station number out) (handed_there activated sapi out.to (rsl_in out.frame)) [] miss)
      ∙ handing_is (after_out activated out) number sapi outs from_one sent.1
      ∙ sym (ap (flat_map (λ (o : Out). handed_by sapi (rsl_reading o.frame.body))) (cond-false (to_station number out) (out ∷ filter (to_station number) outs) (filter (to_station number) outs) miss))
]

-- it is what was handed to the connection's mobile
pub handing_is_handed : (outs : List Out) (number : ℕ) (sapi : Sapi) →
    1 ≤ number →
    AllByRecursion IsSent outs →
    map (λ h. h.message) (handing_of outs number sapi) ≡ handed outs number sapi
unfolding handed
handing_is_handed outs number sapi from_one sent = handing_is none_activated number sapi outs from_one sent

-- ---- each tenure is one connection's

-- A channel was activated for these connections, for the last one first. It is the connection for
-- which the tenure of this number began.
abbrev pub owner_of : List ℕ → ℕ → Option ℕ
owner_of [] tenure = None
owner_of (n ∷ ns) tenure = if length (n ∷ ns) == tenure then Some n else owner_of ns tenure

one_number : {a b : ℕ} → Some a ≡ Some b → a ≡ b
one_number is = cc

latest_owns : (ns : List ℕ) (n : ℕ) → latest ns ≡ Some n → owner_of ns (length ns) ≡ Some n
latest_owns [] n is = absurd cc
latest_owns (x ∷ ns) n is = cond-true (length (x ∷ ns) == length (x ∷ ns)) (Some x) (owner_of ns (length (x ∷ ns))) (eq-eqb (length (x ∷ ns)) (length (x ∷ ns)) refl) ∙ is

owned_within : (ns : List ℕ) (tenure n : ℕ) → owner_of ns tenure ≡ Some n → tenure ≤ length ns
owned_within [] tenure n is = absurd cc
owned_within (x ∷ ns) tenure n is = elim (cases_Bool (length (x ∷ ns) == tenure)) [
  | inl hit ↦ let same : length (x ∷ ns) ≡ tenure = eqb-true (length (x ∷ ns)) tenure hit in omega arith
  | inr miss ↦ let rest : tenure ≤ length ns = owned_within ns tenure n (sym (cond-false (length (x ∷ ns) == tenure) (Some x) (owner_of ns tenure) miss) ∙ is) in omega arith
]

owner_kept : (x : ℕ) (ns : List ℕ) (tenure n : ℕ) → owner_of ns tenure ≡ Some n → owner_of (x ∷ ns) tenure ≡ Some n
owner_kept x ns tenure n is =
    let within : tenure ≤ length ns = owned_within ns tenure n is in
    cond-false (length (x ∷ ns) == tenure) (Some x) (owner_of ns tenure) (ne_eqb (length (x ∷ ns)) tenure (λ same. absurd (omega arith))) ∙ is

owner_after_one : (b : Bool) (x : ℕ) (ns : List ℕ) (tenure n : ℕ) →
    owner_of ns tenure ≡ Some n →
    owner_of (if b then x ∷ ns else ns) tenure ≡ Some n
owner_after_one true x ns tenure n is = owner_kept x ns tenure n is
owner_after_one false x ns tenure n is = is

-- later activations change no owner
pub owner_after : (activated : Activated) (outs : List Out) (at : Place) (tenure n : ℕ) →
    owner_of (activated at) tenure ≡ Some n →
    owner_of (fold after_out activated outs at) tenure ≡ Some n
owner_after activated [] at tenure n is = is
owner_after activated (out ∷ outs) at tenure n is = owner_after (after_out activated out) outs at tenure n (owner_after_one (activates at out) out.conn (activated at) tenure n is)

request_is : (out : Out) (x : Option Rsl) (channel : ℕ) →
    rsl_in out.frame ≡ x →
    request_in x ≡ Some channel →
    requests (place_at out.to channel) out ≡ true
unfolding requests
request_is out x channel reads is =
    ap (λ (y : Option Rsl). (out.to == out.to) && is_number channel (request_in y)) reads
    ∙ ap (λ (c : Option ℕ). (out.to == out.to) && is_number channel c) is
    ∙ and_from (out.to == out.to) (channel == channel) (eq-eqb out.to out.to refl) (eq-eqb channel channel refl)

-- what a frame hands on a channel, it hands in the last tenure, which is its connection's
pub request_owned : (activated : Activated) (out : Out) (x : Option Rsl) (channel : ℕ) → IsOwned activated out → rsl_in out.frame ≡ x → request_in x ≡ Some channel
    → (owner_of (activated (place_at out.to channel)) (length (activated (place_at out.to channel))) ≡ Some out.conn) × (1 ≤ out.conn)
request_owned activated out x channel owned reads is =
    let own = owned.each (place_at out.to channel) (request_is out x channel reads is) in
    (latest_owns (activated (place_at out.to channel)) out.conn own.0, own.1)

owned_from_one : (ns : List ℕ) (tenure n : ℕ) → owner_of ns tenure ≡ Some n → 1 ≤ tenure
owned_from_one [] tenure n is = absurd cc
owned_from_one (x ∷ ns) tenure n is = elim (cases_Bool (length (x ∷ ns) == tenure)) [
  | inl hit ↦ let same : length (x ∷ ns) ≡ tenure = eqb-true (length (x ∷ ns)) tenure hit in omega arith
  | inr miss ↦ owned_from_one ns tenure n (sym (cond-false (length (x ∷ ns) == tenure) (Some x) (owner_of ns tenure) miss) ∙ is)
]

-- what is handed is handed in a tenure that began for this connection
pub record IsOwnHanded (activated : Activated) (number : ℕ) (h : Handed) : Type 0 where
  pub owner : owner_of (activated h.tenure.at) h.tenure.number ≡ Some number
  pub begun : 1 ≤ h.tenure.number

there_owned : (activated : Activated) (sapi : Sapi) (out : Out) (outs : List Out) (x : Option Rsl) → IsOwned activated out → rsl_in out.frame ≡ x
    → AllByRecursion (IsOwnHanded (fold after_out activated (out ∷ outs)) out.conn) (handed_there activated sapi out.to x)
there_owned activated sapi out outs (Some (rsl.DataRequest d)) owned reads = by (is_of sapi d.link && is_dtap d.l3)
  where
    at : Place
    at = place_at out.to d.channel

    own : owner_of (activated (place_at out.to d.channel)) (length (activated (place_at out.to d.channel))) ≡ Some out.conn
    own = (request_owned activated out (Some (rsl.DataRequest d)) d.channel owned reads refl).0

    by : (b : Bool) →
        AllByRecursion (IsOwnHanded (fold after_out activated (out ∷ outs)) out.conn) (if b then record { tenure = tenure_so_far activated (place_at out.to d.channel); message = d.l3 } ∷ [] else [])
    by true = (
      record {
        owner = owner_after activated (out ∷ outs) (place_at out.to d.channel) (length (activated (place_at out.to d.channel))) out.conn own;
        begun = owned_from_one (activated (place_at out.to d.channel)) (length (activated (place_at out.to d.channel))) out.conn own;
      },
      tt,
    )
    by false = tt
there_owned activated sapi out outs _ owned reads = tt

one_owned : (activated : Activated) (number : ℕ) (sapi : Sapi) (out : Out) (outs : List Out) →
    IsOwned activated out →
    AllByRecursion (IsOwnHanded (fold after_out activated (out ∷ outs)) number) (handed_one activated number sapi out)
one_owned activated number sapi out outs owned = elim (cases_Bool (to_station number out)) [
  | inl hit ↦
      subst (AllByRecursion (IsOwnHanded (fold after_out activated (out ∷ outs)) number)) (sym (cond-true (to_station number out) (handed_there activated sapi out.to (rsl_in out.frame)) [] hit))
      (subst (λ (n : ℕ). AllByRecursion (IsOwnHanded (fold after_out activated (out ∷ outs)) n) (handed_there activated sapi out.to (rsl_in out.frame))) (station_out number out hit).0
      (there_owned activated sapi out outs (rsl_in out.frame) owned refl))
  | inr miss ↦
      subst (AllByRecursion (IsOwnHanded (fold after_out activated (out ∷ outs)) number)) (sym (cond-false (to_station number out) (handed_there activated sapi out.to (rsl_in out.frame)) [] miss)) tt
]

all_owned : (activated : Activated) (number : ℕ) (sapi : Sapi) (outs : List Out) →
    AreOwned activated outs →
    AllByRecursion (IsOwnHanded (fold after_out activated outs) number) (handing_from activated number sapi outs)
all_owned activated number sapi [] owned = tt
all_owned activated number sapi (out ∷ outs) owned =
    AllByRecursion-append (IsOwnHanded (fold after_out activated (out ∷ outs)) number) (handed_one activated number sapi out) (handing_from (after_out activated out) number sapi outs)
    (one_owned activated number sapi out outs owned.0) (all_owned (after_out activated out) number sapi outs owned.1)

-- Each message is handed in a tenure of its channel that began for its connection.
pub tenures_are_owned : (outs : List Out) (number : ℕ) (sapi : Sapi) (h : Handed) →
    AreOwned none_activated outs →
    Contains (handing_of outs number sapi) h →
    IsOwnHanded (fold after_out none_activated outs) number h
tenures_are_owned outs number sapi h owned there =
    all_contained (IsOwnHanded (fold after_out none_activated outs) number) (handing_of outs number sapi) h (all_owned none_activated number sapi outs owned) there

-- Each tenure is one connection's.
pub tenures_are_apart : (outs : List Out) (number other : ℕ) (sapi others : Sapi) (one two : Handed) →
    AreOwned none_activated outs →
    Contains (handing_of outs number sapi) one →
    Contains (handing_of outs other others) two →
    one.tenure ≡ two.tenure →
    number ≡ other
tenures_are_apart outs number other sapi others one two owned first second same =
    let mine = (tenures_are_owned outs number sapi one owned first).owner in
    let yours = (tenures_are_owned outs other others two owned second).owner in
    one_number (sym mine ∙ ap (λ (t : Tenure). owner_of (fold after_out none_activated outs t.at) t.number) same ∙ yours)

-- ---- the owner by its place in the list of activations

-- the connections for which CHANNEL ACTIVATION was put for a channel, in order
abbrev pub activators : Place → List Out → List ℕ
activators at outs = map (λ out. out.conn) (filter (activates at) outs)

first_owner : (activated : Activated) (out : Out) (outs : List Out) (at : Place) (n : ℕ) →
    activates at out ≡ true →
    owner_of (fold after_out activated (out ∷ outs) at) (length (activated at) + 1) ≡ Some n →
    out.conn ≡ n
first_owner activated out outs at n hit is =
    let now : after_out activated out at ≡ out.conn ∷ activated at = cond-true (activates at out) (out.conn ∷ activated at) (activated at) hit in
    let size : length (out.conn ∷ activated at) ≡ length (activated at) + 1 = omega arith in
    let own : owner_of (out.conn ∷ activated at) (length (activated at) + 1) ≡ Some out.conn = subst (λ (k : ℕ). owner_of (out.conn ∷ activated at) k ≡ Some out.conn) size (latest_owns (out.conn ∷ activated at) out.conn refl) in
    one_number (sym (owner_after (after_out activated out) outs at (length (activated at) + 1) out.conn (subst (λ (ns : List ℕ). owner_of ns (length (activated at) + 1) ≡ Some out.conn) (sym now) own)) ∙ is)

owner_at : (activated : Activated) (outs : List Out) (at : Place) (i n : ℕ) →
    owner_of (fold after_out activated outs at) (length (activated at) + 1 + i) ≡ Some n →
    slice_get (activators at outs) i ≡ Some n
owner_at activated [] at i n is = absurd (let within : length (activated at) + 1 + i ≤ length (activated at) = owned_within (activated at) (length (activated at) + 1 + i) n is in omega arith)
owner_at activated (out ∷ outs) at i n is = elim (cases_Bool (activates at out)) [
  | inl hit ↦
      ap (λ (os : List Out). slice_get (map (λ (o : Out). o.conn) os) i) (cond-true (activates at out) (out ∷ filter (activates at) outs) (filter (activates at) outs) hit)
      ∙ by i hit is (owner_at (after_out activated out) outs at)
  | inr miss ↦
      ap (λ (os : List Out). slice_get (map (λ (o : Out). o.conn) os) i) (cond-false (activates at out) (out ∷ filter (activates at) outs) (filter (activates at) outs) miss)
      ∙ owner_at (after_out activated out) outs at i n (subst (λ (ns : List ℕ). owner_of (fold after_out activated (out ∷ outs) at) (length ns + 1 + i) ≡ Some n) (sym (cond-false (activates at out) (out.conn ∷ activated at) (activated at) miss)) is)
]
  where
    by : (i : ℕ) → activates at out ≡ true → owner_of (fold after_out activated (out ∷ outs) at) (length (activated at) + 1 + i) ≡ Some n
        → ((j m : ℕ) → owner_of (fold after_out (after_out activated out) outs at) (length (after_out activated out at) + 1 + j) ≡ Some m → slice_get (activators at outs) j ≡ Some m)
        → slice_get (out.conn ∷ activators at outs) i ≡ Some n
    by zero hit is rest = ap (λ (k : ℕ). Some k) (first_owner activated out outs at n hit (subst (λ (k : ℕ). owner_of (fold after_out activated (out ∷ outs) at) k ≡ Some n) (let same : length (activated at) + 1 + 0 ≡ length (activated at) + 1 = omega arith in same) is))
    by (suc j) hit is rest =
        let size : length (after_out activated out at) ≡ length (out.conn ∷ activated at) = ap length (cond-true (activates at out) (out.conn ∷ activated at) (activated at) hit) in
        rest j n (subst (λ (k : ℕ). owner_of (fold after_out activated (out ∷ outs) at) k ≡ Some n) (let same : length (activated at) + 1 + suc j ≡ length (after_out activated out at) + 1 + j = omega arith in same) is)

-- Each message is handed in a tenure of a number from 1. Among the CHANNEL ACTIVATIONs that the
-- frames put for its channel, that with this number was put for its connection.
pub tenures_were_activated : (outs : List Out) (number : ℕ) (sapi : Sapi) (h : Handed) → AreOwned none_activated outs → Contains (handing_of outs number sapi) h
    → (place : ℕ) × (h.tenure.number ≡ place + 1) × (slice_get (activators h.tenure.at outs) place ≡ Some number)
tenures_were_activated outs number sapi h owned there =
    let own = tenures_are_owned outs number sapi h owned there in
    of h.tenure.number refl own.begun own.owner
  where
    of : (k : ℕ) →
        h.tenure.number ≡ k →
        1 ≤ k →
        owner_of (fold after_out none_activated outs h.tenure.at) k ≡ Some number →
        (place : ℕ) × (h.tenure.number ≡ place + 1) × (slice_get (activators h.tenure.at outs) place ≡ Some number)
    of zero is begun owner = absurd (omega arith)
    of (suc i) is begun owner = (i, omega arith, owner_at none_activated outs h.tenure.at i number (subst (λ (k : ℕ). owner_of (fold after_out none_activated outs h.tenure.at) k ≡ Some number) (let same : suc i ≡ 0 + 1 + i = omega arith in same) owner))
