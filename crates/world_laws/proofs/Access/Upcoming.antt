-- SPDX-License-Identifier: MIT OR Apache-2.0
-- What is on its way up from a channel, by what stations' messages bring.
use Rattle.world_laws.proofs.Prelude.{◌≡◌, ◌≢◌, ℕ, ◌+◌, ◌≤◌, ◌-◌, ◌==◌, ◌&&◌, nat_eq, Bool, true, false, if◌then◌else◌, cond, List, [], ◌∷◌}
use Rattle.world_laws.proofs.Prelude.{◌++◌, length, Some, refl, sym, ap, ◌∙◌, subst, arith, append_assoc}
use Rattle.world_laws.proofs.Prelude.{length-append, AllByRecursion, flat_map, eqb-false, flat_map-append, append-nil, Channel, Place}
use Rattle.world_laws.proofs.Prelude.{SWITCH_LINK, is_at, place_of, sapi_of, Zero, BaseState, data_indication, establish_indication}
use Rattle.world_laws.proofs.Prelude.{Rsl, Tenure, brought, signalling_brought, Actors, Mobile, base_of, is_reached}
use Rattle.world_laws.proofs.Prelude.{no_station, station_of, base-elsewhere, reached_up, up_right, controls_in, controls_of, messages_in}
use Rattle.world_laws.proofs.Prelude.{released, messages_up, read_of, brings, coming_up, of_establishment, of_main, initial_by, initials_up}
use Rattle.world_laws.proofs.Prelude.{data_by, data_up}
use Rattle.world_laws.proofs.LineUp.Lines.{controls_append, messages_in-append}
use Rattle.rsl_codec.specs.declared.rsl.Rsl.TheVariants as rsl
use Rattle.world_model.specs.World.{Station}
use Rattle.world_laws.proofs.Sublists.{Sub, set_related, sub_append, sub_flat_map, sub_front, sub_itself, sub_length, sub_none, sub_nothing}
use Rattle.world_laws.proofs.Access.Behind.{controls_sub}
use Rattle.world_laws.proofs.Access.Passes.{IsPlain, Passes}
use Rattle.world_laws.proofs.Acknowledged.{coming_read}

-- ---- stations' messages bring what is on its way up from a channel

-- ---- its messages

abbrev pub messages_by : ℕ → Rsl → List (List ℕ)
messages_by channel m = messages_in (brings channel m)

all_messages : (channel : ℕ) (ms : List Rsl) → messages_in (flat_map (brings channel) ms) ≡ flat_map (messages_by channel) ms
all_messages channel [] = refl
all_messages channel (m ∷ ms) = messages_in-append (brings channel m) (flat_map (brings channel) ms) ∙ ap (λ (xs : List (List ℕ)). messages_in (brings channel m) ++ xs) (all_messages channel ms)

pub messages_read : (w : Actors) (at : Place) → messages_in (coming_up w at) ≡ flat_map (messages_by at.number) (messages_up w at.station)
messages_read w at = ap messages_in (coming_read w at) ∙ all_messages at.number (messages_up w at.station)

-- an initial message is one of them
initial_or : (channel : ℕ) (m : Rsl) → Sub (initial_by channel m) (messages_by channel m)
initial_or channel (rsl.EstablishIndication e) = by (e.channel == channel) where
  by : (b : Bool) →
      Sub (if b then messages_in (of_establishment (sapi_of e.link) e.l3) else []) (messages_in (if b then of_establishment (sapi_of e.link) e.l3 else []))
  by true = sub_itself (messages_in (of_establishment (sapi_of e.link) e.l3))
  by false = sub_none []
initial_or channel m = sub_none (messages_by channel m)

-- and what a DATA INDICATION brings is one
data_or : (channel : ℕ) (m : Rsl) → Sub (data_by channel m) (messages_by channel m)
data_or channel (rsl.DataIndication d) = by (d.channel == channel) where
  by : (b : Bool) →
      Sub (if b then messages_in (of_main (sapi_of d.link) d.l3) else []) (messages_in (if b then of_main (sapi_of d.link) d.l3 else []))
  by true = sub_itself (messages_in (of_main (sapi_of d.link) d.l3))
  by false = sub_none []
data_or channel m = sub_none (messages_by channel m)

-- some of what each message brings
abbrev IsPart : (ℕ → Rsl → List (List ℕ)) → Type 0
IsPart f = (channel : ℕ) (m : Rsl) → Sub (f channel m) (messages_by channel m)

abbrev part_up : (ℕ → Rsl → List (List ℕ)) → Actors → Place → List (List ℕ)
part_up f w at = flat_map (f at.number) (messages_up w at.station)

all_part : (f : ℕ → Rsl → List (List ℕ)) →
    IsPart f →
    (channel : ℕ) (ms : List Rsl) →
    Sub (flat_map (f channel) ms) (flat_map (messages_by channel) ms)
all_part f part channel [] = sub_none []
all_part f part channel (m ∷ ms) = sub_append (part channel m) (all_part f part channel ms)

part_none : (f : ℕ → Rsl → List (List ℕ)) → IsPart f → (w : Actors) (at : Place) → messages_in (coming_up w at) ≡ [] → part_up f w at ≡ []
part_none f part w at none = sub_nothing (subst (Sub (part_up f w at)) (sym (messages_read w at) ∙ none) (all_part f part at.number (messages_up w at.station)))

pub initials_none : (w : Actors) (at : Place) → messages_in (coming_up w at) ≡ [] → initials_up w at ≡ []
initials_none w at none = part_none initial_by initial_or w at none

pub data_none : (w : Actors) (at : Place) → messages_in (coming_up w at) ≡ [] → data_up w at ≡ []
data_none w at none = part_none data_by data_or w at none

-- ---- those of radio resource management

-- each is an initial message, or a DATA INDICATION brings it
controls_of_one : (channel : ℕ) (m : Rsl) →
    controls_of (messages_by channel m) ≡ controls_of (initial_by channel m) + controls_of (data_by channel m)
controls_of_one channel (rsl.EstablishIndication e) = by (e.channel == channel) where
  by : (b : Bool) →
      controls_of (messages_in (if b then of_establishment (sapi_of e.link) e.l3 else [])) ≡ controls_of (if b then messages_in (of_establishment (sapi_of e.link) e.l3) else []) + 0
  by true = omega arith
  by false = refl
controls_of_one channel (rsl.DataIndication d) = by (d.channel == channel) where
  by : (b : Bool) →
      controls_of (messages_in (if b then of_main (sapi_of d.link) d.l3 else [])) ≡ 0 + controls_of (if b then messages_in (of_main (sapi_of d.link) d.l3) else [])
  by true = omega arith
  by false = refl
controls_of_one channel (rsl.RfChannelReleaseAck number) = by (number == channel) where
  by : (b : Bool) → controls_of (messages_in (if b then released ∷ [] else [])) ≡ 0
  by true = refl
  by false = refl
controls_of_one channel m = refl

controls_of_all : (channel : ℕ) (ms : List Rsl) →
    controls_of (flat_map (messages_by channel) ms) ≡ controls_of (flat_map (initial_by channel) ms) + controls_of (flat_map (data_by channel) ms)
controls_of_all channel [] = refl
controls_of_all channel (m ∷ ms) =
    let one = controls_of_one channel m in
    let others = controls_of_all channel ms in
    let a = controls_append (messages_by channel m) (flat_map (messages_by channel) ms) in
    let b = controls_append (initial_by channel m) (flat_map (initial_by channel) ms) in
    let c = controls_append (data_by channel m) (flat_map (data_by channel) ms) in
    omega (arith, one, others, a, b, c)

pub controls_up : (w : Actors) (at : Place) → controls_in (coming_up w at) ≡ controls_of (initials_up w at) + controls_of (data_up w at)
controls_up w at = ap controls_of (messages_read w at) ∙ controls_of_all at.number (messages_up w at.station)

-- ---- where something passes

none_plain : (channel : ℕ) (ms : List Rsl) → AllByRecursion IsPlain ms → flat_map (messages_by channel) ms ≡ []
none_plain channel [] all = refl
none_plain channel (m ∷ ms) all = ap (λ (xs : List (List ℕ)). xs ++ flat_map (messages_by channel) ms) (all.0 channel) ∙ none_plain channel ms all.1

pub messages_pass : {w v : Actors} (at : Place) →
    at.station ≢ SWITCH_LINK →
    Passes w v →
    Sub (messages_in (coming_up v at)) (messages_in (coming_up w at))
messages_pass {w} {v} at is passes =
    let a = passes.ups at.station is in
    subst (λ (xs : List (List ℕ)). Sub xs (messages_in (coming_up w at))) (sym (messages_read v at))
    (subst (Sub (flat_map (messages_by at.number) (messages_up v at.station)))
    (flat_map-append (messages_by at.number) (messages_up w at.station) a.0 ∙ ap (λ (xs : List (List ℕ)). flat_map (messages_by at.number) (messages_up w at.station) ++ xs) (none_plain at.number a.0 a.1) ∙ append-nil (flat_map (messages_by at.number) (messages_up w at.station)) ∙ sym (messages_read w at))
    (sub_flat_map (messages_by at.number) a.2))

pub none_passes : {w v : Actors} (at : Place) →
    at.station ≢ SWITCH_LINK →
    Passes w v →
    messages_in (coming_up w at) ≡ [] →
    messages_in (coming_up v at) ≡ []
none_passes {w} {v} at is passes none = sub_nothing (subst (Sub (messages_in (coming_up v at))) none (messages_pass at is passes))

plain_part : (f : ℕ → Rsl → List (List ℕ)) →
    IsPart f →
    (channel : ℕ) (ms : List Rsl) →
    AllByRecursion IsPlain ms →
    flat_map (f channel) ms ≡ []
plain_part f part channel ms all = sub_nothing (subst (Sub (flat_map (f channel) ms)) (none_plain channel ms all) (all_part f part channel ms))

part_pass : (f : ℕ → Rsl → List (List ℕ)) →
    IsPart f →
    {w v : Actors} (at : Place) →
    at.station ≢ SWITCH_LINK →
    Passes w v →
    Sub (part_up f v at) (part_up f w at)
part_pass f part {w} {v} at is passes =
    let a = passes.ups at.station is in
    subst (Sub (part_up f v at))
    (flat_map-append (f at.number) (messages_up w at.station) a.0 ∙ ap (λ (xs : List (List ℕ)). part_up f w at ++ xs) (plain_part f part at.number a.0 a.1) ∙ append-nil (part_up f w at))
    (sub_flat_map (f at.number) a.2)

pub initials_pass : {w v : Actors} (at : Place) → at.station ≢ SWITCH_LINK → Passes w v → Sub (initials_up v at) (initials_up w at)
initials_pass at is passes = part_pass initial_by initial_or at is passes

pub data_pass : {w v : Actors} (at : Place) → at.station ≢ SWITCH_LINK → Passes w v → Sub (data_up v at) (data_up w at)
data_pass at is passes = part_pass data_by data_or at is passes

-- ---- a frame of SAPI 0

-- the message that its station makes of it
abbrev pub indication_of : Mobile → ℕ → List ℕ → Rsl
indication_of p channel frame = if p.opens then establish_indication channel Zero (Some frame) else data_indication channel Zero frame

told_base : (base : BaseState) (channel : ℕ) (frame : List ℕ) (b : Bool) →
    (signalling_brought base channel b frame).messages ≡ base.messages ++ (if b then establish_indication channel Zero (Some frame) else data_indication channel Zero frame) ∷ []
told_base base channel frame true = refl
told_base base channel frame false = refl

sent_ups : (w : Actors) (p : Mobile) (tenure : Tenure) (frame : List ℕ) (n : ℕ) →
    Sub (messages_up (brought w p tenure.at Zero frame) n) (messages_up w n ++ indication_of p tenure.at.number frame ∷ [])
sent_ups w p tenure frame n =
    subst (Sub (messages_up (brought w p tenure.at Zero frame) n)) (sym (append_assoc (flat_map (read_of n) w.inbox) (base_of w n).messages (indication_of p tenure.at.number frame ∷ [])))
    (sub_append (sub_itself (flat_map (read_of n) w.inbox))
    (set_related (λ (a b : Station). Sub a.base.messages (b.base.messages ++ indication_of p tenure.at.number frame ∷ [])) (λ x. sub_front x.base.messages (indication_of p tenure.at.number frame ∷ [])) w.stations no_station (tenure.at.station - 1) (n - 1) (record (station_of w tenure.at.station) { base = signalling_brought (base_of w tenure.at.station) tenure.at.number p.opens frame })
    (subst (λ (xs : List Rsl). Sub xs ((base_of w tenure.at.station).messages ++ indication_of p tenure.at.number frame ∷ [])) (sym (told_base (base_of w tenure.at.station) tenure.at.number frame p.opens)) (sub_itself ((base_of w tenure.at.station).messages ++ indication_of p tenure.at.number frame ∷ [])))))

initial_apart : (p : Mobile) (channel other : ℕ) (frame : List ℕ) →
    (channel == other) ≡ false →
    initial_by other (indication_of p channel frame) ≡ []
initial_apart p channel other frame apart = by p.opens where
  by : (b : Bool) → initial_by other (if b then establish_indication channel Zero (Some frame) else data_indication channel Zero frame) ≡ []
  by true = ap (λ (b : Bool). cond b (frame ∷ []) []) apart
  by false = refl

initial_few : (p : Mobile) (channel other : ℕ) (frame : List ℕ) → length (initial_by other (indication_of p channel frame)) ≤ 1
initial_few p channel other frame = by p.opens (channel == other) refl where
  opening : (c : Bool) → length (if c then frame ∷ [] else []) ≤ 1
  opening true = omega arith
  opening false = omega arith

  by : (b c : Bool) →
      (channel == other) ≡ c →
      length (initial_by other (if b then establish_indication channel Zero (Some frame) else data_indication channel Zero frame)) ≤ 1
  by true c is = opening (channel == other)
  by false c is = omega arith

-- of a mobile that sent its initial message
initial_later : (p : Mobile) (channel other : ℕ) (frame : List ℕ) → p.opens ≡ false → initial_by other (indication_of p channel frame) ≡ []
initial_later p channel other frame sent = ap (λ (b : Bool). initial_by other (if b then establish_indication channel Zero (Some frame) else data_indication channel Zero frame)) sent

data_apart_one : (p : Mobile) (channel other : ℕ) (frame : List ℕ) →
    (channel == other) ≡ false →
    data_by other (indication_of p channel frame) ≡ []
data_apart_one p channel other frame apart = by p.opens where
  by : (b : Bool) → data_by other (if b then establish_indication channel Zero (Some frame) else data_indication channel Zero frame) ≡ []
  by true = refl
  by false = ap (λ (b : Bool). cond b (frame ∷ []) []) apart

-- of a mobile that is still to send it
data_opening : (p : Mobile) (channel other : ℕ) (frame : List ℕ) → p.opens ≡ true → data_by other (indication_of p channel frame) ≡ []
data_opening p channel other frame opens = ap (λ (b : Bool). data_by other (if b then establish_indication channel Zero (Some frame) else data_indication channel Zero frame)) opens

data_few : (p : Mobile) (channel other : ℕ) (frame : List ℕ) →
    controls_of (data_by other (indication_of p channel frame)) ≤ controls_of (frame ∷ [])
data_few p channel other frame = by p.opens where
  later : (c : Bool) → controls_of (if c then frame ∷ [] else []) ≤ controls_of (frame ∷ [])
  later true = omega arith
  later false = omega arith

  by : (b : Bool) →
      controls_of (data_by other (if b then establish_indication channel Zero (Some frame) else data_indication channel Zero frame)) ≤ controls_of (frame ∷ [])
  by true = omega arith
  by false = later (channel == other)

-- on another channel it brings nothing
part_apart : (f : ℕ → Rsl → List (List ℕ)) (w : Actors) (p : Mobile) (tenure : Tenure) (frame : List ℕ) (c : Channel) → is_reached w tenure ≡ true → c.station ≢ SWITCH_LINK → is_at tenure.at c ≡ false
    → ((tenure.at.number == c.number) ≡ false → f c.number (indication_of p tenure.at.number frame) ≡ []) → Sub (part_up f (brought w p tenure.at Zero frame) (place_of c)) (part_up f w (place_of c))
part_apart f w p tenure frame c reached c_is apart brings_none = by_both (nat_eq tenure.at.station c.station) refl where
  v : Actors
  v = brought w p tenure.at Zero frame

  by_both : (b : Bool) → nat_eq tenure.at.station c.station ≡ b → Sub (part_up f v (place_of c)) (part_up f w (place_of c))
  by_both true hit =
      let number : (tenure.at.number == c.number) ≡ false = ap (λ (b : Bool). b && (tenure.at.number == c.number)) (sym hit) ∙ apart in
      subst (Sub (part_up f v (place_of c)))
      (flat_map-append (f c.number) (messages_up w c.station) (indication_of p tenure.at.number frame ∷ []) ∙ ap (λ (xs : List (List ℕ)). part_up f w (place_of c) ++ (xs ++ [])) (brings_none number) ∙ append-nil (part_up f w (place_of c)))
      (sub_flat_map (f c.number) (sent_ups w p tenure frame c.station))
  by_both false miss =
      subst (λ (b : BaseState). Sub (flat_map (f c.number) (flat_map (read_of c.station) w.inbox ++ b.messages)) (part_up f w (place_of c)))
      (sym (base-elsewhere w c.station tenure.at.station (signalling_brought (base_of w tenure.at.station) tenure.at.number p.opens frame) c_is (up_right tenure.at.station w (reached_up w tenure reached).0).0 (λ is. eqb-false tenure.at.station c.station miss (sym is))))
      (sub_itself (part_up f w (place_of c)))

pub initials_apart : (w : Actors) (p : Mobile) (tenure : Tenure) (frame : List ℕ) (c : Channel) →
    is_reached w tenure ≡ true →
    c.station ≢ SWITCH_LINK →
    is_at tenure.at c ≡ false →
    Sub (initials_up (brought w p tenure.at Zero frame) (place_of c)) (initials_up w (place_of c))
initials_apart w p tenure frame c reached c_is apart = part_apart initial_by w p tenure frame c reached c_is apart (initial_apart p tenure.at.number c.number frame)

pub data_apart : (w : Actors) (p : Mobile) (tenure : Tenure) (frame : List ℕ) (c : Channel) →
    is_reached w tenure ≡ true →
    c.station ≢ SWITCH_LINK →
    is_at tenure.at c ≡ false →
    Sub (data_up (brought w p tenure.at Zero frame) (place_of c)) (data_up w (place_of c))
data_apart w p tenure frame c reached c_is apart = part_apart data_by w p tenure frame c reached c_is apart (data_apart_one p tenure.at.number c.number frame)

-- one more at most, where the mobile sent none
pub initials_more : (w : Actors) (p : Mobile) (tenure : Tenure) (frame : List ℕ) (at : Place) →
    length (initials_up (brought w p tenure.at Zero frame) at) ≤ length (initials_up w at) + 1
initials_more w p tenure frame at =
    let sub = subst (λ (xs : List (List ℕ)). Sub (initials_up (brought w p tenure.at Zero frame) at) xs) (flat_map-append (initial_by at.number) (messages_up w at.station) (indication_of p tenure.at.number frame ∷ [])) (sub_flat_map (initial_by at.number) (sent_ups w p tenure frame at.station)) in
    let all = sub_length sub in
    let one = initial_few p tenure.at.number at.number frame in
    let sum = length-append (initials_up w at) (initial_by at.number (indication_of p tenure.at.number frame) ++ []) in
    let last = ap length (append-nil (initial_by at.number (indication_of p tenure.at.number frame))) in
    omega (arith, all, one, sum, last)

-- no more, where it sent it
pub initials_later : (w : Actors) (p : Mobile) (tenure : Tenure) (frame : List ℕ) (at : Place) →
    p.opens ≡ false →
    Sub (initials_up (brought w p tenure.at Zero frame) at) (initials_up w at)
initials_later w p tenure frame at sent =
    subst (Sub (initials_up (brought w p tenure.at Zero frame) at))
    (flat_map-append (initial_by at.number) (messages_up w at.station) (indication_of p tenure.at.number frame ∷ []) ∙ ap (λ (xs : List (List ℕ)). initials_up w at ++ (xs ++ [])) (initial_later p tenure.at.number at.number frame sent) ∙ append-nil (initials_up w at))
    (sub_flat_map (initial_by at.number) (sent_ups w p tenure frame at.station))

-- ---- what it brings that isn't initial

data_sent : (w : Actors) (p : Mobile) (tenure : Tenure) (frame : List ℕ) (at : Place) →
    Sub (data_up (brought w p tenure.at Zero frame) at) (data_up w at ++ (data_by at.number (indication_of p tenure.at.number frame) ++ []))
data_sent w p tenure frame at =
    subst (λ (xs : List (List ℕ)). Sub (data_up (brought w p tenure.at Zero frame) at) xs) (flat_map-append (data_by at.number) (messages_up w at.station) (indication_of p tenure.at.number frame ∷ [])) (sub_flat_map (data_by at.number) (sent_ups w p tenure frame at.station))

-- an initial message joins no others
pub data_first : (w : Actors) (p : Mobile) (tenure : Tenure) (frame : List ℕ) (at : Place) →
    p.opens ≡ true →
    Sub (data_up (brought w p tenure.at Zero frame) at) (data_up w at)
data_first w p tenure frame at opens =
    subst (Sub (data_up (brought w p tenure.at Zero frame) at)) (ap (λ (xs : List (List ℕ)). data_up w at ++ (xs ++ [])) (data_opening p tenure.at.number at.number frame opens) ∙ append-nil (data_up w at)) (data_sent w p tenure frame at)

-- another message joins them
pub data_later : (w : Actors) (p : Mobile) (tenure : Tenure) (frame : List ℕ) (at : Place) →
    controls_of (data_up (brought w p tenure.at Zero frame) at) ≤ controls_of (data_up w at) + controls_of (frame ∷ [])
data_later w p tenure frame at =
    let all = controls_sub (data_sent w p tenure frame at) in
    let sum = controls_append (data_up w at) (data_by at.number (indication_of p tenure.at.number frame) ++ []) in
    let last = ap controls_of (append-nil (data_by at.number (indication_of p tenure.at.number frame))) in
    let few = data_few p tenure.at.number at.number frame in
    omega (arith, all, sum, last, few)
