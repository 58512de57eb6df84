-- SPDX-License-Identifier: MIT OR Apache-2.0
-- What is on its way up from a channel at each event in which the controller does nothing.
use Rattle.world_laws.proofs.Prelude.{◌≡◌, ◌≢◌, inl, inr, ℕ, ◌==◌, ◌&&◌, nat_eq, nat_le, Bool, true, false, if◌then◌else◌, List, [], ◌∷◌}
use Rattle.world_laws.proofs.Prelude.{◌++◌, unwrap_or, Option, Some, None, refl, sym, ap, ◌∙◌, append_assoc, cases_Bool, eqb-false}
use Rattle.world_laws.proofs.Prelude.{flat_map-append, append-nil, flat_map, Place, SWITCH_LINK, place_at, Sapi, Zero, Three, BaseState}
use Rattle.world_laws.proofs.Prelude.{after_activate, after_release, after_tell, activation_ack, data_indication, establish_indication}
use Rattle.world_laws.proofs.Prelude.{sapi_of, FIRST_SDCCH, MAIN_LINK_SAPI_3, SACCH_SAPI_3, Rsl, RfChannelReleaseAck, Event, AirUp}
use Rattle.world_laws.proofs.Prelude.{BasePush, Handle, SwitchTakes, SwitchDoes, Tick, BaseDown, actors_after, brought}
use Rattle.world_laws.proofs.Prelude.{short_message_brought, signalling_brought, link_answer, sccp_in, after_switch_takes}
use Rattle.world_laws.proofs.Prelude.{after_switch_does, Actors, Mobile, Spot, base_of, is_up, spot_at, with_base, with_outbox, with_spot}
use Rattle.world_laws.proofs.Prelude.{Good, Plain, base-elsewhere, as_before, ends_now, switch_takes_leads, switch_took-leads, does_leads}
use Rattle.world_laws.proofs.Prelude.{after_taken, Tells, air_after, is_on_air, true≢false, messages_in, brings_up, ends_up, popped}
use Rattle.world_laws.proofs.Prelude.{breaking, pushing, OfTaken, messages_up, read_of, brings, brings_in, coming_up, made_of, of_main}
use Rattle.world_laws.specs.LineUp.Places.{Item as Brought}
use Rattle.world_laws.proofs.LineUp.Lines.{messages_in-append}
use Rattle.world_model.specs.Honest.{given}
use Rattle.world_model.specs.Life.{event_after}
use Rattle.world_model.proofs.Honesty.Plain.{next}
use Rattle.world_laws.proofs.Acknowledged.{coming_read}
use Rattle.world_laws.proofs.Projecting.{coming_same, made_append}
use Rattle.world_laws.proofs.Quiet.{coming_with_spot}
use Rattle.world_laws.proofs.Targets.Calm.{first_and_behind}
use Rattle.world_laws.proofs.Targets.Places.{base_cases, is_place}
use Rattle.world_laws.proofs.Targets.Ways.{reads_are_kept}
use Rattle.world_model.proofs.Footprints.Tells.{answers, brings as brings_frame, establishes, links, opens_with}

-- the messages on their way up
abbrev pub arriving : Place → Actors → List (List ℕ)
arriving at w = messages_in (coming_up w at)

-- ---- an end makes messages

pub made_coming : (at : Place) (m : ℕ) (base : BaseState) (ms : List Rsl) (u : Actors) →
    base.messages ≡ (base_of u m).messages ++ ms →
    messages_in (made_of at.number ms) ≡ [] →
    arriving at (with_base m base u) ≡ arriving at u
made_coming at m base ms u made none = elim (base_cases u m at.station base) [
  | inr same ↦ ap messages_in (coming_same u (with_base m base u) at refl same)
  | inl here ↦
      let inbox : List Brought = flat_map (brings_in at) u.inbox in
      let old : List Brought = made_of at.number (base_of u at.station).messages in
      ap (λ (b : BaseState). messages_in (inbox ++ made_of at.number b.messages)) here.0
      ∙ ap (λ (xs : List Rsl). messages_in (inbox ++ made_of at.number xs)) (made ∙ ap (λ (b : BaseState). b.messages ++ ms) (sym here.1))
      ∙ ap (λ (xs : List Brought). messages_in (inbox ++ xs)) (made_append at.number (base_of u at.station).messages ms)
      ∙ ap messages_in (sym (append_assoc inbox old (made_of at.number ms)))
      ∙ messages_in-append (inbox ++ old) (made_of at.number ms)
      ∙ ap (λ (xs : List (List ℕ)). messages_in (inbox ++ old) ++ xs) none
      ∙ append-nil (messages_in (inbox ++ old))
]

told_coming : (at : Place) (m : ℕ) (message : Rsl) (u : Actors) →
    messages_in (made_of at.number (message ∷ [])) ≡ [] →
    arriving at (with_base m (after_tell (base_of u m) message) u) ≡ arriving at u
told_coming at m message u none = made_coming at m (after_tell (base_of u m) message) (message ∷ []) u refl none

spot-coming : (at p : Place) (spot : Spot) (u : Actors) → arriving at (with_spot p spot u) ≡ arriving at u
spot-coming at p spot u = ap messages_in (coming_with_spot u p spot at)

-- which messages bring none
established_none : (k channel : ℕ) (sapi : Sapi) → messages_in (made_of k (establish_indication channel sapi None ∷ [])) ≡ []
established_none k channel sapi = by (channel == k) where
  by : (b : Bool) → messages_in ((if b then [] else []) ++ []) ≡ []
  by true = refl
  by false = refl

ended_none : (k channel : ℕ) → messages_in (made_of k (RfChannelReleaseAck channel ∷ [])) ≡ []
ended_none k channel = by (channel == k) where
  by : (b : Bool) → messages_in ((if b then ends_up ∷ [] else []) ++ []) ≡ []
  by true = refl
  by false = refl

answer-none : (k channel : ℕ) (answer : Bool) → messages_in (made_of k (link_answer answer channel ∷ [])) ≡ []
answer-none k channel true = refl
answer-none k channel false = refl

-- ---- a frame that the station takes elsewhere, or of SAPI 3

short_none : (k channel : ℕ) (frame : List ℕ) → messages_in (made_of k (data_indication channel Three frame ∷ [])) ≡ []
short_none k channel frame = by (nat_le FIRST_SDCCH channel) (channel == k) where
  by : (a b : Bool) → messages_in ((if b then of_main (sapi_of (if a then MAIN_LINK_SAPI_3 else SACCH_SAPI_3)) frame else []) ++ []) ≡ []
  by true true = refl
  by true false = refl
  by false true = refl
  by false false = refl

shorts_none : (k channel : ℕ) (frame : List ℕ) →
    messages_in (made_of k (establish_indication channel Three None ∷ data_indication channel Three frame ∷ [])) ≡ []
shorts_none k channel frame = by (nat_le FIRST_SDCCH channel) (channel == k) where
  by : (a b : Bool) →
      messages_in ((if b then [] else []) ++ ((if b then of_main (sapi_of (if a then MAIN_LINK_SAPI_3 else SACCH_SAPI_3)) frame else []) ++ [])) ≡ []
  by true true = refl
  by true false = refl
  by false true = refl
  by false false = refl

pub short_coming : (at : Place) (w : Actors) (p : Mobile) (here : Place) (frame : List ℕ) →
    arriving at (brought w p here Three frame) ≡ arriving at w
short_coming at w p here frame =
    spot-coming at here (record (spot_at w here) { sapi_three_up = true }) (with_base here.station (short_message_brought (base_of w here.station) here.number (spot_at w here).sapi_three_up frame) w) ∙ by (spot_at w here).sapi_three_up where
      by : (b : Bool) →
          arriving at (with_base here.station (short_message_brought (base_of w here.station) here.number b frame) w) ≡ arriving at w
      by true = told_coming at here.station (data_indication here.number Three frame) w (short_none at.number here.number frame)
      by false =
          made_coming at here.station (short_message_brought (base_of w here.station) here.number false frame) (establish_indication here.number Three None ∷ data_indication here.number Three frame ∷ []) w
          (append_assoc (base_of w here.station).messages (establish_indication here.number Three None ∷ []) (data_indication here.number Three frame ∷ [])) (shorts_none at.number here.number frame)

other_none : (k channel : ℕ) (message : Rsl) (xs : List Brought) →
    (channel == k) ≡ false →
    messages_in ((if channel == k then xs else []) ++ []) ≡ []
other_none k channel message xs other = ap (λ (b : Bool). messages_in ((if b then xs else []) ++ [])) other

pub elsewhere_coming : (at : Place) (w : Actors) (p : Mobile) (here : Place) (frame : List ℕ) →
    at.station ≢ 0 →
    here.station ≢ 0 →
    is_place here at ≡ false →
    arriving at (brought w p here Zero frame) ≡ arriving at w
elsewhere_coming at w p here frame at_is here_is other = elim (cases_Bool (nat_eq here.station at.station)) [
  | inr station ↦ ap messages_in (coming_same w (with_base here.station (signalling_brought (base_of w here.station) here.number p.opens frame) w) at refl (base-elsewhere w at.station here.station _ at_is here_is (λ same. eqb-false here.station at.station station (sym same))))
  | inl station ↦ by p.opens (sym (ap (λ (b : Bool). b && nat_eq here.number at.number) station) ∙ other)
] where
  by : (b : Bool) →
      nat_eq here.number at.number ≡ false →
      arriving at (with_base here.station (signalling_brought (base_of w here.station) here.number b frame) w) ≡ arriving at w
  by true channel = told_coming at here.station (establish_indication here.number Zero (Some frame)) w (other_none at.number here.number (establish_indication here.number Zero (Some frame)) (brings_up frame ∷ []) channel)
  by false channel = told_coming at here.station (data_indication here.number Zero frame) w (other_none at.number here.number (data_indication here.number Zero frame) (brings_up frame ∷ []) channel)

-- ---- pushes and breaks

-- it is as it was; or the link broke, and it is the beginning
pub data Comes (at : Place) (w v : Actors) : Type 0 where
  same : arriving at v ≡ arriving at w → Comes at w v
  begun : is_up v at.station ≡ false → (rest : List (List ℕ)) → arriving at w ≡ arriving at v ++ rest → Comes at w v

up_same : (at : Place) (w v : Actors) → messages_up w at.station ≡ messages_up v at.station → Comes at w v
up_same at w v is = same (ap messages_in (coming_read v at ∙ ap (flat_map (brings at.number)) (sym is) ∙ sym (coming_read w at)))

-- what waits in the inbox then
inbox-then : (n : ℕ) (w : Actors) (event : Event) →
    n ≢ 0 →
    Good w →
    popped w event ≡ [] →
    flat_map (read_of n) (actors_after w event).inbox ≡ flat_map (read_of n) w.inbox ++ given n w event
inbox-then n w event n_is good none = sym (reads_are_kept n w event n_is good ∙ ap (λ (items : List _). flat_map (read_of n) items ++ flat_map (read_of n) (actors_after w event).inbox) none)

plain_coming : (at : Place) (w : Actors) (event : Event) →
    at.station ≢ 0 →
    Good w →
    popped w event ≡ [] →
    Plain at.station w event (actors_after w event) →
    Comes at w (actors_after w event)
plain_coming at w event at_is good none (as_before base nothing) =
    let v : Actors = actors_after w event in
    up_same at w v (sym (ap (λ (ms : List Rsl). ms ++ (base_of v at.station).messages) (inbox-then at.station w event at_is good none ∙ ap (λ (ms : List Rsl). flat_map (read_of at.station) w.inbox ++ ms) nothing ∙ append-nil (flat_map (read_of at.station) w.inbox))
    ∙ ap (λ (b : BaseState). flat_map (read_of at.station) w.inbox ++ b.messages) base))
plain_coming at w event at_is good none (next message first base gave) =
    let v : Actors = actors_after w event in
    up_same at w v (ap (λ (ms : List Rsl). flat_map (read_of at.station) w.inbox ++ ms) (first_and_behind (base_of w at.station).messages message first ∙ ap (λ (b : BaseState). message ∷ b.messages) (sym base))
    ∙ sym (append_assoc (flat_map (read_of at.station) w.inbox) (message ∷ []) (base_of v at.station).messages)
    ∙ ap (λ (ms : List Rsl). flat_map (read_of at.station) w.inbox ++ ms ++ (base_of v at.station).messages) (sym gave)
    ∙ ap (λ (ms : List Rsl). ms ++ (base_of v at.station).messages) (sym (inbox-then at.station w event at_is good none)))
plain_coming at w event at_is good none (ends_now down left nothing) =
    let v : Actors = actors_after w event in
    let inbox : List Rsl = flat_map (read_of at.station) w.inbox in
    let made : List Rsl = (base_of w at.station).messages in
    let now : messages_up v at.station ≡ inbox = ap (λ (ms : List Rsl). ms ++ (base_of v at.station).messages) (inbox-then at.station w event at_is good none ∙ ap (λ (ms : List Rsl). inbox ++ ms) nothing ∙ append-nil inbox) ∙ ap (λ (ms : List Rsl). inbox ++ ms) left ∙ append-nil inbox in
    begun down (messages_in (flat_map (brings at.number) made))
    (ap messages_in (coming_read w at ∙ flat_map-append (brings at.number) inbox made) ∙ messages_in-append (flat_map (brings at.number) inbox) (flat_map (brings at.number) made)
    ∙ ap (λ (ms : List Rsl). messages_in (flat_map (brings at.number) ms) ++ messages_in (flat_map (brings at.number) made)) (sym now)
    ∙ ap (λ (xs : List Brought). messages_in xs ++ messages_in (flat_map (brings at.number) made)) (sym (coming_read v at)))

-- ---- each event but a frame in the air, and the controller's

abbrev pub is_relays : Event → Bool
is_relays Handle = true
is_relays (Tick ms) = true
is_relays _ = false

abbrev pub is_frame : Event → Bool
is_frame (AirUp number sapi) = true
is_frame _ = false

unchanged : (at : Place) (w : Actors) (o : Option Actors) → OfTaken (λ v. arriving at v ≡ arriving at w) o → Comes at w (unwrap_or o w)
unchanged at w o leads = same (after_taken (λ v. arriving at v ≡ arriving at w) o w leads refl)

tells_none : {w : Actors} {event : Event} {n : ℕ} {message : Rsl} (k : ℕ) →
    is_frame event ≡ false →
    Tells w event n message →
    messages_in (made_of k (message ∷ [])) ≡ []
tells_none k b (opens_with number p tenure frame lent) = absurd cc
tells_none k b (brings_frame number sapi p tenure frame lent) = absurd cc
tells_none k b (links number p tenure frame lent) = absurd cc
tells_none k b (establishes tenure reached) = established_none k tenure.at.number Zero
tells_none k b (answers station l answer taken) = answer-none k l.channel answer
tells_none k b _ = refl

air_comes : (at : Place) (w : Actors) (event : Event) → is_on_air event ≡ true → is_frame event ≡ false → Comes at w (actors_after w event)
air_comes at w event on b = same (air_after (λ v. arriving at v ≡ arriving at w) w event on (record {
  puts = λ u number p q _ _ _ is. is;
  joins = λ number initial accepts _ is. is;
  tells = λ u n message _ how is. told_coming at n message u (tells_none at.number b how) ∙ is;
  spots = λ u p spot _ _ is. spot-coming at p spot u ∙ is;
  pops = λ station others _ is. is;
  activates = λ u s a _ _ is.
      let base : BaseState = after_activate (base_of u s) a.channel in
      spot-coming at (place_at s a.channel) _ (with_base s base u) ∙ made_coming at s base (activation_ack a.channel ∷ []) u refl refl ∙ is;
  releases = λ u s channel _ is.
      let base : BaseState = after_release (base_of u s) channel in
      spot-coming at (place_at s channel) _ (with_base s base u) ∙ made_coming at s base (RfChannelReleaseAck channel ∷ []) u refl (ended_none at.number channel) ∙ is;
}) refl)

pub comes_step : (at : Place) (w : Actors) (event : Event) →
    at.station ≢ 0 →
    Good w →
    is_relays event ≡ false →
    is_frame event ≡ false →
    Comes at w (actors_after w event)
unfolding event_after
comes_step at w (BasePush source) at_is good a b = plain_coming at w (BasePush source) at_is good refl (pushing at.station source w at_is)
comes_step at w Handle at_is good a b = absurd (true≢false a)
comes_step at w SwitchTakes at_is good a b =
    unchanged at w (after_switch_takes w) (switch_takes_leads (λ v. arriving at v ≡ arriving at w) w (λ first others _ _. switch_took-leads (λ v. arriving at v ≡ arriving at w) (with_outbox SWITCH_LINK others w) (sccp_in first.out.frame) refl (λ nexts made. refl)))
comes_step at w (SwitchDoes action) at_is good a b = unchanged at w (after_switch_does w action) (does_leads (λ v. arriving at v ≡ arriving at w) w action (λ nexts made. refl))
comes_step at w (Tick ms) at_is good a b = absurd (true≢false a)
comes_step at w (BaseDown source) at_is good a b = plain_coming at w (BaseDown source) at_is good refl (breaking at.station source w at_is)
comes_step at w event at_is good a b = air_comes at w event refl b
