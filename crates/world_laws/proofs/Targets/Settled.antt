-- SPDX-License-Identifier: MIT OR Apache-2.0
-- Channels remain settled at each event.
use Rattle.world_laws.proofs.Prelude.{◌≡◌, ◌≢◌, ◌⊎◌, inl, inr, ℕ, ◌-◌, ◌<◌, ◌||◌, Bool, true, false, List, [], ◌∷◌, ◌++◌, length, refl, sym}
use Rattle.world_laws.proofs.Prelude.{ap, ◌∙◌, subst, flat_map-append, append-nil, flat_map, list_any, Place, ChannelState, Free, InUse}
use Rattle.world_laws.proofs.Prelude.{Releasing, channel_state, hears, is_active, activation_ack, Tenures, Rsl, RfChannelReleaseAck, Event}
use Rattle.world_laws.proofs.Prelude.{Tenure, actors_after, Agrees, active_behind, is_in_use, to_arrive, began, begins, begins_and_ends}
use Rattle.world_laws.proofs.Prelude.{acknowledgements, due, put, taken, Actors, Link, is_active_at, is_up, outbox_of, Good, both_empty}
use Rattle.world_laws.proofs.Prelude.{outbox-step, OutboxStep, breaks, acks_append, pipe-step, PipeStep, flows, stops, false≢true, IsOwed}
use Rattle.world_laws.proofs.Prelude.{popped, acknowledgements_up, is_release_ack, messages_up, read_of, brings, coming_up, IsSettled}
use Rattle.world_laws.proofs.Prelude.{AreOnActive, is_ending}
use Rattle.world_model.specs.OwnerLines.IsOwed.{nothing, ends}
use Rattle.world_model.proofs.Outboxes.Step.{kept_order}
use Rattle.world_laws.proofs.Acknowledged.{coming_read}
use Rattle.world_laws.proofs.Targets.Air.{IdleAir}
use Rattle.world_laws.proofs.Targets.Calm.{down_active}
use Rattle.world_laws.proofs.Targets.Ways.{WaysStand, any_middle, behind_end, nothing_before, still_within, ways_down}
use Rattle.world_laws.proofs.Targets.Within.{still_all, within_append, within_behind}
use Rattle.world_laws.proofs.Channels.RoleAcks.{up_first}

-- ---- what arrives from a channel that is free, or whose end is on its way

-- behind it nothing is due, and the channel isn't in use
pub comes_idle : (k : ℕ) (state : ChannelState) (all xs ys : List Rsl) →
    IsOwed k state all →
    all ≡ xs ++ ys →
    (state ≡ Free) ⊎ (list_any is_release_ack xs ≡ true) →
    (ys ≡ []) × (is_in_use state ≡ false)
comes_idle k Free all xs ys nothing is why = ((both_empty xs ys is).1, refl)
comes_idle k (InUse number) all xs ys owed is (inl free) = absurd cc
comes_idle k (InUse number) all [] ys owed is (inr any) = absurd cc
comes_idle k (InUse number) all (x ∷ xs) ys began is (inr any) = absurd cc
comes_idle k (InUse number) all (x ∷ xs) ys begins is (inr any) = absurd (none xs any first (both_empty xs ys cc).0) where
  first : activation_ack k ≡ x
  first = cc

  none : (zs : List Rsl) → is_release_ack x || list_any is_release_ack zs ≡ true → activation_ack k ≡ x → zs ≡ [] → ⊥
  none zs any is_ack empty = absurd (false≢true (sym (ap (list_any is_release_ack) empty) ∙ ap (λ (m : Rsl). is_release_ack m || list_any is_release_ack zs) is_ack ∙ any))
comes_idle k (Releasing number) all xs ys owed is (inl free) = absurd cc
comes_idle k (Releasing number) all [] ys owed is (inr any) = absurd cc
comes_idle k (Releasing number) all (x ∷ xs) ys ends is (inr any) = ((both_empty xs ys cc).1, refl)
comes_idle k (Releasing number) all (x ∷ []) ys begins_and_ends is (inr any) = absurd (false≢true (ap (λ (m : Rsl). is_release_ack m || false) first ∙ any)) where
  first : activation_ack k ≡ x
  first = cc
comes_idle k (Releasing number) all (x ∷ y ∷ xs) ys begins_and_ends is (inr any) = ((both_empty xs ys cc).1, refl)

pub comes_free : (k : ℕ) (state : ChannelState) (all : List Rsl) → IsOwed k state all → state ≡ Free → all ≡ []
comes_free k Free all nothing is = refl
comes_free k _ all owed is = absurd cc

-- ---- what an event is to a channel

-- the channel is free then: it was before, or its RF CHANNEL RELEASE ACK is taken
pub record Frees (w : Actors) (event : Event) (at : Place) : Type 0 where
  pub hearing : hears (actors_after w event).controller at.station ≡ true → hears w.controller at.station ≡ true
  pub freed : hears (actors_after w event).controller at.station ≡ true → channel_state (actors_after w event).controller at ≡ Free
      → (channel_state w.controller at ≡ Free) ⊎ ((channel : ℕ) × (acknowledgements at.number (flat_map (read_of at.station) (popped w event)) ≡ RfChannelReleaseAck channel ∷ []))

pub record Around (owner : Tenure → ℕ) (w : Actors) (event : Event) (at : Place) : Type 0 where
  pub least : at.station ≢ 0
  pub there : at.station - 1 < length w.stations
  pub none : is_up w at.station ≡ false → outbox_of w at.station ≡ []
  pub good : Good w
  pub agrees : Agrees owner (actors_after w event) at
  pub before : WaysStand w at
  pub after : WaysStand (actors_after w event) at
  pub puts : AreOnActive at.number (active_behind w at) (put at.station w event)
  pub air : IdleAir (actors_after w event)
  pub frees : Frees w event at

module _ (owner : Tenure → ℕ) (w : Actors) (event : Event) (at : Place) (a : Around owner w event at) (settled : IsSettled w at) where
  abbrev v : Actors
  v = actors_after w event

  abbrev n : ℕ
  n = at.station

  abbrev k : ℕ
  k = at.number

  -- ---- the line

  line_by : OutboxStep n w event v → PipeStep n k w event v → AreOnActive k (is_active_at v at) (outbox_of v n)
  line_by (kept_order up all) (flows acks active) =
      subst (λ (b : Bool). AreOnActive k b (outbox_of v n)) (sym active)
      (within_behind k (is_active_at w at) (taken n w event) (outbox_of v n) (subst (AreOnActive k (is_active_at w at)) all (within_append k (is_active_at w at) (outbox_of w n) (put n w event) settled.line a.puts)))
  line_by (breaks broken unput nobody) pipe = subst (λ (l : Link). AreOnActive k (is_active_at v at) l.outbox) (sym broken) tt
  line_by (kept_order up all) (stops down left dropped ungiven nobody) = subst (AreOnActive k (is_active_at v at)) (sym dropped) tt

  line : AreOnActive k (is_active_at v at) (outbox_of v n)
  line = line_by (outbox-step n w event) (pipe-step n k w event a.least a.there a.none)

  -- ---- while the link is up

  idle_up : hears v.controller n ≡ true →
      is_up v n ≡ true →
      (channel_state v.controller at ≡ Free) ⊎ (is_ending v at ≡ true) →
      is_active_at v at ≡ false
  idle_up hearing up why =
      let way = a.agrees.way hearing in
      let all : to_arrive v at ++ way.lost ≡ acknowledgements_up v at ++ due k (is_active_at v at) (outbox_of v n) = ap (λ (xs : List Rsl). to_arrive v at ++ xs) (way.all up) ∙ append-nil (to_arrive v at) ∙ up_first v at in
      let both = comes_idle k (channel_state v.controller at) (to_arrive v at ++ way.lost) (acknowledgements_up v at) (due k (is_active_at v at) (outbox_of v n)) way.owed all why in
      sym (still_all k (is_active_at v at) (outbox_of v n) both.0) ∙ way.active up ∙ both.1

  -- no acknowledgement arrives from a free channel
  none_acks : hears v.controller n ≡ true → channel_state v.controller at ≡ Free → acknowledgements k (messages_up v n) ≡ []
  none_acks hearing free =
      let way = a.agrees.way hearing in
      let none : to_arrive v at ++ way.lost ≡ [] = comes_free k (channel_state v.controller at) (to_arrive v at ++ way.lost) way.owed free in
      (both_empty (acknowledgements_up v at) (due k (is_active_at v at) (outbox_of v n)) (sym (sym (up_first v at) ∙ (both_empty (to_arrive v at) way.lost (sym none)).0))).0

  silent_up : hears v.controller n ≡ true → is_up v n ≡ true → channel_state v.controller at ≡ Free → coming_up v at ≡ []
  silent_up hearing up free =
      let none = none_acks hearing free in
      let outside : a.after.within ≡ false = still_within k (messages_up v n) a.after.stand none ∙ a.after.now up ∙ idle_up hearing up (inl free) in
      coming_read v at ∙ nothing_before k (messages_up v n) [] (subst (λ (ms : List Rsl). Tenures k false ms a.after.end) (sym (append-nil (messages_up v n))) (subst (λ (b : Bool). Tenures k b (messages_up v n) a.after.end) outside a.after.stand)) none

  -- ---- once it is down

  module _ (down : is_up v n ≡ false) where
    abbrev read : List Rsl
    read = flat_map (read_of n) (popped w event)

    gone : (rest : List Rsl) × (messages_up w n ≡ read ++ (messages_up v n ++ rest))
    gone = ways_down n w event a.least a.good down

    acks_go : acknowledgements_up w at ≡ acknowledgements k read ++ (acknowledgements_up v at ++ acknowledgements k gone.0)
    acks_go =
        ap (acknowledgements k) gone.1 ∙ acks_append k read (messages_up v n ++ gone.0)
        ∙ ap (λ (ms : List Rsl). acknowledgements k read ++ ms) (acks_append k (messages_up v n) gone.0)

    was_ending : (channel : ℕ) → acknowledgements k read ≡ RfChannelReleaseAck channel ∷ [] → is_ending w at ≡ true
    was_ending channel is = ap (list_any is_release_ack) (acks_go ∙ ap (λ (ms : List Rsl). ms ++ (acknowledgements_up v at ++ acknowledgements k gone.0)) is)

    still_ending : is_ending v at ≡ true → is_ending w at ≡ true
    still_ending is = ap (list_any is_release_ack) acks_go ∙ any_middle (acknowledgements k read) (acknowledgements_up v at) (acknowledgements k gone.0) is

    idle_down : hears v.controller n ≡ true → (channel_state v.controller at ≡ Free) ⊎ (is_ending v at ≡ true) → is_active_at v at ≡ false
    idle_down hearing why =
        ap (λ (active : List ℕ). is_active active k) (down_active n w event a.least down)
        ∙ settled.idle (a.frees.hearing hearing) (elim why [
          | inr ending ↦ inr (still_ending ending)
          | inl free ↦ elim (a.frees.freed hearing free) [
            | inl was ↦ inl was
            | inr acks ↦ inr (was_ending acks.0 acks.1)
          ]
        ])

    brings-go : flat_map (brings k) (messages_up w n) ≡ flat_map (brings k) read ++ (flat_map (brings k) (messages_up v n) ++ flat_map (brings k) gone.0)
    brings-go =
        ap (flat_map (brings k)) gone.1 ∙ flat_map-append (brings k) read (messages_up v n ++ gone.0)
        ∙ ap (λ (xs : List _). flat_map (brings k) read ++ xs) (flat_map-append (brings k) (messages_up v n) gone.0)

    silent_down : hears v.controller n ≡ true → channel_state v.controller at ≡ Free → coming_up v at ≡ []
    silent_down hearing free = coming_read v at ∙ elim (a.frees.freed hearing free) [
      | inl was ↦
          let none : flat_map (brings k) (messages_up w n) ≡ [] = sym (coming_read w at) ∙ settled.silent (a.frees.hearing hearing) was in
          let behind = (both_empty (flat_map (brings k) read) (flat_map (brings k) (messages_up v n) ++ flat_map (brings k) gone.0) (sym none ∙ brings-go)).1 in
          (both_empty (flat_map (brings k) (messages_up v n)) (flat_map (brings k) gone.0) (sym behind)).0
      | inr acks ↦
          nothing_before k (messages_up v n) gone.0 (behind_end k acks.0 read (messages_up v n ++ gone.0) (subst (λ (ms : List Rsl). Tenures k a.before.within ms a.before.end) gone.1 a.before.stand) acks.1) (none_acks hearing free)
    ]

  pub settled_after : IsSettled v at
  settled_after = by (is_up v n) refl where
    by : (b : Bool) → is_up v n ≡ b → IsSettled v at
    by true up = record { line = line; air = λ idle. a.air at a.least idle; idle = λ hearing why. idle_up hearing up why; silent = λ hearing free. silent_up hearing up free }
    by false down = record { line = line; air = λ idle. a.air at a.least idle; idle = λ hearing why. idle_down down hearing why; silent = λ hearing free. silent_down down hearing free }
