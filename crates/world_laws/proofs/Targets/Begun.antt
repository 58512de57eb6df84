-- SPDX-License-Identifier: MIT OR Apache-2.0
-- A target that begins was free: after the turn nothing is on its way there.
use Rattle.world_laws.proofs.Prelude.{◌≡◌, ◌⊎◌, inl, inr, ℕ, Bool, true, false, List, [], ◌∷◌, ◌++◌, map, Some, refl, sym, ap}
use Rattle.world_laws.proofs.Prelude.{◌∙◌, subst, append_assoc, flat_map-append, append-nil, flat_map, list_any, AllByRecursion, Change}
use Rattle.world_laws.proofs.Prelude.{Assignment, Handover, Channel, Place, Message, Out, outs_of, change_activation, is_order, orders}
use Rattle.world_laws.proofs.Prelude.{is_for, outs_for, IsSent, ChannelState, Free, InUse, Releasing, channel_state, hears, place_of}
use Rattle.world_laws.proofs.Prelude.{Tenures, Activation, Rsl, ChannelActivation, RfChannelRelease, RfChannelReleaseAck, AirMessage}
use Rattle.world_laws.proofs.Prelude.{Tenure, Agrees, to_arrive, began, begins, begins_and_ends, acknowledgements, due, Actors, is_active_at}
use Rattle.world_laws.proofs.Prelude.{is_up, outbox_of, both_empty, RunsThrough, Passes, Runs, said_to, runs, first_passes, activates, over}
use Rattle.world_laws.proofs.Prelude.{passes, releases, IsOne, hear, acks_append, AllByRecursion-filter, out_of, IsOwed, acknowledgements_up}
use Rattle.world_laws.proofs.Prelude.{is_release_ack, messages_up, brings, coming_up, going_down, leading_from_air, leading_from_outbox}
use Rattle.world_laws.proofs.Prelude.{IsSettled, AreOnActive, is_ending}
use Rattle.world_model.specs.OwnerLines.IsOwed.{nothing, ends}
use Rattle.world_laws.proofs.Acknowledged.{coming_read}
use Rattle.world_laws.proofs.Framing.{all_right}
use Rattle.world_laws.proofs.OrderTexts.{seen_activation}
use Rattle.world_laws.proofs.Targets.FreeQuiet.{alone, hear_free}
use Rattle.world_laws.proofs.Targets.Settled.{comes_idle}
use Rattle.world_laws.proofs.Targets.Ways.{WaysStand, behind_end, nothing_before}
use Rattle.world_laws.proofs.Targets.Within.{none_leads}
use Rattle.world_laws.proofs.Channels.RoleAcks.{up_first}

-- ---- what is activated in a turn was free

abbrev NotActivates : Place → Out → Type 0
NotActivates at out = (b : Activation) → said_to at out ≡ Some (ChannelActivation b) → b.channel ≡ at.number → ⊥

passes_none : (at : Place) (out : Out) → Passes at.number (said_to at out) → NotActivates at out
passes_none at out beside b says same = subst (Passes at.number) says beside same

releases_none : (at : Place) (out : Out) → said_to at out ≡ Some (RfChannelRelease at.number) → NotActivates at out
releases_none at out is b says same = let both : Some (RfChannelRelease at.number) ≡ Some (ChannelActivation b) = sym is ∙ says in absurd cc

runs_none : {at : Place} {state end : ChannelState} {outs : List Out} → Runs at state outs end → AllByRecursion (NotActivates at) outs
runs_none over = tt
runs_none {at} (passes {out = out} beside rest) = (passes_none at out beside, runs_none rest)
runs_none {at} (releases {out = out} says rest) = (releases_none at out says, runs_none rest)

changed_none : {at : Place} {state end : ChannelState} {outs : List Out} →
    RunsThrough at state outs end →
    (state ≡ Free → ⊥) →
    AllByRecursion (NotActivates at) outs
changed_none (runs all) busy = runs_none all
changed_none {at} (first_passes {out = out} beside rest) busy = (passes_none at out beside, changed_none rest busy)
changed_none (activates a says same few rest) busy = absurd (busy refl)

all_unmap : {X Y : Type 0} (P : Y → Type 0) (f : X → Y) (xs : List X) → AllByRecursion P (map f xs) → AllByRecursion (λ x. P (f x)) xs
all_unmap P f [] all = tt
all_unmap P f (x ∷ xs) all = (all.0, all_unmap P f xs all.1)

-- the last of the orders that are put
last_order : (P : Out → Type 0) (n : ℕ) (outs : List Out) (put firsts : List Message) (m : Message) →
    AllByRecursion P outs →
    outs_for n outs ≡ outs_of n put →
    orders put ≡ firsts ++ m ∷ [] →
    P (out_of n m)
last_order P n outs put firsts m all is ordered =
    (all_right (λ x. P (out_of n x)) firsts (m ∷ []) (subst (AllByRecursion (λ x. P (out_of n x))) ordered (AllByRecursion-filter (λ x. P (out_of n x)) is_order put (all_unmap P (out_of n) put (subst (AllByRecursion P) is (AllByRecursion-filter P (is_for n) outs all)))))).0

change_seen : (n : ℕ) (change : Change) (c : Channel) →
    IsSent (out_of n (change_activation change c)) →
    NotActivates (place_of c) (out_of n (change_activation change c)) →
    ⊥
change_seen n Assignment c sent none = let seen = seen_activation n (place_of c) _ sent in none seen.0 seen.1 seen.2
change_seen n Handover c sent none = let seen = seen_activation n (place_of c) _ sent in none seen.0 seen.1 seen.2

pub activated_free : (n : ℕ) (change : Change) (c : Channel) (outs : List Out) (put firsts : List Message) (state end : ChannelState) →
    AllByRecursion IsSent outs →
    outs_for n outs ≡ outs_of n put →
    orders put ≡ firsts ++ change_activation change c ∷ [] →
    RunsThrough (place_of c) state outs end →
    state ≡ Free
activated_free n change c outs put firsts state end sent is ordered claim = by state refl where
  never : (state ≡ Free → ⊥) → ⊥
  never busy = change_seen n change c (last_order IsSent n outs put firsts (change_activation change c) sent is ordered) (last_order (NotActivates (place_of c)) n outs put firsts (change_activation change c) (changed_none claim busy) is ordered)

  by : (x : ChannelState) → state ≡ x → state ≡ Free
  by Free same = same
  by (InUse k) same = absurd (never (λ free. let both : InUse k ≡ Free = sym same ∙ free in absurd cc))
  by (Releasing k) same = absurd (never (λ free. let both : Releasing k ≡ Free = sym same ∙ free in absurd cc))

-- ---- a channel that is free, or whose end is on its way

comes_end : (k channel : ℕ) (state : ChannelState) (all rest : List Rsl) →
    IsOwed k state all →
    all ≡ RfChannelReleaseAck channel ∷ rest →
    rest ≡ []
comes_end k channel state all rest nothing is = absurd cc
comes_end k channel state all rest began is = absurd cc
comes_end k channel state all rest begins is = absurd cc
comes_end k channel state all rest ends is = sym cc
comes_end k channel state all rest begins_and_ends is = absurd cc

module _ (owner : Tenure → ℕ) (w : Actors) (at : Place) (agrees : Agrees owner w at) (none : is_up w at.station ≡ false → outbox_of w at.station ≡ []) (settled : IsSettled w at) (ways : WaysStand w at) (hearing : hears w.controller at.station ≡ true) where
  abbrev n : ℕ
  n = at.station

  abbrev k : ℕ
  k = at.number

  -- no command is on its way there
  pub ending_down : (channel_state w.controller at ≡ Free) ⊎ (is_ending w at ≡ true) → going_down w at ≡ []
  ending_down why = ap (λ (air : List AirMessage). flat_map leading_from_air air ++ flat_map (leading_from_outbox k) (outbox_of w n)) (settled.air idle) ∙ by (is_up w n) refl where
    idle : is_active_at w at ≡ false
    idle = settled.idle hearing why

    by : (b : Bool) → is_up w n ≡ b → flat_map (leading_from_outbox k) (outbox_of w n) ≡ []
    by false down = ap (flat_map (leading_from_outbox k)) (none down)
    by true up =
        let way = agrees.way hearing in
        let all : to_arrive w at ++ way.lost ≡ acknowledgements_up w at ++ due k (is_active_at w at) (outbox_of w n) = ap (λ (xs : List Rsl). to_arrive w at ++ xs) (way.all up) ∙ append-nil (to_arrive w at) ∙ up_first w at in
        let nothing_due = (comes_idle k (channel_state w.controller at) (to_arrive w at ++ way.lost) (acknowledgements_up w at) (due k (is_active_at w at) (outbox_of w n)) way.owed all why).0 in
        none_leads k (outbox_of w n) (subst (λ (b : Bool). due k b (outbox_of w n) ≡ []) idle nothing_due) (subst (λ (b : Bool). AreOnActive k b (outbox_of w n)) idle settled.line)

  -- once the controller took what it reads here, and frees the channel by it, if it wasn't free
  module _ (v : Actors) (read : List Rsl) (claim : messages_up w n ≡ read ++ messages_up v n) (heard : List Rsl) (one : IsOne heard) (is_heard : heard ≡ acknowledgements k read) (freed : hear heard (channel_state w.controller at) ≡ Free) where
    abbrev Frees : Type 0
    Frees = (channel_state w.controller at ≡ Free) ⊎ ((channel : ℕ) × (acknowledgements k read ≡ RfChannelReleaseAck channel ∷ []))

    frees : Frees
    frees = elim (hear_free heard (channel_state w.controller at) freed) [
      | inl was ↦ inl was
      | inr acks ↦ inr (acks.0, sym is_heard ∙ alone heard (RfChannelReleaseAck acks.0) acks.1 one acks.2)
    ]

    acks_go : acknowledgements_up w at ≡ acknowledgements k read ++ acknowledgements k (messages_up v n)
    acks_go = ap (acknowledgements k) claim ∙ acks_append k read (messages_up v n)

    pub freed_down : going_down w at ≡ []
    freed_down = elim frees [
      | inl was ↦ ending_down (inl was)
      | inr acks ↦ ending_down (inr (ap (list_any is_release_ack) (acks_go ∙ ap (λ (ms : List Rsl). ms ++ acknowledgements k (messages_up v n)) acks.1)))
    ]

    behind_none : (channel : ℕ) → acknowledgements k read ≡ RfChannelReleaseAck channel ∷ [] → acknowledgements k (messages_up v n) ≡ []
    behind_none channel is =
        let way = agrees.way hearing in
        let rest : List Rsl = acknowledgements k (messages_up v n) ++ (due k (is_active_at w at) (outbox_of w n) ++ way.lost) in
        let all : to_arrive w at ++ way.lost ≡ RfChannelReleaseAck channel ∷ rest =
        ap (λ (xs : List Rsl). xs ++ way.lost) (up_first w at ∙ ap (λ (xs : List Rsl). xs ++ due k (is_active_at w at) (outbox_of w n)) (acks_go ∙ ap (λ (xs : List Rsl). xs ++ acknowledgements k (messages_up v n)) is))
        ∙ ap (λ (xs : List Rsl). RfChannelReleaseAck channel ∷ xs) (append_assoc (acknowledgements k (messages_up v n)) (due k (is_active_at w at) (outbox_of w n)) way.lost) in
        (both_empty (acknowledgements k (messages_up v n)) (due k (is_active_at w at) (outbox_of w n) ++ way.lost) (sym (comes_end k channel (channel_state w.controller at) (to_arrive w at ++ way.lost) rest way.owed all))).0

    pub freed_silent : coming_up v at ≡ []
    freed_silent = coming_read v at ∙ elim frees [
      | inl was ↦
          let empty : flat_map (brings k) read ++ flat_map (brings k) (messages_up v n) ≡ [] = sym (flat_map-append (brings k) read (messages_up v n)) ∙ ap (flat_map (brings k)) (sym claim) ∙ sym (coming_read w at) ∙ settled.silent hearing was in
          (both_empty (flat_map (brings k) read) (flat_map (brings k) (messages_up v n)) (sym empty)).1
      | inr acks ↦
          nothing_before k (messages_up v n) []
          (subst (λ (ms : List Rsl). Tenures k false ms ways.end) (sym (append-nil (messages_up v n))) (behind_end k acks.0 read (messages_up v n) (subst (λ (ms : List Rsl). Tenures k ways.within ms ways.end) claim ways.stand) acks.1))
          (behind_none acks.0 acks.1)
    ]
