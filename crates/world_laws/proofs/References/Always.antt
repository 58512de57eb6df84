-- SPDX-License-Identifier: MIT OR Apache-2.0
-- The names agree, whatever happened.
use Rattle.world_laws.proofs.Prelude.{◌≡◌, ℕ, ◌+◌, ◌≤◌, ◌^◌, List, [], ◌∷◌, ◌++◌, length, unwrap_or, Option, Some, None, refl, sym, ap}
use Rattle.world_laws.proofs.Prelude.{◌∙◌, subst, inl, AllByRecursion, Sccp, SWITCH_LINK, AllByRecursion-append, IsOctetStep}
use Rattle.world_laws.proofs.Prelude.{life_sound, Step, Controller, Item, AreAllowed, Parameters, Event, BaseTakes, BasePush, Handle}
use Rattle.world_laws.proofs.Prelude.{SwitchTakes, SwitchDoes, Tick, BaseDown, OutboxEntry, actors_after, actors_after_all, handled}
use Rattle.world_laws.proofs.Prelude.{target_in, after_base_takes, all_steps, first_taken, step_at, after_switch_takes, sccp_in}
use Rattle.world_laws.proofs.Prelude.{switch_took, Actors, Link, link_of, new_actors, outbox_of, with_outbox, switch_takes_leads}
use Rattle.world_laws.proofs.Prelude.{after_taken, FollowsTable-new, new_outbox, aerial_leads, taking_leads, ◌≢◌, up_right, OfTaken}
use Rattle.world_laws.proofs.Prelude.{other_link, is_unasked, TakesOctets, NamesAlwaysAgree, PeersDiffer}
use Rattle.controller_model.specs.declared.step.Step.TheVariants as steps
use Rattle.world_model.specs.Life.{event_after}
use Rattle.world_model.proofs.Leads.{FromAir}
use Rattle.world_laws.specs.References.Agree.{ConfirmsBeing, IsRight, NamesAgree, reads_of}
use Rattle.world_laws.specs.References.Reads.{AreNothing}
use Rattle.world_laws.proofs.References.Events.{IsBeside, Keeps, break_keeps, by_beside, does_keeps, keeps_itself, dropped_same, push_keeps}
use Rattle.world_laws.proofs.References.FirstTaken.{IsFirst, names_after, peers_after, unheard_after}
use Rattle.world_laws.proofs.References.Moving.{lived}
use Rattle.world_laws.proofs.References.Peers.{HaveOwnPeers, own_peers}
use Rattle.world_laws.proofs.References.Stepping.{Lawful, item_comes, lawful_step, step_keeps}
use Rattle.world_laws.proofs.Events.{snoc_actors, snoc_steps, world}
use Rattle.world_laws.proofs.Framing.{all_left, all_right}

-- ---- beside

-- no mobile and no station touches the switch, its outbox, or what the controller takes
beside : (w : Actors) → IsBeside w w
beside w = record { controller_is = refl; switch_is = refl; made_is = refl; inbox_is = refl; outbox_is = refl }

beside_after : (w : Actors) (o : Option Actors) → OfTaken (IsBeside w) o → Keeps w (unwrap_or o w)
beside_after w o leads = by_beside w (unwrap_or o w) (after_taken (IsBeside w) o w leads (beside w))

beside_takes : (w : Actors) (station : ℕ) → OfTaken (IsBeside w) (after_base_takes w station)
beside_takes w station = taking_leads (IsBeside w) w station (λ first others up _ mobiles stations.
    record { controller_is = refl; switch_is = refl; made_is = refl; inbox_is = refl; outbox_is = same others (up_right station w up).0 })
  where
    same : (others : List OutboxEntry) →
        station ≢ SWITCH_LINK →
        outbox_of (with_outbox station others w) SWITCH_LINK ≡ outbox_of w SWITCH_LINK
    same others differs = ap (λ (l : Link). l.outbox) (other_link w SWITCH_LINK station (record (link_of w station) { outbox = others }) (λ is. differs (sym is)))

-- ---- each event

-- what is known of the controller, and that the names agree before
pub record Before (w : Actors) (event : Event) : Type 0 where
  pub agree : NamesAgree w
  pub few : w.controller.next_number ≤ 2 ^ 24
  pub laws : (s : Step) → IsOctetStep s → Lawful w.controller s
  pub octets : TakesOctets w event

-- the switch takes
takes_keeps : (w : Actors) → NamesAgree w → w.controller.next_number ≤ 2 ^ 24 → Keeps w (unwrap_or (after_switch_takes w) w)
takes_keeps w agree few = after_taken (Keeps w) (after_switch_takes w) w (switch_takes_leads (Keeps w) w (λ first others up pending.
    let h : IsFirst w first others = record { agree = agree; few = few; up = up; pending = pending } in
    first_keeps first others h)) (keeps_itself w)
  where
    first_keeps : (first : OutboxEntry) (others : List OutboxEntry) →
        IsFirst w first others →
        Keeps w (switch_took (sccp_in first.out.frame) (with_outbox SWITCH_LINK others w))
    first_keeps first others h = record {
      names = λ agree. names_after w first others h;
      remains_unknown = λ n from_one has unknown. unheard_after w first others h n from_one has unknown;
      dropped = λ n from_one has closed. dropped_same w (switch_took (sccp_in first.out.frame) (with_outbox SWITCH_LINK others w)) n (same_controller (sccp_in first.out.frame)) has closed;
      peers = λ differ. peers_after w first others h differ;
    } where
      same_controller : (o : Option Sccp) → (switch_took o (with_outbox SWITCH_LINK others w)).controller ≡ w.controller
      same_controller None = refl
      same_controller (Some message) = refl

handle_keeps : (w : Actors) →
    ((s : Step) → IsOctetStep s → Lawful w.controller s) →
    (items : List Item) →
    w.inbox ≡ items →
    AllByRecursion IsOctetStep (first_taken items) →
    Keeps w (unwrap_or (handled items w) w)
handle_keeps w laws [] is own = keeps_itself w
handle_keeps w laws (item ∷ items) is own =
    step_keeps w items (target_in w item.source item.what) (steps.Take item) (laws (steps.Take item) own.0)
    (λ n P confirms. (subst (AllByRecursion (ConfirmsBeing P n)) is confirms.waiting).1)
    (λ n P confirms r comes. item_comes P n r w.controller item (subst (AllByRecursion (ConfirmsBeing P n)) is confirms.waiting).0 comes)

pub keeps : (w : Actors) (event : Event) → Before w event → Keeps w (actors_after w event)
unfolding event_after FromAir
keeps w (BaseTakes station) h = beside_after w (after_base_takes w station) (beside_takes w station)
keeps w (BasePush source) h = push_keeps w source
keeps w Handle h = handle_keeps w h.laws w.inbox refl h.octets
keeps w SwitchTakes h = takes_keeps w h.agree h.few
keeps w (SwitchDoes action) h = does_keeps w action
keeps w (Tick ms) h = step_keeps w w.inbox None (steps.Tick ms) (h.laws (steps.Tick ms) h.octets.0) (λ n P confirms. confirms.waiting) (λ n P confirms r comes. absurd comes)
keeps w (BaseDown source) h = break_keeps w source
keeps w event h = beside_after w (event_after w event) (aerial_leads (IsBeside w) w event refl (λ mobiles stations. record { controller_is = refl; switch_is = refl; made_is = refl; inbox_is = refl; outbox_is = refl }))

-- ---- all events

new_agree : (settings : Parameters) → NamesAgree (new_actors settings)
new_agree settings = record {
  each = λ n from_one. is_unasked (inl from_one) (record {
    none = refl;
    quiet = subst (λ (entries : List OutboxEntry). AreNothing (reads_of n entries)) (sym empty) tt;
    unconfirmed = record { made = tt; waiting = tt };
  });
  right = subst (AllByRecursion (λ (entry : OutboxEntry). IsRight entry.out)) (sym empty) tt;
} where
  empty : outbox_of (new_actors settings) SWITCH_LINK ≡ []
  empty = new_outbox (length settings.cells + 1) SWITCH_LINK

pub before_of : (settings : Parameters) (done : List Event) (w : Actors) (event : Event) →
    w ≡ world settings done →
    AreAllowed settings →
    AllByRecursion IsOctetStep (all_steps (new_actors settings) done) →
    TakesOctets w event →
    NamesAgree w →
    Before w event
before_of settings done w event is allowed octets own agree =
    let by_table : w.controller ≡ lived settings done = ap (λ (x : Actors). x.controller) is ∙ FollowsTable-new settings done in
    record {
      agree = agree;
      few = subst (λ (c : Controller). c.next_number ≤ 2 ^ 24) (sym by_table) (life_sound settings (all_steps (new_actors settings) done) allowed octets).next;
      laws = λ s comes. subst (λ (c : Controller). Lawful c s) (sym by_table) (lawful_step settings (all_steps (new_actors settings) done) s allowed octets comes);
      octets = own;
    }

abbrev AgreeWithOwnPeers : Actors → Type 0
AgreeWithOwnPeers w = NamesAgree w × HaveOwnPeers w

agree_through : (settings : Parameters) (done rest : List Event) (w : Actors) →
    w ≡ world settings done →
    AreAllowed settings →
    AllByRecursion IsOctetStep (all_steps (new_actors settings) done) →
    AllByRecursion IsOctetStep (all_steps w rest) →
    AgreeWithOwnPeers w →
    AgreeWithOwnPeers (actors_after_all w rest)
agree_through settings done [] w is allowed octets later agree = agree
agree_through settings done (event ∷ rest) w is allowed octets later agree =
    let own = all_left IsOctetStep (step_at w event) (all_steps (actors_after w event) rest) later in
    let kept : Keeps w (actors_after w event) = keeps w event (before_of settings done w event is allowed octets own agree.0) in
    agree_through settings (done ++ event ∷ []) rest (actors_after w event) (ap (λ (x : Actors). actors_after x event) is ∙ sym (snoc_actors (new_actors settings) done event)) allowed
    (subst (AllByRecursion IsOctetStep) (sym (snoc_steps (new_actors settings) done event)) (AllByRecursion-append IsOctetStep (all_steps (new_actors settings) done) (step_at (world settings done) event) octets
    (subst (λ (x : Actors). AllByRecursion IsOctetStep (step_at x event)) is own)))
    (all_right IsOctetStep (step_at w event) (all_steps (actors_after w event) rest) later)
    (kept.names agree.0, kept.peers agree.1)

agree_new : (settings : Parameters) (events : List Event) →
    AreAllowed settings →
    AllByRecursion IsOctetStep (all_steps (new_actors settings) events) →
    AgreeWithOwnPeers (world settings events)
agree_new settings events allowed octets = agree_through settings [] events (new_actors settings) refl allowed tt octets (new_agree settings, tt)

pub names_always_agree_new : (settings : Parameters) (events : List Event) → NamesAlwaysAgree settings events
names_always_agree_new settings events allowed octets = (agree_new settings events allowed octets).0

pub peers_differ_new : (settings : Parameters) (events : List Event) → PeersDiffer settings events
peers_differ_new settings events allowed octets = own_peers (world settings events) (agree_new settings events allowed octets).1
