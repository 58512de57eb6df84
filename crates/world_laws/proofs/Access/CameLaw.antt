-- SPDX-License-Identifier: MIT OR Apache-2.0
-- The law on a connection that is coming, when the controller handles an item or time passes for
-- it.
use Rattle.world_laws.proofs.Prelude.{◌≡◌, ◌≢◌, ℕ, Bool, true, List, [], ◌∷◌, ◌++◌, Option, Some, None, unwrap_or, refl, sym, ap, ◌∙◌}
use Rattle.world_laws.proofs.Prelude.{subst, arith, AllByRecursion, Channel, Place, Message, Out, SWITCH_LINK}
use Rattle.world_laws.proofs.Prelude.{outs_of, State, WaitEstablish, Connection, is_at, Row, Acts, ActsOn, IsAged, IsBrought, brought_in}
use Rattle.world_laws.proofs.Prelude.{kept, kept_in, ages, rests, IsThere, connection_of, outs_for, IsOctetStep, IsSent, life_acts}
use Rattle.world_laws.proofs.Prelude.{life_fits, life_sends, Step, Take, Controller, Turn, place_of, step, Zero, RelayItem, AreAllowed}
use Rattle.world_laws.proofs.Prelude.{Parameters, Event, Tenure, actors_after, actors_after_all, owner_in, handled, target_in, rsl_in}
use Rattle.world_laws.proofs.Prelude.{all_steps, step_at, first_taken, AllSitBy, Actors, is_up, modulus_in, new_actors, FollowsTable-new}
use Rattle.world_laws.proofs.Prelude.{FitsNone, NamesItsMobile, IsNumbered, life_names, same_Some, IsTimer, brings_time, take, tick}
use Rattle.world_laws.proofs.Prelude.{messages_in, coming_up, initials_up, AcksAgree, TookOctets, AreLinedUp, IsForOthers, IsOthers}
use Rattle.world_laws.proofs.Prelude.{BringsNothing, IsComing, data_up, AreBeside, AssignsAnother, HasAccess, ControllerBringsComing, IsBeside}
use Rattle.world_laws.proofs.Prelude.{AreForOthers, AreOneEach, still_comes, IsEarlyIn}
use Rattle.conn_rules.specs.declared.input.Input.TheVariants as inputs
use Rattle.controller_model.specs.LifeLaws.Acts.Acts.{takes_row as steps_by_states, opens as begins}
use Rattle.controller_model.specs.declared.step.Step.TheVariants.{Tick}
use Rattle.world_model.specs.declared.event.Event.TheVariants as events
use Rattle.world_model.specs.Life.{event_after}
use Rattle.world_laws.proofs.Others.{relay_leaves_others_new, time_leaves_others_new}
use Rattle.world_laws.proofs.OwnerRun.{mobiles_sit_on_theirs_new}
use Rattle.world_laws.proofs.ValidConnections.{connections_are_valid_new}
use Rattle.world_laws.proofs.Sublists.{sub_itself}
use Rattle.world_laws.specs.Access.Arriving.{IsKnown}
use Rattle.world_laws.specs.Access.Requested.HasAccess.{no_more as is_gone}
use Rattle.world_laws.proofs.Access.Beginning.{IsBareOf, bare_of}
use Rattle.world_laws.proofs.Access.EarlyRows.{EarlyRow, early_row}
use Rattle.world_laws.proofs.Access.EarlyRows.EarlyRow.{acked, asked as asks_switch, gone as row_gone}
use Rattle.world_laws.proofs.Access.Came.{IsLess, IsLike, aged_like, behind_less, turned, v_controller}
use Rattle.world_laws.proofs.Access.CameSteps.{Opens, acked_came, asked_came, not_time, opening_of, opens_with_item, quiet_came}
use Rattle.world_laws.proofs.Access.Ignored.{ignored_silent, none_of_data}
use Rattle.world_laws.proofs.Access.ForOthers.{all_without, item_others}
use Rattle.world_laws.proofs.Access.Numbered.{step_another}
use Rattle.world_laws.proofs.Apart.{all_both}
use Rattle.world_laws.proofs.Events.{snoc_actors, snoc_steps}
use Rattle.world_laws.proofs.Framing.{all_left, all_right}

-- ---- lists of events

-- no row that times bring is of an ESTABLISH INDICATION
timer_not : (place : Place) (initial : List ℕ) → IsTimer (inputs.EstablishIndication place Zero (Some initial)) → ⊥
timer_not place initial timer = timer

module _ (settings : Parameters) (done : List Event) (mobile : ℕ) (s : Connection) where
  abbrev world : Actors
  world = actors_after_all (new_actors settings) done

  abbrev modulus : ℕ
  modulus = modulus_in settings

  abbrev at : Place
  at = place_of s.serving

  abbrev after : Option Tenure → Turn → List RelayItem → Actors
  after target t items = turned settings done mobile s target t items

  -- what else is known of the step
  record Stepping (st : Step) (target : Option Tenure) (items : List RelayItem) (owner : Tenure → ℕ) : Type 0 where
    less : IsLess settings done mobile s items
    sent : AllByRecursion IsSent (step world.controller st).outs
    beside : AreBeside target mobile s (step world.controller st).outs
    still : FitsNone (brought_in world.controller s.number st) (Some s) →
        AllByRecursion (IsForOthers target s) (step world.controller st).outs →
        s.state ≡ WaitEstablish →
        AreLinedUp modulus world mobile s →
        AreLinedUp modulus (after target (step world.controller st) items) mobile s
    aging : brought_in world.controller s.number st ≡ brings_time →
        AllByRecursion (IsForOthers target s) (step world.controller st).outs →
        s.state ≡ WaitEstablish →
        AreLinedUp modulus world mobile s →
        AreLinedUp modulus (after target (step world.controller st) items) mobile s
    opening : (place : Place) (initial : List ℕ) →
        IsBrought (brought_in world.controller s.number st) (inputs.EstablishIndication place Zero (Some initial)) →
        is_at place s.serving ≡ true →
        Opens settings done mobile s items initial
    sits : AllSitBy owner (after target (step world.controller st) items)

  acts_came : (st : Step) (target : Option Tenure) (items : List RelayItem) (owner : Tenure → ℕ) (coming : IsComing modulus world mobile s) → AreAllowed settings → IsKnown modulus world mobile s → is_up world SWITCH_LINK ≡ true → Stepping st target items owner
      → (next : ℕ) (up : Bool) (was now : Option Connection) (put : List Message) → Acts s.number next up (brought_in world.controller s.number st) was put now → was ≡ Some s → connection_of (step world.controller st).next s.number ≡ now → outs_for s.number (step world.controller st).outs ≡ outs_of s.number put
      → HasAccess (IsComing modulus) modulus (after target (step world.controller st) items) mobile s.number
  acts_came st target items owner coming allowed known switch h next up was now put (rests silent is none) there leads outs =
      let same : connection_of (step world.controller st).next s.number ≡ Some s = leads ∙ is ∙ there in
      quiet_came settings done mobile s target (step world.controller st) items s coming h.less ([], refl) same (outs ∙ ap (outs_of s.number) silent) h.beside (h.still (subst (FitsNone (brought_in world.controller s.number st)) there none))
  acts_came st target items owner coming allowed known switch h next up was now put (ages old x by_time is aged silent is_now) there leads outs =
      quiet_came settings done mobile s target (step world.controller st) items x coming h.less (subst (λ (o : Connection). IsAged o x) (same_Some _ _ (sym is ∙ there)) aged) (leads ∙ is_now) (outs ∙ ap (outs_of s.number) silent) h.beside (h.aging by_time)
  acts_came st target items owner coming allowed known switch h next up was now put (begins is linked channel request delay none_brought none put_is is_now) there leads outs = absurd (let both : None ≡ Some s = sym none ∙ there in cc)
  acts_came st target items owner coming allowed known switch h next up was now put (steps_by_states old s1 input offer r is aged brought_it fits put_is is_now) there leads outs = by (early_row s1 input offer r (subst IsEarlyIn (sym like.state) coming.early) fits) where
    own_aged : IsAged s s1
    own_aged = subst (λ (o : Connection). IsAged o s1) (same_Some _ _ (sym is ∙ there)) aged

    like : IsLike s s1
    like = aged_like s s1 own_aged

    own : connection_of (step world.controller st).next s.number ≡ kept r.next
    own = leads ∙ is_now

    puts : outs_for s.number (step world.controller st).outs ≡ outs_of s.number r.outs
    puts = outs ∙ ap (outs_of s.number) put_is

    by : EarlyRow s1 input r → HasAccess (IsComing modulus) modulus (after target (step world.controller st) items) mobile s.number
    by (row_gone over) = is_gone (λ still_there. subst IsThere (ap (λ (c : Controller). connection_of c s.number) (v_controller settings done mobile s target (step world.controller st) items) ∙ own ∙ ap (λ (x : State). kept_in x r.next) over) still_there)
    by (acked state row_is) =
        acked_came settings done mobile s target (step world.controller st) items s1 coming h.less own_aged state (own ∙ ap (λ (x : Row). kept x.next) row_is) (puts ∙ ap (λ (x : Row). outs_of s.number x.outs) row_is) h.sent h.beside
    by (asks_switch state place initial input_is here row_is) =
        asked_came settings done mobile s target (step world.controller st) items s1 initial owner coming allowed known h.less own_aged state
        (h.opening place initial (subst (IsBrought (brought_in world.controller s.number st)) input_is brought_it) (subst (λ (c : Channel). is_at place c ≡ true) like.serving here)) switch
        (own ∙ ap (λ (x : Row). kept x.next) row_is) (puts ∙ ap (λ (x : Row). outs_of s.number x.outs) row_is) h.sent h.beside h.sits

  step_came : (st : Step) (target : Option Tenure) (items : List RelayItem) (owner : Tenure → ℕ) (coming : IsComing modulus world mobile s) →
      AreAllowed settings →
      IsKnown modulus world mobile s →
      is_up world SWITCH_LINK ≡ true →
      Stepping st target items owner →
      HasAccess (IsComing modulus) modulus (after target (step world.controller st) items) mobile s.number
  step_came st target items owner coming allowed known switch h =
      let acts : ActsOn s.number world.controller st = subst (λ (c : Controller). ActsOn s.number c st) (sym (FollowsTable-new settings done)) (life_acts settings (all_steps (new_actors settings) done) st s.number coming.had.from_one) in
      acts_came st target items owner coming allowed known switch h world.controller.next_number _ (connection_of world.controller s.number) (connection_of (step world.controller st).next s.number) acts.put acts.acts coming.had.there refl acts.outs

  -- what is put for others names other mobiles
  beside_all : (st : Step) (target : Option Tenure) →
      AreOneEach world →
      IsComing modulus world mobile s →
      AllByRecursion IsSent (step world.controller st).outs →
      AreForOthers target s (step world.controller st).outs →
      AreBeside target mobile s (step world.controller st).outs
  beside_all st target one_each coming sent others =
      let steps : List Step = all_steps (new_actors settings) done in
      let by_table = FollowsTable-new settings done in
      let numbered : IsNumbered world.controller = subst IsNumbered (sym by_table) (life_fits settings steps 1 (omega arith)).numbered in
      all_both (λ (out : Out). out.conn ≢ s.number → IsForOthers target s out) (λ (out : Out). out.conn ≢ s.number → AssignsAnother mobile (rsl_in out.frame)) (λ (out : Out). out.conn ≢ s.number → IsBeside target mobile s out) (step world.controller st).outs
      (λ out one two. λ differs. record { for_others = one differs; assigns = two differs }) others
      (step_another world.controller s.number mobile s.serving (λ m t is same. one_each m s.number t s is coming.had.there (same ∙ sym coming.asked)) st numbered sent
      (λ m least. subst (λ (c : Controller). NamesItsMobile m c st) (sym by_table) (life_names settings steps st m least)))

  pub sends_at : (st : Step) →
      AreAllowed settings →
      AllByRecursion IsOctetStep (all_steps (new_actors settings) done) →
      IsOctetStep st →
      AllByRecursion IsSent (step world.controller st).outs
  sends_at st allowed octets own = subst (λ (c : Controller). AllByRecursion IsSent (step c st).outs) (sym (FollowsTable-new settings done)) (life_sends settings (all_steps (new_actors settings) done) st allowed octets own)

  sits_after : (event : Event) →
      AreAllowed settings →
      TookOctets settings (done ++ event ∷ []) →
      AllSitBy (owner_in (new_actors settings) (done ++ event ∷ [])) (actors_after world event)
  sits_after event allowed octets = subst (AllSitBy (owner_in (new_actors settings) (done ++ event ∷ []))) (snoc_actors (new_actors settings) done event) (mobiles_sit_on_theirs_new settings (done ++ event ∷ []) allowed octets)

  -- ---- it handles an item

  pub handled_is : (items : List RelayItem) → world.inbox ≡ items → actors_after world events.Handle ≡ unwrap_or (handled items world) world
  unfolding event_after
  handled_is items pending = ap (λ (xs : List RelayItem). unwrap_or (handled xs world) world) pending

  handle_came : AreAllowed settings →
      TookOctets settings (done ++ events.Handle ∷ []) →
      is_up world SWITCH_LINK ≡ true →
      IsKnown modulus world mobile s →
      AcksAgree world s →
      AreOneEach world →
      IsComing modulus world mobile s →
      HasAccess (IsComing modulus) modulus (actors_after world events.Handle) mobile s.number
  handle_came allowed octets switch known acks one_each coming = by world.inbox refl where
    both : AllByRecursion IsOctetStep (all_steps (new_actors settings) done ++ step_at world events.Handle)
    both = subst (AllByRecursion IsOctetStep) (snoc_steps (new_actors settings) done events.Handle) octets

    by : (items : List RelayItem) →
        world.inbox ≡ items →
        HasAccess (IsComing modulus) modulus (actors_after world events.Handle) mobile s.number
    by [] pending = subst (λ (v : Actors). HasAccess (IsComing modulus) modulus v mobile s.number) (sym (handled_is [] pending)) (still_comes s refl coming)
    by (item ∷ items) pending = subst (λ (v : Actors). HasAccess (IsComing modulus) modulus v mobile s.number) (sym (handled_is (item ∷ items) pending)) (step_came (Take item) target items owner coming allowed known switch stepping) where
      target : Option Tenure
      target = target_in world item.source item.what

      owner : Tenure → ℕ
      owner = owner_in (new_actors settings) (done ++ events.Handle ∷ [])

      own_octets : IsOctetStep (Take item)
      own_octets = (subst (λ (xs : List RelayItem). AllByRecursion IsOctetStep (first_taken xs)) pending (all_right IsOctetStep (all_steps (new_actors settings) done) (step_at world events.Handle) both)).0

      keeps_off : AreBeside target mobile s (take item world.controller).outs
      keeps_off = beside_all (Take item) target one_each coming (sends_at (Take item) allowed (all_left IsOctetStep (all_steps (new_actors settings) done) (step_at world events.Handle) both) own_octets) (item_others settings done s item allowed (all_left IsOctetStep (all_steps (new_actors settings) done) (step_at world events.Handle) both) own_octets coming.had.from_one coming.had)

      still : FitsNone (brought_in world.controller s.number (Take item)) (Some s) →
          AllByRecursion (IsForOthers target s) (take item world.controller).outs →
          s.state ≡ WaitEstablish →
          AreLinedUp modulus world mobile s →
          AreLinedUp modulus (after target (take item world.controller) items) mobile s
      still fits_none others state lined =
          let bare : IsBareOf s = bare_of s state (connections_are_valid_new settings done s.number s coming.had.there) in
          let silent : BringsNothing s item = rw (bare.draining, state) (ignored_silent settings done mobile s item items allowed coming.had pending acks state (none_of_data coming.accessing) fits_none, tt) in
          subst (λ (v : Actors). AreLinedUp modulus v mobile s) (handled_is (item ∷ items) pending) (relay_leaves_others_new settings done mobile s (subst (IsOthers world s) (sym pending) (silent, others)) lined)

      stepping : Stepping (Take item) target items owner
      stepping = record {
        less = behind_less settings done mobile s item items pending;
        sent = sends_at (Take item) allowed (all_left IsOctetStep (all_steps (new_actors settings) done) (step_at world events.Handle) both) own_octets;
        beside = keeps_off;
        still = still;
        aging = λ by_time. absurd (not_time world.controller s.number item by_time);
        opening = λ place initial brought_it here. opens_with_item settings done mobile s item items place initial pending (opening_of world.controller s.number item place initial brought_it) here;
        sits = subst (AllSitBy owner) (handled_is (item ∷ items) pending) (sits_after events.Handle allowed octets);
      }

  -- ---- time passes

  tick_is : (ms : ℕ) → actors_after world (events.Tick ms) ≡ after None (tick ms world.controller) world.inbox
  unfolding event_after
  tick_is ms = refl

  tick_came : (ms : ℕ) →
      AreAllowed settings →
      TookOctets settings (done ++ events.Tick ms ∷ []) →
      is_up world SWITCH_LINK ≡ true →
      IsKnown modulus world mobile s →
      AreOneEach world →
      IsComing modulus world mobile s →
      HasAccess (IsComing modulus) modulus (actors_after world (events.Tick ms)) mobile s.number
  tick_came ms allowed octets switch known one_each coming = subst (λ (v : Actors). HasAccess (IsComing modulus) modulus v mobile s.number) (sym (tick_is ms)) (step_came (Tick ms) None world.inbox owner coming allowed known switch stepping) where
    owner : Tenure → ℕ
    owner = owner_in (new_actors settings) (done ++ events.Tick ms ∷ [])

    both : AllByRecursion IsOctetStep (all_steps (new_actors settings) done ++ step_at world (events.Tick ms))
    both = subst (AllByRecursion IsOctetStep) (snoc_steps (new_actors settings) done (events.Tick ms)) octets

    ages_on : AllByRecursion (IsForOthers None s) (tick ms world.controller).outs →
        s.state ≡ WaitEstablish →
        AreLinedUp modulus world mobile s →
        AreLinedUp modulus (after None (tick ms world.controller) world.inbox) mobile s
    ages_on others state lined = subst (λ (v : Actors). AreLinedUp modulus v mobile s) (tick_is ms) (time_leaves_others_new settings done ms mobile s others lined)

    stepping : Stepping (Tick ms) None world.inbox owner
    stepping = record {
      less = record { messages = sub_itself (messages_in (coming_up world at)); initials = sub_itself (initials_up world at); later = sub_itself (data_up world at) };
      sent = sends_at (Tick ms) allowed (all_left IsOctetStep (all_steps (new_actors settings) done) (step_at world (events.Tick ms)) both) tt;
      beside = beside_all (Tick ms) None one_each coming (sends_at (Tick ms) allowed (all_left IsOctetStep (all_steps (new_actors settings) done) (step_at world (events.Tick ms)) both) tt) (all_without s (tick ms world.controller).outs);
      still = λ fits_none. ages_on;
      aging = λ by_time. ages_on;
      opening = λ place initial brought_it here. absurd (timer_not place initial brought_it);
      sits = subst (AllSitBy owner) (tick_is ms) (sits_after (events.Tick ms) allowed octets);
    }

pub controller_brings_coming_new : (settings : Parameters) (done : List Event) (event : Event) → ControllerBringsComing settings done event
controller_brings_coming_new settings done events.Handle mobile s is allowed octets switch known acks one_each coming = handle_came settings done mobile s allowed octets switch known acks one_each coming
controller_brings_coming_new settings done (events.Tick ms) mobile s is allowed octets switch known acks one_each coming = tick_came settings done mobile s ms allowed octets switch known one_each coming
controller_brings_coming_new settings done event mobile s is allowed octets switch known acks one_each coming = absurd cc
