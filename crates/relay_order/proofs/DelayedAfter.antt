-- SPDX-License-Identifier: MIT OR Apache-2.0
-- Once the controller handled the break of the switch's link, it puts nothing for that link, and
-- the messages that mobiles sent remain sent.
use Rattle.std.proofs.Common.{◌≡◌, ℕ, ◌==◌, Bool, true, false, cond, List, [], ◌∷◌, ◌++◌, map, Option, Some, None, refl, sym, ap, ◌∙◌, subst}
use Rattle.std.proofs.Common.{append_assoc, append-nil, inl, inr, eqb-true, true≢false, ◌⊎◌, unwrap_or}
use Rattle.std.proofs.lemmas.Bool.{cases_Bool}
use Rattle.std.proofs.lemmas.List.{map-append}
use Rattle.std.proofs.lemmas.List.Elements.{filter-append}
use Rattle.std.specs.List.{AllByRecursion, filter}
use Rattle.std.specs.Prelude.{option_map}
use Rattle.conn_messages.specs.declared.out.Out.{Out}
use Rattle.conn_messages.specs.declared.parameters.TheConstants.{SWITCH_LINK}
use Rattle.controller_model.specs.Controller.{Controller, Turn, each, is_up as hears, new_controller}
use Rattle.controller_model.specs.Life.{life, step, take, tick}
use Rattle.controller_model.specs.LifeLaws.Owning.{is_link_up}
use Rattle.controller_model.specs.LifeLaws.Reach.{PutsOnUpLinks}
use Rattle.controller_model.specs.declared.step.Step.{Step}
use Rattle.controller_model.specs.declared.step.Step.TheVariants as steps
use Rattle.controller_model.proofs.LifeLaws.Beside.{links_with, step_keeps_rest}
use Rattle.controller_model.proofs.LifeLaws.UsingLife.{life_reaches}
use Rattle.controller_worker.specs.Steps.{frames_to}
use Rattle.ipa_framing.specs.declared.frame.Frame.{Frame}
use Rattle.ruled_relay.specs.declared.item.Item.{Item}
use Rattle.settings.specs.Parameters.{AreAllowed, Parameters}
use Rattle.world_model.specs.declared.event.Event.{Event}
use Rattle.world_model.specs.declared.event.Event.TheVariants.{BaseDown, BasePush, BaseTakes, Handle, SwitchDoes, SwitchTakes, Tick}
use Rattle.world_model.specs.declared.seat.Tenure.{Tenure}
use Rattle.world_model.specs.Life.{actors_after, actors_after_all, event_after}
use Rattle.world_model.specs.Queues.{outputs, outputs_at}
use Rattle.world_model.specs.Relay.{after_base_push, after_break, entry_of, handled, target_in, with_turn}
use Rattle.world_model.specs.Stations.{after_base_takes}
use Rattle.world_model.specs.Steps.{all_outputs, all_steps, first_taken, step_at}
use Rattle.world_model.specs.SwitchSide.{after_switch_does, after_switch_takes, sccp_in}
use Rattle.world_model.specs.Views.{sent}
use Rattle.world_model.specs.World.{Actors, Mobile, mobile_of, new_actors, with_outbox}
use Rattle.world_model.proofs.Leads.{OfTaken, FromAir, aerial_leads, after_taken, broken_leads, does_leads, push_leads, switch_takes_leads}
use Rattle.world_model.proofs.Leads.{switch_took-leads, taking_leads, turn_leads}
use Rattle.world_model.proofs.Living.{FollowsTable-new}
use Rattle.world_laws.proofs.OrderServes.{broken_down, heard_before}
use Rattle.world_laws.proofs.SentGrows.{HasSent, sent_grows}
use Rattle.relay_order.proofs.DelayedHeld.{switch_down}

-- ---- what is put for the switch, of outputs one after the other

pub frames_append : (xs ys : List Out) → frames_to SWITCH_LINK (xs ++ ys) ≡ frames_to SWITCH_LINK xs ++ frames_to SWITCH_LINK ys
frames_append xs ys =
    ap (λ (outs : List Out). map (λ out. out.frame) outs) (filter-append (λ (out : Out). out.to == SWITCH_LINK) xs ys)
    ∙ map-append (λ (out : Out). out.frame) (filter (λ out. out.to == SWITCH_LINK) xs) (filter (λ out. out.to == SWITCH_LINK) ys)

-- none, where all are for links that are up
frames_none : (next : Controller) (outs : List Out) →
    AllByRecursion (λ out. hears next out.to ≡ true) outs →
    hears next SWITCH_LINK ≡ false →
    frames_to SWITCH_LINK outs ≡ []
frames_none next [] all down = refl
frames_none next (out ∷ outs) all down =
    ap (λ (b : Bool). map (λ (o : Out). o.frame) (cond b (out ∷ filter (λ o. o.to == SWITCH_LINK) outs) (filter (λ o. o.to == SWITCH_LINK) outs))) (other (cases_Bool (out.to == SWITCH_LINK)))
    ∙ frames_none next outs all.1 down
  where
    other : ((out.to == SWITCH_LINK) ≡ true) ⊎ ((out.to == SWITCH_LINK) ≡ false) → (out.to == SWITCH_LINK) ≡ false
    other (inr miss) = miss
    other (inl hit) = absurd (true≢false (sym all.0 ∙ ap (hears next) (eqb-true out.to SWITCH_LINK hit) ∙ down))

-- ---- steps of a life

each_behind : (c : Controller) (xs : List Step) (s : Step) → (each step c (xs ++ s ∷ [])).next ≡ (step (each step c xs).next s).next
each_behind c [] s = refl
each_behind c (x ∷ xs) s = each_behind (step c x).next xs s

life_behind : (settings : Parameters) (past : List Step) (s : Step) →
    (life settings (past ++ s ∷ [])).next ≡ (step (life settings past).next s).next
unfolding life
life_behind settings past s = each_behind (new_controller settings) past s

reaches : (settings : Parameters) (past : List Step) (c : Controller) (s : Step) →
    AreAllowed settings →
    c ≡ (life settings past).next →
    PutsOnUpLinks c s
reaches settings past c s allowed is = subst (λ (d : Controller). PutsOnUpLinks d s) (sym is) (life_reaches settings past s allowed)

down_behind : (c : Controller) (s : Step) → hears c SWITCH_LINK ≡ false → hears (step c s).next SWITCH_LINK ≡ false
down_behind c s down = by (cases_Bool (hears (step c s).next SWITCH_LINK)) where
  by : (hears (step c s).next SWITCH_LINK ≡ true) ⊎ (hears (step c s).next SWITCH_LINK ≡ false) → hears (step c s).next SWITCH_LINK ≡ false
  by (inr is) = is
  by (inl up) = absurd (true≢false (sym (heard_before c s SWITCH_LINK up) ∙ down))

-- what a step puts once the link is down behind it, and what all later steps put
silent_from : (settings : Parameters) (allowed : AreAllowed settings) (past : List Step) (c : Controller) (s : Step) (ss : List Step)
    → c ≡ (life settings past).next → hears (step c s).next SWITCH_LINK ≡ false → frames_to SWITCH_LINK (each step c (s ∷ ss)).outs ≡ []
silent_from settings allowed past c s [] is down =
    ap (frames_to SWITCH_LINK) (append-nil (step c s).outs)
    ∙ frames_none (step c s).next (step c s).outs (reaches settings past c s allowed is) down
silent_from settings allowed past c s (x ∷ ss) is down =
    frames_append (step c s).outs (each step (step c s).next (x ∷ ss)).outs
    ∙ ap (λ (frames : List Frame). frames ++ frames_to SWITCH_LINK (each step (step c s).next (x ∷ ss)).outs) (frames_none (step c s).next (step c s).outs (reaches settings past c s allowed is) down)
    ∙ silent_from settings allowed (past ++ s ∷ []) (step c s).next x ss
    (ap (λ (d : Controller). (step d s).next) is ∙ sym (life_behind settings past s)) (down_behind (step c s).next x down)

-- the break itself
down_taken : (c : Controller) → hears (step c (steps.Take switch_down)).next SWITCH_LINK ≡ false
down_taken c =
    ap (λ (links : List Bool). is_link_up links SWITCH_LINK) (step_keeps_rest c (steps.Take switch_down)).links_are
    ∙ by (hears c SWITCH_LINK) refl where
      by : (up : Bool) → hears c SWITCH_LINK ≡ up → is_link_up (links_with up SWITCH_LINK switch_down.what c) SWITCH_LINK ≡ false
      by true is = broken_down c.links SWITCH_LINK
      by false is = is

-- ---- what the controller of a world becomes, and what it puts
-- as in crates/world_model/proofs/Living.antt

-- the controller is as it was
abbrev Remains : Actors → Actors → Type 0
Remains w v = v.controller ≡ w.controller

after_steps : Controller → List Step → Controller
after_steps c ss = (each step c ss).next

still : (w : Actors) (o : Option Actors) → OfTaken (Remains w) o → (unwrap_or o w).controller ≡ w.controller
still w o leads = after_taken (Remains w) o w leads refl

turn_moves : (target : Option Tenure) (t : Turn) (w : Actors) → (with_turn target t w).controller ≡ t.next
turn_moves target t w = turn_leads (λ v. v.controller ≡ t.next) target t w (λ links. refl)

handle_moves : (w : Actors) (items : List Item) → (unwrap_or (handled items w) w).controller ≡ after_steps w.controller (first_taken items)
unfolding after_steps
handle_moves w [] = refl
handle_moves w (item ∷ items) = turn_moves (target_in w item.source item.what) (take item w.controller) (record w { inbox = items })

moves : (w : Actors) (event : Event) → (actors_after w event).controller ≡ after_steps w.controller (step_at w event)
unfolding event_after FromAir after_steps
moves w (BaseTakes station) = still w (after_base_takes w station) (taking_leads (Remains w) w station (λ first others _ _ mobiles stations. refl))
moves w (BasePush source) = still w (after_base_push w source) (push_leads (Remains w) w source (λ first others. refl) (λ message _. refl))
moves w Handle = handle_moves w w.inbox
moves w SwitchTakes =
    still w (after_switch_takes w) (switch_takes_leads (Remains w) w (λ first others _ _. switch_took-leads (Remains w) (with_outbox SWITCH_LINK others w) (sccp_in first.out.frame) refl (λ next made. refl)))
moves w (SwitchDoes action) = still w (after_switch_does w action) (does_leads (Remains w) w action (λ next made. refl))
moves w (Tick ms) = turn_moves None (tick ms w.controller) w
moves w (BaseDown source) = still w (after_break w source) (broken_leads (Remains w) w source (λ _ _. refl) (λ _ _. refl))
moves w event = still w (event_after w event) (aerial_leads (Remains w) w event refl (λ mobiles stations. refl))

outs_of_entries : (target : Option Tenure) (outs : List Out) → map (λ entry. entry.out) (map (entry_of target) outs) ≡ outs
outs_of_entries None [] = refl
outs_of_entries None (out ∷ outs) = ap (λ (xs : List Out). out ∷ xs) (outs_of_entries None outs)
outs_of_entries (Some target) [] = refl
outs_of_entries (Some target) (out ∷ outs) = ap (λ (xs : List Out). out ∷ xs) (outs_of_entries (Some target) outs)

items_put : (w : Actors) (items : List Item) →
    map (λ entry. entry.out) (outputs_at w items) ≡ (each step w.controller (first_taken items)).outs
items_put w [] = refl
items_put w (item ∷ items) = outs_of_entries (target_in w item.source item.what) (take item w.controller).outs ∙ sym (append-nil (take item w.controller).outs)

puts : (w : Actors) (event : Event) → map (λ entry. entry.out) (outputs w event) ≡ (each step w.controller (step_at w event)).outs
puts w Handle = items_put w w.inbox
puts w (Tick ms) = outs_of_entries None (tick ms w.controller).outs ∙ sym (append-nil (tick ms w.controller).outs)
puts w _ = refl

outs_append : (c : Controller) (xs ys : List Step) →
    (each step c (xs ++ ys)).outs ≡ (each step c xs).outs ++ (each step (after_steps c xs) ys).outs
unfolding after_steps
outs_append c [] ys = refl
outs_append c (x ∷ xs) ys = ap (λ (outs : List Out). (step c x).outs ++ outs) (outs_append (step c x).next xs ys) ∙ sym (append_assoc (step c x).outs (each step (step c x).next xs).outs (each step (after_steps (step c x).next xs) ys).outs)

puts_all : (w : Actors) (events : List Event) → all_outputs w events ≡ (each step w.controller (all_steps w events)).outs
puts_all w [] = refl
puts_all w (event ∷ events) =
    ap (λ (outs : List Out). outs ++ all_outputs (actors_after w event) events) (puts w event)
    ∙ ap (λ (outs : List Out). (each step w.controller (step_at w event)).outs ++ outs) (puts_all (actors_after w event) events)
    ∙ ap (λ (c : Controller). (each step w.controller (step_at w event)).outs ++ (each step c (all_steps (actors_after w event) events)).outs) (moves w event)
    ∙ sym (outs_append w.controller (step_at w event) (all_steps (actors_after w event) events))

-- from where the controller handles the break on, it puts nothing for the switch
pub silent : (settings : Parameters) (done : List Event) (w : Actors) (back : List Item) (events : List Event)
    → AreAllowed settings → w ≡ actors_after_all (new_actors settings) done → w.inbox ≡ switch_down ∷ back
    → frames_to SWITCH_LINK (all_outputs w (Handle ∷ events)) ≡ []
silent settings done w back events allowed is inbox =
    ap (frames_to SWITCH_LINK) (puts_all w (Handle ∷ events)
    ∙ ap (λ (items : List Item). (each step w.controller (first_taken items ++ all_steps (actors_after w Handle) events)).outs) inbox)
    ∙ silent_from settings allowed (all_steps (new_actors settings) done) w.controller (steps.Take switch_down) (all_steps (actors_after w Handle) events)
    (ap (λ (v : Actors). v.controller) is ∙ FollowsTable-new settings done) (down_taken w.controller)

-- ---- what mobiles sent

SentMore : Actors → ℕ → List (List ℕ) → Type 0
SentMore w mobile list = (more : List (List ℕ)) × (sent w mobile ≡ Some (list ++ more))

after_has : (w : Actors) (events : List Event) (mobile : ℕ) (list : List (List ℕ)) →
    HasSent mobile list w →
    SentMore (actors_after_all w events) mobile list
unfolding SentMore
after_has w [] mobile list has = (has.more, ap (option_map (λ (p : Mobile). p.end.sent)) has.found ∙ ap Some has.is)
after_has w (event ∷ events) mobile list has =
    let next : HasSent mobile has.one.end.sent (actors_after w event) = sent_grows mobile w event has.one has.found in
    after_has (actors_after w event) events mobile list (record {
      one = next.one;
      found = next.found;
      more = has.more ++ next.more;
      is = next.is ∙ ap (λ (xs : List (List ℕ)). xs ++ next.more) has.is ∙ append_assoc list has.more next.more;
    })

pub sent_kept : (w : Actors) (events : List Event) (mobile : ℕ) (list : List (List ℕ)) → sent w mobile ≡ Some list
    → (more : List (List ℕ)) × (sent (actors_after_all w events) mobile ≡ Some (list ++ more))
unfolding SentMore
sent_kept w events mobile list is = by (mobile_of w mobile) refl is where
  by : (o : Option Mobile) →
      mobile_of w mobile ≡ o →
      option_map (λ (p : Mobile). p.end.sent) o ≡ Some list →
      SentMore (actors_after_all w events) mobile list
  by None found had = absurd cc
  by (Some p) found had = after_has w events mobile list (record { one = p; found = found; more = []; is = same had ∙ sym (append-nil list) }) where
    same : Some p.end.sent ≡ Some list → p.end.sent ≡ list
    same h = cc
