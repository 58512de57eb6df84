-- SPDX-License-Identifier: MIT OR Apache-2.0
-- The order of messages in every world that events have made from a beginning.
use Rattle.std.proofs.Common.{◌≡◌, ℕ, ◌≤◌, Option, Some, IsSome, List, [], ◌∷◌, ◌++◌, length, take, drop, refl, sym, ap, ◌∙◌, subst, append_assoc, nat_eq}
use Rattle.std.proofs.lemmas.Bool.{cond-true}
use Rattle.std.proofs.lemmas.List.{take-append-drop}
use Rattle.std.proofs.lemmas.Option.{cond_some}
use Rattle.octets.specs.Lists.{IsPrefix}
use Rattle.dtap_codec.specs.Places.{AreClear, Rise}
use Rattle.dtap_codec.proofs.Rising.{Rise-cut, Rise-with_numbers_from}
use Rattle.nsd_filter.specs.AcceptedList.{accepted_list as accepted_of, progress}
use Rattle.nsd_filter.proofs.Accepting.{accepted_list_from-rise, progress_from-rise}
use Rattle.mobile_end.specs.DataLink.{to_be_taken}
use Rattle.world_model.specs.declared.event.Event.{Event}
use Rattle.world.specs.declared.fixed.TheConstants.{FIXED_MOBILE, FIXED_CONNECTION}
use Rattle.world.specs.declared.world.Scene.{Scene}
use Rattle.world.specs.declared.world.Scene.TheVariants.{Fixed}
use Rattle.world.specs.FixedState.{FixedState}
use Rattle.world.specs.Fixed.{fixed_beginning}
use Rattle.world.specs.WorldState.{WorldState}
use Rattle.world.specs.World.{fixed_world, after, after_all, actors_after}
use Rattle.world.specs.Queues.{Queue, outbox, in_switch_outbox, all_messages_put, all_messages_taken}
use Rattle.world.specs.Headline.{AreEventsFor, Begins, IsInOrder}
use Rattle.world.specs.Headline.Begins.{fixed, controlled}
use Rattle.world.proofs.ControlledOrder.{IsInOrder-controlled}
use Rattle.world.proofs.FixedKept.{IsFixedKept, IsFixedKept-beginning}
use Rattle.world.proofs.FixedSteps.{fixed_next, fixed_all, all_fixed_messages_taken, fixed_steps, actors_after-fixed, in_switch_outbox-append, all_messages_put-fixed, all_messages_taken-fixed}

-- events after events
pub after_all-append : (world : WorldState) (before events : List Event) →
    after_all world (before ++ events) ≡ after_all (after_all world before) events
after_all-append world [] events = refl
after_all-append world (event ∷ before) events = after_all-append (after world event) before events

scene-after_all : (world : WorldState) (state : FixedState) (events : List Event) →
    world.scene ≡ Fixed state →
    (after_all world events).scene ≡ Fixed (fixed_all state events)
scene-after_all world state [] is = is
scene-after_all world state (event ∷ events) is =
    scene-after_all (after world event) (fixed_next state event) events (ap (λ (scene : Scene). actors_after scene event) is ∙ actors_after-fixed state event)

-- the places of what the switch took, of what waits for it and of the mobile's link rise
lined_up : (world : FixedState) →
    IsFixedKept world →
    Rise world.mobile.modulus world.mobile.sent 0 (world.switch.taken ++ (world.outbox ++ to_be_taken world.mobile.zero)) (length world.mobile.sent)
lined_up world kept =
    let sent = world.mobile.sent in
    let clear = subst AreClear (sym kept.numbered.parts) kept.numbered.clear in
    let whole = Rise-with_numbers_from world.mobile.modulus sent _ [] kept.numbered.after 0 kept.numbered.parts refl clear kept.numbered.numbers in
    subst (λ (xs : List (List ℕ)). Rise world.mobile.modulus sent 0 xs (length sent)) (append_assoc world.switch.taken world.outbox (to_be_taken world.mobile.zero)) whole

-- so those of what it took do
taken-rise : (world : FixedState) → IsFixedKept world → (k : ℕ) × Rise world.mobile.modulus world.mobile.sent 0 world.switch.taken k
taken-rise world kept =
    let cut = Rise-cut world.switch.taken (world.outbox ++ to_be_taken world.mobile.zero) (lined_up world kept) in
    (cut.0, cut.1)

-- so what the switch accepts is the beginning of the sent list, and there is no gap
accepted_is_prefix : (world : FixedState) →
    IsFixedKept world →
    IsPrefix (accepted_of world.switch.modulus world.switch.taken) world.mobile.sent
accepted_is_prefix world kept =
    let rise = taken-rise world kept in
    let front : accepted_of world.switch.modulus world.switch.taken ≡ take rise.0 world.mobile.sent =
    ap (λ (m : ℕ). accepted_of m world.switch.taken) kept.modulus ∙ accepted_list_from-rise kept.two rise.1 in
    (drop rise.0 world.mobile.sent, ap (λ (xs : List (List ℕ)). xs ++ drop rise.0 world.mobile.sent) front ∙ take-append-drop rise.0 world.mobile.sent)

progress_is_some : (world : FixedState) →
    IsFixedKept world →
    (p : Option ℕ) →
    progress world.switch.modulus world.switch.taken ≡ p →
    IsSome p
progress_is_some world kept p is =
    let rise = taken-rise world kept in
    let whole : progress world.switch.modulus world.switch.taken ≡ Some rise.0 =
    ap (λ (m : ℕ). progress m world.switch.taken) kept.modulus ∙ progress_from-rise kept.two rise.1 in
    subst IsSome (sym whole ∙ is) refl

-- for each queue, the elements put are those taken, followed by those that wait there
left_fixed : (m : ℕ) (events : List Event) (queue : Queue)
    → all_messages_put (Fixed (fixed_beginning m)) events queue ≡ all_messages_taken (Fixed (fixed_beginning m)) events queue ++ in_switch_outbox queue (fixed_all (fixed_beginning m) events).outbox
left_fixed m events queue =
    let begin : FixedState = fixed_beginning m in
    let world : FixedState = fixed_all begin events in
    all_messages_put-fixed begin events queue ∙ ap (in_switch_outbox queue) (fixed_steps begin events).first_out
    ∙ in_switch_outbox-append queue (all_fixed_messages_taken begin events) world.outbox
    ∙ ap (λ (xs : _). xs ++ in_switch_outbox queue world.outbox) (sym (all_messages_taken-fixed begin events queue))

pub IsInOrder-fixed : (m : ℕ) →
    2 ≤ m →
    (events : List Event) →
    IsInOrder (Fixed (fixed_beginning m)) events (Fixed (fixed_all (fixed_beginning m) events))
IsInOrder-fixed m two events =
    let begin : FixedState = fixed_beginning m in
    let world : FixedState = fixed_all begin events in
    let steps = fixed_steps begin events in
    let kept : IsFixedKept world = steps.kept (IsFixedKept-beginning m two) in
    record {
      accepted = λ connection list is.
          let found = cond_some (nat_eq connection FIXED_CONNECTION) _ _ is in
          record {
            mobile = FIXED_MOBILE;
            opened = cond-true (nat_eq connection FIXED_CONNECTION) _ _ found.0;
            sent = world.mobile.sent;
            is_sent = refl;
            is_prefix = subst (λ (list : List (List ℕ)). IsPrefix list world.mobile.sent) found.1 (accepted_is_prefix world kept);
          };
      opened = tt;
      no_gap = λ connection p is. progress_is_some world kept p (cond_some (nat_eq connection FIXED_CONNECTION) _ _ is).1;
      line_up = lined_up world kept;
      handed = tt;
      queues = record {
        first_out = λ queue. (in_switch_outbox queue world.outbox, sym (left_fixed m events queue));
        left = λ queue kept. left_fixed m events queue;
        switch = all_messages_taken-fixed begin events (outbox 0) ∙ ap (in_switch_outbox (outbox 0)) (sym steps.switch);
      };
    }

-- whatever events made a world from a beginning
pub IsInOrder-reached : (begin : WorldState) (events : List Event) →
    Begins begin →
    AreEventsFor begin.scene events →
    IsInOrder begin.scene events (after_all begin events).scene
IsInOrder-reached begin events (fixed m two) of =
    subst (λ (scene : Scene). IsInOrder (Fixed (fixed_beginning m)) events scene) (sym (scene-after_all (fixed_world m) (fixed_beginning m) events refl)) (IsInOrder-fixed m two events)
IsInOrder-reached begin events (controlled settings allowed) of = IsInOrder-controlled settings events allowed of
