-- SPDX-License-Identifier: MIT OR Apache-2.0
-- The order of messages in every world with a controller.
use Rattle.std.proofs.Common.{ℕ, ◌≤◌, List, refl, sym, subst}
use Rattle.controller_model.specs.LifeLaws.Downlink.{DownlinkIsConserved}
use Rattle.controller_model.specs.LifeLaws.End.{SilenceIsKept}
use Rattle.controller_model.specs.LifeLaws.Handing.{HandsInPlace}
use Rattle.controller_model.proofs.LifeLaws.DownlinkLaw.{life_conserves}
use Rattle.controller_model.proofs.LifeLaws.HandingLife.{life_hands}
use Rattle.controller_model.proofs.LifeLaws.SilenceLife.{life_is_silent}
use Rattle.controller_model.specs.declared.step.Step.{Step}
use Rattle.settings.specs.Parameters.{AreAllowed, Parameters}
use Rattle.world_model.specs.declared.event.Event.{Event}
use Rattle.world_model.specs.Steps.{all_steps}
use Rattle.world_model.specs.World.{new_actors}
use Rattle.world_model.proofs.Living.{RunsByTable-new}
use Rattle.world_laws.specs.Order.OctetEvents.{AreOctetEvents}
use Rattle.world_laws.specs.Order.Order.{IsInOrderFor}
use Rattle.world_laws.proofs.Order.Fairly.{ArriveInOctets-new}
use Rattle.world_laws.proofs.Order.LineUps.{all_numbers_are_somewhere_new, all_places_rise_new}
use Rattle.world_laws.proofs.Order.Whole.{runs_are_in_order}
use Rattle.world_openers.proofs.Openers.{openers_messages_are_first_new}
use Rattle.world.specs.declared.world.Scene.{Scene}
use Rattle.world.specs.declared.world.Scene.TheVariants.{Controlled}
use Rattle.world.specs.Handing.{IsHandedInOrder}
use Rattle.world.specs.Headline.{IsInOrder}
use Rattle.world.specs.World.{controlled_world, after_all}
use Rattle.world.proofs.ControlledQueues.{QueuesKeepOrder-controlled, scene-after_all}

IsHandedInOrder-controlled : (settings : Parameters) (events : List Event) →
    AreAllowed settings →
    AreOctetEvents events →
    (connection : ℕ) →
    1 ≤ connection →
    IsHandedInOrder (new_actors settings) events connection
IsHandedInOrder-controlled settings events allowed octets connection from_one =
    let steps : List Step = all_steps (new_actors settings) events in
    let runs = sym (RunsByTable-new settings events) in
    record {
      allowed = allowed;
      octets = ArriveInOctets-new settings events allowed octets;
      conserved = subst (DownlinkIsConserved connection settings steps) runs (life_conserves settings steps connection from_one);
      in_place = subst (HandsInPlace connection settings steps) runs (life_hands settings steps connection from_one);
      silent = subst (SilenceIsKept connection settings steps) runs (life_is_silent settings steps connection from_one);
    }

pub IsInOrder-controlled : (settings : Parameters) (events : List Event) →
    AreAllowed settings →
    AreOctetEvents events →
    IsInOrder (controlled_world settings).scene events (after_all (controlled_world settings) events).scene
IsInOrder-controlled settings events allowed octets =
    let order : IsInOrderFor (new_actors settings) events = runs_are_in_order settings events allowed octets in
    subst (λ (scene : Scene). IsInOrder (Controlled (new_actors settings)) events scene)
    (sym (scene-after_all (controlled_world settings) (new_actors settings) events refl))
    (record {
      accepted = λ connection list is.
          let first = order.in_order connection list is in
          record { mobile = first.mobile; opened = first.opened; sent = first.sent_list; is_sent = first.is_sent; is_prefix = first.is_prefix };
      opened = openers_messages_are_first_new settings events allowed octets;
      no_gap = order.no_gap;
      line_up = record {
        numbers = λ number from_one. all_numbers_are_somewhere_new settings events number allowed octets from_one;
        places = λ s up had requested. all_places_rise_new settings events s allowed octets up had requested;
      };
      handed = IsHandedInOrder-controlled settings events allowed octets;
      queues = QueuesKeepOrder-controlled settings events;
    })
