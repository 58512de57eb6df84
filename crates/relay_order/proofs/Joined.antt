-- SPDX-License-Identifier: MIT OR Apache-2.0
-- Both directions of a run that a network explains.
use Rattle.std.proofs.Common.{ℕ, List, subst, sym}
use Rattle.std.specs.List.{AllByRecursion}
use Rattle.controller_model.specs.declared.step.Step.{Step}
use Rattle.controller_model.specs.Life.{life}
use Rattle.controller_model.specs.LifeLaws.Sending.{IsOctetStep}
use Rattle.controller_worker.specs.Steps.{frames_to}
use Rattle.octets.specs.Lists.{IsPrefix}
use Rattle.relay_order.specs.Explains.{Explains}
use Rattle.relay_order.specs.Order.{IsInOrder}
use Rattle.relay_order.specs.Run.{IsRun, Run, steps_of_run}
use Rattle.relay_order.proofs.Delayed.{delayed}
use Rattle.relay_order.proofs.Down.{run_is_in_order_down}
use Rattle.relay_order.proofs.Handing.{handing_of}
use Rattle.relay_order.proofs.Up.{cut_is, outs_are, up}
use Rattle.settings.specs.Parameters.{Parameters}
use Rattle.station_io.specs.Octets.{frames_in}
use Rattle.world_laws.proofs.Order.Fairly.{ArriveInOctets-new}
use Rattle.world_model.specs.declared.event.Event.{Event}

-- its steps are of octets
steps_are_octets : (settings : Parameters) (run : Run) (events : List Event) →
    Explains settings run events →
    AllByRecursion IsOctetStep (steps_of_run run)
steps_are_octets settings run events explains =
    subst (AllByRecursion IsOctetStep) explains.steps (ArriveInOctets-new settings events explains.allowed explains.octets)

-- and the frames in a beginning of what was written are first frames of what its controller puts
beginnings_are : (settings : Parameters) (links : ℕ) (run : Run) (events : List Event) → IsRun settings links run → Explains settings run events → (link : ℕ) (beginning : List ℕ)
    → IsPrefix beginning (run.written link) → IsPrefix (frames_in beginning) (frames_to link (life settings (steps_of_run run)).outs)
beginnings_are settings links run events is explains link beginning cut =
    subst (λ (steps : List Step). IsPrefix (frames_in beginning) (frames_to link (life settings steps).outs)) explains.steps
    (subst (λ (outs : _). IsPrefix (frames_in beginning) (frames_to link outs)) (sym (outs_are settings events)) (cut_is settings links run events is explains link beginning cut))

pub runs_in_order : (settings : Parameters) (links : ℕ) (run : Run) (events : List Event) →
    IsRun settings links run →
    Explains settings run events →
    IsInOrder settings run events
runs_in_order settings links run events is explains =
    let other = delayed settings events explains.allowed explains.octets in
    record {
      up = up settings links run events other.0 is explains other.1;
      handing = handing_of (life settings (steps_of_run run)).outs;
      down = run_is_in_order_down settings links run is explains.allowed (steps_are_octets settings run events explains) (beginnings_are settings links run events is explains);
    }
