-- SPDX-License-Identifier: MIT OR Apache-2.0
-- The call worker's contract gives what the links need of it.
use Rattle.std.proofs.Common.{◌≡◌, List, [], ◌∷◌, ◌++◌, Option, Some, None, refl, sym, ap, ◌∙◌, subst, append-nil}
use Rattle.controller_worker.specs.Call.{IsMemory, Parts, Runs as CallRuns}
use Rattle.controller_worker.specs.Links.{lines}
use Rattle.controller_worker.specs.Moves.{taken_of}
use Rattle.controller_worker.specs.Taking.{HasTaken}
use Rattle.link_workers.specs.declared.fault.IoFault.{IoFault}
use Rattle.ruled_relay.specs.declared.item.Item.{Item}
use Rattle.station_io.specs.declared.work.Calling.{Calling}
use Rattle.station_io.specs.declared.work.HasCalled.{HasCalled}
use Rattle.station_io.specs.Calls.{Calls}
use Rattle.station_io.specs.Done.{IsCalled}

pub calls : (fault : Option IoFault) (old new : Parts) →
    IsMemory fault →
    CallRuns fault old new →
    Calls old.controller old.desk old.putters fault new.desk new.putters
calls None old new memory runs = record {
  moves = runs.moves;
  taken =
      subst (λ (is : List Item). HasTaken old.desk is new.desk) (ap (λ last. taken_of runs.moves ++ last) (runs.none refl) ∙ append-nil (taken_of runs.moves)) runs.desk;
  count = runs.count;
  of_links = runs.of_links;
  links = runs.links;
}
calls (Some fault) old new memory runs = (memory, runs.count, λ number p here. let serves = (runs.links number p here).2 in (lines serves.sent, serves.put))

-- the call worker's contract, for the result of a run without a fault
pub called : {K : Type 0} (w : Calling K) (given d : HasCalled) →
    (d ≡ given) × (given.fault ≡ None) →
    Calls w.controller w.desk w.putters.items given.fault given.desk given.putters.items →
    IsCalled w d
called w given d same does = subst (λ (h : HasCalled). IsCalled w h) (sym same.0) (subst (λ fault. Calls w.controller w.desk w.putters.items fault given.desk given.putters.items) same.1 does)
