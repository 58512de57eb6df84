-- SPDX-License-Identifier: MIT OR Apache-2.0
use Rattle.controller.proofs.Prelude.{◌≡◌, drop}
use Rattle.controller.specs.Rest.{all_down}
use Rattle.controller.proofs.rest.all_down.Given as goal

abbrev pub invariant-loop-up : goal.invariant-loop-up
invariant-loop-up l = all_down (drop l.up-index l.links) ≡ all_down l.links
