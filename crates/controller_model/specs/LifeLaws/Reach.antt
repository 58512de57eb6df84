-- SPDX-License-Identifier: MIT OR Apache-2.0
-- The links to which the frames of a step go.
use Rattle.std.specs.Prelude.{◌≡◌, true}
use Rattle.std.specs.List.{AllByRecursion}
use Rattle.controller_model.specs.declared.step.Step.{Step}
use Rattle.controller_model.specs.Controller.{Controller, is_up}
use Rattle.controller_model.specs.Life.{step}

-- each frame of the step goes to a link that exists and is up after the step
abbrev pub PutsOnUpLinks : Controller → Step → Type 0
PutsOnUpLinks c s = AllByRecursion (λ out. is_up (step c s).next out.to ≡ true) (step c s).outs
