-- SPDX-License-Identifier: MIT OR Apache-2.0
use Rattle.std.proofs.Common.{◌≡◌, true, sym, ap, ◌∙◌}
use Rattle.world.specs.Beside.{is_up_in, is_up_and_beside}
use Rattle.world.specs.World.{after}
use Rattle.world.specs.WorldState.{WorldState}
use Rattle.world.proofs.CutWorlds.{beside_same}
use Rattle.world.proofs.world.World.pass.Goals as goal

pub returns-then-beside-clause-same : goal.returns-then-beside-clause-same
returns-then-beside-clause-same c up =
    let beside : is_up_and_beside c.args.self.now.scene c.args.event.now c.args.source ≡ true = sym c.is_up_and_beside-beside.ensures ∙ c.if-beside.true in
    let still : is_up_in (after c.args.self.now c.args.event.now).scene c.args.source ≡ true =
    ap (λ (world : WorldState). is_up_in world.scene c.args.source) (sym c.in_ok-act.ensures.ok) ∙ sym c.is_up.ensures ∙ up in
    beside_same c.args.self.now c.args.event.now c.args.source beside still
