-- SPDX-License-Identifier: MIT OR Apache-2.0
use Rattle.std.proofs.Common.{◌≡◌, List, ℕ, ap, ◌∙◌}
use Rattle.mobile_end.specs.Mobile.{after_arrival}
use Rattle.world_model.specs.Mobiles.{failure}
use Rattle.world_ends.proofs.Fit.{arrived_fit, failure_l3}
use Rattle.world_ends.proofs.mobile_station.MobileStation.give_up.Goals as goal

pub invariant_of-self : goal.invariant_of-self
invariant_of-self c =
    let is : c.into_vec.result.items ≡ failure c.args.change = cc c.in_ok-failure.ensures in
    arrived_fit c.seat_on-self-inside.result c.self.inside.end c.give_up.new.self c.args.tenure (failure c.args.change) (failure_l3 c.args.change) c.self.invariant.sized c.seat_on-self-inside.ensures
    (c.in-Ok.ensures.ok ∙ ap (λ (m : List ℕ). after_arrival c.self.inside.end m) is)
