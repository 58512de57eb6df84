-- SPDX-License-Identifier: MIT OR Apache-2.0
use Rattle.std.proofs.Common.{◌≡◌, List, ℕ, ap, ◌∙◌}
use Rattle.mobile_end.specs.Mobile.{after_arrival}
use Rattle.world_model.specs.Mobiles.{complete}
use Rattle.world_ends.proofs.Fit.{arrived_fit, complete_l3}
use Rattle.world_ends.proofs.mobile_station.MobileStation.arrive.Goals as goal

pub invariant_of-self : goal.invariant_of-self
invariant_of-self c =
    let is : c.into_vec.result.items ≡ complete c.args.change = cc c.in_ok-complete.ensures in
    arrived_fit c.seat_on-self-inside.result c.self.inside.end c.arrive.new.self c.args.tenure (complete c.args.change) (complete_l3 c.args.change) c.self.invariant.sized c.seat_on-self-inside.ensures
    (c.in-Ok.ensures.ok ∙ ap (λ (m : List ℕ). after_arrival c.self.inside.end m) is)
