-- SPDX-License-Identifier: MIT OR Apache-2.0
use Rattle.world_actors.proofs.Prelude.{◌≡◌, sym, ◌∙◌, true, subst, Actors, mobile_of, tenure_at}
use Rattle.world_model.specs.Stations.{assigned_to}
use Rattle.world_actors.specs.contracts.network.Network.{the_view}
use Rattle.world_actors.specs.Seats.{is_asking_by}
use Rattle.world_actors.proofs.Lines.{assigned_done, unassigned_is}
use Rattle.world_actors.proofs.Upper.{with_mobiles}
use Rattle.world_actors.proofs.network.Network.assign_to.Goals as goal

pub returns-else-is_asking : goal.returns-else-is_asking
returns-else-is_asking c =
    unassigned_is c.args.self.now c.args.mobile (tenure_at c.args.self.now c.args.at) (sym c.is_asking.ensures ∙ c.if-is_asking.false)

pub returns-then-is_asking : goal.returns-then-is_asking
returns-then-is_asking c =
    subst (λ (w : Actors). is_asking_by w c.args.mobile ≡ true → c.last_tenure-tenure.result ≡ tenure_at w c.args.at → with_mobiles (the_view c.self.inside) c.assign.new.self ≡ assigned_to (mobile_of w c.args.mobile) (tenure_at w c.args.at) w) c.self.view_is
    (λ asks is. assigned_done (the_view c.self.inside) c.args.mobile c.last_tenure-tenure.result c.args.at c.assign.new.self asks is c.assign.ensures)
    (sym c.is_asking.ensures ∙ c.if-is_asking.true) c.last_tenure-tenure.ensures
