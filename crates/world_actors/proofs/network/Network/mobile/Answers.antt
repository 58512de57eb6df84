-- SPDX-License-Identifier: MIT OR Apache-2.0
use Rattle.world_actors.proofs.Prelude.{ap, sym, ◌∙◌, find_at, Actors, has_number, mobile_of}
use Rattle.world_actors.proofs.network.Network.mobile.Goals as goal

pub returns : goal.returns
returns c = c.get.ensures ∙ sym (find_at (has_number c.args.number) c.self.inside.mobiles.mobiles) ∙ ap (λ (w : Actors). mobile_of w c.args.number) c.self.view_is
