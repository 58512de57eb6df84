-- SPDX-License-Identifier: MIT OR Apache-2.0
use Rattle.std.proofs.Common.{rules, tests}
use Rattle.std.proofs.lemmas.Iterator.{YieldsList-from_slice}
use Rattle.std.proofs.lemmas.Iterator.Search.{find_from_yields_List}
use Rattle.world_model.specs.Stations.{is_on}
use Rattle.world_model.specs.World.{Mobile}
use Rattle.world_ends.proofs.mobiles.Mobiles.on.Goals as goal

pub returns : goal.returns
returns c =
    find_from_yields_List (λ (p : Mobile). is_on c.args.tenure.now p.seat) _ _ c.find.result c.find.ensures.ran
    (YieldsList-from_slice c.args.self.now.mobiles cc) (λ x b q k. search (rules, tests))
