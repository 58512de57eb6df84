-- SPDX-License-Identifier: MIT OR Apache-2.0
use Rattle.std.proofs.Common.{◌≡◌, ◌++◌, List, ap, ◌∙◌, sym, subst}
use Rattle.std.specs.List.{AllByRecursion}
use Rattle.bssmap_codec.specs.declared.sccp.Sccp.{Sccp}
use Rattle.msc_end.specs.Switch.{replies}
use Rattle.world_ends.specs.SwitchWritten.{IsWritten}
use Rattle.world_ends.proofs.SwitchWritten.{replies_written}
use Rattle.world_ends.proofs.switch.Switch.on_message.Goals as goal

pub make_all-requires : goal.make_all-requires
make_all-requires c =
    let is : c.on_message.new.out.items ≡ replies c.self.inside.end.connections c.args.message.now = c.in_ok-on_message.ensures.replies ∙ ap (λ (made : List Sccp). made ++ replies c.self.inside.end.connections c.args.message.now) c.new-replies.ensures.items in
    subst (λ (made : List Sccp). AllByRecursion IsWritten made) (sym is) (replies_written c.self.inside.end.connections c.args.message.now c.requires)
