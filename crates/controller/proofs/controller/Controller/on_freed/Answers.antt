-- SPDX-License-Identifier: MIT OR Apache-2.0
use Rattle.controller.proofs.Prelude.{◌≡◌, List, ap, ◌∙◌, ChannelState, Controller}
use Rattle.controller_model.specs.declared.channel_state.ChannelState.TheVariants.{Free}
use Rattle.controller_model.specs.Controller.{with_state}
use Rattle.controller.specs.contracts.controller.Controller.{the_view}
use Rattle.controller.proofs.Freeing.{state_is_back}
use Rattle.controller.proofs.controller.Controller.on_freed.Goals as goal

pub returns-in-Err-clause-err : goal.returns-in-Err-clause-err
returns-in-Err-clause-err c =
    let same = c.self-2.view_is ∙ c.in-Err.ensures.err.0 in
    let back : c.set-in-Err.new.self ≡ c.self.inside.channels =
    c.set-in-Err.ensures
    ∙ ap (with_state c.args.at.now c.state-state.result) (ap (λ (v : Controller). v.channels) same ∙ c.set.ensures)
    ∙ ap (λ s. with_state c.args.at.now s (with_state c.args.at.now Free c.self.inside.channels)) c.state-state.ensures
    ∙ state_is_back c.args.at.now c.self.inside.channels in (
      ap (λ (v : Controller). record v { channels = c.set-in-Err.new.self }) same
          ∙ ap (λ (ch : List (List ChannelState)). record (the_view c.self.inside) { channels = ch }) back
          ∙ c.self.view_is,
      c.in-Err.ensures.err.1,
    )
