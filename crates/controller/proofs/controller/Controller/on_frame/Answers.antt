-- SPDX-License-Identifier: MIT OR Apache-2.0
use Rattle.controller.proofs.Wanting.{word_wants}
use Rattle.controller.proofs.controller.Controller.on_frame.Goals as goal

pub returns-clause-memory : goal.returns-clause-memory
returns-clause-memory c =
    word_wants c.on_word.result c.args.source c.args.frame.now c.in_ok-word.word c.args.self.now c.in_ok-word.ensures.word c.on_word.ensures.memory
