-- SPDX-License-Identifier: MIT OR Apache-2.0
use Rattle.judge_laws.proofs.Commands.{activations_show}
use Rattle.judge_laws.proofs.Puts.{messages_say}
use Rattle.judge_laws.proofs.laws.frames_say_what_was_put.Goals as goal

pub returns-clause-messages : goal.returns-clause-messages
returns-clause-messages c = messages_say

pub returns-clause-activations : goal.returns-clause-activations
returns-clause-activations c = activations_show
