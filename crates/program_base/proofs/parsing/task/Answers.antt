-- SPDX-License-Identifier: MIT OR Apache-2.0
use Rattle.program_base.proofs.Taking.{answer_ok, answer_words}
use Rattle.program_base.proofs.parsing.task.Goals as goal

pub returns-clause-taken : goal.returns-clause-taken
returns-clause-taken c = answer_ok c.found_task.result c.answered.result _ c.answered.ensures c.found_task.ensures.taken

pub returns-clause-found : goal.returns-clause-found
returns-clause-found c = answer_ok c.found_task.result c.answered.result _ c.answered.ensures c.found_task.ensures.found

pub returns-clause-words : goal.returns-clause-words
returns-clause-words c words = answer_words c.found_task.result c.answered.result c.answered.ensures words c.found_task.ensures.refused
