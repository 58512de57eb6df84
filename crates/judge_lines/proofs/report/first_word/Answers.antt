-- SPDX-License-Identifier: MIT OR Apache-2.0
use Rattle.std.proofs.Common.{rules, sym}
use Rattle.judge_lines.proofs.Parting.{word_alone, word_until}
use Rattle.judge_lines.proofs.report.first_word.Goals as goal

pub returns-in-Some : goal.returns-in-Some
returns-in-Some c = sym (word_until 32 c.args.text.now c.in-Some.end (search rules))

pub returns-in-None : goal.returns-in-None
returns-in-None c = sym (word_alone 32 c.args.text.now (search rules))
