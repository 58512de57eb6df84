-- SPDX-License-Identifier: MIT OR Apache-2.0
use Rattle.settings.proofs.Parsed.{blank_parsed, parsed_answer}
use Rattle.settings.proofs.parameters.Settings.read.Goals as goal

pub returns-clause-reads : goal.returns-clause-reads
returns-clause-reads c other =
    parsed_answer c.args.text.now c.table_from_str.result c.answered.result c.table_from_str.ensures.ok c.table_from_str.ensures.refused
    c.answered.ensures other

pub returns-clause-blank : goal.returns-clause-blank
returns-clause-blank c blank =
    blank_parsed c.args.text.now c.table_from_str.result c.answered.result c.table_from_str.ensures.ok c.table_from_str.ensures.refused
    c.table_from_str.ensures.memory c.answered.ensures blank
