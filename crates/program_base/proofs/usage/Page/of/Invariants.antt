-- SPDX-License-Identifier: MIT OR Apache-2.0
-- The words that are left ask for the same page as all words.
use Rattle.std.proofs.Common.{◌≡◌, drop}
use Rattle.program_base.specs.CommandLine.{texts}
use Rattle.program_base.specs.Pages.{page_of}
use Rattle.program_base.proofs.usage.Page.of.Given as goal

abbrev pub invariant-loop-word : goal.invariant-loop-word
invariant-loop-word l = page_of (texts (drop l.word-index l.words)) ≡ page_of (texts l.words)
