-- SPDX-License-Identifier: MIT OR Apache-2.0
use Rattle.std.proofs.Common.{◌≡◌, option_map, sym, ap, ◌∙◌}
use Rattle.program_base.specs.WordsLeft.{is_space, words_left}
use Rattle.program_base.proofs.Splitting.{slice_split-some, end_of-some}
use Rattle.program_base.proofs.line_words.Words.end.Goals as goal

pub returns-in-Some : goal.returns-in-Some
returns-in-Some c =
    let left : words_left (option_map (λ line. line.now) c.self.inside.rest) ≡ c.args.self.now = c.self.view_is in
    end_of-some c.args.self.now
    (λ none. slice_split-some is_space c.in-Some.field-0.now (ap (λ rest. words_left (option_map (λ line. line.now) rest)) (sym c.in-Some.is) ∙ left ∙ none))
