-- SPDX-License-Identifier: MIT OR Apache-2.0
use Rattle.judge_laws.proofs.Law.{law_by_steps}
use Rattle.judge_laws.proofs.StepFineLaw.{steps_keep}
use Rattle.judge_laws.proofs.laws.lives_are_judged_fairly.Goals as goal

pub returns : goal.returns
returns c = law_by_steps steps_keep
