-- SPDX-License-Identifier: MIT OR Apache-2.0
use Rattle.controller_model.proofs.Others.{word_leaves, own_input_leaves, all_age, timed_leaves}
use Rattle.controller_model.proofs.laws.others_are_left.Goals as goal

pub returns : goal.returns
returns c = record { frames = word_leaves; breaks = own_input_leaves; ages = all_age; time = timed_leaves }
