-- SPDX-License-Identifier: MIT OR Apache-2.0
use Rattle.record_steps.specs.declared.step_reader.Part.TheVariants.{Head}
use Rattle.record_steps.specs.Reading.{sound_from}
use Rattle.record_steps.proofs.Handing.{handed_steps, sound_is_sound}
use Rattle.record_steps.proofs.laws.steps_are_handed_out.Goals as goal

pub returns : goal.returns
returns c links entries = handed_steps links (sound_from links Head entries) (sound_is_sound links entries Head)
