-- SPDX-License-Identifier: MIT OR Apache-2.0
-- Definitions against literal values. The words of a command line are tested on the built program,
-- by tests/statuses, since `clap`'s model doesn't compute.
use Rattle.std.specs.Prelude.{◌≡◌, None, Some, [], ◌∷◌, codes, map}
use Rattle.std.proofs.Common.{refl}
use Rattle.clap.specs.declared.error.Error.{Error as Complaint}
use Rattle.program_base.specs.declared.no_task.NoTask.TheVariants.{Refused}
use Rattle.program_base.specs.declared.no_task.NoTask.TheVariants.{Memory as NoMemory}
use Rattle.program_base.specs.declared.words.Task.TheVariants.{Decode, Replay}
use Rattle.program_base.specs.declared.words.TaskFault.TheVariants.{Words, Memory}
use Rattle.program_base.specs.CommandLine.{IsTask}
use Rattle.program_base.specs.declared.usage.Page.TheVariants as pages
use Rattle.program_base.specs.Pages.{page_named, page_of}
use Rattle.program_base.specs.ToolLine.{behind_decode, behind_judge}
use Rattle.program_base.specs.WordStatus.{status_of_words, task_fault}

wrong_words : status_of_words Words ≡ 2
wrong_words = refl

no_memory : status_of_words Memory ≡ 3
no_memory = refl

no_tasks : (complaint : Complaint) → map task_fault (Refused complaint ∷ NoMemory ∷ []) ≡ Words ∷ Memory ∷ []
no_tasks complaint = refl

decode : IsTask Decode (Some (codes "decode", []))
unfolding IsTask
decode = refl

replay_without_options : IsTask (Replay None None) (Some (codes "replay", []))
unfolding IsTask
replay_without_options = (refl, refl, refl)

named : map page_named (codes "run" ∷ codes "replay" ∷ codes "trace" ∷ codes "judge" ∷ codes "decode" ∷ codes "runs" ∷ codes "" ∷ []) ≡
    Some pages.Run ∷ Some pages.Replay ∷ Some pages.Trace ∷ Some pages.Judge ∷ Some pages.Decode ∷ None ∷ None ∷ []
named = refl

-- the first command that the words name
asked_for : map page_of ([] ∷ (codes "--help" ∷ []) ∷ (codes "help" ∷ codes "decode" ∷ []) ∷ (codes "replay" ∷ codes "-h" ∷ codes "run" ∷ []) ∷ (codes "trace" ∷ codes "--help" ∷ []) ∷ (codes "help" ∷ codes "judge" ∷ []) ∷ []) ≡
    pages.Program ∷ pages.Program ∷ pages.Decode ∷ pages.Replay ∷ pages.Trace ∷ pages.Judge ∷ []
asked_for = refl

-- `decode --long`, whatever is behind it, and no other words
long : map behind_decode ((codes "decode" ∷ codes "--long" ∷ []) ∷ (codes "decode" ∷ codes "--long" ∷ codes "x" ∷ []) ∷ (codes "decode" ∷ []) ∷ (codes "trace" ∷ codes "--long" ∷ []) ∷ (codes "decode" ∷ codes "--longer" ∷ []) ∷ [] ∷ []) ≡
    Some (codes "--long" ∷ []) ∷ Some (codes "--long" ∷ codes "x" ∷ []) ∷ None ∷ None ∷ None ∷ None ∷ []
long = refl

-- what is behind `judge`, where that is the first word
judge : map behind_judge ((codes "judge" ∷ []) ∷ (codes "judge" ∷ codes "--tap" ∷ []) ∷ (codes "judged" ∷ []) ∷ (codes "--tap" ∷ codes "judge" ∷ []) ∷ [] ∷ []) ≡
    Some [] ∷ Some (codes "--tap" ∷ []) ∷ None ∷ None ∷ None ∷ []
judge = refl
