-- SPDX-License-Identifier: MIT OR Apache-2.0
-- Why words ask for no task, and the status that the program ends with then.
use Rattle.std.specs.Prelude.{◌≡◌, ◌≢◌, ℕ, Result, Ok, Err}
use Rattle.clap.specs.Words.{kind_of}
use Rattle.clap.specs.declared.error.Error.{Error as Complaint}
use Rattle.clap.specs.declared.error.kind.ErrorKind.TheVariants.{OutOfMemory}
use Rattle.program_base.specs.declared.no_task.NoTask.{NoTask}
use Rattle.program_base.specs.declared.no_task.NoTask.TheVariants.{Refused}
use Rattle.program_base.specs.declared.no_task.NoTask.TheVariants.{Memory as NoMemory}
use Rattle.program_base.specs.declared.words.TaskFault.{TaskFault}
use Rattle.program_base.specs.declared.words.TaskFault.TheVariants.{Words, Memory}

-- why there is no task if `clap` ends with `error`: `NoMemory` if memory ran out, else `Refused
-- error`
abbrev pub IsNoTaskOf : Complaint → NoTask → Type 0
IsNoTaskOf error none =
    (kind_of error ≡ OutOfMemory → none ≡ NoMemory)
    × (kind_of error ≢ OutOfMemory → none ≡ Refused error)

-- the program's fault: `Words` if `clap` refuses the words, else `Memory`
abbrev pub task_fault : NoTask → TaskFault
task_fault (Refused complaint) = Words
task_fault NoMemory = Memory

-- the answer: what was found in the words, or the program's fault if nothing was found
abbrev pub answer_to : {X : Type 0} → Result X NoTask → Result X TaskFault
answer_to (Ok found) = Ok found
answer_to (Err none) = Err (task_fault none)

-- the program's status: 2 for `Words`, 3 for `Memory`
abbrev pub status_of_words : TaskFault → ℕ
status_of_words Words = 2
status_of_words Memory = 3
