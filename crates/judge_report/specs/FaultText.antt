-- SPDX-License-Identifier: MIT OR Apache-2.0
-- How the controller broke the order of a flow's messages, in words. The short names of faults are
-- padded to one width.
use Rattle.std.specs.Prelude.{ℕ, List, [], ◌∷◌, ◌++◌, codes, decimal}
use Rattle.run_judge.specs.declared.fault.Fault.{Fault}
use Rattle.run_judge.specs.declared.fault.Fault.TheVariants as faults
use Rattle.run_judge.specs.declared.flow.Due.{Due}
use Rattle.judge_report.specs.declared.direction.Direction.{Direction}
use Rattle.judge_report.specs.declared.direction.Direction.TheVariants.{Up, Down}
use Rattle.judge_report.specs.MessageText.{message_text}

-- The origin of a message.
abbrev pub origin_text : Direction → List ℕ
origin_text Up = codes "from the station"
origin_text Down = codes "from the switch"

-- The place to which the controller passes a message.
abbrev pub goal_text : Direction → List ℕ
goal_text Up = codes "at the switch"
goal_text Down = codes "handed"

-- A due message, with its origin and its frame.
abbrev pub due_text : ℕ → Direction → Due → List ℕ
due_text m direction d =
    message_text m direction d.message ++ codes ", " ++ origin_text direction
    ++ codes " in frame " ++ decimal d.frame

-- A message that was passed on, with its goal and its frame.
abbrev pub passed_text : ℕ → Direction → List ℕ → ℕ → List ℕ
passed_text m direction message frame =
    message_text m direction message ++ codes ", " ++ goal_text direction
    ++ codes " in frame " ++ decimal frame

-- A message that was passed on where no message may be passed on, with its frame.
abbrev pub misplaced_text : ℕ → Direction → List ℕ → ℕ → List ℕ
misplaced_text m direction message frame =
    message_text m direction message ++ codes ", in frame " ++ decimal frame

-- A DT1 after CLEAR COMPLETE: the DTAP message of the DT1, if there is one, and its frame.
abbrev pub behind_text : ℕ → Direction → List ℕ → ℕ → List ℕ
behind_text m direction [] frame = codes "in frame " ++ decimal frame
behind_text m direction (octet ∷ octets) frame =
    misplaced_text m direction (octet ∷ octets) frame

abbrev pub fault_text : ℕ → Direction → Fault → List ℕ
fault_text m direction (faults.Lost d behind) =
    codes "lost       " ++ due_text m direction d ++ codes ", missed in frame " ++ decimal behind
fault_text m direction (faults.Overtaken d behind frame) =
    codes "overtaken  " ++ due_text m direction d ++ codes ", " ++ goal_text direction
    ++ codes " in frame " ++ decimal frame ++ codes ", behind that of frame " ++ decimal behind
fault_text m direction (faults.Doubled message first frame) =
    codes "doubled    " ++ passed_text m direction message first
    ++ codes ", and again in frame " ++ decimal frame
fault_text m direction (faults.Changed d message frame) =
    codes "changed    " ++ due_text m direction d ++ codes ", into "
    ++ passed_text m direction message frame
fault_text m direction (faults.MadeUp message frame) =
    codes "made up    " ++ passed_text m direction message frame
fault_text m direction (faults.HandedWhileChanging message frame) =
    codes "handed while the channel changed " ++ misplaced_text m direction message frame
fault_text m direction (faults.HandedElsewhere message frame) =
    codes "handed on a channel that isn't serving " ++ misplaced_text m direction message frame
fault_text m direction (faults.BehindClear message frame) =
    codes "sent behind CLEAR COMPLETE " ++ behind_text m direction message frame
