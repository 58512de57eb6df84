-- SPDX-License-Identifier: MIT OR Apache-2.0
-- The text that `replay` prints for a script.
use Rattle.std.specs.Prelude.{◌≡◌, ◌≢◌, ◌⊎◌, ℕ, List, Option, Some, None, Result, Ok, Err}
use Rattle.std.specs.Prelude.{IfErr, IfSome}
use Rattle.std.specs.Io.KnownBytes.{Appends}
use Rattle.world_model.specs.declared.event.Event.{Event}
use Rattle.world.specs.World.{after_all, controlled_world, fixed_world}
use Rattle.bsc_program.specs.Asked.{Asked, fixed, controlled, breaking, cells_of}
use Rattle.bsc_program.specs.BreakCounts.{first_excess}
use Rattle.bsc_program.specs.Breaks.{break_lines}
use Rattle.bsc_program.specs.Report.{IsReport}
use Rattle.program_base.specs.WholeScript.{HasBadLineAt, IsBadScript, IsScript}
use Rattle.program_base.specs.declared.fault.ProgramFault.{ProgramFault}
use Rattle.program_base.specs.declared.fault.ProgramFault.TheVariants.{Failed}
use Rattle.program_io.specs.declared.failure.Failure.TheVariants.{BadEvent, Memory, Device}

-- `text` is the output that is asked for. `fixed` asks for the report after the events in the fixed
-- world, whose mobiles number messages modulo 4. `controlled` asks for the report after the events
-- in the world of the settings. `breaking` asks for the lines for all places at which the link of
-- the source breaks in that world.
abbrev pub IsPrinted : Asked → List Event → List ℕ → Type 0
IsPrinted fixed events text = IsReport (after_all (fixed_world 4) events) text
IsPrinted (controlled settings) events text =
    IsReport (after_all (controlled_world settings) events) text
IsPrinted (breaking settings source) events text =
    text ≡ break_lines (controlled_world settings) events source

-- the first place of a break for which more messages are accepted than sent; `None` if no breaks
-- are asked for
abbrev pub excess_in : Asked → List Event → Option ℕ
excess_in fixed events = None
excess_in (controlled settings) events = None
excess_in (breaking settings source) events = first_excess (controlled_world settings) events source

-- the status: 4 if there is a place with more accepted than sent messages, else 0
abbrev pub status_of_excess : Option ℕ → ℕ
status_of_excess None = 0
status_of_excess (Some place) = 4

-- If the octets of the input, `start`, are known (`Some`), they are a script, and the output that
-- is asked for was appended to the contents `old`, if these are known, which gave `new`. `excess`
-- is the first place of a break for which more messages are accepted than sent.
abbrev pub Replays : Asked → Option ℕ → Option (List ℕ) → Option (List ℕ) → Option (List ℕ)
    → Type 0
Replays asked excess start old new =
    IfSome start (λ octets. (events : List Event) × (text : List ℕ)
    × IsScript (cells_of asked) octets events × IsPrinted asked events text
    × Appends old new text × (excess ≡ excess_in asked events))

-- if the octets are known (`Some`), they are a script with a bad line
abbrev pub HasBadLine : Asked → Option (List ℕ) → Type 0
HasBadLine asked start =
    IfSome start (λ octets. (number : ℕ) × IsBadScript (cells_of asked) octets number)

-- The faults with which `replay` fails. If the options are faulty, the fault is theirs or an
-- allocation failure. Otherwise the fault is an allocation failure, a failed device, or a bad line;
-- `BadEvent` holds the number of this line if the octets of the input are known.
abbrev pub Fails : Result Asked ProgramFault → Option (List ℕ) → ProgramFault → Type 0
Fails (Err found) start fault = (fault ≡ found) ⊎ (fault ≡ Failed Memory)
Fails (Ok asked) start (Failed (BadEvent number)) = HasBadLineAt (cells_of asked) start number
Fails (Ok asked) start (Failed Memory) = Unit {0}
Fails (Ok asked) start (Failed Device) = Unit {0}
Fails (Ok asked) start _ = ⊥

-- if the result is a fault whose status isn't 3, the output is as before: nothing was written
abbrev pub UnwrittenOnErr : {X F W : Type 0} → (F → ℕ) → Result X F → W → W → Type 0
UnwrittenOnErr status result old new = IfErr result (λ fault. status fault ≢ 3 → new ≡ old)
