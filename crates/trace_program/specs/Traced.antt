-- SPDX-License-Identifier: MIT OR Apache-2.0
-- The trace of a script.
use Rattle.std.specs.Prelude.{◌≡◌, ◌⊎◌, ℕ, ◌+◌, ◌&&◌, Bool, is_some, if◌then◌else◌}
use Rattle.std.specs.Prelude.{IfSome, length, Result, Ok, Err, unwrap_or}
use Rattle.std.specs.Prelude.{List, [], ◌∷◌, ◌++◌, Option, Some, None}
use Rattle.std.specs.Io.KnownBytes.{Appends}
use Rattle.program_base.specs.FirstLine.{behind_line, first_line}
use Rattle.program_base.specs.WholeScript.{HasBadLineAt, IsBadScript, IsScript}
use Rattle.program_io.specs.declared.failure.Failure.TheVariants.{BadEvent, Device, Memory}
use Rattle.program_base.specs.declared.fault.ProgramFault.{ProgramFault}
use Rattle.program_base.specs.declared.fault.ProgramFault.TheVariants.{Failed}
use Rattle.settings.specs.Parameters.{Parameters}
use Rattle.world_model.specs.declared.event.Event.{Event}
use Rattle.world_model.specs.Life.{actors_after}
use Rattle.world_model.specs.World.{Actors, modulus_in, new_actors}
use Rattle.world_trace.specs.declared.cause.Cause.{Cause}
use Rattle.world_trace.specs.Causes.{refusal}
use Rattle.world_trace.specs.Crossings.{crossings}
use Rattle.world_trace.specs.Fates.{fate_at}
use Rattle.world_trace.specs.Makings.{made_at}
use Rattle.world_trace.specs.Notes.{notes_at}
use Rattle.trace_program.specs.TraceLines.{event_lines}
use Rattle.trace_program.specs.declared.run.Tally.{Tally}

-- the trace of these events, the first of which has the number `number`; `octets` are the script
-- lines of the events, and messages have `m` sequence numbers
abbrev pub trace_text : ℕ → Actors → ℕ → List ℕ → List Event → List ℕ
trace_text m w number octets [] = []
trace_text m w number octets (event ∷ events) =
    event_lines m number (first_line octets) (refusal w event) (fate_at w event)
    (crossings w event) (made_at w event) (notes_at w event)
    ++ trace_text m (actors_after w event) (number + 1) (behind_line octets) events

-- `no_tally` is the tally before any event, `counted` the tally after one more event, and
-- `tally_of` the tally after all events of a list
abbrev pub no_tally : Tally
no_tally = record { not_taken = 0; first = None }

abbrev pub counted : Option Cause → ℕ → Tally → Tally
counted None number tally = tally
counted (Some cause) number tally = record {
  not_taken = tally.not_taken + 1;
  first = Some (unwrap_or tally.first (record { line = number; cause = cause }));
}

abbrev pub tally_of : Actors → ℕ → List Event → Tally → Tally
tally_of w number [] tally = tally
tally_of w number (event ∷ events) tally =
    tally_of (actors_after w event) (number + 1) events (counted (refusal w event) number tally)

-- the status: 4 if `strict` is set and an event wasn't taken, else 0
abbrev pub status_of_tally : Bool → Tally → ℕ
status_of_tally strict tally = if strict && is_some tally.first then 4 else 0

-- If the octets of the input, `start`, are known (`Some`), they are a script, and the script's
-- trace in the world of the settings was appended to the contents `old`, if these are known, which
-- gave `new`. `tally` is the tally of the script's events.
abbrev pub Traces : Parameters → Tally → Option (List ℕ) → Option (List ℕ)
    → Option (List ℕ) → Type 0
Traces settings tally start old new = IfSome start (λ octets.
    (events : List Event) × IsScript (length settings.cells) octets events
    × Appends old new (trace_text (modulus_in settings) (new_actors settings) 1 octets events)
    × (tally ≡ tally_of (new_actors settings) 1 events no_tally))

-- The faults with which `trace` fails. If the settings are faulty, the fault is theirs or an
-- allocation failure. Otherwise the fault is an allocation failure, a failed device, or a bad line;
-- `BadEvent` holds the number of this line if the octets of the input are known.
abbrev pub Fails : Result Parameters ProgramFault → Option (List ℕ) → ProgramFault → Type 0
Fails (Err found) start fault = (fault ≡ found) ⊎ (fault ≡ Failed Memory)
Fails (Ok settings) start (Failed (BadEvent number)) =
    HasBadLineAt (length settings.cells) start number
Fails (Ok settings) start (Failed Memory) = Unit {0}
Fails (Ok settings) start (Failed Device) = Unit {0}
Fails (Ok settings) start _ = ⊥

-- if the octets are known (`Some`), they are a script with a bad line
abbrev pub HasBadLine : ℕ → Option (List ℕ) → Type 0
HasBadLine cells start = IfSome start (λ octets. (number : ℕ) × IsBadScript cells octets number)
