-- SPDX-License-Identifier: MIT OR Apache-2.0
-- The notes of connections, by the states and timers of docs/CONNECTION.md, and the fates of
-- messages, by the numbers of TS 24.007. T3101 takes 3,000 ms in these settings.
use Rattle.std.proofs.Common.{◌≡◌, ℕ, true, false, [], ◌∷◌, map, Some, None, refl}
use Rattle.octets.proofs.Hex.{hex}
use Rattle.controller_model.proofs.Lives.{usual_settings}
use Rattle.dtap_codec.specs.declared.sapi.Sapi.TheVariants.{Zero, Three}
use Rattle.world_model.specs.declared.event.Event.TheVariants.{Upper, Connect, AirUp, AirDown, Move, Arrive, BaseTakes, BasePush}
use Rattle.world_model.specs.declared.event.Event.TheVariants.{Handle, SwitchTakes, SwitchDoes, Tick, Report}
use Rattle.world_model.specs.declared.event.SwitchAction.TheVariants.{Clear, Dtap}
use Rattle.world_model.specs.World.{World, new_world}
use Rattle.world_model.proofs.Rows.{opened, opened_eager}
use Rattle.world_model.proofs.Worlds.{after_all, on_literals}
use Rattle.world_trace.specs.declared.fate.Counts.{Counts}
use Rattle.world_trace.specs.declared.fate.Fate.TheVariants.{Accepted, Duplicate, Gap, Unnumbered}
use Rattle.connection_notes.specs.declared.note.Holding.TheVariants.{Held, Relayed, Dropped}
use Rattle.connection_notes.specs.declared.note.Note.TheVariants.{Expired, Changed, Hold}
use Rattle.connection_notes.specs.declared.note.Timer.TheVariants.{T3101, T3103}
use Rattle.connection_notes.specs.declared.note.Way.TheVariants.{Down}
use Rattle.connection_notes.specs.declared.sight.Phase.TheVariants as phases
use Rattle.world_trace.specs.Fates.{fate_at, fate_by}
use Rattle.world_trace.specs.Notes.{notes_at}

-- ---- the life of a connection

abbrev asked : World
asked = after_all (new_world usual_settings) (Connect 1 1 (hex "05 24 71") true ∷ BasePush 1 ∷ [])

begins : notes_at asked.actors Handle ≡ Changed 1 phases.Absent phases.WaitActivation ∷ []
unfolding on_literals
begins = refl

abbrev begun_one : World
begun_one = after_all asked (Handle ∷ [])

no_turn : notes_at begun_one.actors (BaseTakes 1) ≡ []
unfolding on_literals
no_turn = refl

not_due : notes_at begun_one.actors (Tick 2999) ≡ []
unfolding on_literals
not_due = refl

due : notes_at begun_one.actors (Tick 3000) ≡ Expired 1 T3101 ∷ Changed 1 phases.WaitActivation phases.Absent ∷ []
unfolding on_literals
due = refl

cleared : notes_at (after_all opened (SwitchDoes (Clear 1) ∷ BasePush 0 ∷ [])).actors Handle ≡ Changed 1 phases.Active phases.Closed ∷ []
unfolding on_literals
cleared = refl

-- ---- a handover: what is held of the switch's messages is relayed, or is lost

abbrev changing : World
changing = after_all opened_eager (Report 1 (hex "14 14 00 57 02 40 00 00 00 00 00 00 00 00 00 00") ∷ BasePush 1 ∷ Handle
    ∷ BaseTakes 2 ∷ BasePush 2 ∷ Handle ∷ BaseTakes 1 ∷ AirDown 1 ∷ Move 1 ∷ SwitchDoes (Dtap 1 Zero (hex "83 07")) ∷ BasePush 0 ∷ [])

is_held : notes_at changing.actors Handle ≡ Hold 1 Held 1 Down Zero ∷ []
unfolding on_literals
is_held = refl

abbrev holding : World
holding = after_all changing (Handle ∷ [])

is_dropped : notes_at holding.actors (Tick 60000) ≡ Expired 1 T3103 ∷ Changed 1 phases.Changing phases.Closed ∷ Hold 1 Dropped 1 Down Zero ∷ []
unfolding on_literals
is_dropped = refl

is_relayed : notes_at (after_all holding (Arrive 1 ∷ AirUp 1 Zero ∷ BasePush 2 ∷ Handle ∷ BasePush 2 ∷ [])).actors Handle
    ≡ Changed 1 phases.Changing phases.Draining ∷ Hold 1 Relayed 1 Down Zero ∷ []
unfolding on_literals
is_relayed = refl

-- ---- the switch: the initial message, N(SD) 1, then once more, and one that carries no number

abbrev first_taken : World
first_taken = after_all (new_world usual_settings) (Connect 1 1 (hex "05 24 71") true ∷ BasePush 1 ∷ Handle ∷ BaseTakes 1 ∷ BasePush 1
    ∷ Handle ∷ BaseTakes 1 ∷ AirUp 1 Zero ∷ BasePush 1 ∷ Handle ∷ [])

initial_is_accepted : fate_at first_taken.actors SwitchTakes ≡ Some Accepted
unfolding on_literals
initial_is_accepted = refl

next_is_accepted : fate_at (after_all opened (Upper 1 Zero (hex "03 05") ∷ AirUp 1 Zero ∷ BasePush 1 ∷ Handle ∷ [])).actors SwitchTakes
    ≡ Some Accepted
unfolding on_literals
next_is_accepted = refl

nothing_taken : map (fate_at opened.actors) (SwitchTakes ∷ Handle ∷ []) ≡ None ∷ None ∷ []
unfolding on_literals
nothing_taken = refl

abbrev counts : ℕ → ℕ → ℕ → Counts
counts taken accepted unnumbered = record { taken = taken; accepted = accepted; unnumbered = unnumbered; has_gap = false }

fates : fate_by (counts 3 2 1) (counts 4 2 1) ∷ fate_by (counts 3 2 1) (counts 4 2 2) ∷ fate_by (counts 3 2 1) (record (counts 4 2 1) { has_gap = true })
    ∷ fate_by (counts 3 2 1) (counts 3 2 1) ∷ []
    ≡ Some Duplicate ∷ Some Unnumbered ∷ Some Gap ∷ None ∷ []
fates = refl
