-- SPDX-License-Identifier: MIT OR Apache-2.0
-- The notes on connections against literal views, states and texts (docs/CONNECTION.md).
use Rattle.std.proofs.Common.{◌≡◌, ℕ, true, false, [], ◌∷◌, ◌++◌, Some, None, refl}
use Rattle.octets.proofs.Hex.{hex}
use Rattle.conn_messages.specs.declared.channel.Change.TheVariants.{Assignment, Handover}
use Rattle.conn_messages.specs.declared.channel.Channel.{Channel}
use Rattle.conn_messages.specs.declared.out.Out.{Out}
use Rattle.conn_rules.specs.declared.input.Input.TheVariants as inputs
use Rattle.conn_rules.specs.declared.state.Stage.TheVariants as stages
use Rattle.conn_rules.specs.declared.state.State.TheVariants as states
use Rattle.dtap_codec.specs.declared.sapi.Sapi.TheVariants.{Zero, Three}
use Rattle.ipa_framing.specs.Front.{frame}
use Rattle.connection_notes.specs.declared.note.Holding.TheVariants.{Held, Relayed, Dropped}
use Rattle.connection_notes.specs.declared.note.Note.TheVariants.{Changed, Expired, Hold}
use Rattle.connection_notes.specs.declared.note.Timer.TheVariants.{T3101, T3103, T3107, Drain}
use Rattle.connection_notes.specs.declared.note.Way.TheVariants.{Down, Up}
use Rattle.connection_notes.specs.declared.sight.Phase.TheVariants as phases
use Rattle.connection_notes.specs.declared.sight.Sight.{Sight}
use Rattle.connection_notes.specs.Notes.{expired, notes_between, puts_of, timer_by}
use Rattle.std.specs.Fmt.{digits}
use Rattle.std.specs.Prelude.{codes}
use Rattle.connection_notes.specs.NoteText.{note_text}

abbrev sight : ℕ → ℕ → Sight
sight number held = record { number = number; phase = phases.Active; down_zero = 0; down_three = held; up_zero = 0; up_three = 0 }

-- several connections: one is over, one changes, one begins
beside : notes_between (record { down = false; up = true }) (sight 2 1 ∷ sight 5 1 ∷ sight 7 0 ∷ []) (sight 5 0 ∷ sight 7 3 ∷ sight 9 0 ∷ [])
    ≡ Changed 2 phases.Active phases.Absent ∷ Hold 2 Dropped 1 Down Three ∷ Hold 5 Dropped 1 Down Three ∷ Hold 7 Held 3 Down Three
    ∷ Changed 9 phases.Absent phases.Active ∷ []
beside = refl

-- what is put that way is relayed, and what is put to the switch isn't
relayed : notes_between (record { down = true; up = false }) (sight 5 1 ∷ []) (sight 5 0 ∷ []) ≡ Hold 5 Relayed 1 Down Three ∷ []
relayed = refl

abbrev out : ℕ → Out
out link = record { to = link; conn = 7; frame = frame 0 (hex "08 2e") }

ways : puts_of [] ∷ puts_of (out 0 ∷ []) ∷ puts_of (out 2 ∷ []) ∷ puts_of (out 1 ∷ out 0 ∷ []) ∷ []
    ≡ record { down = false; up = false } ∷ record { down = false; up = true } ∷ record { down = true; up = false }
    ∷ record { down = true; up = true } ∷ []
ways = refl

abbrev channel : Channel
channel = record {
  station = 2;
  number = 9;
  cell = hex "00 00 f1 10 00 01 00 02";
  description = record { arfcn = 30; ncc = 2; bcc = 2 };
  reference = record { 0 = 0 };
}

-- each timer by the state that it runs in; an old channel's drain time by its own expiry
timers : timer_by states.WaitActivation inputs.Expiry ∷ timer_by states.WaitEstablish inputs.Expiry ∷ timer_by states.WaitConfirm inputs.Expiry
    ∷ timer_by (states.Live 5 (stages.Preparing (record { change = Assignment; channel = channel }))) inputs.Expiry
    ∷ timer_by (states.Live 5 (stages.Changing (record { change = Handover; channel = channel }))) inputs.Expiry
    ∷ timer_by (states.Live 5 stages.Draining) inputs.DrainExpiry ∷ timer_by states.WaitActivation inputs.SwitchDown ∷ []
    ≡ Some T3101 ∷ Some T3101 ∷ None ∷ Some T3107 ∷ Some T3103 ∷ Some Drain ∷ None ∷ []
timers = refl

expires : expired 7 None ++ expired 9 (Some T3103) ≡ Expired 9 T3103 ∷ []
expires = refl

-- ---- texts

begun_and_over : note_text (Changed 1 phases.Absent phases.WaitActivation) ++ codes ", "
    ++ note_text (Changed 1 phases.Closed phases.Absent)
    ≡ codes "none to WaitActivation, Closed to none"
begun_and_over = refl

phase_words : note_text (Changed 1 phases.WaitEstablish phases.WaitConfirm) ++ codes ", "
    ++ note_text (Changed 2 phases.Active phases.Preparing) ++ codes ", " ++ note_text (Changed 3 phases.Changing phases.Draining)
    ≡ codes "WaitEstablish to WaitConfirm, Active to Preparing, Changing to Draining"
phase_words = refl

held_text : note_text (Hold 12 Held 1 Down Zero) ≡ codes "held 1 down SAPI 0"
unfolding digits
held_text = refl

left_text : note_text (Hold 1 Relayed 16 Up Three) ++ codes ", " ++ note_text (Hold 1 Dropped 2 Down Zero)
    ≡ codes "relayed 16 up SAPI 3, dropped 2 down SAPI 0"
unfolding digits
left_text = refl

timer_texts : note_text (Expired 1 T3101) ++ codes ", " ++ note_text (Expired 1 T3103) ++ codes ", " ++ note_text (Expired 1 T3107) ++ codes ", "
    ++ note_text (Expired 1 Drain)
    ≡ codes "T3101 expired, T3103 expired, T3107 expired, drain time expired"
timer_texts = refl
