-- SPDX-License-Identifier: MIT OR Apache-2.0
-- Rows: the definitions on literal entries.
use Rattle.std.proofs.Common.{◌≡◌, ℕ, List, [], ◌∷◌, Some, None, refl}
use Rattle.octets.proofs.Hex.{hex}
use Rattle.ipa_framing.specs.Front.{frame}
use Rattle.controller_model.specs.declared.step.Step.TheVariants.{Take, Tick}
use Rattle.record_steps.specs.declared.step_fault.StepFault.TheVariants.{BehindEnd}
use Rattle.record_steps.specs.declared.step_fault.StepFault.TheVariants.{HeadBehindStep}
use Rattle.record_steps.specs.declared.step_fault.StepFault.TheVariants.{NoLink, PutBeforeStep}
use Rattle.record_steps.specs.declared.step_reader.Part.TheVariants as parts
use Rattle.record_steps.specs.Reading.{entry_fault, fault_from, first_reading, handed, sound_from}
use Rattle.record_steps.specs.Runs.{entries_of, entries_with}
use Rattle.record_steps.specs.Steps.{StepDone, head_of, puts_at, steps_of}
use Rattle.ruled_relay.specs.declared.item.What.TheVariants as what
use Rattle.run_record.specs.declared.entry.Entry.{Entry}
use Rattle.run_record.specs.declared.entry.Entry.TheVariants.{Head, Took, Passed, Put, Lost}
use Rattle.run_record.specs.declared.entry.Stamp.{Stamp}
use Rattle.run_record.specs.declared.entry.Stamped.{Stamped}

abbrev at : ℕ → Stamp
at seconds = record { seconds = seconds; microseconds = 7 }

abbrev entry_at : ℕ → Entry → Stamped
entry_at seconds entry = record { stamp = at seconds; entry = entry }

abbrev asked : Entry
asked = Took 1 (what.Frame (frame 0x00 (hex "0c 13 01 88 13 7f 01 02 11 05")))

abbrev activates : Entry
activates = Put 1 (frame 0x00 (hex "08 21 01 41"))

abbrev tells : Entry
tells = Put 0 (frame 0xfd (hex "01 00 00 01 02 02 42 0f 00"))

abbrev some : List Stamped
some = entry_at 1 (Head (hex "62 73")) ∷ entry_at 1 (Head (hex "63")) ∷ entry_at 2 asked ∷ entry_at 3 activates
    ∷ entry_at 4 tells ∷ entry_at 5 (Passed 100) ∷ entry_at 6 (Took 2 what.Down) ∷ entry_at 7 tells ∷ entry_at 8 Lost ∷ []

-- the time of a step is that of its first entry
abbrev steps : List StepDone
steps = record {
  stamp = at 2;
  step = Take (record { source = 1; what = what.Frame (frame 0x00 (hex "0c 13 01 88 13 7f 01 02 11 05")) });
  puts = record { link = 1; frame = frame 0x00 (hex "08 21 01 41") } ∷ record { link = 0; frame = frame 0xfd (hex "01 00 00 01 02 02 42 0f 00") } ∷ [];
}
    ∷ record { stamp = at 5; step = Tick 100; puts = [] }
    ∷ record {
      stamp = at 6;
      step = Take (record { source = 2; what = what.Down });
      puts = record { link = 0; frame = frame 0xfd (hex "01 00 00 01 02 02 42 0f 00") } ∷ [];
    } ∷ []

has_steps : steps_of some ≡ steps
has_steps = refl

hands_steps : handed first_reading some ≡ steps
hands_steps = refl

has_head : head_of some ≡ hex "62 73 63"
has_head = refl

-- what stands behind a step isn't of the head, and no frame at its beginning was put
no_head : head_of (entry_at 2 asked ∷ entry_at 3 (Head (hex "62")) ∷ []) ∷ head_of [] ∷ [] ≡ [] ∷ [] ∷ []
no_head = refl

no_puts : puts_at (entry_at 2 asked ∷ entry_at 3 activates ∷ []) ≡ []
no_puts = refl

-- ---- faults

-- three links: 0, 1 and 2
is_sound : fault_from 3 parts.Head some ≡ None
is_sound = refl

link_two : fault_from 2 parts.Head some ≡ Some (NoLink 2)
link_two = refl

links_taken : entry_fault 2 parts.Steps (Took 1 what.Down) ∷ entry_fault 1 parts.Steps (Took 1 what.Down) ∷ entry_fault 1 parts.Steps activates
    ∷ entry_fault 1 parts.Steps tells ∷ entry_fault 0 parts.Steps tells ∷ [] ≡ None ∷ Some (NoLink 1) ∷ Some (NoLink 1) ∷ None ∷ Some (NoLink 0) ∷ []
links_taken = refl

behind_head : entry_fault 3 parts.Head (Head (hex "62")) ∷ entry_fault 3 parts.Head asked ∷ entry_fault 3 parts.Head (Passed 0)
    ∷ entry_fault 3 parts.Head activates ∷ entry_fault 3 parts.Head Lost ∷ [] ≡ None ∷ None ∷ None ∷ Some PutBeforeStep ∷ None ∷ []
behind_head = refl

behind_step : entry_fault 3 parts.Steps (Head (hex "62")) ∷ entry_fault 3 parts.Steps asked ∷ entry_fault 3 parts.Steps (Passed 0)
    ∷ entry_fault 3 parts.Steps activates ∷ entry_fault 3 parts.Steps Lost ∷ [] ≡ Some HeadBehindStep ∷ None ∷ None ∷ None ∷ None ∷ []
behind_step = refl

behind_end : entry_fault 3 parts.End (Head (hex "62")) ∷ entry_fault 3 parts.End asked ∷ entry_fault 3 parts.End (Passed 0)
    ∷ entry_fault 3 parts.End activates ∷ entry_fault 3 parts.End Lost ∷ []
    ≡ Some BehindEnd ∷ Some BehindEnd ∷ Some BehindEnd ∷ Some BehindEnd ∷ Some BehindEnd ∷ []
behind_end = refl

-- what has no place is told before a link that isn't there
first_fault : entry_fault 1 parts.Head activates ≡ Some PutBeforeStep
first_fault = refl

before_fault : handed first_reading (sound_from 2 parts.Head some) ∷ steps_of (sound_from 2 parts.Head (entry_at 3 activates ∷ some)) ∷ []
    ≡ handed first_reading (entry_at 2 asked ∷ entry_at 3 activates ∷ entry_at 4 tells ∷ entry_at 5 (Passed 100) ∷ []) ∷ [] ∷ []
before_fault = refl

-- ---- what is written

written : entries_with (at 1) (hex "62 73" ∷ hex "63" ∷ []) steps
    ≡ entry_at 1 (Head (hex "62 73")) ∷ entry_at 1 (Head (hex "63")) ∷ entry_at 2 asked ∷ entry_at 2 activates ∷ entry_at 2 tells
    ∷ entry_at 5 (Passed 100) ∷ entry_at 6 (Took 2 what.Down) ∷ entry_at 6 tells ∷ []
written = refl

nothing_written : entries_of [] ≡ []
nothing_written = refl
