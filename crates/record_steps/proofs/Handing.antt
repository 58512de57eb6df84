-- SPDX-License-Identifier: MIT OR Apache-2.0
-- Lemmas: the reader hands out just the steps of entries without a fault.
use Rattle.std.proofs.Common.{◌≡◌, ℕ, List, [], ◌∷◌, ◌++◌, Option, Some, None, refl, sym, ap, ◌∙◌}
use Rattle.std.specs.Prelude.{option_to_list}
use Rattle.std.proofs.lemmas.List.{append-nil, append_assoc}
use Rattle.record_steps.specs.declared.recorded_step.PutFrame.{PutFrame}
use Rattle.record_steps.specs.declared.step_fault.StepFault.{StepFault}
use Rattle.record_steps.specs.declared.step_reader.Part.{Part}
use Rattle.record_steps.specs.declared.step_reader.Part.TheVariants as parts
use Rattle.record_steps.specs.Reading.{Reading, entry_fault, fault_from, first_of, first_reading, handed, link_fault, order_fault, part_behind, sound_from, taken_by, unless, with_put}
use Rattle.record_steps.specs.Steps.{StepDone, put_before, puts_at, step_before, steps_of}
use Rattle.run_record.specs.declared.entry.Entry.{Entry}
use Rattle.run_record.specs.declared.entry.Entry.TheVariants.{Head, Took, Passed, Put, Lost}
use Rattle.run_record.specs.declared.entry.Stamp.{Stamp}
use Rattle.run_record.specs.declared.entry.Stamped.{Stamped}

-- ---- faults

pub both_none : (a b : Option StepFault) → first_of a b ≡ None → (a ≡ None) × (b ≡ None)
both_none None b is = (refl, is)
both_none (Some fault) b is = absurd (cc)

-- nothing stands behind the end
nothing_behind : (links : ℕ) (entries : List Stamped) → fault_from links parts.End entries ≡ None → entries ≡ []
nothing_behind links [] none = refl
nothing_behind links (this ∷ entries) none = absurd (cc)

-- directly behind the head no frame was put
no_put_behind_head : (entry : Entry) (puts : List PutFrame) → order_fault parts.Head entry ≡ None → put_before entry puts ≡ []
no_put_behind_head (Put link frame) puts none = absurd (cc)
no_put_behind_head entry puts none = refl

no_puts_behind_head : (links : ℕ) (entries : List Stamped) → fault_from links parts.Head entries ≡ None → puts_at entries ≡ []
no_puts_behind_head links [] none = refl
no_puts_behind_head links (this ∷ entries) none =
    let this_none : entry_fault links parts.Head this.entry ≡ None =
    (both_none (entry_fault links parts.Head this.entry) (fault_from links (part_behind this.entry) entries) none).0 in
    let in_order : order_fault parts.Head this.entry ≡ None =
    (both_none (order_fault parts.Head this.entry) (link_fault links this.entry) this_none).0 in
    no_put_behind_head this.entry (puts_at entries) in_order

-- ---- a step whose frames may still follow

abbrev pending : Option StepDone → List PutFrame → List StepDone
pending None puts = []
pending (Some s) puts = record s { puts = s.puts ++ puts } ∷ []

pending-none : (step : Option StepDone) → option_to_list step ≡ pending step []
pending-none None = refl
pending-none (Some s) = ap (λ (puts : List PutFrame). record s { puts = puts } ∷ []) (sym (append-nil s.puts))

pending-put : (step : Option StepDone) (put : PutFrame) (puts : List PutFrame) →
    pending (with_put put step) puts ≡ pending step (put ∷ puts)
pending-put None put puts = refl
pending-put (Some s) put puts =
    ap (λ (all : List PutFrame). record s { puts = all } ∷ []) (append_assoc s.puts (put ∷ []) puts)

-- ---- all steps

abbrev Hands : List Stamped → Reading → Type 0
Hands entries r = handed r entries ≡ pending r.step (puts_at entries) ++ steps_of entries

hands_by : (links : ℕ) (stamp : Stamp) (entry : Entry) (entries : List Stamped) (step : Option StepDone)
    → fault_from links (part_behind entry) entries ≡ None
    → ((r : Reading) → fault_from links r.part entries ≡ None → Hands entries r)
    → option_to_list (taken_by stamp entry step).done ++ handed (taken_by stamp entry step).next entries
    ≡ pending step (put_before entry (puts_at entries)) ++ step_before stamp entry (puts_at entries) (steps_of entries)
hands_by links stamp (Head octets) entries step none others =
    others (record { part = parts.Head; step = step }) none
    ∙ ap (λ (puts : List PutFrame). pending step puts ++ steps_of entries) (no_puts_behind_head links entries none)
hands_by links stamp (Took link what) entries step none others =
    let next : Reading = (taken_by stamp (Took link what) step).next in
    ap (λ (rest : List StepDone). option_to_list step ++ rest) (others next none)
    ∙ ap (λ (front : List StepDone). front ++ step_before stamp (Took link what) (puts_at entries) (steps_of entries)) (pending-none step)
hands_by links stamp (Passed ms) entries step none others =
    let next : Reading = (taken_by stamp (Passed ms) step).next in
    ap (λ (rest : List StepDone). option_to_list step ++ rest) (others next none)
    ∙ ap (λ (front : List StepDone). front ++ step_before stamp (Passed ms) (puts_at entries) (steps_of entries)) (pending-none step)
hands_by links stamp (Put link frame) entries step none others =
    let next : Reading = (taken_by stamp (Put link frame) step).next in
    others next none
    ∙ ap (λ (front : List StepDone). front ++ steps_of entries)
    (pending-put step (record { link = link; frame = frame }) (puts_at entries))
hands_by links stamp Lost entries step none others =
    others (record { part = parts.End; step = step }) none
    ∙ ap (λ (puts : List PutFrame). pending step puts ++ steps_of entries) (ap puts_at (nothing_behind links entries none))

hands : (links : ℕ) (entries : List Stamped) (r : Reading) → fault_from links r.part entries ≡ None → Hands entries r
hands links [] r none = pending-none r.step ∙ sym (append-nil (pending r.step []))
hands links (this ∷ entries) r none =
    hands_by links this.stamp this.entry entries r.step
    (both_none (entry_fault links r.part this.entry) (fault_from links (part_behind this.entry) entries) none).1
    (λ (next : Reading) (sound : fault_from links next.part entries ≡ None). hands links entries next sound)

pub handed_steps : (links : ℕ) (entries : List Stamped) →
    fault_from links parts.Head entries ≡ None →
    handed first_reading entries ≡ steps_of entries
handed_steps links entries none = hands links entries first_reading none

-- ---- the entries before the first fault

sound_unless : (links : ℕ) (part : Part) (this : Stamped) (entries : List Stamped) (fault : Option StepFault)
    → entry_fault links part this.entry ≡ fault → fault_from links (part_behind this.entry) entries ≡ None
    → fault_from links part (unless fault (this ∷ entries) []) ≡ None
sound_unless links part this entries None is none =
    ap (λ (fault : Option StepFault). first_of fault (fault_from links (part_behind this.entry) entries)) is ∙ none
sound_unless links part this entries (Some fault) is none = refl

pub sound_is_sound : (links : ℕ) (entries : List Stamped) (part : Part) → fault_from links part (sound_from links part entries) ≡ None
sound_is_sound links [] part = refl
sound_is_sound links (this ∷ entries) part =
    sound_unless links part this (sound_from links (part_behind this.entry) entries) (entry_fault links part this.entry) refl
    (sound_is_sound links entries (part_behind this.entry))
