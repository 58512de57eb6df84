-- SPDX-License-Identifier: MIT OR Apache-2.0
-- Lemmas: the entries of a run are read as its steps, and a beginning of them as its first steps.
use Rattle.std.proofs.Common.{◌≡◌, ◌⊎◌, ◌<◌, ℕ, Bool, true, false, List, [], ◌∷◌, ◌++◌, Option, Some, None, map, drop, refl, sym, ap, subst, ◌∙◌, inl, inr}
use Rattle.std.specs.Prelude.{nat_lt, if◌then◌else◌}
use Rattle.std.specs.List.{AllByRecursion}
use Rattle.std.proofs.lemmas.Bool.{lt-ltb}
use Rattle.std.proofs.lemmas.List.{append-nil}
use Rattle.controller_model.specs.declared.step.Step.{Step}
use Rattle.controller_model.specs.declared.step.Step.TheVariants.{Take, Tick}
use Rattle.record_steps.specs.declared.recorded_step.PutFrame.{PutFrame}
use Rattle.record_steps.specs.declared.step_fault.StepFault.{StepFault}
use Rattle.record_steps.specs.declared.step_fault.StepFault.TheVariants.{NoLink}
use Rattle.record_steps.specs.declared.step_reader.Part.{Part}
use Rattle.record_steps.specs.declared.step_reader.Part.TheVariants as parts
use Rattle.record_steps.specs.Reading.{entry_fault, fault_from, first_of, link_fault, number_fault, order_fault, part_behind}
use Rattle.record_steps.specs.Runs.{AreFirst, AreOfLinks, IsCut, IsOfLink, ReadsSteps, entries_of, entries_with, put_entry, stamped, step_entry}
use Rattle.record_steps.specs.Steps.{StepDone, put_before, puts_at, step_before, steps_of}
use Rattle.record_steps.proofs.Handing.{both_none, handed_steps}
use Rattle.run_record.specs.declared.entry.Entry.TheVariants.{Head}
use Rattle.run_record.specs.declared.entry.Stamp.{Stamp}
use Rattle.run_record.specs.declared.entry.Stamped.{Stamped}
use Rattle.run_record.specs.declared.next.Next.TheVariants.{Cut, End}
use Rattle.run_record.specs.Reads.{Begins, IsReadSoFar, Reads, beginning, ended, file_of}

-- ---- lists

abbrev first_or : Stamped → List Stamped → Stamped
first_or other [] = other
first_or other (this ∷ entries) = this

heads_same : (x y : Stamped) (xs ys : List Stamped) → x ∷ xs ≡ y ∷ ys → x ≡ y
heads_same x y xs ys same = ap (first_or x) same

tails_same : (x y : Stamped) (xs ys : List Stamped) → x ∷ xs ≡ y ∷ ys → xs ≡ ys
tails_same x y xs ys same = ap (drop 1) same

head_entry : Stamp → List ℕ → Stamped
head_entry stamp piece = stamped stamp (Head piece)

-- ---- what is written is read

no_put_of_step : (step : Step) (puts : List PutFrame) → put_before (step_entry step) puts ≡ []
no_put_of_step (Take item) puts = refl
no_put_of_step (Tick ms) puts = refl

one_step : (stamp : Stamp) (step : Step) (puts : List PutFrame) (steps : List StepDone)
    → step_before stamp (step_entry step) puts steps ≡ record { stamp = stamp; step = step; puts = puts } ∷ steps
one_step stamp (Take item) puts steps = refl
one_step stamp (Tick ms) puts steps = refl

puts_at-map : (stamp : Stamp) (puts : List PutFrame) (entries : List Stamped)
    → puts_at (map (put_entry stamp) puts ++ entries) ≡ puts ++ puts_at entries
puts_at-map stamp [] entries = refl
puts_at-map stamp (put ∷ puts) entries = ap (λ (rest : List PutFrame). put ∷ rest) (puts_at-map stamp puts entries)

steps_of-map : (stamp : Stamp) (puts : List PutFrame) (entries : List Stamped)
    → steps_of (map (put_entry stamp) puts ++ entries) ≡ steps_of entries
steps_of-map stamp [] entries = refl
steps_of-map stamp (put ∷ puts) entries = steps_of-map stamp puts entries

puts_at-steps : (steps : List StepDone) → puts_at (entries_of steps) ≡ []
puts_at-steps [] = refl
puts_at-steps (s ∷ steps) = no_put_of_step s.step (puts_at (map (put_entry s.stamp) s.puts ++ entries_of steps))

steps_of-steps : (steps : List StepDone) → steps_of (entries_of steps) ≡ steps
steps_of-steps [] = refl
steps_of-steps (s ∷ steps) =
    let behind : List Stamped = map (put_entry s.stamp) s.puts ++ entries_of steps in
    let puts : puts_at behind ≡ s.puts =
    puts_at-map s.stamp s.puts (entries_of steps) ∙ ap (λ (rest : List PutFrame). s.puts ++ rest) (puts_at-steps steps) ∙ append-nil s.puts in
    let others : steps_of behind ≡ steps = steps_of-map s.stamp s.puts (entries_of steps) ∙ steps_of-steps steps in
    ap (λ (some : List PutFrame). step_before s.stamp (step_entry s.step) some (steps_of behind)) puts
    ∙ ap (λ (rest : List StepDone). step_before s.stamp (step_entry s.step) s.puts rest) others
    ∙ one_step s.stamp s.step s.puts steps

steps_of-head : (stamp : Stamp) (pieces : List (List ℕ)) (entries : List Stamped)
    → steps_of (map (λ piece. stamped stamp (Head piece)) pieces ++ entries) ≡ steps_of entries
steps_of-head stamp [] entries = refl
steps_of-head stamp (piece ∷ pieces) entries = steps_of-head stamp pieces entries

-- ---- without a fault

within : (links link : ℕ) (b : Bool) → b ≡ true → (if b then None else Some (NoLink link)) ≡ None
within links link true is = refl
within links link false is = absurd (cc)

number_within : (links link : ℕ) → link < links → number_fault links link ≡ None
number_within links link lt = within links link (nat_lt link links) (lt-ltb link links lt)

step_within : (links : ℕ) (step : Step) → IsOfLink links step → link_fault links (step_entry step) ≡ None
step_within links (Take item) of = number_within links item.source of
step_within links (Tick ms) of = refl

step_in_order : (step : Step) → order_fault parts.Steps (step_entry step) ≡ None
step_in_order (Take item) = refl
step_in_order (Tick ms) = refl

step_behind_head : (step : Step) → order_fault parts.Head (step_entry step) ≡ None
step_behind_head (Take item) = refl
step_behind_head (Tick ms) = refl

step_is_steps : (step : Step) → part_behind (step_entry step) ≡ parts.Steps
step_is_steps (Take item) = refl
step_is_steps (Tick ms) = refl

-- an entry without a fault, and others behind it
none_with : (a b c : Option StepFault) → a ≡ None → b ≡ None → c ≡ None → first_of (first_of a b) c ≡ None
none_with None None c first second third = third
none_with None (Some fault) c first second third = absurd (cc)
none_with (Some fault) b c first second third = absurd (cc)

sound_puts : (links : ℕ) (stamp : Stamp) (puts : List PutFrame) (entries : List Stamped)
    → AllByRecursion (λ (put : PutFrame). put.link < links) puts → fault_from links parts.Steps entries ≡ None
    → fault_from links parts.Steps (map (put_entry stamp) puts ++ entries) ≡ None
sound_puts links stamp [] entries of none = none
sound_puts links stamp (put ∷ puts) entries of none =
    none_with None (number_fault links put.link) (fault_from links parts.Steps (map (put_entry stamp) puts ++ entries))
    refl (number_within links put.link of.0) (sound_puts links stamp puts entries of.1 none)

sound_steps : (links : ℕ) (steps : List StepDone) → AreOfLinks links steps → fault_from links parts.Steps (entries_of steps) ≡ None
sound_steps links [] of = refl
sound_steps links (s ∷ steps) of =
    let behind : List Stamped = map (put_entry s.stamp) s.puts ++ entries_of steps in
    let rest : fault_from links parts.Steps behind ≡ None =
    sound_puts links s.stamp s.puts (entries_of steps) of.0.puts (sound_steps links steps of.1) in
    none_with (order_fault parts.Steps (step_entry s.step)) (link_fault links (step_entry s.step))
    (fault_from links (part_behind (step_entry s.step)) behind)
    (step_in_order s.step) (step_within links s.step of.0.takes)
    (ap (λ (part : Part). fault_from links part behind) (step_is_steps s.step) ∙ rest)

sound_run : (links : ℕ) (steps : List StepDone) → AreOfLinks links steps → fault_from links parts.Head (entries_of steps) ≡ None
sound_run links [] of = refl
sound_run links (s ∷ steps) of =
    let behind : List Stamped = map (put_entry s.stamp) s.puts ++ entries_of steps in
    let rest : fault_from links parts.Steps behind ≡ None =
    sound_puts links s.stamp s.puts (entries_of steps) of.0.puts (sound_steps links steps of.1) in
    none_with (order_fault parts.Head (step_entry s.step)) (link_fault links (step_entry s.step))
    (fault_from links (part_behind (step_entry s.step)) behind)
    (step_behind_head s.step) (step_within links s.step of.0.takes)
    (ap (λ (part : Part). fault_from links part behind) (step_is_steps s.step) ∙ rest)

sound_with : (links : ℕ) (stamp : Stamp) (pieces : List (List ℕ)) (entries : List Stamped)
    → fault_from links parts.Head entries ≡ None
    → fault_from links parts.Head (map (λ piece. stamped stamp (Head piece)) pieces ++ entries) ≡ None
sound_with links stamp [] entries none = none
sound_with links stamp (piece ∷ pieces) entries none = sound_with links stamp pieces entries none

pub written_is_read : (links : ℕ) (stamp : Stamp) (pieces : List (List ℕ)) (steps : List StepDone) → AreOfLinks links steps
    → Reads (file_of (entries_with stamp pieces steps)) (entries_with stamp pieces steps) End
    → ReadsSteps links (file_of (entries_with stamp pieces steps)) End steps
written_is_read links stamp pieces steps of reads =
    let entries : List Stamped = entries_with stamp pieces steps in
    let sound : fault_from links parts.Head entries ≡ None = sound_with links stamp pieces (entries_of steps) (sound_run links steps of) in
    let are : steps_of entries ≡ steps = steps_of-head stamp pieces (entries_of steps) ∙ steps_of-steps steps in
    record { entries = entries; reads = reads; sound = sound; are = are; handed_out = handed_steps links entries sound ∙ are }

-- ---- a beginning

sound_front : (links : ℕ) (front rest : List Stamped) (part : Part) →
    fault_from links part (front ++ rest) ≡ None →
    fault_from links part front ≡ None
sound_front links [] rest part none = refl
sound_front links (this ∷ front) rest part none =
    let both : (entry_fault links part this.entry ≡ None) × (fault_from links (part_behind this.entry) (front ++ rest) ≡ None) =
    both_none (entry_fault links part this.entry) (fault_from links (part_behind this.entry) (front ++ rest)) none in
    ap (λ (fault : Option StepFault). first_of fault (fault_from links (part_behind this.entry) front)) both.0
    ∙ sound_front links front rest (part_behind this.entry) both.1

-- of the frames of a step the first are there, and nothing behind; or all, and some of what is behind
abbrev Ends : List PutFrame → List Stamped → List Stamped → List StepDone → Type 0
Ends puts front missing steps =
    ((left : List PutFrame) × (puts ≡ puts_at front ++ left) × (steps_of front ≡ []))
    ⊎ ((others : List Stamped) × (puts_at front ≡ puts) × (others ++ missing ≡ entries_of steps) × (steps_of front ≡ steps_of others))

no_puts_in_front : (front missing : List Stamped) (steps : List StepDone) → front ++ missing ≡ entries_of steps → puts_at front ≡ []
no_puts_in_front [] missing steps same = refl
no_puts_in_front (this ∷ front) missing [] same = absurd (cc)
no_puts_in_front (this ∷ front) missing (s ∷ steps) same =
    let behind : List Stamped = map (put_entry s.stamp) s.puts ++ entries_of steps in
    let is : this ≡ stamped s.stamp (step_entry s.step) =
    heads_same this (stamped s.stamp (step_entry s.step)) (front ++ missing) behind same in
    subst (λ (e : Stamped). put_before e.entry (puts_at front) ≡ []) (sym is) (no_put_of_step s.step (puts_at front))

ends_behind : (stamp : Stamp) (put : PutFrame) (puts : List PutFrame) (front missing : List Stamped) (steps : List StepDone)
    → Ends puts front missing steps → Ends (put ∷ puts) (put_entry stamp put ∷ front) missing steps
ends_behind stamp put puts front missing steps (inl some) =
    inl (some.0, ap (λ (rest : List PutFrame). put ∷ rest) some.1, some.2)
ends_behind stamp put puts front missing steps (inr all) =
    inr (all.0, ap (λ (rest : List PutFrame). put ∷ rest) all.1, all.2, all.3)

ends : (stamp : Stamp) (puts : List PutFrame) (front missing : List Stamped) (steps : List StepDone)
    → front ++ missing ≡ map (put_entry stamp) puts ++ entries_of steps → Ends puts front missing steps
ends stamp [] front missing steps same = inr (front, no_puts_in_front front missing steps same, same, refl)
ends stamp (put ∷ puts) [] missing steps same = inl (put ∷ puts, refl, refl)
ends stamp (put ∷ puts) (this ∷ front) missing steps same =
    let behind : List Stamped = map (put_entry stamp) puts ++ entries_of steps in
    let is : this ≡ put_entry stamp put = heads_same this (put_entry stamp put) (front ++ missing) behind same in
    let rest : front ++ missing ≡ behind = tails_same this (put_entry stamp put) (front ++ missing) behind same in
    subst (λ (e : Stamped). Ends (put ∷ puts) (e ∷ front) missing steps) (sym is)
    (ends_behind stamp put puts front missing steps (ends stamp puts front missing steps rest))

-- the step at the beginning of a front, with what is there of its frames, and the others behind it
first_step : (s : StepDone) (front missing : List Stamped) (steps : List StepDone)
    → ((others : List Stamped) → others ++ missing ≡ entries_of steps → AreFirst (steps_of others) steps)
    → Ends s.puts front missing steps
    → AreFirst (step_before s.stamp (step_entry s.step) (puts_at front) (steps_of front)) (s ∷ steps)
first_step s front missing steps behind (inl some) =
    let one : step_before s.stamp (step_entry s.step) (puts_at front) (steps_of front)
    ≡ record { stamp = s.stamp; step = s.step; puts = puts_at front } ∷ [] =
    ap (λ (rest : List StepDone). step_before s.stamp (step_entry s.step) (puts_at front) rest) some.2
    ∙ one_step s.stamp s.step (puts_at front) [] in
    subst (λ (read : List StepDone). AreFirst read (s ∷ steps)) (sym one)
    (inr (refl, record { stamp = refl; step = refl; missing = some.0; puts = some.1 }))
first_step s front missing steps behind (inr all) =
    let one : step_before s.stamp (step_entry s.step) (puts_at front) (steps_of front) ≡ s ∷ steps_of all.0 =
    ap (λ (rest : List StepDone). step_before s.stamp (step_entry s.step) (puts_at front) rest) all.3
    ∙ ap (λ (puts : List PutFrame). step_before s.stamp (step_entry s.step) puts (steps_of all.0)) all.1
    ∙ one_step s.stamp s.step s.puts (steps_of all.0) in
    subst (λ (read : List StepDone). AreFirst read (s ∷ steps)) (sym one) (inl (refl, behind all.0 all.2))

first_steps : (steps : List StepDone) (front missing : List Stamped) → front ++ missing ≡ entries_of steps → AreFirst (steps_of front) steps
first_steps steps [] missing same = tt
first_steps [] (this ∷ front) missing same = absurd (cc)
first_steps (s ∷ steps) (this ∷ front) missing same =
    let first : Stamped = stamped s.stamp (step_entry s.step) in
    let behind : List Stamped = map (put_entry s.stamp) s.puts ++ entries_of steps in
    let is : this ≡ first = heads_same this first (front ++ missing) behind same in
    let rest : front ++ missing ≡ behind = tails_same this first (front ++ missing) behind same in
    subst (λ (e : Stamped). AreFirst (steps_of (e ∷ front)) (s ∷ steps)) (sym is)
    (first_step s front missing steps
    (λ (others : List Stamped) (are : others ++ missing ≡ entries_of steps). first_steps steps others missing are)
    (ends s.stamp s.puts front missing steps rest))

first_steps_with : (stamp : Stamp) (pieces : List (List ℕ)) (steps : List StepDone) (front missing : List Stamped)
    → front ++ missing ≡ map (λ piece. stamped stamp (Head piece)) pieces ++ entries_of steps → AreFirst (steps_of front) steps
first_steps_with stamp [] steps front missing same = first_steps steps front missing same
first_steps_with stamp (piece ∷ pieces) steps [] missing same = tt
first_steps_with stamp (piece ∷ pieces) steps (this ∷ front) missing same =
    let first : Stamped = stamped stamp (Head piece) in
    let behind : List Stamped = map (λ one. stamped stamp (Head one)) pieces ++ entries_of steps in
    let is : this ≡ first = heads_same this first (front ++ missing) behind same in
    let rest : front ++ missing ≡ behind = tails_same this first (front ++ missing) behind same in
    subst (λ (e : Stamped). AreFirst (steps_of (e ∷ front)) steps) (sym is) (first_steps_with stamp pieces steps front missing rest)

ended_how : (part : List ℕ) → (ended part ≡ End) ⊎ (ended part ≡ Cut)
ended_how [] = inl refl
ended_how (octet ∷ part) = inr refl

pub cut_is_first : (links : ℕ) (stamp : Stamp) (pieces : List (List ℕ)) (steps : List StepDone) (octets : List ℕ)
    → AreOfLinks links steps → Begins octets (entries_with stamp pieces steps) → IsCut links octets steps
cut_is_first links stamp pieces steps octets of (inl short) = inl short.1
cut_is_first links stamp pieces steps octets of (inr read) =
    let so_far : IsReadSoFar beginning (drop 24 octets) (entries_with stamp pieces steps) = read.1 in
    let all : fault_from links parts.Head (entries_with stamp pieces steps) ≡ None =
    sound_with links stamp pieces (entries_of steps) (sound_run links steps of) in
    let sound : fault_from links parts.Head so_far.whole ≡ None =
    sound_front links so_far.whole so_far.missing parts.Head
    (subst (λ (entries : List Stamped). fault_from links parts.Head entries ≡ None) so_far.entries_are all) in
    inr (record {
      how = ended so_far.part;
      ends = ended_how so_far.part;
      steps = steps_of so_far.whole;
      reads = record {
        entries = so_far.whole;
        reads = record { opens = read.0; reads = so_far.reads };
        sound = sound;
        are = refl;
        handed_out = handed_steps links so_far.whole sound;
      };
      first = first_steps_with stamp pieces steps so_far.whole so_far.missing (sym so_far.entries_are);
    })
