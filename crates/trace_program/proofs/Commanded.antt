-- SPDX-License-Identifier: MIT OR Apache-2.0
-- The output and the status of `trace`, from the contracts of its parts.
use Rattle.std.proofs.Common.{◌≡◌, ◌≢◌, ◌⊎◌, List, ℕ, Bool, true, false, is_some, length, Option, Some, None, Result, Ok, Err, refl, sym, ap, subst}
use Rattle.std.proofs.Common.{◌∙◌, inl, inr, if◌then◌else◌}
use Rattle.std.specs.Prelude.{IfErr, IfSome, IsErrAnd, IsOkAnd, ◌&&◌}
use Rattle.std.specs.Io.KnownBytes.{Appends}
use Rattle.world_model.specs.declared.event.Event.{Event}
use Rattle.world_model.specs.World.{Actors, modulus_in, new_actors}
use Rattle.settings.specs.declared.fault.SettingsFault.{SettingsFault}
use Rattle.settings.specs.Parameters.{Parameters}
use Rattle.program_base.specs.WholeScript.{IsBadScript, IsScript}
use Rattle.program_base.specs.SettingsText.{settings_or_fault}
use Rattle.program_base.specs.FaultStatus.{status_of_fault}
use Rattle.program_io.specs.declared.failure.Failure.{Failure}
use Rattle.program_io.specs.declared.failure.Failure.TheVariants.{BadEvent, Device, Memory}
use Rattle.program_base.specs.declared.fault.ProgramFault.{ProgramFault}
use Rattle.program_base.specs.declared.fault.ProgramFault.TheVariants.{BadBreak, Failed, Settings, UnreadSettings}
use Rattle.trace_program.specs.declared.run.Tally.{Tally}
use Rattle.trace_program.specs.Traced.{Fails, HasBadLine, Traces, no_tally, status_of_tally, tally_of, trace_text}

-- ---- what is printed

-- the trace of a script that was read was written
pub traced_by : (settings : Parameters) (tally : Tally) (m : ℕ) (w : Actors) (cells : ℕ) (start old new : Option (List ℕ))
    (events : List Event) (kept : List ℕ) → cells ≡ length settings.cells → IfSome start (λ octets. IsScript cells octets events)
    → IfSome start (λ octets. kept ≡ octets) → m ≡ modulus_in settings → w ≡ new_actors settings
    → Appends old new (trace_text m w 1 kept events) × (tally ≡ tally_of w 1 events no_tally) → Traces settings tally start old new
traced_by settings tally m w cells None old new events kept many script same numbers begin done = tt
traced_by settings tally m w cells (Some stream) old new events kept many script same numbers begin done =
    let text : trace_text m w 1 kept events ≡ trace_text (modulus_in settings) (new_actors settings) 1 stream events =
    ap (λ (n : ℕ). trace_text n w 1 kept events) numbers ∙ ap (λ (u : Actors). trace_text (modulus_in settings) u 1 kept events) begin
    ∙ ap (λ (xs : List ℕ). trace_text (modulus_in settings) (new_actors settings) 1 xs events) same in (
      events,
      subst (λ (n : ℕ). IsScript n stream events) many script,
      subst (Appends old new) text done.0,
      done.1 ∙ ap (λ (u : Actors). tally_of u 1 events no_tally) begin,
    )

pub traces_as : (found : Result Parameters ProgramFault) (settings : Parameters) (tally : Tally) (start old new : Option (List ℕ))
    → (let r : Result Parameters ProgramFault = Ok settings in r) ≡ found → Traces settings tally start old new
    → IsOkAnd found (λ parameters. Traces parameters tally start old new)
traces_as found settings tally start old new is traces = subst
    (λ (r : Result Parameters ProgramFault). IsOkAnd r (λ (parameters : Parameters). Traces parameters tally start old new)) is traces

pub traces_with : (found : Result Parameters ProgramFault) (strict : Bool) (status : ℕ) (tally : Tally) (start old new : Option (List ℕ))
    → status ≡ status_of_tally strict tally → IsOkAnd found (λ parameters. Traces parameters tally start old new)
    → IsOkAnd found (λ parameters. (tally : Tally) × (status ≡ status_of_tally strict tally) × Traces parameters tally start old new)
traces_with (Ok settings) strict status tally start old new is traces = (tally, is, traces)
traces_with (Err fault) strict status tally start old new is traces = traces

-- ---- the status where all was traced

four_or_none : (b : Bool) → (◌≡◌ {A = ℕ} (if b then 4 else 0) 0) ⊎ (◌≡◌ {A = ℕ} (if b then 4 else 0) 4)
four_or_none true = inr refl
four_or_none false = inl refl

pub tally_status : (strict : Bool) (tally : Tally) (status : ℕ) → status ≡ status_of_tally strict tally → (status ≡ 0) ⊎ (status ≡ 4)
tally_status strict tally status is = subst (λ (n : ℕ). (n ≡ 0) ⊎ (n ≡ 4)) (sym is) (four_or_none (strict && is_some tally.first))

pub not_one : (status : ℕ) → (status ≡ 0) ⊎ (status ≡ 4) → status ≡ 1 → ⊥
not_one status (inl none) one = absurd (cc (none, one))
not_one status (inr four) one = absurd (cc (four, one))

pub not_two : (status : ℕ) → (status ≡ 0) ⊎ (status ≡ 4) → status ≡ 2 → ⊥
not_two status (inl none) two = absurd (cc (none, two))
not_two status (inr four) two = absurd (cc (four, two))

pub not_kept : (status : ℕ) → (status ≡ 0) ⊎ (status ≡ 4) → (status ≡ 1) ⊎ (status ≡ 2) → ⊥
not_kept status some (inl one) = not_one status some one
not_kept status some (inr two) = not_two status some two

pub any_status : (status : ℕ) → (status ≡ 0) ⊎ (status ≡ 4) → (status ≡ 0) ⊎ (status ≡ 1) ⊎ (status ≡ 2) ⊎ (status ≡ 3) ⊎ (status ≡ 4)
any_status status (inl none) = inl none
any_status status (inr four) = inr (inr (inr (inr four)))

pub no_fault : (found : Result Parameters ProgramFault) (status : ℕ) (P : Parameters → Type 0) → IsOkAnd found P
    → IfErr found (λ fault. (status ≡ status_of_fault fault) ⊎ (status ≡ 3))
no_fault (Ok settings) status P is = tt
no_fault (Err fault) status P is = absurd is

-- ---- why it fails

memory_fails : (found : Result Parameters ProgramFault) (start : Option (List ℕ)) → Fails found start (Failed Memory)
memory_fails (Err first) start = inr refl
memory_fails (Ok settings) start = tt

-- settings that weren't read have this fault, unless memory ran out
unless_memory : (fault : ProgramFault) (found : Result Parameters ProgramFault)
    → ((let r : Result Parameters ProgramFault = Err fault in r) ≢ Err (Failed Memory) →
    (let r : Result Parameters ProgramFault = Err fault in r) ≡ found)
    → (fault ≡ Failed Memory) ⊎ (found ≡ Err fault)
unless_memory UnreadSettings found says = inr (sym (says (λ is. absurd (cc is))))
unless_memory (Settings first) found says = inr (sym (says (λ is. absurd (cc is))))
unless_memory BadBreak found says = inr (sym (says (λ is. absurd (cc is))))
unless_memory (Failed Memory) found says = inl refl
unless_memory (Failed Device) found says = inr (sym (says (λ is. absurd (cc is))))
unless_memory (Failed (BadEvent n)) found says = inr (sym (says (λ is. absurd (cc is))))

settings_fails : (found : Result Parameters ProgramFault) (start : Option (List ℕ)) (fault : ProgramFault)
    → (fault ≡ Failed Memory) ⊎ (found ≡ Err fault) → Fails found start fault
settings_fails found start fault (inl memory) = subst (Fails found start) (sym memory) (memory_fails found start)
settings_fails found start fault (inr is) = subst (λ (r : Result Parameters ProgramFault). Fails r start fault) (sym is) (inl refl)

pub unread_fails : (found : Result Parameters ProgramFault) (start : Option (List ℕ)) (was fault : ProgramFault)
    → ((let r : Result Parameters ProgramFault = Err was in r) ≢ Err (Failed Memory) →
    (let r : Result Parameters ProgramFault = Err was in r) ≡ found) → fault ≡ was → Fails found start fault
unread_fails found start was fault says same = subst (Fails found start) (sym same)
    (settings_fails found start was (unless_memory was found says))

script_fails : (settings : Parameters) (start : Option (List ℕ)) (failure : Failure)
    → ((n : ℕ) → failure ≡ BadEvent n → IfSome start (λ octets. IsBadScript (length settings.cells) octets n))
    → Fails (Ok settings) start (Failed failure)
script_fails settings start (BadEvent n) bad = bad n refl
script_fails settings start Memory bad = tt
script_fails settings start Device bad = tt

-- a bad line, or memory or a device
pub fails_by : (found : Result Parameters ProgramFault) (settings : Parameters) (start : Option (List ℕ)) (failure : Failure)
    (fault : ProgramFault) → (let r : Result Parameters ProgramFault = Ok settings in r) ≡ found → fault ≡ Failed failure
    → ((n : ℕ) → failure ≡ BadEvent n → IfSome start (λ octets. IsBadScript (length settings.cells) octets n)) → Fails found start fault
fails_by found settings start failure fault is same bad =
    subst (λ (r : Result Parameters ProgramFault). Fails r start fault) is
    (subst (Fails (Ok settings) start) (sym same) (script_fails settings start failure bad))

-- ---- the status of a fault

pub fault_status : (fault : ProgramFault) (status : ℕ) → status ≡ status_of_fault fault → (status ≡ 1) ⊎ (status ≡ 2) ⊎ (status ≡ 3)
fault_status UnreadSettings status is = inl is
fault_status (Settings first) status is = inl is
fault_status BadBreak status is = inr (inl is)
fault_status (Failed (BadEvent n)) status is = inr (inl is)
fault_status (Failed Memory) status is = inr (inr is)
fault_status (Failed Device) status is = inr (inr is)

pub among_five : (status : ℕ) → (status ≡ 1) ⊎ (status ≡ 2) ⊎ (status ≡ 3)
    → (status ≡ 0) ⊎ (status ≡ 1) ⊎ (status ≡ 2) ⊎ (status ≡ 3) ⊎ (status ≡ 4)
among_five status (inl one) = inr (inl one)
among_five status (inr (inl two)) = inr (inr (inl two))
among_five status (inr (inr three)) = inr (inr (inr (inl three)))

pub not_traced : (status : ℕ) → (status ≡ 1) ⊎ (status ≡ 2) ⊎ (status ≡ 3) → (status ≡ 0) ⊎ (status ≡ 4) → ⊥
not_traced status (inl one) (inl none) = absurd (cc (one, none))
not_traced status (inl one) (inr four) = absurd (cc (one, four))
not_traced status (inr (inl two)) (inl none) = absurd (cc (two, none))
not_traced status (inr (inl two)) (inr four) = absurd (cc (two, four))
not_traced status (inr (inr three)) (inl none) = absurd (cc (three, none))
not_traced status (inr (inr three)) (inr four) = absurd (cc (three, four))

pub settings_fault : (found : Result Parameters ProgramFault) (start : Option (List ℕ)) (fault : ProgramFault) (status : ℕ)
    → status ≡ status_of_fault fault → Fails found start fault
    → IfErr found (λ first. (status ≡ status_of_fault first) ⊎ (status ≡ 3))
settings_fault (Ok settings) start fault status is fails = tt
settings_fault (Err first) start fault status is (inl same) = inl (is ∙ ap status_of_fault same)
settings_fault (Err first) start fault status is (inr memory) = inr (is ∙ ap status_of_fault memory)

pub one_status : (found : Result Parameters ProgramFault) (start : Option (List ℕ)) (fault : ProgramFault) → Fails found start fault
    → status_of_fault fault ≡ 1 → IsErrAnd found (λ first. status_of_fault first ≡ 1)
one_status (Err first) start fault (inl same) one = ap status_of_fault (sym same) ∙ one
one_status (Err first) start fault (inr memory) one = absurd (cc (ap status_of_fault memory, one))
one_status (Ok settings) start (Failed (BadEvent n)) fails one = absurd (cc one)
one_status (Ok settings) start (Failed Memory) fails one = absurd (cc one)
one_status (Ok settings) start (Failed Device) fails one = absurd (cc one)
one_status (Ok settings) start UnreadSettings fails one = absurd fails
one_status (Ok settings) start (Settings first) fails one = absurd fails
one_status (Ok settings) start BadBreak fails one = absurd fails

bad_line : (settings : Parameters) (start : Option (List ℕ)) (n : ℕ) → IfSome start (λ octets. IsBadScript (length settings.cells) octets n)
    → HasBadLine (length settings.cells) start
bad_line settings None n bad = tt
bad_line settings (Some octets) n bad = (n, bad)

pub two_status : (read : Result Parameters SettingsFault) (start : Option (List ℕ)) (fault : ProgramFault)
    → Fails (settings_or_fault read) start fault → status_of_fault fault ≡ 2
    → IsOkAnd (settings_or_fault read) (λ parameters. HasBadLine (length parameters.cells) start)
two_status (Err first) start fault (inl same) two = absurd (cc (ap status_of_fault same, two))
two_status (Err first) start fault (inr memory) two = absurd (cc (ap status_of_fault memory, two))
two_status (Ok settings) start (Failed (BadEvent n)) fails two = bad_line settings start n fails
two_status (Ok settings) start (Failed Memory) fails two = absurd (cc two)
two_status (Ok settings) start (Failed Device) fails two = absurd (cc two)
two_status (Ok settings) start UnreadSettings fails two = absurd fails
two_status (Ok settings) start (Settings first) fails two = absurd fails
two_status (Ok settings) start BadBreak fails two = absurd fails
