-- SPDX-License-Identifier: MIT OR Apache-2.0
-- The output and the faults of a replay, from the contracts of its parts.
use Rattle.std.proofs.Common.{◌≡◌, ◌≢◌, ◌⊎◌, List, ℕ, length, Option, Some, None, Result, Ok, Err, refl, sym, ap, subst, ◌∙◌, inl, inr}
use Rattle.std.specs.Prelude.{IfErr, IfOk, IfSome, IsErrAnd, IsOkAnd, MatchResult, OnOk}
use Rattle.std.specs.Io.KnownBytes.{Appends}
use Rattle.world_model.specs.declared.event.Event.{Event}
use Rattle.world.specs.World.{after_all, controlled_world}
use Rattle.world.specs.WorldState.{WorldState}
use Rattle.toml.specs.Parse.{parse_document}
use Rattle.settings.specs.declared.fault.SettingsFault.{SettingsFault}
use Rattle.settings.specs.Parameters.{Parameters}
use Rattle.settings.specs.Tables.{settings_in}
use Rattle.program_base.specs.Words.{source_in}
use Rattle.bsc_program.specs.Asked.{Asked, asked, asked_of_source, asked_with, breaking, cells_of, controlled, fixed}
use Rattle.program_base.specs.SettingsText.{settings_of, settings_or_fault}
use Rattle.bsc_program.specs.BreakCounts.{first_excess}
use Rattle.bsc_program.specs.Breaks.{break_lines}
use Rattle.bsc_program.specs.Replayed.{Fails, HasBadLine, IsPrinted, Replays, excess_in, status_of_excess}
use Rattle.bsc_program.specs.Report.{IsReport}
use Rattle.program_base.specs.WholeScript.{IsBadScript, IsScript}
use Rattle.program_base.specs.FaultStatus.{status_of_fault}
use Rattle.program_io.specs.declared.failure.Failure.{Failure}
use Rattle.program_io.specs.declared.failure.Failure.TheVariants.{BadEvent, Device, Memory}
use Rattle.program_base.specs.declared.fault.ProgramFault.{ProgramFault}
use Rattle.program_base.specs.declared.fault.ProgramFault.TheVariants.{BadBreak, Failed, Settings, UnreadSettings}

-- a text that the script's events give was written
pub replays_by : (asked : Asked) (excess : Option ℕ) (start old new : Option (List ℕ)) (events : List Event) (text : List ℕ) → IfSome start (λ octets. IsScript (cells_of asked) octets events) → IsPrinted asked events text → Appends old new text
    → excess ≡ excess_in asked events → Replays asked excess start old new
replays_by asked excess None old new events text script is appends most = tt
replays_by asked excess (Some octets) old new events text script is appends most = (events, text, script, is, appends, most)

-- and so was the report of the world that they make
pub reports_by : (asked : Asked) (begin world : WorldState) (listed : List Event) (start old new : Option (List ℕ)) (events : List Event)
    → ((text : List ℕ) → IsReport (after_all begin events) text → IsPrinted asked events text) → IfSome start (λ octets. IsScript (cells_of asked) octets events) → world ≡ begin → listed ≡ events
    → (let none : Option ℕ = None in none) ≡ excess_in asked events
    → (text : List ℕ) × IsReport (after_all world listed) text × Appends old new text → Replays asked None start old new
reports_by asked begin world listed start old new events prints script same is none report =
    let made : after_all world listed ≡ after_all begin events = ap (λ (w : WorldState). after_all w listed) same ∙ ap (after_all begin) is in
    replays_by asked None start old new events report.0 script (prints report.0 (subst (λ (w : WorldState). IsReport w report.0) made report.1)) report.2 none

pub report_as : (made world : WorldState) (old new : Option (List ℕ)) →
    world ≡ made →
    (text : List ℕ) × IsReport world text × Appends old new text →
    (text : List ℕ) × IsReport made text × Appends old new text
report_as made world old new is report = (report.0, subst (λ (w : WorldState). IsReport w report.0) is report.1, report.2)

-- a script counts with the cells that there are
pub script_of : (start : Option (List ℕ)) (events : List Event) (counted cells : ℕ) →
    counted ≡ cells →
    IfSome start (λ octets. IsScript counted octets events) →
    IfSome start (λ octets. IsScript cells octets events)
script_of start events counted cells is script = subst (λ (n : ℕ). IfSome start (λ octets. IsScript n octets events)) is script

pub bad_script_of : (start : Option (List ℕ)) (n counted cells : ℕ) →
    counted ≡ cells →
    IfSome start (λ octets. IsBadScript counted octets n) →
    IfSome start (λ octets. IsBadScript cells octets n)
bad_script_of start n counted cells is bad = subst (λ (m : ℕ). IfSome start (λ octets. IsBadScript m octets n)) is bad

-- the lines of all breaks were written
breaks_of : (settings : Parameters) (source cells : ℕ) (listed : List Event) (excess : Option ℕ) (start old new : Option (List ℕ)) (events : List Event)
    → IfSome start (λ octets. IsScript cells octets events) → listed ≡ events
    → Appends old new (break_lines (controlled_world settings) listed source) → excess ≡ first_excess (controlled_world settings) listed source
    → cells ≡ length settings.cells → Replays (breaking settings source) excess start old new
breaks_of settings source cells listed excess start old new events script is appends most many =
    replays_by (breaking settings source) excess start old new events (break_lines (controlled_world settings) listed source)
    (script_of start events cells (length settings.cells) many script)
    (ap (λ (es : List Event). break_lines (controlled_world settings) es source) is) appends
    (most ∙ ap (λ (es : List Event). first_excess (controlled_world settings) es source) is)

breaks_found : (found : Result Parameters ProgramFault) (source cells : ℕ) (listed : List Event) (excess : Option ℕ) (start old new : Option (List ℕ))
    (events : List Event) → IfSome start (λ octets. IsScript cells octets events) → listed ≡ events
    → IfOk found (λ settings. Appends old new (break_lines (controlled_world settings) listed source))
    → IfOk found (λ settings. excess ≡ first_excess (controlled_world settings) listed source)
    → IfOk found (λ settings. cells ≡ length settings.cells → Replays (breaking settings source) excess start old new)
breaks_found (Err fault) source cells listed excess start old new events script is appends most = tt
breaks_found (Ok settings) source cells listed excess start old new events script is appends most =
    breaks_of settings source cells listed excess start old new events script is appends most

pub breaks_by : (text : List ℕ) (source cells : ℕ) (listed : List Event) (excess : Option ℕ) (start old new : Option (List ℕ)) (events : List Event)
    → IfSome start (λ octets. IsScript cells octets events) → listed ≡ events
    → IfOk (settings_of text) (λ settings. Appends old new (break_lines (controlled_world settings) listed source))
    → IfOk (settings_of text) (λ settings. excess ≡ first_excess (controlled_world settings) listed source)
    → IfOk (settings_of text) (λ settings. cells ≡ length settings.cells → Replays (breaking settings source) excess start old new)
breaks_by text source cells listed excess start old new events script is appends most =
    breaks_found (settings_of text) source cells listed excess start old new events script is appends most

-- what holds of a result that is good, and what is known of its value
pub ok_with : {X E P : Type 0} (result : Result X E) (Q R : X → Type 0) →
    ((x : X) → P → Q x → R x) →
    OnOk result P →
    IfOk result Q →
    IfOk result R
ok_with (Ok x) Q R both p q = both x p q
ok_with (Err error) Q R both p q = tt

-- ---- what the options ask for

pub asked_fixed : (text breaks : Option (List ℕ)) → text ≡ None → breaks ≡ None → asked text breaks ≡ Ok fixed
asked_fixed text breaks no_text no_breaks = ap (λ (o : Option (List ℕ)). asked o breaks) no_text ∙ ap (asked None) no_breaks

pub asked_controlled : (found : Result Parameters ProgramFault) (breaks : Option (List ℕ)) (settings : Parameters) →
    found ≡ Ok settings →
    breaks ≡ None →
    asked_with found breaks ≡ Ok (controlled settings)
asked_controlled found breaks settings is none = ap (asked_with found) none ∙ ap (λ (r : Result Parameters ProgramFault). asked_with r None) is

asked_word : (found : Result Parameters ProgramFault) (breaks : Option (List ℕ)) (settings : Parameters) (word : List ℕ) → found ≡ Ok settings → breaks ≡ Some word
    → asked_with found breaks ≡ asked_of_source settings (source_in (length settings.cells) word)
asked_word found breaks settings word is some = ap (asked_with found) some ∙ ap (λ (r : Result Parameters ProgramFault). asked_with r (Some word)) is

pub asked_breaking : (found : Result Parameters ProgramFault) (breaks : Option (List ℕ)) (settings : Parameters) (word : List ℕ) (cells source : ℕ) → found ≡ Ok settings → breaks ≡ Some word → cells ≡ length settings.cells
    → source_in cells word ≡ Some source → asked_with found breaks ≡ Ok (breaking settings source)
asked_breaking found breaks settings word cells source is some many reads =
    asked_word found breaks settings word is some ∙ ap (λ (n : ℕ). asked_of_source settings (source_in n word)) (sym many) ∙ ap (asked_of_source settings) reads

pub asked_nothing : (found : Result Parameters ProgramFault) (breaks : Option (List ℕ)) (settings : Parameters) (word : List ℕ) (cells : ℕ) → found ≡ Ok settings → breaks ≡ Some word → cells ≡ length settings.cells
    → source_in cells word ≡ None → asked_with found breaks ≡ Err BadBreak
asked_nothing found breaks settings word cells is some many reads =
    asked_word found breaks settings word is some ∙ ap (λ (n : ℕ). asked_of_source settings (source_in n word)) (sym many) ∙ ap (asked_of_source settings) reads

-- settings that weren't read have this fault, unless memory ran out
unless_memory : (fault : ProgramFault) (found : Result Parameters ProgramFault) → ((let r : Result Parameters ProgramFault = Err fault in r) ≢ Err (Failed Memory) → (let r : Result Parameters ProgramFault = Err fault in r) ≡ found)
    → (fault ≡ Failed Memory) ⊎ (found ≡ Err fault)
unless_memory UnreadSettings found says = inr (sym (says (λ is. absurd (cc is))))
unless_memory (Settings first) found says = inr (sym (says (λ is. absurd (cc is))))
unless_memory BadBreak found says = inr (sym (says (λ is. absurd (cc is))))
unless_memory (Failed Memory) found says = inl refl
unless_memory (Failed Device) found says = inr (sym (says (λ is. absurd (cc is))))
unless_memory (Failed (BadEvent n)) found says = inr (sym (says (λ is. absurd (cc is))))

-- ---- why it fails

pub memory_fails : (a : Result Asked ProgramFault) (start : Option (List ℕ)) → Fails a start (Failed Memory)
memory_fails (Err found) start = inr refl
memory_fails (Ok asked) start = tt

pub found_fails : (a : Result Asked ProgramFault) (start : Option (List ℕ)) (found fault : ProgramFault) →
    a ≡ Err found →
    fault ≡ found →
    Fails a start fault
found_fails a start found fault is same = subst (λ (r : Result Asked ProgramFault). Fails r start fault) (sym is) (inl same)

fails_as : (a : Result Asked ProgramFault) (asked : Asked) (start : Option (List ℕ)) (fault : ProgramFault) →
    a ≡ Ok asked →
    Fails (Ok asked) start fault →
    Fails a start fault
fails_as a asked start fault is fails = subst (λ (r : Result Asked ProgramFault). Fails r start fault) (sym is) fails

script_fails : (asked : Asked) (start : Option (List ℕ)) (failure : Failure) →
    ((n : ℕ) → failure ≡ BadEvent n → IfSome start (λ octets. IsBadScript (cells_of asked) octets n)) →
    Fails (Ok asked) start (Failed failure)
script_fails asked start (BadEvent n) bad = bad n refl
script_fails asked start Memory bad = tt
script_fails asked start Device bad = tt

-- a bad line, or memory or a device
pub fails_by : (a : Result Asked ProgramFault) (asked : Asked) (start : Option (List ℕ)) (failure : Failure) (fault : ProgramFault) → a ≡ Ok asked → fault ≡ Failed failure
    → ((n : ℕ) → failure ≡ BadEvent n → IfSome start (λ octets. IsBadScript (cells_of asked) octets n)) → Fails a start fault
fails_by a asked start failure fault is same bad = fails_as a asked start fault is (subst (Fails (Ok asked) start) (sym same) (script_fails asked start failure bad))

settings_fails : (found : Result Parameters ProgramFault) (breaks : Option (List ℕ)) (start : Option (List ℕ)) (fault : ProgramFault) →
    (fault ≡ Failed Memory) ⊎ (found ≡ Err fault) →
    Fails (asked_with found breaks) start fault
settings_fails found breaks start fault (inl memory) = subst (Fails (asked_with found breaks) start) (sym memory) (memory_fails (asked_with found breaks) start)
settings_fails found breaks start fault (inr is) = found_fails (asked_with found breaks) start fault fault (ap (λ (r : Result Parameters ProgramFault). asked_with r breaks) is) refl

-- the settings' fault
pub unread_fails : (found : Result Parameters ProgramFault) (breaks : Option (List ℕ)) (start : Option (List ℕ)) (was fault : ProgramFault)
    → ((let r : Result Parameters ProgramFault = Err was in r) ≢ Err (Failed Memory) → (let r : Result Parameters ProgramFault = Err was in r) ≡ found) → fault ≡ was → Fails (asked_with found breaks) start fault
unread_fails found breaks start was fault says same = subst (Fails (asked_with found breaks) start) (sym same) (settings_fails found breaks start was (unless_memory was found says))

-- ---- what is printed

pub prints_with : (a : Result Asked ProgramFault) (status : ℕ) (excess : Option ℕ) (start old new : Option (List ℕ)) → status ≡ status_of_excess excess
    → IsOkAnd a (λ asked. Replays asked excess start old new)
    → IsOkAnd a (λ asked. (excess : Option ℕ) × (status ≡ status_of_excess excess) × Replays asked excess start old new)
prints_with (Ok asked) status excess start old new is replays = (excess, is, replays)
prints_with (Err fault) status excess start old new is replays = replays

-- ---- the status where all was printed

pub excess_status : (excess : Option ℕ) (status : ℕ) → status ≡ status_of_excess excess → (status ≡ 0) ⊎ (status ≡ 4)
excess_status None status is = inl is
excess_status (Some place) status is = inr is

pub not_one : (status : ℕ) → (status ≡ 0) ⊎ (status ≡ 4) → status ≡ 1 → ⊥
not_one status (inl none) one = absurd (cc (none, one))
not_one status (inr four) one = absurd (cc (four, one))

pub not_two : (status : ℕ) → (status ≡ 0) ⊎ (status ≡ 4) → status ≡ 2 → ⊥
not_two status (inl none) two = absurd (cc (none, two))
not_two status (inr four) two = absurd (cc (four, two))

pub not_kept : (status : ℕ) → (status ≡ 0) ⊎ (status ≡ 4) → (status ≡ 1) ⊎ (status ≡ 2) → ⊥
not_kept status some (inl one) = not_one status some one
not_kept status some (inr two) = not_two status some two

pub any_status : (status : ℕ) → (status ≡ 0) ⊎ (status ≡ 4) → (status ≡ 0) ⊎ (status ≡ 1) ⊎ (status ≡ 2) ⊎ (status ≡ 3) ⊎ (status ≡ 4)
any_status status (inl none) = inl none
any_status status (inr four) = inr (inr (inr (inr four)))

pub no_fault : (a : Result Asked ProgramFault) (status : ℕ) (P : Asked → Type 0) → IsOkAnd a P
    → IfErr a (λ found. (status ≡ status_of_fault found) ⊎ (status ≡ 3))
no_fault (Ok asked) status P is = tt
no_fault (Err fault) status P is = absurd is

-- ---- the status of a fault

pub fault_status : (fault : ProgramFault) (status : ℕ) → status ≡ status_of_fault fault → (status ≡ 1) ⊎ (status ≡ 2) ⊎ (status ≡ 3)
fault_status UnreadSettings status is = inl is
fault_status (Settings first) status is = inl is
fault_status BadBreak status is = inr (inl is)
fault_status (Failed (BadEvent n)) status is = inr (inl is)
fault_status (Failed Memory) status is = inr (inr is)
fault_status (Failed Device) status is = inr (inr is)

pub among_five : (status : ℕ) → (status ≡ 1) ⊎ (status ≡ 2) ⊎ (status ≡ 3)
    → (status ≡ 0) ⊎ (status ≡ 1) ⊎ (status ≡ 2) ⊎ (status ≡ 3) ⊎ (status ≡ 4)
among_five status (inl one) = inr (inl one)
among_five status (inr (inl two)) = inr (inr (inl two))
among_five status (inr (inr three)) = inr (inr (inr (inl three)))

pub not_printed : (status : ℕ) → (status ≡ 1) ⊎ (status ≡ 2) ⊎ (status ≡ 3) → (status ≡ 0) ⊎ (status ≡ 4) → ⊥
not_printed status (inl one) (inl none) = absurd (cc (one, none))
not_printed status (inl one) (inr four) = absurd (cc (one, four))
not_printed status (inr (inl two)) (inl none) = absurd (cc (two, none))
not_printed status (inr (inl two)) (inr four) = absurd (cc (two, four))
not_printed status (inr (inr three)) (inl none) = absurd (cc (three, none))
not_printed status (inr (inr three)) (inr four) = absurd (cc (three, four))

-- options that ask for nothing, unless memory runs out
pub asked_status : (a : Result Asked ProgramFault) (start : Option (List ℕ)) (fault : ProgramFault) (status : ℕ) →
    status ≡ status_of_fault fault →
    Fails a start fault →
    IfErr a (λ found. (status ≡ status_of_fault found) ⊎ (status ≡ 3))
asked_status (Ok asked) start fault status is fails = tt
asked_status (Err found) start fault status is (inl same) = inl (is ∙ ap status_of_fault same)
asked_status (Err found) start fault status is (inr memory) = inr (is ∙ ap status_of_fault memory)

pub settings_status : (a : Result Asked ProgramFault) (start : Option (List ℕ)) (fault : ProgramFault) →
    Fails a start fault →
    status_of_fault fault ≡ 1 →
    IsErrAnd a (λ found. status_of_fault found ≡ 1)
settings_status (Err found) start fault (inl same) one = ap status_of_fault (sym same) ∙ one
settings_status (Err found) start fault (inr memory) one = absurd (cc (ap status_of_fault memory, one))
settings_status (Ok asked) start (Failed (BadEvent n)) fails one = absurd (cc one)
settings_status (Ok asked) start (Failed Memory) fails one = absurd (cc one)
settings_status (Ok asked) start (Failed Device) fails one = absurd (cc one)
settings_status (Ok asked) start UnreadSettings fails one = absurd fails
settings_status (Ok asked) start (Settings first) fails one = absurd fails
settings_status (Ok asked) start BadBreak fails one = absurd fails

bad_line : (asked : Asked) (start : Option (List ℕ)) (n : ℕ) →
    IfSome start (λ octets. IsBadScript (cells_of asked) octets n) →
    HasBadLine asked start
bad_line asked None n bad = tt
bad_line asked (Some octets) n bad = (n, bad)

-- the options are at fault for `--break`, or with a status of 1
abbrev IsOfOptions : Result Asked ProgramFault → Type 0
IsOfOptions (Ok asked) = Unit {0}
IsOfOptions (Err found) = (found ≡ BadBreak) ⊎ (status_of_fault found ≡ 1)

of_source : (settings : Parameters) (source : Option ℕ) → IsOfOptions (asked_of_source settings source)
of_source settings None = inl refl
of_source settings (Some source) = tt

of_settings : (found : Result Parameters SettingsFault) (breaks : Option (List ℕ)) →
    IsOfOptions (asked_with (settings_or_fault found) breaks)
of_settings (Err fault) breaks = inr refl
of_settings (Ok settings) None = tt
of_settings (Ok settings) (Some word) = of_source settings (source_in (length settings.cells) word)

of_options : (text breaks : Option (List ℕ)) → IsOfOptions (asked text breaks)
of_options None None = tt
of_options None (Some word) = inl refl
of_options (Some text) breaks = of_settings (settings_in (parse_document text)) breaks

two_of : (found fault : ProgramFault) →
    (found ≡ BadBreak) ⊎ (status_of_fault found ≡ 1) →
    fault ≡ found →
    status_of_fault fault ≡ 2 →
    found ≡ BadBreak
two_of found fault (inl is) same two = is
two_of found fault (inr one) same two = absurd (cc (ap status_of_fault same, one, two))

two_by : (a : Result Asked ProgramFault) (start : Option (List ℕ)) (fault : ProgramFault) →
    IsOfOptions a →
    Fails a start fault →
    status_of_fault fault ≡ 2 →
    MatchResult a (λ asked. HasBadLine asked start) (λ found. found ≡ BadBreak)
two_by (Err found) start fault of (inl same) two = two_of found fault of same two
two_by (Err found) start fault of (inr memory) two = absurd (cc (ap status_of_fault memory, two))
two_by (Ok asked) start (Failed (BadEvent n)) of fails two = bad_line asked start n fails
two_by (Ok asked) start (Failed Memory) of fails two = absurd (cc two)
two_by (Ok asked) start (Failed Device) of fails two = absurd (cc two)
two_by (Ok asked) start UnreadSettings of fails two = absurd fails
two_by (Ok asked) start (Settings first) of fails two = absurd fails
two_by (Ok asked) start BadBreak of fails two = absurd fails

-- a status of 2 is that of `--break`, or of a bad line
pub two_status : (text breaks start : Option (List ℕ)) (fault : ProgramFault) → Fails (asked text breaks) start fault → status_of_fault fault ≡ 2
    → MatchResult (asked text breaks) (λ asked. HasBadLine asked start) (λ found. found ≡ BadBreak)
two_status text breaks start fault fails two = two_by (asked text breaks) start fault (of_options text breaks) fails two
