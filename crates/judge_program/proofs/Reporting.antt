-- SPDX-License-Identifier: MIT OR Apache-2.0
-- Lemmas: the output for an input that was read, and the exit status.
use Rattle.std.proofs.Common.{◌≡◌, ◌⊎◌, ℕ, Bool, true, false, List, [], ◌++◌, Option, Some, None, Result, Ok, Err, refl, sym, ap, subst, ◌∙◌, append_assoc, inl, inr, if◌then◌else◌}
use Rattle.std.specs.Prelude.{fold, IfSome}
use Rattle.std.specs.Io.KnownBytes.{Appends, Consumes, IsAtEnd, Keeps}
use Rattle.std.proofs.KnownBytes.{Appends-kept, Appends-trans}
use Rattle.std.proofs.lemmas.List.{append-nil}
use Rattle.dtap_codec.specs.Number.{count_of}
use Rattle.dtap_codec.specs.declared.rr.CellDescription.{CellDescription}
use Rattle.judge_lines.specs.Lines.{LinesState, lines_from, lines_of, new_lines, to_come}
use Rattle.judge_lines.specs.declared.fault.LineFault.{LineFault}
use Rattle.judge_report.specs.declared.style.Strictness.{Strictness}
use Rattle.judge_report.specs.declared.style.Style.{Style}
use Rattle.judge_report.specs.declared.sums.Sums.{Sums}
use Rattle.judge_report.specs.Sums.{end_text, fails, no_sums, start_text, status_of_sums, sums_of, with_one}
use Rattle.program_io.specs.declared.input.Unread.{Unread}
use Rattle.program_io.specs.declared.input.Unread.TheVariants.{Device, Endless, Refused}
use Rattle.program_io.specs.Input.{ReadsInput}
use Rattle.judge_orders.specs.declared.judged.Judged.{Judged}
use Rattle.judge_orders.specs.Orders.{new_orders}
use Rattle.judge_orders.specs.Left.{IsLeft}
use Rattle.judge_orders.specs.OrdersState.{OrdersState}
use Rattle.judge_program.specs.Course.{Course, behind, course}
use Rattle.judge_program.specs.Judged.{FindsBadLine, FinishesWith, ReadsAll, ReadsLines, Reports, ReportsAll, ReportsBad, ReportsStop, StopsReading, course_of, report_of}
use Rattle.judge_program.specs.RunLaws.{behind_both, found_behind, printed_both, sums_both, verdicts_both}
use Rattle.judge_program.specs.RunState.{FindsBad, Prints, PrintsAtEnd, RunState, StopsAtEnd, StopsWith, VerdictsState, begun_verdicts, course_with, run_state, verdicts}
use Rattle.judge_program.specs.Stopping.{status_of_stop, stop_unread}
use Rattle.judge_program.specs.declared.stop.Stop.{Stop}
use Rattle.judge_program.specs.declared.stop.Stop.TheVariants.{BadLine, Failed}

-- ---- all lines were read

-- what comes of known octets, by a run that had read nothing
course_from : (style : Style) (cells : List CellDescription) (stream octets : List ℕ) (lines : LinesState) (v : VerdictsState) (old : Option (List ℕ)) → lines ≡ new_lines
    → v ≡ begun_verdicts style cells → stream ≡ octets → course_of style cells stream ≡ course_with (run_state lines v old) octets
course_from style cells stream octets lines v old no_lines begun is =
    ap (λ (xs : List ℕ). course_of style cells xs) is
    ∙ ap (λ (l : LinesState). course (new_orders (count_of style.modulus) cells) (to_come l octets)) (sym no_lines)
    ∙ ap (λ (w : VerdictsState). course w.orders (to_come lines octets)) (sym begun)

abbrev done : List Judged → OrdersState → Course
done ended left = record { ended = ended; left = left; fault = None }

-- no line is left
course_done : (s : RunState) → s.lines.octets ≡ [] → course_with s [] ≡ done [] s.verdicts.orders
course_done s none = ap (λ (xs : List ℕ). course s.verdicts.orders (lines_from s.lines.count (lines_of (xs ++ [])))) none

course_all : (style : Style) (cells : List CellDescription) (stream octets : List ℕ) (lines : LinesState) (v : VerdictsState) (old : Option (List ℕ)) (mid new : RunState)
    → lines ≡ new_lines → v ≡ begun_verdicts style cells → stream ≡ octets ++ [] → (some : Prints octets (run_state lines v old) mid)
    → (last : PrintsAtEnd mid new) → new.lines.octets ≡ []
    → course_of style cells stream ≡ done (some.ended ++ last.ended) new.verdicts.orders
course_all style cells stream octets lines v old mid new no_lines begun is some last none =
    course_from style cells stream (octets ++ []) lines v old no_lines begun is ∙ some.carried_on []
    ∙ ap (λ (c : Course). behind some.ended c) (last.carried_on ∙ ap (λ (c : Course). behind last.ended c) (course_done new none))
    ∙ behind_both some.ended last.ended (done [] new.verdicts.orders)
    ∙ ap (λ (cs : List Judged). done cs new.verdicts.orders) (append-nil (some.ended ++ last.ended))

reads_known : (style : Style) (cells : List CellDescription) (stream octets : List ℕ) (lines : LinesState) (v : VerdictsState) (old : Option (List ℕ)) (mid new : RunState)
    → lines ≡ new_lines → v ≡ begun_verdicts style cells → stream ≡ octets ++ [] → Prints octets (run_state lines v old) mid
    → PrintsAtEnd mid new → new.lines.octets ≡ [] → ReadsAll style cells new.verdicts stream old new.contents
reads_known style cells stream octets lines v old mid new no_lines begun is some last none =
    let ended : List Judged = some.ended ++ last.ended in
    let all : course_of style cells stream ≡ done ended new.verdicts.orders =
    course_all style cells stream octets lines v old mid new no_lines begun is some last none in
    let printed : Appends old new.contents (verdicts v.style v.sums ended) =
    printed_both v.style mid.verdicts.style v.sums mid.verdicts.sums some.ended last.ended old mid.contents new.contents some.style
    some.sums some.printed last.printed in
    record {
      style_is = last.style ∙ some.style ∙ ap (λ (w : VerdictsState). w.style) begun;
      sums_are =
          last.sums ∙ ap (λ (s : Sums). fold with_one s last.ended) some.sums ∙ sym (sums_both v.sums some.ended last.ended)
          ∙ ap (λ (w : VerdictsState). fold with_one w.sums ended) begun ∙ ap (λ (c : Course). sums_of c.ended) (sym all);
      orders_are = ap (λ (c : Course). c.left) (sym all);
      whole = ap (λ (c : Course). c.fault) all;
      printed =
          subst (Appends old new.contents)
          (ap (λ (w : VerdictsState). verdicts w.style w.sums ended) begun
          ∙ ap (λ (c : Course). verdicts style no_sums c.ended) (sym all)) printed;
    }

pub reads_all : (style : Style) (cells : List CellDescription) (start end : Option (List ℕ)) (octets : List ℕ) (lines : LinesState) (v : VerdictsState) (old : Option (List ℕ))
    (mid new : RunState) → lines ≡ new_lines → v ≡ begun_verdicts style cells → Consumes start end octets → IsAtEnd end
    → Prints octets (run_state lines v old) mid → PrintsAtEnd mid new → new.lines.octets ≡ []
    → ReadsLines style cells new.verdicts start old new.contents
reads_all style cells None end octets lines v old mid new no_lines begun read at_end some last none = tt
reads_all style cells (Some stream) None octets lines v old mid new no_lines begun read at_end some last none = absurd read
reads_all style cells (Some stream) (Some later) octets lines v old mid new no_lines begun read at_end some last none =
    reads_known style cells stream octets lines v old mid new no_lines begun (read ∙ ap (λ (xs : List ℕ). octets ++ xs) at_end) some last none

-- ---- a line is bad

bad_known : (style : Style) (cells : List CellDescription) (stream octets : List ℕ) (lines : LinesState) (v : VerdictsState) (old now : Option (List ℕ)) (fault : LineFault)
    → lines ≡ new_lines → v ≡ begun_verdicts style cells → stream ≡ octets → FindsBad fault octets (run_state lines v old) now
    → ((course_of style cells stream).fault ≡ Some fault) × Appends old now (verdicts style no_sums (course_of style cells stream).ended)
bad_known style cells stream octets lines v old now fault no_lines begun is found =
    let same : course_of style cells stream ≡ course_with (run_state lines v old) octets =
    course_from style cells stream octets lines v old no_lines begun is in (
      ap (λ (c : Course). c.fault) same ∙ found.bad,
      subst (Appends old now)
          (ap (λ (w : VerdictsState). verdicts w.style w.sums (course_with (run_state lines v old) octets).ended) begun
          ∙ ap (λ (c : Course). verdicts style no_sums c.ended) (sym same)) found.printed,
    )

pub stops_known : (style : Style) (cells : List CellDescription) (stop : Stop) (start end : Option (List ℕ)) (octets : List ℕ) (lines : LinesState) (v : VerdictsState)
    (old now : Option (List ℕ)) → lines ≡ new_lines → v ≡ begun_verdicts style cells → Consumes start end octets
    → StopsWith stop octets (run_state lines v old) now → StopsReading style cells stop start old now
stops_known style cells (Failed failure) start end octets lines v old now no_lines begun read stops = tt
stops_known style cells (BadLine number fault) None end octets lines v old now no_lines begun read stops = tt
stops_known style cells (BadLine number fault) (Some stream) None octets lines v old now no_lines begun read stops = absurd read
stops_known style cells (BadLine number fault) (Some stream) (Some later) octets lines v old now no_lines begun read stops =
    bad_known style cells stream (octets ++ later) lines v old now fault no_lines begun read (stops later)

-- at the last lines
pub stops_last : (style : Style) (cells : List CellDescription) (stop : Stop) (start end : Option (List ℕ)) (octets : List ℕ) (lines : LinesState) (v : VerdictsState)
    (old now : Option (List ℕ)) (mid : RunState) → lines ≡ new_lines → v ≡ begun_verdicts style cells → Consumes start end octets → IsAtEnd end
    → Prints octets (run_state lines v old) mid → StopsAtEnd stop mid now → StopsReading style cells stop start old now
stops_last style cells (Failed failure) start end octets lines v old now mid no_lines begun read at_end some stops = tt
stops_last style cells (BadLine number fault) None end octets lines v old now mid no_lines begun read at_end some stops = tt
stops_last style cells (BadLine number fault) (Some stream) None octets lines v old now mid no_lines begun read at_end some stops = absurd read
stops_last style cells (BadLine number fault) (Some stream) (Some later) octets lines v old now mid no_lines begun read at_end some stops =
    bad_known style cells stream (octets ++ []) lines v old now fault no_lines begun (read ∙ ap (λ (xs : List ℕ). octets ++ xs) at_end)
    (found_behind fault (octets ++ []) [] (run_state lines v old) mid some.ended now some.style some.sums some.printed (some.carried_on []) stops)

-- while the input was read
pub stops_unread : (style : Style) (cells : List CellDescription) {S : Type 0} (takes : S → List ℕ → S → Type 0) (refuses : S → List ℕ → S → Stop → Type 0) (most : ℕ)
    (start end : Option (List ℕ)) (before after : S) (old now : Option (List ℕ)) (unread : Unread Stop)
    → ReadsInput takes refuses most start end before after (Err unread)
    → ((octets : List ℕ) (stop : Stop) → Consumes start end octets → refuses before octets after stop → StopsReading style cells stop start old now)
    → StopsReading style cells (stop_unread unread) start old now
stops_unread style cells takes refuses most start end before after old now (Endless reads) reading stopped = tt
stops_unread style cells takes refuses most start end before after old now (Device error) reading stopped = tt
stops_unread style cells takes refuses most start end before after old now (Refused stop) reading stopped =
    stopped reading.0 stop reading.1 reading.2

-- what any end of an input keeps
pub reads_keep : {S E : Type 0} (takes : S → List ℕ → S → Type 0) (refuses : S → List ℕ → S → E → Type 0) (most : ℕ)
    (start end : Option (List ℕ)) (before after : S) (result : Result (Unit {0}) (Unread E)) (P : Type 0)
    → ReadsInput takes refuses most start end before after result → ((octets : List ℕ) → takes before octets after → P)
    → ((octets : List ℕ) (fault : E) → refuses before octets after fault → P) → P
reads_keep takes refuses most start end before after (Ok done) P reading taken refused = taken reading.0 reading.2
reads_keep takes refuses most start end before after (Err (Endless reads)) P reading taken refused = taken reading.0 reading.2
reads_keep takes refuses most start end before after (Err (Device error)) P reading taken refused = taken reading.0 reading.2
reads_keep takes refuses most start end before after (Err (Refused fault)) P reading taken refused = refused reading.0 fault reading.2

-- ---- the whole

reports_known : (style : Style) (cells : List CellDescription) (octets : List ℕ) (v : VerdictsState) (sums : Sums) (old begun read kept new : Option (List ℕ))
    → Appends old begun (start_text style.form) → ReadsAll style cells v octets begun read → Keeps read kept → FinishesWith v sums kept new
    → ReportsAll style cells octets (status_of_sums style.strictness sums) old new
reports_known style cells octets v sums old begun read kept new start some keeps end =
    let ended : List Judged = (course_of style cells octets).ended in
    let first : List ℕ = start_text style.form in
    let some_text : List ℕ = verdicts style no_sums ended in
    let left_text : List ℕ = verdicts style (sums_of ended) end.left in
    let last : List ℕ = end_text style.form (sums_of (ended ++ end.left)) in
    let count : sums ≡ sums_of (ended ++ end.left) =
    end.all ∙ ap (λ (s : Sums). fold with_one s end.left) some.sums_are ∙ sym (sums_both no_sums ended end.left) in
    let rest : Appends kept new (left_text ++ last) =
    subst (Appends kept new)
    (ap (λ (s : Style). verdicts s v.sums end.left ++ end_text s.form sums) some.style_is
    ∙ ap (λ (s : Sums). verdicts style s end.left ++ end_text style.form sums) some.sums_are
    ∙ ap (λ (s : Sums). left_text ++ end_text style.form s) count) end.printed in
    let before : Appends old kept (first ++ some_text) =
    Appends-kept old read kept (first ++ some_text) (Appends-trans old begun read first some_text start some.printed) keeps in
    let joined : (first ++ some_text) ++ (left_text ++ last) ≡ report_of style (ended ++ end.left) =
    sym (append_assoc (first ++ some_text) left_text last)
    ∙ ap (λ (xs : List ℕ). xs ++ last) (append_assoc first some_text left_text)
    ∙ ap (λ (xs : List ℕ). (first ++ xs) ++ last) (sym (verdicts_both style no_sums ended end.left)) in
    record {
      left = end.left;
      are = subst (λ (j : OrdersState). IsLeft j end.left) some.orders_are end.are;
      whole = some.whole;
      printed = subst (Appends old new) joined (Appends-trans old kept new (first ++ some_text) (left_text ++ last) before rest);
      ends = ap (λ (s : Sums). status_of_sums style.strictness s) count;
    }

pub reports_all : (style : Style) (cells : List CellDescription) (start : Option (List ℕ)) (v : VerdictsState) (sums : Sums) (old begun read kept new : Option (List ℕ))
    → Appends old begun (start_text style.form) → ReadsLines style cells v start begun read → Keeps read kept → FinishesWith v sums kept new
    → Reports style cells (status_of_sums style.strictness sums) start old new
reports_all style cells None v sums old begun read kept new first some keeps end = tt
reports_all style cells (Some octets) v sums old begun read kept new first some keeps end =
    reports_known style cells octets v sums old begun read kept new first some keeps end

pub reports_stop : (style : Style) (cells : List CellDescription) (stop : Stop) (start old begun read kept : Option (List ℕ)) → Appends old begun (start_text style.form)
    → StopsReading style cells stop start begun read → Keeps read kept → ReportsStop style cells stop start old kept
reports_stop style cells (Failed failure) start old begun read kept first stops keeps = tt
reports_stop style cells (BadLine number fault) None old begun read kept first stops keeps = tt
reports_stop style cells (BadLine number fault) (Some octets) old begun read kept first stops keeps =
    let text : List ℕ = verdicts style no_sums (course_of style cells octets).ended in (
      stops.0,
      Appends-kept old read kept (start_text style.form ++ text) (Appends-trans old begun read (start_text style.form) text first stops.1) keeps,
    )

pub reports_failed : (style : Style) (cells : List CellDescription) (stop : Stop) (start old new : Option (List ℕ)) →
    status_of_stop stop ≡ 3 →
    ReportsStop style cells stop start old new
reports_failed style cells (Failed failure) start old new three = tt
reports_failed style cells (BadLine number fault) start old new three = absurd (cc three)

-- ---- the status

one_or_none : (b : Bool) → (◌≡◌ {A = ℕ} (if b then 1 else 0) 0) ⊎ (◌≡◌ {A = ℕ} (if b then 1 else 0) 1)
one_or_none true = inr refl
one_or_none false = inl refl

pub sums_status : (strictness : Strictness) (sums : Sums) (status : ℕ) →
    status ≡ status_of_sums strictness sums →
    (status ≡ 0) ⊎ (status ≡ 1)
sums_status strictness sums status is = subst (λ (n : ℕ). (n ≡ 0) ⊎ (n ≡ 1)) (sym is) (one_or_none (fails strictness sums))

pub any_status : (status : ℕ) → (status ≡ 0) ⊎ (status ≡ 1) → (status ≡ 0) ⊎ (status ≡ 1) ⊎ (status ≡ 2) ⊎ (status ≡ 3)
any_status status (inl none) = inl none
any_status status (inr one) = inr (inl one)

pub not_two : (status : ℕ) → (status ≡ 0) ⊎ (status ≡ 1) → status ≡ 2 → ⊥
not_two status (inl none) two = absurd (cc (none, two))
not_two status (inr one) two = absurd (cc (one, two))

pub stop_status : (stop : Stop) (status : ℕ) → status ≡ status_of_stop stop → (status ≡ 0) ⊎ (status ≡ 1) ⊎ (status ≡ 2) ⊎ (status ≡ 3)
stop_status (BadLine number fault) status is = inr (inr (inl is))
stop_status (Failed failure) status is = inr (inr (inr is))

pub not_all : (stop : Stop) (status : ℕ) → status ≡ status_of_stop stop → (status ≡ 0) ⊎ (status ≡ 1) → ⊥
not_all (BadLine number fault) status is (inl none) = absurd (cc (is, none))
not_all (BadLine number fault) status is (inr one) = absurd (cc (is, one))
not_all (Failed failure) status is (inl none) = absurd (cc (is, none))
not_all (Failed failure) status is (inr one) = absurd (cc (is, one))

bad_found : (style : Style) (cells : List CellDescription) (fault : LineFault) (start old new : Option (List ℕ)) → IfSome start (λ octets. FindsBadLine style cells fault octets old new)
    → ReportsBad style cells start old new
bad_found style cells fault None old new found = tt
bad_found style cells fault (Some octets) old new found = (fault, found)

pub bad_status : (style : Style) (cells : List CellDescription) (stop : Stop) (status : ℕ) (start old new : Option (List ℕ)) → status ≡ status_of_stop stop → status ≡ 2
    → ReportsStop style cells stop start old new → ReportsBad style cells start old new
bad_status style cells (BadLine number fault) status start old new is two stops = bad_found style cells fault start old new stops
bad_status style cells (Failed failure) status start old new is two stops = absurd (cc (is, two))
