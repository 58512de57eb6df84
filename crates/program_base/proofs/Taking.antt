-- SPDX-License-Identifier: MIT OR Apache-2.0
-- The contracts of `clap` for a command hold for any command with the same rules.
use Rattle.std.proofs.Common.{◌≡◌, ◌≢◌, ℕ, true, Option, Some, None, List, [], ◌∷◌, refl, sym, ap, ◌∙◌, subst, option_map, unwrap_or, inl, inr}
use Rattle.std.specs.Cmp.{first_so}
use Rattle.clap.specs.Words.{App, Text, Row, HasMatchesOf, HasKind, Kinds, is_simple_and_free, fault_of, first_of, found_of, kind_of, matches_of, rows_of, subcommand_of, subcommand_rows_of, subcommand_name_of}
use Rattle.std.specs.Borrow.{Bor}
use Rattle.std.specs.Prelude.{Bool, IfOk, Result, Ok, Err, String, codes, string_bytes}
use Rattle.std.specs.declared.alloc.Global.{Global}
use Rattle.program_base.specs.CommandLine.{IsTask}
use Rattle.program_base.specs.ToolLine.{IsFlag, IsJudge, IsTrace}
use Rattle.program_base.specs.WordStatus.{IsNoTaskOf, answer_to}
use Rattle.program_base.specs.declared.no_task.NoTask.{NoTask}
use Rattle.program_base.specs.declared.no_task.NoTask.TheVariants.{Refused}
use Rattle.program_base.specs.declared.no_task.NoTask.TheVariants.{Memory as NoMemory}
use Rattle.program_base.specs.declared.words.TaskFault.{TaskFault}
use Rattle.program_base.specs.declared.words.TaskFault.TheVariants.{Words}
use Rattle.program_base.specs.declared.words.Tool.TheVariants.{Judge, Trace}
use Rattle.program_base.specs.declared.words.Task.{Task}
use Rattle.program_base.specs.declared.words.Task.TheVariants.{Run, Replay, Decode}
use Rattle.clap.specs.declared.error.Error.{Error}
use Rattle.clap.specs.declared.error.kind.ErrorKind.TheVariants.{OutOfMemory}
use Rattle.clap.specs.declared.parser.matches.ArgMatches.{ArgMatches}
use Rattle.clap.specs.declared.parser.matches.ArgMatches.TheViews.{out-ArgMatches}

-- a parse that succeeded
pub taken_by : (a b : App) (words : List Text) (m : ArgMatches) →
    a ≡ b →
    is_simple_and_free b ≡ true →
    (is_simple_and_free a ≡ true → fault_of a words ≡ []) →
    HasMatchesOf a words m →
    (fault_of b words ≡ []) × (subcommand_rows_of m ≡ subcommand_of b words)
taken_by a b words m same simple faults matches =
    let here : is_simple_and_free a ≡ true = ap is_simple_and_free same ∙ simple in
    (ap (λ (app : App). fault_of app words) (sym same) ∙ faults here, (matches (first_so _ _ here)).1 ∙ ap (λ (app : App). subcommand_of app words) same)

-- the same of a command without subcommands
pub taken_rows_by : (a b : App) (words : List Text) (m : ArgMatches) →
    a ≡ b →
    is_simple_and_free b ≡ true →
    (is_simple_and_free a ≡ true → fault_of a words ≡ []) →
    HasMatchesOf a words m →
    (fault_of b words ≡ []) × (rows_of (found_of m) ≡ matches_of b words)
taken_rows_by a b words m same simple faults matches =
    let here : is_simple_and_free a ≡ true = ap is_simple_and_free same ∙ simple in
    (ap (λ (app : App). fault_of app words) (sym same) ∙ faults here, (matches (first_so _ _ here)).0 ∙ ap (λ (app : App). matches_of app words) same)

some_kind : (kinds : Kinds) (e : Error) → HasKind kinds e → kind_of e ≢ OutOfMemory → kinds ≢ []
some_kind kinds e (inl memory) other none = other memory
some_kind [] e (inr among) other none = among
some_kind (k ∷ kinds) e (inr among) other none = absurd cc

-- one that failed, and not for lack of memory
pub refused_by : (a b : App) (words : List Text) (e : Error) →
    a ≡ b →
    is_simple_and_free b ≡ true →
    (is_simple_and_free a ≡ true → HasKind (fault_of a words) e) →
    kind_of e ≢ OutOfMemory →
    fault_of b words ≢ []
refused_by a b words e same simple fails other none =
    some_kind (fault_of a words) e (fails (ap is_simple_and_free same ∙ simple)) other (ap (λ (app : App). fault_of app words) same ∙ none)

-- a complaint is the error itself, which isn't one of memory
pub no_task-complaint : (error complaint : Error) (none : NoTask) →
    IsNoTaskOf error none →
    none ≡ Refused complaint →
    (complaint ≡ error) × (kind_of error ≢ OutOfMemory)
no_task-complaint error complaint none gives is =
    let other : kind_of error ≢ OutOfMemory = λ memory. absurd (cc (is, gives.0 memory)) in
    (cc (is, gives.1 other), other)

-- what is said of what was found is said of the answer
pub answer_ok : {X : Type 0} (found : Result X NoTask) (answer : Result X TaskFault) (Is : X → Type 0) →
    answer ≡ answer_to found →
    IfOk found Is →
    IfOk answer Is
answer_ok (Ok x) answer Is same is = subst (λ (a : _). IfOk a Is) (sym same) is
answer_ok (Err none) answer Is same is = subst (λ (a : _). IfOk a Is) (sym same) tt

-- an answer that the words are no command is one to a complaint
pub answer_words : {X P : Type 0} (found : Result X NoTask) (answer : Result X TaskFault) → answer ≡ answer_to found → answer ≡ Err Words
    → ((complaint : Error) → found ≡ Err (Refused complaint) → P) → P
answer_words (Ok x) answer same words refused = absurd (cc (same, words))
answer_words (Err (Refused complaint)) answer same words refused = refused complaint refl
answer_words (Err NoMemory) answer same words refused = absurd (cc (same, words))

-- a pair is both of its parts
pub some_pair : {A B : Type 0} (o : Option (A × B)) (x : A) (y : B) →
    option_map (λ (p : A × B). p.0) o ≡ Some x →
    option_map (λ (p : A × B). p.1) o ≡ Some y →
    o ≡ Some (x, y)
some_pair None x y first second = absurd cc
some_pair (Some p) x y first second =
    let left : p.0 ≡ x = cc (first) in
    let right : p.1 ≡ y = cc (second) in
    ap (λ (x : _). Some (x, p.1)) left ∙ ap (λ (y : _). Some (x, y)) right

map_first : {X A B : Type 0} (f : X → A) (g : X → B) (o : Option X) →
    option_map (λ (p : A × B). p.0) (option_map (λ x. (f x, g x)) o) ≡ option_map f o
map_first f g None = refl
map_first f g (Some x) = refl

-- the subcommand that a parse entered, by its name and its rows
found_by : (m : ArgMatches) (o : Option (Text × List Row)) (name : Text) (rows : List Row) →
    subcommand_rows_of m ≡ o →
    Some name ≡ subcommand_name_of m →
    Some rows ≡ option_map (λ (p : Text × List Row). p.1) (subcommand_rows_of m) →
    o ≡ Some (name, rows)
found_by m o name rows is named has =
    some_pair o name rows
    (ap (option_map (λ (p : Text × List Row). p.0)) (sym is) ∙ map_first _ _ (out-ArgMatches m).subcommand ∙ sym named)
    (ap (option_map (λ (p : Text × List Row). p.1)) (sym is) ∙ sym has)

-- the task of that subcommand
pub task_by : (m : ArgMatches) (o : Option (Text × List Row)) (task : Task) (name : Text) (rows : List Row) →
    subcommand_rows_of m ≡ o →
    Some name ≡ subcommand_name_of m →
    Some rows ≡ option_map (λ (p : Text × List Row). p.1) (subcommand_rows_of m) →
    IsTask task (Some (name, rows)) →
    IsTask task o
task_by m o task name rows is named has so = subst (IsTask task) (sym (found_by m o name rows is named has)) so

-- the three tasks, by their rows
pub is_run : (settings : String Global) (rows : List Row) →
    string_bytes settings ≡ unwrap_or (first_of (codes "config") rows) [] →
    IsTask (Run settings) (Some (codes "run", rows))
unfolding IsTask
is_run settings rows is = (refl, is)

pub is_replay : (settings breaks : Option (String Global)) (rows : List Row) → option_map (λ s. string_bytes s) settings ≡ first_of (codes "config") rows → option_map (λ s. string_bytes s) breaks ≡ first_of (codes "break") rows
    → IsTask (Replay settings breaks) (Some (codes "replay", rows))
unfolding IsTask
is_replay settings breaks rows is was = (refl, is, was)

pub is_decode : (rows : List Row) → IsTask Decode (Some (codes "decode", rows))
unfolding IsTask
is_decode rows = refl

-- the text of an option, or an empty one
pub unwrap_or-now : (o : Option (Bor (List ℕ))) (d : Bor (List ℕ)) →
    d.now ≡ [] →
    (unwrap_or o d).now ≡ unwrap_or (option_map (λ t. t.now) o) []
unwrap_or-now None d empty = empty
unwrap_or-now (Some t) d empty = refl

-- what `trace` shows, by its rows
pub is_trace : (settings : String Global) (strict : Bool) (chart capture : Option (String Global)) (rows : List Row)
    → string_bytes settings ≡ unwrap_or (first_of (codes "config") rows) []
    → (strict ≡ true → first_of (codes "strict") rows ≡ Some (codes "true")) → (first_of (codes "strict") rows ≡ Some (codes "true") → strict ≡ true)
    → option_map (λ s. string_bytes s) chart ≡ first_of (codes "chart") rows → option_map (λ s. string_bytes s) capture ≡ first_of (codes "capture") rows
    → IsTrace (Trace settings strict chart capture) rows
unfolding IsTrace
is_trace settings strict chart capture rows is given only drawn kept = (is, given, only, drawn, kept)

-- what `judge` is asked, by its rows
pub is_judge : (settings : Option (String Global)) (strict tap : Bool) (rows : List Row)
    → option_map (λ s. string_bytes s) settings ≡ first_of (codes "settings") rows
    → IsFlag strict (codes "strict") rows → IsFlag tap (codes "tap") rows
    → IsJudge (Judge settings strict tap) rows
unfolding IsJudge
is_judge settings strict tap rows named strictly pointed = (named, strictly, pointed)
