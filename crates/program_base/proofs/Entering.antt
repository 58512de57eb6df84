-- SPDX-License-Identifier: MIT OR Apache-2.0
-- Words that `clap` takes enter one of the three subcommands: `help`, which it adds, is refused.
use Rattle.std.proofs.Common.{◌≡◌, ◌≢◌, ◌⊎◌, ◌||◌, ◌&&◌, Bool, true, false, Option, Some, None, List, [], ◌∷◌, refl, sym, ◌∙◌, subst, codes, inl, inr, ⊎_elim, true≢false, not}
use Rattle.std.specs.Prelude.{if◌then◌else◌, find, is_some, option_map, IfSome, IsSomeAnd, ⊤}
use Rattle.std.specs.List.{AllByRecursion, fold}
use Rattle.std.specs.Str.{bytes_eq}
use Rattle.std.proofs.lemmas.Slice.Eq.{bytes_eq-Decides}
use Rattle.clap.specs.Words.{Row, Text, fault_of, subcommand_name_of, subcommand_of, subcommand_rows_of}
use Rattle.clap.specs.declared.parser.matches.ArgMatches.{ArgMatches}
use Rattle.clap.specs.declared.parser.matches.ArgMatches.TheViews.{out-ArgMatches}
use Rattle.clap.specs.Faults.{check_fault, defaults_fault, entered_fault, other_fault, settle_fault, turn_fault, walk_fault}
use Rattle.clap.specs.Kinds.{Kinds, or_else}
use Rattle.clap.specs.Simple.{Shape, built, entered, label_of, names_of, rows_at}
use Rattle.clap.specs.declared.error.kind.ErrorKind.TheVariants as kind
use Rattle.clap.specs.Walk.{Held, Names, Outcome, Rule, Step, Waiting, Walk, after_flag, after_step, answers_to, arg_by_index, done, finished, idle, long_or_other, next, nothing_held, option, plain, plain_word, positional, refused, settled, short_or_plain, subcommand, subcommand_met, subcommand_or_other, to_positional, trailing, value, waits, walk, walk_from, walked}
use Rattle.clap.specs.Lexer.{long_of, short_of}
use Rattle.program_base.specs.CommandLine.{bsc}

-- both steps pass where their kinds of error are none
both_none : (first second : Kinds) → or_else first second ≡ [] → (first ≡ []) × (second ≡ [])
both_none [] second none = (refl, none)
both_none (k ∷ ks) second none = absurd cc

-- a step that meets no subcommand
abbrev IsOther : Step → Type 0
IsOther (subcommand name) = ⊥
IsOther _ = ⊤

plain_other : (c : List Rule) (waiting : Waiting) (word : Text) (h : Held) → IsOther (plain_word c waiting word h).1
plain_other c (option id) word h = tt
plain_other c idle word h = tt
plain_other c positional word h = tt

flag_other : (c : List Rule) (waiting : Waiting) (word : Text) (h : Held) (outcome : Outcome) →
    IsOther (after_flag c waiting word h outcome).1
flag_other c waiting word h done = tt
flag_other c waiting word h (waits id) = tt
flag_other c waiting word h plain = plain_other c waiting word h
flag_other c waiting word h refused = plain_other c waiting word h

short_other : (c : List Rule) (waiting : Waiting) (word : Text) (flags : Option Text) (h : Held) →
    IsOther (short_or_plain c waiting word flags h).1
short_other c waiting word (Some flags) h = flag_other c waiting word _ _
short_other c waiting word None h = plain_other c waiting word h

long_other : (c : List Rule) (waiting : Waiting) (word : Text) (long : Option (Text × Option Text)) (h : Held) →
    IsOther (long_or_other c waiting word long h).1
long_other c waiting word (Some p) h = flag_other c waiting word _ _
long_other c waiting word None h = short_other c waiting word (short_of word) h

-- where a walk stopped, it isn't at `help`
abbrev NotHelp : Option (Text × List Text) → Type 0
NotHelp stopped = IfSome stopped (λ p. bytes_eq p.0 (codes "help") ≡ false)

positional_remains : (c : List Rule) (word : Text) (w : Walk) (h : Held) (at : Option Rule) →
    w.stopped ≡ None →
    NotHelp (to_positional c at word w h).stopped
positional_remains c word w h None none = subst NotHelp (sym none) tt
positional_remains c word w h (Some a) none = tt

other_remains : (c : List Rule) (word : Text) (w : Walk) (h : Held) (step : Step) →
    IsOther step →
    w.stopped ≡ None →
    NotHelp (after_step c word w h step).stopped
other_remains c word w h (next waiting) other none = subst NotHelp (sym none) tt
other_remains c word w h (trailing position) other none = subst NotHelp (sym none) tt
other_remains c word w h (subcommand name) other none = absurd other
other_remains c word w h value other none = positional_remains c word w h (arg_by_index c w.position) none

not_help : (is disabled : Bool) →
    disabled ≡ false →
    (if is && not disabled then kind.DisplayHelp ∷ kind.InvalidSubcommand ∷ [] else []) ≡ [] →
    is ≡ false
not_help false disabled helps none = refl
not_help true false helps none = absurd cc
not_help true true helps none = absurd cc

dashes_remain : (c : List Rule) (word : Text) (w : Walk) (dashes : Bool) → w.stopped ≡ None
    → let step = if dashes then (w.held, trailing w.position) else long_or_other c w.waiting word (long_of word) w.held in NotHelp (after_step c word w step.0 step.1).stopped
dashes_remain c word w true none = other_remains c word w w.held (trailing w.position) tt none
dashes_remain c word w false none = other_remains c word w _ _ (long_other c w.waiting word (long_of word) w.held) none

-- a word that passes enters no `help`
word_remains : (s : Shape) (word : Text) (w : Walk) (is_trailing : Bool) (met : Option Text) → s.disable_help_subcommand ≡ false → w.stopped ≡ None
    → (if is_trailing then [] else other_fault s met word w.held) ≡ []
    → let step = if is_trailing then (w.held, value) else subcommand_or_other s.rules met w.waiting w.position word w.held in NotHelp (after_step s.rules word w step.0 step.1).stopped
word_remains s word w true met helps none passes = other_remains s.rules word w w.held value tt none
word_remains s word w false None helps none passes = dashes_remain s.rules word w (bytes_eq word (45 ∷ 45 ∷ [])) none
word_remains s word w false (Some name) helps none passes = not_help (bytes_eq name (codes "help")) s.disable_help_subcommand helps passes

turn_remains : (s : Shape) (names : Names) (w : Walk) (stopped : Option (Text × List Text)) (word : Text) → s.disable_help_subcommand ≡ false → NotHelp stopped
    → turn_fault s names (record w { stopped = stopped }) word ≡ [] → NotHelp (walked s.rules names (record w { stopped = stopped }) word).stopped
unfolding walked
turn_remains s names w (Some p) word helps kept passes = kept
turn_remains s names w None word helps kept passes =
    word_remains s word (record w { stopped = None }) w.is_trailing (subcommand_met names w.waiting word) helps refl (both_none _ _ passes).0

walk_remains : (s : Shape) (names : Names) (w : Walk) (words : List Text) → s.disable_help_subcommand ≡ false → NotHelp w.stopped → walk_fault s names w words ≡ []
    → NotHelp (fold (walked s.rules names) w words).stopped
unfolding walk_fault
walk_remains s names w [] helps kept passes = kept
walk_remains s names w (word ∷ rest) helps kept passes =
    walk_remains s names (walked s.rules names w word) rest helps (turn_remains s names w w.stopped word helps kept (both_none _ _ passes).0) (both_none _ _ passes).1

-- the three subcommands
abbrev pub IsKnown : Text → Type 0
IsKnown name = (name ≡ codes "run") ⊎ ((name ≡ codes "replay") ⊎ (name ≡ codes "decode"))

met_here : {X : Type 0} (P : X → Type 0) (x : X) (is : Bool) (rest : Option X) →
    (is ≡ true → P x) →
    IfSome rest P →
    IfSome (if is then Some x else rest) P
met_here P x true rest here later = here refl
met_here P x false rest here later = later

found_so : {X : Type 0} (test : X → Bool) (P : X → Type 0) (xs : List X) →
    AllByRecursion (λ x. test x ≡ true → P x) xs →
    IfSome (find test xs) P
found_so test P [] all = tt
found_so test P (x ∷ xs) all = met_here P x (test x) (find test xs) all.0 (found_so test P xs all.1)

or_false : (b : Bool) → (b || false) ≡ true → b ≡ true
or_false true is = refl
or_false false is = is

help_met : (name : Text) → bytes_eq name (codes "help") ≡ false → (bytes_eq (codes "help") name || false) ≡ true → ⊥
help_met name isnt is =
    true≢false (sym ((bytes_eq-Decides name (codes "help")).1 (sym ((bytes_eq-Decides (codes "help") name).0 (or_false _ is)))) ∙ isnt)

rows_known : (words : List Text) (s : Option Shape) →
    IfSome s (λ s. IsKnown s.name) →
    IfSome (option_map (λ s. rows_at s words) s) (λ found. IsKnown found.0)
rows_known words None known = tt
rows_known words (Some s) known = known

entered_known : (stop : Option (Text × List Text)) → NotHelp stop → IfSome (entered (built bsc) stop) (λ found. IsKnown found.0)
entered_known None kept = tt
entered_known (Some p) kept =
    rows_known p.1 (find (λ s. answers_to p.0 (label_of s)) (built bsc).subs)
    (found_so (λ s. answers_to p.0 (label_of s)) (λ s. IsKnown s.name) (built bsc).subs
    ((λ _. inl refl), ((λ _. inr (inl refl)), ((λ _. inr (inr refl)), ((λ is. absurd (help_met p.0 kept is)), tt)))))

-- a subcommand is wanted
wanted : (rows : List Row) (has : Bool) → check_fault (built bsc).top rows has ≡ [] → has ≡ true
wanted rows true none = refl
wanted rows false none = absurd cc

is_and : {X : Type 0} (o : Option X) (P : X → Type 0) → is_some o ≡ true → IfSome o P → IsSomeAnd o P
is_and None P is so = absurd (true≢false (sym is))
is_and (Some x) P is so = so

-- the five steps of one level pass, among them the first and the last
all_pass : (walks below settles defaults checks : Kinds) →
    or_else walks (or_else below (or_else settles (or_else defaults checks))) ≡ [] →
    (walks ≡ []) × (checks ≡ [])
all_pass walks below settles defaults checks none =
    let rest = both_none walks _ none in
    (rest.0, (both_none defaults checks (both_none settles _ (both_none below _ rest.1).1).1).1)

pub enters_known : (words : List Text) → fault_of bsc words ≡ [] → IsSomeAnd (subcommand_of bsc words) (λ found. IsKnown found.0)
enters_known words taken =
    let app = built bsc in
    let end = walk app.top.rules (names_of app) nothing_held words in
    let passes = all_pass (walk_fault app.top (names_of app) (walk_from nothing_held) words) (entered_fault app end.stopped)
    (settle_fault app.top.rules app.top.args_override_self end.held) (defaults_fault (settled app.top.rules end.held).rows app.top.rules)
    (check_fault app.top (finished app.top.rules end.held) (is_some (entered app end.stopped))) taken in
    is_and (subcommand_of bsc words) (λ found. IsKnown found.0) (wanted (finished app.top.rules end.held) (is_some (entered app end.stopped)) passes.1)
    (entered_known end.stopped (walk_remains app.top (names_of app) (walk_from nothing_held) words refl tt passes.0))

name_so : {X A B : Type 0} (f : X → A) (g : X → B) (P : A → Type 0) (o : Option X) →
    IsSomeAnd {T = A × B} (option_map (λ x. (f x, g x)) o) (λ p. P p.0) →
    IsSomeAnd (option_map f o) P
name_so f g P None so = so
name_so f g P (Some x) so = so

-- the name of the subcommand that a parse entered
pub known_name : (m : ArgMatches) (words : List Text) →
    fault_of bsc words ≡ [] →
    subcommand_rows_of m ≡ subcommand_of bsc words →
    IsSomeAnd (subcommand_name_of m) IsKnown
known_name m words taken found =
    name_so _ _ IsKnown (out-ArgMatches m).subcommand (subst (λ o. IsSomeAnd o (λ p. IsKnown p.0)) (sym found) (enters_known words taken))

-- no other name is possible
pub unknown : (name : Text) (o : Option Text) →
    Some name ≡ o →
    name ≢ codes "run" →
    name ≢ codes "replay" →
    name ≢ codes "decode" →
    IsSomeAnd o IsKnown →
    ⊥
unknown name None is not_run not_replay not_decode known = known
unknown name (Some entered) is not_run not_replay not_decode known =
    let same : name ≡ entered = cc (is) in
    ⊎_elim (λ run. not_run (same ∙ run)) (λ others. ⊎_elim (λ replay. not_replay (same ∙ replay)) (λ decode. not_decode (same ∙ decode)) others) known
