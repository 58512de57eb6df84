-- SPDX-License-Identifier: MIT OR Apache-2.0
-- How a setting, an argument or a subcommand changes a command, as `clap` sees it.
use Rattle.std.proofs.Common.{◌≡◌, ℕ, List, [], ◌∷◌, Option, Some, None, true, false, ap, ◌∙◌}
use Rattle.std.specs.Borrow.{Bor}
use Rattle.std.specs.Prelude.{◌||◌, Bool, IsSomeAnd, max}
use Rattle.clap.specs.Words.{AddsArg, AddsSubcommand, App, Rule, Text, app_of, rule_of, with_rule, with_subcommand}
use Rattle.clap.specs.Simple.{app_of_fields}
use Rattle.clap.specs.declared.builder.action.ArgAction.{ArgAction}
use Rattle.clap.specs.declared.builder.arg.Arg.{Arg}
use Rattle.clap.specs.declared.builder.command.Command.{Command}
use Rattle.clap.specs.declared.builder.range.ValueRange.{ValueRange}
use Rattle.clap.specs.declared.builder.texts.Texts.TheVariants.{One}
use Rattle.clap.specs.declared.builder.command.Command.TheOpen.{Command-F}
use Rattle.clap.specs.declared.builder.command.Command.TheViews.{out-Command}

-- words without the program's name
abbrev pub without_name : App → App
without_name app = record { top = record app.top { no_binary_name = true }; subs = app.subs }

-- a command that wants a subcommand
abbrev pub with_subcommand_required : App → App
with_subcommand_required app = record { top = record app.top { subcommand_required = true }; subs = app.subs }

pub no_name_of : (fields : Command-F Command) (app : App) →
    app_of_fields fields ≡ app →
    app_of_fields (record fields { no_binary_name = true }) ≡ without_name app
no_name_of fields app is = ap without_name is

pub required_of : (fields : Command-F Command) (app : App) →
    app_of_fields fields ≡ app →
    app_of_fields (record fields { subcommand_required = true }) ≡ with_subcommand_required app
required_of fields app is = ap with_subcommand_required is

-- an argument that has to be there
abbrev pub as_required : Rule → Rule
as_required rule = record rule { required = true }

pub rule_as_required : (arg required : Arg) (rule : Rule) →
    required ≡ record arg { required = true } →
    rule_of arg ≡ rule →
    rule_of required ≡ as_required rule
rule_as_required arg required rule is was = ap rule_of is ∙ ap as_required was

-- one argument more
pub app_with_rule : (old : Command) (arg : Arg) (new : Command) (app : App) (rule : Rule) →
    AddsArg old arg new →
    arg.global ≡ false →
    app_of old ≡ app →
    rule_of arg ≡ rule →
    app_of new ≡ with_rule app rule
app_with_rule old arg new app rule adds local was is =
    adds.shape local ∙ ap (λ (r : Rule). with_rule (app_of old) r) is ∙ ap (λ (a : App). with_rule a rule) was

pub local_with_rule : (old : Command) (arg : Arg) (new : Command) →
    AddsArg old arg new →
    (out-Command old).has_globals ≡ false →
    arg.global ≡ false →
    (out-Command new).has_globals ≡ false
local_with_rule old arg new adds was local = adds.globals ∙ ap (λ (b : Bool). b || arg.global) was ∙ local

-- one subcommand more
pub app_with_subcommand : (old sub new : Command) (app under : App) →
    AddsSubcommand old sub new →
    (out-Command sub).has_globals ≡ false →
    app_of old ≡ app →
    app_of sub ≡ under →
    app_of new ≡ with_subcommand app under.top
app_with_subcommand old sub new app under adds local was is =
    adds.shape local ∙ ap (λ (a : App). with_subcommand (app_of old) a.top) is ∙ ap (λ (a : App). with_subcommand a under.top) was

-- a long name
abbrev pub with_long : List ℕ → Rule → Rule
with_long name rule = record rule { long = Some name }

pub rule_with_long : (arg : Arg) (name : Bor (List ℕ)) (rule : Rule) →
    rule_of arg ≡ rule →
    rule_of (record arg { long = Some name }) ≡ with_long name.now rule
rule_with_long arg name rule is = ap (with_long name.now) is

-- what is done with an option
abbrev pub with_action : ArgAction → Rule → Rule
with_action action rule = record rule { action = Some action }

pub rule_with_action : (arg : Arg) (action : ArgAction) (rule : Rule) →
    rule_of arg ≡ rule →
    rule_of (record arg { action = Some action }) ≡ with_action action rule
rule_with_action arg action rule is = ap (with_action action) is

-- how many values a use has, and its values where it has none
abbrev pub with_range : Option ValueRange → Rule → Rule
with_range range rule = record rule { range = range }

abbrev pub with_missing : Text → Rule → Rule
with_missing value rule = record rule { missing = value ∷ [] }

abbrev range_of : ℕ → ℕ → ValueRange
range_of start end = record { start_inclusive = start; end_inclusive = end }

pub none_or_one : (start end : ℕ) → start ≡ 0 → end ≡ 1 → range_of start (max end start) ≡ range_of 0 1
none_or_one start end is was = ap (λ (n : ℕ). range_of n (max end n)) is ∙ ap (λ (n : ℕ). range_of 0 (max n 0)) was

pub rule_with_missing : (plain ranged full : Arg) (range : ValueRange) (value : Bor (List ℕ)) (rule : Rule) → ranged ≡ record plain { num_vals = ranged.num_vals }
    → IsSomeAnd ranged.num_vals (λ r. r ≡ range) → full ≡ record ranged { default_missing_vals = One value } → rule_of plain ≡ rule
    → rule_of full ≡ with_missing value.now (with_range (Some range) rule)
rule_with_missing plain ranged full range value rule counted given said was =
    ap rule_of said
    ∙ ap (λ (r : Rule). with_missing value.now r) (ap rule_of counted)
    ∙ ap (λ (o : Option ValueRange). with_missing value.now (with_range o (rule_of plain))) (some_range ranged.num_vals given)
    ∙ ap (λ (r : Rule). with_missing value.now (with_range (Some range) r)) was
  where
    some_range : (o : Option ValueRange) → IsSomeAnd o (λ r. r ≡ range) → o ≡ Some range
    some_range None is = absurd is
    some_range (Some r) is = ap Some is
