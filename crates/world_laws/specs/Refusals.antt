-- SPDX-License-Identifier: MIT OR Apache-2.0
-- Stations refuse no activation.
use Rattle.std.specs.Prelude.{List}
use Rattle.std.specs.List.{AllByRecursion}
use Rattle.conn_rules.specs.declared.input.Input.TheVariants as inputs
use Rattle.world_laws.specs.Prelude.{word_by, word_in, Word, OnChannel, Parameters, Event}
use Rattle.world_laws.specs.Prelude.{all_steps, new_actors}
use Rattle.world_laws.specs.Runs.{world}

abbrev pub RefusesNone : Word → Type 0
RefusesNone (OnChannel at (inputs.ActivationNack place)) = ⊥
RefusesNone _ = Unit {0}

-- No CHANNEL ACTIVATION NEGATIVE ACKNOWLEDGE was received, and no such message waits in the inbox.
pub record NoneRefuse (settings : Parameters) (events : List Event) : Type 0 where
  pub received : AllByRecursion (λ step. RefusesNone (word_in step))
      (all_steps (new_actors settings) events)
  pub waits : AllByRecursion (λ item. RefusesNone (word_by item.source item.what))
      (world settings events).inbox
