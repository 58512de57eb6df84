-- SPDX-License-Identifier: MIT OR Apache-2.0
-- No message that arrives on SAPI 3 is of the flow.
use Rattle.std.specs.Prelude.{◌≡◌, ℕ, ◌≤◌, false, List}
use Rattle.std.specs.List.{AllByRecursion}
use Rattle.world_laws.specs.Prelude.{Input, IsThere, connection_of, word_by, word_in, Word}
use Rattle.world_laws.specs.Prelude.{OnChannel, OnConnection, is_flow_message}
use Rattle.world_laws.specs.Prelude.{AreAllowed, Parameters, Event, all_steps, new_actors}
use Rattle.world_laws.specs.Runs.{world}
use Rattle.conn_rules.specs.declared.input.Input.TheVariants as inputs
use Rattle.controller_model.specs.Views.{held_up}
use Rattle.dtap_codec.specs.declared.sapi.Sapi.TheVariants.{Three}

abbrev pub IsBesideFlow : List ℕ → Type 0
IsBesideFlow message = is_flow_message message ≡ false

abbrev pub BringsBesideFlow : Input → Type 0
BringsBesideFlow (inputs.Dtap at Three message) = IsBesideFlow message
BringsBesideFlow _ = Unit {0}

abbrev pub SaysBesideFlow : Word → Type 0
SaysBesideFlow (OnChannel at input) = BringsBesideFlow input
SaysBesideFlow (OnConnection number input) = BringsBesideFlow input
SaysBesideFlow _ = Unit {0}

-- No message of the flow arrived on SAPI 3 or waits in the inbox on SAPI 3. With allowed settings,
-- no message of the flow on SAPI 3 is held.
pub record FlowIsOnSapiZero (settings : Parameters) (events : List Event) : Type 0 where
  pub received : AllByRecursion (λ step. SaysBesideFlow (word_in step))
      (all_steps (new_actors settings) events)
  pub waits : AllByRecursion (λ item. SaysBesideFlow (word_by item.source item.what))
      (world settings events).inbox
  pub held : AreAllowed settings → (number : ℕ) → 1 ≤ number
      → IsThere (connection_of (world settings events).controller number)
      → AllByRecursion IsBesideFlow (held_up (world settings events).controller number Three)
