-- SPDX-License-Identifier: MIT OR Apache-2.0
-- What the views of a connection show.
use Rattle.std.specs.Prelude.{ℕ, Bool, true, false, List, [], ◌∷◌, ◌++◌}
use Rattle.conn_rules.specs.declared.state.State.{State}
use Rattle.conn_rules.specs.declared.state.State.TheVariants.{WaitConfirm}
use Rattle.dtap_codec.specs.declared.sapi.Sapi.{Sapi}
use Rattle.hold_queue.specs.ChainState.{TenureHold, tenure_messages}

-- the messages of a SAPI that are held, tenure by tenure
abbrev pub joined : Sapi → List TenureHold → List (List ℕ)
joined sapi [] = []
joined sapi (t ∷ ts) = tenure_messages t sapi ++ joined sapi ts

-- whether the switch was asked for a connection and hasn't answered
abbrev pub awaits_switch : State → Bool
awaits_switch WaitConfirm = true
awaits_switch _ = false
