-- SPDX-License-Identifier: MIT OR Apache-2.0
-- The timers of a connection as time passes.
use Rattle.std.specs.Prelude.{ℕ, ◌+◌, ◌-◌, ◌^◌, min, List, [], ◌∷◌}
use Rattle.conn_rules.specs.declared.state.Drain.{Drain}
use Rattle.conn_rules.specs.Connection.{Connection}

-- the milliseconds, saturated at 2^64 - 1
abbrev pub saturated : ℕ → ℕ
saturated ms = min ms (2 ^ 64 - 1)

-- the drain time after this many milliseconds; it advances only while there are old channels
abbrev pub drained_after : ℕ → List Drain → ℕ → ℕ
drained_after ms [] drained = drained
drained_after ms (d ∷ ds) drained = saturated (drained + ms)

-- the connection after this many milliseconds: the timer of its state and the drain time have
-- advanced
abbrev pub after_pass : ℕ → Connection → Connection
after_pass ms s =
    record s { waited = saturated (s.waited + ms); drained = drained_after ms s.draining s.drained }
