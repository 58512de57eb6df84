-- SPDX-License-Identifier: MIT OR Apache-2.0
-- The state that the fields of a judge represent.
use Rattle.std.specs.Prelude.{ℕ, ◌==◌, List, Option, Some, None}
use Rattle.std.specs.Map.{keys_of, lookup, values_of}
use Rattle.dtap_codec.specs.Number.{count_of}
use Rattle.run_judge.specs.declared.judge.Judge.{Judge}
use Rattle.run_judge.specs.declared.judge.Named.{Named}
use Rattle.run_judge.specs.declared.judge.Named.TheVariants.{One}
use Rattle.run_judge.specs.declared.said.Said.{Said}
use Rattle.run_judge.specs.declared.said.Said.TheVariants as says
use Rattle.run_judge.specs.ConnectionState.{ConnectionState}
use Rattle.run_judge.specs.Judging.{Judging, after}

-- The value of a key in a list of entries.
unfoldable pub entries_at : {A : Type 0} → List (ℕ × A) → ℕ → Option A
entries_at entries key = lookup (λ other. key == other) entries

abbrev pub shown : Judge → Judging
shown j = record {
  modulus = count_of j.modulus;
  cells = j.cells.items;
  begun = j.begun;
  connections = entries_at j.connections.entries;
  by_switch = entries_at j.by_switch.entries;
  channels = j.channels;
}

-- The connections that haven't ended, in no particular order.
abbrev pub connections_left : Judge → List ConnectionState
connections_left j = values_of j.connections.entries

-- The controller's references of `connections_left`, in the same order.
abbrev pub references_left : Judge → List ℕ
references_left j = keys_of j.connections.entries

-- The controller's reference of the only connection that has a switch's reference; `None` if the
-- switch's reference isn't in use or is shared.
abbrev pub reference_named : Option Named → Option ℕ
reference_named (Some (One reference)) = Some reference
reference_named _ = None

-- The state after a frame of the switch's link that neither begins nor ends a connection. Other
-- frames leave the state unchanged.
abbrev pub after_of_switch_link : ℕ → Said → Judging → Judging
after_of_switch_link frame (says.Passes destination sapi message) j =
    after frame (says.Passes destination sapi message) j
after_of_switch_link frame (says.Transfers destination sapi message) j =
    after frame (says.Transfers destination sapi message) j
after_of_switch_link frame (says.Confirms destination source) j =
    after frame (says.Confirms destination source) j
after_of_switch_link frame (says.Rejects destination) j =
    after frame (says.Rejects destination) j
after_of_switch_link frame (says.Clears destination) j = after frame (says.Clears destination) j
after_of_switch_link frame (says.Manages destination) j = after frame (says.Manages destination) j
after_of_switch_link frame said j = j

-- The state after a frame; unchanged if the frame begins or ends a connection.
abbrev pub after_message : ℕ → Said → Judging → Judging
after_message frame (says.Requests source message) j = j
after_message frame (says.Ends source) j = j
after_message frame (says.Refuses destination) j = j
after_message frame said j = after frame said j
