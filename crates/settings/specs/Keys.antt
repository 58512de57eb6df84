-- SPDX-License-Identifier: MIT OR Apache-2.0
-- The names of the keys in a text of settings, and the tables that contain them.
use Rattle.std.specs.Prelude.{ℕ, List, ◌++◌, Option, Some, None, codes}
use Rattle.settings.specs.declared.key.Key.{Key}
use Rattle.settings.specs.declared.key.Key.TheVariants as keys

-- The name of a table, or the name of a key without that of its table.
abbrev pub name_of : Key → List ℕ
name_of keys.Network = codes "network"
name_of keys.Mcc = codes "mcc"
name_of keys.Mnc = codes "mnc"
name_of keys.Release98 = codes "release98"
name_of keys.Switch = codes "switch"
name_of keys.Address = codes "address"
name_of keys.Timers = codes "timers"
name_of keys.T3101 = codes "t3101_ms"
name_of keys.T3103 = codes "t3103_ms"
name_of keys.T3107 = codes "t3107_ms"
name_of keys.Drain = codes "drain_ms"
name_of keys.Handover = codes "handover1"
name_of keys.RxlevWindow = codes "window_rxlev_averaging"
name_of keys.RxqualWindow = codes "window_rxqual_averaging"
name_of keys.NeighbourWindow = codes "window_rxlev_neighbor_averaging"
name_of keys.PowerBudgetInterval = codes "power_budget_interval"
name_of keys.PowerBudgetHysteresis = codes "power_budget_hysteresis"
name_of keys.Cell = codes "cell"
name_of keys.Listen = codes "listen"
name_of keys.LocationAreaCode = codes "lac"
name_of keys.CellIdentity = codes "ci"
name_of keys.Arfcn = codes "arfcn"
name_of keys.Bsic = codes "bsic"
name_of keys.Channels = codes "channels"

-- The table that contains a key, or `None` for a table.
abbrev pub table_of : Key → Option Key
table_of keys.Mcc = Some keys.Network
table_of keys.Mnc = Some keys.Network
table_of keys.Release98 = Some keys.Network
table_of keys.Address = Some keys.Switch
table_of keys.T3101 = Some keys.Timers
table_of keys.T3103 = Some keys.Timers
table_of keys.T3107 = Some keys.Timers
table_of keys.Drain = Some keys.Timers
table_of keys.RxlevWindow = Some keys.Handover
table_of keys.RxqualWindow = Some keys.Handover
table_of keys.NeighbourWindow = Some keys.Handover
table_of keys.PowerBudgetInterval = Some keys.Handover
table_of keys.PowerBudgetHysteresis = Some keys.Handover
table_of keys.Listen = Some keys.Cell
table_of keys.LocationAreaCode = Some keys.Cell
table_of keys.CellIdentity = Some keys.Cell
table_of keys.Arfcn = Some keys.Cell
table_of keys.Bsic = Some keys.Cell
table_of keys.Channels = Some keys.Cell
table_of _ = None

-- The full name of a key: the name of its table, a dot and its own name, or only its own name at
-- the top level.
abbrev pub path_in : Option Key → List ℕ → List ℕ
path_in None name = name
path_in (Some table) name = name_of table ++ codes "." ++ name

-- The full name of a key.
abbrev pub path_of : Key → List ℕ
path_of key = path_in (table_of key) (name_of key)
