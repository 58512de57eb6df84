-- SPDX-License-Identifier: MIT OR Apache-2.0
-- The settings as found in a table. Their texts and lists are borrowed from the table.
use Rattle.std.specs.Prelude.{◌≡◌, ◌≤◌, Some, None, true, length}
use Rattle.toml.specs.View.{view, items_view}
use Rattle.toml.specs.declared.value.Value.{Value}
use Rattle.settings.specs.declared.cell.CellFound.{CellFound}
use Rattle.settings.specs.declared.network.Network.{Network}
use Rattle.settings.specs.declared.network.NetworkFound.{NetworkFound}
use Rattle.settings.specs.declared.found.Found.{Found}
use Rattle.settings.specs.Faults.{all_items, is_channel}
use Rattle.settings.specs.Parameters.{CellParameters, Parameters, a_cell, parameters}
use Rattle.settings.specs.Parameters.{IsNetwork, AreTimers, IsHandover, IsUnrepeated}
use Rattle.settings.specs.Tables.{numbers_in, members_in, cell_of, cells_of, each_cell_fault}

abbrev pub network_found : NetworkFound → Network
network_found n = record { mcc = n.mcc.now; mnc = n.mnc.now; release98 = n.release98 }

abbrev pub cell_found : CellFound → CellParameters
cell_found c =
    a_cell c.listen.now c.location_area_code c.cell_identity c.arfcn c.bsic
    (numbers_in (items_view c.channels.now))

-- The cell in a value that may have faults. Absent values and values of the wrong type are empty or
-- 0.
abbrev pub cell_seen : Value → CellParameters
cell_seen value = cell_of (members_in (Some (view value)))

-- The ranges that the values of a found cell keep if the cell has no fault.
pub record IsCellFound (c : CellFound) : Type 0 where
  pub arfcn : (1 ≤ c.arfcn) × (c.arfcn ≤ 1023)
  pub count : (1 ≤ length c.channels.now) × (length c.channels.now ≤ 64)
  pub channels : all_items is_channel (items_view c.channels.now) ≡ true

abbrev pub settings_found : Found → Parameters
settings_found f =
    parameters (network_found f.network) f.switch_address.now f.timers f.handover
    (cells_of (items_view f.cells.now))

-- What holds for found settings that have no fault: the values are in their ranges, the cells have
-- no fault, and no value that must be unique occurs twice.
pub record AreFound (f : Found) : Type 0 where
  pub network : IsNetwork (network_found f.network)
  pub timers : AreTimers f.timers
  pub handover : IsHandover f.handover
  pub count : (1 ≤ length f.cells.now) × (length f.cells.now ≤ 32)
  pub cells : each_cell_fault (items_view f.cells.now) ≡ None
  pub unrepeated : IsUnrepeated (cells_of (items_view f.cells.now))
