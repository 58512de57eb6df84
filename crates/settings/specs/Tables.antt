-- SPDX-License-Identifier: MIT OR Apache-2.0
-- The settings in a text, or the first fault of the text.
use Rattle.std.specs.Prelude.{ℕ, ℤ, pos, negsuc, Bool, false, if◌then◌else◌}
use Rattle.std.specs.Prelude.{List, [], ◌∷◌, Option, Some, None, Result, Ok, Err}
use Rattle.std.specs.List.{list_all}
use Rattle.std.specs.Option.{option_or}
use Rattle.octets.specs.Refusal.{first_refusal}
use Rattle.ho_decision.specs.declared.settings.HoParameters.{HoParameters}
use Rattle.toml.specs.Data.{Data, string, integer, boolean, array, table, Items}
use Rattle.toml.specs.Data.{no_items, item, Members, no_members, get_member}
use Rattle.settings.specs.declared.fault.SettingsFault.{SettingsFault}
use Rattle.settings.specs.declared.fault.SettingsFault.TheVariants.{NotToml, Missing}
use Rattle.settings.specs.declared.fault.SettingsFault.TheVariants.{BadType, Repeated}
use Rattle.settings.specs.declared.key.Key.{Key}
use Rattle.settings.specs.declared.key.Key.TheVariants as keys
use Rattle.settings.specs.declared.network.Network.{Network}
use Rattle.settings.specs.declared.timers.Timers.{Timers}
use Rattle.settings.specs.Faults.{valued, typed, is_within, all_items, count_items, is_table}
use Rattle.settings.specs.Faults.{required_table_fault, optional_table_fault, unknown_fault}
use Rattle.settings.specs.Keys.{name_of}
use Rattle.settings.specs.Parameters.{CellParameters, Parameters, bsic_of, all_differ}
use Rattle.settings.specs.Parameters.{channels_differ, same_listen, same_air}
use Rattle.settings.specs.Rules as rules
use Rattle.settings.specs.Rules.{Rule, network_rules, switch_rules, timers_rules}
use Rattle.settings.specs.Rules.{handover_rules, cell_rules, least_cells, most_cells}

-- ---- the values in a table; they have a meaning only if the table has no fault

abbrev pub natural : ℤ → ℕ
natural (pos n) = n
natural (negsuc n) = 0

abbrev pub text_in : Option Data → List ℕ
text_in (Some (string s)) = s
text_in _ = []

abbrev pub number_in : Option Data → ℕ
number_in (Some (integer z)) = natural z
number_in _ = 0

abbrev pub flag_in : Option Data → Bool
flag_in (Some (boolean b)) = b
flag_in _ = false

abbrev pub items_in : Option Data → Items
items_in (Some (array ds)) = ds
items_in _ = no_items

abbrev pub members_in : Option Data → Members
members_in (Some (table ms)) = ms
members_in _ = no_members

abbrev pub numbers_in : Items → List ℕ
numbers_in no_items = []
numbers_in (item d ds) = number_in (Some d) ∷ numbers_in ds

abbrev pub at_key : Key → Members → Option Data
at_key key ms = get_member (name_of key) ms

-- The value at the key of a rule, or the rule's default.
abbrev pub by_rule : Rule → Members → Option Data
by_rule rule ms = option_or (at_key rule.key ms) rule.default

abbrev pub network_of : Members → Network
network_of ms = record {
  mcc = text_in (by_rule rules.mcc ms);
  mnc = text_in (by_rule rules.mnc ms);
  release98 = flag_in (by_rule rules.release98 ms);
}

abbrev pub address_of : Members → List ℕ
address_of ms = text_in (by_rule rules.address ms)

abbrev pub timers_of : Members → Timers
timers_of ms = record {
  t3101_ms = number_in (by_rule rules.t3101 ms);
  t3103_ms = number_in (by_rule rules.t3103 ms);
  t3107_ms = number_in (by_rule rules.t3107 ms);
  drain_ms = number_in (by_rule rules.drain ms);
}

abbrev pub numbers_of : Members → HoParameters
numbers_of ms = record {
  rxlev_window = number_in (by_rule rules.rxlev_window ms);
  rxqual_window = number_in (by_rule rules.rxqual_window ms);
  neighbour_window = number_in (by_rule rules.neighbour_window ms);
  interval = number_in (by_rule rules.power_budget_interval ms);
  hysteresis = number_in (by_rule rules.power_budget_hysteresis ms);
}

abbrev pub cell_of : Members → CellParameters
cell_of ms = record {
  listen = text_in (by_rule rules.listen ms);
  location_area_code = number_in (by_rule rules.location_area_code ms);
  cell_identity = number_in (by_rule rules.cell_identity ms);
  arfcn = number_in (by_rule rules.arfcn ms);
  bsic = bsic_of (number_in (by_rule rules.bsic ms));
  channels = numbers_in (items_in (by_rule rules.cell_channels ms));
}

abbrev pub cells_of : Items → List CellParameters
cells_of no_items = []
cells_of (item d ds) = cell_of (members_in (Some d)) ∷ cells_of ds

-- The settings of a table without a fault, with defaults filled in.
abbrev pub parameters_of : Members → Parameters
parameters_of ms = record {
  network = network_of (members_in (at_key keys.Network ms));
  switch_address = address_of (members_in (at_key keys.Switch ms));
  timers = timers_of (members_in (at_key keys.Timers ms));
  handover = numbers_of (members_in (at_key keys.Handover ms));
  cells = cells_of (items_in (at_key keys.Cell ms));
}

-- ---- faults

-- The first fault of the cells, in order.
abbrev pub each_cell_fault : Items → Option SettingsFault
each_cell_fault no_items = None
each_cell_fault (item d ds) =
    first_refusal (required_table_fault keys.Cell cell_rules (Some d)) (each_cell_fault ds)

abbrev pub cells_fault : Option Data → Option SettingsFault
cells_fault None = Some (Missing keys.Cell)
cells_fault (Some (array ds)) =
    first_refusal (typed keys.Cell (all_items is_table ds))
    (first_refusal (valued keys.Cell (is_within least_cells most_cells (count_items ds)))
    (each_cell_fault ds))
cells_fault (Some _) = Some (BadType keys.Cell)

abbrev pub repeated : Key → Bool → Option SettingsFault
repeated key differs = if differs then None else Some (Repeated key)

-- The first fault of repeated values: a channel that occurs twice in a cell, then an address that
-- two cells share, then an ARFCN and BSIC that two cells share.
abbrev pub repeated_fault : List CellParameters → Option SettingsFault
repeated_fault cells =
    first_refusal (repeated keys.Channels (list_all channels_differ cells))
    (first_refusal (repeated keys.Listen (all_differ same_listen cells))
    (repeated keys.Bsic (all_differ same_air cells)))

abbrev pub the_tables : List Key
the_tables = keys.Network ∷ keys.Switch ∷ keys.Timers ∷ keys.Handover ∷ keys.Cell ∷ []

-- The first fault of a text: an unknown key at the top level, then the faults of the tables in
-- order, then repeated values.
abbrev pub first_fault : Members → Option SettingsFault
first_fault ms =
    first_refusal (unknown_fault None the_tables ms)
    (first_refusal (required_table_fault keys.Network network_rules (at_key keys.Network ms))
    (first_refusal (required_table_fault keys.Switch switch_rules (at_key keys.Switch ms))
    (first_refusal (optional_table_fault keys.Timers timers_rules (at_key keys.Timers ms))
    (first_refusal (optional_table_fault keys.Handover handover_rules (at_key keys.Handover ms))
    (first_refusal (cells_fault (at_key keys.Cell ms))
    (repeated_fault (parameters_of ms).cells))))))

abbrev pub unless_fault : Parameters → Option SettingsFault → Result Parameters SettingsFault
unless_fault values None = Ok values
unless_fault values (Some fault) = Err fault

-- The settings in the parsed members of a text, or the first fault. `None` stands for a text that
-- isn't TOML.
abbrev pub settings_in : Option Members → Result Parameters SettingsFault
settings_in None = Err NotToml
settings_in (Some ms) = unless_fault (parameters_of ms) (first_fault ms)
