-- SPDX-License-Identifier: MIT OR Apache-2.0
-- The rules of the keys: the kind of value that a key holds, and its default. A key without a
-- default is required.
use Rattle.std.specs.Prelude.{ℕ, pos, false, List, [], ◌∷◌, Option, Some, None}
use Rattle.toml.specs.Data.{Data, integer, boolean}
use Rattle.settings.specs.declared.key.Key.{Key}
use Rattle.settings.specs.declared.key.Key.TheVariants as keys

-- The kind of value that a key holds. `text`: a text that isn't empty. `digits`: a text of decimal
-- digits, with the least and the greatest number of digits. `number`: an integer, with its least
-- and greatest value. `flag`: true or false. `channels`: a list of numbers of TCHs and SDCCHs, with
-- its least and greatest length.
pub data Kind : Type 0 where
  text : Kind
  digits : ℕ → ℕ → Kind
  number : ℕ → ℕ → Kind
  flag : Kind
  channels : ℕ → ℕ → Kind

pub record Rule : Type 0 where
  pub key : Key
  pub kind : Kind
  pub default : Option Data

abbrev pub required : Key → Kind → Rule
required key kind = record { key = key; kind = kind; default = None }

-- An integer from `least` to `greatest`, with a default.
abbrev pub optional_number : Key → ℕ → ℕ → ℕ → Rule
optional_number key least greatest default =
    record { key = key; kind = number least greatest; default = Some (integer (pos default)) }

abbrev pub optional_flag : Key → Rule
optional_flag key = record { key = key; kind = flag; default = Some (boolean false) }

-- ---- network

abbrev pub mcc : Rule
mcc = required keys.Mcc (digits 3 3)

abbrev pub mnc : Rule
mnc = required keys.Mnc (digits 2 3)

abbrev pub release98 : Rule
release98 = optional_flag keys.Release98

abbrev pub network_rules : List Rule
network_rules = mcc ∷ mnc ∷ release98 ∷ []

-- ---- switch

abbrev pub address : Rule
address = required keys.Address text

abbrev pub switch_rules : List Rule
switch_rules = address ∷ []

-- ---- timers, in milliseconds

abbrev pub t3101 : Rule
t3101 = optional_number keys.T3101 100 60000 3000

abbrev pub t3103 : Rule
t3103 = optional_number keys.T3103 100 60000 5000

abbrev pub t3107 : Rule
t3107 = optional_number keys.T3107 100 60000 5000

abbrev pub drain : Rule
drain = optional_number keys.Drain 100 60000 2000

abbrev pub timers_rules : List Rule
timers_rules = t3101 ∷ t3103 ∷ t3107 ∷ drain ∷ []

-- ---- handover, windows and interval in reports, hysteresis in dB

abbrev pub rxlev_window : Rule
rxlev_window = optional_number keys.RxlevWindow 1 10 10

abbrev pub rxqual_window : Rule
rxqual_window = optional_number keys.RxqualWindow 1 10 1

abbrev pub neighbour_window : Rule
neighbour_window = optional_number keys.NeighbourWindow 1 10 10

abbrev pub power_budget_interval : Rule
power_budget_interval = optional_number keys.PowerBudgetInterval 1 99 6

abbrev pub power_budget_hysteresis : Rule
power_budget_hysteresis = optional_number keys.PowerBudgetHysteresis 0 63 3

abbrev pub handover_rules : List Rule
handover_rules =
    rxlev_window ∷ rxqual_window ∷ neighbour_window ∷ power_budget_interval
    ∷ power_budget_hysteresis ∷ []

-- ---- the cells, 1 to 32

abbrev pub least_cells : ℕ
least_cells = 1

abbrev pub most_cells : ℕ
most_cells = 32

abbrev pub listen : Rule
listen = required keys.Listen text

abbrev pub location_area_code : Rule
location_area_code = required keys.LocationAreaCode (number 0 65535)

abbrev pub cell_identity : Rule
cell_identity = required keys.CellIdentity (number 0 65535)

abbrev pub arfcn : Rule
arfcn = required keys.Arfcn (number 1 1023)

abbrev pub bsic : Rule
bsic = required keys.Bsic (number 0 63)

abbrev pub cell_channels : Rule
cell_channels = required keys.Channels (channels 1 64)

abbrev pub cell_rules : List Rule
cell_rules = listen ∷ location_area_code ∷ cell_identity ∷ arfcn ∷ bsic ∷ cell_channels ∷ []
