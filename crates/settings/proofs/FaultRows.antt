-- SPDX-License-Identifier: MIT OR Apache-2.0
-- Checks tables with their first fault: each fault alone, and of two faults that are neighbours in
-- the order the first.
use Rattle.std.proofs.Common.{◌≡◌, ℕ, pos, true, List, [], ◌∷◌, Option, Some, None, codes, zero, suc, refl}
use Rattle.octets.proofs.Hex.{hex}
use Rattle.toml.specs.Data.{Data, string, integer, boolean, array, table, Items, no_items, item, Members, no_members, member}
use Rattle.settings.specs.declared.fault.SettingsFault.{SettingsFault}
use Rattle.settings.specs.declared.fault.SettingsFault.TheVariants.{Unknown, Missing, BadType, BadValue, Repeated}
use Rattle.settings.specs.declared.key.Key.TheVariants as keys
use Rattle.settings.specs.Tables.{first_fault}

-- ---- tables by their values

abbrev number : ℕ → Data
number n = integer (pos n)

abbrev words : List ℕ → Data
words text = string text

-- a further key that isn't known
abbrev and_unknown : Data → Data
and_unknown (table ms) = table (member (codes "colour") (boolean true) ms)
and_unknown d = d

abbrev network_with : Data → Data → Data → Data
network_with mcc mnc flag = table (member (codes "mcc") mcc (member (codes "mnc") mnc (member (codes "release98") flag no_members)))

abbrev network : Data
network = network_with (words (codes "001")) (words (codes "01")) (boolean true)

abbrev network_without_mcc : Data → Data
network_without_mcc mnc = table (member (codes "mnc") mnc no_members)

abbrev switch_with : Data → Data
switch_with address = table (member (codes "address") address no_members)

abbrev switch : Data
switch = switch_with (words (codes "127.0.0.1:5000"))

abbrev timers_with : ℕ → ℕ → ℕ → ℕ → Data
timers_with t3101 t3103 t3107 drain =
    table (member (codes "t3101_ms") (number t3101) (member (codes "t3103_ms") (number t3103) (member (codes "t3107_ms") (number t3107) (member (codes "drain_ms") (number drain) no_members))))

abbrev timers : Data
timers = timers_with 101 202 303 404

abbrev handover_with : ℕ → ℕ → ℕ → ℕ → ℕ → Data
handover_with rxlev rxqual neighbour interval hysteresis =
    table (member (codes "window_rxlev_averaging") (number rxlev) (member (codes "window_rxqual_averaging") (number rxqual) (member (codes "window_rxlev_neighbor_averaging") (number neighbour)
    (member (codes "power_budget_interval") (number interval) (member (codes "power_budget_hysteresis") (number hysteresis) no_members)))))

abbrev handover : Data
handover = handover_with 2 3 4 5 6

abbrev items : List Data → Items
items [] = no_items
items (d ∷ ds) = item d (items ds)

abbrev numbers : List ℕ → Items
numbers [] = no_items
numbers (n ∷ ns) = item (number n) (numbers ns)

abbrev cell_with : Data → ℕ → ℕ → ℕ → ℕ → List ℕ → Data
cell_with listen lac ci arfcn bsic channels =
    table (member (codes "listen") listen (member (codes "lac") (number lac) (member (codes "ci") (number ci)
    (member (codes "arfcn") (number arfcn) (member (codes "bsic") (number bsic) (member (codes "channels") (array (numbers channels)) no_members))))))

abbrev first_cell : Data
first_cell = cell_with (words (codes "a")) 1 2 20 9 (hex "41 0a")

abbrev second_cell : Data
second_cell = cell_with (words (codes "b")) 1 3 30 18 (hex "41 0a")

abbrev two_cells : Data
two_cells = array (items (first_cell ∷ second_cell ∷ []))

-- all tables, and more members beside them
abbrev tables : Data → Data → Data → Data → Data → Members → Members
tables n s t h c more = member (codes "cell") c (member (codes "handover1") h (member (codes "network") n (member (codes "switch") s (member (codes "timers") t more))))

abbrev with_network : Data → Option SettingsFault
with_network n = first_fault (tables n switch timers handover two_cells no_members)

abbrev with_timers : Data → Option SettingsFault
with_timers t = first_fault (tables network switch t handover two_cells no_members)

abbrev with_handover : Data → Option SettingsFault
with_handover h = first_fault (tables network switch timers h two_cells no_members)

abbrev with_cells : List Data → Option SettingsFault
with_cells cells = first_fault (tables network switch timers handover (array (items cells)) no_members)

-- ---- no fault

allowed : first_fault (tables network switch timers handover two_cells no_members) ≡ None
allowed = refl

-- timers and handover may be absent
without_optional : first_fault (member (codes "network") network (member (codes "switch") switch (member (codes "cell") two_cells no_members))) ≡ None
without_optional = refl

-- ---- tables that are absent, or of another type

without_network : first_fault no_members ≡ Some (Missing keys.Network)
without_network = refl

without_switch : first_fault (member (codes "network") network no_members) ≡ Some (Missing keys.Switch)
without_switch = refl

without_cell : first_fault (member (codes "network") network (member (codes "switch") switch no_members)) ≡ Some (Missing keys.Cell)
without_cell = refl

network_of_another_type : with_network (words (codes "001")) ≡ Some (BadType keys.Network)
network_of_another_type = refl

switch_of_another_type : first_fault (tables network (number 1) timers handover two_cells no_members) ≡ Some (BadType keys.Switch)
switch_of_another_type = refl

cell_of_another_type : first_fault (tables network switch timers handover first_cell no_members) ≡ Some (BadType keys.Cell)
cell_of_another_type = refl

no_cells : with_cells [] ≡ Some (BadValue keys.Cell)
no_cells = refl

-- ---- unknown keys

least_unknown_key : first_fault (member (codes "zeta") network (member (codes "alpha") network (member (codes "beta") network no_members))) ≡ Some (Unknown (codes "alpha"))
least_unknown_key = refl

-- by octets: capital letters are first, and the beginning of a name is before the name
least_by_octets : first_fault (member (codes "cells") network (member (codes "Zeta") network (member (codes "Ze") network no_members))) ≡ Some (Unknown (codes "Ze"))
least_by_octets = refl

unknown_in_network : with_network (and_unknown network) ≡ Some (Unknown (codes "network.colour"))
unknown_in_network = refl

unknown_in_cell : with_cells (first_cell ∷ and_unknown second_cell ∷ []) ≡ Some (Unknown (codes "cell.colour"))
unknown_in_cell = refl

-- ---- neighbours in the order: the top, network, switch

unknown_before_network : first_fault (tables (number 1) switch timers handover two_cells (member (codes "colour") (number 1) no_members)) ≡ Some (Unknown (codes "colour"))
unknown_before_network = refl

unknown_before_mcc : with_network (and_unknown (network_without_mcc (words (codes "01")))) ≡ Some (Unknown (codes "network.colour"))
unknown_before_mcc = refl

mcc_before_mnc : with_network (network_without_mcc (number 1)) ≡ Some (Missing keys.Mcc)
mcc_before_mnc = refl

mnc_before_release98 : with_network (network_with (words (codes "001")) (words (codes "1")) (number 1)) ≡ Some (BadValue keys.Mnc)
mnc_before_release98 = refl

release98_before_switch : first_fault (member (codes "network") (network_with (words (codes "001")) (words (codes "01")) (number 1)) no_members) ≡ Some (BadType keys.Release98)
release98_before_switch = refl

unknown_before_address : first_fault (tables network (and_unknown (table no_members)) timers handover two_cells no_members) ≡ Some (Unknown (codes "switch.colour"))
unknown_before_address = refl

address_before_timers : first_fault (tables network (switch_with (words [])) (number 1) handover two_cells no_members) ≡ Some (BadValue keys.Address)
address_before_timers = refl

-- ---- timers

timers_before_handover : first_fault (tables network switch (number 1) (number 1) two_cells no_members) ≡ Some (BadType keys.Timers)
timers_before_handover = refl

unknown_before_t3101 : with_timers (and_unknown (timers_with 99 202 303 404)) ≡ Some (Unknown (codes "timers.colour"))
unknown_before_t3101 = refl

t3101_before_t3103 : with_timers (timers_with 99 60001 303 404) ≡ Some (BadValue keys.T3101)
t3101_before_t3103 = refl

t3103_before_t3107 : with_timers (timers_with 101 60001 99 404) ≡ Some (BadValue keys.T3103)
t3103_before_t3107 = refl

t3107_before_drain : with_timers (timers_with 101 202 99 60001) ≡ Some (BadValue keys.T3107)
t3107_before_drain = refl

drain_before_handover : first_fault (tables network switch (timers_with 101 202 303 99) (number 1) two_cells no_members) ≡ Some (BadValue keys.Drain)
drain_before_handover = refl

-- ---- handover

handover_before_cell : first_fault (tables network switch timers (number 1) (number 1) no_members) ≡ Some (BadType keys.Handover)
handover_before_cell = refl

unknown_before_rxlev : with_handover (and_unknown (handover_with 0 3 4 5 6)) ≡ Some (Unknown (codes "handover1.colour"))
unknown_before_rxlev = refl

rxlev_before_rxqual : with_handover (handover_with 0 11 4 5 6) ≡ Some (BadValue keys.RxlevWindow)
rxlev_before_rxqual = refl

rxqual_before_neighbour : with_handover (handover_with 2 0 11 5 6) ≡ Some (BadValue keys.RxqualWindow)
rxqual_before_neighbour = refl

neighbour_before_interval : with_handover (handover_with 2 3 11 0 6) ≡ Some (BadValue keys.NeighbourWindow)
neighbour_before_interval = refl

interval_before_hysteresis : with_handover (handover_with 2 3 4 100 64) ≡ Some (BadValue keys.PowerBudgetInterval)
interval_before_hysteresis = refl

hysteresis_before_cell : first_fault (tables network switch timers (handover_with 2 3 4 5 64) (number 1) no_members) ≡ Some (BadValue keys.PowerBudgetHysteresis)
hysteresis_before_cell = refl

-- ---- cells

-- so many times a cell, with these behind it
abbrev and_cells : ℕ → Data → List Data → List Data
and_cells zero cell ds = ds
and_cells (suc n) cell ds = cell ∷ and_cells n cell ds

-- so many cells that differ in address and ARFCN
abbrev many_cells : ℕ → List Data
many_cells zero = []
many_cells (suc n) = cell_with (words (n ∷ [])) 1 2 (suc n) 9 (0x41 ∷ []) ∷ many_cells n

thirty_two_cells : with_cells (many_cells 32) ≡ None
thirty_two_cells = refl

thirty_three_cells : with_cells (many_cells 33) ≡ Some (BadValue keys.Cell)
thirty_three_cells = refl

type_before_count : with_cells (and_cells 32 first_cell (number 1 ∷ [])) ≡ Some (BadType keys.Cell)
type_before_count = refl

type_before_earlier_cell : with_cells (and_unknown first_cell ∷ number 1 ∷ []) ≡ Some (BadType keys.Cell)
type_before_earlier_cell = refl

count_before_cell : with_cells (and_cells 33 (and_unknown first_cell) []) ≡ Some (BadValue keys.Cell)
count_before_cell = refl

unknown_before_listen : with_cells (and_unknown (cell_with (words []) 1 2 20 9 (0x41 ∷ [])) ∷ []) ≡ Some (Unknown (codes "cell.colour"))
unknown_before_listen = refl

listen_before_lac : with_cells (cell_with (words []) 65536 2 20 9 (0x41 ∷ []) ∷ []) ≡ Some (BadValue keys.Listen)
listen_before_lac = refl

lac_before_ci : with_cells (cell_with (words (codes "a")) 65536 65536 20 9 (0x41 ∷ []) ∷ []) ≡ Some (BadValue keys.LocationAreaCode)
lac_before_ci = refl

ci_before_arfcn : with_cells (cell_with (words (codes "a")) 1 65536 0 9 (0x41 ∷ []) ∷ []) ≡ Some (BadValue keys.CellIdentity)
ci_before_arfcn = refl

arfcn_before_bsic : with_cells (cell_with (words (codes "a")) 1 2 0 64 (0x41 ∷ []) ∷ []) ≡ Some (BadValue keys.Arfcn)
arfcn_before_bsic = refl

bsic_before_channels : with_cells (cell_with (words (codes "a")) 1 2 20 64 [] ∷ []) ≡ Some (BadValue keys.Bsic)
bsic_before_channels = refl

earlier_cell_first : with_cells (cell_with (words (codes "a")) 1 2 20 9 [] ∷ and_unknown second_cell ∷ []) ≡ Some (BadValue keys.Channels)
earlier_cell_first = refl

-- ---- what is repeated

cells_before_repeated : with_cells (cell_with (words (codes "a")) 1 2 20 9 (hex "41 41") ∷ cell_with (words (codes "b")) 1 2 20 9 [] ∷ []) ≡ Some (BadValue keys.Channels)
cells_before_repeated = refl

repeated_channel : with_cells (first_cell ∷ cell_with (words (codes "b")) 1 2 30 18 (hex "41 0a 41") ∷ []) ≡ Some (Repeated keys.Channels)
repeated_channel = refl

-- a channel twice in the second cell, where both have one address
channels_before_listen : with_cells (first_cell ∷ cell_with (words (codes "a")) 1 2 30 18 (hex "41 41") ∷ []) ≡ Some (Repeated keys.Channels)
channels_before_listen = refl

-- the last two cells have one address, the first two one ARFCN and BSIC
listen_before_bsic : with_cells (first_cell ∷ cell_with (words (codes "b")) 1 2 20 9 (0x41 ∷ []) ∷ cell_with (words (codes "b")) 1 2 30 9 (0x41 ∷ []) ∷ []) ≡ Some (Repeated keys.Listen)
listen_before_bsic = refl

repeated_bsic : with_cells (first_cell ∷ cell_with (words (codes "b")) 1 2 20 9 (0x41 ∷ []) ∷ []) ≡ Some (Repeated keys.Bsic)
repeated_bsic = refl

-- one ARFCN with two base station identity codes, and the other way round
other_air : with_cells (first_cell ∷ cell_with (words (codes "b")) 1 2 20 10 (0x41 ∷ []) ∷ cell_with (words (codes "c")) 1 2 20 17 (0x41 ∷ []) ∷ cell_with (words (codes "d")) 1 2 30 9 (0x41 ∷ []) ∷ []) ≡ None
other_air = refl
