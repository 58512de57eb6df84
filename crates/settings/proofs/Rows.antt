-- SPDX-License-Identifier: MIT OR Apache-2.0
-- Checks the rules of the keys on literal values: limits, defaults, names.
use Rattle.std.proofs.Common.{◌≡◌, ℕ, ℤ, pos, negsuc, true, false, List, [], ◌∷◌, map, Option, Some, None, codes, zero, suc, refl}
use Rattle.octets.proofs.Hex.{hex}
use Rattle.toml.specs.Data.{Data, string, integer, boolean, array, table, Items, no_items, item, no_members, member}
use Rattle.settings.specs.declared.fault.SettingsFault.{SettingsFault}
use Rattle.settings.specs.declared.fault.SettingsFault.TheVariants.{Missing, BadType, BadValue}
use Rattle.settings.specs.declared.key.Key.{Key}
use Rattle.settings.specs.declared.key.Key.TheVariants as keys
use Rattle.settings.specs.Faults.{key_fault}
use Rattle.settings.specs.Keys.{path_of}
use Rattle.settings.specs.Rules as rules
use Rattle.settings.specs.Rules.{Rule}
use Rattle.settings.specs.Parameters.{bsic_of, number_of}
use Rattle.settings.specs.Tables.{network_of, timers_of, numbers_of}

-- the faults of a key that holds these values in turn
abbrev faults_at : List ℕ → Rule → List Data → List (Option SettingsFault)
faults_at name rule values = map (λ d. key_fault rule (member name d no_members)) values

abbrev numbers_at : List ℕ → Rule → List ℤ → List (Option SettingsFault)
numbers_at name rule numbers = faults_at name rule (map integer numbers)

-- below the least, the least, the greatest, above the greatest
abbrev at_limits : Key → List (Option SettingsFault)
at_limits key = Some (BadValue key) ∷ None ∷ None ∷ Some (BadValue key) ∷ []

-- ---- texts

mcc_digits : faults_at (codes "mcc") rules.mcc (string (codes "01") ∷ string (codes "001") ∷ string (codes "0001") ∷ string (codes "00a") ∷ string (codes "/00") ∷ string (codes ":00") ∷ string (codes "909") ∷ []) ≡
    Some (BadValue keys.Mcc) ∷ None ∷ Some (BadValue keys.Mcc) ∷ Some (BadValue keys.Mcc) ∷ Some (BadValue keys.Mcc) ∷ Some (BadValue keys.Mcc) ∷ None ∷ []
mcc_digits = refl

mnc_digits : faults_at (codes "mnc") rules.mnc (string (codes "1") ∷ string (codes "01") ∷ string (codes "001") ∷ string (codes "0001") ∷ []) ≡ at_limits keys.Mnc
mnc_digits = refl

mnc_type : faults_at (codes "mnc") rules.mnc (integer (pos 12) ∷ []) ≡ Some (BadType keys.Mnc) ∷ []
mnc_type = refl

address_texts : faults_at (codes "address") rules.address (string [] ∷ string (codes "a") ∷ boolean true ∷ []) ≡ Some (BadValue keys.Address) ∷ None ∷ Some (BadType keys.Address) ∷ []
address_texts = refl

listen_texts : faults_at (codes "listen") rules.listen (string [] ∷ string (codes "a") ∷ integer (pos 3003) ∷ []) ≡ Some (BadValue keys.Listen) ∷ None ∷ Some (BadType keys.Listen) ∷ []
listen_texts = refl

-- ---- numbers

t3101_limits : numbers_at (codes "t3101_ms") rules.t3101 (pos 99 ∷ pos 100 ∷ pos 60000 ∷ pos 60001 ∷ []) ≡ at_limits keys.T3101
t3101_limits = refl

t3103_limits : numbers_at (codes "t3103_ms") rules.t3103 (pos 99 ∷ pos 100 ∷ pos 60000 ∷ pos 60001 ∷ []) ≡ at_limits keys.T3103
t3103_limits = refl

t3107_limits : numbers_at (codes "t3107_ms") rules.t3107 (pos 99 ∷ pos 100 ∷ pos 60000 ∷ pos 60001 ∷ []) ≡ at_limits keys.T3107
t3107_limits = refl

drain_limits : numbers_at (codes "drain_ms") rules.drain (pos 99 ∷ pos 100 ∷ pos 60000 ∷ pos 60001 ∷ []) ≡ at_limits keys.Drain
drain_limits = refl

rxlev_limits : numbers_at (codes "window_rxlev_averaging") rules.rxlev_window (pos 0 ∷ pos 1 ∷ pos 10 ∷ pos 11 ∷ []) ≡ at_limits keys.RxlevWindow
rxlev_limits = refl

rxqual_limits : numbers_at (codes "window_rxqual_averaging") rules.rxqual_window (pos 0 ∷ pos 1 ∷ pos 10 ∷ pos 11 ∷ []) ≡ at_limits keys.RxqualWindow
rxqual_limits = refl

neighbour_limits : numbers_at (codes "window_rxlev_neighbor_averaging") rules.neighbour_window (pos 0 ∷ pos 1 ∷ pos 10 ∷ pos 11 ∷ []) ≡ at_limits keys.NeighbourWindow
neighbour_limits = refl

interval_limits : numbers_at (codes "power_budget_interval") rules.power_budget_interval (pos 0 ∷ pos 1 ∷ pos 99 ∷ pos 100 ∷ []) ≡ at_limits keys.PowerBudgetInterval
interval_limits = refl

hysteresis_limits : numbers_at (codes "power_budget_hysteresis") rules.power_budget_hysteresis (negsuc 0 ∷ pos 0 ∷ pos 63 ∷ pos 64 ∷ []) ≡ at_limits keys.PowerBudgetHysteresis
hysteresis_limits = refl

lac_limits : numbers_at (codes "lac") rules.location_area_code (negsuc 0 ∷ pos 0 ∷ pos 65535 ∷ pos 65536 ∷ []) ≡ at_limits keys.LocationAreaCode
lac_limits = refl

ci_limits : numbers_at (codes "ci") rules.cell_identity (negsuc 0 ∷ pos 0 ∷ pos 65535 ∷ pos 65536 ∷ []) ≡ at_limits keys.CellIdentity
ci_limits = refl

arfcn_limits : numbers_at (codes "arfcn") rules.arfcn (pos 0 ∷ pos 1 ∷ pos 1023 ∷ pos 1024 ∷ []) ≡ at_limits keys.Arfcn
arfcn_limits = refl

bsic_limits : numbers_at (codes "bsic") rules.bsic (negsuc 0 ∷ pos 0 ∷ pos 63 ∷ pos 64 ∷ []) ≡ at_limits keys.Bsic
bsic_limits = refl

number_types : faults_at (codes "bsic") rules.bsic (string (codes "9") ∷ boolean true ∷ array no_items ∷ table no_members ∷ []) ≡
    Some (BadType keys.Bsic) ∷ Some (BadType keys.Bsic) ∷ Some (BadType keys.Bsic) ∷ Some (BadType keys.Bsic) ∷ []
number_types = refl

-- ---- true or false

flag_types : faults_at (codes "release98") rules.release98 (boolean true ∷ boolean false ∷ integer (pos 1) ∷ string (codes "true") ∷ []) ≡
    None ∷ None ∷ Some (BadType keys.Release98) ∷ Some (BadType keys.Release98) ∷ []
flag_types = refl

-- ---- channels

-- so many times this value
abbrev times : ℕ → Data → Items
times zero d = no_items
times (suc n) d = item d (times n d)

channels_counts : faults_at (codes "channels") rules.cell_channels (array no_items ∷ array (times 1 (integer (pos 0x41))) ∷ array (times 64 (integer (pos 0x41))) ∷ array (times 65 (integer (pos 0x41))) ∷ []) ≡ at_limits keys.Channels
channels_counts = refl

-- no RACH and no PCH
channels_numbers : faults_at (codes "channels") rules.cell_channels (map (λ n. array (times 1 (integer (pos n)))) (hex "07 08 7f 80 88 90")) ≡
    Some (BadValue keys.Channels) ∷ None ∷ None ∷ Some (BadValue keys.Channels) ∷ Some (BadValue keys.Channels) ∷ Some (BadValue keys.Channels) ∷ []
channels_numbers = refl

channels_types : faults_at (codes "channels") rules.cell_channels (integer (pos 0x41) ∷ array (item (integer (pos 0x07)) (item (string (codes "41")) no_items)) ∷ array (times 65 (boolean true)) ∷ []) ≡
    Some (BadType keys.Channels) ∷ Some (BadType keys.Channels) ∷ Some (BadType keys.Channels) ∷ []
channels_types = refl

-- ---- what isn't there

-- the fault of each key of a table without keys
abbrev absent : List Rule → List (Option SettingsFault)
absent rs = map (λ rule. key_fault rule no_members) rs

network_absent : absent rules.network_rules ≡ Some (Missing keys.Mcc) ∷ Some (Missing keys.Mnc) ∷ None ∷ []
network_absent = refl

switch_absent : absent rules.switch_rules ≡ Some (Missing keys.Address) ∷ []
switch_absent = refl

timers_absent : absent rules.timers_rules ≡ None ∷ None ∷ None ∷ None ∷ []
timers_absent = refl

handover_absent : absent rules.handover_rules ≡ None ∷ None ∷ None ∷ None ∷ None ∷ []
handover_absent = refl

cell_absent : absent rules.cell_rules ≡ Some (Missing keys.Listen) ∷ Some (Missing keys.LocationAreaCode) ∷ Some (Missing keys.CellIdentity) ∷ Some (Missing keys.Arfcn) ∷ Some (Missing keys.Bsic) ∷ Some (Missing keys.Channels) ∷ []
cell_absent = refl

release98_default : (network_of no_members).release98 ≡ false
release98_default = refl

timers_defaults : timers_of no_members ≡ record { t3101_ms = 3000; t3103_ms = 5000; t3107_ms = 5000; drain_ms = 2000 }
timers_defaults = refl

handover_defaults : numbers_of no_members ≡ record { rxlev_window = 10; rxqual_window = 1; neighbour_window = 10; interval = 6; hysteresis = 3 }
handover_defaults = refl

-- ---- the texts of the keys

table_texts : map path_of (keys.Network ∷ keys.Switch ∷ keys.Timers ∷ keys.Handover ∷ keys.Cell ∷ []) ≡
    codes "network" ∷ codes "switch" ∷ codes "timers" ∷ codes "handover1" ∷ codes "cell" ∷ []
table_texts = refl

network_texts : map path_of (keys.Mcc ∷ keys.Mnc ∷ keys.Release98 ∷ keys.Address ∷ []) ≡
    codes "network.mcc" ∷ codes "network.mnc" ∷ codes "network.release98" ∷ codes "switch.address" ∷ []
network_texts = refl

timers_texts : map path_of (keys.T3101 ∷ keys.T3103 ∷ keys.T3107 ∷ keys.Drain ∷ []) ≡
    codes "timers.t3101_ms" ∷ codes "timers.t3103_ms" ∷ codes "timers.t3107_ms" ∷ codes "timers.drain_ms" ∷ []
timers_texts = refl

handover_texts : map path_of (keys.RxlevWindow ∷ keys.RxqualWindow ∷ keys.NeighbourWindow ∷ keys.PowerBudgetInterval ∷ keys.PowerBudgetHysteresis ∷ []) ≡
    codes "handover1.window_rxlev_averaging" ∷ codes "handover1.window_rxqual_averaging" ∷ codes "handover1.window_rxlev_neighbor_averaging" ∷ codes "handover1.power_budget_interval" ∷ codes "handover1.power_budget_hysteresis" ∷ []
handover_texts = refl

cell_texts : map path_of (keys.Listen ∷ keys.LocationAreaCode ∷ keys.CellIdentity ∷ keys.Arfcn ∷ keys.Bsic ∷ keys.Channels ∷ []) ≡
    codes "cell.listen" ∷ codes "cell.lac" ∷ codes "cell.ci" ∷ codes "cell.arfcn" ∷ codes "cell.bsic" ∷ codes "cell.channels" ∷ []
cell_texts = refl

-- ---- base station identity codes

bsic_nineteen : bsic_of 19 ≡ record { ncc = 2; bcc = 3 }
bsic_nineteen = refl

bsic_greatest : bsic_of 63 ≡ record { ncc = 7; bcc = 7 }
bsic_greatest = refl

bsic_back : number_of (bsic_of 19) ≡ 19
bsic_back = refl
