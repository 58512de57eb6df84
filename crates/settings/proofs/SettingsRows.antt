-- SPDX-License-Identifier: MIT OR Apache-2.0
-- Checks whole texts with the settings in them.
use Rattle.std.proofs.Common.{◌≡◌, ℕ, true, false, List, [], ◌∷◌, ◌++◌, Ok, Err, codes, refl}
use Rattle.octets.proofs.Hex.{hex}
use Rattle.ho_decision.specs.Settings.{settings_of}
use Rattle.toml.specs.Parse.{parse_document}
use Rattle.toml.proofs.OnLiterals.{toml_on_literals}
use Rattle.settings.specs.declared.fault.SettingsFault.TheVariants.{NotToml, Missing, BadType, BadValue}
use Rattle.settings.specs.declared.key.Key.TheVariants as keys
use Rattle.settings.specs.Parameters.{Parameters, handover_settings_of}
use Rattle.settings.specs.Tables.{settings_in}

empty_text : settings_in (parse_document []) ≡ Err (Missing keys.Network)
unfolding toml_on_literals
empty_text = refl

no_toml : settings_in (parse_document (codes "x =")) ≡ Err NotToml
unfolding toml_on_literals
no_toml = refl

-- ---- two cells, and every key that has a default left out

abbrev head : List ℕ
head = codes "[network]\nmcc = \"001\"\nmnc = \"01\"\n"

abbrev switch : List ℕ
switch = codes "[switch]\naddress = \"127.0.0.1:5000\"\n"

abbrev cells : List ℕ
cells = codes "[[cell]]\nlisten = \"127.0.0.1:3003\"\nlac = 1\nci = 1\narfcn = 20\nbsic = 9\nchannels = [0x41, 0x49, 0x0a]\n[[cell]]\nlisten = \"127.0.0.1:3004\"\nlac = 1\nci = 2\narfcn = 30\nbsic = 18\nchannels = [0x41, 0x0a]\n"

abbrev two_cells : Parameters
two_cells = record {
  network = record { mcc = codes "001"; mnc = codes "01"; release98 = false };
  switch_address = codes "127.0.0.1:5000";
  timers = record { t3101_ms = 3000; t3103_ms = 5000; t3107_ms = 5000; drain_ms = 2000 };
  handover = record { rxlev_window = 10; rxqual_window = 1; neighbour_window = 10; interval = 6; hysteresis = 3 };
  cells =
      record { listen = codes "127.0.0.1:3003"; location_area_code = 1; cell_identity = 1; arfcn = 20; bsic = record { ncc = 1; bcc = 1 }; channels = hex "41 49 0a" }
      ∷ record { listen = codes "127.0.0.1:3004"; location_area_code = 1; cell_identity = 2; arfcn = 30; bsic = record { ncc = 2; bcc = 2 }; channels = hex "41 0a" }
      ∷ [];
}

two_cells_read : settings_in (parse_document (head ++ switch ++ cells)) ≡ Ok two_cells
unfolding toml_on_literals
two_cells_read = refl

-- ---- release 98

release98 : settings_in (parse_document (head ++ codes "release98 = true\n" ++ switch ++ cells)) ≡ Ok (record two_cells { network = record { mcc = codes "001"; mnc = codes "01"; release98 = true } })
unfolding toml_on_literals
release98 = refl

release98_number : settings_in (parse_document (head ++ codes "release98 = 1\n" ++ switch ++ cells)) ≡ Err (BadType keys.Release98)
unfolding toml_on_literals
release98_number = refl

-- ---- every key, each with a value of its own

all_keys : settings_in (parse_document (codes "[network]\nmcc = \"262\"\nmnc = \"003\"\nrelease98 = true\n[switch]\naddress = \"a\"\n[timers]\nt3101_ms = 101\nt3103_ms = 202\nt3107_ms = 303\ndrain_ms = 404\n[handover1]\nwindow_rxlev_averaging = 2\nwindow_rxqual_averaging = 3\nwindow_rxlev_neighbor_averaging = 4\npower_budget_interval = 5\npower_budget_hysteresis = 6\n[[cell]]\nlisten = \"b\"\nlac = 7\nci = 8\narfcn = 9\nbsic = 19\nchannels = [0x20, 0x10]\n")) ≡ Ok (record {
  network = record { mcc = codes "262"; mnc = codes "003"; release98 = true };
  switch_address = codes "a";
  timers = record { t3101_ms = 101; t3103_ms = 202; t3107_ms = 303; drain_ms = 404 };
  handover = record { rxlev_window = 2; rxqual_window = 3; neighbour_window = 4; interval = 5; hysteresis = 6 };
  cells = record { listen = codes "b"; location_area_code = 7; cell_identity = 8; arfcn = 9; bsic = record { ncc = 2; bcc = 3 }; channels = hex "20 10" } ∷ [];
})
unfolding toml_on_literals
all_keys = refl

-- ---- an interval beyond its limit

interval : settings_in (parse_document (head ++ switch ++ cells ++ codes "[handover1]\npower_budget_interval = 100\n")) ≡ Err (BadValue keys.PowerBudgetInterval)
unfolding toml_on_literals
interval = refl

-- ---- the handover decision where the second cell serves

second_serves : handover_settings_of two_cells 2 ≡ settings_of (record { rxlev_window = 10; rxqual_window = 1; neighbour_window = 10; interval = 6; hysteresis = 3 }) (record { arfcn = 20; bsic = 9 } ∷ record { arfcn = 30; bsic = 18 } ∷ []) 2
second_serves = refl
