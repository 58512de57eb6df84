-- SPDX-License-Identifier: MIT OR Apache-2.0
-- The values of the settings, and the ranges that they keep.
use Rattle.std.specs.Prelude.{◌≡◌, ℕ, ◌+◌, ◌*◌, ◌/◌, ◌%◌, ◌≤◌, Bool}
use Rattle.std.specs.Prelude.{true, ◌==◌}
use Rattle.std.specs.Prelude.{not, ◌&&◌, List, [], ◌∷◌, length, map, All, nat_eq}
use Rattle.std.specs.List.{list_all, list_any}
use Rattle.std.specs.Str.{bytes_eq}
use Rattle.ho_decision.specs.declared.settings.Cell.{Cell as AirCell}
use Rattle.ho_decision.specs.declared.settings.HoParameters.{HoParameters}
use Rattle.ho_decision.specs.Settings.{Settings as HandoverSettings, settings_of}
use Rattle.rsl_codec.specs.declared.channel_number.TheConstants.{FIRST_TCH, LAST_SDCCH}
use Rattle.settings.specs.declared.bsic.Bsic.{Bsic}
use Rattle.settings.specs.declared.network.Network.{Network}
use Rattle.settings.specs.declared.timers.Timers.{Timers}

-- A cell: the address to which its station connects, its identities, its ARFCN and its channels in
-- order.
pub record CellParameters : Type 0 where
  pub listen : List ℕ
  pub location_area_code : ℕ
  pub cell_identity : ℕ
  pub arfcn : ℕ
  pub bsic : Bsic
  pub channels : List ℕ

abbrev pub a_cell : List ℕ → ℕ → ℕ → ℕ → Bsic → List ℕ → CellParameters
a_cell listen lac ci arfcn bsic channels =
    record {
      listen = listen;
      location_area_code = lac;
      cell_identity = ci;
      arfcn = arfcn;
      bsic = bsic;
      channels = channels;
    }

-- The settings. Cells are numbered from 1.
pub record Parameters : Type 0 where
  pub network : Network
  pub switch_address : List ℕ
  pub timers : Timers
  pub handover : HoParameters
  pub cells : List CellParameters

abbrev pub parameters : Network → List ℕ → Timers → HoParameters → List CellParameters → Parameters
parameters network address timers handover cells =
    record {
      network = network;
      switch_address = address;
      timers = timers;
      handover = handover;
      cells = cells;
    }

-- ---- base station identity codes

-- The base station identity code with this number. The three high bits are the network colour code,
-- the three low bits the base station colour code.
abbrev pub bsic_of : ℕ → Bsic
bsic_of number = record { ncc = number / 8; bcc = number % 8 }

abbrev pub number_of : Bsic → ℕ
number_of bsic = 8 * bsic.ncc + bsic.bcc

-- ---- ranges

abbrev pub IsDigit : ℕ → Type 0
IsDigit octet = (48 ≤ octet) × (octet ≤ 57)

-- A text of decimal digits, `least` to `most` of them.
pub record AreDigits (least most : ℕ) (text : List ℕ) : Type 0 where
  pub count : (least ≤ length text) × (length text ≤ most)
  pub digits : All IsDigit text

pub record IsNetwork (n : Network) : Type 0 where
  pub mcc : AreDigits 3 3 n.mcc
  pub mnc : AreDigits 2 3 n.mnc

abbrev pub IsTimer : ℕ → Type 0
IsTimer ms = (100 ≤ ms) × (ms ≤ 60000)

pub record AreTimers (t : Timers) : Type 0 where
  pub t3101 : IsTimer t.t3101_ms
  pub t3103 : IsTimer t.t3103_ms
  pub t3107 : IsTimer t.t3107_ms
  pub drain : IsTimer t.drain_ms

abbrev pub IsWindow : ℕ → Type 0
IsWindow reports = (1 ≤ reports) × (reports ≤ 10)

abbrev pub IsInterval : ℕ → Type 0
IsInterval reports = (1 ≤ reports) × (reports ≤ 99)

pub record IsHandover (h : HoParameters) : Type 0 where
  pub rxlev_window : IsWindow h.rxlev_window
  pub rxqual_window : IsWindow h.rxqual_window
  pub neighbour_window : IsWindow h.neighbour_window
  pub interval : IsInterval h.interval
  pub hysteresis : h.hysteresis ≤ 63

-- The number of a TCH or an SDCCH.
abbrev pub IsChannel : ℕ → Type 0
IsChannel octet = (FIRST_TCH ≤ octet) × (octet ≤ LAST_SDCCH)

-- A list of `least` to `most` channels.
pub record AreChannels (least most : ℕ) (channels : List ℕ) : Type 0 where
  pub count : (least ≤ length channels) × (length channels ≤ most)
  pub each : All IsChannel channels

pub record IsCell (c : CellParameters) : Type 0 where
  pub arfcn : (1 ≤ c.arfcn) × (c.arfcn ≤ 1023)
  pub channels : AreChannels 1 64 c.channels

-- 1 to 32 cells
pub record AreCells (cells : List CellParameters) : Type 0 where
  pub count : (1 ≤ length cells) × (length cells ≤ 32)
  pub each : All IsCell cells

-- ---- values that must be unique

-- Whether no two elements of a list are the same.
abbrev pub all_differ : {X : Type 0} → (X → X → Bool) → List X → Bool
all_differ same [] = true
all_differ same (x ∷ xs) = not (list_any (same x) xs) && all_differ same xs

abbrev pub channels_differ : CellParameters → Bool
channels_differ c = all_differ nat_eq c.channels

abbrev pub same_listen : CellParameters → CellParameters → Bool
same_listen c d = bytes_eq c.listen d.listen

-- Whether two cells have the same ARFCN and the same base station identity code.
abbrev pub same_air : CellParameters → CellParameters → Bool
same_air c d = (c.arfcn == d.arfcn) && ((c.bsic.ncc == d.bsic.ncc) && (c.bsic.bcc == d.bsic.bcc))

pub record IsUnrepeated (cells : List CellParameters) : Type 0 where
  pub channels : list_all channels_differ cells ≡ true
  pub listens : all_differ same_listen cells ≡ true
  pub airs : all_differ same_air cells ≡ true

-- ---- settings

-- What holds for all settings: each value is in its range, and no value that must be unique occurs
-- twice.
pub record AreAllowed (p : Parameters) : Type 0 where
  pub network : IsNetwork p.network
  pub timers : AreTimers p.timers
  pub handover : IsHandover p.handover
  pub cells : AreCells p.cells
  pub unrepeated : IsUnrepeated p.cells

-- The ARFCN and the BSIC of a cell, for the handover decision.
abbrev pub air_of : CellParameters → AirCell
air_of c = record { arfcn = c.arfcn; bsic = number_of c.bsic }

-- The settings of the handover decision if the cell with the number `serving` serves.
abbrev pub handover_settings_of : Parameters → ℕ → HandoverSettings
handover_settings_of p serving = settings_of p.handover (map air_of p.cells) serving
