-- SPDX-License-Identifier: MIT OR Apache-2.0
-- Checks the ranges of the settings with literal values on both sides of each limit.
use Rattle.std.proofs.Common.{◌≡◌, ℕ, true, false, nat_eq, List, [], ◌∷◌, replicate, codes, refl, arith}
use Rattle.octets.proofs.Hex.{hex}
use Rattle.ho_decision.specs.declared.settings.HoParameters.{HoParameters}
use Rattle.settings.specs.declared.network.Network.{Network}
use Rattle.settings.specs.declared.timers.Timers.{Timers}
use Rattle.settings.specs.Parameters.{IsNetwork, IsUnrepeated, IsDigit, AreDigits, IsTimer, AreTimers, IsWindow, IsInterval, IsHandover, IsChannel, AreChannels, CellParameters, IsCell, AreCells, bsic_of, all_differ, channels_differ, air_of}

-- ---- numbers

digit_least : IsDigit 48
digit_least = (omega arith, omega arith)

digit_greatest : IsDigit 57
digit_greatest = (omega arith, omega arith)

no_digit_below : IsDigit 47 → ⊥
no_digit_below digit = omega (arith, digit.0)

no_digit_above : IsDigit 58 → ⊥
no_digit_above digit = omega (arith, digit.1)

timer_least : IsTimer 100
timer_least = (omega arith, omega arith)

timer_greatest : IsTimer 60000
timer_greatest = (omega arith, omega arith)

no_timer_below : IsTimer 99 → ⊥
no_timer_below timer = omega (arith, timer.0)

no_timer_above : IsTimer 60001 → ⊥
no_timer_above timer = omega (arith, timer.1)

window_least : IsWindow 1
window_least = (omega arith, omega arith)

window_greatest : IsWindow 10
window_greatest = (omega arith, omega arith)

no_window_below : IsWindow 0 → ⊥
no_window_below window = omega (arith, window.0)

no_window_above : IsWindow 11 → ⊥
no_window_above window = omega (arith, window.1)

interval_greatest : IsInterval 99
interval_greatest = (omega arith, omega arith)

no_interval_below : IsInterval 0 → ⊥
no_interval_below interval = omega (arith, interval.0)

no_interval_above : IsInterval 100 → ⊥
no_interval_above interval = omega (arith, interval.1)

channel_least : IsChannel 0x08
channel_least = (omega arith, omega arith)

channel_greatest : IsChannel 0x7f
channel_greatest = (omega arith, omega arith)

no_channel_below : IsChannel 0x07 → ⊥
no_channel_below channel = omega (arith, channel.0)

no_channel_above : IsChannel 0x80 → ⊥
no_channel_above channel = omega (arith, channel.1)

-- ---- each part has its own range

abbrev timers : ℕ → ℕ → ℕ → ℕ → Timers
timers t3101 t3103 t3107 drain = record { t3101_ms = t3101; t3103_ms = t3103; t3107_ms = t3107; drain_ms = drain }

t3101_below : AreTimers (timers 99 202 303 404) → ⊥
t3101_below t = omega (arith, t.t3101.0)

t3103_below : AreTimers (timers 101 99 303 404) → ⊥
t3103_below t = omega (arith, t.t3103.0)

t3107_below : AreTimers (timers 101 202 99 404) → ⊥
t3107_below t = omega (arith, t.t3107.0)

drain_below : AreTimers (timers 101 202 303 99) → ⊥
drain_below t = omega (arith, t.drain.0)

abbrev handover : ℕ → ℕ → ℕ → ℕ → ℕ → HoParameters
handover rxlev rxqual neighbour interval hysteresis =
    record { rxlev_window = rxlev; rxqual_window = rxqual; neighbour_window = neighbour; interval = interval; hysteresis = hysteresis }

rxlev_below : IsHandover (handover 0 3 4 5 6) → ⊥
rxlev_below h = omega (arith, h.rxlev_window.0)

rxqual_below : IsHandover (handover 2 0 4 5 6) → ⊥
rxqual_below h = omega (arith, h.rxqual_window.0)

neighbour_below : IsHandover (handover 2 3 0 5 6) → ⊥
neighbour_below h = omega (arith, h.neighbour_window.0)

interval_below : IsHandover (handover 2 3 4 0 6) → ⊥
interval_below h = omega (arith, h.interval.0)

hysteresis_above : IsHandover (handover 2 3 4 5 64) → ⊥
hysteresis_above h = omega (arith, h.hysteresis)

-- ---- network

abbrev network : List ℕ → List ℕ → Network
network mcc mnc = record { mcc = mcc; mnc = mnc; release98 = false }

mcc_of_two : IsNetwork (network (codes "01") (codes "01")) → ⊥
mcc_of_two n = omega (arith, n.mcc.count.0)

mcc_of_four : IsNetwork (network (codes "0001") (codes "01")) → ⊥
mcc_of_four n = omega (arith, n.mcc.count.1)

mnc_too_short : IsNetwork (network (codes "001") (codes "1")) → ⊥
mnc_too_short n = omega (arith, n.mnc.count.0)

mnc_too_long : IsNetwork (network (codes "001") (codes "0001")) → ⊥
mnc_too_long n = omega (arith, n.mnc.count.1)

-- ---- texts, channels and cells

mnc_of_one : AreDigits 2 3 (codes "1") → ⊥
mnc_of_one mnc = omega (arith, mnc.count.0)

mnc_of_four : AreDigits 2 3 (codes "0001") → ⊥
mnc_of_four mnc = omega (arith, mnc.count.1)

no_channels : AreChannels 1 64 [] → ⊥
no_channels channels = omega (arith, channels.count.0)

too_many_channels : AreChannels 1 64 (replicate 65 0x41) → ⊥
too_many_channels channels = omega (arith, channels.count.1)

pch_among_channels : AreChannels 1 64 (hex "41 90") → ⊥
pch_among_channels channels = omega (arith, (channels.each 1 0 (omega arith)).1)

abbrev cell : ℕ → ℕ → List ℕ → CellParameters
cell arfcn bsic channels = record { listen = codes "a"; location_area_code = 1; cell_identity = 2; arfcn = arfcn; bsic = bsic_of bsic; channels = channels }

arfcn_below : IsCell (cell 0 9 (0x41 ∷ [])) → ⊥
arfcn_below c = omega (arith, c.arfcn.0)

arfcn_above : IsCell (cell 1024 9 (0x41 ∷ [])) → ⊥
arfcn_above c = omega (arith, c.arfcn.1)

cell_without_channels : IsCell (cell 20 9 []) → ⊥
cell_without_channels c = omega (arith, c.channels.count.0)

without_cells : AreCells [] → ⊥
without_cells cells = omega (arith, cells.count.0)

too_many_cells : AreCells (replicate 33 (cell 20 9 (0x41 ∷ []))) → ⊥
too_many_cells cells = omega (arith, cells.count.1)

-- ---- what isn't repeated

different_channels : channels_differ (cell 20 9 (hex "41 49 0a")) ≡ true
different_channels = refl

first_channel_again : channels_differ (cell 20 9 (hex "41 49 41")) ≡ false
first_channel_again = refl

last_two_the_same : all_differ nat_eq (1 ∷ 2 ∷ 2 ∷ []) ≡ false
last_two_the_same = refl

abbrev cell_at : List ℕ → ℕ → ℕ → List ℕ → CellParameters
cell_at listen arfcn bsic channels = record (cell arfcn bsic channels) { listen = listen }

abbrev one_cell : CellParameters
one_cell = cell_at (codes "a") 20 9 (hex "41 0a")

unrepeated : IsUnrepeated (one_cell ∷ cell_at (codes "b") 20 10 (hex "41 0a") ∷ cell_at (codes "c") 30 9 (hex "0a 41") ∷ [])
unrepeated = record { channels = refl; listens = refl; airs = refl }

channel_twice : IsUnrepeated (one_cell ∷ cell_at (codes "b") 30 9 (hex "41 0a 41") ∷ []) → ⊥
channel_twice u = absurd (cc (u.channels))

listen_twice : IsUnrepeated (one_cell ∷ cell_at (codes "b") 30 9 (hex "41") ∷ cell_at (codes "a") 40 9 (hex "41") ∷ []) → ⊥
listen_twice u = absurd (cc (u.listens))

air_twice : IsUnrepeated (one_cell ∷ cell_at (codes "b") 30 9 (hex "41") ∷ cell_at (codes "c") 20 9 (hex "41") ∷ []) → ⊥
air_twice u = absurd (cc (u.airs))

-- ---- as the handover decision sees a cell

air : air_of (cell 30 19 (0x41 ∷ [])) ≡ record { arfcn = 30; bsic = 19 }
air = refl
