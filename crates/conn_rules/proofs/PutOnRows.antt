-- SPDX-License-Identifier: MIT OR Apache-2.0
-- The channels for which messages are put, at literal values.
use Rattle.conn_rules.proofs.Prelude.{ℕ, [], ◌∷◌, sym, true≢false, refl, Assignment, Channel, change_activation, channel_release, handing, hex}
use Rattle.conn_rules.proofs.Prelude.{rf_channel_release, clear_complete, Zero, establish_request}
use Rattle.conn_rules.specs.Putting.{ArePutOn, Using, uses_of}

abbrev channel : ℕ → ℕ → Channel
channel station number = record { station = station; number = number; cell = []; description = record { arfcn = 20; ncc = 1; bcc = 1 }; reference = record { 0 = 0 } }

-- channel 41 of station 1 is in use
abbrev uses : Using
uses = uses_of (channel 1 0x41 ∷ [])

dismissed_then_released : ArePutOn uses (channel_release (channel 1 0x41) 0 ∷ rf_channel_release (channel 1 0x41) ∷ clear_complete 5 ∷ [])
dismissed_then_released = (refl, (refl, (tt, tt)))

not_once_released : ArePutOn uses (rf_channel_release (channel 1 0x41) ∷ channel_release (channel 1 0x41) 0 ∷ []) → ⊥
not_once_released put = true≢false (sym put.1.0)

not_twice_released : ArePutOn uses (rf_channel_release (channel 1 0x41) ∷ rf_channel_release (channel 1 0x41) ∷ []) → ⊥
not_twice_released put = true≢false (sym put.1.0)

-- another channel, and the same number at another station
not_elsewhere : ArePutOn uses (handing (channel 1 0x49) Zero (hex "05 24") ∷ []) → ⊥
not_elsewhere put = true≢false (sym put.0)

not_at_another_station : ArePutOn uses (establish_request (channel 2 0x41) ∷ []) → ⊥
not_at_another_station put = true≢false (sym put.0)

-- from its activation on
once_activated : ArePutOn uses (change_activation Assignment (channel 1 0x0a) ∷ establish_request (channel 1 0x0a)
    ∷ handing (channel 1 0x41) Zero (hex "05 24") ∷ [])
once_activated = (tt, (refl, (refl, tt)))

not_before : ArePutOn uses (establish_request (channel 1 0x0a) ∷ change_activation Assignment (channel 1 0x0a) ∷ []) → ⊥
not_before put = true≢false (sym put.0)
