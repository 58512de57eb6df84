-- SPDX-License-Identifier: MIT OR Apache-2.0
-- The channels of cells and the identifiers of cells, at literal values.
use Rattle.controller_model.proofs.Prelude.{◌≡◌, ℕ, true, false, List, [], ◌∷◌, ◌++◌, map, Some, None, option_map, codes, refl, hex}
use Rattle.controller_model.proofs.Prelude.{CellParameters, Sdcch, Tch, Free, InUse, Releasing, Controller, new_controller, cell_identifier}
use Rattle.controller_model.proofs.Prelude.{kind_of, is_alike, first_free}
use Rattle.controller_model.proofs.Lives.{put, from_switch, from_station, down, played, after, usual_settings, usual_channels}
use Rattle.controller_model.proofs.OnLiterals.{on_literals}
use Rattle.controller_model.proofs.ChangeRows.{active_1, handing_over}

abbrev cell : ℕ → ℕ → List ℕ → CellParameters
cell area identity channels =
    record { listen = codes "a"; location_area_code = area; cell_identity = identity; arfcn = 700; bsic = record { ncc = 5; bcc = 3 }; channels = channels }

two_digits : cell_identifier (record { mcc = codes "262"; mnc = codes "71"; release98 = false }) (cell 0x1234 0x5678 [])
    ≡ hex "00 62 f2 17 12 34 56 78"
unfolding on_literals
two_digits = refl

three_digits : cell_identifier (record { mcc = codes "310"; mnc = codes "482"; release98 = false }) (cell 0x1234 0x5678 [])
    ≡ hex "00 13 20 84 12 34 56 78"
unfolding on_literals
three_digits = refl

kinds : map kind_of (hex "08 0f 10 1f 20 3f 40 7f") ≡ Tch ∷ Tch ∷ Tch ∷ Tch ∷ Sdcch ∷ Sdcch ∷ Sdcch ∷ Sdcch ∷ []
unfolding on_literals
kinds = refl

alike : map (is_alike Tch) (Tch ∷ Sdcch ∷ []) ++ map (is_alike Sdcch) (Tch ∷ Sdcch ∷ []) ≡ true ∷ false ∷ false ∷ true ∷ []
unfolding on_literals
alike = refl

-- a cell with each kind, not in the order of their numbers
abbrev each_kind : Controller
each_kind = new_controller (record usual_settings {
  network = record { mcc = codes "262"; mnc = codes "71"; release98 = false };
  cells = cell 0x1234 0x5678 (hex "12 22 41 09") ∷ [];
})

gives_by_order : first_free each_kind 1 7 Sdcch
    ≡ Some (record { station = 1; number = 0x22; cell = hex "00 62 f2 17 12 34 56 78"; description = record { arfcn = 700; ncc = 5; bcc = 3 }; reference = record { 0 = 7 } })
unfolding on_literals
gives_by_order = refl

gives_a_call : option_map (λ c. c.number) (first_free each_kind 1 0 Tch) ≡ Some 0x12
unfolding on_literals
gives_a_call = refl

gives_nothing_of_no_cell : first_free each_kind 2 0 Tch ≡ None
unfolding on_literals
gives_nothing_of_no_cell = refl

gives_what_is_left : played each_kind (from_station 1 (hex "0c 13 01 88 13 7f 01 02 11 05")
    ∷ from_station 1 (hex "0c 13 01 88 13 7f 01 02 11 05")
    ∷ from_station 1 (hex "0c 13 01 88 13 7f 01 02 11 05") ∷ [])
    ≡ (put 1 (hex "08 21 01 22 03 00 06 04 00 03 01 00") ∷ [])
    ∷ (put 1 (hex "08 21 01 41 03 00 06 04 00 03 01 00") ∷ [])
    ∷ [] ∷ []
unfolding on_literals
gives_what_is_left = refl

-- the reference counts handovers begun, modulo 256

counts_handovers : played (record active_1 { handovers = 255 })
    (from_station 1 (hex "08 28 01 41 1b 00 0b 00 12 06 15 14 14 00 57 02 40 00 00 00 00 00 00 00 00 00 00")
    ∷ from_station 2 (hex "08 23 01 41")
    ∷ from_station 1 (hex "08 28 01 41 1b 01 0b 00 12 06 15 14 14 00 57 02 40 00 00 00 00 00 00 00 00 00 00") ∷ [])
    ≡ (put 2 (hex "08 21 01 41 03 02 06 04 00 03 01 00 09 ff") ∷ [])
    ∷ []
    ∷ (put 2 (hex "08 21 01 41 03 02 06 04 00 03 01 00 09 00") ∷ []) ∷ []
unfolding on_literals
counts_handovers = refl

counts_no_assignment : played active_1 (from_switch (hex "06 00 00 01 00 01 08 00 06 01 0b 03 01 08 01")
    ∷ from_station 1 (hex "08 23 01 0a")
    ∷ from_station 1 (hex "08 28 01 41 1b 00 0b 00 12 06 15 14 14 00 57 02 40 00 00 00 00 00 00 00 00 00 00") ∷ [])
    ≡ (put 1 (hex "08 21 01 0a 03 01 06 04 00 01 08 01") ∷ [])
    ∷ (put 0 (hex "06 80 00 01 00 01 06 00 04 03 04 01 20") ∷ [])
    ∷ (put 2 (hex "08 21 01 41 03 02 06 04 00 03 01 00 09 00") ∷ []) ∷ []
unfolding on_literals
counts_no_assignment = refl

-- a target whose release is acknowledged is free

frees_a_target : played handing_over (from_station 1 (hex "03 02 01 41 02 00 0b 00 03 06 28 03")
    ∷ from_station 2 (hex "0c 13 01 88 13 7f 01 02 11 05")
    ∷ from_station 2 (hex "08 33 01 41")
    ∷ from_station 2 (hex "0c 13 01 88 13 7f 01 02 11 05")
    ∷ from_station 2 (hex "08 33 01 41") ∷ [])
    ≡ (put 2 (hex "08 2e 01 41") ∷ [])
    ∷ []
    ∷ []
    ∷ (put 2 (hex "08 21 01 41 03 00 06 04 00 03 01 00") ∷ [])
    ∷ [] ∷ []
unfolding on_literals
frees_a_target = refl

counts_the_second_acknowledgement : (after handing_over (from_station 1 (hex "03 02 01 41 02 00 0b 00 03 06 28 03")
    ∷ from_station 2 (hex "0c 13 01 88 13 7f 01 02 11 05") ∷ from_station 2 (hex "08 33 01 41")
    ∷ from_station 2 (hex "08 33 01 41") ∷ [])).ignored
    ≡ 2
unfolding on_literals
counts_the_second_acknowledgement = refl

-- where the serving station broke
releases_the_target_alone : played handing_over (down 1
    ∷ from_station 2 (hex "08 33 01 41")
    ∷ from_station 2 (hex "0c 13 01 88 13 7f 01 02 11 05") ∷ [])
    ≡ (put 0 (hex "06 80 00 01 00 01 06 00 04 22 04 01 20") ∷ put 2 (hex "08 2e 01 41") ∷ [])
    ∷ []
    ∷ (put 2 (hex "08 21 01 41 03 00 06 04 00 03 01 00") ∷ []) ∷ []
unfolding on_literals
releases_the_target_alone = refl

releases_the_serving_alone : played handing_over (down 2
    ∷ from_station 1 (hex "08 33 01 41")
    ∷ from_station 1 (hex "0c 13 01 88 13 7f 01 02 11 05") ∷ [])
    ≡ (put 0 (hex "06 80 00 01 00 01 06 00 04 22 04 01 20") ∷ put 1 (hex "03 01 01 41 02 00 0b 00 03 06 0d 01")
    ∷ put 1 (hex "08 2e 01 41") ∷ [])
    ∷ []
    ∷ (put 1 (hex "08 21 01 41 03 00 06 04 00 03 01 00") ∷ []) ∷ []
unfolding on_literals
releases_the_serving_alone = refl

releases_both_without_the_switch : played handing_over (down 0 ∷ [])
    ≡ (put 1 (hex "03 01 01 41 02 00 0b 00 03 06 0d 01") ∷ put 1 (hex "08 2e 01 41") ∷ put 2 (hex "08 2e 01 41") ∷ []) ∷ []
unfolding on_literals
releases_both_without_the_switch = refl

-- a station whose link broke has no channel that isn't free, and none is given

keeps_no_channel : usual_channels (after handing_over (down 1 ∷ [])) ≡ Free ∷ Free ∷ Free ∷ Releasing 1 ∷ Free ∷ []
unfolding on_literals
keeps_no_channel = refl

-- where the switch's link breaks, each is free once its release is acknowledged
frees_none_with_the_switch : usual_channels (after handing_over (down 0 ∷ [])) ≡ Releasing 1 ∷ Free ∷ Free ∷ Releasing 1 ∷ Free ∷ []
unfolding on_literals
frees_none_with_the_switch = refl

frees_one_after_the_switch : usual_channels (after handing_over (down 0 ∷ from_station 1 (hex "08 33 01 41") ∷ []))
    ≡ Free ∷ Free ∷ Free ∷ Releasing 1 ∷ Free ∷ []
unfolding on_literals
frees_one_after_the_switch = refl

has_two_channels : usual_channels handing_over ≡ InUse 1 ∷ Free ∷ Free ∷ InUse 1 ∷ Free ∷ []
unfolding on_literals
has_two_channels = refl

has_one_releasing : usual_channels (after handing_over (from_station 2 (hex "03 02 01 41 02 00 0b 00 03 06 2c 00") ∷ []))
    ≡ Releasing 1 ∷ Free ∷ Free ∷ InUse 1 ∷ Free ∷ []
unfolding on_literals
has_one_releasing = refl
