-- SPDX-License-Identifier: MIT OR Apache-2.0
-- Rows: the frames of three captures of calls with a handover, over osmo-bsc (the first two) and
-- over a plain relay, and the connection's verdict. Only the frames that say something are listed;
-- the last one, RLC, is listed apart.
use Rattle.std.proofs.Common.{◌≡◌, ℕ, false, true, List, [], ◌∷◌, ◌++◌, Option, Some, None, map, option_map, refl}
use Rattle.octets.proofs.Hex.{hex}
use Rattle.run_judge.specs.declared.connection.Counts.{Counts}
use Rattle.run_judge.specs.declared.fault.Fault.TheVariants as faults
use Rattle.run_judge.specs.declared.flow.Due.{Due}
use Rattle.run_judge.specs.declared.flow.Order.{Order}
use Rattle.run_judge.specs.declared.flow.Order.TheVariants.{Faulty}
use Rattle.run_judge.specs.declared.said.Way.TheVariants.{FromController, ToController}
use Rattle.run_judge.specs.ConnectionState.{ConnectionState}
use Rattle.run_judge.specs.Flow.{is_in_order}
use Rattle.run_judge.specs.Judging.{Numbered, after_all, all_ended, new_judging}
use Rattle.run_judge.specs.Reading.{said_by}
use Rattle.judge_program.proofs.OnLiterals.{on_literals}

-- a frame by its number, on the link of the switch, 0, or of a station, to the controller or from it
abbrev up : ℕ → ℕ → List ℕ → Numbered
up frame link body = record { frame = frame; said = said_by link ToController body }

abbrev down : ℕ → ℕ → List ℕ → Numbered
down frame link body = record { frame = frame; said = said_by link FromController body }

-- all connections have the controller's reference 1
abbrev left_by : List Numbered → Option ConnectionState
left_by frames = (after_all (new_judging 4 []) frames).connections 1

abbrev up_of : List Numbered → Option Order
up_of frames = option_map (λ c. c.up.zero.order) (left_by frames)

abbrev down_of : List Numbered → Option Order
down_of frames = option_map (λ c. c.down.zero.order) (left_by frames)

abbrev counts_of : List Numbered → Option Counts
counts_of frames = option_map (λ c. c.counts) (left_by frames)

abbrev ended_of : List Numbered → List ℕ
ended_of frames = map (λ c. c.number) (all_ended (new_judging 4 []) frames)

abbrev due : List ℕ → ℕ → Due
due message frame = record { rank = 0; message = message; frame = frame; is_optional = false }

-- ---- a message of the old channel comes late, and osmo-bsc loses it

abbrev osmo : List Numbered
osmo =
    down 65 1 (hex "08 21 01 09 03 00 06 04 00 03 08 00 05 06 64 09 20 14 72 00 04 00 0d 0e 18 00 1f 00") ∷
    up 69 1 (hex "02 06 01 09 02 00 0b 00 0d 05 24 71 03 33 19 81 05 f4 00 00 00 01") ∷
    down 70 0 (hex "01 00 00 01 02 02 06 04 43 b9 00 fe 04 04 43 bb 00 fe 0f 1c 00 1a 57 05 08 00 00 f1 10 00 01 00 01 17 0d 05 24 71 03 33 19 81 05 f4 00 00 00 01 00") ∷
    up 71 0 (hex "02 00 00 01 80 00 01 02 00") ∷
    up 74 1 (hex "03 02 01 09 02 00 0b 00 04 03 45 aa 01") ∷
    down 76 0 (hex "06 80 00 01 00 01 07 01 80 04 03 45 aa 01") ∷
    down 90 2 (hex "08 21 01 09 03 02 06 04 00 03 08 00 05 06 64 09 40 16 72 00 09 01 04 00 0d 0e 1f 00") ∷
    down 93 1 (hex "03 01 01 09 02 00 0b 00 0b 06 2b 0a 16 09 40 16 01 0e 63 00") ∷
    up 94 0 (hex "06 00 00 01 00 01 07 01 00 04 83 02 bb 01") ∷
    up 102 2 (hex "03 02 01 09 02 00 0b 00 03 06 2c 00") ∷
    up 104 2 (hex "03 02 01 09 02 00 0b 00 04 03 c5 aa 03") ∷
    down 106 0 (hex "06 80 00 01 00 01 14 00 12 17 04 01 0b 05 08 00 00 f1 10 00 01 00 01 21 88 2c 01") ∷
    down 110 2 (hex "03 01 01 09 02 00 0b 00 04 83 02 bb 01") ∷
    down 112 0 (hex "06 80 00 01 00 01 07 01 80 04 03 c5 aa 03") ∷
    up 114 1 (hex "03 02 01 09 02 00 0b 00 04 03 85 aa 02") ∷
    down 116 1 (hex "08 2e 01 09") ∷
    up 118 1 (hex "08 33 01 09") ∷
    up 120 2 (hex "03 02 01 09 02 00 0b 00 04 03 05 aa 04") ∷
    down 121 0 (hex "06 80 00 01 00 01 07 01 80 04 03 05 aa 04") ∷
    up 124 2 (hex "03 02 01 09 02 00 0b 00 04 03 45 aa 05") ∷
    down 126 0 (hex "06 80 00 01 00 01 07 01 80 04 03 45 aa 05") ∷
    up 128 0 (hex "06 00 00 01 00 01 07 01 00 04 83 02 bb 02") ∷
    down 130 2 (hex "03 01 01 09 02 00 0b 00 04 83 02 bb 02") ∷
    down 134 0 (hex "06 80 00 01 00 01 03 00 01 21") ∷
    down 140 2 (hex "08 2e 01 09") ∷
    up 144 2 (hex "08 33 01 09") ∷ []

abbrev osmo_ends : List Numbered
osmo_ends = osmo ++ down 147 0 (hex "05 80 00 01 00 00 01") ∷ []

-- ---- the same message comes in time

abbrev early : List Numbered
early =
    down 64 1 (hex "08 21 01 09 03 00 06 04 00 03 08 00 05 06 64 09 20 14 72 00 04 00 0d 0e 18 00 1f 00") ∷
    up 68 1 (hex "02 06 01 09 02 00 0b 00 0d 05 24 71 03 33 19 81 05 f4 00 00 00 01") ∷
    down 69 0 (hex "01 00 00 01 02 02 06 04 43 b9 00 fe 04 04 43 bb 00 fe 0f 1c 00 1a 57 05 08 00 00 f1 10 00 01 00 01 17 0d 05 24 71 03 33 19 81 05 f4 00 00 00 01 00") ∷
    up 70 0 (hex "02 00 00 01 80 00 01 02 00") ∷
    up 73 1 (hex "03 02 01 09 02 00 0b 00 04 03 45 aa 01") ∷
    down 75 0 (hex "06 80 00 01 00 01 07 01 80 04 03 45 aa 01") ∷
    down 89 2 (hex "08 21 01 09 03 02 06 04 00 03 08 00 05 06 64 09 40 16 72 00 09 01 04 00 0d 0e 1f 00") ∷
    down 92 1 (hex "03 01 01 09 02 00 0b 00 0b 06 2b 0a 16 09 40 16 01 0e 63 00") ∷
    up 93 0 (hex "06 00 00 01 00 01 07 01 00 04 83 02 bb 01") ∷
    up 97 1 (hex "03 02 01 09 02 00 0b 00 04 03 85 aa 02") ∷
    down 99 0 (hex "06 80 00 01 00 01 07 01 80 04 03 85 aa 02") ∷
    up 105 2 (hex "03 02 01 09 02 00 0b 00 03 06 2c 00") ∷
    up 107 2 (hex "03 02 01 09 02 00 0b 00 04 03 c5 aa 03") ∷
    down 109 0 (hex "06 80 00 01 00 01 14 00 12 17 04 01 0b 05 08 00 00 f1 10 00 01 00 01 21 88 2c 01") ∷
    down 113 2 (hex "03 01 01 09 02 00 0b 00 04 83 02 bb 01") ∷
    down 115 0 (hex "06 80 00 01 00 01 07 01 80 04 03 c5 aa 03") ∷
    down 117 1 (hex "08 2e 01 09") ∷
    up 119 1 (hex "08 33 01 09") ∷
    up 121 2 (hex "03 02 01 09 02 00 0b 00 04 03 05 aa 04") ∷
    down 123 0 (hex "06 80 00 01 00 01 07 01 80 04 03 05 aa 04") ∷
    up 125 2 (hex "03 02 01 09 02 00 0b 00 04 03 45 aa 05") ∷
    down 127 0 (hex "06 80 00 01 00 01 07 01 80 04 03 45 aa 05") ∷
    up 129 0 (hex "06 00 00 01 00 01 07 01 00 04 83 02 bb 02") ∷
    down 131 2 (hex "03 01 01 09 02 00 0b 00 04 83 02 bb 02") ∷
    down 135 0 (hex "06 80 00 01 00 01 03 00 01 21") ∷
    down 141 2 (hex "08 2e 01 09") ∷
    up 145 2 (hex "08 33 01 09") ∷ []

abbrev early_ends : List Numbered
early_ends = early ++ down 148 0 (hex "05 80 00 01 00 00 01") ∷ []

-- ---- a plain relay passes the new channel's message on before the old one's, and hands while the
-- channel changes

abbrev plain : List Numbered
plain =
    down 12 1 (hex "08 21 01 41 03 00 06 04 00 03 01 00") ∷
    up 16 1 (hex "02 06 01 41 02 00 0b 00 0d 05 24 71 03 33 19 81 05 f4 00 00 00 01") ∷
    down 17 0 (hex "01 00 00 01 02 02 04 02 42 fe 0f 1c 00 1a 57 05 08 00 00 f1 10 00 01 00 01 17 0d 05 24 71 03 33 19 81 05 f4 00 00 00 01 00") ∷
    up 19 0 (hex "02 00 00 01 80 00 01 02 00") ∷
    up 22 1 (hex "03 02 01 41 02 00 0b 00 04 03 45 aa 01") ∷
    down 24 0 (hex "06 80 00 01 00 01 07 01 00 04 03 45 aa 01") ∷
    down 28 2 (hex "08 21 01 41 03 01 06 04 00 03 01 00 09 00") ∷
    down 32 1 (hex "03 01 01 41 02 00 0b 00 09 06 2b 0a 16 41 40 16 00 00") ∷
    up 33 0 (hex "06 00 00 01 00 01 07 01 00 04 83 02 bb 01") ∷
    down 35 1 (hex "03 01 01 41 02 00 0b 00 04 83 02 bb 01") ∷
    up 41 2 (hex "03 02 01 41 02 00 0b 00 03 06 2c 00") ∷
    up 43 2 (hex "03 02 01 41 02 00 0b 00 04 03 c5 aa 03") ∷
    down 45 0 (hex "06 80 00 01 00 01 07 01 00 04 03 c5 aa 03") ∷
    up 47 1 (hex "03 02 01 41 02 00 0b 00 04 03 85 aa 02") ∷
    down 49 0 (hex "06 80 00 01 00 01 07 01 00 04 03 85 aa 02") ∷
    up 51 2 (hex "03 02 01 41 02 00 0b 00 04 03 05 aa 04") ∷
    down 53 0 (hex "06 80 00 01 00 01 07 01 00 04 03 05 aa 04") ∷
    up 55 2 (hex "03 02 01 41 02 00 0b 00 04 03 45 aa 05") ∷
    down 57 0 (hex "06 80 00 01 00 01 07 01 00 04 03 45 aa 05") ∷
    up 59 0 (hex "06 00 00 01 00 01 07 01 00 04 83 02 bb 02") ∷
    down 61 2 (hex "03 01 01 41 02 00 0b 00 04 83 02 bb 02") ∷
    down 67 2 (hex "08 2e 01 41") ∷
    down 69 0 (hex "06 80 00 01 00 01 03 00 01 21") ∷
    down 73 1 (hex "08 2e 01 41") ∷
    up 75 2 (hex "08 33 01 41") ∷ []

abbrev plain_ends : List Numbered
plain_ends = plain ++ down 78 0 (hex "05 80 00 01 00 00 01") ∷ []

-- ---- what osmo-bsc made of the late one

osmo_up : up_of osmo ≡ Some (Faulty (faults.Lost (due (hex "03 85 aa 02") 114) 112))
unfolding on_literals
osmo_up = refl

osmo_down : option_map (λ c. is_in_order c.down.zero.order) (left_by osmo) ≡ Some true
unfolding on_literals
osmo_down = refl

-- five numbered messages came to the switch, and the initial one
osmo_counts : counts_of osmo ≡ Some (record { accepted = 2; duplicates = 0; behind_gap = 3 })
unfolding on_literals
osmo_counts = refl

osmo_is_judged : option_map (λ c. c.unjudged) (left_by osmo) ≡ Some None
unfolding on_literals
osmo_is_judged = refl

osmo_is_over : ended_of osmo_ends ≡ 1 ∷ []
unfolding on_literals
osmo_is_over = refl

-- no station brought a message where none was to come
osmo_outside : option_map (λ c. c.outside) (left_by osmo) ≡ Some None
unfolding on_literals
osmo_outside = refl

-- ---- and of the one in time

early_up : option_map (λ c. is_in_order c.up.zero.order) (left_by early) ≡ Some true
unfolding on_literals
early_up = refl

early_down : option_map (λ c. is_in_order c.down.zero.order) (left_by early) ≡ Some true
unfolding on_literals
early_down = refl

early_counts : counts_of early ≡ Some (record { accepted = 6; duplicates = 0; behind_gap = 0 })
unfolding on_literals
early_counts = refl

early_mobile : option_map (λ c. c.mobile) (left_by early) ≡ Some None
unfolding on_literals
early_mobile = refl

early_is_judged : option_map (λ c. c.unjudged) (left_by early) ≡ Some None
unfolding on_literals
early_is_judged = refl

early_is_over : ended_of early_ends ≡ 1 ∷ []
unfolding on_literals
early_is_over = refl

-- ---- what the plain relay made of it

plain_up : up_of plain ≡ Some (Faulty (faults.Overtaken (due (hex "03 85 aa 02") 47) 45 49))
unfolding on_literals
plain_up = refl

plain_down : down_of plain ≡ Some (Faulty (faults.HandedWhileChanging (hex "83 02 bb 01") 35))
unfolding on_literals
plain_down = refl

plain_counts : counts_of plain ≡ Some (record { accepted = 2; duplicates = 0; behind_gap = 4 })
unfolding on_literals
plain_counts = refl

plain_is_judged : option_map (λ c. c.unjudged) (left_by plain) ≡ Some None
unfolding on_literals
plain_is_judged = refl

plain_is_over : ended_of plain_ends ≡ 1 ∷ []
unfolding on_literals
plain_is_over = refl
