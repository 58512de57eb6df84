-- SPDX-License-Identifier: MIT OR Apache-2.0
-- Notation for literal lives of a controller with two cells: what arrives, and what each step puts.
use Rattle.controller_model.proofs.Prelude.{ℕ, List, [], ◌∷◌, map, Option, codes, option_map, false, Out, State, Parameters, ChannelState}
use Rattle.controller_model.proofs.Prelude.{Step, Take, Controller, entry_of, channel_state, place_at, step}
use Rattle.octets.proofs.Hex.{hex}
use Rattle.ruled_relay.specs.declared.item.What.TheVariants as whats

-- a frame that is put: its link and body
pub record Put : Type 0 where
  pub link : ℕ
  pub body : List ℕ

abbrev pub put : ℕ → List ℕ → Put
put link body = record { link = link; body = body }

abbrev pub put_of : Out → Put
put_of out = put out.to out.frame.body

-- on the link of the switch: a frame of SCCP
abbrev pub from_switch : List ℕ → Step
from_switch body = Take (record { source = 0; what = whats.Frame (record { stream = 0xfd; body = body }) })

-- on that of a station: a frame of RSL
abbrev pub from_station : ℕ → List ℕ → Step
from_station station body = Take (record { source = station; what = whats.Frame (record { stream = 0x00; body = body }) })

abbrev pub on_stream : ℕ → ℕ → List ℕ → Step
on_stream source stream body = Take (record { source = source; what = whats.Frame (record { stream = stream; body = body }) })

abbrev pub down : ℕ → Step
down source = Take (record { source = source; what = whats.Down })

-- what each step puts
abbrev pub played : Controller → List Step → List (List Put)
played c [] = []
played c (s ∷ ss) = map put_of (step c s).outs ∷ played (step c s).next ss

abbrev pub after : Controller → List Step → Controller
after c [] = c
after c (s ∷ ss) = after (step c s).next ss

abbrev pub state_of : Controller → ℕ → Option State
state_of c number = option_map (λ e. e.connection.state) (entry_of c number)

-- 41, 49 and 0A of cell 1, 41 and 0A of cell 2
abbrev pub usual_channels : Controller → List ChannelState
usual_channels c = map (channel_state c) (place_at 1 0x41 ∷ place_at 1 0x49 ∷ place_at 1 0x0a ∷ place_at 2 0x41 ∷ place_at 2 0x0a ∷ [])

-- cell 1 has two SDCCH and a TCH, cell 2 one of each
abbrev pub usual_settings : Parameters
usual_settings = record {
  network = record { mcc = codes "001"; mnc = codes "01"; release98 = false };
  switch_address = codes "127.0.0.1:5000";
  timers = record { t3101_ms = 3000; t3103_ms = 5000; t3107_ms = 5000; drain_ms = 2000 };
  handover = record { rxlev_window = 10; rxqual_window = 1; neighbour_window = 10; interval = 6; hysteresis = 3 };
  cells =
      record { listen = codes "127.0.0.1:3003"; location_area_code = 1; cell_identity = 1; arfcn = 20; bsic = record { ncc = 1; bcc = 1 }; channels = hex "41 49 0a" }
      ∷ record { listen = codes "127.0.0.1:3004"; location_area_code = 1; cell_identity = 2; arfcn = 30; bsic = record { ncc = 2; bcc = 2 }; channels = hex "41 0a" }
      ∷ [];
}

-- each report decides
abbrev pub eager_settings : Parameters
eager_settings = record usual_settings { handover = record { rxlev_window = 10; rxqual_window = 1; neighbour_window = 10; interval = 1; hysteresis = 3 } }
