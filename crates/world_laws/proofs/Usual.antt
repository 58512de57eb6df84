-- SPDX-License-Identifier: MIT OR Apache-2.0
-- What the files of literal values share: the world of the usual settings, and channels of its
-- first cell.
use Rattle.world_laws.proofs.Prelude.{ℕ, [], ◌∷◌, Assignment, Channel, usual_settings, Target, Actors, new_actors, List}
use Rattle.octets.proofs.Hex.{hex}

unfoldable pub begin : Actors
begin = new_actors usual_settings

abbrev pub channel : ℕ → ℕ → Channel
channel station number = record {
  station = station;
  number = number;
  cell = hex "00 00 f1 10 00 01 00 01";
  description = record { arfcn = 20; ncc = 1; bcc = 1 };
  reference = record { 0 = 0 };
}

-- a change to channel 0A
abbrev pub to_0a : Target
to_0a = record { change = Assignment; channel = channel 1 0x0a }

-- a PAGING RESPONSE is of radio resource management too
abbrev pub paging_response : List ℕ
paging_response = hex "06 27 00"

abbrev pub service_request : List ℕ
service_request = hex "05 24 71"

-- what a mobile sent: its initial message and one more
abbrev pub opening_sent : List (List ℕ)
opening_sent = (hex "05 24") ∷ (hex "03 05") ∷ []
