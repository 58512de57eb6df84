-- SPDX-License-Identifier: MIT OR Apache-2.0
-- PONG says nothing of connections.
use Rattle.std.proofs.Common.{◌≡◌, ℕ, ◌==◌, Bool, true, false, [], ◌∷◌, refl}
use Rattle.std.specs.Prelude.{if◌then◌else◌}
use Rattle.bssmap_codec.specs.Reference.{reference_at}
use Rattle.bssmap_codec.specs.SccpReading.{request_at, sccp_reading}
use Rattle.bssmap_codec.specs.SccpType.{sccp_type}
use Rattle.conn_messages.specs.declared.parameters.TheConstants.{SWITCH_LINK}
use Rattle.controller_model.specs.Life.{pong}
use Rattle.ipa_framing.specs.declared.streams.TheConstants.{PONG}
use Rattle.octets.specs.Front.{octet_at}
use Rattle.rsl_codec.specs.RslReading.{rsl_reading}
use Rattle.run_judge.specs.declared.said.Said.{Said}
use Rattle.run_judge.specs.declared.said.Said.TheVariants as says
use Rattle.run_judge.specs.declared.said.Way.TheVariants.{FromController}
use Rattle.run_judge.specs.Reading.{said_on_station_link, said_on_switch_link}
use Rattle.judge_laws.specs.Saying.{put_says}

switch_pong : said_on_switch_link FromController (PONG ∷ []) ≡ says.Nothing
unfolding sccp_reading octet_at sccp_type request_at reference_at
switch_pong = refl

station_pong : (station : ℕ) → said_on_station_link station FromController (PONG ∷ []) ≡ says.Nothing
unfolding rsl_reading
station_pong station = refl

pub pong_says : (source : ℕ) → put_says (pong source) ≡ says.Nothing
pong_says source = by (source == SWITCH_LINK)
  where
    by : (b : Bool) →
        (let said : Said = if b then said_on_switch_link FromController (PONG ∷ []) else said_on_station_link source FromController (PONG ∷ []) in said) ≡ says.Nothing
    by true = switch_pong
    by false = station_pong source
