-- SPDX-License-Identifier: MIT OR Apache-2.0
-- The switch's messages of a connection over a whole life, and in the octets of its frames.
use Rattle.controller_model.proofs.Prelude.{ℕ, ◌≤◌, List, ◌∙◌, Parameters, sym, DownlinkIsConserved, nothing_switched, Moment, all_messages}
use Rattle.controller_model.proofs.Prelude.{Step, new_controller, life}
use Rattle.controller_model.proofs.LifeLaws.DownlinkLife.{downlink_in_life, frames_in_life, history_of, moments_of}
use Rattle.controller_model.proofs.LifeLaws.Fitting.{new_fits}
use Rattle.controller_model.proofs.LifeLaws.Ordered.{handed_in_order}
use Rattle.controller_model.proofs.LifeLaws.OwningLife.{new_holds}
use Rattle.controller_model.proofs.LifeLaws.SeenStations.{handed_seen, handed_so_far, right_run}
use Rattle.controller_model.proofs.LifeLaws.SoundLife.{life_sends_all}
use Rattle.controller_model.proofs.LifeLaws.UsingLife.{new_uses}

pub life_conserves : (p : Parameters) (steps : List Step) (number : ℕ) → 1 ≤ number → DownlinkIsConserved number p steps (life p steps)
life_conserves p steps number from_one =
    let moments : List Moment = moments_of number (new_controller p) from_one (new_fits number p) steps in
    record {
      moments = moments;
      history = history_of number (new_controller p) from_one (new_fits number p) steps;
      frames = frames_in_life p steps number from_one;
      downlink = λ sapi. downlink_in_life p steps number from_one sapi;
      in_order = λ sapi. handed_in_order p steps number from_one sapi;
      read = λ allowed octets sapi.
          handed_seen number (life p steps).outs (all_messages moments) from_one (frames_in_life p steps number from_one) (life_sends_all p steps allowed octets) sapi
          (right_run sapi number (new_controller p) from_one (λ n first. new_fits n p) (new_holds p allowed) (new_uses p) steps)
          ∙ sym (handed_so_far number sapi nothing_switched moments);
    }
