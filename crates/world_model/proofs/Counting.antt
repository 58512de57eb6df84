-- SPDX-License-Identifier: MIT OR Apache-2.0
-- Events don't change the number of stations.
use Rattle.world_model.proofs.Prelude.{◌≡◌, length, set, refl, ◌∙◌, length-set, Event, actors_after, Actors}
use Rattle.world_model.proofs.Footprints.{event-keeps}

abbrev Same : Actors → Actors → Type 0
Same w v = length v.stations ≡ length w.stations

pub same_stations : (w : Actors) (event : Event) → length (actors_after w event).stations ≡ length w.stations
same_stations w event = event-keeps (Same w) w event (record {
  puts = λ u number p q _ _ _ same. same;
  joins = λ number initial accepts _ same. same;
  tells = λ u n message _ _ same. length-set u.stations _ _ ∙ same;
  spots = λ u at spot _ _ same. length-set u.stations _ _ ∙ same;
  pops = λ station others _ same. same;
  activates = λ u s a _ _ same. length-set (set u.stations _ _) _ _ ∙ length-set u.stations _ _ ∙ same;
  releases = λ u s channel _ same. length-set (set u.stations _ _) _ _ ∙ length-set u.stations _ _ ∙ same;
}) (record {
  rest = λ u inbox controller switch made links same. same;
  next = λ source message _ same. length-set w.stations _ _;
  down = λ source _ _ same. length-set w.stations _ _;
}) refl
