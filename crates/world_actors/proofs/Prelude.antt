-- SPDX-License-Identifier: MIT OR Apache-2.0
-- Names of other crates that the proofs of this crate use.
pub use Rattle.conn_messages.specs.declared.channel.Place.{Place}
pub use Rattle.controller_model.specs.Controller.{place_at}
pub use Rattle.dtap_codec.specs.declared.sapi.Sapi.{Sapi}
pub use Rattle.octets.specs.declared.memory.Memory.{Memory}
pub use Rattle.rsl_codec.specs.declared.rsl.Rsl.{Rsl}
pub use Rattle.std.proofs.Common.{Bool, Err, IsSome, List, None, Ok, OnErr, OnOk, Option, Result, Some, [], ap, false, if◌then◌else◌, refl}
pub use Rattle.std.proofs.Common.{set, subst, sym, true, ℕ, ◌&&◌, ◌++◌, ◌-◌, ◌∙◌, ◌∷◌, ◌≡◌}
pub use Rattle.std.proofs.lemmas.List.{set-get_or}
pub use Rattle.std.proofs.lemmas.List.Folds.{find_at}
pub use Rattle.std.specs.Option.{option_and_then, option_map}
pub use Rattle.world_ends.specs.Mobiles.{at_mobile, by_mobile as by_mobile_in, mobile_in}
pub use Rattle.world_ends.specs.MobilesState.{MobilesState}
pub use Rattle.world_ends.specs.Stations.{at_station, station_after_message, with_spot_of}
pub use Rattle.world_model.specs.Lists.{behind_first, first_in}
pub use Rattle.world_model.specs.Mobiles.{by_mobile, channel_required, only_if, with_message_made}
pub use Rattle.world_model.specs.Takes.{Takes}
pub use Rattle.world_model.specs.World.{Actors, Mobile, Station, base_of, has_number, is_reached, is_station_up, mobile_of, no_station}
pub use Rattle.world_model.specs.World.{outbox_of, put_back, spot_at, station_of, tenure_at}
pub use Rattle.world_model.specs.declared.seat.Seat.{Seat}
pub use Rattle.world_model.specs.declared.seat.Seat.TheVariants.{Asking, Gone, Moving, On}
pub use Rattle.world_model.specs.declared.seat.Tenure.{Tenure}

pub some_same : {A : Type 0} {x y : A} → Some x ≡ Some y → x ≡ y
some_same e = cc
