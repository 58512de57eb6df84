-- SPDX-License-Identifier: MIT OR Apache-2.0
use Rattle.std.proofs.Common.{◌≡◌, set, slice_get, Some, IsSome, OnOk, OnErr, unwrap_or, subst, sym}
use Rattle.std.specs.Option.{option_and_then}
use Rattle.world_ends.specs.MobilesState.{MobilesState}
use Rattle.world_ends.specs.Mobiles.{by_mobile, mobile_in, place_in, frame_of, taking}
use Rattle.world_ends.specs.contracts.mobiles.Mobiles.{the_view}
use Rattle.world_ends.proofs.Places.{is_there, frames_found, frame_wanted}
use Rattle.world_ends.proofs.mobiles.Mobiles.frame.Goals as goal

pub returns-clause-after : goal.returns-clause-after
returns-clause-after c =
    let found : slice_get c.self.inside.mobiles.items c.place_of-place.result ≡ Some c.in-Some.mobile.now = is_there c.self.inside.mobiles.items c.place_of-place.result c.in-Some.mobile.now c.in-Some.ensures.item.3.0 c.in-Some.ensures.value in
    let at : c.place_of-place.result ≡ place_in c.args.number c.self.inside.mobiles.items = subst (λ (s : MobilesState). c.place_of-place.result ≡ place_in c.args.number s.mobiles) (sym c.self.view_is) c.place_of-place.ensures in
    subst (λ (s : MobilesState). OnOk c.frame.result (record (the_view c.self.inside) { mobiles = set c.self.inside.mobiles.items c.place_of-place.result c.frame.new.self } ≡ unwrap_or (by_mobile c.args.number (taking c.args.sapi) s) s)) c.self.view_is
    (frames_found c.frame.result c.args.number (taking c.args.sapi) (the_view c.self.inside) c.in-Some.mobile.now c.frame.new.self c.place_of-place.result at found c.frame.ensures.after)

pub returns-clause-memory : goal.returns-clause-memory
returns-clause-memory c =
    let found : slice_get c.self.inside.mobiles.items c.place_of-place.result ≡ Some c.in-Some.mobile.now = is_there c.self.inside.mobiles.items c.place_of-place.result c.in-Some.mobile.now c.in-Some.ensures.item.3.0 c.in-Some.ensures.value in
    let at : c.place_of-place.result ≡ place_in c.args.number c.self.inside.mobiles.items = subst (λ (s : MobilesState). c.place_of-place.result ≡ place_in c.args.number s.mobiles) (sym c.self.view_is) c.place_of-place.ensures in
    subst (λ (s : MobilesState). OnErr c.frame.result (IsSome (option_and_then (frame_of c.args.sapi) (mobile_in c.args.number s.mobiles)))) c.self.view_is
    (frame_wanted c.frame.result c.args.number (frame_of c.args.sapi) (the_view c.self.inside) c.in-Some.mobile.now c.place_of-place.result at found c.frame.ensures.memory)
