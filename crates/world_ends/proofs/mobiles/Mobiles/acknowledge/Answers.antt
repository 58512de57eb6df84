-- SPDX-License-Identifier: MIT OR Apache-2.0
use Rattle.std.proofs.Common.{◌≡◌, set, slice_get, Some, subst, sym}
use Rattle.world_model.specs.Takes.{Takes}
use Rattle.world_ends.specs.MobilesState.{MobilesState}
use Rattle.world_ends.specs.Mobiles.{by_mobile, place_in, acknowledging}
use Rattle.world_ends.specs.contracts.mobiles.Mobiles.{the_view}
use Rattle.world_ends.proofs.Places.{is_there, takes_found}
use Rattle.world_ends.proofs.mobiles.Mobiles.acknowledge.Goals as goal

pub returns : goal.returns
returns c =
    let found : slice_get c.self.inside.mobiles.items c.place_of-place.result ≡ Some c.in-Some.mobile.now = is_there c.self.inside.mobiles.items c.place_of-place.result c.in-Some.mobile.now c.in-Some.ensures.item.3.0 c.in-Some.ensures.value in
    let at : c.place_of-place.result ≡ place_in c.args.number c.self.inside.mobiles.items = subst (λ (s : MobilesState). c.place_of-place.result ≡ place_in c.args.number s.mobiles) (sym c.self.view_is) c.place_of-place.ensures in
    subst (λ (s : MobilesState). Takes s (by_mobile c.args.number (acknowledging c.args.sapi) s) c.acknowledge.result (record (the_view c.self.inside) { mobiles = set c.self.inside.mobiles.items c.place_of-place.result c.acknowledge.new.self })) c.self.view_is
    (takes_found c.args.number (acknowledging c.args.sapi) (the_view c.self.inside) c.in-Some.mobile.now c.acknowledge.new.self c.acknowledge.result c.place_of-place.result at found c.acknowledge.ensures.takes)
