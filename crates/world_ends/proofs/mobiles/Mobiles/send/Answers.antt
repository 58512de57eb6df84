-- SPDX-License-Identifier: MIT OR Apache-2.0
use Rattle.std.proofs.Common.{◌≡◌, set, slice_get, Some, IfOk, IsSome, OnErr, subst, sym}
use Rattle.world_model.specs.Takes.{Takes}
use Rattle.world_ends.specs.MobilesState.{MobilesState}
use Rattle.world_ends.specs.Mobiles.{by_mobile, place_in, sending}
use Rattle.world_ends.specs.contracts.mobiles.Mobiles.{the_view}
use Rattle.world_ends.proofs.Places.{is_there, sends_found, wants_found}
use Rattle.world_ends.proofs.mobiles.Mobiles.send.Goals as goal

pub returns-clause-ok : goal.returns-clause-ok
returns-clause-ok c =
    let found : slice_get c.self.inside.mobiles.items c.place_of-place.result ≡ Some c.in-Some.mobile.now = is_there c.self.inside.mobiles.items c.place_of-place.result c.in-Some.mobile.now c.in-Some.ensures.item.3.0 c.in-Some.ensures.value in
    let at : c.place_of-place.result ≡ place_in c.args.number c.self.inside.mobiles.items = subst (λ (s : MobilesState). c.place_of-place.result ≡ place_in c.args.number s.mobiles) (sym c.self.view_is) c.place_of-place.ensures in
    subst (λ (s : MobilesState). IfOk c.send.result (λ taken. Takes s (by_mobile c.args.number (sending c.args.sapi c.args.message.now) s) taken (record (the_view c.self.inside) { mobiles = set c.self.inside.mobiles.items c.place_of-place.result c.send.new.self }))) c.self.view_is
    (sends_found c.send.result c.args.number (sending c.args.sapi c.args.message.now) (the_view c.self.inside) c.in-Some.mobile.now c.send.new.self c.place_of-place.result at found c.send.ensures.ok)

pub returns-clause-memory : goal.returns-clause-memory
returns-clause-memory c =
    let found : slice_get c.self.inside.mobiles.items c.place_of-place.result ≡ Some c.in-Some.mobile.now = is_there c.self.inside.mobiles.items c.place_of-place.result c.in-Some.mobile.now c.in-Some.ensures.item.3.0 c.in-Some.ensures.value in
    let at : c.place_of-place.result ≡ place_in c.args.number c.self.inside.mobiles.items = subst (λ (s : MobilesState). c.place_of-place.result ≡ place_in c.args.number s.mobiles) (sym c.self.view_is) c.place_of-place.ensures in
    subst (λ (s : MobilesState). OnErr c.send.result (IsSome (by_mobile c.args.number (sending c.args.sapi c.args.message.now) s))) c.self.view_is
    (wants_found c.send.result c.args.number (sending c.args.sapi c.args.message.now) (the_view c.self.inside) c.in-Some.mobile.now c.place_of-place.result at found c.send.ensures.memory)
