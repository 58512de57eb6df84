-- SPDX-License-Identifier: MIT OR Apache-2.0
use Rattle.std.proofs.Common.{◌≡◌, ◌<◌, ◌∙◌, length, get_or, None, unwrap_or, ap, arith, refl}
use Rattle.world_ends.specs.MobilesState.{MobilesState}
use Rattle.world_ends.specs.Mobiles.{place_in}
use Rattle.world_ends.proofs.Index.{is_place}
use Rattle.world_ends.proofs.mobiles.Mobiles.place_of.Goals as goal

pub returns : goal.returns
returns c =
    let within : c.args.number < 256 = omega (arith, c.ranges.number.fits) in
    let count : c.len.result ≡ length c.self.inside.mobiles.items = omega (arith, c.len.ensures, c.self.inside.mobiles.ok.0) in
    let is : c.unwrap_or.result ≡ unwrap_or (get_or c.self.inside.places c.args.number None) (length c.self.inside.mobiles.items) = rw (c.unwrap_or.ensures, c.from.ensures, count) refl in
    is ∙ is_place c.self.inside.places c.self.inside.mobiles.items c.args.number within c.self.invariant ∙ ap (λ (s : MobilesState). place_in c.args.number s.mobiles) c.self.view_is
