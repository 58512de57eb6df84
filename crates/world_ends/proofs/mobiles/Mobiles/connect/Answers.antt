-- SPDX-License-Identifier: MIT OR Apache-2.0
use Rattle.std.proofs.Common.{◌≡◌, ◌<◌, ◌∙◌, ap, arith, sym}
use Rattle.world_ends.specs.MobilesState.{MobilesState}
use Rattle.world_ends.specs.Mobiles.{place_in}
use Rattle.world_ends.proofs.Index.{joins}
use Rattle.world_ends.proofs.mobiles.Mobiles.connect.Goals as goal

pub invariant_of-self-2 : goal.invariant_of-self-2
invariant_of-self-2 c =
    let number : c.in_ok-mobile.mobile.number ≡ c.args.number = ap (λ m. m.number) c.in_ok-mobile.ensures in
    let at : c.place_of-first.result ≡ place_in c.args.number c.self.inside.mobiles.items = c.place_of-first.ensures ∙ ap (λ (s : MobilesState). place_in c.args.number s.mobiles) (sym c.self.view_is) in
    let known : c.in_ok-mobile.mobile.number < 256 = omega (arith, c.ranges.number.fits, number) in
    rw (c.in_ok-push.ensures.items, c.from.ensures, at, ← number) (joins c.self.inside.places c.self.inside.mobiles.items c.in_ok-mobile.mobile known c.self.invariant)
