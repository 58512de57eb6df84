-- SPDX-License-Identifier: MIT OR Apache-2.0
use Rattle.std.proofs.Common.{◌≡◌, false, is_some, List, ℕ, OnOk, subst}
use Rattle.mobile_end.specs.Mobile.{after_queue, refusal_of_send}
use Rattle.world_ends.proofs.Fit.{sent_fit}
use Rattle.world_ends.proofs.mobile_station.MobileStation.send.Goals as goal

pub invariant_of-self : goal.invariant_of-self
invariant_of-self c =
    let may : is_some (refusal_of_send c.self.inside.end c.args.sapi c.args.message.now) ≡ false = cc in
    let is : c.into_vec.result.items ≡ c.args.message.now = cc c.in_ok-copy.ensures in
    sent_fit c.send.result c.self.inside.seat c.self.inside.end c.send.new.self c.args.sapi c.args.message.now c.self.invariant may
    (subst (λ (m : List ℕ). OnOk c.send.result (c.send.new.self ≡ after_queue c.self.inside.end c.args.sapi m)) is c.send.ensures.ok) c.send.ensures.err
