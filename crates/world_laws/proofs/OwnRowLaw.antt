-- SPDX-License-Identifier: MIT OR Apache-2.0
-- A row of the table keeps its connection's line-up: the steps put together.
use Rattle.world_laws.proofs.Prelude.{◌≡◌, ℕ, Bool, true, ◌&&◌, not, List, Option, Some, sym, ap, ◌∙◌, subst, Channel, Place, Input}
use Rattle.world_laws.proofs.Prelude.{Connection, IsValid, Row, KeepsUplink, OfRow, relayed, Zero, to_be_taken, IsValid-row, row_keeps}
use Rattle.world_laws.proofs.Prelude.{controls_of, old_tenures, serving_hold, serving_tenure, commanded_target, target_tenure, is_gone}
use Rattle.world_laws.proofs.Prelude.{is_intact, RowKeepsLineUp, some_lacks}
use Rattle.world_laws.specs.LineUp.Places.{Item, Seat}
use Rattle.world_laws.proofs.OwnRow.{row_alive}
use Rattle.world_laws.proofs.OwnSteps.{old_lacks, NoneMissing, none_missing, missing_none, phase_counted, step_phase, step_intact}
use Rattle.world_laws.proofs.StillToArrive.{row_line}

-- of the row that fits
pub of_row : (P : Row → Type 0) {o : Option Row} {r : Row} → o ≡ Some r → OfRow P o → P r
of_row P is h = subst (OfRow P) is h

intact_none : (arriving : Place → List Item) (up : ℕ → Bool) (seat : Seat) (s : Connection) → is_intact seat (old_tenures arriving up s.draining s.up.tenures) (serving_tenure arriving up s.serving (serving_hold s.draining s.up.tenures)) (target_tenure arriving up seat (commanded_target s.state)) ≡ true
    → NoneMissing seat (some_lacks arriving up s.draining) (not (up s.serving.station)) (target_tenure arriving up seat (commanded_target s.state)).is_lost
intact_none arriving up seat s is = none_missing seat (some_lacks arriving up s.draining) (not (up s.serving.station)) (target_tenure arriving up seat (commanded_target s.state)).is_lost
    (ap (λ (b : Bool). not (is_gone seat) && not b && not (not (up s.serving.station)) && not (target_tenure arriving up seat (commanded_target s.state)).is_lost) (sym (old_lacks arriving up s.draining s.up.tenures)) ∙ is)

none_intact : (arriving : Place → List Item) (up : ℕ → Bool) (seat : Seat) (s : Connection) → NoneMissing seat (some_lacks arriving up s.draining) (not (up s.serving.station)) (target_tenure arriving up seat (commanded_target s.state)).is_lost
    → is_intact seat (old_tenures arriving up s.draining s.up.tenures) (serving_tenure arriving up s.serving (serving_hold s.draining s.up.tenures)) (target_tenure arriving up seat (commanded_target s.state)) ≡ true
none_intact arriving up seat s none =
    ap (λ (b : Bool). not (is_gone seat) && not b && not (not (up s.serving.station)) && not (target_tenure arriving up seat (commanded_target s.state)).is_lost) (old_lacks arriving up s.draining s.up.tenures)
    ∙ missing_none seat (some_lacks arriving up s.draining) (not (up s.serving.station)) (target_tenure arriving up seat (commanded_target s.state)).is_lost none

pub row_keeps_line_up_new : (m : ℕ) (s : Connection) (input : Input) (offer : Option Channel) (r : Row) → RowKeepsLineUp m s input offer r
row_keeps_line_up_new m s input offer r before after up commands commands2 seat seat2 sent link out taken does alive =
    let keeps : KeepsUplink Zero does.future s input r = of_row (KeepsUplink Zero does.future s input) does.fits (row_keeps s input offer Zero does.future does.valid does.apart does.ends) in
    let alone : IsValid r.next = of_row (λ (x : Row). IsValid x.next) does.fits (IsValid-row s input offer does.valid does.carried) in
    row_alive s r.next sent link seat seat2 commands commands2 before after up (relayed Zero r.outs) out taken alone
    (record {
      line = row_line s input r does.future before after up seat seat2 keeps does.remains_open does.was does.now does.whole;
      intact = λ is. none_intact before up seat s (step_intact does.step (phase_counted before up seat s (controls_of (to_be_taken link)) alive.phase) (intact_none after up seat2 r.next is));
    })
    (step_phase (controls_of (to_be_taken link)) does.step does.awaits alive.phase) alive
