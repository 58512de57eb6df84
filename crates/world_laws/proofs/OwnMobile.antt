-- SPDX-License-Identifier: MIT OR Apache-2.0
-- What the mobile of a connection does keeps the connection lined up.
use Rattle.world_laws.proofs.Prelude.{◌≡◌, ℕ, ◌&&◌, ◌%◌, not, Bool, true, false, if◌then◌else◌, List, [], ◌∷◌, ◌++◌, length, Some, None}
use Rattle.world_laws.proofs.Prelude.{refl, sym, subst, inl, inr, is_none, cases_Bool, Connection, Sapi, Zero, Three, is_flow_message}
use Rattle.world_laws.proofs.Prelude.{with_number, MobilePlace, Stage, New, Connected, is_control, after_acknowledgement, after_number}
use Rattle.world_laws.proofs.Prelude.{after_queue, refusal_of_send, after_acked, after_acked_at, MobileState, Actors, Mobile, Alive}
use Rattle.world_laws.proofs.Prelude.{BadMessage, waits_in, is_sendable, has_clear_number, is_sendable_clear, IsClear-flow}
use Rattle.world_laws.proofs.Prelude.{commanded_target, line_up, Sits, LinedUp}
use Rattle.world_laws.specs.LineUp.MobileStep.MobileStep.{sends_numbered, sends_other, acknowledged}
use Rattle.world_laws.proofs.LineUp.Moving.{alive_mobile}
use Rattle.mobile_end.specs.declared.mobile_end.Place.TheVariants as places
use Rattle.mobile_end.specs.Mobile.{link_of, with_link, refusal_before_connect}
use Rattle.octets.specs.Refusal.{first_refusal}

-- ---- the mobile's end changes where it sits

pub lined_up_end : {m : ℕ} {w : Actors} {p : Mobile} {s : Connection} (q : Mobile) →
    q.seat ≡ p.seat →
    Alive m (line_up w q s) →
    LinedUp m w p s →
    LinedUp m w q s
lined_up_end {m} {w} {p} {s} q seat alive lined = record {
  alive = alive;
  sits = subst (Sits w s.serving (commanded_target s.state)) (sym seat) lined.sits;
  led = lined.led;
  none_on_target = lined.none_on_target;
  apart = lined.apart;
  placed = lined.placed;
}

-- ---- its upper layers send

pub sendable_of : (e : MobileState) (sapi : Sapi) (message : List ℕ) →
    is_none (refusal_of_send e sapi message) ≡ true →
    is_sendable sapi message ≡ true
sendable_of e sapi message may = by_stage e.stage may where
  by_stage : (stage : Stage) →
      is_none (first_refusal (refusal_before_connect stage) (if is_sendable sapi message then None else Some BadMessage)) ≡ true →
      is_sendable sapi message ≡ true
  by_stage New is = absurd cc
  by_stage Connected is = by_message (is_sendable sapi message) is where
    by_message : (b : Bool) → is_none (if b then None else Some BadMessage) ≡ true → b ≡ true
    by_message true is = refl
    by_message false is = absurd cc

-- the upper layers send no control message
pub no_control : (message : List ℕ) → is_sendable Zero message ≡ true → is_control message ≡ false
no_control [] is = refl
no_control (first ∷ rest) is = by_kind (is_control (first ∷ rest)) refl where
  three : (a b c d : Bool) → a && (b && not c) && d ≡ true → c ≡ true → ⊥
  three true true true d is c = absurd cc
  three _ _ _ d is c = absurd cc

  by_kind : (b : Bool) → is_control (first ∷ rest) ≡ b → is_control (first ∷ rest) ≡ false
  by_kind false other = other
  by_kind true control = absurd (three _ _ (is_control (first ∷ rest)) (has_clear_number (first ∷ rest)) is control)

pub own_upper : {m : ℕ} {w : Actors} {p : Mobile} {s : Connection} (sapi : Sapi) (message : List ℕ) →
    p.end.modulus ≡ m →
    is_none (refusal_of_send p.end sapi message) ≡ true →
    LinedUp m w p s →
    LinedUp m w (record p { end = after_queue p.end sapi message }) s
own_upper {m} {w} {p} {s} sapi message modulus may lined =
    elim (cases_Bool (is_flow_message message)) [
      | inl numbered ↦ as_is numbered (lined_up_end (record p { end = after_number p.end message }) refl
          (subst (λ (n : ℕ). Alive m (line_up w (record p { end = record p.end { sent = p.end.sent ++ message ∷ []; zero = waits_in p.end.zero (with_number (length p.end.sent % n) message) } }) s)) (sym modulus)
          (alive_mobile (sends_numbered (line_up w p s) message (IsClear-flow message (is_sendable_clear sapi message sendable) numbered)) lined.alive)) lined)
      | inr other ↦ as_is other (by_sapi sapi sendable other)
    ] where
      sendable : is_sendable sapi message ≡ true
      sendable = sendable_of p.end sapi message may

      as_is : {b : Bool} →
          is_flow_message message ≡ b →
          LinedUp m w (record p { end = if b then after_number p.end message else with_link p.end sapi (waits_in (link_of p.end sapi) message) }) s →
          LinedUp m w (record p { end = after_queue p.end sapi message }) s
      as_is is kept = subst (λ (b : Bool). LinedUp m w (record p { end = if b then after_number p.end message else with_link p.end sapi (waits_in (link_of p.end sapi) message) }) s) (sym is) kept

      by_sapi : (sapi : Sapi) →
          is_sendable sapi message ≡ true →
          is_flow_message message ≡ false →
          LinedUp m w (record p { end = with_link p.end sapi (waits_in (link_of p.end sapi) message) }) s
      by_sapi Zero may other = lined_up_end (record p { end = with_link p.end Zero (waits_in p.end.zero message) }) refl (alive_mobile (sends_other (line_up w p s) message other (no_control message may)) lined.alive) lined
      by_sapi Three may other = lined_up_end (record p { end = with_link p.end Three (waits_in p.end.three message) }) refl lined.alive lined

-- ---- what the station took is acknowledged

pub own_air_ack : {m : ℕ} {w : Actors} {p : Mobile} {s : Connection} (sapi : Sapi) →
    LinedUp m w p s →
    LinedUp m w (record p { end = after_acked p.end sapi }) s
own_air_ack {m} {w} {p} {s} sapi lined = by_place p.end.place sapi where
  by_place : (place : MobilePlace) (sapi : Sapi) → LinedUp m w (record p { end = after_acked_at place p.end sapi }) s
  by_place places.OnChannel Zero = lined_up_end (record p { end = with_link p.end Zero (after_acknowledgement p.end.zero) }) refl (alive_mobile (acknowledged (line_up w p s)) lined.alive) lined
  by_place places.OnChannel Three = lined_up_end (record p { end = with_link p.end Three (after_acknowledgement p.end.three) }) refl lined.alive lined
  by_place places.Moving sapi = lined
