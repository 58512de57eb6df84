-- SPDX-License-Identifier: MIT OR Apache-2.0
-- A connection remains lined up at an event that changes nothing from which its line-up is drawn.
use Rattle.world_laws.proofs.Prelude.{◌≡◌, ℕ, Option, Some, None, refl, sym, ap, ◌∙◌, subst, AllByRecursion, Channel, Place, Target}
use Rattle.world_laws.proofs.Prelude.{Connection, used_channels, place_of, AirMessage, Command, Seat, Tenure, Actors, Mobile, is_station_up}
use Rattle.world_laws.proofs.Prelude.{tenure_at, AllByRecursion-so, Alive, coming_up, going_down, commanded_target, waiting_of, taken_of}
use Rattle.world_laws.proofs.Prelude.{Remembers, Sits, Leads, NoneOn, LinedUp, at_its_target, between, leads}
use Rattle.world_laws.specs.Seated.Remembers.{nothing, by_command}
use Rattle.world_laws.specs.Seated.Sits.{unchanged, gone}
use Rattle.world_laws.proofs.Framing.{AreSame, AreUp, lined-same}

-- ---- the present tenures are the same

unfoldable pub SameTenures : Actors → Actors → Type 0
SameTenures w v = (at : Place) → tenure_at v at ≡ tenure_at w at

pub remembers_same : {w v : Actors} {target : Option Target} {command : Option Command} →
    SameTenures w v →
    Remembers w target command →
    Remembers v target command
unfolding SameTenures
remembers_same same nothing = nothing
remembers_same same (by_command {target} is) = by_command (is ∙ ap (λ (t : Tenure). record { change = target.change; target = t }) (sym (same (place_of target.channel))))

pub sits_same : {w v : Actors} {serving : Channel} {target : Option Target} {seat : Seat} →
    SameTenures w v →
    Sits w serving target seat →
    Sits v serving target seat
unfolding SameTenures
sits_same {serving} same (unchanged is remembers) = unchanged (is ∙ sym (same (place_of serving))) (remembers_same same remembers)
sits_same same (at_its_target {target} is) = at_its_target (is ∙ sym (same (place_of target.channel)))
sits_same {serving} same (between {target} from is) =
    between (from ∙ sym (same (place_of serving))) (is ∙ ap (λ (t : Tenure). record { change = target.change; target = t }) (sym (same (place_of target.channel))))
sits_same same gone = gone

pub leads_same : {w v : Actors} {a : AirMessage} {target : Option Target} → SameTenures w v → Leads w a target → Leads v a target
unfolding SameTenures
leads_same same (leads {target} is to) = leads is (to ∙ ap (λ (t : Tenure). Some t) (sym (same (place_of target.channel))))

-- ---- what a connection is seen by

pub record SeesSame (w v : Actors) (s : Connection) : Type 0 where
  pub arriving : AreSame (coming_up v) (coming_up w) (used_channels s)
  pub up : AreUp (is_station_up v) (is_station_up w)
  pub serving : going_down v (place_of s.serving) ≡ going_down w (place_of s.serving)
  pub target : (t : Target) → commanded_target s.state ≡ Some t → going_down v (place_of t.channel) ≡ going_down w (place_of t.channel)
  pub tenures : SameTenures w v
  pub waiting : waiting_of v s.number ≡ waiting_of w s.number
  pub taken : taken_of v s.number ≡ taken_of w s.number

pub none_same : (w v : Actors) (target : Option Target) →
    ((t : Target) → target ≡ Some t → going_down v (place_of t.channel) ≡ going_down w (place_of t.channel)) →
    NoneOn w target →
    NoneOn v target
none_same w v None same none = none
none_same w v (Some target) same none = same target refl ∙ none

pub lined_up_same : {m : ℕ} {w v : Actors} {s : Connection} (p q : Mobile) →
    SeesSame w v s →
    q.end.sent ≡ p.end.sent →
    q.end.zero ≡ p.end.zero →
    q.seat ≡ p.seat →
    LinedUp m w p s →
    LinedUp m v q s
lined_up_same {m} {w} {v} {s} p q sees sent zero seat lined = record {
  alive = subst (Alive m)
      (sym (lined-same (coming_up v) (coming_up w) (is_station_up v) (is_station_up w) (going_down v (place_of s.serving)) (going_down w (place_of s.serving)) (waiting_of v s.number) (waiting_of w s.number) (taken_of v s.number) (taken_of w s.number) q p s
      sees.arriving sees.up sees.serving sees.waiting sees.taken sent zero seat)) lined.alive;
  sits = subst (Sits v s.serving (commanded_target s.state)) (sym seat) (sits_same sees.tenures lined.sits);
  led = subst (AllByRecursion (λ a. Leads v a (commanded_target s.state))) (sym sees.serving)
      (AllByRecursion-so (λ a. Leads w a (commanded_target s.state)) (λ a. Leads v a (commanded_target s.state)) (λ a. leads_same sees.tenures) (going_down w (place_of s.serving)) lined.led);
  none_on_target = none_same w v (commanded_target s.state) sees.target lined.none_on_target;
  apart = lined.apart;
  placed = lined.placed;
}
