-- SPDX-License-Identifier: MIT OR Apache-2.0
-- If a step of the controller relays nothing of a connection to the switch, the connection has the
-- same line after it, or it ended.
use Rattle.world_laws.proofs.Prelude.{◌≡◌, ℕ, ◌≤◌, true, unwrap_or, List, [], ◌∷◌, find, Option, Some, None, refl, sym, ap, ◌∙◌, subst}
use Rattle.world_laws.proofs.Prelude.{SWITCH_LINK, Connection, AreApart, used_channels, IsThere, connection_of, Controller, Turn, RelayItem}
use Rattle.world_laws.proofs.Prelude.{Handle, Tick, Tenure, actors_after, handled, with_turn, Actors, Mobile, has_number, is_up}
use Rattle.world_laws.proofs.Prelude.{mobile_of, turn_leads, tick, forwarded, HasEnded, IsRequested, LinedUp, IsOpenOrEnded}
use Rattle.world_model.specs.Life.{event_after}
use Rattle.world_laws.proofs.Others.{turn_mobiles}
use Rattle.world_laws.proofs.Quiet.{ArePlaced}
use Rattle.world_laws.specs.Handling.OpenOrEnded.IsOpenOrEnded.{carries_on, is_over}
use Rattle.world_laws.proofs.Handling.Leaving.{NoneDown, SameLine, line_same, turn_ended, turn_lined, turned}
use Rattle.world_laws.proofs.OwnHandle.{handled_by}
use Rattle.world_laws.proofs.PutAsRead.{open_of}

-- ---- the world after the event

pub handle_is : (w : Actors) (item : RelayItem) (items : List RelayItem) →
    w.inbox ≡ item ∷ items →
    actors_after w Handle ≡ handled_by w item items
unfolding event_after
handle_is w item items pending = ap (λ (xs : List RelayItem). unwrap_or (handled xs w) w) pending

pub idle_is : (w : Actors) → w.inbox ≡ [] → actors_after w Handle ≡ w
unfolding event_after
idle_is w pending = ap (λ (xs : List RelayItem). unwrap_or (handled xs w) w) pending

pub tick_is : (w : Actors) (ms : ℕ) → actors_after w (Tick ms) ≡ with_turn None (tick ms w.controller) w
unfolding event_after
tick_is w ms = refl

-- its controller
pub controller-is : (target : Option Tenure) (t : Turn) (w : Actors) → (with_turn target t w).controller ≡ t.next
controller-is target t w = turn_leads (λ (x : Actors). x.controller ≡ t.next) target t w (λ links. refl)

-- ---- the connection continues

-- what the step makes of it
pub record IsSame (s next : Connection) (t : Turn) : Type 0 where
  pub line : SameLine s next
  pub there : connection_of t.next s.number ≡ Some next
  pub requested : IsRequested next.state
  pub request : next.request ≡ s.request

pub still_lined : {m : ℕ} {w : Actors} {mobile : ℕ} {p : Mobile} {s : Connection} (next : Connection) (target : Option Tenure) (t : Turn) → 1 ≤ s.number → is_up w SWITCH_LINK ≡ true → forwarded t.outs s.number ≡ [] → NoneDown w target t → IsSame s next t
    → AreApart (used_channels next) → ArePlaced (used_channels next) → mobile_of w mobile ≡ Some p → LinedUp m w p s → IsOpenOrEnded m (with_turn target t w) mobile s
still_lined {m} {w} {mobile} {p} {s} next target t from_one up none down same apart placed found lined =
    carries_on next same.line.number
    (record {
      there = ap (λ (c : Controller). connection_of c next.number) (controller-is target t w) ∙ ap (connection_of t.next) same.line.number ∙ same.there;
      is_open = open_of next.state same.requested;
      from_one = subst (λ (n : ℕ). 1 ≤ n) (sym same.line.number) from_one;
    })
    same.requested same.request
    (record {
      one = p;
      found = ap (λ (ms : List Mobile). find (has_number mobile) ms) (turn_mobiles target t.outs (turned w t)) ∙ found;
      lined = line_same next same.line apart placed (turn_lined target t up none down lined);
    })

-- ---- it ended

pub now_ended : {m : ℕ} {w : Actors} {mobile : ℕ} {s : Connection} (target : Option Tenure) (t : Turn) →
    is_up w SWITCH_LINK ≡ true →
    forwarded t.outs s.number ≡ [] →
    (IsThere (connection_of t.next s.number) → ⊥) →
    HasEnded m w mobile s.number →
    IsOpenOrEnded m (with_turn target t w) mobile s
now_ended {w} {s = s} target t up none gone ended =
    is_over (λ there. gone (subst (λ (c : Controller). IsThere (connection_of c s.number)) (controller-is target t w) there)) (turn_ended target t up none ended)

-- in a world that has handled nothing yet
pub ended_before : {m : ℕ} {w : Actors} {mobile number : ℕ} (items : List RelayItem) →
    HasEnded m w mobile number →
    HasEnded m (record w { inbox = items }) mobile number
ended_before items ended = record { one = ended.one; found = ended.found; in_order = ended.in_order }
