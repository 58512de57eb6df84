-- SPDX-License-Identifier: MIT OR Apache-2.0
-- The line-up of a connection in the world: where each message that its mobile sent is on its way
-- to the switch.
use Rattle.std.specs.Prelude.{ℕ, ◌+◌, ◌==◌, ◌&&◌, not, Bool, true, false}
use Rattle.std.specs.Prelude.{if◌then◌else◌, List, []}
use Rattle.std.specs.Prelude.{◌∷◌, length, map, find, Option, Some, None}
use Rattle.world_laws.specs.Prelude.{Channel, Place, SWITCH_LINK, Drain, State, Live, WaitEstablish}
use Rattle.world_laws.specs.Prelude.{Target, Connection, place_of}
use Rattle.world_laws.specs.Prelude.{forwarded, DataLinkState, SwitchConnection, AirMessage, Asking}
use Rattle.world_laws.specs.Prelude.{On, Actors, Mobile, is_station_up}
use Rattle.world_laws.specs.Prelude.{outbox_of}
use Rattle.conn_rules.specs.declared.state.Stage.TheVariants.{Changing}
use Rattle.conn_rules.specs.Connection.{is_at}
use Rattle.hold_queue.specs.ChainState.{TenureHold as Held}
use Rattle.world_laws.specs.LineUp.Alive.{some_lost}
use Rattle.world_laws.specs.LineUp.ChangeStep.{ended}
use Rattle.world_laws.specs.LineUp.Places.{Item, LineTenure, Seat, LineUp, fresh, flow}
use Rattle.world_laws.specs.LineUp.Places.Item.{brought, released}
use Rattle.world_laws.specs.LineUp.Places.Seat.{on_serving, on_target, moving, gone}
use Rattle.world_model.specs.declared.seat.Seat.{Seat as MobileSeat}
use Rattle.world_model.specs.declared.seat.Seat.TheVariants.{Moving, Gone}
use Rattle.world_laws.specs.ComingUp.{coming_up}
use Rattle.world_laws.specs.GoingDown.{going_down}

-- ---- the mobile, as its connection sees it

-- The mobile's seat as its connection sees it. A mobile that asks for a channel counts as on the
-- serving channel.
abbrev pub seat_from : Channel → MobileSeat → Seat
seat_from serving Asking = on_serving
seat_from serving (On tenure command) = if is_at tenure.at serving then on_serving else on_target
seat_from serving (Moving from command) = moving
seat_from serving Gone = gone

-- 1 if the mobile remembers a command, otherwise 0.
abbrev pub remembered : MobileSeat → ℕ
remembered (On tenure (Some command)) = 1
remembered _ = 0

-- ---- tenures

-- what is on its way up from each channel, in order
abbrev pub Arriving : Type 0
Arriving = Place → List Item

-- whether the link of each station is up
abbrev pub UpLinks : Type 0
UpLinks = ℕ → Bool

abbrev pub is_ended : List Item → Bool
is_ended [] = false
is_ended (released ∷ items) = true
is_ended (brought message ∷ items) = is_ended items

-- The tenure of an old channel whose RF CHANNEL RELEASE ACK wasn't taken yet. A message of the
-- tenure may be missing if the link broke before this acknowledgement was on its way.
abbrev pub draining_tenure : Bool → List Item → List (List ℕ) → LineTenure
draining_tenure up items hold =
    record { hold = hold; items = items; is_lost = not up && not (is_ended items); is_done = false }

abbrev pub old_tenure : Arriving → UpLinks → Drain → List (List ℕ) → LineTenure
old_tenure arriving up d hold =
    if d.is_done then ended hold else draining_tenure (up d.channel.station)
    (arriving (place_of d.channel)) hold

abbrev pub old_tenures : Arriving → UpLinks → List Drain → List Held → List LineTenure
old_tenures arriving up [] holds = []
old_tenures arriving up (d ∷ ds) [] = old_tenure arriving up d [] ∷ old_tenures arriving up ds []
old_tenures arriving up (d ∷ ds) (held ∷ others) =
    old_tenure arriving up d held.zero ∷ old_tenures arriving up ds others

-- The messages held of the serving channel; its tenure comes after those of the old channels.
abbrev pub serving_hold : List Drain → List Held → List (List ℕ)
serving_hold draining [] = []
serving_hold [] (held ∷ others) = held.zero
serving_hold (d ∷ ds) (held ∷ others) = serving_hold ds others

abbrev pub serving_tenure : Arriving → UpLinks → Channel → List (List ℕ) → LineTenure
serving_tenure arriving up c hold =
    record {
      hold = hold;
      items = arriving (place_of c);
      is_lost = not (up c.station);
      is_done = false;
    }

-- Whether the mobile is on the target or is gone.
abbrev pub has_arrived : Seat → Bool
has_arrived on_serving = false
has_arrived on_target = true
has_arrived moving = false
has_arrived gone = true

-- The target to which the mobile was commanded, if any.
abbrev pub commanded_target : State → Option Target
commanded_target (Live reference (Changing target)) = Some target
commanded_target _ = None

abbrev pub target_tenure : Arriving → UpLinks → Seat → Option Target → LineTenure
target_tenure arriving up seat None = fresh
target_tenure arriving up seat (Some target) =
    record {
      hold =
          [];
      items = arriving (place_of target.channel);
      is_lost = not (up target.channel.station)
          && has_arrived seat;
      is_done = false;
    }

-- ---- the switch

-- The messages of a connection that wait in the outbox to the switch.
abbrev pub waiting_of : Actors → ℕ → List (List ℕ)
waiting_of w number =
    map (λ f. f.message) (forwarded (map (λ entry. entry.out) (outbox_of w SWITCH_LINK)) number)

abbrev pub is_of_peer : ℕ → SwitchConnection → Bool
is_of_peer number c = c.peer == number

abbrev pub taken_in : Option SwitchConnection → List (List ℕ)
taken_in None = []
taken_in (Some c) = c.reception.taken

-- The messages that the switch took on the connection to which the controller gave this number.
abbrev pub taken_of : Actors → ℕ → List (List ℕ)
taken_of w number = taken_in (find (is_of_peer number) w.switch.connections)

-- ---- the line-up

abbrev pub is_gone : Seat → Bool
is_gone gone = true
is_gone _ = false

-- Whether the connection waits for its initial message, its channel being active.
abbrev pub is_opening : State → Bool
is_opening WaitEstablish = true
is_opening _ = false

abbrev pub is_changing : Option Target → Bool
is_changing None = false
is_changing (Some target) = true

abbrev pub is_confirmed : State → Bool
is_confirmed (Live reference stage) = true
is_confirmed _ = false

abbrev pub is_intact : Seat → List LineTenure → LineTenure → LineTenure → Bool
is_intact seat old serving target =
    not (is_gone seat) && not (some_lost old) && not serving.is_lost && not target.is_lost

abbrev pub assembled : List (List ℕ) → DataLinkState → Seat → State → ℕ → List LineTenure
    → LineTenure
    → LineTenure → List (List ℕ) → List (List ℕ) → LineUp
assembled sent link seat state commands old serving target out taken = record {
  sent = sent;
  link = link;
  seat = seat;
  is_intact = is_intact seat old serving target;
  is_opening = is_opening state;
  commands = commands;
  is_changing = is_changing (commanded_target state);
  is_confirmed = is_confirmed state;
  old = old;
  serving = serving;
  target = target;
  out = out;
  taken = taken;
}

-- The line-up of a mobile and its connection, given: what is on its way up from each channel, which
-- links are up, the commands on their way down, the messages that wait for the switch, and those
-- that the switch took.
abbrev pub lined : Arriving → UpLinks → List AirMessage → List (List ℕ)
    → List (List ℕ) → Mobile → Connection → LineUp
lined arriving up commands out taken p s =
    assembled p.end.sent p.end.zero (seat_from s.serving p.seat) s.state
    (length commands + remembered p.seat)
    (old_tenures arriving up s.draining s.up.tenures)
    (serving_tenure arriving up s.serving (serving_hold s.draining s.up.tenures))
    (target_tenure arriving up (seat_from s.serving p.seat) (commanded_target s.state))
    (flow out)
    (flow taken)

-- The line-up of a mobile and its connection in a world.
abbrev pub line_up : Actors → Mobile → Connection → LineUp
line_up w p s =
    lined (coming_up w) (is_station_up w) (going_down w (place_of s.serving))
    (waiting_of w s.number) (taken_of w s.number) p s
