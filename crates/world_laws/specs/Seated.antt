-- SPDX-License-Identifier: MIT OR Apache-2.0
-- The seat of a connection's mobile, and the condition that no other mobile is on the connection's
-- channels.
use Rattle.std.specs.Prelude.{◌≡◌, ◌≢◌, ℕ, true, false, List, [], ◌∷◌, Option}
use Rattle.std.specs.Prelude.{Some, None, Result}
use Rattle.std.specs.Prelude.{Ok}
use Rattle.std.specs.List.{AllByRecursion}
use Rattle.conn_messages.specs.declared.channel.Change.{Change}
use Rattle.conn_messages.specs.declared.channel.Change.TheVariants.{Assignment, Handover}
use Rattle.world_laws.specs.Prelude.{Channel, Place, SWITCH_LINK, Target, Connection, AreApart}
use Rattle.world_laws.specs.Prelude.{used_channels, place_of, RrMessage, RrFault}
use Rattle.world_laws.specs.Prelude.{rr_reading, AirMessage, On, Tenure, Actors, Mobile, mobile_of}
use Rattle.world_laws.specs.Prelude.{tenure_at, is_active_at}
use Rattle.conn_rules.specs.Connection.{is_at}
use Rattle.dtap_codec.specs.declared.rr.RrMessage.TheVariants.{AssignmentCommand, HandoverCommand}
use Rattle.world_laws.specs.LineUp.Alive.{Alive}
use Rattle.world_model.specs.declared.seat.Command.{Command}
use Rattle.world_model.specs.declared.seat.Seat.{Seat}
use Rattle.world_model.specs.declared.seat.Seat.TheVariants.{Moving, Gone}
use Rattle.world_model.specs.World.{is_reached}
use Rattle.world_laws.specs.GoingDown.{going_down}
use Rattle.world_laws.specs.LineUps.{commanded_target, line_up}

-- ---- the mobile of the connection

-- The command to a target, which leads to the last tenure of the target's channel.
abbrev pub command_to : Actors → Target → Command
command_to w target =
    record { change = target.change; target = tenure_at w (place_of target.channel) }

-- The mobile remembers no command, or the command of the change under way.
pub data Remembers (w : Actors) : Option Target → Option Command → Type 0 where
  nothing : {target : Option Target} → Remembers w target None
  by_command : {target : Target} {command : Command} → command ≡ command_to w target
      → Remembers w (Some target) (Some command)

-- The mobile's seat, with its channels in their last tenures. The mobile is on the serving channel;
-- or it was commanded to the target, and is on the target or between the two channels; or it is
-- gone.
pub data Sits (w : Actors) (serving : Channel) : Option Target → Seat → Type 0 where
  unchanged : {target : Option Target} {tenure : Tenure} {command : Option Command}
      → tenure ≡ tenure_at w (place_of serving) → Remembers w target command →
      Sits w serving target (On tenure command)
  at_its_target : {target : Target} {tenure : Tenure} → tenure ≡ tenure_at w
      (place_of target.channel)
      → Sits w serving (Some target) (On tenure None)
  between : {target : Target} {from : Tenure} {command : Command}
      → from ≡ tenure_at w (place_of serving) → command ≡ command_to w target →
      Sits w serving (Some target) (Moving from command)
  gone : {target : Option Target} → Sits w serving target Gone

-- ---- the commands on their way to the mobile

abbrev pub change_in : Result RrMessage RrFault → Option Change
change_in (Ok (AssignmentCommand channel)) = Some Assignment
change_in (Ok (HandoverCommand cell channel reference)) = Some Handover
change_in _ = None

-- The message for the air leads the mobile to the target of the change under way.
pub data Leads (w : Actors) (a : AirMessage) : Option Target → Type 0 where
  leads : {target : Target} → change_in (rr_reading a.message) ≡ Some target.change
      → a.target ≡ Some (tenure_at w (place_of target.channel)) → Leads w a (Some target)

-- No command is on its way on the target.
abbrev pub NoneOn : Actors → Option Target → Type 0
NoneOn w None = Unit {0}
NoneOn w (Some target) = going_down w (place_of target.channel) ≡ []

-- ---- other mobiles

-- The place is none of these channels.
abbrev pub IsElsewhere : List Channel → Place → Type 0
IsElsewhere channels at = AllByRecursion (λ c. is_at at c ≡ false) channels

-- No other mobile is in the present tenure of a channel that the connection uses.
abbrev pub IsAlone : Actors → ℕ → Connection → Type 0
IsAlone w mobile s =
    (other : ℕ) (q : Mobile) (tenure : Tenure) (command : Option Command) → other ≢ mobile
    → mobile_of w other ≡ Some q → q.seat ≡ On tenure command
    → is_reached w tenure ≡ true → IsElsewhere (used_channels s) tenure.at

abbrev pub commanded_channels : Option Target → List Channel
commanded_channels None = []
commanded_channels (Some target) = target.channel ∷ []

-- The connection's serving channel, and the target to which its mobile was commanded, are active if
-- they are channels of this station.
abbrev pub AreActiveAt : ℕ → Actors → Connection → Type 0
AreActiveAt station w s =
    AllByRecursion (λ c. c.station ≡ station
    → is_active_at w (place_of c) ≡ true) (s.serving
    ∷ commanded_channels (commanded_target s.state))

-- ---- a connection and its mobile, lined up

pub record LinedUp (m : ℕ) (w : Actors) (p : Mobile) (s : Connection) : Type 0 where
  pub alive : Alive m (line_up w p s)
  pub sits : Sits w s.serving (commanded_target s.state) p.seat
  pub led : AllByRecursion (λ a. Leads w a (commanded_target s.state))
      (going_down w (place_of s.serving))
  pub none_on_target : NoneOn w (commanded_target s.state)
  pub apart : AreApart (used_channels s)
  -- each channel is of a station: stations have numbers from 1 on, and `SWITCH_LINK` is 0
  pub placed : AllByRecursion (λ c. c.station ≢ SWITCH_LINK) (used_channels s)
