-- SPDX-License-Identifier: MIT OR Apache-2.0
-- The notes on a controller's connections at a step.
use Rattle.std.specs.Prelude.{ℕ, ◌-◌, ◌==◌, ◌&&◌, nat_lt, Bool, true, false, if◌then◌else◌}
use Rattle.std.specs.Prelude.{List, [], ◌∷◌, ◌++◌, not, Option, Some, None}
use Rattle.std.specs.List.{flat_map}
use Rattle.std.specs.Option.{option_and_then}
use Rattle.conn_messages.specs.declared.channel.Change.{Change}
use Rattle.conn_messages.specs.declared.channel.Change.TheVariants.{Assignment, Handover}
use Rattle.conn_rules.specs.declared.input.Input.{Input}
use Rattle.conn_rules.specs.declared.input.Input.TheVariants.{Expiry, DrainExpiry}
use Rattle.conn_rules.specs.declared.state.Stage.TheVariants.{Preparing, Changing}
use Rattle.conn_rules.specs.declared.state.State.{State}
use Rattle.conn_rules.specs.declared.state.State.TheVariants.{WaitActivation, WaitEstablish}
use Rattle.conn_rules.specs.declared.state.State.TheVariants.{Live}
use Rattle.conn_rules.specs.Connection.{Connection}
use Rattle.conn_rules.specs.Timers.{after_pass}
use Rattle.conn_messages.specs.declared.out.Out.{Out}
use Rattle.conn_messages.specs.declared.parameters.TheConstants.{SWITCH_LINK}
use Rattle.controller_model.specs.declared.step.Step.{Step}
use Rattle.controller_model.specs.declared.step.Step.TheVariants.{Take, Tick}
use Rattle.controller_model.specs.Controller.{Controller, Entry, Turn}
use Rattle.controller_model.specs.Life.{expiry, step}
use Rattle.dtap_codec.specs.declared.sapi.Sapi.{Sapi}
use Rattle.dtap_codec.specs.declared.sapi.Sapi.TheVariants.{Zero, Three}
use Rattle.settings.specs.declared.timers.Timers.{Timers}
use Rattle.connection_notes.specs.declared.note.Holding.{Holding}
use Rattle.connection_notes.specs.declared.note.Holding.TheVariants.{Held, Relayed, Dropped}
use Rattle.connection_notes.specs.declared.note.Note.{Note}
use Rattle.connection_notes.specs.declared.note.Note.TheVariants.{Expired, Changed, Hold}
use Rattle.connection_notes.specs.declared.note.Timer.{Timer}
use Rattle.connection_notes.specs.declared.note.Timer.TheVariants.{T3101, T3103, T3107, Drain}
use Rattle.connection_notes.specs.declared.note.Puts.{Puts}
use Rattle.connection_notes.specs.declared.note.Way.{Way}
use Rattle.connection_notes.specs.declared.note.Way.TheVariants.{Down, Up}
use Rattle.connection_notes.specs.declared.sight.Phase.{Phase}
use Rattle.connection_notes.specs.declared.sight.Phase.TheVariants as phases
use Rattle.connection_notes.specs.declared.sight.Sight.{Sight}
use Rattle.connection_notes.specs.Sights.{sights_of}

-- the number of the connection that the note is about
abbrev pub number_of : Note → ℕ
number_of (Expired number timer) = number
number_of (Changed number from to) = number
number_of (Hold number holding count way sapi) = number

-- ---- timers

abbrev pub change_timer : Change → Timer
change_timer Assignment = T3107
change_timer Handover = T3103

-- the timer that runs in a state, apart from the drain time; `None` if no timer runs
abbrev pub state_timer : State → Option Timer
state_timer WaitActivation = Some T3101
state_timer WaitEstablish = Some T3101
state_timer (Live reference (Preparing target)) = Some (change_timer target.change)
state_timer (Live reference (Changing target)) = Some (change_timer target.change)
state_timer _ = None

abbrev pub timer_by : State → Input → Option Timer
timer_by state Expiry = state_timer state
timer_by state DrainExpiry = Some Drain
timer_by state _ = None

-- the timer that expires for a connection within `ms` milliseconds; `None` if no timer expires
abbrev pub timer_at : Timers → ℕ → Connection → Option Timer
timer_at timers ms s = option_and_then (timer_by s.state) (expiry timers (after_pass ms s))

abbrev pub expired : ℕ → Option Timer → List Note
expired number None = []
expired number (Some timer) = Expired number timer ∷ []

abbrev pub expiry_notes : Timers → ℕ → List Entry → List Note
expiry_notes timers ms entries =
    flat_map (λ e. expired e.connection.number (timer_at timers ms e.connection)) entries

abbrev pub expired_at : Controller → Step → List Note
expired_at c (Tick ms) = expiry_notes c.settings.timers ms c.entries
expired_at c (Take item) = []

-- ---- phases

abbrev pub order : Phase → ℕ
order phases.Absent = 0
order phases.WaitActivation = 1
order phases.WaitEstablish = 2
order phases.WaitConfirm = 3
order phases.Active = 4
order phases.Preparing = 5
order phases.Changing = 6
order phases.Draining = 7
order phases.Closed = 8

abbrev pub phase_notes : ℕ → Phase → Phase → List Note
phase_notes number from to =
    if order from == order to then [] else Changed number from to ∷ []

-- whether the switch confirmed the connection, and neither side has cleared it
abbrev pub is_live : Phase → Bool
is_live phases.Active = true
is_live phases.Preparing = true
is_live phases.Changing = true
is_live phases.Draining = true
is_live _ = false

-- ---- held messages

-- whether a frame on this link goes in this direction: up on the switch's link, else down
abbrev pub is_way : Way → ℕ → Bool
is_way Down link = not (link == SWITCH_LINK)
is_way Up link = link == SWITCH_LINK

abbrev pub is_put : Way → List Out → Bool
is_put way [] = false
is_put way (out ∷ others) = if is_way way out.to then true else is_put way others

abbrev pub puts_of : List Out → Puts
puts_of outs = record { down = is_put Down outs; up = is_put Up outs }

-- The change of a hold from `before` to `behind` messages. If the hold shrank, the messages that
-- left it were relayed if `are_put`, else dropped.
abbrev pub change_of : Bool → ℕ → ℕ → Option (Holding × ℕ)
change_of are_put before behind =
    if nat_lt before behind then Some (Held, behind - before)
    else if before == behind then None
    else if are_put then Some (Relayed, before - behind)
    else Some (Dropped, before - behind)

abbrev pub hold_notes : ℕ → Way → Sapi → Option (Holding × ℕ) → List Note
hold_notes number way sapi None = []
hold_notes number way sapi (Some change) = Hold number change.0 change.1 way sapi ∷ []

-- Messages that left a hold count as relayed if the step put a frame in their direction and the
-- connection is live; else they count as dropped. A closed connection drops its held messages. If
-- the data link of SAPI 3 fails, the messages of SAPI 3 for the mobile are dropped: the step puts
-- SAPI "n" REJECT to the switch, and no frame to a station.
abbrev pub down_notes : Puts → Sight → Sight → List Note
down_notes puts before behind =
    hold_notes before.number Down Zero
    (change_of (puts.down && is_live behind.phase) before.down_zero behind.down_zero)
    ++ hold_notes before.number Down Three
    (change_of (puts.down && is_live behind.phase) before.down_three behind.down_three)

abbrev pub up_notes : Puts → Sight → Sight → List Note
up_notes puts before behind =
    hold_notes before.number Up Zero
    (change_of (puts.up && is_live behind.phase) before.up_zero behind.up_zero)
    ++ hold_notes before.number Up Three
    (change_of (puts.up && is_live behind.phase) before.up_three behind.up_three)

-- ---- a step

-- the notes on one connection, from its views before and after a step
abbrev pub step_notes : Puts → Sight → Sight → List Note
step_notes puts before behind =
    phase_notes before.number before.phase behind.phase ++ down_notes puts before behind
    ++ up_notes puts before behind

-- the view of a connection that doesn't exist
abbrev pub absent : ℕ → Sight
absent number = record {
  number = number;
  phase = phases.Absent;
  down_zero = 0;
  down_three = 0;
  up_zero = 0;
  up_three = 0;
}

abbrev pub begun : Puts → Sight → List Note
begun puts behind = step_notes puts (absent behind.number) behind

abbrev pub ended : Puts → Sight → List Note
ended puts before = step_notes puts before (absent before.number)

-- the view, if its number is `number`
abbrev pub same : ℕ → Option Sight → Option Sight
same number None = None
same number (Some s) = if s.number == number then Some s else None

-- The notes on all connections, by rising number, from the views before and after a step. If the
-- first views of both lists have different numbers, the first connection of `before` has ended. The
-- connections that are left in `behind` at the end began.
abbrev pub notes_between : Puts → List Sight → List Sight → List Note
notes_between puts [] behind = flat_map (begun puts) behind
notes_between puts (one ∷ before) [] = ended puts one ++ notes_between puts before []
notes_between puts (one ∷ before) (first ∷ behind) =
    if first.number == one.number
    then step_notes puts one first ++ notes_between puts before behind
    else ended puts one ++ notes_between puts before (first ∷ behind)

-- ---- all notes at a step: first the timers that expire, then the connections

abbrev pub notes_by : Controller → Step → Turn → List Note
notes_by c s turn =
    expired_at c s
    ++ notes_between (puts_of turn.outs) (sights_of c.entries) (sights_of turn.next.entries)

abbrev pub notes_at : Controller → Step → List Note
notes_at c s = notes_by c s (step c s)

-- ---- a connection without a note

-- whether the phase and all counts of held messages are the same in both views
abbrev pub is_unchanged : Sight → Sight → Bool
is_unchanged before behind =
    (order before.phase == order behind.phase) && (before.down_zero == behind.down_zero)
    && (before.down_three == behind.down_three) && (before.up_zero == behind.up_zero)
    && (before.up_three == behind.up_three)
