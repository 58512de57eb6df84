-- SPDX-License-Identifier: MIT OR Apache-2.0
-- The controller handles an item for the connection that it concerns.
use Rattle.std.specs.Prelude.{◌≡◌, ◌≢◌, ℕ, true, false, List, [], ◌∷◌, map}
use Rattle.std.specs.Prelude.{Option, Some, None}
use Rattle.std.specs.List.{AllByRecursion}
use Rattle.world_laws.specs.Prelude.{Channel, Place, SWITCH_LINK, Input, Connection, IsCarried}
use Rattle.world_laws.specs.Prelude.{IsValid, Row, AreApart, IsOpen, relayed}
use Rattle.world_laws.specs.Prelude.{target_in, used_channels, row_of, place_of, take, forwarded}
use Rattle.world_laws.specs.Prelude.{Zero, RelayItem, Parameters, Event}
use Rattle.world_laws.specs.Prelude.{Handle, Tick, Tenure, actors_after, Actors, is_up, modulus_in}
use Rattle.world_laws.specs.Prelude.{tenure_at}
use Rattle.world_laws.specs.Runs.{world}
use Rattle.conn_messages.specs.Out.{IsReadOf, out_of, outs_of}
use Rattle.conn_rules.specs.Roles.{RoleStep, TargetRole, roles_of, step_by, target_role}
use Rattle.conn_rules.specs.Roles.RoleStep.{commands as role_commands}
use Rattle.conn_rules.specs.Timers.{after_pass}
use Rattle.controller_model.specs.Life.{tick}
use Rattle.world_laws.specs.LineUp.Places.{flow, messages_in}
use Rattle.world_model.specs.Relay.{target_in as tenure_in}
use Rattle.world_laws.specs.ComingUp.{brings_in, coming_up}
use Rattle.world_laws.specs.GoingDown.{going_down}
use Rattle.world_laws.specs.LineUps.{is_ended}
use Rattle.world_laws.specs.OwnItem.{said_by, IsRead, IsBesideTarget}
use Rattle.world_laws.specs.OwnStep.{StillAwaits}
use Rattle.world_laws.specs.KeptLineUps.{AreLinedUp, EndLast, IsForOthers}
use Rattle.world_laws.specs.ToArrive.{AreLayer3, texts_of}

-- The tenure whose activation the item acknowledges. If the row puts the COMMAND, it is the
-- target's present tenure; with any other row there is no such tenure.
abbrev pub BeginsTenure : Actors → RoleStep → Option TargetRole → Option Tenure → Type 0
BeginsTenure w role_commands (Some t) tenure =
    tenure ≡ Some (tenure_at w (place_of t.target.channel))
BeginsTenure w role_commands None tenure = ⊥
BeginsTenure w _ o tenure = tenure ≡ None

-- The item brings an input to the connection, and the controller puts the outputs of the row that
-- fits, and nothing else. The row doesn't put CR and leaves the connection open.
pub record HandlesFor (w : Actors) (item : RelayItem) (s : Connection) (input : Input)
    (offer : Option Channel) (r : Row) (text : List ℕ) : Type 0 where
  pub fits : row_of s input offer ≡ Some r
  pub remains_open : IsOpen r.next.state
  pub awaits : StillAwaits s.state r.next.state
  pub outs : (take item w.controller).outs ≡ outs_of s.number r.outs
  pub carried : IsCarried input
  pub read : IsRead input text
  pub brings : (at : Place) → brings_in at item ≡ said_by input text at
  pub begins : BeginsTenure w (step_by input (roles_of s)) (target_role s.state)
      (tenure_in w item.source item.what)

-- What is on its way on the connection's channels is in order when the input arrives, and the link
-- of the switch is up.
pub record AreInOrder (w : Actors) (s : Connection) (input : Input) : Type 0 where
  pub valid : IsValid s
  pub switch_up : is_up w SWITCH_LINK ≡ true
  -- nothing on its way from an old channel follows the RF CHANNEL RELEASE ACK, and no other channel
  -- brings an RF CHANNEL RELEASE ACK
  pub old_end : EndLast w s
  pub others_continue : AllByRecursion (λ c. is_ended (coming_up w (place_of c))
      ≡ false) (s.serving ∷ target_in s.state)
  -- no message is on its way up from a target before the COMMAND, or after the mobile returned; no
  -- COMMAND is on its way on a target
  pub silent : IsBesideTarget input
      → AllByRecursion (λ c. messages_in (coming_up w (place_of c)) ≡ []) (target_in s.state)
  pub uncommanded : AllByRecursion (λ c. going_down w (place_of c) ≡ []) (target_in s.state)
  -- the messages on their way up are whole
  pub whole : AllByRecursion (λ c. AreLayer3 (texts_of (coming_up w (place_of c))))
      (used_channels s)

-- The outputs of the row are read as they were put. The flow among the messages that the row relays
-- on SAPI 0 is the flow that is put for the switch. After the row the connection's channels differ
-- from one another and are channels of stations.
pub record IsPutAsRead (s : Connection) (r : Row) : Type 0 where
  pub whole : AreLayer3 (relayed Zero r.outs)
  pub forwards : flow (map (λ f. f.message) (forwarded (outs_of s.number r.outs) s.number))
      ≡ flow (relayed Zero r.outs)
  pub read : AllByRecursion (λ m. IsReadOf s.number m (out_of s.number m).frame.body) r.outs
  pub apart : AreApart (used_channels r.next)
  pub placed : AllByRecursion (λ c. c.station ≢ SWITCH_LINK) (used_channels r.next)

-- Whatever happened before, a connection that is lined up remains lined up when the controller
-- handles the first item of the inbox for this connection.
abbrev pub HandleKeepsLineUps : Parameters → List Event → Type 0
HandleKeepsLineUps settings events =
    (mobile : ℕ) (s : Connection) (item : RelayItem) (items : List RelayItem) (input : Input)
    (offer : Option Channel) (r : Row) (text : List ℕ)
    → (world settings events).inbox ≡ item ∷ items
    → HandlesFor (world settings events) item s input offer r text
    → AreInOrder (world settings events) s input → IsPutAsRead s r
    → AreLinedUp (modulus_in settings) (world settings events) mobile s
    → AreLinedUp (modulus_in settings) (actors_after (world settings events) Handle) mobile r.next

-- When time passes and no output is the connection's, a connection that is lined up remains lined
-- up, with its timers advanced.
abbrev pub TimeAgesLineUps : Parameters → List Event → ℕ → Type 0
TimeAgesLineUps settings events ms =
    (mobile : ℕ) (s : Connection) → AllByRecursion (IsForOthers None s)
    (tick ms (world settings events).controller).outs
    → AreLinedUp (modulus_in settings) (world settings events) mobile s
    → AreLinedUp (modulus_in settings) (actors_after (world settings events) (Tick ms)) mobile
    (after_pass ms s)
