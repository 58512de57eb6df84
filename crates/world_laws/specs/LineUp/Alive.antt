-- SPDX-License-Identifier: MIT OR Apache-2.0
-- The conditions that the line-up of a connection meets while the connection lives.
use Rattle.std.specs.Prelude.{◌≡◌, ℕ, ◌+◌, ◌≤◌, Bool, true, false, ◌||◌, List}
use Rattle.std.specs.Prelude.{[], ◌∷◌}
use Rattle.dtap_codec.specs.Places.{Rise}
use Rattle.world_laws.specs.Prelude.{to_be_taken, DataLinkState, RunsToEnd}
use Rattle.world_laws.specs.LineUp.Places.{LineTenure, Seat, LineUp, line, controls_in, controls_of}
use Rattle.world_laws.specs.LineUp.Places.{texts_in}
use Rattle.world_laws.specs.LineUp.Places.Seat.{on_serving, on_target, moving, gone}

-- If the line is intact, the mobile's link continues where the line ends. Otherwise the places of
-- the messages in the line rise, and nothing is said of the link.
pub data Follows (m : ℕ) (sent messages : List (List ℕ))
    (link : DataLinkState) : Bool → Type 0 where
  carries_on : RunsToEnd m sent messages link → Follows m sent messages link true
  rises : (k : ℕ) → Rise m sent 0 messages k → Follows m sent messages link false

-- No message of the oldest old channel is held: its messages are relayed at once. If there is no
-- old channel, no message of the serving channel is held once the switch confirmed the connection
-- by CC.
abbrev pub FirstRelays : Bool → List LineTenure → List (List ℕ) → Type 0
FirstRelays confirmed [] hold = confirmed ≡ true → hold ≡ []
FirstRelays confirmed (t ∷ ts) hold = t.hold ≡ []

-- The mobile is in this seat, or it is gone.
pub data IsHereOrGone (here : Seat) : Seat → Type 0 where
  remains : IsHereOrGone here here
  left : IsHereOrGone here gone

-- How far a change of channel is. At most one COMMAND is on its way down, and at most one of
-- COMPLETE and FAILURE is on its way up; these two are called controls. The initial message may
-- also be of radio resource management; until the initial message arrived, nothing is said of the
-- controls of the serving channel and of the link. The numbers are: commands on their way to the
-- mobile; controls from the serving channel; messages of the flow from the target; controls from
-- the target; and controls that the mobile's link still gives.
pub data ChangePhase : Bool → Bool → ℕ → Seat → ℕ → ℕ → ℕ → ℕ → Type 0 where
  -- the initial message hasn't arrived yet
  opens : {commands serving texts target link : ℕ} {seat : Seat} → IsHereOrGone on_serving seat
      → commands + texts + target ≡ 0 →
      ChangePhase true false commands seat serving texts target link
  -- no change of channel is under way
  rests : {commands serving texts target link : ℕ} {seat : Seat} → IsHereOrGone on_serving seat
      → commands + serving + link + texts + target ≡ 0 →
      ChangePhase false false commands seat serving texts target link
  -- the mobile hasn't followed the COMMAND yet
  waits : {commands serving texts target link : ℕ} {seat : Seat} → IsHereOrGone on_serving seat
      → commands ≤ 1 → serving + link + texts + target ≡ 0 →
      ChangePhase false true commands seat serving texts target link
  -- the mobile left the serving channel and hasn't arrived on the target
  leaves : {commands serving texts target link : ℕ} → commands + serving + texts + target ≡ 0
      → ChangePhase false true commands moving serving texts target link
  -- the mobile arrived on the target: COMPLETE is to come from the target, before the messages
  -- after it
  arrives : {commands serving texts target link : ℕ} {seat : Seat} → IsHereOrGone on_target seat
      → commands + serving ≡ 0 → target + link ≤ 1 →
      ChangePhase false true commands seat serving texts target link
  -- the mobile returned to the serving channel: FAILURE is to come from there
  returns : {commands serving texts target link : ℕ} {seat : Seat} → IsHereOrGone on_serving seat
      → commands + texts + target ≡ 0 → serving + link ≤ 1 →
      ChangePhase false true commands seat serving texts target link

-- whether something of one of these channels may be missing
abbrev pub some_lost : List LineTenure → Bool
some_lost [] = false
some_lost (t ∷ ts) = t.is_lost || some_lost ts

-- Whether the line is intact, and why: by the mobile's seat, and by whether something is lost of
-- old channels, of the serving channel and of the target. If the link of a target breaks before the
-- mobile arrived on it, the line remains intact, since FAILURE can still arrive.
pub data Condition : Seat → Bool → Bool → Bool → Bool → Type 0 where
  sound : {seat : Seat} → Condition seat false false false true
  left_the_cell : {old serving target : Bool} → Condition gone old serving target false
  lost_old : {seat : Seat} {serving target : Bool} → Condition seat true serving target false
  lost_serving : {seat : Seat} {old target : Bool} → Condition seat old true target false
  lost_target : {seat : Seat} {old serving : Bool} → IsHereOrGone on_target seat
      → Condition seat old serving true false

pub record Alive (m : ℕ) (l : LineUp) : Type 0 where
  pub follows : Follows m l.sent (line l) l.link l.is_intact
  pub first : FirstRelays l.is_confirmed l.old l.serving.hold
  pub phase : ChangePhase l.is_opening l.is_changing l.commands l.seat (controls_in l.serving.items)
      (texts_in l.target.items) (controls_in l.target.items) (controls_of (to_be_taken l.link))
  pub condition : Condition l.seat (some_lost l.old) l.serving.is_lost l.target.is_lost l.is_intact
  -- no message of the target is held
  pub bare : l.target.hold ≡ []
