-- SPDX-License-Identifier: MIT OR Apache-2.0
-- How the line-up of a connection changes when its mobile sends, moves or goes, and when stations
-- take and acknowledge its frames.
use Rattle.std.specs.Prelude.{◌≡◌, ℕ, ◌%◌, true, false, Some, List, [], ◌∷◌}
use Rattle.std.specs.Prelude.{◌++◌, length}
use Rattle.world_laws.specs.Prelude.{is_flow_message, is_control}
use Rattle.dtap_codec.specs.Number.{with_number}
use Rattle.dtap_codec.specs.Places.{IsClear}
use Rattle.mobile_end.specs.DataLink.{waits, lent_message, after_lending, after_acknowledgement}
use Rattle.mobile_end.specs.DataLink.{after_resume}
use Rattle.world_laws.specs.LineUp.Places.{LineUp, with_items}
use Rattle.world_laws.specs.LineUp.Places.Item.{brought}
use Rattle.world_laws.specs.LineUp.Places.Seat.{on_serving, on_target, moving, gone}

pub data MobileStep (m : ℕ) : LineUp → LineUp → Type 0 where
  -- the mobile's upper layers send a message of the flow, which waits with the number of its place
  sends_numbered : (l : LineUp) (x : List ℕ) → IsClear x →
      MobileStep m l (record l {
        sent =
            l.sent ++ x ∷ [];
        link = waits l.link (with_number (length l.sent % m) x);
      })
  -- the mobile's upper layers send a message that isn't of the flow
  sends_other : (l : LineUp) (x : List ℕ) → is_flow_message x ≡ false → is_control x ≡ false →
      MobileStep m l (record l { link = waits l.link x })
  -- the station of the serving channel takes a message from the air, which is then on its way up
  taken_on_serving : (l : LineUp) (x : List ℕ) → lent_message l.link ≡ Some x
      → l.serving.is_lost ≡ false →
      MobileStep m (record l { seat = on_serving })
      (record l {
        seat =
            on_serving;
        link = after_lending l.link;
        serving = with_items l.serving (l.serving.items
            ++ brought x ∷ []);
      })
  -- the station of the target takes a message from the air, which is then on its way up
  taken_on_target : (l : LineUp) (x : List ℕ) → lent_message l.link ≡ Some x
      → l.target.is_lost ≡ false →
      MobileStep m (record l { seat = on_target })
      (record l {
        seat =
            on_target;
        link = after_lending l.link;
        target = with_items l.target (l.target.items
            ++ brought x ∷ []);
      })
  -- the station acknowledges the message that it took
  acknowledged : (l : LineUp) → MobileStep m l (record l { link = after_acknowledgement l.link })
  -- the mobile follows the COMMAND and leaves the serving channel
  follows_command : (l : LineUp) → MobileStep m (record l { seat = on_serving; commands = 1 })
      (record l { seat = moving; commands = 0 })
  -- all COMMANDs on their way to the mobile are lost
  loses_command : (l : LineUp) → MobileStep m l (record l { commands = 0 })
  -- the mobile arrives on the target: it sends COMPLETE first, then the messages that weren't
  -- acknowledged
  arrives : (l : LineUp) (complete : List ℕ) → is_control complete ≡ true →
      MobileStep m (record l {
        seat =
            moving;
      }) (record l { seat = on_target; link = after_resume l.link complete })
  -- the mobile returns to the serving channel: it sends FAILURE first, then the messages that
  -- weren't acknowledged
  returns : (l : LineUp) (failure : List ℕ) → is_control failure ≡ true →
      MobileStep m (record l {
        seat =
            moving;
      }) (record l { seat = on_serving; link = after_resume l.link failure })
  -- CHANNEL RELEASE reaches the mobile on the serving channel or on the target
  dismissed_from_serving : (l : LineUp)
      → MobileStep m (record l { seat = on_serving }) (record l { seat = gone; is_intact = false })
  dismissed_from_target : (l : LineUp)
      → MobileStep m (record l { seat = on_target }) (record l { seat = gone; is_intact = false })
