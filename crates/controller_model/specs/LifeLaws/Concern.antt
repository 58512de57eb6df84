-- SPDX-License-Identifier: MIT OR Apache-2.0
-- A frame leaves a connection unchanged if the frame doesn't concern the connection.
use Rattle.std.specs.Prelude.{◌≡◌, ◌≢◌, ◌↔◌, ℕ, [], Some}
use Rattle.controller_model.specs.Prelude.{Place}
use Rattle.controller_model.specs.LifeLaws.History.{outs_for}
use Rattle.controller_model.specs.declared.channel_state.ChannelState.TheVariants.{InUse, Releasing}
use Rattle.controller_model.specs.declared.step.Step.TheVariants.{Take}
use Rattle.controller_model.specs.Controller.{Controller, Turn, channel_state}
use Rattle.controller_model.specs.Life.{step}
use Rattle.controller_model.specs.Ownership.{Leaves, concerned}
use Rattle.controller_model.specs.Reading.{word_of}
use Rattle.ipa_framing.specs.declared.frame.Frame.{Frame}
use Rattle.ruled_relay.specs.declared.item.What.TheVariants as whats

-- The turn leaves the connection and its averages unchanged, puts nothing for the connection, and
-- leaves the connection's channels in use or releasing as before.
pub record IsLeft (number : ℕ) (c : Controller) (t : Turn) : Type 0 where
  pub entry : Leaves number c t.next
  pub outs : outs_for number t.outs ≡ []
  pub using : (at : Place) → channel_state t.next at ≡ InUse number
      ↔ channel_state c at ≡ InUse number
  pub releasing : (at : Place) → channel_state t.next at ≡ Releasing number
      ↔ channel_state c at ≡ Releasing number

-- a frame on this link leaves the connection unchanged, unless the frame concerns the connection
abbrev pub FrameLeaves : ℕ → Controller → ℕ → Frame → Type 0
FrameLeaves number c source frame =
    concerned c (word_of source frame) ≢ Some number → IsLeft number c (step c (Take (record {
      source =
          source;
      what = whats.Frame frame;
    })))
