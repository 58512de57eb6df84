-- SPDX-License-Identifier: MIT OR Apache-2.0
-- All laws of a controller's life.
use Rattle.std.specs.Prelude.{◌≡◌, ℕ, ◌≤◌, ◌<◌, List}
use Rattle.std.specs.List.{AllByRecursion}
use Rattle.conn_messages.specs.declared.parameters.TheConstants.{SWITCH_LINK}
use Rattle.controller_model.specs.LifeLaws.Acts.{ActsOn}
use Rattle.controller_model.specs.LifeLaws.Concern.{FrameLeaves}
use Rattle.controller_model.specs.LifeLaws.Downlink.{DownlinkIsConserved}
use Rattle.controller_model.specs.LifeLaws.End.{IsThere, SilenceIsKept, IsSilentThrough}
use Rattle.controller_model.specs.LifeLaws.Handing.{HandsInPlace}
use Rattle.controller_model.specs.LifeLaws.History.{connection_of}
use Rattle.controller_model.specs.LifeLaws.Naming.{NamesItsMobile}
use Rattle.controller_model.specs.LifeLaws.Numbers.{IsNumbered}
use Rattle.controller_model.specs.LifeLaws.Owning.{LinkedOf, OwnsOpen}
use Rattle.controller_model.specs.LifeLaws.Placing.{KeepsToChannels}
use Rattle.controller_model.specs.LifeLaws.Reach.{PutsOnUpLinks}
use Rattle.controller_model.specs.LifeLaws.Sending.{IsOctetStep, IsSent}
use Rattle.controller_model.specs.LifeLaws.Uplink.{UplinkIsConserved}
use Rattle.controller_model.specs.LifeLaws.Using.{AreUsed}
use Rattle.controller_model.specs.declared.step.Step.{Step}
use Rattle.controller_model.specs.Controller.{Controller, Turn, is_up, new_controller}
use Rattle.ipa_framing.specs.declared.frame.Frame.{Frame}
use Rattle.settings.specs.Parameters.{AreAllowed, Parameters}

-- A controller that has done no step yet, with allowed settings.
pub record IsNew (c : Controller) : Type 0 where
  pub allowed : AreAllowed c.settings
  pub new : c ≡ new_controller c.settings

-- The laws of a controller that did these steps. `life` has the frames that it put and the
-- controller after the steps.
pub record KeepsLaws (p : Parameters) (steps : List Step) (life : Turn) : Type 0 where
  -- For each SAPI, while a connection is open: the messages relayed to the switch, followed by the
  -- mobile's messages that are held, are the messages that arrived on the connection's channels.
  -- The messages handed to the mobile, followed by the switch's messages that are held, are the
  -- messages that the switch sent and that weren't rejected. Whether or not the connection is open,
  -- the messages handed are some of those that the switch sent, in order.
  pub uplink : (number : ℕ) → 1 ≤ number → UplinkIsConserved number p steps life
  pub downlink : (number : ℕ) → 1 ≤ number → DownlinkIsConserved number p steps life
  -- No message is handed while a connection's channel changes. Once the connection is closed, no
  -- message is relayed or handed, whatever steps follow.
  pub silence : (number : ℕ) → 1 ≤ number → SilenceIsKept number p steps life
  pub closed : (rest : List Step) (number : ℕ) → 1 ≤ number → number < life.next.next_number
      → (IsThere (connection_of life.next number) → ⊥) → IsSilentThrough number life.next rest
  -- Stated by the messages that are put: no message is handed from the COMMAND until COMPLETE,
  -- FAILURE or a clear. At other times messages are handed on the serving channel. Once CLEAR
  -- COMPLETE was put, only RLC is put.
  pub handing : (number : ℕ) → 1 ≤ number → HandsInPlace number p steps life
  -- The controller marks a channel as in use by a connection exactly if the connection uses the
  -- channel. Therefore no two connections use the same channel.
  pub channels : (number : ℕ)
      → OwnsOpen life.next.channels life.next.links number (connection_of life.next number)
  pub used : AreUsed life.next
  -- The numbers of the connections rise in their order and are below the number of the next
  -- connection. A connection exists only while the link of the switch is up.
  pub numbers : IsNumbered life.next
  pub linked : (number : ℕ) → 1 ≤ number
      → LinkedOf (is_up life.next SWITCH_LINK) (connection_of life.next number)
  -- In any next step, a connection does at most one row of the table. The row's messages go to
  -- channels that the connection uses at that moment, on links that are up. An IMMEDIATE ASSIGNMENT
  -- is for the connection's own mobile. A frame leaves every connection that it doesn't concern as
  -- it was.
  pub rows : (step : Step) (number : ℕ) → 1 ≤ number → ActsOn number life.next step
  pub placed : (step : Step) (number : ℕ) → 1 ≤ number → KeepsToChannels number life.next step
  pub reach : (step : Step) → PutsOnUpLinks life.next step
  pub named : (step : Step) (number : ℕ) → 1 ≤ number → NamesItsMobile number life.next step
  pub others : (number source : ℕ) (frame : Frame) → 1 ≤ number
      → FrameLeaves number life.next source frame
  -- Each frame that is put has a body of at most 2,048 octets and is PONG or is read as the message
  -- that was put. Assumes: the frames that arrived carry octets.
  pub sent : AllByRecursion IsOctetStep steps → AllByRecursion IsSent life.outs
