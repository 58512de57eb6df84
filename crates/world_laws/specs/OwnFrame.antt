-- SPDX-License-Identifier: MIT OR Apache-2.0
-- A frame that says an input to a connection.
use Rattle.std.specs.Prelude.{◌≡◌, ℕ, true, if◌then◌else◌, List, Option, Some}
use Rattle.world_laws.specs.Prelude.{Channel, Place, Input, State, WaitConfirm, Live, Connection}
use Rattle.world_laws.specs.Prelude.{IsCarried, Row, IsOpen, row_of, Word}
use Rattle.world_laws.specs.Prelude.{OnChannel, OnConnection, channel_state, RelayItem, Actors}
use Rattle.controller_model.specs.Channels.{request_offer}
use Rattle.controller_model.specs.Controller.{Controller, Entry, entry_of, freed, is_up}
use Rattle.controller_model.specs.Life.{entry_at, frees}
use Rattle.controller_model.specs.Reading.{word_of}
use Rattle.world_model.specs.Frame.{Frame}
use Rattle.ruled_relay.specs.declared.item.What.TheVariants as whats
use Rattle.world_laws.specs.OwnHandle.{HandlesFor}

-- The state is that of an open connection that asked the switch for its connection.
abbrev pub IsRequested : State → Type 0
IsRequested WaitConfirm = Unit {0}
IsRequested (Live reference stage) = Unit {0}
IsRequested _ = ⊥

-- The controller in which the row is looked up. If the input frees the channel, the channel is free
-- in this controller.
abbrev pub freed_for : Controller → Place → Input → Controller
freed_for c at input =
    if frees (channel_state c at) (entry_at c (channel_state c at)) input then freed at c else c

-- The word says the input to the connection, which has the channel or the number that the word
-- names. The last argument is the channel offered to the row.
pub data IsSaidTo (c : Controller) (word : Word)
    (s : Connection) : Input → Option Channel → Type 0 where
  on_channel : (at : Place) (input : Input) (e : Entry) → word ≡ OnChannel at input
      → entry_at c (channel_state c at) ≡ Some e → e.connection ≡ s
      → IsSaidTo c word s input (request_offer (freed_for c at input) s input)
  on_connection : (number : ℕ) (input : Input) (e : Entry) → word ≡ OnConnection number input
      → entry_of c number ≡ Some e → e.connection ≡ s
      → IsSaidTo c word s input (request_offer c s input)

-- The item is a frame of a link that is up, and says the input to a connection that asked the
-- switch for its connection. The row that fits leaves the connection open.
pub record IsFrameFor (w : Actors) (item : RelayItem) (s : Connection) (input : Input)
    (offer : Option Channel) (r : Row) : Type 0 where
  pub frame : Frame
  pub is : item.what ≡ whats.Frame frame
  pub up : is_up w.controller item.source ≡ true
  pub said : IsSaidTo w.controller (word_of item.source frame) s input offer
  pub requested : IsRequested s.state
  pub fits : row_of s input offer ≡ Some r
  pub remains_open : IsOpen r.next.state
  pub carried : IsCarried input

-- The controller handles a frame for the connection by the row that fits, and the frame brings what
-- the input says.
abbrev pub FrameIsHandled : Actors → RelayItem → Connection → Input → Option Channel → Row → Type 0
FrameIsHandled w item s input offer r =
    IsFrameFor w item s input offer r → (text : List ℕ) × HandlesFor w item s input offer r text
