-- SPDX-License-Identifier: MIT OR Apache-2.0
-- The line-up of one connection: where each message of the mobile on SAPI 0 is on its way to the
-- switch.
use Rattle.std.specs.Prelude.{ℕ, Bool, false, List, [], ◌∷◌, ◌++◌, filter, length}
use Rattle.std.specs.Prelude.{if◌then◌else◌}
use Rattle.world_laws.specs.Prelude.{is_flow_message, is_control, DataLinkState}

-- An item on its way up from a channel, made by its station and not yet taken by the controller.
pub data Item : Type 0 where
  -- a layer 3 message in an ESTABLISH INDICATION or a DATA INDICATION of SAPI 0
  brought : List ℕ → Item
  -- the RF CHANNEL RELEASE ACK of the channel
  released : Item

-- A tenure: the time for which the connection has one channel.
pub record LineTenure : Type 0 where
  -- the messages of the channel that the controller holds
  pub hold : List (List ℕ)
  -- what is on its way up from the channel, in order
  pub items : List Item
  -- whether the link of the channel's station broke, so that something of the channel may be
  -- missing
  pub is_lost : Bool
  -- whether the controller took the channel's RF CHANNEL RELEASE ACK
  pub is_done : Bool

-- the tenure of a channel that brought nothing yet
abbrev pub fresh : LineTenure
fresh = record { hold = []; items = []; is_lost = false; is_done = false }

-- Where the mobile is, as its connection sees it: on the serving channel, on the target of a change
-- of channel, moving between these two channels, or gone.
pub data Seat : Type 0 where
  on_serving : Seat
  on_target : Seat
  moving : Seat
  gone : Seat

pub record LineUp : Type 0 where
  -- the messages of the flow that the mobile's upper layers sent, without numbers
  pub sent : List (List ℕ)
  -- the mobile's data link of SAPI 0
  pub link : DataLinkState
  pub seat : Seat
  -- whether nothing of the line is missing, and the mobile isn't gone
  pub is_intact : Bool
  -- whether the connection waits for its initial message, so that CR wasn't put yet
  pub is_opening : Bool
  -- how many commands to change the channel are on their way to the mobile or remembered by it
  pub commands : ℕ
  -- whether a change of channel is under way: from the COMMAND up to its COMPLETE or FAILURE
  pub is_changing : Bool
  -- whether the controller received the CC of the switch
  pub is_confirmed : Bool
  -- the tenures of the channels that served before, the oldest first
  pub old : List LineTenure
  pub serving : LineTenure
  pub target : LineTenure
  -- the messages that wait in the outbox to the switch
  pub out : List (List ℕ)
  -- the messages that the switch took
  pub taken : List (List ℕ)

-- ---- the line

-- those of the messages that are of the flow
abbrev pub flow : List (List ℕ) → List (List ℕ)
flow messages = filter is_flow_message messages

abbrev pub messages_in : List Item → List (List ℕ)
messages_in [] = []
messages_in (brought message ∷ items) = message ∷ messages_in items
messages_in (released ∷ items) = messages_in items

-- The flow of a channel: the messages held, then those on their way up.
abbrev pub part_of : LineTenure → List (List ℕ)
part_of t = flow t.hold ++ flow (messages_in t.items)

-- The flow of these channels, one after the other, up to the first channel of which something may
-- be missing.
abbrev pub parts_of : List LineTenure → List (List ℕ)
parts_of [] = []
parts_of (t ∷ ts) = part_of t ++ (if t.is_lost then [] else parts_of ts)

-- The line: the messages of the flow that the switch took, then those that wait for the switch,
-- then those of each channel, in the order in which the channels serve.
abbrev pub line : LineUp → List (List ℕ)
line l = flow l.taken ++ flow l.out ++ parts_of (l.old ++ l.serving ∷ l.target ∷ [])

-- ---- counts

-- how many of these messages are of radio resource management, as COMPLETE and FAILURE are
abbrev pub controls_of : List (List ℕ) → ℕ
controls_of messages = length (filter is_control messages)

abbrev pub controls_in : List Item → ℕ
controls_in items = controls_of (messages_in items)

-- How many of the messages in these items are of the flow.
abbrev pub texts_in : List Item → ℕ
texts_in items = length (flow (messages_in items))

-- ---- changes of a tenure

abbrev pub with_items : LineTenure → List Item → LineTenure
with_items t items = record t { items = items }

-- The tenure after the first message on its way up is held, at the end of the messages held.
abbrev pub holding : LineTenure → List ℕ → List Item → LineTenure
holding t message items = record t { hold = t.hold ++ message ∷ []; items = items }

-- The tenure after all messages held are relayed.
abbrev pub emptied : LineTenure → LineTenure
emptied t = record t { hold = [] }
