-- SPDX-License-Identifier: MIT OR Apache-2.0
-- The messages of a connection that may still arrive, given what is on its way up from the
-- connection's channels.
use Rattle.std.specs.Prelude.{◌≡◌, ℕ, ◌&&◌, not, Bool, true, false, List, [], ◌∷◌}
use Rattle.std.specs.Prelude.{◌++◌, Option}
use Rattle.std.specs.Prelude.{Some, None}
use Rattle.std.specs.List.{AllByRecursion}
use Rattle.bssmap_codec.specs.Layer3.{IsLayer3}
use Rattle.world_laws.specs.Prelude.{Channel, Place, Drain, Target, Connection, undone, place_of}
use Rattle.conn_rules.specs.Streams.{Future}
use Rattle.hold_queue.specs.ChainState.{TenureHold as Held}
use Rattle.world_laws.specs.LineUp.Places.{Item, messages_in}
use Rattle.mobile_end.specs.Control.{without_control}
use Rattle.world_laws.specs.LineUps.{Arriving, UpLinks, is_ended, commanded_target}

abbrev pub AreLayer3 : List (List ℕ) → Type 0
AreLayer3 messages = AllByRecursion IsLayer3 messages

-- The mark of something missing, if the argument is true: an empty message, which no mobile sends.
abbrev pub mark : Bool → List (List ℕ)
mark true = [] ∷ []
mark false = []

-- ---- what may still arrive, given what is on its way up

-- The messages in these items without COMPLETE and FAILURE, which are of radio resource management
-- and aren't relayed.
abbrev pub texts_of : List Item → List (List ℕ)
texts_of items = without_control (messages_in items)

-- The future of an old channel: the messages on their way up, which are whole, and a mark if the
-- link broke before the channel's RF CHANNEL RELEASE ACK was on its way.
abbrev pub AsOld : Future → Arriving → UpLinks → Channel → Type 0
AsOld future arriving up c =
    (future (place_of c) ≡ texts_of (arriving (place_of c))
    ++ mark (not (up c.station) && not (is_ended (arriving (place_of c)))))
    × AreLayer3 (texts_of (arriving (place_of c)))

-- The future of the serving channel: the messages on their way up, which are whole, and a mark if
-- the link of its station is down.
abbrev pub AsServing : Future → Arriving → UpLinks → Channel → Type 0
AsServing future arriving up c =
    (future (place_of c) ≡ texts_of (arriving (place_of c)) ++ mark (not (up c.station)))
    × AreLayer3 (texts_of (arriving (place_of c)))

-- The future of the target to which the mobile was commanded: the messages on their way up, which
-- are whole, with or without a mark.
abbrev pub AsTarget : Future → Arriving → Option Target → Type 0
AsTarget future arriving None = Unit {0}
AsTarget future arriving (Some t) =
    (b : Bool) × (future (place_of t.channel) ≡ texts_of (arriving (place_of t.channel)) ++ mark b)
    × AreLayer3 (texts_of (arriving (place_of t.channel)))

-- All messages held are whole. There is a held list for each old channel and one for the serving
-- channel.
abbrev pub AreHeld : List Drain → List Held → Type 0
AreHeld draining [] = ⊥
AreHeld [] (t ∷ ts) = AreLayer3 t.zero
AreHeld (d ∷ ds) (t ∷ ts) = AreLayer3 t.zero × AreHeld ds ts

pub record IsFutureOf (future : Future) (arriving : Arriving) (up : UpLinks)
    (s : Connection) : Type 0 where
  pub old : AllByRecursion (AsOld future arriving up) (undone s.draining)
  pub serving : AsServing future arriving up s.serving
  pub target : AsTarget future arriving (commanded_target s.state)
  pub held : AreHeld s.draining s.up.tenures
