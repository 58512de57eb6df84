-- SPDX-License-Identifier: MIT OR Apache-2.0
-- Whether a step takes a frame for a connection.
use Rattle.std.specs.Prelude.{ℕ, ◌==◌, ◌&&◌, ◌||◌, Bool, true, false, if◌then◌else◌}
use Rattle.std.specs.Prelude.{List, [], ◌∷◌}
use Rattle.conn_messages.specs.declared.channel.Place.{Place}
use Rattle.conn_rules.specs.declared.state.Stage.TheVariants.{Changing, Preparing}
use Rattle.conn_rules.specs.declared.state.State.{State}
use Rattle.conn_rules.specs.declared.state.State.TheVariants.{Live}
use Rattle.conn_rules.specs.Connection.{Connection, is_at}
use Rattle.controller_model.specs.Controller.{Controller, Entry}
use Rattle.controller_model.specs.declared.step.Step.{Step}
use Rattle.controller_model.specs.declared.step.Step.TheVariants.{Take, Tick}
use Rattle.controller_model.specs.declared.word.Word.{Word}
use Rattle.controller_model.specs.declared.word.Word.TheVariants.{OnChannel, OnConnection}
use Rattle.controller_model.specs.declared.word.Word.TheVariants.{Reports}
use Rattle.controller_model.specs.Reading.{word_of}
use Rattle.ruled_relay.specs.declared.item.What.{What}
use Rattle.ruled_relay.specs.declared.item.What.TheVariants as whats

abbrev pub is_target : Place → State → Bool
is_target at (Live reference (Preparing target)) = is_at at target.channel
is_target at (Live reference (Changing target)) = is_at at target.channel
is_target at state = false

-- Whether a channel serves a connection, or is the target of the connection's change of channel.
abbrev pub uses : Place → Connection → Bool
uses at s = is_at at s.serving || is_target at s.state

abbrev pub has_channel : ℕ → Place → List Entry → Bool
has_channel number at [] = false
has_channel number at (e ∷ es) =
    if e.connection.number == number && uses at e.connection then true
    else has_channel number at es

abbrev pub word_concerns : Controller → Word → ℕ → Bool
word_concerns c (OnChannel at input) number = has_channel number at c.entries
word_concerns c (Reports at count report) number = has_channel number at c.entries
word_concerns c (OnConnection other input) number = other == number
word_concerns c word number = false

abbrev pub what_concerns : Controller → ℕ → What → ℕ → Bool
what_concerns c source (whats.Frame frame) number = word_concerns c (word_of source frame) number
what_concerns c source whats.Down number = false

abbrev pub concerns : Controller → Step → ℕ → Bool
concerns c (Take item) number = what_concerns c item.source item.what number
concerns c (Tick ms) number = false
