-- SPDX-License-Identifier: MIT OR Apache-2.0
-- The history of a connection: the steps, and the messages that each step put for the connection.
use Rattle.std.specs.Prelude.{◌≡◌, ℕ, ◌==◌, Bool, List, [], ◌∷◌, filter, Option}
use Rattle.std.specs.Prelude.{option_map}
use Rattle.std.specs.List.{flat_map}
use Rattle.controller_model.specs.Prelude.{Message, Out, outs_of, Connection, What}
use Rattle.controller_model.specs.declared.step.Step.{Step}
use Rattle.controller_model.specs.declared.step.Step.TheVariants.{Take, Tick}
use Rattle.controller_model.specs.declared.word.Word.{Word}
use Rattle.controller_model.specs.declared.word.Word.TheVariants.{Nothing}
use Rattle.controller_model.specs.Controller.{Controller, entry_of}
use Rattle.controller_model.specs.Life.{step}
use Rattle.controller_model.specs.Reading.{word_of}
use Rattle.ruled_relay.specs.declared.item.What.TheVariants as whats

-- the word of an item; Nothing for Down
abbrev pub word_by : ℕ → What → Word
word_by source (whats.Frame frame) = word_of source frame
word_by source whats.Down = Nothing

abbrev pub word_in : Step → Word
word_in (Take item) = word_by item.source item.what
word_in (Tick ms) = Nothing

-- whether a frame is put for the connection
abbrev pub is_for : ℕ → Out → Bool
is_for number out = out.conn == number

abbrev pub outs_for : ℕ → List Out → List Out
outs_for number outs = filter (is_for number) outs

-- a step, and the messages that it put for one connection
pub record Moment : Type 0 where
  pub taken : Step
  pub messages : List Message

-- The moments are those of these steps. In each step, the frames put for the connection are the
-- frames of the moment's messages.
abbrev pub IsHistory : ℕ → Controller → List Step → List Moment → Type 0
IsHistory number c [] [] = Unit {0}
IsHistory number c (s ∷ ss) (m ∷ ms) =
    (m.taken ≡ s) × (outs_for number (step c s).outs ≡ outs_of number m.messages)
    × IsHistory number (step c s).next ss ms
IsHistory number c _ _ = ⊥

-- all messages put for the connection, in order
abbrev pub all_messages : List Moment → List Message
all_messages moments = flat_map (λ m. m.messages) moments

-- the connection with this number, if the controller has it
abbrev pub connection_of : Controller → ℕ → Option Connection
connection_of c number = option_map (λ e. e.connection) (entry_of c number)
