-- SPDX-License-Identifier: MIT OR Apache-2.0
-- The connection that a frame concerns.
use Rattle.std.specs.Prelude.{◌≡◌, ℕ, Option, Some, None}
use Rattle.controller_model.specs.declared.word.Word.{Word}
use Rattle.controller_model.specs.declared.word.Word.TheVariants.{Nothing, Ping, Asks, OnChannel}
use Rattle.controller_model.specs.declared.word.Word.TheVariants.{Reports, OnConnection}
use Rattle.controller_model.specs.Controller.{Controller, entry_of, channel_state, holder}

-- The number of the connection that a word concerns; None if the word concerns no connection. A
-- message on a channel concerns the connection that holds the channel. CHANNEL REQUIRED concerns
-- the next connection.
abbrev pub concerned : Controller → Word → Option ℕ
concerned c Nothing = None
concerned c Ping = None
concerned c (Asks request delay) = Some c.next_number
concerned c (OnChannel at input) = holder (channel_state c at)
concerned c (Reports at number report) = holder (channel_state c at)
concerned c (OnConnection number input) = Some number

-- the connection with this number and its averages are the same before and after
abbrev pub Leaves : ℕ → Controller → Controller → Type 0
Leaves number before after = entry_of after number ≡ entry_of before number
