-- SPDX-License-Identifier: MIT OR Apache-2.0
-- The steps that may need memory. Only these steps can be refused.
use Rattle.std.specs.Prelude.{◌≡◌, ◌≢◌, ◌⊎◌, ℕ, List, [], true, Option, Some, None}
use Rattle.std.specs.Prelude.{Result, IfErr}
use Rattle.std.specs.Option.{is_some}
use Rattle.conn_messages.specs.declared.channel.Place.{Place}
use Rattle.conn_rules.specs.declared.input.Input.{Input}
use Rattle.conn_rules.specs.declared.input.Input.TheVariants as inputs
use Rattle.connections.specs.Entries.{ComparesWith, decision_with}
use Rattle.controller.specs.declared.many.Cause.{Cause}
use Rattle.controller.specs.declared.many.Cause.TheVariants.{Time, Break}
use Rattle.controller.specs.Many.{Due, all_due}
use Rattle.controller.specs.Reporting.{measures_in}
use Rattle.controller_model.specs.Channels.{access_channel}
use Rattle.controller_model.specs.declared.step.Step.{Step}
use Rattle.controller_model.specs.declared.step.Step.TheVariants.{Take, Tick}
use Rattle.controller_model.specs.declared.word.Word.{Word}
use Rattle.controller_model.specs.declared.word.Word.TheVariants.{Nothing, Ping, Asks, OnChannel}
use Rattle.controller_model.specs.declared.word.Word.TheVariants.{Reports, OnConnection}
use Rattle.controller_model.specs.Controller.{Controller, Entry, channel_state, entry_of, is_up}
use Rattle.controller_model.specs.Life.{entry_at, fits, may_open}
use Rattle.controller_model.specs.Reading.{word_of}
use Rattle.controller_parts.specs.Words.{IsReadableFrame}
use Rattle.dtap_codec.specs.declared.report.Report.{Report}
use Rattle.dtap_codec.specs.declared.sapi.Sapi.{Sapi}
use Rattle.ho_decision.specs.declared.decision.Decision.{Decision}
use Rattle.ho_decision.specs.declared.decision.Decision.TheVariants.{Stay, Move}
use Rattle.hold_queue.specs.HoldState.{messages}
use Rattle.ipa_framing.specs.declared.frame.Frame.{Frame}
use Rattle.octets.specs.declared.memory.Memory.{Memory}
use Rattle.ruled_relay.specs.declared.item.What.{What}
use Rattle.ruled_relay.specs.declared.item.What.TheVariants as whats

-- this cause gives an input to some connection
abbrev pub IsDue : Cause → Controller → Type 0
IsDue cause c = all_due cause c.settings.timers c.entries ≢ []

-- ---- a word

-- memory runs out only if the connection exists and a row of it fits the input
abbrev pub WantsForRowOf : {T : Type 0} → Result T Memory → Option Entry → Input → Type 0
WantsForRowOf result o input = IfErr result (λ _. fits o input ≡ true)

-- A CHANNEL REQUIRED opens a connection: the switch's link is up, a number is left, and the
-- station's cell has a free SDCCH.
abbrev pub IsGiven : Controller → ℕ → Type 0
IsGiven c station = (may_open c ≡ true) × (is_some (access_channel c station) ≡ true)

-- the decision is a handover, and a row of the connection fits
abbrev pub MovesBy : Decision → Option Entry → Type 0
MovesBy Stay o = ⊥
MovesBy (Move cell) o = fits o inputs.Move ≡ true

-- the report may need memory: levels are compared with this report, or this report begins a
-- handover
abbrev pub MayWantReport : ℕ → Report → Option Entry → Type 0
MayWantReport number report o =
    ComparesWith number report o ⊎ MovesBy (decision_with number report o) o

-- the report counts, as it is on the serving channel of a connection whose reports count, and it
-- may need memory
abbrev pub MayWantReportAt : Place → ℕ → Report → Option Entry → Type 0
MayWantReportAt at number report o = (measures_in at o ≡ true) × MayWantReport number report o

-- The word may need memory: it is an input for which the connection has a row, a CHANNEL REQUIRED
-- that opens a connection, a report that counts and may need memory, or PING.
abbrev pub MayWantWord : ℕ → Word → Controller → Type 0
MayWantWord source Nothing c = ⊥
MayWantWord source Ping c = Unit {0}
MayWantWord source (Asks request delay) c = IsGiven c source
MayWantWord source (OnChannel at input) c = fits (entry_at c (channel_state c at)) input ≡ true
MayWantWord source (Reports at number report) c =
    MayWantReportAt at number report (entry_at c (channel_state c at))
MayWantWord source (OnConnection number input) c = fits (entry_of c number) input ≡ true

-- ---- a copy of held messages

-- all messages of the switch that are held, including those of radio resource management
abbrev pub all_held_for : Sapi → Option Entry → List (List ℕ)
all_held_for sapi None = []
all_held_for sapi (Some e) = messages e.connection.down sapi

-- ---- a step

-- the frame may need memory: it is PING, or its codec doesn't refuse it
abbrev pub MayWantFrame : ℕ → Frame → Type 0
MayWantFrame source frame = (word_of source frame ≡ Ping) ⊎ IsReadableFrame source frame

abbrev pub MayWantWhat : ℕ → What → Controller → Type 0
MayWantWhat source (whats.Frame frame) c = MayWantFrame source frame
MayWantWhat source whats.Down c = IsDue (Break source) c

-- The step may need memory. An item may need memory if its link is up, and it is a frame that may
-- need memory or the break of the link while there is a connection. A tick may need memory if it
-- makes the timer of a connection expire.
abbrev pub MayWantMemory : Step → Controller → Type 0
MayWantMemory (Take item) c = (is_up c item.source ≡ true) × MayWantWhat item.source item.what c
MayWantMemory (Tick ms) c = IsDue (Time ms) c
