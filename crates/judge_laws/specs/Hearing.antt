-- SPDX-License-Identifier: MIT OR Apache-2.0
-- A frame that arrives: the controller's reading of the frame (`Word`), and a judge's reading of
-- the frame (`Said`).
use Rattle.std.specs.Prelude.{ℕ, List, Some, Result}
use Rattle.bssmap_codec.specs.declared.fault.InterfaceFault.{InterfaceFault}
use Rattle.bssmap_codec.specs.declared.sccp.Sccp.{Sccp}
use Rattle.conn_messages.specs.declared.channel.Change.{Change}
use Rattle.conn_rules.specs.declared.input.Input.TheVariants as inputs
use Rattle.controller_model.specs.declared.word.Word.{Word}
use Rattle.controller_model.specs.declared.word.Word.TheVariants as words
use Rattle.controller_model.specs.Reading.{station_word, switch_word}
use Rattle.dtap_codec.specs.declared.rr.RrCause.{RrCause}
use Rattle.dtap_codec.specs.declared.sapi.Sapi.{Sapi}
use Rattle.dtap_codec.specs.declared.sapi.Sapi.TheVariants.{Zero}
use Rattle.rsl_codec.specs.declared.fault.RslFault.{RslFault}
use Rattle.rsl_codec.specs.declared.rsl.Rsl.{Rsl}
use Rattle.run_judge.specs.declared.said.Said.{Said}
use Rattle.run_judge.specs.declared.said.Said.TheVariants as says
use Rattle.run_judge.specs.declared.said.StationChannel.{StationChannel}
use Rattle.run_judge.specs.Reading.{said_by_station, said_by_switch}
use Rattle.judge_laws.specs.Places.{spot}

-- The words in whose frames a judge reads nothing: all words except those that are listed with `⊥`.
abbrev pub IsUnheard : Word → Type 0
IsUnheard (words.OnChannel at (inputs.EstablishIndication place Zero (Some message))) = ⊥
IsUnheard (words.OnChannel at (inputs.Dtap place sapi message)) = ⊥
IsUnheard (words.OnChannel at (inputs.Complete place change cause)) = ⊥
IsUnheard (words.OnChannel at (inputs.Failure place change cause)) = ⊥
IsUnheard (words.OnChannel at (inputs.ReleaseAck place)) = ⊥
IsUnheard (words.OnConnection number (inputs.ConnectionConfirm source)) = ⊥
IsUnheard (words.OnConnection number inputs.ConnectionRefused) = ⊥
IsUnheard (words.OnConnection number (inputs.Downlink sapi message)) = ⊥
IsUnheard _ = Unit {0}

-- The controller's word for a frame matches a judge's reading of the frame: both have the same
-- place or reference and the same message, or the judge reads nothing.
pub data Matches : Word → Said → Type 0 where
  unheard : (word : Word) → IsUnheard word → Matches word says.Nothing
  establishes : (at : StationChannel) (message : List ℕ)
      → Matches (words.OnChannel (spot at)
      (inputs.EstablishIndication (spot at) Zero (Some message)))
      (says.Establishes at message)
  brings : (at : StationChannel) (sapi : Sapi) (message : List ℕ)
      → Matches (words.OnChannel (spot at) (inputs.Dtap (spot at) sapi message))
      (says.Brings at sapi message)
  completes : (at : StationChannel) (change : Change) (cause : RrCause)
      → Matches (words.OnChannel (spot at) (inputs.Complete (spot at) change cause))
      (says.Completes at change)
  fails : (at : StationChannel) (change : Change) (cause : RrCause)
      → Matches (words.OnChannel (spot at) (inputs.Failure (spot at) change cause))
      (says.Fails at change)
  released : (at : StationChannel)
      → Matches (words.OnChannel (spot at) (inputs.ReleaseAck (spot at))) (says.Released at)
  confirms : (destination source : ℕ)
      → Matches (words.OnConnection destination (inputs.ConnectionConfirm source))
      (says.Confirms destination source)
  refuses : (destination : ℕ)
      → Matches (words.OnConnection destination inputs.ConnectionRefused)
      (says.Refuses destination)
  transfers : (destination : ℕ) (sapi : Sapi) (message : List ℕ)
      → Matches (words.OnConnection destination (inputs.Downlink sapi message))
      (says.Transfers destination sapi message)

-- ---- the claims

-- For any result of reading the body of a station's frame, a message or a fault, the controller's
-- word matches a judge's reading.
abbrev pub StationsAreHeardAlike : Type 0
StationsAreHeardAlike = (station : ℕ) (read : Result Rsl RslFault)
    → Matches (station_word station read) (said_by_station station read)

-- For any result of reading the body of a frame of the switch, a message or a fault, the
-- controller's word matches a judge's reading.
abbrev pub SwitchIsHeardAlike : Type 0
SwitchIsHeardAlike = (read : Result Sccp InterfaceFault)
    → Matches (switch_word read) (said_by_switch read)
