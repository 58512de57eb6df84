-- SPDX-License-Identifier: MIT OR Apache-2.0
-- The properties of the words of frames, and the frames whose reading may run out of memory.
use Rattle.std.specs.Prelude.{◌≡◌, ◌≢◌, ℕ, List, true, Option, Some, None, Result, Ok, Err, IfErr}
use Rattle.bssmap_codec.specs.declared.fault.InterfaceFault.{InterfaceFault}
use Rattle.bssmap_codec.specs.declared.fault.InterfaceFault.TheVariants as interface
use Rattle.bssmap_codec.specs.declared.sccp.Sccp.{Sccp}
use Rattle.bssmap_codec.specs.declared.sccp.Sccp.TheVariants.{DataForm1}
use Rattle.bssmap_codec.specs.BssapReading.{bssap_reading}
use Rattle.bssmap_codec.specs.SccpReading.{sccp_reading}
use Rattle.conn_messages.specs.declared.parameters.TheConstants.{SWITCH_LINK}
use Rattle.conn_rules.specs.Validity.{IsCarried}
use Rattle.controller_model.specs.declared.word.Word.{Word}
use Rattle.controller_model.specs.declared.word.Word.TheVariants.{Asks, OnChannel, Reports}
use Rattle.controller_model.specs.declared.word.Word.TheVariants.{OnConnection, Nothing}
use Rattle.controller_model.specs.Reading.{Carried, carried}
use Rattle.controller_model.specs.Reading.Carried.{radio_signalling, connection_control}
use Rattle.dtap_codec.specs.declared.rr_fault.RrFault.TheVariants as layer3
use Rattle.dtap_codec.specs.RrReading.{rr_reading}
use Rattle.ipa_framing.specs.declared.frame.Frame.{Frame}
use Rattle.rsl_codec.specs.declared.fault.RslFault.TheVariants as radio
use Rattle.rsl_codec.specs.declared.rsl.Rsl.{Rsl}
use Rattle.rsl_codec.specs.declared.rsl.Rsl.TheVariants.{EstablishIndication, DataIndication}
use Rattle.rsl_codec.specs.declared.rsl.Rsl.TheVariants.{MeasurementResult}
use Rattle.rsl_codec.specs.RslReading.{rsl_reading}

-- a layer 3 message in the word has 1 to 251 octets, and a report in the word is valid
abbrev pub IsCarriedWord : Word → Type 0
IsCarriedWord (Reports at number report) = report.valid ≡ true
IsCarriedWord (OnChannel at input) = IsCarried input
IsCarriedWord (OnConnection number input) = IsCarried input
IsCarriedWord _ = Unit {0}

-- Only a station's frame has a word about a channel, which is then a channel of that station, or
-- about a mobile's request. Only a frame of the switch has a word about a connection.
abbrev pub IsFromSource : ℕ → Word → Type 0
IsFromSource source (Asks request delay) = source ≢ SWITCH_LINK
IsFromSource source (OnChannel at input) = (at.station ≡ source) × (source ≢ SWITCH_LINK)
IsFromSource source (Reports at number report) = (at.station ≡ source) × (source ≢ SWITCH_LINK)
IsFromSource source (OnConnection number input) = source ≡ SWITCH_LINK
IsFromSource source _ = Unit {0}

-- the message has no layer 3 message that is to be relayed: it is neither ESTABLISH INDICATION nor
-- DATA INDICATION
abbrev pub CarriesNoLayer3 : Rsl → Type 0
CarriesNoLayer3 (EstablishIndication e) = ⊥
CarriesNoLayer3 (DataIndication d) = ⊥
CarriesNoLayer3 _ = Unit {0}

-- ---- running out of memory, the last fault of all

-- the octets have no fault of their own: they are read, or memory runs out
abbrev pub IsReadable : {X F : Type 0} → F → Result X F → Type 0
IsReadable memory read = IfErr read (λ fault. fault ≡ memory)

-- an SCCP message has no fault of its own; if the message is a DT1, its data have no fault either
abbrev pub IsReadableSccp : Result Sccp InterfaceFault → Type 0
IsReadableSccp (Ok (DataForm1 destination user)) = IsReadable interface.Memory (bssap_reading user)
IsReadableSccp (Err fault) = fault ≡ interface.Memory
IsReadableSccp _ = Unit {0}

abbrev pub IsReadableBody : Carried → List ℕ → Type 0
IsReadableBody radio_signalling body = IsReadable radio.Memory (rsl_reading body)
IsReadableBody connection_control body = IsReadableSccp (sccp_reading body)
IsReadableBody _ body = ⊥

-- A frame of RSL of a station, or of SCCP of the switch, that the codec doesn't refuse.
abbrev pub IsReadableFrame : ℕ → Frame → Type 0
IsReadableFrame source frame = IsReadableBody (carried source frame.stream) frame.body

-- there is a message of the mobile, and this message has no fault of its own
abbrev pub IsReadableReport : Option (List ℕ) → Type 0
IsReadableReport None = ⊥
IsReadableReport (Some l3) = IsReadable layer3.Memory (rr_reading l3)

-- the message has layer 3 content that is read as well, and this content has no fault of its own
abbrev pub HasReadableLayer3 : Rsl → Type 0
HasReadableLayer3 (DataIndication d) = IsReadable layer3.Memory (rr_reading d.l3)
HasReadableLayer3 (MeasurementResult m) = IsReadableReport m.l3
HasReadableLayer3 _ = ⊥

-- the word isn't Nothing
abbrev pub SaysSomething : Word → Type 0
SaysSomething Nothing = ⊥
SaysSomething _ = Unit {0}
