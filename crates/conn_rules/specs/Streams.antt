-- SPDX-License-Identifier: MIT OR Apache-2.0
-- The effect of rows on the streams of messages: those of the mobile that are relayed to the
-- switch, and those of the switch that are handed to the mobile.
use Rattle.std.specs.Prelude.{◌≡◌, ℕ, ◌%◌, ◌==◌, ◌&&◌, ◌||◌, not, Bool}
use Rattle.std.specs.Prelude.{true, false, if◌then◌else◌}
use Rattle.std.specs.Prelude.{List, [], ◌∷◌, ◌++◌, filter, Option, Some, None}
use Rattle.std.specs.List.{flat_map, AllByRecursion}
use Rattle.bssmap_codec.specs.declared.bssap.Bssap.TheVariants.{Management, Transfer}
use Rattle.bssmap_codec.specs.declared.bssmap.Bssmap.TheVariants.{CompleteLayer3Information}
use Rattle.bssmap_codec.specs.declared.bssmap.Bssmap.TheVariants.{SapiNReject}
use Rattle.conn_messages.specs.declared.channel.Channel.{Channel}
use Rattle.conn_messages.specs.declared.channel.Place.{Place}
use Rattle.conn_messages.specs.declared.message.Message.{Message}
use Rattle.conn_messages.specs.declared.message.Message.TheVariants.{Station, Request, Data}
use Rattle.conn_messages.specs.declared.message.Message.TheVariants.{ReleaseComplete}
use Rattle.conn_rules.specs.declared.input.Input.{Input}
use Rattle.conn_rules.specs.declared.input.Input.TheVariants as inputs
use Rattle.conn_rules.specs.declared.state.Clearing.TheVariants.{Complete}
use Rattle.conn_rules.specs.declared.state.Drain.{Drain}
use Rattle.conn_rules.specs.declared.state.Stage.TheVariants.{Preparing, Changing}
use Rattle.conn_rules.specs.declared.state.State.{State}
use Rattle.conn_rules.specs.declared.state.State.TheVariants.{Live, Closed, Removed}
use Rattle.conn_rules.specs.Connection.{Connection}
use Rattle.conn_rules.specs.Steps.{Row}
use Rattle.dtap_codec.specs.declared.message.TheConstants.{RADIO_RESOURCE}
use Rattle.dtap_codec.specs.declared.sapi.Sapi.{Sapi}
use Rattle.dtap_codec.specs.declared.sapi.Sapi.TheVariants.{Zero, Three}
use Rattle.hold_queue.specs.ChainState.{TenureHold, tenure_messages}
use Rattle.hold_queue.specs.HoldState.{messages}
use Rattle.rsl_codec.specs.declared.rsl.Rsl.TheVariants.{DataRequest}

-- `P` holds of the row, if a row fits
abbrev pub OfRow : (Row → Type 0) → Option Row → Type 0
OfRow P None = Unit {0}
OfRow P (Some r) = P r

-- the connection isn't closed and isn't removed
abbrev pub IsOpen : State → Type 0
IsOpen (Closed clearing) = ⊥
IsOpen Removed = ⊥
IsOpen _ = Unit {0}

-- ---- what messages carry

-- whether bits 3 to 1 of a link identifier or DLCI say this SAPI
abbrev pub is_of : Sapi → ℕ → Bool
is_of Zero link = link % 8 == 0
is_of Three link = link % 8 == 3

-- whether a layer 3 message is DTAP: its protocol discriminator isn't radio resource management
abbrev pub is_dtap : List ℕ → Bool
is_dtap [] = true
is_dtap (first ∷ rest) = not (first % 16 == RADIO_RESOURCE)

-- the layer 3 messages of a SAPI that a message to the switch relays: DTAP, or the initial message,
-- which counts as SAPI 0
abbrev pub relayed_by : Sapi → Message → List (List ℕ)
relayed_by sapi (Data reference (Transfer dlci message)) =
    if is_of sapi dlci then message ∷ [] else []
relayed_by Zero (Request (Management (CompleteLayer3Information cell initial))) = initial ∷ []
relayed_by sapi _ = []

-- the layer 3 messages of a SAPI that these messages relay to the switch, in order
abbrev pub relayed : Sapi → List Message → List (List ℕ)
relayed sapi outs = flat_map (relayed_by sapi) outs

-- the layer 3 messages of a SAPI that a message hands to the mobile: DTAP in a DATA REQUEST
abbrev pub handed_by : Sapi → Message → List (List ℕ)
handed_by sapi (Station station (DataRequest request)) =
    if (is_of sapi request.link && is_dtap request.l3) then request.l3 ∷ [] else []
handed_by sapi _ = []

abbrev pub handed : Sapi → List Message → List (List ℕ)
handed sapi outs = flat_map (handed_by sapi) outs

-- if the message is a DATA REQUEST with DTAP, it is for this channel
abbrev pub IsHandedTo : Channel → Message → Type 0
IsHandedTo c (Station station (DataRequest request)) =
    is_dtap request.l3 ≡ true → (station ≡ c.station) × (request.channel ≡ c.number)
IsHandedTo c _ = Unit {0}

-- ---- the uplink: what is held, and what may still arrive on each channel

abbrev pub Future : Type 0
Future = Place → List (List ℕ)

abbrev pub on_channel : Future → Channel → List (List ℕ)
on_channel future c = future (record { station = c.station; number = c.number })

-- For each tenure, in the order in which the channels served: the messages held in the tenure, then
-- the messages that may still arrive on its channel. No message arrives on a channel that is done.
abbrev pub still_of : Sapi → Future → Channel → List Drain → List TenureHold → List (List ℕ)
still_of sapi future serving draining [] = []
still_of sapi future serving [] (t ∷ ts) = tenure_messages t sapi ++ on_channel future serving
still_of sapi future serving (d ∷ ds) (t ∷ ts) =
    tenure_messages t sapi ++ ((if d.is_done then [] else on_channel future d.channel)
    ++ still_of sapi future serving ds ts)

-- the messages that may still arrive on the target, if the mobile was commanded to the target
abbrev pub of_target : Future → State → List (List ℕ)
of_target future (Live reference (Changing target)) = on_channel future target.channel
of_target future _ = []

-- the messages still to be relayed: those held or still to arrive, tenure by tenure, then those
-- still to arrive on the target, from the COMMAND on
abbrev pub still_to_relay : Sapi → Future → Connection → List (List ℕ)
still_to_relay sapi future s =
    still_of sapi future s.serving s.draining s.up.tenures ++ of_target future s.state

-- the future with this message put first at this place
abbrev pub first_at : Place → List ℕ → Future → Future
first_at at message future place =
    if (place.station == at.station && place.number == at.number) then message ∷ future place
    else future place

-- the messages that arrive on each channel from this input on: the input's own message, then
-- `future`
abbrev pub from_input : Sapi → Input → Future → Future
from_input Zero (inputs.Dtap at Zero message) future = first_at at message future
from_input Three (inputs.Dtap at Three message) future = first_at at message future
from_input Zero (inputs.EstablishIndication at Zero (Some initial)) future =
    first_at at initial future
from_input sapi _ future = future

-- the messages that may still arrive on the target, if the target is being activated
abbrev pub of_prepared : Future → State → List (List ℕ)
of_prepared future (Live reference (Preparing target)) = on_channel future target.channel
of_prepared future _ = []

-- what `future` may not hold at this input: messages for a channel whose release is acknowledged,
-- for the target at the mobile's FAILURE, or for the target at its ACTIVATION ACK
abbrev pub Ends : Future → State → Input → Type 0
Ends future state (inputs.ReleaseAck at) = future at ≡ []
Ends future state (inputs.Failure at change cause) = of_target future state ≡ []
Ends future state (inputs.ActivationAck at) = of_prepared future state ≡ []
Ends future state _ = Unit {0}

-- the old channels that aren't done
abbrev pub undone : List Drain → List Channel
undone [] = []
undone (d ∷ ds) = if d.is_done then undone ds else d.channel ∷ undone ds

abbrev pub target_in : State → List Channel
target_in (Live reference (Preparing target)) = target.channel ∷ []
target_in (Live reference (Changing target)) = target.channel ∷ []
target_in _ = []

-- the channels that a connection uses: the old channels that aren't done, the serving channel, and
-- the target
abbrev pub used_channels : Connection → List Channel
used_channels s = undone s.draining ++ s.serving ∷ target_in s.state

-- the two channels differ
abbrev pub IsApart : Channel → Channel → Type 0
IsApart c other = ((c.station == other.station) && (c.number == other.number)) ≡ false

-- no two of these channels are the same
abbrev pub AreApart : List Channel → Type 0
AreApart [] = Unit {0}
AreApart (c ∷ cs) = AllByRecursion (IsApart c) cs × AreApart cs

-- If the connection is open after the row, the messages that the row relays, followed by the
-- messages still to be relayed after the row, are the messages still to be relayed before the row,
-- the input's message included.
abbrev pub KeepsUplink : Sapi → Future → Connection → Input → Row → Type 0
KeepsUplink sapi future s input r =
    IsOpen r.next.state → relayed sapi r.outs ++ still_to_relay sapi future r.next
    ≡ still_to_relay sapi (from_input sapi input future) s

-- ---- the downlink

-- the message of this SAPI for the mobile that an input brings, if any
abbrev pub received_by : Sapi → Input → List (List ℕ)
received_by Zero (inputs.Downlink Zero message) = message ∷ []
received_by Three (inputs.Downlink Three message) = message ∷ []
received_by sapi _ = []

abbrev pub is_reject : Message → Bool
is_reject (Data reference (Management (SapiNReject dlci cause))) = true
is_reject _ = false

abbrev pub rejects : List Message → Bool
rejects [] = false
rejects (m ∷ ms) = is_reject m || rejects ms

-- the list without rejected messages: empty if it is of SAPI 3 and a SAPI N REJECT is put
abbrev pub without_rejected : Sapi → List Message → List (List ℕ) → List (List ℕ)
without_rejected Zero outs list = list
without_rejected Three outs list = if rejects outs then [] else list

-- If the connection is open after the row, the DTAP that the row hands, followed by the DTAP held
-- after the row, is the DTAP held before the row, followed by the DTAP received, without rejected
-- messages. The row hands DTAP only on the channel that serves after the row.
pub record KeepsDownlink (sapi : Sapi) (s : Connection) (input : Input) (r : Row) : Type 0 where
  pub stream : IsOpen r.next.state →
      handed sapi r.outs ++ filter is_dtap (messages r.next.down sapi)
      ≡ without_rejected sapi r.outs (filter is_dtap (messages s.down sapi
      ++ received_by sapi input))
  pub serving : AllByRecursion (IsHandedTo r.next.serving) r.outs

-- the mobile was commanded to another channel and hasn't answered
abbrev pub IsChanging : State → Type 0
IsChanging (Live reference (Changing target)) = Unit {0}
IsChanging _ = ⊥

-- If the mobile is commanded to another channel after the row, the row hands nothing.
abbrev pub IsSilent : Row → Type 0
IsSilent r = IsChanging r.next.state → (handed Zero r.outs ≡ []) × (handed Three r.outs ≡ [])

-- ---- the end

-- the message is RLC
abbrev pub IsReleaseComplete : Message → Type 0
IsReleaseComplete (ReleaseComplete destination) = Unit {0}
IsReleaseComplete _ = ⊥

abbrev pub OnlyReleases : State → List Message → Type 0
OnlyReleases (Closed Complete) outs = AllByRecursion IsReleaseComplete outs
OnlyReleases _ outs = Unit {0}

-- If the connection isn't open after the row, the row relays and hands nothing. A connection that
-- isn't open doesn't open again. Once CLEAR COMPLETE was put, the row puts only RLC.
pub record IsFinal (s : Connection) (r : Row) : Type 0 where
  pub remains_closed : (IsOpen s.state → ⊥) → IsOpen r.next.state → ⊥
  pub relays : (IsOpen r.next.state → ⊥) → (sapi : Sapi) → relayed sapi r.outs ≡ []
  pub hands : (IsOpen r.next.state → ⊥) → (sapi : Sapi) → handed sapi r.outs ≡ []
  pub cleared : OnlyReleases s.state r.outs
