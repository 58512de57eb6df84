-- SPDX-License-Identifier: MIT OR Apache-2.0
-- The state of a switch after the octets of its link. The state is a function of the octets, so any
-- reader of a capture can compute it.
use Rattle.std.specs.Prelude.{ℕ, ◌-◌, List, [], ◌∷◌, fold, Option, Some, None}
use Rattle.std.specs.Prelude.{option_to_list}
use Rattle.std.specs.List.{flat_map}
use Rattle.bssmap_codec.specs.declared.sccp.Sccp.{Sccp}
use Rattle.bssmap_codec.specs.declared.sccp.Sccp.TheVariants.{DataForm1}
use Rattle.msc_end.specs.declared.connection.Connection.{Connection}
use Rattle.msc_end.specs.declared.connection.Stage.{Stage}
use Rattle.msc_end.specs.declared.connection.Stage.TheVariants.{Open, Clearing, Ended}
use Rattle.msc_end.specs.declared.parameters.TheConstants.{REFERENCE_BASE}
use Rattle.msc_end.specs.Switch.{after, connection_in}
use Rattle.msc_end.specs.SwitchState.{SwitchState}
use Rattle.station_io.specs.Octets.{frames_in}
use Rattle.world_model.specs.SwitchSide.{sccp_in}

-- the SCCP messages in these octets: those that are read from the whole frames
abbrev pub sccp_messages : List ℕ → List Sccp
sccp_messages octets = flat_map (λ frame. option_to_list (sccp_in frame)) (frames_in octets)

-- a switch without connections, which counts messages modulo `modulus`
abbrev pub new_switch : ℕ → SwitchState
new_switch modulus = record { modulus = modulus; connections = [] }

-- the switch after it took these messages, one after the other
abbrev pub taking : SwitchState → List Sccp → SwitchState
taking switch messages = fold after switch messages

-- the switch once it was given these octets; it counts messages modulo this number
abbrev pub switch_given : ℕ → List ℕ → SwitchState
switch_given modulus octets = taking (new_switch modulus) (sccp_messages octets)

-- ---- DT1 on connections that haven't ended

abbrev pub IsLive : Stage → Type 0
IsLive Open = Unit {0}
IsLive Clearing = Unit {0}
IsLive Ended = ⊥

abbrev pub IsThere : Option Connection → Type 0
IsThere None = ⊥
IsThere (Some c) = IsLive c.stage

-- if the message is a DT1, it is for a connection that exists and whose CLEAR COMPLETE hasn't
-- arrived
abbrev pub FindsConnection : SwitchState → Sccp → Type 0
FindsConnection switch (DataForm1 destination user) =
    IsThere (connection_in switch (destination - REFERENCE_BASE))
FindsConnection switch _ = Unit {0}

-- `FindsConnection` holds of each message, in the state of the switch after the messages before it
abbrev pub FindConnections : SwitchState → List Sccp → Type 0
FindConnections switch [] = Unit {0}
FindConnections switch (m ∷ ms) =
    FindsConnection switch m × FindConnections (after switch m) ms
