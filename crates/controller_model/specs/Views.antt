-- SPDX-License-Identifier: MIT OR Apache-2.0
-- Views of the controller and of the frames that the controller put.
use Rattle.std.specs.Prelude.{ℕ, ◌==◌, ◌&&◌, not, Bool, if◌then◌else◌, List, []}
use Rattle.std.specs.Prelude.{◌∷◌, filter, length, Option, Some, None, Result, Ok}
use Rattle.std.specs.List.{flat_map}
use Rattle.std.specs.Option.{option_and_then}
use Rattle.bssmap_codec.specs.declared.bssap.Bssap.{Bssap}
use Rattle.controller_model.specs.Prelude.{Management, Out, SWITCH_LINK, is_dtap, Sapi, Zero}
use Rattle.bssmap_codec.specs.declared.bssap.Bssap.TheVariants.{Transfer}
use Rattle.bssmap_codec.specs.declared.bssmap.Bssmap.TheVariants.{CompleteLayer3Information}
use Rattle.bssmap_codec.specs.declared.fault.InterfaceFault.{InterfaceFault}
use Rattle.bssmap_codec.specs.declared.sccp.Sccp.{Sccp}
use Rattle.bssmap_codec.specs.declared.sccp.Sccp.TheVariants.{ConnectionRequest, DataForm1}
use Rattle.bssmap_codec.specs.BssapReading.{bssap_reading}
use Rattle.bssmap_codec.specs.SccpReading.{sccp_reading}
use Rattle.conn_rules.specs.Streams.{is_of}
use Rattle.controller_model.specs.declared.forwarded.Forwarded.{Forwarded}
use Rattle.controller_model.specs.Controller.{Controller, Entry, entry_of}
use Rattle.controller_model.specs.Reading.{dlci_sapi}
use Rattle.ho_decision.specs.Average.{quality}
use Rattle.hold_queue.specs.ChainState.{tenure_messages}
use Rattle.hold_queue.specs.HoldState.{messages}
use Rattle.rsl_codec.specs.declared.fault.RslFault.{RslFault}
use Rattle.rsl_codec.specs.declared.rsl.Rsl.{Rsl}
use Rattle.rsl_codec.specs.declared.rsl.Rsl.TheVariants.{DataRequest}
use Rattle.rsl_codec.specs.RslReading.{rsl_reading}

abbrev pub links : Controller → ℕ
links c = length c.links

-- ---- outputs

-- whether a frame goes to the switch, for this connection
abbrev pub to_switch : ℕ → Out → Bool
to_switch conn out = (out.conn == conn) && (out.to == SWITCH_LINK)

abbrev pub to_station : ℕ → Out → Bool
to_station conn out = (out.conn == conn) && not (out.to == SWITCH_LINK)

abbrev pub forwarded_message : Sapi → List ℕ → List Forwarded
forwarded_message sapi message = record { sapi = sapi; message = message } ∷ []

abbrev pub forwarded_in : Result Bssap InterfaceFault → List Forwarded
forwarded_in (Ok (Transfer dlci message)) = forwarded_message (dlci_sapi dlci) message
forwarded_in (Ok (Management (CompleteLayer3Information cell initial))) =
    forwarded_message Zero initial
forwarded_in _ = []

abbrev pub forwarded_by : Result Sccp InterfaceFault → List Forwarded
forwarded_by (Ok (ConnectionRequest source (Some user))) = forwarded_in (bssap_reading user)
forwarded_by (Ok (DataForm1 destination user)) = forwarded_in (bssap_reading user)
forwarded_by _ = []

-- the mobile's messages that a connection passes on to the switch in these frames, the initial
-- message among them
unfoldable pub forwarded : List Out → ℕ → List Forwarded
forwarded outs conn =
    flat_map (λ out. forwarded_by (sccp_reading out.frame.body)) (filter (to_switch conn) outs)

abbrev pub handed_by : Sapi → Result Rsl RslFault → List (List ℕ)
handed_by sapi (Ok (DataRequest request)) =
    if is_of sapi request.link && is_dtap request.l3 then request.l3 ∷ [] else []
handed_by sapi _ = []

-- the switch's messages of a SAPI that a connection hands to the mobile in these frames, without
-- messages of radio resource management
unfoldable pub handed : List Out → ℕ → Sapi → List (List ℕ)
handed outs conn sapi =
    flat_map (λ out. handed_by sapi (rsl_reading out.frame.body)) (filter (to_station conn) outs)

-- ---- the state

abbrev pub held_for : Sapi → Option Entry → List (List ℕ)
held_for sapi None = []
held_for sapi (Some e) = filter is_dtap (messages e.connection.down sapi)

-- the switch's messages of a SAPI that a connection holds, without messages of radio resource
-- management
abbrev pub held : Controller → ℕ → Sapi → List (List ℕ)
held c conn sapi = held_for sapi (entry_of c conn)

abbrev pub held_up_for : Sapi → Option Entry → List (List ℕ)
held_up_for sapi None = []
held_up_for sapi (Some e) =
    flat_map (λ tenure. tenure_messages tenure sapi) e.connection.up.tenures

-- the mobile's messages of a SAPI that a connection holds, tenure by tenure
abbrev pub held_up : Controller → ℕ → Sapi → List (List ℕ)
held_up c conn sapi = held_up_for sapi (entry_of c conn)

abbrev pub quality_of : Entry → Option ℕ
quality_of e = quality e.averages.settings e.averages.reports

-- the average quality of a connection's serving channel
abbrev pub rxqual : Controller → ℕ → Option ℕ
rxqual c conn = option_and_then quality_of (entry_of c conn)
