-- SPDX-License-Identifier: MIT OR Apache-2.0
-- The messages that one output adds to the lists of forwarded and of handed messages, and the
-- condition under which making such a list may run out of memory.
use Rattle.std.specs.Prelude.{◌≢◌, ℕ, if◌then◌else◌, List, []}
use Rattle.std.specs.List.{filter}
use Rattle.bssmap_codec.specs.SccpReading.{sccp_reading}
use Rattle.conn_messages.specs.declared.out.Out.{Out}
use Rattle.controller_model.specs.declared.forwarded.Forwarded.{Forwarded}
use Rattle.controller_model.specs.Views.{to_switch, to_station, forwarded_by, handed_by}
use Rattle.dtap_codec.specs.declared.sapi.Sapi.{Sapi}
use Rattle.rsl_codec.specs.RslReading.{rsl_reading}

abbrev pub forwarded_of : ℕ → Out → List Forwarded
forwarded_of conn out =
    if to_switch conn out then forwarded_by (sccp_reading out.frame.body) else []

abbrev pub handed_of : ℕ → Sapi → Out → List (List ℕ)
handed_of conn sapi out =
    if to_station conn out then handed_by sapi (rsl_reading out.frame.body) else []

-- an output of the connection is for the switch; reading such an output may run out of memory
abbrev pub PutsToSwitch : ℕ → List Out → Type 0
PutsToSwitch conn outs = filter (to_switch conn) outs ≢ []

-- an output of the connection is for a station; reading such an output may run out of memory
abbrev pub PutsToStations : ℕ → List Out → Type 0
PutsToStations conn outs = filter (to_station conn) outs ≢ []
