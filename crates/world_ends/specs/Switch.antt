-- SPDX-License-Identifier: MIT OR Apache-2.0
-- The effect of each call of the switch, in the terms of `world_model`, which defines the same
-- effect for the whole world.
use Rattle.std.specs.Prelude.{ℕ, if◌then◌else◌, List, [], ◌∷◌, ◌++◌, Option, Some}
use Rattle.std.specs.Prelude.{None}
use Rattle.std.specs.Option.{is_none}
use Rattle.bssmap_codec.specs.declared.bssap.Bssap.{Bssap}
use Rattle.bssmap_codec.specs.declared.bssap.Bssap.TheVariants.{Transfer}
use Rattle.bssmap_codec.specs.declared.sccp.Sccp.{Sccp}
use Rattle.dtap_codec.specs.declared.sapi.Sapi.{Sapi}
use Rattle.msc_end.specs.Refusal.{send_fault}
use Rattle.msc_end.specs.Switch.{after, after_clear, assignment_request, clear_command}
use Rattle.msc_end.specs.Switch.{connection_of, data_forms_on, dlci_for, replies}
use Rattle.msc_end.specs.SwitchState.{SwitchState}
use Rattle.world_ends.specs.SwitchSideState.{SwitchSideState}

-- the switch after it takes a message and makes the replies; unchanged if there is no message
abbrev pub took : Option Sccp → SwitchSideState → SwitchSideState
took None s = s
took (Some message) s =
    record {
      switch = after s.switch message;
      made = s.made ++ replies s.switch.connections message;
    }

-- the switch after it sends on a connection; None if there is no such connection or it isn't open
abbrev pub sending_on : ℕ → Bssap → SwitchState → SwitchSideState → Option SwitchSideState
sending_on connection message next s =
    if is_none (send_fault (connection_of s.switch.connections connection))
    then Some (record {
      switch = next;
      made = s.made ++ data_forms_on (connection_of s.switch.connections connection) message;
    })
    else None

abbrev pub assigning : ℕ → SwitchSideState → Option SwitchSideState
assigning connection s = sending_on connection assignment_request s.switch s

abbrev pub clearing : ℕ → SwitchSideState → Option SwitchSideState
clearing connection s = sending_on connection clear_command (after_clear s.switch connection) s

abbrev pub sending : ℕ → Sapi → List ℕ → SwitchSideState → Option SwitchSideState
sending connection sapi message s =
    sending_on connection (Transfer (dlci_for sapi) message) s.switch s
