-- SPDX-License-Identifier: MIT OR Apache-2.0
-- The frames that carry the messages of a connection.
use Rattle.std.specs.Prelude.{◌≡◌, ℕ, ◌≤◌, List, length, map, Some, None, Ok}
use Rattle.octets.specs.declared.limits.TheConstants.{LENGTH_LIMIT}
use Rattle.bssmap_codec.specs.declared.bssap.Bssap.{Bssap}
use Rattle.bssmap_codec.specs.declared.sccp.Sccp.{Sccp}
use Rattle.bssmap_codec.specs.declared.sccp.Sccp.TheVariants as sccp
use Rattle.bssmap_codec.specs.BssapReading.{bssap_reading}
use Rattle.bssmap_codec.specs.BssapText.{HasDlci, bssap_text, bssap_write_fault}
use Rattle.bssmap_codec.specs.Reference.{IsReference}
use Rattle.bssmap_codec.specs.SccpReading.{sccp_reading}
use Rattle.bssmap_codec.specs.SccpText.{sccp_text}
use Rattle.conn_messages.specs.declared.message.Message.{Message}
use Rattle.conn_messages.specs.declared.message.Message.TheVariants.{Station, Request, Data}
use Rattle.conn_messages.specs.declared.message.Message.TheVariants.{ReleaseComplete}
use Rattle.conn_messages.specs.declared.out.Out.{Out}
use Rattle.conn_messages.specs.declared.parameters.TheConstants.{SWITCH_LINK}
use Rattle.ipa_framing.specs.declared.streams.TheConstants.{RSL_STREAM, SCCP_STREAM}
use Rattle.rsl_codec.specs.declared.rsl.Rsl.{Rsl}
use Rattle.rsl_codec.specs.Rsl.{IsLawful}
use Rattle.rsl_codec.specs.RslReading.{rsl_reading}
use Rattle.rsl_codec.specs.RslText.{rsl_text, rsl_write_fault}

-- The frame of an RSL message on the link of a station.
abbrev pub station_out : ℕ → ℕ → Rsl → Out
station_out number station message = record {
  to = station;
  conn = number;
  frame = record { stream = RSL_STREAM; body = rsl_text message };
}

-- The frame of an SCCP message on the link of the switch.
abbrev pub switch_out : ℕ → Sccp → Out
switch_out number message = record {
  to = SWITCH_LINK;
  conn = number;
  frame = record { stream = SCCP_STREAM; body = sccp_text message };
}

-- The frame of a message of the connection with this number. The number is also the controller's
-- SCCP reference of the connection.
unfoldable pub out_of : ℕ → Message → Out
out_of number (Station station message) = station_out number station message
out_of number (Request message) =
    switch_out number (sccp.ConnectionRequest number (Some (bssap_text message)))
out_of number (Data destination message) =
    switch_out number (sccp.DataForm1 destination (bssap_text message))
out_of number (ReleaseComplete destination) =
    switch_out number (sccp.ReleaseComplete destination number)

abbrev pub outs_of : ℕ → List Message → List Out
outs_of number = map (out_of number)

-- ---- what can be written

-- A BSSAP message that can be written and fits the user data of SCCP.
pub record IsCarried (message : Bssap) : Type 0 where
  pub written : bssap_write_fault message ≡ None
  pub short : length (bssap_text message) ≤ LENGTH_LIMIT

-- The message can be written: the codec finds no fault, and a BSSAP message fits the user data of
-- SCCP.
abbrev pub IsWritable : Message → Type 0
IsWritable (Station station message) = rsl_write_fault message ≡ None
IsWritable (Request message) = IsCarried message
IsWritable (Data destination message) = IsCarried message
IsWritable (ReleaseComplete destination) = Unit {0}

-- ---- what is read as the same message

-- The octets of the message are read as the same message. An RSL message has an allowed channel
-- number, and its L3 information, if present, has 1 to 251 octets. A DTAP message has a DLCI of
-- SAPI 0 or 3. The switch's reference fits three octets.
abbrev pub IsLawfulMessage : Message → Type 0
IsLawfulMessage (Station station message) = IsLawful message
IsLawfulMessage (Request message) = HasDlci message
IsLawfulMessage (Data destination message) = IsReference destination × HasDlci message
IsLawfulMessage (ReleaseComplete destination) = IsReference destination

-- The message can be written, and its octets are read as the same message.
abbrev pub IsSound : Message → Type 0
IsSound message = IsWritable message × IsLawfulMessage message

-- The receiver of the octets reads the message: an RSL message, a BSSAP message in a CR or DT1, or
-- an RLC.
abbrev pub IsReadOf : ℕ → Message → List ℕ → Type 0
IsReadOf number (Station station message) octets = rsl_reading octets ≡ Ok message
IsReadOf number (Request message) octets =
    (user : List ℕ) × (sccp_reading octets ≡ Ok (sccp.ConnectionRequest number (Some user)))
    × (bssap_reading user ≡ Ok message)
IsReadOf number (Data destination message) octets =
    (user : List ℕ) × (sccp_reading octets ≡ Ok (sccp.DataForm1 destination user))
    × (bssap_reading user ≡ Ok message)
IsReadOf number (ReleaseComplete destination) octets =
    sccp_reading octets ≡ Ok (sccp.ReleaseComplete destination number)
