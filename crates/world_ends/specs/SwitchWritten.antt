-- SPDX-License-Identifier: MIT OR Apache-2.0
-- Messages of the switch that can be written.
use Rattle.std.specs.Prelude.{◌≡◌, ◌≤◌, length, Option, Some, None}
use Rattle.bssmap_codec.specs.declared.sccp.Sccp.{Sccp}
use Rattle.bssmap_codec.specs.declared.sccp.Sccp.TheVariants.{DataForm1}
use Rattle.bssmap_codec.specs.SccpText.{sccp_write_fault}
use Rattle.octets.specs.Element.{AreOctets}
use Rattle.octets.specs.declared.limits.TheConstants.{LENGTH_LIMIT}

abbrev pub IsWritten : Sccp → Type 0
IsWritten message = sccp_write_fault message ≡ None

-- a data form 1 has at most 255 octets of user data
abbrev pub IsShort : Sccp → Type 0
IsShort (DataForm1 destination user) = (length user ≤ LENGTH_LIMIT) × AreOctets user
IsShort message = Unit {0}

abbrev pub IsShortIn : Option Sccp → Type 0
IsShortIn None = Unit {0}
IsShortIn (Some message) = IsShort message
