-- SPDX-License-Identifier: MIT OR Apache-2.0
-- The types of the messages of SCCP (Q.713 clause 2.1).
use Rattle.std.specs.Prelude.{ℕ, ◌==◌, Option}
use Rattle.std.specs.List.{find}
use Rattle.bssmap_codec.specs.declared.sccp.Sccp.{Sccp}
use Rattle.bssmap_codec.specs.declared.sccp.Sccp.TheVariants as messages
use Rattle.bssmap_codec.specs.declared.sccp_type.SccpType.{SccpType}
use Rattle.bssmap_codec.specs.declared.sccp_type.SccpType.TheVariants.{ConnectionRequest}
use Rattle.bssmap_codec.specs.declared.sccp_type.SccpType.TheVariants.{ConnectionConfirm}
use Rattle.bssmap_codec.specs.declared.sccp_type.SccpType.TheVariants.{ConnectionRefused, Released}
use Rattle.bssmap_codec.specs.declared.sccp_type.SccpType.TheVariants.{ReleaseComplete, DataForm1}
use Rattle.bssmap_codec.specs.declared.sccp_type.TheConstants.{SCCP_TYPES}

abbrev pub sccp_octet : SccpType → ℕ
sccp_octet ConnectionRequest = 0x01
sccp_octet ConnectionConfirm = 0x02
sccp_octet ConnectionRefused = 0x03
sccp_octet Released = 0x04
sccp_octet ReleaseComplete = 0x05
sccp_octet DataForm1 = 0x06

-- the type with this octet; `None` if no known type has the octet
unfoldable pub sccp_type : ℕ → Option SccpType
sccp_type octet = find (λ kind. sccp_octet kind == octet) SCCP_TYPES

abbrev pub type_of : Sccp → SccpType
type_of (messages.ConnectionRequest source user) = ConnectionRequest
type_of (messages.ConnectionConfirm destination source) = ConnectionConfirm
type_of (messages.ConnectionRefused destination) = ConnectionRefused
type_of (messages.Released destination source) = Released
type_of (messages.ReleaseComplete destination source) = ReleaseComplete
type_of (messages.DataForm1 destination user) = DataForm1
