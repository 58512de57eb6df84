-- SPDX-License-Identifier: MIT OR Apache-2.0
-- The text of a message of SCCP, and the fault for which it isn't written.
use Rattle.std.specs.Prelude.{ℕ, nat_lt, if◌then◌else◌, List, [], ◌∷◌, ◌++◌}
use Rattle.std.specs.Prelude.{length, Option, Some}
use Rattle.std.specs.Prelude.{None}
use Rattle.octets.specs.Front.{counted_text}
use Rattle.bssmap_codec.specs.declared.fault.InterfaceFault.{InterfaceFault}
use Rattle.bssmap_codec.specs.declared.fault.InterfaceFault.TheVariants.{TooLong}
use Rattle.bssmap_codec.specs.declared.identifiers.TheConstants.{END_OF_OPTIONS, USER_DATA}
use Rattle.octets.specs.declared.limits.TheConstants.{LENGTH_LIMIT}
use Rattle.bssmap_codec.specs.declared.sccp.Sccp.{Sccp}
use Rattle.bssmap_codec.specs.declared.sccp.Sccp.TheVariants.{ConnectionRequest, ConnectionConfirm}
use Rattle.bssmap_codec.specs.declared.sccp.Sccp.TheVariants.{ConnectionRefused, Released}
use Rattle.bssmap_codec.specs.declared.sccp.Sccp.TheVariants.{ReleaseComplete, DataForm1}
use Rattle.bssmap_codec.specs.declared.sccp_parameters.TheConstants.{ADDRESS_POINTER}
use Rattle.bssmap_codec.specs.declared.sccp_parameters.TheConstants.{CALLED_ADDRESS, DATA_POINTER}
use Rattle.bssmap_codec.specs.declared.sccp_parameters.TheConstants.{END_USER_ORIGINATED, NO_PART}
use Rattle.bssmap_codec.specs.declared.sccp_parameters.TheConstants.{OPTIONS_POINTER}
use Rattle.bssmap_codec.specs.declared.sccp_parameters.TheConstants.{PROTOCOL_CLASS, UNSEGMENTED}
use Rattle.bssmap_codec.specs.Reference.{IsReference, reference_text, references_text}
use Rattle.bssmap_codec.specs.SccpType.{sccp_octet, type_of}

-- the pointer to the options, the called address, and the options with this user data
abbrev pub options_text : Option (List ℕ) → List ℕ
options_text None = NO_PART ∷ CALLED_ADDRESS
options_text (Some user) =
    OPTIONS_POINTER ∷ (CALLED_ADDRESS ++ USER_DATA ∷ (counted_text user ++ END_OF_OPTIONS ∷ []))

-- the octets of a message after its type
abbrev pub content_text : Sccp → List ℕ
content_text (ConnectionRequest source user) =
    reference_text source ++ PROTOCOL_CLASS ∷ ADDRESS_POINTER ∷ options_text user
content_text (ConnectionConfirm destination source) =
    references_text destination source ++ PROTOCOL_CLASS ∷ NO_PART ∷ []
content_text (ConnectionRefused destination) =
    reference_text destination ++ END_USER_ORIGINATED ∷ NO_PART ∷ []
content_text (Released destination source) =
    references_text destination source ++ END_USER_ORIGINATED ∷ NO_PART ∷ []
content_text (ReleaseComplete destination source) = references_text destination source
content_text (DataForm1 destination user) =
    reference_text destination ++ UNSEGMENTED ∷ DATA_POINTER ∷ counted_text user

abbrev pub sccp_text : Sccp → List ℕ
sccp_text message = sccp_octet (type_of message) ∷ content_text message

-- `TooLong` if a length octet can't count this size, else `None`
abbrev pub size_fault : ℕ → Option InterfaceFault
size_fault size = if nat_lt LENGTH_LIMIT size then Some TooLong else None

abbrev pub sccp_write_fault : Sccp → Option InterfaceFault
sccp_write_fault (ConnectionRequest source (Some user)) = size_fault (length user)
sccp_write_fault (DataForm1 destination user) = size_fault (length user)
sccp_write_fault _ = None

-- the numbers of the message's references are below 2^24, so that they have three octets
abbrev pub HasReferences : Sccp → Type 0
HasReferences (ConnectionRequest source user) = IsReference source
HasReferences (ConnectionConfirm destination source) = IsReference destination × IsReference source
HasReferences (ConnectionRefused destination) = IsReference destination
HasReferences (Released destination source) = IsReference destination × IsReference source
HasReferences (ReleaseComplete destination source) = IsReference destination × IsReference source
HasReferences (DataForm1 destination user) = IsReference destination
