-- SPDX-License-Identifier: MIT OR Apache-2.0
-- The reading of octets as a message of SCCP, as a function of the octets. Its steps stand in the
-- order in which faults are looked for.
use Rattle.std.specs.Prelude.{ℕ, zero, suc, nat_le, ◌||◌, ◌==◌, if◌then◌else◌, List}
use Rattle.std.specs.Prelude.{[], ◌∷◌}
use Rattle.std.specs.Prelude.{length, drop, Option, Some, None, Result, Ok, Err}
use Rattle.std.specs.Option.{ok_or}
use Rattle.octets.specs.Answer.{◌>>=◌, result_map}
use Rattle.octets.specs.Front.{octet_at, counted_at}
use Rattle.bssmap_codec.specs.declared.fault.InterfaceFault.{InterfaceFault}
use Rattle.bssmap_codec.specs.declared.fault.InterfaceFault.TheVariants.{Short, UnknownType}
use Rattle.bssmap_codec.specs.declared.fault.InterfaceFault.TheVariants.{BadPointer}
use Rattle.bssmap_codec.specs.declared.identifiers.TheConstants.{END_OF_OPTIONS, USER_DATA}
use Rattle.bssmap_codec.specs.declared.sccp.Sccp.{Sccp}
use Rattle.bssmap_codec.specs.declared.sccp.Sccp.TheVariants.{ConnectionRequest, ConnectionConfirm}
use Rattle.bssmap_codec.specs.declared.sccp.Sccp.TheVariants.{ConnectionRefused, Released}
use Rattle.bssmap_codec.specs.declared.sccp.Sccp.TheVariants.{ReleaseComplete, DataForm1}
use Rattle.bssmap_codec.specs.declared.sccp_parameters.TheConstants.{NO_PART, UNSEGMENTED}
use Rattle.bssmap_codec.specs.declared.sccp_type.SccpType.{SccpType}
use Rattle.bssmap_codec.specs.declared.sccp_type.SccpType.TheVariants as kinds
use Rattle.bssmap_codec.specs.Reference.{reference_at, references_at}
use Rattle.bssmap_codec.specs.SccpType.{sccp_type}

-- The octets from the place that a pointer leads to, to the end, else `BadPointer`. The pointer
-- counts from its own octet, the first of these octets.
unfoldable pub part_at : ℕ → List ℕ → Result (List ℕ) InterfaceFault
part_at pointer octets =
    if (pointer == NO_PART) || nat_le (length octets) pointer then Err BadPointer
    else Ok (drop pointer octets)

-- an option's identifier, its value, and the octets after the option; `None` if there is no option
abbrev pub Front : Type 0
Front = Option (ℕ × List ℕ × List ℕ)

abbrev pub option_behind : ℕ → List ℕ → Result Front InterfaceFault
option_behind id octets = do
  value ← counted_at Short octets
  Ok (Some (id, value.0, value.1))

-- the option at the front; `None` at the end of the octets or at the end-of-options octet
unfoldable pub option_at : List ℕ → Result Front InterfaceFault
option_at [] = Ok None
option_at (id ∷ octets) = if id == END_OF_OPTIONS then Ok None else option_behind id octets

abbrev pub data_by : Result Front InterfaceFault →
    (List ℕ → Result (Option (List ℕ)) InterfaceFault) → Result (Option (List ℕ)) InterfaceFault
data_by (Err fault) go = Err fault
data_by (Ok None) go = Ok None
data_by (Ok (Some front)) go = if front.0 == USER_DATA then Ok (Some front.1) else go front.2

-- the user data among the first options, as many as the number says
abbrev pub data_within : ℕ → List ℕ → Result (Option (List ℕ)) InterfaceFault
data_within zero octets = Ok None
data_within (suc n) octets = data_by (option_at octets) (data_within n)

-- the value of the first option that carries user data; `None` if no option does
unfoldable pub data_in : List ℕ → Result (Option (List ℕ)) InterfaceFault
data_in octets = data_within (length octets) octets

-- the user data among the options that a pointer leads to; a pointer 0 says that there are no
-- options
unfoldable pub user_data_at : ℕ → List ℕ → Result (Option (List ℕ)) InterfaceFault
user_data_at pointer octets =
    if pointer == NO_PART then Ok None else part_at pointer octets >>= data_in

unfoldable pub request_at : List ℕ → Result Sccp InterfaceFault
request_at octets = do
  source ← reference_at octets
  class ← octet_at Short source.1
  address ← octet_at Short class.1
  option ← octet_at Short address.1
  called ← part_at address.0 class.1
  number ← counted_at Short called
  user ← user_data_at option.0 address.1
  Ok (ConnectionRequest source.0 user)

-- the two references, if the class or cause and a pointer follow them, else `Short`
unfoldable pub fixed_references_at : List ℕ → Result (ℕ × ℕ) InterfaceFault
fixed_references_at octets = do
  references ← references_at octets
  class ← octet_at Short references.2
  pointer ← octet_at Short class.1
  Ok (references.0, references.1)

unfoldable pub refused_at : List ℕ → Result Sccp InterfaceFault
refused_at octets = do
  destination ← reference_at octets
  cause ← octet_at Short destination.1
  pointer ← octet_at Short cause.1
  Ok (ConnectionRefused destination.0)

-- the data of a DT1 and the octets after the data; `UnknownType` if the DT1 is segmented
unfoldable pub data_behind_at : ℕ → List ℕ → ℕ → Result (List ℕ × List ℕ) InterfaceFault
data_behind_at segmenting pointers pointer =
    if segmenting == UNSEGMENTED then part_at pointer pointers >>= counted_at Short
    else Err UnknownType

unfoldable pub data_form_at : List ℕ → Result Sccp InterfaceFault
data_form_at octets = do
  destination ← reference_at octets
  segmenting ← octet_at Short destination.1
  pointer ← octet_at Short segmenting.1
  user ← data_behind_at segmenting.0 segmenting.1 pointer.0
  Ok (DataForm1 destination.0 user.0)

-- the message of this type, read from the octets after the type
abbrev pub content_at : SccpType → List ℕ → Result Sccp InterfaceFault
content_at kinds.ConnectionRequest octets = request_at octets
content_at kinds.ConnectionConfirm octets =
    result_map (λ p. ConnectionConfirm p.0 p.1) (fixed_references_at octets)
content_at kinds.ConnectionRefused octets = refused_at octets
content_at kinds.Released octets = result_map (λ p. Released p.0 p.1) (fixed_references_at octets)
content_at kinds.ReleaseComplete octets =
    result_map (λ p. ReleaseComplete p.0 p.1) (references_at octets)
content_at kinds.DataForm1 octets = data_form_at octets

unfoldable pub sccp_reading : List ℕ → Result Sccp InterfaceFault
sccp_reading octets = do
  first ← octet_at Short octets
  kind ← ok_or (sccp_type first.0) UnknownType
  content_at kind first.1
