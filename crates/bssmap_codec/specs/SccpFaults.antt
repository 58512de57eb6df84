-- SPDX-License-Identifier: MIT OR Apache-2.0
-- The first fault of octets that aren't a text of a message of SCCP, stated by size and pointers
-- (Q.713 clauses 2.3 and 4).
use Rattle.std.specs.Prelude.{◌≡◌, ℕ, ◌<◌, ◌≤◌, Bool, true, false, MatchBool, not}
use Rattle.std.specs.Prelude.{◌&&◌, ◌||◌, ◌==◌}
use Rattle.std.specs.Prelude.{nat_le, nat_lt, List, [], ◌∷◌, ◌++◌, length, drop, Option}
use Rattle.std.specs.Prelude.{Some, None}
use Rattle.std.specs.Prelude.{Result}
use Rattle.octets.specs.Causes.{first_that_holds}
use Rattle.octets.specs.Refusal.{RefusesBy}
use Rattle.bssmap_codec.specs.declared.fault.InterfaceFault.{InterfaceFault}
use Rattle.bssmap_codec.specs.declared.fault.InterfaceFault.TheVariants.{Short, UnknownType}
use Rattle.bssmap_codec.specs.declared.fault.InterfaceFault.TheVariants.{BadPointer, Memory}
use Rattle.bssmap_codec.specs.declared.sccp.Sccp.{Sccp}
use Rattle.bssmap_codec.specs.declared.sccp_parameters.TheConstants.{NO_PART, UNSEGMENTED}
use Rattle.bssmap_codec.specs.declared.sccp_type.SccpType.{SccpType}
use Rattle.bssmap_codec.specs.declared.sccp_type.SccpType.TheVariants.{ConnectionRequest}
use Rattle.bssmap_codec.specs.declared.sccp_type.SccpType.TheVariants.{ConnectionConfirm}
use Rattle.bssmap_codec.specs.declared.sccp_type.SccpType.TheVariants.{ConnectionRefused, Released}
use Rattle.bssmap_codec.specs.declared.sccp_type.SccpType.TheVariants.{ReleaseComplete, DataForm1}
use Rattle.bssmap_codec.specs.Sccp.{Options}
use Rattle.bssmap_codec.specs.SccpType.{sccp_type}

-- the number of octets that every message of this type has after the type, pointers included
abbrev pub fixed : SccpType → ℕ
fixed ConnectionRequest = 6
fixed ConnectionConfirm = 8
fixed ConnectionRefused = 5
fixed Released = 8
fixed ReleaseComplete = 6
fixed DataForm1 = 5

-- whether the reader follows the pointers of a message of this type
abbrev pub has_parts : SccpType → Bool
has_parts ConnectionRequest = true
has_parts DataForm1 = true
has_parts _ = false

-- whether there is no octet, or fewer octets follow the first octet than it says as a length
abbrev pub is_cut_value : List ℕ → Bool
is_cut_value [] = true
is_cut_value (size ∷ rest) = nat_lt (length rest) size

-- The faults of a pointer to a length octet and its value, each with its condition. The pointer is
-- the first of these octets.
abbrev pub part_causes : ℕ → List ℕ → List (Bool × InterfaceFault)
part_causes pointer octets =
    ((pointer == NO_PART) || nat_le (length octets) pointer, BadPointer) ∷
    (is_cut_value (drop pointer octets), Short) ∷ []

-- The faults of a pointer to options, each with its condition. The pointer is the first of these
-- octets; 0 says that there are no options. `are_cut` says whether an option is cut.
abbrev pub option_causes : ℕ → List ℕ → Bool → List (Bool × InterfaceFault)
option_causes pointer octets are_cut =
    (not (pointer == NO_PART) && nat_le (length octets) pointer, BadPointer) ∷
    (not (pointer == NO_PART) && are_cut, Short) ∷ []

-- The faults of a connection request whose pointers `address` and `options` are there, each with
-- its condition; `more` are the octets after the pointers.
abbrev pub request_causes : ℕ → ℕ → List ℕ → Bool → List (Bool × InterfaceFault)
request_causes address options more are_cut =
    part_causes address (address ∷ options ∷ more) ++
    option_causes options (options ∷ more) are_cut

-- The faults of a DT1 whose pointer is there, each with its condition; `more` are the octets after
-- the pointer.
abbrev pub form_causes : ℕ → ℕ → List ℕ → List (Bool × InterfaceFault)
form_causes segmenting pointer more =
    (not (segmenting == UNSEGMENTED), UnknownType) ∷ part_causes pointer (pointer ∷ more)

-- If `are_cut` is false, the octets are options; if `are_cut` is true, the octets aren't options.
abbrev pub AreOptions : List ℕ → Bool → Type 0
AreOptions octets are_cut =
    MatchBool are_cut ((user : Option (List ℕ)) → Options octets user → ⊥)
    ((user : Option (List ℕ)) × Options octets user)

-- The first fault of octets; `None` if they have no fault. After its type, a connection request has
-- a reference of three octets, the class, a pointer to the called address and a pointer to the
-- options. After its type, a DT1 has a reference of three octets, the segmenting octet and a
-- pointer to the data.
pub data FirstFault : List ℕ → Option InterfaceFault → Type 0 where
  nothing : FirstFault [] (Some Short)
  unknown : (octet : ℕ) (rest : List ℕ) → sccp_type octet ≡ None →
      FirstFault (octet ∷ rest) (Some UnknownType)
  ends : (octet : ℕ) (rest : List ℕ) (kind : SccpType) → sccp_type octet ≡ Some kind →
      length rest < fixed kind → FirstFault (octet ∷ rest) (Some Short)
  whole : (octet : ℕ) (rest : List ℕ) (kind : SccpType) → sccp_type octet ≡ Some kind →
      fixed kind ≤ length rest → has_parts kind ≡ false → FirstFault (octet ∷ rest) None
  request : (octet a b c class address options : ℕ) (more : List ℕ) (are_cut : Bool) →
      sccp_type octet ≡ Some ConnectionRequest →
      AreOptions (drop options (options ∷ more)) are_cut →
      FirstFault (octet ∷ a ∷ b ∷ c ∷ class ∷ address ∷ options ∷ more)
      (first_that_holds (request_causes address options more are_cut))
  form : (octet a b c segmenting pointer : ℕ) (more : List ℕ) → sccp_type octet ≡ Some DataForm1 →
      FirstFault (octet ∷ a ∷ b ∷ c ∷ segmenting ∷ pointer ∷ more)
      (first_that_holds (form_causes segmenting pointer more))

-- If the octets have a fault, the result is their first fault. If they have none, the result is a
-- message or `Memory`.
pub record RefusesSccp (octets : List ℕ) (result : Result Sccp InterfaceFault) : Type 0 where
  pub first : Option InterfaceFault
  pub is_first : FirstFault octets first
  pub refuses : RefusesBy Memory result first
