-- SPDX-License-Identifier: MIT OR Apache-2.0
-- Messages of SCCP for connections of class 2, octet by octet (Q.713 clause 4).
use Rattle.std.specs.Prelude.{◌≡◌, ◌≢◌, ◌⊎◌, ℕ, ◌<◌, ◌≤◌, List, []}
use Rattle.std.specs.Prelude.{◌∷◌, ◌++◌, length, drop, Option}
use Rattle.std.specs.Prelude.{Some, None}
use Rattle.octets.specs.Front.{counted_text}
use Rattle.bssmap_codec.specs.declared.identifiers.TheConstants.{END_OF_OPTIONS, USER_DATA}
use Rattle.octets.specs.declared.limits.TheConstants.{LENGTH_LIMIT}
use Rattle.bssmap_codec.specs.declared.sccp.Sccp.{Sccp}
use Rattle.bssmap_codec.specs.declared.sccp.Sccp.TheVariants.{ConnectionRequest, ConnectionConfirm}
use Rattle.bssmap_codec.specs.declared.sccp.Sccp.TheVariants.{ConnectionRefused, Released}
use Rattle.bssmap_codec.specs.declared.sccp.Sccp.TheVariants.{ReleaseComplete, DataForm1}
use Rattle.bssmap_codec.specs.declared.sccp_parameters.TheConstants.{NO_PART, UNSEGMENTED}
use Rattle.bssmap_codec.specs.Reference.{IsReference, reference_text, references_text}
use Rattle.bssmap_codec.specs.SccpType.{sccp_octet, type_of}

-- The first of the octets is a pointer, counted from its own octet (clause 2.3), and `part` are the
-- octets from the place that it leads to, to the end.
pub record Points (octets part : List ℕ) : Type 0 where
  pub pointer : ℕ
  pub rest : List ℕ
  pub is : octets ≡ pointer ∷ rest
  pub forward : 0 < pointer
  pub within : pointer < length octets
  pub leads : drop pointer octets ≡ part

-- The octets begin with a length octet, then this value of that length.
pub record IsCounted (octets value : List ℕ) : Type 0 where
  pub more : List ℕ
  pub is : octets ≡ counted_text value ++ more
  pub short : length value ≤ LENGTH_LIMIT

-- The octets are options, and this is the user data among them, if any (clause 3.1). The options
-- end after the first option that carries user data, at the end-of-options octet, or at the end of
-- the octets.
pub data Options : List ℕ → Option (List ℕ) → Type 0 where
  over : Options [] None
  ended : (more : List ℕ) → Options (END_OF_OPTIONS ∷ more) None
  carried : (value more : List ℕ) → length value ≤ LENGTH_LIMIT →
      Options (USER_DATA ∷ (counted_text value ++ more)) (Some value)
  other : (id : ℕ) (value rest : List ℕ) (user : Option (List ℕ)) → id ≢ END_OF_OPTIONS →
      id ≢ USER_DATA → length value ≤ LENGTH_LIMIT → Options rest user →
      Options (id ∷ (counted_text value ++ rest)) user

-- the octets begin with a pointer 0, which says that there are no options
pub record NoOptions (octets : List ℕ) : Type 0 where
  pub rest : List ℕ
  pub is : octets ≡ NO_PART ∷ rest

-- the octets begin with a pointer to options with this user data
pub record PointsToOptions (octets : List ℕ) (user : Option (List ℕ)) : Type 0 where
  pub part : List ℕ
  pub points : Points octets part
  pub options : Options part user

-- the octets begin with a pointer to options with this user data, or with a pointer 0 and there is
-- no user data
abbrev pub HasOptions : List ℕ → Option (List ℕ) → Type 0
HasOptions octets user = (NoOptions octets × (user ≡ None)) ⊎ PointsToOptions octets user

-- CR after its type: source reference, class, pointer to the called address, pointer to the options
pub record IsRequest (octets : List ℕ) (source : ℕ) (user : Option (List ℕ)) : Type 0 where
  pub class : ℕ
  pub address : ℕ
  pub options : List ℕ
  pub is : octets ≡ reference_text source ++ class ∷ address ∷ options
  pub reference : IsReference source
  pub called : List ℕ
  pub points : Points (address ∷ options) called
  pub number : List ℕ
  pub counted : IsCounted called number
  pub carries : HasOptions options user

-- the octets are the destination reference, the source reference, and `more`
pub record AreReferences (octets : List ℕ) (destination source : ℕ) (more : List ℕ) : Type 0 where
  pub is : octets ≡ references_text destination source ++ more
  pub to : IsReference destination
  pub from : IsReference source

-- RLC after its type: the two references
pub record IsPair (octets : List ℕ) (destination source : ℕ) : Type 0 where
  pub more : List ℕ
  pub are : AreReferences octets destination source more

-- CC or RLSD after its type: the two references, then the class or cause and a pointer, which may
-- have any value
pub record IsFixedPair (octets : List ℕ) (destination source : ℕ) : Type 0 where
  pub class : ℕ
  pub pointer : ℕ
  pub more : List ℕ
  pub are : AreReferences octets destination source (class ∷ pointer ∷ more)

-- CREF after its type: destination reference, cause, pointer
pub record IsRefusal (octets : List ℕ) (destination : ℕ) : Type 0 where
  pub cause : ℕ
  pub pointer : ℕ
  pub more : List ℕ
  pub is : octets ≡ reference_text destination ++ cause ∷ pointer ∷ more
  pub to : IsReference destination

-- DT1 after its type: destination reference, the segmenting octet of unsegmented data, pointer to
-- the data
pub record IsData (octets : List ℕ) (destination : ℕ) (user : List ℕ) : Type 0 where
  pub rest : List ℕ
  pub is : octets ≡ reference_text destination ++ UNSEGMENTED ∷ rest
  pub to : IsReference destination
  pub part : List ℕ
  pub points : Points rest part
  pub counted : IsCounted part user

-- these octets after the type are those of the message
abbrev pub IsContent : List ℕ → Sccp → Type 0
IsContent octets (ConnectionRequest source user) = IsRequest octets source user
IsContent octets (ConnectionConfirm destination source) = IsFixedPair octets destination source
IsContent octets (ConnectionRefused destination) = IsRefusal octets destination
IsContent octets (Released destination source) = IsFixedPair octets destination source
IsContent octets (ReleaseComplete destination source) = IsPair octets destination source
IsContent octets (DataForm1 destination user) = IsData octets destination user

-- The octets are a text of the message; any octets may follow its parts.
pub record IsSccp (octets : List ℕ) (message : Sccp) : Type 0 where
  pub rest : List ℕ
  pub is : octets ≡ sccp_octet (type_of message) ∷ rest
  pub content : IsContent rest message
