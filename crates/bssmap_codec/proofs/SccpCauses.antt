-- SPDX-License-Identifier: MIT OR Apache-2.0
-- A reader of SCCP returns the fault of the first cause that holds.
use Rattle.std.proofs.Common.{◌≡◌, ◌⊎◌, ℕ, zero, suc, ◌+◌, ◌*◌, ◌<◌, ◌≤◌, Bool, true, false, not, cond, ◌&&◌, ◌||◌, eqb, ltb, leb, List, [], ◌∷◌, ◌++◌, length, take, drop, Option, Some, None, Result, Ok, Err, refl, sym, ap, subst, ◌∙◌, arith, inl, inr}
use Rattle.std.specs.Prelude.{IfErr}
use Rattle.std.specs.Option.{ok_or}
use Rattle.std.specs.Result.{result_err}
use Rattle.octets.specs.Answer.{◌>>=◌, result_map, Gives}
use Rattle.octets.specs.Causes.{first_that_holds}
use Rattle.octets.specs.Element.{AreOctets}
use Rattle.octets.specs.Front.{octet_at, counted_at}
use Rattle.octets.proofs.Grammar.{octets_drop}
use Rattle.octets.proofs.Steps.{refused_by}
use Rattle.bssmap_codec.specs.declared.fault.InterfaceFault.{InterfaceFault}
use Rattle.bssmap_codec.specs.declared.fault.InterfaceFault.TheVariants.{Short, UnknownType, BadPointer, Memory}
use Rattle.bssmap_codec.specs.declared.identifiers.TheConstants.{END_OF_OPTIONS, USER_DATA}
use Rattle.bssmap_codec.specs.declared.sccp.Sccp.{Sccp}
use Rattle.bssmap_codec.specs.declared.sccp.Sccp.TheVariants.{DataForm1}
use Rattle.bssmap_codec.specs.declared.sccp_parameters.TheConstants.{NO_PART, UNSEGMENTED}
use Rattle.bssmap_codec.specs.declared.sccp_type.SccpType.{SccpType}
use Rattle.bssmap_codec.specs.declared.sccp_type.SccpType.TheVariants as kinds
use Rattle.bssmap_codec.specs.Reference.{reference_at, references_at}
use Rattle.bssmap_codec.specs.SccpFaults.{fixed, has_parts, is_cut_value, part_causes, option_causes, AreOptions, FirstFault, RefusesSccp}
use Rattle.bssmap_codec.specs.SccpFaults.FirstFault.{nothing, unknown, ends, whole, request, form}
use Rattle.bssmap_codec.specs.SccpReading.{Front, part_at, option_behind, option_at, data_by, data_within, data_in, user_data_at, request_at, fixed_references_at, refused_at, data_behind_at, data_form_at, content_at, sccp_reading}
use Rattle.bssmap_codec.specs.SccpType.{sccp_type}
use Rattle.bssmap_codec.proofs.BssapCauses.{Causes, map_err, then_ok, bind_again}
use Rattle.bssmap_codec.proofs.OptionsGrammar.{options_again, options_ok}

-- ---- values that pointers lead to

split_then : {B : Type 0} (short : Bool) (p : List ℕ × List ℕ) (next : List ℕ × List ℕ → Result B InterfaceFault)
    (causes : Causes) → ((p : List ℕ × List ℕ) → result_err (next p) ≡ first_that_holds causes)
    → result_err (cond short (Err Short) (Ok p) >>= next) ≡ first_that_holds ((short, Short) ∷ causes)
split_then true p next causes then = refl
split_then false p next causes then = then p

counted_then : {B : Type 0} (octets : List ℕ) (next : List ℕ × List ℕ → Result B InterfaceFault) (causes : Causes) →
    ((p : List ℕ × List ℕ) → result_err (next p) ≡ first_that_holds causes)
    → result_err (counted_at Short octets >>= next) ≡ first_that_holds ((is_cut_value octets, Short) ∷ causes)
unfolding counted_at octet_at
counted_then [] next causes then = refl
counted_then (size ∷ rest) next causes then = split_then (ltb (length rest) size) (take size rest, drop size rest) next causes then

part_by : {B : Type 0} (nowhere : Bool) (part : List ℕ) (next : List ℕ → Result B InterfaceFault) (causes : Causes) →
    result_err (next part) ≡ first_that_holds causes
    → result_err (cond nowhere (Err BadPointer) (Ok part) >>= next) ≡ first_that_holds ((nowhere, BadPointer) ∷ causes)
part_by true part next causes then = refl
part_by false part next causes then = then

part_then : {B : Type 0} (pointer : ℕ) (octets : List ℕ) (next : List ℕ × List ℕ → Result B InterfaceFault)
    (causes : Causes) → ((p : List ℕ × List ℕ) → result_err (next p) ≡ first_that_holds causes)
    → result_err (part_at pointer octets >>= (λ part. counted_at Short part >>= next)) ≡ first_that_holds (part_causes pointer octets ++ causes)
unfolding part_at
part_then pointer octets next causes then =
    part_by (eqb pointer NO_PART || leb (length octets) pointer) (drop pointer octets) (λ part. counted_at Short part >>= next) ((is_cut_value (drop pointer octets), Short) ∷ causes)
    (counted_then (drop pointer octets) next causes then)

-- ---- options are refused as Short alone

abbrev ShortAlone : {A : Type 0} → Result A InterfaceFault → Type 0
ShortAlone r = IfErr r (λ fault. fault ≡ Short)

split_short : {B : Type 0} (short : Bool) (p : List ℕ × List ℕ) (f : List ℕ × List ℕ → B) →
    ShortAlone (cond short (Err Short) (Ok p) >>= (λ q. Ok (f q)))
split_short true p f = refl
split_short false p f = tt

behind_short : (id : ℕ) (octets : List ℕ) → ShortAlone (option_behind id octets)
unfolding counted_at octet_at
behind_short id [] = refl
behind_short id (size ∷ rest) = split_short (ltb (length rest) size) (take size rest, drop size rest) (λ value. Some (id, value.0, value.1))

either_short : {A : Type 0} (b : Bool) (x : A) (r : Result A InterfaceFault) → ShortAlone r → ShortAlone (cond b (Ok x) r)
either_short true x r h = tt
either_short false x r h = h

option_short : (octets : List ℕ) → ShortAlone (option_at octets)
unfolding option_at
option_short [] = tt
option_short (id ∷ octets) = either_short (eqb id END_OF_OPTIONS) None (option_behind id octets) (behind_short id octets)

data_short_by : (front : Result Front InterfaceFault) (go : List ℕ → Result (Option (List ℕ)) InterfaceFault) →
    ShortAlone front → ((octets : List ℕ) → ShortAlone (go octets)) → ShortAlone (data_by front go)
data_short_by (Err fault) go h on = h
data_short_by (Ok None) go h on = tt
data_short_by (Ok (Some front)) go h on = either_short (eqb front.0 USER_DATA) (Some front.1) (go front.2) (on front.2)

data_short_within : (n : ℕ) (octets : List ℕ) → ShortAlone (data_within n octets)
data_short_within zero octets = tt
data_short_within (suc n) octets = data_short_by (option_at octets) (data_within n) (option_short octets) (data_short_within n)

data_short : (octets : List ℕ) → ShortAlone (data_in octets)
unfolding data_in
data_short octets = data_short_within (length octets) octets

-- ---- options, cut or not

-- whether octets are options, and the fault that shows it
record Decided (octets : List ℕ) : Type 0 where
  are_cut : Bool
  are : AreOptions octets are_cut
  fault : result_err (data_in octets) ≡ cond are_cut (Some Short) None

decided_by : (octets : List ℕ) (r : Result (Option (List ℕ)) InterfaceFault) → AreOctets octets → data_in octets ≡ r →
    ShortAlone r → Decided octets
decided_by octets (Ok user) fits e h = record { are_cut = false; are = (user, options_ok octets user fits e); fault = ap result_err e }
decided_by octets (Err fault) fits e h = record {
  are_cut = true;
  are = λ user is. absurd (cc (e, options_again octets user is));
  fault = ap result_err e ∙ ap (λ (f : InterfaceFault). Some f) h;
}

decided : (octets : List ℕ) → AreOctets octets → Decided octets
decided octets fits = decided_by octets (data_in octets) fits refl (data_short octets)

user_by : {B : Type 0} (none out are_cut : Bool) (part : List ℕ) (f : Option (List ℕ) → B) →
    result_err (data_in part) ≡ cond are_cut (Some Short) None
    → result_err (cond none (Ok None) (cond (none || out) (Err BadPointer) (Ok part) >>= data_in) >>= (λ user. Ok (f user))) ≡ first_that_holds ((not none && out, BadPointer) ∷ (not none && are_cut, Short) ∷ [])
user_by true out are_cut part f e = refl
user_by false true are_cut part f e = refl
user_by false false are_cut part f e = then_ok f (data_in part) ∙ e

user_err : {B : Type 0} (pointer : ℕ) (octets : List ℕ) (are_cut : Bool) (f : Option (List ℕ) → B) →
    result_err (data_in (drop pointer octets)) ≡ cond are_cut (Some Short) None
    → result_err (user_data_at pointer octets >>= (λ user. Ok (f user))) ≡ first_that_holds (option_causes pointer octets are_cut)
unfolding user_data_at part_at
user_err pointer octets are_cut f e = user_by (eqb pointer NO_PART) (leb (length octets) pointer) are_cut (drop pointer octets) f e

-- ---- messages with pointers

request_err : (a b c class address options : ℕ) (more : List ℕ) (are_cut : Bool) →
    result_err (data_in (drop options (options ∷ more))) ≡ cond are_cut (Some Short) None
    → first_that_holds (part_causes address (address ∷ options ∷ more) ++ option_causes options (options ∷ more) are_cut) ≡ result_err (request_at (a ∷ b ∷ c ∷ class ∷ address ∷ options ∷ more))
unfolding request_at reference_at octet_at
request_err a b c class address options more are_cut e =
    sym (part_then address (address ∷ options ∷ more) _ (option_causes options (options ∷ more) are_cut) (λ p. user_err options (options ∷ more) are_cut _ e))

request_first : (octet : ℕ) (rest : List ℕ) → AreOctets rest → sccp_type octet ≡ Some kinds.ConnectionRequest →
    FirstFault (octet ∷ rest) (result_err (request_at rest))
unfolding request_at reference_at octet_at
request_first octet [] fits names = ends octet [] kinds.ConnectionRequest names (omega arith)
request_first octet (a ∷ []) fits names = ends octet (a ∷ []) kinds.ConnectionRequest names (omega arith)
request_first octet (a ∷ b ∷ []) fits names = ends octet (a ∷ b ∷ []) kinds.ConnectionRequest names (omega arith)
request_first octet (a ∷ b ∷ c ∷ []) fits names = ends octet (a ∷ b ∷ c ∷ []) kinds.ConnectionRequest names (omega arith)
request_first octet (a ∷ b ∷ c ∷ class ∷ []) fits names = ends octet (a ∷ b ∷ c ∷ class ∷ []) kinds.ConnectionRequest names (omega arith)
request_first octet (a ∷ b ∷ c ∷ class ∷ address ∷ []) fits names = ends octet (a ∷ b ∷ c ∷ class ∷ address ∷ []) kinds.ConnectionRequest names (omega arith)
request_first octet (a ∷ b ∷ c ∷ class ∷ address ∷ options ∷ more) fits names =
    let behind : AreOctets (options ∷ more) = λ i. fits (suc (suc (suc (suc (suc i))))) in
    let d = decided (drop options (options ∷ more)) (octets_drop options (options ∷ more) behind) in
    subst (λ (first : Option InterfaceFault). FirstFault (octet ∷ a ∷ b ∷ c ∷ class ∷ address ∷ options ∷ more) first) (request_err a b c class address options more d.are_cut d.fault)
    (request octet a b c class address options more d.are_cut names d.are)

form_by : (destination : ℕ) (unsegmented : Bool) (pointer : ℕ) (pointers : List ℕ)
    → first_that_holds ((not unsegmented, UnknownType) ∷ part_causes pointer pointers)
    ≡ result_err (cond unsegmented (part_at pointer pointers >>= counted_at Short) (Err UnknownType) >>= (λ user. Ok (DataForm1 destination user.0)))
form_by destination false pointer pointers = refl
form_by destination true pointer pointers =
    sym (ap result_err (bind_again (part_at pointer pointers) (counted_at Short) (λ user. Ok (DataForm1 destination user.0))) ∙ part_then pointer pointers (λ user. Ok (DataForm1 destination user.0)) [] (λ p. refl))

form_first : (octet : ℕ) (rest : List ℕ) → sccp_type octet ≡ Some kinds.DataForm1 →
    FirstFault (octet ∷ rest) (result_err (data_form_at rest))
unfolding data_form_at reference_at octet_at data_behind_at
form_first octet [] names = ends octet [] kinds.DataForm1 names (omega arith)
form_first octet (a ∷ []) names = ends octet (a ∷ []) kinds.DataForm1 names (omega arith)
form_first octet (a ∷ b ∷ []) names = ends octet (a ∷ b ∷ []) kinds.DataForm1 names (omega arith)
form_first octet (a ∷ b ∷ c ∷ []) names = ends octet (a ∷ b ∷ c ∷ []) kinds.DataForm1 names (omega arith)
form_first octet (a ∷ b ∷ c ∷ segmenting ∷ []) names = ends octet (a ∷ b ∷ c ∷ segmenting ∷ []) kinds.DataForm1 names (omega arith)
form_first octet (a ∷ b ∷ c ∷ segmenting ∷ pointer ∷ more) names =
    subst (λ (first : Option InterfaceFault). FirstFault (octet ∷ a ∷ b ∷ c ∷ segmenting ∷ pointer ∷ more) first)
    (form_by (a * 65536 + b * 256 + c) (eqb segmenting UNSEGMENTED) pointer (pointer ∷ more)) (form octet a b c segmenting pointer more names)

-- ---- messages without

-- so many octets are there, or the fault is Short
abbrev NeedsOctets : ℕ → List ℕ → Option InterfaceFault → Type 0
NeedsOctets size octets fault = ((length octets < size) × (fault ≡ Some Short)) ⊎ ((size ≤ length octets) × (fault ≡ None))

pair_needs : (octets : List ℕ) → NeedsOctets 6 octets (result_err (references_at octets))
unfolding references_at reference_at octet_at
pair_needs [] = inl (omega arith, refl)
pair_needs (a ∷ []) = inl (omega arith, refl)
pair_needs (a ∷ b ∷ []) = inl (omega arith, refl)
pair_needs (a ∷ b ∷ c ∷ []) = inl (omega arith, refl)
pair_needs (a ∷ b ∷ c ∷ d ∷ []) = inl (omega arith, refl)
pair_needs (a ∷ b ∷ c ∷ d ∷ e ∷ []) = inl (omega arith, refl)
pair_needs (a ∷ b ∷ c ∷ d ∷ e ∷ f ∷ rest) = inr (omega arith, refl)

fixed_needs : (octets : List ℕ) → NeedsOctets 8 octets (result_err (fixed_references_at octets))
unfolding fixed_references_at references_at reference_at octet_at
fixed_needs [] = inl (omega arith, refl)
fixed_needs (a ∷ []) = inl (omega arith, refl)
fixed_needs (a ∷ b ∷ []) = inl (omega arith, refl)
fixed_needs (a ∷ b ∷ c ∷ []) = inl (omega arith, refl)
fixed_needs (a ∷ b ∷ c ∷ d ∷ []) = inl (omega arith, refl)
fixed_needs (a ∷ b ∷ c ∷ d ∷ e ∷ []) = inl (omega arith, refl)
fixed_needs (a ∷ b ∷ c ∷ d ∷ e ∷ f ∷ []) = inl (omega arith, refl)
fixed_needs (a ∷ b ∷ c ∷ d ∷ e ∷ f ∷ g ∷ []) = inl (omega arith, refl)
fixed_needs (a ∷ b ∷ c ∷ d ∷ e ∷ f ∷ g ∷ h ∷ rest) = inr (omega arith, refl)

refused_needs : (octets : List ℕ) → NeedsOctets 5 octets (result_err (refused_at octets))
unfolding refused_at reference_at octet_at
refused_needs [] = inl (omega arith, refl)
refused_needs (a ∷ []) = inl (omega arith, refl)
refused_needs (a ∷ b ∷ []) = inl (omega arith, refl)
refused_needs (a ∷ b ∷ c ∷ []) = inl (omega arith, refl)
refused_needs (a ∷ b ∷ c ∷ d ∷ []) = inl (omega arith, refl)
refused_needs (a ∷ b ∷ c ∷ d ∷ e ∷ rest) = inr (omega arith, refl)

of_fixed : (octet : ℕ) (rest : List ℕ) (kind : SccpType) (fault : Option InterfaceFault) → sccp_type octet ≡ Some kind →
    has_parts kind ≡ false → NeedsOctets (fixed kind) rest fault → FirstFault (octet ∷ rest) fault
of_fixed octet rest kind fault names none (inl n) = subst (λ (first : Option InterfaceFault). FirstFault (octet ∷ rest) first) (sym n.1) (ends octet rest kind names n.0)
of_fixed octet rest kind fault names none (inr n) = subst (λ (first : Option InterfaceFault). FirstFault (octet ∷ rest) first) (sym n.1) (whole octet rest kind names n.0 none)

mapped : {A : Type 0} (octet : ℕ) (rest : List ℕ) (f : A → Sccp) (r : Result A InterfaceFault) →
    FirstFault (octet ∷ rest) (result_err r) → FirstFault (octet ∷ rest) (result_err (result_map f r))
mapped octet rest f r is = subst (λ (first : Option InterfaceFault). FirstFault (octet ∷ rest) first) (sym (map_err f r)) is

-- ---- the octets

content_first : (octet : ℕ) (rest : List ℕ) (kind : SccpType) → AreOctets rest → sccp_type octet ≡ Some kind →
    FirstFault (octet ∷ rest) (result_err (content_at kind rest))
content_first octet rest kinds.ConnectionRequest fits names = request_first octet rest fits names
content_first octet rest kinds.ConnectionConfirm fits names = mapped octet rest _ (fixed_references_at rest) (of_fixed octet rest kinds.ConnectionConfirm _ names refl (fixed_needs rest))
content_first octet rest kinds.ConnectionRefused fits names = of_fixed octet rest kinds.ConnectionRefused _ names refl (refused_needs rest)
content_first octet rest kinds.Released fits names = mapped octet rest _ (fixed_references_at rest) (of_fixed octet rest kinds.Released _ names refl (fixed_needs rest))
content_first octet rest kinds.ReleaseComplete fits names = mapped octet rest _ (references_at rest) (of_fixed octet rest kinds.ReleaseComplete _ names refl (pair_needs rest))
content_first octet rest kinds.DataForm1 fits names = form_first octet rest names

type_first : (octet : ℕ) (rest : List ℕ) (found : Option SccpType) → AreOctets rest → sccp_type octet ≡ found →
    FirstFault (octet ∷ rest) (result_err (ok_or found UnknownType >>= (λ kind. content_at kind rest)))
type_first octet rest None fits names = unknown octet rest names
type_first octet rest (Some kind) fits names = content_first octet rest kind fits names

first_fault : (octets : List ℕ) → AreOctets octets → FirstFault octets (result_err (sccp_reading octets))
unfolding sccp_reading octet_at
first_fault [] fits = nothing
first_fault (octet ∷ rest) fits = type_first octet rest (sccp_type octet) (λ i. fits (suc i)) refl

pub refuses_sccp : (octets : List ℕ) (r : Result Sccp InterfaceFault) → AreOctets octets →
    Gives Memory (λ v. v) r (sccp_reading octets) → RefusesSccp octets r
refuses_sccp octets r fits g = record { first = result_err (sccp_reading octets); is_first = first_fault octets fits; refuses = refused_by Memory r (sccp_reading octets) g }
