-- SPDX-License-Identifier: MIT OR Apache-2.0
-- A reader of BSSAP returns the fault of the first cause that holds.
use Rattle.std.proofs.Common.{◌≡◌, ℕ, suc, Bool, true, false, not, cond, ltb, List, [], ◌∷◌, length, take, drop, Option, Some, None, Result, Ok, Err, refl, sym, ap, subst, ◌∙◌, arith, inl, inr}
use Rattle.std.specs.Prelude.{is_none}
use Rattle.std.specs.Option.{ok_or}
use Rattle.std.specs.Result.{result_err}
use Rattle.std.proofs.lemmas.Bool.{cases_eq, ne_eqb}
use Rattle.octets.specs.Answer.{◌>>=◌, result_map, Gives}
use Rattle.octets.specs.Causes.{first_that_holds}
use Rattle.octets.specs.Element.{Element, AreOctets, AreElements, format_in}
use Rattle.octets.specs.declared.element.Format.TheVariants.{Tv}
use Rattle.octets.specs.Front.{octet_at, split_at}
use Rattle.octets.specs.Walk.{first_of}
use Rattle.octets.proofs.Fields.{found_sized}
use Rattle.octets.proofs.Grammar.{walk_found, octets_take}
use Rattle.octets.proofs.Steps.{refused_by}
use Rattle.bssmap_codec.specs.declared.bssap.Bssap.{Bssap}
use Rattle.bssmap_codec.specs.declared.bssap.Bssap.TheVariants.{Management, Transfer}
use Rattle.bssmap_codec.specs.declared.bssap.TheConstants.{MANAGEMENT, TRANSFER}
use Rattle.bssmap_codec.specs.declared.bssmap.Bssmap.{Bssmap}
use Rattle.bssmap_codec.specs.declared.bssmap_type.BssmapType.{BssmapType}
use Rattle.bssmap_codec.specs.declared.bssmap_type.BssmapType.TheVariants as kinds
use Rattle.bssmap_codec.specs.declared.fault.InterfaceFault.{InterfaceFault}
use Rattle.bssmap_codec.specs.declared.fault.InterfaceFault.TheVariants.{Short, UnknownType, MissingElement, Memory}
use Rattle.bssmap_codec.specs.declared.identifiers.TheConstants.{ELEMENTS, CAUSE, CELL_IDENTIFIER, CHANNEL_TYPE, RR_CAUSE, LAYER_3_INFORMATION, DLCI}
use Rattle.bssmap_codec.specs.declared.values.RrCause.{RrCause}
use Rattle.bssmap_codec.specs.BssapFaults.{lacks, layer3_causes, element_causes, FirstFault, RefusesBssap}
use Rattle.bssmap_codec.specs.BssapFaults.FirstFault.{nothing, other, no_length, no_type, unknown, known, no_header, transfer}
use Rattle.bssmap_codec.specs.BssapReading.{elements_of, breaks_off, rr_cause_of, needed_value, needed_octet, rr_cause_by, rr_cause_in, layer3_by, layer3_at, cause_at, assignment_request_at, assignment_complete_at, assignment_failure_at, handover_performed_at, reject_at, complete_layer3_at, content_at, message_at, management_at, transfer_at, bssap_reading}
use Rattle.bssmap_codec.specs.BssmapType.{bssmap_type}
use Rattle.bssmap_codec.specs.Layer3.{layer3_fault}
use Rattle.bssmap_codec.specs.Values.{is_dlci}
use Rattle.bssmap_codec.proofs.Contents.{one_octet}

abbrev pub Causes : Type 0
Causes = List (Bool × InterfaceFault)

-- ---- steps

pub map_err : {A B : Type 0} (f : A → B) (r : Result A InterfaceFault) → result_err (result_map f r) ≡ result_err r
map_err f (Ok x) = refl
map_err f (Err fault) = refl

pub then_ok : {A B : Type 0} (f : A → B) (r : Result A InterfaceFault) → result_err (r >>= (λ x. Ok (f x))) ≡ result_err r
then_ok f (Ok x) = refl
then_ok f (Err fault) = refl

pub bind_again : {A B C : Type 0} (r : Result A InterfaceFault) (f : A → Result B InterfaceFault)
    (g : B → Result C InterfaceFault) → (r >>= f >>= g) ≡ (r >>= (λ x. f x >>= g))
bind_again (Ok x) f g = refl
bind_again (Err fault) f g = refl

-- an element that is needed, and what is read then
need_by : {B : Type 0} (id : ℕ) (o : Option (List ℕ)) (next : List ℕ → Result B InterfaceFault) (causes : Causes)
    → ((value : List ℕ) → o ≡ Some value → result_err (next value) ≡ first_that_holds causes) → result_err (ok_or o (MissingElement id) >>= next) ≡ first_that_holds ((is_none o, MissingElement id) ∷ causes)
need_by id None next causes then = refl
need_by id (Some value) next causes then = then value refl

abbrev missing : List Element → ℕ → Bool × InterfaceFault
missing es id = (lacks es id, MissingElement id)

need : {B : Type 0} (id : ℕ) (es : List Element) (next : List ℕ → Result B InterfaceFault) (causes : Causes)
    → ((value : List ℕ) → first_of id es ≡ Some value → result_err (next value) ≡ first_that_holds causes) → result_err (needed_value id es >>= next) ≡ first_that_holds (missing es id ∷ causes)
unfolding needed_value
need id es next causes then = need_by id (first_of id es) next causes then

-- the value of an element with this identifier has one octet
abbrev HasOne : List Element → ℕ → Type 0
HasOne es id = (value : List ℕ) → first_of id es ≡ Some value → length value ≡ 1

one_then : {B : Type 0} (value : List ℕ) (next : ℕ × List ℕ → Result B InterfaceFault) (causes : Causes) →
    length value ≡ 1 → ((p : ℕ × List ℕ) → result_err (next p) ≡ first_that_holds causes)
    → result_err (octet_at Short value >>= next) ≡ first_that_holds causes
unfolding octet_at
one_then [] next causes one then = absurd (omega (arith, one))
one_then (x ∷ xs) next causes one then = then (x, xs)

rr_then_by : {B : Type 0} (o : Option (List ℕ)) (next : Option RrCause → Result B InterfaceFault) →
    ((value : List ℕ) → o ≡ Some value → length value ≡ 1) → ((r : Option RrCause) → result_err (next r) ≡ None)
    → result_err (rr_cause_by o >>= next) ≡ None
rr_then_by None next one then = then None
rr_then_by (Some value) next one then =
    ap result_err (bind_again (octet_at Short value) (λ first. Ok (Some (rr_cause_of first.0))) next)
    ∙ one_then value (λ first. next (Some (rr_cause_of first.0))) [] (one value refl) (λ p. then (Some (rr_cause_of p.0)))

rr_then : {B : Type 0} (es : List Element) (next : Option RrCause → Result B InterfaceFault) → HasOne es RR_CAUSE →
    ((r : Option RrCause) → result_err (next r) ≡ None) → result_err (rr_cause_in es >>= next) ≡ None
unfolding rr_cause_in
rr_then es next one then = rr_then_by (first_of RR_CAUSE es) next one then

layer3_then_by : {B : Type 0} (value : List ℕ) (fault : Option InterfaceFault)
    (next : List ℕ → Result B InterfaceFault) → ((message : List ℕ) → result_err (next message) ≡ None) →
    result_err (layer3_by fault value >>= next) ≡ fault
layer3_then_by value None next then = then value
layer3_then_by value (Some fault) next then = refl

layer3_then : {B : Type 0} (value : List ℕ) (next : List ℕ → Result B InterfaceFault) →
    ((message : List ℕ) → result_err (next message) ≡ None) →
    result_err (layer3_at value >>= next) ≡ first_that_holds (layer3_causes (Some value))
unfolding layer3_at
layer3_then value next then = layer3_then_by value (layer3_fault value) next then

-- ---- each message

cause_err : (es : List Element) → result_err (cause_at es) ≡ first_that_holds (missing es CAUSE ∷ [])
unfolding cause_at
cause_err es = need CAUSE es _ [] (λ value found. refl)

reject_err : (es : List Element) → HasOne es DLCI → result_err (reject_at es) ≡ first_that_holds (element_causes kinds.SapiNReject es)
unfolding reject_at needed_octet
reject_err es one =
    ap result_err (bind_again (needed_value DLCI es) _ _)
    ∙ need DLCI es _ (missing es CAUSE ∷ []) (λ value found. ap result_err (bind_again (octet_at Short value) _ _) ∙ one_then value _ (missing es CAUSE ∷ []) (one value found) (λ p. need CAUSE es _ [] (λ cause there. refl)))

complete_err : (es : List Element) →
    result_err (complete_layer3_at es) ≡ first_that_holds (element_causes kinds.CompleteLayer3Information es)
unfolding complete_layer3_at
complete_err es =
    need CELL_IDENTIFIER es _ (missing es LAYER_3_INFORMATION ∷ layer3_causes (first_of LAYER_3_INFORMATION es))
    (λ cell there. need LAYER_3_INFORMATION es _ (layer3_causes (first_of LAYER_3_INFORMATION es))
    (λ value found. layer3_then value _ (λ message. refl) ∙ ap (λ (o : Option (List ℕ)). first_that_holds (layer3_causes o)) (sym found)))

content_err : (kind : BssmapType) (es : List Element) → HasOne es DLCI → HasOne es RR_CAUSE →
    result_err (content_at kind es) ≡ first_that_holds (element_causes kind es)
unfolding assignment_request_at assignment_complete_at assignment_failure_at handover_performed_at
content_err kinds.AssignmentRequest es dlci rr = need CHANNEL_TYPE es _ [] (λ value found. refl)
content_err kinds.AssignmentComplete es dlci rr = rr_then es _ rr (λ r. refl)
content_err kinds.AssignmentFailure es dlci rr = need CAUSE es _ [] (λ value found. rr_then es _ rr (λ r. refl))
content_err kinds.HandoverPerformed es dlci rr = need CAUSE es _ (missing es CELL_IDENTIFIER ∷ []) (λ value found. need CELL_IDENTIFIER es _ [] (λ cell there. refl))
content_err kinds.ClearCommand es dlci rr = map_err _ (cause_at es) ∙ cause_err es
content_err kinds.ClearComplete es dlci rr = refl
content_err kinds.ClearRequest es dlci rr = map_err _ (cause_at es) ∙ cause_err es
content_err kinds.SapiNReject es dlci rr = reject_err es dlci
content_err kinds.CipherModeCommand es dlci rr = refl
content_err kinds.CompleteLayer3Information es dlci rr = complete_err es
content_err kinds.CipherModeReject es dlci rr = map_err _ (cause_at es) ∙ cause_err es

-- ---- the elements

found_elements : (elements : List ℕ) → AreOctets elements → AreElements ELEMENTS elements (elements_of elements) (breaks_off elements)
unfolding elements_of breaks_off
found_elements elements fits = walk_found ELEMENTS elements fits

has_one : (elements : List ℕ) (id : ℕ) → AreOctets elements → format_in ELEMENTS id ≡ Some (Tv 1) → HasOne (elements_of elements) id
has_one elements id fits listed value found =
    let sized = found_sized ELEMENTS elements (elements_of elements) (breaks_off elements) id value fits (found_elements elements fits) found in
    one_octet sized.fits.format (length value) (sym listed ∙ sized.fits.known) sized.fits.size

whole_err : (kind : BssmapType) (elements : List ℕ) → AreOctets elements →
    result_err (content_at kind (elements_of elements)) ≡ first_that_holds (element_causes kind (elements_of elements))
whole_err kind elements fits = content_err kind (elements_of elements) (has_one elements DLCI fits refl) (has_one elements RR_CAUSE fits refl)

-- ---- BSSMAP

abbrev behind_type : ℕ → List ℕ → Option BssmapType → List ℕ → Result Bssap InterfaceFault
behind_type size rest found elements = ok_or found UnknownType >>= (λ kind. split_at Short size rest >>= (λ body. message_at kind elements >>= (λ message. Ok (Management message))))

abbrev management_by : ℕ → List ℕ → List ℕ → Result Bssap InterfaceFault
management_by size rest front = octet_at Short front >>= (λ first. behind_type size rest (bssmap_type first.0) first.1)

known_by : {P : Type 0} (short is_cut : Bool) (p : P) (r : Result Bssmap InterfaceFault) (causes : Causes) →
    result_err r ≡ first_that_holds causes
    → first_that_holds ((short, Short) ∷ (is_cut, Short) ∷ causes) ≡ result_err (cond short (Err Short) (Ok p) >>= (λ body. cond is_cut (Err Short) r >>= (λ message. Ok (Management message))))
known_by true is_cut p r causes e = refl
known_by false true p r causes e = refl
known_by false false p r causes e = sym e ∙ sym (then_ok (λ message. Management message) r)

type_first : (size octet : ℕ) (rest elements : List ℕ) (found : Option BssmapType) → AreOctets elements →
    take size rest ≡ octet ∷ elements → bssmap_type octet ≡ found
    → FirstFault (MANAGEMENT ∷ size ∷ rest) (result_err (behind_type size rest found elements))
unfolding message_at
type_first size octet rest elements None fits front names = unknown size octet rest elements front names
type_first size octet rest elements (Some kind) fits front names =
    subst (λ (first : Option InterfaceFault). FirstFault (MANAGEMENT ∷ size ∷ rest) first)
    (known_by (ltb (length rest) size) (breaks_off elements) (take size rest, drop size rest) (content_at kind (elements_of elements)) (element_causes kind (elements_of elements)) (whole_err kind elements fits))
    (known size octet rest elements kind (elements_of elements) (breaks_off elements) front names (found_elements elements fits))

front_first : (size : ℕ) (rest front : List ℕ) → AreOctets front → take size rest ≡ front →
    FirstFault (MANAGEMENT ∷ size ∷ rest) (result_err (management_by size rest front))
unfolding octet_at
front_first size rest [] fits is = no_type size rest is
front_first size rest (octet ∷ elements) fits is = type_first size octet rest elements (bssmap_type octet) (λ i. fits (suc i)) is refl

management_first : (octets : List ℕ) → AreOctets octets → FirstFault (MANAGEMENT ∷ octets) (result_err (management_at octets))
unfolding management_at octet_at
management_first [] fits = no_length
management_first (size ∷ rest) fits = front_first size rest (take size rest) (octets_take size rest (λ i. fits (suc i))) refl

-- ---- DTAP

transfer_by : (dlci : ℕ) (is_link short : Bool) (p : List ℕ × List ℕ)
    → first_that_holds ((not is_link, UnknownType) ∷ (short, Short) ∷ layer3_causes (Some p.0))
    ≡ result_err (ok_or (cond is_link (Some dlci) None) UnknownType >>= (λ link. cond short (Err Short) (Ok p) >>= (λ body. layer3_at body.0 >>= (λ message. Ok (Transfer link message)))))
transfer_by dlci false short p = refl
transfer_by dlci true true p = refl
transfer_by dlci true false p = sym (layer3_then p.0 (λ message. Ok (Transfer dlci message)) (λ message. refl))

transfer_first : (octets : List ℕ) → FirstFault (TRANSFER ∷ octets) (result_err (transfer_at octets))
unfolding transfer_at octet_at
transfer_first [] = no_header [] (omega arith)
transfer_first (dlci ∷ []) = no_header (dlci ∷ []) (omega arith)
transfer_first (dlci ∷ size ∷ rest) =
    subst (λ (first : Option InterfaceFault). FirstFault (TRANSFER ∷ dlci ∷ size ∷ rest) first) (transfer_by dlci (is_dlci dlci) (ltb (length rest) size) (take size rest, drop size rest)) (transfer dlci size rest)

-- ---- the octets

first_fault : (octets : List ℕ) → AreOctets octets → FirstFault octets (result_err (bssap_reading octets))
unfolding bssap_reading octet_at
first_fault [] fits = nothing
first_fault (first ∷ rest) fits = elim (cases_eq first MANAGEMENT) [
  | inl same ↦ subst (λ (n : ℕ). FirstFault (n ∷ rest) (result_err (bssap_reading (n ∷ rest)))) (sym same) (management_first rest (λ i. fits (suc i)))
  | inr ne ↦ elim (cases_eq first TRANSFER) [
    | inl same ↦ subst (λ (n : ℕ). FirstFault (n ∷ rest) (result_err (bssap_reading (n ∷ rest)))) (sym same) (transfer_first rest)
    | inr apart ↦ rw (ne_eqb first MANAGEMENT ne, ne_eqb first TRANSFER apart) (other first rest ne apart)
  ]
]

pub refuses_bssap : (octets : List ℕ) (r : Result Bssap InterfaceFault) → AreOctets octets →
    Gives Memory (λ v. v) r (bssap_reading octets) → RefusesBssap octets r
refuses_bssap octets r fits g = record { first = result_err (bssap_reading octets); is_first = first_fault octets fits; refuses = refused_by Memory r (bssap_reading octets) g }
