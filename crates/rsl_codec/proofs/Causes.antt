-- SPDX-License-Identifier: MIT OR Apache-2.0
-- The fault that a reader returns is that of the first cause that holds.
use Rattle.std.proofs.Common.{◌≡◌, ℕ, suc, Bool, true, false, not, cond, eqb, ltb, List, [], ◌∷◌, length, Option, Some, None, Result, Ok, Err, refl, sym, ap, subst, ◌∙◌, arith}
use Rattle.std.specs.Prelude.{is_none}
use Rattle.std.specs.Result.{result_err}
use Rattle.std.proofs.lemmas.Bool.{ne_eqb}
use Rattle.octets.specs.Answer.{◌>>=◌, result_map, Gives}
use Rattle.octets.specs.Causes.{first_that_holds}
use Rattle.octets.specs.Element.{Element, AreOctets, AreElements}
use Rattle.octets.specs.Walk.{first_of}
use Rattle.octets.specs.declared.limits.TheConstants.{MESSAGE_LIMIT}
use Rattle.octets.proofs.Grammar.{walk_found}
use Rattle.octets.proofs.Steps.{refused_by}
use Rattle.rsl_codec.specs.declared.fault.RslFault.{RslFault}
use Rattle.rsl_codec.specs.declared.fault.RslFault.TheVariants.{Short, MissingElement, BadChannel, Memory, TooLong}
use Rattle.rsl_codec.specs.declared.identifiers.TheConstants.{ELEMENTS, ACCESS_DELAY, ACTIVATION_TYPE, CHANNEL_MODE, CHANNEL_NUMBER, FULL_IMMEDIATE_ASSIGN, L3_INFORMATION, LINK_IDENTIFIER, MEASUREMENT_NUMBER, RELEASE_MODE, REQUEST_REFERENCE}
use Rattle.rsl_codec.specs.declared.rsl.Rsl.{Rsl}
use Rattle.rsl_codec.specs.declared.rsl_type.RslType.{RslType}
use Rattle.rsl_codec.specs.declared.rsl_type.RslType.TheVariants as types
use Rattle.rsl_codec.specs.ChannelNumber.{is_channel}
use Rattle.rsl_codec.specs.RslFaults.{lacks, meets, has_value, is_bad_channel, element_causes, FirstFault, RefusesRsl}
use Rattle.rsl_codec.specs.RslFaults.FirstFault.{ends, unknown, known}
use Rattle.rsl_codec.specs.RslReading.{elements_of, breaks_off, needed_value, value_or_missing, channel_at, l3_at, optional_l3_at, channel_only_at, link_at, data_at, error_at, establishment_at, release_at, channel_required_at, assignment_at, activation_at, activation_ack_at, failure_at, detection_at, measurement_result_at, message_at, rsl_reading_by, rsl_reading}
use Rattle.rsl_codec.specs.RslType.{rsl_type}

abbrev Causes : Type 0
Causes = List (Bool × RslFault)

-- ---- steps

map_err : {A B : Type 0} (f : A → B) (r : Result A RslFault) → result_err (result_map f r) ≡ result_err r
map_err f (Ok x) = refl
map_err f (Err fault) = refl

-- an element that is needed, and what is read then
need : {B : Type 0} (id : ℕ) (o : Option (List ℕ)) (next : List ℕ → Result B RslFault) (causes : Causes)
    → ((value : List ℕ) → o ≡ Some value → result_err (next value) ≡ first_that_holds causes) → result_err (value_or_missing id o >>= next) ≡ first_that_holds ((is_none o, MissingElement id) ∷ causes)
need id None next causes then = refl
need id (Some value) next causes then = then value refl

channel_by_test : {B : Type 0} (octet : ℕ) (b : Bool) (next : ℕ → Result B RslFault) (causes : Causes) →
    ((channel : ℕ) → result_err (next channel) ≡ first_that_holds causes)
    → result_err (cond b (Ok octet) (Err BadChannel) >>= next) ≡ cond (not b) (Some BadChannel) (first_that_holds causes)
channel_by_test octet true next causes then = then octet
channel_by_test octet false next causes then = refl

channel_of_value : {B : Type 0} (value : List ℕ) (next : ℕ → Result B RslFault) (causes : Causes) →
    ((channel : ℕ) → result_err (next channel) ≡ first_that_holds causes)
    → result_err (channel_at value >>= next) ≡ first_that_holds ((is_bad_channel value, BadChannel) ∷ causes)
channel_of_value [] next causes then = refl
channel_of_value (octet ∷ value) next causes then = channel_by_test octet (is_channel octet) next causes then

-- the channel of the element that was found
channel : {B : Type 0} (es : List Element) (value : List ℕ) → first_of CHANNEL_NUMBER es ≡ Some value →
    (next : ℕ → Result B RslFault) (causes : Causes)
    → ((channel : ℕ) → result_err (next channel) ≡ first_that_holds causes) → result_err (channel_at value >>= next) ≡ first_that_holds ((has_value is_bad_channel es CHANNEL_NUMBER, BadChannel) ∷ causes)
channel es value found next causes then =
    channel_of_value value next causes then ∙ ap (λ (o : Option (List ℕ)). first_that_holds ((meets is_bad_channel o, BadChannel) ∷ causes)) (sym found)

-- L3 information without octets, or with too many
abbrev causes_of_l3 : Option (List ℕ) → Causes
causes_of_l3 o = (meets (λ l3. eqb (length l3) 0) o, Short) ∷ (meets (λ l3. ltb MESSAGE_LIMIT (length l3)) o, TooLong) ∷ []

l3_by_test : {B : Type 0} (value : List ℕ) (b : Bool) (next : List ℕ → Result B RslFault) → ((l3 : List ℕ) → result_err (next l3) ≡ None)
    → result_err (cond b (Err TooLong) (Ok value) >>= next) ≡ cond b (Some TooLong) None
l3_by_test value true next then = refl
l3_by_test value false next then = then value

l3_of_value : {B : Type 0} (value : List ℕ) (next : List ℕ → Result B RslFault) → ((l3 : List ℕ) → result_err (next l3) ≡ None)
    → result_err (l3_at value >>= next) ≡ first_that_holds (causes_of_l3 (Some value))
l3_of_value [] next then = refl
l3_of_value (x ∷ xs) next then =
    let some : eqb (length (x ∷ xs)) 0 ≡ false = ne_eqb (length (x ∷ xs)) 0 (λ none. omega (arith, none)) in
    l3_by_test (x ∷ xs) (ltb MESSAGE_LIMIT (length (x ∷ xs))) next then
    ∙ ap (λ b. cond b (Some Short) (cond (ltb MESSAGE_LIMIT (length (x ∷ xs))) (Some TooLong) None)) (sym some)

l3 : {B : Type 0} (es : List Element) (value : List ℕ) → first_of L3_INFORMATION es ≡ Some value →
    (next : List ℕ → Result B RslFault) → ((l3 : List ℕ) → result_err (next l3) ≡ None)
    → result_err (l3_at value >>= next) ≡ first_that_holds (causes_of_l3 (first_of L3_INFORMATION es))
l3 es value found next then = l3_of_value value next then ∙ ap (λ (o : Option (List ℕ)). first_that_holds (causes_of_l3 o)) (sym found)

bind_again : {A B C : Type 0} (r : Result A RslFault) (f : A → Result B RslFault) (g : B → Result C RslFault) →
    (r >>= f >>= g) ≡ (r >>= (λ x. f x >>= g))
bind_again (Ok x) f g = refl
bind_again (Err fault) f g = refl

only_channel_by : (octet : ℕ) (b : Bool) → result_err (cond b (Ok octet) (Err BadChannel)) ≡ cond (not b) (Some BadChannel) None
only_channel_by octet true = refl
only_channel_by octet false = refl

only_channel_of : (value : List ℕ) → result_err (channel_at value) ≡ first_that_holds ((is_bad_channel value, BadChannel) ∷ [])
only_channel_of [] = refl
only_channel_of (octet ∷ value) = only_channel_by octet (is_channel octet)

only_channel : (es : List Element) (value : List ℕ) → first_of CHANNEL_NUMBER es ≡ Some value →
    result_err (channel_at value) ≡ first_that_holds ((has_value is_bad_channel es CHANNEL_NUMBER, BadChannel) ∷ [])
only_channel es value found = only_channel_of value ∙ ap (λ (o : Option (List ℕ)). first_that_holds ((meets is_bad_channel o, BadChannel) ∷ [])) (sym found)

optional_l3 : {B : Type 0} (o : Option (List ℕ)) (next : Option (List ℕ) → Result B RslFault) →
    ((l3 : Option (List ℕ)) → result_err (next l3) ≡ None)
    → result_err (optional_l3_at o >>= next) ≡ first_that_holds (causes_of_l3 o)
optional_l3 None next then = then None
optional_l3 (Some value) next then = ap result_err (bind_again (l3_at value) (λ x. Ok (Some x)) next) ∙ l3_of_value value (λ x. next (Some x)) (λ x. then (Some x))

-- ---- messages that need a channel number, and up to two elements more

abbrev missing : List Element → ℕ → Bool × RslFault
missing es id = (lacks es id, MissingElement id)

abbrev bad : List Element → Bool × RslFault
bad es = (has_value is_bad_channel es CHANNEL_NUMBER, BadChannel)

line_of_one : {B : Type 0} (es : List Element) (next : ℕ → Result B RslFault) (causes : Causes) →
    ((channel : ℕ) → result_err (next channel) ≡ first_that_holds causes)
    → result_err (needed_value CHANNEL_NUMBER es >>= (λ number. channel_at number >>= next)) ≡ first_that_holds (missing es CHANNEL_NUMBER ∷ bad es ∷ causes)
line_of_one es next causes then =
    need CHANNEL_NUMBER (first_of CHANNEL_NUMBER es) (λ number. channel_at number >>= next) (bad es ∷ causes) (λ number e. channel es number e next causes then)

line_of_two : {B : Type 0} (es : List Element) (id : ℕ) (next : List ℕ → ℕ → Result B RslFault) (causes : Causes)
    → ((value : List ℕ) → first_of id es ≡ Some value → (channel : ℕ) → result_err (next value channel) ≡ first_that_holds causes)
    → result_err (needed_value CHANNEL_NUMBER es >>= (λ number. needed_value id es >>= (λ value. channel_at number >>= next value))) ≡ first_that_holds (missing es CHANNEL_NUMBER ∷ missing es id ∷ bad es ∷ causes)
line_of_two es id next causes then =
    need CHANNEL_NUMBER (first_of CHANNEL_NUMBER es) (λ number. needed_value id es >>= (λ value. channel_at number >>= next value)) (missing es id ∷ bad es ∷ causes)
    (λ number e. need id (first_of id es) (λ value. channel_at number >>= next value) (bad es ∷ causes) (λ value f. channel es number e (next value) causes (then value f)))

line_of_three : {B : Type 0} (es : List Element) (id other : ℕ) (next : List ℕ → List ℕ → ℕ → Result B RslFault) (causes : Causes)
    → ((value more : List ℕ) → first_of other es ≡ Some more → (channel : ℕ) → result_err (next value more channel) ≡ first_that_holds causes)
    → result_err (needed_value CHANNEL_NUMBER es >>= (λ number. needed_value id es >>= (λ value. needed_value other es >>= (λ more. channel_at number >>= next value more))))
    ≡ first_that_holds (missing es CHANNEL_NUMBER ∷ missing es id ∷ missing es other ∷ bad es ∷ causes)
line_of_three es id other next causes then =
    need CHANNEL_NUMBER (first_of CHANNEL_NUMBER es) (λ number. needed_value id es >>= (λ value. needed_value other es >>= (λ more. channel_at number >>= next value more))) (missing es id ∷ missing es other ∷ bad es ∷ causes)
    (λ number e. need id (first_of id es) (λ value. needed_value other es >>= (λ more. channel_at number >>= next value more)) (missing es other ∷ bad es ∷ causes)
    (λ value f. need other (first_of other es) (λ more. channel_at number >>= next value more) (bad es ∷ causes) (λ more g. channel es number e (next value more) causes (then value more g))))

-- ---- each message

channel_only_err : (es : List Element) → result_err (channel_only_at es) ≡ first_that_holds (element_causes types.RfChannelRelease es)
unfolding channel_only_at
channel_only_err es =
    need CHANNEL_NUMBER (first_of CHANNEL_NUMBER es) channel_at (bad es ∷ []) (λ number e. only_channel es number e)

link_err : (es : List Element) → result_err (link_at es) ≡ first_that_holds (element_causes types.EstablishRequest es)
unfolding link_at
link_err es = line_of_two es LINK_IDENTIFIER _ [] (λ value f channel. refl)

data_err : (es : List Element) → result_err (data_at es) ≡ first_that_holds (element_causes types.DataRequest es)
unfolding data_at
data_err es = line_of_three es LINK_IDENTIFIER L3_INFORMATION _ (causes_of_l3 (first_of L3_INFORMATION es)) (λ link text e channel. l3 es text e _ (λ x. refl))

error_err : (es : List Element) → result_err (error_at es) ≡ first_that_holds (element_causes types.ErrorIndication es)
unfolding error_at
error_err es = line_of_two es LINK_IDENTIFIER _ [] (λ value f channel. refl)

establishment_err : (es : List Element) → result_err (establishment_at es) ≡ first_that_holds (element_causes types.EstablishIndication es)
unfolding establishment_at
establishment_err es = line_of_two es LINK_IDENTIFIER _ (causes_of_l3 (first_of L3_INFORMATION es)) (λ value f channel. optional_l3 (first_of L3_INFORMATION es) _ (λ x. refl))

release_err : (es : List Element) → result_err (release_at es) ≡ first_that_holds (element_causes types.ReleaseRequest es)
unfolding release_at
release_err es = line_of_three es LINK_IDENTIFIER RELEASE_MODE _ [] (λ value more f channel. refl)

channel_required_err : (es : List Element) →
    result_err (channel_required_at es) ≡ first_that_holds (element_causes types.ChannelRequired es)
unfolding channel_required_at
channel_required_err es = line_of_three es REQUEST_REFERENCE ACCESS_DELAY _ [] (λ value more f channel. refl)

assignment_err : (es : List Element) → result_err (assignment_at es) ≡ first_that_holds (element_causes types.ImmediateAssignCommand es)
unfolding assignment_at
assignment_err es = line_of_two es FULL_IMMEDIATE_ASSIGN _ [] (λ value f channel. refl)

activation_err : (es : List Element) → result_err (activation_at es) ≡ first_that_holds (element_causes types.ChannelActivation es)
unfolding activation_at
activation_err es = line_of_three es ACTIVATION_TYPE CHANNEL_MODE _ [] (λ value more f channel. refl)

activation_ack_err : (es : List Element) →
    result_err (activation_ack_at es) ≡ first_that_holds (element_causes types.ChannelActivationAck es)
unfolding activation_ack_at
activation_ack_err es = line_of_one es _ [] (λ channel. refl)

failure_err : (es : List Element) → result_err (failure_at es) ≡ first_that_holds (element_causes types.ConnectionFailure es)
unfolding failure_at
failure_err es = line_of_one es _ [] (λ channel. refl)

detection_err : (es : List Element) → result_err (detection_at es) ≡ first_that_holds (element_causes types.HandoverDetection es)
unfolding detection_at
detection_err es = line_of_one es _ [] (λ channel. refl)

measurement_result_err : (es : List Element) →
    result_err (measurement_result_at es) ≡ first_that_holds (element_causes types.MeasurementResult es)
unfolding measurement_result_at
measurement_result_err es = line_of_two es MEASUREMENT_NUMBER _ (causes_of_l3 (first_of L3_INFORMATION es)) (λ value f channel. optional_l3 (first_of L3_INFORMATION es) _ (λ x. refl))

-- ---- any message

message_err : (kind : RslType) (es : List Element) → result_err (message_at kind es) ≡ first_that_holds (element_causes kind es)
unfolding message_at
message_err types.DataRequest es = map_err _ (data_at es) ∙ data_err es
message_err types.DataIndication es = map_err _ (data_at es) ∙ data_err es
message_err types.ErrorIndication es = map_err _ (error_at es) ∙ error_err es
message_err types.EstablishRequest es = map_err _ (link_at es) ∙ link_err es
message_err types.EstablishConfirm es = map_err _ (link_at es) ∙ link_err es
message_err types.EstablishIndication es = map_err _ (establishment_at es) ∙ establishment_err es
message_err types.ReleaseRequest es = map_err _ (release_at es) ∙ release_err es
message_err types.ReleaseConfirm es = map_err _ (link_at es) ∙ link_err es
message_err types.ReleaseIndication es = map_err _ (link_at es) ∙ link_err es
message_err types.ChannelRequired es = map_err _ (channel_required_at es) ∙ channel_required_err es
message_err types.ImmediateAssignCommand es = map_err _ (assignment_at es) ∙ assignment_err es
message_err types.ChannelActivation es = map_err _ (activation_at es) ∙ activation_err es
message_err types.ChannelActivationAck es = map_err _ (activation_ack_at es) ∙ activation_ack_err es
message_err types.ChannelActivationNack es = map_err _ (failure_at es) ∙ failure_err es
message_err types.ConnectionFailure es = map_err _ (failure_at es) ∙ failure_err es
message_err types.HandoverDetection es = map_err _ (detection_at es) ∙ detection_err es
message_err types.MeasurementResult es = map_err _ (measurement_result_at es) ∙ measurement_result_err es
message_err types.RfChannelRelease es = map_err _ (channel_only_at es) ∙ channel_only_err es
message_err types.RfChannelReleaseAck es = map_err _ (channel_only_at es) ∙ channel_only_err es

-- ---- the octets

found_elements : (body : List ℕ) → AreOctets body → AreElements ELEMENTS body (elements_of body) (breaks_off body)
unfolding elements_of breaks_off
found_elements body fits = walk_found ELEMENTS body fits

cut_first : (is_cut : Bool) (r : Result Rsl RslFault) (causes : Causes) → result_err r ≡ first_that_holds causes →
    first_that_holds ((is_cut, Short) ∷ causes) ≡ result_err (cond is_cut (Err Short) r)
cut_first true r causes e = refl
cut_first false r causes e = sym e

first_by : (discriminator octet : ℕ) (body : List ℕ) (kind : Option RslType) → AreOctets body →
    rsl_type discriminator octet ≡ kind →
    FirstFault (discriminator ∷ octet ∷ body) (result_err (rsl_reading_by kind body))
first_by discriminator octet body None fits names = unknown discriminator octet body names
first_by discriminator octet body (Some kind) fits names =
    subst (λ (first : Option RslFault). FirstFault (discriminator ∷ octet ∷ body) first) (cut_first (breaks_off body) (message_at kind (elements_of body)) (element_causes kind (elements_of body)) (message_err kind (elements_of body)))
    (known discriminator octet body kind (elements_of body) (breaks_off body) names (found_elements body fits))

first_fault : (octets : List ℕ) → AreOctets octets → FirstFault octets (result_err (rsl_reading octets))
unfolding rsl_reading
first_fault [] fits = ends [] (omega arith)
first_fault (a ∷ []) fits = ends (a ∷ []) (omega arith)
first_fault (a ∷ b ∷ body) fits = first_by a b body (rsl_type a b) (λ i. fits (suc (suc i))) refl

pub refuses_rsl : (octets : List ℕ) (r : Result Rsl RslFault) → AreOctets octets →
    Gives Memory (λ v. v) r (rsl_reading octets) → RefusesRsl octets r
refuses_rsl octets r fits g = record { first = result_err (rsl_reading octets); is_first = first_fault octets fits; refuses = refused_by Memory r (rsl_reading octets) g }
