-- SPDX-License-Identifier: MIT OR Apache-2.0
-- Lemmas on the fault of octets that are no text: whether appended octets could make them one.
use Rattle.std.proofs.Common.{◌≡◌, ℕ, zero, suc, ◌<◌, ◌≤◌, Bool, true, false, cond, ltb, List, [], ◌∷◌, ◌++◌, length, replicate, Option, Some, None, Result, Ok, Err, refl, sym, ap, subst, ◌∙◌, arith, eq-eqb, inl, inr, append-nil}
use Rattle.std.specs.Prelude.{IfErr, IsOk}
use Rattle.std.proofs.lemmas.Bool.{cases_eq, ne_eqb, le-ltb}
use Rattle.std.proofs.lemmas.List.{length-append}
use Rattle.octets.specs.Answer.{◌>>=◌, Gives}
use Rattle.octets.specs.Element.{AreOctets}
use Rattle.octets.specs.Front.{octet_at}
use Rattle.dtap_codec.specs.declared.message.TheConstants.{RADIO_RESOURCE}
use Rattle.dtap_codec.specs.declared.report.TheConstants.{REPORT_LENGTH}
use Rattle.dtap_codec.specs.declared.rr.RrMessage.{RrMessage}
use Rattle.dtap_codec.specs.declared.rr.TheConstants.{IMMEDIATE_END_LENGTH}
use Rattle.dtap_codec.specs.declared.rr_fault.RrFault.{RrFault}
use Rattle.dtap_codec.specs.declared.rr_fault.RrFault.TheVariants.{Memory, Short, UnknownRr}
use Rattle.dtap_codec.specs.declared.rr_type.RrType.{RrType}
use Rattle.dtap_codec.specs.declared.rr_type.RrType.TheVariants as types
use Rattle.dtap_codec.specs.declared.rr_type.TheConstants.{PSEUDO_LENGTH, IMMEDIATE_ASSIGNMENT}
use Rattle.dtap_codec.specs.RrFaults.{IsText, HasFault}
use Rattle.dtap_codec.specs.RrReading.{three_at, handover_command_at, assignment_command_at, cause_at, immediate_assignment_at, measurement_report_at, content_at, known_type, typed_at, pseudo_at, rr_reading}
use Rattle.dtap_codec.specs.RrType.{rr_octet, rr_type}
use Rattle.dtap_codec.proofs.RrGrammar.{rr_again, rr_ok}

-- ---- octets that are put behind others

octets_one : (x : ℕ) (xs : List ℕ) → x < 256 → AreOctets xs → AreOctets (x ∷ xs)
octets_one x xs h fits zero = h
octets_one x xs h fits (suc i) = fits i

octets_zeros : (n : ℕ) → AreOctets (replicate n 0)
octets_zeros zero = λ i. omega arith
octets_zeros (suc n) = octets_one 0 (replicate n 0) (omega arith) (octets_zeros n)

octets_both : (xs ys : List ℕ) → AreOctets xs → AreOctets ys → AreOctets (xs ++ ys)
octets_both [] ys fits behind = behind
octets_both (x ∷ xs) ys fits behind = octets_one x (xs ++ ys) (fits 0) (octets_both xs ys (λ i. fits (suc i)) behind)

-- ---- what a reader says of octets

-- Short: octets behind let them be read. UnknownRr: none do.
abbrev IsRightFault : (List ℕ → Result RrMessage RrFault) → List ℕ → Result RrMessage RrFault → Type 0
IsRightFault f octets (Ok message) = Unit {0}
IsRightFault f octets (Err Memory) = ⊥
IsRightFault f octets (Err Short) = (behind : List ℕ) × AreOctets behind × IsOk (f (octets ++ behind))
IsRightFault f octets (Err UnknownRr) = (behind : List ℕ) → f (octets ++ behind) ≡ Err UnknownRr

-- a reader that continues as another one
lift_by : (f g : List ℕ → Result RrMessage RrFault) (xs ys : List ℕ) (r : Result RrMessage RrFault) →
    ((behind : List ℕ) → g (ys ++ behind) ≡ f (xs ++ behind)) → IsRightFault f xs r → IsRightFault g ys r
lift_by f g xs ys (Ok message) same t = tt
lift_by f g xs ys (Err Memory) same t = t
lift_by f g xs ys (Err Short) same t = (t.0, t.1, subst (λ (r : Result RrMessage RrFault). IsOk r) (sym (same t.0)) t.2)
lift_by f g xs ys (Err UnknownRr) same t = λ behind. same behind ∙ t behind

at_end : (f g : List ℕ → Result RrMessage RrFault) (xs ys : List ℕ) →
    ((behind : List ℕ) → g (ys ++ behind) ≡ f (xs ++ behind)) → f xs ≡ g ys
at_end f g xs ys same = ap f (sym (append-nil xs)) ∙ sym (same []) ∙ ap g (append-nil ys)

lifted : (f g : List ℕ → Result RrMessage RrFault) (xs ys : List ℕ) →
    ((behind : List ℕ) → g (ys ++ behind) ≡ f (xs ++ behind)) → IsRightFault f xs (f xs) → IsRightFault g ys (g ys)
lifted f g xs ys same t = subst (λ (r : Result RrMessage RrFault). IsRightFault g ys r) (at_end f g xs ys same) (lift_by f g xs ys (f xs) same t)

refused_always : (f : List ℕ → Result RrMessage RrFault) (xs : List ℕ) →
    ((behind : List ℕ) → f (xs ++ behind) ≡ Err UnknownRr) → IsRightFault f xs (f xs)
refused_always f xs all = subst (λ (r : Result RrMessage RrFault). IsRightFault f xs r) (sym (ap f (sym (append-nil xs)) ∙ all [])) all

-- ---- each reader

-- behind its type every message has enough octets with these
abbrev twenty : List ℕ
twenty = replicate 20 0

twenty_are : AreOctets twenty
twenty_are = octets_zeros 20

handover_faults : (octets : List ℕ) → IsRightFault handover_command_at octets (handover_command_at octets)
unfolding handover_command_at three_at octet_at
handover_faults [] = (twenty, twenty_are, refl)
handover_faults (a ∷ []) = (twenty, twenty_are, refl)
handover_faults (a ∷ b ∷ []) = (twenty, twenty_are, refl)
handover_faults (a ∷ b ∷ c ∷ []) = (twenty, twenty_are, refl)
handover_faults (a ∷ b ∷ c ∷ d ∷ []) = (twenty, twenty_are, refl)
handover_faults (a ∷ b ∷ c ∷ d ∷ e ∷ []) = (twenty, twenty_are, refl)
handover_faults (a ∷ b ∷ c ∷ d ∷ e ∷ f ∷ []) = (twenty, twenty_are, refl)
handover_faults (a ∷ b ∷ c ∷ d ∷ e ∷ f ∷ g ∷ rest) = tt

assignment_faults : (octets : List ℕ) → IsRightFault assignment_command_at octets (assignment_command_at octets)
unfolding assignment_command_at three_at octet_at
assignment_faults [] = (twenty, twenty_are, refl)
assignment_faults (a ∷ []) = (twenty, twenty_are, refl)
assignment_faults (a ∷ b ∷ []) = (twenty, twenty_are, refl)
assignment_faults (a ∷ b ∷ c ∷ []) = (twenty, twenty_are, refl)
assignment_faults (a ∷ b ∷ c ∷ d ∷ rest) = tt

-- as many octets as are split off are there, or more behind them are
report_by : (octets : List ℕ) (b : Bool) → ltb (length octets) REPORT_LENGTH ≡ b →
    IsRightFault measurement_report_at octets (measurement_report_at octets)
unfolding measurement_report_at
report_by octets true e =
    let long : REPORT_LENGTH ≤ length (octets ++ twenty) = omega (arith, length-append octets (twenty)) in
    rw e (twenty, twenty_are, rw (le-ltb (length (octets ++ twenty)) REPORT_LENGTH long) refl)
report_by octets false e = rw e tt

report_faults : (octets : List ℕ) → IsRightFault measurement_report_at octets (measurement_report_at octets)
report_faults octets = report_by octets (ltb (length octets) REPORT_LENGTH) refl

immediate_by : (a b c d e f g h : ℕ) (last : List ℕ) (short : Bool) → ltb (length last) IMMEDIATE_END_LENGTH ≡ short
    → IsRightFault immediate_assignment_at (a ∷ b ∷ c ∷ d ∷ e ∷ f ∷ g ∷ h ∷ last) (immediate_assignment_at (a ∷ b ∷ c ∷ d ∷ e ∷ f ∷ g ∷ h ∷ last))
unfolding immediate_assignment_at three_at octet_at
immediate_by a b c d e f g h last true is =
    let long : IMMEDIATE_END_LENGTH ≤ length (last ++ twenty) = omega (arith, length-append last (twenty)) in
    rw is (twenty, twenty_are, rw (le-ltb (length (last ++ twenty)) IMMEDIATE_END_LENGTH long) refl)
immediate_by a b c d e f g h last false is = rw is tt

immediate_faults : (octets : List ℕ) → IsRightFault immediate_assignment_at octets (immediate_assignment_at octets)
unfolding immediate_assignment_at three_at octet_at
immediate_faults [] = (twenty, twenty_are, refl)
immediate_faults (a ∷ []) = (twenty, twenty_are, refl)
immediate_faults (a ∷ b ∷ []) = (twenty, twenty_are, refl)
immediate_faults (a ∷ b ∷ c ∷ []) = (twenty, twenty_are, refl)
immediate_faults (a ∷ b ∷ c ∷ d ∷ []) = (twenty, twenty_are, refl)
immediate_faults (a ∷ b ∷ c ∷ d ∷ e ∷ []) = (twenty, twenty_are, refl)
immediate_faults (a ∷ b ∷ c ∷ d ∷ e ∷ f ∷ []) = (twenty, twenty_are, refl)
immediate_faults (a ∷ b ∷ c ∷ d ∷ e ∷ f ∷ g ∷ []) = (twenty, twenty_are, refl)
immediate_faults (a ∷ b ∷ c ∷ d ∷ e ∷ f ∷ g ∷ h ∷ last) = immediate_by a b c d e f g h last (ltb (length last) IMMEDIATE_END_LENGTH) refl

content_faults : (kind : RrType) (octets : List ℕ) → IsRightFault (content_at kind) octets (content_at kind octets)
unfolding cause_at octet_at
content_faults types.HandoverCommand octets = handover_faults octets
content_faults types.AssignmentCommand octets = assignment_faults octets
content_faults types.HandoverComplete [] = (twenty, twenty_are, refl)
content_faults types.HandoverComplete (x ∷ rest) = tt
content_faults types.HandoverFailure [] = (twenty, twenty_are, refl)
content_faults types.HandoverFailure (x ∷ rest) = tt
content_faults types.AssignmentComplete [] = (twenty, twenty_are, refl)
content_faults types.AssignmentComplete (x ∷ rest) = tt
content_faults types.AssignmentFailure [] = (twenty, twenty_are, refl)
content_faults types.AssignmentFailure (x ∷ rest) = tt
content_faults types.ChannelRelease [] = (twenty, twenty_are, refl)
content_faults types.ChannelRelease (x ∷ rest) = tt
content_faults types.ImmediateAssignment octets = λ behind. refl
content_faults types.MeasurementReport octets = report_faults octets
content_faults types.PagingResponse octets = tt

typed_by : (octet : ℕ) (rest : List ℕ) (found : Option RrType) → rr_type octet ≡ found →
    IsRightFault typed_at (octet ∷ rest) (typed_at (octet ∷ rest))
unfolding typed_at octet_at
typed_by octet rest None e = refused_always typed_at (octet ∷ rest) (λ behind. ap (λ (k : Option RrType). known_type k >>= (λ kind. content_at kind (rest ++ behind))) e)
typed_by octet rest (Some kind) e =
    lifted (content_at kind) typed_at rest (octet ∷ rest) (λ behind. ap (λ (k : Option RrType). known_type k >>= (λ kind. content_at kind (rest ++ behind))) e) (content_faults kind rest)

typed_faults : (octets : List ℕ) → IsRightFault typed_at octets (typed_at octets)
unfolding typed_at octet_at rr_type
typed_faults [] = (rr_octet types.PagingResponse ∷ [], octets_one (rr_octet types.PagingResponse) [] (omega arith) (octets_zeros 0), refl)
typed_faults (octet ∷ rest) = typed_by octet rest (rr_type octet) refl

behind_discriminator : (octets : List ℕ) → IsRightFault pseudo_at (RADIO_RESOURCE ∷ octets) (pseudo_at (RADIO_RESOURCE ∷ octets))
unfolding pseudo_at octet_at immediate_assignment_at three_at
behind_discriminator [] = (IMMEDIATE_ASSIGNMENT ∷ twenty, octets_one IMMEDIATE_ASSIGNMENT (twenty) (omega arith) (twenty_are), refl)
behind_discriminator (kind ∷ rest) = elim (cases_eq kind IMMEDIATE_ASSIGNMENT) [
  | inl same ↦ lifted immediate_assignment_at pseudo_at rest (RADIO_RESOURCE ∷ kind ∷ rest)
      (λ behind. ap (λ b. cond b (immediate_assignment_at (rest ++ behind)) (Err UnknownRr)) (eq-eqb kind IMMEDIATE_ASSIGNMENT same)) (immediate_faults rest)
  | inr ne ↦ refused_always pseudo_at (RADIO_RESOURCE ∷ kind ∷ rest) (λ behind. ap (λ b. cond b (immediate_assignment_at (rest ++ behind)) (Err UnknownRr)) (ne_eqb kind IMMEDIATE_ASSIGNMENT ne))
]

pseudo_faults : (octets : List ℕ) → IsRightFault pseudo_at octets (pseudo_at octets)
unfolding pseudo_at octet_at immediate_assignment_at three_at
pseudo_faults [] = (RADIO_RESOURCE ∷ IMMEDIATE_ASSIGNMENT ∷ twenty, octets_one RADIO_RESOURCE (IMMEDIATE_ASSIGNMENT ∷ twenty) (omega arith) (octets_one IMMEDIATE_ASSIGNMENT (twenty) (omega arith) (twenty_are)), refl)
pseudo_faults (first ∷ rest) = elim (cases_eq first RADIO_RESOURCE) [
  | inl same ↦ subst (λ (n : ℕ). IsRightFault pseudo_at (n ∷ rest) (pseudo_at (n ∷ rest))) (sym same) (behind_discriminator rest)
  | inr ne ↦ refused_always pseudo_at (first ∷ rest) (λ behind. rw (ne_eqb first RADIO_RESOURCE ne) refl)
]

plain_faults : (octets : List ℕ) → IsRightFault rr_reading (RADIO_RESOURCE ∷ octets) (rr_reading (RADIO_RESOURCE ∷ octets))
unfolding rr_reading octet_at
plain_faults octets = lifted typed_at rr_reading octets (RADIO_RESOURCE ∷ octets) (λ behind. refl) (typed_faults octets)

reading_faults : (octets : List ℕ) → IsRightFault rr_reading octets (rr_reading octets)
unfolding rr_reading octet_at typed_at rr_type
reading_faults [] = (RADIO_RESOURCE ∷ rr_octet types.PagingResponse ∷ [], octets_one RADIO_RESOURCE (rr_octet types.PagingResponse ∷ []) (omega arith) (octets_one (rr_octet types.PagingResponse) [] (omega arith) (octets_zeros 0)), refl)
reading_faults (first ∷ rest) = elim (cases_eq first PSEUDO_LENGTH) [
  | inl same ↦ subst (λ (n : ℕ). IsRightFault rr_reading (n ∷ rest) (rr_reading (n ∷ rest))) (sym same) (lifted pseudo_at rr_reading rest (PSEUDO_LENGTH ∷ rest) (λ behind. refl) (pseudo_faults rest))
  | inr other ↦ elim (cases_eq first RADIO_RESOURCE) [
    | inl same ↦ subst (λ (n : ℕ). IsRightFault rr_reading (n ∷ rest) (rr_reading (n ∷ rest))) (sym same) (plain_faults rest)
    | inr ne ↦ refused_always rr_reading (first ∷ rest) (λ behind. rw (ne_eqb first PSEUDO_LENGTH other, ne_eqb first RADIO_RESOURCE ne) refl)
  ]
]

-- ---- the fault, by the grammar

ok_of : (r : Result RrMessage RrFault) → IsOk r → (message : RrMessage) × (r ≡ Ok message)
ok_of (Ok message) h = (message, refl)
ok_of (Err fault) h = absurd cc

is_text : (octets : List ℕ) → AreOctets octets → IsOk (rr_reading octets) → IsText octets
is_text octets fits h =
    let read = ok_of (rr_reading octets) h in
    record { message = read.0; text = rr_ok octets read.0 fits read.1 }

not_text : (octets : List ℕ) (fault : RrFault) → rr_reading octets ≡ Err fault → IsText octets → ⊥
not_text octets fault e t = absurd (cc (e, rr_again octets t.message t.text))

fault_is_right : (octets : List ℕ) (fault : RrFault) → AreOctets octets → rr_reading octets ≡ Err fault →
    IsRightFault rr_reading octets (Err fault) → HasFault octets fault
fault_is_right octets Memory fits e t = absurd t
fault_is_right octets Short fits e t = (
  not_text octets Short e,
  record { behind = t.0; are = t.1; whole = is_text (octets ++ t.0) (octets_both octets t.0 fits t.1) t.2 },
)
fault_is_right octets UnknownRr fits e t = λ begins. not_text (octets ++ begins.behind) UnknownRr (t begins.behind) begins.whole

has_fault : (octets : List ℕ) (fault : RrFault) → AreOctets octets → rr_reading octets ≡ Err fault → HasFault octets fault
has_fault octets fault fits e = fault_is_right octets fault fits e (subst (λ (r : Result RrMessage RrFault). IsRightFault rr_reading octets r) e (reading_faults octets))

pub fault_by : (octets : List ℕ) (r : Result RrMessage RrFault) → AreOctets octets →
    Gives Memory (λ v. v) r (rr_reading octets) → IfErr r (λ fault. HasFault octets fault)
fault_by octets (Ok message) fits g = tt
fault_by octets (Err fault) fits (inl g) = has_fault octets fault fits g
fault_by octets (Err fault) fits (inr g) = subst (λ (f : RrFault). HasFault octets f) (sym g.0) (is_text octets fits g.1)
