-- SPDX-License-Identifier: MIT OR Apache-2.0
-- Octets that are read as a message are a text of it, such a text is read as it, and written octets
-- are such a text.
use Rattle.std.proofs.Common.{◌≡◌, ℕ, suc, ◌≤◌, Bool, true, false, cond, ◌||◌, List, [], ◌∷◌, ◌++◌, length, Option, Some, None, Ok, Err, option_map, refl, sym, ap, subst, ◌∙◌, arith}
use Rattle.std.proofs.lemmas.Bool.{ltb-false}
use Rattle.octets.specs.declared.element.Format.TheVariants.{Tv, Tlv, TlvE}
use Rattle.octets.specs.Element.{Element, AreElements, AreOctets, Stops, format_in}
use Rattle.octets.specs.Field.{AllFit, Field, FitsIfPresent, are_distinct, field_text, fields_text}
use Rattle.octets.specs.Walk.{Finding, walk}
use Rattle.octets.proofs.Fields.{elements_of as elements_made, fields_are, fields_carried, found_sized}
use Rattle.octets.specs.Answer.{result_map}
use Rattle.octets.proofs.Steps.{guard, result_map_ok}
use Rattle.octets.proofs.Grammar.{walk_found, walk_only}
use Rattle.rsl_codec.specs.declared.fault.RslFault.{RslFault}
use Rattle.rsl_codec.specs.declared.fault.RslFault.TheVariants as faults
use Rattle.rsl_codec.specs.declared.rsl_type.RslType.{RslType}
use Rattle.rsl_codec.specs.declared.rsl_type.RslType.TheVariants as types
use Rattle.rsl_codec.specs.declared.identifiers.TheConstants.{ELEMENTS, ACCESS_DELAY, ACTIVATION_TYPE, BS_POWER, CAUSE, CHANNEL_MODE, CHANNEL_NUMBER, FRAME_NUMBER, FULL_IMMEDIATE_ASSIGN, HANDOVER_REFERENCE, L1_INFORMATION, L3_INFORMATION, LINK_IDENTIFIER, MEASUREMENT_NUMBER, RELEASE_MODE, RLM_CAUSE, UPLINK_MEASUREMENTS}
use Rattle.octets.specs.declared.limits.TheConstants.{MESSAGE_LIMIT, LENGTH_LIMIT}
use Rattle.rsl_codec.specs.declared.rsl.Rsl.{Rsl}
use Rattle.rsl_codec.specs.declared.rsl.Rsl.TheVariants as messages
use Rattle.rsl_codec.specs.Fields.{octet_value, number_value}
use Rattle.rsl_codec.specs.RslType.{rsl_discriminator, rsl_octet, rsl_type, type_of}
use Rattle.rsl_codec.specs.RslReading.{breaks_off, elements_of, message_at, rsl_reading, rsl_reading_by, link_at, data_at, error_at, establishment_at, release_at, channel_required_at, assignment_at, activation_at, activation_ack_at, failure_at, detection_at, measurement_result_at, channel_only_at}
use Rattle.rsl_codec.specs.Rsl.{IsL3, IsLawful, IsRsl, channel_of, fields, l3_of}
use Rattle.rsl_codec.specs.RslText.{is_empty, is_over, rsl_element_text, rsl_field_text, rsl_fields_text, rsl_text, rsl_write_fault, value_of}
use Rattle.rsl_codec.proofs.Steps.{AreSized}
use Rattle.rsl_codec.proofs.Lines.{Reads, channel_only_ok, channel_only_again, link_ok, link_again, data_ok, data_again, error_ok, error_again, establishment_ok, establishment_again, release_ok, release_again, channel_required_ok, channel_required_again, assignment_ok, assignment_again, activation_ok, activation_again, activation_ack_ok, activation_ack_again, failure_ok, failure_again, detection_ok, detection_again, measurement_result_ok, measurement_result_again}

-- ---- a message of each kind

-- the elements are those of this message, whose kind this is
pub record IsMessage (kind : RslType) (es : List Element) (v : Rsl) : Type 0 where
  pub of_kind : type_of v ≡ kind
  pub reads : Reads es (fields v) (channel_of v) (l3_of v)

message_ok : (kind : RslType) (es : List Element) → AreSized es → (v : Rsl) → message_at kind es ≡ Ok v → IsMessage kind es v
unfolding message_at
message_ok types.DataRequest es all v h = let m = result_map_ok (λ x. messages.DataRequest x) (data_at es) v h in subst (IsMessage types.DataRequest es) m.2 (record { of_kind = refl; reads = data_ok es all m.0 m.1 })
message_ok types.DataIndication es all v h = let m = result_map_ok (λ x. messages.DataIndication x) (data_at es) v h in subst (IsMessage types.DataIndication es) m.2 (record { of_kind = refl; reads = data_ok es all m.0 m.1 })
message_ok types.ErrorIndication es all v h = let m = result_map_ok (λ x. messages.ErrorIndication x) (error_at es) v h in subst (IsMessage types.ErrorIndication es) m.2 (record { of_kind = refl; reads = error_ok es all m.0 m.1 })
message_ok types.EstablishRequest es all v h = let m = result_map_ok (λ x. messages.EstablishRequest x) (link_at es) v h in subst (IsMessage types.EstablishRequest es) m.2 (record { of_kind = refl; reads = link_ok es all m.0 m.1 })
message_ok types.EstablishConfirm es all v h = let m = result_map_ok (λ x. messages.EstablishConfirm x) (link_at es) v h in subst (IsMessage types.EstablishConfirm es) m.2 (record { of_kind = refl; reads = link_ok es all m.0 m.1 })
message_ok types.EstablishIndication es all v h = let m = result_map_ok (λ x. messages.EstablishIndication x) (establishment_at es) v h in subst (IsMessage types.EstablishIndication es) m.2 (record { of_kind = refl; reads = establishment_ok es all m.0 m.1 })
message_ok types.ReleaseRequest es all v h = let m = result_map_ok (λ x. messages.ReleaseRequest x) (release_at es) v h in subst (IsMessage types.ReleaseRequest es) m.2 (record { of_kind = refl; reads = release_ok es all m.0 m.1 })
message_ok types.ReleaseConfirm es all v h = let m = result_map_ok (λ x. messages.ReleaseConfirm x) (link_at es) v h in subst (IsMessage types.ReleaseConfirm es) m.2 (record { of_kind = refl; reads = link_ok es all m.0 m.1 })
message_ok types.ReleaseIndication es all v h = let m = result_map_ok (λ x. messages.ReleaseIndication x) (link_at es) v h in subst (IsMessage types.ReleaseIndication es) m.2 (record { of_kind = refl; reads = link_ok es all m.0 m.1 })
message_ok types.ChannelRequired es all v h = let m = result_map_ok (λ x. messages.ChannelRequired x) (channel_required_at es) v h in subst (IsMessage types.ChannelRequired es) m.2 (record { of_kind = refl; reads = channel_required_ok es all m.0 m.1 })
message_ok types.ImmediateAssignCommand es all v h = let m = result_map_ok (λ x. messages.ImmediateAssignCommand x) (assignment_at es) v h in subst (IsMessage types.ImmediateAssignCommand es) m.2 (record { of_kind = refl; reads = assignment_ok es all m.0 m.1 })
message_ok types.ChannelActivation es all v h = let m = result_map_ok (λ x. messages.ChannelActivation x) (activation_at es) v h in subst (IsMessage types.ChannelActivation es) m.2 (record { of_kind = refl; reads = activation_ok es all m.0 m.1 })
message_ok types.ChannelActivationAck es all v h = let m = result_map_ok (λ x. messages.ChannelActivationAck x) (activation_ack_at es) v h in subst (IsMessage types.ChannelActivationAck es) m.2 (record { of_kind = refl; reads = activation_ack_ok es all m.0 m.1 })
message_ok types.ChannelActivationNack es all v h = let m = result_map_ok (λ x. messages.ChannelActivationNack x) (failure_at es) v h in subst (IsMessage types.ChannelActivationNack es) m.2 (record { of_kind = refl; reads = failure_ok es all m.0 m.1 })
message_ok types.ConnectionFailure es all v h = let m = result_map_ok (λ x. messages.ConnectionFailure x) (failure_at es) v h in subst (IsMessage types.ConnectionFailure es) m.2 (record { of_kind = refl; reads = failure_ok es all m.0 m.1 })
message_ok types.HandoverDetection es all v h = let m = result_map_ok (λ x. messages.HandoverDetection x) (detection_at es) v h in subst (IsMessage types.HandoverDetection es) m.2 (record { of_kind = refl; reads = detection_ok es all m.0 m.1 })
message_ok types.MeasurementResult es all v h = let m = result_map_ok (λ x. messages.MeasurementResult x) (measurement_result_at es) v h in subst (IsMessage types.MeasurementResult es) m.2 (record { of_kind = refl; reads = measurement_result_ok es all m.0 m.1 })
message_ok types.RfChannelRelease es all v h = let m = result_map_ok (λ x. messages.RfChannelRelease x) (channel_only_at es) v h in subst (IsMessage types.RfChannelRelease es) m.2 (record { of_kind = refl; reads = channel_only_ok es all m.0 m.1 })
message_ok types.RfChannelReleaseAck es all v h = let m = result_map_ok (λ x. messages.RfChannelReleaseAck x) (channel_only_at es) v h in subst (IsMessage types.RfChannelReleaseAck es) m.2 (record { of_kind = refl; reads = channel_only_ok es all m.0 m.1 })

message_again : (v : Rsl) (es : List Element) → Reads es (fields v) (channel_of v) (l3_of v) → message_at (type_of v) es ≡ Ok v
unfolding message_at
message_again (messages.DataRequest m) es r = ap (result_map {F = RslFault} (λ x. messages.DataRequest x)) (data_again es m r)
message_again (messages.DataIndication m) es r = ap (result_map {F = RslFault} (λ x. messages.DataIndication x)) (data_again es m r)
message_again (messages.ErrorIndication m) es r = ap (result_map {F = RslFault} (λ x. messages.ErrorIndication x)) (error_again es m r)
message_again (messages.EstablishRequest m) es r = ap (result_map {F = RslFault} (λ x. messages.EstablishRequest x)) (link_again es m r)
message_again (messages.EstablishConfirm m) es r = ap (result_map {F = RslFault} (λ x. messages.EstablishConfirm x)) (link_again es m r)
message_again (messages.EstablishIndication m) es r = ap (result_map {F = RslFault} (λ x. messages.EstablishIndication x)) (establishment_again es m r)
message_again (messages.ReleaseRequest m) es r = ap (result_map {F = RslFault} (λ x. messages.ReleaseRequest x)) (release_again es m r)
message_again (messages.ReleaseConfirm m) es r = ap (result_map {F = RslFault} (λ x. messages.ReleaseConfirm x)) (link_again es m r)
message_again (messages.ReleaseIndication m) es r = ap (result_map {F = RslFault} (λ x. messages.ReleaseIndication x)) (link_again es m r)
message_again (messages.ChannelRequired m) es r = ap (result_map {F = RslFault} (λ x. messages.ChannelRequired x)) (channel_required_again es m r)
message_again (messages.ImmediateAssignCommand m) es r = ap (result_map {F = RslFault} (λ x. messages.ImmediateAssignCommand x)) (assignment_again es m r)
message_again (messages.ChannelActivation m) es r = ap (result_map {F = RslFault} (λ x. messages.ChannelActivation x)) (activation_again es m r)
message_again (messages.ChannelActivationAck m) es r = ap (result_map {F = RslFault} (λ x. messages.ChannelActivationAck x)) (activation_ack_again es m r)
message_again (messages.ChannelActivationNack m) es r = ap (result_map {F = RslFault} (λ x. messages.ChannelActivationNack x)) (failure_again es m r)
message_again (messages.ConnectionFailure m) es r = ap (result_map {F = RslFault} (λ x. messages.ConnectionFailure x)) (failure_again es m r)
message_again (messages.HandoverDetection m) es r = ap (result_map {F = RslFault} (λ x. messages.HandoverDetection x)) (detection_again es m r)
message_again (messages.MeasurementResult m) es r = ap (result_map {F = RslFault} (λ x. messages.MeasurementResult x)) (measurement_result_again es m r)
message_again (messages.RfChannelRelease m) es r = ap (result_map {F = RslFault} (λ x. messages.RfChannelRelease x)) (channel_only_again es m r)
message_again (messages.RfChannelReleaseAck m) es r = ap (result_map {F = RslFault} (λ x. messages.RfChannelReleaseAck x)) (channel_only_again es m r)

-- ---- the octets

sized_all : (body : List ℕ) → AreOctets body → AreSized (elements_of body)
unfolding elements_of
sized_all body fits id v found = found_sized ELEMENTS body (walk ELEMENTS body).elements (walk ELEMENTS body).is_cut id v fits (walk_found ELEMENTS body fits) found

pub whole_elements : (body : List ℕ) → AreOctets body → breaks_off body ≡ false → AreElements ELEMENTS body (elements_of body) false
unfolding breaks_off elements_of
whole_elements body fits whole = subst (AreElements ELEMENTS body (walk ELEMENTS body).elements) whole (walk_found ELEMENTS body fits)

elements_only : (body : List ℕ) (es : List Element) → AreElements ELEMENTS body es false →
    (elements_of body ≡ es) × (breaks_off body ≡ false)
unfolding breaks_off elements_of
elements_only body es are =
    let is = walk_only ELEMENTS body es false are in
    (ap (λ (w : Finding). w.elements) is, ap (λ (w : Finding). w.is_cut) is)

text_by : (discriminator octet : ℕ) (kind : Option RslType) (body : List ℕ) (v : Rsl) → AreOctets body →
    rsl_type discriminator octet ≡ kind → rsl_reading_by kind body ≡ Ok v → IsRsl (discriminator ∷ octet ∷ body) v
text_by discriminator octet None body v fits names e = absurd cc
text_by discriminator octet (Some kind) body v fits names e =
    let whole = guard {A = Rsl} {F = RslFault} (breaks_off body) faults.Short (message_at kind (elements_of body)) v e in
    let is = message_ok kind (elements_of body) (sized_all body fits) v whole.1 in
    record {
      discriminator = discriminator;
      octet = octet;
      body = body;
      es = elements_of body;
      is = refl;
      names = names ∙ ap (λ (k : RslType). Some k) (sym is.of_kind);
      are = whole_elements body fits whole.0;
      carries = is.reads.carries;
      lawful = (is.reads.on_channel, is.reads.has_l3);
    }

-- what is read is a message that the octets are a text of
pub read_is_text : (octets : List ℕ) (v : Rsl) → AreOctets octets → rsl_reading octets ≡ Ok v → IsRsl octets v
unfolding rsl_reading
read_is_text [] v fits e = absurd cc
read_is_text (a ∷ []) v fits e = absurd cc
read_is_text (a ∷ b ∷ body) v fits e = text_by a b (rsl_type a b) body v (λ i. fits (suc (suc i))) refl e

-- a text of a message is read as it
pub text_is_read : (octets : List ℕ) (v : Rsl) → IsRsl octets v → rsl_reading octets ≡ Ok v
unfolding rsl_reading
text_is_read octets v t =
    let only = elements_only t.body t.es t.are in
    let again : message_at (type_of v) (elements_of t.body) ≡ Ok v =
    ap (message_at (type_of v)) only.0 ∙ message_again v t.es (record { carries = t.carries; on_channel = t.lawful.0; has_l3 = t.lawful.1 }) in
    ap rsl_reading t.is ∙ ap (λ (k : Option RslType). rsl_reading_by k t.body) t.names
    ∙ ap (λ (b : Bool). cond b (Err faults.Short) (message_at (type_of v) (elements_of t.body))) only.1 ∙ again

-- ---- the written text

text_of_field : (id : ℕ) (value : Option (List ℕ)) → rsl_field_text id value ≡ field_text ELEMENTS id value
unfolding rsl_element_text
text_of_field id None = refl
text_of_field id (Some value) = refl

text_of_fields : (fs : List Field) → rsl_fields_text fs ≡ fields_text ELEMENTS fs
text_of_fields [] = refl
text_of_fields (f ∷ fs) = ap (λ (xs : List ℕ). rsl_field_text f.id f.value ++ xs) (text_of_fields fs) ∙ ap (λ (xs : List ℕ). xs ++ fields_text ELEMENTS fs) (text_of_field f.id f.value)

-- the value of an element that may be long fits its length
HasShort : Option (List ℕ) → Type 0
HasShort None = Unit {0}
HasShort (Some value) = length value ≤ LENGTH_LIMIT

over_none : (most : ℕ) (value : List ℕ) → is_over most (Some value) ≡ false → length value ≤ most
over_none most value e = ltb-false most (length value) e

short_of : (o : Option (List ℕ)) → is_over LENGTH_LIMIT o ≡ false → HasShort o
unfolding HasShort
short_of None e = tt
short_of (Some value) e = over_none LENGTH_LIMIT value e

fault_by : (empty over long : Bool) → cond empty (Some faults.Short) (cond (over || long) (Some faults.TooLong) None) ≡ None → long ≡ false
fault_by true over long e = absurd cc
fault_by false true long e = absurd cc
fault_by false false true e = absurd cc
fault_by false false false e = refl

value_short : (v : Rsl) → rsl_write_fault v ≡ None → HasShort (value_of v)
unfolding rsl_write_fault
value_short v e = short_of (value_of v) (fault_by (is_empty (l3_of v)) (is_over MESSAGE_LIMIT (l3_of v)) (is_over LENGTH_LIMIT (value_of v)) e)

-- ---- the fields fit the table

fits_octet : (id : ℕ) (n : ℕ) → format_in ELEMENTS id ≡ Some (Tv 1) → FitsIfPresent ELEMENTS id (Some (octet_value n))
fits_octet id n known = record { format = Tv 1; known = known; size = refl }

fits_octet_if : {X : Type 0} (id : ℕ) (o : Option X) (f : X → ℕ) → format_in ELEMENTS id ≡ Some (Tv 1) →
    FitsIfPresent ELEMENTS id (option_map (λ x. octet_value (f x)) o)
fits_octet_if id None f known = tt
fits_octet_if id (Some x) f known = fits_octet id (f x) known

fits_number_if : {X : Type 0} (id : ℕ) (o : Option X) (f : X → ℕ) → format_in ELEMENTS id ≡ Some (Tv 2) →
    FitsIfPresent ELEMENTS id (option_map (λ x. number_value (f x)) o)
fits_number_if id None f known = tt
fits_number_if id (Some x) f known = record { format = Tv 2; known = known; size = refl }

fits_short : (id : ℕ) (o : Option (List ℕ)) → format_in ELEMENTS id ≡ Some Tlv → HasShort o → FitsIfPresent ELEMENTS id o
unfolding HasShort
fits_short id None known short = tt
fits_short id (Some value) known short = record { format = Tlv; known = known; size = omega arith }

fits_l3 : (o : Option (List ℕ)) → IsL3 o → FitsIfPresent ELEMENTS L3_INFORMATION o
fits_l3 None is = tt
fits_l3 (Some l3) is = record { format = TlvE; known = refl; size = omega (arith, is.1) }

all_fit : (v : Rsl) → IsL3 (l3_of v) → HasShort (value_of v) → AllFit ELEMENTS (fields v)
all_fit (messages.DataRequest m) l3 short = (fits_octet CHANNEL_NUMBER _ refl, (fits_octet LINK_IDENTIFIER _ refl, (fits_l3 (Some m.l3) l3, tt)))
all_fit (messages.DataIndication m) l3 short = (fits_octet CHANNEL_NUMBER _ refl, (fits_octet LINK_IDENTIFIER _ refl, (fits_l3 (Some m.l3) l3, tt)))
all_fit (messages.ErrorIndication m) l3 short = (fits_octet CHANNEL_NUMBER _ refl, (fits_octet LINK_IDENTIFIER _ refl, (fits_short RLM_CAUSE (option_map (λ c. c.0) m.cause) refl short, tt)))
all_fit (messages.EstablishRequest m) l3 short = (fits_octet CHANNEL_NUMBER _ refl, (fits_octet LINK_IDENTIFIER _ refl, tt))
all_fit (messages.EstablishConfirm m) l3 short = (fits_octet CHANNEL_NUMBER _ refl, (fits_octet LINK_IDENTIFIER _ refl, tt))
all_fit (messages.EstablishIndication m) l3 short = (fits_octet CHANNEL_NUMBER _ refl, (fits_octet LINK_IDENTIFIER _ refl, (fits_l3 m.l3 l3, tt)))
all_fit (messages.ReleaseRequest m) l3 short = (fits_octet CHANNEL_NUMBER _ refl, (fits_octet LINK_IDENTIFIER _ refl, (fits_octet RELEASE_MODE _ refl, tt)))
all_fit (messages.ReleaseConfirm m) l3 short = (fits_octet CHANNEL_NUMBER _ refl, (fits_octet LINK_IDENTIFIER _ refl, tt))
all_fit (messages.ReleaseIndication m) l3 short = (fits_octet CHANNEL_NUMBER _ refl, (fits_octet LINK_IDENTIFIER _ refl, tt))
all_fit (messages.ChannelRequired m) l3 short = (fits_octet CHANNEL_NUMBER _ refl, (record { format = Tv 3; known = refl; size = refl }, (fits_octet ACCESS_DELAY _ refl, tt)))
all_fit (messages.ImmediateAssignCommand m) l3 short = (fits_octet CHANNEL_NUMBER _ refl, (fits_short FULL_IMMEDIATE_ASSIGN (Some m.information) refl short, tt))
all_fit (messages.ChannelActivation m) l3 short = (fits_octet CHANNEL_NUMBER _ refl, (fits_octet ACTIVATION_TYPE _ refl, (fits_short CHANNEL_MODE (Some m.mode.0) refl short, (fits_octet_if HANDOVER_REFERENCE m.reference (λ r. r.0) refl, tt))))
all_fit (messages.ChannelActivationAck m) l3 short = (fits_octet CHANNEL_NUMBER _ refl, (fits_number_if FRAME_NUMBER m.frame (λ n. n.0) refl, tt))
all_fit (messages.ChannelActivationNack m) l3 short = (fits_octet CHANNEL_NUMBER _ refl, (fits_short CAUSE (option_map (λ c. c.0) m.cause) refl short, tt))
all_fit (messages.ConnectionFailure m) l3 short = (fits_octet CHANNEL_NUMBER _ refl, (fits_short CAUSE (option_map (λ c. c.0) m.cause) refl short, tt))
all_fit (messages.HandoverDetection m) l3 short = (fits_octet CHANNEL_NUMBER _ refl, (fits_octet_if ACCESS_DELAY m.access_delay (λ d. d.0) refl, tt))
all_fit (messages.MeasurementResult m) l3 short = (fits_octet CHANNEL_NUMBER _ refl, (fits_octet MEASUREMENT_NUMBER _ refl, (fits_short UPLINK_MEASUREMENTS (option_map (λ u. u.0) m.uplink) refl short, (fits_octet_if BS_POWER m.bs_power (λ p. p.0) refl, (fits_number_if L1_INFORMATION m.l1 (λ i. i.0) refl, (fits_l3 m.l3 l3, tt))))))
all_fit (messages.RfChannelRelease m) l3 short = (fits_octet CHANNEL_NUMBER _ refl, tt)
all_fit (messages.RfChannelReleaseAck m) l3 short = (fits_octet CHANNEL_NUMBER _ refl, tt)

-- no message has an identifier twice
distinct : (v : Rsl) → are_distinct (fields v) ≡ true
distinct (messages.DataRequest m) = refl
distinct (messages.DataIndication m) = refl
distinct (messages.ErrorIndication m) = refl
distinct (messages.EstablishRequest m) = refl
distinct (messages.EstablishConfirm m) = refl
distinct (messages.EstablishIndication m) = refl
distinct (messages.ReleaseRequest m) = refl
distinct (messages.ReleaseConfirm m) = refl
distinct (messages.ReleaseIndication m) = refl
distinct (messages.ChannelRequired m) = refl
distinct (messages.ImmediateAssignCommand m) = refl
distinct (messages.ChannelActivation m) = refl
distinct (messages.ChannelActivationAck m) = refl
distinct (messages.ChannelActivationNack m) = refl
distinct (messages.ConnectionFailure m) = refl
distinct (messages.HandoverDetection m) = refl
distinct (messages.MeasurementResult m) = refl
distinct (messages.RfChannelRelease m) = refl
distinct (messages.RfChannelReleaseAck m) = refl

-- the octets of a type are those of no other
type_again : (kind : RslType) → rsl_type (rsl_discriminator kind) (rsl_octet kind) ≡ Some kind
unfolding rsl_type
type_again types.DataRequest = refl
type_again types.DataIndication = refl
type_again types.ErrorIndication = refl
type_again types.EstablishRequest = refl
type_again types.EstablishConfirm = refl
type_again types.EstablishIndication = refl
type_again types.ReleaseRequest = refl
type_again types.ReleaseConfirm = refl
type_again types.ReleaseIndication = refl
type_again types.ChannelRequired = refl
type_again types.ImmediateAssignCommand = refl
type_again types.ChannelActivation = refl
type_again types.ChannelActivationAck = refl
type_again types.ChannelActivationNack = refl
type_again types.ConnectionFailure = refl
type_again types.HandoverDetection = refl
type_again types.MeasurementResult = refl
type_again types.RfChannelRelease = refl
type_again types.RfChannelReleaseAck = refl

-- what is written of a message is a text of it, whatever follows that begins with no identifier of
-- the table
pub rsl_text_is_text : (v : Rsl) (more : List ℕ) → IsLawful v → rsl_write_fault v ≡ None → Stops ELEMENTS more →
    IsRsl (rsl_text v ++ more) v
rsl_text_is_text v more lawful fault stops = record {
  discriminator = rsl_discriminator (type_of v);
  octet = rsl_octet (type_of v);
  body = rsl_fields_text (fields v) ++ more;
  es = elements_made (fields v);
  is = refl;
  names = type_again (type_of v);
  are = subst (λ (xs : List ℕ). AreElements ELEMENTS (xs ++ more) (elements_made (fields v)) false) (sym (text_of_fields (fields v)))
      (fields_are ELEMENTS (fields v) more (all_fit v lawful.1 (value_short v fault)) stops);
  carries = fields_carried (fields v) (distinct v);
  lawful = lawful;
}
