-- SPDX-License-Identifier: MIT OR Apache-2.0
-- Elements are read as a message exactly if the message carries them.
use Rattle.std.proofs.Common.{◌≡◌, ℕ, false, List, [], ◌∷◌, length, Option, Some, None, option_map, Result, Ok, refl, sym, ap, subst, ◌∙◌, arith}
use Rattle.std.specs.Option.{ok_or}
use Rattle.octets.proofs.Fields.{found_sized}
use Rattle.octets.proofs.Steps.{bind_ok, ok_is, octet_ok, result_map_ok}
use Rattle.octets.specs.declared.element.Format.{Format}
use Rattle.octets.specs.declared.element.Format.TheVariants.{Tv, Tlv, TlvE}
use Rattle.octets.specs.Answer.{result_map}
use Rattle.octets.specs.Element.{Element, AreOctets, AreElements, HasSize}
use Rattle.octets.specs.Field.{Carries}
use Rattle.octets.specs.Front.{octet_at}
use Rattle.octets.specs.Walk.{first_of}
use Rattle.bssmap_codec.specs.declared.bssmap.Bssmap.{Bssmap}
use Rattle.bssmap_codec.specs.declared.bssmap.Bssmap.TheVariants.{AssignmentRequest, AssignmentComplete, AssignmentFailure, HandoverPerformed, ClearCommand, ClearComplete, ClearRequest, SapiNReject, CipherModeCommand, CompleteLayer3Information, CipherModeReject}
use Rattle.bssmap_codec.specs.declared.bssmap_type.BssmapType.{BssmapType}
use Rattle.bssmap_codec.specs.declared.bssmap_type.BssmapType.TheVariants as kinds
use Rattle.bssmap_codec.specs.declared.fault.InterfaceFault.{InterfaceFault}
use Rattle.bssmap_codec.specs.declared.fault.InterfaceFault.TheVariants.{Short, MissingElement}
use Rattle.bssmap_codec.specs.declared.identifiers.TheConstants.{ELEMENTS, CAUSE, CELL_IDENTIFIER, CHANNEL_TYPE, RR_CAUSE, LAYER_3_INFORMATION, DLCI}
use Rattle.bssmap_codec.specs.declared.values.Cause.{Cause}
use Rattle.bssmap_codec.specs.declared.values.RrCause.{RrCause}
use Rattle.bssmap_codec.specs.Bssap.{fields, HasLayer3}
use Rattle.bssmap_codec.specs.BssapReading.{cause_of, cell_of, channel_of, rr_cause_of, rejected_of, needed_value, needed_octet, rr_cause_by, rr_cause_in, layer3_by, layer3_at, cause_at, assignment_request_at, assignment_complete_at, assignment_failure_at, handover_performed_at, reject_at, complete_layer3_at, content_at}
use Rattle.bssmap_codec.specs.BssmapType.{type_of}
use Rattle.bssmap_codec.specs.Layer3.{IsLayer3, layer3_fault}
use Rattle.bssmap_codec.proofs.Layer3s.{layer3_is, layer3_passes}
use Rattle.bssmap_codec.proofs.Sccps.{ok_or_ok}

-- ---- what is carried is read

needed_again : (id : ℕ) (es : List Element) (value : List ℕ) → first_of id es ≡ Some value → needed_value id es ≡ Ok value
unfolding needed_value
needed_again id es value h = ap (λ found. ok_or found (MissingElement id)) h

octet_again : (id : ℕ) (es : List Element) (octet : ℕ) → first_of id es ≡ Some (octet ∷ []) → needed_octet id es ≡ Ok octet
unfolding needed_octet octet_at
octet_again id es octet h = rw (needed_again id es (octet ∷ []) h) refl

rr_again : (es : List Element) (rr_cause : Option RrCause) →
    first_of RR_CAUSE es ≡ option_map (λ c. c.0 ∷ []) rr_cause → rr_cause_in es ≡ Ok rr_cause
unfolding rr_cause_in octet_at
rr_again es None h = ap rr_cause_by h
rr_again es (Some cause) h = ap rr_cause_by h

pub layer3_again : (message : List ℕ) → IsLayer3 message → layer3_at message ≡ Ok message
unfolding layer3_at
layer3_again message h = ap (λ fault. layer3_by fault message) (layer3_passes message h)

cause_again : (es : List Element) (cause : Cause) → first_of CAUSE es ≡ Some cause.0 → cause_at es ≡ Ok cause
unfolding cause_at
cause_again es cause h = rw (needed_again CAUSE es cause.0 h) refl

pub content_again : (message : Bssmap) (es : List Element) → Carries es (fields message) → HasLayer3 message →
    content_at (type_of message) es ≡ Ok message
unfolding assignment_request_at assignment_complete_at assignment_failure_at handover_performed_at reject_at complete_layer3_at
content_again (AssignmentRequest channel) es has layer3 = rw (needed_again CHANNEL_TYPE es channel.0 has.0) refl
content_again (AssignmentComplete rr_cause) es has layer3 = rw (rr_again es rr_cause has.0) refl
content_again (AssignmentFailure cause rr_cause) es has layer3 = rw (needed_again CAUSE es cause.0 has.0, rr_again es rr_cause has.1.0) refl
content_again (HandoverPerformed cause cell) es has layer3 = rw (needed_again CAUSE es cause.0 has.0, needed_again CELL_IDENTIFIER es cell.0 has.1.0) refl
content_again (ClearCommand cause) es has layer3 = ap (result_map (λ c. ClearCommand c)) (cause_again es cause has.0)
content_again ClearComplete es has layer3 = refl
content_again (ClearRequest cause) es has layer3 = ap (result_map (λ c. ClearRequest c)) (cause_again es cause has.0)
content_again (SapiNReject dlci cause) es has layer3 = rw (octet_again DLCI es dlci.0 has.0, needed_again CAUSE es cause.0 has.1.0) refl
content_again CipherModeCommand es has layer3 = refl
content_again (CompleteLayer3Information cell message) es has layer3 =
    rw (needed_again CELL_IDENTIFIER es cell.0 has.0, needed_again LAYER_3_INFORMATION es message has.1.0, layer3_again message layer3) refl
content_again (CipherModeReject cause) es has layer3 = ap (result_map (λ c. CipherModeReject c)) (cause_again es cause has.0)

-- ---- what is read is carried

-- octets are these elements, whole
pub record AreWhole (octets : List ℕ) (es : List Element) : Type 0 where
  pub fits : AreOctets octets
  pub are : AreElements ELEMENTS octets es false

needed_ok : (id : ℕ) (es : List Element) (value : List ℕ) → needed_value id es ≡ Ok value → first_of id es ≡ Some value
unfolding needed_value
needed_ok id es value e = ok_or_ok (first_of id es) (MissingElement id) value e

cause_ok : (es : List Element) (cause : Cause) → cause_at es ≡ Ok cause → first_of CAUSE es ≡ Some cause.0
unfolding cause_at
cause_ok es cause e =
    let a = bind_ok (needed_value CAUSE es) _ cause e in
    needed_ok CAUSE es a.0 a.1 ∙ ap (λ (c : Cause). Some c.0) (ok_is {A = Cause} {F = InterfaceFault} (cause_of a.0) cause a.2)

pub one_octet : (format : Format) (size : ℕ) → (let f : Option Format = Some (Tv 1) in f) ≡ Some format → HasSize format size → size ≡ 1
one_octet (Tv n) size e h = let same : 1 ≡ n = cc in h ∙ sym same
one_octet Tlv size e h = absurd cc
one_octet TlvE size e h = absurd cc

alone : (octets rest : List ℕ) (octet : ℕ) → octets ≡ octet ∷ rest → length octets ≡ 1 → octets ≡ octet ∷ []
alone octets [] octet is one = is
alone octets (x ∷ rest) octet is one = absurd (omega (arith, ap length is))

dlci_ok : (octets : List ℕ) (es : List Element) (octet : ℕ) → AreWhole octets es → needed_octet DLCI es ≡ Ok octet →
    first_of DLCI es ≡ Some (octet ∷ [])
unfolding needed_octet
dlci_ok octets es octet w e =
    let a = bind_ok (needed_value DLCI es) _ octet e in
    let b = bind_ok (octet_at Short a.0) _ octet a.2 in
    let found = needed_ok DLCI es a.0 a.1 in
    let sized = found_sized ELEMENTS octets es false DLCI a.0 w.fits w.are found in
    let one : length a.0 ≡ 1 = one_octet sized.fits.format (length a.0) sized.fits.known sized.fits.size in
    found ∙ ap (λ (xs : List ℕ). Some xs) (alone a.0 b.0.1 b.0.0 (octet_ok Short a.0 b.0 b.1) one) ∙ ap (λ (n : ℕ). Some (n ∷ [])) (ok_is {A = ℕ} {F = InterfaceFault} b.0.0 octet b.2)

rr_by_ok : (octets : List ℕ) (es : List Element) (found : Option (List ℕ)) (rr_cause : Option RrCause) →
    AreWhole octets es → first_of RR_CAUSE es ≡ found → rr_cause_by found ≡ Ok rr_cause →
    found ≡ option_map (λ c. c.0 ∷ []) rr_cause
rr_by_ok octets es None rr_cause w is e = ap (λ (r : Option RrCause). option_map (λ c. c.0 ∷ []) r) (ok_is {A = Option RrCause} {F = InterfaceFault} None rr_cause e)
rr_by_ok octets es (Some value) rr_cause w is e =
    let b = bind_ok (octet_at Short value) _ rr_cause e in
    let sized = found_sized ELEMENTS octets es false RR_CAUSE value w.fits w.are is in
    let one : length value ≡ 1 = one_octet sized.fits.format (length value) sized.fits.known sized.fits.size in
    ap (λ (xs : List ℕ). Some xs) (alone value b.0.1 b.0.0 (octet_ok Short value b.0 b.1) one)
    ∙ ap (λ (r : Option RrCause). option_map (λ c. c.0 ∷ []) r) (ok_is {A = Option RrCause} {F = InterfaceFault} (Some (rr_cause_of b.0.0)) rr_cause b.2)

rr_ok : (octets : List ℕ) (es : List Element) (rr_cause : Option RrCause) → AreWhole octets es →
    rr_cause_in es ≡ Ok rr_cause → first_of RR_CAUSE es ≡ option_map (λ c. c.0 ∷ []) rr_cause
unfolding rr_cause_in
rr_ok octets es rr_cause w e = rr_by_ok octets es (first_of RR_CAUSE es) rr_cause w refl e

pub record IsLayer3Of (value message : List ℕ) : Type 0 where
  pub is : value ≡ message
  pub layer3 : IsLayer3 message

layer3_by_ok : (fault : Option InterfaceFault) (value message : List ℕ) → layer3_by fault value ≡ Ok message →
    (fault ≡ None) × (value ≡ message)
layer3_by_ok None value message e = (refl, ok_is {A = List ℕ} {F = InterfaceFault} value message e)
layer3_by_ok (Some fault) value message e = absurd cc

pub layer3_ok : (value message : List ℕ) → layer3_at value ≡ Ok message → IsLayer3Of value message
unfolding layer3_at
layer3_ok value message e =
    let a = layer3_by_ok (layer3_fault value) value message e in
    record { is = a.1; layer3 = subst (λ (xs : List ℕ). IsLayer3 xs) a.1 (layer3_is value a.0) }

-- what a message is read of
pub record IsContent (kind : BssmapType) (es : List Element) (message : Bssmap) : Type 0 where
  pub kind_is : kind ≡ type_of message
  pub carries : Carries es (fields message)
  pub layer3 : HasLayer3 message

along : (kind : BssmapType) (es : List Element) (m message : Bssmap) →
    (let r : Result Bssmap InterfaceFault = Ok m in r) ≡ Ok message → IsContent kind es m → IsContent kind es message
along kind es m message e is = subst (λ (x : Bssmap). IsContent kind es x) (ok_is {A = Bssmap} {F = InterfaceFault} m message e) is

pub content_ok : (kind : BssmapType) (octets : List ℕ) (es : List Element) (message : Bssmap) → AreWhole octets es →
    content_at kind es ≡ Ok message → IsContent kind es message
unfolding assignment_request_at assignment_complete_at assignment_failure_at handover_performed_at reject_at complete_layer3_at
content_ok kinds.AssignmentRequest octets es message w e =
    let a = bind_ok (needed_value CHANNEL_TYPE es) _ message e in
    along kinds.AssignmentRequest es (AssignmentRequest (channel_of a.0)) message a.2 (record { kind_is = refl; carries = (needed_ok CHANNEL_TYPE es a.0 a.1, tt); layer3 = tt })
content_ok kinds.AssignmentComplete octets es message w e =
    let a = bind_ok (rr_cause_in es) _ message e in
    along kinds.AssignmentComplete es (AssignmentComplete a.0) message a.2 (record { kind_is = refl; carries = (rr_ok octets es a.0 w a.1, tt); layer3 = tt })
content_ok kinds.AssignmentFailure octets es message w e =
    let a = bind_ok (needed_value CAUSE es) _ message e in
    let b = bind_ok (rr_cause_in es) _ message a.2 in
    along kinds.AssignmentFailure es (AssignmentFailure (cause_of a.0) b.0) message b.2 (record { kind_is = refl; carries = (needed_ok CAUSE es a.0 a.1, (rr_ok octets es b.0 w b.1, tt)); layer3 = tt })
content_ok kinds.HandoverPerformed octets es message w e =
    let a = bind_ok (needed_value CAUSE es) _ message e in
    let b = bind_ok (needed_value CELL_IDENTIFIER es) _ message a.2 in
    along kinds.HandoverPerformed es (HandoverPerformed (cause_of a.0) (cell_of b.0)) message b.2 (record { kind_is = refl; carries = (needed_ok CAUSE es a.0 a.1, (needed_ok CELL_IDENTIFIER es b.0 b.1, tt)); layer3 = tt })
content_ok kinds.ClearCommand octets es message w e =
    let a = result_map_ok (λ c. ClearCommand c) (cause_at es) message e in
    subst (IsContent kinds.ClearCommand es) a.2 (record { kind_is = refl; carries = (cause_ok es a.0 a.1, tt); layer3 = tt })
content_ok kinds.ClearComplete octets es message w e = along kinds.ClearComplete es ClearComplete message e (record { kind_is = refl; carries = tt; layer3 = tt })
content_ok kinds.ClearRequest octets es message w e =
    let a = result_map_ok (λ c. ClearRequest c) (cause_at es) message e in
    subst (IsContent kinds.ClearRequest es) a.2 (record { kind_is = refl; carries = (cause_ok es a.0 a.1, tt); layer3 = tt })
content_ok kinds.SapiNReject octets es message w e =
    let a = bind_ok (needed_octet DLCI es) _ message e in
    let b = bind_ok (needed_value CAUSE es) _ message a.2 in
    along kinds.SapiNReject es (SapiNReject (rejected_of a.0) (cause_of b.0)) message b.2 (record { kind_is = refl; carries = (dlci_ok octets es a.0 w a.1, (needed_ok CAUSE es b.0 b.1, tt)); layer3 = tt })
content_ok kinds.CipherModeCommand octets es message w e = along kinds.CipherModeCommand es CipherModeCommand message e (record { kind_is = refl; carries = tt; layer3 = tt })
content_ok kinds.CompleteLayer3Information octets es message w e =
    let a = bind_ok (needed_value CELL_IDENTIFIER es) _ message e in
    let b = bind_ok (needed_value LAYER_3_INFORMATION es) _ message a.2 in
    let c = bind_ok (layer3_at b.0) _ message b.2 in
    let l = layer3_ok b.0 c.0 c.1 in
    let found : first_of LAYER_3_INFORMATION es ≡ Some c.0 = needed_ok LAYER_3_INFORMATION es b.0 b.1 ∙ ap (λ (xs : List ℕ). Some xs) l.is in
    along kinds.CompleteLayer3Information es (CompleteLayer3Information (cell_of a.0) c.0) message c.2 (record { kind_is = refl; carries = (needed_ok CELL_IDENTIFIER es a.0 a.1, (found, tt)); layer3 = l.layer3 })
content_ok kinds.CipherModeReject octets es message w e =
    let a = result_map_ok (λ c. CipherModeReject c) (cause_at es) message e in
    subst (IsContent kinds.CipherModeReject es) a.2 (record { kind_is = refl; carries = (cause_ok es a.0 a.1, tt); layer3 = tt })
