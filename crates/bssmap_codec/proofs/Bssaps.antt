-- SPDX-License-Identifier: MIT OR Apache-2.0
-- The reading of BSSAP agrees with the grammar.
use Rattle.std.proofs.Common.{◌≡◌, ℕ, ◌<◌, Bool, true, false, cond, eqb, ltb, List, ◌∷◌, ◌++◌, length, take, drop, Some, None, Ok, Err, refl, sym, ap, subst, ◌∙◌, arith, eq-eqb, inl, inr}
use Rattle.std.specs.Option.{ok_or}
use Rattle.std.proofs.lemmas.Bool.{cases_eq, ne_eqb, le-ltb, eqb-true}
use Rattle.std.proofs.lemmas.List.{take_at, drop_at, take-append-drop, length-append, length-take}
use Rattle.octets.proofs.Grammar.{walk_found, walk_only, octets_take}
use Rattle.octets.proofs.Steps.{bind_ok, ok_is, guard, octet_ok, split_ok}
use Rattle.octets.specs.Element.{Element, AreOctets, AreElements}
use Rattle.octets.specs.Front.{octet_at, split_at, counted_text}
use Rattle.octets.specs.Walk.{Finding, walk}
use Rattle.bssmap_codec.specs.declared.bssap.Bssap.{Bssap}
use Rattle.bssmap_codec.specs.declared.bssap.Bssap.TheVariants.{Management, Transfer}
use Rattle.bssmap_codec.specs.declared.bssap.TheConstants.{MANAGEMENT, TRANSFER}
use Rattle.bssmap_codec.specs.declared.bssmap.Bssmap.{Bssmap}
use Rattle.bssmap_codec.specs.declared.bssmap_type.BssmapType.{BssmapType}
use Rattle.bssmap_codec.specs.declared.bssmap_type.BssmapType.TheVariants as kinds
use Rattle.bssmap_codec.specs.declared.bssmap_type.TheConstants.{BSSMAP_TYPES}
use Rattle.bssmap_codec.specs.declared.fault.InterfaceFault.{InterfaceFault}
use Rattle.bssmap_codec.specs.declared.fault.InterfaceFault.TheVariants.{Short, UnknownType}
use Rattle.bssmap_codec.specs.declared.identifiers.TheConstants.{ELEMENTS}
use Rattle.bssmap_codec.specs.Bssap.{IsBssmap, IsManagement, IsTransfer, IsBssap}
use Rattle.bssmap_codec.specs.BssapReading.{elements_of, breaks_off, layer3_at, content_at, message_at, management_at, transfer_at, bssap_reading}
use Rattle.bssmap_codec.specs.BssmapType.{bssmap_octet, bssmap_type, type_of}
use Rattle.bssmap_codec.specs.Values.{is_dlci, dlci_of}
use Rattle.bssmap_codec.proofs.Contents.{layer3_again, layer3_ok, content_again, content_ok, AreWhole, IsContent}
use Rattle.bssmap_codec.proofs.Fronts.{octets_behind, octet_first}
use Rattle.bssmap_codec.proofs.Sccps.{found_is, ok_or_ok}

-- ---- a text is read

type_again : (kind : BssmapType) → bssmap_type (bssmap_octet kind) ≡ Some kind
unfolding bssmap_type
type_again kinds.AssignmentRequest = refl
type_again kinds.AssignmentComplete = refl
type_again kinds.AssignmentFailure = refl
type_again kinds.HandoverPerformed = refl
type_again kinds.ClearCommand = refl
type_again kinds.ClearComplete = refl
type_again kinds.ClearRequest = refl
type_again kinds.SapiNReject = refl
type_again kinds.CipherModeCommand = refl
type_again kinds.CompleteLayer3Information = refl
type_again kinds.CipherModeReject = refl

split_again : (body more : List ℕ) → split_at Short (length body) (body ++ more) ≡ Ok (body, more)
split_again body more =
    rw (le-ltb (length (body ++ more)) (length body) (omega (arith, length-append body more)), take_at body more (length body) refl, drop_at body more (length body) refl) refl

whole_again : (kind : BssmapType) (elements : List ℕ) (es : List Element) (message : Bssmap) →
    AreElements ELEMENTS elements es false → content_at kind es ≡ Ok message → message_at kind elements ≡ Ok message
unfolding message_at elements_of breaks_off
whole_again kind elements es message are e =
    ap (λ (w : Finding). cond w.is_cut (Err Short) (content_at kind w.elements)) (walk_only ELEMENTS elements es false are) ∙ e

management_with : (size : ℕ) (rest : List ℕ) (octet : ℕ) (elements : List ℕ) (kind : BssmapType) (message : Bssmap) →
    take size rest ≡ octet ∷ elements → bssmap_type octet ≡ Some kind
    → ltb (length rest) size ≡ false → message_at kind elements ≡ Ok message → management_at (size ∷ rest) ≡ Ok (Management message)
unfolding management_at octet_at
management_with size rest octet elements kind message front type long whole = rw (front, type, long, whole) refl

management_again : (octets : List ℕ) (message : Bssmap) → IsManagement octets message → bssap_reading octets ≡ Ok (Management message)
unfolding bssap_reading octet_at
management_again octets message m =
    let t = m.text in
    let kind = type_of message in
    ap bssap_reading m.is
    ∙ management_with (length m.body) (m.body ++ m.more) (bssmap_octet kind) t.elements kind message (take_at m.body m.more (length m.body) refl ∙ t.is) (type_again kind) (le-ltb (length (m.body ++ m.more)) (length m.body) (omega (arith, length-append m.body m.more)))
    (whole_again kind t.elements t.found message t.are (content_again message t.found t.carries t.layer3))

transfer_with : (dlci : ℕ) (message more : List ℕ) → is_dlci dlci ≡ true → layer3_at message ≡ Ok message →
    transfer_at (dlci ∷ (counted_text message ++ more)) ≡ Ok (Transfer dlci message)
unfolding transfer_at octet_at
transfer_with dlci message more link layer3 = rw (link, split_again message more, layer3) refl

transfer_again : (octets : List ℕ) (dlci : ℕ) (message : List ℕ) → IsTransfer octets dlci message →
    bssap_reading octets ≡ Ok (Transfer dlci message)
unfolding bssap_reading octet_at
transfer_again octets dlci message t = ap bssap_reading t.is ∙ transfer_with dlci message t.more t.link (layer3_again message t.layer3)

pub bssap_again : (octets : List ℕ) (message : Bssap) → IsBssap octets message → bssap_reading octets ≡ Ok message
bssap_again octets (Management message) is = management_again octets message is
bssap_again octets (Transfer dlci message) is = transfer_again octets dlci message is

-- ---- what is read is a text

octet_is : (octet : ℕ) (kind : BssmapType) → bssmap_type octet ≡ Some kind → octet ≡ bssmap_octet kind
unfolding bssmap_type
octet_is octet kind e = sym (eqb-true (bssmap_octet kind) octet (found_is (λ k. eqb (bssmap_octet k) octet) BSSMAP_TYPES kind e))

whole_ok : (kind : BssmapType) (elements : List ℕ) (message : Bssmap) → AreOctets elements →
    message_at kind elements ≡ Ok message →
    (w : AreWhole elements (elements_of elements)) × IsContent kind (elements_of elements) message
unfolding message_at elements_of breaks_off
whole_ok kind elements message fits e =
    let finding = walk ELEMENTS elements in
    let g = guard finding.is_cut Short (content_at kind finding.elements) message e in
    let are : AreElements ELEMENTS elements finding.elements false = subst (λ (b : Bool). AreElements ELEMENTS elements finding.elements b) g.0 (walk_found ELEMENTS elements fits) in
    let w : AreWhole elements finding.elements = record { fits = fits; are = are } in
    (w, content_ok kind elements finding.elements message w g.1)

text_of : (kind : BssmapType) (body elements : List ℕ) (octet : ℕ) (message : Bssmap) → body ≡ octet ∷ elements →
    octet ≡ bssmap_octet kind → AreOctets elements → message_at kind elements ≡ Ok message → IsBssmap body message
text_of kind body elements octet message is octet-is fits e =
    let c = whole_ok kind elements message fits e in
    record {
      elements = elements;
      is = is ∙ ap (λ (n : ℕ). n ∷ elements) (octet-is ∙ ap bssmap_octet c.1.kind_is);
      found = elements_of elements;
      are = c.0.are;
      carries = c.1.carries;
      layer3 = c.1.layer3;
    }

-- a length octet, and what it counts, split off
counted_is : (size : ℕ) (rest : List ℕ) (p : List ℕ × List ℕ) → split_at Short size rest ≡ Ok p →
    (length p.0 ≡ size) × (size ∷ rest ≡ counted_text p.0 ++ p.1)
counted_is size rest p e =
    let s = split_ok Short size rest p e in
    let long : length p.0 ≡ size = omega (arith, length-take size rest, ap length s.front, s.long) in
    let parts : rest ≡ p.0 ++ p.1 =
    sym (take-append-drop size rest) ∙ ap (λ (xs : List ℕ). xs ++ drop size rest) s.front ∙ ap (λ (xs : List ℕ). p.0 ++ xs) s.back in
    (long, ap (λ (n : ℕ). n ∷ rest) (sym long) ∙ ap (λ (xs : List ℕ). length p.0 ∷ xs) parts)

management_ok : (octets rest : List ℕ) (message : Bssap) → octets ≡ MANAGEMENT ∷ rest → AreOctets rest →
    management_at rest ≡ Ok message → IsBssap octets message
unfolding management_at
management_ok octets rest message is fits e =
    let a = bind_ok (octet_at Short rest) _ message e in
    let b = bind_ok (octet_at Short (take a.0.0 a.0.1)) _ message a.2 in
    let c = bind_ok (ok_or (bssmap_type b.0.0) UnknownType) _ message b.2 in
    let d = bind_ok (split_at Short a.0.0 a.0.1) _ message c.2 in
    let f = bind_ok (message_at c.0 b.0.1) _ message d.2 in
    let ia = octet_ok Short rest a.0 a.1 in
    let ib = octet_ok Short (take a.0.0 a.0.1) b.0 b.1 in
    let fa = octets_behind a.0.0 a.0.1 rest ia fits in
    let fb = octets_behind b.0.0 b.0.1 (take a.0.0 a.0.1) ib (octets_take a.0.0 a.0.1 fa) in
    let s = split_ok Short a.0.0 a.0.1 d.0 d.1 in
    let counted = counted_is a.0.0 a.0.1 d.0 d.1 in
    let size : a.0.0 < 256 = octet_first a.0.0 a.0.1 rest ia fits in
    let body : d.0.0 ≡ b.0.0 ∷ b.0.1 = sym s.front ∙ ib in
    let text = text_of c.0 d.0.0 b.0.1 b.0.0 f.0 body (octet_is b.0.0 c.0 (ok_or_ok (bssmap_type b.0.0) UnknownType c.0 c.1)) fb f.1 in
    subst (λ (m : Bssap). IsBssap octets m) (ok_is {A = Bssap} {F = InterfaceFault} (Management f.0) message f.2) (record {
      body = d.0.0;
      more = d.0.1;
      is = is ∙ ap (λ (xs : List ℕ). MANAGEMENT ∷ xs) (ia ∙ counted.1);
      short = omega (arith, counted.0);
      text = text;
    })

dlci_by : (b : Bool) (octet dlci : ℕ) → cond b (Some octet) None ≡ Some dlci → (b ≡ true) × (octet ≡ dlci)
dlci_by true octet dlci e = (refl, cc)
dlci_by false octet dlci e = absurd cc

dlci_ok : (octet dlci : ℕ) → ok_or (dlci_of octet) UnknownType ≡ Ok dlci → (is_dlci octet ≡ true) × (octet ≡ dlci)
dlci_ok octet dlci e = dlci_by (is_dlci octet) octet dlci (ok_or_ok (dlci_of octet) UnknownType dlci e)

transfer_ok : (octets rest : List ℕ) (message : Bssap) → octets ≡ TRANSFER ∷ rest → AreOctets rest →
    transfer_at rest ≡ Ok message → IsBssap octets message
unfolding transfer_at
transfer_ok octets rest message is fits e =
    let a = bind_ok (octet_at Short rest) _ message e in
    let b = bind_ok (octet_at Short a.0.1) _ message a.2 in
    let c = bind_ok (ok_or (dlci_of a.0.0) UnknownType) _ message b.2 in
    let d = bind_ok (split_at Short b.0.0 b.0.1) _ message c.2 in
    let f = bind_ok (layer3_at d.0.0) _ message d.2 in
    let ia = octet_ok Short rest a.0 a.1 in
    let ib = octet_ok Short a.0.1 b.0 b.1 in
    let counted = counted_is b.0.0 b.0.1 d.0 d.1 in
    let link = dlci_ok a.0.0 c.0 c.1 in
    let l = layer3_ok d.0.0 f.0 f.1 in
    subst (λ (m : Bssap). IsBssap octets m) (ok_is {A = Bssap} {F = InterfaceFault} (Transfer c.0 f.0) message f.2) (record {
      more = d.0.1;
      is = is ∙ ap (λ (xs : List ℕ). TRANSFER ∷ xs) (ia ∙ ap (λ (xs : List ℕ). a.0.0 ∷ xs) (ib ∙ counted.1)) ∙ ap (λ (n : ℕ). TRANSFER ∷ n ∷ (counted_text d.0.0 ++ d.0.1)) link.1 ∙ ap (λ (xs : List ℕ). TRANSFER ∷ c.0 ∷ (counted_text xs ++ d.0.1)) l.is;
      link = subst (λ (n : ℕ). is_dlci n ≡ true) link.1 link.0;
      layer3 = l.layer3;
    })

pub bssap_ok : (octets : List ℕ) (message : Bssap) → AreOctets octets → bssap_reading octets ≡ Ok message → IsBssap octets message
unfolding bssap_reading
bssap_ok octets message fits e =
    let a = bind_ok (octet_at Short octets) _ message e in
    let is = octet_ok Short octets a.0 a.1 in
    let behind = octets_behind a.0.0 a.0.1 octets is fits in
    elim (cases_eq a.0.0 MANAGEMENT) [
      | inl managed ↦
          let e' = ap (λ b. cond b (management_at a.0.1) (cond (eqb a.0.0 TRANSFER) (transfer_at a.0.1) (Err UnknownType))) (sym (eq-eqb a.0.0 MANAGEMENT managed)) ∙ a.2 in
          management_ok octets a.0.1 message (is ∙ ap (λ (n : ℕ). n ∷ a.0.1) managed) behind e'
      | inr ne ↦
          let e' = ap (λ b. cond b (management_at a.0.1) (cond (eqb a.0.0 TRANSFER) (transfer_at a.0.1) (Err UnknownType))) (sym (ne_eqb a.0.0 MANAGEMENT ne)) ∙ a.2 in
          elim (cases_eq a.0.0 TRANSFER) [
            | inl passed_on ↦
                let e'' = ap (λ b. cond b (transfer_at a.0.1) (Err UnknownType)) (sym (eq-eqb a.0.0 TRANSFER passed_on)) ∙ e' in
                transfer_ok octets a.0.1 message (is ∙ ap (λ (n : ℕ). n ∷ a.0.1) passed_on) behind e''
            | inr other ↦
                let e'' = ap (λ b. cond b (transfer_at a.0.1) (Err UnknownType)) (sym (ne_eqb a.0.0 TRANSFER other)) ∙ e' in absurd cc
          ]
    ]
