-- SPDX-License-Identifier: MIT OR Apache-2.0
-- What the switch reads in the frame of a message that a connection puts, if the frame is read as a
-- message whose text it is.
use Rattle.world_laws.proofs.Prelude.{◌≡◌, ℕ, List, [], ◌∷◌, ◌++◌, drop, slice_index_or, Some, Ok, refl, sym, ap, ◌∙◌, subst, result_ok}
use Rattle.world_laws.proofs.Prelude.{Bssap, Management, Transfer, Bssmap, InterfaceFault, Sccp, bssap_text, IsReference, sccp_text}
use Rattle.world_laws.proofs.Prelude.{Message, Station, Request, Data, ReleaseComplete, Out, IsReadOf, IsText, eqb-false, Result}
use Rattle.world_laws.proofs.Prelude.{append_cancel_right, Short, CellIdentifier, reference_at, reference_text, data_behind_at, bind_ok}
use Rattle.world_laws.proofs.Prelude.{ok_is}
use Rattle.bssmap_codec.specs.declared.bssmap.Bssmap.TheVariants as bssmap
use Rattle.bssmap_codec.specs.declared.sccp.Sccp.TheVariants as sccp
use Rattle.bssmap_codec.specs.BssmapType.{bssmap_octet, type_of}
use Rattle.bssmap_codec.specs.SccpReading.{data_form_at, sccp_reading}
use Rattle.bssmap_codec.specs.SccpType.{sccp_type}
use Rattle.bssmap_codec.proofs.Fronts.{reference_again}
use Rattle.conn_messages.specs.Out.{out_of}
use Rattle.octets.specs.Front.{octet_at}
use Rattle.world_laws.specs.References.Naming.{IsPlain}
use Rattle.world_laws.specs.References.Reads.{IsPlainRead, Read, asks, clears, initial_read, management_read, nothing, sccp_read, data_read}

-- ---- two messages in one frame

data_user : (d d' : ℕ) (b b' : Bssap) →
    sccp_text (sccp.DataForm1 d (bssap_text b)) ≡ sccp_text (sccp.DataForm1 d' (bssap_text b')) →
    bssap_text b ≡ bssap_text b'
data_user d d' b b' same = ap (drop 7) same

request_user : (n n' : ℕ) (b b' : Bssap) →
    sccp_text (sccp.ConnectionRequest n (Some (bssap_text b))) ≡ sccp_text (sccp.ConnectionRequest n' (Some (bssap_text b'))) →
    bssap_text b ≡ bssap_text b'
request_user n n' b b' same = append_cancel_right (bssap_text b) (bssap_text b') (0 ∷ []) (ap (drop 12) same)

-- the reference of DT1 is read as it was put
data_to : (d d' : ℕ) (rest user : List ℕ) →
    IsReference d →
    sccp_reading (6 ∷ (reference_text d ++ rest)) ≡ Ok (sccp.DataForm1 d' user) →
    d ≡ d'
unfolding sccp_reading octet_at sccp_type data_form_at
data_to d d' rest user three is =
    let a = bind_ok (reference_at (reference_text d ++ rest)) _ (sccp.DataForm1 d' user) is in
    let b = bind_ok (octet_at Short a.0.1) _ (sccp.DataForm1 d' user) a.2 in
    let c = bind_ok (octet_at Short b.0.1) _ (sccp.DataForm1 d' user) b.2 in
    let e = bind_ok (data_behind_at b.0.0 b.0.1 c.0.0) _ (sccp.DataForm1 d' user) c.2 in
    let own : (d, rest) ≡ a.0 = ok_is {A = ℕ × List ℕ} {F = InterfaceFault} (d, rest) a.0 (sym (reference_again d rest three) ∙ a.1) in
    ap (λ (p : ℕ × List ℕ). p.0) own ∙ same a.0.0 e.0.0 (ok_is {A = Sccp} {F = InterfaceFault} (sccp.DataForm1 a.0.0 e.0.0) (sccp.DataForm1 d' user) e.2)
  where
    same : (x : ℕ) (xs : List ℕ) → sccp.DataForm1 x xs ≡ sccp.DataForm1 d' user → x ≡ d'
    same x xs is = cc

-- ---- messages of BSSMAP with the octet of a type

clear_octet : (b : Bssmap) → bssmap_octet (type_of b) ≡ bssmap_octet (type_of bssmap.ClearComplete) → b ≡ bssmap.ClearComplete
clear_octet bssmap.ClearComplete is = refl
clear_octet _ is = absurd (eqb-false _ _ refl is)

initial_octet : (b : Bssmap) →
    bssmap_octet (type_of b) ≡ 0x57 →
    (cell : CellIdentifier) × (initial : List ℕ) × (b ≡ bssmap.CompleteLayer3Information cell initial)
initial_octet (bssmap.CompleteLayer3Information cell initial) is = (cell, initial, refl)
initial_octet _ is = absurd (eqb-false _ 0x57 refl is)

-- neither CLEAR COMPLETE nor an initial message
unfoldable IsOrdinary : Bssmap → Type 0
IsOrdinary bssmap.ClearComplete = ⊥
IsOrdinary (bssmap.CompleteLayer3Information cell initial) = ⊥
IsOrdinary _ = Unit {0}

ordinary_octet : (b b' : Bssmap) → IsOrdinary b → bssmap_octet (type_of b) ≡ bssmap_octet (type_of b') → IsOrdinary b'
unfolding IsOrdinary
ordinary_octet b bssmap.ClearComplete ordinary same = subst IsOrdinary (clear_octet b same) ordinary
ordinary_octet b (bssmap.CompleteLayer3Information cell initial) ordinary same = let is = initial_octet b same in subst IsOrdinary is.2 ordinary
ordinary_octet b _ ordinary same = tt

ordinary_read : (k d : ℕ) (b : Bssmap) → IsOrdinary b → d ≡ k → IsPlainRead k (management_read d b)
unfolding IsOrdinary
ordinary_read k d bssmap.ClearComplete ordinary is = absurd ordinary
ordinary_read k d (bssmap.CompleteLayer3Information cell initial) ordinary is = absurd ordinary
ordinary_read k d _ ordinary is = is

-- ---- one frame

-- what its body says
abbrev pub body_read : Out → Read
body_read out = sccp_read (result_ok (sccp_reading out.frame.body))

-- DT1 is read as DT1 to the same reference, with a message of the same text
record IsData (octets : List ℕ) (k : ℕ) (b : Bssap) : Type 0 where
  other : Bssap
  same : bssap_text b ≡ bssap_text other
  reads : sccp_read (result_ok (sccp_reading octets)) ≡ data_read k (Some other)

data_is_read : (n k : ℕ) (b : Bssap) (m : Message) →
    IsReference k →
    out_of n (Data k b) ≡ out_of n m →
    IsReadOf n m (out_of n (Data k b)).frame.body →
    IsData (out_of n (Data k b)).frame.body k b
unfolding out_of
data_is_read n k b (Station station message) three same read = absurd (eqb-false 0xfd 0 refl (ap (λ (o : Out). o.frame.stream) same))
data_is_read n k b (Request message) three same read = absurd (eqb-false 6 1 refl (ap (λ (o : Out). slice_index_or o.frame.body 0 0) same))
data_is_read n k b (ReleaseComplete destination) three same read = absurd (eqb-false 6 5 refl (ap (λ (o : Out). slice_index_or o.frame.body 0 0) same))
data_is_read n k b (Data d other) three same read =
    let to : k ≡ d = data_to k d _ read.0 three read.1 in record {
      other = other;
      same = data_user k d b other (ap (λ (o : Out). o.frame.body) same);
      reads = ap (λ (r : Result Sccp InterfaceFault). sccp_read (result_ok r)) read.1 ∙ ap (λ (r : Result Bssap InterfaceFault). data_read d (result_ok r)) read.2 ∙ ap (λ (x : ℕ). data_read x (Some other)) (sym to);
    }

-- a message of BSSMAP
managed : (b : Bssmap) (other : Bssap) →
    bssap_text (Management b) ≡ bssap_text other →
    (b' : Bssmap) × (other ≡ Management b') × (bssmap_octet (type_of b) ≡ bssmap_octet (type_of b'))
managed b (Management b') same = (b', refl, ap (λ (xs : List ℕ). slice_index_or xs 2 0) same)
managed b (Transfer dlci message) same = absurd (eqb-false 0 1 refl (ap (λ (xs : List ℕ). slice_index_or xs 0 0) same))

ordinary_data : (n k : ℕ) (b : Bssmap) →
    IsReference k →
    IsOrdinary b →
    IsText n (out_of n (Data k (Management b))) →
    IsPlainRead k (body_read (out_of n (Data k (Management b))))
ordinary_data n k b three ordinary text =
    let form = data_is_read n k (Management b) text.message three text.put text.read in
    let other = managed b form.other form.same in
    subst (IsPlainRead k) (sym (form.reads ∙ ap (λ (x : Bssap). data_read k (Some x)) other.1)) (ordinary_read k k other.0 (ordinary_octet b other.0 ordinary other.2) refl)

carried_data : (n k dlci : ℕ) (message : List ℕ) →
    IsReference k →
    IsText n (out_of n (Data k (Transfer dlci message))) →
    IsPlainRead k (body_read (out_of n (Data k (Transfer dlci message))))
carried_data n k dlci message three text =
    let form = data_is_read n k (Transfer dlci message) text.message three text.put text.read in
    subst (IsPlainRead k) (sym form.reads) (by form.other form.same)
  where
    by : (other : Bssap) → bssap_text (Transfer dlci message) ≡ bssap_text other → IsPlainRead k (data_read k (Some other))
    by (Transfer dlci' message') same = refl
    by (Management b) same = absurd (eqb-false 1 0 refl (ap (λ (xs : List ℕ). slice_index_or xs 0 0) same))

pub clear_data : (n k : ℕ) →
    IsReference k →
    IsText n (out_of n (Data k (Management bssmap.ClearComplete))) →
    body_read (out_of n (Data k (Management bssmap.ClearComplete))) ≡ clears k
clear_data n k three text =
    let form = data_is_read n k (Management bssmap.ClearComplete) text.message three text.put text.read in
    let other = managed bssmap.ClearComplete form.other form.same in
    form.reads ∙ ap (λ (x : Bssap). data_read k (Some x)) (other.1 ∙ ap (λ (b : Bssmap). Management b) (clear_octet other.0 (sym other.2)))

-- CR
initial_request : (n : ℕ) (cell : CellIdentifier) (initial : List ℕ) (m : Message) →
    out_of n (Request (Management (bssmap.CompleteLayer3Information cell initial))) ≡ out_of n m →
    (octets : List ℕ) →
    IsReadOf n m octets →
    (message : List ℕ) × (sccp_read (result_ok (sccp_reading octets)) ≡ asks n message)
unfolding out_of
initial_request n cell initial (Station station message) same octets read = absurd (eqb-false 0xfd 0 refl (ap (λ (o : Out). o.frame.stream) same))
initial_request n cell initial (Data d message) same octets read = absurd (eqb-false 1 6 refl (ap (λ (o : Out). slice_index_or o.frame.body 0 0) same))
initial_request n cell initial (ReleaseComplete destination) same octets read = absurd (eqb-false 1 5 refl (ap (λ (o : Out). slice_index_or o.frame.body 0 0) same))
initial_request n cell initial (Request message) same octets read =
    let other = managed (bssmap.CompleteLayer3Information cell initial) message (request_user n n (Management (bssmap.CompleteLayer3Information cell initial)) message (ap (λ (o : Out). o.frame.body) same)) in
    let is = initial_octet other.0 (sym other.2) in (
      is.1,
      ap (λ (r : Result Sccp InterfaceFault). sccp_read (result_ok r)) read.1 ∙ ap (λ (r : Result Bssap InterfaceFault). initial_read n (result_ok r)) read.2
          ∙ ap (λ (x : Bssap). initial_read n (Some x)) (other.1 ∙ ap (λ (b : Bssmap). Management b) is.2),
    )

pub request_read : (n : ℕ) (cell : CellIdentifier) (initial : List ℕ) →
    IsText n (out_of n (Request (Management (bssmap.CompleteLayer3Information cell initial)))) →
    (message : List ℕ) × (body_read (out_of n (Request (Management (bssmap.CompleteLayer3Information cell initial)))) ≡ asks n message)
request_read n cell initial text = initial_request n cell initial text.message text.put _ text.read

-- RLC
release_read : (n d : ℕ) (m : Message) →
    out_of n (ReleaseComplete d) ≡ out_of n m →
    (octets : List ℕ) →
    IsReadOf n m octets →
    sccp_read (result_ok (sccp_reading octets)) ≡ nothing
unfolding out_of
release_read n d (Station station message) same octets read = absurd (eqb-false 0xfd 0 refl (ap (λ (o : Out). o.frame.stream) same))
release_read n d (Request message) same octets read = absurd (eqb-false 5 1 refl (ap (λ (o : Out). slice_index_or o.frame.body 0 0) same))
release_read n d (Data d' message) same octets read = absurd (eqb-false 5 6 refl (ap (λ (o : Out). slice_index_or o.frame.body 0 0) same))
release_read n d (ReleaseComplete d') same octets read = ap (λ (r : Result Sccp InterfaceFault). sccp_read (result_ok r)) read

pub released_read : (n d : ℕ) → IsText n (out_of n (ReleaseComplete d)) → body_read (out_of n (ReleaseComplete d)) ≡ nothing
released_read n d text = release_read n d text.message text.put _ text.read

pub plain_read : (n k d : ℕ) (b : Bssap) →
    IsReference k →
    IsPlain k (Data d b) →
    IsText n (out_of n (Data d b)) →
    IsPlainRead k (body_read (out_of n (Data d b)))
unfolding IsOrdinary
plain_read n k d (Transfer dlci message) three plain text =
    let now : IsText n (out_of n (Data k (Transfer dlci message))) = subst (λ (x : ℕ). IsText n (out_of n (Data x (Transfer dlci message)))) plain text in
    subst (λ (x : ℕ). IsPlainRead k (body_read (out_of n (Data x (Transfer dlci message))))) (sym plain) (carried_data n k dlci message three now)
plain_read n k d (Management b) three plain text = by b plain text where
  now : (b : Bssmap) →
      IsOrdinary b →
      d ≡ k →
      IsText n (out_of n (Data d (Management b))) →
      IsPlainRead k (body_read (out_of n (Data d (Management b))))
  now b ordinary to text = subst (λ (x : ℕ). IsPlainRead k (body_read (out_of n (Data x (Management b))))) (sym to) (ordinary_data n k b three ordinary (subst (λ (x : ℕ). IsText n (out_of n (Data x (Management b)))) to text))

  by : (b : Bssmap) →
      IsPlain k (Data d (Management b)) →
      IsText n (out_of n (Data d (Management b))) →
      IsPlainRead k (body_read (out_of n (Data d (Management b))))
  by (bssmap.AssignmentRequest channel_type) plain text = now (bssmap.AssignmentRequest channel_type) tt plain text
  by (bssmap.AssignmentComplete rr_cause) plain text = now (bssmap.AssignmentComplete rr_cause) tt plain text
  by (bssmap.AssignmentFailure cause rr_cause) plain text = now (bssmap.AssignmentFailure cause rr_cause) tt plain text
  by (bssmap.HandoverPerformed cause cell) plain text = now (bssmap.HandoverPerformed cause cell) tt plain text
  by (bssmap.ClearCommand cause) plain text = now (bssmap.ClearCommand cause) tt plain text
  by (bssmap.ClearRequest cause) plain text = now (bssmap.ClearRequest cause) tt plain text
  by (bssmap.SapiNReject dlci cause) plain text = now (bssmap.SapiNReject dlci cause) tt plain text
  by bssmap.CipherModeCommand plain text = now bssmap.CipherModeCommand tt plain text
  by (bssmap.CipherModeReject cause) plain text = now (bssmap.CipherModeReject cause) tt plain text
  by _ plain text = absurd plain
