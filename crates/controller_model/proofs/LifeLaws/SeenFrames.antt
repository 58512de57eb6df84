-- SPDX-License-Identifier: MIT OR Apache-2.0
-- The messages forwarded by a connection's frames are those relayed by its messages, if each frame
-- is read as a message of which it is the text.
use Rattle.controller_model.proofs.Prelude.{◌≡◌, ℕ, ◌==◌, ◌&&◌, ◌||◌, ◌⊎◌, Bool, true, false, not, if◌then◌else◌, List, [], ◌∷◌, ◌++◌, drop}
use Rattle.controller_model.proofs.Prelude.{filter, length, slice_index_or, Option, Some, Result, Ok, Err, None, ◌≤◌, arith, subst, refl}
use Rattle.controller_model.proofs.Prelude.{sym, ap, ◌∙◌, inl, inr, append-nil, true≢false, cases_Bool, cond-true, cond-false, eq-eqb}
use Rattle.controller_model.proofs.Prelude.{eqb-true, flat_map-append, AllByRecursion, flat_map, Bssap, Management, Transfer, Bssmap}
use Rattle.controller_model.proofs.Prelude.{CompleteLayer3Information, InterfaceFault, Sccp, rsl_text, is_dlci, Message, Station, Request}
use Rattle.controller_model.proofs.Prelude.{Data, ReleaseComplete, Out, SWITCH_LINK, IsReadOf, outs_of, relayed, Sapi, Zero, Three, Rsl}
use Rattle.controller_model.proofs.Prelude.{◌%◌, append_cancel_right, Short, UnknownType, reference_at, references_at, bind_ok, ok_is}
use Rattle.controller_model.proofs.Prelude.{IsSent, RslType, rsl_fields, rsl_fields_text, rsl_discriminator, rsl_octet, rsl_type_of}
use Rattle.controller_model.proofs.Prelude.{sccp_text, bssmap_octet, type_of, bssap_text, bssmap_text, content_at, fixed_references_at}
use Rattle.controller_model.proofs.Prelude.{station_out, is_of, relayed_by, is_for, outs_for, messages_on, passed_by, forwarded_by}
use Rattle.controller_model.proofs.Prelude.{forwarded_in}
use Rattle.std.proofs.Common.{ok_or}
use Rattle.std.proofs.Math.Seq.{drop-append_seam}
use Rattle.bssmap_codec.specs.declared.sccp.Sccp.TheVariants.{ConnectionConfirm, ConnectionRefused, ConnectionRequest, DataForm1, Released, ReleaseComplete as ReleaseCompleted}
use Rattle.bssmap_codec.specs.declared.sccp_type.SccpType.{SccpType}
use Rattle.bssmap_codec.specs.declared.sccp_type.SccpType.TheVariants as kinds
use Rattle.bssmap_codec.specs.SccpType.{sccp_type}
use Rattle.octets.specs.Answer.{◌>>=◌, result_map}
use Rattle.octets.specs.Front.{octet_at}
use Rattle.rsl_codec.specs.declared.rsl_type.RslType.TheVariants as rsl_kinds
use Rattle.bssmap_codec.specs.SccpReading.{refused_at, sccp_reading}
use Rattle.conn_messages.specs.Out.{out_of}
use Rattle.controller_model.proofs.LifeLaws.UsualRows.{AreUsual, IsUsual}
use Rattle.controller_model.specs.declared.forwarded.Forwarded.{Forwarded}
use Rattle.controller_model.specs.Views.{forwarded}

-- ---- the frames of one connection

is_out_for_switch : Out → Bool
is_out_for_switch out = out.to == SWITCH_LINK

unfoldable pub is_out_for_station : Out → Bool
is_out_for_station out = not (out.to == SWITCH_LINK)

pub both_filters : (number : ℕ) (test : Out → Bool) (outs : List Out) →
    filter (λ out. (out.conn == number) && test out) outs ≡ filter test (outs_for number outs)
both_filters number test [] = refl
both_filters number test (o ∷ os) = elim (cases_Bool (o.conn == number)) [
  | inl hit ↦ ap (λ (b : Bool). if b && test o then o ∷ filter (λ out. (out.conn == number) && test out) os else filter (λ out. (out.conn == number) && test out) os) hit
      ∙ ap (λ (xs : List Out). if test o then o ∷ xs else xs) (both_filters number test os)
      ∙ sym (ap (filter test) (cond-true _ (o ∷ outs_for number os) (outs_for number os) hit))
  | inr miss ↦ ap (λ (b : Bool). if b && test o then o ∷ filter (λ out. (out.conn == number) && test out) os else filter (λ out. (out.conn == number) && test out) os) miss
      ∙ both_filters number test os
      ∙ sym (ap (filter test) (cond-false _ (o ∷ outs_for number os) (outs_for number os) miss))
]

pub filter_first : (test : Out → Bool) (o : Out) (os : List Out) → filter test (o ∷ os) ≡ filter test (o ∷ []) ++ filter test os
filter_first test o os = by (test o)
  where
    by : (b : Bool) → (if b then o ∷ filter test os else filter test os) ≡ (if b then o ∷ [] else []) ++ filter test os
    by true = refl
    by false = refl

-- ---- what is forwarded

in_frame : Out → List Forwarded
in_frame out = forwarded_by (sccp_reading out.frame.body)

initial_on : (sapi : Sapi) (cell : _) (initial : List ℕ) →
    messages_on sapi (forwarded_in (Ok (Management (CompleteLayer3Information cell initial)))) ≡ relayed_by sapi (Request (Management (CompleteLayer3Information cell initial)))
initial_on Zero cell initial = refl
initial_on Three cell initial = refl

transfer_on : (sapi : Sapi) (dlci : ℕ) (message : List ℕ) →
    (dlci % 8 ≡ 0) ⊎ (dlci % 8 ≡ 3) →
    messages_on sapi (forwarded_in (Ok (Transfer dlci message))) ≡ (if is_of sapi dlci then message ∷ [] else [])
transfer_on Zero dlci message (inl zero_is) =
    ap (λ (k : ℕ). messages_on Zero (record { sapi = if k == 0 then Zero else Three; message = message } ∷ [])) zero_is ∙ sym (ap (λ (k : ℕ). if k == 0 then message ∷ [] else []) zero_is)
transfer_on Zero dlci message (inr three_is) =
    ap (λ (k : ℕ). messages_on Zero (record { sapi = if k == 0 then Zero else Three; message = message } ∷ [])) three_is ∙ sym (ap (λ (k : ℕ). if k == 0 then message ∷ [] else []) three_is)
transfer_on Three dlci message (inl zero_is) =
    ap (λ (k : ℕ). messages_on Three (record { sapi = if k == 0 then Zero else Three; message = message } ∷ [])) zero_is ∙ sym (ap (λ (k : ℕ). if k == 3 then message ∷ [] else []) zero_is)
transfer_on Three dlci message (inr three_is) =
    ap (λ (k : ℕ). messages_on Three (record { sapi = if k == 0 then Zero else Three; message = message } ∷ [])) three_is ∙ sym (ap (λ (k : ℕ). if k == 3 then message ∷ [] else []) three_is)

dlci_or : (dlci : ℕ) → is_dlci dlci ≡ true → (dlci % 8 ≡ 0) ⊎ (dlci % 8 ≡ 3)
dlci_or dlci is = elim (cases_Bool (dlci % 8 == 0)) [
  | inl hit ↦ inl (eqb-true (dlci % 8) 0 hit)
  | inr miss ↦ inr (eqb-true (dlci % 8) 3 (sym (ap (λ (b : Bool). b || (dlci % 8 == 3)) miss) ∙ is))
]

-- ---- two messages in one frame

-- a frame of a connection that is read as a message of which it is the text
pub record IsText (number : ℕ) (out : Out) : Type 0 where
  pub message : Message
  pub put : out ≡ out_of number message
  pub read : IsReadOf number message out.frame.body

same_initial : (cell cell' initial initial' : List ℕ) →
    bssmap_text (CompleteLayer3Information (record { 0 = cell }) initial) ≡ bssmap_text (CompleteLayer3Information (record { 0 = cell' }) initial') →
    initial ≡ initial'
same_initial cell cell' initial initial' same =
    let sizes : length cell ≡ length cell' = ap (λ (xs : List ℕ). slice_index_or xs 2 0) same in
    let behind : cell ++ 0x17 ∷ length initial ∷ (initial ++ []) ≡ cell' ++ 0x17 ∷ length initial' ∷ (initial' ++ []) = ap (drop 3) same in
    let rest : 0x17 ∷ length initial ∷ (initial ++ []) ≡ 0x17 ∷ length initial' ∷ (initial' ++ []) =
    sym (drop-append_seam cell (0x17 ∷ length initial ∷ (initial ++ [])))
    ∙ ap (drop (length cell)) behind ∙ ap (λ (k : ℕ). drop k (cell' ++ 0x17 ∷ length initial' ∷ (initial' ++ []))) sizes
    ∙ drop-append_seam cell' (0x17 ∷ length initial' ∷ (initial' ++ [])) in
    sym (append-nil initial) ∙ ap (drop 2) rest ∙ append-nil initial'

pub apart : (a b : ℕ) → (a == b) ≡ false → a ≡ b → ⊥
apart a b differ same = true≢false (sym (eq-eqb a b same) ∙ differ)

-- of the messages of BSSMAP one alone has the octet of its type
other_octet : (d : ℕ) (message : Bssmap) → IsUsual (Data d (Management message)) → bssmap_octet (type_of message) ≡ 0x57 → ⊥
other_octet d (CompleteLayer3Information cell initial) usual is = usual
other_octet d _ usual is = apart _ 0x57 refl is

data_user : (d d' : ℕ) (b b' : Bssap) →
    sccp_text (DataForm1 d (bssap_text b)) ≡ sccp_text (DataForm1 d' (bssap_text b')) →
    bssap_text b ≡ bssap_text b'
data_user d d' b b' same = ap (drop 7) same

request_user : (n n' : ℕ) (b b' : Bssap) →
    sccp_text (ConnectionRequest n (Some (bssap_text b))) ≡ sccp_text (ConnectionRequest n' (Some (bssap_text b'))) →
    bssap_text b ≡ bssap_text b'
request_user n n' b b' same = append_cancel_right (bssap_text b) (bssap_text b') (0 ∷ []) (ap (drop 12) same)

-- ---- one frame

-- DTAP
transfer_seen : (number d dlci : ℕ) (x : List ℕ) →
    is_dlci dlci ≡ true →
    (m' : Message) →
    out_of number (Data d (Transfer dlci x)) ≡ out_of number m' →
    (octets : List ℕ) →
    IsReadOf number m' octets →
    (sapi : Sapi) →
    messages_on sapi (forwarded_by (sccp_reading octets)) ≡ (if is_of sapi dlci then x ∷ [] else [])
unfolding out_of
transfer_seen number d dlci x usual (Station station message) same octets read sapi = absurd (apart 0xfd 0 refl (ap (λ (o : Out). o.frame.stream) same))
transfer_seen number d dlci x usual (Request message) same octets read sapi = absurd (apart 6 1 refl (ap (λ (o : Out). slice_index_or o.frame.body 0 0) same))
transfer_seen number d dlci x usual (ReleaseComplete destination) same octets read sapi = absurd (apart 6 5 refl (ap (λ (o : Out). slice_index_or o.frame.body 0 0) same))
transfer_seen number d dlci x usual (Data d' (Management message)) same octets read sapi =
    absurd (apart 1 0 refl (ap (λ (xs : List ℕ). slice_index_or xs 0 0) (data_user d d' (Transfer dlci x) (Management message) (ap (λ (o : Out). o.frame.body) same))))
transfer_seen number d dlci x usual (Data d' (Transfer dlci' x')) same octets read sapi =
    let texts = data_user d d' (Transfer dlci x) (Transfer dlci' x') (ap (λ (o : Out). o.frame.body) same) in
    let links : dlci ≡ dlci' = ap (λ (xs : List ℕ). slice_index_or xs 1 0) texts in
    let messages : x ≡ x' = ap (drop 3) texts in
    ap (λ (r : Result Sccp InterfaceFault). messages_on sapi (forwarded_by r)) read.1
    ∙ ap (λ (r : Result Bssap InterfaceFault). messages_on sapi (forwarded_in r)) read.2
    ∙ ap (λ (k : ℕ). messages_on sapi (forwarded_in (Ok (Transfer k x')))) (sym links)
    ∙ ap (λ (xs : List ℕ). messages_on sapi (forwarded_in (Ok (Transfer dlci xs)))) (sym messages)
    ∙ transfer_on sapi dlci x (dlci_or dlci usual)

-- another message of BSSMAP on the connection
management_seen : (number d : ℕ) (b : Bssmap) →
    IsUsual (Data d (Management b)) →
    (m' : Message) →
    out_of number (Data d (Management b)) ≡ out_of number m' →
    (octets : List ℕ) →
    IsReadOf number m' octets →
    (sapi : Sapi) →
    messages_on sapi (forwarded_by (sccp_reading octets)) ≡ []
unfolding out_of
management_seen number d b usual (Station station message) same octets read sapi = absurd (apart 0xfd 0 refl (ap (λ (o : Out). o.frame.stream) same))
management_seen number d b usual (Request message) same octets read sapi = absurd (apart 6 1 refl (ap (λ (o : Out). slice_index_or o.frame.body 0 0) same))
management_seen number d b usual (ReleaseComplete destination) same octets read sapi = absurd (apart 6 5 refl (ap (λ (o : Out). slice_index_or o.frame.body 0 0) same))
management_seen number d b usual (Data d' (Transfer dlci x)) same octets read sapi =
    absurd (apart 0 1 refl (ap (λ (xs : List ℕ). slice_index_or xs 0 0) (data_user d d' (Management b) (Transfer dlci x) (ap (λ (o : Out). o.frame.body) same))))
management_seen number d b usual (Data d' (Management (CompleteLayer3Information cell initial))) same octets read sapi =
    absurd (other_octet d b usual (ap (λ (xs : List ℕ). slice_index_or xs 2 0) (data_user d d' (Management b) (Management (CompleteLayer3Information cell initial)) (ap (λ (o : Out). o.frame.body) same))))
management_seen number d b usual (Data d' (Management b')) same octets read sapi =
    ap (λ (r : Result Sccp InterfaceFault). messages_on sapi (forwarded_by r)) read.1
    ∙ ap (λ (r : Result Bssap InterfaceFault). messages_on sapi (forwarded_in r)) read.2

-- the initial message
initial_seen : (number : ℕ) (cell initial : List ℕ) (m' : Message) →
    out_of number (Request (Management (CompleteLayer3Information (record { 0 = cell }) initial))) ≡ out_of number m' →
    (octets : List ℕ) →
    IsReadOf number m' octets →
    (sapi : Sapi) →
    messages_on sapi (forwarded_by (sccp_reading octets)) ≡ relayed_by sapi (Request (Management (CompleteLayer3Information (record { 0 = cell }) initial)))
unfolding out_of
initial_seen number cell initial (Station station message) same octets read sapi = absurd (apart 0xfd 0 refl (ap (λ (o : Out). o.frame.stream) same))
initial_seen number cell initial (Data d message) same octets read sapi = absurd (apart 1 6 refl (ap (λ (o : Out). slice_index_or o.frame.body 0 0) same))
initial_seen number cell initial (ReleaseComplete destination) same octets read sapi = absurd (apart 1 5 refl (ap (λ (o : Out). slice_index_or o.frame.body 0 0) same))
initial_seen number cell initial (Request (Transfer dlci x)) same octets read sapi =
    absurd (apart 0 1 refl (ap (λ (xs : List ℕ). slice_index_or xs 0 0) (request_user number number (Management (CompleteLayer3Information (record { 0 = cell }) initial)) (Transfer dlci x) (ap (λ (o : Out). o.frame.body) same))))
initial_seen number cell initial (Request (Management (CompleteLayer3Information cell' initial'))) same octets read sapi =
    let texts = request_user number number (Management (CompleteLayer3Information (record { 0 = cell }) initial)) (Management (CompleteLayer3Information cell' initial')) (ap (λ (o : Out). o.frame.body) same) in
    let messages : initial ≡ initial' = same_initial cell cell'.0 initial initial' (ap (drop 2) texts) in
    ap (λ (r : Result Sccp InterfaceFault). messages_on sapi (forwarded_by r)) read.1
    ∙ ap (λ (r : Result Bssap InterfaceFault). messages_on sapi (forwarded_in r)) read.2
    ∙ ap (λ (xs : List ℕ). messages_on sapi (forwarded_in (Ok (Management (CompleteLayer3Information cell' xs))))) (sym messages)
    ∙ initial_on sapi cell' initial ∙ any_cell sapi
  where
    any_cell : (sapi : Sapi) →
        relayed_by sapi (Request (Management (CompleteLayer3Information cell' initial))) ≡ relayed_by sapi (Request (Management (CompleteLayer3Information (record { 0 = cell }) initial)))
    any_cell Zero = refl
    any_cell Three = refl
initial_seen number cell initial (Request (Management b')) same octets read sapi =
    absurd (other_octet 0 b' tt (sym (ap (λ (xs : List ℕ). slice_index_or xs 2 0) (request_user number number (Management (CompleteLayer3Information (record { 0 = cell }) initial)) (Management b') (ap (λ (o : Out). o.frame.body) same)))))

-- RLC
release_seen : (number d : ℕ) (m' : Message) →
    out_of number (ReleaseComplete d) ≡ out_of number m' →
    (octets : List ℕ) →
    IsReadOf number m' octets →
    (sapi : Sapi) →
    messages_on sapi (forwarded_by (sccp_reading octets)) ≡ []
unfolding out_of
release_seen number d (Station station message) same octets read sapi = absurd (apart 0xfd 0 refl (ap (λ (o : Out). o.frame.stream) same))
release_seen number d (Request message) same octets read sapi = absurd (apart 5 1 refl (ap (λ (o : Out). slice_index_or o.frame.body 0 0) same))
release_seen number d (Data d' message) same octets read sapi = absurd (apart 5 6 refl (ap (λ (o : Out). slice_index_or o.frame.body 0 0) same))
release_seen number d (ReleaseComplete d') same octets read sapi = ap (λ (r : Result Sccp InterfaceFault). messages_on sapi (forwarded_by r)) read

-- RSL is neither CR nor DT1
abbrev ForwardsNone : Option SccpType → Type 0
ForwardsNone (Some kinds.ConnectionRequest) = ⊥
ForwardsNone (Some kinds.DataForm1) = ⊥
ForwardsNone _ = Unit {0}

none_refused : (octets : List ℕ) (r : Result Sccp InterfaceFault) → refused_at octets ≡ r → forwarded_by r ≡ []
unfolding refused_at
none_refused octets (Err fault) is = refl
none_refused octets (Ok v) is =
    let a = bind_ok (reference_at octets) _ v is in
    let b = bind_ok (octet_at Short a.0.1) _ v a.2 in
    let c = bind_ok (octet_at Short b.0.1) _ v b.2 in
    ap (λ (s : Sccp). forwarded_by (Ok s)) (sym (ok_is {A = Sccp} {F = InterfaceFault} (ConnectionRefused a.0.0) v c.2))

none_of_kind : (kind : SccpType) (octets : List ℕ) → ForwardsNone (Some kind) → forwarded_by (content_at kind octets) ≡ []
none_of_kind kinds.ConnectionRefused octets none = none_refused octets (refused_at octets) refl
none_of_kind kinds.ConnectionConfirm octets none = by (fixed_references_at octets)
  where
    by : (r : Result (ℕ × ℕ) InterfaceFault) → forwarded_by (result_map (λ p. ConnectionConfirm p.0 p.1) r) ≡ []
    by (Ok p) = refl
    by (Err fault) = refl
none_of_kind kinds.Released octets none = by (fixed_references_at octets)
  where
    by : (r : Result (ℕ × ℕ) InterfaceFault) → forwarded_by (result_map (λ p. Released p.0 p.1) r) ≡ []
    by (Ok p) = refl
    by (Err fault) = refl
none_of_kind kinds.ReleaseComplete octets none = by (references_at octets)
  where
    by : (r : Result (ℕ × ℕ × List ℕ) InterfaceFault) → forwarded_by (result_map (λ p. ReleaseCompleted p.0 p.1) r) ≡ []
    by (Ok p) = refl
    by (Err fault) = refl
none_of_kind _ octets none = absurd none

none_of_octet : (k : Option SccpType) (octets : List ℕ) →
    ForwardsNone k →
    forwarded_by (ok_or k UnknownType >>= (λ kind. content_at kind octets)) ≡ []
none_of_octet None octets none = refl
none_of_octet (Some kind) octets none = none_of_kind kind octets none

rsl_octets : (kind : RslType) → ForwardsNone (sccp_type (rsl_discriminator kind))
unfolding sccp_type
rsl_octets rsl_kinds.DataRequest = tt
rsl_octets _ = tt

station_none : (x : Rsl) → forwarded_by (sccp_reading (rsl_text x)) ≡ []
unfolding sccp_reading octet_at
station_none x = none_of_octet (sccp_type (rsl_discriminator (rsl_type_of x))) (rsl_octet (rsl_type_of x) ∷ rsl_fields_text (rsl_fields x)) (rsl_octets (rsl_type_of x))

-- ---- all frames

one_frame : (number : ℕ) (m : Message) →
    IsUsual m →
    IsText number (out_of number m) →
    (sapi : Sapi) →
    messages_on sapi (flat_map in_frame (filter is_out_for_switch (out_of number m ∷ []))) ≡ relayed_by sapi m
unfolding out_of in_frame is_out_for_switch
one_frame number (Station station x) usual text sapi = by (station == SWITCH_LINK) sapi
  where
    by : (b : Bool) (sapi : Sapi) →
        messages_on sapi (flat_map in_frame (if b then station_out number station x ∷ [] else [])) ≡ relayed_by sapi (Station station x)
    by false Zero = refl
    by false Three = refl
    by true Zero = ap (λ (fs : List Forwarded). messages_on Zero (fs ++ [])) (station_none x)
    by true Three = ap (λ (fs : List Forwarded). messages_on Three (fs ++ [])) (station_none x)
one_frame number (Request (Management (CompleteLayer3Information cell initial))) usual text sapi =
    ap (messages_on sapi) (append-nil (forwarded_by (sccp_reading (out_of number (Request (Management (CompleteLayer3Information cell initial)))).frame.body)))
    ∙ initial_seen number cell.0 initial text.message text.put (out_of number (Request (Management (CompleteLayer3Information cell initial)))).frame.body text.read sapi
one_frame number (Request _) usual text sapi = absurd usual
one_frame number (Data d (Transfer dlci x)) usual text sapi =
    ap (messages_on sapi) (append-nil (forwarded_by (sccp_reading (out_of number (Data d (Transfer dlci x))).frame.body)))
    ∙ transfer_seen number d dlci x usual text.message text.put (out_of number (Data d (Transfer dlci x))).frame.body text.read sapi
one_frame number (Data d (Management b)) usual text sapi =
    ap (messages_on sapi) (append-nil (forwarded_by (sccp_reading (out_of number (Data d (Management b))).frame.body)))
    ∙ management_seen number d b usual text.message text.put (out_of number (Data d (Management b))).frame.body text.read sapi ∙ nothing sapi
  where
    nothing : (sapi : Sapi) → [] ≡ relayed_by sapi (Data d (Management b))
    nothing Zero = refl
    nothing Three = refl
one_frame number (ReleaseComplete d) usual text sapi =
    ap (messages_on sapi) (append-nil (forwarded_by (sccp_reading (out_of number (ReleaseComplete d)).frame.body)))
    ∙ release_seen number d text.message text.put (out_of number (ReleaseComplete d)).frame.body text.read sapi ∙ nothing sapi
  where
    nothing : (sapi : Sapi) → [] ≡ relayed_by sapi (ReleaseComplete d)
    nothing Zero = refl
    nothing Three = refl

frames_on : (number : ℕ) (ms : List Message) →
    AreUsual ms →
    AllByRecursion (λ m. IsText number (out_of number m)) ms →
    (sapi : Sapi) →
    messages_on sapi (flat_map in_frame (filter is_out_for_switch (outs_of number ms))) ≡ relayed sapi ms
frames_on number [] usual texts sapi = refl
frames_on number (m ∷ ms) usual texts sapi =
    ap (λ (outs : List Out). messages_on sapi (flat_map in_frame outs)) (filter_first is_out_for_switch (out_of number m) (outs_of number ms))
    ∙ ap (messages_on sapi) (flat_map-append in_frame (filter is_out_for_switch (out_of number m ∷ [])) (filter is_out_for_switch (outs_of number ms)))
    ∙ flat_map-append (passed_by sapi) (flat_map in_frame (filter is_out_for_switch (out_of number m ∷ []))) (flat_map in_frame (filter is_out_for_switch (outs_of number ms)))
    ∙ ap (λ (xs : List (List ℕ)). xs ++ messages_on sapi (flat_map in_frame (filter is_out_for_switch (outs_of number ms)))) (one_frame number m usual.0 texts.0 sapi)
    ∙ ap (λ (xs : List (List ℕ)). relayed_by sapi m ++ xs) (frames_on number ms usual.1 texts.1 sapi)

-- a frame of a connection is no PONG
text_of : (number : ℕ) (out : Out) → 1 ≤ number → out.conn ≡ number → IsSent out → IsText number out
text_of number out from_one conn sent = elim sent.is [
  | inl is ↦ record {
    message = is.message;
    put = is.put ∙ ap (λ (n : ℕ). out_of n is.message) conn;
    read = subst (λ (n : ℕ). IsReadOf n is.message out.frame.body) conn is.read;
  }
  | inr pong_is ↦ absurd (let zero_is : 0 ≡ number = sym (ap (λ (o : Out). o.conn) pong_is) ∙ conn in omega arith)
]

pub texts_of : (number : ℕ) (outs : List Out) →
    1 ≤ number →
    AllByRecursion IsSent outs →
    AllByRecursion (IsText number) (outs_for number outs)
texts_of number [] from_one sent = tt
texts_of number (o ∷ os) from_one sent = elim (cases_Bool (is_for number o)) [
  | inl hit ↦ subst (AllByRecursion (IsText number)) (sym (cond-true _ (o ∷ outs_for number os) (outs_for number os) hit)) (text_of number o from_one (eqb-true o.conn number hit) sent.0, texts_of number os from_one sent.1)
  | inr miss ↦ subst (AllByRecursion (IsText number)) (sym (cond-false _ (o ∷ outs_for number os) (outs_for number os) miss)) (texts_of number os from_one sent.1)
]

pub texts_back : (number : ℕ) (ms : List Message) →
    AllByRecursion (IsText number) (outs_of number ms) →
    AllByRecursion (λ m. IsText number (out_of number m)) ms
texts_back number [] all = tt
texts_back number (m ∷ ms) all = (all.0, texts_back number ms all.1)

pub forwarded_seen : (number : ℕ) (outs : List Out) (ms : List Message) →
    1 ≤ number →
    outs_for number outs ≡ outs_of number ms →
    AreUsual ms →
    AllByRecursion IsSent outs →
    (sapi : Sapi) →
    messages_on sapi (forwarded outs number) ≡ relayed sapi ms
unfolding forwarded in_frame is_out_for_switch
forwarded_seen number outs ms from_one are usual sent sapi =
    ap (λ (xs : List Out). messages_on sapi (flat_map in_frame xs)) (both_filters number is_out_for_switch outs ∙ ap (filter is_out_for_switch) are)
    ∙ frames_on number ms usual (texts_back number ms (subst (AllByRecursion (IsText number)) are (texts_of number outs from_one sent))) sapi
