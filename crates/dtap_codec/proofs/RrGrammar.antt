-- SPDX-License-Identifier: MIT OR Apache-2.0
-- The reading of messages of radio resource management agrees with their grammar.
use Rattle.std.proofs.Common.{◌≡◌, ℕ, suc, ◌+◌, ◌*◌, ◌/◌, ◌%◌, ◌<◌, ◌≤◌, Bool, true, false, cond, eqb, List, [], ◌∷◌, ◌++◌, length, take, drop, Option, Some, None, Result, Ok, refl, sym, ap, subst, ◌∙◌, arith, eq-eqb, inl, inr, append-nil}
use Rattle.std.specs.List.{find}
use Rattle.std.proofs.lemmas.Bool.{cases_eq, ne_eqb, le-ltb, eqb-true}
use Rattle.std.proofs.lemmas.List.{take_at, take-append-drop, length-append, length-take}
use Rattle.octets.specs.Answer.{◌>>=◌}
use Rattle.octets.specs.Element.{AreOctets}
use Rattle.octets.specs.Front.{octet_at, split_at}
use Rattle.octets.proofs.Steps.{bind_ok, ok_is, passed, octet_ok, split_ok}
use Rattle.dtap_codec.specs.declared.message.TheConstants.{RADIO_RESOURCE}
use Rattle.dtap_codec.specs.declared.report.TheConstants.{REPORT_LENGTH}
use Rattle.dtap_codec.specs.declared.rr.CellDescription.{CellDescription}
use Rattle.dtap_codec.specs.declared.rr.ChannelDescription.{ChannelDescription}
use Rattle.dtap_codec.specs.declared.rr.RrCause.{RrCause}
use Rattle.dtap_codec.specs.declared.rr.RrMessage.{RrMessage}
use Rattle.dtap_codec.specs.declared.rr.RrMessage.TheVariants.{HandoverCommand, AssignmentCommand, HandoverComplete, HandoverFailure, AssignmentComplete, AssignmentFailure, ChannelRelease, ImmediateAssignment, MeasurementReport, PagingResponse}
use Rattle.dtap_codec.specs.declared.rr.TheConstants.{IMMEDIATE_END_LENGTH, IMMEDIATE_END, HIGHEST_POWER, NORMAL_PAGING}
use Rattle.dtap_codec.specs.declared.rr_fault.RrFault.{RrFault}
use Rattle.dtap_codec.specs.declared.rr_fault.RrFault.TheVariants.{Short, UnknownRr}
use Rattle.dtap_codec.specs.declared.rr_type.RrType.{RrType}
use Rattle.dtap_codec.specs.declared.rr_type.RrType.TheVariants as types
use Rattle.dtap_codec.specs.declared.rr_type.TheConstants.{PSEUDO_LENGTH, RR_TYPES, IMMEDIATE_ASSIGNMENT}
use Rattle.dtap_codec.specs.Rr.{cell_text, channel_text, CellFits, ChannelFits, IsHandoverCommand, IsAssignmentCommand, IsCauseOf, IsImmediateAssignment, IsMeasurementReport, IsRr, RrFits}
use Rattle.dtap_codec.specs.RrReading.{three_at, cause_of, cell_of, channel_of, handover_command_at, assignment_command_at, cause_at, immediate_assignment_at, measurement_report_at, content_at, known_type, rr_discriminator, typed_at, pseudo_at, plain_at, rr_reading}
use Rattle.dtap_codec.specs.RrText.{rr_text}
use Rattle.dtap_codec.specs.RrType.{rr_octet, rr_type}

-- ---- what is at the front

-- the octet at the front, and octets behind it
record HasFront (octets : List ℕ) (x : ℕ) (rest : List ℕ) : Type 0 where
  is : octets ≡ x ∷ rest
  first : x < 256
  behind : AreOctets rest

front_ok : (octets : List ℕ) (p : ℕ × List ℕ) → AreOctets octets → octet_at Short octets ≡ Ok p → HasFront octets p.0 p.1
front_ok octets p fits e =
    let is = octet_ok Short octets p e in
    let all : AreOctets (p.0 ∷ p.1) = subst AreOctets is fits in
    record { is = is; first = all 0; behind = λ i. all (suc i) }

record HasThree (octets : List ℕ) (x y z : ℕ) (rest : List ℕ) : Type 0 where
  is : octets ≡ x ∷ y ∷ z ∷ rest
  first : x < 256
  second : y < 256
  third : z < 256
  behind : AreOctets rest

three_ok : (octets : List ℕ) (p : ℕ × ℕ × ℕ × List ℕ) → AreOctets octets → three_at octets ≡ Ok p → HasThree octets p.0 p.1 p.2 p.3
unfolding three_at
three_ok octets p fits e =
    let a = bind_ok (octet_at Short octets) _ p e in
    let ha = front_ok octets a.0 fits a.1 in
    let b = bind_ok (octet_at Short a.0.1) _ p a.2 in
    let hb = front_ok a.0.1 b.0 ha.behind b.1 in
    let c = bind_ok (octet_at Short b.0.1) _ p b.2 in
    let hc = front_ok b.0.1 c.0 hb.behind c.1 in
    subst (λ (q : ℕ × ℕ × ℕ × List ℕ). HasThree octets q.0 q.1 q.2 q.3) (ok_is {A = ℕ × ℕ × ℕ × List ℕ} {F = RrFault} (a.0.0, b.0.0, c.0.0, c.0.1) p c.2) (record {
      is = ha.is ∙ ap (λ (xs : List ℕ). a.0.0 ∷ xs) hb.is ∙ ap (λ (xs : List ℕ). a.0.0 ∷ b.0.0 ∷ xs) hc.is;
      first = ha.first;
      second = hb.first;
      third = hc.first;
      behind = hc.behind;
    })

-- ---- descriptions

channel_again : (bits : ℕ) (c : ChannelDescription) → bits < 8 → ChannelFits c →
    channel_of c.channel.0 (c.tsc * 32 + bits * 4 + c.arfcn / 256) (c.arfcn % 256) ≡ c
channel_again bits c few fits =
    let t = fits.tsc in
    let a = fits.arfcn in
    let tsc : (c.tsc * 32 + bits * 4 + c.arfcn / 256) / 32 ≡ c.tsc = omega arith in
    let arfcn : 256 * ((c.tsc * 32 + bits * 4 + c.arfcn / 256) % 4) + c.arfcn % 256 ≡ c.arfcn = omega arith in
    rw (tsc, arfcn) refl

channel_parts : (x y z : ℕ) → y < 256 → z < 256 →
    (channel_text (y / 4 % 8) (channel_of x y z) ≡ x ∷ y ∷ z ∷ []) × ChannelFits (channel_of x y z)
channel_parts x y z hy hz =
    let second : y / 32 * 32 + y / 4 % 8 * 4 + (256 * (y % 4) + z) / 256 ≡ y = omega arith in
    let third : (256 * (y % 4) + z) % 256 ≡ z = omega arith in
    (rw (second, third) refl, record { tsc = omega arith; arfcn = omega arith })

cell_again : (c : CellDescription) → CellFits c → cell_of (c.arfcn / 256 * 64 + c.ncc * 8 + c.bcc) (c.arfcn % 256) ≡ c
cell_again c fits =
    let n = fits.ncc in
    let b = fits.bcc in
    let a = fits.arfcn in
    let arfcn : 256 * ((c.arfcn / 256 * 64 + c.ncc * 8 + c.bcc) / 64) + c.arfcn % 256 ≡ c.arfcn = omega arith in
    let ncc : (c.arfcn / 256 * 64 + c.ncc * 8 + c.bcc) / 8 % 8 ≡ c.ncc = omega arith in
    let bcc : (c.arfcn / 256 * 64 + c.ncc * 8 + c.bcc) % 8 ≡ c.bcc = omega arith in
    rw (arfcn, ncc, bcc) refl

cell_parts : (x y : ℕ) → x < 256 → y < 256 → (cell_text (cell_of x y) ≡ x ∷ y ∷ []) × CellFits (cell_of x y)
cell_parts x y hx hy =
    let first : (256 * (x / 64) + y) / 256 * 64 + x / 8 % 8 * 8 + x % 8 ≡ x = omega arith in
    let second : (256 * (x / 64) + y) % 256 ≡ y = omega arith in
    (rw (first, second) refl, record { arfcn = omega arith; ncc = omega arith; bcc = omega arith })

three_bits : (y : ℕ) → y / 4 % 8 < 8
three_bits y = omega arith

-- ---- a text is read

handover_again : (octets : List ℕ) (cell : CellDescription) (channel : ChannelDescription) (reference : ℕ) →
    IsHandoverCommand octets cell channel reference → rr_reading octets ≡ Ok (HandoverCommand cell channel reference)
unfolding rr_reading typed_at rr_type octet_at three_at handover_command_at
handover_again octets cell channel reference r =
    ap rr_reading r.is
    ∙ ap (λ (c : CellDescription). Ok (HandoverCommand c (channel_of channel.channel.0 (channel.tsc * 32 + r.bits * 4 + channel.arfcn / 256) (channel.arfcn % 256)) reference)) (cell_again cell r.cell_fits)
    ∙ ap (λ (c : ChannelDescription). Ok (HandoverCommand cell c reference)) (channel_again r.bits channel r.three_bits r.channel_fits)

assignment_again : (octets : List ℕ) (channel : ChannelDescription) → IsAssignmentCommand octets channel →
    rr_reading octets ≡ Ok (AssignmentCommand channel)
unfolding rr_reading typed_at rr_type octet_at three_at assignment_command_at
assignment_again octets channel r =
    ap rr_reading r.is ∙ ap (λ (c : ChannelDescription). Ok (AssignmentCommand c)) (channel_again r.bits channel r.three_bits r.channel_fits)

-- a list of three
three_of : (xs : List ℕ) → length xs ≡ 3 → (a b c : ℕ) × (xs ≡ a ∷ b ∷ c ∷ [])
three_of [] h = absurd (omega arith)
three_of (a ∷ []) h = absurd (omega arith)
three_of (a ∷ b ∷ []) h = absurd (omega arith)
three_of (a ∷ b ∷ c ∷ []) h = (a, b, c, refl)
three_of (a ∷ b ∷ c ∷ d ∷ xs) h = absurd (omega arith)

split_again : (size : ℕ) (octets : List ℕ) → size ≤ length octets → split_at Short size octets ≡ Ok (take size octets, drop size octets)
split_again size octets h = rw (le-ltb (length octets) size h) refl

immediate_with : (page_mode bits high a b c advance : ℕ) (channel : ChannelDescription) (last : List ℕ) → bits < 8 →
    ChannelFits channel → advance < 64 → IMMEDIATE_END_LENGTH ≤ length last
    → rr_reading (PSEUDO_LENGTH ∷ RADIO_RESOURCE ∷ IMMEDIATE_ASSIGNMENT ∷ page_mode ∷ (channel_text bits channel ++ ((a ∷ b ∷ c ∷ []) ++ (high * 64 + advance) ∷ last))) ≡ Ok (ImmediateAssignment channel (a ∷ b ∷ c ∷ []) advance)
unfolding rr_reading pseudo_at octet_at three_at immediate_assignment_at
immediate_with page_mode bits high a b c advance channel last few fits six long =
    let low : (high * 64 + advance) % 64 ≡ advance = omega arith in
    rw (split_again IMMEDIATE_END_LENGTH last long, low) (ap (λ (d : ChannelDescription). Ok (ImmediateAssignment d (a ∷ b ∷ c ∷ []) advance)) (channel_again bits channel few fits))

immediate_again : (octets : List ℕ) (channel : ChannelDescription) (request : List ℕ) (advance : ℕ) →
    IsImmediateAssignment octets channel request advance →
    rr_reading octets ≡ Ok (ImmediateAssignment channel request advance)
immediate_again octets channel request advance r =
    let t = three_of request r.three in
    ap rr_reading (r.is ∙ ap (λ (xs : List ℕ). PSEUDO_LENGTH ∷ RADIO_RESOURCE ∷ IMMEDIATE_ASSIGNMENT ∷ r.page_mode ∷ (channel_text r.bits channel ++ (xs ++ (r.high * 64 + advance) ∷ r.last))) t.3)
    ∙ immediate_with r.page_mode r.bits r.high t.0 t.1 t.2 advance channel r.last r.three_bits r.channel_fits r.six_bits r.whole
    ∙ ap (λ (xs : List ℕ). Ok (ImmediateAssignment channel xs advance)) (sym t.3)

report_again : (octets value : List ℕ) → IsMeasurementReport octets value → rr_reading octets ≡ Ok (MeasurementReport value)
unfolding rr_reading typed_at rr_type octet_at measurement_report_at
report_again octets value r =
    let long : REPORT_LENGTH ≤ length (value ++ r.more) = omega (arith, length-append value r.more, r.whole) in
    ap rr_reading r.is ∙ rw (split_again REPORT_LENGTH (value ++ r.more) long) (ap (λ (xs : List ℕ). Ok (MeasurementReport xs)) (take_at value r.more REPORT_LENGTH r.whole))

pub rr_again : (octets : List ℕ) (message : RrMessage) → IsRr octets message → rr_reading octets ≡ Ok message
unfolding rr_reading typed_at rr_type octet_at cause_at
rr_again octets (HandoverCommand cell channel reference) is = handover_again octets cell channel reference is
rr_again octets (AssignmentCommand channel) is = assignment_again octets channel is
rr_again octets (HandoverComplete cause) is = ap rr_reading is.is
rr_again octets (HandoverFailure cause) is = ap rr_reading is.is
rr_again octets (AssignmentComplete cause) is = ap rr_reading is.is
rr_again octets (AssignmentFailure cause) is = ap rr_reading is.is
rr_again octets (ChannelRelease cause) is = ap rr_reading is.is
rr_again octets (ImmediateAssignment channel request advance) is = immediate_again octets channel request advance is
rr_again octets (MeasurementReport value) is = report_again octets value is
rr_again octets (PagingResponse rest) is = ap rr_reading is

-- ---- what is read is a text

along : (octets : List ℕ) (m message : RrMessage) → (let r : Result RrMessage RrFault = Ok m in r) ≡ Ok message →
    IsRr octets m → IsRr octets message
along octets m message e is = subst (λ (x : RrMessage). IsRr octets x) (ok_is {A = RrMessage} {F = RrFault} m message e) is

handover_ok : (octets rest : List ℕ) (message : RrMessage) →
    octets ≡ RADIO_RESOURCE ∷ rr_octet types.HandoverCommand ∷ rest → AreOctets rest →
    handover_command_at rest ≡ Ok message → IsRr octets message
unfolding handover_command_at
handover_ok octets rest message is fits e =
    let a = bind_ok (octet_at Short rest) _ message e in
    let ha = front_ok rest a.0 fits a.1 in
    let b = bind_ok (octet_at Short a.0.1) _ message a.2 in
    let hb = front_ok a.0.1 b.0 ha.behind b.1 in
    let c = bind_ok (three_at b.0.1) _ message b.2 in
    let hc = three_ok b.0.1 c.0 hb.behind c.1 in
    let d = bind_ok (octet_at Short c.0.3) _ message c.2 in
    let hd = front_ok c.0.3 d.0 hc.behind d.1 in
    let f = bind_ok (octet_at Short d.0.1) _ message d.2 in
    let hf = front_ok d.0.1 f.0 hd.behind f.1 in
    let cell = cell_parts a.0.0 b.0.0 ha.first hb.first in
    let channel = channel_parts c.0.0 c.0.1 c.0.2 hc.second hc.third in
    let tail : List ℕ = d.0.0 ∷ f.0.0 ∷ f.0.1 in
    let behind : c.0.3 ≡ tail = hd.is ∙ ap (λ (xs : List ℕ). d.0.0 ∷ xs) hf.is in
    along octets (HandoverCommand (cell_of a.0.0 b.0.0) (channel_of c.0.0 c.0.1 c.0.2) d.0.0) message f.2 (record {
      bits = c.0.1 / 4 % 8;
      power = f.0.0;
      more = f.0.1;
      is = is ∙ ap (λ (xs : List ℕ). RADIO_RESOURCE ∷ rr_octet types.HandoverCommand ∷ xs) (ha.is ∙ ap (λ (xs : List ℕ). a.0.0 ∷ xs) (hb.is ∙ ap (λ (xs : List ℕ). b.0.0 ∷ xs) (hc.is ∙ ap (λ (xs : List ℕ). c.0.0 ∷ c.0.1 ∷ c.0.2 ∷ xs) behind)))
          ∙ ap (λ (xs : List ℕ). RADIO_RESOURCE ∷ rr_octet types.HandoverCommand ∷ (xs ++ (c.0.0 ∷ c.0.1 ∷ c.0.2 ∷ tail))) (sym cell.0)
          ∙ ap (λ (xs : List ℕ). RADIO_RESOURCE ∷ rr_octet types.HandoverCommand ∷ (cell_text (cell_of a.0.0 b.0.0) ++ (xs ++ tail))) (sym channel.0);
      three_bits = three_bits c.0.1;
      cell_fits = cell.1;
      channel_fits = channel.1;
    })

assignment_ok : (octets rest : List ℕ) (message : RrMessage) →
    octets ≡ RADIO_RESOURCE ∷ rr_octet types.AssignmentCommand ∷ rest → AreOctets rest →
    assignment_command_at rest ≡ Ok message → IsRr octets message
unfolding assignment_command_at
assignment_ok octets rest message is fits e =
    let c = bind_ok (three_at rest) _ message e in
    let hc = three_ok rest c.0 fits c.1 in
    let f = bind_ok (octet_at Short c.0.3) _ message c.2 in
    let hf = front_ok c.0.3 f.0 hc.behind f.1 in
    let channel = channel_parts c.0.0 c.0.1 c.0.2 hc.second hc.third in
    along octets (AssignmentCommand (channel_of c.0.0 c.0.1 c.0.2)) message f.2 (record {
      bits = c.0.1 / 4 % 8;
      power = f.0.0;
      more = f.0.1;
      is = is ∙ ap (λ (xs : List ℕ). RADIO_RESOURCE ∷ rr_octet types.AssignmentCommand ∷ xs) (hc.is ∙ ap (λ (xs : List ℕ). c.0.0 ∷ c.0.1 ∷ c.0.2 ∷ xs) hf.is) ∙ ap (λ (xs : List ℕ). RADIO_RESOURCE ∷ rr_octet types.AssignmentCommand ∷ (xs ++ f.0.0 ∷ f.0.1)) (sym channel.0);
      three_bits = three_bits c.0.1;
      channel_fits = channel.1;
    })

cause_ok : (kind : RrType) (octets rest : List ℕ) (cause : RrCause) → octets ≡ RADIO_RESOURCE ∷ rr_octet kind ∷ rest →
    AreOctets rest → cause_at rest ≡ Ok cause → IsCauseOf kind octets cause
unfolding cause_at
cause_ok kind octets rest cause is fits e =
    let a = bind_ok (octet_at Short rest) _ cause e in
    let ha = front_ok rest a.0 fits a.1 in
    subst (λ (c : RrCause). IsCauseOf kind octets c) (ok_is {A = RrCause} {F = RrFault} (cause_of a.0.0) cause a.2) (record { more = a.0.1; is = is ∙ ap (λ (xs : List ℕ). RADIO_RESOURCE ∷ rr_octet kind ∷ xs) ha.is })

report_ok : (octets rest : List ℕ) (message : RrMessage) →
    octets ≡ RADIO_RESOURCE ∷ rr_octet types.MeasurementReport ∷ rest → measurement_report_at rest ≡ Ok message →
    IsRr octets message
unfolding measurement_report_at
report_ok octets rest message is e =
    let a = bind_ok (split_at Short REPORT_LENGTH rest) _ message e in
    let f = split_ok Short REPORT_LENGTH rest a.0 a.1 in
    let long = f.long in
    along octets (MeasurementReport a.0.0) message a.2 (record {
      more = drop REPORT_LENGTH rest;
      is = is ∙ ap (λ (xs : List ℕ). RADIO_RESOURCE ∷ rr_octet types.MeasurementReport ∷ xs) (sym (take-append-drop REPORT_LENGTH rest) ∙ ap (λ (xs : List ℕ). xs ++ drop REPORT_LENGTH rest) f.front);
      whole = omega (arith, length-take REPORT_LENGTH rest, ap length f.front, long);
    })

-- a message that has a cause alone
with_cause_ok : (kind : RrType) (message_of : RrCause → RrMessage) (octets rest : List ℕ) (message : RrMessage) →
    ((cause : RrCause) → IsCauseOf kind octets cause → IsRr octets (message_of cause)) → octets ≡ RADIO_RESOURCE ∷ rr_octet kind ∷ rest →
    AreOctets rest → (cause_at rest >>= (λ cause. Ok (message_of cause))) ≡ Ok message → IsRr octets message
with_cause_ok kind message_of octets rest message its is fits e =
    let a = bind_ok (cause_at rest) _ message e in
    along octets (message_of a.0) message a.2 (its a.0 (cause_ok kind octets rest a.0 is fits a.1))

content_ok : (kind : RrType) (octets rest : List ℕ) (message : RrMessage) →
    octets ≡ RADIO_RESOURCE ∷ rr_octet kind ∷ rest → AreOctets rest → content_at kind rest ≡ Ok message →
    IsRr octets message
content_ok types.HandoverCommand octets rest message is fits e = handover_ok octets rest message is fits e
content_ok types.AssignmentCommand octets rest message is fits e = assignment_ok octets rest message is fits e
content_ok types.HandoverComplete octets rest message is fits e = with_cause_ok types.HandoverComplete (λ c. HandoverComplete c) octets rest message (λ c h. h) is fits e
content_ok types.HandoverFailure octets rest message is fits e = with_cause_ok types.HandoverFailure (λ c. HandoverFailure c) octets rest message (λ c h. h) is fits e
content_ok types.AssignmentComplete octets rest message is fits e = with_cause_ok types.AssignmentComplete (λ c. AssignmentComplete c) octets rest message (λ c h. h) is fits e
content_ok types.AssignmentFailure octets rest message is fits e = with_cause_ok types.AssignmentFailure (λ c. AssignmentFailure c) octets rest message (λ c h. h) is fits e
content_ok types.ChannelRelease octets rest message is fits e = with_cause_ok types.ChannelRelease (λ c. ChannelRelease c) octets rest message (λ c h. h) is fits e
content_ok types.ImmediateAssignment octets rest message is fits e = absurd cc
content_ok types.MeasurementReport octets rest message is fits e = report_ok octets rest message is e
content_ok types.PagingResponse octets rest message is fits e = along octets (PagingResponse rest) message e is

find_by : {K : Type 0} (p : K → Bool) (x : K) (b : Bool) (kinds : List K) (k : K) → p x ≡ b →
    cond b (Some x) (find p kinds) ≡ Some k → (find p kinds ≡ Some k → p k ≡ true) → p k ≡ true
find_by {K} p x true kinds k is e on = let same : x ≡ k = cc in subst (λ (y : K). p y ≡ true) same is
find_by p x false kinds k is e on = on e

find_is : {K : Type 0} (p : K → Bool) (kinds : List K) (k : K) → find p kinds ≡ Some k → p k ≡ true
find_is p [] k e = absurd cc
find_is {K} p (x ∷ kinds) k e = find_by {K = K} p x (p x) kinds k refl e (find_is p kinds k)

known_ok : (found : Option RrType) (kind : RrType) → known_type found ≡ Ok kind → found ≡ Some kind
known_ok None kind e = absurd cc
known_ok (Some k) kind e = ap (λ (x : RrType). Some x) (ok_is {A = RrType} {F = RrFault} k kind e)

octet_is : (octet : ℕ) (kind : RrType) → rr_type octet ≡ Some kind → octet ≡ rr_octet kind
unfolding rr_type
octet_is octet kind e = sym (eqb-true (rr_octet kind) octet (find_is (λ k. eqb (rr_octet k) octet) RR_TYPES kind e))

typed_ok : (octets rest : List ℕ) (message : RrMessage) → octets ≡ RADIO_RESOURCE ∷ rest → AreOctets rest →
    typed_at rest ≡ Ok message → IsRr octets message
unfolding typed_at
typed_ok octets rest message is fits e =
    let a = bind_ok (octet_at Short rest) _ message e in
    let ha = front_ok rest a.0 fits a.1 in
    let b = bind_ok (known_type (rr_type a.0.0)) _ message a.2 in
    content_ok b.0 octets a.0.1 message (is ∙ ap (λ (xs : List ℕ). RADIO_RESOURCE ∷ xs) (ha.is ∙ ap (λ (n : ℕ). n ∷ a.0.1) (octet_is a.0.0 b.0 (known_ok (rr_type a.0.0) b.0 b.1)))) ha.behind b.2

immediate_ok : (octets rest : List ℕ) (message : RrMessage) →
    octets ≡ PSEUDO_LENGTH ∷ RADIO_RESOURCE ∷ IMMEDIATE_ASSIGNMENT ∷ rest → AreOctets rest →
    immediate_assignment_at rest ≡ Ok message → IsRr octets message
unfolding immediate_assignment_at
immediate_ok octets rest message is fits e =
    let a = bind_ok (octet_at Short rest) _ message e in
    let ha = front_ok rest a.0 fits a.1 in
    let c = bind_ok (three_at a.0.1) _ message a.2 in
    let hc = three_ok a.0.1 c.0 ha.behind c.1 in
    let r = bind_ok (three_at c.0.3) _ message c.2 in
    let hr = three_ok c.0.3 r.0 hc.behind r.1 in
    let d = bind_ok (octet_at Short r.0.3) _ message r.2 in
    let hd = front_ok r.0.3 d.0 hr.behind d.1 in
    let f = bind_ok (split_at Short IMMEDIATE_END_LENGTH d.0.1) _ message d.2 in
    let hf = split_ok Short IMMEDIATE_END_LENGTH d.0.1 f.0 f.1 in
    let channel = channel_parts c.0.0 c.0.1 c.0.2 hc.second hc.third in
    let advance : d.0.0 ≡ d.0.0 / 64 * 64 + d.0.0 % 64 = omega arith in
    let six : d.0.0 % 64 < 64 = omega arith in
    let request : List ℕ = r.0.0 ∷ r.0.1 ∷ r.0.2 ∷ [] in
    along octets (ImmediateAssignment (channel_of c.0.0 c.0.1 c.0.2) request (d.0.0 % 64)) message f.2 (record {
      page_mode = a.0.0;
      bits = c.0.1 / 4 % 8;
      high = d.0.0 / 64;
      last = d.0.1;
      is = is ∙ ap (λ (xs : List ℕ). PSEUDO_LENGTH ∷ RADIO_RESOURCE ∷ IMMEDIATE_ASSIGNMENT ∷ xs)
          (ha.is ∙ ap (λ (xs : List ℕ). a.0.0 ∷ xs) (hc.is ∙ ap (λ (xs : List ℕ). c.0.0 ∷ c.0.1 ∷ c.0.2 ∷ xs) (hr.is ∙ ap (λ (xs : List ℕ). r.0.0 ∷ r.0.1 ∷ r.0.2 ∷ xs) (hd.is ∙ ap (λ (n : ℕ). n ∷ d.0.1) advance))))
          ∙ ap (λ (xs : List ℕ). PSEUDO_LENGTH ∷ RADIO_RESOURCE ∷ IMMEDIATE_ASSIGNMENT ∷ a.0.0 ∷ (xs ++ (request ++ (d.0.0 / 64 * 64 + d.0.0 % 64) ∷ d.0.1))) (sym channel.0);
      three_bits = three_bits c.0.1;
      channel_fits = channel.1;
      three = refl;
      six_bits = six;
      whole = hf.long;
    })

pseudo_ok : (octets rest : List ℕ) (message : RrMessage) → octets ≡ PSEUDO_LENGTH ∷ rest → AreOctets rest →
    pseudo_at rest ≡ Ok message → IsRr octets message
unfolding pseudo_at
pseudo_ok octets rest message is fits e =
    let a = bind_ok (octet_at Short rest) _ message e in
    let ha = front_ok rest a.0 fits a.1 in
    let b = bind_ok (rr_discriminator a.0.0) _ message a.2 in
    let six = passed (eqb a.0.0 RADIO_RESOURCE) UnknownRr (Ok a.0.0) b.0 b.1 in
    let k = bind_ok (octet_at Short a.0.1) _ message b.2 in
    let hk = front_ok a.0.1 k.0 ha.behind k.1 in
    let t = passed (eqb k.0.0 IMMEDIATE_ASSIGNMENT) UnknownRr (immediate_assignment_at k.0.1) message k.2 in
    immediate_ok octets k.0.1 message
    (is ∙ ap (λ (xs : List ℕ). PSEUDO_LENGTH ∷ xs) (ha.is ∙ ap (λ (n : ℕ). n ∷ a.0.1) (eqb-true a.0.0 RADIO_RESOURCE six.0) ∙ ap (λ (xs : List ℕ). RADIO_RESOURCE ∷ xs) (hk.is ∙ ap (λ (n : ℕ). n ∷ k.0.1) (eqb-true k.0.0 IMMEDIATE_ASSIGNMENT t.0))))
    hk.behind t.1

plain_ok : (octets rest : List ℕ) (first : ℕ) (message : RrMessage) → octets ≡ first ∷ rest → AreOctets rest →
    plain_at first rest ≡ Ok message → IsRr octets message
plain_ok octets rest first message is fits e =
    let b = bind_ok (rr_discriminator first) _ message e in
    let six = passed (eqb first RADIO_RESOURCE) UnknownRr (Ok first) b.0 b.1 in
    typed_ok octets rest message (is ∙ ap (λ (n : ℕ). n ∷ rest) (eqb-true first RADIO_RESOURCE six.0)) fits b.2

pub rr_ok : (octets : List ℕ) (message : RrMessage) → AreOctets octets → rr_reading octets ≡ Ok message → IsRr octets message
unfolding rr_reading
rr_ok octets message fits e =
    let a = bind_ok (octet_at Short octets) _ message e in
    let ha = front_ok octets a.0 fits a.1 in
    elim (cases_eq a.0.0 PSEUDO_LENGTH) [
      | inl same ↦
          let e' = ap (λ b. cond b (pseudo_at a.0.1) (plain_at a.0.0 a.0.1)) (sym (eq-eqb a.0.0 PSEUDO_LENGTH same)) ∙ a.2 in
          pseudo_ok octets a.0.1 message (ha.is ∙ ap (λ (n : ℕ). n ∷ a.0.1) same) ha.behind e'
      | inr ne ↦
          let e' = ap (λ b. cond b (pseudo_at a.0.1) (plain_at a.0.0 a.0.1)) (sym (ne_eqb a.0.0 PSEUDO_LENGTH ne)) ∙ a.2 in
          plain_ok octets a.0.1 a.0.0 message ha.is ha.behind e'
    ]

-- ---- what is written is a text

pub rr_text_ok : (message : RrMessage) → RrFits message → IsRr (rr_text message) message
rr_text_ok (HandoverCommand cell channel reference) h = record { bits = 0; power = HIGHEST_POWER; more = []; is = refl; three_bits = omega arith; cell_fits = h.0; channel_fits = h.1 }
rr_text_ok (AssignmentCommand channel) h = record { bits = 0; power = HIGHEST_POWER; more = []; is = refl; three_bits = omega arith; channel_fits = h }
rr_text_ok (HandoverComplete cause) h = record { more = []; is = refl }
rr_text_ok (HandoverFailure cause) h = record { more = []; is = refl }
rr_text_ok (AssignmentComplete cause) h = record { more = []; is = refl }
rr_text_ok (AssignmentFailure cause) h = record { more = []; is = refl }
rr_text_ok (ChannelRelease cause) h = record { more = []; is = refl }
rr_text_ok (ImmediateAssignment channel request advance) h =
    let low : advance ≡ 0 * 64 + advance = omega arith in
    record {
      page_mode = NORMAL_PAGING;
      bits = 0;
      high = 0;
      last = IMMEDIATE_END;
      is = ap (λ (n : ℕ). PSEUDO_LENGTH ∷ RADIO_RESOURCE ∷ IMMEDIATE_ASSIGNMENT ∷ NORMAL_PAGING ∷ (channel_text 0 channel ++ (request ++ n ∷ IMMEDIATE_END))) low;
      three_bits = omega arith;
      channel_fits = h.0;
      three = h.1;
      six_bits = h.2;
      whole = omega arith;
    }
rr_text_ok (MeasurementReport value) h = record { more = []; is = ap (λ (xs : List ℕ). RADIO_RESOURCE ∷ rr_octet types.MeasurementReport ∷ xs) (sym (append-nil value)); whole = h }
rr_text_ok (PagingResponse rest) h = refl
