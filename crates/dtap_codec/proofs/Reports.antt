-- SPDX-License-Identifier: MIT OR Apache-2.0
-- A number writes at most one report.
use Rattle.std.proofs.Common.{◌≡◌, ℕ, ◌<◌, Bool, true, false, not, eqb, List, [], ◌∷◌, length, suc, zero, refl, sym, ap, ◌∙◌, arith}
use Rattle.dtap_codec.specs.declared.report.Neighbour.{Neighbour}
use Rattle.dtap_codec.specs.declared.report.Report.{Report}
use Rattle.dtap_codec.specs.Bits.{Field, field}
use Rattle.dtap_codec.specs.Report.{bit, entries_fields, report_fields, Writes}
use Rattle.dtap_codec.proofs.Fields.{widths, same_fields}

-- a bit that is read as a flag
pub bit_is_one : (n : ℕ) → n < 2 → n ≡ bit (eqb n 1)
bit_is_one zero h = refl
bit_is_one (suc zero) h = refl
bit_is_one (suc (suc n)) h = absurd (omega arith)

pub bit_is_zero : (n : ℕ) → n < 2 → n ≡ bit (not (eqb n 0))
bit_is_zero zero h = refl
bit_is_zero (suc zero) h = refl
bit_is_zero (suc (suc n)) h = absurd (omega arith)

same_bit : (a b : Bool) → bit a ≡ bit b → a ≡ b
same_bit true true e = refl
same_bit true false e = absurd (omega arith)
same_bit false true e = absurd (omega arith)
same_bit false false e = refl

same_not : (a b : Bool) → bit (not a) ≡ bit (not b) → a ≡ b
same_not true true e = refl
same_not true false e = absurd (omega arith)
same_not false true e = absurd (omega arith)
same_not false false e = refl

widths-entries : (ns ms : List Neighbour) → length ns ≡ length ms → widths (entries_fields ns) ≡ widths (entries_fields ms)
widths-entries [] [] e = refl
widths-entries [] (m ∷ ms) e = absurd (omega arith)
widths-entries (n ∷ ns) [] e = absurd (omega arith)
widths-entries (n ∷ ns) (m ∷ ms) e =
    let others : length ns ≡ length ms = omega arith in
    ap (λ ws. 6 ∷ 5 ∷ 6 ∷ ws) (widths-entries ns ms others)

same_entries : (ns ms : List Neighbour) → length ns ≡ length ms → entries_fields ns ≡ entries_fields ms → ns ≡ ms
same_entries [] [] e f = refl
same_entries [] (m ∷ ms) e f = absurd (omega arith)
same_entries (n ∷ ns) [] e f = absurd (omega arith)
same_entries (n ∷ ns) (m ∷ ms) e f =
    let count : length ns ≡ length ms = omega arith in
    let rest : entries_fields ns ≡ entries_fields ms = cc in
    let rxlev : field 6 n.rxlev ≡ field 6 m.rxlev = cc in
    let bcch_freq : field 5 n.bcch_freq ≡ field 5 m.bcch_freq = cc in
    let bsic : field 6 n.bsic ≡ field 6 m.bsic = cc in
    let others : ns ≡ ms = same_entries ns ms count rest in
    let here : n ≡ m =
    ap (λ v. record n { rxlev = v }) (ap (λ (x : Field). x.value) rxlev)
    ∙ ap (λ v. record { rxlev = m.rxlev; bcch_freq = v; bsic = n.bsic }) (ap (λ (x : Field). x.value) bcch_freq)
    ∙ ap (λ v. record m { bsic = v }) (ap (λ (x : Field). x.value) bsic) in
    cc

-- a report from its fields
report_with : ℕ → Bool → ℕ → Bool → ℕ → ℕ → ℕ → ℕ → List Neighbour → Report
report_with ba dtx full valid sub qual_full qual_sub ncell entries =
    record { ba_used = ba; dtx_used = dtx; rxlev_full = full; valid = valid; rxlev_sub = sub; rxqual_full = qual_full; rxqual_sub = qual_sub; no_ncell = ncell; entries = entries }

report_with-fields : (r : Report) →
    report_with r.ba_used r.dtx_used r.rxlev_full r.valid r.rxlev_sub r.rxqual_full r.rxqual_sub r.no_ncell r.entries ≡ r
unfolding report_with
report_with-fields r = refl

value_same : (width m n : ℕ) → field width m ≡ field width n → m ≡ n
value_same width m n e = ap (λ (x : Field). x.value) e

-- One number is that of one report at most.
pub same_report : (number : ℕ) (r s : Report) → Writes number r → Writes number s → r ≡ s
same_report number r s h k =
    let count : length r.entries ≡ length s.entries = h.six ∙ sym k.six in
    let same : report_fields h.second h.third r ≡ report_fields k.second k.third s =
    same_fields (report_fields h.second h.third r) (report_fields k.second k.third s) (ap (λ ws. 1 ∷ 1 ∷ 6 ∷ 1 ∷ 1 ∷ 6 ∷ 1 ∷ 3 ∷ 3 ∷ 3 ∷ ws) (widths-entries r.entries s.entries count)) h.fit k.fit (sym h.text ∙ k.text) in
    let ba : r.ba_used ≡ s.ba_used = value_same 1 _ _ cc in
    let dtx : r.dtx_used ≡ s.dtx_used = same_bit _ _ (value_same 1 _ _ cc) in
    let full : r.rxlev_full ≡ s.rxlev_full = value_same 6 _ _ cc in
    let valid : r.valid ≡ s.valid = same_not _ _ (value_same 1 _ _ cc) in
    let sub : r.rxlev_sub ≡ s.rxlev_sub = value_same 6 _ _ cc in
    let qual_full : r.rxqual_full ≡ s.rxqual_full = value_same 3 _ _ cc in
    let qual_sub : r.rxqual_sub ≡ s.rxqual_sub = value_same 3 _ _ cc in
    let ncell : r.no_ncell ≡ s.no_ncell = value_same 3 _ _ cc in
    let entries : r.entries ≡ s.entries = same_entries r.entries s.entries count cc in
    let joined : report_with r.ba_used r.dtx_used r.rxlev_full r.valid r.rxlev_sub r.rxqual_full r.rxqual_sub r.no_ncell r.entries ≡ report_with s.ba_used s.dtx_used s.rxlev_full s.valid s.rxlev_sub s.rxqual_full s.rxqual_sub s.no_ncell s.entries = cc in
    sym (report_with-fields r) ∙ joined ∙ report_with-fields s
