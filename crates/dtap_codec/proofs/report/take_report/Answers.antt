-- SPDX-License-Identifier: MIT OR Apache-2.0
-- The fields of a report are read in turn, and no bit is left.
use Rattle.std.proofs.Common.{◌≡◌, ℕ, [], ◌∷◌, subst, ◌∙◌, arith, rules}
use Rattle.dtap_codec.specs.Bits.{Begin, field}
use Rattle.dtap_codec.proofs.Fields.{Begin-append}
use Rattle.dtap_codec.proofs.Reports.{bit_is_one, bit_is_zero}
use Rattle.dtap_codec.proofs.report.take_report.Goals as goal

as_number : (n m many number left rest : ℕ) → n ≡ m → Begin (field 1 n ∷ []) many number left rest →
    Begin (field 1 m ∷ []) many number left rest
as_number n m many number left rest e h =
    let P : ℕ → Type 0 = λ v. Begin (field 1 v ∷ []) many number left rest in
    subst P e h

pub returns : goal.returns
returns c =
    let dtx_used = as_number _ _ _ _ _ _ (bit_is_one c.take-dtx_used.result c.take-dtx_used.ensures.fit.0) c.take-dtx_used.ensures in
    let valid = as_number _ _ _ _ _ _ (bit_is_zero c.take-valid.result c.take-valid.ensures.fit.0) c.take-valid.ensures in
    let third = Begin-append c.take-third.ensures (Begin-append c.take-rxqual_full.ensures (Begin-append c.take-rxqual_sub.ensures (Begin-append c.take-no_ncell.ensures c.take_entries-entries.ensures))) in
    let second = Begin-append c.take-second.ensures (Begin-append valid (Begin-append c.take-rxlev_sub.ensures third)) in
    let all = Begin-append c.take-ba_used.ensures (Begin-append dtx_used (Begin-append c.take-rxlev_full.ensures second)) in
    record {
      second = c.take-second.result;
      third = c.take-third.result;
      six = search rules;
      fit = all.fit;
      text = all.writes ∙ omega arith;
    }
