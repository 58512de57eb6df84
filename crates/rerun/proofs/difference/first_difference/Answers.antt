-- SPDX-License-Identifier: MIT OR Apache-2.0
use Rattle.std.proofs.Common.{◌≡◌, ◌+◌, ◌∷◌, drop, arith, sym, subst, ◌∙◌, ap}
use Rattle.std.specs.Prelude.{option_map}
use Rattle.std.proofs.lemmas.List.{drop_all, drop_more}
use Rattle.rerun.specs.declared.difference.Extent.{Extent}
use Rattle.rerun.specs.declared.difference.Extent.TheVariants.{First}
use Rattle.rerun.specs.Difference.{first_difference, lacking}
use Rattle.rerun.proofs.Differing.{found_first, found_lack, found_more, found_other, here, some_left}
use Rattle.rerun.proofs.difference.first_difference.Goals as goal
use Rattle.rerun.proofs.difference.first_difference.Goals.{then-loop-at-test+then-at-puts+else-is_same, then-loop-at-test+else-at-puts, else-loop-at-test}

pub returns-then-at-puts-2 : goal.returns-then-at-puts-2
returns-then-at-puts-2 c =
    let outs = c.args.outs.now in
    let puts = c.args.puts.now in
    let at = c.loop-at.at in
    elim c.loop-at-test.branch [
      | then-loop-at-test+then-at-puts+else-is_same w ↦
          let out = w.index-outs-at.result in
          let put = w.index-puts-at.result in
          found_other c.args.extent outs puts at out put _ c.loop-at.invariant.same
          (drop_more outs at out w.loop-at-test.true ∙ ap (λ o. o ∷ drop (at + 1) outs) (sym w.index-outs-at.is))
          (drop_more puts at put w.if-at-puts.true ∙ ap (λ p. p ∷ drop (at + 1) puts) (sym w.index-puts-at.is))
          (sym w.is_same.ensures ∙ w.if-is_same.false)
      | then-loop-at-test+else-at-puts w ↦ absurd (omega (arith, c.if-at-puts-2.true, w.if-at-puts.false))
      | else-loop-at-test w ↦
          found_more c.args.extent outs puts at _ _ _ c.loop-at.invariant.same (drop_all at outs w.loop-at-test.false)
          (some_left puts at c.if-at-puts-2.true).2
    ]

pub returns-in-All : goal.returns-in-All
returns-in-All c =
    let outs = c.args.outs.now in
    let puts = c.args.puts.now in
    let at = c.loop-at.at in
    let found = first_difference c.args.extent outs puts in
    let lacks : option_map (λ k. at + k) (lacking c.args.extent) ≡ found =
    found_lack c.args.extent outs puts at found c.loop-at.invariant.same c.if-at-outs.true
    (drop_all at puts c.if-at-puts-2.false) in
    sym (here at) ∙ sym (ap (λ (extent : Extent). option_map (λ k. at + k) (lacking extent)) c.in-All.is) ∙ lacks

pub returns-in_default-2 : goal.returns-in_default-2
returns-in_default-2 c =
    let outs = c.args.outs.now in
    let puts = c.args.puts.now in
    let at = c.loop-at.at in
    let found = first_difference c.args.extent outs puts in
    let same : option_map (λ k. at + k) (first_difference First (drop at outs) (drop at puts)) ≡ found =
    subst (λ (extent : Extent). option_map (λ k. at + k) (first_difference extent (drop at outs) (drop at puts)) ≡ found)
    c.in_default.is c.loop-at.invariant.same in
    found_first outs puts at found same (drop_all at puts c.if-at-puts-2.false)
