-- SPDX-License-Identifier: MIT OR Apache-2.0
-- The channels that a row knows, and the one that serves after it, at literal values.
use Rattle.conn_rules.proofs.Prelude.{◌≡◌, [], None, refl, arith, Assignment, Handover}
use Rattle.conn_rules.specs.declared.input.Input.TheVariants as inputs
use Rattle.conn_rules.specs.Roles.{KeepsChannels}
use Rattle.conn_rules.specs.Steps.{row}
use Rattle.conn_rules.specs.Table.{row_of, serving_after}
use Rattle.conn_rules.proofs.Lives.{on_1, fresh, preparing, changing}

-- ---- what serves: the target, once its change completes

serves_after_a_complete : (serving_after changing (row_of changing (inputs.Complete (on_1 0x0a) Assignment (record { 0 = 0 })) None)).number ≡ 0x0a
unfolding row_of
serves_after_a_complete = refl

serves_after_another_complete : (serving_after changing (row_of changing (inputs.Complete (on_1 0x0a) Handover (record { 0 = 0 })) None)).number ≡ 0x41
unfolding row_of
serves_after_another_complete = refl

serves_after_a_failure : (serving_after changing (row_of changing (inputs.Failure (on_1 0x41) Assignment (record { 0 = 0 })) None)).number ≡ 0x41
unfolding row_of
serves_after_a_failure = refl

-- ---- no other channel

no_other_number : KeepsChannels fresh None (row [] (record fresh { number = 2 })) → ⊥
no_other_number kept = omega (arith, kept.number)

no_other_target : KeepsChannels fresh None (row [] (record fresh { state = preparing.state })) → ⊥
unfolding row_of
no_other_target kept = let short = kept.target.0.1 in omega arith
