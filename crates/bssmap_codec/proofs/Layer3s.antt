-- SPDX-License-Identifier: MIT OR Apache-2.0
-- The faults of layer 3 messages agree with the grammar.
use Rattle.std.proofs.Common.{◌≡◌, ◌≢◌, ℕ, ◌≤◌, Bool, true, false, cond, eqb, ltb, List, length, Option, Some, None, refl, arith}
use Rattle.std.proofs.lemmas.Bool.{le-ltb, ltb-false, ne_eqb, eqb-false}
use Rattle.bssmap_codec.specs.declared.fault.InterfaceFault.{InterfaceFault}
use Rattle.bssmap_codec.specs.declared.fault.InterfaceFault.TheVariants.{Short, TooLong}
use Rattle.octets.specs.declared.limits.TheConstants.{MESSAGE_LIMIT}
use Rattle.bssmap_codec.specs.Layer3.{IsLayer3, layer3_fault}

-- what a test lets through
pub chosen : (b : Bool) (fault : InterfaceFault) (later : Option InterfaceFault) → cond b (Some fault) later ≡ None →
    (b ≡ false) × (later ≡ None)
chosen true fault later e = absurd cc
chosen false fault later e = (refl, e)

nonzero : (n : ℕ) → n ≢ 0 → 1 ≤ n
nonzero n h = omega arith

pub layer3_is : (message : List ℕ) → layer3_fault message ≡ None → IsLayer3 message
layer3_is message e =
    let a = chosen (eqb (length message) 0) Short (cond (ltb MESSAGE_LIMIT (length message)) (Some TooLong) None) e in
    let b = chosen (ltb MESSAGE_LIMIT (length message)) TooLong None a.1 in
    (nonzero (length message) (eqb-false (length message) 0 a.0), ltb-false MESSAGE_LIMIT (length message) b.0)

pub layer3_passes : (message : List ℕ) → IsLayer3 message → layer3_fault message ≡ None
layer3_passes message h =
    let some : length message ≢ 0 = omega (arith, h.0) in
    rw (ne_eqb (length message) 0 some, le-ltb MESSAGE_LIMIT (length message) h.1) refl
