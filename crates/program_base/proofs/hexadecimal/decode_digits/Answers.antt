-- SPDX-License-Identifier: MIT OR Apache-2.0
use Rattle.std.proofs.Common.{◌++◌, ◌∙◌, List, ℕ, Some, sym, ap, arith}
use Rattle.program_base.proofs.HexadecimalLemmas.{octets_in-is, octets_of, written_all}
use Rattle.program_base.proofs.hexadecimal.decode_digits.Goals as goal

pub loop-rest-init : goal.loop-rest-init
loop-rest-init c =
    let word = octets_in-is c.args.digits.now c.requires in
    let even = word.2 in
    record {
      whole = ap (λ (octets : List ℕ). octets ++ octets_of c.args.digits.now) c.in_ok-octets.ensures.items;
      digits = word.1;
      room = omega (arith, even, c.in_ok-octets.ensures.len, c.in_ok-octets.ensures.exact);
    }

pub returns : goal.returns
returns c =
    let word = octets_in-is c.args.digits.now c.requires in
    word.0 ∙ ap Some (sym (written_all c.loop-rest.octets.items c.loop-rest.rest.now (octets_of c.args.digits.now) (omega arith) c.loop-rest.invariant.whole))
