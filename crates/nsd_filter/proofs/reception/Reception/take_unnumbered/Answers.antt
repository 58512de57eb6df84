-- SPDX-License-Identifier: MIT OR Apache-2.0
use Rattle.std.proofs.Common.{◌≡◌, ℕ, None, [], ◌∷◌, ◌++◌, sym, ap, subst, rules}
use Rattle.dtap_codec.specs.Number.{count_of, number_in}
use Rattle.nsd_filter.specs.Reception.{ReceptionState}
use Rattle.nsd_filter.proofs.Keeping.{is_kept_unnumbered}
use Rattle.nsd_filter.proofs.reception.Reception.take_unnumbered.Goals as goal

pub invariant_of-self-2 : goal.invariant_of-self-2
invariant_of-self-2 c =
    let inside = c.self.inside in
    let modulus : c.args.self.now.modulus ≡ count_of inside.modulus = sym (ap (λ (state : ReceptionState). state.modulus) c.self.view_is) in
    let none : number_in (count_of inside.modulus) c.args.message ≡ None = subst (λ (m : ℕ). number_in m c.args.message ≡ None) modulus c.requires in
    let taken : c.push_reserved-2.new.self.items ≡ inside.taken.items ++ c.args.message ∷ [] = search rules in
    let passed : c.push_reserved.new.self.items ≡ inside.unnumbered.items ++ c.args.message ∷ [] = search rules in
    rw (taken, passed) (is_kept_unnumbered (count_of inside.modulus) inside.filter inside.taken.items inside.accepted.items inside.unnumbered.items c.args.message none c.self.invariant)
