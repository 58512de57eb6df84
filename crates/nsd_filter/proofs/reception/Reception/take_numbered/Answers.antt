-- SPDX-License-Identifier: MIT OR Apache-2.0
use Rattle.std.proofs.Common.{◌≡◌, ℕ, Some, [], ◌∷◌, ◌++◌, sym, ap, subst, rules}
use Rattle.dtap_codec.specs.Number.{count_of, number_in, without_number}
use Rattle.nsd_filter.specs.AcceptedList.{delivery_by}
use Rattle.nsd_filter.specs.Reception.{ReceptionState}
use Rattle.nsd_filter.proofs.Keeping.{is_kept_numbered}
use Rattle.nsd_filter.proofs.reception.Reception.take_numbered.Goals as goal

pub invariant_of-self-2 : goal.invariant_of-self-2
invariant_of-self-2 c =
    let inside = c.self.inside in
    let modulus : c.args.self.now.modulus ≡ count_of inside.modulus = sym (ap (λ (state : ReceptionState). state.modulus) c.self.view_is) in
    let number : number_in (count_of inside.modulus) c.args.message ≡ Some c.args.number = subst (λ (m : ℕ). number_in m c.args.message ≡ Some c.args.number) modulus c.requires in
    let taken : c.push_reserved.new.self.items ≡ inside.taken.items ++ c.args.message ∷ [] = search rules in
    let given : c.give_up.new.accepted.items ≡ inside.accepted.items ++ delivery_by c.judge-verdict.result (without_number c.args.message) = search rules in
    rw (taken, given) (is_kept_numbered (count_of inside.modulus) inside.filter c.judge-verdict.new.self inside.taken.items inside.accepted.items inside.unnumbered.items c.args.message c.args.number c.judge-verdict.result number c.self.invariant c.judge-verdict.ensures.verdict c.judge-verdict.ensures.after c.judge-verdict.ensures.modulus)
