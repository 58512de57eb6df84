-- SPDX-License-Identifier: MIT OR Apache-2.0
use Rattle.std.proofs.Common.{◌≡◌, Bool, true, false, true≢false, sym, arith}
use Rattle.octets.proofs.Steps.{octet_ok}
use Rattle.bssmap_codec.specs.declared.fault.InterfaceFault.TheVariants.{Short}
use Rattle.bssmap_codec.proofs.Sccps.{form_first}
use Rattle.bssmap_codec.proofs.data_form.read_data_form.Goals as goal

pub returns-then-not-is_data_form-clause-none : goal.returns-then-not-is_data_form-clause-none
returns-then-not-is_data_form-clause-none c = λ destination user e.
    let is = octet_ok Short c.args.octets.now (c.in-Ok.first, c.in-Ok.content.now) (sym c.in-Ok.ensures) in
    let known = form_first c.args.octets.now destination user c.in-Ok.first c.in-Ok.content.now (λ i. omega (arith, c.type_inv.octets i)) is e in
    let no : ◌≡◌ {A = Bool} false true = c.if-not-is_data_form.ensures.1 known in
    true≢false (sym no)
