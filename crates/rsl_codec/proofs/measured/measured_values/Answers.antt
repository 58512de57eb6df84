-- SPDX-License-Identifier: MIT OR Apache-2.0
use Rattle.std.proofs.Common.{◌≡◌, List, ℕ, false, true, sym, subst, ◌∙◌, arith}
use Rattle.octets.specs.Element.{AreElements}
use Rattle.rsl_codec.specs.declared.identifiers.TheConstants.{ELEMENTS}
use Rattle.rsl_codec.specs.WrittenOrder.{l3_elements}
use Rattle.rsl_codec.proofs.WrittenOrder.{in_order}
use Rattle.rsl_codec.proofs.AnswersInOrder.{behind_counted, behind_one, behind_two, in_this_order}
use Rattle.rsl_codec.proofs.measured.measured_values.Goals as goal

pub returns-clause-walked : goal.returns-clause-walked
returns-clause-walked c = in_order _ _ _ _ _ _ _ (record {
  first = c.in_ok-channel.rest.now;
  second = c.in_ok-number.rest.now;
  third = c.in_ok-uplink.rest.now;
  fourth = c.in_ok-bs_power.rest.now;
  fifth = c.in_ok-l1.rest.now;
  channel_is = c.in_ok-channel.ensures.is;
  number_is = c.in_ok-number.ensures.is;
  uplink_is = c.in_ok-uplink.ensures.is;
  uplink_fits = c.in_ok-uplink.ensures.size;
  power_is = c.in_ok-bs_power.ensures.is;
  l1_is = c.in_ok-l1.ensures.is;
  last = c.in_ok-l3.ensures.are;
})

pub returns-in_err-channel-clause-answers : goal.returns-in_err-channel-clause-answers
returns-in_err-channel-clause-answers c = λ order whole.
    let s = in_this_order c.args.body.now (λ i. omega (arith, c.type_inv.body i)) order whole in
    let no : false ≡ true = c.in_err-channel.ensures.answers s.channel s.first s.channel_is in
    absurd cc

pub returns-in_err-number-clause-answers : goal.returns-in_err-number-clause-answers
returns-in_err-number-clause-answers c = λ order whole.
    let s = in_this_order c.args.body.now (λ i. omega (arith, c.type_inv.body i)) order whole in
    let first : s.first ≡ c.in_ok-channel.rest.now = behind_one _ _ _ _ _ _ s.channel_is c.in_ok-channel.ensures.is in
    let no : false ≡ true = c.in_err-number.ensures.answers s.number s.second (sym first ∙ s.number_is) in
    absurd cc

pub returns-in_err-uplink-clause-answers : goal.returns-in_err-uplink-clause-answers
returns-in_err-uplink-clause-answers c = λ order whole.
    let s = in_this_order c.args.body.now (λ i. omega (arith, c.type_inv.body i)) order whole in
    let first : s.first ≡ c.in_ok-channel.rest.now = behind_one _ _ _ _ _ _ s.channel_is c.in_ok-channel.ensures.is in
    let second : s.second ≡ c.in_ok-number.rest.now = behind_one _ _ _ _ _ _ (sym first ∙ s.number_is) c.in_ok-number.ensures.is in
    let no : false ≡ true = c.in_err-uplink.ensures.answers s.uplink s.third (sym second ∙ s.uplink_is) in
    absurd cc

pub returns-in_err-bs_power-clause-answers : goal.returns-in_err-bs_power-clause-answers
returns-in_err-bs_power-clause-answers c = λ order whole.
    let s = in_this_order c.args.body.now (λ i. omega (arith, c.type_inv.body i)) order whole in
    let first : s.first ≡ c.in_ok-channel.rest.now = behind_one _ _ _ _ _ _ s.channel_is c.in_ok-channel.ensures.is in
    let second : s.second ≡ c.in_ok-number.rest.now = behind_one _ _ _ _ _ _ (sym first ∙ s.number_is) c.in_ok-number.ensures.is in
    let third : s.third ≡ c.in_ok-uplink.rest.now = behind_counted _ _ s.uplink c.in_ok-uplink.uplink.now _ _ (sym second ∙ s.uplink_is) c.in_ok-uplink.ensures.is in
    let no : false ≡ true = c.in_err-bs_power.ensures.answers s.power s.fourth (sym third ∙ s.power_is) in
    absurd cc

pub returns-in_err-l1-clause-answers : goal.returns-in_err-l1-clause-answers
returns-in_err-l1-clause-answers c = λ order whole.
    let s = in_this_order c.args.body.now (λ i. omega (arith, c.type_inv.body i)) order whole in
    let first : s.first ≡ c.in_ok-channel.rest.now = behind_one _ _ _ _ _ _ s.channel_is c.in_ok-channel.ensures.is in
    let second : s.second ≡ c.in_ok-number.rest.now = behind_one _ _ _ _ _ _ (sym first ∙ s.number_is) c.in_ok-number.ensures.is in
    let third : s.third ≡ c.in_ok-uplink.rest.now = behind_counted _ _ s.uplink c.in_ok-uplink.uplink.now _ _ (sym second ∙ s.uplink_is) c.in_ok-uplink.ensures.is in
    let fourth : s.fourth ≡ c.in_ok-bs_power.rest.now = behind_one _ _ _ _ _ _ (sym third ∙ s.power_is) c.in_ok-bs_power.ensures.is in
    let no : false ≡ true = c.in_err-l1.ensures.answers s.high s.low s.fifth (sym fourth ∙ s.l1_is) in
    absurd cc

pub returns-in_err-l3-clause-answers : goal.returns-in_err-l3-clause-answers
returns-in_err-l3-clause-answers c = λ order whole.
    let s = in_this_order c.args.body.now (λ i. omega (arith, c.type_inv.body i)) order whole in
    let first : s.first ≡ c.in_ok-channel.rest.now = behind_one _ _ _ _ _ _ s.channel_is c.in_ok-channel.ensures.is in
    let second : s.second ≡ c.in_ok-number.rest.now = behind_one _ _ _ _ _ _ (sym first ∙ s.number_is) c.in_ok-number.ensures.is in
    let third : s.third ≡ c.in_ok-uplink.rest.now = behind_counted _ _ s.uplink c.in_ok-uplink.uplink.now _ _ (sym second ∙ s.uplink_is) c.in_ok-uplink.ensures.is in
    let fourth : s.fourth ≡ c.in_ok-bs_power.rest.now = behind_one _ _ _ _ _ _ (sym third ∙ s.power_is) c.in_ok-bs_power.ensures.is in
    let fifth : s.fifth ≡ c.in_ok-l1.rest.now = sym (behind_two _ _ c.in_ok-l1.l1 s.high s.low _ _ c.in_ok-l1.ensures.is (sym fourth ∙ s.l1_is)) in
    let no : false ≡ true = c.in_err-l3.ensures.answers s.l3 (subst (λ (octets : List ℕ). AreElements ELEMENTS octets (l3_elements s.l3) false) fifth s.last) in
    absurd cc
