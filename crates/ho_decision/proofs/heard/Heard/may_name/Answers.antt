-- SPDX-License-Identifier: MIT OR Apache-2.0
-- A level below 1 is 0.
use Rattle.std.proofs.Common.{◌≡◌, ◌<◌, arith}
use Rattle.std.proofs.lemmas.List.Elements.{All-weaker}
use Rattle.ho_decision.specs.Measure.{value_of}
use Rattle.ho_decision.proofs.heard.Heard.may_name.Goals as goal

pub returns : goal.returns
returns c =
    λ reports heard weak. All-weaker (λ r. value_of c.args.measure r < 1) (λ r. value_of c.args.measure r ≡ 0) (λ r h. omega (arith, h)) reports
    (c.may_have.ensures reports heard weak)
