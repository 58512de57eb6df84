-- SPDX-License-Identifier: MIT OR Apache-2.0
use Rattle.controller.proofs.Prelude.{subst, AllByRecursion}
use Rattle.controller.proofs.LifeLaws.{if_so, lived_keeps_laws, lived_sends}
use Rattle.controller.proofs.life.run.Goals as goal
use Rattle.controller_model.specs.LifeLaws.Sending.{IsOctetStep}

pub returns-clause-laws : goal.returns-clause-laws
returns-clause-laws c = if_so _ _ c.live.result (λ both is. lived_keeps_laws c.args.settings c.args.steps.items both.0 both.1.outs c.live.ensures.allowed is) c.live.ensures.life

pub returns-clause-sent : goal.returns-clause-sent
returns-clause-sent c = if_so _ _ c.live.result (λ both is. lived_sends c.args.settings c.args.steps.items both.0 both.1.outs c.live.ensures.allowed is (subst (AllByRecursion IsOctetStep) c.deref.ensures.value c.arrive_in_octets.ensures)) c.live.ensures.life
