-- SPDX-License-Identifier: MIT OR Apache-2.0
use Rattle.ho_decision.proofs.Arfcns.{other_arfcns_strictly_increase, other_arfcns-members}
use Rattle.ho_decision.proofs.law.arfcns_are_rising.Goals as goal

pub returns : goal.returns
returns c = record { rising = other_arfcns_strictly_increase; members = other_arfcns-members }
