-- SPDX-License-Identifier: MIT OR Apache-2.0
-- Definitions at literal values: what a station refuses.
use Rattle.conn_rules.specs.declared.input.Input.TheVariants as inputs
use Rattle.world_laws.proofs.Prelude.{Nothing, OnChannel, OnConnection, place_at, RefusesNone}

refuses_none : RefusesNone (OnChannel (place_at 1 0x41) (inputs.ActivationAck (place_at 1 0x41))) × RefusesNone (OnChannel (place_at 1 0x41) (inputs.ReleaseAck (place_at 1 0x41))) × RefusesNone (OnConnection 1 inputs.ClearCommand) × RefusesNone Nothing
refuses_none = (tt, tt, tt, tt)

refuses_one : RefusesNone (OnChannel (place_at 1 0x41) (inputs.ActivationNack (place_at 1 0x41))) → ⊥
refuses_one is = is
