-- SPDX-License-Identifier: MIT OR Apache-2.0
-- Definitions at literal values: what arrives on SAPI 3.
use Rattle.world_laws.proofs.Prelude.{[], ◌∷◌, Some, refl, Nothing, OnChannel, OnConnection, place_at, Zero, Three, BringsBesideFlow}
use Rattle.world_laws.proofs.Prelude.{IsBesideFlow, SaysBesideFlow}
use Rattle.octets.proofs.Hex.{hex}
use Rattle.conn_rules.specs.declared.input.Input.TheVariants as inputs

-- a short message is beside the flow, and so is one of radio resource management; call control,
-- mobility management and supplementary services are the flow
beside_the_flow : IsBesideFlow (hex "39 01") × IsBesideFlow (hex "06 29 00") × IsBesideFlow []
beside_the_flow = (refl, refl, refl)

of_the_flow : (IsBesideFlow (hex "03 45") → ⊥) × (IsBesideFlow (hex "05 08") → ⊥) × (IsBesideFlow (hex "0b 7b") → ⊥)
of_the_flow = (λ is. absurd cc, λ is. absurd cc, λ is. absurd cc)

-- what arrives on SAPI 3 is beside the flow, and nothing is said of SAPI 0
brings_beside : BringsBesideFlow (inputs.Dtap (place_at 1 0x41) Three (hex "39 01")) × BringsBesideFlow (inputs.Dtap (place_at 1 0x41) Zero (hex "03 45")) × BringsBesideFlow (inputs.EstablishIndication (place_at 1 0x41) Zero (Some (hex "05 08")))
brings_beside = (refl, tt, tt)

brings_the_flow : BringsBesideFlow (inputs.Dtap (place_at 1 0x41) Three (hex "03 45")) → ⊥
brings_the_flow is = absurd cc

says_beside : SaysBesideFlow (OnChannel (place_at 1 0x41) (inputs.Dtap (place_at 1 0x41) Three (hex "39 01"))) × SaysBesideFlow (OnConnection 1 (inputs.Downlink Three (hex "03 45"))) × SaysBesideFlow Nothing
says_beside = (refl, tt, tt)

says_the_flow : SaysBesideFlow (OnChannel (place_at 1 0x41) (inputs.Dtap (place_at 1 0x41) Three (hex "05 08"))) → ⊥
says_the_flow is = absurd cc
