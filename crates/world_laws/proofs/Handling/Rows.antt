-- SPDX-License-Identifier: MIT OR Apache-2.0
-- Definitions of this crate, at literal values.
use Rattle.world_laws.proofs.Prelude.{◌≡◌, ℕ, true, false, [], ◌∷◌, map, refl, Connection, Parameters, BaseDown, BasePush, BaseTakes}
use Rattle.world_laws.proofs.Prelude.{Handle, SwitchTakes, Tick, new_actors, IsOpenOrEnded, is_of_controller}
use Rattle.world_laws.specs.Handling.OpenOrEnded.IsOpenOrEnded.{carries_on, is_over}

steps_of_the_controller : map is_of_controller (Handle ∷ Tick 20 ∷ BaseTakes 1 ∷ BasePush 1 ∷ SwitchTakes ∷ BaseDown 0 ∷ []) ≡ true ∷ true ∷ false ∷ false ∷ false ∷ false ∷ []
steps_of_the_controller = refl

-- without its mobile a connection neither continues nor ends in order
without_a_mobile : (m mobile : ℕ) (settings : Parameters) (s : Connection) → IsOpenOrEnded m (new_actors settings) mobile s → ⊥
without_a_mobile m mobile settings s (carries_on next number had requested request lined) = let found = lined.found in absurd cc
without_a_mobile m mobile settings s (is_over gone ended) = let found = ended.found in absurd cc
