-- SPDX-License-Identifier: MIT OR Apache-2.0
-- The state that the network's end of a connection keeps.
use Rattle.std.specs.Prelude.{◌≡◌, ℕ, List, [], ◌∷◌, ◌++◌}
use Rattle.nsd_filter.specs.AcceptedList.{accepted_list, progress, not_of_the_flow}
use Rattle.nsd_filter.specs.Filter.{FilterState, IsStateOf}

-- the modulus (how many numbers there are), and all messages that were taken, in order
pub record ReceptionState : Type 0 where
  pub modulus : ℕ
  pub taken : List (List ℕ)

-- the state once this message was taken
abbrev pub with_taken : List ℕ → ReceptionState → ReceptionState
with_taken message reception =
    record { modulus = reception.modulus; taken = reception.taken ++ message ∷ [] }

-- the state of the filter, the accepted messages and the messages without a number agree with
-- `taken`
pub record IsKept (m : ℕ) (filter : FilterState)
    (taken accepted others : List (List ℕ)) : Type 0 where
  pub modulus : filter.modulus ≡ m
  pub is_state : IsStateOf filter (progress m taken)
  pub accepts : accepted ≡ accepted_list m taken
  pub passes : others ≡ not_of_the_flow taken
