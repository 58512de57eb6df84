-- SPDX-License-Identifier: MIT OR Apache-2.0
-- The consequence of the line-up: the order of the messages that the switch accepts.
use Rattle.std.specs.Prelude.{◌≡◌, ℕ, List, [], ◌∷◌, ◌++◌, Some, take}
use Rattle.dtap_codec.specs.Places.{Rise}
use Rattle.world_model.specs.AcceptedList.{accepted_list, progress}
use Rattle.world_laws.specs.LineUp.Places.{LineUp, flow, parts_of}

-- The switch accepted the first messages that the mobile's upper layers sent, once and in order,
-- and judged no gap. In `arriving`, which may still arrive, the first message of the flow is the
-- next one sent or the last one accepted; from message to message the place rises by 1 or 0.
pub record IsInOrder (m : ℕ) (sent taken arriving : List (List ℕ)) : Type 0 where
  pub count : ℕ
  pub accepted : accepted_list m taken ≡ take count sent
  pub no_gap : progress m taken ≡ Some count
  pub last : ℕ
  pub rise : Rise m sent count arriving last

-- The messages that may still reach the switch while the connection lives: those that wait in the
-- outbox, and those of each channel.
abbrev pub arriving : LineUp → List (List ℕ)
arriving l = flow l.out ++ parts_of (l.old ++ l.serving ∷ l.target ∷ [])

-- A connection that closed or was removed: the places of the messages that the switch took,
-- followed by those that wait in the outbox, rise. Only those in the outbox can still arrive.
abbrev pub Ended : ℕ → List (List ℕ) → List (List ℕ) → List (List ℕ) → Type 0
Ended m sent out taken = (k : ℕ) × Rise m sent 0 (taken ++ out) k
