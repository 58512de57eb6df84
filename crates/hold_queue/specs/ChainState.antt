-- SPDX-License-Identifier: MIT OR Apache-2.0
-- The messages that a connection holds whose channel may change more than once: a list of tenures,
-- one for each channel.
use Rattle.std.specs.Prelude.{ℕ, zero, suc, ◌+◌, List, [], ◌∷◌, ◌++◌, length, drop}
use Rattle.dtap_codec.specs.declared.sapi.Sapi.{Sapi}
use Rattle.dtap_codec.specs.declared.sapi.Sapi.TheVariants.{Zero, Three}

-- the messages of one tenure: a list for each SAPI, in the order of arrival
pub record TenureHold : Type 0 where
  pub zero : List (List ℕ)
  pub three : List (List ℕ)

-- a chain: its tenures, the oldest first, and the limit to the messages of all tenures together
pub record ChainState : Type 0 where
  pub limit : ℕ
  pub tenures : List TenureHold

-- a tenure without messages
abbrev pub empty_tenure : TenureHold
empty_tenure = record { zero = []; three = [] }

-- a chain of one empty tenure, with this limit
abbrev pub new_chain : ℕ → ChainState
new_chain limit = record { limit = limit; tenures = empty_tenure ∷ [] }

-- the messages of a SAPI in a tenure
abbrev pub tenure_messages : TenureHold → Sapi → List (List ℕ)
tenure_messages tenure Zero = tenure.zero
tenure_messages tenure Three = tenure.three

-- the tenure with these messages of one SAPI; the messages of the other SAPI are unchanged
abbrev pub with_tenure_messages : TenureHold → Sapi → List (List ℕ) → TenureHold
with_tenure_messages tenure Zero these = record tenure { zero = these }
with_tenure_messages tenure Three these = record tenure { three = these }

-- the number of messages in a tenure, of both SAPIs
abbrev pub tenure_count : TenureHold → ℕ
tenure_count tenure = length tenure.zero + length tenure.three

-- the number of messages in all of these tenures, of both SAPIs
abbrev pub tenures_count : List TenureHold → ℕ
tenures_count [] = 0
tenures_count (first ∷ rest) = tenure_count first + tenures_count rest

-- the number of messages that a chain holds
abbrev pub chain_count : ChainState → ℕ
chain_count chain = tenures_count chain.tenures

-- the messages of a SAPI in the tenure at this place; no messages if there is no such tenure
abbrev pub messages_in : ℕ → Sapi → List TenureHold → List (List ℕ)
messages_in place sapi [] = []
messages_in zero sapi (first ∷ rest) = tenure_messages first sapi
messages_in (suc place) sapi (first ∷ rest) = messages_in place sapi rest

-- the tenures once a message was appended to the list of its SAPI in the tenure at this place
abbrev pub put_in : ℕ → Sapi → List ℕ → List TenureHold → List TenureHold
put_in place sapi message [] = []
put_in zero sapi message (first ∷ rest) =
    with_tenure_messages first sapi (tenure_messages first sapi ++ message ∷ []) ∷ rest
put_in (suc place) sapi message (first ∷ rest) = first ∷ put_in place sapi message rest

-- the tenures once the first message of a SAPI was removed from the first tenure
abbrev pub first_taken : Sapi → List TenureHold → List TenureHold
first_taken sapi [] = []
first_taken sapi (first ∷ rest) =
    with_tenure_messages first sapi (drop 1 (tenure_messages first sapi)) ∷ rest

-- the tenures once the messages of the first tenure were dropped
abbrev pub first_cleared : List TenureHold → List TenureHold
first_cleared [] = []
first_cleared (first ∷ rest) = empty_tenure ∷ rest
