-- SPDX-License-Identifier: MIT OR Apache-2.0
-- The messages that a connection holds while its channel changes: one list for each SAPI, and one
-- limit to the messages of both lists together.
use Rattle.std.specs.Prelude.{ℕ, ◌+◌, List, [], length}
use Rattle.dtap_codec.specs.declared.sapi.Sapi.{Sapi}
use Rattle.dtap_codec.specs.declared.sapi.Sapi.TheVariants.{Zero, Three}

-- a hold: its limit, and the messages of each SAPI in the order of arrival
pub record HoldState : Type 0 where
  pub limit : ℕ
  pub zero : List (List ℕ)
  pub three : List (List ℕ)

-- a hold without messages, with this limit
abbrev pub new_hold : ℕ → HoldState
new_hold limit = record { limit = limit; zero = []; three = [] }

-- the number of messages that a hold has, of both SAPIs
abbrev pub count : HoldState → ℕ
count hold = length hold.zero + length hold.three

-- the messages of a SAPI in a hold
abbrev pub messages : HoldState → Sapi → List (List ℕ)
messages hold Zero = hold.zero
messages hold Three = hold.three

-- the hold with these messages of one SAPI; the messages of the other SAPI and the limit are
-- unchanged
abbrev pub with_messages : HoldState → Sapi → List (List ℕ) → HoldState
with_messages hold Zero these = record hold { zero = these }
with_messages hold Three these = record hold { three = these }
