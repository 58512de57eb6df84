-- SPDX-License-Identifier: MIT OR Apache-2.0
-- How a hold and a chain refuse a message.
use Rattle.std.specs.Prelude.{◌≡◌, ◌<◌, ℕ, List}
use Rattle.hold_queue.specs.ChainState.{ChainState, chain_count}
use Rattle.hold_queue.specs.HoldState.{HoldState, count}
use Rattle.hold_queue.specs.declared.fault.HoldFault.{HoldFault}
use Rattle.hold_queue.specs.declared.fault.HoldFault.TheVariants.{Full, Memory}

-- the fault is `Memory` and hands this message back
abbrev pub IsMemory : List ℕ → HoldFault → Type 0
IsMemory message (Full back) = ⊥
IsMemory message (Memory back) = back.items ≡ message

-- The fault hands this message back. It is `Full` only if as many messages are held as the limit,
-- and `Memory` only if fewer are held.
abbrev pub RefusesAt : ℕ → ℕ → List ℕ → HoldFault → Type 0
RefusesAt held limit message (Full back) = (back.items ≡ message) × (held ≡ limit)
RefusesAt held limit message (Memory back) = (back.items ≡ message) × (held < limit)

-- the fault fits a hold that refuses this message; the hold's limit counts the messages of both
-- SAPIs
abbrev pub HandsBack : HoldState → List ℕ → HoldFault → Type 0
HandsBack hold = RefusesAt (count hold) hold.limit

-- The fault fits a chain that refuses this message. The chain's limit counts the messages of all
-- tenures and both SAPIs.
abbrev pub ChainHandsBack : ChainState → List ℕ → HoldFault → Type 0
ChainHandsBack chain = RefusesAt (chain_count chain) chain.limit
