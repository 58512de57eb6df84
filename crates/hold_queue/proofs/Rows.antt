-- SPDX-License-Identifier: MIT OR Apache-2.0
-- Definitions against literal messages.
use Rattle.std.proofs.Common.{◌≡◌, ℕ, Vec, List, [], ◌∷◌, ◌++◌, drop, replicate, slice_get, Some, None, refl, arith}
use Rattle.std.specs.declared.alloc.Global.{Global}
use Rattle.octets.proofs.Hex.{hex}
use Rattle.dtap_codec.specs.declared.sapi.Sapi.TheVariants.{Zero, Three}
use Rattle.hold_queue.specs.declared.chain.TheConstants.{TENURE_LIMIT}
use Rattle.hold_queue.specs.declared.fault.HoldFault.TheVariants.{Full, Memory}
use Rattle.hold_queue.specs.ChainState.{TenureHold, ChainState, empty_tenure, new_chain, chain_count, messages_in, put_in, first_taken, first_cleared}
use Rattle.hold_queue.specs.HoldState.{HoldState, new_hold, count, messages, with_messages}
use Rattle.hold_queue.specs.Refusal.{HandsBack, ChainHandsBack}

-- ---- a hold of three messages, two of SAPI 0 and one of SAPI 3

abbrev hold : HoldState
hold = record { limit = 32; zero = hex "83 02" ∷ hex "03 05" ∷ []; three = hex "09 01" ∷ [] }

-- ---- a new hold

begins_empty : new_hold 32 ≡ record { limit = 32; zero = []; three = [] }
begins_empty = refl

none_held : count (new_hold 32) ≡ 0
none_held = refl

none_of_sapi_three : messages (new_hold 16) Three ≡ []
none_of_sapi_three = refl

-- ---- messages of each SAPI

of_sapi_zero : messages hold Zero ≡ hex "83 02" ∷ hex "03 05" ∷ []
of_sapi_zero = refl

of_sapi_three : messages hold Three ≡ hex "09 01" ∷ []
of_sapi_three = refl

over_both : count hold ≡ 3
over_both = refl

-- ---- what the calls make of them

put_on_sapi_zero : with_messages hold Zero (messages hold Zero ++ hex "05 24" ∷ [])
    ≡ record { limit = 32; zero = hex "83 02" ∷ hex "03 05" ∷ hex "05 24" ∷ []; three = hex "09 01" ∷ [] }
put_on_sapi_zero = refl

put_on_sapi_three : with_messages hold Three (messages hold Three ++ hex "09 04" ∷ [])
    ≡ record { limit = 32; zero = hex "83 02" ∷ hex "03 05" ∷ []; three = hex "09 01" ∷ hex "09 04" ∷ [] }
put_on_sapi_three = refl

first_of_sapi_zero : slice_get (messages hold Zero) 0 ≡ Some (hex "83 02")
first_of_sapi_zero = refl

none_behind : slice_get (messages hold Three) 1 ≡ None
none_behind = refl

first_of_sapi_zero_taken : with_messages hold Zero (drop 1 (messages hold Zero))
    ≡ record { limit = 32; zero = hex "03 05" ∷ []; three = hex "09 01" ∷ [] }
first_of_sapi_zero_taken = refl

sapi_three_cleared : with_messages hold Three [] ≡ record { limit = 32; zero = hex "83 02" ∷ hex "03 05" ∷ []; three = [] }
sapi_three_cleared = refl

-- ---- refusals

abbrev limit_of : ℕ → HoldState
limit_of limit = record hold { limit = limit }

full_at_limit : (back : Vec ℕ Global) → back.items ≡ hex "05 24" → HandsBack (limit_of 3) (hex "05 24") (Full back)
full_at_limit back same = (same, refl)

not_full_below_limit : (back : Vec ℕ Global) → HandsBack (limit_of 4) (hex "05 24") (Full back) → ⊥
not_full_below_limit back full = omega (arith, full.1)

memory_below_limit : (back : Vec ℕ Global) → back.items ≡ hex "05 24" → HandsBack (limit_of 4) (hex "05 24") (Memory back)
memory_below_limit back same = (same, omega arith)

no_memory_at_limit : (back : Vec ℕ Global) → HandsBack (limit_of 3) (hex "05 24") (Memory back) → ⊥
no_memory_at_limit back memory = omega (arith, memory.1)

-- ---- the channels of a connection at one time: three old ones and the one that serves

tenures_at_most : TENURE_LIMIT ≡ 4
tenures_at_most = refl

-- ---- a chain of three tenures with six messages

abbrev oldest : TenureHold
oldest = record { zero = hex "83 02" ∷ hex "03 05" ∷ []; three = hex "09 01" ∷ [] }

abbrev middle : TenureHold
middle = record { zero = hex "05 24" ∷ []; three = hex "09 04" ∷ hex "09 10" ∷ [] }

abbrev tenures : List TenureHold
tenures = oldest ∷ middle ∷ record { zero = []; three = [] } ∷ []

chain_begins_with_one_tenure : new_chain 16 ≡ record { limit = 16; tenures = record { zero = []; three = [] } ∷ [] }
chain_begins_with_one_tenure = refl

none_in_a_new_chain : chain_count (new_chain 16) ≡ 0
none_in_a_new_chain = refl

over_all_tenures : chain_count (record { limit = 16; tenures = tenures }) ≡ 6
over_all_tenures = refl

-- ---- what is at a place

of_oldest_sapi_zero : messages_in 0 Zero tenures ≡ hex "83 02" ∷ hex "03 05" ∷ []
of_oldest_sapi_zero = refl

of_oldest_sapi_three : messages_in 0 Three tenures ≡ hex "09 01" ∷ []
of_oldest_sapi_three = refl

second_of_middle_sapi_three : slice_get (messages_in 1 Three tenures) 1 ≡ Some (hex "09 10")
second_of_middle_sapi_three = refl

no_second_of_middle_sapi_zero : slice_get (messages_in 1 Zero tenures) 1 ≡ None
no_second_of_middle_sapi_zero = refl

none_in_an_empty_tenure : slice_get (messages_in 2 Zero tenures) 0 ≡ None
none_in_an_empty_tenure = refl

none_where_no_tenure_is : slice_get (messages_in 3 Zero tenures) 0 ≡ None
none_where_no_tenure_is = refl

-- ---- what the calls make of the tenures

put_in_oldest : put_in 0 Three (hex "09 11") tenures ≡ record oldest { three = hex "09 01" ∷ hex "09 11" ∷ [] } ∷ middle ∷ empty_tenure ∷ []
put_in_oldest = refl

put_in_middle : put_in 1 Zero (hex "05 18") tenures ≡ oldest ∷ record middle { zero = hex "05 24" ∷ hex "05 18" ∷ [] } ∷ empty_tenure ∷ []
put_in_middle = refl

put_in_youngest : put_in 2 Three (hex "09 11") tenures ≡ oldest ∷ middle ∷ record { zero = []; three = hex "09 11" ∷ [] } ∷ []
put_in_youngest = refl

taken_from_oldest_sapi_zero : first_taken Zero tenures ≡ record oldest { zero = hex "03 05" ∷ [] } ∷ middle ∷ empty_tenure ∷ []
taken_from_oldest_sapi_zero = refl

taken_from_oldest_sapi_three : first_taken Three tenures ≡ record oldest { three = [] } ∷ middle ∷ empty_tenure ∷ []
taken_from_oldest_sapi_three = refl

none_taken_from_the_next : first_taken Zero (empty_tenure ∷ middle ∷ []) ≡ empty_tenure ∷ middle ∷ []
none_taken_from_the_next = refl

oldest_cleared : first_cleared tenures ≡ record { zero = []; three = [] } ∷ middle ∷ empty_tenure ∷ []
oldest_cleared = refl

-- ---- a limit of 16: a message more is refused at 16 in two tenures, and not at 15

abbrev sixteen : ChainState
sixteen = record {
  limit = 16;
  tenures = record { zero = replicate 5 (hex "05 24"); three = replicate 4 (hex "09 01") }
      ∷ record { zero = replicate 6 (hex "03 05"); three = replicate 1 (hex "09 04") } ∷ [];
}

abbrev fifteen : ChainState
fifteen = record sixteen { tenures = first_taken Three sixteen.tenures }

chain_full_at_sixteen : (back : Vec ℕ Global) → back.items ≡ hex "05 18" → ChainHandsBack sixteen (hex "05 18") (Full back)
chain_full_at_sixteen back same = (same, refl)

chain_no_memory_at_sixteen : (back : Vec ℕ Global) → ChainHandsBack sixteen (hex "05 18") (Memory back) → ⊥
chain_no_memory_at_sixteen back memory = omega (arith, memory.1)

chain_not_full_at_fifteen : (back : Vec ℕ Global) → ChainHandsBack fifteen (hex "05 18") (Full back) → ⊥
chain_not_full_at_fifteen back full = omega (arith, full.1)

chain_memory_at_fifteen : (back : Vec ℕ Global) → back.items ≡ hex "05 18" → ChainHandsBack fifteen (hex "05 18") (Memory back)
chain_memory_at_fifteen back same = (same, omega arith)

-- ---- a limit of 1: a second tenure begins, a message into it, none more into the first, which
-- ends

abbrev with_second : List TenureHold
with_second = put_in 1 Zero (hex "05 24") ((new_chain 1).tenures ++ empty_tenure ∷ [])

second_has_it : with_second ≡ record { zero = []; three = [] } ∷ record { zero = hex "05 24" ∷ []; three = [] } ∷ []
second_has_it = refl

first_is_refused : (back : Vec ℕ Global) → back.items
    ≡ hex "05 18" → ChainHandsBack (record { limit = 1; tenures = with_second }) (hex "05 18") (Full back)
first_is_refused back same = (same, refl)

none_of_the_first : slice_get (messages_in 0 Zero with_second) 0 ≡ None
none_of_the_first = refl

first_may_go : slice_get with_second 0 ≡ Some empty_tenure
first_may_go = refl

next_of_the_second : slice_get (messages_in 0 Zero (drop 1 with_second)) 0 ≡ Some (hex "05 24")
next_of_the_second = refl

nothing_left : first_taken Zero (drop 1 with_second) ≡ (new_chain 1).tenures
nothing_left = refl
