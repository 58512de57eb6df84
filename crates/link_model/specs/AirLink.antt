-- SPDX-License-Identifier: MIT OR Apache-2.0
-- One acknowledged link: at most one message is in the air (TS 44.006).
use Rattle.std.specs.Prelude.{ℕ, Bool, true, false, Option, Some, None, Result, Ok, Err, List}
use Rattle.link_model.specs.declared.air_link.Air.{Air}
use Rattle.link_model.specs.declared.air_link.Air.TheVariants.{Empty, Given, Reached}

abbrev pub is_empty : Air → Bool
is_empty Empty = true
is_empty (Given message) = false
is_empty (Reached message) = false

-- the answer of `give`: a link that isn't empty hands the message back
abbrev pub give_answer : Air → List ℕ → Result (Unit {0}) (List ℕ)
give_answer Empty message = Ok tt
give_answer (Given first) message = Err message
give_answer (Reached first) message = Err message

-- the link after `give`: only an empty link changes
abbrev pub after_give : Air → List ℕ → Air
after_give Empty message = Given message
after_give (Given first) message = Given first
after_give (Reached first) message = Reached first

-- the message in the air, which the station has taken or not
abbrev pub message_in : Air → Option (List ℕ)
message_in Empty = None
message_in (Given message) = Some message
message_in (Reached message) = Some message

-- the message in the air if the station hasn't taken it yet
abbrev pub offered_message : Air → Option (List ℕ)
offered_message Empty = None
offered_message (Given message) = Some message
offered_message (Reached message) = None

-- the link after `reach`: the station has taken the message, if there is one
abbrev pub after_reach : Air → Air
after_reach Empty = Empty
after_reach (Given message) = Reached message
after_reach (Reached message) = Reached message

-- whether a message is in the air that the station has taken
abbrev pub is_reached : Air → Bool
is_reached Empty = false
is_reached (Given message) = false
is_reached (Reached message) = true

-- the link after `ack`: empty if the station had taken the message, else unchanged
abbrev pub after_ack : Air → Air
after_ack Empty = Empty
after_ack (Given message) = Given message
after_ack (Reached message) = Empty
