-- SPDX-License-Identifier: MIT OR Apache-2.0
-- The effect of each call of a data link.
use Rattle.std.specs.Prelude.{ℕ, Option, List, [], ◌∷◌, ◌++◌, option_to_list}
use Rattle.link_model.specs.AirLink.{message_in, offered_message, after_reach, after_ack}
use Rattle.link_model.specs.declared.air_link.Air.{Air}
use Rattle.link_model.specs.declared.air_link.Air.TheVariants.{Empty, Given, Reached}
use Rattle.mobile_end.specs.Control.{without_control}
use Rattle.mobile_end.specs.DataLinkState.{DataLinkState}

-- the link after a message is appended to the waiting messages
abbrev pub waits : DataLinkState → List ℕ → DataLinkState
waits link message = record { waiting = link.waiting ++ message ∷ []; air = link.air }

-- the link after the first waiting message went into the air, if the air was empty
abbrev pub after_load_from : List (List ℕ) → Air → DataLinkState
after_load_from (first ∷ others) Empty = record { waiting = others; air = Given first }
after_load_from [] Empty = record { waiting = []; air = Empty }
after_load_from waiting (Given message) = record { waiting = waiting; air = Given message }
after_load_from waiting (Reached message) = record { waiting = waiting; air = Reached message }

abbrev pub after_load : DataLinkState → DataLinkState
after_load link = after_load_from link.waiting link.air

-- the message that the station can take
abbrev pub lent_message : DataLinkState → Option (List ℕ)
lent_message link = offered_message (after_load link).air

-- the link after the station took the message that it could take, if any
abbrev pub after_lending : DataLinkState → DataLinkState
after_lending link =
    record { waiting = (after_load link).waiting; air = after_reach (after_load link).air }

abbrev pub after_acknowledgement : DataLinkState → DataLinkState
after_acknowledgement link = record { waiting = link.waiting; air = after_ack link.air }

-- the messages that the station can still take, in order
abbrev pub to_be_taken : DataLinkState → List (List ℕ)
to_be_taken link = option_to_list (offered_message link.air) ++ link.waiting

-- the messages that aren't acknowledged, in order: the message in the air and the waiting messages
abbrev pub outstanding_messages : DataLinkState → List (List ℕ)
outstanding_messages link = option_to_list (message_in link.air) ++ link.waiting

-- The link on another channel: the control message is in the air, and the messages that aren't
-- acknowledged wait, without control messages of an earlier channel.
abbrev pub after_resume : DataLinkState → List ℕ → DataLinkState
after_resume link control =
    record { waiting = without_control (outstanding_messages link); air = Given control }

-- the air on another channel: the station can take an unacknowledged message again
abbrev pub air_after_repeat : Air → Air
air_after_repeat Empty = Empty
air_after_repeat (Given message) = Given message
air_after_repeat (Reached message) = Given message

-- the link on another channel, if no control message is sent there
abbrev pub after_repeat : DataLinkState → DataLinkState
after_repeat link = record { waiting = link.waiting; air = air_after_repeat link.air }
