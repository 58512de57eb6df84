-- SPDX-License-Identifier: MIT OR Apache-2.0
-- The calls of a base station end, in any order, without `take_down`.
use Rattle.std.specs.Prelude.{ℕ, Option, Some, None, List, [], ◌∷◌, ◌++◌}
use Rattle.std.specs.Prelude.{option_to_list}
use Rattle.std.specs.Prelude.{if◌then◌else◌}
use Rattle.dtap_codec.specs.declared.sapi.Sapi.{Sapi}
use Rattle.link_model.specs.declared.fault.LinkFault.{LinkFault}
use Rattle.link_model.specs.BaseState.{BaseState}
use Rattle.link_model.specs.Base.{refusal_of_activate, after_activate, refusal_unless_active}
use Rattle.link_model.specs.Base.{after_establish, after_up, after_release, is_told, after_tell}
use Rattle.link_model.specs.Base.{first_message, after_next}
use Rattle.link_model.specs.Message.{activation_ack, establish_indication, data_indication}
use Rattle.rsl_codec.specs.declared.rsl.Rsl.{Rsl}
use Rattle.rsl_codec.specs.declared.rsl.Rsl.TheVariants.{RfChannelReleaseAck}

pub data BaseCall : Type 0 where
  activates : ℕ → BaseCall
  establishes : ℕ → Sapi → Option (List ℕ) → BaseCall
  brings_up : ℕ → Sapi → List ℕ → BaseCall
  releases : ℕ → BaseCall
  tells : Rsl → BaseCall
  gives_next : BaseCall

-- the state after a call that may be refused: a refused call changes nothing
abbrev pub state_unless : Option LinkFault → BaseState → BaseState → BaseState
state_unless (Some fault) old new = old
state_unless None old new = new

abbrev pub after_call : BaseState → BaseCall → BaseState
after_call base (activates channel) =
    state_unless (refusal_of_activate base channel) base (after_activate base channel)
after_call base (establishes channel sapi message) =
    state_unless (refusal_unless_active base channel) base
    (after_establish base channel sapi message)
after_call base (brings_up channel sapi message) =
    state_unless (refusal_unless_active base channel) base (after_up base channel sapi message)
after_call base (releases channel) = after_release base channel
after_call base (tells message) = if is_told message then after_tell base message else base
after_call base gives_next = after_next base

abbrev pub after_calls : BaseState → List BaseCall → BaseState
after_calls base [] = base
after_calls base (call ∷ calls) = after_calls (after_call base call) calls

-- the messages made by a call that may be refused: a refused call makes no message
abbrev pub message_unless : Option LinkFault → Rsl → List Rsl
message_unless (Some fault) message = []
message_unless None message = message ∷ []

-- the messages that a call makes
abbrev pub messages_made_by_call : BaseState → BaseCall → List Rsl
messages_made_by_call base (activates channel) =
    message_unless (refusal_of_activate base channel) (activation_ack channel)
messages_made_by_call base (establishes channel sapi message) =
    message_unless (refusal_unless_active base channel) (establish_indication channel sapi message)
messages_made_by_call base (brings_up channel sapi message) =
    message_unless (refusal_unless_active base channel) (data_indication channel sapi message)
messages_made_by_call base (releases channel) = RfChannelReleaseAck channel ∷ []
messages_made_by_call base (tells message) = if is_told message then message ∷ [] else []
messages_made_by_call base gives_next = []

-- the messages that these calls make, in order
abbrev pub messages_made : BaseState → List BaseCall → List Rsl
messages_made base [] = []
messages_made base (call ∷ calls) =
    messages_made_by_call base call ++ messages_made (after_call base call) calls

-- the messages that a call gives out
abbrev pub messages_given_by_call : BaseState → BaseCall → List Rsl
messages_given_by_call base gives_next = option_to_list (first_message base)
messages_given_by_call base _ = []

-- the messages that these calls give out, in order
abbrev pub messages_given : BaseState → List BaseCall → List Rsl
messages_given base [] = []
messages_given base (call ∷ calls) =
    messages_given_by_call base call ++ messages_given (after_call base call) calls
