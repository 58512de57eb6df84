-- SPDX-License-Identifier: MIT OR Apache-2.0
-- A base station end gives out the messages that it made, in order.
use Rattle.std.proofs.Common.{◌≡◌, Bool, true, false, Option, Some, None, List, [], ◌∷◌, ◌++◌, refl, sym, ap, ◌∙◌, append_assoc, cond, option_to_list}
use Rattle.std.proofs.lemmas.List.{append-nil}
use Rattle.link_model.specs.declared.fault.LinkFault.{LinkFault}
use Rattle.link_model.specs.BaseState.{BaseState}
use Rattle.link_model.specs.Message.{activation_ack, establish_indication, data_indication}
use Rattle.link_model.specs.Base.{refusal_of_activate, after_activate, refusal_unless_active, after_establish, after_up, is_told, after_tell, first_of_messages, messages_behind_first}
use Rattle.link_model.specs.BaseCalls.{BaseCall, state_unless, after_call, after_calls, message_unless, messages_made_by_call, messages_made, messages_given_by_call, messages_given}
use Rattle.link_model.specs.BaseCalls.BaseCall.{activates, establishes, brings_up, releases, tells, gives_next}
use Rattle.rsl_codec.specs.declared.rsl.Rsl.{Rsl}

-- what a call that may be refused appends
made_unless : (fault : Option LinkFault) (old new : BaseState) (message : Rsl) →
    new.messages ≡ old.messages ++ message ∷ [] →
    (state_unless fault old new).messages ≡ old.messages ++ message_unless fault message
made_unless (Some fault) old new message is = sym (append-nil old.messages)
made_unless None old new message is = is

made_told : (told : Bool) (base : BaseState) (message : Rsl) →
    (cond told (after_tell base message) base).messages ≡ base.messages ++ cond told (message ∷ []) []
made_told true base message = refl
made_told false base message = sym (append-nil base.messages)

first_behind : (messages : List Rsl) → option_to_list (first_of_messages messages) ++ messages_behind_first messages ≡ messages
first_behind [] = refl
first_behind (first ∷ others) = refl

-- each call appends what it makes, and gives out the first
given_call : (base : BaseState) (call : BaseCall) →
    messages_given_by_call base call ++ (after_call base call).messages ≡ base.messages ++ messages_made_by_call base call
given_call base (activates channel) = made_unless (refusal_of_activate base channel) base (after_activate base channel) (activation_ack channel) refl
given_call base (establishes channel sapi message) = made_unless (refusal_unless_active base channel) base (after_establish base channel sapi message) (establish_indication channel sapi message) refl
given_call base (brings_up channel sapi message) = made_unless (refusal_unless_active base channel) base (after_up base channel sapi message) (data_indication channel sapi message) refl
given_call base (releases channel) = refl
given_call base (tells message) = made_told (is_told message) base message
given_call base gives_next = first_behind base.messages ∙ sym (append-nil base.messages)

pub given_calls : (base : BaseState) (calls : List BaseCall) →
    messages_given base calls ++ (after_calls base calls).messages ≡ base.messages ++ messages_made base calls
given_calls base [] = sym (append-nil base.messages)
given_calls base (call ∷ calls) =
    let next : BaseState = after_call base call in
    append_assoc (messages_given_by_call base call) (messages_given next calls) (after_calls next calls).messages
    ∙ ap (λ (xs : List Rsl). messages_given_by_call base call ++ xs) (given_calls next calls)
    ∙ sym (append_assoc (messages_given_by_call base call) next.messages (messages_made next calls))
    ∙ ap (λ (xs : List Rsl). xs ++ messages_made next calls) (given_call base call)
    ∙ append_assoc base.messages (messages_made_by_call base call) (messages_made next calls)
