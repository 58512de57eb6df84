-- SPDX-License-Identifier: MIT OR Apache-2.0
-- The effect of each call of a base station end. A call that makes a message appends it to the
-- messages.
use Rattle.std.specs.Prelude.{ℕ, Bool, true, false, not, ◌==◌, Option, Some, None, List, []}
use Rattle.std.specs.Prelude.{◌∷◌}
use Rattle.std.specs.Prelude.{◌++◌, filter, if◌then◌else◌}
use Rattle.std.specs.List.{list_any}
use Rattle.dtap_codec.specs.declared.sapi.Sapi.{Sapi}
use Rattle.link_model.specs.declared.fault.LinkFault.{LinkFault}
use Rattle.link_model.specs.declared.fault.LinkFault.TheVariants.{NotActive, Busy}
use Rattle.link_model.specs.BaseState.{BaseState}
use Rattle.link_model.specs.Message.{activation_ack, establish_indication, data_indication}
use Rattle.rsl_codec.specs.declared.rsl.Rsl.{Rsl}
use Rattle.rsl_codec.specs.declared.rsl.Rsl.TheVariants.{EstablishConfirm, ReleaseIndication}
use Rattle.rsl_codec.specs.declared.rsl.Rsl.TheVariants.{ChannelRequired, HandoverDetection}
use Rattle.rsl_codec.specs.declared.rsl.Rsl.TheVariants.{MeasurementResult, RfChannelReleaseAck}

-- the new end of this station: no channel is active, and there is no message
abbrev pub new_base : ℕ → BaseState
new_base station = record { station = station; active = []; messages = [] }

abbrev pub is_active : List ℕ → ℕ → Bool
is_active active channel = list_any (λ number. number == channel) active

-- the state after this message is made and appended
abbrev pub after_tell : BaseState → Rsl → BaseState
after_tell base message = record base { messages = base.messages ++ message ∷ [] }

abbrev pub refusal_of_activate : BaseState → ℕ → Option LinkFault
refusal_of_activate base channel = if is_active base.active channel then Some Busy else None

abbrev pub after_activate : BaseState → ℕ → BaseState
after_activate base channel =
    after_tell (record base { active = base.active ++ channel ∷ [] }) (activation_ack channel)

abbrev pub refusal_unless_active : BaseState → ℕ → Option LinkFault
refusal_unless_active base channel = if is_active base.active channel then None else Some NotActive

abbrev pub after_establish : BaseState → ℕ → Sapi → Option (List ℕ) → BaseState
after_establish base channel sapi message =
    after_tell base (establish_indication channel sapi message)

abbrev pub after_up : BaseState → ℕ → Sapi → List ℕ → BaseState
after_up base channel sapi message = after_tell base (data_indication channel sapi message)

abbrev pub after_release : BaseState → ℕ → BaseState
after_release base channel =
    after_tell (record base { active = filter (λ number. not (number == channel)) base.active })
    (RfChannelReleaseAck channel)

-- whether `tell` may be called with a message of this kind
abbrev pub is_told : Rsl → Bool
is_told (ChannelRequired required) = true
is_told (HandoverDetection detection) = true
is_told (MeasurementResult measured) = true
is_told (EstablishConfirm link) = true
is_told (ReleaseIndication link) = true
is_told _ = false

abbrev pub first_of_messages : List Rsl → Option Rsl
first_of_messages [] = None
first_of_messages (first ∷ others) = Some first

abbrev pub messages_behind_first : List Rsl → List Rsl
messages_behind_first [] = []
messages_behind_first (first ∷ others) = others

abbrev pub first_message : BaseState → Option Rsl
first_message base = first_of_messages base.messages

abbrev pub after_next : BaseState → BaseState
after_next base = record base { messages = messages_behind_first base.messages }

abbrev pub after_take_down : BaseState → BaseState
after_take_down base = record base { messages = [] }
