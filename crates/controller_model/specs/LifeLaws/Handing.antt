-- SPDX-License-Identifier: MIT OR Apache-2.0
-- When and where messages are handed, told from the steps and the messages put. While the mobile
-- changes its channel, nothing is handed; otherwise messages are handed on the serving channel.
-- After CLEAR COMPLETE only RLC is put.
use Rattle.std.specs.Prelude.{◌≡◌, ℕ, ◌==◌, ◌&&◌, ◌||◌, not, Bool, true, false}
use Rattle.std.specs.Prelude.{List, [], ◌∷◌, ◌++◌}
use Rattle.std.specs.Prelude.{fold}
use Rattle.std.specs.List.{AllByRecursion, list_any}
use Rattle.controller_model.specs.Prelude.{Management, Place, Message, SWITCH_LINK, outs_of, Input}
use Rattle.controller_model.specs.Prelude.{handed, is_dtap, Sapi, What, AreAllowed}
use Rattle.controller_model.specs.Prelude.{Parameters}
use Rattle.bssmap_codec.specs.declared.bssmap.Bssmap.TheVariants.{ClearComplete, ClearRequest}
use Rattle.conn_messages.specs.declared.message.Message.TheVariants.{Station, Data, ReleaseComplete}
use Rattle.conn_rules.specs.declared.input.Input.TheVariants as inputs
use Rattle.conn_rules.specs.Streams.{IsReleaseComplete}
use Rattle.controller_model.specs.LifeLaws.End.{AllAreRead}
use Rattle.controller_model.specs.LifeLaws.History.{IsHistory, Moment, all_messages, outs_for}
use Rattle.controller_model.specs.LifeLaws.History.{word_in}
use Rattle.controller_model.specs.LifeLaws.Sending.{IsOctetStep}
use Rattle.controller_model.specs.LifeLaws.Uplink.{ServedTenure, performs, service}
use Rattle.controller_model.specs.declared.step.Step.{Step}
use Rattle.controller_model.specs.declared.step.Step.TheVariants.{Take}
use Rattle.controller_model.specs.declared.word.Word.{Word}
use Rattle.controller_model.specs.declared.word.Word.TheVariants.{OnChannel}
use Rattle.controller_model.specs.Controller.{Turn, new_controller}
use Rattle.dtap_codec.specs.declared.message.TheConstants.{RADIO_RESOURCE}
use Rattle.dtap_codec.specs.declared.rr_type.TheConstants.{ASSIGNMENT_COMMAND, HANDOVER_COMMAND}
use Rattle.ruled_relay.specs.declared.item.What.TheVariants as whats
use Rattle.rsl_codec.specs.declared.rsl.Rsl.TheVariants.{DataRequest, RfChannelRelease}

-- ---- while the mobile changes its channel

-- whether octets begin as those of an ASSIGNMENT COMMAND or a HANDOVER COMMAND do
abbrev pub is_command_text : List ℕ → Bool
is_command_text (discriminator ∷ kind ∷ rest) =
    (discriminator == RADIO_RESOURCE) && ((kind == ASSIGNMENT_COMMAND)
    || (kind == HANDOVER_COMMAND))
is_command_text _ = false

abbrev pub is_command : Message → Bool
is_command (Station station (DataRequest request)) = is_command_text request.l3
is_command _ = false

abbrev pub is_release : Message → Bool
is_release (Station station (RfChannelRelease number)) = true
is_release _ = false

-- A change begins when a COMMAND is put upon the acknowledgement of a channel's activation. A
-- message of the switch with the octets of a COMMAND is put upon another input and begins no
-- change.
abbrev pub begins_by : Input → List Message → Bool
begins_by (inputs.ActivationAck at) put = list_any is_command put
begins_by _ put = false

-- Whether an input is an answer of the mobile that ends a change: COMPLETE, if the step reports the
-- change to the switch, or FAILURE, if the step puts RF CHANNEL RELEASE. Any other answer isn't
-- taken.
abbrev pub answers_by : Input → List Message → Bool
answers_by (inputs.Complete at change cause) put = performs put
answers_by (inputs.Failure at change cause) put = list_any is_release put
answers_by _ put = false

-- the test of an input on a channel; false for any other word
abbrev pub on_channel : (Input → List Message → Bool) → Word → List Message → Bool
on_channel test (OnChannel at input) put = test input put
on_channel test _ put = false

-- whether the message clears the connection: CLEAR REQUEST, CLEAR COMPLETE or RLC
abbrev pub is_clear : Message → Bool
is_clear (Data reference (Management (ClearRequest cause))) = true
is_clear (Data reference (Management ClearComplete)) = true
is_clear (ReleaseComplete destination) = true
is_clear _ = false

abbrev pub is_down : What → Bool
is_down whats.Down = true
is_down _ = false

abbrev pub breaks_switch : Step → Bool
breaks_switch (Take item) = (item.source == SWITCH_LINK) && is_down item.what
breaks_switch _ = false

abbrev pub ends_change : Moment → Bool
ends_change m =
    on_channel answers_by (word_in m.taken) m.messages
    || (list_any is_clear m.messages || breaks_switch m.taken)

-- Whether a change is under way after a step: from the COMMAND on, until the mobile answers or the
-- connection is cleared.
abbrev pub with_change : Bool → Moment → Bool
with_change changes m =
    on_channel begins_by (word_in m.taken) m.messages || (changes && not (ends_change m))

-- whether the mobile was commanded to another channel and hasn't answered, and the connection
-- wasn't cleared
abbrev pub changes_after : List Moment → Bool
changes_after moments = fold with_change false moments

-- ---- on the channel that serves

-- a message that hands DTAP goes to the channel at this place
abbrev pub IsHandedOn : Place → Message → Type 0
IsHandedOn at (Station station (DataRequest request)) =
    is_dtap request.l3 ≡ true → (station ≡ at.station) × (request.channel ≡ at.number)
IsHandedOn at _ = Unit {0}

-- messages are handed on the channel of the first tenure of the service list; while the list is
-- empty, nothing is handed
abbrev pub AreHandedOn : List ServedTenure → List Message → Type 0
AreHandedOn [] put = (sapi : Sapi) → handed sapi put ≡ []
AreHandedOn (serving ∷ old) put = AllByRecursion (IsHandedOn serving.place) put

-- ---- after CLEAR COMPLETE

abbrev pub is_clear_complete : Message → Bool
is_clear_complete (Data reference (Management ClearComplete)) = true
is_clear_complete _ = false

abbrev pub is_cleared : List Moment → Bool
is_cleared moments = list_any is_clear_complete (all_messages moments)

-- ---- the law

-- What holds of the messages that a step puts for a connection, after the moments `earlier`.
pub record IsInPlace (earlier : List Moment) (m : Moment) : Type 0 where
  -- nothing is handed by the step that puts the COMMAND, nor from then on while the mobile changes
  -- its channel
  pub held : changes_after (earlier ++ m ∷ []) ≡ true → (sapi : Sapi) → handed sapi m.messages ≡ []
  -- messages that are handed go to the channel that serves after the step
  pub serving : AreHandedOn (service (earlier ++ m ∷ [])) m.messages
  -- once CLEAR COMPLETE was put, only RLC is put
  pub cleared : is_cleared earlier ≡ true → AllByRecursion IsReleaseComplete m.messages

-- each step of a history hands messages in place
abbrev pub AllInPlace : List Moment → List Moment → Type 0
AllInPlace earlier [] = Unit {0}
AllInPlace earlier (m ∷ ms) = IsInPlace earlier m × AllInPlace (earlier ++ m ∷ []) ms

-- There are messages, step by step, whose frames are the frames put for the connection, and each
-- step hands messages in place. The messages relayed and handed are those read from the frames, if
-- settings are allowed and frames that arrived carry octets.
pub record HandsInPlace (number : ℕ) (p : Parameters) (steps : List Step)
    (life : Turn) : Type 0 where
  pub moments : List Moment
  pub history : IsHistory number (new_controller p) steps moments
  pub frames : outs_for number life.outs ≡ outs_of number (all_messages moments)
  pub placed : AllInPlace [] moments
  pub read : AreAllowed p → AllByRecursion IsOctetStep steps
      → AllAreRead number (new_controller p) moments
