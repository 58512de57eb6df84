-- SPDX-License-Identifier: MIT OR Apache-2.0
-- The names that the proofs of this crate use, from its specs and from the crates below it.
pub use Rattle.bssmap_codec.specs.Layer3.{IsLayer3}
pub use Rattle.bssmap_codec.specs.declared.reference.Reference.{Reference}
pub use Rattle.conn_messages.specs.StationMessage.{change_activation, channel_release, handing, rf_channel_release, activation}
pub use Rattle.conn_messages.specs.StationMessage.{change_command, establish_request, immediate_assign_command, link_on}
pub use Rattle.conn_messages.specs.SwitchMessage.{change_complete, clear_complete, relaying, release_complete, assignment_failure}
pub use Rattle.conn_messages.specs.SwitchMessage.{complete_layer3}
pub use Rattle.conn_messages.specs.declared.causes.TheConstants.{ABNORMAL_RELEASE, EQUIPMENT_FAILURE, NORMAL_EVENT, RADIO_INTERFACE_FAILURE}
pub use Rattle.conn_messages.specs.declared.causes.TheConstants.{RADIO_INTERFACE_MESSAGE_FAILURE}
pub use Rattle.conn_messages.specs.declared.channel.Change.{Change}
pub use Rattle.conn_messages.specs.declared.channel.Change.TheVariants.{Assignment, Handover}
pub use Rattle.conn_messages.specs.declared.channel.Channel.{Channel}
pub use Rattle.conn_messages.specs.declared.channel.Place.{Place}
pub use Rattle.conn_messages.specs.declared.message.Message.{Message}
pub use Rattle.conn_messages.specs.declared.message.Message.TheVariants.{Station, Data, ReleaseComplete, Request}
pub use Rattle.conn_rules.specs.Connection.{Connection, drain_at, emptied, enter, first_channel, is_at, new_connection, tenure_at}
pub use Rattle.conn_rules.specs.Roles.ChangesRoles.{ends, carries_on, had_ended}
pub use Rattle.conn_rules.specs.Roles.RoleEnd.{dismisses, drops, refused}
pub use Rattle.conn_rules.specs.Roles.RoleStep.{commands, completes, reverts, leaves, unchanged}
pub use Rattle.conn_rules.specs.Validity.{DrainTime, FirstIsEmpty, IsAskedFor, IsCarried, IsHeldTenure, OldestDrains, IsValid, IsValidState}
pub use Rattle.conn_rules.specs.Validity.{IsValidStage}
pub use Rattle.conn_rules.specs.Streams.{AreApart, Future, IsHandedTo, IsApart, IsChanging, IsFinal, IsOpen, IsSilent, KeepsDownlink}
pub use Rattle.conn_rules.specs.Streams.{KeepsUplink, OfRow, OnlyReleases, first_at, from_input, handed, handed_by, is_dtap, is_of}
pub use Rattle.conn_rules.specs.Streams.{is_reject, of_prepared, of_target, on_channel, received_by, rejects, relayed, relayed_by, still_of}
pub use Rattle.conn_rules.specs.Streams.{still_to_relay, target_in, undone, used_channels, without_rejected}
pub use Rattle.conn_rules.specs.declared.input.Input.{Input}
pub use Rattle.conn_rules.specs.declared.limits.TheConstants.{DOWN_LIMIT, DRAIN_LIMIT, UP_LIMIT}
pub use Rattle.conn_rules.specs.declared.state.Clearing.TheVariants.{Complete, Due, Asked as WasAsked}
pub use Rattle.conn_rules.specs.declared.state.Drain.{Drain}
pub use Rattle.conn_rules.specs.declared.state.ShortMessageLink.{ShortMessageLink}
pub use Rattle.conn_rules.specs.declared.state.ShortMessageLink.TheVariants.{Asked, Down, Up}
pub use Rattle.conn_rules.specs.declared.state.Stage.{Stage}
pub use Rattle.conn_rules.specs.declared.state.Stage.TheVariants.{Active, Changing, Draining, Preparing}
pub use Rattle.conn_rules.specs.declared.state.State.{State}
pub use Rattle.conn_rules.specs.declared.state.State.TheVariants.{Closed, Live, Removed, WaitActivation, WaitConfirm, WaitEstablish}
pub use Rattle.conn_rules.specs.declared.state.Target.{Target}
pub use Rattle.dtap_codec.specs.declared.rr.RrCause.{RrCause}
pub use Rattle.dtap_codec.specs.declared.sapi.Sapi.{Sapi}
pub use Rattle.dtap_codec.specs.declared.sapi.Sapi.TheVariants.{Three, Zero}
pub use Rattle.hold_queue.specs.ChainState.{TenureHold, chain_count, empty_tenure, put_in, tenure_messages, ChainState, first_cleared}
pub use Rattle.hold_queue.specs.ChainState.{new_chain, tenures_count, with_tenure_messages}
pub use Rattle.hold_queue.specs.HoldState.{HoldState, count, messages, with_messages, new_hold}
pub use Rattle.octets.proofs.Hex.{hex}
pub use Rattle.octets.specs.declared.limits.TheConstants.{INITIAL_LIMIT}
pub use Rattle.rsl_codec.specs.declared.channel_number.TheConstants.{FIRST_SDCCH}
pub use Rattle.rsl_codec.specs.declared.rsl.Rsl.TheVariants.{DataRequest, ChannelActivation, EstablishRequest, RfChannelRelease}
pub use Rattle.std.proofs.Common.{Bool, Contains, List, None, Option, Some, [], ap, append-nil, append_assoc, arith, eqb, false, filter}
pub use Rattle.std.proofs.Common.{if◌then◌else◌, inl, inr, leb, length, map, nat_le, not, refl, subst, suc, sym, true, true≢false, zero, ℕ}
pub use Rattle.std.proofs.Common.{◌&&◌, ◌++◌, ◌+◌, ◌==◌, ◌||◌, ◌∙◌, ◌∷◌, ◌≡◌, ◌≤◌, drop, le_trans, leb-true, length-append, lit<, ltb-false}
pub use Rattle.std.proofs.Common.{ltb-true, option_map, replicate, ⊎_elim, ◌<◌, ◌≢◌, ◌⊎◌}
pub use Rattle.std.proofs.lemmas.Bool.{cases_Bool, cond-false, cond-true, cond_both, and_parts, eq-eqb, eqb-false, eqb-true}
pub use Rattle.std.proofs.lemmas.Bool.{false_from_ne_true, ne_eqb}
pub use Rattle.std.proofs.lemmas.Grind.{flat_map-append}
pub use Rattle.std.proofs.lemmas.List.Elements.{Contains-append_left, Contains-append_right, Contains-push, filter-append}
pub use Rattle.std.proofs.lemmas.List.Elements.{Contains-append_cases}
pub use Rattle.std.specs.List.{AllByRecursion}
pub use Rattle.std.specs.Option.{option_to_list}
