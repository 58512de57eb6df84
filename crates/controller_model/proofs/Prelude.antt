-- SPDX-License-Identifier: MIT OR Apache-2.0
-- Names that the proofs of this crate use: of its specs and of the crates below.
pub use Rattle.bssmap_codec.specs.BssapReading.{bssap_reading, layer3_at, message_at}
pub use Rattle.bssmap_codec.specs.BssapText.{bssap_text, bssmap_size, bssmap_text, content_fault}
pub use Rattle.bssmap_codec.specs.BssmapType.{bssmap_octet, bssmap_type, type_of}
pub use Rattle.bssmap_codec.specs.Layer3.{IsLayer3, layer3_fault}
pub use Rattle.bssmap_codec.specs.Reference.{IsReference, reference_at, references_at}
pub use Rattle.bssmap_codec.specs.SccpReading.{content_at, fixed_references_at, sccp_reading}
pub use Rattle.bssmap_codec.specs.SccpText.{sccp_text, size_fault}
pub use Rattle.bssmap_codec.specs.Values.{is_dlci, dlci_of}
pub use Rattle.bssmap_codec.specs.declared.bssap.Bssap.{Bssap}
pub use Rattle.bssmap_codec.specs.declared.bssap.Bssap.TheVariants.{Management, Transfer}
pub use Rattle.bssmap_codec.specs.declared.bssmap.Bssmap.{Bssmap}
pub use Rattle.bssmap_codec.specs.declared.bssmap.Bssmap.TheVariants.{CompleteLayer3Information, AssignmentComplete, ClearComplete}
pub use Rattle.bssmap_codec.specs.declared.bssmap.Bssmap.TheVariants.{ClearRequest, HandoverPerformed, SapiNReject}
pub use Rattle.bssmap_codec.specs.declared.fault.InterfaceFault.{InterfaceFault}
pub use Rattle.bssmap_codec.specs.declared.fault.InterfaceFault.TheVariants.{Short, UnknownType}
pub use Rattle.bssmap_codec.specs.declared.sccp.Sccp.{Sccp}
pub use Rattle.conn_messages.specs.Out.{IsReadOf, IsSound, outs_of, out_of, station_out}
pub use Rattle.conn_messages.specs.StationMessage.{access_activation, change_activation, channel_release, handing, immediate_assign_command}
pub use Rattle.conn_messages.specs.StationMessage.{rf_channel_release, activation, change_command, command, establish_request}
pub use Rattle.conn_messages.specs.SwitchMessage.{assignment_failure, change_complete, clear_complete, clear_request, complete_layer3}
pub use Rattle.conn_messages.specs.SwitchMessage.{relaying, release_complete, dlci_on}
pub use Rattle.conn_messages.specs.declared.causes.TheConstants.{BSS_NOT_EQUIPPED, EQUIPMENT_FAILURE}
pub use Rattle.conn_messages.specs.declared.causes.TheConstants.{PROTOCOL_ERROR, RADIO_INTERFACE_FAILURE, BETTER_CELL}
pub use Rattle.conn_messages.specs.declared.causes.TheConstants.{CIPHERING_NOT_SUPPORTED}
pub use Rattle.conn_messages.specs.declared.channel.Change.{Change}
pub use Rattle.conn_messages.specs.declared.channel.Change.TheVariants.{Assignment, Handover}
pub use Rattle.conn_messages.specs.declared.channel.Channel.{Channel}
pub use Rattle.conn_messages.specs.declared.channel.Place.{Place}
pub use Rattle.conn_messages.specs.declared.message.Message.{Message}
pub use Rattle.conn_messages.specs.declared.message.Message.TheVariants.{Data, ReleaseComplete, Request, Station}
pub use Rattle.conn_messages.specs.declared.out.Out.{Out}
pub use Rattle.conn_messages.specs.declared.parameters.TheConstants.{SWITCH_LINK}
pub use Rattle.conn_rules.proofs.Channels.{all_within, keeps_channels}
pub use Rattle.conn_rules.proofs.Closing.{IsFinal-row}
pub use Rattle.conn_rules.proofs.Downlink.{IsSilent-row, KeepsDownlink-row}
pub use Rattle.conn_rules.proofs.DownlinkMessages.{AllByRecursion-append, AllByRecursion-filter, AllByRecursion-so, AreParting, IsParting}
pub use Rattle.conn_rules.proofs.DownlinkSteps.{Does, failing_shut}
pub use Rattle.conn_rules.proofs.RolesAccount.{KeepsAccount-by, both_true as both_hold, undone-still_draining}
pub use Rattle.conn_rules.proofs.RolesTable.{changes_roles_row}
pub use Rattle.conn_rules.proofs.RowPuts.{either, where_fits, Brings, Enters, HasReference, Kinds, Parts, Puts, any_cause, free}
pub use Rattle.conn_rules.proofs.RowPuts.{free_brings, free_parts, row_messages, row_puts}
pub use Rattle.conn_rules.proofs.ValidSteps.{by_state, IsValid-new}
pub use Rattle.conn_rules.proofs.UplinkPlaces.{AreAway, drain_at_drains, same_place, DrainsAt, all_away, all_behind, apart_behind}
pub use Rattle.conn_rules.proofs.UplinkPlaces.{apart_first, apart_rest, away_of, away_of_other, drain_away, drain_behind_away}
pub use Rattle.conn_rules.specs.Connection.{Connection, drain_at, emptied, enter, first_channel, is_at, new_connection, tenure_at}
pub use Rattle.conn_rules.specs.Putting.{ArePutOn, IsPutOn, PutsOnOwn, Using, used_after, uses_of}
pub use Rattle.conn_rules.specs.Roles.{ChangesRoles, RemainsOpen, MayBegin, RoleEnd, RoleStep, Roles, TargetRole, after_step, awaits_at}
pub use Rattle.conn_rules.specs.Roles.{begin_orders, changes_by, channels_in, channels_in_use, end_messages, is_order, leaves_at, orders}
pub use Rattle.conn_rules.specs.Roles.{roles_of, step_by, step_orders, target_channels, target_role, those_sent, to_stations}
pub use Rattle.conn_rules.specs.Roles.{with_target, ChangesRolesBy, IsGivenUp, IsNew, KeepsChannels, is_target_at, is_to_station}
pub use Rattle.conn_rules.specs.Roles.{target_orders}
pub use Rattle.conn_rules.specs.Roles.ChangesRoles.{ends, carries_on, had_ended}
pub use Rattle.conn_rules.specs.Roles.RoleEnd.{dismisses, drops, refused}
pub use Rattle.conn_rules.specs.Roles.RoleStep.{commands, completes, reverts, leaves, unchanged}
pub use Rattle.conn_rules.specs.Validity.{IsCarried, IsValid, DrainTime, IsHeldTenure}
pub use Rattle.conn_rules.specs.Steps.{Row, after_waiting, ask_for_held, begin, begin_waiting, done_at, dropping, failing}
pub use Rattle.conn_rules.specs.Steps.{is_for_station, hand_held, hold_down, hold_short_message, hold_up, leave, link_down, link_up, may_begin}
pub use Rattle.conn_rules.specs.Steps.{moved, relay_held, request_for, request_where, resting, resting_stage, row, settled, settled_stage}
pub use Rattle.conn_rules.specs.Steps.{shifted, short_message, waiting_outs, without_station, ◌then◌, begin_outs, tenure_outs}
pub use Rattle.conn_rules.specs.Streams.{AreApart, Future, IsHandedTo, IsApart, IsChanging, IsOpen, OfRow, from_input, is_dtap, of_target}
pub use Rattle.conn_rules.specs.Streams.{relayed, still_of, target_in, undone, used_channels, Ends, IsFinal, IsReleaseComplete, IsSilent}
pub use Rattle.conn_rules.specs.Streams.{KeepsDownlink, KeepsUplink, OnlyReleases, handed, handed_by as handed_by_message}
pub use Rattle.conn_rules.specs.Streams.{handed as handed_of, is_of, of_prepared, on_channel, received_by, rejects, relayed_by}
pub use Rattle.conn_rules.specs.Streams.{without_rejected}
pub use Rattle.conn_rules.specs.Table.{access, assign_immediately, command_to, complete, dtap_in, dtap_on_target, failure, failure_outs}
pub use Rattle.conn_rules.specs.Table.{nack_outs, on_activation_ack, on_activation_nack, on_assignment_request, on_cipher_mode_command}
pub use Rattle.conn_rules.specs.Table.{on_clear_command, on_complete, on_confirm, on_connection_failure, on_downlink, on_drain_expiry}
pub use Rattle.conn_rules.specs.Table.{on_dtap, on_error_indication, on_establish_confirm, on_establish_indication, on_expiry, on_failure}
pub use Rattle.conn_rules.specs.Table.{on_move, on_refused, on_release_ack, on_release_indication, on_released, on_station_down}
pub use Rattle.conn_rules.specs.Table.{on_switch_down, refuse, release, release_in, row_if, serving_after, speech_request, drains_at}
pub use Rattle.conn_rules.specs.Table.{is_some_draining, row_of, same_change, targets}
pub use Rattle.conn_rules.specs.Timers.{after_pass, drained_after}
pub use Rattle.conn_rules.specs.declared.input.Input.{Input}
pub use Rattle.conn_rules.specs.declared.state.Clearing.TheVariants.{Asked, Asked as WasAsked, Complete, Due}
pub use Rattle.conn_rules.specs.declared.state.Drain.{Drain}
pub use Rattle.conn_rules.specs.declared.state.ShortMessageLink.{ShortMessageLink}
pub use Rattle.conn_rules.specs.declared.state.ShortMessageLink.TheVariants.{Down, Up}
pub use Rattle.conn_rules.specs.declared.state.Stage.{Stage}
pub use Rattle.conn_rules.specs.declared.state.Stage.TheVariants.{Active, Changing, Draining, Preparing}
pub use Rattle.conn_rules.specs.declared.state.State.{State}
pub use Rattle.conn_rules.specs.declared.state.State.TheVariants.{Closed, Live, Removed, WaitActivation, WaitConfirm, WaitEstablish}
pub use Rattle.conn_rules.specs.declared.state.Target.{Target}
pub use Rattle.controller_model.specs.Channels.{access_channel, assignment_offer, cell_identifier, channel_in, channel_of_kind, first_free}
pub use Rattle.controller_model.specs.Channels.{free_channel, free_in, handover_offer, is_alike, is_free, is_unused, kind_of, request_offer}
pub use Rattle.controller_model.specs.Controller.{Controller, Entry, Turn, channel_state, channels_after, each, entry_of, free_channels}
pub use Rattle.controller_model.specs.Controller.{freed, freed_station, has_number, holder, ignoring, is_up, new_controller, place_at}
pub use Rattle.controller_model.specs.Controller.{place_of, put_back, remaining, state_in, turn, with_down, with_entry, with_state}
pub use Rattle.controller_model.specs.Life.{aged, all_aged, break_of, by_fitting, by_row, concerning, concerning_too, entry_after, entry_at}
pub use Rattle.controller_model.specs.Life.{on_expiry as expires, expiry, fits, frees, given, is_measured, life, may_open, measured}
pub use Rattle.controller_model.specs.Life.{measures, new_averages, new_entry, on_break, on_decision, on_freed, on_report, on_state}
pub use Rattle.controller_model.specs.Life.{on_what, on_word, pong, row_in, step, timed, with_own_input, with_connection, with_report}
pub use Rattle.controller_model.specs.LifeLaws.Acts.{Acts, ActsOn, Brought, FitsNone, IsAged, IsBrought, IsTimer, brought_by, brought_in}
pub use Rattle.controller_model.specs.LifeLaws.Acts.{brought_with, if_held, kept, kept_in, passed}
pub use Rattle.controller_model.specs.LifeLaws.Acts.Acts.{ages, takes_row, opens, rests}
pub use Rattle.controller_model.specs.LifeLaws.Acts.Brought.{breaks, of_frame, of_frame as comes_with, nothing, passes, reports}
pub use Rattle.controller_model.specs.LifeLaws.Concern.{FrameLeaves, IsLeft}
pub use Rattle.controller_model.specs.LifeLaws.Downlink.{ConservesDownlink, DownlinkIsConserved, IsPart, Switched, confirms, counted}
pub use Rattle.controller_model.specs.LifeLaws.Downlink.{is_confirm, left_over, nothing_switched, requests, switched, with_moment}
pub use Rattle.controller_model.specs.LifeLaws.End.{AllAreRead, AllKeepSilence, AreHandedToServing, HasNoStream, IsAway, IsThere, KeepsSilence}
pub use Rattle.controller_model.specs.LifeLaws.End.{OnlyReleasesAfter, SilenceIsKept, IsSilentThrough}
pub use Rattle.controller_model.specs.LifeLaws.History.{IsHistory, Moment, all_messages, connection_of, is_for, outs_for, word_by, word_in}
pub use Rattle.controller_model.specs.LifeLaws.Naming.{Names, NamesItsMobile, NamesOf, SameRequest}
pub use Rattle.controller_model.specs.LifeLaws.Numbers.{AreRising, IsAbove, IsBelow, IsNumbered}
pub use Rattle.controller_model.specs.LifeLaws.Owning.{AreIn, LinkedOf, Owns, OwnsOpen, is_link_up, used_in}
pub use Rattle.controller_model.specs.LifeLaws.Placing.{KeepsToChannels, used_by}
pub use Rattle.controller_model.specs.LifeLaws.Reach.{PutsOnUpLinks}
pub use Rattle.controller_model.specs.LifeLaws.Seen.{messages_on, passed_by}
pub use Rattle.controller_model.specs.LifeLaws.Sending.{IsOctetStep, IsMessage, IsOfOctets, IsSent, SendsMessages}
pub use Rattle.controller_model.specs.LifeLaws.Uplink.{ServedTenure, UplinkIsConserved, acknowledged, after_input, after_moment, after_word}
pub use Rattle.controller_model.specs.LifeLaws.Uplink.{begin_first, begin_next, beginning, ended, heard, is_on, is_same, joined, of_sapi}
pub use Rattle.controller_model.specs.LifeLaws.Uplink.{performs, service, with_message}
pub use Rattle.controller_model.specs.LifeLaws.Using.{AreUsed, used_places}
pub use Rattle.controller_model.specs.Ownership.{Leaves, concerned}
pub use Rattle.controller_model.specs.Reading.{Carried, body_word, bssap_word, carried, change_word, data_word, management_of_link}
pub use Rattle.controller_model.specs.Reading.{management_word, report_word, result_word, rr_word, rsl_word, sapi_of, station_word}
pub use Rattle.controller_model.specs.Reading.{switch_word, word_of}
pub use Rattle.controller_model.specs.Reading.Carried.{connection_control, link_management, other, radio_signalling}
pub use Rattle.controller_model.specs.Reports.{best, bits, decision_over, decision_where, is_greatest, moving_to, places_from, reaches}
pub use Rattle.controller_model.specs.Reports.{reaching, report_in, report_reading}
pub use Rattle.controller_model.specs.Views.{forwarded, forwarded_by, forwarded_in, handed_by, handed as handed_in, held, held_up}
pub use Rattle.controller_model.specs.Views.{held_up_for, links as links_of, rxqual}
pub use Rattle.controller_model.specs.declared.channel_kind.ChannelKind.{ChannelKind}
pub use Rattle.controller_model.specs.declared.channel_kind.ChannelKind.TheVariants.{Sdcch, Tch}
pub use Rattle.controller_model.specs.declared.channel_state.ChannelState.{ChannelState}
pub use Rattle.controller_model.specs.declared.channel_state.ChannelState.TheVariants.{Free, InUse, Releasing}
pub use Rattle.controller_model.specs.declared.limits.TheConstants.{CHANNEL_NUMBERS, MAX_CONNECTION_NUMBER}
pub use Rattle.controller_model.specs.declared.step.Step.{Step}
pub use Rattle.controller_model.specs.declared.step.Step.TheVariants.{Take, Tick}
pub use Rattle.controller_model.specs.declared.word.Word.{Word}
pub use Rattle.controller_model.specs.declared.word.Word.TheVariants.{Asks, Nothing, OnChannel, OnConnection, Ping, Reports}
pub use Rattle.dtap_codec.specs.RrReading.{rr_reading}
pub use Rattle.dtap_codec.specs.declared.report.Report.{Report}
pub use Rattle.dtap_codec.specs.declared.rr.RrMessage.{RrMessage}
pub use Rattle.dtap_codec.specs.declared.rr_fault.RrFault.{RrFault}
pub use Rattle.dtap_codec.specs.declared.sapi.Sapi.{Sapi}
pub use Rattle.dtap_codec.specs.declared.sapi.Sapi.TheVariants.{Three, Zero}
pub use Rattle.ho_decision.specs.Decision.{Chooses, Decides, IsChosen, NoneReaches, average_at, bound, is_due}
pub use Rattle.ho_decision.specs.Settings.{Settings, settings_of}
pub use Rattle.ho_decision.specs.declared.decision.Decision.{Decision}
pub use Rattle.ho_decision.specs.declared.decision.Decision.TheVariants.{Move, Stay}
pub use Rattle.hold_queue.specs.ChainState.{TenureHold as HeldTenure, chain_count, put_in, empty_tenure, tenure_messages}
pub use Rattle.hold_queue.specs.HoldState.{count, messages, with_messages}
pub use Rattle.ipa_framing.specs.declared.frame.Frame.{Frame}
pub use Rattle.ipa_framing.specs.declared.streams.TheConstants.{CCM_STREAM, PING, RSL_STREAM, SCCP_STREAM}
pub use Rattle.octets.proofs.Hex.{hex}
pub use Rattle.octets.proofs.Steps.{bind_ok, guard, ok_is, result_map_ok}
pub use Rattle.octets.specs.Element.{AreOctets, Element}
pub use Rattle.octets.specs.declared.limits.TheConstants.{INITIAL_LIMIT, LENGTH_LIMIT, MESSAGE_LIMIT}
pub use Rattle.rsl_codec.specs.ChannelNumber.{is_channel}
pub use Rattle.rsl_codec.specs.Rsl.{IsL3, fields as rsl_fields}
pub use Rattle.rsl_codec.specs.RslReading.{rsl_reading}
pub use Rattle.rsl_codec.specs.RslText.{rsl_text, rsl_fields_text}
pub use Rattle.rsl_codec.specs.RslType.{rsl_discriminator, rsl_octet, rsl_type, type_of as rsl_type_of}
pub use Rattle.rsl_codec.specs.declared.channel_number.TheConstants.{FIRST_SDCCH, FIRST_TCH, FIRST_TCH_H, LAST_SDCCH, PCH_AND_AGCH, RACH}
pub use Rattle.rsl_codec.specs.declared.fault.RslFault.{RslFault}
pub use Rattle.rsl_codec.specs.declared.radio_link.Data.{Data as DataMessage}
pub use Rattle.rsl_codec.specs.declared.rsl.Rsl.{Rsl}
pub use Rattle.rsl_codec.specs.declared.rsl.Rsl.TheVariants.{DataRequest, ImmediateAssignCommand}
pub use Rattle.rsl_codec.specs.declared.rsl_type.RslType.{RslType}
pub use Rattle.rsl_codec.specs.declared.values.RequestReference.{RequestReference}
pub use Rattle.ruled_relay.specs.declared.item.What.{What}
pub use Rattle.settings.specs.Parameters.{AreAllowed, CellParameters, Parameters, IsCell, IsChannel, handover_settings_of}
pub use Rattle.std.proofs.Common.{Bool, Contains, Err, List, None, Ok, Option, Result, Some, [], ap, append-nil, append_assoc, arith, codes}
pub use Rattle.std.proofs.Common.{cond, drop, false, filter, find, fold, if◌then◌else◌, inl, inr, length, map, nat_le, not, option_map}
pub use Rattle.std.proofs.Common.{refl, replicate, set, slice_get, slice_index_or, subst, suc, sym, true, true≢false, zero, ℕ, ◌&&◌, ◌++◌}
pub use Rattle.std.proofs.Common.{◌+◌, ◌-◌, ◌<◌, ◌==◌, ◌||◌, ◌∙◌, ◌∷◌, ◌≡◌, ◌≢◌, ◌≤◌, ◌⊎◌, nat_eq, nat_lt, slice_index, take, ◌%◌, ◌*◌, ◌/◌}
pub use Rattle.std.proofs.Common.{◌^◌, ◌↔◌}
pub use Rattle.std.proofs.lemmas.Bool.{and_parts, cases_Bool, cond-false, cond-true, eq-eqb, eqb-true, leb-true, ne_eqb, cases_lt}
pub use Rattle.std.proofs.lemmas.Bool.{eqb-false, le-leb, lt-leb, not-true, or_cases, or_left, or_right}
pub use Rattle.std.proofs.lemmas.Grind.{flat_map-append, fold-append}
pub use Rattle.std.proofs.lemmas.List.{get_or-set_other, append_cancel_right, get_or-set_same, length-replicate}
pub use Rattle.std.proofs.lemmas.List.Elements.{recursion_from_All}
pub use Rattle.std.proofs.lemmas.Option.{option_and_then_some, slice_get_within, unwrap_or-slice_get}
pub use Rattle.std.specs.List.{AllByRecursion, flat_map, list_any, list_all}
pub use Rattle.std.specs.Option.{option_to_list, is_some, ok_or}
