-- SPDX-License-Identifier: MIT OR Apache-2.0
-- What the proofs of this crate name of its specs and of the crates below it.
pub use Rattle.bssmap_codec.specs.BssapReading.{bssap_reading, cause_of}
pub use Rattle.bssmap_codec.specs.BssapText.{bssap_text, bssap_write_fault}
pub use Rattle.bssmap_codec.specs.Layer3.{IsLayer3}
pub use Rattle.bssmap_codec.specs.Reference.{IsReference, reference_at, reference_text, references_at}
pub use Rattle.bssmap_codec.specs.SccpReading.{content_at, data_behind_at, fixed_references_at, part_at, sccp_reading, user_data_at}
pub use Rattle.bssmap_codec.specs.SccpText.{sccp_text, content_text}
pub use Rattle.bssmap_codec.specs.declared.bssap.Bssap.{Bssap}
pub use Rattle.bssmap_codec.specs.declared.bssap.Bssap.TheVariants.{Management, Transfer}
pub use Rattle.bssmap_codec.specs.declared.bssmap.Bssmap.{Bssmap}
pub use Rattle.bssmap_codec.specs.declared.bssmap.Bssmap.TheVariants.{ClearCommand, ClearComplete, ClearRequest}
pub use Rattle.bssmap_codec.specs.declared.fault.InterfaceFault.{InterfaceFault}
pub use Rattle.bssmap_codec.specs.declared.fault.InterfaceFault.TheVariants.{Short}
pub use Rattle.bssmap_codec.specs.declared.sccp.Sccp.{Sccp}
pub use Rattle.bssmap_codec.specs.declared.sccp.Sccp.TheVariants.{ConnectionConfirm, ConnectionRefused, ConnectionRequest, DataForm1}
pub use Rattle.bssmap_codec.specs.declared.sccp.Sccp.TheVariants.{Released}
pub use Rattle.bssmap_codec.specs.declared.values.CellIdentifier.{CellIdentifier}
pub use Rattle.conn_messages.proofs.Readings.{message_again}
pub use Rattle.conn_messages.specs.Out.{IsReadOf, outs_of, out_of}
pub use Rattle.conn_messages.specs.StationMessage.{access_activation, change_activation, immediate_assign_command, immediate_assignment}
pub use Rattle.conn_messages.specs.StationMessage.{rf_channel_release, change_command, channel_release, command, handing}
pub use Rattle.conn_messages.specs.SwitchMessage.{complete_layer3}
pub use Rattle.conn_messages.specs.declared.causes.TheConstants.{NORMAL_EVENT}
pub use Rattle.conn_messages.specs.declared.channel.Change.{Change}
pub use Rattle.conn_messages.specs.declared.channel.Change.TheVariants.{Assignment, Handover}
pub use Rattle.conn_messages.specs.declared.channel.Channel.{Channel}
pub use Rattle.conn_messages.specs.declared.channel.Place.{Place}
pub use Rattle.conn_messages.specs.declared.message.Message.{Message}
pub use Rattle.conn_messages.specs.declared.message.Message.TheVariants.{Data, ReleaseComplete, Request, Station}
pub use Rattle.conn_messages.specs.declared.out.Out.{Out}
pub use Rattle.conn_messages.specs.declared.parameters.TheConstants.{SWITCH_LINK}
pub use Rattle.conn_rules.proofs.Closing.{IsFinal-row}
pub use Rattle.conn_rules.proofs.DownlinkMessages.{AllByRecursion-append, AllByRecursion-filter, AllByRecursion-so}
pub use Rattle.conn_rules.proofs.RolesAccount.{KeepsAccount-by, undone-still_draining}
pub use Rattle.conn_rules.proofs.RowPuts.{either, where_fits}
pub use Rattle.conn_rules.proofs.RolesApart.{target_in_role, channels_of-roles}
pub use Rattle.conn_rules.proofs.RolesTable.{changes_roles_row}
pub use Rattle.conn_rules.proofs.ValidParts.{nothing as no-length}
pub use Rattle.conn_rules.proofs.ValidTable.{IsValid-row}
pub use Rattle.conn_rules.proofs.UplinkPlaces.{AreAway, apart_behind, same_place as place-is, away_of}
pub use Rattle.conn_rules.proofs.UplinkTable.{row_keeps}
pub use Rattle.conn_rules.specs.Connection.{Connection, drain_at, enter, is_at, new_connection}
pub use Rattle.conn_rules.specs.Putting.{same_place}
pub use Rattle.conn_rules.specs.Roles.{ChangesRoles, ChangesRolesBy, RemainsOpen, MayBegin, RoleEnd, RoleStep, Roles, TargetRole, after_step}
pub use Rattle.conn_rules.specs.Roles.{awaits_at, begin_orders, changes_by, commanded, completed, end_messages, is_order, is_target_at}
pub use Rattle.conn_rules.specs.Roles.{leaves_at, orders, roles_of, step_by, step_orders, target_channels, target_role, those_sent}
pub use Rattle.conn_rules.specs.Roles.{with_target, IsCommand, KeepsChannels, commanded as commanded_role, is_to_station}
pub use Rattle.conn_rules.specs.Roles.{commanded as role_commanded, still_draining, target_orders, target_releases, to_stations}
pub use Rattle.conn_rules.specs.Roles.ChangesRoles.{ends, carries_on, had_ended}
pub use Rattle.conn_rules.specs.Roles.RoleEnd.{dismisses, drops, refused}
pub use Rattle.conn_rules.specs.Roles.RoleStep.{commands, commands as role_commands, completes, completes as role_completes, reverts}
pub use Rattle.conn_rules.specs.Roles.RoleStep.{reverts as role_reverts, leaves, leaves as role_leaves, unchanged}
pub use Rattle.conn_rules.specs.Roles.RoleStep.{unchanged as roles_unchanged}
pub use Rattle.conn_rules.specs.Roles.RoleStep.{commands as it_commands, completes as it_completes, reverts as it_reverts}
pub use Rattle.conn_rules.specs.Roles.RoleStep.{leaves as it_leaves, unchanged as it_is_unchanged}
pub use Rattle.conn_rules.specs.Validity.{IsCarried, IsValid, IsValidState, FirstIsEmpty, IsHeldTenure}
pub use Rattle.conn_rules.specs.Steps.{Row, done_at, dropping, row, without_station, begin, is_for_station}
pub use Rattle.conn_rules.specs.Streams.{AreApart, Future, IsApart, IsOpen, KeepsUplink, OfRow, from_input, is_dtap, relayed, undone}
pub use Rattle.conn_rules.specs.Streams.{used_channels, Ends, IsFinal, first_at, of_prepared, of_target, still_of, still_to_relay}
pub use Rattle.conn_rules.specs.Table.{access, assign_immediately, command_to, dtap_in, on_activation_ack, on_activation_nack}
pub use Rattle.conn_rules.specs.Table.{on_assignment_request, on_cipher_mode_command, on_clear_command, on_complete, on_confirm}
pub use Rattle.conn_rules.specs.Table.{on_connection_failure, on_downlink, on_drain_expiry, on_dtap, on_error_indication}
pub use Rattle.conn_rules.specs.Table.{on_establish_confirm, on_establish_indication, on_failure, on_move, on_refused, on_release_ack}
pub use Rattle.conn_rules.specs.Table.{on_release_indication, on_released, on_station_down, on_switch_down, release_in, row_if, same_change}
pub use Rattle.conn_rules.specs.Table.{row_of, serving_after}
pub use Rattle.conn_rules.specs.declared.input.Input.{Input}
pub use Rattle.conn_rules.specs.declared.state.Clearing.TheVariants.{Asked as WasAsked, Complete, Due}
pub use Rattle.conn_rules.specs.declared.state.Drain.{Drain}
pub use Rattle.conn_rules.specs.declared.state.Stage.TheVariants.{Active, Changing, Draining, Preparing}
pub use Rattle.conn_rules.specs.declared.state.State.{State}
pub use Rattle.conn_rules.specs.declared.state.State.TheVariants.{Closed, Live, Removed, WaitActivation, WaitConfirm, WaitEstablish}
pub use Rattle.conn_rules.specs.declared.state.Target.{Target}
pub use Rattle.controller_model.proofs.LifeLaws.Acting.{conn_of, outs_own, row_found}
pub use Rattle.controller_model.proofs.LifeLaws.Beside.{links_with, step_keeps_rest}
pub use Rattle.controller_model.proofs.LifeLaws.Concerning.{frame_leaves, frame_silent}
pub use Rattle.controller_model.proofs.LifeLaws.Entries.{find_above, find_below, behind_found, found_number, remaining_is}
pub use Rattle.controller_model.proofs.LifeLaws.Fitting.{aged_holds, fine_old, own_carried, pass_valid, Fits, IsFine, IsLinkBreak}
pub use Rattle.controller_model.proofs.LifeLaws.Fitting.{break_carried, row_is, timer_carried}
pub use Rattle.controller_model.proofs.LifeLaws.Keeping.{Avoids, elsewhere, from_stations, sent_avoid}
pub use Rattle.controller_model.proofs.LifeLaws.Lives.{life_acts, life_fits}
pub use Rattle.controller_model.proofs.LifeLaws.NamingLife.{life_names}
pub use Rattle.controller_model.proofs.LifeLaws.Owning.{IsOffered, acknowledged_owns}
pub use Rattle.controller_model.proofs.LifeLaws.OwningLife.{break_shut, life_owns, timer_shut, expiry_holds, fine_at, life_linked, none_if}
pub use Rattle.controller_model.proofs.LifeLaws.OwningLife.{own_input_holds}
pub use Rattle.controller_model.proofs.LifeLaws.OwningSteps.{offered_free, IsRow, IsShaped}
pub use Rattle.controller_model.proofs.LifeLaws.OwningWords.{Holds, changes_of, if_is, owns_entry, assignment_offers, freed_shaped}
pub use Rattle.controller_model.proofs.LifeLaws.Passing.{IsNotOn, PassesBy, frame_passes, read_request}
pub use Rattle.controller_model.proofs.LifeLaws.Places.{IsIn, free≢release, free≢use, is_there, state_else, state_here, all_at, release≢use}
pub use Rattle.controller_model.proofs.LifeLaws.Places.{still_in, still_there, use≢release}
pub use Rattle.controller_model.proofs.LifeLaws.Readings.{IsCarriedBy, IsFull, rsl_full, word_carried}
pub use Rattle.controller_model.proofs.LifeLaws.SeenFrames.{IsText, forwarded_seen}
pub use Rattle.controller_model.proofs.LifeLaws.SeenStations.{same_channel, open_or, request_is, request_known, same_kind}
pub use Rattle.controller_model.proofs.LifeLaws.Silence.{same_state, kept_there, step_silence}
pub use Rattle.controller_model.proofs.LifeLaws.SoundLife.{IsSoundAll, life_sends, life_sound, offer_list, request_sound, IsSoundCell}
pub use Rattle.controller_model.proofs.LifeLaws.SoundLife.{RefersIn, SoundParts, offered_sound, sent_message, word_refers}
pub use Rattle.controller_model.proofs.LifeLaws.SoundMessages.{IsSoundChannel, sound_access}
pub use Rattle.controller_model.proofs.LifeLaws.SoundRows.{RefersBy, IsSoundRow, row_sound}
pub use Rattle.controller_model.proofs.LifeLaws.Sources.{IsAtPlace, word_from, IsFrom, IsOfSwitch}
pub use Rattle.controller_model.proofs.LifeLaws.Turns.{step_does, IsDue, all_found, break_does, expiry_own, step_numbered, timed_tame}
pub use Rattle.controller_model.proofs.LifeLaws.Turns.{own_input_tame}
pub use Rattle.controller_model.proofs.LifeLaws.UplinkLife.{acts_usual, life_conserves_up, used_apart}
pub use Rattle.controller_model.proofs.LifeLaws.UsingLife.{life_after, life_ready, life_uses, run_step, IsAfter, aged_ready, all_here}
pub use Rattle.controller_model.proofs.LifeLaws.UsingLife.{expiry_numbers, life_reaches, ready_by, ready_uses, still_here, own_input_numbers}
pub use Rattle.controller_model.proofs.LifeLaws.UsingLife.{word_asked}
pub use Rattle.controller_model.proofs.LifeLaws.UsingRows.{contains_none, all_contained, contains_behind, contains_first}
pub use Rattle.controller_model.proofs.LifeLaws.UsingWords.{IsHere, Ready, here_of, IsAskedOf}
pub use Rattle.controller_model.proofs.LifeLaws.UsualRows.{PutsUsual, usual_row, AreUsual}
pub use Rattle.controller_model.proofs.Lives.{usual_settings}
pub use Rattle.controller_model.proofs.Numbers.{keeps_number}
pub use Rattle.controller_model.specs.Channels.{access_channel, handover_offer, request_offer, channel_in, channel_of_kind, first_free}
pub use Rattle.controller_model.specs.Channels.{free_channel, free_in, kind_of}
pub use Rattle.controller_model.specs.Controller.{Controller, Entry, Turn, channel_state, each, entry_of, freed, freed_station, holder}
pub use Rattle.controller_model.specs.Controller.{ignoring, is_up as hears, new_controller, place_at, place_of, state_in, turn, with_down}
pub use Rattle.controller_model.specs.Controller.{with_entry, with_state, channels_after, free_channels}
pub use Rattle.controller_model.specs.Life.{aged, all_aged, break_of, by_fitting, concerning, concerning_too, entry_at, expiry, frees}
pub use Rattle.controller_model.specs.Life.{given, may_open, measured, measures, on_break, on_decision, on_expiry, on_freed, on_report}
pub use Rattle.controller_model.specs.Life.{on_state, on_what, on_word, pong, row_in, step, timed, with_report, by_row, entry_after}
pub use Rattle.controller_model.specs.Life.{on_expiry as expires, life, new_entry, take, tick, with_own_input}
pub use Rattle.controller_model.specs.LifeLaws.Acts.{Acts, ActsOn, Brought, FitsNone, IsAged, IsBrought, brought_by, brought_in}
pub use Rattle.controller_model.specs.LifeLaws.Acts.{brought_with, if_held, kept, kept_in, IsTimer, MissesOf}
pub use Rattle.controller_model.specs.LifeLaws.Acts.Acts.{ages, takes_row, opens, rests}
pub use Rattle.controller_model.specs.LifeLaws.Acts.Brought.{nothing, of_frame as brings_input, nothing as brings_nothing}
pub use Rattle.controller_model.specs.LifeLaws.Acts.Brought.{passes as brings_time, of_frame, reports}
pub use Rattle.controller_model.specs.LifeLaws.End.{IsThere}
pub use Rattle.controller_model.specs.LifeLaws.History.{connection_of, connection_of as controllers, is_for, outs_for, word_by, word_in}
pub use Rattle.controller_model.specs.LifeLaws.History.{IsHistory, Moment, all_messages, connection_of as had_of}
pub use Rattle.controller_model.specs.LifeLaws.Naming.{Names, NamesItsMobile, SameRequest, NamesOf}
pub use Rattle.controller_model.specs.LifeLaws.Numbers.{AreRising, IsAbove, IsNumbered, IsBelow}
pub use Rattle.controller_model.specs.LifeLaws.Owning.{AreIn, Owns, OwnsOpen, is_link_up, LinkedOf, used_in}
pub use Rattle.controller_model.specs.LifeLaws.Seen.{messages_on, passed_by, is_same_sapi}
pub use Rattle.controller_model.specs.LifeLaws.Sending.{IsOctetStep, IsOfOctets, IsSent, IsMessage, SendsMessages}
pub use Rattle.controller_model.specs.LifeLaws.Using.{AreUsed, used_places}
pub use Rattle.controller_model.specs.Ownership.{concerned}
pub use Rattle.controller_model.specs.Reading.{body_word, bssap_word, change_word, data_word, management_of_link, management_word, of_sapi}
pub use Rattle.controller_model.specs.Reading.{report_word, result_word, rr_word, rsl_word, sapi_of, station_word, switch_word, Carried}
pub use Rattle.controller_model.specs.Reading.{valid_word, word_of}
pub use Rattle.controller_model.specs.Reading.Carried.{connection_control, link_management, other, radio_signalling}
pub use Rattle.controller_model.specs.Reports.{decision_over, report_reading}
pub use Rattle.controller_model.specs.Views.{forwarded_by, forwarded, forwarded_in, held_up, held_up_for, to_switch}
pub use Rattle.controller_model.specs.declared.channel_kind.ChannelKind.TheVariants.{Sdcch, Tch}
pub use Rattle.controller_model.specs.declared.channel_state.ChannelState.{ChannelState}
pub use Rattle.controller_model.specs.declared.channel_state.ChannelState.TheVariants.{Free, InUse, Releasing}
pub use Rattle.controller_model.specs.declared.forwarded.Forwarded.{Forwarded}
pub use Rattle.controller_model.specs.declared.limits.TheConstants.{CHANNEL_NUMBERS, MAX_CONNECTION_NUMBER}
pub use Rattle.controller_model.specs.declared.step.Step.{Step}
pub use Rattle.controller_model.specs.declared.step.Step.TheVariants.{Take}
pub use Rattle.controller_model.specs.declared.word.Word.{Word}
pub use Rattle.controller_model.specs.declared.word.Word.TheVariants.{Asks, Nothing, OnChannel, OnConnection, Ping, Reports}
pub use Rattle.dtap_codec.proofs.Numbers.{is_flow_with_number}
pub use Rattle.dtap_codec.proofs.Rising.{Rise-cut, Rise-front, Rise-grow, Rise-of_flow}
pub use Rattle.dtap_codec.specs.Message.{is_flow_message}
pub use Rattle.dtap_codec.specs.Number.{with_number, count_of}
pub use Rattle.dtap_codec.specs.Places.{Carries, Rise}
pub use Rattle.dtap_codec.specs.Places.Rise.{next, again, over as rise_over}
pub use Rattle.dtap_codec.specs.RrReading.{rr_reading}
pub use Rattle.dtap_codec.specs.RrText.{rr_text}
pub use Rattle.dtap_codec.specs.declared.number.Modulus.TheVariants.{Four, Two}
pub use Rattle.dtap_codec.specs.declared.rr.ChannelDescription.{ChannelDescription}
pub use Rattle.dtap_codec.specs.declared.rr.RrCause.{RrCause}
pub use Rattle.dtap_codec.specs.declared.rr.RrMessage.{RrMessage}
pub use Rattle.dtap_codec.specs.declared.rr.RrMessage.TheVariants.{AssignmentCommand, AssignmentComplete, AssignmentFailure, ChannelRelease}
pub use Rattle.dtap_codec.specs.declared.rr.RrMessage.TheVariants.{HandoverCommand, HandoverComplete, HandoverFailure, ImmediateAssignment}
pub use Rattle.dtap_codec.specs.declared.rr.RrMessage.TheVariants.{MeasurementReport}
pub use Rattle.dtap_codec.specs.declared.rr_fault.RrFault.{RrFault}
pub use Rattle.dtap_codec.specs.declared.sapi.Sapi.{Sapi}
pub use Rattle.dtap_codec.specs.declared.sapi.Sapi.TheVariants.{Three, Zero}
pub use Rattle.controller_model.specs.Decision.{Decision}
pub use Rattle.controller_model.specs.Decision.TheVariants.{Stay}
pub use Rattle.hold_queue.specs.ChainState.{TenureHold as Held, empty_tenure, chain_count, put_in, tenure_messages}
pub use Rattle.hold_queue.specs.HoldState.{HoldState, count, messages, with_messages}
pub use Rattle.mobile_end.proofs.GoingOn.{RunsToEnd-acknowledged, RunsToEnd-lent, RunsToEnd-new, RunsToEnd-numbered, RunsToEnd-resumed, RunsToEnd-unnumbered}
pub use Rattle.mobile_end.proofs.Lives.{IsKept-calls, is_initial_clear, is_sendable_clear}
pub use Rattle.mobile_end.proofs.Numbering.{IsClear-flow, to_be_taken-acknowledged, to_be_taken-lent_message, to_be_taken-waits}
pub use Rattle.mobile_end.specs.Calls.{Call, after_call, after_calls, frame_lent, taken_on_three_by_call, taken_on_three_by_calls}
pub use Rattle.mobile_end.specs.Lawful.{has_clear_number, is_initial, is_sendable}
pub use Rattle.mobile_end.specs.declared.fault.MobileFault.{MobileFault}
pub use Rattle.mobile_end.specs.declared.fault.MobileFault.TheVariants.{BadMessage}
pub use Rattle.octets.proofs.Steps.{bind_ok, ok_is, result_map_ok}
pub use Rattle.octets.specs.Lists.{IsPrefix}
pub use Rattle.world_laws.specs.Access.Arriving.{LetsNoneGo, is_of_others, is_release}
pub use Rattle.world_laws.specs.Access.Coming.{AreAssigned, Assigns, AssignsBy, AssignsIn, BeginsOnce, IsComing, IsNew, behind_first}
pub use Rattle.world_laws.specs.Access.Coming.{data_by, data_up}
pub use Rattle.world_laws.specs.Access.Requested.{AreBeside, AreForOthers, AreOneEach, AssignsAnother, HasAccess, ControllerBringsComing}
pub use Rattle.world_laws.specs.Access.Requested.{IsBeside, NamesAnother}
pub use Rattle.world_laws.specs.Access.Requested.HasAccess.{requests as has_requested, requests, on_its_way as still_comes}
pub use Rattle.world_laws.specs.Acknowledged.{AcksFlow, AcksShowEnd, AllAcksShowEnd, NoneReleases, ReleasesLast, acknowledgements_taken}
pub use Rattle.world_laws.specs.Acknowledged.{acknowledgements_up, is_release_ack, messages_up, read_by, read_of}
pub use Rattle.world_laws.specs.Channels.Roles.{AcknowledgementsAgree, ChannelsEnd, FreeAreSilent, IsSilent, OldChannelsEnd}
pub use Rattle.world_laws.specs.ComingUp.{brings, brings_by, brings_if, brings_in, coming_up, made_of, of_establishment, of_main}
pub use Rattle.world_laws.specs.Ended.{DeliversAt, EndedAreInOrder, EndedRemainInOrder, HasEnded, LineUpsMayEnd, PutsNoMore}
pub use Rattle.world_laws.specs.FromTheBeginning.{ConnectionsAreValid, MessagesAreWhole}
pub use Rattle.world_laws.specs.GoingDown.{going_down, leading, leading_by, leading_from_air, leading_from_outbox}
pub use Rattle.world_laws.specs.Handled.{FramesKeepLineUps, IsReadyFor, awaited_in}
pub use Rattle.world_laws.specs.Handling.OpenOrEnded.{IsOpenOrEnded, LiveConnectionsContinue, is_of_controller}
pub use Rattle.world_laws.specs.LineUp.Alive.{Alive, ChangePhase, Condition, FirstRelays, Follows, IsHereOrGone, some_lost}
pub use Rattle.world_laws.specs.LineUp.Alive.Condition.{left_the_cell, lost_old, lost_serving, lost_target, sound}
pub use Rattle.world_laws.specs.LineUp.Alive.Follows.{rises}
pub use Rattle.world_laws.specs.LineUp.Alive.IsHereOrGone.{left, remains}
pub use Rattle.world_laws.specs.LineUp.BreakStep.{BreakStep, lost}
pub use Rattle.world_laws.specs.LineUp.BreakStep.BreakStep.{breaks_old, breaks_serving, breaks_target}
pub use Rattle.world_laws.specs.LineUp.ChangeStep.{ChangeStep, after_complete, done, ended}
pub use Rattle.world_laws.specs.LineUp.Order.{IsInOrder, arriving}
pub use Rattle.world_laws.specs.LineUp.Places.{Item as Brings, Item as Items, LineUp, controls_in, controls_of, flow, fresh, holding, line}
pub use Rattle.world_laws.specs.LineUp.Places.{messages_in, part_of, parts_of, texts_in, with_items}
pub use Rattle.world_laws.specs.LineUp.Places.Item.{brought as brings_up, released as ends_up, released as release_ack, released}
pub use Rattle.world_laws.specs.LineUp.Places.Seat.{gone, moving, on_serving, on_target}
pub use Rattle.world_laws.specs.LineUp.Steps.Step.{by_break, by_change, by_mobile, by_relaying}
pub use Rattle.world_laws.specs.LineUp.Steps.Steps.{first, none}
pub use Rattle.world_laws.specs.LineUps.{assembled, commanded_target, draining_tenure, is_changing, is_confirmed, is_ended, is_gone}
pub use Rattle.world_laws.specs.LineUps.{is_intact, is_of_peer, is_opening, line_up, lined, old_tenure, old_tenures, remembered, seat_from}
pub use Rattle.world_laws.specs.LineUps.{serving_hold, serving_tenure, taken_in, taken_of, target_tenure, waiting_of}
pub use Rattle.world_laws.specs.AccountedFor.{AcksAgree, HasOpened, IsBeyondAsking, IsLed, IsUnconfirmed, IsUnknownForGood, IsOpenAndLinedUp, TargetIsFresh}
pub use Rattle.world_laws.specs.AccountedFor.{initial_by, initials_up}
pub use Rattle.world_laws.specs.Order.Beginning.{Begins, ConnectionsBegin, ConnectionsBeginComing, HasBegun}
pub use Rattle.world_laws.specs.Order.LineUps.{AllNumbersAreSomewhere, AllPlacesRise, IsLinedUp, PlacesRise, still_to_arrive}
pub use Rattle.world_laws.specs.Order.OctetEvents.{AreOctetEvents, ArriveInOctets, HasFairCause, IsFair, IsFairEntry, IsOctetAction}
pub use Rattle.world_laws.specs.Order.OctetEvents.{IsOctetEvent, IsOctetItem, PutsFairly, StationsGiveOctets}
pub use Rattle.world_laws.specs.Order.Openers.{first_served, has_asked, served, served_by}
pub use Rattle.world_laws.specs.Order.Order.{AllRunsAreInOrder, CutNumbersRemainCut, Facts, IsBeginningOfSent, NumbersAreSomewhere, RunsAreInOrder}
pub use Rattle.world_laws.specs.Order.QuietDown.{ChannelsBeginQuiet, ChannelsRemainQuiet, NoDataEntry, NoDataOn, Quiet, QuietLetsNoneGo}
pub use Rattle.world_laws.specs.Order.QuietDown.{Waits}
pub use Rattle.world_laws.specs.Order.QuietDown.Waits.{here, later}
pub use Rattle.world_laws.specs.Order.Whereabouts.{IsComingTo, IsFresh, IsOfModulus, OnceDown, Whereabouts, SwitchIsOfModulus, WhileUp}
pub use Rattle.world_laws.specs.Order.Whereabouts.OnceDown.{cut, silent}
pub use Rattle.world_laws.specs.Order.Whereabouts.Whereabouts.{once_down, while_up}
pub use Rattle.world_laws.specs.Order.Unanswered.{IsAsItConnected, NoneNames, StillAsks, UnansweredMobilesAsk, WasNeverAnswered}
pub use Rattle.world_laws.specs.OthersFrame.{TookOctets, FramesAreForOthers, IsHad}
pub use Rattle.world_laws.specs.OwnFrame.{FrameIsHandled, IsFrameFor, IsRequested, IsSaidTo, freed_for}
pub use Rattle.world_laws.specs.OwnFrame.IsSaidTo.{on_channel as is_on_channel, on_connection as is_on_connection, on_channel}
pub use Rattle.world_laws.specs.OwnFrame.IsSaidTo.{on_connection}
pub use Rattle.world_laws.specs.OwnHandle.{AreInOrder, BeginsTenure, HandleKeepsLineUps, HandlesFor, IsPutAsRead, TimeAgesLineUps}
pub use Rattle.world_laws.specs.OwnRow.{DoesRow, OpeningLinesUp, Opens, RowKeepsLineUp}
pub use Rattle.world_laws.specs.OwnStep.{OwnStep, StillAwaits, lacks, some_lacks, target_items}
pub use Rattle.world_laws.specs.Owners.Alone.{ChannelsAreMobiles, ConnectionsAreAlone, IsMobiles}
pub use Rattle.world_laws.specs.Owners.OneEach.{IsUnanswered, is_request_of, made_by, requests_in, requests_up, said_in}
pub use Rattle.world_laws.specs.References.Agree.Agrees.{is_asking, is_known, is_unasked, is_unheard}
pub use Rattle.world_laws.specs.References.Over.{IsOver, OverPutsNoMore, TakesOctets}
pub use Rattle.world_laws.specs.References.Taken.{ArePeers, DroppedAreUnknown, HasNotAsked, IsEarlyIn, IsUnknownToSwitch, NamesAlwaysAgree}
pub use Rattle.world_laws.specs.References.Taken.{PeersDiffer, SwitchDeliversOrRefuses, UnaskedAreUnknown, UnknownRemainUnknown}
pub use Rattle.world_laws.specs.Refusals.{NoneRefuse, RefusesNone}
pub use Rattle.world_laws.specs.SapiThree.{BringsBesideFlow, FlowIsOnSapiZero, IsBesideFlow, SaysBesideFlow}
pub use Rattle.world_laws.specs.Seated.{AreActiveAt, IsAlone, IsElsewhere, Leads, LinedUp, NoneOn, Remembers, Sits, change_in}
pub use Rattle.world_laws.specs.Seated.{commanded_channels}
pub use Rattle.world_laws.specs.Seated.Leads.{leads}
pub use Rattle.world_laws.specs.Seated.Sits.{between, at_its_target, gone as is_gone_now, gone as sits_gone, unchanged as sits_unchanged}
pub use Rattle.world_laws.specs.KeptLineUps.{AreLinedUp, BringsNothing, DeliversFirst, EndsLast, IsForOthers, IsOthers, MobilesKeepLineUps}
pub use Rattle.world_laws.specs.KeptLineUps.{RelayLeavesOthers, StationBreaksKeepLineUps, StationsKeepLineUps, SwitchKeepsLineUps}
pub use Rattle.world_laws.specs.KeptLineUps.{TimeLeavesOthers, carried_for, is_beside_relay}
pub use Rattle.world_laws.specs.TakingTurns.{Order, OrdersTakeTurns, Spares, TakesTurns, Turns, freed_by, order_by, order_in}
pub use Rattle.world_laws.specs.Targets.Fresh.{BeginWith, FreshMeans, IsAwaited, IsFreshIn, IsLedBy, IsOnPlace, TargetsRemainFresh}
pub use Rattle.world_laws.specs.Targets.Quiet.{ChannelsAreSettled, FreeChannelsAreQuiet, IsQuiet, IsSettled, AreOnActive, is_ending}
pub use Rattle.world_laws.specs.ToArrive.{AreHeld, AreLayer3, AsOld, AsServing, AsTarget, IsFutureOf, mark, texts_of}
pub use Rattle.world_model.proofs.Accepting.{accepted_list_from-rise, progress_from-rise}
pub use Rattle.world_model.proofs.Footprints.Joins.{connects, connects as joins_by_connecting}
pub use Rattle.world_model.proofs.Footprints.Respots.{airs, asks_up, counts, down_by_break, is_left, short_up}
pub use Rattle.world_model.proofs.LinkMessages.{HoldsOf, acked_holds, arrival_holds, frame_holds, lent_holds, link_holds, queue_holds}
pub use Rattle.world_model.proofs.OwnerKeeping.{one_at_most}
pub use Rattle.world_model.proofs.OwnerLines.{AllAgree-new, nothing_is_due, tenure-append}
pub use Rattle.world_model.specs.AcceptedList.{accepted_list, progress}
pub use Rattle.world_model.specs.Calls.{all_calls}
pub use Rattle.world_model.specs.Frame.{Frame}
pub use Rattle.world_model.specs.Reading.{frame_of}
pub use Rattle.world_model.specs.StreamNumbers.{CCM_STREAM, PING, RSL_STREAM, SCCP_STREAM}
pub use Rattle.link_model.specs.Base.{after_activate, after_establish, after_next, after_release, after_take_down, after_tell}
pub use Rattle.link_model.specs.Base.{first_message, first_of_messages, is_active, messages_behind_first, refusal_of_activate, after_up}
pub use Rattle.link_model.specs.Base.{new_base}
pub use Rattle.link_model.specs.BaseState.{BaseState}
pub use Rattle.link_model.specs.Message.{activation_ack, data_indication, establish_indication, link_on}
pub use Rattle.link_model.specs.Tenures.{Tenures, is_bound_of, is_brought_on}
pub use Rattle.link_model.specs.Tenures.Tenures.{apart, brings as tenure_brings}
pub use Rattle.link_model.specs.declared.air_link.Air.TheVariants.{Empty, Given, Reached}
pub use Rattle.link_model.specs.declared.fault.LinkFault.{LinkFault}
pub use Rattle.link_model.specs.declared.fault.LinkFault.TheVariants.{Busy}
pub use Rattle.mobile_end.proofs.Resuming.{is_control_apart, without_control-flow}
pub use Rattle.mobile_end.specs.Control.{is_control, without_control}
pub use Rattle.mobile_end.specs.DataLink.{after_acknowledgement, after_lending, after_resume, lent_message, outstanding_messages}
pub use Rattle.mobile_end.specs.DataLink.{to_be_taken, waits, after_load_from, waits as waits_in}
pub use Rattle.mobile_end.specs.DataLinkState.{DataLinkState}
pub use Rattle.mobile_end.specs.Mobile.{after_acked, after_acked_at, after_arrival, after_frame, after_frame_at, after_leave, after_number}
pub use Rattle.mobile_end.specs.Mobile.{after_queue, frame_answer, new_mobile, refusal_of_connect, refusal_of_send, frame_answer_at}
pub use Rattle.mobile_end.specs.Mobile.{idle_link}
pub use Rattle.mobile_end.specs.MobileState.{MobileState}
pub use Rattle.mobile_end.specs.declared.mobile_end.Place.{Place as MobilePlace}
pub use Rattle.mobile_end.specs.declared.mobile_end.Stage.{Stage}
pub use Rattle.mobile_end.specs.declared.mobile_end.Stage.TheVariants.{Connected, New}
pub use Rattle.msc_end.specs.Refusal.{send_fault, stage_fault}
pub use Rattle.msc_end.specs.Switch.{after_clear, assignment_request, clear_command, connection_after, connection_by, connections_after}
pub use Rattle.msc_end.specs.Switch.{connections_after_clear, connections_by, data_form_by, data_forms_on, dlci_for, live_connection_after}
pub use Rattle.msc_end.specs.Switch.{message_in, replies, with_connection, with_stage}
pub use Rattle.msc_end.specs.SwitchState.{SwitchState}
pub use Rattle.msc_end.specs.declared.connection.Connection.{Connection as SwitchConnection}
pub use Rattle.msc_end.specs.declared.connection.Stage.TheVariants.{Clearing, Ended, Open}
pub use Rattle.msc_end.specs.declared.parameters.TheConstants.{CONNECTION_LIMIT, REFERENCE_BASE}
pub use Rattle.octets.specs.Element.{AreOctets, element, format_in}
pub use Rattle.octets.specs.declared.limits.TheConstants.{INITIAL_LIMIT, MESSAGE_LIMIT}
pub use Rattle.rsl_codec.specs.ChannelNumber.{is_channel}
pub use Rattle.rsl_codec.specs.Rsl.{IsL3, fields}
pub use Rattle.rsl_codec.specs.RslReading.{rsl_reading}
pub use Rattle.rsl_codec.specs.RslText.{rsl_text, rsl_field_text, rsl_fields_text}
pub use Rattle.rsl_codec.specs.declared.channel_number.TheConstants.{FIRST_SDCCH, FIRST_TCH, LAST_SDCCH, PCH_AND_AGCH, RACH}
pub use Rattle.rsl_codec.specs.declared.dedicated_channel.Activation.{Activation}
pub use Rattle.rsl_codec.specs.declared.dedicated_channel.ActivationAck.{ActivationAck}
pub use Rattle.rsl_codec.specs.declared.fault.RslFault.{RslFault}
pub use Rattle.rsl_codec.specs.declared.link_identifier.TheConstants.{MAIN_LINK_SAPI_3, SACCH_SAPI_3}
pub use Rattle.rsl_codec.specs.declared.radio_link.Data.{Data as DataMessage}
pub use Rattle.rsl_codec.specs.declared.radio_link.Establishment.{Establishment}
pub use Rattle.rsl_codec.specs.declared.rsl.Rsl.{Rsl}
pub use Rattle.rsl_codec.specs.declared.rsl.Rsl.TheVariants.{ChannelActivation, DataRequest, EstablishRequest, ImmediateAssignCommand}
pub use Rattle.rsl_codec.specs.declared.rsl.Rsl.TheVariants.{RfChannelRelease, RfChannelReleaseAck}
pub use Rattle.rsl_codec.specs.declared.values.RequestReference.{RequestReference}
pub use Rattle.ruled_relay.specs.declared.item.Item.{Item, Item as RelayItem}
pub use Rattle.ruled_relay.specs.declared.item.What.{What}
pub use Rattle.settings.specs.Parameters.{AreAllowed, CellParameters, Parameters}
pub use Rattle.std.proofs.Common.{Bool, Contains, Err, List, None, Ok, Option, Some, [], ap, append_assoc, arith, cond, drop, false, filter}
pub use Rattle.std.proofs.Common.{find, fold, get_or, if◌then◌else◌, inl, inr, leb, length, length-append, map, nat_eq, nat_le, not}
pub use Rattle.std.proofs.Common.{option_map, option_to_list, refl, replicate, set, slice_index_or, subst, suc, sym, true, true≢false}
pub use Rattle.std.proofs.Common.{unwrap_or, zero, ℕ, ◌%◌, ◌&&◌, ◌++◌, ◌+◌, ◌-◌, ◌<◌, ◌==◌, ◌^◌, ◌||◌, ◌∙◌, ◌∷◌, ◌≡◌, ◌≢◌, ◌≤◌, ◌⊎◌, IsSome}
pub use Rattle.std.proofs.Common.{Result, is_some, nat_lt, ◌*◌, ◌/◌}
pub use Rattle.std.proofs.lemmas.Bool.{and_parts, cases_Bool, cond-false, cond-true, eq-eqb, eqb-false, eqb-true, false≢true, leb-false}
pub use Rattle.std.proofs.lemmas.Bool.{leb-true, ne_eqb}
pub use Rattle.std.proofs.lemmas.Grind.{flat_map-append}
pub use Rattle.std.proofs.lemmas.List.{append-nil, map-append, append_cancel_right, get_or-set_other, take-append-drop}
pub use Rattle.std.proofs.lemmas.List.Elements.{filter-append}
pub use Rattle.std.proofs.lemmas.Option.{none-some, same_Some, option_and_then_some, slice_get_within, unwrap_or-slice_get}
pub use Rattle.std.specs.List.{AllByRecursion, flat_map, list_any}
pub use Rattle.std.specs.Option.{is_none, option_and_then, option_or}
pub use Rattle.std.specs.Prelude.{slice_get, slice_set}
pub use Rattle.std.specs.Result.{result_ok}
pub use Rattle.world_model.proofs.Found.{back_found, back_other, found_front, number_found}
pub use Rattle.world_model.proofs.Footprints.{Becomes, Joins, Lends, Respots, Tells, air_after, became_number, event-keeps}
pub use Rattle.world_model.proofs.Footprints.{hearing-end, hearing-number, hearing-opens, is_on_air}
pub use Rattle.world_model.proofs.Heard.{Good, end_of, good_all, good_new, good_step}
pub use Rattle.world_model.proofs.Honesty.{Plain, SameEnds, base-elsewhere, base-there, base_with_spot, reached_up, up_right, AreHonest-new}
pub use Rattle.world_model.proofs.Honesty.{Kept, breaking, kept_all, less_one, new_ends, pushing, set-elsewhere, set-or-not, tenures_kept}
pub use Rattle.world_model.proofs.Honesty.{up_and_down}
pub use Rattle.world_model.proofs.Honesty.Plain.{as_before, ends_now}
pub use Rattle.world_model.proofs.Inboxes.{inbox_keeps_order, inbox-all}
pub use Rattle.world_model.proofs.Leads.{aerial_leads, taking_leads, after_taken, air_ack_leads, air_down_leads, air_down_lost_leads}
pub use Rattle.world_model.proofs.Leads.{air_up_leads, and_left, and_right, arrive_leads, assigned-leads, base_takes_leads, broken_leads}
pub use Rattle.world_model.proofs.Leads.{by_mobile-leads, connect_leads, does_leads, handle_leads, move_leads, only_if-leads, push_leads}
pub use Rattle.world_model.proofs.Leads.{report-leads, return_leads, switch_takes_leads, switch_took-leads, took-leads, touch_leads}
pub use Rattle.world_model.proofs.Leads.{turn_leads, unless_last_leads, upper_leads, OfTaken}
pub use Rattle.world_model.proofs.Living.{FollowsTable-new}
pub use Rattle.world_model.proofs.Mobility.{control_complete, found_all, MobilesLive-new, back_all, behind_all, control_failure}
pub use Rattle.world_model.proofs.Outboxes.{both_empty, Step as OutboxStep, all_join, changed_link, down_after, new_outbox}
pub use Rattle.world_model.proofs.Outboxes.{step as outbox-step, KeepsQueues-new, Step as LinkStep, down_outbox, other_link as link-else}
pub use Rattle.world_model.proofs.Outboxes.{other_link}
pub use Rattle.world_model.proofs.Outboxes.Step.{breaks}
pub use Rattle.world_model.proofs.OwnerEvents.{Rests, beside_rests}
pub use Rattle.world_model.proofs.OwnerItems.{IsKnown, IsKnownItem, known_inbox, IsKnown as IsKnownWhat}
pub use Rattle.world_model.proofs.OwnerPuts.{RunsThrough, Passes, Runs, entries_to, said_to, FitAll, FitsBeside, entry_out, runs_put_before}
pub use Rattle.world_model.proofs.OwnerPuts.{runs_kept}
pub use Rattle.world_model.proofs.OwnerPuts.RunsThrough.{activates, first_passes, runs, activates as runs_activate}
pub use Rattle.world_model.proofs.OwnerPuts.Runs.{over, passes, releases}
pub use Rattle.world_model.proofs.OwnerRuns.{Right, handle_turned, heard_of, kinds, right_new, right_step, there_of, tick-turned}
pub use Rattle.world_model.proofs.OwnerRuns.{beside_number, new_down, owned_run, takes_number}
pub use Rattle.world_model.proofs.OwnerTakes.{kept_controller, takes_rests}
pub use Rattle.world_model.proofs.OwnerTenures.{beside_step, HaveSpots-new, is_beside}
pub use Rattle.world_model.proofs.OwnerTurn.{IsOne, Serves, Turned, hear, hear-use, hear_in_use}
pub use Rattle.world_model.proofs.Piping.{Step as PipeStep, acks_append, length-stations_from, step as pipe-step, ArePipes-new, acks_start}
pub use Rattle.world_model.proofs.Piping.{due-append}
pub use Rattle.world_model.proofs.Piping.Step.{flows, stops}
pub use Rattle.world_model.proofs.Rows.{opened}
pub use Rattle.world_model.proofs.Soundness.{IsSound, sound_read, is_nack}
pub use Rattle.world_model.proofs.Ticketing.{reached_station, spot_with_base, AllSitBy-new, OneMobileEach-new, on_own}
pub use Rattle.world_model.proofs.Worlds.{after_all}
pub use Rattle.world_model.specs.Life.{actors_after, actors_after_all, event_after}
pub use Rattle.world_model.specs.Lists.{first_in}
pub use Rattle.world_model.specs.Mobiles.{after_air_ack, after_air_down, after_air_down_lost, after_air_up, after_arriving}
pub use Rattle.world_model.specs.Mobiles.{after_connecting, after_move, after_report, after_return, after_touch, after_upper, brought}
pub use Rattle.world_model.specs.Mobiles.{channel_required, complete, connected, controlled, failure, frame_in, framed, handover_detection}
pub use Rattle.world_model.specs.Mobiles.{hearing, is_new, may_send, measurement_result, remembering, seated, sent_by}
pub use Rattle.world_model.specs.Mobiles.{short_message_brought, signalling_brought, brought as brought_in_world, reported_at}
pub use Rattle.world_model.specs.OwnerLines.{Agrees, AllAgree, acknowledged_in, active_behind, asker, is_in_use, said, said_by}
pub use Rattle.world_model.specs.OwnerLines.{tenure_behind, to_arrive, IsOwed, tenure_all, tenure_then}
pub use Rattle.world_model.specs.OwnerLines.IsOwed.{began, begins, begins_and_ends}
pub use Rattle.world_model.specs.Owners.{owner_in}
pub use Rattle.world_model.specs.Pipe.{acknowledgement, acknowledgements, active_all, due, is_active_then}
pub use Rattle.world_model.specs.Queues.{all_popped, all_pushed, first_of, outputs, outputs_at, pushed, put, taken, to_link, all_put}
pub use Rattle.world_model.specs.Queues.{made_item, of_source, popped}
pub use Rattle.world_model.specs.Relay.{acknowledged_tenure, after_base_push, after_break, after_handle, after_tick, handled, joined_by}
pub use Rattle.world_model.specs.Relay.{pushed_by_station, pushed_by_switch, station_item, switch_item, target_in, target_in as tenure_in}
pub use Rattle.world_model.specs.Relay.{with_item, with_turn}
pub use Rattle.world_model.specs.Stations.{accepts, activated, activated_unless, after_base_takes, answered, link_answer, mobile_on}
pub use Rattle.world_model.specs.Stations.{new_tenure, rsl_in, took, assigned, assigned_from, assigned_to, is_on, is_same, took_first}
pub use Rattle.world_model.specs.Steps.{all_steps, first_taken, step_at}
pub use Rattle.world_model.specs.SwitchSide.{after_switch_does, after_switch_takes, is_layer_3, may_send_on, sccp_in, sent_on, switch_took}
pub use Rattle.world_model.specs.SwitchSide.{switch_took_first}
pub use Rattle.world_model.specs.Tickets.{AllSitBy, LeadsBy, SitsBy}
pub use Rattle.world_model.specs.World.{Actors, Link, Mobile, Spot, World, base_of, broken_link, has_number, is_active_at, is_reached}
pub use Rattle.world_model.specs.World.{is_station_up, is_up, link_of, mobile_of, modulus_in, new_actors, new_link, new_spot, new_world}
pub use Rattle.world_model.specs.World.{no_station, outbox_of, put_back, spot_at, station_of, stations_from, tenure_at, with_base}
pub use Rattle.world_model.specs.World.{with_link, with_mobile, with_outbox, with_spot}
pub use Rattle.world_model.specs.declared.event.Event.{Event}
pub use Rattle.world_model.specs.declared.event.Event.TheVariants.{AirAck, AirDown, AirDownLost, AirUp, Arrive, BaseDown, BasePush}
pub use Rattle.world_model.specs.declared.event.Event.TheVariants.{BaseTakes, Connect, Handle, Move, Report, Return, SwitchDoes}
pub use Rattle.world_model.specs.declared.event.Event.TheVariants.{SwitchTakes, Tick, Touch, Upper}
pub use Rattle.world_model.specs.declared.event.SwitchAction.{SwitchAction}
pub use Rattle.world_model.specs.declared.event.SwitchAction.TheVariants.{Assign, Clear, Dtap}
pub use Rattle.world_model.specs.declared.limits.TheConstants.{MAX_TENURE}
pub use Rattle.world_model.specs.declared.line.AirMessage.{AirMessage}
pub use Rattle.world_model.specs.declared.line.OutboxEntry.{OutboxEntry}
pub use Rattle.world_model.specs.declared.seat.Command.{Command}
pub use Rattle.world_model.specs.declared.seat.Seat.{Seat, Seat as MobileSeat}
pub use Rattle.world_model.specs.declared.seat.Seat.TheVariants.{Asking, Gone, Moving, On}
pub use Rattle.world_model.specs.declared.seat.Tenure.{Tenure, Tenure as ChannelTenure}
