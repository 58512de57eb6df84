-- SPDX-License-Identifier: MIT OR Apache-2.0
-- The effect of every row on the roles of channels.
use Rattle.conn_rules.proofs.Prelude.{◌≡◌, ℕ, zero, suc, Bool, true, false, ◌&&◌, ◌||◌, leb, length, List, [], ◌∷◌, ◌++◌, refl, sym, ◌∙◌}
use Rattle.conn_rules.proofs.Prelude.{ap, subst, if◌then◌else◌, Option, Some, None, append-nil, eqb, AllByRecursion, filter-append}
use Rattle.conn_rules.proofs.Prelude.{Contains-push, Contains-append_left, Contains-append_right, ABNORMAL_RELEASE, EQUIPMENT_FAILURE}
use Rattle.conn_rules.proofs.Prelude.{NORMAL_EVENT, RADIO_INTERFACE_FAILURE, RADIO_INTERFACE_MESSAGE_FAILURE, Change, Assignment, Handover}
use Rattle.conn_rules.proofs.Prelude.{Channel, Message, handing, rf_channel_release, change_complete, release_complete, clear_complete}
use Rattle.conn_rules.proofs.Prelude.{cond_both, Sapi, Zero, Three, chain_count, count, Place, INITIAL_LIMIT, change_command, Input, Drain}
use Rattle.conn_rules.proofs.Prelude.{ShortMessageLink, Down, Asked, Up, Stage, Preparing, Changing, Draining, State, WaitActivation}
use Rattle.conn_rules.proofs.Prelude.{WaitEstablish, WaitConfirm, Live, Closed, Removed, Connection, emptied, first_channel, is_at}
use Rattle.conn_rules.proofs.Prelude.{drain_at, tenure_at, IsValid, Reference, Due, WasAsked, Complete, RrCause, unchanged, commands}
use Rattle.conn_rules.proofs.Prelude.{completes}
use Rattle.conn_rules.proofs.Prelude.{reverts, refused, dismisses, IsOpen}
use Rattle.conn_rules.specs.declared.input.Input.TheVariants as inputs
use Rattle.conn_rules.specs.Steps.{Row, row, ◌then◌, end_outs, failing, dropping, without_station, may_begin, begin_outs, after_begin, begin, short_message, link_up, link_down, resting_stage, resting, moved}
use Rattle.conn_rules.specs.Table.{access, on_activation_ack, on_activation_nack, on_establish_indication, was_asked, on_establish_confirm, on_release_indication, on_error_indication, on_connection_failure, dtap_on_target, dtap_in, on_dtap, same_change, on_complete, failure_outs, on_failure, release_in, on_release_ack, on_move, on_confirm, on_refused, on_released, on_downlink, on_assignment_request, on_cipher_mode_command, on_clear_command, on_expiry, is_some_draining, on_drain_expiry, drains_at, targets, on_station_down, on_switch_down, row_of}
use Rattle.conn_rules.proofs.ValidSteps.{by_state}
use Rattle.conn_rules.specs.Roles.{target_role, roles_of, orders, brought, change_by, is_to_station, step_by, leaves_at, end_messages, ChangesRoles, ChangesRolesBy, to_stations, those_sent}
use Rattle.conn_rules.proofs.DownlinkSteps.{failing_shut}
use Rattle.conn_rules.proofs.Roles.{roles_in, roles_known, continues_in, continues_by, ends_in, had_ended_in, none_in, changes_roles_by_row_if, IsNoDataRequest, ArePlain, are_plain_tenure, are_plain_request_where, orders-handing, handing_of_switch, continues_plain, continues_begins, begins_by_begin, free_where, to_stations-end, ends_failing, ends_broken, ends_dropping, ends_broken_drop}
use Rattle.conn_rules.proofs.RolesSteps.{changes_roles_changed, changes_roles_refused, resting-roles, changes_roles_release}

-- ---- rows that end a connection, or leave its roles

fails : (state : State) (s : Connection) (input : Input) (offer : Option Channel) (cause : ℕ) →
    s.state ≡ state →
    IsOpen state →
    ((outs : List Message) → those_sent input outs ≡ outs) →
    ChangesRoles s input offer (failing state s cause)
fails state s input offer cause is was_open all_go =
    ends_in state s input offer (failing state s cause) is was_open (failing_shut state s cause) (ends_failing state s input cause all_go)

drops_it : (state : State) (s : Connection) (input : Input) (offer : Option Channel) →
    s.state ≡ state →
    IsOpen state →
    target_role state ≡ None →
    ((outs : List Message) → those_sent input outs ≡ outs) →
    ChangesRoles s input offer (dropping s)
drops_it state s input offer is was_open none all_go = ends_in state s input offer (dropping s) is was_open absurd (ends_dropping state s input none all_go)

ends_it : (state : State) (s : Connection) (input : Input) (offer : Option Channel) (cause : ℕ) (more : List Message) (next : Connection) →
    s.state ≡ state →
    IsOpen state →
    (IsOpen next.state → ⊥) →
    to_stations more ≡ [] →
    ((outs : List Message) → those_sent input outs ≡ outs) →
    ChangesRoles s input offer (row (end_outs state s.serving cause ++ more) next)
ends_it state s input offer cause more next is was_open shut none all_go =
    ends_in state s input offer (row (end_outs state s.serving cause ++ more) next) is was_open shut (record {
      end = dismisses cause;
      fits = tt;
      ordered = filter-append is_to_station (end_outs state s.serving cause) more
          ∙ rw none (append-nil (to_stations (end_outs state s.serving cause)))
          ∙ to_stations-end state s cause ∙ sym (all_go (end_messages (dismisses cause) (roles_in state s)));
    })

-- plain messages, and the same roles
same_roles : (reference : ℕ) (stage : Stage) (s : Connection) (input : Input) (offer : Option Channel) (r : Row) →
    step_by input (roles_in (Live reference stage) s) ≡ unchanged →
    s.state ≡ Live reference stage →
    r.next.state ≡ s.state →
    roles_of r.next ≡ roles_of s →
    ArePlain r.outs →
    ChangesRoles s input offer r
same_roles reference stage s input offer r none is state same plain =
    continues_by unchanged (Live reference stage) s input offer r none is tt (subst IsOpen (sym (state ∙ is)) tt)
    (continues_plain (roles_in (Live reference stage) s) s.down input offer r (same ∙ roles_known (Live reference stage) s is) plain)

-- ---- channels are activated

activation_ack_roles : (state : State) (s : Connection) (at : Place) (offer : Option Channel) →
    s.state ≡ state →
    ChangesRolesBy s (inputs.ActivationAck at) offer (on_activation_ack state s at)
activation_ack_roles WaitActivation s at offer is =
    changes_roles_by_row_if s (inputs.ActivationAck at) offer (is_at at s.serving) _
    (λ _. continues_in WaitActivation s (inputs.ActivationAck at) offer _ is tt tt (continues_plain (roles_in WaitActivation s) s.down (inputs.ActivationAck at) offer _ refl (tt, tt)))
    (λ _. none_in WaitActivation s (inputs.ActivationAck at) offer is refl)
activation_ack_roles (Live reference (Preparing target)) s at offer is =
    changes_roles_by_row_if s (inputs.ActivationAck at) offer (is_at at target.channel) _
    (λ there. continues_by commands (Live reference (Preparing target)) s (inputs.ActivationAck at) offer _ (ap (λ (b : Bool). if b then commands else unchanged) there) is tt tt
    (record { begun = None; may = tt; roles = refl; ordered = (quiet target.change); tells = refl }))
    (λ apart. none_in (Live reference (Preparing target)) s (inputs.ActivationAck at) offer is (ap (λ (b : Bool). if b then commands else unchanged) apart))
  where
    quiet : (change : Change) → orders (change_command s.serving change target.channel ∷ []) ≡ []
    quiet Assignment = refl
    quiet Handover = refl
activation_ack_roles state s at offer is = none_in state s (inputs.ActivationAck at) offer is refl

activation_nack_roles : (state : State) (s : Connection) (at : Place) (offer : Option Channel) →
    s.state ≡ state →
    ChangesRolesBy s (inputs.ActivationNack at) offer (on_activation_nack state s at offer)
activation_nack_roles WaitActivation s at offer is =
    changes_roles_by_row_if s (inputs.ActivationNack at) offer (is_at at s.serving) _
    (λ there. ends_in WaitActivation s (inputs.ActivationNack at) offer _ is tt absurd (record { end = refused; fits = (there, refl); ordered = refl }))
    (λ _. none_in WaitActivation s (inputs.ActivationNack at) offer is refl)
activation_nack_roles (Live reference (Preparing target)) s at offer is =
    changes_roles_by_row_if s (inputs.ActivationNack at) offer (is_at at target.channel) _
    (λ there. changes_roles_refused reference target at s offer (ap (λ (b : Bool). if b then reverts else unchanged) there) is)
    (λ apart. none_in (Live reference (Preparing target)) s (inputs.ActivationNack at) offer is (ap (λ (b : Bool). if b then reverts else unchanged) apart))
activation_nack_roles state s at offer is = none_in state s (inputs.ActivationNack at) offer is refl

-- ---- the mobile's links

access_roles : (initial : Option (List ℕ)) (s : Connection) (at : Place) (sapi : Sapi) (offer : Option Channel) →
    s.state ≡ WaitEstablish →
    ChangesRoles s (inputs.EstablishIndication at sapi initial) offer (access initial s)
access_roles (Some initial) s at sapi offer is =
    cond_both (leb (length initial) INITIAL_LIMIT) _ _ (ChangesRoles s (inputs.EstablishIndication at sapi (Some initial)) offer)
    (λ _. continues_in WaitEstablish s (inputs.EstablishIndication at sapi (Some initial)) offer _ is tt tt
    (continues_plain (roles_in WaitEstablish s) s.down (inputs.EstablishIndication at sapi (Some initial)) offer _ refl (tt, tt)))
    (λ _. drops_it WaitEstablish s (inputs.EstablishIndication at sapi (Some initial)) offer is tt refl (λ _. refl))
access_roles None s at sapi offer is = drops_it WaitEstablish s (inputs.EstablishIndication at sapi None) offer is tt refl (λ _. refl)

-- the link of SAPI 3 is up: what is held of it is handed
link_up_roles : (reference : ℕ) (stage : Stage) (s : Connection) (input : Input) (offer : Option Channel) →
    step_by input (roles_in (Live reference stage) s) ≡ unchanged →
    s.state ≡ Live reference stage →
    ChangesRoles s input offer (link_up s)
link_up_roles reference stage s input offer none is =
    continues_by unchanged (Live reference stage) s input offer (link_up s) none is tt (subst IsOpen (sym is) tt)
    (record {
      begun = None;
      may = tt;
      roles = roles_known (Live reference stage) s is;
      ordered = orders-handing s.serving Three s.down.three;
      tells = handing_of_switch s.down input s.serving Three s.down.three (λ m held.
          Contains-append_right s.down.zero (s.down.three ++ brought input) m (Contains-append_left s.down.three (brought input) m held));
    })

establish_indication_roles : (state : State) (s : Connection) (at : Place) (sapi : Sapi) (message : Option (List ℕ)) (offer : Option Channel) →
    s.state ≡ state →
    ChangesRolesBy s (inputs.EstablishIndication at sapi message) offer (on_establish_indication state s at sapi message)
establish_indication_roles WaitEstablish s at Zero message offer is =
    changes_roles_by_row_if s (inputs.EstablishIndication at Zero message) offer (is_at at s.serving) _ (λ _. access_roles message s at Zero offer is) (λ _. refl)
establish_indication_roles (Live reference (Changing target)) s at sapi message offer is = refl
establish_indication_roles (Live reference stage) s at Three message offer is =
    changes_roles_by_row_if s (inputs.EstablishIndication at Three message) offer (is_at at s.serving) _ (λ _. link_up_roles reference stage s (inputs.EstablishIndication at Three message) offer refl is) (λ _. refl)
establish_indication_roles _ s at sapi message offer is = refl

establish_confirm_roles : (state : State) (s : Connection) (at : Place) (sapi : Sapi) (offer : Option Channel) →
    s.state ≡ state →
    ChangesRolesBy s (inputs.EstablishConfirm at sapi) offer (on_establish_confirm state s at sapi)
establish_confirm_roles (Live reference (Changing target)) s at sapi offer is = refl
establish_confirm_roles (Live reference stage) s at Three offer is =
    changes_roles_by_row_if s (inputs.EstablishConfirm at Three) offer (was_asked s.link && is_at at s.serving) _ (λ _. link_up_roles reference stage s (inputs.EstablishConfirm at Three) offer refl is) (λ _. refl)
establish_confirm_roles _ s at sapi offer is = refl

link_down_roles : (reference : ℕ) (stage : Stage) (link : ShortMessageLink) (s : Connection) (input : Input) (offer : Option Channel) →
    step_by input (roles_in (Live reference stage) s) ≡ unchanged →
    s.state ≡ Live reference stage →
    ChangesRoles s input offer (link_down link reference s)
link_down_roles reference stage Asked s input offer none is = same_roles reference stage s input offer (link_down Asked reference s) none is refl refl (tt, tt)
link_down_roles reference stage Down s input offer none is = same_roles reference stage s input offer (link_down Down reference s) none is refl refl tt
link_down_roles reference stage Up s input offer none is = same_roles reference stage s input offer (link_down Up reference s) none is refl refl tt

release_indication_roles : (state : State) (s : Connection) (at : Place) (sapi : Sapi) (offer : Option Channel) →
    s.state ≡ state →
    ChangesRolesBy s (inputs.ReleaseIndication at sapi) offer (on_release_indication state s at sapi)
release_indication_roles WaitEstablish s at Zero offer is =
    changes_roles_by_row_if s (inputs.ReleaseIndication at Zero) offer (is_at at s.serving) _ (λ _. drops_it WaitEstablish s (inputs.ReleaseIndication at Zero) offer is tt refl (λ _. refl)) (λ _. refl)
release_indication_roles WaitConfirm s at Zero offer is =
    changes_roles_by_row_if s (inputs.ReleaseIndication at Zero) offer (is_at at s.serving) _ (λ _. fails WaitConfirm s (inputs.ReleaseIndication at Zero) offer RADIO_INTERFACE_FAILURE is tt (λ _. refl)) (λ _. refl)
release_indication_roles (Live reference (Changing target)) s at sapi offer is = refl
release_indication_roles (Live reference stage) s at Zero offer is =
    changes_roles_by_row_if s (inputs.ReleaseIndication at Zero) offer (is_at at s.serving) _ (λ _. fails (Live reference stage) s (inputs.ReleaseIndication at Zero) offer RADIO_INTERFACE_FAILURE is tt (λ _. refl)) (λ _. refl)
release_indication_roles (Live reference stage) s at Three offer is =
    changes_roles_by_row_if s (inputs.ReleaseIndication at Three) offer (is_at at s.serving) _ (λ _. link_down_roles reference stage s.link s (inputs.ReleaseIndication at Three) offer refl is) (λ _. refl)
release_indication_roles _ s at sapi offer is = refl

error_indication_roles : (state : State) (s : Connection) (at : Place) (sapi : Sapi) (offer : Option Channel) →
    s.state ≡ state →
    ChangesRolesBy s (inputs.ErrorIndication at sapi) offer (on_error_indication state s at sapi)
error_indication_roles (Live reference (Changing target)) s at sapi offer is = refl
error_indication_roles (Live reference stage) s at Three offer is =
    changes_roles_by_row_if s (inputs.ErrorIndication at Three) offer (is_at at s.serving) _ (λ _. link_down_roles reference stage s.link s (inputs.ErrorIndication at Three) offer refl is) (λ _. refl)
error_indication_roles _ s at sapi offer is = refl

connection_failure_roles : (state : State) (s : Connection) (at : Place) (offer : Option Channel) →
    s.state ≡ state →
    ChangesRolesBy s (inputs.ConnectionFailure at) offer (on_connection_failure state s at)
connection_failure_roles WaitEstablish s at offer is =
    changes_roles_by_row_if s (inputs.ConnectionFailure at) offer (is_at at s.serving) _ (λ _. drops_it WaitEstablish s (inputs.ConnectionFailure at) offer is tt refl (λ _. refl)) (λ _. refl)
connection_failure_roles WaitConfirm s at offer is =
    changes_roles_by_row_if s (inputs.ConnectionFailure at) offer (is_at at s.serving) _ (λ _. fails WaitConfirm s (inputs.ConnectionFailure at) offer RADIO_INTERFACE_FAILURE is tt (λ _. refl)) (λ _. refl)
connection_failure_roles (Live reference (Changing target)) s at offer is = refl
connection_failure_roles (Live reference stage) s at offer is =
    changes_roles_by_row_if s (inputs.ConnectionFailure at) offer (is_at at s.serving) _ (λ _. fails (Live reference stage) s (inputs.ConnectionFailure at) offer RADIO_INTERFACE_FAILURE is tt (λ _. refl)) (λ _. refl)
connection_failure_roles _ s at offer is = refl

-- ---- the mobile's messages

dtap_on_target_roles : (reference : ℕ) (stage : Stage) (s : Connection) (at : Place) (sapi : Sapi) (message : List ℕ) (offer : Option Channel) →
    s.state ≡ Live reference stage →
    ChangesRolesBy s (inputs.Dtap at sapi message) offer (dtap_on_target reference stage s at sapi)
dtap_on_target_roles reference (Changing target) s at Zero message offer is =
    changes_roles_by_row_if s (inputs.Dtap at Zero message) offer (is_at at target.channel) _ (λ _. fails (Live reference (Changing target)) s (inputs.Dtap at Zero message) offer EQUIPMENT_FAILURE is tt (λ _. refl)) (λ _. refl)
dtap_on_target_roles reference _ s at sapi message offer is = refl

dtap_in_roles : (tenure : Option ℕ) (reference : ℕ) (stage : Stage) (s : Connection) (at : Place) (sapi : Sapi) (message : List ℕ) (offer : Option Channel) →
    s.state ≡ Live reference stage →
    ChangesRolesBy s (inputs.Dtap at sapi message) offer (dtap_in tenure reference stage s at sapi message)
dtap_in_roles (Some zero) reference stage s at sapi message offer is = same_roles reference stage s (inputs.Dtap at sapi message) offer _ refl is refl refl (tt, tt)
dtap_in_roles (Some (suc tenure)) reference stage s at sapi message offer is =
    cond_both (eqb (chain_count s.up) s.up.limit) _ _ (ChangesRoles s (inputs.Dtap at sapi message) offer)
    (λ _. fails (Live reference stage) s (inputs.Dtap at sapi message) offer EQUIPMENT_FAILURE is tt (λ _. refl))
    (λ _. same_roles reference stage s (inputs.Dtap at sapi message) offer _ refl is refl refl tt)
dtap_in_roles None reference stage s at sapi message offer is = dtap_on_target_roles reference stage s at sapi message offer is

dtap_roles : (state : State) (s : Connection) (at : Place) (sapi : Sapi) (message : List ℕ) (offer : Option Channel) →
    s.state ≡ state →
    ChangesRolesBy s (inputs.Dtap at sapi message) offer (on_dtap state s at sapi message)
dtap_roles WaitEstablish s at Zero message offer is =
    changes_roles_by_row_if s (inputs.Dtap at Zero message) offer (is_at at s.serving) _ (λ _. drops_it WaitEstablish s (inputs.Dtap at Zero message) offer is tt refl (λ _. refl)) (λ _. refl)
dtap_roles WaitConfirm s at sapi message offer is =
    changes_roles_by_row_if s (inputs.Dtap at sapi message) offer (is_at at s.serving) _
    (λ _. cond_both (eqb (chain_count s.up) s.up.limit) _ _ (ChangesRoles s (inputs.Dtap at sapi message) offer)
    (λ _. fails WaitConfirm s (inputs.Dtap at sapi message) offer EQUIPMENT_FAILURE is tt (λ _. refl))
    (λ _. continues_in WaitConfirm s (inputs.Dtap at sapi message) offer _ is tt (subst IsOpen (sym is) tt)
    (continues_plain (roles_in WaitConfirm s) s.down (inputs.Dtap at sapi message) offer _ (roles_known WaitConfirm s is) tt)))
    (λ _. refl)
dtap_roles (Live reference stage) s at sapi message offer is = dtap_in_roles (tenure_at at s.serving s.draining) reference stage s at sapi message offer is
dtap_roles _ s at sapi message offer is = refl

and_false : (b : Bool) → (b && false) ≡ false
and_false true = refl
and_false false = refl

complete_roles : (state : State) (s : Connection) (at : Place) (change : Change) (cause : RrCause) (offer : Option Channel) →
    s.state ≡ state →
    ChangesRolesBy s (inputs.Complete at change cause) offer (on_complete state s at change cause.0 offer)
complete_roles (Live reference (Changing target)) s at change cause offer is =
    changes_roles_by_row_if s (inputs.Complete at change cause) offer (is_at at target.channel && same_change change target.change) _
    (λ there. changes_roles_changed completes (Live reference (Changing target)) s (inputs.Complete at change cause) offer
    (change_complete reference change target.channel cause.0 ∷ rf_channel_release s.serving ∷ []) (moved reference target.channel s) Draining reference
    (ap (λ (b : Bool). if b then completes else unchanged) there) is tt tt refl refl (quiet change).0 ((quiet change).1, (tt, tt)) refl refl)
    (λ apart. none_in (Live reference (Changing target)) s (inputs.Complete at change cause) offer is (ap (λ (b : Bool). if b then completes else unchanged) apart))
  where
    quiet : (change : Change) →
        (orders (change_complete reference change target.channel cause.0 ∷ rf_channel_release s.serving ∷ []) ≡ rf_channel_release s.serving ∷ []) × IsNoDataRequest (change_complete reference change target.channel cause.0)
    quiet Assignment = (refl, tt)
    quiet Handover = (refl, tt)
complete_roles (Live reference (Preparing target)) s at change cause offer is =
    none_in (Live reference (Preparing target)) s (inputs.Complete at change cause) offer is (ap (λ (b : Bool). if b then completes else unchanged) (and_false (is_at at target.channel)))
complete_roles state s at change cause offer is = none_in state s (inputs.Complete at change cause) offer is refl

failure_roles : (state : State) (s : Connection) (at : Place) (change : Change) (cause : RrCause) (offer : Option Channel) →
    s.state ≡ state →
    ChangesRolesBy s (inputs.Failure at change cause) offer (on_failure state s at change cause.0 offer)
failure_roles (Live reference (Changing target)) s at change cause offer is =
    changes_roles_by_row_if s (inputs.Failure at change cause) offer (is_at at s.serving && same_change change target.change) _
    (λ there. changes_roles_changed reverts (Live reference (Changing target)) s (inputs.Failure at change cause) offer
    (failure_outs change reference cause.0 ++ rf_channel_release target.channel ∷ []) (resting reference s) (resting_stage s.draining) reference
    (ap (λ (b : Bool). if b then reverts else unchanged) there) is tt tt refl (resting-roles reference (Live reference (Changing target)) s) (quiet change).0 (quiet change).1 refl refl)
    (λ apart. none_in (Live reference (Changing target)) s (inputs.Failure at change cause) offer is (ap (λ (b : Bool). if b then reverts else unchanged) apart))
  where
    quiet : (change : Change) →
        (orders (failure_outs change reference cause.0 ++ rf_channel_release target.channel ∷ []) ≡ rf_channel_release target.channel ∷ []) × AllByRecursion IsNoDataRequest (failure_outs change reference cause.0 ++ rf_channel_release target.channel ∷ [])
    quiet Assignment = (refl, (tt, (tt, tt)))
    quiet Handover = (refl, (tt, tt))
failure_roles state s at change cause offer is =
    none_in state s (inputs.Failure at change cause) offer is (ap (λ (b : Bool). if b then reverts else unchanged) (and_false (is_at at s.serving)))

release_in_roles : (found : Option ℕ) (reference : ℕ) (stage : Stage) (s : Connection) (at : Place) (offer : Option Channel) →
    drain_at at s.draining ≡ found →
    s.state ≡ Live reference stage →
    ChangesRolesBy s (inputs.ReleaseAck at) offer (release_in found reference stage offer s)
release_in_roles (Some place) reference stage s at offer found is = changes_roles_release reference stage place at s offer found is
release_in_roles None reference stage s at offer found is = ap leaves_at found

-- no channel drains
no_release : (s : Connection) (at : Place) (offer : Option Channel) → s.draining ≡ [] → ChangesRolesBy s (inputs.ReleaseAck at) offer None
no_release s at offer none = ap (λ (ds : List Drain). leaves_at (drain_at at ds)) none

release_ack_roles : (state : State) (s : Connection) (at : Place) (offer : Option Channel) →
    s.state ≡ state →
    IsValid s →
    ChangesRolesBy s (inputs.ReleaseAck at) offer (on_release_ack state s at offer)
release_ack_roles (Live reference stage) s at offer is valid = release_in_roles (drain_at at s.draining) reference stage s at offer refl is
release_ack_roles WaitActivation s at offer is valid = no_release s at offer (by_state WaitActivation s is valid).0.none_drains
release_ack_roles WaitEstablish s at offer is valid = no_release s at offer (by_state WaitEstablish s is valid).0.none_drains
release_ack_roles WaitConfirm s at offer is valid = no_release s at offer (by_state WaitConfirm s is valid).none_drains
release_ack_roles (Closed clearing) s at offer is valid = no_release s at offer (by_state (Closed clearing) s is valid).none_drains
release_ack_roles Removed s at offer is valid = no_release s at offer (by_state Removed s is valid).none_drains

-- ---- a change begins

begin_roles : (reference : ℕ) (stage : Stage) (change : Change) (s : Connection) (input : Input) (offer : Option Channel) →
    step_by input (roles_in (Live reference stage) s) ≡ unchanged →
    change ≡ change_by input →
    s.state ≡ Live reference stage →
    may_begin stage s.draining ≡ true →
    ChangesRoles s input offer (begin reference change offer s)
begin_roles reference stage change s input offer none kind is may =
    let begins = begins_by_begin input offer reference change s kind (free_where stage reference s is may) in
    continues_by unchanged (Live reference stage) s input offer (begin reference change offer s) none is tt (begins.remains_open (subst IsOpen (sym is) tt))
    (continues_begins unchanged (roles_in (Live reference stage) s) s.down input offer [] s (begin_outs reference change offer) (after_begin reference change offer s) tt (roles_known (Live reference stage) s is) refl tt begins)

move_roles : (state : State) (s : Connection) (offer : Option Channel) →
    s.state ≡ state →
    ChangesRolesBy s inputs.Move offer (on_move state s offer)
move_roles (Live reference stage) s offer is =
    changes_roles_by_row_if s inputs.Move offer (may_begin stage s.draining) _ (λ may. begin_roles reference stage Handover s inputs.Move offer refl refl is may) (λ _. refl)
move_roles _ s offer is = refl

assignment_request_roles : (state : State) (s : Connection) (is_speech : Bool) (offer : Option Channel) →
    s.state ≡ state →
    ChangesRolesBy s (inputs.AssignmentRequest is_speech) offer (on_assignment_request state s is_speech offer)
assignment_request_roles (Live reference stage) s is_speech offer is =
    cond_both is_speech _ _ (ChangesRoles s (inputs.AssignmentRequest is_speech) offer)
    (λ _. cond_both (may_begin stage s.draining) _ _ (ChangesRoles s (inputs.AssignmentRequest is_speech) offer)
    (λ may. begin_roles reference stage Assignment s (inputs.AssignmentRequest is_speech) offer refl refl is may)
    (λ _. cond_both s.waits _ _ (ChangesRoles s (inputs.AssignmentRequest is_speech) offer)
    (λ _. same_roles reference stage s (inputs.AssignmentRequest is_speech) offer _ refl is refl refl (tt, tt))
    (λ _. same_roles reference stage s (inputs.AssignmentRequest is_speech) offer _ refl is refl refl tt)))
    (λ _. same_roles reference stage s (inputs.AssignmentRequest is_speech) offer _ refl is refl refl (tt, tt))
assignment_request_roles _ s is_speech offer is = refl

-- ---- the switch

confirm_roles : (state : State) (s : Connection) (source : Reference) (offer : Option Channel) →
    s.state ≡ state →
    ChangesRolesBy s (inputs.ConnectionConfirm source) offer (on_confirm state s source)
confirm_roles WaitConfirm s source offer is =
    continues_in WaitConfirm s (inputs.ConnectionConfirm source) offer _ is tt tt
    (continues_plain (roles_in WaitConfirm s) s.down (inputs.ConnectionConfirm source) offer _ refl (are_plain_tenure source (first_channel s.draining s.serving) s.up.tenures))
confirm_roles (Closed (Due cause)) s source offer is = had_ended_in (Closed (Due cause)) s (inputs.ConnectionConfirm source) offer _ is absurd absurd refl
confirm_roles _ s source offer is = refl

refused_roles : (state : State) (s : Connection) (offer : Option Channel) →
    s.state ≡ state →
    ChangesRolesBy s inputs.ConnectionRefused offer (on_refused state s)
refused_roles WaitConfirm s offer is = ends_it WaitConfirm s inputs.ConnectionRefused offer ABNORMAL_RELEASE [] (emptied Removed s) is tt absurd refl (λ _. refl)
refused_roles (Closed (Due cause)) s offer is = had_ended_in (Closed (Due cause)) s inputs.ConnectionRefused offer _ is absurd absurd refl
refused_roles _ s offer is = refl

released_roles : (state : State) (s : Connection) (source : Reference) (offer : Option Channel) →
    s.state ≡ state →
    ChangesRolesBy s (inputs.Released source) offer (on_released state s source)
released_roles WaitConfirm s source offer is = ends_it WaitConfirm s (inputs.Released source) offer ABNORMAL_RELEASE (release_complete source ∷ []) (emptied Removed s) is tt absurd refl (λ _. refl)
released_roles (Live own stage) s source offer is = ends_it (Live own stage) s (inputs.Released source) offer ABNORMAL_RELEASE (release_complete source ∷ []) (emptied Removed s) is tt absurd refl (λ _. refl)
released_roles (Closed clearing) s source offer is = had_ended_in (Closed clearing) s (inputs.Released source) offer _ is absurd absurd refl
released_roles _ s source offer is = refl

-- a message is handed
handed_roles : (reference : ℕ) (stage : Stage) (s : Connection) (sapi : Sapi) (message : List ℕ) (offer : Option Channel) →
    s.state ≡ Live reference stage →
    ChangesRoles s (inputs.Downlink sapi message) offer (row (handing s.serving sapi message ∷ []) s)
handed_roles reference stage s sapi message offer is =
    continues_by unchanged (Live reference stage) s (inputs.Downlink sapi message) offer (row (handing s.serving sapi message ∷ []) s) refl is tt (subst IsOpen (sym is) tt)
    (record {
      begun = None;
      may = tt;
      roles = roles_known (Live reference stage) s is;
      ordered = refl;
      tells = (Contains-append_right s.down.zero (s.down.three ++ message ∷ []) message (Contains-append_right s.down.three (message ∷ []) message (Contains-push [] message)), tt);
    })

short_message_roles : (reference : ℕ) (stage : Stage) (link : ShortMessageLink) (s : Connection) (message : List ℕ) (offer : Option Channel) →
    s.state ≡ Live reference stage →
    ChangesRoles s (inputs.Downlink Three message) offer (short_message (Live reference stage) link message s)
short_message_roles reference stage Up s message offer is = handed_roles reference stage s Three message offer is
short_message_roles reference stage _ s message offer is =
    cond_both (eqb (count s.down) s.down.limit) _ _ (ChangesRoles s (inputs.Downlink Three message) offer)
    (λ _. fails (Live reference stage) s (inputs.Downlink Three message) offer EQUIPMENT_FAILURE is tt (λ _. refl))
    (λ _. same_roles reference stage s (inputs.Downlink Three message) offer _ refl is refl refl (are_plain_request_where s.link s.serving))

downlink_roles : (state : State) (s : Connection) (sapi : Sapi) (message : List ℕ) (offer : Option Channel) →
    s.state ≡ state →
    ChangesRolesBy s (inputs.Downlink sapi message) offer (on_downlink state s sapi message)
downlink_roles (Live reference (Changing target)) s sapi message offer is =
    cond_both (eqb (count s.down) s.down.limit) _ _ (ChangesRoles s (inputs.Downlink sapi message) offer)
    (λ _. fails (Live reference (Changing target)) s (inputs.Downlink sapi message) offer EQUIPMENT_FAILURE is tt (λ _. refl))
    (λ _. same_roles reference (Changing target) s (inputs.Downlink sapi message) offer _ refl is refl refl tt)
downlink_roles (Live reference stage) s Zero message offer is = handed_roles reference stage s Zero message offer is
downlink_roles (Live reference stage) s Three message offer is = short_message_roles reference stage s.link s message offer is
downlink_roles _ s sapi message offer is = refl

cipher_mode_command_roles : (state : State) (s : Connection) (offer : Option Channel) →
    s.state ≡ state →
    ChangesRolesBy s inputs.CipherModeCommand offer (on_cipher_mode_command state s)
cipher_mode_command_roles (Live reference stage) s offer is = same_roles reference stage s inputs.CipherModeCommand offer _ refl is refl refl (tt, tt)
cipher_mode_command_roles _ s offer is = refl

clear_command_roles : (state : State) (s : Connection) (offer : Option Channel) →
    s.state ≡ state →
    ChangesRolesBy s inputs.ClearCommand offer (on_clear_command state s)
clear_command_roles (Live reference stage) s offer is =
    ends_it (Live reference stage) s inputs.ClearCommand offer NORMAL_EVENT (clear_complete reference ∷ []) (emptied (Closed Complete) s) is tt absurd refl (λ _. refl)
clear_command_roles (Closed (WasAsked reference)) s offer is = had_ended_in (Closed (WasAsked reference)) s inputs.ClearCommand offer _ is absurd absurd refl
clear_command_roles _ s offer is = refl

-- ---- timers and links

expiry_roles : (state : State) (s : Connection) (offer : Option Channel) →
    s.state ≡ state →
    ChangesRolesBy s inputs.Expiry offer (on_expiry state s)
expiry_roles WaitActivation s offer is = drops_it WaitActivation s inputs.Expiry offer is tt refl (λ _. refl)
expiry_roles WaitEstablish s offer is = drops_it WaitEstablish s inputs.Expiry offer is tt refl (λ _. refl)
expiry_roles (Live reference (Preparing target)) s offer is = fails (Live reference (Preparing target)) s inputs.Expiry offer RADIO_INTERFACE_MESSAGE_FAILURE is tt (λ _. refl)
expiry_roles (Live reference (Changing target)) s offer is = fails (Live reference (Changing target)) s inputs.Expiry offer RADIO_INTERFACE_MESSAGE_FAILURE is tt (λ _. refl)
expiry_roles _ s offer is = refl

drain_expiry_roles : (state : State) (s : Connection) (offer : Option Channel) →
    s.state ≡ state →
    ChangesRolesBy s inputs.DrainExpiry offer (on_drain_expiry state s)
drain_expiry_roles (Live reference stage) s offer is =
    changes_roles_by_row_if s inputs.DrainExpiry offer (is_some_draining s.draining) _ (λ _. fails (Live reference stage) s inputs.DrainExpiry offer EQUIPMENT_FAILURE is tt (λ _. refl)) (λ _. refl)
drain_expiry_roles _ s offer is = refl

breaks : (state : State) (s : Connection) (station : ℕ) (offer : Option Channel) →
    s.state ≡ state →
    IsOpen state →
    ChangesRoles s (inputs.StationDown station) offer (without_station station (failing state s EQUIPMENT_FAILURE))
breaks state s station offer is was_open =
    ends_in state s (inputs.StationDown station) offer (without_station station (failing state s EQUIPMENT_FAILURE)) is was_open
    (failing_shut state s EQUIPMENT_FAILURE) (ends_broken state s station EQUIPMENT_FAILURE)

station_down_roles : (state : State) (s : Connection) (station : ℕ) (offer : Option Channel) →
    s.state ≡ state →
    ChangesRolesBy s (inputs.StationDown station) offer (on_station_down state s station)
station_down_roles WaitActivation s station offer is =
    changes_roles_by_row_if s (inputs.StationDown station) offer (eqb s.serving.station station) _
    (λ _. ends_in WaitActivation s (inputs.StationDown station) offer (without_station station (dropping s)) is tt absurd (ends_broken_drop WaitActivation s station refl)) (λ _. refl)
station_down_roles WaitEstablish s station offer is =
    changes_roles_by_row_if s (inputs.StationDown station) offer (eqb s.serving.station station) _
    (λ _. ends_in WaitEstablish s (inputs.StationDown station) offer (without_station station (dropping s)) is tt absurd (ends_broken_drop WaitEstablish s station refl)) (λ _. refl)
station_down_roles WaitConfirm s station offer is =
    changes_roles_by_row_if s (inputs.StationDown station) offer (eqb s.serving.station station) _ (λ _. breaks WaitConfirm s station offer is tt) (λ _. refl)
station_down_roles (Live reference stage) s station offer is =
    changes_roles_by_row_if s (inputs.StationDown station) offer (eqb s.serving.station station || targets station stage || drains_at station s.draining) _ (λ _. breaks (Live reference stage) s station offer is tt) (λ _. refl)
station_down_roles _ s station offer is = refl

switch_down_roles : (state : State) (s : Connection) (offer : Option Channel) →
    s.state ≡ state →
    ChangesRolesBy s inputs.SwitchDown offer (on_switch_down state s)
switch_down_roles WaitActivation s offer is = drops_it WaitActivation s inputs.SwitchDown offer is tt refl (λ _. refl)
switch_down_roles WaitEstablish s offer is = drops_it WaitEstablish s inputs.SwitchDown offer is tt refl (λ _. refl)
switch_down_roles WaitConfirm s offer is = ends_it WaitConfirm s inputs.SwitchDown offer ABNORMAL_RELEASE [] (emptied Removed s) is tt absurd refl (λ _. refl)
switch_down_roles (Live reference stage) s offer is =
    ends_in (Live reference stage) s inputs.SwitchDown offer _ is tt absurd (record { end = dismisses ABNORMAL_RELEASE; fits = tt; ordered = to_stations-end (Live reference stage) s ABNORMAL_RELEASE })
switch_down_roles (Closed clearing) s offer is = had_ended_in (Closed clearing) s inputs.SwitchDown offer _ is absurd absurd refl
switch_down_roles Removed s offer is = refl

-- ---- the whole table

pub changes_roles_row : (s : Connection) (input : Input) (offer : Option Channel) →
    IsValid s →
    ChangesRolesBy s input offer (row_of s input offer)
unfolding row_of
changes_roles_row s (inputs.ActivationAck at) offer valid = activation_ack_roles s.state s at offer refl
changes_roles_row s (inputs.ActivationNack at) offer valid = activation_nack_roles s.state s at offer refl
changes_roles_row s (inputs.EstablishIndication at sapi message) offer valid = establish_indication_roles s.state s at sapi message offer refl
changes_roles_row s (inputs.EstablishConfirm at sapi) offer valid = establish_confirm_roles s.state s at sapi offer refl
changes_roles_row s (inputs.ReleaseIndication at sapi) offer valid = release_indication_roles s.state s at sapi offer refl
changes_roles_row s (inputs.ErrorIndication at sapi) offer valid = error_indication_roles s.state s at sapi offer refl
changes_roles_row s (inputs.ConnectionFailure at) offer valid = connection_failure_roles s.state s at offer refl
changes_roles_row s (inputs.Dtap at sapi message) offer valid = dtap_roles s.state s at sapi message offer refl
changes_roles_row s (inputs.Complete at change cause) offer valid = complete_roles s.state s at change cause offer refl
changes_roles_row s (inputs.Failure at change cause) offer valid = failure_roles s.state s at change cause offer refl
changes_roles_row s (inputs.ReleaseAck at) offer valid = release_ack_roles s.state s at offer refl valid
changes_roles_row s inputs.Move offer valid = move_roles s.state s offer refl
changes_roles_row s (inputs.ConnectionConfirm source) offer valid = confirm_roles s.state s source offer refl
changes_roles_row s inputs.ConnectionRefused offer valid = refused_roles s.state s offer refl
changes_roles_row s (inputs.Released source) offer valid = released_roles s.state s source offer refl
changes_roles_row s (inputs.Downlink sapi message) offer valid = downlink_roles s.state s sapi message offer refl
changes_roles_row s (inputs.AssignmentRequest is_speech) offer valid = assignment_request_roles s.state s is_speech offer refl
changes_roles_row s inputs.CipherModeCommand offer valid = cipher_mode_command_roles s.state s offer refl
changes_roles_row s inputs.ClearCommand offer valid = clear_command_roles s.state s offer refl
changes_roles_row s inputs.Expiry offer valid = expiry_roles s.state s offer refl
changes_roles_row s inputs.DrainExpiry offer valid = drain_expiry_roles s.state s offer refl
changes_roles_row s (inputs.StationDown station) offer valid = station_down_roles s.state s station offer refl
changes_roles_row s inputs.SwitchDown offer valid = switch_down_roles s.state s offer refl
