-- SPDX-License-Identifier: MIT OR Apache-2.0
-- What a row does to the change of a mobile's channel, and to a connection that is cleared.
use Rattle.controller_model.proofs.Prelude.{◌≡◌, ◌⊎◌, ℕ, zero, suc, ◌==◌, ◌&&◌, Bool, true, false, if◌then◌else◌, List, [], ◌∷◌, ◌++◌}
use Rattle.controller_model.proofs.Prelude.{Option, Some, None, refl, sym, subst, ap, ◌∙◌, inl, inr, list_any, BSS_NOT_EQUIPPED}
use Rattle.controller_model.proofs.Prelude.{EQUIPMENT_FAILURE, PROTOCOL_ERROR, Change, Assignment, Handover, Channel, Place, Message}
use Rattle.controller_model.proofs.Prelude.{assignment_failure, Input, Complete, Drain, Preparing, Changing, State, WaitActivation, Live}
use Rattle.controller_model.proofs.Prelude.{Closed, Removed, Target, Connection, drain_at, is_at, tenure_at, Row, row, ◌then◌}
use Rattle.controller_model.proofs.Prelude.{after_waiting, done_at, failing, leave, relay_held, shifted, without_station, IsChanging, OfRow}
use Rattle.controller_model.proofs.Prelude.{assign_immediately, command_to, complete, dtap_in, failure, on_activation_ack, release_in}
use Rattle.controller_model.proofs.Prelude.{speech_request, either, where_fits, Sapi, Zero, Three, chain_count, put_in, count, messages}
use Rattle.controller_model.proofs.Prelude.{with_messages, is_some_draining, same_change, performs}
use Rattle.conn_rules.specs.declared.input.Input.TheVariants as inputs
use Rattle.conn_rules.specs.Table.{row_of}
use Rattle.controller_model.specs.LifeLaws.Handing.{is_clear, is_command, is_release}
use Rattle.controller_model.proofs.LifeLaws.FollowingChanges.{performs_complete}
use Rattle.controller_model.proofs.LifeLaws.FollowingTable.{row_by, row_is_by}

-- ---- while the mobile changes its channel

-- by an answer, by the break of the switch's link, or by what is put
abbrev pub EndsBy : Input → List Message → Type 0
EndsBy (inputs.Complete at change cause) put = performs put ≡ true
EndsBy (inputs.Failure at change cause) put = list_any is_release put ≡ true
EndsBy inputs.SwitchDown put = Unit {0}
EndsBy _ put = list_any is_clear put ≡ true

abbrev pub ChangesOrEnds : Input → Row → Type 0
ChangesOrEnds input r = IsChanging r.next.state ⊎ EndsBy input r.outs

of_dtap : (place : Option ℕ) (reference : ℕ) (target : Target) (s : Connection) →
    IsChanging s.state →
    (at : Place) (sapi : Sapi) (message : List ℕ) →
    OfRow (ChangesOrEnds (inputs.Dtap at sapi message)) (dtap_in place reference (Changing target) s at sapi message)
of_dtap (Some zero) reference target s here at sapi message = inl here
of_dtap (Some (suc tenure)) reference target s here at sapi message =
    either (ChangesOrEnds (inputs.Dtap at sapi message)) (chain_count s.up == s.up.limit) (failing (Live reference (Changing target)) s EQUIPMENT_FAILURE) (row [] (record s { up = record s.up { tenures = put_in (suc tenure) sapi message s.up.tenures } })) (inr refl) (inl here)
of_dtap None reference target s here at Zero message = where_fits (ChangesOrEnds (inputs.Dtap at Zero message)) _ (failing (Live reference (Changing target)) s EQUIPMENT_FAILURE) (inr refl)
of_dtap None reference target s here at Three message = tt

of_failure : (change : Change) (reference : ℕ) (channel : Channel) (cause : ℕ) (offer : Option Channel) (s : Connection) →
    list_any is_release (failure reference change channel cause offer s).outs ≡ true
of_failure Assignment reference channel cause offer s = refl
of_failure Handover reference channel cause offer s = refl

leaves_changing : (reference : ℕ) (draining : List Drain) (s : Connection) →
    IsChanging s.state →
    IsChanging (leave reference draining s).next.state
leaves_changing reference [] s here = here
leaves_changing reference (d ∷ ds) s here = either (λ r. IsChanging r.next.state) d.is_done _ _ (leaves_changing reference ds (relay_held reference (shifted ds s)).next here) here

waits_changing : (b : Bool) (reference : ℕ) (offer : Option Channel) (s : Connection) →
    IsChanging s.state →
    IsChanging (after_waiting (b && false) reference offer s).state
waits_changing true reference offer s here = here
waits_changing false reference offer s here = here

of_release : (place : Option ℕ) (reference : ℕ) (target : Target) (offer : Option Channel) (s : Connection) →
    IsChanging s.state →
    (at : Place) →
    OfRow (ChangesOrEnds (inputs.ReleaseAck at)) (release_in place reference (Changing target) offer s)
of_release (Some place) reference target offer s here at =
    let left : Connection = (leave reference (done_at place s.draining) s).next in
    inl (waits_changing left.waits reference offer left (leaves_changing reference (done_at place s.draining) s here))
of_release None reference target offer s here at = tt

of_request : (b : Bool) (reference : ℕ) (target : Target) (offer : Option Channel) (s : Connection) →
    IsChanging s.state →
    ChangesOrEnds (inputs.AssignmentRequest b) (if b then speech_request reference (Changing target) offer s else row (assignment_failure reference BSS_NOT_EQUIPPED None ∷ []) s)
of_request true reference target offer s here = either (ChangesOrEnds (inputs.AssignmentRequest true)) s.waits (row (assignment_failure reference PROTOCOL_ERROR None ∷ []) s) (row [] (record s { waits = true })) (inl here) (inl here)
of_request false reference target offer s here = inl here

by_changing : (reference : ℕ) (target : Target) (s : Connection) →
    IsChanging s.state →
    (input : Input) (offer : Option Channel) →
    OfRow (ChangesOrEnds input) (row_by (Live reference (Changing target)) s input offer)
unfolding row_by
by_changing reference target s here (inputs.Dtap at sapi message) offer = of_dtap (tenure_at at s.serving s.draining) reference target s here at sapi message
by_changing reference target s here (inputs.Complete at change cause) offer =
    where_fits (ChangesOrEnds (inputs.Complete at change cause)) (is_at at target.channel && same_change change target.change) (complete reference change target.channel cause.0 offer s) (inr (performs_complete reference change target.channel cause.0 offer s))
by_changing reference target s here (inputs.Failure at change cause) offer =
    where_fits (ChangesOrEnds (inputs.Failure at change cause)) (is_at at s.serving && same_change change target.change) (failure reference change target.channel cause.0 offer s) (inr (of_failure change reference target.channel cause.0 offer s))
by_changing reference target s here (inputs.ReleaseAck at) offer = of_release (drain_at at s.draining) reference target offer s here at
by_changing reference target s here (inputs.Downlink sapi message) offer = either (ChangesOrEnds (inputs.Downlink sapi message)) (count s.down == s.down.limit) (failing (Live reference (Changing target)) s EQUIPMENT_FAILURE) (row [] (record s { down = with_messages s.down sapi (messages s.down sapi ++ message ∷ []) })) (inr refl) (inl here)
by_changing reference target s here (inputs.AssignmentRequest is_speech) offer = of_request is_speech reference target offer s here
by_changing reference target s here inputs.CipherModeCommand offer = inl here
by_changing reference target s here inputs.ClearCommand offer = inr refl
by_changing reference target s here (inputs.Released source) offer = inr refl
by_changing reference target s here inputs.Expiry offer = inr refl
by_changing reference target s here inputs.DrainExpiry offer = where_fits (ChangesOrEnds inputs.DrainExpiry) (is_some_draining s.draining) (failing (Live reference (Changing target)) s EQUIPMENT_FAILURE) (inr refl)
by_changing reference target s here (inputs.StationDown station) offer =
    where_fits (ChangesOrEnds (inputs.StationDown station)) _ (without_station station (failing (Live reference (Changing target)) s EQUIPMENT_FAILURE)) (inr refl)
by_changing reference target s here inputs.SwitchDown offer = inr tt
by_changing reference target s here _ offer = tt

from_changing : (state : State) (s : Connection) →
    s.state ≡ state →
    IsChanging state →
    (input : Input) (offer : Option Channel) →
    OfRow (ChangesOrEnds input) (row_by state s input offer)
from_changing (Live reference (Changing target)) s is here input offer = by_changing reference target s (subst IsChanging (sym is) tt) input offer
from_changing _ s is here input offer = absurd here

pub changing_row : (s : Connection) (input : Input) (offer : Option Channel) →
    IsChanging s.state →
    OfRow (ChangesOrEnds input) (row_of s input offer)
changing_row s input offer here = subst (OfRow (ChangesOrEnds input)) (sym (row_is_by s input offer)) (from_changing s.state s refl here input offer)

-- ---- the COMMAND

abbrev pub Commands : Row → Type 0
Commands r = list_any is_command r.outs ≡ true → IsChanging r.next.state

from_ack : (state : State) (s : Connection) (at : Place) → OfRow Commands (on_activation_ack state s at)
from_ack WaitActivation s at = where_fits Commands _ (assign_immediately s) (λ commands. absurd (cc commands))
from_ack (Live reference (Preparing target)) s at = where_fits Commands _ (command_to reference target s) (λ commands. tt)
from_ack _ s at = tt

pub command_row : (s : Connection) (at : Place) (offer : Option Channel) → OfRow Commands (row_of s (inputs.ActivationAck at) offer)
unfolding row_of
command_row s at offer = from_ack s.state s at

-- ---- once CLEAR COMPLETE was put

by_cleared : (s : Connection) (input : Input) (offer : Option Channel) →
    OfRow (λ r. r.next.state ≡ Removed) (row_by (Closed Complete) s input offer)
unfolding row_by
by_cleared s (inputs.Released source) offer = refl
by_cleared s inputs.SwitchDown offer = refl
by_cleared s _ offer = tt

pub cleared_row : (s : Connection) (input : Input) (offer : Option Channel) →
    s.state ≡ Closed Complete →
    OfRow (λ r. r.next.state ≡ Removed) (row_of s input offer)
cleared_row s input offer is =
    subst (OfRow (λ r. r.next.state ≡ Removed)) (sym (row_is_by s input offer ∙ ap (λ (state : State). row_by state s input offer) is)) (by_cleared s input offer)
