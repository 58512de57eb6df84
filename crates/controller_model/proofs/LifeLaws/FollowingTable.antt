-- SPDX-License-Identifier: MIT OR Apache-2.0
-- The messages relayed follow the tenures, row by row from access on.
use Rattle.controller_model.proofs.Prelude.{◌≡◌, ◌⊎◌, ℕ, ◌==◌, nat_le, Bool, true, false, List, [], ◌∷◌, ◌++◌, length, Option, Some, None}
use Rattle.controller_model.proofs.Prelude.{refl, sym, subst, ap, ◌∙◌, inl, inr, cases_Bool, cond-true, cond-false, Channel, Place, Message}
use Rattle.controller_model.proofs.Prelude.{complete_layer3, by_state, same_place, Input, Drain, Active}
use Rattle.controller_model.proofs.Prelude.{State, WaitActivation, WaitEstablish, WaitConfirm, Live, Closed, Removed, Connection, drain_at}
use Rattle.controller_model.proofs.Prelude.{emptied, enter, is_at, ChangesRoles, RemainsOpen, roles_of, step_by, carries_on, ends, had_ended}
use Rattle.controller_model.proofs.Prelude.{IsValid, Row, row, dropping, without_station, AreApart, Future, IsOpen, OfRow, relayed, still_of}
use Rattle.controller_model.proofs.Prelude.{used_channels, access, assign_immediately, on_activation_ack, on_activation_nack}
use Rattle.controller_model.proofs.Prelude.{on_assignment_request, on_cipher_mode_command, on_clear_command, on_complete, on_confirm}
use Rattle.controller_model.proofs.Prelude.{on_connection_failure, on_downlink, on_drain_expiry, on_dtap, on_error_indication}
use Rattle.controller_model.proofs.Prelude.{on_establish_confirm, on_establish_indication, on_expiry, on_failure, on_move, on_refused}
use Rattle.controller_model.proofs.Prelude.{on_release_ack, on_release_indication, on_released, on_station_down, on_switch_down, release_in}
use Rattle.controller_model.proofs.Prelude.{Sapi, Zero, Three, HeldTenure, INITIAL_LIMIT, changes_roles_row, ChangesRolesBy, requests}
use Rattle.controller_model.proofs.Prelude.{used_in, ServedTenure, after_input, begin_first, beginning, of_sapi, place_of, empty_tenure}
use Rattle.conn_rules.specs.declared.input.Input.TheVariants as inputs
use Rattle.conn_rules.specs.Table.{row_of}
use Rattle.controller_model.proofs.LifeLaws.Following.{Follows, plain_follows, relayed_append}
use Rattle.controller_model.proofs.LifeLaws.FollowingChanges.{complete_follows, dtap_off}
use Rattle.controller_model.proofs.LifeLaws.FollowingRows.{dtap_follows, release_follows}
use Rattle.controller_model.proofs.LifeLaws.OwningWords.{if_is}
use Rattle.controller_model.proofs.LifeLaws.Progress.{Advances, IsLive, Next, advances}
use Rattle.controller_model.proofs.LifeLaws.OwningLife.{shut_if}

-- the table, by a state of its own
unfoldable pub row_by : State → Connection → Input → Option Channel → Option Row
row_by state s (inputs.ActivationAck at) offer = on_activation_ack state s at
row_by state s (inputs.ActivationNack at) offer = on_activation_nack state s at offer
row_by state s (inputs.EstablishIndication at sapi message) offer = on_establish_indication state s at sapi message
row_by state s (inputs.EstablishConfirm at sapi) offer = on_establish_confirm state s at sapi
row_by state s (inputs.ReleaseIndication at sapi) offer = on_release_indication state s at sapi
row_by state s (inputs.ErrorIndication at sapi) offer = on_error_indication state s at sapi
row_by state s (inputs.ConnectionFailure at) offer = on_connection_failure state s at
row_by state s (inputs.Dtap at sapi message) offer = on_dtap state s at sapi message
row_by state s (inputs.Complete at change cause) offer = on_complete state s at change cause.0 offer
row_by state s (inputs.Failure at change cause) offer = on_failure state s at change cause.0 offer
row_by state s (inputs.ReleaseAck at) offer = on_release_ack state s at offer
row_by state s inputs.Move offer = on_move state s offer
row_by state s (inputs.ConnectionConfirm source) offer = on_confirm state s source
row_by state s inputs.ConnectionRefused offer = on_refused state s
row_by state s (inputs.Released source) offer = on_released state s source
row_by state s (inputs.Downlink sapi message) offer = on_downlink state s sapi message
row_by state s (inputs.AssignmentRequest is_speech) offer = on_assignment_request state s is_speech offer
row_by state s inputs.CipherModeCommand offer = on_cipher_mode_command state s
row_by state s inputs.ClearCommand offer = on_clear_command state s
row_by state s inputs.Expiry offer = on_expiry state s
row_by state s inputs.DrainExpiry offer = on_drain_expiry state s
row_by state s (inputs.StationDown station) offer = on_station_down state s station
row_by state s inputs.SwitchDown offer = on_switch_down state s

pub row_is_by : (s : Connection) (input : Input) (offer : Option Channel) → row_of s input offer ≡ row_by s.state s input offer
unfolding row_of row_by
row_is_by s _ offer = refl

-- ---- before access

assign_relays : (sapi : Sapi) (s : Connection) → relayed sapi (assign_immediately s).outs ≡ []
assign_relays Zero s = refl
assign_relays Three s = refl

activation_open : (s : Connection) (input : Input) (offer : Option Channel) (r : Row) →
    row_by WaitActivation s input offer ≡ Some r →
    IsOpen r.next.state →
    (sapi : Sapi) →
    relayed sapi r.outs ≡ []
unfolding row_by
activation_open s (inputs.ActivationAck at) offer r is there = λ sapi. ap (λ (q : Row). relayed sapi q.outs) (sym (if_is (is_at at s.serving) (assign_immediately s) r is).1) ∙ assign_relays sapi s
activation_open s (inputs.ActivationNack at) offer r is there = absurd (shut_if (is_at at s.serving) (row [] (emptied Removed s)) r (λ o. o) is there)
activation_open s inputs.Expiry offer r is there = absurd (shut_if true (dropping s) r (λ o. o) is there)
activation_open s (inputs.StationDown station) offer r is there = absurd (shut_if (s.serving.station == station) (without_station station (dropping s)) r (λ o. o) is there)
activation_open s inputs.SwitchDown offer r is there = absurd (shut_if true (dropping s) r (λ o. o) is there)
activation_open s _ offer r is there = absurd cc

pub record Accesses (s : Connection) (input : Input) (r : Row) : Type 0 where
  pub at : Place
  pub initial : List ℕ
  pub establishes : input ≡ inputs.EstablishIndication at Zero (Some initial)
  pub here : is_at at s.serving ≡ true
  pub is : r ≡ row (complete_layer3 s.serving initial ∷ []) (enter WaitConfirm s)

access_by : (s : Connection) (at : Place) (message : Option (List ℕ)) (r : Row) →
    is_at at s.serving ≡ true →
    access message s ≡ r →
    IsOpen r.next.state →
    Accesses s (inputs.EstablishIndication at Zero message) r
access_by s at None r here is there = absurd (subst (λ (q : Row). IsOpen q.next.state) (sym is) there)
access_by s at (Some initial) r here is there = elim (cases_Bool (nat_le (length initial) INITIAL_LIMIT)) [
  | inl hit ↦ record { at = at; initial = initial; establishes = refl; here = here; is = sym is ∙ cond-true _ (row (complete_layer3 s.serving initial ∷ []) (enter WaitConfirm s)) (dropping s) hit }
  | inr miss ↦ absurd (subst (λ (q : Row). IsOpen q.next.state) (sym is ∙ cond-false _ (row (complete_layer3 s.serving initial ∷ []) (enter WaitConfirm s)) (dropping s) miss) there)
]

pub access_open : (s : Connection) (input : Input) (offer : Option Channel) (r : Row) →
    row_by WaitEstablish s input offer ≡ Some r →
    IsOpen r.next.state →
    Accesses s input r
unfolding row_by
access_open s (inputs.EstablishIndication at Zero message) offer r is there = let one = if_is (is_at at s.serving) (access message s) r is in access_by s at message r one.0 one.1 there
access_open s (inputs.ReleaseIndication at Zero) offer r is there = absurd (shut_if (is_at at s.serving) (dropping s) r (λ o. o) is there)
access_open s (inputs.ConnectionFailure at) offer r is there = absurd (shut_if (is_at at s.serving) (dropping s) r (λ o. o) is there)
access_open s (inputs.Dtap at Zero message) offer r is there = absurd (shut_if (is_at at s.serving) (dropping s) r (λ o. o) is there)
access_open s inputs.Expiry offer r is there = absurd (shut_if true (dropping s) r (λ o. o) is there)
access_open s (inputs.StationDown station) offer r is there = absurd (shut_if (s.serving.station == station) (without_station station (dropping s)) r (λ o. o) is there)
access_open s inputs.SwitchDown offer r is there = absurd (shut_if true (dropping s) r (λ o. o) is there)
access_open s _ offer r is there = absurd cc

-- ---- from access on

abbrev pub UpIn : State → Connection → List Message → List ServedTenure → Type 0
UpIn WaitActivation s put ts = (ts ≡ []) × ((sapi : Sapi) → relayed sapi put ≡ [])
UpIn WaitEstablish s put ts = (ts ≡ []) × ((sapi : Sapi) → relayed sapi put ≡ [])
UpIn WaitConfirm s put ts = Follows s put ts
UpIn (Live reference stage) s put ts = Follows s put ts
UpIn _ s put ts = ⊥

live_up : (state : State) (s : Connection) (put : List Message) (ts : List ServedTenure) → IsLive state → Follows s put ts
    → UpIn state s put ts
live_up (Live reference stage) s put ts live follows = follows
live_up (Closed clearing) s put ts live follows = live
live_up Removed s put ts live follows = live
live_up _ s put ts live follows = absurd live

pub early_none : (input : Input) (put : List Message) → requests put ≡ false → after_input input put [] ≡ []
early_none (inputs.EstablishIndication at Zero (Some initial)) put none = ap (λ (b : Bool). begin_first b at initial []) none
early_none _ put none = refl

silent_more : (before put : List Message) →
    ((sapi : Sapi) → relayed sapi before ≡ []) →
    ((sapi : Sapi) → relayed sapi put ≡ []) →
    (sapi : Sapi) →
    relayed sapi (before ++ put) ≡ []
silent_more before put one other sapi = relayed_append sapi before put ∙ ap (λ (xs : List (List ℕ)). xs ++ relayed sapi put) (one sapi) ∙ other sapi

accessed : (s : Connection) (before : List Message) (at : Place) (initial : List ℕ) →
    s.draining ≡ [] →
    s.up.tenures ≡ empty_tenure ∷ [] →
    is_at at s.serving ≡ true →
    ((sapi : Sapi) → relayed sapi before ≡ []) →
    Follows (enter WaitConfirm s) (before ++ complete_layer3 s.serving initial ∷ []) (beginning at (initial ∷ []) ∷ [])
accessed s before at initial bare one here silent = record {
  serves = (refl, same_place at s.serving here);
  old = λ other away. tt;
  up = λ sapi f.
      ap (λ (xs : List (List ℕ)). xs ++ still_of sapi f s.serving s.draining s.up.tenures) (relayed_append sapi before (complete_layer3 s.serving initial ∷ []) ∙ ap (λ (xs : List (List ℕ)). xs ++ relayed sapi (complete_layer3 s.serving initial ∷ [])) (silent sapi))
      ∙ ap (λ (ds : List Drain). relayed sapi (complete_layer3 s.serving initial ∷ []) ++ still_of sapi f s.serving ds s.up.tenures) bare
      ∙ ap (λ (ts : List HeldTenure). relayed sapi (complete_layer3 s.serving initial ∷ []) ++ still_of sapi f s.serving [] ts) one
      ∙ both sapi f ∙ ap (λ (p : Place). of_sapi sapi (beginning at (initial ∷ [])) ++ f p) (sym (same_place at s.serving here));
}
  where
    both : (sapi : Sapi) (f : Future) →
        relayed sapi (complete_layer3 s.serving initial ∷ []) ++ still_of sapi f s.serving [] (empty_tenure ∷ []) ≡ of_sapi sapi (beginning at (initial ∷ [])) ++ f (place_of s.serving)
    both Zero f = refl
    both Three f = refl

-- ---- a row

no_access : (state : State) (s : Connection) (at : Place) (message : Option (List ℕ)) (r : Row) →
    (state ≡ WaitConfirm) ⊎ IsLive state →
    on_establish_indication state s at Zero message ≡ Some r →
    ⊥
no_access (Live reference Active) s at message r in_it is = absurd cc
no_access WaitActivation s at message r (inl same) is = absurd cc
no_access WaitActivation s at message r (inr live) is = live
no_access WaitEstablish s at message r (inl same) is = absurd cc
no_access WaitEstablish s at message r (inr live) is = live
no_access _ s at message r in_it is = absurd cc

release_found : (o : Option ℕ) (reference : ℕ) (stage : _) (offer : Option Channel) (s : Connection) (r : Row) →
    release_in o reference stage offer s ≡ Some r →
    (place : ℕ) × (o ≡ Some place)
release_found (Some place) reference stage offer s r is = (place, refl)
release_found None reference stage offer s r is = absurd cc

ack_found : (state : State) (s : Connection) (at : Place) (offer : Option Channel) (r : Row) →
    on_release_ack state s at offer ≡ Some r →
    (place : ℕ) × (drain_at at s.draining ≡ Some place)
ack_found (Live reference stage) s at offer r is = release_found (drain_at at s.draining) reference stage offer s r is
ack_found _ s at offer r is = absurd cc

pub going : (s : Connection) (input : Input) (offer : Option Channel) (r : Row) →
    IsValid s →
    row_of s input offer ≡ Some r →
    IsOpen r.next.state →
    RemainsOpen (step_by input (roles_of s)) (roles_of s) s.down input offer r
going s input offer r valid is there = by (subst (ChangesRolesBy s input offer) is (changes_roles_row s input offer valid))
  where
    by : ChangesRoles s input offer r → RemainsOpen (step_by input (roles_of s)) (roles_of s) s.down input offer r
    by (carries_on was_open is_open on) = on
    by (ends was_open closed over) = absurd (closed there)
    by (had_ended was_shut closed nothing) = absurd (closed there)

pub serving_row : (s : Connection) (input : Input) (offer : Option Channel) (r : Row) (before : List Message) (ts : List ServedTenure) →
    (s.state ≡ WaitConfirm) ⊎ IsLive s.state →
    IsValid s →
    AreApart (used_channels s) →
    AreApart (used_in (roles_of s)) →
    row_of s input offer ≡ Some r →
    IsOpen r.next.state →
    Follows s before ts →
    Follows r.next (before ++ r.outs) (after_input input r.outs ts)
unfolding row_by
serving_row s (inputs.Dtap at of message) offer r before ts in_it valid apart roles_apart is there follows =
    dtap_follows s at of message offer r before ts valid apart roles_apart (dtap_off s at of message offer r roles_apart is there) is there (going s (inputs.Dtap at of message) offer r valid is there) follows
serving_row s (inputs.Complete at change cause) offer r before ts in_it valid apart roles_apart is there follows =
    complete_follows s at change cause offer r before ts valid apart is there (going s (inputs.Complete at change cause) offer r valid is there) follows
serving_row s (inputs.ReleaseAck at) offer r before ts in_it valid apart roles_apart is there follows =
    let found = ack_found s.state s at offer r (sym (row_is_by s (inputs.ReleaseAck at) offer) ∙ is) in
    release_follows s at found.0 offer r before ts valid apart roles_apart found.1 is there (going s (inputs.ReleaseAck at) offer r valid is there) follows
serving_row s (inputs.EstablishIndication at Zero message) offer r before ts in_it valid apart roles_apart is there follows =
    absurd (no_access s.state s at message r in_it (sym (row_is_by s (inputs.EstablishIndication at Zero message) offer) ∙ is))
serving_row s input offer r before ts in_it valid apart roles_apart is there follows =
    plain_follows s input offer r before ts valid apart roles_apart is there (going s input offer r valid is there) tt follows

pub row_up : (state : State) (s : Connection) →
    s.state ≡ state →
    (input : Input) (offer : Option Channel) (r : Row) (before : List Message) (ts : List ServedTenure) →
    IsValid s →
    AreApart (used_channels s) →
    AreApart (used_in (roles_of s)) →
    row_of s input offer ≡ Some r →
    IsOpen r.next.state →
    UpIn state s before ts →
    UpIn r.next.state r.next (before ++ r.outs) (after_input input r.outs ts)
row_up WaitActivation s same input offer r before ts valid apart roles_apart is there up =
    let next : Next WaitActivation input r.next.state r.outs = subst (λ (state : State). Next state input r.next.state r.outs) same (subst (OfRow (Advances s.state input)) is (advances s input offer) there) in
    subst (λ (state : State). UpIn state r.next (before ++ r.outs) (after_input input r.outs ts)) (sym next.0) (
      ap (after_input input r.outs) up.0 ∙ early_none input r.outs next.1,
      silent_more before r.outs up.1 (activation_open s input offer r (ap (λ (state : State). row_by state s input offer) (sym same) ∙ sym (row_is_by s input offer) ∙ is) there),
    )
row_up WaitEstablish s same input offer r before ts valid apart roles_apart is there up =
    let a = access_open s input offer r (ap (λ (state : State). row_by state s input offer) (sym same) ∙ sym (row_is_by s input offer) ∙ is) there in
    let bare = (by_state WaitEstablish s same valid).0 in
    subst (λ (q : Row). UpIn q.next.state q.next (before ++ q.outs) (after_input input q.outs ts)) (sym a.is)
    (subst (λ (i : Input). Follows (enter WaitConfirm s) (before ++ complete_layer3 s.serving a.initial ∷ []) (after_input i (complete_layer3 s.serving a.initial ∷ []) ts)) (sym a.establishes)
    (subst (λ (us : List ServedTenure). Follows (enter WaitConfirm s) (before ++ complete_layer3 s.serving a.initial ∷ []) (begin_first true a.at a.initial us)) (sym up.0)
    (accessed s before a.at a.initial bare.none_drains bare.one_tenure a.here up.1)))
row_up WaitConfirm s same input offer r before ts valid apart roles_apart is there up =
    let next : Next WaitConfirm input r.next.state r.outs = subst (λ (state : State). Next state input r.next.state r.outs) same (subst (OfRow (Advances s.state input)) is (advances s input offer) there) in
    let follows = serving_row s input offer r before ts (inl same) valid apart roles_apart is there up in
    elim next.1 [
      | inl unchanged ↦ subst (λ (state : State). UpIn state r.next (before ++ r.outs) (after_input input r.outs ts))
          (sym unchanged.0) follows
      | inr is_live ↦ live_up r.next.state r.next (before ++ r.outs) (after_input input r.outs ts) is_live.0 follows
    ]
row_up (Live reference stage) s same input offer r before ts valid apart roles_apart is there up =
    let next : Next (Live reference stage) input r.next.state r.outs = subst (λ (state : State). Next state input r.next.state r.outs) same (subst (OfRow (Advances s.state input)) is (advances s input offer) there) in
    live_up r.next.state r.next (before ++ r.outs) (after_input input r.outs ts) next (serving_row s input offer r before ts (inr (subst IsLive (sym same) tt)) valid apart roles_apart is there up)
row_up _ s same input offer r before ts valid apart roles_apart is there up = absurd up
