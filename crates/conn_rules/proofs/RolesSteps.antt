-- SPDX-License-Identifier: MIT OR Apache-2.0
-- The roles of channels when a change ends, and when old channels leave.
use Rattle.conn_rules.proofs.Prelude.{◌≡◌, ℕ, List, [], ◌∷◌, ◌++◌, map, refl, sym, ◌∙◌, ap, subst, Option, Some, None, append-nil}
use Rattle.conn_rules.proofs.Prelude.{if◌then◌else◌, Contains-append_left, AllByRecursion, Change, Assignment, Handover, Channel, Message}
use Rattle.conn_rules.proofs.Prelude.{handing, cond_both, Zero, HoldState, Place, Input, Drain, Stage, Preparing, Draining, State, Live}
use Rattle.conn_rules.proofs.Prelude.{Target, Connection, reverts, leaves, IsOpen, first_channel, drain_at}
use Rattle.conn_rules.specs.declared.input.Input.TheVariants as inputs
use Rattle.conn_rules.specs.Roles.{target_role, roles_of, RoleStep, after_step, step_by, change_by, orders, step_orders, IsOfSwitch, brought, RemainsOpen, ChangesRoles}
use Rattle.conn_rules.specs.Steps.{Row, row, begin_waiting, request_for}
use Rattle.conn_rules.proofs.DownlinkMessages.{AllByRecursion-append}
use Rattle.conn_rules.specs.Roles.{still_draining, leaves_at}
use Rattle.conn_rules.specs.Steps.{resting_stage, resting, hand_held, ask_for_held, done_at, leave, shifted, relay_held, settled, settled_stage, ◌then◌}
use Rattle.conn_rules.specs.Table.{release, nack_outs}
use Rattle.conn_rules.proofs.Roles.{roles_in, equal_roles, continues_by, IsNoDataRequest, IsPlain, ArePlain, orders-plain, no_data_of_switch, plain_of_switch, orders-append, orders-handing, handing_of_switch, are_plain_tenure, are_plain_request_for, BeginsBy, begins_by_waiting, IsNoCommand, continues_begins}

-- ---- a change ends: what was held is handed, SAPI 3 asked for, and a waiting request begins

orders-changed : (outs : List Message) (t : Connection) →
    orders (outs ++ map (handing t.serving Zero) t.down.zero ++ request_for t.down.three t.serving) ≡ orders outs
orders-changed outs t =
    orders-append (outs ++ map (handing t.serving Zero) t.down.zero) (request_for t.down.three t.serving)
    ∙ rw (orders-plain (request_for t.down.three t.serving) (are_plain_request_for t.down.three t.serving)) (append-nil (orders (outs ++ map (handing t.serving Zero) t.down.zero)))
    ∙ orders-append outs (map (handing t.serving Zero) t.down.zero)
    ∙ rw (orders-handing t.serving Zero t.down.zero) (append-nil (orders outs))

changed_of_switch : (input : Input) (outs : List Message) (t : Connection) →
    AllByRecursion IsNoDataRequest outs →
    AllByRecursion (IsOfSwitch t.down input) (outs ++ map (handing t.serving Zero) t.down.zero ++ request_for t.down.three t.serving)
changed_of_switch input outs t no_data_request =
    AllByRecursion-append (IsOfSwitch t.down input) (outs ++ map (handing t.serving Zero) t.down.zero) (request_for t.down.three t.serving)
    (AllByRecursion-append (IsOfSwitch t.down input) outs (map (handing t.serving Zero) t.down.zero) (no_data_of_switch t.down input outs no_data_request)
    (handing_of_switch t.down input t.serving Zero t.down.zero (λ m held. Contains-append_left t.down.zero (t.down.three ++ brought input) m held)))
    (plain_of_switch t.down input (request_for t.down.three t.serving) (are_plain_request_for t.down.three t.serving))

-- for each row of this form
pub changes_roles_changed : (step : RoleStep) (state : State) (s : Connection) (input : Input) (offer : Option Channel) (outs : List Message) (t : Connection) (stage : Stage) (reference : ℕ) →
    step_by input (roles_in state s) ≡ step → s.state ≡ state → IsOpen state → IsNoCommand step → t.down ≡ s.down → roles_of t ≡ after_step step (roles_in state s) → orders outs ≡ step_orders step (roles_in state s) → AllByRecursion IsNoDataRequest outs →
    t.state ≡ Live reference stage → Assignment ≡ change_by input → ChangesRoles s input offer (row outs t then hand_held Zero then ask_for_held then begin_waiting stage reference offer)
changes_roles_changed step state s input offer outs t stage reference same is was_open no_data_request hold roles ordered quiet live kind =
    let after : Connection = (ask_for_held (hand_held Zero t).next).next in
    let begins = begins_by_waiting stage input offer reference after kind live in
    continues_by step state s input offer (row outs t then hand_held Zero then ask_for_held then begin_waiting stage reference offer) same is was_open
    (begins.remains_open (subst IsOpen (sym live) tt))
    (subst (λ (down : HoldState). RemainsOpen step (roles_in state s) down input offer (row outs t then hand_held Zero then ask_for_held then begin_waiting stage reference offer)) hold
    (continues_begins step (roles_in state s) t.down input offer (outs ++ map (handing t.serving Zero) t.down.zero ++ request_for t.down.three t.serving) after
    (begin_waiting stage reference offer after).outs (begin_waiting stage reference offer after).next no_data_request roles (orders-changed outs t ∙ ordered) (changed_of_switch input outs t quiet) begins))

no_target : (draining : List Drain) (reference : ℕ) → target_role (Live reference (resting_stage draining)) ≡ None
no_target [] reference = refl
no_target (d ∷ ds) reference = refl

pub resting-roles : (reference : ℕ) (state : State) (s : Connection) →
    roles_of (resting reference s) ≡ after_step reverts (roles_in state s)
resting-roles reference state s = equal_roles (roles_of (resting reference s)) (after_step reverts (roles_in state s)) refl (no_target s.draining reference) refl

-- the target's activation was refused
pub changes_roles_refused : (reference : ℕ) (target : Target) (at : Place) (s : Connection) (offer : Option Channel) → step_by (inputs.ActivationNack at) (roles_in (Live reference (Preparing target)) s) ≡ reverts → s.state ≡ Live reference (Preparing target) →
    ChangesRoles s (inputs.ActivationNack at) offer (row (nack_outs target.change reference) (resting reference s) then begin_waiting (resting_stage s.draining) reference offer)
changes_roles_refused reference target at s offer same is =
    let begins = begins_by_waiting (resting_stage s.draining) (inputs.ActivationNack at) offer reference (resting reference s) refl refl in
    continues_by reverts (Live reference (Preparing target)) s (inputs.ActivationNack at) offer (row (nack_outs target.change reference) (resting reference s) then begin_waiting (resting_stage s.draining) reference offer) same is tt (begins.remains_open tt)
    (continues_begins reverts (roles_in (Live reference (Preparing target)) s) s.down (inputs.ActivationNack at) offer (nack_outs target.change reference) (resting reference s)
    (begin_waiting (resting_stage s.draining) reference offer (resting reference s)).outs (begin_waiting (resting_stage s.draining) reference offer (resting reference s)).next
    tt (resting-roles reference (Live reference (Preparing target)) s) (orders-plain (nack_outs target.change reference) (plain target.change))
    (plain_of_switch s.down (inputs.ActivationNack at) (nack_outs target.change reference) (plain target.change)) begins)
  where
    plain : (change : Change) → ArePlain (nack_outs change reference)
    plain Assignment = (tt, tt)
    plain Handover = tt

-- ---- old channels leave

record LeavesBy (s : Connection) (ds : List Drain) (r : Row) : Type 0 where
  pub state : r.next.state ≡ s.state
  pub serving : r.next.serving ≡ s.serving
  pub draining : r.next.draining ≡ still_draining ds
  pub plain : ArePlain r.outs

leaves_by_leave : (reference : ℕ) (ds : List Drain) (s : Connection) → LeavesBy s ds (leave reference ds s)
leaves_by_leave reference [] s = record { state = refl; serving = refl; draining = refl; plain = tt }
leaves_by_leave reference (d ∷ ds) s =
    let next : Connection = (relay_held reference (shifted ds s)).next in
    let rest = leaves_by_leave reference ds next in
    cond_both d.is_done _ _ (LeavesBy s (d ∷ ds))
    (λ done. record {
      state = rest.state;
      serving = rest.serving;
      draining = rw done rest.draining;
      plain = AllByRecursion-append IsPlain (relay_held reference (shifted ds s)).outs (leave reference ds next).outs
          (are_plain_tenure reference (first_channel ds s.serving) (shifted ds s).up.tenures) rest.plain;
    })
    (λ drains. record { state = refl; serving = refl; draining = rw drains refl; plain = tt })

-- what settled has the same roles
record SettlesBy (reference : ℕ) (stage : Stage) (s rests : Connection) : Type 0 where
  pub state : rests.state ≡ Live reference (settled_stage stage rests.draining)
  pub roles : roles_of rests ≡ record { serving = s.serving; target = target_role (Live reference stage); draining = s.draining }

settles_by_settled : (reference : ℕ) (stage : Stage) (ds : List Drain) (s : Connection) →
    s.draining ≡ ds →
    s.state ≡ Live reference stage →
    SettlesBy reference stage s (settled reference stage ds s)
settles_by_settled reference Draining [] s are is = record { state = rw are refl; roles = refl }
settles_by_settled reference Draining (d ∷ ds) s are is = record { state = rw are is; roles = ap (λ (state : State). roles_in state s) is }
settles_by_settled reference _ ds s are is = record { state = is; roles = ap (λ (state : State). roles_in state s) is }

pub changes_roles_release : (reference : ℕ) (stage : Stage) (place : ℕ) (at : Place) (s : Connection) (offer : Option Channel) →
    drain_at at s.draining ≡ Some place →
    s.state ≡ Live reference stage →
    ChangesRoles s (inputs.ReleaseAck at) offer (release reference stage place offer s)
changes_roles_release reference stage place at s offer found is =
    continues_by (leaves place) (Live reference stage) s (inputs.ReleaseAck at) offer (release reference stage place offer s) (ap leaves_at found) is tt
    (begins.remains_open (subst IsOpen (sym settles.state) tt))
    (continues_begins (leaves place) (roles_in (Live reference stage) s) s.down (inputs.ReleaseAck at) offer (left.outs ++ []) rests
    (begin_waiting (settled_stage stage rests.draining) reference offer rests).outs (begin_waiting (settled_stage stage rests.draining) reference offer rests).next tt
    (settles.roles ∙ equal_roles _ (after_step (leaves place) (roles_in (Live reference stage) s)) leaves_by.serving refl leaves_by.draining)
    (orders-plain (left.outs ++ []) plain) (plain_of_switch s.down (inputs.ReleaseAck at) (left.outs ++ []) plain) begins)
  where
    left : Row
    left = leave reference (done_at place s.draining) s

    rests : Connection
    rests = settled reference stage left.next.draining left.next

    leaves_by : LeavesBy s (done_at place s.draining) left
    leaves_by = leaves_by_leave reference (done_at place s.draining) s

    settles : SettlesBy reference stage left.next rests
    settles = settles_by_settled reference stage left.next.draining left.next refl (leaves_by.state ∙ is)

    begins : BeginsBy (inputs.ReleaseAck at) offer rests (begin_waiting (settled_stage stage rests.draining) reference offer rests).outs (begin_waiting (settled_stage stage rests.draining) reference offer rests).next
    begins = begins_by_waiting (settled_stage stage rests.draining) (inputs.ReleaseAck at) offer reference rests refl settles.state

    plain : ArePlain (left.outs ++ [])
    plain = AllByRecursion-append IsPlain left.outs [] leaves_by.plain tt
