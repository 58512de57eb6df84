-- SPDX-License-Identifier: MIT OR Apache-2.0
-- The owners of channels after a row of the table.
use Rattle.controller_model.proofs.Prelude.{◌≡◌, ◌≢◌, ◌⊎◌, ℕ, Bool, true, false, not, if◌then◌else◌, List, [], ◌∷◌, fold, Option, Some}
use Rattle.controller_model.proofs.Prelude.{None, refl, sym, subst, ap, ◌∙◌, inl, inr, true≢false, cases_Bool, cond-true, cond-false}
use Rattle.controller_model.proofs.Prelude.{AllByRecursion, Change, Assignment, Handover, Channel, Place, Message, Station, Request, Data}
use Rattle.controller_model.proofs.Prelude.{ReleaseComplete, change_activation, rf_channel_release, AllByRecursion-append}
use Rattle.controller_model.proofs.Prelude.{AllByRecursion-filter, Input, Target, Connection, TargetRole, Roles, RoleStep, ChangesRoles}
use Rattle.controller_model.proofs.Prelude.{RemainsOpen, RoleEnd, roles_of, after_step, step_by, step_orders, begin_orders, with_target}
use Rattle.controller_model.proofs.Prelude.{end_messages, those_sent, to_stations, is_order, orders, MayBegin, carries_on, ends, had_ended}
use Rattle.controller_model.proofs.Prelude.{refused, drops, dismisses, unchanged, commands, completes, reverts, leaves, Row, is_for_station, IsOpen}
use Rattle.controller_model.proofs.Prelude.{fold-append, is_to_station, Owns, ChannelState, Free, InUse, Releasing, channels_after}
use Rattle.controller_model.proofs.Prelude.{place_at, place_of, state_in, with_state}
use Rattle.conn_rules.specs.declared.input.Input.TheVariants as inputs
use Rattle.conn_rules.specs.Roles.{Ends}
use Rattle.controller_model.proofs.LifeLaws.Owning.{HasTarget, IsOffered, begin_owns, other_set, own_step}
use Rattle.controller_model.proofs.LifeLaws.Places.{fold_orders, state_else, set_or_not, still_there}
use Rattle.rsl_codec.specs.declared.rsl.Rsl.TheVariants as rsl

abbrev States : Type 0
States = List (List ChannelState)

-- ---- places that a connection may order

-- its own, or a free one
pub data IsMine (m : ℕ) (state : ChannelState) : Type 0 where
  used : state ≡ InUse m → IsMine m state
  releasing : state ≡ Releasing m → IsMine m state
  free : state ≡ Free → IsMine m state

mine_use : (m n : ℕ) (state : ChannelState) → n ≢ m → IsMine m state → state ≢ InUse n
mine_use m n state differ (used is) same = differ (of (sym same ∙ is))
  where
    of : InUse n ≡ InUse m → n ≡ m
    of is = cc
mine_use m n state differ (releasing is) same = let both : Releasing m ≡ InUse n = sym is ∙ same in absurd cc
mine_use m n state differ (free is) same = let both : Free ≡ InUse n = sym is ∙ same in absurd cc

mine_release : (m n : ℕ) (state : ChannelState) → n ≢ m → IsMine m state → state ≢ Releasing n
mine_release m n state differ (used is) same = let both : InUse m ≡ Releasing n = sym is ∙ same in absurd cc
mine_release m n state differ (releasing is) same = differ (of (sym same ∙ is))
  where
    of : Releasing n ≡ Releasing m → n ≡ m
    of is = cc
mine_release m n state differ (free is) same = let both : Free ≡ Releasing n = sym is ∙ same in absurd cc

unfoldable pub IsMineOrder : ℕ → States → Message → Type 0
IsMineOrder m channels (Station station (rsl.ChannelActivation a)) = IsMine m (state_in channels (place_at station a.channel))
IsMineOrder m channels (Station station (rsl.RfChannelRelease channel)) = IsMine m (state_in channels (place_at station channel))
IsMineOrder m channels _ = Unit {0}

-- it remains so, whatever of its own is set
mine_set : (m : ℕ) (channels : States) (at other : Place) (state : ChannelState) →
    IsMine m state →
    IsMine m (state_in channels other) →
    IsMine m (state_in (with_state at state channels) other)
mine_set m channels at other state now was = elim (set_or_not channels at other state) [
  | inl hit ↦ subst (IsMine m) (sym hit) now
  | inr same ↦ subst (IsMine m) (sym same) was
]

order_after : (m : ℕ) (channels : States) (at : Place) (state : ChannelState) (message : Message) →
    IsMine m state →
    IsMineOrder m channels message →
    IsMineOrder m (with_state at state channels) message
unfolding IsMineOrder
order_after m channels at state (Station station (rsl.ChannelActivation a)) now was = mine_set m channels at (place_at station a.channel) state now was
order_after m channels at state (Station station (rsl.RfChannelRelease channel)) now was = mine_set m channels at (place_at station channel) state now was
order_after m channels at state _ now was = tt

pub orders_after : (m : ℕ) (channels : States) (at : Place) (state : ChannelState) (ms : List Message) →
    IsMine m state →
    AllByRecursion (IsMineOrder m channels) ms →
    AllByRecursion (IsMineOrder m (with_state at state channels)) ms
orders_after m channels at state [] now all = tt
orders_after m channels at state (message ∷ ms) now all = (order_after m channels at state message now all.0, orders_after m channels at state ms now all.1)

-- another's channels
pub others_fold : (m n : ℕ) (links : List Bool) (roles : Roles) (channels : States) (ms : List Message) →
    n ≢ m →
    AllByRecursion (IsMineOrder m channels) ms →
    Owns channels links n roles →
    Owns (fold (channels_after m) channels ms) links n roles
unfolding IsMineOrder
others_fold m n links roles channels [] differ mine owns = owns
others_fold m n links roles channels (Station station (rsl.ChannelActivation a) ∷ ms) differ mine owns =
    let at : Place = place_at station a.channel in
    others_fold m n links roles (with_state at (InUse m) channels) ms differ (orders_after m channels at (InUse m) ms (used refl) mine.1)
    (other_set channels links n roles at (InUse m) (mine_use m n (state_in channels at) differ mine.0) (mine_release m n (state_in channels at) differ mine.0) owns)
others_fold m n links roles channels (Station station (rsl.RfChannelRelease channel) ∷ ms) differ mine owns =
    let at : Place = place_at station channel in
    others_fold m n links roles (with_state at (Releasing m) channels) ms differ (orders_after m channels at (Releasing m) ms (releasing refl) mine.1)
    (other_set channels links n roles at (Releasing m) (mine_use m n (state_in channels at) differ mine.0) (mine_release m n (state_in channels at) differ mine.0) owns)
others_fold m n links roles channels (Station station _ ∷ ms) differ mine owns = others_fold m n links roles channels ms differ mine.1 owns
others_fold m n links roles channels (Request message ∷ ms) differ mine owns = others_fold m n links roles channels ms differ mine.1 owns
others_fold m n links roles channels (Data destination message ∷ ms) differ mine owns = others_fold m n links roles channels ms differ mine.1 owns
others_fold m n links roles channels (ReleaseComplete destination ∷ ms) differ mine owns = others_fold m n links roles channels ms differ mine.1 owns

-- ---- the orders of a row are its own

all_of_sent : (P : Message → Type 0) (input : Input) (ms : List Message) → AllByRecursion P ms → AllByRecursion P (those_sent input ms)
all_of_sent P (inputs.StationDown station) ms all = AllByRecursion-filter P (λ message. not (is_for_station station message)) ms all
all_of_sent P _ ms all = all

-- all orders go to stations
order_station : (m : Message) → is_order m ≡ true → is_to_station m ≡ true
order_station (Station station message) is = refl
order_station _ is = absurd (true≢false (sym is))

orders_to_stations : (ms : List Message) → orders (to_stations ms) ≡ orders ms
orders_to_stations [] = refl
orders_to_stations (m ∷ ms) = elim (cases_Bool (is_to_station m)) [
  | inl hit ↦ ap orders (cond-true _ (m ∷ to_stations ms) (to_stations ms) hit) ∙ step (is_order m) (orders_to_stations ms)
  | inr miss ↦ ap orders (cond-false _ (m ∷ to_stations ms) (to_stations ms) miss) ∙ orders_to_stations ms
      ∙ sym (cond-false _ (m ∷ orders ms) (orders ms) (none (is_order m) refl miss))
]
  where
    step : (b : Bool) →
        orders (to_stations ms) ≡ orders ms →
        (if b then m ∷ orders (to_stations ms) else orders (to_stations ms)) ≡ (if b then m ∷ orders ms else orders ms)
    step true is = ap (λ (xs : List Message). m ∷ xs) is
    step false is = is

    none : (b : Bool) → is_order m ≡ b → is_to_station m ≡ false → is_order m ≡ false
    none true is miss = absurd (true≢false (sym (order_station m is) ∙ miss))
    none false is miss = is

mine_release_of : (m : ℕ) (channels : States) (c : Channel) →
    state_in channels (place_of c) ≡ InUse m →
    IsMineOrder m channels (rf_channel_release c)
unfolding IsMineOrder
mine_release_of m channels c is = used is

mine_activation : (m : ℕ) (channels : States) (change : Change) (c : Channel) →
    state_in channels (place_of c) ≡ Free →
    IsMineOrder m channels (change_activation change c)
unfolding IsMineOrder
mine_activation m channels Assignment c is = free is
mine_activation m channels Handover c is = free is

mine_step : (m : ℕ) (channels : States) (step : RoleStep) (roles : Roles) (target : Option TargetRole) (links : List Bool) →
    Owns channels links m (record roles { target = target }) →
    AllByRecursion (IsMineOrder m channels) (step_orders step (record roles { target = target }))
mine_step m channels unchanged roles target links owns = tt
mine_step m channels commands roles target links owns = tt
mine_step m channels completes roles target links owns = (mine_release_of m channels roles.serving owns.using.0, tt)
mine_step m channels reverts roles None links owns = tt
mine_step m channels reverts roles (Some t) links owns = by t.is_commanded
  where
    by : (b : Bool) → AllByRecursion (IsMineOrder m channels) (if b then rf_channel_release t.target.channel ∷ [] else [])
    by true = (mine_release_of m channels t.target.channel owns.using.1.0, tt)
    by false = tt
mine_step m channels (leaves place) roles target links owns = tt

mine_begin : (m : ℕ) (channels : States) (links : List Bool) (begun : Option Target) →
    ((t : Target) → begun ≡ Some t → IsOffered channels links t.channel) →
    AllByRecursion (IsMineOrder m channels) (begin_orders begun)
mine_begin m channels links None offered = tt
mine_begin m channels links (Some t) offered = (mine_activation m channels t.change t.channel (offered t refl).is_free, tt)

mine_end : (m : ℕ) (channels : States) (links : List Bool) (end : RoleEnd) (roles : Roles) (target : Option TargetRole) →
    Owns channels links m (record roles { target = target }) →
    AllByRecursion (IsMineOrder m channels) (end_messages end (record roles { target = target }))
unfolding IsMineOrder
mine_end m channels links refused roles target owns = tt
mine_end m channels links drops roles target owns = (used owns.using.0, tt)
mine_end m channels links (dismisses cause) roles None owns = (tt, (used owns.using.0, tt))
mine_end m channels links (dismisses cause) roles (Some t) owns = (tt, (used owns.using.0, (used owns.using.1.0, tt)))

-- ---- what is offered remains so

offered_after : (m : ℕ) (channels : States) (links : List Bool) (c owned : Channel) (state : ChannelState) →
    state_in channels (place_of owned) ≢ Free →
    IsOffered channels links c →
    IsOffered (with_state (place_of owned) state channels) links c
offered_after m channels links c owned state used_one offered =
    let differ : place_of c ≢ place_of owned = λ same. used_one (ap (state_in channels) (sym same) ∙ offered.is_free) in
    record { is_free = state_else channels (place_of owned) (place_of c) state differ ∙ offered.is_free; is_in = still_there channels (place_of owned) (place_of c) state offered.is_in; is_up = offered.is_up }

in_use_used : (channels : States) (at : Place) (m : ℕ) → state_in channels at ≡ InUse m → state_in channels at ≢ Free
in_use_used channels at m is same = let both : InUse m ≡ Free = sym is ∙ same in absurd cc

offered_step : (m : ℕ) (channels : States) (links : List Bool) (step : RoleStep) (roles : Roles) (target : Option TargetRole) (c : Channel) →
    Owns channels links m (record roles { target = target }) →
    IsOffered channels links c →
    IsOffered (fold (channels_after m) channels (step_orders step (record roles { target = target }))) links c
offered_step m channels links unchanged roles target c owns offered = offered
offered_step m channels links commands roles target c owns offered = offered
offered_step m channels links completes roles target c owns offered = offered_after m channels links c roles.serving (Releasing m) (in_use_used channels (place_of roles.serving) m owns.using.0) offered
offered_step m channels links reverts roles None c owns offered = offered
offered_step m channels links reverts roles (Some t) c owns offered = by t.is_commanded
  where
    by : (b : Bool) → IsOffered (fold (channels_after m) channels (if b then rf_channel_release t.target.channel ∷ [] else [])) links c
    by true = offered_after m channels links c t.target.channel (Releasing m) (in_use_used channels (place_of t.target.channel) m owns.using.1.0) offered
    by false = offered
offered_step m channels links (leaves place) roles target c owns offered = offered

-- ---- its own channels, after the step and then perhaps a beginning

-- what the step of a row leaves: its roles are owned, and orders are its own
pub record StepOwns (m : ℕ) (channels : States) (links : List Bool) (step : RoleStep) (roles : Roles) : Type 0 where
  pub owns : Owns (fold (channels_after m) channels (step_orders step roles)) links m (after_step step roles)
  pub mine : AllByRecursion (IsMineOrder m channels) (step_orders step roles)
  pub offered : (c : Channel) → IsOffered channels links c → IsOffered (fold (channels_after m) channels (step_orders step roles)) links c

pub step_owns : (m : ℕ) (channels : States) (links : List Bool) (step : RoleStep) (roles : Roles) →
    HasTarget step roles.target →
    Owns channels links m roles →
    StepOwns m channels links step roles
step_owns m channels links step roles has owns = record {
  owns = own_step channels links m step roles roles.target has owns;
  mine = mine_step m channels step roles roles.target links owns;
  offered = λ c. offered_step m channels links step roles roles.target c owns;
}

-- where it orders nothing
pub silent_owns : (m : ℕ) (channels : States) (links : List Bool) (step : RoleStep) (roles : Roles) →
    step_orders step roles ≡ [] →
    Owns channels links m (after_step step roles) →
    StepOwns m channels links step roles
silent_owns m channels links step roles none owns = record {
  owns = subst (λ (ms : List Message). Owns (fold (channels_after m) channels ms) links m (after_step step roles)) (sym none) owns;
  mine = subst (AllByRecursion (IsMineOrder m channels)) (sym none) tt;
  offered = λ c offered. subst (λ (ms : List Message). IsOffered (fold (channels_after m) channels ms) links c) (sym none) offered;
}

begun_owns : (m : ℕ) (channels : States) (links : List Bool) (begun : Option Target) (input : Input) (offer : Option Channel) (roles : Roles) →
    MayBegin begun input offer roles →
    ((t : Target) → begun ≡ Some t → IsOffered channels links t.channel) →
    Owns channels links m roles →
    Owns (fold (channels_after m) channels (begin_orders begun)) links m (with_target begun roles)
begun_owns m channels links None input offer roles may offered owns = owns
begun_owns m channels links (Some target) input offer roles may offered owns = of target.change refl
  where
    of : (change : Change) →
        target.change ≡ change →
        Owns (fold (channels_after m) channels (change_activation target.change target.channel ∷ [])) links m (with_target (Some target) roles)
    of Assignment is = subst (λ (change : Change). Owns (fold (channels_after m) channels (change_activation change target.channel ∷ [])) links m (with_target (Some target) roles)) (sym is) (begin_owns channels links m target input offer roles may (offered target refl) owns)
    of Handover is = subst (λ (change : Change). Owns (fold (channels_after m) channels (change_activation change target.channel ∷ [])) links m (with_target (Some target) roles)) (sym is) (begin_owns channels links m target input offer roles may (offered target refl) owns)

begun_offer : (begun : Option Target) (input : Input) (offer : Option Channel) (roles : Roles) (t : Target) →
    MayBegin begun input offer roles →
    begun ≡ Some t →
    offer ≡ Some t.channel
begun_offer None input offer roles t may is = absurd cc
begun_offer (Some target) input offer roles t may is = let same : target ≡ t = of is in may.1 ∙ ap (λ (u : Target). Some u.channel) same
  where
    of : (let o : Option Target = Some target in o) ≡ Some t → target ≡ t
    of is = cc

-- a row after which the connection remains open
pub row_owns : (m : ℕ) (channels : States) (links : List Bool) (s : Connection) (input : Input) (offer : Option Channel) (r : Row) → RemainsOpen (step_by input (roles_of s)) (roles_of s) s.down input offer r → StepOwns m channels links (step_by input (roles_of s)) (roles_of s) → ((c : Channel) → offer ≡ Some c → IsOffered channels links c) →
    Owns (fold (channels_after m) channels r.outs) links m (roles_of r.next)
row_owns m channels links s input offer r on steps offers =
    let step : RoleStep = step_by input (roles_of s) in
    let mid : States = fold (channels_after m) channels (step_orders step (roles_of s)) in
    let all : fold (channels_after m) channels r.outs ≡ fold (channels_after m) mid (begin_orders on.begun) =
    fold_orders m channels r.outs ∙ ap (fold (channels_after m) channels) on.ordered ∙ fold-append (channels_after m) channels (step_orders step (roles_of s)) (begin_orders on.begun) in
    subst (λ (now : States). Owns now links m (roles_of r.next)) (sym all)
    (subst (Owns (fold (channels_after m) mid (begin_orders on.begun)) links m) (sym on.roles)
    (begun_owns m mid links on.begun input offer (after_step step (roles_of s)) on.may
    (λ t is. steps.offered t.channel (offers t.channel (begun_offer on.begun input offer (after_step step (roles_of s)) t on.may is))) steps.owns))

-- others keep theirs
pub row_others : (m n : ℕ) (channels : States) (links : List Bool) (s : Connection) (input : Input) (offer : Option Channel) (r : Row) (roles : Roles) → n ≢ m → ChangesRoles s input offer r → (IsOpen s.state → IsOpen r.next.state → StepOwns m channels links (step_by input (roles_of s)) (roles_of s)) →
    (IsOpen s.state → (IsOpen r.next.state → ⊥) → ((end : RoleEnd) → Ends (roles_of s) input r → AllByRecursion (IsMineOrder m channels) (end_messages end (roles_of s)) ⊎ (end ≡ refused))) → (IsOpen r.next.state → (c : Channel) → offer ≡ Some c → IsOffered channels links c) → Owns channels links n roles →
    Owns (fold (channels_after m) channels r.outs) links n roles
row_others m n channels links s input offer r roles differ (carries_on was_open is_open on) steps shut offers owns =
    let by = steps was_open is_open in
    subst (λ (now : States). Owns now links n roles) (sym (fold_orders m channels r.outs))
    (others_fold m n links roles channels (orders r.outs) differ
    (subst (AllByRecursion (IsMineOrder m channels)) (sym on.ordered) (AllByRecursion-append (IsMineOrder m channels) (step_orders (step_by input (roles_of s)) (roles_of s)) (begin_orders on.begun) by.mine
    (mine_begin m channels links on.begun (λ t is. offers is_open t.channel (begun_offer on.begun input offer (after_step (step_by input (roles_of s)) (roles_of s)) t on.may is))))) owns)
row_others m n channels links s input offer r roles differ (ends was_open is_shut over) steps shut offers owns =
    let mine : AllByRecursion (IsMineOrder m channels) (end_messages over.end (roles_of s)) = elim (shut was_open is_shut over.end over) [
      | inl mine ↦ mine
      | inr is ↦ subst (λ (end : RoleEnd). AllByRecursion (IsMineOrder m channels) (end_messages end (roles_of s))) (sym is) tt
    ] in
    subst (λ (now : States). Owns now links n roles) (sym (fold_orders m channels r.outs ∙ ap (fold (channels_after m) channels) (sym (orders_to_stations r.outs))))
    (others_fold m n links roles channels (orders (to_stations r.outs)) differ
    (AllByRecursion-filter (IsMineOrder m channels) is_order (to_stations r.outs) (subst (AllByRecursion (IsMineOrder m channels)) (sym over.ordered) (all_of_sent (IsMineOrder m channels) input (end_messages over.end (roles_of s)) mine))) owns)
row_others m n channels links s input offer r roles differ (had_ended was_shut is_shut nothing) steps shut offers owns =
    subst (λ (now : States). Owns now links n roles) (sym (fold_orders m channels r.outs ∙ ap (fold (channels_after m) channels) (sym (orders_to_stations r.outs) ∙ ap orders nothing))) owns

pub ends_mine : (m : ℕ) (channels : States) (links : List Bool) (roles : Roles) (end : RoleEnd) →
    Owns channels links m roles →
    AllByRecursion (IsMineOrder m channels) (end_messages end roles)
ends_mine m channels links roles end owns = mine_end m channels links end roles roles.target owns
