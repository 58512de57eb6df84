-- SPDX-License-Identifier: MIT OR Apache-2.0
-- The channels in use after a row of the table.
use Rattle.controller_model.proofs.Prelude.{◌≡◌, ◌≢◌, ◌⊎◌, ℕ, zero, suc, ◌==◌, ◌<◌, ◌≤◌, ◌&&◌, Bool, true, false, if◌then◌else◌, List, []}
use Rattle.controller_model.proofs.Prelude.{◌∷◌, ◌++◌, fold, filter, map, Contains, Option, Some, None, option_map, refl, sym, subst, ap}
use Rattle.controller_model.proofs.Prelude.{◌∙◌, inl, inr, arith, true≢false, cases_Bool, eqb-true, eq-eqb, and_parts, AllByRecursion}
use Rattle.controller_model.proofs.Prelude.{Change, Assignment, Handover, Channel, Place, Message, Station, SWITCH_LINK, change_activation}
use Rattle.controller_model.proofs.Prelude.{rf_channel_release, Input, State, Closed, Removed, Target, Connection, TargetRole, Roles}
use Rattle.controller_model.proofs.Prelude.{RoleStep, RoleEnd, ChangesRoles, roles_of, after_step, step_by, step_orders, begin_orders}
use Rattle.controller_model.proofs.Prelude.{with_target, end_messages, target_channels, those_sent, is_order, channels_in}
use Rattle.controller_model.proofs.Prelude.{channels_in_use, carries_on, ends, had_ended, refused, drops, dismisses, unchanged, commands}
use Rattle.controller_model.proofs.Prelude.{completes, reverts, leaves, Row, IsOpen, OfRow, KeepsAccount-by, IsGivenUp, is_to_station}
use Rattle.controller_model.proofs.Prelude.{row_of, kept, kept_in, connection_of, AreRising, is_link_up, used_places, ChannelState, Free}
use Rattle.controller_model.proofs.Prelude.{InUse, Releasing, Controller, Entry, channels_after, entry_of, place_at, place_of, state_in}
use Rattle.controller_model.proofs.Prelude.{with_state, by_row, entry_after}
use Rattle.std.proofs.lemmas.List.Elements.{Contains-push, Contains-append_left, Contains-append_right, Contains-append_cases}
use Rattle.conn_rules.specs.declared.input.Input.TheVariants as inputs
use Rattle.conn_rules.specs.Roles.IsGivenUp.{released, broke, not_activated}
use Rattle.controller_model.proofs.LifeLaws.Acting.{row_found}
use Rattle.controller_model.proofs.LifeLaws.Entries.{back_over}
use Rattle.controller_model.proofs.LifeLaws.Places.{all_at, is_there, set_or_not, state_else, state_here, use_other, release_other, use≢release, release≢use, free≢use}
use Rattle.controller_model.proofs.LifeLaws.Reaching.{Reaches}
use Rattle.controller_model.proofs.LifeLaws.Words.{decide_same}
use Rattle.controller_model.proofs.Numbers.{keeps_number}
use Rattle.rsl_codec.specs.declared.rsl.Rsl.TheVariants as rsl

abbrev States : Type 0
States = List (List ChannelState)

-- ---- stations whose link is up

abbrev pub IsAlive : List Bool → ℕ → Type 0
IsAlive links station = (is_link_up links station ≡ true) × (station ≢ SWITCH_LINK)

pub alive_or : (links : List Bool) (station : ℕ) → IsAlive links station ⊎ (IsAlive links station → ⊥)
alive_or links station = elim (cases_Bool (is_link_up links station)) [
  | inr down ↦ inr (λ alive. true≢false (sym alive.0 ∙ down))
  | inl up ↦ elim (cases_Bool (station == SWITCH_LINK)) [
    | inl switch ↦ inr (λ alive. alive.1 (eqb-true station SWITCH_LINK switch))
    | inr other ↦ inl (up, λ same. true≢false (sym (eq-eqb station SWITCH_LINK same) ∙ other))
  ]
]

-- ---- lists

pub all_contained : {A : Type 0} (P : A → Type 0) (xs : List A) (x : A) → AllByRecursion P xs → Contains xs x → P x
all_contained P xs x all there = subst P there.2 (all_at P xs there.0 x there.1 all)

pub contains_none : {A : Type 0} (x : A) → Contains [] x → ⊥
contains_none x there = let short = there.1 in omega arith

contains_one : {A : Type 0} (x y : A) → Contains (x ∷ []) y → x ≡ y
contains_one x y (zero, short, is) = is
contains_one x y (suc k, short, is) = absurd (omega arith)

pub contains_first : {A : Type 0} (x : A) (xs : List A) → Contains (x ∷ xs) x
contains_first x xs = Contains-append_left (x ∷ []) xs x (Contains-push [] x)

pub contains_behind : {A : Type 0} (x y : A) (xs : List A) → Contains xs y → Contains (x ∷ xs) y
contains_behind x y xs there = Contains-append_right (x ∷ []) xs y there

contains_cases : {A : Type 0} (x y : A) (xs : List A) → Contains (x ∷ xs) y → (x ≡ y) ⊎ Contains xs y
contains_cases x y xs there = elim (Contains-append_cases (x ∷ []) xs y there) [
  | inl at_first ↦ inl (contains_one x y at_first)
  | inr behind ↦ inr behind
]

pub mapped : {A B : Type 0} (f : A → B) (xs : List A) (y : B) → Contains (map f xs) y → (x : A) × Contains xs x × (f x ≡ y)
mapped f [] y there = absurd (contains_none y there)
mapped f (x ∷ xs) y there = elim (contains_cases (f x) y (map f xs) there) [
  | inl same ↦ (x, contains_first x xs, same)
  | inr behind ↦ let rest = mapped f xs y behind in (rest.0, contains_behind x rest.0 xs rest.1, rest.2)
]

pub in_map : {A B : Type 0} (f : A → B) (xs : List A) (x : A) → Contains xs x → Contains (map f xs) (f x)
in_map f [] x there = absurd (contains_none x there)
in_map f (y ∷ xs) x there = elim (contains_cases y x xs there) [
  | inl same ↦ subst (λ z. Contains (f y ∷ map f xs) (f z)) same (contains_first (f y) (map f xs))
  | inr behind ↦ contains_behind (f y) (f x) (map f xs) (in_map f xs x behind)
]

-- ---- what orders make of one channel

same_or : (at other : Place) → (other ≡ at) ⊎ (other ≢ at)
same_or at other = elim (cases_Bool ((other.station == at.station) && (other.number == at.number))) [
  | inl hit ↦
      let parts = and_parts (other.station == at.station) (other.number == at.number) hit in
      inl (ap (λ (n : ℕ). record other { station = n }) (eqb-true other.station at.station parts.0) ∙ ap (λ (n : ℕ). record at { number = n }) (eqb-true other.number at.number parts.1))
  | inr miss ↦ inr (λ same. absurd (true≢false (sym (ap (λ (b : Bool). b && (other.number == at.number)) (eq-eqb other.station at.station (ap (λ (p : Place). p.station) same)) ∙ eq-eqb other.number at.number (ap (λ (p : Place). p.number) same)) ∙ miss)))
]

-- it is to be activated there
abbrev pub TakesAt : Place → Message → Type 0
TakesAt at (Station station (rsl.ChannelActivation a)) = place_at station a.channel ≡ at
TakesAt at _ = ⊥

abbrev pub AnyTakes : Place → List Message → Type 0
AnyTakes at [] = ⊥
AnyTakes at (m ∷ ms) = TakesAt at m ⊎ AnyTakes at ms

-- it isn't to be released there
abbrev pub Spares : Place → Message → Type 0
Spares at (Station station (rsl.RfChannelRelease channel)) = place_at station channel ≢ at
Spares at _ = Unit {0}

pub take_use : (m n : ℕ) (p at : Place) (channels : States) →
    state_in (with_state p (InUse m) channels) at ≡ InUse n →
    ((n ≡ m) × (p ≡ at)) ⊎ ((state_in channels at ≡ InUse n) × Unit {0})
take_use m n p at channels is = elim (same_or p at) [
  | inl same ↦ elim (set_or_not channels p at (InUse m)) [
    | inl hit ↦ inl (sym (use_other m n (sym hit ∙ is)), sym same)
    | inr kept ↦ inr (sym kept ∙ is, tt)
  ]
  | inr differ ↦ inr (sym (state_else channels p at (InUse m) differ) ∙ is, tt)
]

give_use : (m n : ℕ) (p at : Place) (channels : States) →
    state_in (with_state p (Releasing m) channels) at ≡ InUse n →
    ((n ≡ m) × ⊥) ⊎ ((state_in channels at ≡ InUse n) × (p ≢ at))
give_use m n p at channels is = elim (set_or_not channels p at (Releasing m)) [
  | inl hit ↦ absurd (release≢use m n (sym hit ∙ is))
  | inr kept ↦
      let was : state_in channels at ≡ InUse n = sym kept ∙ is in
      inr (
        was,
        λ same.
            let there = is_there channels at (λ free. free≢use n (sym free ∙ was)) in
            release≢use m n (sym (subst (λ (q : Place). state_in (with_state q (Releasing m) channels) at ≡ Releasing m) (sym same) (state_here channels at (Releasing m) there)) ∙ is),
      )
]

message_use : (m n : ℕ) (at : Place) (channels : States) (message : Message) →
    state_in (channels_after m channels message) at ≡ InUse n →
    ((n ≡ m) × TakesAt at message) ⊎ ((state_in channels at ≡ InUse n) × Spares at message)
message_use m n at channels (Station station (rsl.ChannelActivation a)) is = take_use m n (place_at station a.channel) at channels is
message_use m n at channels (Station station (rsl.RfChannelRelease channel)) is = give_use m n (place_at station channel) at channels is
message_use m n at channels _ is = inr (is, tt)

pub fold_use : (m n : ℕ) (at : Place) (channels : States) (ms : List Message) →
    state_in (fold (channels_after m) channels ms) at ≡ InUse n →
    ((n ≡ m) × AnyTakes at ms) ⊎ ((state_in channels at ≡ InUse n) × AllByRecursion (Spares at) ms)
fold_use m n at channels [] is = inr (is, tt)
fold_use m n at channels (x ∷ xs) is = elim (fold_use m n at (channels_after m channels x) xs is) [
  | inl takes ↦ inl (takes.0, inr takes.1)
  | inr kept ↦ elim (message_use m n at channels x kept.0) [
    | inl takes ↦ inl (takes.0, inl takes.1)
    | inr was ↦ inr (was.0, (was.1, kept.1))
  ]
]

set_release : (m n : ℕ) (p at : Place) (channels : States) →
    state_in (with_state p (Releasing m) channels) at ≡ Releasing n →
    (n ≡ m) ⊎ (state_in channels at ≡ Releasing n)
set_release m n p at channels is = elim (set_or_not channels p at (Releasing m)) [
  | inl hit ↦ inl (sym (release_other m n (sym hit ∙ is)))
  | inr kept ↦ inr (sym kept ∙ is)
]

pub set_use : (m n : ℕ) (p at : Place) (channels : States) →
    state_in (with_state p (InUse m) channels) at ≡ Releasing n →
    state_in channels at ≡ Releasing n
set_use m n p at channels is = elim (set_or_not channels p at (InUse m)) [
  | inl hit ↦ absurd (use≢release m n (sym hit ∙ is))
  | inr kept ↦ sym kept ∙ is
]

pub fold_release : (m n : ℕ) (at : Place) (channels : States) (ms : List Message) →
    state_in (fold (channels_after m) channels ms) at ≡ Releasing n →
    (n ≡ m) ⊎ (state_in channels at ≡ Releasing n)
fold_release m n at channels [] is = inr is
fold_release m n at channels (x ∷ xs) is = elim (fold_release m n at (channels_after m channels x) xs is) [
  | inl own ↦ inl own
  | inr was ↦ of x was
]
  where
    of : (x : Message) → state_in (channels_after m channels x) at ≡ Releasing n → (n ≡ m) ⊎ (state_in channels at ≡ Releasing n)
    of (Station station (rsl.ChannelActivation a)) was = inr (set_use m n (place_at station a.channel) at channels was)
    of (Station station (rsl.RfChannelRelease channel)) was = set_release m n (place_at station channel) at channels was
    of _ was = inr was

-- no order is sent to its station
fold_else : (P : ℕ → Type 0) (m : ℕ) (at : Place) (channels : States) (ms : List Message) →
    (P at.station → ⊥) →
    AllByRecursion (Reaches P) ms →
    state_in (fold (channels_after m) channels ms) at ≡ state_in channels at
fold_else P m at channels [] never all = refl
fold_else P m at channels (x ∷ xs) never all = fold_else P m at (channels_after m channels x) xs never all.1 ∙ of x all.0
  where
    of : (x : Message) → Reaches P x → state_in (channels_after m channels x) at ≡ state_in channels at
    of (Station station (rsl.ChannelActivation a)) here = state_else channels (place_at station a.channel) at (InUse m) (λ same. never (subst P (ap (λ (p : Place). p.station) (sym same)) here))
    of (Station station (rsl.RfChannelRelease channel)) here = state_else channels (place_at station channel) at (Releasing m) (λ same. never (subst P (ap (λ (p : Place). p.station) (sym same)) here))
    of _ here = refl

-- ---- what a row takes

any_kept : (test : Message → Bool) (at : Place) (ms : List Message) →
    ((m : Message) → TakesAt at m → test m ≡ true) →
    AnyTakes at ms →
    AnyTakes at (filter test ms)
any_kept test at [] passes takes = takes
any_kept test at (m ∷ ms) passes takes = by (test m) refl (any_kept test at ms passes) takes
  where
    by : (b : Bool) →
        test m ≡ b →
        (AnyTakes at ms → AnyTakes at (filter test ms)) →
        TakesAt at m ⊎ AnyTakes at ms →
        AnyTakes at (if b then m ∷ filter test ms else filter test ms)
    by true is rest (inl here) = inl here
    by true is rest (inr behind) = inr (rest behind)
    by false is rest (inl here) = absurd (true≢false (sym (passes m here) ∙ is))
    by false is rest (inr behind) = rest behind

any_filtered : (test : Message → Bool) (at : Place) (ms : List Message) → AnyTakes at (filter test ms) → AnyTakes at ms
any_filtered test at [] takes = takes
any_filtered test at (m ∷ ms) takes = by (test m) (any_filtered test at ms) takes
  where
    by : (b : Bool) →
        (AnyTakes at (filter test ms) → AnyTakes at ms) →
        AnyTakes at (if b then m ∷ filter test ms else filter test ms) →
        TakesAt at m ⊎ AnyTakes at ms
    by true rest (inl here) = inl here
    by true rest (inr behind) = inr (rest behind)
    by false rest takes = inr (rest takes)

any_parts : (at : Place) (xs ys : List Message) → AnyTakes at (xs ++ ys) → AnyTakes at xs ⊎ AnyTakes at ys
any_parts at [] ys takes = inr takes
any_parts at (x ∷ xs) ys (inl here) = inl (inl here)
any_parts at (x ∷ xs) ys (inr behind) = elim (any_parts at xs ys behind) [
  | inl front ↦ inl (inr front)
  | inr rest ↦ inr rest
]

takes_order : (at : Place) (m : Message) → TakesAt at m → is_order m ≡ true
takes_order at (Station station (rsl.ChannelActivation a)) takes = refl
takes_order at _ takes = absurd takes

takes_station : (at : Place) (m : Message) → TakesAt at m → is_to_station m ≡ true
takes_station at (Station station message) takes = refl
takes_station at _ takes = absurd takes

none_alone : (at : Place) → ⊥ ⊎ ⊥ → ⊥
none_alone at (inl here) = here
none_alone at (inr there) = there

step_takes : (at : Place) (step : RoleStep) (roles : Roles) (target : Option TargetRole) →
    AnyTakes at (step_orders step (record roles { target = target })) →
    ⊥
step_takes at unchanged roles target takes = takes
step_takes at commands roles target takes = takes
step_takes at completes roles target takes = none_alone at takes
step_takes at reverts roles None takes = takes
step_takes at reverts roles (Some t) takes = by t.is_commanded takes
  where
    by : (b : Bool) → AnyTakes at (if b then rf_channel_release t.target.channel ∷ [] else []) → ⊥
    by true takes = none_alone at takes
    by false takes = takes
step_takes at (leaves place) roles target takes = takes

begin_takes : (at : Place) (begun : Option Target) →
    AnyTakes at (begin_orders begun) →
    (t : Target) × (begun ≡ Some t) × (place_of t.channel ≡ at)
begin_takes at None takes = absurd takes
begin_takes at (Some target) takes = (target, refl, by target.change takes)
  where
    by : (change : Change) → AnyTakes at (change_activation change target.channel ∷ []) → place_of target.channel ≡ at
    by Assignment (inl here) = here
    by Assignment (inr none) = absurd none
    by Handover (inl here) = here
    by Handover (inr none) = absurd none

end_takes : (at : Place) (end : RoleEnd) (roles : Roles) (target : Option TargetRole) →
    AnyTakes at (end_messages end (record roles { target = target })) →
    ⊥
end_takes at refused roles target takes = takes
end_takes at drops roles target takes = none_alone at takes
end_takes at (dismisses cause) roles None takes = of takes
  where
    of : ⊥ ⊎ (⊥ ⊎ ⊥) → ⊥
    of (inl here) = here
    of (inr rest) = none_alone at rest
end_takes at (dismisses cause) roles (Some t) takes = of takes
  where
    of : ⊥ ⊎ (⊥ ⊎ (⊥ ⊎ ⊥)) → ⊥
    of (inl here) = here
    of (inr (inl here)) = here
    of (inr (inr rest)) = none_alone at rest

sent_takes : (at : Place) (input : Input) (ms : List Message) → AnyTakes at (those_sent input ms) → AnyTakes at ms
sent_takes at (inputs.StationDown station) ms takes = any_filtered _ at ms takes
sent_takes at _ ms takes = takes

open_channels : (state : State) (roles : Roles) → IsOpen state → channels_in state roles ≡ roles.serving ∷ target_channels roles.target
open_channels (Closed clearing) roles is_open = absurd is_open
open_channels Removed roles is_open = absurd is_open
open_channels _ roles is_open = refl

-- a channel that is to be activated is the target
row_takes : (at : Place) (s : Connection) (input : Input) (offer : Option Channel) (r : Row) →
    ChangesRoles s input offer r →
    AnyTakes at r.outs →
    Contains (map place_of (channels_in_use r.next)) at
row_takes at s input offer r (carries_on was_open is_open on) takes =
    let step : RoleStep = step_by input (roles_of s) in
    let ordered : AnyTakes at (step_orders step (roles_of s) ++ begin_orders on.begun) = subst (AnyTakes at) on.ordered (any_kept is_order at r.outs (takes_order at) takes) in
    elim (any_parts at (step_orders step (roles_of s)) (begin_orders on.begun) ordered) [
      | inl front ↦ absurd (step_takes at step (roles_of s) (roles_of s).target front)
      | inr behind ↦
          let begun = begin_takes at on.begun behind in
          let roles : roles_of r.next ≡ with_target (Some begun.0) (after_step step (roles_of s)) = on.roles ∙ ap (λ (o : Option Target). with_target o (after_step step (roles_of s))) begun.1 in
          subst (λ (cs : List Channel). Contains (map place_of cs) at) (sym (open_channels r.next.state (roles_of r.next) is_open))
          (subst (λ (now : Roles). Contains (map place_of (now.serving ∷ target_channels now.target)) at) (sym roles)
          (subst (λ (p : Place). Contains (place_of (after_step step (roles_of s)).serving ∷ place_of begun.0.channel ∷ []) p) begun.2
          (contains_behind (place_of (after_step step (roles_of s)).serving) (place_of begun.0.channel) (place_of begun.0.channel ∷ []) (contains_first (place_of begun.0.channel) []))))
    ]
row_takes at s input offer r (ends was_open is_shut over) takes =
    absurd (end_takes at over.end (roles_of s) (roles_of s).target (sent_takes at input (end_messages over.end (roles_of s)) (subst (AnyTakes at) over.ordered (any_kept is_to_station at r.outs (takes_station at) takes))))
row_takes at s input offer r (had_ended was_shut is_shut nothing) takes =
    let none : AnyTakes at [] = subst (AnyTakes at) nothing (any_kept is_to_station at r.outs (takes_station at) takes) in absurd none

-- ---- a row in the controller

-- it is sent to a link that is up
abbrev pub LinkIsAlive : List Bool → Message → Type 0
LinkIsAlive links (Station station message) = IsAlive links station
LinkIsAlive links _ = is_link_up links SWITCH_LINK ≡ true

-- Channels while some links have just broken. A channel in use on a link that is up belongs to its
-- connection. Channels of links that were down are free. Releasing channels have numbers that were
-- given out.
pub record Uses (old new : List Bool) (c : Controller) : Type 0 where
  pub used : (at : Place) (n : ℕ) →
      is_link_up new at.station ≡ true →
      state_in c.channels at ≡ InUse n →
      Contains (used_places (connection_of c n)) at
  pub blank : (at : Place) → (IsAlive old at.station → ⊥) → state_in c.channels at ≡ Free
  pub given : (at : Place) (n : ℕ) → state_in c.channels at ≡ Releasing n → (1 ≤ n) × (n < c.next_number)

-- what a row needs
pub record RowUses (new : List Bool) (channels : List (List ChannelState)) (s : Connection) (input : Input) (offer : Option Channel) (r : Row) : Type 0 where
  pub changes : ChangesRoles s input offer r
  pub upward : AllByRecursion (LinkIsAlive new) r.outs
  pub broken : (station : ℕ) → input ≡ inputs.StationDown station → is_link_up new station ≡ false
  pub freed : (at : Place) → input ≡ inputs.ActivationNack at → state_in channels at ≡ Free

kept_places : (state : State) (s : Connection) → s.state ≡ state → used_places (kept_in state s) ≡ map place_of (channels_in_use s)
kept_places Removed s is = ap (λ (state : State). map place_of (channels_in state (roles_of s))) (sym is)
kept_places _ s is = refl

reaching : (old new : List Bool) (ms : List Message) →
    ((link : ℕ) → is_link_up new link ≡ true → is_link_up old link ≡ true) →
    AllByRecursion (LinkIsAlive new) ms →
    AllByRecursion (Reaches (IsAlive old)) ms
reaching old new [] more all = tt
reaching old new (m ∷ ms) more all = (of m all.0, reaching old new ms more all.1)
  where
    of : (m : Message) → LinkIsAlive new m → Reaches (IsAlive old) m
    of (Station station message) up = (more station up.0, up.1)
    of _ up = tt

-- what is still in use wasn't given up
not_given_up : (new : List Bool) (channels : States) (s : Connection) (input : Input) (offer : Option Channel) (r : Row) (n : ℕ) (c : Channel) →
    RowUses new channels s input offer r →
    is_link_up new c.station ≡ true →
    state_in channels (place_of c) ≡ InUse n →
    AllByRecursion (Spares (place_of c)) r.outs →
    IsGivenUp c input r.outs →
    ⊥
not_given_up new channels s input offer r n c needs up was spared (released there) = all_contained (Spares (place_of c)) r.outs (rf_channel_release c) spared there refl
not_given_up new channels s input offer r n c needs up was spared (broke is) = true≢false (sym up ∙ needs.broken c.station is)
not_given_up new channels s input offer r n c needs up was spared (not_activated at is here) =
    let parts = and_parts (at.station == c.station) (at.number == c.number) here in
    let same : at ≡ place_of c = ap (λ (k : ℕ). record at { station = k }) (eqb-true at.station c.station parts.0) ∙ ap (λ (k : ℕ). record (place_of c) { number = k }) (eqb-true at.number c.number parts.1) in
    free≢use n (sym (needs.freed at is) ∙ ap (state_in channels) same ∙ was)

still_used : (new : List Bool) (channels : States) (s : Connection) (input : Input) (offer : Option Channel) (r : Row) (n : ℕ) (at : Place) →
    RowUses new channels s input offer r →
    is_link_up new at.station ≡ true →
    state_in channels at ≡ InUse n →
    AllByRecursion (Spares at) r.outs →
    Contains (map place_of (channels_in_use s)) at →
    Contains (map place_of (channels_in_use r.next)) at
still_used new channels s input offer r n at needs up was spared there =
    let found = mapped place_of (channels_in_use s) at there in
    let c : Channel = found.0 in
    let here : place_of c ≡ at = found.2 in
    subst (Contains (map place_of (channels_in_use r.next))) here
    (elim ((KeepsAccount-by s input offer r needs.changes).gives_up c found.1) [
      | inl still ↦ in_map place_of (channels_in_use r.next) c still
      | inr gone ↦ absurd (not_given_up new channels s input offer r n c needs
          (subst (λ (p : Place). is_link_up new p.station ≡ true) (sym here) up) (subst (λ (p : Place). state_in channels p ≡ InUse n) (sym here) was)
          (subst (λ (p : Place). AllByRecursion (Spares p) r.outs) (sym here) spared) gone)
    ])

pub by_row_uses : (old new : List Bool) → ((link : ℕ) → is_link_up new link ≡ true → is_link_up old link ≡ true) → (c : Controller) (e : Entry) (input : Input) (offer : Option Channel) (r : Row) → AreRising c.entries → entry_of c e.connection.number ≡ Some e → row_of e.connection input offer ≡ Some r →
    1 ≤ e.connection.number → e.connection.number < c.next_number → RowUses new c.channels e.connection input offer r → Uses old new c → Uses old new (by_row e r c).next
by_row_uses old new more c e input offer r rising there fits from_one below needs uses =
    let m : ℕ = e.connection.number in
    let keeps : r.next.number ≡ m = subst (λ (o : Option Row). OfRow (λ (q : Row). q.next.number ≡ m) o) fits (keeps_number e.connection input offer) in
    let own : used_places (connection_of (by_row e r c).next m) ≡ map place_of (channels_in_use r.next) = ap used_places (row_found c e e r rising keeps there) ∙ kept_places r.next.state r.next refl in
    let was_own : used_places (connection_of c m) ≡ map place_of (channels_in_use e.connection) = ap used_places (ap (option_map (λ (x : Entry). x.connection)) there) in
    record {
      used = λ at n up is. elim (fold_use m n at c.channels r.outs is) [
        | inl takes ↦
            subst (λ (k : ℕ). Contains (used_places (connection_of (by_row e r c).next k)) at) (sym takes.0)
            (subst (λ (ps : List Place). Contains ps at) (sym own) (row_takes at e.connection input offer r needs.changes takes.1))
        | inr kept_state ↦ decide_same n m (Contains (used_places (connection_of (by_row e r c).next n)) at)
            (λ same.
            let was : state_in c.channels at ≡ InUse m = kept_state.0 ∙ ap (λ (k : ℕ). InUse k) same in
            subst (λ (k : ℕ). Contains (used_places (connection_of (by_row e r c).next k)) at) (sym same)
            (subst (λ (ps : List Place). Contains ps at) (sym own)
            (still_used new c.channels e.connection input offer r m at needs up was kept_state.1
            (subst (λ (ps : List Place). Contains ps at) was_own (uses.used at m up was)))))
            (λ differ.
            subst (λ (o : Option Connection). Contains (used_places o) at) (sym (ap (option_map (λ (x : Entry). x.connection)) (back_over n (entry_after c.settings e r) c.entries (λ same. differ (same ∙ keeps)))))
            (uses.used at n up kept_state.0))
      ];
      blank = λ at dead. fold_else (IsAlive old) m at c.channels r.outs dead (reaching old new r.outs more needs.upward)
          ∙ uses.blank at dead;
      given = λ at n is. elim (fold_release m n at c.channels r.outs is) [
        | inl same ↦ (omega arith, omega arith)
        | inr was ↦ uses.given at n was
      ];
    }
