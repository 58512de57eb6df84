-- SPDX-License-Identifier: MIT OR Apache-2.0
-- The orders of a row take turns.
use Rattle.world_laws.proofs.Prelude.{◌≡◌, ◌≢◌, ℕ, ◌==◌, ◌&&◌, not, Bool, true, false, if◌then◌else◌, List, [], ◌∷◌, ◌++◌, filter, fold}
use Rattle.world_laws.proofs.Prelude.{unwrap_or, Option, Some, None, refl, sym, ap, ◌∙◌, subst, inl, inr, AllByRecursion, result_ok}
use Rattle.world_laws.proofs.Prelude.{cases_Bool, cond-true, cond-false, eq-eqb, eqb-true, Change, Assignment, Handover, Channel, Place}
use Rattle.world_laws.proofs.Prelude.{Message, Station, IsReadOf, outs_of, change_activation}
use Rattle.world_laws.proofs.Prelude.{rf_channel_release, Input, Target, Connection, ChangesRoles, MayBegin, RoleEnd, Roles, RoleStep}
use Rattle.world_laws.proofs.Prelude.{TargetRole, after_step, begin_orders, end_messages, is_order, roles_of, step_by, step_orders}
use Rattle.world_laws.proofs.Prelude.{target_channels, those_sent, carries_on, ends, had_ended, refused, drops, dismisses, unchanged}
use Rattle.world_laws.proofs.Prelude.{commands}
use Rattle.world_laws.proofs.Prelude.{completes, reverts, leaves, Row, IsOpen, AreIn, IsIn, free≢use, is_there, state_else, state_here}
use Rattle.world_laws.proofs.Prelude.{ChannelState, Free, InUse, Releasing, place_at, place_of, state_in, with_state, Rsl, false≢true}
use Rattle.world_laws.proofs.Prelude.{channel_release, is_to_station, target_orders, target_releases, is_for_station, still_there, channels_after}
use Rattle.world_laws.proofs.Prelude.{Order, Turns, TakesTurns, order_by, order_in}
use Rattle.conn_messages.specs.Out.{out_of}
use Rattle.conn_rules.specs.declared.input.Input.TheVariants as inputs
use Rattle.rsl_codec.specs.declared.rsl.Rsl.TheVariants as rsl
use Rattle.world_laws.specs.TakingTurns.Order.{activates, releases}
use Rattle.world_laws.proofs.OrderRows.{States}

-- ---- messages in turn

-- a channel that is activated is free and there, one that is released is in use
unfoldable pub IsInTurn : ℕ → States → Message → Type 0
IsInTurn m channels (Station station (rsl.ChannelActivation a)) = (state_in channels (place_at station a.channel) ≡ Free) × IsIn channels (place_at station a.channel)
IsInTurn m channels (Station station (rsl.RfChannelRelease channel)) = state_in channels (place_at station channel) ≡ InUse m
IsInTurn m channels _ = Unit {0}

unfoldable pub AreInTurn : ℕ → States → List Message → Type 0
AreInTurn m channels [] = Unit {0}
AreInTurn m channels (message ∷ ms) = IsInTurn m channels message × AreInTurn m (channels_after m channels message) ms

-- an order on one place
on_place : (channel number : ℕ) (o : Order) (b c : Bool) →
    (if b then (if c then Some o else None) else None) ≡ (if (b && c) then Some o else None)
on_place channel number o true c = refl
on_place channel number o false c = refl

pub places_same : (station channel : ℕ) (at : Place) →
    ((station == at.station) && (channel == at.number)) ≡ true →
    place_at station channel ≡ at
places_same station channel at is = by (station == at.station) refl is where
  by : (b : Bool) → (station == at.station) ≡ b → (b && (channel == at.number)) ≡ true → place_at station channel ≡ at
  by true here also = ap (λ (n : ℕ). place_at n channel) (eqb-true station at.station here) ∙ ap (λ (n : ℕ). place_at at.station n) (eqb-true channel at.number also)
  by false here also = absurd cc

pub places_differ : (station channel : ℕ) (at : Place) →
    ((station == at.station) && (channel == at.number)) ≡ false →
    at ≢ place_at station channel
places_differ station channel at is same = absurd (false≢true (sym is ∙ subst (λ (p : Place). ((station == p.station) && (channel == p.number)) ≡ true) (sym same) both)) where
  both : ((station == station) && (channel == channel)) ≡ true
  both = ap (λ (b : Bool). b && (channel == channel)) (eq-eqb station station refl) ∙ eq-eqb channel channel refl

-- the state of a place after an order on another or on it
turned : (o : Order) (at other : Place) (channels : States) (state : ChannelState) (b : Bool) →
    (b ≡ true → other ≡ at) →
    (b ≡ false → at ≢ other) →
    (Turns (Some o) (state_in channels other) (state_in (with_state other state channels) other)) →
    Turns (if b then Some o else None) (state_in channels at) (state_in (with_state other state channels) at)
turned o at other channels state true same differ turns = subst (λ (p : Place). Turns (Some o) (state_in channels p) (state_in (with_state other state channels) p)) (same refl) turns
turned o at other channels state false same differ turns = state_else channels other at state (differ refl)

read_order : (m : ℕ) (at : Place) (station : ℕ) (x : Rsl) →
    IsReadOf m (Station station x) (out_of m (Station station x)).frame.body →
    order_in at (out_of m (Station station x)) ≡ (if station == at.station then order_by at.number (Some x) else None)
unfolding out_of
read_order m at station x read = ap (λ r. if station == at.station then order_by at.number (result_ok r) else None) read

pub quiet_order : (b : Bool) (o : Option Order) → o ≡ None → (if b then o else None) ≡ None
quiet_order true o is = is
quiet_order false o is = refl

one_turn : (m : ℕ) (at : Place) (channels : States) (message : Message) →
    IsReadOf m message (out_of m message).frame.body →
    IsInTurn m channels message →
    Turns (order_in at (out_of m message)) (state_in channels at) (state_in (channels_after m channels message) at)
unfolding IsInTurn out_of
one_turn m at channels (Station station (rsl.ChannelActivation a)) read turn =
    subst (λ (o : Option Order). Turns o (state_in channels at) (state_in (with_state (place_at station a.channel) (InUse m) channels) at))
    (sym (read_order m at station (rsl.ChannelActivation a) read ∙ on_place a.channel at.number activates (station == at.station) (a.channel == at.number)))
    (turned activates at (place_at station a.channel) channels (InUse m) ((station == at.station) && (a.channel == at.number)) (places_same station a.channel at) (places_differ station a.channel at)
    (turn.0, m, state_here channels (place_at station a.channel) (InUse m) turn.1))
one_turn m at channels (Station station (rsl.RfChannelRelease channel)) read turn =
    subst (λ (o : Option Order). Turns o (state_in channels at) (state_in (with_state (place_at station channel) (Releasing m) channels) at))
    (sym (read_order m at station (rsl.RfChannelRelease channel) read ∙ on_place channel at.number releases (station == at.station) (channel == at.number)))
    (turned releases at (place_at station channel) channels (Releasing m) ((station == at.station) && (channel == at.number)) (places_same station channel at) (places_differ station channel at)
    (m, turn, state_here channels (place_at station channel) (Releasing m) (is_there channels (place_at station channel) (λ free. free≢use m (sym free ∙ turn)))))
one_turn m at channels (Station station x) read turn =
    subst (λ (o : Option Order). Turns o (state_in channels at) (state_in channels at)) (sym (read_order m at station x read ∙ quiet_order (station == at.station) (order_by at.number (Some x)) refl)) refl
one_turn m at channels _ read turn = subst (λ (o : Option Order). Turns o (state_in channels at) (state_in channels at)) (sym (quiet_order _ None refl)) refl

-- all messages of a row
pub all_turns : (m : ℕ) (at : Place) (channels : States) (ms : List Message) →
    AllByRecursion (λ x. IsReadOf m x (out_of m x).frame.body) ms →
    AreInTurn m channels ms →
    TakesTurns at (state_in channels at) (outs_of m ms) (state_in (fold (channels_after m) channels ms) at)
unfolding AreInTurn
all_turns m at channels [] read turns = refl
all_turns m at channels (x ∷ xs) read turns = (state_in (channels_after m channels x) at, one_turn m at channels x read.0 turns.0, all_turns m at (channels_after m channels x) xs read.1 turns.1)

pub turns_append : (at : Place) (before between after : ChannelState) (xs ys : List _) →
    TakesTurns at before xs between →
    TakesTurns at between ys after →
    TakesTurns at before (xs ++ ys) after
turns_append at before between after [] ys first rest = subst (λ (s : ChannelState). TakesTurns at s ys after) first rest
turns_append at before between after (x ∷ xs) ys first rest = (first.0, first.1, turns_append at first.0 between after xs ys first.2 rest)

-- ---- only orders count

not_order : (m : ℕ) (channels : States) (message : Message) →
    is_order message ≡ false →
    IsInTurn m channels message × (channels_after m channels message ≡ channels)
unfolding IsInTurn
not_order m channels (Station station (rsl.ChannelActivation a)) is = absurd cc
not_order m channels (Station station (rsl.RfChannelRelease channel)) is = absurd cc
not_order m channels _ is = (tt, refl)

-- a test that all orders pass
from_some : (m : ℕ) (channels : States) (test : Message → Bool) (ms : List Message) →
    ((x : Message) → test x ≡ false → is_order x ≡ false) →
    AreInTurn m channels (filter test ms) →
    AreInTurn m channels ms
unfolding AreInTurn
from_some m channels test [] passes turns = tt
from_some m channels test (x ∷ xs) passes turns = elim (cases_Bool (test x)) [
  | inl hit ↦
      let both = subst (AreInTurn m channels) (cond-true _ (x ∷ filter test xs) (filter test xs) hit) turns in
      (both.0, from_some m (channels_after m channels x) test xs passes both.1)
  | inr miss ↦
      let none = not_order m channels x (passes x miss) in
      (none.0, subst (λ (now : States). AreInTurn m now xs) (sym none.1) (from_some m channels test xs passes (subst (AreInTurn m channels) (cond-false _ (x ∷ filter test xs) (filter test xs) miss) turns)))
]

turn_append : (m : ℕ) (channels : States) (xs ys : List Message) →
    AreInTurn m channels xs →
    AreInTurn m (fold (channels_after m) channels xs) ys →
    AreInTurn m channels (xs ++ ys)
unfolding AreInTurn
turn_append m channels [] ys first rest = rest
turn_append m channels (x ∷ xs) ys first rest = (first.0, turn_append m (channels_after m channels x) xs ys first.1 rest)

-- ---- the orders of a step

-- what is known of a connection's channels: those in use are, and are different
pub record IsUsing (m : ℕ) (channels : States) (roles : Roles) : Type 0 where
  pub using : AreIn channels (InUse m) (roles.serving ∷ target_channels roles.target)
  pub apart : AllByRecursion (λ c. place_of roles.serving ≢ place_of c) (target_channels roles.target)

in_turn_release : (m : ℕ) (channels : States) (c : Channel) →
    state_in channels (place_of c) ≡ InUse m →
    AreInTurn m channels (rf_channel_release c ∷ [])
unfolding AreInTurn IsInTurn
in_turn_release m channels c is = (is, tt)

in_turn_activation : (m : ℕ) (channels : States) (change : Change) (c : Channel) →
    state_in channels (place_of c) ≡ Free →
    IsIn channels (place_of c) →
    AreInTurn m channels (change_activation change c ∷ [])
unfolding AreInTurn IsInTurn
in_turn_activation m channels Assignment c is there = ((is, there), tt)
in_turn_activation m channels Handover c is there = ((is, there), tt)

none_in_turn : (m : ℕ) (channels : States) → AreInTurn m channels []
unfolding AreInTurn
none_in_turn m channels = tt

target_turns : (m : ℕ) (channels : States) (o : Option TargetRole) →
    AreIn channels (InUse m) (target_channels o) →
    AreInTurn m channels (target_orders o)
target_turns m channels None using = none_in_turn m channels
target_turns m channels (Some t) using = by t.is_commanded where
  by : (b : Bool) → AreInTurn m channels (if b then rf_channel_release t.target.channel ∷ [] else [])
  by true = in_turn_release m channels t.target.channel using.0
  by false = none_in_turn m channels

step_turns : (m : ℕ) (channels : States) (step : RoleStep) (roles : Roles) →
    IsUsing m channels roles →
    AreInTurn m channels (step_orders step roles)
step_turns m channels unchanged roles u = none_in_turn m channels
step_turns m channels commands roles u = none_in_turn m channels
step_turns m channels completes roles u = in_turn_release m channels roles.serving u.using.0
step_turns m channels reverts roles u = target_turns m channels roles.target u.using.1
step_turns m channels (leaves place) roles u = none_in_turn m channels

-- one that is free remains so
remains_free : (m : ℕ) (channels : States) (c used : Channel) →
    state_in channels (place_of c) ≡ Free →
    state_in channels (place_of used) ≡ InUse m →
    state_in (with_state (place_of used) (Releasing m) channels) (place_of c) ≡ Free
remains_free m channels c used is in_use = state_else channels (place_of used) (place_of c) (Releasing m) (λ same. free≢use m (sym is ∙ ap (state_in channels) same ∙ in_use)) ∙ is

-- what is offered, after the step
unfoldable pub IsOpenFor : States → Channel → Type 0
IsOpenFor channels c = (state_in channels (place_of c) ≡ Free) × IsIn channels (place_of c)

released_open : (m : ℕ) (channels : States) (c used : Channel) →
    IsOpenFor channels c →
    state_in channels (place_of used) ≡ InUse m →
    IsOpenFor (fold (channels_after m) channels (rf_channel_release used ∷ [])) c
unfolding IsOpenFor
released_open m channels c used is in_use = (remains_free m channels c used is.0 in_use, still_there channels (place_of used) (place_of c) (Releasing m) is.1)

step_open : (m : ℕ) (channels : States) (step : RoleStep) (roles : Roles) (c : Channel) →
    IsUsing m channels roles →
    IsOpenFor channels c →
    IsOpenFor (fold (channels_after m) channels (step_orders step roles)) c
step_open m channels unchanged roles c u is = is
step_open m channels commands roles c u is = is
step_open m channels completes roles c u is = released_open m channels c roles.serving is u.using.0
step_open m channels reverts roles c u is = by roles.target u.using.1 where
  by : (o : Option TargetRole) →
      AreIn channels (InUse m) (target_channels o) →
      IsOpenFor (fold (channels_after m) channels (target_orders o)) c
  by None using = is
  by (Some t) using = commanded t.is_commanded where
    commanded : (b : Bool) → IsOpenFor (fold (channels_after m) channels (if b then rf_channel_release t.target.channel ∷ [] else [])) c
    commanded true = released_open m channels c t.target.channel is using.0
    commanded false = is
step_open m channels (leaves place) roles c u is = is

begin_turns : (m : ℕ) (channels : States) (begun : Option Target) →
    ((t : Target) → begun ≡ Some t → IsOpenFor channels t.channel) →
    AreInTurn m channels (begin_orders begun)
unfolding IsOpenFor
begin_turns m channels None offered = none_in_turn m channels
begin_turns m channels (Some t) offered = let is = offered t refl in in_turn_activation m channels t.change t.channel is.0 is.1

begun_offer : (begun : Option Target) (input : Input) (offer : Option Channel) (roles : Roles) (t : Target) →
    MayBegin begun input offer roles →
    begun ≡ Some t →
    offer ≡ Some t.channel
begun_offer None input offer roles t may is = absurd cc
begun_offer (Some target) input offer roles t may is = may.1 ∙ ap (λ (o : Option Target). Some (unwrap_or o target).channel) is

-- ---- the orders of an end

kept_targets : (m : ℕ) (channels : States) (test : Message → Bool) (o : Option TargetRole) →
    AreIn channels (InUse m) (target_channels o) →
    AreInTurn m channels (filter test (target_releases o))
kept_targets m channels test None using = none_in_turn m channels
kept_targets m channels test (Some t) using = by (test (rf_channel_release t.target.channel)) where
  by : (b : Bool) → AreInTurn m channels (if b then rf_channel_release t.target.channel ∷ [] else [])
  by true = in_turn_release m channels t.target.channel using.0
  by false = none_in_turn m channels

still_using : (m : ℕ) (channels : States) (c : Channel) (o : Option TargetRole) →
    AreIn channels (InUse m) (target_channels o) →
    AllByRecursion (λ x. place_of c ≢ place_of x) (target_channels o) →
    AreIn (with_state (place_of c) (Releasing m) channels) (InUse m) (target_channels o)
still_using m channels c None using apart = tt
still_using m channels c (Some t) using apart = (state_else channels (place_of c) (place_of t.target.channel) (Releasing m) (λ same. apart.0 (sym same)) ∙ using.0, tt)

kept_releases : (m : ℕ) (channels : States) (test : Message → Bool) (c : Channel) (o : Option TargetRole) → state_in channels (place_of c) ≡ InUse m → AreIn channels (InUse m) (target_channels o) → AllByRecursion (λ x. place_of c ≢ place_of x) (target_channels o)
    → AreInTurn m channels (filter test (rf_channel_release c ∷ target_releases o))
unfolding AreInTurn IsInTurn
kept_releases m channels test c o is using apart = by (test (rf_channel_release c)) where
  by : (b : Bool) →
      AreInTurn m channels (if b then rf_channel_release c ∷ filter test (target_releases o) else filter test (target_releases o))
  by true = (is, kept_targets m (with_state (place_of c) (Releasing m) channels) test o (still_using m channels c o using apart))
  by false = kept_targets m channels test o using

kept_end : (m : ℕ) (channels : States) (test : Message → Bool) (end : RoleEnd) (roles : Roles) →
    IsUsing m channels roles →
    AreInTurn m channels (filter test (end_messages end roles))
unfolding AreInTurn IsInTurn
kept_end m channels test refused roles u = tt
kept_end m channels test drops roles u = by (test (rf_channel_release roles.serving)) where
  by : (b : Bool) → AreInTurn m channels (if b then rf_channel_release roles.serving ∷ [] else [])
  by true = (u.using.0, tt)
  by false = tt
kept_end m channels test (dismisses cause) roles u = by (test (channel_release roles.serving cause)) where
  rest : AreInTurn m channels (filter test (rf_channel_release roles.serving ∷ target_releases roles.target))
  rest = kept_releases m channels test roles.serving roles.target u.using.0 u.using.1 u.apart

  by : (b : Bool) →
      AreInTurn m channels (if b then channel_release roles.serving cause ∷ filter test (rf_channel_release roles.serving ∷ target_releases roles.target) else filter test (rf_channel_release roles.serving ∷ target_releases roles.target))
  by true = (tt, rest)
  by false = rest

all_kept : (ms : List Message) → filter (λ x. true) ms ≡ ms
all_kept [] = refl
all_kept (x ∷ xs) = ap (λ (ys : List Message). x ∷ ys) (all_kept xs)

end_turns : (m : ℕ) (channels : States) (input : Input) (end : RoleEnd) (roles : Roles) →
    IsUsing m channels roles →
    AreInTurn m channels (those_sent input (end_messages end roles))
end_turns m channels (inputs.StationDown station) end roles u = kept_end m channels (λ message. not (is_for_station station message)) end roles u
end_turns m channels _ end roles u = subst (AreInTurn m channels) (all_kept (end_messages end roles)) (kept_end m channels (λ x. true) end roles u)

-- ---- the orders of a row

passes_order : (x : Message) → is_order x ≡ false → is_order x ≡ false
passes_order x is = is

passes_station : (x : Message) → is_to_station x ≡ false → is_order x ≡ false
passes_station (Station station message) is = absurd cc
passes_station _ is = refl

pub row_turns : (m : ℕ) (channels : States) (s : Connection) (input : Input) (offer : Option Channel) (r : Row) →
    ChangesRoles s input offer r →
    (IsOpen s.state → IsUsing m channels (roles_of s)) →
    (IsOpen r.next.state → (c : Channel) → offer ≡ Some c → IsOpenFor channels c) →
    AreInTurn m channels r.outs
row_turns m channels s input offer r (carries_on was_open is_open on) using offers =
    let step : RoleStep = step_by input (roles_of s) in
    let u : IsUsing m channels (roles_of s) = using was_open in
    from_some m channels is_order r.outs passes_order (subst (AreInTurn m channels) (sym on.ordered)
    (turn_append m channels (step_orders step (roles_of s)) (begin_orders on.begun) (step_turns m channels step (roles_of s) u)
    (begin_turns m (fold (channels_after m) channels (step_orders step (roles_of s))) on.begun
    (λ t is. step_open m channels step (roles_of s) t.channel u (offers is_open t.channel (begun_offer on.begun input offer (after_step step (roles_of s)) t on.may is))))))
row_turns m channels s input offer r (ends was_open is_shut over) using offers =
    from_some m channels is_to_station r.outs passes_station (subst (AreInTurn m channels) (sym over.ordered) (end_turns m channels input over.end (roles_of s) (using was_open)))
row_turns m channels s input offer r (had_ended was_shut is_shut nothing) using offers =
    from_some m channels is_to_station r.outs passes_station (subst (AreInTurn m channels) (sym nothing) (none_in_turn m channels))
