-- SPDX-License-Identifier: MIT OR Apache-2.0
-- The messages of a row go to links that are up.
use Rattle.controller_model.proofs.Prelude.{◌≡◌, ◌≢◌, ℕ, ◌==◌, Bool, true, false, not, if◌then◌else◌, List, [], ◌∷◌, filter, set, Option}
use Rattle.controller_model.proofs.Prelude.{Some, None, refl, sym, subst, ◌∙◌, inl, inr, true≢false, cases_Bool, cond-true, cond-false}
use Rattle.controller_model.proofs.Prelude.{eqb-true, eq-eqb, AllByRecursion, option_to_list, Channel, Message, Station, Request, Data}
use Rattle.controller_model.proofs.Prelude.{ReleaseComplete, Out, SWITCH_LINK, outs_of, AllByRecursion-filter, Input, Preparing}
use Rattle.controller_model.proofs.Prelude.{Changing, State, WaitActivation, WaitEstablish, Live, Closed, Removed}
use Rattle.controller_model.proofs.Prelude.{Connection, TargetRole, Roles, RoleEnd, ChangesRoles, roles_of, target_role, end_messages}
use Rattle.controller_model.proofs.Prelude.{target_channels, those_sent, to_stations, carries_on, ends, had_ended, refused, drops}
use Rattle.controller_model.proofs.Prelude.{dismisses, Row, is_for_station, IsOpen, OfRow, target_in, on_switch_down, is_link_up, break_of}
use Rattle.conn_messages.specs.Out.{out_of}
use Rattle.conn_rules.specs.declared.input.Input.TheVariants as inputs
use Rattle.conn_rules.specs.Table.{row_of}
use Rattle.controller_model.proofs.LifeLaws.Beside.{other_link}
use Rattle.controller_model.proofs.LifeLaws.Fitting.{own_carried, row_is}
use Rattle.controller_model.proofs.LifeLaws.OwningLife.{break_shut}
use Rattle.controller_model.proofs.LifeLaws.Reaching.{Reaches, Reaching, open_reaches}
use Rattle.controller_model.proofs.LifeLaws.UsingRows.{LinkIsAlive, IsAlive}

-- ---- the channels of a connection that is open

abbrev pub OwnAlive : (ℕ → Type 0) → Roles → Type 0
OwnAlive P roles = AllByRecursion (λ (c : Channel). P c.station) (roles.serving ∷ target_channels roles.target)

pub targets_in : (P : Channel → Type 0) (state : State) →
    AllByRecursion P (target_channels (target_role state)) →
    AllByRecursion P (target_in state)
targets_in P (Live reference (Preparing target)) all = all
targets_in P (Live reference (Changing target)) all = all
targets_in P _ all = tt

offer_in : (P : Channel → Type 0) (offer : Option Channel) →
    ((c : Channel) → offer ≡ Some c → P c) →
    AllByRecursion P (option_to_list offer)
offer_in P None each = tt
offer_in P (Some c) each = (each c refl, tt)

-- ---- messages

all_up : (links : List Bool) (ms : List Message) →
    is_link_up links SWITCH_LINK ≡ true →
    AllByRecursion (Reaches (IsAlive links)) ms →
    AllByRecursion (LinkIsAlive links) ms
all_up links [] up all = tt
all_up links (Station station message ∷ ms) up all = (all.0, all_up links ms up all.1)
all_up links (Request message ∷ ms) up all = (up, all_up links ms up all.1)
all_up links (Data destination message ∷ ms) up all = (up, all_up links ms up all.1)
all_up links (ReleaseComplete destination ∷ ms) up all = (up, all_up links ms up all.1)

from_stations : (P : ℕ → Type 0) (ms : List Message) → AllByRecursion (Reaches P) (to_stations ms) → AllByRecursion (Reaches P) ms
from_stations P [] all = tt
from_stations P (Station station message ∷ ms) all = (all.0, from_stations P ms all.1)
from_stations P (Request message ∷ ms) all = (tt, from_stations P ms all)
from_stations P (Data destination message ∷ ms) all = (tt, from_stations P ms all)
from_stations P (ReleaseComplete destination ∷ ms) all = (tt, from_stations P ms all)

sent_reach : (P : ℕ → Type 0) (input : Input) (ms : List Message) →
    AllByRecursion (Reaches P) ms →
    AllByRecursion (Reaches P) (those_sent input ms)
sent_reach P (inputs.StationDown station) ms all = AllByRecursion-filter (Reaches P) _ ms all
sent_reach P _ ms all = all

end_reaches : (P : ℕ → Type 0) (end : RoleEnd) (roles : Roles) (target : Option TargetRole) →
    OwnAlive P (record roles { target = target }) →
    AllByRecursion (Reaches P) (end_messages end (record roles { target = target }))
end_reaches P refused roles target own = tt
end_reaches P drops roles target own = (own.0, tt)
end_reaches P (dismisses cause) roles None own = (own.0, (own.0, tt))
end_reaches P (dismisses cause) roles (Some t) own = (own.0, (own.0, (own.1.0, tt)))

-- ---- a row, where no link breaks

pub row_keeps_uses : (links : List Bool) (s : Connection) (input : Input) (offer : Option Channel) (r : Row) → row_of s input offer ≡ Some r → ChangesRoles s input offer r → is_link_up links SWITCH_LINK ≡ true →
    (IsOpen s.state → OwnAlive (IsAlive links) (roles_of s)) → (IsOpen s.state → IsOpen r.next.state → (c : Channel) → offer ≡ Some c → IsAlive links c.station) → AllByRecursion (LinkIsAlive links) r.outs
row_keeps_uses links s input offer r fits (carries_on was_open is_open on) up own offered =
    let alive = own was_open in
    let reach : Reaching (IsAlive links) r = subst (OfRow (Reaching (IsAlive links))) fits
    (open_reaches (IsAlive links) s input offer alive.0 (targets_in (λ (c : Channel). IsAlive links c.station) s.state alive.1) (offer_in (λ (c : Channel). IsAlive links c.station) offer (offered was_open is_open))) in
    all_up links r.outs up (reach is_open)
row_keeps_uses links s input offer r fits (ends was_open shut over) up own offered =
    all_up links r.outs up (from_stations (IsAlive links) r.outs (subst (AllByRecursion (Reaches (IsAlive links))) (sym over.ordered)
    (sent_reach (IsAlive links) input (end_messages over.end (roles_of s)) (end_reaches (IsAlive links) over.end (roles_of s) (roles_of s).target (own was_open)))))
row_keeps_uses links s input offer r fits (had_ended was_shut shut nothing) up own offered =
    all_up links r.outs up (from_stations (IsAlive links) r.outs (subst (AllByRecursion (Reaches (IsAlive links))) (sym nothing) tt))

-- ---- a row by which a connection learns that a link broke

abbrev IsToStation : Message → Type 0
IsToStation (Station station message) = Unit {0}
IsToStation _ = ⊥

release_station : (state : State) (s : Connection) (r : Row) → on_switch_down state s ≡ Some r → AllByRecursion IsToStation r.outs
release_station WaitActivation s r is = subst (λ (q : Row). AllByRecursion IsToStation q.outs) (row_is _ r is) (tt, tt)
release_station WaitEstablish s r is = subst (λ (q : Row). AllByRecursion IsToStation q.outs) (row_is _ r is) (tt, tt)
release_station (Live reference (Preparing target)) s r is = subst (λ (q : Row). AllByRecursion IsToStation q.outs) (row_is _ r is) (tt, (tt, (tt, tt)))
release_station (Live reference (Changing target)) s r is = subst (λ (q : Row). AllByRecursion IsToStation q.outs) (row_is _ r is) (tt, (tt, (tt, tt)))
release_station (Closed clearing) s r is = subst (λ (q : Row). AllByRecursion IsToStation q.outs) (row_is _ r is) tt
release_station Removed s r is = absurd cc
release_station _ s r is = subst (λ (q : Row). AllByRecursion IsToStation q.outs) (row_is _ r is) (tt, (tt, tt))

pub still_alive : (links : List Bool) (source station : ℕ) →
    station ≢ source →
    IsAlive links station →
    IsAlive (set links source false) station
still_alive links source station differ alive = (other_link links source station differ ∙ alive.0, alive.1)

-- the switch's link breaks
all_alive : (links : List Bool) (ms : List Message) →
    AllByRecursion IsToStation ms →
    AllByRecursion (Reaches (IsAlive links)) ms →
    AllByRecursion (LinkIsAlive (set links SWITCH_LINK false)) ms
all_alive links [] stations all = tt
all_alive links (Station station message ∷ ms) stations all = (still_alive links SWITCH_LINK station all.0.1 all.0, all_alive links ms stations.1 all.1)
all_alive links _ stations all = absurd stations.0

-- a station's
kept_alive : (links : List Bool) (source : ℕ) (ms : List Message) →
    AllByRecursion (Reaches (IsAlive links)) ms →
    AllByRecursion (Reaches (IsAlive (set links source false))) (filter (λ message. not (is_for_station source message)) ms)
kept_alive links source [] all = tt
kept_alive links source (Station station message ∷ ms) all = by (station == source) refl (kept_alive links source ms all.1)
  where
    by : (b : Bool) → (station == source) ≡ b → AllByRecursion (Reaches (IsAlive (set links source false))) (filter (λ message. not (is_for_station source message)) ms) →
        AllByRecursion (Reaches (IsAlive (set links source false))) (if not b then Station station message ∷ filter (λ message. not (is_for_station source message)) ms else filter (λ message. not (is_for_station source message)) ms)
    by true is rest = rest
    by false is rest = (still_alive links source station (λ same. true≢false (sym (eq-eqb station source same) ∙ is)) all.0, rest)
kept_alive links source (Request message ∷ ms) all = (tt, kept_alive links source ms all.1)
kept_alive links source (Data destination message ∷ ms) all = (tt, kept_alive links source ms all.1)
kept_alive links source (ReleaseComplete destination ∷ ms) all = (tt, kept_alive links source ms all.1)

old_reach : (links : List Bool) (s : Connection) (input : Input) (offer : Option Channel) (r : Row) →
    ((IsOpen r.next.state → ⊥)) →
    ChangesRoles s input offer r →
    (IsOpen s.state → OwnAlive (IsAlive links) (roles_of s)) →
    AllByRecursion (Reaches (IsAlive links)) r.outs
old_reach links s input offer r shut (carries_on was_open is_open on) own = absurd (shut is_open)
old_reach links s input offer r shut (ends was_open closed over) own =
    from_stations (IsAlive links) r.outs (subst (AllByRecursion (Reaches (IsAlive links))) (sym over.ordered)
    (sent_reach (IsAlive links) input (end_messages over.end (roles_of s)) (end_reaches (IsAlive links) over.end (roles_of s) (roles_of s).target (own was_open))))
old_reach links s input offer r shut (had_ended was_shut closed nothing) own = from_stations (IsAlive links) r.outs (subst (AllByRecursion (Reaches (IsAlive links))) (sym nothing) tt)

new_reach : (links : List Bool) (s : Connection) (source : ℕ) (offer : Option Channel) (r : Row) →
    (IsOpen r.next.state → ⊥) →
    ChangesRoles s (inputs.StationDown source) offer r →
    (IsOpen s.state → OwnAlive (IsAlive links) (roles_of s)) →
    AllByRecursion (Reaches (IsAlive (set links source false))) r.outs
new_reach links s source offer r shut (carries_on was_open is_open on) own = absurd (shut is_open)
new_reach links s source offer r shut (ends was_open closed over) own =
    from_stations (IsAlive (set links source false)) r.outs (subst (AllByRecursion (Reaches (IsAlive (set links source false)))) (sym over.ordered)
    (kept_alive links source (end_messages over.end (roles_of s)) (end_reaches (IsAlive links) over.end (roles_of s) (roles_of s).target (own was_open))))
new_reach links s source offer r shut (had_ended was_shut closed nothing) own = from_stations (IsAlive (set links source false)) r.outs (subst (AllByRecursion (Reaches (IsAlive (set links source false)))) (sym nothing) tt)

pub break_keeps_uses : (links : List Bool) (source : ℕ) (s : Connection) (offer : Option Channel) (r : Row) → row_of s (break_of source) offer ≡ Some r → ChangesRoles s (break_of source) offer r → is_link_up links SWITCH_LINK ≡ true → (IsOpen s.state → OwnAlive (IsAlive links) (roles_of s)) →
    AllByRecursion (LinkIsAlive (set links source false)) r.outs
unfolding row_of
break_keeps_uses links source s offer r fits changes up own = elim (cases_Bool (source == SWITCH_LINK)) [
  | inl switch ↦
      let is : break_of source ≡ inputs.SwitchDown = cond-true _ inputs.SwitchDown (inputs.StationDown source) switch in
      subst (λ (link : ℕ). AllByRecursion (LinkIsAlive (set links link false)) r.outs) (sym (eqb-true source SWITCH_LINK switch))
      (all_alive links r.outs (release_station s.state s r (subst (λ (i : Input). row_of s i offer ≡ Some r) is fits)) (old_reach links s (break_of source) offer r shut changes own))
  | inr station ↦
      let is : break_of source ≡ inputs.StationDown source = cond-false _ inputs.SwitchDown (inputs.StationDown source) station in
      all_up (set links source false) r.outs (other_link links source SWITCH_LINK (λ same. true≢false (sym (eq-eqb source SWITCH_LINK (sym same)) ∙ station)) ∙ up)
      (new_reach links s source offer r shut (subst (λ (i : Input). ChangesRoles s i offer r) is changes) own)
]
  where
    shut : IsOpen r.next.state → ⊥
    shut is_open = break_shut (break_of source) (own_carried source) s offer r fits is_open

-- ---- frames

pub outs_up : (links : List Bool) (n : ℕ) (ms : List Message) →
    AllByRecursion (LinkIsAlive links) ms →
    AllByRecursion (λ (out : Out). is_link_up links out.to ≡ true) (outs_of n ms)
unfolding out_of
outs_up links n [] all = tt
outs_up links n (Station station message ∷ ms) all = (all.0.0, outs_up links n ms all.1)
outs_up links n (Request message ∷ ms) all = (all.0, outs_up links n ms all.1)
outs_up links n (Data destination message ∷ ms) all = (all.0, outs_up links n ms all.1)
outs_up links n (ReleaseComplete destination ∷ ms) all = (all.0, outs_up links n ms all.1)
