-- SPDX-License-Identifier: MIT OR Apache-2.0
-- If no row fits, no tenure changes.
use Rattle.controller_model.proofs.Prelude.{◌≡◌, ◌≢◌, ℕ, Bool, true, false, List, [], ◌∷◌, ◌++◌, map, Some, refl, sym, subst, ap, ◌∙◌}
use Rattle.controller_model.proofs.Prelude.{inl, inr, true≢false, cases_Bool, AllByRecursion, Channel, Place, Message, AreAway, same_place}
use Rattle.controller_model.proofs.Prelude.{Input, Connection, is_at, roles_of, target_channels, undone, Zero, all_behind, AreIn, Owns}
use Rattle.controller_model.proofs.Prelude.{is_link_up, used_in, ServedTenure, acknowledged, after_input, begin_next, heard, ChannelState}
use Rattle.controller_model.proofs.Prelude.{InUse}
use Rattle.controller_model.proofs.Prelude.{Releasing, holder, state_in}
use Rattle.conn_rules.specs.declared.input.Input.TheVariants as inputs
use Rattle.controller_model.proofs.LifeLaws.Following.{Follows, none_on, older}
use Rattle.controller_model.proofs.LifeLaws.Sources.{IsAtPlace}
use Rattle.controller_model.proofs.LifeLaws.Tenures.{NoneOn, ended_none, heard_none}

abbrev States : Type 0
States = List (List ChannelState)

pub not_begun : (ts : List ServedTenure) (at : Place) → begin_next ts false at ≡ ts
not_begun [] at = refl
not_begun (t ∷ ts) at = refl

pub older_none : (at : Place) (ts : List ServedTenure) → NoneOn at (older ts) → acknowledged at ts ≡ ts
older_none at [] away = refl
older_none at (t ∷ old) away = ap (λ (us : List ServedTenure). t ∷ us) (ended_none at old away)

older_of : (at : Place) (ts : List ServedTenure) → NoneOn at ts → NoneOn at (older ts)
older_of at [] away = tt
older_of at (t ∷ old) away = away.1

-- with nothing put, on a channel that no tenure is on
pub none_after : (at : Place) (input : Input) (ts : List ServedTenure) → IsAtPlace at input → NoneOn at ts → after_input input [] ts ≡ ts
none_after at (inputs.Dtap place of message) ts is away = subst (λ (p : Place). map (heard p of message) ts ≡ ts) (sym is) (heard_none of at message ts away)
none_after at (inputs.ReleaseAck place) ts is away = subst (λ (p : Place). acknowledged p ts ≡ ts) (sym is) (older_none at ts (older_of at ts away))
none_after at (inputs.Complete place change cause) ts is away = not_begun ts place
none_after at (inputs.EstablishIndication place Zero (Some initial)) ts is away = refl
none_after at _ ts is away = refl

-- a channel that another connection has, or nobody
state_away : (channels : States) (at : Place) (state : ChannelState) (n : ℕ) (cs : List Channel) →
    holder state ≡ Some n →
    holder (state_in channels at) ≢ Some n →
    AreIn channels state cs →
    AreAway at cs
state_away channels at state n [] held other all = tt
state_away channels at state n (c ∷ cs) held other all = (
  elim (cases_Bool (is_at at c)) [
    | inl hit ↦ absurd (other (ap holder (ap (state_in channels) (same_place at c hit) ∙ all.0) ∙ held))
    | inr miss ↦ miss
  ],
  state_away channels at state n cs held other all.1,
)

pub other_none : (channels : States) (links : List Bool) (n : ℕ) (s : Connection) (before : List Message) (at : Place) (ts : List ServedTenure) →
    Owns channels links n (roles_of s) →
    holder (state_in channels at) ≢ Some n →
    Follows s before ts →
    NoneOn at ts
other_none channels links n s before at ts owns other follows =
    none_on s before ts at follows (state_away channels at (Releasing n) n (undone s.draining) refl other owns.releasing)
    (state_away channels at (InUse n) n (s.serving ∷ target_channels (roles_of s).target) refl other owns.using).0

-- a channel of a station whose link is down
link_away : (links : List Bool) (at : Place) (cs : List Channel) →
    is_link_up links at.station ≡ false →
    AllByRecursion (λ (c : Channel). is_link_up links c.station ≡ true) cs →
    AreAway at cs
link_away links at [] down all = tt
link_away links at (c ∷ cs) down all = (
  elim (cases_Bool (is_at at c)) [
    | inl hit ↦ absurd (true≢false (sym all.0 ∙ ap (λ (p : Place). is_link_up links p.station) (sym (same_place at c hit)) ∙ down))
    | inr miss ↦ miss
  ],
  link_away links at cs down all.1,
)

front : (at : Place) (xs ys : List Channel) → AreAway at (xs ++ ys) → AreAway at xs
front at [] ys away = tt
front at (x ∷ xs) ys away = (away.0, front at xs ys away.1)

pub down_none : (channels : States) (links : List Bool) (n : ℕ) (s : Connection) (before : List Message) (at : Place) (ts : List ServedTenure) →
    Owns channels links n (roles_of s) →
    is_link_up links at.station ≡ false →
    Follows s before ts →
    NoneOn at ts
down_none channels links n s before at ts owns down follows =
    let away = link_away links at (used_in (roles_of s)) down owns.linked in
    none_on s before ts at follows (front at (undone s.draining) (s.serving ∷ target_channels (roles_of s).target) away)
    (all_behind (λ c. is_at at c ≡ false) (undone s.draining) (s.serving ∷ target_channels (roles_of s).target) away).0
