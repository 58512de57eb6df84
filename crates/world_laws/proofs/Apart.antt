-- SPDX-License-Identifier: MIT OR Apache-2.0
-- Where a place is among the channels of a connection.
use Rattle.world_laws.proofs.Prelude.{◌≡◌, ℕ, ◌&&◌, nat_eq, Bool, true, false, List, [], ◌∷◌, ◌++◌, Option, Some, None, unwrap_or, refl}
use Rattle.world_laws.proofs.Prelude.{sym, ap, ◌∙◌, subst, inl, inr, AllByRecursion, cases_Bool, eqb-true, eqb-false, ne_eqb, eq-eqb}
use Rattle.world_laws.proofs.Prelude.{Channel, Place, Changing, State, Live, Target, Connection, is_at, IsApart, AreApart, undone}
use Rattle.world_laws.proofs.Prelude.{used_channels, place_of, Command, On, Moving, Tenure, Actors, tenure_at, false≢true, AreAway}
use Rattle.world_laws.proofs.Prelude.{commanded_target, Remembers, Sits, at_its_target, between}
use Rattle.conn_rules.specs.Streams.{target_in}
use Rattle.world_laws.specs.Seated.{command_to}
use Rattle.world_laws.specs.Seated.Sits.{unchanged}
use Rattle.world_laws.proofs.Framing.{all_right}

-- ---- lists

pub all_both : {X : Type 0} (P Q R : X → Type 0) (xs : List X) →
    ((x : X) → P x → Q x → R x) →
    AllByRecursion P xs →
    AllByRecursion Q xs →
    AllByRecursion R xs
all_both P Q R [] h all both = tt
all_both P Q R (x ∷ xs) h all both = (h x all.0 both.0, all_both P Q R xs h all.1 both.1)

-- ---- places

pub eqb_sym : (a b : ℕ) → nat_eq a b ≡ nat_eq b a
eqb_sym a b = elim (cases_Bool (nat_eq a b)) [
  | inl same ↦ same ∙ sym (eq-eqb b a (sym (eqb-true a b same)))
  | inr other ↦ other ∙ sym (ne_eqb b a (λ is. eqb-false a b other (sym is)))
]

pub at_itself : (c : Channel) → is_at (place_of c) c ≡ true
at_itself c = ap (λ (b : Bool). b && nat_eq c.number c.number) (eq-eqb c.station c.station refl) ∙ eq-eqb c.number c.number refl

-- it is of the channel's station
pub is_at_station : (at : Place) (c : Channel) → is_at at c ≡ true → at.station ≡ c.station
is_at_station at c is = by_station (nat_eq at.station c.station) refl where
  by_station : (b : Bool) → nat_eq at.station c.station ≡ b → at.station ≡ c.station
  by_station true same = eqb-true at.station c.station same
  by_station false other = absurd (false≢true (sym (ap (λ (b : Bool). b && nat_eq at.number c.number) other) ∙ is))

pub apart_sym : (c d : Channel) → IsApart c d → is_at (place_of d) c ≡ false
apart_sym c d apart = ap (λ (b : Bool). b && nat_eq d.number c.number) (eqb_sym d.station c.station) ∙ ap (λ (b : Bool). nat_eq c.station d.station && b) (eqb_sym d.number c.number) ∙ apart

-- a channel in the middle
middle_apart : (before : List Channel) (c : Channel) (behind : List Channel) →
    AreApart (before ++ c ∷ behind) →
    AreAway (place_of c) before × AreAway (place_of c) behind
middle_apart [] c behind apart = (tt, apart.0)
middle_apart (d ∷ before) c behind apart =
    let others = middle_apart before c behind apart.1 in
    let one : AllByRecursion (IsApart d) (c ∷ behind) = all_right (IsApart d) before (c ∷ behind) apart.0 in
    ((apart_sym d c one.0, others.0), others.1)

-- the last one
last_apart : (before : List Channel) (c last : Channel) →
    AreApart (before ++ c ∷ last ∷ []) →
    AreAway (place_of last) before × (is_at (place_of last) c ≡ false)
last_apart [] c last apart = (tt, apart_sym c last apart.0.0)
last_apart (d ∷ before) c last apart =
    let others = last_apart before c last apart.1 in
    let ones : AllByRecursion (IsApart d) (c ∷ last ∷ []) = all_right (IsApart d) before (c ∷ last ∷ []) apart.0 in
    ((apart_sym d last ones.1.0, others.0), others.1)

-- ---- roles

pub target_in_is_so : (state : State) (t : Target) → commanded_target state ≡ Some t → target_in state ≡ t.channel ∷ []
target_in_is_so (Live reference (Changing target)) t is = ap (λ (o : Option Target). (unwrap_or o target).channel ∷ []) is
target_in_is_so _ t is = absurd cc

-- the place is that of the serving channel
pub record OnServing (at : Place) (s : Connection) : Type 0 where
  pub at_serving : is_at at s.serving ≡ true
  pub old : AreAway at (undone s.draining)
  pub target : AreAway at (target_in s.state)

pub record OnTarget (at : Place) (s : Connection) (t : Target) : Type 0 where
  pub at_target : is_at at t.channel ≡ true
  pub old : AreAway at (undone s.draining)
  pub serving : is_at at s.serving ≡ false

pub is_on_serving : (s : Connection) (at : Place) → AreApart (used_channels s) → at ≡ place_of s.serving → OnServing at s
is_on_serving s at apart is =
    let others = middle_apart (undone s.draining) s.serving (target_in s.state) apart in
    subst (λ (x : Place). OnServing x s) (sym is) (record { at_serving = at_itself s.serving; old = others.0; target = others.1 })

pub is_on_target : (s : Connection) (t : Target) (at : Place) →
    AreApart (used_channels s) →
    commanded_target s.state ≡ Some t →
    at ≡ place_of t.channel →
    OnTarget at s t
is_on_target s t at apart is_target is =
    let others = last_apart (undone s.draining) s.serving t.channel (subst (λ (ts : List Channel). AreApart (undone s.draining ++ s.serving ∷ ts)) (target_in_is_so s.state t is_target) apart) in
    subst (λ (x : Place). OnTarget x s t) (sym is) (record { at_target = at_itself t.channel; old = others.0; serving = others.1 })

-- ---- where a mobile sits

pub data SitsOn (w : Actors) (serving : Channel) (target : Option Target) (tenure : Tenure) (command : Option Command) : Type 0 where
  serves : tenure ≡ tenure_at w (place_of serving) → Remembers w target command → SitsOn w serving target tenure command
  arrived : (t : Target) →
      target ≡ Some t →
      tenure ≡ tenure_at w (place_of t.channel) →
      command ≡ None →
      SitsOn w serving target tenure command

pub sits_on_tenure : {w : Actors} {serving : Channel} {target : Option Target} (tenure : Tenure) (command : Option Command) →
    Sits w serving target (On tenure command) →
    SitsOn w serving target tenure command
sits_on_tenure tenure command (unchanged is remembers) = serves is remembers
sits_on_tenure tenure command (at_its_target {target} is) = arrived target refl is refl

pub record SitsBetween (w : Actors) (serving : Channel) (target : Option Target) (from : Tenure) (command : Command) : Type 0 where
  pub to : Target
  pub is_target : target ≡ Some to
  pub from_serving : from ≡ tenure_at w (place_of serving)
  pub by : command ≡ command_to w to

pub sits_between : {w : Actors} {serving : Channel} {target : Option Target} (from : Tenure) (command : Command) →
    Sits w serving target (Moving from command) →
    SitsBetween w serving target from command
sits_between from command (between {target} is by) = record { to = target; is_target = refl; from_serving = is; by = by }
