-- SPDX-License-Identifier: MIT OR Apache-2.0
-- The messages relayed follow the tenures when a message arrives, a change is complete, or an old
-- channel is released.
use Rattle.controller_model.proofs.Prelude.{◌≡◌, ◌≢◌, ℕ, zero, suc, ◌==◌, Bool, true, false, if◌then◌else◌, List, [], ◌∷◌, ◌++◌, map}
use Rattle.controller_model.proofs.Prelude.{Option, Some, None, refl, sym, subst, ap, ◌∙◌, inl, inr, append-nil, true≢false, cases_Bool}
use Rattle.controller_model.proofs.Prelude.{cond-true, cond-false, eqb-true, and_parts, Channel, Place, Message, AreAway, drain_at_drains}
use Rattle.controller_model.proofs.Prelude.{same_place, Input, Drain, Connection, drain_at, is_at, TargetRole, Roles, RoleStep, RemainsOpen}
use Rattle.controller_model.proofs.Prelude.{after_step, leaves_at, roles_of, step_by, target_channels, target_role, unchanged, leaves}
use Rattle.controller_model.proofs.Prelude.{IsValid}
use Rattle.controller_model.proofs.Prelude.{Row, done_at, AreApart, Future, IsOpen, from_input, of_target, relayed, still_of, undone}
use Rattle.controller_model.proofs.Prelude.{used_channels, Sapi, Zero, Three, undone-still_draining, DrainsAt, drain_behind_away, row_of}
use Rattle.controller_model.proofs.Prelude.{used_in, ServedTenure, acknowledged, ended, heard, is_on, is_same, with_message, place_of}
use Rattle.conn_rules.specs.declared.input.Input.TheVariants as inputs
use Rattle.controller_model.proofs.LifeLaws.Following.{Follows, Killed, Serves, begun_same, begun_killed, joined_kill, joins, keeps, kill, kill_kills, none_on, of_target_role, older, quiet_keeps, role_killed, role_target, same_true, serving_off, still_kill, target_away}
use Rattle.controller_model.proofs.LifeLaws.Owning.{all_done_at, away_done}
use Rattle.controller_model.proofs.LifeLaws.Tenures.{NoneOn, clear, joined_acknowledged, joined_clear, joined_heard, joined_with, same_false, still_clear}

-- ---- an old channel is released

-- the others remain
undone_back : (at other : Place) (place : ℕ) (ds : List Drain) →
    DrainsAt at place ds →
    other ≢ at →
    AreAway other (undone (done_at place ds)) →
    AreAway other (undone ds)
undone_back at other place [] drains differ away = away
undone_back at other zero (d ∷ ds) drains differ away = by d.is_done
  where
    here : is_at other d.channel ≡ false
    here = elim (cases_Bool (is_at other d.channel)) [
      | inl hit ↦ absurd (differ (same_place other d.channel hit ∙ sym (same_place at d.channel drains.0)))
      | inr miss ↦ miss
    ]

    by : (b : Bool) → AreAway other (if b then undone ds else d.channel ∷ undone ds)
    by true = away
    by false = (here, away)
undone_back at other (suc place) (d ∷ ds) drains differ away = by d.is_done away (λ rest. undone_back at other place ds drains differ rest)
  where
    by : (b : Bool) →
        AreAway other (if b then undone (done_at place ds) else d.channel ∷ undone (done_at place ds)) →
        (AreAway other (undone (done_at place ds)) → AreAway other (undone ds)) →
        AreAway other (if b then undone ds else d.channel ∷ undone ds)
    by true away others = others away
    by false away others = (away.0, others away.1)

same_is : (one other : Place) → is_same one other ≡ true → one ≡ other
same_is one other hit =
    let parts = and_parts (one.station == other.station) (one.number == other.number) hit in
    ap (λ (n : ℕ). record one { station = n }) (eqb-true one.station other.station parts.0) ∙ ap (λ (n : ℕ). record other { number = n }) (eqb-true one.number other.number parts.1)

-- what is ended isn't on any channel
ended_off : (at other : Place) (t : ServedTenure) → is_on other t ≡ false → is_on other (ended at t) ≡ false
ended_off at other t miss = by (is_on at t)
  where
    by : (b : Bool) → is_on other (if b then record t { is_over = true } else t) ≡ false
    by true = refl
    by false = miss

ended_here : (at : Place) (t : ServedTenure) → is_on at (ended at t) ≡ false
ended_here at t = elim (cases_Bool (is_on at t)) [
  | inl hit ↦ ap (is_on at) (cond-true _ (record t { is_over = true }) t hit)
  | inr miss ↦ ap (is_on at) (cond-false _ (record t { is_over = true }) t miss) ∙ miss
]

none_ended : (at other : Place) (ts : List ServedTenure) → NoneOn other ts → NoneOn other (map (ended at) ts)
none_ended at other [] away = tt
none_ended at other (t ∷ old) away = (ended_off at other t away.0, none_ended at other old away.1)

none_here : (at : Place) (ts : List ServedTenure) → NoneOn at (map (ended at) ts)
none_here at [] = tt
none_here at (t ∷ old) = (ended_here at t, none_here at old)

kill_cleared : (target : Option TargetRole) (at : Place) (f : Future) → kill target (clear at f) at ≡ []
kill_cleared None at f = cond-true _ _ _ (same_true at)
kill_cleared (Some t) at f = elim (cases_Bool (is_same at (place_of t.target.channel))) [
  | inl hit ↦ cond-true _ _ _ hit
  | inr miss ↦ cond-false _ _ _ miss ∙ cond-true _ _ _ (same_true at)
]

pub release_follows : (s : Connection) (at : Place) (place : ℕ) (offer : Option Channel) (r : Row) (before : List Message) (ts : List ServedTenure) → IsValid s → AreApart (used_channels s) → AreApart (used_in (roles_of s)) → drain_at at s.draining ≡ Some place → row_of s (inputs.ReleaseAck at) offer ≡ Some r → IsOpen r.next.state →
    RemainsOpen (step_by (inputs.ReleaseAck at) (roles_of s)) (roles_of s) s.down (inputs.ReleaseAck at) offer r → Follows s before ts → Follows r.next (before ++ r.outs) (acknowledged at ts)
release_follows s at place offer r before [] valid apart roles_apart found is there on follows = absurd follows.serves
release_follows s at place offer r before (t ∷ older_ones) valid apart roles_apart found is there on follows =
    let input : Input = inputs.ReleaseAck at in
    let ts : List ServedTenure = t ∷ older_ones in
    let drains = drain_at_drains at s.draining place found in
    let step : step_by input (roles_of s) ≡ leaves place = ap leaves_at found in
    let after : after_step (step_by input (roles_of s)) (roles_of s) ≡ after_step (leaves place) (roles_of s) = ap (λ (k : RoleStep). after_step k (roles_of s)) step in
    let two = begun_same on.begun (after_step (step_by input (roles_of s)) (roles_of s)) in
    let serving : r.next.serving ≡ s.serving = ap (λ (roles : Roles). roles.serving) on.roles ∙ two.serving ∙ ap (λ (roles : Roles). roles.serving) after in
    let draining : undone r.next.draining ≡ undone (done_at place s.draining) =
    ap undone (ap (λ (roles : Roles). roles.draining) on.roles ∙ two.draining ∙ ap (λ (roles : Roles). roles.draining) after) ∙ undone-still_draining (done_at place s.draining) in
    let behind = drain_behind_away at place s.draining (s.serving ∷ target_channels (target_role s.state)) drains roles_apart in
    let gone : AreAway at (undone r.next.draining) = subst (AreAway at) (sym draining) (away_done at place s.draining (s.serving ∷ target_channels (target_role s.state)) drains roles_apart) in
    record {
      serves = subst (λ (c : Channel). Serves c (acknowledged at ts)) (sym serving) follows.serves;
      old = λ other away. elim (cases_Bool (is_same other at)) [
        | inl hit ↦ subst (λ (p : Place). NoneOn p (map (ended at) older_ones)) (sym (same_is other at hit)) (none_here at older_ones)
        | inr miss ↦ none_ended at other older_ones (follows.old other
            (undone_back at other place s.draining drains (λ same. true≢false (sym (ap (λ (p : Place). is_same p at) same ∙ same_true at) ∙ miss)) (subst (AreAway other) draining away)))
      ];
      up = λ sapi f.
          let g : Future = kill (target_role s.state) (clear at f) in
          let quiet = quiet_keeps sapi s input offer r g valid apart (kill_cleared (target_role s.state) at f) is there on (plain sapi g) (kill_kills (target_role s.state) (clear at f)) in
          let less : (p : Place) → AreAway p (undone s.draining) → AreAway p (undone r.next.draining) = λ p away. subst (AreAway p) (sym draining) (all_done_at (λ c. is_at p c ≡ false) place s.draining away) in
          let still : still_of sapi g r.next.serving r.next.draining r.next.up.tenures ≡ still_of sapi f r.next.serving r.next.draining r.next.up.tenures =
          still_kill sapi (clear at f) s (target_role s.state) r.next.serving r.next.draining r.next.up.tenures roles_apart serving less
          ∙ still_clear sapi at f r.next.serving r.next.draining r.next.up.tenures gone (ap (is_at at) serving ∙ behind.0) in
          ap (λ (xs : List (List ℕ)). relayed sapi (before ++ r.outs) ++ xs) (sym still)
          ∙ joins sapi before r.outs (still_of sapi g r.next.serving r.next.draining r.next.up.tenures) (still_of sapi g s.serving s.draining s.up.tenures) quiet
          ∙ follows.up sapi g ∙ joined_kill sapi (clear at f) s before ts (target_role s.state) roles_apart follows
          ∙ sym (joined_acknowledged sapi at f t older_ones (serving_off at s.serving t follows.serves.0 follows.serves.1 behind.0));
    }
  where
    plain : (sapi : Sapi) (f : Future) → from_input sapi (inputs.ReleaseAck at) f ≡ f
    plain Zero f = refl
    plain Three f = refl

-- ---- a message arrives

heard_off : (at other : Place) (of : Sapi) (message : List ℕ) (t : ServedTenure) → is_on other (heard at of message t) ≡ is_on other t
heard_off at other of message t = by (is_on at t) of
  where
    by : (b : Bool) (of : Sapi) → is_on other (if b then with_message of message t else t) ≡ is_on other t
    by true Zero = refl
    by _ _ = refl

none_heard : (at other : Place) (of : Sapi) (message : List ℕ) (ts : List ServedTenure) →
    NoneOn other ts →
    NoneOn other (map (heard at of message) ts)
none_heard at other of message [] away = tt
none_heard at other of message (t ∷ old) away = (heard_off at other of message t ∙ away.0, none_heard at other of message old away.1)

serves_heard : (serving : Channel) (at : Place) (of : Sapi) (message : List ℕ) (ts : List ServedTenure) →
    Serves serving ts →
    Serves serving (map (heard at of message) ts)
serves_heard serving at of message [] serves = serves
serves_heard serving at of message (t ∷ old) serves = by (is_on at t) of
  where
    by : (b : Bool) (of : Sapi) →
        ((if b then with_message of message t else t).is_over ≡ false) × ((if b then with_message of message t else t).place ≡ place_of serving)
    by true Zero = serves
    by _ _ = serves

older_heard : (at other : Place) (of : Sapi) (message : List ℕ) (ts : List ServedTenure) →
    NoneOn other (older ts) →
    NoneOn other (older (map (heard at of message) ts))
older_heard at other of message [] away = tt
older_heard at other of message (t ∷ old) away = none_heard at other of message old away

-- the target is on another channel
heard_killed : (sapi of : Sapi) (at : Place) (message : List ℕ) (f : Future) (target : Option TargetRole) →
    AreAway at (target_channels target) →
    Killed f target →
    Killed (from_input sapi (inputs.Dtap at of message) f) target
unfolding Killed
heard_killed sapi of at message f None away killed = tt
heard_killed Zero Zero at message f (Some t) away killed = cond-false _ _ _ (same_false at t.target.channel away.0) ∙ killed
heard_killed Three Three at message f (Some t) away killed = cond-false _ _ _ (same_false at t.target.channel away.0) ∙ killed
heard_killed Zero Three at message f (Some t) away killed = killed
heard_killed Three Zero at message f (Some t) away killed = killed

joined_killed : (sapi : Sapi) (f : Future) (s : Connection) (before : List Message) (at : Place) (of : Sapi) (message : List ℕ) (ts : List ServedTenure) (target : Option TargetRole) →
    AreApart (undone s.draining ++ s.serving ∷ target_channels target) →
    Follows s before ts →
    joined_with sapi (kill target f) (map (heard at of message) ts) ≡ joined_with sapi f (map (heard at of message) ts)
joined_killed sapi f s before at of message ts None apart follows = refl
joined_killed sapi f s before at of message ts (Some t) apart follows =
    let away = target_away s (Some t) apart t refl in
    joined_clear sapi (place_of t.target.channel) f (map (heard at of message) ts) (none_heard at (place_of t.target.channel) of message ts (none_on s before ts (place_of t.target.channel) follows away.0 away.1))

pub dtap_follows : (s : Connection) (at : Place) (of : Sapi) (message : List ℕ) (offer : Option Channel) (r : Row) (before : List Message) (ts : List ServedTenure) → IsValid s → AreApart (used_channels s) → AreApart (used_in (roles_of s)) → AreAway at (target_channels (target_role s.state)) → row_of s (inputs.Dtap at of message) offer ≡ Some r → IsOpen r.next.state →
    RemainsOpen unchanged (roles_of s) s.down (inputs.Dtap at of message) offer r → Follows s before ts → Follows r.next (before ++ r.outs) (map (heard at of message) ts)
dtap_follows s at of message offer r before ts valid apart roles_apart away is there on follows =
    let input : Input = inputs.Dtap at of message in
    let two = begun_same on.begun (roles_of s) in
    let serving : r.next.serving ≡ s.serving = ap (λ (roles : Roles). roles.serving) on.roles ∙ two.serving in
    let draining : r.next.draining ≡ s.draining = ap (λ (roles : Roles). roles.draining) on.roles ∙ two.draining in
    record {
      serves = subst (λ (c : Channel). Serves c (map (heard at of message) ts)) (sym serving) (serves_heard s.serving at of message ts follows.serves);
      old = λ other off. older_heard at other of message ts (follows.old other (subst (λ (ds : List Drain). AreAway other (undone ds)) draining off));
      up = λ sapi f.
          let g : Future = kill (target_role s.state) f in
          let h : Future = from_input sapi input g in
          let killed = kill_kills (target_role s.state) f in
          let next : of_target g r.next.state ≡ [] =
          of_target_role g r.next.state ∙ ap (λ (roles : Roles). role_target g roles.target) on.roles ∙ begun_killed g on.begun (roles_of s) (role_killed g (target_role s.state) killed) in
          let now : of_target h s.state ≡ [] = of_target_role h s.state ∙ role_killed h (target_role s.state) (heard_killed sapi of at message g (target_role s.state) away killed) in
          let quiet : relayed sapi r.outs ++ still_of sapi g r.next.serving r.next.draining r.next.up.tenures ≡ still_of sapi h s.serving s.draining s.up.tenures =
          ap (λ (xs : List (List ℕ)). relayed sapi r.outs ++ xs) (sym (append-nil (still_of sapi g r.next.serving r.next.draining r.next.up.tenures)) ∙ ap (λ (xs : List (List ℕ)). still_of sapi g r.next.serving r.next.draining r.next.up.tenures ++ xs) (sym next))
          ∙ keeps sapi s input offer r g valid apart tt is there
          ∙ ap (λ (xs : List (List ℕ)). still_of sapi h s.serving s.draining s.up.tenures ++ xs) now ∙ append-nil (still_of sapi h s.serving s.draining s.up.tenures) in
          ap (λ (xs : List (List ℕ)). relayed sapi (before ++ r.outs) ++ xs) (sym (still_kill sapi f s (target_role s.state) r.next.serving r.next.draining r.next.up.tenures roles_apart serving (λ p off. subst (λ (ds : List Drain). AreAway p (undone ds)) (sym draining) off)))
          ∙ joins sapi before r.outs (still_of sapi g r.next.serving r.next.draining r.next.up.tenures) (still_of sapi h s.serving s.draining s.up.tenures) quiet
          ∙ follows.up sapi h ∙ sym (joined_heard sapi of at message g ts) ∙ joined_killed sapi f s before at of message ts (target_role s.state) roles_apart follows;
    }
