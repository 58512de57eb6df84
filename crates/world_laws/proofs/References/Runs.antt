-- SPDX-License-Identifier: MIT OR Apache-2.0
-- A step of the controller keeps what a connection and the switch agree on.
use Rattle.world_laws.proofs.Prelude.{◌≡◌, ◌⊎◌, ℕ, ◌+◌, ◌≤◌, ◌<◌, nat_le, Bool, true, false, List, [], ◌∷◌, ◌++◌, find, None, refl, sym, ap}
use Rattle.world_laws.proofs.Prelude.{◌∙◌, subst, arith, inl, inr, cases_Bool, leb-true, IsReference, Message, SWITCH_LINK}
use Rattle.world_laws.proofs.Prelude.{AllByRecursion-append, connection_of, REFERENCE_BASE, SwitchState, Actors, outbox_of, is_of_peer}
use Rattle.world_laws.proofs.Prelude.{is_unasked, is_asking, is_unheard, is_known}
use Rattle.world_laws.specs.References.Agree.{Agrees, AsksOnce, Confirms, HasAsked, IsAsked, IsKnown, IsOnItsWay, IsUnknown, Knows, Never}
use Rattle.world_laws.specs.References.Agree.{Only, Runs, IsFirstAt, is_over, over_after, reads_of}
use Rattle.world_laws.specs.References.Naming.{ArePlain, AreQuiet, StepsTo, IsAsking, IsClearing, IsUnnamed, Reach, early, waits, due, named}
use Rattle.world_laws.specs.References.Naming.{cleared, gone, reach_of}
use Rattle.world_laws.specs.References.Naming.StepsTo.{unchanged, leaves, fails, asks, confirmed, speaks, clears}
use Rattle.world_laws.specs.References.Reads.{AreNothing, ArePlainReads, IsNothing, Read, asks as read_asks, carries as read_carries}
use Rattle.world_laws.specs.References.Reads.{clears as read_clears, tells as read_tells, nothing as read_nothing}
use Rattle.world_laws.proofs.References.Goings.{Begins}

-- ---- what is put behind what waits

nothing_more : (xs ys : List Read) → AreNothing xs → AreNothing ys → AreNothing (xs ++ ys)
nothing_more xs ys first rest = AllByRecursion-append IsNothing xs ys first rest

asks_more : (n : ℕ) (xs ys : List Read) → AsksOnce n xs → AreNothing ys → AsksOnce n (xs ++ ys)
asks_more n (read_asks source initial ∷ xs) ys once quiet = (once.0, nothing_more xs ys once.1 quiet)
asks_more n (read_nothing ∷ xs) ys once quiet = asks_more n xs ys once quiet
asks_more n _ ys once quiet = absurd once

asks_behind : (n : ℕ) (message : List ℕ) (xs : List Read) → AreNothing xs → AsksOnce n (xs ++ read_asks n message ∷ [])
asks_behind n message [] quiet = (refl, tt)
asks_behind n message (read_nothing ∷ xs) quiet = asks_behind n message xs quiet.1
asks_behind n message _ quiet = absurd quiet.0

pub quiet_runs : (k : ℕ) (over : Bool) (ys : List Read) → AreNothing ys → Runs k over ys over
quiet_runs k over [] quiet = refl
quiet_runs k over (read_nothing ∷ ys) quiet = (tt, quiet_runs k over ys quiet.1)
quiet_runs k over _ quiet = absurd quiet.0

plain_runs : (k : ℕ) (ys : List Read) → ArePlainReads k ys → Runs k false ys false
plain_runs k [] plain = refl
plain_runs k (read_nothing ∷ ys) plain = (tt, plain_runs k ys plain.1)
plain_runs k (read_carries d m ∷ ys) plain = ((refl, plain.0), plain_runs k ys plain.1)
plain_runs k (read_tells d ∷ ys) plain = ((refl, plain.0), plain_runs k ys plain.1)
plain_runs k _ plain = absurd plain.0

clear_runs : (k : ℕ) (qs : List Read) → AreNothing qs → Runs k false (qs ++ read_clears k ∷ []) true
clear_runs k [] quiet = ((refl, refl), refl)
clear_runs k (read_nothing ∷ qs) quiet = (tt, clear_runs k qs quiet.1)
clear_runs k _ quiet = absurd quiet.0

runs_more : (k : ℕ) (over between last : Bool) (xs ys : List Read) →
    Runs k over xs between →
    Runs k between ys last →
    Runs k over (xs ++ ys) last
runs_more k over between last [] ys first rest = subst (λ (b : Bool). Runs k b ys last) (sym first) rest
runs_more k over between last (x ∷ xs) ys first rest = (first.0, runs_more k (over_after over x) between last xs ys first.1 rest)

-- ---- the connection

-- what of the put messages is put for the switch, as that will read it
pub record Says (n : ℕ) (put : List Message) (more : List Read) : Type 0 where
  pub quiet : AreQuiet put → AreNothing more
  pub plain : (k : ℕ) → IsReference k → ArePlain k put → ArePlainReads k more
  pub asking : IsAsking put → (more ≡ []) ⊎ ((message : List ℕ) × (more ≡ read_asks n message ∷ []))
  pub clearing : (k : ℕ) →
      IsReference k →
      IsClearing k put →
      (more ≡ []) ⊎ ((qs : List Read) × AreNothing qs × (more ≡ qs ++ read_clears k ∷ []))

-- The switch is as it was, and what waits for it is longer by these.
pub record Grows (w v : Actors) (n : ℕ) (more : List Read) : Type 0 where
  pub same : v.switch ≡ w.switch
  pub all : reads_of n (outbox_of v SWITCH_LINK) ≡ reads_of n (outbox_of w SWITCH_LINK) ++ more
  pub numbers : w.controller.next_number ≤ v.controller.next_number
  pub there : reach_of (connection_of v.controller n) ≡ early → n < v.controller.next_number

early_named : (k : ℕ) → early ≡ named k → ⊥
early_named k is = absurd cc

early_unnamed : (a : Reach) → early ≡ a → IsUnnamed a → ⊥
early_unnamed a is un = absurd (subst IsUnnamed (sym is) un)

asked_unnamed : (b : Reach) → IsUnnamed b → IsAsked b
asked_unnamed waits un = tt
asked_unnamed due un = tt
asked_unnamed (named k) un = absurd un
asked_unnamed _ un = absurd un

knows_unnamed : (k : ℕ) (last : Bool) (a : Reach) → IsUnnamed a → Knows k last a → last ≡ false
knows_unnamed k last waits un knows = knows
knows_unnamed k last due un knows = knows
knows_unnamed k last (named own) un knows = absurd un
knows_unnamed k last _ un knows = absurd un

unnamed_knows : (k : ℕ) (last : Bool) (a : Reach) → IsUnnamed a → last ≡ false → Knows k last a
unnamed_knows k last waits un is = is
unnamed_knows k last due un is = is
unnamed_knows k last (named own) un is = absurd un
unnamed_knows k last _ un is = absurd un

module _ (w v : Actors) (n : ℕ) (put : List Message) (more : List Read) (grows : Grows w v n more) (keeps : (P : ℕ → Type 0) → Confirms P w n → Confirms P v n) (says : Says n put more) where
  none_there : find (is_of_peer n) w.switch.connections ≡ None → find (is_of_peer n) v.switch.connections ≡ None
  none_there none = subst (λ (s : SwitchState). find (is_of_peer n) s.connections ≡ None) (sym grows.same) none

  unknown_more : IsUnknown w n → AreNothing more → IsUnknown v n
  unknown_more unknown quiet = record {
    none = none_there unknown.none;
    quiet = subst AreNothing (sym grows.all) (nothing_more (reads_of n (outbox_of w SWITCH_LINK)) more unknown.quiet quiet);
    unconfirmed = keeps Never unknown.unconfirmed;
  }

  on_way : IsOnItsWay w n → AreNothing more → IsOnItsWay v n
  on_way way quiet = record {
    none = none_there way.none;
    once = subst (AsksOnce n) (sym grows.all) (asks_more n (reads_of n (outbox_of w SWITCH_LINK)) more way.once quiet);
    unconfirmed = keeps Never way.unconfirmed;
  }

  -- it begins
  pub begins_agree : Begins w.controller.next_number n put (connection_of w.controller n) (connection_of v.controller n) →
      Agrees w n →
      Agrees v n
  begins_agree begins (is_unasked un unknown) = is_unasked (inr (grows.there begins.is_early, begins.is_early)) (unknown_more unknown (says.quiet begins.quiet))
  begins_agree begins (is_asking has way) = absurd (let past = has.past in let is = begins.is_next in omega (arith, past, is))
  begins_agree begins (is_unheard has unknown) = absurd (let past = has.past in let is = begins.is_next in omega (arith, past, is))
  begins_agree begins (is_known past known) = absurd (let is = begins.is_next in omega (arith, past, is))

  past_more : n < w.controller.next_number → n < v.controller.next_number
  past_more past = let rises = grows.numbers in omega (arith, past, rises)

  has_asked : n < w.controller.next_number → (b : Reach) → reach_of (connection_of v.controller n) ≡ b → IsAsked b → HasAsked v n
  has_asked past b is asked = record { past = past_more past; asked = subst IsAsked (sym is) asked }

  -- it wasn't there
  changed_none : IsUnknown w n → (b : Reach) → reach_of (connection_of v.controller n) ≡ b → IsAsked b → AreNothing more → Agrees v n
  changed_none unknown b is asked quiet = elim (cases_Bool (nat_le v.controller.next_number n)) [
    | inl hit ↦ is_unasked (inl (leb-true v.controller.next_number n hit)) (unknown_more unknown quiet)
    | inr miss ↦ is_unheard (record { past = less miss; asked = subst IsAsked (sym is) asked }) (unknown_more unknown quiet)
  ] where
    less : nat_le v.controller.next_number n ≡ false → n < v.controller.next_number
    less miss = grind (arith, miss)

  asking_now : n < w.controller.next_number →
      IsUnknown w n →
      (b : Reach) →
      reach_of (connection_of v.controller n) ≡ b →
      IsAsked b →
      (more ≡ []) ⊎ ((message : List ℕ) × (more ≡ read_asks n message ∷ [])) →
      Agrees v n
  asking_now past unknown b is asked (inl none) = is_unheard (has_asked past b is asked) (unknown_more unknown (subst AreNothing (sym none) tt))
  asking_now past unknown b is asked (inr (message, one)) = is_asking (has_asked past b is asked) (record {
    none = none_there unknown.none;
    once = subst (AsksOnce n) (sym (grows.all ∙ ap (λ (xs : List Read). reads_of n (outbox_of w SWITCH_LINK) ++ xs) one)) (asks_behind n message (reads_of n (outbox_of w SWITCH_LINK)) unknown.quiet);
    unconfirmed = keeps Never unknown.unconfirmed;
  })

  module _ (given : ℕ → Type 0) (told : (P : ℕ → Type 0) → Confirms P w n → (r : ℕ) → given r → P r) where
    steps_early : n < w.controller.next_number →
        IsUnknown w n →
        {a b : Reach} →
        early ≡ a →
        reach_of (connection_of v.controller n) ≡ b →
        StepsTo given put a b →
        Agrees v n
    steps_early past unknown from to (unchanged quiet) = is_unasked (inr (past_more past, to ∙ sym from)) (unknown_more unknown (says.quiet quiet))
    steps_early past unknown from to (leaves quiet) = is_unheard (has_asked past gone to tt) (unknown_more unknown (says.quiet quiet))
    steps_early past unknown {a} from to (fails un_a un_b quiet) = absurd (early_unnamed a from un_a)
    steps_early past unknown from to (asks asking) = asking_now past unknown waits to tt (says.asking asking)
    steps_early past unknown {a} from to (confirmed k un_a confirms_it plain) = absurd (early_unnamed a from un_a)
    steps_early past unknown from to (speaks {reference = k} plain) = absurd (early_named k from)
    steps_early past unknown from to (clears {reference = k} clearing) = absurd (early_named k from)

    steps_asked : {a b : Reach} → Confirms Never w n → IsAsked a → StepsTo given put a b → IsAsked b × AreNothing more
    steps_asked un asked (unchanged quiet) = (asked, says.quiet quiet)
    steps_asked un asked (leaves quiet) = (tt, says.quiet quiet)
    steps_asked {b = b} un asked (fails un_a un_b quiet) = (asked_unnamed b un_b, says.quiet quiet)
    steps_asked un asked (asks asking) = absurd asked
    steps_asked un asked (confirmed k un_a confirms_it plain) = absurd (told Never un k confirms_it)
    steps_asked un asked (speaks plain) = absurd asked
    steps_asked un asked (clears clearing) = absurd asked

    -- the last flag, how it runs on, and what it knows then
    record RunsOn (known : IsKnown w n) (b : Reach) : Type 0 where
      then_last : Bool
      on : Runs (REFERENCE_BASE + (known.place + 1)) known.last more then_last
      knows_then : Knows (REFERENCE_BASE + (known.place + 1)) then_last b

    plain_on : (known : IsKnown w n) →
        known.last ≡ false →
        ArePlainReads (REFERENCE_BASE + (known.place + 1)) more →
        (r : ℕ) →
        r ≡ REFERENCE_BASE + (known.place + 1) →
        RunsOn known (named r)
    plain_on known unclear plain r is = record {
      then_last = false;
      on = subst (λ (b : Bool). Runs (REFERENCE_BASE + (known.place + 1)) b more false) (sym unclear) (plain_runs (REFERENCE_BASE + (known.place + 1)) more plain);
      knows_then = (is, refl);
    }

    clear_on : (known : IsKnown w n) →
        known.last ≡ false →
        (more ≡ []) ⊎ ((qs : List Read) × AreNothing qs × (more ≡ qs ++ read_clears (REFERENCE_BASE + (known.place + 1)) ∷ [])) →
        RunsOn known cleared
    clear_on known unclear (inl none) = record { then_last = known.last; on = subst (λ (xs : List Read). Runs (REFERENCE_BASE + (known.place + 1)) known.last xs known.last) (sym none) refl; knows_then = tt }
    clear_on known unclear (inr (qs, quiet, are)) = record {
      then_last = true;
      on = subst (λ (xs : List Read). Runs (REFERENCE_BASE + (known.place + 1)) known.last xs true) (sym are)
          (subst (λ (b : Bool). Runs (REFERENCE_BASE + (known.place + 1)) b (qs ++ read_clears (REFERENCE_BASE + (known.place + 1)) ∷ []) true) (sym unclear) (clear_runs (REFERENCE_BASE + (known.place + 1)) qs quiet));
      knows_then = tt;
    }

    quiet_on : (known : IsKnown w n) (b : Reach) →
        Knows (REFERENCE_BASE + (known.place + 1)) known.last b →
        AreNothing more →
        RunsOn known b
    quiet_on known b knows quiet = record { then_last = known.last; on = quiet_runs (REFERENCE_BASE + (known.place + 1)) known.last more quiet; knows_then = knows }

    steps_of_known : (known : IsKnown w n) {a b : Reach} →
        Knows (REFERENCE_BASE + (known.place + 1)) known.last a →
        StepsTo given put a b →
        RunsOn known b
    steps_of_known known {a} knows (unchanged quiet) = quiet_on known a knows (says.quiet quiet)
    steps_of_known known knows (leaves quiet) = quiet_on known gone tt (says.quiet quiet)
    steps_of_known known {a} {b} knows (fails un_a un_b quiet) = quiet_on known b (unnamed_knows (REFERENCE_BASE + (known.place + 1)) known.last b un_b (knows_unnamed (REFERENCE_BASE + (known.place + 1)) known.last a un_a knows)) (says.quiet quiet)
    steps_of_known known knows (asks asking) = absurd knows
    steps_of_known known {a} knows (confirmed k un_a confirms_it plain) =
        let is : k ≡ REFERENCE_BASE + (known.place + 1) = told (Only (REFERENCE_BASE + (known.place + 1))) known.confirmed k confirms_it in
        plain_on known (knows_unnamed (REFERENCE_BASE + (known.place + 1)) known.last a un_a knows) (says.plain (REFERENCE_BASE + (known.place + 1)) known.fits (subst (λ (x : ℕ). ArePlain x put) is plain)) k is
    steps_of_known known knows (speaks {reference = k} plain) =
        plain_on known knows.1 (says.plain (REFERENCE_BASE + (known.place + 1)) known.fits (subst (λ (x : ℕ). ArePlain x put) knows.0 plain)) k knows.0
    steps_of_known known knows (clears {reference = k} clearing) =
        clear_on known knows.1 (says.clearing (REFERENCE_BASE + (known.place + 1)) known.fits (subst (λ (x : ℕ). IsClearing x put) knows.0 clearing))

    known_more : (known : IsKnown w n) (b : Reach) → reach_of (connection_of v.controller n) ≡ b → RunsOn known b → IsKnown v n
    known_more known b to on = record {
      place = known.place;
      of = known.of;
      last = on.then_last;
      first_at = subst (λ (s : SwitchState). IsFirstAt n known.place known.of s.connections) (sym grows.same) known.first_at;
      fits = known.fits;
      runs = subst (λ (xs : List Read). Runs (REFERENCE_BASE + (known.place + 1)) (is_over known.of.stage) xs on.then_last) (sym grows.all)
          (runs_more (REFERENCE_BASE + (known.place + 1)) (is_over known.of.stage) known.last on.then_last (reads_of n (outbox_of w SWITCH_LINK)) more known.runs on.on);
      confirmed = keeps (Only (REFERENCE_BASE + (known.place + 1))) known.confirmed;
      knows = subst (Knows (REFERENCE_BASE + (known.place + 1)) on.then_last) (sym to) on.knows_then;
    }

    -- one that wasn't there, or is no longer there, remains so
    steps_beyond : w.controller.next_number ≤ n →
        reach_of (connection_of w.controller n) ≡ gone →
        IsUnknown w n →
        StepsTo given put (reach_of (connection_of w.controller n)) (reach_of (connection_of v.controller n)) →
        Agrees v n
    steps_beyond beyond none unknown steps =
        let on = steps_asked {a = gone} {b = reach_of (connection_of v.controller n)} unknown.unconfirmed tt (subst (λ (a : Reach). StepsTo given put a (reach_of (connection_of v.controller n))) none steps) in
        changed_none unknown (reach_of (connection_of v.controller n)) refl on.0 on.1

    pub steps_agree : (w.controller.next_number ≤ n → reach_of (connection_of w.controller n) ≡ gone) →
        StepsTo given put (reach_of (connection_of w.controller n)) (reach_of (connection_of v.controller n)) →
        Agrees w n →
        Agrees v n
    steps_agree none steps (is_unasked (inl beyond) unknown) = steps_beyond beyond (none beyond) unknown steps
    steps_agree none steps (is_unasked (inr (past, is)) unknown) = steps_early past unknown (sym is) refl steps
    steps_agree none steps (is_asking has way) =
        let on = steps_asked way.unconfirmed has.asked steps in
        is_asking (has_asked has.past (reach_of (connection_of v.controller n)) refl on.0) (on_way way on.1)
    steps_agree none steps (is_unheard has unknown) =
        let on = steps_asked unknown.unconfirmed has.asked steps in
        is_unheard (has_asked has.past (reach_of (connection_of v.controller n)) refl on.0) (unknown_more unknown on.1)
    steps_agree none steps (is_known past known) = is_known (past_more past) (known_more known (reach_of (connection_of v.controller n)) refl (steps_of_known known known.knows steps))

    -- one that the switch never hears of remains so
    pub steps_unheard : StepsTo given put (reach_of (connection_of w.controller n)) (reach_of (connection_of v.controller n)) →
        HasAsked w n →
        IsUnknown w n →
        HasAsked v n × IsUnknown v n
    steps_unheard steps has unknown =
        let on = steps_asked unknown.unconfirmed has.asked steps in
        (has_asked has.past (reach_of (connection_of v.controller n)) refl on.0, unknown_more unknown on.1)

    -- one that didn't ask remains so, or asks, or is removed with nothing on its way
    pub early_steps : n < w.controller.next_number →
        IsUnknown w n →
        {a b : Reach} →
        early ≡ a →
        reach_of (connection_of v.controller n) ≡ b →
        StepsTo given put a b →
        (reach_of (connection_of v.controller n) ≡ early) ⊎ (reach_of (connection_of v.controller n) ≡ waits) ⊎ (HasAsked v n × IsUnknown v n)
    early_steps past unknown from to (unchanged quiet) = inl (to ∙ sym from)
    early_steps past unknown from to (leaves quiet) = inr (inr (has_asked past gone to tt, unknown_more unknown (says.quiet quiet)))
    early_steps past unknown {a} from to (fails un_a un_b quiet) = absurd (early_unnamed a from un_a)
    early_steps past unknown from to (asks asking) = inr (inl to)
    early_steps past unknown {a} from to (confirmed k un_a confirms_it plain) = absurd (early_unnamed a from un_a)
    early_steps past unknown from to (speaks {reference = k} plain) = absurd (early_named k from)
    early_steps past unknown from to (clears {reference = k} clearing) = absurd (early_named k from)
