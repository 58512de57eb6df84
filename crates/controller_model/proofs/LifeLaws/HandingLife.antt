-- SPDX-License-Identifier: MIT OR Apache-2.0
-- Messages are handed in place over a whole life.
use Rattle.controller_model.proofs.Prelude.{◌≡◌, ℕ, ◌≤◌, ◌<◌, ◌&&◌, ◌||◌, not, Bool, true, false, List, [], ◌∷◌, ◌++◌, fold, Option, Some}
use Rattle.controller_model.proofs.Prelude.{None, refl, sym, subst, ap, ◌∙◌, inl, inr, arith, append-nil, true≢false, and_parts}
use Rattle.controller_model.proofs.Prelude.{flat_map-append, AllByRecursion, list_any, Channel, Place, Message, Station, SWITCH_LINK}
use Rattle.controller_model.proofs.Prelude.{access_activation, Input, Complete, State, WaitActivation, WaitEstablish, WaitConfirm, Live}
use Rattle.controller_model.proofs.Prelude.{Closed, Removed, Connection, new_connection, Row, IsHandedTo, IsChanging, IsOpen, OfRow, IsValid}
use Rattle.controller_model.proofs.Prelude.{after_pass, Sapi, Zero, Three, Parameters, or_cases, fold-append, AllByRecursion-so, AreParting}
use Rattle.controller_model.proofs.Prelude.{IsParting, Does, IsReleaseComplete, OnlyReleases, handed, row_of, Acts, Brought, IsAged}
use Rattle.controller_model.proofs.Prelude.{IsBrought, brought_in, kept_in, ages, takes_row, opens, rests, AreHandedToServing, HasNoStream, IsAway}
use Rattle.controller_model.proofs.Prelude.{IsThere, OnlyReleasesAfter, Moment, all_messages, connection_of, word_in, ServedTenure}
use Rattle.controller_model.proofs.Prelude.{after_input}
use Rattle.controller_model.proofs.Prelude.{after_moment, after_word, service, Step, Word, Controller, is_up, new_controller, place_of}
use Rattle.controller_model.proofs.Prelude.{life, step, DataRequest}
use Rattle.std.proofs.lemmas.List.Folds.{list_any-append}
use Rattle.conn_rules.proofs.DownlinkSteps.Does.{ends, passes, moves}
use Rattle.conn_rules.proofs.DownlinkTable.{Does-row}
use Rattle.conn_rules.specs.declared.input.Input.TheVariants as inputs
use Rattle.controller_model.specs.LifeLaws.Handing.{AllInPlace, AreHandedOn, HandsInPlace, IsHandedOn, answers_by, begins_by, breaks_switch, changes_after, is_clear, is_clear_complete, is_cleared, on_channel, with_change}
use Rattle.controller_model.proofs.LifeLaws.Beside.{step_keeps_rest}
use Rattle.controller_model.proofs.LifeLaws.DownlinkLife.{begun_in, frames_in_life, history_of, moments_of}
use Rattle.controller_model.proofs.LifeLaws.Fitting.{Fits, IsFine, aged_holds, fine_old, new_fits, step_fits}
use Rattle.controller_model.proofs.LifeLaws.FollowingSteps.{word_none}
use Rattle.controller_model.proofs.LifeLaws.FollowingTable.{row_by, row_is_by}
use Rattle.controller_model.proofs.LifeLaws.HandingPut.{Clears, clear_row}
use Rattle.controller_model.proofs.LifeLaws.HandingServing.{HandsNone, ServesIn, early_row, first_place, quiet_serves, row_serves, next_in}
use Rattle.controller_model.proofs.LifeLaws.HandingSteps.{SaysInput, begins_is, begins_only, ends_is, step_says_input, tenures_are}
use Rattle.controller_model.proofs.LifeLaws.HandingTable.{Commands, ChangesOrEnds, changing_row, cleared_row, command_row}
use Rattle.controller_model.proofs.LifeLaws.Progress.{IsLive}
use Rattle.controller_model.proofs.LifeLaws.Silence.{kept_holds, same_state, step_silence, there_kept}
use Rattle.controller_model.proofs.LifeLaws.SilenceLife.{life_reads}
use Rattle.controller_model.proofs.LifeLaws.Switched.{IsBegun, some_begun, was}
use Rattle.controller_model.proofs.LifeLaws.Turns.{step_does}

-- ---- what was put, and the connection

abbrev pub ServesOf : ℕ → ℕ → List ServedTenure → Option Connection → Type 0
ServesOf number next ts None = next ≤ number → ts ≡ []
ServesOf number next ts (Some s) = ServesIn s.state s ts

abbrev pub IsClearedIn : Option Connection → Type 0
IsClearedIn None = Unit {0}
IsClearedIn (Some s) = s.state ≡ Closed Complete

-- While a change is under way the mobile is away; the first tenure is that of the serving channel;
-- CLEAR COMPLETE was put for a connection that is cleared or removed.
pub record Agrees (number next : ℕ) (changes : Bool) (ts : List ServedTenure) (clear : Bool) (o : Option Connection) : Type 0 where
  pub away : changes ≡ true → IsAway o
  pub serves : ServesOf number next ts o
  pub cleared : clear ≡ true → (number < next) × IsClearedIn o

abbrev pub changed : Word → Bool → Bool → List Message → Bool
changed word broken changes put = on_channel begins_by word put || (changes && not (on_channel answers_by word put || (list_any is_clear put || broken)))

-- ---- words

-- where no change begins, one was under way already, and didn't end
handed_not_begun : (word : Word) (broken changes : Bool) (put : List Message) →
    on_channel begins_by word put ≡ false →
    changed word broken changes put ≡ true →
    (changes ≡ true) × (not (on_channel answers_by word put || (list_any is_clear put || broken)) ≡ true)
handed_not_begun word broken changes put none is = elim (or_cases (on_channel begins_by word put) (changes && not (on_channel answers_by word put || (list_any is_clear put || broken))) is) [
  | inl begins ↦ absurd (true≢false (sym begins ∙ none))
  | inr on ↦ and_parts changes (not (on_channel answers_by word put || (list_any is_clear put || broken))) on
]

changing_kept : (state : State) (s : Connection) → s.state ≡ state → IsChanging s.state → IsAway (kept_in state s)
changing_kept Removed s is changing = subst IsChanging is changing
changing_kept _ s is changing = changing

aged_changing : (old s : Connection) → IsAged old s → IsChanging old.state → IsChanging s.state
aged_changing old s aged changing = subst IsChanging (sym (same_state old s aged)) changing

pass_serves : (state : State) (ms : ℕ) (s : Connection) (ts : List ServedTenure) → ServesIn state s ts → ServesIn state (after_pass ms s) ts
pass_serves (Closed clearing) ms s ts serves = tt
pass_serves Removed ms s ts serves = tt
pass_serves _ ms s ts serves = serves

aged_serves : (old s : Connection) (ts : List ServedTenure) → IsAged old s → ServesIn old.state old ts → ServesIn s.state s ts
aged_serves old s ts aged serves = aged_holds (λ (c : Connection). ServesIn c.state c ts) (λ ms c holds. pass_serves c.state ms c ts holds) old s aged serves

-- ---- each step

-- nothing is put, and it is unchanged
rest_serves : (number next later : ℕ) (o : Option Connection) (word : Word) (ts : List ServedTenure) →
    next ≤ later →
    ServesOf number next ts o →
    ServesOf number later (after_word word [] ts) o
rest_serves number next later None word ts more serves = λ less. ap (after_word word []) (serves (omega arith)) ∙ word_none word [] refl
rest_serves number next later (Some s) word ts more serves = quiet_serves s.state s word ts serves

rest_agrees : (number next later : ℕ) (changes : Bool) (ts : List ServedTenure) (cleared : Bool) (word : Word) (broken : Bool) (o : Option Connection) →
    next ≤ later →
    Agrees number next changes ts cleared o →
    Agrees number later (changed word broken changes []) (after_word word [] ts) (cleared || false) o
rest_agrees number next later changes ts cleared word broken o more agrees = record {
  away = λ is. agrees.away (handed_not_begun word broken changes [] (begins_only word [] refl) is).0;
  serves = rest_serves number next later o word ts more agrees.serves;
  cleared = λ is. let was = agrees.cleared (or_none cleared is) in (let less = was.0 in omega arith, was.1);
}
  where
    or_none : (b : Bool) → (b || false) ≡ true → b ≡ true
    or_none true is = refl
    or_none false is = is

-- time passes
aged_agrees : (number next : ℕ) (changes : Bool) (ts : List ServedTenure) (cleared : Bool) (old s : Connection) →
    IsAged old s →
    Agrees number next changes ts cleared (Some old) →
    Agrees number next changes ts cleared (Some s)
aged_agrees number next changes ts cleared old s aged agrees = record {
  away = λ is. aged_changing old s aged (agrees.away is);
  serves = aged_serves old s ts aged agrees.serves;
  cleared = λ is. let was = agrees.cleared is in (was.0, same_state old s aged ∙ was.1);
}

-- a row
begun_changing : (s : Connection) (input : Input) (offer : Option Channel) (r : Row) →
    row_of s input offer ≡ Some r →
    begins_by input r.outs ≡ true →
    IsChanging r.next.state
begun_changing s (inputs.ActivationAck at) offer r fits begins = subst (OfRow Commands) fits (command_row s at offer) begins
begun_changing s _ offer r fits begins = absurd (cc begins)

row_changing : (s : Connection) (input : Input) (offer : Option Channel) (r : Row) (word : Word) (broken changes : Bool) →
    row_of s input offer ≡ Some r →
    SaysInput word broken input →
    (changes ≡ true → IsChanging s.state) →
    changed word broken changes r.outs ≡ true →
    IsChanging r.next.state
row_changing s input offer r word broken changes fits says away is = elim (or_cases (on_channel begins_by word r.outs) (changes && not (on_channel answers_by word r.outs || (list_any is_clear r.outs || broken))) is) [
  | inl begins ↦ begun_changing s input offer r fits (sym (begins_is word broken input r.outs says) ∙ begins)
  | inr on ↦
      let parts = and_parts changes (not (on_channel answers_by word r.outs || (list_any is_clear r.outs || broken))) on in
      let changes_or_ends : ChangesOrEnds input r = subst (OfRow (ChangesOrEnds input)) fits (changing_row s input offer (away parts.0)) in
      elim changes_or_ends [
        | inl changing ↦ changing
        | inr over ↦ absurd (true≢false (sym parts.1 ∙ ap (λ (b : Bool). not b) (ends_is word broken input r.outs says over)))
      ]
]

removed_cleared : (state : State) (s : Connection) → state ≡ Removed → IsClearedIn (kept_in state s)
removed_cleared state s is = subst (λ (state : State). IsClearedIn (kept_in state s)) (sym is) tt

row_agrees : (number next later : ℕ) (changes : Bool) (ts : List ServedTenure) (cleared : Bool) (word : Word) (broken : Bool) (s : Connection) (input : Input) (offer : Option Channel) (r : Row) → number < next → next ≤ later → IsValid s → SaysInput word broken input → row_of s input offer ≡ Some r →
    Agrees number next changes ts cleared (Some s) → Agrees number later (changed word broken changes r.outs) (after_word word r.outs ts) (cleared || list_any is_clear_complete r.outs) (kept_in r.next.state r.next)
row_agrees number next later changes ts cleared word broken s input offer r less more valid says fits agrees = record {
  away = λ is. changing_kept r.next.state r.next refl (row_changing s input offer r word broken changes fits says agrees.away is);
  serves = subst (λ (us : List ServedTenure). ServesOf number later us (kept_in r.next.state r.next)) (sym (tenures_are word broken input r.outs ts says))
      (kept_holds (ServesOf number later (after_input input r.outs ts)) r.next.state r.next (λ none. absurd (omega arith)) (row_serves s input offer r ts valid fits agrees.serves));
  cleared = λ is. (
    omega arith,
    elim (or_cases cleared (list_any is_clear_complete r.outs) is) [
      | inl was_cleared ↦ removed_cleared r.next.state r.next (subst (OfRow (λ (q : Row). q.next.state ≡ Removed)) fits (cleared_row s input offer (agrees.cleared was_cleared).1))
      | inr clears ↦ kept_holds IsClearedIn r.next.state r.next tt (subst (OfRow Clears) fits (clear_row s input offer) clears)
    ],
  );
}

pub acts_place : (number next later : ℕ) (up : Bool) (brought : Brought) (before after : Option Connection) (put : List Message) (changes : Bool) (ts : List ServedTenure) (cleared : Bool) (word : Word) (broken : Bool) → Acts number next up brought before put after → next ≤ later → IsBegun number next before → IsFine before →
    ((input : Input) → IsBrought brought input → SaysInput word broken input) → Agrees number next changes ts cleared before → Agrees number later (changed word broken changes put) (after_word word put ts) (cleared || list_any is_clear_complete put) after
acts_place number next later up brought before after put changes ts cleared word broken (rests silent same none) more begins fine says agrees =
    subst (Agrees number later (changed word broken changes put) (after_word word put ts) (cleared || list_any is_clear_complete put)) (sym same)
    (subst (λ (ms : List Message). Agrees number later (changed word broken changes ms) (after_word word ms ts) (cleared || list_any is_clear_complete ms) before) (sym silent)
    (rest_agrees number next later changes ts cleared word broken before more agrees))
acts_place number next later up brought before after put changes ts cleared word broken (ages old now is_time is aged silent same) more begins fine says agrees =
    subst (Agrees number later (changed word broken changes put) (after_word word put ts) (cleared || list_any is_clear_complete put)) (sym same)
    (subst (λ (ms : List Message). Agrees number later (changed word broken changes ms) (after_word word ms ts) (cleared || list_any is_clear_complete ms) (Some now)) (sym silent)
    (rest_agrees number next later changes ts cleared word broken (Some now) more (aged_agrees number next changes ts cleared old now aged (subst (Agrees number next changes ts cleared) is agrees))))
acts_place number next later up brought before after put changes ts cleared word broken (opens begins_as linked_up channel request delay is_nothing none_before put_is same) more begins fine says agrees =
    let bare = subst (Agrees number next changes ts cleared) none_before agrees in
    subst (Agrees number later (changed word broken changes put) (after_word word put ts) (cleared || list_any is_clear_complete put)) (sym same)
    (subst (λ (ms : List Message). Agrees number later (changed word broken changes ms) (after_word word ms ts) (cleared || list_any is_clear_complete ms) (Some (new_connection number channel request delay))) (sym put_is) (record {
      away = λ is. absurd (bare.away (handed_not_begun word broken changes (access_activation channel ∷ []) (begins_only word (access_activation channel ∷ []) refl) is).0);
      serves = ap (after_word word (access_activation channel ∷ [])) (bare.serves (omega arith)) ∙ word_none word (access_activation channel ∷ []) refl;
      cleared = λ is. elim (or_cases cleared false is) [
        | inl was_cleared ↦ absurd (let less = (bare.cleared was_cleared).0 in omega arith)
        | inr clears ↦ absurd (true≢false (sym clears))
      ];
    }))
acts_place number next later up brought before after put changes ts cleared word broken (takes_row old s input offer r is aged by fits put_is same) more begins fine says agrees =
    let less : number < next = some_begun number next before old is begins in
    subst (Agrees number later (changed word broken changes put) (after_word word put ts) (cleared || list_any is_clear_complete put)) (sym same)
    (subst (λ (ms : List Message). Agrees number later (changed word broken changes ms) (after_word word ms ts) (cleared || list_any is_clear_complete ms) (kept_in r.next.state r.next)) (sym put_is)
    (row_agrees number next later changes ts cleared word broken s input offer r less more (fine_old before old s is aged fine).1 (says input by) fits
    (aged_agrees number next changes ts cleared old s aged (subst (Agrees number next changes ts cleared) is agrees))))

-- ---- what a step hands

parting_handed : (at : Place) (m : Message) → IsParting m → IsHandedOn at m
parting_handed at (Station station (DataRequest request)) parting = λ dtap. absurd (true≢false (sym dtap ∙ parting))
parting_handed at _ parting = tt

-- by the step that closes it, and of one that isn't there
acts_parting : (number next : ℕ) (up : Bool) (brought : Brought) (before after : Option Connection) (put : List Message) →
    Acts number next up brought before put after →
    (IsThere after → ⊥) →
    AreParting put
acts_parting number next up brought before after put (rests silent same none) over = subst AreParting (sym silent) tt
acts_parting number next up brought before after put (ages old s is_time is aged silent same) over = subst AreParting (sym silent) tt
acts_parting number next up brought before after put (opens begins linked channel request delay is_nothing none put_is same) over = absurd (over (subst IsThere (sym same) tt))
acts_parting number next up brought before after put (takes_row old s input offer r is aged by fits put_is same) over =
    subst AreParting (sym put_is) (of (subst (OfRow (Does s.state s input)) fits (Does-row s input offer)))
  where
    shut : IsOpen r.next.state → ⊥
    shut is_open = over (subst IsThere (sym same) (there_kept r.next.state r.next refl is_open))

    of : Does s.state s input r → AreParting r.outs
    of (ends closed parting releases) = parting
    of (passes was_open is_open quiet same_down nothing) = absurd (shut is_open)
    of (moves was_open is_open keeps silent) = absurd (shut is_open)

-- before access
abbrev IsEarly : State → Type 0
IsEarly WaitActivation = Unit {0}
IsEarly WaitEstablish = Unit {0}
IsEarly _ = ⊥

abbrev IsEarlyIn : Option Connection → Type 0
IsEarlyIn None = ⊥
IsEarlyIn (Some s) = IsEarly s.state

early_open : (state : State) → IsEarly state → IsOpen state
early_open WaitActivation early = tt
early_open WaitEstablish early = tt
early_open _ early = absurd early

not_early : (state : State) → IsLive state → IsEarly state → ⊥
not_early (Live reference stage) live early = early
not_early _ live early = absurd live

early_kept : (state : State) (s : Connection) → IsEarlyIn (kept_in state s) → IsEarly s.state
early_kept state s = kept_holds (λ (o : Option Connection). IsEarlyIn o → IsEarly s.state) state s (λ early. absurd early) (λ early. early)

early_by : (state : State) (s : Connection) →
    s.state ≡ state →
    (input : Input) (offer : Option Channel) (r : Row) →
    row_of s input offer ≡ Some r →
    IsOpen state →
    IsEarly r.next.state →
    (sapi : Sapi) →
    handed sapi r.outs ≡ []
early_by WaitActivation s same input offer r fits was_open early =
    subst (OfRow HandsNone) (ap (λ (state : State). row_by state s input offer) (sym same) ∙ sym (row_is_by s input offer) ∙ fits) (early_row s input offer) (early_open r.next.state early)
early_by WaitEstablish s same input offer r fits was_open early = absurd (subst IsEarly (next_in WaitEstablish s same input offer r fits (early_open r.next.state early)).0 early)
early_by WaitConfirm s same input offer r fits was_open early = elim (next_in WaitConfirm s same input offer r fits (early_open r.next.state early)).1 [
  | inl unchanged ↦ absurd (subst IsEarly unchanged.0 early)
  | inr is_live ↦ absurd (not_early r.next.state is_live.0 early)
]
early_by (Live reference stage) s same input offer r fits was_open early = absurd (not_early r.next.state (next_in (Live reference stage) s same input offer r fits (early_open r.next.state early)) early)
early_by _ s same input offer r fits was_open early = absurd was_open

acts_early : (number next : ℕ) (up : Bool) (brought : Brought) (before after : Option Connection) (put : List Message) →
    Acts number next up brought before put after →
    IsEarlyIn after →
    (sapi : Sapi) →
    handed sapi put ≡ []
acts_early number next up brought before after put (rests silent same none) early sapi = ap (handed sapi) silent
acts_early number next up brought before after put (ages old s is_time is aged silent same) early sapi = ap (handed sapi) silent
acts_early number next up brought before after put (opens begins linked channel request delay is_nothing none put_is same) early sapi = ap (handed sapi) put_is ∙ of sapi
  where
    of : (sapi : Sapi) → handed sapi (access_activation channel ∷ []) ≡ []
    of Zero = refl
    of Three = refl
acts_early number next up brought before after put (takes_row old s input offer r is aged by fits put_is same) early sapi =
    let next_early = early_kept r.next.state r.next (subst IsEarlyIn same early) in
    ap (handed sapi) put_is ∙ early_by s.state s refl input offer r fits (was s input offer r fits (early_open r.next.state next_early)) next_early sapi

-- what is handed to the serving channel is handed to its place
handed_on_place : (c : Channel) (at : Place) (m : Message) → at ≡ place_of c → IsHandedTo c m → IsHandedOn at m
handed_on_place c at m is to = subst (λ (p : Place). IsHandedOn p m) (sym is) (of m to)
  where
    of : (m : Message) → IsHandedTo c m → IsHandedOn (place_of c) m
    of (Station station (DataRequest request)) to = to
    of _ to = tt

on_first : (c : Channel) (ts : List ServedTenure) (put : List Message) →
    first_place ts ≡ Some (place_of c) →
    AllByRecursion (IsHandedTo c) put →
    AreHandedOn ts put
on_first c [] put is all = absurd cc
on_first c (t ∷ old) put is all = AllByRecursion-so (IsHandedTo c) (IsHandedOn t.place) (λ m. handed_on_place c t.place m (some is)) put all
  where
    some : (let o : Option Place = Some t.place in o) ≡ Some (place_of c) → t.place ≡ place_of c
    some is = cc

on_none : (ts : List ServedTenure) (put : List Message) → ts ≡ [] → ((sapi : Sapi) → handed sapi put ≡ []) → AreHandedOn ts put
on_none ts put is none = subst (λ (us : List ServedTenure). AreHandedOn us put) (sym is) none

after_end : (ts : List ServedTenure) (put : List Message) → ((sapi : Sapi) → handed sapi put ≡ []) → AreParting put → AreHandedOn ts put
after_end [] put none parting = none
after_end (t ∷ old) put none parting = AllByRecursion-so IsParting (IsHandedOn t.place) (parting_handed t.place) put parting

serves_put : (number next : ℕ) (ts : List ServedTenure) (after : Option Connection) (put : List Message) →
    ServesOf number next ts after →
    AreHandedToServing after put →
    (IsEarlyIn after → (sapi : Sapi) → handed sapi put ≡ []) →
    ((IsThere after → ⊥) → HasNoStream put) →
    ((IsThere after → ⊥) → AreParting put) →
    AreHandedOn ts put
serves_put number next ts None put serves all early over parting = after_end ts put (over (λ there. there)).hands (parting (λ there. there))
serves_put number next ts (Some s) put serves all early over parting = by s.state serves early over parting
  where
    by : (state : State) →
        ServesIn state s ts →
        (IsEarly state → (sapi : Sapi) → handed sapi put ≡ []) →
        ((IsOpen state → ⊥) → HasNoStream put) →
        ((IsOpen state → ⊥) → AreParting put) →
        AreHandedOn ts put
    by WaitConfirm serves early over parting = on_first s.serving ts put serves all
    by (Live reference stage) serves early over parting = on_first s.serving ts put serves all
    by (Closed clearing) serves early over parting = after_end ts put (over (λ there. there)).hands (parting (λ there. there))
    by Removed serves early over parting = after_end ts put (over (λ there. there)).hands (parting (λ there. there))
    by _ serves early over parting = on_none ts put serves (early tt)

cleared_put : (o : Option Connection) (put : List Message) → IsClearedIn o → OnlyReleasesAfter o put → AllByRecursion IsReleaseComplete put
cleared_put None put is only = subst (AllByRecursion IsReleaseComplete) (sym only) tt
cleared_put (Some s) put is only = subst (λ (state : State). OnlyReleases state put) is only

-- ---- a life

fold_moment : {B : Type 0} (f : B → Moment → B) (b : B) (earlier : List Moment) (m : Moment) →
    fold f b (earlier ++ m ∷ []) ≡ f (fold f b earlier) m
fold_moment f b earlier m = fold-append f b earlier (m ∷ [])

cleared_moment : (earlier : List Moment) (m : Moment) →
    is_cleared (earlier ++ m ∷ []) ≡ (is_cleared earlier || list_any is_clear_complete m.messages)
cleared_moment earlier m =
    ap (list_any is_clear_complete) (flat_map-append (λ (n : Moment). n.messages) earlier (m ∷ []) ∙ ap (λ (ms : List Message). all_messages earlier ++ ms) (append-nil m.messages))
    ∙ list_any-append is_clear_complete (all_messages earlier) m.messages

placed_run : (number : ℕ) (c : Controller) (from_one : 1 ≤ number) (fits : Fits number c) (earlier : List Moment) (steps : List Step) →
    Agrees number c.next_number (changes_after earlier) (service earlier) (is_cleared earlier) (connection_of c number) →
    AllInPlace earlier (moments_of number c from_one fits steps)
unfolding moments_of
placed_run number c from_one fits earlier [] agrees = tt
placed_run number c from_one fits earlier (s ∷ ss) agrees =
    let does = step_does number c s from_one fits.numbered in
    let silence = step_silence number c s from_one fits in
    let next : Controller = (step c s).next in
    let after : Option Connection = connection_of next number in
    let m : Moment = record { taken = s; messages = does.put } in
    let then_agrees = acts_place number c.next_number next.next_number (is_up c SWITCH_LINK) (brought_in c number s) (connection_of c number) after does.put (changes_after earlier) (service earlier) (is_cleared earlier) (word_in s) (breaks_switch s) does.acts (step_keeps_rest c s).numbers (begun_in number c fits.numbered) fits.fine
    (step_says_input c number s) agrees in
    let agrees_after : Agrees number next.next_number (changes_after (earlier ++ m ∷ [])) (service (earlier ++ m ∷ [])) (is_cleared (earlier ++ m ∷ [])) after =
    subst (λ (b : Bool). Agrees number next.next_number (changes_after (earlier ++ m ∷ [])) (service (earlier ++ m ∷ [])) b after) (sym (cleared_moment earlier m))
    (subst (λ (ts : List ServedTenure). Agrees number next.next_number (changes_after (earlier ++ m ∷ [])) ts (is_cleared earlier || list_any is_clear_complete does.put) after) (sym (fold_moment after_moment [] earlier m))
    (subst (λ (b : Bool). Agrees number next.next_number b (after_word (word_in s) does.put (service earlier)) (is_cleared earlier || list_any is_clear_complete does.put) after) (sym (fold_moment with_change false earlier m)) then_agrees)) in (
      record {
        held = λ is. silence.away (agrees_after.away is);
        serving = serves_put number next.next_number (service (earlier ++ m ∷ [])) after does.put agrees_after.serves silence.serving
            (acts_early number c.next_number (is_up c SWITCH_LINK) (brought_in c number s) (connection_of c number) after does.put does.acts) silence.over
            (acts_parting number c.next_number (is_up c SWITCH_LINK) (brought_in c number s) (connection_of c number) after does.put does.acts);
        cleared = λ is. let was_cleared = agrees.cleared is in cleared_put (connection_of c number) does.put was_cleared.1 (silence.cleared was_cleared.0);
      },
      placed_run number next from_one (step_fits number c s from_one fits) (earlier ++ m ∷ []) ss agrees_after,
    )

new_agrees : (number : ℕ) (p : Parameters) → Agrees number 1 false [] false (connection_of (new_controller p) number)
new_agrees number p = record { away = λ is. absurd (true≢false (sym is)); serves = λ less. refl; cleared = λ is. absurd (true≢false (sym is)) }

pub life_hands : (p : Parameters) (steps : List Step) (number : ℕ) → 1 ≤ number → HandsInPlace number p steps (life p steps)
life_hands p steps number from_one = record {
  moments = moments_of number (new_controller p) from_one (new_fits number p) steps;
  history = history_of number (new_controller p) from_one (new_fits number p) steps;
  frames = frames_in_life p steps number from_one;
  placed = placed_run number (new_controller p) from_one (new_fits number p) [] steps (new_agrees number p);
  read = λ allowed octets. life_reads p steps number from_one allowed octets;
}
