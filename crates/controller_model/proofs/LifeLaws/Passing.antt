-- SPDX-License-Identifier: MIT OR Apache-2.0
-- A frame's messages for its connection leave the channels that another connection uses as they
-- are.
use Rattle.controller_model.proofs.Prelude.{◌≡◌, ◌≢◌, ℕ, ◌==◌, ◌≤◌, ◌&&◌, ◌||◌, not, Bool, true, false, if◌then◌else◌, List, [], ◌∷◌}
use Rattle.controller_model.proofs.Prelude.{Option, Some, None, Result, Ok, refl, sym, subst, ap, ◌∙◌, inl, inr, true≢false, cases_Bool}
use Rattle.controller_model.proofs.Prelude.{cond-true, eqb-true, and_parts, AllByRecursion, list_any, Change, Assignment, Handover, Channel}
use Rattle.controller_model.proofs.Prelude.{Place, Message, Station, Out, IsReadOf, outs_of, change_activation, AllByRecursion-append}
use Rattle.controller_model.proofs.Prelude.{Input, State, Closed, Removed, Target, Connection, is_at, ArePutOn, ChangesRoles, Roles}
use Rattle.controller_model.proofs.Prelude.{RoleStep, after_step, begin_orders, channels_in, end_messages, roles_of, step_by, step_orders}
use Rattle.controller_model.proofs.Prelude.{target_channels, with_target, carries_on, ends, had_ended, Row, IsOpen, SWITCH_LINK, Frame}
use Rattle.controller_model.proofs.Prelude.{RslFault, Rsl, rsl_text, AreAllowed, Parameters, eqb-false, IsPutOn, Using, used_after, Acts}
use Rattle.controller_model.proofs.Prelude.{Brought, brought_in, kept_in, ages, takes_row, opens, rests, connection_of, is_for, outs_for}
use Rattle.controller_model.proofs.Prelude.{OwnsOpen, used_by, ChannelState, InUse, Step, Take, Ping, Controller, channel_state, is_up}
use Rattle.controller_model.proofs.Prelude.{place_at, place_of, state_in, life, step, concerned, word_of, DataMessage, rsl_reading}
use Rattle.std.proofs.Common.{eq-eqb}
use Rattle.conn_messages.specs.Out.{out_of}
use Rattle.conn_rules.specs.Putting.{same_place}
use Rattle.controller_model.proofs.LifeLaws.Concerning.{frame_leaves, frame_silent}
use Rattle.controller_model.proofs.LifeLaws.Fitting.{IsFine, aged_holds, fine_old}
use Rattle.controller_model.proofs.LifeLaws.Keeping.{Avoids, AreElsewhere, elsewhere, end_avoids, from_orders, from_stations, step_avoids, sent_avoid}
use Rattle.controller_model.proofs.LifeLaws.OwningWords.{changes_of}
use Rattle.controller_model.proofs.LifeLaws.Placed.{acts_placed, owned_apart}
use Rattle.controller_model.proofs.LifeLaws.SeenFrames.{apart}
use Rattle.controller_model.proofs.LifeLaws.SeenStations.{is_request, request_is, request_known, same_channel, same_kind}
use Rattle.controller_model.proofs.LifeLaws.Turns.{step_does}
use Rattle.controller_model.proofs.LifeLaws.UsingLife.{life_after, run_step}
use Rattle.controller_model.specs.Life.{take}
use Rattle.ruled_relay.specs.declared.item.What.TheVariants as whats
use Rattle.rsl_codec.specs.declared.rsl.Rsl.TheVariants as rsl

-- ---- the channels that are activated and released

-- a connection uses no channel at this place, while it is open
abbrev pub UsesElsewhere : Place → Option Connection → Type 0
UsesElsewhere at None = Unit {0}
UsesElsewhere at (Some s) = IsOpen s.state → AreElsewhere at (roles_of s)

begun_avoids : (at : Place) (begun : Option Target) (roles : Roles) →
    AreElsewhere at (with_target begun roles) →
    AllByRecursion (Avoids at) (begin_orders begun)
begun_avoids at None roles away = tt
begun_avoids at (Some target) roles away = by target.change
  where
    by : (change : Change) → AllByRecursion (Avoids at) (change_activation change target.channel ∷ [])
    by Assignment = (away.1.0, tt)
    by Handover = (away.1.0, tt)

row_passes : (at : Place) (s : Connection) (input : Input) (offer : Option Channel) (r : Row) →
    ChangesRoles s input offer r →
    (IsOpen s.state → AreElsewhere at (roles_of s)) →
    (IsOpen r.next.state → AreElsewhere at (roles_of r.next)) →
    AllByRecursion (Avoids at) r.outs
row_passes at s input offer r (carries_on was_open is_open on) before after =
    let step : RoleStep = step_by input (roles_of s) in
    from_orders at r.outs (subst (AllByRecursion (Avoids at)) (sym on.ordered)
    (AllByRecursion-append (Avoids at) (step_orders step (roles_of s)) (begin_orders on.begun) (step_avoids at step (roles_of s) (roles_of s).target (before was_open))
    (begun_avoids at on.begun (after_step step (roles_of s)) (subst (AreElsewhere at) on.roles (after is_open)))))
row_passes at s input offer r (ends was_open shut over) before after =
    from_stations at r.outs (subst (AllByRecursion (Avoids at)) (sym over.ordered) (sent_avoid at input (end_messages over.end (roles_of s)) (end_avoids at over.end (roles_of s) (roles_of s).target (before was_open))))
row_passes at s input offer r (had_ended was_shut shut nothing) before after = from_stations at r.outs (subst (AllByRecursion (Avoids at)) (sym nothing) tt)

pub remains_there : (state : State) (s : Connection) → IsOpen state → kept_in state s ≡ Some s
remains_there (Closed clearing) s is_open = absurd is_open
remains_there Removed s is_open = absurd is_open
remains_there _ s is_open = refl

pub acts_pass : (number next : ℕ) (up : Bool) (brought : Brought) (before after : Option Connection) (put : List Message) (at : Place) →
    Acts number next up brought before put after →
    IsFine before →
    UsesElsewhere at before →
    UsesElsewhere at after →
    AllByRecursion (Avoids at) put
acts_pass number next up brought before after put at (rests silent same none) fine was now = subst (AllByRecursion (Avoids at)) (sym silent) tt
acts_pass number next up brought before after put at (ages old s is_time is aged silent same) fine was now = subst (AllByRecursion (Avoids at)) (sym silent) tt
acts_pass number next up brought before after put at (opens begins linked channel request delay is_nothing none put_is same) fine was now =
    subst (AllByRecursion (Avoids at)) (sym put_is) ((subst (UsesElsewhere at) same now tt).0, tt)
acts_pass number next up brought before after put at (takes_row old s input offer r is aged by fits put_is same) fine was now =
    let valid = (fine_old before old s is aged fine).1 in
    subst (AllByRecursion (Avoids at)) (sym put_is)
    (row_passes at s input offer r (changes_of s input offer r valid fits)
    (aged_holds (λ (c : Connection). IsOpen c.state → AreElsewhere at (roles_of c)) (λ ms c away. away) old s aged (subst (UsesElsewhere at) is was))
    (λ is_open. subst (UsesElsewhere at) (same ∙ remains_there r.next.state r.next is_open) now is_open))

-- ---- what is handed to a mobile

-- no DATA REQUEST on the channel at this place
abbrev pub IsNotOn : Place → Message → Type 0
IsNotOn at (Station station (rsl.DataRequest d)) = place_at station d.channel ≢ at
IsNotOn at _ = Unit {0}

not_same : (at other : Place) → other ≢ at → same_place at other ≡ false
not_same at other differ = elim (cases_Bool (same_place at other)) [
  | inr miss ↦ miss
  | inl hit ↦
      let parts = and_parts (at.station == other.station) (at.number == other.number) hit in
      absurd (differ (sym (ap (λ (n : ℕ). place_at n at.number) (eqb-true at.station other.station parts.0) ∙ ap (place_at other.station) (eqb-true at.number other.number parts.1))))
]

still_unused : (at : Place) (uses : Using) (m : Message) → uses at ≡ false → Avoids at m → used_after uses m at ≡ false
still_unused at uses (Station station (rsl.ChannelActivation a)) none differ = ap (λ (b : Bool). b || uses at) (not_same at (place_at station a.channel) differ) ∙ none
still_unused at uses (Station station (rsl.RfChannelRelease channel)) none differ = ap (λ (b : Bool). not b && uses at) (not_same at (place_at station channel) differ) ∙ none
still_unused at uses _ none differ = none

unused_handed : (at : Place) (uses : Using) (m : Message) → uses at ≡ false → IsPutOn uses m → IsNotOn at m
unused_handed at uses (Station station (rsl.DataRequest d)) none used = λ same. true≢false (sym used ∙ ap uses same ∙ none)
unused_handed at uses _ none used = tt

pub unused_put : (at : Place) (uses : Using) (ms : List Message) →
    uses at ≡ false →
    ArePutOn uses ms →
    AllByRecursion (Avoids at) ms →
    AllByRecursion (IsNotOn at) ms
unused_put at uses [] none put avoids = tt
unused_put at uses (m ∷ ms) none put avoids = (unused_handed at uses m none put.0, unused_put at (used_after uses m) ms (still_unused at uses m none avoids.0) put.1 avoids.1)

none_there : (at : Place) (cs : List Channel) → AllByRecursion (λ (c : Channel). place_of c ≢ at) cs → list_any (λ c. is_at at c) cs ≡ false
none_there at [] away = refl
none_there at (c ∷ cs) away = ap (λ (b : Bool). b || list_any (λ (d : Channel). is_at at d) cs) (not_same at (place_of c) away.0) ∙ none_there at cs away.1

pub unused_by : (at : Place) (o : Option Connection) → UsesElsewhere at o → used_by o at ≡ false
unused_by at None away = refl
unused_by at (Some s) away = by s.state away
  where
    by : (state : State) →
        (IsOpen state → AreElsewhere at (roles_of s)) →
        list_any (λ c. is_at at c) (channels_in state (roles_of s)) ≡ false
    by (Closed clearing) away = refl
    by Removed away = refl
    by _ away = none_there at (s.serving ∷ target_channels (roles_of s).target) (away tt)

-- a frame that is read as a DATA REQUEST carries one on that channel
pub read_request : (number station : ℕ) (x : Rsl) (m : Message) →
    out_of number (Station station x) ≡ out_of number m →
    IsReadOf number m (rsl_text x) →
    (d : DataMessage) →
    rsl_reading (rsl_text x) ≡ Ok (rsl.DataRequest d) →
    (r : DataMessage) × (x ≡ rsl.DataRequest r) × (r.channel ≡ d.channel)
unfolding out_of
read_request number station x (Station other y) same read d is =
    let text : rsl_text x ≡ rsl_text y = ap (λ (o : Out). o.frame.body) same in
    let request : y ≡ rsl.DataRequest d = one_message (sym read ∙ is) in
    let one = request_is x (same_kind x y text ∙ ap is_request request ∙ request_known d) in
    (one.0, one.1, same_channel one.0 d (ap rsl_text (sym one.1) ∙ text ∙ ap rsl_text request))
  where
    one_message : {a b : Rsl} → (let r : Result Rsl RslFault = Ok a in r) ≡ Ok b → a ≡ b
    one_message ok = cc
read_request number station x _ same read d is = absurd (apart 0 0xfd refl (ap (λ (o : Out). o.frame.stream) same))

-- ---- a frame

owns_elsewhere : (channels : List (List ChannelState)) (links : List Bool) (m n : ℕ) (at : Place) (o : Option Connection) →
    n ≢ m →
    OwnsOpen channels links m o →
    state_in channels at ≡ InUse n →
    UsesElsewhere at o
owns_elsewhere channels links m n at None differ owns is = tt
owns_elsewhere channels links m n at (Some s) differ owns is = λ is_open. elsewhere channels m (InUse n) at (s.serving ∷ target_channels (roles_of s).target) (λ same. differ (sym (number_is same))) (owns is_open).using is
  where
    number_is : InUse m ≡ InUse n → m ≡ n
    number_is same = cc

tail_silent : (k : ℕ) (out : Out) (outs : List Out) → outs_for k (out ∷ outs) ≡ [] → outs_for k outs ≡ []
tail_silent k out outs = by (is_for k out)
  where
    by : (b : Bool) → (if b then out ∷ outs_for k outs else outs_for k outs) ≡ [] → outs_for k outs ≡ []
    by true is = absurd cc
    by false is = is

-- all that is put is one connection's
only_for : (m : ℕ) (outs : List Out) → ((k : ℕ) → k ≢ m → outs_for k outs ≡ []) → outs_for m outs ≡ outs
only_for m [] silent = refl
only_for m (out ∷ outs) silent = elim (cases_Bool (is_for m out)) [
  | inl hit ↦ cond-true _ (out ∷ outs_for m outs) (outs_for m outs) hit ∙ ap (λ (xs : List Out). out ∷ xs) (only_for m outs (λ k differ. tail_silent k out outs (silent k differ)))
  | inr miss ↦ absurd (first (sym (cond-true _ (out ∷ outs_for out.conn outs) (outs_for out.conn outs) (eq-eqb out.conn out.conn refl)) ∙ silent out.conn (eqb-false out.conn m miss)))
]
  where
    first : out ∷ outs_for out.conn outs ≡ [] → ⊥
    first is = absurd cc

-- What the frame puts is its connection's, and of it no DATA REQUEST is sent to a channel that the
-- other one uses.
pub record PassesBy (n m : ℕ) (c : Controller) (s : Step) : Type 0 where
  pub put : List Message
  pub outs : (step c s).outs ≡ outs_of m put
  pub own : outs_for m (step c s).outs ≡ outs_of m put
  pub passes : (at : Place) → channel_state c at ≡ InUse n → AllByRecursion (IsNotOn at) put

pub frame_passes : (p : Parameters) (steps : List Step) (n m source : ℕ) (frame : Frame) →
    AreAllowed p →
    1 ≤ n →
    1 ≤ m →
    n ≢ m →
    concerned (life p steps).next (word_of source frame) ≡ Some m →
    PassesBy n m (life p steps).next (Take (record { source = source; what = whats.Frame frame }))
unfolding take
frame_passes p steps n m source frame allowed from_one other_from_one differ is =
    let c : Controller = (life p steps).next in
    let s : Step = Take (record { source = source; what = whats.Frame frame }) in
    let now = life_after p steps allowed in
    let after = run_step c s now.fits now.holds now.uses in
    let fits = now.fits m other_from_one in
    let does = step_does m c s other_from_one fits.numbered in
    let leaves = frame_leaves p steps n source frame allowed from_one (λ same. differ (one_number (sym same ∙ is))) in
    record {
      put = does.put;
      outs = sym (only_for m (step c s).outs (λ k other. frame_silent (is_up c source) k source frame c (λ ping. absurd (no_ping ping)) (λ same. other (one_number (sym same ∙ is))))) ∙ does.outs;
      own = does.outs;
      passes = λ at used.
          let was = owns_elsewhere c.channels c.links m n at (connection_of c m) differ (now.holds.each m) used in
          let next_owns = owns_elsewhere (step c s).next.channels (step c s).next.links m n at (connection_of (step c s).next m) differ (after.holds.each m) ((leaves.using at).1 used) in
          unused_put at (used_by (connection_of c m)) does.put (unused_by at (connection_of c m) was)
          (acts_placed m c.next_number (is_up c SWITCH_LINK) (brought_in c m s) (connection_of c m) _ does.put does.acts fits.fine (owned_apart c m (connection_of c m) (now.holds.each m)))
          (acts_pass m c.next_number (is_up c SWITCH_LINK) (brought_in c m s) (connection_of c m) (connection_of (step c s).next m) does.put at does.acts fits.fine was next_owns);
    }
  where
    one_number : {a b : ℕ} → Some a ≡ Some b → a ≡ b
    one_number same = cc

    no_ping : word_of source frame ≡ Ping → ⊥
    no_ping ping = none (sym (ap (concerned (life p steps).next) ping) ∙ is)
      where
        none : None ≡ Some m → ⊥
        none same = absurd cc
