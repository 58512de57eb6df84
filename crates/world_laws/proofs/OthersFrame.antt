-- SPDX-License-Identifier: MIT OR Apache-2.0
-- What the controller puts by a frame is its connection's alone.
use Rattle.world_laws.proofs.Prelude.{◌≡◌, ◌≢◌, ℕ, ◌==◌, ◌&&◌, Bool, List, [], ◌∷◌, map, Option, Some, Ok, refl, sym, ap, ◌∙◌, subst, inl}
use Rattle.world_laws.proofs.Prelude.{inr, AllByRecursion, flat_map, result_ok, cases_Bool, cond-false, eqb-true, ne_eqb, Channel, Message}
use Rattle.world_laws.proofs.Prelude.{Station, Request, Data, ReleaseComplete, Out, SWITCH_LINK, outs_of, Changing, State, Live, Connection}
use Rattle.world_laws.proofs.Prelude.{roles_of, target_channels, target_role, connection_of, Owns, OwnsOpen, IsSent, conn_of, life_owns}
use Rattle.world_laws.proofs.Prelude.{IsNotOn, IsText, life_sends, InUse, Forwarded, Take, Controller, channel_state, place_at, place_of}
use Rattle.world_laws.proofs.Prelude.{step, concerned, forwarded_by, RelayItem, What, RslFault, DataMessage, Rsl, rsl_reading, rsl_text}
use Rattle.world_laws.proofs.Prelude.{AreAllowed, Parameters, Event, Tenure, target_in, rsl_in, all_steps, Actors, new_actors}
use Rattle.world_laws.proofs.Prelude.{FollowsTable-new, Result, sccp_reading, PassesBy, frame_passes, read_request, life, take, word_of}
use Rattle.world_laws.proofs.Prelude.{leading, leading_by, leading_from_outbox, commanded_target, FramesAreForOthers, commanded_channels}
use Rattle.world_laws.proofs.Prelude.{IsForOthers, carried_for, entry_out}
use Rattle.conn_messages.specs.Out.{out_of}
use Rattle.controller_model.proofs.LifeLaws.SeenFrames.{texts_back, texts_of}
use Rattle.controller_model.specs.Views.{forwarded}
use Rattle.ruled_relay.specs.declared.item.What.TheVariants as whats
use Rattle.rsl_codec.specs.declared.rsl.Rsl.TheVariants as rsl
use Rattle.world_model.specs.Relay.{entry_of}
use Rattle.world_laws.proofs.Events.{world}

-- ---- one output

none_carried : (m n : ℕ) (message : Message) → m ≢ n → carried_for n (out_of m message) ≡ []
unfolding forwarded
none_carried m n message differ =
    ap (λ (outs : List Out). map (λ (f : Forwarded). f.message) (flat_map (λ (out : Out). forwarded_by (sccp_reading out.frame.body)) outs))
    (cond-false _ (out_of m message ∷ []) [] (ap (λ (b : Bool). b && ((out_of m message).to == SWITCH_LINK)) (ne_eqb (out_of m message).conn n (λ same. differ (sym (conn_of m message) ∙ same)))))

-- no COMMAND on a channel that the message passes by
none_leads : (m : ℕ) (c : Channel) (target : Option Tenure) (message : Message) →
    IsText m (out_of m message) →
    IsNotOn (place_of c) message →
    (out_of m message).to ≡ c.station →
    leading_by c.number target (rsl_in (out_of m message).frame) ≡ []
unfolding out_of
none_leads m c target (Station station x) text other to = by (rsl_reading (rsl_text x)) refl where
  by : (r : Result Rsl RslFault) → rsl_reading (rsl_text x) ≡ r → leading_by c.number target (result_ok r) ≡ []
  by (Ok (rsl.DataRequest d)) read = elim (cases_Bool (d.channel == c.number)) [
    | inr miss ↦ cond-false _ (leading d.l3 target) [] miss
    | inl hit ↦
        let carries : (r : DataMessage) × (x ≡ rsl.DataRequest r) × (r.channel ≡ d.channel) = read_request m station x text.message text.put text.read d read in
        let away : place_at station carries.0.channel ≢ place_of c = subst (λ (y : Rsl). IsNotOn (place_of c) (Station station y)) carries.1 other in
        absurd (away (ap (λ (n : ℕ). place_at n carries.0.channel) to ∙ ap (place_at c.station) (carries.2 ∙ eqb-true d.channel c.number hit)))
  ]
  by _ read = refl
none_leads m c target (Request message) text other to = refl
none_leads m c target (Data destination message) text other to = refl
none_leads m c target (ReleaseComplete destination) text other to = refl

-- all channels of the list are passed by
Passed : List Message → Channel → Type 0
Passed put c = AllByRecursion (IsNotOn (place_of c)) put

all_lead_none : (m : ℕ) (target : Option Tenure) (message : Message) (put : List Message) (cs : List Channel) →
    IsText m (out_of m message) →
    AllByRecursion (Passed (message ∷ put)) cs →
    AllByRecursion (λ c. (out_of m message).to ≡ c.station → leading_from_outbox c.number (entry_of target (out_of m message)) ≡ []) cs
unfolding Passed
all_lead_none m target message put [] text all = tt
all_lead_none m target message put (c ∷ cs) text all = (
  λ to. ap (λ (o : Out). leading_by c.number (entry_of target (out_of m message)).target (rsl_in o.frame)) (entry_out target (out_of m message)) ∙ none_leads m c (entry_of target (out_of m message)).target message text all.0.0 to,
  all_lead_none m target message put cs text all.1,
)

behind_passed : (message : Message) (put : List Message) (cs : List Channel) →
    AllByRecursion (Passed (message ∷ put)) cs →
    AllByRecursion (Passed put) cs
unfolding Passed
behind_passed message put [] all = tt
behind_passed message put (c ∷ cs) all = (all.0.1, behind_passed message put cs all.1)

all_for_others : (m : ℕ) (target : Option Tenure) (s : Connection) (put : List Message) →
    m ≢ s.number →
    AllByRecursion (λ x. IsText m (out_of m x)) put →
    AllByRecursion (Passed put) (s.serving ∷ commanded_channels (commanded_target s.state)) →
    AllByRecursion (IsForOthers target s) (outs_of m put)
all_for_others m target s [] differ texts passed = tt
all_for_others m target s (message ∷ put) differ texts passed = (
  record { carries = none_carried m s.number message differ; leads = all_lead_none m target message put (s.serving ∷ commanded_channels (commanded_target s.state)) texts.0 passed },
  all_for_others m target s put differ texts.1 (behind_passed message put (s.serving ∷ commanded_channels (commanded_target s.state)) passed),
)

-- ---- the channels to that its mobile may be commanded are in use by it

commanded_of : (P : Channel → Type 0) (state : State) →
    AllByRecursion P (target_channels (target_role state)) →
    AllByRecursion P (commanded_channels (commanded_target state))
commanded_of P (Live reference (Changing target)) all = all
commanded_of P _ all = tt

used_passed : (c : Controller) (n : ℕ) (put : List Message) (cs : List Channel) →
    ((at : _) → channel_state c at ≡ InUse n → AllByRecursion (IsNotOn at) put) →
    AllByRecursion (λ (x : Channel). channel_state c (place_of x) ≡ InUse n) cs →
    AllByRecursion (Passed put) cs
unfolding Passed
used_passed c n put [] passes used = tt
used_passed c n put (x ∷ xs) passes used = (passes (place_of x) used.0, used_passed c n put xs passes used.1)

-- ---- the law, over the life of a controller

owns_of : (p : Parameters) (steps : _) (s : Connection) →
    AreAllowed p →
    connection_of (life p steps).next s.number ≡ Some s →
    OwnsOpen (life p steps).next.channels (life p steps).next.links s.number (Some s)
owns_of p steps s allowed there = subst (OwnsOpen (life p steps).next.channels (life p steps).next.links s.number) there (life_owns p steps s.number allowed)

pub frames_are_for_others_new : (settings : Parameters) (events : List Event) → FramesAreForOthers settings events
frames_are_for_others_new settings events s item allowed octets had another =
    let w : Actors = world settings events in
    let steps = all_steps (new_actors settings) events in
    let c : Controller = (life settings steps).next in
    let by_table : w.controller ≡ c = FollowsTable-new settings events in
    let own : RelayItem = record { source = item.source; what = whats.Frame another.frame } in
    let same : item ≡ own = ap (λ (x : What). record { source = item.source; what = x }) another.is in
    let concerns : concerned c (word_of item.source another.frame) ≡ Some another.other = subst (λ (d : Controller). concerned d (word_of item.source another.frame) ≡ Some another.other) by_table another.concerns in
    let there : connection_of c s.number ≡ Some s = subst (λ (d : Controller). connection_of d s.number ≡ Some s) by_table had.there in
    let passes : PassesBy s.number another.other c (Take own) = frame_passes settings steps s.number another.other item.source another.frame allowed had.from_one another.from_one another.differs concerns in
    let owns : Owns c.channels c.links s.number (roles_of s) = owns_of settings steps s allowed there had.is_open in
    let sent : AllByRecursion IsSent (step c (Take own)).outs = life_sends settings steps (Take own) allowed octets another.octets in
    let texts : AllByRecursion (λ x. IsText another.other (out_of another.other x)) passes.put = texts_back another.other passes.put (subst (AllByRecursion (IsText another.other)) passes.own (texts_of another.other (step c (Take own)).outs another.from_one sent)) in
    let all : AllByRecursion (IsForOthers (target_in w item.source item.what) s) (outs_of another.other passes.put) =
    all_for_others another.other (target_in w item.source item.what) s passes.put (λ is. another.differs (sym is)) texts
    (used_passed c s.number passes.put (s.serving ∷ commanded_channels (commanded_target s.state)) passes.passes (owns.using.0, commanded_of (λ (x : Channel). channel_state c (place_of x) ≡ InUse s.number) s.state owns.using.1)) in
    subst (AllByRecursion (IsForOthers (target_in w item.source item.what) s)) (sym (ap (λ (d : Controller). (take item d).outs) by_table ∙ ap (λ (i : RelayItem). (take i c).outs) same ∙ passes.outs)) all
