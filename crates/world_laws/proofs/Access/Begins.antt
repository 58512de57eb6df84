-- SPDX-License-Identifier: MIT OR Apache-2.0
-- A connection that begins is coming.
use Rattle.world_laws.proofs.Prelude.{◌≡◌, ◌≢◌, ℕ, ◌≤◌, Bool, List, [], ◌∷◌, ◌++◌, Ok, Option, Some, None, refl, sym, ap, ◌∙◌}
use Rattle.world_laws.proofs.Prelude.{subst, arith, inl, inr, AllByRecursion, Channel, Message, Out, outs_of, WaitActivation, WaitEstablish}
use Rattle.world_laws.proofs.Prelude.{Connection, IsOpen, Acts, ActsOn, Brought, ages, rests, connection_of, outs_for, IsOctetStep}
use Rattle.world_laws.proofs.Prelude.{IsSent, life_acts, life_fits, Step, Take, Controller, Turn, place_of, RelayItem, Rsl, Parameters}
use Rattle.world_laws.proofs.Prelude.{Event, Tenure, actors_after, actors_after_all, target_in, rsl_in, all_steps, step_at, first_taken}
use Rattle.world_laws.proofs.Prelude.{Actors, modulus_in, new_actors, outbox_of, FollowsTable-new, OutboxEntry, Station, access_activation}
use Rattle.world_laws.proofs.Prelude.{Activation, rsl_reading, rsl_text, result_ok, NamesItsMobile, IsNumbered, life_names, same_Some, take}
use Rattle.world_laws.proofs.Prelude.{going_down, leading_by, leading_from_outbox, IsForOthers, AssignsBy, AssignsIn, IsComing, AreBeside}
use Rattle.world_laws.proofs.Prelude.{AssignsAnother, IsBeside, read_request, IsEarlyIn, entry_out}
use Rattle.conn_messages.specs.Out.{out_of}
use Rattle.controller_model.specs.LifeLaws.Acts.Acts.{takes_row as steps_by_states, opens as begins}
use Rattle.rsl_codec.specs.declared.rsl.Rsl.TheVariants as rsl
use Rattle.world_model.specs.declared.event.Event.TheVariants as events
use Rattle.world_model.specs.Relay.{entry_of}
use Rattle.world_laws.specs.Access.Coming.IsAccessing.{asks}
use Rattle.world_laws.proofs.Access.Turning.{all_down, another_assigns, assigned_turn, of_all, own_among}
use Rattle.world_laws.proofs.Access.Came.{IsLess, behind_less, before, turn_comes, turned, v_controller, v_mobile}
use Rattle.world_laws.proofs.OrderTexts.{assignment_back, read_of}
use Rattle.world_laws.specs.Access.Begun.{AwaitsChannel, ConnectionsBeginForTheirMobile, IsQuietAt}
use Rattle.world_laws.proofs.Access.ForOthers.{item_begins}
use Rattle.world_laws.proofs.Access.Numbered.{step_another}
use Rattle.world_laws.proofs.Access.CameLaw.{handled_is, sends_at}
use Rattle.world_laws.proofs.Apart.{all_both}
use Rattle.world_laws.proofs.Events.{snoc_steps}
use Rattle.world_laws.proofs.Framing.{all_left, all_right}

-- ---- the activation is neither a command nor an IMMEDIATE ASSIGNMENT

activation_assigns : (mobile : ℕ) (next : Connection) (station : ℕ) (a : Activation) (y : Rsl) →
    rsl_text (rsl.ChannelActivation a) ≡ rsl_text y →
    AssignsBy mobile next station (Some y)
activation_assigns mobile next station a (rsl.ImmediateAssignCommand j) text = absurd (let back = assignment_back (rsl.ChannelActivation a) j text in let both : rsl.ChannelActivation a ≡ rsl.ImmediateAssignCommand back.0 = back.1 in cc)
activation_assigns mobile next station a _ text = tt

activation_leads : (n station channel : ℕ) (target : Option Tenure) (a : Activation) (y : Rsl) →
    IsSent (out_of n (Station station (rsl.ChannelActivation a))) →
    rsl_reading (rsl_text (rsl.ChannelActivation a)) ≡ Ok y →
    leading_by channel target (Some y) ≡ []
unfolding out_of
activation_leads n station channel target a (rsl.DataRequest d) sent read = elim sent.is [
  | inl message ↦ absurd (let carries = read_request n station (rsl.ChannelActivation a) message.message message.put message.read d read in let both : rsl.ChannelActivation a ≡ rsl.DataRequest carries.0 = carries.1 in cc)
  | inr pong ↦ absurd (apart 0 (ap (λ (o : Out). o.frame.stream) pong) refl)
] where
  apart : (n : ℕ) → n ≡ 0xfe → n ≡ 0 → ⊥
  apart n one two = absurd (omega (arith, one, two))
activation_leads n station channel target a _ sent read = refl

activation_is : (c : Channel) → (a : Activation) × (access_activation c ≡ Station c.station (rsl.ChannelActivation a))
activation_is c = (_, refl)

module _ (settings : Parameters) (done : List Event) (s : Connection) where
  abbrev world : Actors
  world = actors_after_all (new_actors settings) done

  abbrev modulus : ℕ
  modulus = modulus_in settings

  abbrev mobile : ℕ
  mobile = s.request.access

  own_at : (target : Option Tenure) (c : Channel) (out : Out) →
      IsSent out →
      (x : Message) × (out ≡ out_of s.number x) × (x ≡ access_activation c) →
      (out.to ≡ s.serving.station → leading_from_outbox s.serving.number (entry_of target out) ≡ []) × AssignsBy mobile s out.to (rsl_in out.frame)
  unfolding out_of
  own_at target c out sent own =
      let a = activation_is c in
      let is : out ≡ out_of s.number (Station c.station (rsl.ChannelActivation a.0)) = own.1 ∙ ap (out_of s.number) (own.2 ∙ a.1) in
      let own_sent : IsSent (out_of s.number (Station c.station (rsl.ChannelActivation a.0))) = subst IsSent is sent in
      let read = read_of s.number c.station (rsl.ChannelActivation a.0) own_sent in
      let frame : rsl_in out.frame ≡ Some read.0 = ap (λ (o : Out). rsl_in o.frame) is ∙ ap result_ok read.1.reading in (
        λ _. ap (λ (o : Out). leading_by s.serving.number (entry_of target out).target (rsl_in o.frame)) (entry_out target out) ∙ ap (leading_by s.serving.number (entry_of target out).target) frame ∙ activation_leads s.number c.station s.serving.number (entry_of target out).target a.0 read.0 own_sent read.1.reading,
        subst (AssignsBy mobile s out.to) (sym frame) (activation_assigns mobile s out.to a.0 read.0 read.1.text),
      )

  new_comes : (target : Option Tenure) (items : List RelayItem) (t : Turn) (c : Channel) → IsLess settings done mobile s items → s.state ≡ WaitActivation → outs_for s.number t.outs ≡ outs_of s.number (access_activation c ∷ []) → AllByRecursion IsSent t.outs → AreBeside target mobile s t.outs
      → AwaitsChannel modulus world mobile → IsQuietAt world (place_of s.serving) → 1 ≤ s.number → connection_of t.next s.number ≡ Some s → IsComing modulus (turned settings done mobile s target t items) mobile s
  new_comes target items t c less state put sent beside waits quiet least there =
      let u : Actors = record (before settings done mobile s items) { controller = t.next } in
      let v : Actors = turned settings done mobile s target t items in
      let both = all_both (λ (out : Out). out.conn ≡ s.number → (x : Message) × (out ≡ out_of s.number x) × (x ≡ access_activation c)) IsSent
      (λ (out : Out). out.conn ≡ s.number → (out.to ≡ s.serving.station → leading_from_outbox s.serving.number (entry_of target out) ≡ []) × AssignsBy mobile s out.to (rsl_in out.frame)) t.outs (λ out is is_sent. λ same. own_at target c out is_sent (is same))
      (own_among (λ (x : Message). x ≡ access_activation c) s.number t.outs (access_activation c ∷ []) put (refl, tt)) sent in
      let all = of_all (IsBeside target mobile s) (λ (out : Out). (out.to ≡ s.serving.station → leading_from_outbox s.serving.number (entry_of target out) ≡ []) × AssignsBy mobile s out.to (rsl_in out.frame)) s.number t.outs
      (λ out one. (one.for_others.leads.0, another_assigns mobile s out.to (rsl_in out.frame) one.assigns)) beside both in
      let down : going_down v (place_of s.serving) ≡ going_down world (place_of s.serving) = all_down target s.serving t.outs u (all_both _ _ (λ (out : Out). out.to ≡ s.serving.station → leading_from_outbox s.serving.number (entry_of target out) ≡ []) t.outs (λ out one two. one.0) all all) in
      record {
        had = record { there = ap (λ (d : Controller). connection_of d s.number) (v_controller settings done mobile s target t items) ∙ there; is_open = subst IsOpen (sym state) tt; from_one = least };
        early = subst IsEarlyIn (sym state) tt;
        asked = refl;
        one = waits.one;
        found = v_mobile settings done mobile s target t items mobile ∙ waits.found;
        accessing = turn_comes settings done mobile s target t items waits.one less down (λ other lined. absurd (let clash : WaitActivation ≡ WaitEstablish = sym state ∙ other in cc)) waits.found (asks waits.asking waits.new quiet.none_arrives quiet.none_commanded);
        assigned = assigned_turn mobile s target t.outs u (λ station. unassigned_all station (outbox_of world station) (waits.unassigned station)) (all_both _ _ (λ (out : Out). AssignsBy mobile s out.to (rsl_in out.frame)) t.outs (λ out one two. one.1) all all);
      } where
        unassigned_all : (station : ℕ) (entries : List OutboxEntry) →
            AllByRecursion (λ entry. AssignsAnother mobile (rsl_in entry.out.frame)) entries →
            AllByRecursion (AssignsIn mobile s station) entries
        unassigned_all station [] all = tt
        unassigned_all station (entry ∷ entries) all = (another_assigns mobile s station (rsl_in entry.out.frame) all.0, unassigned_all station entries all.1)

  by_acts : (target : Option Tenure) (items : List RelayItem) (item : RelayItem) → IsLess settings done mobile s items → AllByRecursion IsSent (take item world.controller).outs → AreBeside target mobile s (take item world.controller).outs → AwaitsChannel modulus world mobile → IsQuietAt world (place_of s.serving) → 1 ≤ s.number
      → connection_of (take item world.controller).next s.number ≡ Some s → (next : ℕ) (up : Bool) (brought_it : Brought) (was now : Option Connection) (put : List Message) → Acts s.number next up brought_it was put now → was ≡ None → now ≡ Some s → outs_for s.number (take item world.controller).outs ≡ outs_of s.number put
      → IsComing modulus (turned settings done mobile s target (take item world.controller) items) mobile s
  by_acts target items item less sent beside waits quiet least there next up brought_it was now put (rests silent is none) none_was some_now outs = absurd (let both : None ≡ Some s = sym none_was ∙ sym is ∙ some_now in cc)
  by_acts target items item less sent beside waits quiet least there next up brought_it was now put (ages old x by_time is aged silent is_now) none_was some_now outs = absurd (let both : None ≡ Some old = sym none_was ∙ is in cc)
  by_acts target items item less sent beside waits quiet least there next up brought_it was now put (steps_by_states old s1 input offer r is aged by fits put_is is_now) none_was some_now outs = absurd (let both : None ≡ Some old = sym none_was ∙ is in cc)
  by_acts target items item less sent beside waits quiet least there next up brought_it was now put (begins is linked channel request delay none_brought none put_is is_now) none_was some_now outs =
      new_comes target items (take item world.controller) channel less (ap (λ (x : Connection). x.state) (same_Some _ _ (sym some_now ∙ is_now))) (outs ∙ ap (outs_of s.number) put_is) sent beside waits quiet least there

pub connections_begin_for_their_mobile_new : (settings : Parameters) (done : List Event) → ConnectionsBeginForTheirMobile settings done
connections_begin_for_their_mobile_new settings done s item items allowed octets pending least none there waits quiet unanswered =
    let world : Actors = actors_after_all (new_actors settings) done in
    let target : Option Tenure = target_in world item.source item.what in
    let leads : actors_after world events.Handle ≡ turned settings done s.request.access s target (take item world.controller) items = handled_is settings done s.request.access s (item ∷ items) pending in
    let both : AllByRecursion IsOctetStep (all_steps (new_actors settings) done ++ step_at world events.Handle) = subst (AllByRecursion IsOctetStep) (snoc_steps (new_actors settings) done events.Handle) octets in
    let own : IsOctetStep (Take item) = (subst (λ (xs : List RelayItem). AllByRecursion IsOctetStep (first_taken xs)) pending (all_right IsOctetStep (all_steps (new_actors settings) done) (step_at world events.Handle) both)).0 in
    let now : connection_of (take item world.controller).next s.number ≡ Some s = ap (λ (c : Controller). connection_of c s.number) (sym (v_controller settings done s.request.access s target (take item world.controller) items) ∙ ap (λ (x : Actors). x.controller) (sym leads)) ∙ there in
    let acts : ActsOn s.number world.controller (Take item) = subst (λ (c : Controller). ActsOn s.number c (Take item)) (sym (FollowsTable-new settings done)) (life_acts settings (all_steps (new_actors settings) done) (Take item) s.number least) in
    let steps : List Step = all_steps (new_actors settings) done in
    let by_table = FollowsTable-new settings done in
    let numbered : IsNumbered world.controller = subst IsNumbered (sym by_table) (life_fits settings steps 1 (omega arith)).numbered in
    let sent : AllByRecursion IsSent (take item world.controller).outs = sends_at settings done s.request.access s (Take item) allowed (all_left IsOctetStep (all_steps (new_actors settings) done) (step_at world events.Handle) both) own in
    let beside : AreBeside target s.request.access s (take item world.controller).outs =
    all_both (λ (out : Out). out.conn ≢ s.number → IsForOthers target s out) (λ (out : Out). out.conn ≢ s.number → AssignsAnother s.request.access (rsl_in out.frame)) (λ (out : Out). out.conn ≢ s.number → IsBeside target s.request.access s out) (take item world.controller).outs
    (λ out one two. λ differs. record { for_others = one differs; assigns = two differs }) (item_begins settings done s item allowed least none now)
    (step_another world.controller s.number s.request.access s.serving (λ m t is same. absurd (unanswered m t is same)) (Take item) numbered sent
    (λ m from_one. subst (λ (c : Controller). NamesItsMobile m c (Take item)) (sym by_table) (life_names settings steps (Take item) m from_one))) in
    subst (λ (x : Actors). IsComing (modulus_in settings) x s.request.access s) (sym leads)
    (by_acts settings done s target items item (behind_less settings done s.request.access s item items pending) sent beside waits quiet least now
    world.controller.next_number _ _ (connection_of world.controller s.number) (connection_of (take item world.controller).next s.number) acts.put acts.acts none now acts.outs)
