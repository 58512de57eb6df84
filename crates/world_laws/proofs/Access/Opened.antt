-- SPDX-License-Identifier: MIT OR Apache-2.0
-- The initial message of a connection that lives doesn't arrive again.
use Rattle.world_laws.proofs.Prelude.{◌≡◌, ◌≢◌, ℕ, ◌≤◌, nat_eq, Bool, true, false, List, [], ◌∷◌, find, Option, Some, None, refl, sym, ap}
use Rattle.world_laws.proofs.Prelude.{◌∙◌, subst, inl, inr, AllByRecursion, flat_map, eqb-true, eqb-false, Channel, Place, Message}
use Rattle.world_laws.proofs.Prelude.{SWITCH_LINK, State, Removed, Connection}
use Rattle.world_laws.proofs.Prelude.{IsValid, IsOpen, used_channels, Acts, ActsOn, Brought, kept_in, ages, takes_row, rests, connection_of}
use Rattle.world_laws.proofs.Prelude.{aged_holds, pass_valid, life_acts, Step, Take, Controller, Turn, place_of, step, Zero, Item}
use Rattle.world_laws.proofs.Prelude.{Parameters, Event, Command, On, Tenure, actors_after, actors_after_all, brought, framed, target_in}
use Rattle.world_laws.proofs.Prelude.{with_turn, all_steps, Actors, Mobile, base_of, has_number, is_reached, mobile_of, new_actors}
use Rattle.world_laws.proofs.Prelude.{put_back, back_found, back_other, number_found, good_all, good_new, after_taken, air_up_leads}
use Rattle.world_laws.proofs.Prelude.{handle_leads, turn_leads, FollowsTable-new, hearing-opens, same_Some, life, take, tick, messages_in}
use Rattle.world_laws.proofs.Prelude.{read_of, coming_up, awaited_in, HasOpened, initial_by, initials_up, IsAlone, IsElsewhere}
use Rattle.controller_model.specs.LifeLaws.Acts.Acts.{opens as begins}
use Rattle.controller_model.specs.declared.step.Step.TheVariants.{Tick}
use Rattle.world_model.specs.declared.event.Event.TheVariants as events
use Rattle.world_model.specs.Life.{event_after}
use Rattle.world_laws.proofs.Others.{turn_mobiles}
use Rattle.world_laws.proofs.ValidConnections.{connections_are_valid_new}
use Rattle.world_laws.proofs.Sublists.{Sub, sub_append, sub_behind, sub_flat_map, sub_itself, sub_nothing}
use Rattle.world_laws.specs.Access.Opened.{OpenedRemainOpened}
use Rattle.world_laws.proofs.Access.Mobiles.{AllGo, MobileDoes, all_same, event_leads_all}
use Rattle.world_laws.proofs.Access.Mobiles.MobileDoes.{gets_channel as gets, hears, moves, same, unchanged}
use Rattle.world_laws.proofs.Access.Passes.{Passes, passes_itself}
use Rattle.world_laws.proofs.Access.RowChannels.{row_uses}
use Rattle.world_laws.proofs.Access.Travels.{event_passes, is_passing}
use Rattle.world_laws.proofs.Access.Upcoming.{initials_apart, initials_later, initials_none, initials_pass}
use Rattle.world_laws.proofs.Handling.Finishing.{controller-is}

-- ---- the mobile sent its initial message

record HasSent (v : Actors) (number : ℕ) : Type 0 where
  one : Mobile
  found : mobile_of v number ≡ Some one
  sent : one.opens ≡ false

sent_by_event : {w v : Actors} {event : Event} {number : ℕ} {p q : Mobile} →
    p.opens ≡ false →
    MobileDoes w event v number p q →
    q.opens ≡ false
sent_by_event sent (same is) = ap (λ (x : Mobile). x.opens) is ∙ sent
sent_by_event sent (unchanged there opens other gives) = opens ∙ sent
sent_by_event {p = p} sent (hears tenure command first others there air is) = ap (λ (x : Mobile). x.opens) is ∙ (hearing-opens p first) ∙ sent
sent_by_event sent (moves to_move (inl opens)) = opens ∙ sent
sent_by_event sent (moves to_move (inr opens)) = opens
sent_by_event sent (gets a) = ap (λ (x : Mobile). x.opens) a.after ∙ sent

-- ---- after an event

-- none joins, of these channels
abbrev pub NoneJoin : Actors → Actors → List Channel → Type 0
NoneJoin w v cs = AllByRecursion (λ c. Sub (initials_up v (place_of c)) (initials_up w (place_of c))) cs

abbrev NoneJoins : Actors → Actors → Type 0
NoneJoins w v = (at : Place) → at.station ≢ SWITCH_LINK → Sub (initials_up v at) (initials_up w at)

-- what a turn of the controller leaves
turned : (target : Option Tenure) (t : Turn) (u : Actors) (at : Place) → initials_up (with_turn target t u) at ≡ initials_up u at
turned target t u at = turn_leads (λ v. initials_up v at ≡ initials_up u at) target t u (λ links. refl)

behind_first : (w : Actors) (item : Item) (items : List Item) (at : Place) →
    w.inbox ≡ item ∷ items →
    Sub (initials_up (record w { inbox = items }) at) (initials_up w at)
behind_first w item items at pending =
    sub_flat_map (initial_by at.number) (sub_append
    (subst (λ (xs : List Item). Sub (flat_map (read_of at.station) items) (flat_map (read_of at.station) xs)) (sym pending) (sub_behind (read_of at.station item) (flat_map (read_of at.station) items)))
    (sub_itself (base_of w at.station).messages))

module _ (settings : Parameters) (done : List Event) (mobile : ℕ) (s next : Connection) where
  abbrev world : Actors
  world = actors_after_all (new_actors settings) done

  -- ---- which channels it uses then

  module _ (P : Channel → Type 0) where
    next_uses : (number after_all : ℕ) (up : Bool) (brought_it : Brought) (put : List Message) (before after : Option Connection) → Acts number after_all up brought_it before put after → before ≡ Some s → IsValid s → after ≡ Some next → IsOpen next.state
        → AllByRecursion P (used_channels s) → AllByRecursion P (awaited_in next.state) → AllByRecursion P (used_channels next)
    next_uses number after_all up brought_it put before after (rests silent is none) was valid now remains_open all new = subst (λ (x : Connection). AllByRecursion P (used_channels x)) (same_Some _ _ (sym was ∙ sym is ∙ now)) all
    next_uses number after_all up brought_it put before after (ages old s2 by_time is aged silent is2) was valid now remains_open all new =
        subst (λ (x : Connection). AllByRecursion P (used_channels x)) (same_Some _ _ (sym is2 ∙ now)) (aged_holds (λ (x : Connection). AllByRecursion P (used_channels x)) (λ ms x holds. holds) old s2 aged (subst (λ (x : Connection). AllByRecursion P (used_channels x)) (same_Some _ _ (sym was ∙ is)) all))
    next_uses number after_all up brought_it put before after (begins is linked channel request delay nothing none put_is is2) was valid now remains_open all new = absurd (let both : None ≡ Some s = sym none ∙ was in cc)
    next_uses number after_all up brought_it put before after (takes_row old s1 input offer r is aged by fits put_is is2) was valid now remains_open all new =
        let same_old : s ≡ old = same_Some _ _ (sym was ∙ is) in
        let own : AllByRecursion P (used_channels s1) = aged_holds (λ (x : Connection). AllByRecursion P (used_channels x)) (λ ms x holds. holds) old s1 aged (subst (λ (x : Connection). AllByRecursion P (used_channels x)) same_old all) in
        let stands1 : IsValid s1 = aged_holds IsValid (λ ms x holds. pass_valid ms x holds) old s1 aged (subst IsValid same_old valid) in
        let next_is : r.next ≡ next = kept_is r.next.state r.next (sym is2 ∙ now) in
        subst (λ (x : Connection). AllByRecursion P (used_channels x)) next_is
        (row_uses P s1 input offer r stands1 fits (subst (λ (x : Connection). IsOpen x.state) (sym next_is) remains_open) own (subst (λ (x : Connection). AllByRecursion P (awaited_in x.state)) (sym next_is) new)) where
          kept_is : (state : State) (x : Connection) → kept_in state x ≡ Some next → x ≡ next
          kept_is Removed x is = absurd cc
          kept_is _ x is = same_Some _ _ is

  turn_uses : (P : Channel → Type 0) (st : Step) (v : Actors) → connection_of world.controller s.number ≡ Some s → 1 ≤ s.number → v.controller ≡ (step world.controller st).next → connection_of v.controller s.number ≡ Some next → IsOpen next.state
      → AllByRecursion P (used_channels s) → AllByRecursion P (awaited_in next.state) → AllByRecursion P (used_channels next)
  turn_uses P st v there from_one leads now remains_open all new =
      let c : Controller = (life settings (all_steps (new_actors settings) done)).next in
      let by_table : world.controller ≡ c = FollowsTable-new settings done in
      let acts : ActsOn s.number c st = life_acts settings (all_steps (new_actors settings) done) st s.number from_one in
      next_uses P s.number c.next_number _ _ acts.put (connection_of c s.number) (connection_of (step c st).next s.number) acts.acts
      (ap (λ (d : Controller). connection_of d s.number) (sym by_table) ∙ there) (connections_are_valid_new settings done s.number s there)
      (ap (λ (d : Controller). connection_of (step d st).next s.number) (sym by_table) ∙ ap (λ (d : Controller). connection_of d s.number) (sym leads) ∙ now) remains_open all new

  -- ---- at each event

  all_less : (v : Actors) (cs : List Channel) →
      NoneJoins world v →
      AllByRecursion (λ c. c.station ≢ SWITCH_LINK) cs →
      AllByRecursion (λ c. initials_up world (place_of c) ≡ []) cs →
      AllByRecursion (λ c. initials_up v (place_of c) ≡ []) cs
  all_less v [] less placed all = tt
  all_less v (c ∷ cs) less placed all = (sub_nothing (subst (Sub (initials_up v (place_of c))) all.0 (less (place_of c) placed.0)), all_less v cs less placed.1 all.1)

  fewer : (v : Actors) (cs : List Channel) →
      NoneJoin world v cs →
      AllByRecursion (λ c. initials_up world (place_of c) ≡ []) cs →
      AllByRecursion (λ c. initials_up v (place_of c) ≡ []) cs
  fewer v [] less all = tt
  fewer v (c ∷ cs) less all = (sub_nothing (subst (Sub (initials_up v (place_of c))) all.0 less.0), fewer v cs less.1 all.1)

  awaited_none : (v : Actors) (cs : List Channel) →
      AllByRecursion (λ c. messages_in (coming_up v (place_of c)) ≡ []) cs →
      AllByRecursion (λ c. initials_up v (place_of c) ≡ []) cs
  awaited_none v [] all = tt
  awaited_none v (c ∷ cs) all = (initials_none v (place_of c) all.0, awaited_none v cs all.1)

  -- of a mobile that sent its initial message
  sent_none : (number : ℕ) (p : Mobile) (tenure : Tenure) (command : Option Command) (frame : List ℕ) (one : Mobile) → mobile_of world number ≡ Some p → p.seat ≡ On tenure command → is_reached world tenure ≡ true → mobile_of world mobile ≡ Some one → one.opens ≡ false → IsAlone world mobile s
      → AllByRecursion (λ c. c.station ≢ SWITCH_LINK) (used_channels s) → NoneJoin world (brought world p tenure.at Zero frame) (used_channels s) × HasSent (brought world p tenure.at Zero frame) mobile
  sent_none number p tenure command frame one acts sits reached found sent alone placed = by (nat_eq number mobile) refl where
    v : Actors
    v = brought world p tenure.at Zero frame

    q_number : (record (framed p Zero) { opens = false }).number ≡ number
    q_number = number_found number world.mobiles p acts

    own : p.opens ≡ false → (cs : List Channel) → NoneJoin world v cs
    own is [] = tt
    own is (c ∷ cs) = (initials_later world p tenure frame (place_of c) is, own is cs)

    elsewhere : (cs : List Channel) → IsElsewhere cs tenure.at → AllByRecursion (λ c. c.station ≢ SWITCH_LINK) cs → NoneJoin world v cs
    elsewhere [] apart placed = tt
    elsewhere (c ∷ cs) apart placed = (initials_apart world p tenure frame c reached placed.0 apart.0, elsewhere cs apart.1 placed.1)

    by : (b : Bool) → nat_eq number mobile ≡ b → NoneJoin world v (used_channels s) × HasSent v mobile
    by true hit =
        let is : number ≡ mobile = eqb-true number mobile hit in
        let p_is : p ≡ one = same_Some _ _ (sym acts ∙ ap (mobile_of world) is ∙ found) in (
          own (ap (λ (x : Mobile). x.opens) p_is ∙ sent) (used_channels s),
          record {
            one = record (framed p Zero) { opens = false };
            found = ap (λ (n : ℕ). find (has_number n) (put_back (record (framed p Zero) { opens = false }) world.mobiles)) (sym is ∙ sym q_number) ∙ back_found (record (framed p Zero) { opens = false }) world.mobiles p (ap (λ (n : ℕ). find (has_number n) world.mobiles) q_number ∙ acts);
            sent = refl;
          },
        )
    by false miss =
        let differs : number ≢ mobile = eqb-false number mobile miss in (
          elsewhere (used_channels s) (alone number p tenure command differs acts sits reached) placed,
          record { one = one; found = back_other (record (framed p Zero) { opens = false }) world.mobiles mobile (λ is. differs (sym q_number ∙ is)) ∙ found; sent = sent },
        )

  opened_of : (v : Actors) (one : Mobile) →
      mobile_of v mobile ≡ Some one →
      HasSent v mobile →
      AllByRecursion (λ c. initials_up v (place_of c) ≡ []) (used_channels next) →
      HasOpened v one next
  opened_of v one found sent none = record { opened = ap (λ (x : Mobile). x.opens) (same_Some _ _ (sym found ∙ sent.found)) ∙ sent.sent; none_arrives = none }

  -- where the controller takes no part it is as it was
  as_it_was : (v : Actors) →
      v.controller ≡ world.controller →
      connection_of world.controller s.number ≡ Some s →
      connection_of v.controller s.number ≡ Some next →
      s ≡ next
  as_it_was v leads there now = same_Some _ _ (sym there ∙ ap (λ (c : Controller). connection_of c s.number) (sym leads) ∙ now)

  passing_opened : (event : Event) → is_passing event ≡ true → (one : Mobile) → mobile_of world mobile ≡ Some one → one.opens ≡ false → connection_of world.controller s.number ≡ Some s → connection_of (actors_after world event).controller s.number ≡ Some next
      → AllByRecursion (λ c. c.station ≢ SWITCH_LINK) (used_channels s) → AllByRecursion (λ c. initials_up world (place_of c) ≡ []) (used_channels s)
      → HasSent (actors_after world event) mobile × AllByRecursion (λ c. initials_up (actors_after world event) (place_of c) ≡ []) (used_channels next)
  passing_opened event passing one found sent there now placed none =
      let v : Actors = actors_after world event in
      let passes : Passes world v = after_taken (Passes world) (event_after world event) world (event_passes world event passing (good_all (new_actors settings) done (good_new settings))) (passes_itself world) in
      let all : AllGo world event v = after_taken (AllGo world event) (event_after world event) world (event_leads_all world event passing) (all_same world event world refl) in
      let each = all.each mobile one found in
      let is : s ≡ next = as_it_was v passes.controller there now in (
        record { one = each.0; found = each.1; sent = sent_by_event sent each.2 },
        subst (λ (x : Connection). AllByRecursion (λ c. initials_up v (place_of c) ≡ []) (used_channels x)) is (all_less v (used_channels s) (λ at at_is. initials_pass at at_is passes) placed none),
      )

  abbrev Opens : Actors → Type 0
  Opens v = connection_of v.controller s.number ≡ Some next → HasSent v mobile × AllByRecursion (λ c. initials_up v (place_of c) ≡ []) (used_channels next)

  sent_opened : (number : ℕ) → (one : Mobile) → mobile_of world mobile ≡ Some one → one.opens ≡ false → connection_of world.controller s.number ≡ Some s → IsAlone world mobile s
      → AllByRecursion (λ c. c.station ≢ SWITCH_LINK) (used_channels s) → AllByRecursion (λ c. initials_up world (place_of c) ≡ []) (used_channels s) → Opens (actors_after world (events.AirUp number Zero))
  unfolding event_after
  sent_opened number one found sent there alone placed none =
      let still : Opens world = λ now. (record { one = one; found = found; sent = sent }, subst (λ (x : Connection). AllByRecursion (λ c. initials_up world (place_of c) ≡ []) (used_channels x)) (as_it_was world refl there now) none) in
      after_taken Opens (event_after world (events.AirUp number Zero)) world (air_up_leads Opens world number Zero (λ p tenure command frame acts sits lent reached. λ now.
      let v : Actors = brought world p tenure.at Zero frame in
      let both = sent_none number p tenure command frame one acts sits reached found sent alone placed in
      (both.1, subst (λ (x : Connection). AllByRecursion (λ c. initials_up v (place_of c) ≡ []) (used_channels x)) (as_it_was v refl there now) (fewer v (used_channels s) both.0 none)))) still

  -- the controller takes a step
  turn_opened : (st : Step) (v : Actors) (one : Mobile) → mobile_of world mobile ≡ Some one → one.opens ≡ false → connection_of world.controller s.number ≡ Some s → 1 ≤ s.number → v.mobiles ≡ world.mobiles → v.controller ≡ (step world.controller st).next → NoneJoins world v
      → AllByRecursion (λ c. initials_up world (place_of c) ≡ []) (used_channels s) → AllByRecursion (λ c. c.station ≢ SWITCH_LINK) (used_channels s) → AllByRecursion (λ c. initials_up v (place_of c) ≡ []) (awaited_in next.state) → connection_of v.controller s.number ≡ Some next → IsOpen next.state
      → HasSent v mobile × AllByRecursion (λ c. initials_up v (place_of c) ≡ []) (used_channels next)
  turn_opened st v one found sent there from_one mobiles leads less none placed new now remains_open = (
    record { one = one; found = ap (λ (ms : List Mobile). find (has_number mobile) ms) mobiles ∙ found; sent = sent },
    turn_uses (λ c. initials_up v (place_of c) ≡ []) st v there from_one leads now remains_open (all_less v (used_channels s) less placed none) new,
  )

  abbrev Handles : Actors → Type 0
  Handles v = AllByRecursion (λ c. initials_up v (place_of c) ≡ []) (awaited_in next.state) → connection_of v.controller s.number ≡ Some next → IsOpen next.state → HasSent v mobile × AllByRecursion (λ c. initials_up v (place_of c) ≡ []) (used_channels next)

  handle_opened : (one : Mobile) → mobile_of world mobile ≡ Some one → one.opens ≡ false → connection_of world.controller s.number ≡ Some s → 1 ≤ s.number
      → AllByRecursion (λ c. initials_up world (place_of c) ≡ []) (used_channels s) → AllByRecursion (λ c. c.station ≢ SWITCH_LINK) (used_channels s) → Handles (actors_after world events.Handle)
  unfolding event_after
  handle_opened one found sent there from_one none placed =
      let still : Handles world = λ new now remains_open. (record { one = one; found = found; sent = sent }, subst (λ (x : Connection). AllByRecursion (λ c. initials_up world (place_of c) ≡ []) (used_channels x)) (as_it_was world refl there now) none) in
      after_taken Handles (event_after world events.Handle) world (handle_leads Handles world (λ item items pending. λ new now remains_open.
      let target : Option Tenure = target_in world item.source item.what in
      let t : Turn = take item world.controller in
      let u : Actors = record world { inbox = items } in
      turn_opened (Take item) (with_turn target t u) one found sent there from_one (turn_mobiles target t.outs (record u { controller = t.next })) (controller-is target t u)
      (λ at at_is. subst (λ (xs : List (List ℕ)). Sub xs (initials_up world at)) (sym (turned target t u at)) (behind_first world item items at pending)) none placed new now remains_open)) still

  tick_opened : (ms : ℕ) (one : Mobile) → mobile_of world mobile ≡ Some one → one.opens ≡ false → connection_of world.controller s.number ≡ Some s → 1 ≤ s.number
      → AllByRecursion (λ c. initials_up world (place_of c) ≡ []) (used_channels s) → AllByRecursion (λ c. c.station ≢ SWITCH_LINK) (used_channels s) → Handles (actors_after world (events.Tick ms))
  unfolding event_after
  tick_opened ms one found sent there from_one none placed = λ new now remains_open.
      let t : Turn = tick ms world.controller in
      turn_opened (Tick ms) (with_turn None t world) one found sent there from_one (turn_mobiles None t.outs (record world { controller = t.next })) (controller-is None t world)
      (λ at at_is. subst (λ (xs : List (List ℕ)). Sub xs (initials_up world at)) (sym (turned None t world at)) (sub_itself (initials_up world at))) none placed new now remains_open

pub opened_remain_opened_new : (settings : Parameters) (done : List Event) (event : Event) → OpenedRemainOpened settings done event
opened_remain_opened_new settings done event mobile s next lined_up alone number had fresh lined = by event refl where
  w : Actors
  w = actors_after_all (new_actors settings) done

  v : Actors
  v = actors_after w event

  now : connection_of v.controller s.number ≡ Some next
  now = ap (connection_of v.controller) (sym number) ∙ had.there

  sent : lined_up.lined.one.opens ≡ false
  sent = lined_up.opened.opened

  placed : AllByRecursion (λ c. c.station ≢ SWITCH_LINK) (used_channels s)
  placed = lined_up.lined.lined.placed

  new : AllByRecursion (λ c. initials_up v (place_of c) ≡ []) (awaited_in next.state)
  new = awaited_none settings done mobile s next v (awaited_in next.state) fresh.silent

  done_with : HasSent v mobile × AllByRecursion (λ c. initials_up v (place_of c) ≡ []) (used_channels next) → HasOpened v lined.one next
  done_with both = opened_of settings done mobile s next v lined.one lined.found both.0 both.1

  passing : is_passing event ≡ true → HasOpened v lined.one next
  passing is = done_with (passing_opened settings done mobile s next event is lined_up.lined.one lined_up.lined.found sent lined_up.had.there now placed lined_up.opened.none_arrives)

  Handled_at : Event → Type 0
  Handled_at x = AllByRecursion (λ c. initials_up (actors_after w x) (place_of c) ≡ []) (awaited_in next.state) → connection_of (actors_after w x).controller s.number ≡ Some next → IsOpen next.state
      → HasSent (actors_after w x) mobile × AllByRecursion (λ c. initials_up (actors_after w x) (place_of c) ≡ []) (used_channels next)

  by : (e : Event) → event ≡ e → HasOpened v lined.one next
  by (events.AirUp n Zero) is = done_with (subst (λ (x : Event). connection_of (actors_after w x).controller s.number ≡ Some next → HasSent (actors_after w x) mobile × AllByRecursion (λ c. initials_up (actors_after w x) (place_of c) ≡ []) (used_channels next)) (sym is)
      (sent_opened settings done mobile s next n lined_up.lined.one lined_up.lined.found sent lined_up.had.there alone placed lined_up.opened.none_arrives) now)
  by events.Handle is = done_with (subst (λ (x : Event). Handled_at x) (sym is) (handle_opened settings done mobile s next lined_up.lined.one lined_up.lined.found sent lined_up.had.there lined_up.had.from_one lined_up.opened.none_arrives placed) new now had.is_open)
  by (events.Tick ms) is = done_with (subst (λ (x : Event). Handled_at x) (sym is) (tick_opened settings done mobile s next ms lined_up.lined.one lined_up.lined.found sent lined_up.had.there lined_up.had.from_one lined_up.opened.none_arrives placed) new now had.is_open)
  by e is = passing (ap is_passing is)
