-- SPDX-License-Identifier: MIT OR Apache-2.0
-- In every run what stations take agrees with the ownership that the run gives.
use Rattle.world_laws.proofs.Prelude.{◌≡◌, ◌≢◌, ◌⊎◌, inl, inr, ℕ, ◌+◌, ◌==◌, ◌≤◌, ◌<◌, nat_eq, Bool, true, false, cond, if◌then◌else◌, List}
use Rattle.world_laws.proofs.Prelude.{[], ◌∷◌, ◌++◌, length, option_to_list, Option, Some, None, refl, sym, ap, ◌∙◌, subst, arith}
use Rattle.world_laws.proofs.Prelude.{true≢false, cases_Bool, eqb-true, eq-eqb, ne_eqb, AllByRecursion, flat_map, Place, Out, SWITCH_LINK}
use Rattle.world_laws.proofs.Prelude.{AllByRecursion-append, is_link_up, IsOctetStep, IsSent, links_with, step_keeps_rest, life_names, is_there}
use Rattle.world_laws.proofs.Prelude.{life_sends, life_ready, life_uses, Ready, ChannelState, Free, InUse, Step, Take, Word, OnChannel}
use Rattle.world_laws.proofs.Prelude.{Controller, channel_state, each, ignoring, hears, new_controller, place_at, on_break, on_what}
use Rattle.world_laws.proofs.Prelude.{on_word, step, rsl_word, Frame, Item, What, ActivationAck, Rsl, AreAllowed, Parameters, Event, Handle}
use Rattle.world_laws.proofs.Prelude.{Tenure, actors_after, actors_after_all, Agrees, AllAgree, acknowledged_in, asker, said, tenure_behind}
use Rattle.world_laws.proofs.Prelude.{to_arrive, owner_in, acknowledgements, due, acknowledged_tenure, target_in, rsl_in, all_steps}
use Rattle.world_laws.proofs.Prelude.{first_taken, step_at, Actors, base_of, is_active_at, is_up, new_actors, outbox_of, spot_at, tenure_at}
use Rattle.world_laws.proofs.Prelude.{FollowsTable-new, IsKnown, IsKnownItem, known_inbox, runs, over, heard_of, Serves, hear, both_empty}
use Rattle.world_laws.proofs.Prelude.{acks_append, free≢use, life_reaches, tick, word_of, one_at_most, nothing_is_due, owned_run, AllSitBy-new}
use Rattle.world_laws.proofs.Prelude.{OneMobileEach-new}
use Rattle.conn_rules.specs.declared.input.Input.TheVariants as inputs
use Rattle.controller_model.specs.declared.step.Step.TheVariants.{Tick}
use Rattle.controller_model.specs.Life.{life, take}
use Rattle.ruled_relay.specs.declared.item.What.TheVariants as whats
use Rattle.rsl_codec.specs.declared.rsl.Rsl.TheVariants as rsl
use Rattle.world_model.specs.declared.event.Event.TheVariants as events
use Rattle.world_model.proofs.OwnerRuns.{ServesAt, ServesThrough}
use Rattle.world_laws.specs.Owned.{MobilesSitOnTheirs, OneSendsEach, TenuresAreOwned}
use Rattle.world_laws.proofs.OrderHeard.{FreesNone, none_frees, none_nacks, other_heard, read_known, station_heard, switch_frees}
use Rattle.world_laws.proofs.OrderHeard.{word_known}
use Rattle.world_laws.proofs.OrderLeads.{LeadsOut, ack_leads}
use Rattle.world_laws.proofs.OrderServes.{Lawful, LeadsOwn, broken_down, heard_before, serves_by}
use Rattle.world_laws.proofs.OrderSteps.{break_serves, tick_serves}
use Rattle.world_laws.proofs.OrderTurns.{Serving, word_serves}
use Rattle.world_laws.proofs.Events.{snoc_actors, world}
use Rattle.world_laws.proofs.Framing.{all_left, all_right}

-- ---- the controller of a life

each-settings : (c : Controller) (steps : List Step) → (each step c steps).next.settings ≡ c.settings
each-settings c [] = refl
each-settings c (s ∷ ss) = each-settings (step c s).next ss ∙ (step_keeps_rest c s).settings

pub life-settings : (p : Parameters) (steps : List Step) → (life p steps).next.settings ≡ p
unfolding life
life-settings p steps = each-settings (new_controller p) steps

pub lawful_life : (p : Parameters) (steps : List Step) (s : Step) →
    AreAllowed p →
    AllByRecursion IsOctetStep steps →
    IsOctetStep s →
    Lawful (life p steps).next s
lawful_life p steps s allowed octets own = record {
  ready = life_ready p steps allowed;
  used = life_uses p steps allowed;
  sent = life_sends p steps s allowed octets own;
  up = life_reaches p steps s allowed;
  names = λ number from_one. life_names p steps s number from_one;
}

-- ---- what is heard of an item

nothing_heard : (at : Place) (source : ℕ) (state : ChannelState) →
    hear (heard_of at (record { source = source; what = whats.Down })) state ≡ state
nothing_heard at source state = by (source == at.station) where
  by : (b : Bool) → hear (acknowledgements at.number (if b then [] else [])) state ≡ state
  by true = refl
  by false = refl

quiet_serving : (at : Place) (least : 1 ≤ at.station) (c : Controller) → Serving at least c (channel_state c at) (ignoring c)
quiet_serving at least c sent = (runs over, tt)

not_switch : (at : Place) (source : ℕ) → 1 ≤ at.station → source ≡ SWITCH_LINK → (source == at.station) ≡ false
not_switch at source least is = ne_eqb source at.station (λ same. absurd (let zero : at.station ≡ 0 = sym same ∙ is in omega (arith, zero, least)))

pub source_or : (source : ℕ) → (source ≡ SWITCH_LINK) ⊎ (source ≢ SWITCH_LINK)
source_or source = elim (cases_Bool (nat_eq source SWITCH_LINK)) [
  | inl hit ↦ inl (eqb-true source SWITCH_LINK hit)
  | inr miss ↦ inr (λ same. true≢false (sym (eq-eqb source SWITCH_LINK same) ∙ miss))
]

frame_serving : (at : Place) (least : 1 ≤ at.station) (source : ℕ) (frame : Frame) (c : Controller) →
    IsKnownItem (record { source = source; what = whats.Frame frame }) →
    Ready c →
    Serving at least c (hear (heard_of at (record { source = source; what = whats.Frame frame })) (channel_state c at)) (on_word source (word_of source frame) c)
frame_serving at least source frame c known ready = elim (source_or source) [
  | inl switch ↦
      let frees = subst (λ (k : ℕ). FreesNone (word_of k frame)) (sym switch) (switch_frees frame) in
      subst (λ (s : ChannelState). Serving at least c s (on_word source (word_of source frame) c))
      (none_frees at least (word_of source frame) c frees ∙ sym (other_heard at (record { source = source; what = whats.Frame frame }) c (not_switch at source least switch)))
      (word_serves at least source (word_of source frame) c (none_nacks (word_of source frame) frees) ready)
  | inr station ↦
      let heard = station_heard at least source frame c station (known.station station) in
      subst (λ (s : ChannelState). Serving at least c s (on_word source (word_of source frame) c)) (sym heard.0) (word_serves at least source (word_of source frame) c heard.1 ready)
]

item_serving : (at : Place) (least : 1 ≤ at.station) (source : ℕ) (what : What) (c : Controller) (up : Bool) →
    hears c source ≡ up →
    IsKnownItem (record { source = source; what = what }) →
    Ready c →
    is_link_up (links_with up source what c) at.station ≡ true →
    is_link_up c.links at.station ≡ true →
    Serving at least c (hear (heard_of at (record { source = source; what = what })) (channel_state c at)) (on_what up source what c)
item_serving at least source (whats.Frame frame) c true up known ready hearing before = frame_serving at least source frame c known ready
item_serving at least source whats.Down c true up known ready hearing before =
    subst (λ (s : ChannelState). Serving at least c s (on_break source c)) (sym (nothing_heard at source (channel_state c at)))
    (break_serves at least source c (λ same. true≢false (sym hearing ∙ ap (is_link_up (links_with true source whats.Down c)) same ∙ broken_down c.links source)) ready)
item_serving at least source what c false down known ready hearing before =
    subst (λ (s : ChannelState). Serving at least c s (ignoring c)) (sym (other_heard at (record { source = source; what = what }) c (ne_eqb source at.station (λ same. true≢false (sym before ∙ ap (is_link_up c.links) (sym same) ∙ down))))) (quiet_serving at least c)

-- ---- where a command leads

none_lead : (owner : Tenure → ℕ) (w : Actors) (at : Place) (target : Option Tenure) (outs : List Out) →
    target ≡ None →
    AllByRecursion (LeadsOwn owner w at target) outs
none_lead owner w at target [] none = tt
none_lead owner w at target (out ∷ outs) none = ((λ tenure is d says same. absurd (let both : None ≡ Some tenure = sym none ∙ is in cc)), none_lead owner w at target outs none)

-- the tenure whose ACTIVATION ACK is the first item is the last one, and of the mobile of the
-- connection that uses the channel
acknowledged_own : (owner : Tenure → ℕ) (w : Actors) (p : Place) (number mobile : ℕ) (m : Rsl) (rest : List Rsl) →
    Agrees owner w p →
    hears w.controller p.station ≡ true →
    channel_state w.controller p ≡ InUse number →
    asker w.controller number ≡ Some mobile →
    acknowledged_in p w.inbox ≡ m ∷ rest →
    owner (tenure_at w p) ≡ mobile
acknowledged_own owner w p number mobile m rest agrees hearing used asks first =
    let way = agrees.way hearing in
    let behind : List Rsl = rest ++ (acknowledgements p.number (base_of w p.station).messages ++ due p.number (is_active_at w p) (outbox_of w p.station)) in
    let to_arrive_is : to_arrive w p ≡ m ∷ behind = ap (λ (xs : List Rsl). xs ++ (acknowledgements p.number (base_of w p.station).messages ++ due p.number (is_active_at w p) (outbox_of w p.station))) first in
    let none : behind ++ way.lost ≡ [] = one_at_most p.number number (channel_state w.controller p) (to_arrive w p ++ way.lost) (m ∷ []) (behind ++ way.lost) way.owed used (ap (λ (xs : List Rsl). xs ++ way.lost) to_arrive_is) (λ is. absurd cc) in
    let nothing : behind ≡ [] = (both_empty behind way.lost (sym none)).0 in
    let parts = both_empty rest (acknowledgements p.number (base_of w p.station).messages ++ due p.number (is_active_at w p) (outbox_of w p.station)) (sym nothing) in
    let nothing_due : due p.number (is_active_at w p) (outbox_of w p.station) ≡ [] = (both_empty (acknowledgements p.number (base_of w p.station).messages) (due p.number (is_active_at w p) (outbox_of w p.station)) (sym parts.1)).1 in
    ap (λ (k : ℕ). owner (record { at = p; number = k })) (sym (nothing_is_due p.number (is_active_at w p) (spot_at w p).tenure (outbox_of w p.station) nothing_due))
    ∙ agrees.own number mobile hearing used asks (λ down silent. absurd (let both : m ∷ behind ≡ [] = sym to_arrive_is ∙ silent in cc))

first_heard : (w : Actors) (p : Place) (item : Item) (items : List Item) (frame : Frame) (a : ActivationAck) →
    w.inbox ≡ item ∷ items →
    item ≡ record { source = p.station; what = whats.Frame frame } →
    rsl_in frame ≡ Some (rsl.ChannelActivationAck a) →
    a.channel ≡ p.number →
    acknowledged_in p w.inbox ≡ rsl.ChannelActivationAck a ∷ acknowledged_in p items
first_heard w p item items frame a pending is says same =
    ap (acknowledged_in p) pending ∙ acks_append p.number (said p.station item) (flat_map (said p.station) items)
    ∙ ap (λ (xs : List Rsl). xs ++ acknowledged_in p items)
    (ap (λ (i : Item). acknowledgements p.number (said p.station i)) is
    ∙ ap (λ (b : Bool). acknowledgements p.number (if b then option_to_list (rsl_in frame) else [])) (eq-eqb p.station p.station refl)
    ∙ ap (λ (o : Option Rsl). acknowledgements p.number (option_to_list o)) says
    ∙ ap (λ (b : Bool). cond b (rsl.ChannelActivationAck a ∷ []) []) (eq-eqb a.channel p.number same))

pub not_zero : (n : ℕ) → n ≢ 0 → 1 ≤ n
not_zero n is = omega (arith, is)

-- a channel that isn't free is one of a station of the settings
pub within_settings : (settings : Parameters) (c : Controller) (at : Place) →
    c.settings ≡ settings →
    Ready c →
    channel_state c at ≢ Free →
    at.station ≤ length settings.cells
within_settings settings c at same ready busy =
    subst (λ (p : Parameters). at.station ≤ length p.cells) same (less at.station (length c.channels) (length c.settings.cells) (is_there c.channels at busy).station ready.holds.shaped.links) where
      less : (a b d : ℕ) → a < b → b ≡ d + 1 → a ≤ d
      less a b d small is = omega (arith, small, is)

module _ (settings : Parameters) (owner : Tenure → ℕ) (w : Actors) (agree : AllAgree settings owner w) (same_settings : w.controller.settings ≡ settings) (ready : Ready w.controller) where
  -- a channel that is in use is one of a station of the settings
  within : (p : Place) (number : ℕ) → channel_state w.controller p ≡ InUse number → p.station ≤ length settings.cells
  within p number used = within_settings settings w.controller p same_settings ready (λ free. free≢use number (sym free ∙ used))

  acks_lead : (at : Place) (source : ℕ) (frame : Frame) (items : List Item) (a : ActivationAck) (outs : List Out) → 1 ≤ at.station → at.station ≤ length settings.cells → source ≢ SWITCH_LINK → hears w.controller source ≡ true → w.inbox ≡ record { source = source; what = whats.Frame frame } ∷ items → rsl_in frame ≡ Some (rsl.ChannelActivationAck a) → hears w.controller at.station ≡ true → is_up w at.station ≡ true
      → AllByRecursion (LeadsOut at (place_at source a.channel) w.controller) outs → AllByRecursion (LeadsOwn owner w at (Some (tenure_at w (place_at source a.channel)))) outs
  acks_lead at source frame items a [] least most station up pending says hearing at_up leads = tt
  acks_lead at source frame items a (out ∷ outs) least most station up pending says hearing at_up leads = (
    λ tenure is d said same.
        let user = leads.0 d said same in
        let p : Place = place_at source a.channel in
        let own : owner (tenure_at w p) ≡ user.mobile = acknowledged_own owner w p user.number user.mobile (rsl.ChannelActivationAck a) (acknowledged_in p items) (agree p (not_zero source station) (within p user.number user.there)) up user.there user.asks
        (first_heard w p (record { source = source; what = whats.Frame frame }) items frame a pending refl says refl) in
        let there : owner (tenure_behind w at) ≡ user.mobile = (agree at least most).own user.number user.mobile hearing user.here user.asks (λ down silent. true≢false (sym at_up ∙ down)) in
        let tenure_is : tenure_at w p ≡ tenure = (let both : Some (tenure_at w p) ≡ Some tenure = is in cc) in
        (user.number, user.here, ap owner (sym tenure_is) ∙ own ∙ sym there),
    acks_lead at source frame items a outs least most station up pending says hearing at_up leads.1,
  )

  -- by what a station made
  message_leads : (at : Place) (source : ℕ) (frame : Frame) (items : List Item) (m : Rsl) (outs : List Out) → 1 ≤ at.station → at.station ≤ length settings.cells → source ≢ SWITCH_LINK → hears w.controller source ≡ true → w.inbox ≡ record { source = source; what = whats.Frame frame } ∷ items → rsl_in frame ≡ Some m → hears w.controller at.station ≡ true → is_up w at.station ≡ true
      → ((a : ActivationAck) → m ≡ rsl.ChannelActivationAck a → AllByRecursion (LeadsOut at (place_at source a.channel) w.controller) outs) → AllByRecursion (LeadsOwn owner w at (acknowledged_tenure w source (Some m))) outs
  message_leads at source frame items (rsl.ChannelActivationAck a) outs least most station up pending says hearing at_up leads = acks_lead at source frame items a outs least most station up pending says hearing at_up (leads a refl)
  message_leads at source frame items m outs least most station up pending says hearing at_up leads = none_lead owner w at None outs refl

  frame_leads : (at : Place) (source : ℕ) (frame : Frame) (items : List Item) (up : Bool) → hears w.controller source ≡ up → 1 ≤ at.station → at.station ≤ length settings.cells → source ≢ SWITCH_LINK → w.inbox ≡ record { source = source; what = whats.Frame frame } ∷ items → IsKnown (whats.Frame frame) → hears w.controller at.station ≡ true → is_up w at.station ≡ true
      → AllByRecursion IsSent (on_what up source (whats.Frame frame) w.controller).outs → AllByRecursion (LeadsOwn owner w at (acknowledged_tenure w source (rsl_in frame))) (on_what up source (whats.Frame frame) w.controller).outs
  frame_leads at source frame items false down least most station pending known hearing at_up sent = tt
  frame_leads at source frame items true up least most station pending (m, is, read, no_nack) hearing at_up sent =
      let says : rsl_in frame ≡ Some m = ap rsl_in is ∙ read_known m read in
      let word : word_of source frame ≡ rsl_word source m = ap (word_of source) is ∙ word_known source m station read in
      let c : Controller = w.controller in
      subst (λ (o : Option Rsl). AllByRecursion (LeadsOwn owner w at (acknowledged_tenure w source o)) (on_word source (word_of source frame) c).outs) (sym says)
      (message_leads at source frame items m (on_word source (word_of source frame) c).outs least most station up pending says hearing at_up
      (λ a acks.
      let p : Place = place_at source a.channel in
      let own : word_of source frame ≡ OnChannel p (inputs.ActivationAck p) = word ∙ ap (rsl_word source) acks in
      subst (λ (x : Word). AllByRecursion (LeadsOut at p c) (on_word source x c).outs) (sym own)
      (ack_leads at p c (channel_state c p) ready (subst (λ (x : Word). AllByRecursion IsSent (on_word source x c).outs) own sent))))

  pub item_leads : (at : Place) (source : ℕ) (what : What) (items : List Item) → 1 ≤ at.station → at.station ≤ length settings.cells → w.inbox ≡ record { source = source; what = what } ∷ items → IsKnownItem (record { source = source; what = what }) → hears w.controller at.station ≡ true → is_up w at.station ≡ true
      → AllByRecursion IsSent (on_what (hears w.controller source) source what w.controller).outs → AllByRecursion (LeadsOwn owner w at (target_in w source what)) (on_what (hears w.controller source) source what w.controller).outs
  item_leads at source whats.Down items least most pending known hearing at_up sent = none_lead owner w at None (on_what (hears w.controller source) source whats.Down w.controller).outs refl
  item_leads at source (whats.Frame frame) items least most pending known hearing at_up sent = elim (source_or source) [
    | inl switch ↦ none_lead owner w at (acknowledged_tenure w source (rsl_in frame)) (on_what (hears w.controller source) source (whats.Frame frame) w.controller).outs (ap (acknowledged_tenure w source) (known.switch switch))
    | inr station ↦ frame_leads at source frame items (hears w.controller source) refl least most station pending (known.station station) hearing at_up sent
  ]

  pub serves_handle : (item : Item) (items : List Item) →
      w.inbox ≡ item ∷ items →
      Lawful w.controller (Take item) →
      IsKnownItem item →
      (at : Place) →
      1 ≤ at.station →
      at.station ≤ length settings.cells →
      Serves owner w at (target_in w item.source item.what) (take item w.controller) (heard_of at item)
  unfolding take
  serves_handle item items pending laws known at least most =
      serves_by owner w at least (target_in w item.source item.what) (Take item) (heard_of at item) (agree at least most) laws
      (λ hearing. item_serving at least item.source item.what w.controller (hears w.controller item.source) refl known ready
      (ap (λ (links : List Bool). is_link_up links at.station) (sym (step_keeps_rest w.controller (Take item)).links_are) ∙ hearing) (heard_before w.controller (Take item) at.station hearing))
      (λ hearing up. item_leads at item.source item.what items least most pending known (heard_before w.controller (Take item) at.station hearing) up laws.sent)

  pub serves_tick : (ms : ℕ) →
      Lawful w.controller (Tick ms) →
      (at : Place) →
      1 ≤ at.station →
      at.station ≤ length settings.cells →
      Serves owner w at None (tick ms w.controller) []
  serves_tick ms laws at least most =
      serves_by owner w at least None (Tick ms) [] (agree at least most) laws (λ hearing. tick_serves at least ms w.controller ready) (λ hearing up. none_lead owner w at None (step w.controller (Tick ms)).outs refl)

-- ---- over all events

pub snoc_steps : (P : Step → Type 0) (w : Actors) (xs : List Event) (e : Event) →
    AllByRecursion P (all_steps w xs) →
    AllByRecursion P (step_at (actors_after_all w xs) e) →
    AllByRecursion P (all_steps w (xs ++ e ∷ []))
snoc_steps P w [] e all own = AllByRecursion-append P (step_at w e) [] own tt
snoc_steps P w (x ∷ xs) e all own =
    AllByRecursion-append P (step_at w x) (all_steps (actors_after w x) (xs ++ e ∷ [])) (all_left P (step_at w x) (all_steps (actors_after w x) xs) all)
    (snoc_steps P (actors_after w x) xs e (all_right P (step_at w x) (all_steps (actors_after w x) xs) all) own)

-- the actors after the events that are done
pub serves_event : (settings : Parameters) (owner : Tenure → ℕ) (done : List Event) (w : Actors) (event : Event) →
    w ≡ world settings done →
    AreAllowed settings →
    AllByRecursion IsOctetStep (all_steps (new_actors settings) done) →
    AllByRecursion IsOctetStep (step_at w event) →
    AllAgree settings owner w →
    ServesAt settings owner w event
unfolding ServesAt
serves_event settings owner done w Handle is allowed octets own agree = λ item items pending.
    let by_table : w.controller ≡ (life settings (all_steps (new_actors settings) done)).next = ap (λ (x : Actors). x.controller) is ∙ FollowsTable-new settings done in
    let took_octets : AllByRecursion IsOctetStep (first_taken (item ∷ items)) = subst (λ (xs : List Item). AllByRecursion IsOctetStep (first_taken xs)) pending own in
    let laws : Lawful w.controller (Take item) = subst (λ (c : Controller). Lawful c (Take item)) (sym by_table) (lawful_life settings (all_steps (new_actors settings) done) (Take item) allowed octets took_octets.0) in
    let known : AllByRecursion IsKnownItem (item ∷ items) = subst (AllByRecursion IsKnownItem) pending (subst (λ (x : Actors). AllByRecursion IsKnownItem x.inbox) (sym is) (known_inbox settings done)) in
    serves_handle settings owner w agree (ap (λ (c : Controller). c.settings) by_table ∙ life-settings settings (all_steps (new_actors settings) done)) laws.ready item items pending laws known.0
serves_event settings owner done w (events.Tick ms) is allowed octets own agree =
    let by_table : w.controller ≡ (life settings (all_steps (new_actors settings) done)).next = ap (λ (x : Actors). x.controller) is ∙ FollowsTable-new settings done in
    let laws : Lawful w.controller (Tick ms) = subst (λ (c : Controller). Lawful c (Tick ms)) (sym by_table) (lawful_life settings (all_steps (new_actors settings) done) (Tick ms) allowed octets own.0) in
    serves_tick settings owner w agree (ap (λ (c : Controller). c.settings) by_table ∙ life-settings settings (all_steps (new_actors settings) done)) laws.ready ms laws
serves_event settings owner done w _ is allowed octets own agree = tt

pub serves_through : (settings : Parameters) (owner : Tenure → ℕ) (done rest : List Event) (w : Actors) →
    w ≡ world settings done →
    AreAllowed settings →
    AllByRecursion IsOctetStep (all_steps (new_actors settings) done) →
    AllByRecursion IsOctetStep (all_steps w rest) →
    ServesThrough settings owner w rest
unfolding ServesThrough
serves_through settings owner done [] w is allowed octets later = tt
serves_through settings owner done (event ∷ rest) w is allowed octets later =
    let own = all_left IsOctetStep (step_at w event) (all_steps (actors_after w event) rest) later in (
      λ agree. serves_event settings owner done w event is allowed octets own agree,
      serves_through settings owner (done ++ event ∷ []) rest (actors_after w event) (ap (λ (x : Actors). actors_after x event) is ∙ sym (snoc_actors (new_actors settings) done event)) allowed
          (snoc_steps IsOctetStep (new_actors settings) done event octets (subst (λ (x : Actors). AllByRecursion IsOctetStep (step_at x event)) is own))
          (all_right IsOctetStep (step_at w event) (all_steps (actors_after w event) rest) later),
    )

pub tenures_are_owned_new : (settings : Parameters) (events : List Event) → TenuresAreOwned settings events
tenures_are_owned_new settings events allowed octets = owned_run settings events (serves_through settings (owner_in (new_actors settings) events) [] events (new_actors settings) refl allowed tt octets)

pub mobiles_sit_on_theirs_new : (settings : Parameters) (events : List Event) → MobilesSitOnTheirs settings events
mobiles_sit_on_theirs_new settings events allowed octets = AllSitBy-new settings events (owner_in (new_actors settings) events) (tenures_are_owned_new settings events allowed octets)

pub one_sends_each_new : (settings : Parameters) (events : List Event) → OneSendsEach settings events
one_sends_each_new settings events allowed octets = OneMobileEach-new settings events (owner_in (new_actors settings) events) (tenures_are_owned_new settings events allowed octets)
