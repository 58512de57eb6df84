-- SPDX-License-Identifier: MIT OR Apache-2.0
-- The names agree after a step of the controller.
use Rattle.world_laws.proofs.Prelude.{◌≡◌, ◌⊎◌, ℕ, ◌≤◌, ◌<◌, ◌==◌, nat_le, Bool, true, false, if◌then◌else◌, List, [], ◌∷◌, ◌++◌, map}
use Rattle.world_laws.proofs.Prelude.{option_map, Option, Some, None, refl, sym, ap, ◌∙◌, subst, arith, inl, inr, AllByRecursion}
use Rattle.world_laws.proofs.Prelude.{cases_Bool, eqb-true, map-append, filter-append, Message, Out, SWITCH_LINK, AllByRecursion-append}
use Rattle.world_laws.proofs.Prelude.{AllByRecursion-filter, AllByRecursion-so, Input, Due, WasAsked, Complete, State}
use Rattle.world_laws.proofs.Prelude.{Closed, Removed, Connection, IsOpen, ActsOn, IsBrought, brought_by}
use Rattle.world_laws.proofs.Prelude.{brought_in, brought_with, if_held, IsThere, connection_of, is_for, outs_for, word_by, IsNumbered}
use Rattle.world_laws.proofs.Prelude.{IsOctetStep, IsSent, step_keeps_rest, find_below, life_acts, life_fits, IsText, life_sends, IsAtPlace}
use Rattle.world_laws.proofs.Prelude.{word_from, Step, Take, Word, OnChannel, Reports, OnConnection, Controller, Entry}
use Rattle.world_laws.proofs.Prelude.{channel_state, holder, hears, break_of, step, SwitchState, Item, What, AreAllowed, Parameters}
use Rattle.world_laws.proofs.Prelude.{OutboxEntry, Tenure, to_link, with_turn, Actors, is_up, outbox_of, turn_leads, all_join, IsBelow}
use Rattle.world_laws.proofs.Prelude.{IsFrom, step_numbered, life, word_of, entry_out}
use Rattle.conn_rules.specs.declared.input.Input.TheVariants as inputs
use Rattle.controller_model.specs.LifeLaws.Acts.{of_frame, nothing}
use Rattle.controller_model.proofs.LifeLaws.SeenFrames.{texts_back, texts_of}
use Rattle.ruled_relay.specs.declared.item.What.TheVariants as whats
use Rattle.world_model.specs.Relay.{entry_of}
use Rattle.world_laws.specs.References.Agree.{Agrees, Confirms, ConfirmsBeing, ConfirmsBy, ConfirmsIn, HasAsked, IsRight, IsUnknown, reads}
use Rattle.world_laws.specs.References.Agree.{reads_of}
use Rattle.world_laws.specs.References.Naming.{StepsTo, early, waits, gone, reach_in, reach_of}
use Rattle.world_laws.specs.References.Reads.{AreNothing, ArePlainReads, Read}
use Rattle.world_laws.proofs.References.Events.{IsEarly, Keeps, early_there}
use Rattle.world_laws.proofs.References.Goings.{Begins, acts_go}
use Rattle.world_laws.proofs.References.Numbered.{AreOfOne, outs_of_one}
use Rattle.world_laws.proofs.References.Peers.{Differ, peers_of}
use Rattle.world_laws.proofs.References.Right.{AreTexts, asking_said, clearing_said, own_put, plain_said, quiet_said, right_out, said}
use Rattle.world_laws.proofs.References.Runs.{Grows, Says, begins_agree, early_steps, steps_agree, steps_unheard}

-- ---- what is brought to a connection

module _ (P : ℕ → Type 0) (n r : ℕ) where
  held_comes : (o : Option ℕ) (input : Input) →
      IsBrought (if_held n o input) (inputs.ConnectionConfirm r) →
      ((holder : ℕ) → o ≡ Some holder → holder ≡ n → inputs.ConnectionConfirm r ≡ input → P r) →
      P r
  held_comes None input is by = absurd is
  held_comes (Some holder) input is by = elim (cases_Bool (holder == n)) [
    | inl hit ↦ by holder refl (eqb-true holder n hit) (subst (λ (b : Bool). IsBrought (if b then of_frame input else nothing) (inputs.ConnectionConfirm r)) hit is)
    | inr miss ↦ absurd (subst (λ (b : Bool). IsBrought (if b then of_frame input else nothing) (inputs.ConnectionConfirm r)) miss is)
  ]

  word_comes : (c : Controller) (source : ℕ) (word : Word) →
      IsFrom source word →
      ConfirmsIn P n word →
      IsBrought (brought_by c n word) (inputs.ConnectionConfirm r) →
      P r
  word_comes c source (OnChannel at input) from confirms is = held_comes (holder (channel_state c at)) input is (λ own there same input_is. absurd (subst (IsAtPlace at) (sym input_is) from.1))
  word_comes c source (Reports at number report) from confirms is = absurd cc
  word_comes c source (OnConnection destination input) from confirms is = held_comes (Some destination) input is (λ own there same input_is.
      subst (λ (x : Input). ConfirmsIn P n (OnConnection destination x)) (sym input_is) confirms (number own there same)) where
        number : (own : ℕ) → Some destination ≡ Some own → own ≡ n → destination ≡ n
        number own there same = let is : destination ≡ own = cc in is ∙ same
  word_comes c source _ from confirms is = absurd is

  break_comes : (source : ℕ) → inputs.ConnectionConfirm r ≡ break_of source → P r
  break_comes source is = by (source == SWITCH_LINK) is where
    by : (b : Bool) → inputs.ConnectionConfirm r ≡ (if b then inputs.SwitchDown else inputs.StationDown source) → P r
    by true is = absurd cc
    by false is = absurd cc

  what_comes : (c : Controller) (source : ℕ) (what : What) →
      ConfirmsIn P n (word_by source what) →
      IsBrought (brought_with c n source what) (inputs.ConnectionConfirm r) →
      P r
  what_comes c source (whats.Frame frame) confirms is = word_comes c source (word_of source frame) (word_from source frame) confirms is
  what_comes c source whats.Down confirms is = break_comes source is

  pub item_comes : (c : Controller) (item : Item) →
      ConfirmsBeing P n item →
      IsBrought (brought_in c n (Take item)) (inputs.ConnectionConfirm r) →
      P r
  item_comes c item confirms is = by (hears c item.source) is where
    by : (b : Bool) → IsBrought (if b then brought_with c n item.source item.what else nothing) (inputs.ConnectionConfirm r) → P r
    by true is = what_comes c item.source item.what confirms is
    by false is = absurd is

-- ---- the controller's numbers

below_more : (m n : ℕ) (xs : List Entry) → m ≤ n → AllByRecursion (IsBelow m) xs → AllByRecursion (IsBelow n) xs
below_more m n xs less below = AllByRecursion-so (IsBelow m) (IsBelow n) (λ e is. trans e is) xs below where
  trans : (e : Entry) → IsBelow m e → IsBelow n e
  trans e is = omega (arith, is, less)

pub none_beyond : (c : Controller) (n : ℕ) → IsNumbered c → c.next_number ≤ n → connection_of c n ≡ None
none_beyond c n numbered beyond = ap (option_map (λ (e : Entry). e.connection)) (find_below n c.entries (below_more c.next_number n c.entries beyond numbered.below))

pub past_early : (c : Controller) (n : ℕ) → IsNumbered c → reach_of (connection_of c n) ≡ early → n < c.next_number
past_early c n numbered is = elim (cases_Bool (nat_le c.next_number n)) [
  | inl hit ↦ absurd (none (sym (ap reach_of (none_beyond c n numbered (below hit))) ∙ is))
  | inr miss ↦ less miss
] where
  none : gone ≡ early → ⊥
  none is = absurd cc

  below : nat_le c.next_number n ≡ true → c.next_number ≤ n
  below hit = grind (arith, hit)

  less : nat_le c.next_number n ≡ false → n < c.next_number
  less miss = grind (arith, miss)

-- ---- what is known of a step

pub record Lawful (c : Controller) (s : Step) : Type 0 where
  pub acts : (n : ℕ) → 1 ≤ n → ActsOn n c s
  pub numbered : IsNumbered c
  pub then_numbered : IsNumbered (step c s).next
  pub sent : AllByRecursion IsSent (step c s).outs
  pub rises : c.next_number ≤ (step c s).next.next_number

pub lawful_step : (p : Parameters) (ss : List Step) (s : Step) →
    AreAllowed p →
    AllByRecursion IsOctetStep ss →
    IsOctetStep s →
    Lawful (life p ss).next s
lawful_step p ss s allowed octets own =
    let numbered = (life_fits p ss 1 (omega arith)).numbered in
    record {
      acts = λ n from_one. life_acts p ss s n from_one;
      numbered = numbered;
      then_numbered = step_numbered (life p ss).next s numbered;
      sent = life_sends p ss s allowed octets own;
      rises = (step_keeps_rest (life p ss).next s).numbers;
    }

-- ---- what is put

reads_append : (n : ℕ) (entries more : List OutboxEntry) → reads_of n (entries ++ more) ≡ reads_of n entries ++ reads_of n more
reads_append n entries more =
    ap (λ (xs : List Out). map reads (outs_for n xs)) (map-append (λ (entry : OutboxEntry). entry.out) entries more)
    ∙ ap (map reads) (filter-append (is_for n) (map (λ entry. entry.out) entries) (map (λ entry. entry.out) more))
    ∙ map-append reads (outs_for n (map (λ entry. entry.out) entries)) (outs_for n (map (λ entry. entry.out) more))

says_by : (n : ℕ) (put : List Message) (b : Bool) (more : List Read) →
    AreTexts n put →
    more ≡ (if b then said n put else []) →
    Says n put more
says_by n put true more texts is = record {
  quiet = λ quiet. subst AreNothing (sym is) (quiet_said n put texts quiet);
  plain = λ k three plain. subst (ArePlainReads k) (sym is) (plain_said n k put three texts plain);
  asking = λ asking. let one = asking_said n put texts asking in inr (one.0, is ∙ one.1);
  clearing = λ k three clearing. let one = clearing_said n k put three texts clearing in inr (one.0, one.1, is ∙ one.2);
}
says_by n put false more texts is = record {
  quiet = λ quiet. subst AreNothing (sym is) tt;
  plain = λ k three plain. subst (ArePlainReads k) (sym is) tt;
  asking = λ asking. inl is;
  clearing = λ k three clearing. inl is;
}

rights_of : (target : Option Tenure) (outs : List Out) →
    AreOfOne outs →
    AllByRecursion IsSent outs →
    AllByRecursion (λ (entry : OutboxEntry). IsRight entry.out) (map (entry_of target) outs)
rights_of target [] one sent = tt
rights_of target (out ∷ outs) one sent = (subst IsRight (sym (entry_out target out)) (right_out out one.0 sent.0), rights_of target outs one.1 sent.1)

put_rights : (b : Bool) (entries : List OutboxEntry) →
    AllByRecursion (λ (entry : OutboxEntry). IsRight entry.out) entries →
    AllByRecursion (λ (entry : OutboxEntry). IsRight entry.out) (if b then to_link SWITCH_LINK entries else [])
put_rights true entries rights = AllByRecursion-filter (λ (entry : OutboxEntry). IsRight entry.out) (λ entry. entry.out.to == SWITCH_LINK) entries rights
put_rights false entries rights = tt

waits_there : (o : Option Connection) → reach_of o ≡ waits → IsThere o
waits_there None is = absurd cc
waits_there (Some s) is = by s.state is where
  by : (state : State) → reach_in state ≡ waits → IsOpen state
  by (Closed (Due cause)) is = absurd cc
  by (Closed (WasAsked reference)) is = absurd cc
  by (Closed Complete) is = absurd cc
  by Removed is = absurd cc
  by _ is = tt

-- ---- a step

-- of the inbox these items are left, and CC that arrives is one that was on its way
module _ (w : Actors) (items : List Item) (target : Option Tenure) (s : Step) (laws : Lawful w.controller s)
    (left : (n : ℕ) (P : ℕ → Type 0) → Confirms P w n → AllByRecursion (ConfirmsBeing P n) items)
    (told : (n : ℕ) (P : ℕ → Type 0) → Confirms P w n → (r : ℕ) → IsBrought (brought_in w.controller n s) (inputs.ConnectionConfirm r) → P r) where
  abbrev v : Actors
  v = with_turn target (step w.controller s) (record w { inbox = items })

  abbrev Turned : Actors → Type 0
  Turned u = (u.switch ≡ w.switch) × (u.switch_made ≡ w.switch_made) × (u.inbox ≡ items) × (u.controller ≡ (step w.controller s).next)

  turned : Turned v
  turned = turn_leads Turned target (step w.controller s) (record w { inbox = items }) (λ links. (refl, refl, refl, refl))

  abbrev more_entries : List OutboxEntry
  more_entries = if is_up w SWITCH_LINK then to_link SWITCH_LINK (map (entry_of target) (step w.controller s).outs) else []

  joined : outbox_of v SWITCH_LINK ≡ outbox_of w SWITCH_LINK ++ more_entries
  joined = (all_join SWITCH_LINK target (step w.controller s).outs (record (record w { inbox = items }) { controller = (step w.controller s).next })).outbox

  controller_is : v.controller ≡ (step w.controller s).next
  controller_is = turned.3

  module _ (n : ℕ) (from_one : 1 ≤ n) where
    abbrev put : List Message
    put = (laws.acts n from_one).put

    texts : AreTexts n put
    texts = texts_back n put (subst (AllByRecursion (IsText n)) (laws.acts n from_one).outs (texts_of n (step w.controller s).outs from_one laws.sent))

    says : Says n put (reads_of n more_entries)
    says = by (is_up w SWITCH_LINK) where
      by : (b : Bool) → Says n put (reads_of n (if b then to_link SWITCH_LINK (map (entry_of target) (step w.controller s).outs) else []))
      by true = says_by n put true (reads_of n (to_link SWITCH_LINK (map (entry_of target) (step w.controller s).outs))) texts (own_put n target (step w.controller s).outs put (laws.acts n from_one).outs)
      by false = says_by n put false [] texts refl

    grows : Grows w v n (reads_of n more_entries)
    grows = record {
      same = turned.0;
      all = ap (reads_of n) joined ∙ reads_append n (outbox_of w SWITCH_LINK) more_entries;
      numbers = subst (λ (c : Controller). w.controller.next_number ≤ c.next_number) (sym controller_is) laws.rises;
      there = λ is. subst (λ (c : Controller). n < c.next_number) (sym controller_is) (past_early (step w.controller s).next n laws.then_numbered (subst (λ (c : Controller). reach_of (connection_of c n) ≡ early) controller_is is));
    }

    keeps : (P : ℕ → Type 0) → Confirms P w n → Confirms P v n
    keeps P confirms = record {
      made = subst (AllByRecursion (ConfirmsBy P n)) (sym turned.1) confirms.made;
      waiting = subst (AllByRecursion (ConfirmsBeing P n)) (sym turned.2) (left n P confirms);
    }

    abbrev given : ℕ → Type 0
    given r = IsBrought (brought_in w.controller n s) (inputs.ConnectionConfirm r)

    stepped_so : Begins w.controller.next_number n put (connection_of w.controller n) (connection_of v.controller n) ⊎ StepsTo given put (reach_of (connection_of w.controller n)) (reach_of (connection_of v.controller n))
    stepped_so = subst (λ (c : Controller). Begins w.controller.next_number n put (connection_of w.controller n) (connection_of c n) ⊎ StepsTo given put (reach_of (connection_of w.controller n)) (reach_of (connection_of c n))) (sym controller_is)
        (acts_go given (λ r is. is) (laws.acts n from_one).acts)

    step_agrees : Agrees w n → Agrees v n
    step_agrees agrees = elim stepped_so [
      | inl begins ↦ begins_agree w v n put (reads_of n more_entries) grows keeps says begins agrees
      | inr steps ↦ steps_agree w v n put (reads_of n more_entries) grows keeps says given (told n) (λ beyond. ap reach_of (none_beyond w.controller n laws.numbered beyond)) steps agrees
    ]

    step_unheard : HasAsked w n → IsUnknown w n → HasAsked v n × IsUnknown v n
    step_unheard has unknown = elim stepped_so [
      | inl begins ↦ absurd (beyond has.past begins.is_next)
      | inr steps ↦ steps_unheard w v n put (reads_of n more_entries) grows keeps says given (told n) steps has unknown
    ] where
      beyond : n < w.controller.next_number → n ≡ w.controller.next_number → ⊥
      beyond past is = omega (arith, past, is)

    step_dropped : IsEarly w n → (IsThere (connection_of v.controller n) → ⊥) → HasAsked v n × IsUnknown v n
    step_dropped has closed = elim stepped_so [
      | inl begins ↦ absurd (beyond has.past begins.is_next)
      | inr steps ↦ elim (early_steps w v n put (reads_of n more_entries) grows keeps says given (told n) has.past has.unknown (sym has.is_early) refl steps) [
        | inl is ↦ absurd (closed (early_there (connection_of v.controller n) is))
        | inr rest ↦ elim rest [
          | inl is ↦ absurd (closed (waits_there (connection_of v.controller n) is))
          | inr now ↦ now
        ]
      ]
    ] where
      beyond : n < w.controller.next_number → n ≡ w.controller.next_number → ⊥
      beyond past is = omega (arith, past, is)

  pub step_keeps : Keeps w v
  step_keeps = record {
    names = λ agree. record {
      each = λ n from_one. step_agrees n from_one (agree.each n from_one);
      right = subst (AllByRecursion (λ (entry : OutboxEntry). IsRight entry.out)) (sym joined)
          (AllByRecursion-append (λ (entry : OutboxEntry). IsRight entry.out) (outbox_of w SWITCH_LINK) more_entries agree.right
          (put_rights (is_up w SWITCH_LINK) (map (entry_of target) (step w.controller s).outs) (rights_of target (step w.controller s).outs (outs_of_one w.controller s laws.numbered) laws.sent)));
    };
    remains_unknown = λ n from_one has unknown. step_unheard n from_one has unknown;
    dropped = λ n from_one has closed. step_dropped n from_one has closed;
    peers = λ differ. subst (λ (s : SwitchState). Differ (peers_of s.connections)) (sym turned.0) differ;
  }
