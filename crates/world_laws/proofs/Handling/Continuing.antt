-- SPDX-License-Identifier: MIT OR Apache-2.0
-- A connection that lives continues, or ends in order, when the controller takes a step.
use Rattle.world_laws.proofs.Prelude.{◌≡◌, ℕ, ◌==◌, Bool, true, false, if◌then◌else◌, List, [], ◌∷◌, Option, Some, None, refl, sym, ap, ◌∙◌}
use Rattle.world_laws.proofs.Prelude.{subst, inl, inr, arith, true≢false, AllByRecursion, cases_Bool, eq-eqb, eqb-true, Place, SWITCH_LINK}
use Rattle.world_laws.proofs.Prelude.{Input, Connection, used_channels, brought_by, brought_in, brought_with, connection_of, IsOctetStep}
use Rattle.world_laws.proofs.Prelude.{own_carried, here_of, Word, Asks, Nothing, OnChannel, OnConnection, Ping, Reports, Controller, Turn}
use Rattle.world_laws.proofs.Prelude.{channel_state, holder, hears, place_of, concerned, Frame, RelayItem, What, Rsl, AreAllowed}
use Rattle.world_laws.proofs.Prelude.{Parameters, Event, Handle, Tick, actors_after, acknowledged_tenure, target_in, with_turn, rsl_in}
use Rattle.world_laws.proofs.Prelude.{first_taken, Actors, is_up, modulus_in, false≢true, reports, take, tick, word_of, brings_by}
use Rattle.world_laws.proofs.Prelude.{brings_in, AcksAgree, IsOpenAndLinedUp, TookOctets, IsOpenOrEnded, LiveConnectionsContinue}
use Rattle.controller_model.specs.LifeLaws.Acts.Brought.{nothing as nothing_brought, passes}
use Rattle.controller_model.specs.declared.step.Step.TheVariants as steps
use Rattle.ruled_relay.specs.declared.item.What.TheVariants as whats
use Rattle.world_laws.proofs.Ending.{line_ups_may_end_new}
use Rattle.world_laws.proofs.Quiet.{all_of}
use Rattle.world_laws.specs.Handling.OpenOrEnded.IsOpenOrEnded.{carries_on}
use Rattle.world_laws.proofs.Handling.Acting.{IsOwnStep, Outcome, by_acts}
use Rattle.world_laws.proofs.Handling.Acting.Outcome.{over, same}
use Rattle.world_laws.proofs.Handling.Beside.{ignored_continues, other_continues}
use Rattle.world_laws.proofs.Handling.Dropped.{AreBeside, item_drops}
use Rattle.world_laws.proofs.Handling.Finishing.{ended_before, handle_is, idle_is, now_ended, still_lined, tick_is}
use Rattle.world_laws.proofs.Handling.Knowing.{IsKnown, Steps, entry_there, known, octets_arrived, steps_known}
use Rattle.world_laws.proofs.Handling.Leaving.{none_down}
use Rattle.world_laws.proofs.Handling.Own.{DropsOut, Handling, item_tells, none_drops, said_continues}
use Rattle.world_laws.proofs.Handling.Saying.{IsQuiet, SaysUp, Tells, word_says}
use Rattle.world_laws.proofs.Handling.Saying.Tells.{message, nothing}
use Rattle.world_laws.proofs.Handling.Turning.{said_on, said_to}
use Rattle.world_laws.proofs.OwnFrames.{brings_read}
use Rattle.world_laws.proofs.OwnHandle.{handled_by}
use Rattle.world_laws.proofs.PutAsRead.{open_of}
use Rattle.world_laws.proofs.Events.{world}

-- ---- a step of the controller's own, by an item

outcome_continues : {settings : Parameters} {events : List Event} {mobile : ℕ} {s : Connection} {item : RelayItem} {items : List RelayItem} → Handling settings events mobile s item items → target_in (world settings events) item.source item.what ≡ None → DropsOut s item
    → IsOwnStep (brought_in (world settings events).controller s.number (steps.Take item)) → IsOpenOrEnded (modulus_in settings) (actors_after (world settings events) Handle) mobile s
outcome_continues {settings} {events} {mobile} {s} {item} {items} h target drops own =
    subst (λ (x : Actors). IsOpenOrEnded (modulus_in settings) x mobile s) (sym (handle_is w item items h.pending))
    (by (by_acts (brought_in w.controller s.number (steps.Take item)) s t own h.lined_up.had.from_one h.lined_up.requested h.lined_up.had.there does.sent does.acts.outs does.acts.acts)) where
      w : Actors
      w = world settings events

      t : Turn
      t = take item w.controller

      does : Steps w.controller (steps.Take item) s.number
      does = steps_known settings events (steps.Take item) s.number h.allowed h.octets h.own h.lined_up.had.from_one

      by : Outcome s t → IsOpenOrEnded (modulus_in settings) (handled_by w item items) mobile s
      by (same next is none) =
          let channels = does.after next (ap (connection_of t.next) is.line.number ∙ is.there) (open_of next.state is.requested) in
          still_lined next (target_in w item.source item.what) t h.lined_up.had.from_one h.up none (none_down (record w { inbox = items }) t target) is channels.0 channels.1 h.lined_up.lined.found (item_drops item items h.pending drops h.lined_up.lined.lined)
      by (over gone none) = now_ended (target_in w item.source item.what) t h.up none gone (ended_before items (line_ups_may_end_new (modulus_in settings) w mobile s h.lined_up.lined))

-- a link broke
down_own : (c : Controller) (number source : ℕ) (b : Bool) →
    IsOwnStep (if b then brought_with c number source whats.Down else nothing_brought)
down_own c number source true = own_carried source
down_own c number source false = tt

down_continues : {settings : Parameters} {events : List Event} {mobile : ℕ} {s : Connection} {item : RelayItem} {items : List RelayItem} →
    Handling settings events mobile s item items →
    item.what ≡ whats.Down →
    IsOpenOrEnded (modulus_in settings) (actors_after (world settings events) Handle) mobile s
down_continues {settings} {events} {mobile} {s} {item} h is =
    outcome_continues h (ap (target_in w item.source) is)
    (all_of (λ x. AreBeside (brings_in (place_of x) item)) (used_channels s) (λ x. subst AreBeside (sym (ap (brings_by (place_of x) item.source) is)) tt))
    (subst (λ (x : What). IsOwnStep (if hears w.controller item.source then brought_with w.controller s.number item.source x else nothing_brought)) (sym is) (down_own w.controller s.number item.source (hears w.controller item.source))) where
      w : Actors
      w = world settings events

-- ---- a report

quiet_drops : (s : Connection) (item : RelayItem) (frame : Frame) (m : Rsl) →
    item.what ≡ whats.Frame frame →
    rsl_in frame ≡ Some m →
    IsQuiet item.source m →
    DropsOut s item
quiet_drops s item frame m is says quiet =
    all_of (λ x. AreBeside (brings_in (place_of x) item)) (used_channels s) (λ x. subst AreBeside (sym (ap (brings_by (place_of x) item.source) is ∙ ap (λ (o : Option Rsl). brings_read item.source o (place_of x)) says)) (quiet.brings_none (place_of x)))

report_continues : {settings : Parameters} {events : List Event} {mobile : ℕ} {s : Connection} {item : RelayItem} {items : List RelayItem} (frame : Frame) (at : Place) (number : ℕ) (report : _) → Handling settings events mobile s item items → hears (world settings events).controller item.source ≡ true → item.what ≡ whats.Frame frame
    → word_of item.source frame ≡ Reports at number report → IsOpenOrEnded (modulus_in settings) (actors_after (world settings events) Handle) mobile s
report_continues {settings} {events} {mobile} {s} {item} frame at number report h up is word = of (item_tells frame h is) where
  w : Actors
  w = world settings events

  c : Controller
  c = w.controller

  brings : brought_in c s.number (steps.Take item) ≡ reports
  brings = ap (λ (b : Bool). if b then brought_with c s.number item.source item.what else nothing_brought) up ∙ ap (brought_with c s.number item.source) is ∙ ap (brought_by c s.number) word

  own : IsOwnStep (brought_in c s.number (steps.Take item))
  own = subst IsOwnStep (sym brings) tt

  of : Tells item.source frame → IsOpenOrEnded (modulus_in settings) (actors_after w Handle) mobile s
  of (nothing says) = outcome_continues h (ap (target_in w item.source) is ∙ ap (acknowledged_tenure w item.source) says) (none_drops s item frame is says) own
  of (message m says word_is) =
      let quiet : IsQuiet item.source m = subst (SaysUp item.source m) (sym word_is ∙ word) (word_says item.source m) in
      outcome_continues h (ap (target_in w item.source) is ∙ ap (acknowledged_tenure w item.source) says ∙ quiet.begins w) (quiet_drops s item frame m is says quiet) own

-- ---- a frame

one_number : {a b : ℕ} → (let o : Option ℕ = Some a in o) ≡ Some b → a ≡ b
one_number is = cc

none_number : {n : ℕ} → (let o : Option ℕ = None in o) ≡ Some n → ⊥
none_number is = absurd cc

heard_continues : {settings : Parameters} {events : List Event} {mobile : ℕ} {s : Connection} {item : RelayItem} {items : List RelayItem} (frame : Frame) →
    Handling settings events mobile s item items →
    hears (world settings events).controller item.source ≡ true →
    item.what ≡ whats.Frame frame →
    IsOpenOrEnded (modulus_in settings) (actors_after (world settings events) Handle) mobile s
heard_continues {settings} {events} {mobile} {s} {item} frame h up is = by (word_of item.source frame) refl where
  c : Controller
  c = (world settings events).controller

  one : IsKnown c s
  one = known settings events s h.allowed h.lined_up.had

  not_his : (word : Word) →
      word_of item.source frame ≡ word →
      (concerned c word ≡ Some s.number → ⊥) →
      IsOpenOrEnded (modulus_in settings) (actors_after (world settings events) Handle) mobile s
  not_his word word_is other = other_continues frame h up is (λ held. other (ap (concerned c) (sym word_is) ∙ held))

  on_channel : (at : Place) (input : Input) →
      word_of item.source frame ≡ OnChannel at input →
      (o : Option ℕ) →
      holder (channel_state c at) ≡ o →
      IsOpenOrEnded (modulus_in settings) (actors_after (world settings events) Handle) mobile s
  on_channel at input word_is None held = not_his (OnChannel at input) word_is (λ same. none_number (sym held ∙ same))
  on_channel at input word_is (Some n) held = elim (cases_Bool (n == s.number)) [
    | inr other ↦ not_his (OnChannel at input) word_is (λ same. true≢false (sym (eq-eqb n s.number (one_number (sym held ∙ same))) ∙ other))
    | inl his ↦
        let number : n ≡ s.number = eqb-true n s.number his in
        let entry = entry_there c s.number s one.there in
        said_continues frame h up is (said_on c (word_of item.source frame) at input s.number s entry.0 word_is (held ∙ ap (λ (k : ℕ). Some k) number) entry.1 entry.2)
  ]

  by : (word : Word) →
      word_of item.source frame ≡ word →
      IsOpenOrEnded (modulus_in settings) (actors_after (world settings events) Handle) mobile s
  by Nothing word_is = not_his Nothing word_is none_number
  by Ping word_is = not_his Ping word_is none_number
  by (Asks request delay) word_is = not_his (Asks request delay) word_is (λ same.
      let entry = entry_there c s.number s one.there in
      let below = (here_of c s.number entry.0 one.ready entry.1).below in
      let number : c.next_number ≡ s.number = one_number same in
      let own : entry.0.connection.number ≡ s.number = ap (λ (x : Connection). x.number) entry.2 in
      absurd (omega (arith, below, number, own)))
  by (Reports at number report) word_is = report_continues frame at number report h up is word_is
  by (OnChannel at input) word_is = on_channel at input word_is (holder (channel_state c at)) refl
  by (OnConnection n input) word_is = elim (cases_Bool (n == s.number)) [
    | inr other ↦ not_his (OnConnection n input) word_is (λ same. true≢false (sym (eq-eqb n s.number (one_number same)) ∙ other))
    | inl his ↦
        let number : n ≡ s.number = eqb-true n s.number his in
        let entry = entry_there c s.number s one.there in
        said_continues frame h up is (said_to c (word_of item.source frame) input s.number s entry.0 (word_is ∙ ap (λ (k : ℕ). OnConnection k input) number) entry.1 entry.2)
  ]

frame_continues : {settings : Parameters} {events : List Event} {mobile : ℕ} {s : Connection} {item : RelayItem} {items : List RelayItem} (frame : Frame) →
    Handling settings events mobile s item items →
    item.what ≡ whats.Frame frame →
    IsOpenOrEnded (modulus_in settings) (actors_after (world settings events) Handle) mobile s
frame_continues {settings} {events} {item = item} frame h is = elim (cases_Bool (hears (world settings events).controller item.source)) [
  | inl up ↦ heard_continues frame h up is
  | inr down ↦ ignored_continues frame h down is
]

-- ---- any item

item_continues : {settings : Parameters} {events : List Event} {mobile : ℕ} {s : Connection} {item : RelayItem} {items : List RelayItem} →
    Handling settings events mobile s item items →
    IsOpenOrEnded (modulus_in settings) (actors_after (world settings events) Handle) mobile s
item_continues {settings} {events} {mobile} {s} {item} h = by item.what refl where
  by : (what : What) → item.what ≡ what → IsOpenOrEnded (modulus_in settings) (actors_after (world settings events) Handle) mobile s
  by (whats.Frame frame) is = frame_continues frame h is
  by whats.Down is = down_continues h is

-- ---- time passes

tick_continues : (settings : Parameters) (events : List Event) (ms mobile : ℕ) (s : Connection) →
    AreAllowed settings →
    TookOctets settings events →
    is_up (world settings events) SWITCH_LINK ≡ true →
    IsOpenAndLinedUp (modulus_in settings) (world settings events) mobile s →
    IsOpenOrEnded (modulus_in settings) (actors_after (world settings events) (Tick ms)) mobile s
tick_continues settings events ms mobile s allowed octets up lined_up =
    subst (λ (x : Actors). IsOpenOrEnded (modulus_in settings) x mobile s) (sym (tick_is w ms))
    (by (by_acts passes s t tt lined_up.had.from_one lined_up.requested lined_up.had.there does.sent does.acts.outs does.acts.acts)) where
      w : Actors
      w = world settings events

      t : Turn
      t = tick ms w.controller

      does : Steps w.controller (steps.Tick ms) s.number
      does = steps_known settings events (steps.Tick ms) s.number allowed octets tt lined_up.had.from_one

      by : Outcome s t → IsOpenOrEnded (modulus_in settings) (with_turn None t w) mobile s
      by (same next is none) =
          let channels = does.after next (ap (connection_of t.next) is.line.number ∙ is.there) (open_of next.state is.requested) in
          still_lined next None t lined_up.had.from_one up none (none_down w t refl) is channels.0 channels.1 lined_up.lined.found lined_up.lined.lined
      by (over gone none) = now_ended None t up none gone (line_ups_may_end_new (modulus_in settings) w mobile s lined_up.lined)

-- ---- the law

handle_continues : (settings : Parameters) (events : List Event) (mobile : ℕ) (s : Connection) → AreAllowed settings → TookOctets settings events → AllByRecursion IsOctetStep (first_taken (world settings events).inbox) → is_up (world settings events) SWITCH_LINK ≡ true
    → IsOpenAndLinedUp (modulus_in settings) (world settings events) mobile s → AcksAgree (world settings events) s → IsOpenOrEnded (modulus_in settings) (actors_after (world settings events) Handle) mobile s
handle_continues settings events mobile s allowed octets own up lined_up agree = by (world settings events).inbox refl where
  by : (items : List RelayItem) →
      (world settings events).inbox ≡ items →
      IsOpenOrEnded (modulus_in settings) (actors_after (world settings events) Handle) mobile s
  by [] pending = subst (λ (x : Actors). IsOpenOrEnded (modulus_in settings) x mobile s) (sym (idle_is (world settings events) pending)) (carries_on s refl lined_up.had lined_up.requested refl lined_up.lined)
  by (item ∷ items) pending = item_continues (handling item items pending) where
    handling : (item : RelayItem) (items : List RelayItem) →
        (world settings events).inbox ≡ item ∷ items →
        Handling settings events mobile s item items
    handling item items pending = record {
      allowed = allowed;
      octets = octets;
      own = (subst (λ (xs : List RelayItem). AllByRecursion IsOctetStep (first_taken xs)) pending own).0;
      pending = pending;
      up = up;
      lined_up = lined_up;
      agree = agree;
    }

pub live_connections_continue_new : (settings : Parameters) (events : List Event) (event : Event) →
    LiveConnectionsContinue settings events event
live_connections_continue_new settings events Handle mobile s is allowed octets up lined_up agree =
    let took_octets = octets_arrived settings events Handle octets in
    handle_continues settings events mobile s allowed took_octets.0 took_octets.1 up lined_up agree
live_connections_continue_new settings events (Tick ms) mobile s is allowed octets up lined_up agree = tick_continues settings events ms mobile s allowed (octets_arrived settings events (Tick ms) octets).0 up lined_up
live_connections_continue_new settings events _ mobile s is allowed octets up lined_up agree = absurd (false≢true is)
