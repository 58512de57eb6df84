-- SPDX-License-Identifier: MIT OR Apache-2.0
-- Any world can be carried on until its links have ended. Then it is a network that explains a run
-- of the relay, in which all octets arrived and were taken.
use Rattle.std.proofs.Common.{◌≡◌, ℕ, zero, suc, ◌+◌, ◌≤◌, ◌<◌, nat_lt, Bool, true, false, if◌then◌else◌, List, [], ◌∷◌, ◌++◌, length, Some, None, refl, sym, ap, ◌∙◌, subst, inl, inr, arith, append-nil}
use Rattle.std.proofs.lemmas.Bool.{cases_Bool, ltb-false, ltb-true, true≢false}
use Rattle.std.specs.Io.KnownBytes.{Appends, Consumes}
use mathlib.Core.Option.{some}
use lib.ListN.{get_elem?}
use Rattle.conn_rules.proofs.DownlinkMessages.{AllByRecursion-append}
use Rattle.controller.specs.Laws.{IsNew, KeepsLaws}
use Rattle.controller_model.specs.declared.step.Step.{Step}
use Rattle.controller_model.specs.Controller.{Controller, new_controller}
use Rattle.controller_worker.specs.Steps.{over, whats_of}
use Rattle.ipa_framing.specs.declared.frame.Frame.{Frame}
use Rattle.ipa_framing.specs.Frame.{IsFrame}
use Rattle.link_workers.specs.Reading.{frames_text}
use Rattle.octets.specs.Lists.{IsPrefix}
use Rattle.relay_order.specs.Carried.{IsCarriedOn}
use Rattle.relay_order.specs.Explains.{Explains, frame_of, frames_given, frames_taken}
use Rattle.relay_order.specs.Run.{IsRun, IsShownBy, Run}
use Rattle.ruled_relay.specs.declared.item.Item.{Item}
use Rattle.settings.specs.Parameters.{AreAllowed, Parameters}
use Rattle.station_io.specs.Links.{Ended, LinkView}
use Rattle.station_io.specs.Octets.{AreFirstOf, Passes, came_in, ended_behind, frames_in, merged, octets_put, order_of}
use Rattle.station_io.proofs.Octets.{merged_again}
use Rattle.std.specs.List.{AllByRecursion, flat_map}
use Rattle.world_laws.specs.Order.OctetEvents.{AreOctetEvents, IsOctetEvent}
use Rattle.world_laws.proofs.Events.{world}
use Rattle.world_laws.proofs.Owners.OneEach.{append_actors}
use Rattle.world_model.specs.declared.event.Event.{Event}
use Rattle.world_model.specs.Life.{actors_after_all}
use Rattle.world_model.specs.Queues.{all_popped, all_pushed}
use Rattle.world_model.specs.Steps.{all_steps}
use Rattle.world_model.specs.World.{Actors, is_up, new_actors}
use Rattle.world_model.proofs.Outboxes.{KeepsQueues-new}
use Rattle.relay_order.proofs.ConverseEnds.{all_broken, all_handled, breaks_from, down_all, handles, octet_breaks, octet_handles}
use Rattle.relay_order.proofs.ConverseOctets.{frames_again, frames_of_ended, items_all, taken_first, taken_none}
use Rattle.relay_order.proofs.ConversePushed.{Gave, gave_all, nothing_all}
use Rattle.relay_order.proofs.ConversePushed.Gave.{over as has_ended, still}

-- ---- lists by their indices

abbrev spread : {X : Type 0} → (ℕ → X) → ℕ → List X
spread at zero = []
spread at (suc count) = at 0 ∷ spread (λ k. at (suc k)) count

length-spread : {X : Type 0} (at : ℕ → X) (count : ℕ) → length (spread at count) ≡ count
length-spread at zero = refl
length-spread at (suc count) = ap suc (length-spread (λ k. at (suc k)) count)

spread_at : {X : Type 0} (at : ℕ → X) (count k : ℕ) (x : X) → get_elem? (spread at count) k ≡ some x → (k < count) × (x ≡ at k)
spread_at at zero k x is = absurd cc
spread_at at (suc count) zero x is = (omega arith, cc)
spread_at at (suc count) (suc k) x is = let behind = spread_at (λ j. at (suc j)) count k x is in (omega (arith, behind.0), behind.1)

-- ---- the events carried on

abbrev links_in : Parameters → ℕ
links_in settings = length settings.cells + 1

abbrev all_breaks : Parameters → List Event
all_breaks settings = breaks_from 0 (links_in settings)

-- the world once all links broke
abbrev broken_off : Parameters → List Event → Actors
broken_off settings events = actors_after_all (world settings events) (all_breaks settings)

-- all links break, and then the controller handles all that its inbox has
abbrev carried : Parameters → List Event → List Event
carried settings events = events ++ (all_breaks settings ++ handles (broken_off settings events).inbox)

-- These frames and then the link's end arrived; they are what the network gave, and fit a link.
record LinkGave (settings : Parameters) (all : List Event) (n : ℕ) : Type 0 where
  fs : List Frame
  came : came_in (all_steps (new_actors settings) all) n ≡ ended_behind fs
  gave : frames_given settings all n ≡ fs
  fit : AllByRecursion IsFrame fs

module _ (settings : Parameters) (events : List Event) where
  abbrev all : List Event
  all = carried settings events

  abbrev ss : List Step
  ss = all_steps (new_actors settings) all

  end_is : world settings all ≡ actors_after_all (broken_off settings events) (handles (broken_off settings events).inbox)
  end_is =
      append_actors (new_actors settings) events (all_breaks settings ++ handles (broken_off settings events).inbox)
      ∙ append_actors (world settings events) (all_breaks settings) (handles (broken_off settings events).inbox)

  nothing_left : (world settings all).inbox ≡ []
  nothing_left = ap (λ (w : Actors). w.inbox) end_is ∙ all_handled (broken_off settings events).inbox (broken_off settings events) refl

  link_down : (n : ℕ) → n < links_in settings → is_up (world settings all) n ≡ false
  link_down n below =
      ap (λ (w : Actors). is_up w n) end_is
      ∙ down_all n (broken_off settings events) (handles (broken_off settings events).inbox) (all_broken (links_in settings) 0 n (world settings events) (omega arith) (omega (arith, below)))

  -- all that was given was handled
  all_popped_is : all_popped (new_actors settings) all ≡ all_pushed (new_actors settings) all
  all_popped_is =
      sym ((KeepsQueues-new settings all).inbox
      ∙ ap (λ (items : List Item). all_popped (new_actors settings) all ++ items) nothing_left
      ∙ append-nil (all_popped (new_actors settings) all))

  came_is : (n : ℕ) → came_in ss n ≡ whats_of n (all_pushed (new_actors settings) all)
  came_is n = ap (whats_of n) (items_all (new_actors settings) all ∙ all_popped_is)

  link_gave : (n : ℕ) → n < links_in settings → LinkGave settings all n
  link_gave n below = by (gave_all settings all n below) where
    by : Gave n (world settings all) (all_pushed (new_actors settings) all) → LinkGave settings all n
    by (still fs up is fit) = absurd (true≢false (sym up ∙ link_down n below))
    by (has_ended fs down is fit) = record {
      fs = fs;
      came = came_is n ∙ is;
      gave = ap (flat_map frame_of) is ∙ frames_of_ended fs;
      fit = fit;
    }

  came_none : (n : ℕ) → links_in settings ≤ n → came_in ss n ≡ []
  came_none n above = came_is n ∙ (nothing_all settings all n above).none

  -- no link is there of a number that the settings don't have
  never_up : (n : ℕ) → links_in settings ≤ n → is_up (new_actors settings) n ≡ false
  never_up n above = (nothing_all settings [] n above).down

  -- ---- the run

  abbrev put_for : ℕ → List ℕ
  put_for n = octets_put (new_controller settings) (order_of ss) (came_in ss) n

  abbrev read_of : ℕ → List ℕ
  read_of n = frames_text (frames_given settings all n)

  abbrev written_to : ℕ → List ℕ
  written_to n = if nat_lt n (links_in settings) then put_for n else []

  written_there : (n : ℕ) → n < links_in settings → written_to n ≡ put_for n
  written_there n below = by (nat_lt n (links_in settings)) refl where
    by : (b : Bool) → nat_lt n (links_in settings) ≡ b → (if b then put_for n else []) ≡ put_for n
    by true is = refl
    by false is = let above : links_in settings ≤ n = ltb-false n (links_in settings) is in absurd (omega (arith, below))

  written_nowhere : (n : ℕ) → links_in settings ≤ n → written_to n ≡ []
  written_nowhere n above = by (nat_lt n (links_in settings)) refl where
    by : (b : Bool) → nat_lt n (links_in settings) ≡ b → (if b then put_for n else []) ≡ []
    by true is = let below : n < links_in settings = ltb-true n (links_in settings) is in absurd (omega (arith, above))
    by false is = refl

  abbrev the_run : Run
  the_run = record { read = read_of; written = written_to; came = came_in ss; order = order_of ss }

  abbrev view : ℕ → LinkView
  view n = record { unread = Some (read_of n); written = Some []; refused = 0 }

  abbrev end_of : ℕ → Ended
  end_of n = record { link = record { unread = Some []; written = Some (written_to n); refused = 0 }; fault = None }

  abbrev views : List LinkView
  views = spread view (links_in settings)

  abbrev ends : List Ended
  ends = spread end_of (links_in settings)

  views_are : length views ≡ links_in settings
  views_are = length-spread view (links_in settings)

  -- ---- what each link shows

  arrived : (n : ℕ) → n < links_in settings → AreFirstOf (read_of n) (came_in ss n)
  arrived n below =
      let gave : LinkGave settings all n = link_gave n below in
      (gave.fs, [], false, ap (λ (fs : List Frame). frames_in (frames_text fs)) gave.gave ∙ frames_again gave.fs gave.fit ∙ sym (append-nil gave.fs), gave.came)

  each_passes : (n : ℕ) → n < links_in settings → Passes (new_controller settings) (order_of ss) (came_in ss) n (view n) (end_of n)
  each_passes n below =
      let gave : LinkGave settings all n = link_gave n below in record {
        octets = read_of n;
        read = sym (append-nil (read_of n));
        first = arrived n below;
        part = (written_to n, [], sym (written_there n below) ∙ sym (append-nil (written_to n)), refl);
        end = λ whole. refl;
        items = λ whole. gave.came ∙ ap ended_behind (sym (ap (λ (fs : List Frame). frames_in (frames_text fs)) gave.gave ∙ frames_again gave.fs gave.fit));
        got = λ whole. written_there n below;
      }

  all_pass : (n : ℕ) (old : LinkView) (now : Ended) →
      get_elem? views n ≡ some old →
      get_elem? ends n ≡ some now →
      Passes (new_controller settings) (order_of ss) (came_in ss) n old now
  all_pass n old now old_at now_at =
      let first = spread_at view (links_in settings) n old old_at in
      let last = spread_at end_of (links_in settings) n now now_at in
      subst (λ (o : LinkView). Passes (new_controller settings) (order_of ss) (came_in ss) n o now) (sym first.1)
      (subst (λ (e : Ended). Passes (new_controller settings) (order_of ss) (came_in ss) n (view n) e) (sym last.1) (each_passes n first.0))

  all_shown : IsShownBy the_run views ends
  all_shown n old now old_at now_at =
      let first = spread_at view (links_in settings) n old old_at in
      let last = spread_at end_of (links_in settings) n now now_at in (
        subst (λ (o : LinkView). Consumes o.unread now.link.unread (read_of n)) (sym first.1)
            (subst (λ (e : Ended). Consumes (view n).unread e.link.unread (read_of n)) (sym last.1) (sym (append-nil (read_of n)))),
        subst (λ (o : LinkView). Appends o.written now.link.written (written_to n)) (sym first.1)
            (subst (λ (e : Ended). Appends (view n).written e.link.written (written_to n)) (sym last.1) refl),
      )

  -- ---- the run is one of the relay

  below_all : (n : ℕ) → n < length views → n < links_in settings
  below_all n below = subst (λ (count : ℕ). n < count) views_are below

  above_all : (n : ℕ) → length views ≤ n → links_in settings ≤ n
  above_all n above = subst (λ (count : ℕ). count ≤ n) views_are above

  runs : IsRun settings (length views) the_run
  runs = record {
    first = λ n below. arrived n (below_all n below);
    others = λ n above. came_none n (above_all n above);
    part = λ n below. ([], append-nil (written_to n) ∙ written_there n (below_all n below));
    no_others = λ n above. written_nowhere n (above_all n above);
  }

  -- ---- and these events explain it

  took : (n : ℕ) → IsPrefix (frames_text (frames_taken settings all n)) (written_to n)
  took n = elim (cases_Bool (nat_lt n (links_in settings))) [
    | inl is ↦ subst (λ (octets : List ℕ). IsPrefix (frames_text (frames_taken settings all n)) octets) (sym (written_there n (ltb-true n (links_in settings) is))) (taken_first settings all n)
    | inr is ↦ (written_to n, ap (λ (fs : List Frame). frames_text fs ++ written_to n) (taken_none settings all n (never_up n (ltb-false n (links_in settings) is))))
  ]

  explained : AreAllowed settings → AreOctetEvents events → Explains settings the_run all
  explained allowed octets = record {
    allowed = allowed;
    octets = AllByRecursion-append IsOctetEvent events (all_breaks settings ++ handles (broken_off settings events).inbox) octets
        (AllByRecursion-append IsOctetEvent (all_breaks settings) (handles (broken_off settings events).inbox) (octet_breaks 0 (links_in settings)) (octet_handles (broken_off settings events).inbox));
    steps = sym (merged_again ss);
    gave = λ n. ([], append-nil (read_of n));
    took = took;
  }

  carry_on : ((start : Controller) (steps : List Step) → IsNew start → KeepsLaws start.settings steps (over start steps)) →
      AreAllowed settings →
      AreOctetEvents events →
      IsCarriedOn settings events all
  carry_on keeps allowed octets = record {
    begins = (all_breaks settings ++ handles (broken_off settings events).inbox, refl);
    links = views;
    ended = ends;
    run = the_run;
    passes = (order_of ss, came_in ss, keeps (new_controller settings) (merged (order_of ss) (came_in ss)), λ n above. came_none n (above_all n above), all_pass);
    shown = all_shown;
    is_run = runs;
    explains = explained allowed octets;
    each = views_are;
    order = refl;
    came = refl;
    whole = λ link. refl;
  }

-- Any events of octets can be carried on so. Assumes: each life of a new controller keeps the laws
-- of a life.
pub carried_on : ((start : Controller) (steps : List Step) → IsNew start → KeepsLaws start.settings steps (over start steps)) →
    (settings : Parameters) (events : List Event) →
    AreAllowed settings →
    AreOctetEvents events →
    (all : List Event) × IsCarriedOn settings events all
carried_on keeps settings events allowed octets = (carried settings events, carry_on settings events keeps allowed octets)
