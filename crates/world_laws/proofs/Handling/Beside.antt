-- SPDX-License-Identifier: MIT OR Apache-2.0
-- A frame that doesn't concern a connection, or that the controller ignores, leaves it lined up.
use Rattle.world_laws.proofs.Prelude.{◌≡◌, ℕ, zero, suc, ◌==◌, Bool, true, false, if◌then◌else◌, List, [], Option, Some, None, option_map}
use Rattle.world_laws.proofs.Prelude.{refl, sym, ap, ◌∙◌, subst, arith, true≢false, AllByRecursion, option_and_then, eqb-true, Channel}
use Rattle.world_laws.proofs.Prelude.{Place, Out, Connection, used_channels, connection_of, is_link_up, find_above, word_from, ChannelState}
use Rattle.world_laws.proofs.Prelude.{Free, InUse, Releasing, Word, OnChannel, OnConnection, Controller}
use Rattle.world_laws.proofs.Prelude.{Entry, Turn, channel_state, entry_of, holder, hears, place_at, place_of, entry_at, on_state, on_what}
use Rattle.world_laws.proofs.Prelude.{on_word, concerned, rsl_word, Frame, IsOfOctets, RelayItem, What, ActivationAck, Rsl, Parameters}
use Rattle.world_laws.proofs.Prelude.{Event, Handle, Tenure, actors_after, acknowledged_tenure, target_in, all_steps, rsl_in, Actors}
use Rattle.world_laws.proofs.Prelude.{modulus_in, new_actors, FollowsTable-new, same_place, none-some, AllByRecursion-so, frame_leaves}
use Rattle.world_laws.proofs.Prelude.{IsFrom, word_of, forwarded, brings_by, brings_if, brings_in, AreLinedUp, IsForOthers, IsOthers}
use Rattle.world_laws.proofs.Prelude.{IsOpenOrEnded}
use Rattle.conn_rules.specs.declared.input.Input.TheVariants as inputs
use Rattle.controller_model.specs.LifeLaws.Concern.{IsLeft}
use Rattle.controller_model.specs.Life.{take}
use Rattle.ruled_relay.specs.declared.item.What.TheVariants as whats
use Rattle.rsl_codec.specs.declared.rsl.Rsl.TheVariants as rsl
use Rattle.world_laws.specs.OwnItem.{said_by}
use Rattle.world_laws.proofs.Others.{relay_leaves_others_new}
use Rattle.world_laws.proofs.OthersFrame.{frames_are_for_others_new}
use Rattle.world_laws.proofs.Quiet.{all_of}
use Rattle.world_laws.proofs.TurnsLife.{same_places}
use Rattle.world_laws.specs.Handling.OpenOrEnded.IsOpenOrEnded.{carries_on}
use Rattle.world_laws.proofs.Handling.Dropped.{AreBeside, item_drops}
use Rattle.world_laws.proofs.Handling.Finishing.{controller-is, handle_is, still_lined}
use Rattle.world_laws.proofs.Handling.Knowing.{IsKnown, known, used_held, used_linked}
use Rattle.world_laws.proofs.Handling.Leaving.{line_itself, none_down, nothing_down, silent_forwards}
use Rattle.world_laws.proofs.Handling.Missing.{said_elsewhere}
use Rattle.world_laws.proofs.Handling.Own.{DropsOut, Handling, item_tells, none_drops, take-frame}
use Rattle.world_laws.proofs.Handling.Saying.{SaysUp, Tells, begins_none, word_says}
use Rattle.world_laws.proofs.Handling.Saying.Tells.{message, nothing}
use Rattle.world_laws.proofs.OwnFrames.{brings_read}
use Rattle.world_laws.proofs.Events.{world}

-- ---- what it brings of the channels

-- on a channel that isn't the connection's
word_drops : (c : Controller) (s : Connection) (item : RelayItem) (frame : Frame) (m : Rsl) (word : Word) →
    IsKnown c s →
    item.what ≡ whats.Frame frame →
    rsl_in frame ≡ Some m →
    SaysUp item.source m word →
    IsFrom item.source word →
    (concerned c word ≡ Some s.number → ⊥) →
    DropsOut s item
word_drops c s item frame m (OnChannel at input) known is says on from other =
    AllByRecursion-so (λ x. holder (channel_state c (place_of x)) ≡ Some s.number) (λ x. AreBeside (brings_in (place_of x) item))
    (λ x held. subst AreBeside (sym (ap (brings_by (place_of x) item.source) is ∙ ap (λ (o : Option Rsl). brings_read item.source o (place_of x)) says ∙ on.brings_it (place_of x))) (by x held (same_place (place_of x) at) refl)) (used_channels s) (used_held c s known.owns) where
      by : (x : Channel) →
          holder (channel_state c (place_of x)) ≡ Some s.number →
          (b : Bool) →
          same_place (place_of x) at ≡ b →
          AreBeside (said_by input on.text (place_of x))
      by x held true same = absurd (other (ap (λ (p : Place). holder (channel_state c p)) (sym (same_places (place_of x) at same)) ∙ held))
      by x held false differ = subst AreBeside (sym (said_elsewhere input on.text at (place_of x) from.1 differ)) tt
word_drops c s item frame m (OnConnection number input) known is says on from other = absurd on
word_drops c s item frame m _ known is says quiet from other = all_of (λ x. AreBeside (brings_in (place_of x) item)) (used_channels s) (λ x. subst AreBeside (sym (ap (brings_by (place_of x) item.source) is ∙ ap (λ (o : Option Rsl). brings_read item.source o (place_of x)) says)) (quiet.brings_none (place_of x)))

pub other_drops : (c : Controller) (s : Connection) (item : RelayItem) (frame : Frame) →
    IsKnown c s →
    item.what ≡ whats.Frame frame →
    Tells item.source frame →
    (concerned c (word_of item.source frame) ≡ Some s.number → ⊥) →
    DropsOut s item
other_drops c s item frame known is (nothing says) other = none_drops s item frame is says
other_drops c s item frame known is (message m says word) other =
    word_drops c s item frame m (rsl_word item.source m) known is says (word_says item.source m) (subst (IsFrom item.source) word (word_from item.source frame)) (λ same. other (ap (concerned c) word ∙ same))

-- ---- an ACTIVATION ACK of another connection

record Acknowledges (m : Rsl) : Type 0 where
  acknowledgement : ActivationAck
  is : m ≡ rsl.ChannelActivationAck acknowledgement

acknowledges : (source : ℕ) (m : Rsl) (w : Actors) (tenure : Tenure) → acknowledged_tenure w source (Some m) ≡ Some tenure → Acknowledges m
acknowledges source (rsl.ChannelActivationAck a) w tenure is = record { acknowledgement = a; is = refl }
acknowledges source _ w tenure is = absurd cc

-- of a channel that nobody has, or none of that number, nothing is put
free_outs : (at : Place) (c : Controller) (state : ChannelState) → (k : ℕ) →
    holder state ≡ Some k →
    entry_of c k ≡ None →
    (on_state state at (inputs.ActivationAck at) c (entry_at c state)).outs ≡ []
free_outs at c Free k held none = absurd cc
free_outs at c (InUse n) k held none = ap (λ (o : Option Entry). (on_state (InUse n) at (inputs.ActivationAck at) c o).outs) (ap (option_and_then (entry_of c)) held ∙ none)
free_outs at c (Releasing n) k held none = ap (λ (o : Option Entry). (on_state (Releasing n) at (inputs.ActivationAck at) c o).outs) (ap (option_and_then (entry_of c)) held ∙ none)

none_zero : (c : Controller) (s : Connection) → IsKnown c s → entry_of c 0 ≡ None
none_zero c s known = find_above 0 c.entries known.ready.numbered.above

ack_others : {settings : Parameters} {events : List Event} {mobile : ℕ} {s : Connection} {item : RelayItem} {items : List RelayItem} (frame : Frame) (p : Place) (target : Option Tenure) → Handling settings events mobile s item items → item.what ≡ whats.Frame frame → target_in (world settings events) item.source item.what ≡ target
    → hears (world settings events).controller item.source ≡ true → word_of item.source frame ≡ OnChannel p (inputs.ActivationAck p) → (concerned (world settings events).controller (word_of item.source frame) ≡ Some s.number → ⊥) → AllByRecursion (IsForOthers target s) (take item (world settings events).controller).outs
ack_others {settings} {events} {mobile} {s} {item} {items} frame p target h is tenure up word other = by (holder (channel_state c p)) refl where
  c : Controller
  c = (world settings events).controller

  outs : (take item c).outs ≡ (on_state (channel_state c p) p (inputs.ActivationAck p) c (entry_at c (channel_state c p))).outs
  outs = ap (λ (t : Turn). t.outs) (take-frame c item frame up is) ∙ ap (λ (x : Word). (on_word item.source x c).outs) word

  by : (o : Option ℕ) → holder (channel_state c p) ≡ o → AllByRecursion (IsForOthers target s) (take item c).outs
  by None free = subst (AllByRecursion (IsForOthers target s)) (sym (outs ∙ nobody (channel_state c p) free)) tt where
    nobody : (state : ChannelState) → holder state ≡ None → (on_state state p (inputs.ActivationAck p) c (entry_at c state)).outs ≡ []
    nobody Free is = refl
    nobody _ is = absurd cc
  by (Some zero) held = subst (AllByRecursion (IsForOthers target s)) (sym (outs ∙ free_outs p c (channel_state c p) 0 held (none_zero c s (known settings events s h.allowed h.lined_up.had)))) tt
  by (Some (suc k)) held =
      subst (λ (o : Option Tenure). AllByRecursion (IsForOthers o s) (take item c).outs) tenure
      (frames_are_for_others_new settings events s item h.allowed h.octets h.lined_up.had (record {
        frame = frame;
        is = is;
        octets = subst IsOfOctets is h.own;
        other = suc k;
        concerns = ap (concerned c) word ∙ held;
        from_one = omega arith;
        differs = λ same. other (ap (concerned c) word ∙ held ∙ ap (λ (n : ℕ). Some n) (sym same));
      }))

-- ---- a frame that doesn't concern it

left_by : {settings : Parameters} {events : List Event} {mobile : ℕ} {s : Connection} {item : RelayItem} {items : List RelayItem} (frame : Frame) → Handling settings events mobile s item items → item.what ≡ whats.Frame frame → (concerned (world settings events).controller (word_of item.source frame) ≡ Some s.number → ⊥)
    → IsLeft s.number (world settings events).controller (take item (world settings events).controller)
left_by {settings} {events} {mobile} {s} {item} frame h is other =
    subst (λ (x : What). IsLeft s.number c (take (record { source = item.source; what = x }) c)) (sym is)
    (subst (λ (d : Controller). (concerned d (word_of item.source frame) ≡ Some s.number → ⊥) → IsLeft s.number d (take (record { source = item.source; what = whats.Frame frame }) d)) (sym (FollowsTable-new settings events))
    (λ differs. frame_leaves settings (all_steps (new_actors settings) events) s.number item.source frame h.allowed h.lined_up.had.from_one differs) other) where
      c : Controller
      c = (world settings events).controller

pub other_continues : {settings : Parameters} {events : List Event} {mobile : ℕ} {s : Connection} {item : RelayItem} {items : List RelayItem} (frame : Frame) → Handling settings events mobile s item items → hears (world settings events).controller item.source ≡ true → item.what ≡ whats.Frame frame
    → (concerned (world settings events).controller (word_of item.source frame) ≡ Some s.number → ⊥) → IsOpenOrEnded (modulus_in settings) (actors_after (world settings events) Handle) mobile s
other_continues {settings} {events} {mobile} {s} {item} {items} frame h up is other = by (target_in w item.source item.what) refl where
  w : Actors
  w = world settings events

  c : Controller
  c = w.controller

  t : Turn
  t = take item c

  one : IsKnown c s
  one = known settings events s h.allowed h.lined_up.had

  left : IsLeft s.number c t
  left = left_by frame h is other

  there : connection_of t.next s.number ≡ Some s
  there = ap (option_map (λ (e : Entry). e.connection)) left.entry ∙ h.lined_up.had.there

  tells : Tells item.source frame
  tells = item_tells frame h is

  begun : (tenure : Tenure) →
      target_in w item.source item.what ≡ Some tenure →
      AreLinedUp (modulus_in settings) (actors_after w Handle) mobile s
  begun tenure begins = of tells where
    of : Tells item.source frame → AreLinedUp (modulus_in settings) (actors_after w Handle) mobile s
    of (nothing says) = absurd (none-some _ (sym (ap (target_in w item.source) is ∙ ap (acknowledged_tenure w item.source) says) ∙ begins))
    of (message m says word) =
        let acks : acknowledged_tenure w item.source (Some m) ≡ Some tenure = sym (ap (target_in w item.source) is ∙ ap (acknowledged_tenure w item.source) says) ∙ begins in
        let it = acknowledges item.source m w tenure acks in
        let p : Place = place_at item.source it.acknowledgement.channel in
        relay_leaves_others_new settings events mobile s
        (subst (IsOthers w s) (sym h.pending) (
          all_of (λ x. brings_in (place_of x) item ≡ []) (used_channels s) (λ x. ap (brings_by (place_of x) item.source) is ∙ ap (λ (o : Option Rsl). brings_read item.source o (place_of x)) says ∙ begins_none item.source m w tenure acks (place_of x)),
          ack_others frame p (target_in w item.source item.what) h is refl up (word ∙ ap (rsl_word item.source) it.is) other,
        )) h.lined_up.lined

  by : (o : Option Tenure) → target_in w item.source item.what ≡ o → IsOpenOrEnded (modulus_in settings) (actors_after w Handle) mobile s
  by (Some tenure) begins =
      carries_on s refl
      (record { there = ap (λ (d : Controller). connection_of d s.number) (ap (λ (x : Actors). x.controller) (handle_is w item items h.pending) ∙ controller-is (target_in w item.source item.what) t (record w { inbox = items })) ∙ there; is_open = h.lined_up.had.is_open; from_one = h.lined_up.had.from_one })
      h.lined_up.requested refl (begun tenure begins)
  by None begins =
      subst (λ (x : Actors). IsOpenOrEnded (modulus_in settings) x mobile s) (sym (handle_is w item items h.pending))
      (still_lined s (target_in w item.source item.what) t h.lined_up.had.from_one h.up (silent_forwards s.number t.outs left.outs) (none_down (record w { inbox = items }) t begins)
      (record { line = line_itself s; there = there; requested = h.lined_up.requested; request = refl })
      h.lined_up.lined.lined.apart h.lined_up.lined.lined.placed h.lined_up.lined.found
      (item_drops item items h.pending (other_drops c s item frame one is tells other) h.lined_up.lined.lined))

-- ---- a frame of a link that is down, which the controller ignores

ignored_drops : (c : Controller) (s : Connection) (item : RelayItem) (frame : Frame) →
    IsKnown c s →
    item.what ≡ whats.Frame frame →
    hears c item.source ≡ false →
    DropsOut s item
ignored_drops c s item frame known is down =
    AllByRecursion-so (λ x. is_link_up c.links x.station ≡ true) (λ x. AreBeside (brings_in (place_of x) item))
    (λ x up. subst AreBeside (sym (ap (brings_by (place_of x) item.source) is)) (by x up (item.source == x.station) refl)) (used_channels s) (used_linked c s known.owns) where
      by : (x : Channel) →
          is_link_up c.links x.station ≡ true →
          (b : Bool) →
          (item.source == x.station) ≡ b →
          AreBeside (if b then brings_if x.number (rsl_in frame) else [])
      by x up false other = tt
      by x up true same = absurd (true≢false (sym up ∙ ap (is_link_up c.links) (sym (eqb-true item.source x.station same)) ∙ down))

pub ignored_continues : {settings : Parameters} {events : List Event} {mobile : ℕ} {s : Connection} {item : RelayItem} {items : List RelayItem} (frame : Frame) → Handling settings events mobile s item items → hears (world settings events).controller item.source ≡ false → item.what ≡ whats.Frame frame
    → IsOpenOrEnded (modulus_in settings) (actors_after (world settings events) Handle) mobile s
unfolding take
ignored_continues {settings} {events} {mobile} {s} {item} {items} frame h down is =
    subst (λ (x : Actors). IsOpenOrEnded (modulus_in settings) x mobile s) (sym (handle_is w item items h.pending))
    (still_lined s (target_in w item.source item.what) t h.lined_up.had.from_one h.up (ap (λ (outs : List Out). forwarded outs s.number) silent ∙ silent_forwards s.number [] refl) (nothing_down (record w { inbox = items }) (target_in w item.source item.what) t silent)
    (record { line = line_itself s; there = ap (λ (b : Bool). connection_of (on_what b item.source item.what c).next s.number) down ∙ h.lined_up.had.there; requested = h.lined_up.requested; request = refl })
    h.lined_up.lined.lined.apart h.lined_up.lined.lined.placed h.lined_up.lined.found
    (item_drops item items h.pending (ignored_drops c s item frame (known settings events s h.allowed h.lined_up.had) is down) h.lined_up.lined.lined)) where
      w : Actors
      w = world settings events

      c : Controller
      c = w.controller

      t : Turn
      t = take item c

      silent : t.outs ≡ []
      silent = ap (λ (b : Bool). (on_what b item.source item.what c).outs) down
