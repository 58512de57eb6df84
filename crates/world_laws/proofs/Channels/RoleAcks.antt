-- SPDX-License-Identifier: MIT OR Apache-2.0
-- The acknowledgements on their way agree with the roles of the channels.
use Rattle.world_laws.proofs.Prelude.{◌≡◌, ◌≢◌, ℕ, ◌≤◌, ◌==◌, Bool, true, false, if◌then◌else◌, List, [], ◌∷◌, ◌++◌, length, refl, sym, ap}
use Rattle.world_laws.proofs.Prelude.{◌∙◌, subst, append_assoc, arith, AllByRecursion, flat_map, Channel, Place, SWITCH_LINK}
use Rattle.world_laws.proofs.Prelude.{target_channels, target_role, undone, target_in_role, ChannelState, Free, InUse, Releasing}
use Rattle.world_laws.proofs.Prelude.{channel_state, hears, place_of, Item, What, Rsl, AreAllowed, Parameters, Event}
use Rattle.world_laws.proofs.Prelude.{acknowledged_in, said, said_by, to_arrive, began, begins, begins_and_ends, acknowledgements, due}
use Rattle.world_laws.proofs.Prelude.{Actors, base_of, is_active_at, outbox_of, both_empty, acks_append, AllByRecursion-so, IsOwed, AcksShowEnd}
use Rattle.world_laws.proofs.Prelude.{NoneReleases, ReleasesLast, acknowledgements_up, is_release_ack, read_by, read_of, coming_up}
use Rattle.world_laws.proofs.Prelude.{is_ended, TookOctets, EndsLast, AcknowledgementsAgree, OldChannelsEnd}
use Rattle.ruled_relay.specs.declared.item.What.TheVariants as whats
use Rattle.world_model.specs.OwnerLines.IsOwed.{nothing, ends}
use Rattle.world_laws.proofs.Acknowledged.{all_acks_show_end_new}
use Rattle.world_laws.proofs.Framing.{all_left}
use Rattle.world_laws.proofs.Channels.Agreeing.{agreed, owns_at, placed_at}
use Rattle.world_laws.proofs.Events.{world}

-- ---- what is on its way up is the beginning of all that is still to arrive

pub by_said : (station source : ℕ) (what : What) → read_by station source what ≡ (if source == station then said_by what else [])
by_said station source (whats.Frame frame) = refl
by_said station source whats.Down = by (source == station) where
  by : (b : Bool) → [] ≡ (let xs : List Rsl = if b then [] else [] in xs)
  by true = refl
  by false = refl

inbox_said : (station : ℕ) (items : List Item) → flat_map (read_of station) items ≡ flat_map (said station) items
inbox_said station [] = refl
inbox_said station (item ∷ items) = ap (λ (xs : List Rsl). xs ++ flat_map (read_of station) items) (by_said station item.source item.what) ∙ ap (λ (xs : List Rsl). said station item ++ xs) (inbox_said station items)

-- what is still to arrive consists of what is on its way and what is due
pub up_first : (w : Actors) (at : Place) →
    to_arrive w at ≡ acknowledgements_up w at ++ due at.number (is_active_at w at) (outbox_of w at.station)
up_first w at =
    let made : List Rsl = (base_of w at.station).messages in
    let waits : List Rsl = due at.number (is_active_at w at) (outbox_of w at.station) in
    sym (append_assoc (acknowledged_in at w.inbox) (acknowledgements at.number made) waits)
    ∙ ap (λ (xs : List Rsl). xs ++ waits) (sym (acks_append at.number (flat_map (said at.station) w.inbox) made)
    ∙ ap (λ (xs : List Rsl). acknowledgements at.number (xs ++ made)) (sym (inbox_said at.station w.inbox)))

-- ---- what is still to arrive of a channel, by its state at the controller

using_none : (k n : ℕ) (xs : List Rsl) → IsOwed k (InUse n) xs → NoneReleases xs
using_none k n xs began = tt
using_none k n xs begins = (refl, tt)

releasing_last : (k n : ℕ) (xs : List Rsl) → IsOwed k (Releasing n) xs → ReleasesLast xs
releasing_last k n xs ends = ((λ is. refl), tt)
releasing_last k n xs begins_and_ends = ((λ is. absurd cc), ((λ is. refl), tt))

pub free_silent : (k : ℕ) (xs : List Rsl) → IsOwed k Free xs → xs ≡ []
free_silent k xs nothing = refl

last_front : (up rest : List Rsl) → ReleasesLast (up ++ rest) → ReleasesLast up
last_front [] rest last = tt
last_front (m ∷ ms) rest last = ((λ is. (both_empty ms rest (sym (last.0 is))).0), last_front ms rest last.1)

-- ---- after any events

-- of a channel whose link is up at the controller
pub comes_at : (settings : Parameters) (events : List Event) → AreAllowed settings → TookOctets settings events → (at : Place) → 1 ≤ at.station → at.station ≤ length settings.cells → hears (world settings events).controller at.station ≡ true → (state : ChannelState) → channel_state (world settings events).controller at ≡ state
    → (rest : List Rsl) × IsOwed at.number state (acknowledgements_up (world settings events) at ++ rest)
comes_at settings events allowed octets at least most hearing state is =
    let w : Actors = world settings events in
    let way = ((agreed settings events allowed octets).agree at least most).way hearing in
    let waits : List Rsl = due at.number (is_active_at w at) (outbox_of w at.station) in (
      waits ++ way.lost,
      subst (λ (s : ChannelState). IsOwed at.number s (acknowledgements_up w at ++ (waits ++ way.lost))) is
          (subst (IsOwed at.number (channel_state w.controller at)) (ap (λ (xs : List Rsl). xs ++ way.lost) (up_first w at) ∙ append_assoc (acknowledgements_up w at) waits way.lost) way.owed),
    )

module _ (settings : Parameters) (events : List Event) (allowed : AreAllowed settings) (octets : TookOctets settings events) where
  abbrev w : Actors
  w = world settings events

  -- a free channel: none of its acknowledgements is on its way
  pub silent_of : (at : Place) →
      1 ≤ at.station →
      at.station ≤ length settings.cells →
      hears w.controller at.station ≡ true →
      channel_state w.controller at ≡ Free →
      acknowledgements_up w at ≡ []
  silent_of at least most hearing free =
      let comes = comes_at settings events allowed octets at least most hearing Free free in
      (both_empty (acknowledgements_up w at) comes.0 (sym (free_silent at.number (acknowledgements_up w at ++ comes.0) comes.1))).0

  -- one in use: no RF CHANNEL RELEASE ACK is on its way
  pub none_of : (at : Place) (n : ℕ) → channel_state w.controller at ≡ InUse n → NoneReleases (acknowledgements_up w at)
  none_of at n used =
      let placed = placed_at settings events allowed at (λ free. absurd (let both : Free ≡ InUse n = sym free ∙ used in cc)) in
      let comes = comes_at settings events allowed octets at placed.least placed.most placed.hearing (InUse n) used in
      all_left (λ m. is_release_ack m ≡ false) (acknowledgements_up w at) comes.0 (using_none at.number n (acknowledgements_up w at ++ comes.0) comes.1)

  -- one that is releasing: an RF CHANNEL RELEASE ACK is the last acknowledgement
  pub last_of : (at : Place) (n : ℕ) → channel_state w.controller at ≡ Releasing n → ReleasesLast (acknowledgements_up w at)
  last_of at n releasing =
      let placed = placed_at settings events allowed at (λ free. absurd (let both : Free ≡ Releasing n = sym free ∙ releasing in cc)) in
      let comes = comes_at settings events allowed octets at placed.least placed.most placed.hearing (Releasing n) releasing in
      last_front (acknowledgements_up w at) comes.0 (releasing_last at.number n (acknowledgements_up w at ++ comes.0) comes.1)

  tells_of : (at : Place) → channel_state w.controller at ≢ Free → AcksShowEnd w at
  tells_of at busy = all_acks_show_end_new settings events at (λ is. absurd (zero_less at.station is (placed_at settings events allowed at busy).least)) where
    zero_less : (k : ℕ) → k ≡ SWITCH_LINK → 1 ≤ k → ⊥
    zero_less k is least = absurd (omega (arith, is, least))

  -- so what is on its way up from a channel in use doesn't end, and from one that is releasing
  -- nothing is on its way behind the RF CHANNEL RELEASE ACK
  pub continues_of : (at : Place) (n : ℕ) → channel_state w.controller at ≡ InUse n → is_ended (coming_up w at) ≡ false
  continues_of at n used = (tells_of at (λ free. absurd (let both : Free ≡ InUse n = sym free ∙ used in cc))).none (none_of at n used)

  pub ends_of : (at : Place) (n : ℕ) → channel_state w.controller at ≡ Releasing n → EndsLast (coming_up w at)
  ends_of at n releasing = (tells_of at (λ free. absurd (let both : Free ≡ Releasing n = sym free ∙ releasing in cc))).last (last_of at n releasing)

-- ---- the laws

pub acknowledgements_agree_new : (settings : Parameters) (events : List Event) → AcknowledgementsAgree settings events
acknowledgements_agree_new settings events s allowed octets had =
    let w : Actors = world settings events in
    let owns = owns_at settings events allowed s.number s had.there had.is_open in
    record {
      old_end = AllByRecursion-so (λ c. channel_state w.controller (place_of c) ≡ Releasing s.number) (λ c. ReleasesLast (acknowledgements_up w (place_of c))) (λ c is. last_of settings events allowed octets (place_of c) s.number is) (undone s.draining) owns.releasing;
      others_continue = subst (λ (cs : List Channel). AllByRecursion (λ c. NoneReleases (acknowledgements_up w (place_of c))) (s.serving ∷ cs)) (target_in_role s.state)
          (AllByRecursion-so (λ c. channel_state w.controller (place_of c) ≡ InUse s.number) (λ c. NoneReleases (acknowledgements_up w (place_of c))) (λ c is. none_of settings events allowed octets (place_of c) s.number is) (s.serving ∷ target_channels (target_role s.state)) owns.using);
    }

pub old_channels_end_new : (settings : Parameters) (events : List Event) → OldChannelsEnd settings events
old_channels_end_new settings events s allowed octets had =
    let w : Actors = world settings events in
    let owns = owns_at settings events allowed s.number s had.there had.is_open in
    record {
      old = AllByRecursion-so (λ c. channel_state w.controller (place_of c) ≡ Releasing s.number) (λ c. EndsLast (coming_up w (place_of c))) (λ c is. ends_of settings events allowed octets (place_of c) s.number is) (undone s.draining) owns.releasing;
      others = subst (λ (cs : List Channel). AllByRecursion (λ c. is_ended (coming_up w (place_of c)) ≡ false) (s.serving ∷ cs)) (target_in_role s.state)
          (AllByRecursion-so (λ c. channel_state w.controller (place_of c) ≡ InUse s.number) (λ c. is_ended (coming_up w (place_of c)) ≡ false) (λ c is. continues_of settings events allowed octets (place_of c) s.number is) (s.serving ∷ target_channels (target_role s.state)) owns.using);
    }
