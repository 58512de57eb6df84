-- SPDX-License-Identifier: MIT OR Apache-2.0
-- A connection that begins is coming: its mobile is to arrive on its channel.
use Rattle.world_laws.proofs.Prelude.{◌≡◌, ℕ, Bool, true, false, if◌then◌else◌, List, [], ◌∷◌, Some, refl, sym, ap, subst, AllByRecursion}
use Rattle.world_laws.proofs.Prelude.{Connection, Zero, is_flow_message, to_be_taken, waits, after_number, new_mobile, Parameters, Event}
use Rattle.world_laws.proofs.Prelude.{OutboxEntry, actors_after, rsl_in, Actors, Mobile, modulus_in, outbox_of, controls_of, is_initial}
use Rattle.world_laws.proofs.Prelude.{idle_link, RunsToEnd-new, RunsToEnd-numbered, RunsToEnd-unnumbered, is_initial_clear, IsClear-flow, AssignsIn}
use Rattle.world_laws.proofs.Prelude.{behind_first, IsComing, IsNew, AssignsAnother, Begins, ConnectionsBeginComing, HasBegun}
use Rattle.world_laws.proofs.Prelude.{IsAsItConnected, IsEarlyIn}
use Rattle.mobile_end.specs.RunsToEnd.{RunsToEnd}
use Rattle.mobile_end.specs.Mobile.{after_connect, connected_mobile, link_of, with_link}
use Rattle.world_laws.specs.Access.Coming.IsAccessing.{asks}
use Rattle.world_laws.specs.Order.Beginning.HasBegun.{begins, not_yet}
use Rattle.world_laws.proofs.Order.Beginning.{connections_begin_new}
use Rattle.world_laws.proofs.Access.Turning.{another_assigns}
use Rattle.world_laws.proofs.Events.{world}

-- ---- a mobile as it connected

-- its link begins with what its upper layers sent
pub connected_runs : (m : ℕ) (initial : List ℕ) →
    is_initial initial ≡ true →
    RunsToEnd m (after_connect (new_mobile m) (Some initial)).sent [] (after_connect (new_mobile m) (Some initial)).zero
connected_runs m initial lawful = by (is_flow_message initial) refl where
  by : (b : Bool) → is_flow_message initial ≡ b
      → RunsToEnd m (connected_mobile (if b then after_number (new_mobile m) initial else with_link (new_mobile m) Zero (waits (link_of (new_mobile m) Zero) initial))).sent []
      (connected_mobile (if b then after_number (new_mobile m) initial else with_link (new_mobile m) Zero (waits (link_of (new_mobile m) Zero) initial))).zero
  by true flow = RunsToEnd-numbered {m = m} {sent = []} {xs = []} idle_link initial (IsClear-flow initial (is_initial_clear initial lawful) flow) (RunsToEnd-new m)
  by false apart = RunsToEnd-unnumbered {m = m} {sent = []} {xs = []} idle_link initial apart (RunsToEnd-new m)

-- and no message of radio resource management is behind it
connected_controls : (m : ℕ) (initial : List ℕ) →
    controls_of (behind_first (to_be_taken (after_connect (new_mobile m) (Some initial)).zero)) ≡ 0
connected_controls m initial = by (is_flow_message initial) where
  by : (b : Bool) →
      controls_of (behind_first (to_be_taken (connected_mobile (if b then after_number (new_mobile m) initial else with_link (new_mobile m) Zero (waits (link_of (new_mobile m) Zero) initial))).zero)) ≡ 0
  by true = refl
  by false = refl

new_connected : (m : ℕ) (run : List Event) (mobile : ℕ) (p : Mobile) → IsAsItConnected m run mobile p → IsNew m p
new_connected m run mobile p is = subst (IsNew m) (sym is.same) (record { opens = refl; carries_on = connected_runs m is.initial is.lawful; no_control = connected_controls m is.initial })

-- ---- no one assigned it a channel

another_all : (k : ℕ) (s : Connection) (station : ℕ) (entries : List OutboxEntry) →
    AllByRecursion (λ entry. AssignsAnother k (rsl_in entry.out.frame)) entries →
    AllByRecursion (AssignsIn k s station) entries
another_all k s station [] all = tt
another_all k s station (entry ∷ entries) all = (another_assigns k s station (rsl_in entry.out.frame) all.0, another_all k s station entries all.1)

-- ---- the law

begins_coming : (m : ℕ) (run : List Event) (v : Actors) (s : Connection) → Begins m run v s → IsComing m v s.request.access s
begins_coming m run v s begun = record {
  had = begun.had;
  early = subst IsEarlyIn (sym begun.state) tt;
  asked = refl;
  one = begun.one;
  found = begun.found;
  accessing = asks (ap (λ (p : Mobile). p.seat) begun.as_connected.same) (new_connected m run s.request.access begun.one begun.as_connected) begun.quiet.nothing_arrives begun.quiet.none_commanded;
  assigned = λ station. another_all s.request.access s station (outbox_of v station) (begun.none_names station);
}

pub connections_begin_coming_new : (settings : Parameters) (done : List Event) (event : Event) → ConnectionsBeginComing settings done event
connections_begin_coming_new settings done event number allowed octets from_one past = by (connections_begin_new settings done event number allowed octets from_one past) where
  v : Actors
  v = actors_after (world settings done) event

  by : HasBegun (Begins (modulus_in settings) done) v number →
      HasBegun (λ w s. IsComing (modulus_in settings) w s.request.access s) v number
  by (not_yet still) = not_yet still
  by (begins s is begun) = begins s is (begins_coming (modulus_in settings) done v s begun)
