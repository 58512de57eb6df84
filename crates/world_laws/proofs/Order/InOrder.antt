-- SPDX-License-Identifier: MIT OR Apache-2.0
-- What the switch accepts of each connection of a run is a prefix of what its mobile sent, with no
-- gap.
use Rattle.world_laws.proofs.Prelude.{◌≡◌, ℕ, ◌≤◌, Bool, true, false, if◌then◌else◌, find, drop, List, option_map, Option, Some, None, refl}
use Rattle.world_laws.proofs.Prelude.{sym, ap, ◌∙◌, subst, arith, option_and_then, none-some, same_Some, Connection, SwitchConnection}
use Rattle.world_laws.proofs.Prelude.{AreAllowed, Parameters, Event, Actors, Mobile, mobile_of, modulus_in, new_actors, IsSome}
use Rattle.world_laws.proofs.Prelude.{take-append-drop, had_of, Four, Two, count_of, IsInOrder, accepted_list, progress, IsPrefix, HasEnded}
use Rattle.world_laws.proofs.Prelude.{is_of_peer, taken_in, taken_of, TookOctets, AreLinedUp, first_served, Facts, IsBeginningOfSent}
use Rattle.world_laws.proofs.Prelude.{RunsAreInOrder, Whereabouts, silent, cut, while_up, once_down}
use Rattle.std.proofs.Common.{take}
use Rattle.msc_end.specs.Switch.{connection_of}
use Rattle.world_model.specs.Views.{accepted, progress_of}
use Rattle.world_laws.proofs.Ending.{ended_are_in_order_new}
use Rattle.world_laws.proofs.InOrder.{line_ups_are_in_order_new}
use Rattle.world_laws.specs.Order.Facts.{Holds, IsAsking}
use Rattle.world_laws.specs.Order.Whereabouts.WhileUp.{unborn, coming, lined_up, ended, unknown_for_good}
use Rattle.world_laws.proofs.Order.Following.{numbers_are_somewhere_new}
use Rattle.world_laws.proofs.Order.Modulus.{all_numbered, switch_modulus}
use Rattle.world_laws.proofs.Order.Steps.{asking_at}
use Rattle.world_laws.proofs.Events.{world}

-- ---- a connection of the switch, by its number with the controller

-- The switch accepted the first messages of the mobile that was first served, and judged no gap.
record Accepts (m : ℕ) (w : Actors) (opener : Option ℕ) (taken : List (List ℕ)) : Type 0 where
  mobile : ℕ
  opened : opener ≡ Some mobile
  one : Mobile
  found : mobile_of w mobile ≡ Some one
  count : ℕ
  accepts : accepted_list m taken ≡ take count one.end.sent
  carries_on : progress m taken ≡ Some count

accepts_in_order : {m : ℕ} {w : Actors} {opener : Option ℕ} {taken coming : List (List ℕ)} (mobile : ℕ) (one : Mobile) →
    opener ≡ Some mobile →
    mobile_of w mobile ≡ Some one →
    IsInOrder m one.end.sent taken coming →
    Accepts m w opener taken
accepts_in_order mobile one opened found order = record { mobile = mobile; opened = opened; one = one; found = found; count = order.count; accepts = order.accepted; carries_on = order.no_gap }

accepts_ended : {m : ℕ} {w : Actors} {opener : Option ℕ} (number mobile : ℕ) →
    2 ≤ m →
    opener ≡ Some mobile →
    HasEnded m w mobile number →
    Accepts m w opener (taken_of w number)
accepts_ended {m} {w} number mobile two opened has = accepts_in_order mobile has.one opened has.found (ended_are_in_order_new m w mobile number two has)

accepts_lined : {m : ℕ} {w : Actors} {opener : Option ℕ} (s : Connection) (mobile : ℕ) →
    2 ≤ m →
    opener ≡ Some mobile →
    AreLinedUp m w mobile s →
    Accepts m w opener (taken_of w s.number)
accepts_lined {m} {w} s mobile two opened lined = accepts_in_order mobile lined.one opened lined.found (line_ups_are_in_order_new m w mobile s two lined)

-- it is none of those that the switch has no connection for
not_silent : {X : Type 0} {o : Option SwitchConnection} {c : SwitchConnection} → o ≡ Some c → o ≡ None → X
not_silent {c = c} there none = absurd (none-some c (sym none ∙ there))

accepts_somewhere : {m : ℕ} {w : Actors} {opener : Option ℕ} (number : ℕ) (c : SwitchConnection) →
    2 ≤ m →
    1 ≤ number →
    Holds m w →
    find (is_of_peer number) w.switch.connections ≡ Some c →
    Whereabouts m w opener number →
    Accepts m w opener (taken_of w number)
accepts_somewhere number c two from_one holds there (while_up up (unborn none past)) = not_silent there (holds.not_given number from_one past).none_taken
accepts_somewhere {w = w} number c two from_one holds there (while_up up (coming mobile s none same comes_so)) =
    let is_so = holds.is_coming mobile s comes_so in
    not_silent there (holds.not_asked number from_one (subst (λ (n : ℕ). IsAsking (had_of w.controller n)) same (asking_at w s.number s is_so.0.there is_so.1))).none_taken
accepts_somewhere {m = m} {w = w} {opener = opener} number c two from_one holds there (while_up up (lined_up mobile s opened same l fresh)) = subst (λ (n : ℕ). Accepts m w opener (taken_of w n)) same (accepts_lined s mobile two opened l.lined)
accepts_somewhere number c two from_one holds there (while_up up (ended mobile opened past gone has)) = accepts_ended number mobile two opened has
accepts_somewhere number c two from_one holds there (while_up up (unknown_for_good u)) = not_silent there u.none_taken
accepts_somewhere number c two from_one holds there (once_down down (silent at)) = not_silent there at.none_taken
accepts_somewhere number c two from_one holds there (once_down down (cut mobile opened has none)) = accepts_ended number mobile two opened has

-- ---- the order

pub two_numbers : (settings : Parameters) → 2 ≤ modulus_in settings
two_numbers settings = by settings.network.release98 where
  by : (b : Bool) → 2 ≤ count_of (if b then Two else Four)
  by true = omega arith
  by false = omega arith

module _ (settings : Parameters) (events : List Event) (facts : Facts settings) (allowed : AreAllowed settings) (octets : TookOctets settings events) where
  abbrev w : Actors
  w = world settings events

  abbrev m : ℕ
  m = modulus_in settings

  accepts_of : (k : ℕ) (c : SwitchConnection) →
      connection_of w.switch.connections k ≡ Some c →
      Accepts m w (first_served (new_actors settings) events c.peer) c.reception.taken
  accepts_of k c is =
      let holds : Holds m w = facts.holds events allowed octets in
      let peer = holds.peers k c is in
      subst (Accepts m w (first_served (new_actors settings) events c.peer)) (ap taken_in peer.1)
      (accepts_somewhere c.peer c (two_numbers settings) peer.0 holds peer.1 (numbers_are_somewhere_new settings events c.peer facts allowed octets peer.0))

  modulus-of : (k : ℕ) (c : SwitchConnection) → connection_of w.switch.connections k ≡ Some c → c.reception.modulus ≡ m
  modulus-of k c is = all_numbered (λ (c : SwitchConnection). c.reception.modulus ≡ m) w.switch.connections k c is (switch_modulus settings events).all

  begins : (k : ℕ) (c : SwitchConnection) (list : List (List ℕ)) →
      connection_of w.switch.connections k ≡ Some c →
      accepted_list c.reception.modulus c.reception.taken ≡ list →
      IsBeginningOfSent (new_actors settings) events k list
  begins k c list is same =
      let at : Accepts m w (first_served (new_actors settings) events c.peer) c.reception.taken = accepts_of k c is in
      record {
        mobile = at.mobile;
        opened = ap (option_and_then (λ (c : SwitchConnection). first_served (new_actors settings) events c.peer)) is ∙ at.opened;
        sent_list = at.one.end.sent;
        is_sent = ap (option_map (λ (p : Mobile). p.end.sent)) at.found;
        is_prefix = subst (λ (xs : List (List ℕ)). IsPrefix xs at.one.end.sent) (sym at.accepts ∙ ap (λ (n : ℕ). accepted_list n c.reception.taken) (sym (modulus-of k c is)) ∙ same) (drop at.count at.one.end.sent, take-append-drop at.count at.one.end.sent);
      }

  is_in_order : (k : ℕ) (list : List (List ℕ)) → accepted w k ≡ Some list → IsBeginningOfSent (new_actors settings) events k list
  is_in_order k list is = by (connection_of w.switch.connections k) refl is where
    by : (o : Option SwitchConnection) →
        connection_of w.switch.connections k ≡ o →
        option_map (λ (c : SwitchConnection). accepted_list c.reception.modulus c.reception.taken) o ≡ Some list →
        IsBeginningOfSent (new_actors settings) events k list
    by None there is = absurd (none-some list is)
    by (Some c) there is = begins k c list there (same_Some (accepted_list c.reception.modulus c.reception.taken) list is)

  is_no_gap : (k : ℕ) (o : Option ℕ) → progress_of w k ≡ Some o → IsSome o
  is_no_gap k o is = by (connection_of w.switch.connections k) refl is where
    by : (p : Option SwitchConnection) →
        connection_of w.switch.connections k ≡ p →
        option_map (λ (c : SwitchConnection). progress c.reception.modulus c.reception.taken) p ≡ Some o →
        IsSome o
    by None there is = absurd (none-some o is)
    by (Some c) there is =
        let at : Accepts m w (first_served (new_actors settings) events c.peer) c.reception.taken = accepts_of k c there in
        subst IsSome (sym at.carries_on ∙ ap (λ (n : ℕ). progress n c.reception.taken) (sym (modulus-of k c there)) ∙ same_Some (progress c.reception.modulus c.reception.taken) o is) refl

pub runs_are_in_order_new : (settings : Parameters) (events : List Event) → RunsAreInOrder settings events
runs_are_in_order_new settings events facts allowed octets = record {
  in_order = is_in_order settings events facts allowed octets;
  no_gap = is_no_gap settings events facts allowed octets;
}
