-- SPDX-License-Identifier: MIT OR Apache-2.0
-- The target of a connection in a run is fresh; this follows from the stage of its number.
use Rattle.world_laws.proofs.Prelude.{◌≡◌, ℕ, true, List, Option, Some, sym, ap, ◌∙◌, subst, none-some, same_Some, SWITCH_LINK, Live}
use Rattle.world_laws.proofs.Prelude.{Connection, IsThere, connection_of, AreAllowed, Parameters, Event, Actors, is_up}
use Rattle.world_laws.proofs.Prelude.{modulus_in, new_actors, IsBeyondAsking, IsUnconfirmed, IsOpenAndLinedUp, TookOctets, IsHad, IsFreshIn}
use Rattle.world_laws.proofs.Prelude.{first_served, has_asked, Whereabouts, while_up, once_down}
use Rattle.conn_rules.specs.declared.state.Stage.{Stage}
use Rattle.world_laws.specs.Order.Whereabouts.WhileUp.{unborn, coming, lined_up, ended, unknown_for_good}
use Rattle.world_laws.specs.Order.Targets.{IsServed, TargetsAreFresh}
use Rattle.world_laws.proofs.Order.Controllers.{none_given}
use Rattle.world_laws.proofs.Order.Fairly.{ArriveInOctets-new}
use Rattle.world_laws.proofs.Order.Following.{numbers_are_somewhere_new}
use Rattle.world_laws.proofs.Order.Whole.{facts}
use Rattle.world_laws.proofs.Events.{world}

module _ (settings : Parameters) (events : List Event) (s : Connection) (reference : ℕ) (stage : Stage) (had : IsHad (world settings events) s) (live : s.state ≡ Live reference stage) where
  abbrev w : Actors
  w = world settings events

  abbrev opener : Option ℕ
  opener = first_served (new_actors settings) events s.number

  -- a connection of its number is this one
  same_one : (other : Connection) → other.number ≡ s.number → connection_of w.controller other.number ≡ Some other → other ≡ s
  same_one other same there = same_Some other s (sym there ∙ ap (connection_of w.controller) same ∙ had.there)

  -- one that is confirmed asked the switch
  asked : has_asked s.state ≡ true
  asked = ap has_asked live

  served : (mobile : ℕ) (other : Connection) →
      opener ≡ Some mobile →
      other ≡ s →
      (l : IsOpenAndLinedUp (modulus_in settings) w mobile other) →
      IsFreshIn w l.lined.one other.state →
      IsServed (modulus_in settings) w opener s
  served mobile other opened is l fresh = subst (IsServed (modulus_in settings) w opener) is (record { mobile = mobile; opened = opened; lined_up = l; fresh = fresh })

  served_by : is_up w SWITCH_LINK ≡ true →
      AreAllowed settings →
      TookOctets settings events →
      Whereabouts (modulus_in settings) w opener s.number →
      IsServed (modulus_in settings) w opener s
  served_by up allowed octets (while_up _ (unborn none past)) = absurd (none-some s (sym (none_given settings events s.number past) ∙ had.there))
  served_by up allowed octets (while_up _ (coming mobile other none same comes)) =
      let is_so = ((facts settings).holds events allowed octets).is_coming mobile other comes in
      absurd (cc (sym is_so.1 ∙ ap (λ (c : Connection). has_asked c.state) (same_one other same is_so.0.there) ∙ asked))
  served_by up allowed octets (while_up _ (lined_up mobile other opened same l fresh)) = served mobile other opened (same_one other same l.had.there) l fresh
  served_by up allowed octets (while_up _ (ended mobile opened past gone has)) = absurd (gone (subst IsThere (sym had.there) had.is_open))
  served_by up allowed octets (while_up _ (unknown_for_good u)) = elim
      (subst IsBeyondAsking live (subst IsUnconfirmed had.there u.unconfirmed)) [ ]
  served_by up allowed octets (once_down down at) = absurd (cc (sym up ∙ down))

pub targets_are_fresh : (settings : Parameters) (events : List Event) → TargetsAreFresh settings events
targets_are_fresh settings events s reference stage allowed events_octets up had live =
    let octets : TookOctets settings events = ArriveInOctets-new settings events allowed events_octets in
    served_by settings events s reference stage had live up allowed octets (numbers_are_somewhere_new settings events s.number (facts settings) allowed octets had.from_one)
