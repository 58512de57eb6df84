-- SPDX-License-Identifier: MIT OR Apache-2.0
-- Each number of a run has a known stage, and the places of its messages rise.
use Rattle.world_laws.proofs.Prelude.{◌≡◌, ◌⊎◌, ℕ, ◌≤◌, Bool, true, false, if◌then◌else◌, length, List, [], ◌∷◌, ◌++◌, Option, Some, inl}
use Rattle.world_laws.proofs.Prelude.{inr, refl, sym, ap, ◌∙◌, subst, append_assoc, append-nil, none-some, same_Some, SWITCH_LINK, State}
use Rattle.world_laws.proofs.Prelude.{WaitConfirm, Live, Connection, IsThere, connection_of, Rise, to_be_taken, outstanding_messages}
use Rattle.world_laws.proofs.Prelude.{AreAllowed, Parameters, Event, Actors, is_up, modulus_in, new_actors, Rise-cut, Rise-of_flow, Follows}
use Rattle.world_laws.proofs.Prelude.{rises, LineUp, flow, line, parts_of, IsInOrder, arriving, accepted_list_from-rise, progress_from-rise}
use Rattle.world_laws.proofs.Prelude.{line_up, taken_of, IsUnknownForGood, IsOpenAndLinedUp, TookOctets, IsHad, IsRequested, AllNumbersAreSomewhere, AllPlacesRise}
use Rattle.world_laws.proofs.Prelude.{IsLinedUp, PlacesRise, still_to_arrive, first_served, has_asked, Whereabouts, while_up, once_down}
use Rattle.world_laws.specs.LineUp.Alive.Follows.{carries_on}
use Rattle.world_laws.proofs.OwnRow.{flow-twice}
use Rattle.world_laws.specs.Order.Whereabouts.WhileUp.{unborn, coming as comes, lined_up, ended, unknown_for_good}
use Rattle.world_laws.proofs.Order.Controllers.{none_given}
use Rattle.world_laws.proofs.Order.Fairly.{ArriveInOctets-new}
use Rattle.world_laws.proofs.Order.Following.{numbers_are_somewhere_new}
use Rattle.world_laws.proofs.Order.InOrder.{two_numbers}
use Rattle.world_laws.proofs.Order.Whole.{facts}
use Rattle.world_laws.proofs.Events.{world}

pub all_numbers_are_somewhere_new : (settings : Parameters) (events : List Event) → AllNumbersAreSomewhere settings events
all_numbers_are_somewhere_new settings events number allowed octets from_one =
    numbers_are_somewhere_new settings events number (facts settings) allowed (ArriveInOctets-new settings events allowed octets) from_one

-- ---- the places of a line that is followed

-- cut behind what was taken
cut_order : {m : ℕ} {sent : List (List ℕ)} (taken rest : List (List ℕ)) (k : ℕ) →
    2 ≤ m →
    Rise m sent 0 (flow taken ++ rest) k →
    (order : IsInOrder m sent taken rest) × (order.last ≡ k)
cut_order taken rest k two rise =
    let cut = Rise-cut (flow taken) rest rise in
    let front = Rise-of_flow taken cut.1 in
    (record { count = cut.0; accepted = accepted_list_from-rise two front; no_gap = progress_from-rise two front; last = k; rise = cut.2 }, refl)

module _ (m : ℕ) (two : 2 ≤ m) (taken : List (List ℕ)) (l : LineUp) (same : line l ≡ flow taken ++ arriving l) where
  -- where nothing is lost
  order_whole : l.is_intact ≡ true →
      (of_link : List (List ℕ)) →
      Rise m l.sent 0 (line l ++ flow of_link) (length l.sent) →
      (order : IsInOrder m l.sent taken (still_to_arrive l of_link)) × (order.last ≡ length l.sent)
  order_whole intact of_link rise =
      let list : line l ++ flow of_link ≡ flow taken ++ still_to_arrive l of_link =
      ap (λ (xs : List (List ℕ)). xs ++ flow of_link) same ∙ append_assoc (flow taken) (arriving l) (flow of_link)
      ∙ ap (λ (b : Bool). flow taken ++ (arriving l ++ (if b then flow of_link else []))) (sym intact) in
      cut_order taken (still_to_arrive l of_link) (length l.sent) two (subst (λ (xs : List (List ℕ)). Rise m l.sent 0 xs (length l.sent)) list rise)

  -- where something is
  order_cut : l.is_intact ≡ false →
      (of_link : List (List ℕ)) (k : ℕ) →
      Rise m l.sent 0 (line l) k →
      (order : IsInOrder m l.sent taken (still_to_arrive l of_link)) × (order.last ≡ k)
  order_cut lost of_link k rise =
      let list : line l ≡ flow taken ++ still_to_arrive l of_link =
      same ∙ ap (λ (xs : List (List ℕ)). flow taken ++ xs) (sym (append-nil (arriving l)))
      ∙ ap (λ (b : Bool). flow taken ++ (arriving l ++ (if b then flow of_link else []))) (sym lost) in
      cut_order taken (still_to_arrive l of_link) k two (subst (λ (xs : List (List ℕ)). Rise m l.sent 0 xs k) list rise)

  places_by : (intact : Bool) → l.is_intact ≡ intact → Follows m l.sent (line l) l.link intact → PlacesRise m taken l
  places_by true is (carries_on going) =
      let now = order_whole is (to_be_taken l.link) going.now in
      let anew = order_whole is (outstanding_messages l.link) going.anew in
      record { now = now.0; anew = anew.0; whole_now = λ _. now.1; whole_anew = λ _. anew.1 }
  places_by false is (rises k rise) =
      let now = order_cut is (to_be_taken l.link) k rise in
      let anew = order_cut is (outstanding_messages l.link) k rise in
      record { now = now.0; anew = anew.0; whole_now = λ intact. absurd (cc (sym is ∙ intact)); whole_anew = λ intact. absurd (cc (sym is ∙ intact)) }

-- ---- of a connection that lives

line-of : (w : Actors) (s : Connection) (l : LineUp) →
    l.taken ≡ flow (taken_of w s.number) →
    line l ≡ flow (taken_of w s.number) ++ arriving l
line-of w s l same =
    ap (λ (xs : List (List ℕ)). flow xs ++ flow l.out ++ parts_of (l.old ++ l.serving ∷ l.target ∷ [])) same
    ∙ ap (λ (xs : List (List ℕ)). xs ++ flow l.out ++ parts_of (l.old ++ l.serving ∷ l.target ∷ [])) (flow-twice (taken_of w s.number))
    ∙ append_assoc (flow (taken_of w s.number)) (flow l.out) (parts_of (l.old ++ l.serving ∷ l.target ∷ []))

places_of : (m : ℕ) (w : Actors) (mobile : ℕ) (s : Connection) →
    2 ≤ m →
    (l : IsOpenAndLinedUp m w mobile s) →
    PlacesRise m (taken_of w s.number) (line_up w l.lined.one s)
places_of m w mobile s two l =
    let line : LineUp = line_up w l.lined.one s in
    places_by m two (taken_of w s.number) line (line-of w s line refl) line.is_intact refl l.lined.lined.alive.follows

-- ---- in a run

-- one that asked, and is open, isn't one that hasn't
requested_asked : (state : State) → IsRequested state → has_asked state ≡ true
requested_asked WaitConfirm of = refl
requested_asked (Live reference stage) of = refl
requested_asked _ of = elim of [ ]

module _ (settings : Parameters) (events : List Event) (s : Connection) (had : IsHad (world settings events) s) (requested : IsRequested s.state) where
  abbrev w : Actors
  w = world settings events

  abbrev opener : Option ℕ
  opener = first_served (new_actors settings) events s.number

  same_one : (other : Connection) → other.number ≡ s.number → connection_of w.controller other.number ≡ Some other → other ≡ s
  same_one other same there = same_Some other s (sym there ∙ ap (connection_of w.controller) same ∙ had.there)

  is_lined_up : (mobile : ℕ) (other : Connection) →
      opener ≡ Some mobile →
      other ≡ s →
      IsOpenAndLinedUp (modulus_in settings) w mobile other →
      IsLinedUp (modulus_in settings) w opener s
  is_lined_up mobile other opened is l =
      let own : IsOpenAndLinedUp (modulus_in settings) w mobile s = subst (IsOpenAndLinedUp (modulus_in settings) w mobile) is l in
      record { mobile = mobile; opened = opened; lined_up = own; places = places_of (modulus_in settings) w mobile s (two_numbers settings) own }

  rises_by : is_up w SWITCH_LINK ≡ true → AreAllowed settings → TookOctets settings events → Whereabouts (modulus_in settings) w opener s.number
      → IsLinedUp (modulus_in settings) w opener s ⊎ IsUnknownForGood w s.number
  rises_by up allowed octets (while_up _ (unborn none past)) = absurd (none-some s (sym (none_given settings events s.number past) ∙ had.there))
  rises_by up allowed octets (while_up _ (comes mobile other none same coming_so)) =
      let is_so = ((facts settings).holds events allowed octets).is_coming mobile other coming_so in
      absurd (cc (sym is_so.1 ∙ ap (λ (c : Connection). has_asked c.state) (same_one other same is_so.0.there) ∙ requested_asked s.state requested))
  rises_by up allowed octets (while_up _ (lined_up mobile other opened same l fresh)) = inl (is_lined_up mobile other opened (same_one other same l.had.there) l)
  rises_by up allowed octets (while_up _ (ended mobile opened past gone has)) = absurd (gone (subst IsThere (sym had.there) had.is_open))
  rises_by up allowed octets (while_up _ (unknown_for_good u)) = inr u
  rises_by up allowed octets (once_down down at) = absurd (cc (sym up ∙ down))

pub all_places_rise_new : (settings : Parameters) (events : List Event) → AllPlacesRise settings events
all_places_rise_new settings events s allowed events_octets up had requested =
    let octets : TookOctets settings events = ArriveInOctets-new settings events allowed events_octets in
    rises_by settings events s had requested up allowed octets (numbers_are_somewhere_new settings events s.number (facts settings) allowed octets had.from_one)
