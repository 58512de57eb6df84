-- SPDX-License-Identifier: MIT OR Apache-2.0
-- A connection that is coming remains so at each event of others.
use Rattle.world_laws.proofs.Prelude.{◌≡◌, ◌≢◌, ℕ, ◌+◌, ◌==◌, ◌&&◌, nat_eq, not, Bool, true, false, if◌then◌else◌, List, [], ◌∷◌, ◌++◌}
use Rattle.world_laws.proofs.Prelude.{find, length, Option, Some, None, Ok, refl, sym, ap, ◌∙◌, subst, arith, inl, inr, ◌⊎◌}
use Rattle.world_laws.proofs.Prelude.{AllByRecursion, eqb-true, eqb-false, Change, Assignment, Handover, Channel, Place, SWITCH_LINK}
use Rattle.world_laws.proofs.Prelude.{WaitEstablish, Connection, is_at, is_dtap, undone, connection_of, Controller, place_at, place_of}
use Rattle.world_laws.proofs.Prelude.{RrMessage, AssignmentCommand, HandoverCommand, ChannelRelease, RrFault, Zero, after_lending}
use Rattle.world_laws.proofs.Prelude.{to_be_taken, MobileState, AreAllowed, Parameters, Event, AirMessage, OutboxEntry, Command, Seat}
use Rattle.world_laws.proofs.Prelude.{Asking, On, Gone, Tenure, actors_after, actors_after_all, brought, controlled, framed}
use Rattle.world_laws.proofs.Prelude.{hearing, remembering, signalling_brought, Actors, Link, Mobile, base_of, broken_link, has_number}
use Rattle.world_laws.proofs.Prelude.{is_reached, is_station_up, link_of, mobile_of, modulus_in, new_actors, put_back, spot_at, tenure_at}
use Rattle.world_laws.proofs.Prelude.{with_outbox, back_found, back_other, number_found, good_all, good_new, up_right, after_taken}
use Rattle.world_laws.proofs.Prelude.{air_up_leads, hearing-end, hearing-opens, same_Some, Result, rr_reading, controls_of, messages_in}
use Rattle.world_laws.proofs.Prelude.{coming_up, going_down, taken_in, taken_of, waiting_of, IsHad, IsElsewhere, LinedUp, Sits}
use Rattle.world_laws.proofs.Prelude.{sits_unchanged}
use Rattle.world_laws.proofs.Prelude.{sits_gone, AreLinedUp, LetsNoneGo, is_of_others, is_release, AreAssigned, Assigns, AssignsBy}
use Rattle.world_laws.proofs.Prelude.{AssignsIn, BeginsOnce, IsComing, IsNew, behind_first}
use Rattle.conn_rules.specs.Streams.{target_in}
use Rattle.world_laws.proofs.LineUp.Lines.{controls_append}
use Rattle.world_model.specs.declared.event.Event.TheVariants as events
use Rattle.world_model.specs.Life.{event_after}
use Rattle.world_laws.specs.Seated.Remembers.{nothing}
use Rattle.world_laws.proofs.AirUp.{Lent, all_other, frame_lent}
use Rattle.world_laws.proofs.Framing.{all_right}
use Rattle.world_laws.proofs.Quiet.{down_with_base}
use Rattle.world_laws.proofs.Spots.{set-same, tenure_with_base}
use Rattle.world_laws.proofs.ValidConnections.{connections_are_valid_new}
use Rattle.world_laws.proofs.Sublists.{Sub, sub_all, sub_length, sub_nothing}
use Rattle.world_laws.specs.Access.Arriving.{IsKnown, OthersKeepComing}
use Rattle.world_laws.specs.Access.Coming.{IsAccessing}
use Rattle.world_laws.specs.Access.Coming.BeginsOnce.{began, to_begin}
use Rattle.world_laws.specs.Access.Coming.IsAccessing.{arrived, asks}
use Rattle.world_laws.proofs.Access.Arriving.{none_target, serving_placed, remains_lined_up}
use Rattle.world_laws.proofs.Access.Beginning.{bare_of, begins_lined}
use Rattle.world_laws.proofs.Access.Behind.{GivesNoMore, controls_sub, gives_same, lent_first}
use Rattle.world_laws.proofs.Access.Mobiles.{AllGo, MobileDoes, IsAssigned, IsToMove, all_same, event_leads_all}
use Rattle.world_laws.proofs.Access.Mobiles.MobileDoes.{gets_channel as gets, hears, moves, same, unchanged}
use Rattle.world_laws.proofs.Access.Passes.{Passes, passes_itself}
use Rattle.world_laws.proofs.Access.Travels.{event_passes, is_passing}
use Rattle.world_laws.proofs.Access.Upcoming.{data_apart, data_first, data_later, data_none, data_pass, initials_apart, initials_later}
use Rattle.world_laws.proofs.Access.Upcoming.{initials_more, initials_none, initials_pass, none_passes}
use Rattle.world_laws.proofs.StationTakes.{waiting_taken}
use Rattle.world_laws.proofs.MobileEvents.{on_asks}

-- ---- seats

on_gone : {tenure : Tenure} {command : Option Command} → On tenure command ≡ Gone → ⊥
on_gone is = absurd cc

abbrev tenure_in : Seat → Tenure → Tenure
tenure_in (On tenure command) other = tenure
tenure_in _ other = other

-- where a connection has no target its mobile is on the serving channel, or was released
sits_there : {w : Actors} {serving : Channel} {seat : Seat} →
    Sits w serving None seat →
    (seat ≡ Gone → ⊥) →
    seat ≡ On (tenure_at w (place_of serving)) None
sits_there (sits_unchanged is nothing) there = ap (λ (t : Tenure). On t None) is
sits_there sits_gone there = absurd (there refl)

-- ---- what it hears

hearing_remains : (p : Mobile) (a : AirMessage) {tenure : Tenure} {command : Option Command} →
    p.seat ≡ On tenure command →
    LetsNoneGo a →
    (hearing p a).seat ≡ Gone →
    ⊥
hearing_remains p a {tenure} {command} seat kept = by_kind (is_dtap a.message) refl where
  own : p.seat ≡ Gone → ⊥
  own is = on_gone (sym seat ∙ is)

  by_seat : (change : Change) (target : Tenure) (x : Seat) → x ≡ On tenure command → (remembering p change target x).seat ≡ Gone → ⊥
  by_seat change target (On other remembered) there is = on_gone is
  by_seat change target _ there is = absurd cc

  by_message : (target : Option Tenure) (r : Result RrMessage RrFault) → is_release r ≡ false → (controlled p target r).seat ≡ Gone → ⊥
  by_message target (Ok (ChannelRelease cause)) none is = absurd cc
  by_message (Some target) (Ok (AssignmentCommand channel)) none is = by_seat Assignment target p.seat seat is
  by_message (Some target) (Ok (HandoverCommand cell channel reference)) none is = by_seat Handover target p.seat seat is
  by_message _ _ none is = own is

  by_kind : (b : Bool) →
      is_dtap a.message ≡ b →
      (if b then record p { received = p.received ++ a.message ∷ [] } else controlled p a.target (rr_reading a.message)).seat ≡ Gone →
      ⊥
  by_kind true dtap is = own is
  by_kind false other is = by_message a.target (rr_reading a.message) (kept other) is

-- ---- the mobile of a connection that is there

does_opens : {w v : Actors} {event : Event} {number : ℕ} {p q : Mobile} {tenure : Tenure} →
    p.seat ≡ On tenure None →
    MobileDoes w event v number p q →
    q.opens ≡ p.opens
does_opens seat (same is) = ap (λ (x : Mobile). x.opens) is
does_opens seat (unchanged there opens other gives) = opens
does_opens {p = p} seat (hears tenure command first others there air is) = ap (λ (x : Mobile). x.opens) is ∙ (hearing-opens p first)
does_opens seat (moves to_move opens) = absurd (subst IsToMove seat to_move)
does_opens seat (gets a) = absurd (on_asks (sym seat ∙ a.asked))

does_kept : {w v : Actors} {event : Event} {number : ℕ} {p q : Mobile} (at : Place) (tenure : Tenure) →
    tenure.at ≡ at →
    p.seat ≡ On tenure None →
    AllByRecursion LetsNoneGo (spot_at w at).air →
    MobileDoes w event v number p q →
    q.seat ≡ Gone →
    ⊥
does_kept at tenure at_is seat kept (same is) gone = on_gone (sym seat ∙ ap (λ (x : Mobile). x.seat) (sym is) ∙ gone)
does_kept at tenure at_is seat kept (unchanged there opens other gives) gone = on_gone (sym seat ∙ sym there ∙ gone)
does_kept {w} {p = p} at tenure at_is seat kept (hears other command first others there air is) gone =
    let one : other ≡ tenure = ap (λ (x : Seat). tenure_in x tenure) (sym there ∙ seat) in
    let in_air : (spot_at w at).air ≡ first ∷ others = ap (λ (x : Place). (spot_at w x).air) (sym at_is ∙ ap (λ (t : Tenure). t.at) (sym one)) ∙ air in
    hearing_remains p first there (subst (AllByRecursion LetsNoneGo) in_air kept).0 (ap (λ (x : Mobile). x.seat) (sym is) ∙ gone)
does_kept at tenure at_is seat kept (moves to_move opens) gone = absurd (subst IsToMove seat to_move)
does_kept at tenure at_is seat kept (gets a) gone = absurd (on_asks (sym seat ∙ a.asked))

does_gives : {w v : Actors} {event : Event} {number : ℕ} {p q : Mobile} {tenure : Tenure} →
    p.seat ≡ On tenure None →
    MobileDoes w event v number p q →
    GivesNoMore q.end.zero p.end.zero
does_gives seat (same is) = gives_same (ap (λ (x : Mobile). x.end.zero) is)
does_gives seat (unchanged there opens other gives) = gives
does_gives {p = p} seat (hears tenure command first others there air is) = gives_same (ap (λ (x : Mobile). x.end.zero) is ∙ ap (λ (e : MobileState). e.zero) (hearing-end p first))
does_gives seat (moves to_move opens) = absurd (subst IsToMove seat to_move)
does_gives seat (gets a) = absurd (on_asks (sym seat ∙ a.asked))

-- it is still to begin, or began
begins_passes : {w v : Actors} {p q : Mobile} (at : Place) →
    at.station ≢ SWITCH_LINK →
    q.opens ≡ p.opens →
    GivesNoMore q.end.zero p.end.zero →
    Passes w v →
    BeginsOnce w p at →
    BeginsOnce v q at
begins_passes at is same_opens gives passes (to_begin opens none behind) = to_begin (same_opens ∙ opens) (none_passes at is passes none) (let less = gives.behind in omega (arith, less, behind))
begins_passes at is same_opens gives passes (began opens few none) =
    began (same_opens ∙ opens) (let less = sub_length (initials_pass at is passes) in omega (arith, less, few))
    (let less = controls_sub (data_pass at is passes) in let whole = gives.whole in omega (arith, less, whole, none))

-- ---- the mobile is assigned its channel

assigned_to : {w v : Actors} {event : Event} {p q : Mobile} (mobile : ℕ) (s : Connection) →
    AreAssigned w mobile s →
    (a : IsAssigned w event v mobile p q) →
    (place_at a.station a.channel.channel.0 ≡ place_of s.serving) × (s.state ≡ WaitEstablish)
assigned_to mobile s assigned a =
    let entry : AssignsIn mobile s a.station a.first = (subst (AllByRecursion (AssignsIn mobile s a.station)) a.pending (assigned a.station)).0 in
    let reading : Assigns mobile s a.station (rr_reading a.command.information) = subst (AssignsBy mobile s a.station) a.reads entry in
    subst (Assigns mobile s a.station) a.says reading a.names

pub entries_pass : {w v : Actors} (mobile : ℕ) (s : Connection) → Passes w v → AreAssigned w mobile s → AreAssigned v mobile s
entries_pass mobile s passes assigned station = sub_all (AssignsIn mobile s station) (passes.entries station) (assigned station)

up_taken : (w : Actors) (station : ℕ) (others : List OutboxEntry) (n : ℕ) →
    is_station_up (with_outbox station others w) n ≡ is_station_up w n
up_taken w station others n = ap (λ (b : Bool). not (n == SWITCH_LINK) && b) (set-same (λ (link : Link). link.up) w.links broken_link station n (record (link_of w station) { outbox = others }) refl)

new_after : {m : ℕ} (p q : Mobile) (seat : Seat) → q ≡ record p { seat = seat } → IsNew m p → IsNew m q
new_after {m} p q seat is new = subst (IsNew m) (sym is) (record { opens = new.opens; carries_on = new.carries_on; no_control = new.no_control })

-- ---- each event

module _ (settings : Parameters) (done : List Event) (mobile : ℕ) (s : Connection) where
  abbrev world : Actors
  world = actors_after_all (new_actors settings) done

  abbrev modulus : ℕ
  modulus = modulus_in settings

  -- it arrives on the serving channel
  arrives : (event : Event) (v : Actors) (p q : Mobile) → AreAllowed settings → IsHad world s → IsKnown modulus world mobile s → AreAssigned world mobile s → Passes world v → IsAssigned world event v mobile p q → IsNew modulus p
      → messages_in (coming_up world (place_of s.serving)) ≡ [] → going_down world (place_of s.serving) ≡ [] → IsAccessing modulus v s q
  arrives event v p q allowed had known assigned passes a new none uncommanded =
      let own = assigned_to mobile s assigned a in
      let placed : s.serving.station ≢ SWITCH_LINK = serving_placed settings done s allowed had in
      let station : a.station ≡ s.serving.station = ap (λ (x : Place). x.station) own.0 in
      let station_is : a.station ≢ SWITCH_LINK = (up_right a.station world a.up).0 in
      let tenure : tenure_at v (place_of s.serving) ≡ tenure_at world (place_of s.serving) = ap (λ (x : Actors). tenure_at x (place_of s.serving)) a.leads in
      let seat : q.seat ≡ On (tenure_at v (place_of s.serving)) None = ap (λ (x : Mobile). x.seat) a.after ∙ ap (λ (x : Place). On (tenure_at world x) None) own.0 ∙ ap (λ (t : Tenure). On t None) (sym tenure) in
      let up : is_station_up v s.serving.station ≡ true = ap (λ (x : Actors). is_station_up x s.serving.station) a.leads ∙ up_taken world a.station a.others s.serving.station ∙ ap (is_station_up world) (sym station) ∙ a.up in
      let silent : messages_in (coming_up v (place_of s.serving)) ≡ [] = none_passes (place_of s.serving) placed passes none in
      let quiet : going_down v (place_of s.serving) ≡ [] = sub_nothing (subst (Sub (going_down v (place_of s.serving))) uncommanded (passes.downs s.serving placed)) in
      let unsaid : waiting_of v s.number ≡ [] = ap (λ (x : Actors). waiting_of x s.number) a.leads ∙ waiting_taken world a.station a.others s.number station_is ∙ known.none_waits in
      let untaken : taken_of v s.number ≡ [] = ap (λ (x : Actors). taken_of x s.number) a.leads ∙ ap taken_in known.none_taken in
      let fresh : IsNew modulus q = new_after p q (On (tenure_at world (place_at a.station a.channel.channel.0)) None) a.after new in
      arrived own.1 seat (begins_lined v q s own.1 (bare_of s own.1 (connections_are_valid_new settings done s.number s had.there)) placed seat fresh up silent quiet unsaid untaken) (to_begin fresh.opens silent fresh.no_control)

  asks_does : (event : Event) (v : Actors) (p q : Mobile) → AreAllowed settings → IsHad world s → IsKnown modulus world mobile s → AreAssigned world mobile s → Passes world v → MobileDoes world event v mobile p q → p.seat ≡ Asking → IsNew modulus p
      → messages_in (coming_up world (place_of s.serving)) ≡ [] → going_down world (place_of s.serving) ≡ [] → IsAccessing modulus v s q
  asks_does event v p q allowed had known assigned passes (same is) seat new none uncommanded =
      let placed : s.serving.station ≢ SWITCH_LINK = serving_placed settings done s allowed had in
      asks (ap (λ (x : Mobile). x.seat) is ∙ seat) (subst (IsNew modulus) (sym is) new) (none_passes (place_of s.serving) placed passes none) (sub_nothing (subst (Sub (going_down v (place_of s.serving))) uncommanded (passes.downs s.serving placed)))
  asks_does event v p q allowed had known assigned passes (unchanged there opens other gives) seat new none uncommanded = absurd
      (other seat)
  asks_does event v p q allowed had known assigned passes (hears tenure command first others there air is) seat new none uncommanded = absurd (on_asks (sym there ∙ seat))
  asks_does event v p q allowed had known assigned passes (moves to_move opens) seat new none uncommanded = absurd (subst IsToMove seat to_move)
  asks_does event v p q allowed had known assigned passes (gets a) seat new none uncommanded = arrives event v p q allowed had known assigned passes a new none uncommanded

  -- on its channel
  there_does : (event : Event) (v : Actors) (p q : Mobile) → AreAllowed settings → IsHad world s → IsKnown modulus world mobile s → Passes world v → MobileDoes world event v mobile p q → mobile_of v mobile ≡ Some q → AreLinedUp modulus v mobile s → s.state ≡ WaitEstablish
      → p.seat ≡ On (tenure_at world (place_of s.serving)) None → BeginsOnce world p (place_of s.serving) → IsAccessing modulus v s q
  there_does event v p q allowed had known passes claim found lined state seat begins =
      let placed : s.serving.station ≢ SWITCH_LINK = serving_placed settings done s allowed had in
      let own : LinedUp modulus v q s = subst (λ (x : Mobile). LinedUp modulus v x s) (same_Some _ _ (sym lined.found ∙ found)) lined.lined in
      let sits : Sits v s.serving None q.seat = subst (λ (o : Option _). Sits v s.serving o q.seat) (none_target s.state state) own.sits in
      arrived state (sits_there sits (does_kept (place_of s.serving) (tenure_at world (place_of s.serving)) refl seat known.kept claim)) own (begins_passes (place_of s.serving) placed (does_opens seat claim) (does_gives seat claim) passes begins)

  passing_comes : (event : Event) (v : Actors) (p q : Mobile) → AreAllowed settings → IsHad world s → IsKnown modulus world mobile s → AreAssigned world mobile s → Passes world v → MobileDoes world event v mobile p q → mobile_of v mobile ≡ Some q
      → (s.state ≡ WaitEstablish → AreLinedUp modulus world mobile s → AreLinedUp modulus v mobile s) → mobile_of world mobile ≡ Some p → IsAccessing modulus world s p → IsAccessing modulus v s q
  passing_comes event v p q allowed had known assigned passes claim found remains_lined there (asks seat new none uncommanded) = asks_does event v p q allowed had known assigned passes claim seat new none uncommanded
  passing_comes event v p q allowed had known assigned passes claim found remains_lined there (arrived state seat lined begins) =
      there_does event v p q allowed had known passes claim found (remains_lined state (record { one = p; found = there; lined = lined })) state seat begins

  pub keeps_passing : (event : Event) →
      is_passing event ≡ true →
      is_of_others event ≡ true →
      AreAllowed settings →
      IsKnown modulus world mobile s →
      IsComing modulus world mobile s →
      IsComing modulus (actors_after world event) mobile s
  keeps_passing event passing of_others allowed known coming =
      let v : Actors = actors_after world event in
      let passes : Passes world v = after_taken (Passes world) (event_after world event) world (event_passes world event passing (good_all (new_actors settings) done (good_new settings))) (passes_itself world) in
      let all : AllGo world event v = after_taken (AllGo world event) (event_after world event) world (event_leads_all world event passing) (all_same world event world refl) in
      let one = all.each mobile coming.one coming.found in
      record {
        had = record { there = ap (λ (c : Controller). connection_of c s.number) passes.controller ∙ coming.had.there; is_open = coming.had.is_open; from_one = coming.had.from_one };
        early = coming.early;
        asked = coming.asked;
        one = one.0;
        found = one.1;
        accessing = passing_comes event v coming.one one.0 allowed coming.had known coming.assigned passes one.2 one.1 (λ state lined. remains_lined_up settings done mobile s event of_others state allowed coming.had known lined) coming.found coming.accessing;
        assigned = entries_pass mobile s passes coming.assigned;
      }

  -- ---- a frame of SAPI 0

  sent_elsewhere : (p : Mobile) (tenure : Tenure) (frame : List ℕ) (one : Mobile) → AreAllowed settings → IsHad world s → is_reached world tenure ≡ true → is_at tenure.at s.serving ≡ false → mobile_of (brought world p tenure.at Zero frame) mobile ≡ Some one
      → (AreLinedUp modulus (brought world p tenure.at Zero frame) mobile s) ⊎ (one.seat ≡ Asking) → IsAccessing modulus world s one → IsAccessing modulus (brought world p tenure.at Zero frame) s one
  sent_elsewhere p tenure frame one allowed had reached apart found either accessing = by either accessing where
    v : Actors
    v = brought world p tenure.at Zero frame

    placed : s.serving.station ≢ SWITCH_LINK
    placed = serving_placed settings done s allowed had

    on_way_up : coming_up v (place_of s.serving) ≡ coming_up world (place_of s.serving)
    on_way_up = (all_other world p tenure frame (s.serving ∷ []) reached (placed, tt) (apart, tt)).0

    down : going_down v (place_of s.serving) ≡ going_down world (place_of s.serving)
    down = down_with_base world tenure.at.station (signalling_brought (base_of world tenure.at.station) tenure.at.number p.opens frame) (place_of s.serving)

    here : tenure_at v (place_of s.serving) ≡ tenure_at world (place_of s.serving)
    here = tenure_with_base world tenure.at.station (signalling_brought (base_of world tenure.at.station) tenure.at.number p.opens frame) (place_of s.serving)

    begins : BeginsOnce world one (place_of s.serving) → BeginsOnce v one (place_of s.serving)
    begins (to_begin opens none behind) = to_begin opens (ap messages_in on_way_up ∙ none) behind
    begins (began opens few none) =
        began opens (let less = sub_length (initials_apart world p tenure frame s.serving reached placed apart) in omega (arith, less, few))
        (let less = controls_sub (data_apart world p tenure frame s.serving reached placed apart) in omega (arith, less, none))

    by : (AreLinedUp modulus v mobile s) ⊎ (one.seat ≡ Asking) → IsAccessing modulus world s one → IsAccessing modulus v s one
    by either (asks seat new none uncommanded) = asks seat new (ap messages_in on_way_up ∙ none) (down ∙ uncommanded)
    by (inr asking) (arrived state seat lined once) = absurd (on_asks (sym seat ∙ asking))
    by (inl lined2) (arrived state seat lined once) =
        arrived state (seat ∙ ap (λ (t : Tenure). On t None) (sym here)) (subst (λ (x : Mobile). LinedUp modulus v x s) (same_Some _ _ (sym lined2.found ∙ found)) lined2.lined) (begins once)

  sent_there : (tenure : Tenure) (command : Option Command) (frame : List ℕ) (one : Mobile) → one.seat ≡ On tenure command → Lent one.end frame → mobile_of (brought world one tenure.at Zero frame) mobile ≡ Some (record (framed one Zero) { opens = false })
      → AreLinedUp modulus (brought world one tenure.at Zero frame) mobile s → IsAccessing modulus world s one → IsAccessing modulus (brought world one tenure.at Zero frame) s (record (framed one Zero) { opens = false })
  sent_there tenure command frame one sits lent found lined2 (asks seat new none uncommanded) = absurd (on_asks (sym sits ∙ seat))
  sent_there tenure command frame one sits lent found lined2 (arrived state seat lined once) =
      arrived state
      (seat ∙ ap (λ (t : Tenure). On t None) (sym (tenure_with_base world tenure.at.station (signalling_brought (base_of world tenure.at.station) tenure.at.number one.opens frame) (place_of s.serving))))
      (subst (λ (x : Mobile). LinedUp modulus v x s) (same_Some _ _ (sym lined2.found ∙ found)) lined2.lined) (begins once) where
        v : Actors
        v = brought world one tenure.at Zero frame

        taken : to_be_taken one.end.zero ≡ frame ∷ to_be_taken (after_lending one.end.zero)
        taken = lent_first one.end.zero frame lent.lent

        left : to_be_taken (framed one Zero).end.zero ≡ to_be_taken (after_lending one.end.zero)
        left = ap (λ (e : MobileState). to_be_taken e.zero) lent.after

        begins : BeginsOnce world one (place_of s.serving) → BeginsOnce v (record (framed one Zero) { opens = false }) (place_of s.serving)
        begins (to_begin opens none behind) =
            began refl (let more = initials_more world one tenure frame (place_of s.serving) in let nothing_yet = ap length (initials_none world (place_of s.serving) none) in omega (arith, more, nothing_yet))
            (let less = controls_sub (data_first world one tenure frame (place_of s.serving) opens) in let nothing_yet = ap controls_of (data_none world (place_of s.serving) none) in let counts = ap controls_of left in let first = ap (λ (xs : List (List ℕ)). controls_of (behind_first xs)) taken in
            omega (arith, less, nothing_yet, counts, first, behind))
        begins (began opens few none) =
            began refl (let less = sub_length (initials_later world one tenure frame (place_of s.serving) opens) in omega (arith, less, few))
            (let less = data_later world one tenure frame (place_of s.serving) in let counts = ap controls_of left in let all = ap controls_of taken in
            let sum : controls_of (frame ∷ to_be_taken (after_lending one.end.zero)) ≡ controls_of (frame ∷ []) + controls_of (to_be_taken (after_lending one.end.zero)) = controls_append (frame ∷ []) (to_be_taken (after_lending one.end.zero)) in
            omega (arith, less, counts, all, sum, none))

  or_asks : (v : Actors) (one : Mobile) →
      mobile_of world mobile ≡ Some one →
      (s.state ≡ WaitEstablish → AreLinedUp modulus world mobile s → AreLinedUp modulus v mobile s) →
      IsAccessing modulus world s one →
      (AreLinedUp modulus v mobile s) ⊎ (one.seat ≡ Asking)
  or_asks v one found remains_lined (asks seat new none uncommanded) = inr seat
  or_asks v one found remains_lined (arrived state seat lined once) = inl (remains_lined state (record { one = one; found = found; lined = lined }))

  -- the station takes the frame of a mobile
  sent_comes : (number : ℕ) (p : Mobile) (tenure : Tenure) (command : Option Command) (frame : List ℕ) → mobile_of world number ≡ Some p → p.seat ≡ On tenure command → Lent p.end frame → is_reached world tenure ≡ true → AreAllowed settings → IsKnown modulus world mobile s → IsComing modulus world mobile s
      → (s.state ≡ WaitEstablish → AreLinedUp modulus world mobile s → AreLinedUp modulus (brought world p tenure.at Zero frame) mobile s) → IsComing modulus (brought world p tenure.at Zero frame) mobile s
  sent_comes number p tenure command frame acts sits lent reached allowed known coming remains_lined = by_number (nat_eq number mobile) refl where
    v : Actors
    v = brought world p tenure.at Zero frame

    q : Mobile
    q = record (framed p Zero) { opens = false }

    rest : (one : Mobile) → mobile_of v mobile ≡ Some one → IsAccessing modulus v s one → IsComing modulus v mobile s
    rest one found accessing = record { had = record { there = coming.had.there; is_open = coming.had.is_open; from_one = coming.had.from_one }; early = coming.early; asked = coming.asked; one = one; found = found; accessing = accessing; assigned = λ station. coming.assigned station }

    q_number : q.number ≡ number
    q_number = number_found number world.mobiles p acts

    own_comes : mobile_of v mobile ≡ Some q →
        IsAccessing modulus world s p →
        (AreLinedUp modulus v mobile s) ⊎ (p.seat ≡ Asking) →
        IsAccessing modulus v s q
    own_comes found accessing (inl lined) = sent_there tenure command frame p sits lent found lined accessing
    own_comes found accessing (inr asking) = absurd (on_asks (sym sits ∙ asking))

    by_number : (b : Bool) → nat_eq number mobile ≡ b → IsComing modulus v mobile s
    by_number true hit =
        let is : number ≡ mobile = eqb-true number mobile hit in
        let p_is : p ≡ coming.one = same_Some _ _ (sym acts ∙ ap (mobile_of world) is ∙ coming.found) in
        let found : mobile_of v mobile ≡ Some q = ap (λ (n : ℕ). find (has_number n) (put_back q world.mobiles)) (sym is ∙ sym q_number) ∙ back_found q world.mobiles p (ap (λ (n : ℕ). find (has_number n) world.mobiles) q_number ∙ acts) in
        let accessing : IsAccessing modulus world s p = subst (IsAccessing modulus world s) (sym p_is) coming.accessing in
        rest q found (own_comes found accessing (or_asks v p (ap (mobile_of world) (sym is) ∙ acts) remains_lined accessing))
    by_number false miss =
        let differs : number ≢ mobile = eqb-false number mobile miss in
        let found : mobile_of v mobile ≡ Some coming.one = back_other q world.mobiles mobile (λ is. differs (sym q_number ∙ is)) ∙ coming.found in
        let elsewhere : IsElsewhere (s.serving ∷ target_in s.state) tenure.at = all_right (λ c. is_at tenure.at c ≡ false) (undone s.draining) (s.serving ∷ target_in s.state) (known.alone number p tenure command differs acts sits reached) in
        rest coming.one found (sent_elsewhere p tenure frame coming.one allowed coming.had reached elsewhere.0 found (or_asks v coming.one coming.found remains_lined coming.accessing) coming.accessing)

  pub keeps_sent : (number : ℕ) →
      AreAllowed settings →
      IsKnown modulus world mobile s →
      IsComing modulus world mobile s →
      IsComing modulus (actors_after world (events.AirUp number Zero)) mobile s
  unfolding event_after
  keeps_sent number allowed known coming =
      let event : Event = events.AirUp number Zero in
      let P : Actors → Type 0 = λ v. (s.state ≡ WaitEstablish → AreLinedUp modulus world mobile s → AreLinedUp modulus v mobile s) → IsComing modulus v mobile s in
      after_taken P (event_after world event) world (air_up_leads P world number Zero (λ p tenure command frame acts sits lent reached. sent_comes number p tenure command frame acts sits (frame_lent p.end frame lent) reached allowed known coming)) (λ _. coming)
      (λ state lined. remains_lined_up settings done mobile s event refl state allowed coming.had known lined)

pub others_keep_coming_new : (settings : Parameters) (done : List Event) (event : Event) → OthersKeepComing settings done event
others_keep_coming_new settings done (events.AirUp number Zero) mobile s of_others allowed known coming = keeps_sent settings done mobile s number allowed known coming
others_keep_coming_new settings done events.Handle mobile s of_others allowed known coming = absurd cc
others_keep_coming_new settings done (events.Tick ms) mobile s of_others allowed known coming = absurd cc
others_keep_coming_new settings done event mobile s of_others allowed known coming = keeps_passing settings done mobile s event refl refl allowed known coming
