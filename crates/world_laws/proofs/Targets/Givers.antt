-- SPDX-License-Identifier: MIT OR Apache-2.0
-- What the connection's mobile gives first on the target, at each event in which the controller
-- does nothing.
use Rattle.world_laws.proofs.Prelude.{◌≡◌, ◌≢◌, ℕ, ◌%◌, nat_eq, Bool, true, false, if◌then◌else◌, find, List, [], ◌∷◌, ◌++◌, length}
use Rattle.world_laws.proofs.Prelude.{unwrap_or, option_to_list, Option, Some, Ok, refl, sym, ap, ◌∙◌, subst, append_assoc, inl, inr}
use Rattle.world_laws.proofs.Prelude.{cases_Bool, eqb-false, eqb-true, Change, Assignment, Handover, Channel, Place, Target, is_dtap}
use Rattle.world_laws.proofs.Prelude.{place_of, RrMessage, AssignmentCommand, HandoverCommand, ChannelRelease, RrFault, Sapi, Zero, Three}
use Rattle.world_laws.proofs.Prelude.{is_flow_message, with_number, Empty, Reached, MobilePlace, lent_message, to_be_taken, waits}
use Rattle.world_laws.proofs.Prelude.{DataLinkState, after_acked, after_acked_at, after_number, after_queue, MobileState, Event, AirMessage}
use Rattle.world_laws.proofs.Prelude.{Command, Seat, Asking, On, Moving, Tenure, actors_after, first_in, complete, connected, controlled}
use Rattle.world_laws.proofs.Prelude.{hearing, remembering, Actors, Mobile, has_number, mobile_of, put_back, back_found, back_other}
use Rattle.world_laws.proofs.Prelude.{number_found, Becomes, became_number, event-keeps, hearing-end, same_Some, found_front, Result}
use Rattle.world_laws.proofs.Prelude.{rr_reading, after_load_from, Sits, between, IsOnPlace}
use Rattle.link_model.specs.declared.air_link.Air.{Air}
use Rattle.link_model.specs.AirLink.{after_ack, offered_message}
use Rattle.mobile_end.specs.declared.mobile_end.Place.TheVariants as places
use Rattle.mobile_end.specs.Mobile.{link_of, with_link}
use Rattle.world_laws.specs.Seated.{command_to}
use Rattle.world_laws.proofs.Targets.Comings.{is_frame}
use Rattle.world_model.proofs.Footprints.Becomes.{arrives, hears, is_acked, leaves, misses, queues, returns, sits as is_seated}

-- on this place it gives this message first
abbrev pub Gives : List ℕ → Place → Mobile → Type 0
Gives text at p = IsOnPlace p.seat at → first_in (to_be_taken p.end.zero) ≡ Some text

-- ---- its data link

first_behind : {X : Type 0} (xs ys : List X) (x : X) → first_in xs ≡ Some x → first_in (xs ++ ys) ≡ Some x
first_behind [] ys x is = absurd cc
first_behind (y ∷ xs) ys x is = is

waiting_first : (link : DataLinkState) (message text : List ℕ) →
    first_in (to_be_taken link) ≡ Some text →
    first_in (to_be_taken (waits link message)) ≡ Some text
waiting_first link message text is =
    ap first_in (sym (append_assoc (option_to_list (offered_message link.air)) link.waiting (message ∷ []))) ∙ first_behind (to_be_taken link) (message ∷ []) text is

queued_first : (e : MobileState) (sapi : Sapi) (message text : List ℕ) →
    first_in (to_be_taken e.zero) ≡ Some text →
    first_in (to_be_taken (after_queue e sapi message).zero) ≡ Some text
queued_first e sapi message text is = by (is_flow_message message) sapi where
  by : (b : Bool) (sapi : Sapi) →
      first_in (to_be_taken (if b then after_number e message else with_link e sapi (waits (link_of e sapi) message)).zero) ≡ Some text
  by true sapi = waiting_first e.zero (with_number (length e.sent % e.modulus) message) text is
  by false Zero = waiting_first e.zero message text is
  by false Three = is

acked_first : (e : MobileState) (sapi : Sapi) (text : List ℕ) →
    first_in (to_be_taken e.zero) ≡ Some text →
    first_in (to_be_taken (after_acked e sapi).zero) ≡ Some text
acked_first e sapi text is = by e.place sapi where
  air : (a : Air) → e.zero.air ≡ a → first_in (option_to_list (offered_message (after_ack a)) ++ e.zero.waiting) ≡ Some text
  air Empty same = ap (λ (x : Air). first_in (option_to_list (offered_message x) ++ e.zero.waiting)) (sym same) ∙ is
  air _ same = ap (λ (x : Air). first_in (option_to_list (offered_message x) ++ e.zero.waiting)) (sym same) ∙ is

  by : (place : MobilePlace) (sapi : Sapi) → first_in (to_be_taken (after_acked_at place e sapi).zero) ≡ Some text
  by places.OnChannel Zero = air e.zero.air refl
  by _ _ = is

-- the station takes what is first
pub lent_first : (link : DataLinkState) (frame text : List ℕ) →
    lent_message link ≡ Some frame →
    first_in (to_be_taken link) ≡ Some text →
    frame ≡ text
lent_first link frame text lent first = by link.waiting link.air lent first where
  by : (waiting : List (List ℕ)) (air : Air) →
      offered_message (after_load_from waiting air).air ≡ Some frame →
      first_in (option_to_list (offered_message air) ++ waiting) ≡ Some text →
      frame ≡ text
  by [] Empty a b = absurd cc
  by [] (Reached message) a b = absurd cc
  by (x ∷ xs) (Reached message) a b = absurd cc
  by _ _ a b = same (sym a ∙ b) where
    same : {c d : List ℕ} → Some c ≡ Some d → c ≡ d
    same {c} e = ap (λ (o : Option (List ℕ)). unwrap_or o c) e

-- ---- what it hears

-- it remains on its channel, or leaves it
hearing_on : (p : Mobile) (a : AirMessage) (at : Place) → IsOnPlace (hearing p a).seat at → IsOnPlace p.seat at
hearing_on p a at = by_kind (is_dtap a.message) where
  by_seat : (change : Change) (target : Tenure) (seat : Seat) →
      p.seat ≡ seat →
      IsOnPlace (remembering p change target seat).seat at →
      IsOnPlace seat at
  by_seat change target (On tenure command) is on = on
  by_seat change target _ is on = subst (λ (x : Seat). IsOnPlace x at) is on

  by_message : (target : Option Tenure) (r : Result RrMessage RrFault) → IsOnPlace (controlled p target r).seat at → IsOnPlace p.seat at
  by_message target (Ok (ChannelRelease cause)) on = absurd on
  by_message (Some target) (Ok (AssignmentCommand channel)) on = by_seat Assignment target p.seat refl on
  by_message (Some target) (Ok (HandoverCommand cell channel reference)) on = by_seat Handover target p.seat refl on
  by_message _ _ on = on

  by_kind : (b : Bool) →
      IsOnPlace (if b then record p { received = p.received ++ a.message ∷ [] } else controlled p a.target (rr_reading a.message)).seat at →
      IsOnPlace p.seat at
  by_kind true on = on
  by_kind false on = by_message a.target (rr_reading a.message) on

-- ---- a mobile changes

module _ (w : Actors) (mobile : ℕ) (p : Mobile) (text : List ℕ) (at : Place) (found : mobile_of w mobile ≡ Some p) (gives : Gives text at p) where
  -- the connection's mobile still gives it first
  abbrev StillIn : List Mobile → Type 0
  StillIn ms = (q : Mobile) → find (has_number mobile) ms ≡ Some q → Gives text at q

  abbrev Still : Actors → Type 0
  Still v = StillIn v.mobiles

  still_same : (ms : List Mobile) → ms ≡ w.mobiles → StillIn ms
  still_same ms same q is = subst (Gives text at) (same_Some _ _ (sym found ∙ ap (find (has_number mobile)) (sym same) ∙ is)) gives

  pub still_put : (ms : List Mobile) (number : ℕ) (before after : Mobile) →
      mobile_of w number ≡ Some before →
      after.number ≡ before.number →
      ms ≡ w.mobiles →
      (before ≡ p → Gives text at after) →
      StillIn (put_back after ms)
  still_put ms number before after acts same mobiles h q is = elim (cases_Bool (nat_eq number mobile)) [
    | inl hit ↦
        let one : number ≡ mobile = eqb-true number mobile hit in
        let own : before ≡ p = same_Some _ _ (sym acts ∙ ap (mobile_of w) one ∙ found) in
        let named : after.number ≡ mobile = same ∙ number_found number w.mobiles before acts ∙ one in
        let there : find (has_number mobile) (put_back after ms) ≡ Some after =
        ap (λ (n : ℕ). find (has_number n) (put_back after ms)) (sym named)
        ∙ back_found after ms p (ap (find (has_number after.number)) mobiles ∙ ap (λ (n : ℕ). find (has_number n) w.mobiles) named ∙ found) in
        subst (Gives text at) (same_Some _ _ (sym there ∙ is)) (h own)
    | inr miss ↦
        let there : find (has_number mobile) (put_back after ms) ≡ Some p =
        back_other after ms mobile (λ named. eqb-false number mobile miss (sym (same ∙ number_found number w.mobiles before acts) ∙ named))
        ∙ ap (find (has_number mobile)) mobiles ∙ found in
        subst (Gives text at) (same_Some _ _ (sym there ∙ is)) gives
  ]

  module _ (serving : Channel) (t : Target) (text_is : text ≡ complete t.change) (at_is : at ≡ place_of t.channel) (apart : place_of serving ≢ at) (sits : Sits w serving (Some t) p.seat) where
    no_asking : p.seat ≡ Asking → ⊥
    no_asking is = by p.seat is sits where
      by : (seat : Seat) → seat ≡ Asking → Sits w serving (Some t) seat → ⊥
      by Asking same sat = elim sat [ ]
      by _ same sat = absurd cc

    -- between the channels it is commanded to the target, and is from the serving one
    moves : (from : Tenure) (command : Command) → p.seat ≡ Moving from command → (command ≡ command_to w t) × (from.at ≡ place_of serving)
    moves from command is = by p.seat is sits where
      by : (seat : Seat) →
          seat ≡ Moving from command →
          Sits w serving (Some t) seat →
          (command ≡ command_to w t) × (from.at ≡ place_of serving)
      by (Moving here other) same (between a b) = (
        sym (ap (λ (x : Seat). command_in x other) same) ∙ b,
        ap (λ (x : Tenure). x.at) (sym (ap (λ (x : Seat). from_in x here) same) ∙ a),
      ) where
        command_in : Seat → Command → Command
        command_in (Moving f c) d = c
        command_in seat d = d

        from_in : Seat → Tenure → Tenure
        from_in (Moving f c) d = f
        from_in seat d = d
      by _ same sat = absurd cc

    still_gives : {number : ℕ} {event : Event} {x q : Mobile} →
        x ≡ p →
        is_frame event ≡ false →
        Becomes w number event x q →
        Gives text at q
    still_gives own b (queues sapi message x may) = λ on. queued_first x.end sapi message text (subst (Gives text at) (sym own) gives on)
    still_gives own b (is_acked sapi x) = λ on. acked_first x.end sapi text (subst (Gives text at) (sym own) gives on)
    still_gives own b (hears x tenure command first others seat reached pending) = λ on.
        ap (λ (e : MobileState). first_in (to_be_taken e.zero)) (hearing-end x first) ∙ subst (Gives text at) (sym own) gives (hearing_on x first at on)
    still_gives own b (misses x) = subst (Gives text at) (sym own) gives
    still_gives own b (leaves x tenure command seat reached) = λ on. absurd on
    still_gives own b (arrives x from command seat reached) = λ on.
        ap (λ (c : Command). Some (complete c.change)) (moves from command (ap (λ (y : Mobile). y.seat) (sym own) ∙ seat)).0 ∙ ap Some (sym text_is)
    still_gives own b (returns x from command seat reached) = λ on.
        absurd (apart (sym (moves from command (ap (λ (y : Mobile). y.seat) (sym own) ∙ seat)).1 ∙ on))
    still_gives own b (is_seated station x channel asks) = λ on. absurd (no_asking (ap (λ (y : Mobile). y.seat) (sym own) ∙ asks))
    still_gives own b _ = absurd cc

    pub gives_step : (event : Event) → is_frame event ≡ false → Still (actors_after w event)
    gives_step event b = event-keeps Still w event (record {
      puts = λ u number x q acts mobiles how _. still_put u.mobiles number x q acts (became_number how) mobiles (λ own. still_gives own b how);
      joins = λ number initial accepts _ _ q is.
          subst (Gives text at) (same_Some _ _ (sym (found_front mobile p w.mobiles (connected w.modulus number initial accepts ∷ []) found) ∙ is)) gives;
      tells = λ u n message _ _ so. so;
      spots = λ u here spot _ _ so. so;
      pops = λ station others _ so. so;
      activates = λ u s a _ _ so. so;
      releases = λ u s channel _ so. so;
    }) (record {
      rest = λ u inbox controller switch made links so. so;
      next = λ source message _ so. so;
      down = λ source _ _ so. so;
    }) (still_same w.mobiles refl)
