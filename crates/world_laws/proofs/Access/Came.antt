-- SPDX-License-Identifier: MIT OR Apache-2.0
-- What becomes of a connection that is coming when the controller takes a step.
use Rattle.world_laws.proofs.Prelude.{◌≡◌, ◌≢◌, ℕ, ◌+◌, ◌≤◌, ◌&&◌, nat_eq, not, Bool, true, List, [], ◌∷◌, ◌++◌, find, length, Option, Some}
use Rattle.world_laws.proofs.Prelude.{None, refl, sym, ap, ◌∙◌, subst, append_assoc, arith, AllByRecursion, flat_map, eq-eqb}
use Rattle.world_laws.proofs.Prelude.{Place, SWITCH_LINK, WaitActivation, WaitEstablish, WaitConfirm, Connection, enter, is_at, IsOpen}
use Rattle.world_laws.proofs.Prelude.{IsAged, connection_of, aged_holds, Controller, Turn, place_of, to_be_taken, RelayItem, Parameters}
use Rattle.world_laws.proofs.Prelude.{Event, AirMessage, On, Tenure, actors_after_all, with_turn, Actors, Mobile, base_of, has_number}
use Rattle.world_laws.proofs.Prelude.{is_station_up, mobile_of, modulus_in, new_actors, tenure_at, turn_leads, same_Some, Alive}
use Rattle.world_laws.proofs.Prelude.{controls_in, controls_of, flow, fresh, messages_in, on_serving, messages_up, read_of, brings_in}
use Rattle.world_laws.proofs.Prelude.{coming_up, made_of, going_down, assembled, line_up, taken_of, waiting_of, initial_by, initials_up}
use Rattle.world_laws.proofs.Prelude.{Leads, LinedUp, sits_unchanged, AreLinedUp, AreAssigned, BeginsOnce, IsComing, data_by, data_up, HasAccess}
use Rattle.world_laws.proofs.Prelude.{still_comes, IsEarlyIn}
use Rattle.conn_rules.specs.Timers.{after_pass}
use Rattle.world_laws.specs.LineUp.Places.Item.{brought}
use Rattle.world_laws.proofs.LineUp.Lines.{messages_in-append}
use Rattle.world_laws.specs.Seated.Remembers.{nothing}
use Rattle.world_laws.proofs.Others.{turn_mobiles}
use Rattle.world_laws.proofs.OwnTurn.{turn_stations}
use Rattle.world_laws.proofs.Sublists.{Sub, sub_append, sub_behind, sub_flat_map, sub_itself, sub_length, sub_nothing}
use Rattle.world_laws.specs.Access.Coming.{IsAccessing}
use Rattle.world_laws.specs.Access.Coming.BeginsOnce.{began, to_begin}
use Rattle.world_laws.specs.Access.Coming.IsAccessing.{arrived, asks}
use Rattle.world_laws.proofs.Access.Arriving.{none_target}
use Rattle.world_laws.proofs.Access.Beginning.{IsBareOf}
use Rattle.world_laws.proofs.Access.Behind.{controls_sub}
use Rattle.world_laws.proofs.Access.Requesting.{of_items, requests_alive}

-- ---- time changes nothing of it

pub record IsLike (s x : Connection) : Type 0 where
  pub number : x.number ≡ s.number
  pub state : x.state ≡ s.state
  pub request : x.request ≡ s.request
  pub serving : x.serving ≡ s.serving

pub aged_like : (s x : Connection) → IsAged s x → IsLike s x
aged_like s x aged = aged_holds (λ (y : Connection). IsLike s y) (λ ms y like. record { number = like.number; state = like.state; request = like.request; serving = like.serving }) s x aged (record { number = refl; state = refl; request = refl; serving = refl })

passes_lined : {m : ℕ} {v : Actors} {one : Mobile} (ms : ℕ) (x : Connection) → LinedUp m v one x → LinedUp m v one (after_pass ms x)
passes_lined ms x lined = record { alive = lined.alive; sits = lined.sits; led = lined.led; none_on_target = lined.none_on_target; apart = lined.apart; placed = lined.placed }

passes_comes : {m : ℕ} {v : Actors} {one : Mobile} (ms : ℕ) (x : Connection) → IsAccessing m v x one → IsAccessing m v (after_pass ms x) one
passes_comes ms x (asks seat new none uncommanded) = asks seat new none uncommanded
passes_comes ms x (arrived state seat lined begun) = arrived state seat (passes_lined ms x lined) begun

aged_comes : {m : ℕ} {v : Actors} {one : Mobile} (s x : Connection) → IsAged s x → IsAccessing m v s one → IsAccessing m v x one
aged_comes {m} {v} {one} s x aged accessing = aged_holds (λ (y : Connection). IsAccessing m v y one) (λ ms y c. passes_comes ms y c) s x aged accessing

aged_assigned : (v : Actors) (mobile : ℕ) (s x : Connection) → IsAged s x → AreAssigned v mobile s → AreAssigned v mobile x
aged_assigned v mobile s x aged assigned = aged_holds (λ (y : Connection). AreAssigned v mobile y) (λ ms y a. a) s x aged assigned

-- ---- no command is on its way down where the mobile has none

none_led : (w : Actors) (xs : List AirMessage) → AllByRecursion (λ a. Leads w a None) xs → xs ≡ []
none_led w [] all = refl
none_led w (a ∷ xs) all = absurd (elim all.0 [ ])

module _ (settings : Parameters) (done : List Event) (mobile : ℕ) (s : Connection) where
  abbrev world : Actors
  world = actors_after_all (new_actors settings) done

  abbrev modulus : ℕ
  modulus = modulus_in settings

  abbrev at : Place
  at = place_of s.serving

  -- ---- the world after a turn

  abbrev pub before : List RelayItem → Actors
  before items = record world { inbox = items }

  abbrev pub turned : Option Tenure → Turn → List RelayItem → Actors
  turned target t items = with_turn target t (before items)

  pub v_controller : (target : Option Tenure) (t : Turn) (items : List RelayItem) → (turned target t items).controller ≡ t.next
  v_controller target t items = turn_leads (λ v. v.controller ≡ t.next) target t (before items) (λ links. refl)

  pub v_mobile : (target : Option Tenure) (t : Turn) (items : List RelayItem) (k : ℕ) →
      mobile_of (turned target t items) k ≡ mobile_of world k
  v_mobile target t items k = ap (λ (ms : List Mobile). find (has_number k) ms) (turn_mobiles target t.outs (record (before items) { controller = t.next }))

  pub v_coming : (target : Option Tenure) (t : Turn) (items : List RelayItem) (p : Place) →
      coming_up (turned target t items) p ≡ coming_up (before items) p
  v_coming target t items p = turn_leads (λ v. coming_up v p ≡ coming_up (before items) p) target t (before items) (λ links. refl)

  pub v_initials : (target : Option Tenure) (t : Turn) (items : List RelayItem) (p : Place) →
      initials_up (turned target t items) p ≡ initials_up (before items) p
  v_initials target t items p = turn_leads (λ v. initials_up v p ≡ initials_up (before items) p) target t (before items) (λ links. refl)

  pub v_data : (target : Option Tenure) (t : Turn) (items : List RelayItem) (p : Place) →
      data_up (turned target t items) p ≡ data_up (before items) p
  v_data target t items p = turn_leads (λ v. data_up v p ≡ data_up (before items) p) target t (before items) (λ links. refl)

  pub v_tenure : (target : Option Tenure) (t : Turn) (items : List RelayItem) (p : Place) →
      tenure_at (turned target t items) p ≡ tenure_at world p
  v_tenure target t items p = turn_leads (λ v. tenure_at v p ≡ tenure_at world p) target t (before items) (λ links. refl)

  pub v_taken : (target : Option Tenure) (t : Turn) (items : List RelayItem) (n : ℕ) → taken_of (turned target t items) n ≡ taken_of world n
  v_taken target t items n = turn_leads (λ v. taken_of v n ≡ taken_of world n) target t (before items) (λ links. refl)

  -- what is on its way up is no more than before
  pub record IsLess (items : List RelayItem) : Type 0 where
    pub messages : Sub (messages_in (coming_up (before items) at)) (messages_in (coming_up world at))
    pub initials : Sub (initials_up (before items) at) (initials_up world at)
    pub later : Sub (data_up (before items) at) (data_up world at)

  pub first_of : (item : RelayItem) (items : List RelayItem) →
      world.inbox ≡ item ∷ items →
      coming_up world at ≡ brings_in at item ++ coming_up (before items) at
  first_of item items pending = ap (λ (xs : List RelayItem). flat_map (brings_in at) xs ++ made_of at.number (base_of world at.station).messages) pending ∙ append_assoc (brings_in at item) (flat_map (brings_in at) items) (made_of at.number (base_of world at.station).messages)

  pub behind_less : (item : RelayItem) (items : List RelayItem) → world.inbox ≡ item ∷ items → IsLess items
  behind_less item items pending = record {
    messages = subst (Sub (messages_in (coming_up (before items) at))) (sym (ap messages_in (first_of item items pending) ∙ messages_in-append (brings_in at item) (coming_up (before items) at))) (sub_behind (messages_in (brings_in at item)) (messages_in (coming_up (before items) at)));
    initials = sub_flat_map (initial_by at.number) ups;
    later = sub_flat_map (data_by at.number) ups;
  } where
    ups : Sub (messages_up (before items) at.station) (messages_up world at.station)
    ups = sub_append (subst (λ (xs : List RelayItem). Sub (flat_map (read_of at.station) items) (flat_map (read_of at.station) xs)) (sym pending) (sub_behind (read_of at.station item) (flat_map (read_of at.station) items))) (sub_itself (base_of world at.station).messages)

  -- ---- it remains as it is

  pub turn_comes : (target : Option Tenure) (t : Turn) (items : List RelayItem) (one : Mobile) → IsLess items → going_down (turned target t items) at ≡ going_down world at → (s.state ≡ WaitEstablish → AreLinedUp modulus world mobile s → AreLinedUp modulus (turned target t items) mobile s)
      → mobile_of world mobile ≡ Some one → IsAccessing modulus world s one → IsAccessing modulus (turned target t items) s one
  turn_comes target t items one less down lined found (asks seat new none uncommanded) =
      asks seat new (ap messages_in (v_coming target t items at) ∙ sub_nothing (subst (Sub (messages_in (coming_up (before items) at))) none less.messages)) (down ∙ uncommanded)
  turn_comes target t items one less down lined found (arrived state seat own begun) =
      let after = lined state (record { one = one; found = found; lined = own }) in
      arrived state (seat ∙ ap (λ (x : Tenure). On x None) (sym (v_tenure target t items at))) (subst (λ (x : Mobile). LinedUp modulus (turned target t items) x s) (same_Some _ _ (sym after.found ∙ v_mobile target t items mobile ∙ found)) after.lined) (once begun) where
        once : BeginsOnce world one at → BeginsOnce (turned target t items) one at
        once (to_begin opens none behind) = to_begin opens (ap messages_in (v_coming target t items at) ∙ sub_nothing (subst (Sub (messages_in (coming_up (before items) at))) none less.messages)) behind
        once (began opens few none) =
            began opens (let fewer = sub_length less.initials in let same = ap length (v_initials target t items at) in omega (arith, few, fewer, same))
            (let fewer = controls_sub less.later in let same = ap controls_of (v_data target t items at) in omega (arith, none, fewer, same))

  pub remains_came : (target : Option Tenure) (t : Turn) (items : List RelayItem) (x : Connection) (coming : IsComing modulus world mobile s) →
      IsAged s x →
      connection_of t.next s.number ≡ Some x →
      IsAccessing modulus (turned target t items) s coming.one →
      AreAssigned (turned target t items) mobile s →
      HasAccess (IsComing modulus) modulus (turned target t items) mobile s.number
  remains_came target t items x coming aged there accessing assigned =
      let like : IsLike s x = aged_like s x aged in
      still_comes x like.number (record {
        had = record {
          there = ap (connection_of (turned target t items).controller) like.number ∙ ap (λ (c : Controller). connection_of c s.number) (v_controller target t items) ∙ there;
          is_open = subst IsOpen (sym like.state) coming.had.is_open;
          from_one = subst (λ (n : ℕ). 1 ≤ n) (sym like.number) coming.had.from_one;
        };
        early = subst IsEarlyIn (sym like.state) coming.early;
        asked = ap (λ (r : _). r.access) like.request ∙ coming.asked;
        one = coming.one;
        found = v_mobile target t items mobile ∙ coming.found;
        accessing = aged_comes s x aged accessing;
        assigned = aged_assigned (turned target t items) mobile s x aged assigned;
      })

  -- ---- its channel was activated: its mobile is assigned the channel

  pub assigned_comes : (target : Option Tenure) (t : Turn) (items : List RelayItem) (one : Mobile) →
      s.state ≡ WaitActivation →
      IsLess items →
      going_down (turned target t items) at ≡ going_down world at →
      IsAccessing modulus world s one →
      IsAccessing modulus (turned target t items) (enter WaitEstablish s) one
  assigned_comes target t items one state less down (asks seat new none uncommanded) =
      asks seat new (ap messages_in (v_coming target t items at) ∙ sub_nothing (subst (Sub (messages_in (coming_up (before items) at))) none less.messages)) (down ∙ uncommanded)
  assigned_comes target t items one state less down (arrived other seat own begun) = absurd (let both : WaitActivation ≡ WaitEstablish = sym state ∙ other in cc)

  passes_assigned : {v : Actors} {one : Mobile} (ms : ℕ) (x : Connection) →
      IsAccessing modulus v (enter WaitEstablish x) one →
      IsAccessing modulus v (enter WaitEstablish (after_pass ms x)) one
  passes_assigned ms x (asks seat new none uncommanded) = asks seat new none uncommanded
  passes_assigned ms x (arrived state seat lined begun) = arrived state seat (record { alive = lined.alive; sits = lined.sits; led = lined.led; none_on_target = lined.none_on_target; apart = lined.apart; placed = lined.placed }) begun

  pub assigned_came : (target : Option Tenure) (t : Turn) (items : List RelayItem) (x : Connection) (coming : IsComing modulus world mobile s) → IsAged s x → connection_of t.next s.number ≡ Some (enter WaitEstablish x) → IsAccessing modulus (turned target t items) (enter WaitEstablish s) coming.one → AreAssigned (turned target t items) mobile (enter WaitEstablish s)
      → HasAccess (IsComing modulus) modulus (turned target t items) mobile s.number
  assigned_came target t items x coming aged there accessing assigned =
      let like : IsLike s x = aged_like s x aged in
      let v : Actors = turned target t items in
      still_comes (enter WaitEstablish x) like.number (record {
        had = record {
          there = ap (connection_of v.controller) like.number ∙ ap (λ (c : Controller). connection_of c s.number) (v_controller target t items) ∙ there;
          is_open = tt;
          from_one = subst (λ (n : ℕ). 1 ≤ n) (sym like.number) coming.had.from_one;
        };
        early = tt;
        asked = ap (λ (r : _). r.access) like.request ∙ coming.asked;
        one = coming.one;
        found = v_mobile target t items mobile ∙ coming.found;
        accessing = aged_holds (λ (y : Connection). IsAccessing modulus v (enter WaitEstablish y) coming.one) (λ ms y c. passes_assigned ms y c) s x aged accessing;
        assigned = aged_holds (λ (y : Connection). AreAssigned v mobile (enter WaitEstablish y)) (λ ms y a. a) s x aged assigned;
      })

  -- ---- it asks the switch

  here : is_at at s.serving ≡ true
  here = ap (λ (b : Bool). b && nat_eq s.serving.number s.serving.number) (eq-eqb s.serving.station s.serving.station refl) ∙ eq-eqb s.serving.number s.serving.number refl

  pub asks_lined : (target : Option Tenure) (t : Turn) (items : List RelayItem) (initial : List ℕ) (one : Mobile) → s.state ≡ WaitEstablish → IsBareOf s → one.seat ≡ On (tenure_at world at) None → LinedUp modulus world one s → s.serving.station ≢ SWITCH_LINK
      → coming_up world at ≡ brought initial ∷ coming_up (turned target t items) at → going_down (turned target t items) at ≡ going_down world at → waiting_of world s.number ≡ [] → taken_of world s.number ≡ [] → waiting_of (turned target t items) s.number ≡ initial ∷ []
      → controls_in (coming_up (turned target t items) at) + controls_of (to_be_taken one.end.zero) ≡ 0 → LinedUp modulus (turned target t items) one (enter WaitConfirm s)
  asks_lined target t items initial one state bare seat lined placed on_way_up down unsaid untaken said left = record {
    alive = subst (Alive modulus) (sym reads) (requests_alive one.end.sent one.end.zero initial (coming_up v at) (not (is_station_up world s.serving.station)) left (subst (Alive modulus) was lined.alive));
    sits = rw (seat, sym (v_tenure target t items at)) (sits_unchanged refl nothing);
    led = rw (down, quiet) tt;
    none_on_target = tt;
    apart = rw (bare.draining) (tt, tt);
    placed = rw (bare.draining) (placed, tt);
  } where
    v : Actors
    v = turned target t items

    quiet : going_down world at ≡ []
    quiet = none_led world (going_down world at) (subst (λ (o : Option _). AllByRecursion (λ a. Leads world a o) (going_down world at)) (none_target s.state state) lined.led)

    up : is_station_up v s.serving.station ≡ is_station_up world s.serving.station
    up = turn_stations target t.outs (record (before items) { controller = t.next }) s.serving.station

    was : line_up world one s ≡ assembled one.end.sent one.end.zero on_serving WaitEstablish 0 [] (of_items (brought initial ∷ coming_up v at) (not (is_station_up world s.serving.station))) fresh [] []
    was = rw (state, bare.draining, bare.tenures, seat, here, quiet, unsaid, untaken, on_way_up) refl

    reads : line_up v one (enter WaitConfirm s) ≡ assembled one.end.sent one.end.zero on_serving WaitConfirm 0 [] (of_items (coming_up v at) (not (is_station_up world s.serving.station))) fresh (flow (initial ∷ [])) []
    reads = rw (bare.draining, bare.tenures, seat, here, down, quiet, said, v_taken target t items s.number, untaken, up) refl
