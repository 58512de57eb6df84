-- SPDX-License-Identifier: MIT OR Apache-2.0
-- What the controller does for others leaves a connection lined up.
use Rattle.world_laws.proofs.Prelude.{◌≡◌, ℕ, ◌==◌, ◌&&◌, not, nat_eq, Bool, true, false, if◌then◌else◌, List, [], ◌∷◌, ◌++◌, fold, map}
use Rattle.world_laws.proofs.Prelude.{find, Option, Some, None, refl, sym, ap, ◌∙◌, subst, append_assoc, inl, inr, AllByRecursion, flat_map}
use Rattle.world_laws.proofs.Prelude.{cases_Bool, eqb-true, eqb-false, flat_map-append, append-nil, map-append, Channel, Out, SWITCH_LINK}
use Rattle.world_laws.proofs.Prelude.{Target, Connection, used_channels, Forwarded, Turn, place_of, RelayItem, Parameters, Event}
use Rattle.world_laws.proofs.Prelude.{AirMessage, OutboxEntry, Tenure, joined_by, with_turn, target_in, after_handle}
use Rattle.world_laws.proofs.Prelude.{Actors, Link, broken_link, link_of, with_outbox, outbox_of, modulus_in, has_number, is_up}
use Rattle.world_laws.proofs.Prelude.{base_of, spot_at, handle_leads, after_taken, AllByRecursion-so, take, tick, brings_in, made_of}
use Rattle.world_laws.proofs.Prelude.{coming_up, leading_from_air, leading_from_outbox, going_down, commanded_target, commanded_channels}
use Rattle.world_laws.proofs.Prelude.{AreLinedUp, carried_for, IsForOthers, BringsNothing, IsOthers, RelayLeavesOthers, TimeLeavesOthers}
use Rattle.world_laws.proofs.Prelude.{entry_out}
use Rattle.controller_model.specs.Views.{forwarded}
use Rattle.world_laws.specs.LineUp.Places.{Item}
use Rattle.world_model.specs.Life.{event_after}
use Rattle.world_model.specs.Relay.{entry_of}
use Rattle.world_laws.proofs.Quiet.{sees_itself}
use Rattle.world_laws.proofs.Seeing.{SameTenures, SeesSame, lined_up_same}
use Rattle.world_laws.proofs.Spots.{set-same, set-apart}
use Rattle.world_laws.proofs.SwitchTakes.{forwarded-first}
use Rattle.world_laws.proofs.SwitchTook.{waiting_in}
use Rattle.world_laws.proofs.Events.{world}

-- ---- what waits for the switch

pub forwarded-append : (outs more : List Out) (number : ℕ) →
    forwarded (outs ++ more) number ≡ forwarded outs number ++ forwarded more number
unfolding forwarded
forwarded-append [] more number = refl
forwarded-append (out ∷ outs) more number =
    forwarded-first out (outs ++ more) number ∙ ap (λ (fs : List Forwarded). forwarded (out ∷ []) number ++ fs) (forwarded-append outs more number)
    ∙ sym (append_assoc (forwarded (out ∷ []) number) (forwarded outs number) (forwarded more number)) ∙ ap (λ (fs : List Forwarded). fs ++ forwarded more number) (sym (forwarded-first out outs number))

waiting_is_same : (entries : List OutboxEntry) (target : Option Tenure) (out : Out) (number : ℕ) →
    carried_for number out ≡ [] →
    waiting_in (entries ++ entry_of target out ∷ []) number ≡ waiting_in entries number
waiting_is_same entries target out number none =
    ap (λ (outs : List Out). map (λ f. f.message) (forwarded outs number)) (map-append (λ (entry : OutboxEntry). entry.out) entries (entry_of target out ∷ []) ∙ ap (λ (o : Out). map (λ (entry : OutboxEntry). entry.out) entries ++ o ∷ []) (entry_out target out))
    ∙ ap (λ (fs : List Forwarded). map (λ f. f.message) fs) (forwarded-append (map (λ entry. entry.out) entries) (out ∷ []) number)
    ∙ map-append (λ (f : Forwarded). f.message) (forwarded (map (λ entry. entry.out) entries) number) (forwarded (out ∷ []) number)
    ∙ ap (λ (ms : List (List ℕ)). waiting_in entries number ++ ms) none ∙ append-nil (waiting_in entries number)

-- ---- one output

pub joined_link : (u : Actors) (target : Option Tenure) (out : Out) (n : ℕ) {X : Type 0} (f : List OutboxEntry → X) →
    (out.to ≡ n → f (outbox_of u out.to ++ entry_of target out ∷ []) ≡ f (outbox_of u out.to)) →
    f (outbox_of (with_outbox out.to (outbox_of u out.to ++ entry_of target out ∷ []) u) n) ≡ f (outbox_of u n)
joined_link u target out n f same =
    elim (cases_Bool (nat_eq n out.to)) [
      | inl here ↦ set-same (λ (link : Link). f link.outbox) u.links broken_link out.to n (record (link_of u out.to) { outbox = outbox_of u out.to ++ entry_of target out ∷ [] }) (same (sym (eqb-true n out.to here)))
      | inr other ↦ ap (λ (link : Link). f link.outbox) (set-apart u.links broken_link out.to n (record (link_of u out.to) { outbox = outbox_of u out.to ++ entry_of target out ∷ [] }) (eqb-false n out.to other))
    ]

pub down_joined : (u : Actors) (target : Option Tenure) (out : Out) (c : Channel) →
    (out.to ≡ c.station → leading_from_outbox c.number (entry_of target out) ≡ []) →
    going_down (with_outbox out.to (outbox_of u out.to ++ entry_of target out ∷ []) u) (place_of c) ≡ going_down u (place_of c)
down_joined u target out c none =
    ap (λ (as_led : List AirMessage). flat_map leading_from_air (spot_at u (place_of c)).air ++ as_led)
    (joined_link u target out c.station (flat_map (leading_from_outbox c.number)) (λ is. flat_map-append (leading_from_outbox c.number) (outbox_of u out.to) (entry_of target out ∷ [])
    ∙ ap (λ (as_led : List AirMessage). flat_map (leading_from_outbox c.number) (outbox_of u out.to) ++ as_led) (append-nil (leading_from_outbox c.number (entry_of target out)) ∙ none is) ∙ append-nil (flat_map (leading_from_outbox c.number) (outbox_of u out.to))))

sees_joined : {w u : Actors} {s : Connection} (target : Option Tenure) (out : Out) →
    IsForOthers target s out →
    SeesSame w u s →
    SeesSame w (joined_by target u out) s
unfolding SameTenures
sees_joined {w} {u} {s} target out others sees = by_link (is_up u out.to) where
  v : Actors
  v = with_outbox out.to (outbox_of u out.to ++ entry_of target out ∷ []) u

  by_link : (b : Bool) → SeesSame w (if b then v else u) s
  by_link false = sees
  by_link true = record {
    arriving = sees.arriving;
    up = λ n. ap (λ (b : Bool). not (n == SWITCH_LINK) && b) (set-same (λ (link : Link). link.up) u.links broken_link out.to n (record (link_of u out.to) { outbox = outbox_of u out.to ++ entry_of target out ∷ [] }) refl) ∙ sees.up n;
    serving = down_joined u target out s.serving others.leads.0 ∙ sees.serving;
    target = λ t is. down_joined u target out t.channel (of_target t is) ∙ sees.target t is;
    tenures = sees.tenures;
    waiting = joined_link u target out SWITCH_LINK (λ (entries : List OutboxEntry). map (λ f. f.message) (forwarded (map (λ entry. entry.out) entries) s.number)) (λ is. waiting_same) ∙ sees.waiting;
    taken = sees.taken;
  } where
    of_target : (t : Target) →
        commanded_target s.state ≡ Some t →
        out.to ≡ t.channel.station →
        leading_from_outbox t.channel.number (entry_of target out) ≡ []
    of_target t is = (subst (λ (o : Option Target). AllByRecursion (λ c. out.to ≡ c.station → leading_from_outbox c.number (entry_of target out) ≡ []) (commanded_channels o)) is others.leads.1).0

    waiting_same : map (λ f. f.message) (forwarded (map (λ entry. entry.out) (outbox_of u out.to ++ entry_of target out ∷ [])) s.number) ≡ map (λ f. f.message) (forwarded (map (λ entry. entry.out) (outbox_of u out.to)) s.number)
    waiting_same = waiting_is_same (outbox_of u out.to) target out s.number others.carries

sees_all : {w : Actors} {s : Connection} (target : Option Tenure) (outs : List Out) (u : Actors) →
    AllByRecursion (IsForOthers target s) outs →
    SeesSame w u s →
    SeesSame w (fold (joined_by target) u outs) s
sees_all target [] u others sees = sees
sees_all target (out ∷ outs) u others sees = sees_all target outs (joined_by target u out) others.1 (sees_joined target out others.0 sees)

-- ---- the controller's turn

sees_turn : {w u : Actors} {s : Connection} (target : Option Tenure) (t : Turn) →
    AllByRecursion (IsForOthers target s) t.outs →
    SeesSame w u s →
    SeesSame w (with_turn target t u) s
unfolding SameTenures
sees_turn {w} {u} {s} target t others sees =
    sees_all target t.outs (record u { controller = t.next }) others (record { arriving = sees.arriving; up = sees.up; serving = sees.serving; target = sees.target; tenures = sees.tenures; waiting = sees.waiting; taken = sees.taken })

-- the mobiles are as before
pub turn_mobiles : (target : Option Tenure) (outs : List Out) (u : Actors) → (fold (joined_by target) u outs).mobiles ≡ u.mobiles
turn_mobiles target [] u = refl
turn_mobiles target (out ∷ outs) u = turn_mobiles target outs (joined_by target u out) ∙ one (is_up u out.to) where
  one : (b : Bool) → (if b then with_outbox out.to (outbox_of u out.to ++ entry_of target out ∷ []) u else u).mobiles ≡ u.mobiles
  one true = refl
  one false = refl

-- an item that brings nothing is handled
sees_handled : {w : Actors} {s : Connection} (item : RelayItem) (items : List RelayItem) →
    w.inbox ≡ item ∷ items →
    BringsNothing s item →
    SeesSame w (record w { inbox = items }) s
unfolding SameTenures
sees_handled {w} {s} item items pending nothing = record {
  arriving = AllByRecursion-so (λ c. brings_in (place_of c) item ≡ []) (λ c. coming_up (record w { inbox = items }) (place_of c) ≡ coming_up w (place_of c)) (λ c none. gone c none) (used_channels s) nothing;
  up = λ n. refl;
  serving = refl;
  target = λ t is. refl;
  tenures = λ at. refl;
  waiting = refl;
  taken = refl;
} where
  gone : (c : Channel) → brings_in (place_of c) item ≡ [] → coming_up (record w { inbox = items }) (place_of c) ≡ coming_up w (place_of c)
  gone c none = ap (λ (xs : List Item). (xs ++ flat_map (brings_in (place_of c)) items) ++ made_of c.number (base_of w c.station).messages) (sym none) ∙ ap (λ (xs : List RelayItem). flat_map (brings_in (place_of c)) xs ++ made_of c.number (base_of w c.station).messages) (sym pending)

leaves : {m : ℕ} {w v : Actors} {mobile : ℕ} {s : Connection} →
    AreLinedUp m w mobile s →
    v.mobiles ≡ w.mobiles →
    SeesSame w v s →
    AreLinedUp m v mobile s
leaves {mobile} lined same sees = record { one = lined.one; found = ap (λ (ms : List _). find (has_number mobile) ms) same ∙ lined.found; lined = lined_up_same lined.one lined.one sees refl refl refl lined.lined }

pub relay_leaves_others_new : (settings : Parameters) (events : List Event) → RelayLeavesOthers settings events
unfolding event_after
relay_leaves_others_new settings events mobile s others lined =
    let w : Actors = world settings events in
    after_taken (λ v. AreLinedUp (modulus_in settings) v mobile s) (after_handle w) w
    (handle_leads (λ v. AreLinedUp (modulus_in settings) v mobile s) w (λ item items pending.
    let both : BringsNothing s item × AllByRecursion (IsForOthers (target_in w item.source item.what) s) (take item w.controller).outs = subst (IsOthers w s) pending others in
    leaves lined (turn_mobiles (target_in w item.source item.what) (take item w.controller).outs _) (sees_turn (target_in w item.source item.what) (take item w.controller) both.1 (sees_handled item items pending both.0)))) lined

pub time_leaves_others_new : (settings : Parameters) (events : List Event) (ms : ℕ) → TimeLeavesOthers settings events ms
unfolding event_after
time_leaves_others_new settings events ms mobile s others lined =
    let w : Actors = world settings events in
    leaves lined (turn_mobiles None (tick ms w.controller).outs _) (sees_turn None (tick ms w.controller) others (sees_itself w s))
