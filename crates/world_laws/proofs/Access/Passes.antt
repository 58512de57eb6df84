-- SPDX-License-Identifier: MIT OR Apache-2.0
-- What remains on its way after an event in which neither the controller nor a mobile's frame of
-- SAPI 0 takes part.
use Rattle.world_laws.proofs.Prelude.{◌≡◌, ◌≢◌, ℕ, ◌-◌, ◌==◌, nat_eq, Bool, true, false, if◌then◌else◌, cond, List, [], ◌∷◌, ◌++◌}
use Rattle.world_laws.proofs.Prelude.{option_to_list, Option, Some, None, Ok, refl, sym, ap, ◌∙◌, subst, append_assoc, inl, inr}
use Rattle.world_laws.proofs.Prelude.{AllByRecursion, flat_map, result_ok, cases_Bool, eqb-true, eqb-false, flat_map-append, append-nil}
use Rattle.world_laws.proofs.Prelude.{Sccp, Channel, Place, SWITCH_LINK, place_of, BaseState, after_next, first_message, Item, RslFault}
use Rattle.world_laws.proofs.Prelude.{Rsl, rsl_reading, rsl_text, AirMessage, OutboxEntry, after_base_push, pushed_by_station}
use Rattle.world_laws.proofs.Prelude.{pushed_by_switch, station_item, switch_item, with_item, Actors, Link, Mobile, Spot, base_of}
use Rattle.world_laws.proofs.Prelude.{broken_link, link_of, no_station, outbox_of, spot_at, station_of, with_base, with_link, with_outbox}
use Rattle.world_laws.proofs.Prelude.{with_spot, Good, end_of, base-elsewhere, base_with_spot, AllByRecursion-append, ne_eqb, Result}
use Rattle.world_laws.proofs.Prelude.{messages_in, messages_up, read_of, brings, going_down, leading_from_air, leading_from_outbox}
use Rattle.world_model.specs.World.{Station}
use Rattle.world_model.proofs.Leads.{OfTaken}
use Rattle.world_laws.proofs.Quiet.{down_with_base}
use Rattle.world_laws.proofs.Sublists.{Sub, set_related, sub_append, sub_flat_map, sub_front, sub_itself, sub_trans}
use Rattle.world_laws.proofs.Sublists.Sub.{drops}
use Rattle.world_laws.proofs.BesideRelay.{first_read}
use Rattle.world_laws.proofs.StationTakes.{spot_related, LeadsLess}
use Rattle.world_laws.proofs.Targets.Calm.{first_and_behind}
use Rattle.world_laws.proofs.Acknowledged.{of_other}
use Rattle.world_laws.proofs.Projecting.{base_pushed}

-- ---- what passes

-- a message of a station that brings none of a mobile
abbrev pub IsPlain : Rsl → Type 0
IsPlain m = (channel : ℕ) → messages_in (brings channel m) ≡ []

-- of what was on its way some was removed, and nothing joined it but such messages
pub record Passes (w v : Actors) : Type 0 where
  pub ups : (station : ℕ) →
      station ≢ SWITCH_LINK →
      (more : List Rsl) × AllByRecursion IsPlain more × Sub (messages_up v station) (messages_up w station ++ more)
  pub downs : (c : Channel) → c.station ≢ SWITCH_LINK → Sub (going_down v (place_of c)) (going_down w (place_of c))
  pub entries : (station : ℕ) → Sub (outbox_of v station) (outbox_of w station)
  pub controller : v.controller ≡ w.controller

pub sub_more : {X : Type 0} {xs ys : List X} → Sub xs ys → Sub xs (ys ++ [])
sub_more {ys} sub = subst (Sub _) (sym (append-nil ys)) sub

pub passes_itself : (w : Actors) → Passes w w
passes_itself w = record {
  ups = λ station is. ([], tt, sub_more (sub_itself (messages_up w station)));
  downs = λ c is. sub_itself (going_down w (place_of c));
  entries = λ station. sub_itself (outbox_of w station);
  controller = refl;
}

pub passes_then : {w u v : Actors} → Passes w u → Passes u v → Passes w v
passes_then {w} {u} {v} one two = record {
  ups = λ station is.
      let a = one.ups station is in
      let b = two.ups station is in
      (a.0 ++ b.0, AllByRecursion-append IsPlain a.0 b.0 a.1 b.1, subst (Sub (messages_up v station)) (append_assoc (messages_up w station) a.0 b.0) (sub_trans b.2 (sub_append a.2 (sub_itself b.0))));
  downs = λ c is. sub_trans (two.downs c is) (one.downs c is);
  entries = λ station. sub_trans (two.entries station) (one.entries station);
  controller = two.controller ∙ one.controller;
}

pub passes_mobiles : {w u : Actors} (mobiles : List Mobile) → Passes w u → Passes w (record u { mobiles = mobiles })
passes_mobiles mobiles passes = record { ups = passes.ups; downs = passes.downs; entries = passes.entries; controller = passes.controller }

pub passes_switch : {w u : Actors} (next : _) (made : List Sccp) → Passes w u → Passes w (record u { switch = next; switch_made = made })
passes_switch next made passes = record { ups = passes.ups; downs = passes.downs; entries = passes.entries; controller = passes.controller }

-- ---- a station makes messages, or forgets them

pub passes_made : (u : Actors) (station : ℕ) (base : BaseState) (more : List Rsl) →
    AllByRecursion IsPlain more →
    Sub base.messages ((base_of u station).messages ++ more) →
    Passes u (with_base station base u)
passes_made u station base more plain appended = record {
  ups = λ n is. (
    more,
    plain,
    subst (Sub (messages_up (with_base station base u) n)) (sym (append_assoc (flat_map (read_of n) u.inbox) (base_of u n).messages more))
        (sub_append (sub_itself (flat_map (read_of n) u.inbox))
        (set_related (λ (a b : Station). Sub a.base.messages (b.base.messages ++ more)) (λ x. sub_front x.base.messages more) u.stations no_station (station - 1) (n - 1) (record (station_of u station) { base = base }) appended)),
  );
  downs = λ c is. subst (λ (xs : List AirMessage). Sub xs (going_down u (place_of c))) (sym (down_with_base u station base (place_of c))) (sub_itself (going_down u (place_of c)));
  entries = λ n. sub_itself (outbox_of u n);
  controller = refl;
}

-- ---- a channel changes, where no more leads anywhere

pub ups_spot : (u : Actors) (at : Place) (spot : Spot) (n : ℕ) → messages_up (with_spot at spot u) n ≡ messages_up u n
ups_spot u at spot n = ap (λ (b : BaseState). flat_map (read_of n) u.inbox ++ b.messages) (base_with_spot at spot u n)

pub passes_spot : (u : Actors) (at : Place) (spot : Spot) → LeadsLess spot (spot_at u at) → Passes u (with_spot at spot u)
passes_spot u at spot less = record {
  ups = λ n is. ([], tt, sub_more (subst (λ (xs : List Rsl). Sub xs (messages_up u n)) (sym (ups_spot u at spot n)) (sub_itself (messages_up u n))));
  downs = λ c is. sub_append (spot_related LeadsLess (λ x. sub_itself (flat_map leading_from_air x.air)) u at spot (place_of c) less) (sub_itself (flat_map (leading_from_outbox c.number) (outbox_of u c.station)));
  entries = λ n. sub_itself (outbox_of u n);
  controller = refl;
}

-- ---- links

pub passes_link : (w : Actors) (number : ℕ) (link : Link) → Sub link.outbox (outbox_of w number) → Passes w (with_link number link w)
passes_link w number link less = record {
  ups = λ n is. ([], tt, sub_more (sub_itself (messages_up w n)));
  downs = λ c is. sub_append (sub_itself (flat_map leading_from_air (spot_at w (place_of c)).air)) (sub_flat_map (leading_from_outbox c.number) (links c.station));
  entries = links;
  controller = refl;
} where
  links : (n : ℕ) → Sub (outbox_of (with_link number link w) n) (outbox_of w n)
  links n = set_related (λ (a b : Link). Sub a.outbox b.outbox) (λ x. sub_itself x.outbox) w.links broken_link number n link less

-- the first entry of an outbox is taken
pub passes_first : (w : Actors) (number : ℕ) (first : OutboxEntry) (others : List OutboxEntry) →
    outbox_of w number ≡ first ∷ others →
    Passes w (with_outbox number others w)
passes_first w number first others pending = passes_link w number (record (link_of w number) { outbox = others }) (subst (Sub others) (sym pending) (drops (sub_itself others)))

-- ---- the inbox

-- an item that says nothing of stations
pub passes_item : (u : Actors) (item : Item) →
    ((station : ℕ) → station ≢ SWITCH_LINK → read_of station item ≡ []) →
    Passes u (with_item item u)
passes_item u item silent = record {
  ups = λ n is. (
    [],
    tt,
    subst (Sub (messages_up (with_item item u) n)) (sym (append-nil (messages_up u n)))
        (sub_append (subst (λ (xs : List Rsl). Sub xs (flat_map (read_of n) u.inbox)) (sym (flat_map-append (read_of n) u.inbox (item ∷ []) ∙ ap (λ (xs : List Rsl). flat_map (read_of n) u.inbox ++ (xs ++ [])) (silent n is) ∙ append-nil (flat_map (read_of n) u.inbox))) (sub_itself (flat_map (read_of n) u.inbox))) (sub_itself (base_of u n).messages)),
  );
  downs = λ c is. sub_itself (going_down u (place_of c));
  entries = λ n. sub_itself (outbox_of u n);
  controller = refl;
}

pushed_same : (w : Actors) (source n : ℕ) (message : Rsl) → n ≢ SWITCH_LINK → source ≢ SWITCH_LINK → first_message (base_of w source) ≡ Some message → rsl_reading (rsl_text message) ≡ Ok message
    → messages_up (with_item (station_item source message) (with_base source (after_next (base_of w source)) w)) n ≡ messages_up w n
pushed_same w source n message n_is source_is first read =
    ap (λ (xs : List Rsl). xs ++ (base_of v n).messages) (flat_map-append (read_of n) w.inbox (station_item source message ∷ []))
    ∙ append_assoc (flat_map (read_of n) w.inbox) (flat_map (read_of n) (station_item source message ∷ [])) (base_of v n).messages
    ∙ ap (λ (xs : List Rsl). flat_map (read_of n) w.inbox ++ xs) behind where
      v : Actors
      v = with_base source (after_next (base_of w source)) w

      item : flat_map (read_of n) (station_item source message ∷ []) ≡ (if source == n then message ∷ [] else [])
      item = append-nil (read_of n (station_item source message)) ∙ ap (λ (r : Result Rsl RslFault). if source == n then option_to_list (result_ok r) else []) read

      behind : flat_map (read_of n) (station_item source message ∷ []) ++ (base_of v n).messages ≡ (base_of w n).messages
      behind = elim (cases_Bool (nat_eq source n)) [
        | inl here ↦
            ap (λ (xs : List Rsl). xs ++ (base_of v n).messages) (item ∙ ap (λ (b : Bool). cond b (message ∷ []) []) here)
            ∙ ap (λ (k : ℕ). message ∷ (base_of v k).messages) (sym (eqb-true source n here))
            ∙ ap (λ (b : BaseState). message ∷ b.messages) (base_pushed w source message first)
            ∙ sym (first_and_behind (base_of w source).messages message first)
            ∙ ap (λ (k : ℕ). (base_of w k).messages) (eqb-true source n here)
        | inr other ↦
            ap (λ (xs : List Rsl). xs ++ (base_of v n).messages) (item ∙ ap (λ (b : Bool). cond b (message ∷ []) []) other)
            ∙ ap (λ (b : BaseState). b.messages) (base-elsewhere w n source (after_next (base_of w source)) n_is source_is (λ is. eqb-false source n other (sym is)))
      ]

passes_pushed : (w : Actors) (source : ℕ) (message : Rsl) →
    source ≢ SWITCH_LINK →
    first_message (base_of w source) ≡ Some message →
    rsl_reading (rsl_text message) ≡ Ok message →
    Passes w (with_item (station_item source message) (with_base source (after_next (base_of w source)) w))
passes_pushed w source message source_is first read = record {
  ups = λ n is. ([], tt, sub_more (subst (λ (xs : List Rsl). Sub xs (messages_up w n)) (sym (pushed_same w source n message is source_is first read)) (sub_itself (messages_up w n))));
  downs = λ c is. subst (λ (xs : List AirMessage). Sub xs (going_down w (place_of c))) (sym (down_with_base w source (after_next (base_of w source)) (place_of c))) (sub_itself (going_down w (place_of c)));
  entries = λ n. sub_itself (outbox_of w n);
  controller = refl;
}

pub push_passes : (w : Actors) (source : ℕ) → Good w → OfTaken (Passes w) (after_base_push w source)
unfolding OfTaken
push_passes w source good = by_source (nat_eq source SWITCH_LINK) refl where
  of_switch : (made : List Sccp) → OfTaken (Passes w) (pushed_by_switch made w)
  of_switch [] = tt
  of_switch (first ∷ others) = passes_then (passes_switch w.switch others (passes_itself w)) (passes_item (record w { switch_made = others }) (switch_item first) (λ n is. of_other n SWITCH_LINK (switch_item first).what (ne_eqb SWITCH_LINK n (λ same. is (sym same)))))

  of_station : source ≢ SWITCH_LINK →
      (o : Option Rsl) →
      first_message (base_of w source) ≡ o →
      OfTaken (Passes w) (pushed_by_station source o w)
  of_station is None first = tt
  of_station is (Some message) first = passes_pushed w source message is first (first_read (base_of w source).messages message (end_of w source good).made first)

  by_source : (b : Bool) →
      nat_eq source SWITCH_LINK ≡ b →
      OfTaken (Passes w) (if b then pushed_by_switch w.switch_made w else pushed_by_station source (first_message (base_of w source)) w)
  by_source true is = of_switch w.switch_made
  by_source false is = of_station (eqb-false source SWITCH_LINK is) (first_message (base_of w source)) refl
