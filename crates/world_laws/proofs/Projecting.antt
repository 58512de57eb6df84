-- SPDX-License-Identifier: MIT OR Apache-2.0
-- What is on its way up from a channel, as stations make messages and the inbox gets them.
use Rattle.world_laws.proofs.Prelude.{◌≡◌, ◌≢◌, ℕ, ◌==◌, nat_eq, Bool, true, false, cond, if◌then◌else◌, List, [], ◌∷◌, ◌++◌, Some, Ok}
use Rattle.world_laws.proofs.Prelude.{refl, subst, sym, ap, ◌∙◌, append_assoc, inl, inr, ◌⊎◌, flat_map, result_ok, cases_Bool, eqb-true}
use Rattle.world_laws.proofs.Prelude.{eqb-false, flat_map-append, append-nil, Sccp, Place, SWITCH_LINK, BaseState, is_active, after_next}
use Rattle.world_laws.proofs.Prelude.{first_message, first_of_messages, messages_behind_first, Item, RslFault, Rsl, rsl_reading, rsl_text}
use Rattle.world_laws.proofs.Prelude.{station_item, switch_item, with_item, Actors, no_station, is_station_up, base_of, with_base}
use Rattle.world_laws.proofs.Prelude.{is_active_at, SameEnds, base-elsewhere, base-there, up_right, false≢true, same_Some, none-some}
use Rattle.world_laws.proofs.Prelude.{Result, brings, brings_if, brings_in, made_of, coming_up}
use Rattle.world_laws.specs.LineUp.Places.{Item as Brought}

pub made_append : (channel : ℕ) (xs ys : List Rsl) → made_of channel (xs ++ ys) ≡ made_of channel xs ++ made_of channel ys
made_append channel xs ys = flat_map-append (brings channel) xs ys

-- ---- a station's end has one message more

-- what these messages of a station add
abbrev pub added_by : Place → ℕ → List Rsl → List Brought
added_by at station messages = if station == at.station then made_of at.number messages else []

-- the station is there, or the messages bring nothing
abbrev pub IsMade : Actors → ℕ → Place → List Rsl → Type 0
IsMade w station at messages = (base_of w station ≢ no_station.base) ⊎ (made_of at.number messages ≡ [])

pub active_there : (w : Actors) (at : Place) → is_active_at w at ≡ true → base_of w at.station ≢ no_station.base
active_there w at active nowhere = absurd (false≢true (sym (ap (λ (b : BaseState). is_active b.active at.number) nowhere) ∙ active))

pub coming_same : (w v : Actors) (at : Place) →
    v.inbox ≡ w.inbox →
    base_of v at.station ≡ base_of w at.station →
    coming_up v at ≡ coming_up w at
coming_same w v at inbox base = ap (λ (items : List Item). flat_map (brings_in at) items ++ made_of at.number (base_of v at.station).messages) inbox ∙ ap (λ (b : BaseState). flat_map (brings_in at) w.inbox ++ made_of at.number b.messages) base

-- where the end has these messages more
coming_more : (w u : Actors) (station : ℕ) (at : Place) (base : BaseState) (messages : List Rsl) → at.station ≢ 0 → is_station_up w station ≡ true → SameEnds w u → u.inbox ≡ w.inbox → made_of at.number (base_of (with_base station base u) station).messages ≡ made_of at.number (base_of w station).messages ++ made_of at.number messages
    → coming_up (with_base station base u) at ≡ coming_up w at ++ added_by at station messages
coming_more w u station at base messages at_is up same inbox made_now =
    elim (cases_Bool (nat_eq station at.station)) [
      | inl here ↦ at_it (eqb-true station at.station here) ∙ ap (λ (b : Bool). coming_up w at ++ cond b (made_of at.number messages) []) (sym here)
      | inr other ↦
          coming_same w (with_base station base u) at inbox (base-elsewhere u at.station station base at_is (up_right station w up).0 (λ is. eqb-false station at.station other (sym is)) ∙ same at.station)
          ∙ sym (append-nil (coming_up w at)) ∙ ap (λ (b : Bool). coming_up w at ++ cond b (made_of at.number messages) []) (sym other)
    ] where
      v : Actors
      v = with_base station base u

      at_it : station ≡ at.station → coming_up v at ≡ coming_up w at ++ made_of at.number messages
      at_it is =
          ap (λ (items : List Item). flat_map (brings_in at) items ++ made_of at.number (base_of v at.station).messages) inbox
          ∙ ap (λ (n : ℕ). flat_map (brings_in at) w.inbox ++ made_of at.number (base_of v n).messages) (sym is)
          ∙ ap (λ (xs : List Brought). flat_map (brings_in at) w.inbox ++ xs) made_now
          ∙ sym (append_assoc (flat_map (brings_in at) w.inbox) (made_of at.number (base_of w station).messages) (made_of at.number messages))
          ∙ ap (λ (n : ℕ). flat_map (brings_in at) w.inbox ++ made_of at.number (base_of w n).messages ++ made_of at.number messages) is

told_there : (w : Actors) (v : Actors) (station : ℕ) (at : Place) (base : BaseState) (messages : List Rsl) →
    base.messages ≡ (base_of w station).messages ++ messages →
    base_of v station ≡ base →
    made_of at.number (base_of v station).messages ≡ made_of at.number (base_of w station).messages ++ made_of at.number messages
told_there w v station at base messages appended is = ap (λ (b : BaseState). made_of at.number b.messages) is ∙ ap (made_of at.number) appended ∙ made_append at.number (base_of w station).messages messages

pub coming_told : (w u : Actors) (station : ℕ) (at : Place) (base : BaseState) (messages : List Rsl) → at.station ≢ 0 → is_station_up w station ≡ true → SameEnds w u → u.inbox ≡ w.inbox → base.messages ≡ (base_of w station).messages ++ messages → IsMade w station at messages
    → coming_up (with_base station base u) at ≡ coming_up w at ++ added_by at station messages
coming_told w u station at base messages at_is up same inbox appended made = coming_more w u station at base messages at_is up same inbox made_now where
  v : Actors
  v = with_base station base u

  nowhere : base_of v station ≡ no_station.base →
      base_of w station ≡ no_station.base →
      IsMade w station at messages →
      made_of at.number (base_of v station).messages ≡ made_of at.number (base_of w station).messages ++ made_of at.number messages
  nowhere now before (inl is) = absurd (is before)
  nowhere now before (inr nothing) = ap (λ (b : BaseState). made_of at.number b.messages) (now ∙ sym before) ∙ sym (append-nil (made_of at.number (base_of w station).messages)) ∙ ap (λ (xs : List Brought). made_of at.number (base_of w station).messages ++ xs) (sym nothing)

  made_now : made_of at.number (base_of v station).messages ≡ made_of at.number (base_of w station).messages ++ made_of at.number messages
  made_now = elim (base-there u station base) [
    | inl is ↦ told_there w v station at base messages appended is
    | inr is ↦ nowhere is.0 (sym (same station) ∙ is.1) made
  ]

-- the messages join what its station made, if it is there
pub coming_told_or : (w u : Actors) (station : ℕ) (at : Place) (base : BaseState) (messages : List Rsl) → at.station ≢ 0 → is_station_up w station ≡ true → SameEnds w u → u.inbox ≡ w.inbox → base.messages ≡ (base_of w station).messages ++ messages
    → (coming_up (with_base station base u) at ≡ coming_up w at ++ added_by at station messages) ⊎ (coming_up (with_base station base u) at ≡ coming_up w at)
coming_told_or w u station at base messages at_is up same inbox appended =
    elim (base-there u station base) [
      | inl is ↦ inl (coming_more w u station at base messages at_is up same inbox (told_there w (with_base station base u) station at base messages appended is))
      | inr is ↦ inr (coming_same w (with_base station base u) at inbox (ends is.0 is.1))
    ] where
      ends : base_of (with_base station base u) station ≡ no_station.base →
          base_of u station ≡ no_station.base →
          base_of (with_base station base u) at.station ≡ base_of w at.station
      ends now before = elim (cases_Bool (nat_eq at.station station)) [
        | inl here ↦ subst (λ (n : ℕ). base_of (with_base station base u) n ≡ base_of w n) (sym (eqb-true at.station station here)) (now ∙ sym before ∙ same station)
        | inr other ↦ base-elsewhere u at.station station base at_is (up_right station w up).0 (eqb-false at.station station other) ∙ same at.station
      ]

-- messages that bring nothing
pub coming_quiet : (w u : Actors) (station : ℕ) (at : Place) (base : BaseState) (messages : List Rsl) → at.station ≢ 0 → is_station_up w station ≡ true → SameEnds w u → u.inbox ≡ w.inbox → base.messages ≡ (base_of w station).messages ++ messages → made_of at.number messages ≡ []
    → coming_up (with_base station base u) at ≡ coming_up w at
coming_quiet w u station at base messages at_is up same inbox appended nothing = coming_told w u station at base messages at_is up same inbox appended (inr nothing) ∙ ap (λ (xs : List Brought). coming_up w at ++ xs) (none (station == at.station)) ∙ append-nil (coming_up w at) where
  none : (b : Bool) → (if b then made_of at.number messages else []) ≡ []
  none true = nothing
  none false = refl

-- ---- a push: the item is handed from the station to the inbox

first_made : (channel : ℕ) (messages : List Rsl) (message : Rsl) →
    first_of_messages messages ≡ Some message →
    made_of channel messages ≡ brings channel message ++ made_of channel (messages_behind_first messages)
first_made channel [] message is = absurd cc
first_made channel (first ∷ others) message is = ap (λ (m : Rsl). brings channel m ++ made_of channel others) (same_Some _ _ is)

-- the first message that a station made is there no more
pub base_pushed : (w : Actors) (station : ℕ) (message : Rsl) →
    first_message (base_of w station) ≡ Some message →
    base_of (with_base station (after_next (base_of w station)) w) station ≡ after_next (base_of w station)
base_pushed w station message first = elim (base-there w station (after_next (base_of w station))) [
  | inl is ↦ is
  | inr nowhere ↦ absurd (none-some message (sym (ap first_message nowhere.1) ∙ first))
]

pub coming_pushed : (w : Actors) (station : ℕ) (message : Rsl) (at : Place) → at.station ≢ 0 → station ≢ 0 → first_message (base_of w station) ≡ Some message → rsl_reading (rsl_text message) ≡ Ok message
    → coming_up (with_item (station_item station message) (with_base station (after_next (base_of w station)) w)) at ≡ coming_up w at
coming_pushed w station message at at_is station_is first read =
    ap (λ (xs : List Brought). xs ++ made_of at.number (base_of v at.station).messages) (flat_map-append (brings_in at) w.inbox (station_item station message ∷ []))
    ∙ append_assoc (flat_map (brings_in at) w.inbox) (flat_map (brings_in at) (station_item station message ∷ [])) (made_of at.number (base_of v at.station).messages)
    ∙ ap (λ (xs : List Brought). flat_map (brings_in at) w.inbox ++ xs) behind where
      v : Actors
      v = with_base station (after_next (base_of w station)) w

      item : flat_map (brings_in at) (station_item station message ∷ []) ≡ (if station == at.station then brings at.number message else [])
      item = append-nil (brings_in at (station_item station message)) ∙ ap (λ (r : Result Rsl RslFault). if station == at.station then brings_if at.number (result_ok r) else []) read

      behind : flat_map (brings_in at) (station_item station message ∷ []) ++ made_of at.number (base_of v at.station).messages ≡ made_of at.number (base_of w at.station).messages
      behind = elim (cases_Bool (nat_eq station at.station)) [
        | inl here ↦
            ap (λ (xs : List Brought). xs ++ made_of at.number (base_of v at.station).messages) (item ∙ ap (λ (b : Bool). cond b (brings at.number message) []) here)
            ∙ ap (λ (n : ℕ). brings at.number message ++ made_of at.number (base_of v n).messages) (sym (eqb-true station at.station here))
            ∙ ap (λ (b : BaseState). brings at.number message ++ made_of at.number b.messages) (base_pushed w station message first)
            ∙ sym (first_made at.number (base_of w station).messages message first)
            ∙ ap (λ (n : ℕ). made_of at.number (base_of w n).messages) (eqb-true station at.station here)
        | inr other ↦
            ap (λ (xs : List Brought). xs ++ made_of at.number (base_of v at.station).messages) (item ∙ ap (λ (b : Bool). cond b (brings at.number message) []) other)
            ∙ ap (λ (b : BaseState). made_of at.number b.messages) (base-elsewhere w at.station station (after_next (base_of w station)) at_is station_is (λ is. eqb-false station at.station other (sym is)))
      ]

-- an item of the switch brings nothing
pub coming_of_switch : (w : Actors) (first : Sccp) (others : List Sccp) (at : Place) →
    coming_up (with_item (switch_item first) (record w { switch_made = others })) at ≡ coming_up w at
coming_of_switch w first others at =
    ap (λ (xs : List Brought). xs ++ made_of at.number (base_of w at.station).messages) (flat_map-append (brings_in at) w.inbox (switch_item first ∷ []) ∙ ap (λ (xs : List Brought). flat_map (brings_in at) w.inbox ++ xs) (none (SWITCH_LINK == at.station)) ∙ append-nil (flat_map (brings_in at) w.inbox)) where
      none_if : Bool → List Brought
      none_if b = if b then [] else []

      none : (b : Bool) → none_if b ++ [] ≡ []
      none true = refl
      none false = refl
