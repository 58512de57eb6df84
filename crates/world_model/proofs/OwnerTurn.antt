-- SPDX-License-Identifier: MIT OR Apache-2.0
-- A channel still agrees with an ownership after a turn of the controller that serves it.
use Rattle.world_model.proofs.Prelude.{◌≡◌, ◌⊎◌, inl, inr, ℕ, ◌+◌, Bool, true, false, List, [], ◌∷◌, ◌++◌, Option, Some, refl, sym, ap, ◌∙◌}
use Rattle.world_model.proofs.Prelude.{subst, append_assoc, append-nil, Place, Controller, Turn, channel_state, ChannelState, Free, InUse}
use Rattle.world_model.proofs.Prelude.{Releasing, BaseState, is_active, activation_ack, Rsl, RfChannelReleaseAck, hears, OutboxEntry}
use Rattle.world_model.proofs.Prelude.{Tenure, nothing, began, begins, ends, begins_and_ends, acknowledgements, active_all, due, Actors}
use Rattle.world_model.proofs.Prelude.{base_of, is_active_at, is_up, outbox_of, spot_at}
use Rattle.world_model.specs.OwnerLines.{Agrees, AreFitting, IsOwed, IsOnItsWay, acknowledged_in, active_behind, asker, is_in_use, tenure_all, tenure_behind, to_arrive}
use Rattle.world_model.proofs.OwnerLines.{fitting_append, tenure-append}
use Rattle.world_model.proofs.OwnerPuts.{FitAll, RunsThrough, Puts, entries_to, lost_in_run, runs_put_before}
use Rattle.world_model.proofs.Outboxes.{both_empty}
use Rattle.world_model.proofs.Piping.{active-append, due-append}

-- ---- an acknowledgement that the controller takes

-- RF CHANNEL RELEASE ACK frees a channel that is releasing
abbrev pub hear : List Rsl → ChannelState → ChannelState
hear (RfChannelReleaseAck channel ∷ rest) (Releasing number) = Free
hear heard state = state

-- one at most
abbrev pub IsOne : List Rsl → Type 0
IsOne heard = (heard ≡ []) ⊎ ((m : Rsl) × (heard ≡ m ∷ []))

pub hear-use : (heard : List Rsl) (state : ChannelState) → is_in_use (hear heard state) ≡ is_in_use state
hear-use (RfChannelReleaseAck channel ∷ rest) (Releasing number) = refl
hear-use _ _ = refl

pub hear_in_use : (heard : List Rsl) (state : ChannelState) (number : ℕ) → hear heard state ≡ InUse number → state ≡ InUse number
hear_in_use (RfChannelReleaseAck channel ∷ rest) (Releasing m) number is = absurd cc
hear_in_use _ _ number is = is

comes_one : (k : ℕ) (m : Rsl) (state : ChannelState) (all rest : List Rsl) →
    IsOwed k state all →
    all ≡ m ∷ rest →
    IsOwed k (hear (m ∷ []) state) rest
comes_one k m Free all rest nothing is = absurd cc
comes_one k m (InUse number) all rest began is = absurd cc
comes_one k m (InUse number) all rest begins is =
    let first : activation_ack k ≡ m = cc in
    let others : [] ≡ rest = cc in
    subst (λ (x : Rsl). IsOwed k (hear (x ∷ []) (InUse number)) rest) first (subst (IsOwed k (InUse number)) others began)
comes_one k m (Releasing number) all rest ends is =
    let first : RfChannelReleaseAck k ≡ m = cc in
    let others : [] ≡ rest = cc in
    subst (λ (x : Rsl). IsOwed k (hear (x ∷ []) (Releasing number)) rest) first (subst (IsOwed k Free) others nothing)
comes_one k m (Releasing number) all rest begins_and_ends is =
    let first : activation_ack k ≡ m = cc in
    let others : RfChannelReleaseAck k ∷ [] ≡ rest = cc in
    subst (λ (x : Rsl). IsOwed k (hear (x ∷ []) (Releasing number)) rest) first (subst (IsOwed k (Releasing number)) others ends)

comes_heard : (k : ℕ) (heard : List Rsl) (state : ChannelState) (rest : List Rsl) →
    IsOne heard →
    IsOwed k state (heard ++ rest) →
    IsOwed k (hear heard state) rest
comes_heard k heard state rest (inl none) owed = subst (λ (h : List Rsl). IsOwed k (hear h state) rest) (sym none) (subst (λ (h : List Rsl). IsOwed k state (h ++ rest)) none owed)
comes_heard k heard state rest (inr (m, one)) owed =
    subst (λ (h : List Rsl). IsOwed k (hear h state) rest) (sym one) (comes_one k m state (heard ++ rest) rest owed (ap (λ (h : List Rsl). h ++ rest) one))

-- ---- a turn, in the world

-- what it leaves as it was, and what joins the outbox of the channel's station
pub record Turned (w v : Actors) (at : Place) (target : Option Tenure) (t : Turn) (heard : List Rsl) : Type 0 where
  pub entries : List OutboxEntry
  pub outbox : outbox_of v at.station ≡ outbox_of w at.station ++ entries
  pub joins : is_up w at.station ≡ true → entries ≡ entries_to at target t.outs
  pub down : is_up w at.station ≡ false → entries ≡ []
  pub up : is_up v at.station ≡ is_up w at.station
  pub base : base_of v at.station ≡ base_of w at.station
  pub tenure : (spot_at v at).tenure ≡ (spot_at w at).tenure
  pub controller : v.controller ≡ t.next
  pub inbox : acknowledged_in at w.inbox ≡ heard ++ acknowledged_in at v.inbox
  pub one : IsOne heard

-- what it is to a channel: the outputs go from its state to its next one, and fit the tenures
pub record Serves (owner : Tenure → ℕ) (w : Actors) (at : Place) (target : Option Tenure) (t : Turn) (heard : List Rsl) : Type 0 where
  pub hearing : hears t.next at.station ≡ true → hears w.controller at.station ≡ true
  pub silent : hears t.next at.station ≡ false → entries_to at target t.outs ≡ []
  pub moves : hears t.next at.station ≡ true → RunsThrough at (hear heard (channel_state w.controller at)) t.outs (channel_state t.next at)
  pub fits : hears t.next at.station ≡ true →
      is_up w at.station ≡ true →
      FitAll owner at target (tenure_behind w at).number (hear heard (channel_state w.controller at)) t.outs
  pub users : (number mobile : ℕ) →
      asker t.next number ≡ Some mobile →
      channel_state w.controller at ≡ InUse number →
      asker w.controller number ≡ Some mobile

-- a tenure that it begins is of the mobile of the connection that uses the channel then
abbrev pub BeginsBy : (Tenure → ℕ) → Actors → Actors → Place → Controller → Type 0
BeginsBy owner w v at c =
    (number mobile : ℕ) → is_up w at.station ≡ true → channel_state c at ≡ InUse number → asker c number ≡ Some mobile → (tenure_behind v at).number ≡ (tenure_behind w at).number + 1 → owner (tenure_behind v at) ≡ mobile

false_true : false ≡ true → ⊥
false_true is = absurd cc

module _ (owner : Tenure → ℕ) (w v : Actors) (at : Place) (target : Option Tenure) (t : Turn) (heard : List Rsl) (turned : Turned w v at target t heard) (serves : Serves owner w at target t heard) (begun : BeginsBy owner w v at t.next) (agrees : Agrees owner w at) where
  abbrev n : ℕ
  n = at.station

  abbrev k : ℕ
  k = at.number

  -- what is still on its way once this was heard, but for what is put now
  abbrev rest : List Rsl
  rest = acknowledged_in at v.inbox ++ (acknowledgements k (base_of w n).messages ++ due k (is_active_at w at) (outbox_of w n))

  abbrev state : ChannelState
  state = channel_state w.controller at

  active_same : is_active_at v at ≡ is_active_at w at
  active_same = ap (λ (b : BaseState). is_active b.active k) turned.base

  to_arrive_is : to_arrive w at ≡ heard ++ rest
  to_arrive_is = ap (λ (xs : List Rsl). xs ++ (acknowledgements k (base_of w n).messages ++ due k (is_active_at w at) (outbox_of w n)))
      turned.inbox
      ∙ append_assoc heard (acknowledged_in at v.inbox) (acknowledgements k (base_of w n).messages ++ due k (is_active_at w at) (outbox_of w n))

  comes_then : to_arrive v at ≡ rest ++ due k (active_behind w at) turned.entries
  comes_then =
      ap (λ (b : BaseState). acknowledged_in at v.inbox ++ (acknowledgements k b.messages ++ due k (is_active b.active k) (outbox_of v n))) turned.base
      ∙ ap (λ (es : List OutboxEntry). acknowledged_in at v.inbox ++ (acknowledgements k (base_of w n).messages ++ due k (is_active_at w at) es)) turned.outbox
      ∙ ap (λ (xs : List Rsl). acknowledged_in at v.inbox ++ (acknowledgements k (base_of w n).messages ++ xs)) (due-append k (is_active_at w at) (outbox_of w n) turned.entries)
      ∙ ap (λ (xs : List Rsl). acknowledged_in at v.inbox ++ xs) (sym (append_assoc (acknowledgements k (base_of w n).messages) (due k (is_active_at w at) (outbox_of w n)) (due k (active_behind w at) turned.entries)))
      ∙ sym (append_assoc (acknowledged_in at v.inbox) (acknowledgements k (base_of w n).messages ++ due k (is_active_at w at) (outbox_of w n)) (due k (active_behind w at) turned.entries))

  active_then : active_behind v at ≡ active_all k (active_behind w at) turned.entries
  active_then = ap (λ (b : Bool). active_all k b (outbox_of v n)) active_same ∙ ap (active_all k (is_active_at w at)) turned.outbox ∙ active-append k (is_active_at w at) (outbox_of w n) turned.entries

  tenure_then : (tenure_behind v at).number ≡ tenure_all k (active_behind w at) (tenure_behind w at).number turned.entries
  tenure_then =
      ap (λ (b : Bool). tenure_all k b (spot_at v at).tenure (outbox_of v n)) active_same
      ∙ ap (λ (m : ℕ). tenure_all k (is_active_at w at) m (outbox_of v n)) turned.tenure
      ∙ ap (tenure_all k (is_active_at w at) (spot_at w at).tenure) turned.outbox
      ∙ tenure-append k (is_active_at w at) (spot_at w at).tenure (outbox_of w n) turned.entries

  -- what is still on its way after the acknowledgement was taken
  heard_comes : (way : IsOnItsWay w at state) → IsOwed k (hear heard state) (rest ++ way.lost)
  heard_comes way = comes_heard k heard state (rest ++ way.lost) turned.one (subst (IsOwed k state) (ap (λ (xs : List Rsl). xs ++ way.lost) to_arrive_is ∙ append_assoc heard rest way.lost) way.owed)

  -- ---- the link is up, and the controller hears it

  put_up : hears t.next n ≡ true →
      is_up w n ≡ true →
      Puts owner at (active_behind w at) (tenure_behind w at).number (entries_to at target t.outs) (hear heard state) (channel_state t.next at)
  put_up hearing up =
      runs_put_before owner at target (tenure_behind w at).number (serves.moves hearing) (serves.fits hearing up) (active_behind w at)
      ((agrees.way (serves.hearing hearing)).active up ∙ sym (hear-use heard state))

  line_of : (es : List OutboxEntry) →
      turned.entries ≡ es →
      AreFitting owner at (active_behind w at) (tenure_behind w at).number es →
      AreFitting owner at (is_active_at v at) (spot_at v at).tenure (outbox_of v n)
  line_of es is fits =
      subst (λ (b : Bool). AreFitting owner at b (spot_at v at).tenure (outbox_of v n)) (sym active_same)
      (subst (λ (m : ℕ). AreFitting owner at (is_active_at w at) m (outbox_of v n)) (sym turned.tenure)
      (subst (AreFitting owner at (is_active_at w at) (spot_at w at).tenure) (sym (turned.outbox ∙ ap (λ (xs : List OutboxEntry). outbox_of w n ++ xs) is))
      (fitting_append owner at (is_active_at w at) (spot_at w at).tenure (outbox_of w n) es agrees.line fits)))

  line_by : (up hearing : Bool) →
      is_up w n ≡ up →
      hears t.next n ≡ hearing →
      AreFitting owner at (is_active_at v at) (spot_at v at).tenure (outbox_of v n)
  line_by false hearing down h = line_of [] (turned.down down) tt
  line_by true false up deaf = line_of [] (turned.joins up ∙ serves.silent deaf) tt
  line_by true true up hearing = line_of (entries_to at target t.outs) (turned.joins up) (put_up hearing up).works.fits

  way_by : hears t.next n ≡ true → (up : Bool) → is_up w n ≡ up → IsOnItsWay v at (channel_state t.next at)
  way_by hearing true up =
      let way = agrees.way (serves.hearing hearing) in
      let puts = put_up hearing up in
      let before : IsOwed k (hear heard state) rest = subst (IsOwed k (hear heard state)) (ap (λ (xs : List Rsl). rest ++ xs) (way.all up) ∙ append-nil rest) (heard_comes way) in
      record {
        lost = [];
        owed = subst (IsOwed k (channel_state t.next at)) (sym (append-nil (to_arrive v at) ∙ comes_then ∙ ap (λ (es : List OutboxEntry). rest ++ due k (active_behind w at) es) (turned.joins up))) (puts.works.owed rest before);
        all = λ _. refl;
        active = λ _. active_then ∙ ap (active_all k (active_behind w at)) (turned.joins up) ∙ puts.works.active_then;
      }
  way_by hearing false down =
      let way = agrees.way (serves.hearing hearing) in
      let lost = (lost_in_run (serves.moves hearing) rest way.lost (heard_comes way)).0 in
      let same : to_arrive v at ≡ rest = comes_then ∙ ap (λ (es : List OutboxEntry). rest ++ due k (active_behind w at) es) (turned.down down) ∙ append-nil rest in
      record {
        lost = lost.0;
        owed = subst (λ (xs : List Rsl). IsOwed k (channel_state t.next at) (xs ++ lost.0)) (sym same) lost.1;
        all = λ up. absurd (false_true (sym down ∙ sym turned.up ∙ up));
        active = λ up. absurd (false_true (sym down ∙ sym turned.up ∙ up));
      }

  own_kept : (number mobile : ℕ) →
      hears t.next n ≡ true →
      asker t.next number ≡ Some mobile →
      hear heard state ≡ InUse number →
      (tenure_behind v at).number ≡ (tenure_behind w at).number →
      (is_up w n ≡ false → to_arrive w at ≡ [] → ⊥) →
      owner (tenure_behind v at) ≡ mobile
  own_kept number mobile hearing asks used same reaches =
      let was : state ≡ InUse number = hear_in_use heard state number used in
      ap (λ (m : ℕ). owner (record { at = at; number = m })) same ∙ agrees.own number mobile (serves.hearing hearing) was (serves.users number mobile asks was) reaches

  own_by : (number mobile : ℕ) →
      hears t.next n ≡ true →
      channel_state t.next at ≡ InUse number →
      asker t.next number ≡ Some mobile →
      (is_up v n ≡ false → to_arrive v at ≡ [] → ⊥) →
      (up : Bool) →
      is_up w n ≡ up →
      owner (tenure_behind v at) ≡ mobile
  own_by number mobile hearing used asks reaches true up =
      let puts = put_up hearing up in
      let last : (tenure_behind v at).number ≡ puts.last = tenure_then ∙ ap (tenure_all k (active_behind w at) (tenure_behind w at).number) (turned.joins up) ∙ puts.works.tenure_then in
      elim puts.counts [
        | inl kept ↦ own_kept number mobile hearing asks (kept.1 number used) (last ∙ kept.0) (λ down silent. absurd (false_true (sym down ∙ up)))
        | inr next ↦ begun number mobile up used asks (last ∙ next.0)
      ]
  own_by number mobile hearing used asks reaches false down =
      let way = agrees.way (serves.hearing hearing) in
      let same : to_arrive v at ≡ rest = comes_then ∙ ap (λ (es : List OutboxEntry). rest ++ due k (active_behind w at) es) (turned.down down) ∙ append-nil rest in
      elim (lost_in_run (serves.moves hearing) rest way.lost (heard_comes way)).1 [
        | inl kept ↦ own_kept number mobile hearing asks (kept number used) (tenure_then ∙ ap (tenure_all k (active_behind w at) (tenure_behind w at).number) (turned.down down))
            (λ gone silent. reaches (turned.up ∙ gone) (same ∙ (both_empty heard rest (sym silent ∙ to_arrive_is)).1))
        | inr free ↦ absurd (reaches (turned.up ∙ down) (same ∙ (both_empty rest way.lost (sym (none_free (rest ++ way.lost) (hear heard state) free (heard_comes way)))).0))
      ] where
        none_free : (xs : List Rsl) (now : ChannelState) → now ≡ Free → IsOwed k now xs → xs ≡ []
        none_free xs Free is nothing = refl
        none_free xs _ is owed = absurd cc

  pub turn_agrees : Agrees owner v at
  turn_agrees = record {
    line = line_by (is_up w n) (hears t.next n) refl refl;
    way = subst (λ (c : Controller). hears c n ≡ true → IsOnItsWay v at (channel_state c at)) (sym turned.controller) (λ hearing. way_by hearing (is_up w n) refl);
    own = subst (λ (c : Controller). (number mobile : ℕ) → hears c n ≡ true → channel_state c at ≡ InUse number → asker c number ≡ Some mobile → (is_up v n ≡ false → to_arrive v at ≡ [] → ⊥) → owner (tenure_behind v at) ≡ mobile) (sym turned.controller)
        (λ number mobile hearing used asks reaches. own_by number mobile hearing used asks reaches (is_up w n) refl);
  }
