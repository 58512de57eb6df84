-- SPDX-License-Identifier: MIT OR Apache-2.0
-- What arrives first from a target to which the mobile was commanded is COMPLETE, and says so.
use Rattle.world_laws.proofs.Prelude.{◌≡◌, ◌≢◌, ℕ, ◌==◌, ◌&&◌, Bool, true, false, if◌then◌else◌, List, [], ◌∷◌, ◌++◌, option_to_list}
use Rattle.world_laws.proofs.Prelude.{Option, Some, None, refl, sym, ap, ◌∙◌, subst, eqb-true, eq-eqb, flat_map, NORMAL_EVENT, Change}
use Rattle.world_laws.proofs.Prelude.{Assignment, Handover, Place, SWITCH_LINK, Target, changes_by, is_target_at, is_dtap, same_change}
use Rattle.world_laws.proofs.Prelude.{brought_by, brought_in, brought_with, if_held, nothing, ChannelState, InUse, Take, OnChannel}
use Rattle.world_laws.proofs.Prelude.{channel_state, holder, hears, place_at, place_of, data_word, rsl_word, sapi_of, Sapi, Zero, Frame}
use Rattle.world_laws.proofs.Prelude.{Item, DataMessage, Rsl, complete, rsl_in, Actors, base_of, IsKnownItem, both_empty, same_Some}
use Rattle.world_laws.proofs.Prelude.{of_frame}
use Rattle.world_laws.proofs.Prelude.{word_of, RrCause, messages_in, ends_up, messages_up, read_of, brings, brings_if, brings_in}
use Rattle.world_laws.proofs.Prelude.{of_establishment, of_main, initial_by, initials_up, BeginWith}
use Rattle.conn_rules.specs.declared.input.Input.TheVariants as inputs
use Rattle.ruled_relay.specs.declared.item.What.TheVariants as whats
use Rattle.rsl_codec.specs.declared.rsl.Rsl.TheVariants as rsl
use Rattle.world_model.proofs.Worlds.{on_literals}
use Rattle.world_laws.proofs.OrderHeard.{read_known, word_known}
use Rattle.world_laws.proofs.Targets.RoleMoves.{role}

-- ---- what COMPLETE says

complete_word : (at : Place) (change : Change) →
    (cause : RrCause) × (data_word (is_dtap (complete change)) at (Some Zero) (complete change) ≡ OnChannel at (inputs.Complete at change cause))
unfolding on_literals
complete_word at Assignment = (record { 0 = NORMAL_EVENT }, refl)
complete_word at Handover = (record { 0 = NORMAL_EVENT }, refl)

same_changes : (change : Change) → same_change change change ≡ true
same_changes Assignment = refl
same_changes Handover = refl

pub hits : (t : Target) → is_target_at (place_of t.channel) (Some (role t true)) && changes_by t.change (Some (role t true)) ≡ true
hits t =
    ap (λ (b : Bool). (b && (t.channel.number == t.channel.number)) && same_change t.change t.change) (eq-eqb t.channel.station t.channel.station refl)
    ∙ ap (λ (b : Bool). b && same_change t.change t.change) (eq-eqb t.channel.number t.channel.number refl) ∙ same_changes t.change

-- ---- a message of the channel that brings something

data Brings-data (k : ℕ) (m : Rsl) : Type 0 where
  as_data : (d : DataMessage) →
      m ≡ rsl.DataIndication d →
      d.channel ≡ k →
      sapi_of d.link ≡ Some Zero →
      messages_in (brings k m) ≡ d.l3 ∷ [] →
      Brings-data k m

main_zero : (o : Option Sapi) (l3 : List ℕ) → (messages_in (of_main o l3) ≡ [] → ⊥) → o ≡ Some Zero
main_zero (Some Zero) l3 some = refl
main_zero _ l3 some = absurd (some refl)

brings_data : (k : ℕ) (m : Rsl) → initial_by k m ≡ [] → (messages_in (brings k m) ≡ [] → ⊥) → Brings-data k m
brings_data k (rsl.EstablishIndication e) none some = absurd (some (by (e.channel == k) none)) where
  by : (b : Bool) →
      (if b then messages_in (of_establishment (sapi_of e.link) e.l3) else []) ≡ [] →
      messages_in (if b then of_establishment (sapi_of e.link) e.l3 else []) ≡ []
  by true is = is
  by false is = refl
brings_data k (rsl.DataIndication d) none some = by (d.channel == k) refl some where
  by : (b : Bool) →
      (d.channel == k) ≡ b →
      (messages_in (if b then of_main (sapi_of d.link) d.l3 else []) ≡ [] → ⊥) →
      Brings-data k (rsl.DataIndication d)
  by false miss more = absurd (more refl)
  by true hit more =
      let zero : sapi_of d.link ≡ Some Zero = main_zero (sapi_of d.link) d.l3 more in
      as_data d refl (eqb-true d.channel k hit) zero (ap (λ (b : Bool). messages_in (if b then of_main (sapi_of d.link) d.l3 else [])) hit ∙ ap (λ (o : Option Sapi). messages_in (of_main o d.l3)) zero)
brings_data k (rsl.RfChannelReleaseAck channel) none some = absurd (some (by (channel == k))) where
  by : (b : Bool) → messages_in (if b then ends_up ∷ [] else []) ≡ []
  by true = refl
  by false = refl
brings_data k _ none some = absurd (some refl)

-- ---- the first item of the inbox

begin_here : (text x : List ℕ) (xs ys rest : List (List ℕ)) → xs ≡ x ∷ [] → ys ≡ xs ++ rest → BeginWith text ys → x ≡ text
begin_here text x xs ys rest one all first = subst (BeginWith text) (all ∙ ap (λ (zs : List (List ℕ)). zs ++ rest) one) first

module _ (w : Actors) (source : ℕ) (frame : Frame) (items : List Item) (pending : w.inbox ≡ record { source = source; what = whats.Frame frame } ∷ items) (known : IsKnownItem (record { source = source; what = whats.Frame frame })) (t : Target) (n : ℕ) (station_is : t.channel.station ≢ SWITCH_LINK)
    (used : channel_state w.controller (place_of t.channel) ≡ InUse n) (hearing : hears w.controller t.channel.station ≡ true) (none : initials_up w (place_of t.channel) ≡ []) (arriving rest : List (List ℕ)) (all : arriving ≡ messages_in (brings_in (place_of t.channel) (record { source = source; what = whats.Frame frame })) ++ rest) (first : BeginWith (complete t.change) arriving) where
  abbrev at : Place
  at = place_of t.channel

  abbrev Says : Type 0
  Says = (cause : RrCause) × (brought_in w.controller n (Take (record { source = source; what = whats.Frame frame })) ≡ of_frame (inputs.Complete at t.change cause))

  -- no initial message is among it
  no_initial : (m : Rsl) → source ≡ at.station → rsl_in frame ≡ Some m → initial_by at.number m ≡ []
  no_initial m here says =
      let read : messages_up w at.station ≡ (m ∷ []) ++ (flat_map (read_of at.station) items ++ (base_of w at.station).messages) =
      ap (λ (xs : List Item). flat_map (read_of at.station) xs ++ (base_of w at.station).messages) pending
      ∙ ap (λ (b : Bool). ((if b then option_to_list (rsl_in frame) else []) ++ flat_map (read_of at.station) items) ++ (base_of w at.station).messages) (eq-eqb source at.station here)
      ∙ ap (λ (o : Option Rsl). (option_to_list o ++ flat_map (read_of at.station) items) ++ (base_of w at.station).messages) says in
      (both_empty (initial_by at.number m) (flat_map (initial_by at.number) (flat_map (read_of at.station) items ++ (base_of w at.station).messages)) (sym (ap (flat_map (initial_by at.number)) (sym read) ∙ none))).0

  says_data : (m : Rsl) →
      source ≡ at.station →
      rsl_in frame ≡ Some m →
      messages_in (brings at.number m) ≡ messages_in (brings_in at (record { source = source; what = whats.Frame frame })) →
      Brings-data at.number m →
      Says
  says_data m here says same (as_data d is on zero one) =
      let l3 : d.l3 ≡ complete t.change = begin_here (complete t.change) d.l3 (messages_in (brings_in at (record { source = source; what = whats.Frame frame }))) arriving rest (sym same ∙ one) all first in
      let other : source ≢ SWITCH_LINK = (λ switch. station_is (sym here ∙ switch)) in
      let made = known.station other in
      let word : word_of source frame ≡ rsl_word source (rsl.DataIndication d) =
      ap (word_of source) made.1 ∙ word_known source made.0 other made.2 ∙ ap (rsl_word source) (same_Some _ _ (sym (ap rsl_in made.1 ∙ read_known made.0 made.2) ∙ says ∙ ap (λ (x : Rsl). Some x) is)) in
      let place : place_at source d.channel ≡ at = ap (λ (k : ℕ). place_at k d.channel) here ∙ ap (place_at at.station) on in
      let complete_is = complete_word at t.change in
      let told : word_of source frame ≡ OnChannel at (inputs.Complete at t.change complete_is.0) =
      word ∙ ap (λ (o : Option Sapi). data_word (is_dtap d.l3) (place_at source d.channel) o d.l3) zero ∙ ap (λ (p : Place). data_word (is_dtap d.l3) p (Some Zero) d.l3) place ∙ ap (λ (x : List ℕ). data_word (is_dtap x) at (Some Zero) x) l3 ∙ complete_is.1 in (
        complete_is.0,
        ap (λ (b : Bool). if b then brought_with w.controller n source (whats.Frame frame) else nothing) (ap (hears w.controller) here ∙ hearing)
            ∙ ap (brought_by w.controller n) told
            ∙ ap (λ (x : ChannelState). if_held n (holder x) (inputs.Complete at t.change complete_is.0)) used
            ∙ ap (λ (b : Bool). if b then of_frame (inputs.Complete at t.change complete_is.0) else nothing) (eq-eqb n n refl),
      )

  pub says_complete : (messages_in (brings_in at (record { source = source; what = whats.Frame frame })) ≡ [] → ⊥) → Says
  says_complete some = by (source == at.station) refl where
    inner : (o : Option Rsl) → rsl_in frame ≡ o → (source == at.station) ≡ true → Says
    inner None says here = absurd (some (ap (λ (b : Bool). messages_in (if b then brings_if at.number (rsl_in frame) else [])) here ∙ ap (λ (o : Option Rsl). messages_in (brings_if at.number o)) says))
    inner (Some m) says here =
        let same : messages_in (brings at.number m) ≡ messages_in (brings_in at (record { source = source; what = whats.Frame frame })) =
        sym (ap (λ (b : Bool). messages_in (if b then brings_if at.number (rsl_in frame) else [])) here ∙ ap (λ (o : Option Rsl). messages_in (brings_if at.number o)) says) in
        says_data m (eqb-true source at.station here) says same (brings_data at.number m (no_initial m (eqb-true source at.station here) says) (λ nothing_arrives. some (sym same ∙ nothing_arrives)))

    by : (b : Bool) → (source == at.station) ≡ b → Says
    by true here = inner (rsl_in frame) refl here
    by false miss = absurd (some (ap (λ (b : Bool). messages_in (if b then brings_if at.number (rsl_in frame) else [])) miss))
