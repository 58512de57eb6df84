-- SPDX-License-Identifier: MIT OR Apache-2.0
-- The messages that stations make can be written, and are read as they were made.
use Rattle.world_model.proofs.Prelude.{◌≡◌, ℕ, suc, ◌<◌, ◌≤◌, ◌||◌, not, nat_lt, nat_eq, Bool, true, false, cond, List, [], ◌∷◌, length}
use Rattle.world_model.proofs.Prelude.{get_or, set, Some, None, Ok, refl, sym, ap, ◌∙◌, subst, inl, inr, arith, AllByRecursion, cases_Bool}
use Rattle.world_model.proofs.Prelude.{eqb-true, eqb-false, ne_eqb, append-nil, AllByRecursion-append, Sapi, Zero, BaseState, is_active}
use Rattle.world_model.proofs.Prelude.{after_activate, after_release, after_tell, activation_ack, establish_indication, data_indication}
use Rattle.world_model.proofs.Prelude.{is_channel, Rsl, RfChannelReleaseAck, IsL3, rsl_text, AllByRecursion-filter, messages_behind_first}
use Rattle.world_model.proofs.Prelude.{MESSAGE_LIMIT, ChannelActivationNack, IsLawful, IsRsl, rsl_reading, link_answer, Station, no_station}
use Rattle.rsl_codec.specs.declared.fault.RslFault.TheVariants.{Short, TooLong}
use Rattle.rsl_codec.specs.RslText.{rsl_write_fault}
use Rattle.rsl_codec.proofs.Messages.{rsl_text_is_text, text_is_read}
use Rattle.world_model.specs.Mobiles.{channel_required, handover_detection, measurement_result}
use Rattle.world_model.proofs.Honesty.{set-or-not, set-elsewhere}

-- ---- sound messages

-- no station refuses an activation
abbrev pub is_nack : Rsl → Bool
is_nack (ChannelActivationNack refused) = true
is_nack message = false

pub record IsSound (message : Rsl) : Type 0 where
  pub kind : is_nack message ≡ false
  pub lawful : IsLawful message
  pub written : rsl_write_fault message ≡ None

pub sound_read : (message : Rsl) → IsSound message → rsl_reading (rsl_text message) ≡ Ok message
sound_read message sound = text_is_read (rsl_text message) message
    (subst (λ (octets : List ℕ). IsRsl octets message) (append-nil (rsl_text message)) (rsl_text_is_text message [] sound.lawful sound.written tt))

fault_free : (l3 : List ℕ) →
    IsL3 (Some l3) →
    cond (nat_eq (length l3) 0) (Some Short) (cond (nat_lt MESSAGE_LIMIT (length l3) || false) (Some TooLong) None) ≡ None
fault_free l3 (some, few) =
    ap (λ (b : Bool). cond b (Some Short) (cond (nat_lt MESSAGE_LIMIT (length l3) || false) (Some TooLong) None)) (ne_eqb (length l3) 0 (λ is. none is))
    ∙ ap (λ (b : Bool). cond (b || false) (Some TooLong) None) (short (length l3) few) where
      none : length l3 ≡ 0 → ⊥
      none is = absurd (omega arith)

      short : (n : ℕ) → n ≤ MESSAGE_LIMIT → nat_lt MESSAGE_LIMIT n ≡ false
      short n few = grind arith

sound_ack : (channel : ℕ) → is_channel channel ≡ true → IsSound (activation_ack channel)
unfolding rsl_write_fault
sound_ack channel is = record { kind = refl; lawful = (is, tt); written = refl }

sound_release : (channel : ℕ) → is_channel channel ≡ true → IsSound (RfChannelReleaseAck channel)
unfolding rsl_write_fault
sound_release channel is = record { kind = refl; lawful = (is, tt); written = refl }

pub sound_answer : (answer : Bool) (channel : ℕ) → is_channel channel ≡ true → IsSound (link_answer answer channel)
unfolding rsl_write_fault
sound_answer true channel is = record { kind = refl; lawful = (is, tt); written = refl }
sound_answer false channel is = record { kind = refl; lawful = (is, tt); written = refl }

pub sound_request : (number : ℕ) → IsSound (channel_required number)
unfolding rsl_write_fault
sound_request number = record { kind = refl; lawful = (refl, tt); written = refl }

pub sound_detection : (channel : ℕ) → is_channel channel ≡ true → IsSound (handover_detection channel)
unfolding rsl_write_fault
sound_detection channel is = record { kind = refl; lawful = (is, tt); written = refl }

pub sound_establishment : (channel : ℕ) (sapi : Sapi) → is_channel channel ≡ true → IsSound (establish_indication channel sapi None)
unfolding rsl_write_fault
sound_establishment channel sapi is = record { kind = refl; lawful = (is, tt); written = refl }

pub sound_initial : (channel : ℕ) (frame : List ℕ) →
    is_channel channel ≡ true →
    IsL3 (Some frame) →
    IsSound (establish_indication channel Zero (Some frame))
unfolding rsl_write_fault
sound_initial channel frame is l3 = record { kind = refl; lawful = (is, l3); written = fault_free frame l3 }

pub sound_data : (channel : ℕ) (sapi : Sapi) (frame : List ℕ) →
    is_channel channel ≡ true →
    IsL3 (Some frame) →
    IsSound (data_indication channel sapi frame)
unfolding rsl_write_fault
sound_data channel sapi frame is l3 = record { kind = refl; lawful = (is, l3); written = fault_free frame l3 }

pub sound_report : (channel number : ℕ) (report : List ℕ) →
    is_channel channel ≡ true →
    length report ≡ 16 →
    IsSound (measurement_result channel number report)
unfolding rsl_write_fault
sound_report channel number report is sixteen =
    let l3 : IsL3 (Some (0x06 ∷ 0x15 ∷ report)) = (some (length report), few (length report) sixteen) in
    record { kind = refl; lawful = (is, l3); written = fault_free (0x06 ∷ 0x15 ∷ report) l3 } where
      some : (n : ℕ) → 0 < suc (suc n)
      some n = omega arith

      few : (n : ℕ) → n ≡ 16 → suc (suc n) ≤ MESSAGE_LIMIT
      few n is = omega arith

-- ---- ends of stations

pub record SoundEnd (base : BaseState) : Type 0 where
  pub channels : AllByRecursion (λ channel. is_channel channel ≡ true) base.active
  pub made : AllByRecursion IsSound base.messages

pub sound_tell : (base : BaseState) (message : Rsl) → IsSound message → SoundEnd base → SoundEnd (after_tell base message)
sound_tell base message is sound = record { channels = sound.channels; made = AllByRecursion-append IsSound base.messages (message ∷ []) sound.made (is, tt) }

pub sound_activated : (base : BaseState) (channel : ℕ) → is_channel channel ≡ true → SoundEnd base → SoundEnd (after_activate base channel)
sound_activated base channel is sound = record {
  channels = AllByRecursion-append (λ channel. is_channel channel ≡ true) base.active (channel ∷ []) sound.channels (is, tt);
  made = AllByRecursion-append IsSound base.messages (activation_ack channel ∷ []) sound.made (sound_ack channel is, tt);
}

pub sound_released : (base : BaseState) (channel : ℕ) → is_channel channel ≡ true → SoundEnd base → SoundEnd (after_release base channel)
sound_released base channel is sound = record {
  channels = AllByRecursion-filter (λ channel. is_channel channel ≡ true) (λ number. not (nat_eq number channel)) base.active sound.channels;
  made = AllByRecursion-append IsSound base.messages (RfChannelReleaseAck channel ∷ []) sound.made (sound_release channel is, tt);
}

pub sound_behind : (messages : List Rsl) → AllByRecursion IsSound messages → AllByRecursion IsSound (messages_behind_first messages)
sound_behind [] all = tt
sound_behind (first ∷ others) all = all.1

pub active_lawful : (active : List ℕ) (channel : ℕ) →
    AllByRecursion (λ channel. is_channel channel ≡ true) active →
    is_active active channel ≡ true →
    is_channel channel ≡ true
active_lawful [] channel all is = absurd cc
active_lawful (first ∷ others) channel all is =
    elim (cases_Bool (nat_eq first channel)) [
      | inl same ↦ subst (λ (n : ℕ). is_channel n ≡ true) (eqb-true first channel same) all.0
      | inr other ↦ active_lawful others channel all.1 (sym (ap (λ (b : Bool). b || is_active others channel) other) ∙ is)
    ]

-- ---- all ends

unfoldable pub Ends : List Station → Type 0
Ends stations = (k : ℕ) → SoundEnd (get_or stations k no_station).base

pub ends_set : (stations : List Station) (k : ℕ) (station : Station) → SoundEnd station.base → Ends stations → Ends (set stations k station)
unfolding Ends
ends_set stations k station sound ends j =
    elim (cases_Bool (nat_eq j k)) [
      | inl same ↦ subst (λ (i : ℕ). SoundEnd (get_or (set stations k station) i no_station).base) (sym (eqb-true j k same)) own
      | inr other ↦ subst (λ (s : Station). SoundEnd s.base) (sym (set-elsewhere stations k j station (eqb-false j k other))) (ends j)
    ] where
      own : SoundEnd (get_or (set stations k station) k no_station).base
      own = elim (set-or-not stations k station) [
        | inl there ↦ subst (λ (s : Station). SoundEnd s.base) (sym there) sound
        | inr nowhere ↦ subst (λ (s : Station). SoundEnd s.base) (sym nowhere.0) (record { channels = tt; made = tt })
      ]
