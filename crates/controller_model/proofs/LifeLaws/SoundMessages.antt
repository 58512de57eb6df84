-- SPDX-License-Identifier: MIT OR Apache-2.0
-- Messages that rows put can be written, and are read as they were put.
use Rattle.controller_model.proofs.Prelude.{◌≡◌, ℕ, ◌+◌, ◌≤◌, ◌||◌, nat_le, Bool, true, false, cond, if◌then◌else◌, List, length, Option}
use Rattle.controller_model.proofs.Prelude.{Some, None, refl, ap, ◌∙◌, arith, ne_eqb, Management, Bssmap, IsLayer3, is_dlci, Change}
use Rattle.controller_model.proofs.Prelude.{Assignment, Handover, Channel, BSS_NOT_EQUIPPED, IsSound, access_activation}
use Rattle.controller_model.proofs.Prelude.{channel_release, handing, immediate_assign_command, rf_channel_release, assignment_failure}
use Rattle.controller_model.proofs.Prelude.{change_complete, clear_complete, clear_request, complete_layer3, relaying, Sapi, Zero, Three}
use Rattle.controller_model.proofs.Prelude.{INITIAL_LIMIT, RequestReference, nat_lt, nat_eq, bssmap_size, content_fault, layer3_fault}
use Rattle.controller_model.proofs.Prelude.{IsReference, size_fault, BETTER_CELL, CIPHERING_NOT_SUPPORTED, activation, change_command}
use Rattle.controller_model.proofs.Prelude.{command, establish_request, dlci_on, LENGTH_LIMIT, MESSAGE_LIMIT, FIRST_SDCCH, FIRST_TCH_H}
use Rattle.controller_model.proofs.Prelude.{is_channel}
use Rattle.bssmap_codec.specs.declared.bssmap.Bssmap.TheVariants as bssmap
use Rattle.bssmap_codec.specs.declared.fault.InterfaceFault.TheVariants as interface
use Rattle.bssmap_codec.specs.declared.values.RrCause.{RrCause}
use Rattle.bssmap_codec.proofs.BssapTexts.{size_is}
use Rattle.conn_messages.specs.declared.parameters.TheConstants.{FULL_RATE_MODE, HALF_RATE_MODE, SACCH_SAPI_3_DLCI, SDCCH_MODE, SDCCH_SAPI_3_DLCI}
use Rattle.conn_messages.specs.Out.{IsCarried}
use Rattle.conn_messages.specs.SwitchMessage.{cause_of, cipher_mode_reject, management, sapi_3_reject}
use Rattle.dtap_codec.specs.RrText.{rr_text}
use Rattle.octets.specs.Refusal.{first_refusal}
use Rattle.rsl_codec.specs.declared.fault.RslFault.TheVariants.{Short, TooLong}
use Rattle.rsl_codec.specs.declared.values.ActivationType.{ActivationType}
use Rattle.rsl_codec.specs.declared.values.HandoverReference.{HandoverReference}
use Rattle.rsl_codec.specs.RslText.{rsl_write_fault}

-- a channel by whose values messages can be written
abbrev pub IsSoundChannel : Channel → Type 0
IsSoundChannel c = (is_channel c.number ≡ true) × (length c.cell ≡ 8)

-- ---- to a station

l3_free : (l3 : List ℕ) →
    IsLayer3 l3 →
    cond (nat_eq (length l3) 0) (Some Short) (cond (nat_lt MESSAGE_LIMIT (length l3) || false) (Some TooLong) None) ≡ None
l3_free l3 (some, few) =
    ap (λ (b : Bool). cond b (Some Short) (cond (nat_lt MESSAGE_LIMIT (length l3) || false) (Some TooLong) None)) (ne_eqb (length l3) 0 (λ is. none is))
    ∙ ap (λ (b : Bool). cond (b || false) (Some TooLong) None) (short (length l3) few)
  where
    none : length l3 ≡ 0 → ⊥
    none is = absurd (omega arith)

    short : (n : ℕ) → n ≤ MESSAGE_LIMIT → nat_lt MESSAGE_LIMIT n ≡ false
    short n few = grind arith

pub sound_handing : (c : Channel) (sapi : Sapi) (l3 : List ℕ) → IsSoundChannel c → IsLayer3 l3 → IsSound (handing c sapi l3)
unfolding rsl_write_fault
sound_handing c sapi l3 sound layer3 = (l3_free l3 layer3, (sound.0, (let some = layer3.0 in omega arith, layer3.1)))

pub sound_release_command : (c : Channel) (cause : ℕ) → IsSoundChannel c → IsSound (channel_release c cause)
sound_release_command c cause sound = sound_handing c Zero _ sound (omega arith, omega arith)

pub sound_command : (serving : Channel) (change : Change) (target : Channel) →
    IsSoundChannel serving →
    IsSound (change_command serving change target)
sound_command serving Assignment target sound = sound_handing serving Zero (rr_text (command Assignment target)) sound (omega arith, omega arith)
sound_command serving Handover target sound = sound_handing serving Zero (rr_text (command Handover target)) sound (omega arith, omega arith)

pub sound_establish : (c : Channel) → IsSoundChannel c → IsSound (establish_request c)
unfolding rsl_write_fault
sound_establish c sound = (refl, (sound.0, tt))

pub sound_rf_release : (c : Channel) → IsSoundChannel c → IsSound (rf_channel_release c)
unfolding rsl_write_fault
sound_rf_release c sound = (refl, (sound.0, tt))

pub sound_activation : (c : Channel) (kind : ActivationType) (reference : Option HandoverReference) →
    IsSoundChannel c →
    IsSound (activation c kind reference)
unfolding rsl_write_fault
sound_activation c kind reference sound = (by (nat_le FIRST_SDCCH c.number) (nat_le FIRST_TCH_H c.number), (sound.0, tt))
  where
    by : (a b : Bool) →
        cond (nat_lt LENGTH_LIMIT (length (if a then SDCCH_MODE else (if b then HALF_RATE_MODE else FULL_RATE_MODE)))) (Some TooLong) None ≡ None
    by false true = refl
    by _ _ = refl

pub sound_access : (c : Channel) → IsSoundChannel c → IsSound (access_activation c)
sound_access c sound = sound_activation c _ None sound

pub sound_immediate : (c : Channel) (request : RequestReference) (delay : ℕ) → IsSound (immediate_assign_command c request delay)
unfolding rsl_write_fault
sound_immediate c request delay = (refl, (refl, tt))

-- ---- to the switch

size_free : (n : ℕ) → n ≤ LENGTH_LIMIT → size_fault n ≡ None
size_free n few = ap (λ (b : Bool). if b then Some interface.TooLong else None) (short n few)
  where
    short : (n : ℕ) → n ≤ LENGTH_LIMIT → nat_lt LENGTH_LIMIT n ≡ false
    short n few = grind arith

carried_bssmap : (m : Bssmap) → content_fault m ≡ None → bssmap_size m + 2 ≤ LENGTH_LIMIT → IsCarried (Management m)
carried_bssmap m none few = record {
  written = ap (λ o. first_refusal o (size_fault (bssmap_size m))) none ∙ size_free (bssmap_size m) (omega arith);
  short = let size = size_is m in omega arith;
}

sound_management : (reference : ℕ) (m : Bssmap) →
    IsReference reference →
    content_fault m ≡ None →
    bssmap_size m + 2 ≤ LENGTH_LIMIT →
    IsSound (management reference m)
sound_management reference m is none few = (carried_bssmap m none few, (is, tt))

layer3_free : (message : List ℕ) → IsLayer3 message → layer3_fault message ≡ None
layer3_free message (some, few) =
    ap (λ (b : Bool). if b then Some interface.Short else (if nat_lt MESSAGE_LIMIT (length message) then Some interface.TooLong else None)) (ne_eqb (length message) 0 (λ is. none is))
    ∙ ap (λ (b : Bool). if b then Some interface.TooLong else None) (short (length message) few)
  where
    none : length message ≡ 0 → ⊥
    none is = absurd (omega arith)

    short : (n : ℕ) → n ≤ MESSAGE_LIMIT → nat_lt MESSAGE_LIMIT n ≡ false
    short n few = grind arith

pub sound_relaying : (reference : ℕ) (c : Channel) (sapi : Sapi) (message : List ℕ) →
    IsReference reference →
    IsLayer3 message →
    IsSound (relaying reference c sapi message)
sound_relaying reference c sapi message is layer3 = (record { written = layer3_free message layer3; short = let few = layer3.1 in omega arith }, (is, by sapi))
  where
    three : (b : Bool) → is_dlci (if b then SDCCH_SAPI_3_DLCI else SACCH_SAPI_3_DLCI) ≡ true
    three true = refl
    three false = refl

    by : (sapi : Sapi) → is_dlci (dlci_on c.number sapi) ≡ true
    by Zero = refl
    by Three = three (nat_le FIRST_SDCCH c.number)

pub sound_initial : (c : Channel) (initial : List ℕ) →
    IsSoundChannel c →
    IsLayer3 initial →
    length initial ≤ INITIAL_LIMIT →
    IsSound (complete_layer3 c initial)
sound_initial c initial sound layer3 few =
    let eight = sound.1 in
    (carried_bssmap (bssmap.CompleteLayer3Information (record { 0 = c.cell }) initial) (layer3_free initial layer3) (omega arith), tt)

pub sound_clear_request : (reference cause : ℕ) → IsReference reference → IsSound (clear_request reference cause)
sound_clear_request reference cause is = sound_management reference (bssmap.ClearRequest (cause_of cause)) is refl (omega arith)

pub sound_clear_complete : (reference : ℕ) → IsReference reference → IsSound (clear_complete reference)
sound_clear_complete reference is = sound_management reference bssmap.ClearComplete is refl (omega arith)

pub sound_assignment_failure : (reference cause : ℕ) (rr : Option RrCause) →
    IsReference reference →
    IsSound (assignment_failure reference cause rr)
sound_assignment_failure reference cause None is = sound_management reference (bssmap.AssignmentFailure (cause_of cause) None) is refl (omega arith)
sound_assignment_failure reference cause (Some rr) is = sound_management reference (bssmap.AssignmentFailure (cause_of cause) (Some rr)) is refl (omega arith)

pub sound_assigned : (reference : ℕ) (c : Channel) (cause : ℕ) →
    IsReference reference →
    IsSound (change_complete reference Assignment c cause)
sound_assigned reference c cause is = sound_management reference (bssmap.AssignmentComplete (Some (record { 0 = cause }))) is refl (omega arith)

pub sound_performed : (reference : ℕ) (c : Channel) (cause : ℕ) →
    IsReference reference →
    IsSoundChannel c →
    IsSound (change_complete reference Handover c cause)
sound_performed reference c cause is sound = let eight = sound.1 in sound_management reference (bssmap.HandoverPerformed (cause_of BETTER_CELL) (record { 0 = c.cell })) is refl (omega arith)

pub sound_reject : (reference : ℕ) (c : Channel) → IsReference reference → IsSound (sapi_3_reject reference c)
sound_reject reference c is = sound_management reference (bssmap.SapiNReject (record { 0 = dlci_on c.number Three }) (cause_of BSS_NOT_EQUIPPED)) is refl (omega arith)

pub sound_cipher_reject : (reference : ℕ) → IsReference reference → IsSound (cipher_mode_reject reference)
sound_cipher_reject reference is = sound_management reference (bssmap.CipherModeReject (cause_of CIPHERING_NOT_SUPPORTED)) is refl (omega arith)
