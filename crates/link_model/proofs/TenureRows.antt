-- SPDX-License-Identifier: MIT OR Apache-2.0
-- Tenures at literal messages of channel 41: sequences that are possible, and others that aren't.
use Rattle.std.proofs.Common.{◌≡◌, ℕ, Bool, true, false, true≢false, List, [], ◌∷◌, map, Some, None, refl, sym}
use Rattle.octets.proofs.Hex.{hex}
use Rattle.link_model.specs.Tenures.{is_brought_on, is_bound_of, Tenures}
use Rattle.link_model.specs.Tenures.Tenures.{over, begins, brings, ends, apart}
use Rattle.rsl_codec.specs.declared.rsl.Rsl.{Rsl}
use Rattle.rsl_codec.specs.declared.rsl.Rsl.TheVariants as messages

abbrev activated : ℕ → Rsl
activated channel = messages.ChannelActivationAck (record { channel = channel; frame = Some (record { 0 = 0 }) })

abbrev established : ℕ → Rsl
established channel = messages.EstablishIndication (record { channel = channel; link = 0x00; l3 = Some (hex "05 24 71") })

abbrev dtap : ℕ → Rsl
dtap channel = messages.DataIndication (record { channel = channel; link = 0x03; l3 = hex "09 01" })

abbrev released : ℕ → Rsl
released channel = messages.RfChannelReleaseAck channel

abbrev detected : Rsl
detected = messages.HandoverDetection (record { channel = 0x41; access_delay = None })

abbrev confirmed : Rsl
confirmed = messages.EstablishConfirm (record { channel = 0x41; link = 0x00 })

abbrev gone : Rsl
gone = messages.ReleaseIndication (record { channel = 0x41; link = 0x00 })

-- ---- what is of channel 41: what a mobile brings on it, and the bounds of its tenures

abbrev one_of_each : List Rsl
one_of_each =
    established 0x41 ∷ dtap 0x41 ∷ activated 0x41 ∷ released 0x41 ∷ detected ∷ confirmed ∷ gone
    ∷ established 0x0a ∷ dtap 0x0a ∷ activated 0x0a ∷ released 0x0a ∷ []

brought_on_it : map (is_brought_on 0x41) one_of_each ≡
    true ∷ true ∷ false ∷ false ∷ false ∷ false ∷ false ∷ false ∷ false ∷ false ∷ false ∷ []
brought_on_it = refl

bounds_of_it : map (is_bound_of 0x41) one_of_each ≡
    false ∷ false ∷ true ∷ true ∷ false ∷ false ∷ false ∷ false ∷ false ∷ false ∷ false ∷ []
bounds_of_it = refl

-- ---- two tenures of it, among the messages of another channel

two_tenures : Tenures 0x41 false
    (released 0x41 ∷ dtap 0x0a ∷ activated 0x41 ∷ detected ∷ established 0x41 ∷ activated 0x0a ∷ dtap 0x41 ∷ released 0x0a
    ∷ released 0x41 ∷ released 0x41 ∷ activated 0x41 ∷ dtap 0x41 ∷ []) true
two_tenures =
    ends (apart refl refl (begins (apart refl refl (brings refl (apart refl refl (brings refl (apart refl refl
    (ends (ends (begins (brings refl (over true))))))))))))

-- ---- none of these

first_begins : {within end : Bool} {rest : List Rsl} → Tenures 0x41 within (activated 0x41 ∷ rest) end → within ≡ false
first_begins (begins later) = refl
first_begins (brings is later) = absurd (true≢false (sym is))
first_begins (apart free unbound later) = absurd (true≢false unbound)

behind_activation : {within end : Bool} {rest : List Rsl} → Tenures 0x41 within (activated 0x41 ∷ rest) end → Tenures 0x41 true rest end
behind_activation (begins later) = later
behind_activation (brings is later) = absurd (true≢false (sym is))
behind_activation (apart free unbound later) = absurd (true≢false unbound)

behind_release : {within end : Bool} {rest : List Rsl} → Tenures 0x41 within (released 0x41 ∷ rest) end → Tenures 0x41 false rest end
behind_release (ends later) = later
behind_release (brings is later) = absurd (true≢false (sym is))
behind_release (apart free unbound later) = absurd (true≢false unbound)

none_established_outside : {end : Bool} {rest : List Rsl} → Tenures 0x41 false (established 0x41 ∷ rest) end → ⊥
none_established_outside (apart free unbound later) = true≢false free

no_dtap_outside : {end : Bool} {rest : List Rsl} → Tenures 0x41 false (dtap 0x41 ∷ rest) end → ⊥
no_dtap_outside (apart free unbound later) = true≢false free

no_dtap_after_release : {end : Bool} → Tenures 0x41 false (activated 0x41 ∷ released 0x41 ∷ dtap 0x41 ∷ []) end → ⊥
no_dtap_after_release tenures = no_dtap_outside (behind_release (behind_activation tenures))

not_activated_twice : {end : Bool} → Tenures 0x41 false (activated 0x41 ∷ activated 0x41 ∷ []) end → ⊥
not_activated_twice tenures = true≢false (first_begins (behind_activation tenures))

-- where messages lead: an activation to within, a release to outside, others to where they began
over_there : {within end : Bool} → Tenures 0x41 within [] end → within ≡ end
over_there (over within) = refl

not_outside_once_activated : Tenures 0x41 false (activated 0x41 ∷ []) false → ⊥
not_outside_once_activated tenures = true≢false (over_there (behind_activation tenures))

not_within_once_released : Tenures 0x41 true (released 0x41 ∷ []) true → ⊥
not_within_once_released tenures = true≢false (sym (over_there (behind_release tenures)))

not_ended_by_dtap : Tenures 0x41 true (dtap 0x41 ∷ []) false → ⊥
not_ended_by_dtap (brings is later) = true≢false (over_there later)
not_ended_by_dtap (apart free unbound later) = true≢false free

not_begun_by_another : Tenures 0x41 false (activated 0x0a ∷ []) true → ⊥
not_begun_by_another (apart free unbound later) = true≢false (sym (over_there later))

not_ended_by_another : Tenures 0x41 true (released 0x0a ∷ []) false → ⊥
not_ended_by_another (brings is later) = true≢false (sym is)
not_ended_by_another (apart free unbound later) = true≢false (over_there later)
