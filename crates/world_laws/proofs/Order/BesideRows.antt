-- SPDX-License-Identifier: MIT OR Apache-2.0
-- Definitions at literal values: which entries activate channel 8 or send on it, what waits, and
-- what is quiet.
use Rattle.world_laws.proofs.Prelude.{◌≡◌, ℕ, true, false, [], ◌∷◌, Some, None, refl, sym, ap, ◌∙◌, Place, Activation, DataMessage, Rsl}
use Rattle.world_laws.proofs.Prelude.{ChannelActivation, DataRequest, RfChannelRelease, AirMessage, OutboxEntry, rsl_in, Actors}
use Rattle.world_laws.proofs.Prelude.{is_active_at, spot_at, NoDataOn, Quiet, Waits, here, later}
use Rattle.world_laws.specs.Order.QuietDown.{activates}
use Rattle.world_laws.specs.Order.QuietDown.Quiet.{waits, begun}

abbrev activation : Activation → ℕ → Rsl
activation a channel = ChannelActivation (record a { channel = channel })

abbrev request : DataMessage → ℕ → Rsl
request d channel = DataRequest (record d { channel = channel })

-- ---- what activates channel 8

activates_own : (a : Activation) → activates 8 (Some (activation a 8)) ≡ true
activates_own a = refl

activates_next : (a : Activation) → activates 8 (Some (activation a 9)) ≡ false
activates_next a = refl

release_activates : activates 8 (Some (RfChannelRelease 8)) ≡ false
release_activates = refl

nothing_activates : activates 8 None ≡ false
nothing_activates = refl

-- ---- what is no DATA REQUEST for it

not_request : (d : DataMessage) → NoDataOn 8 (Some (request d 8)) → ⊥
not_request d none = none (record d { channel = 8 }) refl refl

nothing_sent : NoDataOn 8 None
nothing_sent d is on = absurd (cc is)

release_sends : NoDataOn 8 (Some (RfChannelRelease 8))
release_sends d is on = absurd (cc is)

-- ---- what waits

empty_waits : Waits 8 [] → ⊥
empty_waits w = elim w [ ]

own_waits : (x : OutboxEntry) (a : Activation) → rsl_in x.out.frame ≡ Some (activation a 8) → Waits 8 (x ∷ [])
own_waits x a is = here (ap (activates 8) is) tt

behind_another : (x y : OutboxEntry) (a b : Activation) →
    rsl_in x.out.frame ≡ Some (activation a 9) →
    rsl_in y.out.frame ≡ Some (activation b 8) →
    Waits 8 (x ∷ y ∷ [])
behind_another x y a b other own = later (ap (activates 8) other) (own_waits y b own)

next_waits : (x : OutboxEntry) (a : Activation) → rsl_in x.out.frame ≡ Some (activation a 9) → Waits 8 (x ∷ []) → ⊥
next_waits x a is (here own none) = absurd (let both : true ≡ false = sym own ∙ ap (activates 8) is in cc)
next_waits x a is (later other w) = elim w [ ]

sent_behind : (x y : OutboxEntry) (a : Activation) (d : DataMessage) →
    rsl_in x.out.frame ≡ Some (activation a 8) →
    rsl_in y.out.frame ≡ Some (request d 8) →
    Waits 8 (x ∷ y ∷ []) →
    ⊥
sent_behind x y a d own sent (here is none) = none.0 (record d { channel = 8 }) sent refl
sent_behind x y a d own sent (later other w) = absurd (let both : true ≡ false = sym (ap (activates 8) own) ∙ other in cc)

-- ---- what is quiet: not an active channel with something in its air

loud : (w : Actors) (at : Place) (m : AirMessage) → is_active_at w at ≡ true → (spot_at w at).air ≡ m ∷ [] → Quiet w at → ⊥
loud w at m active full (waits idle waiting) = absurd (let both : true ≡ false = sym active ∙ idle in cc)
loud w at m active full (begun none waiting) = absurd (let both : m ∷ [] ≡ [] = sym full ∙ none in cc)
