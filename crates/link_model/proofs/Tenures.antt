-- SPDX-License-Identifier: MIT OR Apache-2.0
-- The messages of a base station end are in tenures.
use Rattle.std.proofs.Common.{◌≡◌, ℕ, Bool, true, false, not, ◌||◌, Option, Some, None, List, [], ◌∷◌, ◌++◌, refl, sym, ap, ◌∙◌, subst, inl, inr, cond, filter, nat_eq}
use Rattle.std.proofs.Math.Bool.{or-false}
use Rattle.std.proofs.lemmas.Bool.{cases_Bool, cond-true, cond-false, eqb-true}
use Rattle.std.proofs.lemmas.List.Folds.{list_any-append}
use Rattle.link_model.specs.declared.fault.LinkFault.{LinkFault}
use Rattle.link_model.specs.declared.fault.LinkFault.TheVariants.{NotActive, Busy}
use Rattle.link_model.specs.BaseState.{BaseState}
use Rattle.link_model.specs.Message.{activation_ack, establish_indication, data_indication}
use Rattle.link_model.specs.Base.{is_active, new_base, after_activate, after_establish, after_up, is_told, after_tell}
use Rattle.link_model.specs.BaseCalls.{BaseCall, state_unless, after_call, after_calls, message_unless, messages_made_by_call, messages_made, messages_given}
use Rattle.link_model.specs.BaseCalls.BaseCall.{activates, establishes, brings_up, releases, tells, gives_next}
use Rattle.link_model.specs.Tenures.{is_brought_on, is_bound_of, Tenures}
use Rattle.link_model.specs.Tenures.Tenures.{over, begins, brings, ends, apart}
use Rattle.link_model.proofs.Giving.{given_calls}
use Rattle.rsl_codec.specs.declared.rsl.Rsl.{Rsl}
use Rattle.rsl_codec.specs.declared.rsl.Rsl.TheVariants as messages

-- tenures that go on
tenures_append : {channel : ℕ} {mid end : Bool} (ys : List Rsl) {within : Bool} {xs : List Rsl} →
    Tenures channel within xs mid →
    Tenures channel mid ys end →
    Tenures channel within (xs ++ ys) end
tenures_append ys (over within) later = later
tenures_append ys (begins first) later = begins (tenures_append ys first later)
tenures_append ys (brings is first) later = brings is (tenures_append ys first later)
tenures_append ys (ends first) later = ends (tenures_append ys first later)
tenures_append ys (apart free unbound first) later = apart free unbound (tenures_append ys first later)

-- the same from and to what is equal
tenures_at : {channel : ℕ} {a b d e : Bool} {xs : List Rsl} → a ≡ b → d ≡ e → Tenures channel b xs e → Tenures channel a xs d
tenures_at {channel} {b} {d} {xs} from to tenures =
    subst (λ (x : Bool). Tenures channel x xs d) (sym from) (subst (λ (x : Bool). Tenures channel b xs x) (sym to) tenures)

-- a channel is active after its activation, and the others are as they were
pub is_active-push : (active : List ℕ) (number channel : ℕ) →
    is_active (active ++ number ∷ []) channel ≡ (is_active active channel || (nat_eq number channel || false))
is_active-push active number channel = list_any-append (λ n. nat_eq n channel) active (number ∷ [])

activation : (channel number : ℕ) (active : List ℕ) →
    is_active active number ≡ false →
    Tenures channel (is_active active channel) (activation_ack number ∷ []) (is_active (active ++ number ∷ []) channel)
activation channel number active idle =
    elim (cases_Bool (nat_eq number channel)) [
      | inl same ↦
          let number_is : number ≡ channel = eqb-true number channel same in
          let before : is_active active channel ≡ false = ap (is_active active) (sym number_is) ∙ idle in
          let after : is_active (active ++ number ∷ []) channel ≡ true =
          is_active-push active number channel ∙ ap (λ (b : Bool). b || (nat_eq number channel || false)) before ∙ ap (λ (b : Bool). b || false) same in
          tenures_at before after (subst (λ (n : ℕ). Tenures channel false (activation_ack n ∷ []) true) (sym number_is) (begins (over true)))
      | inr other ↦
          let after : is_active (active ++ number ∷ []) channel ≡ is_active active channel =
          is_active-push active number channel ∙ ap (λ (b : Bool). is_active active channel || (b || false)) other ∙ or-false (is_active active channel) in
          tenures_at refl after (apart refl other (over (is_active active channel)))
    ]

-- what a mobile brings on an active channel
bringing : (channel number : ℕ) (active : List ℕ) (message : Rsl) →
    is_active active number ≡ true →
    is_brought_on channel message ≡ nat_eq number channel →
    is_bound_of channel message ≡ false →
    Tenures channel (is_active active channel) (message ∷ []) (is_active active channel)
bringing channel number active message up is unbound =
    elim (cases_Bool (nat_eq number channel)) [
      | inl same ↦
          let here : is_active active channel ≡ true = ap (is_active active) (sym (eqb-true number channel same)) ∙ up in
          tenures_at here here (brings (is ∙ same) (over true))
      | inr other ↦ apart (is ∙ other) unbound (over (is_active active channel))
    ]

-- a channel isn't active after its release, and the others are as they were
pub is_active-released : (channel : ℕ) (active : List ℕ) → is_active (filter (λ number. not (nat_eq number channel)) active) channel ≡ false
is_active-released channel [] = refl
is_active-released channel (n ∷ ns) =
    elim (cases_Bool (nat_eq n channel)) [
      | inl same ↦
          ap (λ (active : List ℕ). is_active active channel) (cond-false (not (nat_eq n channel)) (n ∷ filter (λ number. not (nat_eq number channel)) ns) (filter (λ number. not (nat_eq number channel)) ns) (ap not same))
          ∙ is_active-released channel ns
      | inr other ↦
          ap (λ (active : List ℕ). is_active active channel) (cond-true (not (nat_eq n channel)) (n ∷ filter (λ number. not (nat_eq number channel)) ns) (filter (λ number. not (nat_eq number channel)) ns) (ap not other))
          ∙ ap (λ (b : Bool). b || is_active (filter (λ number. not (nat_eq number channel)) ns) channel) other ∙ is_active-released channel ns
    ]

pub is_active-kept : (channel released : ℕ) (active : List ℕ) →
    nat_eq released channel ≡ false →
    is_active (filter (λ number. not (nat_eq number released)) active) channel ≡ is_active active channel
is_active-kept channel released [] differ = refl
is_active-kept channel released (n ∷ ns) differ =
    elim (cases_Bool (nat_eq n released)) [
      | inl same ↦
          let away : nat_eq n channel ≡ false = ap (λ (k : ℕ). nat_eq k channel) (eqb-true n released same) ∙ differ in
          ap (λ (active : List ℕ). is_active active channel) (cond-false (not (nat_eq n released)) (n ∷ filter (λ number. not (nat_eq number released)) ns) (filter (λ number. not (nat_eq number released)) ns) (ap not same))
          ∙ is_active-kept channel released ns differ ∙ sym (ap (λ (b : Bool). b || is_active ns channel) away)
      | inr other ↦
          ap (λ (active : List ℕ). is_active active channel) (cond-true (not (nat_eq n released)) (n ∷ filter (λ number. not (nat_eq number released)) ns) (filter (λ number. not (nat_eq number released)) ns) (ap not other))
          ∙ ap (λ (b : Bool). nat_eq n channel || b) (is_active-kept channel released ns differ)
    ]

releasing : (channel released : ℕ) (active : List ℕ) →
    Tenures channel (is_active active channel) (messages.RfChannelReleaseAck released ∷ []) (is_active (filter (λ number. not (nat_eq number released)) active) channel)
releasing channel released active =
    elim (cases_Bool (nat_eq released channel)) [
      | inl same ↦
          let released_is : released ≡ channel = eqb-true released channel same in
          let after : is_active (filter (λ number. not (nat_eq number released)) active) channel ≡ false =
          ap (λ (n : ℕ). is_active (filter (λ number. not (nat_eq number n)) active) channel) released_is ∙ is_active-released channel active in
          tenures_at refl after (subst (λ (n : ℕ). Tenures channel (is_active active channel) (messages.RfChannelReleaseAck n ∷ []) false) (sym released_is) (ends (over false)))
      | inr other ↦ tenures_at refl (is_active-kept channel released active other) (apart refl other (over (is_active active channel)))
    ]

-- what `tell` makes touches no tenure
told_apart : (channel : ℕ) (message : Rsl) →
    is_told message ≡ true →
    (is_brought_on channel message ≡ false) × (is_bound_of channel message ≡ false)
told_apart channel (messages.ChannelRequired required) told = (refl, refl)
told_apart channel (messages.HandoverDetection detection) told = (refl, refl)
told_apart channel (messages.MeasurementResult measured) told = (refl, refl)
told_apart channel (messages.EstablishConfirm link) told = (refl, refl)
told_apart channel (messages.ReleaseIndication link) told = (refl, refl)
told_apart channel _ told = absurd cc

-- each call
activate_by : (channel number : ℕ) (base : BaseState) (up : Bool) → is_active base.active number ≡ up → let fault : Option LinkFault = cond up (Some Busy) None in Tenures channel (is_active base.active channel) (message_unless fault (activation_ack number)) (is_active (state_unless fault base (after_activate base number)).active channel)
activate_by channel number base true is = over (is_active base.active channel)
activate_by channel number base false is = activation channel number base.active is

bring_by : (channel number : ℕ) (base new : BaseState) (message : Rsl) (up : Bool) → new.active ≡ base.active → is_active base.active number ≡ up → is_brought_on channel message ≡ nat_eq number channel → is_bound_of channel message ≡ false → let fault : Option LinkFault = cond up None (Some NotActive) in Tenures channel (is_active base.active channel) (message_unless fault message) (is_active (state_unless fault base new).active channel)
bring_by channel number base new message true same is names unbound = tenures_at refl (ap (λ (active : List ℕ). is_active active channel) same) (bringing channel number base.active message is names unbound)
bring_by channel number base new message false same is names unbound = over (is_active base.active channel)

tell_by : (channel : ℕ) (base : BaseState) (message : Rsl) (told : Bool) →
    is_told message ≡ told →
    Tenures channel (is_active base.active channel) (cond told (message ∷ []) []) (is_active (cond told (after_tell base message) base).active channel)
tell_by channel base message true is = let free = told_apart channel message is in apart free.0 free.1 (over (is_active base.active channel))
tell_by channel base message false is = over (is_active base.active channel)

tenures_call : (channel : ℕ) (base : BaseState) (call : BaseCall) →
    Tenures channel (is_active base.active channel) (messages_made_by_call base call) (is_active (after_call base call).active channel)
tenures_call channel base (activates number) = activate_by channel number base (is_active base.active number) refl
tenures_call channel base (establishes number sapi message) = bring_by channel number base (after_establish base number sapi message) (establish_indication number sapi message) (is_active base.active number) refl refl refl refl
tenures_call channel base (brings_up number sapi message) = bring_by channel number base (after_up base number sapi message) (data_indication number sapi message) (is_active base.active number) refl refl refl refl
tenures_call channel base (releases number) = releasing channel number base.active
tenures_call channel base (tells message) = tell_by channel base message (is_told message) refl
tenures_call channel base gives_next = over (is_active base.active channel)

pub tenures_calls : (channel : ℕ) (base : BaseState) (calls : List BaseCall) →
    Tenures channel (is_active base.active channel) (messages_made base calls) (is_active (after_calls base calls).active channel)
tenures_calls channel base [] = over (is_active base.active channel)
tenures_calls channel base (call ∷ calls) = tenures_append (messages_made (after_call base call) calls) (tenures_call channel base call) (tenures_calls channel (after_call base call) calls)

-- what a new end gave out, with what waits, is what it made
pub Tenures-given : (channel station : ℕ) (calls : List BaseCall) →
    Tenures channel false (messages_given (new_base station) calls ++ (after_calls (new_base station) calls).messages) (is_active (after_calls (new_base station) calls).active channel)
Tenures-given channel station calls =
    subst (λ (xs : List Rsl). Tenures channel false xs (is_active (after_calls (new_base station) calls).active channel)) (sym (given_calls (new_base station) calls)) (tenures_calls channel (new_base station) calls)
