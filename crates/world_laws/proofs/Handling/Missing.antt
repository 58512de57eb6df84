-- SPDX-License-Identifier: MIT OR Apache-2.0
-- An input that no row fits brings nothing of the flow on the channels of its connection.
use Rattle.world_laws.proofs.Prelude.{◌≡◌, ℕ, zero, suc, Bool, true, false, if◌then◌else◌, List, [], ◌∷◌, ◌++◌, length, Option, Some, None}
use Rattle.world_laws.proofs.Prelude.{refl, sym, ap, ◌∙◌, subst, AllByRecursion, Channel, Place, AllByRecursion-append, Input, Drain}
use Rattle.world_laws.proofs.Prelude.{Preparing, Changing, State, WaitConfirm, Live, Connection, drain_at, is_at, IsValid}
use Rattle.world_laws.proofs.Prelude.{IsValidState, undone, used_channels, dtap_in, on_dtap, on_release_ack, release_in, IsAtPlace}
use Rattle.world_laws.proofs.Prelude.{place_of, Three, Zero, is_control, is_control_apart, same_place, AllByRecursion-so, messages_in}
use Rattle.world_laws.proofs.Prelude.{released, awaited_in, is_ended, IsRequested, none_if}
use Rattle.conn_rules.specs.declared.input.Input.TheVariants as inputs
use Rattle.conn_rules.specs.declared.state.Stage.{Stage}
use Rattle.conn_rules.specs.Connection.{tenure_at}
use Rattle.conn_rules.specs.Streams.{target_in}
use Rattle.conn_rules.specs.Table.{dtap_on_target, row_of}
use Rattle.world_laws.specs.LineUp.Places.{Item}
use Rattle.world_laws.specs.LineUp.Places.Item.{brought}
use Rattle.world_laws.specs.OwnItem.{said_by}
use Rattle.world_laws.proofs.OwnReleases.{same_at, undone_none}
use Rattle.world_laws.proofs.Quiet.{all_of}
use Rattle.world_laws.proofs.Handling.Dropped.{AreBeside}
use Rattle.world_laws.proofs.Handling.Saying.{IsControl}

-- ---- on one place

off : (b : Bool) (items : List Item) → b ≡ false → (if b then items else []) ≡ []
off false items is = refl
off true items is = absurd cc

pub said_elsewhere : (input : Input) (text : List ℕ) (at place : Place) →
    IsAtPlace at input →
    same_place place at ≡ false →
    said_by input text place ≡ []
said_elsewhere (inputs.Dtap there Zero message) text at place here other = off (same_place place there) (brought message ∷ []) (ap (same_place place) here ∙ other)
said_elsewhere (inputs.EstablishIndication there Zero (Some initial)) text at place here other = off (same_place place there) (brought initial ∷ []) (ap (same_place place) here ∙ other)
said_elsewhere (inputs.Complete there change cause) text at place here other = off (same_place place there) (brought text ∷ []) (ap (same_place place) here ∙ other)
said_elsewhere (inputs.Failure there change cause) text at place here other = off (same_place place there) (brought text ∷ []) (ap (same_place place) here ∙ other)
said_elsewhere (inputs.ReleaseAck there) text at place here other = off (same_place place there) (released ∷ []) (ap (same_place place) here ∙ other)
said_elsewhere _ text at place here other = refl

-- ---- no row

-- a message of SAPI 0 on this channel, or an end
off_beside : (at : Place) (items : List Item) (c : Channel) →
    is_at at c ≡ false →
    AreBeside (if same_place (place_of c) at then items else [])
off_beside at items c other = subst AreBeside (sym (off (same_place (place_of c) at) items (same_at at c ∙ other))) tt

-- of a connection that awaits CC nothing drains
none_drains_before : (s : Connection) → IsValid s → s.state ≡ WaitConfirm → s.draining ≡ []
none_drains_before s valid is = (subst (λ (state : State). IsValidState state s.draining s.down s.up.tenures s.link s.waits) is valid.state).none_drains

-- ---- a message of SAPI 0

OnSapiZero : Place → List ℕ → Channel → Type 0
OnSapiZero at message c = AreBeside (if same_place (place_of c) at then brought message ∷ [] else [])

-- on a target nothing arrived
silent_beside : (at : Place) (message : List ℕ) (c : Channel) →
    messages_in (if same_place (place_of c) at then brought message ∷ [] else []) ≡ [] →
    OnSapiZero at message c
unfolding OnSapiZero
silent_beside at message c = by (same_place (place_of c) at) where
  by : (b : Bool) → messages_in (if b then brought message ∷ [] else []) ≡ [] → AreBeside (if b then brought message ∷ [] else [])
  by true none = absurd cc
  by false none = tt

in_none : (o : Option ℕ) (reference : ℕ) (stage : Stage) (s : Connection) (at : Place) (message : List ℕ) →
    dtap_in o reference stage s at Zero message ≡ None →
    (o ≡ None) × (dtap_on_target reference stage s at Zero ≡ None)
in_none None reference stage s at message none = (refl, none)
in_none (Some zero) reference stage s at message none = absurd cc
in_none (Some (suc tenure)) reference stage s at message none = absurd cc

no_tenure : (at : Place) (serving : Channel) (draining : List Drain) →
    tenure_at at serving draining ≡ None →
    (is_at at serving ≡ false) × (drain_at at draining ≡ None)
no_tenure at serving draining = by (is_at at serving) where
  by : (b : Bool) → (if b then Some (length draining) else drain_at at draining) ≡ None → (b ≡ false) × (drain_at at draining ≡ None)
  by true none = absurd cc
  by false none = (refl, none)

on_targets : (at : Place) (message : List ℕ) (reference : ℕ) (stage : Stage) (s : Connection) → dtap_on_target reference stage s at Zero ≡ None
    → AllByRecursion (λ c. messages_in (if same_place (place_of c) at then brought message ∷ [] else []) ≡ []) (awaited_in (Live reference stage)) → AllByRecursion (OnSapiZero at message) (target_in (Live reference stage))
unfolding OnSapiZero
on_targets at message reference (Preparing target) s none silent = (silent_beside at message target.channel silent.0, tt)
on_targets at message reference (Changing target) s none silent = (off_beside at (brought message ∷ []) target.channel (none_if (is_at at target.channel) _ none), tt)
on_targets at message reference _ s none silent = tt

dtap_missed : (state : State) (s : Connection) (at : Place) (message : List ℕ) → s.state ≡ state → IsRequested state → IsValid s → on_dtap state s at Zero message ≡ None
    → AllByRecursion (λ c. messages_in (if same_place (place_of c) at then brought message ∷ [] else []) ≡ []) (awaited_in state) → AllByRecursion (OnSapiZero at message) (undone s.draining ++ s.serving ∷ target_in state)
unfolding OnSapiZero
dtap_missed WaitConfirm s at message is requested valid none silent =
    AllByRecursion-append (OnSapiZero at message) (undone s.draining) (s.serving ∷ []) (subst (λ (ds : List Drain). AllByRecursion (OnSapiZero at message) (undone ds)) (sym (none_drains_before s valid is)) tt)
    (off_beside at (brought message ∷ []) s.serving (none_if (is_at at s.serving) _ none), tt)
dtap_missed (Live reference stage) s at message is requested valid none silent =
    let both = in_none (tenure_at at s.serving s.draining) reference stage s at message none in
    let elsewhere = no_tenure at s.serving s.draining both.0 in
    AllByRecursion-append (OnSapiZero at message) (undone s.draining) (s.serving ∷ target_in (Live reference stage))
    (AllByRecursion-so (λ c. is_at at c ≡ false) (OnSapiZero at message) (off_beside at (brought message ∷ [])) (undone s.draining) (undone_none at s.draining elsewhere.1))
    (off_beside at (brought message ∷ []) s.serving elsewhere.0, on_targets at message reference stage s both.1 silent)
dtap_missed _ s at message is requested valid none silent = absurd requested

-- ---- an RF CHANNEL RELEASE ACK

OnEnd : Place → Channel → Type 0
OnEnd at c = AreBeside (if same_place (place_of c) at then released ∷ [] else [])

unended_beside : (at : Place) (c : Channel) → is_ended (if same_place (place_of c) at then released ∷ [] else []) ≡ false → OnEnd at c
unfolding OnEnd
unended_beside at c = by (same_place (place_of c) at) where
  by : (b : Bool) → is_ended (if b then released ∷ [] else []) ≡ false → AreBeside (if b then released ∷ [] else [])
  by true is = absurd cc
  by false is = tt

release_none : (o : Option ℕ) (reference : ℕ) (stage : Stage) (offer : Option Channel) (s : Connection) →
    release_in o reference stage offer s ≡ None →
    o ≡ None
release_none None reference stage offer s none = refl
release_none (Some place) reference stage offer s none = absurd cc

ends_missed : (state : State) (s : Connection) (at : Place) (offer : Option Channel) →
    s.state ≡ state →
    IsRequested state →
    IsValid s →
    on_release_ack state s at offer ≡ None →
    AllByRecursion (OnEnd at) (undone s.draining)
unfolding OnEnd
ends_missed WaitConfirm s at offer is requested valid none = subst (λ (ds : List Drain). AllByRecursion (OnEnd at) (undone ds)) (sym (none_drains_before s valid is)) tt
ends_missed (Live reference stage) s at offer is requested valid none =
    AllByRecursion-so (λ c. is_at at c ≡ false) (OnEnd at) (off_beside at (released ∷ [])) (undone s.draining) (undone_none at s.draining (release_none (drain_at at s.draining) reference stage offer s none))
ends_missed _ s at offer is requested valid none = absurd requested

-- ---- any input

-- the initial message doesn't arrive any more
abbrev pub NotInitial : Input → Channel → Type 0
NotInitial (inputs.EstablishIndication at Zero (Some initial)) c = same_place (place_of c) at ≡ false
NotInitial _ c = Unit {0}

control_beside : (b : Bool) (text : List ℕ) → is_control text ≡ true → AreBeside (if b then brought text ∷ [] else [])
control_beside true text control = (is_control_apart text control, tt)
control_beside false text control = tt

pub missed_beside : (s : Connection) (input : Input) (text : List ℕ) (offer : Option Channel) → IsRequested s.state → IsValid s → row_of s input offer ≡ None → IsControl input text
    → AllByRecursion (λ c. is_ended (said_by input text (place_of c)) ≡ false) (s.serving ∷ target_in s.state) → AllByRecursion (λ c. messages_in (said_by input text (place_of c)) ≡ []) (awaited_in s.state)
    → AllByRecursion (NotInitial input) (used_channels s) → AllByRecursion (λ c. AreBeside (said_by input text (place_of c))) (used_channels s)
unfolding row_of OnSapiZero OnEnd
missed_beside s (inputs.Dtap at Zero message) text offer requested valid none control carries_on silent initial = dtap_missed s.state s at message refl requested valid none silent
missed_beside s (inputs.ReleaseAck at) text offer requested valid none control carries_on silent initial =
    AllByRecursion-append (OnEnd at) (undone s.draining) (s.serving ∷ target_in s.state) (ends_missed s.state s at offer refl requested valid none)
    (AllByRecursion-so (λ c. is_ended (said_by (inputs.ReleaseAck at) text (place_of c)) ≡ false) (OnEnd at) (unended_beside at) (s.serving ∷ target_in s.state) carries_on)
missed_beside s (inputs.EstablishIndication at Zero (Some message)) text offer requested valid none control carries_on silent initial =
    AllByRecursion-so (NotInitial (inputs.EstablishIndication at Zero (Some message))) (λ c. AreBeside (said_by (inputs.EstablishIndication at Zero (Some message)) text (place_of c)))
    (λ c other. subst AreBeside (sym (off (same_place (place_of c) at) (brought message ∷ []) other)) tt) (used_channels s) initial
missed_beside s (inputs.Complete at change cause) text offer requested valid none control carries_on silent initial =
    all_of (λ c. AreBeside (said_by (inputs.Complete at change cause) text (place_of c))) (used_channels s) (λ c. control_beside (same_place (place_of c) at) text control)
missed_beside s (inputs.Failure at change cause) text offer requested valid none control carries_on silent initial =
    all_of (λ c. AreBeside (said_by (inputs.Failure at change cause) text (place_of c))) (used_channels s) (λ c. control_beside (same_place (place_of c) at) text control)
missed_beside s (inputs.Dtap at Three message) text offer requested valid none control carries_on silent initial = all_of (λ c. AreBeside (said_by (inputs.Dtap at Three message) text (place_of c))) (used_channels s) (λ c. tt)
missed_beside s (inputs.EstablishIndication at Zero None) text offer requested valid none control carries_on silent initial = all_of (λ c. AreBeside (said_by (inputs.EstablishIndication at Zero None) text (place_of c))) (used_channels s) (λ c. tt)
missed_beside s (inputs.EstablishIndication at Three message) text offer requested valid none control carries_on silent initial = all_of (λ c. AreBeside (said_by (inputs.EstablishIndication at Three message) text (place_of c))) (used_channels s) (λ c. tt)
missed_beside s (inputs.ActivationAck at) text offer requested valid none control carries_on silent initial = all_of (λ c. AreBeside (said_by (inputs.ActivationAck at) text (place_of c))) (used_channels s) (λ c. tt)
missed_beside s (inputs.ActivationNack at) text offer requested valid none control carries_on silent initial = all_of (λ c. AreBeside (said_by (inputs.ActivationNack at) text (place_of c))) (used_channels s) (λ c. tt)
missed_beside s _ text offer requested valid none control carries_on silent initial = all_of (λ (c : Channel). AreBeside []) (used_channels s) (λ c. tt)
