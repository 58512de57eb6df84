-- SPDX-License-Identifier: MIT OR Apache-2.0
-- The connections of the switch are of the network's modulus.
use Rattle.world_laws.proofs.Prelude.{◌≡◌, ℕ, zero, suc, ◌==◌, ◌-◌, nat_le, Bool, true, false, if◌then◌else◌, List, [], ◌∷◌, ◌++◌, length}
use Rattle.world_laws.proofs.Prelude.{set, unwrap_or, Option, Some, None, refl, sym, ◌∙◌, subst, AllByRecursion, none-some, same_Some}
use Rattle.world_laws.proofs.Prelude.{Bssap, Management, Transfer, Bssmap, Sccp, ConnectionRequest, DataForm1, SWITCH_LINK}
use Rattle.world_laws.proofs.Prelude.{AllByRecursion-append, Ended, CONNECTION_LIMIT, REFERENCE_BASE, after_clear}
use Rattle.world_laws.proofs.Prelude.{assignment_request, clear_command, data_forms_on, dlci_for, connection_after, connection_by}
use Rattle.world_laws.proofs.Prelude.{connections_after, connections_after_clear, connections_by, live_connection_after, message_in}
use Rattle.world_laws.proofs.Prelude.{with_connection, SwitchState, Parameters, Event, SwitchAction, Assign, Clear, Dtap, OutboxEntry}
use Rattle.world_laws.proofs.Prelude.{actors_after, actors_after_all, after_switch_does, is_layer_3, may_send_on, sccp_in, sent_on}
use Rattle.world_laws.proofs.Prelude.{switch_took, switch_took_first, Actors, is_up, modulus_in, new_actors, outbox_of, with_outbox}
use Rattle.world_laws.proofs.Prelude.{ClearRequest, IsOfModulus, SwitchIsOfModulus}
use Rattle.std.proofs.Common.{slice_get}
use Rattle.msc_end.specs.declared.connection.Connection.{Connection}
use Rattle.msc_end.specs.declared.connection.Stage.{Stage}
use Rattle.msc_end.specs.Switch.{connection_of}
use Rattle.world_model.specs.Life.{event_after}
use Rattle.world_laws.proofs.Order.SwitchDown.{SwitchKind, switch_kind}
use Rattle.world_laws.proofs.Order.SwitchDown.SwitchKind.{takes, does, unchanged}

-- ---- lists

pub all_set : {X : Type 0} (P : X → Type 0) (xs : List X) (i : ℕ) (x : X) → AllByRecursion P xs → P x → AllByRecursion P (set xs i x)
all_set P [] i x all one = tt
all_set P (y ∷ ys) zero x all one = (one, all.1)
all_set P (y ∷ ys) (suc i) x all one = (all.0, all_set P ys i x all.1 one)

all_get : {X : Type 0} (P : X → Type 0) (xs : List X) (i : ℕ) (x : X) → slice_get xs i ≡ Some x → AllByRecursion P xs → P x
all_get P [] i x is all = absurd (none-some x is)
all_get P (y ∷ ys) zero x is all = subst P (same_Some y x is) all.0
all_get P (y ∷ ys) (suc i) x is all = all_get P ys i x is all.1

-- what holds of all connections holds of the one of a number
pub all_numbered : (P : Connection → Type 0) (cs : List Connection) (n : ℕ) (c : Connection) →
    connection_of cs n ≡ Some c →
    AllByRecursion P cs →
    P c
all_numbered P cs n c is all = by (n == 0) is where
  by : (b : Bool) → (if b then None else slice_get cs (n - 1)) ≡ Some c → P c
  by true none = absurd (none-some c none)
  by false there = all_get P cs (n - 1) c there all

-- ---- a message

live_modulus : (c : Connection) (message : Bssap) → (live_connection_after c message).reception.modulus ≡ c.reception.modulus
live_modulus c (Transfer dlci message) = refl
live_modulus c (Management message) = by message where
  by : (message : Bssmap) → (live_connection_after c (Management message)).reception.modulus ≡ c.reception.modulus
  by (ClearRequest cause) = refl
  by _ = refl

after_modulus : (c : Connection) (message : Bssap) → (connection_after c message).reception.modulus ≡ c.reception.modulus
after_modulus c message = by c.stage where
  by : (stage : Stage) → (connection_by stage c message).reception.modulus ≡ c.reception.modulus
  by Ended = refl
  by _ = live_modulus c message

abbrev AllOf : ℕ → List Connection → Type 0
AllOf m cs = AllByRecursion (λ (c : Connection). c.reception.modulus ≡ m) cs

data_modulus : (m : ℕ) (cs : List Connection) (n : ℕ) (o : Option Connection) (message : Option Bssap) →
    connection_of cs n ≡ o →
    AllOf m cs →
    AllOf m (connections_by cs n o message)
data_modulus m cs n (Some c) (Some message) is all =
    all_set (λ (c : Connection). c.reception.modulus ≡ m) cs (n - 1) (connection_after c message) all (after_modulus c message ∙ all_numbered (λ (c : Connection). c.reception.modulus ≡ m) cs n c is all)
data_modulus m cs n (Some c) None is all = all
data_modulus m cs n None message is all = all

message_modulus : (m own : ℕ) (cs : List Connection) (message : Sccp) → own ≡ m → AllOf m cs → AllOf m (connections_after own cs message)
message_modulus m own cs (ConnectionRequest source user) is all = by (nat_le CONNECTION_LIMIT (length cs)) where
  by : (b : Bool) → AllOf m (if b then cs else with_connection own cs source user)
  by true = all
  by false = AllByRecursion-append (λ (c : Connection). c.reception.modulus ≡ m) cs _ all (is, tt)
message_modulus m own cs (DataForm1 destination user) is all = data_modulus m cs (destination - REFERENCE_BASE) (connection_of cs (destination - REFERENCE_BASE)) (message_in user) refl all
message_modulus m own cs _ is all = all

took_modulus : (m : ℕ) (o : Option Sccp) (w : Actors) → IsOfModulus m w.switch → IsOfModulus m (switch_took o w).switch
took_modulus m None w of = of
took_modulus m (Some message) w of = record { own = of.own; all = message_modulus m w.switch.modulus w.switch.connections message of.own of.all }

-- ---- what it does of its own

clear_modulus : (m : ℕ) (switch : SwitchState) (n : ℕ) → IsOfModulus m switch → IsOfModulus m (after_clear switch n)
clear_modulus m switch n of = record { own = of.own; all = by (connection_of switch.connections n) refl } where
  by : (o : Option Connection) → connection_of switch.connections n ≡ o → AllOf m (connections_after_clear switch.connections n o)
  by None is = of.all
  by (Some c) is = all_set (λ (c : Connection). c.reception.modulus ≡ m) switch.connections (n - 1) _ of.all (all_numbered (λ (c : Connection). c.reception.modulus ≡ m) switch.connections n c is of.all)

sends_modulus : (m : ℕ) (w : Actors) (connection : ℕ) (message : Bssap) (next : SwitchState) →
    IsOfModulus m w.switch →
    IsOfModulus m next →
    IsOfModulus m (unwrap_or (sent_on w connection message next) w).switch
sends_modulus m w connection message next of sent = by (may_send_on w connection) where
  by : (b : Bool) →
      IsOfModulus m (unwrap_or (if b then Some (record w { switch = next; switch_made = w.switch_made ++ data_forms_on (connection_of w.switch.connections connection) message }) else None) w).switch
  by true = sent
  by false = of

does_modulus : (m : ℕ) (w : Actors) (action : SwitchAction) →
    IsOfModulus m w.switch →
    IsOfModulus m (unwrap_or (after_switch_does w action) w).switch
does_modulus m w (Assign connection) of = sends_modulus m w connection assignment_request w.switch of of
does_modulus m w (Clear connection) of = sends_modulus m w connection clear_command (after_clear w.switch connection) of (clear_modulus m w.switch connection of)
does_modulus m w (Dtap connection sapi message) of = by (is_layer_3 message) where
  by : (b : Bool) →
      IsOfModulus m (unwrap_or (if b then sent_on w connection (Transfer (dlci_for sapi) message) w.switch else None) w).switch
  by true = sends_modulus m w connection (Transfer (dlci_for sapi) message) w.switch of of
  by false = of

-- ---- all events

takes_modulus : (m : ℕ) (w : Actors) (up : Bool) (entries : List OutboxEntry) →
    IsOfModulus m w.switch →
    IsOfModulus m (unwrap_or (if up then switch_took_first entries w else None) w).switch
takes_modulus m w false entries of = of
takes_modulus m w true [] of = of
takes_modulus m w true (first ∷ others) of = took_modulus m (sccp_in first.out.frame) (with_outbox SWITCH_LINK others w) of

modulus_by : {m : ℕ} {w : Actors} {event : Event} →
    SwitchKind w event →
    IsOfModulus m w.switch →
    IsOfModulus m (actors_after w event).switch
unfolding event_after
modulus_by {m} {w} takes of = takes_modulus m w (is_up w SWITCH_LINK) (outbox_of w SWITCH_LINK) of
modulus_by {m} {w} (does action) of = does_modulus m w action of
modulus_by {m} (unchanged same) of = subst (IsOfModulus m) (sym same) of

modulus_all : (m : ℕ) (w : Actors) (events : List Event) → IsOfModulus m w.switch → IsOfModulus m (actors_after_all w events).switch
modulus_all m w [] of = of
modulus_all m w (event ∷ events) of = modulus_all m (actors_after w event) events (modulus_by (switch_kind w event) of)

pub switch_modulus : (settings : Parameters) (events : List Event) → SwitchIsOfModulus settings events
switch_modulus settings events = modulus_all (modulus_in settings) (new_actors settings) events (record { own = refl; all = tt })
