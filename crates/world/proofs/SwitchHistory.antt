-- SPDX-License-Identifier: MIT OR Apache-2.0
-- The switch of a world with a controller has the messages taken out of its outbox: its own actions
-- take none.
use Rattle.std.proofs.Common.{◌≡◌, ℕ, ◌+◌, ◌-◌, ◌==◌, ◌&&◌, not, nat_le, nat_eq, Bool, true, false, if◌then◌else◌, List, [], ◌∷◌, ◌++◌, length, fold, map, get_or, set, Option, Some, None, refl, sym, ap, ◌∙◌, subst, unwrap_or, is_some, option_map}
use Rattle.std.specs.Prelude.{slice_get, slice_set}
use Rattle.std.specs.Option.{is_none}
use Rattle.std.proofs.lemmas.List.{map-append, length-map, map-set}
use Rattle.std.proofs.lemmas.List.Sums.{fold-append}
use Rattle.std.proofs.lemmas.Option.{slice_get-map, unwrap_or-slice_get}
use Rattle.std.proofs.Math.Seq.{map-set_same}
use Rattle.bssmap_codec.specs.declared.bssap.Bssap.{Bssap}
use Rattle.bssmap_codec.specs.declared.bssap.Bssap.TheVariants.{Management, Transfer}
use Rattle.bssmap_codec.specs.declared.bssmap.Bssmap.{Bssmap}
use Rattle.bssmap_codec.specs.declared.bssmap.Bssmap.TheVariants.{ClearComplete, ClearRequest}
use Rattle.bssmap_codec.specs.declared.sccp.Sccp.{Sccp}
use Rattle.bssmap_codec.specs.declared.sccp.Sccp.TheVariants.{ConnectionRequest, DataForm1}
use Rattle.world_model.specs.LinkNumbers.{SWITCH_LINK}
use Rattle.controller_model.specs.Life.{take, tick}
use Rattle.dtap_codec.specs.declared.sapi.Sapi.{Sapi}
use Rattle.dtap_codec.specs.declared.sapi.Sapi.TheVariants.{Zero, Three}
use Rattle.msc_end.specs.declared.connection.Connection.{Connection}
use Rattle.msc_end.specs.declared.connection.Stage.{Stage}
use Rattle.msc_end.specs.declared.connection.Stage.TheVariants.{Open, Clearing, Ended}
use Rattle.msc_end.specs.declared.parameters.TheConstants.{CONNECTION_LIMIT, REFERENCE_BASE}
use Rattle.msc_end.specs.Refusal.{send_fault, stage_fault}
use Rattle.msc_end.specs.Switch.{after, after_clear, assignment_request, clear_command, data_forms_on, dlci_for, connection_of, connection_after, connections_after, connections_after_clear, connections_by, message_in, with_connection, with_stage, initial_messages}
use Rattle.msc_end.specs.SwitchState.{SwitchState}
use Rattle.world_model.specs.Rsl.{Rsl}
use Rattle.settings.specs.Parameters.{Parameters}
use Rattle.world_model.specs.declared.event.Event.{Event}
use Rattle.world_model.specs.declared.event.Event.TheVariants.{Upper, Connect, AirUp, AirAck, AirDown, AirDownLost, Move, Touch, Arrive, Return, BaseTakes, BasePush, Handle, SwitchTakes, SwitchDoes, Tick, BaseDown, Report}
use Rattle.world_model.specs.declared.event.SwitchAction.{SwitchAction}
use Rattle.world_model.specs.declared.event.SwitchAction.TheVariants.{Assign, Clear, Dtap}
use Rattle.world_model.specs.declared.line.OutboxEntry.{OutboxEntry}
use Rattle.world_model.specs.declared.seat.Tenure.{Tenure}
use Rattle.world_model.specs.Life.{event_after, actors_after, actors_after_all}
use Rattle.world_model.specs.Queues.{first_of, taken, all_taken}
use Rattle.world_model.specs.SwitchSide.{is_layer_3, may_send_on, sccp_in, sent_on, switch_took, switch_took_first, after_switch_does}
use Rattle.world_model.specs.World.{Actors, is_up, modulus_in, new_actors, outbox_of, with_outbox}
use Rattle.world_model.specs.Mobiles.{brought, after_upper, after_connecting, after_air_up, after_air_ack, after_air_down, after_air_down_lost, after_move, after_touch, after_arriving, after_return, after_report}
use Rattle.world_model.specs.Relay.{after_base_push, after_break, after_handle, target_in, with_turn}
use Rattle.world_model.specs.Stations.{after_base_takes, rsl_in, took, took_first}
use Rattle.world_model.proofs.Leads.{OfTaken, FromAir, upper_leads, connect_leads, air_up_leads, air_ack_leads, air_down_leads, air_down_lost_leads, move_leads, touch_leads, arrive_leads, return_leads, report-leads, base_takes_leads, took-leads, handle_leads, turn_leads, push_leads, broken_leads, after_taken}
use Rattle.world.specs.declared.world.Scene.TheVariants.{Controlled}
use Rattle.world.specs.Queues.{Queued, IsTakenBySwitch, entry, messages_of, switch_at, switch_by, switch_of}

-- ---- a connection, whether or not it is being cleared

abbrev pub unclear_stage : Stage → Stage
unclear_stage Open = Open
unclear_stage Clearing = Open
unclear_stage Ended = Ended

abbrev pub unclear : Connection → Connection
unclear c = with_stage c (unclear_stage c.stage)

abbrev staged : Connection → Stage → Connection
staged c stage = with_stage c stage

-- it takes messages alike
management_alike : (c : Connection) (message : Bssmap) →
    unclear (connection_after (staged c Clearing) (Management message)) ≡ unclear (connection_after (staged c Open) (Management message))
management_alike c (ClearRequest cause) = refl
management_alike c ClearComplete = refl
management_alike c _ = refl

live_alike : (c : Connection) (message : Bssap) →
    unclear (connection_after (staged c Clearing) message) ≡ unclear (connection_after (staged c Open) message)
live_alike c (Transfer dlci message) = refl
live_alike c (Management message) = management_alike c message

stage-alike : (c : Connection) (stage : Stage) (message : Bssap) →
    unclear (connection_after (staged c stage) message) ≡ unclear (connection_after (staged c (unclear_stage stage)) message)
stage-alike c Open message = refl
stage-alike c Clearing message = live_alike c message
stage-alike c Ended message = refl

connection_alike : (c : Connection) (message : Bssap) →
    unclear (connection_after c message) ≡ unclear (connection_after (unclear c) message)
connection_alike c message = stage-alike c c.stage message

unclear-twice : (c : Connection) → unclear (unclear c) ≡ unclear c
unclear-twice c = by_stage c.stage where
  by_stage : (stage : Stage) → with_stage c (unclear_stage (unclear_stage stage)) ≡ with_stage c (unclear_stage stage)
  by_stage Open = refl
  by_stage Clearing = refl
  by_stage Ended = refl

unclear_all_twice : (cs : List Connection) → map unclear (map unclear cs) ≡ map unclear cs
unclear_all_twice [] = refl
unclear_all_twice (c ∷ cs) = ap (λ (d : Connection). d ∷ map unclear (map unclear cs)) (unclear-twice c) ∙ ap (λ (ds : List Connection). unclear c ∷ ds) (unclear_all_twice cs)

-- ---- and so do all connections

pub connection_of-alike : (cs : List Connection) (n : ℕ) → connection_of (map unclear cs) n ≡ option_map unclear (connection_of cs n)
connection_of-alike cs n = by_number (n == 0) where
  by_number : (b : Bool) →
      (if b then None else slice_get (map unclear cs) (n - 1)) ≡ option_map unclear (if b then None else slice_get cs (n - 1))
  by_number true = refl
  by_number false = slice_get-map unclear cs (n - 1)

with_one_alike : (cs : List Connection) (n : ℕ) (o : Option Connection) (message : Option Bssap)
    → map unclear (connections_by cs n o message) ≡ map unclear (connections_by (map unclear cs) n (option_map unclear o) message)
with_one_alike cs n None message = sym (unclear_all_twice cs)
with_one_alike cs n (Some c) None = sym (unclear_all_twice cs)
with_one_alike cs n (Some c) (Some message) =
    map-set unclear cs (n - 1) (connection_after c message)
    ∙ ap (λ (d : Connection). set (map unclear cs) (n - 1) d) (connection_alike c message)
    ∙ ap (λ (ds : List Connection). set ds (n - 1) (unclear (connection_after (unclear c) message))) (sym (unclear_all_twice cs))
    ∙ sym (map-set unclear (map unclear cs) (n - 1) (connection_after (unclear c) message))

asked_alike : (m : ℕ) (cs : List Connection) (source : ℕ) (user : Option (List ℕ))
    → map unclear (with_connection m cs source user) ≡ map unclear (with_connection m (map unclear cs) source user)
asked_alike m cs source user =
    let new : ℕ → Connection = λ count. record { peer = source; stage = Open; reception = record { modulus = m; taken = initial_messages user }; number = REFERENCE_BASE + (count + 1) } in
    map-append unclear cs (new (length cs) ∷ [])
    ∙ ap (λ (ds : List Connection). ds ++ new (length cs) ∷ []) (sym (unclear_all_twice cs))
    ∙ ap (λ (count : ℕ). map unclear (map unclear cs) ++ new count ∷ []) (sym (length-map cs unclear))
    ∙ sym (map-append unclear (map unclear cs) (new (length (map unclear cs)) ∷ []))

request_alike : (m : ℕ) (cs : List Connection) (source : ℕ) (user : Option (List ℕ))
    → map unclear (connections_after m cs (ConnectionRequest source user)) ≡ map unclear (connections_after m (map unclear cs) (ConnectionRequest source user))
request_alike m cs source user =
    by_count (nat_le CONNECTION_LIMIT (length cs))
    ∙ ap (λ (count : ℕ). map unclear (if nat_le CONNECTION_LIMIT count then map unclear cs else with_connection m (map unclear cs) source user)) (sym (length-map cs unclear)) where
      by_count : (b : Bool) →
          map unclear (if b then cs else with_connection m cs source user) ≡ map unclear (if b then map unclear cs else with_connection m (map unclear cs) source user)
      by_count true = sym (unclear_all_twice cs)
      by_count false = asked_alike m cs source user

data_alike : (m : ℕ) (cs : List Connection) (destination : ℕ) (user : List ℕ)
    → map unclear (connections_after m cs (DataForm1 destination user)) ≡ map unclear (connections_after m (map unclear cs) (DataForm1 destination user))
data_alike m cs destination user =
    let n : ℕ = destination - REFERENCE_BASE in
    with_one_alike cs n (connection_of cs n) (message_in user)
    ∙ ap (λ (o : Option Connection). map unclear (connections_by (map unclear cs) n o (message_in user))) (sym (connection_of-alike cs n))

all_alike : (m : ℕ) (cs : List Connection) (message : Sccp) →
    map unclear (connections_after m cs message) ≡ map unclear (connections_after m (map unclear cs) message)
all_alike m cs (ConnectionRequest source user) = request_alike m cs source user
all_alike m cs (DataForm1 destination user) = data_alike m cs destination user
all_alike m cs _ = sym (unclear_all_twice cs)

-- ---- two switch ends, but for what is being cleared

pub record AreAlike (one other : SwitchState) : Type 0 where
  pub modulus : one.modulus ≡ other.modulus
  pub connections : map unclear one.connections ≡ map unclear other.connections

after-alike : (one other : SwitchState) (message : Sccp) → AreAlike one other → AreAlike (after one message) (after other message)
after-alike one other message alike = record {
  modulus = alike.modulus;
  connections =
      all_alike one.modulus one.connections message
      ∙ ap (λ (cs : List Connection). map unclear (connections_after one.modulus cs message)) alike.connections
      ∙ ap (λ (m : ℕ). map unclear (connections_after m (map unclear other.connections) message)) alike.modulus
      ∙ sym (all_alike other.modulus other.connections message);
}

-- ---- a clear of a connection on which it may send

open_unclear : (c : Connection) (stage : Stage) →
    is_none (stage_fault stage) ≡ true →
    unclear (with_stage c Clearing) ≡ with_stage c (unclear_stage stage)
open_unclear c Open may = refl
open_unclear c Clearing may = absurd cc
open_unclear c Ended may = absurd cc

found_alike : (cs : List Connection) (k : ℕ) (c : Connection) →
    slice_get cs k ≡ Some c →
    is_none (send_fault (Some c)) ≡ true →
    map unclear (slice_set cs k (with_stage c Clearing)) ≡ map unclear cs
found_alike cs k c is may =
    let there : get_or cs k c ≡ c = sym (unwrap_or-slice_get cs k c) ∙ ap (λ (o : Option Connection). unwrap_or o c) is in
    map-set_same unclear cs k (with_stage c Clearing) c (open_unclear c c.stage may ∙ ap unclear (sym there))

of_number : (b : Bool) (o : Option Connection) (c : Connection) → (if b then None else o) ≡ Some c → o ≡ Some c
of_number true o c is = absurd cc
of_number false o c is = is

cleared_by : (cs : List Connection) (n : ℕ) (o : Option Connection) →
    connection_of cs n ≡ o →
    is_none (send_fault o) ≡ true →
    map unclear (connections_after_clear cs n o) ≡ map unclear cs
cleared_by cs n None is may = refl
cleared_by cs n (Some c) is may = found_alike cs (n - 1) c (of_number (n == 0) (slice_get cs (n - 1)) c is) may

cleared_alike : (switch other : SwitchState) (n : ℕ) →
    is_none (send_fault (connection_of switch.connections n)) ≡ true →
    AreAlike switch other →
    AreAlike (after_clear switch n) other
cleared_alike switch other n may alike = record {
  modulus = alike.modulus;
  connections = cleared_by switch.connections n (connection_of switch.connections n) refl may ∙ alike.connections;
}

-- ---- each event

abbrev taken_lines : Actors → Event → List Queued
taken_lines w event = map entry (taken SWITCH_LINK w event)

-- the switch after an event, beside one that took what the event took
abbrev Follows : Actors → Event → Actors → Type 0
Follows w event v = (other : SwitchState) → AreAlike w.switch other → AreAlike v.switch (fold switch_at other (taken_lines w event))

abbrev Remains : Actors → Actors → Type 0
Remains w v = v.switch ≡ w.switch

quiet : (w : Actors) (event : Event) (v : Actors) → taken SWITCH_LINK w event ≡ [] → Remains w v → Follows w event v
quiet w event v nobody same other alike =
    subst (λ (entries : List OutboxEntry). AreAlike v.switch (fold switch_at other (map entry entries))) (sym nobody)
    (subst (λ (switch : SwitchState). AreAlike switch other) (sym same) alike)

quietly : (w : Actors) (event : Event) (o : Option Actors) →
    taken SWITCH_LINK w event ≡ [] →
    OfTaken (Remains w) o →
    Follows w event (unwrap_or o w)
quietly w event o nobody leads = quiet w event (unwrap_or o w) nobody (after_taken (Remains w) o w leads refl)

brought-remains : (w : Actors) (p : _) (at : _) (sapi : Sapi) (frame : List ℕ) → Remains w (brought w p at sapi frame)
brought-remains w p at Zero frame = refl
brought-remains w p at Three frame = refl

took-remains : (w : Actors) (station : ℕ) (target : Option Tenure) (o : Option Rsl) (v : Actors) →
    Remains w v →
    OfTaken (Remains w) (took station target o v)
took-remains w station target o v is = took-leads (Remains w) station target o v (record {
  nothing = is;
  activates = λ channel _. is;
  seats = λ p number channel _ _. is;
  airs = λ channel message _. is;
  answers = λ answer channel. is;
  releases = λ channel. is;
})

-- no station has the switch's link
pub no_station_takes : (b up : Bool) (o : Option Actors) (entries : List OutboxEntry) →
    (if b then (if is_some (if not b && up then o else None) then entries else []) else []) ≡ []
no_station_takes true up o entries = refl
no_station_takes false up o entries = refl

base_takes_follows : (w : Actors) (station : ℕ) → Follows w (BaseTakes station) (unwrap_or (after_base_takes w station) w)
unfolding event_after
base_takes_follows w station =
    quietly w (BaseTakes station) (after_base_takes w station)
    (no_station_takes (nat_eq station SWITCH_LINK) (is_up w station) (took_first station (outbox_of w station) w) (first_of (outbox_of w SWITCH_LINK)))
    (base_takes_leads (Remains w) w station (λ first others _ _. took-remains w station first.target (rsl_in first.out.frame) (with_outbox station others w) refl))

-- the switch takes the first entry
message_follows : (o : Option Sccp) (w : Actors) (other : SwitchState) →
    AreAlike w.switch other →
    AreAlike (switch_took o w).switch (switch_by other o)
message_follows None w other alike = alike
message_follows (Some message) w other alike = after-alike w.switch other message alike

takes_follows : (w : Actors) (up : Bool) (entries : List OutboxEntry) (other : SwitchState) → AreAlike w.switch other
    → AreAlike (unwrap_or (if up then switch_took_first entries w else None) w).switch
    (fold switch_at other (map entry (if is_some (if up then switch_took_first entries w else None) then first_of entries else [])))
takes_follows w false entries other alike = alike
takes_follows w true [] other alike = alike
takes_follows w true (first ∷ others) other alike = message_follows (sccp_in first.out.frame) (with_outbox SWITCH_LINK others w) other alike

-- what it does of its own
abbrev IsAlikeAfter : Actors → Option Actors → Type 0
IsAlikeAfter w o = (other : SwitchState) → AreAlike w.switch other → AreAlike (unwrap_or o w).switch other

right_of : (a b : Bool) → a && b ≡ true → b ≡ true
right_of true b is = is
right_of false b is = absurd cc

sent_alike : (w : Actors) (connection : ℕ) (message : Bssap) (next : SwitchState)
    → (is_none (send_fault (connection_of w.switch.connections connection)) ≡ true → (other : SwitchState) → AreAlike w.switch other → AreAlike next other) → IsAlikeAfter w (sent_on w connection message next)
sent_alike w connection message next h other alike = by_leave (may_send_on w connection) refl where
  by_leave : (b : Bool) → may_send_on w connection ≡ b
      → AreAlike (unwrap_or (if b then Some (record w { switch = next; switch_made = w.switch_made ++ data_forms_on (connection_of w.switch.connections connection) message }) else None) w).switch other
  by_leave true may = h (right_of (is_up w SWITCH_LINK) (is_none (send_fault (connection_of w.switch.connections connection))) may) other alike
  by_leave false may = alike

does_alike : (w : Actors) (action : SwitchAction) → IsAlikeAfter w (after_switch_does w action)
does_alike w (Assign connection) other alike = sent_alike w connection assignment_request w.switch (λ _ other alike. alike) other alike
does_alike w (Clear connection) other alike = sent_alike w connection clear_command (after_clear w.switch connection) (λ may other alike. cleared_alike w.switch other connection may alike) other alike
does_alike w (Dtap connection sapi message) other alike = by_length (is_layer_3 message) where
  by_length : (b : Bool) →
      AreAlike (unwrap_or (if b then sent_on w connection (Transfer (dlci_for sapi) message) w.switch else None) w).switch other
  by_length true = sent_alike w connection (Transfer (dlci_for sapi) message) w.switch (λ _ other alike. alike) other alike
  by_length false = alike

follows : (w : Actors) (event : Event) → Follows w event (actors_after w event)
unfolding event_after FromAir
follows w (Upper number sapi message) = quietly w (Upper number sapi message) (after_upper w number sapi message) refl (upper_leads (Remains w) w number sapi message (λ p _. refl))
follows w (Connect number station initial accepts) = quietly w (Connect number station initial accepts) (after_connecting w number station initial accepts) refl (connect_leads (Remains w) w number station initial accepts (λ _. refl))
follows w (AirUp number sapi) = quietly w (AirUp number sapi) (after_air_up w number sapi) refl (air_up_leads (Remains w) w number sapi (λ p tenure command frame _ _ _ _. brought-remains w p tenure.at sapi frame))
follows w (AirAck number sapi) = quietly w (AirAck number sapi) (after_air_ack w number sapi) refl (air_ack_leads (Remains w) w number sapi (λ p _. refl))
follows w (AirDown number) = quietly w (AirDown number) (after_air_down w number) refl (air_down_leads (Remains w) w number (λ p tenure command _ _ _ first others _. refl))
follows w (AirDownLost number) = quietly w (AirDownLost number) (after_air_down_lost w number) refl (air_down_lost_leads (Remains w) w number (λ p tenure command _ _ _ first others _. refl))
follows w (Move number) = quietly w (Move number) (after_move w number) refl (move_leads (Remains w) w number (λ p tenure command _ _ _. refl))
follows w (Touch number) = quietly w (Touch number) (after_touch w number) refl (touch_leads (Remains w) w number (λ command _. refl))
follows w (Arrive number) = quietly w (Arrive number) (after_arriving w number) refl (arrive_leads (Remains w) w number (λ p from command _ _ _. refl))
follows w (Return number) = quietly w (Return number) (after_return w number) refl (return_leads (Remains w) w number (λ p from command _ _ _. refl))
follows w (BaseTakes station) = base_takes_follows w station
follows w (BasePush source) = quietly w (BasePush source) (after_base_push w source) refl (push_leads (Remains w) w source (λ first others. refl) (λ message _. refl))
follows w Handle = quietly w Handle (after_handle w) refl (handle_leads (Remains w) w (λ item items _. turn_leads (Remains w) (target_in w item.source item.what) (take item w.controller) (record w { inbox = items }) (λ links. refl)))
follows w SwitchTakes = takes_follows w (is_up w SWITCH_LINK) (outbox_of w SWITCH_LINK)
follows w (SwitchDoes action) = does_alike w action
follows w (Tick ms) = quiet w (Tick ms) (with_turn None (tick ms w.controller) w) refl (turn_leads (Remains w) None (tick ms w.controller) w (λ links. refl))
follows w (BaseDown source) = quietly w (BaseDown source) (after_break w source) refl (broken_leads (Remains w) w source (λ _ _. refl) (λ _ _. refl))
follows w (Report number report) = quietly w (Report number report) (after_report w number report) refl (report-leads (Remains w) w number report (λ tenure _. refl))

-- ---- all events

pub follows_all : (w : Actors) (events : List Event) (other : SwitchState) →
    AreAlike w.switch other →
    AreAlike (actors_after_all w events).switch (fold switch_at other (map entry (all_taken SWITCH_LINK w events)))
follows_all w [] other alike = alike
follows_all w (event ∷ events) other alike =
    let here : List OutboxEntry = taken SWITCH_LINK w event in
    let others : List OutboxEntry = all_taken SWITCH_LINK (actors_after w event) events in
    subst (AreAlike (actors_after_all (actors_after w event) events).switch)
    (sym (fold-append switch_at other (map entry here) (map entry others)) ∙ ap (fold switch_at other) (sym (map-append entry here others)))
    (follows_all (actors_after w event) events (fold switch_at other (map entry here)) (follows w event other alike))

same_messages : (cs : List Connection) → map (λ c. c.reception.taken) cs ≡ map (λ c. c.reception.taken) (map unclear cs)
same_messages [] = refl
same_messages (c ∷ cs) = ap (λ (xs : List (List (List ℕ))). c.reception.taken ∷ xs) (same_messages cs)

same_modulus_by : (switch : SwitchState) (o : Option Sccp) → (switch_by switch o).modulus ≡ switch.modulus
same_modulus_by switch None = refl
same_modulus_by switch (Some message) = refl

same_modulus : (switch : SwitchState) (lines : List OutboxEntry) → (fold switch_at switch (map entry lines)).modulus ≡ switch.modulus
same_modulus switch [] = refl
same_modulus switch (line ∷ lines) = same_modulus (switch_by switch (sccp_in line.out.frame)) lines ∙ same_modulus_by switch (sccp_in line.out.frame)

pub switch_history : (settings : Parameters) (events : List Event) →
    IsTakenBySwitch (Controlled (actors_after_all (new_actors settings) events)) (map entry (all_taken SWITCH_LINK (new_actors settings) events))
switch_history settings events =
    let begin : SwitchState = (new_actors settings).switch in
    let lines : List OutboxEntry = all_taken SWITCH_LINK (new_actors settings) events in
    let now : SwitchState = (actors_after_all (new_actors settings) events).switch in
    let alike : AreAlike now (fold switch_at begin (map entry lines)) = follows_all (new_actors settings) events begin (record { modulus = refl; connections = refl }) in
    let m : now.modulus ≡ modulus_in settings = alike.modulus ∙ same_modulus begin lines in
    same_messages now.connections
    ∙ ap (map (λ c. c.reception.taken)) alike.connections
    ∙ sym (same_messages (fold switch_at begin (map entry lines)).connections)
    ∙ ap (λ (m : ℕ). messages_of (switch_of m (map entry lines))) (sym m)
