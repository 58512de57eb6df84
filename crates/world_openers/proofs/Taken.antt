-- SPDX-License-Identifier: MIT OR Apache-2.0
-- The switch took a message on each of its connections: each began with a connection request, which
-- carries an initial message.
use Rattle.std.proofs.Common.{◌≡◌, ℕ, zero, suc, ◌+◌, ◌-◌, nat_le, Bool, true, false, if◌then◌else◌, List, [], ◌∷◌, ◌++◌, length, unwrap_or}
use Rattle.std.proofs.Common.{Option, Some, None, refl, sym, ap, ◌∙◌, subst, arith}
use Rattle.std.specs.List.{AllByRecursion}
use Rattle.bssmap_codec.specs.declared.bssap.Bssap.{Bssap}
use Rattle.bssmap_codec.specs.declared.bssap.Bssap.TheVariants.{Management, Transfer}
use Rattle.bssmap_codec.specs.declared.bssmap.Bssmap.{Bssmap}
use Rattle.bssmap_codec.specs.declared.bssmap.Bssmap.TheVariants.{ClearComplete, ClearRequest, CompleteLayer3Information}
use Rattle.bssmap_codec.specs.declared.sccp.Sccp.{Sccp}
use Rattle.bssmap_codec.specs.declared.sccp.Sccp.TheVariants.{ConnectionRequest, DataForm1}
use Rattle.conn_messages.specs.declared.parameters.TheConstants.{SWITCH_LINK}
use Rattle.conn_rules.proofs.DownlinkMessages.{AllByRecursion-append}
use Rattle.msc_end.specs.declared.connection.Connection.{Connection}
use Rattle.msc_end.specs.declared.connection.Stage.{Stage}
use Rattle.msc_end.specs.declared.connection.Stage.TheVariants.{Ended}
use Rattle.msc_end.specs.declared.parameters.TheConstants.{CONNECTION_LIMIT, REFERENCE_BASE}
use Rattle.msc_end.specs.Switch.{after_clear, assignment_request, clear_command, connection_after, connection_by, connection_of}
use Rattle.msc_end.specs.Switch.{connections_after, connections_after_clear, connections_by, data_forms_on, dlci_for, initial_message_of}
use Rattle.msc_end.specs.Switch.{initial_messages, live_connection_after, message_in, with_connection}
use Rattle.msc_end.specs.SwitchState.{SwitchState}
use Rattle.settings.specs.Parameters.{AreAllowed, Parameters}
use Rattle.world_laws.specs.OthersFrame.{TookOctets}
use Rattle.world_laws.specs.References.Agree.{Agrees, AsksOnce, IsAddressedTo, IsHeeded, NamesAgree, Runs, is_over, reads, reads_of}
use Rattle.world_laws.specs.References.Agree.Agrees.{is_asking, is_known, is_unasked, is_unheard}
use Rattle.world_laws.specs.References.Reads.{AreNothing, Read, asks, carries, clears, initial_read, nothing, request_read, sccp_read}
use Rattle.world_laws.specs.References.Reads.{tells}
use Rattle.world_laws.specs.Runs.{world}
use Rattle.world_laws.proofs.Events.{snoc_actors}
use Rattle.world_laws.proofs.Order.Controllers.{octets_front}
use Rattle.world_laws.proofs.Order.Modulus.{all_numbered, all_set}
use Rattle.world_laws.proofs.Order.SwitchDown.{SwitchKind, switch_kind}
use Rattle.world_laws.proofs.Order.SwitchDown.SwitchKind.{does, unchanged, takes}
use Rattle.world_laws.proofs.References.Always.{names_always_agree_new}
use Rattle.world_laws.proofs.References.FirstTaken.{first-own}
use Rattle.world_laws.proofs.References.Taking.{nothing_heeded}
use Rattle.world_model.specs.declared.event.Event.{Event}
use Rattle.world_model.specs.declared.event.SwitchAction.{SwitchAction}
use Rattle.world_model.specs.declared.event.SwitchAction.TheVariants.{Assign, Clear, Dtap}
use Rattle.world_model.specs.declared.line.OutboxEntry.{OutboxEntry}
use Rattle.world_model.specs.Life.{actors_after, event_after}
use Rattle.world_model.specs.SwitchSide.{after_switch_does, is_layer_3, may_send_on, sccp_in, sent_on, switch_took, switch_took_first}
use Rattle.world_model.specs.World.{Actors, is_up, new_actors, outbox_of, with_outbox}
use Rattle.world_openers.proofs.Runs.{each_octet_event}

-- ---- what the switch reads first isn't odd

asks_heeded : (n : ℕ) (r : Read) (rest : List Read) → AsksOnce n (r ∷ rest) → IsHeeded r
asks_heeded n nothing rest once = tt
asks_heeded n (asks source initial) rest once = tt
asks_heeded n _ rest once = absurd once

addressed_heeded : (reference : ℕ) (over : Bool) (r : Read) → IsAddressedTo reference over r → IsHeeded r
addressed_heeded reference over nothing to = tt
addressed_heeded reference over (carries destination message) to = tt
addressed_heeded reference over (tells destination) to = tt
addressed_heeded reference over (clears destination) to = tt
addressed_heeded reference over _ to = absurd to

agreed_heeded : (w : Actors) (n : ℕ) (r : Read) (rest : List Read) → reads_of n (outbox_of w SWITCH_LINK) ≡ r ∷ rest → Agrees w n
    → IsHeeded r
agreed_heeded w n r rest pending (is_unasked un unknown) = (nothing_heeded r (subst AreNothing pending unknown.quiet).0).0
agreed_heeded w n r rest pending (is_unheard has unknown) = (nothing_heeded r (subst AreNothing pending unknown.quiet).0).0
agreed_heeded w n r rest pending (is_asking has way) = asks_heeded n r rest (subst (AsksOnce n) pending way.once)
agreed_heeded w n r rest pending (is_known past known) =
    addressed_heeded (REFERENCE_BASE + (known.place + 1)) (is_over known.of.stage) r
    (subst (λ (xs : List Read). Runs (REFERENCE_BASE + (known.place + 1)) (is_over known.of.stage) xs known.last) pending known.runs).0

first_heeded : (w : Actors) (first : OutboxEntry) (others : List OutboxEntry) → NamesAgree w → outbox_of w SWITCH_LINK ≡ first ∷ others
    → IsHeeded (reads first.out)
first_heeded w first others agree pending = by first.out.conn refl where
  by : (n : ℕ) → first.out.conn ≡ n → IsHeeded (reads first.out)
  by zero is = subst IsHeeded (sym ((subst (AllByRecursion (λ entry. _)) pending agree.right).0.beside is)) tt
  by (suc n) is =
      agreed_heeded w (suc n) (reads first.out) (reads_of (suc n) others)
      (ap (reads_of (suc n)) pending ∙ first-own (suc n) first others is)
      (agree.each (suc n) (omega arith))

-- ---- it took something

abbrev pub IsSomething : List (List ℕ) → Type 0
IsSomething [] = ⊥
IsSomething (x ∷ xs) = Unit {0}

something_more : (xs ys : List (List ℕ)) → IsSomething xs → IsSomething (xs ++ ys)
something_more [] ys some = absurd some
something_more (x ∷ xs) ys some = tt

abbrev pub HasTaken : Connection → Type 0
HasTaken c = IsSomething c.reception.taken

abbrev AllHave : List Connection → Type 0
AllHave cs = AllByRecursion HasTaken cs

live_has : (c : Connection) (message : Bssap) → HasTaken c → HasTaken (live_connection_after c message)
live_has c (Transfer dlci message) has = something_more c.reception.taken (message ∷ []) has
live_has c (Management message) has = by message where
  by : (message : Bssmap) → HasTaken (live_connection_after c (Management message))
  by (ClearRequest cause) = has
  by ClearComplete = has
  by _ = has

after_has : (c : Connection) (message : Bssap) → HasTaken c → HasTaken (connection_after c message)
after_has c message has = by c.stage where
  by : (stage : Stage) → HasTaken (connection_by stage c message)
  by Ended = has
  by _ = live_has c message has

data_has : (cs : List Connection) (n : ℕ) (o : Option Connection) (message : Option Bssap) → connection_of cs n ≡ o → AllHave cs
    → AllHave (connections_by cs n o message)
data_has cs n (Some c) (Some message) is all =
    all_set HasTaken cs (n - 1) (connection_after c message) all (after_has c message (all_numbered HasTaken cs n c is all))
data_has cs n (Some c) None is all = all
data_has cs n None message is all = all

request_has : (source : ℕ) (user : Option (List ℕ)) → IsHeeded (request_read source user) → IsSomething (initial_messages user)
request_has source None heeded = absurd heeded
request_has source (Some user) heeded = by (message_in user) heeded where
  by : (q : Option Bssap) → IsHeeded (initial_read source q) → IsSomething (initial_message_of q)
  by (Some (Management (CompleteLayer3Information cell initial))) heeded = tt
  by _ heeded = absurd heeded

message_has : (m : ℕ) (cs : List Connection) (message : Sccp) → IsHeeded (sccp_read (Some message)) → AllHave cs
    → AllHave (connections_after m cs message)
message_has m cs (ConnectionRequest source user) heeded all = by (nat_le CONNECTION_LIMIT (length cs)) where
  by : (b : Bool) → AllHave (if b then cs else with_connection m cs source user)
  by true = all
  by false = AllByRecursion-append HasTaken cs _ all (request_has source user heeded, tt)
message_has m cs (DataForm1 destination user) heeded all =
    data_has cs (destination - REFERENCE_BASE) (connection_of cs (destination - REFERENCE_BASE)) (message_in user) refl all
message_has m cs _ heeded all = all

abbrev SwitchHas : Actors → Type 0
SwitchHas w = AllHave w.switch.connections

took_has : (o : Option Sccp) (w : Actors) → IsHeeded (sccp_read o) → SwitchHas w → SwitchHas (switch_took o w)
took_has None w heeded all = all
took_has (Some message) w heeded all = message_has w.switch.modulus w.switch.connections message heeded all

-- ---- what it does of its own

clear_has : (switch : SwitchState) (n : ℕ) → AllHave switch.connections → AllHave (after_clear switch n).connections
clear_has switch n all = by (connection_of switch.connections n) refl where
  by : (o : Option Connection) → connection_of switch.connections n ≡ o → AllHave (connections_after_clear switch.connections n o)
  by None is = all
  by (Some c) is = all_set HasTaken switch.connections (n - 1) _ all (all_numbered HasTaken switch.connections n c is all)

sends_has : (w : Actors) (connection : ℕ) (message : Bssap) (next : SwitchState) → SwitchHas w → AllHave next.connections
    → SwitchHas (unwrap_or (sent_on w connection message next) w)
sends_has w connection message next all sent = by (may_send_on w connection) where
  by : (b : Bool)
      → SwitchHas
      (unwrap_or
      (if b then Some
      (record w {
        switch = next;
        switch_made =
            w.switch_made ++ data_forms_on (connection_of w.switch.connections connection) message;
      }) else None) w)
  by true = sent
  by false = all

does_has : (w : Actors) (action : SwitchAction) → SwitchHas w → SwitchHas (unwrap_or (after_switch_does w action) w)
does_has w (Assign connection) all = sends_has w connection assignment_request w.switch all all
does_has w (Clear connection) all =
    sends_has w connection clear_command (after_clear w.switch connection) all (clear_has w.switch connection all)
does_has w (Dtap connection sapi message) all = by (is_layer_3 message) where
  by : (b : Bool) → SwitchHas (unwrap_or (if b then sent_on w connection (Transfer (dlci_for sapi) message) w.switch else None) w)
  by true = sends_has w connection (Transfer (dlci_for sapi) message) w.switch all all
  by false = all

-- ---- all events

takes_has : (w : Actors) (up : Bool) (entries : List OutboxEntry) → NamesAgree w → outbox_of w SWITCH_LINK ≡ entries → SwitchHas w
    → SwitchHas (unwrap_or (if up then switch_took_first entries w else None) w)
takes_has w false entries agree pending all = all
takes_has w true [] agree pending all = all
takes_has w true (first ∷ others) agree pending all =
    took_has (sccp_in first.out.frame) (with_outbox SWITCH_LINK others w) (first_heeded w first others agree pending) all

has_by : {w : Actors} {event : Event} → NamesAgree w → SwitchKind w event → SwitchHas w → SwitchHas (actors_after w event)
unfolding event_after
has_by {w} agree takes all = takes_has w (is_up w SWITCH_LINK) (outbox_of w SWITCH_LINK) agree refl all
has_by {w} agree (does action) all = does_has w action all
has_by agree (unchanged same) all = subst (λ (s : SwitchState). AllHave s.connections) (sym same) all

pub switch_has : (settings : Parameters) (events : List Event) → AreAllowed settings → TookOctets settings events
    → AllByRecursion HasTaken (world settings events).switch.connections
switch_has settings events allowed = each_octet_event settings (λ xs. SwitchHas (world settings xs)) tt (λ before event octets all.
    subst SwitchHas (sym (snoc_actors (new_actors settings) before event))
    (has_by (names_always_agree_new settings before allowed (octets_front settings before (event ∷ []) octets))
    (switch_kind (world settings before) event) all)) events
