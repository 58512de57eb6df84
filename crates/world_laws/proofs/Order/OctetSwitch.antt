-- SPDX-License-Identifier: MIT OR Apache-2.0
-- What the switch makes is octets if what it reads of the controller is fair.
use Rattle.world_laws.proofs.Prelude.{◌≡◌, ℕ, zero, suc, ◌+◌, ◌-◌, ◌<◌, ◌≤◌, nat_le, Bool, true, false, if◌then◌else◌, List, [], ◌∷◌}
use Rattle.world_laws.proofs.Prelude.{◌++◌, length, option_to_list, set, unwrap_or, inl, inr, Option, Some, None, refl, sym, subst, arith}
use Rattle.world_laws.proofs.Prelude.{AllByRecursion, cases_Bool, leb-false, leb-true, Bssap, Management, Transfer, Bssmap, InterfaceFault}
use Rattle.world_laws.proofs.Prelude.{Sccp, ConnectionConfirm, ConnectionRefused, ConnectionRequest, DataForm1, Released, bssap_text}
use Rattle.world_laws.proofs.Prelude.{bssap_write_fault, IsReference, sccp_text, AllByRecursion-append, Sapi, Zero, Three}
use Rattle.world_laws.proofs.Prelude.{Ended, CONNECTION_LIMIT, REFERENCE_BASE, after_clear, assignment_request, clear_command}
use Rattle.world_laws.proofs.Prelude.{connection_after, connection_by, connections_after_clear, connections_by, data_form_by, data_forms_on}
use Rattle.world_laws.proofs.Prelude.{dlci_for, live_connection_after, message_in, replies, with_connection, SwitchState, SwitchAction}
use Rattle.world_laws.proofs.Prelude.{Assign, Clear, Dtap, after_switch_does, is_layer_3, may_send_on, sent_on, Actors, and_right}
use Rattle.world_laws.proofs.Prelude.{ClearCommand, ClearComplete, ClearRequest, cause_of, reference_text, MESSAGE_LIMIT, HasFairCause}
use Rattle.world_laws.proofs.Prelude.{IsFair, IsOctetAction}
use Rattle.std.proofs.lemmas.List.{length-append}
use Rattle.msc_end.specs.declared.connection.Connection.{Connection}
use Rattle.msc_end.specs.declared.connection.Stage.{Stage}
use Rattle.msc_end.specs.Switch.{after, connection_of, data_form, live_reply_of, replies_by, reply_by, reply_of}
use Rattle.world_laws.proofs.Order.Modulus.{all_numbered, all_set}
use Rattle.world_laws.proofs.Order.OctetTexts.{Octets, octets_append, octets_cons, octets_nil}

-- ---- texts

abbrev pub IsOctetSccp : Sccp → Type 0
IsOctetSccp message = Octets (sccp_text message)

reference_octets : (n : ℕ) → IsReference n → Octets (reference_text n)
reference_octets n is = octets_cons (omega (arith, is)) (octets_cons (omega arith) (octets_cons (omega arith) octets_nil))

confirm_octets : (destination source : ℕ) →
    IsReference destination →
    IsReference source →
    IsOctetSccp (ConnectionConfirm destination source)
confirm_octets destination source one other =
    octets_cons (omega arith) (octets_append (octets_append (reference_octets destination one) (reference_octets source other)) (octets_cons (omega arith) (octets_cons (omega arith) octets_nil)))

refused_octets : (destination : ℕ) → IsReference destination → IsOctetSccp (ConnectionRefused destination)
refused_octets destination is = octets_cons (omega arith) (octets_append (reference_octets destination is) (octets_cons (omega arith) (octets_cons (omega arith) octets_nil)))

released_octets : (destination source : ℕ) → IsReference destination → IsReference source → IsOctetSccp (Released destination source)
released_octets destination source one other =
    octets_cons (omega arith) (octets_append (octets_append (reference_octets destination one) (reference_octets source other)) (octets_cons (omega arith) (octets_cons (omega arith) octets_nil)))

data_octets : (destination : ℕ) (user : List ℕ) →
    IsReference destination →
    length user < 256 →
    Octets user →
    IsOctetSccp (DataForm1 destination user)
data_octets destination user is few all = octets_cons (omega arith) (octets_append (reference_octets destination is) (octets_cons (omega arith) (octets_cons (omega arith) (octets_cons few all))))

-- BSSAP of octets that DT1 holds, where it is written
abbrev IsOctetBssap : Bssap → Type 0
IsOctetBssap message = bssap_write_fault message ≡ None → (length (bssap_text message) < 256) × Octets (bssap_text message)

form_octets : (peer : ℕ) (message : Bssap) →
    IsReference peer →
    IsOctetBssap message →
    AllByRecursion IsOctetSccp (option_to_list (data_form peer message))
form_octets peer message is octets = by (bssap_write_fault message) refl where
  by : (o : Option InterfaceFault) →
      bssap_write_fault message ≡ o →
      AllByRecursion IsOctetSccp (option_to_list (data_form_by o (DataForm1 peer (bssap_text message))))
  by None free = (data_octets peer (bssap_text message) is (octets free).0 (octets free).1, tt)
  by (Some fault) free = tt

clear_octets : (octet : ℕ) → octet < 256 → IsOctetBssap (Management (ClearCommand (cause_of (octet ∷ []))))
clear_octets octet small free = (omega arith, octets_cons (omega arith) (octets_cons (omega arith) (octets_cons (omega arith) (octets_cons (omega arith) (octets_cons (omega arith) (octets_cons small octets_nil))))))

assignment_octets : IsOctetBssap assignment_request
assignment_octets free = (omega arith, octets_cons (omega arith) (octets_cons (omega arith) (octets_cons (omega arith) (octets_cons (omega arith) (octets_cons (omega arith) (octets_cons (omega arith) (octets_cons (omega arith) (octets_cons (omega arith) octets_nil))))))))

transfer_octets : (sapi : Sapi) (message : List ℕ) →
    is_layer_3 message ≡ true →
    Octets message →
    IsOctetBssap (Transfer (dlci_for sapi) message)
transfer_octets sapi message sized all free = (few (length message) (leb-true (length message) MESSAGE_LIMIT (and_right (nat_le 1 (length message)) (nat_le (length message) MESSAGE_LIMIT) sized)), octets_cons (omega arith) (octets_cons (dlci sapi) (octets_cons (short (length message) (leb-true (length message) MESSAGE_LIMIT (and_right (nat_le 1 (length message)) (nat_le (length message) MESSAGE_LIMIT) sized))) all))) where
  few : (n : ℕ) → n ≤ MESSAGE_LIMIT → suc (suc (suc n)) < 256
  few n le = omega (arith, le)

  short : (n : ℕ) → n ≤ MESSAGE_LIMIT → n < 256
  short n le = omega (arith, le)

  dlci : (sapi : Sapi) → dlci_for sapi < 256
  dlci Zero = omega arith
  dlci Three = omega arith

-- ---- the switch end

abbrev IsReferred : Connection → Type 0
IsReferred c = IsReference c.peer × IsReference c.number

pub record FairSwitch (switch : SwitchState) : Type 0 where
  pub referred : AllByRecursion IsReferred switch.connections
  pub few : length switch.connections ≤ CONNECTION_LIMIT

-- the connection after a message has the same references
after_referred : (c : Connection) (message : Bssap) → IsReferred c → IsReferred (connection_after c message)
after_referred c message is = by c.stage where
  of_management : (message : Bssmap) → IsReferred (live_connection_after c (Management message))
  of_management (ClearRequest cause) = is
  of_management _ = is

  of_message : (message : Bssap) → IsReferred (live_connection_after c message)
  of_message (Transfer dlci message) = is
  of_message (Management message) = of_management message

  by : (stage : Stage) → IsReferred (connection_by stage c message)
  by Ended = is
  by _ = of_message message

length_set : {X : Type 0} (xs : List X) (i : ℕ) (x : X) (n : ℕ) → length xs ≤ n → length (set xs i x) ≤ n
length_set [] i x n le = le
length_set (y ∷ ys) zero x n le = le
length_set (y ∷ ys) (suc i) x zero le = absurd (omega (arith, le))
length_set (y ∷ ys) (suc i) x (suc n) le = omega (arith, length_set ys i x n (omega (arith, le)))

set_fair : (m : ℕ) (cs : List Connection) (i : ℕ) (c : Connection) →
    IsReferred c →
    FairSwitch (record { modulus = m; connections = cs }) →
    FairSwitch (record { modulus = m; connections = set cs i c })
set_fair m cs i c is fair = record { referred = all_set IsReferred cs i c fair.referred is; few = length_set cs i c CONNECTION_LIMIT fair.few }

-- what it replies, and what it is then
pub record Replies (switch : SwitchState) (message : Sccp) : Type 0 where
  pub next : FairSwitch (after switch message)
  pub made : AllByRecursion IsOctetSccp (replies switch.connections message)

reply_octets : (c : Connection) (message : Bssap) →
    IsReferred c →
    HasFairCause (Some message) →
    AllByRecursion IsOctetSccp (option_to_list (reply_of c message))
reply_octets c message is fair = by c.stage where
  of_management : (message : Bssmap) →
      HasFairCause (Some (Management message)) →
      AllByRecursion IsOctetSccp (option_to_list (live_reply_of c (Management message)))
  of_management (ClearRequest cause) fair =
      form_octets c.peer (Management (ClearCommand cause)) is.0 (subst (λ (value : List ℕ). IsOctetBssap (Management (ClearCommand (cause_of value)))) (sym fair.2) (clear_octets fair.0 fair.1))
  of_management ClearComplete fair = (released_octets c.peer c.number is.0 is.1, tt)
  of_management _ fair = tt

  of_message : (message : Bssap) → HasFairCause (Some message) → AllByRecursion IsOctetSccp (option_to_list (live_reply_of c message))
  of_message (Transfer dlci message) fair = tt
  of_message (Management message) fair = of_management message fair

  by : (stage : Stage) → AllByRecursion IsOctetSccp (option_to_list (reply_by stage c message))
  by Ended = tt
  by _ = of_message message fair

data_replies : (switch : SwitchState) (n : ℕ) (o : Option Connection) (message : Option Bssap) → connection_of switch.connections n ≡ o → HasFairCause message → FairSwitch switch
    → FairSwitch (record { modulus = switch.modulus; connections = connections_by switch.connections n o message }) × AllByRecursion IsOctetSccp (replies_by o message)
data_replies switch n (Some c) (Some message) is fair all =
    let referred : IsReferred c = all_numbered IsReferred switch.connections n c is all.referred in
    (set_fair switch.modulus switch.connections (n - 1) (connection_after c message) (after_referred c message referred) (record { referred = all.referred; few = all.few }), reply_octets c message referred fair)
data_replies switch n (Some c) None is fair all = (record { referred = all.referred; few = all.few }, tt)
data_replies switch n None message is fair all = (record { referred = all.referred; few = all.few }, tt)

request_replies : (switch : SwitchState) (source : ℕ) (user : Option (List ℕ)) →
    IsReference source →
    FairSwitch switch →
    Replies switch (ConnectionRequest source user)
request_replies switch source user is all = elim (cases_Bool (nat_le CONNECTION_LIMIT (length switch.connections))) [
  | inl full ↦ record {
    next = record {
      referred = subst (λ (b : Bool). AllByRecursion IsReferred (if b then switch.connections else with_connection switch.modulus switch.connections source user)) (sym full) all.referred;
      few = subst (λ (b : Bool). length (if b then switch.connections else with_connection switch.modulus switch.connections source user) ≤ CONNECTION_LIMIT) (sym full) all.few;
    };
    made = subst (λ (b : Bool). AllByRecursion IsOctetSccp (if b then ConnectionRefused source ∷ [] else ConnectionConfirm source (REFERENCE_BASE + (length switch.connections + 1)) ∷ [])) (sym full) (refused_octets source is, tt);
  }
  | inr room ↦
      let below : length switch.connections < CONNECTION_LIMIT = leb-false CONNECTION_LIMIT (length switch.connections) room in
      let number : IsReference (REFERENCE_BASE + (length switch.connections + 1)) = fits (length switch.connections) below in
      record {
        next = record {
          referred = subst (λ (b : Bool). AllByRecursion IsReferred (if b then switch.connections else with_connection switch.modulus switch.connections source user)) (sym room) (AllByRecursion-append IsReferred switch.connections _ all.referred ((is, number), tt));
          few = subst (λ (b : Bool). length (if b then switch.connections else with_connection switch.modulus switch.connections source user) ≤ CONNECTION_LIMIT) (sym room) (more switch.connections _ below);
        };
        made = subst (λ (b : Bool). AllByRecursion IsOctetSccp (if b then ConnectionRefused source ∷ [] else ConnectionConfirm source (REFERENCE_BASE + (length switch.connections + 1)) ∷ [])) (sym room) (confirm_octets source _ is number, tt);
      }
] where
  fits : (n : ℕ) → n < CONNECTION_LIMIT → IsReference (REFERENCE_BASE + (n + 1))
  fits n below = omega (arith, below)

  more : (cs : List Connection) (c : Connection) → length cs < CONNECTION_LIMIT → length (cs ++ c ∷ []) ≤ CONNECTION_LIMIT
  more cs c below = subst (λ (n : ℕ). n ≤ CONNECTION_LIMIT) (sym (length-append cs (c ∷ []))) (omega (arith, below))

pub replies_octets : (switch : SwitchState) (message : Sccp) → IsFair (Some message) → FairSwitch switch → Replies switch message
replies_octets switch (ConnectionRequest source user) fair all = request_replies switch source user fair all
replies_octets switch (DataForm1 destination user) fair all =
    let both = data_replies switch (destination - REFERENCE_BASE) (connection_of switch.connections (destination - REFERENCE_BASE)) (message_in user) refl fair all in
    record { next = both.0; made = both.1 }
replies_octets switch _ fair all = record { next = record { referred = all.referred; few = all.few }; made = tt }

-- ---- what it does of its own

pub record Sends (w v : Actors) : Type 0 where
  pub next : FairSwitch v.switch
  pub made : AllByRecursion IsOctetSccp v.switch_made

forms_octets : (o : Option Connection) (cs : List Connection) (n : ℕ) (message : Bssap) →
    connection_of cs n ≡ o →
    AllByRecursion IsReferred cs →
    IsOctetBssap message →
    AllByRecursion IsOctetSccp (data_forms_on o message)
forms_octets None cs n message is all octets = tt
forms_octets (Some c) cs n message is all octets = form_octets c.peer message (all_numbered IsReferred cs n c is all).0 octets

sends : (w : Actors) (connection : ℕ) (message : Bssap) (next : SwitchState) →
    FairSwitch w.switch →
    AllByRecursion IsOctetSccp w.switch_made →
    FairSwitch next →
    IsOctetBssap message →
    Sends w (unwrap_or (sent_on w connection message next) w)
sends w connection message next fair made later octets = by (may_send_on w connection) where
  by : (b : Bool) →
      Sends w (unwrap_or (if b then Some (record w { switch = next; switch_made = w.switch_made ++ data_forms_on (connection_of w.switch.connections connection) message }) else None) w)
  by true = record {
    next = later;
    made = AllByRecursion-append IsOctetSccp w.switch_made (data_forms_on (connection_of w.switch.connections connection) message) made
        (forms_octets (connection_of w.switch.connections connection) w.switch.connections connection message refl fair.referred octets);
  }
  by false = record { next = fair; made = made }

clear_fair : (switch : SwitchState) (n : ℕ) → FairSwitch switch → FairSwitch (after_clear switch n)
clear_fair switch n fair = by (connection_of switch.connections n) refl where
  by : (o : Option Connection) →
      connection_of switch.connections n ≡ o →
      FairSwitch (record { modulus = switch.modulus; connections = connections_after_clear switch.connections n o })
  by None is = record { referred = fair.referred; few = fair.few }
  by (Some c) is = set_fair switch.modulus switch.connections (n - 1) _ (all_numbered IsReferred switch.connections n c is fair.referred) (record { referred = fair.referred; few = fair.few })

pub does_octets : (w : Actors) (action : SwitchAction) →
    IsOctetAction action →
    FairSwitch w.switch →
    AllByRecursion IsOctetSccp w.switch_made →
    Sends w (unwrap_or (after_switch_does w action) w)
does_octets w (Assign connection) octets fair made = sends w connection assignment_request w.switch fair made fair assignment_octets
does_octets w (Clear connection) octets fair made = sends w connection clear_command (after_clear w.switch connection) fair made (clear_fair w.switch connection fair) (clear_octets _ (omega arith))
does_octets w (Dtap connection sapi message) octets fair made = by (is_layer_3 message) refl where
  by : (b : Bool) →
      is_layer_3 message ≡ b →
      Sends w (unwrap_or (if b then sent_on w connection (Transfer (dlci_for sapi) message) w.switch else None) w)
  by true sized = sends w connection (Transfer (dlci_for sapi) message) w.switch fair made fair (transfer_octets sapi message sized (record { are = octets }))
  by false sized = record { next = fair; made = made }
