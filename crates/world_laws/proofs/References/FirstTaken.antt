-- SPDX-License-Identifier: MIT OR Apache-2.0
-- The switch takes the first entry: the names agree after it, and it is taken as it was put, or its
-- connection is refused.
use Rattle.world_laws.proofs.Prelude.{◌≡◌, ◌≢◌, ◌⊎◌, ℕ, ◌+◌, ◌<◌, ◌≤◌, ◌^◌, ◌==◌, Bool, true, cond, List, [], ◌∷◌, ◌++◌, find, map, Option}
use Rattle.world_laws.proofs.Prelude.{Some, None, refl, sym, ap, ◌∙◌, subst, arith, inl, inr, AllByRecursion, cases_Bool, eq-eqb, eqb-true}
use Rattle.world_laws.proofs.Prelude.{eqb-false, ne_eqb, append-nil, Bssap, Management, Transfer, Sccp, ConnectionRequest, DataForm1}
use Rattle.world_laws.proofs.Prelude.{SWITCH_LINK, outs_for, REFERENCE_BASE, connections_after, message_in, replies, OutboxEntry, sccp_in}
use Rattle.world_laws.proofs.Prelude.{switch_took, Actors, is_up, outbox_of, with_outbox, is_of_peer, taken_in, taken_of, carried_for}
use Rattle.world_laws.proofs.Prelude.{is_unasked, is_asking, is_unheard, is_known}
use Rattle.bssmap_codec.specs.declared.bssmap.Bssmap.TheVariants as bssmap
use Rattle.msc_end.specs.declared.connection.Connection.{Connection}
use Rattle.world_laws.specs.References.Agree.{Agrees, AsksOnce, ConfirmsBy, Never, HasAsked, IsAddressedTo, IsHeeded, IsKnown, IsOnItsWay, IsRight}
use Rattle.world_laws.specs.References.Agree.{IsUnknown, NamesAgree, Runs, IsFirstAt, is_over, over_after, reads, reads_of}
use Rattle.world_laws.specs.References.Reads.{AreNothing, IsNothing, Read, asks, carried, data_read, initial_read, nothing, sccp_read}
use Rattle.world_laws.proofs.References.OwnTaking.{heeds_data, own_asks, own_data}
use Rattle.world_laws.proofs.References.Peers.{Differ, HaveOwnPeers, effect_differs, peers_of}
use Rattle.world_laws.proofs.References.Places.{first_at_find}
use Rattle.world_laws.proofs.References.Right.{other_carries}
use Rattle.world_laws.proofs.References.Taking.{After, asked_same, same_unknown, Effect, IsSame, Took, after_took, confirms_after}
use Rattle.world_laws.proofs.References.Taking.{other_keeps, other_none, other_same, first_at_other, same_agrees, took_nothing}
use Rattle.world_laws.proofs.References.Taking.{took_connections, took_replies}
use Rattle.world_laws.proofs.References.Taking.Effect.{same}

-- ---- the first of what waits

pub first-own : (n : ℕ) (first : OutboxEntry) (others : List OutboxEntry) →
    first.out.conn ≡ n →
    reads_of n (first ∷ others) ≡ reads first.out ∷ reads_of n others
first-own n first others is = ap (λ (b : Bool). map reads (cond b (first.out ∷ outs_for n (map (λ entry. entry.out) others)) (outs_for n (map (λ entry. entry.out) others)))) (eq-eqb first.out.conn n is)

pub first-other : (n : ℕ) (first : OutboxEntry) (others : List OutboxEntry) →
    first.out.conn ≢ n →
    reads_of n (first ∷ others) ≡ reads_of n others
first-other n first others differ = ap (λ (b : Bool). map reads (cond b (first.out ∷ outs_for n (map (λ entry. entry.out) others)) (outs_for n (map (λ entry. entry.out) others)))) (ne_eqb first.out.conn n differ)

nothing_or : (r : Read) → IsNothing r ⊎ (IsNothing r → ⊥)
nothing_or nothing = inl tt
nothing_or (asks source initial) = inr (λ is. is)
nothing_or _ = inr (λ is. is)

asks_tail : (n : ℕ) (r : Read) (rest : List Read) → IsNothing r → AsksOnce n (r ∷ rest) → AsksOnce n rest
asks_tail n nothing rest is once = once
asks_tail n (asks source initial) rest is once = absurd is
asks_tail n _ rest is once = absurd is

runs_tail : (k : ℕ) (over last : Bool) (r : Read) (rest : List Read) → IsNothing r → Runs k over (r ∷ rest) last → Runs k over rest last
runs_tail k over last nothing rest is runs = runs.1
runs_tail k over last (asks source initial) rest is runs = absurd is
runs_tail k over last _ rest is runs = absurd is

-- ---- what the switch doesn't heed

data_heeds : (d : ℕ) (q : Option Bssap) → IsNothing (data_read d q) → ⊥
data_heeds d None is = is
data_heeds d (Some (Transfer dlci message)) is = is
data_heeds d (Some (Management bssmap.ClearComplete)) is = is
data_heeds d (Some (Management (bssmap.CompleteLayer3Information cell initial))) is = is
data_heeds d (Some (Management (bssmap.ClearRequest cause))) is = is
data_heeds d (Some (Management (bssmap.AssignmentRequest channel_type))) is = is
data_heeds d (Some (Management (bssmap.AssignmentComplete rr_cause))) is = is
data_heeds d (Some (Management (bssmap.AssignmentFailure cause rr_cause))) is = is
data_heeds d (Some (Management (bssmap.HandoverPerformed cause cell))) is = is
data_heeds d (Some (Management (bssmap.ClearCommand cause))) is = is
data_heeds d (Some (Management (bssmap.SapiNReject dlci cause))) is = is
data_heeds d (Some (Management bssmap.CipherModeCommand)) is = is
data_heeds d (Some (Management (bssmap.CipherModeReject cause))) is = is

initial_heeds : (s : ℕ) (q : Option Bssap) → IsNothing (initial_read s q) → ⊥
initial_heeds s None is = is
initial_heeds s (Some (Transfer dlci message)) is = is
initial_heeds s (Some (Management (bssmap.CompleteLayer3Information cell initial))) is = is
initial_heeds s (Some (Management _)) is = is

nothing_same : (m : ℕ) (cs : List Connection) (o : Option Sccp) →
    IsNothing (sccp_read o) →
    (took_connections m cs o ≡ cs) × (took_replies cs o ≡ [])
nothing_same m cs (Some (ConnectionRequest s None)) is = absurd is
nothing_same m cs (Some (ConnectionRequest s (Some user))) is = absurd (initial_heeds s (message_in user) is)
nothing_same m cs (Some (DataForm1 d user)) is = absurd (data_heeds d (message_in user) is)
nothing_same m cs _ is = (refl, refl)

-- ---- one of the connection's

module _ (w v : Actors) (others : List OutboxEntry) (n : ℕ) (three : n < w.controller.next_number → n < 2 ^ 24) where
  Result : Option Sccp → Type 0
  Result o = Took w v n (took_connections w.switch.modulus w.switch.connections o) (took_replies w.switch.connections o) (sccp_read o)

  Comes : Option Sccp → Type 0
  Comes o = After w v others (took_connections w.switch.modulus w.switch.connections o) (took_replies w.switch.connections o)

  own_nothing : (o : Option Sccp) →
      reads_of n (outbox_of w SWITCH_LINK) ≡ sccp_read o ∷ reads_of n others →
      IsNothing (sccp_read o) →
      Comes o →
      Agrees w n →
      Result o
  unfolding Result Comes
  own_nothing o pending is after agrees =
      let cs : List Connection = w.switch.connections in
      let both = nothing_same w.switch.modulus cs o is in
      let now : After w v others cs [] = subst (λ (xs : List Sccp). After w v others cs xs) both.1 (subst (λ (xs : List Connection). After w v others xs (took_replies cs o)) both.0 after) in
      let wire : reads_of n (outbox_of v SWITCH_LINK) ≡ reads_of n others = ap (reads_of n) now.rest in
      let kept : IsSame w v n = record {
        controller_is = now.controller_is;
        none = λ none. subst (λ (xs : List Connection). find (is_of_peer n) xs ≡ None) (sym now.conns) none;
        first_at = λ place c first_at. (c, subst (IsFirstAt n place c) (sym now.conns) first_at, refl);
        quiet = λ quiet. subst AreNothing (sym wire) (subst AreNothing pending quiet).1;
        once = λ once. subst (AsksOnce n) (sym wire) (asks_tail n (sccp_read o) (reads_of n others) is (subst (AsksOnce n) pending once));
        runs = λ k over last runs. subst (λ (xs : List Read). Runs k over xs last) (sym wire) (runs_tail k over last (sccp_read o) (reads_of n others) is (subst (λ (xs : List Read). Runs k over xs last) pending runs));
      } in
      subst (λ (xs : List Connection). Took w v n xs (took_replies cs o) (sccp_read o)) (sym both.0)
      (subst (λ (xs : List Sccp). Took w v n cs xs (sccp_read o)) (sym both.1) (took_nothing n (sccp_read o) now is (λ P confirms. confirms_after P n now confirms tt) kept agrees))

  own_request : HasAsked w n → IsOnItsWay w n → (s : ℕ) (user : List ℕ) (q : Option Bssap) → message_in user ≡ q → AsksOnce n (initial_read s q ∷ reads_of n others) → Comes (Some (ConnectionRequest s (Some user)))
      → Took w v n (took_connections w.switch.modulus w.switch.connections (Some (ConnectionRequest s (Some user)))) (took_replies w.switch.connections (Some (ConnectionRequest s (Some user)))) (initial_read s q)
  unfolding Comes
  own_request has way s user (Some (Management (bssmap.CompleteLayer3Information cell message))) is once after =
      subst (λ (x : ℕ). After w v others (connections_after w.switch.modulus w.switch.connections (ConnectionRequest x (Some user))) (replies w.switch.connections (ConnectionRequest x (Some user)))
      → Took w v n (connections_after w.switch.modulus w.switch.connections (ConnectionRequest x (Some user))) (replies w.switch.connections (ConnectionRequest x (Some user))) (asks x message))
      (sym once.0) (own_asks w v others n (three has.past) has way.none way.unconfirmed once.1 user message cell is) after
  own_request has way s user _ is once after = absurd once

  data_asks : (d : ℕ) (q : Option Bssap) → AsksOnce n (data_read d q ∷ reads_of n others) → ⊥
  data_asks d None once = once
  data_asks d (Some (Transfer dlci message)) once = once
  data_asks d (Some (Management bssmap.ClearComplete)) once = once
  data_asks d (Some (Management (bssmap.CompleteLayer3Information cell initial))) once = once
  data_asks d (Some (Management (bssmap.ClearRequest cause))) once = once
  data_asks d (Some (Management (bssmap.AssignmentRequest channel_type))) once = once
  data_asks d (Some (Management (bssmap.AssignmentComplete rr_cause))) once = once
  data_asks d (Some (Management (bssmap.AssignmentFailure cause rr_cause))) once = once
  data_asks d (Some (Management (bssmap.HandoverPerformed cause cell))) once = once
  data_asks d (Some (Management (bssmap.ClearCommand cause))) once = once
  data_asks d (Some (Management (bssmap.SapiNReject dlci cause))) once = once
  data_asks d (Some (Management bssmap.CipherModeCommand)) once = once
  data_asks d (Some (Management (bssmap.CipherModeReject cause))) once = once

  own_asking : HasAsked w n →
      IsOnItsWay w n →
      (o : Option Sccp) →
      (IsNothing (sccp_read o) → ⊥) →
      AsksOnce n (sccp_read o ∷ reads_of n others) →
      Comes o →
      Result o
  unfolding Result
  own_asking has way (Some (ConnectionRequest s None)) addressed once after = absurd once
  own_asking has way (Some (ConnectionRequest s (Some user))) addressed once after = own_request has way s user (message_in user) refl once after
  own_asking has way (Some (DataForm1 d user)) addressed once after = absurd (data_asks d (message_in user) once)
  own_asking has way _ addressed once after = absurd (addressed tt)

  initial_unheeded : (k : ℕ) (over : Bool) (s : ℕ) (q : Option Bssap) → IsAddressedTo k over (initial_read s q) → ⊥
  initial_unheeded k over s None addressed = addressed
  initial_unheeded k over s (Some (Transfer dlci message)) addressed = addressed
  initial_unheeded k over s (Some (Management (bssmap.CompleteLayer3Information cell initial))) addressed = addressed
  initial_unheeded k over s (Some (Management _)) addressed = addressed

  own_form : n < w.controller.next_number → (known : IsKnown w n) (d : ℕ) (user : List ℕ) (q : Option Bssap) → message_in user ≡ q → IsAddressedTo (REFERENCE_BASE + (known.place + 1)) (is_over known.of.stage) (data_read d q)
      → Runs (REFERENCE_BASE + (known.place + 1)) (over_after (is_over known.of.stage) (data_read d q)) (reads_of n others) known.last → Comes (Some (DataForm1 d user))
      → Took w v n (took_connections w.switch.modulus w.switch.connections (Some (DataForm1 d user))) (took_replies w.switch.connections (Some (DataForm1 d user))) (data_read d q)
  unfolding Comes
  own_form past known d user None is addressed runs after = absurd addressed
  own_form past known d user (Some q) is addressed runs after =
      let heedful = heeds_data (REFERENCE_BASE + (known.place + 1)) d (is_over known.of.stage) q addressed in
      subst (λ (x : ℕ). IsHeeded (data_read x (Some q)) → Runs (REFERENCE_BASE + (known.place + 1)) (over_after (is_over known.of.stage) (data_read x (Some q))) (reads_of n others) known.last
      → After w v others (connections_after w.switch.modulus w.switch.connections (DataForm1 x user)) (replies w.switch.connections (DataForm1 x user))
      → Took w v n (connections_after w.switch.modulus w.switch.connections (DataForm1 x user)) (replies w.switch.connections (DataForm1 x user)) (data_read x (Some q)))
      (sym heedful.to) (own_data w v others n past known user q is heedful.living) heedful.heeded runs after

  own_known : n < w.controller.next_number →
      (known : IsKnown w n) (o : Option Sccp) →
      (IsNothing (sccp_read o) → ⊥) →
      Runs (REFERENCE_BASE + (known.place + 1)) (is_over known.of.stage) (sccp_read o ∷ reads_of n others) known.last →
      Comes o →
      Result o
  unfolding Result
  own_known past known (Some (ConnectionRequest s None)) addressed runs after = absurd runs.0
  own_known past known (Some (ConnectionRequest s (Some user))) addressed runs after = absurd (initial_unheeded (REFERENCE_BASE + (known.place + 1)) (is_over known.of.stage) s (message_in user) runs.0)
  own_known past known (Some (DataForm1 d user)) addressed runs after = own_form past known d user
      (message_in user) refl runs.0 runs.1 after
  own_known past known _ addressed runs after = absurd (addressed tt)

  own_agreed : (o : Option Sccp) →
      reads_of n (outbox_of w SWITCH_LINK) ≡ sccp_read o ∷ reads_of n others →
      (IsNothing (sccp_read o) → ⊥) →
      Comes o →
      Agrees w n →
      Result o
  own_agreed o pending addressed after (is_unasked un unknown) = absurd (addressed (subst AreNothing pending unknown.quiet).0)
  own_agreed o pending addressed after (is_unheard has unknown) = absurd (addressed (subst AreNothing pending unknown.quiet).0)
  own_agreed o pending addressed after (is_asking has way) = own_asking has way o addressed (subst (AsksOnce n) pending way.once) after
  own_agreed o pending addressed after (is_known past known) = own_known past known o addressed (subst (λ (xs : List Read). Runs (REFERENCE_BASE + (known.place + 1)) (is_over known.of.stage) xs known.last) pending known.runs) after

  own_took : (o : Option Sccp) → reads_of n (outbox_of w SWITCH_LINK) ≡ sccp_read o ∷ reads_of n others → Comes o → Agrees w n → Result o
  own_took o pending after agrees = elim (nothing_or (sccp_read o)) [
    | inl is ↦ own_nothing o pending is after agrees
    | inr addressed ↦ own_agreed o pending addressed after agrees
  ]

-- ---- any

-- where the numbers have three octets
pub record IsFirst (w : Actors) (first : OutboxEntry) (others : List OutboxEntry) : Type 0 where
  pub agree : NamesAgree w
  pub few : w.controller.next_number ≤ 2 ^ 24
  pub up : is_up w SWITCH_LINK ≡ true
  pub pending : outbox_of w SWITCH_LINK ≡ first ∷ others

module _ (w : Actors) (first : OutboxEntry) (others : List OutboxEntry) (h : IsFirst w first others) where
  abbrev v : Actors
  v = switch_took (sccp_in first.out.frame) (with_outbox SWITCH_LINK others w)

  abbrev taken_connections : List Connection
  taken_connections = took_connections w.switch.modulus w.switch.connections (sccp_in first.out.frame)

  abbrev taken_replies : List Sccp
  taken_replies = took_replies w.switch.connections (sccp_in first.out.frame)

  after : After w v others taken_connections taken_replies
  after = after_took w others (sccp_in first.out.frame) h.up

  rights : AllByRecursion (λ entry. IsRight entry.out) (first ∷ others)
  rights = subst (AllByRecursion (λ (entry : OutboxEntry). IsRight entry.out)) h.pending h.agree.right

  -- the entry of this connection, which isn't beyond all that there were
  own_entry : (n : ℕ) → 1 ≤ n → first.out.conn ≡ n → Took w v n taken_connections taken_replies (reads first.out)
  unfolding Result Comes
  own_entry n from_one is =
      let wire : reads_of n (outbox_of w SWITCH_LINK) ≡ reads first.out ∷ reads_of n others = ap (reads_of n) h.pending ∙ first-own n first others is in
      own_took w v others n less (sccp_in first.out.frame) wire after (h.agree.each n from_one)
    where
      less : n < w.controller.next_number → n < 2 ^ 24
      less past = let few = h.few in omega (arith, past, few)

  zero_or : (m : ℕ) → (m ≡ 0) ⊎ (1 ≤ m)
  zero_or m = elim (cases_Bool (m == 0)) [
    | inl hit ↦ inl (eqb-true m 0 hit)
    | inr miss ↦ inr (some (eqb-false m 0 miss))
  ] where
    some : (m ≡ 0 → ⊥) → 1 ≤ m
    some other = omega (arith, other)

  effect : Effect first.out.conn w.switch.connections taken_connections taken_replies
  effect = elim (zero_or first.out.conn) [
    | inl zero ↦ beside (rights.0.beside zero)
    | inr from_one ↦ (own_entry first.out.conn from_one refl).effect
  ] where
    beside : reads first.out ≡ nothing → Effect first.out.conn w.switch.connections taken_connections taken_replies
    beside is =
        let both = nothing_same w.switch.modulus w.switch.connections (sccp_in first.out.frame) (subst IsNothing (sym is) tt) in
        subst (λ (xs : List Connection). Effect first.out.conn w.switch.connections xs taken_replies) (sym both.0) (subst (λ (xs : List Sccp). Effect first.out.conn w.switch.connections w.switch.connections xs) (sym both.1) same)

  -- each has a peer of its own
  pub peers_after : HaveOwnPeers w → HaveOwnPeers v
  peers_after differ = subst (λ (xs : List Connection). Differ (peers_of xs)) (sym after.conns) (elim (zero_or first.out.conn) [
    | inl zero ↦ subst (λ (xs : List Connection). Differ (peers_of xs)) (sym (nothing_same w.switch.modulus w.switch.connections (sccp_in first.out.frame) (subst IsNothing (sym (rights.0.beside zero)) tt)).0) differ
    | inr from_one ↦ effect_differs first.out.conn w.switch.connections from_one (own_entry first.out.conn from_one refl).effect differ
  ])

  other_wire : (n : ℕ) → first.out.conn ≢ n → reads_of n others ≡ reads_of n (outbox_of w SWITCH_LINK)
  other_wire n differ = sym (ap (reads_of n) h.pending ∙ first-other n first others differ)

  other_agrees : (n : ℕ) → 1 ≤ n → first.out.conn ≢ n → Agrees v n
  other_agrees n from_one differ =
      same_agrees w v n (other_same first.out.conn n differ after effect (other_wire n differ)) (other_keeps first.out.conn n differ after effect) (h.agree.each n from_one)

  pub names_after : NamesAgree v
  names_after = record {
    each = λ n from_one. elim (cases_Bool (first.out.conn == n)) [
      | inl hit ↦ (own_entry n from_one (eqb-true first.out.conn n hit)).agrees
      | inr miss ↦ other_agrees n from_one (eqb-false first.out.conn n miss)
    ];
    right = subst (AllByRecursion (λ (entry : OutboxEntry). IsRight entry.out)) (sym after.rest) rights.1;
  }

  -- ---- what it took

  took_taken : (n : ℕ) (o : Option Sccp) →
      taken_of (switch_took o w) n ≡ taken_in (find (is_of_peer n) (took_connections w.switch.modulus w.switch.connections o))
  took_taken n None = refl
  took_taken n (Some message) = refl

  other_found : (n : ℕ) → first.out.conn ≢ n → Agrees w n → taken_in (find (is_of_peer n) taken_connections) ≡ taken_of w n
  other_found n differ (is_unasked un unknown) = ap taken_in (other_none w first.out.conn n differ effect unknown.none) ∙ sym (ap taken_in unknown.none)
  other_found n differ (is_asking has way) = ap taken_in (other_none w first.out.conn n differ effect way.none) ∙ sym (ap taken_in way.none)
  other_found n differ (is_unheard has unknown) = ap taken_in (other_none w first.out.conn n differ effect unknown.none) ∙ sym (ap taken_in unknown.none)
  other_found n differ (is_known past known) =
      ap taken_in (first_at_find n known.place known.of taken_connections (first_at_other w first.out.conn n differ effect known.place known.of known.first_at))
      ∙ sym (ap taken_in (first_at_find n known.place known.of w.switch.connections known.first_at))

  abbrev Delivers : ℕ → Type 0
  Delivers n = taken_of (switch_took (sccp_in first.out.frame) w) n ≡ taken_of w n ++ carried_for n first.out

  other_delivers : (n : ℕ) → 1 ≤ n → first.out.conn ≢ n → Delivers n
  other_delivers n from_one differ =
      took_taken n (sccp_in first.out.frame) ∙ other_found n differ (h.agree.each n from_one) ∙ sym (append-nil (taken_of w n)) ∙ ap (λ (xs : List (List ℕ)). taken_of w n ++ xs) (sym (other_carries n first.out differ))

  own_delivers : (n : ℕ) → 1 ≤ n → first.out.conn ≡ n → Delivers n ⊎ (HasAsked v n × IsUnknown v n)
  own_delivers n from_one is =
      let took = own_entry n from_one is in
      let carries : carried_for n first.out ≡ carried (reads first.out) = subst (λ (x : ℕ). 1 ≤ x → IsHeeded (reads first.out) → carried_for x first.out ≡ carried (reads first.out)) is rights.0.carries_as_read from_one took.heeded in
      elim took.delivers [
        | inl all ↦ inl (took_taken n (sccp_in first.out.frame) ∙ all ∙ ap (λ (xs : List (List ℕ)). taken_of w n ++ xs) (sym carries))
        | inr never ↦ inr never
      ]

  pub delivers_or : (n : ℕ) →
      1 ≤ n →
      (taken_of (switch_took (sccp_in first.out.frame) w) n ≡ taken_of w n ++ carried_for n first.out) ⊎ (HasAsked v n × IsUnknown v n)
  delivers_or n from_one = elim (cases_Bool (first.out.conn == n)) [
    | inl hit ↦ own_delivers n from_one (eqb-true first.out.conn n hit)
    | inr miss ↦ inl (other_delivers n from_one (eqb-false first.out.conn n miss))
  ]

  -- one that the switch never hears of remains so
  pub unheard_after : (n : ℕ) → 1 ≤ n → HasAsked w n → IsUnknown w n → HasAsked v n × IsUnknown v n
  unheard_after n from_one has unknown = elim (cases_Bool (first.out.conn == n)) [
    | inl hit ↦ by (eqb-true first.out.conn n hit)
    | inr miss ↦ (
      asked_same w v n after.controller_is has,
      same_unknown w v n (other_same first.out.conn n (eqb-false first.out.conn n miss) after effect (other_wire n (eqb-false first.out.conn n miss))) (other_keeps first.out.conn n (eqb-false first.out.conn n miss) after effect) unknown,
    )
  ] where
    by : first.out.conn ≡ n → HasAsked v n × IsUnknown v n
    by is =
        let wire : reads_of n (outbox_of w SWITCH_LINK) ≡ reads first.out ∷ reads_of n others = ap (reads_of n) h.pending ∙ first-own n first others is in
        let quiet = subst AreNothing wire unknown.quiet in
        let both = nothing_same w.switch.modulus w.switch.connections (sccp_in first.out.frame) quiet.0 in (
          asked_same w v n after.controller_is has,
          record {
            none = subst (λ (xs : List Connection). find (is_of_peer n) xs ≡ None) (sym (after.conns ∙ both.0)) unknown.none;
            quiet = subst (λ (entries : List OutboxEntry). AreNothing (reads_of n entries)) (sym after.rest) quiet.1;
            unconfirmed = confirms_after Never n after unknown.unconfirmed (subst (AllByRecursion (ConfirmsBy Never n)) (sym both.1) tt);
          },
        )
