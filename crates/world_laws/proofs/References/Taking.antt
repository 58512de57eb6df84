-- SPDX-License-Identifier: MIT OR Apache-2.0
-- The switch takes an entry of a connection: what that changes for the connection, and what it
-- leaves of others.
use Rattle.world_laws.proofs.Prelude.{◌≡◌, ◌≢◌, ◌⊎◌, ℕ, ◌+◌, ◌<◌, ◌≤◌, Bool, true, List, [], ◌∷◌, ◌++◌, length, find, Option, Some, None}
use Rattle.world_laws.proofs.Prelude.{refl, sym, ap, ◌∙◌, subst, inl, inr, slice_get, slice_set, AllByRecursion, append-nil, Sccp}
use Rattle.world_laws.proofs.Prelude.{ConnectionConfirm, ConnectionRefused, IsReference, SWITCH_LINK, AllByRecursion-append}
use Rattle.world_laws.proofs.Prelude.{AllByRecursion-so, controllers, Controller, REFERENCE_BASE, connections_after, replies, OutboxEntry}
use Rattle.world_laws.proofs.Prelude.{switch_took, Actors, Link, is_up, link_of, outbox_of, with_outbox, changed_link, is_of_peer, taken_in}
use Rattle.world_laws.proofs.Prelude.{taken_of, is_unasked, is_asking, is_unheard, is_known}
use Rattle.msc_end.specs.declared.connection.Connection.{Connection}
use Rattle.world_laws.specs.References.Agree.{Agrees, AsksOnce, Confirms, ConfirmsBeing, ConfirmsBy, HasAsked, IsAsked, IsHeeded, IsUnasked}
use Rattle.world_laws.specs.References.Agree.{IsUnknown, Knows, Never, Only, Runs, IsFirstAt, is_over, reads_of}
use Rattle.world_laws.specs.References.Naming.{early, reach_of}
use Rattle.world_laws.specs.References.Reads.{AreNothing, IsNothing, Read, asks, carried, nothing}
use Rattle.world_laws.proofs.References.Places.{push_none, first_at_push, set_none, set_other}

-- ---- after it

abbrev pub took_connections : ℕ → List Connection → Option Sccp → List Connection
took_connections m cs None = cs
took_connections m cs (Some message) = connections_after m cs message

abbrev pub took_replies : List Connection → Option Sccp → List Sccp
took_replies cs None = []
took_replies cs (Some message) = replies cs message

-- The world after it has these connections of the switch and these replies more; the other entries
-- wait.
pub record After (w v : Actors) (others : List OutboxEntry) (cs : List Connection) (reps : List Sccp) : Type 0 where
  pub conns : v.switch.connections ≡ cs
  pub made : v.switch_made ≡ w.switch_made ++ reps
  pub controller_is : v.controller ≡ w.controller
  pub inbox_is : v.inbox ≡ w.inbox
  pub rest : outbox_of v SWITCH_LINK ≡ others

pub after_took : (w : Actors) (others : List OutboxEntry) (o : Option Sccp) →
    is_up w SWITCH_LINK ≡ true →
    After w (switch_took o (with_outbox SWITCH_LINK others w)) others (took_connections w.switch.modulus w.switch.connections o) (took_replies w.switch.connections o)
after_took w others None up = record {
  conns = refl;
  made = sym (append-nil w.switch_made);
  controller_is = refl;
  inbox_is = refl;
  rest = ap (λ (link : Link). link.outbox) (changed_link w.links SWITCH_LINK (record (link_of w SWITCH_LINK) { outbox = others }) up);
}
after_took w others (Some message) up = record {
  conns = refl;
  made = refl;
  controller_is = refl;
  inbox_is = refl;
  rest = ap (λ (link : Link). link.outbox) (changed_link w.links SWITCH_LINK (record (link_of w SWITCH_LINK) { outbox = others }) up);
}

-- ---- what it changes

abbrev pub IsNoConfirm : Sccp → Type 0
IsNoConfirm (ConnectionConfirm destination source) = ⊥
IsNoConfirm _ = Unit {0}

-- of the connections of another peer
pub data Effect (m : ℕ) (cs : List Connection) : List Connection → List Sccp → Type 0 where
  same : Effect m cs cs []
  refuses : Effect m cs cs (ConnectionRefused m ∷ [])
  opens : (c : Connection) →
      c.peer ≡ m →
      find (is_of_peer m) cs ≡ None →
      IsReference m →
      IsReference (REFERENCE_BASE + (length cs + 1)) →
      Effect m cs (cs ++ c ∷ []) (ConnectionConfirm m (REFERENCE_BASE + (length cs + 1)) ∷ [])
  changes : (i : ℕ) (x own : Connection) (reps : List Sccp) →
      slice_get cs i ≡ Some x →
      x.peer ≡ m →
      own.peer ≡ m →
      AllByRecursion IsNoConfirm reps →
      Effect m cs (slice_set cs i own) reps

confirms_none : (P : ℕ → Type 0) (n : ℕ) (message : Sccp) → IsNoConfirm message → ConfirmsBy P n message
confirms_none P n (ConnectionConfirm destination source) none = absurd none
confirms_none P n _ none = tt

pub confirms_after : {w v : Actors} {others : List OutboxEntry} {cs : List Connection} {reps : List Sccp} (P : ℕ → Type 0) (n : ℕ) →
    After w v others cs reps →
    Confirms P w n →
    AllByRecursion (ConfirmsBy P n) reps →
    Confirms P v n
confirms_after {w} {reps = reps} P n after confirms more = record {
  made = subst (AllByRecursion (ConfirmsBy P n)) (sym after.made) (AllByRecursion-append (ConfirmsBy P n) w.switch_made reps confirms.made more);
  waiting = subst (AllByRecursion (ConfirmsBeing P n)) (sym after.inbox_is) confirms.waiting;
}

-- ---- another connection

module _ (w : Actors) (m n : ℕ) (differ : m ≢ n) where
  other_confirms : {cs : List Connection} {reps : List Sccp} (P : ℕ → Type 0) →
      Effect m w.switch.connections cs reps →
      AllByRecursion (ConfirmsBy P n) reps
  other_confirms P same = tt
  other_confirms P refuses = (tt, tt)
  other_confirms P (opens c is empty first second) = ((first, second, λ own. absurd (differ own)), tt)
  other_confirms P (changes i x own reps got is same_peer none) = AllByRecursion-so IsNoConfirm (ConfirmsBy P n) (confirms_none P n) reps none

  pub other_none : {cs : List Connection} {reps : List Sccp} →
      Effect m w.switch.connections cs reps →
      find (is_of_peer n) w.switch.connections ≡ None →
      find (is_of_peer n) cs ≡ None
  other_none same none = none
  other_none refuses none = none
  other_none (opens c is empty first second) none = push_none n w.switch.connections c (λ own. differ (sym is ∙ own)) none
  other_none (changes i x own reps got is same_peer quiet) none = set_none n w.switch.connections i own (λ mine. differ (sym same_peer ∙ mine)) none

  pub first_at_other : {cs : List Connection} {reps : List Sccp} →
      Effect m w.switch.connections cs reps →
      (place : ℕ) (c : Connection) →
      IsFirstAt n place c w.switch.connections →
      IsFirstAt n place c cs
  first_at_other same place c first_at = first_at
  first_at_other refuses place c first_at = first_at
  first_at_other (opens x is empty first second) place c first_at = first_at_push n place c w.switch.connections x first_at
  first_at_other (changes i x own reps got is same_peer quiet) place c first_at = set_other n place c w.switch.connections i x own got (λ mine. differ (sym is ∙ mine)) (λ mine. differ (sym same_peer ∙ mine)) first_at

-- ---- the connection is as it was, but for what is its own

pub asked_same : (w v : Actors) (n : ℕ) → v.controller ≡ w.controller → HasAsked w n → HasAsked v n
asked_same w v n is has = record { past = subst (λ (c : Controller). n < c.next_number) (sym is) has.past; asked = subst (λ (c : Controller). IsAsked (reach_of (controllers c n))) (sym is) has.asked }

pub unasked_same : (w v : Actors) (n : ℕ) → v.controller ≡ w.controller → IsUnasked w n → IsUnasked v n
unasked_same w v n is (inl beyond) = inl (subst (λ (c : Controller). c.next_number ≤ n) (sym is) beyond)
unasked_same w v n is (inr has) = inr (subst (λ (c : Controller). (n < c.next_number) × (reach_of (controllers c n) ≡ early)) (sym is) has)

pub record IsSame (w v : Actors) (n : ℕ) : Type 0 where
  pub controller_is : v.controller ≡ w.controller
  pub none : find (is_of_peer n) w.switch.connections ≡ None → find (is_of_peer n) v.switch.connections ≡ None
  pub first_at : (place : ℕ) (c : Connection) →
      IsFirstAt n place c w.switch.connections →
      (own : Connection) × IsFirstAt n place own v.switch.connections × (is_over own.stage ≡ is_over c.stage)
  pub quiet : AreNothing (reads_of n (outbox_of w SWITCH_LINK)) → AreNothing (reads_of n (outbox_of v SWITCH_LINK))
  pub once : AsksOnce n (reads_of n (outbox_of w SWITCH_LINK)) → AsksOnce n (reads_of n (outbox_of v SWITCH_LINK))
  pub runs : (k : ℕ) (over last : Bool) →
      Runs k over (reads_of n (outbox_of w SWITCH_LINK)) last →
      Runs k over (reads_of n (outbox_of v SWITCH_LINK)) last

pub same_unknown : (w v : Actors) (n : ℕ) →
    IsSame w v n →
    ((P : ℕ → Type 0) → Confirms P w n → Confirms P v n) →
    IsUnknown w n →
    IsUnknown v n
same_unknown w v n is keeps unknown = record { none = is.none unknown.none; quiet = is.quiet unknown.quiet; unconfirmed = keeps Never unknown.unconfirmed }

pub same_agrees : (w v : Actors) (n : ℕ) → IsSame w v n → ((P : ℕ → Type 0) → Confirms P w n → Confirms P v n) → Agrees w n → Agrees v n
same_agrees w v n is keeps (is_unasked un unknown) = is_unasked (unasked_same w v n is.controller_is un) (same_unknown w v n is keeps unknown)
same_agrees w v n is keeps (is_asking has way) =
    is_asking (asked_same w v n is.controller_is has) (record { none = is.none way.none; once = is.once way.once; unconfirmed = keeps Never way.unconfirmed })
same_agrees w v n is keeps (is_unheard has unknown) = is_unheard (asked_same w v n is.controller_is has) (same_unknown w v n is keeps unknown)
same_agrees w v n is keeps (is_known past known) =
    let k : ℕ = REFERENCE_BASE + (known.place + 1) in
    let now = is.first_at known.place known.of known.first_at in
    is_known (subst (λ (c : Controller). n < c.next_number) (sym is.controller_is) past) (record {
      place = known.place;
      of = now.0;
      last = known.last;
      first_at = now.1;
      fits = known.fits;
      runs = subst (λ (b : Bool). Runs k b (reads_of n (outbox_of v SWITCH_LINK)) known.last) (sym now.2) (is.runs k (is_over known.of.stage) known.last known.runs);
      confirmed = keeps (Only k) known.confirmed;
      knows = subst (λ (c : Controller). Knows k known.last (reach_of (controllers c n))) (sym is.controller_is) known.knows;
    })

pub other_same : {w v : Actors} {others : List OutboxEntry} {cs : List Connection} {reps : List Sccp} (m n : ℕ) →
    m ≢ n →
    After w v others cs reps →
    Effect m w.switch.connections cs reps →
    reads_of n others ≡ reads_of n (outbox_of w SWITCH_LINK) →
    IsSame w v n
other_same {w} {v} m n differ after effect same_reads = record {
  controller_is = after.controller_is;
  none = λ none. subst (λ (xs : List Connection). find (is_of_peer n) xs ≡ None) (sym after.conns) (other_none w m n differ effect none);
  first_at = λ place c first_at.
      (c, subst (IsFirstAt n place c) (sym after.conns) (first_at_other w m n differ effect place c first_at), refl);
  quiet = λ quiet. subst AreNothing (sym same_wire) quiet;
  once = λ once. subst (AsksOnce n) (sym same_wire) once;
  runs = λ k over last runs. subst (λ (xs : List Read). Runs k over xs last) (sym same_wire) runs;
} where
  same_wire : reads_of n (outbox_of v SWITCH_LINK) ≡ reads_of n (outbox_of w SWITCH_LINK)
  same_wire = ap (reads_of n) after.rest ∙ same_reads

pub other_keeps : {w v : Actors} {others : List OutboxEntry} {cs : List Connection} {reps : List Sccp} (m n : ℕ) →
    m ≢ n →
    After w v others cs reps →
    Effect m w.switch.connections cs reps →
    (P : ℕ → Type 0) →
    Confirms P w n →
    Confirms P v n
other_keeps {w} m n differ after effect P confirms = confirms_after P n after confirms (other_confirms w m n differ P effect)

-- ---- its own entry

pub record Took (w v : Actors) (n : ℕ) (cs : List Connection) (reps : List Sccp) (r : Read) : Type 0 where
  pub effect : Effect n w.switch.connections cs reps
  pub agrees : Agrees v n
  pub delivers : (taken_in (find (is_of_peer n) cs) ≡ taken_of w n ++ carried r) ⊎ (HasAsked v n × IsUnknown v n)
  pub heeded : IsHeeded r

pub nothing_heeded : (r : Read) → IsNothing r → IsHeeded r × (carried r ≡ [])
nothing_heeded nothing is = (tt, refl)
nothing_heeded (asks source initial) is = absurd is
nothing_heeded _ is = absurd is

-- what isn't heeded changes nothing
pub took_nothing : {w v : Actors} {others : List OutboxEntry} (n : ℕ) (r : Read) →
    After w v others w.switch.connections [] →
    IsNothing r →
    ((P : ℕ → Type 0) → Confirms P w n → Confirms P v n) →
    IsSame w v n →
    Agrees w n →
    Took w v n w.switch.connections [] r
took_nothing {w} {v} n r after is keeps same_ agrees = record {
  effect = same;
  agrees = same_agrees w v n same_ keeps agrees;
  delivers = inl (sym (append-nil (taken_of w n)) ∙ ap (λ (xs : List (List ℕ)). taken_of w n ++ xs) (sym (nothing_heeded r is).1));
  heeded = (nothing_heeded r is).0;
}
