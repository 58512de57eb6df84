-- SPDX-License-Identifier: MIT OR Apache-2.0
-- The switch takes an entry of a connection: its own entry, by what the switch reads.
use Rattle.world_laws.proofs.Prelude.{◌≡◌, ℕ, ◌+◌, ◌-◌, ◌<◌, ◌^◌, nat_le, Bool, true, false, if◌then◌else◌, List, [], ◌∷◌, ◌++◌, length}
use Rattle.world_laws.proofs.Prelude.{find, option_to_list, Option, Some, None, refl, sym, ap, ◌∙◌, subst, arith, inl, inr, true≢false}
use Rattle.world_laws.proofs.Prelude.{slice_set, AllByRecursion, append-nil, Bssap, Management, Transfer, InterfaceFault, Sccp}
use Rattle.world_laws.proofs.Prelude.{ConnectionConfirm, ConnectionRefused, ConnectionRequest, DataForm1, bssap_text}
use Rattle.world_laws.proofs.Prelude.{bssap_write_fault, IsReference, AllByRecursion-so, Input, controllers, word_by, Word, Nothing, Ping}
use Rattle.world_laws.proofs.Prelude.{Asks, OnChannel, Reports, OnConnection, Item, Controller, Open, Ended, CONNECTION_LIMIT}
use Rattle.world_laws.proofs.Prelude.{REFERENCE_BASE, connection_after, connection_by, connections_after, connections_by, data_form_by}
use Rattle.world_laws.proofs.Prelude.{live_connection_after, message_in, replies, with_connection, OutboxEntry, Actors, CellIdentifier}
use Rattle.world_laws.proofs.Prelude.{is_of_peer, taken_in, taken_of, is_unheard, is_known}
use Rattle.bssmap_codec.specs.declared.bssmap.Bssmap.TheVariants as bssmap
use Rattle.conn_rules.specs.declared.input.Input.TheVariants as inputs
use Rattle.msc_end.specs.declared.connection.Connection.{Connection}
use Rattle.msc_end.specs.declared.connection.Stage.{Stage}
use Rattle.msc_end.specs.Switch.{connection_of, initial_message_of, live_reply_of, replies_by, reply_by, reply_of}
use Rattle.world_laws.specs.References.Agree.{Confirms, ConfirmsBeing, ConfirmsBy, ConfirmsIn, HasAsked, IsAddressedTo, IsAsked, IsHeeded, IsKnown}
use Rattle.world_laws.specs.References.Agree.{IsUnknown, Knows, Never, Only, Runs, IsFirstAt, is_over, over_after, reads_of}
use Rattle.world_laws.specs.References.Naming.{Reach, waits, due, named, gone, reach_of}
use Rattle.world_laws.specs.References.Reads.{AreNothing, Read, asks, carried, data_read}
use Rattle.world_laws.proofs.References.Places.{push_own, set_own, first_at_find, first_at_get, first_at_peer, first_at_slot}
use Rattle.world_laws.proofs.References.Runs.{quiet_runs}
use Rattle.world_laws.proofs.References.Taking.{After, IsNoConfirm, Took, asked_same, confirms_after}
use Rattle.world_laws.proofs.References.Taking.Effect.{refuses, opens, changes}

-- ---- CR

-- the connection that CR opens
abbrev fresh : ℕ → List Connection → ℕ → List ℕ → Connection
fresh m cs n user = record { peer = n; stage = Open; reception = record { modulus = m; taken = initial_message_of (message_in user) }; number = REFERENCE_BASE + (length cs + 1) }

full_or : (size : ℕ) → nat_le CONNECTION_LIMIT size ≡ false → IsReference (REFERENCE_BASE + (size + 1))
full_or size miss = let few : size < CONNECTION_LIMIT = grind (arith, miss) in omega (arith, few)

asked_knows : (k : ℕ) (a : Reach) → IsAsked a → Knows k false a
asked_knows k waits asked = refl
asked_knows k due asked = refl
asked_knows k gone asked = tt
asked_knows k (named own) asked = absurd asked
asked_knows k _ asked = absurd asked

never_only : (k n : ℕ) (message : Sccp) → ConfirmsBy Never n message → ConfirmsBy (Only k) n message
never_only k n (ConnectionConfirm destination source) never = (never.0, never.1, λ is. absurd (never.2 is))
never_only k n _ never = tt

never_word : (k n : ℕ) (word : Word) → ConfirmsIn Never n word → ConfirmsIn (Only k) n word
never_word k n (OnConnection destination input) never = by input never where
  by : (input : Input) → ConfirmsIn Never n (OnConnection destination input) → ConfirmsIn (Only k) n (OnConnection destination input)
  by (inputs.ConnectionConfirm source) never = λ is. absurd (never is)
  by _ never = tt
never_word k n Nothing never = tt
never_word k n Ping never = tt
never_word k n (Asks request delay) never = tt
never_word k n (OnChannel at input) never = tt
never_word k n (Reports at number report) never = tt

never_being : (k n : ℕ) (item : Item) → ConfirmsBeing Never n item → ConfirmsBeing (Only k) n item
never_being k n item never = never_word k n (word_by item.source item.what) never

module _ (w v : Actors) (others : List OutboxEntry) (n : ℕ) (three : n < 2 ^ 24) (has : HasAsked w n) (none : find (is_of_peer n) w.switch.connections ≡ None) (never : Confirms Never w n) (quiet : AreNothing (reads_of n others)) where
  only : (k : ℕ) → Confirms (Only k) w n
  only k = record { made = AllByRecursion-so (ConfirmsBy Never n) (ConfirmsBy (Only k) n) (never_only k n) w.switch_made never.made; waiting = AllByRecursion-so (ConfirmsBeing Never n) (ConfirmsBeing (Only k) n) (never_being k n) w.inbox never.waiting }

  refused : After w v others w.switch.connections (ConnectionRefused n ∷ []) → HasAsked v n × IsUnknown v n
  refused after = (
    asked_same w v n after.controller_is has,
    record {
      none = subst (λ (xs : List Connection). find (is_of_peer n) xs ≡ None) (sym after.conns) none;
      quiet = subst (λ (entries : List OutboxEntry). AreNothing (reads_of n entries)) (sym after.rest) quiet;
      unconfirmed = confirms_after Never n after never (tt, tt);
    },
  )

  opened : (c : Connection) →
      c.peer ≡ n →
      c.stage ≡ Open →
      IsReference (REFERENCE_BASE + (length w.switch.connections + 1)) →
      After w v others (w.switch.connections ++ c ∷ []) (ConnectionConfirm n (REFERENCE_BASE + (length w.switch.connections + 1)) ∷ []) →
      IsKnown v n
  opened c is stage fits after = record {
    place = length w.switch.connections;
    of = c;
    last = false;
    first_at = subst (IsFirstAt n (length w.switch.connections) c) (sym after.conns) (push_own n w.switch.connections c none is);
    fits = fits;
    runs = subst (λ (entries : List OutboxEntry). Runs (REFERENCE_BASE + (length w.switch.connections + 1)) (is_over c.stage) (reads_of n entries) false) (sym after.rest)
        (subst (λ (s : Stage). Runs (REFERENCE_BASE + (length w.switch.connections + 1)) (is_over s) (reads_of n others) false) (sym stage) (quiet_runs (REFERENCE_BASE + (length w.switch.connections + 1)) false (reads_of n others) quiet));
    confirmed = confirms_after (Only (REFERENCE_BASE + (length w.switch.connections + 1))) n after (only (REFERENCE_BASE + (length w.switch.connections + 1))) ((three, fits, λ own. refl), tt);
    knows = asked_knows (REFERENCE_BASE + (length w.switch.connections + 1)) (reach_of (controllers v.controller n)) (asked_same w v n after.controller_is has).asked;
  }

  pub own_asks : (user message : List ℕ) (cell : CellIdentifier) → message_in user ≡ Some (Management (bssmap.CompleteLayer3Information cell message))
      → After w v others (connections_after w.switch.modulus w.switch.connections (ConnectionRequest n (Some user))) (replies w.switch.connections (ConnectionRequest n (Some user)))
      → Took w v n (connections_after w.switch.modulus w.switch.connections (ConnectionRequest n (Some user))) (replies w.switch.connections (ConnectionRequest n (Some user))) (asks n message)
  own_asks user message cell read = by (nat_le CONNECTION_LIMIT (length w.switch.connections)) refl where
    takes : taken_in (find (is_of_peer n) (w.switch.connections ++ fresh w.switch.modulus w.switch.connections n user ∷ [])) ≡ taken_of w n ++ message ∷ []
    takes = ap taken_in (first_at_find n (length w.switch.connections) (fresh w.switch.modulus w.switch.connections n user) (w.switch.connections ++ fresh w.switch.modulus w.switch.connections n user ∷ []) (push_own n w.switch.connections (fresh w.switch.modulus w.switch.connections n user) none refl)) ∙ ap initial_message_of read
        ∙ sym (ap (λ (o : Option Connection). taken_in o ++ message ∷ []) none)

    by : (b : Bool) → nat_le CONNECTION_LIMIT (length w.switch.connections) ≡ b
        → After w v others (if b then w.switch.connections else with_connection w.switch.modulus w.switch.connections n (Some user)) (if b then ConnectionRefused n ∷ [] else ConnectionConfirm n (REFERENCE_BASE + (length w.switch.connections + 1)) ∷ [])
        → Took w v n (if b then w.switch.connections else with_connection w.switch.modulus w.switch.connections n (Some user)) (if b then ConnectionRefused n ∷ [] else ConnectionConfirm n (REFERENCE_BASE + (length w.switch.connections + 1)) ∷ []) (asks n message)
    by true is after =
        let now = refused after in
        record { effect = refuses; agrees = is_unheard now.0 now.1; delivers = inr now; heeded = tt }
    by false is after =
        let fits = full_or (length w.switch.connections) is in
        record {
          effect = opens (fresh w.switch.modulus w.switch.connections n user) refl none three fits;
          agrees = is_known (asked_same w v n after.controller_is has).past (opened (fresh w.switch.modulus w.switch.connections n user) refl refl fits after);
          delivers = inl takes;
          heeded = tt;
        }

-- ---- DT1

-- what a message of DT1 does to a connection that hasn't ended
record Lived (c next : Connection) (r : Read) (o : Option Sccp) : Type 0 where
  peer : next.peer ≡ c.peer
  takes : next.reception.taken ≡ c.reception.taken ++ carried r
  stage : is_over next.stage ≡ over_after false r
  none : AllByRecursion IsNoConfirm (option_to_list o)

form_none : (f : Option InterfaceFault) (d : ℕ) (user : List ℕ) →
    AllByRecursion IsNoConfirm (option_to_list (data_form_by f (DataForm1 d user)))
form_none None d user = (tt, tt)
form_none (Some fault) d user = tt

lived : (c : Connection) (d : ℕ) (q : Bssap) →
    is_over c.stage ≡ false →
    IsHeeded (data_read d (Some q)) →
    Lived c (live_connection_after c q) (data_read d (Some q)) (live_reply_of c q)
lived c d (Transfer dlci message) living heeded = record { peer = refl; takes = refl; stage = living; none = tt }
lived c d (Management (bssmap.CompleteLayer3Information cell initial)) living heeded = absurd heeded
lived c d (Management bssmap.ClearComplete) living heeded = record { peer = refl; takes = sym (append-nil c.reception.taken); stage = refl; none = (tt, tt) }
lived c d (Management (bssmap.ClearRequest cause)) living heeded = record { peer = refl; takes = sym (append-nil c.reception.taken); stage = refl; none = form_none (bssap_write_fault (Management (bssmap.ClearCommand cause))) c.peer (bssap_text (Management (bssmap.ClearCommand cause))) }
lived c d _ living heeded = record { peer = refl; takes = sym (append-nil c.reception.taken); stage = living; none = tt }

by_stage : (stage : Stage) (c : Connection) (d : ℕ) (q : Bssap) →
    is_over stage ≡ false →
    Lived c (live_connection_after c q) (data_read d (Some q)) (live_reply_of c q) →
    Lived c (connection_by stage c q) (data_read d (Some q)) (reply_by stage c q)
by_stage Ended c d q living is = absurd (true≢false living)
by_stage _ c d q living is = is

pub record IsHeedful (k d : ℕ) (over : Bool) (r : Read) : Type 0 where
  pub living : over ≡ false
  pub to : d ≡ k
  pub heeded : IsHeeded r

pub heeds_data : (k d : ℕ) (over : Bool) (q : Bssap) →
    IsAddressedTo k over (data_read d (Some q)) →
    IsHeedful k d over (data_read d (Some q))
heeds_data k d over (Management (bssmap.CompleteLayer3Information cell initial)) addressed = absurd addressed
heeds_data k d over _ addressed = record { living = addressed.0; to = addressed.1; heeded = tt }

module _ (w v : Actors) (others : List OutboxEntry) (n : ℕ) (past : n < w.controller.next_number) (known : IsKnown w n) where
  confirms_no : (P : ℕ → Type 0) (message : Sccp) → IsNoConfirm message → ConfirmsBy P n message
  confirms_no P (ConnectionConfirm destination source) none = absurd none
  confirms_no P _ none = tt

  known_changes : (next : Connection) (r : Read) (o : Option Sccp) → is_over known.of.stage ≡ false → IsHeeded r → Lived known.of next r o → Runs (REFERENCE_BASE + (known.place + 1)) (over_after (is_over known.of.stage) r) (reads_of n others) known.last
      → After w v others (slice_set w.switch.connections known.place next) (option_to_list o) → Took w v n (slice_set w.switch.connections known.place next) (option_to_list o) r
  known_changes next r o living heeded as_lived runs after =
      let peer : next.peer ≡ n = as_lived.peer ∙ first_at_peer n known.place known.of w.switch.connections known.first_at in
      let now = set_own n known.place known.of next w.switch.connections known.first_at peer in
      record {
        effect = changes known.place known.of next (option_to_list o) (first_at_get n known.place known.of w.switch.connections known.first_at) (first_at_peer n known.place known.of w.switch.connections known.first_at) peer as_lived.none;
        agrees = is_known (subst (λ (c : Controller). n < c.next_number) (sym after.controller_is) past) (record {
          place = known.place;
          of = next;
          last = known.last;
          first_at = subst (IsFirstAt n known.place next) (sym after.conns) now;
          fits = known.fits;
          runs = subst (λ (entries : List OutboxEntry). Runs (REFERENCE_BASE + (known.place + 1)) (is_over next.stage) (reads_of n entries) known.last) (sym after.rest)
              (subst (λ (b : Bool). Runs (REFERENCE_BASE + (known.place + 1)) b (reads_of n others) known.last) (ap (λ (b : Bool). over_after b r) living ∙ sym as_lived.stage) runs);
          confirmed = confirms_after (Only (REFERENCE_BASE + (known.place + 1))) n after known.confirmed (AllByRecursion-so IsNoConfirm (ConfirmsBy (Only (REFERENCE_BASE + (known.place + 1))) n) (confirms_no (Only (REFERENCE_BASE + (known.place + 1)))) (option_to_list o) as_lived.none);
          knows = subst (λ (c : Controller). Knows (REFERENCE_BASE + (known.place + 1)) known.last (reach_of (controllers c n))) (sym after.controller_is) known.knows;
        });
        delivers = inl (ap taken_in (first_at_find n known.place next (slice_set w.switch.connections known.place next) now) ∙ as_lived.takes
            ∙ sym (ap (λ (x : Option Connection). taken_in x ++ carried r) (first_at_find n known.place known.of w.switch.connections known.first_at)));
        heeded = heeded;
      }

  pub own_data : (user : List ℕ) (q : Bssap) → message_in user ≡ Some q → is_over known.of.stage ≡ false → IsHeeded (data_read (REFERENCE_BASE + (known.place + 1)) (Some q))
      → Runs (REFERENCE_BASE + (known.place + 1)) (over_after (is_over known.of.stage) (data_read (REFERENCE_BASE + (known.place + 1)) (Some q))) (reads_of n others) known.last
      → After w v others (connections_after w.switch.modulus w.switch.connections (DataForm1 (REFERENCE_BASE + (known.place + 1)) user)) (replies w.switch.connections (DataForm1 (REFERENCE_BASE + (known.place + 1)) user))
      → Took w v n (connections_after w.switch.modulus w.switch.connections (DataForm1 (REFERENCE_BASE + (known.place + 1)) user)) (replies w.switch.connections (DataForm1 (REFERENCE_BASE + (known.place + 1)) user)) (data_read (REFERENCE_BASE + (known.place + 1)) (Some q))
  own_data user q read living heeded runs after =
      let k : ℕ = REFERENCE_BASE + (known.place + 1) in
      let cs : List Connection = w.switch.connections in
      let slot : connection_of cs (k - REFERENCE_BASE) ≡ Some known.of = first_at_slot n known.place known.of cs known.first_at in
      let back : k - REFERENCE_BASE - 1 ≡ known.place = omega arith in
      let conns : connections_after w.switch.modulus cs (DataForm1 k user) ≡ slice_set cs known.place (connection_after known.of q) =
      ap (λ (x : Option Connection). connections_by cs (k - REFERENCE_BASE) x (message_in user)) slot ∙ ap (λ (x : Option Bssap). connections_by cs (k - REFERENCE_BASE) (Some known.of) x) read
      ∙ ap (λ (i : ℕ). slice_set cs i (connection_after known.of q)) back in
      let reps : replies cs (DataForm1 k user) ≡ option_to_list (reply_of known.of q) =
      ap (λ (x : Option Connection). replies_by x (message_in user)) slot ∙ ap (λ (x : Option Bssap). replies_by (Some known.of) x) read in
      let as_lived : Lived known.of (connection_after known.of q) (data_read k (Some q)) (reply_of known.of q) = by_stage known.of.stage known.of k q living (lived known.of k q living heeded) in
      let now : After w v others (slice_set cs known.place (connection_after known.of q)) (option_to_list (reply_of known.of q)) =
      subst (λ (xs : List Sccp). After w v others (slice_set cs known.place (connection_after known.of q)) xs) reps (subst (λ (xs : List Connection). After w v others xs (replies cs (DataForm1 k user))) conns after) in
      subst (λ (xs : List Connection). Took w v n xs (replies cs (DataForm1 k user)) (data_read k (Some q))) (sym conns)
      (subst (λ (xs : List Sccp). Took w v n (slice_set cs known.place (connection_after known.of q)) xs (data_read k (Some q))) (sym reps)
      (known_changes (connection_after known.of q) (data_read k (Some q)) (reply_of known.of q) living heeded as_lived runs now))
