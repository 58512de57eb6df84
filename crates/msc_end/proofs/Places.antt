-- SPDX-License-Identifier: MIT OR Apache-2.0
-- Connections by their number.
use Rattle.std.proofs.Common.{◌≡◌, ◌≢◌, ◌⊎◌, ℕ, true, zero, suc, ◌-◌, ◌<◌, ◌≤◌, cond, List, [], ◌∷◌, length, get_or, Option, Some, None, refl, sym, ap, ◌∙◌, arith, eq-eqb, inl, inr}
use Rattle.std.specs.Prelude.{slice_get, slice_set, option_to_list}
use Rattle.std.proofs.lemmas.Bool.{false≢true, ne_eqb}
use Rattle.bssmap_codec.specs.declared.bssap.Bssap.{Bssap}
use Rattle.bssmap_codec.specs.declared.sccp.Sccp.{Sccp}
use Rattle.bssmap_codec.specs.declared.sccp.Sccp.TheVariants.{DataForm1}
use Rattle.msc_end.specs.declared.connection.Connection.{Connection}
use Rattle.msc_end.specs.declared.connection.Stage.{Stage}
use Rattle.msc_end.specs.declared.connection.Stage.TheVariants.{Open, Clearing, Ended}
use Rattle.msc_end.specs.Refusal.{has_ended}
use Rattle.msc_end.specs.Switch.{after, connection_after, connection_by, connection_of, connections_by, message_in, replies_by, reply_by, reply_of}
use Rattle.msc_end.specs.declared.parameters.TheConstants.{REFERENCE_BASE}
use Rattle.msc_end.specs.SwitchState.{SwitchState}

got : {X : Type 0} (xs : List X) (i : ℕ) (d : X) → i < length xs → slice_get xs i ≡ Some (get_or xs i d)
got [] i d h = absurd (omega arith)
got (x ∷ xs) zero d h = refl
got (x ∷ xs) (suc i) d h = got xs i d (omega arith)

past : {X : Type 0} (xs : List X) (i : ℕ) → length xs ≤ i → slice_get xs i ≡ None
past [] i h = refl
past (x ∷ xs) zero h = absurd (omega arith)
past (x ∷ xs) (suc i) h = past xs i (omega arith)

pub here : (cs : List Connection) (n : ℕ) (c : Connection) → n ≢ 0 → n ≤ length cs → c ≡ get_or cs (n - 1) c → connection_of cs n ≡ Some c
here cs n c ne le at =
    ap (λ b. cond b None (slice_get cs (n - 1))) (ne_eqb n 0 ne) ∙ got cs (n - 1) c (omega arith) ∙ ap (λ (x : Connection). Some x) (sym at)

pub nowhere : (cs : List Connection) (n : ℕ) → (n ≡ 0) ⊎ (length cs < n) → connection_of cs n ≡ None
nowhere cs n (inl is) = ap (λ b. cond b None (slice_get cs (n - 1))) (eq-eqb n 0 is)
nowhere cs n (inr lt) =
    let ne : n ≢ 0 = omega arith in
    ap (λ b. cond b None (slice_get cs (n - 1))) (ne_eqb n 0 ne) ∙ past cs (n - 1) (omega arith)

pub state_is : (cs : List Connection) (n d : ℕ) (c new : Connection) (m : Bssap) (h : Option Bssap) → n ≡ d - REFERENCE_BASE → n ≢ 0 → n ≤ length cs → c ≡ get_or cs (n - 1) c → h ≡ Some m → new ≡ connection_after c m
    → slice_set cs (n - 1) new ≡ connections_by cs (d - REFERENCE_BASE) (connection_of cs (d - REFERENCE_BASE)) h
state_is cs n d c new m h is ne le at hm after =
    ap (λ (x : Connection). slice_set cs (n - 1) x) after
    ∙ sym (ap (λ o. connections_by cs n o h) (here cs n c ne le at) ∙ ap (λ g. connections_by cs n (Some c) g) hm)
    ∙ ap (λ (k : ℕ). connections_by cs k (connection_of cs k) h) is

pub reply_is : (cs : List Connection) (n d : ℕ) (c : Connection) (m : Bssap) (h : Option Bssap) (reply : Option Sccp) → n ≡ d - REFERENCE_BASE → n ≢ 0 → n ≤ length cs → c ≡ get_or cs (n - 1) c → h ≡ Some m → reply ≡ reply_of c m
    → option_to_list reply ≡ replies_by (connection_of cs (d - REFERENCE_BASE)) h
reply_is cs n d c m h reply is ne le at hm r =
    ap (λ (x : Option Sccp). option_to_list x) r
    ∙ sym (ap (λ o. replies_by o h) (here cs n c ne le at) ∙ ap (λ g. replies_by (Some c) g) hm)
    ∙ ap (λ (k : ℕ). replies_by (connection_of cs k) h) is

pub silent : (cs : List Connection) (n d : ℕ) (h : Option Bssap) →
    n ≡ d - REFERENCE_BASE →
    (n ≡ 0) ⊎ (length cs < n) →
    [] ≡ replies_by (connection_of cs (d - REFERENCE_BASE)) h
silent cs n d h is no_one = sym (ap (λ o. replies_by o h) (nowhere cs n no_one)) ∙ ap (λ (k : ℕ). replies_by (connection_of cs k) h) is

abbrev switch_with : ℕ → List Connection → SwitchState
switch_with k cs = record { modulus = k; connections = cs }

pub switch_is : (s : SwitchState) (k : ℕ) (cs : List Connection) (n d : ℕ) (c new : Connection) (m : Bssap) (user : List ℕ) → record { modulus = k; connections = cs } ≡ s → n ≡ d - REFERENCE_BASE → n ≢ 0 → n ≤ length cs → c ≡ get_or cs (n - 1) c → message_in user ≡ Some m → new ≡ connection_after c m
    → record { modulus = k; connections = slice_set cs (n - 1) new } ≡ after s (DataForm1 d user)
switch_is s k cs n d c new m user view is ne le at hm new_is =
    ap (λ (xs : List Connection). switch_with k xs) (state_is cs n d c new m (message_in user) is ne le at hm new_is)
    ∙ ap (λ (x : SwitchState). after x (DataForm1 d user)) view

-- ---- a connection that has ended: nothing changes, and nothing is replied

set_same : {X : Type 0} (xs : List X) (i : ℕ) (x : X) → x ≡ get_or xs i x → slice_set xs i x ≡ xs
set_same [] i x is = refl
set_same (y ∷ ys) zero x is = ap (λ z. z ∷ ys) is
set_same (y ∷ ys) (suc i) x is = ap (λ zs. y ∷ zs) (set_same ys i x is)

ended_same : (stage : Stage) (c : Connection) (m : Bssap) → has_ended stage ≡ true → connection_by stage c m ≡ c
ended_same Open c m ended = absurd (false≢true ended)
ended_same Clearing c m ended = absurd (false≢true ended)
ended_same Ended c m ended = refl

ended_unanswered : (stage : Stage) (c : Connection) (m : Bssap) → has_ended stage ≡ true → reply_by stage c m ≡ None
ended_unanswered Open c m ended = absurd (false≢true ended)
ended_unanswered Clearing c m ended = absurd (false≢true ended)
ended_unanswered Ended c m ended = refl

same_by : (cs : List Connection) (n : ℕ) (c : Connection) (h : Option Bssap) →
    c ≡ get_or cs (n - 1) c →
    has_ended c.stage ≡ true →
    connections_by cs n (Some c) h ≡ cs
same_by cs n c None at ended = refl
same_by cs n c (Some m) at ended =
    ap (λ (x : Connection). slice_set cs (n - 1) x) (ended_same c.stage c m ended) ∙ set_same cs (n - 1) c at

unanswered_by : (c : Connection) (h : Option Bssap) → has_ended c.stage ≡ true → replies_by (Some c) h ≡ []
unanswered_by c None ended = refl
unanswered_by c (Some m) ended = ap (λ (o : Option Sccp). option_to_list o) (ended_unanswered c.stage c m ended)

pub ended_state : (s : SwitchState) (k : ℕ) (cs : List Connection) (n d : ℕ) (c : Connection) (user : List ℕ) → record { modulus = k; connections = cs } ≡ s → n ≡ d - REFERENCE_BASE → n ≢ 0 → n ≤ length cs → c ≡ get_or cs (n - 1) c → has_ended c.stage ≡ true
    → s ≡ after s (DataForm1 d user)
ended_state s k cs n d c user view is ne le at ended =
    let same : connections_by cs (d - REFERENCE_BASE) (connection_of cs (d - REFERENCE_BASE)) (message_in user) ≡ cs =
    ap (λ (j : ℕ). connections_by cs j (connection_of cs j) (message_in user)) (sym is)
    ∙ ap (λ o. connections_by cs n o (message_in user)) (here cs n c ne le at) ∙ same_by cs n c (message_in user) at ended in
    sym view ∙ ap (λ (xs : List Connection). switch_with k xs) (sym same) ∙ ap (λ (x : SwitchState). after x (DataForm1 d user)) view

pub ended_silent : (cs : List Connection) (n d : ℕ) (c : Connection) (h : Option Bssap) → n ≡ d - REFERENCE_BASE → n ≢ 0 → n ≤ length cs → c ≡ get_or cs (n - 1) c → has_ended c.stage ≡ true
    → [] ≡ replies_by (connection_of cs (d - REFERENCE_BASE)) h
ended_silent cs n d c h is ne le at ended =
    sym (ap (λ o. replies_by o h) (here cs n c ne le at) ∙ unanswered_by c h ended) ∙ ap (λ (k : ℕ). replies_by (connection_of cs k) h) is
