-- SPDX-License-Identifier: MIT OR Apache-2.0
-- Each connection of the switch has a peer of its own.
use Rattle.world_laws.proofs.Prelude.{◌≡◌, ◌≢◌, ℕ, zero, suc, ◌-◌, ◌≤◌, nat_eq, Bool, true, false, cond, if◌then◌else◌, List, [], ◌∷◌, ◌++◌}
use Rattle.world_laws.proofs.Prelude.{map, find, Option, Some, None, refl, sym, ap, ◌∙◌, subst, slice_get, slice_set, AllByRecursion}
use Rattle.world_laws.proofs.Prelude.{eq-eqb, ne_eqb, map-append, Sccp, AllByRecursion-append, Clearing, connections_after_clear}
use Rattle.world_laws.proofs.Prelude.{with_stage, Actors, same_Some, is_of_peer, ArePeers}
use Rattle.msc_end.specs.declared.connection.Connection.{Connection}
use Rattle.msc_end.specs.Switch.{connection_of}
use Rattle.world_laws.proofs.References.Places.{none_first}
use Rattle.world_laws.proofs.References.Taking.{Effect}
use Rattle.world_laws.proofs.References.Taking.Effect.{same, refuses, opens, changes}

abbrev pub peers_of : List Connection → List ℕ
peers_of cs = map (λ (c : Connection). c.peer) cs

-- from 1, and each once
abbrev pub Differ : List ℕ → Type 0
Differ [] = Unit {0}
Differ (n ∷ ns) = (1 ≤ n) × AllByRecursion (λ m. m ≢ n) ns × Differ ns

abbrev pub HaveOwnPeers : Actors → Type 0
HaveOwnPeers w = Differ (peers_of w.switch.connections)

-- ---- one more, or one is changed

differ_push : (ns : List ℕ) (n : ℕ) → 1 ≤ n → AllByRecursion (λ m. m ≢ n) ns → Differ ns → Differ (ns ++ n ∷ [])
differ_push [] n least others differ = (least, tt, tt)
differ_push (m ∷ ns) n least others differ =
    (differ.0, AllByRecursion-append (λ x. x ≢ m) ns (n ∷ []) differ.1 ((λ same_number. others.0 (sym same_number)), tt), differ_push ns n least others.1 differ.2)

none_all : (n : ℕ) (cs : List Connection) → find (is_of_peer n) cs ≡ None → AllByRecursion (λ m. m ≢ n) (peers_of cs)
none_all n [] none = tt
none_all n (c ∷ cs) none = let parts = none_first n c cs none in (parts.0, none_all n cs parts.1)

set_peers : (cs : List Connection) (i : ℕ) (x own : Connection) →
    slice_get cs i ≡ Some x →
    own.peer ≡ x.peer →
    peers_of (slice_set cs i own) ≡ peers_of cs
set_peers [] i x own got peer = refl
set_peers (c ∷ cs) zero x own got peer = ap (λ (n : ℕ). n ∷ peers_of cs) (peer ∙ ap (λ (z : Connection). z.peer) (sym (same_Some _ _ got)))
set_peers (c ∷ cs) (suc i) x own got peer = ap (λ (ns : List ℕ). c.peer ∷ ns) (set_peers cs i x own got peer)

-- what the switch does with an entry of a connection
pub effect_differs : (m : ℕ) (cs : List Connection) {now : List Connection} {reps : List Sccp} →
    1 ≤ m →
    Effect m cs now reps →
    Differ (peers_of cs) →
    Differ (peers_of now)
effect_differs m cs least same differ = differ
effect_differs m cs least refuses differ = differ
effect_differs m cs least (opens c is none first second) differ =
    subst Differ (sym (map-append (λ (x : Connection). x.peer) cs (c ∷ [])))
    (subst (λ (n : ℕ). Differ (peers_of cs ++ n ∷ [])) (sym is) (differ_push (peers_of cs) m least (none_all m cs none) differ))
effect_differs m cs least (changes i x own reps got is peer quiet) differ = subst Differ (sym (set_peers cs i x own got (peer ∙ sym is))) differ

-- what it does of its own
pub clear_peers : (cs : List Connection) (number : ℕ) → peers_of (connections_after_clear cs number (connection_of cs number)) ≡ peers_of cs
clear_peers cs number = by_number (nat_eq number 0) where
  by : (o : Option Connection) → slice_get cs (number - 1) ≡ o → peers_of (connections_after_clear cs number o) ≡ peers_of cs
  by None is = refl
  by (Some x) is = set_peers cs (number - 1) x (with_stage x Clearing) is refl

  by_number : (b : Bool) → peers_of (connections_after_clear cs number (if b then None else slice_get cs (number - 1))) ≡ peers_of cs
  by_number true = refl
  by_number false = by (slice_get cs (number - 1)) refl

-- ---- so each is the first of its peer

all_got : (P : ℕ → Type 0) (cs : List Connection) (i : ℕ) (c : Connection) →
    slice_get cs i ≡ Some c →
    AllByRecursion P (peers_of cs) →
    P c.peer
all_got P [] i c got all = absurd (let is : None ≡ Some c = got in cc)
all_got P (x ∷ cs) zero c got all = subst (λ (z : Connection). P z.peer) (same_Some _ _ got) all.0
all_got P (x ∷ cs) (suc i) c got all = all_got P cs i c got all.1

differ_find : (cs : List Connection) (i : ℕ) (c : Connection) →
    slice_get cs i ≡ Some c →
    Differ (peers_of cs) →
    (1 ≤ c.peer) × (find (is_of_peer c.peer) cs ≡ Some c)
differ_find [] i c got differ = absurd (let is : None ≡ Some c = got in cc)
differ_find (x ∷ cs) zero c got differ =
    subst (λ (z : Connection). (1 ≤ z.peer) × (find (is_of_peer z.peer) (x ∷ cs) ≡ Some z)) (same_Some _ _ got)
    (differ.0, ap (λ (b : Bool). cond b (Some x) (find (is_of_peer x.peer) cs)) (eq-eqb x.peer x.peer refl))
differ_find (x ∷ cs) (suc i) c got differ =
    let rest = differ_find cs i c got differ.2 in
    let other : x.peer ≡ c.peer → ⊥ = λ is. all_got (λ m. m ≢ x.peer) cs i c got differ.1 (sym is) in
    (rest.0, ap (λ (b : Bool). cond b (Some x) (find (is_of_peer c.peer) cs)) (ne_eqb x.peer c.peer other) ∙ rest.1)

pub own_peers : (w : Actors) → HaveOwnPeers w → ArePeers w
own_peers w differ number c got = by (nat_eq number 0) got where
  by : (b : Bool) →
      (if b then None else slice_get w.switch.connections (number - 1)) ≡ Some c →
      (1 ≤ c.peer) × (find (is_of_peer c.peer) w.switch.connections ≡ Some c)
  by true got = absurd (let is : None ≡ Some c = got in cc)
  by false got = differ_find w.switch.connections (number - 1) c got differ
