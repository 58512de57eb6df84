-- SPDX-License-Identifier: MIT OR Apache-2.0
-- The frames of one connection change only its own entry in a judge.
use Rattle.std.proofs.Common.{◌≡◌, ◌≢◌, ℕ, Option, Some, None, refl, sym, subst, ap, ◌∙◌, option_map}
use Rattle.std.proofs.lemmas.Bool.{cond-false, cond-true, eq-eqb, eqb-true, false_from_ne_true}
use Rattle.run_judge.specs.declared.channels.ChannelView.{ChannelView}
use Rattle.run_judge.specs.declared.channels.ChannelView.TheVariants as views
use Rattle.run_judge.specs.declared.connection.Unjudged.{Unjudged}
use Rattle.run_judge.specs.declared.judge.Named.{Named}
use Rattle.run_judge.specs.declared.judge.Named.TheVariants.{One, Shared}
use Rattle.run_judge.specs.declared.said.StationChannel.{StationChannel}
use Rattle.run_judge.specs.Channels.{view_at}
use Rattle.run_judge.specs.Connection.{while_judged, while_judged_of}
use Rattle.run_judge.specs.ConnectionState.{ConnectionState}
use Rattle.run_judge.specs.Judging.{Judging, numbered_connection, owner_in, owner_of, put, with_destination, with_judged, with_named, with_owner, with_owner_in}

abbrev Entry : Type 0
Entry = Option ConnectionState

-- the entry of this connection changes where it is judged, and nothing else
pub record Moves (n : ℕ) (change : ConnectionState → ConnectionState) (j after : Judging) : Type 0 where
  pub mine : after.connections n ≡ option_map (while_judged change) (j.connections n)
  pub others : (m : ℕ) → m ≢ n → after.connections m ≡ j.connections m
  pub by_switch : (source : ℕ) → after.by_switch source ≡ j.by_switch source
  pub channels : after.channels ≡ j.channels
  pub modulus : after.modulus ≡ j.modulus
  pub begun : after.begun ≡ j.begun

pub put_same : {A : Type 0} (key : ℕ) (value : Option A) (entries : ℕ → Option A) → put key value entries key ≡ value
put_same key value entries = cond-true _ _ _ (eq-eqb key key refl)

pub put_other : {A : Type 0} (key : ℕ) (value : Option A) (entries : ℕ → Option A) (other : ℕ) →
    other ≢ key →
    put key value entries other ≡ entries other
put_other key value entries other differ = cond-false _ _ _ (false_from_ne_true _ (λ same. differ (sym (eqb-true key other same))))

pub judged_moves : (n : ℕ) (change : ConnectionState → ConnectionState) (j : Judging) → Moves n change j (with_judged n change j)
judged_moves n change j = record {
  mine = put_same n (option_map (while_judged change) (j.connections n)) j.connections;
  others = λ m differ. put_other n (option_map (while_judged change) (j.connections n)) j.connections m differ;
  by_switch = λ source. refl;
  channels = refl;
  modulus = refl;
  begun = refl;
}

-- nothing changes, where the connection isn't there or isn't judged
abbrev pub IsIdle : Entry → Type 0
IsIdle None = Unit {0}
IsIdle (Some c) = (unjudged : Unjudged) × (c.unjudged ≡ Some unjudged)

pub idle_same : (change : ConnectionState → ConnectionState) (o : Entry) → IsIdle o → o ≡ option_map (while_judged change) o
idle_same change None idle = refl
idle_same change (Some c) idle = ap (λ (x : ConnectionState). Some x) (sym (ap (λ (u : Option Unjudged). while_judged_of u change c) idle.1))

pub idle_moves : (n : ℕ) (change : ConnectionState → ConnectionState) (j : Judging) → IsIdle (j.connections n) → Moves n change j j
idle_moves n change j idle = record {
  mine = idle_same change (j.connections n) idle;
  others = λ m differ. refl;
  by_switch = λ source. refl;
  channels = refl;
  modulus = refl;
  begun = refl;
}

-- ---- by the switch's reference

-- it is this connection's alone; or it was given to another one too, and then it isn't judged
abbrev pub IsNamed : ℕ → Option Named → Entry → Type 0
IsNamed n (Some (One m)) entry = m ≡ n
IsNamed n (Some Shared) entry = IsIdle entry
IsNamed n None entry = ⊥

pub destination_moves : (n destination : ℕ) (change : ConnectionState → ConnectionState) (j : Judging) →
    IsNamed n (j.by_switch destination) (j.connections n) →
    Moves n change j (with_destination destination change j)
destination_moves n destination change j named = by (j.by_switch destination) named
  where
    by : (o : Option Named) → IsNamed n o (j.connections n) → Moves n change j (with_named o change j)
    by (Some (One m)) same = subst (λ (k : ℕ). Moves n change j (with_judged k change j)) (sym same) (judged_moves n change j)
    by (Some Shared) idle = idle_moves n change j idle
    by None never = absurd never

-- ---- by a channel

-- a channel is this connection's, or nobody's
abbrev pub IsOwnedBy : ℕ → ChannelView → Entry → Type 0
IsOwnedBy n (views.Owned reference number) (Some c) = (reference ≡ n) × (c.number ≡ number) × (c.reference ≡ n)
IsOwnedBy n view entry = ⊥

pub owner_moves : (n : ℕ) (at : StationChannel) (change : ConnectionState → ConnectionState) (j : Judging) (c : ConnectionState) (number : ℕ) →
    j.connections n ≡ Some c →
    view_at j.channels at ≡ views.Owned n number →
    c.number ≡ number →
    c.reference ≡ n →
    Moves n change j (with_owner at change j)
owner_moves n at change j c number there view same own =
    let owner : owner_of at j ≡ Some c =
    ap (λ (v : ChannelView). owner_in v j) view
    ∙ ap (numbered_connection number) there
    ∙ cond-true _ _ _ (eq-eqb c.number number same) in
    subst (Moves n change j) (sym (ap (λ (o : Entry). with_owner_in o change j) owner))
    (subst (λ (k : ℕ). Moves n change j (with_judged k change j)) (sym own) (judged_moves n change j))
