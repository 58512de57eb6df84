-- SPDX-License-Identifier: MIT OR Apache-2.0
-- The messages of a connection that the judge doesn't have or doesn't judge. They change no
-- connection, and only views of activated or released channels.
use Rattle.std.proofs.Common.{◌≡◌, ◌≢◌, ℕ, ◌==◌, ◌&&◌, ◌⊎◌, Bool, true, false, Option, Some, None, refl, sym, subst, ap, ◌∙◌, inl, inr}
use Rattle.std.proofs.lemmas.Bool.{cases_Bool, cond-false, eq-eqb, eqb-true}
use Rattle.std.specs.Option.{is_none}
use Rattle.std.specs.Prelude.{if◌then◌else◌, Ok, Result}
use Rattle.dtap_codec.specs.declared.rr.RrMessage.{RrMessage}
use Rattle.dtap_codec.specs.declared.rr.RrMessage.TheVariants as rr
use Rattle.dtap_codec.specs.declared.rr_fault.RrFault.{RrFault}
use Rattle.run_judge.specs.declared.channels.ChannelView.{ChannelView}
use Rattle.run_judge.specs.declared.channels.ChannelView.TheVariants as views
use Rattle.run_judge.specs.declared.connection.Unjudged.{Unjudged}
use Rattle.run_judge.specs.declared.said.StationChannel.{StationChannel}
use Rattle.run_judge.specs.Channels.{view_at}
use Rattle.run_judge.specs.Connection.{is_same, may_command}
use Rattle.run_judge.specs.ConnectionState.{ConnectionState}
use Rattle.run_judge.specs.Judging.{Judging, after, assigned_by, handed_over_by, numbered_connection, owner_in, owner_of, with_destination, with_judged, with_owner, with_owner_in}
use Rattle.run_judge.specs.Reading.{command}
use Rattle.judge_laws.proofs.Moving.{IsIdle, IsNamed, Moves, destination_moves, idle_same, judged_moves}

abbrev Entry : Type 0
Entry = Option ConnectionState

-- nothing of any connection changes
pub record IsSame (j next : Judging) : Type 0 where
  pub connections : (k : ℕ) → next.connections k ≡ j.connections k
  pub by_switch : (source : ℕ) → next.by_switch source ≡ j.by_switch source
  pub channels : next.channels ≡ j.channels
  pub modulus : next.modulus ≡ j.modulus
  pub begun : next.begun ≡ j.begun

pub same_itself : (j : Judging) → IsSame j j
same_itself j = record { connections = λ k. refl; by_switch = λ source. refl; channels = refl; modulus = refl; begun = refl }

same_or : (a b : ℕ) → (a ≡ b) ⊎ (a ≢ b)
same_or a b = elim (cases_Bool (a == b)) [
  | inl hit ↦ inl (eqb-true a b hit)
  | inr miss ↦ inr (λ same. (let both : true ≡ false = sym (eq-eqb a b same) ∙ miss in cc))
]

-- a change of one that isn't judged is none
pub idle_is_same : (n : ℕ) (change : ConnectionState → ConnectionState) (j next : Judging) →
    IsIdle (j.connections n) →
    Moves n change j next →
    IsSame j next
idle_is_same n change j next idle moves = record {
  connections = λ k. elim (same_or k n) [
    | inl same ↦ ap next.connections same ∙ moves.mine ∙ sym (idle_same change (j.connections n) idle) ∙ ap j.connections (sym same)
    | inr differ ↦ moves.others k differ
  ];
  by_switch = moves.by_switch;
  channels = moves.channels;
  modulus = moves.modulus;
  begun = moves.begun;
}

-- ---- what is said with a destination

pub destination_same : (n destination : ℕ) (change : ConnectionState → ConnectionState) (j : Judging) →
    IsIdle (j.connections n) →
    IsNamed n (j.by_switch destination) (j.connections n) →
    IsSame j (with_destination destination change j)
destination_same n destination change j idle named = idle_is_same n change j (with_destination destination change j) idle (destination_moves n destination change j named)

-- ---- by a channel

-- the channel is nobody else's
abbrev pub IsMine : ℕ → ChannelView → Type 0
IsMine n (views.Owned reference number) = reference ≡ n
IsMine n view = Unit {0}

-- whoever owns it is this connection, which isn't judged
pub record OwnerIdle (n : ℕ) (o : Entry) : Type 0 where
  pub idle : IsIdle o
  pub own : (c : ConnectionState) → o ≡ Some c → c.reference ≡ n

pub owner_idle : (n : ℕ) (at : StationChannel) (j : Judging) →
    IsMine n (view_at j.channels at) →
    IsIdle (j.connections n) →
    ((c : ConnectionState) → j.connections n ≡ Some c → c.reference ≡ n) →
    OwnerIdle n (owner_of at j)
owner_idle n at j mine idle own = by (view_at j.channels at) mine
  where
    numbered : (o : Entry) (number : ℕ) →
        IsIdle o →
        ((c : ConnectionState) → o ≡ Some c → c.reference ≡ n) →
        OwnerIdle n (numbered_connection number o)
    numbered None number idle own = record { idle = tt; own = λ c is. absurd cc }
    numbered (Some c) number idle own = of (c.number == number)
      where
        of : (b : Bool) → OwnerIdle n (if b then Some c else None)
        of true = record { idle = idle; own = own }
        of false = record { idle = tt; own = λ x is. absurd (let none : None ≡ Some x = is in cc) }

    by : (view : ChannelView) → IsMine n view → OwnerIdle n (owner_in view j)
    by (views.Owned reference number) mine = subst (λ (k : ℕ). OwnerIdle n (numbered_connection number (j.connections k))) (sym mine) (numbered (j.connections n) number idle own)
    by views.Unknown mine = record { idle = tt; own = λ c is. absurd (let none : None ≡ Some c = is in cc) }
    by (views.Activated reference) mine = record { idle = tt; own = λ c is. absurd (let none : None ≡ Some c = is in cc) }
    by (views.Opened opening) mine = record { idle = tt; own = λ c is. absurd (let none : None ≡ Some c = is in cc) }

pub owner_same : (n : ℕ) (at : StationChannel) (change : ConnectionState → ConnectionState) (j : Judging) →
    IsIdle (j.connections n) →
    OwnerIdle n (owner_of at j) →
    IsSame j (with_owner at change j)
owner_same n at change j idle owner = by (owner_of at j) owner
  where
    by : (o : Entry) → OwnerIdle n o → IsSame j (with_owner_in o change j)
    by None owner = same_itself j
    by (Some c) owner = (idle_is_same n change j (with_owner_in (Some c) change j) idle (subst (λ (k : ℕ). Moves n change j (with_judged_at k)) (sym (owner.own c refl)) (judged_moves n change j)))
      where
        with_judged_at : ℕ → Judging
        with_judged_at k = with_judged k change j

may_not : (at : StationChannel) (c : ConnectionState) → IsIdle (Some c) → may_command at c ≡ false
may_not at c idle = ap (λ (u : Option Unjudged). is_same c.serving.at at && is_none u) idle.1 ∙ never (is_same c.serving.at at)
  where
    never : (b : Bool) → (b && false) ≡ false
    never true = refl
    never false = refl

-- a COMMAND names no channel then
pub command_same : (n frame : ℕ) (at : StationChannel) (r : Result RrMessage RrFault) (j : Judging) →
    OwnerIdle n (owner_of at j) →
    after frame (command at r) j ≡ j
command_same n frame at (Ok (rr.AssignmentCommand channel)) j owner = by (owner_of at j) owner
  where
    by : (o : Entry) → OwnerIdle n o → assigned_by o at channel.channel.0 j ≡ j
    by None owner = refl
    by (Some c) owner = cond-false _ _ _ (may_not at c owner.idle)
command_same n frame at (Ok (rr.HandoverCommand cell channel reference)) j owner = by (owner_of at j) owner
  where
    by : (o : Entry) → OwnerIdle n o → handed_over_by o at cell channel.channel.0 reference frame j ≡ j
    by None owner = refl
    by (Some c) owner = cond-false _ _ _ (may_not at c owner.idle)
command_same n frame at _ j owner = refl
