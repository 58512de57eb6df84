-- SPDX-License-Identifier: MIT OR Apache-2.0
-- A channel that is in use was last activated for its connection. So a row hands messages in a
-- tenure of its connection.
use Rattle.std.proofs.Common.{◌≡◌, ◌≢◌, ◌⊎◌, ℕ, ◌==◌, ◌≤◌, ◌&&◌, not, Bool, true, false, List, [], ◌∷◌, fold, Option, Some, None, refl, sym, subst, ap, ◌∙◌, inl, inr, true≢false}
use Rattle.std.proofs.lemmas.Bool.{and_parts, or_cases, cases_Bool, cond-true, cond-false, eq-eqb, eqb-true, false_from_ne_true}
use Rattle.std.specs.List.{AllByRecursion}
use Rattle.conn_messages.specs.declared.channel.Channel.{Channel}
use Rattle.conn_messages.specs.declared.channel.Place.{Place}
use Rattle.conn_messages.specs.declared.message.Message.{Message}
use Rattle.conn_messages.specs.declared.message.Message.TheVariants.{Station}
use Rattle.conn_messages.specs.Out.{out_of, outs_of}
use Rattle.conn_rules.specs.declared.input.Input.{Input}
use Rattle.conn_rules.specs.declared.state.State.{State}
use Rattle.conn_rules.specs.declared.state.State.TheVariants.{Closed, Removed}
use Rattle.conn_rules.specs.Connection.{is_at}
use Rattle.conn_rules.specs.Putting.{ArePutOn, IsPutOn, PutsOnOwn, Using, used_after, uses_of}
use Rattle.conn_rules.specs.Roles.{Roles, channels_in, channels_in_use, roles_of, target_channels}
use Rattle.conn_rules.specs.Steps.{Row}
use Rattle.conn_rules.specs.Streams.{AreApart, IsOpen, OfRow, used_channels}
use Rattle.conn_rules.specs.Table.{row_of}
use Rattle.conn_rules.specs.Validity.{IsValid}
use Rattle.conn_rules.proofs.PutRows.{puts_on_own}
use Rattle.controller_model.specs.declared.channel_state.ChannelState.{ChannelState}
use Rattle.controller_model.specs.declared.channel_state.ChannelState.TheVariants.{InUse, Releasing}
use Rattle.controller_model.specs.Controller.{Controller, Entry, Turn, channels_after, place_at, place_of, state_in, with_state}
use Rattle.controller_model.specs.Life.{by_fitting, by_row}
use Rattle.controller_model.specs.LifeLaws.Sending.{IsSent}
use Rattle.controller_model.proofs.LifeLaws.OwningWords.{Holds, owns_entry}
use Rattle.controller_model.proofs.LifeLaws.Places.{free≢use, is_there, release≢use, set_or_not, state_else, state_here, use_other}
use Rattle.controller_model.proofs.LifeLaws.UplinkLife.{used_apart}
use Rattle.controller_model.proofs.LifeLaws.UsingWords.{IsHere}
use Rattle.rsl_codec.specs.declared.rsl.Rsl.TheVariants as rsl
use Rattle.relay_order.proofs.Tenures.{Activated, AreOwned, IsOwned, after_message, after_out, and_none, hands, latest, requests_is, takes}
use Rattle.controller_model.proofs.LifeLaws.Acting.{conn_of}

abbrev States : Type 0
States = List (List ChannelState)

-- ---- a channel in use was last activated for its connection

pub record Agrees (activated : Activated) (channels : List (List ChannelState)) : Type 0 where
  pub each : (at : Place) (n : ℕ) → state_in channels at ≡ InUse n → latest (activated at) ≡ Some n

-- as in crates/controller_model/proofs/LifeLaws/UsingRows.antt
same_or : (at other : Place) → (other ≡ at) ⊎ (other ≢ at)
same_or at other = elim (cases_Bool ((other.station == at.station) && (other.number == at.number))) [
  | inl hit ↦
      let parts = and_parts (other.station == at.station) (other.number == at.number) hit in
      inl (ap (λ (n : ℕ). record other { station = n }) (eqb-true other.station at.station parts.0) ∙ ap (λ (n : ℕ). record at { number = n }) (eqb-true other.number at.number parts.1))
  | inr miss ↦ inr (λ same. absurd (true≢false (sym (ap (λ (b : Bool). b && (other.number == at.number)) (eq-eqb other.station at.station (ap (λ (p : Place). p.station) same)) ∙ eq-eqb other.number at.number (ap (λ (p : Place). p.number) same)) ∙ miss)))
]

pub place_is : (at : Place) (station number : ℕ) → (station == at.station) && (number == at.number) ≡ true → place_at station number ≡ at
place_is at station number is =
    let parts = and_parts (station == at.station) (number == at.number) is in
    ap (λ (n : ℕ). place_at n number) (eqb-true station at.station parts.0) ∙ ap (λ (n : ℕ). place_at at.station n) (eqb-true number at.number parts.1)

place_same : (at : Place) (station number : ℕ) → place_at station number ≡ at → (station == at.station) && (number == at.number) ≡ true
place_same at station number same =
    ap (λ (b : Bool). b && (number == at.number)) (eq-eqb station at.station (ap (λ (p : Place). p.station) same))
    ∙ eq-eqb number at.number (ap (λ (p : Place). p.number) same)

-- a channel that is set to be in use by a connection is in use by no other
set_mine : (n k : ℕ) (at : Place) (channels : States) → state_in (with_state at (InUse n) channels) at ≡ InUse k → n ≡ k
set_mine n k at channels is = elim (set_or_not channels at at (InUse n)) [
  | inl hit ↦ use_other n k (sym hit ∙ is)
  | inr kept ↦
      let there = is_there channels at (λ free. free≢use k (sym free ∙ sym kept ∙ is)) in
      use_other n k (sym (state_here channels at (InUse n) there) ∙ is)
]

-- where a channel is in use after a message, the message takes it for its connection, or it was in
-- use before
message_use : (n k : ℕ) (at : Place) (channels : States) (m : Message) →
    state_in (channels_after n channels m) at ≡ InUse k →
    ((takes at m ≡ true) × (n ≡ k)) ⊎ ((takes at m ≡ false) × (state_in channels at ≡ InUse k))
message_use n k at channels (Station station (rsl.ChannelActivation a)) is = elim (same_or at (place_at station a.channel)) [
  | inl same ↦ inl (place_same at station a.channel same, set_mine n k at channels (subst (λ (p : Place). state_in (with_state p (InUse n) channels) at ≡ InUse k) same is))
  | inr differ ↦ inr (
    false_from_ne_true ((station == at.station) && (a.channel == at.number)) (λ hit. differ (place_is at station a.channel hit)),
    sym (state_else channels (place_at station a.channel) at (InUse n) (λ same. differ (sym same))) ∙ is,
  )
]
message_use n k at channels (Station station (rsl.RfChannelRelease channel)) is = elim (set_or_not channels (place_at station channel) at (Releasing n)) [
  | inl hit ↦ absurd (release≢use n k (sym hit ∙ is))
  | inr kept ↦ inr (and_none (station == at.station), sym kept ∙ is)
]
message_use n k at channels (Station station x) is = inr (and_none (station == at.station), is)
message_use n k at channels m is = inr (refl, is)

message_agrees : (activated : Activated) (n : ℕ) (channels : States) (m : Message) →
    IsSent (out_of n m) →
    Agrees activated channels →
    Agrees (after_out activated (out_of n m)) (channels_after n channels m)
message_agrees activated n channels m sent agrees = record {
  each = λ at k is. elim (message_use n k at channels m is) [
    | inl taken ↦ ap latest (after_message activated n m at sent ∙ cond-true _ (n ∷ activated at) (activated at) taken.0) ∙ ap (λ (j : ℕ). Some j) taken.1
    | inr was ↦ ap latest (after_message activated n m at sent ∙ cond-false _ (n ∷ activated at) (activated at) was.0) ∙ agrees.each at k was.1
  ];
}

pub put_agrees : (activated : Activated) (n : ℕ) (channels : List (List ChannelState)) (ms : List Message) →
    AllByRecursion IsSent (outs_of n ms) →
    Agrees activated channels →
    Agrees (fold after_out activated (outs_of n ms)) (fold (channels_after n) channels ms)
put_agrees activated n channels [] sent agrees = agrees
put_agrees activated n channels (m ∷ ms) sent agrees = put_agrees (after_out activated (out_of n m)) n (channels_after n channels m) ms sent.1 (message_agrees activated n channels m sent.0 agrees)

-- ---- what is put on channels in use is owned

-- these channels were last activated for this connection
pub record AreMine (activated : Activated) (n : ℕ) (uses : Using) : Type 0 where
  pub each : (at : Place) → uses at ≡ true → latest (activated at) ≡ Some n

one_owned : (activated : Activated) (n : ℕ) (uses : Using) (m : Message) →
    1 ≤ n →
    AreMine activated n uses →
    IsPutOn uses m →
    (at : Place) →
    hands at m ≡ true →
    (latest (activated at) ≡ Some n) × (1 ≤ n)
one_owned activated n uses (Station station (rsl.DataRequest d)) from_one mine put at is =
    let here : place_at station d.channel ≡ at = place_is at station d.channel is in
    (mine.each at (subst (λ (p : Place). uses p ≡ true) here put), from_one)
one_owned activated n uses (Station station x) from_one mine put at is = absurd (true≢false (sym is ∙ and_none (station == at.station)))
one_owned activated n uses m from_one mine put at is = absurd (true≢false (sym is))

owned_message : (activated : Activated) (n : ℕ) (uses : Using) (m : Message) →
    1 ≤ n →
    IsSent (out_of n m) →
    AreMine activated n uses →
    IsPutOn uses m →
    IsOwned activated (out_of n m)
owned_message activated n uses m from_one sent mine put = record {
  each = λ at is.
      subst (λ (k : ℕ). (latest (activated at) ≡ Some k) × (1 ≤ k)) (sym (conn_of n m))
      (one_owned activated n uses m from_one mine put at (sym (requests_is n m at sent) ∙ is));
}

-- a channel that is in use after a message was before, unless the message takes it
uses_before : (uses : Using) (m : Message) (at : Place) → used_after uses m at ≡ true → (takes at m ≡ true) ⊎ (uses at ≡ true)
uses_before uses (Station station (rsl.ChannelActivation a)) at is = elim (or_cases ((at.station == station) && (at.number == a.channel)) (uses at) is) [
  | inl hit ↦ inl (place_same at station a.channel (sym (place_is (place_at station a.channel) at.station at.number hit)))
  | inr used ↦ inr used
]
uses_before uses (Station station (rsl.RfChannelRelease channel)) at is = inr (and_parts (not ((at.station == station) && (at.number == channel))) (uses at) is).1
uses_before uses (Station station x) at is = inr is
uses_before uses m at is = inr is

mine_after : (activated : Activated) (n : ℕ) (uses : Using) (m : Message) →
    IsSent (out_of n m) →
    AreMine activated n uses →
    AreMine (after_out activated (out_of n m)) n (used_after uses m)
mine_after activated n uses m sent mine = record {
  each = λ at is. elim (cases_Bool (takes at m)) [
    | inl taken ↦ ap latest (after_message activated n m at sent ∙ cond-true _ (n ∷ activated at) (activated at) taken)
    | inr spared ↦ ap latest (after_message activated n m at sent ∙ cond-false _ (n ∷ activated at) (activated at) spared) ∙ elim (uses_before uses m at is) [
      | inl taken ↦ absurd (true≢false (sym taken ∙ spared))
      | inr used ↦ mine.each at used
    ]
  ];
}

pub put_owned : (activated : Activated) (n : ℕ) (uses : Using) (ms : List Message) →
    1 ≤ n →
    AllByRecursion IsSent (outs_of n ms) →
    AreMine activated n uses →
    ArePutOn uses ms →
    AreOwned activated (outs_of n ms)
put_owned activated n uses [] from_one sent mine put = tt
put_owned activated n uses (m ∷ ms) from_one sent mine put = (
  owned_message activated n uses m from_one sent.0 mine put.0,
  put_owned (after_out activated (out_of n m)) n (used_after uses m) ms from_one sent.1 (mine_after activated n uses m sent.0 mine) put.1,
)

-- ---- a row

pub record OwnedTurn (activated : Activated) (t : Turn) : Type 0 where
  pub agrees : Agrees (fold after_out activated t.outs) t.next.channels
  pub owned : AreOwned activated t.outs

-- what a row of an entry needs
pub record IsOwner (activated : Activated) (e : Entry) : Type 0 where
  pub from_one : 1 ≤ e.connection.number
  pub valid : IsValid e.connection
  pub apart : IsOpen e.connection.state → AreApart (used_channels e.connection)
  pub mine : AreMine activated e.connection.number (uses_of (channels_in_use e.connection))

in_use_all : (Q : Channel → Type 0) (state : State) (roles : Roles) →
    (IsOpen state → AllByRecursion Q (roles.serving ∷ target_channels roles.target)) →
    AllByRecursion Q (channels_in state roles)
in_use_all Q (Closed clearing) roles all = tt
in_use_all Q Removed roles all = tt
in_use_all Q state roles all = all tt

uses_in : (P : Place → Type 0) (cs : List Channel) (at : Place) →
    AllByRecursion (λ (c : Channel). P (place_of c)) cs →
    uses_of cs at ≡ true →
    P at
uses_in P [] at all is = absurd (true≢false (sym is))
uses_in P (c ∷ cs) at all is = elim (or_cases (is_at at c) (uses_of cs at) is) [
  | inl hit ↦ subst P (sym (place_of_is at c hit)) all.0
  | inr behind ↦ uses_in P cs at all.1 behind
]
  where
    place_of_is : (at : Place) (c : Channel) → is_at at c ≡ true → at ≡ place_of c
    place_of_is at c is = place_is (place_of c) at.station at.number is

pub owner_here : (links : List Bool) (activated : Activated) (c : Controller) (e : Entry) →
    IsHere links c e →
    Holds links c →
    Agrees activated c.channels →
    IsOwner activated e
owner_here links activated c e here holds agrees = record {
  from_one = here.from_one;
  valid = here.valid;
  apart = λ is_open. used_apart e.connection (owns_entry links c e here.there holds is_open).apart;
  mine = record {
    each = λ at used. agrees.each at e.connection.number
        (uses_in (λ (p : Place). state_in c.channels p ≡ InUse e.connection.number) (channels_in_use e.connection) at
        (in_use_all (λ (d : Channel). state_in c.channels (place_of d) ≡ InUse e.connection.number) e.connection.state (roles_of e.connection) (λ is_open. (owns_entry links c e here.there holds is_open).using))
        used);
  };
}

by_row_owned : (activated : Activated) (c : Controller) (e : Entry) (input : Input) (offer : Option Channel) (r : Row) →
    row_of e.connection input offer ≡ Some r →
    IsOwner activated e →
    Agrees activated c.channels →
    AllByRecursion IsSent (by_row e r c).outs →
    OwnedTurn activated (by_row e r c)
by_row_owned activated c e input offer r fits owner agrees sent = record {
  agrees = put_agrees activated e.connection.number c.channels r.outs sent agrees;
  owned = put_owned activated e.connection.number (uses_of (channels_in_use e.connection)) r.outs owner.from_one sent owner.mine
      (subst (OfRow (λ (q : Row). PutsOnOwn e.connection q.outs)) fits (puts_on_own e.connection input offer owner.valid owner.apart));
}

pub fitting_owned : (activated : Activated) (c : Controller) (otherwise : Turn) (e : Entry) (input : Input) (offer : Option Channel) (o : Option Row) → row_of e.connection input offer ≡ o → IsOwner activated e → Agrees activated c.channels → OwnedTurn activated otherwise
    → AllByRecursion IsSent (by_fitting otherwise e o c).outs → OwnedTurn activated (by_fitting otherwise e o c)
fitting_owned activated c otherwise e input offer None is owner agrees same sent = same
fitting_owned activated c otherwise e input offer (Some r) is owner agrees same sent = by_row_owned activated c e input offer r is owner agrees sent
