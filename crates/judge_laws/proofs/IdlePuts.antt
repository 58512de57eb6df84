-- SPDX-License-Identifier: MIT OR Apache-2.0
-- All messages of a row of a connection that the judge doesn't have or doesn't judge.
use Rattle.std.proofs.Common.{◌≡◌, ℕ, Bool, true, false, List, [], ◌∷◌, Option, Some, None, refl, sym, subst, ap, ◌∙◌, inl, inr}
use Rattle.std.proofs.lemmas.Bool.{cases_Bool}
use Rattle.std.specs.List.{AllByRecursion}
use Rattle.std.specs.Prelude.{Ok, map}
use Rattle.bssmap_codec.specs.declared.bssap.Bssap.{Bssap}
use Rattle.bssmap_codec.specs.declared.bssap.Bssap.TheVariants.{Management, Transfer}
use Rattle.bssmap_codec.specs.declared.bssmap.Bssmap.TheVariants as bssmap
use Rattle.conn_messages.specs.declared.message.Message.{Message}
use Rattle.conn_messages.specs.declared.message.Message.TheVariants.{Station, Data, ReleaseComplete, Request}
use Rattle.dtap_codec.specs.declared.sapi.Sapi.{Sapi}
use Rattle.dtap_codec.specs.declared.sapi.Sapi.TheVariants.{Zero, Three}
use Rattle.dtap_codec.specs.RrReading.{rr_reading}
use Rattle.rsl_codec.specs.declared.rsl.Rsl.TheVariants as rsl
use Rattle.run_judge.specs.declared.channels.ChannelView.{ChannelView}
use Rattle.run_judge.specs.declared.channels.ChannelView.TheVariants as views
use Rattle.run_judge.specs.declared.said.Said.{Said}
use Rattle.run_judge.specs.declared.said.StationChannel.{StationChannel}
use Rattle.run_judge.specs.Channels.{view_at}
use Rattle.run_judge.specs.Connection.{cleared, handed, is_same, managed, passed_up, rejected_down}
use Rattle.run_judge.specs.ConnectionState.{ConnectionState}
use Rattle.run_judge.specs.Judging.{Judging, Numbered, after, after_all, after_one, given_up, owner_of, with_channel}
use Rattle.run_judge.specs.Reading.{channel_at, dlci_sapi, handed as reads_handed, is_dtap, link_sapi, passed}
use Rattle.judge_laws.proofs.Idling.{IsMine, IsSame, OwnerIdle, command_same, destination_same, owner_idle, owner_same, same_itself}
use Rattle.judge_laws.proofs.Moving.{IsIdle, IsNamed}
use Rattle.judge_laws.proofs.Putting.{IsElsewhere}
use Rattle.judge_laws.proofs.Ranks.{same_is}
use Rattle.judge_laws.proofs.Views.{view_other, view_same}
use Rattle.judge_laws.specs.Saying.{reference_in, said_of}

-- the connection isn't there, or isn't judged
pub record Idles (n : ℕ) (j : Judging) : Type 0 where
  pub idle : IsIdle (j.connections n)
  pub own : (c : ConnectionState) → j.connections n ≡ Some c → c.reference ≡ n

-- its messages: their destinations are its own, or shared; the channels of what is for its mobile
-- are nobody else's
abbrev pub IsIdlePut : ℕ → Judging → Message → Type 0
IsIdlePut n j (Request message) = ⊥
IsIdlePut n j (ReleaseComplete destination) = ⊥
IsIdlePut n j (Data destination message) = IsNamed n (j.by_switch destination) (j.connections n)
IsIdlePut n j (Station station (rsl.DataRequest d)) = IsMine n (view_at j.channels (channel_at station d.channel))
IsIdlePut n j (Station station message) = Unit {0}

pub record IdleTells (n : ℕ) (j next : Judging) (away : StationChannel → Type 0) : Type 0 where
  pub connections : (k : ℕ) → next.connections k ≡ j.connections k
  pub by_switch : (source : ℕ) → next.by_switch source ≡ j.by_switch source
  pub views : (at : StationChannel) → away at → view_at next.channels at ≡ view_at j.channels at
  pub mine : (at : StationChannel) → IsMine n (view_at j.channels at) → IsMine n (view_at next.channels at)
  pub modulus : next.modulus ≡ j.modulus
  pub begun : next.begun ≡ j.begun

same_tells : (n : ℕ) (j next : Judging) (away : StationChannel → Type 0) → IsSame j next → IdleTells n j next away
same_tells n j next away same = record {
  connections = same.connections;
  by_switch = same.by_switch;
  views = λ at far. ap (λ stations. view_at stations at) same.channels;
  mine = λ at mine. subst (λ stations. IsMine n (view_at stations at)) (sym same.channels) mine;
  modulus = same.modulus;
  begun = same.begun;
}

-- a view that is nobody's
channel_tells : (n : ℕ) (place : StationChannel) (view : ChannelView) (j : Judging) →
    IsMine n view →
    IdleTells n j (with_channel place view j) (λ at. is_same place at ≡ false)
channel_tells n place view j nobody = record {
  connections = λ k. refl;
  by_switch = λ source. refl;
  views = λ at differ. view_other place at view j.channels differ;
  mine = λ at mine. elim (cases_Bool (is_same place at)) [
    | inl here ↦ subst (IsMine n) (sym (ap (view_at (with_channel place view j).channels) (sym (same_is place at here)) ∙ view_same place view j.channels)) nobody
    | inr differ ↦ subst (IsMine n) (sym (view_other place at view j.channels differ)) mine
  ];
  modulus = refl;
  begun = refl;
}

given_tells : (n : ℕ) (place : StationChannel) (view : ChannelView) (j : Judging) →
    IdleTells n j (given_up view place j) (λ at. is_same place at ≡ false)
given_tells n place (views.Activated reference) j = channel_tells n place views.Unknown j tt
given_tells n place (views.Opened opening) j = channel_tells n place views.Unknown j tt
given_tells n place views.Unknown j = same_tells n j j _ (same_itself j)
given_tells n place (views.Owned reference number) j = same_tells n j j _ (same_itself j)

data_tells : (n frame destination : ℕ) (b : Bssap) (j : Judging) (away : StationChannel → Type 0) →
    Idles n j →
    IsNamed n (j.by_switch destination) (j.connections n) →
    IdleTells n j (after frame (passed destination (Ok b)) j) away
data_tells n frame destination (Transfer dlci message) j away idles named = same_tells n j _ away (destination_same n destination (passed_up j.modulus (dlci_sapi dlci) message frame) j idles.idle named)
data_tells n frame destination (Management bssmap.ClearComplete) j away idles named = same_tells n j _ away (destination_same n destination (cleared frame) j idles.idle named)
data_tells n frame destination (Management (bssmap.SapiNReject dlci cause)) j away idles named = same_tells n j _ away (destination_same n destination (rejected_down frame) j idles.idle named)
data_tells n frame destination (Management b) j away idles named = same_tells n j _ away (destination_same n destination (managed frame) j idles.idle named)

pub idle_one : (n frame : ℕ) (m : Message) (j : Judging) →
    Idles n j →
    IsIdlePut n j m →
    IdleTells n j (after frame (said_of n m) j) (λ at. IsElsewhere at m)
idle_one n frame (Request message) j idles put = absurd put
idle_one n frame (ReleaseComplete destination) j idles put = absurd put
idle_one n frame (Data destination message) j idles put = data_tells n frame destination message j _ idles put
idle_one n frame (Station station (rsl.DataRequest d)) j idles put = by (is_dtap d.l3) (link_sapi d.link)
  where
    at : StationChannel
    at = channel_at station d.channel

    owner : OwnerIdle n (owner_of at j)
    owner = owner_idle n at j put idles.idle idles.own

    by : (b : Bool) (o : Option Sapi) → IdleTells n j (after frame (reads_handed b at o d.l3) j) (λ place. Unit {0})
    by true (Some sapi) = same_tells n j _ _ (owner_same n at (handed at sapi d.l3 frame) j idles.idle owner)
    by true None = same_tells n j j _ (same_itself j)
    by false (Some Zero) = subst (λ (next : Judging). IdleTells n j next (λ place. Unit {0})) (sym (command_same n frame at (rr_reading d.l3) j owner)) (same_tells n j j _ (same_itself j))
    by false (Some Three) = same_tells n j j _ (same_itself j)
    by false None = same_tells n j j _ (same_itself j)
idle_one n frame (Station station (rsl.ChannelActivation a)) j idles put = channel_tells n (channel_at station a.channel) (views.Activated (reference_in a.reference)) j tt
idle_one n frame (Station station (rsl.RfChannelRelease channel)) j idles put = given_tells n (channel_at station channel) (view_at j.channels (channel_at station channel)) j
idle_one n frame (Station station x) j idles put = same_tells n j j _ (same_itself j)

-- ---- one message after the other

pub idle_after : (n : ℕ) (j next : Judging) (away : StationChannel → Type 0) → IdleTells n j next away → Idles n j → Idles n next
idle_after n j next away tells idles = record {
  idle = subst IsIdle (sym (tells.connections n)) idles.idle;
  own = λ c is. idles.own c (sym (tells.connections n) ∙ is);
}

put_after : (n : ℕ) (j next : Judging) (away : StationChannel → Type 0) (m : Message) →
    IdleTells n j next away →
    IsIdlePut n j m →
    IsIdlePut n next m
put_after n j next away (Request message) tells put = put
put_after n j next away (ReleaseComplete destination) tells put = put
put_after n j next away (Data destination message) tells put = rw (tells.by_switch destination, tells.connections n) put
put_after n j next away (Station station (rsl.DataRequest d)) tells put = tells.mine (channel_at station d.channel) put
put_after n j next away (Station station x) tells put = tt

all_after : (n : ℕ) (j next : Judging) (away : StationChannel → Type 0) (ms : List Message) →
    IdleTells n j next away →
    AllByRecursion (IsIdlePut n j) ms →
    AllByRecursion (IsIdlePut n next) ms
all_after n j next away [] tells put = tt
all_after n j next away (m ∷ ms) tells put = (put_after n j next away m tells put.0, all_after n j next away ms tells put.1)

pub idle_all : (n : ℕ) (ns : List Numbered) (ms : List Message) (j : Judging) →
    map (λ (k : Numbered). k.said) ns ≡ map (said_of n) ms →
    Idles n j →
    AllByRecursion (IsIdlePut n j) ms →
    IdleTells n j (after_all j ns) (λ at. AllByRecursion (IsElsewhere at) ms)
idle_all n [] [] j are idles put = same_tells n j j _ (same_itself j)
idle_all n [] (m ∷ ms) j are idles put = absurd cc
idle_all n (k ∷ ks) [] j are idles put = absurd cc
idle_all n (k ∷ ks) (m ∷ ms) j are idles put =
    let said : k.said ≡ said_of n m = cc in
    let rest : map (λ (x : Numbered). x.said) ks ≡ map (said_of n) ms = cc in
    let next : Judging = after_one j k in
    let one : IdleTells n j next (λ at. IsElsewhere at m) = subst (λ (s : Said). IdleTells n j (after k.frame s j) (λ at. IsElsewhere at m)) (sym said) (idle_one n k.frame m j idles put.0) in
    let all : IdleTells n next (after_all next ks) (λ at. AllByRecursion (IsElsewhere at) ms) = idle_all n ks ms next rest (idle_after n j next _ one idles) (all_after n j next _ ms one put.1) in
    record {
      connections = λ x. all.connections x ∙ one.connections x;
      by_switch = λ source. all.by_switch source ∙ one.by_switch source;
      views = λ at far. all.views at far.1 ∙ one.views at far.0;
      mine = λ at mine. all.mine at (one.mine at mine);
      modulus = all.modulus ∙ one.modulus;
      begun = all.begun ∙ one.begun;
    }
