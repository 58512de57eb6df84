-- SPDX-License-Identifier: MIT OR Apache-2.0
-- A message that the controller puts for a connection changes in the judge at most the connection's
-- entry and the view of the message's channel.
use Rattle.std.proofs.Common.{◌≡◌, ◌≢◌, ℕ, false, List, Option, Some, None, refl, ap, option_map}
use Rattle.run_judge.specs.declared.channels.ChannelView.{ChannelView}
use Rattle.run_judge.specs.declared.channels.ChannelView.TheVariants as views
use Rattle.run_judge.specs.declared.connection.Unjudged.{Unjudged}
use Rattle.run_judge.specs.declared.said.Said.TheVariants as says
use Rattle.run_judge.specs.declared.said.StationChannel.{StationChannel}
use Rattle.dtap_codec.specs.declared.sapi.Sapi.{Sapi}
use Rattle.run_judge.specs.Channels.{view_at}
use Rattle.run_judge.specs.Connection.{cleared, handed, is_same, managed, passed_up, rejected_down, while_judged, while_judged_of}
use Rattle.run_judge.specs.ConnectionState.{ConnectionState}
use Rattle.run_judge.specs.Judging.{Judging, after, given_up, with_channel}
use Rattle.judge_laws.proofs.Moving.{IsNamed, Moves, destination_moves, owner_moves}
use Rattle.judge_laws.proofs.Views.{view_other, view_same}
use Rattle.judge_laws.specs.Agreeing.{told}

-- the entry of the connection changes, where it is judged, and the views of one channel perhaps
pub record Effect (n : ℕ) (place : StationChannel) (change : ConnectionState → ConnectionState) (j next : Judging) : Type 0 where
  pub mine : next.connections n ≡ option_map (while_judged change) (j.connections n)
  pub others : (m : ℕ) → m ≢ n → next.connections m ≡ j.connections m
  pub by_switch : (source : ℕ) → next.by_switch source ≡ j.by_switch source
  pub views : (at : StationChannel) → is_same place at ≡ false → view_at next.channels at ≡ view_at j.channels at
  pub modulus : next.modulus ≡ j.modulus
  pub begun : next.begun ≡ j.begun

pub moves_effect : (n : ℕ) (place : StationChannel) (change : ConnectionState → ConnectionState) (j next : Judging) →
    Moves n change j next →
    Effect n place change j next
moves_effect n place change j next moves = record {
  mine = moves.mine;
  others = moves.others;
  by_switch = moves.by_switch;
  views = λ at differ. ap (λ stations. view_at stations at) moves.channels;
  modulus = moves.modulus;
  begun = moves.begun;
}

-- one of which nothing is said
same_entry : (o : Option ConnectionState) → o ≡ option_map (while_judged (λ c. c)) o
same_entry None = refl
same_entry (Some c) = ap (λ (x : ConnectionState). Some x) (by c.unjudged)
  where
    by : (u : Option Unjudged) → c ≡ while_judged_of u (λ x. x) c
    by None = refl
    by (Some unjudged) = refl

none_effect : (n : ℕ) (place : StationChannel) (j : Judging) → Effect n place (λ c. c) j j
none_effect n place j = record {
  mine = same_entry (j.connections n);
  others = λ m differ. refl;
  by_switch = λ source. refl;
  views = λ at differ. refl;
  modulus = refl;
  begun = refl;
}

channel_effect : (n : ℕ) (place : StationChannel) (view : ChannelView) (j : Judging) → Effect n place (λ c. c) j (with_channel place view j)
channel_effect n place view j = record {
  mine = same_entry (j.connections n);
  others = λ m differ. refl;
  by_switch = λ source. refl;
  views = λ at differ. view_other place at view j.channels differ;
  modulus = refl;
  begun = refl;
}

-- ---- DT1

pub passes_effect : (n frame destination : ℕ) (sapi : Sapi) (message : List ℕ) (place : StationChannel) (j : Judging) →
    IsNamed n (j.by_switch destination) (j.connections n) →
    Effect n place (told j.modulus frame (says.Passes destination sapi message)) j (after frame (says.Passes destination sapi message) j)
passes_effect n frame destination sapi message place j named = moves_effect n place _ j _ (destination_moves n destination (passed_up j.modulus sapi message frame) j named)

pub rejects_effect : (n frame destination : ℕ) (place : StationChannel) (j : Judging) →
    IsNamed n (j.by_switch destination) (j.connections n) →
    Effect n place (told j.modulus frame (says.Rejects destination)) j (after frame (says.Rejects destination) j)
rejects_effect n frame destination place j named = moves_effect n place _ j _ (destination_moves n destination (rejected_down frame) j named)

pub clears_effect : (n frame destination : ℕ) (place : StationChannel) (j : Judging) →
    IsNamed n (j.by_switch destination) (j.connections n) →
    Effect n place (told j.modulus frame (says.Clears destination)) j (after frame (says.Clears destination) j)
clears_effect n frame destination place j named = moves_effect n place _ j _ (destination_moves n destination (cleared frame) j named)

pub manages_effect : (n frame destination : ℕ) (place : StationChannel) (j : Judging) →
    IsNamed n (j.by_switch destination) (j.connections n) →
    Effect n place (told j.modulus frame (says.Manages destination)) j (after frame (says.Manages destination) j)
manages_effect n frame destination place j named = moves_effect n place _ j _ (destination_moves n destination (managed frame) j named)

-- ---- to a station

pub hands_effect : (n frame : ℕ) (at : StationChannel) (sapi : Sapi) (message : List ℕ) (place : StationChannel) (j : Judging) (c : ConnectionState) →
    j.connections n ≡ Some c →
    view_at j.channels at ≡ views.Owned n c.number →
    c.reference ≡ n →
    Effect n place (told j.modulus frame (says.Hands at sapi message)) j (after frame (says.Hands at sapi message) j)
hands_effect n frame at sapi message place j c there view own = moves_effect n place _ j _ (owner_moves n at (handed at sapi message frame) j c c.number there view refl own)

pub activates_effect : (n frame : ℕ) (at : StationChannel) (reference : Option ℕ) (j : Judging) →
    Effect n at (told j.modulus frame (says.Activates at reference)) j (after frame (says.Activates at reference) j)
activates_effect n frame at reference j = channel_effect n at (views.Activated reference) j

pub activates_view : (frame : ℕ) (at : StationChannel) (reference : Option ℕ) (j : Judging) →
    view_at (after frame (says.Activates at reference) j).channels at ≡ views.Activated reference
activates_view frame at reference j = view_same at (views.Activated reference) j.channels

pub releases_effect : (n frame : ℕ) (at : StationChannel) (j : Judging) →
    Effect n at (told j.modulus frame (says.Releases at)) j (after frame (says.Releases at) j)
releases_effect n frame at j = by (view_at j.channels at)
  where
    by : (view : ChannelView) → Effect n at (λ c. c) j (given_up view at j)
    by (views.Activated reference) = channel_effect n at views.Unknown j
    by (views.Opened opening) = channel_effect n at views.Unknown j
    by views.Unknown = none_effect n at j
    by (views.Owned reference number) = none_effect n at j

-- a connection's channel remains its own
pub releases_owned : (frame : ℕ) (at : StationChannel) (reference number : ℕ) (j : Judging) →
    view_at j.channels at ≡ views.Owned reference number →
    after frame (says.Releases at) j ≡ j
releases_owned frame at reference number j view = ap (λ (v : ChannelView). given_up v at j) view

pub nothing_effect : (n frame : ℕ) (place : StationChannel) (j : Judging) →
    Effect n place (told j.modulus frame says.Nothing) j (after frame says.Nothing j)
nothing_effect n frame place j = none_effect n place j
