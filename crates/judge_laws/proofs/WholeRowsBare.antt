-- SPDX-License-Identifier: MIT OR Apache-2.0
-- The messages of a closed connection to the switch: DT1s to its reference, and RLC.
use Rattle.std.proofs.Common.{◌≡◌, ◌≢◌, ℕ, List, [], ◌∷◌, Option, Some, None, refl, sym, subst, ap, ◌∙◌, option_map}
use Rattle.std.specs.List.{AllByRecursion}
use Rattle.std.specs.Option.{option_to_list}
use Rattle.std.specs.Prelude.{Ok, map}
use Rattle.bssmap_codec.specs.declared.bssap.Bssap.{Bssap}
use Rattle.bssmap_codec.specs.declared.bssap.Bssap.TheVariants.{Management, Transfer}
use Rattle.bssmap_codec.specs.declared.bssmap.Bssmap.TheVariants as bssmap
use Rattle.conn_messages.specs.declared.message.Message.{Message}
use Rattle.conn_messages.specs.declared.message.Message.TheVariants.{Station, Data, ReleaseComplete, Request}
use Rattle.run_judge.specs.declared.connection.Unjudged.{Unjudged}
use Rattle.run_judge.specs.declared.judge.Named.{Named}
use Rattle.run_judge.specs.declared.judge.Named.TheVariants.{One}
use Rattle.run_judge.specs.declared.said.Said.{Said}
use Rattle.run_judge.specs.Channels.{view_at}
use Rattle.run_judge.specs.Connection.{IsWithoutFault, behind_clear, cleared, managed, managed_behind_clear, passed_up, rejected_down, sent_up, while_judged, while_judged_of}
use Rattle.run_judge.specs.ConnectionState.{ConnectionState}
use Rattle.run_judge.specs.Judging.{Judging, Numbered, after, after_all, after_one, all_ended, ended_by, with_destination}
use Rattle.run_judge.specs.Reading.{dlci_sapi, passed}
use Rattle.judge_laws.proofs.HeardFineChannels.{if_one}
use Rattle.judge_laws.proofs.Law.{AreWell, all_both, ended_well}
use Rattle.judge_laws.proofs.Moving.{IsNamed, Moves, destination_moves}
use Rattle.judge_laws.proofs.Told.{sent_keeps}
use Rattle.judge_laws.proofs.WholeRowsPuts.{Lasts, goes, well_after}
use Rattle.judge_laws.proofs.WholeRowsViews.{views_by}
use Rattle.judge_laws.specs.Agreeing.{tells, told}
use Rattle.judge_laws.specs.Saying.{said_of}

-- ---- DT1s

-- it is there, and judged
pub record IsBare (n : ℕ) (j : Judging) (c : ConnectionState) : Type 0 where
  pub there : j.connections n ≡ Some c
  pub judged : c.unjudged ≡ None
  pub own : c.reference ≡ n

-- to its reference alone
abbrev pub IsDataOf : ℕ → Judging → Message → Type 0
IsDataOf n j (Data destination message) = j.by_switch destination ≡ Some (One n)
IsDataOf n j (Request message) = ⊥
IsDataOf n j (ReleaseComplete destination) = ⊥
IsDataOf n j (Station station message) = ⊥

pub record BareTells (n : ℕ) (j next : Judging) (c : ConnectionState) : Type 0 where
  pub bare : IsBare n next c
  pub others : (k : ℕ) → k ≢ n → next.connections k ≡ j.connections k
  pub by_switch : (source : ℕ) → next.by_switch source ≡ j.by_switch source
  pub channels : next.channels ≡ j.channels
  pub modulus : next.modulus ≡ j.modulus

-- what is said of it leaves these
abbrev Same : ConnectionState → ConnectionState → Type 0
Same c after = (after.unjudged ≡ c.unjudged) × (after.reference ≡ c.reference)

bare_tells : (n destination : ℕ) (change : ConnectionState → ConnectionState) (j : Judging) (c : ConnectionState) →
    j.by_switch destination ≡ Some (One n) →
    Same c (change c) →
    IsBare n j c →
    BareTells n j (with_destination destination change j) (change c)
bare_tells n destination change j c is same bare =
    let moved : Moves n change j (with_destination destination change j) = destination_moves n destination change j (subst (λ (o : Option Named). IsNamed n o (j.connections n)) (sym is) refl) in
    record {
      bare = record {
        there = moved.mine ∙ ap (option_map (while_judged change)) bare.there ∙ ap (λ (u : Option Unjudged). Some (while_judged_of u change c)) bare.judged;
        judged = same.0 ∙ bare.judged;
        own = same.1 ∙ bare.own;
      };
      others = moved.others;
      by_switch = moved.by_switch;
      channels = moved.channels;
      modulus = moved.modulus;
    }

passed_same : (m : ℕ) (dlci : ℕ) (message : List ℕ) (frame : ℕ) (c : ConnectionState) →
    Same c (passed_up m (dlci_sapi dlci) message frame c)
passed_same m dlci message frame c =
    if_one c.is_cleared (behind_clear (dlci_sapi dlci) message frame c) (sent_up m (dlci_sapi dlci) message frame c) c (Same c) (refl, refl)
    (sent_keeps (Same c) m (dlci_sapi dlci) message frame c (λ counts progress mobile. (refl, refl)))

data_one : (n frame destination : ℕ) (b : Bssap) (j : Judging) (c : ConnectionState) →
    j.by_switch destination ≡ Some (One n) →
    IsBare n j c →
    BareTells n j (after frame (passed destination (Ok b)) j) (told j.modulus frame (passed destination (Ok b)) c)
data_one n frame destination (Transfer dlci message) j c is bare = bare_tells n destination (passed_up j.modulus (dlci_sapi dlci) message frame) j c is (passed_same j.modulus dlci message frame c) bare
data_one n frame destination (Management bssmap.ClearComplete) j c is bare = bare_tells n destination (cleared frame) j c is (if_one c.is_cleared (managed_behind_clear frame c) _ c (Same c) (refl, refl) (refl, refl)) bare
data_one n frame destination (Management (bssmap.SapiNReject dlci cause)) j c is bare = bare_tells n destination (rejected_down frame) j c is (if_one c.is_cleared (managed_behind_clear frame c) _ c (Same c) (refl, refl) (refl, refl)) bare
data_one n frame destination (Management b) j c is bare = bare_tells n destination (managed frame) j c is (if_one c.is_cleared (managed_behind_clear frame c) c c (Same c) (refl, refl) (refl, refl)) bare

data_tells : (n frame : ℕ) (m : Message) (j : Judging) (c : ConnectionState) →
    IsDataOf n j m →
    IsBare n j c →
    BareTells n j (after frame (said_of n m) j) (told j.modulus frame (said_of n m) c)
data_tells n frame (Data destination b) j c own bare = data_one n frame destination b j c own bare
data_tells n frame (Request message) j c own bare = absurd own
data_tells n frame (ReleaseComplete destination) j c own bare = absurd own
data_tells n frame (Station station message) j c own bare = absurd own

own_after : (n : ℕ) (j next : Judging) (ms : List Message) →
    ((source : ℕ) → next.by_switch source ≡ j.by_switch source) →
    AllByRecursion (IsDataOf n j) ms →
    AllByRecursion (IsDataOf n next) ms
own_after n j next [] names own = tt
own_after n j next (m ∷ ms) names own = (one m own.0, own_after n j next ms names own.1)
  where
    one : (m : Message) → IsDataOf n j m → IsDataOf n next m
    one (Data destination message) is = names destination ∙ is
    one (Request message) is = is
    one (ReleaseComplete destination) is = is
    one (Station station message) is = is

pub data_all : (n : ℕ) (ns : List Numbered) (ms : List Message) (j : Judging) (c : ConnectionState) →
    map (λ (k : Numbered). k.said) ns ≡ map (said_of n) ms →
    AllByRecursion (IsDataOf n j) ms →
    IsBare n j c →
    BareTells n j (after_all j ns) (tells j.modulus ns c)
data_all n [] [] j c are own bare = record { bare = bare; others = λ k differ. refl; by_switch = λ source. refl; channels = refl; modulus = refl }
data_all n [] (m ∷ ms) j c are own bare = absurd cc
data_all n (k ∷ ks) [] j c are own bare = absurd cc
data_all n (k ∷ ks) (m ∷ ms) j c are own bare =
    let said : k.said ≡ said_of n m = cc in
    let rest : map (λ (x : Numbered). x.said) ks ≡ map (said_of n) ms = cc in
    let next : Judging = after_one j k in
    let now : ConnectionState = told j.modulus k.frame k.said c in
    let one : BareTells n j next now = subst (λ (s : Said). BareTells n j (after k.frame s j) (told j.modulus k.frame s c)) (sym said) (data_tells n k.frame m j c own.0 bare) in
    let all : BareTells n next (after_all next ks) (tells next.modulus ks now) = data_all n ks ms next now rest (own_after n j next ms one.by_switch own.1) one.bare in
    record {
      bare = subst (λ (modulus : ℕ). IsBare n (after_all next ks) (tells modulus ks now)) one.modulus all.bare;
      others = λ x differ. all.others x differ ∙ one.others x differ;
      by_switch = λ source. all.by_switch source ∙ one.by_switch source;
      channels = all.channels ∙ one.channels;
      modulus = all.modulus ∙ one.modulus;
    }

-- ---- RLC alone

abbrev pub IsRlc : Message → Type 0
IsRlc (ReleaseComplete destination) = Unit {0}
IsRlc _ = ⊥

rlc_one : (n frame : ℕ) (m : Message) (j : Judging) → IsRlc m → Lasts n (m ∷ []) j (after frame (said_of n m) j)
rlc_one n frame (ReleaseComplete destination) j rlc =
    let gone = goes n j in
    record {
      others = gone.others;
      named = gone.named;
      views = λ at. ap (λ stations. view_at stations at) gone.channels;
      mine = λ k there. absurd (let none : None ≡ Some k = sym gone.gone ∙ there in cc);
    }
rlc_one n frame (Data destination message) j rlc = absurd rlc
rlc_one n frame (Request message) j rlc = absurd rlc
rlc_one n frame (Station station message) j rlc = absurd rlc

-- a message as the frame says it
rlc_said : (n : ℕ) (k : Numbered) (m : Message) (j : Judging) → k.said ≡ said_of n m → IsRlc m → Lasts n (m ∷ []) j (after_one j k)
rlc_said n k m j said rlc = subst (λ (s : Said). Lasts n (m ∷ []) j (after k.frame s j)) (sym said) (rlc_one n k.frame m j rlc)

pub rlc_walk : (n : ℕ) (ns : List Numbered) (ms : List Message) (j : Judging) →
    map (λ (k : Numbered). k.said) ns ≡ map (said_of n) ms →
    AllByRecursion IsRlc ms →
    Lasts n ms j (after_all j ns)
rlc_walk n [] [] j are rlc = record { others = λ k differ. refl; named = λ k reference entry differ named. named; views = λ at. refl; mine = λ k there. there }
rlc_walk n [] (m ∷ ms) j are rlc = absurd cc
rlc_walk n (k ∷ ks) [] j are rlc = absurd cc
rlc_walk n (k ∷ ks) (m ∷ ms) j are rlc =
    let said : k.said ≡ said_of n m = cc in
    let rest : map (λ (x : Numbered). x.said) ks ≡ map (said_of n) ms = cc in
    let one = rlc_said n k m j said rlc.0 in
    let all = rlc_walk n ks ms (after_one j k) rest rlc.1 in
    record {
      others = λ x differ. all.others x differ ∙ one.others x differ;
      named = λ x reference entry differ named. all.named x reference entry differ (one.named x reference entry differ named);
      views = λ at. all.views at ∙ ap (views_by at ms) (one.views at);
      mine = λ x there. one.mine x (all.mine x there);
    }

pub rlc_fair : (n : ℕ) (ns : List Numbered) (ms : List Message) (j : Judging) →
    map (λ (k : Numbered). k.said) ns ≡ map (said_of n) ms →
    AllByRecursion IsRlc ms →
    AreWell j →
    AllByRecursion IsWithoutFault (all_ended j ns)
rlc_fair n [] ms j are rlc well = tt
rlc_fair n (k ∷ ks) [] j are rlc well = absurd cc
rlc_fair n (k ∷ ks) (m ∷ ms) j are rlc well =
    let said : k.said ≡ said_of n m = cc in
    let rest : map (λ (x : Numbered). x.said) ks ≡ map (said_of n) ms = cc in
    let next : Judging = after_one j k in
    all_both (option_to_list (ended_by k.said j)) (all_ended next ks) (ended_well k.said j well)
    (rlc_fair n ks ms next rest rlc.1 (well_after n (m ∷ []) j next (rlc_said n k m j said rlc.0) well))
