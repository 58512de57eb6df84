-- SPDX-License-Identifier: MIT OR Apache-2.0
-- Lemmas: the judge after a COMMAND. The target becomes the connection's; or, if another channel
-- might be meant, the judge stops judging the connection.
use Rattle.std.proofs.Common.{◌≡◌, ℕ, zero, suc, ◌+◌, ◌&&◌, ◌⊎◌, Bool, true, List, [], ◌∷◌, ◌++◌, Option, Some, None, refl, sym, subst, ap, ◌∙◌, inl, inr, arith}
use Rattle.std.proofs.lemmas.Bool.{cond-true, eq-eqb, true≢false}
use Rattle.std.specs.Option.{is_none}
use Rattle.std.specs.Prelude.{if◌then◌else◌}
use Rattle.conn_messages.specs.declared.channel.Change.{Change}
use Rattle.conn_messages.specs.declared.channel.Change.TheVariants.{Assignment, Handover}
use Rattle.dtap_codec.specs.declared.rr.CellDescription.{CellDescription}
use Rattle.run_judge.specs.declared.channels.ChannelView.{ChannelView}
use Rattle.run_judge.specs.declared.channels.ChannelView.TheVariants as views
use Rattle.run_judge.specs.declared.connection.Reason.TheVariants as reasons
use Rattle.run_judge.specs.declared.connection.Unjudged.{Unjudged}
use Rattle.run_judge.specs.declared.said.Said.TheVariants as says
use Rattle.run_judge.specs.declared.said.StationChannel.{StationChannel}
use Rattle.run_judge.specs.Channels.{in_cell, is_offered, offered_channels, offered_from, view_at, view_of, views_of}
use Rattle.run_judge.specs.Connection.{commanded, is_same, may_command, unjudged_from}
use Rattle.run_judge.specs.ConnectionState.{ConnectionState}
use Rattle.run_judge.specs.Judging.{Judging, after, assigned_by, commanded_to, handed_over_by, handed_over_to, with_channel, with_judged}
use Rattle.run_judge.specs.Reading.{channel_at}
use Rattle.run_judge.proofs.ChannelLemmas.{in_cell-unknown}
use Rattle.judge_laws.proofs.Effects.{Effect}
use Rattle.judge_laws.proofs.Hearing.{HasChannel, owner_is}
use Rattle.judge_laws.proofs.Moving.{Moves, judged_moves}
use Rattle.judge_laws.proofs.Ranks.{is_itself}
use Rattle.judge_laws.proofs.Views.{view_other, view_same}

-- the mobile is commanded to the target, which is the connection's
pub record Commands (n : ℕ) (to : StationChannel) (change : Change) (j next : Judging) (c : ConnectionState) : Type 0 where
  pub effect : Effect n to (commanded to change) j next
  pub view : view_at next.channels to ≡ views.Owned n c.number

may : (at : StationChannel) (c : ConnectionState) → c.serving.at ≡ at → c.unjudged ≡ None → may_command at c ≡ true
may at c serves judged = ap (λ (x : StationChannel). is_same x at && is_none c.unjudged) serves ∙ ap (λ (b : Bool). b && is_none c.unjudged) (is_itself at) ∙ ap (λ (u : Option Unjudged). is_none u) judged

commands_to : (n : ℕ) (to : StationChannel) (change : Change) (j : Judging) (c : ConnectionState) →
    c.reference ≡ n →
    Commands n to change j (commanded_to c to change j) c
commands_to n to change j c own = subst (λ (k : ℕ). Commands n to change j (with_channel to (views.Owned k c.number) (with_judged k (commanded to change) j)) c) (sym own) (record {
  effect = (let moves = judged_moves n (commanded to change) j in record {
    mine = moves.mine;
    others = moves.others;
    by_switch = moves.by_switch;
    views = λ at differ. view_other to at (views.Owned n c.number) j.channels differ;
    modulus = refl;
    begun = refl;
  });
  view = view_same to (views.Owned n c.number) j.channels;
})

pub assigns : (n frame number : ℕ) (at : StationChannel) (j : Judging) (c : ConnectionState) →
    HasChannel n at j c →
    c.serving.at ≡ at →
    c.unjudged ≡ None →
    Commands n (channel_at at.station number) Assignment j (after frame (says.Assigns at number) j) c
assigns n frame number at j c has serves judged =
    subst (λ (next : Judging). Commands n (channel_at at.station number) Assignment j next c)
    (sym (ap (λ (o : Option ConnectionState). assigned_by o at number j) (owner_is n at j c has) ∙ cond-true _ _ _ (may at c serves judged)))
    (commands_to n (channel_at at.station number) Assignment j c has.own)

-- ---- the channels that were activated with a reference

abbrev IsIn : StationChannel → List StationChannel → Type 0
IsIn x [] = ⊥
IsIn x (y ∷ ys) = (x ≡ y) ⊎ IsIn x ys

in_back : (x : StationChannel) (xs ys : List StationChannel) → IsIn x ys → IsIn x (xs ++ ys)
in_back x [] ys there = there
in_back x (y ∷ xs) ys there = inr (in_back x xs ys there)

offered_in : (number reference base k : ℕ) (stations : List (List ChannelView)) →
    is_offered reference (view_of (views_of stations k) number) ≡ true →
    IsIn (channel_at (base + k) number) (offered_from number reference base stations)
offered_in number reference base k [] is = absurd (true≢false (sym is))
offered_in number reference base zero (vs ∷ rest) is =
    let here : (if is_offered reference (view_of vs number) then channel_at base number ∷ [] else []) ≡ channel_at base number ∷ [] = cond-true _ _ _ is in
    rw here (inl (ap (λ (m : ℕ). channel_at m number) (plus_none base)))
  where
    plus_none : (m : ℕ) → m + 0 ≡ m
    plus_none m = omega arith
offered_in number reference base (suc k) (vs ∷ rest) is =
    subst (λ (m : ℕ). IsIn (channel_at m number) (offered_from number reference base (vs ∷ rest))) (plus_one base k)
    (in_back (channel_at ((base + 1) + k) number) (if is_offered reference (view_of vs number) then channel_at base number ∷ [] else []) (offered_from number reference (base + 1) rest) (offered_in number reference (base + 1) k rest is))
  where
    plus_one : (m k : ℕ) → (m + 1) + k ≡ m + suc k
    plus_one m k = omega arith

-- where the target is one of them
pub data HandsOver (n frame : ℕ) (to : StationChannel) (j next : Judging) (c : ConnectionState) : Type 0 where
  commands : Commands n to Handover j next c → HandsOver n frame to j next c
  unjudged : Moves n (unjudged_from reasons.TwoChannels frame) j next → HandsOver n frame to j next c

over_to : (n frame : ℕ) (to : StationChannel) (xs : List StationChannel) (j : Judging) (c : ConnectionState) →
    IsIn to xs →
    c.reference ≡ n →
    HandsOver n frame to j (handed_over_to xs c frame j) c
over_to n frame to [] j c there own = absurd there
over_to n frame to (x ∷ []) j c there own = elim there [
  | inl same ↦ commands (subst (λ (y : StationChannel). Commands n to Handover j (commanded_to c y Handover j) c) same (commands_to n to Handover j c own))
  | inr none ↦ absurd none
]
over_to n frame to (x ∷ (y ∷ ys)) j c there own = unjudged (subst (λ (k : ℕ). Moves n (unjudged_from reasons.TwoChannels frame) j (with_judged k (unjudged_from reasons.TwoChannels frame) j)) (sym own) (judged_moves n (unjudged_from reasons.TwoChannels frame) j))

-- the judge knows no cell, so that each of these channels may be in the one that is meant
pub hands_over : (n frame reference : ℕ) (cell : CellDescription) (at to : StationChannel) (j : Judging) (c : ConnectionState) →
    j.cells ≡ [] →
    HasChannel n at j c →
    c.serving.at ≡ at →
    c.unjudged ≡ None →
    view_at j.channels to ≡ views.Activated (Some reference) →
    HandsOver n frame to j (after frame (says.HandsOver at cell to.number reference) j) c
hands_over n frame reference cell at to j c unknown has serves judged offered =
    let is : is_offered reference (view_of (views_of j.channels to.station) to.number) ≡ true = ap (is_offered reference) offered ∙ eq-eqb reference reference refl in
    subst (λ (next : Judging). HandsOver n frame to j next c)
    (sym (ap (λ (o : Option ConnectionState). handed_over_by o at cell to.number reference frame j) (owner_is n at j c has) ∙ cond-true _ _ _ (may at c serves judged) ∙ ap (λ (xs : List StationChannel). handed_over_to xs c frame j) any))
    (over_to n frame to (offered_channels to.number reference j.channels) j c (subst (λ (m : ℕ). IsIn (channel_at m to.number) (offered_channels to.number reference j.channels)) (none_plus to.station) (offered_in to.number reference 0 to.station j.channels is)) has.own)
  where
    any : in_cell cell j.cells (offered_channels to.number reference j.channels) ≡ offered_channels to.number reference j.channels
    any = ap (λ (known : List CellDescription). in_cell cell known (offered_channels to.number reference j.channels)) unknown ∙ in_cell-unknown cell (offered_channels to.number reference j.channels)

    none_plus : (m : ℕ) → 0 + m ≡ m
    none_plus m = omega arith
