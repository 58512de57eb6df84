-- SPDX-License-Identifier: MIT OR Apache-2.0
-- The row of a COMMAND. The judge has the mobile commanded to the target, which becomes the
-- connection's; or, if another channel might be meant, it stops judging the connection.
use Rattle.std.proofs.Common.{◌≡◌, ℕ, ◌+◌, true, false, List, [], ◌∷◌, ◌++◌, Option, Some, None, refl, sym, subst, ap, ◌∙◌, inl, inr, option_map}
use Rattle.std.proofs.lemmas.Bool.{cases_Bool}
use Rattle.std.specs.List.{AllByRecursion}
use Rattle.conn_messages.specs.declared.channel.Change.{Change}
use Rattle.conn_messages.specs.declared.channel.Change.TheVariants.{Assignment, Handover}
use Rattle.conn_messages.specs.declared.message.Message.{Message}
use Rattle.conn_messages.specs.StationMessage.{change_command}
use Rattle.conn_rules.specs.Connection.{Connection}
use Rattle.conn_rules.specs.declared.state.Stage.TheVariants.{Preparing}
use Rattle.conn_rules.specs.declared.state.State.TheVariants.{Live}
use Rattle.conn_rules.specs.declared.state.Target.{Target}
use Rattle.conn_rules.specs.Table.{command_to}
use Rattle.controller_model.specs.declared.channel_state.ChannelState.TheVariants.{InUse}
use Rattle.controller_model.specs.Controller.{place_of, state_in}
use Rattle.run_judge.specs.declared.channels.ChannelView.TheVariants as views
use Rattle.run_judge.specs.declared.connection.Awaited.{Awaited}
use Rattle.run_judge.specs.declared.connection.Reason.TheVariants as reasons
use Rattle.run_judge.specs.declared.connection.Tenure.{Tenure}
use Rattle.run_judge.specs.declared.connection.Unjudged.{Unjudged}
use Rattle.run_judge.specs.declared.judge.Named.{Named}
use Rattle.run_judge.specs.declared.said.Said.{Said}
use Rattle.run_judge.specs.declared.said.Said.TheVariants as says
use Rattle.run_judge.specs.declared.said.StationChannel.{StationChannel}
use Rattle.run_judge.specs.Channels.{view_at}
use Rattle.run_judge.specs.Connection.{commanded, first_of, is_same, unjudged_from, while_judged, while_judged_of}
use Rattle.run_judge.specs.ConnectionState.{ConnectionState}
use Rattle.run_judge.specs.Judging.{Judging, after}
use Rattle.run_judge.specs.Reading.{channel_at}
use Rattle.judge_laws.proofs.Commanding.{Commands, HandsOver, assigns, hands_over}
use Rattle.judge_laws.proofs.Commanding.HandsOver.{commands, unjudged}
use Rattle.judge_laws.proofs.Commands.{command_says, read_cell, said_command}
use Rattle.judge_laws.proofs.Hearing.{HasChannel}
use Rattle.judge_laws.proofs.Moving.{IsNamed, Moves}
use Rattle.judge_laws.proofs.Ranks.{same_is}
use Rattle.judge_laws.proofs.Stays.{agrees_commands}
use Rattle.judge_laws.proofs.Well.{Well, well_commanded, well_unjudged}
use Rattle.judge_laws.proofs.WholeRowsOthers.{Changes}
use Rattle.judge_laws.proofs.WholeRowsViews.{Channels}
use Rattle.judge_laws.specs.Agreeing.{Agrees, awaited_in, lines_by, lines_of}
use Rattle.judge_laws.specs.Places.{at_of, spot}
use Rattle.judge_laws.specs.Saying.{said_of}

abbrev command_of : Connection → Target → Message
command_of s target = change_command s.serving target.change target.channel

-- what the judge has of the connection, which was c
pub record IsCommanded (n : ℕ) (s next_s : Connection) (target : Target) (channels : Channels) (c : ConnectionState) (j next : Judging) : Type 0 where
  pub changes : Changes n channels (command_of s target ∷ []) j next
  pub k : ConnectionState
  pub there : next.connections n ≡ Some k
  pub by_switch : (source : ℕ) → next.by_switch source ≡ j.by_switch source
  pub well : Well n k
  pub number : k.number ≡ c.number
  pub switch : k.switch ≡ c.switch
  pub uncleared : k.is_cleared ≡ c.is_cleared
  pub judged : k.unjudged ≡ None →
      Agrees next_s k × AllByRecursion (λ (t : Tenure). view_at next.channels t.at ≡ views.Owned n k.number) (lines_of k)

judges : (change : ConnectionState → ConnectionState) (c : ConnectionState) → c.unjudged ≡ None → while_judged change c ≡ change c
judges change c none = ap (λ (u : Option Unjudged). while_judged_of u change c) none

there_now : (n : ℕ) (change : ConnectionState → ConnectionState) (c : ConnectionState) (o next : Option ConnectionState) →
    o ≡ Some c →
    c.unjudged ≡ None →
    next ≡ option_map (while_judged change) o →
    next ≡ Some (change c)
there_now n change c o next there none moved = moved ∙ ap (option_map (while_judged change)) there ∙ ap (λ (x : ConnectionState). Some x) (judges change c none)

-- ---- the lines

last_line : (P : Tenure → Type 0) (ts : List Tenure) (u : Tenure) → AllByRecursion P (ts ++ u ∷ []) → P u
last_line P [] u all = all.0
last_line P (t ∷ ts) u all = last_line P ts u all.1

push_line : (P : Tenure → Type 0) (ts : List Tenure) (u : Tenure) → AllByRecursion P ts → P u → AllByRecursion P (ts ++ u ∷ [])
push_line P [] u all one = (one, tt)
push_line P (t ∷ ts) u all one = (all.0, push_line P ts u all.1 one)

still_owned : (n number : ℕ) (to : StationChannel) (j next : Judging) (ts : List Tenure) →
    view_at next.channels to ≡ views.Owned n number →
    ((at : StationChannel) → is_same to at ≡ false → view_at next.channels at ≡ view_at j.channels at) →
    AllByRecursion (λ (t : Tenure). view_at j.channels t.at ≡ views.Owned n number) ts →
    AllByRecursion (λ (t : Tenure). view_at next.channels t.at ≡ views.Owned n number) ts
still_owned n number to j next [] own same all = tt
still_owned n number to j next (t ∷ ts) own same all = (
  elim (cases_Bool (is_same to t.at)) [
    | inl here ↦ ap (view_at next.channels) (sym (same_is to t.at here)) ∙ own
    | inr differ ↦ same t.at differ ∙ all.0
  ],
  still_owned n number to j next ts own same all.1,
)

-- ---- what it changes

named_as : (k : ℕ) (before after : Option Named) (entry : Option ConnectionState) →
    after ≡ before →
    IsNamed k before entry →
    IsNamed k after entry
named_as k before after entry same named = subst (λ (o : Option Named). IsNamed k o entry) (sym same) named

-- the target is the connection's
command_changes : (n : ℕ) (s : Connection) (target : Target) (channels : Channels) (c : ConnectionState) (j next : Judging) →
    state_in channels (place_of target.channel) ≡ InUse n →
    Commands n (at_of target.channel) target.change j next c →
    Changes n channels (command_of s target ∷ []) j next
command_changes n s target channels c j next used does = record {
  others = does.effect.others;
  named = λ k reference entry differ named. named_as k (j.by_switch reference) (next.by_switch reference) entry (does.effect.by_switch reference) named;
  own = λ at m number owned. elim (cases_Bool (is_same (at_of target.channel) at)) [
    | inl here ↦ inr (owner at m number here owned, in_use at here)
    | inr differ ↦ inl (sym (does.effect.views at differ) ∙ owned)
  ];
  views = λ at unused. elim (cases_Bool (is_same (at_of target.channel) at)) [
    | inl here ↦ absurd (unused (in_use at here))
    | inr differ ↦ does.effect.views at differ
  ];
}
  where
    in_use : (at : StationChannel) → is_same (at_of target.channel) at ≡ true → state_in channels (spot at) ≡ InUse n
    in_use at here = ap (λ (x : StationChannel). state_in channels (spot x)) (sym (same_is (at_of target.channel) at here)) ∙ used

    owner : (at : StationChannel) (m number : ℕ) →
        is_same (at_of target.channel) at ≡ true →
        view_at next.channels at ≡ views.Owned m number →
        m ≡ n
    owner at m number here owned = (let both : views.Owned m number ≡ views.Owned n c.number = sym owned ∙ ap (view_at next.channels) (sym (same_is (at_of target.channel) at here)) ∙ does.view in cc)

-- no view changes
quiet_changes : (n : ℕ) (s : Connection) (target : Target) (channels : Channels) (change : ConnectionState → ConnectionState) (j next : Judging) →
    Moves n change j next →
    Changes n channels (command_of s target ∷ []) j next
quiet_changes n s target channels change j next moves = record {
  others = moves.others;
  named = λ k reference entry differ named. named_as k (j.by_switch reference) (next.by_switch reference) entry (moves.by_switch reference) named;
  own = λ at m number owned. inl (ap (λ stations. view_at stations at) (sym moves.channels) ∙ owned);
  views = λ at unused. ap (λ stations. view_at stations at) moves.channels;
}

-- ---- the row

by_command : (n reference : ℕ) (s : Connection) (target : Target) (channels : Channels) (j next : Judging) (c : ConnectionState) →
    s.state ≡ Live reference (Preparing target) →
    Agrees s c →
    Well n c →
    j.connections n ≡ Some c →
    c.unjudged ≡ None →
    AllByRecursion (λ (t : Tenure). view_at j.channels t.at ≡ views.Owned n c.number) (c.former ++ c.serving ∷ []) →
    state_in channels (place_of target.channel) ≡ InUse n →
    Commands n (at_of target.channel) target.change j next c →
    IsCommanded n s (command_to reference target s).next target channels c j next
by_command n reference s target channels j next c is agrees well there none owned used does =
    let to : StationChannel = at_of target.channel in
    let k : ConnectionState = commanded to target.change c in
    record {
      changes = command_changes n s target channels c j next used does;
      k = k;
      there = there_now n (commanded to target.change) c (j.connections n) (next.connections n) there none does.effect.mine;
      by_switch = does.effect.by_switch;
      well = well_commanded n to target.change c well;
      number = refl;
      switch = refl;
      uncleared = refl;
      judged = λ judged. (
        agrees_commands reference target s c is agrees,
        push_line (λ (t : Tenure). view_at next.channels t.at ≡ views.Owned n c.number) (c.former ++ c.serving ∷ []) (record { at = to; rank = c.serving.rank + 1 })
            (still_owned n c.number to j next (c.former ++ c.serving ∷ []) does.view does.effect.views owned) does.view,
      );
    }

by_unjudged : (n reference frame : ℕ) (s : Connection) (target : Target) (channels : Channels) (j next : Judging) (c : ConnectionState) →
    Well n c →
    j.connections n ≡ Some c →
    c.unjudged ≡ None →
    Moves n (unjudged_from reasons.TwoChannels frame) j next →
    IsCommanded n s (command_to reference target s).next target channels c j next
by_unjudged n reference frame s target channels j next c well there none moves =
    let k : ConnectionState = unjudged_from reasons.TwoChannels frame c in
    record {
      changes = quiet_changes n s target channels (unjudged_from reasons.TwoChannels frame) j next moves;
      k = k;
      there = there_now n (unjudged_from reasons.TwoChannels frame) c (j.connections n) (next.connections n) there none moves.mine;
      by_switch = moves.by_switch;
      well = well_unjudged n reasons.TwoChannels frame c well;
      number = refl;
      switch = refl;
      uncleared = refl;
      judged = λ judged. absurd (never c.unjudged none judged);
    }
  where
    never : (o : Option Unjudged) → o ≡ None → first_of o (record { reason = reasons.TwoChannels; frame = frame }) ≡ None → ⊥
    never None none judged = absurd cc
    never (Some u) none judged = absurd cc

pub command_row : (n frame reference : ℕ) (s : Connection) (target : Target) (channels : Channels) (j : Judging) (c : ConnectionState) → j.cells ≡ [] → s.state ≡ Live reference (Preparing target) → Agrees s c → Well n c → j.connections n ≡ Some c → c.unjudged ≡ None → AllByRecursion (λ (t : Tenure). view_at j.channels t.at ≡ views.Owned n c.number) (lines_of c)
    → (target.change ≡ Handover → view_at j.channels (at_of target.channel) ≡ views.Activated (Some target.channel.reference.0)) → (target.change ≡ Assignment → target.channel.station ≡ s.serving.station) → state_in channels (place_of target.channel) ≡ InUse n
    → IsCommanded n s (command_to reference target s).next target channels c j (after frame (said_of n (command_of s target)) j)
command_row n frame reference s target channels j c unknown is agrees well there none owned offered assigned used =
    subst (λ (said : Said). IsCommanded n s (command_to reference target s).next target channels c j (after frame said j)) (sym (command_says s.serving target.change target.channel)) (by target.change refl)
  where
    lines : AllByRecursion (λ (t : Tenure). view_at j.channels t.at ≡ views.Owned n c.number) (c.former ++ c.serving ∷ [])
    lines = subst (λ (o : Option Awaited). AllByRecursion (λ (t : Tenure). view_at j.channels t.at ≡ views.Owned n c.number) (lines_by c.former c.serving o)) (agrees.awaited ∙ ap awaited_in is) owned

    has : HasChannel n (at_of s.serving) j c
    has = record {
      there = there;
      own = well.is;
      view = subst (λ (at : StationChannel). view_at j.channels at ≡ views.Owned n c.number) agrees.at (last_line (λ (t : Tenure). view_at j.channels t.at ≡ views.Owned n c.number) c.former c.serving lines);
    }

    commands_by : (next : Judging) →
        Commands n (at_of target.channel) target.change j next c →
        IsCommanded n s (command_to reference target s).next target channels c j next
    commands_by next does = by_command n reference s target channels j next c is agrees well there none lines used does

    over : (next : Judging) →
        target.change ≡ Handover →
        HandsOver n frame (at_of target.channel) j next c →
        IsCommanded n s (command_to reference target s).next target channels c j next
    over next change (commands does) = commands_by next (subst (λ (x : Change). Commands n (at_of target.channel) x j next c) (sym change) does)
    over next change (unjudged moves) = by_unjudged n reference frame s target channels j next c well there none moves

    by : (change : Change) →
        target.change ≡ change →
        IsCommanded n s (command_to reference target s).next target channels c j (after frame (said_command s.serving change target.channel) j)
    by Assignment change =
        let to : channel_at s.serving.station target.channel.number ≡ at_of target.channel = ap (λ (k : ℕ). channel_at k target.channel.number) (sym (assigned change)) in
        commands_by (after frame (says.Assigns (at_of s.serving) target.channel.number) j)
        (subst (λ (x : Change). Commands n (at_of target.channel) x j (after frame (says.Assigns (at_of s.serving) target.channel.number) j) c) (sym change)
        (subst (λ (at : StationChannel). Commands n at Assignment j (after frame (says.Assigns (at_of s.serving) target.channel.number) j) c) to
        (assigns n frame target.channel.number (at_of s.serving) j c has agrees.at none)))
    by Handover change = over (after frame (says.HandsOver (at_of s.serving) (read_cell target.channel.description) target.channel.number target.channel.reference.0) j) change
        (hands_over n frame target.channel.reference.0 (read_cell target.channel.description) (at_of s.serving) (at_of target.channel) j c unknown has agrees.at none (offered change))
