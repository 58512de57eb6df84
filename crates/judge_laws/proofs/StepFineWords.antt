-- SPDX-License-Identifier: MIT OR Apache-2.0
-- A frame that the controller takes, and the row that follows it, if one does.
use Rattle.std.proofs.Common.{◌≡◌, ◌≢◌, ℕ, ◌+◌, ◌≤◌, Bool, true, false, List, [], ◌∷◌, ◌++◌, Option, Some, None, refl, sym, subst, ap, ◌∙◌, arith, option_map, nat_le}
use Rattle.std.proofs.lemmas.Bool.{and_parts, cond-false, cond-true, leb-true}
use Rattle.std.specs.List.{AllByRecursion}
use Rattle.std.specs.Option.{option_to_list}
use Rattle.std.specs.Prelude.{if◌then◌else◌, ◌&&◌, map}
use Rattle.conn_messages.specs.declared.channel.Channel.{Channel}
use Rattle.conn_messages.specs.declared.channel.Place.{Place}
use Rattle.conn_messages.specs.declared.parameters.TheConstants.{SWITCH_LINK}
use Rattle.conn_messages.specs.Out.{out_of}
use Rattle.conn_messages.specs.StationMessage.{access_activation}
use Rattle.conn_rules.specs.Connection.{Connection, drain_at, emptied, is_at}
use Rattle.conn_rules.specs.declared.input.Input.{Input}
use Rattle.conn_rules.specs.declared.input.Input.TheVariants as inputs
use Rattle.conn_rules.specs.declared.state.Stage.TheVariants.{Preparing}
use Rattle.conn_rules.specs.declared.state.State.{State}
use Rattle.conn_rules.specs.declared.state.State.TheVariants.{Live, Removed, WaitActivation}
use Rattle.conn_rules.specs.Roles.{KeepsChannels, RoleStep, Roles, TargetRole, awaits_at, end_messages, leaves_at, roles_of, step_by, step_orders, target_orders, target_role}
use Rattle.conn_rules.specs.Roles.RoleStep.{reverts, unchanged}
use Rattle.conn_rules.specs.Steps.{Row, row}
use Rattle.conn_rules.specs.Streams.{IsOpen, OfRow, target_in}
use Rattle.conn_rules.specs.Table.{on_activation_nack, refuse, row_of, serving_after}
use Rattle.conn_rules.specs.Validity.{IsCarried}
use Rattle.conn_rules.proofs.Channels.{keeps_channels}
use Rattle.controller_model.specs.declared.channel_kind.ChannelKind.TheVariants.{Sdcch, Tch}
use Rattle.controller_model.specs.declared.channel_state.ChannelState.{ChannelState}
use Rattle.controller_model.specs.declared.channel_state.ChannelState.TheVariants.{Free, InUse, Releasing}
use Rattle.controller_model.specs.declared.limits.TheConstants.{MAX_CONNECTION_NUMBER}
use Rattle.controller_model.specs.declared.word.Word.{Word}
use Rattle.controller_model.specs.declared.word.Word.TheVariants as words
use Rattle.controller_model.specs.Channels.{access_channel, handover_offer, kind_of, request_offer}
use Rattle.controller_model.specs.Controller.{Controller, Entry, Turn, channel_state, entry_of, freed, holder, ignoring, is_up, turn, with_entry, with_state}
use Rattle.controller_model.specs.Life.{concerning, concerning_too, entry_at, fits, frees, given, is_measured, measured, measures, on_decision, on_freed, on_report, on_state, on_word, pong, row_in, with_connection, with_report}
use Rattle.controller_model.specs.LifeLaws.History.{connection_of}
use Rattle.controller_model.specs.LifeLaws.Owning.{Owns, OwnsOpen}
use Rattle.controller_model.specs.Reports.{best, decision_over, decision_where, moving_to}
use Rattle.controller_model.proofs.LifeLaws.Entries.{back_found, back_over, back_rising, find_below, found_number}
use Rattle.controller_model.proofs.LifeLaws.Owning.{IsOffered, acknowledged_owns, other_set, refused_owns}
use Rattle.controller_model.proofs.LifeLaws.OwningRows.{StepOwns, ends_mine, orders_after, silent_owns}
use Rattle.controller_model.proofs.LifeLaws.OwningRows.IsMine.{free}
use Rattle.controller_model.proofs.LifeLaws.OwningSteps.{offered_free}
use Rattle.controller_model.proofs.LifeLaws.OwningWords.{Holds, assignment_offers, changes_of, freed_shaped, if_is, owns_entry, usual_row}
use Rattle.controller_model.proofs.LifeLaws.Readings.{IsCarriedBy}
use Rattle.controller_model.proofs.LifeLaws.Sources.{IsAtPlace, IsFrom}
use Rattle.controller_model.proofs.LifeLaws.SoundLife.{IsSoundAll, RefersIn, SoundOf, offered_sound, request_sound}
use Rattle.controller_model.proofs.LifeLaws.SoundMessages.{IsSoundChannel, sound_access}
use Rattle.controller_model.proofs.LifeLaws.SoundRows.{RefersBy}
use Rattle.controller_model.proofs.LifeLaws.UsingChanges.{OwnAlive, row_keeps_uses, targets_in}
use Rattle.controller_model.proofs.LifeLaws.UsingRows.{IsAlive, Uses, all_contained}
use Rattle.controller_model.proofs.LifeLaws.UsingWords.{IsAskedOf, IsHere, Ready, first_free_is, here_of, own_alive, same_uses}
use Rattle.controller_model.proofs.LifeLaws.Words.{decide_same, measured_remains}
use Rattle.dtap_codec.specs.declared.report.Report.{Report}
use Rattle.rsl_codec.specs.declared.values.TheConstants.{IMMEDIATE_ASSIGNMENT}
use Rattle.ho_decision.specs.declared.decision.Decision.{Decision}
use Rattle.ho_decision.specs.declared.decision.Decision.TheVariants.{Move, Stay}
use Rattle.ho_decision.specs.Decision.{is_due}
use Rattle.ho_decision.specs.Settings.{Settings}
use Rattle.rsl_codec.specs.declared.values.RequestReference.{RequestReference}
use Rattle.run_judge.specs.declared.said.Said.{Said}
use Rattle.run_judge.specs.declared.said.Said.TheVariants as says
use Rattle.run_judge.specs.Connection.{IsWithoutFault}
use Rattle.run_judge.specs.Judging.{Judging, Numbered, after, ended_by}
use Rattle.judge_laws.proofs.Commands.{activations_show}
use Rattle.judge_laws.proofs.Fine.{AreFine}
use Rattle.judge_laws.proofs.HeardFine.{IsReady, MissedBy, ready_freed}
use Rattle.judge_laws.proofs.HeardFineWords.{heard_keep, missed_keep, plain_keep}
use Rattle.judge_laws.proofs.Pong.{pong_says}
use Rattle.judge_laws.proofs.Puts.{message_says}
use Rattle.judge_laws.proofs.StepFine.{KeepsFine, RowWrites, entry_mine, fitting_keeps, nothing_keeps, row_keeps}
use Rattle.judge_laws.proofs.StepFineOpen.{open_fine}
use Rattle.judge_laws.proofs.StepFineSame.{freed_fine, ignoring_keeps, same_fine}
use Rattle.judge_laws.proofs.WholeRowsNow.{RowNow}
use Rattle.judge_laws.specs.Hearing.{Matches}
use Rattle.judge_laws.specs.Places.{at_of}
use Rattle.judge_laws.specs.Saying.{put_says}

-- ---- what a row of a frame needs

serving_alive : (P : ℕ → Type 0) (s : Connection) (input : Input) →
    OwnAlive P (roles_of s) →
    P (serving_after s (row_of s input None)).station
serving_alive P s input own = by (row_of s input None) (keeps_channels s input None)
  where
    by : (o : Option Row) → OfRow (KeepsChannels s None) o → P (serving_after s o).station
    by None keeps = own.0
    by (Some r) keeps = all_contained (λ (d : Channel). P d.station) (s.serving ∷ target_in s.state) r.next.serving (own.0, targets_in (λ (d : Channel). P d.station) s.state own.1) keeps.serving

request_alive : (c : Controller) (s : Connection) (input : Input) (offer : Channel) →
    OwnAlive (IsAlive c.links) (roles_of s) →
    request_offer c s input ≡ Some offer →
    IsAlive c.links offer.station
request_alive c s input offer own is =
    let serving : Channel = serving_after s (row_of s input None) in
    subst (IsAlive c.links) (sym (first_free_is c serving.station 0 Tch offer is).1) (serving_alive (IsAlive c.links) s input own)

-- its messages can be written, and go to links that are up
frame_writes : (c : Controller) (e : Entry) (input : Input) (offer : Option Channel) (r : Row) →
    IsHere c.links c e →
    Ready c →
    row_of e.connection input offer ≡ Some r →
    (IsOpen e.connection.state → (d : Channel) → offer ≡ Some d → IsAlive c.links d.station) →
    ((d : Channel) → offer ≡ Some d → IsSoundChannel d) →
    IsCarried input →
    RefersBy input →
    RowWrites c.links input offer r
frame_writes c e input offer r here ready is alive sound carried refers = record {
  alive = row_keeps_uses c.links e.connection input offer r is (changes_of e.connection input offer r here.valid is) here.linked (own_alive c.links c.links c e here.there ready.holds ready.uses) (λ was_open is_open. alive was_open);
  offered = sound;
  carried = carried;
  refers = refers;
}

-- what the judge was told of the frame, before the row
pub record HeardBy (c : Controller) (o : Option Entry) (input : Input) (j : Judging) : Type 0 where
  pub missed : MissedBy input o → AreFine c j
  pub ready : (e : Entry) (offer : Option Channel) (r : Row) →
      o ≡ Some e →
      IsHere c.links c e →
      row_of e.connection input offer ≡ Some r →
      IsReady c e input r j

concerning_keeps : (c : Controller) (input : Input) (m : ℕ) (o : Option Entry) (j : Judging) →
    entry_of c m ≡ o →
    Ready c →
    IsSoundAll c →
    IsCarried input →
    RefersBy input →
    HeardBy c o input j →
    KeepsFine (concerning input c o) j
concerning_keeps c input m None j there ready sound carried refers heard = ignoring_keeps c j (heard.missed tt)
concerning_keeps c input m (Some e) j there ready sound carried refers heard =
    let here = here_of c m e ready there in
    let offer : Option Channel = request_offer c e.connection input in
    fitting_keeps c (ignoring c) e (row_in c e.connection input) j
    (λ none. ignoring_keeps c j (heard.missed (offer, none)))
    (λ r is.
    let heard_row = heard.ready e offer r refl here is in
    row_keeps c.links c.links c e input offer r j
    (record {
      here = here;
      fits = is;
      owns = usual_row c.links c e input offer r here.there here.valid ready.holds is (λ is_open channel offered. assignment_offers c (serving_after e.connection (row_of e.connection input None)) channel ready.holds.shaped offered);
      others = λ n differ. ready.holds.each n;
      apart = λ is_open. (owns_entry c.links c e here.there ready.holds is_open).apart;
      asked = λ no_move d offered. (first_free_is c (serving_after e.connection (row_of e.connection input None)).station 0 Tch d offered).1;
    })
    (frame_writes c e input offer r here ready is (λ is_open d offered. request_alive c e.connection input d (own_alive c.links c.links c e here.there ready.holds ready.uses is_open) offered) (request_sound c e.connection input sound.cells) carried refers)
    sound (entry_mine c.links c e input r j here.there ready.holds heard_row) heard_row)

-- ---- a channel is freed first

-- a row in the controller whose channel was freed
abbrev IsFreedRow : Place → Controller → Input → Option Entry → Type 0
IsFreedRow at c input o = (e : Entry) (r : Row) → o ≡ Some e → row_in (freed at c) e.connection input ≡ Some r → RowNow c.links (freed at c) e input (request_offer (freed at c) e.connection input) r

too_keeps : (at : Place) (c : Controller) (input : Input) (m : ℕ) (o : Option Entry) (j : Judging) →
    entry_of c m ≡ o →
    Ready c →
    IsSoundAll c →
    IsCarried input →
    RefersBy input →
    IsFreedRow at c input o →
    HeardBy c o input j →
    KeepsFine (concerning_too input (freed at c) o) j
too_keeps at c input m None j there ready sound carried refers now heard = nothing_keeps (freed at c) j (freed_fine at c j (heard.missed tt))
too_keeps at c input m (Some e) j there ready sound carried refers now heard =
    let here = here_of c m e ready there in
    let offer : Option Channel = request_offer (freed at c) e.connection input in
    fitting_keeps (freed at c) (turn [] (freed at c)) e (row_in (freed at c) e.connection input) j
    (λ none. nothing_keeps (freed at c) j (freed_fine at c j (heard.missed (offer, none))))
    (λ r is.
    let heard_row = heard.ready e offer r refl here is in
    row_keeps c.links c.links (freed at c) e input offer r j (now e r refl is)
    (frame_writes c e input offer r here ready is (λ is_open d offered. request_alive (freed at c) e.connection input d (own_alive c.links c.links c e here.there ready.holds ready.uses is_open) offered) (request_sound (freed at c) e.connection input sound.cells) carried refers)
    (record { each = sound.each; cells = sound.cells; next = sound.next }) (entry_mine c.links c e input r j here.there ready.holds heard_row) (ready_freed at c e input r j heard_row))

-- another's, and those of nobody
freed_other : (c : Controller) (links : List Bool) (at : Place) (n k : ℕ) (o : Option Connection) →
    n ≢ k →
    holder (channel_state c at) ≡ Some k →
    OwnsOpen c.channels links n o →
    OwnsOpen (with_state at Free c.channels) links n o
freed_other c links at n k None differ held owns = tt
freed_other c links at n k (Some s) differ held owns = λ is_open.
    other_set c.channels links n (roles_of s) at Free (not_use (channel_state c at) held) (not_release (channel_state c at) held) (owns is_open)
  where
    not_use : (state : ChannelState) → holder state ≡ Some k → state ≢ InUse n
    not_use (InUse m) held same = differ cc
    not_use _ held same = absurd cc

    not_release : (state : ChannelState) → holder state ≡ Some k → state ≢ Releasing n
    not_release (Releasing m) held same = differ cc
    not_release _ held same = absurd cc

freed_now : (c : Controller) (at : Place) (k : ℕ) (e : Entry) (input : Input) (r : Row) → IsHere c.links c e → Ready c → e.connection.number ≡ k → holder (channel_state c at) ≡ Some k → row_in (freed at c) e.connection input ≡ Some r →
    (IsOpen e.connection.state → IsOpen r.next.state → StepOwns e.connection.number (with_state at Free c.channels) c.links (step_by input (roles_of e.connection)) (roles_of e.connection)) → RowNow c.links (freed at c) e input (request_offer (freed at c) e.connection input) r
freed_now c at k e input r here ready number held is steps =
    let serving : Channel = serving_after e.connection (row_of e.connection input None) in
    record {
      here = record { rising = here.rising; there = here.there; valid = here.valid; from_one = here.from_one; below = here.below; linked = here.linked };
      fits = is;
      owns = record {
        changes = changes_of e.connection input (request_offer (freed at c) e.connection input) r here.valid is;
        steps = steps;
        mine = λ was_open end. orders_after e.connection.number c.channels at Free (end_messages end (roles_of e.connection)) (free refl) (ends_mine e.connection.number c.channels c.links (roles_of e.connection) end (owns_entry c.links c e here.there ready.holds was_open));
        offers = λ is_open channel offered. assignment_offers (freed at c) serving channel (freed_shaped at c ready.holds.shaped) offered;
      };
      others = λ n differ. freed_other c c.links at n k (connection_of c n) (λ same. differ (same ∙ sym number)) held (ready.holds.each n);
      apart = λ is_open. (owns_entry c.links c e here.there ready.holds is_open).apart;
      asked = λ no_move d offered. (first_free_is (freed at c) serving.station 0 Tch d offered).1;
    }

-- RF CHANNEL RELEASE ACK
leaves_silent : (o : Option ℕ) (roles : Roles) → step_orders (leaves_at o) roles ≡ []
leaves_silent None roles = refl
leaves_silent (Some place) roles = refl

acknowledged_now : (at : Place) (c : Controller) (k : ℕ) (o : Option Entry) →
    channel_state c at ≡ Releasing k →
    entry_of c k ≡ o →
    Ready c →
    IsFreedRow at c (inputs.ReleaseAck at) o
acknowledged_now at c k o state there ready e r some is =
    let found : entry_of c k ≡ Some e = there ∙ some in
    let here = here_of c k e ready found in
    freed_now c at k e (inputs.ReleaseAck at) r here ready (found_number k c.entries e found) (ap holder state) is
    (λ was_open is_open. silent_owns e.connection.number (with_state at Free c.channels) c.links (step_by (inputs.ReleaseAck at) (roles_of e.connection)) (roles_of e.connection) (leaves_silent (drain_at at e.connection.draining) (roles_of e.connection))
    (acknowledged_owns c.channels c.links e.connection.number k at (roles_of e.connection) state (owns_entry c.links c e here.there ready.holds was_open)))

-- a NACK of the target
Awaits : State → Place → Type 0
Awaits state at = (t : TargetRole) × (target_role state ≡ Some t) × (t.is_commanded ≡ false) × (is_at at t.target.channel ≡ true) × (awaits_at at (target_role state) ≡ true)

nack_awaits : (state : State) (s : Connection) (at : Place) (offer : Option Channel) (r : Row) →
    on_activation_nack state s at offer ≡ Some r →
    IsOpen r.next.state →
    Awaits state at
unfolding Awaits
nack_awaits WaitActivation s at offer r is is_open =
    let one = if_is (is_at at s.serving) (row [] (emptied Removed s)) r is in
    absurd (subst (λ (q : Row). IsOpen q.next.state) (sym one.1) is_open)
nack_awaits (Live reference (Preparing target)) s at offer r is is_open =
    let one = if_is (is_at at target.channel) (refuse reference target.change offer s) r is in
    (record { target = target; is_commanded = false }, refl, refl, one.0, one.0)
nack_awaits _ s at offer r is is_open = absurd cc

refused_steps : (c : Controller) (e : Entry) (at : Place) → Owns c.channels c.links e.connection.number (roles_of e.connection) → Awaits e.connection.state at →
    StepOwns e.connection.number (with_state at Free c.channels) c.links (step_by (inputs.ActivationNack at) (roles_of e.connection)) (roles_of e.connection)
unfolding Awaits
refused_steps c e at owns awaits =
    let roles : Roles = roles_of e.connection in
    let is : step_by (inputs.ActivationNack at) roles ≡ reverts = cond-true _ reverts unchanged awaits.4 in
    let silent : step_orders reverts roles ≡ [] = ap target_orders awaits.1 ∙ cond-false _ _ _ awaits.2 in
    subst (λ (step : RoleStep). StepOwns e.connection.number (with_state at Free c.channels) c.links step roles) (sym is)
    (silent_owns e.connection.number (with_state at Free c.channels) c.links reverts roles silent
    (refused_owns c.channels c.links e.connection.number at roles awaits.0 awaits.3
    (subst (λ (target : Option TargetRole). Owns c.channels c.links e.connection.number (record roles { target = target })) awaits.1 owns)))

refused_now : (at : Place) (c : Controller) (k : ℕ) (o : Option Entry) →
    holder (channel_state c at) ≡ Some k →
    entry_of c k ≡ o →
    Ready c →
    IsFreedRow at c (inputs.ActivationNack at) o
unfolding row_of
refused_now at c k o held there ready e r some is =
    let found : entry_of c k ≡ Some e = there ∙ some in
    let here = here_of c k e ready found in
    freed_now c at k e (inputs.ActivationNack at) r here ready (found_number k c.entries e found) held is
    (λ was_open is_open. refused_steps c e at (owns_entry c.links c e here.there ready.holds was_open) (nack_awaits e.connection.state e.connection at (request_offer (freed at c) e.connection (inputs.ActivationNack at)) r is is_open))

-- ---- what arrives on a channel

nack_keeps : (b : Bool) (at : Place) (c : Controller) (k : ℕ) (o : Option Entry) (j : Judging) →
    holder (channel_state c at) ≡ Some k →
    entry_of c k ≡ o →
    Ready c →
    IsSoundAll c →
    HeardBy c o (inputs.ActivationNack at) j →
    KeepsFine (on_freed b at (inputs.ActivationNack at) c o) j
nack_keeps true at c k o j held there ready sound heard = too_keeps at c (inputs.ActivationNack at) k o j there ready sound tt tt (refused_now at c k o held there ready) heard
nack_keeps false at c k o j held there ready sound heard = concerning_keeps c (inputs.ActivationNack at) k o j there ready sound tt tt heard

using_keeps : (at : Place) (input : Input) (c : Controller) (k : ℕ) (o : Option Entry) (j : Judging) →
    IsAtPlace at input →
    channel_state c at ≡ InUse k →
    entry_of c k ≡ o →
    Ready c →
    IsSoundAll c →
    IsCarried input →
    RefersBy input →
    HeardBy c o input j →
    KeepsFine (on_state (InUse k) at input c o) j
using_keeps at (inputs.ActivationNack place) c k o j is state there ready sound carried refers heard =
    subst (λ (p : Place). KeepsFine (on_state (InUse k) at (inputs.ActivationNack p) c o) j) (sym is)
    (nack_keeps (fits o (inputs.ActivationNack at)) at c k o j (ap holder state) there ready sound (subst (λ (p : Place). HeardBy c o (inputs.ActivationNack p) j) is heard))
using_keeps at input c k o j is state there ready sound carried refers heard = concerning_keeps c input k o j there ready sound carried refers heard

releasing_keeps : (at : Place) (input : Input) (c : Controller) (k : ℕ) (o : Option Entry) (j : Judging) →
    IsAtPlace at input →
    channel_state c at ≡ Releasing k →
    entry_of c k ≡ o →
    Ready c →
    IsSoundAll c →
    IsCarried input →
    RefersBy input →
    HeardBy c o input j →
    KeepsFine (on_state (Releasing k) at input c o) j
releasing_keeps at (inputs.ReleaseAck place) c k o j is state there ready sound carried refers heard =
    subst (λ (p : Place). KeepsFine (on_state (Releasing k) at (inputs.ReleaseAck p) c o) j) (sym is)
    (too_keeps at c (inputs.ReleaseAck at) k o j there ready sound tt tt (acknowledged_now at c k o state there ready) (subst (λ (p : Place). HeardBy c o (inputs.ReleaseAck p) j) is heard))
releasing_keeps at (inputs.ActivationNack place) c k o j is state there ready sound carried refers heard =
    subst (λ (p : Place). KeepsFine (on_state (Releasing k) at (inputs.ActivationNack p) c o) j) (sym is)
    (nack_keeps (fits o (inputs.ActivationNack at)) at c k o j (ap holder state) there ready sound (subst (λ (p : Place). HeardBy c o (inputs.ActivationNack p) j) is heard))
releasing_keeps at input c k o j is state there ready sound carried refers heard = concerning_keeps c input k o j there ready sound carried refers heard

free_keeps : (b : Bool) (at : Place) (input : Input) (c : Controller) (j : Judging) → AreFine c j → KeepsFine (on_freed b at input c None) j
free_keeps true at input c j fine = nothing_keeps (freed at c) j (freed_fine at c j fine)
free_keeps false at input c j fine = ignoring_keeps c j fine

channel_keeps : (at : Place) (input : Input) (c : Controller) (state : ChannelState) (j : Judging) →
    IsAtPlace at input →
    channel_state c at ≡ state →
    Ready c →
    IsSoundAll c →
    IsCarried input →
    RefersBy input →
    HeardBy c (entry_at c state) input j →
    KeepsFine (on_state state at input c (entry_at c state)) j
channel_keeps at input c Free j is state ready sound carried refers heard = free_keeps (frees Free None input) at input c j (heard.missed tt)
channel_keeps at input c (InUse k) j is state ready sound carried refers heard = using_keeps at input c k (entry_of c k) j is state refl ready sound carried refers heard
channel_keeps at input c (Releasing k) j is state ready sound carried refers heard = releasing_keeps at input c k (entry_of c k) j is state refl ready sound carried refers heard

-- ---- CHANNEL REQUIRED

-- the activation says that the channel is activated, with no handover reference
access_says : (c : Controller) (source : ℕ) (channel : Channel) →
    access_channel c source ≡ Some channel →
    source ≢ SWITCH_LINK →
    c.next_number ≤ MAX_CONNECTION_NUMBER →
    IsSoundAll c →
    put_says (out_of c.next_number (access_activation channel)) ≡ says.Activates (at_of channel) None
access_says c source channel is station few sound =
    let free = first_free_is c source 0 Sdcch channel is in
    message_says c.next_number (access_activation channel) (omega arith) (sound_access channel (offered_sound c source 0 Sdcch channel sound.cells is))
    (activations_show channel IMMEDIATE_ASSIGNMENT None (λ same. station (sym free.1 ∙ same)))

given_keeps : (c : Controller) (source : ℕ) (request : RequestReference) (delay : ℕ) (o : Option Channel) (j : Judging) →
    access_channel c source ≡ o →
    source ≢ SWITCH_LINK →
    c.next_number ≤ MAX_CONNECTION_NUMBER →
    Ready c →
    IsSoundAll c →
    AreFine c j →
    KeepsFine (given c request delay o) j
given_keeps c source request delay None j is station few ready sound fine = ignoring_keeps c j fine
given_keeps c source request delay (Some channel) j is station few ready sound fine = by
  where
    offered : IsOffered c.channels c.links channel
    offered = offered_free c c.links source 0 Sdcch channel refl ready.holds.shaped is

    by : KeepsFine (with_connection c channel request delay) j
    by unknown [] none = absurd cc
    by unknown (n ∷ []) one =
        let said : n.said ≡ says.Activates (at_of channel) None = first n one ∙ access_says c source channel is station few sound in
        subst (λ (s : Said). AreFine (with_connection c channel request delay).next (after n.frame s j) × AllByRecursion IsWithoutFault (option_to_list (ended_by s j) ++ [])) (sym said)
        (open_fine c.links c channel request delay j offered ready.holds (find_below c.next_number c.entries ready.numbered.below) fine, tt)
      where
        first : (n : Numbered) →
            map (λ (k : Numbered). k.said) (n ∷ []) ≡ put_says (out_of c.next_number (access_activation channel)) ∷ [] →
            n.said ≡ put_says (out_of c.next_number (access_activation channel))
        first n one = cc
    by unknown (n ∷ (m ∷ ns)) more = absurd cc

if_keeps : (b : Bool) (c : Controller) (t : Turn) (j : Judging) →
    AreFine c j →
    (b ≡ true → KeepsFine t j) →
    KeepsFine (if b then t else ignoring c) j
if_keeps true c t j fine after = after refl
if_keeps false c t j fine after = ignoring_keeps c j fine

asked_keeps : (b d : Bool) (c : Controller) (t : Turn) (j : Judging) →
    AreFine c j →
    (d ≡ true → KeepsFine t j) →
    KeepsFine (if (b && d) then t else ignoring c) j
asked_keeps true true c t j fine after = after refl
asked_keeps true false c t j fine after = ignoring_keeps c j fine
asked_keeps false d c t j fine after = ignoring_keeps c j fine

-- ---- a report

moves_to : (s : Settings) (reports : List Report) (number cell : ℕ) → decision_over s reports number ≡ Move cell → cell ≢ SWITCH_LINK
moves_to s [] number cell is = absurd (let none : Stay ≡ Move cell = is in cc)
moves_to s (r ∷ rs) number cell is = by (is_due s (r ∷ rs) number) is
  where
    to : (o : Option ℕ) → moving_to o ≡ Move cell → cell ≢ SWITCH_LINK
    to None is = absurd (let none : Stay ≡ Move cell = is in cc)
    to (Some place) is = λ same. (let moved : place + 1 ≡ cell = of place is in absurd (omega arith))
      where
        of : (place : ℕ) → Move (place + 1) ≡ Move cell → place + 1 ≡ cell
        of place is = cc

    by : (b : Bool) → decision_where b s (r ∷ rs) ≡ Move cell → cell ≢ SWITCH_LINK
    by true is = to (best s (r ∷ rs)) is
    by false is = absurd (let none : Stay ≡ Move cell = is in cc)

decision_keeps : (d : Decision) (c : Controller) (e : Entry) (j : Judging) →
    ((cell : ℕ) → d ≡ Move cell → cell ≢ SWITCH_LINK) →
    IsHere c.links c e →
    Holds c.links c →
    Uses c.links c.links c →
    IsSoundAll c →
    AreFine c j →
    KeepsFine (on_decision d c e) j
decision_keeps Stay c e j station here holds uses sound fine = nothing_keeps c j fine
decision_keeps (Move cell) c e j station here holds uses sound fine =
    let offer : Option Channel = handover_offer c e.connection.serving cell in
    fitting_keeps c (turn [] c) e (row_of e.connection inputs.Move offer) j
    (λ none. nothing_keeps c j fine)
    (λ r is.
    let moves = plain_keep c.links c e inputs.Move offer r j tt here holds is fine in
    row_keeps c.links c.links c e inputs.Move offer r j
    (record {
      here = here;
      fits = is;
      owns = usual_row c.links c e inputs.Move offer r here.there here.valid holds is (λ is_open channel offered. offered_free c c.links cell c.handovers (kind_of e.connection.serving.number) channel refl holds.shaped offered);
      others = λ n differ. holds.each n;
      apart = λ is_open. (owns_entry c.links c e here.there holds is_open).apart;
      asked = λ no_move. absurd (no_move refl);
    })
    (record {
      alive = row_keeps_uses c.links e.connection inputs.Move offer r is (changes_of e.connection inputs.Move offer r here.valid is) here.linked (own_alive c.links c.links c e here.there holds uses)
          (λ was_open is_open d offered. (let free = first_free_is c cell c.handovers (kind_of e.connection.serving.number) d offered in subst (IsAlive c.links) (sym free.1) (free.0, station cell refl)));
      offered = λ d is. offered_sound c cell c.handovers (kind_of e.connection.serving.number) d sound.cells is;
      carried = tt;
      refers = tt;
    })
    sound (entry_mine c.links c e inputs.Move r j here.there holds moves) moves)

report_keeps : (at : Place) (of : ℕ) (report : Report) (c : Controller) (m : ℕ) (o : Option Entry) (j : Judging) →
    entry_of c m ≡ o →
    Ready c →
    IsSoundAll c →
    AreFine c j →
    KeepsFine (on_report at of report c o) j
report_keeps at of report c m None j there ready sound fine = ignoring_keeps c j fine
report_keeps at of report c m (Some e) j there ready sound fine =
    if_keeps (measures at e) c (measured of report c e) j fine
    (λ measuring.
    let put : Entry = with_report of report e in
    let c' : Controller = with_entry put c in
    let here = here_of c m e ready there in
    let found : entry_of c' e.connection.number ≡ Some put = back_found put e c.entries here.rising here.there ∙ measured_remains e.connection.state put (and_parts (is_at at e.connection.serving) (is_measured e.connection.state) measuring).1 in
    let same : (n : ℕ) → connection_of c' n ≡ connection_of c n = λ n. decide_same n e.connection.number (connection_of c' n ≡ connection_of c n)
    (λ is. subst (λ (k : ℕ). connection_of c' k ≡ connection_of c k) (sym is) (ap (option_map (λ (x : Entry). x.connection)) found ∙ sym (ap (option_map (λ (x : Entry). x.connection)) here.there)))
    (λ differ. ap (option_map (λ (x : Entry). x.connection)) (back_over n put c.entries differ)) in
    decision_keeps (decision_over put.averages.settings put.averages.reports of) c' put j (λ cell is. moves_to put.averages.settings put.averages.reports of cell is)
    (record { rising = back_rising put c.entries here.rising; there = found; valid = here.valid; from_one = here.from_one; below = here.below; linked = here.linked })
    (record { shaped = ready.holds.shaped; each = λ n. subst (OwnsOpen c.channels c.links n) (sym (same n)) (ready.holds.each n) })
    (same_uses c.links c.links c c' refl refl same ready.uses)
    (record { each = λ n. subst SoundOf (sym (same n)) (sound.each n); cells = sound.cells; next = sound.next })
    (same_fine c c' j same refl (λ at n is. is) fine))

report_on_keeps : (at : Place) (of : ℕ) (report : Report) (c : Controller) (state : ChannelState) (j : Judging) →
    Ready c →
    IsSoundAll c →
    AreFine c j →
    KeepsFine (on_report at of report c (entry_at c state)) j
report_on_keeps at of report c Free j ready sound fine = ignoring_keeps c j fine
report_on_keeps at of report c (InUse k) j ready sound fine = report_keeps at of report c k (entry_of c k) j refl ready sound fine
report_on_keeps at of report c (Releasing k) j ready sound fine = report_keeps at of report c k (entry_of c k) j refl ready sound fine

-- ---- PING

pong_keeps : (source : ℕ) (c : Controller) (j : Judging) → AreFine c j → KeepsFine (turn (pong source ∷ []) c) j
pong_keeps source c j fine unknown [] is = absurd cc
pong_keeps source c j fine unknown (n ∷ []) is =
    let said : n.said ≡ says.Nothing = first n is ∙ pong_says source in
    subst (λ (s : Said). AreFine c (after n.frame s j) × AllByRecursion IsWithoutFault (option_to_list (ended_by s j) ++ [])) (sym said) (fine, tt)
  where
    first : (n : Numbered) → map (λ (k : Numbered). k.said) (n ∷ []) ≡ put_says (pong source) ∷ [] → n.said ≡ put_says (pong source)
    first n one = cc
pong_keeps source c j fine unknown (n ∷ (m ∷ ns)) is = absurd cc

-- ---- a word, and what a judge reads in its frame

pub word_keeps : (source : ℕ) (word : Word) (said : Said) (frame : ℕ) (c : Controller) (j : Judging) →
    Matches word said →
    IsFrom source word →
    IsAskedOf source word →
    IsCarriedBy word →
    RefersIn word →
    Ready c →
    IsSoundAll c →
    AreFine c j →
    KeepsFine (on_word source word c) (after frame said j)
word_keeps source words.Nothing said frame c j is from asked carried refers ready sound fine = ignoring_keeps c (after frame said j) (missed_keep c frame words.Nothing said j is tt ready fine)
word_keeps source words.Ping said frame c j is from asked carried refers ready sound fine = pong_keeps source c (after frame said j) (missed_keep c frame words.Ping said j is tt ready fine)
word_keeps source (words.Asks request delay) said frame c j is from asked carried refers ready sound fine =
    let still : AreFine c (after frame said j) = missed_keep c frame (words.Asks request delay) said j is tt ready fine in
    asked_keeps (is_up c SWITCH_LINK) (nat_le c.next_number MAX_CONNECTION_NUMBER) c (given c request delay (access_channel c source)) (after frame said j) still
    (λ few. given_keeps c source request delay (access_channel c source) (after frame said j) refl asked (leb-true c.next_number MAX_CONNECTION_NUMBER few) ready sound still)
word_keeps source (words.OnChannel at input) said frame c j is from asked carried refers ready sound fine =
    channel_keeps at input c (channel_state c at) (after frame said j) from.1 refl ready sound carried refers (record {
      missed = λ misses. missed_keep c frame (words.OnChannel at input) said j is misses ready fine;
      ready = λ e offer r some here fits. heard_keep source c frame (words.OnChannel at input) said j e input offer r from is (some, refl) fits here ready fine;
    })
word_keeps source (words.Reports at of report) said frame c j is from asked carried refers ready sound fine =
    report_on_keeps at of report c (channel_state c at) (after frame said j) ready sound (missed_keep c frame (words.Reports at of report) said j is tt ready fine)
word_keeps source (words.OnConnection m input) said frame c j is from asked carried refers ready sound fine =
    concerning_keeps c input m (entry_of c m) (after frame said j) refl ready sound carried refers (record {
      missed = λ misses. missed_keep c frame (words.OnConnection m input) said j is misses ready fine;
      ready = λ e offer r some here fits. heard_keep source c frame (words.OnConnection m input) said j e input offer r from is (some, refl) fits here ready fine;
    })
