-- SPDX-License-Identifier: MIT OR Apache-2.0
-- A frame that the controller takes, before the row of its word. After the frame all connections of
-- the judge are fine, except the one whose row follows, which is ready for it.
use Rattle.std.proofs.Common.{◌≡◌, ◌≢◌, ℕ, List, Option, Some, None, refl, sym, subst, ap, ◌∙◌, inl, inr, option_map}
use Rattle.std.specs.List.{AllByRecursion}
use Rattle.std.specs.Option.{option_to_list}
use Rattle.conn_messages.specs.declared.channel.Channel.{Channel}
use Rattle.conn_messages.specs.declared.channel.Change.{Change}
use Rattle.conn_messages.specs.declared.channel.Place.{Place}
use Rattle.conn_rules.specs.Connection.{Connection, is_at}
use Rattle.conn_rules.specs.declared.input.Input.{Input}
use Rattle.conn_rules.specs.declared.input.Input.TheVariants as inputs
use Rattle.conn_rules.specs.declared.state.Stage.{Stage}
use Rattle.conn_rules.specs.declared.state.Stage.TheVariants.{Changing}
use Rattle.conn_rules.specs.declared.state.State.{State}
use Rattle.conn_rules.specs.declared.state.State.TheVariants.{Closed, Live, Removed, WaitActivation, WaitConfirm, WaitEstablish}
use Rattle.conn_rules.specs.Roles.{roles_of}
use Rattle.conn_rules.specs.Steps.{Row}
use Rattle.conn_rules.specs.Streams.{AreApart, IsOpen, used_channels}
use Rattle.conn_rules.specs.Table.{access, on_establish_indication, row_of}
use Rattle.conn_rules.specs.Validity.{IsValid}
use Rattle.controller_model.specs.Controller.{Controller, Entry, channel_state, entry_of, state_in}
use Rattle.controller_model.specs.declared.channel_state.ChannelState.{ChannelState}
use Rattle.controller_model.specs.declared.channel_state.ChannelState.TheVariants.{InUse}
use Rattle.controller_model.specs.declared.word.Word.{Word}
use Rattle.controller_model.specs.declared.word.Word.TheVariants as words
use Rattle.controller_model.specs.Life.{entry_at}
use Rattle.controller_model.specs.LifeLaws.History.{connection_of}
use Rattle.controller_model.specs.LifeLaws.Owning.{Owns, OwnsOpen}
use Rattle.controller_model.proofs.LifeLaws.Entries.{found_number}
use Rattle.controller_model.proofs.LifeLaws.OwningWords.{AllValid, owns_entry}
use Rattle.controller_model.proofs.LifeLaws.Sources.{IsAtPlace, IsFrom, IsOfSwitch}
use Rattle.controller_model.proofs.LifeLaws.UplinkLife.{used_apart}
use Rattle.controller_model.proofs.LifeLaws.UsingWords.{IsHere, Ready}
use Rattle.dtap_codec.specs.declared.sapi.Sapi.{Sapi}
use Rattle.dtap_codec.specs.declared.sapi.Sapi.TheVariants.{Zero}
use Rattle.dtap_codec.specs.declared.rr.RrCause.{RrCause}
use Rattle.run_judge.specs.declared.channels.ChannelView.TheVariants as views
use Rattle.run_judge.specs.declared.said.Said.{Said}
use Rattle.run_judge.specs.declared.said.Said.TheVariants as says
use Rattle.run_judge.specs.declared.said.StationChannel.{StationChannel}
use Rattle.run_judge.specs.Channels.{view_at}
use Rattle.run_judge.specs.Connection.{IsWithoutFault, brought, completed, failed, released, sent_down}
use Rattle.run_judge.specs.ConnectionState.{ConnectionState}
use Rattle.run_judge.specs.Judging.{Judging, after, ended_by, owner_of}
use Rattle.judge_laws.proofs.Fine.{AreFine, IsEarly, IsFine, IsNotOffered, IsUnasked, IsUnconfirmed}
use Rattle.judge_laws.proofs.Heard.{heard_complete, heard_failure, heard_release_row}
use Rattle.judge_laws.proofs.HeardFine.{HeardKeep, IsMissed, IsTaken, MissedBy, MissedKeep, PlainKeep, IsOpening, IsReady, IsReadyOwn, IsSilentInput, no_command_step, none_fits, still_own, where_true}
use Rattle.judge_laws.proofs.HeardFine.Follows.{prepared}
use Rattle.judge_laws.proofs.HeardFineAnswers.{answered, answered_channels, answered_fine, answered_ready, confirm_misses, refuse_misses, refused_channels, refused_fine, refused_is, refused_ready}
use Rattle.judge_laws.proofs.HeardFineChanges.{Arrives, IsTame, agree, behind, fine_by, follow, ready_by, was_hit}
use Rattle.judge_laws.proofs.HeardFineChannels.{HitAt, HitOld, NoHit, Owner, brings_arrives, completes_arrives, establishes_arrives, establishes_opens, fails_arrives, owner_by, released_arrives, tame_brought, tame_completed, tame_failed, tame_none, tame_released}
use Rattle.judge_laws.proofs.HeardFineChannels.Owner.{mine as owned, nobody}
use Rattle.judge_laws.proofs.HeardFineRows.{IsOf, brought_mine, complete_misses, complete_on, completed_mine, dtap_on, failed_mine, failure_misses, failure_on, old_rank_mine, release_fits, release_old, release_on}
use Rattle.judge_laws.proofs.HeardFineSwitch.{brings_none, downlink_follows, downlink_misses, tame_sent, transfers_arrives}
use Rattle.judge_laws.proofs.Hearing.{HasChannel}
use Rattle.judge_laws.proofs.Law.{ended_well}
use Rattle.judge_laws.proofs.Mine.{heard_dtap, missed_dtap}
use Rattle.judge_laws.proofs.Moves.{same_at}
use Rattle.judge_laws.proofs.Ranks.{same_is}
use Rattle.judge_laws.specs.Agreeing.{Agrees, IsAsked, IsOpenRow}
use Rattle.judge_laws.specs.Hearing.{IsUnheard, Matches}
use Rattle.judge_laws.specs.Hearing.Matches.{brings, completes, confirms, establishes, fails, refuses, released as releases, transfers, unheard}
use Rattle.judge_laws.specs.Places.{at_of, spot}

-- ---- what is known of the connections of a controller

pub record HasEntry (c : Controller) (n : ℕ) (s : Connection) : Type 0 where
  pub entry : Entry
  pub there : entry_of c n ≡ Some entry
  pub is : entry.connection ≡ s

pub has_entry : (c : Controller) (n : ℕ) (s : Connection) → connection_of c n ≡ Some s → HasEntry c n s
has_entry c n s there = by (entry_of c n) refl there
  where
    by : (o : Option Entry) → entry_of c n ≡ o → option_map (λ (e : Entry). e.connection) o ≡ Some s → HasEntry c n s
    by None is there = absurd (let none : (let o : Option Connection = None in o) ≡ Some s = there in cc)
    by (Some e) is there = record { entry = e; there = is; is = (let same : Some e.connection ≡ Some s = there in cc) }

valid_of : (c : Controller) (n : ℕ) (s : Connection) → Ready c → connection_of c n ≡ Some s → IsValid s
unfolding AllValid
valid_of c n s ready there = let has = has_entry c n s there in subst IsValid has.is (ready.are_valid n has.entry has.there)

owns_of : (c : Controller) (n : ℕ) (s : Connection) →
    Ready c →
    connection_of c n ≡ Some s →
    IsOpen s.state →
    Owns c.channels c.links n (roles_of s)
owns_of c n s ready there is_open = subst (OwnsOpen c.channels c.links n) there (ready.holds.each n) is_open

pub asked_open : (state : State) → IsAsked state → IsOpen state
asked_open WaitConfirm asked = tt
asked_open (Live reference stage) asked = tt
asked_open WaitActivation asked = absurd asked
asked_open WaitEstablish asked = absurd asked
asked_open (Closed clearing) asked = absurd asked
asked_open Removed asked = absurd asked

apart_of : (c : Controller) (n : ℕ) (s : Connection) → Ready c → connection_of c n ≡ Some s → IsAsked s.state → AreApart (used_channels s)
apart_of c n s ready there asked = used_apart s (owns_of c n s ready there (asked_open s.state asked)).apart

-- the entry whose the channel is
of_channel : (c : Controller) (at : Place) (n : ℕ) (s : Connection) →
    connection_of c n ≡ Some s →
    IsOf c.channels at n →
    (e : Entry) × (entry_at c (channel_state c at) ≡ Some e) × (e.connection ≡ s) × (entry_of c n ≡ Some e)
of_channel c at n s there mine =
    let has = has_entry c n s there in
    (has.entry, found mine has, has.is, has.there)
  where
    found : IsOf c.channels at n → (has : HasEntry c n s) → entry_at c (channel_state c at) ≡ Some has.entry
    found mine has = elim mine [
      | inl using ↦ ap (λ (state : ChannelState). entry_at c state) using ∙ has.there
      | inr releasing ↦ ap (λ (state : ChannelState). entry_at c state) releasing ∙ has.there
    ]

-- so no row fits its input
misses_of : (c : Controller) (at : Place) (input : Input) (n : ℕ) (s : Connection) →
    MissedBy input (entry_at c (channel_state c at)) →
    connection_of c n ≡ Some s →
    IsOf c.channels at n →
    (offer : Option Channel) × (row_of s input offer ≡ None)
misses_of c at input n s missed there mine =
    let has = of_channel c at n s there mine in
    let these : MissedBy input (Some has.0) = subst (MissedBy input) has.1 missed in
    (these.0, subst (λ (x : Connection). row_of x input these.0 ≡ None) has.2 these.1)

-- another one's channel is none of it
other_of : (c : Controller) (at : Place) (e : Entry) (n : ℕ) (s : Connection) →
    entry_at c (channel_state c at) ≡ Some e →
    n ≢ e.connection.number →
    connection_of c n ≡ Some s →
    IsOf c.channels at n →
    ⊥
other_of c at e n s taken differ there mine =
    let has = of_channel c at n s there mine in
    let same : Some has.0 ≡ Some e = sym has.1 ∙ taken in
    let one : has.0 ≡ e = cc in
    differ (sym (found_number n c.entries e (has.3 ∙ ap (λ (x : Entry). Some x) one)))

-- ---- all connections

module _ (Hit : ℕ → ConnectionState → Type 0) (change : ConnectionState → ConnectionState) (c : Controller) (j next : Judging) (tame : IsTame change) (came : Arrives Hit change c j next) (fine : AreFine c j) where
  -- the agreement of those that it hits remains
  abbrev pub Keeps : ℕ → Type 0
  Keeps n = (s : Connection) (k : ConnectionState) → connection_of c n ≡ Some s → j.connections n ≡ Some k → Hit n k → k.unjudged ≡ None → IsAsked s.state → Agrees s k → (change k).unjudged ≡ None → Agrees s (change k)

  one_fine : (n : ℕ) → Keeps n → IsFine c next n
  one_fine n keeps = fine_by c next n (behind Hit change c j next tame came n (fine.each n)) (agree Hit change c j next tame came n (fine.each n) keeps)

  all_fine : ((n : ℕ) → Keeps n) → AreFine c next
  all_fine keeps = record {
    each = λ n. one_fine n (keeps n);
    owners = λ at n m number using view. fine.owners at n m number using (came.owners at m number view);
  }

  one_ready : (e : Entry) (input : Input) (r : Row) →
      ((n : ℕ) → n ≢ e.connection.number → Keeps n) →
      IsReadyOwn e.connection.number e.connection input r next →
      IsReady c e input r next
  one_ready e input r keeps own = record {
    own = own;
    others = λ m differ. one_fine m (keeps m differ);
    owners = λ at n m number using view. fine.owners at n m number using (came.owners at m number view);
  }

-- ---- no row fits

pub missed_keep : MissedKeep
missed_keep c frame word said j matches missed ready fine = by matches missed
  where
    owner : (at : StationChannel) → Owner at j
    owner at = owner_by at j (λ n k has. (fine.each n).well k has)

    by : {word : Word} {said : Said} → Matches word said → IsMissed c word → AreFine c (after frame said j)
    by (unheard word un) missed = fine
    by (establishes at message) missed = all_fine NoHit (λ k. k) c j _ tame_none (establishes_arrives at message frame c j) fine (λ n s k there has hit judged asked agrees after_it. absurd hit)
    by (brings at sapi message) missed = all_fine (HitAt at j) (brought at sapi message frame) c j _ (tame_brought at sapi message frame) (brings_arrives at sapi message frame c j (owner at)) fine
        (λ n s k there has hit judged asked agrees after_it.
        let mine = brought_mine c.channels c.links n s k (owns_of c n s ready there (asked_open s.state asked)) agrees at sapi message frame judged after_it in
        let misses = misses_of c (spot at) (inputs.Dtap (spot at) sapi message) n s missed there mine in
        missed_dtap s misses.0 k at sapi message frame asked (valid_of c n s ready there) misses.1 agrees)
    by (completes at change cause) missed = all_fine (HitAt at j) (completed at change) c j _ (tame_completed at change) (completes_arrives at change frame c j (owner at)) fine
        (λ n s k there has hit judged asked agrees after_it. elim (completed_mine c.channels c.links n s k (owns_of c n s ready there (asked_open s.state asked)) agrees at change) [
          | inl same ↦ subst (Agrees s) (sym same) agrees
          | inr mine ↦ let misses = misses_of c (spot at) (inputs.Complete (spot at) change cause) n s missed there mine in complete_misses s misses.0 k at change cause misses.1 agrees
        ])
    by (fails at change cause) missed = all_fine (HitAt at j) (failed at change) c j _ (tame_failed at change) (fails_arrives at change frame c j (owner at)) fine
        (λ n s k there has hit judged asked agrees after_it. elim (failed_mine c.channels c.links n s k (owns_of c n s ready there (asked_open s.state asked)) agrees at change) [
          | inl same ↦ subst (Agrees s) (sym same) agrees
          | inr mine ↦ let misses = misses_of c (spot at) (inputs.Failure (spot at) change cause) n s missed there mine in failure_misses s misses.0 k at change cause misses.1 agrees
        ])
    by (releases at) missed = all_fine (HitOld at j) (released at) c j _ (tame_released at) (released_arrives at frame c j (owner at) (λ n s there asked. apart_of c n s ready there asked)) fine
        (λ n s k there has hit judged asked agrees after_it.
        let mine = old_rank_mine c.channels c.links n s k (owns_of c n s ready there (asked_open s.state asked)) agrees at hit.1 in
        let misses = misses_of c (spot at) (inputs.ReleaseAck (spot at)) n s missed there mine in
        release_fits s misses.0 k at asked (valid_of c n s ready there) agrees hit.1 misses.1)
    by (transfers destination sapi message) missed = all_fine (λ n k. n ≡ destination) (sent_down sapi message frame) c j _ (tame_sent sapi message frame) (transfers_arrives sapi message frame destination c j) fine
        (λ n s k there has hit judged asked agrees after_it.
        let of = has_entry c n s there in
        let these : MissedBy (inputs.Downlink sapi message) (Some of.entry) = subst (MissedBy (inputs.Downlink sapi message)) (ap (entry_of c) (sym hit) ∙ of.there) missed in
        downlink_misses sapi message frame s these.0 k (subst (λ (x : Connection). row_of x (inputs.Downlink sapi message) these.0 ≡ None) of.is these.1) (λ un. (fine.each n).unconfirmed s k there un has) judged after_it asked agrees)
    by (confirms destination source) missed = record {
      each = λ m. answered_fine c j _ destination m source frame (answered destination source frame j) (λ same s there un. never_confirmed same s there un) (fine.each m);
      owners = λ at n m number using view. fine.owners at n m number using (confirmed_view at m number view);
    }
      where
        never_confirmed : {m : ℕ} → m ≡ destination → (s : Connection) → connection_of c m ≡ Some s → IsUnconfirmed s.state → ⊥
        never_confirmed {m} same s there un =
            let of = has_entry c m s there in
            let these : MissedBy (inputs.ConnectionConfirm source) (Some of.entry) = subst (MissedBy (inputs.ConnectionConfirm source)) (ap (entry_of c) (sym same) ∙ of.there) missed in
            confirm_misses s source these.0 (subst (λ (x : Connection). row_of x (inputs.ConnectionConfirm source) these.0 ≡ None) of.is these.1) un

        confirmed_view : (at : StationChannel) (m number : ℕ) →
            view_at (after frame (says.Confirms destination source) j).channels at ≡ views.Owned m number →
            view_at j.channels at ≡ views.Owned m number
        confirmed_view at m number view = ap (λ stations. view_at stations at) (sym (answered_channels destination source frame j _ (answered destination source frame j))) ∙ view
    by (refuses destination) missed = record {
      each = λ m. refused_fine c j _ destination m (refused_is destination frame j) (λ same s there un. never_refused same s there un) (fine.each m);
      owners = λ at n m number using view. fine.owners at n m number using (ap (λ stations. view_at stations at) (sym (refused_channels destination j _ (refused_is destination frame j))) ∙ view);
    }
      where
        never_refused : {m : ℕ} → m ≡ destination → (s : Connection) → connection_of c m ≡ Some s → IsUnconfirmed s.state → ⊥
        never_refused {m} same s there un =
            let of = has_entry c m s there in
            let these : MissedBy inputs.ConnectionRefused (Some of.entry) = subst (MissedBy inputs.ConnectionRefused) (ap (entry_of c) (sym same) ∙ of.there) missed in
            refuse_misses s these.0 (subst (λ (x : Connection). row_of x inputs.ConnectionRefused these.0 ≡ None) of.is these.1) un

-- ---- a row follows

silent_on_channel : (at : Place) (input : Input) → IsAtPlace at input → IsUnheard (words.OnChannel at input) → IsSilentInput input
silent_on_channel at (inputs.EstablishIndication place Zero (Some message)) is un = absurd un
silent_on_channel at (inputs.Dtap place sapi message) is un = absurd un
silent_on_channel at (inputs.Complete place change cause) is un = absurd un
silent_on_channel at (inputs.Failure place change cause) is un = absurd un
silent_on_channel at (inputs.ReleaseAck place) is un = absurd un
silent_on_channel at (inputs.ConnectionConfirm source) is un = absurd is
silent_on_channel at inputs.ConnectionRefused is un = absurd is
silent_on_channel at (inputs.Downlink sapi message) is un = absurd is
silent_on_channel at _ is un = tt

silent_on_connection : (m : ℕ) (input : Input) → IsOfSwitch input → IsUnheard (words.OnConnection m input) → IsSilentInput input
silent_on_connection m (inputs.EstablishIndication place Zero (Some message)) is un = absurd is
silent_on_connection m (inputs.Dtap place sapi message) is un = absurd is
silent_on_connection m (inputs.Complete place change cause) is un = absurd is
silent_on_connection m (inputs.Failure place change cause) is un = absurd is
silent_on_connection m (inputs.ReleaseAck place) is un = absurd is
silent_on_connection m (inputs.ConnectionConfirm source) is un = absurd un
silent_on_connection m inputs.ConnectionRefused is un = absurd un
silent_on_connection m (inputs.Downlink sapi message) is un = absurd un
silent_on_connection m _ is un = tt

-- nothing is heard: also for timers, links and a move
pub plain_keep : PlainKeep
plain_keep links c e input offer r j silent here holds fits fine = record {
  own = still_own c e.connection.number e.connection input offer r j silent (ap (option_map (λ (x : Entry). x.connection)) here.there) fits here.valid (λ is_open. used_apart e.connection (owns_entry links c e here.there holds is_open).apart) (fine.each e.connection.number);
  others = λ m differ. fine.each m;
  owners = fine.owners;
}

-- an initial message has a row only of a connection that isn't asked for
establish_asked : {P : Type 0} (s : Connection) (at : Place) (message : List ℕ) (offer : Option Channel) (r : Row) →
    row_of s (inputs.EstablishIndication at Zero (Some message)) offer ≡ Some r →
    IsAsked s.state →
    P
unfolding row_of
establish_asked {P = P} s at message offer r fits asked = by s.state asked fits
  where
    in_stage : (reference : ℕ) (stage : Stage) → on_establish_indication (Live reference stage) s at Zero (Some message) ≡ Some r → P
    in_stage reference (Changing target) fits = none_fits r fits
    in_stage reference _ fits = none_fits r fits

    by : (state : State) → IsAsked state → on_establish_indication state s at Zero (Some message) ≡ Some r → P
    by WaitEstablish asked fits = absurd asked
    by (Live reference stage) asked fits = in_stage reference stage fits
    by _ asked fits = none_fits r fits

-- that waits on the channel
establish_at : (s : Connection) (at : StationChannel) (message : List ℕ) (offer : Option Channel) (r : Row) →
    row_of s (inputs.EstablishIndication (spot at) Zero (Some message)) offer ≡ Some r →
    s.state ≡ WaitEstablish →
    at_of s.serving ≡ at
unfolding row_of
establish_at s at message offer r fits is =
    let waits : on_establish_indication WaitEstablish s (spot at) Zero (Some message) ≡ Some r = subst (λ (state : State). on_establish_indication state s (spot at) Zero (Some message) ≡ Some r) is fits in
    same_is (at_of s.serving) at (same_at at s.serving ∙ (where_true (is_at (spot at) s.serving) (access (Some message) s) r waits).0)

module _ (c : Controller) (frame : ℕ) (j : Judging) (e : Entry) (offer : Option Channel) (r : Row) (here : IsHere c.links c e) (ready : Ready c) (fine : AreFine c j) where
  there : connection_of c e.connection.number ≡ Some e.connection
  there = ap (option_map (λ (x : Entry). x.connection)) here.there

  owner : (at : StationChannel) → Owner at j
  owner at = owner_by at j (λ m k has. (fine.each m).well k has)

  row_is : (input : Input) →
      row_of e.connection input offer ≡ Some r →
      IsAsked e.connection.state →
      IsOpen r.next.state →
      IsOpenRow e.connection input offer r
  row_is input fits asked is_open = record { fits = fits; valid = here.valid; apart = apart_of c e.connection.number e.connection ready there asked; was_open = asked_open e.connection.state asked; is_open = is_open }

  -- another one isn't hit so that it counts
  differs : (at : StationChannel) (m : ℕ) (s : Connection) →
      entry_at c (channel_state c (spot at)) ≡ Some e →
      m ≢ e.connection.number →
      connection_of c m ≡ Some s →
      IsOf c.channels (spot at) m →
      ⊥
  differs at m s taken differ is mine = other_of c (spot at) e m s taken differ is mine

  owns : (m : ℕ) (s : Connection) → connection_of c m ≡ Some s → IsAsked s.state → Owns c.channels c.links m (roles_of s)
  owns m s is asked = owns_of c m s ready is (asked_open s.state asked)

  -- its channel, where it is one of its tenures'
  has_channel : (at : StationChannel) (k : ConnectionState) →
      j.connections e.connection.number ≡ Some k →
      view_at j.channels at ≡ views.Owned e.connection.number k.number →
      HasChannel e.connection.number at j k
  has_channel at k had view = record { there = had; own = ((fine.each e.connection.number).well k had).is; view = view }

  heard_establishes : (at : StationChannel) (message : List ℕ) →
      row_of e.connection (inputs.EstablishIndication (spot at) Zero (Some message)) offer ≡ Some r →
      IsReady c e (inputs.EstablishIndication (spot at) Zero (Some message)) r (after frame (says.Establishes at message) j)
  heard_establishes at message fits =
      let came = establishes_arrives at message frame c j in
      one_ready NoHit (λ k. k) c j _ tame_none came fine e (inputs.EstablishIndication (spot at) Zero (Some message)) r (λ m differ s k is has hit judged asked agrees after_it. absurd hit)
      (ready_by c _ e.connection.number e.connection (inputs.EstablishIndication (spot at) Zero (Some message)) r there tt (λ k has judged. tt) opens
      (behind NoHit (λ k. k) c j _ tame_none came e.connection.number (fine.each e.connection.number))
      (λ k has judged asked is_open. establish_asked e.connection (spot at) message offer r fits asked))
    where
      early : e.connection.state ≡ WaitEstablish → IsEarly e.connection.state
      early is = subst IsEarly (sym is) tt

      free : e.connection.state ≡ WaitEstablish → IsNotOffered (view_at j.channels at)
      free is = subst (λ (x : StationChannel). IsNotOffered (view_at j.channels x)) (establish_at e.connection at message offer r fits is) ((fine.each e.connection.number).access e.connection there (early is))

      nobodys : e.connection.state ≡ WaitEstablish → Owner at j → owner_of at j ≡ None
      nobodys is (nobody none) = none
      nobodys is (owned m k has) =
          let using : state_in c.channels (spot at) ≡ InUse e.connection.number = subst (λ (x : StationChannel). state_in c.channels (spot x) ≡ InUse e.connection.number) (establish_at e.connection at message offer r fits is) (owns_of c e.connection.number e.connection ready there (subst IsOpen (sym is) tt)).using.0 in
          let same : m ≡ e.connection.number = fine.owners at e.connection.number m k.number using has.view in
          let none : j.connections e.connection.number ≡ None = (fine.each e.connection.number).unasked (subst (IsUnasked c.next_number e.connection.number) (sym there) (early is)) in
          absurd (let both : None ≡ Some k = sym none ∙ ap j.connections (sym same) ∙ has.there in cc)

      opens : e.connection.state ≡ WaitEstablish →
          IsOpening message (view_at (after frame (says.Establishes at message) j).channels (at_of e.connection.serving))
      opens is = subst (λ (x : StationChannel). IsOpening message (view_at (after frame (says.Establishes at message) j).channels x)) (sym (establish_at e.connection at message offer r fits is)) (establishes_opens at message frame j (free is) (nobodys is (owner at)))

  heard_brings : (at : StationChannel) (sapi : Sapi) (message : List ℕ) →
      entry_at c (channel_state c (spot at)) ≡ Some e →
      row_of e.connection (inputs.Dtap (spot at) sapi message) offer ≡ Some r →
      IsReady c e (inputs.Dtap (spot at) sapi message) r (after frame (says.Brings at sapi message) j)
  heard_brings at sapi message taken fits =
      let came = brings_arrives at sapi message frame c j (owner at) in
      let change : ConnectionState → ConnectionState = brought at sapi message frame in
      let tame = tame_brought at sapi message frame in
      one_ready (HitAt at j) change c j _ tame came fine e (inputs.Dtap (spot at) sapi message) r
      (λ m differ s k is has hit judged asked agrees after_it. absurd (differs at m s taken differ is (brought_mine c.channels c.links m s k (owns m s is asked) agrees at sapi message frame judged after_it)))
      (ready_by c _ e.connection.number e.connection (inputs.Dtap (spot at) sapi message) r there tt (λ k has judged. tt) (λ is. tt)
      (behind (HitAt at j) change c j _ tame came e.connection.number (fine.each e.connection.number))
      (follow (HitAt at j) change c j _ tame came e.connection.number e.connection (inputs.Dtap (spot at) sapi message) r there (fine.each e.connection.number)
      (λ k had asked is_open agrees lines. has_channel at k had (dtap_on (λ (x : StationChannel). view_at j.channels x ≡ views.Owned e.connection.number k.number) e.connection offer r k at sapi message asked here.valid is_open fits agrees lines))
      (λ k had judged after_it asked is_open agrees. prepared (no_command_step (inputs.Dtap (spot at) sapi message) (roles_of e.connection) tt) (heard_dtap e.connection offer r k at sapi message frame (row_is (inputs.Dtap (spot at) sapi message) fits asked is_open) asked agrees))))

  heard_completes : (at : StationChannel) (change : Change) (cause : RrCause) →
      entry_at c (channel_state c (spot at)) ≡ Some e →
      row_of e.connection (inputs.Complete (spot at) change cause) offer ≡ Some r →
      IsReady c e (inputs.Complete (spot at) change cause) r (after frame (says.Completes at change) j)
  heard_completes at change cause taken fits =
      let came = completes_arrives at change frame c j (owner at) in
      let tame = tame_completed at change in
      one_ready (HitAt at j) (completed at change) c j _ tame came fine e (inputs.Complete (spot at) change cause) r
      (λ m differ s k is has hit judged asked agrees after_it. elim (completed_mine c.channels c.links m s k (owns m s is asked) agrees at change) [
        | inl same ↦ subst (Agrees s) (sym same) agrees
        | inr mine ↦ absurd (differs at m s taken differ is mine)
      ])
      (ready_by c _ e.connection.number e.connection (inputs.Complete (spot at) change cause) r there tt (λ k has judged. tt) (λ is. tt)
      (behind (HitAt at j) (completed at change) c j _ tame came e.connection.number (fine.each e.connection.number))
      (follow (HitAt at j) (completed at change) c j _ tame came e.connection.number e.connection (inputs.Complete (spot at) change cause) r there (fine.each e.connection.number)
      (λ k had asked is_open agrees lines. has_channel at k had (complete_on (λ (x : StationChannel). view_at j.channels x ≡ views.Owned e.connection.number k.number) e.connection offer r k at change cause fits agrees lines))
      (λ k had judged after_it asked is_open agrees. prepared (no_command_step (inputs.Complete (spot at) change cause) (roles_of e.connection) tt) (heard_complete e.connection offer r k at change cause (row_is (inputs.Complete (spot at) change cause) fits asked is_open) agrees))))

  heard_fails : (at : StationChannel) (change : Change) (cause : RrCause) →
      entry_at c (channel_state c (spot at)) ≡ Some e →
      row_of e.connection (inputs.Failure (spot at) change cause) offer ≡ Some r →
      IsReady c e (inputs.Failure (spot at) change cause) r (after frame (says.Fails at change) j)
  heard_fails at change cause taken fits =
      let came = fails_arrives at change frame c j (owner at) in
      let tame = tame_failed at change in
      one_ready (HitAt at j) (failed at change) c j _ tame came fine e (inputs.Failure (spot at) change cause) r
      (λ m differ s k is has hit judged asked agrees after_it. elim (failed_mine c.channels c.links m s k (owns m s is asked) agrees at change) [
        | inl same ↦ subst (Agrees s) (sym same) agrees
        | inr mine ↦ absurd (differs at m s taken differ is mine)
      ])
      (ready_by c _ e.connection.number e.connection (inputs.Failure (spot at) change cause) r there tt (λ k has judged. tt) (λ is. tt)
      (behind (HitAt at j) (failed at change) c j _ tame came e.connection.number (fine.each e.connection.number))
      (follow (HitAt at j) (failed at change) c j _ tame came e.connection.number e.connection (inputs.Failure (spot at) change cause) r there (fine.each e.connection.number)
      (λ k had asked is_open agrees lines. has_channel at k had (failure_on (λ (x : StationChannel). view_at j.channels x ≡ views.Owned e.connection.number k.number) e.connection offer r k at change cause fits agrees lines))
      (λ k had judged after_it asked is_open agrees. prepared (no_command_step (inputs.Failure (spot at) change cause) (roles_of e.connection) tt) (heard_failure e.connection offer r k at change cause (row_is (inputs.Failure (spot at) change cause) fits asked is_open) agrees))))

  heard_releases : (at : StationChannel) →
      entry_at c (channel_state c (spot at)) ≡ Some e →
      row_of e.connection (inputs.ReleaseAck (spot at)) offer ≡ Some r →
      IsReady c e (inputs.ReleaseAck (spot at)) r (after frame (says.Released at) j)
  heard_releases at taken fits =
      let came = released_arrives at frame c j (owner at) (λ m s is asked. apart_of c m s ready is asked) in
      let tame = tame_released at in
      one_ready (HitOld at j) (released at) c j _ tame came fine e (inputs.ReleaseAck (spot at)) r
      (λ m differ s k is has hit judged asked agrees after_it. absurd (differs at m s taken differ is (old_rank_mine c.channels c.links m s k (owns m s is asked) agrees at hit.1)))
      (ready_by c _ e.connection.number e.connection (inputs.ReleaseAck (spot at)) r there tt (λ k has judged. tt) (λ is. tt)
      (behind (HitOld at j) (released at) c j _ tame came e.connection.number (fine.each e.connection.number))
      (follow (HitOld at j) (released at) c j _ tame came e.connection.number e.connection (inputs.ReleaseAck (spot at)) r there (fine.each e.connection.number)
      (λ k had asked is_open agrees lines.
      let old = release_old e.connection offer r k at fits agrees in
      (has_channel at k had (release_on (λ (x : StationChannel). view_at j.channels x ≡ views.Owned e.connection.number k.number) k at old lines), old))
      (λ k had judged after_it asked is_open agrees. prepared (no_command_step (inputs.ReleaseAck (spot at)) (roles_of e.connection) tt) (heard_release_row e.connection offer r k at (row_is (inputs.ReleaseAck (spot at)) fits asked is_open) agrees))))

  heard_transfers : (sapi : Sapi) (message : List ℕ) →
      row_of e.connection (inputs.Downlink sapi message) offer ≡ Some r →
      IsReady c e (inputs.Downlink sapi message) r (after frame (says.Transfers e.connection.number sapi message) j)
  heard_transfers sapi message fits =
      let came = transfers_arrives sapi message frame e.connection.number c j in
      let change : ConnectionState → ConnectionState = sent_down sapi message frame in
      let tame = tame_sent sapi message frame in
      let Own : ℕ → ConnectionState → Type 0 = λ m k. m ≡ e.connection.number in
      one_ready Own change c j _ tame came fine e (inputs.Downlink sapi message) r
      (λ m differ s k is has hit judged asked agrees after_it. absurd (differ hit))
      (ready_by c _ e.connection.number e.connection (inputs.Downlink sapi message) r there tt
      (λ x has judged. (let was = was_hit Own change c j _ tame came e.connection.number x (λ k had. refl) has judged in brings_none sapi message frame was.0 was.1 was.2)) (λ is. tt)
      (behind Own change c j _ tame came e.connection.number (fine.each e.connection.number))
      (follow Own change c j _ tame came e.connection.number e.connection (inputs.Downlink sapi message) r there (fine.each e.connection.number)
      (λ k had asked is_open agrees lines. refl)
      (λ k had judged after_it asked is_open agrees. downlink_follows sapi message frame e.connection offer r k (row_is (inputs.Downlink sapi message) fits asked is_open) (λ reference called. ((fine.each e.connection.number).judged e.connection k there had judged).called reference called) judged after_it asked agrees)))

  heard_confirms : (source : ℕ) →
      row_of e.connection (inputs.ConnectionConfirm source) offer ≡ Some r →
      IsReady c e (inputs.ConnectionConfirm source) r (after frame (says.Confirms e.connection.number source) j)
  heard_confirms source fits =
      let answer = answered e.connection.number source frame j in
      record {
        own = answered_ready c j _ e.connection.number source frame e.connection offer r answer there fits here.valid (λ is_open. used_apart e.connection (owns_of c e.connection.number e.connection ready there is_open).apart) (fine.each e.connection.number);
        others = λ m differ. answered_fine c j _ e.connection.number m source frame answer (λ same. absurd (differ same)) (fine.each m);
        owners = λ at k m number using view. fine.owners at k m number using (ap (λ stations. view_at stations at) (sym (answered_channels e.connection.number source frame j _ answer)) ∙ view);
      }

  heard_refuses : row_of e.connection inputs.ConnectionRefused offer ≡ Some r →
      IsReady c e inputs.ConnectionRefused r (after frame (says.Refuses e.connection.number) j)
  heard_refuses fits =
      let refusal = refused_is e.connection.number frame j in
      record {
        own = refused_ready c j _ e.connection.number e.connection offer r refusal there fits (fine.each e.connection.number);
        others = λ m differ. refused_fine c j _ e.connection.number m refusal (λ same. absurd (differ same)) (fine.each m);
        owners = λ at k m number using view. fine.owners at k m number using (ap (λ stations. view_at stations at) (sym (refused_channels e.connection.number j _ refusal)) ∙ view);
      }

  -- its number is that of the word
  numbered : (m : ℕ) → entry_of c m ≡ Some e → e.connection.number ≡ m
  numbered m taken = found_number m c.entries e taken

  heard_by : {word : Word} {said : Said} (source : ℕ) (input : Input) →
      IsFrom source word →
      Matches word said →
      IsTaken c word e input →
      row_of e.connection input offer ≡ Some r →
      IsReady c e input r (after frame said j)
  heard_by source input from (unheard (words.OnChannel at own) un) taken fits = plain_keep c.links c e input offer r j (subst IsSilentInput taken.1 (silent_on_channel at own from.1 un)) here ready.holds fits fine
  heard_by source input from (unheard (words.OnConnection m own) un) taken fits = plain_keep c.links c e input offer r j (subst IsSilentInput taken.1 (silent_on_connection m own from.1 un)) here ready.holds fits fine
  heard_by source input from (unheard words.Nothing un) taken fits = absurd taken
  heard_by source input from (unheard words.Ping un) taken fits = absurd taken
  heard_by source input from (unheard (words.Asks request delay) un) taken fits = absurd taken
  heard_by source input from (unheard (words.Reports at number report) un) taken fits = absurd taken
  heard_by source input from (establishes at message) taken fits = subst (λ (i : Input). IsReady c e i r (after frame (says.Establishes at message) j)) taken.1 (heard_establishes at message (subst (λ (i : Input). row_of e.connection i offer ≡ Some r) (sym taken.1) fits))
  heard_by source input from (brings at sapi message) taken fits = subst (λ (i : Input). IsReady c e i r (after frame (says.Brings at sapi message) j)) taken.1 (heard_brings at sapi message taken.0 (subst (λ (i : Input). row_of e.connection i offer ≡ Some r) (sym taken.1) fits))
  heard_by source input from (completes at change cause) taken fits = subst (λ (i : Input). IsReady c e i r (after frame (says.Completes at change) j)) taken.1 (heard_completes at change cause taken.0 (subst (λ (i : Input). row_of e.connection i offer ≡ Some r) (sym taken.1) fits))
  heard_by source input from (fails at change cause) taken fits = subst (λ (i : Input). IsReady c e i r (after frame (says.Fails at change) j)) taken.1 (heard_fails at change cause taken.0 (subst (λ (i : Input). row_of e.connection i offer ≡ Some r) (sym taken.1) fits))
  heard_by source input from (releases at) taken fits = subst (λ (i : Input). IsReady c e i r (after frame (says.Released at) j)) taken.1 (heard_releases at taken.0 (subst (λ (i : Input). row_of e.connection i offer ≡ Some r) (sym taken.1) fits))
  heard_by source input from (transfers destination sapi message) taken fits =
      subst (λ (m : ℕ). IsReady c e input r (after frame (says.Transfers m sapi message) j)) (numbered destination taken.0)
      (subst (λ (i : Input). IsReady c e i r (after frame (says.Transfers e.connection.number sapi message) j)) taken.1 (heard_transfers sapi message (subst (λ (i : Input). row_of e.connection i offer ≡ Some r) (sym taken.1) fits)))
  heard_by source input from (confirms destination at_switch) taken fits =
      subst (λ (m : ℕ). IsReady c e input r (after frame (says.Confirms m at_switch) j)) (numbered destination taken.0)
      (subst (λ (i : Input). IsReady c e i r (after frame (says.Confirms e.connection.number at_switch) j)) taken.1 (heard_confirms at_switch (subst (λ (i : Input). row_of e.connection i offer ≡ Some r) (sym taken.1) fits)))
  heard_by source input from (refuses destination) taken fits =
      subst (λ (m : ℕ). IsReady c e input r (after frame (says.Refuses m) j)) (numbered destination taken.0)
      (subst (λ (i : Input). IsReady c e i r (after frame (says.Refuses e.connection.number) j)) taken.1 (heard_refuses (subst (λ (i : Input). row_of e.connection i offer ≡ Some r) (sym taken.1) fits)))

-- the word is one that its link may have (`word_from`)
pub heard_keep : HeardKeep
heard_keep source c frame word said j e input offer r from matches taken fits here ready fine = heard_by c frame j e offer r here ready fine source input from matches taken fits

-- ---- no connection that ends by the frame has a fault

pub ended_fine : (said : Said) (c : Controller) (j : Judging) →
    AreFine c j →
    AllByRecursion IsWithoutFault (option_to_list (ended_by said j))
ended_fine said c j fine = ended_well said j (λ n k has. (fine.each n).well k has)
