-- SPDX-License-Identifier: MIT OR Apache-2.0
-- A row that removes a connection, in the whole judge.
use Rattle.std.proofs.Common.{◌≡◌, ℕ, Bool, List, [], ◌∷◌, Option, Some, None, refl, sym, subst, ap, ◌∙◌, inl}
use Rattle.std.specs.List.{AllByRecursion}
use Rattle.std.specs.Prelude.{map}
use Rattle.conn_messages.specs.declared.channel.Channel.{Channel}
use Rattle.conn_messages.specs.declared.message.Message.{Message}
use Rattle.conn_messages.specs.declared.message.Message.TheVariants.{Station, Data, ReleaseComplete, Request}
use Rattle.conn_rules.specs.declared.input.Input.{Input}
use Rattle.conn_rules.specs.declared.state.State.TheVariants.{Removed}
use Rattle.conn_rules.specs.Putting.{uses_of}
use Rattle.conn_rules.specs.Roles.{ChangesRoles, Ends, channels_in_use, roles_of, to_stations}
use Rattle.conn_rules.specs.Roles.ChangesRoles.{carries_on, ends, had_ended}
use Rattle.conn_rules.specs.Steps.{Row}
use Rattle.conn_rules.specs.Streams.{IsFinal, IsOpen, OfRow}
use Rattle.conn_rules.proofs.Closing.{IsFinal-row}
use Rattle.controller_model.specs.Controller.{Controller, Entry}
use Rattle.controller_model.specs.Life.{by_row}
use Rattle.controller_model.specs.LifeLaws.Acts.{kept_in}
use Rattle.controller_model.proofs.LifeLaws.Words.{decide_same}
use Rattle.run_judge.specs.declared.channels.ChannelView.TheVariants as views
use Rattle.run_judge.specs.declared.connection.Tenure.{Tenure}
use Rattle.run_judge.specs.declared.connection.Unjudged.{Unjudged}
use Rattle.run_judge.specs.declared.said.StationChannel.{StationChannel}
use Rattle.run_judge.specs.Channels.{view_at}
use Rattle.run_judge.specs.Connection.{IsWithoutFault}
use Rattle.run_judge.specs.ConnectionState.{ConnectionState}
use Rattle.run_judge.specs.Judging.{Judging, Numbered, after_all, all_ended}
use Rattle.judge_laws.proofs.Fine.{AreFine}
use Rattle.judge_laws.proofs.HeardFine.{IsReady}
use Rattle.judge_laws.proofs.Law.{AreWell}
use Rattle.judge_laws.proofs.Moving.{IsIdle}
use Rattle.judge_laws.proofs.Naming.{AreLast}
use Rattle.judge_laws.proofs.Over.{IsMild, are_mild}
use Rattle.judge_laws.proofs.RowTold.{row_sapi}
use Rattle.judge_laws.proofs.Well.{Well}
use Rattle.judge_laws.proofs.WholeRows.{open_asked, serving_line}
use Rattle.judge_laws.proofs.WholeRowsBare.{IsRlc, rlc_fair, rlc_walk}
use Rattle.judge_laws.proofs.WholeRowsMessages.{ended_own_to, mine_uses, puts_on}
use Rattle.judge_laws.proofs.WholeRowsNow.{AreMine, RowNow}
use Rattle.judge_laws.proofs.WholeRowsOthers.{Changes}
use Rattle.judge_laws.proofs.WholeRowsOwn.{gone_is_fine}
use Rattle.judge_laws.proofs.WholeRowsPuts.{LastOwn, Lasts, idle, judged, last_fair, last_walk, well_after}
use Rattle.judge_laws.proofs.WholeRowsWhole.{row_kept, whole_fine}
use Rattle.judge_laws.specs.Places.{at_of}
use Rattle.judge_laws.specs.Saying.{said_of}

all_released : (ms : List Message) → AreLast ms → to_stations ms ≡ [] → AllByRecursion IsRlc ms
all_released [] last none = tt
all_released (Station station x ∷ ms) last none = absurd cc
all_released (ReleaseComplete destination ∷ ms) last none = (tt, all_released ms last.1 none)
all_released (Data destination message ∷ ms) last none = absurd last.0
all_released (Request message ∷ ms) last none = absurd last.0

module _ (links : List Bool) (c : Controller) (e : Entry) (input : Input) (offer : Option Channel) (r : Row) (j : Judging) (ns : List Numbered) (now : RowNow links c e input offer r) (mine : AreMine e j) (ready : IsReady c e input r j) (are : map (λ (k : Numbered). k.said) ns ≡ map (said_of e.connection.number) r.outs) (removed : r.next.state ≡ Removed) (last : AreLast r.outs) where
  abbrev Number : ℕ
  Number = e.connection.number

  abbrev Next : Judging
  Next = after_all j ns

  -- what its frames leave, and that what ends by them has no fault
  abbrev IsFairlyGone : Type 0
  IsFairlyGone = Lasts Number r.outs j Next × AllByRecursion IsWithoutFault (all_ended j ns)

  shut : IsOpen r.next.state → ⊥
  shut is_open = subst IsOpen removed is_open

  wells : AreWell j
  wells k x there = decide_same k Number (Well k x)
      (λ same. subst (λ (n : ℕ). Well n x) (sym same) (ready.own.well x (ap j.connections (sym same) ∙ there)))
      (λ differ. (ready.others k differ).well x there)

  mild : AllByRecursion IsMild r.outs
  mild =
      let final = subst (OfRow (IsFinal e.connection)) now.fits (IsFinal-row e.connection input offer) in
      are_mild r.outs (final.relays shut) (final.hands shut) (row_sapi e.connection input offer r now.fits)

  ended_row : (serving : StationChannel) → LastOwn Number serving j → Ends (roles_of e.connection) input r → IsFairlyGone
  ended_row serving own over =
      let to = ended_own_to serving (roles_of e.connection) input r over in
      let on = puts_on links c e input offer r now in
      let uses = mine_uses e j mine in (
        last_walk Number serving ns r.outs (uses_of (channels_in_use e.connection)) j are last mild to on uses own,
        last_fair Number serving ns r.outs (uses_of (channels_in_use e.connection)) j are last mild to on uses own wells,
      )

  -- it was open
  open_row : IsOpen e.connection.state → Ends (roles_of e.connection) input r → IsFairlyGone
  open_row was_open over = by (j.connections Number) refl
    where
      by : (o : Option ConnectionState) → j.connections Number ≡ o → IsFairlyGone
      by None none = ended_row (at_of e.connection.serving) (idle (record { idle = subst IsIdle (sym none) tt; own = λ x there. (ready.own.well x there).is })) over
      by (Some k) there = of k.unjudged refl
        where
          of : (u : Option Unjudged) → k.unjudged ≡ u → IsFairlyGone
          of (Some u) un = ended_row (at_of e.connection.serving) (idle (record { idle = subst IsIdle (sym there) (u, un); own = λ x here. (ready.own.well x here).is })) over
          of None none =
              let asked = open_asked e.connection.state was_open (λ early. (let both : None ≡ Some k = sym (ready.own.unasked early) ∙ there in absurd cc)) in
              let view = serving_line (λ (t : Tenure). view_at j.channels t.at ≡ views.Owned Number k.number) k ((ready.own.judged k there none).owned asked) in
              ended_row k.serving.at (judged k (record { there = there; judged = none; own = (ready.own.well k there).is; view = view })) over

  gone : IsFairlyGone
  gone = by now.owns.changes
    where
      by : ChangesRoles e.connection input offer r → IsFairlyGone
      by (carries_on was_open is_open on) = absurd (shut is_open)
      by (ends was_open is_shut over) = open_row was_open over
      by (had_ended was_shut is_shut nothing) = (
        rlc_walk Number ns r.outs j are (all_released r.outs last nothing),
        rlc_fair Number ns r.outs j are (all_released r.outs last nothing) wells,
      )

  changed : Lasts Number r.outs j Next → Changes Number c.channels r.outs j Next
  changed lasts = record {
    others = lasts.others;
    named = lasts.named;
    own = λ at m number is. inl (sym (lasts.views at) ∙ is);
    views = λ at differ. lasts.views at;
  }

  pub removed_row : AreFine (by_row e r c).next Next × AllByRecursion IsWithoutFault (all_ended j ns)
  removed_row =
      let all = gone in
      let none = row_kept links c e input offer r now ∙ ap (λ state. kept_in state r.next) removed in (
        whole_fine links c e input offer r now j Next ready (changed all.0)
            (gone_is_fine (by_row e r c).next Number Next none now.here.below (λ k there. well_after Number r.outs j Next all.0 wells Number k there)),
        all.1,
      )
