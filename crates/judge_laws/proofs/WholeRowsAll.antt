-- SPDX-License-Identifier: MIT OR Apache-2.0
-- Any row of a connection in the whole judge: the row of the CR, and all rows together.
use Rattle.std.proofs.Common.{◌≡◌, ◌≢◌, ◌⊎◌, ℕ, ◌+◌, Bool, fold, List, [], ◌∷◌, ◌++◌, Option, Some, None, refl, sym, subst, ap, ◌∙◌, inl, inr, length, arith}
use Rattle.std.specs.List.{AllByRecursion}
use Rattle.std.specs.Option.{option_to_list}
use Rattle.std.specs.Prelude.{map}
use Rattle.conn_messages.specs.declared.channel.Channel.{Channel}
use Rattle.conn_messages.specs.declared.message.Message.{Message}
use Rattle.conn_messages.specs.SwitchMessage.{complete_layer3}
use Rattle.conn_rules.specs.Connection.{Connection, enter}
use Rattle.conn_rules.specs.declared.input.Input.{Input}
use Rattle.conn_rules.specs.declared.state.Clearing.TheVariants.{Due, Asked as WasAsked, Complete}
use Rattle.conn_rules.specs.declared.state.Stage.TheVariants.{Preparing}
use Rattle.conn_rules.specs.declared.state.State.{State}
use Rattle.conn_rules.specs.declared.state.State.TheVariants.{Closed, Live, Removed, WaitActivation, WaitConfirm, WaitEstablish}
use Rattle.conn_rules.specs.declared.state.Target.{Target}
use Rattle.conn_rules.specs.Roles.{roles_of}
use Rattle.conn_rules.specs.Steps.{Row, row}
use Rattle.conn_rules.specs.Streams.{IsFinal, IsOpen, OfRow}
use Rattle.conn_rules.specs.Validity.{IsBare, IsValidState}
use Rattle.conn_rules.proofs.Closing.{IsFinal-row}
use Rattle.controller_model.specs.Controller.{Controller, Entry, channels_after}
use Rattle.controller_model.specs.Life.{by_row}
use Rattle.controller_model.specs.LifeLaws.Acts.{kept_in}
use Rattle.controller_model.specs.LifeLaws.Owning.{Owns}
use Rattle.run_judge.specs.declared.said.Said.{Said}
use Rattle.run_judge.specs.Connection.{IsWithoutFault}
use Rattle.run_judge.specs.ConnectionState.{ConnectionState}
use Rattle.run_judge.specs.Judging.{Judging, Numbered, after_all, all_ended, ended_by}
use Rattle.judge_laws.proofs.Fine.{AreFine, IsEarly, IsJudged, IsNoCommand, IsPresent, KnowsNone}
use Rattle.judge_laws.proofs.HeardFine.{IsOpening, IsReady, OpensBy}
use Rattle.judge_laws.proofs.NamedRows.{named_row}
use Rattle.judge_laws.proofs.Naming.{AreLast, From, IsNamedRow}
use Rattle.judge_laws.proofs.Well.{Well}
use Rattle.judge_laws.proofs.WholeRows.{kept_row, one_frame, unending}
use Rattle.judge_laws.proofs.WholeRowsAsking.{IsAskingRow, asking_row}
use Rattle.judge_laws.proofs.WholeRowsKinds.{RowKind, asks, keeps, kind_of, removes}
use Rattle.judge_laws.proofs.WholeRowsNow.{AreMine, RowNow}
use Rattle.judge_laws.proofs.WholeRowsOpens.{Opens, opens_row}
use Rattle.judge_laws.proofs.WholeRowsOthers.{Changes}
use Rattle.judge_laws.proofs.WholeRowsOwn.{OwnFine, own_is_fine}
use Rattle.judge_laws.proofs.WholeRowsRemoved.{removed_row}
use Rattle.judge_laws.proofs.WholeRowsWhole.{next_owns, row_kept, whole_fine}
use Rattle.judge_laws.specs.Places.{at_of}
use Rattle.judge_laws.specs.Saying.{said_of}
use Rattle.run_judge.specs.Channels.{view_at}

-- ---- states

removed_or : (state : State) → (state ≡ Removed) ⊎ (state ≢ Removed)
removed_or Removed = inl refl
removed_or WaitActivation = inr (λ same. absurd (let both : WaitActivation ≡ Removed = same in cc))
removed_or WaitEstablish = inr (λ same. absurd (let both : WaitEstablish ≡ Removed = same in cc))
removed_or WaitConfirm = inr (λ same. absurd (let both : WaitConfirm ≡ Removed = same in cc))
removed_or (Live reference stage) = inr (λ same. absurd (let both : Live reference stage ≡ Removed = same in cc))
removed_or (Closed clearing) = inr (λ same. absurd (let both : Closed clearing ≡ Removed = same in cc))

kept_some : (state : State) (s : Connection) → state ≢ Removed → kept_in state s ≡ Some s
kept_some Removed s there = absurd (there refl)
kept_some WaitActivation s there = refl
kept_some WaitEstablish s there = refl
kept_some WaitConfirm s there = refl
kept_some (Live reference stage) s there = refl
kept_some (Closed clearing) s there = refl

removed_last : (input : Input) (put : List Message) (before : State) → From input put before Removed → AreLast put
removed_last input put WaitActivation from = from
removed_last input put WaitEstablish from = from
removed_last input put WaitConfirm from = from
removed_last input put (Live reference stage) from = from
removed_last input put (Closed (Due cause)) from = from
removed_last input put (Closed (WasAsked reference)) from = from
removed_last input put (Closed Complete) from = from
removed_last input put Removed from = absurd from

-- ---- the CR

none_all : (P : List ℕ → Type 0) (xs ys : List (List ℕ)) → length xs + length ys ≡ 0 → AllByRecursion P xs × AllByRecursion P ys
none_all P [] [] none = (tt, tt)
none_all P (x ∷ xs) ys none = absurd (omega arith)
none_all P [] (y ∷ ys) none = absurd (omega arith)

one_unended : (n : ℕ) (ns : List Numbered) (m : Message) (j : Judging) →
    map (λ (k : Numbered). k.said) ns ≡ map (said_of n) (m ∷ []) →
    ended_by (said_of n m) j ≡ None →
    all_ended j ns ≡ []
one_unended n [] m j are none = refl
one_unended n (x ∷ []) m j are none = (let said : x.said ≡ said_of n m = cc in ap (λ (o : Option ConnectionState). option_to_list o ++ []) (ap (λ (s : Said). ended_by s j) said ∙ none))
one_unended n (x ∷ (y ∷ ys)) m j are none = absurd cc

module _ (links : List Bool) (c : Controller) (e : Entry) (input : Input) (offer : Option Channel) (r : Row) (j : Judging) (ns : List Numbered) (now : RowNow links c e input offer r) (mine : AreMine e j) (ready : IsReady c e input r j) (unknown : KnowsNone j) (are : map (λ (k : Numbered). k.said) ns ≡ map (said_of e.connection.number) r.outs) where
  abbrev Number : ℕ
  Number = e.connection.number

  abbrev Next : Judging
  Next = after_all j ns

  abbrev IsFairlyFine : Type 0
  IsFairlyFine = AreFine (by_row e r c).next Next × AllByRecursion IsWithoutFault (all_ended j ns)

  -- of the row's own connection all is fine, and nothing else changes
  by_own : r.next.state ≢ Removed → OwnFine Number r.next Next → Changes Number c.channels r.outs j Next → AreFine (by_row e r c).next Next
  by_own there own changes =
      whole_fine links c e input offer r now j Next ready changes
      (own_is_fine (by_row e r c).next Number r.next Next (row_kept links c e input offer r now ∙ kept_some r.next.state r.next there) now.here.below own)

  opening_row : IsEarly e.connection.state → IsAskingRow e.connection input r → IsFairlyFine
  opening_row early a =
      let s : Connection = e.connection in
      let asking : Row = row (complete_layer3 s.serving a.message ∷ []) (enter WaitConfirm s) in
      let none : j.connections Number ≡ None = ready.own.unasked early in
      let said : map (λ (k : Numbered). k.said) ns ≡ map (said_of Number) (complete_layer3 s.serving a.message ∷ []) = are ∙ ap (λ (q : Row). map (said_of Number) q.outs) a.is in
      let opening : IsOpening a.message (view_at j.channels (at_of s.serving)) = subst (λ (x : Input). OpensBy x (view_at j.channels (at_of s.serving))) a.by_input (ready.own.opens a.state) in
      let is_open : IsOpen r.next.state = subst (λ (q : Row). IsOpen q.next.state) (sym a.is) tt in
      let used = subst (λ (q : Row). Owns (fold (channels_after Number) c.channels q.outs) links Number (roles_of q.next)) a.is (next_owns links c e input offer r now is_open) in
      let opens : Opens Number s c.channels a.message (record { 0 = s.serving.cell }) j Next = one_frame Number ns (complete_layer3 s.serving a.message) j (Opens Number s c.channels a.message (record { 0 = s.serving.cell }) j) said
      (λ frame. opens_row Number frame s c.channels a.message (record { 0 = s.serving.cell }) j a.state now.here.valid none opening used.using.0) in
      let bare : IsBare s.draining s.down s.up.tenures s.waits = (subst (λ (state : State). IsValidState state s.draining s.down s.up.tenures s.link s.waits) a.state now.here.valid.state).0 in
      let ended : all_ended j ns ≡ [] = one_unended Number ns (complete_layer3 s.serving a.message) j said none in (
        by_own (λ gone. subst (λ (q : Row). q.next.state ≡ Removed → ⊥) (sym a.is) waits gone)
            (subst (λ (q : Row). OwnFine Number q.next Next) (sym a.is) (opened (enter WaitConfirm s) refl opens (none_all IsNoCommand s.down.zero s.down.three bare.none_handed)))
            (subst (λ (q : Row). Changes Number c.channels q.outs j Next) (sym a.is) opens.changes),
        subst (AllByRecursion IsWithoutFault) (sym ended) tt,
      )
    where
      waits : WaitConfirm ≡ Removed → ⊥
      waits same = absurd cc

      opened : (t : Connection) →
          t ≡ enter WaitConfirm e.connection →
          Opens Number e.connection c.channels a.message (record { 0 = e.connection.serving.cell }) j Next →
          AllByRecursion IsNoCommand e.connection.down.zero × AllByRecursion IsNoCommand e.connection.down.three →
          OwnFine Number (enter WaitConfirm e.connection) Next
      opened t same opens plain = record {
        unasked = λ early. absurd early;
        well = λ k there. subst (Well Number) (one opens.k k (sym opens.there ∙ there)) opens.well;
        judged = λ k there none. subst (λ (x : ConnectionState). IsJudged Number (enter WaitConfirm e.connection) x Next) (one opens.k k (sym opens.there ∙ there)) (of (ap (λ (x : ConnectionState). x.unjudged) (one opens.k k (sym opens.there ∙ there)) ∙ none));
        named = λ reference called. absurd called;
        unconfirmed = λ k un there. subst (λ (x : ConnectionState). x.switch ≡ None) (one opens.k k (sym opens.there ∙ there)) opens.unconfirmed;
        present = λ un. subst IsPresent (sym opens.there) tt;
        access = λ early. absurd early;
        offered = λ reference target state change. absurd (never reference target state);
        assigned = λ reference target state change. absurd (never reference target state);
      }
        where
          one : (x y : ConnectionState) → (let o : Option ConnectionState = Some x in o) ≡ Some y → x ≡ y
          one x y is = cc

          never : (reference : ℕ) (target : Target) → WaitConfirm ≡ Live reference (Preparing target) → ⊥
          never reference target is = absurd cc

          of : opens.k.unjudged ≡ None → IsJudged Number (enter WaitConfirm e.connection) opens.k Next
          of none = (let is = opens.judged none in record { agrees = λ asked. is.0; owned = λ asked. is.1; uncleared = λ un. opens.uncleared; called = λ reference called. absurd called; commandless = plain })

  -- ---- any row

  there_row : r.next.state ≢ Removed → IsFairlyFine
  there_row there = by (kind_of input r.outs e.connection.state r.next.state (subst (OfRow (IsFinal e.connection)) now.fits (IsFinal-row e.connection input offer)).remains_closed (subst (OfRow (IsNamedRow input e.connection.state)) now.fits (named_row e.connection input offer)))
    where
      by : RowKind input r.outs e.connection.state r.next.state → IsFairlyFine
      by (asks early waits asking) = opening_row early (asking_row e.connection input offer r now.fits early waits)
      by (removes removed last) = absurd (there removed)
      by (keeps directs leads) =
          let all = kept_row links c e input offer r j ns now mine ready unknown are directs leads in
          (by_own there all.0 all.1, subst (AllByRecursion IsWithoutFault) (sym (unending links c e input offer r j ns now mine ready unknown are directs)) tt)

  pub row_keeps : IsFairlyFine
  row_keeps = elim (removed_or r.next.state) [
    | inl removed ↦ removed_row links c e input offer r j ns now mine ready are removed
        (removed_last input r.outs e.connection.state (subst (From input r.outs e.connection.state) removed (subst (OfRow (IsNamedRow input e.connection.state)) now.fits (named_row e.connection input offer))))
    | inr there ↦ there_row there
  ]

-- what a row's frames say keeps all that holds, and no connection that ends by them has a fault
pub rows_keep : (links : List Bool) (c : Controller) (e : Entry) (input : Input) (offer : Option Channel) (r : Row) (j : Judging) (ns : List Numbered) →
    KnowsNone j →
    RowNow links c e input offer r →
    AreMine e j →
    IsReady c e input r j →
    map (λ (k : Numbered). k.said) ns ≡ map (said_of e.connection.number) r.outs →
    AreFine (by_row e r c).next (after_all j ns) × AllByRecursion IsWithoutFault (all_ended j ns)
rows_keep links c e input offer r j ns unknown now mine ready are = row_keeps links c e input offer r j ns now mine ready unknown are
