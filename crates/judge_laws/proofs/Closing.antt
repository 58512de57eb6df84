-- SPDX-License-Identifier: MIT OR Apache-2.0
-- A row by which a connection is over: the judge finds no fault in it.
use Rattle.std.proofs.Common.{◌≡◌, ℕ, false, List, [], ◌∷◌, ◌++◌, Option, Some, subst, ap, ◌∙◌}
use Rattle.std.specs.List.{AllByRecursion}
use Rattle.std.specs.Prelude.{map}
use Rattle.bssmap_codec.specs.declared.bssap.Bssap.TheVariants.{Management, Transfer}
use Rattle.bssmap_codec.specs.declared.bssmap.Bssmap.TheVariants as bssmap
use Rattle.conn_messages.specs.declared.channel.Channel.{Channel}
use Rattle.conn_messages.specs.declared.message.Message.{Message}
use Rattle.conn_messages.specs.declared.message.Message.TheVariants.{Station, Data, ReleaseComplete, Request}
use Rattle.conn_messages.specs.SwitchMessage.{clear_complete}
use Rattle.conn_rules.specs.Connection.{Connection}
use Rattle.conn_rules.specs.declared.input.Input.{Input}
use Rattle.conn_rules.specs.declared.state.Clearing.TheVariants.{Due, Asked as WasAsked, Complete}
use Rattle.conn_rules.specs.declared.state.State.{State}
use Rattle.conn_rules.specs.declared.state.State.TheVariants.{Closed, Live, Removed, WaitActivation, WaitConfirm, WaitEstablish}
use Rattle.conn_rules.specs.Steps.{Row}
use Rattle.conn_rules.specs.Streams.{IsFinal, IsOpen, OfRow}
use Rattle.conn_rules.specs.Table.{row_of}
use Rattle.conn_rules.proofs.Closing.{IsFinal-row}
use Rattle.run_judge.specs.ConnectionState.{ConnectionState}
use Rattle.run_judge.specs.Judging.{Numbered}
use Rattle.judge_laws.proofs.Fine.{IsUncleared}
use Rattle.judge_laws.proofs.NamedRows.{named_row}
use Rattle.judge_laws.proofs.Naming.{From, FromNamed, FromWaiting, IsLast, IsNamedRow, IsPlain, IsQuiet}
use Rattle.judge_laws.proofs.Over.{IsMild, IsNoClear, all_cleared, all_mild, are_mild}
use Rattle.judge_laws.proofs.RowTold.{row_sapi}
use Rattle.judge_laws.proofs.Well.{Well}
use Rattle.judge_laws.specs.Agreeing.{tells}
use Rattle.judge_laws.specs.Saying.{said_of}

-- ---- no CLEAR COMPLETE is among them

plain_clear : (k : ℕ) (m : Message) → IsPlain k m → IsNoClear m
plain_clear k (Request message) plain = absurd plain
plain_clear k (Data destination (Management bssmap.ClearComplete)) plain = absurd plain
plain_clear k (Data destination (Management b)) plain = tt
plain_clear k (Data destination (Transfer dlci message)) plain = tt
plain_clear k (ReleaseComplete destination) plain = tt
plain_clear k (Station station message) plain = tt

last_clear : (m : Message) → IsLast m → IsNoClear m
last_clear (Request message) last = absurd last
last_clear (Data destination message) last = absurd last
last_clear (ReleaseComplete destination) last = tt
last_clear (Station station message) last = tt

quiet_clear : (m : Message) → IsQuiet m → IsNoClear m
quiet_clear (Request message) quiet = absurd quiet
quiet_clear (Data destination message) quiet = absurd quiet
quiet_clear (ReleaseComplete destination) quiet = absurd quiet
quiet_clear (Station station message) quiet = tt

all_so : (P : Message → Type 0) (ms : List Message) →
    ((m : Message) → P m → IsNoClear m) →
    AllByRecursion P ms →
    AllByRecursion IsNoClear ms
all_so P [] so all = tt
all_so P (m ∷ ms) so all = (so m all.0, all_so P ms so all.1)

front_mild : (ms : List Message) (m : Message) → AllByRecursion IsMild (ms ++ m ∷ []) → AllByRecursion IsMild ms
front_mild [] m all = tt
front_mild (x ∷ xs) m all = (all.0, front_mild xs m all.1)

-- ---- by what the row puts

-- nothing but what may be applied before CLEAR COMPLETE; or it, last
pub data Parts (put : List Message) (after : State) : Type 0 where
  unclear : AllByRecursion IsNoClear put → Parts put after
  clearing : (first : List Message) (reference : ℕ) →
      put ≡ first ++ clear_complete reference ∷ [] →
      AllByRecursion IsNoClear first →
      (IsUncleared after → ⊥) →
      Parts put after

waiting_parts : (input : Input) (put : List Message) (after : State) → (IsOpen after → ⊥) → FromWaiting input put after → Parts put after
waiting_parts input put (Closed (Due cause)) shut from = unclear (all_so IsQuiet put quiet_clear from)
waiting_parts input put (Closed (WasAsked reference)) shut from = unclear (all_so (IsPlain reference) put (plain_clear reference) from.1)
waiting_parts input put (Closed Complete) shut from = absurd from
waiting_parts input put Removed shut from = unclear (all_so IsLast put last_clear from)
waiting_parts input put WaitConfirm shut from = absurd (shut tt)
waiting_parts input put WaitActivation shut from = absurd from
waiting_parts input put WaitEstablish shut from = absurd from
waiting_parts input put (Live reference stage) shut from = absurd (shut tt)

named_parts : (reference : ℕ) (put : List Message) (after : State) → (IsOpen after → ⊥) → FromNamed reference put after → Parts put after
named_parts reference put (Closed (WasAsked own)) shut from = unclear (all_so (IsPlain reference) put (plain_clear reference) from.1)
named_parts reference put (Closed Complete) shut from = clearing from.first reference from.is (all_so IsQuiet from.first quiet_clear from.quiet) (λ un. un)
named_parts reference put (Closed (Due cause)) shut from = absurd from
named_parts reference put Removed shut from = unclear (all_so IsLast put last_clear from)
named_parts reference put (Live own stage) shut from = absurd (shut tt)
named_parts reference put WaitActivation shut from = absurd from
named_parts reference put WaitEstablish shut from = absurd from
named_parts reference put WaitConfirm shut from = absurd from

-- the switch was asked for it, and CLEAR COMPLETE wasn't put
abbrev pub IsBefore : State → Type 0
IsBefore WaitConfirm = Unit {0}
IsBefore (Live reference stage) = Unit {0}
IsBefore (Closed (Due cause)) = Unit {0}
IsBefore (Closed (WasAsked reference)) = Unit {0}
IsBefore _ = ⊥

parts : (input : Input) (put : List Message) (before after : State) →
    IsBefore before →
    (IsOpen after → ⊥) →
    From input put before after →
    Parts put after
parts input put WaitConfirm after asked shut from = waiting_parts input put after shut from
parts input put (Closed (Due cause)) after asked shut from = waiting_parts input put after shut from
parts input put (Live reference stage) after asked shut from = named_parts reference put after shut from
parts input put (Closed (WasAsked reference)) after asked shut from = named_parts reference put after shut from
parts input put (Closed Complete) after asked shut from = absurd asked
parts input put WaitActivation after asked shut from = absurd asked
parts input put WaitEstablish after asked shut from = absurd asked
parts input put Removed after asked shut from = absurd asked

-- ---- applied

pub record IsOver (n : ℕ) (r : Row) (next : ConnectionState) : Type 0 where
  pub well : Well n next
  pub uncleared : IsUncleared r.next.state → next.is_cleared ≡ false

pub row_over : (m n : ℕ) (ns : List Numbered) (s : Connection) (input : Input) (offer : Option Channel) (r : Row) (c : ConnectionState) →
    map (λ (k : Numbered). k.said) ns ≡ map (said_of n) r.outs →
    row_of s input offer ≡ Some r →
    IsBefore s.state →
    (IsOpen r.next.state → ⊥) →
    Well n c →
    c.is_cleared ≡ false →
    IsOver n r (tells m ns c)
row_over m n ns s input offer r c said fits asked shut well may = by (parts input r.outs s.state r.next.state asked shut (subst (OfRow (IsNamedRow input s.state)) fits (named_row s input offer)))
  where
    final : IsFinal s r
    final = subst (OfRow (IsFinal s)) fits (IsFinal-row s input offer)

    mild : AllByRecursion IsMild r.outs
    mild = are_mild r.outs (final.relays shut) (final.hands shut) (row_sapi s input offer r fits)

    by : Parts r.outs r.next.state → IsOver n r (tells m ns c)
    by (unclear none) =
        let all = all_mild m n ns r.outs c said mild none well may in
        record { well = all.0; uncleared = λ un. all.1 }
    by (clearing first reference is none complete) = record {
      well = all_cleared m n ns first reference c (said ∙ ap (map (said_of n)) is) (front_mild first (clear_complete reference) (subst (AllByRecursion IsMild) is mild)) none well may;
      uncleared = λ un. absurd (complete un);
    }
