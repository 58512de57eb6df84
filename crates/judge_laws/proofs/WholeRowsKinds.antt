-- SPDX-License-Identifier: MIT OR Apache-2.0
-- The kinds of rows, by their messages to the switch and by the state after them.
use Rattle.std.proofs.Common.{◌≡◌, ℕ, List, [], ◌∷◌, ◌++◌, refl, sym, subst, ◌∙◌}
use Rattle.std.specs.List.{AllByRecursion}
use Rattle.bssmap_codec.specs.declared.bssap.Bssap.TheVariants.{Management, Transfer}
use Rattle.bssmap_codec.specs.declared.bssmap.Bssmap.TheVariants as bssmap
use Rattle.conn_messages.specs.declared.message.Message.{Message}
use Rattle.conn_messages.specs.declared.message.Message.TheVariants.{Station, Data, ReleaseComplete, Request}
use Rattle.conn_messages.specs.SwitchMessage.{clear_complete}
use Rattle.conn_rules.specs.declared.input.Input.{Input}
use Rattle.conn_rules.specs.declared.input.Input.TheVariants as inputs
use Rattle.conn_rules.specs.declared.state.Clearing.TheVariants.{Due, Asked as WasAsked, Complete}
use Rattle.conn_rules.specs.declared.state.State.{State}
use Rattle.conn_rules.specs.declared.state.State.TheVariants.{Closed, Live, Removed, WaitActivation, WaitConfirm, WaitEstablish}
use Rattle.conn_rules.specs.Streams.{IsOpen}
use Rattle.judge_laws.proofs.Fine.{IsCalled, IsEarly, IsUncleared, IsUnconfirmed}
use Rattle.judge_laws.proofs.HeardFine.{IsCalledBy}
use Rattle.judge_laws.proofs.Naming.{AreLast, ArePlain, AreQuiet, From, FromCleared, FromEarly, FromNamed, FromWaiting, IsAsking, IsPlain}
use Rattle.judge_laws.proofs.WholeRowsPuts.{IsNoEnd}
use Rattle.judge_laws.specs.Agreeing.{IsAsked}

-- ---- what goes to the switch is DT1 with its own reference

abbrev pub IsDirected : ℕ → Message → Type 0
IsDirected reference (Data destination message) = destination ≡ reference
IsDirected reference (Station station message) = Unit {0}
IsDirected reference _ = ⊥

pub data Directs (input : Input) (put : List Message) (before : State) : Type 0 where
  quiet : AreQuiet put → Directs input put before
  names : (reference : ℕ) → IsCalledBy input reference before → AllByRecursion (IsDirected reference) put → Directs input put before

plain_directed : (reference : ℕ) (m : Message) → IsPlain reference m → IsDirected reference m
plain_directed reference (Request message) plain = absurd plain
plain_directed reference (ReleaseComplete destination) plain = absurd plain
plain_directed reference (Station station message) plain = tt
plain_directed reference (Data destination (Transfer dlci message)) plain = plain
plain_directed reference (Data destination (Management bssmap.ClearComplete)) plain = absurd plain
plain_directed reference (Data destination (Management (bssmap.CompleteLayer3Information cell initial))) plain = absurd plain
plain_directed reference (Data destination (Management b)) plain = plain

all_plain : (reference : ℕ) (ms : List Message) → ArePlain reference ms → AllByRecursion (IsDirected reference) ms
all_plain reference [] plain = tt
all_plain reference (m ∷ ms) plain = (plain_directed reference m plain.0, all_plain reference ms plain.1)

all_clearing : (reference : ℕ) (ms : List Message) →
    AreQuiet ms →
    AllByRecursion (IsDirected reference) (ms ++ clear_complete reference ∷ [])
all_clearing reference [] still = (refl, tt)
all_clearing reference (Station station message ∷ ms) still = (tt, all_clearing reference ms still.1)
all_clearing reference (Request message ∷ ms) still = absurd still.0
all_clearing reference (Data destination message ∷ ms) still = absurd still.0
all_clearing reference (ReleaseComplete destination ∷ ms) still = absurd still.0

pub directed_unending : (reference : ℕ) (ms : List Message) → AllByRecursion (IsDirected reference) ms → AllByRecursion IsNoEnd ms
directed_unending reference [] all = tt
directed_unending reference (Station station message ∷ ms) all = (tt, directed_unending reference ms all.1)
directed_unending reference (Data destination message ∷ ms) all = (tt, directed_unending reference ms all.1)
directed_unending reference (Request message ∷ ms) all = absurd all.0
directed_unending reference (ReleaseComplete destination ∷ ms) all = absurd all.0

pub quiet_unending : (ms : List Message) → AreQuiet ms → AllByRecursion IsNoEnd ms
quiet_unending [] all = tt
quiet_unending (Station station message ∷ ms) all = (tt, quiet_unending ms all.1)
quiet_unending (Data destination message ∷ ms) all = absurd all.0
quiet_unending (Request message ∷ ms) all = absurd all.0
quiet_unending (ReleaseComplete destination ∷ ms) all = absurd all.0

-- ---- where it leads

-- what holds before it, by what holds behind it
pub record Leads (input : Input) (before after : State) : Type 0 where
  pub early : IsEarly after → IsEarly before
  pub asked : IsAsked after → IsAsked before
  pub unconfirmed : IsUnconfirmed after → IsUnconfirmed before
  pub called : (reference : ℕ) → IsCalled reference after → IsCalledBy input reference before
  pub uncleared : IsUncleared after → IsUncleared before

pub data RowKind (input : Input) (put : List Message) (before after : State) : Type 0 where
  -- CR
  asks : IsEarly before → after ≡ WaitConfirm → IsAsking put → RowKind input put before after
  removes : after ≡ Removed → AreLast put → RowKind input put before after
  keeps : Directs input put before → Leads input before after → RowKind input put before after

module _ (input : Input) (put : List Message) where
  from_early : (before after : State) → IsEarly before → (IsUncleared before) → FromEarly put after → RowKind input put before after
  from_early before WaitActivation early un from = keeps (quiet from) (record { early = λ is. early; asked = λ is. absurd is; unconfirmed = λ is. absurd is; called = λ reference is. absurd is; uncleared = λ is. un })
  from_early before WaitEstablish early un from = keeps (quiet from) (record { early = λ is. early; asked = λ is. absurd is; unconfirmed = λ is. absurd is; called = λ reference is. absurd is; uncleared = λ is. un })
  from_early before WaitConfirm early un from = asks early refl from
  from_early before Removed early un from = removes refl from
  from_early before (Live reference stage) early un from = absurd from
  from_early before (Closed clearing) early un from = absurd from

  -- the switch is asked, and hasn't answered
  from_waiting : (before after : State) →
      (IsOpen after → IsAsked before) →
      IsUnconfirmed before →
      IsUncleared before →
      ((reference : ℕ) → input ≡ inputs.ConnectionConfirm reference → IsCalledBy input reference before) →
      FromWaiting input put after →
      RowKind input put before after
  from_waiting before WaitConfirm asked waits un called from = keeps (quiet from) (record { early = λ is. absurd is; asked = λ is. asked tt; unconfirmed = λ is. waits; called = λ reference is. absurd is; uncleared = λ is. un })
  from_waiting before (Closed (Due cause)) asked waits un called from = keeps (quiet from) (record { early = λ is. absurd is; asked = λ is. absurd is; unconfirmed = λ is. waits; called = λ reference is. absurd is; uncleared = λ is. un })
  from_waiting before Removed asked waits un called from = removes refl from
  from_waiting before (Live reference stage) asked waits un called from =
      keeps (names reference (called reference from.0) (all_plain reference put from.1)) (record { early = λ is. absurd is; asked = λ is. asked tt; unconfirmed = λ is. absurd is; called = λ k is. subst (λ (x : ℕ). IsCalledBy input x before) is (called reference from.0); uncleared = λ is. un })
  from_waiting before (Closed (WasAsked reference)) asked waits un called from =
      keeps (names reference (called reference from.0) (all_plain reference put from.1)) (record { early = λ is. absurd is; asked = λ is. absurd is; unconfirmed = λ is. absurd is; called = λ k is. subst (λ (x : ℕ). IsCalledBy input x before) is (called reference from.0); uncleared = λ is. un })
  from_waiting before (Closed Complete) asked waits un called from = absurd from
  from_waiting before WaitActivation asked waits un called from = absurd from
  from_waiting before WaitEstablish asked waits un called from = absurd from

  from_named : (before after : State) (reference : ℕ) →
      (IsOpen after → IsAsked before) →
      IsUncleared before →
      IsCalledBy input reference before →
      FromNamed reference put after →
      RowKind input put before after
  from_named before (Live own stage) reference asked un called from =
      keeps (names reference called (all_plain reference put from.1)) (record { early = λ is. absurd is; asked = λ is. asked tt; unconfirmed = λ is. absurd is; called = λ k is. subst (λ (x : ℕ). IsCalledBy input x before) (sym from.0 ∙ is) called; uncleared = λ is. un })
  from_named before (Closed (WasAsked own)) reference asked un called from =
      keeps (names reference called (all_plain reference put from.1)) (record { early = λ is. absurd is; asked = λ is. absurd is; unconfirmed = λ is. absurd is; called = λ k is. subst (λ (x : ℕ). IsCalledBy input x before) (sym from.0 ∙ is) called; uncleared = λ is. un })
  from_named before (Closed Complete) reference asked un called from =
      keeps (names reference called (subst (AllByRecursion (IsDirected reference)) (sym from.is) (all_clearing reference from.first from.quiet))) (record { early = λ is. absurd is; asked = λ is. absurd is; unconfirmed = λ is. absurd is; called = λ k is. absurd is; uncleared = λ is. un })
  from_named before Removed reference asked un called from = removes refl from
  from_named before (Closed (Due cause)) reference asked un called from = absurd from
  from_named before WaitActivation reference asked un called from = absurd from
  from_named before WaitEstablish reference asked un called from = absurd from
  from_named before WaitConfirm reference asked un called from = absurd from

  from_cleared : (after : State) → FromCleared put after → RowKind input put (Closed Complete) after
  from_cleared (Closed Complete) from = keeps (quiet from) (record { early = λ is. absurd is; asked = λ is. absurd is; unconfirmed = λ is. absurd is; called = λ reference is. absurd is; uncleared = λ is. is })
  from_cleared Removed from = removes refl from
  from_cleared (Closed (Due cause)) from = absurd from
  from_cleared (Closed (WasAsked reference)) from = absurd from
  from_cleared (Live reference stage) from = absurd from
  from_cleared WaitActivation from = absurd from
  from_cleared WaitEstablish from = absurd from
  from_cleared WaitConfirm from = absurd from

  pub kind_of : (before after : State) →
      ((IsOpen before → ⊥) → IsOpen after → ⊥) →
      From input put before after →
      RowKind input put before after
  kind_of WaitActivation after final from = from_early WaitActivation after tt tt from
  kind_of WaitEstablish after final from = from_early WaitEstablish after tt tt from
  kind_of WaitConfirm after final from = from_waiting WaitConfirm after (λ is_open. tt) tt tt (λ reference is. is) from
  kind_of (Closed (Due cause)) after final from = from_waiting (Closed (Due cause)) after (λ is_open. absurd (final (λ was. was) is_open)) tt tt (λ reference is. is) from
  kind_of (Live reference stage) after final from = from_named (Live reference stage) after reference (λ is_open. tt) tt refl from
  kind_of (Closed (WasAsked reference)) after final from = from_named (Closed (WasAsked reference)) after reference (λ is_open. absurd (final (λ was. was) is_open)) tt refl from
  kind_of (Closed Complete) after final from = from_cleared after from
  kind_of Removed after final from = absurd from
