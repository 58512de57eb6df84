-- SPDX-License-Identifier: MIT OR Apache-2.0
-- The invariant of a connection, which holds after any inputs.
use Rattle.std.specs.Prelude.{◌≡◌, ℕ, ◌+◌, ◌≤◌, ◌<◌, Bool, true, false, List}
use Rattle.std.specs.Prelude.{[], ◌∷◌, length, Some}
use Rattle.std.specs.List.{AllByRecursion}
use Rattle.conn_rules.specs.declared.limits.TheConstants.{DOWN_LIMIT, DRAIN_LIMIT, UP_LIMIT}
use Rattle.conn_rules.specs.declared.input.Input.{Input}
use Rattle.conn_rules.specs.declared.input.Input.TheVariants.{EstablishIndication, Dtap, Downlink}
use Rattle.conn_rules.specs.declared.state.Drain.{Drain}
use Rattle.conn_rules.specs.declared.state.ShortMessageLink.{ShortMessageLink}
use Rattle.conn_rules.specs.declared.state.ShortMessageLink.TheVariants.{Down, Asked}
use Rattle.conn_rules.specs.declared.state.Stage.{Stage}
use Rattle.conn_rules.specs.declared.state.Stage.TheVariants.{Active, Preparing, Changing, Draining}
use Rattle.conn_rules.specs.declared.state.State.{State}
use Rattle.conn_rules.specs.declared.state.State.TheVariants.{WaitActivation, WaitEstablish}
use Rattle.conn_rules.specs.declared.state.State.TheVariants.{WaitConfirm, Live, Closed, Removed}
use Rattle.conn_rules.specs.Connection.{Connection}
use Rattle.bssmap_codec.specs.Layer3.{IsLayer3}
use Rattle.hold_queue.specs.ChainState.{TenureHold, empty_tenure, chain_count}
use Rattle.hold_queue.specs.HoldState.{HoldState, count}

-- ---- messages have 1 to 251 octets

abbrev pub IsCarried : Input → Type 0
IsCarried (EstablishIndication at sapi (Some message)) = IsLayer3 message
IsCarried (Dtap at sapi message) = IsLayer3 message
IsCarried (Downlink sapi message) = IsLayer3 message
IsCarried _ = Unit {0}

abbrev pub IsHeldTenure : TenureHold → Type 0
IsHeldTenure tenure = AllByRecursion IsLayer3 tenure.zero × AllByRecursion IsLayer3 tenure.three

-- ---- the parts

-- the first tenure has no message, as messages on its channel are relayed at once
abbrev pub FirstIsEmpty : List TenureHold → Type 0
FirstIsEmpty [] = ⊥
FirstIsEmpty (first ∷ rest) = first ≡ empty_tenure

-- the oldest old channel isn't done, as a channel leaves once it is the oldest and done
abbrev pub OldestDrains : List Drain → Type 0
OldestDrains [] = Unit {0}
OldestDrains (d ∷ ds) = d.is_done ≡ false

-- messages of SAPI 3 are held only while the link of SAPI 3 is asked for
abbrev pub IsAskedFor : ShortMessageLink → List (List ℕ) → Type 0
IsAskedFor Asked three = Unit {0}
IsAskedFor _ three = three ≡ []

-- what each stage allows: how many old channels, which held messages of the switch, and whether a
-- request may wait
abbrev pub IsValidStage : Stage → List Drain → HoldState → ShortMessageLink → Bool
    → Type 0
IsValidStage Active draining down link waits =
    (draining ≡ []) × (down.zero ≡ []) × IsAskedFor link down.three × (waits ≡ false)
IsValidStage (Preparing target) draining down link waits =
    (length draining < DRAIN_LIMIT) × (down.zero ≡ []) × IsAskedFor link down.three
IsValidStage (Changing target) draining down link waits =
    (length draining < DRAIN_LIMIT) × (link ≡ Down)
IsValidStage Draining draining down link waits =
    (1 ≤ length draining) × (length draining ≤ DRAIN_LIMIT) × (down.zero ≡ [])
    × IsAskedFor link down.three × (waits ≡ true → length draining ≡ DRAIN_LIMIT)

-- no message is held, no channel drains, and no request waits
pub record IsBare (draining : List Drain) (down : HoldState) (tenures : List TenureHold)
    (waits : Bool) : Type 0 where
  pub none_drains : draining ≡ []
  pub none_handed : count down ≡ 0
  pub one_tenure : tenures ≡ empty_tenure ∷ []
  pub none_waits : waits ≡ false

-- before the switch confirms the connection: only messages of the mobile may be held, no channel
-- drains, and no request waits
pub record Awaits (draining : List Drain) (down : HoldState) (tenures : List TenureHold)
    (link : ShortMessageLink) (waits : Bool) : Type 0 where
  pub none_drains : draining ≡ []
  pub none_handed : count down ≡ 0
  pub one_tenure : length tenures ≡ 1
  pub down_link : link ≡ Down
  pub none_waits : waits ≡ false

pub record IsLive (stage : Stage) (draining : List Drain) (down : HoldState)
    (tenures : List TenureHold) (link : ShortMessageLink) (waits : Bool) : Type 0 where
  pub a_tenure_each : length tenures ≡ length draining + 1
  pub first : FirstIsEmpty tenures
  pub oldest : OldestDrains draining
  pub valid : IsValidStage stage draining down link waits

abbrev pub IsValidState : State → List Drain → HoldState → List TenureHold → ShortMessageLink
    → Bool → Type 0
IsValidState WaitActivation draining down tenures link waits =
    IsBare draining down tenures waits × (link ≡ Down)
IsValidState WaitEstablish draining down tenures link waits =
    IsBare draining down tenures waits × (link ≡ Down)
IsValidState WaitConfirm draining down tenures link waits = Awaits draining down tenures link waits
IsValidState (Live reference stage) draining down tenures link waits =
    IsLive stage draining down tenures link waits
IsValidState (Closed clearing) draining down tenures link waits = IsBare draining down tenures waits
IsValidState Removed draining down tenures link waits = IsBare draining down tenures waits

-- the drain time is 0 if no channel drains
abbrev pub DrainTime : List Drain → ℕ → Type 0
DrainTime [] drained = drained ≡ 0
DrainTime (d ∷ ds) drained = Unit {0}

pub record IsValid (s : Connection) : Type 0 where
  pub state : IsValidState s.state s.draining s.down s.up.tenures s.link s.waits
  pub down_limit : s.down.limit ≡ DOWN_LIMIT
  pub up_limit : s.up.limit ≡ UP_LIMIT
  pub down_within : count s.down ≤ DOWN_LIMIT
  pub up_within : chain_count s.up ≤ UP_LIMIT
  pub down_zero : AllByRecursion IsLayer3 s.down.zero
  pub down_three : AllByRecursion IsLayer3 s.down.three
  pub up_messages : AllByRecursion IsHeldTenure s.up.tenures
  pub drain_time : DrainTime s.draining s.drained
