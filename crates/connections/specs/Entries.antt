-- SPDX-License-Identifier: MIT OR Apache-2.0
-- The connections of a controller, and the properties that the connections have in every state.
use Rattle.std.specs.Prelude.{◌≡◌, ℕ, ◌+◌, ◌≤◌, ◌<◌, Bool, true, false, List}
use Rattle.std.specs.Prelude.{[], ◌∷◌, find, length, slice_get, Option, Some, None}
use Rattle.std.specs.List.{AllByRecursion}
use Rattle.std.specs.Option.{option_to_list}
use Rattle.conn_messages.specs.declared.channel.Channel.{Channel}
use Rattle.conn_rules.specs.declared.state.State.{State}
use Rattle.conn_rules.specs.declared.state.State.TheVariants.{Removed}
use Rattle.conn_rules.specs.Streams.{target_in}
use Rattle.controller_model.specs.Controller.{Entry, has_number}
use Rattle.controller_model.specs.Life.{with_report}
use Rattle.controller_model.specs.Reports.{decision_over}
use Rattle.dtap_codec.specs.declared.report.Report.{Report}
use Rattle.ho_decision.specs.declared.decision.Decision.{Decision}
use Rattle.ho_decision.specs.declared.decision.Decision.TheVariants.{Stay}
use Rattle.ho_decision.specs.Settings.{Settings as HandoverSettings}
use Rattle.ho_decision.specs.State.{IsCompared}
use Rattle.settings.specs.Parameters.{Parameters, handover_settings_of}

-- settings, and the connections by rising number
pub record ConnectionsState : Type 0 where
  pub settings : Parameters
  pub entries : List Entry

-- ---- what holds of the connections

-- the number of a cell's station, from 1 on
abbrev pub IsStation : Parameters → ℕ → Type 0
IsStation p station = (1 ≤ station) × (station ≤ length p.cells)

abbrev pub IsOfCell : Parameters → Channel → Type 0
IsOfCell p channel = IsStation p channel.station

-- the offered channel, if there is one, is a channel of a cell
abbrev pub IsOffer : Parameters → Option Channel → Type 0
IsOffer p offer = AllByRecursion (IsOfCell p) (option_to_list offer)

-- the serving channel and the target are channels of cells, and the averages have the settings of
-- the serving channel's cell
pub record IsKept (p : Parameters) (e : Entry) : Type 0 where
  pub serving : IsOfCell p e.connection.serving
  pub target : AllByRecursion (IsOfCell p) (target_in e.connection.state)
  pub averages : e.averages.settings ≡ handover_settings_of p e.connection.serving.station

abbrev pub IsBelow : ℕ → Entry → Type 0
IsBelow number e = e.connection.number < number

abbrev pub IsAbove : ℕ → Entry → Type 0
IsAbove number e = number < e.connection.number

-- the numbers rise, so no number occurs twice
abbrev pub AreRising : List Entry → Type 0
AreRising [] = Unit {0}
AreRising (e ∷ es) = AllByRecursion (IsAbove e.connection.number) es × AreRising es

pub record AreKept (p : Parameters) (es : List Entry) : Type 0 where
  pub each : AllByRecursion (IsKept p) es
  pub rising : AreRising es

-- the settings of the handover decision for the first cells
abbrev pub AreOfFirst : Parameters → List HandoverSettings → Type 0
AreOfFirst p handovers = (place : ℕ) → place < length handovers →
    slice_get handovers place ≡ Some (handover_settings_of p (place + 1))

-- the settings of the handover decision for each cell
pub record AreHandovers (p : Parameters) (handovers : List HandoverSettings) : Type 0 where
  pub count : length handovers ≡ length p.cells
  pub each : AreOfFirst p handovers

-- the connection with this number; None if there is no such connection
abbrev pub entry_in : ℕ → List Entry → Option Entry
entry_in number es = find (has_number number) es

abbrev pub is_removed : State → Bool
is_removed Removed = true
is_removed state = false

-- ---- the handover decision

-- the decision over the reports of a connection; the last report has the number of the averages
abbrev pub decision_over_all : Entry → Decision
decision_over_all e = decision_over e.averages.settings e.averages.reports e.averages.number

-- the decision after this report is added; Stay if there is no connection
abbrev pub decision_with : ℕ → Report → Option Entry → Decision
decision_with number report None = Stay
decision_with number report (Some e) = decision_over_all (with_report number report e)

-- the connection exists, and levels are compared after this report is added
abbrev pub ComparesWith : ℕ → Report → Option Entry → Type 0
ComparesWith number report None = ⊥
ComparesWith number report (Some e) = IsCompared e.averages report number
