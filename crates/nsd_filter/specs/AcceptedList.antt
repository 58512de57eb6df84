-- SPDX-License-Identifier: MIT OR Apache-2.0
-- The messages of a connection that the network passes to its upper layers, in the order in which
-- they arrive.
use Rattle.std.specs.Prelude.{ℕ, Option, Some, None, option_map, List, [], ◌∷◌, ◌++◌}
use Rattle.std.specs.Prelude.{filter, not}
use Rattle.dtap_codec.specs.Message.{is_flow_message}
use Rattle.dtap_codec.specs.Number.{number_in, without_number}
use Rattle.nsd_filter.specs.Judgement.{judgement, progress_by}
use Rattle.nsd_filter.specs.declared.verdict.Verdict.{Verdict}
use Rattle.nsd_filter.specs.declared.verdict.Verdict.TheVariants.{Accept, Duplicate, Gap}

-- the verdict on a message; `None` if the message isn't of the flow
abbrev pub verdict_on : ℕ → Option ℕ → List ℕ → Option Verdict
verdict_on m progress message = option_map (judgement m progress) (number_in m message)

-- a list of the message if the verdict is `Accept`, else the empty list
abbrev pub delivery_by : Verdict → List ℕ → List (List ℕ)
delivery_by Accept message = message ∷ []
delivery_by Duplicate message = []
delivery_by Gap message = []

-- a list of the message with its number cleared if the verdict is `Accept`, else the empty list
abbrev pub delivery_of : Option Verdict → List ℕ → List (List ℕ)
delivery_of (Some verdict) message = delivery_by verdict (without_number message)
delivery_of None message = []

abbrev pub progress_past : Option Verdict → Option ℕ → Option ℕ
progress_past (Some verdict) progress = progress_by verdict progress
progress_past None progress = progress

-- the messages among these that are accepted in a flow with this progress
abbrev pub accepted_list_from : ℕ → Option ℕ → List (List ℕ) → List (List ℕ)
accepted_list_from m progress [] = []
accepted_list_from m progress (message ∷ messages) =
    delivery_of (verdict_on m progress message) message
    ++ accepted_list_from m (progress_past (verdict_on m progress message) progress) messages

-- the progress of the flow after these messages, if it had this progress before
abbrev pub progress_from : ℕ → Option ℕ → List (List ℕ) → Option ℕ
progress_from m progress [] = progress
progress_from m progress (message ∷ messages) =
    progress_from m (progress_past (verdict_on m progress message) progress) messages

-- the accepted list: the accepted messages among all messages of a connection
abbrev pub accepted_list : ℕ → List (List ℕ) → List (List ℕ)
accepted_list m messages = accepted_list_from m (Some 0) messages

-- the progress of the flow after all messages of a connection; `None` if a gap was found
abbrev pub progress : ℕ → List (List ℕ) → Option ℕ
progress m messages = progress_from m (Some 0) messages

-- the messages among these that carry no number
abbrev pub not_of_the_flow : List (List ℕ) → List (List ℕ)
not_of_the_flow messages = filter (λ message. not (is_flow_message message)) messages
