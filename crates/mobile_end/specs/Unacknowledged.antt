-- SPDX-License-Identifier: MIT OR Apache-2.0
-- The message that a mobile sends again: the unacknowledged message (TS 44.006 clause 5.4.3).
use Rattle.std.specs.Prelude.{ℕ, ◌+◌, ◌≤◌, List, [], ◌∷◌, ◌++◌}
use Rattle.std.specs.Prelude.{option_to_list, if◌then◌else◌}
use Rattle.dtap_codec.specs.declared.sapi.Sapi.TheVariants.{Zero}
use Rattle.link_model.specs.AirLink.{message_in}
use Rattle.mobile_end.specs.Calls.{Call, after_call, begins}
use Rattle.mobile_end.specs.Calls.Call.{acknowledges}
use Rattle.mobile_end.specs.Mobile.{is_acknowledged}
use Rattle.mobile_end.specs.MobileState.{MobileState}
use Rattle.mobile_end.specs.OneRepeat.{IsSlice}

-- the message that a call acknowledges on SAPI 0: the message in the air, if the station took that
-- message
abbrev pub acknowledged_by_call : MobileState → Call → List (List ℕ)
acknowledged_by_call mobile (acknowledges Zero) =
    if is_acknowledged mobile Zero then option_to_list (message_in mobile.zero.air) else []
acknowledged_by_call mobile _ = []

-- The messages acknowledged on SAPI 0 during these calls, one list for each establishment. The
-- first list begins with `so_far`: the messages that were acknowledged in the first establishment
-- before these calls.
abbrev pub acknowledgements : MobileState → List (List ℕ) → List Call → List (List (List ℕ))
acknowledgements mobile so_far [] = so_far ∷ []
acknowledgements mobile so_far (call ∷ calls) =
    if begins mobile call
    then so_far ∷ acknowledgements (after_call mobile call) [] calls
    else acknowledgements (after_call mobile call)
    (so_far ++ acknowledged_by_call mobile call) calls

-- For each establishment, the messages taken and the messages acknowledged are slices of the sent
-- list that begin at the same place. All messages of the flow that were taken are acknowledged,
-- except at most the last one. The next establishment begins after the acknowledged messages; if a
-- message that was taken isn't acknowledged, it begins with that message.
pub data RepeatsUnacknowledged (m : ℕ) (sent : List (List ℕ)) :
    ℕ → List (List (List ℕ)) → List (List (List ℕ)) → Type 0 where
  over : (b : ℕ) → RepeatsUnacknowledged m sent b [] []
  next : {b e a : ℕ} {taken acknowledged : List (List ℕ)} {others other_acks : List (List (List ℕ))}
      → IsSlice m sent b e taken → IsSlice m sent b a acknowledged → a ≤ e → e ≤ a + 1
      → RepeatsUnacknowledged m sent a others other_acks
      → RepeatsUnacknowledged m sent b (taken ∷ others) (acknowledged ∷ other_acks)
