-- SPDX-License-Identifier: MIT OR Apache-2.0
-- A mobile's link continues where a list of messages ended.
use Rattle.std.specs.Prelude.{ℕ, List, ◌++◌, filter, length}
use Rattle.dtap_codec.specs.Message.{is_flow_message}
use Rattle.dtap_codec.specs.Places.{Rise}
use Rattle.mobile_end.specs.DataLink.{to_be_taken, outstanding_messages}
use Rattle.mobile_end.specs.DataLinkState.{DataLinkState}

-- `now`: the places of `messages`, followed by the messages of the flow that stations can still
-- take of the link, rise from 0 by steps of 0 or 1 to the end of the sent list. `anew`: so do the
-- places of `messages`, followed by the messages of the flow that stations can take once the mobile
-- sends again on another channel.
pub record RunsToEnd (m : ℕ) (sent messages : List (List ℕ)) (link : DataLinkState) : Type 0 where
  pub now : Rise m sent 0 (messages ++ filter is_flow_message (to_be_taken link)) (length sent)
  pub anew : Rise m sent 0
      (messages ++ filter is_flow_message (outstanding_messages link)) (length sent)
