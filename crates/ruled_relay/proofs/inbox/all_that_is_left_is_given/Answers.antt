-- SPDX-License-Identifier: MIT OR Apache-2.0
use Rattle.ruled_relay.proofs.Given.{gives_all}
use Rattle.ruled_relay.proofs.inbox.all_that_is_left_is_given.Goals as goal

pub returns : goal.returns
returns c = gives_all
