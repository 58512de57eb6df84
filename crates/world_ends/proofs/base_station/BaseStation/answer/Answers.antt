-- SPDX-License-Identifier: MIT OR Apache-2.0
use Rattle.world_ends.proofs.Written.{confirm_written, indication_written}
use Rattle.world_ends.proofs.base_station.BaseStation.answer.Goals as goal

pub tell-requires-clause-written : goal.tell-requires-clause-written
tell-requires-clause-written c = confirm_written (record { channel = c.args.channel; link = c.short_messages.result })

pub tell-requires-else-answer-clause-written : goal.tell-requires-else-answer-clause-written
tell-requires-else-answer-clause-written c = indication_written (record { channel = c.args.channel; link = c.short_messages.result })
