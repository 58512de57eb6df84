-- SPDX-License-Identifier: MIT OR Apache-2.0
use Rattle.std.proofs.Common.{◌≡◌, take}
use Rattle.link_workers.specs.Switching.{replies_text}
use Rattle.link_workers.proofs.switch.text_of.Given as goal

abbrev pub invariant-loop-reply : goal.invariant-loop-reply
invariant-loop-reply l = l.text.items ≡ replies_text (take l.reply-index l.replies)
