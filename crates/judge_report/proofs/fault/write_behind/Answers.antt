-- SPDX-License-Identifier: MIT OR Apache-2.0
use Rattle.std.proofs.Common.{◌≡◌, ap, arith, length}
use Rattle.std.proofs.lemmas.Result.{on_ok_weaker}
use Rattle.dtap_codec.specs.Number.{count_of}
use Rattle.judge_report.proofs.Texts.{behind_empty, behind_message}
use Rattle.judge_report.proofs.fault.write_behind.Goals as goal

pub returns-in_ok-write-in-empty-clause-text : goal.returns-in_ok-write-in-empty-clause-text
returns-in_ok-write-in-empty-clause-text g c =
    let same : length c.as_slice.result.now ≡ length c.args.message.now = ap length c.as_slice.ensures in
    behind_empty (count_of c.args.modulus) c.args.frame c.args.direction c.args.message.now c.as_bytes.result.now (g.W.Write.contents c.args.output.now)
    (g.W.Write.contents c.put.new.output) (g.W.Write.contents c.write.new.self) (omega (arith, same, c.in-empty.len_below)) c.as_bytes.ensures.value
    c.in_ok-put-in-empty.ensures c.in_ok-write-in-empty.ensures.bytes

pub returns-in-len1-up-clause-text : goal.returns-in-len1-up-clause-text
returns-in-len1-up-clause-text g c =
    let same : length c.as_slice.result.now ≡ length c.args.message.now = ap length c.as_slice.ensures in
    on_ok_weaker c.write_misplaced.result
    (behind_message (count_of c.args.modulus) c.args.frame c.args.direction c.args.message.now (g.W.Write.contents c.args.output.now)
    (g.W.Write.contents c.write_misplaced.new.output) (omega (arith, same, c.in-len1-up.len_at_least)))
    c.write_misplaced.ensures.text
