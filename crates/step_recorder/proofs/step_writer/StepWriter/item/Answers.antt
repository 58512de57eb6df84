-- SPDX-License-Identifier: MIT OR Apache-2.0
use Rattle.std.proofs.Common.{◌≡◌, ℕ, ◌++◌, sym, subst}
use Rattle.std.specs.Prelude.{OnOk}
use Rattle.ipa_framing.specs.declared.frame.Frame.{Frame}
use Rattle.record_steps.specs.Runs.{stamped}
use Rattle.ruled_relay.specs.declared.item.What.{What}
use Rattle.ruled_relay.specs.declared.item.What.TheVariants as whats
use Rattle.run_record.specs.declared.entry.Entry.TheVariants.{Took}
use Rattle.run_record.specs.Record.{record_of}
use Rattle.step_recorder.specs.Writing.{WriterState}
use Rattle.step_recorder.proofs.step_writer.StepWriter.item.Goals as goal

pub returns-in-Down-clause-octets : goal.returns-in-Down-clause-octets
returns-in-Down-clause-octets c =
    let s = c.args.self.now in
    let P : ℕ → What → Type 0 = λ n what. OnOk c.entry.result (c.entry.new.out.items ≡ c.args.out.now.items ++ record_of s.place (stamped s.stamp (Took n what))) in
    subst (λ (what : What). P c.args.item.now.source what) (sym c.in-Down.is) (subst (λ (n : ℕ). P n whats.Down) c.in_ok-link.ensures c.entry.ensures.octets)

pub returns-in_ok-frame-in-Frame-clause-octets : goal.returns-in_ok-frame-in-Frame-clause-octets
returns-in_ok-frame-in-Frame-clause-octets c =
    let s = c.args.self.now in
    let link = c.in_ok-link.link in
    let source = c.args.item.now.source in
    let copy = c.in_ok-frame-in-Frame.frame in
    let P : WriterState → ℕ → What → Type 0 = λ w n what. OnOk c.entry-in-Frame.result
    (c.entry-in-Frame.new.out.items ≡ c.args.out.now.items ++ record_of w.place (stamped w.stamp (Took n what))) in
    subst (λ (what : What). P s source what) (sym c.in-Frame.is)
    (subst (λ (frame : Frame). P s source (whats.Frame frame)) c.in_ok-frame-in-Frame.ensures.copy
    (subst (λ (n : ℕ). P s n (whats.Frame copy)) c.in_ok-link.ensures
    (subst (λ (w : WriterState). P w link (whats.Frame copy)) c.in_ok-frame-in-Frame.ensures.state c.entry-in-Frame.ensures.octets)))
