-- SPDX-License-Identifier: MIT OR Apache-2.0
use Rattle.ipa_framing.specs.Framer.{new_framer}
use Rattle.ipa_framing.proofs.Stream.{run_fails, run_splits, splits_only, splits_some}
use Rattle.ipa_framing.proofs.framer.stream_is_its_frames.Goals as goal

pub returns-clause-split : goal.returns-clause-split
returns-clause-split c = splits_some

pub returns-clause-only : goal.returns-clause-only
returns-clause-only c = splits_only

pub returns-clause-calls : goal.returns-clause-calls
returns-clause-calls c = λ calls held frames rest run splits. run_splits calls new_framer held frames rest run splits

pub returns-clause-refused : goal.returns-clause-refused
returns-clause-refused c = λ calls held run failed. run_fails calls new_framer held run (λ h. absurd cc) failed
