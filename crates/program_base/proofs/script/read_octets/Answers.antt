-- SPDX-License-Identifier: MIT OR Apache-2.0
use Rattle.std.proofs.Common.{◌≡◌, ◌⊎◌, ℕ, Result, Ok, Err, Option, Some, None, IsSome, IfOk, List, refl, subst, inl, inr}
use Rattle.std.specs.List.{slice_split}
use Rattle.world_model.specs.declared.event.Event.{Event}
use Rattle.program_base.specs.declared.line_fault.LineFault.{LineFault}
use Rattle.program_base.specs.declared.line_fault.LineFault.TheVariants.{BadEvent, Memory}
use Rattle.program_base.specs.WordsLeft.{is_space}
use Rattle.program_base.specs.Script.{IsLine}
use Rattle.program_base.specs.ScriptReading.{GivesEvent, line_at}
use Rattle.program_base.proofs.Lines.{IsLine-read, read_is_line}
use Rattle.program_base.proofs.script.read_octets.Goals as goal

read_event : (cells : ℕ) (line : List ℕ) (result : Result Event LineFault) →
    GivesEvent result (line_at cells (slice_split is_space line)) →
    IfOk result (λ event. IsLine cells event line)
read_event cells line (Ok event) gives = IsLine-read cells line event gives
read_event cells line (Err fault) gives = tt

read_only : (cells : ℕ) (line : List ℕ) (result : Result Event LineFault) (event : Event) →
    GivesEvent result (line_at cells (slice_split is_space line)) →
    IsLine cells event line →
    (result ≡ Ok event) ⊎ (result ≡ Err Memory)
read_only cells line (Ok other) event gives is = let same = read_is_line cells line event is in inl cc
read_only cells line (Err BadEvent) event gives is = let same = read_is_line cells line event is in absurd cc
read_only cells line (Err Memory) event gives is = inr refl

memory_by : (cells : ℕ) (line : List ℕ) (said : Option Event) →
    line_at cells (slice_split is_space line) ≡ said →
    IsSome said →
    (event : Event) × IsLine cells event line
memory_by cells line (Some event) is some = (event, IsLine-read cells line event is)
memory_by cells line None is some = absurd cc

read_memory : (cells : ℕ) (line : List ℕ) (result : Result Event LineFault) →
    GivesEvent result (line_at cells (slice_split is_space line)) →
    result ≡ Err Memory →
    (event : Event) × IsLine cells event line
read_memory cells line (Ok event) gives is = absurd cc
read_memory cells line (Err BadEvent) gives is = absurd cc
read_memory cells line (Err Memory) gives is = memory_by cells line (line_at cells (slice_split is_space line)) refl gives

pub returns-clause-event : goal.returns-clause-event
returns-clause-event c = read_event c.args.cells c.args.line.now c.line_of.result (subst (λ words. GivesEvent c.line_of.result (line_at c.args.cells words)) c.of.ensures c.line_of.ensures)

pub returns-clause-only : goal.returns-clause-only
returns-clause-only c event is = read_only c.args.cells c.args.line.now c.line_of.result event (subst (λ words. GivesEvent c.line_of.result (line_at c.args.cells words)) c.of.ensures c.line_of.ensures) is

pub returns-clause-memory : goal.returns-clause-memory
returns-clause-memory c is = read_memory c.args.cells c.args.line.now c.line_of.result (subst (λ words. GivesEvent c.line_of.result (line_at c.args.cells words)) c.of.ensures c.line_of.ensures) is
