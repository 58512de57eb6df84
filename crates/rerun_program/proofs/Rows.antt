-- SPDX-License-Identifier: MIT OR Apache-2.0
-- Why a run isn't done again to its end, with the status of each; and what is printed of a step.
use Rattle.std.proofs.Common.{◌≡◌, [], ◌∷◌, map, Some, None, refl}
use Rattle.std.specs.Fmt.{digits}
use Rattle.std.specs.Prelude.{codes}
use Rattle.program_io.specs.declared.failure.Failure.TheVariants as failures
use Rattle.record_steps.specs.declared.step_fault.StepFault.TheVariants as steps
use Rattle.rerun_program.specs.Done.{shown_in, told}
use Rattle.rerun_program.specs.Stopping.{status_of_stop, stop_by_packet, stop_by_step}
use Rattle.rerun_program.specs.declared.plan.Mode.TheVariants.{Compare, Show}
use Rattle.rerun_program.specs.declared.stop.Stop.TheVariants.{BadPacket, BadStep, Behind, Differs, Failed, NoPart}
use Rattle.rerun_program.specs.declared.stop.Stop.TheVariants as stops
use Rattle.rerun_steps.specs.declared.packet_fault.PacketFault.TheVariants as packets

statuses : map status_of_stop
    (BadPacket 3 packets.Length ∷ BadStep 3 (steps.NoLink 4) ∷ NoPart 2 ∷ Behind ∷ stops.Settings ∷ Differs ∷ Failed failures.Memory
    ∷ Failed failures.Device ∷ [])
    ≡ 2 ∷ 2 ∷ 2 ∷ 2 ∷ 2 ∷ 5 ∷ 3 ∷ 3 ∷ []
statuses = refl

of_packets : map (stop_by_packet 7) (packets.NoRecord ∷ packets.Octet 16 ∷ packets.Memory ∷ [])
    ≡ BadPacket 7 packets.NoRecord ∷ BadPacket 7 (packets.Octet 16) ∷ Failed failures.Memory ∷ []
of_packets = refl

of_steps : map (stop_by_step 7) (steps.HeadBehindStep ∷ steps.Memory ∷ []) ≡ BadStep 7 steps.HeadBehindStep ∷ Failed failures.Memory ∷ []
of_steps = refl

-- lines are shown or not; a difference is told in both modes
modes : map (λ mode. shown_in mode (codes "a line")) (Show ∷ Compare ∷ []) ≡ codes "a line" ∷ [] ∷ []
modes = refl

no_difference : told (record { number = 1; stamp = record { seconds = 0; microseconds = 0 } }) [] [] None ≡ []
no_difference = refl

-- a place behind all frames
nothing_put : told (record { number = 1; stamp = record { seconds = 0; microseconds = 0 } }) [] [] (Some 0)
    ≡ codes "no conn\tstep 1 after 0 frames 00:00:00.000\trecord: nothing\trerun: nothing\n"
unfolding digits
nothing_put = refl
