-- SPDX-License-Identifier: MIT OR Apache-2.0
use Rattle.bsc_program.proofs.LineOctets.{line_is_of_octets}
use Rattle.bsc_program.proofs.laws.lines_are_of_octets.Goals as goal

pub returns : goal.returns
returns c = line_is_of_octets
