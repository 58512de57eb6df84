-- SPDX-License-Identifier: MIT OR Apache-2.0
-- Channel numbers (TS 48.058 clause 9.3.1); `ChanNo` has the picture of the bits.
use Rattle.std.specs.Prelude.{ℕ, Bool, ◌||◌, ◌&&◌, ◌==◌, nat_le, if◌then◌else◌}
use Rattle.std.specs.Prelude.{Result, Ok, Err}
use Rattle.rsl_codec.specs.declared.channel_number.TheConstants.{FIRST_TCH, LAST_SDCCH, RACH}
use Rattle.rsl_codec.specs.declared.channel_number.TheConstants.{PCH_AND_AGCH}
use Rattle.rsl_codec.specs.declared.fault.RslFault.{RslFault}
use Rattle.rsl_codec.specs.declared.fault.RslFault.TheVariants.{BadChannel}

-- the octet is the number of a TCH or an SDCCH, of the RACH, or of the PCH and the AGCH
abbrev pub is_channel : ℕ → Bool
is_channel n = (nat_le FIRST_TCH n && nat_le n LAST_SDCCH) || (n == RACH) || (n == PCH_AND_AGCH)

abbrev pub channel_by : ℕ → Result ℕ RslFault
channel_by n = if is_channel n then Ok n else Err BadChannel
