-- SPDX-License-Identifier: MIT OR Apache-2.0
use Rattle.bssmap_codec.specs.BssapReading.{bssap_reading}
use Rattle.msc_end.proofs.Wanting.{readable}
use Rattle.msc_end.proofs.bssap_data.read_data.Goals as goal

pub returns-in-Err-Memory-clause-memory : goal.returns-in-Err-Memory-clause-memory
returns-in-Err-Memory-clause-memory c = readable (bssap_reading c.args.octets.now) c.in-Err-Memory.field-0 c.in-Err-Memory.field-0-is c.in-Err-Memory.ensures.refused
