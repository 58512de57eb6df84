-- SPDX-License-Identifier: MIT OR Apache-2.0
-- The place of a reader after its answer.
use Rattle.std.specs.Prelude.{◌≡◌}
use Rattle.run_record.specs.declared.next.Next.{Next}
use Rattle.run_record.specs.declared.next.Next.TheVariants.{Cut, End, Read, Wrong}
use Rattle.run_record.specs.declared.place.Place.{Place}
use Rattle.run_record.specs.Record.{moved}

-- The reader moves past a packet that was read, and stays at the end or at a cut. After a wrong
-- packet the place of the reader is unspecified.
abbrev pub IsBehind : Place → Next → Place → Type 0
IsBehind old (Read this size) new = new ≡ moved old this.entry
IsBehind old End new = new ≡ old
IsBehind old Cut new = new ≡ old
IsBehind old (Wrong fault) new = Unit {0}
