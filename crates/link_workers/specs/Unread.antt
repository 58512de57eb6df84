-- SPDX-License-Identifier: MIT OR Apache-2.0
-- Why the octets of a link weren't read to their end.
use Rattle.std.specs.Prelude.{◌≡◌, ◌≢◌, Option, Some, None, Result, Ok, Err}
use Rattle.std.specs.IoError.{error_kind}
use Rattle.std.specs.declared.io.ErrorKind.TheVariants.{Interrupted}
use Rattle.link_workers.specs.declared.fault.IoFault.{IoFault}
use Rattle.link_workers.specs.declared.fault.IoFault.TheVariants.{ReadFailed}
use Rattle.link_workers.specs.declared.link_reads.TheConstants.{MOST_READS}
use Rattle.link_workers.specs.declared.unread.UnreadLink.{UnreadLink}
use Rattle.link_workers.specs.declared.unread.UnreadLink.TheVariants.{Endless, Device, Refused}

-- What holds for each reason. Endless: MOST_READS reads were made. Device: the error isn't an
-- interruption. Refused: the fault isn't ReadFailed.
abbrev pub IsUnread : UnreadLink → Type 0
IsUnread (Endless reads) = reads.made ≡ MOST_READS
IsUnread (Device error) = error_kind error ≢ Interrupted
IsUnread (Refused fault) = fault ≢ ReadFailed

-- The fault with which a worker ends for this reason.
abbrev pub fault_for : UnreadLink → IoFault
fault_for (Endless reads) = ReadFailed
fault_for (Device error) = ReadFailed
fault_for (Refused fault) = fault

abbrev pub fault_in : {X : Type 0} → Result X UnreadLink → Option IoFault
fault_in (Ok _) = None
fault_in (Err unread) = Some (fault_for unread)
