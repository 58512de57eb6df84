-- SPDX-License-Identifier: MIT OR Apache-2.0
-- The links that are given back, with their faults.
use Rattle.std.specs.Prelude.{◌≡◌, ℕ, ◌≤◌, List, [], ◌++◌, Option}
use Rattle.controller_worker.specs.Links.{is_given_up}
use Rattle.link_workers.specs.declared.fault.IoFault.{IoFault}
use Rattle.ruled_relay.specs.declared.outbox.Line.{Line}
use Rattle.ruled_relay.specs.Outbox.{PutterView}
use Rattle.station_io.specs.declared.link.Link.{Link}
use Rattle.link_workers.specs.declared.reader.HasRead.{HasRead}
use Rattle.link_workers.specs.declared.writer.HasWritten.{HasWritten}
use Rattle.station_io.specs.Links.{fault_of}
use Rattle.station_io.specs.Pairs.{paired}

module _ {I O G : Type 0} where
  abbrev pub link_of : HasRead I G → HasWritten O → Link I O G
  link_of read written = record { reader = read.reader; writer = written.writer; gate = read.gate }

  abbrev pub given_back : HasRead I G → HasWritten O → PutterView → Link I O G × Option IoFault
  given_back read written putter =
      (link_of read written, fault_of read.fault written.fault (is_given_up putter))

-- all links that are given back, with their faults, in the order of the links
abbrev pub all_given : {I O G : Type 0} → List (HasRead I G) → List (HasWritten O) → List PutterView
    → List (Link I O G × Option IoFault)
all_given read written putters =
    paired (λ give putter. give putter) (paired given_back read written) putters

-- both lists are empty and have room for this many links
abbrev pub HasRoom : {A B : Type 0} → ℕ → List A → ℕ → List B → ℕ → Type 0
HasRoom links back back_capacity passes passes_capacity =
    (back ≡ []) × (passes ≡ []) × (links ≤ back_capacity) × (links ≤ passes_capacity)

-- the lines put are the lines taken, followed by a rest
abbrev pub Follows : {O : Type 0} → HasWritten O → PutterView → Type 0
Follows written putter = (rest : List Line) × (putter.put ≡ written.taker.taken ++ rest)
