-- SPDX-License-Identifier: MIT OR Apache-2.0
-- The links of a relay, from the start of the relay until all links have ended.
use Rattle.std.specs.Prelude.{◌≡◌, ℕ, Bool, true, false, List, [], ◌∷◌, ◌++◌}
use Rattle.std.specs.Prelude.{length, Option, Some}
use Rattle.std.specs.Prelude.{None}
use Rattle.std.specs.Io.KnownBytes.{Consumes}
use mathlib.Core.Option.{some}
use lib.ListN.{get_elem?}
use Rattle.controller_worker.specs.Moves.{IsSent, Move, parts_of, steps_of, taken_of}
use Rattle.controller_worker.specs.Steps.{AreOfLinks, whats_of}
use Rattle.controller_model.specs.declared.step.Step.{Step}
use Rattle.controller_model.specs.Controller.{Controller}
use Rattle.ipa_framing.specs.declared.frame.Frame.{Frame}
use Rattle.link_workers.specs.declared.fault.IoFault.{IoFault}
use Rattle.link_workers.specs.declared.fault.IoFault.TheVariants.{GivenUp}
use Rattle.link_workers.specs.Reading.{AsksGate, Ends, Parts, given}
use Rattle.link_workers.specs.Writing.{WritesFrames}
use Rattle.ruled_relay.specs.declared.item.What.TheVariants.{Down}
use Rattle.station_io.specs.declared.link.Link.{Link}

-- A link as seen through its two devices and its gate: the octets that are left to be read, those
-- that were written, and how often in a row the gate has refused.
pub record LinkView : Type 0 where
  pub unread : Option (List ℕ)
  pub written : Option (List ℕ)
  pub refused : ℕ

abbrev pub link_view : {I O G : Type 0} → (I → Option (List ℕ)) → (O → Option (List ℕ)) → (G → ℕ)
    → Link I O G → LinkView
link_view remaining contents refused link = record {
  unread = remaining link.reader;
  written = contents link.writer;
  refused = refused link.gate;
}

-- a link that has ended, with its fault if there is one
pub record Ended : Type 0 where
  pub link : LinkView
  pub fault : Option IoFault

-- a link's fault: the reader's fault, else the writer's fault, else GivenUp if the outbox was given
-- up; None if there is no fault
abbrev pub fault_of : Option IoFault → Option IoFault → Bool → Option IoFault
fault_of (Some reading) writing given_up = Some reading
fault_of None (Some writing) given_up = Some writing
fault_of None None true = Some GivenUp
fault_of None None false = None

-- What the relay did for one link over these moves of a controller.
pub record HasCarried (start : Controller) (moves : List Move) (limit number : ℕ)
    (old new : LinkView) (fault : Option IoFault) : Type 0 where
  -- the faults of the link's reader and writer, and whether the link's outbox was given up
  pub reading : Option IoFault
  pub writing : Option IoFault
  pub given_up : Bool
  pub why : fault ≡ fault_of reading writing given_up
  -- the octets read are frames and a rest
  pub octets : List ℕ
  pub frames : List Frame
  pub rest : List ℕ
  pub read : Consumes old.unread new.unread octets
  pub parts : Parts octets frames rest
  pub ends : Ends reading rest new.unread
  pub asks : AsksGate reading limit frames old.refused new.refused
  -- the items taken from the link are these frames and then `Down`
  pub items : whats_of number (taken_of moves) ≡ given frames ++ Down ∷ []
  -- All frames that the controller put for the link were sent. If the link's outbox was given up,
  -- only the frames before the refused frame were sent, and a `Down` was added as the next move.
  pub sent : List Frame
  pub which : IsSent given_up given_up number (parts_of number start moves) sent
  -- the octets of the frames sent were written; if the writer has a fault, only a beginning of
  -- these octets was written
  pub writes : WritesFrames writing sent old.written new.written

-- There is one list of steps, which are items of these links and ticks. The steps are those of the
-- call worker's moves, and each link has reached its end over these moves.
abbrev pub Relays : Controller → ℕ → List LinkView → List Ended → Type 0
Relays start limit links ended =
    (length ended ≡ length links)
    × ((steps : List Step)
    × AreOfLinks (length links) steps
    × (moves : List Move) × (steps ≡ steps_of moves)
    × ((number : ℕ) (old : LinkView) (now : Ended)
    → get_elem? links number ≡ some old → get_elem? ended number ≡ some now
    → HasCarried start moves limit number old now.link now.fault))

-- a link that was given back, with its fault if there is one
abbrev pub ended_view : {I O G : Type 0} → (I → Option (List ℕ)) → (O → Option (List ℕ)) → (G → ℕ)
    → Link I O G × Option IoFault → Ended
ended_view remaining contents refused back = record {
  link = link_view remaining contents refused back.0;
  fault = back.1;
}
