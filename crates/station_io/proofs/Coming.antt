-- SPDX-License-Identifier: MIT OR Apache-2.0
-- One link: the contracts of its reader, its writer and the call worker, together.
use Rattle.std.proofs.Common.{◌≡◌, ℕ, Bool, true, false, List, [], ◌∷◌, ◌++◌, Option, Some, None, refl, sym, ap, ◌∙◌, subst, append_assoc}
use Rattle.controller_worker.specs.Call.{Serves as CallServes}
use Rattle.controller_worker.specs.Links.{HasDown, is_given_up, lines}
use Rattle.controller_worker.specs.Moves.{IsSent, Move, parts_of, taken_of}
use Rattle.controller_worker.specs.Steps.{whats_of}
use Rattle.controller_model.specs.Controller.{Controller}
use Rattle.ipa_framing.specs.declared.frame.Frame.{Frame}
use Rattle.link_workers.specs.declared.fault.IoFault.{IoFault}
use Rattle.link_workers.specs.Reading.{Serves as ReadServes, given}
use Rattle.link_workers.specs.Writing.{Delivers, WritesFrames}
use Rattle.ruled_relay.specs.declared.item.What.{What}
use Rattle.ruled_relay.specs.declared.item.What.TheVariants.{Frame as GivenFrame, Down}
use Rattle.ruled_relay.specs.declared.outbox.Line.{Line}
use Rattle.ruled_relay.specs.declared.outbox.Line.TheVariants.{Frame as FrameLine, End}
use Rattle.ruled_relay.specs.Inbox.{PassView}
use Rattle.ruled_relay.specs.Outbox.{PutterView, TakerView}
use Rattle.station_io.specs.Links.{HasCarried, LinkView, fault_of}
use Rattle.station_io.proofs.EndMarks.{all_taken, map_apart, same_before}

frame_is_not_down : (f : Frame) → GivenFrame f ≡ Down → ⊥
frame_is_not_down f e = cc

line_is_not_end : (f : Frame) → FrameLine f ≡ End → ⊥
line_is_not_end f e = cc

same_line : (f g : Frame) → FrameLine f ≡ FrameLine g → f ≡ g
same_line f g e = cc

-- the outbox gave all that was put, so the writer got what was sent
pub got_is_sent : (sent got : List Frame) (put taken rest : List Line) →
    put ≡ lines sent ++ End ∷ [] →
    taken ≡ lines got ++ End ∷ [] →
    put ≡ taken ++ rest →
    got ≡ sent
got_is_sent sent got put taken rest is_put is_taken is =
    let all = all_taken FrameLine End line_is_not_end sent put taken (lines got) [] rest is_put is_taken is in
    map_apart FrameLine same_line got sent (same_before (lines got) (lines sent) End (sym is_taken ∙ all ∙ is_put))

-- all that a reader put was taken, where its `Down` was
pub taken_is_given : (frames : List Frame) (put taken rest : List What) →
    put ≡ given frames ++ Down ∷ [] →
    HasDown taken →
    put ≡ taken ++ rest →
    taken ≡ given frames ++ Down ∷ []
taken_is_given frames put taken rest is_put down is = all_taken GivenFrame Down frame_is_not_down frames put taken down.0 down.1 rest is_put down.2 is ∙ is_put

-- what reader, writer and call worker promise of a link is that it reaches its end
pub comes : (start : Controller) (moves : List Move) (limit number : ℕ) (old new : LinkView)
    (pass put : PassView) (taker taken : TakerView) (putter sent : PutterView) (reading writing : Option IoFault)
    → ReadServes old.unread new.unread limit old.refused new.refused pass put reading → pass.put ≡ []
    → Delivers old.written new.written taker taken writing → taker.taken ≡ []
    → CallServes None start moves number putter sent
    → ((rest : List What) × (put.put ≡ whats_of number (taken_of moves) ++ rest)) → ((rest : List Line) × (sent.put ≡ taken.taken ++ rest))
    → HasCarried start moves limit number old new (fault_of reading writing (is_given_up sent))
comes start moves limit number old new pass put taker taken putter sent reading writing reads blank delivers fresh calls inbox outbox =
    let is_put : put.put ≡ given reads.frames ++ Down ∷ [] = ap (λ (p : PassView). p.put) reads.put ∙ ap (λ ws. ws ++ (given reads.frames ++ Down ∷ [])) blank in
    let is_taken : taken.taken ≡ lines delivers.frames ++ End ∷ [] = ap (λ (t : TakerView). t.taken) delivers.takes ∙ ap (λ ls. ls ++ (lines delivers.frames ++ End ∷ [])) fresh in
    let got = got_is_sent calls.sent delivers.frames sent.put taken.taken outbox.0 calls.put is_taken outbox.1 in
    let up : Bool = is_given_up sent in
    record {
      reading = reading;
      writing = writing;
      given_up = up;
      why = refl;
      octets = reads.octets;
      frames = reads.frames;
      rest = reads.rest;
      read = reads.read;
      parts = reads.parts;
      ends = reads.ends;
      asks = reads.asks;
      items = taken_is_given reads.frames put.put (whats_of number (taken_of moves)) inbox.0 is_put (calls.down refl) inbox.1;
      sent = calls.sent;
      which = subst (λ a. IsSent up a number (parts_of number start moves) calls.sent) (calls.whole refl) calls.which;
      writes = subst (λ fs. WritesFrames writing fs old.written new.written) got delivers.writes;
    }
