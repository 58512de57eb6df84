-- SPDX-License-Identifier: MIT OR Apache-2.0
-- Naming the frames of consecutive pieces names the frames of the whole.
use Rattle.std.proofs.Common.{◌≡◌, ℕ, List, [], ◌++◌, Option, refl, sym, ap, subst}
use Rattle.std.proofs.Common.{◌∙◌}
use Rattle.std.proofs.Common.{append_assoc}
use Rattle.std.specs.List.{flat_map}
use Rattle.std.specs.Io.KnownBytes.{Appends, Keeps}
use Rattle.std.proofs.KnownBytes.{Appends-kept, Appends-nil, Appends-trans}
use Rattle.std.proofs.lemmas.List.{append-nil}
use Rattle.std.proofs.lemmas.Grind.{flat_map-append}
use Rattle.ipa_framing.specs.declared.frame.Frame.{Frame}
use Rattle.ipa_framing.specs.Frame.{IsFrame, frame_text}
use Rattle.ipa_framing.specs.Framer.{FramerState}
use Rattle.program_base.specs.declared.decode_command.Stop.{Stop}
use Rattle.program_base.specs.Decoded.{NamesOctets, StopsNaming, frame_lines}
use Rattle.program_io.specs.Beginnings.{begins_behind}
use Rattle.program_io.specs.Output.{AppendsBeginning}
use Rattle.program_base.specs.Pieces.{all_both}

-- ---- consecutive pieces

pub names_none : (line : Frame → List ℕ) (held : FramerState) (known : Option (List ℕ))
    → NamesOctets line held [] held known known
names_none line held known = record {
  prints = record {
    frames = [];
    each = tt;
    whole = append-nil held.octets;
    printed = Appends-nil known;
  };
  partial = λ partial. partial;
  working = λ working. working;
}

-- frames, followed by octets that begin with frames
joined : (held between octets second left : List ℕ) (fs gs : List Frame)
    → held ++ octets ≡ flat_map frame_text fs ++ between
    → between ++ second ≡ flat_map frame_text gs ++ left
    → held ++ (octets ++ second) ≡ flat_map frame_text (fs ++ gs) ++ left
joined held between octets second left fs gs first then =
    let some : List ℕ = flat_map frame_text fs in
    sym (append_assoc held octets second) ∙ ap (λ (xs : List ℕ). xs ++ second) first
    ∙ append_assoc some between second ∙ ap (λ (xs : List ℕ). some ++ xs) then
    ∙ sym (append_assoc some (flat_map frame_text gs) left)
    ∙ ap (λ (xs : List ℕ). xs ++ left) (sym (flat_map-append frame_text fs gs))

pub names_both : (line : Frame → List ℕ) (held between left : FramerState) (first second : List ℕ)
    (old mid new : Option (List ℕ))
    → NamesOctets line held first between old mid → NamesOctets line between second left mid new
    → NamesOctets line held (first ++ second) left old new
names_both line held between left first second old mid new some more =
    let fs : List Frame = some.prints.frames in
    let gs : List Frame = more.prints.frames in
    record {
      prints =
          record {
            frames = fs ++ gs;
            each = all_both IsFrame fs gs some.prints.each more.prints.each;
            whole = joined held.octets between.octets first second left.octets fs gs
                some.prints.whole more.prints.whole;
            printed =
                subst (Appends old new) (sym (flat_map-append line fs gs))
                (Appends-trans old mid new (frame_lines line fs) (frame_lines line gs)
                some.prints.printed more.prints.printed);
          };
      partial = λ partial. more.partial (some.partial partial);
      working = λ working. more.working (some.working working);
    }

pub stops_later : (line : Frame → List ℕ) (held between : FramerState) (first second : List ℕ)
    (stop : Stop) (old mid new : Option (List ℕ))
    → NamesOctets line held first between old mid → StopsNaming line between second stop mid new
    → StopsNaming line held (first ++ second) stop old new
stops_later line held between first second stop old mid new some stops working =
    let more = stops (some.working working) in
    let fs : List Frame = some.prints.frames in
    let gs : List Frame = more.frames in
    record {
      frames = fs ++ gs;
      rest = more.rest;
      each = all_both IsFrame fs gs some.prints.each more.each;
      whole = joined held.octets between.octets first second more.rest fs gs some.prints.whole
          more.whole;
      begun =
          subst (AppendsBeginning old new) (sym (flat_map-append line fs gs))
          (begins_behind old mid new (frame_lines line fs) (frame_lines line gs)
          some.prints.printed more.begun);
      long = λ is.
          let long = more.long is in (
            long.0,
            subst (Appends old new) (sym (flat_map-append line fs gs))
                (Appends-trans old mid new (frame_lines line fs) (frame_lines line gs)
                some.prints.printed long.1),
          );
    }
