-- SPDX-License-Identifier: MIT OR Apache-2.0
-- The whole frames in a beginning of the octets of frames are a beginning of these frames.
use Rattle.std.proofs.Common.{◌≡◌, ◌⊎◌, ℕ, zero, suc, ◌+◌, ◌*◌, ◌/◌, ◌%◌, List, [], ◌∷◌, ◌++◌, length, refl, sym, ap, ◌∙◌, inl, inr, ⊎_elim, length-append, arith}
use Rattle.std.specs.List.{AllByRecursion}
use Rattle.ipa_framing.specs.declared.frame.Frame.{Frame}
use Rattle.ipa_framing.specs.Frame.{IsFrame, IsPartial, frame_text}
use Rattle.ipa_framing.specs.Front.{front_of}
use Rattle.ipa_framing.proofs.Stream.{front_again, front_partial}
use Rattle.link_workers.specs.Reading.{frames_text}
use Rattle.octets.specs.Lists.{IsPrefix}
use Rattle.station_io.specs.Octets.{first_frames, frames_in, from_front}

-- a beginning of two lists ends within the first, or behind it
pub overlap : (b rest x y : List ℕ) → b ++ rest ≡ x ++ y
    → ((c : ℕ) × (cs : List ℕ) × (x ≡ b ++ c ∷ cs)) ⊎ ((more : List ℕ) × (b ≡ x ++ more) × (more ++ rest ≡ y))
overlap b rest [] y e = inr (b, refl, e)
overlap [] rest (c ∷ cs) y e = inl (c, cs, refl)
overlap (b ∷ bs) rest (x ∷ xs) y e =
    let head : b ≡ x = cc e in
    let tail : bs ++ rest ≡ xs ++ y = cc e in
    ⊎_elim
    (λ (h : (c : ℕ) × (cs : List ℕ) × (xs ≡ bs ++ c ∷ cs)). inl (h.0, h.1, ap (λ (n : ℕ). n ∷ xs) (sym head) ∙ ap (λ (ns : List ℕ). b ∷ ns) h.2))
    (λ (h : (more : List ℕ) × (bs ≡ xs ++ more) × (more ++ rest ≡ y)). inr (h.0, ap (λ (n : ℕ). n ∷ bs) head ∙ ap (λ (ns : List ℕ). x ∷ ns) h.1, h.2))
    (overlap bs rest xs y tail)

-- a frame that isn't whole
cut_is_partial : (f : Frame) (b : List ℕ) (c : ℕ) (cs : List ℕ) → IsFrame f → frame_text f ≡ b ++ c ∷ cs → IsPartial b
cut_is_partial f [] c cs fits e = tt
cut_is_partial f (a ∷ []) c cs fits e = tt
cut_is_partial f (high ∷ low ∷ octets) c cs fits e =
    let is_high : length f.body / 256 ≡ high = cc e in
    let is_low : length f.body % 256 ≡ low = cc e in
    let behind : f.stream ∷ f.body ≡ octets ++ c ∷ cs = cc e in
    let size : 256 * high + low ≡ length f.body = omega (arith, is_high, is_low) in
    let count : suc (length f.body) ≡ length octets + suc (length cs) = ap length behind ∙ length-append octets (c ∷ cs) in
    (omega (arith, size, fits), omega (arith, size, count))

none_whole : (most : ℕ) (f : Frame) (fs : List Frame) (b : List ℕ) → IsPartial b → IsPrefix (first_frames (suc most) b) (f ∷ fs)
none_whole most f fs b partial = (f ∷ fs, ap (λ (gs : List Frame). gs ++ f ∷ fs) (ap (from_front (first_frames most)) (front_partial b partial)))

one_whole : (most : ℕ) (f : Frame) (fs : List Frame) (b more : List ℕ) →
    IsFrame f →
    b ≡ frame_text f ++ more →
    IsPrefix (first_frames most more) fs →
    IsPrefix (first_frames (suc most) b) (f ∷ fs)
one_whole most f fs b more fits is later =
    let here : first_frames (suc most) b ≡ f ∷ first_frames most more =
    ap (λ (os : List ℕ). from_front (first_frames most) (front_of os)) is ∙ ap (from_front (first_frames most)) (front_again f more fits) in
    (later.0, ap (λ (gs : List Frame). gs ++ later.0) here ∙ ap (λ (gs : List Frame). f ∷ gs) later.1)

first_of_cut : (most : ℕ) (fs : List Frame) (b rest : List ℕ) →
    AllByRecursion IsFrame fs →
    b ++ rest ≡ frames_text fs →
    IsPrefix (first_frames most b) fs
first_of_cut zero fs b rest each e = (fs, refl)
first_of_cut (suc most) [] [] rest each e = ([], refl)
first_of_cut (suc most) [] (b ∷ bs) rest each e = absurd (cc e)
first_of_cut (suc most) (f ∷ fs) b rest each e =
    ⊎_elim
    (λ (h : (c : ℕ) × (cs : List ℕ) × (frame_text f ≡ b ++ c ∷ cs)). none_whole most f fs b (cut_is_partial f b h.0 h.1 each.0 h.2))
    (λ (h : (more : List ℕ) × (b ≡ frame_text f ++ more) × (more ++ rest ≡ frames_text fs)). one_whole most f fs b h.0 each.0 h.1 (first_of_cut most fs h.0 rest each.1 h.2))
    (overlap b rest (frame_text f) (frames_text fs) e)

pub frames_of_cut : (fs : List Frame) (b : List ℕ) → AllByRecursion IsFrame fs → IsPrefix b (frames_text fs) → IsPrefix (frames_in b) fs
frames_of_cut fs b each cut = first_of_cut (length b) fs b cut.0 each cut.1
