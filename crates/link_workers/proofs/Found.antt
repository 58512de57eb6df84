-- SPDX-License-Identifier: MIT OR Apache-2.0
-- The frames found at the front of octets are the first into which the octets are split.
use Rattle.std.proofs.Common.{◌≡◌, ◌⊎◌, ℕ, List, [], ◌∷◌, ◌++◌, Option, Some, Result, Ok, inl, inr, refl, sym, ap, ◌∙◌, append_assoc}
use Rattle.ipa_framing.specs.declared.frame.Frame.{Frame}
use Rattle.ipa_framing.specs.declared.fault.FrameFault.{FrameFault}
use Rattle.ipa_framing.specs.Frame.{IsFrame, IsPartial, IsTooLong, Splits, frame_text}
use Rattle.ipa_framing.specs.Front.{FrontFrame, frame, front_of}
use Rattle.ipa_framing.proofs.Stream.{front_again, front_long, front_partial, splits_only}
use Rattle.link_workers.specs.Reading.{Parts, frames_text}

front_is : (octets : List ℕ) (f : Frame) (fs : List Frame) (rest : List ℕ) →
    octets ≡ frames_text (f ∷ fs) ++ rest →
    IsFrame f →
    front_of octets ≡ Ok (Some (f.stream, f.body, frames_text fs ++ rest))
front_is octets f fs rest whole fits = ap front_of (whole ∙ append_assoc (frame_text f) (frames_text fs) rest) ∙ front_again f (frames_text fs ++ rest) fits

no_front : (octets : List ℕ) (front : FrontFrame) → IsPartial octets ⊎ IsTooLong octets → front_of octets ≡ Ok (Some front) → ⊥
no_front octets front (inl partial) e = absurd (cc (front_partial octets partial, e))
no_front octets front (inr long) e = absurd (cc (front_long octets long, e))

same_front : (a b : FrontFrame) → (let x : Result (Option FrontFrame) FrameFault = Ok (Some a) in x) ≡ Ok (Some b) → a ≡ b
same_front a b e = cc

pub found_first : (octets : List ℕ) (fs : List Frame) (rest : List ℕ) (gs : List Frame) (end : List ℕ) →
    Parts octets fs rest →
    Splits octets gs end →
    (more : List Frame) × (gs ≡ fs ++ more)
found_first octets [] rest gs end some splits = (gs, refl)
found_first octets (f ∷ fs) rest [] end some splits =
    absurd (no_front end (f.stream, f.body, frames_text fs ++ rest) splits.stops (ap front_of (sym splits.whole) ∙ front_is octets f fs rest some.whole some.each.0))
found_first octets (f ∷ fs) rest (g ∷ gs) end some splits =
    let is = same_front (g.stream, g.body, frames_text gs ++ end) (f.stream, f.body, frames_text fs ++ rest) (sym (front_is octets g gs end splits.whole splits.each.0) ∙ front_is octets f fs rest some.whole some.each.0) in
    let later =
    found_first (frames_text gs ++ end) fs rest gs end (record { whole = ap (λ (x : FrontFrame). x.2) is; each = some.each.1 })
    (record { whole = refl; each = splits.each.1; stops = splits.stops }) in
    let first : g ≡ f = ap (λ (x : FrontFrame). frame x.0 x.1) is in
    (later.0, cc (first, later.1))

pub found_all : (octets : List ℕ) (fs : List Frame) (rest : List ℕ) (gs : List Frame) (end : List ℕ) →
    Parts octets fs rest →
    IsPartial rest ⊎ IsTooLong rest →
    Splits octets gs end →
    (gs ≡ fs) × (end ≡ rest)
found_all octets fs rest gs end some stops splits = splits_only octets gs end fs rest splits (record { whole = some.whole; each = some.each; stops = stops })
