-- SPDX-License-Identifier: MIT OR Apache-2.0
-- One link: the lines that were put for the link, and the items that the link gave.
use Rattle.std.specs.Prelude.{◌≡◌, ℕ, ◌<◌, nat_le, Bool, true, List, ◌∷◌, ◌++◌, length, map}
use Rattle.controller_worker.specs.declared.limits.TheConstants.{MAX_REFUSALS}
use Rattle.ipa_framing.specs.declared.frame.Frame.{Frame}
use Rattle.ruled_relay.specs.declared.item.What.{What}
use Rattle.ruled_relay.specs.declared.item.What.TheVariants as whats
use Rattle.ruled_relay.specs.declared.outbox.Line.{Line}
use Rattle.ruled_relay.specs.declared.outbox.Line.TheVariants as marks
use Rattle.ruled_relay.specs.Outbox.{PutterView}
use Rattle.ruled_relay.specs.Row.{EachAt}

abbrev pub lines : List Frame → List Line
lines frames = map (λ frame. marks.Frame frame) frames

-- whether an outbox is given up: it refused at least `MAX_REFUSALS` frames in a row, and gets no
-- more frames
abbrev pub is_given_up : PutterView → Bool
is_given_up p = nat_le MAX_REFUSALS p.refusals

-- the link exists and its outbox was given up
abbrev pub IsGivenUpAt : List PutterView → ℕ → Type 0
IsGivenUpAt putters link = (link < length putters)
    × EachAt putters (λ at p. at ≡ link → is_given_up p ≡ true)

abbrev pub HasDown : List What → Type 0
HasDown taken =
    (before : List What) × (behind : List What) × (taken ≡ before ++ whats.Down ∷ behind)
