-- SPDX-License-Identifier: MIT OR Apache-2.0
-- Control messages: the messages of radio resource management (TS 44.018). Each belongs to one
-- channel.
use Rattle.std.specs.Prelude.{ℕ, ◌%◌, Bool, false, not, ◌==◌, List, [], ◌∷◌, filter}
use Rattle.dtap_codec.specs.declared.message.TheConstants.{RADIO_RESOURCE}

abbrev pub is_control : List ℕ → Bool
is_control [] = false
is_control (first ∷ rest) = first % 16 == RADIO_RESOURCE

-- the messages without the control messages
abbrev pub without_control : List (List ℕ) → List (List ℕ)
without_control messages = filter (λ message. not (is_control message)) messages
