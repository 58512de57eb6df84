-- SPDX-License-Identifier: MIT OR Apache-2.0
-- The name of a frame, followed by the name of the message inside the frame.
use Rattle.std.specs.Prelude.{ℕ, List, [], ◌++◌, codes, Option, Some, None}
use Rattle.ipa_framing.specs.declared.frame.Frame.{Frame}
use Rattle.program_base.specs.Names.{name_of}
use Rattle.frame_words.specs.Carried.{carried_by}

abbrev pub behind_space : Option (List ℕ) → List ℕ
behind_space None = []
behind_space (Some name) = codes " " ++ name

abbrev pub message_name : Frame → List ℕ
message_name frame = name_of frame ++ behind_space (carried_by frame)
