-- SPDX-License-Identifier: MIT OR Apache-2.0
-- The line that `decode --long` prints for a frame: three columns, separated by tabs.
use Rattle.std.specs.Prelude.{ℕ, List, [], ◌∷◌, ◌++◌, codes, drop}
use Rattle.hex.specs.Hex.{encode_lower}
use Rattle.ipa_framing.specs.declared.frame.Frame.{Frame}
use Rattle.frame_words.specs.Fields.{fields_text}
use Rattle.frame_words.specs.MessageName.{message_name}
use Rattle.frame_words.specs.Numbered.{number_field, number_in_frame}

-- the fields of a frame, and the number N(SD) of its message, which is read modulo 4
abbrev pub said_text : Frame → List ℕ
said_text frame = fields_text frame ++ number_field (number_in_frame 4 frame)

-- the stream of a frame, the frame's name, and the name of the message inside the frame
abbrev pub names_text : Frame → List ℕ
names_text frame = encode_lower (frame.stream ∷ []) ++ codes " " ++ message_name frame

-- the column with the octets of a frame's body, and the line feed
abbrev pub body_text : Frame → List ℕ
body_text frame = codes "\t" ++ encode_lower frame.body ++ codes "\n"

abbrev pub columns_text : Frame → List ℕ → List ℕ
columns_text frame said = names_text frame ++ codes "\t" ++ said ++ body_text frame

abbrev pub long_line : Frame → List ℕ
long_line frame = columns_text frame (drop 1 (said_text frame))
