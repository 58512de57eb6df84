-- SPDX-License-Identifier: MIT OR Apache-2.0
-- Rows: the definitions on literal frames.
use Rattle.std.proofs.Common.{◌≡◌, ℕ, true, false, [], ◌∷◌, Some, None, refl}
use Rattle.octets.proofs.Hex.{hex}
use Rattle.conn_messages.specs.declared.out.Out.{Out}
use Rattle.ipa_framing.specs.declared.frame.Frame.{Frame}
use Rattle.ipa_framing.specs.Front.{frame}
use Rattle.record_steps.specs.declared.recorded_step.PutFrame.{PutFrame}
use Rattle.rerun.specs.declared.difference.Extent.TheVariants.{All, First}
use Rattle.rerun.specs.Difference.{first_difference, is_same, put_of}

abbrev releases : Frame
releases = frame 0x00 (hex "08 2e 01 41")

abbrev tells : Frame
tells = frame 0xfd (hex "06 00 00 01 00 01 00")

abbrev out : ℕ → Frame → Out
out link frame = record { to = link; conn = 7; frame = frame }

abbrev put : ℕ → Frame → PutFrame
put link frame = record { link = link; frame = frame }

is_put : put_of (out 2 releases) ≡ put 2 releases
is_put = refl

-- the link, the stream and each octet count; the connection isn't in a record
compared : is_same (out 1 releases) (put 1 releases) ∷ is_same (out 1 releases) (put 2 releases)
    ∷ is_same (out 1 releases) (put 1 (frame 0x01 (hex "08 2e 01 41"))) ∷ is_same (out 1 releases) (put 1 (frame 0x00 (hex "08 2e 01 42")))
    ∷ is_same (out 1 releases) (put 1 (frame 0x00 (hex "08 2e 01"))) ∷ [] ≡ true ∷ false ∷ false ∷ false ∷ false ∷ []
compared = refl

none : first_difference All [] [] ∷ first_difference All (out 0 tells ∷ out 1 releases ∷ []) (put 0 tells ∷ put 1 releases ∷ []) ∷ []
    ≡ None ∷ None ∷ []
none = refl

second : first_difference All (out 0 tells ∷ out 1 releases ∷ out 2 releases ∷ []) (put 0 tells ∷ put 2 releases ∷ put 1 releases ∷ []) ≡ Some 1
second = refl

one_more : first_difference All (out 0 tells ∷ out 1 releases ∷ []) (put 0 tells ∷ []) ∷ first_difference First (out 0 tells ∷ out 1 releases ∷ []) (put 0 tells ∷ [])
    ∷ first_difference First (out 0 tells ∷ []) [] ∷ first_difference All (out 0 tells ∷ []) [] ∷ [] ≡ Some 1 ∷ None ∷ None ∷ Some 0 ∷ []
one_more = refl

one_less : first_difference All (out 0 tells ∷ []) (put 0 tells ∷ put 1 releases ∷ []) ∷ first_difference First (out 0 tells ∷ []) (put 0 tells ∷ put 1 releases ∷ [])
    ∷ first_difference First [] (put 1 releases ∷ []) ∷ [] ≡ Some 1 ∷ Some 1 ∷ Some 0 ∷ []
one_less = refl
