-- SPDX-License-Identifier: MIT OR Apache-2.0
use Rattle.std.proofs.Common.{◌≡◌, ℕ, List, [], ◌∷◌, ◌++◌, Option, Some, ap, subst, sym, ◌∙◌, append-nil}
use Rattle.std.specs.Prelude.{codes}
use Rattle.std.specs.Io.KnownBytes.{Appends}
use Rattle.std.proofs.lemmas.Result.{on_ok_weaker}
use Rattle.hex.specs.Hex.{encode_lower}
use Rattle.frame_words.specs.Fields.{channel_field}
use Rattle.frame_words.proofs.fields.write_channel.Goals as goal

channel_is : (channel : Option ℕ) (octet : ℕ) (digits : List ℕ) → channel ≡ Some octet → digits ≡ encode_lower (octet ∷ [])
    → codes " channel " ++ digits ++ [] ≡ channel_field channel
channel_is channel octet digits is same =
    append-nil (codes " channel " ++ digits) ∙ ap (λ (xs : List ℕ). codes " channel " ++ xs) same ∙ sym (ap channel_field is)

pub returns-clause-text : goal.returns-clause-text
returns-clause-text g c =
    on_ok_weaker c.write_joined.result
    (subst (Appends (g.W.Write.contents c.args.output.now) (g.W.Write.contents c.write_joined.new.output))
    (channel_is c.args.channel c.in-Some.octet c.digits_of.result c.in-Some.is c.digits_of.ensures))
    c.write_joined.ensures.text
