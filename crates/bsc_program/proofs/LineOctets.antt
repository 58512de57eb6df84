-- SPDX-License-Identifier: MIT OR Apache-2.0
-- The event of a script line carries octets: its numbers and octets are those that the words say.
use Rattle.std.proofs.Common.{◌≡◌, ℕ, ◌<◌, ◌≤◌, Bool, true, false, ◌&&◌, nat_eq, nat_le, List, length, Some, None, Result, Ok, Err, refl, subst, arith, if◌then◌else◌}
use Rattle.std.specs.Result.{result_ok}
use Rattle.std.proofs.lemmas.Bool.{and_parts, leb-true}
use Rattle.std.proofs.lemmas.Option.{cond_some, same_Some}
use Rattle.hex.specs.Hex.{decode_of}
use Rattle.hex.specs.declared.error.FromHexError.{FromHexError}
use Rattle.hex.proofs.HexLemmas.{decode_of-ok}
use Rattle.octets.specs.Element.{AreOctets}
use Rattle.world_laws.specs.Order.OctetEvents.{IsOctetEvent}
use Rattle.world_model.specs.declared.event.Event.{Event}
use Rattle.world_model.specs.declared.event.Event.TheVariants.{Upper, Connect, SwitchDoes, Report}
use Rattle.world_model.specs.declared.event.SwitchAction.TheVariants.{Assign, Clear, Dtap}
use Rattle.program_base.specs.Script.{AreWords, IsLine, words_of}
use Rattle.program_base.specs.Words.{decimal_after, is_decimal, mobile_in, octets_in}

octets-of : (word octets : List ℕ) → octets_in word ≡ Some octets → AreOctets octets
octets-of word octets says = by (nat_eq (length word) 0) (decode_of word) refl says where
  by : (none : Bool) (answer : Result (List ℕ) FromHexError) →
      decode_of word ≡ answer →
      (if none then None else result_ok answer) ≡ Some octets →
      AreOctets octets
  by true answer is says = absurd (cc says)
  by false (Err fault) is says = absurd (cc says)
  by false (Ok read) is says = subst AreOctets (same_Some read octets says) (decode_of-ok word read is).3

octet_of : (word : List ℕ) (mobile : ℕ) → mobile_in word ≡ Some mobile → mobile < 256
octet_of word mobile says =
    let n : ℕ = decimal_after 0 word in
    let within = cond_some (is_decimal word && nat_le 1 n && nat_le n 255) n mobile says in
    let most : n ≤ 255 = leb-true n 255 (and_parts (is_decimal word && nat_le 1 n) (nat_le n 255) within.0).1 in
    omega (arith, within.1, most)

words_of_octets : (cells : ℕ) (event : Event) (words : List (List ℕ)) → AreWords cells (words_of event) words → IsOctetEvent event
words_of_octets cells (Upper m s o) words (name, rest, split, named, (w, ws, split_w, is_m, (v, vs, split_v, is_s, (u, us, split_u, is_o, end)))) = octets-of u o is_o
words_of_octets cells (Connect m b o y) words (name, rest, split, named, (w, ws, split_w, is_m, (v, vs, split_v, is_b, (u, us, split_u, is_o, more)))) = (octet_of w m is_m, octets-of u o is_o)
words_of_octets cells (Report m o) words (name, rest, split, named, (w, ws, split_w, is_m, (u, us, split_u, is_o, end))) = octets-of u o is_o
words_of_octets cells (SwitchDoes (Dtap c s o)) words (name, rest, split, named, (act, more, split_act, acts, (w, ws, split_w, is_c, (v, vs, split_v, is_s, (u, us, split_u, is_o, end))))) = octets-of u o is_o
words_of_octets cells (SwitchDoes (Assign c)) words say = tt
words_of_octets cells (SwitchDoes (Clear c)) words say = tt
words_of_octets cells _ words say = tt

pub line_is_of_octets : (cells : ℕ) (event : Event) (line : List ℕ) → IsLine cells event line → IsOctetEvent event
line_is_of_octets cells event line is = words_of_octets cells event is.words is.say
