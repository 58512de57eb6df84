-- SPDX-License-Identifier: MIT OR Apache-2.0
-- The fault of octets that aren't read as a message of radio resource management.
use Rattle.std.specs.Prelude.{ℕ, List, ◌++◌}
use Rattle.octets.specs.Element.{AreOctets}
use Rattle.dtap_codec.specs.declared.rr.RrMessage.{RrMessage}
use Rattle.dtap_codec.specs.declared.rr_fault.RrFault.{RrFault}
use Rattle.dtap_codec.specs.declared.rr_fault.RrFault.TheVariants.{Memory, Short, UnknownRr}
use Rattle.dtap_codec.specs.Rr.{IsRr}

-- The octets are a text of a message.
pub record IsText (octets : List ℕ) : Type 0 where
  pub message : RrMessage
  pub text : IsRr octets message

-- The octets begin a text: the octets, with `behind` appended, are a text of a message. `behind`
-- may be empty.
pub record BeginsText (octets : List ℕ) : Type 0 where
  pub behind : List ℕ
  pub are : AreOctets behind
  pub whole : IsText (octets ++ behind)

-- The condition for each fault of octets. Memory: the octets are a text. Short: the octets are no
-- text but begin one. UnknownRr: the octets begin no text.
abbrev pub HasFault : List ℕ → RrFault → Type 0
HasFault octets Memory = IsText octets
HasFault octets Short = (IsText octets → ⊥) × BeginsText octets
HasFault octets UnknownRr = BeginsText octets → ⊥
