-- SPDX-License-Identifier: MIT OR Apache-2.0
-- The octets that are written for a message of SCCP are a text of it.
use Rattle.std.proofs.Common.{◌≡◌, ℕ, ◌≤◌, ltb, List, [], ◌∷◌, ◌++◌, length, drop, Option, Some, None, refl, sym, subst, arith, inl, inr, append_assoc}
use Rattle.std.proofs.lemmas.Bool.{ltb-false}
use Rattle.octets.specs.Front.{counted_text}
use Rattle.bssmap_codec.specs.declared.fault.InterfaceFault.TheVariants.{TooLong}
use Rattle.bssmap_codec.specs.declared.identifiers.TheConstants.{END_OF_OPTIONS, USER_DATA}
use Rattle.octets.specs.declared.limits.TheConstants.{LENGTH_LIMIT}
use Rattle.bssmap_codec.specs.declared.sccp.Sccp.{Sccp}
use Rattle.bssmap_codec.specs.declared.sccp.Sccp.TheVariants.{ConnectionRequest, ConnectionConfirm, ConnectionRefused, Released, ReleaseComplete, DataForm1}
use Rattle.bssmap_codec.specs.declared.sccp_parameters.TheConstants.{ADDRESS_POINTER, CALLED_ADDRESS, DATA_POINTER, END_USER_ORIGINATED, NO_PART, OPTIONS_POINTER, PROTOCOL_CLASS}
use Rattle.bssmap_codec.specs.Reference.{IsReference}
use Rattle.bssmap_codec.specs.Sccp.{Options, IsRequest, IsContent, IsSccp}
use Rattle.bssmap_codec.specs.Sccp.Options.{carried}
use Rattle.bssmap_codec.specs.SccpText.{content_text, options_text, sccp_text, size_fault, sccp_write_fault, HasReferences}
use Rattle.bssmap_codec.proofs.Layer3s.{chosen}

-- a size that isn't refused can be counted
pub counts : (size : ℕ) → size_fault size ≡ None → size ≤ LENGTH_LIMIT
counts size e = ltb-false LENGTH_LIMIT size (chosen (ltb LENGTH_LIMIT size) TooLong None e).0

request_text : (source : ℕ) (user : Option (List ℕ)) (more : List ℕ) → IsReference source →
    sccp_write_fault (ConnectionRequest source user) ≡ None →
    IsRequest (content_text (ConnectionRequest source user) ++ more) source user
request_text source None more h e = record {
  class = PROTOCOL_CLASS;
  address = ADDRESS_POINTER;
  options = options_text None ++ more;
  is = refl;
  reference = h;
  called = CALLED_ADDRESS ++ more;
  points = record { pointer = ADDRESS_POINTER; rest = options_text None ++ more; is = refl; forward = omega arith; within = omega arith; leads = refl };
  number = drop 1 CALLED_ADDRESS;
  counted = record { more = more; is = refl; short = omega arith };
  carries = inl (record { rest = CALLED_ADDRESS ++ more; is = refl }, refl);
}
request_text source (Some user) more h e =
    let behind : List ℕ = (counted_text user ++ END_OF_OPTIONS ∷ []) ++ more in
    let same : behind ≡ counted_text user ++ (END_OF_OPTIONS ∷ more) = append_assoc (counted_text user) (END_OF_OPTIONS ∷ []) more in
    let options : Options (USER_DATA ∷ behind) (Some user) =
    subst (λ (xs : List ℕ). Options (USER_DATA ∷ xs) (Some user)) (sym same) (carried user (END_OF_OPTIONS ∷ more) (counts (length user) e)) in
    record {
      class = PROTOCOL_CLASS;
      address = ADDRESS_POINTER;
      options = OPTIONS_POINTER ∷ (CALLED_ADDRESS ++ USER_DATA ∷ behind);
      is = refl;
      reference = h;
      called = CALLED_ADDRESS ++ USER_DATA ∷ behind;
      points = record { pointer = ADDRESS_POINTER; rest = OPTIONS_POINTER ∷ (CALLED_ADDRESS ++ USER_DATA ∷ behind); is = refl; forward = omega arith; within = omega arith; leads = refl };
      number = drop 1 CALLED_ADDRESS;
      counted = record { more = USER_DATA ∷ behind; is = refl; short = omega arith };
      carries = inr (record {
        part = USER_DATA ∷ behind;
        points = record { pointer = OPTIONS_POINTER; rest = CALLED_ADDRESS ++ USER_DATA ∷ behind; is = refl; forward = omega arith; within = omega arith; leads = refl };
        options = options;
      });
    }

content_written : (message : Sccp) (more : List ℕ) → HasReferences message → sccp_write_fault message ≡ None →
    IsContent (content_text message ++ more) message
content_written (ConnectionRequest source user) more h e = request_text source user more h e
content_written (ConnectionConfirm destination source) more h e = record { class = PROTOCOL_CLASS; pointer = NO_PART; more = more; are = record { is = refl; to = h.0; from = h.1 } }
content_written (ConnectionRefused destination) more h e = record { cause = END_USER_ORIGINATED; pointer = NO_PART; more = more; is = refl; to = h }
content_written (Released destination source) more h e = record { class = END_USER_ORIGINATED; pointer = NO_PART; more = more; are = record { is = refl; to = h.0; from = h.1 } }
content_written (ReleaseComplete destination source) more h e = record { more = more; are = record { is = refl; to = h.0; from = h.1 } }
content_written (DataForm1 destination user) more h e = record {
  rest = DATA_POINTER ∷ (counted_text user ++ more);
  is = refl;
  to = h;
  part = counted_text user ++ more;
  points = record { pointer = DATA_POINTER; rest = counted_text user ++ more; is = refl; forward = omega arith; within = omega arith; leads = refl };
  counted = record { more = more; is = refl; short = counts (length user) e };
}

pub sccp_written : (message : Sccp) (more : List ℕ) → HasReferences message → sccp_write_fault message ≡ None →
    IsSccp (sccp_text message ++ more) message
sccp_written message more h e = record { rest = content_text message ++ more; is = refl; content = content_written message more h e }
