-- SPDX-License-Identifier: MIT OR Apache-2.0
-- The octets that are written for a message of BSSAP are a text of it.
use Rattle.std.proofs.Common.{◌≡◌, ℕ, ◌<◌, ◌≤◌, true, false, List, [], ◌∷◌, ◌++◌, length, Option, Some, None, option_map, refl, sym, subst, arith, append-nil}
use Rattle.std.proofs.lemmas.Grind.{common_steps}
use Rattle.octets.specs.declared.element.Format.TheVariants.{Tv, Tlv}
use Rattle.octets.specs.Element.{AreElements}
use Rattle.octets.specs.Field.{Fits, FitsIfPresent, AllFit, are_distinct, fields_text}
use Rattle.octets.specs.Refusal.{first_refusal}
use Rattle.octets.proofs.Fields.{elements_of, fields_are, fields_carried}
use Rattle.bssmap_codec.specs.declared.fault.InterfaceFault.{InterfaceFault}
use Rattle.bssmap_codec.specs.declared.bssap.Bssap.{Bssap}
use Rattle.bssmap_codec.specs.declared.bssap.Bssap.TheVariants.{Management, Transfer}
use Rattle.bssmap_codec.specs.declared.bssmap.Bssmap.{Bssmap}
use Rattle.bssmap_codec.specs.declared.bssmap.Bssmap.TheVariants.{AssignmentRequest, AssignmentComplete, AssignmentFailure, HandoverPerformed, ClearCommand, ClearComplete, ClearRequest, SapiNReject, CipherModeCommand, CompleteLayer3Information, CipherModeReject}
use Rattle.octets.specs.declared.limits.TheConstants.{LENGTH_LIMIT}
use Rattle.bssmap_codec.specs.declared.identifiers.TheConstants.{ELEMENTS, CAUSE, CELL_IDENTIFIER, RR_CAUSE}
use Rattle.bssmap_codec.specs.declared.values.RrCause.{RrCause}
use Rattle.bssmap_codec.specs.Bssap.{fields, HasLayer3, IsBssmap, IsBssap}
use Rattle.bssmap_codec.specs.BssapText.{bssmap_text, bssap_text, bssmap_size, content_fault, bssap_write_fault, HasDlci}
use Rattle.bssmap_codec.specs.SccpText.{size_fault}
use Rattle.bssmap_codec.proofs.Layer3s.{layer3_is}
use Rattle.bssmap_codec.proofs.SccpTexts.{counts}

rr_fits : (rr_cause : Option RrCause) → FitsIfPresent ELEMENTS RR_CAUSE (option_map (λ c. c.0 ∷ []) rr_cause)
rr_fits None = tt
rr_fits (Some cause) = record { format = Tv 1; known = refl; size = refl }

cause_fits : (value : List ℕ) → length value < 256 → Fits ELEMENTS CAUSE value
cause_fits value h = record { format = Tlv; known = refl; size = h }

cell_fits : (value : List ℕ) → length value < 256 → Fits ELEMENTS CELL_IDENTIFIER value
cell_fits value h = record { format = Tlv; known = refl; size = h }

-- each element of a message that isn't too long has a text
all_fit : (message : Bssmap) → bssmap_size message ≤ LENGTH_LIMIT → AllFit ELEMENTS (fields message)
all_fit (AssignmentRequest channel) h = (record { format = Tlv; known = refl; size = omega arith }, tt)
all_fit (AssignmentComplete rr_cause) h = (rr_fits rr_cause, tt)
all_fit (AssignmentFailure cause rr_cause) h = (cause_fits cause.0 (omega arith), (rr_fits rr_cause, tt))
all_fit (HandoverPerformed cause cell) h = (cause_fits cause.0 (omega arith), (cell_fits cell.0 (omega arith), tt))
all_fit (ClearCommand cause) h = (cause_fits cause.0 (omega arith), tt)
all_fit ClearComplete h = tt
all_fit (ClearRequest cause) h = (cause_fits cause.0 (omega arith), tt)
all_fit (SapiNReject dlci cause) h = (record { format = Tv 1; known = refl; size = refl }, (cause_fits cause.0 (omega arith), tt))
all_fit CipherModeCommand h = tt
all_fit (CompleteLayer3Information cell message) h = (cell_fits cell.0 (omega arith), (record { format = Tlv; known = refl; size = omega arith }, tt))
all_fit (CipherModeReject cause) h = (cause_fits cause.0 (omega arith), tt)

distinct : (message : Bssmap) → are_distinct (fields message) ≡ true
distinct (AssignmentRequest channel) = refl
distinct (AssignmentComplete rr_cause) = refl
distinct (AssignmentFailure cause rr_cause) = refl
distinct (HandoverPerformed cause cell) = refl
distinct (ClearCommand cause) = refl
distinct ClearComplete = refl
distinct (ClearRequest cause) = refl
distinct (SapiNReject dlci cause) = refl
distinct CipherModeCommand = refl
distinct (CompleteLayer3Information cell message) = refl
distinct (CipherModeReject cause) = refl

-- how long the text is
pub size_is : (message : Bssmap) → length (bssmap_text message) ≡ bssmap_size message
size_is (AssignmentRequest channel) = grind (arith, common_steps)
size_is (AssignmentComplete None) = refl
size_is (AssignmentComplete (Some cause)) = refl
size_is (AssignmentFailure cause None) = grind (arith, common_steps)
size_is (AssignmentFailure cause (Some rr)) = grind (arith, common_steps)
size_is (HandoverPerformed cause cell) = grind (arith, common_steps)
size_is (ClearCommand cause) = grind (arith, common_steps)
size_is ClearComplete = refl
size_is (ClearRequest cause) = grind (arith, common_steps)
size_is (SapiNReject dlci cause) = grind (arith, common_steps)
size_is CipherModeCommand = refl
size_is (CompleteLayer3Information cell message) = grind (arith, common_steps)
size_is (CipherModeReject cause) = grind (arith, common_steps)

-- ---- what isn't refused

first_is : (first later : Option InterfaceFault) → first_refusal first later ≡ None → (first ≡ None) × (later ≡ None)
first_is None later e = (refl, e)
first_is (Some fault) later e = absurd cc

content_is : (message : Bssmap) → content_fault message ≡ None → HasLayer3 message
content_is (AssignmentRequest channel) e = tt
content_is (AssignmentComplete rr_cause) e = tt
content_is (AssignmentFailure cause rr_cause) e = tt
content_is (HandoverPerformed cause cell) e = tt
content_is (ClearCommand cause) e = tt
content_is ClearComplete e = tt
content_is (ClearRequest cause) e = tt
content_is (SapiNReject dlci cause) e = tt
content_is CipherModeCommand e = tt
content_is (CompleteLayer3Information cell message) e = layer3_is message e
content_is (CipherModeReject cause) e = tt

-- ---- the text

bssmap_written : (message : Bssmap) → content_fault message ≡ None → bssmap_size message ≤ LENGTH_LIMIT →
    IsBssmap (bssmap_text message) message
bssmap_written message e h =
    let are : AreElements ELEMENTS (fields_text ELEMENTS (fields message) ++ []) (elements_of (fields message)) false = fields_are ELEMENTS (fields message) [] (all_fit message h) tt in
    record {
      elements = fields_text ELEMENTS (fields message);
      is = refl;
      found = elements_of (fields message);
      are = subst (λ (xs : List ℕ). AreElements ELEMENTS xs (elements_of (fields message)) false) (append-nil (fields_text ELEMENTS (fields message))) are;
      carries = fields_carried (fields message) (distinct message);
      layer3 = content_is message e;
    }

pub bssap_written : (message : Bssap) (more : List ℕ) → HasDlci message → bssap_write_fault message ≡ None →
    IsBssap (bssap_text message ++ more) message
bssap_written (Management message) more has e =
    let parts = first_is (content_fault message) (size_fault (bssmap_size message)) e in
    let size : bssmap_size message ≤ LENGTH_LIMIT = counts (bssmap_size message) parts.1 in
    record {
      body = bssmap_text message;
      more = more;
      is = refl;
      short = subst (λ (n : ℕ). n ≤ LENGTH_LIMIT) (sym (size_is message)) size;
      text = bssmap_written message parts.0 size;
    }
bssap_written (Transfer dlci message) more has e = record { more = more; is = refl; link = has; layer3 = layer3_is message e }
