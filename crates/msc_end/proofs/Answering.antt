-- SPDX-License-Identifier: MIT OR Apache-2.0
-- A CLEAR REQUEST is answered: there is room for its cause in a CLEAR COMMAND.
use Rattle.std.proofs.Common.{◌≡◌, ℕ, suc, ◌+◌, ◌-◌, ◌≤◌, ◌==◌, nat_eq, Bool, false, cond, List, [], ◌∷◌, ◌++◌, length, find, Option, Some, None, Result, Ok, Err, option_map, option_to_list, refl, sym, ap, ◌∙◌, subst, arith, inl, inr}
use Rattle.std.specs.Result.{result_ok}
use Rattle.std.proofs.lemmas.Bool.{cases_Bool, eqb-true}
use Rattle.std.proofs.lemmas.List.{length-append}
use Rattle.bssmap_codec.specs.declared.bssap.Bssap.{Bssap}
use Rattle.bssmap_codec.specs.declared.bssap.Bssap.TheVariants.{Management, Transfer}
use Rattle.bssmap_codec.specs.declared.bssmap.Bssmap.TheVariants as bssmap
use Rattle.bssmap_codec.specs.declared.fault.InterfaceFault.{InterfaceFault}
use Rattle.bssmap_codec.specs.declared.identifiers.TheConstants.{CAUSE, ELEMENTS}
use Rattle.bssmap_codec.specs.declared.sccp.Sccp.{Sccp}
use Rattle.bssmap_codec.specs.declared.sccp.Sccp.TheVariants.{DataForm1}
use Rattle.bssmap_codec.specs.declared.values.Cause.{Cause}
use Rattle.bssmap_codec.specs.Bssap.{IsBssap, IsManagement}
use Rattle.bssmap_codec.specs.BssapReading.{bssap_reading}
use Rattle.bssmap_codec.specs.BssapText.{bssap_text, bssap_write_fault}
use Rattle.bssmap_codec.specs.SccpText.{size_fault}
use Rattle.bssmap_codec.proofs.Bssaps.{bssap_ok}
use Rattle.octets.specs.declared.element.Entry.{Entry}
use Rattle.octets.specs.declared.element.Format.{Format}
use Rattle.octets.specs.declared.element.Format.TheVariants.{Tlv}
use Rattle.octets.specs.declared.limits.TheConstants.{LENGTH_LIMIT}
use Rattle.octets.specs.Element.{Element, AreElements, AreOctets, element_text, format_in}
use Rattle.octets.specs.Walk.{first_of}
use Rattle.msc_end.specs.declared.connection.Connection.{Connection}
use Rattle.msc_end.specs.declared.connection.Stage.{Stage}
use Rattle.msc_end.specs.declared.connection.Stage.TheVariants.{Open, Clearing, Ended}
use Rattle.msc_end.specs.declared.parameters.TheConstants.{REFERENCE_BASE}
use Rattle.msc_end.specs.Switch.{connection_of, data_form_by, live_reply_count, live_reply_of, message_in, replies, replies_by, reply_by, reply_count, reply_count_by, reply_count_of}

-- ---- an element among others

counted : (format : Format) (e : Element) → format ≡ Tlv → length (element_text format e) ≡ 2 + length e.value
counted format e is = subst (λ (f : Format). length (element_text f e) ≡ 2 + length e.value) (sym is) (two (length e.value)) where
  two : (n : ℕ) → suc (suc n) ≡ 2 + n
  two n = omega arith

some_same : {A : Type 0} {x y : A} → Some x ≡ Some y → x ≡ y
some_same e = cc

pub element_size : (table : List Entry) (octets : List ℕ) (es : List Element) (id : ℕ) (value : List ℕ) → format_in table id ≡ Some Tlv → AreElements table octets es false → first_of id es ≡ Some value
    → 2 + length value ≤ length octets
element_size table octets [] id value tlv are found = absurd cc
element_size table octets (e ∷ es) id value tlv (text, rest, is, whole, others) found =
    elim (cases_Bool (nat_eq e.id id)) [
      | inl here ↦
          let known : format_in table id ≡ Some is.format = subst (λ (n : ℕ). format_in table n ≡ Some is.format) (eqb-true e.id id here) is.known in
          let tlv_is : is.format ≡ Tlv = some_same (sym known ∙ tlv) in
          let size : length text ≡ 2 + length e.value = ap length is.text ∙ counted is.format e tlv_is in
          let same : e.value ≡ value = some_same (sym (ap (λ (b : Bool). option_map (λ (x : Element). x.value) (cond b (Some e) (find (λ x. x.id == id) es))) here) ∙ found) in
          let all : length octets ≡ length text + length rest = ap length whole ∙ length-append text rest in
          within (length text) (length e.value) (length value) (length rest) (length octets) size (ap length same) all
      | inr other ↦
          let later : first_of id es ≡ Some value = sym (ap (λ (b : Bool). option_map (λ (x : Element). x.value) (cond b (Some e) (find (λ x. x.id == id) es))) other) ∙ found in
          let all : length octets ≡ length text + length rest = ap length whole ∙ length-append text rest in
          more (2 + length value) (length rest) (length text) (length octets) (element_size table rest es id value tlv others later) all
    ] where
      within : (t e v r o : ℕ) → t ≡ 2 + e → e ≡ v → o ≡ t + r → 2 + v ≤ o
      within t e v r o a b c = omega arith

      more : (v r t o : ℕ) → v ≤ r → o ≡ t + r → v ≤ o
      more v r t o a b = omega arith

-- ---- what is replied

-- the grammar has the length in an octet
few : (user : List ℕ) (cause : Cause) → IsManagement user (bssmap.ClearRequest cause) → 3 + length cause.0 ≤ LENGTH_LIMIT
few user cause m =
    let found : 2 + length cause.0 ≤ length m.text.elements = element_size ELEMENTS m.text.elements m.text.found CAUSE cause.0 refl m.text.are m.text.carries.0 in
    let body : length m.body ≡ suc (length m.text.elements) = ap length m.text.is in
    let short : length m.body ≤ LENGTH_LIMIT = m.short in
    sizes (length cause.0) (length m.text.elements) (length m.body) LENGTH_LIMIT found body short where
      sizes : (c e b l : ℕ) → 2 + c ≤ e → b ≡ suc e → b ≤ l → 3 + c ≤ l
      sizes c e b l h1 h2 h3 = omega arith

counted_size : (n : ℕ) → n ≤ LENGTH_LIMIT → size_fault n ≡ None
counted_size n few = grind arith

command_written : (user : List ℕ) (cause : Cause) →
    IsManagement user (bssmap.ClearRequest cause) →
    bssap_write_fault (Management (bssmap.ClearCommand cause)) ≡ None
command_written user cause m = counted_size (3 + length cause.0) (few user cause m)

live_count : (c : Connection) (user : List ℕ) (message : Bssap) →
    IsBssap user message →
    length (option_to_list (live_reply_of c message)) ≡ live_reply_count message
live_count c user (Management (bssmap.ClearRequest cause)) is =
    ap (λ (o : Option InterfaceFault). length (option_to_list (data_form_by o (DataForm1 c.peer (bssap_text (Management (bssmap.ClearCommand cause))))))) (command_written user cause is)
live_count c user (Management bssmap.ClearComplete) is = refl
live_count c user (Management _) is = refl
live_count c user (Transfer dlci message) is = refl

data_count : (o : Option Connection) (user : List ℕ) →
    AreOctets user →
    length (replies_by o (message_in user)) ≡ reply_count_of o (message_in user)
data_count None user octets = refl
data_count (Some c) user octets = by_reading (bssap_reading user) refl where
  by_stage : (stage : Stage) (message : Bssap) →
      IsBssap user message →
      length (option_to_list (reply_by stage c message)) ≡ reply_count_by stage message
  by_stage Open message is = live_count c user message is
  by_stage Clearing message is = live_count c user message is
  by_stage Ended message is = refl

  by_reading : (r : Result Bssap InterfaceFault) →
      bssap_reading user ≡ r →
      length (replies_by (Some c) (result_ok r)) ≡ reply_count_of (Some c) (result_ok r)
  by_reading (Ok message) is = by_stage c.stage message (bssap_ok user message octets is)
  by_reading (Err fault) is = refl

-- so as many are appended
pub appended : (old new : List Sccp) (connections : List Connection) (destination : ℕ) (user : List ℕ) → AreOctets user → new ≡ old ++ replies connections (DataForm1 destination user)
    → length new ≡ length old + reply_count connections (DataForm1 destination user)
appended old new connections destination user octets is =
    ap length is ∙ length-append old (replies connections (DataForm1 destination user))
    ∙ ap (λ (n : ℕ). length old + n) (data_count (connection_of connections (destination - REFERENCE_BASE)) user octets)
