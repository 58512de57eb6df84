-- SPDX-License-Identifier: MIT OR Apache-2.0
-- The messages that the switch makes can be written.
use Rattle.std.proofs.Common.{◌≡◌, ℕ, suc, ◌+◌, ◌-◌, ◌<◌, ◌≤◌, ◌==◌, nat_eq, nat_le, Bool, true, false, cond, if◌then◌else◌, List, [], ◌∷◌, ◌++◌, length, find, Option, Some, None, Result, Ok, Err, option_map, option_to_list, refl, sym, ap, ◌∙◌, subst, inl, inr, arith}
use Rattle.std.specs.List.{AllByRecursion}
use Rattle.std.specs.Result.{result_ok}
use Rattle.std.proofs.lemmas.Bool.{cases_Bool, eqb-true}
use Rattle.std.proofs.lemmas.List.{length-append}
use Rattle.bssmap_codec.specs.declared.bssap.Bssap.{Bssap}
use Rattle.bssmap_codec.specs.declared.bssap.Bssap.TheVariants.{Management, Transfer}
use Rattle.bssmap_codec.specs.declared.bssmap.Bssmap.{Bssmap}
use Rattle.bssmap_codec.specs.declared.bssmap.Bssmap.TheVariants as bssmap
use Rattle.bssmap_codec.specs.declared.fault.InterfaceFault.{InterfaceFault}
use Rattle.bssmap_codec.specs.declared.identifiers.TheConstants.{CAUSE, ELEMENTS}
use Rattle.bssmap_codec.specs.declared.sccp.Sccp.{Sccp}
use Rattle.bssmap_codec.specs.declared.sccp.Sccp.TheVariants.{ConnectionRequest, ConnectionConfirm, ConnectionRefused, Released, ReleaseComplete, DataForm1}
use Rattle.bssmap_codec.specs.declared.values.Cause.{Cause}
use Rattle.bssmap_codec.specs.Bssap.{IsBssap, IsManagement}
use Rattle.bssmap_codec.specs.BssapReading.{bssap_reading}
use Rattle.bssmap_codec.specs.BssapText.{bssap_text, bssap_write_fault}
use Rattle.bssmap_codec.specs.Reference.{reference_text}
use Rattle.bssmap_codec.specs.Sccp.{IsData, IsSccp}
use Rattle.bssmap_codec.specs.SccpText.{size_fault}
use Rattle.bssmap_codec.specs.declared.sccp_parameters.TheConstants.{UNSEGMENTED}
use Rattle.bssmap_codec.proofs.Bssaps.{bssap_ok}
use Rattle.bssmap_codec.proofs.Fronts.{octets_behind}
use Rattle.msc_end.specs.declared.connection.Connection.{Connection}
use Rattle.msc_end.specs.declared.connection.Stage.{Stage}
use Rattle.msc_end.specs.declared.connection.Stage.TheVariants.{Open, Clearing, Ended}
use Rattle.msc_end.specs.declared.parameters.TheConstants.{CONNECTION_LIMIT, REFERENCE_BASE}
use Rattle.msc_end.specs.Switch.{connection_of, data_form, data_form_by, data_forms_on, live_reply_of, message_in, replies, replies_by, reply_by, reply_of}
use Rattle.octets.specs.declared.element.Entry.{Entry}
use Rattle.octets.specs.declared.element.Format.{Format}
use Rattle.octets.specs.declared.element.Format.TheVariants.{Tlv}
use Rattle.octets.specs.declared.limits.TheConstants.{LENGTH_LIMIT}
use Rattle.octets.specs.Element.{Element, AreElements, AreOctets, element_text, format_in}
use Rattle.octets.specs.Walk.{first_of}
use Rattle.octets.proofs.Grammar.{octets_back, octets_drop, octets_front}
use Rattle.world_ends.specs.SwitchWritten.{IsShort, IsWritten}

-- ---- an element among others

counted : (format : Format) (e : Element) → format ≡ Tlv → length (element_text format e) ≡ 2 + length e.value
counted format e is = subst (λ (f : Format). length (element_text f e) ≡ 2 + length e.value) (sym is) (two (length e.value)) where
  two : (n : ℕ) → suc (suc n) ≡ 2 + n
  two n = omega arith

some_same : {A : Type 0} {x y : A} → Some x ≡ Some y → x ≡ y
some_same e = cc

element_size : (table : List Entry) (octets : List ℕ) (es : List Element) (id : ℕ) (value : List ℕ) → format_in table id ≡ Some Tlv → AreElements table octets es false → first_of id es ≡ Some value
    → 2 + length value ≤ length octets
element_size table octets [] id value tlv are found = absurd cc
element_size table octets (e ∷ es) id value tlv (text, rest, is, whole, others) found =
    elim (cases_Bool (nat_eq e.id id)) [
      | inl here ↦
          let known : format_in table id ≡ Some is.format = subst (λ (n : ℕ). format_in table n ≡ Some is.format) (eqb-true e.id id here) is.known in
          let tlv_is : is.format ≡ Tlv = some_same (sym known ∙ tlv) in
          let size : length text ≡ 2 + length e.value = ap length is.text ∙ counted is.format e tlv_is in
          let same : e.value ≡ value = some_same (sym (ap (λ (b : Bool). option_map (λ (x : Element). x.value) (cond b (Some e) (find (λ x. x.id == id) es))) here) ∙ found) in
          let all : length octets ≡ length text + length rest = ap length whole ∙ length-append text rest in
          within (length text) (length e.value) (length value) (length rest) (length octets) size (ap length same) all
      | inr other ↦
          let later : first_of id es ≡ Some value = sym (ap (λ (b : Bool). option_map (λ (x : Element). x.value) (cond b (Some e) (find (λ x. x.id == id) es))) other) ∙ found in
          let all : length octets ≡ length text + length rest = ap length whole ∙ length-append text rest in
          more (2 + length value) (length rest) (length text) (length octets) (element_size table rest es id value tlv others later) all
    ] where
      within : (t e v r o : ℕ) → t ≡ 2 + e → e ≡ v → o ≡ t + r → 2 + v ≤ o
      within t e v r o a b c = omega arith

      more : (v r t o : ℕ) → v ≤ r → o ≡ t + r → v ≤ o
      more v r t o a b = omega arith

-- ---- a CLEAR REQUEST has room for its cause

cause_size : (user : List ℕ) (cause : Cause) → IsManagement user (bssmap.ClearRequest cause) → 5 + length cause.0 ≤ length user
cause_size user cause m =
    let found : 2 + length cause.0 ≤ length m.text.elements = element_size ELEMENTS m.text.elements m.text.found CAUSE cause.0 refl m.text.are m.text.carries.0 in
    let body : length m.body ≡ suc (length m.text.elements) = ap length m.text.is in
    let all : length user ≡ suc (suc (length (m.body ++ m.more))) = ap length m.is in
    sizes (length cause.0) (length m.text.elements) (length m.body) (length m.more) (length user) (length (m.body ++ m.more)) found body all (length-append m.body m.more) where
      sizes : (c e b r u j : ℕ) → 2 + c ≤ e → b ≡ suc e → u ≡ suc (suc j) → j ≡ b + r → 5 + c ≤ u
      sizes c e b r u j h1 h2 h3 h4 = omega arith

-- ---- what is made

short_form : (peer : ℕ) (octets : List ℕ) → length octets ≤ LENGTH_LIMIT → IsWritten (DataForm1 peer octets)
short_form peer octets few = under (length octets) few where
  under : (n : ℕ) → n ≤ LENGTH_LIMIT → size_fault n ≡ None
  under n few = grind arith

form_written : (peer : ℕ) (message : Bssap) →
    length (bssap_text message) ≤ LENGTH_LIMIT →
    AllByRecursion IsWritten (option_to_list (data_form peer message))
form_written peer message few = by_fault (bssap_write_fault message) where
  by_fault : (o : Option InterfaceFault) → AllByRecursion IsWritten (option_to_list (data_form_by o (DataForm1 peer (bssap_text message))))
  by_fault None = (short_form peer (bssap_text message) few, tt)
  by_fault (Some fault) = tt

pub forms_written : (o : Option Connection) (message : Bssap) →
    length (bssap_text message) ≤ LENGTH_LIMIT →
    AllByRecursion IsWritten (data_forms_on o message)
forms_written None message few = tt
forms_written (Some c) message few = form_written c.peer message few

clear_size : (cause : Cause) (n : ℕ) →
    5 + length cause.0 ≤ n →
    n ≤ LENGTH_LIMIT →
    length (bssap_text (Management (bssmap.ClearCommand cause))) ≤ LENGTH_LIMIT
clear_size cause n h few =
    let P : ℕ → Type 0 = λ d. suc (suc (suc (suc (suc d)))) ≤ LENGTH_LIMIT in
    subst P (sym (length-append cause.0 [] ∙ none (length cause.0))) (sizes (length cause.0) n h few) where
      none : (c : ℕ) → c + 0 ≡ c
      none c = omega arith

      sizes : (c n : ℕ) → 5 + c ≤ n → n ≤ LENGTH_LIMIT → suc (suc (suc (suc (suc c)))) ≤ LENGTH_LIMIT
      sizes c n h few = omega arith

live_written : (c : Connection) (user : List ℕ) (message : Bssap) →
    length user ≤ LENGTH_LIMIT →
    IsBssap user message →
    AllByRecursion IsWritten (option_to_list (live_reply_of c message))
live_written c user (Management (bssmap.ClearRequest cause)) few is = form_written c.peer (Management (bssmap.ClearCommand cause)) (clear_size cause (length user) (cause_size user cause is) few)
live_written c user (Management bssmap.ClearComplete) few is = (refl, tt)
live_written c user (Management _) few is = tt
live_written c user (Transfer dlci message) few is = tt

reply_written : (c : Connection) (user : List ℕ) (message : Bssap) →
    length user ≤ LENGTH_LIMIT →
    IsBssap user message →
    AllByRecursion IsWritten (option_to_list (reply_of c message))
reply_written c user message few is = by_stage c.stage where
  by_stage : (stage : Stage) → AllByRecursion IsWritten (option_to_list (reply_by stage c message))
  by_stage Open = live_written c user message few is
  by_stage Clearing = live_written c user message few is
  by_stage Ended = tt

data_written : (o : Option Connection) (user : List ℕ) →
    length user ≤ LENGTH_LIMIT →
    AreOctets user →
    AllByRecursion IsWritten (replies_by o (message_in user))
data_written None user few octets = tt
data_written (Some c) user few octets = by_reading (bssap_reading user) refl where
  by_reading : (r : Result Bssap InterfaceFault) → bssap_reading user ≡ r → AllByRecursion IsWritten (replies_by (Some c) (result_ok r))
  by_reading (Ok message) is = reply_written c user message few (bssap_ok user message octets is)
  by_reading (Err fault) is = tt

pub replies_written : (connections : List Connection) (message : Sccp) →
    IsShort message →
    AllByRecursion IsWritten (replies connections message)
replies_written connections (ConnectionRequest source user) short = by_count (nat_le CONNECTION_LIMIT (length connections)) where
  by_count : (b : Bool) →
      AllByRecursion IsWritten (if b then ConnectionRefused source ∷ [] else ConnectionConfirm source (REFERENCE_BASE + (length connections + 1)) ∷ [])
  by_count true = (refl, tt)
  by_count false = (refl, tt)
replies_written connections (DataForm1 destination user) short = data_written (connection_of connections (destination - REFERENCE_BASE)) user short.0 short.1
replies_written connections (ConnectionConfirm destination source) short = tt
replies_written connections (ConnectionRefused destination) short = tt
replies_written connections (Released destination source) short = tt
replies_written connections (ReleaseComplete destination source) short = tt

-- ---- what is read

user_octets : (octets user : List ℕ) (destination : ℕ) → AreOctets octets → IsData octets destination user → AreOctets user
user_octets octets user destination fits data_is =
    let behind : AreOctets (UNSEGMENTED ∷ data_is.rest) = octets_back (reference_text destination) (UNSEGMENTED ∷ data_is.rest) (subst AreOctets data_is.is fits) in
    let rest : AreOctets data_is.rest = octets_behind UNSEGMENTED data_is.rest (UNSEGMENTED ∷ data_is.rest) refl behind in
    let part : AreOctets data_is.part = subst AreOctets data_is.points.leads (octets_drop data_is.points.pointer data_is.rest rest) in
    let value : AreOctets (user ++ data_is.counted.more) = octets_behind (length user) (user ++ data_is.counted.more) data_is.part data_is.counted.is part in
    octets_front user data_is.counted.more value

pub read_short : (octets : List ℕ) (message : Sccp) → AreOctets octets → IsSccp octets message → IsShort message
read_short octets (DataForm1 destination user) fits is =
    (is.content.counted.short, user_octets is.rest user destination (octets_behind _ is.rest octets is.is fits) is.content)
read_short octets (ConnectionRequest source user) fits is = tt
read_short octets (ConnectionConfirm destination source) fits is = tt
read_short octets (ConnectionRefused destination) fits is = tt
read_short octets (Released destination source) fits is = tt
read_short octets (ReleaseComplete destination source) fits is = tt
