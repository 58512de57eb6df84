-- SPDX-License-Identifier: MIT OR Apache-2.0
-- CC on its way: what is read of what the switch made, and of what stations gave.
use Rattle.world_laws.proofs.Prelude.{◌≡◌, ◌≢◌, ℕ, List, [], ◌++◌, Ok, refl, sym, ap, ◌∙◌, subst, Bssap, Management, Bssmap, InterfaceFault}
use Rattle.world_laws.proofs.Prelude.{Sccp, ConnectionConfirm, ConnectionRefused, ConnectionRequest, DataForm1, Released, bssap_reading}
use Rattle.world_laws.proofs.Prelude.{IsReference, sccp_text, SWITCH_LINK, word_by, word_from, Word, OnConnection, bssap_word}
use Rattle.world_laws.proofs.Prelude.{management_word, switch_word, Rsl, station_item, switch_item, Result, Short, reference_at}
use Rattle.world_laws.proofs.Prelude.{references_at, content_at, data_behind_at, fixed_references_at, part_at, user_data_at, content_text}
use Rattle.world_laws.proofs.Prelude.{IsFrom, bind_ok, ok_is, result_map_ok}
use Rattle.std.proofs.Common.{append-nil}
use Rattle.bssmap_codec.specs.declared.bssmap.Bssmap.TheVariants as bssmap
use Rattle.bssmap_codec.specs.declared.sccp.Sccp.TheVariants.{ReleaseComplete}
use Rattle.bssmap_codec.specs.declared.sccp_type.SccpType.{SccpType}
use Rattle.bssmap_codec.specs.declared.sccp_type.SccpType.TheVariants as kinds
use Rattle.bssmap_codec.specs.SccpReading.{data_form_at, refused_at, request_at}
use Rattle.bssmap_codec.specs.SccpReading.{sccp_reading}
use Rattle.bssmap_codec.specs.SccpType.{sccp_type, type_of}
use Rattle.bssmap_codec.proofs.Sccps.{sccp_again}
use Rattle.bssmap_codec.proofs.SccpTexts.{sccp_written}
use Rattle.controller_model.specs.Reading.{word_of}
use Rattle.octets.specs.Front.{counted_at, octet_at}
use Rattle.world_laws.specs.References.Agree.{ConfirmsBeing, ConfirmsBy, ConfirmsIn}

-- ---- what the text of a message is read as has its type

request_kind : (octets : List ℕ) (m : Sccp) → request_at octets ≡ Ok m → type_of m ≡ kinds.ConnectionRequest
unfolding request_at
request_kind octets m is =
    let a = bind_ok (reference_at octets) _ m is in
    let b = bind_ok (octet_at Short a.0.1) _ m a.2 in
    let c = bind_ok (octet_at Short b.0.1) _ m b.2 in
    let d = bind_ok (octet_at Short c.0.1) _ m c.2 in
    let f = bind_ok (part_at c.0.0 b.0.1) _ m d.2 in
    let g = bind_ok (counted_at Short f.0) _ m f.2 in
    let h = bind_ok (user_data_at d.0.0 c.0.1) _ m g.2 in
    sym (ap type_of (ok_is {A = Sccp} {F = InterfaceFault} (ConnectionRequest a.0.0 h.0) m h.2))

refused_kind : (octets : List ℕ) (m : Sccp) → refused_at octets ≡ Ok m → type_of m ≡ kinds.ConnectionRefused
unfolding refused_at
refused_kind octets m is =
    let a = bind_ok (reference_at octets) _ m is in
    let b = bind_ok (octet_at Short a.0.1) _ m a.2 in
    let c = bind_ok (octet_at Short b.0.1) _ m b.2 in
    sym (ap type_of (ok_is {A = Sccp} {F = InterfaceFault} (ConnectionRefused a.0.0) m c.2))

form_kind : (octets : List ℕ) (m : Sccp) → data_form_at octets ≡ Ok m → type_of m ≡ kinds.DataForm1
unfolding data_form_at
form_kind octets m is =
    let a = bind_ok (reference_at octets) _ m is in
    let b = bind_ok (octet_at Short a.0.1) _ m a.2 in
    let c = bind_ok (octet_at Short b.0.1) _ m b.2 in
    let d = bind_ok (data_behind_at b.0.0 b.0.1 c.0.0) _ m c.2 in
    sym (ap type_of (ok_is {A = Sccp} {F = InterfaceFault} (DataForm1 a.0.0 d.0.0) m d.2))

content_kind : (kind : SccpType) (octets : List ℕ) (m : Sccp) → content_at kind octets ≡ Ok m → type_of m ≡ kind
content_kind kinds.ConnectionRequest octets m is = request_kind octets m is
content_kind kinds.ConnectionConfirm octets m is = let a = result_map_ok (λ p. ConnectionConfirm p.0 p.1) (fixed_references_at octets) m is in sym (ap type_of a.2)
content_kind kinds.ConnectionRefused octets m is = refused_kind octets m is
content_kind kinds.Released octets m is = let a = result_map_ok (λ p. Released p.0 p.1) (fixed_references_at octets) m is in sym (ap type_of a.2)
content_kind kinds.ReleaseComplete octets m is = let a = result_map_ok (λ p. ReleaseComplete p.0 p.1) (references_at octets) m is in sym (ap type_of a.2)
content_kind kinds.DataForm1 octets m is = form_kind octets m is

-- the reading of a text is that of its content
text_content : (message : Sccp) → sccp_reading (sccp_text message) ≡ content_at (type_of message) (content_text message)
unfolding sccp_reading octet_at sccp_type
text_content (ConnectionRequest source user) = refl
text_content _ = refl

confirm_read : (d s : ℕ) → IsReference d → IsReference s → sccp_reading (sccp_text (ConnectionConfirm d s)) ≡ Ok (ConnectionConfirm d s)
confirm_read d s first second =
    subst (λ (octets : List ℕ). sccp_reading octets ≡ Ok (ConnectionConfirm d s)) (append-nil (sccp_text (ConnectionConfirm d s)))
    (sccp_again (sccp_text (ConnectionConfirm d s) ++ []) (ConnectionConfirm d s) (sccp_written (ConnectionConfirm d s) [] (first, second) refl))

-- ---- words

module _ (P : ℕ → Type 0) (n : ℕ) where
  of_management : (number : ℕ) (message : Bssmap) → ConfirmsIn P n (management_word number message)
  of_management number (bssmap.AssignmentRequest channel_type) = tt
  of_management number _ = tt

  of_bssap : (number : ℕ) (r : Result Bssap InterfaceFault) → ConfirmsIn P n (bssap_word number r)
  of_bssap number (Ok (Management message)) = of_management number message
  of_bssap number _ = tt

  of_other : (r : Result Sccp InterfaceFault) →
      ((m : Sccp) → r ≡ Ok m → type_of m ≡ kinds.ConnectionConfirm → ⊥) →
      ConfirmsIn P n (switch_word r)
  of_other (Ok (ConnectionConfirm d s)) other = absurd (other (ConnectionConfirm d s) refl refl)
  of_other (Ok (DataForm1 d user)) other = of_bssap d (bssap_reading user)
  of_other _ other = tt

  read_other : (message : Sccp) →
      (type_of message ≡ kinds.ConnectionConfirm → ⊥) →
      ConfirmsIn P n (switch_word (sccp_reading (sccp_text message)))
  read_other message other = of_other (sccp_reading (sccp_text message)) (λ m is kind. other (sym (content_kind (type_of message) (content_text message) m (sym (text_content message) ∙ is)) ∙ kind))

  read_made : (message : Sccp) → ConfirmsBy P n message → ConfirmsIn P n (switch_word (sccp_reading (sccp_text message)))
  read_made (ConnectionConfirm d s) confirms = subst (λ (r : Result Sccp InterfaceFault). ConfirmsIn P n (switch_word r)) (sym (confirm_read d s confirms.0 confirms.1)) confirms.2
  read_made (ConnectionRequest s user) confirms = read_other (ConnectionRequest s user) (λ is. absurd cc)
  read_made (ConnectionRefused d) confirms = read_other (ConnectionRefused d) (λ is. absurd cc)
  read_made (Released d s) confirms = read_other (Released d s) (λ is. absurd cc)
  read_made (ReleaseComplete d s) confirms = read_other (ReleaseComplete d s) (λ is. absurd cc)
  read_made (DataForm1 d user) confirms = read_other (DataForm1 d user) (λ is. absurd cc)

  pub confirms_switch_item : (message : Sccp) → ConfirmsBy P n message → ConfirmsBeing P n (switch_item message)
  unfolding word_of
  confirms_switch_item message confirms = read_made message confirms

  of_station : (source : ℕ) (word : Word) → source ≢ SWITCH_LINK → IsFrom source word → ConfirmsIn P n word
  of_station source (OnConnection d input) station from = absurd (station from.0)
  of_station source _ station from = tt

  pub confirms_station_item : (source : ℕ) (message : Rsl) → source ≢ SWITCH_LINK → ConfirmsBeing P n (station_item source message)
  confirms_station_item source message station = of_station source (word_by source (station_item source message).what) station (word_from source _)
