-- SPDX-License-Identifier: MIT OR Apache-2.0
-- The entries that a step of the controller puts for the switch: what the switch reads of them, and
-- what they carry.
use Rattle.world_laws.proofs.Prelude.{◌≡◌, ◌≢◌, ℕ, ◌≤◌, ◌==◌, ◌&&◌, Bool, true, false, cond, if◌then◌else◌, List, [], ◌∷◌, ◌++◌, filter}
use Rattle.world_laws.proofs.Prelude.{map, Option, Some, Ok, refl, sym, ap, ◌∙◌, subst, arith, inl, inr, AllByRecursion, flat_map}
use Rattle.world_laws.proofs.Prelude.{result_ok, eq-eqb, ne_eqb, append-nil, map-append, filter-append, Bssap, Management}
use Rattle.world_laws.proofs.Prelude.{InterfaceFault, Sccp, IsReference, Message, Station, Request, Data, ReleaseComplete, Out, SWITCH_LINK}
use Rattle.world_laws.proofs.Prelude.{IsReadOf, outs_of, relayed, is_for, outs_for, IsSent, outs_own, IsText, forwarded_seen, Forwarded}
use Rattle.world_laws.proofs.Prelude.{pong, forwarded_by, Sapi, Zero, Three, OutboxEntry, Tenure, to_link, Result, sccp_reading}
use Rattle.world_laws.proofs.Prelude.{forwarded_in, to_switch, carried_for, entry_out}
use Rattle.bssmap_codec.specs.declared.bssmap.Bssmap.TheVariants as bssmap
use Rattle.conn_messages.specs.Out.{out_of}
use Rattle.conn_messages.specs.SwitchMessage.{clear_complete}
use Rattle.controller_model.specs.Views.{forwarded}
use Rattle.world_model.specs.Relay.{entry_of}
use Rattle.world_laws.specs.References.Agree.{IsHeeded, IsRight, reads, reads_of}
use Rattle.world_laws.specs.References.Naming.{ArePlain, AreQuiet, IsAsking, IsClearing, IsPlain, IsQuiet}
use Rattle.world_laws.specs.References.Reads.{AreNothing, ArePlainReads, IsNothing, IsPlainRead, Read, asks, carried, clears, data_read}
use Rattle.world_laws.specs.References.Reads.{initial_read, nothing, sccp_read}
use Rattle.world_laws.proofs.References.Numbered.{IsOfOne}
use Rattle.world_laws.proofs.References.Over.{none_forwarded}
use Rattle.world_laws.proofs.References.Texts.{clear_data, plain_read, released_read, request_read}
use Rattle.world_laws.proofs.OwnTurn.{messages_of}

-- ---- what an entry carries

carried_own : (n : ℕ) (out : Out) →
    out.conn ≡ n →
    out.to ≡ SWITCH_LINK →
    carried_for n out ≡ messages_of (forwarded_by (sccp_reading out.frame.body))
unfolding forwarded messages_of
carried_own n out conn to =
    ap (λ (b : Bool). map (λ (f : Forwarded). f.message) (flat_map (λ (o : Out). forwarded_by (sccp_reading o.frame.body)) (cond b (out ∷ []) []))) both
    ∙ ap (map (λ (f : Forwarded). f.message)) (append-nil (forwarded_by (sccp_reading out.frame.body)))
  where
    both : to_switch n out ≡ true
    both = ap (λ (b : Bool). b && (out.to == SWITCH_LINK)) (eq-eqb out.conn n conn) ∙ eq-eqb out.to SWITCH_LINK to

-- and nothing of another
pub other_carries : (n : ℕ) (out : Out) → out.conn ≢ n → carried_for n out ≡ []
unfolding forwarded
other_carries n out differ =
    ap (λ (b : Bool). map (λ (f : Forwarded). f.message) (flat_map (λ (o : Out). forwarded_by (sccp_reading o.frame.body)) (cond (b && (out.to == SWITCH_LINK)) (out ∷ []) []))) (ne_eqb out.conn n differ)

initial_carries : (n : ℕ) (b : Bssap) →
    IsHeeded (initial_read n (Some b)) →
    messages_of (forwarded_in (Ok b)) ≡ carried (initial_read n (Some b))
unfolding messages_of
initial_carries n (Management (bssmap.CompleteLayer3Information cell initial)) heeded = refl
initial_carries n _ heeded = absurd heeded

data_carries : (d : ℕ) (b : Bssap) → IsHeeded (data_read d (Some b)) → messages_of (forwarded_in (Ok b)) ≡ carried (data_read d (Some b))
unfolding messages_of
data_carries d (Management (bssmap.CompleteLayer3Information cell initial)) heeded = absurd heeded
data_carries d _ heeded = refl

none_relayed : (sapi : Sapi) (station : ℕ) (x : _) → relayed sapi (Station station x ∷ []) ≡ []
none_relayed Zero station x = refl
none_relayed Three station x = refl

message_carries : (n : ℕ) (m : Message) →
    1 ≤ n →
    IsSent (out_of n m) →
    IsReadOf n m (out_of n m).frame.body →
    IsHeeded (reads (out_of n m)) →
    carried_for n (out_of n m) ≡ carried (reads (out_of n m))
unfolding out_of messages_of
message_carries n (Station station x) from_one sent read heeded =
    ap (map (λ (f : Forwarded). f.message))
    (none_forwarded (forwarded (out_of n (Station station x) ∷ []) n) (λ sapi. forwarded_seen n (out_of n (Station station x) ∷ []) (Station station x ∷ []) from_one (outs_own n (Station station x ∷ [])) (tt, tt) (sent, tt) sapi ∙ none_relayed sapi station x))
message_carries n (Request b) from_one sent read heeded =
    let is : reads (out_of n (Request b)) ≡ initial_read n (Some b) = ap (λ (r : Result Sccp InterfaceFault). sccp_read (result_ok r)) read.1 ∙ ap (λ (r : Result Bssap InterfaceFault). initial_read n (result_ok r)) read.2 in
    carried_own n (out_of n (Request b)) refl refl ∙ ap (λ (r : Result Sccp InterfaceFault). messages_of (forwarded_by r)) read.1 ∙ ap (λ (r : Result Bssap InterfaceFault). messages_of (forwarded_in r)) read.2
    ∙ initial_carries n b (subst IsHeeded is heeded) ∙ sym (ap carried is)
message_carries n (Data d b) from_one sent read heeded =
    let is : reads (out_of n (Data d b)) ≡ data_read d (Some b) = ap (λ (r : Result Sccp InterfaceFault). sccp_read (result_ok r)) read.1 ∙ ap (λ (r : Result Bssap InterfaceFault). data_read d (result_ok r)) read.2 in
    carried_own n (out_of n (Data d b)) refl refl ∙ ap (λ (r : Result Sccp InterfaceFault). messages_of (forwarded_by r)) read.1 ∙ ap (λ (r : Result Bssap InterfaceFault). messages_of (forwarded_in r)) read.2
    ∙ data_carries d b (subst IsHeeded is heeded) ∙ sym (ap carried is)
message_carries n (ReleaseComplete d) from_one sent read heeded =
    carried_own n (out_of n (ReleaseComplete d)) refl refl ∙ ap (λ (r : Result Sccp InterfaceFault). messages_of (forwarded_by r)) read
    ∙ sym (ap (λ (r : Result Sccp InterfaceFault). carried (sccp_read (result_ok r))) read)

pong-read : (to : ℕ) → reads (pong to) ≡ nothing
pong-read to = refl

pub right_out : (out : Out) → IsOfOne out → IsSent out → IsRight out
right_out out one sent = record {
  carries_as_read = λ from_one heeded. elim sent.is [
    | inl is ↦ subst (λ (o : Out). IsSent o → IsReadOf out.conn is.message o.frame.body → IsHeeded (reads o) → carried_for out.conn o ≡ carried (reads o)) (sym is.put) (message_carries out.conn is.message from_one) sent is.read heeded
    | inr pong_is ↦ absurd (none from_one pong_is)
  ];
  beside = λ zero. elim one [
    | inl least ↦ absurd (zero_least zero least)
    | inr pong_is ↦ ap reads pong_is ∙ pong-read out.to
  ];
} where
  none : 1 ≤ out.conn → out ≡ pong out.to → ⊥
  none from_one pong_is = let zero : out.conn ≡ 0 = ap (λ (o : Out). o.conn) pong_is in omega (arith, zero, from_one)

  zero_least : out.conn ≡ 0 → 1 ≤ out.conn → ⊥
  zero_least zero least = omega (arith, zero, least)

-- ---- the entries of one connection

abbrev pub is_to_switch : Out → Bool
is_to_switch out = out.to == SWITCH_LINK

linked_outs : (target : Option Tenure) (outs : List Out) →
    map (λ (entry : OutboxEntry). entry.out) (to_link SWITCH_LINK (map (entry_of target) outs)) ≡ filter is_to_switch outs
linked_outs target [] = refl
linked_outs target (out ∷ outs) =
    first (is_to_switch (entry_of target out).out)
    ∙ ap (λ (o : Out). if is_to_switch o then o ∷ map (λ (entry : OutboxEntry). entry.out) (to_link SWITCH_LINK (map (entry_of target) outs)) else map (λ (entry : OutboxEntry). entry.out) (to_link SWITCH_LINK (map (entry_of target) outs))) (entry_out target out)
    ∙ ap (λ (xs : List Out). if is_to_switch out then out ∷ xs else xs) (linked_outs target outs)
  where
    first : (b : Bool) → map (λ (entry : OutboxEntry). entry.out) (if b then entry_of target out ∷ to_link SWITCH_LINK (map (entry_of target) outs) else to_link SWITCH_LINK (map (entry_of target) outs))
        ≡ (if b then (entry_of target out).out ∷ map (λ (entry : OutboxEntry). entry.out) (to_link SWITCH_LINK (map (entry_of target) outs)) else map (λ (entry : OutboxEntry). entry.out) (to_link SWITCH_LINK (map (entry_of target) outs)))
    first true = refl
    first false = refl

filter-swap : (p q : Out → Bool) (xs : List Out) → filter p (filter q xs) ≡ filter q (filter p xs)
filter-swap p q [] = refl
filter-swap p q (x ∷ xs) = by (p x) (q x) refl refl (filter-swap p q xs) where
  by : (a b : Bool) →
      p x ≡ a →
      q x ≡ b →
      filter p (filter q xs) ≡ filter q (filter p xs) →
      filter p (if b then x ∷ filter q xs else filter q xs) ≡ filter q (if a then x ∷ filter p xs else filter p xs)
  by true true is_p is_q rest =
      ap (λ (b : Bool). if b then x ∷ filter p (filter q xs) else filter p (filter q xs)) is_p ∙ ap (λ (ys : List Out). x ∷ ys) rest ∙ sym (ap (λ (b : Bool). if b then x ∷ filter q (filter p xs) else filter q (filter p xs)) is_q)
  by true false is_p is_q rest = rest ∙ sym (ap (λ (b : Bool). if b then x ∷ filter q (filter p xs) else filter q (filter p xs)) is_q)
  by false true is_p is_q rest = ap (λ (b : Bool). if b then x ∷ filter p (filter q xs) else filter p (filter q xs)) is_p ∙ rest
  by false false is_p is_q rest = rest

pub own_put : (n : ℕ) (target : Option Tenure) (outs : List Out) (ms : List Message) →
    outs_for n outs ≡ outs_of n ms →
    reads_of n (to_link SWITCH_LINK (map (entry_of target) outs)) ≡ map reads (filter is_to_switch (outs_of n ms))
own_put n target outs ms are =
    ap (λ (xs : List Out). map reads (outs_for n xs)) (linked_outs target outs) ∙ ap (map reads) (filter-swap (is_for n) is_to_switch outs) ∙ ap (λ (xs : List Out). map reads (filter is_to_switch xs)) are

abbrev pub AreTexts : ℕ → List Message → Type 0
AreTexts n ms = AllByRecursion (λ m. IsText n (out_of n m)) ms

abbrev pub said : ℕ → List Message → List Read
said n ms = map reads (filter is_to_switch (outs_of n ms))

all_read : (n : ℕ) (P : Read → Type 0) (Q : Message → Type 0) →
    ((m : Message) → Q m → IsText n (out_of n m) → P (reads (out_of n m))) →
    (ms : List Message) →
    AllByRecursion Q ms →
    AreTexts n ms →
    AllByRecursion P (said n ms)
all_read n P Q each [] all texts = tt
all_read n P Q each (m ∷ ms) all texts = by (is_to_switch (out_of n m)) (all_read n P Q each ms all.1 texts.1) where
  by : (b : Bool) →
      AllByRecursion P (said n ms) →
      AllByRecursion P (map reads (if b then out_of n m ∷ filter is_to_switch (outs_of n ms) else filter is_to_switch (outs_of n ms)))
  by true rest = (each m all.0 texts.0, rest)
  by false rest = rest

quiet_out : (n : ℕ) (m : Message) → IsQuiet m → IsText n (out_of n m) → IsNothing (reads (out_of n m))
unfolding out_of
quiet_out n (Station station x) quiet text = tt
quiet_out n (ReleaseComplete d) quiet text = subst IsNothing (sym (released_read n d text)) tt
quiet_out n _ quiet text = absurd quiet

pub quiet_said : (n : ℕ) (ms : List Message) → AreTexts n ms → AreQuiet ms → AreNothing (said n ms)
quiet_said n ms texts quiet = all_read n IsNothing IsQuiet (quiet_out n) ms quiet texts

plain_out : (n k : ℕ) → IsReference k → (m : Message) → IsPlain k m → IsText n (out_of n m) → IsPlainRead k (reads (out_of n m))
unfolding out_of
plain_out n k three (Station station x) plain text = tt
plain_out n k three (ReleaseComplete d) plain text = subst (IsPlainRead k) (sym (released_read n d text)) tt
plain_out n k three (Request b) plain text = absurd plain
plain_out n k three (Data d b) plain text = plain_read n k d b three plain text

pub plain_said : (n k : ℕ) (ms : List Message) → IsReference k → AreTexts n ms → ArePlain k ms → ArePlainReads k (said n ms)
plain_said n k ms three texts plain = all_read n (IsPlainRead k) (IsPlain k) (plain_out n k three) ms plain texts

pub asking_said : (n : ℕ) (ms : List Message) → AreTexts n ms → IsAsking ms → (message : List ℕ) × (said n ms ≡ asks n message ∷ [])
unfolding out_of
asking_said n ms texts asking =
    let own : AreTexts n (Request (Management (bssmap.CompleteLayer3Information asking.cell asking.initial)) ∷ []) = subst (AreTexts n) asking.is texts in
    let read = request_read n asking.cell asking.initial own.0 in
    (read.0, ap (said n) asking.is ∙ ap (λ (r : Read). r ∷ []) read.1)

said-append : (n : ℕ) (ms more : List Message) → said n (ms ++ more) ≡ said n ms ++ said n more
said-append n ms more =
    ap (λ (xs : List Out). map reads (filter is_to_switch xs)) (map-append (out_of n) ms more) ∙ ap (map reads) (filter-append is_to_switch (outs_of n ms) (outs_of n more)) ∙ map-append reads (filter is_to_switch (outs_of n ms)) (filter is_to_switch (outs_of n more))

texts_left : (n : ℕ) (ms more : List Message) → AreTexts n (ms ++ more) → AreTexts n ms
texts_left n [] more texts = tt
texts_left n (m ∷ ms) more texts = (texts.0, texts_left n ms more texts.1)

texts_right : (n : ℕ) (ms more : List Message) → AreTexts n (ms ++ more) → AreTexts n more
texts_right n [] more texts = texts
texts_right n (m ∷ ms) more texts = texts_right n ms more texts.1

pub clearing_said : (n k : ℕ) (ms : List Message) →
    IsReference k →
    AreTexts n ms →
    IsClearing k ms →
    (qs : List Read) × AreNothing qs × (said n ms ≡ qs ++ clears k ∷ [])
unfolding out_of
clearing_said n k ms three texts clearing =
    let own : AreTexts n (clearing.first ++ clear_complete k ∷ []) = subst (AreTexts n) clearing.is texts in (
      said n clearing.first,
      quiet_said n clearing.first (texts_left n clearing.first (clear_complete k ∷ []) own) clearing.quiet,
      ap (said n) clearing.is ∙ said-append n clearing.first (clear_complete k ∷ [])
          ∙ ap (λ (r : Read). said n clearing.first ++ r ∷ []) (clear_data n k three (texts_right n clearing.first (clear_complete k ∷ []) own).0),
    )
