-- SPDX-License-Identifier: MIT OR Apache-2.0
-- The part of a world's report that is written so far, and how a mobile and a connection extend it.
use Rattle.std.proofs.Common.{◌≡◌, ℕ, suc, ◌+◌, ◌-◌, ◌<◌, ◌≤◌, true, false, List, [], ◌∷◌, ◌++◌, get_or, length, take, Option, Some, None, refl, sym, ap, subst, ◌∙◌, append_assoc, append-nil, arith, inl, inr}
use Rattle.std.proofs.lemmas.Bool.{cases_lt}
use Rattle.std.specs.Prelude.{◌^◌, IsSome, codes, decimal, unwrap_or}
use Rattle.std.proofs.lemmas.List.{flat_map_more, take_all, take_more}
use Rattle.hex.specs.Hex.{encode_lower}
use Rattle.std.specs.Io.KnownBytes.{Appends, Keeps}
use Rattle.std.proofs.KnownBytes.{Appends-nil, Appends-trans, Appends-kept}
use Rattle.world.specs.declared.world.Scene.{Scene}
use Rattle.world.specs.Views.{sent_list, received_list, taken_list, accepted_list, unnumbered_list}
use Rattle.world.specs.WorldState.{WorldState}
use Rattle.bsc_program.specs.Report.{AreConnections, IsReport, WritesIfSome, connection_by, connection_text, counted_lines, list_text, message_lines, mobile_by, mobile_text, not_taken_line, texts_to}

-- the count was written, and the messages before the next one
abbrev pub WritesMessages : List (List ℕ) → ℕ → Option (List ℕ) → Option (List ℕ) → Type 0
WritesMessages messages next old new = Appends old new (decimal (length messages) ++ codes "\n" ++ message_lines (take next messages))

pub messages_none : (messages : List (List ℕ)) (old new : Option (List ℕ)) →
    Appends old new (decimal (length messages) ++ codes "\n") →
    WritesMessages messages 0 old new
messages_none messages old new count = subst (Appends old new) (sym (append-nil (decimal (length messages) ++ codes "\n"))) count

pub messages_more : (messages : List (List ℕ)) (next : ℕ) (message : List ℕ) (old mid new : Option (List ℕ)) → WritesMessages messages next old mid → next < length messages → message ≡ get_or messages next message
    → Appends mid new (encode_lower message ++ codes "\n") → WritesMessages messages (next + 1) old new
messages_more messages next message old mid new some less is line =
    let head : List ℕ = decimal (length messages) ++ codes "\n" in
    let front : List (List ℕ) = take next messages in
    let longer : front ++ message ∷ [] ≡ take (next + 1) messages = ap (λ (m : List ℕ). front ++ m ∷ []) is ∙ sym (take_more messages next message less) in
    subst (Appends old new)
    (append_assoc head (message_lines front) (encode_lower message ++ codes "\n")
    ∙ ap (λ (xs : List ℕ). head ++ xs) (flat_map_more (λ (m : List ℕ). encode_lower m ++ codes "\n") [] front message ∙ ap message_lines longer))
    (Appends-trans old mid new (head ++ message_lines front) (encode_lower message ++ codes "\n") some line)

pub messages_all : (messages : List (List ℕ)) (next : ℕ) (old new : Option (List ℕ)) →
    WritesMessages messages next old new →
    length messages ≤ next →
    Appends old new (counted_lines messages)
messages_all messages next old new some all =
    subst (λ (xs : List (List ℕ)). Appends old new (decimal (length messages) ++ codes "\n" ++ message_lines xs)) (take_all next messages all) some

-- both lists of a mobile
pub mobile_is : (scene : Scene) (mobile number : ℕ) (sent received : List (List ℕ)) (old mid new : Option (List ℕ)) → number ≡ mobile → sent_list scene mobile ≡ Some sent → received_list scene mobile ≡ Some received
    → Appends old mid (list_text (codes "mobile ") number (codes " sent ") sent) → Appends mid new (list_text (codes "mobile ") number (codes " received ") received) → Appends old new (mobile_text scene mobile)
mobile_is scene mobile number sent received old mid new same is had first second =
    let lists : ℕ → List ℕ = λ n. list_text (codes "mobile ") n (codes " sent ") sent ++ list_text (codes "mobile ") n (codes " received ") received in
    subst (λ (o : Option (List (List ℕ))). Appends old new (mobile_by mobile o (received_list scene mobile))) (sym is)
    (subst (λ (o : Option (List (List ℕ))). Appends old new (mobile_by mobile (Some sent) o)) (sym had)
    (subst (λ (n : ℕ). Appends old new (lists n)) same
    (Appends-trans old mid new (list_text (codes "mobile ") number (codes " sent ") sent) (list_text (codes "mobile ") number (codes " received ") received) first second)))

-- the three lists of a connection
pub connection_is : (scene : Scene) (number : ℕ) (taken accepted unnumbered : List (List ℕ)) (old first second new : Option (List ℕ)) → taken_list scene number ≡ Some taken → accepted_list scene number ≡ Some accepted → unnumbered_list scene number ≡ Some unnumbered
    → Appends old first (list_text (codes "conn ") number (codes " taken ") taken) → Appends first second (list_text (codes "conn ") number (codes " accepted ") accepted)
    → Appends second new (list_text (codes "conn ") number (codes " unnumbered ") unnumbered) → WritesIfSome true (connection_text scene number) old new
connection_is scene number taken accepted unnumbered old first second new is was had one two three =
    let some : List ℕ = list_text (codes "conn ") number (codes " taken ") taken in
    let more : List ℕ = list_text (codes "conn ") number (codes " accepted ") accepted in
    let last : List ℕ = list_text (codes "conn ") number (codes " unnumbered ") unnumbered in
    subst (λ (o : Option (List (List ℕ))). WritesIfSome true (connection_by number o (accepted_list scene number) (unnumbered_list scene number)) old new) (sym is)
    (subst (λ (o : Option (List (List ℕ))). WritesIfSome true (connection_by number (Some taken) o (unnumbered_list scene number)) old new) (sym was)
    (subst (λ (o : Option (List (List ℕ))). WritesIfSome true (connection_by number (Some taken) (Some accepted) o) old new) (sym had)
    (Appends-trans old second new (some ++ more) last (Appends-trans old first second some more one two) three)))

abbrev pub some_connection : Scene → ℕ → List ℕ
some_connection scene number = unwrap_or (connection_text scene number) []

-- the mobiles below the next number were written
pub record WritesMobiles (scene : Scene) (next : ℕ) (old new : Option (List ℕ)) : Type 0 where
  pub count : ℕ
  pub up_to : next ≡ suc count
  pub written : Appends old new (texts_to (mobile_text scene) count)

-- the connections below the next number were written, each of which is there
pub record WritesConnections (scene : Scene) (next : ℕ) (old new : Option (List ℕ)) : Type 0 where
  pub count : ℕ
  pub up_to : next ≡ suc count
  pub each : (n : ℕ) → n < count → IsSome (connection_text scene (suc n))
  pub written : Appends old new (texts_to (some_connection scene) count)

texts_more : (text : ℕ → List ℕ) (count : ℕ) → texts_to text count ++ text (suc count) ≡ texts_to text (suc count)
unfolding texts_to
texts_more text count = refl

none_written : (text : ℕ → List ℕ) → texts_to text 0 ≡ []
unfolding texts_to
none_written text = refl

pub mobiles_none : (scene : Scene) (old : Option (List ℕ)) → WritesMobiles scene 1 old old
mobiles_none scene old = record { count = 0; up_to = omega arith; written = subst (Appends old old) (sym (none_written (mobile_text scene))) (Appends-nil old) }

pub mobiles_more : (scene : Scene) (next : ℕ) (old mid new : Option (List ℕ)) →
    WritesMobiles scene next old mid →
    Appends mid new (mobile_text scene next) →
    WritesMobiles scene (next + 1) old new
mobiles_more scene next old mid new some text =
    let more : List ℕ = mobile_text scene (suc some.count) in
    let here : Appends mid new more = subst (λ (n : ℕ). Appends mid new (mobile_text scene n)) some.up_to text in
    record {
      count = suc some.count;
      up_to = omega (arith, some.up_to);
      written = subst (Appends old new) (texts_more (mobile_text scene) some.count) (Appends-trans old mid new (texts_to (mobile_text scene) some.count) more some.written here);
    }

pub mobiles_all : (scene : Scene) (next : ℕ) (old new : Option (List ℕ)) →
    WritesMobiles scene next old new →
    next ≡ 256 →
    Appends old new (texts_to (mobile_text scene) 255)
mobiles_all scene next old new some all =
    let count : some.count ≡ 255 = omega (arith, some.up_to) in
    subst (λ (n : ℕ). Appends old new (texts_to (mobile_text scene) n)) count some.written

pub connections_none : (scene : Scene) (old : Option (List ℕ)) → WritesConnections scene 1 old old
connections_none scene old = record {
  count = 0;
  up_to = omega arith;
  each = λ n lt. absurd (omega arith);
  written = subst (Appends old old) (sym (none_written (some_connection scene))) (Appends-nil old);
}

some_written : (text : Option (List ℕ)) (mid new : Option (List ℕ)) →
    WritesIfSome true text mid new →
    IsSome text × Appends mid new (unwrap_or text [])
some_written None mid new written = absurd written
some_written (Some text) mid new written = (refl, written)

pub connections_more : (scene : Scene) (next : ℕ) (old mid new : Option (List ℕ)) → WritesConnections scene next old mid → WritesIfSome true (connection_text scene next) mid new
    → WritesConnections scene (next + 1) old new
connections_more scene next old mid new some written =
    let is = some_written (connection_text scene next) mid new written in
    let there : IsSome (connection_text scene (suc some.count)) = subst (λ (n : ℕ). IsSome (connection_text scene n)) some.up_to is.0 in
    let here : Appends mid new (some_connection scene (suc some.count)) = subst (λ (n : ℕ). Appends mid new (some_connection scene n)) some.up_to is.1 in
    record {
      count = suc some.count;
      up_to = omega (arith, some.up_to);
      each = λ m lt. elim (cases_lt m some.count) [
        | inl less ↦ some.each m less
        | inr more ↦ subst (λ (k : ℕ). IsSome (connection_text scene (suc k))) (let same : some.count ≡ m = omega arith in same) there
      ];
      written =
          subst (Appends old new) (texts_more (some_connection scene) some.count)
          (Appends-trans old mid new (texts_to (some_connection scene) some.count) (some_connection scene (suc some.count)) some.written here);
    }

-- all connections were written
abbrev pub WritesLists : Scene → Option (List ℕ) → Option (List ℕ) → Type 0
WritesLists scene old new = (connections : List ℕ) × AreConnections scene connections × Appends old new connections

lists_below : (scene : Scene) (next : ℕ) (old new : Option (List ℕ)) (some : WritesConnections scene next old new) →
    some.count ≤ 2 ^ 32 - 1 →
    (some.count < 2 ^ 32 - 1 → connection_text scene (suc some.count) ≡ None) →
    WritesLists scene old new
lists_below scene next old new some numbers none =
    (texts_to (some_connection scene) some.count, record { count = some.count; numbers = numbers; each = some.each; no_more = none; is = refl }, some.written)

none_there : (o : Option (List ℕ)) (mid new : Option (List ℕ)) → WritesIfSome false o mid new → (o ≡ None) × Keeps mid new
none_there None mid new keeps = (refl, keeps)
none_there (Some text) mid new keeps = absurd keeps

-- the first connection that isn't there ends them
pub lists_to : (scene : Scene) (next : ℕ) (old mid new : Option (List ℕ)) →
    WritesConnections scene next old mid →
    next ≤ 2 ^ 32 - 1 →
    WritesIfSome false (connection_text scene next) mid new →
    WritesLists scene old new
lists_to scene next old mid new some numbers none =
    let there = none_there (connection_text scene next) mid new none in
    let lists = lists_below scene next old mid some (omega (arith, some.up_to, numbers)) (λ lt. ap (connection_text scene) (sym some.up_to) ∙ there.0) in
    (lists.0, lists.1, Appends-kept old mid new lists.0 lists.2 there.1)

-- and so does the greatest number
pub lists_all : (scene : Scene) (next : ℕ) (old new : Option (List ℕ)) →
    WritesConnections scene next old new →
    next ≡ 2 ^ 32 →
    WritesLists scene old new
lists_all scene next old new some last = lists_below scene next old new some (omega (arith, some.up_to, last)) (λ lt. absurd (omega (arith, some.up_to)))

pub report_is : (world : WorldState) (old first mid new last : Option (List ℕ)) → Appends old first (texts_to (mobile_text world.scene) 255) → WritesLists world.scene first mid
    → Appends mid new (not_taken_line world.not_taken) → Keeps new last → (text : List ℕ) × IsReport world text × Appends old last text
report_is world old first mid new last mobiles lists line keeps =
    let before : List ℕ = texts_to (mobile_text world.scene) 255 ++ lists.0 in
    let end : List ℕ = not_taken_line world.not_taken in
    let both : Appends old mid before = Appends-trans old first mid (texts_to (mobile_text world.scene) 255) lists.0 mobiles lists.2 in
    (before ++ end, (lists.0, lists.1, refl), Appends-kept old new last (before ++ end) (Appends-trans old mid new before end both line) keeps)
