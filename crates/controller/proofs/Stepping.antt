-- SPDX-License-Identifier: MIT OR Apache-2.0
-- A connection's row, done in the controller.
use Rattle.controller.proofs.Prelude.{◌≡◌, ℕ, ◌+◌, ◌<◌, rules, Bool, true, List, [], ◌++◌, drop, find, length, Option, Some, None, sym}
use Rattle.controller.proofs.Prelude.{subst, ap, ◌∙◌, AllByRecursion, Channel, Out, IsSound, outs_of, Input, Row, OfRow, IsBelow}
use Rattle.controller.proofs.Prelude.{ChannelState, Controller, Entry, entry_of, has_number, put_back, turn, by_fitting, entry_after}
use Rattle.controller.proofs.Prelude.{Parameters}
use Rattle.std.proofs.Common.{◌-◌, ◌%◌, take, count_by, fold}
use Rattle.std.proofs.Math.Seq.{drop-append_seam, take-length}
use Rattle.std.proofs.lemmas.List.{length-drop}
use Rattle.std.specs.Option.{is_some}
use Rattle.conn_messages.specs.declared.message.Message.{Message}
use Rattle.conn_messages.specs.ChannelUse.{use_by}
use Rattle.conn_rules.specs.Table.{row_of}
use Rattle.connections.specs.Steps.{DoesRow, StepsFor, all_after}
use Rattle.controller_model.proofs.Entries.{FoundIn, NumberOf, found_in, number_of_found, put_back_all}
use Rattle.controller_model.proofs.Numbers.{keeps_number}
use Rattle.controller_model.specs.Controller.{channels_after}
use Rattle.controller_model.specs.Life.{begins_handover, by_row}
use Rattle.controller.specs.Doing.{Turns, by_offer, following}

pub row_turns : (c after : Controller) (e : Entry) (r : Row) (entries : List Entry) (outs outs_after : List Out)
    → entries ≡ put_back (entry_after c.settings e r) c.entries
    → outs_after ≡ outs ++ outs_of e.connection.number r.outs
    → AllByRecursion IsSound r.outs
    → ((messages : List Message) → AllByRecursion IsSound messages → drop (length outs) outs_after ≡ outs_of e.connection.number messages
    → after ≡ following e.connection.number messages (record c { entries = entries }))
    → Turns (by_row e r c) c after outs outs_after
row_turns c after e r entries outs outs_after same_entries same_outs sound follows = (
  follows r.outs sound (ap (drop (length outs)) same_outs ∙ drop-append_seam outs (outs_of e.connection.number r.outs))
      ∙ ap (λ (es : List Entry). following e.connection.number r.outs (record c { entries = es })) same_entries,
  same_outs,
)

-- ---- a step of the connections, in the controller

-- a list from a place to its end
pub to_the_end : {X : Type 0} (xs : List X) (from : ℕ) → take (length xs - from) (drop from xs) ≡ drop from xs
to_the_end xs from = ap (λ n. take n (drop from xs)) (sym (length-drop from xs)) ∙ take-length (drop from xs)

pub followed : (c : Controller) (number : ℕ) (messages : List Message) (channels : List (List ChannelState)) (begun : ℕ)
    → channels ≡ fold (channels_after number) c.channels messages
    → begun ≡ count_by (λ m. begins_handover (use_by m)) messages
    → record c { channels = channels; handovers = (c.handovers + begun % 256) % 256 } ≡ following number messages c
followed c number messages channels begun same_channels same_begun =
    ap (λ (ch : List (List ChannelState)). record c { channels = ch; handovers = (c.handovers + begun % 256) % 256 }) same_channels
    ∙ ap (λ (h : ℕ). record c { channels = fold (channels_after number) c.channels messages; handovers = h }) (rest c.handovers begun ∙ ap (λ k. (c.handovers + k) % 256) same_begun) where
      rest : (a b : ℕ) → (a + b % 256) % 256 ≡ (a + b) % 256
      rest a b = search rules

row_case : (p : Parameters) (c after : Controller) (e : Entry) (number : ℕ) (r : Option Row) (entries : List Entry) (outs outs_after : List Out)
    → p ≡ c.settings → e.connection.number ≡ number → is_some r ≡ true → DoesRow p e r c.entries entries outs outs_after
    → ((messages : List Message) → AllByRecursion IsSound messages → drop (length outs) outs_after ≡ outs_of number messages → after ≡ following number messages (record c { entries = entries }))
    → Turns (by_fitting (turn [] c) e r c) c after outs outs_after
row_case p c after e number None entries outs outs_after same is fits does follows = absurd (cc)
row_case p c after e number (Some r) entries outs outs_after same is fits does follows =
    row_turns c after e r entries outs outs_after (does.entries ∙ ap (λ q. put_back (entry_after q e r) c.entries) same) does.outputs does.sound
    (subst (λ n. (messages : List Message) → AllByRecursion IsSound messages → drop (length outs) outs_after ≡ outs_of n messages → after ≡ following n messages (record c { entries = entries })) (sym is) follows)

step_case : (p : Parameters) (c after : Controller) (number : ℕ) (o : Option Entry) (input : Input) (offer : Option Channel) (fits : Bool) (entries : List Entry) (outs outs_after : List Out)
    → p ≡ c.settings → NumberOf number o → fits ≡ true → StepsFor p o input offer fits c.entries entries outs outs_after
    → ((messages : List Message) → AllByRecursion IsSound messages → drop (length outs) outs_after ≡ outs_of number messages → after ≡ following number messages (record c { entries = entries }))
    → Turns (by_offer input offer c o) c after outs outs_after
step_case p c after number None input offer fits entries outs outs_after same is fitting steps follows = absurd (cc)
step_case p c after number (Some e) input offer fits entries outs outs_after same is fitting steps follows =
    row_case p c after e number (row_of e.connection input offer) entries outs outs_after same is (sym steps.0 ∙ fitting) steps.1 follows

pub step_turns : (p : Parameters) (c after : Controller) (number : ℕ) (input : Input) (offer : Option Channel) (fits : Bool) (entries : List Entry) (outs outs_after : List Out)
    → p ≡ c.settings → fits ≡ true → StepsFor p (entry_of c number) input offer fits c.entries entries outs outs_after
    → ((messages : List Message) → AllByRecursion IsSound messages → drop (length outs) outs_after ≡ outs_of number messages → after ≡ following number messages (record c { entries = entries }))
    → Turns (by_offer input offer c (entry_of c number)) c after outs outs_after
step_turns p c after number input offer fits entries outs outs_after same fitting steps follows =
    step_case p c after number (entry_of c number) input offer fits entries outs outs_after same (number_of_found number c.entries) fitting steps follows

-- the numbers remain below the next one
below_row : (p : Parameters) (next : ℕ) (e : Entry) (r : Option Row) (es : List Entry) → OfRow (λ row. row.next.number ≡ e.connection.number) r → IsBelow next e → AllByRecursion (IsBelow next) es
    → AllByRecursion (IsBelow next) (all_after p es e r)
below_row p next e None es keeps below all = all
below_row p next e (Some r) es keeps below all = put_back_all (IsBelow next) (entry_after p e r) es (subst (λ n. n < next) (sym keeps) below) all

below_case : (p : Parameters) (next number : ℕ) (o : Option Entry) (input : Input) (offer : Option Channel) (fits : Bool) (es entries : List Entry) (outs outs_after : List Out)
    → FoundIn (IsBelow next) number o → AllByRecursion (IsBelow next) es → StepsFor p o input offer fits es entries outs outs_after → AllByRecursion (IsBelow next) entries
below_case p next number None input offer fits es entries outs outs_after found all steps = subst (AllByRecursion (IsBelow next)) (sym steps.1.entries) all
below_case p next number (Some e) input offer fits es entries outs outs_after found all steps =
    subst (AllByRecursion (IsBelow next)) (sym steps.1.entries) (below_row p next e (row_of e.connection input offer) es (keeps_number e.connection input offer) found.holds all)

pub step_remains_below : (p : Parameters) (next number : ℕ) (input : Input) (offer : Option Channel) (fits : Bool) (es entries : List Entry) (outs outs_after : List Out)
    → AllByRecursion (IsBelow next) es → StepsFor p (find (has_number number) es) input offer fits es entries outs outs_after → AllByRecursion (IsBelow next) entries
step_remains_below p next number input offer fits es entries outs outs_after all steps =
    below_case p next number (find (has_number number) es) input offer fits es entries outs outs_after (found_in (IsBelow next) number es all) all steps
