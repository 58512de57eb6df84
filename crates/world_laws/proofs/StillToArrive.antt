-- SPDX-License-Identifier: MIT OR Apache-2.0
-- What is on the line is what the connection has still to relay: what it holds, and what is on its
-- way up from each channel.
use Rattle.world_laws.proofs.Prelude.{◌≡◌, ℕ, ◌≤◌, ◌&&◌, not, Bool, true, false, if◌then◌else◌, List, [], ◌∷◌, ◌++◌, refl, sym, ap, ◌∙◌}
use Rattle.world_laws.proofs.Prelude.{append_assoc, arith, AllByRecursion, append-nil, Channel, Place, Input, Drain, Changing, State, Live}
use Rattle.world_laws.proofs.Prelude.{Connection, Row, Future, IsOpen, KeepsUplink, from_input, relayed, undone, place_of, Zero, Held}
use Rattle.world_laws.proofs.Prelude.{of_target, still_of, still_to_relay, ended, flow, messages_in, part_of, parts_of}
use Rattle.world_laws.proofs.Prelude.{without_control-flow, is_ended, draining_tenure, old_tenure, old_tenures, serving_hold}
use Rattle.world_laws.proofs.Prelude.{serving_tenure, commanded_target, target_tenure, AreLayer3, mark, texts_of, AsOld, AsServing}
use Rattle.world_laws.proofs.Prelude.{AsTarget, AreHeld, IsFutureOf}
use Rattle.world_laws.specs.LineUp.Places.{Item, LineTenure, Seat}
use Rattle.world_laws.proofs.LineUp.Lines.{flow-append}

-- ---- a list, up to where something is missing

abbrev pub cut : List (List ℕ) → List (List ℕ)
cut [] = []
cut ([] ∷ xs) = []
cut ((octet ∷ octets) ∷ xs) = (octet ∷ octets) ∷ cut xs

cut-front : (xs ys : List (List ℕ)) → AreLayer3 xs → cut (xs ++ ys) ≡ xs ++ cut ys
cut-front [] ys all = refl
cut-front ([] ∷ xs) ys all = absurd (none 0 refl all.0.0) where
  none : (n : ℕ) → n ≡ 0 → 1 ≤ n → ⊥
  none n is some = absurd (omega arith)
cut-front ((octet ∷ octets) ∷ xs) ys all = ap (λ (zs : List (List ℕ)). (octet ∷ octets) ∷ zs) (cut-front xs ys all.1)

cut-mark : (b : Bool) (ys : List (List ℕ)) → cut (mark b ++ ys) ≡ (if b then [] else cut ys)
cut-mark true ys = refl
cut-mark false ys = refl

-- what is held, what is on its way, perhaps what is missing, and the rest
cut-part : (hold messages : List (List ℕ)) (b : Bool) (rest : List (List ℕ)) →
    AreLayer3 hold →
    AreLayer3 messages →
    flow (cut (hold ++ ((messages ++ mark b) ++ rest))) ≡ (flow hold ++ flow messages) ++ (if b then [] else flow (cut rest))
cut-part hold messages b rest held on_the_way =
    ap flow (cut-front hold ((messages ++ mark b) ++ rest) held
    ∙ ap (λ (xs : List (List ℕ)). hold ++ xs) (ap cut (append_assoc messages (mark b) rest) ∙ cut-front messages (mark b ++ rest) on_the_way ∙ ap (λ (xs : List (List ℕ)). messages ++ xs) (cut-mark b rest)))
    ∙ flow-append hold (messages ++ (if b then [] else cut rest))
    ∙ ap (λ (xs : List (List ℕ)). flow hold ++ xs) (flow-append messages (if b then [] else cut rest) ∙ ap (λ (xs : List (List ℕ)). flow messages ++ xs) (flow-if b))
    ∙ sym (append_assoc (flow hold) (flow messages) (if b then [] else flow (cut rest))) where
      flow-if : (b : Bool) → flow (if b then [] else cut rest) ≡ (if b then [] else flow (cut rest))
      flow-if true = refl
      flow-if false = refl

-- of what is on its way, the messages of radio resource management aren't of the flow
cut-items : (hold : List (List ℕ)) (items : List Item) (b : Bool) (rest : List (List ℕ)) →
    AreLayer3 hold →
    AreLayer3 (texts_of items) →
    flow (cut (hold ++ ((texts_of items ++ mark b) ++ rest))) ≡ (flow hold ++ flow (messages_in items)) ++ (if b then [] else flow (cut rest))
cut-items hold items b rest held whole = cut-part hold (texts_of items) b rest held whole ∙ ap (λ (xs : List (List ℕ)). (flow hold ++ xs) ++ (if b then [] else flow (cut rest))) (without_control-flow (messages_in items))

-- ---- tenure by tenure

old_part : (future : Future) (arriving : Place → List Item) (up : ℕ → Bool) (d : Drain) (ds : List Drain) (hold rest : List (List ℕ)) (others : List LineTenure) → AllByRecursion (AsOld future arriving up) (undone (d ∷ ds)) → AreLayer3 hold → flow (cut rest) ≡ parts_of others
    → (flow (cut (hold ++ ((if d.is_done then [] else future (place_of d.channel)) ++ rest))) ≡ parts_of (old_tenure arriving up d hold ∷ others)) × AllByRecursion (AsOld future arriving up) (undone ds)
old_part future arriving up d ds hold rest others stand held is = by_done d.is_done stand where
  by_done : (b : Bool) → AllByRecursion (AsOld future arriving up) (if b then undone ds else d.channel ∷ undone ds)
      → (flow (cut (hold ++ ((if b then [] else future (place_of d.channel)) ++ rest))) ≡ parts_of ((if b then ended hold else draining_tenure (up d.channel.station) (arriving (place_of d.channel)) hold) ∷ others)) × AllByRecursion (AsOld future arriving up) (undone ds)
  by_done true all = (cut-items hold [] false rest held tt ∙ ap (λ (xs : List (List ℕ)). (flow hold ++ []) ++ xs) is, all)
  by_done false all = (
    ap (λ (xs : List (List ℕ)). flow (cut (hold ++ (xs ++ rest)))) all.0.0
        ∙ cut-items hold (arriving (place_of d.channel)) (not (up d.channel.station) && not (is_ended (arriving (place_of d.channel)))) rest held all.0.1
        ∙ ap (λ (xs : List (List ℕ)). part_of (draining_tenure (up d.channel.station) (arriving (place_of d.channel)) hold) ++ (if (not (up d.channel.station) && not (is_ended (arriving (place_of d.channel)))) then [] else xs)) is,
    all.1,
  )

still_parts : (future : Future) (arriving : Place → List Item) (up : ℕ → Bool) (serving : Channel) (ds : List Drain) (ts : List Held) (rest : List (List ℕ)) (others : List LineTenure) → AllByRecursion (AsOld future arriving up) (undone ds) → AsServing future arriving up serving → AreHeld ds ts → flow (cut rest) ≡ parts_of others
    → flow (cut (still_of Zero future serving ds ts ++ rest)) ≡ parts_of (old_tenures arriving up ds ts ++ serving_tenure arriving up serving (serving_hold ds ts) ∷ others)
still_parts future arriving up serving ds [] rest others stand is held behind = elim held [ ]
still_parts future arriving up serving [] (t ∷ ts) rest others stand is held behind =
    ap (λ (xs : List (List ℕ)). flow (cut xs)) (append_assoc t.zero (future (place_of serving)) rest)
    ∙ ap (λ (xs : List (List ℕ)). flow (cut (t.zero ++ (xs ++ rest)))) is.0
    ∙ cut-items t.zero (arriving (place_of serving)) (not (up serving.station)) rest held is.1
    ∙ ap (λ (xs : List (List ℕ)). part_of (serving_tenure arriving up serving t.zero) ++ (if not (up serving.station) then [] else xs))
    behind
still_parts future arriving up serving (d ∷ ds) (t ∷ ts) rest others stand is held behind =
    let split = old_part future arriving up d ds t.zero (still_of Zero future serving ds ts ++ rest) (old_tenures arriving up ds ts ++ serving_tenure arriving up serving (serving_hold ds ts) ∷ others) stand held.0
    (still_parts future arriving up serving ds ts rest others (tail d ds stand) is held.1 behind) in
    ap (λ (xs : List (List ℕ)). flow (cut xs)) (append_assoc t.zero ((if d.is_done then [] else future (place_of d.channel)) ++ still_of Zero future serving ds ts) rest
    ∙ ap (λ (xs : List (List ℕ)). t.zero ++ xs) (append_assoc (if d.is_done then [] else future (place_of d.channel)) (still_of Zero future serving ds ts) rest)) ∙ split.0 where
      tail : (d : Drain) (ds : List Drain) →
          AllByRecursion (AsOld future arriving up) (undone (d ∷ ds)) →
          AllByRecursion (AsOld future arriving up) (undone ds)
      tail d ds all = by_done d.is_done all where
        by_done : (b : Bool) →
            AllByRecursion (AsOld future arriving up) (if b then undone ds else d.channel ∷ undone ds) →
            AllByRecursion (AsOld future arriving up) (undone ds)
        by_done true all = all
        by_done false all = all.1

target_part : (future : Future) (arriving : Place → List Item) (up : ℕ → Bool) (seat : Seat) (state : State) →
    AsTarget future arriving (commanded_target state) →
    flow (cut (of_target future state)) ≡ parts_of (target_tenure arriving up seat (commanded_target state) ∷ [])
target_part future arriving up seat (Live reference (Changing t)) stand =
    ap (λ (xs : List (List ℕ)). flow (cut xs)) (stand.1 ∙ sym (append-nil (texts_of (arriving (place_of t.channel)) ++ mark stand.0)))
    ∙ cut-items [] (arriving (place_of t.channel)) stand.0 [] tt stand.2
    ∙ ap (λ (xs : List (List ℕ)). ([] ++ flow (messages_in (arriving (place_of t.channel)))) ++ xs) (either stand.0 ∙ sym (either _)) where
      nothing_if : Bool → List (List ℕ)
      nothing_if b = if b then [] else []

      either : (b : Bool) → nothing_if b ≡ []
      either true = refl
      either false = refl
target_part future arriving up seat _ stand = refl

-- The line behind the outbox is what is still to be relayed, up to where something is missing.
pub parts_still : (future : Future) (arriving : Place → List Item) (up : ℕ → Bool) (seat : Seat) (s : Connection) → IsFutureOf future arriving up s
    → parts_of (old_tenures arriving up s.draining s.up.tenures ++ serving_tenure arriving up s.serving (serving_hold s.draining s.up.tenures) ∷ target_tenure arriving up seat (commanded_target s.state) ∷ []) ≡ flow (cut (still_to_relay Zero future s))
parts_still future arriving up seat s valid =
    sym (still_parts future arriving up s.serving s.draining s.up.tenures (of_target future s.state) (target_tenure arriving up seat (commanded_target s.state) ∷ []) valid.old valid.serving valid.held (target_part future arriving up seat s.state valid.target))

-- So a row moves messages along the line: what it relays, and the line behind it, are the line
-- before.
pub row_line : (s : Connection) (input : Input) (r : Row) (future : Future) (before after : Place → List Item) (up : ℕ → Bool) (seat seat2 : Seat) → KeepsUplink Zero future s input r → IsOpen r.next.state → IsFutureOf (from_input Zero input future) before up s → IsFutureOf future after up r.next → AreLayer3 (relayed Zero r.outs)
    → parts_of (old_tenures before up s.draining s.up.tenures ++ serving_tenure before up s.serving (serving_hold s.draining s.up.tenures) ∷ target_tenure before up seat (commanded_target s.state) ∷ [])
    ≡ flow (relayed Zero r.outs) ++ parts_of (old_tenures after up r.next.draining r.next.up.tenures ++ serving_tenure after up r.next.serving (serving_hold r.next.draining r.next.up.tenures) ∷ target_tenure after up seat2 (commanded_target r.next.state) ∷ [])
row_line s input r future before after up seat seat2 keeps unchanged was now whole =
    parts_still (from_input Zero input future) before up seat s was
    ∙ ap (λ (xs : List (List ℕ)). flow (cut xs)) (sym (keeps unchanged))
    ∙ ap flow (cut-front (relayed Zero r.outs) (still_to_relay Zero future r.next) whole)
    ∙ flow-append (relayed Zero r.outs) (cut (still_to_relay Zero future r.next))
    ∙ ap (λ (xs : List (List ℕ)). flow (relayed Zero r.outs) ++ xs) (sym (parts_still future after up seat2 r.next now))
