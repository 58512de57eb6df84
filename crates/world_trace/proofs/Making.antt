-- SPDX-License-Identifier: MIT OR Apache-2.0
-- The items that an event makes are those beyond the counts before it.
use Rattle.std.proofs.Common.{◌≡◌, ℕ, zero, suc, ◌+◌, ◌≤◌, Bool, true, false, if◌then◌else◌, List, [], ◌++◌, get_or, length, None, refl, sym, ap, ◌∙◌, append_assoc, arith}
use Rattle.std.proofs.Math.ListN.{drop_of_length-le}
use Rattle.std.specs.List.{flat_map}
use Rattle.std.specs.Prelude.{slice_index}
use Rattle.controller_model.specs.Life.{take, tick}
use Rattle.ruled_relay.specs.declared.item.Item.{Item}
use Rattle.world_model.specs.declared.event.Event.{Event}
use Rattle.world_model.specs.declared.event.Event.TheVariants.{Handle, Tick}
use Rattle.world_model.specs.Life.{actors_after, event_after}
use Rattle.world_model.specs.Queues.{made_items}
use Rattle.world_model.specs.Relay.{after_handle, target_in}
use Rattle.world_model.specs.World.{Actors}
use Rattle.world_model.proofs.Leads.{after_taken, handle_leads, turn_leads}
use Rattle.world_trace.specs.declared.crossing.Crossing.{Crossing}
use Rattle.world_trace.specs.declared.crossing.Passage.TheVariants.{Made}
use Rattle.world_trace.specs.declared.made.Makings.{Makings}
use Rattle.world_trace.specs.Crossings.{up}
use Rattle.world_trace.specs.Makings.{AreMakings, made_at, made_behind, made_behind_below, made_below, made_past, sources}
use Rattle.world_trace.specs.Turns.{is_turn}

below_is : (makings : Makings) (w : Actors) (event : Event) → AreMakings w event makings → (n : ℕ) → n ≤ length makings.counts.items
    → made_behind_below n makings.counts.items (actors_after w event) ≡ made_below n w event
below_is makings w event are zero le = refl
below_is makings w event are (suc source) le =
    let v : Actors = actors_after w event in
    ap (λ (xs : List Crossing). xs ++ made_past (slice_index makings.counts.items source) v source) (below_is makings w event are source (omega arith))
    ∙ ap (λ (count : ℕ). made_below source w event ++ made_past count v source) (are.each source (omega arith))

-- nothing is made where it is the controller's turn

abbrev Keeps : Actors → Actors → Type 0
Keeps w v = (source : ℕ) → made_items v source ≡ made_items w source

keeps_at : (w : Actors) (event : Event) → is_turn event ≡ true → Keeps w (actors_after w event)
unfolding event_after
keeps_at w Handle turn = after_taken (Keeps w) (after_handle w) w (handle_leads (Keeps w) w (λ item items is.
    turn_leads (Keeps w) (target_in w item.source item.what) (take item w.controller) (record w { inbox = items }) (λ links source. refl))) (λ source. refl)
keeps_at w (Tick ms) turn = turn_leads (Keeps w) None (tick ms w.controller) w (λ links source. refl)
keeps_at w _ turn = absurd (cc turn)

none_made : (w v : Actors) (source : ℕ) → made_items v source ≡ made_items w source → made_past (length (made_items w source)) v source ≡ []
none_made w v source same = ap (flat_map (up Made)) (drop_of_length-le (made_items v source) (omega (arith, ap (λ (items : List Item). length items) same)))

rests_below : (n : ℕ) (w : Actors) (event : Event) → Keeps w (actors_after w event) → made_below n w event ≡ []
rests_below zero w event keeps = refl
rests_below (suc source) w event keeps =
    ap (λ (xs : List Crossing). xs ++ made_past (length (made_items w source)) (actors_after w event) source) (rests_below source w event keeps)
    ∙ none_made w (actors_after w event) source (keeps source)

made_where : (b : Bool) (n : ℕ) (w : Actors) (event : Event) →
    (b ≡ true → Keeps w (actors_after w event)) →
    made_below (if b then 0 else n) w event ≡ made_below n w event
made_where true n w event keeps = sym (rests_below n w event (keeps refl))
made_where false n w event keeps = refl

pub made_is : (makings : Makings) (w : Actors) (event : Event) →
    AreMakings w event makings →
    made_behind makings (actors_after w event) ≡ made_at w event
made_is makings w event are =
    below_is makings w event are (length makings.counts.items) (omega arith) ∙ ap (λ (n : ℕ). made_below n w event) are.count
    ∙ made_where (is_turn event) (sources w) w event (keeps_at w event)

-- what is noted of the sources below a number, and of the next one
pub behind_more : (start before after : List Crossing) (counts : List ℕ) (w : Actors) (source mark : ℕ)
    → before ≡ start ++ made_behind_below source counts w → mark ≡ get_or counts source 0 → after ≡ before ++ made_past mark w source
    → after ≡ start ++ made_behind_below (source + 1) counts w
behind_more start before after counts w source mark some is more =
    let here : List Crossing = made_past (get_or counts source 0) w source in
    let next : source + 1 ≡ suc source = omega arith in
    more ∙ ap (λ (n : ℕ). before ++ made_past n w source) is
    ∙ ap (λ (cs : List Crossing). cs ++ here) some
    ∙ append_assoc start (made_behind_below source counts w) here
    ∙ ap (λ (n : ℕ). start ++ made_behind_below n counts w) (sym next)
