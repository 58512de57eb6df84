-- SPDX-License-Identifier: MIT OR Apache-2.0
-- The frames that an event puts into the controller's queues are those beyond the old lengths.
use Rattle.std.proofs.Common.{◌≡◌, ℕ, zero, suc, ◌≤◌, ◌==◌, Bool, true, false, if◌then◌else◌, List, [], ◌∷◌, ◌++◌}
use Rattle.std.proofs.Common.{length, map, drop, Option, Some, None, is_some, unwrap_or, option_to_list, refl, sym, ap, ◌∙◌, inl, inr, arith}
use Rattle.std.proofs.Common.{length-append, eq-eqb}
use Rattle.std.proofs.Math.Seq.{drop-append_seam}
use Rattle.std.proofs.Math.ListN.{drop_of_length-le}
use Rattle.std.proofs.lemmas.List.{append-nil}
use Rattle.std.specs.List.{flat_map}
use Rattle.std.specs.Prelude.{◌⊎◌, slice_index}
use Rattle.conn_messages.specs.declared.parameters.TheConstants.{SWITCH_LINK}
use Rattle.ruled_relay.specs.declared.item.Item.{Item}
use Rattle.world_model.specs.declared.event.Event.{Event}
use Rattle.world_model.specs.declared.event.Event.TheVariants.{BaseTakes, Handle, SwitchTakes, Tick}
use Rattle.world_model.specs.declared.line.OutboxEntry.{OutboxEntry}
use Rattle.world_model.specs.Life.{actors_after, event_after}
use Rattle.world_model.specs.Lists.{behind_first, first_in}
use Rattle.world_model.specs.Queues.{first_of, outputs, popped, pushed, put, taken, to_link}
use Rattle.world_model.specs.Relay.{handled}
use Rattle.world_model.specs.Takes.{Takes}
use Rattle.world_model.specs.World.{Actors, Link, is_up, outbox_of}
use Rattle.world_model.proofs.Inboxes.{inbox_keeps_order}
use Rattle.world_model.proofs.Outboxes.{Step, step}
use Rattle.world_model.proofs.Outboxes.Step.{kept_order, breaks}
use Rattle.world_trace.specs.declared.crossing.Crossing.{Crossing}
use Rattle.world_trace.specs.declared.crossing.Passage.TheVariants.{Got, Sent}
use Rattle.world_trace.specs.declared.sent.Marks.{Marks}
use Rattle.world_trace.specs.Crossings.{down, got, put_below, sent, up}
use Rattle.world_trace.specs.Marks.{AreMarks, behind, behind_below, waiting}
use Rattle.world_trace.specs.Turns.{is_turn}

-- ---- lists

front : {X : Type 0} (xs : List X) → option_to_list (first_in xs) ++ behind_first xs ≡ xs
front [] = refl
front (x ∷ xs) = refl

pub firsts : {X : Type 0} (xs : List X) → option_to_list (first_in xs) ≡ first_of xs
firsts [] = refl
firsts (x ∷ xs) = refl

-- what is behind an old queue where it gave up its front or took more, and not both
behind_is_put : {X : Type 0} (old put taken new : List X) →
    old ++ put ≡ taken ++ new →
    (put ≡ []) ⊎ (taken ≡ []) →
    drop (length old) new ≡ put
behind_is_put {X} old put taken new is (inl none) =
    let whole : old ≡ taken ++ new = sym (append-nil old) ∙ ap (λ (xs : List X). old ++ xs) (sym none) ∙ is in
    let longer : length new ≤ length old = omega (arith, ap length whole, length-append taken new) in
    drop_of_length-le new longer ∙ sym none
behind_is_put {X} old put taken new is (inr none) =
    sym (ap (drop (length old)) (is ∙ ap (λ (xs : List X). xs ++ new) none)) ∙ drop-append_seam old put

-- ---- the inbox

pushed_or_popped : (w : Actors) (event : Event) → (pushed w event ≡ []) ⊎ (popped w event ≡ [])
pushed_or_popped w Handle = inl refl
pushed_or_popped w _ = inr refl

inbox_behind : (w : Actors) (event : Event) → drop (length w.inbox) (actors_after w event).inbox ≡ pushed w event
inbox_behind w event = behind_is_put w.inbox (pushed w event) (popped w event) (actors_after w event).inbox (inbox_keeps_order w event) (pushed_or_popped w event)

-- ---- an outbox

none_put : (b : Bool) (link : ℕ) → (if b then to_link link [] else []) ≡ []
none_put true link = refl
none_put false link = refl

put_or_taken : (link : ℕ) (w : Actors) (event : Event) → (put link w event ≡ []) ⊎ (taken link w event ≡ [])
put_or_taken link w Handle = inr refl
put_or_taken link w (Tick ms) = inr refl
put_or_taken link w _ = inl (none_put (is_up w link) link)

outbox_behind_by : (link : ℕ) (w : Actors) (event : Event) (v : Actors) →
    Step link w event v →
    drop (length (outbox_of w link)) (outbox_of v link) ≡ put link w event
outbox_behind_by link w event v (kept_order same all) = behind_is_put (outbox_of w link) (put link w event) (taken link w event) (outbox_of v link) all (put_or_taken link w event)
outbox_behind_by link w event v (breaks broken nothing nobody) =
    ap (λ (l : Link). drop (length (outbox_of w link)) l.outbox) broken ∙ drop_of_length-le {A = OutboxEntry} [] (omega arith) ∙ sym nothing

outbox_behind : (link : ℕ) (w : Actors) (event : Event) →
    drop (length (outbox_of w link)) (outbox_of (actors_after w event) link) ≡ put link w event
outbox_behind link w event = outbox_behind_by link w event (actors_after w event) (step link w event)

-- ---- all queues

below_is : (marks : Marks) (w : Actors) (event : Event) →
    AreMarks w event marks →
    (n : ℕ) →
    n ≤ length marks.outboxes.items →
    behind_below n marks.outboxes.items (actors_after w event) ≡ put_below n w event
below_is marks w event are zero le = refl
below_is marks w event are (suc link) le =
    let v : Actors = actors_after w event in
    ap (λ (xs : List Crossing). xs ++ map (down Sent) (drop (slice_index marks.outboxes.items link) (outbox_of v link))) (below_is marks w event are link (omega arith))
    ∙ ap (λ (mark : ℕ). put_below link w event ++ map (down Sent) (drop mark (outbox_of v link))) (are.outboxes link (omega arith))
    ∙ ap (λ (entries : List OutboxEntry). put_below link w event ++ map (down Sent) entries) (outbox_behind link w event)

-- nothing is put where it isn't the controller's turn
none_out : (w : Actors) (event : Event) → is_turn event ≡ false → outputs w event ≡ []
none_out w Handle other = absurd (cc other)
none_out w (Tick ms) other = absurd (cc other)
none_out w _ other = refl

rests_below : (n : ℕ) (w : Actors) (event : Event) → outputs w event ≡ [] → put_below n w event ≡ []
rests_below zero w event none = refl
rests_below (suc link) w event none =
    ap (λ (xs : List Crossing). xs ++ map (down Sent) (put link w event)) (rests_below link w event none)
    ∙ ap (λ (entries : List OutboxEntry). map (down Sent) (if is_up w link then to_link link entries else [])) none
    ∙ ap (map (down Sent)) (none_put (is_up w link) link)

put_where : (b : Bool) (n : ℕ) (w : Actors) (event : Event) →
    (b ≡ false → outputs w event ≡ []) →
    put_below (if b then n else 0) w event ≡ put_below n w event
put_where true n w event rests = refl
put_where false n w event rests = sym (rests_below n w event (rests refl))

sent_is : (marks : Marks) (w : Actors) (event : Event) → AreMarks w event marks → behind marks (actors_after w event) ≡ sent w event
sent_is marks w event are =
    let v : Actors = actors_after w event in
    ap (λ (mark : ℕ). flat_map (up Sent) (drop mark v.inbox) ++ behind_below (length marks.outboxes.items) marks.outboxes.items v) are.inbox
    ∙ ap (λ (items : List Item). flat_map (up Sent) items ++ behind_below (length marks.outboxes.items) marks.outboxes.items v) (inbox_behind w event)
    ∙ ap (λ (xs : List Crossing). flat_map (up Sent) (pushed w event) ++ xs) (below_is marks w event are (length marks.outboxes.items) (omega arith))
    ∙ ap (λ (n : ℕ). flat_map (up Sent) (pushed w event) ++ put_below n w event) are.links
    ∙ ap (λ (xs : List Crossing). flat_map (up Sent) (pushed w event) ++ xs) (put_where (is_turn event) (length w.links) w event (none_out w event))

-- ---- what was taken

map_if : (b : Bool) (entries : List OutboxEntry) → (if b then map (down Got) entries else []) ≡ map (down Got) (if b then entries else [])
map_if true entries = refl
map_if false entries = refl

here : (link : ℕ) (b : Bool) (entries : List OutboxEntry) →
    (if link == link then (if b then entries else []) else []) ≡ (if b then entries else [])
here link b entries = ap (λ (same : Bool). if same then (if b then entries else []) else []) (eq-eqb link link refl)

down_is : (link : ℕ) (b : Bool) (entries : List OutboxEntry) →
    (if b then map (down Got) entries else []) ≡ map (down Got) (if link == link then (if b then entries else []) else [])
down_is link b entries = map_if b entries ∙ ap (map (down Got)) (sym (here link b entries))

handled_is : (w : Actors) (items : List Item) →
    (if is_some (handled items w) then flat_map (up Got) (first_of items) else []) ≡ flat_map (up Got) (first_of items)
handled_is w [] = refl
handled_is w (item ∷ items) = refl

neither : (b : Bool) → (let none : List Crossing = [] in if b then none else none) ≡ []
neither true = refl
neither false = refl

got_is : (w : Actors) (event : Event) → (if is_some (event_after w event) then waiting w event else []) ≡ got w event
unfolding event_after
got_is w (BaseTakes station) = down_is station (is_some (event_after w (BaseTakes station))) (first_of (outbox_of w station))
got_is w SwitchTakes = down_is SWITCH_LINK (is_some (event_after w SwitchTakes)) (first_of (outbox_of w SWITCH_LINK))
got_is w Handle = handled_is w w.inbox
got_is w event = neither (is_some (event_after w event))

-- ---- and so of the event

took : (w : Actors) (o : Option Actors) (taken : Bool) (v : Actors) → Takes w o taken v → (v ≡ unwrap_or o w) × (taken ≡ is_some o)
took w None taken v takes = (takes.1, takes.0)
took w (Some next) taken v takes = (takes.1, takes.0)

after_is : (w : Actors) (event : Event) (taken : Bool) (v : Actors) → Takes w (event_after w event) taken v → v ≡ actors_after w event
after_is w event taken v takes = (took w (event_after w event) taken v takes).0

taken_is : (w : Actors) (event : Event) (taken : Bool) (v : Actors) →
    Takes w (event_after w event) taken v →
    taken ≡ is_some (event_after w event)
taken_is w event taken v takes = (took w (event_after w event) taken v takes).1

pub crossings_are : (w : Actors) (event : Event) (taken : Bool) (v : Actors) (marks : Marks) (first before all : List Crossing) →
    Takes w (event_after w event) taken v →
    AreMarks w event marks →
    first ≡ waiting w event →
    before ≡ (if taken then first else []) →
    all ≡ before ++ behind marks v →
    all ≡ got w event ++ sent w event
crossings_are w event taken v marks first before all takes are is was whole =
    whole ∙ ap (λ (xs : List Crossing). xs ++ behind marks v) (was ∙ ap (λ (xs : List Crossing). if taken then xs else []) is ∙ ap (λ (b : Bool). if b then waiting w event else []) (taken_is w event taken v takes) ∙ got_is w event)
    ∙ ap (λ (u : Actors). got w event ++ behind marks u) (after_is w event taken v takes)
    ∙ ap (λ (xs : List Crossing). got w event ++ xs) (sent_is marks w event are)
