-- SPDX-License-Identifier: MIT OR Apache-2.0
-- The acknowledgements that arrived, followed by those on their way, are a prefix of those due.
use Rattle.world_laws.proofs.Prelude.{◌≡◌, ◌≤◌, false, List, ◌++◌, ap, ◌∙◌, subst, append_assoc, arith, flat_map, filter-append}
use Rattle.world_laws.proofs.Prelude.{is_bound_of, Rsl, Parameters, Event, acknowledgements, due, all_popped, Actors, base_of, new_actors}
use Rattle.world_laws.proofs.Prelude.{IsPrefix, all_put, acks_start, messages_up, read_of}
use Rattle.world_laws.specs.AcksBegin.{AcksBegin}
use Rattle.world_laws.proofs.Acknowledged.{given_read}
use Rattle.world_laws.proofs.Events.{world}

pub acks_begin_new : (settings : Parameters) (events : List Event) → AcksBegin settings events
acks_begin_new settings events at least most =
    let w : Actors = world settings events in
    let taken : List Rsl = flat_map (read_of at.station) (all_popped (new_actors settings) events) in
    let reads : List Rsl = flat_map (read_of at.station) w.inbox in
    subst (λ (ms : List Rsl). IsPrefix ms (due at.number false (all_put at.station (new_actors settings) events)))
    (ap (λ (ms : List Rsl). acknowledgements at.number (ms ++ (base_of w at.station).messages)) (given_read settings events at.station (λ is. not_zero is least))
    ∙ ap (acknowledgements at.number) (append_assoc taken reads (base_of w at.station).messages)
    ∙ filter-append (is_bound_of at.number) taken (messages_up w at.station))
    (acks_start settings events at.station at.number least most) where
      not_zero : at.station ≡ 0 → 1 ≤ at.station → ⊥
      not_zero is least = absurd (omega arith)
