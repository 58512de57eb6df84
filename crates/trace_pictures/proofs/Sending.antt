-- SPDX-License-Identifier: MIT OR Apache-2.0
-- The frames that are sent so far, and how a frame and an event extend them.
use Rattle.std.proofs.Common.{◌≡◌, ℕ, ◌+◌, ◌<◌, List, [], ◌∷◌, ◌++◌, get_or, length, take, drop, sym, ap, ◌∙◌, append_assoc}
use Rattle.std.specs.List.{flat_map}
use Rattle.std.proofs.lemmas.List.{drop_more, flat_map_more, take_more}
use Rattle.frame_pictures.specs.declared.link_frame.LinkFrame.{LinkFrame}
use Rattle.world_model.specs.declared.event.Event.{Event}
use Rattle.world_model.specs.Life.{actors_after}
use Rattle.world_model.specs.World.{Actors}
use Rattle.world_trace.specs.declared.crossing.Crossing.{Crossing}
use Rattle.world_trace.specs.Crossings.{crossings}
use Rattle.trace_pictures.specs.FramesSent.{frames_sent, put_at, time_after}

pub crossing_more : (ms n : ℕ) (xs : List Crossing) (x : Crossing) (old mid new : List LinkFrame)
    → mid ≡ old ++ flat_map (put_at ms) (take n xs) → n < length xs → x ≡ get_or xs n x → new ≡ mid ++ put_at ms x
    → new ≡ old ++ flat_map (put_at ms) (take (n + 1) xs)
crossing_more ms n xs x old mid new some less is more =
    let front : List Crossing = take n xs in
    let longer : front ++ x ∷ [] ≡ take (n + 1) xs = ap (λ (y : Crossing). front ++ y ∷ []) is ∙ sym (take_more xs n x less) in
    more ∙ ap (λ (fs : List LinkFrame). fs ++ put_at ms x) some
    ∙ append_assoc old (flat_map (put_at ms) front) (put_at ms x)
    ∙ ap (λ (fs : List LinkFrame). old ++ fs) (flat_map_more (put_at ms) [] front x ∙ ap (flat_map (put_at ms)) longer)

pub event_more : (w v : Actors) (ms now n : ℕ) (events : List Event) (event : Event) (frames more whole : List LinkFrame) (xs : List Crossing)
    → frames ++ frames_sent w ms (drop n events) ≡ whole → n < length events → event ≡ get_or events n event
    → now ≡ time_after ms event → v ≡ actors_after w event → xs ≡ crossings w event → more ≡ frames ++ flat_map (put_at now) xs
    → more ++ frames_sent v now (drop (n + 1) events) ≡ whole
event_more w v ms now n events event frames more whole xs some less is time after crossed put =
    let left : drop n events ≡ event ∷ drop (n + 1) events = drop_more events n event less ∙ ap (λ (e : Event). e ∷ drop (n + 1) events) (sym is) in
    let rest : List Event = drop (n + 1) events in
    let then : ℕ = time_after ms event in
    ap (λ (fs : List LinkFrame). fs ++ frames_sent v now rest) put
    ∙ ap (λ (ys : List Crossing). (frames ++ flat_map (put_at now) ys) ++ frames_sent v now rest) crossed
    ∙ ap (λ (u : Actors). (frames ++ flat_map (put_at now) (crossings w event)) ++ frames_sent u now rest) after
    ∙ ap (λ (k : ℕ). (frames ++ flat_map (put_at k) (crossings w event)) ++ frames_sent (actors_after w event) k rest) time
    ∙ append_assoc frames (flat_map (put_at then) (crossings w event)) (frames_sent (actors_after w event) then rest)
    ∙ ap (λ (es : List Event). frames ++ frames_sent w ms es) (sym left)
    ∙ some
