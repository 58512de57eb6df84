-- SPDX-License-Identifier: MIT OR Apache-2.0
-- The messages still to be relayed when a message is held, when an old channel is done, and when
-- the target serves.
use Rattle.conn_rules.proofs.Prelude.{◌≡◌, ℕ, zero, suc, ◌+◌, true, false, List, [], ◌∷◌, ◌++◌, length, Some, refl, sym, ap, ◌∙◌, arith}
use Rattle.conn_rules.proofs.Prelude.{append_assoc, inl, inr, cases_Bool, cond-true, cond-false, Channel, Place, Sapi, Zero, Three, TenureHold}
use Rattle.conn_rules.proofs.Prelude.{empty_tenure, tenure_messages, put_in, Drain, Changing, State, Live, is_at, tenure_at, Future}
use Rattle.conn_rules.proofs.Prelude.{on_channel, still_of, of_target, first_at, undone, target_in, IsApart, AreApart, with_tenure_messages}
use Rattle.conn_rules.specs.Steps.{done_at}
use Rattle.conn_rules.proofs.UplinkPlaces.{DrainsAt, AreAway, same_place, away_of_other, first_here, first_away, all_away, all_behind, apart_behind, apart_rest, apart_first, drain_at_drains, drain_away, drain_behind_away, of_drain_away, still_of-away}

-- ---- a message is held in the tenure of its channel

pub held : (t : TenureHold) (sapi : Sapi) (these : List (List ℕ)) → tenure_messages (with_tenure_messages t sapi these) sapi ≡ these
held t Zero these = refl
held t Three these = refl

pub empty_messages : (sapi : Sapi) → tenure_messages empty_tenure sapi ≡ []
empty_messages Zero = refl
empty_messages Three = refl

-- in the tenure of the serving channel, the last
serving-put : (sapi : Sapi) (at : Place) (message : List ℕ) (future : Future) (serving : Channel) (ds : List Drain) (ts : List TenureHold) (rest : List Channel) →
    is_at at serving ≡ true →
    AreApart (undone ds ++ serving ∷ rest) →
    still_of sapi future serving ds (put_in (length ds) sapi message ts) ≡ still_of sapi (first_at at message future) serving ds ts
serving-put sapi at message future serving [] [] rest here apart = refl
serving-put sapi at message future serving [] (t ∷ ts) rest here apart =
    rw (held t sapi, first_here at serving message future here) (append_assoc (tenure_messages t sapi) (message ∷ []) (on_channel future serving))
serving-put sapi at message future serving (d ∷ ds) [] rest here apart = refl
serving-put sapi at message future serving (d ∷ ds) (t ∷ ts) rest here apart =
    let others = serving-put sapi at message future serving ds ts rest here (apart_rest d.is_done d.channel (undone ds) (serving ∷ rest) apart) in
    let away : d.is_done ≡ false → is_at at d.channel ≡ false = λ undone_one. away_of_other at d.channel serving (all_behind (IsApart d.channel) (undone ds) (serving ∷ rest) (apart_first d.is_done d.channel (undone ds) (serving ∷ rest) undone_one apart)).0 here in
    let first = of_drain_away at message future d.is_done d.channel away in
    rw (first, others) refl

-- in that of an old channel
drain_put : (sapi : Sapi) (at : Place) (message : List ℕ) (future : Future) (serving : Channel) (place : ℕ) (ds : List Drain) (ts : List TenureHold) (rest : List Channel) →
    DrainsAt at place ds →
    AreApart (undone ds ++ serving ∷ rest) →
    still_of sapi future serving ds (put_in place sapi message ts) ≡ still_of sapi (first_at at message future) serving ds ts
drain_put sapi at message future serving place [] ts rest drains apart = absurd drains
drain_put sapi at message future serving place (d ∷ ds) [] rest drains apart = refl
drain_put sapi at message future serving zero (d ∷ ds) (t ∷ ts) rest drains apart =
    let away = all_away at d.channel (undone ds ++ serving ∷ rest) drains.0 (apart_first d.is_done d.channel (undone ds) (serving ∷ rest) drains.1 apart) in
    let others = still_of-away sapi at message future serving ds ts rest away in
    rw (held t sapi, drains.1, others, first_here at d.channel message future drains.0) (append_assoc (tenure_messages t sapi) (message ∷ []) (on_channel future d.channel ++ still_of sapi future serving ds ts))
drain_put sapi at message future serving (suc place) (d ∷ ds) (t ∷ ts) rest drains apart =
    let others = drain_put sapi at message future serving place ds ts rest drains (apart_rest d.is_done d.channel (undone ds) (serving ∷ rest) apart) in
    let away : d.is_done ≡ false → is_at at d.channel ≡ false = λ undone_one. drain_away at d.channel place ds (serving ∷ rest) drains (apart_first d.is_done d.channel (undone ds) (serving ∷ rest) undone_one apart) in
    let first = of_drain_away at message future d.is_done d.channel away in
    rw (first, others) refl

-- the target is another channel
target_away : (at : Place) (message : List ℕ) (future : Future) (state : State) →
    AreAway at (target_in state) →
    of_target (first_at at message future) state ≡ of_target future state
target_away at message future (Live reference (Changing target)) away = first_away at target.channel message future away.0
target_away at message future _ away = refl

pub tenure_put : (sapi : Sapi) (at : Place) (message : List ℕ) (future : Future) (serving : Channel) (ds : List Drain) (ts : List TenureHold) (state : State) (place : ℕ) →
    AreApart (undone ds ++ serving ∷ target_in state) →
    tenure_at at serving ds ≡ Some place →
    still_of sapi future serving ds (put_in place sapi message ts) ++ of_target future state ≡ still_of sapi (first_at at message future) serving ds ts ++ of_target (first_at at message future) state
tenure_put sapi at message future serving ds ts state place apart is =
    elim (cases_Bool (is_at at serving)) [
      | inl here ↦
          let last : Some (length ds) ≡ Some place = sym (cond-true _ _ _ here) ∙ is in
          let same : place ≡ length ds = cc in
          let target = target_away at message future state (all_away at serving (target_in state) here (apart_behind (undone ds) (serving ∷ target_in state) apart).0) in
          rw (same, serving-put sapi at message future serving ds ts (target_in state) here apart, target) refl
      | inr other ↦
          let drains = drain_at_drains at ds place (sym (cond-false _ _ _ other) ∙ is) in
          let target = target_away at message future state (drain_behind_away at place ds (serving ∷ target_in state) drains apart).1 in
          rw (drain_put sapi at message future serving place ds ts (target_in state) drains apart, target) refl
    ]

-- ---- an old channel is done, on which nothing arrives any more

pub done_still : (sapi : Sapi) (at : Place) (future : Future) (serving : Channel) (place : ℕ) (ds : List Drain) (ts : List TenureHold) →
    future at ≡ [] →
    DrainsAt at place ds →
    still_of sapi future serving (done_at place ds) ts ≡ still_of sapi future serving ds ts
done_still sapi at future serving place [] ts over drains = absurd drains
done_still sapi at future serving zero (d ∷ ds) [] over drains = refl
done_still sapi at future serving zero (d ∷ ds) (t ∷ ts) over drains =
    let none : on_channel future d.channel ≡ [] = ap future (sym (same_place at d.channel drains.0)) ∙ over in
    rw (drains.1, none) refl
done_still sapi at future serving (suc place) (d ∷ ds) [] over drains = refl
done_still sapi at future serving (suc place) (d ∷ ds) (t ∷ ts) over drains =
    rw (done_still sapi at future serving place ds ts over drains) refl

-- ---- the target serves, and the channel that served drains

pub moved_still : (sapi : Sapi) (future : Future) (serving target : Channel) (ds : List Drain) (ts : List TenureHold) →
    length ts ≡ length ds + 1 →
    still_of sapi future target (ds ++ record { channel = serving; is_done = false } ∷ []) (ts ++ empty_tenure ∷ []) ≡ still_of sapi future serving ds ts ++ on_channel future target
moved_still sapi future serving target [] (t ∷ []) long =
    rw (empty_messages sapi) (sym (append_assoc (tenure_messages t sapi) (on_channel future serving) (on_channel future target)))
moved_still sapi future serving target (d ∷ ds) (t ∷ ts) long =
    let others = moved_still sapi future serving target ds ts (omega arith) in
    rw others (simp append_assoc)
moved_still sapi future serving target _ _ long = absurd (omega arith)
