-- SPDX-License-Identifier: MIT OR Apache-2.0
-- A row of the table keeps its connection's line-up, if the change of channel is as far as before
-- and nothing more is missing.
use Rattle.world_laws.proofs.Prelude.{◌≡◌, ℕ, Bool, true, false, not, if◌then◌else◌, List, [], ◌∷◌, ◌++◌, Option, Some, None, refl, sym, ap}
use Rattle.world_laws.proofs.Prelude.{◌∙◌, subst, append_assoc, inl, inr, cases_Bool, cond-true, cond-false, Place, Drain, State}
use Rattle.world_laws.proofs.Prelude.{WaitActivation, WaitEstablish, Live, Target, Connection, IsValidState}
use Rattle.world_laws.proofs.Prelude.{place_of, is_flow_message, Held, to_be_taken, DataLinkState, false≢true, FirstIsEmpty, IsValid}
use Rattle.world_laws.proofs.Prelude.{Alive, FirstRelays, Follows, some_lost, rises, ended, flow, parts_of, controls_of, controls_in}
use Rattle.world_laws.proofs.Prelude.{texts_in, draining_tenure, old_tenure, old_tenures, serving_hold, serving_tenure, commanded_target}
use Rattle.world_laws.proofs.Prelude.{target_tenure, is_changing, is_confirmed, is_intact, is_opening, assembled}
use Rattle.world_laws.specs.LineUp.Alive.{ChangePhase}
use Rattle.world_laws.specs.LineUp.Places.{Item, Seat}
use Rattle.world_laws.proofs.LineUp.Following.{follows_line, follows_rise}
use Rattle.world_laws.proofs.LineUp.Lines.{flow-append}
use Rattle.world_laws.proofs.Breaks.{target_came}
use Rattle.world_laws.proofs.Cutting.{condition_of}

-- ---- the oldest channel holds nothing

old_hold : (arriving : Place → List Item) (up : ℕ → Bool) (d : Drain) (hold : List (List ℕ)) → (old_tenure arriving up d hold).hold ≡ hold
old_hold arriving up d hold = by_done d.is_done where
  by_done : (b : Bool) → (if b then ended hold else draining_tenure (up d.channel.station) (arriving (place_of d.channel)) hold).hold ≡ hold
  by_done true = refl
  by_done false = refl

none_held : (draining : List Drain) (tenures : List Held) (arriving : Place → List Item) (up : ℕ → Bool) →
    FirstIsEmpty tenures →
    FirstRelays true (old_tenures arriving up draining tenures) (serving_hold draining tenures)
none_held draining [] arriving up first = elim first [ ]
none_held [] (t ∷ ts) arriving up first = λ _. ap (λ (held : Held). held.zero) first
none_held (d ∷ ds) (t ∷ ts) arriving up first = old_hold arriving up d t.zero ∙ ap (λ (held : Held). held.zero) first

-- before CC no channel drains
no_drain : (tenures : List Held) (arriving : Place → List Item) (up : ℕ → Bool) (draining : List Drain) →
    draining ≡ [] →
    FirstRelays false (old_tenures arriving up draining tenures) (serving_hold draining tenures)
no_drain tenures arriving up [] none = λ is. absurd (false≢true is)
no_drain tenures arriving up (d ∷ ds) none = absurd cc

pub first_relays : (s : Connection) (arriving : Place → List Item) (up : ℕ → Bool) →
    IsValid s →
    FirstRelays (is_confirmed s.state) (old_tenures arriving up s.draining s.up.tenures) (serving_hold s.draining s.up.tenures)
first_relays s arriving up valid = by_state s.state valid.state where
  by_state : (state : State) →
      IsValidState state s.draining s.down s.up.tenures s.link s.waits →
      FirstRelays (is_confirmed state) (old_tenures arriving up s.draining s.up.tenures) (serving_hold s.draining s.up.tenures)
  by_state WaitActivation by = no_drain s.up.tenures arriving up s.draining by.0.none_drains
  by_state WaitEstablish by = no_drain s.up.tenures arriving up s.draining by.0.none_drains
  by_state (Live reference stage) by = none_held s.draining s.up.tenures arriving up by.first
  by_state _ by = no_drain s.up.tenures arriving up s.draining by.none_drains

-- ---- the line

pub flow-twice : (xs : List (List ℕ)) → flow (flow xs) ≡ flow xs
flow-twice [] = refl
flow-twice (x ∷ xs) =
    elim (cases_Bool (is_flow_message x)) [
      | inl is ↦
          ap flow (cond-true (is_flow_message x) (x ∷ flow xs) (flow xs) is) ∙ cond-true (is_flow_message x) (x ∷ flow (flow xs)) (flow (flow xs)) is
          ∙ ap (λ (ys : List (List ℕ)). x ∷ ys) (flow-twice xs) ∙ sym (cond-true (is_flow_message x) (x ∷ flow xs) (flow xs) is)
      | inr other ↦ ap flow (cond-false (is_flow_message x) (x ∷ flow xs) (flow xs) other) ∙ flow-twice xs ∙ sym (cond-false (is_flow_message x) (x ∷ flow xs) (flow xs) other)
    ]

moved_line : (taken out relayed parts_before parts_after : List (List ℕ)) →
    parts_before ≡ flow relayed ++ parts_after →
    (flow taken ++ flow out) ++ parts_before ≡ (flow taken ++ flow (out ++ flow relayed)) ++ parts_after
moved_line taken out relayed parts_before parts_after is =
    ap (λ (xs : List (List ℕ)). (flow taken ++ flow out) ++ xs) is
    ∙ sym (append_assoc (flow taken ++ flow out) (flow relayed) parts_after)
    ∙ ap (λ (xs : List (List ℕ)). xs ++ parts_after) (append_assoc (flow taken) (flow out) (flow relayed)
    ∙ ap (λ (xs : List (List ℕ)). flow taken ++ (flow out ++ xs)) (sym (flow-twice relayed)) ∙ ap (λ (xs : List (List ℕ)). flow taken ++ xs) (sym (flow-append out (flow relayed))))

follows_moved : {m : ℕ} {sent xs ys : List (List ℕ)} {link : DataLinkState} {ok : Bool} (ok2 : Bool) →
    xs ≡ ys →
    (ok2 ≡ true → ok ≡ true) →
    Follows m sent xs link ok →
    Follows m sent ys link ok2
follows_moved false same intact follows = let rise = follows_rise (follows_line same follows) in rises rise.0 rise.1
follows_moved {m} {sent} {xs} {ys} {link} true same intact follows = subst (Follows m sent ys link) (intact refl) (follows_line same follows)

-- ---- the row

-- what is seen of a connection before and after its row: the tenures
pub record Rowed (s next : Connection) (seat seat2 : Seat) (before after : Place → List Item) (up : ℕ → Bool) (relayed : List (List ℕ)) : Type 0 where
  -- what it relays, and the line behind it, are the line before
  pub line : parts_of (old_tenures before up s.draining s.up.tenures ++ serving_tenure before up s.serving (serving_hold s.draining s.up.tenures) ∷ target_tenure before up seat (commanded_target s.state) ∷ [])
      ≡ flow relayed ++ parts_of (old_tenures after up next.draining next.up.tenures ++ serving_tenure after up next.serving (serving_hold next.draining next.up.tenures) ∷ target_tenure after up seat2 (commanded_target next.state) ∷ [])
  -- where nothing is missing after it, nothing was
  pub intact : is_intact seat2 (old_tenures after up next.draining next.up.tenures) (serving_tenure after up next.serving (serving_hold next.draining next.up.tenures)) (target_tenure after up seat2 (commanded_target next.state)) ≡ true
      → is_intact seat (old_tenures before up s.draining s.up.tenures) (serving_tenure before up s.serving (serving_hold s.draining s.up.tenures)) (target_tenure before up seat (commanded_target s.state)) ≡ true

pub row_alive : {m : ℕ} (s next : Connection) (sent : List (List ℕ)) (link : DataLinkState) (seat seat2 : Seat) (commands commands2 : ℕ) (before after : Place → List Item) (up : ℕ → Bool) (relayed out taken : List (List ℕ)) → IsValid next → Rowed s next seat seat2 before after up relayed
    → ChangePhase (is_opening next.state) (is_changing (commanded_target next.state)) commands2 seat2 (controls_in (after (place_of next.serving))) (texts_in (target_tenure after up seat2 (commanded_target next.state)).items) (controls_in (target_tenure after up seat2 (commanded_target next.state)).items) (controls_of (to_be_taken link))
    → Alive m (assembled sent link seat s.state commands (old_tenures before up s.draining s.up.tenures) (serving_tenure before up s.serving (serving_hold s.draining s.up.tenures)) (target_tenure before up seat (commanded_target s.state)) out taken)
    → Alive m (assembled sent link seat2 next.state commands2 (old_tenures after up next.draining next.up.tenures) (serving_tenure after up next.serving (serving_hold next.draining next.up.tenures)) (target_tenure after up seat2 (commanded_target next.state)) (out ++ flow relayed) taken)
row_alive s next sent link seat seat2 commands commands2 before after up relayed out taken alone rowed phase alive = record {
  follows = follows_moved (is_intact seat2 (old_tenures after up next.draining next.up.tenures) (serving_tenure after up next.serving (serving_hold next.draining next.up.tenures)) (target_tenure after up seat2 (commanded_target next.state)))
      (moved_line taken out relayed _ _ rowed.line) rowed.intact alive.follows;
  first = first_relays next after up alone;
  phase = phase;
  condition = condition_of seat2 (some_lost (old_tenures after up next.draining next.up.tenures)) (not (up next.serving.station)) (target_tenure after up seat2 (commanded_target next.state)).is_lost (target_came after up seat2 (commanded_target next.state));
  bare = bare (commanded_target next.state);
} where
  bare : (o : Option Target) → (target_tenure after up seat2 o).hold ≡ []
  bare None = refl
  bare (Some t) = refl
