-- SPDX-License-Identifier: MIT OR Apache-2.0
-- The step that a row makes in a line-up, by its step in the roles of channels.
use Rattle.world_laws.proofs.Prelude.{◌≡◌, ℕ, ◌+◌, ◌≤◌, Bool, true, false, ◌&&◌, ◌||◌, not, if◌then◌else◌, List, [], ◌∷◌, ◌++◌, Option}
use Rattle.world_laws.proofs.Prelude.{Some, None, refl, sym, ap, ◌∙◌, Channel, Place, Input, Drain, Connection, drain_at, TargetRole}
use Rattle.world_laws.proofs.Prelude.{target_role, roles_of, commanded, completed, RemainsOpen, roles_unchanged, role_commands}
use Rattle.world_laws.proofs.Prelude.{role_completes}
use Rattle.world_laws.proofs.Prelude.{role_reverts, role_leaves, Row, place_of, after_complete, messages_in, controls_in, texts_in}
use Rattle.world_laws.proofs.Prelude.{is_ended, commanded_target, lacks, some_lacks, target_items, OwnStep}
use Rattle.world_laws.specs.LineUp.Places.{Item, Seat}
use Rattle.world_laws.specs.OwnStep.OwnStep.{unchanged, tells, completes, reverts}
use Rattle.world_laws.proofs.RolesAfter.{commanded_of, commanded_role, ChannelsAfter, channels_after, both_false, AreReleased}
use Rattle.world_laws.proofs.RolesAfter.{leaves_covers}

-- nothing joins what is on its way up
pub record IsLess (before after : Place → List Item) (up : ℕ → Bool) (s : Connection) : Type 0 where
  pub serving : controls_in (after (place_of s.serving)) ≤ controls_in (before (place_of s.serving))
  pub texts : texts_in (target_items after (commanded_target s.state)) ≤ texts_in (target_items before (commanded_target s.state))
  pub controls : controls_in (target_items after (commanded_target s.state)) ≤ controls_in (target_items before (commanded_target s.state))

-- the roles are unchanged
pub own_remains : {before after : Place → List Item} {up : ℕ → Bool} (s : Connection) (input : Input) (offer : Option Channel) (r : Row) {commands commands2 : ℕ} (seat : Seat) → RemainsOpen roles_unchanged (roles_of s) s.down input offer r → IsLess before after up s → commands2 ≤ commands
    → (some_lacks after up s.draining ≡ false → some_lacks before up s.draining ≡ false) → OwnStep before after up s r.next commands commands2 seat seat
own_remains {before} {after} {up} s input offer r seat remains less at_most covers =
    let now : ChannelsAfter r.next (roles_of s) = channels_after roles_unchanged (roles_of s) s.down input offer r remains in
    unchanged now.serving (now.target ∙ sym (commanded_role s.state)) less.serving less.texts less.controls at_most (λ none. covers (sym (ap (some_lacks after up) now.draining) ∙ none))

-- an old channel is released
pub own_leaves : {before after : Place → List Item} {up : ℕ → Bool} (s : Connection) (input : Input) (offer : Option Channel) (r : Row) {commands commands2 : ℕ} (seat : Seat) (at : Place) (place : ℕ) → drain_at at s.draining ≡ Some place → RemainsOpen (role_leaves place) (roles_of s) s.down input offer r → IsLess before after up s → commands2 ≤ commands
    → AreReleased before after up at s.draining → OwnStep before after up s r.next commands commands2 seat seat
own_leaves {before} {after} {up} s input offer r seat at place found remains less at_most released =
    let now = channels_after (role_leaves place) (roles_of s) s.down input offer r remains in
    unchanged now.serving (now.target ∙ sym (commanded_role s.state)) less.serving less.texts less.controls at_most (λ none. leaves_covers before after up at place s.draining found released (sym (ap (some_lacks after up) now.draining) ∙ none))

-- the mobile is commanded
pub own_tells : {before after : Place → List Item} {up : ℕ → Bool} (s : Connection) (input : Input) (offer : Option Channel) (r : Row) {commands commands2 : ℕ} (seat : Seat) (t : TargetRole) → target_role s.state ≡ Some t → t.is_commanded ≡ false → RemainsOpen role_commands (roles_of s) s.down input offer r
    → controls_in (after (place_of s.serving)) ≤ controls_in (before (place_of s.serving)) → messages_in (after (place_of t.target.channel)) ≡ [] → commands2 ≤ 1 → (some_lacks after up s.draining ≡ false → some_lacks before up s.draining ≡ false) → OwnStep before after up s r.next commands commands2 seat seat
unfolding commanded_of
own_tells {before} {after} {up} s input offer r seat t role waits remains fewer nothing at_most covers =
    let now = channels_after role_commands (roles_of s) s.down input offer r remains in
    tells now.serving (commanded_role s.state ∙ ap commanded_of role ∙ ap (λ (b : Bool). if b then Some t.target else None) waits) t.target (now.target ∙ ap (λ (o : Option TargetRole). commanded_of (commanded o)) role) fewer nothing at_most (λ none. covers (sym (ap (some_lacks after up) now.draining) ∙ none))

-- the change is given up
pub own_reverts : {before after : Place → List Item} {up : ℕ → Bool} (s : Connection) (input : Input) (offer : Option Channel) (r : Row) {commands commands2 : ℕ} (seat : Seat) (t : TargetRole) → target_role s.state ≡ Some t → t.is_commanded ≡ true → RemainsOpen role_reverts (roles_of s) s.down input offer r
    → controls_in (after (place_of s.serving)) + 1 ≤ controls_in (before (place_of s.serving)) → commands2 ≤ commands → (some_lacks after up s.draining ≡ false → some_lacks before up s.draining ≡ false) → OwnStep before after up s r.next commands commands2 seat seat
unfolding commanded_of
own_reverts {before} {after} {up} s input offer r seat t role is_commanded_there remains more at_most covers =
    let now = channels_after role_reverts (roles_of s) s.down input offer r remains in
    reverts t.target (commanded_role s.state ∙ ap commanded_of role ∙ ap (λ (b : Bool). if b then Some t.target else None) is_commanded_there) now.target now.serving more at_most (λ none. covers (sym (ap (some_lacks after up) now.draining) ∙ none))

-- one drain more
lacks_behind : (arriving : Place → List Item) (up : ℕ → Bool) (ds : List Drain) (d : Drain) →
    some_lacks arriving up (ds ++ d ∷ []) ≡ false →
    (some_lacks arriving up ds ≡ false) × (lacks arriving up d ≡ false)
lacks_behind arriving up [] d none = (refl, (both_false (lacks arriving up d) false none).0)
lacks_behind arriving up (x ∷ ds) d none =
    let first = both_false (lacks arriving up x) (some_lacks arriving up (ds ++ d ∷ [])) none in
    let rest = lacks_behind arriving up ds d first.1 in
    (ap (λ (b : Bool). b || some_lacks arriving up ds) first.0 ∙ rest.0, rest.1)

-- the target serves
pub own_completes : {before after : Place → List Item} {up : ℕ → Bool} (s : Connection) (input : Input) (offer : Option Channel) (r : Row) {commands commands2 : ℕ} (seat : Seat) (t : TargetRole) → target_role s.state ≡ Some t → t.is_commanded ≡ true → RemainsOpen role_completes (roles_of s) s.down input offer r
    → controls_in (after (place_of t.target.channel)) + 1 ≤ controls_in (before (place_of t.target.channel)) → commands2 ≤ commands → (some_lacks after up s.draining ≡ false → some_lacks before up s.draining ≡ false) → is_ended (after (place_of s.serving)) ≡ false
    → OwnStep before after up s r.next commands commands2 seat (after_complete seat)
unfolding commanded_of
own_completes {before} {after} {up} s input offer r seat t role is_commanded_there remains more at_most covers not_ended =
    let now = channels_after role_completes (roles_of s) s.down input offer r remains in
    completes t.target (commanded_role s.state ∙ ap commanded_of role ∙ ap (λ (b : Bool). if b then Some t.target else None) is_commanded_there) (now.target ∙ ap (λ (o : Option TargetRole). commanded_of (completed o (roles_of s)).target) role)
    (now.serving ∙ ap (λ (o : Option TargetRole). (completed o (roles_of s)).serving) role) more at_most
    (λ none. let both = lacks_behind after up s.draining (record { channel = s.serving; is_done = false }) (sym (ap (some_lacks after up) (now.draining ∙ ap (λ (o : Option TargetRole). (completed o (roles_of s)).draining) role)) ∙ none) in
    (covers both.0, whole both.1)) where
      whole : not (up s.serving.station) && not (is_ended (after (place_of s.serving))) ≡ false → not (up s.serving.station) ≡ false
      whole none = both (not (up s.serving.station)) (ap (λ (b : Bool). not (up s.serving.station) && not b) (sym not_ended) ∙ none) where
        both : (a : Bool) → a && true ≡ false → a ≡ false
        both false is = refl
        both true is = absurd cc
