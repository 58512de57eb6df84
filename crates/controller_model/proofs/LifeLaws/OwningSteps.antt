-- SPDX-License-Identifier: MIT OR Apache-2.0
-- The owners of channels after each step.
use Rattle.controller_model.proofs.Prelude.{◌≡◌, ◌≢◌, ℕ, zero, suc, ◌+◌, ◌-◌, ◌<◌, ◌&&◌, Bool, true, false, if◌then◌else◌, List, [], ◌∷◌}
use Rattle.controller_model.proofs.Prelude.{length, find, fold, set, slice_get, slice_index_or, Option, Some, None, option_map, refl, sym}
use Rattle.controller_model.proofs.Prelude.{subst, ap, ◌∙◌, inl, inr, arith, true≢false, cases_Bool, cond-true, cond-false, and_parts}
use Rattle.controller_model.proofs.Prelude.{option_and_then_some, AllByRecursion, Channel, Place, Message, Station, Input, State, Removed}
use Rattle.controller_model.proofs.Prelude.{Connection, drain_at, is_at, TargetRole, Roles, RoleEnd, ChangesRoles, end_messages, roles_of}
use Rattle.controller_model.proofs.Prelude.{awaits_at, changes_by, step_by, leaves_at, carries_on, ends, had_ended, unchanged, commands}
use Rattle.controller_model.proofs.Prelude.{completes}
use Rattle.controller_model.proofs.Prelude.{reverts, Row, IsOpen, OfRow, CellParameters, Parameters, slice_get_within, is_target_at}
use Rattle.controller_model.proofs.Prelude.{row_of, kept_in, connection_of, AreRising, Owns, OwnsOpen, is_link_up, ChannelKind}
use Rattle.controller_model.proofs.Prelude.{ChannelState, Free, InUse, Releasing, CHANNEL_NUMBERS, channel_in, channel_of_kind, first_free}
use Rattle.controller_model.proofs.Prelude.{free_channel, free_in, is_alike, is_free, is_unused, kind_of, Controller, Entry, channels_after}
use Rattle.controller_model.proofs.Prelude.{entry_of, place_at, place_of, state_in, with_state, by_row, entry_after}
use Rattle.conn_rules.specs.declared.input.Input.TheVariants as inputs
use Rattle.controller_model.proofs.LifeLaws.Acting.{row_found}
use Rattle.controller_model.proofs.LifeLaws.Entries.{back_over}
use Rattle.controller_model.proofs.LifeLaws.Owning.{HasTarget, IsOffered}
use Rattle.controller_model.proofs.LifeLaws.OwningRows.{IsMineOrder, StepOwns, row_others, row_owns}
use Rattle.controller_model.proofs.LifeLaws.Places.{IsIn, all_at, all_set, length_set}
use Rattle.controller_model.proofs.LifeLaws.Words.{decide_same}
use Rattle.controller_model.proofs.Numbers.{keeps_number}
use Rattle.rsl_codec.specs.declared.rsl.Rsl.TheVariants as rsl

abbrev States : Type 0
States = List (List ChannelState)

-- ---- the shape of the channels

abbrev pub IsRow : List ChannelState → Type 0
IsRow row = length row ≡ CHANNEL_NUMBERS

abbrev pub HasNumbers : CellParameters → Type 0
HasNumbers cell = AllByRecursion (λ number. number < CHANNEL_NUMBERS) cell.channels

pub record IsShaped (p : Parameters) (channels : States) : Type 0 where
  pub links : length channels ≡ length p.cells + 1
  pub rows : AllByRecursion IsRow channels
  pub numbers : AllByRecursion HasNumbers p.cells

pub shaped_set : (p : Parameters) (channels : States) (at : Place) (state : ChannelState) →
    IsShaped p channels →
    IsShaped p (with_state at state channels)
shaped_set p channels at state shaped = record {
  links = length_set channels at.station (set (slice_index_or channels at.station []) at.number state) ∙ shaped.links;
  rows = all_set IsRow (λ row. set row at.number state) channels at.station [] (λ row is. length_set row at.number state ∙ is) shaped.rows;
  numbers = shaped.numbers;
}

shaped_message : (p : Parameters) (m : ℕ) (channels : States) (message : Message) →
    IsShaped p channels →
    IsShaped p (channels_after m channels message)
shaped_message p m channels (Station station (rsl.ChannelActivation a)) shaped = shaped_set p channels (place_at station a.channel) (InUse m) shaped
shaped_message p m channels (Station station (rsl.RfChannelRelease channel)) shaped = shaped_set p channels (place_at station channel) (Releasing m) shaped
shaped_message p m channels _ shaped = shaped

pub shaped_fold : (p : Parameters) (m : ℕ) (channels : States) (ms : List Message) →
    IsShaped p channels →
    IsShaped p (fold (channels_after m) channels ms)
shaped_fold p m channels [] shaped = shaped
shaped_fold p m channels (message ∷ ms) shaped = shaped_fold p m (channels_after m channels message) ms (shaped_message p m channels message shaped)

-- ---- a channel that is offered

unused_free : (state : ChannelState) → is_unused state ≡ true → state ≡ Free
unused_free Free is = refl
unused_free _ is = absurd (true≢false (sym is))

pub found_one : (test : ℕ → Bool) (P : ℕ → Type 0) (xs : List ℕ) (n : ℕ) →
    AllByRecursion P xs →
    find test xs ≡ Some n →
    (test n ≡ true) × P n
found_one test P [] n all is = absurd cc
found_one test P (x ∷ xs) n all is = elim (cases_Bool (test x)) [
  | inl hit ↦
      let same : x ≡ n = (let found : Some x ≡ Some n = sym (cond-true _ (Some x) (find test xs) hit) ∙ is in cc) in
      subst (λ (k : ℕ). (test k ≡ true) × P k) same (hit, all.0)
  | inr miss ↦ found_one test P xs n all.1 (sym (cond-false _ (Some x) (find test xs) miss) ∙ is)
]

pub all_some : {A : Type 0} (P : A → Type 0) (xs : List A) (i : ℕ) (x : A) → AllByRecursion P xs → slice_get xs i ≡ Some x → P x
all_some P [] i x all is = absurd cc
all_some P (y ∷ ys) zero x all is = let same : y ≡ x = cc in subst P same all.0
all_some P (y ∷ ys) (suc i) x all is = all_some P ys i x all.1 is

in_cell : (p : Parameters) (channels : States) (station reference : ℕ) (kind : ChannelKind) (cell : CellParameters) (o : Option ℕ) (c : Channel) →
    option_map (channel_in p station reference cell) o ≡ Some c →
    (n : ℕ) × (o ≡ Some n) × (place_of c ≡ place_at station n) × (c.station ≡ station)
in_cell p channels station reference kind cell None c is = absurd cc
in_cell p channels station reference kind cell (Some n) c is =
    let same : channel_in p station reference cell n ≡ c = of is in
    (n, refl, ap place_of (sym same), ap (λ (d : Channel). d.station) (sym same))
  where
    of : (let o : Option Channel = Some (channel_in p station reference cell n) in o) ≡ Some c → channel_in p station reference cell n ≡ c
    of is = cc

pub offered_free : (c : Controller) (links : List Bool) (station reference : ℕ) (kind : ChannelKind) (offer : Channel) →
    links ≡ c.links →
    IsShaped c.settings c.channels →
    first_free c station reference kind ≡ Some offer →
    IsOffered c.channels links offer
offered_free c links station reference kind offer same_links shaped is = elim (cases_Bool (is_link_up c.links station)) [
  | inr miss ↦ absurd (let none : None ≡ Some offer = sym (cond-false _ (free_channel c.settings c.channels station reference kind) None miss) ∙ is in cc)
  | inl hit ↦ option_and_then_some (channel_of_kind c.settings c.channels station reference kind) (slice_get c.settings.cells (station - 1)) offer (sym (cond-true _ (free_channel c.settings c.channels station reference kind) None hit) ∙ is)
      (λ cell there of.
      let found = in_cell c.settings c.channels station reference kind cell (free_in c.channels station kind cell) offer of in
      let one = found_one (λ number. is_alike kind (kind_of number) && is_free c.channels station number) (λ number. number < CHANNEL_NUMBERS) cell.channels found.0 (all_some HasNumbers c.settings.cells (station - 1) cell shaped.numbers there) found.1 in
      let unused = (and_parts (is_alike kind (kind_of found.0)) (is_free c.channels station found.0) one.0).1 in
      let within = slice_get_within c.settings.cells (station - 1) cell there in
      let inside : station < length c.channels = (let links_are = shaped.links in omega arith) in
      record {
        is_free = ap (state_in c.channels) found.2 ∙ unused_free (state_in c.channels (place_at station found.0)) unused;
        is_in = subst (IsIn c.channels) (sym found.2) (record { station = inside; number = subst (λ (n : ℕ). found.0 < n) (sym (all_at IsRow c.channels station [] inside shaped.rows)) one.1 });
        is_up = ap (is_link_up links) found.3 ∙ ap (λ (l : List Bool). is_link_up l station) same_links ∙ hit;
      })
]

-- ---- the target that completes

pub has_target : (input : Input) (roles : Roles) → HasTarget (step_by input roles) roles.target
unfolding HasTarget
has_target (inputs.ActivationAck at) roles = by (awaits_at at roles.target) roles.target
  where
    by : (b : Bool) (target : Option TargetRole) → HasTarget (if b then commands else unchanged) target
    by true None = tt
    by _ _ = tt
has_target (inputs.ActivationNack at) roles = by (awaits_at at roles.target) roles.target
  where
    by : (b : Bool) (target : Option TargetRole) → HasTarget (if b then reverts else unchanged) target
    by true None = tt
    by _ _ = tt
has_target (inputs.Complete at change cause) roles = by roles.target
  where
    by : (target : Option TargetRole) → HasTarget
        (if (is_target_at at target && changes_by change target) then completes else unchanged) target
    by None = tt
    by (Some t) = of (is_target_at at (Some t) && changes_by change (Some t))
      where
        of : (b : Bool) → HasTarget (if b then completes else unchanged) (Some t)
        of true = tt
        of false = tt
has_target (inputs.Failure at change cause) roles = by (is_at at roles.serving && changes_by change roles.target) roles.target
  where
    by : (b : Bool) (target : Option TargetRole) → HasTarget (if b then reverts else unchanged) target
    by true None = tt
    by _ _ = tt
has_target (inputs.ReleaseAck at) roles = by (drain_at at roles.draining) roles.target
  where
    by : (o : Option ℕ) (target : Option TargetRole) → HasTarget (leaves_at o) target
    by None None = tt
    by _ _ = tt
has_target _ roles = by roles.target
  where
    by : (target : Option TargetRole) → HasTarget unchanged target
    by None = tt
    by (Some t) = tt

-- ---- a row in the controller

pub owns_kept : (channels : States) (links : List Bool) (n : ℕ) (state : State) (s : Connection) →
    (IsOpen s.state → Owns channels links n (roles_of s)) →
    OwnsOpen channels links n (kept_in state s)
owns_kept channels links n Removed s owns = tt
owns_kept channels links n _ s owns = owns

own_row : (m : ℕ) (channels : States) (links : List Bool) (s : Connection) (input : Input) (offer : Option Channel) (r : Row) → ChangesRoles s input offer r → (IsOpen s.state → IsOpen r.next.state → StepOwns m channels links (step_by input (roles_of s)) (roles_of s)) → (IsOpen r.next.state → (c : Channel) → offer ≡ Some c → IsOffered channels links c) → IsOpen r.next.state →
    Owns (fold (channels_after m) channels r.outs) links m (roles_of r.next)
own_row m channels links s input offer r (carries_on was_open is_open on) steps offers there = row_owns m channels links s input offer r on (steps was_open is_open) (offers there)
own_row m channels links s input offer r (ends was_open shut over) steps offers there = absurd (shut there)
own_row m channels links s input offer r (had_ended was_shut shut nothing) steps offers there = absurd (shut there)

-- what a row needs
pub record RowOwns (m : ℕ) (channels : States) (links : List Bool) (s : Connection) (input : Input) (offer : Option Channel) (r : Row) : Type 0 where
  pub changes : ChangesRoles s input offer r
  pub steps : IsOpen s.state → IsOpen r.next.state → StepOwns m channels links (step_by input (roles_of s)) (roles_of s)
  pub mine : IsOpen s.state → (end : RoleEnd) → AllByRecursion (IsMineOrder m channels) (end_messages end (roles_of s))
  pub offers : IsOpen r.next.state → (c : Channel) → offer ≡ Some c → IsOffered channels links c

pub by_row_owns : (links : List Bool) (c : Controller) (e x : Entry) (input : Input) (offer : Option Channel) (r : Row) → AreRising c.entries → entry_of c e.connection.number ≡ Some x → row_of e.connection input offer ≡ Some r → RowOwns e.connection.number c.channels links e.connection input offer r →
    ((n : ℕ) → n ≢ e.connection.number → OwnsOpen c.channels links n (connection_of c n)) → (n : ℕ) → OwnsOpen (by_row e r c).next.channels links n (connection_of (by_row e r c).next n)
by_row_owns links c e x input offer r rising there fits needs others n =
    let m : ℕ = e.connection.number in
    let keeps : r.next.number ≡ m = subst (λ (o : Option Row). OfRow (λ (q : Row). q.next.number ≡ m) o) fits (keeps_number e.connection input offer) in
    let after : States = fold (channels_after m) c.channels r.outs in
    decide_same n m (OwnsOpen after links n (connection_of (by_row e r c).next n))
    (λ same. subst (λ (k : ℕ). OwnsOpen after links k (connection_of (by_row e r c).next k)) (sym same)
    (subst (OwnsOpen after links m) (sym (row_found c e x r rising keeps there))
    (owns_kept after links m r.next.state r.next (own_row m c.channels links e.connection input offer r needs.changes needs.steps needs.offers))))
    (λ differ. subst (OwnsOpen after links n) (sym (ap (option_map (λ (y : Entry). y.connection)) (back_over n (entry_after c.settings e r) c.entries (λ same. differ (same ∙ keeps)))))
    (else_owns (connection_of c n) differ (others n differ)))
  where
    else_owns : (o : Option Connection) →
        n ≢ e.connection.number →
        OwnsOpen c.channels links n o →
        OwnsOpen (fold (channels_after e.connection.number) c.channels r.outs) links n o
    else_owns None differ owns = tt
    else_owns (Some s) differ owns = λ is_open. row_others e.connection.number n c.channels links e.connection input offer r (roles_of s) differ needs.changes needs.steps (λ was_open is_shut end over. inl (needs.mine was_open end)) needs.offers (owns is_open)
