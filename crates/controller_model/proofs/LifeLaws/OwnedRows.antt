-- SPDX-License-Identifier: MIT OR Apache-2.0
-- The channels that a connection owns, at literal values.
use Rattle.controller_model.proofs.Prelude.{◌≡◌, ℕ, ◌<◌, ◌≤◌, Bool, true, false, List, [], ◌∷◌, map, set, Some, None, refl, sym, ap, arith}
use Rattle.controller_model.proofs.Prelude.{true≢false, Handover, Asked, Drain, Changing, Closed, Live, Removed, Connection, Roles}
use Rattle.controller_model.proofs.Prelude.{roles_of, LinkedOf, Owns, OwnsOpen, is_link_up, used_in, AreUsed, ChannelState, Free, InUse}
use Rattle.controller_model.proofs.Prelude.{Releasing, free_channels, place_at}
use Rattle.controller_model.proofs.LifeLaws.OwnRows.{busy, other, own, with_channels}
use Rattle.controller_model.proofs.LifeLaws.UsedRows.{channel, connection}

-- ---- links

links_are_up : map (is_link_up (true ∷ false ∷ true ∷ [])) (0 ∷ 1 ∷ 2 ∷ 3 ∷ []) ≡ true ∷ false ∷ true ∷ false ∷ []
links_are_up = refl

-- ---- the channels of a connection

abbrev drain : ℕ → ℕ → Bool → Drain
drain station number is_done = record { channel = channel station number; is_done = is_done }

-- it serves on 41 of station 1 and changes to 43 of station 2; 0A of station 2 drains, and 49 of
-- station 3 is done
abbrev changing : Connection
changing = record (connection (Live 5 (Changing (record { change = Handover; channel = channel 2 0x43 })))) { draining = drain 2 0x0a false ∷ drain 3 0x49 true ∷ [] }

abbrev roles : Roles
roles = roles_of changing

uses_each : used_in roles ≡ channel 2 0x0a ∷ channel 1 0x41 ∷ channel 2 0x43 ∷ []
uses_each = refl

uses_the_serving_alone : used_in (roles_of own) ≡ channel 1 0x41 ∷ []
uses_the_serving_alone = refl

-- ---- it owns them

-- the states of these: 41 of station 1, 43 and 0A of station 2
abbrev states : ChannelState → ChannelState → ChannelState → List (List ChannelState)
states serving target draining = free_channels ∷ set free_channels 0x41 serving ∷ set (set free_channels 0x43 target) 0x0a draining ∷ []

abbrev links : Bool → Bool → List Bool
links one two = false ∷ one ∷ two ∷ []

owns_each : Owns (states (InUse 7) (InUse 7) (Releasing 7)) (links true true) 7 roles
owns_each = record { using = (refl, (refl, tt)); releasing = (refl, tt); apart = ((refl, (refl, tt)), ((refl, tt), (tt, tt))); linked = (refl, (refl, (refl, tt))) }

not_without_the_serving : Owns (states Free (InUse 7) (Releasing 7)) (links true true) 7 roles → ⊥
not_without_the_serving owns = absurd (cc owns.using.0)

not_with_a_target_of_another : Owns (states (InUse 7) (InUse 8) (Releasing 7)) (links true true) 7 roles → ⊥
not_with_a_target_of_another owns = absurd (cc owns.using.1.0)

not_with_a_target_that_is_releasing : Owns (states (InUse 7) (Releasing 7) (Releasing 7)) (links true true) 7 roles → ⊥
not_with_a_target_that_is_releasing owns = absurd (cc owns.using.1.0)

not_with_an_old_channel_in_use : Owns (states (InUse 7) (InUse 7) (InUse 7)) (links true true) 7 roles → ⊥
not_with_an_old_channel_in_use owns = absurd (cc owns.releasing.0)

not_with_one_that_another_releases : Owns (states (InUse 7) (InUse 7) (Releasing 8)) (links true true) 7 roles → ⊥
not_with_one_that_another_releases owns = absurd (cc owns.releasing.0)

not_the_same_twice : Owns (states (InUse 7) (InUse 7) (Releasing 7)) (links true true) 7 (record roles { draining = drain 1 0x41 false ∷ [] }) →
    ⊥
not_the_same_twice owns = absurd (true≢false owns.apart.0.0)

-- the same number at another station is another channel
the_same_number_elsewhere : Owns (free_channels ∷ set free_channels 0x41 (InUse 7) ∷ set free_channels 0x41 (Releasing 7) ∷ []) (links true true) 7 (record (roles_of own) { draining = drain 2 0x41 false ∷ [] })
the_same_number_elsewhere = record { using = (refl, tt); releasing = (refl, tt); apart = ((refl, tt), (tt, tt)); linked = (refl, (refl, tt)) }

not_where_its_link_is_down : Owns (states (InUse 7) (InUse 7) (Releasing 7)) (links false true) 7 roles → ⊥
not_where_its_link_is_down owns = absurd (true≢false (sym owns.linked.1.0))

not_where_that_of_its_target_is_down : Owns (states (InUse 7) (InUse 7) (Releasing 7)) (links true false) 7 (record roles { draining = [] }) →
    ⊥
not_where_that_of_its_target_is_down owns = absurd (true≢false (sym owns.linked.1.0))

not_where_that_of_an_old_channel_is_down : Owns (states (InUse 7) (InUse 7) (Releasing 7)) (links true false) 7 (record roles { target = None }) →
    ⊥
not_where_that_of_an_old_channel_is_down owns = absurd (true≢false (sym owns.linked.0))

-- ---- while it is open

owns_while_open : OwnsOpen (states (InUse 7) Free Free) (links true true) 7 (Some changing) →
    Owns (states (InUse 7) Free Free) (links true true) 7 roles
owns_while_open owns = owns tt

nothing_once_closed : OwnsOpen (states Free Free Free) (links false false) 7 (Some (connection (Closed (Asked 5))))
nothing_once_closed is = absurd is

nothing_once_removed : OwnsOpen (states Free Free Free) (links false false) 7 (Some (connection Removed))
nothing_once_removed is = absurd is

nothing_of_none : OwnsOpen (states Free Free Free) (links false false) 7 None
nothing_of_none = tt

-- ---- while the switch's link is up

there_while_up : LinkedOf true (Some own)
there_while_up = refl

not_there_while_down : LinkedOf false (Some own) → ⊥
not_there_while_down linked = absurd (true≢false (sym linked))

none_while_down : LinkedOf false None
none_while_down = tt

-- ---- by whom a channel is in use

not_in_use_by_none : AreUsed (with_channels (set free_channels 0x41 (InUse 6)) []) → ⊥
not_in_use_by_none used = let there = (used.using (place_at 1 0x41) 6).0 refl in let low : there.0 < 0 = there.1 in absurd (omega (arith, low))

not_in_use_by_another : AreUsed (with_channels (set (set free_channels 0x41 (InUse 8)) 0x49 (InUse 8)) (own ∷ other ∷ [])) → ⊥
not_in_use_by_another used = let is : InUse 8 ≡ InUse 7 = (used.using (place_at 1 0x41) 7).1 (0, omega arith, refl) in absurd (omega (arith, ap number_in is))
  where
    number_in : ChannelState → ℕ
    number_in (InUse number) = number
    number_in _ = 0

not_free_where_one_serves : AreUsed (with_channels (set free_channels 0x49 (InUse 8)) (own ∷ other ∷ [])) → ⊥
not_free_where_one_serves used = let is : Free ≡ InUse 7 = (used.using (place_at 1 0x41) 7).1 (0, omega arith, refl) in absurd (cc is)

-- 7 and 8 both serve on 41
not_by_two : AreUsed (with_channels (set free_channels 0x41 (InUse 7)) (own ∷ record other { serving = channel 1 0x41 } ∷ [])) → ⊥
not_by_two used = let same : 7 ≡ 8 = used.one (place_at 1 0x41) 7 8 (0, omega arith, refl) (0, omega arith, refl) in absurd (omega (arith, same))

not_releasing_by_the_next : AreUsed (with_channels (set free_channels 0x0a (Releasing 9)) []) → ⊥
not_releasing_by_the_next used = let low : 9 < 9 = (used.releasing (place_at 1 0x0a) 9 refl).1 in absurd (omega (arith, low))

not_releasing_by_zero : AreUsed (with_channels (set free_channels 0x0a (Releasing 0)) []) → ⊥
not_releasing_by_zero used = let low : 1 ≤ 0 = (used.releasing (place_at 1 0x0a) 0 refl).0 in absurd (omega (arith, low))

not_at_a_link_that_is_down : AreUsed (record (with_channels (set free_channels 0x0a (Releasing 8)) []) { links = true ∷ false ∷ true ∷ [] }) →
    ⊥
not_at_a_link_that_is_down used = let is : Releasing 8 ≡ Free = used.down (place_at 1 0x0a) refl in absurd (cc is)

not_at_the_link_of_the_switch : AreUsed (record busy { channels = set free_channels 0x41 (Releasing 8) ∷ [] }) → ⊥
not_at_the_link_of_the_switch used = let is : Releasing 8 ≡ Free = used.switch 0x41 in absurd (cc is)
