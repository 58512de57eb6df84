-- SPDX-License-Identifier: MIT OR Apache-2.0
-- Octets that the order of messages refuses: for each of its clauses literal octets for which it is
-- false. They are of the run of one mobile on one channel (RunRows), and of relays that pass on
-- something else.
use Rattle.std.proofs.Common.{◌≡◌, ℕ, suc, true, true≢false, List, [], ◌∷◌, ◌++◌, length, Some, None, refl, sym, ap, ◌∙◌, arith, if◌then◌else◌, ◌==◌}
use Rattle.octets.proofs.Hex.{hex}
use Rattle.controller_model.proofs.Lives.{usual_settings}
use Rattle.dtap_codec.specs.declared.sapi.Sapi.TheVariants.{Zero}
use Rattle.relay_order.specs.Order.{Handed, Handing, IsInOrderDown, IsInOrderUp}
use Rattle.relay_order.specs.Run.{IsShownBy, Run}
use Rattle.relay_order.specs.Switch.{switch_given}
use Rattle.relay_order.proofs.RunRows.{one_mobile, one_run, sent_by_one, to_switch}
use Rattle.station_io.specs.Links.{Ended, LinkView}
use Rattle.world_model.proofs.Worlds.{on_literals}
use Rattle.world_model.specs.Life.{actors_after_all}
use Rattle.world_model.specs.Views.{sent}
use Rattle.world_model.specs.World.{new_actors}
use Rattle.world_openers.specs.Initials.{initial_of}

some_is : {A : Type 0} {x y : A} → Some x ≡ Some y → x ≡ y
some_is is = cc

-- ---- what links show of a run

abbrev some_link : LinkView
some_link = record { unread = Some (hex "01 02 03"); written = Some (hex "04"); refused = 0 }

abbrev some_end : Ended
some_end = record { link = record { unread = Some (hex "03"); written = Some (hex "04 05"); refused = 0 }; fault = None }

abbrev with_octets : List ℕ → List ℕ → Run
with_octets read written = record one_run { read = λ link. read; written = λ link. written }

as_it_was : IsShownBy (with_octets (hex "01 02") (hex "05")) (some_link ∷ []) (some_end ∷ []) →
    (hex "01 02 03" ≡ hex "01 02" ++ hex "03") × (hex "04 05" ≡ hex "04" ++ hex "05")
as_it_was shown = shown 0 some_link some_end refl refl

-- less was read, or more; less was written, or more
less_was_read : IsShownBy (with_octets (hex "01") (hex "05")) (some_link ∷ []) (some_end ∷ []) → ⊥
less_was_read shown = let size : 3 ≡ 2 = ap length (shown 0 some_link some_end refl refl).0 in absurd (omega (arith, size))

more_was_read : IsShownBy (with_octets (hex "01 02 03") (hex "05")) (some_link ∷ []) (some_end ∷ []) → ⊥
more_was_read shown = let size : 3 ≡ 4 = ap length (shown 0 some_link some_end refl refl).0 in absurd (omega (arith, size))

less_was_written : IsShownBy (with_octets (hex "01 02") []) (some_link ∷ []) (some_end ∷ []) → ⊥
less_was_written shown = let size : 2 ≡ 1 = ap length (shown 0 some_link some_end refl refl).1 in absurd (omega (arith, size))

more_was_written : IsShownBy (with_octets (hex "01 02") (hex "05 06")) (some_link ∷ []) (some_end ∷ []) → ⊥
more_was_written shown = let size : 2 ≡ 3 = ap length (shown 0 some_link some_end refl refl).1 in absurd (omega (arith, size))

-- ---- up: the mobile sent 05 24 71, and nothing else

-- CR with another initial message
abbrev another : List ℕ
another = hex "00 1f fd 01 00 00 01 02 02 04 02 42 fe 0f 12 00 10 57 05 08 00 00 f1 10 00 01 00 01 17 03 05 24 72 00"

-- DT1 with messages that nobody sent: number 1, and number 2
abbrev number_1 : List ℕ
number_1 = hex "00 0c fd 06 80 00 01 00 01 05 01 00 02 03 45"

abbrev number_2 : List ℕ
number_2 = hex "00 0c fd 06 80 00 01 00 01 05 01 00 02 03 85"

abbrev clear_complete : List ℕ
clear_complete = hex "00 0a fd 06 80 00 01 00 01 03 00 01 21"

abbrev IsUp : List ℕ → Type 0
IsUp octets = IsInOrderUp usual_settings one_mobile octets (switch_given 4 octets)

owned_by_one : {mobile : ℕ} → Some 1 ≡ Some mobile → 1 ≡ mobile
owned_by_one is = some_is is

what_was_sent : {mobile : ℕ} {list : List (List ℕ)} →
    1 ≡ mobile →
    sent (actors_after_all (new_actors usual_settings) one_mobile) mobile ≡ Some list →
    hex "05 24 71" ∷ [] ≡ list
what_was_sent mobile is = some_is (sym sent_by_one ∙ ap (sent (actors_after_all (new_actors usual_settings) one_mobile)) mobile ∙ is)

sent_by_nobody : IsUp (to_switch ++ number_1) → ⊥
unfolding on_literals
sent_by_nobody up =
    let first = up.accepted 1 (hex "05 24 71" ∷ hex "03 05" ∷ []) refl in
    let all = what_was_sent (owned_by_one first.owned) first.is_sent in
    let size : suc (suc (length first.is_prefix.0)) ≡ 1 = ap length (first.is_prefix.1 ∙ sym all) in
    absurd (omega (arith, size))

-- the third octet of the first message
abbrev third_of : List ℕ → ℕ
third_of (first ∷ second ∷ third ∷ rest) = third
third_of _ = 0

abbrev last_of : List (List ℕ) → ℕ
last_of (message ∷ messages) = third_of message
last_of [] = 0

connected_with : initial_of (new_actors usual_settings) one_mobile 1 ≡ Some (hex "05 24 71")
unfolding on_literals
connected_with = refl

another_message_first : IsUp another → ⊥
unfolding on_literals
another_message_first up =
    let first = up.opened 1 (hex "05 24 72" ∷ []) refl in
    let mobile = owned_by_one first.owned in
    let own : hex "05 24 71" ≡ first.initial = some_is (sym connected_with ∙ ap (initial_of (new_actors usual_settings) one_mobile) mobile ∙ first.connected) in
    let same : hex "05 24 72" ∷ [] ≡ hex "05 24 71" ∷ first.others = first.first ∙ ap (λ (m : List ℕ). m ∷ first.others) (sym own) in
    let last : 0x72 ≡ 0x71 = ap (λ (ms : List (List ℕ)). last_of ms) same in
    absurd (omega (arith, last))

a_gap : IsUp (to_switch ++ number_2) → ⊥
unfolding on_literals
a_gap up = true≢false (up.no_gap 1 true refl)

behind_clear_complete : IsUp (to_switch ++ clear_complete ++ number_1) → ⊥
unfolding on_literals
behind_clear_complete up = up.live.1.1.1.0

-- ---- down

abbrev tenure_1 : Handed
tenure_1 = record { tenure = record { at = record { station = 1; number = 0x41 }; number = 1 }; message = hex "83 02" }

abbrev only : ℕ → ℕ → Handing
only number other n sapi = if n == number then tenure_1 ∷ [] else if n == other then tenure_1 ∷ [] else []

-- the switch sent nothing
sent_by_no_switch : IsInOrderDown usual_settings one_run (only 1 1) → ⊥
unfolding on_literals
sent_by_no_switch down = down.in_order 1 Zero (omega arith)

-- two connections have one tenure
of_two_connections : IsInOrderDown usual_settings one_run (only 1 2) → ⊥
of_two_connections down =
    let same : 1 ≡ 2 = down.apart 1 2 Zero Zero tenure_1 tenure_1 (0, omega arith, refl) (0, omega arith, refl) refl in
    absurd (omega (arith, same))

-- CHANNEL ACTIVATION of 41, and DATA REQUEST there, with what is handed to no connection
abbrev something : List ℕ
something = hex "00 0c 00 08 21 01 41 03 00 06 04 00 03 01 00" ++ hex "00 0b 00 03 01 01 41 02 00 0b 00 02 83 02"

abbrev nothing_handed : Handing
nothing_handed n sapi = []

handed_to_nobody : IsInOrderDown usual_settings (with_octets [] something) nothing_handed → ⊥
unfolding on_literals
handed_to_nobody down =
    let found = down.octets tenure_1.tenure Zero something (omega arith) ([], refl) in
    let size : suc (length found.2.0) ≡ 0 = ap length found.2.1 in
    absurd (omega (arith, size))
