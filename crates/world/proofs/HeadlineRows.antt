-- SPDX-License-Identifier: MIT OR Apache-2.0
-- The order of messages refuses some worlds: for each of its clauses a literal world where it is
-- false. They are fixed worlds with four numbers, in which the mobile sent one message, 03 05,
-- which has number 0.
use Rattle.std.proofs.Common.{◌≡◌, ℕ, ◌≤◌, ◌<◌, true, true≢false, List, [], ◌∷◌, Some, None, refl, sym, ap, ◌∙◌, get_or, arith}
use Rattle.octets.proofs.Hex.{hex}
use Rattle.dtap_codec.specs.declared.sapi.Sapi.TheVariants.{Zero}
use Rattle.dtap_codec.specs.Number.{with_number}
use Rattle.dtap_codec.specs.Places.{Carries, Rise}
use Rattle.dtap_codec.specs.Places.Rise.{over, other, next, again}
use Rattle.controller_model.proofs.Lives.{usual_settings}
use Rattle.settings.specs.Parameters.{Parameters}
use Rattle.world_model.specs.declared.event.Event.TheVariants.{Upper, Connect, SwitchTakes}
use Rattle.world.specs.Fixed.{fixed_beginning}
use Rattle.world.specs.Handing.{HandsInOrder}
use Rattle.world.specs.Headline.Begins.{fixed, controlled}
use Rattle.world.specs.Headline.{Begins, AreEventsFor, IsMadeBy, IsBeginningOfSent, QueuesKeepOrder, IsInOrder}
use Rattle.world.specs.LineUp.{LinesUp}
use Rattle.world.specs.Queues.{outbox}
use Rattle.world.specs.Views.{sent_list}
use Rattle.world.specs.World.{controlled_world, fixed_world}
use Rattle.world.specs.WorldState.{WorldState}
use Rattle.world.specs.declared.world.Scene.{Scene}
use Rattle.world.specs.declared.world.Scene.TheVariants.{Fixed, Controlled}

-- the mobile sent these, these wait for the switch, and it took these
abbrev scene_of : List (List ℕ) → List (List ℕ) → List (List ℕ) → Scene
scene_of sent waiting taken = Fixed (record {
  mobile = record (fixed_beginning 4).mobile { sent = sent };
  outbox = waiting;
  switch = record { modulus = 4; taken = taken };
})

abbrev begin : Scene
begin = (fixed_world 4).scene

abbrev one : List (List ℕ)
one = hex "03 05" ∷ []

none_is_some : {A : Type 0} {x : A} → None ≡ Some x → ⊥
none_is_some is = absurd cc

nil_is_cons : {A : Type 0} {x : A} {xs : List A} → [] ≡ x ∷ xs → ⊥
nil_is_cons is = absurd cc

some_is : {A : Type 0} {x y : A} → Some x ≡ Some y → x ≡ y
some_is is = cc

-- ---- what is accepted was sent

the_beginning : IsBeginningOfSent begin [] (scene_of one [] one) 1 one
the_beginning = record { mobile = 1; opened = refl; sent = one; is_sent = refl; is_prefix = ([], refl) }

-- nothing was sent, and the switch accepted a message
nobody_sent_it : IsBeginningOfSent begin [] (scene_of [] [] one) 1 one → ⊥
nobody_sent_it of =
    let mobile : 1 ≡ of.mobile = some_is of.opened in
    let nothing : Some [] ≡ Some of.sent = ap (sent_list (scene_of [] [] one)) mobile ∙ of.is_sent in
    nil_is_cons (some_is nothing ∙ sym of.is_prefix.1)

not_accepted : IsInOrder begin [] (scene_of [] [] one) → ⊥
not_accepted order = nobody_sent_it (order.accepted 1 one refl)

-- connection 2 is nobody's
not_nobodys : IsBeginningOfSent begin [] (scene_of one [] one) 2 one → ⊥
not_nobodys of = none_is_some of.opened

-- ---- no gap: the first message has number 2

a_gap : IsInOrder begin [] (scene_of one [] (hex "03 85" ∷ [])) → ⊥
a_gap order = true≢false (sym (order.no_gap 1 None refl))

-- ---- the line-up: number 1 waits, where one message was sent

first_with_number : {x : List ℕ} → Carries 4 one 0 x → x ≡ with_number 0 (hex "03 05")
first_with_number carries = carries.carries ∙ ap (with_number 0) (sym (some_is carries.is_sent))

not_the_first : Rise 4 one 0 (hex "03 45" ∷ []) 1 → ⊥
not_the_first (other not rest) = true≢false not
not_the_first (next carries rest) =
    let octet : 69 ≡ 5 = ap (λ (message : List ℕ). get_or message 1 0) (first_with_number carries) in
    omega (arith, octet)
not_the_first (again before carries rest) = omega (arith, before)

second_waits : LinesUp begin [] (scene_of one (hex "03 45" ∷ []) []) → ⊥
second_waits lines = not_the_first lines

out_of_line : IsInOrder begin [] (scene_of one (hex "03 45" ∷ []) []) → ⊥
out_of_line order = second_waits order.line_up

-- ---- the queues: what was taken was put, what is left is the rest, and the switch has what was taken

taken_unput : QueuesKeepOrder (scene_of [] one []) (SwitchTakes ∷ []) (scene_of [] [] one) → ⊥
taken_unput keeps = nil_is_cons (sym (keeps.first_out (outbox 0)).1)

left_unput : QueuesKeepOrder begin [] (scene_of [] one []) → ⊥
left_unput keeps = nil_is_cons (keeps.left (outbox 0) refl)

switch_without_it : QueuesKeepOrder begin [] (scene_of one [] one) → ⊥
switch_without_it keeps = nil_is_cons keeps.switch

kept_in_order : QueuesKeepOrder (scene_of [] one []) [] (scene_of [] one []) → ⊥
kept_in_order keeps = nil_is_cons (keeps.left (outbox 0) refl)

-- ---- what is handed: in the fixed world nothing is, and of settings that `bsc` refuses nothing is said

abbrev without_cells : Parameters
without_cells = record usual_settings { cells = [] }

handed_by_none : HandsInOrder begin []
handed_by_none = tt

not_handed_without_cells : HandsInOrder (controlled_world without_cells).scene [] → ⊥
not_handed_without_cells hands = let some = (hands 1 (omega arith)).allowed.cells.count.0 in omega (arith, some)

-- ---- of which worlds it speaks

of_two_numbers : Begins (fixed_world 2)
of_two_numbers = fixed 2 (omega arith)

abbrev numbers_of : Scene → ℕ
numbers_of (Fixed world) = world.switch.modulus
numbers_of (Controlled w) = 2

two_at_least : {world : WorldState} → Begins world → 2 ≤ numbers_of world.scene
two_at_least (fixed m numbers) = numbers
two_at_least (controlled settings allowed) = omega arith

not_of_one_number : Begins (fixed_world 1) → ⊥
not_of_one_number begins = let two : 2 ≤ 1 = two_at_least begins in omega (arith, two)

any_in_the_fixed_world : AreEventsFor begin (Upper 1 Zero (256 ∷ []) ∷ [])
any_in_the_fixed_world = tt

octets_with_a_controller : AreEventsFor (controlled_world usual_settings).scene (Upper 1 Zero (hex "03 05") ∷ Upper 1 Zero (256 ∷ [])
    ∷ []) → ⊥
octets_with_a_controller octets = let last : 256 < 256 = octets.1.0 0 in omega (arith, last)

mobile_256_with_a_controller : AreEventsFor (controlled_world usual_settings).scene (Connect 256 1 (hex "05 24") true ∷ []) → ⊥
mobile_256_with_a_controller octets = let mobile : 256 < 256 = octets.0.0 in omega (arith, mobile)

made_by_none : IsMadeBy (fixed_world 4) [] (fixed_world 4)
made_by_none = record { begins = fixed 4 (omega arith); octets = tt; made = refl }

not_made_by_none : IsMadeBy (fixed_world 4) [] (record (fixed_world 4) { not_taken = 1 }) → ⊥
not_made_by_none by = let same : 1 ≡ 0 = ap (λ (world : WorldState). world.not_taken) by.made in omega (arith, same)
