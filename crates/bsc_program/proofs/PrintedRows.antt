-- SPDX-License-Identifier: MIT OR Apache-2.0
-- The texts that `replay` prints for literal scripts in each of its worlds, and no others.
use Rattle.std.proofs.Common.{◌≡◌, ℕ, zero, suc, true, false, true≢false, List, [], ◌∷◌, ◌++◌, ◌+◌, ◌-◌, ◌<◌, Some, None, refl, sym, ap, append-nil, arith, ◌∙◌, inl, inr}
use Rattle.std.specs.Prelude.{codes, decimal, ◌^◌, ◌==◌, is_some, unwrap_or, IsSome}
use Rattle.std.proofs.lemmas.Bool.{cases_lt}
use Rattle.std.proofs.lemmas.Bool.Decides.{nat_tests}
use Rattle.octets.proofs.Hex.{hex}
use Rattle.hex.proofs.OnLiterals.{hex_on_literals}
use Rattle.dtap_codec.specs.declared.sapi.Sapi.TheVariants.{Zero}
use Rattle.world_model.specs.declared.event.Event.{Event}
use Rattle.world_model.specs.declared.event.Event.TheVariants.{Upper, Connect, AirUp, AirAck, SwitchTakes}
use Rattle.world_model.proofs.Worlds.{on_literals}
use Rattle.world.specs.declared.world.Scene.{Scene}
use Rattle.world.specs.Views.{accepted_list, received_list, sent_list}
use Rattle.world.specs.World.{after_all, controlled_world, fixed_world}
use Rattle.world.specs.WorldState.{WorldState}
use Rattle.bsc_program.specs.Asked.{breaking, controlled, fixed}
use Rattle.bsc_program.specs.Breaks.{accepted_by_all, break_line, break_lines, broken_world, count_from, count_to, sent_by_all, texts_below}
use Rattle.bsc_program.specs.Replayed.{IsPrinted}
use Rattle.bsc_program.specs.Report.{AreConnections, connection_text, mobile_by, mobile_text, not_taken_line, texts_to}
use Rattle.bsc_program.proofs.Counting.{counted_end, nothing_if}
use Rattle.bsc_program.proofs.ReplayRows.{two_cells}

-- ---- reports in general

-- the first number that has no connection says how many there are
count_is : (scene : Scene) (text : List ℕ) (n : ℕ) → n < 2 ^ 32 - 1 → ((m : ℕ) → m < n → IsSome (connection_text scene (suc m)))
    → connection_text scene (suc n) ≡ None → (are : AreConnections scene text) → are.count ≡ n
count_is scene text n high some none are = elim (cases_lt are.count n) [
  | inl fewer ↦
      let end : is_some (connection_text scene (suc are.count)) ≡ false = ap is_some (are.no_more (omega (arith, fewer, high))) in
      absurd (true≢false (sym (some are.count fewer) ∙ end))
  | inr from ↦ elim (cases_lt n are.count) [
    | inl more ↦ absurd (true≢false (sym (are.each n more) ∙ ap is_some none))
    | inr most ↦ let same : are.count ≡ n = omega (arith, from, most) in same
  ]
]

-- numbers without a text add nothing
texts_past : (text : ℕ → List ℕ) (n k : ℕ) → ((m : ℕ) → n < m → text m ≡ []) → texts_to text (n + k) ≡ texts_to text n
unfolding texts_to
texts_past text n zero none = ap (texts_to text) (let same : n + 0 ≡ n = omega arith in same)
texts_past text n (suc k) none =
    ap (texts_to text) (let next : n + suc k ≡ suc (n + k) = omega arith in next)
    ∙ ap (λ (last : List ℕ). texts_to text (n + k) ++ last) (none (suc (n + k)) (omega arith))
    ∙ append-nil (texts_to text (n + k)) ∙ texts_past text n k none

-- ---- the fixed world: three messages go up one by one

abbrev three_messages : List Event
three_messages =
    Upper 1 Zero (hex "05 24 71") ∷ Upper 1 Zero (hex "03 05") ∷ Upper 1 Zero (hex "03 0f") ∷ AirUp 1 Zero ∷ AirAck 1 Zero ∷ SwitchTakes
    ∷ AirUp 1 Zero ∷ AirAck 1 Zero ∷ SwitchTakes ∷ AirUp 1 Zero ∷ AirAck 1 Zero ∷ SwitchTakes ∷ []

abbrev three_taken : WorldState
three_taken = after_all (fixed_world 4) three_messages

abbrev mobile_lines : List ℕ
mobile_lines =
    (codes "mobile " ++ decimal 1 ++ codes " sent " ++ (decimal 3 ++ codes "\n" ++ codes "052471\n0305\n030f\n"))
    ++ (codes "mobile " ++ decimal 1 ++ codes " received " ++ (decimal 0 ++ codes "\n" ++ []))

abbrev connection_lines : List ℕ
connection_lines =
    (codes "conn " ++ decimal 1 ++ codes " taken " ++ (decimal 3 ++ codes "\n" ++ codes "052471\n0345\n038f\n"))
    ++ (codes "conn " ++ decimal 1 ++ codes " accepted " ++ (decimal 3 ++ codes "\n" ++ codes "052471\n0305\n030f\n"))
    ++ (codes "conn " ++ decimal 1 ++ codes " unnumbered " ++ (decimal 0 ++ codes "\n" ++ []))

abbrev all_taken_line : List ℕ
all_taken_line = codes "events not taken " ++ decimal 0 ++ codes "\n"

its_connection : connection_text three_taken.scene 1 ≡ Some connection_lines
unfolding hex_on_literals
its_connection = refl

no_other_connection : connection_text three_taken.scene 2 ≡ None
no_other_connection = refl

no_other_mobile : (number : ℕ) → 1 < number → mobile_text three_taken.scene number ≡ []
no_other_mobile number second =
    let other : (number == 1) ≡ false = grind (arith, nat_tests) in
    ap (λ sent. mobile_by number sent (received_list three_taken.scene number)) (nothing_if (number == 1) _ other)

its_mobile : texts_to (mobile_text three_taken.scene) 255 ≡ mobile_lines
unfolding hex_on_literals texts_to
its_mobile = texts_past (mobile_text three_taken.scene) 1 254 no_other_mobile

one_connection : (m : ℕ) → m < 1 → IsSome (connection_text three_taken.scene (suc m))
one_connection zero first = ap is_some its_connection
one_connection (suc m) first = absurd (let none : ⊥ = omega (arith, first) in none)

its_lines : texts_to (λ number. unwrap_or (connection_text three_taken.scene number) []) 1 ≡ connection_lines
unfolding texts_to
its_lines = ap (λ text. unwrap_or text []) its_connection

fixed_report : IsPrinted fixed three_messages (mobile_lines ++ connection_lines ++ all_taken_line)
fixed_report = (
  connection_lines,
  record {
    count = 1;
    numbers = omega arith;
    each = one_connection;
    no_more = λ high. no_other_connection;
    is = sym its_lines;
  },
  ap (λ mobiles. mobiles ++ connection_lines ++ all_taken_line) (sym its_mobile),
)

-- and no other text
fixed_report_only : (text : List ℕ) → IsPrinted fixed three_messages text → text ≡ mobile_lines ++ connection_lines ++ all_taken_line
fixed_report_only text (connections, are, is) =
    let count : are.count ≡ 1 = count_is three_taken.scene connections 1 (omega arith) one_connection no_other_connection are in
    let lines : connections ≡ connection_lines = are.is
    ∙ ap (texts_to (λ number. unwrap_or (connection_text three_taken.scene number) [])) count ∙ its_lines in
    is ∙ ap (λ mobiles. mobiles ++ connections ++ all_taken_line) its_mobile ∙ ap (λ lines. mobile_lines ++ lines ++ all_taken_line) lines

-- ---- the world of settings: the mobile of the last number connects, and the switch has nothing to take

abbrev last_connects : List Event
last_connects = Connect 255 1 (hex "05 24 72") true ∷ SwitchTakes ∷ []

abbrev last_asks : WorldState
last_asks = after_all (controlled_world two_cells) last_connects

abbrev last_lines : List ℕ
last_lines =
    (codes "mobile " ++ decimal 255 ++ codes " sent " ++ (decimal 1 ++ codes "\n" ++ codes "052472\n"))
    ++ (codes "mobile " ++ decimal 255 ++ codes " received " ++ (decimal 0 ++ codes "\n" ++ []))

abbrev one_not_taken_line : List ℕ
one_not_taken_line = codes "events not taken " ++ decimal 1 ++ codes "\n"

last_mobile : texts_to (mobile_text last_asks.scene) 255 ≡ last_lines
unfolding hex_on_literals texts_to on_literals
last_mobile = refl

no_connection : connection_text last_asks.scene 1 ≡ None
unfolding on_literals
no_connection = refl

last_not_taken : last_asks.not_taken ≡ 1
unfolding on_literals
last_not_taken = refl

no_connection_before : (m : ℕ) → m < 0 → IsSome (connection_text last_asks.scene (suc m))
no_connection_before m none = absurd (let never : ⊥ = omega (arith, none) in never)

nothing_of_connections : texts_to (λ number. unwrap_or (connection_text last_asks.scene number) []) 0 ≡ []
unfolding texts_to
nothing_of_connections = refl

report_of_settings : IsPrinted (controlled two_cells) last_connects (last_lines ++ [] ++ one_not_taken_line)
report_of_settings = (
  [],
  record {
    count = 0;
    numbers = omega arith;
    each = no_connection_before;
    no_more = λ high. no_connection;
    is = sym nothing_of_connections;
  },
  ap (λ mobiles. mobiles ++ [] ++ one_not_taken_line) (sym last_mobile)
      ∙ ap (λ n. texts_to (mobile_text last_asks.scene) 255 ++ [] ++ not_taken_line n) (sym last_not_taken),
)

report_of_settings_only : (text : List ℕ) → IsPrinted (controlled two_cells) last_connects text
    → text ≡ last_lines ++ [] ++ one_not_taken_line
report_of_settings_only text (connections, are, is) =
    let count : are.count ≡ 0 = count_is last_asks.scene connections 0 (omega arith) no_connection_before no_connection are in
    let lines : connections ≡ [] = are.is
    ∙ ap (texts_to (λ number. unwrap_or (connection_text last_asks.scene number) [])) count ∙ nothing_of_connections in
    is ∙ ap (λ mobiles. mobiles ++ connections ++ not_taken_line last_asks.not_taken) last_mobile
    ∙ ap (λ lines. last_lines ++ lines ++ not_taken_line last_asks.not_taken) lines
    ∙ ap (λ n. last_lines ++ [] ++ not_taken_line n) last_not_taken

-- ---- breaks: of its own station's link before it connects, and of any link once it did

abbrev line_of : ℕ → ℕ → List ℕ
line_of place sent = codes "break " ++ decimal place ++ codes " accepted " ++ decimal 0 ++ codes " sent " ++ decimal sent ++ codes "\n"

abbrev last_alone : List Event
last_alone = Connect 255 1 (hex "05 24 72") true ∷ []

abbrev broken_at : ℕ → ℕ → Scene
broken_at source place = (broken_world (controlled_world two_cells) last_alone source place).scene

nothing_accepted : (scene : Scene) → accepted_list scene 1 ≡ None → accepted_by_all scene ≡ 0
nothing_accepted scene none =
    ap (count_from (accepted_list scene) 1) (let e : 2 ^ 32 - 1 ≡ suc (2 ^ 32 - 2) = omega arith in e)
    ∙ counted_end (accepted_list scene) 1 (2 ^ 32 - 2) none

its_line : (place sent : ℕ) (scene : Scene) → accepted_list scene 1 ≡ None → sent_by_all scene ≡ sent
    → break_line place scene ≡ line_of place sent
its_line place sent scene none is =
    ap (λ n. codes "break " ++ decimal place ++ codes " accepted " ++ decimal n ++ codes " sent " ++ decimal (sent_by_all scene) ++ codes "\n")
    (nothing_accepted scene none)
    ∙ ap (λ n. codes "break " ++ decimal place ++ codes " accepted " ++ decimal 0 ++ codes " sent " ++ decimal n ++ codes "\n") is

breaks_of_the_station : break_lines (controlled_world two_cells) last_alone 1 ≡ line_of 0 0 ++ line_of 1 1
unfolding texts_below count_to on_literals
breaks_of_the_station =
    ap (λ first. first ++ break_line 1 (broken_at 1 1)) (its_line 0 0 (broken_at 1 0) refl refl)
    ∙ ap (λ second. line_of 0 0 ++ second) (its_line 1 1 (broken_at 1 1) refl refl)

breaks_of_the_switch : break_lines (controlled_world two_cells) last_alone 0 ≡ line_of 0 1 ++ line_of 1 1
unfolding texts_below count_to on_literals
breaks_of_the_switch =
    ap (λ first. first ++ break_line 1 (broken_at 0 1)) (its_line 0 1 (broken_at 0 0) refl refl)
    ∙ ap (λ second. line_of 0 1 ++ second) (its_line 1 1 (broken_at 0 1) refl refl)

lines_of_breaks : IsPrinted (breaking two_cells 1) last_alone (line_of 0 0 ++ line_of 1 1)
lines_of_breaks = sym breaks_of_the_station

lines_of_breaks_only : (text : List ℕ) → IsPrinted (breaking two_cells 1) last_alone text → text ≡ line_of 0 0 ++ line_of 1 1
lines_of_breaks_only text is = is ∙ breaks_of_the_station

lines_of_other_breaks : IsPrinted (breaking two_cells 0) last_alone (line_of 0 1 ++ line_of 1 1)
lines_of_other_breaks = sym breaks_of_the_switch
