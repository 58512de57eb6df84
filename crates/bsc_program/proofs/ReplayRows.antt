-- SPDX-License-Identifier: MIT OR Apache-2.0
-- Definitions of the asked output and of the lines of breaks, against literal words, settings and
-- worlds.
use Rattle.std.proofs.Common.{◌≡◌, ℕ, List, [], ◌∷◌, ◌++◌, ◌+◌, ◌-◌, ◌*◌, ◌<◌, suc, map, false, Option, Some, None, Ok, Err, refl, ap, arith, ◌∙◌}
use Rattle.std.specs.Prelude.{codes, decimal, ◌^◌, ◌==◌, if◌then◌else◌}
use Rattle.octets.proofs.Hex.{hex}
use Rattle.toml.proofs.OnLiterals.{toml_on_literals}
use Rattle.settings.specs.declared.fault.SettingsFault.TheVariants.{NotToml, Missing}
use Rattle.settings.specs.declared.key.Key.TheVariants as keys
use Rattle.settings.specs.Parameters.{Parameters}
use Rattle.dtap_codec.specs.declared.sapi.Sapi.TheVariants.{Zero}
use Rattle.world_model.specs.declared.event.Event.{Event}
use Rattle.world_model.specs.declared.event.Event.TheVariants.{Upper, AirUp, SwitchTakes, BaseDown, Handle}
use Rattle.world.specs.Views.{accepted_list, sent_list}
use Rattle.world.specs.World.{after_all, fixed_world}
use Rattle.world.specs.WorldState.{WorldState}
use Rattle.program_base.specs.declared.fault.ProgramFault.TheVariants.{BadBreak, Settings}
use Rattle.bsc_program.specs.Asked.{asked, asked_with, breaking, cells_of, controlled, fixed}
use Rattle.bsc_program.specs.Breaks.{accepted_by_all, break_line, break_lines, count_from, count_to, sent_by_all, texts_below}
use Rattle.bsc_program.specs.BreakCounts.{excess_at, excess_below}
use Rattle.bsc_program.specs.Replayed.{excess_in, status_of_excess}
use Rattle.bsc_program.specs.declared.breaks.Counts.{Counts}
use Rattle.std.proofs.lemmas.Bool.Decides.{nat_tests}
use Rattle.bsc_program.proofs.Counting.{counted_end, counted_more, counted_past, nothing_if}

-- ---- options

abbrev pub two_cells : Parameters
two_cells = record {
  network = record { mcc = codes "001"; mnc = codes "01"; release98 = false };
  switch_address = codes "127.0.0.1:5000";
  timers = record { t3101_ms = 3000; t3103_ms = 5000; t3107_ms = 5000; drain_ms = 2000 };
  handover = record { rxlev_window = 10; rxqual_window = 1; neighbour_window = 10; interval = 6; hysteresis = 3 };
  cells =
      record { listen = codes "127.0.0.1:3003"; location_area_code = 1; cell_identity = 1; arfcn = 20; bsic = record { ncc = 1; bcc = 1 }; channels = hex "41 49 0a" }
      ∷ record { listen = codes "127.0.0.1:3004"; location_area_code = 1; cell_identity = 2; arfcn = 30; bsic = record { ncc = 2; bcc = 2 }; channels = hex "41 0a" }
      ∷ [];
}

no_options : asked None None ≡ Ok fixed
no_options = refl

-- `--break` wants settings, whatever its word
no_settings : map (λ word. asked None (Some word)) (codes "0" ∷ codes "1" ∷ codes "x" ∷ []) ≡ Err BadBreak ∷ Err BadBreak ∷ Err BadBreak ∷ []
no_settings = refl

-- the settings' fault is found before that of `--break`
no_toml : map (asked (Some (codes "x ="))) (None ∷ Some (codes "x") ∷ []) ≡ Err (Settings NotToml) ∷ Err (Settings NotToml) ∷ []
unfolding toml_on_literals
no_toml = refl

empty_settings : asked (Some []) (Some (codes "1")) ≡ Err (Settings (Missing keys.Network))
unfolding toml_on_literals
empty_settings = refl

the_settings : asked_with (Ok two_cells) None ≡ Ok (controlled two_cells)
the_settings = refl

-- the switch and each station, with zeros before the number
sources : map (λ word. asked_with (Ok two_cells) (Some word)) (codes "0" ∷ codes "00" ∷ codes "1" ∷ codes "2" ∷ codes "0002" ∷ []) ≡
    Ok (breaking two_cells 0) ∷ Ok (breaking two_cells 0) ∷ Ok (breaking two_cells 1) ∷ Ok (breaking two_cells 2) ∷ Ok (breaking two_cells 2) ∷ []
sources = refl

-- numbers over that of the cells, and words that are no number
no_sources : map (λ word. asked_with (Ok two_cells) (Some word)) (codes "3" ∷ codes "4294967296" ∷ codes "" ∷ codes "x" ∷ codes "1x" ∷ codes "+1" ∷ codes "-1" ∷ codes " 1" ∷ codes "0x1" ∷ []) ≡
    Err BadBreak ∷ Err BadBreak ∷ Err BadBreak ∷ Err BadBreak ∷ Err BadBreak ∷ Err BadBreak ∷ Err BadBreak ∷ Err BadBreak ∷ Err BadBreak ∷ []
no_sources = refl

counts_of_cells : map cells_of (fixed ∷ controlled two_cells ∷ breaking two_cells 0 ∷ []) ≡ 1 ∷ 2 ∷ 2 ∷ []
counts_of_cells = refl

-- ---- sums

-- lists of one, two and three messages at 1, 2 and 4, and none at 3
abbrev some_lists : ℕ → Option (List (List ℕ))
some_lists n = if n == 1 then Some ((5 ∷ []) ∷ []) else (if n == 2 then Some ([] ∷ [] ∷ []) else (if n == 4 then Some ([] ∷ [] ∷ [] ∷ []) else None))

up_to_the_first_gap : map (λ most. count_from some_lists 1 most) (0 ∷ 1 ∷ 2 ∷ 3 ∷ 9 ∷ []) ≡ 0 ∷ 1 ∷ 3 ∷ 3 ∷ 3 ∷ []
unfolding count_from
up_to_the_first_gap = refl

from_another : map (λ number. count_from some_lists number 9) (2 ∷ 3 ∷ 4 ∷ []) ≡ 2 ∷ 0 ∷ 3 ∷ []
unfolding count_from
from_another = refl

over_the_gap : map (count_to some_lists) (0 ∷ 1 ∷ 2 ∷ 3 ∷ 4 ∷ 9 ∷ []) ≡ 0 ∷ 1 ∷ 3 ∷ 3 ∷ 6 ∷ 6 ∷ []
unfolding count_to
over_the_gap = refl

-- ---- lines

abbrev events : List Event
events = Upper 1 Zero (hex "03 05") ∷ AirUp 1 Zero ∷ SwitchTakes ∷ []

-- two messages were sent, of which one was accepted
abbrev one_of_two : WorldState
one_of_two = after_all (fixed_world 4) (Upper 1 Zero (hex "03 0f") ∷ events)

-- the switch has one connection, with one accepted message
one_accepted : accepted_by_all one_of_two.scene ≡ 1
one_accepted =
    let list : ℕ → Option (List (List ℕ)) = accepted_list one_of_two.scene in
    ap (count_from list 1) (let e : 2 ^ 32 - 1 ≡ suc (2 ^ 32 - 2) = omega arith in e) ∙ counted_more list 1 (2 ^ 32 - 2) ((hex "03 0f") ∷ []) refl
    ∙ ap (λ (n : ℕ). 1 + n) (ap (count_from list 2) (let e : 2 ^ 32 - 2 ≡ suc (2 ^ 32 - 3) = omega arith in e) ∙ counted_end list 2 (2 ^ 32 - 3) refl)

sent_by_the_first : count_to (sent_list one_of_two.scene) 1 ≡ 2
unfolding count_to
sent_by_the_first = refl

-- the fixed world has one mobile
no_second : (mobile : ℕ) → 1 < mobile → sent_list one_of_two.scene mobile ≡ None
no_second mobile second =
    let other : (mobile == 1) ≡ false = grind (arith, nat_tests) in
    nothing_if (mobile == 1) _ other

two_sent : sent_by_all one_of_two.scene ≡ 2
two_sent = counted_past (sent_list one_of_two.scene) 1 254 no_second ∙ sent_by_the_first

its_line : break_line 4 one_of_two.scene ≡ codes "break " ++ decimal 4 ++ codes " accepted " ++ decimal 1 ++ codes " sent " ++ decimal 2 ++ codes "\n"
its_line =
    ap (λ (n : ℕ). codes "break " ++ decimal 4 ++ codes " accepted " ++ decimal n ++ codes " sent " ++ decimal (sent_by_all one_of_two.scene) ++ codes "\n") one_accepted
    ∙ ap (λ (n : ℕ). codes "break " ++ decimal 4 ++ codes " accepted " ++ decimal 1 ++ codes " sent " ++ decimal n ++ codes "\n") two_sent

-- without events there is one place, and with two there are three
no_events : (begin : WorldState) → break_lines begin [] 1 ≡ break_line 0 (after_all begin (BaseDown 1 ∷ [])).scene
unfolding texts_below
no_events begin = refl

two_events : (begin : WorldState) → break_lines begin (Handle ∷ SwitchTakes ∷ []) 1 ≡
    (break_line 0 (after_all begin (BaseDown 1 ∷ Handle ∷ SwitchTakes ∷ [])).scene ++ break_line 1 (after_all begin (Handle ∷ BaseDown 1 ∷ SwitchTakes ∷ [])).scene)
    ++ break_line 2 (after_all begin (Handle ∷ SwitchTakes ∷ BaseDown 1 ∷ [])).scene
unfolding texts_below
two_events begin = refl

-- the texts of 0 and 1
two_texts : texts_below (λ n. n ∷ 9 ∷ []) 2 ≡ 0 ∷ 9 ∷ 1 ∷ 9 ∷ []
unfolding texts_below
two_texts = refl

-- ---- more accepted than sent

-- as many as were sent are no excess, and one more is
excesses : map (λ accepted. excess_at 7 (record { accepted = accepted; sent = 5 })) (0 ∷ 4 ∷ 5 ∷ 6 ∷ 100 ∷ []) ≡ None ∷ None ∷ None ∷ Some 7 ∷ Some 7 ∷ []
excesses = refl

-- at the places 0 to 4: 0 of 2 accepted, 2 of 3, 4 of 4, 6 of 5, 8 of 6
abbrev some_counts : ℕ → Counts
some_counts place = record { accepted = 2 * place; sent = place + 2 }

first_excesses : map (excess_below some_counts) (0 ∷ 1 ∷ 3 ∷ 4 ∷ 5 ∷ []) ≡ None ∷ None ∷ None ∷ Some 3 ∷ Some 3 ∷ []
unfolding excess_below
first_excesses = refl

-- without a break nothing is counted
no_breaks : map (λ asked. excess_in asked events) (fixed ∷ controlled two_cells ∷ []) ≡ None ∷ None ∷ []
no_breaks = refl

statuses : map status_of_excess (None ∷ Some 0 ∷ Some 3 ∷ []) ≡ 0 ∷ 4 ∷ 4 ∷ []
statuses = refl
