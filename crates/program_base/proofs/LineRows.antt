-- SPDX-License-Identifier: MIT OR Apache-2.0
-- Definitions against literal lines of the script language.
use Rattle.std.proofs.Common.{◌≡◌, ℕ, List, [], ◌∷◌, ◌++◌, map, true, false, Option, Some, None, refl}
use Rattle.std.specs.Prelude.{codes}
use Rattle.std.specs.List.{slice_split}
use Rattle.octets.proofs.Hex.{hex}
use Rattle.hex.proofs.OnLiterals.{hex_on_literals}
use Rattle.dtap_codec.specs.declared.sapi.Sapi.TheVariants.{Zero, Three}
use Rattle.world_model.specs.declared.event.Event.{Event}
use Rattle.world_model.specs.declared.event.Event.TheVariants.{Upper, Connect, AirUp, AirAck, AirDown, AirDownLost, Move, Touch, Arrive, Return, BaseTakes, BasePush, Handle, SwitchTakes, SwitchDoes, Tick, BaseDown, Report}
use Rattle.world_model.specs.declared.event.SwitchAction.TheVariants.{Assign, Clear, Dtap}
use Rattle.program_base.specs.FirstLine.{behind_line, first_line}
use Rattle.program_base.specs.WordsLeft.{is_space}
use Rattle.program_base.specs.Words.{mobile_in, station_in, source_in, any_number_in, sapi_in, answer_in, octets_in}
use Rattle.program_base.specs.ScriptReading.{action_in, connect_at, dtap_at, event_at, kind_in, line_at, report_at, switch_does_at, upper_at}

-- ---- the first line of a script

first : first_line (codes "basepush 1\nhandle\n") ≡ codes "basepush 1"
first = refl

others : behind_line (codes "basepush 1\nhandle\n") ≡ codes "handle\n"
others = refl

last_without_feed : first_line (codes "handle") ++ codes "|" ++ behind_line (codes "handle") ≡ codes "handle|"
last_without_feed = refl

empty_line : first_line (codes "\nhandle\n") ++ first_line [] ≡ []
empty_line = refl

-- ---- words

-- the ends of each range, with zeros before them, and the numbers beyond
mobiles : map mobile_in (codes "1" ∷ codes "255" ∷ codes "001" ∷ codes "0" ∷ codes "256" ∷ []) ≡ Some 1 ∷ Some 255 ∷ Some 1 ∷ None ∷ None ∷ []
mobiles = refl

stations : map (station_in 2) (codes "1" ∷ codes "2" ∷ codes "0" ∷ codes "3" ∷ []) ≡ Some 1 ∷ Some 2 ∷ None ∷ None ∷ []
stations = refl

sources : map (source_in 2) (codes "0" ∷ codes "2" ∷ codes "3" ∷ []) ≡ Some 0 ∷ Some 2 ∷ None ∷ []
sources = refl

numbers : map any_number_in (codes "0" ∷ codes "4294967295" ∷ codes "00000000000004294967295" ∷ codes "4294967296" ∷ []) ≡ Some 0 ∷ Some 4294967295 ∷ Some 4294967295 ∷ None ∷ []
numbers = refl

-- a number is digits alone
no_numbers : map any_number_in (codes "" ∷ codes "+1" ∷ codes "-1" ∷ codes "1x" ∷ codes "0x1" ∷ codes "1." ∷ []) ≡ None ∷ None ∷ None ∷ None ∷ None ∷ None ∷ []
no_numbers = refl

sapis : map sapi_in (codes "0" ∷ codes "3" ∷ codes "1" ∷ codes "00" ∷ codes "" ∷ []) ≡ Some Zero ∷ Some Three ∷ None ∷ None ∷ None ∷ []
sapis = refl

answers : map answer_in (codes "y" ∷ codes "n" ∷ codes "Y" ∷ codes "N" ∷ codes "yes" ∷ codes "" ∷ []) ≡ Some true ∷ Some false ∷ None ∷ None ∷ None ∷ None ∷ []
answers = refl

octets : map octets_in (codes "03" ∷ codes "AbCdEf" ∷ codes "0901" ∷ []) ≡ Some (0x03 ∷ []) ∷ Some (hex "ab cd ef") ∷ Some (hex "09 01") ∷ []
unfolding hex_on_literals
octets = refl

no_octets : map octets_in (codes "" ∷ codes "030" ∷ codes "03g5" ∷ codes "0x03" ∷ codes ":@`/" ∷ []) ≡ None ∷ None ∷ None ∷ None ∷ None ∷ []
unfolding hex_on_literals
no_octets = refl

-- ---- lines

abbrev event_of : List ℕ → Option Event
event_of line = line_at 1 (slice_split is_space line)

upper_lines : map event_of (codes "upper 255 3 0901" ∷ codes "upper 001 0 AbCd" ∷ []) ≡ Some (Upper 255 Three (hex "09 01")) ∷ Some (Upper 1 Zero (hex "ab cd")) ∷ []
unfolding line_at kind_in event_at upper_at hex_on_literals
upper_lines = refl

connect_lines : map event_of (codes "connect 7 1 0524 y" ∷ codes "connect 2 1 0627 n" ∷ []) ≡
    Some (Connect 7 1 (hex "05 24") true) ∷ Some (Connect 2 1 (hex "06 27") false) ∷ []
unfolding line_at kind_in event_at connect_at hex_on_literals
connect_lines = refl

air_lines : map event_of (codes "airup 1 3" ∷ codes "airup 2 0" ∷ codes "airack 1 3" ∷ codes "airdown 255" ∷ codes "airdownlost 1" ∷ []) ≡
    Some (AirUp 1 Three) ∷ Some (AirUp 2 Zero) ∷ Some (AirAck 1 Three) ∷ Some (AirDown 255) ∷ Some (AirDownLost 1) ∷ []
unfolding line_at kind_in event_at
air_lines = refl

mobile_lines : map event_of (codes "move 1" ∷ codes "touch 2" ∷ codes "arrive 3" ∷ codes "return 4" ∷ []) ≡
    Some (Move 1) ∷ Some (Touch 2) ∷ Some (Arrive 3) ∷ Some (Return 4) ∷ []
unfolding line_at kind_in event_at
mobile_lines = refl

link_lines : map event_of (codes "basetakes 1" ∷ codes "basepush 0" ∷ codes "basepush 1" ∷ codes "basedown 0" ∷ codes "basedown 1" ∷ codes "handle" ∷ codes "switchtakes" ∷ codes "tick 4294967295" ∷ []) ≡
    Some (BaseTakes 1) ∷ Some (BasePush 0) ∷ Some (BasePush 1) ∷ Some (BaseDown 0) ∷ Some (BaseDown 1) ∷ Some Handle ∷ Some SwitchTakes ∷ Some (Tick 4294967295) ∷ []
unfolding line_at kind_in event_at
link_lines = refl

switch_lines : map event_of (codes "switchdoes assign 0" ∷ codes "switchdoes clear 4294967295" ∷ codes "switchdoes dtap 7 3 8302" ∷ []) ≡
    Some (SwitchDoes (Assign 0)) ∷ Some (SwitchDoes (Clear 4294967295)) ∷ Some (SwitchDoes (Dtap 7 Three (hex "83 02"))) ∷ []
unfolding line_at kind_in event_at switch_does_at action_in dtap_at hex_on_literals
switch_lines = refl

report_lines : map event_of (codes "report 5 1414" ∷ []) ≡ Some (Report 5 (hex "14 14")) ∷ []
unfolding line_at kind_in event_at report_at hex_on_literals
report_lines = refl

-- one space between words, no other white space, lower case, and as many words as the kind has
bad_words :
    map event_of (codes "" ∷ codes " handle" ∷ codes "handle " ∷ codes "handle\r" ∷ codes "Handle" ∷ codes "handles" ∷ codes "handle 1" ∷ codes "airup 1" ∷ codes "tick" ∷ codes "tick 1 1" ∷ codes "switchdoes" ∷ codes "switchdoes assign" ∷ codes "switchdoes Assign 1" ∷ [])
    ≡ None ∷ None ∷ None ∷ None ∷ None ∷ None ∷ None ∷ None ∷ None ∷ None ∷ None ∷ None ∷ None ∷ []
unfolding line_at kind_in event_at switch_does_at action_in
bad_words = refl

bad_upper :
    map event_of (codes "upper  1 0 0305" ∷ codes "upper 1 0" ∷ codes "upper 1 0 " ∷ codes "upper 1 0 030" ∷ codes "upper 1 0 03g5" ∷ codes "upper 1 0 0305 1" ∷ codes "upper 0 0 0305" ∷ codes "upper 256 0 0305" ∷ codes "upper +1 0 0305" ∷ codes "upper 1 1 0305" ∷ codes "upper 1 00 0305" ∷ [])
    ≡ None ∷ None ∷ None ∷ None ∷ None ∷ None ∷ None ∷ None ∷ None ∷ None ∷ None ∷ []
unfolding line_at kind_in event_at upper_at hex_on_literals
bad_upper = refl

bad_others :
    map event_of (codes "connect 1 1 0524" ∷ codes "connect 1 1 0524 Y" ∷ codes "connect 1 0 0524 y" ∷ codes "connect 1 2 0524 y" ∷ codes "basetakes 0" ∷ codes "basetakes 2" ∷ codes "basepush 2" ∷ codes "basedown 2" ∷ codes "tick 4294967296" ∷ codes "switchdoes dtap 1 0" ∷ codes "report 1" ∷ [])
    ≡ None ∷ None ∷ None ∷ None ∷ None ∷ None ∷ None ∷ None ∷ None ∷ None ∷ None ∷ []
unfolding line_at kind_in event_at connect_at report_at switch_does_at action_in dtap_at hex_on_literals
bad_others = refl
