-- SPDX-License-Identifier: MIT OR Apache-2.0
-- Script lines. The text of an event is the event's words, with one space between two words.
use Rattle.std.specs.Prelude.{◌≡◌, ℕ, Bool, false, Some, codes, List, [], ◌∷◌}
use Rattle.std.specs.List.{AllByRecursion, join_with_byte, All}
use Rattle.dtap_codec.specs.declared.sapi.Sapi.{Sapi}
use Rattle.program_base.specs.Words.{mobile_in, station_in, source_in, any_number_in, sapi_in}
use Rattle.program_base.specs.Words.{answer_in, octets_in}
use Rattle.program_base.specs.WordsLeft.{is_space}
use Rattle.world_model.specs.declared.event.Event.{Event}
use Rattle.world_model.specs.declared.event.Event.TheVariants.{Upper, Connect, AirUp, AirAck}
use Rattle.world_model.specs.declared.event.Event.TheVariants.{AirDown, AirDownLost, Move, Touch}
use Rattle.world_model.specs.declared.event.Event.TheVariants.{Arrive, Return, BaseTakes, BasePush}
use Rattle.world_model.specs.declared.event.Event.TheVariants.{Handle, SwitchTakes, SwitchDoes}
use Rattle.world_model.specs.declared.event.Event.TheVariants.{Tick, BaseDown, Report}
use Rattle.world_model.specs.declared.event.SwitchAction.TheVariants.{Assign, Clear, Dtap}
use Rattle.program_base.specs.declared.script.Kind.{Kind}
use Rattle.program_base.specs.declared.script.Kind.TheVariants as kind
use Rattle.program_base.specs.declared.script.Action.{Action}
use Rattle.program_base.specs.declared.script.Action.TheVariants as action

-- the first word of a line of this kind
abbrev pub name_of : Kind → List ℕ
name_of kind.Upper = codes "upper"
name_of kind.Connect = codes "connect"
name_of kind.AirUp = codes "airup"
name_of kind.AirAck = codes "airack"
name_of kind.AirDown = codes "airdown"
name_of kind.AirDownLost = codes "airdownlost"
name_of kind.Move = codes "move"
name_of kind.Touch = codes "touch"
name_of kind.Arrive = codes "arrive"
name_of kind.Return = codes "return"
name_of kind.BaseTakes = codes "basetakes"
name_of kind.BasePush = codes "basepush"
name_of kind.Handle = codes "handle"
name_of kind.SwitchTakes = codes "switchtakes"
name_of kind.SwitchDoes = codes "switchdoes"
name_of kind.Tick = codes "tick"
name_of kind.BaseDown = codes "basedown"
name_of kind.Report = codes "report"

-- the second word of a `switchdoes` line
abbrev pub name_of_action : Action → List ℕ
name_of_action action.Assign = codes "assign"
name_of_action action.Clear = codes "clear"
name_of_action action.Dtap = codes "dtap"

-- what a word of a line says
pub data Word : Type 0 where
  keyword : List ℕ → Word
  mobile : ℕ → Word
  station : ℕ → Word
  source : ℕ → Word
  any_number : ℕ → Word
  sapi : Sapi → Word
  answer : Bool → Word
  octets : List ℕ → Word

-- the octets `word` say this value in a world of `cells` cells
abbrev pub IsWord : ℕ → Word → List ℕ → Type 0
IsWord cells (keyword text) word = word ≡ text
IsWord cells (mobile n) word = mobile_in word ≡ Some n
IsWord cells (station n) word = station_in cells word ≡ Some n
IsWord cells (source n) word = source_in cells word ≡ Some n
IsWord cells (any_number n) word = any_number_in word ≡ Some n
IsWord cells (sapi s) word = sapi_in word ≡ Some s
IsWord cells (answer b) word = answer_in word ≡ Some b
IsWord cells (octets os) word = octets_in word ≡ Some os

-- the words of an event's line, the first of which is the name of the event's kind
abbrev pub words_of : Event → List Word
words_of (Upper m s message) =
    keyword (name_of kind.Upper) ∷ mobile m ∷ sapi s ∷ octets message ∷ []
words_of (Connect m b initial accepts) =
    keyword (name_of kind.Connect) ∷ mobile m ∷ station b ∷ octets initial ∷ answer accepts ∷ []
words_of (AirUp m s) = keyword (name_of kind.AirUp) ∷ mobile m ∷ sapi s ∷ []
words_of (AirAck m s) = keyword (name_of kind.AirAck) ∷ mobile m ∷ sapi s ∷ []
words_of (AirDown m) = keyword (name_of kind.AirDown) ∷ mobile m ∷ []
words_of (AirDownLost m) = keyword (name_of kind.AirDownLost) ∷ mobile m ∷ []
words_of (Move m) = keyword (name_of kind.Move) ∷ mobile m ∷ []
words_of (Touch m) = keyword (name_of kind.Touch) ∷ mobile m ∷ []
words_of (Arrive m) = keyword (name_of kind.Arrive) ∷ mobile m ∷ []
words_of (Return m) = keyword (name_of kind.Return) ∷ mobile m ∷ []
words_of (BaseTakes b) = keyword (name_of kind.BaseTakes) ∷ station b ∷ []
words_of (BasePush n) = keyword (name_of kind.BasePush) ∷ source n ∷ []
words_of Handle = keyword (name_of kind.Handle) ∷ []
words_of SwitchTakes = keyword (name_of kind.SwitchTakes) ∷ []
words_of (SwitchDoes (Assign c)) =
    keyword (name_of kind.SwitchDoes) ∷ keyword (name_of_action action.Assign) ∷ any_number c ∷ []
words_of (SwitchDoes (Clear c)) =
    keyword (name_of kind.SwitchDoes) ∷ keyword (name_of_action action.Clear) ∷ any_number c ∷ []
words_of (SwitchDoes (Dtap c s message)) =
    keyword (name_of kind.SwitchDoes) ∷ keyword (name_of_action action.Dtap)
    ∷ any_number c ∷ sapi s ∷ octets message ∷ []
words_of (Tick ms) = keyword (name_of kind.Tick) ∷ any_number ms ∷ []
words_of (BaseDown n) = keyword (name_of kind.BaseDown) ∷ source n ∷ []
words_of (Report m report) = keyword (name_of kind.Report) ∷ mobile m ∷ octets report ∷ []

-- the words say the values of the list, one by one
abbrev pub AreWords : ℕ → List Word → List (List ℕ) → Type 0
AreWords cells [] words = words ≡ []
AreWords cells (said ∷ others) words =
    (word : List ℕ) × (rest : List (List ℕ)) × (words ≡ word ∷ rest) × IsWord cells said word
    × AreWords cells others rest

abbrev pub HasNoSpace : List ℕ → Type 0
HasNoSpace word = All (λ octet. is_space octet ≡ false) word

-- `line` is the text of `event` in a world of `cells` cells: the event's words, with one space
-- between two words
pub record IsLine (cells : ℕ) (event : Event) (line : List ℕ) : Type 0 where
  pub words : List (List ℕ)
  pub parted : line ≡ join_with_byte 32 words
  pub are_words : AllByRecursion HasNoSpace words
  pub say : AreWords cells (words_of event) words
