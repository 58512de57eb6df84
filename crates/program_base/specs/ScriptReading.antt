-- SPDX-License-Identifier: MIT OR Apache-2.0
-- Reading a script line word by word, as a function of its words. The grammar of lines is in
-- Script.
use Rattle.std.specs.Prelude.{◌≡◌, ℕ, ◌-◌, ◌&&◌, ◌==◌, Bool, find, length, slice_index}
use Rattle.std.specs.Prelude.{Option, Some, None, IsSome, Result, Ok, Err}
use Rattle.std.specs.Prelude.{List, []}
use Rattle.std.specs.Prelude.{◌∷◌}
use Rattle.dtap_codec.specs.declared.sapi.Sapi.{Sapi}
use Rattle.program_base.specs.Words.{value_at, end_of, mobile_in, station_in, source_in}
use Rattle.program_base.specs.Words.{any_number_in, sapi_in, answer_in, octets_in}
use Rattle.world_model.specs.declared.event.Event.{Event}
use Rattle.world_model.specs.declared.event.Event.TheVariants.{Upper, Connect, AirUp, AirAck}
use Rattle.world_model.specs.declared.event.Event.TheVariants.{AirDown, AirDownLost, Move, Touch}
use Rattle.world_model.specs.declared.event.Event.TheVariants.{Arrive, Return, BaseTakes, BasePush}
use Rattle.world_model.specs.declared.event.Event.TheVariants.{Handle, SwitchTakes, SwitchDoes}
use Rattle.world_model.specs.declared.event.Event.TheVariants.{Tick, BaseDown, Report}
use Rattle.world_model.specs.declared.event.SwitchAction.TheVariants.{Assign, Clear, Dtap}
use Rattle.program_base.specs.declared.script.Kind.{Kind}
use Rattle.program_base.specs.declared.script.Kind.TheVariants as kind
use Rattle.program_base.specs.declared.script.Action.{Action}
use Rattle.program_base.specs.declared.script.Action.TheVariants as action
use Rattle.program_base.specs.Script.{name_of, name_of_action}
use Rattle.std.specs.Str.{bytes_eq}
use Rattle.program_base.specs.declared.line_fault.LineFault.{LineFault}
use Rattle.program_base.specs.declared.line_fault.LineFault.TheVariants.{BadEvent, Memory}

infixl 10 ◌>>=◌
abbrev pub ◌>>=◌ : {A B : Type 0} → Option A → (A → Option B) → Option B
(Some x) >>= f = f x
None >>= f = None

-- all kinds of line, and the kind whose name is `word`
abbrev pub all_kinds : List Kind
all_kinds =
    kind.Upper ∷ kind.Connect ∷ kind.AirUp ∷ kind.AirAck ∷ kind.AirDown ∷ kind.AirDownLost
    ∷ kind.Move ∷ kind.Touch ∷ kind.Arrive ∷ kind.Return ∷ kind.BaseTakes ∷ kind.BasePush
    ∷ kind.Handle ∷ kind.SwitchTakes ∷ kind.SwitchDoes ∷ kind.Tick ∷ kind.BaseDown ∷ kind.Report
    ∷ []

unfoldable pub kind_in : List ℕ → Option Kind
kind_in word = find (λ kind. bytes_eq word (name_of kind)) all_kinds

-- whether a name has `size` octets, the last but two of which is `octet`
abbrev pub has_shape : ℕ → ℕ → List ℕ → Bool
has_shape size octet name = (size == length name) && (octet == slice_index name (length name - 3))

-- the first kind whose name has this shape, if there is one
unfoldable pub kind_of_shape : ℕ → ℕ → Option Kind
kind_of_shape size octet = find (λ kind. has_shape size octet (name_of kind)) all_kinds

-- the value that `says` reads from the first word, if no other word follows
abbrev pub last_at : {X : Type 0} → (List ℕ → Option X) → List (List ℕ) → Option X
last_at says words = do
  said ← value_at says words
  end ← end_of said.1
  Some said.0

unfoldable pub upper_at : List (List ℕ) → Option Event
upper_at words = do
  mobile ← value_at mobile_in words
  sapi ← value_at sapi_in mobile.1
  octets ← last_at octets_in sapi.1
  Some (Upper mobile.0 sapi.0 octets)

unfoldable pub connect_at : ℕ → List (List ℕ) → Option Event
connect_at cells words = do
  mobile ← value_at mobile_in words
  station ← value_at (station_in cells) mobile.1
  octets ← value_at octets_in station.1
  answer ← last_at answer_in octets.1
  Some (Connect mobile.0 station.0 octets.0 answer)

unfoldable pub dtap_at : List (List ℕ) → Option Event
dtap_at words = do
  connection ← value_at any_number_in words
  sapi ← value_at sapi_in connection.1
  octets ← last_at octets_in sapi.1
  Some (SwitchDoes (Dtap connection.0 sapi.0 octets))

unfoldable pub report_at : List (List ℕ) → Option Event
report_at words = do
  mobile ← value_at mobile_in words
  octets ← last_at octets_in mobile.1
  Some (Report mobile.0 octets)

-- the event that is said by the words after the name of the switch's action
abbrev pub action_at : Action → List (List ℕ) → Option Event
action_at action.Assign words = do
  connection ← last_at any_number_in words
  Some (SwitchDoes (Assign connection))
action_at action.Clear words = do
  connection ← last_at any_number_in words
  Some (SwitchDoes (Clear connection))
action_at action.Dtap words = dtap_at words

unfoldable pub action_in : List ℕ → Option Action
action_in word = find (λ action. bytes_eq word (name_of_action action))
    (action.Assign ∷ action.Clear ∷ action.Dtap ∷ [])

unfoldable pub switch_does_at : List (List ℕ) → Option Event
switch_does_at words = do
  action ← value_at action_in words
  action_at action.0 action.1

-- the event of a line that has only the number of a mobile after its first word
abbrev pub mobile_at : (ℕ → Event) → List (List ℕ) → Option Event
mobile_at event words = do
  mobile ← last_at mobile_in words
  Some (event mobile)

-- the mobile and the SAPI that the words are, if no other word follows
abbrev pub mobile_and_sapi_in : List (List ℕ) → Option (ℕ × Sapi)
mobile_and_sapi_in words = do
  mobile ← value_at mobile_in words
  sapi ← last_at sapi_in mobile.1
  Some (mobile.0, sapi)

-- the event of a line that has only a mobile and a SAPI after its first word
abbrev pub mobile_and_sapi_at : (ℕ → Sapi → Event) → List (List ℕ) → Option Event
mobile_and_sapi_at event words = do
  both ← mobile_and_sapi_in words
  Some (event both.0 both.1)

unfoldable pub event_at : ℕ → Kind → List (List ℕ) → Option Event
event_at cells kind.Upper words = upper_at words
event_at cells kind.Connect words = connect_at cells words
event_at cells kind.AirUp words = mobile_and_sapi_at (λ mobile sapi. AirUp mobile sapi) words
event_at cells kind.AirAck words = mobile_and_sapi_at (λ mobile sapi. AirAck mobile sapi) words
event_at cells kind.AirDown words = mobile_at (λ mobile. AirDown mobile) words
event_at cells kind.AirDownLost words = mobile_at (λ mobile. AirDownLost mobile) words
event_at cells kind.Move words = mobile_at (λ mobile. Move mobile) words
event_at cells kind.Touch words = mobile_at (λ mobile. Touch mobile) words
event_at cells kind.Arrive words = mobile_at (λ mobile. Arrive mobile) words
event_at cells kind.Return words = mobile_at (λ mobile. Return mobile) words
event_at cells kind.BaseTakes words = do
  station ← last_at (station_in cells) words
  Some (BaseTakes station)
event_at cells kind.BasePush words = do
  source ← last_at (source_in cells) words
  Some (BasePush source)
event_at cells kind.Handle words = do
  end ← end_of words
  Some Handle
event_at cells kind.SwitchTakes words = do
  end ← end_of words
  Some SwitchTakes
event_at cells kind.SwitchDoes words = switch_does_at words
event_at cells kind.Tick words = do
  milliseconds ← last_at any_number_in words
  Some (Tick milliseconds)
event_at cells kind.BaseDown words = do
  source ← last_at (source_in cells) words
  Some (BaseDown source)
event_at cells kind.Report words = report_at words

-- the event that all words of a line say, if they say one
unfoldable pub line_at : ℕ → List (List ℕ) → Option Event
line_at cells words = do
  kind ← value_at kind_in words
  event_at cells kind.0 kind.1

-- `Ok` holds the event that the words say. `BadEvent` means that the words say no event, and
-- `Memory` that memory ran out although the words say an event.
abbrev pub GivesEvent : Result Event LineFault → Option Event → Type 0
GivesEvent (Ok event) said = said ≡ Some event
GivesEvent (Err BadEvent) said = said ≡ None
GivesEvent (Err Memory) said = IsSome said
