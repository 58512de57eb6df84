-- SPDX-License-Identifier: MIT OR Apache-2.0
-- A step of the controller leaves the number of the next connection unchanged, or one connection
-- begins: by a word that asks for a channel.
use Rattle.world_laws.proofs.Prelude.{◌≡◌, ℕ, ◌==◌, Bool, true, false, if◌then◌else◌, List, [], ◌∷◌, Option, Some, None, refl, ap, ◌∙◌}
use Rattle.world_laws.proofs.Prelude.{Channel, Place, SWITCH_LINK, Input, Row, Word, Asks, OnChannel, Reports, OnConnection}
use Rattle.world_laws.proofs.Prelude.{access_channel, handover_offer, Controller, Entry, Turn, turn, each, ignoring, entry_of, with_entry}
use Rattle.world_laws.proofs.Prelude.{channel_state, freed, freed_station, with_down, all_aged, break_of, by_fitting, concerning}
use Rattle.world_laws.proofs.Prelude.{concerning_too, entry_at, expiry, frees, given, may_open, measured, measures, on_break, on_decision}
use Rattle.world_laws.proofs.Prelude.{on_expiry, on_freed, on_report, on_what, on_word, row_in, timed, with_report, decision_over, Decision}
use Rattle.world_laws.proofs.Prelude.{Stay, Frame, Item, What, RequestReference, row_of, with_own_input, word_of}
use Rattle.conn_rules.specs.declared.input.Input.TheVariants as inputs
use Rattle.controller_model.specs.Controller.{is_up}
use Rattle.controller_model.specs.Life.{take, tick, with_connection}
use Rattle.dtap_codec.specs.declared.report.Report.{Report}
use Rattle.controller_model.specs.Decision.TheVariants.{Move}
use Rattle.ruled_relay.specs.declared.item.What.TheVariants as whats

-- the number of the next connection is as it was
abbrev pub Numbers : Controller → Turn → Type 0
Numbers c t = t.next.next_number ≡ c.next_number

-- ---- what concerns a connection

fitting_numbers : (c : Controller) (otherwise : Turn) (e : Entry) (o : Option Row) (d : Controller) →
    d.next_number ≡ c.next_number →
    Numbers c otherwise →
    Numbers c (by_fitting otherwise e o d)
fitting_numbers c otherwise e None d is same = same
fitting_numbers c otherwise e (Some r) d is same = is

concerning_numbers : (input : Input) (c : Controller) (o : Option Entry) → Numbers c (concerning input c o)
concerning_numbers input c None = refl
concerning_numbers input c (Some e) = fitting_numbers c (ignoring c) e (row_in c e.connection input) c refl refl

too_numbers : (c : Controller) (input : Input) (d : Controller) (o : Option Entry) →
    d.next_number ≡ c.next_number →
    Numbers c (concerning_too input d o)
too_numbers c input d None is = is
too_numbers c input d (Some e) is = fitting_numbers c (turn [] d) e (row_in d e.connection input) d is is

freed_numbers : (b : Bool) (at : Place) (input : Input) (c : Controller) (o : Option Entry) → Numbers c (on_freed b at input c o)
freed_numbers true at input c o = too_numbers c input (freed at c) o refl
freed_numbers false at input c o = concerning_numbers input c o

decision_numbers : (d : Decision) (c : Controller) (e : Entry) → Numbers c (on_decision d c e)
decision_numbers Stay c e = refl
decision_numbers (Move cell) c e = fitting_numbers c (turn [] c) e (row_of e.connection inputs.Move (handover_offer c e.connection.serving cell)) c refl refl

report_numbers : (at : Place) (of : ℕ) (report : Report) (c : Controller) (o : Option Entry) → Numbers c (on_report at of report c o)
report_numbers at of report c None = refl
report_numbers at of report c (Some e) = by (measures at e) where
  put : Entry
  put = with_report of report e

  by : (b : Bool) → Numbers c (if b then measured of report c e else ignoring c)
  by true = decision_numbers (decision_over put.averages.settings put.averages.reports of) (with_entry put c) put
  by false = refl

each_numbers : (f : Controller → Entry → Turn) →
    ((d : Controller) (e : Entry) → Numbers d (f d e)) →
    (c : Controller) (xs : List Entry) →
    Numbers c (each f c xs)
each_numbers f own c [] = refl
each_numbers f own c (x ∷ xs) = each_numbers f own (f c x).next xs ∙ own c x

expiry_numbers : (o : Option Input) (c : Controller) (e : Entry) → Numbers c (on_expiry o c e)
expiry_numbers None c e = refl
expiry_numbers (Some input) c e = too_numbers c input c (Some e) refl

break_numbers : (source : ℕ) (c : Controller) → Numbers c (on_break source c)
break_numbers source c = by (source == SWITCH_LINK) where
  all_on_break : Turn
  all_on_break = each (with_own_input (break_of source)) (with_down source c) c.entries

  same : all_on_break.next.next_number ≡ c.next_number
  same = each_numbers (with_own_input (break_of source)) (λ d e. too_numbers d (break_of source) d (Some e) refl) (with_down source c) c.entries

  by : (b : Bool) → (if b then all_on_break.next else freed_station source all_on_break.next).next_number ≡ c.next_number
  by true = same
  by false = same

-- ---- a connection begins

-- what a turn by a word makes of it
data WordOpens (c : Controller) (source : ℕ) (word : Word) (t : Turn) : Type 0 where
  unchanged : Numbers c t → WordOpens c source word t
  begins : (channel : Channel) (request : RequestReference) (delay : ℕ) →
      word ≡ Asks request delay →
      access_channel c source ≡ Some channel →
      t ≡ with_connection c channel request delay →
      WordOpens c source word t

asks_opens : (c : Controller) (source : ℕ) (request : RequestReference) (delay : ℕ) (b : Bool) (o : Option Channel) →
    access_channel c source ≡ o →
    WordOpens c source (Asks request delay) (if b then given c request delay o else ignoring c)
asks_opens c source request delay true (Some channel) is = begins channel request delay refl is refl
asks_opens c source request delay true None is = unchanged refl
asks_opens c source request delay false o is = unchanged refl

word_opens : (c : Controller) (source : ℕ) (word : Word) → WordOpens c source word (on_word source word c)
word_opens c source (Asks request delay) = asks_opens c source request delay (may_open c) (access_channel c source) refl
word_opens c source (OnChannel at input) = unchanged (freed_numbers (frees (channel_state c at) (entry_at c (channel_state c at)) input) at input c (entry_at c (channel_state c at)))
word_opens c source (Reports at of report) = unchanged (report_numbers at of report c (entry_at c (channel_state c at)))
word_opens c source (OnConnection number input) = unchanged (concerning_numbers input c (entry_of c number))
word_opens c source _ = unchanged refl

-- it is the next one, and its first channel is activated
pub data Opens (c : Controller) (item : Item) : Type 0 where
  unchanged : Numbers c (take item c) → Opens c item
  begins : (frame : Frame) (channel : Channel) (request : RequestReference) (delay : ℕ) → item.what ≡ whats.Frame frame → word_of item.source frame ≡ Asks request delay → access_channel c item.source ≡ Some channel
      → take item c ≡ with_connection c channel request delay → Opens c item

pub take_opens : (c : Controller) (item : Item) → Opens c item
unfolding take
take_opens c item = by (is_up c item.source) item.what refl refl where
  of_word : (frame : Frame) (t : Turn) →
      item.what ≡ whats.Frame frame →
      on_what (is_up c item.source) item.source item.what c ≡ t →
      WordOpens c item.source (word_of item.source frame) t →
      Opens c item
  of_word frame t is turns (unchanged same) = unchanged (ap (λ (x : Turn). x.next.next_number) turns ∙ same)
  of_word frame t is turns (begins channel request delay asks free opens) = begins frame channel request delay is asks free (turns ∙ opens)

  by : (b : Bool) (what : What) → is_up c item.source ≡ b → item.what ≡ what → Opens c item
  by true (whats.Frame frame) up is =
      of_word frame (on_word item.source (word_of item.source frame) c) is (ap (λ (b : Bool). on_what b item.source item.what c) up ∙ ap (λ (x : What). on_what true item.source x c) is) (word_opens c item.source (word_of item.source frame))
  by true whats.Down up is = unchanged (ap (λ (t : Turn). t.next.next_number) (ap (λ (b : Bool). on_what b item.source item.what c) up ∙ ap (λ (x : What). on_what true item.source x c) is) ∙ break_numbers item.source c)
  by false what up is = unchanged (ap (λ (t : Turn). t.next.next_number) (ap (λ (b : Bool). on_what b item.source item.what c) up))

-- and none by time
pub tick_numbers : (ms : ℕ) (c : Controller) → Numbers c (tick ms c)
unfolding tick
tick_numbers ms c = each_numbers timed (λ d e. expiry_numbers (expiry d.settings.timers e.connection) d e) (all_aged ms c) (all_aged ms c).entries
