-- SPDX-License-Identifier: MIT OR Apache-2.0
-- What the controller puts for others names other mobiles.
use Rattle.world_laws.proofs.Prelude.{◌≡◌, ◌≢◌, ℕ, ◌+◌, ◌≤◌, ◌⊎◌, Bool, true, false, if◌then◌else◌, cond, List, [], ◌∷◌, ◌++◌, find, Option}
use Rattle.world_laws.proofs.Prelude.{Some, None, refl, sym, ap, ◌∙◌, subst, arith, inl, inr, AllByRecursion, option_and_then, result_ok}
use Rattle.world_laws.proofs.Prelude.{Channel, Place, Message, Station, Out, outs_of, access_activation}
use Rattle.world_laws.proofs.Prelude.{immediate_assignment, Input, Connection, Row, connection_of, Names, NamesItsMobile, IsAbove}
use Rattle.world_laws.proofs.Prelude.{IsNumbered, IsSent, conn_of, Step, Take, Word, Nothing, Ping, Asks, OnChannel, Reports, OnConnection}
use Rattle.world_laws.proofs.Prelude.{access_channel, Controller, Entry, Turn, channel_state, each, entry_of, holder, ignoring, hears, turn}
use Rattle.world_laws.proofs.Prelude.{with_down, all_aged, break_of, by_fitting, concerning, concerning_too, entry_at, expiry, given}
use Rattle.world_laws.proofs.Prelude.{measured, measures, may_open, on_decision, on_expiry, on_freed, on_report, on_what, on_word, row_in}
use Rattle.world_laws.proofs.Prelude.{step, timed, rr_text, Decision, Stay, What, Rsl, RequestReference, rsl_text, rsl_in, same_Some}
use Rattle.world_laws.proofs.Prelude.{NamesOf, with_own_input, word_of, rr_reading, AssignsAnother, NamesAnother}
use Rattle.conn_messages.specs.Out.{out_of}
use Rattle.controller_model.specs.declared.step.Step.TheVariants.{Tick}
use Rattle.controller_model.specs.Controller.{has_number}
use Rattle.controller_model.specs.Life.{take, tick}
use Rattle.dtap_codec.specs.declared.report.Report.{Report}
use Rattle.controller_model.specs.Decision.TheVariants.{Move}
use Rattle.ruled_relay.specs.declared.item.What.TheVariants as whats
use Rattle.rsl_codec.specs.declared.common_channel.ImmediateAssignment.{ImmediateAssignment as Assignment}
use Rattle.rsl_codec.specs.declared.rsl.Rsl.TheVariants as rsl
use Rattle.world_laws.proofs.OrderTexts.{assignment_back, read_of}
use Rattle.world_laws.proofs.Access.Turning.{own_among}
use Rattle.world_laws.proofs.OrderNames.{information_in, assignment_read}
use Rattle.world_laws.proofs.References.Numbered.{aged_above}

-- ---- each output is of a connection, or no message of a station

abbrev pub IsFrom : Out → Type 0
IsFrom out = (1 ≤ out.conn) ⊎ (rsl_in out.frame ≡ None)

froms : (n : ℕ) (ms : List Message) → 1 ≤ n → AllByRecursion IsFrom (outs_of n ms)
froms n [] least = tt
froms n (m ∷ ms) least = (inl (subst (λ (k : ℕ). 1 ≤ k) (sym (conn_of n m)) least), froms n ms least)

from_row : (otherwise : Turn) (e : Entry) (o : Option Row) (c : Controller) →
    1 ≤ e.connection.number →
    AllByRecursion IsFrom otherwise.outs →
    AllByRecursion IsFrom (by_fitting otherwise e o c).outs
from_row otherwise e None c least all = all
from_row otherwise e (Some r) c least all = froms e.connection.number r.outs least

AreFrom : Option Entry → Type 0
AreFrom o = (e : Entry) → o ≡ Some e → 1 ≤ e.connection.number

find_from : (n : ℕ) (xs : List Entry) → AllByRecursion (IsAbove 0) xs → AreFrom (find (has_number n) xs)
unfolding AreFrom
find_from n [] all e is = absurd cc
find_from n (x ∷ xs) all e is = by (has_number n x) is (find_from n xs all.1 e) where
  by : (b : Bool) →
      cond b (Some x) (find (has_number n) xs) ≡ Some e →
      (find (has_number n) xs ≡ Some e → 1 ≤ e.connection.number) →
      1 ≤ e.connection.number
  by true is others = subst (λ (y : Entry). 1 ≤ y.connection.number) (same_Some _ _ is) (let above = all.0 in omega (arith, above))
  by false is others = others is

held_from : (c : Controller) (o : Option ℕ) → AllByRecursion (IsAbove 0) c.entries → AreFrom (option_and_then (entry_of c) o)
unfolding AreFrom
held_from c None all e is = absurd cc
held_from c (Some n) all e is = find_from n c.entries all e is

concerning_from : (input : Input) (c : Controller) (o : Option Entry) → AreFrom o → AllByRecursion IsFrom (concerning input c o).outs
unfolding AreFrom
concerning_from input c None all = tt
concerning_from input c (Some e) all = from_row (ignoring c) e (row_in c e.connection input) c (all e refl) tt

too_from : (input : Input) (c : Controller) (o : Option Entry) → AreFrom o → AllByRecursion IsFrom (concerning_too input c o).outs
unfolding AreFrom
too_from input c None all = tt
too_from input c (Some e) all = from_row (turn [] c) e _ c (all e refl) tt

freed_from : (b : Bool) (at : Place) (input : Input) (c : Controller) (o : Option Entry) →
    AreFrom o →
    AllByRecursion IsFrom (on_freed b at input c o).outs
freed_from true at input c o all = too_from input _ o all
freed_from false at input c o all = concerning_from input c o all

decision_from : (decision : Decision) (c : Controller) (e : Entry) →
    1 ≤ e.connection.number →
    AllByRecursion IsFrom (on_decision decision c e).outs
decision_from Stay c e least = tt
decision_from (Move cell) c e least = from_row (turn [] c) e _ c least tt

report_from : (at : Place) (number : ℕ) (report : Report) (c : Controller) (o : Option Entry) →
    AreFrom o →
    AllByRecursion IsFrom (on_report at number report c o).outs
unfolding AreFrom
report_from at number report c None all = tt
report_from at number report c (Some e) all = by (measures at e) where
  by : (b : Bool) → AllByRecursion IsFrom (if b then measured number report c e else ignoring c).outs
  by true = decision_from _ _ _ (all e refl)
  by false = tt

given_from : (c : Controller) (request : RequestReference) (delay : ℕ) (o : Option Channel) →
    1 ≤ c.next_number →
    AllByRecursion IsFrom (given c request delay o).outs
given_from c request delay None least = tt
given_from c request delay (Some channel) least = froms c.next_number (access_activation channel ∷ []) least

word_from : (source : ℕ) (word : Word) (c : Controller) → IsNumbered c → AllByRecursion IsFrom (on_word source word c).outs
word_from source Nothing c numbered = tt
word_from source Ping c numbered = (inr refl, tt)
word_from source (Asks request delay) c numbered = by (may_open c) where
  by : (b : Bool) → AllByRecursion IsFrom (if b then given c request delay (access_channel c source) else ignoring c).outs
  by true = given_from c request delay (access_channel c source) numbered.next
  by false = tt
word_from source (OnChannel at input) c numbered = freed_from _ at input c (entry_at c (channel_state c at)) (held_from c (holder (channel_state c at)) numbered.above)
word_from source (Reports at number report) c numbered = report_from at number report c (entry_at c (channel_state c at)) (held_from c (holder (channel_state c at)) numbered.above)
word_from source (OnConnection number input) c numbered = concerning_from input c (entry_of c number) (find_from number c.entries numbered.above)

append_all : (xs ys : List Out) → AllByRecursion IsFrom xs → AllByRecursion IsFrom ys → AllByRecursion IsFrom (xs ++ ys)
append_all [] ys all more = more
append_all (x ∷ xs) ys all more = (all.0, append_all xs ys all.1 more)

each_from : (f : Controller → Entry → Turn) →
    ((c : Controller) (e : Entry) → 1 ≤ e.connection.number → AllByRecursion IsFrom (f c e).outs) →
    (c : Controller) (xs : List Entry) →
    AllByRecursion (IsAbove 0) xs →
    AllByRecursion IsFrom (each f c xs).outs
each_from f from c [] all = tt
each_from f from c (x ∷ xs) all = append_all (f c x).outs (each f (f c x).next xs).outs (from c x (let above = all.0 in omega (arith, above))) (each_from f from (f c x).next xs all.1)

own_input_from : (input : Input) (c : Controller) (e : Entry) →
    1 ≤ e.connection.number →
    AllByRecursion IsFrom (with_own_input input c e).outs
own_input_from input c e least = from_row (turn [] c) e _ c least tt

timed_from : (c : Controller) (e : Entry) → 1 ≤ e.connection.number → AllByRecursion IsFrom (timed c e).outs
timed_from c e least = by (expiry c.settings.timers e.connection) where
  by : (o : Option Input) → AllByRecursion IsFrom (on_expiry o c e).outs
  by None = tt
  by (Some input) = own_input_from input c e least

item_from : (b : Bool) (source : ℕ) (what : What) (c : Controller) → IsNumbered c → AllByRecursion IsFrom (on_what b source what c).outs
item_from false source what c numbered = tt
item_from true source (whats.Frame frame) c numbered = word_from source (word_of source frame) c numbered
item_from true source whats.Down c numbered = each_from (with_own_input (break_of source)) (own_input_from (break_of source)) (with_down source c) c.entries numbered.above

pub step_from : (c : Controller) (st : Step) → IsNumbered c → AllByRecursion IsFrom (step c st).outs
unfolding take tick
step_from c (Take item) numbered = item_from (hears c item.source) item.source item.what c numbered
step_from c (Tick ms) numbered = each_from timed timed_from (all_aged ms c) (all_aged ms c).entries (aged_above ms c.entries numbered.above)

-- ---- whom it names

NamesBy : Option Connection → Message → Type 0
NamesBy None m = (c : Channel) (request : RequestReference) → Names c request m
NamesBy (Some t) m = Names t.serving t.request m

all_names : (o : Option Connection) (put : List Message) → NamesOf o put → AllByRecursion (NamesBy o) put
unfolding NamesBy
all_names None put names = names
all_names (Some t) put names = names

-- one that names a request of another mobile
other_named : (mobile : ℕ) (c : Channel) (request : RequestReference) (station : ℕ) (i : Assignment) (information : List ℕ) →
    i.information ≡ information →
    Names c request (Station station (rsl.ImmediateAssignCommand i)) →
    request.access ≢ mobile →
    NamesAnother mobile (rr_reading information)
other_named mobile c request station i information same names differs =
    let read = assignment_read c request names.0 in
    let is : information ≡ rr_text (immediate_assignment c request names.0) = sym same ∙ ap information_in names.1 in
    subst (NamesAnother mobile) (sym (ap rr_reading is ∙ read.reads)) (λ named. differs (sym read.access ∙ named))

-- a connection of this mobile has this number alone
abbrev pub IsOnly : Controller → ℕ → ℕ → Type 0
IsOnly c n mobile = (m : ℕ) (t : Connection) → connection_of c m ≡ Some t → t.request.access ≡ mobile → m ≡ n

module _ (c : Controller) (n mobile : ℕ) (any : Channel) (only : IsOnly c n mobile) where
  named_another : (m : ℕ) (o : Option Connection) →
      connection_of c m ≡ o →
      m ≢ n →
      (station : ℕ) (i : Assignment) (information : List ℕ) →
      i.information ≡ information →
      NamesBy o (Station station (rsl.ImmediateAssignCommand i)) →
      NamesAnother mobile (rr_reading information)
  unfolding NamesBy
  named_another m None is differs station i information same names =
      other_named mobile any (record { access = mobile + 1; frame = 0 }) station i information same (names any (record { access = mobile + 1; frame = 0 })) (λ e. absurd (omega (arith, e)))
  named_another m (Some t) is differs station i information same names = other_named mobile t.serving t.request station i information same names (λ e. differs (only m t is e))

  message_another : (m : ℕ) (x : Message) →
      m ≢ n →
      IsSent (out_of m x) →
      NamesBy (connection_of c m) x →
      AssignsAnother mobile (rsl_in (out_of m x).frame)
  unfolding out_of
  message_another m (Station station y) differs sent names =
      let read = read_of m station y sent in
      subst (AssignsAnother mobile) (sym (ap result_ok read.1.reading)) (by read.0 read.1.text) where
        by : (z : Rsl) → rsl_text y ≡ rsl_text z → AssignsAnother mobile (Some z)
        by (rsl.ImmediateAssignCommand j) text =
            let back = assignment_back y j text in
            named_another m (connection_of c m) refl differs station back.0 j.information back.2 (subst (λ (z : Rsl). NamesBy (connection_of c m) (Station station z)) back.1 names)
        by _ text = tt
  message_another m _ differs sent names = tt

  -- by numbers of connections
  pub swap : (Q : ℕ → Out → Type 0) (outs : List Out) →
      ((m : ℕ) → 1 ≤ m → AllByRecursion (λ out. out.conn ≡ m → Q m out) outs) →
      AllByRecursion (λ out. 1 ≤ out.conn → Q out.conn out) outs
  swap Q [] all = tt
  swap Q (o ∷ os) all = (λ least. (all o.conn least).0 refl, swap Q os (λ m least. (all m least).1))

  others_another : (outs : List Out) → AllByRecursion IsSent outs → AllByRecursion IsFrom outs → AllByRecursion (λ out. 1 ≤ out.conn → (x : Message) × (out ≡ out_of out.conn x) × NamesBy (connection_of c out.conn) x) outs
      → AllByRecursion (λ out. out.conn ≢ n → AssignsAnother mobile (rsl_in out.frame)) outs
  others_another [] sent from named = tt
  others_another (o ∷ os) sent from named = ((λ differs. by differs from.0), others_another os sent.1 from.1 named.1) where
    by : o.conn ≢ n → (1 ≤ o.conn) ⊎ (rsl_in o.frame ≡ None) → AssignsAnother mobile (rsl_in o.frame)
    by differs (inr none) = subst (AssignsAnother mobile) (sym none) tt
    by differs (inl least) =
        let own = named.0 least in
        subst (λ (out : Out). AssignsAnother mobile (rsl_in out.frame)) (sym own.1) (message_another o.conn own.0 differs (subst IsSent own.1 sent.0) own.2)

  -- so what a step puts for others assigns no channel to the mobile of the connection
  pub step_another : (st : Step) →
      IsNumbered c →
      AllByRecursion IsSent (step c st).outs →
      ((m : ℕ) → 1 ≤ m → NamesItsMobile m c st) →
      AllByRecursion (λ out. out.conn ≢ n → AssignsAnother mobile (rsl_in out.frame)) (step c st).outs
  step_another st numbered sent names =
      others_another (step c st).outs sent (step_from c st numbered)
      (swap (λ m out. (x : Message) × (out ≡ out_of m x) × NamesBy (connection_of c m) x) (step c st).outs (λ m least. let own = names m least in own_among (NamesBy (connection_of c m)) m (step c st).outs own.put own.outs (all_names (connection_of c m) own.put own.names)))
