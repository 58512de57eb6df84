-- SPDX-License-Identifier: MIT OR Apache-2.0
-- A connection begins by the CHANNEL REQUIRED of its mobile, which was first in the inbox.
use Rattle.world_laws.proofs.Prelude.{◌≡◌, ◌≢◌, ℕ, ◌+◌, ◌==◌, ◌≤◌, Bool, true, false, if◌then◌else◌, List, [], ◌∷◌, ◌++◌, find, option_map}
use Rattle.world_laws.proofs.Prelude.{option_to_list, Option, Some, None, refl, sym, ap, ◌∙◌, subst, inl, inr, cases_Bool, cond-true}
use Rattle.world_laws.proofs.Prelude.{cond-false, eqb-true, eq-eqb, Channel, Place, Message, SWITCH_LINK, Input, Connection, Row, is_dtap}
use Rattle.world_laws.proofs.Prelude.{Acts, Brought, ages, takes_row, opens, rests, nothing, connection_of, IsNumbered, step_does, Step}
use Rattle.world_laws.proofs.Prelude.{Take}
use Rattle.world_laws.proofs.Prelude.{Word, Asks, OnChannel, Reports, OnConnection, access_channel, handover_offer}
use Rattle.world_laws.proofs.Prelude.{Controller, Entry, Turn, entry_of, freed, ignoring, turn, with_entry, channel_state, break_of}
use Rattle.world_laws.proofs.Prelude.{by_fitting, concerning, concerning_too, entry_at, frees, given, may_open, measured, measures}
use Rattle.world_laws.proofs.Prelude.{on_decision, on_freed, on_report, on_what, on_word, row_in, step, with_report, rsl_word, sapi_of}
use Rattle.world_laws.proofs.Prelude.{decision_over, Decision, Stay, Frame, Item, What, Rsl, RequestReference, said_by, rsl_in, IsKnownItem}
use Rattle.world_laws.proofs.Prelude.{row_of, remaining_is, break_does, word_asked, IsAskedOf, entry_after, new_entry, word_of}
use Rattle.world_laws.proofs.Prelude.{is_request_of, requests_in}
use Rattle.conn_rules.specs.declared.input.Input.TheVariants as inputs
use Rattle.controller_model.specs.LifeLaws.Acts.Brought.{breaks, passes}
use Rattle.controller_model.specs.declared.step.Step.TheVariants.{Tick}
use Rattle.controller_model.specs.Controller.{has_number, is_up, put_back}
use Rattle.controller_model.specs.Life.{take}
use Rattle.dtap_codec.specs.declared.report.Report.{Report}
use Rattle.controller_model.specs.Decision.TheVariants.{Move}
use Rattle.ruled_relay.specs.declared.item.What.TheVariants as whats
use Rattle.rsl_codec.specs.declared.rsl.Rsl.TheVariants as rsl
use Rattle.world_laws.proofs.OrderHeard.{read_known, word_known, IsPlain, FreesNone, plain_asks, sapi_plain, data_plain, result_plain}

-- ---- which word asks

-- the message of a station whose word asks is the request
asks_is : (source : ℕ) (message : Rsl) (request : RequestReference) (delay : ℕ) →
    rsl_word source message ≡ Asks request delay →
    is_request_of request.access message ≡ true
unfolding IsPlain FreesNone
asks_is source (rsl.ChannelRequired r) request delay is = eq-eqb r.reference.access request.access (let same : r.reference ≡ request = cc in ap (λ (q : RequestReference). q.access) same)
asks_is source (rsl.EstablishIndication e) request delay is = absurd (plain_asks _ request delay (sapi_plain _ (sapi_of e.link) _ (λ s. tt)) is)
asks_is source (rsl.EstablishConfirm l) request delay is = absurd (plain_asks _ request delay (sapi_plain _ (sapi_of l.link) _ (λ s. tt)) is)
asks_is source (rsl.ReleaseIndication l) request delay is = absurd (plain_asks _ request delay (sapi_plain _ (sapi_of l.link) _ (λ s. tt)) is)
asks_is source (rsl.ErrorIndication e) request delay is = absurd (plain_asks _ request delay (sapi_plain _ (sapi_of e.link) _ (λ s. tt)) is)
asks_is source (rsl.DataIndication d) request delay is = absurd (plain_asks _ request delay (data_plain (is_dtap d.l3) _ (sapi_of d.link) d.l3) is)
asks_is source (rsl.MeasurementResult m) request delay is = absurd (plain_asks _ request delay (result_plain _ m.number.0 m.l3) is)
asks_is source (rsl.ChannelActivationNack f) request delay is = absurd cc
asks_is source (rsl.RfChannelReleaseAck channel) request delay is = absurd cc
asks_is source _ request delay is = absurd (plain_asks _ request delay tt is)

asked_of : (source : ℕ) (word : Word) (request : RequestReference) (delay : ℕ) →
    word ≡ Asks request delay →
    IsAskedOf source word →
    source ≢ SWITCH_LINK
asked_of source word request delay is asked = subst (IsAskedOf source) is asked

-- So the frame says a request of this mobile.
pub asking_says : (source : ℕ) (frame : Frame) (request : RequestReference) (delay : ℕ) →
    IsKnownItem (record { source = source; what = whats.Frame frame }) →
    word_of source frame ≡ Asks request delay →
    requests_in request.access (said_by (whats.Frame frame)) ≡ 1
asking_says source frame request delay known is =
    let station : source ≢ SWITCH_LINK = asked_of source (word_of source frame) request delay is (word_asked source frame) in
    let made = known.station station in
    let word : rsl_word source made.0 ≡ Asks request delay = sym (ap (word_of source) made.1 ∙ word_known source made.0 station made.2) ∙ is in
    ap (λ (o : Option Rsl). requests_in request.access (option_to_list o)) (ap rsl_in made.1 ∙ read_known made.0 made.2)
    ∙ ap (λ (b : Bool). (if b then 1 else 0) + 0) (asks_is source made.0 request delay word)

-- ---- no other word makes a connection

-- there is no entry of the number
abbrev IsAbsent : ℕ → List Entry → Type 0
IsAbsent n entries = find (has_number n) entries ≡ None

absent_first : (n : ℕ) (x : Entry) (xs : List Entry) → IsAbsent n (x ∷ xs) → (has_number n x ≡ false) × IsAbsent n xs
absent_first n x xs none = elim (cases_Bool (has_number n x)) [
  | inl hit ↦ absurd (let found : Some x ≡ None = sym (cond-true _ _ _ hit) ∙ none in cc)
  | inr miss ↦ (miss, sym (cond-false _ _ _ miss) ∙ none)
]

absent_back : (n : ℕ) (e : Entry) (xs : List Entry) → IsAbsent n xs → IsAbsent n (put_back e xs)
absent_back n e [] none = none
absent_back n e (x ∷ xs) none =
    let parts = absent_first n x xs none in
    elim (cases_Bool (has_number e.connection.number x)) [
      | inl hit ↦
          let same : x.connection.number ≡ e.connection.number = eqb-true x.connection.number e.connection.number hit in
          subst (IsAbsent n) (sym (cond-true _ _ _ hit)) (elim (remaining_is e.connection.state e) [
            | inl gone ↦ subst (λ (ys : List Entry). IsAbsent n (ys ++ xs)) (sym gone.0) parts.1
            | inr unchanged ↦ subst (λ (ys : List Entry). IsAbsent n (ys ++ xs)) (sym unchanged.0) (cond-false _ _ _ (ap (λ (m : ℕ). m == n) (sym same) ∙ parts.0) ∙ parts.1)
          ])
      | inr miss ↦ subst (IsAbsent n) (sym (cond-false _ _ _ miss)) (cond-false _ _ _ parts.0 ∙ absent_back n e xs parts.1)
    ]

absent_fitting : (n : ℕ) (otherwise : Turn) (e : Entry) (o : Option Row) (c : Controller) →
    IsAbsent n otherwise.next.entries →
    IsAbsent n c.entries →
    IsAbsent n (by_fitting otherwise e o c).next.entries
absent_fitting n otherwise e None c same none = same
absent_fitting n otherwise e (Some r) c same none = absent_back n (entry_after c.settings e r) c.entries none

absent_concerning : (n : ℕ) (input : Input) (c : Controller) (o : Option Entry) →
    IsAbsent n c.entries →
    IsAbsent n (concerning input c o).next.entries
absent_concerning n input c None none = none
absent_concerning n input c (Some e) none = absent_fitting n (ignoring c) e (row_in c e.connection input) c none none

absent_too : (n : ℕ) (input : Input) (c : Controller) (o : Option Entry) →
    IsAbsent n c.entries →
    IsAbsent n (concerning_too input c o).next.entries
absent_too n input c None none = none
absent_too n input c (Some e) none = absent_fitting n (turn [] c) e (row_in c e.connection input) c none none

absent_freed : (n : ℕ) (b : Bool) (at : Place) (input : Input) (c : Controller) (o : Option Entry) →
    IsAbsent n c.entries →
    IsAbsent n (on_freed b at input c o).next.entries
absent_freed n true at input c o none = absent_too n input (freed at c) o none
absent_freed n false at input c o none = absent_concerning n input c o none

absent_decision : (n : ℕ) (d : Decision) (c : Controller) (e : Entry) → IsAbsent n c.entries → IsAbsent n (on_decision d c e).next.entries
absent_decision n Stay c e none = none
absent_decision n (Move cell) c e none = absent_fitting n (turn [] c) e (row_of e.connection inputs.Move (handover_offer c e.connection.serving cell)) c none none

absent_report : (n : ℕ) (at : Place) (number : ℕ) (report : Report) (c : Controller) (o : Option Entry) →
    IsAbsent n c.entries →
    IsAbsent n (on_report at number report c o).next.entries
absent_report n at number report c None none = none
absent_report n at number report c (Some e) none = by (measures at e) where
  by : (b : Bool) → IsAbsent n (if b then measured number report c e else ignoring c).next.entries
  by true = absent_decision n (decision_over (with_report number report e).averages.settings (with_report number report e).averages.reports number) (with_entry (with_report number report e) c) (with_report number report e) (absent_back n (with_report number report e) c.entries none)
  by false = none

absent_none : (n : ℕ) (c : Controller) (t : Connection) → IsAbsent n c.entries → connection_of c n ≡ Some t → ⊥
absent_none n c t none is = let both : None ≡ Some t = sym (ap (option_map (λ (e : Entry). e.connection)) none) ∙ is in absurd cc

absent_of : (o : Option Entry) → option_map (λ (e : Entry). e.connection) o ≡ None → o ≡ None
absent_of None is = refl
absent_of (Some e) is = absurd cc

-- ---- a connection that begins

-- by a frame whose word asks, as the next one
pub record Begins (c : Controller) (s : Step) (n : ℕ) (t : Connection) : Type 0 where
  pub item : Item
  pub is : s ≡ Take item
  pub frame : Frame
  pub frame_is : item.what ≡ whats.Frame frame
  pub delay : ℕ
  pub asks : word_of item.source frame ≡ Asks t.request delay
  pub number : n ≡ c.next_number

-- what the word says of it
record BeginsBy (c : Controller) (word : Word) (n : ℕ) (t : Connection) : Type 0 where
  delay : ℕ
  asks : word ≡ Asks t.request delay
  number : n ≡ c.next_number

found_last : (n : ℕ) (xs : List Entry) (e x : Entry) →
    IsAbsent n xs →
    find (has_number n) (xs ++ e ∷ []) ≡ Some x →
    (e ≡ x) × (e.connection.number ≡ n)
found_last n [] e x none is = elim (cases_Bool (has_number n e)) [
  | inl hit ↦ (let found : Some e ≡ Some x = sym (cond-true _ _ _ hit) ∙ is in cc, eqb-true e.connection.number n hit)
  | inr miss ↦ absurd (let found : None ≡ Some x = sym (cond-false _ _ _ miss) ∙ is in cc)
]
found_last n (y ∷ xs) e x none is =
    let parts = absent_first n y xs none in
    found_last n xs e x parts.1 (sym (cond-false _ _ _ parts.0) ∙ is)

pub entry_is_found : (o : Option Entry) (t : Connection) →
    option_map (λ (e : Entry). e.connection) o ≡ Some t →
    (e : Entry) × (o ≡ Some e) × (e.connection ≡ t)
entry_is_found None t is = absurd cc
entry_is_found (Some e) t is = (e, refl, cc)

given_begins : (c : Controller) (q : RequestReference) (d : ℕ) (o : Option Channel) (n : ℕ) (t : Connection) →
    IsAbsent n c.entries →
    connection_of (given c q d o).next n ≡ Some t →
    BeginsBy c (Asks q d) n t
given_begins c q d None n t none is = absurd (absent_none n c t none is)
given_begins c q d (Some channel) n t none is =
    let found = entry_is_found (find (has_number n) (c.entries ++ new_entry c.settings c.next_number channel q d ∷ [])) t is in
    let last = found_last n c.entries (new_entry c.settings c.next_number channel q d) found.0 none found.1 in
    let same : (new_entry c.settings c.next_number channel q d).connection ≡ t = ap (λ (e : Entry). e.connection) last.0 ∙ found.2 in
    record { delay = d; asks = ap (λ (s : Connection). Asks s.request d) same; number = sym last.1 }

asked_begins : (c : Controller) (station : ℕ) (q : RequestReference) (d : ℕ) (n : ℕ) (t : Connection) (b : Bool) →
    IsAbsent n c.entries →
    connection_of (if b then given c q d (access_channel c station) else ignoring c).next n ≡ Some t →
    BeginsBy c (Asks q d) n t
asked_begins c station q d n t true none is = given_begins c q d (access_channel c station) n t none is
asked_begins c station q d n t false none is = absurd (absent_none n c t none is)

word_begins : (c : Controller) (source : ℕ) (word : Word) (n : ℕ) (t : Connection) →
    IsAbsent n c.entries →
    connection_of (on_word source word c).next n ≡ Some t →
    BeginsBy c word n t
word_begins c source (Asks q d) n t none is = asked_begins c source q d n t (may_open c) none is
word_begins c source (OnChannel at input) n t none is =
    let e : Option Entry = entry_at c (channel_state c at) in
    absurd (absent_none n (on_word source (OnChannel at input) c).next t (absent_freed n (frees (channel_state c at) e input) at input c e none) is)
word_begins c source (Reports at number report) n t none is =
    absurd (absent_none n (on_word source (Reports at number report) c).next t (absent_report n at number report c (entry_at c (channel_state c at)) none) is)
word_begins c source (OnConnection m input) n t none is =
    absurd (absent_none n (on_word source (OnConnection m input) c).next t (absent_concerning n input c (entry_of c m) none) is)
word_begins c source _ n t none is = absurd (absent_none n c t none is)

-- neither a break nor time makes one
none_acts : (number next : ℕ) (up : Bool) (brought : Brought) (after : Option Connection) (put : List Message) (t : Connection) →
    (brought ≡ nothing → ⊥) →
    Acts number next up brought None put after →
    after ≡ Some t →
    ⊥
none_acts number next up brought after put t some (rests silent same none) is = absurd (let both : None ≡ Some t = sym same ∙ is in cc)
none_acts number next up brought after put t some (ages old s is_time was aged silent same) is = absurd cc
none_acts number next up brought after put t some (opens begins linked channel request delay is_nothing none put_is same) is = some is_nothing
none_acts number next up brought after put t some (takes_row old s input offer r was aged by fits put_is same) is = absurd cc

breaks_some : (input : Input) → breaks input ≡ nothing → ⊥
breaks_some input is = absurd cc

passes_some : passes ≡ nothing → ⊥
passes_some is = absurd cc

what_begins : (c : Controller) (up : Bool) (source : ℕ) (what : What) (n : ℕ) (t : Connection) →
    IsNumbered c →
    connection_of c n ≡ None →
    connection_of (on_what up source what c).next n ≡ Some t →
    (frame : Frame) × (what ≡ whats.Frame frame) × BeginsBy c (word_of source frame) n t
what_begins c true source (whats.Frame frame) n t numbered none is = (frame, refl, word_begins c source (word_of source frame) n t (absent_of (entry_of c n) none) is)
what_begins c true source whats.Down n t numbered none is =
    let does = break_does n c.next_number true source c numbered.rising in
    absurd (none_acts n c.next_number true (breaks (break_of source)) (connection_of (on_what true source whats.Down c).next n) does.put t (breaks_some (break_of source))
    (subst (λ (o : Option Connection). Acts n c.next_number true (breaks (break_of source)) o does.put (connection_of (on_what true source whats.Down c).next n)) none does.acts) is)
what_begins c false source what n t numbered none is = absurd (absent_none n c t (absent_of (entry_of c n) none) is)

pub step_begins : (c : Controller) (s : Step) (n : ℕ) (t : Connection) →
    1 ≤ n →
    IsNumbered c →
    connection_of c n ≡ None →
    connection_of (step c s).next n ≡ Some t →
    Begins c s n t
unfolding take
step_begins c (Take item) n t from_one numbered none is =
    let by = what_begins c (is_up c item.source) item.source item.what n t numbered none is in
    record { item = item; is = refl; frame = by.0; frame_is = by.1; delay = by.2.delay; asks = by.2.asks; number = by.2.number }
step_begins c (Tick ms) n t from_one numbered none is =
    let does = step_does n c (Tick ms) from_one numbered in
    absurd (none_acts n c.next_number (is_up c SWITCH_LINK) passes (connection_of (step c (Tick ms)).next n) does.put t passes_some
    (subst (λ (o : Option Connection). Acts n c.next_number (is_up c SWITCH_LINK) passes o does.put (connection_of (step c (Tick ms)).next n)) none does.acts) is)
