-- SPDX-License-Identifier: MIT OR Apache-2.0
-- A frame leaves all connections as they are, except the one that it concerns.
use Rattle.controller_model.proofs.Prelude.{◌≡◌, ◌≢◌, ℕ, ◌≤◌, Bool, true, false, if◌then◌else◌, List, [], ◌∷◌, Contains, Option, Some, None}
use Rattle.controller_model.proofs.Prelude.{option_map, refl, sym, subst, ap, ◌∙◌, arith, cond-false, ne_eqb, Channel, Place}
use Rattle.controller_model.proofs.Prelude.{access_activation, Input, Row, Report, Decision, Stay, Move, Frame, RequestReference}
use Rattle.controller_model.proofs.Prelude.{AreAllowed, Parameters, ◌↔◌, FrameLeaves, connection_of, outs_for, AreUsed, used_places}
use Rattle.controller_model.proofs.Prelude.{ChannelState, Free, InUse, Releasing, Step, Take, Word, Nothing, Ping, Asks, OnChannel, Reports}
use Rattle.controller_model.proofs.Prelude.{OnConnection, access_channel, Controller, Entry, Turn, turn, ignoring, entry_of, freed}
use Rattle.controller_model.proofs.Prelude.{with_entry, channel_state, holder, is_up, by_fitting, concerning, concerning_too, entry_at}
use Rattle.controller_model.proofs.Prelude.{frees, given, life, may_open, measured, measures, on_decision, on_freed, on_report, on_state}
use Rattle.controller_model.proofs.Prelude.{on_what, on_word, row_in, step, with_report, Leaves, concerned, word_of, decision_over}
use Rattle.controller_model.proofs.LifeLaws.Acting.{outs_other}
use Rattle.controller_model.proofs.LifeLaws.Entries.{found_number}
use Rattle.controller_model.proofs.LifeLaws.Keeping.{Keeps, keeps_same, word_keeps}
use Rattle.controller_model.proofs.LifeLaws.UsingLife.{life_after, ready_by, ready_uses, run_step}
use Rattle.controller_model.proofs.LifeLaws.UsingWords.{Ready}
use Rattle.controller_model.proofs.Others.{word_leaves}
use Rattle.controller_model.specs.Life.{take}
use Rattle.ruled_relay.specs.declared.item.What.TheVariants as whats

-- ---- nothing is put for it

fitting_silent : (n : ℕ) (c : Controller) (otherwise : Turn) (e : Entry) (o : Option Row) →
    n ≢ e.connection.number →
    outs_for n otherwise.outs ≡ [] →
    outs_for n (by_fitting otherwise e o c).outs ≡ []
fitting_silent n c otherwise e None differ silent = silent
fitting_silent n c otherwise e (Some r) differ silent = outs_other n e.connection.number r.outs differ

differs : (n m : ℕ) (c : Controller) (e : Entry) → n ≢ m → entry_of c m ≡ Some e → n ≢ e.connection.number
differs n m c e differ there same = differ (same ∙ found_number m c.entries e there)

concerning_silent : (n m : ℕ) (input : Input) (c : Controller) (o : Option Entry) →
    n ≢ m →
    entry_of c m ≡ o →
    outs_for n (concerning input c o).outs ≡ []
concerning_silent n m input c None differ there = refl
concerning_silent n m input c (Some e) differ there = fitting_silent n c (ignoring c) e (row_in c e.connection input) (differs n m c e differ there) refl

too_silent : (n m : ℕ) (input : Input) (c : Controller) (o : Option Entry) →
    n ≢ m →
    entry_of c m ≡ o →
    outs_for n (concerning_too input c o).outs ≡ []
too_silent n m input c None differ there = refl
too_silent n m input c (Some e) differ there = fitting_silent n c (turn [] c) e (row_in c e.connection input) (differs n m c e differ there) refl

freed_silent : (n m : ℕ) (b : Bool) (at : Place) (input : Input) (c : Controller) (o : Option Entry) →
    n ≢ m →
    entry_of c m ≡ o →
    outs_for n (on_freed b at input c o).outs ≡ []
freed_silent n m true at input c o differ there = too_silent n m input (freed at c) o differ there
freed_silent n m false at input c o differ there = concerning_silent n m input c o differ there

free_silent : (n : ℕ) (b : Bool) (at : Place) (input : Input) (c : Controller) → outs_for n (on_freed b at input c None).outs ≡ []
free_silent n true at input c = refl
free_silent n false at input c = refl

channel_silent : (n : ℕ) (at : Place) (input : Input) (c : Controller) (state : ChannelState) →
    holder state ≢ Some n →
    outs_for n (on_state state at input c (entry_at c state)).outs ≡ []
channel_silent n at input c Free differ = free_silent n (frees Free None input) at input c
channel_silent n at input c (InUse m) differ = freed_silent n m (frees (InUse m) (entry_of c m) input) at input c (entry_of c m) (λ same. differ (ap (λ (k : ℕ). Some k) (sym same))) refl
channel_silent n at input c (Releasing m) differ = freed_silent n m (frees (Releasing m) (entry_of c m) input) at input c (entry_of c m) (λ same. differ (ap (λ (k : ℕ). Some k) (sym same))) refl

given_silent : (n : ℕ) (c : Controller) (request : RequestReference) (delay : ℕ) (o : Option Channel) →
    n ≢ c.next_number →
    outs_for n (given c request delay o).outs ≡ []
given_silent n c request delay None differ = refl
given_silent n c request delay (Some channel) differ = outs_other n c.next_number (access_activation channel ∷ []) differ

if_silent : (n : ℕ) (b : Bool) (c : Controller) (t : Turn) → outs_for n t.outs ≡ [] → outs_for n (if b then t else ignoring c).outs ≡ []
if_silent n true c t silent = silent
if_silent n false c t silent = refl

decision_silent : (n : ℕ) (d : Decision) (c : Controller) (e : Entry) → n ≢ e.connection.number → outs_for n (on_decision d c e).outs ≡ []
decision_silent n Stay c e differ = refl
decision_silent n (Move cell) c e differ = fitting_silent n c (turn [] c) e _ differ refl

report_silent : (n m : ℕ) (at : Place) (of : ℕ) (report : Report) (c : Controller) (o : Option Entry) →
    n ≢ m →
    entry_of c m ≡ o →
    outs_for n (on_report at of report c o).outs ≡ []
report_silent n m at of report c None differ there = refl
report_silent n m at of report c (Some e) differ there =
    let put : Entry = with_report of report e in
    if_silent n (measures at e) c (measured of report c e) (decision_silent n (decision_over put.averages.settings put.averages.reports of) (with_entry put c) put (differs n m c e differ there))

report_on_silent : (n : ℕ) (at : Place) (of : ℕ) (report : Report) (c : Controller) (state : ChannelState) →
    holder state ≢ Some n →
    outs_for n (on_report at of report c (entry_at c state)).outs ≡ []
report_on_silent n at of report c Free differ = refl
report_on_silent n at of report c (InUse m) differ = report_silent n m at of report c (entry_of c m) (λ same. differ (ap (λ (k : ℕ). Some k) (sym same))) refl
report_on_silent n at of report c (Releasing m) differ = report_silent n m at of report c (entry_of c m) (λ same. differ (ap (λ (k : ℕ). Some k) (sym same))) refl

word_silent : (n source : ℕ) (word : Word) (c : Controller) →
    (word ≡ Ping → 1 ≤ n) →
    concerned c word ≢ Some n →
    outs_for n (on_word source word c).outs ≡ []
word_silent n source Nothing c from_one differ = refl
word_silent n source Ping c from_one differ = let first = from_one refl in cond-false _ _ _ (ne_eqb 0 n (λ same. absurd (omega arith)))
word_silent n source (Asks request delay) c from_one differ =
    if_silent n (may_open c) c (given c request delay (access_channel c source)) (given_silent n c request delay (access_channel c source) (λ same. differ (ap (λ (k : ℕ). Some k) (sym same))))
word_silent n source (OnChannel at input) c from_one differ = channel_silent n at input c (channel_state c at) differ
word_silent n source (Reports at of report) c from_one differ = report_on_silent n at of report c (channel_state c at) differ
word_silent n source (OnConnection m input) c from_one differ = concerning_silent n m input c (entry_of c m) (λ same. differ (ap (λ (k : ℕ). Some k) (sym same))) refl

-- ---- a frame of a link that is up, or ignored

frame_entry : (up : Bool) (n source : ℕ) (frame : Frame) (c : Controller) →
    concerned c (word_of source frame) ≢ Some n →
    Leaves n c (on_what up source (whats.Frame frame) c).next
frame_entry true n source frame c differ = word_leaves n source (word_of source frame) c differ
frame_entry false n source frame c differ = refl

pub frame_silent : (up : Bool) (n source : ℕ) (frame : Frame) (c : Controller) →
    (word_of source frame ≡ Ping → 1 ≤ n) →
    concerned c (word_of source frame) ≢ Some n →
    outs_for n (on_what up source (whats.Frame frame) c).outs ≡ []
frame_silent true n source frame c from_one differ = word_silent n source (word_of source frame) c from_one differ
frame_silent false n source frame c from_one differ = refl

frame_keeps : (up : Bool) (n source : ℕ) (frame : Frame) (c : Controller) →
    Ready c →
    concerned c (word_of source frame) ≢ Some n →
    Keeps n c.channels (on_what up source (whats.Frame frame) c).next.channels
frame_keeps true n source frame c ready differ = word_keeps n source (word_of source frame) c differ ready
frame_keeps false n source frame c ready differ = keeps_same n c.channels

same_channels : (n : ℕ) (c next : Controller) →
    AreUsed c →
    AreUsed next →
    Leaves n c next →
    (at : Place) →
    channel_state next at ≡ InUse n ↔ channel_state c at ≡ InUse n
same_channels n c next before after leaves at =
    let same : used_places (connection_of next n) ≡ used_places (connection_of c n) = ap (λ (o : Option Entry). used_places (option_map (λ (e : Entry). e.connection) o)) leaves in (
      λ is. (before.using at n).1 (subst (λ (ps : List Place). Contains ps at) same ((after.using at n).0 is)),
      λ is. (after.using at n).1 (subst (λ (ps : List Place). Contains ps at) (sym same) ((before.using at n).0 is)),
    )

pub frame_leaves : (p : Parameters) (steps : List Step) (n source : ℕ) (frame : Frame) →
    AreAllowed p →
    1 ≤ n →
    FrameLeaves n (life p steps).next source frame
unfolding take
frame_leaves p steps n source frame allowed from_one differ =
    let c : Controller = (life p steps).next in
    let s : Step = Take (record { source = source; what = whats.Frame frame }) in
    let now = life_after p steps allowed in
    let after = run_step c s now.fits now.holds now.uses in
    let ready = ready_by c now.fits now.holds now.uses in
    let keeps = frame_keeps (is_up c source) n source frame c ready differ in
    let leaves : Leaves n c (step c s).next = frame_entry (is_up c source) n source frame c differ in
    record {
      entry = leaves;
      outs = frame_silent (is_up c source) n source frame c (λ is. from_one) differ;
      using = same_channels n c (step c s).next (ready_uses c ready) (ready_uses (step c s).next (ready_by (step c s).next after.fits after.holds after.uses)) leaves;
      releasing = λ at. (λ is. keeps.was at is, λ is. keeps.still at is);
    }
