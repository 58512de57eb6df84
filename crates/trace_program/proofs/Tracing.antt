-- SPDX-License-Identifier: MIT OR Apache-2.0
-- The part of a trace that is written so far, and how a frame and an event extend it.
use Rattle.std.proofs.Common.{◌≡◌, ℕ, ◌+◌, ◌<◌, ◌≤◌, List, [], ◌∷◌, ◌++◌}
use Rattle.std.proofs.Common.{get_or, length, take, drop, Option, Some, None, refl, sym, ap, subst, ◌∙◌, append_assoc, append-nil, arith}
use Rattle.std.specs.List.{flat_map}
use Rattle.std.specs.Io.KnownBytes.{Appends}
use Rattle.std.proofs.KnownBytes.{Appends-nil, Appends-trans}
use Rattle.std.proofs.lemmas.List.{drop_more, flat_map_more, take_all, take_more}
use Rattle.std.proofs.Math.ListN.{drop_of_length-le}
use Rattle.world_model.specs.declared.event.Event.{Event}
use Rattle.world_model.specs.Life.{actors_after}
use Rattle.world_model.specs.World.{Actors}
use Rattle.world_trace.specs.declared.cause.Cause.{Cause}
use Rattle.world_trace.specs.declared.crossing.Crossing.{Crossing}
use Rattle.world_trace.specs.Causes.{refusal}
use Rattle.world_trace.specs.Crossings.{crossings}
use Rattle.world_trace.specs.declared.fate.Fate.{Fate}
use Rattle.connection_notes.specs.declared.note.Note.{Note}
use Rattle.trace_program.specs.declared.run.Tally.{Tally}
use Rattle.world_trace.specs.Fates.{fate_at}
use Rattle.world_trace.specs.Makings.{made_at}
use Rattle.world_trace.specs.Notes.{notes_at}
use Rattle.std.specs.Prelude.{codes, decimal}
use Rattle.trace_program.specs.TraceLines.{crossing_line, ends_text, event_line, event_lines, frame_text, note_line}
use Rattle.connection_notes.specs.Notes.{number_of}
use Rattle.connection_notes.specs.NoteText.{note_text}
use Rattle.program_base.specs.FirstLine.{behind_line, first_line}
use Rattle.trace_program.specs.Traced.{counted, tally_of, trace_text}

-- four pieces, one behind the other
pub four_written : (one two three four : List ℕ) (before first second third behind : Option (List ℕ)) → Appends before first one
    → Appends first second two → Appends second third three → Appends third behind four
    → Appends before behind (one ++ two ++ three ++ four)
four_written one two three four before first second third behind begins carries_on further ends =
    Appends-trans before third behind (one ++ two ++ three) four
    (Appends-trans before second third (one ++ two) three (Appends-trans before first second one two begins carries_on) further) ends

-- ---- the frames of an event

pub crossings_more : (m number next : ℕ) (fate : Option Fate) (xs : List Crossing) (x : Crossing) (old mid new : Option (List ℕ))
    → Appends old mid (flat_map (crossing_line m number fate) (take next xs)) → next < length xs → x ≡ get_or xs next x
    → Appends mid new (crossing_line m number fate x) → Appends old new (flat_map (crossing_line m number fate) (take (next + 1) xs))
crossings_more m number next fate xs x old mid new some less is line =
    let front : List Crossing = take next xs in
    let longer : front ++ x ∷ [] ≡ take (next + 1) xs = ap (λ (y : Crossing). front ++ y ∷ []) is ∙ sym (take_more xs next x less) in
    subst (Appends old new) (flat_map_more (crossing_line m number fate) [] front x ∙ ap (flat_map (crossing_line m number fate)) longer)
    (Appends-trans old mid new (flat_map (crossing_line m number fate) front) (crossing_line m number fate x) some line)

pub crossings_all : (m number next : ℕ) (fate : Option Fate) (xs : List Crossing) (old new : Option (List ℕ))
    → Appends old new (flat_map (crossing_line m number fate) (take next xs)) → length xs ≤ next
    → Appends old new (flat_map (crossing_line m number fate) xs)
crossings_all m number next fate xs old new some all =
    subst (λ (ys : List Crossing). Appends old new (flat_map (crossing_line m number fate) ys)) (take_all next xs all) some

pub notes_more : (number next : ℕ) (xs : List Note) (spare : Note) (old mid new : Option (List ℕ))
    → Appends old mid (flat_map (note_line number) (take next xs)) → next < length xs
    → Appends mid new (note_line number (get_or xs next spare)) → Appends old new (flat_map (note_line number) (take (next + 1) xs))
notes_more number next xs spare old mid new some less line =
    let front : List Note = take next xs in
    let x : Note = get_or xs next spare in
    let longer : front ++ x ∷ [] ≡ take (next + 1) xs = sym (take_more xs next spare less) in
    subst (Appends old new) (flat_map_more (note_line number) [] front x ∙ ap (flat_map (note_line number)) longer)
    (Appends-trans old mid new (flat_map (note_line number) front) (note_line number x) some line)

pub notes_all : (number next : ℕ) (xs : List Note) (old new : Option (List ℕ))
    → Appends old new (flat_map (note_line number) (take next xs)) → length xs ≤ next → Appends old new (flat_map (note_line number) xs)
notes_all number next xs old new some all = subst (λ (ys : List Note). Appends old new (flat_map (note_line number) ys))
    (take_all next xs all) some

-- the line of a frame, from its two parts
pub line_written : (m number : ℕ) (fate : Option Fate) (crossing : Crossing) (old mid new : Option (List ℕ))
    → Appends old mid (decimal number ++ codes "\t" ++ ends_text crossing.from crossing.to) → Appends mid new (frame_text m fate crossing)
    → Appends old new (crossing_line m number fate crossing)
line_written m number fate crossing old mid new first frame =
    Appends-trans old mid new (decimal number ++ codes "\t" ++ ends_text crossing.from crossing.to) (frame_text m fate crossing) first frame

-- the text of a frame, from what it says and its octets, each behind the words that are written with it
pub frame_written : (name tab column fields number fate word digits read : List ℕ) (old mid new : Option (List ℕ))
    → Appends old mid (name ++ (column ++ fields ++ number)) → column ≡ tab → word ≡ fate ++ codes "\t" → read ≡ digits
    → Appends mid new (word ++ read ++ codes "\n")
    → Appends old new (name ++ (tab ++ fields ++ number ++ fate ++ codes "\t") ++ digits ++ codes "\n")
frame_written name tab column fields number fate word digits read old mid new begun opens is same rest =
    let feed : List ℕ = codes "\n" in
    let said : List ℕ = tab ++ fields ++ number in
    let end : List ℕ = fate ++ codes "\t" in
    let front : List ℕ = name ++ said in
    let joined : front ++ end ≡ name ++ (said ++ end) = append_assoc name said end in
    let spread : said ++ end ≡ said ++ fate ++ codes "\t" = sym (append_assoc said fate (codes "\t")) in
    let first : Appends old mid front = subst (λ (xs : List ℕ). Appends old mid (name ++ (xs ++ fields ++ number))) opens begun in
    let last : word ++ read ++ feed ≡ end ++ digits ++ feed =
    ap (λ (xs : List ℕ). xs ++ read ++ feed) is ∙ ap (λ (xs : List ℕ). end ++ xs ++ feed) same in
    let whole : front ++ (end ++ digits ++ feed) ≡ name ++ (said ++ fate ++ codes "\t") ++ digits ++ feed =
    sym (append_assoc front (end ++ digits) feed) ∙ ap (λ (xs : List ℕ). xs ++ feed) (sym (append_assoc front end digits))
    ∙ ap (λ (xs : List ℕ). xs ++ digits ++ feed) (joined ∙ ap (λ (xs : List ℕ). name ++ xs) spread) in
    subst (Appends old new) (ap (λ (xs : List ℕ). front ++ xs) last ∙ whole)
    (Appends-trans old mid new front (word ++ read ++ feed) first rest)

-- the line of what became of a connection
pub note_written : (number connection : ℕ) (note : Note) (old new : Option (List ℕ)) → connection ≡ number_of note
    → Appends old new (decimal number ++ (codes "\tbsc\tbsc\tconn " ++ (decimal connection ++ (codes "\t" ++ (note_text note ++ codes "\t\n")))))
    → Appends old new (note_line number note)
note_written number connection note old new is text =
    let front : List ℕ = decimal number ++ codes "\tbsc\tbsc\tconn " in
    let end : List ℕ = codes "\t\n" in
    let named : List ℕ = front ++ decimal connection ++ codes "\t" in
    subst (Appends old new)
    (sym (append_assoc (decimal number) (codes "\tbsc\tbsc\tconn ") (decimal connection ++ (codes "\t" ++ (note_text note ++ end))))
    ∙ sym (append_assoc front (decimal connection) (codes "\t" ++ (note_text note ++ end)))
    ∙ sym (append_assoc (front ++ decimal connection) (codes "\t") (note_text note ++ end))
    ∙ sym (append_assoc named (note_text note) end)
    ∙ ap (λ (n : ℕ). front ++ decimal n ++ codes "\t" ++ note_text note ++ end) is)
    text

-- the lines of an event, from its four parts
pub event_written : (m number : ℕ) (line : List ℕ) (why : Option Cause) (fate : Option Fate) (frames made : List Crossing)
    (notes : List Note) (frames_read made_read : List Crossing) (notes_read : List Note)
    (before first second third behind : Option (List ℕ))
    → frames_read ≡ frames → made_read ≡ made → notes_read ≡ notes → Appends before first (event_line number line why)
    → Appends first second (flat_map (crossing_line m number fate) frames_read)
    → Appends second third (flat_map (crossing_line m number None) made_read)
    → Appends third behind (flat_map (note_line number) notes_read)
    → Appends before behind (event_lines m number line why fate frames made notes)
event_written m number line why fate frames made notes frames_read made_read notes_read before first second third behind crossed
    making noted event some more rest =
    four_written (event_line number line why) (flat_map (crossing_line m number fate) frames) (flat_map (crossing_line m number None) made)
    (flat_map (note_line number) notes) before first second third behind event
    (subst (λ (xs : List Crossing). Appends first second (flat_map (crossing_line m number fate) xs)) crossed some)
    (subst (λ (xs : List Crossing). Appends second third (flat_map (crossing_line m number None) xs)) making more)
    (subst (λ (xs : List Note). Appends third behind (flat_map (note_line number) xs)) noted rest)

-- ---- the events so far

-- what is written, with what the events that are left give, is the whole trace
pub record Traces (m : ℕ) (start : Actors) (script : List ℕ) (events : List Event) (w : Actors) (number : ℕ) (rest : List ℕ)
    (left : List Event) (old new : Option (List ℕ)) : Type 0 where
  pub text : List ℕ
  pub written : Appends old new text
  pub whole : text ++ trace_text m w number rest left ≡ trace_text m start 1 script events

pub traces_none : (m : ℕ) (start : Actors) (script : List ℕ) (events : List Event) (old : Option (List ℕ))
    → Traces m start script events start 1 script events old old
traces_none m start script events old = record { text = []; written = Appends-nil old; whole = refl }

-- the lines of an event, from what is known of it
pub lines_of : ℕ → ℕ → List ℕ → Actors → Event → List ℕ
lines_of m number line w event = event_lines m number line (refusal w event) (fate_at w event) (crossings w event) (made_at w event)
    (notes_at w event)

pub lines_are : (m number : ℕ) (w : Actors) (event : Event) (rest line : List ℕ) (why : Option Cause) (fate : Option Fate)
    (frames made : List Crossing) (notes : List Note) → line ≡ first_line rest → why ≡ refusal w event → fate ≡ fate_at w event
    → frames ≡ crossings w event → made ≡ made_at w event → notes ≡ notes_at w event
    → event_lines m number line why fate frames made notes ≡ lines_of m number (first_line rest) w event
unfolding lines_of
lines_are m number w event rest line why fate frames made notes is refused became crossed making noted =
    ap (λ (l : List ℕ). event_lines m number l why fate frames made notes) is
    ∙ ap (λ (o : Option Cause). event_lines m number (first_line rest) o fate frames made notes) refused
    ∙ ap (λ (f : Option Fate). event_lines m number (first_line rest) (refusal w event) f frames made notes) became
    ∙ ap (λ (cs : List Crossing). event_lines m number (first_line rest) (refusal w event) (fate_at w event) cs made notes) crossed
    ∙ ap (λ (cs : List Crossing). event_lines m number (first_line rest) (refusal w event) (fate_at w event) (crossings w event) cs notes)
    making
    ∙ ap (λ (ns : List Note). event_lines m number (first_line rest) (refusal w event) (fate_at w event) (crossings w event)
    (made_at w event) ns) noted

pub traces_more : (m : ℕ) (start : Actors) (script : List ℕ) (events : List Event) (w v : Actors) (number : ℕ) (rest behind text : List ℕ)
    (event : Event) (left others : List Event) (old mid new : Option (List ℕ))
    → Traces m start script events w number rest left old mid → left ≡ event ∷ others → behind ≡ behind_line rest
    → v ≡ actors_after w event → text ≡ lines_of m number (first_line rest) w event
    → Appends mid new text → Traces m start script events v (number + 1) behind others old new
unfolding lines_of
traces_more m start script events w v number rest behind text event left others old mid new some is parts after lines written =
    let more : List ℕ = lines_of m number (first_line rest) w event in
    let here : Appends mid new more = subst (Appends mid new) lines written in
    record {
      text = some.text ++ more;
      written = Appends-trans old mid new some.text more some.written here;
      whole =
          ap (λ (u : Actors). (some.text ++ more) ++ trace_text m u (number + 1) behind others) after
          ∙ ap (λ (xs : List ℕ). (some.text ++ more) ++ trace_text m (actors_after w event) (number + 1) xs others) parts
          ∙ append_assoc some.text more (trace_text m (actors_after w event) (number + 1) (behind_line rest) others)
          ∙ ap (λ (es : List Event). some.text ++ trace_text m w number rest es) (sym is)
          ∙ some.whole;
    }

pub traces_all : (m : ℕ) (start : Actors) (script : List ℕ) (events : List Event) (w : Actors) (number : ℕ) (rest : List ℕ)
    (left : List Event) (old new : Option (List ℕ)) → Traces m start script events w number rest left old new → left ≡ []
    → Appends old new (trace_text m start 1 script events)
traces_all m start script events w number rest left old new some none =
    subst (Appends old new) (sym (append-nil some.text) ∙ ap (λ (es : List Event). some.text ++ trace_text m w number rest es) (sym none) ∙
    some.whole) some.written

-- the events that are left
pub left_more : (events : List Event) (n : ℕ) (event : Event) → n < length events → event ≡ get_or events n event
    → drop n events ≡ event ∷ drop (n + 1) events
left_more events n event less is = drop_more events n event less ∙ ap (λ (e : Event). e ∷ drop (n + 1) events) (sym is)

pub left_none : (events : List Event) (n : ℕ) → length events ≤ n → drop n events ≡ []
left_none events n all = drop_of_length-le events all

-- ---- the tally

pub tally_more : (w v : Actors) (number : ℕ) (event : Event) (left others : List Event) (why : Option Cause) (tally now whole : Tally)
    → tally_of w number left tally ≡ whole → left ≡ event ∷ others → v ≡ actors_after w event → why ≡ refusal w event
    → now ≡ counted why number tally
    → tally_of v (number + 1) others now ≡ whole
tally_more w v number event left others why tally now whole some is after refused counts =
    ap (λ (u : Actors). tally_of u (number + 1) others now) after
    ∙ ap (λ (t : Tally). tally_of (actors_after w event) (number + 1) others t)
    (counts ∙ ap (λ (o : Option Cause). counted o number tally) refused)
    ∙ ap (λ (es : List Event). tally_of w number es tally) (sym is)
    ∙ some

pub counted_below : (why : Option Cause) (number : ℕ) (tally now : Tally) → tally.not_taken < number → now ≡ counted why number tally
    → now.not_taken < number + 1
counted_below None number tally now below is = let same : now.not_taken ≡ tally.not_taken = ap (λ (t : Tally). t.not_taken) is in omega
    (arith, below, same)
counted_below (Some cause) number tally now below is = let same : now.not_taken ≡ tally.not_taken + 1 = ap (λ (t : Tally). t.not_taken) is
    in omega (arith, below, same)
