-- SPDX-License-Identifier: MIT OR Apache-2.0
-- Lemmas: the texts of a message, a fault and a connection from their parts.
use Rattle.std.proofs.Common.{◌≡◌, ℕ, ◌+◌, ◌-◌, ◌<◌, ◌≤◌, arith, length, Bool, List, [], ◌∷◌, ◌++◌, Option, refl, sym, ap, subst, ◌∙◌, append_assoc}
use Rattle.std.specs.Prelude.{codes, decimal}
use Rattle.std.specs.Io.KnownBytes.{Appends}
use Rattle.std.proofs.KnownBytes.{Appends-trans}
use Rattle.run_judge.specs.declared.connection.Counts.{Counts}
use Rattle.run_judge.specs.declared.connection.Flows.{Flows}
use Rattle.run_judge.specs.declared.connection.Unjudged.{Unjudged}
use Rattle.run_judge.specs.declared.fault.Fault.{Fault}
use Rattle.run_judge.specs.declared.fault.Fault.TheVariants as faults
use Rattle.run_judge.specs.declared.flow.Due.{Due}
use Rattle.run_judge.specs.declared.flow.Order.{Order}
use Rattle.run_judge.specs.declared.flow.Order.TheVariants.{Faulty}
use Rattle.run_judge.specs.ConnectionState.{ConnectionState}
use Rattle.judge_report.specs.declared.direction.Direction.{Direction}
use Rattle.judge_report.specs.declared.direction.Direction.TheVariants.{Up}
use Rattle.judge_report.specs.declared.style.Form.{Form}
use Rattle.judge_report.specs.declared.style.Form.TheVariants.{Text, Tap}
use Rattle.judge_report.specs.declared.style.Strictness.{Strictness}
use Rattle.judge_report.specs.declared.sums.Sums.{Sums}
use Rattle.judge_report.specs.declared.verdict.Outcome.{Outcome}
use Rattle.judge_report.specs.declared.verdict.Outcome.TheVariants as outcomes
use Rattle.judge_report.specs.declared.verdict.Standing.{Standing}
use Rattle.judge_report.specs.ConnectionText.{came_of, connection_text, directive_text, fault_line, fault_lines, first_line, gone_of, has_fault, lead_text, lines_down, lines_up, mark_text, mobile_line, name_text, numbered_of, outside_line, plural_end, point_line, reason_text, reference_digits, standing, standing_text, summary_text, switch_line, switch_text, unjudged_text, up_text}
use Rattle.judge_report.specs.FaultText.{behind_text, due_text, fault_text, goal_text, misplaced_text, origin_text, passed_text}
use Rattle.judge_report.specs.MessageText.{message_text}
use Rattle.judge_report.specs.Sums.{end_text, sums_text}
use Rattle.judge_report.proofs.Writing.{one_written, regroup_behind, regroup_counts, regroup_end, regroup_name, regroup_sums, regroup_three, regroup_two, regroup_up, three_written, two_written}

-- ---- faults

pub due_written : (m : ℕ) (direction : Direction) (d : Due) (words begun message origin : List ℕ) (old a b new : Option (List ℕ))
    → begun ≡ words → message ≡ d.message → origin ≡ origin_text direction → Appends old a begun → Appends a b (message_text m direction message)
    → Appends b new (codes ", " ++ (origin ++ (codes " in frame " ++ decimal d.frame))) → Appends old new (words ++ due_text m direction d)
due_written m direction d words begun message origin old a b new opens is from first second third =
    let text : List ℕ = message_text m direction d.message in
    let rest : List ℕ = codes ", " ++ (origin_text direction ++ (codes " in frame " ++ decimal d.frame)) in
    three_written words text rest (words ++ due_text m direction d) old a b new
    (append_assoc words text rest ∙ ap (λ (xs : List ℕ). words ++ xs) (regroup_behind text (codes ", ") (origin_text direction) (codes " in frame ") (decimal d.frame)))
    (subst (Appends old a) opens first)
    (subst (λ (xs : List ℕ). Appends a b (message_text m direction xs)) is second)
    (subst (λ (xs : List ℕ). Appends b new (codes ", " ++ (xs ++ (codes " in frame " ++ decimal d.frame)))) from third)

pub passed_written : (m frame : ℕ) (direction : Direction) (words begun octets message goal : List ℕ) (old a b new : Option (List ℕ))
    → begun ≡ words → message ≡ octets → goal ≡ goal_text direction → Appends old a begun → Appends a b (message_text m direction message)
    → Appends b new (codes ", " ++ (goal ++ (codes " in frame " ++ decimal frame))) → Appends old new (words ++ passed_text m direction octets frame)
passed_written m frame direction words begun octets message goal old a b new opens is to first second third =
    let text : List ℕ = message_text m direction octets in
    let rest : List ℕ = codes ", " ++ (goal_text direction ++ (codes " in frame " ++ decimal frame)) in
    three_written words text rest (words ++ passed_text m direction octets frame) old a b new
    (append_assoc words text rest ∙ ap (λ (xs : List ℕ). words ++ xs) (regroup_behind text (codes ", ") (goal_text direction) (codes " in frame ") (decimal frame)))
    (subst (Appends old a) opens first)
    (subst (λ (xs : List ℕ). Appends a b (message_text m direction xs)) is second)
    (subst (λ (xs : List ℕ). Appends b new (codes ", " ++ (xs ++ (codes " in frame " ++ decimal frame)))) to third)

pub misplaced_written : (m frame : ℕ) (direction : Direction) (words begun octets message : List ℕ) (old a b new : Option (List ℕ))
    → begun ≡ words → message ≡ octets → Appends old a begun → Appends a b (message_text m direction message)
    → Appends b new (codes ", in frame " ++ decimal frame) → Appends old new (words ++ misplaced_text m direction octets frame)
misplaced_written m frame direction words begun octets message old a b new opens is first second third =
    let text : List ℕ = message_text m direction octets in
    let rest : List ℕ = codes ", in frame " ++ decimal frame in
    three_written words text rest (words ++ misplaced_text m direction octets frame) old a b new
    (append_assoc words text rest ∙ ap (λ (xs : List ℕ). words ++ xs) (regroup_two text (codes ", in frame ") (decimal frame)))
    (subst (Appends old a) opens first) (subst (λ (xs : List ℕ). Appends a b (message_text m direction xs)) is second) third

pub lost_written : (m behind : ℕ) (direction : Direction) (d : Due) (old mid new : Option (List ℕ))
    → Appends old mid (codes "lost       " ++ due_text m direction d) → Appends mid new (codes ", missed in frame " ++ decimal behind)
    → Appends old new (fault_text m direction (faults.Lost d behind))
lost_written m behind direction d old mid new first second =
    two_written (codes "lost       " ++ due_text m direction d) (codes ", missed in frame " ++ decimal behind) (fault_text m direction (faults.Lost d behind))
    old mid new (regroup_two (codes "lost       " ++ due_text m direction d) (codes ", missed in frame ") (decimal behind)) first second

pub overtaken_written : (m behind frame : ℕ) (direction : Direction) (d : Due) (goal : List ℕ) (old mid new : Option (List ℕ))
    → goal ≡ goal_text direction → Appends old mid (codes "overtaken  " ++ due_text m direction d)
    → Appends mid new (codes ", " ++ (goal ++ (codes " in frame " ++ (decimal frame ++ (codes ", behind that of frame " ++ decimal behind)))))
    → Appends old new (fault_text m direction (faults.Overtaken d behind frame))
overtaken_written m behind frame direction d goal old mid new to first second =
    let text : List ℕ = codes "overtaken  " ++ due_text m direction d in
    let last : List ℕ = codes ", behind that of frame " ++ decimal behind in
    let rest : List ℕ = codes ", " ++ (goal_text direction ++ (codes " in frame " ++ (decimal frame ++ last))) in
    two_written text rest (fault_text m direction (faults.Overtaken d behind frame)) old mid new
    (regroup_behind text (codes ", ") (goal_text direction) (codes " in frame ") (decimal frame ++ last)
    ∙ regroup_three (text ++ codes ", " ++ goal_text direction ++ codes " in frame ") (decimal frame) (codes ", behind that of frame ") (decimal behind))
    first
    (subst (λ (xs : List ℕ). Appends mid new (codes ", " ++ (xs ++ (codes " in frame " ++ (decimal frame ++ last))))) to second)

pub doubled_written : (m start frame : ℕ) (direction : Direction) (octets : List ℕ) (old mid new : Option (List ℕ))
    → Appends old mid (codes "doubled    " ++ passed_text m direction octets start) → Appends mid new (codes ", and again in frame " ++ decimal frame)
    → Appends old new (fault_text m direction (faults.Doubled octets start frame))
doubled_written m start frame direction octets old mid new first second =
    let text : List ℕ = codes "doubled    " ++ passed_text m direction octets start in
    two_written text (codes ", and again in frame " ++ decimal frame) (fault_text m direction (faults.Doubled octets start frame))
    old mid new (regroup_two text (codes ", and again in frame ") (decimal frame)) first second

pub changed_written : (m frame : ℕ) (direction : Direction) (d : Due) (octets : List ℕ) (old mid new : Option (List ℕ))
    → Appends old mid (codes "changed    " ++ due_text m direction d) → Appends mid new (codes ", into " ++ passed_text m direction octets frame)
    → Appends old new (fault_text m direction (faults.Changed d octets frame))
changed_written m frame direction d octets old mid new first second =
    let text : List ℕ = codes "changed    " ++ due_text m direction d in
    two_written text (codes ", into " ++ passed_text m direction octets frame) (fault_text m direction (faults.Changed d octets frame))
    old mid new (regroup_two text (codes ", into ") (passed_text m direction octets frame)) first second

-- ---- the first line

pub name_written : (c : ConnectionState) (number : ℕ) (digits : List ℕ) (old a b new : Option (List ℕ)) → number ≡ c.number
    → digits ≡ reference_digits c.reference → Appends old a (codes "connection " ++ (decimal number ++ codes " (reference "))
    → Appends a b digits → Appends b new (codes "): ") → Appends old new (name_text c)
name_written c number digits old a b new is same first second third =
    let begun : List ℕ = codes "connection " ++ (decimal c.number ++ codes " (reference ") in
    three_written begun (reference_digits c.reference) (codes "): ") (name_text c) old a b new
    (regroup_name (codes "connection ") (decimal c.number) (codes " (reference ") (reference_digits c.reference) (codes "): "))
    (subst (λ (n : ℕ). Appends old a (codes "connection " ++ (decimal n ++ codes " (reference "))) is first)
    (subst (Appends a b) same second) third

pub up_written : (channels came gone : ℕ) (stands : Standing) (end ending words : List ℕ) (old a b new : Option (List ℕ))
    → end ≡ plural_end channels → ending ≡ plural_end came → words ≡ standing_text stands
    → Appends old a (decimal channels ++ (codes " channel" ++ (end ++ codes ", ")))
    → Appends a b (decimal came ++ (codes " message" ++ (ending ++ codes " up, ")))
    → Appends b new (decimal gone ++ (codes " at the switch: " ++ words)) → Appends old new (up_text channels came gone stands)
up_written channels came gone stands end ending words old a b new is same are first second third =
    three_written (decimal channels ++ (codes " channel" ++ (plural_end channels ++ codes ", ")))
    (decimal came ++ (codes " message" ++ (plural_end came ++ codes " up, "))) (decimal gone ++ (codes " at the switch: " ++ standing_text stands))
    (up_text channels came gone stands) old a b new
    (regroup_up (decimal channels) (codes " channel") (plural_end channels) (codes ", ") (decimal came) (codes " message") (plural_end came)
    (codes " up, ") (decimal gone) (codes " at the switch: ") (standing_text stands))
    (subst (λ (xs : List ℕ). Appends old a (decimal channels ++ (codes " channel" ++ (xs ++ codes ", ")))) is first)
    (subst (λ (xs : List ℕ). Appends a b (decimal came ++ (codes " message" ++ (xs ++ codes " up, ")))) same second)
    (subst (λ (xs : List ℕ). Appends b new (decimal gone ++ (codes " at the switch: " ++ xs))) are third)

pub summary_written : (c : ConnectionState) (channels came gone : ℕ) (stands : Standing) (old mid new : Option (List ℕ))
    → channels ≡ c.serving.rank + 1 → came ≡ came_of c.up → gone ≡ gone_of c.up → stands ≡ standing c.serving.at.station c.up
    → Appends old mid (name_text c) → Appends mid new (up_text channels came gone stands) → Appends old new (summary_text c)
summary_written c channels came gone stands old mid new many some are is first second =
    two_written (name_text c) (up_text (c.serving.rank + 1) (came_of c.up) (gone_of c.up) (standing c.serving.at.station c.up)) (summary_text c)
    old mid new refl first
    (subst (Appends mid new)
    (ap (λ (n : ℕ). up_text n came gone stands) many ∙ ap (λ (n : ℕ). up_text (c.serving.rank + 1) n gone stands) some
    ∙ ap (λ (n : ℕ). up_text (c.serving.rank + 1) (came_of c.up) n stands) are
    ∙ ap (λ (s : Standing). up_text (c.serving.rank + 1) (came_of c.up) (gone_of c.up) s) is) second)

pub point_written : (found : Outcome) (place : ℕ) (c : ConnectionState) (mark : List ℕ) (old a b new : Option (List ℕ)) → mark ≡ mark_text found
    → Appends old a (mark ++ (decimal place ++ codes " - ")) → Appends a b (summary_text c) → Appends b new (directive_text found)
    → Appends old new (point_line found place c)
point_written found place c mark old a b new is first second third =
    three_written (mark_text found ++ (decimal place ++ codes " - ")) (summary_text c) (directive_text found) (point_line found place c) old a b new
    (regroup_name (mark_text found) (decimal place) (codes " - ") (summary_text c) (directive_text found))
    (subst (λ (xs : List ℕ). Appends old a (xs ++ (decimal place ++ codes " - "))) is first) second third

pub first_line_written : (form : Form) (strictness : Strictness) (place : ℕ) (c : ConnectionState) (old mid new : Option (List ℕ)) → form ≡ Text
    → Appends old mid (summary_text c) → Appends mid new (codes "\n") → Appends old new (first_line form strictness place c)
first_line_written form strictness place c old mid new is first second =
    subst (λ (f : Form). Appends old new (first_line f strictness place c)) (sym is)
    (Appends-trans old mid new (summary_text c) (codes "\n") first second)

-- ---- the other lines

pub counts_written : (numbered : ℕ) (n : Counts) (end : List ℕ) (old mid new : Option (List ℕ)) → end ≡ plural_end numbered
    → Appends old mid (codes "a switch by TS 24.007 accepts " ++ (decimal n.accepted ++ (codes " of " ++ (decimal numbered ++ (codes " numbered message" ++ end)))))
    → Appends mid new (codes ", takes " ++ (decimal n.duplicates ++ (codes " for a duplicate, drops " ++ (decimal n.behind_gap ++ codes " behind a gap\n"))))
    → Appends old new (switch_text numbered n)
counts_written numbered n end old mid new is first second =
    let begun : List ℕ = codes "a switch by TS 24.007 accepts " in
    two_written (begun ++ (decimal n.accepted ++ (codes " of " ++ (decimal numbered ++ (codes " numbered message" ++ plural_end numbered)))))
    (codes ", takes " ++ (decimal n.duplicates ++ (codes " for a duplicate, drops " ++ (decimal n.behind_gap ++ codes " behind a gap\n"))))
    (switch_text numbered n) old mid new
    (regroup_counts begun (decimal n.accepted) (codes " of ") (decimal numbered) (codes " numbered message") (plural_end numbered)
    (codes ", takes ") (decimal n.duplicates) (codes " for a duplicate, drops ") (decimal n.behind_gap) (codes " behind a gap\n"))
    (subst (λ (xs : List ℕ). Appends old mid (begun ++ (decimal n.accepted ++ (codes " of " ++ (decimal numbered ++ (codes " numbered message" ++ xs)))))) is first)
    second

pub switch_written : (form : Form) (n : Counts) (numbered : ℕ) (lead : List ℕ) (old mid new : Option (List ℕ)) → lead ≡ lead_text form
    → numbered ≡ numbered_of n → Appends old mid lead → Appends mid new (switch_text numbered n) → Appends old new (switch_line form n)
switch_written form n numbered lead old mid new is are first second =
    two_written (lead_text form) (switch_text (numbered_of n) n) (switch_line form n) old mid new refl (subst (Appends old mid) is first)
    (subst (λ (k : ℕ). Appends mid new (switch_text k n)) are second)

pub unjudged_written : (u : Unjudged) (frame : ℕ) (reason : List ℕ) (old new : Option (List ℕ)) → frame ≡ u.frame → reason ≡ reason_text u.reason
    → Appends old new (codes "not judged from frame " ++ (decimal frame ++ (codes " on: " ++ reason))) → Appends old new (unjudged_text u)
unjudged_written u frame reason old new is why text =
    one_written (codes "not judged from frame " ++ (decimal frame ++ (codes " on: " ++ reason))) (unjudged_text u) old new
    (ap (λ (n : ℕ). codes "not judged from frame " ++ (decimal n ++ (codes " on: " ++ reason))) is
    ∙ ap (λ (xs : List ℕ). codes "not judged from frame " ++ (decimal u.frame ++ (codes " on: " ++ xs))) why
    ∙ regroup_three (codes "not judged from frame ") (decimal u.frame) (codes " on: ") (reason_text u.reason)) text

-- ---- the sums

pub sums_written : (sums : Sums) (less : ℕ) (end : List ℕ) (old mid new : Option (List ℕ)) → end ≡ plural_end sums.printed
    → less ≡ sums.printed - sums.blamed
    → Appends old mid (decimal sums.printed ++ (codes " connection" ++ (end ++ (codes ": " ++ (decimal less ++ codes " in order, ")))))
    → Appends mid new (decimal sums.blamed ++ (codes " not, " ++ (decimal sums.unjudged ++ codes " not judged to the end\n")))
    → Appends old new (sums_text sums)
sums_written sums less end old mid new is few first second =
    let rest : ℕ = sums.printed - sums.blamed in
    two_written (decimal sums.printed ++ (codes " connection" ++ (plural_end sums.printed ++ (codes ": " ++ (decimal rest ++ codes " in order, ")))))
    (decimal sums.blamed ++ (codes " not, " ++ (decimal sums.unjudged ++ codes " not judged to the end\n"))) (sums_text sums) old mid new
    (regroup_sums (decimal sums.printed) (codes " connection") (plural_end sums.printed) (codes ": ") (decimal rest) (codes " in order, ")
    (decimal sums.blamed) (codes " not, ") (decimal sums.unjudged) (codes " not judged to the end\n"))
    (subst (λ (n : ℕ). Appends old mid (decimal sums.printed ++ (codes " connection" ++ (plural_end sums.printed ++ (codes ": " ++ (decimal n ++ codes " in order, ")))))) few
    (subst (λ (xs : List ℕ). Appends old mid (decimal sums.printed ++ (codes " connection" ++ (xs ++ (codes ": " ++ (decimal less ++ codes " in order, ")))))) is first))
    second

pub end_written : (form : Form) (sums : Sums) (old a b new : Option (List ℕ)) → form ≡ Tap → Appends old a (codes "# ") → Appends a b (sums_text sums)
    → Appends b new (codes "1.." ++ (decimal sums.printed ++ codes "\n")) → Appends old new (end_text form sums)
end_written form sums old a b new is first second third =
    subst (λ (f : Form). Appends old new (end_text f sums)) (sym is)
    (three_written (codes "# ") (sums_text sums) (codes "1.." ++ (decimal sums.printed ++ codes "\n")) (end_text Tap sums) old a b new
    (regroup_end (codes "# ") (sums_text sums) (codes "1..") (decimal sums.printed) (codes "\n")) first second third)

-- ---- the lines of a connection

pub fault_line_written : (m : ℕ) (form : Form) (direction : Direction) (order : Order) (fault : Fault) (lead : List ℕ) (old a b new : Option (List ℕ))
    → order ≡ Faulty fault → lead ≡ lead_text form → Appends old a lead → Appends a b (fault_text m direction fault) → Appends b new (codes "\n")
    → Appends old new (fault_line m form direction order)
fault_line_written m form direction order fault lead old a b new is opens first second third =
    subst (λ (o : Order). Appends old new (fault_line m form direction o)) (sym is)
    (three_written (lead_text form) (fault_text m direction fault) (codes "\n") (fault_line m form direction (Faulty fault)) old a b new refl
    (subst (Appends old a) opens first) second third)

pub fault_lines_written : (m : ℕ) (form : Form) (direction : Direction) (flows : Flows) (zero three : Order) (old mid new : Option (List ℕ))
    → zero ≡ flows.zero.order → three ≡ flows.three.order → Appends old mid (fault_line m form direction zero)
    → Appends mid new (fault_line m form direction three) → Appends old new (fault_lines m form direction flows)
fault_lines_written m form direction flows zero three old mid new is same first second =
    two_written (fault_line m form direction flows.zero.order) (fault_line m form direction flows.three.order) (fault_lines m form direction flows)
    old mid new refl (subst (λ (o : Order). Appends old mid (fault_line m form direction o)) is first)
    (subst (λ (o : Order). Appends mid new (fault_line m form direction o)) same second)

pub lines_up_written : (m : ℕ) (form : Form) (c : ConnectionState) (has : Bool) (old a b d new : Option (List ℕ)) → has ≡ has_fault c.up
    → Appends old a (fault_lines m form Up c.up) → Appends a b (outside_line form c.outside) → Appends b d (mobile_line form has c.mobile)
    → Appends d new (switch_line form c.counts) → Appends old new (lines_up m form c)
lines_up_written m form c has old a b d new is first second third fourth =
    Appends-trans old d new (fault_lines m form Up c.up ++ outside_line form c.outside ++ mobile_line form (has_fault c.up) c.mobile)
    (switch_line form c.counts)
    (Appends-trans old b d (fault_lines m form Up c.up ++ outside_line form c.outside) (mobile_line form (has_fault c.up) c.mobile)
    (Appends-trans old a b (fault_lines m form Up c.up) (outside_line form c.outside) first second)
    (subst (λ (x : Bool). Appends b d (mobile_line form x c.mobile)) is third))
    fourth

pub connection_written : (m : ℕ) (form : Form) (strictness : Strictness) (place : ℕ) (c : ConnectionState) (old a b new : Option (List ℕ))
    → Appends old a (first_line form strictness place c) → Appends a b (lines_up m form c) → Appends b new (lines_down m form c)
    → Appends old new (connection_text m form strictness place c)
connection_written m form strictness place c old a b new first second third =
    three_written (first_line form strictness place c) (lines_up m form c) (lines_down m form c) (connection_text m form strictness place c)
    old a b new refl first second third

-- ---- choices

pub directive_written : (found : Outcome) (u : Unjudged) (old a b new : Option (List ℕ)) → found ≡ outcomes.Skips u
    → Appends old a (codes " # SKIP ") → Appends a b (unjudged_text u) → Appends b new (codes "\n") → Appends old new (directive_text found)
directive_written found u old a b new is first second third =
    subst (λ (o : Outcome). Appends old new (directive_text o)) (sym is)
    (three_written (codes " # SKIP ") (unjudged_text u) (codes "\n") (directive_text (outcomes.Skips u)) old a b new refl first second third)

pub behind_empty : (m frame : ℕ) (direction : Direction) (octets begun : List ℕ) (old mid new : Option (List ℕ)) → length octets < 1
    → begun ≡ codes "sent behind CLEAR COMPLETE " → Appends old mid begun → Appends mid new (codes "in frame " ++ decimal frame)
    → Appends old new (codes "sent behind CLEAR COMPLETE " ++ behind_text m direction octets frame)
behind_empty m frame direction [] begun old mid new none opens first second =
    two_written (codes "sent behind CLEAR COMPLETE ") (codes "in frame " ++ decimal frame)
    (codes "sent behind CLEAR COMPLETE " ++ behind_text m direction [] frame) old mid new refl (subst (Appends old mid) opens first) second
behind_empty m frame direction (octet ∷ octets) begun old mid new none opens first second = absurd (omega arith)

pub behind_message : (m frame : ℕ) (direction : Direction) (octets : List ℕ) (old new : Option (List ℕ)) → 1 ≤ length octets
    → Appends old new (codes "sent behind CLEAR COMPLETE " ++ misplaced_text m direction octets frame)
    → Appends old new (codes "sent behind CLEAR COMPLETE " ++ behind_text m direction octets frame)
behind_message m frame direction [] old new some text = absurd (omega arith)
behind_message m frame direction (octet ∷ octets) old new some text = text

-- what is written of the fields of a connection
pub lines_up_as : (m : ℕ) (form : Form) (s c : ConnectionState) (has : Bool) (old a b d new : Option (List ℕ)) → s ≡ c → has ≡ has_fault s.up
    → Appends old a (fault_lines m form Up s.up) → Appends a b (outside_line form s.outside) → Appends b d (mobile_line form has s.mobile)
    → Appends d new (switch_line form s.counts) → Appends old new (lines_up m form c)
lines_up_as m form s c has old a b d new same is first second third fourth =
    subst (λ (t : ConnectionState). Appends old new (lines_up m form t)) same
    (lines_up_written m form s has old a b d new is first second third fourth)

pub summary_as : (s c : ConnectionState) (channels came gone : ℕ) (stands : Standing) (old mid new : Option (List ℕ)) → s ≡ c
    → channels ≡ s.serving.rank + 1 → came ≡ came_of s.up → gone ≡ gone_of s.up → stands ≡ standing s.serving.at.station s.up
    → Appends old mid (name_text c) → Appends mid new (up_text channels came gone stands) → Appends old new (summary_text c)
summary_as s c channels came gone stands old mid new same many some are is first second =
    summary_written c channels came gone stands old mid new (many ∙ ap (λ (t : ConnectionState). t.serving.rank + 1) same)
    (some ∙ ap (λ (t : ConnectionState). came_of t.up) same) (are ∙ ap (λ (t : ConnectionState). gone_of t.up) same)
    (is ∙ ap (λ (t : ConnectionState). standing t.serving.at.station t.up) same) first second
