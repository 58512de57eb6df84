-- SPDX-License-Identifier: MIT OR Apache-2.0
-- Lemmas: texts that are written piece by piece; the pieces of one write associate to the right.
use Rattle.std.proofs.Common.{◌≡◌, ℕ, List, ◌++◌, Option, sym, subst, append_assoc}
use Rattle.std.specs.Io.KnownBytes.{Appends}
use Rattle.std.proofs.KnownBytes.{Appends-trans}

-- ---- one text behind another

pub two_written : (one two whole : List ℕ) (old mid new : Option (List ℕ)) → one ++ two ≡ whole → Appends old mid one → Appends mid new two
    → Appends old new whole
two_written one two whole old mid new is first second = subst (Appends old new) is (Appends-trans old mid new one two first second)

pub three_written : (one two three whole : List ℕ) (old mid late new : Option (List ℕ)) → (one ++ two) ++ three ≡ whole → Appends old mid one
    → Appends mid late two → Appends late new three → Appends old new whole
three_written one two three whole old mid late new is first second third =
    two_written (one ++ two) three whole old late new is (Appends-trans old mid late one two first second) third

pub one_written : (one whole : List ℕ) (old new : Option (List ℕ)) → one ≡ whole → Appends old new one → Appends old new whole
one_written one whole old new is first = subst (Appends old new) is first

-- ---- how pieces are grouped

pub regroup_two : (a b c : List ℕ) → a ++ (b ++ c) ≡ a ++ b ++ c
regroup_two a b c = sym (append_assoc a b c)

pub regroup_three : (a b c d : List ℕ) → a ++ (b ++ (c ++ d)) ≡ a ++ b ++ c ++ d
regroup_three a b c d = simp append_assoc

pub regroup_late : (a b c d : List ℕ) → (a ++ (b ++ c)) ++ d ≡ a ++ b ++ c ++ d
regroup_late a b c d = simp append_assoc

pub regroup_name : (a b c d e : List ℕ) → ((a ++ (b ++ c)) ++ d) ++ e ≡ a ++ b ++ c ++ d ++ e
regroup_name a b c d e = simp append_assoc

pub regroup_up : (a b c d e f g h i j k : List ℕ) → ((a ++ (b ++ (c ++ d))) ++ (e ++ (f ++ (g ++ h)))) ++ (i ++ (j ++ k))
    ≡ a ++ b ++ c ++ d ++ e ++ f ++ g ++ h ++ i ++ j ++ k
regroup_up a b c d e f g h i j k = simp append_assoc

pub regroup_counts : (a b c d e f g h i j k : List ℕ) → (a ++ (b ++ (c ++ (d ++ (e ++ f))))) ++ (g ++ (h ++ (i ++ (j ++ k))))
    ≡ a ++ b ++ c ++ d ++ e ++ f ++ g ++ h ++ i ++ j ++ k
regroup_counts a b c d e f g h i j k = simp append_assoc

pub regroup_sums : (a b c d e f g h i j : List ℕ) → (a ++ (b ++ (c ++ (d ++ (e ++ f))))) ++ (g ++ (h ++ (i ++ j)))
    ≡ a ++ b ++ c ++ d ++ e ++ f ++ g ++ h ++ i ++ j
regroup_sums a b c d e f g h i j = simp append_assoc

pub regroup_behind : (a b c d e : List ℕ) → a ++ (b ++ (c ++ (d ++ e))) ≡ a ++ b ++ c ++ d ++ e
regroup_behind a b c d e = simp append_assoc

pub regroup_end : (a b c d e : List ℕ) → (a ++ b) ++ (c ++ (d ++ e)) ≡ a ++ b ++ c ++ d ++ e
regroup_end a b c d e = simp append_assoc
