-- SPDX-License-Identifier: MIT OR Apache-2.0
-- Entries listed by an index: look-ups, and how a write to one slot changes the list.
use Rattle.std.proofs.Common.{◌≡◌, ◌≢◌, ℕ, zero, suc, ◌==◌, ◌||◌, Bool, true, false, if◌then◌else◌, List, [], ◌∷◌, ◌++◌, length, map, find, slice_get, Option, Some, None, option_map, refl, sym, subst, ap, ◌∙◌, inl, inr, arith, append_assoc, eqb-true}
use Rattle.std.specs.Option.{option_to_list, option_and_then}
use Rattle.std.specs.Map.{lookup, remove_entry}
use Rattle.std.proofs.lemmas.Bool.{cases_Bool, eq-eqb, eqb-false, false_from_ne_true, false≢true, or_parts, or_left, or_right, or_from}
use Rattle.controller_model.specs.Controller.{Entry, has_number, put_back, remaining}
use Rattle.connections.specs.Entries.{is_removed}
use Rattle.connections.specs.Index.{at, listed, HasNumber, is_key, IsIndex, SameBut}

-- ---- look-ups

same_test : (n k : ℕ) → (k == n) ≡ (n == k)
same_test n k = grind arith

-- a number beside its key is that of the entry
has_same : (n number : ℕ) (e : Entry) → e.connection.number ≡ number → has_number n e ≡ (n == number)
has_same n number e is = ap (λ (k : ℕ). k == n) is ∙ same_test n number

find_first : (n number : ℕ) (o : Option Entry) (rest : List Entry) → HasNumber number o →
    find (has_number n) (option_to_list o ++ rest) ≡ (if n == number then o else find (has_number n) rest)
find_first n number (Some e) rest is = ap (λ b. if b then Some e else find (has_number n) rest) (has_same n number e is.0)
find_first n number None rest is = absurd is

looked_up : (b : Bool) (slots : List (Option Entry)) (key : ℕ) (o : Option ℕ) →
    (if b then at slots key else option_and_then (at slots) o) ≡ option_and_then (at slots) (if b then Some key else o)
looked_up true slots key o = refl
looked_up false slots key o = refl

-- the search in the list is the look-up in the index
pub find_listed : (slots : List (Option Entry)) (ps : List (ℕ × ℕ)) (n : ℕ) → IsIndex slots ps →
    find (has_number n) (listed slots ps) ≡ option_and_then (at slots) (lookup (λ k. n == k) ps)
find_listed slots [] n index = refl
find_listed slots (p ∷ ps) n index =
    find_first n p.0 (at slots p.1) (listed slots ps) index.0
    ∙ ap (λ o. if n == p.0 then at slots p.1 else o) (find_listed slots ps n index.2)
    ∙ looked_up (n == p.0) slots p.1 (lookup (λ k. n == k) ps)

get_first : (number : ℕ) (o : Option Entry) (rest : List Entry) → HasNumber number o → slice_get (option_to_list o ++ rest) 0 ≡ o
get_first number (Some e) rest is = refl
get_first number None rest is = absurd is

get_behind : (number : ℕ) (o : Option Entry) (rest : List Entry) (place : ℕ) →
    HasNumber number o →
    slice_get (option_to_list o ++ rest) (suc place) ≡ slice_get rest place
get_behind number (Some e) rest place is = refl
get_behind number None rest place is = absurd is

-- the entry at a place is that of the index's place
pub get_listed : (slots : List (Option Entry)) (ps : List (ℕ × ℕ)) (place : ℕ) → IsIndex slots ps →
    slice_get (listed slots ps) place ≡ option_and_then (λ (p : ℕ × ℕ). at slots p.1) (slice_get ps place)
get_listed slots [] place index = refl
get_listed slots (p ∷ ps) zero index = get_first p.0 (at slots p.1) (listed slots ps) index.0
get_listed slots (p ∷ ps) (suc place) index = get_behind p.0 (at slots p.1) (listed slots ps) place index.0 ∙ get_listed slots ps place index.2

length_first : (number : ℕ) (o : Option Entry) (rest : List Entry) →
    HasNumber number o →
    length (option_to_list o ++ rest) ≡ suc (length rest)
length_first number (Some e) rest is = refl
length_first number None rest is = absurd is

-- what has the key that a place has
pub behind_key : (slots : List (Option Entry)) (o : Option (ℕ × ℕ)) →
    option_and_then (at slots) (option_map (λ (p : ℕ × ℕ). p.1) o) ≡ option_and_then (λ (p : ℕ × ℕ). at slots p.1) o
behind_key slots (Some p) = refl
behind_key slots None = refl

pub length-listed : (slots : List (Option Entry)) (ps : List (ℕ × ℕ)) → IsIndex slots ps → length (listed slots ps) ≡ length ps
length-listed slots [] index = refl
length-listed slots (p ∷ ps) index = length_first p.0 (at slots p.1) (listed slots ps) index.0 ∙ ap (λ (n : ℕ). suc n) (length-listed slots ps index.2)

-- ---- slots that other keys have

not_first : (k key : ℕ) (b : Bool) → ((k == key) || b) ≡ false → k ≢ key
not_first k key b none same = false≢true (sym (or_parts (k == key) b none).0 ∙ eq-eqb k key same)

pub listed_others : (old new : List (Option Entry)) (key : ℕ) (ps : List (ℕ × ℕ)) →
    SameBut key old new →
    is_key key ps ≡ false →
    listed new ps ≡ listed old ps
listed_others old new key [] same none = refl
listed_others old new key (p ∷ ps) same none =
    ap (λ o. option_to_list o ++ listed new ps) (same p.1 (not_first p.1 key (is_key key ps) none))
    ∙ ap (λ es. option_to_list (at old p.1) ++ es) (listed_others old new key ps same (or_parts (p.1 == key) (is_key key ps) none).1)

pub index_others : (old new : List (Option Entry)) (key : ℕ) (ps : List (ℕ × ℕ)) →
    SameBut key old new →
    is_key key ps ≡ false →
    IsIndex old ps →
    IsIndex new ps
index_others old new key [] same none index = tt
index_others old new key (p ∷ ps) same none index = (
  subst (HasNumber p.0) (sym (same p.1 (not_first p.1 key (is_key key ps) none))) index.0,
  index.1,
  index_others old new key ps same (or_parts (p.1 == key) (is_key key ps) none).1 index.2,
)

-- what a key has that is of the index
pub is_listed : (ps : List (ℕ × ℕ)) (n key : ℕ) → lookup (λ k. n == k) ps ≡ Some key → is_key key ps ≡ true
is_listed [] n key found = absurd cc
is_listed (p ∷ ps) n key found =
    elim (cases_Bool (n == p.0)) [
      | inl hit ↦
          let here : Some p.1 ≡ Some key = sym (ap (λ b. if b then Some p.1 else lookup (λ k. n == k) ps) hit) ∙ found in
          let same : p.1 ≡ key = cc in
          or_left (p.1 == key) (is_key key ps) (eq-eqb p.1 key same)
      | inr miss ↦
          let there : lookup (λ k. n == k) ps ≡ Some key = sym (ap (λ b. if b then Some p.1 else lookup (λ k. n == k) ps) miss) ∙ found in
          or_right (p.1 == key) (is_key key ps) (is_listed ps n key there)
    ]

-- the key of a number further on is another than the first
is_other_key : (first key : ℕ) (ps : List (ℕ × ℕ)) → is_key first ps ≡ false → is_key key ps ≡ true → first ≢ key
is_other_key first key ps none there same = false≢true (sym none ∙ ap (λ (k : ℕ). is_key k ps) same ∙ there)

-- ---- one entry changes

back_behind : (e : Entry) (o : Option Entry) (xs : List Entry) (number : ℕ) →
    HasNumber number o →
    (e.connection.number == number) ≡ false →
    put_back e (option_to_list o ++ xs) ≡ option_to_list o ++ put_back e xs
back_behind e (Some x) xs number has miss =
    ap (λ b. if b then remaining e.connection.state e ++ xs else x ∷ put_back e xs) (has_same e.connection.number number x has.0 ∙ miss)
back_behind e None xs number has miss = absurd has

back_here : (e : Entry) (o : Option Entry) (xs : List Entry) (number : ℕ) →
    HasNumber number o →
    (e.connection.number == number) ≡ true →
    put_back e (option_to_list o ++ xs) ≡ remaining e.connection.state e ++ xs
back_here e (Some x) xs number has hit =
    ap (λ b. if b then remaining e.connection.state e ++ xs else x ∷ put_back e xs) (has_same e.connection.number number x has.0 ∙ hit)
back_here e None xs number has hit = absurd has

-- the look-up finds the first, or one behind it
pub found_here : (p : ℕ × ℕ) (ps : List (ℕ × ℕ)) (n key : ℕ) → (n == p.0) ≡ true → lookup (λ k. n == k) (p ∷ ps) ≡ Some key → p.1 ≡ key
found_here p ps n key hit found =
    let same : Some p.1 ≡ Some key = sym (ap (λ b. if b then Some p.1 else lookup (λ k. n == k) ps) hit) ∙ found in
    cc

pub found_behind : (p : ℕ × ℕ) (ps : List (ℕ × ℕ)) (n key : ℕ) →
    (n == p.0) ≡ false →
    lookup (λ k. n == k) (p ∷ ps) ≡ Some key →
    lookup (λ k. n == k) ps ≡ Some key
found_behind p ps n key miss found = sym (ap (λ b. if b then Some p.1 else lookup (λ k. n == k) ps) miss) ∙ found

other_than_found : (p : ℕ × ℕ) (ps : List (ℕ × ℕ)) (n key : ℕ) → is_key p.1 ps ≡ false → lookup (λ k. n == k) ps ≡ Some key → p.1 ≢ key
other_than_found p ps n key none found = is_other_key p.1 key ps none (is_listed ps n key found)

-- the entry of a number changes, and isn't removed
pub listed_changed : (old new : List (Option Entry)) (key n : ℕ) (e : Entry) (ps : List (ℕ × ℕ)) → IsIndex old ps → lookup (λ k. n == k) ps ≡ Some key →
    SameBut key old new → at new key ≡ Some e → e.connection.number ≡ n → remaining e.connection.state e ≡ e ∷ [] → listed new ps ≡ put_back e (listed old ps)
listed_changed old new key n e [] index found same is number stays = absurd cc
listed_changed old new key n e (p ∷ ps) index found same is number stays =
    elim (cases_Bool (n == p.0)) [
      | inl hit ↦
          let here : p.1 ≡ key = found_here p ps n key hit found in
          ap (λ (k : ℕ). option_to_list (at new k) ++ listed new ps) here
          ∙ ap (λ o. option_to_list o ++ listed new ps) is
          ∙ ap (λ es. e ∷ es) (listed_others old new key ps same (subst (λ (k : ℕ). is_key k ps ≡ false) here index.1))
          ∙ sym (back_here e (at old p.1) (listed old ps) p.0 index.0 (ap (λ (m : ℕ). m == p.0) number ∙ hit) ∙ ap (λ es. es ++ listed old ps) stays)
      | inr miss ↦
          let behind : lookup (λ k. n == k) ps ≡ Some key = found_behind p ps n key miss found in
          ap (λ o. option_to_list o ++ listed new ps) (same p.1 (other_than_found p ps n key index.1 behind))
          ∙ ap (λ es. option_to_list (at old p.1) ++ es) (listed_changed old new key n e ps index.2 behind same is number stays)
          ∙ sym (back_behind e (at old p.1) (listed old ps) p.0 index.0 (ap (λ (m : ℕ). m == p.0) number ∙ miss))
    ]

pub index_changed : (old new : List (Option Entry)) (key n : ℕ) (ps : List (ℕ × ℕ)) → IsIndex old ps → lookup (λ k. n == k) ps ≡ Some key →
    SameBut key old new → HasNumber n (at new key) → IsIndex new ps
index_changed old new key n [] index found same has = tt
index_changed old new key n (p ∷ ps) index found same has =
    elim (cases_Bool (n == p.0)) [
      | inl hit ↦
          let here : p.1 ≡ key = found_here p ps n key hit found in (
            subst (λ (k : ℕ). HasNumber p.0 (at new k)) (sym here) (subst (λ (m : ℕ). HasNumber m (at new key)) (eqb-true n p.0 hit) has),
            index.1,
            index_others old new key ps same (subst (λ (k : ℕ). is_key k ps ≡ false) here index.1) index.2,
          )
      | inr miss ↦
          let behind : lookup (λ k. n == k) ps ≡ Some key = found_behind p ps n key miss found in (
            subst (HasNumber p.0) (sym (same p.1 (other_than_found p ps n key index.1 behind))) index.0,
            index.1,
            index_changed old new key n ps index.2 behind same has,
          )
    ]

-- ---- one entry is removed

-- the entry of a number changes, and is removed: its number leaves the index
pub listed_removed : (old new : List (Option Entry)) (key n : ℕ) (e : Entry) (ps : List (ℕ × ℕ)) → IsIndex old ps → lookup (λ k. n == k) ps ≡ Some key →
    SameBut key old new → e.connection.number ≡ n → remaining e.connection.state e ≡ [] → listed new (remove_entry (λ k. n == k) ps) ≡ put_back e (listed old ps)
listed_removed old new key n e [] index found same number claim = absurd cc
listed_removed old new key n e (p ∷ ps) index found same number claim =
    elim (cases_Bool (n == p.0)) [
      | inl hit ↦
          let here : p.1 ≡ key = found_here p ps n key hit found in
          ap (λ b. listed new (if b then ps else p ∷ remove_entry (λ k. n == k) ps)) hit
          ∙ listed_others old new key ps same (subst (λ (k : ℕ). is_key k ps ≡ false) here index.1)
          ∙ sym (back_here e (at old p.1) (listed old ps) p.0 index.0 (ap (λ (m : ℕ). m == p.0) number ∙ hit) ∙ ap (λ es. es ++ listed old ps) claim)
      | inr miss ↦
          let behind : lookup (λ k. n == k) ps ≡ Some key = found_behind p ps n key miss found in
          ap (λ b. listed new (if b then ps else p ∷ remove_entry (λ k. n == k) ps)) miss
          ∙ ap (λ o. option_to_list o ++ listed new (remove_entry (λ k. n == k) ps)) (same p.1 (other_than_found p ps n key index.1 behind))
          ∙ ap (λ es. option_to_list (at old p.1) ++ es) (listed_removed old new key n e ps index.2 behind same number claim)
          ∙ sym (back_behind e (at old p.1) (listed old ps) p.0 index.0 (ap (λ (m : ℕ). m == p.0) number ∙ miss))
    ]

key_gone : (key n : ℕ) (ps : List (ℕ × ℕ)) → is_key key ps ≡ false → is_key key (remove_entry (λ k. n == k) ps) ≡ false
key_gone key n [] none = refl
key_gone key n (p ∷ ps) none =
    elim (cases_Bool (n == p.0)) [
      | inl hit ↦ ap (λ b. is_key key (if b then ps else p ∷ remove_entry (λ k. n == k) ps)) hit ∙ (or_parts (p.1 == key) (is_key key ps) none).1
      | inr miss ↦
          ap (λ b. is_key key (if b then ps else p ∷ remove_entry (λ k. n == k) ps)) miss
          ∙ or_from (p.1 == key) (is_key key (remove_entry (λ k. n == k) ps)) (or_parts (p.1 == key) (is_key key ps) none).0 (key_gone key n ps (or_parts (p.1 == key) (is_key key ps) none).1)
    ]

pub index_removed : (old new : List (Option Entry)) (key n : ℕ) (ps : List (ℕ × ℕ)) →
    IsIndex old ps →
    lookup (λ k. n == k) ps ≡ Some key →
    SameBut key old new →
    IsIndex new (remove_entry (λ k. n == k) ps)
index_removed old new key n [] index found same = tt
index_removed old new key n (p ∷ ps) index found same =
    elim (cases_Bool (n == p.0)) [
      | inl hit ↦
          let here : p.1 ≡ key = found_here p ps n key hit found in
          subst (λ b. IsIndex new (if b then ps else p ∷ remove_entry (λ k. n == k) ps)) (sym hit)
          (index_others old new key ps same (subst (λ (k : ℕ). is_key k ps ≡ false) here index.1) index.2)
      | inr miss ↦
          let behind : lookup (λ k. n == k) ps ≡ Some key = found_behind p ps n key miss found in
          subst (λ b. IsIndex new (if b then ps else p ∷ remove_entry (λ k. n == k) ps)) (sym miss) (
            subst (HasNumber p.0) (sym (same p.1 (other_than_found p ps n key index.1 behind))) index.0,
            key_gone p.1 n ps index.1,
            index_removed old new key n ps index.2 behind same,
          )
    ]

-- ---- one more entry

vacant_number : (number : ℕ) (o : Option Entry) → HasNumber number o → o ≡ None → ⊥
vacant_number number o has vacant = subst (HasNumber number) vacant has

vacant_first : (slots : List (Option Entry)) (number first key : ℕ) →
    HasNumber number (at slots first) →
    at slots key ≡ None →
    (first == key) ≡ false
vacant_first slots number first key has vacant =
    false_from_ne_true (first == key) (λ hit. vacant_number number (at slots first) has (ap (λ (k : ℕ). at slots k) (eqb-true first key hit) ∙ vacant))

vacant_key : (slots : List (Option Entry)) (key : ℕ) (ps : List (ℕ × ℕ)) → IsIndex slots ps → at slots key ≡ None → is_key key ps ≡ false
vacant_key slots key [] index vacant = refl
vacant_key slots key (p ∷ ps) index vacant = or_from (p.1 == key) (is_key key ps) (vacant_first slots p.0 p.1 key index.0 vacant) (vacant_key slots key ps index.2 vacant)

listed_behind : (slots : List (Option Entry)) (ps : List (ℕ × ℕ)) (q : ℕ × ℕ) (e : Entry) →
    at slots q.1 ≡ Some e →
    listed slots (ps ++ q ∷ []) ≡ listed slots ps ++ e ∷ []
listed_behind slots [] q e is = ap (λ o. option_to_list o ++ []) is
listed_behind slots (p ∷ ps) q e is =
    ap (λ es. option_to_list (at slots p.1) ++ es) (listed_behind slots ps q e is) ∙ sym (append_assoc (option_to_list (at slots p.1)) (listed slots ps) (e ∷ []))

pub listed_pushed : (old new : List (Option Entry)) (number key : ℕ) (e : Entry) (ps : List (ℕ × ℕ)) → IsIndex old ps → at old key ≡ None → SameBut key old new → at new key ≡ Some e →
    listed new (ps ++ (number, key) ∷ []) ≡ listed old ps ++ e ∷ []
listed_pushed old new number key e ps index vacant same is =
    listed_behind new ps (number, key) e is ∙ ap (λ es. es ++ e ∷ []) (listed_others old new key ps same (vacant_key old key ps index vacant))

key_behind : (first : ℕ) (ps : List (ℕ × ℕ)) (q : ℕ × ℕ) →
    is_key first ps ≡ false →
    (q.1 == first) ≡ false →
    is_key first (ps ++ q ∷ []) ≡ false
key_behind first [] q none other = or_from (q.1 == first) false other refl
key_behind first (p ∷ ps) q none other =
    or_from (p.1 == first) (is_key first (ps ++ q ∷ [])) (or_parts (p.1 == first) (is_key first ps) none).0 (key_behind first ps q (or_parts (p.1 == first) (is_key first ps) none).1 other)

pub index_pushed : (old new : List (Option Entry)) (key : ℕ) (e : Entry) (ps : List (ℕ × ℕ)) → IsIndex old ps → at old key ≡ None → SameBut key old new → at new key ≡ Some e → is_removed e.connection.state ≡ false →
    IsIndex new (ps ++ (e.connection.number, key) ∷ [])
index_pushed old new key e [] index vacant same is stays = (subst (HasNumber e.connection.number) (sym is) (refl, stays), refl, tt)
index_pushed old new key e (p ∷ ps) index vacant same is stays =
    let other : (p.1 == key) ≡ false = vacant_first old p.0 p.1 key index.0 vacant in (
      subst (HasNumber p.0) (sym (same p.1 (eqb-false p.1 key other))) index.0,
      key_behind p.1 ps (e.connection.number, key) index.1 (same_test p.1 key ∙ other),
      index_pushed old new key e ps index.2 vacant same is stays,
    )

-- ---- all entries change

-- each key has what this makes of what it had
abbrev pub IsMapped : (Entry → Entry) → List (Option Entry) → List (Option Entry) → Type 0
IsMapped f old new = (k : ℕ) → at new k ≡ option_map f (at old k)

mapped_first : (f : Entry → Entry) (o : Option Entry) → option_to_list (option_map f o) ≡ map f (option_to_list o)
mapped_first f (Some e) = refl
mapped_first f None = refl

mapped_behind : (f : Entry → Entry) (o : Option Entry) (es : List Entry) →
    option_to_list (option_map f o) ++ map f es ≡ map f (option_to_list o ++ es)
mapped_behind f (Some e) es = refl
mapped_behind f None es = refl

pub listed_mapped : (f : Entry → Entry) (old new : List (Option Entry)) (ps : List (ℕ × ℕ)) →
    IsMapped f old new →
    listed new ps ≡ map f (listed old ps)
listed_mapped f old new [] mapped = refl
listed_mapped f old new (p ∷ ps) mapped =
    ap (λ o. option_to_list o ++ listed new ps) (mapped p.1)
    ∙ ap (λ es. option_to_list (option_map f (at old p.1)) ++ es) (listed_mapped f old new ps mapped)
    ∙ mapped_behind f (at old p.1) (listed old ps)

pub mapped_number : (f : Entry → Entry) (number : ℕ) (o : Option Entry) →
    ((n : ℕ) (e : Entry) → HasNumber n (Some e) → HasNumber n (Some (f e))) →
    HasNumber number o →
    HasNumber number (option_map f o)
mapped_number f number (Some e) keeps has = keeps number e has
mapped_number f number None keeps has = has

pub index_mapped : (f : Entry → Entry) (old new : List (Option Entry)) (ps : List (ℕ × ℕ)) →
    ((n : ℕ) (e : Entry) → HasNumber n (Some e) → HasNumber n (Some (f e))) →
    IsMapped f old new →
    IsIndex old ps →
    IsIndex new ps
index_mapped f old new [] keeps mapped index = tt
index_mapped f old new (p ∷ ps) keeps mapped index =
    (subst (HasNumber p.0) (sym (mapped p.1)) (mapped_number f p.0 (at old p.1) keeps index.0), index.1, index_mapped f old new ps keeps mapped index.2)

-- nothing changes
pub listed_same : (old new : List (Option Entry)) (ps : List (ℕ × ℕ)) → ((k : ℕ) → at new k ≡ at old k) → listed new ps ≡ listed old ps
listed_same old new [] same = refl
listed_same old new (p ∷ ps) same = ap (λ o. option_to_list o ++ listed new ps) (same p.1) ∙ ap (λ es. option_to_list (at old p.1) ++ es) (listed_same old new ps same)

pub index_same : (old new : List (Option Entry)) (ps : List (ℕ × ℕ)) → ((k : ℕ) → at new k ≡ at old k) → IsIndex old ps → IsIndex new ps
index_same old new [] same index = tt
index_same old new (p ∷ ps) same index = (subst (HasNumber p.0) (sym (same p.1)) index.0, index.1, index_same old new ps same index.2)

-- what a look-up finds has that number
pub found_has : (slots : List (Option Entry)) (ps : List (ℕ × ℕ)) (n key : ℕ) →
    IsIndex slots ps →
    lookup (λ k. n == k) ps ≡ Some key →
    HasNumber n (at slots key)
found_has slots [] n key index found = absurd cc
found_has slots (p ∷ ps) n key index found =
    elim (cases_Bool (n == p.0)) [
      | inl hit ↦
          subst (λ (k : ℕ). HasNumber n (at slots k)) (found_here p ps n key hit found)
          (subst (λ (m : ℕ). HasNumber m (at slots p.1)) (sym (eqb-true n p.0 hit)) index.0)
      | inr miss ↦ found_has slots ps n key index.2 (found_behind p ps n key miss found)
    ]

pub find_found : (slots : List (Option Entry)) (ps : List (ℕ × ℕ)) (n key : ℕ) →
    IsIndex slots ps →
    lookup (λ k. n == k) ps ≡ Some key →
    find (has_number n) (listed slots ps) ≡ at slots key
find_found slots ps n key index found = find_listed slots ps n index ∙ ap (λ o. option_and_then (at slots) o) found

pub find_none : (slots : List (Option Entry)) (ps : List (ℕ × ℕ)) (n : ℕ) →
    IsIndex slots ps →
    lookup (λ k. n == k) ps ≡ None →
    find (has_number n) (listed slots ps) ≡ None
find_none slots ps n index found = find_listed slots ps n index ∙ ap (λ o. option_and_then (at slots) o) found
