-- SPDX-License-Identifier: MIT OR Apache-2.0
-- Reading a line's words gives the event whose text they are.
use Rattle.std.proofs.Common.{◌≡◌, ◌≢◌, ℕ, ◌-◌, ◌<◌, ◌≤◌, Bool, true, Option, Some, None, List, [], ◌∷◌, length, slice_index, refl, sym, ap, ◌∙◌, subst, find, inl, inr, lit≤, arith}
use Rattle.std.proofs.lemmas.Bool.{cases_Bool, cond-true, cond-false}
use Rattle.std.proofs.lemmas.Slice.Eq.{bytes_eq-Decides}
use Rattle.std.specs.Str.{bytes_eq}
use Rattle.program_base.specs.declared.script.Kind.{Kind}
use Rattle.program_base.specs.declared.script.Kind.TheVariants as kind
use Rattle.program_base.specs.declared.script.Action.{Action}
use Rattle.program_base.specs.declared.script.Action.TheVariants as action
use Rattle.program_base.specs.Words.{value_at, and_rest, end_of}
use Rattle.program_base.specs.Script.{name_of, name_of_action}
use Rattle.program_base.specs.ScriptReading.{◌>>=◌, last_at, kind_in, kind_of_shape, action_in, all_kinds}

-- ---- steps, in both directions

-- both steps of a chain gave a value
pub chain_some : {A B : Type 0} (o : Option A) (f : A → Option B) (y : B) → (o >>= f) ≡ Some y → (x : A) × (o ≡ Some x) × (f x ≡ Some y)
chain_some (Some x) f y is = (x, refl, is)
chain_some None f y is = absurd cc

pub chain_again : {A B : Type 0} (o : Option A) (f : A → Option B) (x : A) (y : Option B) → o ≡ Some x → f x ≡ y → (o >>= f) ≡ y
chain_again o f x y is more = ap (λ o. o >>= f) is ∙ more

and_rest_some : {X : Type 0} (words : List (List ℕ)) (o : Option X) (said : X × List (List ℕ)) →
    and_rest words o ≡ Some said →
    (words ≡ said.1) × (o ≡ Some said.0)
and_rest_some words None said is = absurd cc
and_rest_some words (Some x) said is = let both : (x, words) ≡ said = cc in (ap (λ p. p.1) both, ap (λ p. Some p.0) both)

-- the first word says this, and the others are behind it
pub value_at_some : {X : Type 0} (says : List ℕ → Option X) (words : List (List ℕ)) (said : X × List (List ℕ)) →
    value_at says words ≡ Some said →
    (word : List ℕ) × (words ≡ word ∷ said.1) × (says word ≡ Some said.0)
value_at_some says [] said is = absurd cc
value_at_some says (word ∷ words) said is = let found = and_rest_some words (says word) said is in (word, ap (λ rest. word ∷ rest) found.0, found.1)

pub value_at-again : {X : Type 0} (says : List ℕ → Option X) (words : List (List ℕ)) (word : List ℕ) (rest : List (List ℕ)) (x : X) →
    words ≡ word ∷ rest →
    says word ≡ Some x →
    value_at says words ≡ Some (x, rest)
value_at-again says words word rest x split is = ap (value_at says) split ∙ ap (and_rest rest) is

pub end_of_some : (words : List (List ℕ)) (end : Unit {0}) → end_of words ≡ Some end → words ≡ []
end_of_some [] end is = refl
end_of_some (word ∷ words) end is = absurd cc

-- the last word says this
pub last_at_some : {X : Type 0} (says : List ℕ → Option X) (words : List (List ℕ)) (x : X) →
    last_at says words ≡ Some x →
    (word : List ℕ) × (words ≡ word ∷ []) × (says word ≡ Some x)
last_at_some says words x is =
    let first = chain_some (value_at says words) _ x is in
    let said = value_at_some says words first.0 first.1 in
    let end = chain_some (end_of first.0.1) _ x first.2 in
    let value : first.0.0 ≡ x = cc (end.2) in
    (said.0, said.1 ∙ ap (λ rest. said.0 ∷ rest) (end_of_some first.0.1 end.0 end.1), said.2 ∙ ap (λ x. Some x) value)

pub last_at-again : {X : Type 0} (says : List ℕ → Option X) (words : List (List ℕ)) (word : List ℕ) (rest : List (List ℕ)) (x : X) →
    words ≡ word ∷ rest →
    rest ≡ [] →
    says word ≡ Some x →
    last_at says words ≡ Some x
last_at-again says words word rest x split end is =
    chain_again (value_at says words) _ (x, rest) (Some x) (value_at-again says words word rest x split is) (chain_again (end_of rest) _ tt (Some x) (ap end_of end) refl)

-- ---- names

find_passes : {X : Type 0} (p : X → Bool) (xs : List X) (x : X) → find p xs ≡ Some x → p x ≡ true
find_passes p [] x is = absurd cc
find_passes p (y ∷ ys) x is =
    elim (cases_Bool (p y)) [
      | inl found ↦ let same : y ≡ x = cc (sym (cond-true (p y) (Some y) (find p ys) found) ∙ is) in subst (λ z. p z ≡ true) same found
      | inr past ↦ find_passes p ys x (sym (cond-false (p y) (Some y) (find p ys) past) ∙ is)
    ]

pub kind_in_some : (word : List ℕ) (k : Kind) → kind_in word ≡ Some k → word ≡ name_of k
unfolding kind_in
kind_in_some word k is = (bytes_eq-Decides word (name_of k)).0 (find_passes (λ kind. bytes_eq word (name_of kind)) all_kinds k is)

pub action_in_some : (word : List ℕ) (a : Action) → action_in word ≡ Some a → word ≡ name_of_action a
unfolding action_in
action_in_some word a is = (bytes_eq-Decides word (name_of_action a)).0 (find_passes (λ action. bytes_eq word (name_of_action action)) (action.Assign ∷ action.Clear ∷ action.Dtap ∷ []) a is)

pub kind_in-name : (k : Kind) → kind_in (name_of k) ≡ Some k
unfolding kind_in
kind_in-name kind.Upper = refl
kind_in-name kind.Connect = refl
kind_in-name kind.AirUp = refl
kind_in-name kind.AirAck = refl
kind_in-name kind.AirDown = refl
kind_in-name kind.AirDownLost = refl
kind_in-name kind.Move = refl
kind_in-name kind.Touch = refl
kind_in-name kind.Arrive = refl
kind_in-name kind.Return = refl
kind_in-name kind.BaseTakes = refl
kind_in-name kind.BasePush = refl
kind_in-name kind.Handle = refl
kind_in-name kind.SwitchTakes = refl
kind_in-name kind.SwitchDoes = refl
kind_in-name kind.Tick = refl
kind_in-name kind.BaseDown = refl
kind_in-name kind.Report = refl

pub action_in-name : (a : Action) → action_in (name_of_action a) ≡ Some a
unfolding action_in
action_in-name action.Assign = refl
action_in-name action.Clear = refl
action_in-name action.Dtap = refl

-- ---- the one kind whose name has a shape

-- each name has the shape of no other
pub kind_of_shape-name : (k : Kind) → kind_of_shape (length (name_of k)) (slice_index (name_of k) (length (name_of k) - 3)) ≡ Some k
unfolding kind_of_shape
kind_of_shape-name kind.Upper = refl
kind_of_shape-name kind.Connect = refl
kind_of_shape-name kind.AirUp = refl
kind_of_shape-name kind.AirAck = refl
kind_of_shape-name kind.AirDown = refl
kind_of_shape-name kind.AirDownLost = refl
kind_of_shape-name kind.Move = refl
kind_of_shape-name kind.Touch = refl
kind_of_shape-name kind.Arrive = refl
kind_of_shape-name kind.Return = refl
kind_of_shape-name kind.BaseTakes = refl
kind_of_shape-name kind.BasePush = refl
kind_of_shape-name kind.Handle = refl
kind_of_shape-name kind.SwitchTakes = refl
kind_of_shape-name kind.SwitchDoes = refl
kind_of_shape-name kind.Tick = refl
kind_of_shape-name kind.BaseDown = refl
kind_of_shape-name kind.Report = refl

pub three_in_name : (k : Kind) → 3 ≤ length (name_of k)
three_in_name kind.Upper = lit≤ tt
three_in_name kind.Connect = lit≤ tt
three_in_name kind.AirUp = lit≤ tt
three_in_name kind.AirAck = lit≤ tt
three_in_name kind.AirDown = lit≤ tt
three_in_name kind.AirDownLost = lit≤ tt
three_in_name kind.Move = lit≤ tt
three_in_name kind.Touch = lit≤ tt
three_in_name kind.Arrive = lit≤ tt
three_in_name kind.Return = lit≤ tt
three_in_name kind.BaseTakes = lit≤ tt
three_in_name kind.BasePush = lit≤ tt
three_in_name kind.Handle = lit≤ tt
three_in_name kind.SwitchTakes = lit≤ tt
three_in_name kind.SwitchDoes = lit≤ tt
three_in_name kind.Tick = lit≤ tt
three_in_name kind.BaseDown = lit≤ tt
three_in_name kind.Report = lit≤ tt

-- a word that is the name of no kind
no_name : (word : List ℕ) (said : Option Kind) → kind_in word ≡ said → ((k : Kind) → word ≢ name_of k) → said ≡ None
no_name word None is none = refl
no_name word (Some k) is none = absurd (none k (kind_in_some word k is))

pub kind_in-short : (word : List ℕ) → length word < 3 → kind_in word ≡ None
kind_in-short word short =
    no_name word (kind_in word) refl (λ k is. let size : length word ≡ length (name_of k) = ap length is in let least = three_in_name k in absurd (omega arith))

abbrev pub shape_of : List ℕ → Option Kind
shape_of word = kind_of_shape (length word) (slice_index word (length word - 3))

pub kind_in-shapeless : (word : List ℕ) → shape_of word ≡ None → kind_in word ≡ None
kind_in-shapeless word none =
    no_name word (kind_in word) refl (λ k is. let shape : shape_of word ≡ Some k = ap shape_of is ∙ kind_of_shape-name k in absurd cc)

pub kind_in-other : (word : List ℕ) (k : Kind) → shape_of word ≡ Some k → word ≢ name_of k → kind_in word ≡ None
kind_in-other word k some other =
    no_name word (kind_in word) refl (λ l is. let shape : shape_of word ≡ Some l = ap shape_of is ∙ kind_of_shape-name l in let same : k ≡ l = cc in other (is ∙ ap name_of (sym same)))

pub kind_in-same : (word : List ℕ) (k : Kind) → word ≡ name_of k → kind_in word ≡ Some k
kind_in-same word k is = ap kind_in is ∙ kind_in-name k
