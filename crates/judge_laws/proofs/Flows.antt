-- SPDX-License-Identifier: MIT OR Apache-2.0
-- A flow in order: its due messages are optional ones, then those that the controller holds.
use Rattle.std.proofs.Common.{◌≡◌, ℕ, ◌≤◌, ◌<◌, Bool, true, false, List, [], ◌∷◌, ◌++◌, Option, Some, refl, sym, subst, ap, ◌∙◌, arith, nat_lt}
use Rattle.std.proofs.lemmas.Bool.{cond-false, cond-true}
use Rattle.std.proofs.lemmas.Slice.Eq.{bytes_eq-Decides}
use Rattle.std.specs.List.{AllByRecursion}
use Rattle.std.specs.Prelude.{if◌then◌else◌, map, max}
use Rattle.std.specs.Str.{bytes_eq}
use Rattle.run_judge.specs.declared.flow.Due.{Due}
use Rattle.run_judge.specs.Flow.{HasNoFault, HasNoFaultOf, Taken, optional as set_optional, arrived, at_head, insert_due, next_due, or_optional, order_arrived, order_passed, order_rejected, passed_in, passed_on, rejected, standing, stream_passed, taken_from}
use Rattle.run_judge.specs.FlowState.{FlowState}
use Rattle.judge_laws.specs.Agreeing.{Carries, IsOptional, IsRequired}

pub same_bytes : (xs : List ℕ) → bytes_eq xs xs ≡ true
same_bytes xs = (bytes_eq-Decides xs xs).1 refl

pub no_fault : (f : FlowState) (held : List Due) (low : ℕ) → Carries f held low → HasNoFault f
no_fault f held low c = subst HasNoFaultOf (sym c.is) tt

pub carries_more : (f : FlowState) (held : List Due) (low more : ℕ) → low ≤ more → Carries f held low → Carries f held more
carries_more f held low more less c = record {
  stream = c.stream;
  is = c.is;
  optional = c.optional;
  due = c.due;
  may = c.may;
  must = c.must;
  reached = let far = c.reached in omega arith;
}

-- ---- a message arrives

pub not_below : (a b : ℕ) → b ≤ a → nat_lt a b ≡ false
not_below a b few = grind arith

pub is_below : (a b : ℕ) → a < b → nat_lt a b ≡ true
is_below a b less = grind arith

insert_behind : (d : Due) (xs ys : List Due) → AllByRecursion IsOptional xs → insert_due d (xs ++ ys) ≡ xs ++ insert_due d ys
insert_behind d [] ys all = refl
insert_behind d (x ∷ xs) ys all =
    let zero : x.rank ≡ 0 = all.0.1 in
    let less : x.rank ≤ d.rank = omega arith in
    cond-false _ _ _ (not_below d.rank x.rank less) ∙ ap (λ (zs : List Due). x ∷ zs) (insert_behind d xs ys all.1)

either_all : (P : Due → Type 0) (b : Bool) (xs ys : List Due) →
    AllByRecursion P xs →
    AllByRecursion P ys →
    AllByRecursion P (if b then xs else ys)
either_all P true xs ys all others = all
either_all P false xs ys all others = others

pub all_insert : (P : Due → Type 0) (d : Due) (xs : List Due) → P d → AllByRecursion P xs → AllByRecursion P (insert_due d xs)
all_insert P d [] one all = (one, tt)
all_insert P d (x ∷ xs) one all = either_all P (nat_lt d.rank x.rank) (d ∷ (x ∷ xs)) (x ∷ insert_due d xs) (one, all) (all.0, all_insert P d xs one all.1)

pub carries_arrived : (f : FlowState) (held : List Due) (low : ℕ) (d : Due) →
    Carries f held low →
    IsRequired d →
    low ≤ d.rank →
    Carries (arrived d f) (insert_due d held) low
carries_arrived f held low d c must from = record {
  stream = record c.stream { due = insert_due d c.stream.due };
  is = ap (order_arrived d) c.is ∙ cond-false _ _ _ (not_below d.rank c.stream.reached (let far = c.reached in omega arith));
  optional = c.optional;
  due = ap (insert_due d) c.due ∙ insert_behind d c.optional held c.may;
  may = c.may;
  must = all_insert IsRequired d held must c.must;
  reached = c.reached;
}

-- ---- a message is passed on

stands : (xs : List Due) (d : Due) (ds : List Due) → AllByRecursion IsOptional xs → IsRequired d → standing (xs ++ d ∷ ds) ≡ d ∷ ds
stands [] d ds may must = cond-false _ _ _ must
stands (x ∷ xs) d ds may must = cond-true _ _ _ may.0.0 ∙ stands xs d ds may.1 must

next_is : (xs : List Due) (d : Due) (ds : List Due) →
    AllByRecursion IsOptional xs →
    IsRequired d →
    next_due d.message (xs ++ d ∷ ds) ≡ Some (taken_from d ds)
next_is xs d ds may must =
    ap (λ (o : Option Taken). or_optional o d.message (xs ++ d ∷ ds)) (ap (at_head d.message) (stands xs d ds may must) ∙ cond-true _ _ _ (same_bytes d.message))

pub carries_passed : (f : FlowState) (d : Due) (ds : List Due) (low next frame : ℕ) →
    Carries f (d ∷ ds) low →
    d.rank ≤ next →
    low ≤ next →
    Carries (passed_on d.message frame f) ds next
carries_passed f d ds low next frame c within from = record {
  stream = record { due = ds; passed = c.stream.passed ++ passed_in d.rank frame d.message ∷ []; reached = max d.rank c.stream.reached };
  is = ap (order_passed d.message frame) c.is ∙ ap (stream_passed d.message frame c.stream) (ap (next_due d.message) c.due ∙ next_is c.optional d ds c.may c.must.0);
  optional = [];
  due = refl;
  may = tt;
  must = c.must.1;
  reached = (let far = c.reached in omega arith);
}

-- ---- what is held is rejected

all_rejected : (xs ys : List Due) →
    AllByRecursion IsOptional xs →
    AllByRecursion (λ (d : Due). d.rank ≡ 0) ys →
    AllByRecursion IsOptional (map set_optional (xs ++ ys))
all_rejected [] [] may zero = tt
all_rejected [] (y ∷ ys) may zero = ((refl, zero.0), all_rejected [] ys may zero.1)
all_rejected (x ∷ xs) ys may zero = ((refl, may.0.1), all_rejected xs ys may.1 zero)

append-none : (xs : List Due) → xs ≡ xs ++ []
append-none [] = refl
append-none (x ∷ xs) = ap (λ (ys : List Due). x ∷ ys) (append-none xs)

pub carries_rejected : (f : FlowState) (held : List Due) (low : ℕ) →
    Carries f held low →
    AllByRecursion (λ (d : Due). d.rank ≡ 0) held →
    Carries (rejected f) [] low
carries_rejected f held low c zero = record {
  stream = record c.stream { due = map set_optional c.stream.due };
  is = ap order_rejected c.is;
  optional = map set_optional (c.optional ++ held);
  due = ap (map set_optional) c.due ∙ append-none (map set_optional (c.optional ++ held));
  may = all_rejected c.optional held c.may zero;
  must = tt;
  reached = c.reached;
}
