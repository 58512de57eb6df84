-- SPDX-License-Identifier: MIT OR Apache-2.0
-- Lemmas on what a gate lets through, item by item.
use Rattle.std.proofs.Common.{◌≡◌, ℕ, ◌+◌, ◌≢◌, List, [], ◌∷◌, ◌++◌, length, Option, Some, None, refl, sym, ap, ◌∙◌, subst, append-nil, append_assoc, arith}
use Rattle.std.proofs.lemmas.List.{length-append}
use Rattle.ruled_relay.specs.declared.item.What.{What}
use Rattle.ruled_relay.specs.declared.item.What.TheVariants.{Down}
use Rattle.ruled_relay.specs.Inbox.{PassView}
use Rattle.link_workers.specs.declared.fault.IoFault.{IoFault}
use Rattle.link_workers.specs.declared.fault.IoFault.TheVariants as faults
use Rattle.link_workers.specs.Gates.{HasLet, LetsAll, LetsDown, LetsEach}
use Rattle.link_workers.specs.Reading.{AsksForDown, PutsDown, having_put}

pub let_none : (n : Option ℕ) → HasLet n n 0
let_none None = tt
let_none (Some n) = omega arith

pub let_both : (a b c : Option ℕ) (m n : ℕ) → HasLet a b m → HasLet b c n → HasLet a c (m + n)
let_both a b None m n f g = tt
let_both a None (Some k) m n f g = absurd g
let_both None (Some j) (Some k) m n f g = absurd f
let_both (Some i) (Some j) (Some k) m n f g = omega arith

pub let_more : (a b c : Option ℕ) → HasLet a b 0 → HasLet b c 0 → HasLet a c 0
let_more a b c f g = let_both a b c 0 0 f g

pub let_one : (a b c : Option ℕ) → HasLet a b 0 → HasLet b c 1 → HasLet a c 1
let_one a b c f g = let_both a b c 0 1 f g

pub each_none : (a : Option ℕ) (p : PassView) → LetsEach a a p p
each_none a p = ([], sym (append-nil p.put), let_none a)

-- none let through, and none put
pub each_shut : (a b : Option ℕ) (p q : PassView) → q ≡ p → HasLet a b 0 → LetsEach a b p q
each_shut a b p q same f = ([], ap (λ y. y.put) same ∙ sym (append-nil p.put), f)

-- one let through, and put
pub each_one : (a b : Option ℕ) (p q r : PassView) (what : What) → q ≡ p → r ≡ having_put q (what ∷ []) → HasLet a b 1 → LetsEach a b p r
each_one a b p q r what same put f = (what ∷ [], ap (λ y. y.put) put ∙ ap (λ y. y.put ++ what ∷ []) same, f)

pub each_both : (a b c : Option ℕ) (p q r : PassView) → LetsEach a b p q → LetsEach b c q r → LetsEach a c p r
each_both a b c p q r f g = (
  f.0 ++ g.0,
  g.1 ∙ ap (λ l. l ++ g.0) f.1 ∙ append_assoc p.put f.0 g.0,
  subst (λ n. HasLet a c n) (sym (length-append f.0 g.0)) (let_both a b c (length f.0) (length g.0) f.2 g.2),
)

pub all_after : (fault : Option IoFault) (a b c : Option ℕ) (p q r : PassView) →
    LetsEach a b p q →
    LetsAll fault b c q r →
    LetsAll fault a c p r
all_after None a b c p q r f g = each_both a b c p q r f g
all_after (Some faults.ReadFailed) a b c p q r f g = each_both a b c p q r f g
all_after (Some faults.WriteFailed) a b c p q r f g = each_both a b c p q r f g
all_after (Some faults.FrameFault) a b c p q r f g = each_both a b c p q r f g
all_after (Some faults.Memory) a b c p q r f g = each_both a b c p q r f g
all_after (Some faults.GateShut) a b c p q r f g = (
  f.0 ++ g.0,
  g.1 ∙ ap (λ l. l ++ (g.0 ++ Down ∷ [])) f.1 ∙ append_assoc p.put f.0 (g.0 ++ Down ∷ []) ∙ ap (λ l. p.put ++ l) (sym (append_assoc f.0 g.0 (Down ∷ []))),
  subst (λ n. HasLet a c n) (sym (length-append f.0 g.0)) (let_both a b c (length f.0) (length g.0) f.2 g.2),
)
all_after (Some faults.GivenUp) a b c p q r f g = each_both a b c p q r f g

pub all_down : (fault : Option IoFault) (a b : Option ℕ) (p q : PassView) →
    LetsDown fault a b →
    q ≡ having_put p (Down ∷ []) →
    LetsAll fault a b p q
all_down None a b p q f put = (Down ∷ [], ap (λ y. y.put) put, f)
all_down (Some faults.ReadFailed) a b p q f put = (Down ∷ [], ap (λ y. y.put) put, f)
all_down (Some faults.WriteFailed) a b p q f put = (Down ∷ [], ap (λ y. y.put) put, f)
all_down (Some faults.FrameFault) a b p q f put = (Down ∷ [], ap (λ y. y.put) put, f)
all_down (Some faults.Memory) a b p q f put = (Down ∷ [], ap (λ y. y.put) put, f)
all_down (Some faults.GateShut) a b p q f put = ([], ap (λ y. y.put) put, f)
all_down (Some faults.GivenUp) a b p q f put = (Down ∷ [], ap (λ y. y.put) put, f)

pub down_let : (fault : Option IoFault) (a b : Option ℕ) → fault ≢ Some faults.GateShut → HasLet a b 1 → LetsDown fault a b
down_let None a b apart f = f
down_let (Some faults.ReadFailed) a b apart f = f
down_let (Some faults.WriteFailed) a b apart f = f
down_let (Some faults.FrameFault) a b apart f = f
down_let (Some faults.Memory) a b apart f = f
down_let (Some faults.GateShut) a b apart f = absurd (apart refl)
down_let (Some faults.GivenUp) a b apart f = f

pub down_kept : (fault : Option IoFault) (a : Option ℕ) → fault ≡ Some faults.GateShut → LetsDown fault a a
down_kept fault a is = subst (λ (f : Option IoFault). LetsDown f a a) (sym is) (let_none a)

pub down_shut : (fault : IoFault) (a b : Option ℕ) → fault ≡ faults.GateShut → HasLet a b 0 → LetsDown (Some fault) a b
down_shut fault a b is f = subst (λ (x : IoFault). LetsDown (Some x) a b) (sym is) f

pub puts_down : (limit refused now : ℕ) (old new : PassView) (before fault : Option IoFault) → AsksForDown limit refused now before fault → new ≡ having_put old (Down ∷ [])
    → PutsDown limit refused now old new before fault
puts_down limit refused now old new None fault asks put = (put, asks)
puts_down limit refused now old new (Some faults.ReadFailed) fault asks put = (put, asks)
puts_down limit refused now old new (Some faults.WriteFailed) fault asks put = (put, asks)
puts_down limit refused now old new (Some faults.FrameFault) fault asks put = (put, asks)
puts_down limit refused now old new (Some faults.Memory) fault asks put = (put, asks)
puts_down limit refused now old new (Some faults.GateShut) fault asks put = (put, asks.0, asks.1)
puts_down limit refused now old new (Some faults.GivenUp) fault asks put = (put, asks)

-- ---- what a function's attribute names together

-- what a gate has let, asked once more
pub ruleset asking = (let_more, let_none, let_one)

-- the same of `Down`, which it is asked for last
pub ruleset asking_for_down = (down_kept, down_let, down_shut)
