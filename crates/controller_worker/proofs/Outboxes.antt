-- SPDX-License-Identifier: MIT OR Apache-2.0
-- The lines in one outbox and the frames that wait for it, put by put.
use Rattle.std.proofs.Common.{◌≡◌, ℕ, ◌+◌, Bool, true, false, List, [], ◌∷◌, ◌++◌, Ok, Err, refl, sym, ap, ◌∙◌, subst, append-nil, append_assoc, arith}
use Rattle.std.proofs.lemmas.Bool.{false≢true}
use Rattle.std.proofs.lemmas.List.{map-append}
use Rattle.controller_worker.specs.Advancing.{AreSent, IsCounted, Sends, SendsSome}
use Rattle.controller_worker.specs.Links.{is_given_up, lines}
use Rattle.ipa_framing.specs.declared.frame.Frame.{Frame}
use Rattle.ruled_relay.specs.declared.outbox.Line.TheVariants as marks
use Rattle.ruled_relay.specs.declared.outbox.Full.{Full}
use Rattle.ruled_relay.specs.Outbox.{PutsLine, PutterView}

counted_none : (p : PutterView) (before : ℕ) → IsCounted before p → IsCounted (before + 0) p
counted_none p before h = (let a = h.0 in omega arith, let b = h.1 in omega arith)

none_of : (up : Bool) (waited : List Frame) → AreSent up up waited [] [] waited 0
none_of true waited = (refl, refl, refl)
none_of false waited = sym (append-nil waited)

-- nothing is put, and nothing tried
pub sends_none : (p : PutterView) (waited : List Frame) → Sends p waited [] 0 p waited
sends_none p waited =
    record { queue = refl; sent = []; put = sym (append-nil p.put); which = none_of (is_given_up p) waited; counted = counted_none p }

dropped_of : (up : Bool) (waited came : List Frame) → up ≡ true → AreSent up up waited came [] waited 0
dropped_of true waited came h = (refl, refl, refl)
dropped_of false waited came h = absurd (false≢true h)

-- what arrives for an outbox that was given up is dropped
pub sends_dropped : (p : PutterView) (waited came : List Frame) → is_given_up p ≡ true → Sends p waited came 0 p waited
sends_dropped p waited came up =
    record { queue = refl; sent = []; put = sym (append-nil p.put); which = dropped_of (is_given_up p) waited came up; counted = counted_none p }

queued_of : (up : Bool) (waited came : List Frame) → up ≡ false → AreSent up up waited came [] (waited ++ came) 0
queued_of false waited came h = refl
queued_of true waited came h = absurd (false≢true (sym h))

-- what arrives waits
pub sends_queued : (p : PutterView) (waited came : List Frame) → is_given_up p ≡ false → Sends p waited came 0 p (waited ++ came)
sends_queued p waited came up =
    record { queue = refl; sent = []; put = sym (append-nil p.put); which = queued_of (is_given_up p) waited came up; counted = counted_none p }

first_of : (before now : Bool) (waited : List Frame) (frame : Frame) (waiting : List Frame) → before ≡ false → now ≡ before → waited ≡ frame ∷ waiting
    → AreSent before now waited [] (frame ∷ []) waiting 0
first_of false false waited frame waiting h same is = sym is ∙ sym (append-nil waited)
first_of false true waited frame waiting h same is = absurd (false≢true (sym same))
first_of true now waited frame waiting h same is = absurd (false≢true (sym h))

-- the first that waits is put
pub accepted : (p q : PutterView) (waited : List Frame) (frame : Frame) (waiting : List Frame) → is_given_up p ≡ false → waited ≡ frame ∷ waiting → PutsLine p (marks.Frame frame) (Ok tt) q
    → SendsSome p waited [] q waiting
accepted p q waited frame waiting up is puts = (
  0,
  record {
    queue = ap (λ y. y.queue) puts;
    sent = frame ∷ [];
    put = ap (λ y. y.put) puts;
    which = first_of (is_given_up p) (is_given_up q) waited frame waiting up (ap (λ y. is_given_up y) puts) is;
    counted = λ before h. (let a = ap (λ y. y.refused) puts in omega arith, let a = ap (λ y. y.refusals) puts in let b = h.1 in omega arith);
  },
)

kept_of : (before now : Bool) (waited : List Frame) → before ≡ false → now ≡ false → AreSent before now waited [] [] waited 1
kept_of false false waited h k = sym (append-nil waited)
kept_of false true waited h k = absurd (false≢true (sym k))
kept_of true now waited h k = absurd (false≢true (sym h))

gone_of : (before now : Bool) (waited : List Frame) (frame : Frame) (rest : List Frame) →
    before ≡ false →
    now ≡ true →
    waited ≡ frame ∷ rest →
    AreSent before now waited [] [] [] 1
gone_of false true waited frame rest h k is = (frame, rest, append-nil waited ∙ is, refl, omega arith)
gone_of false false waited frame rest h k is = absurd (false≢true k)
gone_of true now waited frame rest h k is = absurd (false≢true (sym h))

refused_which : (before now : Bool) (waited : List Frame) (frame : Frame) (rest waiting : List Frame) → before ≡ false → waited ≡ frame ∷ rest → (now ≡ true → waiting ≡ [])
    → (now ≡ false → waiting ≡ frame ∷ rest) → AreSent before now waited [] [] waiting 1
refused_which before true waited frame rest waiting up is gone kept =
    subst (λ (l : List Frame). AreSent before true waited [] [] l 1) (sym (gone refl)) (gone_of before true waited frame rest up refl is)
refused_which before false waited frame rest waiting up is gone kept =
    subst (λ (l : List Frame). AreSent before false waited [] [] l 1) (is ∙ sym (kept refl)) (kept_of before false waited up refl)

-- the first that waits is refused: it remains the first, unless the outbox is given up now
pub refused : (p q : PutterView) (waited : List Frame) (frame : Frame) (rest waiting : List Frame) (full : Full) → is_given_up p ≡ false → waited ≡ frame ∷ rest
    → PutsLine p (marks.Frame frame) (Err full) q → (is_given_up q ≡ true → waiting ≡ []) → (is_given_up q ≡ false → waiting ≡ frame ∷ rest) → SendsSome p waited [] q waiting
refused p q waited frame rest waiting full up is puts gone kept = (
  1,
  record {
    queue = ap (λ y. y.queue) puts.2;
    sent = [];
    put = ap (λ y. y.put) puts.2 ∙ sym (append-nil p.put);
    which = refused_which (is_given_up p) (is_given_up q) waited frame rest waiting up is gone kept;
    counted = λ before h.
        let a = ap (λ y. y.refused) puts.2 in
        let b = ap (λ y. y.refusals) puts.2 in
        let c = h.0 in
        let d = h.1 in (omega arith, omega arith);
  },
)

-- ---- one behind the other

sent_both : (a b c : Bool) (w xs s v ys t u : List Frame) (m n : ℕ) →
    AreSent a b w xs s v m →
    AreSent b c v ys t u n →
    AreSent a c w (xs ++ ys) (s ++ t) u (m + n)
sent_both false false false w xs s v ys t u m n f g =
    append_assoc s t u ∙ ap (λ l. s ++ l) g ∙ sym (append_assoc s v ys) ∙ ap (λ l. l ++ ys) f ∙ append_assoc w xs ys
sent_both false false true w xs s v ys t u m n f g = (
  g.0,
  g.1,
  sym (append_assoc w xs ys) ∙ ap (λ l. l ++ ys) (sym f) ∙ append_assoc s v ys ∙ ap (λ l. s ++ l) g.2 ∙ sym (append_assoc s t (g.0 ∷ g.1)),
  g.3,
  let h = g.4 in omega arith,
)
sent_both false true true w xs s v ys t u m n f g = (
  f.0,
  f.1 ++ ys,
  sym (append_assoc w xs ys) ∙ ap (λ l. l ++ ys) f.2 ∙ append_assoc s (f.0 ∷ f.1) ys ∙ ap (λ l. l ++ f.0 ∷ (f.1 ++ ys)) (sym (append-nil s) ∙ ap (λ l. s ++ l) (sym g.0)),
  g.1 ∙ f.3,
  let h = f.4 in omega arith,
)
sent_both false true false w xs s v ys t u m n f g = absurd g
sent_both true true true w xs s v ys t u m n f g = (ap (λ l. l ++ t) f.0 ∙ g.0, g.1 ∙ f.1, let h = f.2 in let k = g.2 in omega arith)
sent_both true true false w xs s v ys t u m n f g = absurd g
sent_both true false c w xs s v ys t u m n f g = absurd f

pub sends_both : (p q r : PutterView) (w xs v ys u : List Frame) (m n : ℕ) →
    Sends p w xs m q v →
    Sends q v ys n r u →
    Sends p w (xs ++ ys) (m + n) r u
sends_both p q r w xs v ys u m n f g = record {
  queue = g.queue ∙ f.queue;
  sent = f.sent ++ g.sent;
  put =
      g.put ∙ ap (λ ls. ls ++ lines g.sent) f.put ∙ append_assoc p.put (lines f.sent) (lines g.sent)
      ∙ ap (λ ls. p.put ++ ls) (sym (map-append (λ (frame : Frame). marks.Frame frame) f.sent g.sent));
  which = sent_both (is_given_up p) (is_given_up q) (is_given_up r) w xs f.sent v ys g.sent u m n f.which g.which;
  counted = λ before h. let c = g.counted (before + m) (f.counted before h) in (let a = c.0 in omega arith, let b = c.1 in omega arith);
}

-- the same of ends that were reached in one way or another
pub some_as : (p q q' : PutterView) (w v v' : List Frame) → q' ≡ q → v' ≡ v → SendsSome p w [] q v → SendsSome p w [] q' v'
some_as p q q' w v v' e f h = subst (λ (y : PutterView). SendsSome p w [] y v') (sym e) (subst (λ (l : List Frame). SendsSome p w [] q l) (sym f) h)

pub some_both : (p q r : PutterView) (w xs v ys u : List Frame) → SendsSome p w xs q v → SendsSome q v ys r u → SendsSome p w (xs ++ ys) r u
some_both p q r w xs v ys u f g = (f.0 + g.0, sends_both p q r w xs v ys u f.0 g.0 f.1 g.1)
