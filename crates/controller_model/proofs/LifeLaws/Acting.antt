-- SPDX-License-Identifier: MIT OR Apache-2.0
-- Each step does one thing to a connection; at a break or a tick, one connection after the other.
use Rattle.controller_model.proofs.Prelude.{◌≡◌, Bool, ◌≢◌, ℕ, ◌==◌, List, [], ◌∷◌, ◌++◌, find, Option, Some, option_map, refl, sym, subst}
use Rattle.controller_model.proofs.Prelude.{ap, ◌∙◌, inl, inr, true≢false, cases_Bool, cond-true, cond-false, eqb-true, eq-eqb, ne_eqb}
use Rattle.controller_model.proofs.Prelude.{Channel, Message, Station, Out, outs_of, Input, State, Removed, Connection, Row, OfRow, row_of}
use Rattle.controller_model.proofs.Prelude.{Acts, Brought, IsBrought, FitsNone, kept, kept_in, rests, takes_row, is_for, outs_for}
use Rattle.controller_model.proofs.Prelude.{connection_of}
use Rattle.controller_model.proofs.Prelude.{AreRising, Controller, Entry, Turn, has_number, entry_of, by_row, entry_after}
use Rattle.conn_messages.specs.Out.{out_of}
use Rattle.controller_model.proofs.LifeLaws.Entries.{entry_kept, back_over, back_found}
use Rattle.controller_model.proofs.Numbers.{keeps_number}

-- ---- frames of one connection

pub conn_of : (number : ℕ) (m : Message) → (out_of number m).conn ≡ number
unfolding out_of
conn_of number (Station station message) = refl
conn_of number _ = refl

pub outs_own : (number : ℕ) (ms : List Message) → outs_for number (outs_of number ms) ≡ outs_of number ms
outs_own number [] = refl
outs_own number (m ∷ ms) =
    cond-true _ _ _ (eq-eqb (out_of number m).conn number (conn_of number m))
    ∙ ap (λ (outs : List Out). out_of number m ∷ outs) (outs_own number ms)

pub outs_other : (number other : ℕ) (ms : List Message) → number ≢ other → outs_for number (outs_of other ms) ≡ []
outs_other number other [] differ = refl
outs_other number other (m ∷ ms) differ =
    cond-false _ _ _ (ne_eqb (out_of other m).conn number (λ same. differ (sym same ∙ conn_of other m)))
    ∙ outs_other number other ms differ

pub outs_append : (number : ℕ) (xs ys : List Out) → outs_for number (xs ++ ys) ≡ outs_for number xs ++ outs_for number ys
outs_append number [] ys = refl
outs_append number (x ∷ xs) ys = elim (cases_Bool (is_for number x)) [
  | inl hit ↦ cond-true _ _ _ hit ∙ ap (λ (outs : List Out). x ∷ outs) (outs_append number xs ys) ∙ sym (ap (λ (outs : List Out). outs ++ outs_for number ys) (cond-true _ _ _ hit))
  | inr miss ↦ cond-false _ _ _ miss ∙ outs_append number xs ys ∙ sym (ap (λ (outs : List Out). outs ++ outs_for number ys) (cond-false _ _ _ miss))
]

pub outs_of_append : (number : ℕ) (xs ys : List Message) → outs_of number (xs ++ ys) ≡ outs_of number xs ++ outs_of number ys
outs_of_append number [] ys = refl
outs_of_append number (x ∷ xs) ys = ap (λ (outs : List Out). out_of number x ∷ outs) (outs_of_append number xs ys)

-- ---- a turn

-- it does this to a connection
pub record Does (number next : ℕ) (up : Bool) (brought : Brought) (before : Option Connection) (t : Turn) : Type 0 where
  pub put : List Message
  pub outs : outs_for number t.outs ≡ outs_of number put
  pub acts : Acts number next up brought before put (connection_of t.next number)

-- nothing
pub does_nothing : (number next : ℕ) (up : Bool) (brought : Brought) (before : Option Connection) (t : Turn) →
    outs_for number t.outs ≡ [] →
    connection_of t.next number ≡ before →
    FitsNone brought before →
    Does number next up brought before t
does_nothing number next up brought before t silent same none = record { put = []; outs = silent; acts = rests refl same none }

-- a row of its connection
pub kept_entry : (e : Entry) → option_map (λ (x : Entry). x.connection) (entry_kept e.connection.state e) ≡ kept e.connection
kept_entry e = by e.connection.state
  where
    by : (state : State) → option_map (λ (x : Entry). x.connection) (entry_kept state e) ≡ kept_in state e.connection
    by Removed = refl
    by _ = refl

pub row_found : (c : Controller) (e x : Entry) (r : Row) →
    AreRising c.entries →
    r.next.number ≡ e.connection.number →
    entry_of c e.connection.number ≡ Some x →
    connection_of (by_row e r c).next e.connection.number ≡ kept r.next
row_found c e x r rising same there =
    let put : Entry = entry_after c.settings e r in
    subst (λ (n : ℕ). option_map (λ (y : Entry). y.connection) (find (has_number n) (by_row e r c).next.entries) ≡ kept r.next) same
    (ap (option_map (λ (y : Entry). y.connection)) (back_found put x c.entries rising (ap (λ (n : ℕ). find (has_number n) c.entries) same ∙ there)) ∙ kept_entry put)

pub row_does : (number next : ℕ) (up : Bool) (brought : Brought) (c : Controller) (e x : Entry) (input : Input) (offer : Option Channel) (r : Row) → AreRising c.entries → entry_of c e.connection.number ≡ Some x → row_of e.connection input offer ≡ Some r →
    (number ≡ e.connection.number → IsBrought brought input) → (before : Option Connection) → (number ≡ e.connection.number → before ≡ Some e.connection) →
    (number ≢ e.connection.number → (connection_of c number ≡ before) × FitsNone brought before) → Does number next up brought before (by_row e r c)
row_does number next up brought c e x input offer r rising there fits by before own others =
    let keeps : r.next.number ≡ e.connection.number = subst (λ (o : Option Row). OfRow (λ (q : Row). q.next.number ≡ e.connection.number) o) fits (keeps_number e.connection input offer) in
    elim (cases_Bool (number == e.connection.number)) [
      | inl hit ↦
          let same : number ≡ e.connection.number = eqb-true number e.connection.number hit in
          record {
            put = r.outs;
            outs = subst (λ (n : ℕ). outs_for n (outs_of e.connection.number r.outs) ≡ outs_of n r.outs) (sym same) (outs_own e.connection.number r.outs);
            acts = takes_row e.connection e.connection input offer r (own same) ([], refl) (by same) fits refl (subst (λ (n : ℕ). connection_of (by_row e r c).next n ≡ kept r.next) (sym same) (row_found c e x r rising keeps there));
          }
      | inr miss ↦
          let differ : number ≢ e.connection.number = λ same. absurd (true≢false (sym (eq-eqb number e.connection.number same) ∙ miss)) in
          let rest = others differ in
          does_nothing number next up brought before (by_row e r c) (outs_other number e.connection.number r.outs differ)
          (ap (option_map (λ (y : Entry). y.connection)) (back_over number (entry_after c.settings e r) c.entries (λ same. differ (same ∙ keeps))) ∙ rest.0) rest.1
    ]
