-- SPDX-License-Identifier: MIT OR Apache-2.0
-- What the controller does by a word that is for a connection: the row that fits, or nothing.
use Rattle.world_laws.proofs.Prelude.{◌≡◌, ℕ, true, false, Bool, if◌then◌else◌, List, [], Option, Some, None, option_map, refl, sym, ap}
use Rattle.world_laws.proofs.Prelude.{◌∙◌, subst, option_and_then, Channel, Place, Out, outs_of, Input, Connection, Row, OfRow, kept}
use Rattle.world_laws.proofs.Prelude.{connection_of, AreRising, Ready, here_of, Word, OnChannel}
use Rattle.world_laws.proofs.Prelude.{OnConnection, request_offer, Controller, Entry, Turn, channel_state, entry_of, freed, holder}
use Rattle.world_laws.proofs.Prelude.{ignoring, turn, by_fitting, concerning, entry_at, frees, on_freed, on_word, keeps_number, row_of}
use Rattle.world_laws.proofs.Prelude.{row_found, IsSaidTo, freed_for, on_channel, on_connection}
use Rattle.world_laws.proofs.PutAsRead.{number_at}

-- ---- one connection

abbrev pub outs_by : ℕ → Option Row → List Out
outs_by number None = []
outs_by number (Some r) = outs_of number r.outs

abbrev pub next_by : Connection → Option Row → Option Connection
next_by s None = Some s
next_by s (Some r) = kept r.next

pub record Turns (s : Connection) (o : Option Row) (t : Turn) : Type 0 where
  pub outs : t.outs ≡ outs_by s.number o
  pub next : connection_of t.next s.number ≡ next_by s o

fitting_turns : (c : Controller) (otherwise : Turn) (e : Entry) (input : Input) (offer : Option Channel) (o : Option Row) → row_of e.connection input offer ≡ o → AreRising c.entries → entry_of c e.connection.number ≡ Some e
    → otherwise.outs ≡ [] → connection_of otherwise.next e.connection.number ≡ Some e.connection → Turns e.connection o (by_fitting otherwise e o c)
fitting_turns c otherwise e input offer None is rising there silent same = record { outs = silent; next = same }
fitting_turns c otherwise e input offer (Some r) is rising there silent same = record {
  outs = refl;
  next = row_found c e e r rising (subst (OfRow (λ (q : Row). q.next.number ≡ e.connection.number)) is (keeps_number e.connection input offer)) there;
}

-- where it may free a channel
freed_turns : (b : Bool) (at : Place) (input : Input) (c : Controller) (e : Entry) → AreRising c.entries → entry_of c e.connection.number ≡ Some e
    → Turns e.connection (row_of e.connection input (request_offer (if b then freed at c else c) e.connection input)) (on_freed b at input c (Some e))
freed_turns true at input c e rising there = fitting_turns (freed at c) (turn [] (freed at c)) e input (request_offer (freed at c) e.connection input) _ refl rising there refl (ap (option_map (λ (x : Entry). x.connection)) there)
freed_turns false at input c e rising there = fitting_turns c (ignoring c) e input (request_offer c e.connection input) _ refl rising there refl (ap (option_map (λ (x : Entry). x.connection)) there)

-- ---- a word that is for a connection

abbrev FreedBy : Controller → Place → Input → Option Entry → Connection → Option Row
FreedBy c at input o s = row_of s input (request_offer (if frees (channel_state c at) o input then freed at c else c) s input)

channel_turns : {c : Controller} (at : Place) (input : Input) (e : Entry) → Ready c → (n : ℕ) → entry_of c n ≡ Some e → entry_at c (channel_state c at) ≡ Some e
    → Turns e.connection (row_of e.connection input (request_offer (freed_for c at input) e.connection input)) (on_freed (frees (channel_state c at) (entry_at c (channel_state c at)) input) at input c (entry_at c (channel_state c at)))
channel_turns {c} at input e ready n there found =
    let here = here_of c n e ready there in
    subst (λ (o : Option Entry). Turns e.connection (FreedBy c at input o e.connection) (on_freed (frees (channel_state c at) o input) at input c o)) (sym found)
    (freed_turns (frees (channel_state c at) (Some e) input) at input c e here.rising here.there)

pub word_turns : {c : Controller} {word : Word} {s : Connection} {input : Input} {offer : Option Channel} (source : ℕ) →
    Ready c →
    IsSaidTo c word s input offer →
    Turns s (row_of s input offer) (on_word source word c)
word_turns {c} {s = s} source ready (on_channel at input e word_is found is) =
    let number = number_at c (channel_state c at) e found in
    subst (λ (w : Word). Turns s (row_of s input (request_offer (freed_for c at input) s input)) (on_word source w c)) (sym word_is)
    (subst (λ (x : Connection). Turns x (row_of x input (request_offer (freed_for c at input) x input)) (on_word source (OnChannel at input) c)) is (channel_turns at input e ready number.0 number.1 found))
word_turns {c} {s = s} source ready (on_connection number input e word_is found is) =
    let here = here_of c number e ready found in
    subst (λ (w : Word). Turns s (row_of s input (request_offer c s input)) (on_word source w c)) (sym word_is)
    (subst (λ (x : Connection). Turns x (row_of x input (request_offer c x input)) (on_word source (OnConnection number input) c)) is
    (subst (λ (o : Option Entry). Turns e.connection (row_of e.connection input (request_offer c e.connection input)) (concerning input c o)) (sym found)
    (fitting_turns c (ignoring c) e input (request_offer c e.connection input) _ refl here.rising here.there refl (ap (option_map (λ (x : Entry). x.connection)) here.there))))

-- ---- what is for it

-- it has the channel
pub said_on : (c : Controller) (word : Word) (at : Place) (input : Input) (number : ℕ) (s : Connection) (e : Entry) →
    word ≡ OnChannel at input →
    holder (channel_state c at) ≡ Some number →
    entry_of c number ≡ Some e →
    e.connection ≡ s →
    IsSaidTo c word s input (request_offer (freed_for c at input) s input)
said_on c word at input number s e word_is held there is = on_channel at input e word_is (ap (λ (o : Option ℕ). option_and_then (entry_of c) o) held ∙ there) is

-- or the reference
pub said_to : (c : Controller) (word : Word) (input : Input) (number : ℕ) (s : Connection) (e : Entry) →
    word ≡ OnConnection number input →
    entry_of c number ≡ Some e →
    e.connection ≡ s →
    IsSaidTo c word s input (request_offer c s input)
said_to c word input number s e word_is there is = on_connection number input e word_is there is
