-- SPDX-License-Identifier: MIT OR Apache-2.0
-- What is seen of the connection at a place, where one is there, and what expires for it.
use Rattle.std.proofs.Common.{◌≡◌, ℕ, [], ◌∷◌, ◌++◌, option_to_list, option_map, Option, Some, None, refl, sym, ap, ◌∙◌, append-nil}
use Rattle.std.specs.Option.{option_and_then}
use Rattle.conn_rules.specs.declared.input.Input.{Input}
use Rattle.conn_rules.specs.Connection.{Connection}
use Rattle.conn_rules.specs.Timers.{after_pass}
use Rattle.controller_model.specs.Controller.{Entry}
use Rattle.controller_model.specs.Life.{expiry}
use Rattle.settings.specs.declared.timers.Timers.{Timers}
use Rattle.connection_notes.specs.Notes.{expired, expiry_notes, timer_by}
use Rattle.connection_notes.specs.Sights.{sight_of, sights_of}

pub sight_some : (o : Option Entry) (s : Connection) →
    Some s ≡ option_map (λ e. e.connection) o →
    sight_of s ∷ [] ≡ sights_of (option_to_list o)
sight_some None s is = absurd (cc is)
sight_some (Some e) s is = let same : s ≡ e.connection = cc is in ap (λ (t : Connection). sight_of t ∷ []) same

pub sight_none : (o : Option Entry) → (let none : Option Connection = None in none) ≡ option_map (λ e. e.connection) o →
    [] ≡ sights_of (option_to_list o)
sight_none None is = refl
sight_none (Some e) is = absurd (cc is)

-- what is seen of the connection at a place, if one is there
pub ruleset seeing = (sight_some, sight_none)

pub expiry_absent : (timers : Timers) (ms : ℕ) (o : Option Entry) → (let none : Option Connection = None in none) ≡ option_map (λ e. e.connection) o
    → [] ≡ expiry_notes timers ms (option_to_list o)
expiry_absent timers ms None is = refl
expiry_absent timers ms (Some e) is = absurd (cc is)

pub expiry_none : (timers : Timers) (ms : ℕ) (o : Option Entry)
    → (let none : Option Input = None in none) ≡ option_and_then (λ e. expiry timers (after_pass ms e.connection)) o
    → [] ≡ expiry_notes timers ms (option_to_list o)
expiry_none timers ms None is = refl
expiry_none timers ms (Some e) is =
    ap (λ (i : Option Input). expired e.connection.number (option_and_then (timer_by e.connection.state) i) ++ []) is

pub expiry_some : (timers : Timers) (ms : ℕ) (o : Option Entry) (s : Connection) (input : Input) → Some s ≡ option_map (λ e. e.connection) o
    → Some input ≡ option_and_then (λ e. expiry timers (after_pass ms e.connection)) o
    → expired s.number (timer_by s.state input) ≡ expiry_notes timers ms (option_to_list o)
expiry_some timers ms None s input is due = absurd (cc is)
expiry_some timers ms (Some e) s input is due =
    let same : s ≡ e.connection = cc is in
    ap (λ (t : Connection). expired t.number (timer_by t.state input)) same
    ∙ sym (append-nil (expired e.connection.number (timer_by e.connection.state input)))
    ∙ ap (λ (i : Option Input). expired e.connection.number (option_and_then (timer_by e.connection.state) i) ++ []) due

-- what expires for the connection at a place, if one is there
pub ruleset expiring = (expiry_absent, expiry_none, expiry_some)
