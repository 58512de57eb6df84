-- SPDX-License-Identifier: MIT OR Apache-2.0
-- A row keeps the request of its connection, and an IMMEDIATE ASSIGNMENT names it.
use Rattle.controller_model.proofs.Prelude.{◌≡◌, Option, ap, ◌∙◌, AllByRecursion, Channel, immediate_assign_command, Input, Connection}
use Rattle.controller_model.proofs.Prelude.{Row, OfRow, RequestReference, row_of, Enters, Puts, free, free_brings, free_parts, row_puts}
use Rattle.controller_model.proofs.Prelude.{Names}

module _ (c : Channel) (q : RequestReference) where
  abbrev pub IsNamed : Row → Type 0
  IsNamed r = (r.next.request ≡ q) × AllByRecursion (Names c q) r.outs

  named : (s : Connection) → s.serving ≡ c → s.request ≡ q → Puts (free (Unit {0})) (Names c q) s
  named s here is = record {
    assigns = (s.delay, ap (λ (d : Channel). immediate_assign_command d s.request s.delay) here ∙ ap (λ (p : RequestReference). immediate_assign_command c p s.delay) is);
    commands = λ change target. tt;
    activates = λ d kind reference here. tt;
    establishes = λ d here. tt;
    dismisses = λ d cause here. tt;
    releases = λ d here. tt;
    hands = λ d sapi message here layer3. tt;
    opens = λ initial layer3 few. tt;
    relays = λ reference d sapi message own layer3. tt;
    completes = λ reference d cause own. tt;
    performs = λ reference d cause own here. tt;
    fails = λ reference cause rr_cause own. tt;
    rejects = λ reference d own. tt;
    refuses = λ reference own. tt;
    asks = λ reference cause own is. tt;
    clears = λ reference own may. tt;
    answers = λ source known. tt;
  }

  same : Enters (free (Unit {0})) (λ state request. request ≡ q)
  same = record {
    establishes = λ before request is. is;
    confirms = λ before request is. is;
    once_live = λ before request reference stage is own. is;
    due = λ before request cause is small. is;
    asks = λ before request reference is own. is;
    clears = λ before request is. is;
    removes = λ before request is. is;
  }

  pub row_named : (s : Connection) (input : Input) (offer : Option Channel) →
      s.serving ≡ c →
      s.request ≡ q →
      OfRow IsNamed (row_of s input offer)
  row_named s input offer here is =
      row_puts (free (Unit {0})) (Names c q) (λ state request. request ≡ q) s offer (named s here is) same (free_parts (Unit {0}) s offer) is input
      (free_brings (Unit {0}) input (λ clear. tt))
