-- SPDX-License-Identifier: MIT OR Apache-2.0
-- The rows that put CLEAR COMPLETE.
use Rattle.controller_model.proofs.Prelude.{◌≡◌, ◌||◌, Bool, true, false, List, [], ◌∷◌, Option, Some, None, refl, sym, ap, subst, ◌∙◌}
use Rattle.controller_model.proofs.Prelude.{true≢false, AllByRecursion, list_any, Management, Channel, Message, Data, Input, Complete}
use Rattle.controller_model.proofs.Prelude.{WasAsked, State, Live, Closed, Connection, Row, OfRow, on_clear_command, ClearComplete, Puts}
use Rattle.controller_model.proofs.Prelude.{free, row_messages}
use Rattle.conn_rules.specs.declared.input.Input.TheVariants as inputs
use Rattle.conn_rules.specs.Table.{row_of}
use Rattle.controller_model.specs.LifeLaws.Handing.{is_clear_complete}

-- anything but CLEAR COMPLETE
abbrev pub IsOther : Message → Type 0
IsOther (Data reference (Management ClearComplete)) = ⊥
IsOther _ = Unit {0}

abbrev pub AreOther : List Message → Type 0
AreOther outs = AllByRecursion IsOther outs

abbrev pub PutsOther : Row → Type 0
PutsOther r = AreOther r.outs

abbrev pub NoClear : Input → Type 0
NoClear inputs.ClearCommand = ⊥
NoClear _ = Unit {0}

none_clear : (put : List Message) → AreOther put → list_any is_clear_complete put ≡ false
none_clear [] all = refl
none_clear (m ∷ ms) all = ap (λ (b : Bool). b || list_any is_clear_complete ms) (one m all.0) ∙ none_clear ms all.1
  where
    one : (m : Message) → IsOther m → is_clear_complete m ≡ false
    one (Data reference (Management ClearComplete)) other = absurd other
    one _ other = refl

others : (s : Connection) → Puts (free ⊥) IsOther s
others s = record {
  assigns = tt;
  commands = λ change target. tt;
  activates = λ c kind reference here. tt;
  establishes = λ c here. tt;
  dismisses = λ c cause here. tt;
  releases = λ c here. tt;
  hands = λ c sapi message here layer3. tt;
  opens = λ initial layer3 few. tt;
  relays = λ reference c sapi message own layer3. tt;
  completes = λ reference c cause own. tt;
  performs = λ reference c cause own here. tt;
  fails = λ reference cause rr_cause own. tt;
  rejects = λ reference c own. tt;
  refuses = λ reference own. tt;
  asks = λ reference cause own is. tt;
  clears = λ reference own may. absurd may;
  answers = λ source known. tt;
}

pub other_row : (s : Connection) (input : Input) (offer : Option Channel) → NoClear input → OfRow PutsOther (row_of s input offer)
other_row s input offer other = row_messages IsOther ⊥ s input offer (others s) (λ is. subst NoClear is other)

-- ---- CLEAR COMPLETE is put by the row that takes CLEAR COMMAND, and the connection is cleared

abbrev pub Clears : Row → Type 0
Clears r = list_any is_clear_complete r.outs ≡ true → r.next.state ≡ Closed Complete

others_clear : (o : Option Row) → OfRow PutsOther o → OfRow Clears o
others_clear None all = tt
others_clear (Some r) all = λ clear. absurd (true≢false (sym clear ∙ none_clear r.outs all))

of_clear_command : (state : State) (s : Connection) → OfRow Clears (on_clear_command state s)
of_clear_command (Live reference stage) s = λ clear. refl
of_clear_command (Closed (WasAsked reference)) s = λ clear. refl
of_clear_command _ s = tt

pub clear_row : (s : Connection) (input : Input) (offer : Option Channel) → OfRow Clears (row_of s input offer)
unfolding row_of
clear_row s inputs.ClearCommand offer = of_clear_command s.state s
clear_row s input offer = others_clear (row_of s input offer) (other_row s input offer tt)
