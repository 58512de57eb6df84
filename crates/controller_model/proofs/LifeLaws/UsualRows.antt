-- SPDX-License-Identifier: MIT OR Apache-2.0
-- What rows put: in CR the initial message alone, and in DT1 no initial message.
use Rattle.controller_model.proofs.Prelude.{◌≡◌, ℕ, refl, nat_le, Bool, true, false, if◌then◌else◌, List, Option, AllByRecursion}
use Rattle.controller_model.proofs.Prelude.{Management, Transfer, CompleteLayer3Information, is_dlci, Channel, Message, Data, Request}
use Rattle.controller_model.proofs.Prelude.{Input, Connection, Row, OfRow, Sapi, Zero, Three, dlci_on, row_of, Puts, free, row_messages}
use Rattle.controller_model.proofs.Prelude.{FIRST_SDCCH}
use Rattle.conn_messages.specs.declared.parameters.TheConstants.{SACCH_SAPI_3_DLCI, SDCCH_SAPI_3_DLCI}

abbrev pub IsUsual : Message → Type 0
IsUsual (Request (Management (CompleteLayer3Information cell initial))) = Unit {0}
IsUsual (Request message) = ⊥
IsUsual (Data reference (Management (CompleteLayer3Information cell initial))) = ⊥
IsUsual (Data reference (Transfer dlci message)) = is_dlci dlci ≡ true
IsUsual _ = Unit {0}

abbrev pub AreUsual : List Message → Type 0
AreUsual outs = AllByRecursion IsUsual outs

abbrev pub PutsUsual : Row → Type 0
PutsUsual r = AreUsual r.outs

dlci_usual : (number : ℕ) (sapi : Sapi) → is_dlci (dlci_on number sapi) ≡ true
dlci_usual number Zero = refl
dlci_usual number Three = by (nat_le FIRST_SDCCH number)
  where
    by : (b : Bool) → is_dlci (if b then SDCCH_SAPI_3_DLCI else SACCH_SAPI_3_DLCI) ≡ true
    by true = refl
    by false = refl

usual : (s : Connection) → Puts (free (Unit {0})) IsUsual s
usual s = record {
  assigns = tt;
  commands = λ change target. tt;
  activates = λ c kind reference here. tt;
  establishes = λ c here. tt;
  dismisses = λ c cause here. tt;
  releases = λ c here. tt;
  hands = λ c sapi message here layer3. tt;
  opens = λ initial layer3 few. tt;
  relays = λ reference c sapi message own layer3. dlci_usual c.number sapi;
  completes = λ reference c cause own. tt;
  performs = λ reference c cause own here. tt;
  fails = λ reference cause rr_cause own. tt;
  rejects = λ reference c own. tt;
  refuses = λ reference own. tt;
  asks = λ reference cause own is. tt;
  clears = λ reference own may. tt;
  answers = λ source known. tt;
}

pub usual_row : (s : Connection) (input : Input) (offer : Option Channel) → OfRow PutsUsual (row_of s input offer)
usual_row s input offer = row_messages IsUsual (Unit {0}) s input offer (usual s) (λ is. tt)
