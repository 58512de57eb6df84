-- SPDX-License-Identifier: MIT OR Apache-2.0
-- A row that asks the switch to clear does so with a cause of one octet.
use Rattle.world_laws.proofs.Prelude.{ℕ, Option, Some, ◌<◌, refl, arith, AllByRecursion, Channel, Message, Data, Input, State, Connection, Row}
use Rattle.world_laws.proofs.Prelude.{OfRow, row_of, HasFairCause}
use Rattle.conn_rules.proofs.RowPuts.{Enters, HasCause, Kinds, Puts, loose, loose_brings, loose_parts, row_puts}

-- a CLEAR REQUEST has a cause of one octet
abbrev pub IsSmallMessage : Message → Type 0
IsSmallMessage (Data destination message) = HasFairCause (Some message)
IsSmallMessage _ = Unit {0}

abbrev IsSmall : ℕ → Type 0
IsSmall cause = cause < 256

abbrev small : Kinds
small = loose IsSmall (Unit {0})

-- and so is the one that is due
abbrev pub HasSmall : State → Type 0
HasSmall state = HasCause small state

abbrev pub IsSmallRow : Row → Type 0
IsSmallRow r = HasSmall r.next.state × AllByRecursion IsSmallMessage r.outs

puts : (s : Connection) → Puts small IsSmallMessage s
puts s = record {
  assigns = tt;
  commands = λ change target. tt;
  activates = λ c kind reference here. tt;
  establishes = λ c here. tt;
  dismisses = λ c cause here. tt;
  releases = λ c here. tt;
  hands = λ c sapi message here layer3. tt;
  opens = λ initial layer3 few. tt;
  relays = λ reference c sapi message own layer3. tt;
  completes = λ reference c cause own. tt;
  performs = λ reference c cause own here. tt;
  fails = λ reference cause rr_cause own. tt;
  rejects = λ reference c own. tt;
  refuses = λ reference own. tt;
  asks = λ reference cause own is. (cause, is, refl);
  clears = λ reference own may. tt;
  answers = λ source known. tt;
}

enters : Enters small (λ state request. HasSmall state)
enters = record {
  establishes = λ before request is. tt;
  confirms = λ before request is. tt;
  once_live = λ before request reference stage is own. tt;
  due = λ before request cause is fair. fair;
  asks = λ before request reference is own. tt;
  clears = λ before request is. tt;
  removes = λ before request is. tt;
}

pub row_small : (s : Connection) (input : Input) (offer : Option Channel) → HasSmall s.state → OfRow IsSmallRow (row_of s input offer)
row_small s input offer is =
    let parts = loose_parts IsSmall (Unit {0}) s offer is (omega arith, omega arith, omega arith) in
    row_puts small IsSmallMessage (λ state request. HasSmall state) s offer (puts s) enters parts is input (loose_brings IsSmall (Unit {0}) input (λ clear. tt))
