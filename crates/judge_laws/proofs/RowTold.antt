-- SPDX-License-Identifier: MIT OR Apache-2.0
-- The messages of a row after which the connection is still open can be applied; then it agrees.
use Rattle.std.proofs.Common.{◌≡◌, ℕ, ◌%◌, ◌⊎◌, Bool, true, false, List, [], ◌∷◌, Option, Some, refl, subst, inl, inr, nat_le}
use Rattle.std.specs.List.{AllByRecursion}
use Rattle.std.specs.Prelude.{if◌then◌else◌, map}
use Rattle.bssmap_codec.specs.declared.bssap.Bssap.TheVariants.{Management, Transfer}
use Rattle.bssmap_codec.specs.declared.bssmap.Bssmap.TheVariants as bssmap
use Rattle.conn_messages.specs.declared.channel.Channel.{Channel}
use Rattle.conn_messages.specs.declared.message.Message.{Message}
use Rattle.conn_messages.specs.declared.message.Message.TheVariants.{Station, Data, ReleaseComplete, Request}
use Rattle.conn_messages.specs.declared.parameters.TheConstants.{SDCCH_SAPI_3_DLCI, SACCH_SAPI_3_DLCI}
use Rattle.conn_messages.specs.SwitchMessage.{relaying}
use Rattle.conn_rules.specs.Connection.{Connection}
use Rattle.conn_rules.specs.declared.input.Input.{Input}
use Rattle.conn_rules.specs.declared.state.State.{State}
use Rattle.conn_rules.specs.declared.state.State.TheVariants.{Closed, Live, Removed, WaitActivation, WaitConfirm, WaitEstablish}
use Rattle.conn_rules.specs.Steps.{Row}
use Rattle.conn_rules.specs.Streams.{IsHandedTo, IsOpen, KeepsDownlink, OfRow}
use Rattle.conn_rules.specs.Table.{row_of}
use Rattle.conn_rules.proofs.Downlink.{KeepsDownlink-row}
use Rattle.conn_rules.proofs.RowPuts.{Puts, free, row_messages}
use Rattle.dtap_codec.specs.declared.sapi.Sapi.{Sapi}
use Rattle.dtap_codec.specs.declared.sapi.Sapi.TheVariants.{Zero, Three}
use Rattle.rsl_codec.specs.declared.channel_number.TheConstants.{FIRST_SDCCH}
use Rattle.run_judge.specs.ConnectionState.{ConnectionState}
use Rattle.run_judge.specs.Judging.{Numbered}
use Rattle.judge_laws.proofs.Agreeing.{prepared_tells, silent}
use Rattle.judge_laws.proofs.NamedRows.{are_plain, named_row}
use Rattle.judge_laws.proofs.Naming.{ArePlain, From, IsNamedRow, IsPlain}
use Rattle.judge_laws.proofs.Told.{IsTold}
use Rattle.judge_laws.specs.Agreeing.{Agrees, IsAsked, IsOpenRow, Prepared, Remains, tells}
use Rattle.judge_laws.specs.Saying.{said_of}

-- DTAP has SAPI 0 or 3
abbrev pub HasSapi : Message → Type 0
HasSapi (Data destination (Transfer dlci message)) = (dlci % 8 ≡ 0) ⊎ (dlci % 8 ≡ 3)
HasSapi _ = Unit {0}

relays_sapi : (reference : ℕ) (c : Channel) (sapi : Sapi) (message : List ℕ) → HasSapi (relaying reference c sapi message)
relays_sapi reference c Zero message = inl refl
relays_sapi reference c Three message = by (nat_le FIRST_SDCCH c.number)
  where
    by : (b : Bool) → let dlci : ℕ = if b then SDCCH_SAPI_3_DLCI else SACCH_SAPI_3_DLCI in (dlci % 8 ≡ 0) ⊎ (dlci % 8 ≡ 3)
    by true = inr refl
    by false = inr refl

puts_sapi : (s : Connection) → Puts (free (Unit {0})) HasSapi s
puts_sapi s = record {
  assigns = tt;
  commands = λ change target. tt;
  activates = λ c kind mark known. tt;
  establishes = λ c known. tt;
  dismisses = λ c cause known. tt;
  releases = λ c known. tt;
  hands = λ c sapi message known layer3. tt;
  opens = λ initial layer3 few. tt;
  relays = λ reference c sapi message known layer3. relays_sapi reference c sapi message;
  completes = λ reference c cause known. tt;
  performs = λ reference c cause known here. tt;
  fails = λ reference cause rr_cause known. tt;
  rejects = λ reference c known. tt;
  refuses = λ reference known. tt;
  asks = λ reference cause known is. tt;
  clears = λ reference known may. tt;
  answers = λ source known. tt;
}

pub row_sapi : (s : Connection) (input : Input) (offer : Option Channel) (r : Row) →
    row_of s input offer ≡ Some r →
    AllByRecursion HasSapi r.outs
row_sapi s input offer r fits = subst (OfRow (λ (q : Row). AllByRecursion HasSapi q.outs)) fits (row_messages HasSapi (Unit {0}) s input offer (puts_sapi s) (λ is. tt))

-- ---- all at once

one_told : (serving : Channel) (k : ℕ) (m : Message) → IsHandedTo serving m → IsPlain k m → HasSapi m → IsTold serving m
one_told serving k (Request message) there plain has = absurd plain
one_told serving k (ReleaseComplete destination) there plain has = tt
one_told serving k (Station station message) there plain has = there
one_told serving k (Data destination (Transfer dlci message)) there plain has = has
one_told serving k (Data destination (Management bssmap.ClearComplete)) there plain has = absurd plain
one_told serving k (Data destination (Management b)) there plain has = tt

all_told : (serving : Channel) (k : ℕ) (ms : List Message) →
    AllByRecursion (IsHandedTo serving) ms →
    ArePlain k ms →
    AllByRecursion HasSapi ms →
    AllByRecursion (IsTold serving) ms
all_told serving k [] there plain has = tt
all_told serving k (m ∷ ms) there plain has = (one_told serving k m there.0 plain.0 has.0, all_told serving k ms there.1 plain.1 has.1)

asked_plain : (input : Input) (outs : List Message) (before after : State) →
    IsAsked before →
    IsOpen after →
    From input outs before after →
    (k : ℕ) × ArePlain k outs
asked_plain input outs WaitConfirm WaitConfirm asked is_open from = (0, are_plain 0 outs from)
asked_plain input outs WaitConfirm (Live reference stage) asked is_open from = (reference, from.1)
asked_plain input outs WaitConfirm WaitActivation asked is_open from = absurd from
asked_plain input outs WaitConfirm WaitEstablish asked is_open from = absurd from
asked_plain input outs WaitConfirm (Closed clearing) asked is_open from = absurd is_open
asked_plain input outs WaitConfirm Removed asked is_open from = absurd is_open
asked_plain input outs (Live reference stage) (Live own next) asked is_open from = (reference, from.1)
asked_plain input outs (Live reference stage) WaitConfirm asked is_open from = absurd from
asked_plain input outs (Live reference stage) WaitActivation asked is_open from = absurd from
asked_plain input outs (Live reference stage) WaitEstablish asked is_open from = absurd from
asked_plain input outs (Live reference stage) (Closed clearing) asked is_open from = absurd is_open
asked_plain input outs (Live reference stage) Removed asked is_open from = absurd is_open
asked_plain input outs WaitActivation after asked is_open from = absurd asked
asked_plain input outs WaitEstablish after asked is_open from = absurd asked
asked_plain input outs (Closed clearing) after asked is_open from = absurd asked
asked_plain input outs Removed after asked is_open from = absurd asked

pub row_told : (s : Connection) (input : Input) (offer : Option Channel) (r : Row) →
    IsOpenRow s input offer r →
    IsAsked s.state →
    AllByRecursion (IsTold r.next.serving) r.outs
row_told s input offer r row asked =
    let plain = asked_plain input r.outs s.state r.next.state asked row.is_open (subst (OfRow (IsNamedRow input s.state)) row.fits (named_row s input offer)) in
    all_told r.next.serving plain.0 r.outs (subst (OfRow (KeepsDownlink Zero s input)) row.fits (KeepsDownlink-row Zero s input offer row.valid)).serving plain.1 (row_sapi s input offer r row.fits)

-- whatever the numbers of the frames are
pub row_agrees : (m number : ℕ) (ns : List Numbered) (s : Connection) (input : Input) (offer : Option Channel) (r : Row) (c : ConnectionState) →
    map (λ (n : Numbered). n.said) ns ≡ map (said_of number) r.outs →
    IsOpenRow s input offer r →
    IsAsked s.state →
    Prepared r c →
    Agrees r.next (tells m ns c) × Remains c (tells m ns c)
row_agrees m number ns s input offer r c said row asked prepared = prepared_tells m number ns r c said (row_told s input offer r row asked) (silent s input offer r row) prepared
