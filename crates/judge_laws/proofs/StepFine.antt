-- SPDX-License-Identifier: MIT OR Apache-2.0
-- A row within a step: what is known when it is done, what its frames say, and that they keep what
-- holds of the controller and the judge.
use Rattle.std.proofs.Common.{◌≡◌, ℕ, Bool, List, [], ◌∷◌, Option, Some, None, refl, sym, subst, ap, ◌∙◌, arith, option_map}
use Rattle.std.specs.List.{AllByRecursion}
use Rattle.std.specs.Prelude.{map}
use Rattle.conn_messages.specs.declared.channel.Channel.{Channel}
use Rattle.conn_messages.specs.declared.message.Message.{Message}
use Rattle.conn_messages.specs.declared.message.Message.TheVariants.{Station, Data, ReleaseComplete, Request}
use Rattle.conn_messages.specs.Out.{IsSound, outs_of}
use Rattle.conn_rules.specs.Connection.{Connection}
use Rattle.conn_rules.specs.declared.input.Input.{Input}
use Rattle.conn_rules.specs.declared.state.State.{State}
use Rattle.conn_rules.specs.declared.state.State.TheVariants.{Removed}
use Rattle.conn_rules.specs.Roles.{target_channels, target_role}
use Rattle.conn_rules.specs.Steps.{Row}
use Rattle.conn_rules.specs.Streams.{OfRow, target_in}
use Rattle.conn_rules.specs.Table.{row_of}
use Rattle.conn_rules.specs.Validity.{IsCarried}
use Rattle.conn_rules.proofs.Channels.{all_within}
use Rattle.conn_rules.proofs.RowPuts.{Puts, free, row_messages}
use Rattle.controller_model.specs.Controller.{Controller, Entry, Turn, entry_of, turn}
use Rattle.controller_model.specs.Life.{by_fitting, by_row, entry_after}
use Rattle.controller_model.specs.LifeLaws.History.{connection_of}
use Rattle.controller_model.specs.LifeLaws.Acts.{kept_in}
use Rattle.controller_model.proofs.LifeLaws.Acting.{row_found}
use Rattle.controller_model.proofs.LifeLaws.Entries.{back_over}
use Rattle.controller_model.proofs.LifeLaws.OwningWords.{Holds, owns_entry}
use Rattle.controller_model.proofs.LifeLaws.SoundLife.{IsSoundAll, SoundOf, SoundParts, offer_list, some_sound}
use Rattle.controller_model.proofs.LifeLaws.SoundMessages.{IsSoundChannel}
use Rattle.controller_model.proofs.LifeLaws.SoundRows.{IsSoundRow, RefersBy, row_sound}
use Rattle.controller_model.proofs.LifeLaws.UsingRows.{LinkIsAlive}
use Rattle.controller_model.proofs.LifeLaws.UsingWords.{IsHere}
use Rattle.controller_model.proofs.LifeLaws.Words.{decide_same}
use Rattle.controller_model.proofs.Numbers.{keeps_number}
use Rattle.run_judge.specs.Connection.{IsWithoutFault}
use Rattle.run_judge.specs.Judging.{Judging, Numbered, after_all, all_ended}
use Rattle.judge_laws.proofs.Commands.{activation_shows}
use Rattle.judge_laws.proofs.Fine.{AreFine, KnowsNone}
use Rattle.judge_laws.proofs.HeardFine.{IsReady}
use Rattle.judge_laws.proofs.Puts.{messages_say}
use Rattle.judge_laws.proofs.WholeRowsAll.{rows_keep}
use Rattle.judge_laws.proofs.WholeRowsNow.{AreMine, RowNow, mine_views}
use Rattle.judge_laws.specs.Saying.{IsOnLink, ShowsReference, put_says, said_of}

-- its channels are nobody else's for the judge, where they are in use by it
pub entry_mine : (links : List Bool) (c : Controller) (e : Entry) (input : Input) (r : Row) (j : Judging) →
    entry_of c e.connection.number ≡ Some e →
    Holds links c →
    IsReady c e input r j →
    AreMine e j
entry_mine links c e input r j there holds ready is_open = mine_views c.channels j e.connection.number (e.connection.serving ∷ target_channels (target_role e.connection.state)) ready.owners (owns_entry links c e there holds is_open).using

-- ---- a turn

-- its frames, read by the judge, keep what holds, and no connection that ends by them has a fault
abbrev pub KeepsFine : Turn → Judging → Type 0
KeepsFine t j = KnowsNone j → (ns : List Numbered) → map (λ (k : Numbered). k.said) ns ≡ map put_says t.outs
    → AreFine t.next (after_all j ns) × AllByRecursion IsWithoutFault (all_ended j ns)

pub nothing_keeps : (c : Controller) (j : Judging) → AreFine c j → KeepsFine (turn [] c) j
nothing_keeps c j fine unknown [] is = (fine, tt)
nothing_keeps c j fine unknown (n ∷ ns) is = absurd cc

-- ---- what the frames of a row say

abbrev Shows : Message → Type 0
Shows (Station station message) = ShowsReference message
Shows _ = Unit {0}

puts_shows : (s : Connection) → Puts (free (Unit {0})) Shows s
puts_shows s = record {
  assigns = tt;
  commands = λ change target. tt;
  activates = λ c kind mark known. activation_shows c.number kind.0 mark;
  establishes = λ c known. tt;
  dismisses = λ c cause known. tt;
  releases = λ c known. tt;
  hands = λ c sapi message known layer3. tt;
  opens = λ initial layer3 few. tt;
  relays = λ reference c sapi message known layer3. tt;
  completes = λ reference c cause known. tt;
  performs = λ reference c cause known here. tt;
  fails = λ reference cause rr_cause known. tt;
  rejects = λ reference c known. tt;
  refuses = λ reference known. tt;
  asks = λ reference cause known is. tt;
  clears = λ reference known may. tt;
  answers = λ source known. tt;
}

row_shows : (s : Connection) (input : Input) (offer : Option Channel) (r : Row) →
    row_of s input offer ≡ Some r →
    AllByRecursion Shows r.outs
row_shows s input offer r fits = subst (OfRow (λ (q : Row). AllByRecursion Shows q.outs)) fits (row_messages Shows (Unit {0}) s input offer (puts_shows s) (λ is. tt))

-- none of them is put on the switch's link
on_link : (links : List Bool) (ms : List Message) →
    AllByRecursion (LinkIsAlive links) ms →
    AllByRecursion Shows ms →
    AllByRecursion IsOnLink ms
on_link links [] alive shows = tt
on_link links (Station station message ∷ ms) alive shows = ((alive.0.1, shows.0), on_link links ms alive.1 shows.1)
on_link links (Request message ∷ ms) alive shows = (tt, on_link links ms alive.1 shows.1)
on_link links (Data destination message ∷ ms) alive shows = (tt, on_link links ms alive.1 shows.1)
on_link links (ReleaseComplete destination ∷ ms) alive shows = (tt, on_link links ms alive.1 shows.1)

-- its messages can be written, and its connection can write messages
pub row_parts : (links : List Bool) (c : Controller) (e : Entry) (input : Input) (offer : Option Channel) (r : Row) →
    IsHere links c e →
    SoundParts e.connection →
    row_of e.connection input offer ≡ Some r →
    ((d : Channel) → offer ≡ Some d → IsSoundChannel d) →
    IsCarried input →
    RefersBy input →
    AllByRecursion IsSound r.outs × SoundParts r.next
row_parts links c e input offer r here sound fits offered carried refers =
    let s : Connection = e.connection in
    let in_row : IsSoundRow r = subst (OfRow IsSoundRow) fits (row_sound s input offer (record { serving = sound.serving; zero = here.valid.down_zero; three = here.valid.down_three; up = here.valid.up_messages; refers = sound.refers }) sound.targets (offer_list offer offered) carried refers) in
    let within : (r.next.number ≡ s.number) × IsSoundChannel r.next.serving × AllByRecursion IsSoundChannel (target_in r.next.state) = subst (OfRow (λ (q : Row). (q.next.number ≡ s.number) × IsSoundChannel q.next.serving × AllByRecursion IsSoundChannel (target_in q.next.state))) fits (all_within IsSoundChannel IsSoundChannel s input offer s.number (refl, sound.serving, sound.targets) sound.targets (offer_list offer offered)) in
    (in_row.1, record { serving = within.1; targets = within.2; refers = in_row.0 })

pub entry_parts : (links : List Bool) (c : Controller) (e : Entry) → IsHere links c e → IsSoundAll c → SoundParts e.connection
entry_parts links c e here sound = some_sound (connection_of c e.connection.number) e.connection (ap (option_map (λ (x : Entry). x.connection)) here.there) (sound.each e.connection.number)

-- what is known of the messages of a row
pub record RowWrites (new : List Bool) (input : Input) (offer : Option Channel) (r : Row) : Type 0 where
  pub alive : AllByRecursion (LinkIsAlive new) r.outs
  pub offered : (d : Channel) → offer ≡ Some d → IsSoundChannel d
  pub carried : IsCarried input
  pub refers : RefersBy input

pub row_says : (links new : List Bool) (c : Controller) (e : Entry) (input : Input) (offer : Option Channel) (r : Row) →
    IsHere links c e →
    IsSoundAll c →
    row_of e.connection input offer ≡ Some r →
    RowWrites new input offer r →
    map put_says (outs_of e.connection.number r.outs) ≡ map (said_of e.connection.number) r.outs
row_says links new c e input offer r here sound fits writes =
    let below = here.below in
    let next = sound.next in
    messages_say e.connection.number r.outs (omega arith)
    (row_parts links c e input offer r here (entry_parts links c e here sound) fits writes.offered writes.carried writes.refers).0
    (on_link new r.outs writes.alive (row_shows e.connection input offer r fits))

-- ---- behind a row all connections can write messages

kept_parts : (state : State) (s : Connection) → SoundParts s → SoundOf (kept_in state s)
unfolding SoundOf
kept_parts Removed s sound = tt
kept_parts _ s sound = sound

pub row_all : (links : List Bool) (c : Controller) (e : Entry) (input : Input) (offer : Option Channel) (r : Row) →
    IsHere links c e →
    IsSoundAll c →
    row_of e.connection input offer ≡ Some r →
    ((d : Channel) → offer ≡ Some d → IsSoundChannel d) →
    IsCarried input →
    RefersBy input →
    IsSoundAll (by_row e r c).next
row_all links c e input offer r here sound fits offered carried refers =
    let m : ℕ = e.connection.number in
    let keeps : r.next.number ≡ m = subst (λ (o : Option Row). OfRow (λ (q : Row). q.next.number ≡ m) o) fits (keeps_number e.connection input offer) in
    let parts = row_parts links c e input offer r here (entry_parts links c e here sound) fits offered carried refers in
    record {
      each = λ n. decide_same n m (SoundOf (connection_of (by_row e r c).next n))
          (λ same. subst (λ (k : ℕ). SoundOf (connection_of (by_row e r c).next k)) (sym same) (subst SoundOf (sym (row_found c e e r here.rising keeps here.there)) (kept_parts r.next.state r.next parts.1)))
          (λ differ. subst SoundOf (sym (ap (option_map (λ (x : Entry). x.connection)) (back_over n (entry_after c.settings e r) c.entries (λ same. differ (same ∙ keeps))))) (sound.each n));
      cells = sound.cells;
      next = sound.next;
    }

-- ---- a row, by what is known of it

pub row_keeps : (links new : List Bool) (c : Controller) (e : Entry) (input : Input) (offer : Option Channel) (r : Row) (j : Judging) →
    RowNow links c e input offer r →
    RowWrites new input offer r →
    IsSoundAll c →
    AreMine e j →
    IsReady c e input r j →
    KeepsFine (by_row e r c) j
row_keeps links new c e input offer r j now writes sound mine ready unknown ns is = rows_keep links c e input offer r j ns unknown now mine ready (is ∙ row_says links new c e input offer r now.here sound now.fits writes)

-- a row that fits, or none
pub fitting_keeps : (c : Controller) (otherwise : Turn) (e : Entry) (o : Option Row) (j : Judging) →
    (o ≡ None → KeepsFine otherwise j) →
    ((r : Row) → o ≡ Some r → KeepsFine (by_row e r c) j) →
    KeepsFine (by_fitting otherwise e o c) j
fitting_keeps c otherwise e None j none some = none refl
fitting_keeps c otherwise e (Some r) j none some = some r refl
