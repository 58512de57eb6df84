-- SPDX-License-Identifier: MIT OR Apache-2.0
-- A step puts the messages of a connection on its own channels.
use Rattle.controller_model.proofs.Prelude.{◌≡◌, ℕ, ◌≤◌, List, [], Option, Some, None, refl, sym, subst, Channel, Message, SWITCH_LINK}
use Rattle.controller_model.proofs.Prelude.{Connection, ArePutOn, channels_in_use, Row, AreApart, IsOpen, OfRow, used_channels, AreAllowed}
use Rattle.controller_model.proofs.Prelude.{Parameters, PutsOnOwn, Using, uses_of, Acts, Brought, IsAged, brought_in, ages, takes_row}
use Rattle.controller_model.proofs.Prelude.{opens}
use Rattle.controller_model.proofs.Prelude.{rests, connection_of, OwnsOpen, KeepsToChannels, used_by, Step, Controller, is_up, life}
use Rattle.conn_rules.proofs.PutRows.{puts_on_own}
use Rattle.controller_model.proofs.LifeLaws.Fitting.{IsFine, aged_holds, fine_old}
use Rattle.controller_model.proofs.LifeLaws.Lives.{life_fits}
use Rattle.controller_model.proofs.LifeLaws.OwningLife.{life_owns}
use Rattle.controller_model.proofs.LifeLaws.Turns.{step_does}
use Rattle.controller_model.proofs.LifeLaws.UplinkLife.{used_apart}

-- the channels of an open connection are apart
ApartOf : Connection → Type 0
ApartOf s = IsOpen s.state → AreApart (used_channels s)

pub ApartIn : Option Connection → Type 0
ApartIn None = Unit {0}
ApartIn (Some s) = ApartOf s

pub owned_apart : (c : Controller) (n : ℕ) (o : Option Connection) → OwnsOpen c.channels c.links n o → ApartIn o
unfolding ApartIn ApartOf
owned_apart c n None owns = tt
owned_apart c n (Some s) owns = λ is_open. used_apart s (owns is_open).apart

-- time changes no channel
aged_apart : (old s : Connection) → IsAged old s → ApartOf old → ApartOf s
unfolding ApartOf
aged_apart old s aged apart = aged_holds (λ (c : Connection). IsOpen c.state → AreApart (used_channels c)) (λ ms c is. is) old s aged apart

aged_uses : (old s : Connection) → IsAged old s → channels_in_use s ≡ channels_in_use old
aged_uses old s aged = aged_holds (λ (c : Connection). channels_in_use c ≡ channels_in_use old) (λ ms c is. is) old s aged refl

nothing_put : (uses : Using) (put : List Message) → put ≡ [] → ArePutOn uses put
nothing_put uses put is = subst (ArePutOn uses) (sym is) tt

some_apart : (before : Option Connection) (old : Connection) → before ≡ Some old → ApartIn before → ApartOf old
unfolding ApartIn
some_apart before old is apart = subst ApartIn is apart

pub acts_placed : (number next : ℕ) (up : _) (brought : Brought) (before after : Option Connection) (put : List Message) →
    Acts number next up brought before put after →
    IsFine before →
    ApartIn before →
    ArePutOn (used_by before) put
unfolding ApartOf
acts_placed number next up brought before after put (rests silent same none) fine apart = nothing_put (used_by before) put silent
acts_placed number next up brought before after put (ages old s is_time is aged silent same) fine apart = nothing_put (used_by before) put silent
acts_placed number next up brought before after put (opens begins linked channel request delay is_nothing none put_is same) fine apart = subst (ArePutOn (used_by before)) (sym put_is) (tt, tt)
acts_placed number next up brought before after put (takes_row old s input offer r is aged by fits put_is same) fine apart =
    let valid = (fine_old before old s is aged fine).1 in
    let own : PutsOnOwn s r.outs = subst (OfRow (λ (q : Row). PutsOnOwn s q.outs)) fits (puts_on_own s input offer valid (aged_apart old s aged (some_apart before old is apart))) in
    subst (λ (o : Option Connection). ArePutOn (used_by o) put) (sym is)
    (subst (λ (cs : List Channel). ArePutOn (uses_of cs) put) (aged_uses old s aged) (subst (ArePutOn (uses_of (channels_in_use s))) (sym put_is) own))

pub life_placed : (p : Parameters) (steps : List Step) (s : Step) (number : ℕ) →
    AreAllowed p →
    1 ≤ number →
    KeepsToChannels number (life p steps).next s
life_placed p steps s number allowed from_one =
    let c : Controller = (life p steps).next in
    let fits = life_fits p steps number from_one in
    let does = step_does number c s from_one fits.numbered in
    record {
      put = does.put;
      outs = does.outs;
      placed = acts_placed number c.next_number (is_up c SWITCH_LINK) (brought_in c number s) (connection_of c number) _ does.put does.acts fits.fine (owned_apart c number (connection_of c number) (life_owns p steps number allowed));
    }
