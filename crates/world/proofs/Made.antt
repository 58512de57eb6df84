-- SPDX-License-Identifier: MIT OR Apache-2.0
-- Worlds that events made from a beginning.
use Rattle.std.proofs.Common.{◌≡◌, ℕ, zero, suc, ◌+◌, ◌<◌, ◌≤◌, List, [], ◌∷◌, ◌++◌, length, take, drop, get_or, Result, Ok, Err, IfOk, OnOk, sym, ap, ◌∙◌, subst, arith, add-one, drop-cons}
use Rattle.std.specs.List.{AllByRecursion}
use Rattle.conn_rules.proofs.DownlinkMessages.{AllByRecursion-append}
use Rattle.settings.specs.Parameters.{AreAllowed, Parameters}
use Rattle.world_laws.specs.Order.OctetEvents.{AreOctetEvents, IsOctetEvent}
use Rattle.world_model.specs.declared.event.Event.{Event}
use Rattle.world_model.specs.declared.event.Event.TheVariants.{BaseDown}
use Rattle.world.specs.declared.world.Scene.{Scene}
use Rattle.world.specs.declared.world.Scene.TheVariants.{Fixed, Controlled}
use Rattle.world.specs.WorldState.{WorldState}
use Rattle.world.specs.World.{after, after_all, broken, controlled_world}
use Rattle.world.specs.Headline.{AreEventsFor, IsInOrder, IsMadeBy}
use Rattle.world.specs.Headline.Begins.{controlled}
use Rattle.world.proofs.Order.{IsInOrder-reached, after_all-append}

-- ---- lists

-- one more of the elements holds it, so all do where those behind it do
pub one_more : {X : Type 0} (P : X → Type 0) (xs : List X) (i : ℕ) (x : X) → i < length xs → x ≡ get_or xs i x → P x
    → (AllByRecursion P (drop i xs) → AllByRecursion P xs) → AllByRecursion P (drop (i + 1) xs) → AllByRecursion P xs
one_more P xs i x lt is holds so_far behind =
    so_far (subst (AllByRecursion P) (sym (drop-cons xs i x lt)) (subst P is holds, subst (λ (n : ℕ). AllByRecursion P (drop n xs)) (add-one i) behind))

-- none is left behind the last one
pub none_left : {X : Type 0} (P : X → Type 0) (n : ℕ) (xs : List X) → length xs ≤ n → AllByRecursion P (drop n xs)
none_left P zero [] le = tt
none_left P zero (x ∷ xs) le = absurd (omega arith)
none_left P (suc n) [] le = tt
none_left P (suc n) (x ∷ xs) le = none_left P n xs (omega arith)

all_taken : {X : Type 0} (P : X → Type 0) (n : ℕ) (xs : List X) → AllByRecursion P xs → AllByRecursion P (take n xs)
all_taken P zero xs all = tt
all_taken P (suc n) [] all = tt
all_taken P (suc n) (x ∷ xs) all = (all.0, all_taken P n xs all.1)

all_left : {X : Type 0} (P : X → Type 0) (n : ℕ) (xs : List X) → AllByRecursion P xs → AllByRecursion P (drop n xs)
all_left P zero xs all = all
all_left P (suc n) [] all = tt
all_left P (suc n) (x ∷ xs) all = all_left P n xs all.1

-- ---- events of octets

more_for : (scene : Scene) (before events : List Event) →
    AreEventsFor scene before →
    AreOctetEvents events →
    AreEventsFor scene (before ++ events)
more_for (Fixed world) before events first second = tt
more_for (Controlled w) before events first second = AllByRecursion-append IsOctetEvent before events first second

broken_octets : (events : List Event) (place source : ℕ) → AreOctetEvents events → AreOctetEvents (broken events place source)
broken_octets events place source all =
    AllByRecursion-append IsOctetEvent (take place events) (BaseDown source ∷ drop place events) (all_taken IsOctetEvent place events all) (tt, all_left IsOctetEvent place events all)

-- ---- what is made

pub made_more : (begin old new : WorldState) (before events : List Event) →
    AreOctetEvents events →
    new ≡ after_all old events →
    IsMadeBy begin before old →
    IsMadeBy begin (before ++ events) new
made_more begin old new before events octets is made = record {
  begins = made.begins;
  octets = more_for begin.scene before events made.octets octets;
  made = is ∙ ap (λ (world : WorldState). after_all world events) made.made ∙ sym (after_all-append begin before events);
}

pub in_order : (begin world : WorldState) (events : List Event) → IsMadeBy begin events world → IsInOrder begin.scene events world.scene
in_order begin world events made =
    subst (λ (world : WorldState). IsInOrder begin.scene events world.scene) (sym made.made) (IsInOrder-reached begin events made.begins made.octets)

-- after one event
pub made_by_one : {X E : Type 0} (r : Result X E) (old new : WorldState) (event : Event) → IsOctetEvent event → OnOk r (new ≡ after old event)
    → OnOk r ((begin : WorldState) (before : List Event) → IsMadeBy begin before old → IsMadeBy begin (before ++ event ∷ []) new)
made_by_one (Ok x) old new event octets is = λ begin before made. made_more begin old new before (event ∷ []) (octets, tt) is made
made_by_one (Err e) old new event octets is = tt

pub in_order_by_one : {X E : Type 0} (r : Result X E) (old new : WorldState) (event : Event) → IsOctetEvent event → OnOk r (new ≡ after old event)
    → OnOk r ((begin : WorldState) (before : List Event) → IsMadeBy begin before old → IsInOrder begin.scene (before ++ event ∷ []) new.scene)
in_order_by_one (Ok x) old new event octets is = λ begin before made.
    in_order begin new (before ++ event ∷ []) (made_more begin old new before (event ∷ []) (octets, tt) is made)
in_order_by_one (Err e) old new event octets is = tt

-- with a break among events
broken_made : (settings : Parameters) (events : List Event) (place source : ℕ) (world : WorldState) → AreAllowed settings → AreOctetEvents events → world ≡ after_all (controlled_world settings) (broken events place source)
    → IsMadeBy (controlled_world settings) (broken events place source) world
broken_made settings events place source world allowed octets is = record { begins = controlled settings allowed; octets = broken_octets events place source octets; made = is }

pub made_broken : {E : Type 0} (r : Result WorldState E) (settings : Parameters) (events : List Event) (place source : ℕ) → AreAllowed settings → AreOctetEvents events
    → IfOk r (λ world. world ≡ after_all (controlled_world settings) (broken events place source))
    → IfOk r (λ world. IsMadeBy (controlled_world settings) (broken events place source) world)
made_broken (Ok world) settings events place source allowed octets is = broken_made settings events place source world allowed octets is
made_broken (Err e) settings events place source allowed octets is = tt

pub in_order_broken : {E : Type 0} (r : Result WorldState E) (settings : Parameters) (events : List Event) (place source : ℕ) → AreAllowed settings → AreOctetEvents events
    → IfOk r (λ world. world ≡ after_all (controlled_world settings) (broken events place source))
    → IfOk r (λ world. IsInOrder (controlled_world settings).scene (broken events place source) world.scene)
in_order_broken (Ok world) settings events place source allowed octets is =
    in_order (controlled_world settings) world (broken events place source) (broken_made settings events place source world allowed octets is)
in_order_broken (Err e) settings events place source allowed octets is = tt
