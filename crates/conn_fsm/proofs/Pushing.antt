-- SPDX-License-Identifier: MIT OR Apache-2.0
-- Putting messages one after the other, by their places.
use Rattle.std.proofs.Common.{◌≡◌, ◌≢◌, ◌≤◌, ◌<◌, ◌+◌, ℕ, zero, suc, List, [], ◌∷◌, ◌++◌, map, take, drop, length, slice_get, unwrap_or, Option, Some, None, Result, Ok, Err, option_map, Bool, true, false, not, ◌&&◌, if◌then◌else◌, refl, ap, sym, subst, ◌∙◌, arith}
use Rattle.std.specs.List.{AllByRecursion}
use Rattle.conn_messages.specs.declared.channel.Channel.{Channel}
use Rattle.conn_rules.specs.declared.state.Drain.{Drain}
use Rattle.bssmap_codec.specs.Layer3.{IsLayer3}
use Rattle.conn_messages.specs.declared.channel.Place.{Place}
use Rattle.conn_messages.specs.declared.message.Message.{Message}
use Rattle.conn_messages.specs.SwitchMessage.{relaying}
use Rattle.conn_rules.specs.Connection.{drain_at, first_channel, is_at, tenure_at}
use Rattle.conn_rules.specs.Validity.{IsHeldTenure}
use Rattle.conn_rules.specs.Steps.{tenure_outs}
use Rattle.dtap_codec.specs.declared.sapi.Sapi.{Sapi}
use Rattle.dtap_codec.specs.declared.sapi.Sapi.TheVariants.{Zero, Three}
use Rattle.hold_queue.specs.ChainState.{TenureHold, messages_in, tenure_messages, tenures_count}
use Rattle.octets.specs.declared.memory.Memory.{Memory}
use Rattle.conn_fsm.specs.Doing.{WantsForHeld}
use Rattle.conn_fsm.specs.Views.{joined}
use Rattle.std.proofs.lemmas.List.{append-nil, append_assoc, drop_all, map-append, take_all}
use Rattle.std.proofs.lemmas.Option.{get_or_from_slice_get, slice_get_within}
use Rattle.std.proofs.Math.Seq.{take-suc}
use Rattle.std.proofs.Math.Numerals.{add-one}

-- one more of a list
pub pushed : {A B : Type 0} (f : A → B) (xs : List A) (n : ℕ) (x : A) →
    slice_get xs n ≡ Some x →
    map f (take n xs) ++ f x ∷ [] ≡ map f (take (n + 1) xs)
pushed f xs n x got =
    rw (add-one n, take-suc xs n x (slice_get_within xs n x got), get_or_from_slice_get xs n x x got, map-append f (take n xs) (x ∷ [])) refl

-- a message is put for the next of a list
pub put_next : {A B : Type 0} (f : A → B) (xs : List A) (n : ℕ) (x : A) (old put new : List B) (message : B) →
    new ≡ put ++ message ∷ [] → put ≡ old ++ map f (take n xs) → message ≡ f x → slice_get xs n ≡ Some x → new ≡ old ++ map f (take (n + 1) xs)
put_next f xs n x old put new message one before is got =
    rw (one, before, is, sym (pushed f xs n x got)) (simp append_assoc)

-- one more is copied
pub copied_next : {A : Type 0} (xs : List A) (n : ℕ) (x : A) (old list new : List A) →
    new ≡ list ++ x ∷ [] → list ≡ old ++ take n xs → slice_get xs n ≡ Some x → new ≡ old ++ take (n + 1) xs
copied_next xs n x old list new one before got =
    rw (one, before, add-one n, take-suc xs n x (slice_get_within xs n x got), get_or_from_slice_get xs n x x got) (simp append_assoc)

-- what holds of all holds of each
pub all_at : {X : Type 0} (P : X → Type 0) (xs : List X) (n : ℕ) (x : X) → AllByRecursion P xs → slice_get xs n ≡ Some x → P x
all_at P [] n x all got = absurd (omega (arith, slice_get_within [] n x got))
all_at P (y ∷ ys) zero x all got = subst P (ap (λ o. unwrap_or o x) got) all.0
all_at P (y ∷ ys) (suc n) x all got = all_at P ys n x all.1 got

-- the whole list, where there is none at the next place
pub all_taken : {X : Type 0} (xs : List X) (n : ℕ) → slice_get xs n ≡ None → take n xs ≡ xs
all_taken [] n none = take_all n [] (omega arith)
all_taken (x ∷ xs) zero none = absurd (grind (arith, none))
all_taken (x ∷ xs) (suc n) none = ap (λ rest. x ∷ rest) (all_taken xs n none)

-- a list that has one at some place isn't empty
pub taken_there : {X : Type 0} (xs : List X) (n : ℕ) (x : X) → slice_get xs n ≡ Some x → xs ≢ []
taken_there [] n x got = absurd (omega (arith, slice_get_within [] n x got))
taken_there (y ∷ ys) n x got = λ none. absurd (cc)

-- the channel of a tenure, by its place
pub channel_at : (ds : List Drain) (serving : Channel) (n : ℕ) (d : Drain) →
    slice_get ds n ≡ Some d →
    first_channel (drop n ds) serving ≡ d.channel
channel_at [] serving n d got = absurd (omega (arith, slice_get_within [] n d got))
channel_at (x ∷ xs) serving zero d got = ap (λ (o : Option Drain). (unwrap_or o d).channel) got
channel_at (x ∷ xs) serving (suc n) d got = channel_at xs serving n d got

pub channel_behind : (ds : List Drain) (serving : Channel) (n : ℕ) → slice_get ds n ≡ None → first_channel (drop n ds) serving ≡ serving
channel_behind [] serving n none = rw (drop_all {X = Drain} n [] (omega arith)) refl
channel_behind (x ∷ xs) serving zero none = absurd (grind (arith, none))
channel_behind (x ∷ xs) serving (suc n) none = channel_behind xs serving n none

-- ---- what is held in a tenure

pub held_in : (place : ℕ) (sapi : Sapi) (ts : List TenureHold) →
    AllByRecursion IsHeldTenure ts →
    AllByRecursion IsLayer3 (messages_in place sapi ts)
held_in place sapi [] held = tt
held_in zero Zero (t ∷ ts) held = held.0.0
held_in zero Three (t ∷ ts) held = held.0.1
held_in (suc place) sapi (t ∷ ts) held = held_in place sapi ts held.1

pub few_in : (place : ℕ) (sapi : Sapi) (ts : List TenureHold) → length (messages_in place sapi ts) ≤ tenures_count ts
few_in place sapi [] = omega arith
few_in zero Zero (t ∷ ts) = omega arith
few_in zero Three (t ∷ ts) = omega arith
few_in (suc place) sapi (t ∷ ts) = omega (arith, few_in place sapi ts)

-- both SAPIs, one behind the other
pub tenure_is : (reference : ℕ) (channel : Channel) (place : ℕ) (ts : List TenureHold) →
    tenure_outs reference channel (drop place ts)
    ≡ map (relaying reference channel Zero) (messages_in place Zero ts) ++ map (relaying reference channel Three) (messages_in place Three ts)
tenure_is reference channel place [] = rw (drop_all {X = TenureHold} place [] (omega arith)) refl
tenure_is reference channel zero (t ∷ ts) = refl
tenure_is reference channel (suc place) (t ∷ ts) = tenure_is reference channel place ts

pub tenure_put : (reference : ℕ) (channel : Channel) (place : ℕ) (ts : List TenureHold) (old half new : List Message) →
    new ≡ half ++ map (relaying reference channel Three) (messages_in place Three ts) → half ≡ old ++ map (relaying reference channel Zero) (messages_in place Zero ts) →
    new ≡ old ++ tenure_outs reference channel (drop place ts)
tenure_put reference channel place ts old half new second first =
    rw (second, first, tenure_is reference channel place ts) (simp append_assoc)

-- the tenure of an old channel is there
drain_next : (found : Option ℕ) (count place : ℕ) →
    ((n : ℕ) → found ≡ Some n → n < count) →
    option_map (λ n. suc n) found ≡ Some place →
    place < count + 1
drain_next None count place within got = absurd (grind (arith, got))
drain_next (Some n) count place within got = subst (λ m. m < count + 1) (ap (λ o. unwrap_or o 0) got) (omega (arith, within n refl))

drain_first : (here : Bool) (found : Option ℕ) (count place : ℕ) →
    ((n : ℕ) → found ≡ Some n → n < count) →
    (if here then Some 0 else option_map (λ n. suc n) found) ≡ Some place →
    place < count + 1
drain_first true found count place within got = subst (λ m. m < count + 1) (ap (λ o. unwrap_or o 0) got) (omega arith)
drain_first false found count place within got = drain_next found count place within got

pub drain_within : (at : Place) (ds : List Drain) (place : ℕ) → drain_at at ds ≡ Some place → place < length ds
drain_within at [] place got = absurd (grind (arith, got))
drain_within at (d ∷ ds) place got =
    rw (sym (add-one (length ds))) (drain_first (is_at at d.channel && not d.is_done) (drain_at at ds) (length ds) place (λ n found. drain_within at ds n found) got)

tenure_first : (here : Bool) (found : Option ℕ) (count place : ℕ) →
    ((n : ℕ) → found ≡ Some n → n < count) →
    (if here then Some count else found) ≡ Some place →
    place < count + 1
tenure_first true found count place within got = subst (λ m. m < count + 1) (ap (λ o. unwrap_or o 0) got) (omega arith)
tenure_first false found count place within got = omega (arith, within place got)

pub tenure_within : (at : Place) (serving : Channel) (ds : List Drain) (place : ℕ) →
    tenure_at at serving ds ≡ Some place →
    place < length ds + 1
tenure_within at serving ds place got = tenure_first (is_at at serving) (drain_at at ds) (length ds) place (λ n found. drain_within at ds n found) got

-- one tenure more is joined to those before it
joined_next : (sapi : Sapi) (ts : List TenureHold) (n : ℕ) →
    joined sapi (take (suc n) ts) ≡ joined sapi (take n ts) ++ messages_in n sapi ts
joined_next sapi [] n = rw (take_all {A = TenureHold} n [] (omega arith)) refl
joined_next sapi (t ∷ ts) zero = append-nil (tenure_messages t sapi)
joined_next sapi (t ∷ ts) (suc n) =
    ap (λ rest. tenure_messages t sapi ++ rest) (joined_next sapi ts n) ∙ sym (append_assoc (tenure_messages t sapi) (joined sapi (take n ts)) (messages_in n sapi ts))

pub joined_more : (sapi : Sapi) (ts : List TenureHold) (n : ℕ) (list new : List (List ℕ)) →
    new ≡ list ++ messages_in n sapi ts → list ≡ joined sapi (take n ts) → new ≡ joined sapi (take (n + 1) ts)
joined_more sapi ts n list new one before = rw (one, before, add-one n) (sym (joined_next sapi ts n))

front_empty : {X : Type 0} (xs ys : List X) → xs ++ ys ≡ [] → xs ≡ []
front_empty [] ys none = refl
front_empty (x ∷ xs) ys none = absurd (cc)

rest_empty : {X : Type 0} (xs ys : List X) → xs ++ ys ≡ [] → ys ≡ []
rest_empty [] ys none = none
rest_empty (x ∷ xs) ys none = absurd (cc)

-- what is held in a tenure is among what is held of all
tenure_joined : (place : ℕ) (sapi : Sapi) (ts : List TenureHold) → messages_in place sapi ts ≢ [] → joined sapi ts ≢ []
tenure_joined place sapi [] some = some
tenure_joined zero sapi (t ∷ ts) some = λ none. some (front_empty (tenure_messages t sapi) (joined sapi ts) none)
tenure_joined (suc place) sapi (t ∷ ts) some = λ none. tenure_joined place sapi ts some (rest_empty (tenure_messages t sapi) (joined sapi ts) none)

pub tenure_wants : {T : Type 0} (r : Result T Memory) (place : ℕ) (sapi : Sapi) (ts : List TenureHold) →
    messages_in place sapi ts ≢ [] →
    WantsForHeld r (joined sapi ts)
tenure_wants (Ok x) place sapi ts some = tt
tenure_wants (Err e) place sapi ts some = tenure_joined place sapi ts some

-- ---- what a function's attribute names together

-- the channel of a tenure
pub ruleset channels = (channel_at, channel_behind)

-- the messages of a tenure, one put after the other
pub ruleset tenure_puts = (held_in, few_in, tenure_put)
