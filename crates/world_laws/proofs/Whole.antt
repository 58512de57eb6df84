-- SPDX-License-Identifier: MIT OR Apache-2.0
-- The messages on their way up are whole, whatever happened.
use Rattle.world_laws.proofs.Prelude.{◌≡◌, ℕ, ◌==◌, Bool, true, false, if◌then◌else◌, List, [], ◌∷◌, ◌++◌, Option, Some, None, Ok, Err}
use Rattle.world_laws.proofs.Prelude.{refl, AllByRecursion, flat_map, result_ok, Place, sapi_of, Sapi}
use Rattle.world_laws.proofs.Prelude.{Zero, RSL_STREAM, RelayItem, What, RslFault, Rsl, IsL3, rsl_reading, Parameters, Event}
use Rattle.world_laws.proofs.Prelude.{rsl_in, Actors, base_of, new_actors, end_of, good_all, good_new, IsSound, Result, IsFull, rsl_full}
use Rattle.world_laws.proofs.Prelude.{messages_in, released, of_main, of_establishment, brings, brings_if, brings_by, brings_in, made_of}
use Rattle.world_laws.proofs.Prelude.{MessagesAreWhole, AreLayer3}
use Rattle.world_laws.specs.LineUp.Places.{Item}
use Rattle.world_laws.specs.LineUp.Places.Item.{brought}
use Rattle.ruled_relay.specs.declared.item.What.TheVariants as whats
use Rattle.rsl_codec.specs.declared.rsl.Rsl.TheVariants as rsl
use Rattle.world_laws.proofs.Events.{world}

-- ---- of a station's message

AreWhole : List Item → Type 0
AreWhole items = AreLayer3 (messages_in items)

main_whole : (o : Option Sapi) (message : List ℕ) → IsL3 (Some message) → AreWhole (of_main o message)
unfolding AreWhole
main_whole (Some Zero) message l3 = (l3, tt)
main_whole _ message l3 = tt

establishment_whole : (o : Option Sapi) (initial : Option (List ℕ)) → IsL3 initial → AreWhole (of_establishment o initial)
unfolding AreWhole
establishment_whole o None l3 = tt
establishment_whole o (Some message) l3 = main_whole o message l3

if_whole : (b : Bool) (items : List Item) → AreWhole items → AreWhole (if b then items else [])
unfolding AreWhole
if_whole true items whole = whole
if_whole false items whole = tt

brings_whole : (channel : ℕ) (v : Rsl) → IsFull v → AreWhole (brings channel v)
unfolding AreWhole
brings_whole channel (rsl.EstablishIndication e) full = if_whole (e.channel == channel) (of_establishment (sapi_of e.link) e.l3) (establishment_whole (sapi_of e.link) e.l3 full)
brings_whole channel (rsl.DataIndication d) full = if_whole (d.channel == channel) (of_main (sapi_of d.link) d.l3) (main_whole (sapi_of d.link) d.l3 full)
brings_whole channel (rsl.RfChannelReleaseAck number) full = if_whole (number == channel) (released ∷ []) tt
brings_whole channel _ full = tt

-- ---- of lists

append_whole : (xs ys : List Item) → AreWhole xs → AreWhole ys → AreWhole (xs ++ ys)
unfolding AreWhole
append_whole [] ys first rest = rest
append_whole (brought message ∷ xs) ys first rest = (first.0, append_whole xs ys first.1 rest)
append_whole (released ∷ xs) ys first rest = append_whole xs ys first rest

all_whole : {X : Type 0} (of : X → List Item) (P : X → Type 0) →
    ((x : X) → P x → AreWhole (of x)) →
    (xs : List X) →
    AllByRecursion P xs →
    AreWhole (flat_map of xs)
unfolding AreWhole
all_whole of P each [] all = tt
all_whole of P each (x ∷ xs) all = append_whole (of x) (flat_map of xs) (each x all.0) (all_whole of P each xs all.1)

-- ---- of an item of the inbox, whatever it is

read_whole : (channel : ℕ) (octets : List ℕ) (r : Result Rsl RslFault) → rsl_reading octets ≡ r → AreWhole (brings_if channel (result_ok r))
unfolding AreWhole
read_whole channel octets (Ok v) is = brings_whole channel v (rsl_full octets v is)
read_whole channel octets (Err fault) is = tt

frame_whole : (channel : ℕ) (b : Bool) (octets : List ℕ) → AreWhole (brings_if channel (if b then result_ok (rsl_reading octets) else None))
unfolding AreWhole
frame_whole channel true octets = read_whole channel octets (rsl_reading octets) refl
frame_whole channel false octets = tt

by_whole : (at : Place) (source : ℕ) (what : What) → AreWhole (brings_by at source what)
unfolding AreWhole
by_whole at source (whats.Frame frame) = if_whole (source == at.station) (brings_if at.number (rsl_in frame)) (frame_whole at.number (frame.stream == RSL_STREAM) frame.body)
by_whole at source whats.Down = tt

inbox_whole : (at : Place) (items : List RelayItem) → AreWhole (flat_map (brings_in at) items)
unfolding AreWhole
inbox_whole at [] = tt
inbox_whole at (item ∷ items) = append_whole (brings_in at item) (flat_map (brings_in at) items) (by_whole at item.source item.what) (inbox_whole at items)

-- ---- of what a station made

sound_full : (v : Rsl) → IsSound v → IsFull v
sound_full (rsl.EstablishIndication e) sound = sound.lawful.1
sound_full (rsl.DataIndication d) sound = sound.lawful.1
sound_full _ sound = tt

pub messages_are_whole_new : (settings : Parameters) (events : List Event) → MessagesAreWhole settings events
unfolding AreWhole
messages_are_whole_new settings events at =
    let w : Actors = world settings events in
    let made : List Rsl = (base_of w at.station).messages in
    append_whole (flat_map (brings_in at) w.inbox) (made_of at.number made) (inbox_whole at w.inbox)
    (all_whole (brings at.number) IsSound (λ v sound. brings_whole at.number v (sound_full v sound)) made (end_of w at.station (good_all (new_actors settings) events (good_new settings))).made)
