-- SPDX-License-Identifier: MIT OR Apache-2.0
-- What the acknowledgements of a channel show of what is on its way up from it.
use Rattle.world_laws.proofs.Prelude.{◌≡◌, ◌≢◌, ℕ, ◌==◌, nat_eq, Bool, true, false, if◌then◌else◌, List, [], ◌∷◌, ◌++◌, map, Option, Some}
use Rattle.world_laws.proofs.Prelude.{None, option_to_list, refl, sym, ap, ◌∙◌, subst, append_assoc, inl, inr, arith, ◌≤◌, flat_map}
use Rattle.world_laws.proofs.Prelude.{AllByRecursion, result_ok, cases_Bool, cond-true, cond-false, eqb-true, eq-eqb, ne_eqb}
use Rattle.world_laws.proofs.Prelude.{flat_map-append, append-nil, filter-append, Sccp, Place, SWITCH_LINK, sapi_of, Sapi, Zero, Three}
use Rattle.world_laws.proofs.Prelude.{first_message, first_of_messages, is_active, Tenures, is_bound_of, tenure_brings, apart, Item, What}
use Rattle.world_laws.proofs.Prelude.{Rsl, Parameters, Event, BasePush, BaseDown, actors_after, acknowledgements, due}
use Rattle.world_laws.proofs.Prelude.{first_of, pushed, all_pushed, all_popped, station_item, switch_item, rsl_in, Actors, base_of, is_up}
use Rattle.world_laws.proofs.Prelude.{new_actors, outbox_of, Good, end_of, good_new, good_step, IsSound, sound_read, false≢true, Result}
use Rattle.world_laws.proofs.Prelude.{released, is_brought_on, AreHonest-new, KeepsQueues-new, ArePipes-new, read_by, read_of, messages_up}
use Rattle.world_laws.proofs.Prelude.{is_release_ack, NoneReleases, ReleasesLast, AllAcksShowEnd, AcksFlow, of_main, of_establishment, brings}
use Rattle.world_laws.proofs.Prelude.{brings_if, brings_by, brings_in, coming_up, is_ended, EndsLast}
use Rattle.world_laws.specs.LineUp.Places.{Item as Brought}
use Rattle.link_model.specs.Tenures.Tenures.{over, begins, ends}
use Rattle.ruled_relay.specs.declared.item.What.TheVariants as whats
use Rattle.rsl_codec.specs.declared.rsl.Rsl.TheVariants as rsl
use Rattle.world_model.specs.Honest.{given, all_given}
use Rattle.world_laws.proofs.Events.{world}

-- ---- stations' messages bring what is on its way up from a channel

pub if-read : (channel : ℕ) (b : Bool) (o : Option Rsl) →
    (if b then brings_if channel o else []) ≡ flat_map (brings channel) (if b then option_to_list o else [])
if-read channel true None = refl
if-read channel true (Some m) = sym (append-nil (brings channel m))
if-read channel false o = refl

pub by_read : (at : Place) (source : ℕ) (what : What) →
    brings_by at source what ≡ flat_map (brings at.number) (read_by at.station source what)
by_read at source (whats.Frame frame) = if-read at.number (source == at.station) (rsl_in frame)
by_read at source whats.Down = refl

pub inbox_read : (at : Place) (items : List Item) →
    flat_map (brings_in at) items ≡ flat_map (brings at.number) (flat_map (read_of at.station) items)
inbox_read at [] = refl
inbox_read at (item ∷ items) =
    ap (λ (xs : List Brought). xs ++ flat_map (brings_in at) items) (by_read at item.source item.what)
    ∙ ap (λ (xs : List Brought). flat_map (brings at.number) (read_of at.station item) ++ xs) (inbox_read at items)
    ∙ sym (flat_map-append (brings at.number) (read_of at.station item) (flat_map (read_of at.station) items))

pub coming_read : (w : Actors) (at : Place) → coming_up w at ≡ flat_map (brings at.number) (messages_up w at.station)
coming_read w at =
    ap (λ (xs : List Brought). xs ++ flat_map (brings at.number) (base_of w at.station).messages) (inbox_read at w.inbox)
    ∙ sym (flat_map-append (brings at.number) (flat_map (read_of at.station) w.inbox) (base_of w at.station).messages)

-- ---- one message

pub unbound : (k : ℕ) (m : Rsl) (ms : List Rsl) → is_bound_of k m ≡ false → acknowledgements k (m ∷ ms) ≡ acknowledgements k ms
unbound k m ms is = cond-false _ (m ∷ acknowledgements k ms) (acknowledgements k ms) is

pub bound : (k : ℕ) (m : Rsl) (ms : List Rsl) → is_bound_of k m ≡ true → acknowledgements k (m ∷ ms) ≡ m ∷ acknowledgements k ms
bound k m ms is = cond-true _ (m ∷ acknowledgements k ms) (acknowledgements k ms) is

pub brought_unbound : (k : ℕ) (m : Rsl) → is_brought_on k m ≡ true → is_bound_of k m ≡ false
brought_unbound k (rsl.EstablishIndication e) is = refl
brought_unbound k (rsl.DataIndication d) is = refl
brought_unbound k _ is = absurd (false≢true is)

-- messages alone, before others
Leads : List Brought → Type 0
Leads first = (rest : List Brought) → (EndsLast rest → EndsLast (first ++ rest)) × (is_ended (first ++ rest) ≡ is_ended rest)

leads_none : Leads []
unfolding Leads
leads_none rest = ((λ last. last), refl)

leads_main : (o : Option Sapi) (message : List ℕ) → Leads (of_main o message)
unfolding Leads
leads_main (Some Zero) message rest = ((λ last. last), refl)
leads_main (Some Three) message rest = ((λ last. last), refl)
leads_main None message rest = ((λ last. last), refl)

leads_establishment : (o : Option Sapi) (initial : Option (List ℕ)) → Leads (of_establishment o initial)
leads_establishment o None = leads_none
leads_establishment o (Some message) = leads_main o message

leads_if : (b : Bool) (first : List Brought) → Leads first → Leads (if b then first else [])
leads_if true first leads = leads
leads_if false first leads = leads_none

-- all but an RF CHANNEL RELEASE ACK of the channel bring messages alone
leads_of : (k : ℕ) (m : Rsl) → is_release_ack m ≡ false → Leads (brings k m)
leads_of k (rsl.EstablishIndication e) is = leads_if (e.channel == k) (of_establishment (sapi_of e.link) e.l3) (leads_establishment (sapi_of e.link) e.l3)
leads_of k (rsl.DataIndication d) is = leads_if (d.channel == k) (of_main (sapi_of d.link) d.l3) (leads_main (sapi_of d.link) d.l3)
leads_of k (rsl.RfChannelReleaseAck channel) is = absurd (false≢true (sym is))
leads_of k _ is = leads_none

brought_leads : (k : ℕ) (m : Rsl) → is_brought_on k m ≡ true → Leads (brings k m)
brought_leads k (rsl.EstablishIndication e) is = leads_of k (rsl.EstablishIndication e) refl
brought_leads k (rsl.DataIndication d) is = leads_of k (rsl.DataIndication d) refl
brought_leads k _ is = absurd (false≢true is)

pub apart_brings : (k : ℕ) (m : Rsl) → is_brought_on k m ≡ false → is_bound_of k m ≡ false → brings k m ≡ []
apart_brings k (rsl.EstablishIndication e) is not_bound = cond-false _ (of_establishment (sapi_of e.link) e.l3) [] is
apart_brings k (rsl.DataIndication d) is not_bound = cond-false _ (of_main (sapi_of d.link) d.l3) [] is
apart_brings k (rsl.RfChannelReleaseAck channel) is not_bound = cond-false _ (released ∷ []) [] not_bound
apart_brings k _ is not_bound = refl

-- ---- what acknowledgements show

-- outside a tenure nothing arrives before the next ACTIVATION ACK
pub nothing_outside : {end : Bool} (k : ℕ) (ms : List Rsl) →
    Tenures k false ms end →
    acknowledgements k ms ≡ [] →
    flat_map (brings k) ms ≡ []
nothing_outside k [] (over within) none = refl
nothing_outside k (m ∷ ms) (begins t) none = absurd (let some : m ∷ acknowledgements k ms ≡ [] = sym (bound k m ms (eq-eqb k k refl)) ∙ none in cc)
nothing_outside k (m ∷ ms) (ends t) none = absurd (let some : m ∷ acknowledgements k ms ≡ [] = sym (bound k m ms (eq-eqb k k refl)) ∙ none in cc)
nothing_outside k (m ∷ ms) (apart not_brought not_bound t) none =
    ap (λ (xs : List Brought). xs ++ flat_map (brings k) ms) (apart_brings k m not_brought not_bound) ∙ nothing_outside k ms t (sym (unbound k m ms not_bound) ∙ none)

released_alone : (k : ℕ) (rest : List Brought) → rest ≡ [] → EndsLast (brings k (rsl.RfChannelReleaseAck k) ++ rest)
released_alone k rest none = subst (λ (b : Bool). EndsLast ((if b then released ∷ [] else []) ++ rest)) (sym (eq-eqb k k refl)) none

ends_last : {within end : Bool} (k : ℕ) (ms : List Rsl) →
    Tenures k within ms end →
    ReleasesLast (acknowledgements k ms) →
    EndsLast (flat_map (brings k) ms)
unfolding Leads
ends_last k [] (over within) last = tt
ends_last k (m ∷ ms) (begins t) last = ends_last k ms t (subst ReleasesLast (bound k m ms (eq-eqb k k refl)) last).1
ends_last k (m ∷ ms) (tenure_brings is t) last =
    (brought_leads k m is (flat_map (brings k) ms)).0 (ends_last k ms t (subst ReleasesLast (unbound k m ms (brought_unbound k m is)) last))
ends_last k (m ∷ ms) (ends t) last = released_alone k (flat_map (brings k) ms) (nothing_outside k ms t ((subst ReleasesLast (bound k m ms (eq-eqb k k refl)) last).0 refl))
ends_last k (m ∷ ms) (apart not_brought not_bound t) last =
    subst (λ (xs : List Brought). EndsLast (xs ++ flat_map (brings k) ms)) (sym (apart_brings k m not_brought not_bound)) (ends_last k ms t (subst ReleasesLast (unbound k m ms not_bound) last))

-- without an RF CHANNEL RELEASE ACK of the channel
tail_none : (b : Bool) (m : Rsl) (ms : List Rsl) → NoneReleases (if b then m ∷ ms else ms) → NoneReleases ms
tail_none true m ms none = none.1
tail_none false m ms none = none

carries_on : (k : ℕ) (ms : List Rsl) → NoneReleases (acknowledgements k ms) → is_ended (flat_map (brings k) ms) ≡ false
unfolding Leads
carries_on k [] none = refl
carries_on k (m ∷ ms) none = by m none (carries_on k ms (tail_none (is_bound_of k m) m (acknowledgements k ms) none)) where
  releases : (b : Bool) (channel : ℕ) → NoneReleases (if b then rsl.RfChannelReleaseAck channel ∷ acknowledgements k ms else acknowledgements k ms) → is_ended (flat_map (brings k) ms) ≡ false
      → is_ended ((if b then released ∷ [] else []) ++ flat_map (brings k) ms) ≡ false
  releases true channel all rest = absurd (false≢true (sym all.0))
  releases false channel all rest = rest

  by : (x : Rsl) →
      NoneReleases (acknowledgements k (x ∷ ms)) →
      is_ended (flat_map (brings k) ms) ≡ false →
      is_ended (brings k x ++ flat_map (brings k) ms) ≡ false
  by (rsl.RfChannelReleaseAck channel) all rest = releases (channel == k) channel all rest
  by x all rest = (leads_of k x refl (flat_map (brings k) ms)).1 ∙ rest

-- ---- the inbox holds what stations gave, as it is read

same_if : (b : Bool) → [] ≡ (let xs : List Rsl = if b then [] else [] in xs)
same_if true = refl
same_if false = refl

station-read : (station source : ℕ) (messages : List Rsl) → AllByRecursion IsSound messages →
    flat_map (read_of station) (map (station_item source) (option_to_list (first_of_messages messages))) ≡ (if source == station then option_to_list (first_of_messages messages) else [])
station-read station source [] sound = same_if (source == station)
station-read station source (first ∷ others) sound =
    append-nil (read_of station (station_item source first)) ∙ ap (λ (r : Result Rsl _). if source == station then option_to_list (result_ok r) else []) (sound_read first sound.0)

pub of_other : (station source : ℕ) (what : What) → source == station ≡ false → read_by station source what ≡ []
of_other station source (whats.Frame frame) other = cond-false _ (option_to_list (rsl_in frame)) [] other
of_other station source whats.Down other = refl

switch_read : (station : ℕ) (made : List Sccp) → station ≢ SWITCH_LINK → flat_map (read_of station) (map switch_item (first_of made)) ≡ []
switch_read station [] other = refl
switch_read station (first ∷ others) other =
    append-nil (read_of station (switch_item first)) ∙ of_other station SWITCH_LINK (switch_item first).what (ne_eqb SWITCH_LINK station (λ same. other (sym same)))

own_first : (w : Actors) (station source : ℕ) →
    (if source == station then option_to_list (first_message (base_of w source)) else []) ≡ given station w (BasePush source)
own_first w station source = elim (cases_Bool (nat_eq source station)) [
  | inl same ↦ ap (λ (n : ℕ). if source == station then option_to_list (first_message (base_of w n)) else []) (eqb-true source station same)
  | inr other ↦ cond-false _ (option_to_list (first_message (base_of w source))) [] other ∙ sym (cond-false _ (option_to_list (first_message (base_of w station))) [] other)
]

pub pushed-read : (station : ℕ) (w : Actors) (event : Event) →
    station ≢ SWITCH_LINK →
    Good w →
    flat_map (read_of station) (pushed w event) ≡ given station w event
pushed-read station w (BasePush source) other good = elim (cases_Bool (nat_eq source SWITCH_LINK)) [
  | inl switch ↦
      ap (flat_map (read_of station)) (cond-true _ (map switch_item (first_of w.switch_made)) (map (station_item source) (option_to_list (first_message (base_of w source)))) switch)
      ∙ switch_read station w.switch_made other
      ∙ sym (cond-false _ (option_to_list (first_message (base_of w station))) [] (ne_eqb source station (λ same. other (sym same ∙ eqb-true source SWITCH_LINK switch))))
  | inr of_station ↦
      ap (flat_map (read_of station)) (cond-false _ (map switch_item (first_of w.switch_made)) (map (station_item source) (option_to_list (first_message (base_of w source)))) of_station)
      ∙ station-read station source (base_of w source).messages (end_of w source good).made
      ∙ own_first w station source
]
pushed-read station w (BaseDown source) other good = by (is_up w source) where
  by : (b : Bool) → flat_map (read_of station) (if b then record { source = source; what = whats.Down } ∷ [] else []) ≡ []
  by true = refl
  by false = refl
pushed-read station w _ other good = refl

all_read : (station : ℕ) (w : Actors) (events : List Event) →
    station ≢ SWITCH_LINK →
    Good w →
    flat_map (read_of station) (all_pushed w events) ≡ all_given station w events
all_read station w [] other good = refl
all_read station w (event ∷ events) other good =
    flat_map-append (read_of station) (pushed w event) (all_pushed (actors_after w event) events)
    ∙ ap (λ (ms : List Rsl). ms ++ flat_map (read_of station) (all_pushed (actors_after w event) events)) (pushed-read station w event other good)
    ∙ ap (λ (ms : List Rsl). given station w event ++ ms) (all_read station (actors_after w event) events other (good_step w event good))

-- what was given consists of what the controller took and what waits in the inbox
pub given_read : (settings : Parameters) (events : List Event) (station : ℕ) → station ≢ SWITCH_LINK →
    all_given station (new_actors settings) events ≡ flat_map (read_of station) (all_popped (new_actors settings) events) ++ flat_map (read_of station) (world settings events).inbox
given_read settings events station other =
    sym (all_read station (new_actors settings) events other (good_new settings))
    ∙ ap (flat_map (read_of station)) (KeepsQueues-new settings events).inbox
    ∙ flat_map-append (read_of station) (all_popped (new_actors settings) events) (world settings events).inbox

-- ---- the laws

pub behind : {within end : Bool} (k : ℕ) (xs ys : List Rsl) → Tenures k within (xs ++ ys) end → (b : Bool) × Tenures k b ys end
behind {within} k [] ys t = (within, t)
behind k (x ∷ xs) ys (begins t) = behind k xs ys t
behind k (x ∷ xs) ys (tenure_brings is t) = behind k xs ys t
behind k (x ∷ xs) ys (ends t) = behind k xs ys t
behind k (x ∷ xs) ys (apart not_brought not_bound t) = behind k xs ys t

pub all_acks_show_end_new : (settings : Parameters) (events : List Event) → AllAcksShowEnd settings events
all_acks_show_end_new settings events at other =
    let w : Actors = world settings events in
    let taken : List Rsl = flat_map (read_of at.station) (all_popped (new_actors settings) events) in
    let honest = AreHonest-new settings events at.station other at.number in
    let up = behind at.number taken (messages_up w at.station)
    (subst (λ (ms : List Rsl). Tenures at.number false ms honest.0)
    (ap (λ (ms : List Rsl). ms ++ (base_of w at.station).messages) (given_read settings events at.station other) ∙ append_assoc taken (flat_map (read_of at.station) w.inbox) (base_of w at.station).messages) honest.1) in
    record {
      last = λ releases. subst EndsLast (sym (coming_read w at)) (ends_last at.number (messages_up w at.station) up.1 releases);
      none = λ releases. ap is_ended (coming_read w at) ∙ carries_on at.number (messages_up w at.station) releases;
    }

pub acks_flow_new : (settings : Parameters) (events : List Event) → AcksFlow settings events
acks_flow_new settings events at least most up =
    let w : Actors = world settings events in
    let taken : List Rsl = flat_map (read_of at.station) (all_popped (new_actors settings) events) in
    let reads : List Rsl = flat_map (read_of at.station) w.inbox in
    let made : List Rsl = (base_of w at.station).messages in
    let still : List Rsl = due at.number (is_active (base_of w at.station).active at.number) (outbox_of w at.station) in
    (ArePipes-new settings events at.station at.number least most).flows up
    ∙ ap (λ (ms : List Rsl). acknowledgements at.number ms ++ (acknowledgements at.number made ++ still)) (given_read settings events at.station (λ is. not_zero is least))
    ∙ ap (λ (ms : List Rsl). ms ++ (acknowledgements at.number made ++ still)) (filter-append (is_bound_of at.number) taken reads)
    ∙ append_assoc (acknowledgements at.number taken) (acknowledgements at.number reads) (acknowledgements at.number made ++ still)
    ∙ ap (λ (ms : List Rsl). acknowledgements at.number taken ++ ms) (sym (append_assoc (acknowledgements at.number reads) (acknowledgements at.number made) still))
    ∙ ap (λ (ms : List Rsl). acknowledgements at.number taken ++ (ms ++ still)) (sym (filter-append (is_bound_of at.number) reads made)) where
      not_zero : at.station ≡ 0 → 1 ≤ at.station → ⊥
      not_zero is least = absurd (omega arith)
