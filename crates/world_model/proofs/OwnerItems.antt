-- SPDX-License-Identifier: MIT OR Apache-2.0
-- A station's item in the inbox is the end of its link, or the text of a message that the station
-- made, which is no CHANNEL ACTIVATION NACK.
use Rattle.world_model.proofs.Prelude.{◌≡◌, ◌≢◌, nat_eq, Bool, true, false, if◌then◌else◌, List, [], ◌∷◌, ◌++◌, map, option_to_list, None}
use Rattle.world_model.proofs.Prelude.{Ok, refl, subst, eqb-true, eqb-false, AllByRecursion, Sccp, SWITCH_LINK, AllByRecursion-append}
use Rattle.world_model.proofs.Prelude.{first_message, first_of_messages, Item, What, Rsl, rsl_text, Parameters, rsl_reading, Event}
use Rattle.world_model.proofs.Prelude.{BasePush, BaseDown, actors_after, actors_after_all, first_of, popped, pushed, station_item}
use Rattle.world_model.proofs.Prelude.{switch_item, rsl_in, Actors, base_of, is_up, new_actors}
use Rattle.ruled_relay.specs.declared.item.What.TheVariants as whats
use Rattle.world_model.specs.Reading.{frame_of}
use Rattle.world_model.proofs.Heard.{Good, end_of, good_new, good_step}
use Rattle.world_model.proofs.Inboxes.{inbox_keeps_order}
use Rattle.world_model.proofs.Soundness.{IsSound, is_nack, sound_read}

abbrev pub IsKnown : What → Type 0
IsKnown (whats.Frame frame) = (message : Rsl) × (frame ≡ frame_of message) × (rsl_reading (rsl_text message) ≡ Ok message) × (is_nack message ≡ false)
IsKnown whats.Down = Unit {0}

-- it is no frame of RSL
abbrev pub IsNoRsl : What → Type 0
IsNoRsl (whats.Frame frame) = rsl_in frame ≡ None
IsNoRsl whats.Down = Unit {0}

pub record IsKnownItem (item : Item) : Type 0 where
  pub station : item.source ≢ SWITCH_LINK → IsKnown item.what
  pub switch : item.source ≡ SWITCH_LINK → IsNoRsl item.what

known_pushed : (w : Actors) (event : Event) → Good w → AllByRecursion IsKnownItem (pushed w event)
known_pushed w (BasePush source) good = by_source (nat_eq source SWITCH_LINK) refl where
  of_switch : source ≡ SWITCH_LINK → (made : List Sccp) → AllByRecursion IsKnownItem (map switch_item (first_of made))
  of_switch is [] = tt
  of_switch is (first ∷ others) = (record { station = λ other. absurd (other refl); switch = λ same. refl }, tt)

  of_station : source ≢ SWITCH_LINK →
      (messages : List Rsl) →
      AllByRecursion IsSound messages →
      AllByRecursion IsKnownItem (map (station_item source) (option_to_list (first_of_messages messages)))
  of_station differ [] all = tt
  of_station differ (first ∷ others) all = (record { station = λ other. (first, refl, sound_read first all.0, all.0.kind); switch = λ same. absurd (differ same) }, tt)

  by_source : (b : Bool) →
      nat_eq source SWITCH_LINK ≡ b →
      AllByRecursion IsKnownItem (if b then map switch_item (first_of w.switch_made) else map (station_item source) (option_to_list (first_message (base_of w source))))
  by_source true is = of_switch (eqb-true source SWITCH_LINK is) w.switch_made
  by_source false is = of_station (eqb-false source SWITCH_LINK is) (base_of w source).messages (end_of w source good).made
known_pushed w (BaseDown source) good = by_link (is_up w source) where
  by_link : (b : Bool) → AllByRecursion IsKnownItem (if b then record { source = source; what = whats.Down } ∷ [] else [])
  by_link true = (record { station = λ other. tt; switch = λ same. tt }, tt)
  by_link false = tt
known_pushed w _ good = tt

behind : (P : Item → Type 0) (xs ys : List Item) → AllByRecursion P (xs ++ ys) → AllByRecursion P ys
behind P [] ys all = all
behind P (x ∷ xs) ys all = behind P xs ys all.1

known_all : (w : Actors) (events : List Event) →
    Good w →
    AllByRecursion IsKnownItem w.inbox →
    AllByRecursion IsKnownItem (actors_after_all w events).inbox
known_all w [] good known = known
known_all w (event ∷ events) good known =
    known_all (actors_after w event) events (good_step w event good)
    (behind IsKnownItem (popped w event) (actors_after w event).inbox (subst (AllByRecursion IsKnownItem) (inbox_keeps_order w event) (AllByRecursion-append IsKnownItem w.inbox (pushed w event) known (known_pushed w event good))))

pub known_inbox : (settings : Parameters) (events : List Event) →
    AllByRecursion IsKnownItem (actors_after_all (new_actors settings) events).inbox
known_inbox settings events = known_all (new_actors settings) events (good_new settings) tt
