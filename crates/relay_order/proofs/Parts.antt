-- SPDX-License-Identifier: MIT OR Apache-2.0
-- A first part of events: the owners of connections, the messages that mobiles sent, and those with
-- which they connected remain, whatever happens next.
use Rattle.std.proofs.Common.{◌≡◌, ℕ, List, [], ◌∷◌, ◌++◌, Option, Some, None, refl, sym, ap, ◌∙◌, append_assoc, append-nil, option_map}
use Rattle.std.specs.Option.{option_or}
use Rattle.world_laws.proofs.SentGrows.{HasSent, sent_grows}
use Rattle.world_laws.specs.Order.Openers.{first_served, served_by}
use Rattle.world_model.specs.declared.event.Event.{Event}
use Rattle.world_model.specs.Life.{actors_after, actors_after_all}
use Rattle.world_model.specs.Views.{sent}
use Rattle.world_model.specs.World.{Actors, Mobile, mobile_of}
use Rattle.world_openers.specs.Initials.{initial_at, initial_of}

pub or_more : {X : Type 0} (a b c : Option X) (x : X) → (b ≡ Some x → c ≡ Some x) → option_or a b ≡ Some x → option_or a c ≡ Some x
or_more None b c x more is = more is
or_more (Some y) b c x more is = is

pub served_still : (w : Actors) (events more : List Event) (number mobile : ℕ)
    → first_served w events number ≡ Some mobile → first_served w (events ++ more) number ≡ Some mobile
served_still w [] [] number mobile is = is
served_still w [] (event ∷ more) number mobile is = ap (λ (o : Option ℕ). option_or o (first_served (actors_after w event) more number)) is
served_still w (event ∷ events) more number mobile is =
    or_more (served_by w number) (first_served (actors_after w event) events number) (first_served (actors_after w event) (events ++ more) number) mobile
    (served_still (actors_after w event) events more number mobile) is

pub connected_still : (w : Actors) (events more : List Event) (mobile : ℕ) (initial : List ℕ)
    → initial_of w events mobile ≡ Some initial → initial_of w (events ++ more) mobile ≡ Some initial
connected_still w [] more mobile initial is = absurd (cc is)
connected_still w (event ∷ events) more mobile initial is =
    or_more (initial_at w event mobile) (initial_of (actors_after w event) events mobile) (initial_of (actors_after w event) (events ++ more) mobile) initial
    (connected_still (actors_after w event) events more mobile initial) is

-- ---- what a mobile sent

abbrev pub SentMore : Actors → ℕ → List (List ℕ) → Type 0
SentMore w mobile list = (more : List (List ℕ)) × (sent w mobile ≡ Some (list ++ more))

sender : (o : Option Mobile) (list : List (List ℕ)) →
    option_map (λ (p : Mobile). p.end.sent) o ≡ Some list →
    (p : Mobile) × (o ≡ Some p) × (p.end.sent ≡ list)
sender None list is = absurd (cc is)
sender (Some p) list is = (p, refl, cc is)

sent_at_once : (w : Actors) (event : Event) (mobile : ℕ) (list : List (List ℕ)) →
    sent w mobile ≡ Some list →
    SentMore (actors_after w event) mobile list
sent_at_once w event mobile list is =
    let found = sender (mobile_of w mobile) list is in
    let has : HasSent mobile found.0.end.sent (actors_after w event) = sent_grows mobile w event found.0 found.1 in
    (has.more, ap (option_map (λ (p : Mobile). p.end.sent)) has.found ∙ ap (λ (xs : List (List ℕ)). Some xs) (has.is ∙ ap (λ (xs : List (List ℕ)). xs ++ has.more) found.2))

pub sent_still : (w : Actors) (events : List Event) (mobile : ℕ) (list : List (List ℕ)) →
    sent w mobile ≡ Some list →
    SentMore (actors_after_all w events) mobile list
sent_still w [] mobile list is = ([], is ∙ ap (λ (xs : List (List ℕ)). Some xs) (sym (append-nil list)))
sent_still w (event ∷ events) mobile list is =
    let here = sent_at_once w event mobile list is in
    let later = sent_still (actors_after w event) events mobile (list ++ here.0) here.1 in
    (here.0 ++ later.0, later.1 ∙ ap (λ (xs : List (List ℕ)). Some xs) (append_assoc list here.0 later.0))
