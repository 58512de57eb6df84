-- SPDX-License-Identifier: MIT OR Apache-2.0
-- Whose connection it is, event by event.
use Rattle.world_laws.proofs.Prelude.{◌≡◌, ℕ, Bool, false, if◌then◌else◌, List, [], ◌∷◌, ◌++◌, option_map, Option, Some, None, refl, sym}
use Rattle.world_laws.proofs.Prelude.{ap, ◌∙◌, option_and_then, option_or, none-some, same_Some, State, WaitConfirm, Connection}
use Rattle.world_laws.proofs.Prelude.{connection_of, Entry, entry_of, place_of, Event, actors_after, actors_after_all, mobile_on, Actors}
use Rattle.world_laws.proofs.Prelude.{tenure_at, first_served, has_asked, served, served_by}

-- ---- one world

pub served_there : (w : Actors) (number : ℕ) (s : Connection) → connection_of w.controller number ≡ Some s → served_by w number ≡ served w s
served_there w number s there = by (entry_of w.controller number) there where
  by : (o : Option Entry) →
      option_map (λ (e : Entry). e.connection) o ≡ Some s →
      option_and_then (λ (e : Entry). served w e.connection) o ≡ served w s
  by None is = absurd (none-some s is)
  by (Some e) is = ap (served w) (same_Some e.connection s is)

pub served_absent : (w : Actors) (number : ℕ) → connection_of w.controller number ≡ None → served_by w number ≡ None
served_absent w number absent = by (entry_of w.controller number) absent where
  by : (o : Option Entry) →
      option_map (λ (e : Entry). e.connection) o ≡ None →
      option_and_then (λ (e : Entry). served w e.connection) o ≡ None
  by None is = refl
  by (Some e) is = absurd (none-some e.connection (sym is))

-- one that hasn't asked the switch is nobody's yet
pub served_asking : (w : Actors) (number : ℕ) (s : Connection) →
    connection_of w.controller number ≡ Some s →
    has_asked s.state ≡ false →
    served_by w number ≡ None
served_asking w number s there asking =
    served_there w number s there ∙ ap (λ (b : Bool). if b then option_map (λ p. p.number) (mobile_on w (tenure_at w (place_of s.serving))) else None) asking

-- one that just asked is its mobile's
pub served-confirming : (w : Actors) (s : Connection) →
    s.state ≡ WaitConfirm →
    served w s ≡ option_map (λ p. p.number) (mobile_on w (tenure_at w (place_of s.serving)))
served-confirming w s is = ap (λ (state : State). if has_asked state then option_map (λ p. p.number) (mobile_on w (tenure_at w (place_of s.serving))) else None) is

-- ---- one event more

or_assoc : (a b c : Option ℕ) → option_or a (option_or b c) ≡ option_or (option_or a b) c
or_assoc None b c = refl
or_assoc (Some x) b c = refl

pub snoc_served : (w : Actors) (events : List Event) (event : Event) (number : ℕ) →
    first_served w (events ++ event ∷ []) number ≡ option_or (first_served w events number) (served_by (actors_after (actors_after_all w events) event) number)
snoc_served w [] event number = refl
snoc_served w (x ∷ xs) event number =
    ap (option_or (served_by w number)) (snoc_served (actors_after w x) xs event number)
    ∙ or_assoc (served_by w number) (first_served (actors_after w x) xs number) (served_by (actors_after (actors_after_all (actors_after w x) xs) event) number)
