-- SPDX-License-Identifier: MIT OR Apache-2.0
-- A property that each event keeps holds of all runs.
use Rattle.std.proofs.Common.{List, [], ◌∷◌, ◌++◌, sym, subst, append_assoc}
use Rattle.std.proofs.lemmas.List.{append-nil}
use Rattle.settings.specs.Parameters.{Parameters}
use Rattle.world_laws.specs.OthersFrame.{TookOctets}
use Rattle.world_laws.proofs.Order.Controllers.{octets_front}
use Rattle.world_model.specs.declared.event.Event.{Event}

all_through : (P : List Event → Type 0) → ((events : List Event) (event : Event) → P events → P (events ++ event ∷ []))
    → (done rest : List Event) → P done → P (done ++ rest)
all_through P next done [] at = subst P (sym (append-nil done)) at
all_through P next done (event ∷ rest) at =
    subst P (append_assoc done (event ∷ []) rest) (all_through P next (done ++ event ∷ []) rest (next done event at))

pub each_event : (P : List Event → Type 0) → P [] → ((events : List Event) (event : Event) → P events → P (events ++ event ∷ []))
    → (events : List Event) → P events
each_event P first next events = all_through P next [] events first

-- where what arrived is octets
pub each_octet_event : (settings : Parameters) (P : List Event → Type 0) → P []
    → ((events : List Event) (event : Event) → TookOctets settings (events ++ event ∷ []) → P events → P (events ++ event ∷ []))
    → (events : List Event) → TookOctets settings events → P events
each_octet_event settings P first next =
    each_event (λ events. TookOctets settings events → P events) (λ octets. first)
    (λ events event before octets. next events event octets (before (octets_front settings events (event ∷ []) octets)))
