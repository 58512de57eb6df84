-- SPDX-License-Identifier: MIT OR Apache-2.0
-- The messages that the switch took on a connection, followed by those that wait for it, event by
-- event.
use Rattle.std.proofs.Common.{◌≡◌, ℕ, false, List, [], ◌++◌, map, refl, sym, ap, ◌∙◌, append_assoc}
use Rattle.std.proofs.lemmas.List.{append-nil, map-append}
use Rattle.conn_messages.specs.declared.out.Out.{Out}
use Rattle.conn_messages.specs.declared.parameters.TheConstants.{SWITCH_LINK}
use Rattle.controller_model.specs.declared.forwarded.Forwarded.{Forwarded}
use Rattle.controller_model.specs.Views.{forwarded}
use Rattle.world_laws.specs.Ended.{DeliversAt}
use Rattle.world_laws.specs.LineUps.{taken_of, waiting_of}
use Rattle.world_laws.proofs.Others.{forwarded-append}
use Rattle.world_laws.proofs.SwitchTook.{switch_remains, waiting_in}
use Rattle.world_model.specs.declared.event.Event.{Event}
use Rattle.world_model.specs.declared.line.OutboxEntry.{OutboxEntry}
use Rattle.world_model.specs.Life.{actors_after}
use Rattle.world_model.specs.Queues.{put, taken}
use Rattle.world_model.specs.World.{Actors, Link, is_up, outbox_of}
use Rattle.world_model.proofs.Outboxes.{Step, step}
use Rattle.world_model.proofs.Outboxes.Step.{breaks, kept_order}

waiting-append : (entries more : List OutboxEntry) (number : ℕ)
    → waiting_in (entries ++ more) number ≡ waiting_in entries number ++ waiting_in more number
waiting-append entries more number =
    ap (λ (outs : List Out). map (λ f. f.message) (forwarded outs number)) (map-append (λ (entry : OutboxEntry). entry.out) entries more)
    ∙ ap (λ (fs : List Forwarded). map (λ f. f.message) fs)
    (forwarded-append (map (λ entry. entry.out) entries) (map (λ entry. entry.out) more) number)
    ∙ map-append (λ (f : Forwarded). f.message) (forwarded (map (λ entry. entry.out) entries) number)
    (forwarded (map (λ entry. entry.out) more) number)

pub none_waits : (number : ℕ) → waiting_in [] number ≡ []
unfolding forwarded
none_waits number = refl

-- more may join it; or the link of the switch breaks, and what waits is lost
pub data Moves (w v : Actors) (number : ℕ) : Type 0 where
  joins : (more : List (List ℕ)) → taken_of v number ++ waiting_of v number ≡ (taken_of w number ++ waiting_of w number) ++ more
      → Moves w v number
  is_cut : is_up v SWITCH_LINK ≡ false → taken_of v number ≡ taken_of w number → Moves w v number

-- where what the switch takes of it is taken as it was put
pub moves_at : (w : Actors) (event : Event) (number : ℕ) → DeliversAt w number event → Moves w (actors_after w event) number
moves_at w event number delivers = by (step SWITCH_LINK w event) where
  v : Actors
  v = actors_after w event

  first : List (List ℕ)
  first = waiting_in (taken SWITCH_LINK w event) number

  more : List (List ℕ)
  more = waiting_in (put SWITCH_LINK w event) number

  takes : taken_of v number ≡ taken_of w number ++ first
  takes = switch_remains w event number delivers

  by : Step SWITCH_LINK w event v → Moves w v number
  by (kept_order same flows) =
      joins more
      (ap (λ (xs : List (List ℕ)). xs ++ waiting_of v number) takes ∙ append_assoc (taken_of w number) first (waiting_of v number)
      ∙ ap (λ (xs : List (List ℕ)). taken_of w number ++ xs) (sym waits)
      ∙ sym (append_assoc (taken_of w number) (waiting_of w number) more)) where
        waits : waiting_of w number ++ more ≡ first ++ waiting_of v number
        waits = sym (waiting-append (outbox_of w SWITCH_LINK) (put SWITCH_LINK w event) number)
            ∙ ap (λ (entries : List OutboxEntry). waiting_in entries number) flows
            ∙ waiting-append (taken SWITCH_LINK w event) (outbox_of v SWITCH_LINK) number
  by (breaks broken nothing nobody) = is_cut (ap (λ (link : Link). link.up) broken)
      (takes ∙ ap (λ (entries : List OutboxEntry). taken_of w number ++ waiting_in entries number) nobody
      ∙ ap (λ (xs : List (List ℕ)). taken_of w number ++ xs) (none_waits number) ∙ append-nil (taken_of w number))
