-- SPDX-License-Identifier: MIT OR Apache-2.0
-- A life, step by step: the rest of the steps gives the rest of the life.
use Rattle.controller.proofs.Prelude.{◌≡◌, List, ◌∷◌, ◌++◌, ap, ◌∙◌, Out, Step, Controller, Turn, each}
use Rattle.std.proofs.lemmas.List.{append_assoc}
use Rattle.controller_model.specs.Life as words
use Rattle.controller.specs.Doing.{Turns}

-- the steps that are left end as all do
pub record Ends (whole : Turn) (c : Controller) (done : List Out) (left : List Step) : Type 0 where
  pub next : (each words.step c left).next ≡ whole.next
  pub outs : done ++ (each words.step c left).outs ≡ whole.outs

pub ends_after : (whole : Turn) (c after : Controller) (outs outs_after : List Out) (s : Step) (left : List Step) →
    Turns (words.step c s) c after outs outs_after →
    Ends whole c outs (s ∷ left) →
    Ends whole after outs_after left
ends_after whole c after outs outs_after s left turns ends = record {
  next = ap (λ v. (each words.step v left).next) turns.0 ∙ ends.next;
  outs =
      ap (λ v. outs_after ++ (each words.step v left).outs) turns.0
      ∙ ap (λ os. os ++ (each words.step (words.step c s).next left).outs) turns.1
      ∙ append_assoc outs (words.step c s).outs (each words.step (words.step c s).next left).outs
      ∙ ends.outs;
}
