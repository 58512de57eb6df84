-- SPDX-License-Identifier: MIT OR Apache-2.0
-- A step keeps what holds of the controller and the judge.
use Rattle.std.proofs.Common.{◌≡◌, ℕ, Bool, true, false, List, [], ◌∷◌, ◌++◌, Option, Some, None, refl, sym, subst, ap, ◌∙◌}
use Rattle.std.proofs.lemmas.Bool.{true≢false}
use Rattle.std.specs.List.{AllByRecursion}
use Rattle.std.specs.Option.{option_to_list}
use Rattle.std.specs.Prelude.{map}
use Rattle.controller_model.specs.declared.channel_state.ChannelState.{ChannelState}
use Rattle.controller_model.specs.declared.channel_state.ChannelState.TheVariants.{Free}
use Rattle.controller_model.specs.declared.step.Step.TheVariants.{Take, Tick}
use Rattle.controller_model.specs.declared.word.Word.{Word}
use Rattle.controller_model.specs.declared.word.Word.TheVariants as words
use Rattle.controller_model.specs.Controller.{Controller, Entry, Turn, channel_state, entry_of, ignoring, is_up}
use Rattle.controller_model.specs.Life.{entry_at, on_what, on_word, take}
use Rattle.controller_model.specs.LifeLaws.Owning.{is_link_up}
use Rattle.controller_model.specs.LifeLaws.Sending.{IsOfOctets}
use Rattle.controller_model.specs.Reading.{word_of}
use Rattle.controller_model.proofs.LifeLaws.Readings.{word_carried}
use Rattle.controller_model.proofs.LifeLaws.Sources.{IsFrom, word_from}
use Rattle.controller_model.proofs.LifeLaws.SoundLife.{IsSoundAll, word_refers}
use Rattle.controller_model.proofs.LifeLaws.UsingLife.{word_asked}
use Rattle.controller_model.proofs.LifeLaws.UsingWords.{Ready}
use Rattle.ruled_relay.specs.declared.item.What.{What}
use Rattle.ruled_relay.specs.declared.item.What.TheVariants as whats
use Rattle.run_judge.specs.declared.said.Said.{Said}
use Rattle.run_judge.specs.declared.said.Said.TheVariants as says
use Rattle.run_judge.specs.Connection.{IsWithoutFault}
use Rattle.run_judge.specs.Judging.{Judging, Numbered, after, after_all, all_ended, ended_by}
use Rattle.judge_laws.proofs.CellsRemain.{cells_remain}
use Rattle.judge_laws.proofs.Fine.{AreFine, KnowsNone}
use Rattle.judge_laws.specs.Lives.{said_by_what, said_in}
use Rattle.judge_laws.proofs.HeardFine.{IsMissed, MissedBy, SaysWord, frame_matches}
use Rattle.judge_laws.proofs.HeardFine.SaysWord.{one, none}
use Rattle.judge_laws.proofs.HeardFineWords.{missed_keep}
use Rattle.judge_laws.proofs.Law.{StepsKeep, all_both, ended_well}
use Rattle.judge_laws.proofs.StepFine.{KeepsFine}
use Rattle.judge_laws.proofs.StepFineSame.{ignoring_keeps}
use Rattle.judge_laws.proofs.StepFineTurns.{break_keeps, tick_keeps}
use Rattle.judge_laws.proofs.StepFineWords.{word_keeps}
use Rattle.judge_laws.specs.Hearing.{Matches}
use Rattle.judge_laws.specs.Hearing.Matches.{unheard}
use Rattle.judge_laws.specs.Saying.{put_says}

-- ---- what is heard, and then the turn

abbrev HearsKeep : List Said → Turn → Judging → Type 0
HearsKeep said t j = KnowsNone j → (ns : List Numbered) → map (λ (k : Numbered). k.said) ns ≡ said ++ map put_says t.outs
    → AreFine t.next (after_all j ns) × AllByRecursion IsWithoutFault (all_ended j ns)

-- no connection with a fault ends by the frame
heard_keeps : (said : Said) (c : Controller) (t : Turn) (j : Judging) →
    AreFine c j →
    ((frame : ℕ) → KeepsFine t (after frame said j)) →
    HearsKeep (said ∷ []) t j
heard_keeps said c t j fine keeps unknown [] is = absurd cc
heard_keeps said c t j fine keeps unknown (n ∷ ns) is =
    let same : said ≡ n.said = cc in
    let rest : map (λ (k : Numbered). k.said) ns ≡ map put_says t.outs = cc in
    let all = subst (λ (s : Said). KeepsFine t (after n.frame s j)) same (keeps n.frame) (cells_remain n.frame n.said j ∙ unknown) ns rest in
    (all.0, all_both (option_to_list (ended_by n.said j)) (all_ended (after n.frame n.said j) ns) (ended_well n.said j (λ m k there. (fine.each m).well k there)) all.1)

said_keeps : (word : Word) (said : List Said) (c : Controller) (t : Turn) (j : Judging) →
    SaysWord word said →
    AreFine c j →
    ((s : Said) (frame : ℕ) → Matches word s → KeepsFine t (after frame s j)) →
    HearsKeep said t j
said_keeps word said c t j (one s is) fine keeps = heard_keeps s c t j fine (λ frame. keeps s frame is)
said_keeps word said c t j (none un) fine keeps = keeps says.Nothing 0 (unheard word un)

-- ---- a link that is down

-- its channels are free; and where it is the switch's, no connection is there
dead_missed : (source : ℕ) (word : Word) (c : Controller) →
    IsFrom source word →
    is_link_up c.links source ≡ false →
    Ready c →
    IsMissed c word
dead_missed source (words.OnChannel at input) c from down ready =
    let is_free : channel_state c at ≡ Free = ready.uses.blank at (λ alive. true≢false (sym alive.0 ∙ ap (is_link_up c.links) from.0 ∙ down)) in
    subst (λ (state : ChannelState). MissedBy input (entry_at c state)) (sym is_free) tt
dead_missed source (words.OnConnection m input) c from down ready = by (entry_of c m) refl
  where
    by : (o : Option Entry) → entry_of c m ≡ o → MissedBy input o
    by None there = tt
    by (Some e) there = absurd (true≢false (sym (ready.linked m e there) ∙ ap (is_link_up c.links) (sym from.0) ∙ down))
dead_missed source _ c from down ready = tt

-- ---- a step

what_keeps : (up : Bool) (source : ℕ) (what : What) (c : Controller) (j : Judging) →
    is_link_up c.links source ≡ up →
    IsOfOctets what →
    Ready c →
    IsSoundAll c →
    AreFine c j →
    HearsKeep (said_by_what source what) (on_what up source what c) j
what_keeps true source (whats.Frame frame) c j up octets ready sound fine =
    said_keeps (word_of source frame) (said_in source frame) c (on_word source (word_of source frame) c) j (frame_matches source frame) fine
    (λ s number is. word_keeps source (word_of source frame) s number c j is (word_from source frame) (word_asked source frame) (word_carried source frame) (word_refers source frame octets) ready sound fine)
what_keeps true source whats.Down c j up octets ready sound fine = break_keeps source c j ready sound fine
what_keeps false source (whats.Frame frame) c j down octets ready sound fine =
    said_keeps (word_of source frame) (said_in source frame) c (ignoring c) j (frame_matches source frame) fine
    (λ s number is. ignoring_keeps c (after number s j) (missed_keep c number (word_of source frame) s j is (dead_missed source (word_of source frame) c (word_from source frame) down ready) ready fine))
what_keeps false source whats.Down c j down octets ready sound fine = ignoring_keeps c j fine

pub steps_keep : StepsKeep
unfolding take
steps_keep c (Take item) j ns unknown octets ready sound is fine = what_keeps (is_up c item.source) item.source item.what c j refl octets ready sound fine unknown ns is
steps_keep c (Tick ms) j ns unknown octets ready sound is fine = tick_keeps ms c j ready sound fine unknown ns is
