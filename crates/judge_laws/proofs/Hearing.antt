-- SPDX-License-Identifier: MIT OR Apache-2.0
-- Lemmas: how a frame to the controller changes its connection in the judge.
use Rattle.std.proofs.Common.{◌≡◌, ◌≢◌, ℕ, true, false, List, Option, Some, None, refl, sym, subst, ap, ◌∙◌, option_map}
use Rattle.std.proofs.lemmas.Bool.{cond-false, cond-true, eq-eqb, eqb-true, false_from_ne_true}
use Rattle.std.specs.Option.{is_some}
use Rattle.std.specs.Prelude.{if◌then◌else◌}
use Rattle.conn_messages.specs.declared.channel.Change.{Change}
use Rattle.dtap_codec.specs.declared.sapi.Sapi.{Sapi}
use Rattle.run_judge.specs.declared.channels.ChannelView.{ChannelView}
use Rattle.run_judge.specs.declared.channels.ChannelView.TheVariants as views
use Rattle.run_judge.specs.declared.judge.Named.{Named}
use Rattle.run_judge.specs.declared.judge.Named.TheVariants.{One}
use Rattle.run_judge.specs.declared.said.Said.TheVariants as says
use Rattle.run_judge.specs.declared.said.StationChannel.{StationChannel}
use Rattle.run_judge.specs.Channels.{view_at}
use Rattle.run_judge.specs.Connection.{brought, completed, confirmed, failed, old_rank, released, sent_down}
use Rattle.run_judge.specs.ConnectionState.{ConnectionState}
use Rattle.run_judge.specs.Judging.{Judging, after, brought_by, confirmed_by, left_by, named_by, numbered_connection, owner_in, owner_of, with_channel, with_judged}
use Rattle.judge_laws.proofs.Effects.{Effect}
use Rattle.judge_laws.proofs.Moving.{Moves, judged_moves, owner_moves}
use Rattle.judge_laws.proofs.Views.{view_other}

-- the channel is the connection's
pub record HasChannel (n : ℕ) (at : StationChannel) (j : Judging) (c : ConnectionState) : Type 0 where
  pub there : j.connections n ≡ Some c
  pub own : c.reference ≡ n
  pub view : view_at j.channels at ≡ views.Owned n c.number

pub brings_moves : (n frame : ℕ) (at : StationChannel) (sapi : Sapi) (message : List ℕ) (j : Judging) (c : ConnectionState) →
    HasChannel n at j c →
    Moves n (brought at sapi message frame) j (after frame (says.Brings at sapi message) j)
brings_moves n frame at sapi message j c has =
    subst (λ (view : ChannelView). Moves n (brought at sapi message frame) j (brought_by view at sapi message frame j)) (sym has.view)
    (owner_moves n at (brought at sapi message frame) j c c.number has.there has.view refl has.own)

pub completes_moves : (n frame : ℕ) (at : StationChannel) (change : Change) (j : Judging) (c : ConnectionState) →
    HasChannel n at j c →
    Moves n (completed at change) j (after frame (says.Completes at change) j)
completes_moves n frame at change j c has = owner_moves n at (completed at change) j c c.number has.there has.view refl has.own

pub fails_moves : (n frame : ℕ) (at : StationChannel) (change : Change) (j : Judging) (c : ConnectionState) →
    HasChannel n at j c →
    Moves n (failed at change) j (after frame (says.Fails at change) j)
fails_moves n frame at change j c has = owner_moves n at (failed at change) j c c.number has.there has.view refl has.own

pub transfers_moves : (n frame : ℕ) (sapi : Sapi) (message : List ℕ) (j : Judging) →
    Moves n (sent_down sapi message frame) j (after frame (says.Transfers n sapi message) j)
transfers_moves n frame sapi message j = judged_moves n (sent_down sapi message frame) j

-- ---- RF CHANNEL RELEASE ACK

pub owner_is : (n : ℕ) (at : StationChannel) (j : Judging) (c : ConnectionState) → HasChannel n at j c → owner_of at j ≡ Some c
owner_is n at j c has =
    ap (λ (v : ChannelView). owner_in v j) has.view
    ∙ ap (numbered_connection c.number) has.there
    ∙ cond-true _ _ _ (eq-eqb c.number c.number refl)

-- of an old channel, of which nothing is known from then on
pub released_effect : (n frame : ℕ) (at : StationChannel) (j : Judging) (c : ConnectionState) →
    HasChannel n at j c →
    is_some (old_rank at c.former) ≡ true →
    Effect n at (released at) j (after frame (says.Released at) j)
released_effect n frame at j c has old =
    subst (Effect n at (released at) j) (sym goes)
    (subst (λ (k : ℕ). Effect n at (released at) j (with_channel at views.Unknown (with_judged k (released at) j))) (sym has.own) gone)
  where
    goes : after frame (says.Released at) j ≡ with_channel at views.Unknown (with_judged c.reference (released at) j)
    goes = ap (λ (o : Option ConnectionState). left_by o at j) (owner_is n at j c has) ∙ cond-true _ _ _ old

    gone : Effect n at (released at) j (with_channel at views.Unknown (with_judged n (released at) j))
    gone =
        let moves = judged_moves n (released at) j in
        record {
          mine = moves.mine;
          others = moves.others;
          by_switch = moves.by_switch;
          views = λ other differ. view_other at other views.Unknown j.channels differ;
          modulus = refl;
          begun = refl;
        }

-- of another one it counts for nothing
pub not_released : (n frame : ℕ) (at : StationChannel) (j : Judging) (c : ConnectionState) →
    HasChannel n at j c →
    is_some (old_rank at c.former) ≡ false →
    after frame (says.Released at) j ≡ j
not_released n frame at j c has none = ap (λ (o : Option ConnectionState). left_by o at j) (owner_is n at j c has) ∙ cond-false _ _ _ none

-- ---- CC

-- the first one, by a reference that no connection has
pub record IsConfirmed (n source : ℕ) (c : ConnectionState) (j next : Judging) : Type 0 where
  pub mine : next.connections n ≡ Some (confirmed source c)
  pub others : (k : ℕ) → k ≢ n → next.connections k ≡ j.connections k
  pub named : next.by_switch source ≡ Some (One n)
  pub other_names : (k : ℕ) → k ≢ source → next.by_switch k ≡ j.by_switch k
  pub channels : next.channels ≡ j.channels

pub confirms_first : (n source frame : ℕ) (j : Judging) (c : ConnectionState) →
    j.connections n ≡ Some c →
    c.switch ≡ None →
    j.by_switch source ≡ None →
    IsConfirmed n source c j (after frame (says.Confirms n source) j)
confirms_first n source frame j c there unconfirmed free =
    subst (IsConfirmed n source c j) (sym goes) (record {
      mine = cond-true _ _ _ (eq-eqb n n refl) ∙ ap (option_map (confirmed source)) there;
      others = λ k differ. cond-false _ _ _ (false_from_ne_true _ (λ same. differ (sym (eqb-true n k same))));
      named = cond-true _ _ _ (eq-eqb source source refl);
      other_names = λ k differ. cond-false _ _ _ (false_from_ne_true _ (λ same. differ (sym (eqb-true source k same))));
      channels = refl;
    })
  where
    goes : after frame (says.Confirms n source) j ≡ named_by None n source frame j
    goes =
        ap (λ (o : Option ConnectionState). confirmed_by o n source frame j) there
        ∙ ap (λ (o : Option ℕ). if is_some o then j else named_by (j.by_switch source) n source frame j) unconfirmed
        ∙ ap (λ (o : Option Named). named_by o n source frame j) free
