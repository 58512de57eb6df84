-- SPDX-License-Identifier: MIT OR Apache-2.0
-- A row's messages one by one. The judge applies them to a connection that it judges; otherwise
-- only views of activated or released channels change.
use Rattle.std.proofs.Common.{◌≡◌, ◌≢◌, ℕ, ◌+◌, arith, ◌⊎◌, Bool, true, false, List, [], ◌∷◌, Option, Some, None, refl, sym, subst, ap, ◌∙◌, inl, inr, option_map}
use Rattle.std.proofs.lemmas.Bool.{cases_Bool, eq-eqb, eqb-true, false_from_ne_true}
use Rattle.std.specs.List.{AllByRecursion}
use Rattle.std.specs.Prelude.{if◌then◌else◌, map}
use Rattle.bssmap_codec.specs.declared.bssap.Bssap.TheVariants.{Management, Transfer}
use Rattle.bssmap_codec.specs.declared.bssmap.Bssmap.{Bssmap}
use Rattle.bssmap_codec.specs.declared.bssmap.Bssmap.TheVariants as bssmap
use Rattle.conn_messages.specs.declared.message.Message.{Message}
use Rattle.conn_messages.specs.declared.message.Message.TheVariants.{Station, Data, ReleaseComplete, Request}
use Rattle.dtap_codec.specs.declared.sapi.Sapi.{Sapi}
use Rattle.dtap_codec.specs.declared.sapi.Sapi.TheVariants.{Zero, Three}
use Rattle.dtap_codec.specs.RrReading.{rr_reading}
use Rattle.rsl_codec.specs.declared.rsl.Rsl.TheVariants as rsl
use Rattle.run_judge.specs.declared.channels.ChannelView.TheVariants as views
use Rattle.run_judge.specs.declared.connection.Awaited.{Awaited}
use Rattle.run_judge.specs.declared.connection.Unjudged.{Unjudged}
use Rattle.run_judge.specs.declared.judge.Named.TheVariants.{One}
use Rattle.run_judge.specs.declared.said.Said.{Said}
use Rattle.run_judge.specs.declared.said.Said.TheVariants as says
use Rattle.run_judge.specs.declared.said.StationChannel.{StationChannel}
use Rattle.run_judge.specs.Channels.{view_at}
use Rattle.run_judge.specs.Connection.{behind_clear, handed_by, is_same, sent_up, while_judged, while_judged_of}
use Rattle.run_judge.specs.ConnectionState.{ConnectionState}
use Rattle.run_judge.specs.Judging.{Judging, Numbered, after, after_all, after_one}
use Rattle.run_judge.specs.Reading.{channel_at, command, dlci_sapi, handed as reads_handed, is_dtap, link_sapi}
use Rattle.judge_laws.proofs.Effects.{Effect, activates_effect, clears_effect, hands_effect, manages_effect, nothing_effect, passes_effect, rejects_effect, releases_effect, releases_owned}
use Rattle.judge_laws.proofs.Ranks.{same_is}
use Rattle.judge_laws.proofs.Told.{sent_keeps}
use Rattle.judge_laws.specs.Agreeing.{tells, told}
use Rattle.judge_laws.specs.Saying.{reference_in, said_of}

-- ---- what is applied leaves the name of the connection, and that it is judged

pub record KeepsName (c next : ConnectionState) : Type 0 where
  pub number : next.number ≡ c.number
  pub reference : next.reference ≡ c.reference
  pub switch : next.switch ≡ c.switch
  pub unjudged : next.unjudged ≡ c.unjudged

either_name : (c : ConnectionState) (b : Bool) (x y : ConnectionState) → KeepsName c x → KeepsName c y → KeepsName c (if b then x else y)
either_name c true x y one other = one
either_name c false x y one other = other

pub told_name : (m frame : ℕ) (said : Said) (c : ConnectionState) → KeepsName c (told m frame said c)
told_name m frame (says.Passes destination sapi message) c =
    either_name c c.is_cleared (behind_clear sapi message frame c) (sent_up m sapi message frame c) (record { number = refl; reference = refl; switch = refl; unjudged = refl })
    (sent_keeps (KeepsName c) m sapi message frame c (λ n p o. record { number = refl; reference = refl; switch = refl; unjudged = refl }))
told_name m frame (says.Rejects destination) c = either_name c c.is_cleared _ _ (record { number = refl; reference = refl; switch = refl; unjudged = refl }) (record { number = refl; reference = refl; switch = refl; unjudged = refl })
told_name m frame (says.Clears destination) c = either_name c c.is_cleared _ _ (record { number = refl; reference = refl; switch = refl; unjudged = refl }) (record { number = refl; reference = refl; switch = refl; unjudged = refl })
told_name m frame (says.Manages destination) c = either_name c c.is_cleared _ _ (record { number = refl; reference = refl; switch = refl; unjudged = refl }) (record { number = refl; reference = refl; switch = refl; unjudged = refl })
told_name m frame (says.Hands at sapi message) c = by c.awaited
  where
    by : (o : Option Awaited) → KeepsName c (handed_by o at sapi message frame c)
    by (Some a) = record { number = refl; reference = refl; switch = refl; unjudged = refl }
    by None = either_name c (is_same c.serving.at at) _ _ (record { number = refl; reference = refl; switch = refl; unjudged = refl }) (record { number = refl; reference = refl; switch = refl; unjudged = refl })
told_name m frame _ c = record { number = refl; reference = refl; switch = refl; unjudged = refl }

-- ---- a message

-- what has to be known of it: whose its destination is; that what is handed is for the channel that
-- serves, and no other message to the mobile is a COMMAND; that this channel isn't activated
abbrev pub IsOwn : ℕ → StationChannel → Judging → Message → Type 0
IsOwn n serving j (Request message) = ⊥
IsOwn n serving j (ReleaseComplete destination) = ⊥
IsOwn n serving j (Data destination message) = j.by_switch destination ≡ Some (One n)
IsOwn n serving j (Station station (rsl.DataRequest d)) =
    (is_dtap d.l3 ≡ true → channel_at station d.channel ≡ serving)
    × (is_dtap d.l3 ≡ false → command (channel_at station d.channel) (rr_reading d.l3) ≡ says.Nothing)
IsOwn n serving j (Station station (rsl.ChannelActivation a)) = is_same (channel_at station a.channel) serving ≡ false
IsOwn n serving j (Station station message) = Unit {0}

-- the channels that a message activates or releases
abbrev pub IsElsewhere : StationChannel → Message → Type 0
IsElsewhere at (Station station (rsl.ChannelActivation a)) = is_same (channel_at station a.channel) at ≡ false
IsElsewhere at (Station station (rsl.RfChannelRelease channel)) = is_same (channel_at station channel) at ≡ false
IsElsewhere at _ = Unit {0}

-- the connection is this one, and is judged on the channel that serves
pub record Holds (n : ℕ) (serving : StationChannel) (j : Judging) (c : ConnectionState) : Type 0 where
  pub there : j.connections n ≡ Some c
  pub judged : c.unjudged ≡ None
  pub own : c.reference ≡ n
  pub view : view_at j.channels serving ≡ views.Owned n c.number

-- what it changes
pub record Tells (n : ℕ) (serving : StationChannel) (j next : Judging) (c : ConnectionState) (away : StationChannel → Type 0) : Type 0 where
  pub holds : Holds n serving next c
  pub others : (k : ℕ) → k ≢ n → next.connections k ≡ j.connections k
  pub by_switch : (source : ℕ) → next.by_switch source ≡ j.by_switch source
  pub views : (at : StationChannel) → away at → view_at next.channels at ≡ view_at j.channels at
  pub modulus : next.modulus ≡ j.modulus
  pub begun : next.begun ≡ j.begun

is_judged : (change : ConnectionState → ConnectionState) (c : ConnectionState) → c.unjudged ≡ None → while_judged change c ≡ change c
is_judged change c none = ap (λ (u : Option Unjudged). while_judged_of u change c) none

-- by an effect that leaves the view of the channel that serves
by_effect : (n frame : ℕ) (serving place : StationChannel) (said : Said) (j next : Judging) (c : ConnectionState) (away : StationChannel → Type 0) →
    Holds n serving j c →
    Effect n place (told j.modulus frame said) j next →
    view_at next.channels serving ≡ view_at j.channels serving →
    ((at : StationChannel) → away at → view_at next.channels at ≡ view_at j.channels at) →
    Tells n serving j next (told j.modulus frame said c) away
by_effect n frame serving place said j next c away holds effect same kept =
    let name = told_name j.modulus frame said c in
    record {
      holds = record {
        there = effect.mine ∙ ap (option_map (while_judged (told j.modulus frame said))) holds.there ∙ ap (λ (x : ConnectionState). Some x) (is_judged (told j.modulus frame said) c holds.judged);
        judged = name.unjudged ∙ holds.judged;
        own = name.reference ∙ holds.own;
        view = same ∙ holds.view ∙ ap (λ (k : ℕ). views.Owned n k) (sym name.number);
      };
      others = effect.others;
      by_switch = effect.by_switch;
      views = kept;
      modulus = effect.modulus;
      begun = effect.begun;
    }

-- no view changes at all
still_effect : (n frame : ℕ) (serving place : StationChannel) (said : Said) (j next : Judging) (c : ConnectionState) (away : StationChannel → Type 0) →
    Holds n serving j c →
    ((place : StationChannel) → Effect n place (told j.modulus frame said) j next) →
    Tells n serving j next (told j.modulus frame said c) away
still_effect n frame serving place said j next c away holds effect =
    let every : (at : StationChannel) → view_at next.channels at ≡ view_at j.channels at = λ at. (effect (elsewhere at)).views at (elsewhere_differs at) in
    by_effect n frame serving place said j next c away holds (effect place) (every serving) (λ at far. every at)
  where
    elsewhere : StationChannel → StationChannel
    elsewhere at = channel_at at.station (at.number + 1)

    elsewhere_differs : (at : StationChannel) → is_same (elsewhere at) at ≡ false
    elsewhere_differs at = rw (eq-eqb at.station at.station refl) (false_from_ne_true _ (λ same. (let equal : at.number + 1 ≡ at.number = eqb-true (at.number + 1) at.number same in absurd (omega arith))))

-- one message
pub put_one : (n frame : ℕ) (serving : StationChannel) (m : Message) (j : Judging) (c : ConnectionState) →
    IsOwn n serving j m →
    Holds n serving j c →
    Tells n serving j (after frame (said_of n m) j) (told j.modulus frame (said_of n m) c) (λ at. IsElsewhere at m)
put_one n frame serving (Request message) j c own holds = absurd own
put_one n frame serving (ReleaseComplete destination) j c own holds = absurd own
put_one n frame serving (Data destination (Transfer dlci message)) j c own holds =
    still_effect n frame serving serving (says.Passes destination (dlci_sapi dlci) message) j _ c _ holds (λ place. passes_effect n frame destination (dlci_sapi dlci) message place j (rw own refl))
put_one n frame serving (Data destination (Management b)) j c own holds = of_management b
  where
    of_management : (b : Bssmap) →
        Tells n serving j (after frame (said_of n (Data destination (Management b))) j) (told j.modulus frame (said_of n (Data destination (Management b))) c) (λ at. IsElsewhere at (Data destination (Management b)))
    of_management bssmap.ClearComplete = still_effect n frame serving serving (says.Clears destination) j _ c _ holds (λ place. clears_effect n frame destination place j (rw own refl))
    of_management (bssmap.SapiNReject dlci cause) = still_effect n frame serving serving (says.Rejects destination) j _ c _ holds (λ place. rejects_effect n frame destination place j (rw own refl))
    of_management b = still_effect n frame serving serving (says.Manages destination) j _ c _ holds (λ place. manages_effect n frame destination place j (rw own refl))
put_one n frame serving (Station station (rsl.DataRequest d)) j c own holds = of_data (is_dtap d.l3) refl (link_sapi d.link)
  where
    at : StationChannel
    at = channel_at station d.channel

    quiet : Tells n serving j (after frame says.Nothing j) (told j.modulus frame says.Nothing c) (λ place. Unit {0})
    quiet = still_effect n frame serving serving says.Nothing j _ c _ holds (λ place. nothing_effect n frame place j)

    hands : (sapi : Sapi) →
        is_dtap d.l3 ≡ true →
        Tells n serving j (after frame (says.Hands at sapi d.l3) j) (told j.modulus frame (says.Hands at sapi d.l3) c) (λ place. Unit {0})
    hands sapi dtap =
        let here : at ≡ serving = own.0 dtap in
        let view : view_at j.channels at ≡ views.Owned n c.number = ap (view_at j.channels) here ∙ holds.view in
        still_effect n frame serving serving (says.Hands at sapi d.l3) j _ c _ holds (λ place. hands_effect n frame at sapi d.l3 place j c holds.there view holds.own)

    Goal : Said → Type 0
    Goal said = Tells n serving j (after frame said j) (told j.modulus frame said c) (λ place. Unit {0})

    of_data : (b : Bool) → is_dtap d.l3 ≡ b → (o : Option Sapi) → Goal (reads_handed b at o d.l3)
    of_data true dtap (Some sapi) = hands sapi dtap
    of_data true dtap None = quiet
    of_data false rr (Some Zero) = subst Goal (sym (own.1 rr)) quiet
    of_data false rr (Some Three) = quiet
    of_data false rr None = quiet
put_one n frame serving (Station station (rsl.ChannelActivation a)) j c own holds =
    let effect = activates_effect n frame (channel_at station a.channel) (reference_in a.reference) j in
    by_effect n frame serving (channel_at station a.channel) (says.Activates (channel_at station a.channel) (reference_in a.reference)) j _ c (λ at. IsElsewhere at (Station station (rsl.ChannelActivation a))) holds effect (effect.views serving own) effect.views
put_one n frame serving (Station station (rsl.RfChannelRelease channel)) j c own holds =
    let place : StationChannel = channel_at station channel in
    let effect = releases_effect n frame place j in
    by_effect n frame serving place (says.Releases place) j _ c (λ at. IsElsewhere at (Station station (rsl.RfChannelRelease channel))) holds effect (at_serving (cases_Bool (is_same place serving))) effect.views
  where
    at_serving : (is_same (channel_at station channel) serving ≡ true) ⊎ (is_same (channel_at station channel) serving ≡ false) →
        view_at (after frame (says.Releases (channel_at station channel)) j).channels serving ≡ view_at j.channels serving
    at_serving (inr differ) = (releases_effect n frame (channel_at station channel) j).views serving differ
    at_serving (inl same) =
        let here : channel_at station channel ≡ serving = same_is (channel_at station channel) serving same in
        ap (λ (next : Judging). view_at next.channels serving) (releases_owned frame (channel_at station channel) n c.number j (ap (view_at j.channels) here ∙ holds.view))
put_one n frame serving (Station station x) j c own holds = still_effect n frame serving serving says.Nothing j _ c _ holds (λ place. nothing_effect n frame place j)

-- ---- one message after the other

pub own_after : (n : ℕ) (serving : StationChannel) (j next : Judging) (m : Message) →
    ((source : ℕ) → next.by_switch source ≡ j.by_switch source) →
    IsOwn n serving j m →
    IsOwn n serving next m
own_after n serving j next (Request message) same own = own
own_after n serving j next (ReleaseComplete destination) same own = own
own_after n serving j next (Data destination message) same own = same destination ∙ own
own_after n serving j next (Station station (rsl.DataRequest d)) same own = own
own_after n serving j next (Station station (rsl.ChannelActivation a)) same own = own
own_after n serving j next (Station station x) same own = tt

pub all_own_after : (n : ℕ) (serving : StationChannel) (j next : Judging) (ms : List Message) →
    ((source : ℕ) → next.by_switch source ≡ j.by_switch source) →
    AllByRecursion (IsOwn n serving j) ms →
    AllByRecursion (IsOwn n serving next) ms
all_own_after n serving j next [] same own = tt
all_own_after n serving j next (m ∷ ms) same own = (own_after n serving j next m same own.0, all_own_after n serving j next ms same own.1)

-- a row's, whatever the numbers of its frames are
pub put_all : (n : ℕ) (serving : StationChannel) (ns : List Numbered) (ms : List Message) (j : Judging) (c : ConnectionState) →
    map (λ (k : Numbered). k.said) ns ≡ map (said_of n) ms →
    AllByRecursion (IsOwn n serving j) ms →
    Holds n serving j c →
    Tells n serving j (after_all j ns) (tells j.modulus ns c) (λ at. AllByRecursion (IsElsewhere at) ms)
put_all n serving [] [] j c are own holds = record { holds = holds; others = λ k differ. refl; by_switch = λ source. refl; views = λ at away. refl; modulus = refl; begun = refl }
put_all n serving [] (m ∷ ms) j c are own holds = absurd cc
put_all n serving (k ∷ ks) [] j c are own holds = absurd cc
put_all n serving (k ∷ ks) (m ∷ ms) j c are own holds =
    let said : k.said ≡ said_of n m = cc in
    let rest : map (λ (x : Numbered). x.said) ks ≡ map (said_of n) ms = cc in
    let next : Judging = after_one j k in
    let one : Tells n serving j next (told j.modulus k.frame k.said c) (λ at. IsElsewhere at m) =
    subst (λ (s : Said). Tells n serving j (after k.frame s j) (told j.modulus k.frame s c) (λ at. IsElsewhere at m)) (sym said) (put_one n k.frame serving m j c own.0 holds) in
    let all : Tells n serving next (after_all next ks) (tells j.modulus ks (told j.modulus k.frame k.said c)) (λ at. AllByRecursion (IsElsewhere at) ms) =
    subst (λ (b : ℕ). Tells n serving next (after_all next ks) (tells b ks (told j.modulus k.frame k.said c)) (λ at. AllByRecursion (IsElsewhere at) ms)) one.modulus
    (put_all n serving ks ms next (told j.modulus k.frame k.said c) rest (all_own_after n serving j next ms one.by_switch own.1) one.holds) in
    record {
      holds = all.holds;
      others = λ x differ. all.others x differ ∙ one.others x differ;
      by_switch = λ source. all.by_switch source ∙ one.by_switch source;
      views = λ at away. all.views at away.1 ∙ one.views at away.0;
      modulus = all.modulus ∙ one.modulus;
      begun = all.begun ∙ one.begun;
    }
