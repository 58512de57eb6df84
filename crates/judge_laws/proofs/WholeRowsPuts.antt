-- SPDX-License-Identifier: MIT OR Apache-2.0
-- The messages of a row one by one, with their effect on each channel: for a judged connection, for
-- one that isn't judged, and for one that they remove.
use Rattle.std.proofs.Common.{◌≡◌, ◌≢◌, ℕ, ◌==◌, ◌&&◌, ◌||◌, not, Bool, true, false, List, [], ◌∷◌, ◌++◌, Option, Some, None, refl, sym, subst, ap, ◌∙◌, inl, inr}
use Rattle.std.proofs.lemmas.Bool.{and_parts, cases_Bool, cond-false, cond-true, eq-eqb, eqb-true}
use Rattle.std.specs.List.{AllByRecursion}
use Rattle.std.specs.Option.{option_to_list}
use Rattle.std.specs.Prelude.{if◌then◌else◌, map, Ok, Result}
use Rattle.bssmap_codec.specs.declared.bssap.Bssap.{Bssap}
use Rattle.bssmap_codec.specs.declared.bssap.Bssap.TheVariants.{Management, Transfer}
use Rattle.bssmap_codec.specs.declared.bssmap.Bssmap.TheVariants as bssmap
use Rattle.conn_messages.specs.declared.channel.Place.{Place}
use Rattle.conn_messages.specs.declared.message.Message.{Message}
use Rattle.conn_messages.specs.declared.message.Message.TheVariants.{Station, Data, ReleaseComplete, Request}
use Rattle.conn_rules.specs.Putting.{ArePutOn, IsPutOn, Using, same_place, used_after}
use Rattle.dtap_codec.specs.declared.rr.RrMessage.{RrMessage}
use Rattle.dtap_codec.specs.declared.rr.RrMessage.TheVariants as rr
use Rattle.dtap_codec.specs.declared.rr_fault.RrFault.{RrFault}
use Rattle.dtap_codec.specs.declared.sapi.Sapi.{Sapi}
use Rattle.dtap_codec.specs.declared.sapi.Sapi.TheVariants.{Zero, Three}
use Rattle.dtap_codec.specs.RrReading.{rr_reading}
use Rattle.rsl_codec.specs.declared.rsl.Rsl.{Rsl}
use Rattle.rsl_codec.specs.declared.rsl.Rsl.TheVariants as rsl
use Rattle.run_judge.specs.declared.channels.ChannelView.{ChannelView}
use Rattle.run_judge.specs.declared.channels.ChannelView.TheVariants as views
use Rattle.run_judge.specs.declared.judge.Named.{Named}
use Rattle.run_judge.specs.declared.judge.Named.TheVariants.{One, Shared}
use Rattle.run_judge.specs.declared.said.Said.{Said}
use Rattle.run_judge.specs.declared.said.Said.TheVariants as says
use Rattle.run_judge.specs.declared.said.StationChannel.{StationChannel}
use Rattle.run_judge.specs.Channels.{view_at}
use Rattle.run_judge.specs.Connection.{IsWithoutFault, is_same}
use Rattle.run_judge.specs.ConnectionState.{ConnectionState}
use Rattle.run_judge.specs.Judging.{Judging, Numbered, after, after_all, after_one, all_ended, ended, ended_by, freed_reference, put, without, without_switch_reference}
use Rattle.run_judge.specs.Reading.{channel_at, command, handed as reads_handed, is_dtap, link_sapi, passed}
use Rattle.judge_laws.proofs.IdlePuts.{IdleTells, Idles, idle_after, idle_one, IsIdlePut}
use Rattle.judge_laws.proofs.Idling.{IsMine}
use Rattle.controller_model.proofs.LifeLaws.Words.{decide_same}
use Rattle.judge_laws.proofs.Law.{AreWell, all_both, ended_well}
use Rattle.judge_laws.proofs.Moving.{IsIdle, IsNamed, put_other, put_same}
use Rattle.judge_laws.proofs.Naming.{IsLast}
use Rattle.judge_laws.proofs.Over.{IsMild, silent_told}
use Rattle.judge_laws.proofs.Putting.{Holds, IsElsewhere, IsOwn, all_own_after, put_one}
use Rattle.judge_laws.proofs.Well.{Well}
use Rattle.judge_laws.proofs.WholeRowsViews.{released_view, view_by, view_one, views_by}
use Rattle.judge_laws.specs.Agreeing.{told}
use Rattle.judge_laws.specs.Saying.{said_of, said_to}

-- ---- no connection ends by these

abbrev pub IsNoEnd : Message → Type 0
IsNoEnd (Request message) = ⊥
IsNoEnd (ReleaseComplete destination) = ⊥
IsNoEnd _ = Unit {0}

command_ends : (at : StationChannel) (r : Result RrMessage RrFault) (j : Judging) → ended_by (command at r) j ≡ None
command_ends at (Ok (rr.AssignmentCommand channel)) j = refl
command_ends at (Ok (rr.HandoverCommand cell channel reference)) j = refl
command_ends at _ j = refl

handed_ends : (b : Bool) (at : StationChannel) (o : Option Sapi) (l3 : List ℕ) (j : Judging) → ended_by (reads_handed b at o l3) j ≡ None
handed_ends true at (Some sapi) l3 j = refl
handed_ends true at None l3 j = refl
handed_ends false at (Some Zero) l3 j = command_ends at (rr_reading l3) j
handed_ends false at (Some Three) l3 j = refl
handed_ends false at None l3 j = refl

passed_ends : (destination : ℕ) (b : Bssap) (j : Judging) → ended_by (passed destination (Ok b)) j ≡ None
passed_ends destination (Transfer dlci message) j = refl
passed_ends destination (Management bssmap.ClearComplete) j = refl
passed_ends destination (Management (bssmap.SapiNReject dlci cause)) j = refl
passed_ends destination (Management b) j = refl

station_ends : (station : ℕ) (x : Rsl) (j : Judging) → ended_by (said_to station x) j ≡ None
station_ends station (rsl.ChannelActivation a) j = refl
station_ends station (rsl.RfChannelRelease channel) j = refl
station_ends station (rsl.DataRequest d) j = handed_ends (is_dtap d.l3) (channel_at station d.channel) (link_sapi d.link) d.l3 j
station_ends station x j = refl

pub none_ends : (n : ℕ) (m : Message) (j : Judging) → IsNoEnd m → ended_by (said_of n m) j ≡ None
none_ends n (Request message) j open_put = absurd open_put
none_ends n (ReleaseComplete destination) j open_put = absurd open_put
none_ends n (Data destination b) j open_put = passed_ends destination b j
none_ends n (Station station x) j open_put = station_ends station x j

pub all_unended : (n : ℕ) (ns : List Numbered) (ms : List Message) (j : Judging) →
    map (λ (k : Numbered). k.said) ns ≡ map (said_of n) ms →
    AllByRecursion IsNoEnd ms →
    all_ended j ns ≡ []
all_unended n [] ms j are open_put = refl
all_unended n (k ∷ ks) [] j are open_put = absurd cc
all_unended n (k ∷ ks) (m ∷ ms) j are open_put =
    let said : k.said ≡ said_of n m = cc in
    let rest : map (λ (x : Numbered). x.said) ks ≡ map (said_of n) ms = cc in
    ap (λ (o : Option ConnectionState). option_to_list o ++ all_ended (after_one j k) ks) (ap (λ (s : Said). ended_by s j) said ∙ none_ends n m j open_put.0) ∙ all_unended n ks ms (after_one j k) rest open_put.1

-- ---- one that is judged: the views behind its messages

pub put_views : (n : ℕ) (serving : StationChannel) (ns : List Numbered) (ms : List Message) (j : Judging) (c : ConnectionState) (at : StationChannel) →
    map (λ (k : Numbered). k.said) ns ≡ map (said_of n) ms →
    AllByRecursion (IsOwn n serving j) ms →
    Holds n serving j c →
    view_at (after_all j ns).channels at ≡ views_by at ms (view_at j.channels at)
put_views n serving [] [] j c at are own holds = refl
put_views n serving [] (m ∷ ms) j c at are own holds = absurd cc
put_views n serving (k ∷ ks) [] j c at are own holds = absurd cc
put_views n serving (k ∷ ks) (m ∷ ms) j c at are own holds =
    let said : k.said ≡ said_of n m = cc in
    let rest : map (λ (x : Numbered). x.said) ks ≡ map (said_of n) ms = cc in
    let next : Judging = after_one j k in
    let one = put_one n k.frame serving m j c own.0 holds in
    let view : view_at next.channels at ≡ view_by at m (view_at j.channels at) =
    ap (λ (s : Said). view_at (after k.frame s j).channels at) said ∙ view_one n k.frame m j at (one.views at) in
    let by_switch : (source : ℕ) → next.by_switch source ≡ j.by_switch source = λ source. ap (λ (s : Said). (after k.frame s j).by_switch source) said ∙ one.by_switch source in
    let now : Holds n serving next (told j.modulus k.frame (said_of n m) c) = subst (λ (s : Said). Holds n serving (after k.frame s j) (told j.modulus k.frame (said_of n m) c)) (sym said) one.holds in
    put_views n serving ks ms next (told j.modulus k.frame (said_of n m) c) at rest (all_own_after n serving j next ms by_switch own.1) now ∙ ap (views_by at ms) view

-- ---- places that a connection has in use

abbrev pub place_channel : Place → StationChannel
place_channel p = channel_at p.station p.number

-- they are nobody else's
abbrev pub Uses : ℕ → Using → Judging → Type 0
Uses n uses j = (p : Place) → uses p ≡ true → IsMine n (view_at j.channels (place_channel p))

either_mine : (n : ℕ) (b : Bool) (one other : ChannelView) → IsMine n one → IsMine n other → IsMine n (if b then one else other)
either_mine n true one other this that = this
either_mine n false one other this that = that

released_mine : (n : ℕ) (view : ChannelView) → IsMine n view → IsMine n (released_view view)
released_mine n views.Unknown mine = tt
released_mine n (views.Activated reference) mine = tt
released_mine n (views.Opened opening) mine = tt
released_mine n (views.Owned reference number) mine = mine

or_left : (a b : Bool) → a ≡ false → (a || b) ≡ true → b ≡ true
or_left true b none is = absurd cc
or_left false b none is = is

and_right : (a b : Bool) → (a && b) ≡ true → b ≡ true
and_right true b is = is
and_right false b is = absurd cc

uses_view : (n : ℕ) (uses : Using) (m : Message) (p : Place) (view : ChannelView) →
    (uses p ≡ true → IsMine n view) →
    used_after uses m p ≡ true →
    IsMine n (view_by (place_channel p) m view)
uses_view n uses (Station station (rsl.ChannelActivation a)) p view mine used = elim (cases_Bool (same_place p (record { station = station; number = a.channel }))) [
  | inl hit ↦
      let parts = and_parts (p.station == station) (p.number == a.channel) hit in
      let at_station : station ≡ p.station = sym (eqb-true p.station station parts.0) in
      let at_number : a.channel ≡ p.number = sym (eqb-true p.number a.channel parts.1) in
      let here : is_same (channel_at station a.channel) (place_channel p) ≡ true = rw (eq-eqb station p.station at_station, eq-eqb a.channel p.number at_number) refl in
      subst (IsMine n) (sym (cond-true _ _ _ here)) tt
  | inr miss ↦ either_mine n (is_same (channel_at station a.channel) (place_channel p)) _ view tt (mine (or_left _ (uses p) miss used))
]
uses_view n uses (Station station (rsl.RfChannelRelease channel)) p view mine used =
    let is = mine (and_right (not (same_place p (record { station = station; number = channel }))) (uses p) used) in
    either_mine n (is_same (channel_at station channel) (place_channel p)) (released_view view) view (released_mine n view is) is
uses_view n uses (Station station x) p view mine used = mine used
uses_view n uses (Request message) p view mine used = mine used
uses_view n uses (Data destination message) p view mine used = mine used
uses_view n uses (ReleaseComplete destination) p view mine used = mine used

pub uses_after : (n : ℕ) (uses : Using) (m : Message) (j next : Judging) →
    ((at : StationChannel) → view_at next.channels at ≡ view_by at m (view_at j.channels at)) →
    Uses n uses j →
    Uses n (used_after uses m) next
uses_after n uses m j next views mine p used = subst (IsMine n) (sym (views (place_channel p))) (uses_view n uses m p (view_at j.channels (place_channel p)) (mine p) used)

-- ---- one that isn't there, or isn't judged

-- a DT1 goes to its own reference
abbrev pub IsNamedPut : ℕ → Judging → Message → Type 0
IsNamedPut n j (Request message) = ⊥
IsNamedPut n j (ReleaseComplete destination) = ⊥
IsNamedPut n j (Data destination message) = IsNamed n (j.by_switch destination) (j.connections n)
IsNamedPut n j (Station station message) = Unit {0}

idle_put : (n : ℕ) (uses : Using) (j : Judging) (m : Message) → Uses n uses j → IsPutOn uses m → IsNamedPut n j m → IsIdlePut n j m
idle_put n uses j (Request message) mine on named = named
idle_put n uses j (ReleaseComplete destination) mine on named = named
idle_put n uses j (Data destination message) mine on named = named
idle_put n uses j (Station station (rsl.DataRequest d)) mine on named = mine (record { station = station; number = d.channel }) on
idle_put n uses j (Station station x) mine on named = tt

named_after : (n : ℕ) (j next : Judging) (ms : List Message) →
    ((source : ℕ) → next.by_switch source ≡ j.by_switch source) →
    next.connections n ≡ j.connections n →
    AllByRecursion (IsNamedPut n j) ms →
    AllByRecursion (IsNamedPut n next) ms
named_after n j next [] names same all = tt
named_after n j next (m ∷ ms) names same all = (one m all.0, named_after n j next ms names same all.1)
  where
    one : (m : Message) → IsNamedPut n j m → IsNamedPut n next m
    one (Request message) named = named
    one (ReleaseComplete destination) named = named
    one (Data destination message) named = rw (names destination, same) named
    one (Station station message) named = tt

pub record IdleWalks (n : ℕ) (ms : List Message) (j next : Judging) : Type 0 where
  pub connections : (k : ℕ) → next.connections k ≡ j.connections k
  pub by_switch : (source : ℕ) → next.by_switch source ≡ j.by_switch source
  pub views : (at : StationChannel) → view_at next.channels at ≡ views_by at ms (view_at j.channels at)

pub idle_walk : (n : ℕ) (ns : List Numbered) (ms : List Message) (uses : Using) (j : Judging) →
    map (λ (k : Numbered). k.said) ns ≡ map (said_of n) ms →
    Idles n j →
    Uses n uses j →
    ArePutOn uses ms →
    AllByRecursion (IsNamedPut n j) ms →
    IdleWalks n ms j (after_all j ns)
idle_walk n [] [] uses j are idles mine on named = record { connections = λ k. refl; by_switch = λ source. refl; views = λ at. refl }
idle_walk n [] (m ∷ ms) uses j are idles mine on named = absurd cc
idle_walk n (k ∷ ks) [] uses j are idles mine on named = absurd cc
idle_walk n (k ∷ ks) (m ∷ ms) uses j are idles mine on named =
    let said : k.said ≡ said_of n m = cc in
    let rest : map (λ (x : Numbered). x.said) ks ≡ map (said_of n) ms = cc in
    let next : Judging = after_one j k in
    let is : next ≡ after k.frame (said_of n m) j = ap (λ (s : Said). after k.frame s j) said in
    let one = idle_one n k.frame m j idles (idle_put n uses j m mine on.0 named.0) in
    let here : IdleTells n j next (λ (at : StationChannel). IsElsewhere at m) = subst (λ (x : Judging). IdleTells n j x (λ (at : StationChannel). IsElsewhere at m)) (sym is) one in
    let view : (at : StationChannel) → view_at next.channels at ≡ view_by at m (view_at j.channels at) = λ at. ap (λ (x : Judging). view_at x.channels at) is ∙ view_one n k.frame m j at (one.views at) in
    let all = idle_walk n ks ms (used_after uses m) next rest (idle_after n j next _ here idles) (uses_after n uses m j next view mine) on.1 (named_after n j next ms here.by_switch (here.connections n) named.1) in
    record {
      connections = λ x. all.connections x ∙ here.connections x;
      by_switch = λ source. all.by_switch source ∙ here.by_switch source;
      views = λ at. all.views at ∙ ap (views_by at ms) (view at);
    }

-- ---- RLC: it is gone

pub record IsGone (n : ℕ) (j next : Judging) : Type 0 where
  pub gone : next.connections n ≡ None
  pub others : (k : ℕ) → k ≢ n → next.connections k ≡ j.connections k
  pub named : (k reference : ℕ) (entry : Option ConnectionState) →
      k ≢ n →
      IsNamed k (j.by_switch reference) entry →
      IsNamed k (next.by_switch reference) entry
  pub channels : next.channels ≡ j.channels

pub goes : (n : ℕ) (j : Judging) → IsGone n j (ended n j)
goes n j = of_entry (j.connections n) refl
  where
    bare : Judging
    bare = record j { connections = put n None j.connections }

    gone_bare : IsGone n j bare
    gone_bare = record { gone = put_same n None j.connections; others = λ k differ. put_other n None j.connections k differ; named = λ k reference entry differ named. named; channels = refl }

    freed : (source owner : ℕ) →
        j.by_switch source ≡ Some (One owner) →
        owner ≡ n →
        IsGone n j (record bare { by_switch = put source None bare.by_switch })
    freed source owner is own = record {
      gone = gone_bare.gone;
      others = gone_bare.others;
      named = λ k reference entry differ named. elim (cases_Bool (source == reference)) [
        | inl hit ↦
            let same : source ≡ reference = eqb-true source reference hit in
            let owned : IsNamed k (Some (One owner)) entry = subst (λ (o : Option Named). IsNamed k o entry) (ap j.by_switch (sym same) ∙ is) named in
            absurd (differ (sym owned ∙ own))
        | inr miss ↦ subst (λ (o : Option Named). IsNamed k o entry) (sym (cond-false _ _ _ miss)) named
      ];
      channels = refl;
    }

    by_name : (source : ℕ) (o : Option Named) → j.by_switch source ≡ o → IsGone n j (freed_reference o source n bare)
    by_name source None is = gone_bare
    by_name source (Some Shared) is = gone_bare
    by_name source (Some (One owner)) is = elim (cases_Bool (owner == n)) [
      | inl hit ↦ subst (IsGone n j) (sym (cond-true _ _ _ hit)) (freed source owner is (eqb-true owner n hit))
      | inr miss ↦ subst (IsGone n j) (sym (cond-false _ _ _ miss)) gone_bare
    ]

    by_switch : (o : Option ℕ) → IsGone n j (without_switch_reference o n bare)
    by_switch None = gone_bare
    by_switch (Some source) = by_name source (j.by_switch source) refl

    of_entry : (o : Option ConnectionState) → j.connections n ≡ o → IsGone n j (without o n j)
    of_entry None is = record { gone = is; others = λ k differ. refl; named = λ k reference entry differ named. named; channels = refl }
    of_entry (Some c) is = by_switch c.switch

-- ---- one that is removed

-- what is for the mobile is for the channel that serves, and no COMMAND; nothing is activated there
abbrev pub IsOwnTo : StationChannel → Message → Type 0
IsOwnTo serving (Station station (rsl.DataRequest d)) =
    (is_dtap d.l3 ≡ true → channel_at station d.channel ≡ serving)
    × (is_dtap d.l3 ≡ false → command (channel_at station d.channel) (rr_reading d.l3) ≡ says.Nothing)
IsOwnTo serving (Station station (rsl.ChannelActivation a)) = is_same (channel_at station a.channel) serving ≡ false
IsOwnTo serving _ = Unit {0}

-- it isn't judged or not there any more; or it is judged
pub data LastOwn (n : ℕ) (serving : StationChannel) (j : Judging) : Type 0 where
  idle : Idles n j → LastOwn n serving j
  judged : (c : ConnectionState) → Holds n serving j c → LastOwn n serving j

pub record Lasts (n : ℕ) (ms : List Message) (j next : Judging) : Type 0 where
  pub others : (k : ℕ) → k ≢ n → next.connections k ≡ j.connections k
  pub named : (k reference : ℕ) (entry : Option ConnectionState) →
      k ≢ n →
      IsNamed k (j.by_switch reference) entry →
      IsNamed k (next.by_switch reference) entry
  pub views : (at : StationChannel) → view_at next.channels at ≡ views_by at ms (view_at j.channels at)
  pub mine : (k : ConnectionState) → next.connections n ≡ Some k → j.connections n ≡ Some k

pub record LastStep (n : ℕ) (serving : StationChannel) (m : Message) (uses : Using) (j next : Judging) : Type 0 where
  pub lasts : Lasts n (m ∷ []) j next
  pub own : LastOwn n serving next
  pub used : Uses n (used_after uses m) next

pub own_station : (n : ℕ) (serving : StationChannel) (j : Judging) (station : ℕ) (x : Rsl) →
    IsOwnTo serving (Station station x) →
    IsOwn n serving j (Station station x)
own_station n serving j station (rsl.DataRequest d) own = own
own_station n serving j station (rsl.ChannelActivation a) own = own
own_station n serving j station x own = tt

last_one : (n : ℕ) (serving : StationChannel) (frame : ℕ) (m : Message) (uses : Using) (j : Judging) →
    IsLast m →
    IsMild m →
    IsOwnTo serving m →
    IsPutOn uses m →
    Uses n uses j →
    LastOwn n serving j →
    LastStep n serving m uses j (after frame (said_of n m) j)
last_one n serving frame (Request message) uses j last mild own on mine is = absurd last
last_one n serving frame (Data destination message) uses j last mild own on mine is = absurd last
last_one n serving frame (ReleaseComplete destination) uses j last mild own on mine is =
    let gone = goes n j in
    let view : (at : StationChannel) → view_at (ended n j).channels at ≡ view_at j.channels at = λ at. ap (λ stations. view_at stations at) gone.channels in
    record {
      lasts = record { others = gone.others; named = gone.named; views = view; mine = λ k there. absurd (let none : None ≡ Some k = sym gone.gone ∙ there in cc) };
      own = idle (record { idle = subst IsIdle (sym gone.gone) tt; own = λ c there. absurd (let none : None ≡ Some c = sym gone.gone ∙ there in cc) });
      used = uses_after n uses (ReleaseComplete destination) j (ended n j) view mine;
    }
last_one n serving frame (Station station x) uses j last mild own on mine (idle idles) =
    let one = idle_one n frame (Station station x) j idles (idle_put n uses j (Station station x) mine on tt) in
    let next : Judging = after frame (said_of n (Station station x)) j in
    let view : (at : StationChannel) → view_at next.channels at ≡ view_by at (Station station x) (view_at j.channels at) = λ at. view_one n frame (Station station x) j at (one.views at) in
    record {
      lasts = record { others = λ k differ. one.connections k; named = λ k reference entry differ named. subst (λ (o : Option Named). IsNamed k o entry) (sym (one.by_switch reference)) named; views = view; mine = λ k there. sym (one.connections n) ∙ there };
      own = idle (idle_after n j next _ one idles);
      used = uses_after n uses (Station station x) j next view mine;
    }
last_one n serving frame (Station station x) uses j last mild own on mine (judged c holds) =
    let one = put_one n frame serving (Station station x) j c (own_station n serving j station x own) holds in
    let next : Judging = after frame (said_of n (Station station x)) j in
    let view : (at : StationChannel) → view_at next.channels at ≡ view_by at (Station station x) (view_at j.channels at) = λ at. view_one n frame (Station station x) j at (one.views at) in
    let same : told j.modulus frame (said_of n (Station station x)) c ≡ c = silent_told j.modulus n (Station station x) frame c mild tt in
    record {
      lasts = record { others = one.others; named = λ k reference entry differ named. subst (λ (o : Option Named). IsNamed k o entry) (sym (one.by_switch reference)) named; views = view; mine = λ k there. holds.there ∙ sym (ap (λ (y : ConnectionState). Some y) same) ∙ sym one.holds.there ∙ there };
      own = judged c (subst (Holds n serving next) same one.holds);
      used = uses_after n uses (Station station x) j next view mine;
    }

pub last_walk : (n : ℕ) (serving : StationChannel) (ns : List Numbered) (ms : List Message) (uses : Using) (j : Judging) →
    map (λ (k : Numbered). k.said) ns ≡ map (said_of n) ms →
    AllByRecursion IsLast ms →
    AllByRecursion IsMild ms →
    AllByRecursion (IsOwnTo serving) ms →
    ArePutOn uses ms →
    Uses n uses j →
    LastOwn n serving j →
    Lasts n ms j (after_all j ns)
last_walk n serving [] [] uses j are last mild own on mine is = record { others = λ k differ. refl; named = λ k reference entry differ named. named; views = λ at. refl; mine = λ k there. there }
last_walk n serving [] (m ∷ ms) uses j are last mild own on mine is = absurd cc
last_walk n serving (k ∷ ks) [] uses j are last mild own on mine is = absurd cc
last_walk n serving (k ∷ ks) (m ∷ ms) uses j are last mild own on mine is =
    let said : k.said ≡ said_of n m = cc in
    let rest : map (λ (x : Numbered). x.said) ks ≡ map (said_of n) ms = cc in
    let next : Judging = after_one j k in
    let one : LastStep n serving m uses j next = subst (λ (s : Said). LastStep n serving m uses j (after k.frame s j)) (sym said) (last_one n serving k.frame m uses j last.0 mild.0 own.0 on.0 mine is) in
    let all = last_walk n serving ks ms (used_after uses m) next rest last.1 mild.1 own.1 on.1 one.used one.own in
    record {
      others = λ x differ. all.others x differ ∙ one.lasts.others x differ;
      named = λ x reference entry differ named. all.named x reference entry differ (one.lasts.named x reference entry differ named);
      views = λ at. all.views at ∙ ap (views_by at ms) (one.lasts.views at);
      mine = λ x there. one.lasts.mine x (all.mine x there);
    }

-- ---- of what ends by them no fault is said

pub well_after : (n : ℕ) (ms : List Message) (j next : Judging) → Lasts n ms j next → AreWell j → AreWell next
well_after n ms j next lasts well k x there = decide_same k n (Well k x)
    (λ same. well k x (ap j.connections same ∙ lasts.mine x (ap next.connections (sym same) ∙ there)))
    (λ differ. well k x (sym (lasts.others k differ) ∙ there))

pub last_fair : (n : ℕ) (serving : StationChannel) (ns : List Numbered) (ms : List Message) (uses : Using) (j : Judging) →
    map (λ (k : Numbered). k.said) ns ≡ map (said_of n) ms →
    AllByRecursion IsLast ms →
    AllByRecursion IsMild ms →
    AllByRecursion (IsOwnTo serving) ms →
    ArePutOn uses ms →
    Uses n uses j →
    LastOwn n serving j →
    AreWell j →
    AllByRecursion IsWithoutFault (all_ended j ns)
last_fair n serving [] ms uses j are last mild own on mine is well = tt
last_fair n serving (k ∷ ks) [] uses j are last mild own on mine is well = absurd cc
last_fair n serving (k ∷ ks) (m ∷ ms) uses j are last mild own on mine is well =
    let said : k.said ≡ said_of n m = cc in
    let rest : map (λ (x : Numbered). x.said) ks ≡ map (said_of n) ms = cc in
    let next : Judging = after_one j k in
    let one : LastStep n serving m uses j next = subst (λ (s : Said). LastStep n serving m uses j (after k.frame s j)) (sym said) (last_one n serving k.frame m uses j last.0 mild.0 own.0 on.0 mine is) in
    all_both (option_to_list (ended_by k.said j)) (all_ended next ks) (ended_well k.said j well)
    (last_fair n serving ks ms (used_after uses m) next rest last.1 mild.1 own.1 on.1 one.used one.own (well_after n (m ∷ []) j next one.lasts well))
