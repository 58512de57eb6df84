-- SPDX-License-Identifier: MIT OR Apache-2.0
-- The CR: from then on the judge has the connection, on the channel on which its initial message
-- came.
use Rattle.std.proofs.Common.{◌≡◌, ◌⊎◌, ℕ, zero, suc, ◌+◌, Bool, true, false, List, [], ◌∷◌, ◌++◌, Option, Some, None, refl, sym, subst, ap, ◌∙◌, arith, inl, inr}
use Rattle.std.proofs.lemmas.Bool.{cases_Bool, cond-false, cond-true, eq-eqb, eqb-true, false_from_ne_true, true≢false}
use Rattle.std.specs.List.{AllByRecursion}
use Rattle.std.specs.Prelude.{if◌then◌else◌}
use Rattle.std.specs.Str.{bytes_eq}
use Rattle.bssmap_codec.specs.declared.bssap.Bssap.TheVariants.{Management}
use Rattle.bssmap_codec.specs.declared.bssmap.Bssmap.TheVariants.{CompleteLayer3Information}
use Rattle.bssmap_codec.specs.declared.values.CellIdentifier.{CellIdentifier}
use Rattle.conn_messages.specs.declared.message.Message.TheVariants.{Request}
use Rattle.conn_rules.specs.Connection.{Connection, enter}
use Rattle.conn_rules.specs.declared.state.State.TheVariants.{WaitConfirm, WaitEstablish}
use Rattle.conn_rules.specs.Validity.{IsValid}
use Rattle.controller_model.specs.declared.channel_state.ChannelState.TheVariants.{InUse}
use Rattle.controller_model.specs.Controller.{place_of, state_in}
use Rattle.run_judge.specs.declared.channels.ChannelView.{ChannelView}
use Rattle.run_judge.specs.declared.channels.ChannelView.TheVariants as views
use Rattle.run_judge.specs.declared.connection.Awaited.{Awaited}
use Rattle.run_judge.specs.declared.connection.Reason.{Reason}
use Rattle.run_judge.specs.declared.connection.Reason.TheVariants as reasons
use Rattle.run_judge.specs.declared.connection.Tenure.{Tenure}
use Rattle.run_judge.specs.declared.connection.Unjudged.{Unjudged}
use Rattle.run_judge.specs.declared.said.Said.TheVariants as says
use Rattle.run_judge.specs.declared.said.StationChannel.{StationChannel}
use Rattle.run_judge.specs.Channels.{asked_in, channels_from, is_opened_by, opened_channels, opening_in, stations_from, view_at, view_of, views_of}
use Rattle.run_judge.specs.Connection.{begun, first_of, is_same, new_connection, opened_connection, unjudged_from}
use Rattle.run_judge.specs.ConnectionState.{ConnectionState}
use Rattle.run_judge.specs.Judging.{Judging, after, begun_at, begun_nowhere, begun_on, nowhere, with_begun, with_channel, with_new, without}
use Rattle.run_judge.specs.OpeningState.{OpeningState}
use Rattle.run_judge.specs.Reading.{channel_at}
use Rattle.judge_laws.proofs.HeardFine.{IsOpening}
use Rattle.judge_laws.proofs.HeardFineChannels.{all_front}
use Rattle.judge_laws.proofs.Opening.{MayBeIgnored, agrees_opened, agrees_opening}
use Rattle.judge_laws.proofs.Ranks.{same_is}
use Rattle.judge_laws.proofs.Told.{numbered_keeps, opened_keeps}
use Rattle.judge_laws.proofs.Views.{view_other, view_same}
use Rattle.judge_laws.proofs.Well.{Well, well_unjudged}
use Rattle.judge_laws.proofs.WholeRowsOthers.{Changes}
use Rattle.judge_laws.proofs.WholeRowsViews.{Channels}
use Rattle.judge_laws.specs.Agreeing.{Agrees, IsFrom, lines_by, lines_of}
use Rattle.judge_laws.specs.Places.{at_of, spot}

pub record Opens (n : ℕ) (s : Connection) (channels : Channels) (initial : List ℕ) (cell : CellIdentifier) (j next : Judging) : Type 0 where
  pub changes : Changes n channels (Request (Management (CompleteLayer3Information cell initial)) ∷ []) j next
  pub k : ConnectionState
  pub there : next.connections n ≡ Some k
  pub well : Well n k
  pub unconfirmed : k.switch ≡ None
  pub uncleared : k.is_cleared ≡ false
  pub judged : k.unjudged ≡ None →
      Agrees (enter WaitConfirm s) k × AllByRecursion (λ (t : Tenure). view_at next.channels t.at ≡ views.Owned n k.number) (lines_of k)

-- ---- the channels on which the message came

abbrev IsIn : StationChannel → List StationChannel → Type 0
IsIn x [] = ⊥
IsIn x (y ∷ ys) = (x ≡ y) ⊎ IsIn x ys

in_back : (x : StationChannel) (xs ys : List StationChannel) → IsIn x ys → IsIn x (xs ++ ys)
in_back x [] ys there = there
in_back x (y ∷ xs) ys there = inr (in_back x xs ys there)

in_front : (x : StationChannel) (xs ys : List StationChannel) → IsIn x xs → IsIn x (xs ++ ys)
in_front x [] ys there = absurd there
in_front x (y ∷ xs) ys there = elim there [
  | inl same ↦ inl same
  | inr later ↦ inr (in_front x xs ys later)
]

plus_none : (m : ℕ) → m + 0 ≡ m
plus_none m = omega arith

none_plus : (m : ℕ) → 0 + m ≡ m
none_plus m = omega arith

plus_one : (m k : ℕ) → (m + 1) + k ≡ m + suc k
plus_one m k = omega arith

module _ (test : ChannelView → Bool) (none : test views.Unknown ≡ false) where
  channels_in : (station number k : ℕ) (vs : List ChannelView) →
      test (view_of vs k) ≡ true →
      IsIn (channel_at station (number + k)) (channels_from test station number vs)
  channels_in station number k [] is = absurd (true≢false (sym is ∙ none))
  channels_in station number zero (v ∷ vs) is =
      let here : (if test v then channel_at station number ∷ [] else []) ≡ channel_at station number ∷ [] = cond-true _ _ _ is in
      rw here (inl (ap (channel_at station) (plus_none number)))
  channels_in station number (suc k) (v ∷ vs) is =
      subst (λ (m : ℕ). IsIn (channel_at station m) (channels_from test station number (v ∷ vs))) (plus_one number k)
      (in_back (channel_at station ((number + 1) + k)) (if test v then channel_at station number ∷ [] else []) (channels_from test station (number + 1) vs) (channels_in station (number + 1) k vs is))

  stations_in : (station k number : ℕ) (stations : List (List ChannelView)) →
      test (view_of (views_of stations k) number) ≡ true →
      IsIn (channel_at (station + k) number) (stations_from test station stations)
  stations_in station k number [] is = absurd (true≢false (sym is ∙ none))
  stations_in station zero number (vs ∷ rest) is =
      subst (λ (m : ℕ). IsIn (channel_at m number) (channels_from test station 0 vs ++ stations_from test (station + 1) rest)) (sym (plus_none station))
      (in_front (channel_at station number) (channels_from test station 0 vs) (stations_from test (station + 1) rest) (subst (λ (m : ℕ). IsIn (channel_at station m) (channels_from test station 0 vs)) (none_plus number) (channels_in station 0 number vs is)))
  stations_in station (suc k) number (vs ∷ rest) is =
      subst (λ (m : ℕ). IsIn (channel_at m number) (channels_from test station 0 vs ++ stations_from test (station + 1) rest)) (plus_one station k)
      (in_back (channel_at ((station + 1) + k) number) (channels_from test station 0 vs) (stations_from test (station + 1) rest) (stations_in (station + 1) k number rest is))

-- octets are themselves
bytes_itself : (xs : List ℕ) → bytes_eq xs xs ≡ true
bytes_itself [] = refl
bytes_itself (x ∷ xs) = rw (eq-eqb x x refl) (bytes_itself xs)

opened_here : (initial : List ℕ) (view : ChannelView) → IsOpening initial view → is_opened_by initial view ≡ true
opened_here initial (views.Opened o) opening = subst (λ (message : List ℕ). bytes_eq message initial ≡ true) (sym opening.0) (bytes_itself initial)
opened_here initial views.Unknown opening = absurd opening
opened_here initial (views.Activated reference) opening = absurd opening
opened_here initial (views.Owned reference number) opening = absurd opening

opening_may : (initial : List ℕ) (view : ChannelView) → IsOpening initial view → AllByRecursion MayBeIgnored (opening_in view).early
opening_may initial (views.Opened o) opening = opening.1
opening_may initial views.Unknown opening = absurd opening
opening_may initial (views.Activated reference) opening = absurd opening
opening_may initial (views.Owned reference number) opening = absurd opening

found : (initial : List ℕ) (at : StationChannel) (stations : List (List ChannelView)) →
    IsOpening initial (view_at stations at) →
    IsIn at (opened_channels initial stations)
found initial at stations opening = subst (λ (m : ℕ). IsIn (channel_at m at.number) (opened_channels initial stations)) (none_plus at.station) (stations_in (is_opened_by initial) refl 0 at.station at.number stations (opened_here initial (view_at stations at) opening))

-- ---- a new connection

-- what a switch makes of the numbers changes nothing of these
pub record IsNew (m number n : ℕ) (at : StationChannel) (k : ConnectionState) : Type 0 where
  pub reference : k.reference ≡ n
  pub number_is : k.number ≡ number
  pub switch : k.switch ≡ None
  pub lines : lines_of k ≡ record { at = at; rank = 0 } ∷ []

is_new : (m number n : ℕ) (at : StationChannel) (opening : OpeningState) → IsNew m number n at (new_connection m number n at opening)
is_new m number n at opening = numbered_keeps (IsNew m number n at) m opening.message (begun number n at opening) (record { reference = refl; number_is = refl; switch = refl; lines = refl }) (λ counts progress. record { reference = refl; number_is = refl; switch = refl; lines = refl })

opened_new : (m number n : ℕ) (at : StationChannel) (opening : OpeningState) → IsNew m number n at (opened_connection m number n at opening)
opened_new m number n at opening = opened_keeps (IsNew m number n at) m number n at opening (λ counts progress mobile. record { reference = refl; number_is = refl; switch = refl; lines = refl })

well_of : (n : ℕ) (s : Connection) (k : ConnectionState) → k.reference ≡ n → Agrees s k → Well n k
well_of n s k is agrees = record {
  is = is;
  up = λ sapi. (let up = agrees.up sapi in record { held = up.held; low = up.low; carries = up.carries; from = front k.awaited up.low up.from });
  down = λ sapi. (let down = agrees.down sapi in record { held = down.held; carries = down.carries; zero = down.zero });
}
  where
    front : (o : Option Awaited) (low : ℕ) →
        AllByRecursion (IsFrom low) (lines_by k.former k.serving o) →
        AllByRecursion (IsFrom low) (k.former ++ k.serving ∷ [])
    front None low all = all
    front (Some a) low all = all_front (IsFrom low) (k.former ++ k.serving ∷ []) (record { at = a.at; rank = k.serving.rank + 1 } ∷ []) all

-- ---- what the CR changes

module _ (n : ℕ) (s : Connection) (channels : Channels) (initial : List ℕ) (cell : CellIdentifier) (j : Judging) where
  -- on its channel, which is in use
  changes_at : (number : ℕ) (k : ConnectionState) →
      state_in channels (place_of s.serving) ≡ InUse n →
      Changes n channels (Request (Management (CompleteLayer3Information cell initial)) ∷ []) j (with_channel (at_of s.serving) (views.Owned n number) (with_new n k (with_begun j)))
  changes_at number k using = record {
    others = λ m differ. cond-false _ _ _ (false_from_ne_true _ (λ hit. differ (sym (eqb-true n m hit))));
    named = λ m reference entry differ named. named;
    own = λ place m own_number view. elim (cases_Bool (is_same at place)) [
      | inl here ↦
          let both : views.Owned n number ≡ views.Owned m own_number = sym (now place here) ∙ view in
          inr (owner both, subst (λ (x : StationChannel). state_in channels (spot x) ≡ InUse n) (same_is at place here) using)
      | inr there ↦ inl (sym (view_other at place (views.Owned n number) j.channels there) ∙ view)
    ];
    views = λ place free. elim (cases_Bool (is_same at place)) [
      | inl here ↦ absurd (free (subst (λ (x : StationChannel). state_in channels (spot x) ≡ InUse n) (same_is at place here) using))
      | inr there ↦ view_other at place (views.Owned n number) j.channels there
    ];
  }
    where
      at : StationChannel
      at = at_of s.serving

      owner : {m own_number : ℕ} → (let view : ChannelView = views.Owned n number in view) ≡ views.Owned m own_number → m ≡ n
      owner same = cc

      now : (place : StationChannel) →
          is_same (at_of s.serving) place ≡ true →
          view_at (with_channel (at_of s.serving) (views.Owned n number) (with_new n k (with_begun j))).channels place ≡ views.Owned n number
      now place here = ap (λ (x : StationChannel). view_at (with_channel (at_of s.serving) (views.Owned n number) (with_new n k (with_begun j))).channels x) (sym (same_is (at_of s.serving) place here)) ∙ view_same (at_of s.serving) (views.Owned n number) j.channels

  changes_none : (k : ConnectionState) →
      Changes n channels (Request (Management (CompleteLayer3Information cell initial)) ∷ []) j (with_new n k (with_begun j))
  changes_none k = record {
    others = λ m differ. cond-false _ _ _ (false_from_ne_true _ (λ hit. differ (sym (eqb-true n m hit))));
    named = λ m reference entry differ named. named;
    own = λ place m number view. inl view;
    views = λ place free. refl;
  }

  opens_at : (frame : ℕ) →
      s.state ≡ WaitEstablish →
      IsValid s →
      IsOpening initial (view_at j.channels (at_of s.serving)) →
      state_in channels (place_of s.serving) ≡ InUse n →
      Opens n s channels initial cell j (begun_at (at_of s.serving) n frame (with_begun j))
  opens_at frame is valid opening using =
      let begins : OpeningState = asked_in frame (opening_in (view_at j.channels (at_of s.serving))) in
      let number : ℕ = (with_begun j).begun in
      let k : ConnectionState = opened_connection j.modulus number n (at_of s.serving) begins in
      let new = opened_new j.modulus number n (at_of s.serving) begins in
      let agrees : Agrees (enter WaitConfirm s) k = agrees_opened s j.modulus number n begins is valid (opening_may initial (view_at j.channels (at_of s.serving)) opening) in
      record {
        changes = changes_at number k using;
        k = k;
        there = cond-true _ _ _ (eq-eqb n n refl);
        well = well_of n (enter WaitConfirm s) k new.reference agrees;
        unconfirmed = new.switch;
        uncleared = agrees.is_open;
        judged = λ judged. (agrees, subst (AllByRecursion (λ (t : Tenure). view_at (begun_at (at_of s.serving) n frame (with_begun j)).channels t.at ≡ views.Owned n k.number)) (sym new.lines) (view_same (at_of s.serving) (views.Owned n number) j.channels ∙ ap (λ (x : ℕ). views.Owned n x) (sym new.number_is), tt));
      }

  unjudged_never : {P : Type 0} (u : Option Unjudged) (x : Unjudged) → first_of u x ≡ None → P
  unjudged_never None x none = absurd cc
  unjudged_never (Some y) x none = absurd cc

  opens_nowhere : (frame : ℕ) (reason : Reason) →
      s.state ≡ WaitEstablish →
      IsValid s →
      Opens n s channels initial cell j (begun_nowhere reason n initial frame (with_begun j))
  opens_nowhere frame reason is valid =
      let begins : OpeningState = record { message = initial; frame = frame; early = [] } in
      let number : ℕ = (with_begun j).begun in
      let k : ConnectionState = new_connection j.modulus number n nowhere begins in
      let new = is_new j.modulus number n nowhere begins in
      let elsewhere : Connection = record s { serving = record s.serving { station = 0; number = 0 } } in
      let agrees : Agrees (enter WaitConfirm elsewhere) k = agrees_opening elsewhere j.modulus number n begins is
      (record { state = valid.state; down_limit = valid.down_limit; up_limit = valid.up_limit; down_within = valid.down_within; up_within = valid.up_within; down_zero = valid.down_zero; down_three = valid.down_three; up_messages = valid.up_messages; drain_time = valid.drain_time }) tt in
      record {
        changes = changes_none (unjudged_from reason frame k);
        k = unjudged_from reason frame k;
        there = cond-true _ _ _ (eq-eqb n n refl);
        well = well_unjudged n reason frame k (well_of n (enter WaitConfirm elsewhere) k new.reference agrees);
        unconfirmed = new.switch;
        uncleared = agrees.is_open;
        judged = λ judged. unjudged_never k.unjudged _ judged;
      }

  opens_on : (frame : ℕ) (xs : List StationChannel) →
      IsIn (at_of s.serving) xs →
      s.state ≡ WaitEstablish →
      IsValid s →
      IsOpening initial (view_at j.channels (at_of s.serving)) →
      state_in channels (place_of s.serving) ≡ InUse n →
      Opens n s channels initial cell j (begun_on xs n initial frame (with_begun j))
  opens_on frame [] there is valid opening using = absurd there
  opens_on frame (x ∷ []) there is valid opening using = elim there [
    | inl same ↦ subst (λ (y : StationChannel). Opens n s channels initial cell j (begun_at y n frame (with_begun j))) same (opens_at frame is valid opening using)
    | inr none ↦ absurd none
  ]
  opens_on frame (x ∷ (y ∷ ys)) there is valid opening using = opens_nowhere frame reasons.TwoBeginnings is valid

pub opens_row : (n frame : ℕ) (s : Connection) (channels : Channels) (initial : List ℕ) (cell : CellIdentifier) (j : Judging) →
    s.state ≡ WaitEstablish →
    IsValid s →
    j.connections n ≡ None →
    IsOpening initial (view_at j.channels (at_of s.serving)) →
    state_in channels (place_of s.serving) ≡ InUse n →
    Opens n s channels initial cell j (after frame (says.Requests n initial) j)
opens_row n frame s channels initial cell j is valid none opening using =
    subst (Opens n s channels initial cell j) (sym (ap (λ (o : Option ConnectionState). begun_on (opened_channels initial j.channels) n initial frame (without o n (with_begun j))) none))
    (opens_on n s channels initial cell j frame (opened_channels initial j.channels) (found initial (at_of s.serving) j.channels opening) is valid opening using)
