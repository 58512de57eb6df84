-- SPDX-License-Identifier: MIT OR Apache-2.0
-- Lemmas: an item that is put at a place of a list, and the channels that pass a test.
use Rattle.std.proofs.Common.{◌≡◌, ℕ, ◌+◌, ◌-◌, ◌==◌, ◌<◌, ◌≤◌, zero, suc, Bool, true, false, cond, if◌then◌else◌, None, List, [], ◌∷◌, ◌++◌, length, get_or, drop, set, slice_get, unwrap_or, refl, sym, ap, ◌∙◌, arith}
use Rattle.std.proofs.lemmas.List.{append-nil, drop_more, drop_all}
use Rattle.dtap_codec.specs.declared.rr.CellDescription.{CellDescription}
use Rattle.run_judge.specs.declared.channels.ChannelView.{ChannelView}
use Rattle.run_judge.specs.declared.channels.ChannelView.TheVariants as views
use Rattle.run_judge.specs.declared.said.StationChannel.{StationChannel}
use Rattle.run_judge.specs.Channels.{channels_from, in_cell, is_offered, may_be_cell, offered_from, put_at, stations_from, view_of, views_of, with_view}

module _ {A : Type 0} where
  -- one more filler at the end of a list that is too short changes nothing
  pub put_at-longer : (n : ℕ) (filler item : A) (xs : List A) →
      length xs ≤ n →
      put_at n filler item (xs ++ filler ∷ []) ≡ put_at n filler item xs
  put_at-longer zero filler item [] h = refl
  put_at-longer zero filler item (x ∷ xs) h = absurd (omega arith)
  put_at-longer (suc n) filler item [] h = refl
  put_at-longer (suc n) filler item (x ∷ xs) h = ap (λ ys. x ∷ ys) (put_at-longer n filler item xs (omega arith))

  -- nor what is at a place
  pub unwrap_or-longer : (xs : List A) (n : ℕ) (filler : A) →
      unwrap_or (slice_get (xs ++ filler ∷ []) n) filler ≡ unwrap_or (slice_get xs n) filler
  unwrap_or-longer [] zero filler = refl
  unwrap_or-longer [] (suc n) filler = refl
  unwrap_or-longer (x ∷ xs) zero filler = refl
  unwrap_or-longer (x ∷ xs) (suc n) filler = unwrap_or-longer xs n filler

  pub put_at-within : (n : ℕ) (filler item : A) (xs : List A) → n < length xs → put_at n filler item xs ≡ set xs n item
  put_at-within zero filler item [] h = absurd (omega arith)
  put_at-within zero filler item (x ∷ xs) h = refl
  put_at-within (suc n) filler item [] h = absurd (omega arith)
  put_at-within (suc n) filler item (x ∷ xs) h = ap (λ ys. x ∷ ys) (put_at-within n filler item xs (omega arith))

  pub unwrap_or-within : (xs : List A) (n : ℕ) (filler d : A) → n < length xs → unwrap_or (slice_get xs n) filler ≡ get_or xs n d
  unwrap_or-within [] n filler d h = absurd (omega arith)
  unwrap_or-within (x ∷ xs) zero filler d h = refl
  unwrap_or-within (x ∷ xs) (suc n) filler d h = unwrap_or-within xs n filler d (omega arith)

  -- what was put last stays
  pub put_at-twice : (n : ℕ) (filler first last : A) (xs : List A) →
      put_at n filler last (put_at n filler first xs) ≡ put_at n filler last xs
  put_at-twice zero filler first last [] = refl
  put_at-twice zero filler first last (x ∷ xs) = refl
  put_at-twice (suc n) filler first last [] = ap (λ ys. filler ∷ ys) (put_at-twice n filler first last [])
  put_at-twice (suc n) filler first last (x ∷ xs) = ap (λ ys. x ∷ ys) (put_at-twice n filler first last xs)

  pub unwrap_or-put_at : (n : ℕ) (filler item d : A) (xs : List A) → unwrap_or (slice_get (put_at n filler item xs) n) d ≡ item
  unwrap_or-put_at zero filler item d [] = refl
  unwrap_or-put_at zero filler item d (x ∷ xs) = refl
  unwrap_or-put_at (suc n) filler item d [] = unwrap_or-put_at n filler item d []
  unwrap_or-put_at (suc n) filler item d (x ∷ xs) = unwrap_or-put_at n filler item d xs

pub with_view-twice : (at : StationChannel) (first last : ChannelView) (stations : List (List ChannelView)) →
    with_view at last (with_view at first stations) ≡ with_view at last stations
with_view-twice at first last stations =
    let s : List ChannelView = put_at at.number views.Unknown first (views_of stations at.station) in
    ap (λ vs. put_at at.station [] (put_at at.number views.Unknown last vs) (put_at at.station [] s stations)) (unwrap_or-put_at at.station [] s [] stations)
    ∙ put_at-twice at.station [] s (put_at at.number views.Unknown last s) stations
    ∙ ap (λ vs. put_at at.station [] vs stations) (put_at-twice at.number views.Unknown first last (views_of stations at.station))

-- ---- the channels that pass a test, one by one

abbrev pub channel_if : Bool → ℕ → ℕ → List StationChannel
channel_if passes station number = if passes then record { station = station; number = number } ∷ [] else []

pub channels_more : (test : ChannelView → Bool) (station i : ℕ) (xs : List ChannelView) (v : ChannelView) → i < length xs → v ≡ get_or xs i v
    → channels_from test station i (drop i xs) ≡ channel_if (test v) station i ++ channels_from test station (i + 1) (drop (i + 1) xs)
channels_more test station i xs v h is =
    ap (channels_from test station i) (drop_more xs i v h ∙ ap (λ w. w ∷ drop (i + 1) xs) (sym is))

pub channels_all : (test : ChannelView → Bool) (station i : ℕ) (xs : List ChannelView) (found : List StationChannel) → length xs ≤ i
    → found ++ channels_from test station i (drop i xs) ≡ found
channels_all test station i xs found h = ap (λ ys. found ++ channels_from test station i ys) (drop_all i xs h) ∙ append-nil found

pub stations_more : (test : ChannelView → Bool) (i : ℕ) (xs : List (List ChannelView)) (vs : List ChannelView) → i < length xs → vs ≡ get_or xs i vs
    → stations_from test i (drop i xs) ≡ channels_from test i 0 vs ++ stations_from test (i + 1) (drop (i + 1) xs)
stations_more test i xs vs h is = ap (stations_from test i) (drop_more xs i vs h ∙ ap (λ w. w ∷ drop (i + 1) xs) (sym is))

pub stations_all : (test : ChannelView → Bool) (i : ℕ) (xs : List (List ChannelView)) (found : List StationChannel) → length xs ≤ i
    → found ++ stations_from test i (drop i xs) ≡ found
stations_all test i xs found h = ap (λ ys. found ++ stations_from test i ys) (drop_all i xs h) ∙ append-nil found

pub offered_more : (number reference i : ℕ) (xs : List (List ChannelView)) (vs : List ChannelView) → i < length xs → vs ≡ get_or xs i vs
    → offered_from number reference i (drop i xs) ≡ channel_if (is_offered reference (view_of vs number)) i number ++ offered_from number reference (i + 1) (drop (i + 1) xs)
offered_more number reference i xs vs h is = ap (offered_from number reference i) (drop_more xs i vs h ∙ ap (λ w. w ∷ drop (i + 1) xs) (sym is))

pub offered_all : (number reference i : ℕ) (xs : List (List ChannelView)) (found : List StationChannel) → length xs ≤ i
    → found ++ offered_from number reference i (drop i xs) ≡ found
offered_all number reference i xs found h = ap (λ ys. found ++ offered_from number reference i ys) (drop_all i xs h) ∙ append-nil found

-- ---- the cells of the stations

may_be_any : (cell : CellDescription) (b : Bool) (place : ℕ) → may_be_cell cell (if b then None else slice_get [] place) ≡ true
may_be_any cell true place = refl
may_be_any cell false place = refl

-- where no cell is known a channel may be in any
pub in_cell-unknown : (cell : CellDescription) (channels : List StationChannel) → in_cell cell [] channels ≡ channels
in_cell-unknown cell [] = refl
in_cell-unknown cell (at ∷ channels) =
    ap (λ b. cond b (at ∷ in_cell cell [] channels) (in_cell cell [] channels)) (may_be_any cell (at.station == 0) (at.station - 1))
    ∙ ap (λ rest. at ∷ rest) (in_cell-unknown cell channels)
