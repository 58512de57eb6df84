-- SPDX-License-Identifier: MIT OR Apache-2.0
-- Lemmas: the views of channels after a change of one of them.
use Rattle.std.proofs.Common.{◌≡◌, ◌≢◌, ℕ, zero, suc, ◌==◌, ◌&&◌, Bool, false, List, [], ◌∷◌, refl, sym, ap, ◌∙◌, inl, inr}
use Rattle.std.proofs.lemmas.Bool.{cases_Bool, eq-eqb, eqb-true, true≢false}
use Rattle.std.specs.Prelude.{slice_get, unwrap_or}
use Rattle.run_judge.specs.declared.channels.ChannelView.{ChannelView}
use Rattle.run_judge.specs.declared.channels.ChannelView.TheVariants as views
use Rattle.run_judge.specs.declared.said.StationChannel.{StationChannel}
use Rattle.run_judge.specs.Channels.{put_at, view_at, views_of, with_view}
use Rattle.run_judge.specs.Connection.{is_same}

get_put_same : {A : Type 0} (n : ℕ) (filler item : A) (xs : List A) → unwrap_or (slice_get (put_at n filler item xs) n) filler ≡ item
get_put_same zero filler item [] = refl
get_put_same zero filler item (x ∷ xs) = refl
get_put_same (suc n) filler item [] = get_put_same n filler item []
get_put_same (suc n) filler item (x ∷ xs) = get_put_same n filler item xs

get_put_other : {A : Type 0} (n k : ℕ) (filler item : A) (xs : List A) →
    n ≢ k →
    unwrap_or (slice_get (put_at n filler item xs) k) filler ≡ unwrap_or (slice_get xs k) filler
get_put_other zero zero filler item xs differ = absurd (differ refl)
get_put_other zero (suc k) filler item [] differ = refl
get_put_other zero (suc k) filler item (x ∷ xs) differ = refl
get_put_other (suc n) zero filler item [] differ = refl
get_put_other (suc n) zero filler item (x ∷ xs) differ = refl
get_put_other (suc n) (suc k) filler item [] differ = get_put_other n k filler item [] (λ same. differ (ap (λ m. suc m) same))
get_put_other (suc n) (suc k) filler item (x ∷ xs) differ = get_put_other n k filler item xs (λ same. differ (ap (λ m. suc m) same))

abbrev Views : Type 0
Views = List (List ChannelView)

pub view_same : (at : StationChannel) (view : ChannelView) (stations : Views) → view_at (with_view at view stations) at ≡ view
view_same at view stations =
    ap (λ (row : List ChannelView). unwrap_or (slice_get row at.number) views.Unknown) (get_put_same at.station [] (put_at at.number views.Unknown view (views_of stations at.station)) stations)
    ∙ get_put_same at.number views.Unknown view (views_of stations at.station)

pub view_other : (at other : StationChannel) (view : ChannelView) (stations : Views) →
    is_same at other ≡ false →
    view_at (with_view at view stations) other ≡ view_at stations other
view_other at other view stations differ = elim (cases_Bool (at.station == other.station)) [
  | inr miss ↦ ap (λ (row : List ChannelView). unwrap_or (slice_get row other.number) views.Unknown)
      (get_put_other at.station other.station [] (put_at at.number views.Unknown view (views_of stations at.station)) stations (λ same. true≢false (sym (eq-eqb at.station other.station same) ∙ miss)))
  | inl hit ↦
      let station : at.station ≡ other.station = eqb-true at.station other.station hit in
      let number : (at.number == other.number) ≡ false = ap (λ (b : Bool). b && (at.number == other.number)) (sym hit) ∙ differ in
      ap (λ (k : ℕ). unwrap_or (slice_get (views_of (with_view at view stations) k) other.number) views.Unknown) (sym station)
      ∙ ap (λ (row : List ChannelView). unwrap_or (slice_get row other.number) views.Unknown) (get_put_same at.station [] (put_at at.number views.Unknown view (views_of stations at.station)) stations)
      ∙ get_put_other at.number other.number views.Unknown view (views_of stations at.station) (λ same. true≢false (sym (eq-eqb at.number other.number same) ∙ number))
      ∙ ap (λ (k : ℕ). unwrap_or (slice_get (views_of stations k) other.number) views.Unknown) station
]
