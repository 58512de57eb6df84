-- SPDX-License-Identifier: MIT OR Apache-2.0
-- Lemmas: entries that are written one by one.
use Rattle.std.proofs.Common.{◌≡◌, ℕ, suc, ◌+◌, ◌<◌, ◌≤◌, List, [], ◌∷◌, ◌++◌, get_or, length, map, drop}
use Rattle.std.proofs.Common.{refl, sym, ap, ◌∙◌, append_assoc, append-nil, arith}
use Rattle.std.proofs.Math.ListN.{drop_of_length-le}
use Rattle.std.proofs.Math.Seq.{drop-cons}
use Rattle.conn_messages.specs.declared.out.Out.{Out}
use Rattle.record_steps.specs.Runs.{put_entry}
use Rattle.run_record.specs.declared.entry.Stamp.{Stamp}
use Rattle.run_record.specs.declared.entry.Stamped.{Stamped}
use Rattle.run_record.specs.declared.place.Place.{Place}
use Rattle.run_record.specs.Record.{behind, moved, record_of, records_of}
use Rattle.step_recorder.specs.Writing.{put_entries, put_of}

-- what is left of a list at a place is its item there, and what is left behind it
pub left_more : {X : Type 0} (xs : List X) (i : ℕ) (x : X) → i < length xs → x ≡ get_or xs i x → drop i xs ≡ x ∷ drop (i + 1) xs
left_more xs i x within is =
    let next : suc i ≡ i + 1 = omega arith in
    drop-cons xs i x within ∙ ap (λ y. y ∷ drop (suc i) xs) (sym is) ∙ ap (λ n. x ∷ drop n xs) next

module _ {X : Type 0} (entry : X → Stamped) (xs : List X) (i : ℕ) (x : X) (place : Place) where
  pub octets_more : (before after whole : List ℕ) → i < length xs → x ≡ get_or xs i x → before ++ records_of place (map entry (drop i xs)) ≡ whole
      → after ≡ before ++ record_of place (entry x)
      → after ++ records_of (moved place (entry x).entry) (map entry (drop (i + 1) xs)) ≡ whole
  octets_more before after whole within is was written =
      let rest : List ℕ = records_of (moved place (entry x).entry) (map entry (drop (i + 1) xs)) in
      ap (λ octets. octets ++ rest) written
      ∙ append_assoc before (record_of place (entry x)) rest
      ∙ ap (λ left. before ++ records_of place (map entry left)) (sym (left_more xs i x within is))
      ∙ was

  pub place_more : (whole : Place) → i < length xs → x ≡ get_or xs i x → behind place (map entry (drop i xs)) ≡ whole
      → behind (moved place (entry x).entry) (map entry (drop (i + 1) xs)) ≡ whole
  place_more whole within is was = ap (λ left. behind place (map entry left)) (sym (left_more xs i x within is)) ∙ was

module _ {X : Type 0} (entry : X → Stamped) (xs : List X) (i : ℕ) (place : Place) where
  pub octets_all : (now whole : List ℕ) → length xs ≤ i → now ++ records_of place (map entry (drop i xs)) ≡ whole → now ≡ whole
  octets_all now whole all was =
      sym (append-nil now) ∙ ap (λ left. now ++ records_of place (map entry left)) (sym (drop_of_length-le xs all)) ∙ was

  pub place_all : (whole : Place) → length xs ≤ i → behind place (map entry (drop i xs)) ≡ whole → place ≡ whole
  place_all whole all was = ap (λ left. behind place (map entry left)) (sym (drop_of_length-le xs all)) ∙ was

-- the frames of a step as one list of entries
pub puts_fused : (stamp : Stamp) (puts : List Out) → put_entries stamp puts ≡ map (put_entry stamp) (map put_of puts)
puts_fused stamp [] = refl
puts_fused stamp (put ∷ puts) = ap (λ entries. put_entry stamp (put_of put) ∷ entries) (puts_fused stamp puts)

-- a step's first entry, and then its frames
pub step_written : (place : Place) (stamp : Stamp) (first : Stamped) (puts : List Out) (old mid new : List ℕ) → mid ≡ old ++ record_of place first
    → new ≡ mid ++ records_of (moved place first.entry) (put_entries stamp puts)
    → new ≡ old ++ records_of place (first ∷ map (put_entry stamp) (map put_of puts))
step_written place stamp first puts old mid new one two =
    let next : Place = moved place first.entry in
    two
    ∙ ap (λ octets. octets ++ records_of next (put_entries stamp puts)) one
    ∙ append_assoc old (record_of place first) (records_of next (put_entries stamp puts))
    ∙ ap (λ entries. old ++ (record_of place first ++ records_of next entries)) (puts_fused stamp puts)
