-- SPDX-License-Identifier: MIT OR Apache-2.0
-- Lemmas: one more read extends what a sink took of an input.
use Rattle.std.proofs.Common.{ℕ, List, ◌++◌, Option}
use Rattle.std.specs.Io.KnownBytes.{Consumes, Keeps}
use Rattle.std.proofs.KnownBytes.{Consumes-kept, Consumes-trans}

-- some octets were read, and taken
abbrev pub TakesSome : {S : Type 0} → (S → List ℕ → S → Type 0) → Option (List ℕ) → Option (List ℕ) → S → S → Type 0
TakesSome takes start now old new = (octets : List ℕ) × Consumes start now octets × takes old octets new

pub takes_more : {S : Type 0} (takes : S → List ℕ → S → Type 0) → ((old mid new : S) (first second : List ℕ) → takes old first mid → takes mid second new → takes old (first ++ second) new)
    → (start now later : Option (List ℕ)) (old mid new : S) (piece : List ℕ) → TakesSome takes start now old mid → Consumes now later piece → takes mid piece new → TakesSome takes start later old new
takes_more takes both start now later old mid new piece some read more =
    (some.0 ++ piece, Consumes-trans start now later some.0 piece some.1 read, both old mid new some.0 piece some.2 more)

pub refuses_more : {S E : Type 0} (takes : S → List ℕ → S → Type 0) (refuses : S → List ℕ → S → E → Type 0)
    → ((old mid new : S) (first second : List ℕ) (fault : E) → takes old first mid → refuses mid second new fault → refuses old (first ++ second) new fault)
    → (start now later : Option (List ℕ)) (old mid new : S) (piece : List ℕ) (fault : E) → TakesSome takes start now old mid → Consumes now later piece → refuses mid piece new fault
    → (octets : List ℕ) × Consumes start later octets × refuses old octets new fault
refuses_more takes refuses later start now end old mid new piece fault some read more =
    (some.0 ++ piece, Consumes-trans start now end some.0 piece some.1 read, later old mid new some.0 piece fault some.2 more)

pub takes_kept : {S : Type 0} (takes : S → List ℕ → S → Type 0) (start now later : Option (List ℕ)) (old new : S) →
    TakesSome takes start now old new →
    Keeps now later →
    TakesSome takes start later old new
takes_kept takes start now later old new some keeps = (some.0, Consumes-kept start now later some.0 some.1 keeps, some.2)
