-- SPDX-License-Identifier: MIT OR Apache-2.0
-- Statements about the error of a result. They hold trivially of a success.
use Rattle.std.proofs.Common.{◌≡◌, Result, Ok, Err, ap, subst}
use Rattle.std.specs.Prelude.{IfErr}
use Rattle.program_io.specs.Status.{status_of}
use Rattle.program_io.specs.declared.failure.Failure.{Failure}
use Rattle.std.specs.Result.{IsErrAnd}

same_error : {X E : Type 0} (a b : E) → (let x : Result X E = Err a in x) ≡ Err b → a ≡ b
same_error a b e = cc

-- what is said of an error, of the one that it was
pub error_as : {X E : Type 0} (r : Result X E) (Said : E → Type 0) (error : E) → IsErrAnd r Said → r ≡ Err error → Said error
error_as (Ok x) Said error is same = absurd (cc same)
error_as (Err other) Said error is same = subst Said (same_error other error same) is

-- a failure with status 3 is none with status 2
pub no_device : {P : Type 0} (failure other : Failure) → status_of failure ≡ 3 → failure ≡ other → status_of other ≡ 2 → P
no_device failure other three same two = absurd (cc (three, ap status_of same, two))

-- what is said of an error
pub said_of : {X E : Type 0} (result : Result X E) (Was Said : E → Type 0) →
    IsErrAnd result Was →
    ((error : E) → Was error → Said error) →
    IfErr result Said
said_of (Ok done) Was Said failed says = tt
said_of (Err error) Was Said failed says = says error failed
