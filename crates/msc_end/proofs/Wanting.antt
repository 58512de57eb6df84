-- SPDX-License-Identifier: MIT OR Apache-2.0
-- Data can only fail for lack of memory if no other fault refuses them and the connection hasn't
-- ended.
use Rattle.std.proofs.Common.{◌≡◌, ◌≢◌, ℕ, ◌-◌, ◌≤◌, false, List, length, get_or, Option, Some, Result, Ok, Err, OnErr, sym, ◌∙◌, subst, inl, inr}
use Rattle.std.specs.Result.{result_err, result_ok}
use Rattle.octets.specs.Refusal.{RefusesBy}
use Rattle.bssmap_codec.specs.declared.bssap.Bssap.{Bssap}
use Rattle.bssmap_codec.specs.declared.fault.InterfaceFault.{InterfaceFault}
use Rattle.bssmap_codec.specs.declared.fault.InterfaceFault.TheVariants.{Memory}
use Rattle.bssmap_codec.specs.BssapReading.{bssap_reading}
use Rattle.msc_end.specs.declared.connection.Connection.{Connection}
use Rattle.msc_end.specs.declared.parameters.TheConstants.{REFERENCE_BASE}
use Rattle.msc_end.specs.Refusal.{IsReadable, MayWantData, has_ended}
use Rattle.msc_end.specs.Switch.{connection_of}
use Rattle.msc_end.specs.SwitchState.{SwitchState}
use Rattle.msc_end.proofs.Places.{here}

some_same : {A : Type 0} {x y : A} → Some x ≡ Some y → x ≡ y
some_same e = cc

-- what is refused for want of memory is readable
pub readable : (read : Result Bssap InterfaceFault) (fault : InterfaceFault) →
    fault ≡ Memory →
    RefusesBy {X = Bssap} Memory (Err fault) (result_err read) →
    IsReadable read
readable (Ok message) fault is refused = tt
readable (Err first) fault is (inl same) = some_same same ∙ is
readable (Err first) fault is (inr (memory, none)) = absurd cc

-- and so is what was read
pub was_read : (read : Result Bssap InterfaceFault) (message : Bssap) → result_ok read ≡ Some message → IsReadable read
was_read (Ok read) message is = tt
was_read (Err fault) message is = absurd cc

pub any_refusal : {X E : Type 0} (r : Result X E) (P : Type 0) → P → OnErr r P
any_refusal (Ok x) P h = tt
any_refusal (Err e) P h = h

pub may_want : (s : SwitchState) (k : ℕ) (cs : List Connection) (n d : ℕ) (c : Connection) (user : List ℕ) → record { modulus = k; connections = cs } ≡ s → n ≡ d - REFERENCE_BASE → n ≢ 0 → n ≤ length cs → c ≡ get_or cs (n - 1) c
    → has_ended c.stage ≡ false → IsReadable (bssap_reading user) → MayWantData (connection_of s.connections (d - REFERENCE_BASE)) (bssap_reading user)
may_want s k cs n d c user view is ne le at lives reads =
    subst (λ (x : SwitchState). MayWantData (connection_of x.connections (d - REFERENCE_BASE)) (bssap_reading user)) view
    (subst (λ (j : ℕ). MayWantData (connection_of cs j) (bssap_reading user)) is
    (subst (λ (o : Option Connection). MayWantData o (bssap_reading user)) (sym (here cs n c ne le at)) (lives, reads)))
