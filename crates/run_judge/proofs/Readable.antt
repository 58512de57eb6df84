-- SPDX-License-Identifier: MIT OR Apache-2.0
-- Lemmas: an allocation fails only for octets that the codec doesn't refuse.
use Rattle.std.proofs.Common.{◌≡◌, Result, Ok, Err, IfErr, inl, inr}
use Rattle.octets.specs.Answer.{Gives}
use Rattle.bssmap_codec.specs.declared.fault.InterfaceFault.{InterfaceFault}
use Rattle.bssmap_codec.specs.declared.fault.InterfaceFault.TheVariants as interface
use Rattle.bssmap_codec.specs.declared.sccp.Sccp.{Sccp}
use Rattle.rsl_codec.specs.declared.fault.RslFault.{RslFault}
use Rattle.rsl_codec.specs.declared.fault.RslFault.TheVariants as radio
use Rattle.rsl_codec.specs.declared.rsl.Rsl.{Rsl}
use Rattle.run_judge.specs.Reading.{IsReadable}

-- a call that gives what octets are read as
pub is_readable : {X F : Type 0} (memory : F) (read : Result X F) → Gives memory (λ (v : X). v) (Err memory) read → IsReadable memory read
is_readable memory (Ok x) g = tt
is_readable memory (Err fault) (inl e) = cc
is_readable memory (Err fault) (inr (same, ok)) = absurd cc

-- what is read is readable, whatever is refused then
read_readable : {T E X F : Type 0} (r : Result T E) (memory : F) (read : Result X F) (message : X) →
    read ≡ Ok message →
    IfErr r (λ (e : E). IsReadable memory read)
read_readable (Ok x) memory read message e = tt
read_readable (Err x) memory read message e = rw e tt

pub rsl_readable : {T E : Type 0} (r : Result T E) (read : Result Rsl RslFault) (message : Rsl) →
    read ≡ Ok message →
    IfErr r (λ (e : E). IsReadable radio.Memory read)
rsl_readable r read message e = read_readable r radio.Memory read message e

pub sccp_readable : {T E : Type 0} (r : Result T E) (read : Result Sccp InterfaceFault) (message : Sccp) →
    read ≡ Ok message →
    IfErr r (λ (e : E). IsReadable interface.Memory read)
sccp_readable r read message e = read_readable r interface.Memory read message e

-- ---- what a function's attribute names together

pub ruleset station_readable = (is_readable, rsl_readable)

pub ruleset switch_readable = (is_readable, sccp_readable)
