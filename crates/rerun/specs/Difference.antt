-- SPDX-License-Identifier: MIT OR Apache-2.0
-- The first difference between the frames that a step put and those of its record.
use Rattle.std.specs.Prelude.{ℕ, suc, ◌==◌, ◌&&◌, Bool, if◌then◌else◌, List, [], ◌∷◌}
use Rattle.std.specs.Prelude.{Option, Some, None, option_map}
use Rattle.std.specs.Str.{bytes_eq}
use Rattle.conn_messages.specs.declared.out.Out.{Out}
use Rattle.record_steps.specs.declared.recorded_step.PutFrame.{PutFrame}
use Rattle.rerun.specs.declared.difference.Extent.{Extent}
use Rattle.rerun.specs.declared.difference.Extent.TheVariants.{All, First}

-- A frame that was put, as a record has it.
abbrev pub put_of : Out → PutFrame
put_of out = record { link = out.to; frame = out.frame }

-- Whether both frames have the same link, stream and octets.
abbrev pub is_same : Out → PutFrame → Bool
is_same out put =
    (out.to == put.link) && (out.frame.stream == put.frame.stream)
    && bytes_eq out.frame.body put.frame.body

-- A frame that the record lacks is a difference only if the record has all frames of the step.
abbrev pub lacking : Extent → Option ℕ
lacking All = Some 0
lacking First = None

abbrev pub first_difference : Extent → List Out → List PutFrame → Option ℕ
first_difference extent [] [] = None
first_difference extent [] (put ∷ puts) = Some 0
first_difference extent (out ∷ outs) [] = lacking extent
first_difference extent (out ∷ outs) (put ∷ puts) =
    if is_same out put then option_map (λ k. suc k) (first_difference extent outs puts)
    else Some 0
