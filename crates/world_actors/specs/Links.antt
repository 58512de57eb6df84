-- SPDX-License-Identifier: MIT OR Apache-2.0
-- The links after each call of `Links`. `world_model` defines the same for the whole world.
use Rattle.std.specs.Prelude.{ℕ, Bool, if◌then◌else◌, List, [], ◌∷◌}
use Rattle.std.specs.Prelude.{◌++◌, fold, set, slice_index_or, Option}
use Rattle.conn_messages.specs.declared.out.Out.{Out}
use Rattle.world_model.specs.declared.line.OutboxEntry.{OutboxEntry}
use Rattle.world_model.specs.declared.seat.Tenure.{Tenure}
use Rattle.world_model.specs.Lists.{behind_first}
use Rattle.world_model.specs.Relay.{entry_of}
use Rattle.world_model.specs.World.{Link, broken_link}

-- the link with this number; a link that doesn't exist counts as broken
abbrev pub link_in : List Link → ℕ → Link
link_in links number = slice_index_or links number broken_link

abbrev pub is_up_in : List Link → ℕ → Bool
is_up_in links number = (link_in links number).up

abbrev pub outbox_in : List Link → ℕ → List OutboxEntry
outbox_in links number = (link_in links number).outbox

abbrev pub with_outbox_in : ℕ → List OutboxEntry → List Link → List Link
with_outbox_in number entries links =
    set links number (record (link_in links number) { outbox = entries })

-- the links after the first entry of the outbox of link `number` is taken
abbrev pub taken_of : ℕ → List Link → List Link
taken_of number links = with_outbox_in number (behind_first (outbox_in links number)) links

-- the links after an output joins the outbox of its link; if that link is down, the output is
-- discarded
abbrev pub joined_in : Option Tenure → List Link → Out → List Link
joined_in target links out =
    if is_up_in links out.to
    then with_outbox_in out.to (outbox_in links out.to ++ entry_of target out ∷ []) links
    else links

abbrev pub all_joined_in : Option Tenure → List Link → List Out → List Link
all_joined_in target links outs = fold (joined_in target) links outs

-- the links after link `number` breaks
abbrev pub broken_in : ℕ → List Link → List Link
broken_in number links = set links number broken_link
