-- SPDX-License-Identifier: MIT OR Apache-2.0
-- Rows: the channel of a HANDOVER COMMAND, by the cells of the stations.
use Rattle.std.proofs.Common.{◌≡◌, List, [], ◌∷◌, ◌++◌, Option, Some, None, refl}
use Rattle.dtap_codec.specs.declared.rr.CellDescription.{CellDescription}
use Rattle.run_judge.specs.declared.channels.ChannelView.{ChannelView}
use Rattle.run_judge.specs.declared.channels.ChannelView.TheVariants as views
use Rattle.run_judge.specs.declared.connection.Reason.{Reason}
use Rattle.run_judge.specs.declared.connection.Reason.TheVariants as reasons
use Rattle.run_judge.specs.declared.connection.Unjudged.{Unjudged}
use Rattle.run_judge.specs.declared.said.Said.{Said}
use Rattle.run_judge.specs.declared.said.Said.TheVariants as says
use Rattle.run_judge.specs.declared.said.StationChannel.{StationChannel}
use Rattle.run_judge.specs.Channels.{cell_at, view_at}
use Rattle.run_judge.specs.Judging.{Judging, after_all, new_judging}
use Rattle.run_judge.proofs.Lives.{at, first, second, target, numbered_from, unjudged_of, initial, begins}

-- ---- the cells of the stations
abbrev home : CellDescription
home = record { arfcn = 10; ncc = 1; bcc = 1 }

abbrev other_cell : CellDescription
other_cell = record { arfcn = 30; ncc = 4; bcc = 5 }

abbrev life_in : List CellDescription → List Said → Judging
life_in cells frames = after_all (new_judging 4 cells) (numbered_from 1 frames)

abbrev third : StationChannel
third = at 3 16

-- frames 5 to 7: a channel of station 2 and one of station 3, with one number and one reference
abbrev alike : List Said
alike = begins first initial 7 90 ++ says.Activates second (Some 5) ∷ says.Activates third (Some 5) ∷ says.HandsOver first target 16 5 ∷ []

-- whose the two are, and whether the connection is judged
abbrev whose : List CellDescription → ChannelView × ChannelView × Option (Option Unjudged)
whose cells = (view_at (life_in cells alike).channels second, view_at (life_in cells alike).channels third, unjudged_of 7 (life_in cells alike))

abbrev neither : Reason → ChannelView × ChannelView × Option (Option Unjudged)
neither reason = (views.Activated (Some 5), views.Activated (Some 5), Some (Some (record { reason = reason; frame = 7 })))

abbrev second_one : ChannelView × ChannelView × Option (Option Unjudged)
second_one = (views.Owned 7 1, views.Activated (Some 5), Some None)

abbrev third_one : ChannelView × ChannelView × Option (Option Unjudged)
third_one = (views.Activated (Some 5), views.Owned 7 1, Some None)

no_cell_is_known : whose [] ≡ neither reasons.TwoChannels
no_cell_is_known = refl

is_in_second : whose (home ∷ target ∷ other_cell ∷ []) ≡ second_one
is_in_second = refl

is_in_third : whose (home ∷ other_cell ∷ target ∷ []) ≡ third_one
is_in_third = refl

is_in_two : whose (home ∷ target ∷ target ∷ []) ≡ neither reasons.TwoChannels
is_in_two = refl

is_in_none : whose (target ∷ home ∷ other_cell ∷ target ∷ []) ≡ neither reasons.UnknownChannel
is_in_none = refl

-- the cell of station 3 isn't known
may_be_in_third : whose (home ∷ target ∷ []) ≡ neither reasons.TwoChannels
may_be_in_third = refl

can_only_be_in_third : whose (home ∷ other_cell ∷ []) ≡ third_one
can_only_be_in_third = refl

-- each part of a cell's description counts
other_arfcn : whose (home ∷ record { arfcn = 21; ncc = 2; bcc = 3 } ∷ target ∷ []) ≡ third_one
other_arfcn = refl

other_ncc : whose (home ∷ record { arfcn = 20; ncc = 1; bcc = 3 } ∷ target ∷ []) ≡ third_one
other_ncc = refl

other_bcc : whose (home ∷ record { arfcn = 20; ncc = 2; bcc = 2 } ∷ target ∷ []) ≡ third_one
other_bcc = refl

exchanged_codes : whose (home ∷ record { arfcn = 20; ncc = 3; bcc = 2 } ∷ target ∷ []) ≡ third_one
exchanged_codes = refl

-- one channel was activated for it, in a cell that is another one, or isn't known
abbrev alone_in : List CellDescription → Option (Option Unjudged)
alone_in cells = unjudged_of 7 (life_in cells (begins first initial 7 90 ++ says.Activates second (Some 5) ∷ says.HandsOver first target 16 5 ∷ []))

alone_in_its_cell : alone_in (home ∷ target ∷ []) ≡ Some None
alone_in_its_cell = refl

alone_in_another_cell : alone_in (home ∷ record { arfcn = 20; ncc = 2; bcc = 4 } ∷ []) ≡ Some (Some (record { reason = reasons.UnknownChannel; frame = 6 }))
alone_in_another_cell = refl

alone_with_another_channel : alone_in (home ∷ record { arfcn = 19; ncc = 2; bcc = 3 } ∷ []) ≡ Some (Some (record { reason = reasons.UnknownChannel; frame = 6 }))
alone_with_another_channel = refl

alone_in_no_known_cell : alone_in (target ∷ []) ≡ Some None
alone_in_no_known_cell = refl

-- station N's cell stands at place N - 1
cell_of_no_station : cell_at 0 (home ∷ target ∷ []) ≡ None
cell_of_no_station = refl

cell_of_first_station : cell_at 1 (home ∷ target ∷ []) ≡ Some home
cell_of_first_station = refl

cell_of_last_station : cell_at 2 (home ∷ target ∷ []) ≡ Some target
cell_of_last_station = refl

cell_of_another_station : cell_at 3 (home ∷ target ∷ []) ≡ None
cell_of_another_station = refl
