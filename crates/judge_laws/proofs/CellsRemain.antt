-- SPDX-License-Identifier: MIT OR Apache-2.0
-- Lemmas: a judge's knowledge of the stations' cells is unchanged, whatever it reads.
use Rattle.std.proofs.Common.{◌≡◌, ℕ, Bool, true, false, List, [], ◌∷◌, Option, Some, None, refl, ◌∙◌}
use Rattle.std.specs.Prelude.{if◌then◌else◌}
use Rattle.dtap_codec.specs.declared.rr.CellDescription.{CellDescription}
use Rattle.dtap_codec.specs.declared.sapi.Sapi.{Sapi}
use Rattle.run_judge.specs.declared.channels.ChannelView.{ChannelView}
use Rattle.run_judge.specs.declared.channels.ChannelView.TheVariants as views
use Rattle.run_judge.specs.declared.judge.Named.{Named}
use Rattle.run_judge.specs.declared.judge.Named.TheVariants.{One, Shared}
use Rattle.run_judge.specs.declared.said.Said.{Said}
use Rattle.run_judge.specs.declared.said.Said.TheVariants as says
use Rattle.run_judge.specs.declared.said.StationChannel.{StationChannel}
use Rattle.run_judge.specs.Channels.{opened_channels, view_at}
use Rattle.run_judge.specs.ConnectionState.{ConnectionState}
use Rattle.run_judge.specs.Judging.{Judging, Numbered, after, after_all, after_one, assigned_by, begun_on, brought_by, channels_for, confirmed_by, ended, freed_reference, given_up, handed_over_by, handed_over_to, left_by, named_by, opened_in, owner_of, with_begun, with_named, with_owner_in, without, without_switch_reference}

same_if : (b : Bool) (j x y : Judging) → x.cells ≡ j.cells → y.cells ≡ j.cells → (let z : Judging = if b then x else y in z).cells ≡ j.cells
same_if true j x y one other = one
same_if false j x y one other = other

-- ---- a base station's frames

by_owner : (o : Option ConnectionState) (change : ConnectionState → ConnectionState) (j : Judging) →
    (with_owner_in o change j).cells ≡ j.cells
by_owner None change j = refl
by_owner (Some c) change j = refl

by_opened : (view : ChannelView) (o : Option ConnectionState) (at : StationChannel) (message : List ℕ) (frame : ℕ) (j : Judging) →
    (opened_in view o at message frame j).cells ≡ j.cells
by_opened (views.Activated (Some reference)) o at message frame j = refl
by_opened (views.Activated None) (Some c) at message frame j = refl
by_opened (views.Activated None) None at message frame j = refl
by_opened views.Unknown (Some c) at message frame j = refl
by_opened views.Unknown None at message frame j = refl
by_opened (views.Opened opening) (Some c) at message frame j = refl
by_opened (views.Opened opening) None at message frame j = refl
by_opened (views.Owned reference number) (Some c) at message frame j = refl
by_opened (views.Owned reference number) None at message frame j = refl

by_brought : (view : ChannelView) (at : StationChannel) (sapi : Sapi) (message : List ℕ) (frame : ℕ) (j : Judging) →
    (brought_by view at sapi message frame j).cells ≡ j.cells
by_brought (views.Opened opening) at sapi message frame j = refl
by_brought views.Unknown at sapi message frame j = by_owner (owner_of at j) _ j
by_brought (views.Activated reference) at sapi message frame j = by_owner (owner_of at j) _ j
by_brought (views.Owned reference number) at sapi message frame j = by_owner (owner_of at j) _ j

by_left : (o : Option ConnectionState) (at : StationChannel) (j : Judging) → (left_by o at j).cells ≡ j.cells
by_left None at j = refl
by_left (Some c) at j = same_if _ j _ j refl refl

-- ---- the controller's frames to a base station

by_given_up : (view : ChannelView) (at : StationChannel) (j : Judging) → (given_up view at j).cells ≡ j.cells
by_given_up (views.Activated reference) at j = refl
by_given_up (views.Opened opening) at j = refl
by_given_up views.Unknown at j = refl
by_given_up (views.Owned reference number) at j = refl

by_assigned : (o : Option ConnectionState) (at : StationChannel) (number : ℕ) (j : Judging) → (assigned_by o at number j).cells ≡ j.cells
by_assigned None at number j = refl
by_assigned (Some c) at number j = same_if _ j _ j refl refl

by_handed_to : (xs : List StationChannel) (c : ConnectionState) (frame : ℕ) (j : Judging) → (handed_over_to xs c frame j).cells ≡ j.cells
by_handed_to [] c frame j = refl
by_handed_to (x ∷ []) c frame j = refl
by_handed_to (x ∷ (y ∷ ys)) c frame j = refl

by_handed : (o : Option ConnectionState) (at : StationChannel) (cell : CellDescription) (number reference frame : ℕ) (j : Judging) →
    (handed_over_by o at cell number reference frame j).cells ≡ j.cells
by_handed None at cell number reference frame j = refl
by_handed (Some c) at cell number reference frame j = same_if _ j _ j (by_handed_to (channels_for cell number reference j) c frame j) refl

-- ---- connections end and begin

by_freed : (o : Option Named) (source reference : ℕ) (j : Judging) → (freed_reference o source reference j).cells ≡ j.cells
by_freed (Some (One owner)) source reference j = same_if _ j _ j refl refl
by_freed (Some Shared) source reference j = refl
by_freed None source reference j = refl

by_without_reference : (o : Option ℕ) (reference : ℕ) (j : Judging) → (without_switch_reference o reference j).cells ≡ j.cells
by_without_reference None reference j = refl
by_without_reference (Some source) reference j = by_freed (j.by_switch source) source reference j

by_without : (o : Option ConnectionState) (reference : ℕ) (j : Judging) → (without o reference j).cells ≡ j.cells
by_without None reference j = refl
by_without (Some c) reference j = by_without_reference c.switch reference _

by_begun : (xs : List StationChannel) (source : ℕ) (message : List ℕ) (frame : ℕ) (j : Judging) →
    (begun_on xs source message frame j).cells ≡ j.cells
by_begun [] source message frame j = refl
by_begun (x ∷ []) source message frame j = refl
by_begun (x ∷ (y ∷ ys)) source message frame j = refl

-- ---- the switch's references

by_named : (o : Option Named) (change : ConnectionState → ConnectionState) (j : Judging) → (with_named o change j).cells ≡ j.cells
by_named (Some (One reference)) change j = refl
by_named (Some Shared) change j = refl
by_named None change j = refl

by_name : (o : Option Named) (reference source frame : ℕ) (j : Judging) → (named_by o reference source frame j).cells ≡ j.cells
by_name None reference source frame j = refl
by_name (Some (One other)) reference source frame j = refl
by_name (Some Shared) reference source frame j = refl

by_confirmed : (o : Option ConnectionState) (reference source frame : ℕ) (j : Judging) →
    (confirmed_by o reference source frame j).cells ≡ j.cells
by_confirmed None reference source frame j = refl
by_confirmed (Some c) reference source frame j = same_if _ j j _ refl (by_name (j.by_switch source) reference source frame j)

-- ---- a frame, and all of them

pub cells_remain : (frame : ℕ) (said : Said) (j : Judging) → (after frame said j).cells ≡ j.cells
cells_remain frame says.Nothing j = refl
cells_remain frame (says.Establishes at message) j = by_opened (view_at j.channels at) (owner_of at j) at message frame j
cells_remain frame (says.Brings at sapi message) j = by_brought (view_at j.channels at) at sapi message frame j
cells_remain frame (says.Completes at change) j = by_owner (owner_of at j) _ j
cells_remain frame (says.Fails at change) j = by_owner (owner_of at j) _ j
cells_remain frame (says.Released at) j = by_left (owner_of at j) at j
cells_remain frame (says.Activates at reference) j = refl
cells_remain frame (says.Releases at) j = by_given_up (view_at j.channels at) at j
cells_remain frame (says.Assigns at number) j = by_assigned (owner_of at j) at number j
cells_remain frame (says.HandsOver at cell number reference) j = by_handed (owner_of at j) at cell number reference frame j
cells_remain frame (says.Hands at sapi message) j = by_owner (owner_of at j) _ j
cells_remain frame (says.Requests source message) j =
    by_begun (opened_channels message j.channels) source message frame (ended source (with_begun j))
    ∙ by_without (j.connections source) source (with_begun j)
cells_remain frame (says.Passes destination sapi message) j = by_named (j.by_switch destination) _ j
cells_remain frame (says.Rejects destination) j = by_named (j.by_switch destination) _ j
cells_remain frame (says.Clears destination) j = by_named (j.by_switch destination) _ j
cells_remain frame (says.Manages destination) j = by_named (j.by_switch destination) _ j
cells_remain frame (says.Ends source) j = by_without (j.connections source) source j
cells_remain frame (says.Confirms destination source) j = by_confirmed (j.connections destination) destination source frame j
cells_remain frame (says.Refuses destination) j = same_if _ j _ j (by_without (j.connections destination) destination j) refl
cells_remain frame (says.Transfers destination sapi message) j = refl

pub all_remain : (ns : List Numbered) (j : Judging) → (after_all j ns).cells ≡ j.cells
all_remain [] j = refl
all_remain (n ∷ ns) j = all_remain ns (after_one j n) ∙ cells_remain n.frame n.said j
