-- SPDX-License-Identifier: MIT OR Apache-2.0
-- When and where messages are handed, at literal values.
use Rattle.controller_model.proofs.Prelude.{◌≡◌, true, false, List, [], ◌∷◌, ◌++◌, None, refl, Management, CompleteLayer3Information, hex}
use Rattle.controller_model.proofs.Prelude.{Change, Assignment, Handover, Channel, Message, Request, channel_release, handing}
use Rattle.controller_model.proofs.Prelude.{rf_channel_release, assignment_failure, change_complete, clear_complete, clear_request}
use Rattle.controller_model.proofs.Prelude.{release_complete, Sapi, Zero, Three, change_command, handed, Moment, service, Step, Tick}
use Rattle.controller_model.proofs.LifeLaws.UsedRows.{channel}
use Rattle.controller_model.specs.LifeLaws.Handing.{AllInPlace, AreHandedOn, IsInPlace, changes_after, is_cleared, is_command}
use Rattle.controller_model.proofs.Lives.{down, from_station, from_switch}
use Rattle.controller_model.proofs.OnLiterals.{on_literals}

-- ---- what is received: CHANNEL ACTIVATION ACK, the first message of the mobile, COMPLETE and
-- FAILURE of a handover, DTAP of the switch

abbrev moment : Step → List Message → Moment
moment s put = record { taken = s; messages = put }

abbrev activated : Step
activated = from_station 2 (hex "08 22 01 41 08 00 00")

abbrev initial : Step
initial = from_station 1 (hex "02 06 01 41 02 00 0b 00 03 05 24 71")

abbrev hands_over : Step
hands_over = from_station 2 (hex "03 02 01 41 02 00 0b 00 03 06 2c 00")

abbrev fails : Step
fails = from_station 1 (hex "03 02 01 41 02 00 0b 00 03 06 28 00")

abbrev comes : Step
comes = from_switch (hex "06 00 00 01 00 01 05 01 00 02 05 08")

-- ---- what is put

abbrev request : Message
request = Request (Management (CompleteLayer3Information (record { 0 = [] }) (hex "05 24 71")))

abbrev handover : Message
handover = change_command (channel 1 0x41) Handover (channel 2 0x41)

abbrev complete : List Message
complete = change_complete 5 Handover (channel 2 0x41) 0 ∷ rf_channel_release (channel 1 0x41) ∷ []

abbrev on_old : Message
on_old = handing (channel 1 0x41) Zero (hex "05 08")

abbrev on_new : Message
on_new = handing (channel 2 0x41) Zero (hex "05 08")

-- ---- COMMAND

assignment_is_one : is_command (change_command (channel 1 0x41) Assignment (channel 1 0x09)) ≡ true
unfolding on_literals
assignment_is_one = refl

handover_is_one : is_command handover ≡ true
unfolding on_literals
handover_is_one = refl

release_is_none : is_command (channel_release (channel 1 0x41) 1) ≡ false
unfolding on_literals
release_is_none = refl

dtap_is_none : is_command on_old ≡ false
unfolding on_literals
dtap_is_none = refl

-- each that is put for a change
each_is_one : (serving target : Channel) (change : Change) → is_command (change_command serving change target) ≡ true
each_is_one serving target Assignment = refl
each_is_one serving target Handover = refl

-- ---- the change

abbrev commanded : List Moment
commanded = moment initial (request ∷ []) ∷ moment activated (handover ∷ []) ∷ []

not_before : changes_after (moment initial (request ∷ []) ∷ moment comes (on_old ∷ []) ∷ []) ≡ false
unfolding on_literals
not_before = refl

begins : changes_after commanded ≡ true
unfolding on_literals
begins = refl

-- a message of the switch that reads alike begins none, nor does an activation alone
not_by_the_switch : changes_after (moment comes (handover ∷ []) ∷ moment activated [] ∷ []) ≡ false
unfolding on_literals
not_by_the_switch = refl

-- with DTAP that arrives, time, the break of a station, and answers that aren't taken
carries_on : changes_after (commanded ++ moment comes [] ∷ moment (Tick 100) [] ∷ moment (down 3) [] ∷ moment hands_over [] ∷ moment fails [] ∷ []) ≡ true
unfolding on_literals
carries_on = refl

ends_by_complete : changes_after (commanded ++ moment hands_over complete ∷ []) ≡ false
unfolding on_literals
ends_by_complete = refl

ends_by_failure : changes_after (commanded ++ moment fails (rf_channel_release (channel 2 0x41) ∷ []) ∷ []) ≡ false
unfolding on_literals
ends_by_failure = refl

-- by CLEAR REQUEST, CLEAR COMPLETE, RLC, and the break of the switch's link
ends_by_its_request : changes_after (commanded ++ moment (Tick 5000) (clear_request 5 0x20 ∷ rf_channel_release (channel 1 0x41) ∷ []) ∷ []) ≡ false
unfolding on_literals
ends_by_its_request = refl

ends_by_a_clear : changes_after (commanded ++ moment comes (rf_channel_release (channel 1 0x41) ∷ clear_complete 5 ∷ []) ∷ []) ≡ false
unfolding on_literals
ends_by_a_clear = refl

ends_by_a_release : changes_after (commanded ++ moment comes (release_complete 5 ∷ []) ∷ []) ≡ false
unfolding on_literals
ends_by_a_release = refl

ends_with_the_link : changes_after (commanded ++ moment (down 0) [] ∷ []) ≡ false
unfolding on_literals
ends_with_the_link = refl

-- not by a message to the switch that clears nothing
not_by_another : changes_after (commanded ++ moment comes (assignment_failure 5 0x60 None ∷ []) ∷ []) ≡ true
unfolding on_literals
not_by_another = refl

begins_again : changes_after (commanded ++ moment hands_over complete ∷ moment activated (handover ∷ []) ∷ []) ≡ true
unfolding on_literals
begins_again = refl

-- nothing is handed by the step of the COMMAND, nor until the answer
not_with_the_command : IsInPlace (moment initial (request ∷ []) ∷ []) (moment activated (handover ∷ on_old ∷ [])) → ⊥
unfolding on_literals
not_with_the_command placed = absurd (cc (placed.held refl Zero))

not_while_it_changes : IsInPlace commanded (moment comes (on_old ∷ [])) → ⊥
unfolding on_literals
not_while_it_changes placed = absurd (cc (placed.held refl Zero))

-- ---- the channel that serves

before_complete : AreHandedOn (service commanded) (on_old ∷ [])
unfolding on_literals
before_complete = (λ dtap. (refl, refl), tt)

not_on_the_new_one : AreHandedOn (service commanded) (on_new ∷ []) → ⊥
unfolding on_literals
not_on_the_new_one on = absurd (cc (on.0 refl).0)

after_complete : AreHandedOn (service (commanded ++ moment hands_over complete ∷ [])) (complete ++ on_new ∷ [])
unfolding on_literals
after_complete = (tt, (tt, (λ dtap. (refl, refl), tt)))

not_on_the_old_one : AreHandedOn (service (commanded ++ moment hands_over complete ∷ [])) (on_old ∷ []) → ⊥
unfolding on_literals
not_on_the_old_one on = absurd (cc (on.0 refl).0)

-- before a channel serves nothing is handed
not_before_access : AreHandedOn (service (moment activated [] ∷ [])) (on_old ∷ []) → ⊥
unfolding on_literals
not_before_access on = absurd (cc (on Zero))

-- ---- after CLEAR COMPLETE

abbrev cleared : List Moment
cleared = commanded ++ moment comes (rf_channel_release (channel 1 0x41) ∷ clear_complete 5 ∷ []) ∷ []

is_cleared_then : is_cleared cleared ≡ true
unfolding on_literals
is_cleared_then = refl

not_by_a_request : is_cleared (commanded ++ moment (Tick 5000) (clear_request 5 0x20 ∷ []) ∷ []) ≡ false
unfolding on_literals
not_by_a_request = refl

not_the_release_of_a_channel : IsInPlace cleared (moment (Tick 1) (rf_channel_release (channel 2 0x41) ∷ [])) → ⊥
unfolding on_literals
not_the_release_of_a_channel placed = absurd (placed.cleared refl).0

-- ---- all of it: a handover, what was held is handed on the new channel, a clear and RLC

all_in_place : AllInPlace [] (moment initial (request ∷ [])
    ∷ moment comes (on_old ∷ [])
    ∷ moment activated (handover ∷ [])
    ∷ moment comes []
    ∷ moment hands_over (complete ++ on_new ∷ [])
    ∷ moment comes (clear_complete 5 ∷ [])
    ∷ moment comes (release_complete 5 ∷ []) ∷ [])
unfolding on_literals
all_in_place = (record { held = λ is. absurd (cc is); serving = (tt, tt); cleared = λ is. absurd (cc is) }, (record { held = λ is. absurd (cc is); serving = (λ dtap. (refl, refl), tt); cleared = λ is. absurd (cc is) }, (record { held = λ is sapi. none_with_the_command sapi; serving = (λ dtap. absurd (cc dtap), tt); cleared = λ is. absurd (cc is) }, (record { held = λ is sapi. refl; serving = tt; cleared = λ is. absurd (cc is) }, (record { held = λ is. absurd (cc is); serving = (tt, (tt, (λ dtap. (refl, refl), tt))); cleared = λ is. absurd (cc is) }, (record { held = λ is. absurd (cc is); serving = (tt, tt); cleared = λ is. absurd (cc is) }, (record { held = λ is. absurd (cc is); serving = (tt, tt); cleared = λ is. (tt, tt) }, tt)))))))
  where
    none_with_the_command : (sapi : Sapi) → handed sapi (handover ∷ []) ≡ []
    none_with_the_command Zero = refl
    none_with_the_command Three = refl
