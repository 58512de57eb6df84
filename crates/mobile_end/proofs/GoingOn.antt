-- SPDX-License-Identifier: MIT OR Apache-2.0
-- A mobile's link continues after each call.
use Rattle.std.proofs.Common.{◌≡◌, ℕ, ◌%◌, true, false, Some, List, [], ◌∷◌, ◌++◌, length, sym, ap, ◌∙◌, subst, append_assoc, filter, option_to_list}
use Rattle.std.proofs.lemmas.Bool.{cond-true, cond-false}
use Rattle.std.proofs.lemmas.List.{append-nil}
use Rattle.std.proofs.lemmas.List.Elements.{filter-append}
use Rattle.dtap_codec.specs.Message.{is_flow_message}
use Rattle.dtap_codec.specs.Number.{with_number}
use Rattle.dtap_codec.specs.Places.{IsClear, Rise}
use Rattle.dtap_codec.specs.Places.Rise.{over}
use Rattle.dtap_codec.proofs.Numbers.{is_flow_with_number}
use Rattle.dtap_codec.proofs.Rising.{Rise-flow_twice, Rise-push}
use Rattle.link_model.specs.AirLink.{message_in}
use Rattle.link_model.specs.declared.air_link.Air.{Air}
use Rattle.link_model.specs.declared.air_link.Air.TheVariants.{Empty, Given, Reached}
use Rattle.mobile_end.specs.Control.{is_control, without_control}
use Rattle.mobile_end.specs.DataLinkState.{DataLinkState}
use Rattle.mobile_end.specs.DataLink.{waits, lent_message, after_lending, after_acknowledgement, after_resume, to_be_taken, outstanding_messages}
use Rattle.mobile_end.specs.RunsToEnd.{RunsToEnd}
use Rattle.mobile_end.specs.Mobile.{idle_link}
use Rattle.mobile_end.proofs.Numbering.{to_be_taken-waits}
use Rattle.mobile_end.proofs.Resuming.{is_control_apart, without_control-flow}

-- one list in the place of another
rise_list : {m n k : ℕ} {sent xs ys : List (List ℕ)} → xs ≡ ys → Rise m sent n xs k → Rise m sent n ys k
rise_list {m} {n} {k} {sent} same rise = subst (λ (list : List (List ℕ)). Rise m sent n list k) same rise

-- a mobile that never sent
pub RunsToEnd-new : (m : ℕ) → RunsToEnd m [] [] idle_link
RunsToEnd-new m = record { now = over 0; anew = over 0 }

-- what a station takes moves from the link to the end of the list
moved : (xs : List (List ℕ)) (x : List ℕ) (ys : List (List ℕ)) →
    xs ++ filter is_flow_message (x ∷ ys) ≡ (xs ++ filter is_flow_message (x ∷ [])) ++ filter is_flow_message ys
moved xs x ys =
    ap (λ (list : List (List ℕ)). xs ++ list) (filter-append is_flow_message (x ∷ []) ys)
    ∙ sym (append_assoc xs (filter is_flow_message (x ∷ [])) (filter is_flow_message ys))

lent_of : {m : ℕ} {sent : List (List ℕ)} (xs : List (List ℕ)) (x : List ℕ) (waiting : List (List ℕ)) →
    Rise m sent 0 (xs ++ filter is_flow_message (x ∷ waiting)) (length sent) →
    RunsToEnd m sent (xs ++ filter is_flow_message (x ∷ [])) (record { waiting = waiting; air = Reached x })
lent_of xs x waiting rise = record { now = rise_list (moved xs x waiting) rise; anew = Rise-flow_twice xs x waiting rise }

continues_lent_by : {m : ℕ} {sent xs : List (List ℕ)} (waiting : List (List ℕ)) (air : Air) (x : List ℕ) → let link : DataLinkState = record { waiting = waiting; air = air } in lent_message link ≡ Some x → RunsToEnd m sent xs link → RunsToEnd m sent (xs ++ filter is_flow_message (x ∷ [])) (after_lending link)
continues_lent_by [] Empty x lent going = absurd cc
continues_lent_by {m} {sent} {xs} (first ∷ others) Empty x lent going =
    let same : first ≡ x = cc in
    subst (λ (y : List ℕ). RunsToEnd m sent (xs ++ filter is_flow_message (y ∷ [])) (record { waiting = others; air = Reached first })) same (lent_of xs first others going.now)
continues_lent_by {m} {sent} {xs} waiting (Given message) x lent going =
    let same : message ≡ x = cc in
    subst (λ (y : List ℕ). RunsToEnd m sent (xs ++ filter is_flow_message (y ∷ [])) (record { waiting = waiting; air = Reached message })) same (lent_of xs message waiting going.now)
continues_lent_by waiting (Reached message) x lent going = absurd cc

-- a station takes the message that the link lends
pub RunsToEnd-lent : {m : ℕ} {sent xs : List (List ℕ)} (link : DataLinkState) (x : List ℕ) →
    lent_message link ≡ Some x →
    RunsToEnd m sent xs link →
    RunsToEnd m sent (xs ++ filter is_flow_message (x ∷ [])) (after_lending link)
RunsToEnd-lent link x lent going = continues_lent_by link.waiting link.air x lent going

continues_acknowledged_by : {m : ℕ} {sent xs : List (List ℕ)} (waiting : List (List ℕ)) (air : Air) → let link : DataLinkState = record { waiting = waiting; air = air } in RunsToEnd m sent xs link → RunsToEnd m sent xs (after_acknowledgement link)
continues_acknowledged_by waiting Empty going = going
continues_acknowledged_by waiting (Given message) going = going
continues_acknowledged_by waiting (Reached message) going = record { now = going.now; anew = going.now }

-- what was taken is acknowledged
pub RunsToEnd-acknowledged : {m : ℕ} {sent xs : List (List ℕ)} (link : DataLinkState) →
    RunsToEnd m sent xs link →
    RunsToEnd m sent xs (after_acknowledgement link)
RunsToEnd-acknowledged link going = continues_acknowledged_by link.waiting link.air going

-- the mobile sends again on another channel, or on the one that it left, behind a control message
pub RunsToEnd-resumed : {m : ℕ} {sent xs : List (List ℕ)} (link : DataLinkState) (control : List ℕ) →
    is_control control ≡ true →
    RunsToEnd m sent xs link →
    RunsToEnd m sent xs (after_resume link control)
RunsToEnd-resumed {m} {sent} {xs} link control is going =
    let kept : List (List ℕ) = without_control (outstanding_messages link) in
    let dropped : filter is_flow_message (control ∷ kept) ≡ filter is_flow_message kept = cond-false (is_flow_message control) (control ∷ filter is_flow_message kept) (filter is_flow_message kept) (is_control_apart control is) in
    let same : filter is_flow_message (outstanding_messages link) ≡ filter is_flow_message (control ∷ kept) = sym (dropped ∙ without_control-flow (outstanding_messages link)) in
    let again : Rise m sent 0 (xs ++ filter is_flow_message (control ∷ kept)) (length sent) = rise_list (ap (λ (list : List (List ℕ)). xs ++ list) same) going.anew in
    record { now = again; anew = again }

-- one more message waits
outstanding_waits : (link : DataLinkState) (message : List ℕ) →
    outstanding_messages (waits link message) ≡ outstanding_messages link ++ message ∷ []
outstanding_waits link message = sym (append_assoc (option_to_list (message_in link.air)) link.waiting (message ∷ []))

flow_push : (xs front : List (List ℕ)) (y : List ℕ) →
    is_flow_message y ≡ true →
    (xs ++ filter is_flow_message front) ++ y ∷ [] ≡ xs ++ filter is_flow_message (front ++ y ∷ [])
flow_push xs front y flow =
    append_assoc xs (filter is_flow_message front) (y ∷ [])
    ∙ ap (λ (list : List (List ℕ)). xs ++ (filter is_flow_message front ++ list)) (sym (cond-true (is_flow_message y) (y ∷ []) [] flow))
    ∙ ap (λ (list : List (List ℕ)). xs ++ list) (sym (filter-append is_flow_message front (y ∷ [])))

-- the upper layers send a message of the flow, which waits with the number of its place
pub RunsToEnd-numbered : {m : ℕ} {sent xs : List (List ℕ)} (link : DataLinkState) (message : List ℕ) →
    IsClear message →
    RunsToEnd m sent xs link →
    RunsToEnd m (sent ++ message ∷ []) xs (waits link (with_number (length sent % m) message))
RunsToEnd-numbered {m} {sent} {xs} link message clear going =
    let y : List ℕ = with_number (length sent % m) message in
    let flow : is_flow_message y ≡ true = is_flow_with_number (length sent % m) message ∙ clear.is_flow in
    record {
      now = rise_list (flow_push xs (to_be_taken link) y flow ∙ ap (λ (list : List (List ℕ)). xs ++ filter is_flow_message list) (sym (to_be_taken-waits link y))) (Rise-push message clear going.now);
      anew = rise_list (flow_push xs (outstanding_messages link) y flow ∙ ap (λ (list : List (List ℕ)). xs ++ filter is_flow_message list) (sym (outstanding_waits link y))) (Rise-push message clear going.anew);
    }

flow_passed : (xs front : List (List ℕ)) (y : List ℕ) →
    is_flow_message y ≡ false →
    xs ++ filter is_flow_message front ≡ xs ++ filter is_flow_message (front ++ y ∷ [])
flow_passed xs front y apart =
    ap (λ (list : List (List ℕ)). xs ++ list) (sym (filter-append is_flow_message front (y ∷ [])
    ∙ ap (λ (list : List (List ℕ)). filter is_flow_message front ++ list) (cond-false (is_flow_message y) (y ∷ []) [] apart) ∙ append-nil (filter is_flow_message front)))

-- they send a message of another protocol
pub RunsToEnd-unnumbered : {m : ℕ} {sent xs : List (List ℕ)} (link : DataLinkState) (message : List ℕ) →
    is_flow_message message ≡ false →
    RunsToEnd m sent xs link →
    RunsToEnd m sent xs (waits link message)
RunsToEnd-unnumbered {m} {sent} {xs} link message apart going = record {
  now = rise_list (flow_passed xs (to_be_taken link) message apart ∙ ap (λ (list : List (List ℕ)). xs ++ filter is_flow_message list) (sym (to_be_taken-waits link message))) going.now;
  anew = rise_list (flow_passed xs (outstanding_messages link) message apart ∙ ap (λ (list : List (List ℕ)). xs ++ filter is_flow_message list) (sym (outstanding_waits link message))) going.anew;
}
