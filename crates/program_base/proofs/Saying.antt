-- SPDX-License-Identifier: MIT OR Apache-2.0
-- The words of a line say the event that is read from them, and no other.
use Rattle.std.proofs.Common.{◌≡◌, ℕ, Option, Some, List, [], ◌∷◌, refl, sym, ap, ◌∙◌, subst}
use Rattle.dtap_codec.specs.declared.sapi.Sapi.{Sapi}
use Rattle.world_model.specs.declared.event.Event.{Event}
use Rattle.world_model.specs.declared.event.Event.TheVariants.{Upper, Connect, AirUp, AirAck, AirDown, AirDownLost, Move, Touch, Arrive, Return, BaseTakes, BasePush, Handle, SwitchTakes, SwitchDoes, Tick, BaseDown, Report}
use Rattle.world_model.specs.declared.event.SwitchAction.TheVariants.{Assign, Clear, Dtap}
use Rattle.program_base.specs.declared.script.Kind.{Kind}
use Rattle.program_base.specs.declared.script.Kind.TheVariants as kind
use Rattle.program_base.specs.declared.script.Action.{Action}
use Rattle.program_base.specs.declared.script.Action.TheVariants as action
use Rattle.program_base.specs.Words.{value_at, end_of, mobile_in, station_in, source_in, any_number_in, sapi_in, answer_in, octets_in}
use Rattle.program_base.specs.Script.{AreWords, words_of, name_of, name_of_action}
use Rattle.program_base.specs.ScriptReading.{◌>>=◌, last_at, kind_in, action_in, mobile_and_sapi_in, mobile_and_sapi_at, upper_at, connect_at, report_at, dtap_at, action_at, switch_does_at, event_at, line_at}
use Rattle.program_base.proofs.Reading.{chain_some, chain_again, value_at_some, value_at-again, end_of_some, last_at_some, last_at-again, kind_in_some, action_in_some, kind_in-name, action_in-name}

-- ---- the event that is read is the one that the words say

-- an event that one word names
one_said : {X : Type 0} (says : List ℕ → Option X) (event : X → Event) (rest : List (List ℕ)) (e : Event) →
    (last_at says rest >>= (λ x. Some (event x))) ≡ Some e →
    (x : X) × (word : List ℕ) × (rest ≡ word ∷ []) × (says word ≡ Some x) × (event x ≡ e)
one_said says event rest e is =
    let last = chain_some (last_at says rest) _ e is in
    let said = last_at_some says rest last.0 last.1 in
    (last.0, said.0, said.1, said.2, cc (last.2))

-- an event that a mobile and a SAPI name
two_said : (event : ℕ → Sapi → Event) (rest : List (List ℕ)) (e : Event) →
    mobile_and_sapi_at event rest ≡ Some e →
    (m : ℕ) × (s : Sapi) × (first : List ℕ) × (second : List ℕ) × (rest ≡ first ∷ second ∷ []) × (mobile_in first ≡ Some m) × (sapi_in second ≡ Some s) × (event m s ≡ e)
two_said event rest e is =
    let both = chain_some (mobile_and_sapi_in rest) _ e is in
    let first = chain_some (value_at mobile_in rest) _ both.0 both.1 in
    let mobile_said = value_at_some mobile_in rest first.0 first.1 in
    let last = chain_some (last_at sapi_in first.0.1) _ both.0 first.2 in
    let sapi_said = last_at_some sapi_in first.0.1 last.0 last.1 in
    let pair : (first.0.0, last.0) ≡ both.0 = cc (last.2) in
    let value : event both.0.0 both.0.1 ≡ e = cc (both.2) in
    (first.0.0, last.0, mobile_said.0, sapi_said.0, mobile_said.1 ∙ ap (λ more. mobile_said.0 ∷ more) sapi_said.1, mobile_said.2, sapi_said.2, ap (λ p. event p.0 p.1) pair ∙ value)

upper_at_says : (cells : ℕ) (name : List ℕ) (rest : List (List ℕ)) (e : Event) →
    name ≡ name_of kind.Upper →
    upper_at rest ≡ Some e →
    AreWords cells (words_of e) (name ∷ rest)
unfolding upper_at
upper_at_says cells name rest e named is =
    let first = chain_some (value_at mobile_in rest) _ e is in
    let one = value_at_some mobile_in rest first.0 first.1 in
    let second = chain_some (value_at sapi_in first.0.1) _ e first.2 in
    let two = value_at_some sapi_in first.0.1 second.0 second.1 in
    let third = chain_some (last_at octets_in second.0.1) _ e second.2 in
    let three = last_at_some octets_in second.0.1 third.0 third.1 in
    let value : Upper first.0.0 second.0.0 third.0 ≡ e = cc (third.2) in
    subst (λ (e : Event). AreWords cells (words_of e) (name ∷ rest)) value
    (name, rest, refl, named, (one.0, first.0.1, one.1, one.2, (two.0, second.0.1, two.1, two.2, (three.0, [], three.1, three.2, refl))))

connect_at_says : (cells : ℕ) (name : List ℕ) (rest : List (List ℕ)) (e : Event) →
    name ≡ name_of kind.Connect →
    connect_at cells rest ≡ Some e →
    AreWords cells (words_of e) (name ∷ rest)
unfolding connect_at
connect_at_says cells name rest e named is =
    let first = chain_some (value_at mobile_in rest) _ e is in
    let one = value_at_some mobile_in rest first.0 first.1 in
    let second = chain_some (value_at (station_in cells) first.0.1) _ e first.2 in
    let two = value_at_some (station_in cells) first.0.1 second.0 second.1 in
    let third = chain_some (value_at octets_in second.0.1) _ e second.2 in
    let three = value_at_some octets_in second.0.1 third.0 third.1 in
    let fourth = chain_some (last_at answer_in third.0.1) _ e third.2 in
    let four = last_at_some answer_in third.0.1 fourth.0 fourth.1 in
    let value : Connect first.0.0 second.0.0 third.0.0 fourth.0 ≡ e = cc (fourth.2) in
    subst (λ (e : Event). AreWords cells (words_of e) (name ∷ rest)) value
    (name, rest, refl, named, (one.0, first.0.1, one.1, one.2, (two.0, second.0.1, two.1, two.2, (three.0, third.0.1, three.1, three.2, (four.0, [], four.1, four.2, refl)))))

report_at_says : (cells : ℕ) (name : List ℕ) (rest : List (List ℕ)) (e : Event) →
    name ≡ name_of kind.Report →
    report_at rest ≡ Some e →
    AreWords cells (words_of e) (name ∷ rest)
unfolding report_at
report_at_says cells name rest e named is =
    let first = chain_some (value_at mobile_in rest) _ e is in
    let one = value_at_some mobile_in rest first.0 first.1 in
    let second = chain_some (last_at octets_in first.0.1) _ e first.2 in
    let two = last_at_some octets_in first.0.1 second.0 second.1 in
    let value : Report first.0.0 second.0 ≡ e = cc (second.2) in
    subst (λ (e : Event). AreWords cells (words_of e) (name ∷ rest)) value
    (name, rest, refl, named, (one.0, first.0.1, one.1, one.2, (two.0, [], two.1, two.2, refl)))

dtap_at_says : (cells : ℕ) (name word : List ℕ) (rest : List (List ℕ)) (e : Event) →
    name ≡ name_of kind.SwitchDoes →
    word ≡ name_of_action action.Dtap →
    dtap_at rest ≡ Some e →
    AreWords cells (words_of e) (name ∷ word ∷ rest)
unfolding dtap_at
dtap_at_says cells name word rest e named acts is =
    let first = chain_some (value_at any_number_in rest) _ e is in
    let one = value_at_some any_number_in rest first.0 first.1 in
    let second = chain_some (value_at sapi_in first.0.1) _ e first.2 in
    let two = value_at_some sapi_in first.0.1 second.0 second.1 in
    let third = chain_some (last_at octets_in second.0.1) _ e second.2 in
    let three = last_at_some octets_in second.0.1 third.0 third.1 in
    let value : SwitchDoes (Dtap first.0.0 second.0.0 third.0) ≡ e = cc (third.2) in
    subst (λ (e : Event). AreWords cells (words_of e) (name ∷ word ∷ rest)) value
    (name, word ∷ rest, refl, named, (word, rest, refl, acts, (one.0, first.0.1, one.1, one.2, (two.0, second.0.1, two.1, two.2, (three.0, [], three.1, three.2, refl)))))

action_at_says : (cells : ℕ) (a : Action) (name word : List ℕ) (rest : List (List ℕ)) (e : Event) →
    name ≡ name_of kind.SwitchDoes →
    word ≡ name_of_action a →
    action_at a rest ≡ Some e →
    AreWords cells (words_of e) (name ∷ word ∷ rest)
action_at_says cells action.Assign name word rest e named acts is =
    let said = one_said any_number_in (λ c. SwitchDoes (Assign c)) rest e is in
    subst (λ (e : Event). AreWords cells (words_of e) (name ∷ word ∷ rest)) said.4 (name, word ∷ rest, refl, named, (word, rest, refl, acts, (said.1, [], said.2, said.3, refl)))
action_at_says cells action.Clear name word rest e named acts is =
    let said = one_said any_number_in (λ c. SwitchDoes (Clear c)) rest e is in
    subst (λ (e : Event). AreWords cells (words_of e) (name ∷ word ∷ rest)) said.4 (name, word ∷ rest, refl, named, (word, rest, refl, acts, (said.1, [], said.2, said.3, refl)))
action_at_says cells action.Dtap name word rest e named acts is = dtap_at_says cells name word rest e named acts is

switch_does_at_says : (cells : ℕ) (name : List ℕ) (rest : List (List ℕ)) (e : Event) →
    name ≡ name_of kind.SwitchDoes →
    switch_does_at rest ≡ Some e →
    AreWords cells (words_of e) (name ∷ rest)
unfolding switch_does_at
switch_does_at_says cells name rest e named is =
    let first = chain_some (value_at action_in rest) _ e is in
    let one = value_at_some action_in rest first.0 first.1 in
    subst (λ (words : List (List ℕ)). AreWords cells (words_of e) (name ∷ words)) (sym one.1)
    (action_at_says cells first.0.0 name one.0 first.0.1 e named (action_in_some one.0 first.0.0 one.2) first.2)

event_at_says : (cells : ℕ) (k : Kind) (rest : List (List ℕ)) (e : Event) →
    event_at cells k rest ≡ Some e →
    AreWords cells (words_of e) (name_of k ∷ rest)
unfolding event_at
event_at_says cells kind.Upper rest e is = upper_at_says cells (name_of kind.Upper) rest e refl is
event_at_says cells kind.Connect rest e is = connect_at_says cells (name_of kind.Connect) rest e refl is
event_at_says cells kind.SwitchDoes rest e is = switch_does_at_says cells (name_of kind.SwitchDoes) rest e refl is
event_at_says cells kind.Report rest e is = report_at_says cells (name_of kind.Report) rest e refl is
event_at_says cells kind.AirUp rest e is =
    let said = two_said (λ m s. AirUp m s) rest e is in
    subst (λ (e : Event). AreWords cells (words_of e) (name_of kind.AirUp ∷ rest)) said.7 (name_of kind.AirUp, rest, refl, refl, (said.2, said.3 ∷ [], said.4, said.5, (said.3, [], refl, said.6, refl)))
event_at_says cells kind.AirAck rest e is =
    let said = two_said (λ m s. AirAck m s) rest e is in
    subst (λ (e : Event). AreWords cells (words_of e) (name_of kind.AirAck ∷ rest)) said.7 (name_of kind.AirAck, rest, refl, refl, (said.2, said.3 ∷ [], said.4, said.5, (said.3, [], refl, said.6, refl)))
event_at_says cells kind.AirDown rest e is =
    let said = one_said mobile_in (λ x. AirDown x) rest e is in
    subst (λ (e : Event). AreWords cells (words_of e) (name_of kind.AirDown ∷ rest)) said.4 (name_of kind.AirDown, rest, refl, refl, (said.1, [], said.2, said.3, refl))
event_at_says cells kind.AirDownLost rest e is =
    let said = one_said mobile_in (λ x. AirDownLost x) rest e is in
    subst (λ (e : Event). AreWords cells (words_of e) (name_of kind.AirDownLost ∷ rest)) said.4 (name_of kind.AirDownLost, rest, refl, refl, (said.1, [], said.2, said.3, refl))
event_at_says cells kind.Move rest e is =
    let said = one_said mobile_in (λ x. Move x) rest e is in
    subst (λ (e : Event). AreWords cells (words_of e) (name_of kind.Move ∷ rest)) said.4 (name_of kind.Move, rest, refl, refl, (said.1, [], said.2, said.3, refl))
event_at_says cells kind.Touch rest e is =
    let said = one_said mobile_in (λ x. Touch x) rest e is in
    subst (λ (e : Event). AreWords cells (words_of e) (name_of kind.Touch ∷ rest)) said.4 (name_of kind.Touch, rest, refl, refl, (said.1, [], said.2, said.3, refl))
event_at_says cells kind.Arrive rest e is =
    let said = one_said mobile_in (λ x. Arrive x) rest e is in
    subst (λ (e : Event). AreWords cells (words_of e) (name_of kind.Arrive ∷ rest)) said.4 (name_of kind.Arrive, rest, refl, refl, (said.1, [], said.2, said.3, refl))
event_at_says cells kind.Return rest e is =
    let said = one_said mobile_in (λ x. Return x) rest e is in
    subst (λ (e : Event). AreWords cells (words_of e) (name_of kind.Return ∷ rest)) said.4 (name_of kind.Return, rest, refl, refl, (said.1, [], said.2, said.3, refl))
event_at_says cells kind.BaseTakes rest e is =
    let said = one_said (station_in cells) (λ x. BaseTakes x) rest e is in
    subst (λ (e : Event). AreWords cells (words_of e) (name_of kind.BaseTakes ∷ rest)) said.4 (name_of kind.BaseTakes, rest, refl, refl, (said.1, [], said.2, said.3, refl))
event_at_says cells kind.BasePush rest e is =
    let said = one_said (source_in cells) (λ x. BasePush x) rest e is in
    subst (λ (e : Event). AreWords cells (words_of e) (name_of kind.BasePush ∷ rest)) said.4 (name_of kind.BasePush, rest, refl, refl, (said.1, [], said.2, said.3, refl))
event_at_says cells kind.BaseDown rest e is =
    let said = one_said (source_in cells) (λ x. BaseDown x) rest e is in
    subst (λ (e : Event). AreWords cells (words_of e) (name_of kind.BaseDown ∷ rest)) said.4 (name_of kind.BaseDown, rest, refl, refl, (said.1, [], said.2, said.3, refl))
event_at_says cells kind.Tick rest e is =
    let said = one_said any_number_in (λ x. Tick x) rest e is in
    subst (λ (e : Event). AreWords cells (words_of e) (name_of kind.Tick ∷ rest)) said.4 (name_of kind.Tick, rest, refl, refl, (said.1, [], said.2, said.3, refl))
event_at_says cells kind.Handle rest e is =
    let end = chain_some (end_of rest) _ e is in
    let value : Handle ≡ e = cc (end.2) in
    subst (λ (e : Event). AreWords cells (words_of e) (name_of kind.Handle ∷ rest)) value (name_of kind.Handle, rest, refl, refl, end_of_some rest end.0 end.1)
event_at_says cells kind.SwitchTakes rest e is =
    let end = chain_some (end_of rest) _ e is in
    let value : SwitchTakes ≡ e = cc (end.2) in
    subst (λ (e : Event). AreWords cells (words_of e) (name_of kind.SwitchTakes ∷ rest)) value (name_of kind.SwitchTakes, rest, refl, refl, end_of_some rest end.0 end.1)

-- the words say the event that is read from them
pub line_at_says : (cells : ℕ) (words : List (List ℕ)) (e : Event) → line_at cells words ≡ Some e → AreWords cells (words_of e) words
unfolding line_at
line_at_says cells words e is =
    let first = chain_some (value_at kind_in words) _ e is in
    let one = value_at_some kind_in words first.0 first.1 in
    let named : words ≡ name_of first.0.0 ∷ first.0.1 = one.1 ∙ ap (λ word. word ∷ first.0.1) (kind_in_some one.0 first.0.0 one.2) in
    subst (λ (words : List (List ℕ)). AreWords cells (words_of e) words) (sym named) (event_at_says cells first.0.0 first.0.1 e first.2)

-- ---- what the words say is read

line_at-by : (cells : ℕ) (words : List (List ℕ)) (k : Kind) (word : List ℕ) (rest : List (List ℕ)) (e : Event) →
    words ≡ word ∷ rest →
    word ≡ name_of k →
    event_at cells k rest ≡ Some e →
    line_at cells words ≡ Some e
unfolding line_at
line_at-by cells words k word rest e split named said =
    chain_again (value_at kind_in words) _ (k, rest) (Some e) (value_at-again kind_in words word rest k split (ap kind_in named ∙ kind_in-name k)) said

switch_does_at-by : (words : List (List ℕ)) (a : Action) (word : List ℕ) (rest : List (List ℕ)) (e : Event) →
    words ≡ word ∷ rest →
    word ≡ name_of_action a →
    action_at a rest ≡ Some e →
    switch_does_at words ≡ Some e
unfolding switch_does_at
switch_does_at-by words a word rest e split named said =
    chain_again (value_at action_in words) _ (a, rest) (Some e) (value_at-again action_in words word rest a split (ap action_in named ∙ action_in-name a)) said

one_again : {X : Type 0} (says : List ℕ → Option X) (event : X → Event) (rest : List (List ℕ)) (word : List ℕ) (end : List (List ℕ)) (x : X) →
    rest ≡ word ∷ end →
    says word ≡ Some x →
    end ≡ [] →
    (last_at says rest >>= (λ x. Some (event x))) ≡ Some (event x)
one_again says event rest word end x split is ends = chain_again (last_at says rest) _ x (Some (event x)) (last_at-again says rest word end x split ends is) refl

two_again : (event : ℕ → Sapi → Event) (rest : List (List ℕ)) (first : List ℕ) (more : List (List ℕ)) (second : List ℕ) (end : List (List ℕ)) (m : ℕ) (s : Sapi) →
    rest ≡ first ∷ more →
    mobile_in first ≡ Some m →
    more ≡ second ∷ end →
    sapi_in second ≡ Some s →
    end ≡ [] →
    mobile_and_sapi_at event rest ≡ Some (event m s)
two_again event rest first more second end m s split one split_more two ends =
    chain_again (mobile_and_sapi_in rest) _ (m, s) (Some (event m s))
    (chain_again (value_at mobile_in rest) _ (m, more) (Some (m, s)) (value_at-again mobile_in rest first more m split one)
    (chain_again (last_at sapi_in more) _ s (Some (m, s)) (last_at-again sapi_in more second end s split_more ends two) refl))
    refl

-- the event that the words say is read from them
pub line_at-again : (cells : ℕ) (e : Event) (words : List (List ℕ)) → AreWords cells (words_of e) words → line_at cells words ≡ Some e
unfolding event_at upper_at connect_at report_at dtap_at
line_at-again cells (Upper m s o) words (name, rest, split, named, (w, ws, split_w, is_m, (v, vs, split_v, is_s, (u, us, split_u, is_o, end)))) =
    line_at-by cells words kind.Upper name rest (Upper m s o) split named
    (chain_again (value_at mobile_in rest) _ (m, ws) _ (value_at-again mobile_in rest w ws m split_w is_m)
    (chain_again (value_at sapi_in ws) _ (s, vs) _ (value_at-again sapi_in ws v vs s split_v is_s)
    (chain_again (last_at octets_in vs) _ o _ (last_at-again octets_in vs u us o split_u end is_o) refl)))
line_at-again cells (Connect m b o y) words (name, rest, split, named, (w, ws, split_w, is_m, (v, vs, split_v, is_b, (u, us, split_u, is_o, (t, ts, split_t, is_y, end))))) =
    line_at-by cells words kind.Connect name rest (Connect m b o y) split named
    (chain_again (value_at mobile_in rest) _ (m, ws) _ (value_at-again mobile_in rest w ws m split_w is_m)
    (chain_again (value_at (station_in cells) ws) _ (b, vs) _ (value_at-again (station_in cells) ws v vs b split_v is_b)
    (chain_again (value_at octets_in vs) _ (o, us) _ (value_at-again octets_in vs u us o split_u is_o)
    (chain_again (last_at answer_in us) _ y _ (last_at-again answer_in us t ts y split_t end is_y) refl))))
line_at-again cells (Report m o) words (name, rest, split, named, (w, ws, split_w, is_m, (u, us, split_u, is_o, end))) =
    line_at-by cells words kind.Report name rest (Report m o) split named
    (chain_again (value_at mobile_in rest) _ (m, ws) _ (value_at-again mobile_in rest w ws m split_w is_m)
    (chain_again (last_at octets_in ws) _ o _ (last_at-again octets_in ws u us o split_u end is_o) refl))
line_at-again cells (SwitchDoes (Dtap c s o)) words (name, rest, split, named, (act, more, split_act, acts, (w, ws, split_w, is_c, (v, vs, split_v, is_s, (u, us, split_u, is_o, end))))) =
    line_at-by cells words kind.SwitchDoes name rest (SwitchDoes (Dtap c s o)) split named
    (switch_does_at-by rest action.Dtap act more (SwitchDoes (Dtap c s o)) split_act acts
    (chain_again (value_at any_number_in more) _ (c, ws) _ (value_at-again any_number_in more w ws c split_w is_c)
    (chain_again (value_at sapi_in ws) _ (s, vs) _ (value_at-again sapi_in ws v vs s split_v is_s)
    (chain_again (last_at octets_in vs) _ o _ (last_at-again octets_in vs u us o split_u end is_o) refl))))
line_at-again cells (SwitchDoes (Assign c)) words (name, rest, split, named, (act, more, split_act, acts, (w, ws, split_w, is_c, end))) =
    line_at-by cells words kind.SwitchDoes name rest (SwitchDoes (Assign c)) split named
    (switch_does_at-by rest action.Assign act more (SwitchDoes (Assign c)) split_act acts (one_again any_number_in (λ c. SwitchDoes (Assign c)) more w ws c split_w is_c end))
line_at-again cells (SwitchDoes (Clear c)) words (name, rest, split, named, (act, more, split_act, acts, (w, ws, split_w, is_c, end))) =
    line_at-by cells words kind.SwitchDoes name rest (SwitchDoes (Clear c)) split named
    (switch_does_at-by rest action.Clear act more (SwitchDoes (Clear c)) split_act acts (one_again any_number_in (λ c. SwitchDoes (Clear c)) more w ws c split_w is_c end))
line_at-again cells (AirUp m s) words (name, rest, split, named, (w, ws, split_w, is_m, (v, vs, split_v, is_s, end))) =
    line_at-by cells words kind.AirUp name rest (AirUp m s) split named (two_again (λ m s. AirUp m s) rest w ws v vs m s split_w is_m split_v is_s end)
line_at-again cells (AirAck m s) words (name, rest, split, named, (w, ws, split_w, is_m, (v, vs, split_v, is_s, end))) =
    line_at-by cells words kind.AirAck name rest (AirAck m s) split named (two_again (λ m s. AirAck m s) rest w ws v vs m s split_w is_m split_v is_s end)
line_at-again cells (AirDown x) words (name, rest, split, named, (w, ws, split_w, is, end)) =
    line_at-by cells words kind.AirDown name rest (AirDown x) split named (one_again mobile_in (λ x. AirDown x) rest w ws x split_w is end)
line_at-again cells (AirDownLost x) words (name, rest, split, named, (w, ws, split_w, is, end)) =
    line_at-by cells words kind.AirDownLost name rest (AirDownLost x) split named (one_again mobile_in (λ x. AirDownLost x) rest w ws x split_w is end)
line_at-again cells (Move x) words (name, rest, split, named, (w, ws, split_w, is, end)) =
    line_at-by cells words kind.Move name rest (Move x) split named (one_again mobile_in (λ x. Move x) rest w ws x split_w is end)
line_at-again cells (Touch x) words (name, rest, split, named, (w, ws, split_w, is, end)) =
    line_at-by cells words kind.Touch name rest (Touch x) split named (one_again mobile_in (λ x. Touch x) rest w ws x split_w is end)
line_at-again cells (Arrive x) words (name, rest, split, named, (w, ws, split_w, is, end)) =
    line_at-by cells words kind.Arrive name rest (Arrive x) split named (one_again mobile_in (λ x. Arrive x) rest w ws x split_w is end)
line_at-again cells (Return x) words (name, rest, split, named, (w, ws, split_w, is, end)) =
    line_at-by cells words kind.Return name rest (Return x) split named (one_again mobile_in (λ x. Return x) rest w ws x split_w is end)
line_at-again cells (BaseTakes x) words (name, rest, split, named, (w, ws, split_w, is, end)) =
    line_at-by cells words kind.BaseTakes name rest (BaseTakes x) split named (one_again (station_in cells) (λ x. BaseTakes x) rest w ws x split_w is end)
line_at-again cells (BasePush x) words (name, rest, split, named, (w, ws, split_w, is, end)) =
    line_at-by cells words kind.BasePush name rest (BasePush x) split named (one_again (source_in cells) (λ x. BasePush x) rest w ws x split_w is end)
line_at-again cells (BaseDown x) words (name, rest, split, named, (w, ws, split_w, is, end)) =
    line_at-by cells words kind.BaseDown name rest (BaseDown x) split named (one_again (source_in cells) (λ x. BaseDown x) rest w ws x split_w is end)
line_at-again cells (Tick x) words (name, rest, split, named, (w, ws, split_w, is, end)) =
    line_at-by cells words kind.Tick name rest (Tick x) split named (one_again any_number_in (λ x. Tick x) rest w ws x split_w is end)
line_at-again cells Handle words (name, rest, split, named, end) =
    line_at-by cells words kind.Handle name rest Handle split named (chain_again (end_of rest) _ tt (Some Handle) (ap end_of end) refl)
line_at-again cells SwitchTakes words (name, rest, split, named, end) =
    line_at-by cells words kind.SwitchTakes name rest SwitchTakes split named (chain_again (end_of rest) _ tt (Some SwitchTakes) (ap end_of end) refl)
