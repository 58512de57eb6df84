-- SPDX-License-Identifier: MIT OR Apache-2.0
-- The reading of options agrees with the grammar.
use Rattle.std.proofs.Common.{◌≡◌, ◌≢◌, ℕ, zero, suc, ◌≤◌, cond, List, [], ◌∷◌, ◌++◌, length, Option, Some, None, Result, Ok, Err, refl, sym, ap, subst, ◌∙◌, arith, eq-eqb, inl, inr}
use Rattle.std.proofs.lemmas.Bool.{cases_eq, ne_eqb}
use Rattle.octets.specs.Element.{AreOctets}
use Rattle.octets.proofs.Grammar.{octets_back, octets_drop}
use Rattle.octets.proofs.Steps.{bind_ok, ok_is}
use Rattle.octets.specs.Answer.{◌>>=◌}
use Rattle.octets.specs.Front.{counted_at, counted_text}
use Rattle.bssmap_codec.specs.declared.fault.InterfaceFault.{InterfaceFault}
use Rattle.bssmap_codec.specs.declared.fault.InterfaceFault.TheVariants.{Short}
use Rattle.bssmap_codec.specs.declared.identifiers.TheConstants.{END_OF_OPTIONS, USER_DATA}
use Rattle.bssmap_codec.specs.declared.sccp_parameters.TheConstants.{NO_PART}
use Rattle.bssmap_codec.specs.Sccp.{Options, PointsToOptions, HasOptions}
use Rattle.bssmap_codec.specs.Sccp.Options.{over, ended, carried, other}
use Rattle.bssmap_codec.specs.SccpReading.{part_at, option_behind, option_at, data_by, data_within, data_in, user_data_at}
use Rattle.bssmap_codec.proofs.Fronts.{counted_shorter, counted_text_is_read, counted_is, part_again, part_ok}
use Rattle.bssmap_codec.proofs.Options.{data_front}

-- ---- options are read

option_text : (id : ℕ) (value rest : List ℕ) → id ≢ END_OF_OPTIONS →
    option_at (id ∷ (counted_text value ++ rest)) ≡ Ok (Some (id, value, rest))
unfolding option_at
option_text id value rest ne = rw (ne_eqb id END_OF_OPTIONS ne, counted_text_is_read value rest) refl

pub options_again : (octets : List ℕ) (user : Option (List ℕ)) → Options octets user → data_in octets ≡ Ok user
unfolding option_at
options_again octets user over = data_front [] (Ok None) refl
options_again octets user (ended more) = data_front (END_OF_OPTIONS ∷ more) (Ok None) refl
options_again octets user (carried value more short) =
    let ne : USER_DATA ≢ END_OF_OPTIONS = omega arith in
    data_front (USER_DATA ∷ (counted_text value ++ more)) (Ok (Some (USER_DATA, value, more))) (option_text USER_DATA value more ne)
options_again octets user (other id value rest user' ne apart short behind) =
    data_front (id ∷ (counted_text value ++ rest)) (Ok (Some (id, value, rest))) (option_text id value rest ne)
    ∙ ap (λ b. cond b (Ok (Some value)) (data_in rest)) (ne_eqb id USER_DATA apart)
    ∙ options_again rest user' behind

-- ---- what is read are options

behind_is : (id : ℕ) (rest : List ℕ) (user : Option (List ℕ)) (go : List ℕ → Result (Option (List ℕ)) InterfaceFault)
    (r : Result (List ℕ × List ℕ) InterfaceFault) → AreOctets rest → id ≢ END_OF_OPTIONS → counted_at Short rest ≡ r
    → ((p : List ℕ × List ℕ) → counted_at Short rest ≡ Ok p → go p.1 ≡ Ok user → Options p.1 user)
    → data_by (r >>= (λ value. Ok (Some (id, value.0, value.1)))) go ≡ Ok user → Options (id ∷ rest) user
behind_is id rest user go (Err d) fits ne is on e = absurd cc
behind_is id rest user go (Ok p) fits ne is on e =
    let text = counted_is rest p fits is in
    elim (cases_eq id USER_DATA) [
      | inl same ↦
          let here : Ok (Some p.0) ≡ Ok user = ap (λ b. cond b (Ok (Some p.0)) (go p.1)) (sym (eq-eqb id USER_DATA same)) ∙ e in
          let is-user : Some p.0 ≡ user = ok_is {F = InterfaceFault} (Some p.0) user here in
          subst (λ (u : Option (List ℕ)). Options (id ∷ rest) u) is-user
          (subst (λ (n : ℕ). Options (n ∷ rest) (Some p.0)) (sym same)
          (subst (λ (xs : List ℕ). Options (USER_DATA ∷ xs) (Some p.0)) (sym text.0) (carried p.0 p.1 text.1)))
      | inr apart ↦
          let there : go p.1 ≡ Ok user = ap (λ b. cond b (Ok (Some p.0)) (go p.1)) (sym (ne_eqb id USER_DATA apart)) ∙ e in
          subst (λ (xs : List ℕ). Options (id ∷ xs) user) (sym text.0) (other id p.0 p.1 user ne apart text.1 (on p is there))
    ]

none_is : (octets : List ℕ) (user : Option (List ℕ)) → Options octets None →
    (let r : Result (Option (List ℕ)) InterfaceFault = Ok None in r) ≡ Ok user → Options octets user
none_is octets user o e = let is = ok_is {A = Option (List ℕ)} {F = InterfaceFault} None user e in subst (λ (u : Option (List ℕ)). Options octets u) is o

options_within : (n : ℕ) (octets : List ℕ) (user : Option (List ℕ)) → length octets ≤ n → AreOctets octets →
    data_within n octets ≡ Ok user → Options octets user
unfolding option_at
options_within zero [] user le fits e = none_is [] user over e
options_within zero (x ∷ octets) user le fits e = absurd (omega arith)
options_within (suc n) [] user le fits e = none_is [] user over e
options_within (suc n) (id ∷ rest) user le fits e =
    elim (cases_eq id END_OF_OPTIONS) [
      | inl same ↦
          let e' : Ok None ≡ Ok user = ap (λ b. data_by (cond b (Ok None) (option_behind id rest)) (data_within n)) (sym (eq-eqb id END_OF_OPTIONS same)) ∙ e in
          none_is (id ∷ rest) user (subst (λ (m : ℕ). Options (m ∷ rest) None) (sym same) (ended rest)) e'
      | inr ne ↦
          let e' = ap (λ b. data_by (cond b (Ok None) (option_behind id rest)) (data_within n)) (sym (ne_eqb id END_OF_OPTIONS ne)) ∙ e in
          let behind : AreOctets rest = λ i. fits (suc i) in
          behind_is id rest user (data_within n) (counted_at Short rest) behind ne refl
          (λ p is there.
          let lt = counted_shorter rest p is in
          let text = counted_is rest p behind is in
          options_within n p.1 user (omega arith) (octets_back (counted_text p.0) p.1 (subst AreOctets text.0 behind)) there) e'
    ]

pub options_ok : (octets : List ℕ) (user : Option (List ℕ)) → AreOctets octets → data_in octets ≡ Ok user → Options octets user
unfolding data_in
options_ok octets user fits e = options_within (length octets) octets user (omega arith) fits e

-- ---- behind their pointer

pub user_none : (rest : List ℕ) → user_data_at NO_PART (NO_PART ∷ rest) ≡ Ok None
unfolding user_data_at
user_none rest = refl

pub user_again : (octets : List ℕ) (user : Option (List ℕ)) (p : PointsToOptions octets user) →
    user_data_at p.points.pointer octets ≡ Ok user
unfolding user_data_at
user_again octets user p =
    let forward = p.points.forward in
    let ne : p.points.pointer ≢ NO_PART = omega arith in
    rw (ne_eqb p.points.pointer NO_PART ne, part_again p.points.pointer octets p.points.forward p.points.within)
    (ap data_in p.points.leads ∙ options_again p.part user p.options)

pub user_ok : (pointer : ℕ) (rest : List ℕ) (user : Option (List ℕ)) → AreOctets (pointer ∷ rest) →
    user_data_at pointer (pointer ∷ rest) ≡ Ok user → HasOptions (pointer ∷ rest) user
unfolding user_data_at
user_ok pointer rest user fits e =
    elim (cases_eq pointer NO_PART) [
      | inl same ↦
          let e' : Ok None ≡ Ok user = ap (λ b. cond b (Ok None) (part_at pointer (pointer ∷ rest) >>= data_in)) (sym (eq-eqb pointer NO_PART same)) ∙ e in
          inl (record { rest = rest; is = ap (λ (n : ℕ). n ∷ rest) same }, sym (ok_is {A = Option (List ℕ)} {F = InterfaceFault} None user e'))
      | inr ne ↦
          let e' = ap (λ b. cond b (Ok None) (part_at pointer (pointer ∷ rest) >>= data_in)) (sym (ne_eqb pointer NO_PART ne)) ∙ e in
          let a = bind_ok (part_at pointer (pointer ∷ rest)) data_in user e' in
          let points = part_ok pointer rest a.0 a.1 in
          let fits' : AreOctets a.0 = subst AreOctets points.leads (octets_drop points.pointer (pointer ∷ rest) fits) in
          inr (record { part = a.0; points = points; options = options_ok a.0 user fits' a.2 })
    ]
