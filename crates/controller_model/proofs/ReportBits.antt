-- SPDX-License-Identifier: MIT OR Apache-2.0
-- A report in 16 octets is read field by field.
use Rattle.controller_model.proofs.Prelude.{◌≡◌, ℕ, zero, ◌+◌, ◌<◌, List, [], ◌∷◌, length, refl, sym, ap, ◌∙◌, subst, arith, Report, ◌*◌}
use Rattle.controller_model.proofs.Prelude.{◌/◌, ◌%◌, ◌^◌, take, bits, report_in}
use Rattle.std.specs.Int.{from_be_bytes, w128}
use Rattle.std.proofs.Math.Nat.{mul_comm, mod-lt, mod-one, mod-eq_of_lt}
use Rattle.std.proofs.lemmas.Nat.{pow-add, pow_pos, mul-add-lt, mod-mul-add, div-add-mod'}
use Rattle.dtap_codec.specs.declared.report.TheConstants.{REPORT_LENGTH}
use Rattle.dtap_codec.specs.Bits.{Field, field, width_of, number_of, Fit}
use Rattle.dtap_codec.specs.declared.report.Neighbour.{Neighbour}
use Rattle.dtap_codec.specs.Report.{IsReport, Writes, entries_fields, report_fields}
use Rattle.dtap_codec.proofs.Fields.{number_of-below, together}
use Rattle.dtap_codec.proofs.Reports.{bit_is_one, bit_is_zero, same_report}
use Rattle.controller_model.specs.Reports.{report_reading}

-- ---- a number, cut into fields of these widths

total : List ℕ → ℕ
total [] = 0
total (w ∷ ws) = w + total ws

cut : List ℕ → ℕ → List Field
unfolding total
cut [] n = []
cut (w ∷ ws) n = field w (bits w (total ws) n) ∷ cut ws n

width_of-cut : (ws : List ℕ) (n : ℕ) → width_of (cut ws n) ≡ total ws
unfolding cut total
width_of-cut [] n = refl
width_of-cut (w ∷ ws) n = ap (λ m. w + m) (width_of-cut ws n)

Fit-cut : (ws : List ℕ) (n : ℕ) → Fit (cut ws n)
unfolding cut
Fit-cut [] n = tt
Fit-cut (w ∷ ws) n = (mod-lt (n / 2 ^ total ws) (pow_pos w), Fit-cut ws n)

low : (n a b : ℕ) → zero < a → zero < b → (n / a % b) * a + n % a ≡ n % (b * a)
low n a b some_a some_b =
    let P : ℕ → Type 0 = λ m. (n / a % b) * a + n % a < m in
    let below : (n / a % b) * a + n % a < b * a = subst P (mul_comm a b) (mul-add-lt (n / a % b) a (n % a) b (mod-lt (n / a) some_b) (mod-lt n some_a)) in
    let whole : (n / a / b) * (b * a) + ((n / a % b) * a + n % a) ≡ n =
    together (n / a / b) b a (n / a % b) (n % a) ∙ ap (λ m. m * a + n % a) (div-add-mod' (n / a) b) ∙ div-add-mod' n a in
    sym (mod-mul-add (n / a / b) (b * a) ((n / a % b) * a + n % a) below) ∙ ap (λ m. m % (b * a)) whole

number_of-cut : (ws : List ℕ) (n : ℕ) → number_of (cut ws n) ≡ n % 2 ^ total ws
unfolding cut total
number_of-cut [] n = sym (mod-one n)
number_of-cut (w ∷ ws) n =
    ap (λ m. bits w (total ws) n * 2 ^ m + number_of (cut ws n)) (width_of-cut ws n)
    ∙ ap (λ m. bits w (total ws) n * 2 ^ total ws + m) (number_of-cut ws n)
    ∙ low n (2 ^ total ws) (2 ^ w) (pow_pos (total ws)) (pow_pos w)
    ∙ ap (λ m. n % m) (sym (pow-add 2 w (total ws)))

-- ---- the fields of a report

abbrev report_widths : List ℕ
report_widths =
    1 ∷ 1 ∷ 6 ∷ 1 ∷ 1 ∷ 6 ∷ 1 ∷ 3 ∷ 3 ∷ 3 ∷ 6 ∷ 5 ∷ 6 ∷ 6 ∷ 5 ∷ 6 ∷ 6 ∷ 5 ∷ 6 ∷ 6 ∷ 5 ∷ 6 ∷ 6 ∷ 5 ∷ 6 ∷ 6 ∷ 5 ∷ 6 ∷ []

fields_are : (n : ℕ) → report_fields (bits 1 119 n) (bits 1 111 n) (report_in n) ≡ cut report_widths n
unfolding cut total
fields_are n =
    rw (sym (bit_is_one (bits 1 126 n) (mod-lt (n / 2 ^ 126) (pow_pos 1))), sym (bit_is_zero (bits 1 118 n) (mod-lt (n / 2 ^ 118) (pow_pos 1)))) refl

writes : (n : ℕ) → n < 2 ^ 128 → Writes n (report_in n)
unfolding total
writes n below =
    let F : List Field → Type 0 = Fit in
    record {
      second = bits 1 119 n;
      third = bits 1 111 n;
      six = refl;
      fit = subst F (sym (fields_are n)) (Fit-cut report_widths n);
      text = sym (ap number_of (fields_are n) ∙ number_of-cut report_widths n ∙ mod-eq_of_lt below);
    }

width_of-entries : (ns : List Neighbour) → width_of (entries_fields ns) ≡ 17 * length ns
width_of-entries [] = refl
width_of-entries (n ∷ ns) = omega (arith, width_of-entries ns)

-- 128 bits write a number below 2 ^ 128
below : (n : ℕ) (r : Report) → Writes n r → n < 2 ^ 128
below n r h =
    let bits_of : width_of (report_fields h.second h.third r) ≡ 128 = omega (arith, width_of-entries r.entries, h.six) in
    let P : ℕ → Type 0 = λ m. m < 2 ^ 128 in
    let Q : ℕ → Type 0 = λ m. number_of (report_fields h.second h.third r) < 2 ^ m in
    subst P (sym h.text) (subst Q bits_of (number_of-below (report_fields h.second h.third r) h.fit))

pub report_is : (octets : List ℕ) (r : Report) → IsReport octets r → r ≡ report_reading (take REPORT_LENGTH octets)
unfolding report_reading
report_is octets r h =
    let number : ℕ = from_be_bytes w128 (take REPORT_LENGTH octets) in
    same_report number r (report_in number) h.value (writes number (below number r h.value))
