-- SPDX-License-Identifier: MIT OR Apache-2.0
-- The connections with which the tables of rows begin satisfy the invariant.
use Rattle.conn_rules.proofs.Prelude.{◌≡◌, ℕ, false, true, [], ◌∷◌, refl, arith, IsLayer3, IsHeldTenure, IsValid}
use Rattle.conn_rules.proofs.Prelude.{AllByRecursion, true≢false, sym}
use Rattle.conn_rules.proofs.AccessRows.{access, opened}
use Rattle.conn_rules.proofs.ActiveRows.{asked}
use Rattle.conn_rules.proofs.CaseRows.{call, text, tenure}
use Rattle.conn_rules.proofs.ChangingRows as changing
use Rattle.conn_rules.proofs.DrainingRows as draining
use Rattle.conn_rules.proofs.PreparingRows as preparing

-- ---- what is held is messages

a_call : (n : ℕ) → IsLayer3 (call n)
a_call n = (omega arith, omega arith)

a_text : (n : ℕ) → IsLayer3 (text n)
a_text n = (omega arith, omega arith)

two_texts : AllByRecursion IsLayer3 (text 4 ∷ text 5 ∷ [])
two_texts = (a_text 4, (a_text 5, tt))

one_of_each : (n : ℕ) → IsHeldTenure (tenure (call n ∷ []) (text n ∷ []))
one_of_each n = ((a_call n, tt), (a_text n, tt))

none_waits : {n : ℕ} → false ≡ true → n ≡ 3
none_waits waits = absurd (true≢false (sym waits))

-- ---- connections

valid_access : IsValid access
valid_access = record {
  state = (record { none_drains = refl; none_handed = refl; one_tenure = refl; none_waits = refl }, refl);
  down_limit = refl;
  up_limit = refl;
  down_within = omega arith;
  up_within = omega arith;
  down_zero = tt;
  down_three = tt;
  up_messages = ((tt, tt), tt);
  drain_time = refl;
}

valid_opened : IsValid opened
valid_opened = record {
  state = record { none_drains = refl; none_handed = refl; one_tenure = refl; down_link = refl; none_waits = refl };
  down_limit = refl;
  up_limit = refl;
  down_within = omega arith;
  up_within = omega arith;
  down_zero = tt;
  down_three = tt;
  up_messages = (((a_call 1, (a_call 2, tt)), (a_text 1, tt)), tt);
  drain_time = refl;
}

valid_asked : IsValid asked
valid_asked = record {
  state = record { a_tenure_each = refl; first = refl; oldest = tt; valid = (refl, refl, tt, refl) };
  down_limit = refl;
  up_limit = refl;
  down_within = omega arith;
  up_within = omega arith;
  down_zero = tt;
  down_three = (a_text 1, (a_text 2, tt));
  up_messages = ((tt, tt), tt);
  drain_time = refl;
}

valid_while_preparing : IsValid (preparing.waiting preparing.assigning)
valid_while_preparing = record {
  state = record { a_tenure_each = refl; first = refl; oldest = tt; valid = (omega arith, refl, tt) };
  down_limit = refl;
  up_limit = refl;
  down_within = omega arith;
  up_within = omega arith;
  down_zero = tt;
  down_three = two_texts;
  up_messages = ((tt, tt), tt);
  drain_time = refl;
}

valid_while_preparing_beside : IsValid (preparing.waiting preparing.moves_on)
valid_while_preparing_beside = record {
  state = record { a_tenure_each = refl; first = refl; oldest = refl; valid = (omega arith, refl, tt) };
  down_limit = refl;
  up_limit = refl;
  down_within = omega arith;
  up_within = omega arith;
  down_zero = tt;
  down_three = two_texts;
  up_messages = ((tt, tt), (one_of_each 2, (one_of_each 3, tt)));
  drain_time = tt;
}

valid_while_changing : IsValid (changing.waiting changing.moving)
valid_while_changing = record {
  state = record { a_tenure_each = refl; first = refl; oldest = tt; valid = (omega arith, refl) };
  down_limit = refl;
  up_limit = refl;
  down_within = omega arith;
  up_within = omega arith;
  down_zero = (a_call 6, (a_call 7, tt));
  down_three = two_texts;
  up_messages = ((tt, tt), tt);
  drain_time = refl;
}

valid_while_changing_beside : IsValid (changing.waiting changing.moves_on)
valid_while_changing_beside = record {
  state = record { a_tenure_each = refl; first = refl; oldest = refl; valid = (omega arith, refl) };
  down_limit = refl;
  up_limit = refl;
  down_within = omega arith;
  up_within = omega arith;
  down_zero = (a_call 6, (a_call 7, tt));
  down_three = two_texts;
  up_messages = ((tt, tt), (one_of_each 2, (one_of_each 3, tt)));
  drain_time = tt;
}

valid_with_one : IsValid draining.one
valid_with_one = record {
  state = record { a_tenure_each = refl; first = refl; oldest = refl; valid = (omega arith, omega arith, refl, tt, none_waits) };
  down_limit = refl;
  up_limit = refl;
  down_within = omega arith;
  up_within = omega arith;
  down_zero = tt;
  down_three = two_texts;
  up_messages = ((tt, tt), (one_of_each 3, tt));
  drain_time = tt;
}

valid_with_two : IsValid draining.two_one_done
valid_with_two = record {
  state = record { a_tenure_each = refl; first = refl; oldest = refl; valid = (omega arith, omega arith, refl, tt, none_waits) };
  down_limit = refl;
  up_limit = refl;
  down_within = omega arith;
  up_within = omega arith;
  down_zero = tt;
  down_three = two_texts;
  up_messages = ((tt, tt), (one_of_each 2, (one_of_each 3, tt)));
  drain_time = tt;
}

valid_with_three : IsValid (draining.waiting draining.three_two_done)
valid_with_three = record {
  state = record { a_tenure_each = refl; first = refl; oldest = refl; valid = (omega arith, omega arith, refl, tt, λ waits. refl) };
  down_limit = refl;
  up_limit = refl;
  down_within = omega arith;
  up_within = omega arith;
  down_zero = tt;
  down_three = two_texts;
  up_messages = ((tt, tt), (one_of_each 2, (one_of_each 3, (one_of_each 4, tt))));
  drain_time = tt;
}
