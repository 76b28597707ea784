-- One digit more of a word, and what a word of digits gives in the end.
use Rattle.std.proofs.Common.{◌≡◌, ℕ, ◌+◌, ◌-◌, ◌*◌, ◌^◌, ◌<◌, ◌≤◌, Bool, true, false, ◌&&◌, eqb, List, [], ◌∷◌, length, get_or, drop, Some, None, Ok, Err, Result, ⊎_elim, sym, refl, ap, ◌∙◌, pow-suc, add-one, arith, false-eqb}
use Rattle.std.specs.Char.{is_ascii_digit}
use Rattle.std.specs.List.{list_all}
use Rattle.std.specs.Result.{OkIff, result_ok}
use Rattle.std.specs.Str.{all_ascii_digits}
use Rattle.std.proofs.lemmas.List.{at_drop_more, at_drop_all}
use Rattle.std.proofs.lemmas.Bool.{cases_lt, le-leb, lt-leb, and_left, and_right, and_from, cond-true, cond-false}
use Rattle.words.specs.Numbers.{value, value_after, is_number, number_of}
use Rattle.words.specs.Tokens.{only_digits}

module _ (ds : List ℕ) (i : ℕ) (inside : i < length ds) where
  step : all_ascii_digits (drop i ds) ≡ (is_ascii_digit (get_or ds i 0) && all_ascii_digits (drop (i + 1) ds))
  step = at_drop_more all_ascii_digits ds i 0 inside

  -- after a digit the rest decides
  pub digits_more : is_ascii_digit (get_or ds i 0) ≡ true → all_ascii_digits (drop i ds) ≡ all_ascii_digits ds → all_ascii_digits (drop (i + 1) ds) ≡ all_ascii_digits ds
  digits_more d h = sym (ap (λ b. b && all_ascii_digits (drop (i + 1) ds)) d) ∙ (sym step ∙ h)

  -- a byte that is no digit decides
  pub digits_fail : is_ascii_digit (get_or ds i 0) ≡ false → all_ascii_digits (drop i ds) ≡ all_ascii_digits ds → all_ascii_digits ds ≡ false
  digits_fail d h = sym h ∙ (step ∙ ap (λ b. b && all_ascii_digits (drop (i + 1) ds)) d)

  -- a digit is added to the value so far
  pub value_more : (n : ℕ) → value_after n (drop i ds) ≡ value ds → value_after (n * 10 + (get_or ds i 0 - 48)) (drop (i + 1) ds) ≡ value ds
  value_more n h = sym (at_drop_more (value_after n) ds i 0 inside) ∙ h

-- with all bytes read, all were digits
pub digits_all : (ds : List ℕ) (i : ℕ) → length ds ≤ i → all_ascii_digits (drop i ds) ≡ all_ascii_digits ds → all_ascii_digits ds ≡ true
digits_all ds i l h = sym h ∙ at_drop_all all_ascii_digits ds i l

-- with all bytes read, the value so far is the value
pub value_all : (ds : List ℕ) (i n : ℕ) → length ds ≤ i → value_after n (drop i ds) ≡ value ds → n ≡ value ds
value_all ds i n l h = sym (at_drop_all (value_after n) ds i l) ∙ h

-- a value of i digits, with one digit more
pub value_bound : (n d i : ℕ) → n < 10 ^ i → d < 10 → n * 10 + d < 10 ^ (i + 1)
value_bound n d i h k = rw (add-one i) (omega (arith, pow-suc 10 i))

pub number_none_digit : (ds : List ℕ) → all_ascii_digits ds ≡ false → None ≡ number_of ds
number_none_digit ds h = sym (cond-false (is_number ds) _ _ (and_right _ _ (and_left (all_ascii_digits ds) _ h)))

number_none_above : (ds : List ℕ) → 4294967295 < value ds → None ≡ number_of ds
number_none_above ds h = sym (cond-false (is_number ds) _ _ (and_right _ _ (and_right (all_ascii_digits ds) _ (lt-leb _ _ h))))

number_some : (ds : List ℕ) → 1 ≤ length ds → length ds ≤ 10 → all_ascii_digits ds ≡ true → value ds ≤ 4294967295 → Some (value ds) ≡ number_of ds
number_some ds a b d v = sym (cond-true (is_number ds) _ _ (and_from _ _ (and_from _ _ (le-leb _ _ a) (le-leb _ _ b)) (and_from _ _ d (le-leb _ _ v))))

-- whether each byte is a digit, and of a word that is not empty whether it has only digits
digits_listed : (ds : List ℕ) → list_all is_ascii_digit ds ≡ all_ascii_digits ds
digits_listed [] = refl
digits_listed (d ∷ ds) = ap (λ b. is_ascii_digit d && b) (digits_listed ds)

pub only_listed : (ds : List ℕ) (empty : Bool) → empty ≡ false → empty ≡ eqb (length ds) 0 → list_all is_ascii_digit ds ≡ only_digits ds
only_listed ds empty f e =
    let some : 1 ≤ length ds = omega (arith, false-eqb (length ds) 0 (sym f ∙ e)) in
    digits_listed ds ∙ sym (ap (λ b. b && all_ascii_digits ds) (le-leb 1 (length ds) some))

-- a value that fits 32 bits is the number, and one that does not is none
pub number_fits : {E : Type 0} (ds : List ℕ) (r : Result ℕ E) → OkIff r (value ds < 4294967296) (value ds) → 1 ≤ length ds → length ds ≤ 10 → all_ascii_digits ds ≡ true → result_ok r ≡ number_of ds
number_fits ds (Ok n) h a b d = ap Some h.1 ∙ number_some ds a b d (omega (arith, h.0))
number_fits ds (Err e) h a b d = ⊎_elim (λ l. absurd (h l)) (λ l. number_none_above ds (omega arith)) (cases_lt (value ds) 4294967296)
