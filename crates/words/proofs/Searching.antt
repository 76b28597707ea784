-- What a search forward with a test finds, read back in the whole list.
use Rattle.std.proofs.Common.{◌≡◌, ℕ, ◌+◌, ◌-◌, ◌<◌, ◌≤◌, Bool, true, false, List, length, get_or, Some, None, Option, sym, subst, arith}
use Rattle.std.specs.List.{AllWithin, HoldsAt, between}
use Rattle.std.specs.Option.{MatchOption, unwrap_or}
use Rattle.std.proofs.lemmas.List.Edits.{length-between, get_or-between}

-- the place of the first of the list's bytes at which the test gives true, if there is one: before it the test gives false
abbrev pub FirstHit : (ℕ → Bool → Type 0) → List ℕ → Option ℕ → Type 0
FirstHit Gives ys r = MatchOption r (AllWithin (λ x. Gives x false) ys 0 (length ys)) (λ i. (i < length ys) × HoldsAt (λ x. Gives x true) ys i × AllWithin (λ x. Gives x false) ys 0 i)

module _ (Gives : ℕ → Bool → Type 0) (xs : List ℕ) (from : ℕ) (inside : from ≤ length xs) (ys : List ℕ) (is : ys ≡ between from (length xs) xs) where
  same : (i : ℕ) → from + i < length xs → get_or ys i 0 ≡ get_or xs (from + i) 0
  same i b = rw is (get_or-between xs from (length xs) i 0 b)

  len : length ys ≡ length xs - from
  len = rw is (length-between xs from (length xs) (omega arith))

  missed : (n : ℕ) → from + n ≤ length xs → AllWithin (λ x. Gives x false) ys 0 n → (k : ℕ) → from ≤ k → k < from + n → Gives (get_or xs k 0) false
  missed n l h k a b =
      let e : from + (k - from) ≡ k = omega arith in
      subst (λ j. Gives (get_or xs j 0) false) e (subst (λ x. Gives x false) (same (k - from) (omega arith)) (h (k - from) 0 (omega arith) (omega arith)))

  -- before the place that is found the test gives false
  pub before_hit : (r : Option ℕ) (n : ℕ) → n ≡ unwrap_or r (length ys) → FirstHit Gives ys r → (k : ℕ) → from ≤ k → k < from + n → Gives (get_or xs k 0) false
  before_hit None n e h = missed n (omega (arith, len)) (subst (AllWithin (λ x. Gives x false) ys 0) (sym e) h)
  before_hit (Some i) n e h = missed n (omega (arith, len, h.0)) (subst (AllWithin (λ x. Gives x false) ys 0) (sym e) h.2)

  -- at the place that is found it gives true, if the place is within the list
  pub at_hit : (r : Option ℕ) (n : ℕ) → n ≡ unwrap_or r (length ys) → FirstHit Gives ys r → from + n < length xs → Gives (get_or xs (from + n) 0) true
  at_hit None n e h l = absurd (omega (arith, len))
  at_hit (Some i) n e h l = subst (λ x. Gives x true) (same n l) (subst (λ j. Gives (get_or ys j 0) true) (sym e) (h.1 0))
