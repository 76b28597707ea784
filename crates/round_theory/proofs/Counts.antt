-- How many numbers below k pass a test: a test that more numbers pass has a greater count.
use Rattle.std.proofs.Common.{◌≡◌, ℕ, zero, suc, ◌<◌, ◌≤◌, Bool, true, false, cond, refl, subst, ⊎_elim, arith}
use Rattle.std.proofs.lemmas.Bool.{both_ways, cond_both, cases_eq}

-- how many numbers below k pass the test
abbrev pub count : ℕ → (ℕ → Bool) → ℕ
count zero p = 0
count (suc k) p = cond (p k) (suc (count k p)) (count k p)

-- one more, if a test passes, is no more than one more, if another passes that passes whenever the first does
one_more_le : (s t : Bool) (a c : ℕ) → (s ≡ true → t ≡ true) → a ≤ c → cond s (suc a) a ≤ cond t (suc c) c
one_more_le true true a c h l = omega arith
one_more_le true false a c h l = absurd (both_ways false refl (h refl))
one_more_le false true a c h l = omega arith
one_more_le false false a c h l = l

-- the same, strictly
one_more_lt : (s t : Bool) (a c : ℕ) → (s ≡ true → t ≡ true) → a < c → cond s (suc a) a < cond t (suc c) c
one_more_lt true true a c h l = omega arith
one_more_lt true false a c h l = absurd (both_ways false refl (h refl))
one_more_lt false true a c h l = omega arith
one_more_lt false false a c h l = l

-- one more if only the second passes
one_more_here : (s t : Bool) (a c : ℕ) → s ≡ false → t ≡ true → a ≤ c → cond s (suc a) a < cond t (suc c) c
one_more_here true t a c f h l = absurd (both_ways true f refl)
one_more_here false true a c f h l = omega arith
one_more_here false false a c f h l = absurd (both_ways false refl h)

-- no more numbers below k pass than there are
pub count_le : (k : ℕ) (p : ℕ → Bool) → count k p ≤ k
count_le zero p = omega arith
count_le (suc k) p = let l = count_le k p in cond_both (p k) (suc (count k p)) (count k p) (λ x. x ≤ suc k) (λ _. omega arith) (λ _. omega arith)

-- a test that every number passing another passes has no smaller a count
pub count_grows : (k : ℕ) (p q : ℕ → Bool) → ((i : ℕ) → i < k → p i ≡ true → q i ≡ true) → count k p ≤ count k q
count_grows zero p q h = omega arith
count_grows (suc k) p q h = one_more_le (p k) (q k) (count k p) (count k q) (h k (omega arith)) (count_grows k p q (λ i l. h i (omega arith)))

-- and a greater one if some number passes it and not the other
pub count_less : (k : ℕ) (p q : ℕ → Bool) → ((i : ℕ) → i < k → p i ≡ true → q i ≡ true) → (w : ℕ) → w < k → p w ≡ false → q w ≡ true → count k p < count k q
count_less zero p q h w l f t = absurd (omega arith)
count_less (suc k) p q h w l f t = ⊎_elim
    (λ (e : w ≡ k). one_more_here (p k) (q k) (count k p) (count k q) (subst (λ x. p x ≡ false) e f) (subst (λ x. q x ≡ true) e t) (count_grows k p q (λ i li. h i (omega arith))))
    (λ (ne : w ≡ k → ⊥). one_more_lt (p k) (q k) (count k p) (count k q) (h k (omega arith)) (count_less k p q (λ i li. h i (omega arith)) w (omega arith) f t))
    (cases_eq w k)

-- the count is positive if some number passes
pub count_positive : (k : ℕ) (p : ℕ → Bool) (w : ℕ) → w < k → p w ≡ true → 0 < count k p
count_positive k p w l t =
    let h : count k (λ _. false) < count k p = count_less k (λ _. false) p (λ i li e. absurd (both_ways false refl e)) w l refl t in
    omega arith
