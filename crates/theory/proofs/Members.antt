-- Members of a list, and lists whose keys rise: no two members have one key, and two such lists with the same members are the same list.
use Rattle.std.proofs.Common.{◌≡◌, ℕ, zero, suc, ◌<◌, ◌⊎◌, List, [], ◌∷◌, ◌++◌, length, get_or, sym, refl, ap, ◌∙◌, subst, ap₂, inl, inr, arith}
use Rattle.std.proofs.lemmas.Bool.{cases_eq}
use Rattle.theory.specs.Chains.{Among}

-- a member of the first part is one of the whole
pub among_left : {X : Type 0} (x : X) (xs ys : List X) → Among x xs → Among x (xs ++ ys)
among_left x [] ys a = absurd a
among_left x (y ∷ xs) ys (inl e) = inl e
among_left x (y ∷ xs) ys (inr a) = inr (among_left x xs ys a)

-- a member of the second part is one of the whole
pub among_right : {X : Type 0} (x : X) (xs ys : List X) → Among x ys → Among x (xs ++ ys)
among_right x [] ys a = a
among_right x (y ∷ xs) ys a = inr (among_right x xs ys a)

-- a member of the whole is one of either part
pub among_cases : {X : Type 0} (x : X) (xs ys : List X) → Among x (xs ++ ys) → Among x xs ⊎ Among x ys
among_cases x [] ys a = inr a
among_cases x (y ∷ xs) ys (inl e) = inl (inl e)
among_cases x (y ∷ xs) ys (inr a) = elim (among_cases x xs ys a) [ inl b ↦ inl (inr b) | inr b ↦ inr b ]

-- what stands at a place is a member
pub among_get_or : {X : Type 0} (xs : List X) (i : ℕ) (d : X) → i < length xs → Among (get_or xs i d) xs
among_get_or [] i d l = absurd (omega arith)
among_get_or (x ∷ xs) zero d l = inl refl
among_get_or (x ∷ xs) (suc i) d l = inr (among_get_or xs i d (omega arith))

-- a member stands at some place
pub among_place : {X : Type 0} (x : X) (xs : List X) → Among x xs → (i : ℕ) × (i < length xs) × ((d : X) → get_or xs i d ≡ x)
among_place x [] a = absurd a
among_place x (y ∷ xs) (inl e) = (zero, omega arith, λ d. e)
among_place x (y ∷ xs) (inr a) = let (i, l, is) = among_place x xs a in (suc i, omega arith, is)

-- the key k rises along the list
abbrev pub Rising : {X : Type 0} → (X → ℕ) → List X → Type 0
Rising k [] = Unit {0}
Rising {X} k (x ∷ xs) = ((y : X) → Among y xs → k x < k y) × Rising k xs

-- the keys rise along two lists, one after the other, if every key of the first is below every key of the second
pub rising_append : {X : Type 0} (k : X → ℕ) (xs ys : List X) → Rising k xs → Rising k ys → ((x y : X) → Among x xs → Among y ys → k x < k y) → Rising k (xs ++ ys)
rising_append k [] ys r s below = s
rising_append k (x ∷ xs) ys r s below = ((λ y a. elim (among_cases y xs ys a) [ inl b ↦ r.0 y b | inr b ↦ below x y (inl refl) b ]), rising_append k xs ys r.1 s (λ z y a b. below z y (inr a) b))

-- keys that rise along the list rise from place to place
pub rising_places : {X : Type 0} (k : X → ℕ) (xs : List X) → Rising k xs → (i j : ℕ) (d : X) → i < j → j < length xs → k (get_or xs i d) < k (get_or xs j d)
rising_places k [] r i j d l h = absurd (omega arith)
rising_places k (x ∷ xs) r i zero d l h = absurd (omega arith)
rising_places k (x ∷ xs) r zero (suc j) d l h = r.0 (get_or xs j d) (among_get_or xs j d (omega arith))
rising_places k (x ∷ xs) r (suc i) (suc j) d l h = rising_places k xs r.1 i j d (omega arith) (omega arith)

-- and back
pub places_rising : {X : Type 0} (k : X → ℕ) (xs : List X) → ((i j : ℕ) (d : X) → i < j → j < length xs → k (get_or xs i d) < k (get_or xs j d)) → Rising k xs
places_rising k [] rises = tt
places_rising k (x ∷ xs) rises = ((λ y a. let (i, l, is) = among_place y xs a in subst (λ z. k x < k z) (is x) (rises 0 (suc i) x (omega arith) (omega arith))), places_rising k xs (λ i j d l h. rises (suc i) (suc j) d (omega arith) (omega arith)))

-- no two members of a rising list have one key
pub rising_apart : {X : Type 0} (k : X → ℕ) (xs : List X) (x y : X) → Rising k xs → Among x xs → Among y xs → k x ≡ k y → x ≡ y
rising_apart k [] x y r a b e = absurd a
rising_apart k (z ∷ xs) x y r (inl p) (inl q) e = sym p ∙ q
rising_apart k (z ∷ xs) x y r (inl p) (inr b) e = absurd (omega (arith, r.0 y b, ap k p))
rising_apart k (z ∷ xs) x y r (inr a) (inl q) e = absurd (omega (arith, r.0 x a, ap k q))
rising_apart k (z ∷ xs) x y r (inr a) (inr b) e = rising_apart k xs x y r.1 a b e

-- two rising lists with the same members have one first member
rising_first : {X : Type 0} (k : X → ℕ) (x y : X) (xs ys : List X) → Rising k (x ∷ xs) → Rising k (y ∷ ys) → Among x (y ∷ ys) → Among y (x ∷ xs) → x ≡ y
rising_first k x y xs ys r s (inl e) b = sym e
rising_first k x y xs ys r s (inr a) (inl e) = e
rising_first k x y xs ys r s (inr a) (inr b) = absurd (omega (arith, r.0 y b, s.0 x a))

-- and a member of the rest of one is in the rest of the other
rising_rest : {X : Type 0} (k : X → ℕ) (x y z : X) (xs ys : List X) → Rising k (x ∷ xs) → x ≡ y → Among z xs → Among z (y ∷ ys) → Among z ys
rising_rest k x y z xs ys r p a (inl e) = absurd (omega (arith, r.0 z a, ap k (p ∙ e)))
rising_rest k x y z xs ys r p a (inr b) = b

-- so they are the same list
pub rising_same : {X : Type 0} (k : X → ℕ) (xs ys : List X) → Rising k xs → Rising k ys → ((x : X) → Among x xs → Among x ys) → ((x : X) → Among x ys → Among x xs) → xs ≡ ys
rising_same k [] [] r s to from = refl
rising_same k [] (y ∷ ys) r s to from = absurd (from y (inl refl))
rising_same k (x ∷ xs) [] r s to from = absurd (to x (inl refl))
rising_same k (x ∷ xs) (y ∷ ys) r s to from =
    let e : x ≡ y = rising_first k x y xs ys r s (to x (inl refl)) (from y (inl refl)) in
    ap₂ (λ z zs. z ∷ zs) e (rising_same k xs ys r.1 s.1 (λ z a. rising_rest k x y z xs ys r e a (to z (inr a))) (λ z a. rising_rest k y x z ys xs s (sym e) a (from z (inr a))))

-- g 0, .., g (i - 1)
abbrev pub upto : {X : Type 0} → (ℕ → X) → ℕ → List X
upto g zero = []
upto g (suc i) = upto g i ++ g i ∷ []

-- each of them is a member
pub among_upto : {X : Type 0} (g : ℕ → X) (i v : ℕ) → v < i → Among (g v) (upto g i)
among_upto g zero v l = absurd (omega arith)
among_upto g (suc i) v l = elim (cases_eq v i) [ inl e ↦ among_right (g v) (upto g i) (g i ∷ []) (inl (ap g (sym e))) | inr ne ↦ among_left (g v) (upto g i) (g i ∷ []) (among_upto g i v (omega arith)) ]

-- a member is one of them
pub upto_among : {X : Type 0} (g : ℕ → X) (i : ℕ) (x : X) → Among x (upto g i) → (v : ℕ) × (v < i) × (g v ≡ x)
upto_among g zero x a = absurd a
upto_among g (suc i) x a = elim (among_cases x (upto g i) (g i ∷ []) a) [ inl b ↦ let (v, l, e) = upto_among g i x b in (v, omega arith, e) | inr b ↦ elim b [ inl e ↦ (i, omega arith, e) | inr c ↦ absurd c ] ]

-- their keys rise along the list if they rise with the number
pub rising_upto : {X : Type 0} (k : X → ℕ) (g : ℕ → X) (i : ℕ) → ((a b : ℕ) → a < b → b < i → k (g a) < k (g b)) → Rising k (upto g i)
rising_upto {X} k g zero rises = tt
rising_upto {X} k g (suc i) rises = rising_append k (upto g i) (g i ∷ []) (rising_upto k g i (λ a b l h. rises a b l (omega arith))) ((λ y a. absurd a), tt) below
  where
    below : (x y : X) → Among x (upto g i) → Among y (g i ∷ []) → k x < k y
    below x y a (inl e) = let (v, l, is) = upto_among g i x a in omega (arith, rises v i l (omega arith), ap k e, ap k is)
    below x y a (inr b) = absurd b
