-- Interleavings of two lists, and lists whose keys rise, for any key of the elements.
-- An interleaving is built from the front, as a merge from the back writes it.
use Rattle.std.proofs.Common.{◌≡◌, ℕ, zero, suc, ◌+◌, ◌-◌, ◌<◌, ◌≤◌, ◌⊎◌, List, [], ◌∷◌, ◌++◌, length, get_or, take, drop, sym, refl, ap, ◌∙◌, subst, inl, inr, ⊎_elim, le_of_suc-le-suc, not-suc-le-zero, arith}
use Rattle.std.proofs.lemmas.List.{drop_more, drop_all, get_or_default, get_or-take, get_or_append_left, get_or-append_right, length-append, length-take-le}
use Rattle.std.proofs.lemmas.Bool.{cases_lt}
use Rattle.theory.specs.Chains.{Among}

-- zs is an interleaving of xs and ys
pub data Mix {X : Type 0} : List X → List X → List X → Type 0 where
  neither : Mix [] [] []
  first : {x : X} {xs ys zs : List X} → Mix xs ys zs → Mix (x ∷ xs) ys (x ∷ zs)
  second : {y : X} {xs ys zs : List X} → Mix xs ys zs → Mix xs (y ∷ ys) (y ∷ zs)

-- it is as long as both
pub mix_length : {X : Type 0} {xs ys zs : List X} → Mix xs ys zs → length zs ≡ length xs + length ys
mix_length neither = refl
mix_length (first m) = omega (arith, mix_length m)
mix_length (second m) = omega (arith, mix_length m)

-- what stands in it stands in one of the two
pub mix_either : {X : Type 0} (e : X) {xs ys zs : List X} → Mix xs ys zs → Among e zs → Among e xs ⊎ Among e ys
mix_either e neither h = absurd h
mix_either e (first m) (inl p) = inl (inl p)
mix_either e (first m) (inr h) = ⊎_elim (λ a. inl (inr a)) inr (mix_either e m h)
mix_either e (second m) (inl p) = inr (inl p)
mix_either e (second m) (inr h) = ⊎_elim inl (λ a. inr (inr a)) (mix_either e m h)

-- what stands in the first stands in it
pub mix_first : {X : Type 0} (e : X) {xs ys zs : List X} → Mix xs ys zs → Among e xs → Among e zs
mix_first e neither h = h
mix_first e (first m) (inl p) = inl p
mix_first e (first m) (inr h) = inr (mix_first e m h)
mix_first e (second m) h = inr (mix_first e m h)

-- the two lists in the other order
pub mix_swap : {X : Type 0} {xs ys zs : List X} → Mix xs ys zs → Mix ys xs zs
mix_swap neither = neither
mix_swap (first m) = second (mix_swap m)
mix_swap (second m) = first (mix_swap m)

-- the same front before the first and the interleaving
pub mix_front : {X : Type 0} (ps : List X) {xs ys zs : List X} → Mix xs ys zs → Mix (ps ++ xs) ys (ps ++ zs)
mix_front [] m = m
mix_front (p ∷ ps) m = first (mix_front ps m)

-- the keys k of es rise
abbrev pub Rises : {X : Type 0} → (X → ℕ) → List X → Type 0
Rises {X} k es = (a b : ℕ) (d : X) → a < b → b < length es → k (get_or es a d) < k (get_or es b d)

-- every key among the first i of xs is below every key of zs
abbrev pub Under : {X : Type 0} → (X → ℕ) → ℕ → List X → List X → Type 0
Under {X} k i xs zs = (a b : ℕ) (d : X) → a < i → b < length zs → k (get_or xs a d) < k (get_or zs b d)

-- a key below all others, put in front of rising keys
pub rises_cons : {X : Type 0} (k : X → ℕ) (x : X) (zs : List X) → Rises k zs → ((b : ℕ) (d : X) → b < length zs → k x < k (get_or zs b d)) → Rises k (x ∷ zs)
rises_cons k x zs r h zero zero d p q = absurd (not-suc-le-zero p)
rises_cons k x zs r h zero (suc b) d p q = h b d (le_of_suc-le-suc q)
rises_cons k x zs r h (suc a) zero d p q = absurd (not-suc-le-zero p)
rises_cons k x zs r h (suc a) (suc b) d p q = r a b d (le_of_suc-le-suc p) (le_of_suc-le-suc q)

-- n is below every key of x ∷ zs
pub under_cons : {X : Type 0} (k : X → ℕ) (n : ℕ) (x : X) (zs : List X) (d : X) → n < k x → ((b : ℕ) → b < length zs → n < k (get_or zs b d)) → (b : ℕ) → b < suc (length zs) → n < k (get_or (x ∷ zs) b d)
under_cons k n x zs d p h zero q = p
under_cons k n x zs d p h (suc b) q = h b (le_of_suc-le-suc q)

-- where the key of the last of the first i is below n, so are the keys before it
pub under_last : {X : Type 0} (k : X → ℕ) (xs : List X) (p n : ℕ) (d : X) → Rises k xs → p < length xs → k (get_or xs p d) < n → (a : ℕ) (e : X) → a < p + 1 → k (get_or xs a e) < n
under_last k xs p n d r l h a e q =
    let same : k (get_or xs p d) ≡ k (get_or xs p e) = ap k (get_or_default xs p d e l) in
    ⊎_elim
    (λ (s : a < p). omega (arith, r a p e s l))
    (λ (s : p ≤ a). let at : a ≡ p = omega arith in subst (λ (t : ℕ). k (get_or xs t e) < n) (sym at) (omega arith))
    (cases_lt a p)

-- zs is what a merge has written when the first i of xs and the first j of ys are still to come
pub record Written {X : Type 0} (k : X → ℕ) (xs ys : List X) (i j : ℕ) (zs : List X) : Type 0 where
  pub mix : Mix (drop i xs) (drop j ys) zs
  pub rises : Rises k zs
  pub under_first : Under k i xs zs
  pub under_second : Under k j ys zs

-- the two lists in the other order
pub written_swap : {X : Type 0} (k : X → ℕ) (xs ys : List X) (i j : ℕ) (zs : List X) → Written k xs ys i j zs → Written k ys xs j i zs
written_swap k xs ys i j zs w = record { mix = mix_swap w.mix; rises = w.rises; under_first = w.under_second; under_second = w.under_first }

-- nothing is written yet
pub written_none : {X : Type 0} (k : X → ℕ) (xs ys : List X) (i j : ℕ) → length xs ≤ i → length ys ≤ j → Written k xs ys i j []
written_none {X} k xs ys i j p q = record {
  mix = subst (λ (l : List X). Mix l (drop j ys) []) (sym (drop_all i xs p)) (subst (λ (l : List X). Mix [] l []) (sym (drop_all j ys q)) neither);
  rises = λ a b d s t. absurd (not-suc-le-zero t);
  under_first = λ a b d s t. absurd (not-suc-le-zero t);
  under_second = λ a b d s t. absurd (not-suc-le-zero t);
}

-- the element at p of xs is written in front
pub written_more : {X : Type 0} (k : X → ℕ) (xs ys : List X) (i j p : ℕ) (x : X) (zs : List X) → p + 1 ≡ i → p < length xs → x ≡ get_or xs p x → Rises k xs → ((b : ℕ) (e : X) → b < j → k (get_or ys b e) < k x) → Written k xs ys i j zs → Written k xs ys p j (x ∷ zs)
written_more {X} k xs ys i j p x zs e l at r o w =
    let here : (d : X) → k x ≡ k (get_or xs p d) = λ d. ap k (at ∙ get_or_default xs p x d l) in
    record {
      mix = subst (λ (t : List X). Mix t (drop j ys) (x ∷ zs)) (sym (drop_more xs p x l ∙ ap (λ (y : X). y ∷ drop (p + 1) xs) (sym at) ∙ ap (λ (n : ℕ). x ∷ drop n xs) e)) (first w.mix);
      rises = rises_cons k x zs w.rises (λ b d q. let s : p < i = omega arith in omega (arith, here d, w.under_first p b d s q));
      under_first = λ a b d s t. under_cons k (k (get_or xs a d)) x zs d (omega (arith, here d, r a p d s l)) (λ c q. let z : a < i = omega arith in w.under_first a c d z q) b t;
      under_second = λ a b d s t. under_cons k (k (get_or ys a d)) x zs d (o a d s) (λ c q. w.under_second a c d s q) b t;
    }

-- a rising front before a rising list that is above it
pub rises_append : {X : Type 0} (k : X → ℕ) (ps zs : List X) → Rises k ps → Rises k zs → Under k (length ps) ps zs → Rises k (ps ++ zs)
rises_append k [] zs r s u = s
rises_append {X} k (p ∷ ps) zs r s u =
    rises_cons k p (ps ++ zs)
    (rises_append k ps zs (λ a b d m n. r (suc a) (suc b) d (omega arith) (omega arith)) s (λ a b d m n. u (suc a) b d (omega arith) n))
    above
  where
    above : (b : ℕ) (d : X) → b < length (ps ++ zs) → k p < k (get_or (ps ++ zs) b d)
    above b d q =
        ⊎_elim
        (λ (l : b < length ps). subst (λ (y : X). k p < k y) (sym (get_or_append_left ps zs d b l)) (r 0 (suc b) d (omega arith) (omega arith)))
        (λ (l : length ps ≤ b). subst (λ (y : X). k p < k y) (sym (get_or-append_right ps zs (length ps) b d refl l)) (u 0 (b - length ps) d (omega arith) (omega (arith, length-append ps zs))))
        (cases_lt b (length ps))

-- the first i of a rising list
pub rises_take : {X : Type 0} (k : X → ℕ) (xs : List X) (i : ℕ) → i ≤ length xs → Rises k xs → Rises k (take i xs)
rises_take k xs i l r a b d p q =
    let long : length (take i xs) ≡ i = length-take-le i xs l in
    let s : b < i = omega arith in
    let t : a < i = omega arith in
    omega (arith, ap k (get_or-take i xs a d t), ap k (get_or-take i xs b d s), r a b d p (omega arith))

-- a list that is above the first i of another
pub under_take : {X : Type 0} (k : X → ℕ) (xs zs : List X) (i : ℕ) → i ≤ length xs → Under k i xs zs → Under k (length (take i xs)) (take i xs) zs
under_take k xs zs i l u a b d p q =
    let long : length (take i xs) ≡ i = length-take-le i xs l in
    let t : a < i = omega arith in
    omega (arith, ap k (get_or-take i xs a d t), u a b d t q)
