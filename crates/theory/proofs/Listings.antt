-- A listing and its table: which entries stand in the listing of a table, and what the listing holds for a pair.
-- Two tables of values have one listing just where they agree at every pair of different sheets.
use Rattle.std.proofs.Common.{◌≡◌, ℕ, zero, suc, ◌<◌, ◌≤◌, Bool, true, false, cond, ◌&&◌, eqb, ◌⊎◌, List, [], ◌∷◌, ◌++◌, length, get_or, sym, refl, ap, ◌∙◌, subst, ap₂, inl, inr, arith}
use Rattle.std.proofs.lemmas.Bool.{both_ways, cases_eq, cases_Bool, cond_both, and_parts, and_from, eqb-true, eq-eqb}
use Rattle.theory.specs.declared.Entry.{Entry}
use Rattle.theory.specs.Measures.{Meaning, Lawful, some}
use Rattle.theory.specs.Chains.{Among}
use Rattle.theory.specs.Tables.{Table, entry, outs, ins, pairs, entries_at, listed, held}
use Rattle.theory.proofs.Orders.{not_some_none}
use Rattle.theory.proofs.Members.{among_left, among_right, among_cases, among_place, upto, among_upto, upto_among}

-- x in front of xs if a test passes, else xs: where it passes, x is a member
among_kept : {X : Type 0} (b : Bool) (x y : X) (xs : List X) → b ≡ true → x ≡ y → Among y (cond b (x ∷ xs) xs)
among_kept true x y xs t e = inl e
among_kept false x y xs t e = absurd (both_ways false refl t)

-- the members of xs are members
among_kept_rest : {X : Type 0} (b : Bool) (x y : X) (xs : List X) → Among y xs → Among y (cond b (x ∷ xs) xs)
among_kept_rest true x y xs a = inr a
among_kept_rest false x y xs a = a

-- there are no others
kept_among : {X : Type 0} (b : Bool) (x y : X) (xs : List X) → Among y (cond b (x ∷ xs) xs) → ((b ≡ true) × (x ≡ y)) ⊎ Among y xs
kept_among true x y xs (inl e) = inl (refl, e)
kept_among true x y xs (inr a) = inr a
kept_among false x y xs a = inr a

-- the list is no longer than another whose rest is no shorter and whose test passes if this one does
kept_length : {X : Type 0} (b c : Bool) (x y : X) (xs ys : List X) → (b ≡ true → c ≡ true) → length xs ≤ length ys → length (cond b (x ∷ xs) xs) ≤ length (cond c (y ∷ ys) ys)
kept_length true true x y xs ys h l = omega arith
kept_length true false x y xs ys h l = absurd (both_ways false refl (h refl))
kept_length false true x y xs ys h l = omega arith
kept_length false false x y xs ys h l = l

-- the out pairs of a sheet, as a function counted up
pub outs_upto : (j i : ℕ) → outs j i ≡ upto (λ v. (j, v)) i
outs_upto j zero = refl
outs_upto j (suc i) = ap (λ ps. ps ++ (j, i) ∷ []) (outs_upto j i)

-- its in pairs, likewise
pub ins_upto : (j i : ℕ) → ins j i ≡ upto (λ u. (u, j)) i
ins_upto j zero = refl
ins_upto j (suc i) = ap (λ ps. ps ++ (i, j) ∷ []) (ins_upto j i)

-- an out pair of j leads from j to a senior sheet
pub outs_among : (j : ℕ) (p : ℕ × ℕ) → Among p (outs j j) → (p.0 ≡ j) × (p.1 < j)
outs_among j p a = let (v, l, e) = upto_among (λ v. (j, v)) j p (subst (Among p) (outs_upto j j) a) in (sym (ap (λ q. q.0) e), subst (λ w. w < j) (ap (λ q. q.1) e) l)

-- an in pair of j leads to j from a senior sheet
pub ins_among : (j : ℕ) (p : ℕ × ℕ) → Among p (ins j j) → (p.1 ≡ j) × (p.0 < j)
ins_among j p a = let (u, l, e) = upto_among (λ u. (u, j)) j p (subst (Among p) (ins_upto j j) a) in (sym (ap (λ q. q.1) e), subst (λ w. w < j) (ap (λ q. q.0) e) l)

-- a pair of pairs n is one of different sheets below n
pub pairs_among : (n : ℕ) (p : ℕ × ℕ) → Among p (pairs n) → (p.0 < n) × (p.1 < n) × (p.0 ≡ p.1 → ⊥)
pairs_among zero p a = absurd a
pairs_among (suc j) p a = elim (among_cases p (pairs j) (outs j j ++ ins j j) a) [ inl b ↦ let h = pairs_among j p b in (omega arith, omega arith, h.2) | inr b ↦ elim (among_cases p (outs j j) (ins j j) b) [ inl c ↦ let h = outs_among j p c in omega arith | inr c ↦ let h = ins_among j p c in omega arith ] ]

-- and every such pair stands there
pub among_pairs : (n u v : ℕ) → u < n → v < n → (u ≡ v → ⊥) → Among (u, v) (pairs n)
among_pairs zero u v p q ne = absurd (omega arith)
among_pairs (suc j) u v p q ne = elim (cases_eq u j) [ inl e ↦ row (among_left (u, v) (outs j j) (ins j j) (out e)) | inr x ↦ elim (cases_eq v j) [ inl e ↦ row (among_right (u, v) (outs j j) (ins j j) (in' e)) | inr y ↦ among_left (u, v) (pairs j) (outs j j ++ ins j j) (among_pairs j u v (omega arith) (omega arith) ne) ] ]
  where
    row : Among (u, v) (outs j j ++ ins j j) → Among (u, v) (pairs (suc j))
    row a = among_right (u, v) (pairs j) (outs j j ++ ins j j) a

    out : u ≡ j → Among (u, v) (outs j j)
    out e = rw (outs_upto j j, e) (among_upto (λ w. (j, w)) j v (omega arith))

    in' : v ≡ j → Among (u, v) (ins j j)
    in' e = rw (ins_upto j j, e) (among_upto (λ w. (w, j)) j u (omega arith))

-- the value of f at a pair
abbrev pub at_pair : {V : Type 0} → Table V → ℕ × ℕ → V
at_pair f p = f p.0 p.1

-- the entry of f at a pair
abbrev pub entry_at : {V : Type 0} → Table V → ℕ × ℕ → Entry V
entry_at f p = entry p.0 p.1 (f p.0 p.1)

module _ {V : Type 0} (m : Meaning V) where
  -- among the entries of f at the pairs ps is one for each pair whose value is some
  pub among_entries : (f : Table V) (ps : List (ℕ × ℕ)) (p : ℕ × ℕ) → Among p ps → some m (at_pair f p) ≡ true → Among (entry_at f p) (entries_at m f ps)
  among_entries f [] p a h = absurd a
  among_entries f (q ∷ ps) p (inl e) h = among_kept (some m (at_pair f q)) (entry_at f q) (entry_at f p) (entries_at m f ps) (ap (λ r. some m (at_pair f r)) e ∙ h) (ap (entry_at f) e)
  among_entries f (q ∷ ps) p (inr a) h = among_kept_rest (some m (at_pair f q)) (entry_at f q) (entry_at f p) (entries_at m f ps) (among_entries f ps p a h)

  -- and no others
  pub entries_among : (f : Table V) (ps : List (ℕ × ℕ)) (e : Entry V) → Among e (entries_at m f ps) → Among (e.from, e.to) ps × (e.value ≡ f e.from e.to) × (some m e.value ≡ true)
  entries_among f [] e a = absurd a
  entries_among f (p ∷ ps) e a = elim (kept_among (some m (at_pair f p)) (entry_at f p) e (entries_at m f ps) a) [ inl h ↦ (inl (ap (λ x. (x.from, x.to)) h.1), sym (ap (λ x. x.value) h.1) ∙ ap (λ x. f x.from x.to) h.1, sym (ap (λ x. some m x.value) h.1) ∙ h.0) | inr b ↦ let r = entries_among f ps e b in (inr r.0, r.1, r.2) ]

  -- tables that agree at the pairs have the same entries there
  pub entries_same : (f g : Table V) (ps : List (ℕ × ℕ)) → ((p : ℕ × ℕ) → Among p ps → at_pair f p ≡ at_pair g p) → entries_at m f ps ≡ entries_at m g ps
  entries_same f g [] h = refl
  entries_same f g (p ∷ ps) h = ap₂ (λ a es. cond (some m a) (entry p.0 p.1 a ∷ es) es) (h p (inl refl)) (entries_same f g ps (λ q a. h q (inr a)))

  -- if g is some wherever f is, then f has no more entries there
  pub entries_length_le : (f g : Table V) (ps : List (ℕ × ℕ)) → ((p : ℕ × ℕ) → Among p ps → some m (at_pair f p) ≡ true → some m (at_pair g p) ≡ true) → length (entries_at m f ps) ≤ length (entries_at m g ps)
  entries_length_le f g [] h = omega arith
  entries_length_le f g (p ∷ ps) h = kept_length (some m (at_pair f p)) (some m (at_pair g p)) (entry_at f p) (entry_at g p) (entries_at m f ps) (entries_at m g ps) (h p (inl refl)) (entries_length_le f g ps (λ q a. h q (inr a)))

  -- the listing of f has an entry for each pair of different sheets below n whose value is some
  pub among_listed : (n : ℕ) (f : Table V) (u v : ℕ) → u < n → v < n → (u ≡ v → ⊥) → some m (f u v) ≡ true → Among (entry u v (f u v)) (listed m n f)
  among_listed n f u v p q ne h = among_entries f (pairs n) (u, v) (among_pairs n u v p q ne) h

  -- and no others
  pub listed_among : (n : ℕ) (f : Table V) (e : Entry V) → Among e (listed m n f) → (e.from < n) × (e.to < n) × (e.from ≡ e.to → ⊥) × (e.value ≡ f e.from e.to) × (some m e.value ≡ true)
  listed_among n f e a =
      let r = entries_among f (pairs n) e a in
      let s = pairs_among n (e.from, e.to) r.0 in
      (s.0, s.1, s.2, r.1, r.2)

  -- tables that agree at every pair have one listing
  pub listed_same : (n : ℕ) (f g : Table V) → ((u v : ℕ) → u < n → v < n → (u ≡ v → ⊥) → f u v ≡ g u v) → listed m n f ≡ listed m n g
  listed_same n f g h = entries_same f g (pairs n) (λ p a. let s = pairs_among n p a in h p.0 p.1 s.0 s.1 s.2)

  -- if g is some wherever f is, then the listing of f is no longer than that of g
  pub listed_length_le : (n : ℕ) (f g : Table V) → ((u v : ℕ) → u < n → v < n → (u ≡ v → ⊥) → some m (f u v) ≡ true → some m (g u v) ≡ true) → length (listed m n f) ≤ length (listed m n g)
  listed_length_le n f g h = entries_length_le f g (pairs n) (λ p a. let s = pairs_among n p a in h p.0 p.1 s.0 s.1 s.2)

  -- what a list holds for a pair is none or the value of a member
  pub held_among : (es : List (Entry V)) (u v : ℕ) → (held m es u v ≡ m.none) ⊎ Among (entry u v (held m es u v)) es
  held_among [] u v = inl refl
  held_among (e ∷ es) u v = cond_both (eqb e.from u && eqb e.to v) e.value (held m es u v) (λ a. (a ≡ m.none) ⊎ Among (entry u v a) (e ∷ es)) found (λ t. elim (held_among es u v) [ inl h ↦ inl h | inr a ↦ inr (inr a) ])
    where
      found : (eqb e.from u && eqb e.to v) ≡ true → (e.value ≡ m.none) ⊎ Among (entry u v e.value) (e ∷ es)
      found t = let p = and_parts (eqb e.from u) (eqb e.to v) t in inr (inl (ap₂ (λ x y. entry x y e.value) (eqb-true e.from u p.0) (eqb-true e.to v p.1)))

  -- the same by places
  pub held_found : (es : List (Entry V)) (u v : ℕ) → (held m es u v ≡ m.none) ⊎ ((i : ℕ) × (i < length es) × ((d : Entry V) → ((get_or es i d).from ≡ u) × ((get_or es i d).to ≡ v) × ((get_or es i d).value ≡ held m es u v)))
  held_found es u v = elim (held_among es u v) [ inl h ↦ inl h | inr a ↦ let (i, l, is) = among_place (entry u v (held m es u v)) es a in inr (i, l, λ d. (ap (λ x. x.from) (is d), ap (λ x. x.to) (is d), ap (λ x. x.value) (is d))) ]

  -- where the members of a pair agree, a list holds the value of each
  pub among_held : (es : List (Entry V)) (e : Entry V) → Among e es → ((x : Entry V) → Among x es → x.from ≡ e.from → x.to ≡ e.to → x.value ≡ e.value) → held m es e.from e.to ≡ e.value
  among_held [] e a agree = absurd a
  among_held (x ∷ es) e a agree = cond_both (eqb x.from e.from && eqb x.to e.to) x.value (held m es e.from e.to) (λ y. y ≡ e.value) here (λ t. elim a [ inl is ↦ absurd (both_ways _ t (and_from _ _ (eq-eqb _ _ (ap (λ y. y.from) is)) (eq-eqb _ _ (ap (λ y. y.to) is)))) | inr b ↦ among_held es e b (λ y c. agree y (inr c)) ])
    where
      here : (eqb x.from e.from && eqb x.to e.to) ≡ true → x.value ≡ e.value
      here t = let p = and_parts (eqb x.from e.from) (eqb x.to e.to) t in agree x (inl refl) (eqb-true _ _ p.0) (eqb-true _ _ p.1)

  -- off the pairs a listing holds none
  pub held_listed_off : (n : ℕ) (f : Table V) (u v : ℕ) → (u ≡ v) ⊎ ((n ≤ u) ⊎ (n ≤ v)) → held m (listed m n f) u v ≡ m.none
  held_listed_off n f u v off = elim (held_among (listed m n f) u v) [ inl h ↦ h | inr a ↦ let r = listed_among n f (entry u v (held m (listed m n f) u v)) a in absurd (omega arith) ]

module _ {V : Type 0} (m : Meaning V) (L : Lawful m) where
  -- at the pairs the listing of a table of values holds its values
  pub held_listed : (n : ℕ) (f : Table V) (u v : ℕ) → ((x y : ℕ) → m.valid (f x y) ≡ true) → u < n → v < n → (u ≡ v → ⊥) → held m (listed m n f) u v ≡ f u v
  held_listed n f u v vals p q ne = elim (cases_Bool (some m (f u v))) [ inl h ↦ among_held m (listed m n f) (entry u v (f u v)) (among_listed m n f u v p q ne h) (λ x a i j. (listed_among m n f x a).3 ∙ ap₂ f i j) | inr h ↦ elim (held_among m (listed m n f) u v) [ inl e ↦ e ∙ sym (not_some_none m L (f u v) (vals u v) h) | inr a ↦ (listed_among m n f (entry u v (held m (listed m n f) u v)) a).3 ] ]

  -- tables of values with one listing agree at every pair
  pub listed_agree : (n : ℕ) (f g : Table V) → ((x y : ℕ) → m.valid (f x y) ≡ true) → ((x y : ℕ) → m.valid (g x y) ≡ true) → listed m n f ≡ listed m n g → (u v : ℕ) → u < n → v < n → (u ≡ v → ⊥) → f u v ≡ g u v
  listed_agree n f g fv gv e u v p q ne = sym (held_listed n f u v fv p q ne) ∙ (ap (λ es. held m es u v) e ∙ held_listed n g u v gv p q ne)
