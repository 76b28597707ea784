-- A table (a set of hub labels) has at most one entry for an ordered pair of different sheets, never with the value none.
-- So a table is a function of two sheets that is none where there is no entry; its listing is what stands in a strip.
-- A lower sheet number is senior to a higher one. An entry belongs to its junior sheet, as an out entry if that sheet is `from`, else as an in entry.
use Rattle.std.specs.Prelude.{◌≡◌, ℕ, zero, suc, ◌<◌, min, Bool, true, cond, ◌&&◌, ◌||◌, List, [], ◌∷◌, ◌++◌, ◌==◌, ◌≢◌, nat_lt}
use Rattle.theory.specs.declared.Entry.{Entry}
use Rattle.theory.specs.Measures.{Meaning, NotWorse, some, same, pick, best_below, any_below}

-- the entry from u to v with the value a
abbrev pub entry : {V : Type 0} → ℕ → ℕ → V → Entry V
entry u v a = record { from = u; to = v; value = a }

-- a table as a function
abbrev pub Table : Type 0 → Type 0
Table V = ℕ → ℕ → V

-- the answer of a table: the empty chain from a sheet to itself; else the best of the entry s → t and every join of entries s → w, w → t with w senior to both
abbrev pub answer : {V : Type 0} → Meaning V → Table V → ℕ → ℕ → V
answer m f s t = cond (s == t) m.empty (pick m (f s t) (best_below m (min s t) (λ w. m.join (f s w) (f w t))))

-- w lies between u and v: the best measures u → w and w → v join to the best measure u → v, and that is not none
abbrev pub between : {V : Type 0} → Meaning V → Table V → ℕ → ℕ → ℕ → Bool
between m b u w v = some m (b u v) && same m (m.join (b u w) (b w v)) (b u v)

-- some sheet senior to both lies between
abbrev pub covered : {V : Type 0} → Meaning V → Table V → ℕ → ℕ → Bool
covered m b u v = any_below (min u v) (λ w. between m b u w v)

-- the finished table (the canonical hub labelling) of the best measures b: the best measure of each pair with no senior sheet between
abbrev pub finished : {V : Type 0} → Meaning V → Table V → Table V
finished m b u v = cond (u == v || covered m b u v) m.none (b u v)

-- the finished table cut at senior sheets below r: what stands after r roots
abbrev pub rooted : {V : Type 0} → Meaning V → ℕ → Table V → Table V
rooted m r b u v = cond (nat_lt (min u v) r) (finished m b u v) m.none

-- the out pairs of the junior sheet j with the seniors below i, then its in pairs
abbrev pub outs : ℕ → ℕ → List (ℕ × ℕ)
outs j zero = []
outs j (suc i) = outs j i ++ (j, i) ∷ []

abbrev pub ins : ℕ → ℕ → List (ℕ × ℕ)
ins j zero = []
ins j (suc i) = ins j i ++ (i, j) ∷ []

-- the ordered pairs of different sheets below n in the order of a table: by junior sheet, then out before in, then by senior sheet
abbrev pub pairs : ℕ → List (ℕ × ℕ)
pairs zero = []
pairs (suc j) = pairs j ++ (outs j j ++ ins j j)

-- the entries of f at the given pairs, leaving out the nones
abbrev pub entries_at : {V : Type 0} → Meaning V → Table V → List (ℕ × ℕ) → List (Entry V)
entries_at m f [] = []
entries_at m f (p ∷ ps) = cond (some m (f p.0 p.1)) (entry p.0 p.1 (f p.0 p.1) ∷ entries_at m f ps) (entries_at m f ps)

-- the listing of f over n sheets: its entries in order
abbrev pub listed : {V : Type 0} → Meaning V → ℕ → Table V → List (Entry V)
listed m n f = entries_at m f (pairs n)

-- the value of the entry s → t in a list of entries, none without one
abbrev pub held : {V : Type 0} → Meaning V → List (Entry V) → Table V
held m [] s t = m.none
held m (e ∷ es) s t = cond (e.from == s && e.to == t) e.value (held m es s t)

-- es is a table over n sheets in order: the listing of a table of values
abbrev pub InOrder : {V : Type 0} → Meaning V → ℕ → List (Entry V) → Type 0
InOrder m n es = ((u v : ℕ) → m.valid (held m es u v) ≡ true) × (es ≡ listed m n (held m es))

-- no entry is better than the best measure of its pair
abbrev pub Honest : {V : Type 0} → Meaning V → ℕ → Table V → Table V → Type 0
Honest m n b f = (u v : ℕ) → u < n → v < n → (u ≢ v) → NotWorse m (b u v) (f u v)

-- every answer is the best measure
abbrev pub Right : {V : Type 0} → Meaning V → ℕ → Table V → Table V → Type 0
Right m n b f = (s t : ℕ) → s < n → t < n → answer m f s t ≡ b s t
