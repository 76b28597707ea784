-- A chain (a path, which may pass a sheet twice) is a sequence of redraws, each starting where the one before it ended.
-- Its value is its redraws joined in order. The best measure from s to t is the best value over all chains from s to t, none without one.
use Rattle.std.specs.Prelude.{◌≡◌, ℕ, zero, suc, Bool, true, cond, not, ◌&&◌, ◌⊎◌, List, [], ◌∷◌, ◌==◌, nat_lt}
use Rattle.std.specs.List.{AllByRecursion}
use Rattle.theory.specs.declared.Redraw.{Redraw}
use Rattle.theory.specs.Measures.{Meaning, NotWorse, pick, proper}

-- x stands in the list
abbrev pub Among : {X : Type 0} → X → List X → Type 0
Among x [] = ⊥
Among x (y ∷ ys) = (y ≡ x) ⊎ Among x ys

-- a redraw that a book of n sheets takes: proper, between two different sheets below n
abbrev pub fits : ℕ → Redraw → Bool
fits n r = proper r && ((nat_lt r.from n && nat_lt r.to n) && not (r.from == r.to))

-- every redraw of the register is one that a book of n sheets takes
abbrev pub Register : ℕ → List Redraw → Type 0
Register n rs = AllByRecursion (λ r. fits n r ≡ true) rs

-- p runs from s to t
abbrev pub Runs : List Redraw → ℕ → ℕ → Type 0
Runs [] s t = s ≡ t
Runs (r ∷ p) s t = (r.from ≡ s) × Runs p r.to t

-- p is a chain of redraws of rs from s to t
abbrev pub Chain : List Redraw → ℕ → ℕ → List Redraw → Type 0
Chain rs s t p = AllByRecursion (λ r. Among r rs) p × Runs p s t

-- the value of a chain: its redraws joined in order
abbrev pub value : {V : Type 0} → Meaning V → List Redraw → V
value m [] = m.empty
value m (r ∷ p) = m.join (m.worth r) (value m p)

-- v is none or the value of some chain from s to t
abbrev pub Reached : {V : Type 0} → Meaning V → List Redraw → ℕ → ℕ → V → Type 0
Reached m rs s t v = (v ≡ m.none) ⊎ ((p : List Redraw) × Chain rs s t p × (value m p ≡ v))

-- v is the best value over all chains from s to t: no chain is better, and v is none or some chain's value
abbrev pub BestOver : {V : Type 0} → Meaning V → List Redraw → ℕ → ℕ → V → Type 0
BestOver m rs s t v = ((p : List Redraw) → Chain rs s t p → NotWorse m v (value m p)) × Reached m rs s t v

-- the best value of a single redraw from s to t
abbrev pub direct : {V : Type 0} → Meaning V → List Redraw → ℕ → ℕ → V
direct m [] s t = m.none
direct m (r ∷ rs) s t = pick m (direct m rs s t) (cond (r.from == s && r.to == t) (m.worth r) m.none)

-- the best over chains whose inner sheets are below k
abbrev pub reach : {V : Type 0} → Meaning V → List Redraw → ℕ → ℕ → ℕ → V
reach m rs zero s t = cond (s == t) m.empty (direct m rs s t)
reach m rs (suc k) s t = pick m (reach m rs k s t) (m.join (reach m rs k s k) (reach m rs k k t))

-- the best measure in a book of n sheets; that this is BestOver is proved of it
abbrev pub best : {V : Type 0} → Meaning V → ℕ → List Redraw → ℕ → ℕ → V
best m n rs s t = reach m rs n s t
