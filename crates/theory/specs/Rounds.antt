-- The tables of rounds. A round generates a table and prunes it, judged on the generated table as a whole; the entries that are left stand in order.
use Rattle.std.specs.Prelude.{ℕ, zero, suc, min, cond, not, ◌&&◌, List, [], ◌==◌, nat_lt}
use Rattle.theory.specs.declared.Redraw.{Redraw}
use Rattle.theory.specs.declared.Entry.{Entry}
use Rattle.theory.specs.Measures.{Meaning, pick, best_below, any_below}
use Rattle.theory.specs.Chains.{direct}
use Rattle.theory.specs.Tables.{Table, listed, held}

-- from an open book: the best redraw value of each ordered pair of different sheets
abbrev pub first_generated : {V : Type 0} → Meaning V → List Redraw → Table V
first_generated m rs u v = cond (u == v) m.none (direct m rs u v)

-- otherwise, for different sheets: the best of the present entry and all joins u → w, w → v of present entries, w different from both and junior to at least one
abbrev pub generated : {V : Type 0} → Meaning V → ℕ → Table V → Table V
generated m n f u v = cond (u == v) m.none (pick m (f u v) (best_below m n (λ w. cond ((not (w == u) && not (w == v)) && nat_lt (min u v) w) (m.join (f u w) (f w v)) m.none)))

-- an entry goes if a sheet senior to both ends has two entries whose join is not worse
abbrev pub pruned : {V : Type 0} → Meaning V → Table V → Table V
pruned m g u v = cond (any_below (min u v) (λ w. not (m.better (g u v) (m.join (g u w) (g w v))))) m.none (g u v)

-- what the next round generates after k rounds have left the entries es
abbrev pub generated_after : {V : Type 0} → Meaning V → ℕ → List Redraw → ℕ → List (Entry V) → Table V
generated_after m n rs zero es = first_generated m rs
generated_after m n rs (suc k) es = generated m n (held m es)

-- the entries after k rounds
abbrev pub after_rounds : {V : Type 0} → Meaning V → ℕ → List Redraw → ℕ → List (Entry V)
after_rounds m n rs zero = []
after_rounds m n rs (suc k) = listed m n (pruned m (generated_after m n rs k (after_rounds m n rs k)))
