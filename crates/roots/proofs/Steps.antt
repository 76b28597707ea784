-- One sheet more looked at: its entry more put in.
use Rattle.std.proofs.Common.{◌≡◌, ℕ, zero, suc, ◌≤◌, List, length, sym, subst, ⊎_elim, arith}
use Rattle.std.proofs.lemmas.Bool.{cases_eq}
use Rattle.std.proofs.lemmas.List.{length-append}
use Rattle.theory.specs.declared.Way.{Way}
use Rattle.theory.specs.Measures.{Meaning}
use Rattle.theory.specs.Searches.{fresh_at, fresh_below}

-- more sheets give no fewer entries
pub fresh_longer : {V : Type 0} (m : Meaning V) (way : Way) (root : ℕ) (work : List V) (marks : List ℕ) (k n : ℕ) → k ≤ n → length (fresh_below m way root work marks k) ≤ length (fresh_below m way root work marks n)
fresh_longer m way root work marks k zero l = let z : k ≡ 0 = omega arith in subst (λ x. length (fresh_below m way root work marks x) ≤ 0) (sym z) (omega arith)
fresh_longer m way root work marks k (suc n) l = ⊎_elim
    (λ (e : k ≡ suc n). subst (λ x. length (fresh_below m way root work marks x) ≤ length (fresh_below m way root work marks (suc n))) (sym e) (omega arith))
    (λ (ne : k ≡ suc n → ⊥).
    let h = fresh_longer m way root work marks k n (omega arith) in
    let j = length-append (fresh_below m way root work marks n) (fresh_at m way root work marks n) in
    omega (arith, h, j))
    (cases_eq k (suc n))
