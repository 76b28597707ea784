-- A best measure between two different sheets begins with a redraw: that redraw joined to the best measure from where it leads.
use Rattle.std.proofs.Common.{◌≡◌, ℕ, ◌<◌, true, List, [], ◌∷◌, sym, ap, ◌∙◌, subst, ⊎_elim}
use Rattle.theory.specs.declared.Redraw.{Redraw}
use Rattle.theory.specs.Measures.{Meaning, Lawful, Value, NoWorse, proper, some}
use Rattle.theory.specs.Chains.{Among, fits, Register, Chain, value, direct, best}
use Rattle.theory.specs.Tables.{between}
use Rattle.theory.proofs.Orders as orders
use Rattle.theory.proofs.Best as bests
use Rattle.theory.proofs.Finished as fin

module _ {V : Type 0} (m : Meaning V) (L : Lawful m) where
  module _ (n : ℕ) (rs : List Redraw) (reg : Register n rs) where
    -- both are values, and the first is not worse
    infix 40 ◌≼◌
    abbrev ◌≼◌ : V → V → Type 0
    a ≼ b = NoWorse m a b

    -- the first redraw of a best measure from u to v
    pub record First (u v : ℕ) : Type 0 where
      pub redraw : Redraw
      pub among : Among redraw rs
      pub is_proper : proper redraw ≡ true
      pub from_is : redraw.from ≡ u
      pub to_below : redraw.to < n
      pub to_other : redraw.to ≡ u → ⊥
      pub worth_is_value : Value m (m.worth redraw)
      pub parts : best m n rs u v ≡ m.join (m.worth redraw) (best m n rs redraw.to v)
      pub lies : between m (best m n rs) u redraw.to v ≡ true

    -- the first redraw of a chain with the best measure
    from_chain : (u v : ℕ) (r : Redraw) (p : List Redraw) → some m (best m n rs u v) ≡ true → Chain rs u v (r ∷ p) → value m (r ∷ p) ≡ best m n rs u v → First u v
    from_chain u v r p s c e =
        let w : Among r rs = c.0.0 in
        let ok : fits n r ≡ true = bests.all_among (λ x. fits n x ≡ true) r rs reg w in
        let f = bests.fits_parts n r ok in
        let x : ℕ = r.to in
        let vw : Value m (m.worth r) = bests.worth_value m L n r ok in
        let vx : Value m (best m n rs x v) = bests.best_value m L n rs reg x v in
        let step : m.join (best m n rs u x) (best m n rs x v) ≼ m.join (m.worth r) (best m n rs x v) = orders.monotone m L (subst (λ y. best m n rs y x ≼ m.worth r) c.1.0 (bests.best_redraw m L n rs reg r w)) (orders.reflexive m L (best m n rs x v) vx) in
        let up : m.join (m.worth r) (best m n rs x v) ≼ best m n rs u v = subst (λ y. m.join (m.worth r) (best m n rs x v) ≼ y) e (orders.monotone m L (orders.reflexive m L (m.worth r) vw) (bests.best_bound m L n rs reg p x v (c.0.1, c.1.1))) in
        record {
          redraw = r;
          among = w;
          is_proper = f.is_proper;
          from_is = c.1.0;
          to_below = f.to_below;
          to_other = λ q. f.differ (c.1.0 ∙ sym q);
          worth_is_value = vw;
          parts = orders.antisym m L (orders.trans m L (bests.triangle m L n rs reg u x v f.to_below) step) up;
          lies = fin.between_from m L n (best m n rs) (bests.best_value m L n rs reg) (bests.best_self m L n rs reg) (bests.triangle m L n rs reg) u x v f.to_below s (orders.trans m L step up);
        }

    -- a best measure between different sheets that is not none has a first redraw
    pub first_redraw : (u v : ℕ) → (u ≡ v → ⊥) → some m (best m n rs u v) ≡ true → First u v
    first_redraw u v ne s = ⊎_elim
        (λ (z : best m n rs u v ≡ m.none). absurd (orders.some_not_none m L (best m n rs u v) s z))
        (λ (w : (p : List Redraw) × Chain rs u v p × (value m p ≡ best m n rs u v)). begins w.0 w.1 w.2)
        (bests.reach_reached m L n rs reg n u v)
      where
        begins : (p : List Redraw) → Chain rs u v p → value m p ≡ best m n rs u v → First u v
        begins [] c e = absurd (ne c.1)
        begins (r ∷ p) c e = from_chain u v r p s c e

    -- if the first redraw leads all the way, the best redraw of the pair has the best measure
    pub first_is_direct : (u v : ℕ) (f : First u v) → f.redraw.to ≡ v → direct m rs u v ≼ best m n rs u v
    first_is_direct u v f e =
        let r : Redraw = f.redraw in
        let is : best m n rs u v ≡ m.worth r = f.parts ∙ ap (λ x. m.join (m.worth r) (best m n rs x v)) e ∙ ap (m.join (m.worth r)) (bests.best_self m L n rs reg v) ∙ L.empty_at_end (m.worth r) f.worth_is_value in
        subst (λ x. direct m rs u v ≼ x) (sym is) (subst (λ x. direct m rs u x ≼ m.worth r) e (subst (λ x. direct m rs x r.to ≼ m.worth r) f.from_is (bests.direct_le m L n rs reg r f.among)))
