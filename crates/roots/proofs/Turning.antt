-- A turn of the search, either way: the sheet found is unsettled, and settling it keeps the search under way.
use Rattle.std.proofs.Common.{◌≡◌, ℕ, zero, suc, ◌<◌, ◌≤◌, Bool, true, false, cond, not, ◌&&◌, eqb, List, get_or, set, replicate, Some, None, Option, sym, refl, ap, ◌∙◌, subst, ap₂, arith}
use Rattle.std.proofs.lemmas.Bool.{and_parts, eqb-true}
use Rattle.theory.specs.declared.Redraw.{Redraw}
use Rattle.theory.specs.declared.Entry.{Entry}
use Rattle.theory.specs.declared.Way.{Way}
use Rattle.theory.specs.declared.Way.TheVariants.{Out, In}
use Rattle.theory.specs.Measures.{Meaning, Lawful}
use Rattle.theory.specs.Chains.{best}
use Rattle.theory.specs.Tables.{answer, rooted, held}
use Rattle.theory.specs.Order.{Sorted}
use Rattle.theory.specs.Searches.{facing, facing_redraws, facing_table, unsettled, value_at, nearest_below, answers_as_well, settled_marks, settled_work, fresh_below, Nearest, Underway, Run}
use Rattle.theory.proofs.Best as bests
use Rattle.theory.proofs.Roots as roots
use Rattle.theory.proofs.SortedTables as sorted
use Rattle.theory.proofs.Facing as facings
use Rattle.theory.proofs.Searching as searching
use Rattle.theory.proofs.Growing as growing
use Rattle.roots.specs.Turns.{Ready}

-- the sheet found is unsettled
pub nearest_unsettled : {V : Type 0} (m : Meaning V) (w : List V) (marks : List ℕ) (k s : ℕ) → nearest_below m w marks k ≡ Some s → get_or marks s 1 ≡ 0
nearest_unsettled m w marks zero s e = cc
nearest_unsettled m w marks (suc k) s e = by_test (nearest_unsettled m w marks k s) _ refl e
  where
    by_test : (nearest_below m w marks k ≡ Some s → get_or marks s 1 ≡ 0) → (b : Bool) → (unsettled marks k && m.better (get_or w k m.none) (value_at m w (nearest_below m w marks k))) ≡ b → cond b (Some k) (nearest_below m w marks k) ≡ Some s → get_or marks s 1 ≡ 0
    by_test below true t h = let q : k ≡ s = cc in subst (λ x. get_or marks x 1 ≡ 0) q (eqb-true (get_or marks k 1) 0 (and_parts (unsettled marks k) _ t).0)
    by_test below false t h = below h

-- settling it leaves fewer sheets unsettled
pub turn_ends : {V : Type 0} (m : Meaning V) (w : List V) (marks : List ℕ) (k s : ℕ) (pruned : Bool) → nearest_below m w marks k ≡ Some s → searching.unsettled_count (settled_marks pruned s marks) < searching.unsettled_count marks
turn_ends m w marks k s true e = searching.settles_one marks s 1 (nearest_unsettled m w marks k s e) (λ z. omega arith)
turn_ends m w marks k s false e = searching.settles_one marks s 2 (nearest_unsettled m w marks k s e) (λ z. omega arith)

-- either way the nearest sheet is the same
nearest_facing : {V : Type 0} (way : Way) (m : Meaning V) (w : List V) (marks : List ℕ) (k : ℕ) → nearest_below (facing way m) w marks k ≡ nearest_below m w marks k
nearest_facing Out m w marks k = refl
nearest_facing In m w marks zero = refl
nearest_facing In m w marks (suc k) = ap₂ (λ (o p : Option ℕ). cond (unsettled marks k && m.better (get_or w k m.none) (value_at m w o)) (Some k) p) (nearest_facing In m w marks k) (nearest_facing In m w marks k)

none_facing : {V : Type 0} (way : Way) (m : Meaning V) → (facing way m).none ≡ m.none
none_facing Out m = refl
none_facing In m = refl

empty_facing : {V : Type 0} (way : Way) (m : Meaning V) → (facing way m).empty ≡ m.empty
empty_facing Out m = refl
empty_facing In m = refl

module _ {V : Type 0} (m : Meaning V) (L : Lawful m) (way : Way) (n : ℕ) (rs : List Redraw) (es : List (Entry V)) (r : ℕ) (R : Ready m n rs es r) where
  pub table_sorted : Sorted m n es
  table_sorted = subst (Sorted m n) (sym R.table) (sorted.listed_sorted m n (rooted m r (best m n rs)) R.small (roots.rooted_value m L r (best m n rs) (bests.best_value m L n rs R.register)))

  -- the search begins with the empty chain at the root
  pub begins : Underway (facing way m) n (facing_redraws way rs) r (set (replicate n m.none) r m.empty) (replicate n 0)
  begins = subst (λ x. Underway (facing way m) n (facing_redraws way rs) r (set (replicate n x) r m.empty) (replicate n 0)) (none_facing way m)
      (subst (λ x. Underway (facing way m) n (facing_redraws way rs) r (set (replicate n (facing way m).none) r x) (replicate n 0)) (empty_facing way m)
      (searching.begins (facing way m) (facings.facing_lawful way m L) n (facing_redraws way rs) (facings.facing_register way n rs R.register) r R.root_below))

  -- blank work and marks, with the empty chain written at the root
  pub started : (w : List V) (marks : List ℕ) → w ≡ replicate n m.none → marks ≡ replicate n 0 → (e : V) → e ≡ m.empty → (w' : List V) → w' ≡ set w r e → Underway (facing way m) n (facing_redraws way rs) r w' marks
  started w marks ew em e ee w' ew' = subst (λ x. Underway (facing way m) n (facing_redraws way rs) r x marks) (sym (ew' ∙ ap₂ (λ x y. set x r y) ew ee)) (subst (Underway (facing way m) n (facing_redraws way rs) r (set (replicate n m.none) r m.empty)) (sym em) begins)

  pub turn : (w : List V) (marks : List ℕ) → Underway (facing way m) n (facing_redraws way rs) r w marks → (s : ℕ) → nearest_below m w marks n ≡ Some s
      → (pruned : Bool) → ((k : ℕ) → k ≤ 65536 → Sorted m k es → pruned ≡ answers_as_well (facing way m) (facing_table way (held m es)) r s (get_or w s m.none))
      → (w' : List V) → w' ≡ settled_work (facing way m) pruned (facing_redraws way rs) s w → (marks' : List ℕ) → marks' ≡ settled_marks pruned s marks
      → Underway (facing way m) n (facing_redraws way rs) r w' marks'
  turn w marks U s e pruned h w' ew marks' em =
      let Lμ = facings.facing_lawful way m L in
      let near : Nearest (facing way m) w marks n (Some s) = subst (Nearest (facing way m) w marks n) (nearest_facing way m w marks n ∙ e) (searching.nearest_is (facing way m) Lμ w U.values marks n) in
      let same : answer (facing way m) (facing_table way (held m es)) r s ≡ answer (facing way m) (rooted (facing way m) r (best (facing way m) n (facing_redraws way rs))) r s
      = ap (λ x. answer (facing way m) (facing_table way (held m x)) r s) R.table ∙ facings.answers_facing m L n rs R.register way r r s R.root_below near.0 in
      let is : pruned ≡ answers_as_well (facing way m) (rooted (facing way m) r (best (facing way m) n (facing_redraws way rs))) r s (get_or w s (facing way m).none)
      = h n R.small table_sorted
      ∙ ap₂ (λ a x. not (eqb s r) && not ((facing way m).better a x)) (ap (get_or w s) (sym (none_facing way m))) same in
      subst (λ x. Underway (facing way m) n (facing_redraws way rs) r x marks') (sym ew) (subst (λ x. Underway (facing way m) n (facing_redraws way rs) r (settled_work (facing way m) pruned (facing_redraws way rs) s w) x) (sym em)
      (searching.goes_on (facing way m) Lμ n (facing_redraws way rs) (facings.facing_register way n rs R.register) r R.root_below w marks U s near pruned is))

  -- a search that has ended gives the run of new entries
  pub run : (w : List V) (marks : List ℕ) → Underway (facing way m) n (facing_redraws way rs) r w marks → nearest_below m w marks n ≡ None → Run m n rs r way (fresh_below m way r w marks n)
  run w marks U e = growing.fresh_run m L n R.small rs R.register r R.root_below way w marks U
      (subst (Nearest (facing way m) w marks n) (nearest_facing way m w marks n ∙ e) (searching.nearest_is (facing way m) (facings.facing_lawful way m L) w U.values marks n))
