-- The entries of a sound, finished book are sorted, so a lookup in them answers as the table does, and that is the best over all chains.
use Rattle.std.proofs.Common.{◌≡◌, ℕ, ◌<◌, ◌≤◌, List, None, refl, sym, ap, ap₂, ◌∙◌, subst, arith}
use Rattle.std.proofs.lemmas.Bool.{lt-ltb}
use Rattle.theory.specs.declared.Entry.{Entry}
use Rattle.theory.specs.declared.Phase.{Phase}
use Rattle.theory.specs.declared.Phase.TheVariants.{Open, Rounds, Roots, Finished}
use Rattle.theory.specs.Measures.{Meaning, Lawful}
use Rattle.theory.specs.Chains.{BestOver}
use Rattle.theory.specs.Tables.{finished, answer, held}
use Rattle.theory.specs.Order.{Sorted}
use Rattle.theory.specs.Books.{View, Answer, Sound, Stepped, Guarantee, answered, best_of, entries_are, finished_refusal, list, look, look_refusal, looked, refused, unless}
use Rattle.theory.proofs.Guarantees.{finished_vals}
use Rattle.theory.proofs.SortedTables.{listed_sorted}

-- where a list is answered the book is finished, and its entries are answered
finished_then : {V : Type 0} (p : Phase) (es xs : List (Entry V)) → ◌≡◌ {A = Answer V} (entries_are es) (unless (finished_refusal p) refused (entries_are xs)) → (p ≡ Finished) × (es ≡ xs)
finished_then Open es xs e = (cc, cc)
finished_then (Rounds k) es xs e = (cc, cc)
finished_then (Roots r) es xs e = (cc, cc)
finished_then Finished es xs e = (refl, cc)

module _ {V : Type 0} (m : Meaning V) (L : Lawful m) (v : View V) (S : Sound m v) (G : Guarantee m v) where
  -- the entries are sorted
  entries_sorted : Sorted m v.sheets v.entries
  entries_sorted = let few = S.sheets_bound in
      subst (Sorted m v.sheets) (sym G.is_finished_table)
      (listed_sorted m v.sheets (finished m (best_of m v)) (omega arith) (finished_vals m L v.sheets v.redraws S.redraws_fit))

  -- what a lookup in the entries that a list answers is
  pub looked_up : (es : List (Entry V)) → entries_are es ≡ answered m v list
      → (s t s' t' : ℕ) → ◌≡◌ {A = ℕ × ℕ} (s', t') (s, t) → s < v.sheets → t < v.sheets → (r : V)
      → ((n : ℕ) → n ≤ 65536 → Sorted m n es → r ≡ answer m (held m es) s' t')
      → Stepped m v (look s t) (looked r) v × BestOver m v.redraws s t r
  looked_up es listed s t s' t' same low high r found =
      let few = S.sheets_bound in
      let done = finished_then v.phase es v.entries listed in
      let here : r ≡ answer m (held m v.entries) s t = found v.sheets (omega arith) (subst (Sorted m v.sheets) (sym done.1) entries_sorted) ∙ ap₂ (λ x (p : ℕ × ℕ). answer m (held m x) p.0 p.1) done.1 same in
      let free : look_refusal v s t ≡ None = rw (lt-ltb s v.sheets low, lt-ltb t v.sheets high, done.0) refl in (
        record { callable = tt; answers = rw free (ap (λ x. looked x) here); leaves = rw free refl },
        subst (BestOver m v.redraws s t) (sym here) (G.answers_best s t low high),
      )
