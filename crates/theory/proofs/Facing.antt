-- A search out from a root and a search in towards it are one search, under the measure, the redraws and the table as that search sees them.
use Rattle.std.proofs.Common.{◌≡◌, ℕ, ◌<◌, List, sym, refl, ap, ◌∙◌, arith}
use Rattle.theory.specs.declared.Redraw.{Redraw}
use Rattle.theory.specs.declared.Way.{Way}
use Rattle.theory.specs.declared.Way.TheVariants.{Out, In}
use Rattle.theory.specs.Measures.{Meaning, Lawful}
use Rattle.theory.specs.Chains.{Register, best}
use Rattle.theory.specs.Tables.{Table, answer, finished, rooted, listed, held}
use Rattle.theory.specs.Mirror.{mirror}
use Rattle.theory.specs.Searches.{facing, facing_redraws, facing_table}
use Rattle.theory.proofs.Best as bests
use Rattle.theory.proofs.Finished as fin
use Rattle.theory.proofs.Listings as listings
use Rattle.theory.proofs.Mirror as mirrors
use Rattle.theory.proofs.Roots as roots

pub facing_lawful : {V : Type 0} (way : Way) (m : Meaning V) → Lawful m → Lawful (facing way m)
facing_lawful Out m L = L
facing_lawful In m L = mirrors.mirror_lawful m L

pub facing_register : (way : Way) (n : ℕ) (rs : List Redraw) → Register n rs → Register n (facing_redraws way rs)
facing_register Out n rs reg = reg
facing_register In n rs reg = mirrors.register_turned n rs reg

module _ {V : Type 0} (m : Meaning V) where
  -- the answer of the table turned round is the answer for the pair turned round
  pub facing_answer_in : (f : Table V) (s t : ℕ) → answer m f t s ≡ answer (facing In m) (facing_table In f) s t
  facing_answer_in f s t = sym (mirrors.answer_mirror m f s t)

  -- the best measures of the redraws turned round are those of the pairs turned round
  pub best_facing : (way : Way) (n : ℕ) (rs : List Redraw) → best (facing way m) n (facing_redraws way rs) ≡ facing_table way (best m n rs)
  best_facing Out n rs = refl
  best_facing In n rs = λ i s t. mirrors.best_mirror m n rs s t i

  pub finished_facing : (way : Way) (n : ℕ) (rs : List Redraw) (s t : ℕ) → finished (facing way m) (best (facing way m) n (facing_redraws way rs)) s t ≡ facing_table way (finished m (best m n rs)) s t
  finished_facing Out n rs s t = refl
  finished_facing In n rs s t = ap (λ b. finished (mirror m) b s t) (best_facing In n rs) ∙ mirrors.finished_mirror m (best m n rs) s t

  pub rooted_facing : (way : Way) (n : ℕ) (rs : List Redraw) (r s t : ℕ) → rooted (facing way m) r (best (facing way m) n (facing_redraws way rs)) s t ≡ facing_table way (rooted m r (best m n rs)) s t
  rooted_facing Out n rs r s t = refl
  rooted_facing In n rs r s t = ap (λ b. rooted (mirror m) r b s t) (best_facing In n rs) ∙ mirrors.rooted_mirror m r (best m n rs) s t

module _ {V : Type 0} (m : Meaning V) (L : Lawful m) (n : ℕ) (rs : List Redraw) (reg : Register n rs) where
  cut_values : (r : ℕ) → fin.Values m L (rooted m r (best m n rs))
  cut_values r = roots.rooted_value m L r (best m n rs) (bests.best_value m L n rs reg)

  held_facing : (way : Way) (r u v : ℕ) → u < n → v < n → (u ≡ v → ⊥) → facing_table way (held m (listed m n (rooted m r (best m n rs)))) u v ≡ rooted (facing way m) r (best (facing way m) n (facing_redraws way rs)) u v
  held_facing Out r u v lu lv ne = listings.held_listed m L n (rooted m r (best m n rs)) u v (cut_values r) lu lv ne
  held_facing In r u v lu lv ne = listings.held_listed m L n (rooted m r (best m n rs)) v u (cut_values r) lv lu (λ e. ne (sym e)) ∙ sym (rooted_facing m In n rs r u v)

  -- the listing after r roots answers, either way, as the table after r roots
  pub answers_facing : (way : Way) (r s t : ℕ) → s < n → t < n
      → answer (facing way m) (facing_table way (held m (listed m n (rooted m r (best m n rs))))) s t ≡ answer (facing way m) (rooted (facing way m) r (best (facing way m) n (facing_redraws way rs))) s t
  answers_facing way r s t ls lt = fin.answer_same (facing way m) (facing_lawful way m L) (facing_table way (held m (listed m n (rooted m r (best m n rs))))) (rooted (facing way m) r (best (facing way m) n (facing_redraws way rs))) s t
      (λ ne. held_facing way r s t ls lt ne)
      (λ w l. held_facing way r s w ls (omega arith) (λ e. omega arith))
      (λ w l. held_facing way r w t (omega arith) lt (λ e. omega arith))
