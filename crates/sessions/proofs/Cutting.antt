-- The lines of an input, cut one by one.
use Rattle.std.proofs.Common.{◌≡◌, ℕ, zero, suc, ◌+◌, ◌-◌, ◌<◌, ◌≤◌, List, [], ◌∷◌, length, get_or, take, drop, sym, refl, ap, ◌∙◌, arith}
use Rattle.std.specs.List.{between}
use Rattle.std.proofs.lemmas.Grind.{common_steps}
use Rattle.std.proofs.lemmas.List.{length-drop, get_or-drop, drop-drop, drop_all}
use Rattle.words.specs.Bytes.{NextAt}
use Rattle.sessions.specs.declared.lines.Line.{Line}
use Rattle.sessions.specs.InputLines.{lines_of, ahead, behind, NextLine}

-- the first line of some bytes goes up to the first byte 10, or to the end
first_cut : (xs : List ℕ) (n : ℕ) → 0 < length xs → n ≤ length xs → ((k : ℕ) → k < n → get_or xs k 0 ≡ 10 → ⊥) → (n < length xs → get_or xs n 0 ≡ 10) → lines_of xs ≡ take n xs ∷ lines_of (drop (suc n) xs)
first_cut [] n s l before there = absurd (omega arith)
first_cut (b ∷ bs) zero s l before there = grind (arith, common_steps, there (omega arith))
first_cut (b ∷ []) (suc n) s l before there = grind (arith, common_steps, before 0 (omega arith))
first_cut (b ∷ c ∷ cs) (suc n) s l before there =
    let tail = first_cut (c ∷ cs) n (omega arith) (omega arith) (λ k h. before (suc k) (omega arith)) (λ h. there (omega arith)) in
    let other = before 0 (omega arith) in
    grind (arith, common_steps)

module _ {input : List ℕ} {place end after : ℕ} (inside : place < length input) (stop : NextAt input 10 place end) (is : after ≡ behind input end) where
  -- behind the line the same bytes follow
  follows : drop (place + suc (end - place)) input ≡ drop after input
  follows = grind (arith, drop_all)

  -- the first of the lines ahead, and those behind it
  first_ahead : ahead input place ≡ between place end input ∷ ahead input after
  first_ahead =
      first_cut (drop place input) (end - place)
      (omega (arith, length-drop place input))
      (omega (arith, length-drop place input, stop.within))
      (λ k h e. stop.before (place + k) (omega arith) (omega (arith, stop.after)) (sym (get_or-drop place input k 0) ∙ e))
      (λ h. grind (arith, stop.there, length-drop, get_or-drop))
      ∙ ap (λ ys. between place end input ∷ lines_of ys) (drop-drop (suc (end - place)) place input ∙ follows)

  -- so the line up to the end is the next one
  pub next_line : {number : ℕ} (line : Line) → line.text.now ≡ between place end input → line.number ≡ number + 1 → NextLine input place number line after (number + 1)
  next_line line cut numbered = record {
    end = end;
    ends = stop;
    cut = cut;
    numbered = numbered;
    counted = refl;
    moved = is;
    onward = grind (arith, common_steps);
    within = grind (arith, common_steps);
    first = first_ahead ∙ ap (λ text. text ∷ ahead input after) (sym cut);
  }
