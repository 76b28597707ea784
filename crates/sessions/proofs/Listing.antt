-- The entries of a table, printed one by one.
use Rattle.std.proofs.Common.{◌≡◌, ℕ, ◌+◌, ◌<◌, List, ◌∷◌, ◌++◌, length, get_or, drop, Option, sym, ap, ◌∙◌}
use Rattle.std.proofs.lemmas.List.{append_assoc, at_drop_more}
use Rattle.theory.specs.declared.Entry.{Entry}
use Rattle.answers.specs.Printed.{entry_line}
use Rattle.sessions.specs.Attending.{PrintedAs, ToldAs, entries_text}

-- the text so far, with the entries from i on, is the whole text
pub record Left {V : Type 0} (shown : V → Option (List ℕ)) (before : List ℕ) (es : List (Entry V)) (i : ℕ) (sofar : List ℕ) : Type 0 where
  pub is : (text : V → List ℕ) → PrintedAs shown text → sofar ++ entries_text text (drop i es) ≡ before ++ entries_text text es

-- one entry more is printed
pub left_more : {V : Type 0} {shown : V → Option (List ℕ)} {before sofar further : List ℕ} {es : List (Entry V)} {i : ℕ} {e : Entry V} → i < length es → e ≡ get_or es i e → Left shown before es i sofar → ToldAs shown sofar (λ text. entry_line e.from e.to (text e.value)) further → Left shown before es (i + 1) further
left_more {sofar = sofar} {es = es} {i = i} {e = e} inside is old told = record {
  is = λ text h.
      ap (λ bs. bs ++ entries_text text (drop (i + 1) es)) (told text h)
      ∙ (append_assoc sofar (entry_line e.from e.to (text e.value)) (entries_text text (drop (i + 1) es))
      ∙ (ap (λ x. sofar ++ entries_text text (x ∷ drop (i + 1) es)) is
      ∙ (ap (λ bs. sofar ++ bs) (sym (at_drop_more (entries_text text) es i e inside)) ∙ old.is text h)));
}
