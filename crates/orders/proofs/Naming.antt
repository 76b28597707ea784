-- Which first word a name spells.
use Rattle.std.proofs.Common.{◌≡◌, ℕ, true, false, cond, List, [], ◌∷◌, Some, None, Option, sym, refl, ap, ◌∙◌, ⊎_elim}
use Rattle.std.specs.List.{AllByRecursion, find}
use Rattle.std.specs.Option.{option_map}
use Rattle.std.specs.Str.{bytes_eq}
use Rattle.std.proofs.lemmas.Slice.Eq.{bytes_eq-Decides}
use Rattle.std.proofs.lemmas.Bool.{cond-false, cases_Bool, both_ways}
use Rattle.orders.specs.declared.vocabulary.FirstWord.{FirstWord}
use Rattle.words.specs.Tokens.{only_digits}
use Rattle.orders.specs.Vocabulary.{spelling, spelled_so, first_words, named_by}

-- the first of the words that is spelled so is the first that a search by its spelling finds
spelled_found_in : (name : List ℕ) (ws : List FirstWord) → find (λ w. bytes_eq name (spelling w)) ws ≡ spelled_so name ws
spelled_found_in name [] = refl
spelled_found_in name (w ∷ ws) = ap (cond (bytes_eq name (spelling w)) (Some w)) (spelled_found_in name ws)

pub spelled_found : (name : List ℕ) (ws : List FirstWord) (r : Option FirstWord) → option_map (λ w. w) r ≡ find (λ w. bytes_eq name (spelling w)) ws → r ≡ spelled_so name ws
spelled_found name ws None e = e ∙ spelled_found_in name ws
spelled_found name ws (Some w) e = e ∙ spelled_found_in name ws

-- digits spell none of the words that are not made of digits
spelled_by_digits : (name : List ℕ) (ws : List FirstWord) → only_digits name ≡ true → AllByRecursion (λ w. only_digits (spelling w) ≡ false) ws → None ≡ spelled_so name ws
spelled_by_digits name [] d a = refl
spelled_by_digits name (w ∷ ws) d a =
    ⊎_elim
    (λ e. absurd (both_ways (only_digits name) (ap only_digits ((bytes_eq-Decides name (spelling w)).0 e) ∙ a.0) d))
    (λ e. spelled_by_digits name ws d a.1 ∙ sym (cond-false _ _ _ e))
    (cases_Bool (bytes_eq name (spelling w)))

-- digits spell no first word
pub named_by_digits : (name : List ℕ) → only_digits name ≡ true → None ≡ named_by name
named_by_digits name d = spelled_by_digits name first_words d (refl, (refl, (refl, (refl, (refl, (refl, (refl, (refl, tt))))))))
