-- The numbers that follow a line's first word, one word after another, and what they make with it.
use Rattle.std.proofs.Common.{◌≡◌, ℕ, ◌+◌, Bool, true, false, cond, List, [], ◌∷◌, length, get_or, Some, None, Ok, Err, sym, refl, ap, ◌∙◌, arith}
use Rattle.std.proofs.lemmas.Bool.{cond-true, cond-false, eq-eqb}
use Rattle.orders.specs.declared.commands.Command.{Command}
use Rattle.orders.specs.declared.commands.Command.TheVariants as command
use Rattle.orders.specs.declared.refusals.LineRefusal.{LineRefusal}
use Rattle.orders.specs.declared.refusals.LineRefusal.TheVariants as refusal
use Rattle.orders.specs.declared.vocabulary.FirstWord.{FirstWord}
use Rattle.orders.specs.declared.vocabulary.FirstWord.TheVariants as word
use Rattle.words.specs.declared.split.Place.{Place}
use Rattle.orders.specs.Commands.{command_of, command_with, command_at, faulty_from, number_or_fault, numbers_of}
use Rattle.words.specs.Numbers.{value, is_number}
use Rattle.words.specs.Tokens.{word_at}
use Rattle.orders.specs.Vocabulary.{numbers_after}

-- a word that is read as a number is one, of that value
read : (b : Bool) (v m : ℕ) (e : LineRefusal) → Ok m ≡ cond b (Ok v) (Err e) → (b ≡ true) × (v ≡ m)
read true v m e h = (refl, cc)
read false v m e h = absurd (let z : ◌≡◌ {A = ℕ} 0 1 = cc in omega arith)

-- a word that is refused is none
refused : (b : Bool) (v : ℕ) (e f : LineRefusal) → Err f ≡ cond b (Ok v) (Err e) → (b ≡ false) × (f ≡ e)
refused true v e f h = absurd (let z : ◌≡◌ {A = ℕ} 0 1 = cc in omega arith)
refused false v e f h = (refl, cc)

module _ (line : List ℕ) (n : ℕ) (p : Place) (ps : List Place) where
  on : (m : ℕ) → Ok m ≡ number_or_fault line n p → faulty_from line n (p ∷ ps) ≡ faulty_from line (n + 1) ps
  on m h = cond-true _ _ _ (read (is_number (word_at line p)) (value (word_at line p)) m (refusal.Number n) h).0

  off : (e : LineRefusal) → Err e ≡ number_or_fault line n p → faulty_from line n (p ∷ ps) ≡ Some n
  off e h = cond-false _ _ _ (refused (is_number (word_at line p)) (value (word_at line p)) (refusal.Number n) e h).0

worth : (line : List ℕ) (n : ℕ) (p : Place) (m : ℕ) → Ok m ≡ number_or_fault line n p → m ≡ value (word_at line p)
worth line n p m h = sym (read (is_number (word_at line p)) (value (word_at line p)) m (refusal.Number n) h).1

named : (line : List ℕ) (n : ℕ) (p : Place) (e : LineRefusal) → Err e ≡ number_or_fault line n p → e ≡ refusal.Number n
named line n p e h = (refused (is_number (word_at line p)) (value (word_at line p)) (refusal.Number n) e h).1

module _ (line : List ℕ) (w : FirstWord) (ps : List Place) (counted : length ps ≡ numbers_after w) where
  at_fault : (n : ℕ) (e : LineRefusal) → e ≡ refusal.Number n → faulty_from line 1 ps ≡ Some n → Err e ≡ command_at line w ps
  at_fault n e i f = ap Err i ∙ (sym (ap (command_with line w ps) f) ∙ sym (cond-true _ _ _ (eq-eqb _ _ counted)))

  sound : (c : Command) → c ≡ command_of w (numbers_of line ps) → faulty_from line 1 ps ≡ None → Ok c ≡ command_at line w ps
  sound c i f = ap Ok i ∙ (sym (ap (command_with line w ps) f) ∙ sym (cond-true _ _ _ (eq-eqb _ _ counted)))

module _ (line : List ℕ) (p q : Place) (a : ℕ) (h : Ok a ≡ number_or_fault line 1 p) where
  pub look_second : (e : LineRefusal) → Err e ≡ number_or_fault line 2 q → Err e ≡ command_at line word.Look (p ∷ q ∷ [])
  look_second e i = at_fault line word.Look (p ∷ q ∷ []) refl 2 e (named line 2 q e i) (on line 1 p (q ∷ []) a h ∙ off line 2 q [] e i)

  pub look_read : (b : ℕ) → Ok b ≡ number_or_fault line 2 q → Ok (command.Look a b) ≡ command_at line word.Look (p ∷ q ∷ [])
  look_read b i = sound line word.Look (p ∷ q ∷ []) refl (command.Look a b) (λ j. command.Look (worth line 1 p a h j) (worth line 2 q b i j)) (on line 1 p (q ∷ []) a h ∙ on line 2 q [] b i)

  module _ (r s : Place) where
    pub redraw_second : (e : LineRefusal) → Err e ≡ number_or_fault line 2 q → Err e ≡ command_at line word.Redraw (p ∷ q ∷ r ∷ s ∷ [])
    redraw_second e i = at_fault line word.Redraw (p ∷ q ∷ r ∷ s ∷ []) refl 2 e (named line 2 q e i) (on line 1 p (q ∷ r ∷ s ∷ []) a h ∙ off line 2 q (r ∷ s ∷ []) e i)

    module _ (b : ℕ) (i : Ok b ≡ number_or_fault line 2 q) where
      pub redraw_third : (e : LineRefusal) → Err e ≡ number_or_fault line 3 r → Err e ≡ command_at line word.Redraw (p ∷ q ∷ r ∷ s ∷ [])
      redraw_third e j = at_fault line word.Redraw (p ∷ q ∷ r ∷ s ∷ []) refl 3 e (named line 3 r e j) (on line 1 p (q ∷ r ∷ s ∷ []) a h ∙ (on line 2 q (r ∷ s ∷ []) b i ∙ off line 3 r (s ∷ []) e j))

      module _ (c : ℕ) (j : Ok c ≡ number_or_fault line 3 r) where
        three : faulty_from line 1 (p ∷ q ∷ r ∷ s ∷ []) ≡ faulty_from line 4 (s ∷ [])
        three = on line 1 p (q ∷ r ∷ s ∷ []) a h ∙ (on line 2 q (r ∷ s ∷ []) b i ∙ on line 3 r (s ∷ []) c j)

        pub redraw_fourth : (e : LineRefusal) → Err e ≡ number_or_fault line 4 s → Err e ≡ command_at line word.Redraw (p ∷ q ∷ r ∷ s ∷ [])
        redraw_fourth e k = at_fault line word.Redraw (p ∷ q ∷ r ∷ s ∷ []) refl 4 e (named line 4 s e k) (three ∙ off line 4 s [] e k)

        pub redraw_read : (d : ℕ) → Ok d ≡ number_or_fault line 4 s → Ok (command.Redraw (record { from = a; to = b; minutes = c; grade = d })) ≡ command_at line word.Redraw (p ∷ q ∷ r ∷ s ∷ [])
        redraw_read d k =
            sound line word.Redraw (p ∷ q ∷ r ∷ s ∷ []) refl (command.Redraw (record { from = a; to = b; minutes = c; grade = d }))
            (λ x. command.Redraw (record { from = worth line 1 p a h x; to = worth line 2 q b i x; minutes = worth line 3 r c j x; grade = worth line 4 s d k x }))
            (three ∙ on line 4 s [] d k)

-- what a pattern names where the list has no place there
abbrev pub nowhere : Place
nowhere = record { start = 0; end = 0 }

two : (ps : List Place) → length ps ≡ 2 → get_or ps 0 nowhere ∷ get_or ps 1 nowhere ∷ [] ≡ ps
two (p ∷ q ∷ []) l = refl
two [] l = absurd (omega arith)
two (p ∷ []) l = absurd (omega arith)
two (p ∷ q ∷ r ∷ ps) l = absurd (omega arith)

four : (ps : List Place) → length ps ≡ 4 → get_or ps 0 nowhere ∷ get_or ps 1 nowhere ∷ get_or ps 2 nowhere ∷ get_or ps 3 nowhere ∷ [] ≡ ps
four (p ∷ q ∷ r ∷ s ∷ []) l = refl
four [] l = absurd (omega arith)
four (p ∷ []) l = absurd (omega arith)
four (p ∷ q ∷ []) l = absurd (omega arith)
four (p ∷ q ∷ r ∷ []) l = absurd (omega arith)
four (p ∷ q ∷ r ∷ s ∷ t ∷ ps) l = absurd (omega arith)

-- the same of the words that a pattern of two, or of four, names
pub at_two : (line : List ℕ) (v w : FirstWord) (ps : List Place) → w ≡ v → length ps ≡ 2 → command_at line v (get_or ps 0 nowhere ∷ get_or ps 1 nowhere ∷ []) ≡ command_at line w ps
at_two line v w ps e l = λ i. command_at line (sym e i) (two ps l i)

pub at_four : (line : List ℕ) (v w : FirstWord) (ps : List Place) → w ≡ v → length ps ≡ 4 → command_at line v (get_or ps 0 nowhere ∷ get_or ps 1 nowhere ∷ get_or ps 2 nowhere ∷ get_or ps 3 nowhere ∷ []) ≡ command_at line w ps
at_four line v w ps e l = λ i. command_at line (sym e i) (four ps l i)
