-- What is kept true of a book has one proof at most: each part of it is an order of numbers, or an equation at a type that is a set.
use Rattle.std.specs.Prelude.{ℕ, true, List, [], ◌∷◌}
use Rattle.std.specs.Coded.{Coded-set, coded_ℕ, coded×, code_by, ×_prop, le_prop}
use Rattle.std.specs.List.{AllByRecursion}
use mathlib.Core.Bool.{Bool-set}
use mathlib.Core.List.{is_set}
use mathlib.Core.Path.{refl, ap}
use Rattle.theory.specs.declared.Redraw.{Redraw}
use Rattle.theory.specs.declared.Entry.{Entry}
use Rattle.theory.specs.declared.Phase.{Phase}
use Rattle.theory.specs.declared.Phase.TheVariants.{Open, Rounds, Roots, Finished}
use Rattle.theory.specs.Measures.{Meaning}
use Rattle.theory.specs.Books.{View, Strips, Stands, Sound}
use Rattle.book.specs.declared.book.Book.{Book}
use Rattle.book.specs.Views.{Kept}

ℕ_set : IsSet ℕ
ℕ_set = Coded-set coded_ℕ

redraw_set : IsSet Redraw
redraw_set = Coded-set (code_by _ (coded× (coded× coded_ℕ coded_ℕ) (coded× coded_ℕ coded_ℕ))
    (λ r. ((r.from, r.to), (r.minutes, r.grade)))
    (λ ((from, to), (minutes, grade)). record { from = from; to = to; minutes = minutes; grade = grade })
    (λ _. refl))

all_prop : {X : Type 0} (P : X → Type 0) → ((x : X) → IsProp (P x)) → (xs : List X) → IsProp (AllByRecursion P xs)
all_prop P h [] = λ p q. refl
all_prop P h (x ∷ xs) = ×_prop (h x) (all_prop P h xs)

module _ {V : Type 0} (V_set : IsSet V) where
  entry_set : IsSet (Entry V)
  entry_set x y p q = λ i j. record {
    from = ℕ_set x.from y.from (ap (λ e. e.from) p) (ap (λ e. e.from) q) i j;
    to = ℕ_set x.to y.to (ap (λ e. e.to) p) (ap (λ e. e.to) q) i j;
    value = V_set x.value y.value (ap (λ e. e.value) p) (ap (λ e. e.value) q) i j;
  }

  entries_set : IsSet (List (Entry V))
  entries_set = is_set entry_set

  strips_set : IsSet (Strips V)
  strips_set x y p q = λ i j. record {
    register = is_set redraw_set x.register y.register (ap (λ s. s.register) p) (ap (λ s. s.register) q) i j;
    table = entries_set x.table y.table (ap (λ s. s.table) p) (ap (λ s. s.table) q) i j;
    spare = entries_set x.spare y.spare (ap (λ s. s.spare) p) (ap (λ s. s.spare) q) i j;
    work = is_set V_set x.work y.work (ap (λ s. s.work) p) (ap (λ s. s.work) q) i j;
    marks = is_set ℕ_set x.marks y.marks (ap (λ s. s.marks) p) (ap (λ s. s.marks) q) i j;
  }

  stands_prop : (m : Meaning V) (n : ℕ) (rs : List Redraw) (es : List (Entry V)) (phase : Phase) → IsProp (Stands m n rs es phase)
  stands_prop m n rs es Open = entries_set es _
  stands_prop m n rs es (Rounds k) = ×_prop le_prop (entries_set es _)
  stands_prop m n rs es (Roots r) = λ p q i. (le_prop p.0 q.0 i, le_prop p.1 q.1 i, entries_set es _ p.2 q.2 i)
  stands_prop m n rs es Finished = entries_set es _

  sound_prop : (m : Meaning V) (v : View V) → IsProp (Sound m v)
  sound_prop m v p q = λ i. record {
    some_sheets = le_prop p.some_sheets q.some_sheets i;
    sheets_bound = le_prop p.sheets_bound q.sheets_bound i;
    register_bound = le_prop p.register_bound q.register_bound i;
    table_bound = le_prop p.table_bound q.table_bound i;
    redraws_within = le_prop p.redraws_within q.redraws_within i;
    entries_within = le_prop p.entries_within q.entries_within i;
    redraws_fit = all_prop _ (λ r. Bool-set _ true) v.redraws p.redraws_fit q.redraws_fit i;
    stands = stands_prop m v.sheets v.redraws v.entries v.phase p.stands q.stands i;
  }

  -- what is kept true of a book has one proof at most
  pub kept_prop : (m : Meaning V) (b : Book V) → IsProp (Kept m b)
  kept_prop m b p q = λ i. record {
    redraws_counted = le_prop p.redraws_counted q.redraws_counted i;
    entries_counted = le_prop p.entries_counted q.entries_counted i;
    strips_laid_out = strips_set _ _ p.strips_laid_out q.strips_laid_out i;
    sound = sound_prop m _ p.sound q.sound i;
  }
