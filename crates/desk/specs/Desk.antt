-- A whole session. Lines are refused up to the first that reads as an opening. The book checks it against the program's memory: a refused
-- opening is printed as such and the reading goes on; an accepted one is answered, and all further lines are carried out on that book.
use Rattle.std.specs.Prelude.{◌≡◌, ℕ, min, Bool, true, false, List, ◌++◌, Some, None, Option}
use Rattle.theory.specs.declared.Refusal.{Refusal}
use Rattle.theory.specs.Measures.{Meaning}
use Rattle.theory.specs.Books.{View, making_refusal, new_book}
use Rattle.theory.specs.Refusals.{refusal_number}
use Rattle.measures.specs.MinutesMeaning.{minutes_meaning}
use Rattle.measures.specs.ChainMeaning.{chain_meaning}
use Rattle.measures.specs.WeakestMeaning.{weakest_meaning}
use Rattle.measures.specs.Texts.{minutes_text, chain_text, weakest_text}
use Rattle.orders.specs.declared.vocabulary.Kind.{Kind}
use Rattle.orders.specs.declared.vocabulary.Kind.TheVariants as kinds
use Rattle.answers.specs.declared.Layer.TheVariants as layers
use Rattle.answers.specs.Printed.{refused_line, opening_line}
use Rattle.sessions.specs.declared.serve.Opening.{Opening}
use Rattle.sessions.specs.Serving.{Served, OpeningAwaited}

-- why the book refuses an opening with so many sheets, if it does: 512 places for redraws, 1,024 for entries, at most 64 for sheets
abbrev pub opening_refusal : ℕ → Option Refusal
opening_refusal sheets = making_refusal sheets 512 1024 1024 (min sheets 64) (min sheets 64)

-- the further lines are carried out on a new book under the measure, with so many sheets
abbrev pub ServedBook : {V : Type 0} → Meaning V → (V → Option (List ℕ)) → ℕ → List (List ℕ) → ℕ → List ℕ → List ℕ → Type 0
ServedBook {V} m text number lines sheets before after = (w : View V) × Served m text number lines (new_book sheets 512 1024) w before after

-- the further lines are carried out on a new book of the kind, with so many sheets
abbrev pub ServedUnder : Kind → ℕ → List (List ℕ) → ℕ → List ℕ → List ℕ → Type 0
ServedUnder kinds.Minutes number lines sheets before after = ServedBook minutes_meaning (λ a. Some (minutes_text a)) number lines sheets before after
ServedUnder kinds.Chain number lines sheets before after = ServedBook chain_meaning (λ a. Some (chain_text a)) number lines sheets before after
ServedUnder kinds.Weakest number lines sheets before after = ServedBook weakest_meaning (λ a. Some (weakest_text a)) number lines sheets before after

-- the book refuses the opening, or takes it and the further lines are carried out on it
abbrev pub Opened : Opening → ℕ → List (List ℕ) → Bool → List ℕ → List ℕ → Type 0
Opened o number lines false before after = (e : Refusal) × (opening_refusal o.sheets ≡ Some e) × (after ≡ before ++ refused_line o.number layers.Book 0 (refusal_number e))
Opened o number lines true before after = (opening_refusal o.sheets ≡ None) × ServedUnder o.kind number lines o.sheets (before ++ opening_line o.kind o.sheets) after

-- the lines that follow the one with this number are a whole session that turns the text before into the text after
pub data Session : ℕ → List (List ℕ) → List ℕ → List ℕ → Type 0 where
  never_opened : (number : ℕ) (lines rest : List (List ℕ)) (last : ℕ) (before after : List ℕ) → OpeningAwaited number lines None rest last before after → Session number lines before after
  turned_away : (number : ℕ) (lines rest : List (List ℕ)) (last : ℕ) (o : Opening) (before mid next after : List ℕ) → OpeningAwaited number lines (Some o) rest last before mid → Opened o last rest false mid next → Session last rest next after → Session number lines before after
  served : (number : ℕ) (lines rest : List (List ℕ)) (last : ℕ) (o : Opening) (before mid after : List ℕ) → OpeningAwaited number lines (Some o) rest last before mid → Opened o last rest true mid after → Session number lines before after
