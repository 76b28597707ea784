-- The search from a root (Dijkstra's, pruned by the table): the work strip holds the best value found for each sheet so far,
-- the mark strip says which sheets are settled. A settled sheet is relaxed unless the table answers it as well already.
use Rattle.std.specs.Prelude.{◌≡◌, ℕ, zero, suc, ◌<◌, Bool, true, false, cond, not, ◌&&◌, ◌⊎◌, List, [], ◌∷◌, ◌++◌, map, length, Some, None, Option, ◌==◌, ◌≢◌, nat_lt, slice_index_or, slice_set}
use Rattle.theory.specs.declared.Redraw.{Redraw}
use Rattle.theory.specs.declared.Entry.{Entry}
use Rattle.theory.specs.declared.Way.{Way}
use Rattle.theory.specs.declared.Way.TheVariants.{Out, In}
use Rattle.theory.specs.Measures.{Meaning, Value, NoWorse, some}
use Rattle.theory.specs.Chains.{Among, Reached, best}
use Rattle.theory.specs.Tables.{Table, entry, answer, rooted, finished, held}
use Rattle.theory.specs.Order.{Sorted}
use Rattle.theory.specs.Mirror.{turned, flipped, mirror}

-- measure, redraws and table as a search sees them that goes out from the root, or in towards it
abbrev pub facing : {V : Type 0} → Way → Meaning V → Meaning V
facing Out m = m
facing In m = mirror m

abbrev pub facing_redraw : Way → Redraw → Redraw
facing_redraw Out r = r
facing_redraw In r = turned r

abbrev pub facing_redraws : Way → List Redraw → List Redraw
facing_redraws Out rs = rs
facing_redraws In rs = map turned rs

abbrev pub facing_table : {V : Type 0} → Way → Table V → Table V
facing_table Out f = f
facing_table In f = flipped f

-- a redraw c that starts at the sheet gives the value joined with it to the sheet where it ends, if that is better
abbrev pub relaxed_one : {V : Type 0} → Meaning V → ℕ → V → Redraw → List V → List V
relaxed_one m sheet value c work = cond (c.from == sheet && m.better (m.join value (m.worth c)) (slice_index_or work c.to (m.join value (m.worth c)))) (slice_set work c.to (m.join value (m.worth c))) work

-- all redraws in turn
abbrev pub relaxed : {V : Type 0} → Meaning V → ℕ → V → List Redraw → List V → List V
relaxed m sheet value [] work = work
relaxed m sheet value (c ∷ cs) work = relaxed m sheet value cs (relaxed_one m sheet value c work)

-- a mark is 0 on a sheet not settled yet, 1 on one that the table answers as well, 2 on one that was relaxed
abbrev pub unsettled : List ℕ → ℕ → Bool
unsettled marks t = slice_index_or marks t 1 == 0

-- the value of the sheet found so far
abbrev pub value_at : {V : Type 0} → Meaning V → List V → Option ℕ → V
value_at m work None = m.none
value_at m work (Some i) = slice_index_or work i m.none

-- the unsettled sheet below k with the best value, if one has a value other than none
abbrev pub nearest_below : {V : Type 0} → Meaning V → List V → List ℕ → ℕ → Option ℕ
nearest_below m work marks zero = None
nearest_below m work marks (suc i) = cond (unsettled marks i && m.better (slice_index_or work i m.none) (value_at m work (nearest_below m work marks i))) (Some i) (nearest_below m work marks i)

-- the table answers the sheet as well as the search does; the root itself is always relaxed
abbrev pub answers_as_well : {V : Type 0} → Meaning V → Table V → ℕ → ℕ → V → Bool
answers_as_well m f root sheet value = not (sheet == root) && not (m.better value (answer m f root sheet))

-- marks and values once the sheet is settled
abbrev pub settled_marks : Bool → ℕ → List ℕ → List ℕ
settled_marks pruned sheet marks = slice_set marks sheet (cond pruned 1 2)

abbrev pub settled_work : {V : Type 0} → Meaning V → Bool → List Redraw → ℕ → List V → List V
settled_work m pruned rs sheet work = cond pruned work (relaxed m sheet (slice_index_or work sheet m.none) rs work)

-- the entry that a search from the root gives to a junior sheet
abbrev pub new_entry : {V : Type 0} → Way → ℕ → ℕ → V → Entry V
new_entry Out root sheet value = entry root sheet value
new_entry In root sheet value = entry sheet root value

-- the new entry to the sheet t, if it is a relaxed sheet that is junior to the root
abbrev pub fresh_at : {V : Type 0} → Meaning V → Way → ℕ → List V → List ℕ → ℕ → List (Entry V)
fresh_at m way root work marks t = cond (nat_lt root t && slice_index_or marks t 1 == 2) (new_entry way root t (slice_index_or work t m.none) ∷ []) []

-- the new entries to the sheets below k, in order
abbrev pub fresh_below : {V : Type 0} → Meaning V → Way → ℕ → List V → List ℕ → ℕ → List (Entry V)
fresh_below m way root work marks zero = []
fresh_below m way root work marks (suc t) = fresh_below m way root work marks t ++ fresh_at m way root work marks t

-- the value of a sheet in the work strip
abbrev pub worked : {V : Type 0} → Meaning V → List V → ℕ → V
worked m w t = slice_index_or w t m.none

-- the sheet found is the unsettled one of best value; none found: no unsettled sheet below k has a value
abbrev pub Nearest : {V : Type 0} → Meaning V → List V → List ℕ → ℕ → Option ℕ → Type 0
Nearest m w marks k None = (i : ℕ) → i < k → unsettled marks i ≡ true → some m (worked m w i) ≡ false
Nearest m w marks k (Some s) = (s < k) × (unsettled marks s ≡ true) × (some m (worked m w s) ≡ true) × ((i : ℕ) → i < k → unsettled marks i ≡ true → NoWorse m (worked m w s) (worked m w i))

-- what is true at every turn of the search from r
pub record Underway {V : Type 0} (m : Meaning V) (n : ℕ) (rs : List Redraw) (r : ℕ) (w : List V) (marks : List ℕ) : Type 0 where
  pub work_long : length w ≡ n
  pub marks_long : length marks ≡ n
  -- every value is none or some chain's, the root has the empty chain
  pub values : (t : ℕ) → Value m (worked m w t)
  pub start : worked m w r ≡ m.empty
  pub reached : (t : ℕ) → Reached m rs r t (worked m w t)
  -- settled sheets are not worse than unsettled ones
  pub in_front : (x t : ℕ) → x < n → t < n → (slice_index_or marks x 1 ≢ 0) → slice_index_or marks t 1 ≡ 0 → NoWorse m (worked m w x) (worked m w t)
  -- a settled sheet was relaxed, being the root or better than the table's answer, or the table answers it as well
  pub relaxed_there : (x : ℕ) → x < n → (slice_index_or marks x 1 ≢ 0) → slice_index_or marks x 1 ≡ 2
      → ((x ≡ r) ⊎ (m.better (worked m w x) (answer m (rooted m r (best m n rs)) r x) ≡ true)) × ((c : Redraw) → Among c rs → c.from ≡ x → NoWorse m (worked m w c.to) (m.join (worked m w x) (m.worth c)))
  pub pruned_there : (x : ℕ) → x < n → (slice_index_or marks x 1 ≢ 0) → (slice_index_or marks x 1 ≢ 2)
      → (x ≢ r) × NoWorse m (answer m (rooted m r (best m n rs)) r x) (worked m w x)

-- es is the run of new entries that the search from r gives that way: the finished entries between r and its junior sheets
pub record Run {V : Type 0} (m : Meaning V) (n : ℕ) (rs : List Redraw) (r : ℕ) (way : Way) (es : List (Entry V)) : Type 0 where
  pub in_order : Sorted m n es
  pub here : (t : ℕ) → r < t → t < n → facing_table way (held m es) r t ≡ facing_table way (finished m (best m n rs)) r t
  pub elsewhere : (u t : ℕ) → ((u ≡ r) × (r < t) → ⊥) → facing_table way (held m es) u t ≡ m.none
