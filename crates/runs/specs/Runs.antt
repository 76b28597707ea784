-- The promise over all runs. A run is any sequence of calls on a book, each with its answer, taken or refused. From it can be read which
-- redraws were accepted, and how many roots or rounds were accepted since the making or the last accepted enter or clear.
-- Whatever calls have come, the promise below holds of the book that they have led to, under every lawful measure.
use Rattle.std.specs.Prelude.{◌≡◌, ℕ, suc, ◌<◌, ◌≤◌, Bool, true, false, cond, List, [], ◌∷◌, ◌++◌, length, None}
use Rattle.std.specs.List.{AllByRecursion}
use Rattle.theory.specs.declared.Redraw.{Redraw}
use Rattle.theory.specs.declared.Entry.{Entry}
use Rattle.theory.specs.declared.Phase.TheVariants.{Finished}
use Rattle.theory.specs.declared.Refusal.{Refusal}
use Rattle.theory.specs.declared.Refusal.TheVariants.{WantOfPlaces}
use Rattle.theory.specs.Measures.{Meaning, Strict}
use Rattle.theory.specs.Chains.{Among, BestOver, best}
use Rattle.theory.specs.Tables.{answer, finished, listed, held, InOrder, Honest, Right}
use Rattle.theory.specs.Books.{View, Call, Answer, enter, clear, round, root, look, list, refused, entered, cleared, built, looked, entries_are, redraw, new_book, making_refusal, Stepped}

-- the calls that have come with their answers, the latest first
abbrev pub History : Type 0 → Type 0
History V = List (Call × Answer V)

-- the calls of the history, with these answers, lead from the book v to the book w
pub data Run {V : Type 0} (m : Meaning V) : View V → History V → View V → Type 0 where
  no_call : (v : View V) → Run m v [] v
  then_call : (v w x : View V) (h : History V) (c : Call) (a : Answer V) → Run m v h w → Stepped m w c a x → Run m v ((c, a) ∷ h) x

-- the call was taken
abbrev pub was_taken : {V : Type 0} → Answer V → Bool
was_taken (refused e) = false
was_taken (entered k) = true
was_taken cleared = true
was_taken (built k p) = true
was_taken (looked a) = true
was_taken (entries_are es) = true

-- the redraws that a call gives if it is taken
abbrev pub gives : Call → List Redraw
gives (enter from to minutes grade) = redraw from to minutes grade ∷ []
gives clear = []
gives round = []
gives root = []
gives (look s t) = []
gives list = []

-- the accepted redraws: all that accepted enters gave since the making, in order
abbrev pub accepted : {V : Type 0} → History V → List Redraw
accepted [] = []
accepted (x ∷ h) = accepted h ++ cond (was_taken x.1) (gives x.0) []

-- so many roots with one call more that was taken: an enter or a clear begins anew
abbrev pub count_root : Call → ℕ → ℕ
count_root (enter from to minutes grade) k = 0
count_root clear k = 0
count_root round k = k
count_root root k = suc k
count_root (look s t) k = k
count_root list k = k

-- so many rounds with one call more that was taken
abbrev pub count_round : Call → ℕ → ℕ
count_round (enter from to minutes grade) k = 0
count_round clear k = 0
count_round round k = suc k
count_round root k = k
count_round (look s t) k = k
count_round list k = k

-- the roots accepted since the making or the last accepted enter or clear
abbrev pub roots_since : {V : Type 0} → History V → ℕ
roots_since [] = 0
roots_since (x ∷ h) = cond (was_taken x.1) (count_root x.0 (roots_since h)) (roots_since h)

-- the rounds accepted since then
abbrev pub rounds_since : {V : Type 0} → History V → ℕ
rounds_since [] = 0
rounds_since (x ∷ h) = cond (was_taken x.1) (count_round x.0 (rounds_since h)) (rounds_since h)

-- a book was made over n sheets, and the calls of the history have led to v
pub record LedTo {V : Type 0} (m : Meaning V) (n : ℕ) (h : History V) (v : View V) : Type 0 where
  pub register_places : ℕ
  pub table_places : ℕ
  pub makeable : making_refusal n register_places table_places table_places n n ≡ None
  pub by_calls : Run m (new_book n register_places table_places) h v

-- es is a table in order over n sheets that is honest and answers all pairs rightly, for the redraws rs
pub record HonestAndRight {V : Type 0} (m : Meaning V) (n : ℕ) (rs : List Redraw) (es : List (Entry V)) : Type 0 where
  pub in_order : InOrder m n es
  pub honest : Honest m n (best m n rs) (held m es)
  pub right : Right m n (best m n rs) (held m es)

-- what is promised of a finished book over n sheets whose accepted redraws are rs
pub record FinishedBook {V : Type 0} (m : Meaning V) (n : ℕ) (rs : List Redraw) (v : View V) : Type 0 where
  -- it holds exactly the finished table of its accepted redraws
  pub holds_finished_table : v.entries ≡ listed m n (finished m (best m n rs))
  -- it answers every pair with the best over all chains of its accepted redraws
  pub answers_rightly : (s t : ℕ) → s < n → t < n → BestOver m rs s t (answer m (held m v.entries) s t)
  -- every honest table that answers all pairs rightly holds each of its entries
  pub held_by_every_right_table : (es : List (Entry V)) → HonestAndRight m n rs es → AllByRecursion (λ e. Among e es) v.entries
  -- another finished book of this measure over as many sheets has the same entries exactly if the accepted redraws of both give every ordered pair the same best measure
  pub equal_exactly : (h : History V) (w : View V) → LedTo m n h w → w.phase ≡ Finished
      → (v.entries ≡ w.entries → (s t : ℕ) → s < n → t < n → best m n rs s t ≡ best m n (accepted h) s t)
      × (((s t : ℕ) → s < n → t < n → best m n rs s t ≡ best m n (accepted h) s t) → v.entries ≡ w.entries)

-- what is promised of a book over n sheets that the calls of a history have led to
pub record Promised {V : Type 0} (m : Meaning V) (n : ℕ) (h : History V) (v : View V) : Type 0 where
  -- it has n sheets and holds its accepted redraws
  pub sheets_are : v.sheets ≡ n
  pub redraws_are : v.redraws ≡ accepted h
  -- the best measure of a pair is the best over all chains of the accepted redraws
  pub best_is_best : (s t : ℕ) → BestOver m (accepted h) s t (best m n (accepted h) s t)
  -- where it is finished
  pub when_finished : v.phase ≡ Finished → FinishedBook m n (accepted h) v
  -- a refusal changes nothing
  pub refusal_changes_nothing : (c : Call) (e : Refusal) (w : View V) → Stepped m v c (refused e) w → w ≡ v
  -- a root is refused for want of places only if no honest, right table fits
  pub root_refused_rightly : (w : View V) → Stepped m v root (refused WantOfPlaces) w → (es : List (Entry V)) → HonestAndRight m n (accepted h) es → v.table_places < length es
  -- as many accepted roots as sheets finish it
  pub roots_finish : n ≤ roots_since h → v.phase ≡ Finished
  -- under a strict measure at most as many accepted rounds as sheets finish it
  pub rounds_finish : Strict m → n ≤ rounds_since h → v.phase ≡ Finished

-- the promise over all runs of a measure
abbrev pub Promise : {V : Type 0} → Meaning V → Type 0
Promise {V} m = (n : ℕ) (h : History V) (v : View V) → LedTo m n h v → Promised m n h v
