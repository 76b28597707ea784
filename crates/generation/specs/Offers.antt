-- Relaxing the row of a junior sheet. The work strip holds the best value offered so far to each senior sheet.
-- What relaxing does to it is said by what is offered, whatever the order: each place holds what it held or an offer, and nothing offered is better.
use Rattle.std.specs.Prelude.{◌≡◌, ℕ, ◌<◌, ◌≤◌, cond, ◌&&◌, ◌⊎◌, List, length, ◌==◌, nat_lt, slice_index_or, slice_set}
use Rattle.theory.specs.declared.Redraw.{Redraw}
use Rattle.theory.specs.declared.Entry.{Entry}
use Rattle.theory.specs.declared.Way.{Way}
use Rattle.theory.specs.declared.Way.TheVariants.{Out, In}
use Rattle.theory.specs.Measures.{Meaning, Lawful, Value, NoWorse}
use Rattle.theory.specs.Chains.{Among}
use Rattle.theory.specs.Tables.{entry}
use Rattle.theory.specs.Order.{key_of}
use Rattle.theory.specs.Searches.{facing}
use Rattle.tables.specs.SheetLists.{list_begin, list_end}
use Rattle.generation.specs.declared.source.Source.{Source}
use Rattle.generation.specs.declared.source.Source.TheVariants.{Redraws, Entries}

-- the ends of an entry as a row sees it: an out row begins at `from`, an in row at `to`
abbrev pub near_end : {V : Type 0} → Way → Entry V → ℕ
near_end Out e = e.from
near_end In e = e.to

abbrev pub far_end : {V : Type 0} → Way → Entry V → ℕ
far_end Out e = e.to
far_end In e = e.from

-- a redraw as an entry
abbrev pub redraw_entry : {V : Type 0} → Meaning V → Redraw → Entry V
redraw_entry m r = entry r.from r.to (m.worth r)

-- the value a offered to the sheet s: it takes the place of a worse one
abbrev pub offered : {V : Type 0} → Meaning V → ℕ → V → List V → List V
offered m s a work = cond (m.better a (slice_index_or work s a)) (slice_set work s a) work

-- an entry between the junior sheet j and a senior one offers its value to that one
abbrev pub relaxed_entry : {V : Type 0} → Meaning V → Way → ℕ → Entry V → List V → List V
relaxed_entry m way j e work = cond (near_end way e == j && nat_lt (far_end way e) j) (offered m (far_end way e) e.value work) work

-- an entry that leads on from where one of j with the value a ends offers the join to the sheet where it ends, if that is senior to j
abbrev pub relaxed_join : {V : Type 0} → Meaning V → Way → ℕ → V → Entry V → List V → List V
relaxed_join m way j a e work = cond (nat_lt (far_end way e) j) (offered m (far_end way e) ((facing way m).join a e.value) work) work

-- what an entry offers: its value, to the senior sheet to which it leads from j
abbrev pub EntryOffers : {V : Type 0} → Way → ℕ → Entry V → ℕ → V → Type 0
EntryOffers way j e s a = (near_end way e ≡ j) × (far_end way e ≡ s) × (s < j) × (a ≡ e.value)

-- what an entry offers that leads on from where one of j with the value b ends: the join
abbrev pub JoinOffers : {V : Type 0} → Meaning V → Way → ℕ → V → Entry V → ℕ → V → Type 0
JoinOffers m way j b e s a = (far_end way e ≡ s) × (s < j) × (a ≡ (facing way m).join b e.value)

-- what any member of a list offers
abbrev pub AnyOffers : {X V : Type 0} → (X → ℕ → V → Type 0) → List X → ℕ → V → Type 0
AnyOffers {X} offers xs s a = (x : X) × Among x xs × offers x s a

-- x stands in the list of the sheet w: it leads from w that way to a sheet senior to w
abbrev pub InList : {V : Type 0} → Way → List (Entry V) → ℕ → Entry V → Type 0
InList way es w x = Among x es × (list_begin way w ≤ key_of x) × (key_of x < list_end way w)

-- what a present entry offers: its value, and its joins with the entries in the list of the sheet to which it leads from j
abbrev pub PresentOffers : {V : Type 0} → Meaning V → Way → ℕ → List (Entry V) → Entry V → ℕ → V → Type 0
PresentOffers {V} m way j es e s a = EntryOffers way j e s a ⊎ ((near_end way e ≡ j) × ((x : Entry V) × InList way es (far_end way e) x × JoinOffers m way j e.value x s a))

-- what is offered to the row of j: by the redraws from an open book, by the present entries otherwise
abbrev pub RowOffers : {V : Type 0} → Meaning V → Way → ℕ → Source V → ℕ → V → Type 0
RowOffers m way j (Redraws rs) = AnyOffers (λ r. EntryOffers way j (redraw_entry m r)) rs.now
RowOffers m way j (Entries es) = AnyOffers (PresentOffers m way j es.now) es.now

-- ys is xs with what is offered: no place is worse than before or than an offer, and each is as before or an offer
pub record Improved {V : Type 0} (m : Meaning V) (offers : ℕ → V → Type 0) (xs ys : List V) : Type 0 where
  pub long : length ys ≡ length xs
  pub than_before : (s : ℕ) → NoWorse m (slice_index_or ys s m.none) (slice_index_or xs s m.none)
  pub than_offers : (s : ℕ) (a : V) → offers s a → s < length xs → NoWorse m (slice_index_or ys s m.none) a
  pub attained : (s : ℕ) → (slice_index_or ys s m.none ≡ slice_index_or xs s m.none) ⊎ offers s (slice_index_or ys s m.none)

-- for a lawful measure, if the offers and the places are values
abbrev pub Relaxed : {V : Type 0} → Meaning V → (ℕ → V → Type 0) → List V → List V → Type 0
Relaxed {V} m offers xs ys = Lawful m → ((s : ℕ) (a : V) → offers s a → Value m a) → ((s : ℕ) → Value m (slice_index_or xs s m.none)) → Improved m offers xs ys
