-- A measure gives a value to each redraw, to the empty chain and to none, says which of two values is better,
-- and joins two values (in the field's words: an ordered monoid of path weights with a top that absorbs).
-- Its meaning is these answers. A lawful measure keeps the laws below for its own values; a strict one keeps one law more.
use Rattle.std.specs.Prelude.{◌≡◌, ℕ, zero, suc, Bool, true, false, cond, not, ◌&&◌, ◌||◌, ◌≢◌, nat_le}
use Rattle.theory.specs.declared.Redraw.{Redraw}

-- a redraw as the office takes it: minutes 1 to 65,535, line grade 1 (poorest) to 5 (cleanest)
abbrev pub proper : Redraw → Bool
proper r = (nat_le 1 r.minutes && nat_le r.minutes 65535) && (nat_le 1 r.grade && nat_le r.grade 5)

-- the answers of a measure; `valid` says which elements of V are its values
pub record Meaning (V : Type 0) : Type 0 where
  pub worth : Redraw → V
  pub empty : V
  pub none : V
  pub join : V → V → V
  pub better : V → V → Bool
  pub valid : V → Bool

-- a is a value of the measure
abbrev pub Value : {V : Type 0} → Meaning V → V → Type 0
Value m a = m.valid a ≡ true

-- a is not worse than b
abbrev pub NotWorse : {V : Type 0} → Meaning V → V → V → Type 0
NotWorse m a b = m.better b a ≡ false

-- both are values, and the first is not worse than the second
pub record NoWorse {V : Type 0} (m : Meaning V) (a b : V) : Type 0 where
  pub left : Value m a
  pub right : Value m b
  pub order : NotWorse m a b

-- the laws of a lawful measure
pub record Lawful {V : Type 0} (m : Meaning V) : Type 0 where
  -- its answers are values
  pub redraw_is_value : (r : Redraw) → proper r ≡ true → Value m (m.worth r)
  pub empty_is_value : Value m m.empty
  pub none_is_value : Value m m.none
  pub join_is_value : (a b : V) → Value m a → Value m b → Value m (m.join a b)
  -- the order is total, and two values tie only if they are the same value
  pub never_both_better : (a b : V) → Value m a → Value m b → m.better a b ≡ true → m.better b a ≡ false
  pub not_worse_carries : (a b c : V) → Value m a → Value m b → Value m c → NotWorse m a b → NotWorse m b c → NotWorse m a c
  pub tie_is_same : (a b : V) → Value m a → Value m b → NotWorse m a b → NotWorse m b a → a ≡ b
  -- joining is associative
  pub join_associative : (a b c : V) → Value m a → Value m b → Value m c → m.join (m.join a b) c ≡ m.join a (m.join b c)
  -- the empty chain joined at either end alters nothing, and no value is better than it
  pub empty_in_front : (a : V) → Value m a → m.join m.empty a ≡ a
  pub empty_at_end : (a : V) → Value m a → m.join a m.empty ≡ a
  pub empty_is_best : (a : V) → Value m a → NotWorse m m.empty a
  -- no value is worse than none; none joined at either end gives none; no redraw has the value none
  pub none_is_worst : (a : V) → Value m a → NotWorse m a m.none
  pub none_in_front : (a : V) → Value m a → m.join m.none a ≡ m.none
  pub none_at_end : (a : V) → Value m a → m.join a m.none ≡ m.none
  pub redraw_is_some : (r : Redraw) → proper r ≡ true → m.worth r ≢ m.none
  -- joining the same value to both keeps the order, at either end
  pub join_keeps_order : (a b c : V) → Value m a → Value m b → Value m c → NotWorse m a b → NotWorse m (m.join a c) (m.join b c)
  pub join_keeps_order_in_front : (a b c : V) → Value m a → Value m b → Value m c → NotWorse m a b → NotWorse m (m.join c a) (m.join c b)

-- the law more of a strict measure: a redraw joined at either end of a value other than none gives a strictly worse value
abbrev pub Strict : {V : Type 0} → Meaning V → Type 0
Strict {V} m = (r : Redraw) (a : V) → proper r ≡ true → Value m a → (a ≢ m.none) → (m.better a (m.join a (m.worth r)) ≡ true) × (m.better a (m.join (m.worth r) a) ≡ true)

-- a is better than none, so it is the value of something
abbrev pub some : {V : Type 0} → Meaning V → V → Bool
some m a = m.better a m.none

-- neither of the two is better
abbrev pub same : {V : Type 0} → Meaning V → V → V → Bool
same m a b = not (m.better a b) && not (m.better b a)

-- the better of two values
abbrev pub pick : {V : Type 0} → Meaning V → V → V → V
pick m a b = cond (m.better b a) b a

-- the best of f 0, .., f (k - 1); none if k is 0
abbrev pub best_below : {V : Type 0} → Meaning V → ℕ → (ℕ → V) → V
best_below m zero f = m.none
best_below m (suc k) f = pick m (best_below m k f) (f k)

-- some number below k passes the test
abbrev pub any_below : ℕ → (ℕ → Bool) → Bool
any_below zero p = false
any_below (suc k) p = p k || any_below k p
