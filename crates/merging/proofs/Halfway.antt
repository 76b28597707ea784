-- The state of a merge in place, from its start through each entry that it writes to its end.
use Rattle.std.proofs.Common.{◌≡◌, ℕ, ◌+◌, ◌-◌, ◌<◌, ◌≤◌, ◌⊎◌, List, ◌∷◌, ◌++◌, length, get_or, take, drop, set, sym, refl, ap, ◌∙◌, subst, ⊎_elim, arith}
use lib.Seq.{take-set-lt}
use Rattle.std.proofs.lemmas.List.{drop_all, drop-set, drop-set-lt, get_or_default, get_or-take, length-set, length-take-le, take-append-drop, take-set-le, take-take}
use Rattle.theory.specs.declared.Entry.{Entry}
use Rattle.theory.specs.Order.{key_of}
use Rattle.merging.specs.Merging.{Mergeable, Merged}
use Rattle.merging.proofs.Mixing.{Mix, mix_length, mix_either, mix_first, mix_swap, mix_front, rises_append, rises_take, under_take, under_last, Written, written_swap, written_none, written_more}

-- what is left of the first m places from p on, after a write at p
pub suffix_set : {X : Type 0} (m p q : ℕ) (ts : List X) (v : X) → p + 1 ≡ q → p < m → m ≤ length ts → drop p (take m (set ts p v)) ≡ v ∷ drop q (take m ts)
suffix_set {X} m p q ts v e l h =
    ap (λ (s : List X). drop p s) (take-set-lt m ts p v l)
    ∙ drop-set (take m ts) p v (omega (arith, length-take-le m ts h))
    ∙ ap (λ (n : ℕ). v ∷ drop n (take m ts)) e

-- fewer of two equal fronts
pub take_fewer : {X : Type 0} (p i : ℕ) (ss ts : List X) → p ≤ i → take i ss ≡ take i ts → take p ss ≡ take p ts
take_fewer p i ss ts l e = sym (take-take p i ss l) ∙ ap (take p) e ∙ take-take p i ts l

-- an element of two lists with equal fronts
pub get_or_front : {X : Type 0} (p i : ℕ) (ss ts : List X) (d : X) → p < i → take i ss ≡ take i ts → get_or ss p d ≡ get_or ts p d
get_or_front {X} p i ss ts d l e = sym (get_or-take i ss p d l) ∙ ap (λ (us : List X). get_or us p d) e ∙ get_or-take i ts p d l

-- the last of the front of a run, and the front without it
pub last_left : {X : Type 0} (ys zs : List X) (y : X) → zs ≡ take (length zs) ys → 0 < length zs → y ≡ get_or zs (length zs - 1) y → y ≡ get_or ys (length zs - 1) y
last_left {X} ys zs y e l h = h ∙ ap (λ (us : List X). get_or us (length zs - 1) y) e ∙ get_or-take (length zs) ys (length zs - 1) y (omega arith)

pub fewer_left : {X : Type 0} (ys zs : List X) → zs ≡ take (length zs) ys → take (length zs - 1) zs ≡ take (length (take (length zs - 1) zs)) ys
fewer_left {X} ys zs e =
    ap (λ (us : List X). take (length zs - 1) us) e ∙ take-take (length zs - 1) (length zs) ys (omega arith)
    ∙ ap (λ (k : ℕ). take k ys) (sym (length-take-le (length zs - 1) zs (omega arith)))

-- the first i of the n entries of the table `old` and the first j of the run ys are still to come; ts is the table as it stands
pub record Halfway {V : Type 0} (old : List (Entry V)) (n : ℕ) (ys : List (Entry V)) (i j : ℕ) (ts : List (Entry V)) : Type 0 where
  pub room : n + length ys ≤ length old
  pub first_within : i ≤ n
  pub second_within : j ≤ length ys
  pub places : length ts ≡ length old
  pub front : take i ts ≡ take i old
  pub rest : drop (n + length ys) ts ≡ drop (n + length ys) old
  pub written : Mergeable (take n old) ys → Written key_of (take n old) ys i j (drop (i + j) (take (n + length ys) ts))

-- the place to be written next, before those that are written
pub place_last : {X : Type 0} (zs : List X) (i : ℕ) → 0 < length zs → i + length (take (length zs - 1) zs) + 1 ≡ i + length zs
place_last zs i l = omega (arith, length-take-le (length zs - 1) zs (omega arith))

pub place_within : {V : Type 0} {old : List (Entry V)} {n i : ℕ} {ys ts : List (Entry V)} (zs : List (Entry V)) → Halfway old n ys i (length zs) ts → 0 < length zs → i + length (take (length zs - 1) zs) < length old
place_within zs h l = omega (arith, h.room, h.first_within, h.second_within, length-take-le (length zs - 1) zs (omega arith))

-- the start
pub halfway_none : {V : Type 0} (old : List (Entry V)) (n : ℕ) (ys : List (Entry V)) → n + length ys ≤ length old → Halfway old n ys n (length ys) old
halfway_none {V} old n ys h = record {
  room = h;
  first_within = omega arith;
  second_within = omega arith;
  places = refl;
  front = refl;
  rest = refl;
  written = λ m. subst (λ (zs : List (Entry V)). Written key_of (take n old) ys n (length ys) zs)
      (sym (drop_all (n + length ys) (take (n + length ys) old) (omega (arith, length-take-le (n + length ys) old h))))
      (written_none key_of (take n old) ys n (length ys) (omega (arith, length-take-le n old (omega arith))) (omega arith));
}

-- the run is used up: what is left of the first list stands before what is written
merged_all : {V : Type 0} (xs ys : List (Entry V)) (i : ℕ) (zs : List (Entry V)) → i ≤ length xs → Mergeable xs ys → Written key_of xs ys i 0 zs → Merged xs ys (take i xs ++ zs)
merged_all {V} xs ys i zs l m w = record {
  rises = rises_append key_of (take i xs) zs (rises_take key_of xs i l m.first_rises) w.rises (under_take key_of xs zs i l w.under_first);
  size = mix_length mix;
  from_either = λ e. mix_either e mix;
  has_first = λ e. mix_first e mix;
  has_second = λ e. mix_first e (mix_swap mix);
}
  where
    mix : Mix xs ys (take i xs ++ zs)
    mix = subst (λ (us : List (Entry V)). Mix us ys (take i xs ++ zs)) (take-append-drop i xs) (mix_front (take i xs) w.mix)

-- at most and not equal is below
strictly : (a b : ℕ) → a ≤ b → (a ≡ b → ⊥) → a < b
strictly a b p q = omega arith

module _ {V : Type 0} (old : List (Entry V)) (n : ℕ) (ys : List (Entry V)) (i j : ℕ) (ts : List (Entry V)) (h : Halfway old n ys i j ts) where
  -- the last entry of the table that is still to come
  here : (d : Entry V) → 0 < i → get_or ts (i - 1) d ≡ get_or (take n old) (i - 1) d
  here d p = get_or_front (i - 1) i ts old d (omega arith) h.front ∙ sym (get_or-take n old (i - 1) d (omega (arith, h.first_within)))

  -- the table after a write at p, the place before those that are written
  module _ (i' j' p : ℕ) (v : Entry V) (less : i' + j' ≡ p) (one : p + 1 ≡ i + j) (i'≤i : i' ≤ i) (j'≤j : j' ≤ j) where
    turn : (Mergeable (take n old) ys → Written key_of (take n old) ys i j (drop (i + j) (take (n + length ys) ts)) → Written key_of (take n old) ys i' j' (v ∷ drop (i + j) (take (n + length ys) ts))) → Halfway old n ys i' j' (set ts p v)
    turn w =
        let low : p < n + length ys = omega arith in
        let far : n + length ys ≤ length ts = omega arith in
        record {
          room = h.room;
          first_within = omega arith;
          second_within = omega arith;
          places = length-set ts p v ∙ h.places;
          front = take-set-le i' ts p v (omega arith) ∙ take_fewer i' i ts old i'≤i h.front;
          rest = drop-set-lt (n + length ys) ts p v low ∙ h.rest;
          written = λ m. subst (λ (zs : List (Entry V)). Written key_of (take n old) ys i' j' zs)
              (sym (ap (λ (q : ℕ). drop q (take (n + length ys) (set ts p v))) less ∙ suffix_set (n + length ys) p (i + j) ts v one low far))
              (w m (h.written m));
        }

  -- one turn: the entry of the table is written
  pub halfway_first : (p : ℕ) (x y d : Entry V) → p + 1 ≡ i + j → 0 < i → 0 < j → y ≡ get_or ys (j - 1) y → key_of y < key_of (get_or ts (i - 1) d) → Halfway old n ys (i - 1) j (set ts p (get_or ts (i - 1) x))
  halfway_first p x y d one q r f l =
      turn (i - 1) j p v (omega arith) one (omega arith) (omega arith)
      (λ m w. written_more key_of (take n old) ys i j (i - 1) v _ (omega arith) (omega (arith, length-take-le n old (omega arith))) (same v ∙ here v q) m.first_rises (below m) w)
    where
      v : Entry V
      v = get_or ts (i - 1) x

      same : (e : Entry V) → v ≡ get_or ts (i - 1) e
      same e = get_or_default ts (i - 1) x e (omega arith)

      below : Mergeable (take n old) ys → (b : ℕ) (t : Entry V) → b < j → key_of (get_or ys b t) < key_of v
      below m b t s =
          under_last key_of ys (j - 1) (key_of v) y m.second_rises (omega (arith, h.second_within))
          (omega (arith, ap key_of f, ap key_of (same d))) b t (omega arith)

  -- one turn: the entry of the run is written
  pub halfway_second : (p k : ℕ) (y : Entry V) → p + 1 ≡ i + j → k + 1 ≡ j → y ≡ get_or ys k y → (i ≡ 0) ⊎ ((d : Entry V) × (key_of (get_or ts (i - 1) d) ≤ key_of y)) → Halfway old n ys i k (set ts p y)
  halfway_second p k y one q f l =
      turn i k p y (omega arith) one (omega arith) (omega arith)
      (λ m w. written_swap key_of ys (take n old) k i _ (written_more key_of ys (take n old) j i k y _ q (omega (arith, h.second_within)) f m.second_rises (below m) (written_swap key_of (take n old) ys i j _ w)))
    where
      below : Mergeable (take n old) ys → (b : ℕ) (d : Entry V) → b < i → key_of (get_or (take n old) b d) < key_of y
      below m b d s =
          ⊎_elim
          (λ (none : i ≡ 0). absurd (omega arith))
          (λ (t : (d : Entry V) × (key_of (get_or ts (i - 1) d) ≤ key_of y)).
          let at : get_or ts (i - 1) t.0 ≡ get_or (take n old) (i - 1) t.0 = here t.0 (omega arith) in
          let p : i - 1 < length (take n old) = omega (arith, length-take-le n old (omega arith)) in
          let r : k < length ys = omega (arith, h.second_within) in
          under_last key_of (take n old) (i - 1) (key_of y) t.0 m.first_rises p
          (strictly (key_of (get_or (take n old) (i - 1) t.0)) (key_of y)
          (subst (λ (x : Entry V). key_of x ≤ key_of y) at t.1)
          (λ same. m.apart (i - 1) k t.0 p r (same ∙ ap key_of (f ∙ get_or_default ys k y t.0 r))))
          b d (omega arith))
          l

  -- the end
  pub halfway_all : j ≡ 0 → Mergeable (take n old) ys → Merged (take n old) ys (take (n + length ys) ts)
  halfway_all z m =
      subst (λ (zs : List (Entry V)). Merged (take n old) ys zs) (sym split)
      (merged_all (take n old) ys i (drop i (take (n + length ys) ts)) (omega (arith, length-take-le n old (omega arith))) m
      (subst (λ (q : ℕ). Written key_of (take n old) ys i 0 (drop q (take (n + length ys) ts))) (let e : i + 0 ≡ i = omega arith in e)
      (subst (λ (q : ℕ). Written key_of (take n old) ys i q (drop (i + q) (take (n + length ys) ts))) z (h.written m))))
    where
      split : take (n + length ys) ts ≡ take i (take n old) ++ drop i (take (n + length ys) ts)
      split =
          sym (take-append-drop i (take (n + length ys) ts))
          ∙ ap (λ (us : List (Entry V)). us ++ drop i (take (n + length ys) ts))
          (take-take i (n + length ys) ts (omega (arith, h.first_within)) ∙ h.front ∙ sym (take-take i n old h.first_within))
