-- Lemmas on lists whose places from some place on are made blank.

use Rattle.std.proofs.Common.{◌≡◌, ℕ, ◌+◌, ◌-◌, ◌<◌, ◌≤◌, List, ◌++◌, length, take, drop, set, replicate, sym, ap, ◌∙◌, ⊎_elim, append_assoc, append-nil, arith, length-append, length-take}
use lib.ListN.{length-replicate}
use Rattle.std.proofs.lemmas.List.{take_all, take_at, drop_at, length-take-le, length-set, drop-set-lt, drop-drop, drop-replicate, take-take, take-append-le, replicate-append-replicate}
use Rattle.std.proofs.lemmas.Bool.{cases_lt}
use Rattle.strips.specs.Strips.{wiped, Held}

-- wiping keeps the number of places
pub length_wiped : {T : Type 0} (cells : List T) (n : ℕ) (b : T) → length (wiped cells n b) ≡ length cells
length_wiped cells n b = simp (length-append, length-take, length-replicate) (omega arith)

-- wiping keeps what stands before it
pub take_wiped : {T : Type 0} (cells : List T) (n : ℕ) (b : T) → take n (wiped cells n b) ≡ take n cells
take_wiped cells n b =
    let past : length cells ≤ n → take n (wiped cells n b) ≡ take n cells =
    λ h. let z : length cells - n ≡ 0 = omega arith in
    let l : length (take n cells) ≤ n = simp length-take (omega arith) in
    rw (z, append-nil) (take_all n (take n cells) l) in
    ⊎_elim
    (λ h. take_at (take n cells) (replicate (length cells - n) b) n (length-take-le n cells (omega arith)))
    past
    (cases_lt n (length cells))

-- a wiped strip holds its blank
pub held_wiped : {T : Type 0} (cells : List T) (n : ℕ) (b : T) → n ≤ length cells → Held b (wiped cells n b) n
held_wiped cells n b h =
    (rw length_wiped h, drop_at (take n cells) (replicate (length cells - n) b) n (length-take-le n cells h) ∙ ap (λ j. replicate (j - n) b) (sym (length_wiped cells n b)))

-- a record put at the count keeps what a strip holds
pub held-push :
    {T : Type 0} (cells : List T) (count : ℕ) (x b : T) → count < length cells → Held b cells count → Held b (set cells count x) (count + 1)
held-push cells count x b lt h =
    let more : drop 1 (replicate (length cells - count) b) ≡ replicate (length cells - count - 1) b = drop-replicate 1 (length cells - count) b in
    let n : length cells - count - 1 ≡ length (set cells count x) - (count + 1) = simp length-set (omega arith) in
    let below : count < count + 1 = omega arith in
    (simp length-set (omega arith), drop-set-lt (count + 1) cells count x below ∙ sym (drop-drop 1 count cells) ∙ ap (drop 1) h.1 ∙ more ∙ ap (λ j. replicate j b) n)

-- the front made blank from a place on, before a rest that is blank already: every place from there on is blank
pub front-wiped :
    {T : Type 0} (cells front : List T) (from to : ℕ) (b : T) → from ≤ to → front ≡ wiped (take to cells) from b → Held b cells to → front ++ drop to cells ≡ wiped cells from b
front-wiped cells front from to b le is held =
    let within : to ≤ length cells = held.0 in
    let long : length (take to cells) - from ≡ to - from = let h = length-take to cells in omega arith in
    let all : (to - from) + (length cells - to) ≡ length cells - from = omega arith in
    ap (λ xs. xs ++ drop to cells) is
    ∙ ap (λ n. (take from (take to cells) ++ replicate n b) ++ drop to cells) long
    ∙ ap (λ xs. (xs ++ replicate (to - from) b) ++ drop to cells) (take-take from to cells (omega arith))
    ∙ append_assoc (take from cells) (replicate (to - from) b) (drop to cells)
    ∙ ap (λ xs. take from cells ++ (replicate (to - from) b ++ xs)) held.1
    ∙ ap (λ xs. take from cells ++ xs) (replicate-append-replicate (to - from) (length cells - to) b ∙ ap (λ n. replicate n b) all)

-- what stands before is kept
pub front_kept :
    {T : Type 0} (cells front : List T) (from to : ℕ) (b : T) → from ≤ to → to ≤ length cells → front ≡ wiped (take to cells) from b → take from (front ++ drop to cells) ≡ take from cells
front_kept cells front from to b le within is =
    let long : from ≤ length (take to cells) = let h = length-take to cells in omega arith in
    let n : from ≤ length (wiped (take to cells) from b) = let h = length_wiped (take to cells) from b in omega arith in
    ap (λ xs. take from (xs ++ drop to cells)) is ∙ take-append-le from (wiped (take to cells) from b) (drop to cells) n ∙ take_wiped (take to cells) from b ∙ take-take from to cells (omega arith)
