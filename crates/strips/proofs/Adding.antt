-- Records written into a list from a place on, step by step.
use Rattle.std.proofs.Common.{◌≡◌, ℕ, ◌+◌, ◌<◌, ◌≤◌, Bool, true, false, cond, List, [], ◌∷◌, ◌++◌, length, set, ltb, Some, None, Ok, Err, Result, is_ok, sym, refl, ap, ◌∙◌, subst, arith}
use lib.Seq.{paste}
use Rattle.std.proofs.lemmas.Bool.{both_ways, ltb-true, ltb-false}
use Rattle.std.proofs.lemmas.List.{length-append}
use Rattle.std.proofs.lemmas.List.Edits.{paste_none, paste_more, paste-paste, length-paste}
use Rattle.strips.specs.declared.Strip.{Strip}
use Rattle.strips.specs.Strips.{Added, Lengthened, count_after}

-- the entries written so far, and those of one step more
pub added_more : {X : Type 0} (xs ys zs : List X) (place next after : ℕ) (es fs : List X)
    → Added xs place es (Some next) ys → Added ys next fs (Some after) zs → Added xs place (es ++ fs) (Some after) zs
added_more xs ys zs place next after es fs p q =
    let l : length (es ++ fs) ≡ length es + length fs = length-append es fs in
    let a : next ≡ place + length es = p.0 in
    let b : after ≡ next + length fs = q.0 in
    let n : next ≤ length xs = p.1 in
    let long : length ys ≡ length xs = ap length p.2 ∙ length-paste xs place es (length es) (omega arith) (omega arith) in
    let o : after ≤ length ys = q.1 in (
      omega arith,
      omega arith,
      q.2 ∙ ap (λ x. paste x next fs (length fs)) p.2 ∙ ap (λ x. paste (paste xs place es (length es)) x fs (length fs)) a
          ∙ paste-paste xs place es fs (length es) (length fs) refl refl (omega arith) ∙ ap (paste xs place (es ++ fs)) (sym l),
    )

pub added_stop : {X : Type 0} (xs ys zs : List X) (place next : ℕ) (es fs : List X)
    → Added xs place es (Some next) ys → length ys ≡ length xs → Added ys next fs None zs → length xs < place + length (es ++ fs)
added_stop xs ys zs place next es fs p long q =
    let l : length (es ++ fs) ≡ length es + length fs = length-append es fs in
    let a : next ≡ place + length es = p.0 in
    let b : length ys < next + length fs = q in
    omega arith

-- nothing to write
pub added_nothing : {X : Type 0} (xs : List X) (place : ℕ) → place ≤ length xs → Added xs place [] (Some place) xs
added_nothing xs place l = (omega arith, l, paste_none xs place [])

-- one entry to write, or none
pub added_none : {X : Type 0} (b : Bool) (e : X) (xs : List X) (place : ℕ) → b ≡ false → place ≤ length xs → Added xs place (cond b (e ∷ []) []) (Some place) xs
added_none true e xs place h l = absurd (both_ways true h refl)
added_none false e xs place h l = added_nothing xs place l

pub added_one : {X : Type 0} (b : Bool) (e : X) (xs : List X) (place : ℕ) → b ≡ true → place < length xs → Added xs place (cond b (e ∷ []) []) (Some (place + 1)) (set xs place e)
added_one true e xs place h l = (omega arith, omega arith, written)
  where
    step : set (paste xs place (e ∷ []) 0) (place + 0) e ≡ paste xs place (e ∷ []) (0 + 1)
    step = paste_more xs place (e ∷ []) 0 e (omega arith) (omega arith)

    written : set xs place e ≡ paste xs place (e ∷ []) 1
    written =
        let z : place + 0 ≡ place = omega arith in
        ap (λ x. set x place e) (paste_none xs place (e ∷ [])) ∙ ap (λ x. set (paste xs place (e ∷ []) 0) x e) (sym z) ∙ step
added_one false e xs place h l = absurd (both_ways false refl h)

pub added_full : {X : Type 0} (b : Bool) (e : X) (xs ys : List X) (place : ℕ) → b ≡ true → length xs ≤ place → Added xs place (cond b (e ∷ []) []) None ys
added_full true e xs ys place h l = omega arith
added_full false e xs ys place h l = absurd (both_ways false refl h)

-- no record put in, and more after others
pub lengthened_none : {T : Type 0} (s : Strip T) → Lengthened s s
lengthened_none s = record { same = refl; places = refl; held = λ b h. h }

pub lengthened_more : {T : Type 0} (s t u : Strip T) → Lengthened s t → Lengthened t u → Lengthened s u
lengthened_more s t u p q = record { same = q.same ∙ p.same; places = q.places ∙ p.places; held = λ b h. q.held b (p.held b h) }

-- one entry to write, pushed into a strip
pub added_push : {T E : Type 0} (b : Bool) (x : T) (s t : Strip T) (answer : Result (Unit {0}) E) → b ≡ true → is_ok answer ≡ ltb s.count (length s.cells.now)
    → t.cells.now ≡ set s.cells.now s.count x → t.count ≡ cond (is_ok answer) (s.count + 1) s.count → Added s.cells.now s.count (cond b (x ∷ []) []) (count_after answer t) t.cells.now
added_push {T} b x s t (Ok _) h is cells count =
    subst (λ (xs : List T). Added s.cells.now s.count (cond b (x ∷ []) []) (Some t.count) xs) (sym cells)
    (subst (λ n. Added s.cells.now s.count (cond b (x ∷ []) []) (Some n) (set s.cells.now s.count x)) (sym count)
    (added_one b x s.cells.now s.count h (ltb-true s.count (length s.cells.now) (sym is))))
added_push b x s t (Err _) h is cells count = added_full b x s.cells.now t.cells.now s.count h (ltb-false s.count (length s.cells.now) (sym is))
