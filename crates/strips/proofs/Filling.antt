-- What a closure that always answers the same fills a list with.
use Rattle.std.proofs.Common.{◌≡◌, ℕ, ◌-◌, min, List, [], ◌∷◌, ◌++◌, length, take, drop, replicate, refl, ap, ◌∙◌, subst, ap₂, append-nil, arith, length-drop, length-take}
use Rattle.std.proofs.lemmas.List.{drop_all}
use Rattle.std.specs.List.{FoldsTo}
use Rattle.strips.specs.Strips.{wiped}

-- each record that the calls answered is b, if a call of f answers b and leaves f
pub filled : {P A : Type 0} (R : P → A → P → Type 0) (f : P) (b : A) → ((x : A) (q : P) → R f x q → (x ≡ b) × (q ≡ f))
    → (xs : List A) (last : P) → FoldsTo R f xs last → xs ≡ replicate (length xs) b
filled R f b one [] last h = refl
filled R f b one (x ∷ xs) last h =
    let k = one x h.0 h.1 in
    ap₂ (λ y ys. y ∷ ys) k.0 (filled R f b one xs last (subst (λ p. FoldsTo R p xs last) k.1 h.2))

-- the places from one on, all made blank
pub end_wiped : {T : Type 0} (xs ys : List T) (from : ℕ) (b : T) → length ys ≡ length (take (length xs - from) (drop from xs)) → ys ≡ replicate (length ys) b
    → take from xs ++ (ys ++ drop (length xs - from) (drop from xs)) ≡ wiped xs from b
end_wiped xs ys from b long all =
    let left : length (drop from xs) ≡ length xs - from = length-drop from xs in
    let n : length ys ≡ length xs - from = long ∙ length-take (length xs - from) (drop from xs) ∙ (let h : min (length xs - from) (length (drop from xs)) ≡ length xs - from = omega arith in h) in
    let none : drop (length xs - from) (drop from xs) ≡ [] = drop_all (length xs - from) (drop from xs) (omega arith) in
    ap (λ zs. take from xs ++ (ys ++ zs)) none ∙ ap (λ zs. take from xs ++ zs) (append-nil ys ∙ all ∙ ap (λ k. replicate k b) n)
