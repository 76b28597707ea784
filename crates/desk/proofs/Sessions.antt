-- Every opening takes a line.
use Rattle.std.proofs.Common.{◌≡◌, ℕ, ◌+◌, ◌<◌, true, List, [], ◌∷◌, ◌++◌, length, Some, None, Option, Ok, Err, Result, sym, ap, subst, arith}
use Rattle.std.specs.Prelude.{MatchResult}
use Rattle.theory.specs.declared.Refusal.{Refusal}
use Rattle.theory.specs.Refusals.{refusal_number}
use Rattle.answers.specs.declared.Layer.TheVariants.{Book}
use Rattle.answers.specs.Printed.{refused_line}
use Rattle.sessions.specs.declared.serve.Opening.{Opening}
use Rattle.sessions.specs.Serving.{opening_of, waiting_text, Awaited, AwaitedBy, OpeningAwaited}
use Rattle.desk.specs.Desk.{opening_refusal, Opened, Session, never_opened, turned_away, served}

-- what is so where a result is taken, and where it is refused
pub where_ok : {X E : Type 0} (P : X → Type 0) (Q : E → Type 0) (r : Result X E) (x : X) → r ≡ Ok x → MatchResult r P Q → P x
where_ok P Q r x e = subst (λ s. MatchResult s P Q) e

pub where_err : {X E : Type 0} (P : X → Type 0) (Q : E → Type 0) (r : Result X E) (x : E) → r ≡ Err x → MatchResult r P Q → Q x
where_err P Q r x e = subst (λ s. MatchResult s P Q) e

none_some : {X : Type 0} (x : X) → ◌≡◌ {A = Option X} None (Some x) → ⊥
none_some x e = let z : ◌≡◌ {A = ℕ} 0 1 = cc in omega arith

shorter_by : (found : Option Opening) (number : ℕ) (ls : List (List ℕ)) (here : List ℕ) (onward : List ℕ → Type 0) (o : Opening) (rest : List (List ℕ)) (last : ℕ) (told : List ℕ)
    → ((more : List ℕ) → onward more → length rest < length ls) → AwaitedBy found number ls here onward (Some o) rest last told → length rest < length ls + 1
shorter_by (Some x) number ls here onward o rest last told h a = let e = ap length a.1 in omega arith
shorter_by None number ls here onward o rest last told h a = let l = h a.0 a.2 in omega arith

-- fewer lines are left after an opening
pub shorter : (lines : List (List ℕ)) (number : ℕ) (o : Opening) (rest : List (List ℕ)) (last : ℕ) (told : List ℕ) → Awaited number lines (Some o) rest last told → length rest < length lines
shorter [] number o rest last told a = absurd (none_some o (sym a.0))
shorter (l ∷ ls) number o rest last told a =
    let p = shorter_by (opening_of (number + 1) a.0) (number + 1) ls (waiting_text (number + 1) a.0) (λ more. Awaited (number + 1) ls (Some o) rest last more) o rest last told (λ more b. shorter ls (number + 1) o rest last more b) a.2 in
    omega arith

pub opening_takes_a_line : (number : ℕ) (lines : List (List ℕ)) (o : Opening) (rest : List (List ℕ)) (last : ℕ) (before after : List ℕ) → OpeningAwaited number lines (Some o) rest last before after → length rest < length lines
opening_takes_a_line number lines o rest last before after A = shorter lines number o rest last A.told A.awaited

-- the three ways on from an opening that was awaited, or not found
module _ (number : ℕ) (lines : List (List ℕ)) (found : Option Opening) (rest : List (List ℕ)) (last : ℕ) (before mid : List ℕ) (A : OpeningAwaited number lines found rest last before mid) where
  pub awaited_some : (o : Opening) → found ≡ Some o → OpeningAwaited number lines (Some o) rest last before mid
  awaited_some o e = subst (λ x. OpeningAwaited number lines x rest last before mid) e A

  pub session_none : found ≡ None → Session number lines before mid
  session_none e = never_opened number lines rest last before mid (subst (λ x. OpeningAwaited number lines x rest last before mid) e A)

  pub session_served : (o : Opening) → found ≡ Some o → (after : List ℕ) → Opened o last rest true mid after → Session number lines before after
  session_served o e after O = served number lines rest last o before mid after (awaited_some o e) O

  pub session_on : (o : Opening) → found ≡ Some o → (refusal : Refusal) → opening_refusal o.sheets ≡ Some refusal → (next : List ℕ) → next ≡ mid ++ refused_line o.number Book 0 (refusal_number refusal)
      → (number' : ℕ) (lines' : List (List ℕ)) → number' ≡ last → lines' ≡ rest → (after : List ℕ) → Session number' lines' next after → Session number lines before after
  session_on o e refusal r next printed number' lines' en el after S =
      turned_away number lines rest last o before mid next after (awaited_some o e) (refusal, r, printed)
      (subst (λ k. Session k rest next after) en (subst (λ xs. Session number' xs next after) el S))

  pub session_shorter : (o : Opening) → found ≡ Some o → (lines' : List (List ℕ)) → lines' ≡ rest → length lines' < length lines
  session_shorter o e lines' el = subst (λ xs. length xs < length lines) (sym el) (opening_takes_a_line number lines o rest last before mid (awaited_some o e))
