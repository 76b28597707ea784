-- One line more of a session, or of the lines before an opening.
use Rattle.std.proofs.Common.{◌≡◌, ℕ, ◌+◌, List, ◌∷◌, ◌++◌, None, Option, sym, refl, ap, ◌∙◌, arith}
use Rattle.std.proofs.lemmas.List.{append_assoc}
use Rattle.theory.specs.Measures.{Meaning}
use Rattle.theory.specs.Books.{View}
use Rattle.sessions.specs.declared.lines.Line.{Line}
use Rattle.sessions.specs.declared.serve.Opening.{Opening}
use Rattle.sessions.specs.InputLines.{ahead, NextLine}
use Rattle.sessions.specs.Serving.{LineServed, Served, waiting_text, LineAwaited, OpeningAwaited}

module _ {V : Type 0} {m : Meaning V} {shown : V → Option (List ℕ)} where
  -- a line and those that follow
  pub served_more : {number : ℕ} {all ls : List (List ℕ)} {line : List ℕ} {v w x : View V} {before mid after : List ℕ} → all ≡ line ∷ ls → LineServed m shown (number + 1) line v w before mid → Served m shown (number + 1) ls w x mid after → Served m shown number all v x before after
  served_more is one rest = record {
    readings = one.reading ∷ rest.readings;
    read = rw is (one.read, rest.read);
    leaves = grind (arith, one.leaves, rest.leaves);
    tells = λ text h. grind (arith, append_assoc, one.leaves, one.tells text h, rest.tells text h);
  }

-- whatever serves the lines that are left serves all
pub record ServesAll {V : Type 0} (m : Meaning V) (shown : V → Option (List ℕ)) (n₀ : ℕ) (ls₀ : List (List ℕ)) (v₀ : View V) (b₀ : List ℕ) (n : ℕ) (ls : List (List ℕ)) (v : View V) (b : List ℕ) : Type 0 where
  pub all : (w : View V) (after : List ℕ) → Served m shown n ls v w b after → Served m shown n₀ ls₀ v₀ w b₀ after

-- the same of the lines before an opening
pub record AwaitsAll (n₀ : ℕ) (ls₀ : List (List ℕ)) (b₀ : List ℕ) (n : ℕ) (ls : List (List ℕ)) (b : List ℕ) : Type 0 where
  pub all : (found : Option Opening) (rest : List (List ℕ)) (last : ℕ) (after : List ℕ) → OpeningAwaited n ls found rest last b after → OpeningAwaited n₀ ls₀ found rest last b₀ after

-- the line is no opening, and those that follow
pub awaited_more : {number last : ℕ} {all ls rest : List (List ℕ)} {line before mid after : List ℕ} {found : Option Opening} → all ≡ line ∷ ls → LineAwaited (number + 1) line None before mid → OpeningAwaited (number + 1) ls found rest last mid after → OpeningAwaited number all found rest last before after
awaited_more {number} is one onward = record {
  told = waiting_text (number + 1) one.reading ++ onward.told;
  awaited = rw is (one.reading, one.read, rw (← one.is) (onward.told, refl, onward.awaited));
  tells = grind (arith, append_assoc, one.tells, onward.tells);
}

-- the cursor gives a line: after it the cursor's number and its input are as they were counted and given
module _ {input input' : List ℕ} {place number place' number' : ℕ} {line : Line} (same : input' ≡ input) (next : NextLine input place number line place' number') where
  -- the line is the first of those that were ahead
  first : ahead input place ≡ line.text.now ∷ ahead input' place'
  first = next.first ∙ ap (λ bs. line.text.now ∷ ahead bs place') (sym same)

  -- a line more is served
  pub serves_more : {V : Type 0} {m : Meaning V} {shown : V → Option (List ℕ)} {n₀ : ℕ} {ls₀ : List (List ℕ)} {v₀ v w : View V} {b₀ b b' : List ℕ} → ServesAll m shown n₀ ls₀ v₀ b₀ number (ahead input place) v b → LineServed m shown line.number line.text.now v w b b' → ServesAll m shown n₀ ls₀ v₀ b₀ number' (ahead input' place') w b'
  serves_more old one = record {
    all = λ x after rest. old.all x after (served_more first (rw next.numbered at one) (rw next.counted at rest));
  }

  -- a line more is no opening
  pub awaits_more : {n₀ : ℕ} {ls₀ : List (List ℕ)} {b₀ b b' : List ℕ} → AwaitsAll n₀ ls₀ b₀ number (ahead input place) b → LineAwaited line.number line.text.now None b b' → AwaitsAll n₀ ls₀ b₀ number' (ahead input' place') b'
  awaits_more old one = record {
    all = λ found rest last after onward. old.all found rest last after (awaited_more first (rw next.numbered at one) (rw next.counted at onward));
  }
