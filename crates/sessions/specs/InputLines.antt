-- The lines of an input. Byte 10 ends a line and belongs to none; the last line may lack it. Where nothing follows the last byte 10
-- there is no further line. A cursor stands at the place where the next line begins, with the number of the lines before it.
use Rattle.std.specs.Prelude.{◌≡◌, ℕ, ◌+◌, ◌<◌, ◌≤◌, cond, List, [], ◌∷◌, length, drop, Some, None, Option, ◌==◌, nat_lt}
use Rattle.std.specs.List.{between}
use Rattle.words.specs.Bytes.{NextAt}
use Rattle.sessions.specs.declared.lines.Line.{Line}

-- a byte more at the front of the first of the lines
abbrev pub lengthened : ℕ → List (List ℕ) → List (List ℕ)
lengthened b [] = (b ∷ []) ∷ []
lengthened b (l ∷ ls) = (b ∷ l) ∷ ls

-- the lines of the bytes
abbrev pub lines_of : List ℕ → List (List ℕ)
lines_of [] = []
lines_of (b ∷ bs) = cond (b == 10) ([] ∷ lines_of bs) (lengthened b (lines_of bs))

-- the lines of the input from the place on
abbrev pub ahead : List ℕ → ℕ → List (List ℕ)
ahead input place = lines_of (drop place input)

-- the place behind a line that ends at the place given
abbrev pub behind : List ℕ → ℕ → ℕ
behind input end = cond (nat_lt end (length input)) (end + 1) end

-- the line is the next one, up to the next byte 10, and the cursor moves behind it
pub record NextLine (input : List ℕ) (place number : ℕ) (line : Line) (place_after number_after : ℕ) : Type 0 where
  pub end : ℕ
  pub ends : NextAt input 10 place end
  pub cut : line.text.now ≡ between place end input
  pub numbered : line.number ≡ number + 1
  pub counted : number_after ≡ number + 1
  pub moved : place_after ≡ behind input end
  pub onward : place < place_after
  pub within : place_after ≤ length input
  pub first : ahead input place ≡ line.text.now ∷ ahead input place_after

-- no line is left, and the cursor stays
pub record NoLine (input : List ℕ) (place number : ℕ) (place_after number_after : ℕ) : Type 0 where
  pub past : length input ≤ place
  pub none : ahead input place ≡ []
  pub stays : place_after ≡ place
  pub counted : number_after ≡ number

-- what the cursor gives, and where it stands then
abbrev pub Gives : List ℕ → ℕ → ℕ → Option Line → ℕ → ℕ → Type 0
Gives input place number None p n = NoLine input place number p n
Gives input place number (Some line) p n = NextLine input place number line p n
