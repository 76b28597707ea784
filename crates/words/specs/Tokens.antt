-- A line's words as tokens. A token is a part of its line: a number if there are digits (bytes 48 to 57) in it and nothing else, and a
-- name if not. A place that is not within the line has the empty name.
use Rattle.std.specs.Prelude.{◌≡◌, ℕ, Bool, true, false, cond, ◌&&◌, List, [], length, nat_le}
use Rattle.std.specs.List.{between}
use Rattle.std.specs.Str.{all_ascii_digits}
use Rattle.words.specs.declared.tokens.Token.{Token}
use Rattle.words.specs.declared.tokens.Token.TheVariants.{Name, Number}
use Rattle.words.specs.declared.split.Place.{Place}

-- the bytes of the line at the place, or none where the place is not within the line
abbrev pub word_at : List ℕ → Place → List ℕ
word_at line p = cond (nat_le p.start p.end && nat_le p.end (length line)) (between p.start p.end line) []

-- whether there are digits in the word, and nothing else
abbrev pub only_digits : List ℕ → Bool
only_digits word = nat_le 1 (length word) && all_ascii_digits word

-- the token holds the word, as what it is
abbrev pub TokenOf : List ℕ → Token → Type 0
TokenOf word (Name part) = (part.now ≡ word) × (only_digits word ≡ false)
TokenOf word (Number part) = (part.now ≡ word) × (only_digits word ≡ true)
