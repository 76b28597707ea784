-- What a line is read as, once its first word is known and the words after it make a command.
use Rattle.std.proofs.Common.{◌≡◌, ℕ, ◌<◌, Bool, true, false, cond, not, List, length, get_or, Some, None, Ok, Err, Option, Result, sym, refl, ap, ◌∙◌}
use mathlib.Core.Bool.{beq}
use Rattle.std.specs.List.{between}
use Rattle.std.specs.Option.{ok_or}
use Rattle.std.proofs.lemmas.Slice.{first_rest}
use Rattle.std.proofs.lemmas.Bool.{cond-true, cond-false}
use Rattle.orders.specs.declared.commands.Command.{Command}
use Rattle.orders.specs.declared.refusals.LineRefusal.{LineRefusal}
use Rattle.orders.specs.declared.refusals.LineRefusal.TheVariants as refusal
use Rattle.orders.specs.declared.vocabulary.FirstWord.{FirstWord}
use Rattle.words.specs.declared.split.Place.{Place}
use Rattle.orders.specs.Commands.{command_with, command_at, faulty_from, out_of_turn, read_numbers, read_rest, read_as}
use Rattle.words.specs.Tokens.{word_at}
use Rattle.orders.specs.Vocabulary.{begins_book, named_by}

turn : (a b : Bool) → beq a b ≡ cond a b (not b)
turn true true = refl
turn true false = refl
turn false true = refl
turn false false = refl

-- a line is out of turn if it opens a book just where one is open
turn_is : (opened b : Bool) (w : FirstWord) → b ≡ begins_book w → beq opened b ≡ out_of_turn opened w
turn_is opened b w e = ap (beq opened) e ∙ turn opened (begins_book w)

-- a first word that is taken as one is there
known : (o : Option FirstWord) (w : FirstWord) (e : LineRefusal) → Ok w ≡ ok_or o e → Some w ≡ o
known (Some v) w e h = cc
known None w e h = cc

-- what was read without regard to its turn, in its turn or out of it
in_turn : Bool → FirstWord → Result Command LineRefusal → Result Command LineRefusal
in_turn opened w (Err e) = Err e
in_turn opened w (Ok c) = cond (out_of_turn opened w) (Err refusal.Opening) (Ok c)

either_turn : (line : List ℕ) (rest : List Place) (opened : Bool) (w : FirstWord) (b : Bool) (f : Option ℕ) → cond b (read_numbers line rest opened w f) (Err refusal.WordCount) ≡ in_turn opened w (cond b (command_with line w rest f) (Err refusal.WordCount))
unfolding in_turn
either_turn line rest opened w true (Some n) = refl
either_turn line rest opened w true None = refl
either_turn line rest opened w false f = refl

module _ (line : List ℕ) (places : List Place) (d : Place) (opened : Bool) (some : 0 < length places) (o : Option FirstWord) (first : o ≡ named_by (word_at line (get_or places 0 d))) (w : FirstWord) (e : LineRefusal) (is : Ok w ≡ ok_or o e) where
  reads : read_as line places opened ≡ in_turn opened w (command_at line w (between 1 (length places) places))
  reads =
      ap (λ ps. read_as line ps opened) (first_rest places d some)
      ∙ (ap (read_rest line (between 1 (length places) places) opened) (sym (known o w e is ∙ first))
      ∙ either_turn line (between 1 (length places) places) opened w _ (faulty_from line 1 (between 1 (length places) places)))

  module _ (c : Command) (h : Ok c ≡ command_at line w (between 1 (length places) places)) (b : Bool) (opens : b ≡ begins_book w) where
    -- a command out of turn
    pub unturned : beq opened b ≡ true → Err refusal.Opening ≡ read_as line places opened
    unfolding in_turn
    unturned t = sym (cond-true _ (Err refusal.Opening) (Ok c) (sym (turn_is opened b w opens) ∙ t)) ∙ (ap (in_turn opened w) h ∙ sym reads)

    -- a command
    pub commanded : beq opened b ≡ false → Ok c ≡ read_as line places opened
    unfolding in_turn
    commanded t = sym (cond-false _ (Err refusal.Opening) (Ok c) (sym (turn_is opened b w opens) ∙ t)) ∙ (ap (in_turn opened w) h ∙ sym reads)
