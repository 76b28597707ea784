-- The laws of chain. None is settled by computing; of two or three chains the steps and grades are compared as numbers.
use Rattle.std.specs.Prelude.{◌≡◌, true, false, refl}
use Rattle.std.proofs.Common.{arith}
use Rattle.std.proofs.lemmas.Bool.Decides.{nat_tests}
use Rattle.theory.specs.Measures.{Lawful}
use Rattle.measures.specs.declared.chain.Chain.{Chain}
use Rattle.measures.specs.declared.chain.Chain.TheVariants.{None, Steps}
use Rattle.measures.specs.ChainMeaning.{chain_join, chain_better, chain_valid, chain_meaning}

-- two values joined give a value
join_valid : (a b : Chain) → chain_valid a ≡ true → chain_valid b ≡ true → chain_valid (chain_join a b) ≡ true
join_valid None b va vb = refl
join_valid (Steps s g) None va vb = refl
join_valid (Steps s g) (Steps t h) va vb = grind (arith, nat_tests)

-- of two values at most one is better
one_way : (a b : Chain) → chain_better a b ≡ true → chain_better b a ≡ false
one_way None None e = refl
one_way None (Steps t h) e = grind arith
one_way (Steps s g) None e = refl
one_way (Steps s g) (Steps t h) e = grind (arith, nat_tests)

-- not being worse carries over from value to value
carries : (a b c : Chain) → chain_better b a ≡ false → chain_better c b ≡ false → chain_better c a ≡ false
carries a b None p q = refl
carries None None (Steps u k) p q = q
carries None (Steps t h) (Steps u k) p q = grind arith
carries (Steps s g) None (Steps u k) p q = grind arith
carries (Steps s g) (Steps t h) (Steps u k) p q = grind (arith, nat_tests)

-- two values of which neither is better are the same
ties : (a b : Chain) → chain_better b a ≡ false → chain_better a b ≡ false → a ≡ b
ties None None p q = refl
ties None (Steps t h) p q = grind arith
ties (Steps s g) None p q = grind arith
ties (Steps s g) (Steps t h) p q = grind (arith, nat_tests)

-- joining is associative, too many steps included
associates : (a b c : Chain) → chain_join (chain_join a b) c ≡ chain_join a (chain_join b c)
associates None b c = refl
associates (Steps s g) None c = refl
associates (Steps s g) (Steps t h) None = grind (arith, nat_tests)
associates (Steps s g) (Steps t h) (Steps u k) = grind (arith, nat_tests)

-- the empty chain in front alters no value
after_empty : (a : Chain) → chain_valid a ≡ true → chain_join (Steps 0 5) a ≡ a
after_empty None v = refl
after_empty (Steps s g) v = grind (arith, nat_tests)

-- the empty chain at the end alters no value
before_empty : (a : Chain) → chain_valid a ≡ true → chain_join a (Steps 0 5) ≡ a
before_empty None v = refl
before_empty (Steps s g) v = grind (arith, nat_tests)

-- no value is better than the empty chain
empty_best : (a : Chain) → chain_valid a ≡ true → chain_better a (Steps 0 5) ≡ false
empty_best None v = refl
empty_best (Steps s g) v = grind (arith, nat_tests)

-- none at the end gives none
none_end : (a : Chain) → chain_join a None ≡ None
none_end None = refl
none_end (Steps s g) = refl

-- joining the same value at the end keeps the order
keeps : (a b c : Chain) → chain_better b a ≡ false → chain_better (chain_join b c) (chain_join a c) ≡ false
keeps a None c p = refl
keeps None (Steps t h) c p = grind arith
keeps (Steps s g) (Steps t h) None p = refl
keeps (Steps s g) (Steps t h) (Steps u k) p = grind (arith, nat_tests)

-- joining the same value in front keeps the order
keeps_front : (a b c : Chain) → chain_better b a ≡ false → chain_better (chain_join c b) (chain_join c a) ≡ false
keeps_front a b None p = refl
keeps_front a None (Steps u k) p = refl
keeps_front None (Steps t h) (Steps u k) p = grind arith
keeps_front (Steps s g) (Steps t h) (Steps u k) p = grind (arith, nat_tests)

-- chain is lawful
pub chain_lawful : Lawful chain_meaning
chain_lawful = record {
  redraw_is_value = λ r p. grind (arith, nat_tests);
  empty_is_value = refl;
  none_is_value = refl;
  join_is_value = join_valid;
  never_both_better = λ a b _ _. one_way a b;
  not_worse_carries = λ a b c _ _ _. carries a b c;
  tie_is_same = λ a b _ _. ties a b;
  join_associative = λ a b c _ _ _. associates a b c;
  empty_in_front = after_empty;
  empty_at_end = before_empty;
  empty_is_best = empty_best;
  none_is_worst = λ a _. refl;
  none_in_front = λ a _. refl;
  none_at_end = λ a _. none_end a;
  redraw_is_some = λ r p e. grind arith;
  join_keeps_order = λ a b c _ _ _. keeps a b c;
  join_keeps_order_in_front = λ a b c _ _ _. keeps_front a b c;
}
