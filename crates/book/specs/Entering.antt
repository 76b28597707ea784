-- What an enter gives, before the register is asked for a place.
use Rattle.std.specs.Prelude.{◌≡◌, ℕ, true, cond, length, Some, None, Option, nat_le}
use Rattle.theory.specs.declared.Redraw.{Redraw}
use Rattle.theory.specs.declared.Refusal.{Refusal}
use Rattle.theory.specs.declared.Refusal.TheVariants.{RegisterFull}
use Rattle.theory.specs.Chains.{fits}
use Rattle.theory.specs.Books.{View, enter_refusal, redraw}

-- the register has no place left
abbrev pub full_refusal : {M : Type 0} → View M → Option Refusal
full_refusal v = cond (nat_le v.register_places (length v.redraws)) (Some RegisterFull) None

-- the redraw r is what the enter gives, it fits the sheets, and only a full register can still refuse it
pub record Admitted {M : Type 0} (v : View M) (from to minutes grade : ℕ) (r : Redraw) : Type 0 where
  pub redraw_is : r ≡ redraw from to minutes grade
  pub is_fit : fits v.sheets r ≡ true
  pub only_full : enter_refusal v from to minutes grade ≡ full_refusal v
