use Rattle.std.proofs.Common.{◌≡◌, ◌-◌, ◌<◌, ◌≤◌, length, get_or, sym, subst, ◌∙◌, arith, false-eqb}
use Rattle.std.specs.Result.{OkIff}
use Rattle.words.specs.Numbers.{value}
use Rattle.words.proofs.Reading.{digits_more, digits_fail, digits_all, value_more, value_all, value_bound, number_none_digit, number_fits}
use Rattle.words.proofs.numbers.number.Goals as goal

pub returns-then-not-is_ascii_digit : goal.returns-then-not-is_ascii_digit
returns-then-not-is_ascii_digit c =
    number_none_digit c.args.digits.now
    (digits_fail c.args.digits.now c.loop-digit.digit-index c.loop-digit-test.true (sym c.if-not-is_ascii_digit.ensures.value) c.loop-digit.invariant.1)

pub loop-digit-preserved : goal.loop-digit-preserved
loop-digit-preserved c =
    let ds = c.args.digits.now in
    let i = c.loop-digit.digit-index in
    let inside = c.loop-digit-test.true in
    let small : get_or ds i 0 - 48 < 10 = omega (arith, c.if-not-is_ascii_digit.ensures.cases) in
    simp c.from.ensures
    (value_more ds i inside c.loop-digit.value c.loop-digit.invariant.0, digits_more ds i inside (sym c.if-not-is_ascii_digit.ensures.value) c.loop-digit.invariant.1, value_bound c.loop-digit.value (get_or ds i 0 - 48) i c.loop-digit.invariant.2 small)

pub returns : goal.returns
returns c =
    let ds = c.args.digits.now in
    let same : c.loop-digit.value ≡ value ds = value_all _ _ _ c.loop-digit-test.false c.loop-digit.invariant.0 in
    let some : 1 ≤ length ds = omega (arith, false-eqb (length ds) 0 c.if-is_empty.ensures) in
    c.ok.ensures.value
    ∙ number_fits ds c.try_from.result (subst (λ n. OkIff c.try_from.result (n < 4294967296) n) same c.try_from.ensures) some (omega arith) (digits_all _ _ c.loop-digit-test.false c.loop-digit.invariant.1)
