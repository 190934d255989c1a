-- `fields::number_from` meets its contract: the whole answer is that from each place on, with the digits so far.
use native.Mathlib.Omega.{arith}
use lib.ListN.{get_or}
use Rattle.fields.proofs.NumberLaws.{on-end, on-space, on-full, on-bad, on_step, first-bad, first-digit}
use Rattle.fields.proofs.NumberLaws.{digit-yes, digit-high, most-first, most_step, most-le}
use Rattle.fields.proofs.number_from.Goals as goal

pub returns-then-not-is_ascii_digit : goal.returns-then-not-is_ascii_digit
returns-then-not-is_ascii_digit c = search first-bad

pub loop-i-init : goal.loop-i-init
loop-i-init c = (omega arith, search most-first, search first-digit)

pub returns-then-b-eq32 : goal.returns-then-b-eq32
returns-then-b-eq32 c = search on-space

pub returns-then-left-eq0 : goal.returns-then-left-eq0
returns-then-left-eq0 c = search on-full

pub returns-then-not-is_ascii_digit-2 : goal.returns-then-not-is_ascii_digit-2
returns-then-not-is_ascii_digit-2 c = search on-bad

pub overflow_mul-value : goal.overflow_mul-value
overflow_mul-value c = omega (arith, most-le _ _ c.loop-i.invariant.1)

pub overflow_add-value : goal.overflow_add-value
overflow_add-value c =
    let l = most-le _ _ c.loop-i.invariant.1 in
    let b = get_or c.args.line.now c.loop-i.i 0 in
    omega (arith, l, digit-high b (digit-yes b _ c.is_ascii_digit-in-loop-i.ensures.value c.if-not-is_ascii_digit-2.false))

pub loop-i-preserved : goal.loop-i-preserved
loop-i-preserved c = (omega arith, search most_step, search on_step)

pub returns : goal.returns
returns c = on-end _ _ _ _ _ c.loop-i.invariant.2 (omega arith) (omega arith)
