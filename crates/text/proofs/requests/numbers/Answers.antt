-- `text::requests::numbers` meets its contract: what is found and what is still to come make the whole.
use Rattle.std.proofs.Common.{sym, ◌∙◌, arith, rules, length-set}
use lib.ListN.{length-replicate}
use Rattle.text.proofs.RequestLaws.{numbers-none, number-within, number-next, number-stuck, numbers-over, numbers-all}
use Rattle.text.proofs.requests.numbers.Goals as goal

pub loop-i-init : goal.loop-i-init
loop-i-init g c = (search rules, length-replicate g.row.N 0, numbers-none _ _ _ _)

pub returns-in_err-field : goal.returns-in_err-field
returns-in_err-field g c =
    c.from_residual.ensures
    ∙ number-stuck _ _ _ _ _ _ c.loop-i.invariant.2 (sym c.in_err-field.was ∙ c.number_at.ensures) c.loop-i-test.true

pub loop-i-preserved : goal.loop-i-preserved
loop-i-preserved g c =
    let v = c.loop-i.invariant in
    let e = sym c.in_ok-field.was ∙ c.number_at.ensures in
    (number-within _ _ _ _ _ _ v.2 _ e, length-set _ _ _ ∙ v.1, number-next _ _ _ _ _ _ v.2 _ e (omega arith))

pub returns-then-next-line : goal.returns-then-next-line
returns-then-next-line g c = numbers-over _ _ _ _ _ _ c.loop-i.invariant.2 (omega arith) c.if-next-line.true

pub returns : goal.returns
returns g c = numbers-all _ _ _ _ _ _ c.loop-i.invariant.2 (omega arith) c.loop-i.invariant.1 c.if-next-line.false
