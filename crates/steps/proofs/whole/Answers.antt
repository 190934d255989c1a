-- `whole` meets its contract: at the loop's head, the lines done so far are the first of the chunk's, and their answers were handed over.
use mathlib.Core.Path.{refl, sym}
use mathlib.Core.Bool.{true≢false}
use borrow.Author.Rules.{rules}
use Rattle.std.proofs.lemmas.Result.{err_from_is_err_and}
use Rattle.steps.proofs.ProgramLaws.{along-none, along-more, along-through}
use Rattle.steps.proofs.whole.Goals as goal

pub loop-next-init : goal.loop-next-init
loop-next-init c = (along-none _ _ _ _ _ c.requires.2, refl)

pub loop-next-preserved : goal.loop-next-preserved
loop-next-preserved c =
    let g = c.loop-next.invariant in
    (along-more g.0 refl c.answer-after.ensures (search rules), g.1)

pub returns-in_err-write-clause-through : goal.returns-in_err-write-clause-through
returns-in_err-write-clause-through c =
    let p = err_from_is_err_and c.from_residual.result c.from_residual.ensures.1 in
    rw p.1
    (along-through (along-more c.loop-next.invariant.0 refl c.answer-after.ensures c.in_err-write.ensures) (λ e. absurd (true≢false (sym e))))

pub returns-clause-through : goal.returns-clause-through
returns-clause-through c = along-through c.loop-next.invariant.0 (λ w. c.loop-next-test.false)
