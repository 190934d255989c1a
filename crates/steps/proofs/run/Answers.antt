-- `run` meets its contract: at the loop's head, the bytes that the reads gave are gone through.
use mathlib.Core.Path.{refl, ◌∙◌}
use mathlib.Core.Bool.{false}
use mathlib.Core.List.{[]}
use native.Mathlib.Omega.{arith}
use Rattle.std.proofs.lemmas.Result.{err_from_is_err_and}
use Rattle.steps.proofs.ProgramLaws.{read_none, read-end, read_more, read-over}
use Rattle.steps.proofs.run.Goals as goal

pub loop-init : goal.loop-init
loop-init c = read_none _ c.requires.2

pub returns-in_err-n : goal.returns-in_err-n
returns-in_err-n c =
    let g = c.loop.invariant in
    let p = err_from_is_err_and c.from_residual.result c.from_residual.ensures.1 in
    rw p.1
    (read_more g refl (read-end [] 0 _ _ (omega (arith, g.through.fits, g.through.pending-room)) c.in_err-n.ensures.watch-is refl))

pub returns-then-n-eq0 : goal.returns-then-n-eq0
returns-then-n-eq0 c =
    let g = c.loop.invariant in
    read_more g refl (read-end _ _ _ _ (omega (arith, g.through.fits, g.through.pending-room)) c.in_ok-n.ensures.watch-is (omega arith))

pub returns-in_err-whole : goal.returns-in_err-whole
returns-in_err-whole c =
    let p = err_from_is_err_and c.from_residual-in_err-whole.result c.from_residual-in_err-whole.ensures.1 in
    let w = c.in_err-whole.ensures in
    rw p.1 (read_more c.loop.invariant refl record { bytes = _; heard-is = w.heard_value ∙ c.in_ok-n.ensures.watch-is; through = w.through })

pub loop-preserved : goal.loop-preserved
loop-preserved c =
    let w = c.in_ok-whole.ensures in
    read_more c.loop.invariant refl record { bytes = _; heard-is = w.heard_value ∙ c.in_ok-n.ensures.watch-is; through = w.through }

pub returns : goal.returns
returns c = read-over false c.loop.invariant
