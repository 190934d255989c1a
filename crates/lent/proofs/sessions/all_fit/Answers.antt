-- The answer so far goes on with the next place, and at the bound it is that of all sixteen.
use Rattle.std.proofs.Common.{◌≡◌, ◌∙◌, ◌&&◌, Bool, arith, ap}
use Rattle.lent.proofs.PlaceLaws.{fit_below, fit-none, fit-more, fit-all, too-short}
use Rattle.lent.proofs.sessions.all_fit.Goals as goal

pub loop-i-init : goal.loop-i-init
loop-i-init c = fit-none c.args.t.now c.args.log.now c.args.c

pub loop-i-preserved : goal.loop-i-preserved
loop-i-preserved c =
    ap (λ (b : Bool). c.loop-i.ok && b) c.session_fits-ok.ensures
    ∙ fit-more c.args.t.now c.args.log.now c.args.c _ _ _ c.loop-i.invariant (omega arith)

pub returns : goal.returns
returns c =
    let e : c.loop-i.i ≡ 16 = omega arith in
    fit-all c.args.t.now c.args.log.now c.args.c _ (c.loop-i.invariant ∙ ap (fit_below c.args.t.now c.args.log.now c.args.c) e) (omega arith)

pub returns-then-t-lt16 : goal.returns-then-t-lt16
returns-then-t-lt16 c = too-short c.args.t.now c.args.log.now c.args.c (omega arith)
