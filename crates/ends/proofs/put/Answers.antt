-- `put` meets its contract: a write that failed took no byte.
use mathlib.Core.Path.{refl}
use native.Mathlib.Omega.{arith}
use Rattle.std.proofs.lemmas.Result.{err_from_is_err_and}
use Rattle.ends.specs.Watch.{watched}
use Rattle.ends.proofs.put.Goals as goal

pub returns-in_err-n : goal.returns-in_err-n
unfolding watched
returns-in_err-n c =
    let p = err_from_is_err_and c.from_residual.result c.from_residual.ensures.1 in
    rw p.1 record { within = omega arith; watch-is = refl }
