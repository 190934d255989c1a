-- `main` meets its contract: every table starts from zeros.
use Rattle.std.proofs.Common.{ap, replicate}
use mathlib.Core.Path.{refl}
use borrow.Author.Rules.{rules}
use Rattle.steps.specs.Program.{zeros}
use Rattle.steps.proofs.main.Goals as goal

pub program-requires : goal.program-requires
unfolding zeros
program-requires c = record {
  blank = record {
    clock-is = refl;
    slots-is = refl;
    words-is = refl;
    heads-is = refl;
    log_is = refl;
    changes-is = refl;
    scratch-is = refl;
  };
  free = ap (replicate 16) c.free_session-sessions.ensures;
  in_bounds = (search rules, search rules, search rules);
}
