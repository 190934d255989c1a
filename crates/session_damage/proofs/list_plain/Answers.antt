-- `list_plain` meets its contract: a fold that carries the bits that were seen.
use Rattle.session_damage.proofs.PlainLaws.{plain-none, plain_more}
use Rattle.session_damage.proofs.list_plain.Goals as goal

pub loop-i-init : goal.loop-i-init
loop-i-init c = search plain-none

pub loop-i-preserved : goal.loop-i-preserved
loop-i-preserved c = search plain_more
