-- `with_seen` meets its contract: `1 << k` is 2 ^ k.
use Prim.Native.Nat.{◌%◌}
use native.Mathlib.Omega.{arith}
use Rattle.bits.specs.Bit.{set_bit}
use Rattle.bits.proofs.BitLaws.{one_shl}
use Rattle.session_damage.proofs.with_seen.Goals as goal

pub returns : goal.returns
unfolding set_bit
returns c = rw (one_shl 64 (c.args.row % 64) (omega arith))
