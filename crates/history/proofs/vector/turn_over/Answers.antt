-- `history::turn_over` meets its contract.
use mathlib.Core.Path.{sym, ◌∙◌}
use lib.Seq.{length-take-le}
use Rattle.history.proofs.QueryLaws.{slot-length, turned}
use Rattle.history.proofs.vector.turn_over.Goals as goal

pub xor_into-requires : goal.xor_into-requires
xor_into-requires c =
    let long = sym (length-take-le 32 c.args.scratch.now c.requires.2) in
    (slot-length _ _ _ c.slot_words.ensures c.requires.0 c.requires.1 ∙ long, c.requires.3 ∙ long)

pub returns : goal.returns
returns c =
    turned _ _ _ c.slot_words.ensures c.requires.0 c.requires.1 _ _ _ (λ i. (c.type_inv.words i).fits) (λ i. (c.type_inv.mask i).fits)
    c.requires.3 c.xor_into.ensures
