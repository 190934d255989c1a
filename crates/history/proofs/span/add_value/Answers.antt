-- `history::add_value` meets its contract.
use mathlib.Core.Path.{sym, ◌∙◌}
use Rattle.history.proofs.QueryLaws.{slot-length}
use Rattle.history.proofs.SpanLaws.{vec-long, value-merged}
use borrow.Author.Rules.{rules}
use Rattle.history.proofs.span.add_value.Goals as goal

pub merge-requires : goal.merge-requires
merge-requires c =
    let long = sym c.requires.0 in (
      slot-length _ _ _ c.slot_words-own.ensures c.base_of-base.ensures.0 c.requires.1.words-room ∙ long,
      vec-long _ _ c.flips-mask.ensures ∙ long,
    )

pub returns : goal.returns
returns c =
    value-merged _ _ _ _ _ _ _ _ _ _ _ _ _ (λ i. search rules) c.requires.0 (λ i. search rules) c.base_of-base.ensures.1 c.end_at.ensures
    c.flips-mask.ensures c.slot_words-own.ensures c.merge.ensures
