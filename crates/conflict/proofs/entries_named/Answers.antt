-- `conflict::entries_named` meets its contract: one of the first n entries is named.
use Rattle.std.proofs.Common.{rules, ◌∙◌, refl}
use Rattle.std.proofs.lemmas.Iterator.{YieldsList-from_range}
use Rattle.std.proofs.lemmas.Iterator.Search.{any_from_yields_List}
use Rattle.rules.specs.Commit.{hits}
use Rattle.tables.specs.Meaning.{change_at, entry_at}
use Rattle.tables.specs.Stretch.{stretch}
use Rattle.conflict.proofs.ClashLaws.{some-any}
use Rattle.conflict.proofs.entries_named.Goals as goal

pub returns : goal.returns
returns c =
    let hit = hits (stretch (change_at c.args.changes.now) c.args.from c.args.to) in
    any_from_yields_List (λ i. hit (entry_at c.args.s i)) _ _ _ c.any.ensures.ran
    (YieldsList-from_range 0 c.args.n _ (cc) refl) (λ x b q h. search rules)
    ∙ some-any hit (entry_at c.args.s) _ 0 c.args.n refl
