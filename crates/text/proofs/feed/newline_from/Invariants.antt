-- `text::feed::newline_from` meets its contract: the end is the same from each place that was passed.
use Rattle.std.proofs.Common.{◌≡◌}
use Rattle.fields.specs.Split.{newline}
use Rattle.fields.specs.Places.{end_at}
use Rattle.text.proofs.feed.newline_from.Given as goal

abbrev pub invariant-loop-i : goal.invariant-loop-i
invariant-loop-i l = end_at newline l.bytes l.from ≡ end_at newline l.bytes l.i
