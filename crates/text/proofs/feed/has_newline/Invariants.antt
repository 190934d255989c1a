-- `text::feed::has_newline` meets its contract.
use Rattle.std.proofs.Common.{◌≡◌, take}
use Rattle.fields.specs.Split.{newline}
use Rattle.text.specs.Feed.{has_byte}
use Rattle.text.proofs.feed.has_newline.Given as goal

abbrev pub invariant-loop-b : goal.invariant-loop-b
invariant-loop-b l = l.found ≡ has_byte newline (take l.b-index l.bytes)
