-- Bytes that go by one after another, and a watch on one of them. A contract that holds for every place watched says which bytes went by,
-- how many, and in which order (`proofs/WatchLaws.antt`, `same_bytes`), where the code that lets them go by keeps none of them.
use Rattle.std.specs.Prelude.{List, [], ◌∷◌, ℕ, zero, suc}
use Rattle.ends.specs.declared.watch.Watch.{Watch}
use Rattle.ends.specs.declared.watch.Watch.TheVariants.{Until, Seen}

-- a watch on byte number `place`, from 0, before any byte
unfoldable pub fresh : ℕ → Watch
fresh place = Until place

-- a byte goes by: once the watched one is past, nothing changes
unfoldable pub watched_one : Watch → ℕ → Watch
watched_one (Until zero) b = Seen b
watched_one (Until (suc n)) b = Until n
watched_one (Seen s) b = Seen s

-- some bytes go by
unfoldable pub watched : Watch → List ℕ → Watch
watched w [] = w
watched w (b ∷ bs) = watched (watched_one w b) bs
