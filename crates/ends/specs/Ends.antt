-- What the code promises that reads and writes: which bytes were handed over, and which were given.
use Rattle.std.specs.Prelude.{◌≡◌, Bool, true, List, [], ◌++◌, ℕ, ◌≤◌, length, take}
use Rattle.ends.specs.declared.watch.Watch.{Watch}
use Rattle.ends.specs.declared.Told.{Told}
use Rattle.ends.specs.Watch.{watched}

-- one write took the first n of these bytes
pub record Put (bytes : List ℕ) (w : Watch) (n : ℕ) (w' : Watch) : Type 0 where
  pub within : n ≤ length bytes
  pub watch-is : w' ≡ watched w (take n bytes)

-- writes took the first of these bytes, one after another, and all where none failed
pub record Taken (bytes : List ℕ) (w w' : Watch) (well : Bool) : Type 0 where
  pub first : List ℕ
  pub rest : List ℕ
  pub bytes-are : bytes ≡ first ++ rest
  pub watch-is : w' ≡ watched w first
  pub all_first : well ≡ true → rest ≡ []

-- these bytes were handed to the writer, and the system took the first of them, all where no write failed
pub record Handed (bytes : List ℕ) (t t' : Told) (well : Bool) : Type 0 where
  pub handed-is : t'.handed ≡ watched t.handed bytes
  pub took : Taken bytes t.taken t'.taken well

-- a read gave the first n of these bytes
pub record Got (input : List ℕ) (w : Watch) (n : ℕ) (w' : Watch) : Type 0 where
  pub within : n ≤ length input
  pub counted : n ≡ length (take n input)
  pub watch-is : w' ≡ watched w (take n input)
