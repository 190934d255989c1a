-- A table of tests in which none holds.
use mathlib.Core.Path.{◌≡◌, refl}
use mathlib.Core.Bool.{Bool, true, false, cond}
use mathlib.Core.Option.{none, some, some-ne-none}
use mathlib.Core.List.{List, [], ◌∷◌}
use Rattle.rules.specs.Refusals.{Test, first_of, AllFail}

-- where no number is given, every test fails
pub all-fail : (ts : List Test) → first_of ts ≡ none → AllFail ts
all-fail [] e = tt
all-fail (t ∷ ts) e = go t.0 refl e (all-fail ts)
  where
    go : (b : Bool) → t.0 ≡ b → cond b (some t.1) (first_of ts) ≡ none → (first_of ts ≡ none → AllFail ts) → (t.0 ≡ false) × AllFail ts
    go true p q ih = absurd (some-ne-none t.1 q)
    go false p q ih = (p, ih q)

-- and the other way round
pub fail-all : (ts : List Test) → AllFail ts → first_of ts ≡ none
fail-all [] h = refl
fail-all (t ∷ ts) h = rw h.0 (fail-all ts h.1)
