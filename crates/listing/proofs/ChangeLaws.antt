-- Update, delete and insert: what each end of their parts and of their cores comes to.
use Rattle.std.specs.Prelude as kit
use Rattle.std.specs.Prelude.{Result, Ok, Err}
use mathlib.Core.Path.{◌≡◌, refl, sym, ◌∙◌}
use mathlib.Core.Bool.{true, false, and-true, and-false}
use mathlib.Core.Option.{Option}
use mathlib.Core.List.{List, []}
use Prim.Native.Nat.{ℕ, ◌+◌, ◌≤◌, ◌<◌}
use native.Mathlib.Omega.{arith}
use borrow.Author.Tests.{le-leb, lt-leb, lt-ltb, le-ltb}
use lib.ListN.{length, get_or}
use Rattle.rules.specs.Limits.{max_entries}
use Rattle.rules.specs.Lists.{target, standing}
use Rattle.rules.specs.Refusals.{is_full}
use Rattle.tables.specs.declared.session.Session.{Session}
use Rattle.tables.specs.declared.clock.Clock.{Clock}
use Rattle.tables.specs.declared.counts.Value.{Value}
use Rattle.tables.specs.declared.refusal.Refusal.{Refusal}
use Rattle.tables.specs.declared.refusal.Refusal.TheVariants.{ListFull}
use Rattle.tables.specs.Cells.{values_in}
use Rattle.tables.specs.Clock.{clock_in}
use Rattle.tables.specs.Sessions.{with_entry}
use Rattle.tables.specs.Meaning.{target_of, entries}
use Rattle.tables.proofs.Means.{length-entries}
use Rattle.history.specs.Read.{standing_of, read_cells, ReadReady}
use Rattle.outcomes.specs.Outcome.{unless}
use Rattle.outcomes.specs.Calls.{spot_of}
use Rattle.outcomes.specs.Seats.{list_answer, relisting}
use Rattle.outcomes.specs.Opened.{SettlesAny}
use Rattle.listing.specs.Change.{append_of, target_put, Stands}
use Rattle.outcomes.proofs.Serving.{relisted-left}
use Rattle.outcomes.proofs.OpenLaws.{open-list, listed-target, listed-lists, unlisted-target, unlisted-spot, unlisted-lists}

-- ---- the standing value of a row

module _ (clock slots words heads log changes : List ℕ) (x : Session) (row spot : ℕ)
    (s : Stands clock slots words heads log changes x row spot) where
  abbrev read : Option ℕ
  read = read_cells slots words heads log changes (values_in clock) x.start.0 row

  pub stands-listed : (held : kit.Option Value) → spot < x.count → standing_of held ≡ target_of (get_or x.to spot 0)
      → standing_of held ≡ standing (target (entries x) row) read
  stands-listed held l e = rw (e, s.spot_is, listed-target x row s.row_low (omega (arith, s.spot_is)))

  pub stands-ready : (c : Clock) → c ≡ clock_in clock → ReadReady slots words heads log changes c.values.0 x.start.0
  unfolding clock_in
  stands-ready c k = rw k s.readable

  pub stands_read : (c : Clock) (held : kit.Option Value) → x.count ≤ spot → c ≡ clock_in clock
      → standing_of held ≡ read_cells slots words heads log changes c.values.0 x.start.0 row
      → standing_of held ≡ standing (target (entries x) row) read
  unfolding clock_in
  stands_read c held l k e = rw (e, k, unlisted-target x row s.row_low (omega (arith, s.spot_is)))

-- ---- a list that is full

full : (x : Session) → 32 ≤ x.count → is_full (entries x) ≡ true
unfolding max_entries
full x h = le-leb 32 (length (entries x)) (omega (arith, length-entries x))

not_full : (x : Session) → x.count < 32 → is_full (entries x) ≡ false
unfolding max_entries
not_full x h = lt-leb 32 (length (entries x)) (omega (arith, length-entries x))

-- ---- an entry more

module _ (x : Session) (at to : ℕ) where
  abbrev Appends : Result Session Refusal → Type 0
  Appends d = SettlesAny x (relisting d) (list_answer d) (λ t n. append_of t n at to)

  pub append-full : 32 ≤ x.count → Appends (Err ListFull)
  unfolding append_of unless
  append-full l n t o = sym (rw (open-list t n x o, full x l))

  pub append-more : (y : Session) → x.count < 32 → y ≡ with_entry x x.count at to (x.count + 1) → Appends (Ok y)
  unfolding append_of with_entry unless
  append-more y l w n t o =
      relisted-left t [] n (Ok y) y o.place-low refl
      ∙ rw (w, open-list t n x o, not_full x l, o.own-there, le-ltb x.count x.count (omega arith))

-- ---- a row's target

module _ (x : Session) (row to : ℕ) (low : row < 65535) (spot : ℕ) (p : spot ≡ spot_of x row) (at : ℕ) (a : at ≡ row) where
  abbrev Puts : Result Session Refusal → Type 0
  Puts d = SettlesAny x (relisting d) (list_answer d) (λ t n. target_put t n row to)

  pub target-there : (y : Session) → spot < x.count → y ≡ with_entry x spot at to x.count → Puts (Ok y)
  unfolding target_put with_entry unless
  target-there y l w n t o =
      let here : spot_of x row < x.count = omega arith in
      relisted-left t [] n (Ok y) y o.place-low refl
      ∙ rw (w, p, a, open-list t n x o, listed-lists x row low here, and-false, o.own-there, lt-ltb (spot_of x row) x.count here)

  pub target-new : (d : Result Session Refusal) → x.count ≤ spot → Appends x at to d → Puts d
  unfolding target_put append_of
  target-new d l f n t o =
      let off : x.count ≤ spot_of x row = omega arith in
      f n t o ∙ rw (a, open-list t n x o, unlisted-lists x row low off, and-true, o.own-there, unlisted-spot x row low off)

-- what an entry more stands on
pub ruleset appends = (append-full, append-more)

-- and a row's target
pub ruleset puts = (target-there, target-new)
