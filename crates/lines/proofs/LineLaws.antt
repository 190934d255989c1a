-- A line: the request, the call and the answer together.
use mathlib.Core.Path.{◌≡◌, sym, ap, ap₂, ◌∙◌}
use mathlib.Core.Bool.{Bool, false, cond, ◌&&◌, and-false}
use mathlib.Core.List.{List}
use Rattle.std.specs.Prelude.{Option}
use Prim.Native.Nat.{ℕ, ◌≤◌, ◌<◌}
use native.Mathlib.Omega.{arith}
use borrow.Author.Tests.{le-leb, lt-leb}
use lib.Dec.{leb}
use lib.ListN.{length}
use lib.Seq.{sets}
use Rattle.tables.specs.Cells.{Tables}
use Rattle.text.specs.declared.requests.Request.{Request}
use Rattle.text.specs.Parse.{parse}
use Rattle.text.specs.Asked.{asked, line_bytes, Requested}
use Rattle.outcomes.specs.Said.{Said}
use Rattle.lines.specs.Turn.{Turn, turn_of, heard_from, Turned}
use Rattle.lines.specs.Line.{line_outcome, enough, answer_line, PutLine, written, line_of}

-- ---- where there is room for any answer and any column, what was asked for is done and written

pub line_read : (t : Tables) (scratch column out line : List ℕ) → 4096 ≤ length column → 10276 ≤ length out
    → written (turn_of t scratch (parse line)) line column out ≡ line_of t scratch column out line
unfolding line_of enough
line_read t scratch column out line c o = rw (le-leb 4096 (length column) c, le-leb 10276 (length out) o)

pub line-done : (t t' : Tables) (scratch scratch' line column column' out out' : List ℕ) (wish : Option Request) (a : Said) (len : ℕ)
    → 4096 ≤ length column → 10276 ≤ length out → Requested line column column' wish → Turned t t' scratch scratch' (asked wish column') a
    → PutLine out (heard_from t'.words scratch' a) out' len
    → line_outcome t' scratch' column' out' len ≡ line_of t scratch column out line
unfolding written
line-done t t' scratch scratch' line column column' out out' wish a len c o q h w =
    let told = heard_from t'.words scratch' a in
    let many : len ≡ length (answer_line told) = omega (arith, w.wrote.place_is) in
    ap₂ (λ (col o : List ℕ). line_outcome t' scratch' col o len) q.bytes-are w.wrote.list-is
    ∙ ap (line_outcome t' scratch' (sets column 0 (line_bytes line)) (sets out 0 (answer_line told))) many
    ∙ ap (λ (o : Turn). written o line column out) (h ∙ ap (turn_of t scratch) q.means)
    ∙ line_read t scratch column out line c o

-- ---- where there is not, nothing is done

module _ (t : Tables) (scratch column out line : List ℕ) where
  short : leb 4096 (length column) && leb 10276 (length out) ≡ false → line_outcome t scratch column out 0 ≡ line_of t scratch column out line
  unfolding line_of enough
  short e = ap (λ (b : Bool). cond b (written (turn_of t scratch (parse line)) line column out) (line_outcome t scratch column out 0)) (sym e)

  pub short-column : length column < 4096 → line_outcome t scratch column out 0 ≡ line_of t scratch column out line
  short-column l = short (ap (λ (b : Bool). b && leb 10276 (length out)) (lt-leb 4096 (length column) l))

  pub short-out : length out < 10276 → line_outcome t scratch column out 0 ≡ line_of t scratch column out line
  short-out l = short (ap (λ (b : Bool). leb 4096 (length column) && b) (lt-leb 10276 (length out) l)
      ∙ and-false (leb 4096 (length column)))
