-- What the functions of this crate need, in all undamaged tables with room.
use mathlib.Core.Path.{◌≡◌}
use mathlib.Core.Bool.{true}
use mathlib.Core.List.{List}
use Prim.Native.Nat.{ℕ, ◌≤◌, ◌<◌}
use native.Mathlib.Omega.{arith}
use lib.ListN.{length}
use Rattle.tables.specs.Cells.{Tables, values_in, stamp_in, end_at}
use Rattle.tables.specs.Room.{roomy}
use Rattle.tables.specs.Damage.{sound}
use Rattle.tables.proofs.Facts.{Room, room-facts, Parts, parts, ClockLimits, clock-limits, end-high, rows-high-at, change-at}
use Rattle.history.specs.Version.{Headed, Based}
use Rattle.history.specs.Flips.{RowsLow}
use Rattle.history.specs.Query.{Ready}
use Rattle.history.specs.Span.{SpanReady}
use Rattle.history.specs.Read.{ReadReady}
use Rattle.history.proofs.Meets.{head-used, seen-old}

module _ (t : Tables) (room : roomy t ≡ true) (good : sound t ≡ true) where
  r : Room t
  r = room-facts t room

  p : Parts t
  p = parts t good

  k : ClockLimits t.clock
  k = clock-limits t.clock p.clock-fits

  pub headed : (v : ℕ) → v < values_in t.clock → Headed t.slots t.heads v
  headed v below = omega (arith, k, r, head-used t good v below)

  module _ (s : ℕ) (low : s ≤ stamp_in t.clock) where
    pub based : (v : ℕ) → v < values_in t.clock → Based t.slots t.heads t.log s v
    based v below = omega (arith, k, r, headed v below, seen-old t good s v below)

    pub end_low : end_at t.log s ≤ 2048
    end_low = omega (arith, end-high t.clock t.log p.records-fit s low, k.few-changes)

    pub rows-low : (a : ℕ) → RowsLow t.changes a (end_at t.log s)
    rows-low a = record {
      changes-room = r.changes-room;
      end_low = end_low;
      rows-low = λ j h l.
          omega (
            arith,
            (change-at t.clock t.log t.changes p.records-fit p.changes-fit s j low l).row_low,
            rows-high-at t.clock t.log p.records-fit s low,
            k.few-rows,
          );
    }

    pub ready : (v : ℕ) → v < values_in t.clock → (scratch : List ℕ) → 32 ≤ length scratch
        → Ready t.slots t.words t.heads t.log t.changes scratch s v
    ready v below scratch long = record {
      based = based v below;
      words-room = r.words-room;
      scratch-room = long;
      stamp-low = omega (arith, k.few-records);
      rows = rows-low 0;
    }

    pub span-ready : (b : ℕ) → b < values_in t.clock → SpanReady t.slots t.words t.heads t.log t.changes s b
    span-ready b below = record {
      each-based = λ v h. based v (omega arith);
      words-room = r.words-room;
      stamp-low = omega (arith, k.few-records);
      rows = rows-low 0;
    }

    pub read-ready : ReadReady t.slots t.words t.heads t.log t.changes (values_in t.clock) s
    read-ready = record {
      readable = record { words-room = r.words-room; each-based = based };
      stamp-low = omega (arith, k.few-records);
      log-room = r.log-room;
      changes-room = r.changes-room;
      end_low = end_low;
    }
