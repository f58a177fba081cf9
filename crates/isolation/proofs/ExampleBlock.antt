-- The conditions of demand 3 on blocks can be met: the calls of the instance with placements, after an opening at a block of zeros.
-- Assumes nothing.
use Prim.Native.Nat.{ℕ}
use mathlib.Core.Path.{◌≡◌, refl, sym, ap, subst}
use mathlib.Core.List.{List}
use native.Mathlib.Omega.{arith}
use lib.ListN.{length, replicate}
use Rattle.std.specs.Prelude.{Ok}
use Rattle.words.specs.Words.{Bytes, le, le_bytes}
use Rattle.words.proofs.WordsLaws.{bytes-le_bytes}
use Rattle.memory.specs.Window.{window_of}
use Rattle.desk.specs.declared.After.{After}
use Rattle.desk.specs.Calls.{OpenAnswer, open_of}
use Rattle.image.specs.Image.{desk_size, FitsRegisters}
use Rattle.isolation.specs.Lists.{open_table, Call, opening, run}
use Rattle.isolation.specs.Words.{NoneOpens}
use Rattle.isolation.specs.DeskBlocks.{FitsCalls, step_block, ClaimBlock}
use Rattle.isolation.proofs.DeskBlocks.{demand-block, none-block}
use Rattle.isolation.proofs.Trace.{calls_later, closed-later}
use Rattle.isolation.proofs.ExampleDesk.{table_bytes, arena_length, M, store_length, opening as opens-table}
use Rattle.isolation.proofs.ExampleWrite.{saved}
use Rattle.isolation.proofs.ExamplePlaced.{extends, points, ahead, p₀, z₀, aheads, story}

bytes-table : Bytes table_bytes
unfolding le le_bytes
bytes-table = bytes-le_bytes 188 (le 188 table_bytes 0)

abbrev zeros : List ℕ
zeros = replicate desk_size 0

module _ (a s : List ℕ) (la : length a ≡ arena_length) (ls : length s ≡ store_length) (held : le 2 (window_of a 6 M) 24 ≡ 30) where
  abbrev list : List Call
  list = calls_later (p₀ a s la ls held) ahead (story a s la ls held) (z₀ a s la ls held) (aheads a s la ls held)

  abbrev first : Call
  first = record { op = open_table table_bytes arena_length store_length; arena = a; store = s }

  passes : (step_block zeros first).answer ≡ opening (Ok tt)
  unfolding step_block
  passes = ap (λ (o : After OpenAnswer). opening o.answer) opens-table

  fit : FitsCalls list
  fit =
      (omega arith, (omega arith, (omega arith, (fits_saved, (tt, (omega arith, (omega arith, (fits_points, (fits_extends, (omega arith, (tt, tt)))))))))))
    where
      fits_saved : FitsRegisters saved
      fits_saved = record { ax = omega arith; bx = omega arith; cx = omega arith; dx = omega arith; ds = omega arith; si = omega arith; es = omega arith }

      fits_points : FitsRegisters points
      fits_points = record { ax = omega arith; bx = omega arith; cx = omega arith; dx = omega arith; ds = omega arith; si = omega arith; es = omega arith }

      fits_extends : FitsRegisters extends
      fits_extends = record { ax = omega arith; bx = omega arith; cx = omega arith; dx = omega arith; ds = omega arith; si = omega arith; es = omega arith }

  none : NoneOpens (run (open_of table_bytes arena_length store_length).desk list)
  none = subst (λ (o : After OpenAnswer). NoneOpens (run o.desk list)) (sym opens-table) (closed-later (p₀ a s la ls held) ahead (story a s la ls held) (z₀ a s la ls held) (aheads a s la ls held))

  pub example_block : ClaimBlock table_bytes (open_of table_bytes arena_length store_length).desk M (step_block zeros first).block list
  example_block =
      demand-block zeros table_bytes arena_length store_length first list refl (bytes-table, omega arith, omega arith) passes fit
      (none-block zeros table_bytes arena_length store_length first list refl (bytes-table, omega arith, omega arith) passes fit none)
