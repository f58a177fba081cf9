-- What placing writes: all tables, inside the guest's window.
-- Assumes nothing.
use mathlib.Core.Path.{◌≡◌, refl, ap, ◌∙◌}
use mathlib.Core.Logic.{◌⊎◌, inl, inr, ⊎_elim}
use mathlib.Core.Bool.{true}
use mathlib.Core.List.{List}
use Prim.Native.Nat.{ℕ, ◌+◌, ◌*◌, ◌/◌, ◌%◌, ◌≤◌, ◌<◌}
use native.Mathlib.Omega.{arith}
use lib.ListN.{length, replicate, take, drop}
use lib.Seq.{sets, length-sets, take_at}
use borrow.Author.Tests.{leb-true, eqb-true}
use Rattle.logic.proofs.LogicLaws.{both_true, either_true}
use Rattle.words.proofs.WordsLaws.{sets_front}
use Rattle.memory.specs.Window.{window_length, span_length}
use Rattle.memory.proofs.WindowLaws.{span_in}
use Rattle.table.specs.declared.Table.{Table}
use Rattle.int13.specs.Placement.{tables_of, table_count}
use Rattle.desk.specs.Acceptable.{place_ok}

-- what the tests of a place say of n tables
pub record GoodPlace (n M address : ℕ) : Type 0 where
  pub aligned : address % 16 ≡ 0
  pub inside : address + 16 * n ≤ M
  pub segments : (n ≡ 0) ⊎ (address / 16 + n ≤ 65536)

pub place_facts : (n M address : ℕ) → place_ok n M address ≡ true → GoodPlace n M address
unfolding place_ok
place_facts n M address e =
    let p = both_true _ _ e in
    let q = both_true _ _ p.1 in
    record {
      aligned = eqb-true _ _ p.0;
      inside = leb-true _ _ q.0;
      segments = ⊎_elim (λ x. inl (eqb-true _ _ x)) (λ x. inr (leb-true _ _ x)) (either_true _ _ q.1);
    }

-- a good place: the tables end inside the window
pub place_inside : (n M address : ℕ) → place_ok n M address ≡ true → address + 16 * n ≤ M
place_inside n M address e = (place_facts n M address e).inside

-- as the arena's length cuts the window
pub place_span : (n a g address : ℕ) → g < 8 → place_ok n (window_length a) address ≡ true → address + 16 * n ≤ span_length a g (window_length a)
place_span n a g address l e =
    let w : span_length a g (window_length a) ≡ window_length a = (span_in a g (window_length a) (omega arith) l).1 in
    rw w (place_inside n (window_length a) address e)

-- the array that holds the tables, before they stand in it
abbrev zeros : List ℕ
zeros = replicate 128 0

zeros_long : length zeros ≡ 128
zeros_long = refl

pub tables-room : {bytes : List ℕ} (b : Table) → bytes ≡ sets zeros 0 (tables_of b) → length bytes ≡ 128
tables-room b s = ap length s ∙ length-sets zeros 0 (tables_of b) ∙ zeros_long

-- the tables at its front
pub tables-taken : {bytes : List ℕ} {n : ℕ} (b : Table) → n ≡ table_count b → n ≤ 8 → bytes ≡ sets zeros 0 (tables_of b) → length (tables_of b) ≡ 16 * table_count b
    → take (16 * n) bytes ≡ tables_of b
tables-taken {bytes} {n} b e m s l =
    let room : length (tables_of b) ≤ length zeros = omega (arith, zeros_long) in
    ap (take (16 * n)) (s ∙ sets_front zeros (tables_of b) room)
    ∙ take_at (tables_of b) (drop (length (tables_of b)) zeros) (16 * n) (omega arith)
