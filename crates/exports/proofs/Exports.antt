-- Laws of the calls at a block: what is read of an acceptable desk's block is the desk's, and the words that are written make the block of
-- the next desk.
-- Assumes nothing.
use mathlib.Core.Path.{◌≡◌, sym, ap, ◌∙◌}
use mathlib.Core.Bool.{Bool, true, false}
use mathlib.Core.List.{List}
use Prim.Native.Nat.{ℕ, ◌<◌}
use lib.Dec.{eqb}
use lib.ListN.{length}
use Rattle.std.specs.Prelude.{Result, Err, Option}
use Rattle.words.specs.Words.{Bytes}
use Rattle.logic.specs.Logic.{pick, both}
use Rattle.drive.specs.declared.Drive.{Drive}
use Rattle.attached.specs.declared.Bads.{Bads}
use Rattle.table.specs.declared.Table.{Table}
use Rattle.int13.specs.Placement.{table_count}
use Rattle.int13.specs.Steps.{first_drive, is_drive, drive_at, bads_of}
use Rattle.desk.specs.declared.Stage.{Stage}
use Rattle.desk.specs.declared.Desk.{Desk}
use Rattle.desk.specs.declared.HouseNumber.{HouseNumber}
use Rattle.desk.specs.declared.HouseNumber.TheVariants.{NotAcceptable}
use Rattle.desk.specs.Parts.{stage_at, with_stage, is_waiting, next, with_pointer, with_placement}
use Rattle.desk.specs.Acceptable.{accept}
use Rattle.desk.specs.Calls.{house_answer, first_waiting}
use Rattle.desk.proofs.AcceptableLaws.{accept_true}
use Rattle.image.specs.Image.{desk_size, read_desk, desk_of, accepted, laid, put_stage, put_pointer, put_placement}
use Rattle.image.proofs.ImageLaws.{AcceptedBlock, accepted-read}
use Rattle.image.proofs.Judged.{judged-size}
use Rattle.image.proofs.Puts.{put-stage, put_both, put-placement}

pub block : (b : List ℕ) → accept (desk_of b) ≡ true → AcceptedBlock b
unfolding accepted
block b a = accepted-read b a

-- the tests of an acceptable block are those of its desk
pub tested : {h : Result (Unit {0}) HouseNumber} {a : Bool} (b : List ℕ) (l g : Bool) → h ≡ house_answer a l g → a ≡ accepted b → h ≡ house_answer (accept (desk_of b)) l g
unfolding accepted
tested b l g p e = p ∙ ap (λ (x : Bool). house_answer x l g) e

-- any tests that follow are not looked at where the block is none
pub no_desk : {h : Result (Unit {0}) HouseNumber} (b : List ℕ) (l g : Bool) → h ≡ house_answer false false false → accept (desk_of b) ≡ false → h ≡ house_answer (accept (desk_of b)) l g
unfolding house_answer
no_desk b l g e bad = rw bad e

-- a block of another size is none
pub no_block : (b : List ℕ) (l g : Bool) → Bytes b → (length b ≡ desk_size → ⊥) → Err NotAcceptable ≡ house_answer (accept (desk_of b)) l g
unfolding accepted house_answer
no_block b l g h n = rw (← judged-size b h n)

module _ (b : List ℕ) (a : accept (desk_of b) ≡ true) where
  -- ---- what is read

  pub lent_read : {l : Bool} (arena store : ℕ) → l ≡ both (eqb arena (read_desk b).arena) (eqb store (read_desk b).store) → l ≡ both (eqb arena (desk_of b).arena) (eqb store (desk_of b).store)
  lent_read arena store e = e ∙ ap (λ (d : Desk). both (eqb arena d.arena) (eqb store d.store)) (sym (block b a).desk)

  pub pointer_read : (read_desk b).pointer < 8
  pointer_read = (accept_true (read_desk b) (block b a).accept).pointer

  pub next-read : {n : Option ℕ} → n ≡ first_waiting (read_desk b).rows 8 (read_desk b).pointer → n ≡ first_waiting (desk_of b).rows 8 (desk_of b).pointer
  next-read e = e ∙ ap (λ (d : Desk). first_waiting d.rows 8 d.pointer) (sym (block b a).desk)

  pub stage_read : {s : Stage} (g : ℕ) → s ≡ stage_at (read_desk b) g → s ≡ stage_at (desk_of b) g
  stage_read g e = e ∙ ap (λ (d : Desk). stage_at d g) (sym (block b a).desk)

  pub waiting_read : {w : Bool} (g : ℕ) → w ≡ is_waiting (stage_at (read_desk b) g) → w ≡ is_waiting (stage_at (desk_of b) g)
  waiting_read g e = e ∙ ap (λ (d : Desk). is_waiting (stage_at d g)) (sym (block b a).desk)

  pub tables-read : {n : ℕ} → n ≡ table_count (read_desk b).table → n ≡ table_count (desk_of b).table
  tables-read e = e ∙ ap (λ (d : Desk). table_count d.table) (sym (block b a).desk)

  pub table-read : {t : Table} → t ≡ (read_desk b).table → t ≡ (desk_of b).table
  table-read e = e ∙ ap (λ (d : Desk). d.table) (sym (block b a).desk)

  pub drive-read : {x : Drive} (n : ℕ) → x ≡ drive_at (read_desk b).table (pick (is_drive (read_desk b).table n) n first_drive)
      → is_drive (desk_of b).table n ≡ true → x ≡ drive_at (desk_of b).table n
  drive-read n e k =
      let r = (block b a).desk in
      let known : is_drive (read_desk b).table n ≡ true = ap (λ (d : Desk). is_drive d.table n) (sym r) ∙ k in
      e ∙ ap (λ (t : Bool). drive_at (read_desk b).table (pick t n first_drive)) known ∙ ap (λ (d : Desk). drive_at d.table n) (sym r)

  pub bads_read : {l : Bads} (n : ℕ) → l ≡ bads_of (read_desk b).table n → l ≡ bads_of (desk_of b).table n
  bads_read n e = e ∙ ap (λ (d : Desk). bads_of d.table n) (sym (block b a).desk)

  -- ---- what is written

  pub put_row : {c : List ℕ} (g : ℕ) (s : Stage) → g < 8 → c ≡ put_stage b g s → c ≡ laid b (with_stage (desk_of b) g s)
  unfolding accepted
  put_row g s h e = e ∙ put-stage b a g s h

  pub put_turn : {c : List ℕ} (g : ℕ) (s : Stage) → g < 8 → c ≡ put_pointer (put_stage b g s) (next g) → c ≡ laid b (with_pointer (with_stage (desk_of b) g s) (next g))
  unfolding accepted
  put_turn g s h e = e ∙ put_both b a g s (next g) h

  pub put_place : {c : List ℕ} (g address : ℕ) → g < 8 → c ≡ put_placement b g address → c ≡ laid b (with_placement (desk_of b) g address)
  unfolding accepted
  put_place g address h e = e ∙ put-placement b a g address h
