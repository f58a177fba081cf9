-- The blocks of a turn: what is in range, and that the code's moves are the definition's.
-- Assumes nothing.
use mathlib.Core.Path.{◌≡◌, refl, sym, ap, ◌∙◌}
use mathlib.Core.Bool.{Bool, true, false}
use mathlib.Core.List.{List}
use Prim.Native.Nat.{ℕ, ◌+◌, ◌*◌, ◌^◌, ◌≤◌, ◌<◌}
use native.Mathlib.Omega.{arith}
use lib.ListN.{length}
use lib.Seq.{length-sets}
use lib.Dec.{ltb}
use Rattle.logic.specs.Logic.{pick}
use Rattle.memory.specs.Window.{window_length, span_length, window_of, with_window}
use Rattle.memory.specs.Blocks.{blocks}
use Rattle.words.specs.Words.{le_bytes}
use Rattle.memory.proofs.WindowLaws.{span_in, length-window, length-with_window, window_with_same, with_window-same, with_window_twice}
use Rattle.memory.proofs.BlocksLaws.{blocks-length}
use borrow.Author.Tests.{leb-true}
use Rattle.int13.specs.Answers.{ah, is_sectors, is_write}
use Rattle.int13.specs.declared.Job.{Job}
use Rattle.int13.specs.Steps.{with_count}
use Rattle.int13.specs.Alone.{Memory, moves, reported}
use Rattle.desk.specs.declared.Request.{Request}
use Rattle.desk.specs.Parts.{own_window, with_own}
use Rattle.desk.specs.Acceptable.{InRange, packet_ok}
use Rattle.desk.specs.Calls.{goes_on, beside, Copied, moved_from, Transferred}

pub store-fits : {first k g a s : ℕ} {q : Request} → InRange first q k g a s → 512 * (first + q.job.start + q.moved) < 2 ^ 64
store-fits r = omega (arith, r.blocks, r.part, r.store)

pub ranges : {first k g a s at place : ℕ} {q : Request} → InRange first q k g a s
    → at ≡ q.job.buffer + 512 * q.moved → place ≡ 512 * (first + q.job.start + q.moved)
    → (at + 512 * k ≤ span_length a g (window_length a)) × (place + 512 * k ≤ s)
ranges {first} {k} {g} {a} r ea ep =
    let w : span_length a g (window_length a) ≡ window_length a = (span_in a g (window_length a) (omega arith) r.guest).1 in
    (rw w (omega (arith, r.buffer, r.part)), omega (arith, r.blocks, r.part))

-- a write leaves the window as it was, a read the store
either_way : (t : Bool) (arena store : List ℕ) (g m at place k : ℕ)
    → (pick t arena (with_window arena g m (blocks (window_of arena g m) at store place k))
    ≡ with_window arena g m (pick {A = Memory} t (record { window = window_of arena g m; store = blocks store place (window_of arena g m) at k }) (record { window = blocks (window_of arena g m) at store place k; store = store })).window)
    × (pick t (blocks store place (window_of arena g m) at k) store
    ≡ (pick {A = Memory} t (record { window = window_of arena g m; store = blocks store place (window_of arena g m) at k }) (record { window = blocks (window_of arena g m) at store place k; store = store })).store)
either_way true arena store g m at place k = (sym (with_window-same arena g m), refl)
either_way false arena store g m at place k = (refl, refl)

pub moved-blocks : {at place : ℕ} {write : Bool} {arena' store' : List ℕ} (first : ℕ) (q : Request) (k g : ℕ) (arena store : List ℕ)
    → at ≡ q.job.buffer + 512 * q.moved → place ≡ 512 * (first + q.job.start + q.moved) → write ≡ is_write (ah q.job.registers)
    → Copied write g at place k arena store arena' store' → Transferred first q k g arena store arena' store'
unfolding moves
moved-blocks first q k g arena store ea ep ew c =
    let at : ℕ = q.job.buffer + 512 * q.moved in
    let place : ℕ = 512 * (first + q.job.start + q.moved) in
    rw (c.0, c.1, ew, ep, ea) (either_way (is_write (ah q.job.registers)) arena store g (window_length (length arena)) at place k)

-- the window keeps its length
pub length_moved : (first : ℕ) (q : Request) (k g : ℕ) (arena store : List ℕ)
    → length (moved_from first q k g arena store).window ≡ span_length (length arena) g (window_length (length arena))
unfolding moves
length_moved first q k g arena store = by_function (is_write (ah q.job.registers)) ∙ length-window arena g (window_length (length arena))
  where
    by_function : (t : Bool) → length (pick {A = Memory} t
        (record { window = own_window arena g; store = blocks store (512 * (first + q.job.start + q.moved)) (own_window arena g) (q.job.buffer + 512 * q.moved) k })
        (record { window = blocks (own_window arena g) (q.job.buffer + 512 * q.moved) store (512 * (first + q.job.start + q.moved)) k; store = store })).window
        ≡ length (own_window arena g)
    by_function true = refl
    by_function false = blocks-length (own_window arena g) (q.job.buffer + 512 * q.moved) store (512 * (first + q.job.start + q.moved)) k

-- ---- the count word of an ending

pub packet-inside : (f place M : ℕ) → is_sectors f ≡ false → packet_ok f place M ≡ true → place + 16 ≤ M
packet-inside f place M s e = leb-true (place + 16) M (rw s at e)

pub length-reported : (j : Job) (n : ℕ) (w : List ℕ) → length (reported j n w) ≡ length w
unfolding reported
length-reported j n w = by_function (is_sectors (ah j.registers))
  where
    by_function : (t : Bool) → length (pick t w (with_count w j.packet n)) ≡ length w
    by_function true = refl
    by_function false = length-sets w (j.packet + 2) (le_bytes 2 n)

pub length-beside : (q : Request) (k : ℕ) (w : List ℕ) → length (beside q k w) ≡ length w
length-beside q k w = by_end (goes_on q k) (ltb (q.moved + k) q.job.count)
  where
    by_end : (s t : Bool) → length (pick s w (pick t (reported q.job (q.moved + k) w) w)) ≡ length w
    by_end true t = refl
    by_end false true = length-reported q.job (q.moved + k) w
    by_end false false = refl

-- it is written in the window that the data have been written in
pub ending_laid : {arena₁ arena₂ : List ℕ} (q : Request) (k g : ℕ) (arena w : List ℕ) → length w ≡ span_length (length arena) g (window_length (length arena))
    → arena₁ ≡ with_own arena g w → arena₂ ≡ with_own arena₁ g (beside q k (own_window arena₁ g)) → arena₂ ≡ with_own arena g (beside q k w)
ending_laid q k g arena w l e₁ e₂ =
    let m : ℕ = window_length (length arena) in
    let laid : List ℕ = with_window arena g m w in
    e₂ ∙ ap (λ (a : List ℕ). with_own a g (beside q k (own_window a g))) e₁
    ∙ ap (λ (n : ℕ). with_window laid g (window_length n) (beside q k (window_of laid g (window_length n)))) (length-with_window arena g m w)
    ∙ ap (λ (v : List ℕ). with_window laid g m (beside q k v)) (window_with_same arena g m w l)
    ∙ with_window_twice arena g m w (beside q k w) l (length-beside q k w ∙ l)
