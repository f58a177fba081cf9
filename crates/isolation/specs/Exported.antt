-- The calls of a list are the exported ones: what each of them leaves by its contract is the answer of the step, as numbers, and the block,
-- arena and store that the step leaves.
-- Assumes nothing.
use Rattle.std.specs.Prelude.{ℕ, ◌≡◌, List, [], ◌∷◌, length}
use Rattle.int13.specs.declared.Registers.{Registers}
use Rattle.int13.specs.declared.Placement.{Placement}
use Rattle.int13.specs.Answers.{posted as posted_registers}
use Rattle.int13.specs.Steps.{fed}
use Rattle.int13.specs.Alone.{Memory, alone}
use Rattle.desk.specs.Calls.{not_acceptable}
use Rattle.desk.specs.Numbers.{open_numbers, written_numbers, post_numbers, turn_numbers, collect_numbers, withdraw_numbers, place_numbers}
use Rattle.image.specs.Image.{desk_size}
use Rattle.exports.specs.Exports.{effect, over, open_call, write_call, given, changed, post_call, turn_call, collect_call, withdraw_call, place_call}
use Rattle.isolation.specs.Lists.{Op, open_table, post, turn, collect, withdraw, write, place, Answer, opening, unopened, posted, turned, collected, withdrawn, written, placed}
use Rattle.isolation.specs.DeskBlocks.{OutBlock, step_block}

-- ---- "Calls the host makes", the calls for C

-- the number and the values of an answer
abbrev pub numbers_of : Answer → List ℕ
numbers_of (opening x) = open_numbers x
numbers_of unopened = not_acceptable ∷ 0 ∷ []
numbers_of (posted g x) = post_numbers x
numbers_of (turned x) = turn_numbers x
numbers_of (collected g x) = collect_numbers x
numbers_of (withdrawn g x) = withdraw_numbers x
numbers_of (written x out) = written_numbers x
numbers_of (placed g address x) = place_numbers x

-- the buffer after a table write
abbrev pub buffer_of : Answer → List ℕ
buffer_of (opening x) = []
buffer_of unopened = []
buffer_of (posted g x) = []
buffer_of (turned x) = []
buffer_of (collected g x) = []
buffer_of (withdrawn g x) = []
buffer_of (written x out) = out
buffer_of (placed g address x) = []

-- ---- "The words of demand 3", served alone, and the exported post

-- The exported post hands on the guest's registers with carry clear; served alone is fed them as posted. It does not look at the posted carry,
-- so that both speak of the same request.
abbrev pub CarryUnread : Type 0
CarryUnread = (t : List ℕ) (p : Placement) (r : Registers) (m : Memory) → alone (fed t p) r m ≡ alone (fed t p) (posted_registers r) m

-- at a block, with an arena and a store
module _ (b arena store : List ℕ) where
  -- what a call of the list leaves there
  abbrev pub does : Op → OutBlock
  does o = step_block b (record { op = o; arena = arena; store = store })

  -- each call for C, by its contract, gives the numbers of that answer and leaves that block, arena and store
  pub record Exported : Type 0 where
    pub open_at : (t : List ℕ) (a s place : ℕ) → length b ≡ desk_size
        → open_call b t a s place ≡ effect (over (numbers_of (does (open_table t a s)).answer) (0 ∷ place ∷ [])) ((does (open_table t a s)).block ∷ [])
    -- there is no place in a table that was not read
    pub open_other : (t : List ℕ) (a s place : ℕ) → (length b ≡ desk_size → ⊥)
        → open_call b t a s place ≡ effect (not_acceptable ∷ place ∷ []) ((does (open_table t a s)).block ∷ [])
    pub write_at : (out : List ℕ) (n : ℕ) → write_call b out n ≡ effect (over (numbers_of (does (write out)).answer) (0 ∷ n ∷ [])) (buffer_of (does (write out)).answer ∷ [])
    pub post_at : (g ax bx cx dx ds si es carry : ℕ)
        → post_call b arena store g ax bx cx dx ds si es carry
        ≡ effect (changed (numbers_of (does (post g (given ax bx cx dx ds si es))).answer) ax bx cx dx carry)
        ((does (post g (given ax bx cx dx ds si es))).block ∷ (does (post g (given ax bx cx dx ds si es))).arena ∷ [])
    pub turn_at : (g n : ℕ)
        → turn_call b arena store g n ≡ effect (over (numbers_of (does turn).answer) (0 ∷ g ∷ n ∷ [])) ((does turn).block ∷ (does turn).arena ∷ (does turn).store ∷ [])
    pub collect_at : (g : ℕ) (stood : List ℕ) → collect_call b g stood ≡ effect (over (numbers_of (does (collect g)).answer) (0 ∷ stood)) ((does (collect g)).block ∷ [])
    pub withdraw_at : (g : ℕ) (stood : List ℕ)
        → withdraw_call b arena store g stood ≡ effect (over (numbers_of (does (withdraw g)).answer) (0 ∷ stood)) ((does (withdraw g)).block ∷ (does (withdraw g)).arena ∷ [])
    pub place_at : (g address : ℕ)
        → place_call b arena store g address ≡ effect (numbers_of (does (place g address)).answer) ((does (place g address)).block ∷ (does (place g address)).arena ∷ [])
    -- what a call was lent for reading, or was not lent, the step leaves
    pub open_leaves : (t : List ℕ) (a s : ℕ) → ((does (open_table t a s)).arena ≡ arena) × ((does (open_table t a s)).store ≡ store)
    pub write_leaves : (out : List ℕ) → ((does (write out)).block ≡ b) × ((does (write out)).arena ≡ arena) × ((does (write out)).store ≡ store)
    pub post_leaves : (g : ℕ) (r : Registers) → (does (post g r)).store ≡ store
    pub collect_leaves : (g : ℕ) → ((does (collect g)).arena ≡ arena) × ((does (collect g)).store ≡ store)
    pub withdraw_leaves : (g : ℕ) → (does (withdraw g)).store ≡ store
    pub place_leaves : (g address : ℕ) → (does (place g address)).store ≡ store
