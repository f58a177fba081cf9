-- Choices by a test: the words in which the other definitions put the paper's "if", "each" and "some".
-- Assumes nothing.
use Rattle.std.specs.Prelude.{ℕ, zero, suc, Bool, true, false, leb}

-- the first where the test holds, else the second
abbrev pub pick : {A : Type 0} → Bool → A → A → A
pick true a b = a
pick false a b = b

-- both tests hold
abbrev pub both : Bool → Bool → Bool
both true b = b
both false b = false

-- at least one of the tests holds
abbrev pub either : Bool → Bool → Bool
either true b = true
either false b = b

-- low ≤ x ≤ high
abbrev pub in_range : ℕ → ℕ → ℕ → Bool
in_range x low high = both (leb low x) (leb x high)

-- the test holds of every number below n
abbrev pub all_below : ℕ → (ℕ → Bool) → Bool
all_below zero f = true
all_below (suc n) f = both (f n) (all_below n f)

-- the test holds of some number below n
abbrev pub some_below : ℕ → (ℕ → Bool) → Bool
some_below zero f = false
some_below (suc n) f = either (f n) (some_below n f)
