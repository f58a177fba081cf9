-- The tests that come before the row's in every call, by cases.
-- Assumes nothing.
use mathlib.Core.Path.{◌≡◌, refl}
use mathlib.Core.Bool.{Bool, true, false}
use Rattle.desk.specs.declared.HouseNumber.{HouseNumber}
use Rattle.desk.specs.declared.HouseNumber.TheVariants.{NoGuest, OtherLength, NotAcceptable}
use Rattle.desk.specs.Calls.{house_tests}

module _ {A : Type 0} (P : A → Type 0) (refused : HouseNumber → A) (passed : A) where
  -- each refusal, and what follows where all tests pass
  pub house-cases : (acceptable lent guest : Bool) → (acceptable ≡ false → P (refused NotAcceptable)) → P (refused OtherLength) → P (refused NoGuest)
      → (lent ≡ true → guest ≡ true → P passed) → P (house_tests acceptable lent guest refused passed)
  house-cases false l g a o n p = a refl
  house-cases true false g a o n p = o
  house-cases true true false a o n p = n
  house-cases true true true a o n p = p refl refl

  -- what holds of every refusal, and of what follows
  pub house-any : (acceptable lent guest : Bool) → ((e : HouseNumber) → P (refused e)) → P passed → P (house_tests acceptable lent guest refused passed)
  house-any a l g e p = house-cases a l g (λ q. e NotAcceptable) (e OtherLength) (e NoGuest) (λ l g. p)
