use mathlib.Core.Path.{◌≡◌, refl, ◌∙◌}
use mathlib.Core.Bool.{true, or-false}
use mathlib.Core.List.{List, [], ◌∷◌}
use Prim.Native.Nat.{ℕ}
use mir.Val.{Fits}
use mir.Syntax.{w8}
use lib.ListN.{get_or, length}
use lib.Dec.{eqb}
use borrow.Author.Rules.{rules}
use borrow.Author.Tests.{tests}
use Rattle.std.specs.Int.{w32, from_le_bytes}
use Rattle.std.proofs.lemmas.Iterator.{YieldsList-from_slice}
use Rattle.std.proofs.lemmas.Iterator.Search.{any_from_yields_List}
use Rattle.logic.proofs.LogicLaws.{or_either}
use Rattle.drive.specs.Drive.{bus_ok, same, isa, pci}
use Rattle.drive.proofs.DriveLaws.{named_word, all_bytes}
use Rattle.drive.proofs.bus_ok.Goals as goal

pub returns : goal.returns
unfolding bus_ok
returns c =
    let b = c.args.b in
    let f : (i : ℕ) → Fits w8 (get_or b i 0) = λ i. search rules in
    let l : length b ≡ 4 = search rules in
    let n : (name : List ℕ) → length name ≡ 4 → all_bytes name ≡ true → eqb (from_le_bytes w32 name) c.from_le_bytes-v.result ≡ same b name =
    λ name k t. named_word 3 b name c.from_le_bytes-v.ensures l (λ i. (f i).fits) k t in
    any_from_yields_List (λ (name : List ℕ). eqb (from_le_bytes w32 name) c.from_le_bytes-v.result) _ _ _ c.any.ensures.ran
    (YieldsList-from_slice (isa ∷ pci ∷ []) (cc)) (λ x b q k. search (rules, tests))
    ∙ rw (n isa refl refl, n pci refl refl) (simp (or-false, or_either))
