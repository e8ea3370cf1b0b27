-- A row that nothing refuses fits its space.
use mathlib.Core.Path.{◌≡◌}
use Prim.Native.Nat.{ℕ, ◌≤◌}
use lib.Dec.{ltb}
use borrow.Author.Tests.{ltb-false}
use Rattle.pictures.specs.Refusals.{refusal}
use Rattle.pictures.proofs.Rules.{passed}
use Rattle.export_answers.specs.Answers.{row_rules}

pub row_fits : (row space : ℕ) → refusal (row_rules row space) ≡ 0 → row ≤ space
row_fits row space e = ltb-false space row (passed (ltb space row) 7 0 e).0
