-- What hosts see of energies, costs of steps and rows. Of this and every operation hosts see numbers, structs of numbers and slices: a size, a
-- method and an axis stand in a promise as the host passes them, and a number that names none is refused by 1.
use Rattle.std.specs.Prelude.{◌≡◌, List, ◌++◌, ℕ, length, drop}
use Rattle.pictures.specs.Refusals.{refusal, served}
use Rattle.pictures.specs.Pictures.{picture, row_of}
use Rattle.energy.specs.Energy.{energies, left_costs, right_costs, energies_rules, step_costs_rules}
use Rattle.export_answers.specs.declared.answers.Answer.{Answer}
use Rattle.export_answers.specs.declared.names.HostSize.{HostSize}
use Rattle.export_answers.specs.declared.names.HostMethod.{HostMethod}
use Rattle.export_answers.specs.Named.{sizing_of, carving_of, known, both}
use Rattle.export_answers.specs.Answers.{row_rules}

-- The energies of a row: the number, and the space, which keeps what stands after them.
pub record HostEnergiesGiven (b : List ℕ) (size : HostSize) (method : HostMethod) (r : ℕ) (out : List ℕ) (n : ℕ) (out' : List ℕ) : Type 0 where
  pub number : n ≡ both (carving_of size method) (λ z how. refusal (energies_rules z (length b) r (length out))) 1
  pub out_given :
      out' ≡ both (carving_of size method)
      (λ z how. served n (energies how z.width z.height (picture z b) r ++ drop z.width out) out)
      out

-- What coming to each pixel of a row costs, from the left, from above and from the right: the number, and the three spaces, each
-- of which keeps what stands after the row.
pub record HostStepCostsGiven (b : List ℕ) (size : HostSize) (method : HostMethod) (r : ℕ) (left up right : List ℕ) (n : ℕ) (left' up' right' : List ℕ) : Type 0 where
  pub number :
      n ≡ both (carving_of size method)
      (λ z how. refusal (step_costs_rules z (length b) r (length left) (length up) (length right)))
      1
  pub left_given :
      left' ≡ both (carving_of size method)
      (λ z how. served n (left_costs how z.width z.height (picture z b) r ++ drop z.width left) left)
      left
  pub up_given :
      up' ≡ both (carving_of size method)
      (λ z how. served n (energies how z.width z.height (picture z b) r ++ drop z.width up) up)
      up
  pub right_given :
      right' ≡ both (carving_of size method)
      (λ z how. served n (right_costs how z.width z.height (picture z b) r ++ drop z.width right) right)
      right

-- A row, copied to the front of a space: its length, or 8 where the space is shorter.
pub record HostRowGiven (b : List ℕ) (size : HostSize) (r : ℕ) (out : List ℕ) (a : Answer) (out' : List ℕ) : Type 0 where
  pub number : a.number ≡ known (sizing_of size) (λ z. refusal (row_rules (length (row_of z b r)) (length out))) 1
  pub value : a.value ≡ known (sizing_of size) (λ z. served a.number (length (row_of z b r)) 0) 0
  pub out_given :
      out' ≡ known (sizing_of size) (λ z. served a.number (row_of z b r ++ drop (length (row_of z b r)) out) out) out
