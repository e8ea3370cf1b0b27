-- What a program reads and writes when it is run.
use Rattle.std.specs.Prelude.{List, ℕ, ◌≤◌, length, Option, OnOk}
use Rattle.std.specs.Io.KnownBytes.{Appends, Consumes, IsAtEnd}
use Rattle.program_theory.specs.Programs.{most_input}
use Rattle.program_filters.specs.declared.programs.Ran.{Ran}

-- The input that was read: the bytes that came first. Where no read failed, it is all of them, or too long to be served. Where
-- the output was written, it is what the filter writes for that input.
pub record Runs (writes : List ℕ → List ℕ) (left left' : Option (List ℕ)) (ran : Ran) (held held' : Option (List ℕ)) : Type 0 where
  pub input : List ℕ
  pub read : Consumes left left' input
  pub whole : OnOk ran.reading (length input ≤ most_input → IsAtEnd left')
  pub written : OnOk ran.writing (Appends held held' (writes input))
