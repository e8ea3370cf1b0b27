-- What is answered of multi-size files.
use Rattle.std.proofs.Math.Option.{Option, none, some}
use Rattle.std.specs.Prelude.{Result, ℕ}
use Rattle.pictures.specs.declared.refusals.Refusal.{Refusal}
use Rattle.pictures.specs.Refusals.{given}
use Rattle.pictures.specs.declared.sizes.Size.{Size}
use Rattle.text_theory.specs.declared.Head.{Head}
use Rattle.file_rules.specs.Answers.{answer_of}
use Rattle.export_answers.specs.declared.names.HostSize.{HostSize}
use Rattle.export_answers.specs.declared.names.HostMethod.{HostMethod}
use Rattle.export_answers.specs.declared.files.FileAnswer.{FileAnswer}
use Rattle.export_answers.specs.declared.files.SizeAnswer.{SizeAnswer}
use Rattle.export_answers.specs.Named.{host_size, host_method}

-- What stands for a size and a method beside a number that refuses.
abbrev pub no_size : HostSize
no_size = record { width = 0; height = 0; kind = 0 }

abbrev pub no_method : HostMethod
no_method = record { energy = 0 }

-- The number, and size, method and range or zeros.
abbrev pub headed : ℕ → Option Head → FileAnswer
headed n none = record { number = n; size = no_size; method = no_method; depth = 0; growth = 0 }
headed n (some h) =
    record { number = n; size = host_size h.size; method = host_method h.method; depth = h.depth; growth = h.growth }

-- The number, and the size or zeros.
abbrev pub framed : ℕ → Option Size → SizeAnswer
framed n none = record { number = n; size = no_size }
framed n (some z) = record { number = n; size = host_size z }

-- The answers as numbers.
abbrev pub head_of : Result Head Refusal → FileAnswer
head_of answer = headed (given answer) (answer_of answer)

abbrev pub size_of : Result Size Refusal → SizeAnswer
size_of answer = framed (given answer) (answer_of answer)
