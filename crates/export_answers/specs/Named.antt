-- What hosts name by numbers. A kind, an energy and an axis are numbers; one that names none is refused by 1, as a word that
-- names none is in a file.
use Rattle.std.specs.Prelude.{Result, Ok, Err, cond, ℕ, eqb}
use Rattle.pictures.specs.declared.sizes.Kind.{Kind}
use Rattle.pictures.specs.declared.sizes.Kind.TheVariants.{Grey, Rgb}
use Rattle.pictures.specs.declared.sizes.Size.{Size}
use Rattle.pictures.specs.declared.refusals.Refusal.{Refusal}
use Rattle.pictures.specs.declared.refusals.Refusal.TheVariants.{Form}
use Rattle.energy.specs.declared.methods.EnergyRule.{EnergyRule}
use Rattle.energy.specs.declared.methods.EnergyRule.TheVariants.{Edge, Flat, Forward}
use Rattle.energy.specs.declared.methods.Method.{Method}
use Rattle.seam_rules.specs.declared.answers.Axis.{Axis}
use Rattle.seam_rules.specs.declared.answers.Axis.TheVariants.{Vertical, Horizontal}
use Rattle.seam_rules.specs.Counts.{row_count, column_count}
use Rattle.text_theory.specs.declared.Head.{Head}
use Rattle.export_answers.specs.declared.names.HostSize.{HostSize}
use Rattle.export_answers.specs.declared.names.HostMethod.{HostMethod}
use Rattle.export_answers.specs.declared.names.Carving.{Carving}
use Rattle.export_answers.specs.declared.names.Seaming.{Seaming}
use Rattle.export_answers.specs.declared.names.Counts.{Counts}

-- The size that a host names: kind 0 is grey, 1 is rgb.
unfoldable pub sizing_of : HostSize → Result Size Refusal
sizing_of s =
    cond (eqb s.kind 0) (Ok (record { width = s.width; height = s.height; kind = Grey }))
    (cond (eqb s.kind 1) (Ok (record { width = s.width; height = s.height; kind = Rgb })) (Err Form))

-- The method that a host names: energy 0 is edge, 1 is flat, 2 is forward.
unfoldable pub finding_of : HostMethod → Result Method Refusal
finding_of m =
    cond (eqb m.energy 0) (Ok (record { energy = Edge }))
    (cond (eqb m.energy 1) (Ok (record { energy = Flat }))
    (cond (eqb m.energy 2) (Ok (record { energy = Forward })) (Err Form)))

-- The axis that a host names: 0 is vertical, 1 horizontal.
unfoldable pub turning_of : ℕ → Result Axis Refusal
turning_of k = cond (eqb k 0) (Ok Vertical) (cond (eqb k 1) (Ok Horizontal) (Err Form))

-- The size and the method, and with them the axis: known where each of them is.
abbrev pub carving_from : Result Size Refusal → Result Method Refusal → Result Carving Refusal
carving_from (Ok z) (Ok how) = Ok (record { size = z; method = how })
carving_from (Ok z) (Err why) = Err why
carving_from (Err why) f = Err why

unfoldable pub carving_of : HostSize → HostMethod → Result Carving Refusal
carving_of s m = carving_from (sizing_of s) (finding_of m)

abbrev pub seaming_from : Result Carving Refusal → Result Axis Refusal → Result Seaming Refusal
seaming_from (Ok c) (Ok x) = Ok (record { size = c.size; method = c.method; axis = x })
seaming_from (Ok c) (Err why) = Err why
seaming_from (Err why) t = Err why

unfoldable pub seaming_of : HostSize → HostMethod → ℕ → Result Seaming Refusal
seaming_of s m k = seaming_from (carving_of s m) (turning_of k)

-- What holds at a known size, or else; at a known size and method; and at a known size, method and axis.
abbrev pub known : {A : Type 0} → Result Size Refusal → (Size → A) → A → A
known (Ok z) f x = f z
known (Err why) f x = x

abbrev pub both : {A : Type 0} → Result Carving Refusal → (Size → Method → A) → A → A
both (Ok c) f y = f c.size c.method
both (Err why) f y = y

abbrev pub all : {A : Type 0} → Result Seaming Refusal → (Size → Method → Axis → A) → A → A
all (Ok s) f y = f s.size s.method s.axis
all (Err why) f y = y

-- The head that a host names.
abbrev pub head_named : Size → Method → ℕ → ℕ → Head
head_named z how depth growth = record { size = z; method = how; depth = depth; growth = growth }

-- The counts that a host names by numbers.
abbrev pub counts_named : ℕ → ℕ → Counts
counts_named rows columns = record { rows = row_count rows; columns = column_count columns }

-- The other way: the numbers of a kind and of an energy, and a size and a method as hosts are answered them.
abbrev pub kind_number : Kind → ℕ
kind_number Grey = 0
kind_number Rgb = 1

abbrev pub energy_number : EnergyRule → ℕ
energy_number Edge = 0
energy_number Flat = 1
energy_number Forward = 2

abbrev pub host_size : Size → HostSize
host_size z = record { width = z.width; height = z.height; kind = kind_number z.kind }

abbrev pub host_method : Method → HostMethod
host_method how = record { energy = energy_number how.energy }
