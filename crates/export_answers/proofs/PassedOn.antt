-- What is answered can be passed on: a size and a method as hosts are answered them name that size and that method.
use mathlib.Core.Path.{◌≡◌, refl}
use Prim.Native.Nat.{ℕ}
use Rattle.std.specs.Prelude.{Ok}
use Rattle.pictures.specs.declared.sizes.Kind.{Kind}
use Rattle.pictures.specs.declared.sizes.Kind.TheVariants.{Grey, Rgb}
use Rattle.pictures.specs.declared.sizes.Size.{Size}
use Rattle.energy.specs.declared.methods.EnergyRule.{EnergyRule}
use Rattle.energy.specs.declared.methods.EnergyRule.TheVariants.{Edge, Flat, Forward}
use Rattle.energy.specs.declared.methods.Method.{Method}
use Rattle.export_answers.specs.Named.{sizing_of, finding_of, kind_number, energy_number, host_size, host_method}

kind_passed : (w h : ℕ) (k : Kind) → sizing_of (record { width = w; height = h; kind = kind_number k }) ≡ Ok (record { width = w; height = h; kind = k })
unfolding sizing_of
kind_passed w h Grey = refl
kind_passed w h Rgb = refl

pub size_passed : (z : Size) → sizing_of (host_size z) ≡ Ok z
size_passed z = kind_passed z.width z.height z.kind

energy-passed : (e : EnergyRule) → finding_of (record { energy = energy_number e }) ≡ Ok (record { energy = e })
unfolding finding_of
energy-passed Edge = refl
energy-passed Flat = refl
energy-passed Forward = refl

pub method_passed : (how : Method) → finding_of (host_method how) ≡ Ok how
method_passed how = energy-passed how.energy
