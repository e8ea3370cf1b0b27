-- A number that names none is refused by 1.
use mathlib.Core.Path.{◌≡◌, refl, sym, subst}
use mathlib.Core.Bool.{Bool, true, false, cond}
use Prim.Native.Nat.{ℕ}
use lib.Dec.{eqb}
use Rattle.std.specs.Prelude.{Result, Ok, Err}
use Rattle.pictures.specs.declared.sizes.Kind.TheVariants.{Grey, Rgb}
use Rattle.pictures.specs.declared.sizes.Size.{Size}
use Rattle.pictures.specs.declared.refusals.Refusal.{Refusal}
use Rattle.pictures.specs.declared.refusals.Refusal.TheVariants.{Form}
use Rattle.pictures.specs.Refusals.{number_of}
use Rattle.energy.specs.declared.methods.EnergyRule.TheVariants.{Edge, Flat, Forward}
use Rattle.energy.specs.declared.methods.Method.{Method}
use Rattle.seam_rules.specs.declared.answers.Axis.{Axis}
use Rattle.export_answers.specs.declared.names.HostSize.{HostSize}
use Rattle.export_answers.specs.declared.names.HostMethod.{HostMethod}
use Rattle.export_answers.specs.declared.names.Carving.{Carving}
use Rattle.export_answers.specs.declared.names.Seaming.{Seaming}
use Rattle.export_answers.specs.Named.{sizing_of, finding_of, turning_of, carving_from, carving_of, seaming_from, seaming_of}

-- Whatever a host names is known, or refused by 1.
abbrev Told : {A : Type 0} → Result A Refusal → Type 0
Told (Ok x) = Unit {0}
Told (Err why) = number_of why ≡ 1

two : {A : Type 0} (t u : Bool) (x y : A) → Told (cond t (Ok x) (cond u (Ok y) (Err Form)))
two true u x y = tt
two false true x y = tt
two false false x y = refl

three : {A : Type 0} (t u v : Bool) (x y z : A) → Told (cond t (Ok x) (cond u (Ok y) (cond v (Ok z) (Err Form))))
three true u v x y z = tt
three false u v x y z = two u v y z

size_told : (s : HostSize) → Told (sizing_of s)
unfolding sizing_of
size_told s = two (eqb s.kind 0) (eqb s.kind 1) (record { width = s.width; height = s.height; kind = Grey }) (record { width = s.width; height = s.height; kind = Rgb })

carving_told : (s : HostSize) (m : HostMethod) → Told (carving_of s m)
unfolding carving_of finding_of
carving_told s m =
    from (sizing_of s) (finding_of m) (size_told s)
    (three (eqb m.energy 0) (eqb m.energy 1) (eqb m.energy 2) (record { energy = Edge }) (record { energy = Flat }) (record { energy = Forward }))
  where
    from : (z : Result Size Refusal) (how : Result Method Refusal) → Told z → Told how → Told (carving_from z how)
    from (Ok z) (Ok how) p q = tt
    from (Ok z) (Err why) p q = q
    from (Err why) how p q = p

seaming_told : (s : HostSize) (m : HostMethod) (k : ℕ) → Told (seaming_of s m k)
unfolding seaming_of turning_of
seaming_told s m k = from (carving_of s m) (turning_of k) (carving_told s m) (two (eqb k 0) (eqb k 1) _ _)
  where
    from : (c : Result Carving Refusal) (x : Result Axis Refusal) → Told c → Told x → Told (seaming_from c x)
    from (Ok c) (Ok x) p q = tt
    from (Ok c) (Err why) p q = q
    from (Err why) x p q = p

pub size_unknown : (s : HostSize) (why : Refusal) → Err why ≡ sizing_of s → number_of why ≡ 1
size_unknown s why e = subst (λ (r : Result Size Refusal). Told r) (sym e) (size_told s)

pub carving_unknown : (s : HostSize) (m : HostMethod) (why : Refusal) → Err why ≡ carving_of s m → number_of why ≡ 1
carving_unknown s m why e = subst (λ (r : Result Carving Refusal). Told r) (sym e) (carving_told s m)

pub seaming_unknown : (s : HostSize) (m : HostMethod) (k : ℕ) (why : Refusal) → Err why ≡ seaming_of s m k → number_of why ≡ 1
seaming_unknown s m k why e = subst (λ (r : Result Seaming Refusal). Told r) (sym e) (seaming_told s m k)
