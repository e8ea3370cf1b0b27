-- The words of a file that are no numbers: names.
use Rattle.std.specs.Prelude.{cond, List, [], ◌∷◌, ℕ, eqb, get_or}
use Rattle.std.proofs.Math.Option.{Option, none, some}
use Rattle.pictures.specs.declared.sizes.Kind.{Kind}
use Rattle.pictures.specs.declared.sizes.Kind.TheVariants as kind
use Rattle.energy.specs.declared.methods.EnergyRule.{EnergyRule}
use Rattle.energy.specs.declared.methods.EnergyRule.TheVariants as rule
use Rattle.text_theory.specs.declared.Name.{Name}
use Rattle.text_theory.specs.declared.Name.TheVariants as name
use Rattle.text_theory.specs.Readers.{Get, give, ◌▷◌, after, either, known}

abbrev pub name_text : Name → List ℕ
name_text name.Multi = 109 ∷ 117 ∷ 108 ∷ 116 ∷ 105 ∷ []  -- 'multi'
name_text name.Size = 115 ∷ 105 ∷ 122 ∷ 101 ∷ []  -- 'size'
name_text name.Range = 114 ∷ 97 ∷ 110 ∷ 103 ∷ 101 ∷ []  -- 'range'
name_text name.Energy = 101 ∷ 110 ∷ 101 ∷ 114 ∷ 103 ∷ 121 ∷ []  -- 'energy'
name_text name.Row = 114 ∷ 111 ∷ 119 ∷ []  -- 'row'
name_text name.Map = 109 ∷ 97 ∷ 112 ∷ []  -- 'map'
name_text name.Grey = 103 ∷ 114 ∷ 101 ∷ 121 ∷ []  -- 'grey'
name_text name.Rgb = 114 ∷ 103 ∷ 98 ∷ []  -- 'rgb'
name_text name.Edge = 101 ∷ 100 ∷ 103 ∷ 101 ∷ []  -- 'edge'
name_text name.Flat = 102 ∷ 108 ∷ 97 ∷ 116 ∷ []  -- 'flat'
name_text name.Forward = 102 ∷ 111 ∷ 114 ∷ 119 ∷ 97 ∷ 114 ∷ 100 ∷ []  -- 'forward'

-- The number of a name, by which two are told apart.
abbrev pub name_number : Name → ℕ
name_number name.Multi = 0
name_number name.Size = 1
name_number name.Range = 2
name_number name.Energy = 3
name_number name.Row = 4
name_number name.Map = 5
name_number name.Grey = 6
name_number name.Rgb = 7
name_number name.Edge = 8
name_number name.Flat = 9
name_number name.Forward = 10

-- All names, in the order in which they are looked for: one that begins another would stand after it.
abbrev pub all_names : List Name
all_names = name.Multi ∷ name.Size ∷ name.Range ∷ name.Energy ∷ name.Row ∷ name.Map ∷ name.Grey ∷ name.Rgb ∷ name.Edge ∷ name.Flat ∷ name.Forward ∷ []

-- The i-th of them; past the last, the first.
abbrev pub name_at : ℕ → Name
name_at i = get_or all_names i name.Multi

-- The first of these names that stands at the front.
unfoldable pub one_of : List Name → Get Name
one_of [] s = none
one_of (n ∷ ns) s = either (after (name_text n) (give n) s) (one_of ns s)

unfoldable pub name_get : Get Name
name_get = one_of all_names

-- The name n, and no other.
unfoldable pub named : Name → Get ℕ
named n = name_get ▷ λ m. cond (eqb (name_number m) (name_number n)) (give 0) (λ s. none)

-- The first of these values that has the name.
abbrev pub called : {A : Type 0} → (A → Name) → List A → Name → Option A
called f [] n = none
called f (x ∷ xs) n = cond (eqb (name_number (f x)) (name_number n)) (some x) (called f xs n)

-- One of these values, read by its name: no other name is one's.
abbrev pub called_get : {A : Type 0} → (A → Name) → List A → Get A
called_get f xs = name_get ▷ λ n. known (called f xs n)

-- A kind by its name.
abbrev pub kind_name : Kind → Name
kind_name kind.Grey = name.Grey
kind_name kind.Rgb = name.Rgb

abbrev pub all_kinds : List Kind
all_kinds = kind.Grey ∷ kind.Rgb ∷ []

abbrev pub kind_named : Name → Option Kind
kind_named = called kind_name all_kinds

unfoldable pub kind_text : Kind → List ℕ
kind_text k = name_text (kind_name k)

unfoldable pub kind_get : Get Kind
kind_get = called_get kind_name all_kinds

-- An energy rule by its name.
abbrev pub rule_name : EnergyRule → Name
rule_name rule.Edge = name.Edge
rule_name rule.Flat = name.Flat
rule_name rule.Forward = name.Forward

abbrev pub all_rules : List EnergyRule
all_rules = rule.Edge ∷ rule.Flat ∷ rule.Forward ∷ []

abbrev pub rule_named : Name → Option EnergyRule
rule_named = called rule_name all_rules

unfoldable pub rule_text : EnergyRule → List ℕ
rule_text e = name_text (rule_name e)

unfoldable pub rule_get : Get EnergyRule
rule_get = called_get rule_name all_rules
