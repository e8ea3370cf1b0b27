-- The items of a line.
use Rattle.pictures.specs.declared.sizes.Kind.{Kind}
use Rattle.pictures.specs.declared.sizes.Kind.TheVariants.{Grey, Rgb}
use Rattle.text_rules.specs.declared.Items.{Items}
use Rattle.text_rules.specs.declared.Items.TheVariants.{Samples, Pixels}

-- A grey row's items are samples, an rgb row's are pixels.
abbrev pub items_of : Kind → Items
items_of Grey = Samples
items_of Rgb = Pixels
