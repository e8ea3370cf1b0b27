-- `energy::kernels::difference` meets its contract: the chain sums how far the samples are apart.
use Rattle.std.proofs.Common.{rules, ◌≡◌, ◌∙◌, ℕ, get_or, Fits, w8, arith}
use borrow.Author.Tests.{tests}
use Rattle.std.specs.List.{sum_by, zip}
use Rattle.std.proofs.lemmas.Iterator.{YieldsList-from_slice, YieldsList-from_zip, YieldsList-from_map}
use Rattle.std.proofs.lemmas.Iterator.Consumers.{YieldsList-at, sum_by_from_yields_List}
use Rattle.energy.specs.Energy.{difference as Energy·difference}
use Rattle.energy.proofs.Differences.{apart_of, difference_is, difference_most}
use Rattle.energy.proofs.kernels.difference.Goals as goal

pub returns : goal.returns
returns c =
    let a = c.args.a.now in
    let b = c.args.b.now in
    let fits_a : (i : ℕ) → Fits w8 (get_or a i 0) = search rules in
    let fits_b : (i : ℕ) → Fits w8 (get_or b i 0) = search rules in
    let road = YieldsList-from_zip (YieldsList-at c.zip.ensures.first (YieldsList-from_slice a c.iter.ensures.rest)) (YieldsList-from_slice b c.zip.ensures.second.0) in
    let is : c.sum.result ≡ sum_by apart_of (zip a b) =
    sum_by_from_yields_List apart_of (zip a b) c.map.result c.sum.result c.sum.ensures.ran
    (YieldsList-from_map _ apart_of (YieldsList-at c.map.ensures.source road) c.map.ensures.closure (λ x r q k. search (rules, tests)))
    in
    let whole : c.sum.result ≡ Energy·difference a b = is ∙ difference_is a b in
    (whole, omega (arith, whole, c.requires, difference_most a b (λ i. omega (arith, fits_a i)) (λ i. omega (arith, fits_b i))))
