-- The bytes of each read stand after those of the reads before.
use Rattle.std.proofs.Common.{◌≡◌, ℕ, ◌+◌, ◌-◌, ◌≤◌, List, ◌++◌, rules, length, take, subst, le_refl, drop_at, length-take-le}
use Rattle.std.proofs.lemmas.Slice.{take-put_mid_below}
use Rattle.std.specs.Io.KnownBytes.{Consumes}
use Rattle.std.proofs.KnownBytes.{Consumes-trans}
use borrow.Rule.Slice.PartMut.{put_mid, post_of}
use lib.Seq.{take-add, take-append-le}
use Rattle.program_rules.proofs.inputs.read_full.Goals as goal

-- A prefix of what is put behind the first a numbers, behind those.
joined : (a k n : ℕ) (xs ys : List ℕ) → a ≤ length xs → n ≤ length ys → take a xs ++ take n ys ≡ take (a + n) (put_mid a k xs ys)
joined a k n xs ys w f =
    let after = post_of a k xs in
    rw (take-add a n (put_mid a k xs ys), take-put_mid_below a k xs ys a (le_refl a) w, drop_at (take a xs) (ys ++ after) a (length-take-le a xs w), take-append-le n ys after f)

pub loop-done-preserved : goal.loop-done-preserved
loop-done-preserved g c =
    let done = c.loop-done.done in
    let room = length c.loop-done.space - done in
    let e = joined done room c.in-Ok.n c.loop-done.space c.read.new.buf c.loop-done.invariant.within c.in-Ok.ensures.bound.0 in
    record {
      within = search rules;
      moved = subst (Consumes _ _) e (Consumes-trans _ _ _ _ _ c.loop-done.invariant.moved c.in-Ok.ensures.bytes.0);
    }
