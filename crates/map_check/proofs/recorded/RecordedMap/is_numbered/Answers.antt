-- `map_check::recorded::RecordedMap::is_numbered` meets its contract: every row is judged.
use Rattle.std.proofs.Common.{rules, ◌≡◌, ◌∙◌, ap, ◌*◌, ◌/◌, ◌<◌, length, arith}
use borrow.Author.Tests.{tests}
use Rattle.std.specs.List.{list_all}
use Rattle.std.specs.Slice.Iter.{chunks_exact_rest, chunks_exact_size}
use Rattle.std.proofs.lemmas.Iterator.Search.{all_from_yields_List}
use Rattle.std.proofs.Math.Nat.{mul-div_left}
use Rattle.grids.specs.Rows.{rows_of}
use Rattle.pictures.specs.Numbers.{numbers_in}
use Rattle.map_theory.specs.Judged.{numbers}
use Rattle.map_check.proofs.Chunks.{chunks-road, all_rows}
use Rattle.map_check.proofs.recorded.RecordedMap.is_numbered.Goals as goal

pub returns : goal.returns
returns c =
    let z = c.args.self.now in
    let s = c.chunks_exact.result in
    let bytes : chunks_exact_rest c.chunks_exact.result ≡ z.bytes.now = c.chunks_exact.ensures.rest in
    let size : chunks_exact_size c.chunks_exact.result ≡ 2 * z.width = c.chunks_exact.ensures.size in
    let some : 0 < chunks_exact_size c.chunks_exact.result = omega (arith, size, z.sized.deep) in
    let many : length z.bytes.now / (2 * z.width) ≡ z.height = ap (◌/ (2 * z.width)) z.sized.long ∙ mul-div_left z.height (omega (arith, z.sized.deep)) in
    let all : c.all.result ≡ list_all (λ row. numbers z.depth (numbers_in row)) (rows_of (chunks_exact_size s) (length (chunks_exact_rest s) / chunks_exact_size s) (chunks_exact_rest s)) =
    all_from_yields_List (λ row. numbers z.depth (numbers_in row)) _ _ _ c.all.ensures.ran (chunks-road s some) (λ x b q k. search (rules, tests)) in
    (rw (size, bytes, many) at all) ∙ all_rows (numbers z.depth) z.width z.height z.bytes.now
