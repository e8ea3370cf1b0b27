-- What hosts see of a row at a width, from what the operation promises.
use mathlib.Core.Path.{◌≡◌, sym, ◌∙◌}
use mathlib.Core.Bool.{false}
use mathlib.Core.List.{List}
use Prim.Native.Nat.{ℕ, ◌*◌, ◌≤◌}
use lib.ListN.{length}
use Rattle.pictures.specs.declared.sizes.Kind.{Kind}
use Rattle.pictures.specs.declared.sizes.Size.{Size}
use Rattle.std.specs.Prelude.{Result, Ok}
use Rattle.pictures.specs.declared.refusals.Refusal.{Refusal}
use Rattle.pictures.specs.Refusals.{given}
use Rattle.pictures.specs.Pictures.{pixel_bytes}
use Rattle.map_show.specs.Showing.{pixels_at, RowAtGiven}
use Rattle.map_show.proofs.Judging.{length-served, room-served}
use Rattle.export_answers.specs.Named.{sizing_of}
use Rattle.exports.specs.Files.{row_size, HostRowAtGiven}

-- There is room for it where nothing is refused; and what is answered there.
pub row_at-room : {k : Kind} {samples numbers out out' : List ℕ} {wanted : ℕ} {v : Result Unit Refusal} → RowAtGiven k false samples numbers wanted out v out' → given v ≡ 0 → pixels_at numbers wanted * pixel_bytes k ≤ length out
row_at-room {k} {samples} {numbers} {out} {wanted = wanted} g e = room-served k false samples numbers wanted (length out) (sym g.number ∙ e)

module _ {kind : ℕ} {z : Size} {samples numbers out out' : List ℕ} {wanted : ℕ} {v : Result Unit Refusal} (s-is : sizing_of (row_size (length numbers) kind) ≡ Ok z) (g : RowAtGiven z.kind false samples numbers wanted out v out') where
  pub served-row_at : given v ≡ 0 → HostRowAtGiven samples kind numbers wanted out (record { number = 0; value = pixels_at numbers wanted * pixel_bytes z.kind }) out'
  served-row_at e =
      record {
        number = rw s-is (sym e ∙ g.number);
        value = rw s-is (sym (length-served z.kind false samples numbers wanted (length out) (sym g.number ∙ e)));
        out_given = rw s-is (rw e at g.out_given);
      }
