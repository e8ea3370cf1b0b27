-- `seam_turn::close_columns` meets its contract. The exchanged picture stands at the front of the work space; what closing it up
-- says of the seam is the answer, and where the seam is served the picture left is exchanged back.
use mathlib.Core.Path.{◌≡◌, sym, ap, ap₂, ◌∙◌}
use mathlib.Core.List.{List, ◌++◌, append-nil, append_assoc}
use Prim.Native.Nat.{ℕ, zero, suc, ◌+◌, ◌-◌, ◌*◌, ◌≤◌}
use native.Mathlib.Omega.{arith}
use borrow.Rule.Slice.PartMut.{mid_of, put_mid}
use borrow.Author.Rules.{rules}
use Rattle.std.specs.Prelude.{Result, Err}
use lib.ListN.{length, take, drop, replicate, take-append-drop}
use lib.Seq.{drop-length}
use Rattle.grids.specs.Cut.{cut}
use Rattle.grids.proofs.Parts.{put_part, part_length}
use Rattle.pictures.specs.declared.sizes.Size.{Size}
use Rattle.pictures.specs.declared.refusals.Refusal.{Refusal}
use Rattle.pictures.specs.Refusals.{number_of, given, refusal, served}
use Rattle.pictures.specs.Pictures.{pixel_bytes, picture_bytes, side_rules, picture, bytes}
use Rattle.pictures.proofs.Rules.{number-some, refused-kept}
use Rattle.pictures.proofs.Limits.{Sized, sized_is}
use Rattle.seam_moves.specs.Moving.{ExchangeGiven}
use Rattle.seam_close.specs.Closing.{CloseGiven}
use Rattle.seam_rules.specs.declared.answers.Axis.TheVariants.{Horizontal}
use Rattle.seam_rules.specs.Axes.{turned_size, narrowed}
use Rattle.seam_rules.specs.Cuts.{close_along_lengths}
use Rattle.seam_rules.proofs.Rooms.{CloseRoom, close_room}
use Rattle.seam_turn.specs.Axes.{turned}
use Rattle.seam_turn.specs.Turning.{close_along_rules, turned_in, left_work}
use Rattle.seam_turn.proofs.Columns.{Inside, close_inside, rest_of, front_is, front-sized, left-bytes, left-sides, kept-is, back_none, back_is}
use Rattle.seam_turn.proofs.Served.{close_number}
use Rattle.seam_turn.proofs.close_columns.Goals as goal

-- What stood after a part at the front is as it was, whether the part was written or not.
after_front : {A : Type 0} (n k : ℕ) (x freed work front : List A) → front ≡ served n (x ++ freed) (take k work) → front ++ drop k work ≡ served n (x ++ (freed ++ drop k work)) work
after_front zero k x freed work front e = ap (◌++ drop k work) e ∙ append_assoc x freed (drop k work)
after_front (suc n) k x freed work front e = ap (◌++ drop k work) e ∙ take-append-drop k work

-- After the exchanged picture was closed up at the front of the work space.
module _ {z over-size : Size} (b s work : List ℕ) (lengths : refusal (close_along_lengths Horizontal z (length b) (length s) (length work)) ≡ 0)
    {front : List ℕ} {u : Result (Unit {0}) Refusal}
    (turns : over-size ≡ turned_size Horizontal z) (closes : CloseGiven (take (length b) work) over-size s u front) where
  c : CloseGiven (take (length b) work) (turned_size Horizontal z) s u front
  c = rw turns at closes

  -- what the lengths say
  fits : CloseRoom Horizontal z (length b) (length s) (length work)
  fits = close_room Horizontal z (length b) (length s) (length work) lengths

  sure : Sized z (length b)
  sure = sized_is _ _ fits.sized

  number_is : given u ≡ refusal (close_along_rules Horizontal z (length b) s (length work))
  number_is = c.number ∙ close_number Horizontal z (length b) s (length work) lengths (length (take (length b) work)) (front-sized z b s work sure fits.room)

  -- the work space, with the picture closed up at its front
  abbrev closed : List ℕ
  closed = front ++ drop (length b) work

  work_is : closed ≡ left_work Horizontal z s (given u) work
  unfolding left_work
  work_is =
      after_front (given u) (length b) (bytes z.kind (rest_of z work s)) (replicate (z.width * pixel_bytes z.kind) 0) work front
      (c.picture_left ∙ ap (λ k. served (given u) (bytes z.kind (cut s (picture (turned_size Horizontal z) k)) ++ replicate (z.width * pixel_bytes z.kind) 0) (take (length b) work)) (front_is z b s work sure fits.room))
      ∙ ap (λ k. served (given u) (bytes z.kind (rest_of z work s) ++ (replicate (z.width * pixel_bytes z.kind) 0 ++ drop k work)) work) sure.length_is

  -- where it is served, it lies inside
  module _ (done : given u ≡ 0) where
    inside : Inside (turned_size Horizontal z) s
    inside = close_inside (take (length b) work) (turned_size Horizontal z) s front u c done

    -- the bytes of the picture left
    abbrev kept : ℕ
    kept = picture_bytes (narrowed (turned_size Horizontal z))

    kept-fits : kept + z.width * pixel_bytes z.kind ≡ length b
    kept-fits = left-bytes z b s work sure fits.room inside

    lent_is : take kept closed ≡ bytes z.kind (rest_of z work s)
    lent_is = kept-is z b s work sure fits.room inside front u c (drop (length b) work)

    -- exchanged back, which isn't refused, with what was freed cleared
    module _ {n : ℕ} {left : Size} (narrows : left ≡ narrowed over-size) (counted : n ≡ served (refusal (side_rules left)) (picture_bytes left) 0)
        {pic : List ℕ} {t : Result (Unit {0}) Refusal} (goes : ExchangeGiven (take n closed) left b t pic) where
      left_is : left ≡ narrowed (turned_size Horizontal z)
      left_is = narrows ∙ ap narrowed turns

      many : n ≡ kept
      many = rw left_is at counted ∙ ap (λ m. served m kept 0) (left-sides z b s work sure fits.room inside)

      gb : ExchangeGiven (take n closed) (narrowed (turned_size Horizontal z)) b t pic
      gb = rw left_is at goes

      lent : take n closed ≡ bytes z.kind (rest_of z work s)
      lent = ap (λ m. take m closed) many ∙ lent_is

      back_served : given t ≡ 0
      back_served = back_none z b s work sure fits.room inside (take n closed) b pic t gb lent (omega (arith, kept-fits))

      back : {end : List ℕ} → length pic ≡ length b → end ≡ replicate (length (mid_of n (length pic - n) pic)) 0
          → put_mid n (length pic - n) pic end
          ≡ bytes z.kind (turned Horizontal (narrowed (turned_size Horizontal z)).width (cut s (turned_in Horizontal z b work))) ++ replicate (z.width * pixel_bytes z.kind) 0
      back {end} long freed_is =
          let enough : n ≤ length pic = omega (arith, many, kept-fits) in
          let freed : length pic - n ≡ z.width * pixel_bytes z.kind = omega (arith, many, kept-fits) in
          put_part n (length pic) pic end enough
          ∙ ap₂ (λ front rest. front ++ (end ++ rest))
          (ap (λ m. take m pic) many ∙ back_is z b s work sure fits.room inside (take n closed) b pic t gb lent (omega (arith, kept-fits)))
          (drop-length pic)
          ∙ ap (bytes z.kind (turned Horizontal (narrowed (turned_size Horizontal z)).width (cut s (turned_in Horizontal z b work))) ++◌)
          (append-nil end ∙ freed_is ∙ ap (λ m. replicate m 0) (part_length n (length pic) pic (omega arith) ∙ freed))

pub returns-in_err-close_up : goal.returns-in_err-close_up
returns-in_err-close_up c =
    let a = c.args in
    let v = c.from_residual.result in
    let why = c.in_err-close_up.field-0.0 in
    let is : v ≡ Err why = search rules in
    let same : given v ≡ given c.close_up.result = ap given (is ∙ sym c.in_err-close_up.was) in
    record {
      number = same ∙ number_is a.picture.now a.seam.now a.work.now c.requires.lengths c.turned_size-turned.ensures c.close_up.ensures;
      picture_left =
          refused-kept v why is
          (bytes a.size.kind (turned Horizontal (narrowed (turned_size Horizontal a.size)).width (cut a.seam.now (turned_in Horizontal a.size a.picture.now a.work.now))) ++ replicate (a.size.width * pixel_bytes a.size.kind) 0)
          a.picture.now;
      work_left = work_is a.picture.now a.seam.now a.work.now c.requires.lengths c.turned_size-turned.ensures c.close_up.ensures ∙ ap (λ n. left_work Horizontal a.size a.seam.now n a.work.now) (sym same);
    }

pub returns-in_err-exchange : goal.returns-in_err-exchange
returns-in_err-exchange c =
    let a = c.args in
    let none =
    back_served a.picture.now a.seam.now a.work.now c.requires.lengths c.turned_size-turned.ensures c.close_up.ensures (ap given c.in_ok-close_up.was)
    c.narrower-left.ensures c.picture_bytes-kept.ensures c.exchange.ensures in
    let refused : given c.exchange.result ≡ number_of c.in_err-exchange.field-0.0 = ap given c.in_err-exchange.was in
    absurd (omega (arith, none, refused, number-some c.in_err-exchange.field-0.0))

pub returns : goal.returns
returns c =
    let done : given c.close_up.result ≡ 0 = ap given c.in_ok-close_up.was in
    let a = c.args in
    record {
      number = sym done ∙ number_is a.picture.now a.seam.now a.work.now c.requires.lengths c.turned_size-turned.ensures c.close_up.ensures;
      picture_left =
          back a.picture.now a.seam.now a.work.now c.requires.lengths c.turned_size-turned.ensures c.close_up.ensures done
          c.narrower-left.ensures c.picture_bytes-kept.ensures c.exchange.ensures c.exchange.auto.to c.clear.ensures;
      work_left = work_is a.picture.now a.seam.now a.work.now c.requires.lengths c.turned_size-turned.ensures c.close_up.ensures ∙ ap (λ n. left_work Horizontal a.size a.seam.now n a.work.now) done;
    }
