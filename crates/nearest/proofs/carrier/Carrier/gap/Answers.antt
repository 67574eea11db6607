use Rattle.std.proofs.Common.{◌≤◌, nat_abs, sym, subst}
use Rattle.integers.proofs.Order.{<ℤ→≤ℤ}
use Rattle.integers.proofs.Overflow.{passed}
use Rattle.convex.specs.Fractions.{SquareOf}
use Rattle.convex.proofs.Sizes.{size_by}
use Rattle.nearest.specs.Vectors.{to}
use Rattle.nearest.specs.Shapes.{carried}
use Rattle.nearest.proofs.Rooms.{roomy}
use Rattle.nearest.proofs.Pairs.{near-foot, near_corner, size_gap, positive, size_extent}
use Rattle.nearest.proofs.Faces.{square_is, gap-low}
use Rattle.nearest.proofs.Tells.{cast_fits, cast_is, extent-kept, gap_bounds}
use Rattle.nearest.proofs.carrier.Carrier.gap.Goals as goal

pub dot-square-requires : goal.dot-square-requires
dot-square-requires c = roomy 619573248 28 (near-foot c.args.self) (near_corner c.args.self (to c.corner.result) c.corner.ensures) tt tt tt

pub overflow_cast-result : goal.overflow_cast-result
overflow_cast-result c =
    let s = c.args.self in let y = to c.corner.result in let h = c.corner.ensures in let e = c.dot-square.ensures in
    cast_fits _ _ (passed c.dot-square.result c.dot-square.type_inv) (gap-low s y _ h e) (size_by e (size_gap s y h))

pub invariant_of-result : goal.invariant_of-result
invariant_of-result c =
    let s = c.args.self in
    let (low, over, few) = gap_bounds _ _ c.dot-square.result s.extent (passed c.dot-square.result c.dot-square.type_inv) (extent-kept s) (size_by c.dot-square.ensures (size_gap s (to c.corner.result) c.corner.ensures)) (positive s) (size_extent s) in
    record { low = low; over = over; few = few }

pub returns : goal.returns
returns c =
    let s = c.args.self in let y = to c.corner.result in let h = c.corner.ensures in let e = c.dot-square.ensures in
    record {
      square = subst (λ t. SquareOf (carried s) t s.extent) (sym (cast_is _ _ (passed c.dot-square.result c.dot-square.type_inv) (gap-low s y _ h e))) (square_is s y _ h e);
      over = cast_is _ _ (extent-kept s) (<ℤ→≤ℤ (positive s));
      high = subst (λ t. nat_abs t ≤ 17348050944) (sym (passed c.dot-square.result c.dot-square.type_inv)) (size_by e (size_gap s y h));
    }
