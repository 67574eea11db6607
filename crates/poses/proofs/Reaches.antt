-- How far turned, offset and swept corners reach.
use Rattle.std.proofs.Common.{ℕ, true, false, cond, ◌++◌, map, IfOk, Ok, Err, arith}
use Rattle.std.specs.List.{AllByRecursion}
use Rattle.std.proofs.ByRecursion.{All-append, All-map, All-weaker}
use Rattle.std.proofs.lemmas.Int.{ints}
use Rattle.integers.specs.Points.{Pt, ◌+ᵛ◌}
use Rattle.integers.specs.Space.{Near}
use Rattle.exact.specs.Space.{at}
use Rattle.parts.specs.Books.{Part}
use Rattle.poses.specs.declared.turn.Turn.{Turn}
use Rattle.poses.specs.declared.turn.Turn.TheVariants.{Straight, Quarter, Half, ThreeQuarters}
use Rattle.poses.specs.declared.pose.Pose.{Pose}
use Rattle.poses.specs.Poses.{turned, placed, still, posed}

-- a turned point reaches as far
pub turned-near : (n : ℕ) (t : Turn) (p : Pt) → Near n p → Near n (turned t p)
turned-near n Straight p h = h
turned-near n Quarter p h = (omega (arith, ints), h.0, h.2)
turned-near n Half p h = (omega (arith, ints), omega (arith, ints), h.2)
turned-near n ThreeQuarters p h = (h.1, omega (arith, ints), h.2)

-- a corner of a part that is moved by at most 9
pub moved_near : (p q : Pt) → Near 5 p → Near 9 q → Near 14 (p +ᵛ q)
moved_near p q h k = (omega (arith, ints), omega (arith, ints), omega (arith, ints))

-- the same, moved by an offset and then by a travel
moved_twice : (p o v : Pt) → Near 5 p → Near 9 (o +ᵛ v) → Near 14 (p +ᵛ o +ᵛ v)
moved_twice p o v h k = (omega (arith, ints), omega (arith, ints), omega (arith, ints))

-- a travel from within ±9 to within ±9
pub travel_near : (o v : Pt) → Near 9 o → Near 9 (o +ᵛ v) → Near 18 v
travel_near o v h k = (omega (arith, ints), omega (arith, ints), omega (arith, ints))

-- the corners of a part in a pose
pub posed-near : (s : Pose) (m : Part) → IfOk m (λ ps. AllByRecursion (Near 5) ps) → IfOk (posed s m) (λ ps. AllByRecursion (Near 14) ps)
posed-near s (Ok ps) h =
    let o = at s.offset in let v = at s.travel in let qs = map (placed s.turn o) ps in let rs = map (λ p. p +ᵛ v) qs in
    let here : AllByRecursion (Near 14) qs = All-map _ (placed s.turn o) ps (All-weaker _ _ (λ p k. moved_near (turned s.turn p) o (turned-near 5 s.turn p k) s.near) ps h) in
    let there : AllByRecursion (Near 14) rs = All-map _ (λ p. p +ᵛ v) qs (All-map _ (placed s.turn o) ps (All-weaker _ _ (λ p k. moved_twice (turned s.turn p) o v (turned-near 5 s.turn p k) s.reach) ps h)) in
    elim (still v) as (λ b. AllByRecursion (Near 14) (cond b qs (qs ++ rs))) [ true ↦ here | false ↦ All-append _ qs rs here there ]
posed-near s (Err e) h = tt
