-- What a mirror answers of a part: which corner is farthest.
use Rattle.std.specs.Prelude.{◌≡◌, [], ◌∷◌, pos, ◌+ℤ◌, Ok, Err, refl}
use Rattle.integers.specs.Points.{Pt, dot}
use Rattle.integers.proofs.Solver.{solve, var, neg, con, ◌⊕◌, ◌⊗◌}
use Rattle.convex.specs.Hulls.{Found}
use Rattle.exact.specs.Spots.{PartCorner, spot}
use Rattle.parts.specs.Books.{Part}
use Rattle.parts.proofs.Farthests.{farthest-map}
use Rattle.parts.specs.Moves.{flipped}
use Rattle.layers.specs.Layers.{mirrored}

-- to flip a corner is to flip the direction
dot-flipped : (d p : Pt) → dot d (flipped p) ≡ dot (flipped d) p +ℤ pos 0
dot-flipped d p = solve (d.x ∷ d.y ∷ d.z ∷ p.x ∷ p.y ∷ p.z ∷ []) (var 0 ⊗ neg (var 3) ⊕ var 1 ⊗ var 4 ⊕ var 2 ⊗ var 5) (neg (var 0) ⊗ var 3 ⊕ var 1 ⊗ var 4 ⊕ var 2 ⊗ var 5 ⊕ con (pos 0)) refl

-- the farthest corner, flipped, of the part below along the flipped direction
pub mirrored-found : (m : Part) (d e : Pt) (c r : PartCorner) → e ≡ flipped d → spot r ≡ flipped (spot c) → Found spot m e (Ok c) → Found spot (mirrored m) d (Ok r)
mirrored-found (Ok ps) d e c r way is h = rw is (farthest-map flipped d (flipped d) (pos 0) (dot-flipped d) ps (spot c) (rw way at h))
mirrored-found (Err s) d e c r way is h = absurd h
