-- A box and its eight corners.
use Rattle.std.specs.Prelude.{cond, List, [], ◌∷◌, map, ℤ, pos, int_lt}
use Rattle.integers.specs.Points.{Pt}
use Rattle.parts.specs.declared.octant.Side.{Side}
use Rattle.parts.specs.declared.octant.Side.TheVariants.{Low, High}
use Rattle.parts.specs.declared.octant.Octant.{Octant}

-- what a side takes of two coordinates
abbrev pub taken : Side → ℤ → ℤ → ℤ
taken Low l h = l
taken High l h = h

-- the corner of the box from l to h
abbrev pub vertex : Pt → Pt → Octant → Pt
vertex l h o = record { x = taken o.x l.x h.x; y = taken o.y l.y h.y; z = taken o.z l.z h.z }

abbrev octant : Side → Side → Side → Octant
octant a b c = record { x = a; y = b; z = c }

-- the corners from 0 to 7: the bits 4, 2 and 1 of the number stand for x, y and z; a clear bit takes low, a set one high
abbrev pub octants : List Octant
octants =
    octant Low Low Low
    ∷ octant Low Low High
    ∷ octant Low High Low
    ∷ octant Low High High
    ∷ octant High Low Low
    ∷ octant High Low High
    ∷ octant High High Low
    ∷ octant High High High
    ∷ []

-- the eight corners of the box from l to h
abbrev pub box : Pt → Pt → List Pt
box l h = map (vertex l h) octants

-- high where the number is above 0
abbrev pub side : ℤ → Side
side k = cond (int_lt (pos 0) k) High Low

-- the corner of a box that lies farthest along d
abbrev pub towards : Pt → Octant
towards d = record { x = side d.x; y = side d.y; z = side d.z }
