-- What is asked of two bodies. A body is the list of its corners, or the slip by which it refuses every call.
use Rattle.std.specs.Prelude.{◌≡◌, List, Ok, Err, Result}
use Rattle.refusals.specs.declared.Refusal.{Refusal}
use Rattle.integers.specs.Points.{Pt}

-- P of the corners of both bodies and the answer; where a body refuses, its slip, and the first body's where both do
abbrev pub OfBoth : {X : Type 0} → (List Pt → List Pt → X → Type 0) → Result (List Pt) Refusal → Result (List Pt) Refusal → Result X Refusal → Type 0
OfBoth P (Err s) second r = r ≡ Err s
OfBoth P (Ok ps) (Err s) r = r ≡ Err s
OfBoth P (Ok ps) (Ok qs) (Ok x) = P ps qs x
OfBoth P (Ok ps) (Ok qs) (Err e) = ⊥
