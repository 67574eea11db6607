-- What holds of the corners of both bodies, where neither refuses, and how a slip is passed on.
use Rattle.std.proofs.Common.{◌≡◌, ℕ, List, Ok, Err, Result, ap, arith}
use Rattle.refusals.specs.declared.Refusal.{Refusal}
use Rattle.integers.specs.Points.{Pt}
use Rattle.nearest.specs.Bodies.{OfBoth}

-- no answer is a slip
never : {X : Type 0} (x : X) (e : Refusal) → Ok x ≡ Err e → ⊥
never x e h = let z : ◌≡◌ {A = ℕ} 0 1 = cc in omega arith

-- one slip, of two answers
same_slip : {X : Type 0} (d e : Refusal) → ◌≡◌ {A = Result X Refusal} (Err d) (Err e) → d ≡ e
same_slip d e h = cc

-- the slip of one answer is that of another
pub slip : {X Y : Type 0} (P : List Pt → List Pt → X → Type 0) (Q : List Pt → List Pt → Y → Type 0) (A B : Result (List Pt) Refusal) (e : Refusal) → OfBoth P A B (Err e) → OfBoth Q A B (Err e)
slip P Q (Err s) B e h = ap Err (same_slip e s h)
slip P Q (Ok ps) (Err s) e h = ap Err (same_slip e s h)
slip P Q (Ok ps) (Ok qs) e h = h

-- what follows of one answer, whatever the bodies are
pub regardless : {X : Type 0} (P : List Pt → List Pt → X → Type 0) (C : Type 0) (A B : Result (List Pt) Refusal) (x : X) → OfBoth P A B (Ok x) → ((ps qs : List Pt) → P ps qs x → C) → C
regardless P C (Err s) B x h f = absurd (never x s h)
regardless P C (Ok ps) (Err s) x h f = absurd (never x s h)
regardless P C (Ok ps) (Ok qs) x h f = f ps qs h

-- another answer, from one, and from two
pub on : {X Y : Type 0} (P : List Pt → List Pt → X → Type 0) (Q : List Pt → List Pt → Y → Type 0) (A B : Result (List Pt) Refusal) (x : X) (y : Y) → OfBoth P A B (Ok x) → ((ps qs : List Pt) → P ps qs x → Q ps qs y) → OfBoth Q A B (Ok y)
on P Q (Err s) B x y h f = absurd (never x s h)
on P Q (Ok ps) (Err s) x y h f = absurd (never x s h)
on P Q (Ok ps) (Ok qs) x y h f = f ps qs h

pub both : {X Y Z : Type 0} (P : List Pt → List Pt → X → Type 0) (Q : List Pt → List Pt → Y → Type 0) (R : List Pt → List Pt → Z → Type 0) (A B : Result (List Pt) Refusal) (x : X) (y : Y) (z : Z) → OfBoth P A B (Ok x) → OfBoth Q A B (Ok y) → ((ps qs : List Pt) → P ps qs x → Q ps qs y → R ps qs z) → OfBoth R A B (Ok z)
both P Q R (Err s) B x y z h k f = absurd (never x s h)
both P Q R (Ok ps) (Err s) x y z h k f = absurd (never x s h)
both P Q R (Ok ps) (Ok qs) x y z h k f = f ps qs h k
