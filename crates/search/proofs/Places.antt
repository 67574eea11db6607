-- The places of a list, one step after another, and the first best of them by place.
use Rattle.std.proofs.Common.{◌≡◌, ℕ, zero, suc, ◌+◌, ◌-◌, ◌<◌, Bool, true, false, List, [], ◌∷◌, length, get_or, Some, None, Option, sym, refl, ap, ◌∙◌, subst, subst₂, add-zero, zero-add, arith, length-append}
use Rattle.std.proofs.lemmas.List.{get_or_append_left, get_or-append_right}
use Rattle.search.specs.declared.Scored.{Scored}
use Rattle.std.proofs.ByRecursion.{All-get_or}
use Rattle.search.specs.Firsts.{FirstBest, Chosen}
use Rattle.search.specs.Places.{scored, FirstPlace, Placed}

module _ {X S : Type 0} (f : X → S) where
  pub get_or-scored : (xs : List X) (i k : ℕ) (d : X) (e : Scored ℕ S) → k < length xs → get_or (scored f i xs) k e ≡ record { candidate = i + k; score = f (get_or xs k d) }
  get_or-scored [] i k d e h = absurd (omega arith)
  get_or-scored (x ∷ xs) i zero d e h = ap (λ (n : ℕ). record { candidate = n; score = f x }) (sym (add-zero i))
  get_or-scored (x ∷ xs) i (suc k) d e h = get_or-scored xs (i + 1) k d e (omega arith) ∙ ap (λ (n : ℕ). record { candidate = n; score = f (get_or xs k d) }) (shift i k)
    where
      shift : (i k : ℕ) → i + 1 + k ≡ i + suc k
      shift i k = omega arith

  candidate_scored : (xs : List X) (i k : ℕ) (e : Scored ℕ S) → k < length xs → (get_or (scored f i xs) k e).candidate ≡ i + k
  candidate_scored [] i k e h = absurd (omega arith)
  candidate_scored (x ∷ xs) i k e h = ap (λ (t : Scored ℕ S). t.candidate) (get_or-scored (x ∷ xs) i k x e h)

  pub length-scored : (i : ℕ) (xs : List X) → length (scored f i xs) ≡ length xs
  length-scored i [] = refl
  length-scored i (x ∷ xs) = ap suc (length-scored (i + 1) xs)

  module _ (nb : S → S → Bool) where
    abbrev by_score : Scored ℕ S → Scored ℕ S → Bool
    by_score x y = nb x.score y.score

    -- the first best of the places is the first best place
    first_place : (xs : List X) (s : Scored ℕ S) → FirstBest by_score (scored f 0 xs) s → FirstPlace nb f xs s
    first_place xs s h = record {
      inside = subst (λ n. n < length xs) (sym place) seat;
      score_is = λ d. ap (λ t. t.score) (whole d) ∙ ap (λ n. f (get_or xs n d)) (sym place);
      best = λ k d l. subst (λ (t : Scored ℕ S). nb t.score s.score ≡ true) (get_or-scored xs 0 k d s l) (All-get_or (λ y. by_score y s ≡ true) (scored f 0 xs) k s (rw (length-scored 0 xs) l) h.best);
      first = λ k d l. subst (λ (t : Scored ℕ S). nb s.score t.score ≡ false) (earlier k d (subst (λ n. k < n) place l)) (All-get_or (λ y. by_score s y ≡ false) h.before k s (subst (λ n. k < n) place l) h.first);
    }
      where
        seat : length h.before < length xs
        seat = omega (arith, sym (length-scored 0 xs) ∙ ap length h.among ∙ length-append h.before (s ∷ h.behind))

        at_seat : s ≡ get_or (scored f 0 xs) (length h.before) s
        at_seat = sym (ap (λ (l : List (Scored ℕ S)). get_or l (length h.before) s) h.among ∙ get_or-append_right h.before (s ∷ h.behind) (length h.before) (length h.before) s refl (omega arith) ∙ ap (λ (j : ℕ). get_or (s ∷ h.behind) j s) (none (length h.before)))
          where
            none : (m : ℕ) → m - m ≡ 0
            none m = omega arith

        whole : (d : X) → s ≡ record { candidate = 0 + length h.before; score = f (get_or xs (length h.before) d) }
        whole d = at_seat ∙ get_or-scored xs 0 (length h.before) d s seat

        place : s.candidate ≡ length h.before
        place = ap (λ (t : Scored ℕ S). t.candidate) at_seat ∙ candidate_scored xs 0 (length h.before) s seat ∙ zero-add (length h.before)

        earlier : (k : ℕ) (d : X) → k < length h.before → get_or h.before k s ≡ record { candidate = 0 + k; score = f (get_or xs k d) }
        earlier k d l = sym (get_or_append_left h.before (s ∷ h.behind) s k l) ∙ ap (λ (l : List (Scored ℕ S)). get_or l k s) (sym h.among) ∙ get_or-scored xs 0 k d s (omega (arith, seat))

    placed_from_start : (xs : List X) (r : Option (Scored ℕ S)) → Chosen by_score (scored f 0 xs) r → Placed nb f xs r
    placed_from_start [] None h = refl
    placed_from_start (x ∷ xs) None h = let z : ◌≡◌ {A = ℕ} 1 0 = cc (ap length h) in absurd (omega arith)
    placed_from_start xs (Some s) h = first_place xs s h

    -- of a walk that starts at place 0 with all of xs to come
    pub placed : (xs ys : List X) (i : ℕ) (r : Option (Scored ℕ S)) → i ≡ 0 → ys ≡ xs → Chosen by_score (scored f i ys) r → Placed nb f xs r
    placed xs ys i r start all h = placed_from_start xs r (subst₂ (λ j zs. Chosen by_score (scored f j zs) r) start all h)
