-- A part of a list that is lent from a place on, and what comes back of it; and the two halves of a list, element by element. Assumes nothing.
use Rattle.std.proofs.Common.{◌≡◌, ℕ, ◌+◌, ◌-◌, ◌<◌, ◌≤◌, List, ◌++◌, length, get_or, take, drop, sym, ap, ◌∙◌, append-nil, le_refl, arith, length-drop, drop_of_length-le, length-take, get_or-drop, take_all, get_or-take, ext_get_or}
use mathlib.Core.Path.{fun_ext}

-- a part from `at` on, as it is lent; and the list with what came back
abbrev pub part_from : {A : Type 0} → ℕ → List A → List A
part_from at w = take (length w - at) (drop at w)

abbrev pub with_part : {A : Type 0} → ℕ → List A → List A → List A
with_part at w ys = take at w ++ (ys ++ drop (length w - at) (drop at w))

module _ {A : Type 0} (at : ℕ) (w : List A) where
  long_enough : length (drop at w) ≤ length w - at
  long_enough = rw length-drop (le_refl _)

  pub part_from_lem : part_from at w ≡ drop at w
  part_from_lem = take_all (length w - at) (drop at w) long_enough

  pub with_part_lem : (ys : List A) → with_part at w ys ≡ take at w ++ ys
  with_part_lem ys =
      ap (λ (z : List A). take at w ++ (ys ++ z)) (drop_of_length-le (drop at w) long_enough)
      ∙ ap (λ (z : List A). take at w ++ z) (append-nil ys)

  -- its elements
  pub part_reads : (d : A) → ◌≡◌ {A = ℕ → A} (λ i. get_or (part_from at w) i d) (λ i. get_or w (at + i) d)
  part_reads d = fun_ext (λ i. ap (λ (l : List A). get_or l i d) part_from_lem ∙ get_or-drop at w i d)

  pub length_part : length (part_from at w) ≡ length w - at
  length_part = ap length part_from_lem ∙ length-drop at w

module _ {A : Type 0} (d : A) (h : ℕ) (l l' : List A) (same : length l' ≡ length l) where
  -- a half whose numbers are kept is kept
  pub first_kept : ((q : ℕ) → q < h → get_or l' q d ≡ get_or l q d) → take h l' ≡ take h l
  first_kept k =
      ext_get_or d (take h l') (take h l) (simp length-take (rw same))
      (λ q p. let r : q < h = omega (arith, length-take h l') in get_or-take h l' q d r ∙ k q r ∙ sym (get_or-take h l q d r))

  pub second_kept : ((q : ℕ) → h ≤ q → get_or l' q d ≡ get_or l q d) → drop h l' ≡ drop h l
  second_kept k =
      ext_get_or d (drop h l') (drop h l) (simp length-drop (rw same))
      (λ q p. get_or-drop h l' q d ∙ k (h + q) (omega arith) ∙ sym (get_or-drop h l q d))
