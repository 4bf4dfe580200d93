-- What an edge that goes well does to the system: to each entry of the lower triangle and of the gradient that it concerns its part is added, once, and all
-- others stay as they were. Assumes nothing.
use Rattle.exp_log.specs.Formats.{Twist}
use Rattle.std.specs.Prelude.{Err, None, Ok, Option, Result, Some}
use mathlib.Core.Path.{◌≡◌, refl, sym, ap, subst, ◌∙◌}
use mathlib.Core.Bool.{Bool, true, false, ◌&&◌, ◌||◌, true≢false}
use mathlib.Core.List.{List, []}
use Prim.Native.Nat.{ℕ, ◌+◌, ◌*◌, ◌/◌, ◌%◌, ◌<◌, ◌≤◌}
use native.Mathlib.Nat.{le_trans, div-add-mod', mod-lt, le-div_iff_mul-le, div-mul-le_self}
use native.Mathlib.Omega.{arith}
use lib.Arith.{digits_div, digits_lt}
use lib.Dec.{eqb, ltb}
use lib.ListN.{length}
use lib.Ieee.{Float}
use borrow.Author.Tests.{le-leb, lt-ltb, ltb-true, ltb-false, eqb-true, eqb-false}
use Rattle.numbers.specs.Notation.{◌⊞◌, if_then}
use Rattle.numbers.specs.Walks.{every, and_then, Went}
use Rattle.numbers.specs.declared.Failure.{Failure}
use Rattle.numbers.proofs.Rows.{told}
use Rattle.rotations.specs.declared.Pose.{Pose}
use Rattle.graph.specs.Graph.{Links}
use Rattle.graph.specs.Lent.{dof_of}
use Rattle.graph.specs.declared.Edge.{Edge}
use Rattle.graph.specs.declared.Manifold.{Manifold}
use Rattle.residual.specs.Residuals.{residual_of, six_of}
use Rattle.residual.specs.declared.EdgeEndpoint.{EdgeEndpoint}
use Rattle.residual.specs.declared.EdgeEndpoint.TheVariants.{A, B}
use Rattle.jacobians.specs.Jacobians.{with_six, jacobian_of}
use Rattle.profile.specs.Layout.{need, hessian_of}
use Rattle.solve.specs.Work.{gradient_of}
use Rattle.additions.specs.Additions.{dot_with, dot_of, gradient_added, on_part, lower_triangle, block_added, end_added, cross_added, ends_added}
use Rattle.additions.proofs.Parts.{part_each}
use Rattle.additions.proofs.Additions.{Sofar, all_added}
use Rattle.additions.proofs.Blocks.{one_place, asked, Added, block_added_lem}
use Rattle.assembly.specs.Assembly.{with_jacobian, one_of, both_of, edge_of}
use Rattle.assembly.specs.Sums.{stands_in}
use Rattle.assembly.proofs.Edges.{dof_some}

-- ---- steps that went well

never_bad : {X : Type 0} (why : Failure) (x y : List Float) → ◌≡◌ {A = Went × List Float} (Err why, x) (Ok tt, y) → X
never_bad why x y e = let q : Err why ≡ (Ok tt) = ap (λ (x : Went × List Float). x.0) e in absurd (let z : ◌≡◌ {A = ℕ} 0 1 = cc in omega arith)

told_well : (b : Bool) → told b ≡ Ok tt → b ≡ true
unfolding if_then
told_well true e = refl
told_well false e = absurd (let z : ◌≡◌ {A = ℕ} 0 1 = cc in omega arith)

-- what is known of a step whose test must hold, if it went well
told_then : (P : List Float → Type 0) (b : Bool) {x : Went × List Float} {y : List Float} → (x.0 ≡ told b) × (b ≡ true → P x.1) → x ≡ (Ok tt, y) → P y
told_then P b a e =
    subst (λ (x : Went × List Float). P x.1) e (a.1 (told_well b (sym a.0 ∙ ap (λ (x : Went × List Float). x.0) e)))

then_both : (x : Went × List Float) (f : List Float → Went × List Float) (y : List Float) → and_then x f ≡ (Ok tt, y)
    → (z : List Float) × (x ≡ (Ok tt, z)) × (f z ≡ (Ok tt, y))
unfolding and_then
then_both (Ok _, z) f y e = (z, refl, e)
then_both (Err why, z) f y e = never_bad why z y e

-- v is added where the test holds
abbrev pub add_if : Bool → Float → Float → Float
add_if t v x = if_then t (x ⊞ v) x

-- ---- what becomes of the system: an entry of the lower triangle by h, a number of the gradient by g
pub record Changed (n : ℕ) (h : ℕ → ℕ → Float → Float) (g : ℕ → Float → Float) (w y : List Float) : Type 0 where
  pub as_long : length y ≡ length w
  pub matrix : (i j : ℕ) → j ≤ i → i < n → hessian_of y n i j ≡ h i j (hessian_of w n i j)
  pub gradient : (i : ℕ) → i < n → gradient_of y n i ≡ g i (gradient_of w n i)

module _ (n : ℕ) where
  changed_then : {h h' : ℕ → ℕ → Float → Float} {g g' : ℕ → Float → Float} {w z y : List Float} → Changed n h g w z → Changed n h' g' z y
      → Changed n (λ i j x. h' i j (h i j x)) (λ i x. g' i (g i x)) w y
  changed_then {h' = h'} {g' = g'} a b =
      record {
        as_long = b.as_long ∙ a.as_long;
        matrix = λ i j o l. b.matrix i j o l ∙ ap (h' i j) (a.matrix i j o l);
        gradient = λ i l. b.gradient i l ∙ ap (g' i) (a.gradient i l);
      }

  changed_as : {h h' : ℕ → ℕ → Float → Float} {g g' : ℕ → Float → Float} {w y : List Float}
      → ((i j : ℕ) → j ≤ i → (x : Float) → h i j x ≡ h' i j x) → ((i : ℕ) (x : Float) → g i x ≡ g' i x) → Changed n h g w y → Changed n h' g' w y
  changed_as p q a =
      record { as_long = a.as_long; matrix = λ i j o l. a.matrix i j o l ∙ p i j o _; gradient = λ i l. a.gradient i l ∙ q i _ }

module _ (n dof : ℕ) (some : 0 < dof) where
  -- ---- a block: the entries with rows in block rb and columns in block cb
  module _ (rb cb : ℕ) (jr jc : List (List Float)) (w y : List Float) (rows_fit : rb * dof + dof ≤ n) (columns-fit : cb * dof + dof ≤ n)
      (room : n * n ≤ length w) (went : block_added lower_triangle n dof rb cb jr jc w ≡ (Ok tt, y)) where
    all_of_it : Added n dof rb cb jr jc w lower_triangle y
    all_of_it =
        told_then (Added n dof rb cb jr jc w lower_triangle) (every (asked n dof rb cb jr jc w lower_triangle) (dof * dof))
        (block_added_lem n dof rb cb jr jc w lower_triangle rows_fit columns-fit room) went

    block_changed : Changed n (λ i j x. add_if (eqb rb (i / dof) && eqb cb (j / dof)) (dot_of jr (i % dof) jc (j % dof)) x) (λ i x. x) w y
    unfolding if_then
    block_changed = record { as_long = all_of_it.as_long; matrix = matrix; gradient = λ i l. all_of_it.outside _ (past i) }
      where
        past : (i r c : ℕ) → r < dof → c < dof → n * n + n + i ≡ (cb * dof + c) * n + (rb * dof + r) → ⊥
        past i r c h l e = let z : (cb * dof + c) * n + (rb * dof + r) < n * n = digits_lt (omega arith) (omega arith) in omega arith

        matrix : (i j : ℕ) → j ≤ i → i < n
            → hessian_of y n i j ≡ add_if (eqb rb (i / dof) && eqb cb (j / dof)) (dot_of jr (i % dof) jc (j % dof)) (hessian_of w n i j)
        matrix i j o l = go (eqb rb (i / dof)) (eqb cb (j / dof)) (eqb-true _ _) (eqb-false _ _) (eqb-true _ _) (eqb-false _ _)
          where
            without : ((rb ≡ i / dof) → (cb ≡ j / dof) → ⊥) → hessian_of y n i j ≡ hessian_of w n i j
            without f =
                all_of_it.outside (j * n + i)
                (λ r c lr lc e. let p = one_place n i j (rb * dof + r) (cb * dof + c) l (omega arith) e in
                f (sym (digits_div rb lr) ∙ ap (λ q. q / dof) (sym p.0)) (sym (digits_div cb lc) ∙ ap (λ q. q / dof) (sym p.1)))

            go : (t u : Bool) → (t ≡ true → rb ≡ i / dof) → (t ≡ false → rb ≡ i / dof → ⊥) → (u ≡ true → cb ≡ j / dof) → (u ≡ false → cb ≡ j / dof → ⊥)
                → hessian_of y n i j ≡ add_if (t && u) (dot_of jr (i % dof) jc (j % dof)) (hessian_of w n i j)
            go true true f _ g _ =
                let ei : rb * dof + i % dof ≡ i = ap (λ q. q * dof + i % dof) (f refl) ∙ div-add-mod' i dof in
                let ej : cb * dof + j % dof ≡ j = ap (λ q. q * dof + j % dof) (g refl) ∙ div-add-mod' j dof in
                rw (ei, ej) at (all_of_it.inside (i % dof) (j % dof) (mod-lt i some) (mod-lt j some) (rw (ei, ej) (le-leb j i o)))
            go true false _ _ _ g = without (λ _. g refl)
            go false u _ f _ _ = without (λ e _. f refl e)

  -- ---- a free end's part of the gradient
  module _ (b : ℕ) (jac : List (List Float)) (r w y : List Float) (fit : b * dof + dof ≤ n) (room : need n ≤ length w) where
    abbrev place : ℕ → ℕ
    place c = n * n + n + b * dof + c

    gradient_changed : on_part (n * n + n + b * dof) (gradient_added dof jac r) w ≡ (Ok tt, y)
        → Changed n (λ i j x. x) (λ i x. add_if (eqb b (i / dof)) (dot_with jac (i % dof) r) x) w y
    unfolding gradient_added if_then
    gradient_changed e =
        record { as_long = sums.as_long; matrix = λ i j o l. sums.others (j * n + i) (λ k h _ q. before i j k o l q); gradient = gradient }
      where
        there : (k : ℕ) → k < dof → true ≡ true → place k < length w
        there k h _ = omega arith

        apart : (i k : ℕ) → i < dof → k < dof → true ≡ true → true ≡ true → place i ≡ place k → i ≡ k
        apart i k _ _ _ _ q = omega arith

        sums : Sofar dof (λ _. true) place (λ c. dot_with jac c r) w there apart dof y
        sums =
            told_then (Sofar dof (λ _. true) place (λ c. dot_with jac c r) w there apart dof) _
            (all_added dof (λ _. true) place (λ c. dot_with jac c r) w there apart)
            (sym (part_each (n * n + n + b * dof) (λ c. dot_with jac c r) dof w) ∙ e)

        before : (i j k : ℕ) → j ≤ i → i < n → j * n + i ≡ place k → ⊥
        before i j k o l q = let z : j * n + i < n * n = digits_lt (omega arith) l in omega arith

        gradient : (i : ℕ) → i < n → gradient_of y n i ≡ add_if (eqb b (i / dof)) (dot_with jac (i % dof) r) (gradient_of w n i)
        gradient i l = go (eqb b (i / dof)) (eqb-true _ _) (eqb-false _ _)
          where
            go : (t : Bool) → (t ≡ true → b ≡ i / dof) → (t ≡ false → b ≡ i / dof → ⊥)
                → gradient_of y n i ≡ add_if t (dot_with jac (i % dof) r) (gradient_of w n i)
            go true f _ =
                let h : b * dof + i % dof ≡ i = ap (λ q. q * dof + i % dof) (f refl) ∙ div-add-mod' i dof in
                let p : place (i % dof) ≡ n * n + n + i = omega arith in
                rw (lt-ltb (i % dof) dof (mod-lt i some), p) at (sums.places (i % dof) (mod-lt i some) refl)
            go false _ f =
                sums.others (n * n + n + i)
                (λ k h _ q. let z : i ≡ b * dof + k = omega arith in f refl (sym (digits_div b h) ∙ ap (λ q. q / dof) (sym z)))

  -- ---- all that a free end adds
  end_changed : (b : ℕ) (jac : List (List Float)) (r w y : List Float) → b * dof + dof ≤ n → need n ≤ length w
      → end_added lower_triangle n dof b jac r w ≡ (Ok tt, y)
      → Changed n (λ i j x. add_if (eqb b (i / dof) && eqb b (j / dof)) (dot_of jac (i % dof) jac (j % dof)) x)
      (λ i x. add_if (eqb b (i / dof)) (dot_with jac (i % dof) r) x) w y
  unfolding end_added
  end_changed b jac r w y fit room e =
      let s = then_both _ _ y e in
      let g = gradient_changed b jac r w s.0 fit room s.1 in
      changed_then n g (block_changed b b jac jac s.0 y fit fit (rw g.as_long (omega arith)) s.2)

-- ---- two ends in different blocks. Whether unknown i is one of a, of b; j too: of the three blocks the entry is in one at most.
module _ (x : Float) (d : Bool → Bool → Float) where
  -- a before b, so that no row of a has a column of b
  merged_up : (ai bi aj bj : Bool) → (ai ≡ true → bi ≡ true → ⊥) → (aj ≡ true → bj ≡ true → ⊥) → (ai ≡ true → bj ≡ true → ⊥)
      → add_if (bi && aj) (d false true) (add_if (bi && bj) (d false false) (add_if (ai && aj) (d true true) x)) ≡ add_if ((ai || bi) && (aj || bj)) (d ai aj) x
  unfolding if_then
  merged_up true true aj bj p q o = absurd (p refl refl)
  merged_up true false true true p q o = absurd (q refl refl)
  merged_up true false true false p q o = refl
  merged_up true false false true p q o = absurd (o refl refl)
  merged_up true false false false p q o = refl
  merged_up false true true true p q o = absurd (q refl refl)
  merged_up false true true false p q o = refl
  merged_up false true false true p q o = refl
  merged_up false true false false p q o = refl
  merged_up false false aj bj p q o = refl

  -- b before a
  merged_down : (ai bi aj bj : Bool) → (ai ≡ true → bi ≡ true → ⊥) → (aj ≡ true → bj ≡ true → ⊥) → (bi ≡ true → aj ≡ true → ⊥)
      → add_if (ai && bj) (d true false) (add_if (bi && bj) (d false false) (add_if (ai && aj) (d true true) x)) ≡ add_if ((ai || bi) && (aj || bj)) (d ai aj) x
  unfolding if_then
  merged_down true true aj bj p q o = absurd (p refl refl)
  merged_down true false true true p q o = absurd (q refl refl)
  merged_down true false true false p q o = refl
  merged_down true false false true p q o = refl
  merged_down true false false false p q o = refl
  merged_down false true true true p q o = absurd (q refl refl)
  merged_down false true true false p q o = absurd (o refl refl)
  merged_down false true false true p q o = refl
  merged_down false true false false p q o = refl
  merged_down false false aj bj p q o = refl

merged_slope : (x : Float) (d : Bool → Float) (ai bi : Bool) → (ai ≡ true → bi ≡ true → ⊥)
    → add_if bi (d false) (add_if ai (d true) x) ≡ add_if (ai || bi) (d ai) x
unfolding if_then
merged_slope x d true true p = absurd (p refl refl)
merged_slope x d true false p = refl
merged_slope x d false true p = refl
merged_slope x d false false p = refl

module _ (dof : ℕ) (ja jb : List (List Float)) (r : List Float) (a b : ℕ → Bool) where
  -- what an edge does to an entry and to a number of the gradient: which unknowns are of its end a, and of its end b
  abbrev pub matrix_by : ℕ → ℕ → Float → Float
  matrix_by i j x = add_if ((a i || b i) && (a j || b j)) (dot_of (if_then (a i) ja jb) (i % dof) (if_then (a j) ja jb) (j % dof)) x

  abbrev pub gradient_by : ℕ → Float → Float
  gradient_by i x = add_if (a i || b i) (dot_with (if_then (a i) ja jb) (i % dof) r) x

module _ (n dof : ℕ) (some : 0 < dof) (ja jb : List (List Float)) (r w y : List Float) (ba bb : ℕ) (differ : ba ≡ bb → ⊥)
    (fit-a : ba * dof + dof ≤ n) (fit-b : bb * dof + dof ≤ n) (room : need n ≤ length w) where
  -- a lower unknown is in a lower block, or in the same
  in_order : (j i : ℕ) → j ≤ i → j / dof ≤ i / dof
  in_order j i o = (le-div_iff_mul-le some).1 (le_trans (div-mul-le_self j dof) o)

  not_both : (i : ℕ) → eqb ba i ≡ true → eqb bb i ≡ true → ⊥
  not_both i p q = differ (eqb-true ba i p ∙ sym (eqb-true bb i q))

  abbrev dots : ℕ → ℕ → Bool → Bool → Float
  dots i j p q = dot_of (if_then p ja jb) (i % dof) (if_then q ja jb) (j % dof)

  abbrev of_a : ℕ → Bool
  of_a i = eqb ba (i / dof)

  abbrev of_b : ℕ → Bool
  of_b i = eqb bb (i / dof)

  -- what is to be shown
  abbrev Both : Type 0
  Both = Changed n (matrix_by dof ja jb r of_a of_b) (gradient_by dof ja jb r of_a of_b) w y

  -- after both ends; then the cross block
  abbrev two_blocks : ℕ → ℕ → Float → Float
  two_blocks i j x = add_if (of_b i && of_b j) (dots i j false false) (add_if (of_a i && of_a j) (dots i j true true) x)

  abbrev two_slopes : ℕ → Float → Float
  two_slopes i x = add_if (of_b i) (dot_with jb (i % dof) r) (add_if (of_a i) (dot_with ja (i % dof) r) x)

  slope : (i : ℕ) (x : Float) → two_slopes i x ≡ gradient_by dof ja jb r of_a of_b i x
  unfolding if_then
  slope i x = merged_slope x (λ p. dot_with (if_then p ja jb) (i % dof) r) (of_a i) (of_b i) (not_both (i / dof))

  module _ (z : List Float) (p : Changed n two_blocks two_slopes w z) (wide : n * n ≤ length z) where
    rising : ba < bb → block_added lower_triangle n dof bb ba jb ja z ≡ (Ok tt, y) → Both
    unfolding if_then
    rising k e =
        changed_as n
        (λ i j o x. merged_up x (dots i j) (of_a i) (of_b i) (of_a j) (of_b j) (not_both (i / dof)) (not_both (j / dof))
        (λ u v. let h = in_order j i o in omega (arith, eqb-true ba (i / dof) u, eqb-true bb (j / dof) v)))
        slope (changed_then n p (block_changed n dof some bb ba jb ja z y fit-b fit-a wide e))

    falling : bb ≤ ba → block_added lower_triangle n dof ba bb ja jb z ≡ (Ok tt, y) → Both
    unfolding if_then
    falling k e =
        changed_as n
        (λ i j o x. merged_down x (dots i j) (of_a i) (of_b i) (of_a j) (of_b j) (not_both (i / dof)) (not_both (j / dof))
        (λ u v. let h = in_order j i o in differ (omega (arith, eqb-true bb (i / dof) u, eqb-true ba (j / dof) v))))
        slope (changed_then n p (block_changed n dof some ba bb ja jb z y fit-a fit-b wide e))

    cross_changed : cross_added lower_triangle n dof ba bb ja jb z ≡ (Ok tt, y) → Both
    unfolding cross_added if_then
    cross_changed e = go (ltb ba bb) (ltb-true _ _) (ltb-false _ _) e
      where
        go : (t : Bool) → (t ≡ true → ba < bb) → (t ≡ false → bb ≤ ba)
            → if_then t (block_added lower_triangle n dof bb ba jb ja z) (block_added lower_triangle n dof ba bb ja jb z) ≡ (Ok tt, y)
            → Both
        go true f _ e = rising (f refl) e
        go false _ f e = falling (f refl) e

  ends_changed : ends_added lower_triangle n dof ba bb ja jb r w ≡ (Ok tt, y) → Both
  unfolding ends_added if_then
  ends_changed e =
      let s = then_both _ _ y e in
      let t = then_both _ _ s.0 s.1 in
      let p = end_changed n dof some ba ja r w t.0 fit-a room t.1 in
      let q = end_changed n dof some bb jb r t.0 s.0 fit-b (rw p.as_long room) t.2 in
      cross_changed s.0 (changed_then n p q) (rw (q.as_long, p.as_long) (omega arith)) s.2

-- ---- an edge that went well has its residual and its Jacobians
six_had : (r : Result Twist Failure) (w y : List Float) (f : List Float → Went × List Float) → with_six r (λ d. f (six_of d)) (λ why. (Err why, w)) ≡ (Ok tt, y)
    → f (with_six r six_of (λ why. [])) ≡ (Ok tt, y)
unfolding with_six
six_had (Ok d) w y f e = e
six_had (Err why) w y f e = never_bad why w y e

jacobian_had : (x : Went × List (List Float)) (w y : List Float) (f : List (List Float) → Went × List Float) → with_jacobian x w f ≡ (Ok tt, y)
    → f x.1 ≡ (Ok tt, y)
unfolding with_jacobian
jacobian_had (Ok _, j) w y f e = e
jacobian_had (Err why, j) w y f e = never_bad why w y e

module _ (m : Manifold) (a b : Pose) (e : Edge) where
  abbrev residuals : List Float
  residuals = with_six (residual_of a b e) six_of (λ why. [])

  abbrev slopes_of : EdgeEndpoint → List (List Float)
  slopes_of end = (jacobian_of m a b e end).1

  one_had : (n : ℕ) (w y : List Float) (end : EdgeEndpoint) (i : ℕ) → one_of lower_triangle m n a b e end i w ≡ (Ok tt, y)
      → end_added lower_triangle n (dof_of m) i (slopes_of end) residuals w ≡ (Ok tt, y)
  unfolding one_of
  one_had n w y end i h =
      jacobian_had (jacobian_of m a b e end) w y (λ j. end_added lower_triangle n (dof_of m) i j residuals w)
      (six_had (residual_of a b e) w y (λ s. with_jacobian (jacobian_of m a b e end) w (λ j. end_added lower_triangle n (dof_of m) i j s w)) h)

  both_had : (n : ℕ) (w y : List Float) (i k : ℕ) → both_of lower_triangle m n a b e i k w ≡ (Ok tt, y)
      → ends_added lower_triangle n (dof_of m) i k (slopes_of A) (slopes_of B) residuals w ≡ (Ok tt, y)
  unfolding both_of
  both_had n w y i k h =
      jacobian_had (jacobian_of m a b e B) w y (λ jb. ends_added lower_triangle n (dof_of m) i k (slopes_of A) jb residuals w)
      (jacobian_had (jacobian_of m a b e A) w y
      (λ ja. with_jacobian (jacobian_of m a b e B) w (λ jb. ends_added lower_triangle n (dof_of m) i k ja jb residuals w))
      (six_had (residual_of a b e) w y
      (λ s. with_jacobian (jacobian_of m a b e A) w (λ ja. with_jacobian (jacobian_of m a b e B) w (λ jb. ends_added lower_triangle n (dof_of m) i k ja jb s w))) h))

-- ---- so an edge does what its slots say
module _ (m : Manifold) (l : Links Edge) (pose : ℕ → Pose) (a b : Pose) (e : Edge) where
  abbrev ja : List (List Float)
  ja = slopes_of m a b e A

  abbrev jb : List (List Float)
  jb = slopes_of m a b e B

  abbrev pub edge_matrix : Option ℕ → Option ℕ → ℕ → ℕ → Float → Float
  edge_matrix sa sb = matrix_by (dof_of m) ja jb (residuals m a b e) (λ i. stands_in m l pose i sa) (λ i. stands_in m l pose i sb)

  abbrev pub edge_gradient : Option ℕ → Option ℕ → ℕ → Float → Float
  edge_gradient sa sb = gradient_by (dof_of m) ja jb (residuals m a b e) (λ i. stands_in m l pose i sa) (λ i. stands_in m l pose i sb)

  never : false ≡ true → ⊥
  never q = true≢false (sym q)

  pub edge_changed : (n : ℕ) (sa sb : Option ℕ) (w y : List Float) → need n ≤ length w
      → ((i : ℕ) → sa ≡ Some i → i * dof_of m + dof_of m ≤ n) → ((i : ℕ) → sb ≡ Some i → i * dof_of m + dof_of m ≤ n)
      → ((i : ℕ) → sa ≡ Some i → sb ≡ Some i → ⊥) → edge_of lower_triangle m n a b e sa sb w ≡ (Ok tt, y)
      → Changed n (edge_matrix sa sb) (edge_gradient sa sb) w y
  unfolding edge_of if_then
  edge_changed n None None w y room fa fb o h =
      subst (λ (x : Went × List Float). Changed n (edge_matrix None None) (edge_gradient None None) w x.1) h
      (record { as_long = refl; matrix = λ i j _ _. refl; gradient = λ i _. refl })
  edge_changed n (Some i) None w y room fa fb o h =
      changed_as n
      (λ p q _ x. merged_up x (λ s t. dot_of (if_then s ja jb) (p % dof_of m) (if_then t ja jb) (q % dof_of m))
      (eqb i (p / dof_of m)) false (eqb i (q / dof_of m)) false (λ _. never) (λ _. never) (λ _. never))
      (λ p x. merged_slope x (λ s. dot_with (if_then s ja jb) (p % dof_of m) (residuals m a b e)) (eqb i (p / dof_of m)) false (λ _. never))
      (end_changed n (dof_of m) (dof_some m) i ja (residuals m a b e) w y (fa i refl) room (one_had m a b e n w y A i h))
  edge_changed n None (Some k) w y room fa fb o h =
      end_changed n (dof_of m) (dof_some m) k jb (residuals m a b e) w y (fb k refl) room (one_had m a b e n w y B k h)
  edge_changed n (Some i) (Some k) w y room fa fb o h =
      ends_changed n (dof_of m) (dof_some m) ja jb (residuals m a b e) w y i k (λ q. o i refl (ap Some (sym q))) (fa i refl) (fb k refl) room
      (both_had m a b e n w y i k h)
