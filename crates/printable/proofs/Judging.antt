-- What `usable` and `printing` mean, of any edges, poses and numbers: usable holds exactly if every test does; `printing` says yes exactly if it is usable;
-- what it says of gravity is said of every pose; the measures are finite exactly where the last edge has a residual. Assumes nothing.
use Rattle.numbers.specs.declared.Failure.{Failure}
use Rattle.exp_log.specs.Formats.{Twist}
use Rattle.std.specs.Prelude.{Err, Ok, Result}
use mathlib.Core.Path.{◌≡◌, refl, sym, ap, subst, ◌∙◌}
use mathlib.Core.Bool.{Bool, true, false, not, ◌&&◌, true≢false}
use Prim.Native.Nat.{ℕ, zero, suc, ◌-◌, ◌^◌, ◌≤◌}
use lib.Dec.{T}
use lib.Ieee.{Float, nan, inf, fin, lt, le, is_nan}
use lib.Ieee.Bits.{is_true}
use lib.Ieee.Scale.{finite}
use Rattle.numbers.specs.Notation.{ratio, if_then}
use Rattle.numbers.specs.Walks.{every}
use Rattle.numbers.proofs.Order.{lt_through, lt_either}
use Rattle.rotations.specs.Formats.{Vec3}
use Rattle.rotations.specs.declared.Pose.{Pose}
use Rattle.graph.specs.Graph.{Graph}
use Rattle.graph.specs.declared.Edge.{Edge}
use Rattle.graph.specs.declared.Manifold.{Manifold}
use Rattle.graph.specs.declared.Manifold.TheVariants.{Se3, Gravity}
use Rattle.residual.specs.Residuals.{has_residual}
use Rattle.printable.specs.declared.Measures.{Measures}
use Rattle.printable.specs.declared.Printable.{Printable}
use Rattle.printable.specs.declared.Printable.TheVariants as printable
use Rattle.rotations.specs.Rotation.{unit_vec}
use Rattle.printable.specs.Measures.{edge_residual, residual_norm, last_residual, measures_of}
use Rattle.printable.specs.Measures.{gravity_cosine, least_cosine, gravity_kept, smallest_cosine, cosine_of}
use Rattle.printable.specs.Printing.{finite_measures, cost_fell, last_no_worse, usable, usable_run, printing, printing_run}
use Rattle.printable.proofs.Costs.{Sound, residual_sound, length_finite, cost_finite}

-- ---- usable: every test

pub record Usable (converged kept : Bool) (m : Measures) : Type 0 where
  pub has_converged_lem : converged ≡ true
  pub initial_finite : finite m.initial_cost ≡ true
  pub final_finite : finite m.final_cost ≡ true
  pub before_finite : finite m.new_loop_residual_before ≡ true
  pub after_finite : finite m.new_loop_residual_after ≡ true
  pub gravity_kept_lem : kept ≡ true
  pub cost_lower : lt m.final_cost m.initial_cost ≡ true
  pub last_no_larger : le m.new_loop_residual_after m.new_loop_residual_before ≡ true

-- eight tests that hold
all_hold : (a b c d e f g h : Bool) → (a && ((b && (c && (d && e))) && (f && (g && h)))) ≡ true
    → (a ≡ true) × (b ≡ true) × (c ≡ true) × (d ≡ true) × (e ≡ true) × (f ≡ true) × (g ≡ true) × (h ≡ true)
all_hold false b c d e f g h p = absurd (true≢false (sym p))
all_hold true false c d e f g h p = absurd (true≢false (sym p))
all_hold true true false d e f g h p = absurd (true≢false (sym p))
all_hold true true true false e f g h p = absurd (true≢false (sym p))
all_hold true true true true false f g h p = absurd (true≢false (sym p))
all_hold true true true true true false g h p = absurd (true≢false (sym p))
all_hold true true true true true true false h p = absurd (true≢false (sym p))
all_hold true true true true true true true false p = absurd (true≢false (sym p))
all_hold true true true true true true true true p = (refl, refl, refl, refl, refl, refl, refl, refl)

pub usable_means : (converged kept : Bool) (m : Measures)
    → (usable converged kept m ≡ true → Usable converged kept m) × (Usable converged kept m → usable converged kept m ≡ true)
unfolding usable
usable_means converged kept m = (so, for)
  where
    so : usable converged kept m ≡ true → Usable converged kept m
    so h =
        let e =
        all_hold converged (finite m.initial_cost) (finite m.final_cost) (finite m.new_loop_residual_before)
        (finite m.new_loop_residual_after) kept (cost_fell m) (last_no_worse m) h
        in
        record {
          has_converged_lem = e.0;
          initial_finite = e.1;
          final_finite = e.2;
          before_finite = e.3;
          after_finite = e.4;
          gravity_kept_lem = e.5;
          cost_lower = e.6;
          last_no_larger = e.7;
        }

    for : Usable converged kept m → usable converged kept m ≡ true
    for u =
        rw (
          u.has_converged_lem,
          u.initial_finite,
          u.final_finite,
          u.before_finite,
          u.after_finite,
          u.gravity_kept_lem,
          u.cost_lower,
          u.last_no_larger,
        )

-- ---- gravity: no pose's cosine is below the least allowed exactly if the smallest is not

-- the smallest is no NaN, and one more cosine keeps the rule
number_below : (x y : Float) → lt x y ≡ true → T (not (is_nan x))
unfolding lt is_nan
number_below nan y h = absurd (true≢false (sym h))
number_below (inf s) y h = tt
number_below (fin s m e) y h = tt

smaller_number : (c s : Float) → T (not (is_nan s)) → T (not (is_nan (if_then (lt c s) c s)))
unfolding if_then
smaller_number c s h = go (lt c s) refl
  where
    go : (t : Bool) → lt c s ≡ t → T (not (is_nan (if_then t c s)))
    go true e = number_below c s e
    go false e = h

smallest_number : (g : Vec3) (n : ℕ) (before after : ℕ → Pose) → T (not (is_nan (smallest_cosine g n before after)))
unfolding smallest_cosine
smallest_number g zero before after = unfold ratio is_nan in tt
smallest_number g (suc x) before after =
    smaller_number (gravity_cosine g (before x) (after x)) (smallest_cosine g x before after) (smallest_number g x before after)

one_more_lem : (c s b : Float) → T (not (is_nan s)) → (not (lt s b) && not (lt c b)) ≡ not (lt (if_then (lt c s) c s) b)
unfolding if_then
one_more_lem c s b number = go (lt c s) (lt s b) (lt c b) refl refl refl
  where
    go : (cs sb cb : Bool) → lt c s ≡ cs → lt s b ≡ sb → lt c b ≡ cb → (not sb && not cb) ≡ not (lt (if_then cs c s) b)
    go true true cb h k l = rw (is_true (lt c b) (lt_through c s b (subst T (sym h) tt) (subst T (sym k) tt)))
    go true false cb h k l = rw l
    go false true cb h k l = rw k
    go false false false h k l = rw k
    go false false true h k l = absurd (true≢false (sym (is_true (lt s b) (lt_either c s b number (subst T (sym l) tt) h)) ∙ k))

all_by_smallest : (g : Vec3) (n : ℕ) (before after : ℕ → Pose)
    → every (λ x. not (lt (gravity_cosine g (before x) (after x)) least_cosine)) n ≡ not (lt (smallest_cosine g n before after) least_cosine)
unfolding every smallest_cosine
all_by_smallest g zero before after = unfold ratio lt in refl
all_by_smallest g (suc x) before after =
    rw (all_by_smallest g x before after)
    (one_more_lem (gravity_cosine g (before x) (after x)) (smallest_cosine g x before after) least_cosine (smallest_number g x before after))

pub kept_by_smallest : (m : Manifold) (n : ℕ) (before after : ℕ → Pose) → gravity_kept m n before after ≡ not (lt (cosine_of m n before after) least_cosine)
unfolding gravity_kept cosine_of
kept_by_smallest Se3 n before after = unfold ratio lt in refl
kept_by_smallest (Gravity g) n before after = all_by_smallest (unit_vec g) n before after

-- ---- printing says yes exactly of what is usable

-- whatever the tests say: converged, finite, tipped, lower, no larger
abbrev answer : ℕ → ℕ → Float → Measures → Bool → Bool → Bool → Bool → Bool → Printable
answer iterations limit cosine m c f t l n =
    if_then (not f) printable.NoResidual
    (if_then (not c) (printable.NotConverged iterations limit)
    (if_then t (printable.Tipped cosine)
    (if_then (not l) (printable.CostKept m.initial_cost m.final_cost)
    (if_then (not n) (printable.LastWorse m.new_loop_residual_before m.new_loop_residual_after)
    printable.Yes))))

abbrev is_yes : Printable → Bool
is_yes printable.Yes = true
is_yes printable.NoResidual = false
is_yes (printable.NotConverged iterations limit) = false
is_yes (printable.Tipped cosine) = false
is_yes (printable.CostKept before after) = false
is_yes (printable.LastWorse before after) = false

never : {X : Type 0} (p : Printable) → is_yes p ≡ false → p ≡ printable.Yes → X
never p h e = absurd (true≢false (sym (ap is_yes e) ∙ h))

pub printing_yes : (converged : Bool) (iterations limit : ℕ) (cosine : Float) (m : Measures)
    → (printing converged iterations limit cosine m ≡ printable.Yes → usable converged (not (lt cosine least_cosine)) m ≡ true)
    × (usable converged (not (lt cosine least_cosine)) m ≡ true → printing converged iterations limit cosine m ≡ printable.Yes)
unfolding printing usable if_then
printing_yes converged iterations limit cosine m = (
  so converged (finite_measures m) (lt cosine least_cosine) (cost_fell m) (last_no_worse m),
  for converged (finite_measures m) (lt cosine least_cosine) (cost_fell m) (last_no_worse m),
)
  where
    so : (c f t l n : Bool) → answer iterations limit cosine m c f t l n ≡ printable.Yes → (c && (f && (not t && (l && n)))) ≡ true
    so false false t l n h = never _ refl h
    so false true t l n h = never _ refl h
    so true false t l n h = never _ refl h
    so true true true l n h = never _ refl h
    so true true false false n h = never _ refl h
    so true true false true false h = never _ refl h
    so true true false true true h = refl

    for : (c f t l n : Bool) → (c && (f && (not t && (l && n)))) ≡ true → answer iterations limit cosine m c f t l n ≡ printable.Yes
    for false f t l n h = absurd (true≢false (sym h))
    for true false t l n h = absurd (true≢false (sym h))
    for true true true l n h = absurd (true≢false (sym h))
    for true true false false n h = absurd (true≢false (sym h))
    for true true false true false h = absurd (true≢false (sym h))
    for true true false true true h = refl

pub printing_usable : {P : Type 0} (converged : Bool) (iterations limit : ℕ) (m : Manifold) (n : ℕ) (g : Graph P Edge) (before after : ℕ → Pose)
    → (printing_run converged iterations limit m n g before after ≡ printable.Yes → usable_run converged m n g before after ≡ true)
    × (usable_run converged m n g before after ≡ true → printing_run converged iterations limit m n g before after ≡ printable.Yes)
printing_usable converged iterations limit m n g before after =
    rw (kept_by_smallest m n before after) (printing_yes converged iterations limit (cosine_of m n before after) (measures_of g before after))

-- ---- the measures

last_finite : (r : Result Twist Failure) → Sound r → finite (residual_norm r) ≡ has_residual r
last_finite (Ok d) s = length_finite d s
last_finite (Err why) s = refl

pub finite_measures_lem : {P : Type 0} (g : Graph P Edge) (before after : ℕ → Pose) → g.edges ≤ 2 ^ 32
    → finite_measures (measures_of g before after) ≡ (has_residual (edge_residual g before (g.edges - 1)) && has_residual (edge_residual g after (g.edges - 1)))
unfolding measures_of last_residual
finite_measures_lem g before after few =
    rw (cost_finite g before few, cost_finite g after few, last_finite (edge_residual g before (g.edges - 1)) (residual_sound _ _ _))
    (ap (λ b. has_residual (edge_residual g before (g.edges - 1)) && b) (last_finite (edge_residual g after (g.edges - 1)) (residual_sound _ _ _)))
