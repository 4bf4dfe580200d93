-- The numbers that the Rust tests and the port need not, since in every run they are finite: the gradient's norm, the damped diagonal, the step's norm. Document 01, "What is turned down".
-- Assumes nothing.
use Rattle.std.specs.Prelude.{Ok}
use mathlib.Core.Path.{◌≡◌, refl, subst}
use mathlib.Core.Bool.{Bool, true, false}
use mathlib.Core.List.{List, []}
use Prim.Native.Nat.{ℕ, ◌*◌, ◌<◌, ◌≤◌}
use native.Mathlib.Nat.{le_refl, mul-le-mul}
use native.Mathlib.Omega.{arith}
use lib.Dec.{T}
use lib.Ieee.{Float, binary32, lt, fits}
use lib.Ieee.Scale.{finite}
use Rattle.numbers.specs.Notation.{◌⊞◌, num, if_then}
use Rattle.numbers.specs.Walks.{done}
use Rattle.roots.proofs.Bounded.{norm_finite, damped_finite}
use Rattle.graph.specs.Graph.{Links, links_of, free_count}
use Rattle.graph.specs.Lent.{dof_of, pose_at}
use Rattle.checks.specs.Input.{Input, graph_of}
use Rattle.checks.specs.Table.{blocks_of, checks}
use Rattle.checks.specs.declared.Counts.{Counts}
use Rattle.graph.specs.declared.Edge.{Edge}
use Rattle.graph.specs.declared.Manifold.{Manifold}
use Rattle.rows.specs.declared.Settings.{Settings}
use Rattle.graph.proofs.Degrees.{dof_most}
use Rattle.checks.proofs.Passed.{PassedGraph, fit}
use Rattle.retraction.specs.Retraction.{unit_of}
use Rattle.assembly.proofs.Walked.{Fits, lent_fits}
use Rattle.assembly.proofs.AllFinite.{Finite, edges_finite, matrix_finite, matrix_fits, gradient_finite, gradient_fits}
use Rattle.solve.specs.Rule.{solvable}
use Rattle.profile.specs.Layout.{hessian_of}
use Rattle.solve.specs.Work.{gradient_of, step_in}
use Rattle.solve.proofs.StepFits.{step_fits, step_finite}
use Rattle.decisions.specs.Damping.{lambda_max}
use Rattle.decisions.specs.Run.{begun}
use Rattle.decisions.specs.Machine.{Play, play}
use Rattle.decisions.specs.declared.State.{State}
use Rattle.decisions.specs.declared.Next.TheVariants as next
use Rattle.decisions.proofs.Levels.{at_above, at_most}
use Rattle.decisions.proofs.Bounds.{Live}
use Rattle.decisions.proofs.Machines.{played_live}
use Rattle.sparse_pgo.specs.Parts.{Parts, step, no_step, numerics}
use Rattle.trials.specs.Trials.{norm_of}
use Rattle.sparse_pgo.specs.Numerics.{parts_on}
use Rattle.sparse_pgo.proofs.Looping.{not_above}
use Rattle.checks.proofs.Slots.{links_same}
use Rattle.sparse_pgo.specs.Refusing.{run_parts}

-- of the system of n unknowns at the poses x, and of its step at damping d
pub record AlwaysFinite (p : Parts (List Float) (List Float) (ℕ → Float)) (n : ℕ) (x : List Float) (d : Float) : Type 0 where
  pub gradient_norm : (w : List Float) → p.assembled x ≡ done w → finite (norm_of (gradient_of w n) n) ≡ true
  pub damped_diagonal : (w : List Float) → p.assembled x ≡ done w → (i : ℕ) → i < n → finite (hessian_of w n i i ⊞ d) ≡ true
  pub step_norm : (w : List Float) (δ : ℕ → Float) → p.assembled x ≡ done w → p.solve w d ≡ step δ → finite (norm_of δ n) ≡ true

-- ---- for edges whose blocks lie within n unknowns, n at most 384, and a damping above 0 and at most 1e10

module _ (m : Manifold) (n poses : ℕ) (set : Settings) (l : Links Edge) (fit : Fits m n l) (few : n ≤ 384) (x : List Float) (d : Float) where
  abbrev p : Parts (List Float) (List Float) (ℕ → Float)
  p = parts_on m n poses set l

  system : (w : List Float) → p.assembled x ≡ done w → Finite n w
  unfolding parts_on
  system w e = edges_finite n m l (pose_at x) [] fit w e

  norm : (v : ℕ → Float) → ((i : ℕ) → i < n → finite (v i) ≡ true) → ((i : ℕ) → i < n → T (fits binary32 (v i))) → finite (norm_of v n) ≡ true
  unfolding norm_of
  norm v h f = norm_finite v n few h f

  solved : (w : List Float) (δ : ℕ → Float) → p.solve w d ≡ step δ → finite (norm_of δ n) ≡ true
  unfolding parts_on if_then
  solved w δ = go (solvable (hessian_of w n) (gradient_of w n) n d) refl
    where
      go : (b : Bool) → solvable (hessian_of w n) (gradient_of w n) n d ≡ b → if_then b (step (step_in w n d)) no_step ≡ step δ → finite (norm_of δ n) ≡ true
      go true s q =
          let e : step_in w n d ≡ δ = cc in
          subst (λ (v : ℕ → Float). finite (norm_of v n) ≡ true) e
          (norm (step_in w n d) (λ i h. step_finite (hessian_of w n) (gradient_of w n) n d i h s) (λ i h. step_fits (hessian_of w n) (gradient_of w n) n d i h))
      go false s q = let z : ◌≡◌ {A = ℕ} 0 1 = cc in absurd (omega arith)

  parts_finite : lt (num 0) d ≡ true → lt lambda_max d ≡ false → AlwaysFinite p n x d
  parts_finite a b =
      record {
        gradient_norm = λ w e. norm (gradient_of w n) (gradient_finite n w (system w e)) (gradient_fits n w (system w e));
        damped_diagonal = λ w e i h. damped_finite (hessian_of w n i i) d (matrix_fits n w (system w e) i i (le_refl i) h) (matrix_finite n w (system w e) i i (le_refl i) h) a b;
        step_norm = λ w δ e q. solved w δ q;
      }

-- ---- in every run of an input that passes the checks, for a first damping that is an f32: at every turn that it goes on to

module _ (i : Input) where
  abbrev pub unknowns : ℕ
  unknowns = dof_of (unit_of i.manifold) * free_count (graph_of i)

  abbrev pub after : ℕ → Float → Play (List Float)
  after turns cost = play (numerics (run_parts i)) i.settings.limit i.settings.cost_tolerance turns (next.On (begun cost i.settings.damping)) i.poses

  pub blocks_fit : PassedGraph i → Fits (unit_of i.manifold) unknowns (links_of (graph_of i))
  blocks_fit g = subst (Fits (unit_of i.manifold) unknowns) (links_same i g) (lent_fits (unit_of i.manifold) i.ends i.edges (blocks_of i) (free_count (graph_of i)))

  pub always_finite : (c : Counts) → (checks i).answer ≡ Ok c → T (fits binary32 i.settings.damping)
      → (turns : ℕ) (cost : Float) (s : State) → (after turns cost).next ≡ next.On s → AlwaysFinite (run_parts i) unknowns (after turns cost).held s.damping
  always_finite c e f turns cost s q =
      let g = (fit i c e).0.graph in
      let o = (fit i c e).0.settings in
      let v : Live i.settings.limit cost s
      = played_live (numerics (run_parts i)) i.settings.limit i.settings.cost_tolerance cost i.settings.damping i.poses o.most_limit f o.damping_above
      (not_above i.settings.damping o.damping_above o.damping_most) turns s q in
      parts_finite (unit_of i.manifold) unknowns (graph_of i).poses i.settings (links_of (graph_of i)) (blocks_fit g) (mul-le-mul (dof_most (unit_of i.manifold)) g.most_free)
      (after turns cost).held s.damping (at_above _ s.damping v.level) (at_most _ s.damping v.level)
