-- The border: what the checks leave known, what the lent numbers mean, and what a run leaves in them. Assumes nothing.
use Rattle.sparse_pgo.specs.declared.Joined.{Joined}
use Rattle.std.specs.Prelude.{Err, Ok, Result}
use mathlib.Core.Path.{◌≡◌, refl, sym, ap, ap₂, ◌∙◌}
use mathlib.Core.List.{List, ◌++◌}
use Prim.Native.Nat.{ℕ, ◌+◌, ◌*◌, ◌^◌, ◌<◌, ◌≤◌}
use native.Mathlib.Nat.{lt_of_le_of_lt, mul-le-mul, mul_comm}
use native.Mathlib.Omega.{arith}
use lib.Dec.{lit<}
use lib.ListN.{length, take, drop, replicate}
use lib.Seq.{length-take-le}
use lib.Ieee.{Float}
use Rattle.numbers.specs.Notation.{num}
use Rattle.numbers.specs.declared.Refusal.{Refusal}
use Rattle.rotations.specs.declared.Pose.{Pose}
use Rattle.graph.specs.Graph.{Graph, Links, free_count, links_of}
use Rattle.graph.specs.Lent.{dof_of, lent_links}
use Rattle.checks.specs.Input.{Input, graph_of, lent}
use Rattle.checks.specs.Table.{blocks_of, checks}
use Rattle.graph.specs.declared.Edge.{Edge}
use Rattle.graph.specs.declared.Manifold.{Manifold}
use Rattle.graph.specs.declared.Manifold.TheVariants.{Se3, Gravity}
use Rattle.rows.specs.declared.Settings.{Settings}
use Rattle.checks.specs.declared.Counts.{Counts}
use Rattle.checks.specs.declared.Checks.{Checks}
use Rattle.graph.proofs.Degrees.{dof_most}
use Rattle.checks.proofs.Passed.{Passed, fit}
use Rattle.retraction.specs.Retraction.{unit_of}
use Rattle.profile.specs.Layout.{need}
use Rattle.sparse_pgo.specs.declared.Setup.{Setup}
use Rattle.sparse_pgo.specs.Parts.{Parts, Whole, whole}
use Rattle.sparse_pgo.specs.Numerics.{parts_on, parts_of}
use Rattle.slices.specs.Slices.{zeroed}
use Rattle.sparse_pgo.specs.Optimize.{after_checks, given, ran, optimized}
use Rattle.sparse_pgo.specs.forms.Turns.{parts_in, Lent, Startable, Begun}
use Rattle.checks.proofs.Slots.{links_same}

-- ---- an input that passes the checks, with what they handed on and its degrees of freedom

pub record Fitted (i : Input) (r : Checks) (c : Counts) (dof : ℕ) : Type 0 where
  pub fits : (checks i).answer ≡ Ok c
  pub passed : Passed i
  pub poses_are : c.poses ≡ (graph_of i).poses
  pub free_are : c.free ≡ free_count (graph_of i)
  pub blocks_are : r.blocks ≡ blocks_of i
  pub dof_is : dof ≡ dof_of i.manifold

pub fitted : (i : Input) (r : Checks) (c : Counts) (dof : ℕ) → r ≡ checks i → r.answer ≡ Ok c → dof ≡ dof_of i.manifold → Fitted i r c dof
unfolding checks
fitted i r c dof e q d =
    let f : (checks i).answer ≡ Ok c = ap (λ (z : Checks). z.answer) (sym e) ∙ q in
    record {
      fits = f;
      passed = (fit i c f).0;
      poses_are = ap (λ (z : Counts). z.poses) (fit i c f).1;
      free_are = ap (λ (z : Counts). z.free) (fit i c f).1;
      blocks_are = ap (λ (z : Checks). z.blocks) e;
      dof_is = d;
    }

module _ {i : Input} {r : Checks} {c : Counts} {dof : ℕ} (f : Fitted i r c dof) where
  n_is : dof * c.free ≡ dof_of i.manifold * free_count (graph_of i)
  n_is = ap₂ (λ (a b : ℕ). a * b) f.dof_is f.free_are

  few : c.free ≤ 64
  few = rw f.free_are f.passed.graph.most_free

  pub n_most : dof * c.free ≤ 384
  n_most = let h : dof ≤ 6 = rw f.dof_is (dof_most i.manifold) in mul-le-mul h few

  pub need_fits : dof * c.free * (dof * c.free + 3) < 2 ^ 64
  need_fits = let h : dof * c.free + 3 ≤ 387 = omega (arith, n_most) in lt_of_le_of_lt (mul-le-mul n_most h) (lit< tt)

  pub poses_most : c.poses ≤ 256
  poses_most = rw f.poses_are f.passed.graph.most_poses

  pub single_fits : dof * c.free * (dof * c.free + 3) ≤ i.room.work32
  single_fits = rw n_is f.passed.graph.work32_enough

  pub double_fits : 24 * c.poses ≤ i.room.work64
  double_fits = rw f.poses_are f.passed.graph.work64_enough

  pub poses_length : length i.poses ≡ c.poses * 12
  poses_length = rw f.poses_are f.passed.graph.poses_length

-- ---- a run on lent numbers

module _ (manifold : Manifold) (poses : List Float) (ends : List ℕ) (edges : List Float) (fixed : List ℕ) (settings : Settings) (work32 work64 out : List Float) where
  abbrev pub lent_input : Input
  lent_input = lent manifold poses ends edges fixed settings (record { work32 = length work32; work64 = length work64; out = length out })

  -- refused by the checks
  pub run_turned : (r : Checks) (x : Refusal) → r ≡ checks lent_input → r.answer ≡ Err x
      → record { answer = Err x; work32 = work32; work64 = work64; out = out } ≡ optimized lent_input work32 work64 out
  unfolding optimized
  run_turned r x e q = ap (after_checks lent_input work32 work64 out) (sym q ∙ ap (λ (z : Checks). z.answer) e)

  -- passed: the setup, with gravity of unit length
  module _ (r : Checks) (c : Counts) (dof : ℕ) (f : Fitted lent_input r c dof) (unit : Manifold) (u : unit ≡ unit_of manifold) where
    abbrev setup : Setup
    setup = record { manifold = unit; n = dof * c.free; poses = c.poses; settings = settings }

    abbrev g : Graph Pose Edge
    g = graph_of lent_input

    unit_dof : dof_of (unit_of manifold) ≡ dof_of manifold
    unfolding unit_of
    unit_dof = go manifold
      where
        go : (m : Manifold) → dof_of (unit_of m) ≡ dof_of m
        go Se3 = refl
        go (Gravity v) = refl

    pub run_lent : Lent setup c.free (take (dof * c.free * (dof * c.free + 3)) work32) (take (24 * c.poses) work64)
    run_lent =
        record {
          sized = record { unknowns = ap (λ (z : ℕ). z * c.free) (f.dof_is ∙ sym unit_dof ∙ ap dof_of (sym u)); few = few f; poses = poses_most f };
          single = length-take-le _ work32 (single_fits f);
          double = length-take-le _ work64 (double_fits f) ∙ mul_comm 24 c.poses;
        }

    pub run_startable : Startable setup
    run_startable =
        let p = f.passed.settings in
        record { limited = p.most_limit; number = p.damping_finite; positive = p.damping_above; bounded = p.damping_most }

    -- its parts are the graph's
    links_are : lent_links ends edges r.blocks c.free ≡ links_of g
    links_are = ap₂ (λ (b : List ℕ) (k : ℕ). lent_links ends edges b k) f.blocks_are f.free_are ∙ links_same lent_input f.passed.graph

    parts_are : parts_in setup (lent_links ends edges r.blocks c.free) ≡ parts_of (unit_of manifold) settings g
    parts_are =
        ap (λ (m : Manifold). parts_on m (dof * c.free) c.poses settings (lent_links ends edges r.blocks c.free)) u
        ∙ ap (λ (n : ℕ). parts_on (unit_of manifold) n c.poses settings (lent_links ends edges r.blocks c.free)) (n_is f ∙ ap (λ (z : ℕ). z * free_count g) (sym unit_dof))
        ∙ ap₂ (λ (k : ℕ) (l : Links Edge). parts_on (unit_of manifold) (dof_of (unit_of manifold) * free_count g) k settings l) f.poses_are links_are

    ran_is : whole (parts_in setup (lent_links ends edges r.blocks c.free)) settings poses ≡ ran lent_input
    unfolding ran
    ran_is = ap (λ (p : Parts (List Float) (List Float) (ℕ → Float)). whole p settings poses) parts_are

    cleared : (n k : ℕ) (w last : List Float) → n ≤ length w → last ≡ replicate (length (take n w)) (num 0) → n ≡ k → last ++ drop n w ≡ zeroed k w
    cleared n k w last h z t = ap (λ (v : List Float). v ++ drop n w) (z ∙ ap (λ (j : ℕ). replicate j (num 0)) (length-take-le n w h)) ∙ ap (λ (j : ℕ). zeroed j w) t

    pub run_fit : (a : Result Joined Refusal) (last32 last64 lastOut : List Float)
        → Begun setup (lent_links ends edges r.blocks c.free) poses (take (dof * c.free * (dof * c.free + 3)) work32) (take (24 * c.poses) work64) out a last32 last64 lastOut
        → record { answer = a; work32 = last32 ++ drop (dof * c.free * (dof * c.free + 3)) work32; work64 = last64 ++ drop (24 * c.poses) work64; out = lastOut }
        ≡ optimized lent_input work32 work64 out
    unfolding optimized
    run_fit a last32 last64 lastOut b =
        let x : a ≡ (ran lent_input).answer = b.answer ∙ ap (λ (y : Whole (List Float)). y.answer) ran_is in
        let s : last32 ++ drop (dof * c.free * (dof * c.free + 3)) work32 ≡ zeroed (need (dof_of manifold * free_count g)) work32
        = cleared _ _ work32 last32 (single_fits f) b.zero32 (ap need (n_is f)) in
        let t : last64 ++ drop (24 * c.poses) work64 ≡ zeroed (24 * g.poses) work64
        = cleared _ _ work64 last64 (double_fits f) b.zero64 (ap (λ (z : ℕ). 24 * z) f.poses_are) in
        let o : lastOut ≡ given out (ran lent_input) (ran lent_input).answer = b.output ∙ ap (λ (y : Whole (List Float)). given out y y.answer) ran_is in
        rw (f.fits, x, s, t, o)
