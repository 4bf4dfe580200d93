-- An assembly alone: into scratch, then over the first n (n + 3) numbers of the work; and what the checks leave known. Assumes nothing.
use Rattle.assembly.specs.declared.AssemblyError.{AssemblyError}
use Rattle.std.specs.Prelude.{Err, Ok, Result, ⊤}
use mathlib.Core.Path.{◌≡◌, refl, sym, ap, ap₂, ◌∙◌}
use mathlib.Core.List.{List, [], ◌++◌, append-nil}
use Prim.Native.Nat.{ℕ, ◌+◌, ◌*◌, ◌≤◌}
use native.Mathlib.Nat.{mul-le-mul, le_of_eq}
use native.Mathlib.Omega.{arith}
use borrow.Author.Tests.{le-ltb}
use lib.ListN.{length, take, drop, replicate, drop_of_length-le, take-append-drop}
use lib.Seq.{length-take-le, drop-nil}
use lib.Ieee.{Float}
use Rattle.numbers.specs.Notation.{num}
use Rattle.numbers.specs.Walks.{Ended, done, stopped}
use Rattle.numbers.specs.declared.Refusal.{Refusal}
use Rattle.numbers.specs.declared.Failure.TheVariants.{Numerical}
use Rattle.numbers.proofs.Choices.{left}
use Rattle.rotations.specs.declared.Pose.{Pose}
use Rattle.graph.specs.Graph.{Links, links_of, free_count}
use Rattle.graph.specs.Lent.{dof_of, pose_at, lent_links}
use Rattle.checks.specs.Input.{Input, graph_of}
use Rattle.checks.specs.Table.{graph_checks}
use Rattle.graph.specs.declared.Edge.{Edge}
use Rattle.graph.specs.declared.Manifold.{Manifold}
use Rattle.graph.specs.declared.Manifold.TheVariants.{Se3, Gravity}
use Rattle.checks.specs.declared.Counts.{Counts}
use Rattle.checks.specs.declared.Checks.{Checks}
use Rattle.graph.proofs.Degrees.{dof_most}
use Rattle.checks.proofs.Passed.{PassedGraph, fit_graph}
use Rattle.retraction.specs.Retraction.{unit_of}
use Rattle.profile.specs.Layout.{need}
use Rattle.assembly.specs.Assembly.{cleared, assembled_ends, assembled_from, assembled_of}
use Rattle.checks.proofs.Slots.{links_same}
use Rattle.normal_system.specs.forms.Building.{built_number}
use Rattle.normal_system.specs.NormalSystem.{assembling, system_out, assemble_from, system_of}

-- ---- into scratch: work of exactly n (n + 3) numbers, what stood in it does not count

module _ (m : Manifold) (n : ℕ) (l : Links Edge) (pose : ℕ → Pose) (w sys last : List Float) (made : Result ⊤ AssemblyError)
    (e : length w ≡ need n) (room : length w ≤ length sys) (h : (made, last) ≡ assembled_of m n l pose (take (length w) sys)) where
  abbrev found : Ended (List Float)
  found = assembled_ends m n l pose []

  whole : (v : List Float) → length v ≡ need n → assembled_of m n l pose v ≡ assembled_from found
  unfolding assembled_of assembled_ends
  whole v q =
      let a : need n ≤ length v = omega arith in
      let b : length v ≤ need n = omega arith in
      let d : cleared n v ≡ cleared n [] = ap (λ (z : List Float). replicate (need n) (num 0) ++ z) (drop_of_length-le v b ∙ sym (drop-nil (need n))) in
      sym (left _ (le-ltb (length v) (need n) a) refl) ∙ (rw d)

  made_is : (made, last) ≡ assembled_from found
  made_is = h ∙ whole (take (length w) sys) (length-take-le (length w) sys room ∙ e)

  said : made ≡ (assembled_from found).0
  said = ap (λ (z : Result ⊤ AssemblyError × List Float). z.0) made_is

  none_left : drop (need n) w ≡ []
  none_left = drop_of_length-le w (le_of_eq e)

  row_is : {r : ℕ} → r ≡ built_number made → r ≡ built_number (assembled_from found).0
  row_is e = e ∙ ap built_number said

  pub built : {r : ℕ} → r ≡ built_number made → r ≡ 0 → (v : List Float) → v ≡ last → (0, v) ≡ system_out n w found
  built {r} e z v ev = go found (row_is e) (ap (λ (x : Result ⊤ AssemblyError × List Float). x.1) made_is)
    where
      go : (x : Ended (List Float)) → r ≡ built_number (assembled_from x).0 → last ≡ (assembled_from x).1 → (0, v) ≡ system_out n w x
      go (done s) b a = rw (none_left, append-nil) (ap (λ (x : List Float). (0, x)) (ev ∙ a))
      go (stopped k Numerical s) b a = absurd (omega arith)

  pub unbuilt : {r : ℕ} → r ≡ built_number made → (r ≡ 0 → ⊥) → (r, w) ≡ system_out n w found
  unbuilt {r} e z = go found (row_is e)
    where
      go : (x : Ended (List Float)) → r ≡ built_number (assembled_from x).0 → (r, w) ≡ system_out n w x
      go (done s) b = absurd (z b)
      go (stopped k why s) b = ap (λ (x : ℕ). (x, w)) b

-- ---- over the first numbers of the work, the rest as found

part_of : (n : ℕ) (w : List Float) (x : Ended (List Float)) {r : ℕ} {last : List Float} → need n ≤ length w
    → (r, last) ≡ system_out n (take (need n) w) x → (r, last ++ drop (need n) w) ≡ system_out n w x
part_of n w (done s) {r} {last} fits h =
    let d : drop (need n) (take (need n) w) ≡ [] = drop_of_length-le (take (need n) w) (le_of_eq (length-take-le (need n) w fits)) in
    let g : ◌≡◌ {A = ℕ × List Float} (r, last) (0, s) = h ∙ ap (λ (z : List Float). (0, z)) (ap (λ (z : List Float). s ++ z) d ∙ append-nil s) in
    ap (λ (z : ℕ × List Float). (z.0, z.1 ++ drop (need n) w)) g
part_of n w (stopped k why s) fits h =
    ap (λ (z : ℕ × List Float). (z.0, z.1 ++ drop (need n) w)) h ∙ (rw take-append-drop)

module _ (m : Manifold) (poses : List Float) (ends : List ℕ) (edges : List Float) (fixed : List ℕ) (w : List Float)
    (r : Checks) (e : r ≡ graph_checks (assembling m poses ends edges fixed w)) where
  abbrev i : Input
  i = assembling m poses ends edges fixed w

  pub turned_down : {x : Refusal} → r.answer ≡ Err x → (x.number, w) ≡ system_of i w
  unfolding system_of
  turned_down q = ap (assemble_from i w) (sym q ∙ ap (λ (z : Checks). z.answer) e)

  module _ (c : Counts) (q : r.answer ≡ Ok c) (dof : ℕ) (d : dof ≡ dof_of m) where
    fitting : (graph_checks i).answer ≡ Ok c
    fitting = ap (λ (z : Checks). z.answer) (sym e) ∙ q

    passed : PassedGraph i
    passed = (fit_graph i c fitting).0

    free_is : c.free ≡ free_count (graph_of i)
    free_is = ap (λ (z : Counts). z.free) (fit_graph i c fitting).1

    n_is : dof * c.free ≡ dof_of m * free_count (graph_of i)
    n_is = ap₂ (λ (a b : ℕ). a * b) d free_is

    pub n_most : dof * c.free ≤ 384
    n_most = rw n_is (mul-le-mul (dof_most m) passed.most_free)

    pub need_most : need (dof * c.free) ≤ 148608
    need_most = let a : dof * c.free ≤ 384 = n_most in let b : dof * c.free + 3 ≤ 387 = omega arith in mul-le-mul a b

    pub work_enough : need (dof * c.free) ≤ length w
    work_enough = rw n_is passed.work32_enough

    module _ (unit : Manifold) (u : unit ≡ unit_of m) where
      unit_dof : (v : Manifold) → dof_of (unit_of v) ≡ dof_of v
      unfolding unit_of
      unit_dof Se3 = refl
      unit_dof (Gravity g) = refl

      pub unit_n : dof_of unit * c.free ≡ dof * c.free
      unit_n = ap (λ (z : ℕ). z * c.free) (ap dof_of u ∙ unit_dof m ∙ sym d)

      links_is : lent_links ends edges r.blocks c.free ≡ links_of (graph_of i)
      unfolding graph_checks
      links_is = ap₂ (λ (b : List ℕ) (f : ℕ). lent_links ends edges b f) (ap (λ (z : Checks). z.blocks) e) free_is ∙ links_same i passed

      pub assembled_part : {x : ℕ} {last : List Float}
          → (x, last) ≡ system_out (dof_of unit * c.free) (take (need (dof * c.free)) w) (assembled_ends unit (dof_of unit * c.free) (lent_links ends edges r.blocks c.free) (pose_at poses) [])
          → (x, last ++ drop (need (dof * c.free)) w) ≡ system_of i w
      unfolding system_of
      assembled_part {x} {last} h = go (dof_of unit * c.free) (dof * c.free) unit (lent_links ends edges r.blocks c.free) (unit_n ∙ n_is) n_is u links_is h
        where
          go : (a b : ℕ) (v : Manifold) (l : Links Edge) → a ≡ dof_of m * free_count (graph_of i) → b ≡ dof_of m * free_count (graph_of i) → v ≡ unit_of m → l ≡ links_of (graph_of i)
              → (x, last) ≡ system_out a (take (need b) w) (assembled_ends v a l (pose_at poses) []) → (x, last ++ drop (need b) w) ≡ system_of i w
          go a b v l ea eb ev el h =
              let n = dof_of m * free_count (graph_of i) in
              let t = part_of n w (assembled_ends (unit_of m) n (links_of (graph_of i)) (pose_at poses) []) passed.work32_enough (rw (ea, eb, ev, el) at h) in
              rw eb (t ∙ ap (assemble_from i w) (sym fitting))
