use Rattle.numbers.proofs.Question.{handed_on}
use mathlib.Core.Path.{sym}
use native.Mathlib.Omega.{arith}
use lib.Seq.{length-take-le}
use Rattle.sparse_pgo.proofs.Border.{Fitted, fitted, n_most, need_fits, poses_most, single_fits, double_fits, poses_length, lent_input, run_turned, run_lent, run_startable, run_fit}
use Rattle.sparse_pgo.proofs.sparse_pose_graph_optimize.Goals as goal

pub overflow_mul-n : goal.overflow_mul-n
overflow_mul-n c =
    let known : let a = c.args in Fitted (lent_input a.manifold a.poses.now a.ends.now a.edges.now a.fixed.now a.settings a.work32.now a.work64.now a.out.now) c.validate_optimizer_inputs-checks.result c.in_ok-c.c c.dof.result = fitted _ _ _ _ c.validate_optimizer_inputs-checks.ensures c.in_ok-c.was c.dof.ensures in
    let h = n_most (known) in omega arith

pub overflow_add-n32 : goal.overflow_add-n32
overflow_add-n32 c =
    let known : let a = c.args in Fitted (lent_input a.manifold a.poses.now a.ends.now a.edges.now a.fixed.now a.settings a.work32.now a.work64.now a.out.now) c.validate_optimizer_inputs-checks.result c.in_ok-c.c c.dof.result = fitted _ _ _ _ c.validate_optimizer_inputs-checks.ensures c.in_ok-c.was c.dof.ensures in
    let h = n_most (known) in omega arith

pub overflow_mul-n32 : goal.overflow_mul-n32
overflow_mul-n32 c =
    let known : let a = c.args in Fitted (lent_input a.manifold a.poses.now a.ends.now a.edges.now a.fixed.now a.settings a.work32.now a.work64.now a.out.now) c.validate_optimizer_inputs-checks.result c.in_ok-c.c c.dof.result = fitted _ _ _ _ c.validate_optimizer_inputs-checks.ensures c.in_ok-c.was c.dof.ensures in
    record { fits = need_fits (known) }

pub overflow_mul-n64 : goal.overflow_mul-n64
overflow_mul-n64 c =
    let known : let a = c.args in Fitted (lent_input a.manifold a.poses.now a.ends.now a.edges.now a.fixed.now a.settings a.work32.now a.work64.now a.out.now) c.validate_optimizer_inputs-checks.result c.in_ok-c.c c.dof.result = fitted _ _ _ _ c.validate_optimizer_inputs-checks.ensures c.in_ok-c.was c.dof.ensures in
    let h = poses_most (known) in omega arith

pub slice_bounds-begun-end : goal.slice_bounds-begun-end
slice_bounds-begun-end c =
    let known : let a = c.args in Fitted (lent_input a.manifold a.poses.now a.ends.now a.edges.now a.fixed.now a.settings a.work32.now a.work64.now a.out.now) c.validate_optimizer_inputs-checks.result c.in_ok-c.c c.dof.result = fitted _ _ _ _ c.validate_optimizer_inputs-checks.ensures c.in_ok-c.was c.dof.ensures in
    single_fits (known)

pub slice_bounds-begun-end-2 : goal.slice_bounds-begun-end-2
slice_bounds-begun-end-2 c =
    let known : let a = c.args in Fitted (lent_input a.manifold a.poses.now a.ends.now a.edges.now a.fixed.now a.settings a.work32.now a.work64.now a.out.now) c.validate_optimizer_inputs-checks.result c.in_ok-c.c c.dof.result = fitted _ _ _ _ c.validate_optimizer_inputs-checks.ensures c.in_ok-c.was c.dof.ensures in
    sym (length-take-le _ _ (single_fits (known)))

pub slice_bounds-begun-end-3 : goal.slice_bounds-begun-end-3
slice_bounds-begun-end-3 c =
    let known : let a = c.args in Fitted (lent_input a.manifold a.poses.now a.ends.now a.edges.now a.fixed.now a.settings a.work32.now a.work64.now a.out.now) c.validate_optimizer_inputs-checks.result c.in_ok-c.c c.dof.result = fitted _ _ _ _ c.validate_optimizer_inputs-checks.ensures c.in_ok-c.was c.dof.ensures in
    double_fits (known)

pub slice_bounds-begun-end-4 : goal.slice_bounds-begun-end-4
slice_bounds-begun-end-4 c =
    let known : let a = c.args in Fitted (lent_input a.manifold a.poses.now a.ends.now a.edges.now a.fixed.now a.settings a.work32.now a.work64.now a.out.now) c.validate_optimizer_inputs-checks.result c.in_ok-c.c c.dof.result = fitted _ _ _ _ c.validate_optimizer_inputs-checks.ensures c.in_ok-c.was c.dof.ensures in
    sym (length-take-le _ _ (double_fits (known)))

pub begun-requires : goal.begun-requires
begun-requires c =
    let known : let a = c.args in Fitted (lent_input a.manifold a.poses.now a.ends.now a.edges.now a.fixed.now a.settings a.work32.now a.work64.now a.out.now) c.validate_optimizer_inputs-checks.result c.in_ok-c.c c.dof.result = fitted _ _ _ _ c.validate_optimizer_inputs-checks.ensures c.in_ok-c.was c.dof.ensures in
    let a = c.args in
    let f = known in
    let u = c.unit_manifold.ensures in record {
      lent = (
        run_lent a.manifold a.poses.now a.ends.now a.edges.now a.fixed.now a.settings a.work32.now a.work64.now a.out.now _ _ _ f _ u,
        run_startable a.manifold a.poses.now a.ends.now a.edges.now a.fixed.now a.settings a.work32.now a.work64.now a.out.now _ _ _ f _ u,
      );
      poses_len = (poses_length f, f.passed.graph.out_length);
    }

pub returns-in_err-c : goal.returns-in_err-c
returns-in_err-c c =
    let a = c.args in
    rw (handed_on _ c.from_residual.ensures.1)
    (run_turned a.manifold a.poses.now a.ends.now a.edges.now a.fixed.now a.settings a.work32.now a.work64.now a.out.now _ _
    c.validate_optimizer_inputs-checks.ensures c.in_err-c.was)

pub returns : goal.returns
returns c =
    let known : let a = c.args in Fitted (lent_input a.manifold a.poses.now a.ends.now a.edges.now a.fixed.now a.settings a.work32.now a.work64.now a.out.now) c.validate_optimizer_inputs-checks.result c.in_ok-c.c c.dof.result = fitted _ _ _ _ c.validate_optimizer_inputs-checks.ensures c.in_ok-c.was c.dof.ensures in
    let a = c.args in
    run_fit a.manifold a.poses.now a.ends.now a.edges.now a.fixed.now a.settings a.work32.now a.work64.now a.out.now _ _ _
    (known) _ c.unit_manifold.ensures _ _ _ _ c.begun.ensures
