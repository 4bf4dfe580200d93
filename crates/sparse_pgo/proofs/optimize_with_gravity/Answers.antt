use Rattle.sparse_pgo.proofs.optimize_with_gravity.Goals as goal

pub returns : goal.returns
returns c = c.sparse_pose_graph_optimize.ensures
