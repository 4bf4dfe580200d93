use Rattle.sparse_pgo.proofs.optimize.Goals as goal

pub returns : goal.returns
returns c = c.sparse_pose_graph_optimize.ensures
