-- What closing a scan's loops answers, and what it leaves in every lent number, for every input: document 02, Wish 2. Rows 33 and 34, then the run of the
-- built graph with its own rows, then the measures and whether it may be printed. Definitions only.
use Rattle.numbers.specs.declared.Refusal.{Refusal}
use Rattle.std.specs.Prelude.{List, length, Float, Err, Ok, Result}
use Rattle.numbers.specs.Refusals.{verdict, Verdict}
use Rattle.rotations.specs.declared.Pose.{Pose}
use Rattle.graph.specs.Graph.{Graph}
use Rattle.graph.specs.Lent.{pose_at}
use Rattle.checks.specs.Input.{Input, graph_of}
use Rattle.graph.specs.declared.Edge.{Edge}
use Rattle.graph.specs.declared.Manifold.{Manifold}
use Rattle.rows.specs.declared.Room.{Room}
use Rattle.sparse_pgo.specs.Optimize.{After, optimized}
use Rattle.sparse_pgo.specs.declared.Joined.{Joined}
use Rattle.printable.specs.Measures.{measures_of}
use Rattle.printable.specs.Printing.{usable_run}
use Rattle.scans.specs.Scans.{Scan, built_graph}
use Rattle.scans.specs.ScanRows.{scan_rows}
use Rattle.pose_graph.specs.declared.PgoConfig.{PgoConfig}
use Rattle.pose_graph.specs.declared.PgoResult.{PgoResult}

-- ---- the answer, and the final contents of what is lent

pub record Closing : Type 0 where
  pub answer : Result PgoResult Refusal
  pub work32 : List Float
  pub work64 : List Float
  pub original : List Float
  pub out : List Float

-- a run that was joined: its answer, the four measures, and whether it may be printed
unfoldable pub result_for : Manifold → Graph Pose Edge → List Float → List Float → Joined → PgoResult
result_for manifold g poses out j =
    record {
      run = j;
      measures = measures_of g (pose_at poses) (pose_at out);
      usable = usable_run j.converged manifold g.poses g (pose_at poses) (pose_at out);
    }

-- where refused, all is as the run leaves it and the originals' copy as found
abbrev pub closed_as : Input → List Float → After → Result Joined Refusal → Closing
closed_as i original a (Err r) =
    record { answer = Err r; work32 = a.work32; work64 = a.work64; original = original; out = a.out }
closed_as i original a (Ok j) =
    let x = result_for i.manifold (graph_of i) i.poses a.out j in
    record { answer = Ok x; work32 = a.work32; work64 = a.work64; original = i.poses; out = a.out }

unfoldable pub closed_run : Input → List Float → List Float → List Float → List Float → Closing
closed_run i work32 work64 original out = let a = optimized i work32 work64 out in closed_as i original a a.answer

abbrev pub room_for : List Float → List Float → List Float → Room
room_for work32 work64 out = record { work32 = length work32; work64 = length work64; out = length out }

-- rows 33 and 34 change no lent number
abbrev pub closed_after : PgoConfig → Scan → List Float → List Float → List Float → List Float → Verdict → Closing
closed_after c s work32 work64 original out (Err r) =
    record { answer = Err r; work32 = work32; work64 = work64; original = original; out = out }
closed_after c s work32 work64 original out (Ok _) =
    closed_run (built_graph c.manifold c.settings (room_for work32 work64 out) s) work32 work64 original out

unfoldable pub loops_closed : PgoConfig → Scan → List Float → List Float → List Float → List Float → Closing
loops_closed c s work32 work64 original out =
    closed_after c s work32 work64 original out
    (verdict (scan_rows s.ids (length s.poses) s.loops (length s.loop_poses) (length original)))
