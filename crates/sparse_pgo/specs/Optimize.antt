-- What a run answers, and what it leaves in every lent number, for every input: document 01, "Numbers lent and given back", "What is turned down".
-- Definitions only.
use Rattle.sparse_pgo.specs.declared.Joined.{Joined}
use Rattle.numbers.specs.declared.Refusal.{Refusal}
use Rattle.checks.specs.declared.Counts.{Counts}
use Rattle.std.specs.Prelude.{ℕ, ◌*◌, List, length, Float, Err, Ok, Result}
use Rattle.graph.specs.Graph.{free_count}
use Rattle.graph.specs.Lent.{dof_of}
use Rattle.checks.specs.Input.{Input, lent, graph_of}
use Rattle.checks.specs.Table.{checks}
use Rattle.graph.specs.declared.Manifold.{Manifold}
use Rattle.rows.specs.declared.Settings.{Settings}
use Rattle.retraction.specs.Retraction.{unit_of}
use Rattle.profile.specs.Layout.{need}
use Rattle.slices.specs.Slices.{zeroed}
use Rattle.sparse_pgo.specs.Parts.{Whole, whole}
use Rattle.sparse_pgo.specs.Numerics.{parts_of}

-- the run of an input that passes the checks: the answer, and the poses that it came to
unfoldable pub ran : Input → Whole (List Float)
ran i = whole (parts_of (unit_of i.manifold) i.settings (graph_of i)) i.settings i.poses

-- the output: the poses of a success; as found where refused
abbrev pub given : List Float → Whole (List Float) → Result Joined Refusal → List Float
given out w (Ok j) = w.held
given out w (Err r) = out

-- an answer, and the final contents of work32, work64 and the output
pub record After : Type 0 where
  pub answer : Result Joined Refusal
  pub work32 : List Float
  pub work64 : List Float
  pub out : List Float

abbrev pub after_checks : Input → List Float → List Float → List Float → Result Counts Refusal → After
after_checks i work32 work64 out (Err r) = record { answer = Err r; work32 = work32; work64 = work64; out = out }
after_checks i work32 work64 out (Ok c) =
    record {
      answer = (ran i).answer;
      work32 = zeroed (need (dof_of i.manifold * free_count (graph_of i))) work32;
      work64 = zeroed (24 * (graph_of i).poses) work64;
      out = given out (ran i) (ran i).answer;
    }

-- refusals 1 to 19 and 26 change no lent number; a run that began leaves the needed work +0
unfoldable pub optimized : Input → List Float → List Float → List Float → After
optimized i work32 work64 out = after_checks i work32 work64 out (checks i).answer

-- the same from what is lent, as the entry points take it
abbrev pub optimized_on : Manifold → List Float → List ℕ → List Float → List ℕ → Settings → List Float → List Float → List Float → After
optimized_on m poses ends edges fixed set work32 work64 out =
    optimized (lent m poses ends edges fixed set (record { work32 = length work32; work64 = length work64; out = length out })) work32 work64 out
