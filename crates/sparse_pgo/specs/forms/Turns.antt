-- What the private functions of the run promise of the lent work: w32 is the work of a solve, w64 the accepted poses and then the trial's. The reader's
-- definition is `optimized` (Optimize.antt), to which the law `run_fit` (proofs/Border.antt) takes the last form here; nothing here adds to it.
-- Definitions only.
use Rattle.assembly.specs.declared.AssemblyError.TheVariants as assembly_error
use Rattle.decisions.specs.declared.Why.{Why}
use Rattle.numbers.specs.declared.Refusal.{Refusal}
use Rattle.sparse_pgo.specs.declared.Joined.{Joined}
use Rattle.assembly.specs.declared.AssemblyError.{AssemblyError}
use Rattle.std.specs.Prelude.{ℕ, ◌*◌, ◌≤◌, ◌≡◌, Bool, true, false, List, length, take, replicate, Float, Err, None, Ok, Option, Result, ⊤}
use Rattle.std.specs.Float.Ieee.{lt}
use Rattle.std.specs.Float.Ieee.Scale.{finite}
use Rattle.numbers.specs.Notation.{num, if_then}
use Rattle.numbers.specs.Walks.{done}
use Rattle.numbers.specs.Refusals.{refusal}
use Rattle.graph.specs.Graph.{Links}
use Rattle.graph.specs.Lent.{dof_of}
use Rattle.graph.specs.declared.Edge.{Edge}
use Rattle.profile.specs.Layout.{need}
use Rattle.solve.specs.Work.{gradient_of, work_after}
use Rattle.decisions.specs.Damping.{lambda_max}
use Rattle.decisions.specs.Run.{heard, passed, after_turn}
use Rattle.decisions.specs.Machine.{moved_on, state_of}
use Rattle.decisions.specs.declared.State.{State}
use Rattle.decisions.specs.declared.Trial.TheVariants as trial
use Rattle.decisions.specs.declared.Outcome.{Outcome}
use Rattle.decisions.specs.declared.Outcome.TheVariants as outcome
use Rattle.decisions.specs.declared.Assembly.{Assembly}
use Rattle.decisions.specs.declared.Assembly.TheVariants as assembly
use Rattle.decisions.specs.declared.Next.{Next}
use Rattle.decisions.specs.declared.Next.TheVariants as next
use Rattle.trials.specs.Trials.{norm_of}
use Rattle.sparse_pgo.specs.declared.Setup.{Setup}
use Rattle.sparse_pgo.specs.Parts.{Parts, numerics, whole}
use Rattle.sparse_pgo.specs.Numerics.{parts_on}
use Rattle.sparse_pgo.specs.Optimize.{given}

-- the parts of a setup
abbrev pub parts_in : Setup → Links Edge → Parts (List Float) (List Float) (ℕ → Float)
parts_in setup l = parts_on setup.manifold setup.n setup.poses setup.settings l

-- the numbers of the accepted poses
abbrev pub held_in : Setup → List Float → List Float
held_in setup w64 = take (setup.poses * 12) w64

-- the sizes of a setup with so many free poses, and lent parts as long as needed and no longer
pub record Sized (setup : Setup) (free : ℕ) : Type 0 where
  pub unknowns : setup.n ≡ dof_of setup.manifold * free
  pub few : free ≤ 64
  pub poses : setup.poses ≤ 256

pub record Lent (setup : Setup) (free : ℕ) (w32 w64 : List Float) : Type 0 where
  pub sized : Sized setup free
  pub single : length w32 ≡ need setup.n
  pub double : length w64 ≡ setup.poses * 24

-- the work holds the system of the poses x; where a step stands in it does not matter
pub record Holds (setup : Setup) (l : Links Edge) (x w32 : List Float) : Type 0 where
  pub system : List Float
  pub steps : ℕ → Float
  pub is_system : (parts_in setup l).assembled x ≡ done system
  pub work : w32 ≡ work_after system setup.n steps

-- where no system is to be assembled, it stands in the work
abbrev pub AtTop : Setup → Links Edge → State → List Float → List Float → Type 0
AtTop setup l s x w32 = s.fresh ≡ false → Holds setup l x w32

-- what an assembly comes to, its gradient's norm tested
abbrev pub assembly_in : Setup → Result ⊤ AssemblyError → List Float → Assembly
assembly_in setup (Err (assembly_error.BadEdge k why)) w32 = assembly.Refused (refusal 21 k)
assembly_in setup (Err assembly_error.Short) w32 = assembly.Flat
assembly_in setup (Ok _) w32 =
    if_then (lt (norm_of (gradient_of w32 setup.n) setup.n) setup.settings.gradient_tolerance) assembly.Flat assembly.Steep

-- the top of a turn at the poses x, with the assembly, where one is due
pub record PassedTop (setup : Setup) (l : Links Edge) (s : State) (x : List Float) (r : Option (Result Why Refusal)) (w32 : List Float) : Type 0 where
  pub long : length w32 ≡ need setup.n
  pub answer : r ≡ passed setup.settings.limit s ((numerics (parts_in setup l)).assemble x)
  pub holds : r ≡ None → Holds setup l x w32

-- whether a trial was accepted
abbrev pub accepts : Outcome → Bool
accepts outcome.Failed = false
accepts outcome.Small = false
accepts (outcome.Tried (trial.Accepted c)) = true
accepts (outcome.Tried (trial.Rejected r)) = false

-- a solve, and the trial of its step: the poses of an accepted one are held then
pub record Attempted (setup : Setup) (l : Links Edge) (s : State) (before : List Float) (r : Outcome) (w32 after : List Float) : Type 0 where
  pub answer : r ≡ heard s.cost ((numerics (parts_in setup l)).attempt (held_in setup before) s.damping)
  pub held : held_in setup after ≡ if_then (accepts r) ((numerics (parts_in setup l)).moved (held_in setup before) s.damping) (held_in setup before)
  pub holds : Holds setup l (held_in setup before) w32
  pub long : length w32 ≡ need setup.n

-- a turn
pub record Turned (setup : Setup) (l : Links Edge) (s : State) (before : List Float) (r : Next) (w32 after : List Float) : Type 0 where
  pub long : length w32 ≡ need setup.n
  pub answer : r
      ≡ after_turn setup.settings.limit setup.settings.cost_tolerance s ((numerics (parts_in setup l)).assemble (held_in setup before))
      ((numerics (parts_in setup l)).attempt (held_in setup before) s.damping)
  pub held : held_in setup after ≡ moved_on s (state_of r) ((numerics (parts_in setup l)).moved (held_in setup before) s.damping) (held_in setup before)
  pub holds : (t : State) → r ≡ next.On t → AtTop setup l t (held_in setup after) w32

-- ---- the run

-- what rows 16 and 19 leave
pub record Startable (setup : Setup) : Type 0 where
  pub limited : setup.settings.limit ≤ 1000
  pub number : finite setup.settings.damping ≡ true
  pub positive : lt (num 0) setup.settings.damping ≡ true
  pub bounded : lt lambda_max setup.settings.damping ≡ false

-- the first cost, then the turns
pub record Started (setup : Setup) (l : Links Edge) (before : List Float) (r : Result Joined Refusal) (after : List Float) : Type 0 where
  pub answer : r ≡ (whole (parts_in setup l) setup.settings (held_in setup before)).answer
  pub held : held_in setup after ≡ (whole (parts_in setup l) setup.settings (held_in setup before)).held

-- with the poses copied in and out, and the work cleared
pub record Begun (setup : Setup) (l : Links Edge) (poses w32 w64 out : List Float) (r : Result Joined Refusal)
    (after32 after64 afterOut : List Float) : Type 0 where
  pub answer : r ≡ (whole (parts_in setup l) setup.settings poses).answer
  pub zero32 : after32 ≡ replicate (length w32) (num 0)
  pub zero64 : after64 ≡ replicate (length w64) (num 0)
  pub output : afterOut ≡ given out (whole (parts_in setup l) setup.settings poses) (whole (parts_in setup l) setup.settings poses).answer
