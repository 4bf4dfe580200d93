-- The job file: document 02, Wish 1. What a job is, as numbers and as bytes, and what reading answers.
-- A number is a bit pattern here, and no float is looked at. Definitions only.
use Rattle.std.specs.Prelude.{ℕ, zero, suc, ◌+◌, ◌*◌, ◌/◌, min, Bool, List, [], ◌∷◌, ◌++◌, eqb, length, get_or, Option, Some, None, Result, Ok, Err}
use Rattle.numbers.specs.Walks.{strung}
use Rattle.numbers.specs.Notation.{if_then}
use Rattle.numbers.specs.Refusals.{refusal}
use Rattle.numbers.specs.declared.Refusal.{Refusal}
use Rattle.job_records.specs.Records.{kind_at, record_step}
use Rattle.job_records.specs.Bytes.{values_at, bytes_of, bytes_from, pasted}
use Rattle.job_records.specs.declared.Tally.{Tally}
use Rattle.job_records.specs.declared.Cursor.{Cursor}
use Rattle.job.specs.declared.SettingBits.{SettingBits}

-- ---- a job

-- limit, cost tolerance, gradient tolerance and damping; twelve numbers a pose; two ends and eight numbers an edge; the fixed entries
pub record Job : Type 0 where
  pub settings : List ℕ
  pub poses : List ℕ
  pub ends : List ℕ
  pub edges : List ℕ
  pub fixed : List ℕ

-- nothing was read yet: no setting has a value
abbrev pub empty_job : Job
empty_job = record { settings = []; poses = []; ends = []; edges = []; fixed = [] }

abbrev pub tally_of : Job → Tally
tally_of j = record { poses = length j.poses / 12; edges = length j.ends / 2; fixed = length j.fixed }

-- ---- a job as bytes

-- a record: the length of its body, its kind, its body
abbrev pub record_of : ℕ → List ℕ → List ℕ
record_of kind body = bytes_of 2 (length body) ++ bytes_of 2 kind ++ body

-- kind 1, settings: u32 limit, two f32 tolerances, f32 damping
abbrev pub settings_record : List ℕ → List ℕ
settings_record settings = record_of 1 (bytes_from 4 4 settings 0)

-- kind 2, pose i: 12 f64
abbrev pub pose_record : List ℕ → ℕ → List ℕ
pose_record poses i = record_of 2 (bytes_from 8 12 poses (12 * i))

-- kind 3, edge i: 2 u32, 8 f32
abbrev pub edge_record : List ℕ → List ℕ → ℕ → List ℕ
edge_record ends edges i = record_of 3 (bytes_from 4 2 ends (2 * i) ++ bytes_from 4 8 edges (8 * i))

-- kind 4, fixed entry i: u32
abbrev pub fixed_record : List ℕ → ℕ → List ℕ
fixed_record fixed i = record_of 4 (bytes_from 4 1 fixed i)

-- kind 5, the end: empty
abbrev pub end_record : List ℕ
end_record = record_of 5 []

unfoldable pub encoded : Job → List ℕ
encoded j =
    settings_record j.settings
    ++ strung (pose_record j.poses) (tally_of j).poses
    ++ strung (edge_record j.ends j.edges) (tally_of j).edges
    ++ strung (fixed_record j.fixed) (tally_of j).fixed
    ++ end_record

-- the bytes of a job of so many poses, edges and fixed entries
abbrev pub size_of : Tally → ℕ
size_of t = 24 + 100 * t.poses + 44 * t.edges + 8 * t.fixed

-- ---- reading, from record to record

abbrev pub first_cursor : Cursor
first_cursor = record { at = 0; last = 0; had = record { poses = 0; edges = 0; fixed = 0 } }

-- what the record at a place holds
abbrev pub numbers_if : Bool → List ℕ → List ℕ
numbers_if b ns = if_then b ns []

abbrev pub held_at : List ℕ → ℕ → Job
held_at s at =
    record {
      settings = numbers_if (eqb (kind_at s at) 1) (values_at 4 4 s (at + 4));
      poses = numbers_if (eqb (kind_at s at) 2) (values_at 8 12 s (at + 4));
      ends = numbers_if (eqb (kind_at s at) 3) (values_at 4 2 s (at + 4));
      edges = numbers_if (eqb (kind_at s at) 3) (values_at 4 8 s (at + 12));
      fixed = numbers_if (eqb (kind_at s at) 4) (values_at 4 1 s (at + 4));
    }

-- behind what was read before
unfoldable pub holding : List ℕ → ℕ → Job → Job
holding s at j =
    record {
      settings = j.settings ++ (held_at s at).settings;
      poses = j.poses ++ (held_at s at).poses;
      ends = j.ends ++ (held_at s at).ends;
      edges = j.edges ++ (held_at s at).edges;
      fixed = j.fixed ++ (held_at s at).fixed;
    }

-- how reading ends
pub data Reading : Type 0 where
  taken : Tally → Job → Reading
  refused : Refusal → Reading

abbrev pub read_on : (Cursor → Job → Reading) → List ℕ → Cursor → Job → Result (Option Cursor) Refusal → Reading
read_on next s c j (Ok (Some d)) = next d (holding s c.at j)
read_on next s c j (Ok None) = taken c.had j
read_on next s c j (Err r) = refused r

-- from a cursor on, with what was read so far, over at most n records
unfoldable pub read_from : ℕ → Tally → List ℕ → Cursor → Job → Reading
read_from zero room s c j = refused (refusal 31 c.at)
read_from (suc n) room s c j = read_on (read_from n room s) s c j (record_step room s c)

-- every record takes four bytes or more, so there are fewer records than bytes
unfoldable pub reading : Tally → List ℕ → Reading
reading room s = read_from (suc (length s)) room s first_cursor empty_job

-- what stands past so many bytes changes no answer: as much as a job can take, with one more record of the longest kind in the place of its end, and a byte
abbrev pub read_at_most : Tally → ℕ
read_at_most room = size_of room + 97

-- ---- the reader: its answer, and the lent numbers

pub record Space : Type 0 where
  pub poses : List ℕ
  pub ends : List ℕ
  pub edges : List ℕ
  pub fixed : List ℕ

abbrev pub space : List ℕ → List ℕ → List ℕ → List ℕ → Space
space poses ends edges fixed = record { poses = poses; ends = ends; edges = edges; fixed = fixed }

-- whole poses, whole edges, fixed entries that there is space for
abbrev pub room_in : Space → Tally
room_in l = record { poses = length l.poses / 12; edges = min (length l.ends / 2) (length l.edges / 8); fixed = length l.fixed }

-- the job's numbers from the start of each list on; what stands behind them is as found
unfoldable pub filled : Job → Space → Space
filled j l =
    space (pasted 0 j.poses l.poses) (pasted 0 j.ends l.ends) (pasted 0 j.edges l.edges) (pasted 0 j.fixed l.fixed)

abbrev pub settings_from : List ℕ → SettingBits
settings_from ns =
    record { limit = get_or ns 0 0; cost_tolerance = get_or ns 1 0; gradient_tolerance = get_or ns 2 0; damping = get_or ns 3 0 }

-- a refused job changes no lent number
abbrev pub read_gives : Space → Reading → Result (SettingBits × Tally) Refusal × Space
read_gives l (taken t j) = (Ok (settings_from j.settings, t), filled j l)
read_gives l (refused r) = (Err r, l)

unfoldable pub read_into : List ℕ → Space → Result (SettingBits × Tally) Refusal × Space
read_into s l = read_gives l (reading (room_in l) s)

-- ---- the job that settings and lists are

abbrev pub setting_numbers : SettingBits → List ℕ
setting_numbers t = t.limit ∷ t.cost_tolerance ∷ t.gradient_tolerance ∷ t.damping ∷ []

abbrev pub job_of : SettingBits → Space → Job
job_of t l =
    record {
      settings = setting_numbers t;
      poses = l.poses;
      ends = l.ends;
      edges = l.edges;
      fixed = l.fixed;
    }

-- ---- for the functions behind the reader; nothing above rests on it

abbrev pub scanned_as : Reading → Result Tally Refusal
scanned_as (taken t j) = Ok t
scanned_as (refused r) = Err r

abbrev pub IsTaken : Reading → Type 0
IsTaken (taken t j) = Unit {0}
IsTaken (refused r) = ⊥

-- what the record at a cursor holds, behind what was counted before
unfoldable pub taking : List ℕ → Cursor → Space → Space
taking s c l =
    space (pasted (12 * c.had.poses) (held_at s c.at).poses l.poses)
    (pasted (2 * c.had.edges) (held_at s c.at).ends l.ends)
    (pasted (8 * c.had.edges) (held_at s c.at).edges l.edges)
    (pasted c.had.fixed (held_at s c.at).fixed l.fixed)

abbrev pub filled_by : Reading → Space → Space
filled_by (taken t j) l = filled j l
filled_by (refused r) l = l
