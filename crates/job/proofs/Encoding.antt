-- The lengths of numbers, records and a job as bytes. Assumes nothing.
use Prim.Native.Nat.{ℕ, ◌+◌, ◌*◌}
use native.Mathlib.Omega.{arith}
use mathlib.Core.Path.{◌≡◌}
use mathlib.Core.List.{List, []}
use lib.ListN.{length, get_or, length-append}
use Rattle.numbers.specs.Walks.{strung}
use Rattle.job_records.specs.Bytes.{bytes_of, bytes_from}
use Rattle.job.specs.Format.{Job, tally_of, record_of, settings_record, pose_record, edge_record, fixed_record, end_record, encoded, size_of}
use Rattle.job_records.proofs.Words.{length_bytes}
use Rattle.job.proofs.Pasting.{length_strung}

-- ---- numbers and records

pub length_bytes_from : (w n : ℕ) (ns : List ℕ) (from : ℕ) → length (bytes_from w n ns from) ≡ w * n
length_bytes_from w n ns from = length_strung (λ i. bytes_of w (get_or ns (from + i) 0)) w n (λ i. length_bytes w (get_or ns (from + i) 0))

pub length_record_of : (kind : ℕ) (body : List ℕ) → length (record_of kind body) ≡ 4 + length body
length_record_of kind body = simp (length-append, length_bytes)

pub length_settings_record : (settings : List ℕ) → length (settings_record settings) ≡ 20
length_settings_record settings = rw (length_record_of, length_bytes_from)

pub length_pose_record : (poses : List ℕ) (i : ℕ) → length (pose_record poses i) ≡ 100
length_pose_record poses i = rw (length_record_of, length_bytes_from)

pub length_edge_record : (ends edges : List ℕ) (i : ℕ) → length (edge_record ends edges i) ≡ 44
length_edge_record ends edges i = rw (length_record_of, length-append, length_bytes_from 4 2, length_bytes_from 4 8)

pub length_fixed_record : (fixed : List ℕ) (i : ℕ) → length (fixed_record fixed i) ≡ 8
length_fixed_record fixed i = rw (length_record_of, length_bytes_from)

pub length_end_record : length end_record ≡ 4
length_end_record = length_record_of 5 []

pub length_poses : (poses : List ℕ) (n : ℕ) → length (strung (pose_record poses) n) ≡ 100 * n
length_poses poses n = length_strung (pose_record poses) 100 n (length_pose_record poses)

pub length_edges : (ends edges : List ℕ) (n : ℕ) → length (strung (edge_record ends edges) n) ≡ 44 * n
length_edges ends edges n = length_strung (edge_record ends edges) 44 n (length_edge_record ends edges)

pub length_fixed : (fixed : List ℕ) (n : ℕ) → length (strung (fixed_record fixed) n) ≡ 8 * n
length_fixed fixed n = length_strung (fixed_record fixed) 8 n (length_fixed_record fixed)

-- ---- the whole job

pub length_encoded : (j : Job) → length (encoded j) ≡ size_of (tally_of j)
unfolding encoded
length_encoded j =
    let s = length_settings_record j.settings in
    let p = length_poses j.poses (tally_of j).poses in
    let e = length_edges j.ends j.edges (tally_of j).edges in
    let f = length_fixed j.fixed (tally_of j).fixed in
    let z = length_end_record in
    rw (length-append, length-append, length-append, length-append, s, p, e, f, z) (omega arith)
