-- What the writer's stores and calls make of the output: one byte, one record and one part of the job after the other. Assumes nothing.
use Prim.Native.Nat.{ℕ, ◌+◌, ◌*◌, ◌%◌, ◌≤◌, ◌<◌}
use native.Mathlib.Omega.{arith}
use native.Mathlib.Nat.{mul-le-mul_left}
use native.Mathlib.Numerals.{add-one}
use mathlib.Core.Path.{◌≡◌, refl, sym, ap, ◌∙◌}
use mathlib.Core.Bool.{Bool, false, not, ◌||◌, or-false}
use mathlib.Core.List.{List, [], ◌∷◌, ◌++◌, append-nil}
use lib.Dec.{ltb, eqb}
use borrow.Author.Tests.{ltb-false, eq-eqb}
use lib.ListN.{length, length-append}
use Rattle.numbers.specs.Walks.{strung}
use Rattle.numbers.specs.declared.Refusal.{Refusal}
use Rattle.job_records.specs.Bytes.{bytes_of, bytes_from, pasted}
use Rattle.job.specs.Format.{Job, tally_of, record_of, settings_record, pose_record, edge_record, fixed_record, encoded, size_of}
use Rattle.job.specs.Writer.{write_rows, written_as, written_into}
use Rattle.job_records.specs.declared.Tally.{Tally}
use Rattle.numbers.specs.Refusals.{fault, verdict, Verdict}
use Rattle.numbers.proofs.Reading.{row_at, row_fault}
use Rattle.rows.specs.Tests.{unfit}
use Rattle.job_records.proofs.Words.{length_bytes}
use Rattle.job.proofs.Pasting.{pasted_more, length_pasted, length_strung}
use Rattle.job.proofs.Encoding.{length_encoded, length_bytes_from, length_poses, length_edges, length_fixed}
use Rattle.job.proofs.Encoding.{length_settings_record, length_pose_record, length_edge_record, length_fixed_record}
use Rattle.std.specs.Prelude.{Result, Ok, Err}

-- a turn of n, and room for what it puts
pub turn_fits : (z i n at m : ℕ) → i < n → at + z * n ≤ m → (i + 1 ≤ n) × (at + z * i + z ≤ m)
turn_fits z i n at m h r =
    let k : z * (i + 1) ≤ z * n = mul-le-mul_left z (let g : i + 1 ≤ n = omega arith in g) in
    (omega arith, omega arith)

-- one turn of a loop that puts parts all as long as each other
pub part_put : (f : ℕ → List ℕ) (z i at : ℕ) (l m : List ℕ) → ((k : ℕ) → length (f k) ≡ z) →
    at + z * i + z ≤ length m → l ≡ pasted at (strung f i) m → pasted (at + z * i) (f i) l ≡ pasted at (strung f (i + 1)) m
unfolding strung
part_put f z i at l m h s e =
    let j : length (strung f i) ≡ z * i = length_strung f z i h in
    let k : length (f i) ≡ z = h i in
    rw (e, add-one i) (pasted_more at (at + z * i) (strung f i) (f i) m (omega arith) (omega arith))

-- a record's header, its length before its kind
pub header_put : (at n kind : ℕ) (l : List ℕ) → at + 4 ≤ length l →
    pasted (at + 2) (bytes_of 2 kind) (pasted at (bytes_of 2 n) l) ≡ pasted at (bytes_of 2 n ++ bytes_of 2 kind) l
header_put at n kind l h =
    let p = length_bytes 2 n in let q = length_bytes 2 kind in
    pasted_more at (at + 2) (bytes_of 2 n) (bytes_of 2 kind) l (omega arith) (omega arith)

-- a record's header, and its body behind it
pub record_put : (kind n at : ℕ) (body l : List ℕ) → length body ≡ n → at + 4 + n ≤ length l →
    pasted (at + 4) body (pasted at (bytes_of 2 n ++ bytes_of 2 kind) l) ≡ pasted at (record_of kind body) l
record_put kind n at body l e h =
    let k : length (bytes_of 2 n ++ bytes_of 2 kind) ≡ 4 = simp (length-append, length_bytes) in
    pasted_more at (at + 4) (bytes_of 2 n ++ bytes_of 2 kind) body l (omega arith) (omega arith)
    ∙ ap (λ (t : ℕ). pasted at (bytes_of 2 t ++ bytes_of 2 kind ++ body) l) (sym e)

-- one pose, edge or fixed entry more
pub pose_put : (poses : List ℕ) (at i : ℕ) (l m : List ℕ) →
    length l ≡ length m → at + 100 * i + 100 ≤ length m → l ≡ pasted at (strung (pose_record poses) i) m →
    pasted (at + 100 * i + 4) (bytes_from 8 12 poses (12 * i)) (pasted (at + 100 * i) (bytes_of 2 96 ++ bytes_of 2 2) l)
    ≡ pasted at (strung (pose_record poses) (i + 1)) m
pose_put poses at i l m n h e =
    record_put 2 96 (at + 100 * i) (bytes_from 8 12 poses (12 * i)) l (length_bytes_from 8 12 poses (12 * i)) (omega arith)
    ∙ part_put (pose_record poses) 100 i at l m (length_pose_record poses) h e

pub edge_put : (ends edges : List ℕ) (at i : ℕ) (l m : List ℕ) →
    length l ≡ length m → at + 44 * i + 44 ≤ length m → l ≡ pasted at (strung (edge_record ends edges) i) m →
    pasted (at + 44 * i + 12) (bytes_from 4 8 edges (8 * i))
    (pasted (at + 44 * i + 4) (bytes_from 4 2 ends (2 * i)) (pasted (at + 44 * i) (bytes_of 2 40 ++ bytes_of 2 3) l))
    ≡ pasted at (strung (edge_record ends edges) (i + 1)) m
edge_put ends edges at i l m n h e =
    let x = bytes_from 4 2 ends (2 * i) in
    let y = bytes_from 4 8 edges (8 * i) in
    let k = pasted (at + 44 * i) (bytes_of 2 40 ++ bytes_of 2 3) l in
    let p : length x ≡ 8 = length_bytes_from 4 2 ends (2 * i) in
    let q : length y ≡ 32 = length_bytes_from 4 8 edges (8 * i) in
    let r : length (x ++ y) ≡ 40 = rw (length-append x y) (omega arith) in
    let s : length (bytes_of 2 40 ++ bytes_of 2 3) ≡ 4 = simp (length-append, length_bytes) in
    let t : length k ≡ length l = length_pasted (at + 44 * i) (bytes_of 2 40 ++ bytes_of 2 3) l (omega arith) in
    pasted_more (at + 44 * i + 4) (at + 44 * i + 12) x y k (omega arith) (omega arith)
    ∙ record_put 3 40 (at + 44 * i) (x ++ y) l r (omega arith)
    ∙ part_put (edge_record ends edges) 44 i at l m (length_edge_record ends edges) h e

pub fixed_put : (fixed : List ℕ) (at i : ℕ) (l m : List ℕ) →
    length l ≡ length m → at + 8 * i + 8 ≤ length m → l ≡ pasted at (strung (fixed_record fixed) i) m →
    pasted (at + 8 * i + 4) (bytes_from 4 1 fixed i) (pasted (at + 8 * i) (bytes_of 2 4 ++ bytes_of 2 4) l) ≡ pasted at (strung (fixed_record fixed) (i + 1)) m
fixed_put fixed at i l m n h e =
    record_put 4 4 (at + 8 * i) (bytes_from 4 1 fixed i) l (length_bytes_from 4 1 fixed i) (omega arith)
    ∙ part_put (fixed_record fixed) 8 i at l m (length_fixed_record fixed) h e

pub settings_put : (settings l : List ℕ) → 20 ≤ length l →
    pasted 4 (bytes_from 4 4 settings 0) (pasted 0 (bytes_of 2 16 ++ bytes_of 2 1) l) ≡ pasted 0 (settings_record settings) l
settings_put settings l h = record_put 1 16 0 (bytes_from 4 4 settings 0) l (length_bytes_from 4 4 settings 0) h

-- the parts of a job, one behind the other
parts_put : (j : Job) (l : List ℕ) → size_of (tally_of j) ≤ length l →
    pasted (20 + 100 * (tally_of j).poses + 44 * (tally_of j).edges + 8 * (tally_of j).fixed) (bytes_of 2 0 ++ bytes_of 2 5)
    (pasted (20 + 100 * (tally_of j).poses + 44 * (tally_of j).edges) (strung (fixed_record j.fixed) (tally_of j).fixed)
    (pasted (20 + 100 * (tally_of j).poses) (strung (edge_record j.ends j.edges) (tally_of j).edges)
    (pasted 20 (strung (pose_record j.poses) (tally_of j).poses) (pasted 0 (settings_record j.settings) l))))
    ≡ pasted 0 (encoded j) l
unfolding encoded
parts_put j l h =
    let S = settings_record j.settings in
    let P = strung (pose_record j.poses) (tally_of j).poses in
    let E = strung (edge_record j.ends j.edges) (tally_of j).edges in
    let F = strung (fixed_record j.fixed) (tally_of j).fixed in
    let Z = bytes_of 2 0 ++ bytes_of 2 5 in
    let a = 20 + 100 * (tally_of j).poses in
    let b = a + 44 * (tally_of j).edges in
    let d = b + 8 * (tally_of j).fixed in
    let s : length S ≡ 20 = length_settings_record j.settings in
    let u : length P ≡ 100 * (tally_of j).poses = length_poses j.poses (tally_of j).poses in
    let v : length E ≡ 44 * (tally_of j).edges = length_edges j.ends j.edges (tally_of j).edges in
    let w : length F ≡ 8 * (tally_of j).fixed = length_fixed j.fixed (tally_of j).fixed in
    let z : length Z ≡ 4 = simp (length-append, length_bytes) in
    let sp : length (S ++ P) ≡ a = rw (length-append S P) (omega arith) in
    let spe : length (S ++ P ++ E) ≡ b = rw (length-append (S ++ P) E) (omega arith) in
    let spef : length (S ++ P ++ E ++ F) ≡ d = rw (length-append (S ++ P ++ E) F) (omega arith) in
    ap (λ (t : List ℕ). pasted d Z (pasted b F (pasted a E t))) (pasted_more 0 20 S P l (omega arith) (omega arith))
    ∙ ap (λ (t : List ℕ). pasted d Z (pasted b F t)) (pasted_more 0 a (S ++ P) E l (omega arith) (omega arith))
    ∙ ap (λ (t : List ℕ). pasted d Z t) (pasted_more 0 b (S ++ P ++ E) F l (omega arith) (omega arith))
    ∙ pasted_more 0 d (S ++ P ++ E ++ F) Z l (omega arith) (omega arith)
    ∙ ap (λ (t : List ℕ). pasted 0 (S ++ P ++ E ++ F ++ t) l) (sym (append-nil Z))

pub job_put : (j : Job) (t : Tally) (l : List ℕ) → t ≡ tally_of j → size_of t ≤ length l →
    pasted (20 + 100 * t.poses + 44 * t.edges + 8 * length j.fixed) (bytes_of 2 0 ++ bytes_of 2 5)
    (pasted (20 + 100 * t.poses + 44 * t.edges) (strung (fixed_record j.fixed) (length j.fixed))
    (pasted (20 + 100 * t.poses) (strung (edge_record j.ends j.edges) t.edges)
    (pasted 20 (strung (pose_record j.poses) t.poses) (pasted 0 (settings_record j.settings) l))))
    ≡ pasted 0 (encoded j) l
job_put j t l e h = rw e (parts_put j l (rw e at h))

-- a tally, number by number
tally_is : {t u : Tally} → t ≡ u → (t.poses ≡ u.poses) × (t.edges ≡ u.edges) × (t.fixed ≡ u.fixed)
tally_is e = (ap (λ (x : Tally). x.poses) e, ap (λ (x : Tally). x.edges) e, ap (λ (x : Tally). x.fixed) e)

-- the bytes of a job, part by part
pub size_is : (j : Job) (t : Tally) → t ≡ tally_of j → 20 + 100 * t.poses + 44 * t.edges + 8 * length j.fixed + 4 ≡ size_of t
size_is j t e = let i = tally_is e in omega arith

-- ---- the answer

-- the writer's own test of the counts
abbrev pub misfit : ℕ → ℕ → ℕ → Bool
misfit p e g = not (eqb (p % 12) 0) || (not (eqb (e % 2) 0) || not (eqb g (4 * e)))

unfit_is : (p e g : ℕ) → unfit p e g p ≡ misfit p e g
unfolding unfit
unfit_is p e g = rw (eq-eqb p p refl, or-false (not (eqb g (4 * e))))

-- where the counts fit and the output is long enough
pub written_whole : (j : Job) (out : List ℕ) → misfit (length j.poses) (length j.ends) (length j.edges) ≡ false →
    ltb (length out) (size_of (tally_of j)) ≡ false → (Ok (size_of (tally_of j)), pasted 0 (encoded j) out) ≡ written_into j out
unfolding written_into
written_whole j out u s =
    let r : ltb (length out) (length (encoded j)) ≡ false = rw (length_encoded j) s in
    rw (unfit_is (length j.poses) (length j.ends) (length j.edges) ∙ u, r, length_encoded j)

-- as many bytes as the writer says it wrote stand in the output
abbrev pub Within : Result ℕ Refusal × List ℕ → Type 0
Within (Ok n, out) = n ≤ length out
Within (Err r, out) = Unit {0}

pub written_within : (j : Job) (out : List ℕ) → Within (written_into j out)
unfolding written_into
written_within j out = go (verdict (write_rows j out)) refl
  where
    go : (v : Verdict) → verdict (write_rows j out) ≡ v → Within (written_as j out v)
    go (Err r) e = tt
    go (Ok _) e =
        let rest = row_at (Ok tt) (write_rows j out) 1 e in
        let f = fault 36 (λ _. ltb (length out) (length (encoded j))) in
        let h = ltb-false (length out) (length (encoded j)) (row_fault (f ∷ []) 1 0 0 rest (omega arith)) in
        let n = length_pasted 0 (encoded j) out (omega arith) in
        omega arith
