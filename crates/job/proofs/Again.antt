-- The reader and the writer together: what `read_job` took, given to `write_job`, is written as the bytes that it was read from. Assumes nothing.
use Prim.Native.Nat.{ℕ, ◌+◌, ◌*◌, ◌%◌, ◌≤◌}
use native.Mathlib.Omega.{arith}
use mathlib.Core.Path.{◌≡◌, refl, sym, ap, ◌∙◌}
use mathlib.Core.Bool.{false}
use mathlib.Core.List.{List}
use borrow.Author.Tests.{eq-eqb, le-ltb}
use lib.ListN.{length, take, drop}
use lib.Seq.{take_at}
use Rattle.numbers.specs.Walks.{table}
use Rattle.numbers.specs.declared.Refusal.{Refusal}
use Rattle.job_records.specs.declared.Tally.{Tally}
use Rattle.job.specs.declared.SettingBits.{SettingBits}
use Rattle.job_records.specs.Bytes.{values_at, pasted}
use Rattle.job.specs.Format.{Job, Space, space, tally_of, encoded, size_of, Reading, taken, refused, reading}
use Rattle.job.specs.Format.{room_in, filled, settings_from, read_gives, read_into}
use Rattle.job.specs.Format.{setting_numbers, job_of}
use Rattle.job.specs.Writer.{written_into}
use Rattle.job.proofs.Bytewise.{Bytes}
use Rattle.job.proofs.Along.{job_same}
use Rattle.job.proofs.Encoding.{length_encoded}
use Rattle.job.proofs.Writing.{misfit, written_whole}
use Rattle.job.proofs.Trips.{read_settings, read_lengths, read_written}
use Rattle.std.specs.Prelude.{Result, Ok}

-- so many poses, edges and fixed entries from the start of each list
abbrev pub front : Tally → Space → Space
front t l = space (take (12 * t.poses) l.poses) (take (2 * t.edges) l.ends) (take (8 * t.edges) l.edges) (take t.fixed l.fixed)

front_pasted : (n : ℕ) (xs l : List ℕ) → length xs ≡ n → take n (pasted 0 xs l) ≡ xs
unfolding pasted
front_pasted n xs l e = take_at xs (drop (0 + length xs) l) n e

pub settings_back : (s : List ℕ) → setting_numbers (settings_from (values_at 4 4 s 4)) ≡ values_at 4 4 s 4
unfolding table
settings_back s = refl

module _ (room : Tally) (s : List ℕ) (t : Tally) (j : Job) (e : reading room s ≡ taken t j) where
  -- what was taken, from the lent lists, is the job
  pub taken_again : (l : Space) → job_of (settings_from j.settings) (front t (filled j l)) ≡ j
  unfolding filled
  taken_again l =
      let n = read_lengths room s t j e in
      let q = (read_settings room s t j e).0 in
      job_same _ _ _ _ _ _ _ _ _ _ (ap (λ (x : List ℕ). setting_numbers (settings_from x)) q ∙ settings_back s ∙ sym q)
      (front_pasted (12 * t.poses) j.poses l.poses n.0) (front_pasted (2 * t.edges) j.ends l.ends n.1)
      (front_pasted (8 * t.edges) j.edges l.edges n.2) (front_pasted t.fixed j.fixed l.fixed n.3)

  pub fits_again : misfit (length j.poses) (length j.ends) (length j.edges) ≡ false
  fits_again =
      let n = read_lengths room s t j e in
      let a = n.0 in let b = n.1 in let c = n.2 in
      rw (
        eq-eqb (length j.poses % 12) 0 (omega arith),
        eq-eqb (length j.ends % 2) 0 (omega arith),
        eq-eqb (length j.edges) (4 * length j.ends) (omega arith),
      )

  written_again : (out : List ℕ) → Bytes s → length s ≤ length out → written_into j out ≡ (Ok (length s), pasted 0 s out)
  written_again out b h =
      let w = read_written room s t j b e in
      let n : size_of (tally_of j) ≡ length s = sym (length_encoded j) ∙ ap length w in
      sym (written_whole j out fits_again (le-ltb (length out) (size_of (tally_of j)) (omega arith)))
      ∙ ap (λ (x : ℕ). (Ok x, pasted 0 (encoded j) out)) n
      ∙ ap (λ (x : List ℕ). (Ok (length s), pasted 0 x out)) w

ok_pair : {t t' : SettingBits} {h h' : Tally} → ◌≡◌ {A = Result (SettingBits × Tally) Refusal} (Ok (t, h)) (Ok (t', h')) → (t ≡ t') × (h ≡ h')
ok_pair {t} {t'} {h} {h'} e =
    let p : ◌≡◌ {A = SettingBits × Tally} (t, h) (t', h') = cc in
    (ap (λ (x : SettingBits × Tally). x.0) p, ap (λ (x : SettingBits × Tally). x.1) p)

pub given_taken : (x : Reading) (l l' : Space) (t : SettingBits) (had : Tally) → (Ok (t, had), l') ≡ read_gives l x
    → (j : Job) × (x ≡ taken had j) × (t ≡ settings_from j.settings) × (l' ≡ filled j l)
given_taken (taken h j) l l' t had e =
    let q = ok_pair (ap (λ (y : Result (SettingBits × Tally) Refusal × Space). y.0) e) in
    (j, ap (λ (y : Tally). taken y j) (sym q.1), q.0, ap (λ (y : Result (SettingBits × Tally) Refusal × Space). y.1) e)
given_taken (refused k) l l' t had e =
    let q = ap (λ (y : Result (SettingBits × Tally) Refusal × Space). y.0) e in cc

-- what is read and written again is the same bytes, whatever was lent and however long the output
pub read_again : (s : List ℕ) (l m : Space) (t : SettingBits) (had : Tally) (out : List ℕ) → Bytes s → length s ≤ length out
    → read_into s l ≡ (Ok (t, had), m) → written_into (job_of t (front had m)) out ≡ (Ok (length s), pasted 0 s out)
unfolding read_into
read_again s l m t had out b h e =
    let x = given_taken (reading (room_in l) s) l m t had (sym e) in
    ap (λ (v : SettingBits). written_into (job_of v (front had m)) out) x.2
    ∙ ap (λ (v : Space). written_into (job_of (settings_from x.0.settings) (front had v)) out) x.3
    ∙ ap (λ (v : Job). written_into v out) (taken_again (room_in l) s had x.0 x.1 l)
    ∙ written_again (room_in l) s had x.0 x.1 out b h
