-- What holds of a cursor and a job wherever reading comes to: the lengths, the kinds, the room, and the bytes passed are the records of what was read.
-- Assumes nothing.
use Prim.Native.Nat.{ℕ, suc, ◌+◌, ◌*◌, ◌≤◌, ◌<◌}
use native.Mathlib.Omega.{arith}
use native.Mathlib.Nat.{add-zero}
use native.Mathlib.Numerals.{add-one}
use mathlib.Core.Path.{◌≡◌, refl, sym, ap, subst, ◌∙◌}
use mathlib.Core.List.{List, [], ◌++◌, append-nil, append_assoc}
use lib.Dec.{eqb}
use lib.ListN.{length, take, drop, length-append}
use Rattle.numbers.specs.Walks.{strung}
use Rattle.numbers.specs.Notation.{if_then}
use Rattle.numbers.proofs.Tables.{length_table}
use Rattle.job_records.specs.Bytes.{value_at, values_at, bytes_from}
use Rattle.job_records.specs.declared.Tally.{Tally}
use Rattle.job_records.specs.declared.Cursor.{Cursor}
use Rattle.job_records.specs.Records.{kind_at, length_at}
use Rattle.job.specs.Format.{Job, empty_job, record_of, settings_record, pose_record, edge_record, fixed_record, first_cursor}
use Rattle.job_records.specs.Records.{counted, behind, record_step}
use Rattle.job.specs.Format.{numbers_if, holding}
use Rattle.job.proofs.Stepping.{Kind, settings as of-settings, pose as of-pose, edge as of-edge, fixed as of-fixed, end as of_end}
use Rattle.job.proofs.Stepping.{FaultFree, fault_free, rises, first, room_for_pose, room_for_edge, room_for_fixed, WentOn, went_on}
use Rattle.job.proofs.Firsts.{Comes, begins, passes}
use Rattle.job.proofs.Bytewise.{Bytes, bytes_from_front, strung_ext, numbers_back, passed, part_join}
use Rattle.std.specs.Prelude.{Some, Ok}

-- the records of a job up to so many poses, edges and fixed entries
abbrev pub records_of : Tally → Job → List ℕ
records_of t j =
    settings_record j.settings
    ++ strung (pose_record j.poses) t.poses
    ++ strung (edge_record j.ends j.edges) t.edges
    ++ strung (fixed_record j.fixed) t.fixed

pub record Along (room : Tally) (s : List ℕ) (c : Cursor) (j : Job) : Type 0 where
  pub before : c.last ≡ 0 → (c ≡ first_cursor) × (j ≡ empty_job)
  pub settings : 0 < c.last → j.settings ≡ values_at 4 4 s 4
  pub opened : 0 < c.last → (kind_at s 0 ≡ 1) × (20 ≤ length s)
  pub poses : length j.poses ≡ 12 * c.had.poses
  pub ends : length j.ends ≡ 2 * c.had.edges
  pub edges : length j.edges ≡ 8 * c.had.edges
  pub fixed : length j.fixed ≡ c.had.fixed
  pub no_poses : c.last < 2 → c.had.poses ≡ 0
  pub no_edges : c.last < 3 → c.had.edges ≡ 0
  pub no_fixed : c.last < 4 → c.had.fixed ≡ 0
  pub last : c.last < 5
  pub poses_fit : c.had.poses ≤ room.poses
  pub edges_fit : c.had.edges ≤ room.edges
  pub fixed_fit : c.had.fixed ≤ room.fixed
  pub bytes : Bytes s → 0 < c.last → take c.at s ≡ records_of c.had j

pub four_settings : {room : Tally} {s : List ℕ} {c : Cursor} {j : Job} → Along room s c j → 0 < c.last → length j.settings ≡ 4
four_settings {s} a h = ap length (a.settings h) ∙ length_table (λ i. value_at 4 s (4 + 4 * i)) 4

pub along_start : (room : Tally) (s : List ℕ) → Along room s first_cursor empty_job
along_start room s =
    record {
      before = λ e. (refl, refl);
      settings = λ h. absurd (omega arith);
      opened = λ h. absurd (omega arith);
      poses = refl;
      ends = refl;
      edges = refl;
      fixed = refl;
      no_poses = λ h. refl;
      no_edges = λ h. refl;
      no_fixed = λ h. refl;
      last = omega arith;
      poses_fit = omega arith;
      edges_fit = omega arith;
      fixed_fit = omega arith;
      bytes = λ b h. absurd (omega arith);
    }

-- ---- the cursor behind a record and the job with it, by its kind

abbrev cursor_at : ℕ → ℕ → ℕ → ℕ → ℕ → Cursor
cursor_at at last p e f = record { at = at; last = last; had = record { poses = p; edges = e; fixed = f } }

abbrev pub job_with : List ℕ → List ℕ → List ℕ → List ℕ → List ℕ → Job
job_with settings poses ends edges fixed = record { settings = settings; poses = poses; ends = ends; edges = edges; fixed = fixed }

cursor_same : (at last p p' e e' f f' : ℕ) → p ≡ p' → e ≡ e' → f ≡ f' → cursor_at at last p e f ≡ cursor_at at last p' e' f'
cursor_same at last p p' e e' f f' x y z = rw (x, y, z)

pub job_same : (a b c d e a' b' c' d' e' : List ℕ) → a ≡ a' → b ≡ b' → c ≡ c' → d ≡ d' → e ≡ e' → job_with a b c d e ≡ job_with a' b' c' d' e'
job_same a b c d e a' b' c' d' e' v w x y z = rw (v, w, x, y, z)

module _ (s : List ℕ) (c : Cursor) where
  behind_as : (kind z : ℕ) → kind_at s c.at ≡ kind → length_at s c.at ≡ z
      → behind s c ≡ record { at = c.at + 4 + z; last = kind; had = counted kind c.had }
  behind_as kind z k l =
      ap (λ (x : ℕ). record { at = c.at + 4 + length_at s c.at; last = x; had = counted x c.had }) k
      ∙ ap (λ (x : ℕ). record { at = c.at + 4 + x; last = kind; had = counted kind c.had }) l

  behind_pose : kind_at s c.at ≡ 2 → length_at s c.at ≡ 96 → behind s c ≡ cursor_at (c.at + 4 + 96) 2 (suc c.had.poses) c.had.edges c.had.fixed
  unfolding if_then
  behind_pose k l =
      behind_as 2 96 k l ∙ cursor_same (c.at + 4 + 96) 2 _ _ _ _ _ _ (add-one c.had.poses) (add-zero c.had.edges) (add-zero c.had.fixed)

  behind_edge : kind_at s c.at ≡ 3 → length_at s c.at ≡ 40 → behind s c ≡ cursor_at (c.at + 4 + 40) 3 c.had.poses (suc c.had.edges) c.had.fixed
  unfolding if_then
  behind_edge k l =
      behind_as 3 40 k l ∙ cursor_same (c.at + 4 + 40) 3 _ _ _ _ _ _ (add-zero c.had.poses) (add-one c.had.edges) (add-zero c.had.fixed)

  behind_fixed : kind_at s c.at ≡ 4 → length_at s c.at ≡ 4 → behind s c ≡ cursor_at (c.at + 4 + 4) 4 c.had.poses c.had.edges (suc c.had.fixed)
  unfolding if_then
  behind_fixed k l =
      behind_as 4 4 k l ∙ cursor_same (c.at + 4 + 4) 4 _ _ _ _ _ _ (add-zero c.had.poses) (add-zero c.had.edges) (add-one c.had.fixed)

module _ (s : List ℕ) (at : ℕ) (j : Job) where
  -- with a kind in the place of the record's
  abbrev holding_kind : ℕ → Job
  holding_kind kind =
      job_with (j.settings ++ numbers_if (eqb kind 1) (values_at 4 4 s (at + 4))) (j.poses ++ numbers_if (eqb kind 2) (values_at 8 12 s (at + 4)))
      (j.ends ++ numbers_if (eqb kind 3) (values_at 4 2 s (at + 4))) (j.edges ++ numbers_if (eqb kind 3) (values_at 4 8 s (at + 12)))
      (j.fixed ++ numbers_if (eqb kind 4) (values_at 4 1 s (at + 4)))

  holding_as : (kind : ℕ) → kind_at s at ≡ kind → holding s at j ≡ holding_kind kind
  unfolding holding
  holding_as kind k = ap holding_kind k

  holding_pose : kind_at s at ≡ 2 → holding s at j ≡ job_with j.settings (j.poses ++ values_at 8 12 s (at + 4)) j.ends j.edges j.fixed
  unfolding if_then
  holding_pose k =
      holding_as 2 k
      ∙ job_same _ _ _ _ _ _ _ _ _ _ (append-nil j.settings) refl (append-nil j.ends) (append-nil j.edges) (append-nil j.fixed)

  holding_edge : kind_at s at ≡ 3
      → holding s at j ≡ job_with j.settings j.poses (j.ends ++ values_at 4 2 s (at + 4)) (j.edges ++ values_at 4 8 s (at + 12)) j.fixed
  unfolding if_then
  holding_edge k =
      holding_as 3 k
      ∙ job_same _ _ _ _ _ _ _ _ _ _ (append-nil j.settings) (append-nil j.poses) refl refl (append-nil j.fixed)

  holding_fixed : kind_at s at ≡ 4 → holding s at j ≡ job_with j.settings j.poses j.ends j.edges (j.fixed ++ values_at 4 1 s (at + 4))
  unfolding if_then
  holding_fixed k =
      holding_as 4 k
      ∙ job_same _ _ _ _ _ _ _ _ _ _ (append-nil j.settings) (append-nil j.poses) (append-nil j.ends) (append-nil j.edges) refl

-- the first record
behind_settings : (s : List ℕ) → kind_at s 0 ≡ 1 → length_at s 0 ≡ 16 → behind s first_cursor ≡ cursor_at 20 1 0 0 0
unfolding if_then
behind_settings s k l = behind_as s first_cursor 1 16 k l

holding_settings : (s : List ℕ) → kind_at s 0 ≡ 1 → holding s 0 empty_job ≡ job_with (values_at 4 4 s 4) [] [] [] []
unfolding if_then
holding_settings s k = holding_as s 0 empty_job 1 k

-- ---- the records with one more

length_more : (ns : List ℕ) (w n at k : ℕ) (s : List ℕ) → length ns ≡ k → length (ns ++ values_at w n s at) ≡ k + n
length_more ns w n at k s e =
    length-append ns (values_at w n s at) ∙ ap (λ (x : ℕ). x + length (values_at w n s at)) e
    ∙ ap (λ (x : ℕ). k + x) (length_table (λ i. value_at w s (at + w * i)) n)

poses_before : (n : ℕ) (ns more : List ℕ) → length ns ≡ 12 * n → strung (pose_record (ns ++ more)) n ≡ strung (pose_record ns) n
poses_before n ns more e =
    strung_ext (pose_record (ns ++ more)) (pose_record ns) n (λ i h. ap (record_of 2) (bytes_from_front 8 12 ns more (12 * i) (omega arith)))

edges_before : (n : ℕ) (ns more ms more' : List ℕ) → length ns ≡ 2 * n → length ms ≡ 8 * n
    → strung (edge_record (ns ++ more) (ms ++ more')) n ≡ strung (edge_record ns ms) n
edges_before n ns more ms more' e d =
    strung_ext (edge_record (ns ++ more) (ms ++ more')) (edge_record ns ms) n
    (λ i h.
    ap (λ (x : List ℕ). record_of 3 (x ++ bytes_from 4 8 (ms ++ more') (8 * i))) (bytes_from_front 4 2 ns more (2 * i) (omega arith))
    ∙ ap (λ (x : List ℕ). record_of 3 (bytes_from 4 2 ns (2 * i) ++ x)) (bytes_from_front 4 8 ms more' (8 * i) (omega arith)))

fixed_before : (n : ℕ) (ns more : List ℕ) → length ns ≡ n → strung (fixed_record (ns ++ more)) n ≡ strung (fixed_record ns) n
fixed_before n ns more e =
    strung_ext (fixed_record (ns ++ more)) (fixed_record ns) n (λ i h. ap (record_of 4) (bytes_from_front 4 1 ns more i (omega arith)))

-- none of a kind has no bytes
strung_none : (f : ℕ → List ℕ) (n : ℕ) → n ≡ 0 → strung f n ≡ []
unfolding strung
strung_none f n e = ap (strung f) e

behind_poses : (a b b' c d r : List ℕ) → b' ≡ b → c ≡ [] → d ≡ [] → a ++ b ++ c ++ d ++ r ≡ a ++ (b' ++ r) ++ c ++ d
behind_poses a b b' c d r x y z =
    rw (x, y, z, append-nil (a ++ b), append-nil (a ++ b), append-nil (a ++ (b ++ r)), append-nil (a ++ (b ++ r))) (append_assoc a b r)

behind_edges : (a b c c' d r : List ℕ) → c' ≡ c → d ≡ [] → a ++ b ++ c ++ d ++ r ≡ a ++ b ++ (c' ++ r) ++ d
behind_edges a b c c' d r y z = rw (y, z, append-nil (a ++ b ++ c), append-nil (a ++ b ++ (c ++ r))) (append_assoc (a ++ b) c r)

behind_fixeds : (a b c d d' r : List ℕ) → d' ≡ d → a ++ b ++ c ++ d ++ r ≡ a ++ b ++ c ++ (d' ++ r)
behind_fixeds a b c d d' r z = rw z (append_assoc (a ++ b ++ c) d r)

-- ---- a step keeps it

module _ (room : Tally) (s : List ℕ) where
  along_settings : kind_at s 0 ≡ 1 → length_at s 0 ≡ 16 → 0 + 4 + 16 ≤ length s → Along room s (cursor_at 20 1 0 0 0) (job_with (values_at 4 4 s 4) [] [] [] [])
  unfolding strung
  along_settings k l h =
      record {
        before = λ e. absurd (omega arith);
        settings = λ q. refl;
        opened = λ q. (k, h);
        poses = refl;
        ends = refl;
        edges = refl;
        fixed = refl;
        no_poses = λ q. refl;
        no_edges = λ q. refl;
        no_fixed = λ q. refl;
        last = omega arith;
        poses_fit = omega arith;
        edges_fit = omega arith;
        fixed_fit = omega arith;
        bytes = λ b q.
            let r = settings_record (values_at 4 4 s 4) in
            passed s b 0 1 16 (bytes_from 4 4 (values_at 4 4 s 4) 0) [] h k l (numbers_back s b 4 4 4 0 [] refl (omega arith)) refl
            ∙ sym (append-nil (r ++ [] ++ []) ∙ append-nil (r ++ []) ∙ append-nil r);
      }

  module _ (c : Cursor) (j : Job) (a : Along room s c j) (some : 0 < c.last) where
    along_pose : c.last ≤ 2 → c.had.poses < room.poses → c.at + 4 + 96 ≤ length s → kind_at s c.at ≡ 2 → length_at s c.at ≡ 96
        → Along room s (cursor_at (c.at + 4 + 96) 2 (suc c.had.poses) c.had.edges c.had.fixed)
        (job_with j.settings (j.poses ++ values_at 8 12 s (c.at + 4)) j.ends j.edges j.fixed)
    unfolding strung
    along_pose m free h k l =
        let e0 : c.had.edges ≡ 0 = a.no_edges (omega arith) in
        let f0 : c.had.fixed ≡ 0 = a.no_fixed (omega arith) in
        record {
          before = λ e. absurd (omega arith);
          settings = λ q. a.settings some;
          opened = λ q. a.opened some;
          poses = length_more j.poses 8 12 (c.at + 4) (12 * c.had.poses) s a.poses ∙ omega arith;
          ends = a.ends;
          edges = a.edges;
          fixed = a.fixed;
          no_poses = λ q. absurd (omega arith);
          no_edges = λ q. e0;
          no_fixed = λ q. f0;
          last = omega arith;
          poses_fit = free;
          edges_fit = a.edges_fit;
          fixed_fit = a.fixed_fit;
          bytes = λ b q.
              let more = values_at 8 12 s (c.at + 4) in
              passed s b c.at 2 96 (bytes_from 8 12 (j.poses ++ more) (12 * c.had.poses)) (records_of c.had j) h k l
              (numbers_back s b 8 12 (c.at + 4) (12 * c.had.poses) j.poses a.poses h) (a.bytes b some)
              ∙ behind_poses (settings_record j.settings) (strung (pose_record j.poses) c.had.poses)
              (strung (pose_record (j.poses ++ more)) c.had.poses) (strung (edge_record j.ends j.edges) c.had.edges)
              (strung (fixed_record j.fixed) c.had.fixed) (pose_record (j.poses ++ more) c.had.poses)
              (poses_before c.had.poses j.poses more a.poses)
              (strung_none (edge_record j.ends j.edges) c.had.edges e0) (strung_none (fixed_record j.fixed) c.had.fixed f0);
        }

    along_edge : c.last ≤ 3 → c.had.edges < room.edges → c.at + 4 + 40 ≤ length s → kind_at s c.at ≡ 3 → length_at s c.at ≡ 40
        → Along room s (cursor_at (c.at + 4 + 40) 3 c.had.poses (suc c.had.edges) c.had.fixed)
        (job_with j.settings j.poses (j.ends ++ values_at 4 2 s (c.at + 4)) (j.edges ++ values_at 4 8 s (c.at + 12)) j.fixed)
    unfolding strung
    along_edge m free h k l =
        let f0 : c.had.fixed ≡ 0 = a.no_fixed (omega arith) in
        record {
          before = λ e. absurd (omega arith);
          settings = λ q. a.settings some;
          opened = λ q. a.opened some;
          poses = a.poses;
          ends = length_more j.ends 4 2 (c.at + 4) (2 * c.had.edges) s a.ends ∙ omega arith;
          edges = length_more j.edges 4 8 (c.at + 12) (8 * c.had.edges) s a.edges ∙ omega arith;
          fixed = a.fixed;
          no_poses = λ q. absurd (omega arith);
          no_edges = λ q. absurd (omega arith);
          no_fixed = λ q. f0;
          last = omega arith;
          poses_fit = a.poses_fit;
          edges_fit = free;
          fixed_fit = a.fixed_fit;
          bytes = λ b q.
              let more = values_at 4 2 s (c.at + 4) in
              let more' = values_at 4 8 s (c.at + 12) in
              let x : c.at + 12 ≡ c.at + 4 + 8 = omega arith in
              passed s b c.at 3 40 (bytes_from 4 2 (j.ends ++ more) (2 * c.had.edges) ++ bytes_from 4 8 (j.edges ++ more') (8 * c.had.edges))
              (records_of c.had j) h k l
              (part_join (c.at + 4) 8 32 s (bytes_from 4 2 (j.ends ++ more) (2 * c.had.edges)) (bytes_from 4 8 (j.edges ++ more') (8 * c.had.edges))
              (numbers_back s b 4 2 (c.at + 4) (2 * c.had.edges) j.ends a.ends (omega arith))
              (numbers_back s b 4 8 (c.at + 12) (8 * c.had.edges) j.edges a.edges (omega arith) ∙ ap (λ (y : ℕ). take 32 (drop y s)) x))
              (a.bytes b some)
              ∙ behind_edges (settings_record j.settings) (strung (pose_record j.poses) c.had.poses)
              (strung (edge_record j.ends j.edges) c.had.edges) (strung (edge_record (j.ends ++ more) (j.edges ++ more')) c.had.edges)
              (strung (fixed_record j.fixed) c.had.fixed) (edge_record (j.ends ++ more) (j.edges ++ more') c.had.edges)
              (edges_before c.had.edges j.ends more j.edges more' a.ends a.edges)
              (strung_none (fixed_record j.fixed) c.had.fixed f0);
        }

    along_fixed : c.last ≤ 4 → c.had.fixed < room.fixed → c.at + 4 + 4 ≤ length s → kind_at s c.at ≡ 4 → length_at s c.at ≡ 4
        → Along room s (cursor_at (c.at + 4 + 4) 4 c.had.poses c.had.edges (suc c.had.fixed))
        (job_with j.settings j.poses j.ends j.edges (j.fixed ++ values_at 4 1 s (c.at + 4)))
    unfolding strung
    along_fixed m free h k l =
        record {
          before = λ e. absurd (omega arith);
          settings = λ q. a.settings some;
          opened = λ q. a.opened some;
          poses = a.poses;
          ends = a.ends;
          edges = a.edges;
          fixed = length_more j.fixed 4 1 (c.at + 4) c.had.fixed s a.fixed ∙ omega arith;
          no_poses = λ q. absurd (omega arith);
          no_edges = λ q. absurd (omega arith);
          no_fixed = λ q. absurd (omega arith);
          last = omega arith;
          poses_fit = a.poses_fit;
          edges_fit = a.edges_fit;
          fixed_fit = free;
          bytes = λ b q.
              let more = values_at 4 1 s (c.at + 4) in
              passed s b c.at 4 4 (bytes_from 4 1 (j.fixed ++ more) c.had.fixed) (records_of c.had j) h k l
              (numbers_back s b 4 1 (c.at + 4) c.had.fixed j.fixed a.fixed h) (a.bytes b some)
              ∙ behind_fixeds (settings_record j.settings) (strung (pose_record j.poses) c.had.poses)
              (strung (edge_record j.ends j.edges) c.had.edges) (strung (fixed_record j.fixed) c.had.fixed)
              (strung (fixed_record (j.fixed ++ more)) c.had.fixed) (fixed_record (j.fixed ++ more) c.had.fixed)
              (fixed_before c.had.fixed j.fixed more a.fixed);
        }

  along_to : {c' d : Cursor} {i i' : Job} → d ≡ c' → i ≡ i' → Along room s c' i' → Along room s d i
  along_to {c'} {d} {i} {i'} x y a = subst (λ (z : Cursor). Along room s z i) (sym x) (subst (λ (z : Job). Along room s c' z) (sym y) a)

  pub along_on : (c d : Cursor) (j : Job) → Along room s c j → record_step room s c ≡ Ok (Some d) → Along room s d (holding s c.at j)
  along_on c d j a e =
      let w = went_on room s c d e in
      let h = fault_free room s c w.fine in
      go w h h.kind
    where
      go : WentOn room s c d → FaultFree room s c → Kind (kind_at s c.at) (length_at s c.at) → Along room s d (holding s c.at j)
      go w h (of-settings k l) =
          let b = a.before (first c.last (kind_at s c.at) h.follows k) in
          let y : c.at ≡ 0 = ap (λ (z : Cursor). z.at) b.0 in
          let k0 : kind_at s 0 ≡ 1 = subst (λ (z : ℕ). kind_at s z ≡ 1) y k in
          let l0 : length_at s 0 ≡ 16 = subst (λ (z : ℕ). length_at s z ≡ 16) y l in
          let x = h.whole in
          let x0 : 0 + 4 + 16 ≤ length s = omega arith in
          along_to (w.is ∙ ap (behind s) b.0 ∙ behind_settings s k0 l0)
          (ap (λ (z : ℕ). holding s z j) y ∙ ap (holding s 0) b.1 ∙ holding_settings s k0)
          (along_settings k0 l0 x0)
      go w h (of-pose k l) =
          let r = rises c.last (kind_at s c.at) h.follows (λ q. omega arith) in
          let x = h.whole in
          along_to (w.is ∙ behind_pose s c k l) (holding_pose s c.at j k)
          (along_pose c j a r.0 (omega arith) (room_for_pose room c.had (kind_at s c.at) h.room_left k) (omega arith) k l)
      go w h (of-edge k l) =
          let r = rises c.last (kind_at s c.at) h.follows (λ q. omega arith) in
          let x = h.whole in
          along_to (w.is ∙ behind_edge s c k l) (holding_edge s c.at j k)
          (along_edge c j a r.0 (omega arith) (room_for_edge room c.had (kind_at s c.at) h.room_left k) (omega arith) k l)
      go w h (of-fixed k l) =
          let r = rises c.last (kind_at s c.at) h.follows (λ q. omega arith) in
          let x = h.whole in
          along_to (w.is ∙ behind_fixed s c k l) (holding_fixed s c.at j k)
          (along_fixed c j a r.0 (omega arith) (room_for_fixed room c.had (kind_at s c.at) h.room_left k) (omega arith) k l)
      go w h (of_end k l) = absurd (w.no_end k)

  -- wherever reading comes to
  pub comes_along : {c : Cursor} {j : Job} → Comes room s c j → Along room s c j
  comes_along begins = along_start room s
  comes_along (passes {c = c} {d = d} {j = j} w e) = along_on c d j (comes_along w) e
