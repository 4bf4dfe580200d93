-- What is written is read back the same, by every reader that has room for it; so two jobs with the same bytes are one job. Assumes nothing.
use Prim.Native.Nat.{ℕ, zero, suc, ◌+◌, ◌*◌, ◌^◌, ◌≤◌, ◌<◌}
use native.Mathlib.Omega.{arith}
use native.Mathlib.Nat.{add-zero}
use mathlib.Core.Path.{◌≡◌, refl, sym, ap, subst, ◌∙◌}
use mathlib.Core.Bool.{true, false}
use mathlib.Core.List.{List, [], ◌∷◌, ◌++◌, append_assoc, append-nil}
use borrow.Author.Tests.{le-ltb, le-leb, lt-leb, ne_eqb}
use lib.Dec.{lit<}
use lib.ListN.{length, get_or, take, length-append}
use lib.Seq.{take-suc, take_all}
use Rattle.numbers.specs.Notation.{if_then}
use Rattle.numbers.specs.Walks.{table, strung}
use Rattle.job_records.specs.declared.Tally.{Tally}
use Rattle.job_records.specs.declared.Cursor.{Cursor}
use Rattle.job_records.specs.Bytes.{values_at, bytes_from}
use Rattle.job.specs.Format.{Job, empty_job, tally_of, settings_record, pose_record, edge_record, fixed_record, end_record, encoded}
use Rattle.job_records.specs.Records.{kind_at, is_record, may_follow, is_full, fault_of, counted, step_from, record_step}
use Rattle.job.specs.Format.{first_cursor, holding, taken, reading}
use Rattle.job.proofs.Pasting.{length_strung}
use Rattle.job.proofs.Stepping.{CursorIn, from, from_start, from_on, from_done, cursor_start}
use Rattle.job.proofs.Encoding.{length_bytes_from, length_record_of, length_settings_record, length_pose_record, length_edge_record, length_fixed_record}
use Rattle.job.proofs.Bytewise.{Bytes}
use Rattle.job.proofs.Trips.{Wide, read_wide, read_settings, read_lengths, read_tally}
use Rattle.job.proofs.Standing.{Stands, stands_whole, moved, stands_first, stands_second, stands_each, values_stand}
use Rattle.job.proofs.Standing.{Header, body_stands, header_stands}
use Rattle.std.specs.Prelude.{Some, None, Ok}

-- a job whose numbers fit: four settings, whole poses and edges, each number within its width
pub record JobFits (j : Job) : Type 0 where
  pub four : length j.settings ≡ 4
  pub poses_whole : length j.poses ≡ 12 * (tally_of j).poses
  pub ends_whole : length j.ends ≡ 2 * (tally_of j).edges
  pub edges_whole : length j.edges ≡ 8 * (tally_of j).edges
  pub wide : Wide j

-- ---- lengths

length_edge_body : (ends edges : List ℕ) (i : ℕ) → length (bytes_from 4 2 ends (2 * i) ++ bytes_from 4 8 edges (8 * i)) ≡ 40
length_edge_body ends edges i =
    length-append (bytes_from 4 2 ends (2 * i)) (bytes_from 4 8 edges (8 * i))
    ∙ omega (arith, length_bytes_from 4 2 ends (2 * i), length_bytes_from 4 8 edges (8 * i))

-- the first numbers of a list, and so many behind them
more_taken : (l : List ℕ) (a n : ℕ) → a + n ≤ length l → take a l ++ table (λ k. get_or l (a + k) 0) n ≡ take (a + n) l
unfolding table
more_taken l a zero h = append-nil (take a l) ∙ ap (λ (k : ℕ). take k l) (sym (add-zero a))
more_taken l a (suc n) h =
    let z : suc (a + n) ≡ a + suc n = omega arith in
    sym (append_assoc (take a l) (table (λ k. get_or l (a + k) 0) n) (get_or l (a + n) 0 ∷ []))
    ∙ ap (λ (x : List ℕ). x ++ (get_or l (a + n) 0 ∷ [])) (more_taken l a n (omega arith))
    ∙ sym (take-suc l (a + n) 0 (omega arith))
    ∙ ap (λ (k : ℕ). take k l) z

-- ---- a step over a record that stands at a cursor

may_follow_lem : (last kind : ℕ) → 0 < last → last ≤ kind → 1 < kind → may_follow last kind ≡ true
unfolding may_follow if_then
may_follow_lem last kind h l k = simp (ne_eqb last 0 (λ q. omega arith), ne_eqb kind 1 (λ q. omega arith), le-leb last kind l)

module _ (room : Tally) (s : List ℕ) (c : Cursor) where
  no_fault : (kind len : ℕ) → Header s c.at kind len → is_record kind len ≡ true → may_follow c.last kind ≡ true → is_full room c.had kind ≡ false
      → fault_of room s c ≡ Ok tt
  unfolding fault_of
  no_fault kind len h r f l =
      let w = h.whole in
      simp (le-ltb (length s) (c.at + 4) (omega arith), h.length_is, h.kind_is, le-ltb (length s) (c.at + 4 + len) w, r, f, l)

  goes_on : (kind len : ℕ) → kind < 5 → Header s c.at kind len → is_record kind len ≡ true
      → may_follow c.last kind ≡ true → is_full room c.had kind ≡ false
      → record_step room s c ≡ Ok (Some (record { at = c.at + 4 + len; last = kind; had = counted kind c.had }))
  unfolding record_step if_then
  goes_on kind len u h r f l =
      ap (step_from s c) (no_fault kind len h r f l) ∙ simp (h.length_is, h.kind_is, ne_eqb kind 5 (λ q. omega arith))

  is_done : Header s c.at 5 0 → 0 < c.last → c.last ≤ 5 → length s ≡ c.at + 4 → record_step room s c ≡ Ok None
  unfolding record_step if_then is_record is_full
  is_done h u v e =
      ap (step_from s c) (no_fault 5 0 h refl (may_follow_lem c.last 5 u v (lit< tt)) refl)
      ∙ simp (h.kind_is, le-ltb (c.at + 4) (length s) (omega arith))

  turn : (d : Cursor) (j k : Job) (kind len : ℕ) → CursorIn s c → kind < 5 → Header s c.at kind len → is_record kind len ≡ true
      → may_follow c.last kind ≡ true → is_full room c.had kind ≡ false
      → record { at = c.at + 4 + len; last = kind; had = counted kind c.had } ≡ d → holding s c.at j ≡ k → from room s c j ≡ from room s d k
  turn d j k kind len i u h r f l x y =
      from_on room s c (record { at = c.at + 4 + len; last = kind; had = counted kind c.had }) j i (goes_on kind len u h r f l)
      ∙ ap (λ (z : Cursor). from room s z (holding s c.at j)) x
      ∙ ap (from room s d) y

-- ---- what a record of each kind adds

module _ (s : List ℕ) (at : ℕ) (j : Job) where
  holds_settings : kind_at s at ≡ 1 → (ns : List ℕ) → j.settings ++ values_at 4 4 s (at + 4) ≡ ns
      → holding s at j ≡ record { settings = ns; poses = j.poses; ends = j.ends; edges = j.edges; fixed = j.fixed }
  unfolding holding if_then
  holds_settings e ns x = simp (e, append-nil, x)

  holds_pose : kind_at s at ≡ 2 → (ns : List ℕ) → j.poses ++ values_at 8 12 s (at + 4) ≡ ns
      → holding s at j ≡ record { settings = j.settings; poses = ns; ends = j.ends; edges = j.edges; fixed = j.fixed }
  unfolding holding if_then
  holds_pose e ns x = simp (e, append-nil, x)

  holds_edge : kind_at s at ≡ 3 → (ns ms : List ℕ) → j.ends ++ values_at 4 2 s (at + 4) ≡ ns → j.edges ++ values_at 4 8 s (at + 12) ≡ ms
      → holding s at j ≡ record { settings = j.settings; poses = j.poses; ends = ns; edges = ms; fixed = j.fixed }
  unfolding holding if_then
  holds_edge e ns ms x y = simp (e, append-nil, x, y)

  holds_fixed : kind_at s at ≡ 4 → (ns : List ℕ) → j.fixed ++ values_at 4 1 s (at + 4) ≡ ns
      → holding s at j ≡ record { settings = j.settings; poses = j.poses; ends = j.ends; edges = j.edges; fixed = ns }
  unfolding holding if_then
  holds_fixed e ns x = simp (e, append-nil, x)

-- ---- the whole job. p, e and f are its poses, edges and fixed entries, s its bytes

-- behind the settings and so many records of each kind; `last` is the kind of the record before
abbrev now : ℕ → ℕ → ℕ → ℕ → Cursor
now i k m last = record { at = 20 + 100 * i + 44 * k + 8 * m; last = last; had = record { poses = i; edges = k; fixed = m } }

-- what they hold
abbrev firsts : Job → ℕ → ℕ → ℕ → Job
firsts j i k m =
    record {
      settings = j.settings;
      poses = take (12 * i) j.poses;
      ends = take (2 * k) j.ends;
      edges = take (8 * k) j.edges;
      fixed = take m j.fixed;
    }

cursor_is : (a b last i i' k k' m m' : ℕ) → a ≡ b → i ≡ i' → k ≡ k' → m ≡ m'
    → ◌≡◌ {A = Cursor} (record { at = a; last = last; had = record { poses = i; edges = k; fixed = m } })
    (record { at = b; last = last; had = record { poses = i'; edges = k'; fixed = m' } })
cursor_is a b last i i' k k' m m' x y z w = rw (x, y, z, w)

module _ (room : Tally) (j : Job) (p e f : ℕ) (s : List ℕ) where
  -- its parts as bytes
  abbrev settings_part : List ℕ
  settings_part = settings_record j.settings

  abbrev poses_part : List ℕ
  poses_part = strung (pose_record j.poses) p

  abbrev edges_part : List ℕ
  edges_part = strung (edge_record j.ends j.edges) e

  abbrev fixed_part : List ℕ
  fixed_part = strung (fixed_record j.fixed) f

  abbrev to_poses : List ℕ
  to_poses = settings_part ++ poses_part

  abbrev to_edges : List ℕ
  to_edges = to_poses ++ edges_part

  abbrev to_fixed : List ℕ
  to_fixed = to_edges ++ fixed_part

  length_to_poses : length to_poses ≡ 20 + 100 * p
  length_to_poses =
      length-append settings_part poses_part
      ∙ omega (arith, length_settings_record j.settings, length_strung (pose_record j.poses) 100 p (length_pose_record j.poses))

  length_to_edges : length to_edges ≡ 20 + 100 * p + 44 * e
  length_to_edges =
      length-append to_poses edges_part
      ∙ omega (arith, length_to_poses, length_strung (edge_record j.ends j.edges) 44 e (length_edge_record j.ends j.edges))

  length_to_fixed : length to_fixed ≡ 20 + 100 * p + 44 * e + 8 * f
  length_to_fixed =
      length-append to_edges fixed_part ∙ omega (arith, length_to_edges, length_strung (fixed_record j.fixed) 8 f (length_fixed_record j.fixed))

  module _ (is : s ≡ to_fixed ++ end_record) (four : length j.settings ≡ 4)
      (poses_whole : length j.poses ≡ 12 * p) (ends_whole : length j.ends ≡ 2 * e) (edges_whole : length j.edges ≡ 8 * e)
      (fixed-whole : length j.fixed ≡ f) (settings-wide : (k : ℕ) → get_or j.settings k 0 < 256 ^ 4) (poses-wide : (k : ℕ) → get_or j.poses k 0 < 256 ^ 8)
      (ends_wide : (k : ℕ) → get_or j.ends k 0 < 256 ^ 4) (edges-wide : (k : ℕ) → get_or j.edges k 0 < 256 ^ 4)
      (fixed-wide : (k : ℕ) → get_or j.fixed k 0 < 256 ^ 4)
      (poses_fit : p ≤ room.poses) (edges_fit : e ≤ room.edges) (fixed_fit : f ≤ room.fixed) where
    size : length s ≡ 24 + 100 * p + 44 * e + 8 * f
    size = ap length is ∙ length-append to_fixed end_record ∙ omega (arith, length_to_fixed, length_record_of 5 [])

    all_stands : Stands s 0 (to_fixed ++ end_record)
    all_stands = subst (Stands s 0) is (stands_whole s)

    to_fixed_stands : Stands s 0 to_fixed
    to_fixed_stands = stands_first to_fixed end_record all_stands

    to_edges_stands : Stands s 0 to_edges
    to_edges_stands = stands_first to_edges fixed_part to_fixed_stands

    to_poses_stands : Stands s 0 to_poses
    to_poses_stands = stands_first to_poses edges_part to_edges_stands

    pose_stands : (i : ℕ) → i < p → Stands s (20 + 100 * i + 44 * 0 + 8 * 0) (pose_record j.poses i)
    pose_stands i h =
        moved (omega arith) (stands_each (pose_record j.poses) 100 p i (length_pose_record j.poses) h
        (stands_second settings_part poses_part 20 (length_settings_record j.settings) to_poses_stands))

    edge_stands : (k : ℕ) → k < e → Stands s (20 + 100 * p + 44 * k + 8 * 0) (edge_record j.ends j.edges k)
    edge_stands k h =
        moved (omega arith) (stands_each (edge_record j.ends j.edges) 44 e k (length_edge_record j.ends j.edges) h
        (stands_second to_poses edges_part (20 + 100 * p) length_to_poses to_edges_stands))

    fixed_stands : (m : ℕ) → m < f → Stands s (20 + 100 * p + 44 * e + 8 * m) (fixed_record j.fixed m)
    fixed_stands m h =
        moved (omega arith) (stands_each (fixed_record j.fixed) 8 f m (length_fixed_record j.fixed) h
        (stands_second to_edges fixed_part (20 + 100 * p + 44 * e) length_to_edges to_fixed_stands))

    end_stands : Stands s (20 + 100 * p + 44 * e + 8 * f) end_record
    end_stands =
        moved (omega arith) (stands_second to_fixed end_record (20 + 100 * p + 44 * e + 8 * f) length_to_fixed all_stands)

    -- a turn over each kind of record
    settings_turn : from room s first_cursor empty_job ≡ from room s (now 0 0 0 1) (firsts j 0 0 0)
    unfolding is_record may_follow is_full if_then
    settings_turn =
        let body = bytes_from 4 4 j.settings 0 in
        let st : Stands s 0 settings_part = stands_first settings_part poses_part to_poses_stands in
        let h = header_stands 1 16 body (length_bytes_from 4 4 j.settings 0) (lit< tt) (lit< tt) st in
        turn room s first_cursor (now 0 0 0 1) empty_job (firsts j 0 0 0) 1 16 (cursor_start s) (lit< tt) h refl refl refl refl
        (holds_settings s 0 empty_job h.kind_is j.settings
        (values_stand 4 (λ k. get_or j.settings (0 + k) 0) 4 (λ k. settings-wide (0 + k)) (body_stands 1 body st)
        ∙ more_taken j.settings 0 4 (omega arith) ∙ take_all 4 j.settings (omega arith)))

    pose_turn : (i l : ℕ) → i < p → 0 < l → l ≤ 2 → from room s (now i 0 0 l) (firsts j i 0 0) ≡ from room s (now (suc i) 0 0 2) (firsts j (suc i) 0 0)
    unfolding is_record is_full if_then
    pose_turn i l q u v =
        let body = bytes_from 8 12 j.poses (12 * i) in
        let st = pose_stands i q in
        let h = header_stands 2 96 body (length_bytes_from 8 12 j.poses (12 * i)) (lit< tt) (lit< tt) st in
        let w = h.whole in
        let z : 12 * i + 12 ≡ 12 * suc i = omega arith in
        turn room s (now i 0 0 l) (now (suc i) 0 0 2) (firsts j i 0 0) (firsts j (suc i) 0 0) 2 96
        (omega arith, omega arith, omega arith, omega arith) (lit< tt) h refl (may_follow_lem l 2 u v (lit< tt))
        (simp (lt-leb room.poses i (omega arith)))
        (cursor_is _ _ 2 _ _ _ _ _ _ (omega arith) (omega arith) refl refl)
        (holds_pose s (20 + 100 * i + 44 * 0 + 8 * 0) (firsts j i 0 0) h.kind_is (take (12 * suc i) j.poses)
        (ap (λ (x : List ℕ). take (12 * i) j.poses ++ x)
        (values_stand 8 (λ k. get_or j.poses (12 * i + k) 0) 12 (λ k. poses-wide (12 * i + k)) (body_stands 2 body st))
        ∙ more_taken j.poses (12 * i) 12 (omega arith) ∙ ap (λ (x : ℕ). take x j.poses) z))

    edge_turn : (k l : ℕ) → k < e → 0 < l → l ≤ 3 → from room s (now p k 0 l) (firsts j p k 0) ≡ from room s (now p (suc k) 0 3) (firsts j p (suc k) 0)
    unfolding is_record is_full if_then
    edge_turn k l q u v =
        let ends = bytes_from 4 2 j.ends (2 * k) in
        let edges = bytes_from 4 8 j.edges (8 * k) in
        let st = edge_stands k q in
        let h = header_stands 3 40 (ends ++ edges) (length_edge_body j.ends j.edges k) (lit< tt) (lit< tt) st in
        let both = body_stands 3 (ends ++ edges) st in
        let w = h.whole in
        let y : 2 * k + 2 ≡ 2 * suc k = omega arith in
        let z : 8 * k + 8 ≡ 8 * suc k = omega arith in
        turn room s (now p k 0 l) (now p (suc k) 0 3) (firsts j p k 0) (firsts j p (suc k) 0) 3 40
        (omega arith, omega arith, omega arith, omega arith) (lit< tt) h refl (may_follow_lem l 3 u v (lit< tt))
        (simp (lt-leb room.edges k (omega arith)))
        (cursor_is _ _ 3 _ _ _ _ _ _ (omega arith) (omega arith) (omega arith) refl)
        (holds_edge s (20 + 100 * p + 44 * k + 8 * 0) (firsts j p k 0) h.kind_is (take (2 * suc k) j.ends) (take (8 * suc k) j.edges)
        (ap (λ (x : List ℕ). take (2 * k) j.ends ++ x)
        (values_stand 4 (λ i. get_or j.ends (2 * k + i) 0) 2 (λ i. ends_wide (2 * k + i)) (stands_first ends edges both))
        ∙ more_taken j.ends (2 * k) 2 (omega arith) ∙ ap (λ (x : ℕ). take x j.ends) y)
        (ap (λ (x : List ℕ). take (8 * k) j.edges ++ x)
        (values_stand 4 (λ i. get_or j.edges (8 * k + i) 0) 8 (λ i. edges-wide (8 * k + i))
        (moved (omega arith) (stands_second ends edges 8 (length_bytes_from 4 2 j.ends (2 * k)) both)))
        ∙ more_taken j.edges (8 * k) 8 (omega arith) ∙ ap (λ (x : ℕ). take x j.edges) z))

    fixed_turn : (m l : ℕ) → m < f → 0 < l → l ≤ 4 → from room s (now p e m l) (firsts j p e m) ≡ from room s (now p e (suc m) 4) (firsts j p e (suc m))
    unfolding is_record is_full if_then
    fixed_turn m l q u v =
        let body = bytes_from 4 1 j.fixed m in
        let st = fixed_stands m q in
        let h = header_stands 4 4 body (length_bytes_from 4 1 j.fixed m) (lit< tt) (lit< tt) st in
        let w = h.whole in
        let z : m + 1 ≡ suc m = omega arith in
        turn room s (now p e m l) (now p e (suc m) 4) (firsts j p e m) (firsts j p e (suc m)) 4 4
        (omega arith, omega arith, omega arith, omega arith) (lit< tt) h refl (may_follow_lem l 4 u v (lit< tt))
        (simp (lt-leb room.fixed m (omega arith)))
        (cursor_is _ _ 4 _ _ _ _ _ _ (omega arith) (omega arith) (omega arith) (omega arith))
        (holds_fixed s (20 + 100 * p + 44 * e + 8 * m) (firsts j p e m) h.kind_is (take (suc m) j.fixed)
        (ap (λ (x : List ℕ). take m j.fixed ++ x)
        (values_stand 4 (λ k. get_or j.fixed (m + k) 0) 1 (λ k. fixed-wide (m + k)) (body_stands 4 body st))
        ∙ more_taken j.fixed m 1 (omega arith) ∙ ap (λ (x : ℕ). take x j.fixed) z))

    -- all of each kind
    all_firsts : firsts j p e f ≡ j
    all_firsts =
        rw (
          take_all (12 * p) j.poses (omega arith),
          take_all (2 * e) j.ends (omega arith),
          take_all (8 * e) j.edges (omega arith),
          take_all f j.fixed (omega arith),
        )

    fixed_all : (n m l : ℕ) → m + n ≡ f → 0 < l → l ≤ 4 → from room s (now p e m l) (firsts j p e m) ≡ taken (record { poses = p; edges = e; fixed = f }) j
    fixed_all zero m l q u v =
        let z : m ≡ f = omega arith in
        rw z (from_done room s (now p e f l) (firsts j p e f)
        (is_done room s (now p e f l) (header_stands 5 0 [] refl (lit< tt) (lit< tt) end_stands) u (omega arith) (omega (arith, size)))
        ∙ ap (taken (record { poses = p; edges = e; fixed = f })) all_firsts)
    fixed_all (suc n) m l q u v = fixed_turn m l (omega arith) u v ∙ fixed_all n (suc m) 4 (omega arith) (lit< tt) (omega arith)

    edges_all : (n k l : ℕ) → k + n ≡ e → 0 < l → l ≤ 3 → from room s (now p k 0 l) (firsts j p k 0) ≡ taken (record { poses = p; edges = e; fixed = f }) j
    edges_all zero k l q u v =
        let z : k ≡ e = omega arith in
        rw z (fixed_all f 0 l (omega arith) u (omega arith))
    edges_all (suc n) k l q u v = edge_turn k l (omega arith) u v ∙ edges_all n (suc k) 3 (omega arith) (lit< tt) (omega arith)

    poses_all : (n i l : ℕ) → i + n ≡ p → 0 < l → l ≤ 2 → from room s (now i 0 0 l) (firsts j i 0 0) ≡ taken (record { poses = p; edges = e; fixed = f }) j
    poses_all zero i l q u v =
        let z : i ≡ p = omega arith in
        rw z (edges_all e 0 l (omega arith) u (omega arith))
    poses_all (suc n) i l q u v = pose_turn i l (omega arith) u v ∙ poses_all n (suc i) 2 (omega arith) (lit< tt) (omega arith)

    read_back : reading room s ≡ taken (record { poses = p; edges = e; fixed = f }) j
    read_back = from_start room s ∙ settings_turn ∙ poses_all p 0 1 (omega arith) (lit< tt) (omega arith)

pub written_read : (room : Tally) (j : Job) → JobFits j → (tally_of j).poses ≤ room.poses → (tally_of j).edges ≤ room.edges → (tally_of j).fixed ≤ room.fixed
    → reading room (encoded j) ≡ taken (tally_of j) j
unfolding encoded
written_read room j w a b c =
    read_back room j (tally_of j).poses (tally_of j).edges (tally_of j).fixed (encoded j) refl w.four w.poses_whole w.ends_whole w.edges_whole refl
    w.wide.settings w.wide.poses w.wide.ends w.wide.edges w.wide.fixed a b c

taken_job : (t t' : Tally) (j j' : Job) → taken t j ≡ taken t' j' → j ≡ j'
taken_job t t' j j' e = cc

pub same_bytes_same_job : (j j' : Job) → JobFits j → JobFits j' → encoded j ≡ encoded j' → j ≡ j'
same_bytes_same_job j j' w w' e =
    let t = tally_of j in
    let t' = tally_of j' in
    let room : Tally = record { poses = t.poses + t'.poses; edges = t.edges + t'.edges; fixed = t.fixed + t'.fixed } in
    taken_job t t' j j'
    (sym (written_read room j w (omega arith) (omega arith) (omega arith))
    ∙ ap (reading room) e ∙ written_read room j' w' (omega arith) (omega arith) (omega arith))

-- every job that is read is such a job
pub read_whole : (room : Tally) (s : List ℕ) (t : Tally) (j : Job) → Bytes s → reading room s ≡ taken t j → JobFits j
read_whole room s t j b e =
    let n = read_lengths room s t j e in
    let y = (read_tally room s t j e).0 in
    record {
      four = (read_settings room s t j e).1;
      poses_whole = n.0 ∙ ap (λ (x : Tally). 12 * x.poses) y;
      ends_whole = n.1 ∙ ap (λ (x : Tally). 2 * x.edges) y;
      edges_whole = n.2 ∙ ap (λ (x : Tally). 8 * x.edges) y;
      wide = read_wide room s t j b e;
    }
