-- The code counts free poses in an array of 256, the table over the poses: where rows 1 to 11 pass the two agree; and where 12 and 13 pass too the labels
-- tell the loose poses. So the answers are equal. Assumes nothing.
use Prim.Native.Nat.{ℕ, ◌*◌, ◌/◌, ◌<◌, ◌≤◌}
use native.Mathlib.Omega.{arith}
use Rattle.std.specs.Prelude.{Err, Ok, Result}
use mathlib.Core.Path.{◌≡◌, refl, sym, ap, ◌∙◌}
use mathlib.Core.Bool.{Bool}
use mathlib.Core.List.{List, []}
use lib.ListN.{length, take}
use lib.Dec.{eqb, ltb}
use borrow.Author.Tests.{ltb-false}
use Rattle.numbers.specs.Walks.{count, table}
use Rattle.numbers.specs.Refusals.{or_else, ask, lowest, read, verdict, Verdict}
use Rattle.numbers.specs.declared.Refusal.{Refusal}
use Rattle.checks.specs.declared.Counts.{Counts}
use Rattle.checks.specs.declared.Checks.{Checks}
use Rattle.graph.specs.Graph.{is_free, free_count}
use Rattle.graph.specs.Lent.{dof_of}
use Rattle.checks.specs.Input.{Input, graph_of, lent_graph, lent, unset}
use Rattle.checks.specs.Islands.{weighs, is_loose}
use Rattle.checks.specs.Labels.{label_of, label_faults, Merges, Labelled}
use Rattle.checks.specs.Table.{island_faults, graph_rows, counts_of, checked_by, block_number, Numbered, blocks_of}
use Rattle.checks.specs.Table.{graph_answer, settings_answer, graph_checks, checks}
use Rattle.rows.specs.declared.Settings.{Settings}
use Rattle.rows.specs.Tests.{too_many, short_work, setting_rows}
use Rattle.numbers.proofs.Tests.{neither_first}
use Rattle.numbers.proofs.Reading.{refused_not_fine, ask_fine, row_at}
use Rattle.numbers.proofs.Speaking.{lowest_ext}
use Rattle.checks.proofs.Free.{Ends, ends_in, within}
use Rattle.checks.proofs.Loose.{loose_island}

-- rows 12 and 13 after a verdict, with a free count
abbrev pub free_said : Verdict → ℕ → Verdict
free_said v free = or_else (or_else v (ask (eqb free 0) 12 0)) (ask (ltb 64 free) 13 0)

-- then 26, as something says it, and 14; and the answer
abbrev pub answer : Input → Verdict → ℕ → Verdict → Result Counts Refusal
answer i v free loose =
    checked_by
    (or_else (or_else (free_said v free) loose)
    (ask (short_work (dof_of i.manifold * free) (length i.poses / 12) i.room.work32 i.room.work64) 14 0))
    (record { poses = length i.poses / 12; edges = length i.ends / 2; free = free })

-- ---- one row after the other

module _ (v : Verdict) (free : ℕ) (e : v ≡ Ok tt) where
  pub said_12 : {r : Refusal} → ask (eqb free 0) 12 0 ≡ Err r → free_said v free ≡ Err r
  said_12 h = rw (e, h)

  pub said_13 : {w : Verdict} → ask (eqb free 0) 12 0 ≡ Ok tt → ask (ltb 64 free) 13 0 ≡ w → free_said v free ≡ w
  said_13 h k = rw (e, h) k

module _ (i : Input) (v : Verdict) (free : ℕ) (loose : Verdict) where
  pub answer_13 : {r : Refusal} → free_said v free ≡ Err r → answer i v free loose ≡ Err r
  answer_13 e = rw e

  pub answer_26 : {r : Refusal} → free_said v free ≡ Ok tt → loose ≡ Err r → answer i v free loose ≡ Err r
  answer_26 e h = rw (e, h)

  pub answer_14 : {w : Verdict} → free_said v free ≡ Ok tt → loose ≡ Ok tt
      → ask (short_work (dof_of i.manifold * free) (length i.poses / 12) i.room.work32 i.room.work64) 14 0 ≡ w
      → answer i v free loose ≡ checked_by w (record { poses = length i.poses / 12; edges = length i.ends / 2; free = free })
  answer_14 e h k = rw (e, h, k)

-- ---- the numbers that the code has are the table's

module _ (i : Input) (e : verdict (take 8 (graph_rows i)) ≡ Ok tt) where
  few : (graph_of i).poses ≤ 256
  unfolding too_many
  few = ltb-false 256 (graph_of i).poses (neither_first _ _ (ask_fine _ 3 0 (row_at (Ok tt) (take 8 (graph_rows i)) 2 e)))

  inside : (k : ℕ) → k < (graph_of i).edges → Ends (graph_of i) k
  inside = ends_in (graph_of i) (row_at (Ok tt) (take 8 (graph_rows i)) 6 e)

  free_agrees : count (is_free (graph_of i)) 256 ≡ free_count (graph_of i)
  free_agrees = within (graph_of i) 256 few inside

  islands_agree : (blocks labels : List ℕ) → blocks ≡ blocks_of i → Merges (graph_of i) (graph_of i).edges (label_of blocks) (label_of labels)
      → lowest (label_faults labels) (graph_of i).poses ≡ lowest (island_faults (graph_of i)) (graph_of i).poses
  islands_agree blocks labels h m = lowest_ext 26 _ (is_loose (graph_of i)) (graph_of i).poses (loose_island (graph_of i) few inside blocks labels h m)

or_same : (v s t : Verdict) → (v ≡ Ok tt → s ≡ t) → or_else v s ≡ or_else v t
or_same (Ok _) s t h = h refl
or_same (Err r) s t h = refl

-- what row 26 says counts only where nothing was said before
same_answer : (i : Input) (v : Verdict) (m n : ℕ) (s t : Verdict) → (v ≡ Ok tt → m ≡ n) → (v ≡ Ok tt → free_said v m ≡ Ok tt → s ≡ t)
    → answer i v m s ≡ answer i v n t
same_answer i (Ok _) m n s t h k = rw (or_same (free_said (Ok tt) m) s t (k refl)) (ap (λ (f : ℕ). answer i (Ok tt) f t) (h refl))
same_answer i (Err r) m n s t h k = refl

pub answers : (i : Input) (free : ℕ) (blocks labels : List ℕ) → free ≡ count (is_free (graph_of i)) 256 → blocks ≡ blocks_of i
    → (free_said (verdict (take 8 (graph_rows i))) free ≡ Ok tt → Merges (graph_of i) (graph_of i).edges (label_of blocks) (label_of labels))
    → answer i (verdict (take 8 (graph_rows i))) free (lowest (label_faults labels) (graph_of i).poses) ≡ checked_by (verdict (graph_rows i)) (counts_of i)
answers i free blocks labels f h m =
    same_answer i (verdict (take 8 (graph_rows i))) _ _ _ (lowest (island_faults (graph_of i)) (graph_of i).poses)
    (λ e. f ∙ free_agrees i e)
    (λ e s. islands_agree i e blocks labels h (m s))

-- ---- who is free depends on the ends and the fixed list alone
free_alone : (i : Input) → is_free (lent_graph [] i.ends [] i.fixed) ≡ is_free (graph_of i)
unfolding is_free
free_alone i = refl

blocks_alone : (i : Input) → block_number (lent_graph [] i.ends [] i.fixed) ≡ block_number (graph_of i)
unfolding block_number is_free
blocks_alone i = refl

-- labels depend on the ends and the weights alone
labels_alone : (i : Input) (old new : List ℕ) → Labelled i.ends i.edges old new → Merges (graph_of i) (graph_of i).edges (label_of old) (label_of new)
unfolding weighs
labels_alone i old new m = record { same = m.same; ends = m.ends; least = m.least }

pub blocks_same : (i : Input) (l : List ℕ) (free : ℕ) → Numbered i.ends i.fixed l free → l ≡ blocks_of i
blocks_same i l free n = n.0 ∙ ap (λ (t : ℕ → ℕ). table t 256) (blocks_alone i)

-- ---- rows 1 to 14 and 26, as the code comes by them

pub graph_answered : (i : Input) (free : ℕ) (l labels : List ℕ) → Numbered i.ends i.fixed l free
    → (free_said (verdict (take 8 (graph_rows i))) free ≡ Ok tt → Labelled i.ends i.edges l labels)
    → answer i (verdict (take 8 (graph_rows i))) free (lowest (label_faults labels) (graph_of i).poses) ≡ graph_answer i
graph_answered i free l labels n m =
    let f : free ≡ count (is_free (graph_of i)) 256 = n.1 ∙ ap (λ (t : ℕ → Bool). count t 256) (free_alone i) in
    answers i free l labels f (blocks_same i l free n) (λ s. labels_alone i l labels (m s))

-- what rows 1 to 13 say is the answer
pub said_early : (i : Input) (free : ℕ) (l : List ℕ) {r : Refusal} → Numbered i.ends i.fixed l free
    → free_said (verdict (take 8 (graph_rows i))) free ≡ Err r → Err r ≡ graph_answer i
said_early i free l {r} n e =
    let h = graph_answered i free l [] n (λ s. absurd (refused_not_fine (sym e ∙ s))) in
    sym (answer_13 i (verdict (take 8 (graph_rows i))) free _ e) ∙ h

-- ---- the settings come last

-- the graph's checks look at no settings
pub settings_alone : (i : Input) → graph_checks (lent i.manifold i.poses i.ends i.edges i.fixed unset i.room) ≡ graph_checks i
unfolding graph_checks
settings_alone i = refl

pub settle_turned : (v : Verdict) (n : Counts) (r : Refusal) → checked_by v n ≡ Err r → v ≡ Err r
settle_turned (Ok _) n r e = let z : ◌≡◌ {A = ℕ} 0 1 = cc in absurd (omega arith)
settle_turned (Err q) n r e = cc

pub settle_fit : (v : Verdict) (n m : Counts) → checked_by v n ≡ Ok m → (v ≡ Ok tt) × (n ≡ m)
settle_fit (Ok _) n m e = (refl, cc)
settle_fit (Err q) n m e = let z : ◌≡◌ {A = ℕ} 0 1 = cc in absurd (omega arith)

settled : (v : Verdict) (n : Counts) (s : Settings) → settings_answer (checked_by v n) s ≡ checked_by (read v (setting_rows s)) n
settled (Ok _) n s = refl
settled (Err r) n s = refl

pub checked_all : (i : Input) → ◌≡◌ {A = Checks} (record { answer = settings_answer (graph_answer i) i.settings; blocks = blocks_of i }) (checks i)
unfolding checks
checked_all i =
    ap (λ (x : Result Counts Refusal). record { answer = x; blocks = blocks_of i }) (settled (verdict (graph_rows i)) (counts_of i) i.settings)
