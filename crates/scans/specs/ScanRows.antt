-- What a scan is turned down for before anything of it is built: rows 33 and 34 of document 02, Wish 2, in the form of the house's table. Definitions only.
use Rattle.std.specs.Prelude.{ℕ, ◌*◌, ◌/◌, ◌%◌, Bool, true, false, not, ◌||◌, List, [], ◌∷◌, eqb, ltb, length, None, Option, Some}
use Rattle.numbers.specs.Refusals.{Fault, fault, Row, row, placed}
use Rattle.scans.specs.Scans.{candidate_node, query_node}

-- fewer than two keyframes; poses not twelve a keyframe, loop ids not two a loop, loop poses not twelve a loop, the originals' length not that of poses
unfoldable pub unfit_scan : ℕ → ℕ → ℕ → ℕ → ℕ → Bool
unfit_scan ids poses loops loop_poses original =
    ltb ids 2
    || (not (eqb poses (12 * ids)) || (not (eqb (loops % 2) 0) || (not (eqb loop_poses (6 * loops)) || not (eqb original poses))))

abbrev pub is_absent : Option ℕ → Bool
is_absent (Some n) = false
is_absent None = true

-- row 34, loop by loop
abbrev pub loop_faults : List ℕ → List ℕ → List Fault
loop_faults ids loops =
    fault 34 (λ k. is_absent (candidate_node ids loops k) || is_absent (query_node ids loops k))
    ∷ []

abbrev pub scan_rows : List ℕ → ℕ → List ℕ → ℕ → ℕ → List Row
scan_rows ids poses loops loop_poses original =
    row 33 (unfit_scan (length ids) poses (length loops) loop_poses original)
    ∷ placed (length loops / 2) (loop_faults ids loops)
    ∷ []
