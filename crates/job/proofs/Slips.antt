-- What reading answers at small concrete jobs, computed: each law names a slip of the definition that it would not survive. Assumes nothing.
use Prim.Native.Nat.{ℕ, ◌*◌}
use mathlib.Core.Path.{◌≡◌, refl}
use mathlib.Core.Bool.{false}
use mathlib.Core.List.{List, [], ◌∷◌, ◌++◌}
use lib.ListN.{replicate}
use Rattle.numbers.specs.Notation.{if_then}
use Rattle.numbers.specs.Refusals.{refusal}
use Rattle.numbers.specs.Walks.{table, strung}
use Rattle.job_records.specs.declared.Tally.{Tally}
use Rattle.job_records.specs.Bytes.{value_at, bytes_of, bytes_from, pasted}
use Rattle.job_records.specs.Records.{is_record, may_follow, is_full, fault_of, record_step}
use Rattle.job.specs.Format.{Job, record_of, encoded, holding}
use Rattle.job.specs.Format.{Reading, taken, refused, read_from, reading, space, room_in, filled, read_into}
use Rattle.std.specs.Prelude.{Ok, Err}

-- reading, with all that it computes by
unfoldable computed : Tally → List ℕ → Reading
unfolding reading read_from record_step fault_of value_at table holding is_record may_follow is_full if_then bytes_of encoded strung
computed room s = reading room s

-- so many poses, edges and fixed entries
abbrev tally : ℕ → ℕ → ℕ → Tally
tally poses edges fixed = record { poses = poses; edges = edges; fixed = fixed }

-- a header alone, and records whose numbers are all zero
abbrev header : ℕ → ℕ → List ℕ
header len kind = bytes_of 2 len ++ bytes_of 2 kind

abbrev zeros : ℕ → ℕ → List ℕ
zeros kind len = record_of kind (replicate len 0)

abbrev settings : List ℕ
settings = zeros 1 16

abbrev pose : List ℕ
pose = zeros 2 96

abbrev edge : List ℕ
edge = zeros 3 40

abbrev fixed : List ℕ
fixed = zeros 4 4

abbrev end : List ℕ
end = zeros 5 0

-- what the zero records of a tally hold
abbrev zero_job : ℕ → ℕ → ℕ → Job
zero_job poses edges fixed =
    record {
      settings = replicate 4 0;
      poses = replicate (12 * poses) 0;
      ends = replicate (2 * edges) 0;
      edges = replicate (8 * edges) 0;
      fixed = replicate fixed 0;
    }

-- ---- a. no bytes are a cut header, not an empty job

nothing_is_cut_short : (room : Tally) → reading room [] ≡ refused (refusal 31 0)
unfolding computed
nothing_is_cut_short room = refl

three_bytes_are_cut_short : (room : Tally) (a b c : ℕ) → reading room (a ∷ b ∷ c ∷ []) ≡ refused (refusal 31 0)
unfolding computed
three_bytes_are_cut_short room a b c = refl

-- ---- b. the length is asked before the body

bad_length_before_cut_body : (room : Tally) → reading room (header 17 1) ≡ refused (refusal 30 0)
unfolding computed
bad_length_before_cut_body room = refl

one_byte_short : (room : Tally) → reading room (header 16 1 ++ replicate 15 0) ≡ refused (refusal 31 0)
unfolding computed
one_byte_short room = refl

-- ---- c. the end is asked for, and nothing may stand behind it

byte_after_end : (room : Tally) (b : ℕ) → reading room (settings ++ end ++ b ∷ []) ≡ refused (refusal 30 24)
unfolding computed
byte_after_end room b = refl

no_end : (room : Tally) → reading room settings ≡ refused (refusal 31 20)
unfolding computed
no_end room = refl

-- ---- d. an equal kind is taken, a falling one is not; settings come first, and once; there is no kind 0 and no kind 6

two_poses : reading (tally 2 0 0) (settings ++ pose ++ pose ++ end) ≡ taken (tally 2 0 0) (zero_job 2 0 0)
unfolding computed
two_poses = refl

two_fixed : reading (tally 0 0 2) (settings ++ fixed ++ fixed ++ end) ≡ taken (tally 0 0 2) (zero_job 0 0 2)
unfolding computed
two_fixed = refl

pose_after_edge : reading (tally 1 1 1) (settings ++ edge ++ pose ++ end) ≡ refused (refusal 30 64)
unfolding computed
pose_after_edge = refl

second_settings : (room : Tally) → reading room (settings ++ settings ++ end) ≡ refused (refusal 30 20)
unfolding computed
second_settings room = refl

pose_first : (room : Tally) → reading room (pose ++ end) ≡ refused (refusal 30 0)
unfolding computed
pose_first room = refl

end_first : (room : Tally) → reading room end ≡ refused (refusal 30 0)
unfolding computed
end_first room = refl

kind_six : (room : Tally) → reading room (settings ++ zeros 6 60 ++ end) ≡ refused (refusal 30 20)
unfolding computed
kind_six room = refl

kind_zero : (room : Tally) → reading room (zeros 0 0 ++ settings ++ end) ≡ refused (refusal 30 0)
unfolding computed
kind_zero room = refl

no_kind_zero : (len : ℕ) → is_record 0 len ≡ false
unfolding computed
no_kind_zero len = refl

no_kind_six : (len : ℕ) → is_record 6 len ≡ false
unfolding computed
no_kind_six len = refl

-- ---- e. room that is exactly full is taken, one more is not; a cut body speaks before it, and number 30 before both

exactly_full : reading (tally 1 1 1) (settings ++ pose ++ edge ++ fixed ++ end) ≡ taken (tally 1 1 1) (zero_job 1 1 1)
unfolding computed
exactly_full = refl

one_pose_too_many : reading (tally 1 1 1) (settings ++ pose ++ pose ++ end) ≡ refused (refusal 32 120)
unfolding computed
one_pose_too_many = refl

one_edge_too_many : reading (tally 1 1 1) (settings ++ edge ++ edge ++ end) ≡ refused (refusal 32 64)
unfolding computed
one_edge_too_many = refl

one_fixed_too_many : reading (tally 1 1 1) (settings ++ fixed ++ fixed ++ end) ≡ refused (refusal 32 28)
unfolding computed
one_fixed_too_many = refl

cut_body_before_too_many : reading (tally 0 0 0) (settings ++ header 96 2 ++ replicate 95 0) ≡ refused (refusal 31 20)
unfolding computed
cut_body_before_too_many = refl

bad_length_before_both : reading (tally 0 0 0) (settings ++ header 97 2) ≡ refused (refusal 30 20)
unfolding computed
bad_length_before_both = refl

bad_order_before_both : reading (tally 0 1 0) (settings ++ edge ++ header 96 2) ≡ refused (refusal 30 64)
unfolding computed
bad_order_before_both = refl

-- ---- f. an edge's numbers are not shifted, not into its ends nor by one

one_edge : Job
one_edge =
    record {
      settings = 30 ∷ 1 ∷ 2 ∷ 3 ∷ [];
      poses = [];
      ends = 1 ∷ 2 ∷ [];
      edges = 3 ∷ 4 ∷ 5 ∷ 6 ∷ 7 ∷ 8 ∷ 9 ∷ 10 ∷ [];
      fixed = [];
    }

edge_comes_back : reading (tally 0 1 0) (encoded one_edge) ≡ taken (tally 0 1 0) one_edge
unfolding computed one_edge
edge_comes_back = refl

-- ---- g. a float's bits are kept: two numbers that are not, with a payload, in a pose

one_pose : Job
one_pose =
    record {
      settings = 0xffffffff ∷ 0x7f800001 ∷ 0xffc00001 ∷ 0x80000000 ∷ [];
      poses = 0x7ff8000000000001 ∷ 0xfff0000000000001 ∷ 0x8000000000000000 ∷ replicate 9 0;
      ends = [];
      edges = [];
      fixed = [];
    }

bits_come_back : reading (tally 1 0 0) (encoded one_pose) ≡ taken (tally 1 0 0) one_pose
unfolding computed one_pose
bits_come_back = refl

-- ---- h. the low byte stands first, the length before the kind, the ends before the edge's numbers: the bytes themselves

-- a number below 256 as four bytes
abbrev word : ℕ → List ℕ
word x = x ∷ 0 ∷ 0 ∷ 0 ∷ []

edge_as_bytes : encoded one_edge
    ≡ (16 ∷ 0 ∷ 1 ∷ 0 ∷ []) ++ word 30 ++ word 1 ++ word 2 ++ word 3
    ++ (40 ∷ 0 ∷ 3 ∷ 0 ∷ []) ++ word 1 ++ word 2 ++ word 3 ++ word 4 ++ word 5 ++ word 6 ++ word 7 ++ word 8 ++ word 9 ++ word 10
    ++ (0 ∷ 0 ∷ 5 ∷ 0 ∷ [])
unfolding computed one_edge
edge_as_bytes = refl

low_byte_first : reading (tally 0 0 1)
    ((16 ∷ 0 ∷ 1 ∷ 0 ∷ []) ++ (1 ∷ 2 ∷ 3 ∷ 4 ∷ []) ++ word 5 ++ word 6 ++ word 7 ++ (4 ∷ 0 ∷ 4 ∷ 0 ∷ []) ++ (8 ∷ 9 ∷ 0 ∷ 0 ∷ []) ++ (0 ∷ 0 ∷ 5 ∷ 0 ∷ []))
    ≡ taken (tally 0 0 1) (record { settings = 0x04030201 ∷ 5 ∷ 6 ∷ 7 ∷ []; poses = []; ends = []; edges = []; fixed = 0x0908 ∷ [] })
unfolding computed
low_byte_first = refl

-- ---- i. the reader: room counts whole poses and whole edges of both lists; what stands behind what was read, and what is lent to a refused job, is as found

room_of_unfit_length : room_in (space (replicate 23 0) (replicate 5 0) (replicate 16 0) (replicate 3 0)) ≡ tally 1 2 3
room_of_unfit_length = refl

-- the settings in their order, the numbers in front, the rest as found
settings_in_order :
    read_into (record_of 1 (bytes_from 4 4 (5 ∷ 6 ∷ 7 ∷ 8 ∷ []) 0) ++ record_of 4 (bytes_of 4 9) ++ end) (space (1 ∷ []) (2 ∷ []) (3 ∷ []) (4 ∷ 4 ∷ []))
    ≡ (
      Ok (record { limit = 5; cost_tolerance = 6; gradient_tolerance = 7; damping = 8 }, tally 0 0 1),
      space (1 ∷ []) (2 ∷ []) (3 ∷ []) (9 ∷ 4 ∷ []),
    )
unfolding computed read_into filled pasted
settings_in_order = refl

refused_changes_nothing :
    read_into (settings ++ record_of 4 (bytes_of 4 9) ++ end ++ end) (space [] [] [] (4 ∷ 4 ∷ []))
    ≡ (Err (refusal 30 32), space [] [] [] (4 ∷ 4 ∷ []))
unfolding computed read_into
refused_changes_nothing = refl
