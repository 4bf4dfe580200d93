-- What the reader answers, by what the scan said. Assumes nothing.
use Prim.Native.Nat.{ℕ, ◌≤◌}
use mathlib.Core.Path.{◌≡◌, refl, sym, ap, ◌∙◌}
use mathlib.Core.List.{List}
use lib.ListN.{length}
use Rattle.numbers.specs.declared.Refusal.{Refusal}
use Rattle.job_records.specs.declared.Tally.{Tally}
use Rattle.job.specs.declared.SettingBits.{SettingBits}
use Rattle.job_records.specs.Bytes.{values_at}
use Rattle.job.specs.Format.{Reading, taken, refused, reading, Space, space, room_in, settings_from, read_gives, read_into, scanned_as, IsTaken, filled_by}
use Rattle.job.proofs.Trips.{read_settings}
use Rattle.std.specs.Prelude.{Ok, Err}

whole : (x : Reading) (t : Tally) → Ok t ≡ scanned_as x → IsTaken x
whole (taken u j) t e = tt
whole (refused r) t e = cc

module _ (room : Tally) (s : List ℕ) (t : Tally) (e : Ok t ≡ scanned_as (reading room s)) where
  pub whole_taken : IsTaken (reading room s)
  whole_taken = whole (reading room s) t e

  pub settings_there : 20 ≤ length s
  settings_there = go (reading room s) refl e
    where
      go : (x : Reading) → reading room s ≡ x → Ok t ≡ scanned_as x → 20 ≤ length s
      go (taken u j) p q = (read_settings room s u j p).3
      go (refused r) p q = cc

module _ (room : Tally) (s : List ℕ) (l : Space) (i : room ≡ room_in l) where
  pub reads_refused : (r : Refusal) → Err r ≡ scanned_as (reading room s) → (Err r, l) ≡ read_into s l
  unfolding read_into
  reads_refused r e = go (reading room s) e ∙ ap (λ (x : Tally). read_gives l (reading x s)) i
    where
      go : (x : Reading) → Err r ≡ scanned_as x → (Err r, l) ≡ read_gives l x
      go (taken u j) q = cc
      go (refused r') q = let z : r ≡ r' = cc in ap (λ (x : Refusal). (Err x, l)) z

  pub reads_whole : (t : Tally) (b : SettingBits) (m : Space) → Ok t ≡ scanned_as (reading room s) → b ≡ settings_from (values_at 4 4 s 4)
      → m ≡ filled_by (reading room s) l → (Ok (b, t), m) ≡ read_into s l
  unfolding read_into
  reads_whole t b m e f g = go (reading room s) refl e g ∙ ap (λ (x : Tally). read_gives l (reading x s)) i
    where
      go : (x : Reading) → reading room s ≡ x → Ok t ≡ scanned_as x → m ≡ filled_by x l → (Ok (b, t), m) ≡ read_gives l x
      go (refused r) p q h = cc
      go (taken u j) p q h =
          let z : t ≡ u = cc in
          let y : b ≡ settings_from j.settings = f ∙ ap settings_from (sym (read_settings room s u j p).0) in
          rw (z, y, h)

-- with the lists as they ended
pub ended_as : {A : Type 0} {r : A} {a b c d a' b' c' d' : List ℕ} {x : A × Space} → a' ≡ a → b' ≡ b → c' ≡ c → d' ≡ d
    → (r, space a b c d) ≡ x → (r, space a' b' c' d') ≡ x
ended_as e f g h p = rw (e, f, g, h) p
