-- What the driver's loop keeps: the run over the events that are left. Assumes nothing.
use mathlib.Core.Path.{◌≡◌}
use mathlib.Core.List.{List, ◌∷◌}
use Prim.Native.Nat.{ℕ, ◌+◌, ◌≤◌, ◌<◌}
use native.Mathlib.Numerals.{add-one}
use lib.ListN.{length, drop, get_or, drop_of_length-le}
use lib.Seq.{drop-cons}
use lib.Ieee.{Float, nan}
use Rattle.numbers.proofs.Tables.{length_table, get_d_table}
use Rattle.events.specs.Driven.{after_event, settled, driven, event_of, events_of}
use Rattle.decisions.specs.declared.Next.{Next}

module _ (limit : ℕ) (tolerance : Float) (numbers : List ℕ) (prices : List Float) where
  many : length (events_of numbers prices) ≡ length numbers
  unfolding events_of
  many = length_table _ (length numbers)

  first : (i : ℕ) → i < length numbers → drop i (events_of numbers prices) ≡ event_of (get_or numbers i 0) (get_or prices i nan) ∷ drop (i + 1) (events_of numbers prices)
  unfolding events_of
  first i l = let h : i < length (events_of numbers prices) = rw many l in rw (add-one, drop-cons (events_of numbers prices) i (event_of 0 nan) h, get_d_table _ (length numbers) i (event_of 0 nan) l)

  -- one event more
  pub driven_more : (i : ℕ) (n : Next) → i < length numbers
      → driven limit tolerance n (drop i (events_of numbers prices)) ≡ driven limit tolerance (after_event limit tolerance (settled limit n) (event_of (get_or numbers i 0) (get_or prices i nan))) (drop (i + 1) (events_of numbers prices))
  unfolding driven
  driven_more i n l = rw (first i l)

  -- none left
  pub driven_end : (i : ℕ) (n : Next) → length numbers ≤ i → driven limit tolerance n (drop i (events_of numbers prices)) ≡ settled limit n
  unfolding driven
  driven_end i n l = let h : length (events_of numbers prices) ≤ i = rw many l in rw (drop_of_length-le (events_of numbers prices) h)
