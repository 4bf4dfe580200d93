-- What is told of a job that was read, and of one that was written, from the reader's and the writer's answer. Assumes nothing.
use Rattle.job_records.specs.declared.Tally.{Tally}
use Rattle.job.specs.declared.SettingBits.{SettingBits}
use Rattle.numbers.specs.declared.Refusal.{Refusal}
use Rattle.std.specs.Prelude.{Err, Ok, Result}
use mathlib.Core.Path.{◌≡◌, refl, sym, ap, ◌∙◌}
use mathlib.Core.List.{List}
use Prim.Native.Nat.{ℕ}
use lib.ListN.{length}
use borrow.Author.Tests.{eq-eqb}
use Rattle.numbers.proofs.Choices.{taken}
use Rattle.slices.specs.Slices.{copied}
use Rattle.job.specs.Format.{Job, Space, read_into}
use Rattle.job.specs.Writer.{written_into}
use Rattle.telling.specs.Telling.{read_number, read_answer, written_number, written_two}
use Rattle.exports.specs.Jobs.{read_told, read_out, write_told, write_out}
use Rattle.slices.proofs.Laws.{copied_as}

pub read_long : (v : Result (SettingBits × Tally) Refusal) → length (read_answer v) ≡ 8
read_long (Ok (t, had)) = refl
read_long (Err r) = refl

pub written_long : (v : Result ℕ Refusal) → length (written_two v) ≡ 2
written_long (Ok n) = refl
written_long (Err r) = refl

pub read_told_lem : (s : List ℕ) (l : Space) (a : List ℕ) {k : Space} {v : Result (SettingBits × Tally) Refusal} {n : ℕ} {eight last : List ℕ}
    → length a ≡ 8 → (v, k) ≡ read_into s l → eight ≡ read_answer v → last ≡ copied eight a → n ≡ read_number v → (n, k, last) ≡ read_out s l a
unfolding read_out
read_told_lem s l a {v = v} h e t p q =
    taken _ (eq-eqb _ _ h) (rw (q, copied_as (read_answer v) a t (h ∙ sym (read_long v)) p) (ap read_told e))

pub written_told : (j : Job) (f a : List ℕ) {o : List ℕ} {v : Result ℕ Refusal} {n : ℕ} {two last : List ℕ}
    → length a ≡ 2 → (v, o) ≡ written_into j f → two ≡ written_two v → last ≡ copied two a → n ≡ written_number v → (n, o, last) ≡ write_out j f a
unfolding write_out
written_told j f a {v = v} h e t p q =
    taken _ (eq-eqb _ _ h) (rw (q, copied_as (written_two v) a t (h ∙ sym (written_long v)) p) (ap write_told e))
