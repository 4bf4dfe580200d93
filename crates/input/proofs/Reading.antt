-- What a read puts behind what was read before is read after it. Assumes nothing.
use Rattle.std.proofs.Common.{◌≡◌, ℕ, ◌+◌, ◌≤◌, List, ◌++◌, length, take, drop, sym, ap, subst, ◌∙◌, take-add, take_at, drop_at}
use lib.Seq.{take-append-le}
use Rattle.std.specs.Prelude.{Option}
use Rattle.std.specs.Io.KnownBytes.{Consumes}
use Rattle.std.proofs.KnownBytes.{Consumes-trans}

pub reads_on : (a b c : Option (List ℕ)) (front part rest : List ℕ) (n m : ℕ) → length front ≡ n → m ≤ length part → Consumes a b front → Consumes b c (take m part)
    → Consumes a c (take (n + m) (front ++ (part ++ rest)))
reads_on a b c front part rest n m long fits before now =
    let whole = front ++ (part ++ rest) in
    let first : take n whole ≡ front = take_at front (part ++ rest) n long in
    let second : take m (drop n whole) ≡ take m part = ap (take m) (drop_at front (part ++ rest) n long) ∙ take-append-le m part rest fits in
    subst (Consumes a c) (sym (take-add n m whole ∙ ap (λ k. k ++ take m (drop n whole)) first ∙ ap (λ k. front ++ k) second)) (Consumes-trans a b c front (take m part) before now)
