-- An edge by its parts, each worked out once, the numbers of its transforms held as f64. `proofs/Linking` says that its residual is the one of
-- `Residuals`, with an end moved too. Definitions only.
use Rattle.exp_log.specs.Formats.{Twist}
use Rattle.residual.specs.declared.Linked.{Linked}
use Rattle.numbers.specs.declared.Failure.{Failure}
use Rattle.std.specs.Prelude.{Float, Err, Ok, Result}
use Rattle.std.specs.Float.Ieee.Scale.{finite}
use Rattle.numbers.specs.Notation.{if_then}
use Rattle.numbers.specs.declared.Failure.TheVariants.{Numerical}
use Rattle.rotations.specs.Rotation.{plus, minus, matrix_of, turned, conjugate, quat_product, wide, rounded_vec, rounded_quat, inverse}
use Rattle.exp_log.specs.LogParts.{log_turn, log_at}
use Rattle.rotations.specs.Formats.{Vec3, Mat3, Quat, Transform}
use Rattle.exp_log.specs.declared.LogTurn.{LogTurn}
use Rattle.pose_conversion.specs.Conversions.{valid_transform, converting}
use Rattle.graph.specs.declared.Edge.{Edge}
use Rattle.residual.specs.Residuals.{weighted_vec, weighted, six_if_finite}
use Rattle.residual.specs.declared.EdgeEndpoint.{EdgeEndpoint}
use Rattle.residual.specs.declared.EdgeEndpoint.TheVariants.{A, B}
use Rattle.residual.specs.declared.Link.{Link}
use Rattle.residual.specs.declared.Hinge.{Hinge}
use Rattle.exp_log.specs.declared.Both.{Both}

-- measured⁻¹, where the weight is finite and what was measured is valid
unfoldable pub undone_of : Edge → Result Transform Failure
undone_of e = if_then (finite e.weight) (converting (valid_transform e.measured) (λ m. Ok (inverse m)) Err) (Err Numerical)

-- ---- the residual of a link

-- the quaternion of measured⁻¹ · (b · a⁻¹)
unfoldable pub error_quat : Quat → Quat → Quat → Quat
error_quat undone to back = rounded_quat (quat_product undone (rounded_quat (quat_product to back)))

-- the translation of a product: v turned by the first one's matrix, and its translation t
unfoldable pub carried : Mat3 → Vec3 → Vec3 → Vec3
carried m v t = rounded_vec (plus (turned m v) t)

-- weight × log(measured⁻¹ · (b · a⁻¹))
unfoldable pub residual_in : Link → Result Twist Failure
residual_in l =
    let log = log_turn (error_quat (l.undone).q (l.to).q (l.back).q) in
    let between = carried l.to_matrix (l.back).t (l.to).t in
    six_if_finite (weighted l.weight (log_at log (carried l.undone_matrix between (l.undone).t)))

-- ---- a link where it can be had: measured⁻¹, then b, then a

abbrev pub link_of : Transform → Transform → Transform → Float → Link
link_of a b undone w =
    record {
      back = wide (inverse a);
      to = wide b;
      to_matrix = matrix_of (wide b).q;
      undone = wide undone;
      undone_matrix = matrix_of (wide undone).q;
      weight = w;
    }

abbrev pub tied_by : Link → Result Twist Failure → Result Linked Failure
tied_by l (Ok d) = Ok (record { link = l; six = d })
tied_by l (Err why) = Err why

unfoldable pub tied : Link → Result Linked Failure
tied l = tied_by l (residual_in l)

unfoldable pub link_from : Result Transform Failure → Result Transform Failure → Result Transform Failure → Float → Result Linked Failure
link_from a b undone w =
    converting undone
    (λ u. converting b
    (λ to. converting a
    (λ from. tied (link_of from to u w))
    Err) Err) Err

unfoldable pub linked_of : Result Transform Failure → Result Transform Failure → Edge → Result Linked Failure
linked_of a b e = link_from a b (undone_of e) e.weight

-- the residual in it
abbrev pub six_in : Result Linked Failure → Result Twist Failure
six_in (Ok x) = Ok x.six
six_in (Err why) = Err why

-- ---- an end moved

-- to another transform
abbrev pub end_at : Link → EdgeEndpoint → Transform → Link
end_at l A t =
    record { back = wide (inverse t); to = l.to; to_matrix = l.to_matrix; undone = l.undone; undone_matrix = l.undone_matrix; weight = l.weight }
end_at l B t =
    record { back = l.back; to = wide t; to_matrix = matrix_of (wide t).q; undone = l.undone; undone_matrix = l.undone_matrix; weight = l.weight }

-- what its quaternion gives, whatever its translation
unfoldable pub hinge_by : Float → Mat3 → LogTurn → Hinge
hinge_by w m k = record { matrix = m; log = k; rotation = weighted_vec w k.w }

unfoldable pub hinge_of : Link → EdgeEndpoint → Quat → Hinge
hinge_of l A q = let c = conjugate q in hinge_by l.weight (matrix_of c) (log_turn (error_quat (l.undone).q (l.to).q (rounded_quat c)))
hinge_of l B q = hinge_by l.weight (matrix_of q) (log_turn (error_quat (l.undone).q q (l.back).q))

unfoldable pub hinges_of : Link → EdgeEndpoint → Quat → Quat → Both Hinge
hinges_of l end p q = record { ahead = hinge_of l end p; behind = hinge_of l end q }

-- the translation of b · a⁻¹ with the end's translation at t
unfoldable pub between_at : Link → EdgeEndpoint → Hinge → Vec3 → Vec3
between_at l A h t = carried l.to_matrix (rounded_vec (minus (turned h.matrix t))) (l.to).t
between_at l B h t = carried h.matrix (l.back).t t

unfoldable pub between_of : Link → EdgeEndpoint → Both Hinge → Vec3 → Vec3 → Both Vec3
between_of l end h p q = record { ahead = between_at l end h.ahead p; behind = between_at l end h.behind q }

-- and the residual
unfoldable pub residual_at : Link → EdgeEndpoint → Hinge → Vec3 → Result Twist Failure
residual_at l end h t =
    let d = log_at h.log (carried l.undone_matrix (between_at l end h t) (l.undone).t) in
    six_if_finite (record { t = weighted_vec l.weight d.t; r = h.rotation })

unfoldable pub residuals_at : Link → EdgeEndpoint → Both Hinge → Vec3 → Vec3 → Both (Result Twist Failure)
residuals_at l end h p q = record { ahead = residual_at l end h.ahead p; behind = residual_at l end h.behind q }
