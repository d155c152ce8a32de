-- The laws of a narrow field, from what its table holds. Assumes nothing.
use Rattle.std.proofs.Math.Logic.{∥∥₁_elim}
use Rattle.algebra.specs.Field.{FieldLaws}
use Rattle.algebra.proofs.LawsProp.{laws_prop}
use Rattle.field.specs.NarrowModel.{narrow_of}
use Rattle.field.specs.declared.narrow.Narrow.{Narrow}

pub narrow_laws : (s : Narrow) → FieldLaws (narrow_of s)
narrow_laws s = ∥∥₁_elim s.lawful (laws_prop (narrow_of s)) (λ l. l)
