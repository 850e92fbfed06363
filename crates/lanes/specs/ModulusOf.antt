-- The modulus of a prime, as the loops read it.
use Rattle.field.specs.declared.Prime.{Prime}
use Rattle.lanes.specs.Lanes.{Constants, Inverses}
use Rattle.lanes.specs.declared.Modulus.{Modulus}

-- m holds the prime's number and its reciprocal
pub record IsModulusOf (q : Prime) (m : Modulus) : Type 0 where
  pub constants : Constants q m.p
  pub inverses : Inverses q m.inverse
