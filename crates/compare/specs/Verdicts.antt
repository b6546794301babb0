-- What of a device that two trees have agrees on their boards, and what is the first that differs.
use Rattle.std.specs.Prelude.{◌≡◌, ◌≢◌}
use Rattle.compare.specs.declared.standing.Standing.{Standing}

-- sense, claims and record agree
pub record Same (old new : Standing) : Type 0 where
  pub sense : old.sense ≡ new.sense
  pub claims : old.claims ≡ new.claims
  pub row : old.row ≡ new.row

-- the sense agrees, and the claims do not
pub record OtherClaims (old new : Standing) : Type 0 where
  pub sense : old.sense ≡ new.sense
  pub claims : old.claims ≢ new.claims

-- sense and claims agree, and the record does not
pub record OtherRecord (old new : Standing) : Type 0 where
  pub sense : old.sense ≡ new.sense
  pub claims : old.claims ≡ new.claims
  pub row : old.row ≢ new.row
