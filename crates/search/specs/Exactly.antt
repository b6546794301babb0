-- Two statements that say the same.

-- where A holds B does, and where B holds A does
pub record Exactly (A B : Type 0) : Type 0 where
  pub only : A → B
  pub every : B → A
