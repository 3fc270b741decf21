-- Two of a kind, for the left and the right part.
pub record Two (A : Type 0) : Type 0 where
  pub left : A
  pub right : A

abbrev pub two : {A : Type 0} → A → A → Two A
two left right = record { left = left; right = right }
